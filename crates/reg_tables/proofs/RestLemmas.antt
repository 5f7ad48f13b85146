-- What a call leaves of a connection that was between two statements.
use Rattle.std.proofs.Common.{◌≡◌, ◌⊎◌, inl, inr, List, ℕ, [], Some, None, Option, Ok, Err, Result}
use Rattle.std.specs.Prelude.{IfOk}
use Rattle.std.proofs.Common.{sym, ap, subst, ◌∙◌, arith}
use Rattle.sqlite.specs.Order.{Row}
use Rattle.sqlite.specs.Tree.{Trees}
use Rattle.sqlite.specs.declared.error.Error.{Error}
use Rattle.sqlite.specs.Effect.{Database}
use Rattle.sqlite.specs.Given.{HasGiven, HasBegun, Returns}
use Rattle.sqlite.specs.Held.{Held, state}
use Rattle.sqlite.specs.Listing.{understood, reads_listing, IsSourceOf}
use Rattle.sqlite.specs.State.{State, IsUnchanged, IsRolledBack, Shown, ShowsRows}
use Rattle.sqlite.specs.State.{FailsToQuery, FailsToShow, IsNotRun, Survives}
use Rattle.sqlite.specs.Clock.{timed}
use Rattle.sqlite.proofs.Callers.{unchanged_then}
use Rattle.sqlite.specs.Schema.{Schema}
use Rattle.sqlite_resolve.specs.declared.compiled.Compiled.{Compiled}
use Rattle.sqlite_resolve.specs.declared.error.CompileError.{CompileError}
use Rattle.sqlite_schema.specs.declared.command.Returning.{Returning}
use Rattle.sqlite.specs.Store.{Ghosts}
use Rattle.reg_tables.specs.Connection.{Holds, Stays}
use Rattle.reg_tables.specs.Kinds.{IsQuery}
use Rattle.reg_tables.proofs.Library.Queries.{IsPlainly, understood_query}
use Rattle.reg_tables.specs.Lasting.{Lasts}

pub stays_then : (a b c : State) → Stays a b → Stays b c → Stays a c
stays_then a b c p q = record {
  worked = λ h. p.worked (q.worked h);
  unchanged = λ h. q.unchanged h ∙ p.unchanged (q.worked h);
}

-- the tables are an office's, as they were
pub stays_held : {old new : State} → Stays old new → Holds new → Holds old
stays_held stays h = record {
  works = stays.worked h.works;
  tables = ap (λ (d : Database). d.schema) (sym (stays.unchanged h.works)) ∙ h.tables;
}

pub stays_same : {old new : State} → Stays old new → Holds new → new.now ≡ old.now
stays_same stays h = stays.unchanged h.works

pub survives_lasts : (old new : State) (P : Trees → Type 0) → Survives old new P → Lasts old new
survives_lasts old new P s =
    record { clean = s.clean; counts = s.counts; closes = s.closes }

pub lasts_then : (a b c : State) → Lasts a b → Lasts b c → Lasts a c
lasts_then a b c p q = record {
  clean = omega (arith, p.clean, q.clean);
  counts = omega (arith, p.counts, q.counts);
  closes = λ clean open_before.
      elim (p.closes (omega (arith, q.clean, clean)) open_before) [
        | inl is_open ↦ elim (q.closes clean is_open) [
          | inl stays_open ↦ inl stays_open
          | inr more ↦ inr (omega (arith, p.counts, more))
        ]
        | inr more ↦ inr (omega (arith, q.counts, more))
      ];
}

module _ (sql : List ℕ) (asks : IsQuery sql) where
  -- a query is without RETURNING, whatever tables there are
  asked : (schema : Schema) (c : Compiled) → understood schema sql ≡ Ok c → c.returning ≡ None
  asked schema c is = (subst (λ r. IfOk r IsPlainly) is (understood_query sql asks schema)).0

  -- rows that are shown later are shown from the start
  pub shown_from : (params : Row) (a b c : State) (rows : List Row) → IsUnchanged a b
      → Shown sql params b c rows → Shown sql params a c rows
  unfolding Shown
  shown_from params a b c rows u h =
      let same = u.0.now_is in
      let is : understood a.now.schema sql ≡ Ok h.0 =
      subst (λ (d : Database). understood d.schema sql ≡ Ok h.0) same h.1.is in
      let none = asked a.now.schema h.0 is in
      let full = timed params h.0.formats h.1.now in
      let it = subst (ShowsRows b c sql h.0 full rows) none h.2 in
      let source =
      subst (λ (d : Database). IsSourceOf (reads_listing d.schema sql) d it.0) same it.1 in (
        h.0,
        record { is = is; whole = h.1.whole; given = h.1.given; now = h.1.now },
        subst (ShowsRows a c sql h.0 full rows) (sym none)
            (it.0, source, it.2, unchanged_then a b c u it.3),
      )

never_returns : (r : Result Compiled CompileError) → IfOk r IsPlainly → ¬ Returns r
never_returns (Ok c) plain some = absurd (let none = rw plain.0 at some in cc)
never_returns (Err e) plain some = absurd some

-- a query begins with no row, and changes nothing
pub begun_idle : {S : Type 0} (g : Ghosts S) (sql : List ℕ) (params : Row) (old new : Held S)
    → IsQuery sql → HasBegun g sql params old new
    → HasGiven g sql params new [] × IsUnchanged (state g old) (state g new)
begun_idle g sql params old new asks (inl h) = h
begun_idle g sql params old new asks (inr h) =
    absurd (never_returns _ (understood_query sql asks old.schema) h.0)

-- at the end of the rows they are the whole answer
pub whole_answer : {S : Type 0} (g : Ghosts S) (sql : List ℕ) (params : Row)
    (P : List Row → Type 0) (old now later end : Held S) (rows : List Row) → IsQuery sql
    → later ≡ end → IsUnchanged (state g old) (state g now)
    → IsUnchanged (state g now) (state g later)
    → Shown sql params (state g now) (state g later) rows → P rows
    → IsUnchanged (state g old) (state g end) × (rows : List Row)
    × Shown sql params (state g old) (state g end) rows × P rows
whole_answer g sql params P old now later end rows asks is same more shown p =
    let from = shown_from sql asks params (state g old) (state g now) (state g later) rows same
    shown in
    let all = unchanged_then (state g old) (state g now) (state g later) same more in (
      subst (λ h. IsUnchanged (state g old) (state g h)) is all,
      rows,
      subst (λ h. Shown sql params (state g old) (state g h) rows) is from,
      p,
    )

module _ (sql : List ℕ) (params : Row) (old new : State) where
  not_shown : (c : Compiled) (full : Row) (e : Error) (r : Option Returning)
      → FailsToShow old new sql c full e r → IsUnchanged old new ⊎ IsRolledBack old new
  not_shown c full e None f = inl f.3
  not_shown c full e (Some w) (inl f) = inl f.1
  not_shown c full e (Some w) (inr f) = inr f.3

  -- a query that is refused changes nothing, or undoes what was not committed
  pub refused_rests : (e : Error) → FailsToQuery sql params old new e
      → IsUnchanged old new ⊎ IsRolledBack old new
  unfolding FailsToQuery IsNotRun
  refused_rests e (inl (inl f)) = inl f.1
  refused_rests e (inl (inr f)) = inr f.3
  refused_rests e (inr f) = not_shown f.0 _ e f.0.returning f.2
