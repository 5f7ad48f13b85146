-- A value that has its column's type is stored as it is.
use Rattle.std.proofs.Common.{◌≡◌, inl, inr, ℕ, zero, suc, ◌+◌, List, [], ◌∷◌, drop, Bool, true}
use Rattle.std.proofs.Common.{false, ◌&&◌, cond, None, refl, sym, ap, ap₂, ◌∙◌, ℤ}
use Rattle.std.specs.List.{list_all}
use Rattle.std.specs.Prelude.{MatchBool, ◌==◌}
use Rattle.std.proofs.lemmas.Bool.{and_parts, cases_Bool, eqb-true}
use Rattle.std.proofs.lemmas.Bool.{MatchBool-at_true, MatchBool-at_false}
use Rattle.sqlite.specs.declared.types.Value.{Value}
use Rattle.sqlite.specs.declared.types.Value.TheVariants.{Null, Int, Text}
use Rattle.sqlite.specs.Order.{Row, column}
use Rattle.sqlite.specs.Table.{Table}
use Rattle.sqlite.specs.Term.{Term, lit, col, eval, eval_all}
use Rattle.sqlite_trees.specs.Tree.{rowid}
use Rattle.sqlite_trees.specs.View.{is_int}
use Rattle.sqlite_schema.specs.declared.schema.Kind.{Kind}
use Rattle.sqlite_schema.specs.declared.schema.Kind.TheVariants as kind
use Rattle.sqlite_schema.specs.declared.schema.Column.{Column}
use Rattle.sqlite_schema.specs.Rules.{is_of, suits, are_typed}
use Rattle.sqlite_rules.specs.Cast.{cast, cast_all, cast_row}
use Rattle.sqlite_rules.proofs.TableLemmas.{int_is}
use Rattle.reg_tables.specs.Selecting.{shows}
use Rattle.sqlite.specs.Ops.{unary}
use Rattle.sqlite.specs.Kind.TheVariants.{Integer}

either : (b : Bool) (x : Value) → cond b x x ≡ x
either true x = refl
either false x = refl

pub cast_null : cast Integer Null ≡ Null
unfolding unary
cast_null = either _ Null

pub cast_int : (n : ℤ) → cast Integer (Int n) ≡ Int n
unfolding unary
cast_int n = either _ (Int n)

-- a column of texts or of whole numbers
abbrev pub holds_texts_or_numbers : Kind → Bool
holds_texts_or_numbers kind.Integer = true
holds_texts_or_numbers kind.Text = true
holds_texts_or_numbers _ = false

abbrev pub is_simple : Column → Bool
is_simple c = c.is_strict && holds_texts_or_numbers c.kind

cast_typed : (k : Kind) (v : Value) → holds_texts_or_numbers k ≡ true → is_of k v ≡ true
    → cast k v ≡ v
cast_typed kind.Integer Null h typed = cast_null
cast_typed kind.Integer (Int n) h typed = cast_int n
cast_typed kind.Text Null h typed = refl
cast_typed kind.Text (Text t) h typed = refl
cast_typed _ _ h typed = cc

pub cast_suited : (c : Column) (v : Value) → is_simple c ≡ true → suits c v ≡ true
    → cast c.kind v ≡ v
cast_suited c v simple suited =
    let parts = and_parts c.is_strict (holds_texts_or_numbers c.kind) simple in
    cast_typed c.kind v parts.1 (rw parts.0 at suited)

-- the values from a place on suit the columns
abbrev Suit : (ℕ → Value) → ℕ → List Column → Type 0
Suit at place [] = Unit {0}
Suit at place (c ∷ cs) = (suits c (at place) ≡ true) × Suit at (suc place) cs

moved : (f g : ℕ → Value) → ((i : ℕ) → f (suc i) ≡ g i) → (place : ℕ) (cs : List Column)
    → Suit g place cs → Suit f (suc place) cs
moved f g same place [] h = tt
moved f g same place (c ∷ cs) h = (rw (same place) h.0, moved f g same (suc place) cs h.1)

nulls : (at : ℕ → Value) → ((i : ℕ) → at i ≡ Null) → (place : ℕ) (cs : List Column)
    → list_all is_simple cs ≡ true → Suit at place cs
nulls at none place [] simple = tt
nulls at none place (c ∷ cs) simple =
    let parts = and_parts (is_simple c) (list_all is_simple cs) simple in
    let strict = and_parts c.is_strict (holds_texts_or_numbers c.kind) parts.0 in
    (rw (none place, strict.0) refl, nulls at none (suc place) cs parts.1)

typed_suit : (cs : List Column) (vs : Row) (n : ℕ) → list_all is_simple cs ≡ true
    → are_typed None n cs vs ≡ true → Suit (column vs) 0 cs
typed_suit [] vs n simple typed = tt
typed_suit (c ∷ cs) [] n simple typed = nulls (column []) (λ i. refl) 0 (c ∷ cs) simple
typed_suit (c ∷ cs) (v ∷ vs) n simple typed =
    let parts = and_parts (suits c v) (are_typed None (n + 1) cs vs) typed in
    let more = typed_suit cs vs (n + 1) (and_parts (is_simple c) _ simple).1 parts.1 in
    (parts.0, moved (column (v ∷ vs)) (column vs) (λ i. refl) 0 cs more)

after_first : (row : Row) (i : ℕ) → column row (suc i) ≡ column (drop 1 row) i
after_first [] i = refl
after_first (v ∷ row) i = refl

-- the term reads the column itself, or a value that suits it, and the rest holds
abbrev IsGiven : Type 0 → ℕ → Column → Row → Term → Type 0
IsGiven rest place c params (lit v) = (suits c v ≡ true) × rest
IsGiven rest place c params (col zero at) = (suits c (column params at) ≡ true) × rest
IsGiven rest place c params (col (suc slot) at) = MatchBool ((slot == 0) && (at == place)) rest ⊥
IsGiven rest place c params _ = ⊥

-- Each of these columns, from a place on, is given its own value or one of its type.
-- It comes to a pair for each value that is given.
abbrev pub AreGiven : ℕ → List Column → Row → List Term → Type 0
AreGiven place [] params [] = Unit {0}
AreGiven place [] params (t ∷ ts) = ⊥
AreGiven place (c ∷ cs) params [] = ⊥
AreGiven place (c ∷ cs) params (t ∷ ts) =
    IsGiven (AreGiven (suc place) cs params ts) place c params t

module _ (params row : Row) where
  own_column : (rest : Type 0) (place slot at : ℕ) → MatchBool ((slot == 0) && (at == place)) rest ⊥
      → (slot ≡ 0) × (at ≡ place) × rest
  own_column rest place slot at h = elim (cases_Bool ((slot == 0) && (at == place))) [
    | inl same ↦
        let parts = and_parts (slot == 0) (at == place) same in
        (eqb-true slot 0 parts.0, eqb-true at place parts.1, MatchBool-at_true rest ⊥ same h)
    | inr other ↦ absurd (MatchBool-at_false rest ⊥ other h)
  ]

  given_suits : (rest : Type 0) (place : ℕ) (c : Column) (t : Term) → IsGiven rest place c params t
      → suits c (column row place) ≡ true
      → (suits c (eval t (params ∷ row ∷ [])) ≡ true) × rest
  given_suits rest place c (lit v) h kept = h
  given_suits rest place c (col zero at) h kept = h
  given_suits rest place c (col (suc slot) at) h kept =
      let own = own_column rest place slot at h in (rw (own.0, own.1) kept, own.2)
  given_suits rest place c _ h kept = absurd h

  cast_given : (place : ℕ) (cs : List Column) (ts : List Term) → list_all is_simple cs ≡ true
      → AreGiven place cs params ts → Suit (column row) place cs
      → cast_all cs (eval_all ts (params ∷ row ∷ [])) ≡ eval_all ts (params ∷ row ∷ [])
  cast_given place [] [] simple h kept = refl
  cast_given place [] (t ∷ ts) simple h kept = absurd h
  cast_given place (c ∷ cs) [] simple h kept = absurd h
  cast_given place (c ∷ cs) (t ∷ ts) simple h kept =
      let parts = and_parts _ _ simple in
      let own = given_suits (AreGiven (suc place) cs params ts) place c t h kept.0 in
      ap₂ ◌∷◌ (cast_suited c _ parts.0 own.0)
      (cast_given (suc place) cs ts parts.1 own.1 kept.1)

  -- a row that is typed, changed so, is stored as it is shown
  pub cast_shown : (table : Table) (project : List Term) → table.key ≡ None
      → list_all is_simple table.columns ≡ true → AreGiven 1 table.columns params project
      → is_int (rowid row) ≡ true → are_typed table.key 0 table.columns (drop 1 row) ≡ true
      → cast_row table (shows (col 1 0 ∷ project) params row) ≡ shows (col 1 0 ∷ project) params row
  cast_shown table project keyless simple given whole typed =
      let first : cast kind.Integer (rowid row) ≡ rowid row =
      ap (cast kind.Integer) (int_is _ whole) ∙ cast_int _ ∙ sym (int_is _ whole) in
      let suit = typed_suit table.columns (drop 1 row) 0 simple (rw keyless at typed) in
      let kept = moved (column row) (column (drop 1 row)) (after_first row) 0 table.columns suit in
      ap₂ ◌∷◌ first (cast_given 1 table.columns project simple given kept)
