-- The rows of each table that is a part of the office by itself, as an audit is fed them.
use Rattle.std.specs.Prelude.{◌≡◌, ℕ, Bool, true, false, T, List, Option, Some, None, IsSome, is_some, nat_lt, option_map, refl}
use Rattle.std.specs.Fmt.{digits}
use Rattle.std.specs.FinMap.{FinMap, contains_key, empty, get}
use Rattle.std.proofs.Common.{[], ap, subst, sym, ◌∙◌}
use Rattle.sqlite.specs.Order.{Row as SqlRow}
use Rattle.reg_opening.specs.Rows.{is_markable, is_unminuted, lacks_minute}
use Rattle.reg_opening.specs.declared.row.Row.TheVariants as row
use Rattle.reg_core.specs.Entry.{with_hold}
use Rattle.reg_core.specs.World.{World, Place, RequestName, name_cmp, place_cmp}
use Rattle.reg_core.specs.declared.ask.Ask.{Ask}
use Rattle.reg_core.specs.declared.ask.Ask.TheVariants.{Block, Code, Early, Permanent, Renew}
use Rattle.reg_core.specs.declared.entry.Registration.{Registration}
use Rattle.reg_core.specs.declared.request.Case.{Case}
use Rattle.reg_core.specs.Minutes.{ask_with, is_renewal, with_minute}
use Rattle.reg_records.specs.Requests.Reading.{request_in}
use Rattle.reg_records.proofs.RequestLaws.Selected.{request_in_columns}
use Rattle.reg_tables.specs.Selecting.{shows, stored}
use Rattle.reg_tables.specs.Version.{end_of, table_count}
use Rattle.reg_tables.specs.declared.version.Version.{Version}
use Rattle.reg_tables.specs.declared.version.Version.TheVariants.{First, Second, Third, Fourth}
use Rattle.reg_statements.specs.Content.{AreBare, AreUnheld, marked, minuted}
use Rattle.reg_statements.specs.Office as office
use Rattle.reg_statements.specs.Parts.{TableDef}
use Rattle.reg_statements.specs.Tables.{Tables}
use Rattle.reg_statements.proofs.Marks.{get-marked, marked-add, marked-empty}
use Rattle.reg_statements.proofs.Minutes.{get-minuted, minuted-add, minuted-empty}
use Rattle.reg_statements.proofs.Bare.{entries_unheld, requests_bare}
use Rattle.reg_opening.specs.Feeding.{MakesPart, Untied}
use Rattle.reg_opening.specs.Numbered.{numbered_columns}
use Rattle.reg_opening.specs.Parts.{AreUnmarked, AreUnminuted, ExpiresIn, RenewsIn}

-- a key that is not in a set has no value there
none_there : {X : Type 0} (r : Option X) → is_some r ≡ false → r ≡ None
none_there None none = refl
none_there (Some x) none = absurd (subst T none tt)

-- each of these tables, fed row by row, makes its part of the world
pub caps : (t : Tables) → MakesPart office.caps.pair (λ x. row.Cap x.digest x.cap)
    (λ (w : World) m. record w { caps = m }) (λ w. w.caps ≡ empty) Untied
caps t = record {
  none = λ w h. ap (λ m. record w { caps = m }) (sym h);
  with = λ w m x. refl;
  free = λ w m x h new. (new, tt);
  new = λ w m x h none tied. none;
  turn = λ w m x h. tt;
}

pub entries : (t : Tables) → MakesPart office.entries.pair row.Entry
    (λ (w : World) m. record w { entries = m }) (λ w. (w.entries ≡ empty) × (w.requests ≡ empty)) Untied
entries t = record {
  none = λ w h. ap (λ m. record w { entries = m }) (sym h.0);
  with = λ w m x. refl;
  free = λ w m x h new. (new, tt);
  new = λ w m x h none tied. none;
  turn = λ w m x h. h.1;
}

pub pool : (t : Tables) → MakesPart office.pool.pair row.Prefix
    (λ (w : World) m. record w { pool = m }) (λ w. (w.pool ≡ empty) × (w.blocks ≡ empty)) Untied
pool t = record {
  none = λ w h. ap (λ m. record w { pool = m }) (sym h.0);
  with = λ w m x. refl;
  free = λ w m x h new. (none_there _ new, tt);
  new = λ w m x h none tied. ap is_some none;
  turn = λ w m x h. h.1;
}

pub blocks : (t : Tables) → MakesPart office.blocks.pair row.Block
    (λ (w : World) m. record w { blocks = m }) (λ w. (w.blocks ≡ empty) × (w.requests ≡ empty)) Untied
blocks t = record {
  none = λ w h. ap (λ m. record w { blocks = m }) (sym h.0);
  with = λ w m x. refl;
  free = λ w m x h new. (new, tt);
  new = λ w m x h none tied. none;
  turn = λ w m x h. h.1;
}

pub requests : (t : Tables) → MakesPart office.requests.pair row.Request
    (λ (w : World) m. record w { requests = m }) (λ w. (w.requests ≡ empty) × (w.queue ≡ empty)) Untied
requests t = record {
  none = λ w h. ap (λ m. record w { requests = m }) (sym h.0);
  with = λ w m x. refl;
  free = λ w m x h new. (new, tt);
  new = λ w m x h none tied. none;
  turn = λ w m x h. h.1;
}

pub queue : (t : Tables) → MakesPart office.queue.pair (λ x. row.Seat x.account x.reference x.expert)
    (λ (w : World) m. record w { queue = m }) (λ w. (w.queue ≡ empty) × (w.advice ≡ empty)) Untied
queue t = record {
  none = λ w h. ap (λ m. record w { queue = m }) (sym h.0);
  with = λ w m x. refl;
  free = λ w m x h new. (none_there _ new, tt);
  new = λ w m x h none tied. ap is_some none;
  turn = λ w m x h. h.1;
}

pub advice : (t : Tables) → MakesPart office.advice.pair (λ x. row.Advice x.seat.account x.seat.reference x.seat.expert x.advice)
    (λ (w : World) m. record w { advice = m }) (λ w. w.advice ≡ empty) Untied
advice t = record {
  none = λ w h. ap (λ m. record w { advice = m }) (sym h);
  with = λ w m x. refl;
  free = λ w m x h new. (new, tt);
  new = λ w m x h none tied. none;
  turn = λ w m x h. tt;
}

pub agents : (t : Tables) → MakesPart office.agents.pair (λ x. row.Link x.principal x.agent)
    (λ (w : World) m. record w { agents = m }) (λ w. w.agents ≡ empty) Untied
agents t = record {
  none = λ w h. ap (λ m. record w { agents = m }) (sym h);
  with = λ w m x. refl;
  free = λ w m x h new. (none_there _ new, tt);
  new = λ w m x h none tied. ap is_some none;
  turn = λ w m x h. tt;
}

-- ---- Marks

-- an entry beside a mark, or none, can be marked just where it expires and has none
can_mark : (held : Bool) (o : Option Registration)
    → is_markable (option_map (with_hold held) o) ≡ true
    → (held ≡ false) × (a : Registration) × (o ≡ Some a) × IsSome a.term.expires
can_mark held None h = absurd (subst T (sym h) tt)
can_mark true (Some a) h = absurd (subst T (sym h) tt)
can_mark false (Some a) h = (refl, a, refl, h)

module _ (t : Tables) (w : World) (m : FinMap place_cmp (Unit {0})) (place : Place)
    (are : AreUnmarked t w) where
  mark_free : is_markable (get (marked m w.entries) place) ≡ true
      → (get m place ≡ None) × ExpiresIn t place
  mark_free h =
      let can = can_mark (contains_key m place) (get w.entries place)
      (sym (ap is_markable (get-marked m w.entries place)) ∙ h) in (
        none_there (get m place) can.0,
        (can.1, sym (ap (λ entries. get entries place) are.entries) ∙ can.2, can.3),
      )

  mark_new : get m place ≡ None → ExpiresIn t place
      → is_markable (get (marked m w.entries) place) ≡ true
  mark_new none expires =
      ap is_markable (get-marked m w.entries place)
      ∙ (λ i. is_markable (option_map (with_hold (is_some (none i)))
      ((ap (λ entries. get entries place) are.entries ∙ expires.1) i)))
      ∙ expires.2

pub holds : (t : Tables) → MakesPart office.holds.pair (λ x. row.Hold x.registry x.value)
    (λ (w : World) m. record w { entries = marked m w.entries }) (AreUnmarked t) (ExpiresIn t)
holds t = record {
  none = λ w h. ap (λ entries. record w { entries = entries })
      (marked-empty w.entries (subst AreUnheld (sym h.entries) (entries_unheld t.entries)));
  with = λ w m x. ap (λ entries. record w { entries = entries })
      (sym (marked-add m w.entries (x.registry, x.value)));
  free = λ w m x h new. mark_free t w m (x.registry, x.value) h new;
  new = λ w m x h none tied. mark_new t w m (x.registry, x.value) h none tied;
  turn = λ w m x h. h.requests;
}

-- ---- Minutes

-- an ask beside a minute, or none, lacks one just where it is a renewal's and has none
lacks_one : (minute : Option (List ℕ)) (ask : Ask)
    → lacks_minute (ask_with minute ask) ≡ true
    → (minute ≡ None) × (is_renewal ask ≡ true)
lacks_one minute (Code ask) h = absurd (subst T (sym h) tt)
lacks_one minute (Early ask) h = absurd (subst T (sym h) tt)
lacks_one None (Renew ask) h = (refl, refl)
lacks_one (Some minute) (Renew ask) h = absurd (subst T (sym h) tt)
lacks_one minute (Permanent ask) h = absurd (subst T (sym h) tt)
lacks_one minute (Block ask) h = absurd (subst T (sym h) tt)

has_none : (ask : Ask) → is_renewal ask ≡ true → lacks_minute (ask_with None ask) ≡ true
has_none (Code ask) h = h
has_none (Early ask) h = h
has_none (Renew ask) h = refl
has_none (Permanent ask) h = h
has_none (Block ask) h = h

can_name : (minute : Option (List ℕ)) (o : Option Case)
    → is_unminuted (option_map (with_minute minute) o) ≡ true
    → (minute ≡ None) × (case : Case) × (o ≡ Some case) × (is_renewal case.ask ≡ true)
can_name minute None h = absurd (subst T (sym h) tt)
can_name minute (Some case) h =
    let lacks = lacks_one minute case.ask h in (lacks.0, case, refl, lacks.1)

module _ (t : Tables) (w : World) (m : FinMap name_cmp (List ℕ)) (name : RequestName)
    (are : AreUnminuted t w) where
  minute_free : is_unminuted (get (minuted m w.requests) name) ≡ true
      → (get m name ≡ None) × RenewsIn t name
  minute_free h =
      let can = can_name (get m name) (get w.requests name)
      (sym (ap is_unminuted (get-minuted m w.requests name)) ∙ h) in (
        can.0,
        (can.1, sym (ap (λ requests. get requests name) are.requests) ∙ can.2, can.3),
      )

  minute_new : get m name ≡ None → RenewsIn t name
      → is_unminuted (get (minuted m w.requests) name) ≡ true
  minute_new none renews =
      ap is_unminuted (get-minuted m w.requests name)
      ∙ (λ i. is_unminuted (option_map (with_minute (none i))
      ((ap (λ requests. get requests name) are.requests ∙ renews.1) i)))
      ∙ has_none renews.0.ask renews.2

pub minutes : (t : Tables)
    → MakesPart office.minutes.pair (λ x. row.Minute x.account x.reference x.minute)
    (λ (w : World) m. record w { requests = minuted m w.requests }) (AreUnminuted t) (RenewsIn t)
minutes t = record {
  none = λ w h. ap (λ requests. record w { requests = requests })
      (minuted-empty w.requests (subst AreBare (sym h.requests) (requests_bare t.requests)));
  with = λ w m x. ap (λ requests. record w { requests = requests })
      (sym (minuted-add m w.requests (x.account, x.reference) x.minute));
  free = λ w m x h new. minute_free t w m (x.account, x.reference) h new;
  new = λ w m x h none tied. minute_new t w m (x.account, x.reference) h none tied;
  turn = λ w m x h. h.queue;
}

-- ---- Where tables stand

-- a version that has the table has its tree, and no other
abbrev pub IsPlaced : {T K X : Type 0} → TableDef T K X → Type 0
IsPlaced d = (v : Version) → nat_lt d.slot (table_count v) ≡ nat_lt d.table.tree (end_of v)

pub caps_placed : IsPlaced office.caps
unfolding digits
caps_placed First = refl
caps_placed Second = refl
caps_placed Third = refl
caps_placed Fourth = refl

pub entries_placed : IsPlaced office.entries
unfolding digits
entries_placed First = refl
entries_placed Second = refl
entries_placed Third = refl
entries_placed Fourth = refl

pub pool_placed : IsPlaced office.pool
unfolding digits
pool_placed First = refl
pool_placed Second = refl
pool_placed Third = refl
pool_placed Fourth = refl

pub blocks_placed : IsPlaced office.blocks
unfolding digits
blocks_placed First = refl
blocks_placed Second = refl
blocks_placed Third = refl
blocks_placed Fourth = refl

pub requests_placed : IsPlaced office.requests
unfolding digits
requests_placed First = refl
requests_placed Second = refl
requests_placed Third = refl
requests_placed Fourth = refl

pub queue_placed : IsPlaced office.queue
unfolding digits
queue_placed First = refl
queue_placed Second = refl
queue_placed Third = refl
queue_placed Fourth = refl

pub advice_placed : IsPlaced office.advice
unfolding digits
advice_placed First = refl
advice_placed Second = refl
advice_placed Third = refl
advice_placed Fourth = refl

pub holds_placed : IsPlaced office.holds
unfolding digits
holds_placed First = refl
holds_placed Second = refl
holds_placed Third = refl
holds_placed Fourth = refl

pub minutes_placed : IsPlaced office.minutes
unfolding digits
minutes_placed First = refl
minutes_placed Second = refl
minutes_placed Third = refl
minutes_placed Fourth = refl

pub agents_placed : IsPlaced office.agents
unfolding digits
agents_placed First = refl
agents_placed Second = refl
agents_placed Third = refl
agents_placed Fourth = refl

pub journal_placed : IsPlaced office.journal
unfolding digits
journal_placed First = refl
journal_placed Second = refl
journal_placed Third = refl
journal_placed Fourth = refl

-- a request is read of its columns alone
pub request_reads : (row : SqlRow)
    → request_in (shows (numbered_columns 25) [] row) ≡ request_in (stored 25 row)
request_reads row = sym (request_in_columns (shows (numbered_columns 25) [] row))
