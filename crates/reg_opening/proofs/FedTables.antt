-- What an audit says of the rows of a table of the office that it was fed.
use Rattle.std.proofs.Common.{◌≡◌, ◌≤◌, ℕ, ℤ, ◌+◌, Bool, true, false, List, [], ◌∷◌, ◌++◌, map, reverse, refl, sym, ap, subst, ◌∙◌, Option, Some, None, IsSome, is_some, IsPermutation, option_map, arith}
use Rattle.std.proofs.lemmas.Bool.Decides.{nat_tests}
use Rattle.std.proofs.lemmas.List.{map-append, reverse-append}
use Rattle.std.proofs.lemmas.List.Sorted.{IsPermutation-refl, IsPermutation-reverse, IsPermutation-trans}
use Rattle.std.specs.List.{AllByRecursion, IsDistinct}
use Rattle.std.specs.declared.cmp.Ordering.{Ordering}
use Rattle.std.specs.FinMap.{FinMap, from_entries, get-empty, get-from_entries}
use Rattle.std.specs.Prelude.{Result, Ok, Err, IfOk, IsTrue, nat_lt, if◌then◌else◌}
use Rattle.sqlite.specs.Order.{Row as SqlRow, column}
use Rattle.sqlite.specs.State.{State, Shown}
use Rattle.sqlite.specs.Term.{Term}
use Rattle.sqlite_value.specs.declared.keys.Key.{Key}
use Rattle.sqlite.specs.Tree.{Trees, rowid}
use Rattle.reg_maps.specs.RowMaps.{AreApart, IsTable, held_in}
use Rattle.reg_maps.proofs.KeySets.{each_key, is_inserted, still_in}
use Rattle.reg_maps.proofs.MapLaws.{IsKeyOrder}
use Rattle.reg_maps.proofs.RowMaps.Entries.{apart_head, apart_more, apart_tail, find-free, free_from_none}
use Rattle.reg_maps.proofs.RowMaps.Items.{read_pairs}
use Rattle.reg_maps.proofs.RowMaps.Lists.{all_permuted, shown_rows, filter_true}
use Rattle.reg_maps.proofs.RowMaps.Loads as rows
use Rattle.reg_records.specs.Columns.{int_in}
use Rattle.reg_tables.specs.Connection.{Endures, IsIdle, Stays, Works}
use Rattle.reg_tables.specs.Version.{rows_of, table_count}
use Rattle.reg_tables.specs.declared.version.Version.{Version}
use Rattle.reg_tables.proofs.Enduring.{endures_still}
use Rattle.reg_tables.proofs.SelectLemmas.{selected, shows_columns}
use Rattle.reg_statements.specs.Content.{content_at}
use Rattle.reg_statements.specs.Tables.{Tables, tables_in}
use Rattle.reg_core.specs.World.{World}
use Rattle.reg_opening.specs.Audits.{Audits, knows_free}
use Rattle.reg_opening.specs.Rows.{with_row, IsInTurn, IsNew}
use Rattle.reg_opening.specs.declared.audit.Audit.{Audit}
use Rattle.reg_opening.specs.declared.row.Row.{Row}
use Rattle.reg_tables.specs.Selecting.{BeginsWith, SelectsFrom, columns_of, shows, stored}
use Rattle.reg_statements.specs.Defined.{IsDefined}
use Rattle.reg_statements.specs.Parts.{TableDef}
use Rattle.reg_opening.specs.FedRows.{IsPlaced}
use Rattle.reg_opening.specs.Numbered.{ShowsNumbered, numbered_columns, numbered_in}
use Rattle.reg_opening.specs.declared.numbered.Numbered.{Numbered}
use Rattle.reg_opening.proofs.RowidLemmas.{keyed_at, keyed_none, rowids_read}
use Rattle.reg_tables.specs.declared.texts.TheConstants.{SELECT_RANGES, SELECT_REGISTRIES}
use Rattle.reg_tables.proofs.Statements.{all_ranges}
use Rattle.reg_tables.proofs.Statements.{all_registries}
use Rattle.reg_opening.proofs.Versions.{first_begins, ranges_rows, registries_rows, version_begins}
use Rattle.reg_opening.proofs.Feeding.{feeds_none}
use Rattle.reg_opening.specs.Feeding.{EachIsTied, MakesPart, IsTiedTable, FeedsPart, FeedsRows, FeedsShown, FeedsTable, IsFed, TellsTable}
use Rattle.reg_opening.specs.Feeding.{AreInTurn, AreNew, tables_at, with_rows}

few : (m n : ℕ) → nat_lt m n ≡ true → m + 1 ≤ n
few m n h = grind (arith, nat_tests)

-- keys that owe nothing are all tied
pub untied : {T : Type 0} (ts : List T) → AllByRecursion (λ t. Unit {0}) ts
untied [] = tt
untied (t ∷ ts) = (tt, untied ts)

-- the rows that a query of a whole table shows are those that are stored
pub all_shown : (m n : ℕ) (sql : List ℕ) (t : ℕ) (order : List (Term × Key)) (old new : State)
    (shown : List SqlRow) → SelectsFrom m sql t [] (columns_of n) order → BeginsWith m old.now.schema
    → Shown sql [] old new shown → IsPermutation (map (stored n) (old.now.trees t)) shown
all_shown m n sql t order old new shown selects begins answer =
    let found =
    selected sql t [] (columns_of n) order [] old new shown selects begins answer in
    let same : shows (columns_of n) [] ≡ stored n = λ i r. shows_columns n [] r i in
    let whole = filter_true (old.now.trees t) in
    subst (λ f. IsPermutation (map f (old.now.trees t)) shown) same
    (subst (λ rs. IsPermutation (map (shows (columns_of n) []) rs) shown) whole found)

-- so of the registries and the ranges of a store of a version
pub registries_shown : (v : Version) (old new : State) (shown : List SqlRow)
    → BeginsWith (table_count v) old.now.schema → Shown SELECT_REGISTRIES.now [] old new shown
    → IsPermutation (map (stored 2) (tables_at v old.now).registries) shown
registries_shown v old new shown is answer =
    subst (λ rows. IsPermutation (map (stored 2) rows) shown) (sym (registries_rows v old.now.trees))
    (all_shown 3 2 _ 3 _ old new shown all_registries (first_begins v 3 (omega arith) is) answer)

pub ranges_shown : (v : Version) (old new : State) (shown : List SqlRow)
    → BeginsWith (table_count v) old.now.schema → Shown SELECT_RANGES.now [] old new shown
    → IsPermutation (map (stored 5) (tables_at v old.now).ranges) shown
ranges_shown v old new shown is answer =
    subst (λ rows. IsPermutation (map (stored 5) rows) shown) (sym (ranges_rows v old.now.trees))
    (all_shown 4 5 _ 5 _ old new shown all_ranges (first_begins v 4 (omega arith) is) answer)

module _ {T K X : Type 0} (pair : T → K × X) (shows : SqlRow → SqlRow)
    (read : SqlRow → Option T) where
  some : (r : Option T) → IsSome (option_map pair r) → IsSome r
  some None is = absurd (cc)
  some (Some t) is = refl

  each_reads : (rs : List SqlRow)
      → AllByRecursion (λ r. IsSome (option_map pair (read (shows r)))) rs
      → AllByRecursion (λ r. IsSome (read r)) (map shows rs)
  each_reads [] all = tt
  each_reads (r ∷ rs) all = (some (read (shows r)) all.0, each_reads rs all.1)

  -- where one of them does not read, they are no table
  pub unread_table : {R : K → K → Ordering} (table shown : List SqlRow)
      → IsPermutation (map shows table) shown
      → ¬ AllByRecursion (λ r. IsSome (read r)) shown
      → ¬ IsTable R (λ r. option_map pair (read (shows r))) table
  unread_table table shown moved unread held =
      unread (all_permuted (λ r. IsSome (read r)) (map shows table) shown moved
      (each_reads table held.reads))

module _ {T K X : Type 0} {R : K → K → Ordering} (o : IsKeyOrder R) (pair : T → K × X)
    (row : T → Row) (put : World → FinMap R X → World) (Before : World → Type 0)
    (IsTied : K → Type 0) (part : MakesPart pair row put Before IsTied) where
  abbrev all_of : List T → FinMap R X
  all_of ts = from_entries (map pair ts)

  pub with_all : (w : World) (ts : List T) → Before w
      → with_rows w (map row ts) ≡ put w (all_of ts)
  with_all w [] before = sym (part.none w before)
  with_all w (t ∷ ts) before =
      ap (λ v. with_row v (row t)) (with_all w ts before) ∙ part.with w (all_of ts) t

  pub turns : (w : World) (ts : List T) → Before w → AreInTurn w (map row ts)
  turns w [] before = tt
  turns w (t ∷ ts) before = (
    turns w ts before,
    subst (λ v. IsInTurn v (row t)) (sym (with_all w ts before)) (part.turn w _ t before),
  )

  -- the rows have keys that differ, and each is tied, just where they are new
  pub apart_from_new : (w : World) (ts : List T) → Before w → AreNew w (map row ts)
      → AreApart R (map pair ts) × AllByRecursion (λ t. IsTied (pair t).0) ts
  unfolding IsDistinct
  apart_from_new w [] before new = (tt, tt)
  apart_from_new w (t ∷ ts) before new =
      let rest = apart_from_new w ts before new.0 in
      let here = part.free w (all_of ts) t before
      (subst (λ v. IsNew v (row t)) (with_all w ts before) new.1) in
      let free = sym (get-from_entries o.total (map pair ts) (pair t).0) ∙ here.0 in (
        apart_more R (pair t) (map pair ts) (free_from_none R (pair t).0 (map pair ts) free) rest.0,
        (here.1, rest.1),
      )

  pub new_from_apart : (w : World) (ts : List T) → Before w → AreApart R (map pair ts)
      → AllByRecursion (λ t. IsTied (pair t).0) ts → AreNew w (map row ts)
  new_from_apart w [] before apart tied = tt
  new_from_apart w (t ∷ ts) before apart tied = (
    new_from_apart w ts before (apart_tail R (pair t) (map pair ts) apart) tied.1,
    subst (λ v. IsNew v (row t)) (sym (with_all w ts before))
        (part.new w (all_of ts) t before (get-from_entries o.total (map pair ts) (pair t).0
        ∙ find-free R (pair t).0 (map pair ts) (apart_head R (pair t) (map pair ts) apart)) tied.0),
  )

  -- each key of the rows is tied just where each row's is
  ties_of : (ts : List T) → AllByRecursion (λ t. IsTied (pair t).0) ts
      → EachIsTied (all_of ts) IsTied
  ties_of [] tied k there = let gone = ap is_some (get-empty {X = X} R k) in absurd (cc)
  ties_of (t ∷ ts) tied k there =
      each_key o (all_of ts) (pair t).0 IsTied (pair t).1 (ties_of ts tied.1) tied.0 k there

  of_ties : (ts : List T) → EachIsTied (all_of ts) IsTied
      → AllByRecursion (λ t. IsTied (pair t).0) ts
  of_ties [] ties = tt
  of_ties (t ∷ ts) ties = (
    ties (pair t).0 (is_inserted o (all_of ts) (pair t).0 (pair t).1),
    of_ties ts (λ k there. ties k (still_in o (all_of ts) (pair t).0 (pair t).1 k there)),
  )

  -- rows fed that were loaded from a table
  pub fed_table : {A : Type 0} (of : A → Option (K × X)) (old new : Audit) (table taken : List A)
      (ts : List T) → IsPermutation table taken → map of taken ≡ map Some (map pair ts)
      → FeedsRows old new (map row ts)
      → FeedsTable Before (IsTable R of table × EachIsTied (held_in {R = R} of table) IsTied)
      (λ w. put w (held_in of table)) old new
  fed_table of old new table taken ts moved read feeds = record {
    audits = λ w audits before held.
        let all = rows.loaded o (map pair ts) held.0 moved read in
        let tied = of_ties ts (subst (λ m. EachIsTied m IsTied) all.1 held.1) in
        let fed = feeds.audits w audits (turns w ts before)
        (new_from_apart w ts before all.0 tied) in
        subst (Audits new) (with_all w ts before ∙ ap (put w) (sym all.1)) fed;
    held = λ w audits before kept.
        let apart = apart_from_new w ts before
        (feeds.fresh w audits (turns w ts before) kept) in
        let is = rows.is_table_apart o (map pair ts) moved read apart.0 in
        (is.0, subst (λ m. EachIsTied m IsTied) (sym is.1) (ties_of ts apart.1));
    stays = feeds.stays;
  }

  -- where there are none, nothing is fed
  pub fed_none : {A : Type 0} (of : A → Option (K × X)) (audit : Audit)
      → FeedsTable Before (IsTable R of [] × EachIsTied (held_in {R = R} of []) IsTied)
      (λ w. put w (held_in of [])) audit audit
  fed_none of audit = fed_table of audit audit [] [] [] (IsPermutation-refl []) refl (feeds_none audit)

map-reverse : {X Y : Type 0} (f : X → Y) (xs : List X) → map f (reverse xs) ≡ reverse (map f xs)
map-reverse f [] = refl
map-reverse f (x ∷ xs) =
    ap (map f) (reverse-append (x ∷ []) xs) ∙ map-append f (reverse xs) (x ∷ [])
    ∙ ap (λ ys. ys ++ f x ∷ []) (map-reverse f xs) ∙ sym (reverse-append (f x ∷ []) (map f xs))

-- what reads as values reads as them from the last to the first
read_back : {A T X : Type 0} (of : A → Option X) (pair : T → X) (rows : List A) (values : List T)
    → map of rows ≡ map Some (map pair values)
    → map of (reverse rows) ≡ map Some (map pair (reverse values))
read_back of pair rows values read =
    map-reverse of rows ∙ ap reverse read ∙ sym (map-reverse Some (map pair values))
    ∙ ap (map Some) (sym (map-reverse pair values))

-- rows that a query of a table showed, each with its rowid
module _ {T K X : Type 0} (d : TableDef T K X) (l : IsDefined d) (of : SqlRow → Option T)
    (reads : (r : SqlRow) → of (shows (numbered_columns d.width) [] r) ≡ d.read (stored d.width r))
    (behind : (r : SqlRow) → column (shows (numbered_columns d.width) [] r) d.width ≡ rowid r)
    (placed : IsPlaced d) (row : T → Row) (put : World → FinMap d.key.order X → World)
    (Before : Tables → World → Type 0) (IsTied : Tables → K → Type 0)
    (part : (t : Tables) → MakesPart d.pair row put (Before t) (IsTied t)) where
  abbrev seen : SqlRow → SqlRow
  seen = shows (numbered_columns d.width) []

  abbrev numbered : SqlRow → Option (Numbered T)
  numbered = numbered_in of d.width

  abbrev pair_of : Numbered T → K × X
  pair_of n = d.pair n.value

  abbrev row_of : Numbered T → Row
  row_of n = row n.value

  -- what a row has by its key is the same without its rowid
  same_at : (λ (r : SqlRow). option_map pair_of (numbered (seen r))) ≡ d.at
  same_at =
      (λ i r.
      (without (of (seen r)) (int_in (column (seen r) d.width)) ∙ ap (option_map d.pair) (reads r)) i)
      ∙ sym l.at
    where
      without : (value : Option T) (id : Option ℤ)
          → option_map pair_of (option_map (λ value. record { value = value; rowid = id }) value)
          ≡ option_map d.pair value
      without None id = refl
      without (Some value) id = refl

  numbered_part : (t : Tables) → MakesPart pair_of row_of put (Before t) (IsTied t)
  numbered_part t = record {
    none = (part t).none;
    with = λ w m n. (part t).with w m n.value;
    free = λ w m n. (part t).free w m n.value;
    new = λ w m n. (part t).new w m n.value;
    turn = λ w m n. (part t).turn w m n.value;
  }

  module _ (t : Tables) (whole : World) (before after : Audit) where
    -- of these rows, and as they are read so
    abbrev Told : (SqlRow → Option (K × X)) → List SqlRow → Bool → Type 0
    Told at table k =
        TellsTable (Before t) (IsTiedTable d.key.order at table (IsTied t))
        (λ w. put w (held_in at table)) whole before after k

    told : (table shown : List SqlRow) (k : Bool) → IsPermutation (map seen table) shown
        → IsFed numbered row_of shown before after k
        → Told (λ r. option_map pair_of (numbered (seen r))) table k
    told table shown true moved fed =
        let paired = λ (r : SqlRow). option_map pair_of (numbered (seen r)) in
        let taken = shown_rows seen numbered fed.0 moved fed.1 in
        let feeds = fed_table l.key.keys pair_of row_of put (Before t) (IsTied t) (numbered_part t)
        paired before after table (reverse taken.0) (reverse fed.0)
        (IsPermutation-trans table taken.0 (reverse taken.0) taken.1 (IsPermutation-reverse taken.0))
        (read_back paired pair_of taken.0 fed.0
        (read_pairs l.key.keys pair_of (λ r. numbered (seen r)) taken.0 fed.0 taken.2)) fed.3 in
        let ids = fed.2 in
        let keyed = keyed_at seen d.width behind table shown ids.0 moved
        (rowids_read of d.width shown fed.0 fed.1 ∙ ids.1) ids.2 in
        record {
          audits = λ w audits none held. feeds.audits w audits none (held.0.0, held.1);
          held = λ w audits none kept.
              let held = feeds.held w audits none kept in ((held.0, keyed), held.1);
          stays = feeds.stays;
        }
    told table shown false moved unread = λ held kept.
        unread_table pair_of seen numbered table shown moved unread held.0.0

  -- the rows of the table in a version that has it, and in one that lacks it
  rows_there : (v : Version) (trees : Trees) → nat_lt d.slot (table_count v) ≡ true
      → d.rows (tables_in (rows_of v trees)) ≡ trees d.table.tree
  rows_there v trees has =
      l.rows (rows_of v trees)
      ∙ ap (λ b. if b then trees d.table.tree else []) (sym (placed v) ∙ has)

  rows_missing : (v : Version) (trees : Trees) → nat_lt d.slot (table_count v) ≡ false
      → d.rows (tables_in (rows_of v trees)) ≡ []
  rows_missing v trees lacks =
      l.rows (rows_of v trees)
      ∙ ap (λ b. if b then trees d.table.tree else []) (sym (placed v) ∙ lacks)

  -- a call that feeds the rows of a table
  abbrev FeedsIt : {E : Type 0} → Version → State → State → Audit → Audit → Result Bool E → Type 0
  FeedsIt v old new before after result =
      FeedsPart v Before (λ t. IsTiedTable d.key.order d.at (d.rows t) (IsTied t))
      (λ t w. put w (held_in d.at (d.rows t))) old new before after result

  module _ (v : Version) (old new : State) (before after : Audit) where
    module _ (sql : List ℕ) (all : ShowsNumbered d sql) (has : nat_lt d.slot (table_count v) ≡ true)
      where
        each_told : {E : Type 0} (result : Result Bool E)
            → IfOk result (FeedsShown of d.width row sql old new before after)
            → BeginsWith (table_count v) old.now.schema
            → IfOk result (Told (tables_at v old.now) (content_at v old.now) before after d.at
            (d.rows (tables_at v old.now)))
        each_told (Ok k) was is =
            let t = tables_at v old.now in
            let whole = content_at v old.now in
            let table = old.now.trees d.table.tree in
            let begins = version_begins v (d.slot + 1) (few (d.slot) (table_count v) has) is in
            let found = selected sql d.table.tree [] (numbered_columns d.width) all.order [] old new
            was.0 all.selects begins was.1 in
            let moved = subst (λ rs. IsPermutation (map seen rs) was.0) (filter_true table) found in
            subst (λ rows. Told t whole before after d.at rows k) (sym (rows_there v old.now.trees has))
            (subst (λ at. Told t whole before after at table k) same_at
            (told t whole before after table was.0 k moved was.2))
        each_told (Err e) was is = tt

        pub feeds_part : {E : Type 0} (result : Result Bool E) → IsIdle new → Endures old new
            → Stays old new → IfOk result (λ _. IsTrue (knows_free before) → IsTrue (knows_free after))
            → (Works new → IfOk result (FeedsShown of d.width row sql old new before after))
            → FeedsIt v old new before after result
        feeds_part result now endures stays free rows = record {
          idle = now;
          endures = endures;
          stays = stays;
          free = free;
          tells = λ works is. each_told result (rows works) is;
        }

  -- one of a table that the version lacks, which feeds nothing
  pub feeds_nothing : {E : Type 0} (v : Version) (old : State) (audit : Audit)
      → nat_lt d.slot (table_count v) ≡ false → IsIdle old
      → FeedsIt {E = E} v old old audit audit (Ok true)
  feeds_nothing v old audit lacks idle = record {
    idle = idle;
    endures = endures_still old;
    stays = record { worked = λ h. h; unchanged = λ h. refl };
    free = λ known. known;
    tells = λ works is.
        let t = tables_at v old.now in
        let none = fed_none l.key.keys d.pair row put (Before t) (IsTied t) (part t) d.at audit in
        subst (λ rows. FeedsTable (Before t) (IsTiedTable d.key.order d.at rows (IsTied t))
        (λ w. put w (held_in d.at rows)) audit audit) (sym (rows_missing v old.now.trees lacks))
        (record {
          audits = λ w audits before held. none.audits w audits before (held.0.0, held.1);
          held = λ w audits before kept.
              let held = none.held w audits before kept in ((held.0, keyed_none), held.1);
          stays = none.stays;
        });
  }
