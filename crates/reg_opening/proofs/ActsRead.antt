-- What the rows of a journal tell, as they are read.
use Rattle.std.proofs.Common.{◌≡◌, ◌==◌, ◌<◌, ◌≤◌, ℕ, ℤ, ◌+◌, List, [], ◌∷◌, ◌++◌, length, map, true, false, refl, sym, ap, subst, ◌∙◌, arith}
use Rattle.std.proofs.Common.{Option, Some, None, MatchOption, IsPermutation, IsSome, IsTrue, codes, option_map}
use Rattle.std.proofs.lemmas.Bool.{eq-eqb, eqb-true}
use Rattle.std.proofs.lemmas.Bool.Decides.{nat_tests}
use Rattle.std.proofs.lemmas.List.{append-nil, append_assoc, length-map}
use Rattle.std.proofs.lemmas.Simd.{map-map}
use Rattle.std.specs.Cmp.{nat_cmp_is}
use Rattle.std.specs.FinMap.{FinMap, entries}
use Rattle.std.specs.List.{AllByRecursion, range_with_len}
use Rattle.std.specs.List.Sorted.{IsStrictlySortedBy}
use Rattle.std.specs.Ordering.{int_cmp, nat_cmp}
use Rattle.std.specs.Prelude.{nat_lt, if◌then◌else◌, Result, Ok, Err}
use Rattle.std.specs.declared.cmp.Ordering.TheVariants.{Less}
use Rattle.sqlite.specs.Effect.{Database}
use Rattle.sqlite.specs.Listing.{understood}
use Rattle.sqlite.specs.Order.{Row, column}
use Rattle.sqlite.specs.State.{State, Shown}
use Rattle.sqlite.specs.Tree.{Trees}
use Rattle.sqlite_tied.specs.Compute.{everything}
use Rattle.reg_maps.specs.RowMaps.{IsTable, held_in}
use Rattle.reg_maps.proofs.MapLaws.{number_keys}
use Rattle.reg_maps.proofs.RowMaps.Items.{is_item_table}
use Rattle.reg_maps.proofs.RowMaps.Lists.{filter_true, shown_rows}
use Rattle.reg_maps.proofs.RowMaps.Tables.{empty_table}
use Rattle.reg_core.specs.declared.journal.Act.{Act}
use Rattle.reg_records.specs.Acts.{act_in}
use Rattle.reg_records.specs.Columns.{int_in}
use Rattle.reg_records.specs.declared.acts.NumberedAct.{NumberedAct}
use Rattle.reg_records.proofs.ActLaws.{act_in_columns}
use Rattle.reg_tables.specs.Editing.{AreKeyed}
use Rattle.reg_tables.specs.Selecting.{BeginsWith, column_names, ordered_by, shows, stored}
use Rattle.reg_tables.specs.Version.{rows_of, table_count}
use Rattle.reg_tables.specs.declared.texts.TheConstants.{SELECT_JOURNAL}
use Rattle.reg_tables.specs.declared.version.Version.{Version}
use Rattle.reg_tables.proofs.SelectLemmas.{selected}
use Rattle.reg_tables.proofs.Statements.{all_acts}
use Rattle.reg_statements.specs.Content.{AreCounted, act_at, latest_first}
use Rattle.reg_statements.specs.Loading.{IsAscending, ReadAs}
use Rattle.reg_statements.specs.Office as office
use Rattle.reg_statements.specs.Reading.{TakesAll}
use Rattle.reg_statements.specs.Tables.{tables_in}
use Rattle.reg_statements.proofs.Neighbours.{strict}
use Rattle.reg_statements.proofs.Numbering.{length_latest, none_counted, none_latest}
use Rattle.reg_opening.specs.Acts.{AreActs, AreFollowing, AreWholeActs, CountsActs, CountsRows, TakesAct, last_after, number_of_act, shown_act_in}
use Rattle.reg_opening.specs.FedRows.{journal_placed}
use Rattle.reg_opening.specs.Feeding.{tables_at}
use Rattle.reg_opening.specs.Numbered.{HasRisen, ShowsNumbered, numbered_columns}
use Rattle.reg_opening.specs.declared.acts.ShownAct.{ShownAct}
use Rattle.reg_opening.specs.declared.acts.ActTally.{ActTally}
use Rattle.reg_opening.proofs.FedTables.{all_shown, unread_table}
use Rattle.reg_opening.proofs.RowidLemmas.{keyed_at, keyed_none}
use Rattle.reg_opening.proofs.Versions.{version_begins}

-- ---- The statements

abbrev pub by_rowid : List ℕ
by_rowid = codes "SELECT number, day, second, actor, token, kind, account, reference, other, verdict, registry, value, size, rowid FROM journal ORDER BY rowid"

pub shows_acts : ShowsNumbered office.journal by_rowid
unfolding understood everything
shows_acts = record {
  order = ordered_by (0 ∷ []);
  selects = record {
    names = column_names office.journal.table ++ codes "rowid" ∷ [];
    is = λ more indexes. refl;
    plain = (refl, refl);
    unlisted = λ more indexes. refl;
  };
}

-- ---- Numbers that follow on one another

-- from one on
abbrev AreFrom : ℕ → List NumberedAct → Type 0
AreFrom n rows = map number_of_act rows ≡ range_with_len n (length rows)

ascend_from : (n : ℕ) (rows : List NumberedAct) → AreFrom n rows
    → IsAscending (λ a b. nat_cmp a.number b.number) rows
ascend_from n [] are = tt
ascend_from n (a ∷ []) are = tt
ascend_from n (a ∷ b ∷ more) are =
    let first : a.number ≡ n = cc in
    let rest : AreFrom (n + 1) (b ∷ more) = cc in
    let second : b.number ≡ n + 1 = cc in
    let above : a.number < b.number = omega (arith, first, second) in
    (sym (nat_cmp_is a.number b.number Less above), ascend_from (n + 1) (b ∷ more) rest)

-- what the last number tells of those behind one
abbrev Reaches : ℕ → List NumberedAct → Option ℕ → Type 0
Reaches n rows last =
    MatchOption last (¬ AreFrom (n + 1) rows) (λ m. AreFrom (n + 1) rows × (m ≡ n + length rows))

reaches_more : (n : ℕ) (a : NumberedAct) (rows : List NumberedAct) → a.number ≡ n + 1
    → (last : Option ℕ) → Reaches a.number rows last → Reaches n (a ∷ rows) last
reaches_more n a rows follows None unlike = λ are.
    let rest : AreFrom (n + 1 + 1) rows = cc in
    unlike (subst (λ k. AreFrom (k + 1) rows) (sym follows) rest)
reaches_more n a rows follows (Some last) reaches =
    let rest : AreFrom (n + 1 + 1) rows = subst (λ k. AreFrom (k + 1) rows) follows reaches.0 in
    (λ i. follows i ∷ rest i, omega (arith, reaches.1, follows))

reached : (n : ℕ) (rows : List NumberedAct) → Reaches n rows (last_after n rows)
reached n [] = (refl, omega arith)
reached n (a ∷ rows) =
    elim (a.number == n + 1) as
    (λ b. (a.number == n + 1) ≡ b
    → Reaches n (a ∷ rows) (if b then last_after a.number rows else None)) [
      | true ↦ λ t.
          reaches_more n a rows (eqb-true a.number (n + 1) t) (last_after a.number rows)
          (reached a.number rows)
      | false ↦ λ f are.
          let first : a.number ≡ n + 1 = cc in
          let same = eq-eqb a.number (n + 1) first in
          absurd (cc)
    ] refl

-- acts whose numbers follow are 1, 2, 3 .. in each order of their rows
abbrev pub entry_of : NumberedAct → ℕ × Act
entry_of a = (a.number, a.act)

module _ (m : FinMap nat_cmp Act) (rows : List NumberedAct)
    (are : entries m ≡ map entry_of rows) where
  keys_are : map (λ (e : ℕ × Act). e.0) (entries m) ≡ map number_of_act rows
  keys_are = ap (map (λ (e : ℕ × Act). e.0)) are ∙ map-map (λ (e : ℕ × Act). e.0) entry_of rows

  long : length (entries m) ≡ length rows
  long = ap length are ∙ length-map rows entry_of

  pub counted_by : AreFollowing rows → AreCounted m
  counted_by follow = keys_are ∙ follow ∙ ap (range_with_len 1) (sym long)

  pub followed_by : AreCounted m → AreFollowing rows
  followed_by counted = sym keys_are ∙ counted ∙ ap (range_with_len 1) long

  pub count_by : length rows ≡ length (latest_first m)
  count_by = sym long ∙ sym (length_latest m)

-- ---- Rows in the order of their numbers

module _ (table shown : List Row) (rows : List NumberedAct)
    (moved : IsPermutation (map (stored 13) table) shown) (read : ReadAs act_in shown rows)
    (up : IsAscending (λ a b. nat_cmp a.number b.number) rows) where
  in_order : IsTable nat_cmp act_at table × (entries (held_in {R = nat_cmp} act_at table) ≡ map entry_of rows)
  unfolding act_at
  in_order =
      let taken = shown_rows (stored 13) act_in rows moved read in
      is_item_table number_keys entry_of (λ r. act_in (stored 13 r)) rows taken.1 taken.2
      (strict number_keys number_of_act rows up)

  -- so the last number tells how many they are, or that they are no whole journal
  pub counted_in_order : (last : ℕ) → Some last ≡ last_after 0 rows
      → AreWholeActs table × (last ≡ length (latest_first (held_in act_at table)))
  counted_in_order last is =
      let told = subst (Reaches 0 rows) (sym is) (reached 0 rows) in
      let all : last ≡ length rows = omega (arith, told.1) in (
        (in_order.0, counted_by (held_in act_at table) rows in_order.1 told.0),
        all ∙ count_by (held_in act_at table) rows in_order.1,
      )

  pub uncounted_in_order : None ≡ last_after 0 rows → ¬ AreWholeActs table
  uncounted_in_order is whole =
      let told : ¬ AreFollowing rows = subst (Reaches 0 rows) (sym is) (reached 0 rows) in
      told (followed_by (held_in act_at table) rows in_order.1 whole.1)

-- what a query of all acts shows
pub acts_shown : (old new : State) (shown : List Row) → BeginsWith 14 old.now.schema
    → Shown SELECT_JOURNAL.now [] old new shown
    → IsPermutation (map (stored 13) (old.now.trees office.journal.table.tree)) shown
acts_shown old new shown begins answer =
    all_shown 14 13 _ 28 _ old new shown all_acts begins answer

-- ---- Rows with their rowids

abbrev seen : Row → Row
seen = shows (numbered_columns 13) []

abbrev row_of : ShownAct → NumberedAct
row_of shown = shown.row

abbrev shown_entry : ShownAct → ℕ × Act
shown_entry shown = entry_of shown.row

act_reads : (r : Row) → act_in (seen r) ≡ act_in (stored 13 r)
act_reads r = sym (act_in_columns (seen r))

-- what a row has by its key is the same without its rowid
same_at : (λ (r : Row). option_map shown_entry (shown_act_in (seen r))) ≡ act_at
unfolding act_at
same_at = λ i r.
    (without (act_in (seen r)) (int_in (column (seen r) 13))
    ∙ ap (option_map entry_of) (act_reads r)) i
  where
    without : (value : Option NumberedAct) (id : Option ℤ)
        → option_map shown_entry (option_map (λ act. record { row = act; rowid = id }) value)
        ≡ option_map entry_of value
    without None id = refl
    without (Some value) id = refl

pub rowids_read : (shown : List Row) (values : List ShownAct) → ReadAs shown_act_in shown values
    → map (λ r. int_in (column r 13)) shown ≡ map (λ v. v.rowid) values
rowids_read [] [] read = refl
rowids_read [] (v ∷ values) read = absurd (cc)
rowids_read (r ∷ shown) [] read = absurd (cc)
rowids_read (r ∷ shown) (v ∷ values) read =
    let first : shown_act_in r ≡ Some v = cc in
    let rest : ReadAs shown_act_in shown values = cc in
    λ i. one (act_in r) first i ∷ rowids_read shown values rest i
  where
    one : (value : Option NumberedAct)
        → option_map (λ act. record { row = act; rowid = int_in (column r 13) }) value ≡ Some v
        → int_in (column r 13) ≡ v.rowid
    one None is = absurd (cc)
    one (Some value) is = cc

-- a tally that took rows: their rowids rise as it says
pub tally_rises : (start now : ActTally) (values : List ShownAct) (rowids : List (Option ℤ))
    → TakesAll TakesAct start values now → HasRisen start.rise rowids
    → HasRisen now.rise (rowids ++ map (λ v. v.rowid) values)
tally_rises start now [] rowids same risen =
    subst (HasRisen now.rise) (sym (append-nil rowids))
    (subst (λ (to : ActTally). HasRisen to.rise rowids) (sym same) risen)
tally_rises start now (value ∷ more) rowids taken risen =
    subst (HasRisen now.rise) (append_assoc rowids (value.rowid ∷ []) (map (λ v. v.rowid) more))
    (tally_rises taken.0 now more (rowids ++ value.rowid ∷ []) taken.2
    (taken.1.rises rowids risen))

-- and their numbers follow, where it says so
pub record HasFollowed (start now : ActTally) (rows : List NumberedAct) : Type 0 where
  pub before : IsTrue start.follows
  pub numbers : map number_of_act rows ≡ range_with_len (start.last + 1) (length rows)
  pub last : now.last ≡ start.last + length rows

pub tally_follows : (start now : ActTally) (values : List ShownAct) → TakesAll TakesAct start values now
    → IsTrue now.follows → HasFollowed start now (map row_of values)
tally_follows start now [] same follows = record {
  before = subst (λ (t : ActTally). IsTrue t.follows) same follows;
  numbers = refl;
  last = let is = ap (λ (t : ActTally). t.last) same in omega (arith, is);
}
tally_follows start now (value ∷ more) taken follows =
    let rest = tally_follows taken.0 now more taken.2 follows in
    let here = taken.1.follows rest.before in
    let next : taken.0.last ≡ start.last + 1 = taken.1.last ∙ here.1 in
    let after = rest.numbers ∙ ap (λ n. range_with_len (n + 1) (length (map row_of more))) next in
    record {
      before = here.0;
      numbers = λ i. here.1 i ∷ after i;
      last = omega (arith, rest.last, next);
    }

module _ (table shown : List Row) (moved : IsPermutation (map seen table) shown) where
  -- rows that do not all read are no whole journal
  pub unread_acts : ¬ AllByRecursion (λ r. IsSome (shown_act_in r)) shown → ¬ AreWholeActs table
  unread_acts unread whole =
      unread_table shown_entry seen shown_act_in table shown moved unread
      (subst (λ (at : Row → Option (ℕ × Act)). IsTable nat_cmp at table) (sym same_at) whole.0)

  module _ (values : List ShownAct) (read : ReadAs shown_act_in shown values) where
    -- they are by rowids that rise
    pub keyed_acts : (ids : List ℤ) → map (λ v. v.rowid) values ≡ map Some ids
        → IsAscending int_cmp ids → AreKeyed table
    keyed_acts ids are up =
        keyed_at seen 13 (λ r. refl) table shown ids moved (rowids_read shown values read ∙ are) up

    taken_in_order : AreFollowing (map row_of values)
        → IsTable nat_cmp act_at table
        × (entries (held_in {R = nat_cmp} act_at table) ≡ map entry_of (map row_of values))
    taken_in_order follow =
        let taken = shown_rows seen shown_act_in values moved read in
        let up = strict number_keys number_of_act (map row_of values)
        (ascend_from 1 (map row_of values) follow) in
        let both = is_item_table number_keys shown_entry (λ r. shown_act_in (seen r)) values taken.1
        taken.2 (subst (IsStrictlySortedBy nat_cmp) (map-map number_of_act row_of values) up) in
        let there = subst (λ (at : Row → Option (ℕ × Act)). IsTable nat_cmp at table
        × (entries (held_in {R = nat_cmp} at table) ≡ map shown_entry values)) same_at both in
        (there.0, there.1 ∙ sym (map-map entry_of row_of values))

    -- and where their numbers follow, they are a whole journal
    pub whole_acts : AreFollowing (map row_of values)
        → AreWholeActs table
        × (length (map row_of values) ≡ length (latest_first (held_in act_at table)))
    whole_acts follow =
        let both = taken_in_order follow in (
          (both.0, counted_by (held_in act_at table) (map row_of values) both.1 follow),
          count_by (held_in act_at table) (map row_of values) both.1,
        )

-- ---- The table in a version

pub journal_there : (v : Version) (trees : Trees) → nat_lt 13 (table_count v) ≡ true
    → (tables_in (rows_of v trees)).journal ≡ trees office.journal.table.tree
journal_there v trees has =
    ap (λ b. if b then trees office.journal.table.tree else []) (sym (journal_placed v) ∙ has)

pub journal_missing : (v : Version) (trees : Trees) → nat_lt 13 (table_count v) ≡ false
    → (tables_in (rows_of v trees)).journal ≡ []
journal_missing v trees lacks =
    ap (λ b. if b then trees office.journal.table.tree else []) (sym (journal_placed v) ∙ lacks)

-- a journal without rows is whole
pub no_acts : AreWholeActs [] × (0 ≡ length (latest_first (held_in act_at [])))
no_acts = (((empty_table nat_cmp act_at).0, none_counted), sym (ap length none_latest))

-- ---- What an opening tells of them

enough : (n : ℕ) → nat_lt 13 n ≡ true → 14 ≤ n
enough n has = grind (arith, nat_tests)

module _ (v : Version) (old : State) (begins : BeginsWith (table_count v) old.now.schema)
    (has : nat_lt 13 (table_count v) ≡ true) where
  abbrev table : List Row
  table = old.now.trees office.journal.table.tree

  there : (tables_at v old.now).journal ≡ table
  there = journal_there v old.now.trees has

  pub first_fourteen : BeginsWith 14 old.now.schema
  first_fourteen = version_begins v 14 (enough (table_count v) has) begins

  -- what is told of the rows, whose rowids differ, is told of the journal
  told_keyed : {E : Type 0} (rows : List Row) → (tables_at v old.now).journal ≡ rows → AreKeyed rows
      → (r : Result ℕ E) → CountsRows rows r → CountsActs (tables_at v old.now) r
  told_keyed rows is keyed (Ok n) counts =
      subst (λ rows. (AreWholeActs rows × AreKeyed rows)
      × (n ≡ length (latest_first (held_in act_at rows)))) (sym is) ((counts.0, keyed), counts.1)
  told_keyed rows is keyed (Err flaw) counts = λ acts.
      counts (subst AreWholeActs is acts.0)

  pub told_acts : {E : Type 0} → AreKeyed table → (r : Result ℕ E) → CountsRows table r
      → CountsActs (tables_at v old.now) r
  told_acts keyed r counts = told_keyed table there keyed r counts

  module _ (new : State) (shown : List Row) (answer : Shown by_rowid [] old new shown) where
    moved : IsPermutation (map seen table) shown
    moved =
        subst (λ rs. IsPermutation (map seen rs) shown) (filter_true table)
        (selected by_rowid office.journal.table.tree [] (numbered_columns 13) shows_acts.order [] old
        new shown shows_acts.selects first_fourteen answer)

    pub acts_unread : ¬ AllByRecursion (λ r. IsSome (shown_act_in r)) shown
        → ¬ AreActs (tables_at v old.now)
    acts_unread unread acts =
        unread_acts table shown moved unread (subst AreWholeActs there acts.0)

    module _ (start now : ActTally) (values : List ShownAct) (read : ReadAs shown_act_in shown values)
        (taken : TakesAll TakesAct start values now) (rise : HasRisen start.rise [])
        (rose : IsTrue now.rise.holds) where
      pub acts_keyed : AreKeyed table
      acts_keyed =
          let risen = (tally_rises start now values [] taken rise).0 rose in
          keyed_acts table shown moved values read risen.0 risen.1 risen.2

      pub acts_followed : start.last ≡ 0 → IsTrue now.follows
          → CountsActs {E = Unit {0}} (tables_at v old.now) (Ok now.last)
      acts_followed first follows =
          let has_followed = tally_follows start now values taken follows in
          let rows = map row_of values in
          let follow : AreFollowing rows =
          has_followed.numbers ∙ ap (λ n. range_with_len (n + 1) (length rows)) first in
          let whole = whole_acts table shown moved values read follow in
          let last : now.last ≡ length rows = omega (arith, has_followed.last, first) in
          told_acts {E = Unit {0}} acts_keyed (Ok now.last) (whole.0, last ∙ whole.1)

-- a version that lacks the table has no act
pub no_acts_told : (v : Version) (db : Database) → nat_lt 13 (table_count v) ≡ false
    → CountsActs {E = Unit {0}} (tables_at v db) (Ok 0)
no_acts_told v db lacks =
    subst (λ rows. (AreWholeActs rows × AreKeyed rows)
    × (0 ≡ length (latest_first (held_in act_at rows)))) (sym (journal_missing v db.trees lacks))
    ((no_acts.0, keyed_none), no_acts.1)
