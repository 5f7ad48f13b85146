-- The definitions of an office's tables are right.
use Rattle.std.proofs.Common.{◌≡◌, ℕ, pos, ◌==◌, Bool, true, false, ◌&&◌, List, ◌∷◌, ◌++◌, take, bytes_eq}
use Rattle.std.proofs.Common.{Some, option_map, refl, ap, ◌∙◌, arith}
use Rattle.std.proofs.Math.Bool.{and-true}
use Rattle.std.proofs.lemmas.Bool.Decides.{nat_tests}
use Rattle.std.specs.Ordering.{eq_by_cmp, int_eq, nat_cmp}
use Rattle.sqlite.specs.Order.{Row}
use Rattle.sqlite.specs.Tree.{Trees}
use Rattle.sqlite.specs.declared.types.Value.{Value}
use Rattle.reg_maps.specs.Maps.{text_cmp}
use Rattle.reg_maps.specs.RowMaps.{IsTable, held_in}
use Rattle.reg_maps.proofs.MapLaws.{number_keys, text_keys}
use Rattle.reg_maps.proofs.KeyTests.{pair_test, text_test}
use Rattle.reg_blocks.specs.Block.{first_address}
use Rattle.reg_blocks.specs.Size.{prefix_bits, word_of}
use Rattle.reg_blocks.specs.declared.size.Size.{Size}
use Rattle.reg_blocks.specs.declared.size.Size.TheVariants.{MaL, MaM, MaS}
use Rattle.reg_core.specs.declared.ask.Ask.{Ask}
use Rattle.reg_core.specs.declared.ask.Ask.TheVariants as ask
use Rattle.reg_core.specs.declared.request.Request.{Request}
use Rattle.reg_core.proofs.KeyOrders.{block_keys, link_keys, name_keys, place_keys, seat_keys}
use Rattle.reg_records.proofs.ActLaws.{acts_kept}
use Rattle.reg_records.proofs.AdviceLaws.{advice_kept}
use Rattle.reg_records.proofs.EntryLaws.{entries_kept}
use Rattle.reg_records.proofs.GrantLaws.{grants_kept}
use Rattle.reg_records.specs.Acts.{act_values, stamp_values}
use Rattle.reg_records.specs.Columns.{whole_value}
use Rattle.reg_records.specs.Requests.Values.{request_values}
use Rattle.reg_records.specs.declared.acts.NumberedAct.{NumberedAct}
use Rattle.reg_records.proofs.DeedLaws.{deed_cells}
use Rattle.reg_records.proofs.HoldingLaws.{holdings_kept}
use Rattle.reg_records.proofs.HoldLaws.{holds_kept}
use Rattle.reg_records.proofs.LinkLaws.{links_kept}
use Rattle.reg_records.proofs.MinuteLaws.{minutes_kept}
use Rattle.reg_records.proofs.RangeLaws.{ranges_kept}
use Rattle.reg_records.proofs.RegistryLaws.{registries_kept}
use Rattle.reg_records.proofs.RequestLaws.Rows.{requests_kept}
use Rattle.reg_records.proofs.PrefixLaws.{prefixes_kept}
use Rattle.reg_records.proofs.SeatLaws.{seats_kept}
use Rattle.reg_tables.specs.Editing.{has_all}
use Rattle.reg_tables.specs.Selecting.{stored}
use Rattle.reg_tables.specs.Version.{newest}
use Rattle.reg_statements.specs.Content.{act_at, advice_at, cap_at, case_at, hold_at, holder_at, link_at}
use Rattle.reg_statements.specs.Content.{AreWhole, parts_in}
use Rattle.reg_statements.specs.Content.{max_at, minute_at, prefix_at, range_at, registration_at, seat_at}
use Rattle.reg_statements.specs.Defined.{IsDefined, IsKey}
use Rattle.reg_statements.specs.Office as office
use Rattle.reg_statements.specs.Parts.{TableDef, block_key, cells_of, link_key, name_key, number_key}
use Rattle.reg_statements.specs.Parts.{place_key, same_cells, seat_key, text_key}
use Rattle.reg_statements.specs.Tables.{put_tree, tables_in}
use Rattle.reg_statements.proofs.OfficeKeyTests.{block_test, name_test, seat_test}

-- ---- Keys

grouped : (a b c : Bool) → (a && (b && (c && true))) ≡ ((a && b) && c)
grouped true b c = ap (λ x. b && x) (and-true c)
grouped false b c = refl

-- whole numbers are compared as natural ones
pub whole_test : (m n : ℕ) → int_eq (pos m) (pos n) ≡ eq_by_cmp nat_cmp m n
whole_test m n = grind (arith, nat_tests)

number_tied : (m n : ℕ) → int_eq (pos m) (pos n) ≡ (m == n)
number_tied m n = grind (arith, nat_tests)

pub text_is_key : IsKey text_key
text_is_key = record { keys = text_keys; ties = λ a b. and-true _ ∙ text_test a b }

pub number_is_key : IsKey number_key
number_is_key = record { keys = number_keys; ties = λ a b. and-true _ ∙ whole_test a b }

pub name_is_key : IsKey name_key
name_is_key = record {
  keys = name_keys;
  ties = λ a b. ap (λ x. bytes_eq a.0 b.0 && x) (and-true (bytes_eq a.1 b.1)) ∙ name_test a b;
}

pub link_is_key : IsKey link_key
link_is_key = record {
  keys = link_keys;
  ties = λ a b. ap (λ x. bytes_eq a.0 b.0 && x) (and-true (bytes_eq a.1 b.1)) ∙ name_test a b;
}

pub place_is_key : IsKey place_key
place_is_key = record {
  keys = place_keys;
  ties = λ a b.
      ap (λ x. bytes_eq a.0 b.0 && x) (and-true (int_eq (pos a.1) (pos b.1)))
      ∙ pair_test text_cmp nat_cmp _ _ a b (text_test a.0 b.0) (whole_test a.1 b.1);
}

pub seat_is_key : IsKey seat_key
seat_is_key = record {
  keys = seat_keys;
  ties = λ a b.
      grouped (bytes_eq a.0.0 b.0.0) (bytes_eq a.0.1 b.0.1) (bytes_eq a.1 b.1) ∙ seat_test a b;
}

word_test : (a b : Size) → bytes_eq (word_of a) (word_of b) ≡ (prefix_bits a == prefix_bits b)
word_test MaL MaL = refl
word_test MaM MaM = refl
word_test MaS MaS = refl
word_test _ _ = refl

pub block_is_key : IsKey block_key
block_is_key = record {
  keys = block_keys;
  ties = λ a b.
      (λ i. number_tied (first_address a) (first_address b) i
      && and-true (bytes_eq (word_of a.size) (word_of b.size)) i)
      ∙ ap (λ x. (first_address a == first_address b) && x) (word_test a.size b.size)
      ∙ block_test a b;
}

-- ---- Tables

stored_row : (id : Value) (a : Ask) (r : Request) → r.ask ≡ a
    → stored 25 (id ∷ request_values r) ≡ request_values r
stored_row id (ask.Code a) r is = rw is refl
stored_row id _ r is = rw is refl

stored_act : (id : Value) (a : NumberedAct) → stored 13 (id ∷ act_values a) ≡ act_values a
stored_act id a =
    ap (λ cells. whole_value a.number ∷ stamp_values a.act.stamp ++ cells) (deed_cells a.act.deed)

-- A definition of a table is right where its key is, its rows keep what is written, and the rest
-- computes: what follows the two about rows is found by refl.
defined_by : {T K X : Type 0} (d : TableDef T K X) → IsKey d.key
    → ((t : T) → d.form t ≡ true → d.read (d.values t) ≡ Some t)
    → ((row : Row) (t : T) → d.read (stored d.width row) ≡ Some t → stored d.width row ≡ d.values t)
    → d.at ≡ (λ row. option_map d.pair (d.read (stored d.width row)))
    → ((t : T) → d.item (d.pair t).0 (d.pair t).1 ≡ t)
    → ((id : Value) (t : T) → stored d.width (id ∷ d.values t) ≡ d.values t)
    → ((t : T) → take d.key.width (d.values t) ≡ d.key.cells (d.pair t).0)
    → ((row : Row) (k : K) → has_all (cells_of d.key.width (d.key.cells k)) row
    ≡ same_cells (take d.key.width (stored d.width row)) (d.key.cells k))
    → ((trees : Trees) → d.rows (tables_in trees) ≡ trees d.table.tree)
    → ((trees : Trees) → d.part (parts_in (tables_in trees)) ≡ held_in d.at (trees d.table.tree))
    → ((trees : Trees) (rows : List Row)
    → parts_in (tables_in (put_tree d.table.tree rows trees))
    ≡ d.put (held_in d.at rows) (parts_in (tables_in trees)))
    → ((trees : Trees) → AreWhole newest (tables_in trees)
    → IsTable d.key.order d.at (trees d.table.tree))
    → ((trees : Trees) (rows : List Row) → IsTable d.key.order d.at rows
    → AreWhole newest (tables_in trees)
    → AreWhole newest (tables_in (put_tree d.table.tree rows trees)))
    → IsDefined d
defined_by d key back exact at item whole first tests rows part put held kept =
    record { key = key; at = at; item = item; back = back; exact = exact; whole = whole; first = first; tests = tests; rows = rows; part = part; put = put; held = held; kept = kept }

pub caps : IsDefined office.caps
unfolding cap_at
caps =
    defined_by office.caps text_is_key grants_kept.back (λ row. grants_kept.exact (stored 4 row)) refl
    (λ t. refl) (λ id t. refl) (λ t. refl) (λ row k. refl) (λ trees. refl) (λ trees. refl)
    (λ trees rows. refl) (λ trees was. was.1.0)
    (λ trees rows held was. (was.0, (held, was.1.1)))

pub registries : IsDefined office.registries
unfolding max_at
registries =
    defined_by office.registries text_is_key registries_kept.back (λ row. registries_kept.exact (stored 2 row)) refl
    (λ t. refl) (λ id t. refl) (λ t. refl) (λ row k. refl) (λ trees. refl) (λ trees. refl)
    (λ trees rows. refl) (λ trees was. was.1.1.0)
    (λ trees rows held was. (was.0, (was.1.0, (held, was.1.1.1))))

pub ranges : IsDefined office.ranges
unfolding range_at
ranges =
    defined_by office.ranges place_is_key ranges_kept.back (λ row. ranges_kept.exact (stored 5 row)) refl
    (λ t. refl) (λ id t. refl) (λ t. refl) (λ row k. refl) (λ trees. refl) (λ trees. refl)
    (λ trees rows. refl) (λ trees was. was.1.1.1.0)
    (λ trees rows held was. (was.0, (was.1.0, (was.1.1.0, (held, was.1.1.1.1)))))

pub entries : IsDefined office.entries
unfolding registration_at
entries =
    defined_by office.entries place_is_key entries_kept.back (λ row. entries_kept.exact (stored 7 row)) refl
    (λ t. refl) (λ id t. refl) (λ t. refl) (λ row k. refl) (λ trees. refl) (λ trees. refl)
    (λ trees rows. refl) (λ trees was. was.1.1.1.1.0)
    (λ trees rows held was. (was.0, (was.1.0, (was.1.1.0, (was.1.1.1.0, (held, was.1.1.1.1.1))))))

pub requests : IsDefined office.requests
unfolding case_at
requests =
    defined_by office.requests name_is_key requests_kept.back (λ row. requests_kept.exact (stored 25 row)) refl
    (λ t. refl) (λ id r. stored_row id r.ask r refl) (λ t. refl) (λ row k. refl) (λ trees. refl) (λ trees. refl)
    (λ trees rows. refl) (λ trees was. was.1.1.1.1.1.0)
    (λ trees rows held was. (was.0, (was.1.0, (was.1.1.0, (was.1.1.1.0, (was.1.1.1.1.0, (held, was.1.1.1.1.1.1)))))))

pub queue : IsDefined office.queue
unfolding seat_at
queue =
    defined_by office.queue seat_is_key seats_kept.back (λ row. seats_kept.exact (stored 3 row)) refl
    (λ t. refl) (λ id t. refl) (λ t. refl) (λ row k. refl) (λ trees. refl) (λ trees. refl)
    (λ trees rows. refl) (λ trees was. was.1.1.1.1.1.1.0)
    (λ trees rows held was. (was.0, (was.1.0, (was.1.1.0, (was.1.1.1.0, (was.1.1.1.1.0, (was.1.1.1.1.1.0, (held, was.1.1.1.1.1.1.1))))))))

pub advice : IsDefined office.advice
unfolding advice_at
advice =
    defined_by office.advice seat_is_key advice_kept.back (λ row. advice_kept.exact (stored 5 row)) refl
    (λ t. refl) (λ id t. refl) (λ t. refl) (λ row k. refl) (λ trees. refl) (λ trees. refl)
    (λ trees rows. refl) (λ trees was. was.1.1.1.1.1.1.1.0)
    (λ trees rows held was. (was.0, (was.1.0, (was.1.1.0, (was.1.1.1.0, (was.1.1.1.1.0, (was.1.1.1.1.1.0, (was.1.1.1.1.1.1.0, (held, was.1.1.1.1.1.1.1.1)))))))))

pub pool : IsDefined office.pool
unfolding prefix_at
pool =
    defined_by office.pool number_is_key prefixes_kept.back (λ row. prefixes_kept.exact (stored 1 row)) refl
    (λ t. refl) (λ id t. refl) (λ t. refl) (λ row k. refl) (λ trees. refl) (λ trees. refl)
    (λ trees rows. refl) (λ trees was. was.1.1.1.1.1.1.1.1.0)
    (λ trees rows held was. (was.0, (was.1.0, (was.1.1.0, (was.1.1.1.0, (was.1.1.1.1.0, (was.1.1.1.1.1.0, (was.1.1.1.1.1.1.0, (was.1.1.1.1.1.1.1.0, (held, was.1.1.1.1.1.1.1.1.1))))))))))

pub blocks : IsDefined office.blocks
unfolding holder_at
blocks =
    defined_by office.blocks block_is_key holdings_kept.back (λ row. holdings_kept.exact (stored 6 row)) refl
    (λ t. refl) (λ id t. refl) (λ t. refl) (λ row k. refl) (λ trees. refl) (λ trees. refl)
    (λ trees rows. refl) (λ trees was. was.1.1.1.1.1.1.1.1.1.0)
    (λ trees rows held was. (was.0, (was.1.0, (was.1.1.0, (was.1.1.1.0, (was.1.1.1.1.0, (was.1.1.1.1.1.0, (was.1.1.1.1.1.1.0, (was.1.1.1.1.1.1.1.0, (was.1.1.1.1.1.1.1.1.0, (held, was.1.1.1.1.1.1.1.1.1.1)))))))))))

pub holds : IsDefined office.holds
unfolding hold_at
holds =
    defined_by office.holds place_is_key holds_kept.back (λ row. holds_kept.exact (stored 2 row)) refl
    (λ t. refl) (λ id t. refl) (λ t. refl) (λ row k. refl) (λ trees. refl) (λ trees. refl)
    (λ trees rows. refl) (λ trees was. was.1.1.1.1.1.1.1.1.1.1.0)
    (λ trees rows held was. (was.0, (was.1.0, (was.1.1.0, (was.1.1.1.0, (was.1.1.1.1.0, (was.1.1.1.1.1.0, (was.1.1.1.1.1.1.0, (was.1.1.1.1.1.1.1.0, (was.1.1.1.1.1.1.1.1.0, (was.1.1.1.1.1.1.1.1.1.0, (held, was.1.1.1.1.1.1.1.1.1.1.1))))))))))))

pub minutes : IsDefined office.minutes
unfolding minute_at
minutes =
    defined_by office.minutes name_is_key minutes_kept.back (λ row. minutes_kept.exact (stored 3 row)) refl
    (λ t. refl) (λ id t. refl) (λ t. refl) (λ row k. refl) (λ trees. refl) (λ trees. refl)
    (λ trees rows. refl) (λ trees was. was.1.1.1.1.1.1.1.1.1.1.1.0)
    (λ trees rows held was. (was.0, (was.1.0, (was.1.1.0, (was.1.1.1.0, (was.1.1.1.1.0, (was.1.1.1.1.1.0, (was.1.1.1.1.1.1.0, (was.1.1.1.1.1.1.1.0, (was.1.1.1.1.1.1.1.1.0, (was.1.1.1.1.1.1.1.1.1.0, (was.1.1.1.1.1.1.1.1.1.1.0, (held, was.1.1.1.1.1.1.1.1.1.1.1.1)))))))))))))

pub agents : IsDefined office.agents
unfolding link_at
agents =
    defined_by office.agents link_is_key links_kept.back (λ row. links_kept.exact (stored 2 row)) refl
    (λ t. refl) (λ id t. refl) (λ t. refl) (λ row k. refl) (λ trees. refl) (λ trees. refl)
    (λ trees rows. refl) (λ trees was. was.1.1.1.1.1.1.1.1.1.1.1.1.0)
    (λ trees rows held was. (was.0, (was.1.0, (was.1.1.0, (was.1.1.1.0, (was.1.1.1.1.0, (was.1.1.1.1.1.0, (was.1.1.1.1.1.1.0, (was.1.1.1.1.1.1.1.0, (was.1.1.1.1.1.1.1.1.0, (was.1.1.1.1.1.1.1.1.1.0, (was.1.1.1.1.1.1.1.1.1.1.0, (was.1.1.1.1.1.1.1.1.1.1.1.0, (held, was.1.1.1.1.1.1.1.1.1.1.1.1.1))))))))))))))

pub journal : IsDefined office.journal
unfolding act_at
journal =
    defined_by office.journal number_is_key acts_kept.back (λ row. acts_kept.exact (stored 13 row)) refl
    (λ t. refl) stored_act (λ t. refl) (λ row k. refl) (λ trees. refl) (λ trees. refl)
    (λ trees rows. refl) (λ trees was. was.1.1.1.1.1.1.1.1.1.1.1.1.1)
    (λ trees rows held was. (was.0, (was.1.0, (was.1.1.0, (was.1.1.1.0, (was.1.1.1.1.0, (was.1.1.1.1.1.0, (was.1.1.1.1.1.1.0, (was.1.1.1.1.1.1.1.0, (was.1.1.1.1.1.1.1.1.0, (was.1.1.1.1.1.1.1.1.1.0, (was.1.1.1.1.1.1.1.1.1.1.0, (was.1.1.1.1.1.1.1.1.1.1.1.0, (was.1.1.1.1.1.1.1.1.1.1.1.1.0, held))))))))))))))
