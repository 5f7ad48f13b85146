-- Where the rows of one table changed alone, the others have the same rows.
use Rattle.std.proofs.Common.{◌≡◌, ℕ, ◌==◌, cond, Bool, true, false, refl, ap}
use Rattle.std.proofs.lemmas.Bool.{eqb-false, eqb-true}
use Rattle.std.specs.List.{list_all}
use Rattle.sqlite.specs.Tree.{Trees}
use Rattle.reg_tables.specs.Schema.{office_schema, office_table, caps_table, registries_table}
use Rattle.reg_tables.specs.Schema.{ranges_table, entries_table, requests_table, queue_table}
use Rattle.reg_tables.specs.Schema.{advice_table, pool_table, blocks_table, holds_table}
use Rattle.reg_tables.specs.Schema.{minutes_table, agents_table, journal_table}
use Rattle.reg_tables.proofs.InsertLemmas.{is_apart, unindexed}
use Rattle.reg_statements.specs.Tables.{OthersStay, put_tree, tables_in}

module _ (t : ℕ) (old new : Trees) (rest : OthersStay t old new) where
  at : (u : ℕ) → list_all (is_apart u) office_schema.indexes ≡ true → new u ≡ put_tree t (new t) old u
  at u none = go (u == t) refl
    where
      go : (b : Bool) → (u == t) ≡ b → new u ≡ cond b (new t) (old u)
      go true e = ap new (eqb-true u t e)
      go false e = rest u (eqb-false u t e) (unindexed u none)

  pub only_one : tables_in new ≡ tables_in (put_tree t (new t) old)
  only_one = λ i. record {
    office = at office_table.tree refl i;
    caps = at caps_table.tree refl i;
    registries = at registries_table.tree refl i;
    ranges = at ranges_table.tree refl i;
    entries = at entries_table.tree refl i;
    requests = at requests_table.tree refl i;
    queue = at queue_table.tree refl i;
    advice = at advice_table.tree refl i;
    pool = at pool_table.tree refl i;
    blocks = at blocks_table.tree refl i;
    holds = at holds_table.tree refl i;
    minutes = at minutes_table.tree refl i;
    agents = at agents_table.tree refl i;
    journal = at journal_table.tree refl i;
  }
