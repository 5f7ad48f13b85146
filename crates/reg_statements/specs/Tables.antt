-- The rows of an office's tables.
use Rattle.std.specs.Prelude.{◌≡◌, ◌≢◌, ◌==◌, if◌then◌else◌, ℕ, List}
use Rattle.sqlite.specs.Order.{Row}
use Rattle.sqlite.specs.Tree.{Trees}
use Rattle.sqlite_rules.specs.Edit.{IsNoIndex}
use Rattle.reg_tables.specs.Schema.{office_schema, office_table, caps_table, registries_table, ranges_table, entries_table, requests_table, queue_table, advice_table, pool_table, blocks_table}
use Rattle.reg_tables.specs.Schema.{holds_table, minutes_table, agents_table, journal_table}

-- the rows of the tables; those of a database
pub record Tables : Type 0 where
  pub office : List Row
  pub caps : List Row
  pub registries : List Row
  pub ranges : List Row
  pub entries : List Row
  pub requests : List Row
  pub queue : List Row
  pub advice : List Row
  pub pool : List Row
  pub blocks : List Row
  pub holds : List Row
  pub minutes : List Row
  pub agents : List Row
  pub journal : List Row

abbrev pub tables_in : Trees → Tables
tables_in trees = record {
  office = trees office_table.tree;
  caps = trees caps_table.tree;
  registries = trees registries_table.tree;
  ranges = trees ranges_table.tree;
  entries = trees entries_table.tree;
  requests = trees requests_table.tree;
  queue = trees queue_table.tree;
  advice = trees advice_table.tree;
  pool = trees pool_table.tree;
  blocks = trees blocks_table.tree;
  holds = trees holds_table.tree;
  minutes = trees minutes_table.tree;
  agents = trees agents_table.tree;
  journal = trees journal_table.tree;
}

-- each tree that is neither this one nor an index's is as it was
abbrev pub OthersStay : ℕ → Trees → Trees → Type 0
OthersStay t old new = (u : ℕ) → u ≢ t → IsNoIndex office_schema u → new u ≡ old u

-- with these rows in one tree
abbrev pub put_tree : ℕ → List Row → Trees → Trees
put_tree t rows trees = λ u. if u == t then rows else trees u
