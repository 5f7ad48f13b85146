-- Each CREATE TABLE of an office defines its table, whatever tables there are.
use Rattle.std.proofs.Common.{ℕ, zero, suc, List, [], ◌∷◌, drop, refl}
use Rattle.sqlite.specs.Table.{Table}
use Rattle.sqlite_schema.specs.Names.{same_name}
use Rattle.sqlite_tied.specs.Compute.{everything}
use Rattle.reg_tables.specs.Having.{AreDefined, AreNamed, Defines, unplaced}
use Rattle.reg_tables.specs.Making.{AreCountless}
use Rattle.reg_tables.specs.Schema.{advice_table, agents_table, blocks_table, caps_table, entries_table}
use Rattle.reg_tables.specs.Schema.{holds_table, journal_table, minutes_table, office_schema, office_table, office_texts}
use Rattle.reg_tables.specs.Schema.{pool_table, queue_table, ranges_table, registries_table, requests_table}
use Rattle.reg_tables.specs.declared.texts.TheConstants as texts

office_defined : Defines texts.MAKE_OFFICE.now (unplaced office_table)
unfolding everything
office_defined = record { parsed = _; is = refl; makes = refl; whole = refl; defined = refl }

caps_defined : Defines texts.MAKE_CAPS.now (unplaced caps_table)
unfolding everything
caps_defined = record { parsed = _; is = refl; makes = refl; whole = refl; defined = refl }

registries_defined : Defines texts.MAKE_REGISTRIES.now (unplaced registries_table)
unfolding everything
registries_defined = record { parsed = _; is = refl; makes = refl; whole = refl; defined = refl }

ranges_defined : Defines texts.MAKE_RANGES.now (unplaced ranges_table)
unfolding everything
ranges_defined = record { parsed = _; is = refl; makes = refl; whole = refl; defined = refl }

entries_defined : Defines texts.MAKE_ENTRIES.now (unplaced entries_table)
unfolding everything
entries_defined = record { parsed = _; is = refl; makes = refl; whole = refl; defined = refl }

requests_defined : Defines texts.MAKE_REQUESTS.now (unplaced requests_table)
unfolding everything
requests_defined = record { parsed = _; is = refl; makes = refl; whole = refl; defined = refl }

queue_defined : Defines texts.MAKE_QUEUE.now (unplaced queue_table)
unfolding everything
queue_defined = record { parsed = _; is = refl; makes = refl; whole = refl; defined = refl }

advice_defined : Defines texts.MAKE_ADVICE.now (unplaced advice_table)
unfolding everything
advice_defined = record { parsed = _; is = refl; makes = refl; whole = refl; defined = refl }

pool_defined : Defines texts.MAKE_POOL.now (unplaced pool_table)
unfolding everything
pool_defined = record { parsed = _; is = refl; makes = refl; whole = refl; defined = refl }

blocks_defined : Defines texts.MAKE_BLOCKS.now (unplaced blocks_table)
unfolding everything
blocks_defined = record { parsed = _; is = refl; makes = refl; whole = refl; defined = refl }

holds_defined : Defines texts.MAKE_HOLDS.now (unplaced holds_table)
unfolding everything
holds_defined = record { parsed = _; is = refl; makes = refl; whole = refl; defined = refl }

minutes_defined : Defines texts.MAKE_MINUTES.now (unplaced minutes_table)
unfolding everything
minutes_defined = record { parsed = _; is = refl; makes = refl; whole = refl; defined = refl }

agents_defined : Defines texts.MAKE_AGENTS.now (unplaced agents_table)
unfolding everything
agents_defined = record { parsed = _; is = refl; makes = refl; whole = refl; defined = refl }

journal_defined : Defines texts.MAKE_JOURNAL.now (unplaced journal_table)
unfolding everything
journal_defined = record { parsed = _; is = refl; makes = refl; whole = refl; defined = refl }

pub all_defined : AreDefined office_texts office_schema.tables
all_defined = (office_defined, (caps_defined, (registries_defined, (ranges_defined, (entries_defined, (requests_defined, (queue_defined, (advice_defined, (pool_defined, (blocks_defined, (holds_defined, (minutes_defined, (agents_defined, (journal_defined, tt))))))))))))))

pub all_named : AreNamed office_schema.tables
unfolding same_name
all_named = refl

pub all_countless : AreCountless office_schema.tables
all_countless = refl

-- so do those that are left after some
pub defined_drop : (n : ℕ) (texts : List (List ℕ)) (tables : List Table)
    → AreDefined texts tables → AreDefined (drop n texts) (drop n tables)
defined_drop zero texts tables defined = defined
defined_drop (suc n) [] [] defined = tt
defined_drop (suc n) [] (t ∷ tables) defined = absurd defined
defined_drop (suc n) (text ∷ texts) [] defined = absurd defined
defined_drop (suc n) (text ∷ texts) (t ∷ tables) defined =
    defined_drop n texts tables defined.1
