-- What the queries of an office select.
use Rattle.std.proofs.Common.{[], ◌∷◌, ◌++◌, codes, refl}
use Rattle.sqlite.specs.Listing.{understood}
use Rattle.sqlite_tied.specs.Compute.{everything}
use Rattle.reg_tables.specs.Joining.{queued_query}
use Rattle.reg_tables.specs.Schema.{advice_table, agents_table, blocks_table, caps_table, entries_table}
use Rattle.reg_tables.specs.Schema.{holds_table, journal_table, minutes_table, office_table, pool_table, queue_table}
use Rattle.reg_tables.specs.Schema.{ranges_table, registries_table, requests_table}
use Rattle.reg_tables.specs.Seats.{seats_query}
use Rattle.reg_tables.specs.Selecting.{IsTextOf, SelectsFrom, column_names, columns_of, equals, ordered_by}
use Rattle.reg_tables.specs.declared.texts.TheConstants as texts

-- ---- The version

pub office_version : SelectsFrom 1 texts.SELECT_VERSION.now 0 [] (columns_of 1) []
unfolding understood everything
office_version = record { names = column_names office_table; is = λ _ _. refl; plain = (refl, refl); unlisted = λ _ _. refl }

-- ---- Capabilities

pub cap_by_key : SelectsFrom 2 texts.SELECT_CAP.now 1 (equals ((1, 0) ∷ [])) (columns_of 4) []
unfolding understood everything
cap_by_key = record { names = column_names caps_table; is = λ _ _. refl; plain = (refl, refl); unlisted = λ _ _. refl }

-- ---- Registries

pub registry_by_key : SelectsFrom 3 texts.SELECT_REGISTRY.now 3 (equals ((1, 0) ∷ [])) (columns_of 2) []
unfolding understood everything
registry_by_key = record { names = column_names registries_table; is = λ _ _. refl; plain = (refl, refl); unlisted = λ _ _. refl }

pub all_registries : SelectsFrom 3 texts.SELECT_REGISTRIES.now 3 [] (columns_of 2) (ordered_by (1 ∷ []))
unfolding understood everything
all_registries = record { names = column_names registries_table; is = λ _ _. refl; plain = (refl, refl); unlisted = λ _ _. refl }

-- ---- Ranges

pub ranges_of_registry : SelectsFrom 4 texts.SELECT_RANGES_OF.now 5 (equals ((1, 0) ∷ []))
    (columns_of 5) (ordered_by (2 ∷ []))
unfolding understood everything
ranges_of_registry = record { names = column_names ranges_table; is = λ _ _. refl; plain = (refl, refl); unlisted = λ _ _. refl }

pub all_ranges : SelectsFrom 4 texts.SELECT_RANGES.now 5 [] (columns_of 5) (ordered_by (1 ∷ 2 ∷ []))
unfolding understood everything
all_ranges = record { names = column_names ranges_table; is = λ _ _. refl; plain = (refl, refl); unlisted = λ _ _. refl }

-- ---- Entries

pub entry_by_key : SelectsFrom 5 texts.SELECT_ENTRY.now 7 (equals ((1, 0) ∷ (2, 1) ∷ []))
    (columns_of 7) []
unfolding understood everything
entry_by_key = record { names = column_names entries_table; is = λ _ _. refl; plain = (refl, refl); unlisted = λ _ _. refl }

pub entries_of_registry : SelectsFrom 5 texts.SELECT_ENTRIES_OF.now 7 (equals ((1, 0) ∷ []))
    (columns_of 7) (ordered_by (2 ∷ []))
unfolding understood everything
entries_of_registry = record { names = column_names entries_table; is = λ _ _. refl; plain = (refl, refl); unlisted = λ _ _. refl }

pub all_entries : SelectsFrom 5 texts.SELECT_ENTRIES.now 7 [] (columns_of 7) (ordered_by (1 ∷ 2 ∷ []))
unfolding understood everything
all_entries = record { names = column_names entries_table; is = λ _ _. refl; plain = (refl, refl); unlisted = λ _ _. refl }

-- ---- Requests

pub request_by_key : SelectsFrom 6 texts.SELECT_REQUEST.now 9 (equals ((1, 0) ∷ (2, 1) ∷ []))
    (columns_of 25) []
unfolding understood everything
request_by_key = record { names = column_names requests_table; is = λ _ _. refl; plain = (refl, refl); unlisted = λ _ _. refl }

pub requests_of_account : SelectsFrom 6 texts.SELECT_REQUESTS_OF.now 9 (equals ((1, 0) ∷ []))
    (columns_of 25) (ordered_by (2 ∷ []))
unfolding understood everything
requests_of_account = record { names = column_names requests_table; is = λ _ _. refl; plain = (refl, refl); unlisted = λ _ _. refl }

pub all_requests : SelectsFrom 6 texts.SELECT_REQUESTS.now 9 []
    (columns_of 25) (ordered_by (1 ∷ 2 ∷ []))
unfolding understood everything
all_requests = record { names = column_names requests_table; is = λ _ _. refl; plain = (refl, refl); unlisted = λ _ _. refl }

pub requests_in_state : SelectsFrom 6 texts.SELECT_PENDING.now 9 (equals ((23, 0) ∷ []))
    (columns_of 25) (ordered_by (23 ∷ 1 ∷ 2 ∷ []))
unfolding understood everything
requests_in_state = record { names = column_names requests_table; is = λ _ _. refl; plain = (refl, refl); unlisted = λ _ _. refl }

-- ---- The queue

pub queue_by_key : SelectsFrom 7 texts.SELECT_QUEUE_ROW.now 11 (equals ((1, 0) ∷ (2, 1) ∷ (3, 2) ∷ []))
    (columns_of 3) []
unfolding understood everything
queue_by_key = record { names = column_names queue_table; is = λ _ _. refl; plain = (refl, refl); unlisted = λ _ _. refl }

-- ---- The queue of an expert

pub queued_of_expert : IsTextOf 8 texts.SELECT_QUEUED.now queued_query
unfolding understood everything
queued_of_expert = record { names = column_names requests_table ++ codes "verdict" ∷ codes "text" ∷ []; is = λ _ _. refl; plain = (refl, refl); unlisted = λ _ _. refl }

-- ---- The experts of a request

pub seats_of_request : IsTextOf 8 texts.SELECT_SEATS.now seats_query
unfolding understood everything
seats_of_request = record { names = column_names advice_table; is = λ _ _. refl; plain = (refl, refl); unlisted = λ _ _. refl }

-- ---- Advice

pub advice_by_key : SelectsFrom 8 texts.SELECT_ADVICE_ROW.now 14 (equals ((1, 0) ∷ (2, 1) ∷ (3, 2) ∷ []))
    (columns_of 5) []
unfolding understood everything
advice_by_key = record { names = column_names advice_table; is = λ _ _. refl; plain = (refl, refl); unlisted = λ _ _. refl }

-- ---- The pool

pub prefix_by_key : SelectsFrom 9 texts.SELECT_PREFIX.now 16 (equals ((1, 0) ∷ [])) (columns_of 1) []
unfolding understood everything
prefix_by_key = record { names = column_names pool_table; is = λ _ _. refl; plain = (refl, refl); unlisted = λ _ _. refl }

pub all_pool : SelectsFrom 9 texts.SELECT_POOL.now 16 [] (columns_of 1) (ordered_by (1 ∷ []))
unfolding understood everything
all_pool = record { names = column_names pool_table; is = λ _ _. refl; plain = (refl, refl); unlisted = λ _ _. refl }

-- ---- Blocks

pub block_by_key : SelectsFrom 10 texts.SELECT_BLOCK.now 18 (equals ((1, 0) ∷ [])) (columns_of 6) []
unfolding understood everything
block_by_key = record { names = column_names blocks_table; is = λ _ _. refl; plain = (refl, refl); unlisted = λ _ _. refl }

pub blocks_of_holder : SelectsFrom 10 texts.SELECT_BLOCKS_OF.now 18 (equals ((3, 0) ∷ []))
    (columns_of 6) (ordered_by (1 ∷ []))
unfolding understood everything
blocks_of_holder = record { names = column_names blocks_table; is = λ _ _. refl; plain = (refl, refl); unlisted = λ _ _. refl }

pub all_blocks : SelectsFrom 10 texts.SELECT_BLOCKS.now 18 [] (columns_of 6) (ordered_by (1 ∷ []))
unfolding understood everything
all_blocks = record { names = column_names blocks_table; is = λ _ _. refl; plain = (refl, refl); unlisted = λ _ _. refl }

-- ---- Entries that are held

pub hold_by_key : SelectsFrom 11 texts.SELECT_HOLD.now 21 (equals ((1, 0) ∷ (2, 1) ∷ []))
    (columns_of 2) []
unfolding understood everything
hold_by_key = record { names = column_names holds_table; is = λ _ _. refl; plain = (refl, refl); unlisted = λ _ _. refl }

pub holds_of_registry : SelectsFrom 11 texts.SELECT_HOLDS_OF.now 21 (equals ((1, 0) ∷ []))
    (columns_of 2) (ordered_by (2 ∷ []))
unfolding understood everything
holds_of_registry = record { names = column_names holds_table; is = λ _ _. refl; plain = (refl, refl); unlisted = λ _ _. refl }

-- ---- Minutes

pub minute_by_key : SelectsFrom 12 texts.SELECT_MINUTE.now 23 (equals ((1, 0) ∷ (2, 1) ∷ []))
    (columns_of 3) []
unfolding understood everything
minute_by_key = record { names = column_names minutes_table; is = λ _ _. refl; plain = (refl, refl); unlisted = λ _ _. refl }

-- ---- Agents

pub agent_by_key : SelectsFrom 13 texts.SELECT_AGENT.now 25 (equals ((1, 0) ∷ (2, 1) ∷ []))
    (columns_of 2) []
unfolding understood everything
agent_by_key = record { names = column_names agents_table; is = λ _ _. refl; plain = (refl, refl); unlisted = λ _ _. refl }

pub agents_of_principal : SelectsFrom 13 texts.SELECT_AGENTS_OF.now 25 (equals ((1, 0) ∷ []))
    (columns_of 2) (ordered_by (2 ∷ []))
unfolding understood everything
agents_of_principal = record { names = column_names agents_table; is = λ _ _. refl; plain = (refl, refl); unlisted = λ _ _. refl }

pub principals_of_agent : SelectsFrom 13 texts.SELECT_PRINCIPALS_OF.now 25 (equals ((2, 0) ∷ []))
    (columns_of 2) (ordered_by (1 ∷ []))
unfolding understood everything
principals_of_agent = record { names = column_names agents_table; is = λ _ _. refl; plain = (refl, refl); unlisted = λ _ _. refl }

-- ---- Acts

pub all_acts : SelectsFrom 14 texts.SELECT_JOURNAL.now 28 [] (columns_of 13) (ordered_by (1 ∷ []))
unfolding understood everything
all_acts = record { names = column_names journal_table; is = λ _ _. refl; plain = (refl, refl); unlisted = λ _ _. refl }

pub acts_of_day : SelectsFrom 14 texts.SELECT_ACTS_ON.now 28 (equals ((2, 0) ∷ []))
    (columns_of 13) (ordered_by (1 ∷ []))
unfolding understood everything
acts_of_day = record { names = column_names journal_table; is = λ _ _. refl; plain = (refl, refl); unlisted = λ _ _. refl }

pub acts_of_actor : SelectsFrom 14 texts.SELECT_ACTS_BY.now 28 (equals ((4, 0) ∷ []))
    (columns_of 13) (ordered_by (1 ∷ []))
unfolding understood everything
acts_of_actor = record { names = column_names journal_table; is = λ _ _. refl; plain = (refl, refl); unlisted = λ _ _. refl }

pub acts_of_request : SelectsFrom 14 texts.SELECT_ACTS_ABOUT.now 28 (equals ((7, 0) ∷ (8, 1) ∷ []))
    (columns_of 13) (ordered_by (1 ∷ []))
unfolding understood everything
acts_of_request = record { names = column_names journal_table; is = λ _ _. refl; plain = (refl, refl); unlisted = λ _ _. refl }
