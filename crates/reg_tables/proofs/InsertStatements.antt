-- The statements that add a row to each table.
use Rattle.std.proofs.Common.{refl}
use Rattle.sqlite.specs.Listing.{understood}
use Rattle.sqlite_tied.specs.Compute.{everything}
use Rattle.reg_tables.specs.Schema.{office_table, caps_table, registries_table, ranges_table}
use Rattle.reg_tables.specs.Schema.{requests_table, queue_table, pool_table}
use Rattle.reg_tables.specs.Schema.{blocks_table, holds_table, minutes_table, agents_table, journal_table}
use Rattle.reg_tables.specs.declared.texts.TheConstants as texts
use Rattle.reg_tables.proofs.GivenRows.{AddsGiven}

pub adds_version : AddsGiven texts.INSERT_VERSION.now 0 office_table
unfolding understood everything
adds_version = record { slot = refl; is = refl; plain = (refl, refl); counts = refl; stamps = refl; writes = refl }

pub adds_caps : AddsGiven texts.INSERT_CAPS.now 1 caps_table
unfolding understood everything
adds_caps = record { slot = refl; is = refl; plain = (refl, refl); counts = refl; stamps = refl; writes = refl }

pub adds_registries : AddsGiven texts.INSERT_REGISTRIES.now 2 registries_table
unfolding understood everything
adds_registries = record { slot = refl; is = refl; plain = (refl, refl); counts = refl; stamps = refl; writes = refl }

pub adds_ranges : AddsGiven texts.INSERT_RANGES.now 3 ranges_table
unfolding understood everything
adds_ranges = record { slot = refl; is = refl; plain = (refl, refl); counts = refl; stamps = refl; writes = refl }

pub adds_requests : AddsGiven texts.INSERT_REQUESTS.now 5 requests_table
unfolding understood everything
adds_requests = record { slot = refl; is = refl; plain = (refl, refl); counts = refl; stamps = refl; writes = refl }

pub adds_queue : AddsGiven texts.INSERT_QUEUE.now 6 queue_table
unfolding understood everything
adds_queue = record { slot = refl; is = refl; plain = (refl, refl); counts = refl; stamps = refl; writes = refl }

pub adds_pool : AddsGiven texts.INSERT_POOL.now 8 pool_table
unfolding understood everything
adds_pool = record { slot = refl; is = refl; plain = (refl, refl); counts = refl; stamps = refl; writes = refl }

pub adds_blocks : AddsGiven texts.INSERT_BLOCKS.now 9 blocks_table
unfolding understood everything
adds_blocks = record { slot = refl; is = refl; plain = (refl, refl); counts = refl; stamps = refl; writes = refl }

pub adds_holds : AddsGiven texts.INSERT_HOLDS.now 10 holds_table
unfolding understood everything
adds_holds = record { slot = refl; is = refl; plain = (refl, refl); counts = refl; stamps = refl; writes = refl }

pub adds_minutes : AddsGiven texts.INSERT_MINUTES.now 11 minutes_table
unfolding understood everything
adds_minutes = record { slot = refl; is = refl; plain = (refl, refl); counts = refl; stamps = refl; writes = refl }

pub adds_agents : AddsGiven texts.INSERT_AGENTS.now 12 agents_table
unfolding understood everything
adds_agents = record { slot = refl; is = refl; plain = (refl, refl); counts = refl; stamps = refl; writes = refl }

pub adds_acts : AddsGiven texts.INSERT_JOURNAL.now 13 journal_table
unfolding understood everything
adds_acts = record { slot = refl; is = refl; plain = (refl, refl); counts = refl; stamps = refl; writes = refl }
