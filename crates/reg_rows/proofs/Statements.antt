-- What the statements of each table do, by its definition.
use Rattle.std.proofs.Common.{◌≡◌, ℕ, ◌+◌, pos, true, if◌then◌else◌, List, [], ◌∷◌, length, Bool}
use Rattle.std.proofs.Common.{refl, ap, ◌∙◌, Option, Some, None, option_map}
use Rattle.std.proofs.Math.Bool.{and-true}
use Rattle.std.specs.Ordering.{eq_by_cmp, nat_cmp}
use Rattle.sqlite.specs.Cast.{cast, cast_all}
use Rattle.sqlite.specs.Kind.TheVariants as kind
use Rattle.sqlite.specs.Kind.TheVariants.{Integer}
use Rattle.sqlite.specs.Order.{Row}
use Rattle.sqlite.specs.Term.{Term}
use Rattle.sqlite.specs.Values.{or_null}
use Rattle.sqlite.specs.declared.types.Value.{Value}
use Rattle.sqlite.specs.declared.types.Value.TheVariants.{Text}
use Rattle.sqlite_schema.specs.Rules.{is_of}
use Rattle.sqlite_value.specs.declared.keys.Key.{Key}
use Rattle.reg_maps.specs.Maps.{same_text}
use Rattle.reg_blocks.specs.Block.{SizedPrefix, first_address}
use Rattle.reg_core.specs.Advice.{verdict_word}
use Rattle.reg_core.specs.Holding.{with_mark}
use Rattle.reg_core.specs.Journal.{is_about, is_by, is_on}
use Rattle.reg_core.specs.Request.{has_state_form, is_pending, state_word, word_of}
use Rattle.reg_core.specs.World.{Link, Place, RequestName, Seat, in_state, name_cmp}
use Rattle.reg_core.specs.declared.request.State as request
use Rattle.reg_core.specs.declared.request.StateWord.TheVariants.{Pending}
use Rattle.reg_core.specs.declared.entry.Entry.{Entry}
use Rattle.reg_core.specs.declared.holding.Holder.{Holder}
use Rattle.reg_records.specs.Columns.{flag_value, whole_value}
use Rattle.reg_records.specs.Entries.{entry_values}
use Rattle.reg_records.specs.Requests.Forms.{gives_its_kind}
use Rattle.reg_records.specs.Requests.Values.{given_text, reason_text, state_values}
use Rattle.reg_records.proofs.RequestLaws.Rows.{state_replaced}
use Rattle.reg_tables.specs.Schema.{entries_table}
use Rattle.reg_tables.specs.Editing.{has_all}
use Rattle.reg_tables.specs.Selecting.{SelectsFrom, columns_of, equals, stored}
use Rattle.reg_tables.specs.declared.texts.TheConstants as texts
use Rattle.reg_tables.proofs.EditStatements as edits
use Rattle.reg_tables.proofs.GivenRows.{AddsGiven}
use Rattle.reg_tables.proofs.InsertStatements as inserts
use Rattle.reg_tables.proofs.Library.Casts.{cast_int, cast_null}
use Rattle.reg_tables.proofs.PutStatements as puts
use Rattle.reg_tables.proofs.Statements.{acts_of_actor, acts_of_day, acts_of_request, all_acts}
use Rattle.reg_tables.proofs.Statements.{advice_by_key}
use Rattle.reg_tables.proofs.Statements.{agent_by_key, agents_of_principal, principals_of_agent}
use Rattle.reg_tables.proofs.Statements.{hold_by_key, holds_of_registry}
use Rattle.reg_tables.proofs.Statements.{minute_by_key}
use Rattle.reg_tables.proofs.Statements.{all_blocks, block_by_key, blocks_of_holder}
use Rattle.reg_tables.proofs.Statements.{ranges_of_registry}
use Rattle.reg_tables.proofs.Statements.{all_registries, registry_by_key}
use Rattle.reg_tables.proofs.Statements.{all_requests, request_by_key, requests_in_state, requests_of_account}
use Rattle.reg_tables.proofs.Statements.{cap_by_key}
use Rattle.reg_tables.proofs.Statements.{all_entries, entries_of_registry, entry_by_key}
use Rattle.reg_tables.proofs.Statements.{all_pool, prefix_by_key}
use Rattle.reg_tables.proofs.Statements.{queue_by_key}
use Rattle.reg_statements.specs.Defined.{InsertsRows, Changes, Chooses, ChoosesRowOf, Puts, ShowsAll, TakesRows}
use Rattle.reg_statements.specs.Office as office
use Rattle.reg_statements.specs.Parts.{TableDef}
use Rattle.reg_statements.proofs.Defined.{by_all, by_first, by_key, key_has, passes_cells}
use Rattle.reg_statements.proofs.Office as laws
use Rattle.reg_rows.proofs.AskedActs.{made_about, made_by, made_on}
use Rattle.reg_rows.proofs.AskedRows.{begins_at, held_by, read_by, waits}
use Rattle.reg_rows.proofs.BlockRows.{mark_read}
use Rattle.reg_rows.proofs.ActRowsWritten.{act_kept, act_long}
use Rattle.reg_rows.proofs.RequestRowsWritten as written

-- ---- Of any table

-- a query of the rows with a value in one column
by_cell : {T K X : Type 0} (d : TableDef T K X) (sql : List ℕ) (at : ℕ) (value : Value)
    {order : List (Term × Key)} (p : K → X → Bool)
    → SelectsFrom (d.slot + 1) sql d.table.tree (equals ((at, 0) ∷ [])) (columns_of d.width) order
    → ((row : Row) (t : T) → d.read (stored d.width row) ≡ Some t
    → has_all ((at, value) ∷ []) row ≡ p (d.pair t).0 (d.pair t).1)
    → Chooses d sql (value ∷ []) p
by_cell d sql at value p selects reads = record {
  tests = _;
  order = _;
  selects = selects;
  agree = λ row t is. passes_cells ((at, 0) ∷ []) (value ∷ []) row ∙ reads row t is;
}

-- an INSERT of a row as it is written
adding : {T K X : Type 0} {d : TableDef T K X} {sql : List ℕ}
    → AddsGiven sql d.slot d.table → ((t : T) → length (d.values t) ≡ length d.table.columns)
    → ((t : T) → cast_all d.table.columns (d.values t) ≡ d.values t) → InsertsRows d sql
adding given long kept = record { given = given; long = long; kept = kept }

-- ---- Capabilities

pub finds_cap : (digest : List ℕ) → ChoosesRowOf office.caps texts.SELECT_CAP.now (Text digest ∷ []) digest
finds_cap digest = by_key office.caps laws.caps _ _ digest cap_by_key

pub adds_cap : InsertsRows office.caps texts.INSERT_CAPS.now
adds_cap =
    adding inserts.adds_caps (λ g. refl)
    (λ g. rw (cast_int (pos g.cap.until)) refl)

pub takes_cap : TakesRows office.caps texts.DELETE_CAP.now
takes_cap = record {
  takes = edits.cap_deletes;
}

-- ---- Entries

pub finds_entry : (place : Place)
    → ChoosesRowOf office.entries texts.SELECT_ENTRY.now (Text place.0 ∷ whole_value place.1 ∷ []) place
finds_entry place = by_key office.entries laws.entries _ _ place entry_by_key

pub lists_entries : (registry : List ℕ)
    → Chooses office.entries texts.SELECT_ENTRIES_OF.now (Text registry ∷ [])
    (λ place a. same_text place.0 registry)
lists_entries registry =
    by_first office.entries laws.entries _ _ 1 (Text registry ∷ []) _ (λ row. refl) (λ e. and-true _)
    entries_of_registry

pub shows_entries : ShowsAll office.entries texts.SELECT_ENTRIES.now
shows_entries = record { order = _; selects = all_entries }

or_null_kept : (o : Option ℕ) → cast Integer (or_null whole_value o) ≡ or_null whole_value o
or_null_kept None = cast_null
or_null_kept (Some n) = cast_int (pos n)

kept_as_written : (e : Entry) → cast_all entries_table.columns (entry_values e) ≡ entry_values e
kept_as_written e = λ i.
    Text e.registry ∷ cast_int (pos e.value) i ∷ Text e.label ∷ Text e.assignee
    ∷ cast_int (pos e.term.first) i ∷ or_null_kept e.term.expires i
    ∷ cast_int (pos (if e.term.renewed then 1 else 0)) i ∷ []

expires_typed : (o : Option ℕ) → is_of Integer (or_null whole_value o) ≡ true
expires_typed None = refl
expires_typed (Some n) = refl

pub puts_entry : Puts office.entries texts.PUT_ENTRY.now
puts_entry = record {
  writes = puts.put_entry_writes;
  terms = puts.entries_terms;
  index = puts.entries_index;
  project = puts.put_entry_terms;
  puts = λ e.
      puts.entry_puts e.registry (pos e.value) e.label e.assignee (pos e.term.first)
      (or_null whole_value e.term.expires) (pos (if e.term.renewed then 1 else 0))
      (expires_typed e.term.expires) (kept_as_written e);
  keeps = λ row e. refl;
}

-- ---- Marks

pub finds_hold : (place : Place)
    → ChoosesRowOf office.holds texts.SELECT_HOLD.now (Text place.0 ∷ whole_value place.1 ∷ []) place
finds_hold place = by_key office.holds laws.holds _ _ place hold_by_key

pub lists_holds : (registry : List ℕ)
    → Chooses office.holds texts.SELECT_HOLDS_OF.now (Text registry ∷ [])
    (λ place u. same_text place.0 registry)
lists_holds registry =
    by_first office.holds laws.holds _ _ 1 (Text registry ∷ []) _ (λ row. refl) (λ h. and-true _)
    holds_of_registry

pub adds_hold : InsertsRows office.holds texts.INSERT_HOLDS.now
adds_hold =
    adding inserts.adds_holds (λ h. refl)
    (λ h. rw (cast_int (pos h.value)) refl)

pub takes_hold : TakesRows office.holds texts.DELETE_HOLD.now
takes_hold = record {
  takes = edits.hold_deletes;
}

-- ---- The queue

pub finds_seat : (seat : Seat) → ChoosesRowOf office.queue texts.SELECT_QUEUE_ROW.now
    (Text seat.0.0 ∷ Text seat.0.1 ∷ Text seat.1 ∷ []) seat
finds_seat seat = by_key office.queue laws.queue _ _ seat queue_by_key

pub adds_seat : InsertsRows office.queue texts.INSERT_QUEUE.now
adds_seat =
    adding inserts.adds_queue (λ s. refl)
    (λ s. refl)

-- ---- Advice

pub finds_advice : (seat : Seat) → ChoosesRowOf office.advice texts.SELECT_ADVICE_ROW.now
    (Text seat.0.0 ∷ Text seat.0.1 ∷ Text seat.1 ∷ []) seat
finds_advice seat = by_key office.advice laws.advice _ _ seat advice_by_key

pub puts_advice : Puts office.advice texts.PUT_ADVICE.now
puts_advice = record {
  writes = puts.put_advice_writes;
  terms = puts.advice_terms;
  index = puts.advice_index;
  project = puts.put_advice_terms;
  puts = λ a.
      puts.advice_puts a.seat.account a.seat.reference a.seat.expert (verdict_word a.advice.verdict)
      a.advice.text;
  keeps = λ row a. refl;
}

-- ---- The pool

pub finds_prefix : (prefix : ℕ) → ChoosesRowOf office.pool texts.SELECT_PREFIX.now (whole_value prefix ∷ []) prefix
finds_prefix prefix = by_key office.pool laws.pool _ _ prefix prefix_by_key

pub lists_pool : Chooses office.pool texts.SELECT_POOL.now [] (λ prefix u. true)
lists_pool = by_all office.pool laws.pool _ _ all_pool

pub adds_prefix : InsertsRows office.pool texts.INSERT_POOL.now
adds_prefix =
    adding inserts.adds_pool (λ prefix. refl)
    (λ prefix. rw cast_int refl)

-- ---- Registries and their ranges

pub finds_registry : (name : List ℕ)
    → ChoosesRowOf office.registries texts.SELECT_REGISTRY.now (Text name ∷ []) name
finds_registry name = by_key office.registries laws.registries _ _ name registry_by_key

pub lists_registries : Chooses office.registries texts.SELECT_REGISTRIES.now [] (λ name max. true)
lists_registries = by_all office.registries laws.registries _ _ all_registries

pub adds_registry : InsertsRows office.registries texts.INSERT_REGISTRIES.now
adds_registry =
    adding inserts.adds_registries (λ r. refl)
    (λ r. rw (cast_int (pos r.max)) refl)

pub lists_ranges : (registry : List ℕ)
    → Chooses office.ranges texts.SELECT_RANGES_OF.now (Text registry ∷ [])
    (λ place range. same_text place.0 registry)
lists_ranges registry =
    by_first office.ranges laws.ranges _ _ 1 (Text registry ∷ []) _ (λ row. refl) (λ r. and-true _)
    ranges_of_registry

pub adds_range : InsertsRows office.ranges texts.INSERT_RANGES.now
adds_range =
    adding inserts.adds_ranges (λ r. refl)
    (λ r. rw (cast_int (pos r.range.lo), cast_int (pos r.range.hi)) refl)

-- ---- Requests

pub finds_request : (name : RequestName)
    → ChoosesRowOf office.requests texts.SELECT_REQUEST.now (Text name.0 ∷ Text name.1 ∷ []) name
finds_request name = by_key office.requests laws.requests _ _ name request_by_key

pub lists_own : (account : List ℕ)
    → Chooses office.requests texts.SELECT_REQUESTS_OF.now (Text account ∷ [])
    (λ name case. same_text name.0 account)
lists_own account =
    by_first office.requests laws.requests _ _ 1 (Text account ∷ []) _ (λ row. refl)
    (λ r. and-true _) requests_of_account

pub lists_requests : Chooses office.requests texts.SELECT_REQUESTS.now [] (λ name case. true)
lists_requests = by_all office.requests laws.requests _ _ all_requests

pub lists_waiting : Chooses office.requests texts.SELECT_PENDING.now (Text (state_word Pending) ∷ [])
    (λ name case. is_pending case.state)
lists_waiting =
    by_cell office.requests _ 23 (Text (state_word Pending)) _ requests_in_state waits

pub adds_request : InsertsRows office.requests texts.INSERT_REQUESTS.now
adds_request =
    adding inserts.adds_requests (λ r. written.request_long r.ask r refl)
    (λ r. written.request_kept r.account r.reference r.ask r.state)

text_typed : (o : Option (List ℕ)) → is_of kind.Text (or_null Text o) ≡ true
text_typed None = refl
text_typed (Some t) = refl

-- the state of the request of a name
pub changes_state : (name : RequestName) (s : request.State) → has_state_form s ≡ true
    → Changes office.requests texts.CHANGE_REQUEST.now (Text name.0 ∷ Text name.1 ∷ state_values s)
    (λ other case. eq_by_cmp name_cmp other name) (λ case. gives_its_kind case.ask s) (in_state s)
changes_state name s form = record {
  at = (1, 0) ∷ (2, 1) ∷ [];
  terms = edits.request_terms;
  changes =
      edits.request_changes name.0 name.1 (state_word (word_of s)) (or_null Text (given_text s))
      (or_null Text (reason_text s)) (text_typed (given_text s), text_typed (reason_text s));
  agree = key_has office.requests laws.requests name;
  becomes = λ row r is can.
      ap (option_map office.requests.pair) (state_replaced (stored 25 row) r s is form can);
}

-- ---- Minutes

pub finds_minute : (name : RequestName)
    → ChoosesRowOf office.minutes texts.SELECT_MINUTE.now (Text name.0 ∷ Text name.1 ∷ []) name
finds_minute name = by_key office.minutes laws.minutes _ _ name minute_by_key

pub adds_minute : InsertsRows office.minutes texts.INSERT_MINUTES.now
adds_minute =
    adding inserts.adds_minutes (λ m. refl)
    (λ m. refl)

-- ---- Agents

pub finds_link : (link : Link)
    → ChoosesRowOf office.agents texts.SELECT_AGENT.now (Text link.0 ∷ Text link.1 ∷ []) link
finds_link link = by_key office.agents laws.agents _ _ link agent_by_key

pub lists_agents : (principal : List ℕ)
    → Chooses office.agents texts.SELECT_AGENTS_OF.now (Text principal ∷ [])
    (λ link u. same_text link.0 principal)
lists_agents principal =
    by_first office.agents laws.agents _ _ 1 (Text principal ∷ []) _ (λ row. refl) (λ l. and-true _)
    agents_of_principal

pub lists_principals : (agent : List ℕ)
    → Chooses office.agents texts.SELECT_PRINCIPALS_OF.now (Text agent ∷ [])
    (λ link u. same_text link.1 agent)
lists_principals agent =
    by_cell office.agents _ 2 (Text agent) _ principals_of_agent (read_by agent)

pub adds_link : InsertsRows office.agents texts.INSERT_AGENTS.now
adds_link =
    adding inserts.adds_agents (λ l. refl)
    (λ l. refl)

pub takes_link : TakesRows office.agents texts.DELETE_AGENT.now
takes_link = record {
  takes = edits.agent_deletes;
}

-- ---- Acts

pub lists_acts : Chooses office.journal texts.SELECT_JOURNAL.now [] (λ number act. true)
lists_acts = by_all office.journal laws.journal _ _ all_acts

pub lists_acts_on : (day : ℕ)
    → Chooses office.journal texts.SELECT_ACTS_ON.now (whole_value day ∷ [])
    (λ number act. is_on day act)
lists_acts_on day = by_cell office.journal _ 2 (whole_value day) _ acts_of_day (made_on day)

pub lists_acts_by : (account : List ℕ)
    → Chooses office.journal texts.SELECT_ACTS_BY.now (Text account ∷ [])
    (λ number act. is_by account act)
lists_acts_by account = by_cell office.journal _ 4 (Text account) _ acts_of_actor (made_by account)

pub lists_acts_about : (account reference : List ℕ)
    → Chooses office.journal texts.SELECT_ACTS_ABOUT.now (Text account ∷ Text reference ∷ [])
    (λ number act. is_about (account, reference) act)
lists_acts_about account reference = record {
  tests = _;
  order = _;
  selects = acts_of_request;
  agree = λ row n is.
      passes_cells ((7, 0) ∷ (8, 1) ∷ []) (Text account ∷ Text reference ∷ []) row
      ∙ made_about account reference row n is;
}

pub adds_act : InsertsRows office.journal texts.INSERT_JOURNAL.now
adds_act =
    adding inserts.adds_acts (λ a. act_long a.act.deed a refl)
    (λ a. act_kept a.number a.act.stamp.moment a.act.stamp.by a.act.deed)

-- ---- Blocks

-- the block begins at this address
abbrev pub begins : ℕ → SizedPrefix → Holder → Bool
begins first block holder = eq_by_cmp nat_cmp (first_address block) first

pub finds_blocks : (first : ℕ)
    → Chooses office.blocks texts.SELECT_BLOCK.now (whole_value first ∷ []) (begins first)
finds_blocks first =
    by_cell office.blocks _ 1 (whole_value first) _ block_by_key (begins_at first)

pub lists_blocks : Chooses office.blocks texts.SELECT_BLOCKS.now [] (λ block holder. true)
lists_blocks = by_all office.blocks laws.blocks _ _ all_blocks

pub lists_holdings : (account : List ℕ)
    → Chooses office.blocks texts.SELECT_BLOCKS_OF.now (Text account ∷ [])
    (λ block holder. same_text holder.account account)
lists_holdings account =
    by_cell office.blocks _ 3 (Text account) _ blocks_of_holder (held_by account)

pub adds_block : InsertsRows office.blocks texts.INSERT_BLOCKS.now
adds_block =
    adding inserts.adds_blocks (λ h. refl)
    (λ h. rw (cast_int (pos (first_address h.block)), cast_int (pos (if h.private then 1 else 0))) refl)

-- the mark of the blocks that begin at an address
pub changes_mark : (first : ℕ) (private : Bool)
    → Changes office.blocks texts.CHANGE_BLOCK.now (whole_value first ∷ flag_value private ∷ [])
    (begins first) (λ holder. true) (with_mark private)
changes_mark first private = record {
  at = (1, 0) ∷ [];
  terms = edits.block_terms;
  changes = edits.block_changes (pos first) (pos (if private then 1 else 0));
  agree = begins_at first;
  becomes = λ row h is can. ap (option_map office.blocks.pair) (mark_read private row h is);
}
