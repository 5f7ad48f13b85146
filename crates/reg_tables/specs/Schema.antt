-- The tables of an office.
use Rattle.std.specs.Prelude.{ℕ, Bool, true, false, List, [], ◌∷◌, map, codes, None}
use Rattle.sqlite.specs.Collation.TheVariants.{Binary}
use Rattle.sqlite.specs.declared.types.Value.TheVariants.{Null}
use Rattle.sqlite_value.specs.Keys.{plain}
use Rattle.sqlite.specs.Table.{Table}
use Rattle.sqlite.specs.Schema.{Schema}
use Rattle.sqlite.specs.Kind.{Kind}
use Rattle.sqlite.specs.Kind.TheVariants.{Integer, Text}
use Rattle.sqlite_schema.specs.declared.schema.Action.TheVariants.{NoAction}
use Rattle.sqlite_schema.specs.declared.schema.Column.{Column}
use Rattle.sqlite_schema.specs.declared.schema.Index.{Index}
use Rattle.sqlite_schema.specs.declared.schema.Reference.{Reference}
use Rattle.reg_tables.specs.declared.texts.TheConstants as texts

-- a column of a STRICT table
abbrev column : Kind → Bool → List ℕ → Column
column kind required name = record {
  name = name;
  kind = kind;
  is_strict = true;
  not_null = required;
  default = Null;
  collation = Binary;
}

abbrev text : List ℕ → Column
text = column Text true

abbrev text_or_null : List ℕ → Column
text_or_null = column Text false

abbrev whole : List ℕ → Column
whole = column Integer true

abbrev whole_or_null : List ℕ → Column
whole_or_null = column Integer false

-- a foreign key without actions
abbrev refers : List ℕ → List ℕ → List (List ℕ) → Reference
refers columns parent parent_columns = record {
  columns = columns;
  parent = parent;
  parent_columns = parent_columns;
  on_delete = NoAction;
  on_update = NoAction;
  is_deferred = false;
}

-- the index that SQLite makes of a key of columns of text and numbers
abbrev index : List ℕ → ℕ → ℕ → List ℕ → Index
index name tree table columns = record {
  name = name;
  tree = tree;
  table = table;
  columns = columns;
  order = plain;
  is_unique = true;
}

-- the first of its keys, if it has any
abbrev primary_of : List (List ℕ) → List ℕ
primary_of [] = []
primary_of (key ∷ _) = key

-- a table of these columns, keys and references, and of no other rule; the first key is the primary one
abbrev table : List ℕ → ℕ → List Column → List (List ℕ) → List Reference → Table
table name tree columns keys references = record {
  name = name;
  tree = tree;
  columns = columns;
  key = None;
  primary = primary_of keys;
  uniques = keys;
  orders = map (λ _. plain) keys;
  checks = [];
  references = references;
  computed = [];
  stamps = record { places = []; terms = []; formats = [] };
  is_counted = false;
}

abbrev pub office_table : Table
office_table = table (codes "office") 0
    (whole (codes "version") ∷ [])
    []
    []

-- the fourteen tables with their indexes; the table that a CREATE TABLE makes, for each of them
abbrev pub caps_table : Table
caps_table = table (codes "caps") 1
    (text (codes "digest") ∷
    text (codes "account") ∷
    text (codes "kind") ∷
    whole (codes "until") ∷
    [])
    ((1 ∷ []) ∷ [])
    []

abbrev pub registries_table : Table
registries_table = table (codes "registries") 3
    (text (codes "name") ∷
    whole (codes "max") ∷
    [])
    ((1 ∷ []) ∷ [])
    []

abbrev pub ranges_table : Table
ranges_table = table (codes "ranges") 5
    (text (codes "registry") ∷
    whole (codes "lo") ∷
    whole (codes "hi") ∷
    text (codes "treatment") ∷
    text (codes "note") ∷
    [])
    ((1 ∷ 2 ∷ []) ∷ [])
    (refers (1 ∷ []) (codes "registries") (codes "name" ∷ []) ∷ [])

abbrev pub entries_table : Table
entries_table = table (codes "entries") 7
    (text (codes "registry") ∷
    whole (codes "value") ∷
    text (codes "label") ∷
    text (codes "assignee") ∷
    whole (codes "first") ∷
    whole_or_null (codes "expires") ∷
    whole (codes "renewed") ∷
    [])
    ((1 ∷ 2 ∷ []) ∷ [])
    (refers (1 ∷ []) (codes "registries") (codes "name" ∷ []) ∷ [])

abbrev pub requests_table : Table
requests_table = table (codes "requests") 9
    (text (codes "account") ∷
    text (codes "reference") ∷
    text (codes "kind") ∷
    text_or_null (codes "registry") ∷
    whole_or_null (codes "value") ∷
    text_or_null (codes "least") ∷
    text_or_null (codes "label") ∷
    text_or_null (codes "contact") ∷
    text_or_null (codes "specification") ∷
    whole_or_null (codes "rfc_number") ∷
    text_or_null (codes "rfc_stream") ∷
    text_or_null (codes "rfc_track") ∷
    text_or_null (codes "minute") ∷
    text_or_null (codes "draft") ∷
    whole_or_null (codes "stable") ∷
    whole_or_null (codes "interest") ∷
    text_or_null (codes "chair") ∷
    text_or_null (codes "director") ∷
    whole_or_null (codes "will_be_rfc") ∷
    text_or_null (codes "size") ∷
    text_or_null (codes "organization") ∷
    text_or_null (codes "address") ∷
    text (codes "state") ∷
    text_or_null (codes "given") ∷
    text_or_null (codes "reason") ∷
    [])
    ((1 ∷ 2 ∷ []) ∷ [])
    []

abbrev pub queue_table : Table
queue_table = table (codes "queue") 11
    (text (codes "account") ∷
    text (codes "reference") ∷
    text (codes "expert") ∷
    [])
    ((1 ∷ 2 ∷ 3 ∷ []) ∷ (3 ∷ 1 ∷ 2 ∷ []) ∷ [])
    (refers (1 ∷ 2 ∷ []) (codes "requests") (codes "account" ∷ codes "reference" ∷ []) ∷ [])

abbrev pub advice_table : Table
advice_table = table (codes "advice") 14
    (text (codes "account") ∷
    text (codes "reference") ∷
    text (codes "expert") ∷
    text (codes "verdict") ∷
    text (codes "text") ∷
    [])
    ((1 ∷ 2 ∷ 3 ∷ []) ∷ [])
    (refers (1 ∷ 2 ∷ 3 ∷ []) (codes "queue") (codes "account" ∷ codes "reference" ∷ codes "expert" ∷ []) ∷ [])

abbrev pub pool_table : Table
pool_table = table (codes "pool") 16
    (whole (codes "prefix") ∷ [])
    ((1 ∷ []) ∷ [])
    []

abbrev pub blocks_table : Table
blocks_table = table (codes "blocks") 18
    (whole (codes "first") ∷
    text (codes "size") ∷
    text (codes "holder") ∷
    text (codes "organization") ∷
    text (codes "address") ∷
    whole (codes "private") ∷
    [])
    ((1 ∷ []) ∷ (3 ∷ 1 ∷ []) ∷ [])
    []

abbrev pub holds_table : Table
holds_table = table (codes "holds") 21
    (text (codes "registry") ∷
    whole (codes "value") ∷
    [])
    ((1 ∷ 2 ∷ []) ∷ [])
    (refers (1 ∷ 2 ∷ []) (codes "entries") (codes "registry" ∷ codes "value" ∷ []) ∷ [])

abbrev pub minutes_table : Table
minutes_table = table (codes "minutes") 23
    (text (codes "account") ∷
    text (codes "reference") ∷
    text (codes "minute") ∷
    [])
    ((1 ∷ 2 ∷ []) ∷ [])
    (refers (1 ∷ 2 ∷ []) (codes "requests") (codes "account" ∷ codes "reference" ∷ []) ∷ [])

abbrev pub agents_table : Table
agents_table = table (codes "agents") 25
    (text (codes "principal") ∷
    text (codes "agent") ∷
    [])
    ((1 ∷ 2 ∷ []) ∷ (2 ∷ 1 ∷ []) ∷ [])
    []

abbrev pub journal_table : Table
journal_table = table (codes "journal") 28
    (whole (codes "number") ∷
    whole_or_null (codes "day") ∷
    whole_or_null (codes "second") ∷
    text_or_null (codes "actor") ∷
    text_or_null (codes "token") ∷
    text (codes "kind") ∷
    text_or_null (codes "account") ∷
    text_or_null (codes "reference") ∷
    text_or_null (codes "other") ∷
    text_or_null (codes "verdict") ∷
    text_or_null (codes "registry") ∷
    whole_or_null (codes "value") ∷
    text_or_null (codes "size") ∷
    [])
    ((1 ∷ []) ∷ (7 ∷ 8 ∷ 1 ∷ []) ∷ [])
    []

-- the texts that make the tables, in order
abbrev pub office_texts : List (List ℕ)
office_texts =
    texts.MAKE_OFFICE.now ∷
    texts.MAKE_CAPS.now ∷
    texts.MAKE_REGISTRIES.now ∷
    texts.MAKE_RANGES.now ∷
    texts.MAKE_ENTRIES.now ∷
    texts.MAKE_REQUESTS.now ∷
    texts.MAKE_QUEUE.now ∷
    texts.MAKE_ADVICE.now ∷
    texts.MAKE_POOL.now ∷
    texts.MAKE_BLOCKS.now ∷
    texts.MAKE_HOLDS.now ∷
    texts.MAKE_MINUTES.now ∷
    texts.MAKE_AGENTS.now ∷
    texts.MAKE_JOURNAL.now ∷
    []

abbrev pub office_schema : Schema
office_schema = record {
  tables =
      office_table ∷
      caps_table ∷
      registries_table ∷
      ranges_table ∷
      entries_table ∷
      requests_table ∷
      queue_table ∷
      advice_table ∷
      pool_table ∷
      blocks_table ∷
      holds_table ∷
      minutes_table ∷
      agents_table ∷
      journal_table ∷
      [];
  indexes =
      index (codes "sqlite_autoindex_caps_1") 2 1 (1 ∷ []) ∷
      index (codes "sqlite_autoindex_registries_1") 4 3 (1 ∷ []) ∷
      index (codes "sqlite_autoindex_ranges_1") 6 5 (1 ∷ 2 ∷ []) ∷
      index (codes "sqlite_autoindex_entries_1") 8 7 (1 ∷ 2 ∷ []) ∷
      index (codes "sqlite_autoindex_requests_1") 10 9 (1 ∷ 2 ∷ []) ∷
      index (codes "sqlite_autoindex_queue_1") 12 11 (1 ∷ 2 ∷ 3 ∷ []) ∷
      index (codes "sqlite_autoindex_queue_2") 13 11 (3 ∷ 1 ∷ 2 ∷ []) ∷
      index (codes "sqlite_autoindex_advice_1") 15 14 (1 ∷ 2 ∷ 3 ∷ []) ∷
      index (codes "sqlite_autoindex_pool_1") 17 16 (1 ∷ []) ∷
      index (codes "sqlite_autoindex_blocks_1") 19 18 (1 ∷ []) ∷
      index (codes "sqlite_autoindex_blocks_2") 20 18 (3 ∷ 1 ∷ []) ∷
      index (codes "sqlite_autoindex_holds_1") 22 21 (1 ∷ 2 ∷ []) ∷
      index (codes "sqlite_autoindex_minutes_1") 24 23 (1 ∷ 2 ∷ []) ∷
      index (codes "sqlite_autoindex_agents_1") 26 25 (1 ∷ 2 ∷ []) ∷
      index (codes "sqlite_autoindex_agents_2") 27 25 (2 ∷ 1 ∷ []) ∷
      index (codes "sqlite_autoindex_journal_1") 29 28 (1 ∷ []) ∷
      index (codes "sqlite_autoindex_journal_2") 30 28 (7 ∷ 8 ∷ 1 ∷ []) ∷
      [];
  views = [];
}
