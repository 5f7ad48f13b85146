-- The statements that put a row in the place of the one with its key, or add it where none has it.
use Rattle.std.proofs.Common.{◌≡◌, ℕ, ℤ, List, [], ◌∷◌, ◌++◌, Bool, true, false, ◌&&◌, ◌||◌}
use Rattle.std.proofs.Common.{codes, refl}
use Rattle.sqlite.specs.declared.types.Value.{Value}
use Rattle.sqlite.specs.declared.types.Value.TheVariants.{Int, Null, Text}
use Rattle.sqlite.specs.Cast.{cast_all}
use Rattle.sqlite.specs.Kind.TheVariants as kind
use Rattle.sqlite.specs.Listing.{understood}
use Rattle.sqlite.specs.Order.{Row, column}
use Rattle.sqlite.specs.Term.{Term, col, lit}
use Rattle.sqlite_value.specs.Keys.{plain}
use Rattle.sqlite_schema.specs.declared.schema.Index.{Index}
use Rattle.sqlite_schema.specs.Rules.{is_of}
use Rattle.sqlite_rules.proofs.ListLemmas.{has_got}
use Rattle.sqlite_tied.specs.Compute.{everything}
use Rattle.reg_tables.specs.Editing.{front}
use Rattle.reg_tables.specs.Kinds.{WritesRows}
use Rattle.reg_tables.specs.Schema.{office_schema, advice_table, entries_table}
use Rattle.reg_tables.specs.Selecting.{columns_of}
use Rattle.reg_tables.specs.declared.texts.TheConstants as texts
use Rattle.reg_tables.proofs.EditLemmas.Putting.{Puts}
use Rattle.reg_tables.proofs.Library.Casts.{cast_null, cast_int}
use Rattle.reg_tables.proofs.ValueLemmas.{compared}

alone : (b : Bool) → (b || false) ≡ b
alone true = refl
alone false = refl

-- ---- advice

abbrev pub advice_terms : List Term
advice_terms = lit Null ∷ col 0 0 ∷ col 0 1 ∷ col 0 2 ∷ col 0 3 ∷ col 0 4 ∷ []

abbrev pub advice_index : Index
advice_index = record {
  name = codes "sqlite_autoindex_advice_1";
  tree = 15;
  table = 14;
  columns = 1 ∷ 2 ∷ 3 ∷ [];
  order = plain;
  is_unique = true;
}

-- the columns of the key stay, and the others are those of the row that is not added
abbrev pub put_advice_terms : List Term
put_advice_terms = columns_of 3 ++ col 0 10 ∷ col 0 11 ∷ []

module _ (account reference expert verdict text : List ℕ) where
  abbrev advice_row : Row
  advice_row = Text account ∷ Text reference ∷ Text expert ∷ Text verdict ∷ Text text ∷ []

  abbrev advice_key : List (ℕ × Value)
  advice_key = (1, Text account) ∷ (2, Text reference) ∷ (3, Text expert) ∷ []

  abbrev advice_by : Row → Row
  advice_by row = front 4 row ++ Text verdict ∷ Text text ∷ []

  pub advice_puts : Puts texts.PUT_ADVICE.now 7 advice_table advice_terms advice_index put_advice_terms
      advice_row advice_key advice_by
  unfolding understood everything
  advice_puts = record {
    slot = refl;
    is = refl;
    plain = (refl, refl);
    counts = refl;
    source = refl;
    casts = rw cast_null refl;
    casts_at = λ n. rw (cast_int n) refl;
    given = λ id n. (refl, (refl, tt));
    made = λ id n row. refl;
    listed = has_got office_schema.indexes 7 advice_index refl;
    guarded = refl;
    meets = λ n row. alone _;
    keys = λ n row i. compared (column row 1) (Text account) i
        && (compared (column row 2) (Text reference) i
        && (compared (column row 3) (Text expert) i && true));
  }

pub put_advice_writes : WritesRows texts.PUT_ADVICE.now
unfolding everything
put_advice_writes = refl

-- ---- entries

abbrev pub entries_terms : List Term
entries_terms =
    lit Null ∷ col 0 0 ∷ col 0 1 ∷ col 0 2 ∷ col 0 3 ∷ col 0 4 ∷ col 0 5 ∷ col 0 6 ∷ []

abbrev pub entries_index : Index
entries_index = record {
  name = codes "sqlite_autoindex_entries_1";
  tree = 8;
  table = 7;
  columns = 1 ∷ 2 ∷ [];
  order = plain;
  is_unique = true;
}

abbrev pub put_entry_terms : List Term
put_entry_terms = columns_of 2 ++ col 0 11 ∷ col 0 12 ∷ col 0 13 ∷ col 0 14 ∷ col 0 15 ∷ []

-- the columns of an entry that are not of its key
abbrev pub entry_values : List ℕ → List ℕ → ℤ → Value → ℤ → Row
entry_values label assignee first expires renewed =
    Text label ∷ Text assignee ∷ Int first ∷ expires ∷ Int renewed ∷ []

module _ (registry : List ℕ) (value : ℤ) (label assignee : List ℕ) (first : ℤ) (expires : Value)
    (renewed : ℤ) (typed : is_of kind.Integer expires ≡ true) where
  abbrev entry_row : Row
  entry_row = Text registry ∷ Int value ∷ entry_values label assignee first expires renewed

  abbrev entry_key : List (ℕ × Value)
  entry_key = (1, Text registry) ∷ (2, Int value) ∷ []

  abbrev entry_by : Row → Row
  entry_by row = front 3 row ++ entry_values label assignee first expires renewed

  pub entry_puts : cast_all entries_table.columns entry_row ≡ entry_row
      → Puts texts.PUT_ENTRY.now 4 entries_table entries_terms entries_index put_entry_terms
      entry_row entry_key entry_by
  unfolding understood everything
  entry_puts same = record {
    slot = refl;
    is = refl;
    plain = (refl, refl);
    counts = refl;
    source = refl;
    casts = rw (cast_null, same) refl;
    casts_at = λ n. rw (cast_int n, same) refl;
    given = λ id n. (refl, (refl, (refl, (typed, (refl, tt)))));
    made = λ id n row. refl;
    listed = has_got office_schema.indexes 3 entries_index refl;
    guarded = refl;
    meets = λ n row. alone _;
    keys = λ n row i. compared (column row 1) (Text registry) i
        && (compared (column row 2) (Int value) i && true);
  }

pub put_entry_writes : WritesRows texts.PUT_ENTRY.now
unfolding everything
put_entry_writes = refl
