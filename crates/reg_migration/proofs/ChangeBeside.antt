-- The version is written into its table wherever that stands.
use Rattle.std.proofs.Common.{◌≡◌, ℕ, Bool, true, false, List, [], ◌∷◌, Some, None, Ok, slice_get, codes, refl}
use Rattle.std.specs.Prelude.{negsuc, Err}
use Rattle.sqlite.specs.Command.TheVariants as does
use Rattle.sqlite.specs.Listing.{understood}
use Rattle.sqlite.specs.Schema.{Schema}
use Rattle.sqlite.specs.Table.{Table}
use Rattle.sqlite.specs.Term.{Term, col}
use Rattle.sqlite_ast.specs.declared.Expr.{Expr, roll-Expr}
use Rattle.sqlite_ast.specs.declared.Expr.TheOpen.{Expr-F}
use Rattle.sqlite_ast.specs.declared.Statement.TheVariants as written
use Rattle.sqlite_draft.specs.Join.{chain}
use Rattle.sqlite_draft.specs.Query.{query_of}
use Rattle.sqlite_draft.specs.declared.join.Step.TheVariants.{Inner}
use Rattle.sqlite_draft.specs.declared.query.Draft.{Draft}
use Rattle.sqlite_resolve.specs.Compile.{command, compiled, first, meaning, planned, returning, shows, timed, update}
use Rattle.sqlite_resolve.specs.Program.{program}
use Rattle.sqlite_resolve.specs.Terms.{number}
use Rattle.sqlite_resolve.specs.Write.{updated}
use Rattle.sqlite_resolve.specs.declared.compiled.Compiled.{Compiled}
use Rattle.sqlite_resolve.specs.declared.error.CompileError.TheVariants.{Mismatch}
use Rattle.sqlite_schema.specs.Names.{table_named}
use Rattle.sqlite_schema.specs.declared.program.Program.{Program}
use Rattle.sqlite_sql.specs.Term.{lit}
use Rattle.sqlite_syntax.specs.declared.statement.Parsed.{Parsed}
use Rattle.sqlite_tied.specs.Compute.{everything}
use Rattle.sqlite_typing.specs.Types.{accepts_program}
use Rattle.sqlite_value.specs.declared.value.Value.TheVariants.{Int}
use Rattle.reg_tables.specs.Schema.{office_table}
use Rattle.reg_tables.specs.Selecting.{select_from}
use Rattle.reg_tables.specs.declared.texts.TheConstants.{CHANGE_VERSION}

-- ---- What the text is

abbrev sets : List (List ℕ × Expr)
sets = (codes "version", roll-Expr (Expr-F.Parameter 1)) ∷ []

abbrev parsed : Parsed
parsed = record {
  statement = written.Update (codes "office") sets None [];
  names = codes "?1" ∷ [];
  formats = [];
  start = 0;
  end = 30;
  tail = 30;
}

reads_text : first CHANGE_VERSION.now ≡ Ok parsed
unfolding everything
reads_text = refl

-- the row with its rowid, and then what it becomes
abbrev pub terms : List Term
terms = col 1 0 ∷ col 1 0 ∷ col 0 0 ∷ []

module _ (schema : Schema) (at k : ℕ) (named : table_named schema office_table.name ≡ Some at)
    (there : slice_get schema.tables at ≡ Some (record office_table { tree = k })) where
  abbrev pub table : Table
  table = record office_table { tree = k }

  abbrev draft : Draft
  draft = record {
    from = chain (Inner k ∷ []);
    filter = [];
    group = None;
    project = terms;
    distinct = false;
    collations = [];
    order = [];
    limit = lit (Int (negsuc 0));
    offset = number 0;
  }

  drafts : updated schema at table sets None ≡ Ok draft
  unfolding everything
  drafts = refl

  pub is_query_of : query_of draft ≡ select_from k [] terms []
  unfolding everything
  is_query_of = refl

  abbrev pub is_accepted : Bool
  is_accepted = accepts_program schema [] (query_of draft) []

  abbrev pub selection : Program
  selection = record { lets = []; body = query_of draft }

  abbrev pub whole_text : Compiled
  whole_text = record {
    command = does.Update at selection;
    returning = None;
    names = codes "?1" ∷ [];
    formats = [];
    start = 0;
    end = 30;
    tail = 30;
  }

  compiles : is_accepted ≡ true → compiled schema CHANGE_VERSION.now ≡ Ok whole_text
  unfolding compiled planned meaning timed returning shows command update program
  compiles fits = rw (reads_text, named, there, drafts, fits) refl

  refused : is_accepted ≡ false → compiled schema CHANGE_VERSION.now ≡ Err Mismatch
  unfolding compiled planned meaning timed returning shows command update program
  refused unfit = rw (reads_text, named, there, drafts, unfit) refl

  pub understands : is_accepted ≡ true → understood schema CHANGE_VERSION.now ≡ Ok whole_text
  unfolding understood
  understands fits = rw (compiles fits) refl

  pub refuses : is_accepted ≡ false → understood schema CHANGE_VERSION.now ≡ Err Mismatch
  unfolding understood
  refuses unfit = rw (refused unfit) refl
