-- Where the tables of an office came and stand alone, there were none before.
use Rattle.std.proofs.Common.{◌≡◌, ◌≤◌, List, [], ◌∷◌, ◌++◌, length, refl, sym, ap, ◌∙◌, arith}
use Rattle.std.proofs.Common.{length-append}
use Rattle.sqlite.specs.Schema.{Schema}
use Rattle.reg_tables.specs.Having.{GainsTables}
use Rattle.reg_tables.specs.Making.{no_schema}
use Rattle.reg_tables.specs.Schema.{office_schema}

none_of : {X : Type 0} (xs more all : List X) → all ≡ xs ++ more → length all ≤ length more
    → xs ≡ []
none_of [] more all is less = refl
none_of (x ∷ xs) more all is less =
    let long = ap length is in
    absurd (omega (arith, long, less, length-append (x ∷ xs) more))

-- where the office's tables and no others have come of so many, there were none before
pub none_before : (old new : Schema) → GainsTables office_schema.tables old new
    → new ≡ office_schema → old ≡ no_schema
none_before old new gained is =
    let grows = gained.extends in
    let tables : old.tables ≡ [] =
    none_of old.tables grows.tables_come.0 office_schema.tables
    (ap (λ (s : Schema). s.tables) (sym is) ∙ grows.tables_come.1) grows.tables_come.2 in
    let indexes : old.indexes ≡ [] =
    none_of old.indexes grows.indexes_come.0 office_schema.indexes
    (ap (λ (s : Schema). s.indexes) (sym is) ∙ grows.indexes_come.1) grows.indexes_come.2 in
    let views : old.views ≡ [] = sym grows.views ∙ ap (λ (s : Schema). s.views) is in
    λ i. record { tables = tables i; indexes = indexes i; views = views i }
