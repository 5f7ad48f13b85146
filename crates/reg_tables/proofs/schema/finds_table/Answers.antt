use Rattle.std.proofs.Common.{◌≡◌, ◌==◌, ℕ, length, filter, Some, slice_get, refl, sym, ap, subst, ◌∙◌, rules}
use Rattle.std.proofs.lemmas.Bool.{eq-eqb, eqb-true}
use Rattle.sqlite.specs.Schema.{Schema}
use Rattle.sqlite.specs.Table.{Table}
use Rattle.sqlite_schema.specs.Names.{table_named}
use Rattle.sqlite_schema.specs.declared.schema.Index.{Index}
use Rattle.reg_tables.specs.Having.{HasTable, unplaced}
use Rattle.reg_tables.proofs.schema.finds_table.Goals as goal

-- a name is of one table
one_found : (schema : Schema) (t found : Table) (at : ℕ) → table_named schema t.name ≡ Some at
    → slice_get schema.tables at ≡ Some found → (has : HasTable schema t) → has.table ≡ found
one_found schema t found at named there has =
    let both : Some has.at ≡ Some at = sym has.named ∙ named in
    let same : has.at ≡ at = cc in
    let also : Some has.table ≡ Some found =
    sym has.there ∙ ap (slice_get schema.tables) same ∙ there in
    cc

pub returns-then-same_definition-clause-is : goal.returns-then-same_definition-clause-is
returns-then-same_definition-clause-is c told =
    let schema = c.args.schema.now in
    let table = c.args.table.now in
    let found = c.in-Some-get.found.now in
    let named : table_named schema table.name ≡ Some c.in-Some.at = search rules in
    let there : slice_get schema.tables c.in-Some.at ≡ Some found = search rules in
    let has : HasTable schema table = record {
      at = c.in-Some.at;
      table = found;
      named = named;
      there = there;
      same = c.if-same_definition.ensures.is refl;
    } in
    record {
      has = has;
      indexed = sym c.count_indexes.ensures
          ∙ eqb-true c.count_indexes.result c.len.result told ∙ c.len.ensures;
    }

pub returns-then-same_definition-clause-all : goal.returns-then-same_definition-clause-all
returns-then-same_definition-clause-all c bare finds =
    let schema = c.args.schema.now in
    let table = c.args.table.now in
    let same = one_found schema table c.in-Some-get.found.now c.in-Some.at (search rules) (search rules)
    finds.has in
    eq-eqb c.count_indexes.result c.len.result
    (c.count_indexes.ensures
    ∙ subst (λ (t : Table). length (filter (λ (i : Index). i.table == t.tree) schema.indexes)
    ≡ length table.uniques) same finds.indexed
    ∙ sym c.len.ensures)

pub returns-else-same_definition-clause-all : goal.returns-else-same_definition-clause-all
returns-else-same_definition-clause-all c bare finds =
    let same = one_found c.args.schema.now c.args.table.now c.in-Some-get.found.now c.in-Some.at
    (search rules) (search rules) finds.has in
    c.same_definition.ensures.all bare (ap unplaced (sym same) ∙ finds.has.same)
