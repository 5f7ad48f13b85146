-- No table of an office computes anything.
use Rattle.std.proofs.Common.{◌≡◌, ◌==◌, ◌&&◌, ◌+◌, List, [], true, Bool, length, refl, arith}
use Rattle.std.proofs.lemmas.Bool.{and_parts, eqb-true}
use Rattle.std.proofs.lemmas.List.{nil_from_length}
use Rattle.std.specs.List.{AllByRecursion, list_all}
use Rattle.sqlite.specs.declared.types.Value.{Value}
use Rattle.sqlite.specs.declared.types.Value.TheVariants.{Null}
use Rattle.sqlite.specs.Ops.{is_null}
use Rattle.sqlite.specs.Table.{Table}
use Rattle.sqlite_schema.specs.declared.schema.Column.{Column}
use Rattle.sqlite_schema.specs.declared.schema.Stamps.{Stamps}
use Rattle.reg_tables.specs.Schema.{office_schema}
use Rattle.reg_tables.specs.Bare.{IsBareColumn, IsBareTable, no_stamps}
use Rattle.reg_tables.proofs.Library.EachOf.{all_if}

null_is : (v : Value) → is_null v ≡ true → v ≡ Null
null_is Null e = refl
null_is _ e = absurd (cc)

abbrev has_no_default : Column → Bool
has_no_default c = is_null c.default

abbrev is_unstamped : Stamps → Bool
is_unstamped s = length s.places + length s.terms + length s.formats == 0

abbrev is_bare : Table → Bool
is_bare t =
    list_all has_no_default t.columns && (length t.checks == 0)
    && (length t.computed == 0) && is_unstamped t.stamps

none_if : {X : Type 0} (xs : List X) → (length xs == 0) ≡ true → xs ≡ []
none_if xs e = nil_from_length xs (eqb-true (length xs) 0 e)

unstamped : (s : Stamps) → is_unstamped s ≡ true → s ≡ no_stamps
unstamped s e =
    let none = eqb-true (length s.places + length s.terms + length s.formats) 0 e in
    let places : s.places ≡ [] = nil_from_length s.places (omega (arith, none)) in
    let terms : s.terms ≡ [] = nil_from_length s.terms (omega (arith, none)) in
    let formats : s.formats ≡ [] = nil_from_length s.formats (omega (arith, none)) in
    λ i. record { places = places i; terms = terms i; formats = formats i }

bare_table : (t : Table) → is_bare t ≡ true → IsBareTable t
bare_table t e =
    let stamps = and_parts _ _ e in
    let computed = and_parts _ _ stamps.0 in
    let checks = and_parts _ _ computed.0 in
    record {
      columns = all_if has_no_default IsBareColumn t.columns checks.0
          (λ column none. null_is column.default none);
      checks = none_if t.checks checks.1;
      computed = none_if t.computed computed.1;
      stamps = unstamped t.stamps stamps.1;
    }

pub office_bare : AllByRecursion IsBareTable office_schema.tables
office_bare = all_if is_bare IsBareTable office_schema.tables refl bare_table
