-- All advice is that of a seat in the queue.
use Rattle.std.proofs.Common.{◌≡◌, ◌&&◌, ◌||◌, not, ℕ, Bool, true, false, List, [], ◌∷◌, drop, None}
use Rattle.std.proofs.Common.{refl, sym, ap, subst, ◌∙◌}
use Rattle.std.specs.List.{list_any}
use Rattle.std.proofs.lemmas.Bool.{and_parts, not-true}
use Rattle.sqlite.specs.declared.types.Value.{Value}
use Rattle.sqlite.specs.declared.types.Value.TheVariants.{Text}
use Rattle.sqlite.specs.Effect.{Database}
use Rattle.sqlite.specs.Ops.{is_null}
use Rattle.sqlite.specs.Order.{Row, column}
use Rattle.sqlite.specs.Collation.TheVariants.{Binary}
use Rattle.sqlite_rules.specs.Lists.{Has}
use Rattle.sqlite_rules.proofs.ListLemmas.{has_got, some_has}
use Rattle.sqlite_rules.proofs.RuleLemmas.{keeps_at}
use Rattle.sqlite_value.specs.Keys.{first_key, joined, plain}
use Rattle.sqlite_schema.specs.Names.{same_name}
use Rattle.sqlite_schema.specs.Rules.{Keeps, agree, are_typed, equal, has_computed, is_of, passes}
use Rattle.sqlite_schema.specs.declared.schema.Constraint.{Constraint}
use Rattle.sqlite_schema.specs.declared.schema.Constraint.TheVariants.{Datatype, ForeignKey, NotNull}
use Rattle.sqlite_schema.specs.declared.schema.Kind.TheVariants as kind
use Rattle.reg_tables.specs.Editing.{IsOffice}
use Rattle.reg_tables.specs.Schema.{advice_table, office_schema, queue_table}
use Rattle.reg_tables.specs.Selecting.{stored}
use Rattle.reg_tables.specs.Values.{same_value}
use Rattle.reg_tables.proofs.ValueLemmas.{compared, same_value-is}

-- ---- Texts

text_is : (v : Value) → is_of kind.Text v ≡ true → is_null v ≡ false → (t : List ℕ) × (v ≡ Text t)
text_is (Text t) is there = (t, refl)
text_is _ is there = absurd (cc)

like_text : (v : Value) (t : List ℕ) → same_value v (Text t) ≡ true → v ≡ Text t
like_text (Text s) t e = ap Text ((same_value-is s t).0 e)
like_text _ t e = absurd (cc)

-- what SQL finds equal to a text is that text
same_text : (v w : Value) → is_of kind.Text w ≡ true → is_null w ≡ false → equal Binary v w ≡ true
    → v ≡ w
same_text v w is there e =
    let text = text_is w is there in
    like_text v text.0 (ap (same_value v) (sym text.1) ∙ sym (compared v w) ∙ e) ∙ sym text.1

-- ---- The three columns of a seat

-- the first three columns have texts, or NULL
record AreTexts (row : Row) : Type 0 where
  account : is_of kind.Text (column row 1) ≡ true
  reference : is_of kind.Text (column row 2) ≡ true
  expert : is_of kind.Text (column row 3) ≡ true

record AreThere (row : Row) : Type 0 where
  account : is_null (column row 1) ≡ false
  reference : is_null (column row 2) ≡ false
  expert : is_null (column row 3) ≡ false

three : (a b c more : Bool) → (a && (b && (c && more))) ≡ true
    → (a ≡ true) × (b ≡ true) × (c ≡ true)
three a b c more e =
    let first = and_parts a (b && (c && more)) e in
    let second = and_parts b (c && more) first.1 in
    (first.0, second.0, (and_parts c more second.1).0)

module _ (db : Database) (office : IsOffice db) (row : Row)
    (there : Has (db.trees advice_table.tree) row) where
  keeps : (rule : Constraint) → passes rule office_schema db.trees advice_table row ≡ true
  keeps rule = keeps_at rule office_schema db.trees advice_table row
      (subst (λ s. Keeps rule s db.trees) office.schema (office.sound.obeys.rules rule))
      (has_got office_schema.tables 7 advice_table refl) there

  are_there : AreThere row
  are_there =
      let all = three (not (is_null (column row 1))) (not (is_null (column row 2)))
      (not (is_null (column row 3))) _ (keeps NotNull) in
      record {
        account = not-true _ all.0;
        reference = not-true _ all.1;
        expert = not-true _ all.2;
      }

  -- the columns of an advice are texts
  are_texts : AreTexts row
  are_texts = texts row are_there
      (and_parts (are_typed None 0 advice_table.columns (drop 1 row)) (has_computed advice_table row)
      (keeps Datatype)).0
    where
      texts : (r : Row) → AreThere r → are_typed None 0 advice_table.columns (drop 1 r) ≡ true
          → AreTexts r
      texts [] there typed = absurd (let e = there.account in cc)
      texts (id ∷ []) there typed = absurd (let e = there.account in cc)
      texts (id ∷ a ∷ []) there typed = absurd (let e = there.reference in cc)
      texts (id ∷ a ∷ b ∷ []) there typed = absurd (let e = there.expert in cc)
      texts (id ∷ a ∷ b ∷ c ∷ more) there typed =
          let all = three (is_of kind.Text a) (is_of kind.Text b) (is_of kind.Text c) _ typed in
          record { account = all.0; reference = all.1; expert = all.2 }

  -- a row of the queue has what the foreign key names
  seat_there : list_any (λ seat. agree plain (1 ∷ 2 ∷ 3 ∷ []) seat (1 ∷ 2 ∷ 3 ∷ []) row)
      (db.trees queue_table.tree) ≡ true
  unfolding same_name joined
  seat_there =
      let some : Bool = is_null (column row 1) || (is_null (column row 2) || (is_null (column row 3) || false)) in
      let none : some ≡ false = λ i.
      are_there.account i || (are_there.reference i || (are_there.expert i || false)) in
      let held : Bool = list_any (λ seat. agree plain (1 ∷ 2 ∷ 3 ∷ []) seat (1 ∷ 2 ∷ 3 ∷ []) row) (db.trees queue_table.tree) in
      let key : ((some || held) && true) ≡ true = keeps ForeignKey in
      let both = (and_parts (some || held) true key).0 in
      ap (λ b. b || held) (sym none) ∙ both

-- each row of the advice has a row of the queue with its account, its reference and its expert
pub advice_queued : (db : Database) → IsOffice db → (row : Row)
    → Has (db.trees advice_table.tree) row
    → (seat : Row) × Has (db.trees queue_table.tree) seat × (stored 3 seat ≡ stored 3 row)
unfolding first_key
advice_queued db office row there =
    let texts = are_texts db office row there in
    let present = are_there db office row there in
    let found = some_has (λ seat. agree plain (1 ∷ 2 ∷ 3 ∷ []) seat (1 ∷ 2 ∷ 3 ∷ []) row)
    (db.trees queue_table.tree) (seat_there db office row there) in
    let seat = found.0 in
    let same = three (equal Binary (column seat 1) (column row 1))
    (equal Binary (column seat 2) (column row 2)) (equal Binary (column seat 3) (column row 3))
    true found.2 in
    let account = same_text _ _ texts.account present.account same.0 in
    let reference = same_text _ _ texts.reference present.reference same.1 in
    let expert = same_text _ _ texts.expert present.expert same.2 in
    (seat, found.1, λ i. account i ∷ reference i ∷ expert i ∷ [])
