-- What an applicant shows for an early allocation, as members of its ask.
use Rattle.std.specs.Prelude.{ℕ, Bool, List, [], ◌∷◌, Option, Ok}
use Rattle.serde_json.specs.Data.{Data}
use Rattle.reg_ranges.specs.Texts.{is_text}
use Rattle.reg_early.specs.declared.evidence.EarlyEvidence.{EarlyEvidence}
use Rattle.reg_core.specs.declared.item.Item.{Item}
use Rattle.reg_core.specs.declared.item.Item.TheVariants as item
use Rattle.reg_json.specs.Members.{Reading, ◌>>=◌, optional, optional_truth, text_form}

abbrev pub early_evidence_items : List Item
early_evidence_items =
    item.Draft ∷ item.Stable ∷ item.Interest ∷ item.Chair ∷ item.Director ∷ item.WillBeRfc ∷ []

abbrev pub early_evidence_with : Option (List ℕ) → Bool → Bool → Option (List ℕ)
    → Option (List ℕ) → Bool → EarlyEvidence
early_evidence_with draft stable interest chair director promise = record {
  draft = draft;
  stable = stable;
  interest = interest;
  chair = chair;
  director = director;
  will_be_rfc = promise;
}

-- each part may be missing; where it is there it has its form
unfoldable pub early_evidence_of : Data → Reading EarlyEvidence
early_evidence_of json = do
  draft ← optional item.Draft (text_form is_text) json
  stable ← optional_truth item.Stable json
  interest ← optional_truth item.Interest json
  chair ← optional item.Chair (text_form is_text) json
  director ← optional item.Director (text_form is_text) json
  promise ← optional_truth item.WillBeRfc json
  Ok (early_evidence_with draft stable interest chair director promise)
