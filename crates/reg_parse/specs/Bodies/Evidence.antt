-- What an applicant shows, as members of its ask.
use Rattle.std.specs.Prelude.{List, [], ◌∷◌, Ok}
use Rattle.serde_json.specs.Data.{Data}
use Rattle.reg_ranges.specs.Texts.{is_text}
use Rattle.reg_ranges.specs.declared.evidence.Evidence.{Evidence}
use Rattle.reg_core.specs.declared.item.Item.{Item}
use Rattle.reg_core.specs.declared.item.Item.TheVariants as item
use Rattle.reg_json.specs.Members.{Reading, ◌>>=◌, optional, text_form}
use Rattle.reg_parse.specs.Bodies.Rfc.{rfc_form}

abbrev pub evidence_items : List Item
evidence_items = item.Contact ∷ item.Specification ∷ item.Rfc ∷ item.Minute ∷ []

-- each part may be missing; where it is there it has its form
unfoldable pub evidence_of : Data → Reading Evidence
evidence_of json = do
  contact ← optional item.Contact (text_form is_text) json
  specification ← optional item.Specification (text_form is_text) json
  rfc ← optional item.Rfc rfc_form json
  minute ← optional item.Minute (text_form is_text) json
  Ok (record { contact = contact; spec = specification; rfc = rfc; minute = minute })
