-- The advice that an object is.
use Rattle.std.specs.Prelude.{Ok}
use Rattle.serde_json.specs.Data.{Data}
use Rattle.reg_ranges.specs.Texts.{is_text}
use Rattle.reg_core.specs.declared.advice.Advice.{Advice}
use Rattle.reg_core.specs.declared.item.Item.TheVariants as item
use Rattle.reg_json.specs.Members.{Reading, ◌>>=◌, needed, text_form, verdict_form}

unfoldable pub advice_of : Data → Reading Advice
advice_of json = do
  verdict ← needed item.Verdict verdict_form json
  text ← needed item.Text (text_form is_text) json
  Ok (record { verdict = verdict; text = text })
