-- The capability that an object is.
use Rattle.std.specs.Prelude.{Ok}
use Rattle.serde_json.specs.Data.{Data}
use Rattle.reg_core.specs.Names.{is_name}
use Rattle.reg_core.specs.declared.capability.Cap.{Cap}
use Rattle.reg_core.specs.declared.item.Item.TheVariants as item
use Rattle.reg_json.specs.Members.{Reading, ◌>>=◌, needed, text_form, until_form, kind_form}

unfoldable pub cap_of : Data → Reading Cap
cap_of json = do
  account ← needed item.Account (text_form is_name) json
  kind ← needed item.Kind kind_form json
  until ← needed item.Until until_form json
  Ok (record { account = account; kind = kind; until = until })
