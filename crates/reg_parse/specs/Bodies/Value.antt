-- Which value of a registry an ask is about.
use Rattle.std.specs.Prelude.{List, [], ◌∷◌, Option, Some, None, Ok, Err, option_and_then, option_map}
use Rattle.serde_json.specs.Data.{Data}
use Rattle.serde_json.specs.Find.{get, as_str}
use Rattle.reg_ranges.specs.Texts.{is_text}
use Rattle.reg_ranges.specs.Words.{read_policy}
use Rattle.reg_ranges.specs.declared.policy.Policy.{Policy}
use Rattle.reg_core.specs.Names.{is_name}
use Rattle.reg_core.specs.Item.{item_name}
use Rattle.reg_core.specs.declared.ask.Want.{Want}
use Rattle.reg_core.specs.declared.ask.Want.TheVariants as want
use Rattle.reg_core.specs.declared.item.Item.{Item}
use Rattle.reg_core.specs.declared.item.Item.TheVariants as item
use Rattle.reg_core.specs.declared.wire_refusal.WireRefusal.TheVariants.{Field}
use Rattle.reg_parse.specs.declared.bodies.value.AllocatedValue.{AllocatedValue}
use Rattle.reg_parse.specs.declared.bodies.value.WantedValue.{WantedValue}
use Rattle.reg_json.specs.Members.{Reading, ◌>>=◌, or_refusal, needed, text_form, number_form}

abbrev pub policy_form : Data → Option Policy
policy_form json = option_and_then read_policy (as_str json)

-- what is wanted, by the members `value` and `least`: exactly one of them is there, and has its
-- form
abbrev pub want_by : Option Data → Option Data → Reading Want
want_by (Some value) None =
    or_refusal (Field item.Value) (option_map want.Value (number_form value))
want_by None (Some least) =
    or_refusal (Field item.Least) (option_map want.Least (policy_form least))
want_by (Some value) (Some least) = Err (Field item.Value)
want_by None None = Err (Field item.Value)

-- what is wanted, by value or least
abbrev pub want_of : Data → Reading Want
want_of json = want_by (get (item_name item.Value) json) (get (item_name item.Least) json)

-- the kind of an ask, and what says which value it wants
abbrev pub wanted_items : List Item
wanted_items = item.Kind ∷ item.Registry ∷ item.Value ∷ item.Least ∷ item.Label ∷ []

-- a value that is wanted
unfoldable pub wanted_value_of : Data → Reading WantedValue
wanted_value_of json = do
  registry ← needed item.Registry (text_form is_name) json
  wanted ← want_of json
  label ← needed item.Label (text_form is_text) json
  Ok (record { registry = registry; want = wanted; label = label })

-- a value that was allocated before
unfoldable pub allocated_value_of : Data → Reading AllocatedValue
allocated_value_of json = do
  registry ← needed item.Registry (text_form is_name) json
  value ← needed item.Value number_form json
  Ok (record { registry = registry; value = value })
