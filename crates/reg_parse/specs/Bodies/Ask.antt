-- The ask that an object is, or the first of its members at fault.
use Rattle.std.specs.Prelude.{ℕ, List, [], ◌∷◌, ◌++◌, Option, Some, None, Ok, if◌then◌else◌, option_and_then}
use Rattle.std.specs.Str.{bytes_eq}
use Rattle.serde_json.specs.Data.{Data}
use Rattle.serde_json.specs.Find.{as_str}
use Rattle.reg_blocks.specs.Size.{word_of}
use Rattle.reg_blocks.specs.declared.size.Size.{Size}
use Rattle.reg_blocks.specs.declared.size.Size.TheVariants.{MaL, MaM, MaS}
use Rattle.reg_ranges.specs.Texts.{is_text}
use Rattle.reg_ranges.specs.declared.evidence.Evidence.{Evidence}
use Rattle.reg_early.specs.declared.evidence.EarlyEvidence.{EarlyEvidence}
use Rattle.reg_core.specs.AskKind.{read_ask_kind}
use Rattle.reg_core.specs.declared.ask.Ask.{Ask}
use Rattle.reg_core.specs.declared.ask.Ask.TheVariants as ask
use Rattle.reg_core.specs.declared.ask.BlockAsk.{BlockAsk}
use Rattle.reg_core.specs.declared.ask.CodeAsk.{CodeAsk}
use Rattle.reg_core.specs.declared.ask.EarlyAsk.{EarlyAsk}
use Rattle.reg_core.specs.declared.ask.PermanenceAsk.{PermanenceAsk}
use Rattle.reg_core.specs.declared.ask.RenewalAsk.{RenewalAsk}
use Rattle.reg_core.specs.declared.ask_kind.AskKind.{AskKind}
use Rattle.reg_core.specs.declared.ask_kind.AskKind.TheVariants as kind
use Rattle.reg_core.specs.declared.item.Item.{Item}
use Rattle.reg_core.specs.declared.item.Item.TheVariants as item
use Rattle.reg_parse.specs.declared.bodies.value.AllocatedValue.{AllocatedValue}
use Rattle.reg_parse.specs.declared.bodies.value.WantedValue.{WantedValue}
use Rattle.reg_json.specs.Members.{Reading, ◌>>=◌, needed, optional, only, text_form}
use Rattle.reg_parse.specs.Bodies.EarlyEvidence.{early_evidence_items, early_evidence_of}
use Rattle.reg_parse.specs.Bodies.Evidence.{evidence_items, evidence_of}
use Rattle.reg_parse.specs.Bodies.Value.{allocated_value_of, wanted_items, wanted_value_of}

abbrev pub ask_kind_form : Data → Option AskKind
ask_kind_form json = option_and_then read_ask_kind (as_str json)

-- which size its word names
abbrev pub size_named : List ℕ → Option Size
size_named word =
    if bytes_eq word (word_of MaL) then Some MaL
    else (if bytes_eq word (word_of MaM) then Some MaM
    else (if bytes_eq word (word_of MaS) then Some MaS else None))

abbrev pub size_form : Data → Option Size
size_form json = option_and_then size_named (as_str json)

-- the members that an ask of one kind may have, and the ask that they make
abbrev pub code_items : List Item
code_items = wanted_items ++ evidence_items

abbrev pub code_with : WantedValue → Evidence → CodeAsk
code_with wanted evidence = record {
  registry = wanted.registry;
  want = wanted.want;
  label = wanted.label;
  evidence = evidence;
}

-- the ask of each kind that an object is, or the first of its members at fault
unfoldable pub code_of : Data → Reading CodeAsk
code_of json = do
  wanted ← wanted_value_of json
  evidence ← evidence_of json
  others ← only code_items json
  Ok (code_with wanted evidence)

abbrev pub early_items : List Item
early_items = wanted_items ++ early_evidence_items

abbrev pub early_with : WantedValue → EarlyEvidence → EarlyAsk
early_with wanted evidence = record {
  registry = wanted.registry;
  want = wanted.want;
  label = wanted.label;
  evidence = evidence;
}

unfoldable pub early_of : Data → Reading EarlyAsk
early_of json = do
  wanted ← wanted_value_of json
  evidence ← early_evidence_of json
  others ← only early_items json
  Ok (early_with wanted evidence)

abbrev pub renewal_items : List Item
renewal_items =
    (item.Kind ∷ item.Registry ∷ item.Value ∷ item.Iesg ∷ []) ++ early_evidence_items

abbrev pub renewal_with : AllocatedValue → EarlyEvidence → Option (List ℕ) → RenewalAsk
renewal_with allocated evidence iesg = record {
  registry = allocated.registry;
  value = allocated.value;
  evidence = evidence;
  iesg = iesg;
}

unfoldable pub renewal_of : Data → Reading RenewalAsk
renewal_of json = do
  allocated ← allocated_value_of json
  evidence ← early_evidence_of json
  iesg ← optional item.Iesg (text_form is_text) json
  others ← only renewal_items json
  Ok (renewal_with allocated evidence iesg)

abbrev pub permanence_items : List Item
permanence_items = (item.Kind ∷ item.Registry ∷ item.Value ∷ []) ++ evidence_items

abbrev pub permanence_with : AllocatedValue → Evidence → PermanenceAsk
permanence_with allocated evidence = record {
  registry = allocated.registry;
  value = allocated.value;
  evidence = evidence;
}

unfoldable pub permanence_of : Data → Reading PermanenceAsk
permanence_of json = do
  allocated ← allocated_value_of json
  evidence ← evidence_of json
  others ← only permanence_items json
  Ok (permanence_with allocated evidence)

abbrev pub block_items : List Item
block_items = item.Kind ∷ item.Size ∷ item.Organization ∷ item.Address ∷ []

unfoldable pub block_of : Data → Reading BlockAsk
block_of json = do
  size ← needed item.Size size_form json
  organization ← needed item.Organization (text_form is_text) json
  address ← needed item.Address (text_form is_text) json
  others ← only block_items json
  Ok (record { size = size; organization = organization; address = address })

abbrev pub ask_of_kind : AskKind → Data → Reading Ask
ask_of_kind kind.Code json = do
  code ← code_of json
  Ok (ask.Code code)
ask_of_kind kind.Early json = do
  early ← early_of json
  Ok (ask.Early early)
ask_of_kind kind.Renew json = do
  renewal ← renewal_of json
  Ok (ask.Renew renewal)
ask_of_kind kind.Permanent json = do
  permanence ← permanence_of json
  Ok (ask.Permanent permanence)
ask_of_kind kind.Block json = do
  block ← block_of json
  Ok (ask.Block block)

unfoldable pub ask_of : Data → Reading Ask
ask_of json = do
  asked ← needed item.Kind ask_kind_form json
  ask_of_kind asked json
