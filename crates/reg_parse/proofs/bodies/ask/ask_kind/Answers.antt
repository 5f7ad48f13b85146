use Rattle.std.proofs.Common.{◌≡◌, ℕ, List, Option, Some, None, Ok, ap, sym, ◌∙◌, rules}
use Rattle.std.specs.Prelude.{option_and_then}
use Rattle.std.proofs.lemmas.Option.{none-some}
use Rattle.serde_json.specs.Data.{Data}
use Rattle.serde_json.specs.Find.{get, as_str}
use Rattle.serde_json.specs.View.{view}
use Rattle.reg_core.specs.AskKind.{read_ask_kind}
use Rattle.reg_core.specs.Item.{item_name}
use Rattle.reg_core.specs.declared.ask_kind.AskKind.{AskKind}
use Rattle.reg_core.specs.declared.item.Item.TheVariants as item
use Rattle.reg_core.specs.declared.wire_refusal.WireRefusal.TheVariants.{Field}
use Rattle.reg_parse.specs.Bodies.Ask.{ask_kind_form}
use Rattle.reg_json.specs.Members.{or_refusal}
use Rattle.reg_parse.proofs.bodies.ask.ask_kind.Goals as goal

-- a member whose word names a kind
named : (member : Option Data) (word : List ℕ) (kind : AskKind)
    → option_and_then as_str member ≡ Some word → read_ask_kind word ≡ Some kind
    → or_refusal (Field item.Kind) (option_and_then ask_kind_form member) ≡ Ok kind
named None word kind there known = absurd (none-some word there)
named (Some json) word kind there known =
    ap (λ s. or_refusal (Field item.Kind) (option_and_then read_ask_kind s)) there
    ∙ ap (or_refusal (Field item.Kind)) known

pub returns-in-Some-read : goal.returns-in-Some-read
returns-in-Some-read c =
    let there : option_and_then as_str (get (item_name item.Kind) (view c.args.json.now))
    ≡ Some c.in-Some.word.now = search rules in
    let known : read_ask_kind c.in-Some.word.now ≡ Some c.in-Some-read.kind =
    ap read_ask_kind (sym c.as_bytes.ensures.value) ∙ sym c.read.ensures ∙ c.in-Some-read.is in
    named (get (item_name item.Kind) (view c.args.json.now)) c.in-Some.word.now
    c.in-Some-read.kind there known
