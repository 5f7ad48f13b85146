use Rattle.std.proofs.Common.{ap, ◌∙◌}
use Rattle.reg_json.specs.Members.{◌>>=◌}
use Rattle.reg_parse.specs.Bodies.Ask.{ask_of}
use Rattle.reg_wire.proofs.AskText.{object_of-ask_text}
use Rattle.reg_wire.proofs.ReadBack.{ask_of-ask_tree}
use Rattle.reg_wire.proofs.laws.asks_read_back.Goals as goal

pub returns : goal.returns
returns c ask form =
    ap (λ json. json >>= ask_of) (object_of-ask_text ask form) ∙ ask_of-ask_tree ask form
