-- The JSON of advice.
use Rattle.std.specs.Prelude.{List, [], ◌∷◌, map, codes}
use Rattle.serde_json.specs.Data.{Data, array}
use Rattle.serde_json.specs.View.{items_of}
use Rattle.reg_core.specs.Advice.{verdict_word}
use Rattle.reg_core.specs.declared.advice.Advice.{Advice}
use Rattle.reg_core.specs.declared.advice.Opinion.{Opinion}
use Rattle.reg_print.specs.Trees.Members.{Listed, object_with, text}

abbrev pub advice_members : Advice → Listed
advice_members advice =
    (codes "text", text advice.text)
    ∷ (codes "verdict", text (verdict_word advice.verdict))
    ∷ []

-- the JSON of advice; with its expert; of all advice on a request
abbrev pub advice_tree : Advice → Data
advice_tree advice = object_with (advice_members advice)

-- an advice with its expert
abbrev pub opinion_members : Opinion → Listed
opinion_members opinion = (codes "expert", text opinion.expert) ∷ advice_members opinion.advice

abbrev pub opinion_tree : Opinion → Data
opinion_tree opinion = object_with (opinion_members opinion)

abbrev pub opinions_tree : List Opinion → Data
opinions_tree opinions = array (items_of (map opinion_tree opinions))
