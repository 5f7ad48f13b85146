-- The JSON of acts.
use Rattle.std.specs.Prelude.{ℕ, List, [], ◌∷◌, ◌++◌, map, Option, option_map, codes}
use Rattle.serde_json.specs.Data.{Data, array, number, string, unsigned}
use Rattle.serde_json.specs.View.{items_of}
use Rattle.reg_blocks.specs.Digits.{block_text, prefix_text}
use Rattle.reg_core.specs.ActKind.{act_kind_of, act_kind_word}
use Rattle.reg_core.specs.Advice.{verdict_word}
use Rattle.reg_core.specs.DeedParts.{actor_account, actor_token, deed_account, deed_agent, deed_block, deed_digest, deed_expert, deed_pool, deed_reference, deed_registry, deed_value, deed_verdict}
use Rattle.reg_core.specs.declared.journal.Act.{Act}
use Rattle.reg_print.specs.Trees.Members.{Listed, object_with, text, text_if}

-- a number, where there is one
abbrev pub number_if : Option ℕ → Option Data
number_if n = option_map (λ n. number (unsigned n)) n

-- the members before the kind, and those behind the moment
abbrev pub about_members : Act → Listed
about_members act =
    (codes "account", text_if (deed_account act.deed))
    ∷ (codes "agent", text_if (deed_agent act.deed))
    ∷ (codes "block", option_map (λ b. string (block_text b)) (deed_block act.deed))
    ∷ (codes "by", text_if (actor_account act.stamp.by))
    ∷ (codes "digest", text_if (deed_digest act.deed))
    ∷ (codes "expert", text_if (deed_expert act.deed))
    ∷ []

abbrev pub what_members : Act → Listed
what_members act =
    (codes "pool", option_map (λ p. string (prefix_text p)) (deed_pool act.deed))
    ∷ (codes "reference", text_if (deed_reference act.deed))
    ∷ (codes "registry", text_if (deed_registry act.deed))
    ∷ (codes "token", text_if (actor_token act.stamp.by))
    ∷ (codes "value", number_if (deed_value act.deed))
    ∷ (codes "verdict", option_map (λ v. string (verdict_word v)) (deed_verdict act.deed))
    ∷ []

abbrev pub act_members : Act → Listed
act_members act =
    about_members act
    ++ (codes "kind", text (act_kind_word (act_kind_of act.deed)))
    ∷ (codes "moment", number_if act.stamp.moment)
    ∷ what_members act

abbrev pub act_tree : Act → Data
act_tree act = object_with (act_members act)

abbrev pub acts_tree : List Act → Data
acts_tree acts = array (items_of (map act_tree acts))
