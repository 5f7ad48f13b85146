-- The acts of an office as a text, each of which is tied to all before it.
use Rattle.std.specs.Prelude.{◌≡◌, ℕ, List, [], ◌∷◌, ◌++◌, codes, Option, option_map, unwrap_or}
use Rattle.std.specs.Fmt.{decimal}
use Rattle.reg_blocks.specs.Digits.{block_text, prefix_text}
use Rattle.reg_core.specs.ActKind.{act_kind_of, act_kind_word}
use Rattle.reg_core.specs.Advice.{verdict_word}
use Rattle.reg_core.specs.DeedParts.{actor_account, actor_token, deed_account, deed_block, deed_reference, deed_registry, deed_value}
use Rattle.reg_core.specs.declared.journal.Act.{Act}
use Rattle.reg_core.specs.declared.journal.Deed.{Deed}
use Rattle.reg_core.specs.declared.journal.Deed.TheVariants as did
use Rattle.reg_history.specs.Chain.{digest_of, last_digest, line_of, next_number}
use Rattle.reg_history.specs.Moment.{moment_text}

-- the text that is there, or nothing
abbrev pub text_or_none : Option (List ℕ) → List ℕ
text_or_none text = unwrap_or text []

-- what one column says of what was done: the expert, with the verdict of its advice; the agent; the
-- first digits of a token's digest; or the prefix
abbrev pub other_text : Deed → List ℕ
other_text (did.Grant account token) = token
other_text (did.Revoke account token) = token
other_text (did.AddPool prefix) = prefix_text prefix
other_text (did.Assign account reference expert) = expert
other_text (did.Advise account reference expert verdict) =
    expert ++ (codes " " ++ verdict_word verdict)
other_text (did.Appoint principal agent reads) = agent
other_text deed = []

-- the fields of the act of this number, before its digest
abbrev pub act_fields : ℕ → Act → List (List ℕ)
act_fields number act =
    decimal number
    ∷ text_or_none (option_map moment_text act.stamp.moment)
    ∷ text_or_none (actor_account act.stamp.by)
    ∷ text_or_none (actor_token act.stamp.by)
    ∷ act_kind_word (act_kind_of act.deed)
    ∷ text_or_none (deed_account act.deed)
    ∷ text_or_none (deed_reference act.deed)
    ∷ text_or_none (deed_registry act.deed)
    ∷ text_or_none (option_map decimal (deed_value act.deed))
    ∷ text_or_none (option_map block_text (deed_block act.deed))
    ∷ other_text act.deed
    ∷ []

-- what the next act adds to the text, and its digest
abbrev pub next_act_line : List (List ℕ) → Act → List ℕ
next_act_line digests act =
    line_of (last_digest digests) (act_fields (next_number digests) act)

abbrev pub next_act_digest : List (List ℕ) → Act → List ℕ
next_act_digest digests act =
    digest_of (last_digest digests) (act_fields (next_number digests) act)

-- the digests of acts behind those that are there, and the text of these acts
abbrev pub digests_of_acts : List (List ℕ) → List Act → List (List ℕ)
digests_of_acts digests [] = digests
digests_of_acts digests (act ∷ acts) =
    digests_of_acts (digests ++ next_act_digest digests act ∷ []) acts

abbrev pub text_of_acts : List (List ℕ) → List Act → List ℕ
text_of_acts digests [] = []
text_of_acts digests (act ∷ acts) =
    next_act_line digests act
    ++ text_of_acts (digests ++ next_act_digest digests act ∷ []) acts

-- the record of the columns
abbrev pub acts_header : List ℕ
acts_header =
    codes "Number,Moment,By,Token,Kind,Account,Reference,Registry,Value,Block,Other,Digest\n"

-- all acts of an office, the oldest first
abbrev pub acts_text : List Act → List ℕ
acts_text acts = acts_header ++ text_of_acts [] acts

-- and the digest of each
abbrev pub acts_digests : List Act → List (List ℕ)
acts_digests acts = digests_of_acts [] acts

-- this is the text of these acts, and these are the digests
pub record IsTextOfActs (acts : List Act) (text : List ℕ) (digests : List (List ℕ)) : Type 0 where
  pub text_is : text ≡ acts_text acts
  pub digests_are : digests ≡ acts_digests acts
