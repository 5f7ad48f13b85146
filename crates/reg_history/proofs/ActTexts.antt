-- The text of acts, one act after the other.
use Rattle.std.proofs.Common.{◌≡◌, ℕ, ◌+◌, ◌<◌, ◌≤◌, List, [], ◌∷◌, ◌++◌, length, take, get_or, refl, sym, ap, ◌∙◌, subst, append_assoc, append-nil}
use Rattle.std.proofs.lemmas.List.{take_all, take_more}
use Rattle.reg_core.specs.declared.journal.Act.{Act}
use Rattle.reg_history.specs.Acts.{IsTextOfActs, acts_digests, acts_header, digests_of_acts, next_act_digest, next_act_line, text_of_acts}

-- one act more, at the end
digests_more : (digests : List (List ℕ)) (acts : List Act) (act : Act)
    → digests_of_acts digests (acts ++ act ∷ [])
    ≡ digests_of_acts digests acts ++ next_act_digest (digests_of_acts digests acts) act ∷ []
digests_more digests [] act = refl
digests_more digests (first ∷ acts) act =
    digests_more (digests ++ next_act_digest digests first ∷ []) acts act

text_more : (digests : List (List ℕ)) (acts : List Act) (act : Act)
    → text_of_acts digests (acts ++ act ∷ [])
    ≡ text_of_acts digests acts ++ next_act_line (digests_of_acts digests acts) act
text_more digests [] act = append-nil (next_act_line digests act)
text_more digests (first ∷ acts) act =
    let line = next_act_line digests first in
    let after = digests ++ next_act_digest digests first ∷ [] in
    ap (λ (t : List ℕ). line ++ t) (text_more after acts act)
    ∙ sym (append_assoc line (text_of_acts after acts) (next_act_line (digests_of_acts after acts) act))

-- the text of no act
pub text_of_none : (text : List ℕ) (digests : List (List ℕ)) → text ≡ acts_header → digests ≡ []
    → IsTextOfActs [] text digests
text_of_none text digests begun none = record {
  text_is = begun ∙ sym (append-nil acts_header);
  digests_are = none;
}

-- what is added to a text for one act more
pub text_with : (acts : List Act) (act : Act) (text longer : List ℕ) (digests more : List (List ℕ))
    → IsTextOfActs acts text digests → longer ≡ text ++ next_act_line digests act
    → more ≡ digests ++ next_act_digest digests act ∷ [] → IsTextOfActs (acts ++ act ∷ []) longer more
text_with acts act text longer digests more is added tied = record {
  text_is =
      added
      ∙ ap (λ (t : List ℕ). t ++ next_act_line digests act) is.text_is
      ∙ ap (λ (d : List (List ℕ)). (acts_header ++ text_of_acts [] acts) ++ next_act_line d act)
      is.digests_are
      ∙ append_assoc acts_header (text_of_acts [] acts) (next_act_line (acts_digests acts) act)
      ∙ ap (λ (t : List ℕ). acts_header ++ t) (sym (text_more [] acts act));
  digests_are =
      tied
      ∙ ap (λ (d : List (List ℕ)). d ++ next_act_digest d act ∷ []) is.digests_are
      ∙ sym (digests_more [] acts act);
}

-- the same of the first acts of a list
pub text_to : (acts : List Act) (i : ℕ) (act : Act) (text longer : List ℕ)
    (digests more : List (List ℕ)) → i < length acts → act ≡ get_or acts i act
    → IsTextOfActs (take i acts) text digests → longer ≡ text ++ next_act_line digests act
    → more ≡ digests ++ next_act_digest digests act ∷ [] → IsTextOfActs (take (i + 1) acts) longer more
text_to acts i act text longer digests more h item is added tied =
    let P : List Act → Type 0 = λ first. IsTextOfActs first longer more in
    let grown : take i acts ++ act ∷ [] ≡ take (i + 1) acts =
    sym (take_more acts i act h ∙ ap (λ y. take i acts ++ y ∷ []) (sym item)) in
    subst P grown (text_with (take i acts) act text longer digests more is added tied)

-- and of all of them
pub text_whole : (acts : List Act) (i : ℕ) (text : List ℕ) (digests : List (List ℕ))
    → length acts ≤ i → IsTextOfActs (take i acts) text digests → IsTextOfActs acts text digests
text_whole acts i text digests long is =
    let P : List Act → Type 0 = λ first. IsTextOfActs first text digests in
    subst P (take_all i acts long) is
