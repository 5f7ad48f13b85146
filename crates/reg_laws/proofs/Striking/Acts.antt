-- Lists of acts without those about hidden requests.
use Rattle.std.proofs.Common.{◌≡◌, Bool, true, false, cond, not, List, [], ◌∷◌, ◌++◌, refl, sym, ap, ◌∙◌, append-nil}
use Rattle.std.specs.Prelude.{Option, Some, None, if◌then◌else◌}
use Rattle.reg_core.proofs.Common.{acts_in_order, acts_without, both_ways, deed_about}
use Rattle.reg_core.proofs.Common.{false_from_ne_true, is_about, is_hidden, is_name_of, is_seen, not-false}
use Rattle.reg_core.proofs.Common.{same_name, RequestName}
use Rattle.reg_laws.proofs.Types.{Act}
use Rattle.reg_core.proofs.Files.{same_name-is}

module _ (hidden : RequestName → Bool) where
  -- of two lists, one after the other
  without-append : (a b : List Act)
      → acts_without hidden (a ++ b) ≡ acts_without hidden a ++ acts_without hidden b
  without-append [] b = refl
  without-append (act ∷ a) b = by (without-append a b) (is_seen hidden act)
    where
      by : acts_without hidden (a ++ b) ≡ acts_without hidden a ++ acts_without hidden b → (s : Bool)
          → cond s (act ∷ acts_without hidden (a ++ b)) (acts_without hidden (a ++ b))
          ≡ cond s (act ∷ acts_without hidden a) (acts_without hidden a) ++ acts_without hidden b
      by rest true = ap (λ acts. act ∷ acts) rest
      by rest false = rest

  -- of one act
  abbrev one_if : Act → Bool → List Act
  one_if act b = if b then act ∷ [] else []

  one_seen : (act : Act) (b : Bool) → is_seen hidden act ≡ true
      → acts_without hidden (one_if act b) ≡ one_if act b
  one_seen act true t = ap (λ s. cond s (act ∷ []) []) t
  one_seen act false t = refl

  one_hidden : (act : Act) (b : Bool) → is_seen hidden act ≡ false
      → acts_without hidden (one_if act b) ≡ []
  one_hidden act true f = ap (λ s. cond s (act ∷ []) []) f
  one_hidden act false f = refl

  -- of those of a journal that pass a test
  in_order : (test : Act → Bool) (journal : List Act)
      → acts_without hidden (acts_in_order test journal)
      ≡ acts_in_order test (acts_without hidden journal)
  in_order test [] = refl
  in_order test (act ∷ acts) =
      without-append (acts_in_order test acts) (one_if act (test act))
      ∙ by (in_order test acts) (is_seen hidden act) refl
    where
      by : acts_without hidden (acts_in_order test acts)
          ≡ acts_in_order test (acts_without hidden acts)
          → (s : Bool) → is_seen hidden act ≡ s
          → acts_without hidden (acts_in_order test acts)
          ++ acts_without hidden (one_if act (test act))
          ≡ acts_in_order test (cond s (act ∷ acts_without hidden acts) (acts_without hidden acts))
      by rest true t = λ i. rest i ++ one_seen act (test act) t i
      by rest false f = (λ i. rest i ++ one_hidden act (test act) f i) ∙ append-nil _

  -- so these are the same of journals that are the same without acts about hidden requests
  pub same_acts : (test : Act → Bool) (j k : List Act)
      → acts_without hidden j ≡ acts_without hidden k
      → acts_without hidden (acts_in_order test j) ≡ acts_without hidden (acts_in_order test k)
  same_acts test j k same =
      in_order test j ∙ ap (acts_in_order test) same ∙ sym (in_order test k)

  -- and those about one that is not hidden are the same altogether
  module _ (name : RequestName) (shown : hidden name ≡ false) where
    elsewhere : (about : Option RequestName) → not (is_hidden hidden about) ≡ false
        → is_name_of name about ≡ false
    elsewhere None f = absurd (cc)
    elsewhere (Some it) f = false_from_ne_true (same_name it name) (λ t.
        both_ways (hidden name) shown
        (ap hidden (sym (same_name-is it name t)) ∙ not-false (hidden it) f))

    all_about : (journal : List Act)
        → acts_in_order (is_about name) journal
        ≡ acts_in_order (is_about name) (acts_without hidden journal)
    all_about [] = refl
    all_about (act ∷ acts) = by (all_about acts) (is_seen hidden act) refl
      where
        its : List Act
        its = acts_in_order (is_about name) acts

        by : its ≡ acts_in_order (is_about name) (acts_without hidden acts) → (s : Bool)
            → is_seen hidden act ≡ s
            → its ++ one_if act (is_about name act)
            ≡ acts_in_order (is_about name)
            (cond s (act ∷ acts_without hidden acts) (acts_without hidden acts))
        by rest true t = ap (λ acts. acts ++ one_if act (is_about name act)) rest
        by rest false f =
            ap (λ b. its ++ one_if act b) (elsewhere (deed_about act.deed) f) ∙ append-nil its ∙ rest

    pub same_about : (j k : List Act) → acts_without hidden j ≡ acts_without hidden k
        → acts_in_order (is_about name) j ≡ acts_in_order (is_about name) k
    same_about j k same =
        all_about j ∙ ap (acts_in_order (is_about name)) same ∙ sym (all_about k)

  -- where no act is about a hidden request, none of these is
  pub acts_plain : (test : Act → Bool) (journal : List Act)
      → acts_without hidden journal ≡ journal
      → acts_without hidden (acts_in_order test journal) ≡ acts_in_order test journal
  acts_plain test journal none = in_order test journal ∙ ap (acts_in_order test) none
