-- Links are their principals'.
use Rattle.std.proofs.Common.{◌≡◌, ℕ, Bool, true, false, List, refl, sym, ap, ◌∙◌, inl, inr, Option, Some, ◌⊎◌}
use Rattle.reg_core.proofs.Common.{contains_key, eq_by_cmp, tied, World, Link, link_cmp, applied}
use Rattle.reg_core.proofs.Common.{carried, link_keys, link_is, link_stays}
use Rattle.reg_laws.proofs.Types.{Act, Change, Command}
use Rattle.reg_core.proofs.Common.{same_kind-is}
use Rattle.reg_core.specs.Agents.{IsSaid, LinksAreTheirPrincipals}
use Rattle.reg_core.specs.declared.capability.Kind.TheVariants as kind
use Rattle.reg_core.specs.declared.change.Change.TheVariants.{SetAgent}
use Rattle.reg_core.specs.declared.command.Command.TheVariants.{Applicant}
use Rattle.reg_core.specs.declared.command.ApplicantCommand.TheVariants as applicant
use Rattle.reg_core.proofs.Outcomes.Dues.{IsDue, each_step}

module _ (digest_of : List ℕ → List ℕ) (w : World) (caller : Option (List ℕ)) (moment : ℕ)
    (command : Command) (link : Link) where
  -- the link is there as before, or its principal said so
  abbrev Stands : World → Type 0
  Stands v =
      (contains_key v.agents link ≡ contains_key w.agents link) ⊎ IsSaid w v caller command link

  said : (principal agent : List ℕ) (reads : Bool)
      → IsDue digest_of w caller moment command (SetAgent principal agent reads)
      → Stands (applied w (SetAgent principal agent reads))
  said principal agent reads is = by (eq_by_cmp link_cmp link (principal, agent)) refl
    where
      by : (b : Bool) → eq_by_cmp link_cmp link (principal, agent) ≡ b
          → Stands (applied w (SetAgent principal agent reads))
      by true t =
          let same = tied link_keys link (principal, agent) t in
          let serves = is.due.0.serves in
          inr (record {
            reads = reads;
            by = is.by ∙ ap (λ (l : Link). Applicant (applicant.SetAgent l.1 reads)) (sym same);
            cap = serves.cap;
            has = serves.is_there;
            own = is.due.0.own ∙ ap (λ (l : Link). l.0) (sym same);
            kind = same_kind-is serves.cap.kind kind.Applicant serves.of_kind;
            is =
                ap (contains_key (applied w (SetAgent principal agent reads)).agents) same
                ∙ link_is w (principal, agent) reads;
          })
      by false t = inl (link_stays w (principal, agent) reads link t)

  due_stands : (change : Change) → IsDue digest_of w caller moment command change
      → Stands (applied w change)
  due_stands (SetAgent principal agent reads) is = said principal agent reads is
  due_stands change is = inl refl

  -- nothing is said of the journal
  stands_anyhow : (v : World) (journal : List Act) → Stands v
      → Stands (record v { journal = journal })
  stands_anyhow v journal stands = elim stands [
    | inl same ↦ inl same
    | inr by ↦ inr (record {
      reads = by.reads;
      by = by.by;
      cap = by.cap;
      has = by.has;
      own = by.own;
      kind = by.kind;
      is = by.is;
    })
  ]

pub links_are_theirs : (digest_of : List ℕ → List ℕ) → LinksAreTheirPrincipals digest_of
links_are_theirs digest_of w caller moment command link =
    each_step digest_of w caller moment command
    (λ change. Stands digest_of w caller moment command link (carried w caller moment change))
    (inl refl)
    (λ change is.
    stands_anyhow digest_of w caller moment command link (applied w change)
    (carried w caller moment (Some change)).journal
    (due_stands digest_of w caller moment command link change is))
