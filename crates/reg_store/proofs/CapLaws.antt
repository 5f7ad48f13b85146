-- Capabilities that are taken away one after the other.
use Rattle.std.proofs.Common.{◌≡◌, ◌<◌, ◌+◌, ◌++◌, ℕ, List, [], ◌∷◌, refl, ap, ◌∙◌}
use Rattle.std.proofs.Common.{take, get_or, length, add-one}
use Rattle.std.specs.FinMap.{FinMap, remove}
use Rattle.std.proofs.Math.Seq.{take-suc}
use Rattle.reg_maps.specs.Maps.{text_cmp}
use Rattle.reg_core.specs.World.{without}
use Rattle.reg_core.specs.declared.capability.Cap.{Cap}

without-append : (xs ys : List (List ℕ)) (caps : FinMap text_cmp Cap)
    → without (xs ++ ys) caps ≡ without ys (without xs caps)
without-append [] ys caps = refl
without-append (x ∷ xs) ys caps = without-append xs ys (remove caps x)

-- one digest more
pub without-next : (digests : List (List ℕ)) (i : ℕ) (digest : List ℕ)
    (caps : FinMap text_cmp Cap) → i < length digests → get_or digests i digest ≡ digest
    → without (take (i + 1) digests) caps ≡ remove (without (take i digests) caps) digest
without-next digests i digest caps inside here =
    rw add-one
    (ap (λ (ds : List (List ℕ)). without ds caps) (take-suc digests i digest inside)
    ∙ without-append (take i digests) (get_or digests i digest ∷ []) caps
    ∙ ap (λ (d : List ℕ). remove (without (take i digests) caps) d) here)
