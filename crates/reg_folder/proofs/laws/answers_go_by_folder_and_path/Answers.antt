use Rattle.std.proofs.Common.{◌∙◌, List, ℕ, subst, sym}
use Rattle.reg_folder.specs.Answers.{AnswersAim}
use Rattle.reg_folder.specs.Path.{aim_at}
use Rattle.reg_folder.proofs.laws.answers_go_by_folder_and_path.Goals as goal

pub returns : goal.returns
returns g c old new one other given plain also same answers =
    let Answers : List ℕ → List ℕ → List ℕ → Type 0 =
    λ method body path. AnswersAim g.S.SiteFiles.Finds old new method path (aim_at method body path) given in
    subst (λ method. Answers method other.body other.path) (plain.0 ∙ sym also.0)
    (subst (λ body. Answers one.method body other.path) (plain.1 ∙ sym also.1)
    (subst (λ path. Answers one.method one.body path) same answers))
