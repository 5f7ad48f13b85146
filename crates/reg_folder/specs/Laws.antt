-- Laws of the answers of a site.
use Rattle.std.specs.Prelude.{◌≡◌, ◌≢◌, ◌++◌, ℕ, List, [], Option, Some, Ok, All, codes}
use Rattle.reg_head.specs.Request.{Request}
use Rattle.reg_http.specs.declared.front.FrontAnswer.{FrontAnswer}
use Rattle.reg_folder.specs.Answers.{AnswersSite}
use Rattle.reg_folder.specs.Path.{aim_at, segments}
use Rattle.reg_folder.specs.declared.files.SiteFile.{SiteFile}

-- a GET without a body
abbrev pub IsPlainGet : Request → Type 0
IsPlainGet r = (r.method ≡ codes "GET") × (r.body ≡ [])

-- what may be answered to one may be answered to each with the same path
abbrev pub AnswersGoByFolderAndPath : {F C : Type 0} → (F → F → List ℕ → Option (SiteFile C) → Type 0)
    → Type 0
AnswersGoByFolderAndPath {F} {C} Finds =
    (old new : F) (one other : Request) (given : Option (FrontAnswer C)) → IsPlainGet one
    → IsPlainGet other → one.path ≡ other.path → AnswersSite Finds old new one given
    → AnswersSite Finds old new other given

-- the segment has a byte, and begins with no dot
abbrev pub IsPlainName : List ℕ → Type 0
IsPlainName segment = (segment ≢ []) × ((rest : List ℕ) → segment ≢ codes "." ++ rest)

-- each segment of a path that is looked for does so
abbrev pub PathsStayBelow : Type 0
PathsStayBelow =
    (method body path at : List ℕ) → aim_at method body path ≡ Some (Ok at)
    → All IsPlainName (segments at)
