-- The texts of lines, one after another.
use Rattle.std.proofs.Common.{◌≡◌, ◌∙◌, ℕ, List, [], ◌∷◌, ◌++◌, Result, Ok, Err, refl, sym, ap, subst, append_assoc}
use Rattle.std.specs.Prelude.{⊤, OnOk}
use Rattle.std.proofs.lemmas.Grind.{flat_map-append}
use Rattle.std.proofs.lemmas.List.{append-nil}
use Rattle.reg_core.specs.declared.capability.Kind.TheVariants.{Applicant, Expert}
use Rattle.reg_import.specs.Lines.{Filing, Line, advice_line, applicant_token, approval_line, assignment_line, expert_token, filing_lines, grant_line, line_text, lines_text, review_if, review_lines, submission_line}
use Rattle.reg_import.specs.declared.import.Import.{Import}

pub lines_text_append : (lines more : List Line)
    → lines_text (lines ++ more) ≡ lines_text lines ++ lines_text more
unfolding lines_text
lines_text_append lines more = flat_map-append line_text lines more

pub lines_text_cons : (l : Line) (more : List Line)
    → lines_text (l ∷ more) ≡ line_text l ++ lines_text more
unfolding lines_text
lines_text_cons l more = refl

pub lines_text_nil : lines_text [] ≡ []
unfolding lines_text
lines_text_nil = refl

-- nothing was appended
pub none_pushed : (out : List ℕ) → out ≡ out ++ lines_text []
none_pushed out = sym (rw lines_text_nil (append-nil out))

-- a line was
pub one_pushed : (a b : List ℕ) (l : Line) → b ≡ a ++ line_text l → b ≡ a ++ lines_text (l ∷ [])
one_pushed a b l e = e ∙ ap (λ t. a ++ t) (sym (lines_text_cons l [] ∙ rw lines_text_nil (append-nil (line_text l))))

-- first some lines were, and then others
pub both_pushed : (a b c : List ℕ) (lines more : List Line) → b ≡ a ++ lines_text lines
    → c ≡ b ++ lines_text more → c ≡ a ++ lines_text (lines ++ more)
both_pushed a b c lines more first then =
    then ∙ ap (λ t. t ++ lines_text more) first ∙ append_assoc a (lines_text lines) (lines_text more)
    ∙ ap (λ t. a ++ t) (sym (lines_text_append lines more))

pub line_pushed : (a b c : List ℕ) (l : Line) (more : List Line) → b ≡ a ++ line_text l
    → c ≡ b ++ lines_text more → c ≡ a ++ lines_text (l ∷ more)
line_pushed a b c l more first then = both_pushed a b c (l ∷ []) more (one_pushed a b l first) then

-- a line was, where nothing failed
pub one_pushed_ok : {E : Type 0} (r : Result ⊤ E) (a b : List ℕ) (l : Line)
    → OnOk r (b ≡ a ++ line_text l) → OnOk r (b ≡ a ++ lines_text (l ∷ []))
one_pushed_ok (Ok u) a b l h = one_pushed a b l h
one_pushed_ok (Err e) a b l h = tt

pub review_pushed : (by : Import) (f : Filing) (token same a b c d : List ℕ)
    → token ≡ expert_token by f → same ≡ expert_token by f
    → b ≡ a ++ line_text (assignment_line by f)
    → c ≡ b ++ line_text (grant_line by f token by.expert Expert)
    → d ≡ c ++ line_text (advice_line f same) → d ≡ a ++ lines_text (review_lines by f)
review_pushed by f token same a b c d is too one two three =
    let granted =
    subst (λ (t : List ℕ). c ≡ b ++ line_text (grant_line by f t by.expert Expert)) is two in
    let advised = subst (λ (t : List ℕ). d ≡ c ++ line_text (advice_line f t)) too three in
    line_pushed a b d (assignment_line by f) _ one
    (line_pushed b c d (grant_line by f (expert_token by f) by.expert Expert) _ granted
    (one_pushed c d (advice_line f (expert_token by f)) advised))

pub filing_pushed : (by : Import) (f : Filing) (token same a b c d e : List ℕ)
    → token ≡ applicant_token by f → same ≡ applicant_token by f
    → b ≡ a ++ line_text (grant_line by f token f.account Applicant)
    → c ≡ b ++ line_text (submission_line f same) → d ≡ c ++ lines_text (review_if by f)
    → e ≡ d ++ line_text (approval_line by f) → e ≡ a ++ lines_text (filing_lines by f)
filing_pushed by f token same a b c d e is too one two three four =
    let granted =
    subst (λ (t : List ℕ). b ≡ a ++ line_text (grant_line by f t f.account Applicant)) is one in
    let filed = subst (λ (t : List ℕ). c ≡ b ++ line_text (submission_line f t)) too two in
    line_pushed a b e (grant_line by f (applicant_token by f) f.account Applicant) _ granted
    (line_pushed b c e (submission_line f (applicant_token by f)) _ filed
    (both_pushed c d e (review_if by f) (approval_line by f ∷ []) three
    (one_pushed d e (approval_line by f) four)))
