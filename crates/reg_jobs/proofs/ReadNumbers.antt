-- What the values of arguments are that are read as texts and numbers.
use Rattle.std.proofs.Common.{◌≡◌, ◌∙◌, ◌<◌, ◌≤◌, ◌^◌, ℕ, IfOk, List, MatchResult, Option, Some, None, Result, ap, is_some, option_map, refl, subst, sym, true}
use Rattle.std.specs.Borrow.{Bor}
use Rattle.std.specs.Option.{ok_or}
use Rattle.std.specs.Str.Parse.{ExplainsUnsignedError, HasUnsignedDigitsIfOk, ParsesUnsigned}
use Rattle.std.specs.declared.num.ParseIntError.{ParseIntError}
use Rattle.std.proofs.lemmas.Result.{IfOk-weaker}
use Rattle.clap.specs.Words.{ReadsOne, Text, first_value, one_text, rows_of, without_minus}
use Rattle.clap.specs.declared.parser.matches.Found.{Found}
use Rattle.clap.proofs.CallerReads.{signed_reads}
use Rattle.clap.proofs.WalkLemmas.{first_value-rows, one_text-rows}
use Rattle.reg_jobs.specs.Asking.{HasNumber, HasText, IsNumberOf}
use Rattle.reg_jobs.specs.declared.jobs.JobFault.{JobFault}

-- what a text gives that is read as a number of so many bits
abbrev pub Gives : ℕ → List ℕ → Result ℕ ParseIntError → Type 0
Gives bits t x = ParsesUnsigned bits 10 t x × ExplainsUnsignedError 10 t x × HasUnsignedDigitsIfOk t x

-- the number is the one that the text of the argument spells
pub number_read : (bits : ℕ) (f : Found) (id : Text) (o : Option ℕ) (r : Result ℕ JobFault) → (one_text f id ≡ None → o ≡ None)
    → ((t : List ℕ) → one_text f id ≡ Some t → ReadsOne (Gives bits) t o) → IfOk r (λ n. o ≡ Some n) → IfOk r (IsNumberOf id (rows_of f))
number_read bits f id o r none value given = IfOk-weaker r _ _ (λ n is. go n is (one_text f id) refl) given
  where
    go : (n : ℕ) → o ≡ Some n → (read : Option Text) → one_text f id ≡ read → IsNumberOf id (rows_of f) n
    go n is None e =
        let no = none e in
        absurd (cc)
    go n is (Some t) e =
        let read : ReadsOne (Gives bits) t (Some n) = subst (ReadsOne (Gives bits) t) is (value t e) in
        (t, sym (one_text-rows f id) ∙ e, read.0.0.0, sym read.0.1)

-- an argument that has a number in its range is read as one
pub number_given : (bits least most : ℕ) (f : Found) (id : Text) (r : Option ℕ)
    → most < 2 ^ bits → ((t : List ℕ) → one_text f id ≡ Some t → ReadsOne (Gives bits) t r)
    → HasNumber id least most (rows_of f) → (n : ℕ) × (r ≡ Some n) × ((least ≤ n) × (n ≤ most))
number_given bits least most f id r fits value has =
    let read = value (without_minus has.0) (one_text-rows f id ∙ has.1) in
    let number = signed_reads ParseIntError (Gives bits) bits least most has.0 r read (λ t x h. h.0) fits has.2 in
    (number.0, number.1, (number.2, number.3))

-- and then the code that reads it fails in no way
pub number_returned : {E : Type 0} (r : Result ℕ E) (o : Option ℕ) (fault : E) (P : ℕ → Type 0) (Q : E → Type 0) → r ≡ ok_or o fault
    → (n : ℕ) × (o ≡ Some n) × P n → MatchResult r P Q
number_returned r o fault P Q is number = subst (λ x. MatchResult x P Q) (sym (is ∙ ap (λ x. ok_or x fault) number.1)) number.2

-- an argument that has a value is read as a text
pub text_given : (f : Found) (id : Text) (o : Option (Bor Text)) → option_map (λ s. s.now) o ≡ first_value f id → HasText id (rows_of f) → is_some o ≡ true
text_given f id (Some s) is has = refl
text_given f id None is has =
    let said : first_value f id ≡ Some has.0 = first_value-rows f id ∙ has.1 in
    absurd (cc)
