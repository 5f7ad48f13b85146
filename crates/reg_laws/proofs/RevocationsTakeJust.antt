-- A clerk who takes capabilities away without their tokens takes just those that were chosen.
use Rattle.std.proofs.Common.{◌≡◌, ◌≤◌, ℕ, Bool, false, List, length, refl, sym, ap, subst, ◌∙◌, arith}
use Rattle.std.specs.Prelude.{Option, Ok, Err}
use Rattle.reg_core.proofs.Common.{false_from_ne_true, both_ways, Answer, Outcome, reply_of, change_of}
use Rattle.reg_core.proofs.Common.{begins_with, is_of, cap_row, caps_that, answer_to, cap_at, World}
use Rattle.reg_core.proofs.Common.{carried}
use Rattle.reg_core.proofs.Journals.{carried_is}
use Rattle.reg_laws.proofs.Types.{CapRow, ClerkCommand, Accepted}
use Rattle.reg_core.specs.Laws.{TakesJust, RevocationsTakeJust}
use Rattle.reg_core.specs.declared.command.ClerkCommand.TheVariants.{RevokeDigits, RevokeAccount}
use Rattle.reg_core.specs.declared.command.Command.TheVariants.{Clerk}
use Rattle.reg_core.specs.declared.told.Told.TheVariants.{Capabilities}
use Rattle.reg_core.proofs.Outcomes.Accepted.{ClerkServes, CommandSo, accepted}
use Rattle.reg_laws.proofs.Capabilities.{is_in_use, takes_just}
use Rattle.reg_laws.proofs.Outcomes.AnswersAreDone.{gone, Took, decided, took_one, took_all}

module _ (digest_of : List ℕ → List ℕ) (w : World) (caller : Option (List ℕ)) (moment : ℕ) where
  -- the world after took just the chosen ones, and has all else, and the token in use, as before
  abbrev IsJust : (CapRow → Bool) → List CapRow → World → Type 0
  IsJust chosen rows v =
      TakesJust w.caps v.caps chosen rows
      × (v ≡ record w { caps = v.caps; journal = v.journal })
      × (cap_at v caller ≡ cap_at w caller)

  -- where the chosen ones went
  module _ (chosen : CapRow → Bool) (by : ClerkServes w caller moment) (o : Outcome)
      (took : Took w by.digest (caps_that chosen w.caps) o) where
    -- the token in use was not among them
    in_use_fails : chosen (cap_row by.digest by.serves.cap) ≡ false
    in_use_fails = false_from_ne_true _ (λ t.
        both_ways _ took.others (is_in_use chosen w.caps by.digest by.serves.cap
        (ap (cap_at w) (sym by.is) ∙ by.serves.is_there) t))

    is_just : IsJust chosen (caps_that chosen w.caps) (carried w caller moment o.change)
    is_just =
        let journal = (carried w caller moment o.change).journal in
        let v = record (gone w (caps_that chosen w.caps)) { journal = journal } in
        let is : carried w caller moment o.change ≡ v =
        carried_is w caller moment o.change
        ∙ ap (λ (u : World). record u { journal = journal }) took.after in
        let takes = takes_just chosen w.caps in
        let has = ap (cap_at w) (sym by.is) ∙ by.serves.is_there in
        let left = takes.others by.digest by.serves.cap has in_use_fails in
        subst (IsJust chosen (caps_that chosen w.caps)) (sym is)
        (takes, refl, ap (cap_at v) by.is ∙ left ∙ sym by.serves.is_there)

    -- and these are what the caller is told of
    is_told : (rows : List CapRow) → Accepted o.told ≡ Accepted (Capabilities rows)
        → caps_that chosen w.caps ≡ rows
    is_told rows told = cc

  -- the answer takes just these away, where it tells of them
  abbrev TakesThem : (CapRow → Bool) → List CapRow → Answer → Type 0
  TakesThem chosen rows a =
      reply_of a ≡ Accepted (Capabilities rows)
      → IsJust chosen rows (carried w caller moment (change_of a))

  -- each outcome of the command takes those that were chosen
  abbrev AllTake : ClerkCommand → (CapRow → Bool) → Type 0
  AllTake command chosen =
      (o : Outcome) → CommandSo digest_of w caller moment (Clerk command) o
      → (by : ClerkServes w caller moment) × Took w by.digest (caps_that chosen w.caps) o

  just : (command : ClerkCommand) (chosen : CapRow → Bool) (rows : List CapRow)
      → AllTake command chosen
      → TakesThem chosen rows (answer_to digest_of w caller moment (Clerk command))
  just command chosen rows takes = by (answer_to digest_of w caller moment (Clerk command)) refl
    where
      by : (a : Answer) → answer_to digest_of w caller moment (Clerk command) ≡ a
          → TakesThem chosen rows a
      by (Ok o) is told =
          let so = takes o (accepted digest_of w caller moment (Clerk command) o is).so in
          subst (λ rows. IsJust chosen rows (carried w caller moment o.change))
          (is_told chosen so.0 o so.1 rows told) (is_just chosen so.0 o so.1)
      by (Err refusal) is told = absurd (cc)

  digits_take : (digits : List ℕ) → AllTake (RevokeDigits digits) (begins_with digits)
  digits_take digits o so =
      (so.0, took_one w so.0.digest (caps_that (begins_with digits) w.caps) o so.1)

  account_take : (account : List ℕ) → AllTake (RevokeAccount account) (is_of account)
  account_take account o so =
      (so.0, took_all w so.0.digest (caps_that (is_of account) w.caps) o so.1)

  -- no more than one goes
  at_most_one : (digits : List ℕ) (rows : List CapRow) (a : Answer)
      → answer_to digest_of w caller moment (Clerk (RevokeDigits digits)) ≡ a
      → reply_of a ≡ Accepted (Capabilities rows) → length rows ≤ 1
  at_most_one digits rows (Ok o) is told =
      let chosen = begins_with digits in
      let so = (accepted digest_of w caller moment (Clerk (RevokeDigits digits)) o is).so in
      let took = took_one w so.0.digest (caps_that chosen w.caps) o so.1 in
      subst (λ rows. length rows ≤ 1) (is_told chosen so.0 o took rows told)
      (decided (λ o. length (caps_that chosen w.caps) ≤ 1) so.1
      (λ there. let none = there.1 in omega (arith, ap length none))
      (λ facts. let sole = facts.2 in omega (arith, ap length sole)))
  at_most_one digits rows (Err refusal) is told = absurd (cc)

pub revocations_take_just : (digest_of : List ℕ → List ℕ) → RevocationsTakeJust digest_of
revocations_take_just digest_of = record {
  by_digits = λ w caller moment digits rows.
      just digest_of w caller moment (RevokeDigits digits) (begins_with digits) rows
      (digits_take digest_of w caller moment digits);
  one = λ w caller moment digits rows.
      at_most_one digest_of w caller moment digits rows
      (answer_to digest_of w caller moment (Clerk (RevokeDigits digits))) refl;
  by_account = λ w caller moment account rows.
      just digest_of w caller moment (RevokeAccount account) (is_of account) rows
      (account_take digest_of w caller moment account);
}
