-- The jobs about the capabilities of an office that is served: what is asked, and what is printed.
use Rattle.std.specs.Prelude.{◌≡◌, ◌<◌, ◌⊎◌, ◌++◌, ⊤, ℕ, Bool, false, List, [], Option, codes, length}
use Rattle.std.specs.String.{string_bytes}
use Rattle.reg_core.specs.Names.{is_digits, is_name}
use Rattle.reg_core.specs.declared.capability.CapRow.{CapRow}
use Rattle.reg_core.specs.declared.refusal.Refusal.TheVariants.{Several}
use Rattle.reg_core.specs.declared.told.Told.TheVariants as tells
use Rattle.reg_jobs.specs.declared.jobs.Which.{Which}
use Rattle.reg_jobs.specs.declared.jobs.Which.TheVariants.{Digest, Account}
use Rattle.reg_print.specs.declared.answer.Format.TheVariants.{Json}
use Rattle.reg_client.specs.Answers.{answer_text}
use Rattle.reg_site.specs.Site.{told_text}
use Rattle.reg_program.specs.Printing.{Prints}
use Rattle.reg_program.specs.Requests.{IsBodilessBy}
use Rattle.reg_program.specs.Revoking.{no_token}
use Rattle.reg_program.specs.Served.{IsRefusal}
use Rattle.reg_program.specs.Tokens.{IsTokenTable}
use Rattle.reg_program.specs.Undone.{refusal_line}
use Rattle.reg_program.specs.declared.faults.JobFailure.TheVariants.{Memory}
use Rattle.reg_program.specs.declared.faults.Undone.{Undone}
use Rattle.reg_program.specs.declared.faults.Undone.TheVariants.{Fault, Explained, Refused}
use Rattle.reg_program.specs.declared.requests.JobRequest.{JobRequest}

-- ---- What is asked

-- where these capabilities are taken away
abbrev pub revocation_at : Which → List ℕ
revocation_at (Digest digits) = codes "/desk/tokens/" ++ string_bytes digits
revocation_at (Account name) = codes "/desk/accounts/" ++ string_bytes name

-- by such a request they are asked for, with the token that a word says
abbrev pub AsksTokens : Option (List ℕ) → JobRequest → Type 0
AsksTokens word request = IsBodilessBy word (codes "GET") (codes "/desk/tokens") request

-- and by such a one taken away
abbrev pub AsksRevocation : Option (List ℕ) → Which → JobRequest → Type 0
AsksRevocation word which request =
    IsBodilessBy word (codes "DELETE") (revocation_at which) request

-- they are said by digits of a digest, or by an account
abbrev pub is_formed : Which → Bool
is_formed (Digest digits) = is_digits (string_bytes digits)
is_formed (Account name) = is_name (string_bytes name)

-- they are not, and a line says that there is no such token; or there was no memory
abbrev pub IsIllFormed : Which → Undone → Type 0
IsIllFormed which (Refused line) = (is_formed which ≡ false) × (line.items ≡ no_token)
IsIllFormed which (Fault failure) = failure ≡ Memory
IsIllFormed which (Explained failure why) = ⊥

-- ---- What is answered

-- the bytes are the answer of an office that lists these capabilities, as far as it shows them
abbrev pub ListsCapabilities : List ℕ → List CapRow → Type 0
ListsCapabilities bytes rows = bytes ≡ answer_text 200 Json (told_text (tells.Capabilities rows))

-- they are, and these capabilities are printed as those of an office in a file
pub record PrintsListedOf (bytes : List ℕ) (had has : Option (List ℕ)) : Type 0 where
  pub rows : List CapRow
  pub listed : ListsCapabilities bytes rows
  pub prints : Prints had has (IsTokenTable rows)

-- the same of one capability at least
pub record PrintsRevokedOf (bytes : List ℕ) (had has : Option (List ℕ)) : Type 0 where
  pub rows : List CapRow
  pub listed : ListsCapabilities bytes rows
  pub some : 0 < length rows
  pub prints : Prints had has (IsTokenTable rows)

-- what such an answer lists is printed that is given so
abbrev pub PrintsListed : (List ℕ → Type 0) → Option (List ℕ) → Option (List ℕ) → Type 0
PrintsListed IsGiven had has = (bytes : List ℕ) × IsGiven bytes × PrintsListedOf bytes had has

abbrev pub PrintsRevoked : (List ℕ → Type 0) → Option (List ℕ) → Option (List ℕ) → Type 0
PrintsRevoked IsGiven had has = (bytes : List ℕ) × IsGiven bytes × PrintsRevokedOf bytes had has

-- a line of an office is said by this one of an office in a file: that several are chosen by the one that
-- there is no such token, and any other by itself
abbrev pub IsLineOfFile : List ℕ → List ℕ → Type 0
IsLineOfFile said line =
    ((said ≡ refusal_line Several → ⊥) × (line ≡ said))
    ⊎ ((said ≡ refusal_line Several) × (line ≡ no_token))

-- such a line says why; or there was no memory
abbrev pub IsSaidOfFile : List ℕ → Undone → Type 0
IsSaidOfFile said (Refused line) = IsLineOfFile said line.items
IsSaidOfFile said (Fault failure) = failure ≡ Memory
IsSaidOfFile said (Explained failure why) = ⊥

-- Why none are printed: a line says what an office answers with which it accepts nothing, as it is said of
-- one in a file, or that there is no such token where it lists none; or there was a fault.
abbrev pub IsUnrevokedOf : List ℕ → Undone → Type 0
IsUnrevokedOf bytes (Refused line) =
    ((said : List ℕ) × IsRefusal bytes said × IsLineOfFile said line.items)
    ⊎ (ListsCapabilities bytes [] × (line.items ≡ no_token))
IsUnrevokedOf bytes (Fault failure) = ⊤
IsUnrevokedOf bytes (Explained failure why) = ⊥
