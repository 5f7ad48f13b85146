-- Capabilities as rows of the table `caps`.
use Rattle.std.specs.Prelude.{ℕ, Bool, nat_le, [], ◌∷◌, Option, Some}
use Rattle.sqlite.specs.Order.{Row, column}
use Rattle.sqlite.specs.declared.types.Value.TheVariants.{Text}
use Rattle.reg_core.specs.Capability.{kind_word, last_until, read_kind}
use Rattle.reg_core.specs.Names.{is_name, is_digest}
use Rattle.reg_core.specs.WellKept.{has_grant_form}
use Rattle.reg_records.specs.Columns.{formed_in, given, number_in, read_in, whole_value}
use Rattle.reg_records.specs.declared.caps.Grant.{Grant}

-- a moment at which a capability can end
abbrev pub is_until : ℕ → Bool
is_until n = nat_le n last_until

-- the columns that are selected: digest, account, kind, until
abbrev pub grant_columns : Row → Row
grant_columns row = column row 0 ∷ column row 1 ∷ column row 2 ∷ column row 3 ∷ []

-- the capability that a row holds, where each column has its form
abbrev pub grant_in : Row → Option Grant
grant_in row =
    given (formed_in is_digest (column row 0)) (λ digest.
    given (formed_in is_name (column row 1)) (λ account.
    given (read_in read_kind (column row 2)) (λ kind.
    given (number_in is_until (column row 3)) (λ until.
    Some (record {
      digest = digest;
      cap = record { account = account; kind = kind; until = until };
    })))))

-- the row that is written for it
abbrev pub grant_values : Grant → Row
grant_values grant =
    Text grant.digest ∷ Text grant.cap.account ∷ Text (kind_word grant.cap.kind)
    ∷ whole_value grant.cap.until ∷ []

-- its digest and its capability have their forms
abbrev pub is_grant : Grant → Bool
is_grant grant = has_grant_form grant.digest grant.cap
