-- What a capability is.
use Rattle.std.specs.Prelude.{ℕ, Bool, true, false, ◌&&◌, nat_le, ◌==◌, bytes_eq, codes, List, [], ◌∷◌, Option, Some, None, if◌then◌else◌}
use Rattle.reg_ranges.specs.Words.{read_among}
use Rattle.reg_core.specs.Names.{is_name}
use Rattle.reg_core.specs.declared.capability.Kind.{Kind}
use Rattle.reg_core.specs.declared.capability.Kind.TheVariants.{Applicant, Expert, Clerk}
use Rattle.reg_core.specs.declared.capability.Cap.{Cap}

-- ---- The words of kinds

-- the same of kinds of capabilities
abbrev pub kinds : List Kind
kinds = Applicant ∷ Expert ∷ Clerk ∷ []

abbrev pub kind_word : Kind → List ℕ
kind_word Applicant = codes "applicant"
kind_word Expert = codes "expert"
kind_word Clerk = codes "clerk"

abbrev pub read_kind : List ℕ → Option Kind
read_kind s = read_among kinds kind_word s

-- ---- Capabilities

-- the first moment of the year 3000
abbrev pub last_until : ℕ
last_until = 32503680000

-- the end that a number is, where a capability may have it
abbrev pub read_until : ℕ → Option ℕ
read_until n = (if nat_le n last_until then Some n else None)

-- its account is one, and its end one that a capability may have
abbrev pub has_cap_form : Cap → Bool
has_cap_form cap = is_name cap.account && nat_le cap.until last_until

-- two kinds are the same, or two capabilities
abbrev pub same_kind : Kind → Kind → Bool
same_kind Applicant Applicant = true
same_kind Expert Expert = true
same_kind Clerk Clerk = true
same_kind a b = false

abbrev pub same_cap : Cap → Cap → Bool
same_cap a b = bytes_eq a.account b.account && same_kind a.kind b.kind && a.until == b.until
