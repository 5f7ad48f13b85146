-- Capabilities with the digests of the tokens that have them.
use Rattle.std.specs.Prelude.{ℕ, Bool, nat_eq, List, map, filter}
use Rattle.std.specs.FinMap.{FinMap, entries, from_entries}
use Rattle.std.specs.List.{starts_with}
use Rattle.std.specs.declared.cmp.Ordering.{Ordering}
use Rattle.reg_maps.specs.Maps.{text_cmp, pair_cmp, same_text}
use Rattle.reg_core.specs.declared.capability.Cap.{Cap}
use Rattle.reg_core.specs.declared.capability.CapRow.{CapRow}

abbrev pub cap_row : List ℕ → Cap → CapRow
cap_row digest cap = record { digest = digest; cap = cap }

-- ---- All of them

-- by digest
abbrev pub cap_rows : FinMap text_cmp Cap → List CapRow
cap_rows caps = map (λ e. cap_row e.0 e.1) (entries caps)

-- an account, and the digest of one of its tokens
abbrev pub CapPlace : Type 0
CapPlace = List ℕ × List ℕ

abbrev pub cap_place_cmp : CapPlace → CapPlace → Ordering
cap_place_cmp = pair_cmp text_cmp text_cmp

abbrev pub cap_place : CapRow → CapPlace
cap_place row = (row.cap.account, row.digest)

-- the same capabilities by account and digest
unfoldable pub by_account : FinMap text_cmp Cap → FinMap cap_place_cmp Cap
by_account caps = from_entries (map (λ row. (cap_place row, row.cap)) (cap_rows caps))

-- by account and then by digest
abbrev pub cap_list : FinMap text_cmp Cap → List CapRow
cap_list caps = map (λ e. cap_row e.0.1 e.1) (entries (by_account caps))

-- ---- Those that a clerk takes away

-- the digest begins with the digits
abbrev pub begins_with : List ℕ → CapRow → Bool
begins_with digits row = starts_with nat_eq row.digest digits

-- the account has it
abbrev pub is_of : List ℕ → CapRow → Bool
is_of account row = same_text row.cap.account account

-- those that pass a test, by digest
abbrev pub caps_that : (CapRow → Bool) → FinMap text_cmp Cap → List CapRow
caps_that chosen caps = filter chosen (cap_rows caps)
