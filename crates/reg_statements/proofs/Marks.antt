-- Entries with their marks.
use Rattle.std.proofs.Common.{◌≡◌, true, false, cond, is_some, Some, None, option_map, sym, ap, ◌∙◌}
use Rattle.std.specs.FinMap.{FinMap, contains_key, empty, get, get-empty, get-remove, insert, remove}
use Rattle.reg_maps.specs.Maps.{update}
use Rattle.reg_maps.proofs.MapLaws.{get-at_insert, get-inserted, get-removed}
use Rattle.reg_maps.proofs.Mapped.{get-mapped, mapped-but, mapped-insert, mapped-same}
use Rattle.reg_core.specs.Entry.{with_hold}
use Rattle.reg_core.specs.World.{Place, place_cmp}
use Rattle.reg_core.specs.declared.entry.Registration.{Registration}
use Rattle.reg_core.proofs.KeyOrders.{place_keys}
use Rattle.reg_statements.specs.Content.{AreUnheld, marked}

-- an entry as it stands beside the marks
abbrev by_marks : FinMap place_cmp (Unit {0}) → Place → Registration → Registration
by_marks holds place a = with_hold (contains_key holds place) a

module _ (holds : FinMap place_cmp (Unit {0})) (m : FinMap place_cmp Registration) (place : Place)
  where
    pub get-marked : get (marked holds m) place
        ≡ option_map (with_hold (contains_key holds place)) (get m place)
    get-marked = get-mapped place_keys (by_marks holds) m place

    pub marked-insert : (a : Registration)
        → marked holds (insert m place a)
        ≡ insert (marked holds m) place (with_hold (contains_key holds place) a)
    marked-insert a = mapped-insert place_keys (by_marks holds) m place a

    -- with a mark more
    pub marked-add : marked (insert holds place tt) m ≡ update (marked holds m) place (with_hold true)
    marked-add =
        mapped-but place_keys (by_marks (insert holds place tt)) (by_marks holds) m place
        (with_hold true)
        (λ q e a. ap (λ o. with_hold (is_some o) a) (get-at_insert place_keys holds place tt q
        ∙ ap (λ b. cond b (Some tt) (get holds q)) e))
        (λ a. ap (λ o. with_hold (is_some o) a) (get-inserted place_keys holds place tt))

    -- and with one less
    pub marked-take : marked (remove holds place) m ≡ update (marked holds m) place (with_hold false)
    marked-take =
        mapped-but place_keys (by_marks (remove holds place)) (by_marks holds) m place
        (with_hold false)
        (λ q e a. ap (λ o. with_hold (is_some o) a) (get-remove place_keys.total holds place q
        ∙ ap (λ b. cond b None (get holds q)) e))
        (λ a. ap (λ o. with_hold (is_some o) a) (get-removed place_keys holds place))

-- without marks, the entries are those that their rows have
pub marked-empty : (m : FinMap place_cmp Registration) → AreUnheld m → marked empty m ≡ m
marked-empty m unheld =
    mapped-same place_keys (by_marks empty) m (λ place a is.
    ap (λ o. with_hold (is_some o) a) (get-empty place_cmp place)
    ∙ ap (λ held. record a { term = record a.term { held = held } }) (sym (unheld place a is)))
