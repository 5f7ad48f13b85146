-- Requests with the minutes that renewals name.
use Rattle.std.proofs.Common.{◌≡◌, ℕ, true, cond, List, Option, Some, None, option_map, refl, sym, ap, ◌∙◌}
use Rattle.std.specs.FinMap.{FinMap, empty, get, get-empty, insert}
use Rattle.reg_maps.specs.Maps.{update}
use Rattle.reg_maps.proofs.MapLaws.{get-at_insert, get-inserted}
use Rattle.reg_maps.proofs.Mapped.{get-mapped, mapped-but, mapped-insert, mapped-same, mapped-update}
use Rattle.reg_core.specs.World.{RequestName, in_state, name_cmp}
use Rattle.reg_core.specs.declared.ask.Ask.{Ask}
use Rattle.reg_core.specs.declared.ask.Ask.TheVariants.{Code, Renew}
use Rattle.reg_core.specs.declared.request.Case.{Case}
use Rattle.reg_core.specs.declared.request.State.{State}
use Rattle.reg_core.specs.Minutes.{ask_with, is_bare, with_minute}
use Rattle.reg_core.proofs.KeyOrders.{name_keys}
use Rattle.reg_records.proofs.RequestLaws.Asks.{no_minute}
use Rattle.reg_statements.specs.Content.{AreBare, minuted}

-- an ask that was given a minute and then another has the other
ask_with-again : (minute other : Option (List ℕ)) (a : Ask)
    → ask_with minute a ≡ ask_with minute (ask_with other a)
ask_with-again minute other (Code a) = refl
ask_with-again minute other _ = refl

-- an ask without a minute is itself without one
ask_with-bare : (a : Ask) → is_bare a ≡ true → ask_with None a ≡ a
ask_with-bare (Renew a) e =
    ap (λ minute. Renew (record a { iesg = minute })) (sym (no_minute a.iesg e))
ask_with-bare _ e = refl

-- a request as it stands beside the minutes
abbrev by_minutes : FinMap name_cmp (List ℕ) → RequestName → Case → Case
by_minutes minutes name case = with_minute (get minutes name) case

module _ (minutes : FinMap name_cmp (List ℕ)) (m : FinMap name_cmp Case) (name : RequestName)
  where
    pub get-minuted : get (minuted minutes m) name
        ≡ option_map (with_minute (get minutes name)) (get m name)
    get-minuted = get-mapped name_keys (by_minutes minutes) m name

    pub minuted-insert : (case : Case)
        → minuted minutes (insert m name case)
        ≡ insert (minuted minutes m) name (with_minute (get minutes name) case)
    minuted-insert case = mapped-insert name_keys (by_minutes minutes) m name case

    -- with a minute more
    pub minuted-add : (text : List ℕ)
        → minuted (insert minutes name text) m
        ≡ update (minuted minutes m) name (with_minute (Some text))
    minuted-add text =
        mapped-but name_keys (by_minutes (insert minutes name text)) (by_minutes minutes) m name
        (with_minute (Some text))
        (λ q e case. ap (λ o. with_minute o case) (get-at_insert name_keys minutes name text q
        ∙ ap (λ b. cond b (Some text) (get minutes q)) e))
        (λ case. ap (λ o. with_minute o case) (get-inserted name_keys minutes name text)
        ∙ ap (λ ask. record case { ask = ask })
        (ask_with-again (Some text) (get minutes name) case.ask))

    -- in another state
    pub minuted-state : (state : State)
        → minuted minutes (update m name (in_state state))
        ≡ update (minuted minutes m) name (in_state state)
    minuted-state state =
        mapped-update name_keys (by_minutes minutes) m name (in_state state) (in_state state)
        (λ case. refl)

-- without minutes, the requests are those that their rows have
pub minuted-empty : (m : FinMap name_cmp Case) → AreBare m → minuted empty m ≡ m
minuted-empty m bare =
    mapped-same name_keys (by_minutes empty) m (λ name case is.
    ap (λ o. with_minute o case) (get-empty name_cmp name)
    ∙ ap (λ ask. record case { ask = ask }) (ask_with-bare case.ask (bare name case is)))
