-- The vacancies of rows that change.
use Rattle.std.proofs.Common.{◌≡◌, refl, sym, subst, ◌∙◌, List}
use Rattle.std.specs.FinMap.{contains_key, insert}
use Rattle.reg_maps.specs.Maps.{update}
use Rattle.reg_maps.proofs.KeySets.{contains-changed, contains-replaced}
use Rattle.reg_maps.proofs.KeyLists.{keys-same}
use Rattle.reg_blocks.specs.Block.{SizedPrefix}
use Rattle.reg_vacancies.specs.PoolPlaces.{FollowsGiven}
use Rattle.reg_vacancies.specs.Laws.{EntriesAreReplaced, HoldersAreChanged, KeysDecide}
use Rattle.reg_vacancies.specs.Places.{AreLeftBy, AreUnchanged, Blocks, places_in}
use Rattle.reg_vacancies.specs.Vacancies.{AreSame, free_in, taken_in}
use Rattle.reg_vacancies.specs.declared.places.FreePlaces.{FreePlaces}
use Rattle.reg_vacancies.specs.declared.vacancies.Vacancies.{Vacancies}
use Rattle.reg_core.proofs.KeyOrders.{block_keys, place_keys}

-- ---- The places are as they were

pub same-from_unchanged : (old : Vacancies) (places : FreePlaces)
    → AreUnchanged old.places places → AreSame old (record old { places = places })
unfolding free_in taken_in
same-from_unchanged old places same entries pool blocks = (
  (λ are. record {
    taken = are.taken;
    pooled = sym same.pool ∙ are.pooled;
    left = (same.left blocks).0 are.left;
  }),
  (λ are. record {
    taken = are.taken;
    pooled = same.pool ∙ are.pooled;
    left = (same.left blocks).1 are.left;
  }),
)

-- ---- The laws

-- the places that blocks leave are those that others of the same keys leave
pub left-same : (places : FreePlaces) (blocks rest : Blocks)
    → ((block : SizedPrefix) → contains_key rest block ≡ contains_key blocks block)
    → AreLeftBy places blocks → AreLeftBy places rest
left-same places blocks rest same left =
    subst (λ (given : List SizedPrefix). ∥ FollowsGiven (places_in places) given ∥₁)
    (sym (keys-same block_keys rest blocks same)) left

pub keys_decide : KeysDecide
keys_decide vacancies entries others pool blocks rest same_places same_blocks are = record {
  taken = λ registry value. are.taken registry value ∙ sym (same_places (registry, value));
  pooled = are.pooled;
  left = left-same (free_in vacancies) blocks rest same_blocks are.left;
}

pub entries_are_replaced : EntriesAreReplaced
entries_are_replaced vacancies entries pool blocks are place there row =
    keys_decide vacancies entries (insert entries place row) pool blocks blocks
    (contains-replaced place_keys entries place row there) (λ block. refl) are

pub holders_are_changed : HoldersAreChanged
holders_are_changed vacancies entries pool blocks are block change =
    keys_decide vacancies entries entries pool blocks (update blocks block change)
    (λ place. refl) (contains-changed block_keys blocks block change) are
