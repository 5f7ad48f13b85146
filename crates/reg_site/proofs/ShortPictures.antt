-- The picture of a registry has at most 400 parts: each begins behind the one before it.
use Rattle.std.proofs.Common.{◌≡◌, ℕ, ◌+◌, ◌*◌, ◌/◌, ◌<◌, ◌≤◌, ◌⊎◌, Bool, true, false, inl, inr, refl, List, [], ◌∷◌, length, map, min, arith}
use Rattle.std.proofs.Math.Nat.{div-lt_iff_lt-mul, mul-le-mul_left}
use Rattle.std.specs.List.{AllByRecursion}
use Rattle.std.proofs.lemmas.Bool.Decides.{nat_tests}
use Rattle.reg_core.specs.declared.entry.PageEntry.{PageEntry}
use Rattle.reg_site.specs.Bar.{PicturesAreShort, cell_count, cell_of, entry_part, entry_parts, joined, joins, merged}
use Rattle.reg_site.specs.declared.bar.PicturePart.{PicturePart}

-- a part that has a cell of these
record IsWithin (cells : ℕ) (p : PicturePart) : Type 0 where
  below : p.start < cells
  some : p.start < p.end

decide : (b : Bool) → (b ≡ true) ⊎ (b ≡ false)
decide true = inl refl
decide false = inr refl

-- a part that does not join the one before it begins behind it
apart : (last next : PicturePart) → joins last next ≡ false → last.end ≤ next.start
apart last next parted = grind (arith, nat_tests, parted)

below_count : (n count all : ℕ) → n < all → 0 < count → n * count / all < count
below_count n count all h some =
    let product : count * (n + 1) ≤ count * all = mul-le-mul_left count (omega arith) in
    (div-lt_iff_lt-mul {k = all} {x = n * count} {y = count} (omega arith)).1 (omega (arith, product))

length-merged : (cells : ℕ) (last : PicturePart) (parts : List PicturePart) → IsWithin cells last
    → AllByRecursion (IsWithin cells) parts → length (merged last parts) + last.start ≤ cells
length-merged cells last [] h hs = omega arith
length-merged cells last (next ∷ more) h hs = elim (decide (joins last next)) [
  | inl together ↦
      let rest : length (merged (joined last next) more) + last.start ≤ cells =
      length-merged cells (joined last next) more (record { below = h.below; some = omega arith }) hs.1 in
      rw together rest
  | inr parted ↦
      let rest : length (merged next more) + next.start ≤ cells =
      length-merged cells next more hs.0 hs.1 in
      let behind : last.end ≤ next.start = apart last next parted in
      rw parted (omega arith)
]

cell_of-below : (most value : ℕ) → cell_of most value < cell_count most
cell_of-below most value =
    let n = min (min value most) (most + 1) in
    below_count n (cell_count most) (most + 1) (omega arith) (omega arith)

within : (most : ℕ) (entries : List PageEntry)
    → AllByRecursion (IsWithin (cell_count most)) (map (entry_part most) entries)
within most [] = tt
within most (e ∷ es) =
    (record { below = cell_of-below most e.value; some = omega arith }, within most es)

pub pictures_are_short : PicturesAreShort
pictures_are_short most [] = omega arith
pictures_are_short most (e ∷ es) =
    let few : length (entry_parts most (e ∷ es)) + cell_of most e.value ≤ cell_count most =
    length-merged (cell_count most) (entry_part most e) (map (entry_part most) es)
    (record { below = cell_of-below most e.value; some = omega arith }) (within most es) in
    omega arith
