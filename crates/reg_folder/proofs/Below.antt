-- That the paths which are looked for stay below their folder.
use Rattle.std.proofs.Common.{◌≡◌, ◌∙◌, ◌&&◌, ◌++◌, ℕ, Bool, List, [], Option, None, Some, Result, Ok, Err, codes, cond, false, not, true, refl, subst, sym, true≢false, ◌==◌, length, nat_eq}
use Rattle.std.specs.Prelude.{All, option_map, if◌then◌else◌}
use Rattle.std.specs.List.{list_all, starts_with}
use Rattle.std.specs.Str.{is_utf8}
use Rattle.std.proofs.lemmas.Bool.{and_parts}
use Rattle.std.proofs.lemmas.List.Sums.{AllPass-from_list_all}
use Rattle.reg_core.specs.declared.wire_refusal.WireRefusal.{WireRefusal}
use Rattle.reg_core.specs.declared.wire_refusal.WireRefusal.TheVariants.{Route, Method, Body}
use Rattle.reg_folder.specs.Laws.{IsPlainName}
use Rattle.reg_folder.specs.Path.{aim_at, aim_behind, behind, indexed, is_name, is_name_byte, is_path, segments}

-- a name has a byte, and begins with no dot
inside : (s : List ℕ) → is_name s ≡ true → IsPlainName s
inside s named = (
  (λ e. true≢false (sym (subst (λ t. is_name t ≡ true) e named))),
  (λ rest e.
      let s = codes "." ++ rest in
      let dotted = subst (λ t. is_name t ≡ true) e named in
      let unmarked = (and_parts (not (length s == 0)) _ dotted).1 in
      true≢false (sym (and_parts (not (starts_with nat_eq s (codes "."))) (list_all is_name_byte s) unmarked).0)),
)

all_inside : (at : List ℕ) → is_path at ≡ true → All IsPlainName (segments at)
all_inside at is = λ k d less. inside _ (AllPass-from_list_all is_name (segments at) is k d less)

abbrev Read : Type 0
Read = Result (List ℕ) WireRefusal

-- what was found to be a path is one
of_path : (b : Bool) (path at : List ℕ) → (b ≡ true → is_path path ≡ true)
    → ◌≡◌ {A = Read} (if b then Ok path else Err Route) (Ok at) → is_path at ≡ true
of_path true path at holds e =
    let same : path ≡ at = cc in
    subst (λ p. is_path p ≡ true) same (holds refl)
of_path false path at holds e = absurd (cc)

-- a file is asked for by GET without a body
of_file : (get empty : Bool) (file : Read) (at : List ℕ)
    → (if not get then Err Method else (if not empty then Err Body else file)) ≡ Ok at → file ≡ Ok at
of_file true true file at e = e
of_file true false file at e = absurd (cc)
of_file false empty file at e = absurd (cc)

of_aim : (method body : List ℕ) (o : Option (List ℕ)) (at : List ℕ)
    → option_map (aim_behind method body) o ≡ Some (Ok at) → is_path at ≡ true
of_aim method body None at e = absurd (cc)
of_aim method body (Some rest) at e =
    let read : aim_behind method body rest ≡ Ok at = cc in
    of_path (is_utf8 rest && is_path (indexed rest)) (indexed rest) at (λ holds. (and_parts _ _ holds).1)
    (of_file _ _ _ at read)

pub stays_below : (method body path at : List ℕ) → aim_at method body path ≡ Some (Ok at)
    → All IsPlainName (segments at)
stays_below method body path at e = all_inside at (of_aim method body (behind path) at e)
