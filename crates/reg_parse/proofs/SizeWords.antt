-- Which size a word names, by what each size's word is.
use Rattle.std.proofs.Common.{◌≡◌, ℕ, List, Bool, true, false, Option, Some, None, refl, sym}
use Rattle.std.specs.Prelude.{◌↔◌}
use Rattle.std.specs.Str.{bytes_eq}
use Rattle.std.proofs.lemmas.Slice.Eq.{bytes_eq-Decides}
use Rattle.reg_blocks.specs.Size.{word_of}
use Rattle.reg_blocks.specs.declared.size.Size.{Size}
use Rattle.reg_blocks.specs.declared.size.Size.TheVariants.{MaL, MaM, MaS}
use Rattle.reg_parse.specs.Bodies.Ask.{size_named}

named-word : (size : Size) → size_named (word_of size) ≡ Some size
named-word MaL = refl
named-word MaM = refl
named-word MaS = refl

other_word : (word : List ℕ) (size : Size) → (word ≡ word_of size → ⊥) → (b : Bool)
    → bytes_eq word (word_of size) ≡ b → b ≡ false
other_word word size h true e = absurd (h ((bytes_eq-Decides word (word_of size)).0 e))
other_word word size h false e = refl

nothing-named : (word : List ℕ) → ((size : Size) → word ≡ word_of size → ⊥)
    → size_named word ≡ None
nothing-named word h =
    rw (
      other_word word MaL (h MaL) _ refl,
      other_word word MaM (h MaM) _ refl,
      other_word word MaS (h MaS) _ refl,
    ) refl

-- a reading of each size's word, and of no other
pub size_named-is : (word : List ℕ) (o : Option Size)
    → ((size : Size) → (o ≡ Some size) ↔ (word ≡ word_of size)) → o ≡ size_named word
size_named-is word (Some size) h = rw ((h size).0 refl) (sym (named-word size))
size_named-is word None h =
    sym (nothing-named word (λ size e. let some : None ≡ Some size = (h size).1 e in cc))
