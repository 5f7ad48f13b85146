-- Bytes that are compared and copied, a piece at a time.
use Rattle.std.proofs.Common.{◌≡◌, Bool, ℕ, ◌+◌, ◌<◌, List, [], ◌++◌, length, take, Option, Some, None, IfSome, true, false, refl, sym, ap, ◌∙◌, append_assoc, append-nil, arith, length-append, subst}
use Rattle.std.proofs.Math.Seq.{take-append_seam}
use Rattle.std.specs.Io.KnownBytes.{Consumes, IsAtEnd}
use Rattle.std.proofs.KnownBytes.{Consumes-nil, Consumes-trans}
use Rattle.reg_pages.specs.Portions.{GivesIfMore}
use Rattle.reg_source.specs.Copied.{IsCompared, IsCopied}

-- ---- Compared so far

-- so many bytes are those that were to be given, and those that the reader gave
pub record IsSameSoFar (read read' : Option (List ℕ)) (rest rest' : List ℕ) (same : ℕ) : Type 0 where
  pub front : List ℕ
  pub taken : Consumes read read' front
  pub split : rest ≡ front ++ rest'
  pub counted : length front ≡ same

pub same_none : (read : Option (List ℕ)) (rest : List ℕ) → IsSameSoFar read read rest rest 0
same_none read rest =
    record { front = []; taken = Consumes-nil read; split = refl; counted = refl }

pub same_more : (read read' read'' : Option (List ℕ)) (rest rest' rest'' piece : List ℕ)
    (same more : ℕ) → IsSameSoFar read read' rest rest' same → Consumes read' read'' piece
    → rest' ≡ piece ++ rest'' → more ≡ same + length piece
    → IsSameSoFar read read'' rest rest'' more
same_more read read' read'' rest rest' rest'' piece same more so next e is = record {
  front = so.front ++ piece;
  taken = Consumes-trans read read' read'' so.front piece so.taken next;
  split = so.split ∙ ap (λ l. so.front ++ l) e ∙ sym (append_assoc so.front piece rest'');
  counted = length-append so.front piece ∙ ap (λ n. n + length piece) so.counted ∙ sym is;
}

-- the first bytes that a reader gave
front_of : (read read' : Option (List ℕ)) (front others rest : List ℕ) (same : ℕ)
    → Consumes read read' front → length front ≡ same → rest ≡ front ++ others
    → IfSome read (λ there. take same there ++ others ≡ rest)
front_of None read' front others rest same taken counted split = tt
front_of (Some there) None front others rest same taken counted split = absurd taken
front_of (Some there) (Some left) front others rest same taken counted split =
    ap (λ l. l ++ others)
    (ap (λ n. take n there) (sym counted) ∙ ap (take (length front)) taken
    ∙ take-append_seam front left)
    ∙ sym split

-- where others come, or none, so many are the same
pub compared_some : (read read' : Option (List ℕ)) (rest rest' gathered left : List ℕ) (same : ℕ)
    → IsSameSoFar read read' rest rest' same → gathered ++ left ≡ rest'
    → IsCompared (Some same) read gathered rest left
compared_some read read' rest rest' gathered left same so e =
    front_of read read' so.front (gathered ++ left) rest same so.taken so.counted
    (so.split ∙ ap (λ l. so.front ++ l) (sym e))

at_end : (read read' : Option (List ℕ)) (front rest : List ℕ) → Consumes read read' front
    → IsAtEnd read' → rest ≡ front ++ [] → IfSome read (λ there. there ≡ rest)
at_end None read' front rest taken end split = tt
at_end (Some there) None front rest taken end split = absurd taken
at_end (Some there) (Some left) front rest taken end split =
    taken ∙ ap (λ l. front ++ l) end ∙ sym split

-- where the reader has no more, all are the same
pub compared_none : (read read' : Option (List ℕ)) (rest rest' gathered left : List ℕ) (same : ℕ)
    → IsSameSoFar read read' rest rest' same → rest' ≡ [] → IsAtEnd read'
    → IsCompared None read gathered rest left
compared_none read read' rest rest' gathered left same so none end =
    at_end read read' so.front rest so.taken end (so.split ∙ ap (λ l. so.front ++ l) none)

-- ---- Given next

pub record IsGoing (read read' : Option (List ℕ)) (bytes rest : List ℕ) : Type 0 where
  pub front : List ℕ
  pub taken : Consumes read read' front
  pub split : bytes ≡ front ++ rest

pub going_none : (read : Option (List ℕ)) (bytes : List ℕ) → IsGoing read read bytes bytes
going_none read bytes = record { front = []; taken = Consumes-nil read; split = refl }

pub going_more : (read read' read'' : Option (List ℕ)) (bytes rest rest' piece : List ℕ)
    → IsGoing read read' bytes rest → Consumes read' read'' piece → rest ≡ piece ++ rest'
    → IsGoing read read'' bytes rest'
going_more read read' read'' bytes rest rest' piece so next e = record {
  front = so.front ++ piece;
  taken = Consumes-trans read read' read'' so.front piece so.taken next;
  split = so.split ∙ ap (λ l. so.front ++ l) e ∙ sym (append_assoc so.front piece rest');
}

pub going_all : (read read' : Option (List ℕ)) (bytes rest : List ℕ)
    → IsGoing read read' bytes rest → rest ≡ [] → Consumes read read' bytes
going_all read read' bytes rest so none =
    subst (Consumes read read')
    (sym (so.split ∙ ap (λ l. so.front ++ l) none ∙ append-nil so.front))
    so.taken

-- ---- Gathered

-- the next bytes, all of them
pub gathers_all : (items rest rest' : List ℕ) → items ++ rest' ≡ rest → rest' ≡ []
    → 0 < length items → GivesIfMore true [] items rest rest'
gathers_all items rest rest' whole none some = record {
  whole = whole;
  less =
      let a : length items + length rest' ≡ length rest =
      sym (length-append items rest') ∙ ap length whole in
      omega arith;
}

pub gathers_none : (items rest rest' : List ℕ) → items ++ rest' ≡ rest → rest' ≡ []
    → items ≡ [] → GivesIfMore false [] items rest rest'
gathers_none items rest rest' whole none empty = record {
  none = sym whole ∙ ap (λ l. l ++ rest') empty ∙ none;
  still = none;
  same = empty;
}

-- what was gathered comes first of what was to be given
pub gathered_rest : (more : Bool) (items rest rest' : List ℕ) → more ≡ true
    → GivesIfMore more [] items rest rest' → rest ≡ items ++ rest'
gathered_rest true items rest rest' is gives = sym gives.whole
gathered_rest false items rest rest' is gives = absurd (let no : ⊥ = cc in no)

-- ---- Copied so far

pub record IsCopying (read read' : Option (List ℕ)) (written written' : List ℕ) (count left : ℕ)
    : Type 0 where
  pub bytes : List ℕ
  pub taken : Consumes read read' bytes
  pub counted : length bytes + left ≡ count
  pub added : written' ≡ written ++ bytes

pub copying_none : (read : Option (List ℕ)) (written : List ℕ) (count : ℕ)
    → IsCopying read read written written count count
copying_none read written count = record {
  bytes = [];
  taken = Consumes-nil read;
  counted = omega arith;
  added = sym (append-nil written);
}

pub copying_more : (read read' read'' : Option (List ℕ)) (written written' written'' piece : List ℕ)
    (count left less : ℕ) → IsCopying read read' written written' count left
    → Consumes read' read'' piece → written'' ≡ written' ++ piece → less + length piece ≡ left
    → IsCopying read read'' written written'' count less
copying_more read read' read'' written written' written'' piece count left less so next e is =
    record {
      bytes = so.bytes ++ piece;
      taken = Consumes-trans read read' read'' so.bytes piece so.taken next;
      counted = let a = length-append so.bytes piece in omega (arith, so.counted);
      added = e ∙ ap (λ l. l ++ piece) so.added ∙ append_assoc written so.bytes piece;
    }

pub copying_all : (read read' : Option (List ℕ)) (written written' : List ℕ) (count left : ℕ)
    → IsCopying read read' written written' count left → left ≡ 0
    → IsCopied read read' written written' count
copying_all read read' written written' count left so none = record {
  bytes = so.bytes;
  taken = so.taken;
  counted = omega (arith, so.counted);
  added = so.added;
}

-- all that a new file has are the first bytes of the file that is there
taken_front : (held : List ℕ) (read' : Option (List ℕ)) (bytes : List ℕ) (count : ℕ)
    → Consumes (Some held) read' bytes → length bytes ≡ count → bytes ≡ take count held
taken_front held None bytes count taken counted = absurd taken
taken_front held (Some left) bytes count taken counted =
    sym (take-append_seam bytes left) ∙ ap (take (length bytes)) (sym taken)
    ∙ ap (λ n. take n held) counted

pub copied_front : (held : List ℕ) (read read' : Option (List ℕ)) (written written' : List ℕ)
    (count : ℕ) → read ≡ Some held → written ≡ [] → IsCopied read read' written written' count
    → written' ≡ take count held
copied_front held read read' written written' count is none copied =
    copied.added ∙ ap (λ l. l ++ copied.bytes) none
    ∙ taken_front held read' copied.bytes count
    (subst (λ (r : Option (List ℕ)). Consumes r read' copied.bytes) is copied.taken)
    copied.counted

-- ---- Written so far

-- what was written and what is to come are all bytes
pub writing_more : (all written written' rest rest' piece : List ℕ) → written ++ rest ≡ all
    → written' ≡ written ++ piece → piece ++ rest' ≡ rest → written' ++ rest' ≡ all
writing_more all written written' rest rest' piece whole e is =
    ap (λ l. l ++ rest') e ∙ append_assoc written piece rest' ∙ ap (λ l. written ++ l) is ∙ whole
