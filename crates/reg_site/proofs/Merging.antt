-- Parts of the picture of a registry, merged as they are appended.
use Rattle.std.proofs.Common.{◌≡◌, ℕ, ◌+◌, ◌<◌, ◌≤◌, true, false, List, ◌∷◌, ◌++◌, length, get_or, drop, map, if◌then◌else◌, sym, ap, ◌∙◌}
use Rattle.std.proofs.lemmas.List.{drop_all}
use Rattle.reg_core.specs.declared.entry.PageEntry.{PageEntry}
use Rattle.reg_pages.specs.Appended.{Shown}
use Rattle.reg_pages.specs.Markup.{all_of, markup_then}
use Rattle.reg_pages.proofs.Pieces.{Leads, shown}
use Rattle.reg_pages.proofs.Portioned.{at_place}
use Rattle.reg_site.specs.Bar.{entry_part, joined, joins, merged, part}
use Rattle.reg_site.specs.declared.bar.PicturePart.{PicturePart}

-- the bytes of the parts that are still to be appended, by the last one and the entries from a place on
abbrev pub parts_left : ℕ → PicturePart → List PageEntry → ℕ → List ℕ → List ℕ
parts_left most last entries i rest =
    markup_then (all_of (map part (merged last (map (entry_part most) (drop i entries))))) rest

-- the entry joins the last part
pub merges : (most : ℕ) (last : PicturePart) (entries : List PageEntry) (i : ℕ) (e : PageEntry)
    → i < length entries → e ≡ get_or entries i e → joins last (entry_part most e) ≡ true
    → {old y : List ℕ} {all : List ℕ → List ℕ}
    → Leads old y (parts_left most last entries i) all
    → Leads old y (parts_left most (joined last (entry_part most e)) entries (i + 1)) all
merges most last entries i e h is together {y = y} leads =
    let list : merged last (map (entry_part most) (drop i entries))
    ≡ merged (joined last (entry_part most e)) (map (entry_part most) (drop (i + 1) entries)) =
    ap (λ left. merged last (map (entry_part most) left)) (at_place entries i e h is)
    ∙ ap (λ b. if b then merged (joined last (entry_part most e))
    (map (entry_part most) (drop (i + 1) entries))
    else last ∷ merged (entry_part most e) (map (entry_part most) (drop (i + 1) entries))) together in
    record {
      same = λ rest.
          ap (λ ps. y ++ markup_then (all_of (map part ps)) rest) (sym list) ∙ leads.same rest;
    }

-- the entry does not join the last part, which is appended
pub stands_apart : (most : ℕ) (last : PicturePart) (entries : List PageEntry) (i : ℕ) (e : PageEntry)
    → i < length entries → e ≡ get_or entries i e → joins last (entry_part most e) ≡ false
    → {old y z : List ℕ} {all : List ℕ → List ℕ}
    → Leads old y (parts_left most last entries i) all → Shown y z (part last)
    → Leads old z (parts_left most (entry_part most e) entries (i + 1)) all
stands_apart most last entries i e h is apart {y = y} leads piece =
    let list : merged last (map (entry_part most) (drop i entries))
    ≡ last ∷ merged (entry_part most e) (map (entry_part most) (drop (i + 1) entries)) =
    ap (λ left. merged last (map (entry_part most) left)) (at_place entries i e h is)
    ∙ ap (λ b. if b then merged (joined last (entry_part most e))
    (map (entry_part most) (drop (i + 1) entries))
    else last ∷ merged (entry_part most e) (map (entry_part most) (drop (i + 1) entries))) apart in
    record {
      same = λ rest.
          piece.bytes.all (parts_left most (entry_part most e) entries (i + 1) rest)
          ∙ ap (λ ps. y ++ markup_then (all_of (map part ps)) rest) (sym list) ∙ leads.same rest;
    }

-- no entry is left, and the last part is appended
pub comes_last : (most : ℕ) (last : PicturePart) (entries : List PageEntry) (i : ℕ) (ps : List PicturePart)
    → length entries ≤ i → {old y z : List ℕ}
    → Leads old y (parts_left most last entries i) (markup_then (all_of (map part ps)))
    → Shown y z (part last) → Shown old z (all_of (map part ps))
comes_last most last entries i ps h {y = y} leads piece =
    shown
    (record {
      all = λ rest.
          piece.bytes.all rest
          ∙ ap (λ left. y ++ markup_then (all_of (map part (merged last (map (entry_part most) left)))) rest)
          (sym (drop_all i entries h))
          ∙ leads.same rest;
    })
