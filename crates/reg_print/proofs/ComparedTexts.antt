-- The text of a page, piece by piece.
use Rattle.std.proofs.Common.{◌≡◌, ℕ, ◌<◌, length, drop, List, [], ◌∷◌, ◌++◌, Bool, true, false, map, codes, refl, sym, ap, ◌∙◌, append_assoc, arith}
use Rattle.std.proofs.lemmas.List.{length-append}
use Rattle.json.specs.Print.{escape_byte, quoted}
use Rattle.serde_json.specs.Data.{Data, object}
use Rattle.serde_json.specs.View.{items_of}
use Rattle.serde_json.specs.Written.{comma_if, compact_text, items_text, members_text}
use Rattle.reg_core.specs.declared.entry.PageEntry.{PageEntry}
use Rattle.reg_core.specs.declared.page.Page.{Page}
use Rattle.reg_core.specs.declared.reply.Reply.TheVariants.{Accepted}
use Rattle.reg_core.specs.declared.told.Told.TheVariants as tells
use Rattle.reg_print.specs.declared.answer.Answer.TheVariants.{Reply}
use Rattle.reg_print.specs.Answer.{body_text}
use Rattle.reg_print.specs.Parts.{end_text, entry_text, front_text, listed_text}
use Rattle.reg_print.specs.Trees.Page.{entry_tree, frame_members, page_members, page_tree}
use Rattle.reg_print.proofs.ListedMembers.{as_listed, with_members-as_listed}

-- ---- items of an array

items_listed : (later : Bool) (ds : List Data)
    → items_text later (items_of ds) ≡ listed_text later ds ++ 93 ∷ []
items_listed later [] = refl
items_listed later (d ∷ ds) =
    ap (λ t. comma_if later ++ (compact_text d ++ t)) (items_listed true ds)
    ∙ sym (append_assoc (comma_if later) (compact_text d) (listed_text true ds ++ 93 ∷ []))
    ∙ sym (append_assoc (comma_if later ++ compact_text d) (listed_text true ds) (93 ∷ []))

-- ---- pages

-- an entry has a byte
pub entry_some : (later : Bool) (entry : PageEntry) → 0 < length (entry_text later entry)
entry_some later entry =
    omega (arith, length-append (comma_if later) (compact_text (entry_tree entry)))

head_text : (t : List ℕ)
    → 123 ∷ (quoted (codes "entries") ++ 58 ∷ (91 ∷ t)) ≡ front_text ++ t
unfolding escape_byte
head_text t = refl

-- the text of a page: its entries between what stands before and behind them
page_text : (page : Page)
    → compact_text (page_tree page)
    ≡ (front_text ++ listed_text false (map entry_tree page.entries)) ++ end_text page
page_text page =
    let head = front_text in
    let ds = map entry_tree page.entries in
    let more = members_text true (as_listed (frame_members page)) in
    let behind : end_text page ≡ 93 ∷ more =
    ap (λ ms. 93 ∷ 44 ∷ drop 1 (compact_text (object ms)))
    (with_members-as_listed (frame_members page) refl) in
    ap (λ ms. compact_text (object ms)) (with_members-as_listed (page_members page) refl)
    ∙ head_text (items_text false (items_of ds) ++ more)
    ∙ ap (λ t. head ++ (t ++ more)) (items_listed false ds)
    ∙ ap (λ t. head ++ t) (append_assoc (listed_text false ds) (93 ∷ []) more)
    ∙ sym (append_assoc head (listed_text false ds) (93 ∷ more))
    ∙ ap (λ t. (head ++ listed_text false ds) ++ t) (sym behind)

pub body_text-page : (page : Page)
    → body_text (Reply (Accepted (tells.Page page)))
    ≡ (front_text ++ listed_text false (map entry_tree page.entries)) ++ end_text page
unfolding body_text
body_text-page page = page_text page
