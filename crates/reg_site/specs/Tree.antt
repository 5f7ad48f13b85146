-- The JSON of a registry in portions.
use Rattle.std.specs.Prelude.{ℕ, List, [], ◌++◌, drop, map, nat_lt}
use Rattle.reg_core.specs.declared.page.Page.{Page}
use Rattle.reg_core.specs.declared.reply.Reply.TheVariants.{Accepted}
use Rattle.reg_core.specs.declared.told.Told.TheVariants as tells
use Rattle.reg_print.specs.Answer.{body_text}
use Rattle.reg_print.specs.Parts.{end_text, listed_text}
use Rattle.reg_print.specs.Trees.Page.{entry_tree}
use Rattle.reg_print.specs.declared.answer.Answer.TheVariants.{Reply}
use Rattle.reg_pages.specs.declared.portions.Next.{Next}
use Rattle.reg_pages.specs.declared.portions.Next.TheVariants as next
use Rattle.reg_site.specs.declared.tree.RegistryTree.{RegistryTree}

-- the entries from a place on, and what stands behind them
abbrev pub entries_left : Page → ℕ → List ℕ
entries_left page place =
    listed_text (nat_lt 0 place) (map entry_tree (drop place page.entries)) ++ end_text page

-- what is left of the JSON by what is given next
abbrev pub left_from : RegistryTree → Next → List ℕ
left_from tree next.Above = body_text (Reply (Accepted (tells.Page tree.page.now)))
left_from tree (next.Row place) = entries_left tree.page.now place
left_from tree next.Nothing = []

-- the bytes of the JSON that are still to be given
abbrev pub tree_left : RegistryTree → List ℕ
tree_left tree = left_from tree tree.next
