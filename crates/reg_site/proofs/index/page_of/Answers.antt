use Rattle.std.proofs.Common.{[], codes, refl}
use Rattle.std.specs.Option.{option_copied}
use Rattle.reg_site.specs.Index.{index_by_rows, said}
use Rattle.reg_pages.specs.Noted.{noted_in, words_in}
use Rattle.reg_pages.proofs.Pieces.{framed, joined, whole}
use Rattle.reg_site.proofs.index.page_of.Goals as goal

pub returns : goal.returns
unfolding index_by_rows
returns c =
    let noted = c.note_on-authority.ensures in
    whole c.new-out.result.items c.new-out.ensures.items
    (joined (rw (c.title_of-title.ensures, noted) at c.in_ok-push_start.ensures)
    (joined c.in_ok-push_top.ensures.bytes
    (joined
    (framed (codes "<p>") (codes "</p>") (words_in (noted_in (option_copied c.args.notes) [])) said
    (λ rest. refl) (λ b more rest. refl)
    (rw (c.words_in.ensures, noted) at c.in_ok-push_framed.ensures)).bytes
    (joined c.in_ok-push_apply.ensures.bytes
    (joined c.in_ok-push_registries.ensures.bytes
    (joined c.in_ok-push_pool.ensures.bytes
    (joined c.in_ok-push_blocks.ensures.bytes c.in_ok-push_end.ensures)))))))
