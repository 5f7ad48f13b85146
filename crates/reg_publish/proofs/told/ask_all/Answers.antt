use Rattle.std.proofs.Common.{◌≡◌, ap, ◌∙◌}
use Rattle.reg_core.specs.View.{Published}
use Rattle.reg_core.specs.declared.command.PublicCommand.TheVariants.{Registries, PoolList, BlocksCsv}
use Rattle.reg_core.specs.declared.reply.Reply.TheVariants.{Accepted}
use Rattle.reg_site.specs.Site.{told_to_all}
use Rattle.reg_publish.specs.Told.{AreTold, IsTold}
use Rattle.reg_publish.proofs.Placed.{asks_as, asks_both}
use Rattle.reg_publish.proofs.told.ask_all.Goals as goal

pub returns : goal.returns
returns g c =
    let published = g.S.Source.published in
    let Holds = g.S.Source.Holds in
    let moment = c.args.moment in
    let s = c.args.source.now in
    let s1 = c.ask.new.self in
    let s2 = c.ask_pages.new.source in
    let s3 = c.ask-2.new.self in
    let s4 = c.ask-3.new.self in
    let names = c.in_ok-names_in.field-0.now in
    let Named : Published → Type 0 =
    λ p. told_to_all p moment Registries ≡ Accepted c.in_ok-names.names in
    let Shown : Published → Type 0 = λ p. AreTold p moment names c.in_ok-pages.pages.items in
    let Given : Published → Type 0 =
    λ p. told_to_all p moment BlocksCsv ≡ Accepted c.in_ok-given.given in
    let Pooled : Published → Type 0 =
    λ p. told_to_all p moment PoolList ≡ Accepted c.in_ok-pool.pool in
    asks_as published Holds s s4 (λ p. (Named p × Shown p) × (Given p × Pooled p))
    (λ p. IsTold p moment
    (record { pages = c.in_ok-pages.pages; pool = c.in_ok-pool.pool; blocks = c.in_ok-given.given }))
    (asks_both published Holds s s2 s4 (λ p. Named p × Shown p) (λ p. Given p × Pooled p)
    (asks_both published Holds s s1 s2 Named Shown c.in_ok-names.ensures c.in_ok-pages.ensures)
    (asks_both published Holds s2 s3 s4 Given Pooled c.in_ok-given.ensures c.in_ok-pool.ensures))
    (λ p h. record {
      names = names;
      named = h.0.0 ∙ ap Accepted c.in_ok-names_in.ensures;
      shown = h.0.1;
      pooled = h.1.1;
      given = h.1.0;
    })
