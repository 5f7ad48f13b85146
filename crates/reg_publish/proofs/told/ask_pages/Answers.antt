use Rattle.std.proofs.Common.{◌≡◌, ℕ, ◌+◌, ◌<◌, ◌≤◌, List, [], ◌∷◌, ◌++◌, length, map, take, sym, ap, subst, arith}
use Rattle.std.proofs.lemmas.List.{take_all}
use Rattle.reg_core.specs.View.{Published}
use Rattle.reg_core.specs.declared.command.PublicCommand.TheVariants.{Registry}
use Rattle.reg_core.specs.declared.reply.Reply.TheVariants.{Accepted}
use Rattle.reg_core.specs.declared.told.Told.{Told}
use Rattle.reg_site.specs.Site.{told_to_all}
use Rattle.reg_source.specs.Source.{Asks}
use Rattle.reg_publish.specs.Told.{AreTold}
use Rattle.reg_publish.proofs.Placed.{asks_as, asks_both, asks_none}
use Rattle.reg_publish.proofs.TellsAll.{told_more}
use Rattle.reg_publish.proofs.told.ask_pages.Goals as goal

pub loop-name-init : goal.loop-name-init
loop-name-init g c =
    asks_none g.S.Source.published g.S.Source.Holds c.args.source.now
    (λ p. AreTold p c.args.moment [] c.new-pages.result.items)
    (λ p. sym (ap (map Accepted) c.new-pages.ensures.items))

pub loop-name-preserved : goal.loop-name-preserved
loop-name-preserved g c =
    let published = g.S.Source.published in
    let Holds = g.S.Source.Holds in
    let names = c.args.names.now in
    let i = c.loop-name.name-index in
    let name = c.name-item.result in
    let so = c.loop-name.pages.items in
    let told = c.in_ok-ask.field-0 in
    let inside : i < length names = omega (arith, c.loop-name-test.true) in
    let Before : Published → Type 0 = λ p. AreTold p c.args.moment (take i names) so in
    let Here : Published → Type 0 =
    λ p. told_to_all p c.args.moment (Registry name) ≡ Accepted told in
    let So : List Told → Type 0 = λ pages.
    Asks published Holds c.args.source.now c.ask.new.self
    (λ p. AreTold p c.args.moment (take (i + 1) names) pages) in
    subst So (sym c.in_ok-push.ensures.items)
    (asks_as published Holds c.args.source.now c.ask.new.self (λ p. Before p × Here p)
    (λ p. AreTold p c.args.moment (take (i + 1) names) (so ++ told ∷ []))
    (asks_both published Holds c.args.source.now c.loop-name.source c.ask.new.self Before Here
    c.loop-name.invariant c.in_ok-ask.ensures)
    (λ p h. told_more p c.args.moment names i name so told inside c.name-item.is h.0 h.1))

pub returns : goal.returns
returns g c =
    let long : length c.args.names.now ≤ c.loop-name.name-index =
    omega (arith, c.loop-name-test.false) in
    let So : List (List ℕ) → Type 0 = λ names.
    Asks g.S.Source.published g.S.Source.Holds c.args.source.now c.loop-name.source
    (λ p. AreTold p c.args.moment names c.loop-name.pages.items) in
    subst So (take_all c.loop-name.name-index c.args.names.now long) c.loop-name.invariant
