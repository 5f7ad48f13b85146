use Rattle.std.proofs.Common.{ℕ, List, Option, Some, subst, sym}
use Rattle.reg_http.specs.Meeting.{Comes, Exchanges}
use Rattle.reg_wire.specs.Serving.{AnswersOver}
use Rattle.reg_http.proofs.Meetings.{a_meeting, no_meeting}
use Rattle.reg_http.proofs.listener.serve_next.Goals as goal

pub returns-in-None : goal.returns-in-None
returns-in-None g c =
    no_meeting (AnswersOver g.K.Keeper.world g.K.Keeper.Holds g.K.Keeper.Sound g.K.Keeper.FAILS)
    g.P.Peers.blank (g.P.Peers.coming c.args.peers.now) (g.P.Peers.coming c.next.new.self)
    (g.D.Dates.readings c.args.dates.now) (g.P.Peers.written c.args.peers.now)
    (g.P.Peers.written c.next.new.self) c.args.office.now c.in-None.ensures.comes
    c.in-None.ensures.ended

pub returns-in-Some : goal.returns-in-Some
returns-in-Some g c =
    let Over = AnswersOver g.K.Keeper.world g.K.Keeper.Holds g.K.Keeper.Sound g.K.Keeper.FAILS in
    let unread = g.P.Reader.Read.remaining c.in-Some.reader in
    let ComesTo : Option (List (Option (List ℕ))) → Type 0 =
    λ left. Comes (g.P.Peers.coming c.args.peers.now) left (Some unread) in
    let ExchangesFrom : Option (List (Option (List ℕ))) → Type 0 =
    λ had.
    Exchanges Over g.P.Peers.blank c.moment_now-moment.result unread had
    (g.P.Peers.written c.exchange.new.peers) c.args.office.now c.exchange.new.office
    c.exchange.result in
    a_meeting Over g.P.Peers.blank c.moment_now-moment.result unread c.moment_now-moment.ensures.0
    (g.P.Peers.coming c.args.peers.now) (g.P.Peers.coming c.exchange.new.peers)
    (g.D.Dates.readings c.args.dates.now) (g.D.Dates.readings c.moment_now-moment.new.dates)
    (g.P.Peers.written c.args.peers.now) (g.P.Peers.written c.exchange.new.peers)
    c.args.office.now c.exchange.new.office c.exchange.result
    (subst ComesTo (sym c.exchange.ensures.coming) c.in-Some.ensures.comes)
    c.moment_now-moment.ensures.2 c.moment_now-moment.ensures.1
    (subst ExchangesFrom c.in-Some.ensures.ended c.exchange.ensures.exchanges)
