-- A station without a connection: the store and its disk stay.
use Rattle.std.proofs.Common.{◌≡◌, None, subst, sym}
use Rattle.ftl0_server.proofs.Names.{position, value_of, IsSettled, ServerState, has_caller}
use Rattle.ftl0_server.proofs.HearLemmas.{stranger-event}
use Rattle.ftl0_server.proofs.server.Server.hear.Goals as goal

pub returns-in-None : goal.returns-in-None
returns-in-None g c =
    let settled : IsSettled c.args.self.now.me c.args.self.now.k c.args.self.now.store c.args.self.now.places =
    subst (λ (s : ServerState). IsSettled s.me s.k s.store s.places) c.self.view_is c.self.invariant.settled in
    let found : position (has_caller (value_of c.args.frame.now).src) c.args.self.now.places ≡ None =
    subst (λ (s : ServerState). position (has_caller (value_of c.args.frame.now).src) s.places ≡ None) c.self.view_is (sym c.in-None.ensures) in
    stranger-event g.D.Disk c.args.self.now c.hear_stranger.new.self settled (value_of c.args.frame.now) c.args.moment c.args.disk.now found
    c.requires.awaits.ready (g.met.D.Disk.lasts_same c.args.disk.now) c.hear_stranger.ensures.same c.hear_stranger.ensures.heard
