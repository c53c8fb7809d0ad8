-- The DM to a station without a connection comes first, then the places' frames.
use Rattle.std.proofs.Common.{◌≡◌, None, false, List, sym, ◌∙◌, ap, subst, arith, rules}
use Rattle.ftl0_server.specs.declared.server.Server.TheInside.{Inside}
use Rattle.ftl0_server.proofs.Names.{common_steps, Place, server_state, settled, IsServer, ServerState, any_pending}
use Rattle.ftl0_server.proofs.NextLemmas.{same_places}
use Rattle.ftl0_server.proofs.OutLemmas.{places-out-next, places-out-sends, settled-same, settles, stray-out}
use Rattle.ftl0_server.proofs.server.Server.next_out.Goals as goal

-- the server with these places
abbrev as_state : Inside → List Place → ServerState
as_state a places = record (server_state a) { places = places }

pub returns-in-Some-clause-next : goal.returns-in-Some-clause-next
returns-in-Some-clause-next c = λ over server is.
    let was = rw (sym c.self.view_is) at is in
    let new : ServerState = record (server_state c.self.inside) { stray = None } in
    let stands : IsServer over new (record server { stray = None }) = grind (arith, common_steps) in
    rw (sym c.self.view_is)
    (stray-out (IsServer over) (server_state c.self.inside) new server c.in-Some.stray c.args.out.now.items c.write.new.out.items was.sends.me was.sends.stray
    c.in-Some.is stands c.write.ensures.octets c.write.ensures.text)

pub returns-in-Some-clause-same : goal.returns-in-Some-clause-same
returns-in-Some-clause-same c = grind (arith, common_steps, same_places)

pub invariant_of-self-in-None : goal.invariant_of-self-in-None
invariant_of-self-in-None c = search (rules, arith, settled-same)

pub returns-in-None-clause-sends : goal.returns-in-None-clause-sends
returns-in-None-clause-sends c = grind (arith, common_steps, places-out-sends)

pub returns-in-None-clause-next : goal.returns-in-None-clause-next
returns-in-None-clause-next c = grind (arith, common_steps, places-out-next)

pub returns-in-None-clause-settles : goal.returns-in-None-clause-settles
returns-in-None-clause-settles c = λ over no server is.
    let was = rw (sym c.self.view_is) at is in
    let none : any_pending c.self.inside.places ≡ false = sym c.next_of.ensures.pending ∙ no in
    let same = ap (λ (ps : List Place). as_state c.self.inside ps) (c.next_of.ensures.none no).0 in
    subst (λ (s : ServerState). IsServer over s (settled server)) (sym same) (settles over (server_state c.self.inside) server none was)
