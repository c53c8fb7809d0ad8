-- The client does its part, and then sends all that it has to send: that is its step, and its lanes go by the law.
use Rattle.std.proofs.Common.{sym, subst}
use Rattle.ftl0_client.specs.ClientStep.{happening}
use Rattle.air_rehearsal.proofs.Names.{client_started, lanes_of, ActsPart}
use Rattle.air_rehearsal.proofs.ActLemmas.{acts}
use Rattle.air_rehearsal.proofs.LaneLaws.{client_lanes}
use Rattle.air_rehearsal.proofs.PartLemmas.{ok_both, ok_then}
use Rattle.air_rehearsal.proofs.party.Party.act.Goals as goal

pub returns-clause-acts : goal.returns-clause-acts
returns-clause-acts g c =
    ok_then c.say.result _ _
    (λ both seat event whole at_seat allowed takes is_part none.
    let begins = c.in_ok-do_part.ensures.begins seat whole at_seat is_part in
    subst
    (λ (disk : g.row.D.Denot). ActsPart g.D.Disk whole c.args.self.now c.say.new.self c.args.disk.now disk)
    (sym c.say.ensures.same)
    (acts g.D.Disk (client_lanes c.sound_law.ensures) c.args.self.now c.do_part.new.self c.say.new.self seat
    c.args.part whole event c.args.disk.now c.do_part.new.disk at_seat allowed takes is_part none begins
    (both.0 (happening (client_started whole) whole.coming).after (lanes_of whole.party.attempts) begins.client
    begins.lanes) c.say.ensures.keeps both.1.theirs.me))
    (ok_both c.say.result _ _ c.say.ensures.says c.say.ensures.ready)
