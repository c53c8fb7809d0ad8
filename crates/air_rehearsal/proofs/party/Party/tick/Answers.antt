-- A tick leaves the notes, so the client still may hear a frame, and is what the tick makes of it.
use Rattle.std.proofs.Common.{refl, ◌∙◌}
use Rattle.ftl0_client.specs.Client.{ticks}
use Rattle.ftl0_client.proofs.KeptLemmas.{may-kept}
use Rattle.air_rehearsal.proofs.ActLemmas.{begins_still}
use Rattle.air_rehearsal.proofs.party.Party.tick.Goals as goal

pub returns-clause-theirs : goal.returns-clause-theirs
returns-clause-theirs g c =
    let theirs = c.requires.theirs in
    let keeps = c.tick.ensures.keeps in
    record {
      window = theirs.window;
      me = keeps.same.me ∙ theirs.me;
      server = keeps.same.server ∙ theirs.server;
      k = keeps.same.k ∙ theirs.k;
      may = may-kept g.D.Disk _ _ _ keeps theirs.may;
    }

pub returns-clause-begins : goal.returns-clause-begins
returns-clause-begins g c = λ seat whole at_seat is.
    begins_still g.D.Disk g.met.D.Disk.lasts_same c.args.self.now
    (record c.args.self.now { client = c.tick.new.self }) seat whole ticks c.args._disk.now at_seat is
    (c.tick.ensures.ticks seat.party.client at_seat.plays.client) refl refl refl
