-- The arming is taken away, and the client starts from the disk. A fresh disk is so without its arming too.
use Rattle.std.proofs.Common.{sym, subst, ◌∙◌}
use Rattle.air_rehearsal.proofs.Names.{EachImage, NotesState, StandsFor}
use Rattle.air_rehearsal.proofs.stations.open_party.Goals as goal

pub returns-clause-opens : goal.returns-clause-opens
returns-clause-opens g c at = record {
  opens = record {
    disarmed = c.arm.new.self;
    arms = c.arm.ensures;
    starts = c.in_ok-party.ensures.opens.again at;
  };
  plays = λ empty. c.in_ok-party.ensures.opens.plays (c.arm.ensures.nothing_else.same_content ∙ empty);
  memory = sym c.starved.ensures ∙ c.if-starved.false;
  images =
      subst (λ (n : NotesState). EachImage g.B.Disk c.open.new.disk (λ image. StandsFor image n.lists)) c.notes.ensures
      c.images_law.ensures;
}
