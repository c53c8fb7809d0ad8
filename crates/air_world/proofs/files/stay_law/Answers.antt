-- From the laws of stores that follow one another, and of what is due.
use Rattle.air_world.proofs.files.GoneLemmas.{facts-over, facts-same, facts-started}
use Rattle.air_world.proofs.files.OtherLemmas.{facts-other, facts-removed}
use Rattle.air_world.proofs.files.stay_law.Goals as goal

pub returns : goal.returns
returns c = record {
  same = facts-same;
  other = λ files place party caller before now stands call other sound follows facts.
      facts-other files party caller before now c.follows_law.ensures c.stays_law.ensures.due call other sound follows
      facts;
  over = facts-over;
  started = facts-started;
  removed = λ store files party number entry held sound there holds none facts.
      facts-removed store files party number entry held c.follows_law.ensures c.stays_law.ensures.due sound there holds
      none facts;
}
