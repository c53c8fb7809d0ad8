-- What is promised is true over a lawful schedule, if it is true of each sound world and each event keeps a world
-- sound.
use Rattle.std.proofs.Common.{List, [], ◌∷◌, sym, subst}
use Rattle.air_world.proofs.Names.{AllByRecursion, each-weaker, IsRun, Plays, NoCutsLaw, PartsLaw, PrefixesLaw, ScheduleLaw, SoundLaw, Event, Schedule, Sound, World, first_world}

-- each world of a play that begins with a sound one is sound
pub sound-plays : SoundLaw → (world : World) (events : List Event) (worlds : List World) → Sound world
    → Plays world events worlds
    → AllByRecursion Sound worlds
sound-plays law world [] worlds sound plays = subst (AllByRecursion Sound) (sym plays) tt
sound-plays law world (event ∷ events) worlds sound plays =
    let next = law.kept world plays.0 event sound plays.3 in
    subst (AllByRecursion Sound) (sym plays.2) (next, sound-plays law plays.0 events plays.1 next plays.4)

-- so is each of a run, the first one too
pub sound-run : SoundLaw → (schedule : Schedule) (worlds : List World) → IsRun schedule worlds
    → AllByRecursion Sound (first_world schedule ∷ worlds)
sound-run law schedule worlds run =
    let first = law.first schedule run.is_schedule in
    (first, sound-plays law (first_world schedule) schedule.events worlds first run.plays)

pub schedule-law : SoundLaw → PartsLaw → PrefixesLaw → ScheduleLaw
schedule-law law parts prefixes = record {
  worlds = λ schedule worlds run. each-weaker (first_world schedule ∷ worlds) parts.headline
      (sound-run law schedule worlds run);
  during = λ schedule worlds run. each-weaker (first_world schedule ∷ worlds) prefixes
      (sound-run law schedule worlds run);
}

pub no-cuts-law : ScheduleLaw → NoCutsLaw
no-cuts-law law schedule worlds none run = (law.worlds schedule worlds run).1
