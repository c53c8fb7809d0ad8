-- The turns of all rounds are played, and then the rehearsal ends.
use Rattle.std.proofs.Common.{◌≡◌, [], ◌∷◌, length, refl, ap, subst, arith, ◌∙◌}
use Rattle.air_rehearsal.specs.declared.rehearsing.RehearseStop.TheVariants as stop
use Rattle.air_rehearsal.proofs.Names.{List, CallSign, cuts_by, first_world, OpensAll, CanCount, the_server}
use Rattle.air_rehearsal.proofs.DriveLemmas.{played_by}
use Rattle.air_rehearsal.proofs.DrivenLemmas.{drawn_schedule, driven}
use Rattle.air_rehearsal.proofs.DrawnCalls.{drawn-lawful}
use Rattle.air_rehearsal.proofs.FirstBench.{played_first}
use Rattle.air_rehearsal.proofs.generator.drive_over.Goals as goal

-- the calls that are opened are those for which schedules are drawn
pub open-requires-clause-enough : goal.open-requires-clause-enough
open-requires-clause-enough g c =
    let nine = c.requires.0 in
    let same = ap length (c.as_slice.ensures.value ∙ c.in-Ok.ensures) in
    omega (arith, nine, same)

pub rounds-requires : goal.rounds-requires
rounds-requires g c = record { server = c.in-Ok-start.ensures.ready; clients = c.in-Ok-open.ensures.ready }

pub returns-in-Ok-end-clause-driven : goal.returns-in-Ok-end-clause-driven
returns-in-Ok-end-clause-driven g c =
    let cuts = cuts_by g.B.CutDisk.restarts g.B.CutDisk.arming g.B.CutDisk.plain g.B.CutDisk.is_starved in
    let disks = c.args.disk.now ∷ c.args.disks.now in
    λ tell.
    let opens =
    subst
    (λ (calls : List CallSign). OpensAll g.B.Disk cuts 4 calls c.args.disks.now c.open.new.disks c.in-Ok-open.stations)
    (c.as_slice.ensures.value ∙ c.in-Ok.ensures) c.in-Ok-open.ensures.opens in
    let first =
    played_first g.B.Disk cuts g.met.B.CutDisk.lasts_so g.met.B.Disk.content_is_image g.met.B.Disk.counts_now
    c.sound_law.ensures (drawn_schedule []) drawn-lawful c.args.disk.now c.start.new.disk c.args.disks.now
    c.open.new.disks c.requires c.in-Ok-open.stations c.in-Ok-start.server opens c.in-Ok-start.ensures.starts
    (c.in-Ok-start.ensures.memory refl) in
    let turns = c.in-Ok-rounds.ensures in
    let lasts = g.met.B.CutDisk.lasts_so c.rounds.new.disk c.end.new.disk c.end.ensures.lasts in
    let could : CanCount g.B.Disk c.rounds.new.disk =
    (let on = lasts.writes in let can = tell c.end.new.disk refl in omega (arith, on, can)) in
    let came = turns.comes (first_world (drawn_schedule [])) first.playing could in
    let playing =
    played_by g.B.Disk cuts (first_world (drawn_schedule [])) came.events came.worlds _ _ first.playing came.plays in
    let bench = playing.bench in
    driven g.B.Disk cuts g.met.B.CutDisk.lasts_so
    (record {
      sound = c.sound_law.ensures;
      parts = c.parts_law.ensures;
      stores = c.stores_law.ensures;
      schedules = c.schedule_law.ensures;
      follows = c.follows_law.ensures;
    }) disks c.requires c.args.count _ _ first drawn-lawful came c.end.new.disk c.in-Ok-end.report
    (c.in-Ok-end.ensures.ends _ bench.sound bench.plays.stations bench.plays.blocks (bench.stands the_server _ refl))

pub returns-in-Err-clause-lawful : goal.returns-in-Err-clause-lawful
returns-in-Err-clause-lawful g c = λ line is.
    let same : c.ended.result ≡ stop.Unlawful line = cc in absurd (c.ended.ensures line same)

pub returns-in-Err-open-clause-lawful : goal.returns-in-Err-open-clause-lawful
returns-in-Err-open-clause-lawful g c = λ line is.
    let same : c.ended-in-Err-open.result ≡ stop.Unlawful line = cc in absurd (c.ended-in-Err-open.ensures line same)

pub returns-in-Err-start-clause-lawful : goal.returns-in-Err-start-clause-lawful
returns-in-Err-start-clause-lawful g c = λ line is.
    let same : c.ended-in-Err-start.result ≡ stop.Unlawful line = cc in absurd (c.ended-in-Err-start.ensures line same)
