-- One client more is opened and ready, and those before are so still.
use Rattle.std.proofs.Common.{◌≡◌, ℕ, ◌+◌, ◌<◌, List, [], ◌∷◌, ◌++◌, get_or, length, Some, sym, subst, rules, arith}
use Rattle.air_rehearsal.proofs.Names.{slice_get, slice_set, slice_get-get_or, Cuts, cuts_by, OpensFirst, AreReady, Party}
use Rattle.air_rehearsal.proofs.OpeningLemmas.{none_ready, opens_more, opens_none}
use Rattle.air_rehearsal.proofs.ReadyLemmas.{read_at, ready_more}
use Rattle.air_rehearsal.proofs.stations.open_parties.Goals as goal

pub loop-c-init : goal.loop-c-init
loop-c-init g c =
    let cuts : Cuts _ = cuts_by g.B.CutDisk.restarts g.B.CutDisk.arming g.B.CutDisk.plain g.B.CutDisk.is_starved in
    record {
      ready =
          subst (λ (them : List Party). AreReady g.B.Disk them c.args.disks.now) (sym c.new-parties.ensures.items)
          (none_ready g.B.Disk c.args.disks.now);
      opens =
          subst
          (λ (them : List Party).
          OpensFirst g.B.Disk cuts c.args.server c.args.k 0 c.args.calls.now c.args.disks.now c.args.disks.now them)
          (sym c.new-parties.ensures.items)
          (opens_none g.B.Disk cuts c.args.server c.args.k c.args.calls.now c.args.disks.now);
    }

pub loop-c-preserved : goal.loop-c-preserved
loop-c-preserved g c =
    let cuts : Cuts _ = cuts_by g.B.CutDisk.restarts g.B.CutDisk.arming g.B.CutDisk.plain g.B.CutDisk.is_starved in
    let first = c.loop-c.invariant.opens in
    let before = c.loop-c.parties.items in
    let disk = get_or c.loop-c.disks c.loop-c.c c.index-disks-c.result in
    let disk_now = c.open_party.new.disk in
    let party = c.in_ok-party.party in
    let within : c.loop-c.c < length c.args.calls.now = search (rules, arith) in
    let is_call : slice_get c.args.calls.now c.loop-c.c ≡ Some c.index-calls-c.result =
    read_at c.args.calls.now c.loop-c.c c.index-calls-c.result within c.index-calls-c.is
    in
    let is_disk : slice_get c.loop-c.disks c.loop-c.c ≡ Some disk =
    slice_get-get_or c.loop-c.disks c.loop-c.c c.index-disks-c.result
    (let as_many = first.as_many in let enough = c.requires.enough in omega (arith, within, as_many, enough))
    in
    let items : c.push.new.self.items ≡ before ++ party ∷ [] = c.in_ok-push.ensures.items in
    let ready : AreReady g.B.Disk (before ++ party ∷ []) (slice_set c.loop-c.disks c.loop-c.c disk_now) =
    subst (λ (i : ℕ). AreReady g.B.Disk (before ++ party ∷ []) (slice_set c.loop-c.disks i disk_now)) first.count_is
    (ready_more g.B.Disk before c.loop-c.disks c.loop-c.invariant.ready party disk_now c.in_ok-party.ensures.ready)
    in
    let opens =
    opens_more g.B.Disk cuts c.args.server c.args.k c.args.calls.now c.args.disks.now c.loop-c.c c.loop-c.disks before
    first c.index-calls-c.result (record { before = disk; after = disk_now; party = party }) is_call is_disk
    c.in_ok-party.ensures.opens
    in
    record {
      ready =
          subst (λ (them : List Party). AreReady g.B.Disk them (slice_set c.loop-c.disks c.loop-c.c disk_now))
          (sym items) ready;
      opens =
          subst
          (λ (them : List Party).
          OpensFirst g.B.Disk cuts c.args.server c.args.k (c.loop-c.c + 1) c.args.calls.now c.args.disks.now
          (slice_set c.loop-c.disks c.loop-c.c disk_now) them)
          (sym items) opens;
    }
