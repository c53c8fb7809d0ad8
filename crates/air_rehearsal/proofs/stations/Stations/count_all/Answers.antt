-- The tasks of one client more are counted.
use Rattle.std.proofs.Common.{◌≡◌, ℕ, zero, suc, ◌+◌, ◌<◌, List, [], ◌∷◌, ◌++◌, length, take, Some, sym, ap, subst, ◌∙◌, arith}
use Rattle.std.proofs.Common.{rules}
use Rattle.air_world.specs.Attempts.Party.{Party}
use Rattle.air_rehearsal.proofs.Names.{slice_get, flat_map, flat_map_more, same_Some, take-length, CountsAcked, ClientTask, tasks_of, Seat, Party as StoredParty}
use Rattle.air_rehearsal.proofs.AckedLemmas.{counts-append}
use Rattle.air_rehearsal.proofs.LooksLemmas.{looks-at-end, looks-on}
use Rattle.air_rehearsal.proofs.PartiesLemmas.{parties-count, party-of}
use Rattle.air_rehearsal.proofs.ReadyLemmas.{read_at}
use Rattle.air_rehearsal.proofs.stations.Stations.count_all.Goals as goal

taken-more : {X : Type 0} (xs : List X) (place : ℕ) (x : X) → slice_get xs place ≡ Some x
    → take (place + 1) xs ≡ take place xs ++ x ∷ []
taken-more [] place x at = absurd cc
taken-more {X} (y ∷ ys) zero x at = ap (λ (it : X). it ∷ []) (same_Some y x at)
taken-more {X} (y ∷ ys) (suc place) x at =
    ap (λ n. take n (y ∷ ys)) (let next : suc place + 1 ≡ suc (place + 1) = omega arith in next)
    ∙ ap (λ (them : List X). y ∷ them) (taken-more ys place x at)

pub loop-party-preserved : goal.loop-party-preserved
loop-party-preserved g c = record {
  looks =
      looks-on g.D.Disk g.met.D.Disk.lasts_on c.args.store.now c.loop-party.store c.count_tasks.new.store
      c.args.disk.now c.loop-party.disk c.count_tasks.new.disk c.loop-party.invariant.looks c.count_tasks.ensures.looks;
  counts = λ world sound plays known store_is.
      let place = c.loop-party.party-index in
      let stored = c.party-item.result in
      let within : place < length c.deref-party-items.result.now = search rules in
      let there : slice_get c.args.self.now.parties.items place ≡ Some stored =
      ap (λ (items : List StoredParty). slice_get items place) (sym c.deref-party-items.ensures.value)
      ∙ read_at c.deref-party-items.result.now place stored within c.party-item.is
      in
      let found = party-of c.args.self.now world plays place stored there in
      let seat : Seat = record { world = world; c = place; party = found.0 } in
      let at =
      looks-at-end g.D.Disk c.args.store.now c.loop-party.store c.args.disk.now c.loop-party.disk c.args.self.now stored
      seat c.loop-party.invariant.looks
      (record {
        sound = sound;
        stations = plays;
        is_party = found.1;
        plays = found.2;
        known = known;
        store_is = store_is;
      })
      in
      let more =
      ap (flat_map tasks_of) (taken-more world.parties place found.0 found.1)
      ∙ sym (flat_map_more tasks_of [] (take place world.parties) found.0)
      in
      subst (λ (tasks : List ClientTask). CountsAcked tasks c.args.report.now c.count_tasks.new.report) (sym more)
      (counts-append (flat_map tasks_of (take place world.parties)) (tasks_of found.0) c.args.report.now
      c.loop-party.report c.count_tasks.new.report (c.loop-party.invariant.counts world sound plays known store_is)
      (c.in_ok-count_tasks.ensures.counts seat at));
}

pub returns-clause-counts : goal.returns-clause-counts
returns-clause-counts g c world sound plays known store_is =
    let as_many = parties-count c.args.self.now world plays in
    let items = ap length c.deref-party-items.ensures.value in
    let all : c.loop-party.party-index ≡ length world.parties = omega (arith, as_many, items) in
    subst (λ (parties : List Party). CountsAcked (flat_map tasks_of parties) c.args.report.now c.loop-party.report)
    (ap (λ n. take n world.parties) all ∙ take-length world.parties)
    (c.loop-party.invariant.counts world sound plays known store_is)
