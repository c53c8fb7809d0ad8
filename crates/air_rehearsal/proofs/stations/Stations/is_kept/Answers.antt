-- In a sound world each file that was acknowledged is kept: the store has it, stamped.
use Rattle.std.proofs.Common.{◌≡◌, List, ℕ, Some, sym, subst, ◌∙◌}
use Rattle.air_rehearsal.proofs.Names.{same_Some, CallSign, store_on, Store, IsKept, IsStampedFor, IsUpload}
use Rattle.air_rehearsal.proofs.KeptLemmas.{task-upload}
use Rattle.air_rehearsal.proofs.stations.Stations.is_kept.Goals as goal

pub returns-clause-kept : goal.returns-clause-kept
returns-clause-kept g c seat at holds =
    let number = c.args.number in
    let headline = c.parts_law.ensures.headline seat.world at.sound in
    let kept = headline.acknowledged seat.c c.args.task number seat.party at.is_party holds in
    let same : Some kept.0 ≡ Some c.in-Some.file =
    sym kept.1 ∙ c.in_ok-file.ensures seat.world seat.party at.stations at.plays ∙ c.in-Some.is
    in
    let file : kept.0 ≡ c.in-Some.file = same_Some kept.0 c.in-Some.file same in
    let caller : c.me-caller.result ≡ seat.party.client.me = c.me-caller.ensures ∙ at.plays.client.me in
    let upload : IsUpload c.in-Some.file =
    subst IsUpload file
    (task-upload c.args.self.now seat.world at.stations at.sound seat.party c.args.task kept.0 kept.1)
    in
    let by_caller : IsKept seat.world.server.store number kept.0 c.me-caller.result =
    subst (λ (it : CallSign). IsKept seat.world.server.store number kept.0 it) (sym caller) kept.2
    in
    let by_file : IsKept seat.world.server.store number c.in-Some.file c.me-caller.result =
    subst (λ (it : List ℕ). IsKept seat.world.server.store number it c.me-caller.result) file by_caller
    in
    let here : IsKept (store_on g.D.Disk c.args.store.now c.args.disk.now) number c.in-Some.file c.me-caller.result =
    subst (λ (it : Store). IsKept it number c.in-Some.file c.me-caller.result) (sym at.store_is) by_file
    in
    let octets : IsStampedFor c.in-Some.file number c.me-caller.result c.as_slice.result.now =
    subst (λ (it : List ℕ). IsStampedFor c.in-Some.file number c.me-caller.result it) (sym c.as_slice.ensures.value)
    (c.in_ok-kept.ensures.octets at.known c.in-Some.file here)
    in
    c.is_stamped.ensures upload octets
