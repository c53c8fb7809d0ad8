use Rattle.std.proofs.Common.{◌≡◌, ℕ, ◌+◌, ◌-◌, ◌<◌, ◌≤◌, List, [], ◌∷◌, ◌++◌, length, take, sym, ◌∙◌, ap, subst, arith, true, false, Bool, length-drop}
use Rattle.real_outside.proofs.Names.{take_rest, take_all, FillsFrom, GoesOn, IsReadOf, all_given, moved, octets_given, DeviceCall, asks_as, asks_more, put_mid, same_len_mid}
use Rattle.real_outside.proofs.Moving.{Leads, fills_not, front_of_room, given_more, leads_end, leads_fault, leads_more}
use Rattle.real_outside.proofs.disk.moves.fill.Goals as goal

abbrev IsNext : ℕ → ℕ → ℕ → DeviceCall → Type 0
IsNext at all before = IsReadOf (at + before) (all - before)

-- the octets so far are the beginning of the room
abbrev Fills : ℕ → ℕ → ℕ → List ℕ → List DeviceCall → Type 0
Fills at all done room calls = Leads (IsNext at all) all done calls × (all_given calls ≡ take done room)

-- the run of all calls, for a room of the same size
same_size : (at all size : ℕ) (calls : List DeviceCall) (done : Bool) → all ≡ size → GoesOn (IsNext at all) all 0 calls done → GoesOn (IsNext at size) size 0 calls done
same_size at all size calls done e run = subst (λ (n : ℕ). GoesOn (IsNext at n) n 0 calls done) e run

pub returns-in_err-filled : goal.returns-in_err-filled
returns-in_err-filled g c =
    let at = c.args.at in
    let all = length c.args.room.now in
    let done = c.loop-filled.filled in
    let made = c.in_err-filled.ensures.call in
    let left : length c.read_some.new.room ≡ all - done =
    omega (arith, ap length (take_rest c.loop-filled.room done), length-drop done c.loop-filled.room, c.read_some.auto.room, c.loop-filled.auto.room) in
    let size : all ≡ length (put_mid done (length c.loop-filled.room - done) c.loop-filled.room c.read_some.new.room) =
    omega (arith, same_len_mid done (length c.loop-filled.room - done) c.loop-filled.room c.read_some.new.room c.read_some.auto.room, c.loop-filled.auto.room) in
    asks_more (Fills at all done c.loop-filled.room) (FillsFrom at (put_mid done (length c.loop-filled.room - done) c.loop-filled.room c.read_some.new.room) c.from_residual.result)
    (g.V.Device.calls c.args.device.now) (g.V.Device.calls c.loop-filled.device) (g.V.Device.calls c.read_some.new.device) made.0 made.1
    (λ calls so_far.
    fills_not at _ c.from_residual.result (calls ++ made.0 ∷ []) c.from_residual.ensures.0
    (same_size at all _ (calls ++ made.0 ∷ []) false size
    (leads_fault (IsNext at all) all done calls made.0 (omega arith) (subst (λ (n : ℕ). IsReadOf (at + done) n made.0) left made.3.0) made.2 so_far.0)))
    c.loop-filled.invariant.reaches

pub loop-filled-preserved : goal.loop-filled-preserved
loop-filled-preserved g c =
    let at = c.args.at in
    let all = length c.args.room.now in
    let done = c.loop-filled.filled in
    let count = c.in_ok-filled.field-0 in
    let made = c.in_ok-filled.ensures.call in
    let next : DeviceCall = made.0 in
    let same : moved next ≡ count = made.2.1 in
    let some : 0 < moved next = omega (arith, same, made.2.0) in
    let left : length c.read_some.new.room ≡ all - done =
    omega (arith, ap length (take_rest c.loop-filled.room done), length-drop done c.loop-filled.room, c.read_some.auto.room, c.loop-filled.auto.room) in
    let few : count ≤ length c.read_some.new.room = omega (arith, c.in_ok-filled.ensures.count, c.read_some.auto.room) in
    let within : done ≤ length c.loop-filled.room = omega (arith, c.loop-filled.invariant.within, c.loop-filled.auto.room) in
    let is : IsNext at all done next = subst (λ (n : ℕ). IsReadOf (at + done) n next) left made.3.0 in
    record {
      within = omega (arith, left, few, within, c.loop-filled-test.true);
      reaches =
          asks_more (Fills at all done c.loop-filled.room)
          (Fills at all (done + count) (put_mid done (length c.loop-filled.room - done) c.loop-filled.room c.read_some.new.room))
          (g.V.Device.calls c.args.device.now) (g.V.Device.calls c.loop-filled.device) (g.V.Device.calls c.read_some.new.device) next made.1
          (λ calls so_far. (
            subst (λ (n : ℕ). Leads (IsNext at all) all (done + n) (calls ++ next ∷ [])) same (leads_more (IsNext at all) all done calls next (omega arith) is some so_far.0),
            given_more calls next
                ∙ ap (λ (l : List ℕ). l ++ octets_given next) so_far.1
                ∙ ap (λ (l : List ℕ). take done c.loop-filled.room ++ l) made.3.1
                ∙ sym (front_of_room done (length c.loop-filled.room - done) count c.loop-filled.room c.read_some.new.room within few),
          ))
          c.loop-filled.invariant.reaches;
    }

pub returns : goal.returns
returns g c =
    let at = c.args.at in
    let all = length c.args.room.now in
    let done = c.loop-filled.filled in
    let size : all ≡ length c.loop-filled.room = omega (arith, c.loop-filled.auto.room) in
    let whole : done ≡ all = omega (arith, size) in
    asks_as (Fills at all done c.loop-filled.room) (FillsFrom at c.loop-filled.room _) (g.V.Device.calls c.args.device.now) (g.V.Device.calls c.loop-filled.device)
    (λ calls so_far. record {
      reads = same_size at all _ calls true size (leads_end (IsNext at all) all done calls whole so_far.0);
      given = λ ok. sym (so_far.1 ∙ take_all done c.loop-filled.room (omega (arith, size, whole)));
    })
    c.loop-filled.invariant.reaches
