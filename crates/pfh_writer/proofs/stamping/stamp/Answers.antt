use Rattle.std.proofs.Common.{◌≡◌, ℕ, ◌+◌, ◌%◌, ◌≤◌, List, ◌++◌, length, take, refl, sym, ap, ◌∙◌, subst, arith, length-append, length-drop}
use Rattle.pfh_writer.specs.declared.server.ServerItems.{ServerItems}
use Rattle.pfh_writer.proofs.Names.{length-take-le, CallSign, IsCall, StampValue, stamped, item_len, one_stamp, FillsFront, StaysAtEnd, sum_place_after, stamp_of}
use Rattle.pfh_writer.proofs.FillingLemmas.{Walked, walked_none, rest_whole, rest_within, walked_more, part_is, put_is, sum_within, stamped_is}
use Rattle.pfh_writer.proofs.stamping.stamp.Goals as goal

abbrev stamp_at : ℕ → CallSign → ℕ → StampValue
stamp_at number by moment = record { number = number; by = by; moment = moment }

-- the server's caller is a call
server_call : (server : ServerItems) (stamp : StampValue) → stamp_of server ≡ stamp → IsCall stamp.by → IsCall (stamp_of server).by
server_call server stamp same call = subst (λ (s : StampValue). IsCall s.by) (sym same) call

pub loop-item-init : goal.loop-item-init
loop-item-init c = walked_none (stamp_of c.new-server.result) c.requires.0 c.requires.1 c.args.file.now c.requires.2

pub fill_front-requires : goal.fill_front-requires
fill_front-requires c =
    subst (λ (t : List ℕ). item_len t ≤ length t) (sym (part_is c.loop-item.at c.loop-item.file))
    (rest_whole (stamp_of c.new-server.result) c.args.file.now c.loop-item.file c.loop-item.at c.loop-item.sum_at c.loop-item.change c.loop-item.invariant)

pub overflow_add-at-in-Some-2 : goal.overflow_add-at-in-Some-2
overflow_add-at-in-Some-2 c =
    let call = server_call c.new-server.result _ c.new-server.ensures.items c.new-server.ensures.call in
    let fills =
    subst (λ (t : List ℕ). FillsFront (stamp_of c.new-server.result) t c.fill_front.new.octets c.in-Some.item) (part_is c.loop-item.at c.loop-item.file) c.in-Some.ensures.some in
    let more =
    walked_more (stamp_of c.new-server.result) c.args.file.now c.loop-item.file c.loop-item.at c.loop-item.sum_at c.loop-item.change c.loop-item.invariant call
    c.fill_front.new.octets c.in-Some.item ((c.loop-item.change + c.in-Some.item.change) % 65536) fills refl in
    let within = rest_within (stamp_of c.new-server.result) c.args.file.now (take c.loop-item.at c.loop-item.file ++ c.fill_front.new.octets)
    (c.loop-item.at + 3 + c.in-Some.item.len) (sum_place_after c.loop-item.sum_at c.in-Some.item.id (c.loop-item.at + 3))
    ((c.loop-item.change + c.in-Some.item.change) % 65536) more in
    let before = rest_within (stamp_of c.new-server.result) c.args.file.now c.loop-item.file c.loop-item.at c.loop-item.sum_at c.loop-item.change c.loop-item.invariant in
    let part = ap length (part_is c.loop-item.at c.loop-item.file) in
    omega (
      arith,
      length-append (take c.loop-item.at c.loop-item.file) c.fill_front.new.octets,
      length-take-le c.loop-item.at c.loop-item.file before,
      length-drop c.loop-item.at c.loop-item.file,
    )

pub loop-item-preserved : goal.loop-item-preserved
loop-item-preserved c =
    let call = server_call c.new-server.result _ c.new-server.ensures.items c.new-server.ensures.call in
    let fills =
    subst (λ (t : List ℕ). FillsFront (stamp_of c.new-server.result) t c.fill_front.new.octets c.in-Some.item) (part_is c.loop-item.at c.loop-item.file) c.in-Some.ensures.some in
    let more =
    walked_more (stamp_of c.new-server.result) c.args.file.now c.loop-item.file c.loop-item.at c.loop-item.sum_at c.loop-item.change c.loop-item.invariant call
    c.fill_front.new.octets c.in-Some.item ((c.loop-item.change + c.in-Some.item.change) % 65536) fills refl in
    subst
    (λ (t : List ℕ). Walked (stamp_of c.new-server.result) c.args.file.now t (c.loop-item.at + 3 + c.in-Some.item.len) c.sum_place-sum_at.result
    ((c.loop-item.change + c.in-Some.item.change) % 65536))
    (sym (put_is c.loop-item.at c.loop-item.file c.fill_front.new.octets))
    (subst
    (λ (n : ℕ). Walked (stamp_of c.new-server.result) c.args.file.now (take c.loop-item.at c.loop-item.file ++ c.fill_front.new.octets)
    (c.loop-item.at + 3 + c.in-Some.item.len) n ((c.loop-item.change + c.in-Some.item.change) % 65536))
    (sym c.sum_place-sum_at.ensures) more)

pub add_to_sum-requires : goal.add_to_sum-requires
add_to_sum-requires c =
    let call = server_call c.new-server.result _ c.new-server.ensures.items c.new-server.ensures.call in
    let stays = subst (λ (t : List ℕ). StaysAtEnd t c.fill_front.new.octets) (part_is c.loop-item.at c.loop-item.file) c.in_default.ensures.none in
    sum_within (stamp_of c.new-server.result) call c.args.file.now c.loop-item.file c.loop-item.at c.loop-item.sum_at c.loop-item.change c.loop-item.invariant
    c.fill_front.new.octets _ stays (put_is c.loop-item.at c.loop-item.file c.fill_front.new.octets)

pub returns-clause-computed : goal.returns-clause-computed
returns-clause-computed c =
    let call = server_call c.new-server.result _ c.new-server.ensures.items c.new-server.ensures.call in
    let stays = subst (λ (t : List ℕ). StaysAtEnd t c.fill_front.new.octets) (part_is c.loop-item.at c.loop-item.file) c.in_default.ensures.none in
    c.add_to_sum.ensures
    ∙ stamped_is (stamp_of c.new-server.result) call c.args.file.now c.loop-item.file c.loop-item.at c.loop-item.sum_at c.loop-item.change c.loop-item.invariant
    c.fill_front.new.octets _ stays (put_is c.loop-item.at c.loop-item.file c.fill_front.new.octets)
    ∙ ap (λ (s : StampValue). stamped s c.args.file.now) c.new-server.ensures.items

pub returns-clause-relation : goal.returns-clause-relation
returns-clause-relation c =
    (one_stamp (stamp_at c.args.number c.args.by c.args.moment) c.args.file.now c.add_to_sum.new.file c.requires.0 c.requires.1
    c.requires.2.file_text c.new-server.ensures.call).1 (returns-clause-computed c)
