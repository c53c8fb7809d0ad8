-- A packet that is whole is taken by its row, and its replies are queued or lost.
use Rattle.std.proofs.Common.{◌≡◌, false, [], ◌∷◌, rules, subst}
use Rattle.ftl0_packets.specs.Values.{item_of}
use Rattle.ftl0_client.proofs.Names.{is_some, Item, ending-none, working, Takes, Several-none}
use Rattle.ftl0_client.proofs.attempt.AnswerLemmas.{takes-answered}
use Rattle.ftl0_client.proofs.attempt.attempt.answer.Goals as goal

pub returns-clause-answers : goal.returns-clause-answers
returns-clause-answers g c =
    let job = c.args.job.now in
    let test : is_some job.ending ≡ false = search rules in
    let before = working c.args.link.now.link job c.args.notes.now c.args.disk.now in
    let now = working c.reply.new.link.link c.reply.new.job c.take.new.notes c.take.new.disk in
    subst (λ (item : Item). Takes g.D.Disk (item ∷ []) before now) c.packet-packet.ensures
    (takes-answered g.D.Disk (item_of c.packet-packet.result) before now c.take.new.self c.kind_of-kind.result c.as_slice.result.now c.take.new.replies.items c.kind_of-kind.ensures
    c.as_slice.ensures.value (ending-none job.ending test) c.in_ok-take.ensures.takes c.reply.ensures.replies)

pub returns-then-is_some-clause-answers : goal.returns-then-is_some-clause-answers
returns-then-is_some-clause-answers g c =
    let none = Several-none g.D.Disk ⊥ c.args.notes.now c.args.disk.now (λ never. never) c.requires.may.may.ready (g.met.D.Disk.lasts_same c.args.disk.now) in search rules
