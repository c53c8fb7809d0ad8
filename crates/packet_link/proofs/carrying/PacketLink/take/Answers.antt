-- A link that is up stays so, unless what was reported is that it is down.
use Rattle.std.proofs.Common.{◌≡◌, ap, sym, ◌∙◌}
use Rattle.ax25_frames.specs.Values.{value_of}
use Rattle.packet_link.proofs.Names.{Bytes, Closed, PacketLinkState}
use Rattle.packet_link.proofs.LinkLemmas.{link-told-up, link-up}
use Rattle.packet_link.proofs.carrying.PacketLink.take.Goals as goal

pub returns-clause-next : goal.returns-clause-next
returns-clause-next c bytes =
    let some = c.self.invariant.some in
    let frame = value_of c.args.frame.now in
    link-up c.self.inside.link c.take.new.self some frame c.take.result (link-told-up c.self.inside.link some frame c.take.result c.take.ensures.heard bytes) c.take.ensures.heard c.take.ensures.after
    (λ reason closed. (let no : Bytes ≡ Closed reason = sym bytes ∙ closed in cc))

pub returns-clause-up : goal.returns-clause-up
returns-clause-up c up opens =
    link-up c.self.inside.link c.take.new.self c.self.invariant.some (value_of c.args.frame.now) c.take.result (ap (λ (s : PacketLinkState). s.link.state) c.self.view_is ∙ up) c.take.ensures.heard
    c.take.ensures.after opens
