use Rattle.std.proofs.Common.{ap, ◌∙◌, length, length-drop}
use Rattle.ax25_link.proofs.Names.{Kept, after_new}
use Rattle.ax25_link.proofs.FrameLemmas.{new-is, text-same}
use Rattle.ax25_link.proofs.link.Link.send_new.Goals as goal

pub returns-clause-text : goal.returns-clause-text
returns-clause-text c = λ w end s.
    text-same _ _ _
    (new-is w end c.cut_new-place.result s.acked
    (c.cut_new-place.ensures.place ∙ ap (λ (k : Kept). length k.queue.pieces) s.kept ∙ length-drop end.acked end.sent))
    (c.write_information.ensures.text w (after_new end) (c.cut_new-place.ensures.after w end s))
