use Rattle.std.proofs.Common.{ap, ◌∙◌, List, ℕ, ◌+◌, ◌%◌, [], ◌++◌}
use Rattle.ax25_link.proofs.Names.{slice_get, unwrap_or, canonical, Kept}
use Rattle.ax25_link.proofs.FrameLemmas.{information-is, canonical-append, text-append, text-same, numbered}
use Rattle.ax25_link.proofs.link.Link.write_information.Goals as goal

pub returns-clause-frame : goal.returns-clause-frame
returns-clause-frame c = λ w end s.
    let piece = unwrap_or (slice_get c.self.inside.queue.pieces c.args.place) [] in
    c.put_piece.ensures.octets
    ∙ ap (λ (xs : List ℕ). xs ++ piece) c.write.ensures.octets
    ∙ canonical-append c.args.self.now c.after.result c.self.inside.taken piece c.args.poll
    ∙ ap (λ (k : Kept). canonical (numbered c.args.self.now c.after.result k.taken (unwrap_or (slice_get k.queue.pieces c.args.place) []) c.args.poll)) c.self.view_is
    ∙ ap canonical (information-is w c.args.self.now end c.args.place c.after.result c.args.poll s (c.after.ensures ∙ ap (λ (k : Kept). (k.acked + c.args.place) % 8) c.self.view_is))

pub returns-clause-text : goal.returns-clause-text
returns-clause-text c = λ w end s.
    let piece = unwrap_or (slice_get c.self.inside.queue.pieces c.args.place) [] in
    let now = c.put_piece.ensures in
    let text = text-append c.args.self.now c.after.result c.self.inside.taken piece _ _ c.args.poll c.write.ensures.text now.octets
    now.range now.most in
    text-same _ _ _
    (ap (λ (k : Kept). numbered c.args.self.now c.after.result k.taken (unwrap_or (slice_get k.queue.pieces c.args.place) []) c.args.poll) c.self.view_is
    ∙ information-is w c.args.self.now end c.args.place c.after.result c.args.poll s (c.after.ensures ∙ ap (λ (k : Kept). (k.acked + c.args.place) % 8) c.self.view_is))
    text
