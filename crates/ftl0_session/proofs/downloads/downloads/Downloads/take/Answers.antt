use Rattle.std.proofs.Common.{◌≡◌, [], ◌∷◌, map, drop, Bool, None, false, inl, inr, ap, ◌∙◌, sym}
use Rattle.ftl0_session.specs.Downloads.View.{state_of}
use Rattle.ftl0_session.specs.declared.downloads.downloads.Phase.{Phase}
use Rattle.ftl0_session.proofs.Names.{option_map, value_of, Store, due_of, download_row, ended_row, kept, sending, waiting}
use Rattle.ftl0_session.proofs.FaultLemmas.{part-keeps}
use Rattle.ftl0_session.proofs.downloads.TakeLemmas.{ended_by, not_taken, row_in_listing, row_in_sending, row_in_waiting}
use Rattle.ftl0_session.proofs.downloads.downloads.Downloads.take.Goals as goal

pub returns-in-Sending-clause-takes : goal.returns-in-Sending-clause-takes
returns-in-Sending-clause-takes g c =
    let inside = c.self.inside in
    let span = c.in-Sending.field-0 in
    let state : c.args.self.now ≡ sending span.number span.place span.last =
    sym c.self.view_is ∙ ap (λ (f : Phase). state_of f inside.short_forms.items inside.sent inside.headers.items) c.in-Sending.is in
    ended_by g.D.Disk c.args.store.now _ c.args.lists.now c.args.self.now c.args.disk.now (g.met.D.Disk.lasts_same c.args.disk.now) c.reply_in_sending.result c.end_by.new.self c.args.replies.now.items
    c.end_by.new.replies.items c.end_by.result
    (λ files fails. row_in_sending c.args.caller files c.args.lists.now _ _ _ _ (value_of c.args.packet.now) fails state ∙ ap (option_map (ended_row c.args.lists.now)) (sym c.reply_in_sending.ensures.reply))
    (λ files. part-keeps c.args.caller files c.args.lists.now c.args.self.now (value_of c.args.packet.now) false) c.end_by.ensures.none c.end_by.ensures.some

pub returns-in-Waiting-clause-takes : goal.returns-in-Waiting-clause-takes
returns-in-Waiting-clause-takes g c =
    let inside = c.self.inside in
    let ends = c.end_by-in-Waiting in
    let state : c.args.self.now ≡ waiting =
    sym c.self.view_is ∙ ap (λ (f : Phase). state_of f inside.short_forms.items inside.sent inside.headers.items) c.in-Waiting.is in
    ended_by g.D.Disk c.args.store.now _ c.args.lists.now c.args.self.now c.args.disk.now (g.met.D.Disk.lasts_same c.args.disk.now) c.reply_in_waiting.result ends.new.self c.args.replies.now.items
    ends.new.replies.items ends.result
    (λ files fails. row_in_waiting c.args.caller files c.args.lists.now _ (value_of c.args.packet.now) fails state ∙ ap (option_map (ended_row c.args.lists.now)) (sym c.reply_in_waiting.ensures.reply))
    (λ files. part-keeps c.args.caller files c.args.lists.now c.args.self.now (value_of c.args.packet.now) false) ends.ensures.none ends.ensures.some

pub returns-in-ListingShort-clause-takes : goal.returns-in-ListingShort-clause-takes
returns-in-ListingShort-clause-takes g c =
    let inside = c.self.inside in
    let row : (files : Store) (fails : Bool) → download_row c.args.caller files c.args.lists.now c.args.self.now (value_of c.args.packet.now) fails ≡ None =
    λ files fails.
    elim c.in-ListingShort.is [
      | inl is ↦
          row_in_listing _ _ _ _ (kept (drop inside.sent inside.short_forms.items) ∷ []) _ fails
          (sym c.self.view_is ∙ ap (λ (f : Phase). state_of f inside.short_forms.items inside.sent inside.headers.items) is)
      | inr is ↦
          row_in_listing _ _ _ _ (map due_of inside.headers.items) _ fails
          (sym c.self.view_is ∙ ap (λ (f : Phase). state_of f inside.short_forms.items inside.sent inside.headers.items) is)
    ] in
    not_taken g.D.Disk c.args.store.now _ _ c.args.disk.now (g.met.D.Disk.lasts_same c.args.disk.now) row
