use Rattle.std.proofs.Common.{◌≡◌, ◌++◌, List, ℕ, true, length, ◌∙◌, ap, sym, refl, subst, arith}
use Rattle.disk_model.specs.declared.disk_call.DiskCall.TheVariants as call
use Rattle.disk_model.proofs.Names.{common_steps, IsImage, Surface, with_range, surface_after, surface_after_call, write_over, Undoes, found_by, OpenWrite}
use Rattle.disk_model.proofs.BeforeWrites.{undoes_write}
use Rattle.disk_model.proofs.Surfaces.{surface_after-push, images_of_other_content, written_leaves}
use Rattle.disk_model.proofs.Writes.{octets_from_fits}
use Rattle.disk_model.proofs.history.History.write.Goals as goal

pub invariant_of-self-2 : goal.invariant_of-self-2
invariant_of-self-2 c =
    let was = c.args.self.now in
    let at = c.args.at in
    let bytes = c.args.bytes.now in
    let before = surface_after was.past.first was.past.calls in
    let now = c.then-self.result in
    let octets = c.overwrite_keeping.new.content.items in
    let present : octets ≡ write_over was.present.items at bytes = c.in_ok-found.ensures.ok.written in
    let kept : c.overwrite_keeping.new.kept.items ≡ was.kept.items ++ found_by was.present.items at bytes = c.in_ok-found.ensures.ok.found in
    let after : surface_after now.first now.calls ≡ surface_after_call before (call.Write at bytes) =
    ap (λ (f : List ℕ). surface_after f now.calls) c.then-self.ensures.0
    ∙ ap (surface_after was.past.first) c.then-self.ensures.1
    ∙ surface_after-push was.past.first was.past.calls (call.Write at bytes) in
    let left = written_leaves before at bytes was.present.items (octets_from_fits bytes c.type_inv.bytes) was.image in
    let image = images_of_other_content (with_range before at (length bytes)) (write_over before.content at bytes) (write_over was.present.items at bytes) left in
    let written : OpenWrite = record { at = at; count = length bytes; found = c.in_ok-found.found; passed = true } in
    record {
      content = present ∙ ap (λ (l : List ℕ). write_over l at bytes) was.content ∙ sym (ap (λ (s : Surface). s.content) after);
      image = subst (λ (s : Surface). IsImage s octets) (sym after) (subst (IsImage (surface_after_call before (call.Write at bytes))) (sym present) image);
      room = λ up. grind (arith, common_steps);
      most = let e = ap (λ (s : Surface). s.most) after in omega (arith, e, was.most, c.in_ok-found.ensures.ok.ends);
      undoes =
          subst (λ (f : List ℕ). Undoes f now.calls was.synced c.push.new.self.items c.overwrite_keeping.new.kept.items octets) (sym c.then-self.ensures.0)
          (subst (λ (l : List ℕ). Undoes was.past.first now.calls was.synced c.push.new.self.items c.overwrite_keeping.new.kept.items l) (sym present)
          (subst (λ (l : List ℕ). Undoes was.past.first now.calls was.synced c.push.new.self.items l (write_over was.present.items at bytes)) (sym kept)
          (undoes_write was.past.first was.past.calls now.calls was.synced was.writes.items c.push.new.self.items was.kept.items was.present.items written bytes
          c.then-self.ensures.1 refl (grind (arith, common_steps)) c.in_ok-found.ensures.found was.undoes)));
    }
