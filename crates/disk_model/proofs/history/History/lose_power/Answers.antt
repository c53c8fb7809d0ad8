use Rattle.std.proofs.Common.{List, ◌≡◌, ◌≤◌, ◌^◌, [], ◌∷◌, ◌++◌, ℕ, length, take, drop, sym, ◌∙◌, ap, subst, arith}
use Rattle.disk_model.proofs.Names.{common_steps, IsCrash, inside_of, IsImage, Surface, quiet_surface, surface_after, surface_after_call, cut_by, StandsOpen, calls_of, standing_open, synced_before, OpenWrite}
use Rattle.disk_model.proofs.BeforeWrites.{stands_open, synced_so, undoes_now}
use Rattle.disk_model.proofs.Ranges.{CutLeft, cut_left, quiet_image}
use Rattle.disk_model.proofs.Surfaces.{surface_after-push}
use Rattle.disk_model.proofs.history.History.lose_power.Goals as goal
use Rattle.disk_model.proofs.history.History.lose_power.Goals.{After-clear-2}

pub lose_power-requires : goal.lose_power-requires
lose_power-requires c =
    let was = c.args.self.now in
    let writes_are : c.as_slice.result.now ≡ was.writes.items = c.as_slice.ensures.value ∙ c.in_ok-reserve.ensures.items in
    subst (λ (l : List OpenWrite). StandsOpen was.synced l c.as_mut_slice.result.now was.present.items) (sym writes_are)
    (subst (λ (l : List ℕ). StandsOpen was.synced was.writes.items l was.present.items) (sym c.as_mut_slice.ensures.value)
    (stands_open was.past.first was.past.calls was.synced was.writes.items was.kept.items was.present.items was.undoes was.image was.most))

-- what the record of the cut gives, where the calls before it are these
cut_here : (c : After-clear-2) → CutLeft c.args.self.now.past.first c.args.self.now.past.calls c.args.pick c.lose_power.new.present.items
cut_here c =
    let was = c.args.self.now in
    let left = c.lose_power.new.present.items in
    let writes_are : c.as_slice.result.now ≡ was.writes.items = c.as_slice.ensures.value ∙ c.in_ok-reserve.ensures.items in
    let synced = synced_before was.synced was.writes.items was.kept.items was.present.items in
    let closes = synced_so was.past.first was.past.calls was.synced was.writes.items was.kept.items was.present.items was.undoes in
    cut_left was.past.first was.past.calls synced (calls_of was.writes.items) was.present.items c.args.pick left closes.1 was.content
    (subst (λ (l : List ℕ). IsCrash (standing_open was.synced was.writes.items l was.present.items) c.args.pick left) c.as_mut_slice.ensures.value
    (subst (λ (l : List OpenWrite). IsCrash (standing_open was.synced l c.as_mut_slice.result.now was.present.items) c.args.pick left) writes_are c.in_ok-lose_power.ensures.crash))

-- what stands then
after_cut : (c : After-clear-2) → surface_after c.then-self.result.first c.then-self.result.calls ≡ quiet_surface c.lose_power.new.present.items
after_cut c =
    let was = c.args.self.now in
    let now = c.then-self.result in
    let before = surface_after was.past.first was.past.calls in
    let left = c.as_slice-2.result.now in
    let left_is : left ≡ c.lose_power.new.present.items = c.as_slice-2.ensures.value in
    ap (λ (f : List ℕ). surface_after f now.calls) c.then-self.ensures.0
    ∙ ap (surface_after was.past.first) c.then-self.ensures.1
    ∙ surface_after-push was.past.first was.past.calls (cut_by before left)
    ∙ ap (λ (l : List ℕ). surface_after_call before (cut_by before l)) left_is
    ∙ ap quiet_surface (cut_here c).left_is

pub invariant_of-self-2 : goal.invariant_of-self-2
invariant_of-self-2 c =
    let left = c.lose_power.new.present.items in
    let crash = (cut_here c).crash in
    record {
      content = sym (ap (λ (s : Surface). s.content) (after_cut c));
      image = subst (λ (s : Surface). IsImage s left) (sym (after_cut c)) (quiet_image left crash.left.octets);
      most = subst (λ (s : Surface). s.most ≤ 2 ^ 63) (sym (after_cut c)) (omega (arith, c.args.self.now.most, crash.left.no_longer));
      room = λ up. grind (arith, common_steps);
      undoes = undoes_now c.then-self.result.first c.then-self.result.calls _ c.clear.new.self.items c.clear-2.new.self.items left c.clear.ensures.items (grind (arith, common_steps)) (after_cut c);
    }

pub returns-clause-calls : goal.returns-clause-calls
returns-clause-calls c =
    let was = c.args.self.now in
    let surface = surface_after was.past.first was.past.calls in
    let left = c.lose_power.new.present.items in
    let here = cut_here c.before in (
      inside_of surface.writes (take (length surface.synced) left),
      drop (length surface.synced) left,
      c.then-self.ensures.1 ∙ ap (λ (l : List ℕ). was.past.calls ++ cut_by surface l ∷ []) c.as_slice-2.ensures.value,
      subst (IsCrash surface c.args.pick) (sym here.left_is) here.crash,
    )
