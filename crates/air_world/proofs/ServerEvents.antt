-- Each event of the server's keeps a sound world.
use Rattle.std.proofs.Common.{◌≡◌, ℕ, zero, suc, ◌<◌, ◌^◌, Bool, true, false, sym, ap, subst, ◌∙◌, arith}
use Rattle.file_store.specs.Command.{after_all}
use Rattle.air_world.proofs.Names.{Transmission, NodeEvent, hears as frame_comes, ticks as tick_comes, after_first, Party, ServerDid, ServerDoes, ServerEvent, ServerIsCut, server_commands, IsAllowed, tick_server, to_server, Sound, ServerLaws, ServerGoes, parties_after, World, counted, next_moment}
use Rattle.air_world.proofs.CutWorld.{frame-cut-sound, take-none, tick-cut-sound}
use Rattle.air_world.proofs.Marked.{IsComing, delivered, is-coming}
use Rattle.air_world.proofs.ServerTicked.{tick-sound}
use Rattle.air_world.proofs.ServerWorld.{heard-sound}

pub soon-moment : (world : World) → next_moment world < 2 ^ 32
soon-moment world = omega arith

-- ---- a tick

module _ (laws : ServerLaws) (old new : World) (sound : Sound old) where
  tick-goes : (coming : NodeEvent) (those : World) → coming ≡ tick_comes (next_moment old) → those ≡ old
      → ServerGoes old coming those new → Sound new
  tick-goes coming those coming_is those_is goes =
      let it = subst (λ coming. ServerGoes old coming old new) coming_is
      (subst (λ d. ServerGoes old coming d new) those_is goes) in
      subst Sound
      (sym
      (it.new_is
      ∙ ap (λ (did : ServerDid). counted (record
      old { server = it.gives.new; parties = parties_after did (tick_comes (next_moment old)) old.parties }))
      it.did_is))
      (tick-sound laws.ticks laws.hearing.stay old sound (next_moment old) it.gives it.step)

  tick-cut : (coming : NodeEvent) (those : World) → coming ≡ tick_comes (next_moment old) → those ≡ old
      → ServerIsCut old coming those new → Sound new
  tick-cut coming those coming_is those_is is_cut =
      let it = subst (λ coming. ServerIsCut old coming old new) coming_is
      (subst (λ d. ServerIsCut old coming d new) those_is is_cut) in
      let left = after_first it.count old.server.store (server_commands old (tick_comes (next_moment old))) in
      subst Sound (sym it.new_is)
      (tick-cut-sound laws.left laws.hearing.stay old sound left
      (ap (λ these. after_all old.server.store these) (take-none it.count)))

  tick-does : (cut : Bool) (coming : NodeEvent) (those : World) → coming ≡ tick_comes (next_moment old) → those ≡ old
      → ServerDoes cut old coming those new → Sound new
  tick-does true coming those coming_is those_is does = tick-cut coming those coming_is those_is does
  tick-does false coming those coming_is those_is does = tick-goes coming those coming_is those_is does

  pub server-ticks-kept : ServerEvent old tick_server new → Sound new
  server-ticks-kept event = tick-does old.is_cut event.coming event.delivered event.takes.0 event.takes.1 event.does

  -- ---- a frame

  module _ (c place : ℕ) where
    module _ (party : Party) (t : Transmission) (coming_is : IsComing old c party place t) where
      abbrev those-delivered : World
      those-delivered = delivered old sound c party place t coming_is

      frame-goes : (coming : NodeEvent) (those : World) → coming ≡ frame_comes t.frame (next_moment old)
          → those ≡ those-delivered → ServerGoes old coming those new → Sound new
      frame-goes coming those came marked goes =
          let it = subst (λ coming. ServerGoes old coming those-delivered new) came
          (subst (λ d. ServerGoes old coming d new) marked goes) in
          subst Sound
          (sym
          (it.new_is
          ∙ ap (λ (did : ServerDid). counted (record
          those-delivered {
            server = it.gives.new;
            parties = parties_after did (frame_comes t.frame (next_moment old)) those-delivered.parties;
          }))
          it.did_is))
          (heard-sound laws.hearing old sound c party place t coming_is (next_moment old)
          (soon-moment old) it.gives it.step)

      frame-cut : (coming : NodeEvent) (those : World) → coming ≡ frame_comes t.frame (next_moment old)
          → those ≡ those-delivered → ServerIsCut old coming those new → Sound new
      frame-cut coming those came marked is_cut =
          let it = subst (λ coming. ServerIsCut old coming those-delivered new) came
          (subst (λ d. ServerIsCut old coming d new) marked is_cut) in
          subst Sound (sym it.new_is)
          (frame-cut-sound laws.hearing laws.some_step laws.left old sound c party place t coming_is (next_moment old)
          (soon-moment old) it.count)

      frame-does : (cut : Bool) (coming : NodeEvent) (those : World) → coming ≡ frame_comes t.frame (next_moment old)
          → those ≡ those-delivered → ServerDoes cut old coming those new → Sound new
      frame-does true coming those came marked does = frame-cut coming those came marked does
      frame-does false coming those came marked does = frame-goes coming those came marked does

  pub server-hears-kept : (number place : ℕ) → IsAllowed old (to_server number place)
      → ServerEvent old (to_server number place) new → Sound new
  server-hears-kept zero place allowed event = absurd event.takes
  server-hears-kept (suc c) zero allowed event = absurd event.takes
  server-hears-kept (suc c) (suc at) allowed event =
      let takes = event.takes in
      let coming = is-coming old c at takes.party takes.t takes.is_party takes.sent allowed.possible in
      frame-does c at takes.party takes.t coming old.is_cut event.coming event.delivered takes.coming_is
      takes.delivered_is event.does
