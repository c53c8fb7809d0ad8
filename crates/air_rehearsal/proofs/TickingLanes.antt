-- What the server sends at a tick makes of the transmissions of each client's current attempt.
use Rattle.std.proofs.Common.{◌≡◌, ◌≢◌, ℕ, List, [], ◌∷◌, ◌++◌, Bool, true, false, filter, map, Option, None, Some}
use Rattle.std.proofs.Common.{refl, sym, ap, ap₂, subst, ◌∙◌}
use Rattle.ax25_link.specs.LinkStep as step
use Rattle.ax25_link.specs.Stations.{Stations}
use Rattle.ftl0_server.specs.Server.{Refused}
use Rattle.ftl0_server.proofs.step_laws.Offered.{silent-by}
use Rattle.air_world.specs.Attempts.Party.{Party}
use Rattle.air_rehearsal.proofs.Names.{slice_get, AllByRecursion, option_map, option_or, same_Some, slice_get-map, CallSign, window_of, stations_law, ticks, is_same_call, Connected, caller_of, ticking, Server, Slot, all_freed, connected, free, leaving, left_by, slot_ticking, StepLaw, refusals, Attempt, IsAttempt, IsEndOf, IsBetween, newest_side, ServerSide, ServerDid, connection_of, did_to, ticked_by, all-at, all-by, each-map, some-at, ServerDoes, SoundLaw, tick_server, Sound, ServerGoes, party_ticked, PartyAt, World, next_moment, TickingLanesLaw, lanes_of, timing_each}
use Rattle.air_rehearsal.proofs.CallersSeat.{connection-seat, freed-seat, seat-found, seat-none}
use Rattle.air_rehearsal.proofs.FramesTo.{HasNone, places-none, to_station}
use Rattle.air_rehearsal.proofs.SaidLanes.{IsServed, times}

-- the newest session is that of the newest attempt, where it has one
newest-is : (attempts : List Attempt) (a : Attempt) (side : ServerSide) → slice_get attempts 0 ≡ Some a
    → a.server ≡ Some side → newest_side attempts ≡ Some side
newest-is [] a side is has = absurd cc
newest-is (b ∷ older) a side is has =
    ap (λ (o : Option ServerSide). option_or o (newest_side older))
    (ap (λ (x : Attempt). x.server) (same_Some b a is) ∙ has)

-- a tick keeps whose a connection is
left-none : (me : CallSign) (over : Bool) (c : Connected) → caller_of c ≢ me → HasNone me (left_by over c)
left-none me true c other = other
left-none me false c other = other

tick-caller : (c : Connected) → caller_of (ticking c).after ≡ caller_of c
tick-caller c = ap (λ (s : Stations). s.peer) (stations_law.coming (window_of 1) c.end step.tick)

ticked-none : (me : CallSign) (slot : Slot) → HasNone me slot → HasNone me (slot_ticking slot)
ticked-none me free none = tt
ticked-none me (connected c) none =
    left-none me (ticking c).over (ticking c).after (λ mine. none (sym (tick-caller c) ∙ mine))
ticked-none me (leaving c) none = none

module _ (steps : StepLaw) (world next : World) (sound : Sound world) (sound_next : Sound next)
    (goes : ServerGoes world (ticks (next_moment world)) world next) (i : ℕ) (party : Party)
    (is : PartyAt world i party) where
  abbrev did : ServerDid
  did = goes.did

  abbrev me : CallSign
  me = party.client.me

  between : IsBetween world.server
  between = record {
    window = sound.stations.window;
    may_step = sound.may_step;
    eight = sound.places.eight;
    distinct = sound.places.distinct;
    none_leaving = sound.places.none_leaving;
    ups = sound.places.ups;
  }

  then-at : PartyAt next i (party_ticked did party)
  then-at =
      ap (λ (w : World). slice_get w.parties i) goes.new_is ∙ slice_get-map (party_ticked did) world.parties i
      ∙ ap (option_map (party_ticked did)) is

  -- ---- a client without a connection

  sent-none : connection_of world.server me ≡ None → to_station me goes.gives.frames ≡ []
  sent-none none =
      let sends = steps.each world.server (ticks (next_moment world)) [] goes.gives goes.step in
      let stray : world.server.stray ≡ None = (silent-by world.server world.server.stray goes.step.silent).0 in
      let frames_are : goes.gives.frames ≡ sends.own =
      sends.frames_are ∙ ap (λ (o : Option Refused). refusals world.server.me o ++ sends.own) stray in
      let here : (place : ℕ) (slot : Slot) → slice_get world.server.slots place ≡ Some slot → HasNone me slot =
      λ place slot at. by place slot at in
      let each : AllByRecursion (HasNone me) (map slot_ticking world.server.slots) =
      each-map (HasNone me) slot_ticking world.server.slots (λ slot it. ticked-none me slot it)
      (all-by (HasNone me) world.server.slots here) in
      ap (to_station me) frames_are
      ∙ places-none world.server.window me sound.stations.window (map slot_ticking world.server.slots) sends.own
      sends.last each sends.drains
    where
      by : (place : ℕ) (slot : Slot) → slice_get world.server.slots place ≡ Some slot → HasNone me slot
      by place free at = tt
      by place (connected c) at = λ mine. seat-none world.server between me none place c at mine
      by place (leaving c) at = absurd (sound.places.none_leaving place c at)

  none : connection_of did.old me ≡ None → IsServed (did_to me did) party.attempts → (did_to me did).frames ≡ []
  none lost served =
      ap (λ (d : ServerDid). to_station me d.frames) goes.did_is
      ∙ sent-none (ap (λ (d : ServerDid). connection_of d.old me) (sym goes.did_is) ∙ lost)

  -- ---- a connection is at a place behind it too

  -- the session of the current attempt is up
  served-up : (c : Connected) → connection_of world.server me ≡ Some c → (a : Attempt) (side : ServerSide)
      → slice_get party.attempts 0 ≡ Some a → a.server ≡ Some side → side.is_up ≡ true
  served-up c was a side current has =
      let seat = connection-seat world.server between me c was in
      let session = sound.places.sessions seat.0 c seat.1 in
      let number = sound.stations.distinct session.c i session.party party session.is_party is
      (sym session.caller_is ∙ seat.2) in
      let party_is : session.party ≡ party =
      same_Some session.party party
      (sym session.is_party ∙ ap (λ n. slice_get world.parties n) number ∙ is) in
      let newest : newest_side party.attempts ≡ Some session.side =
      ap (λ (p : Party). newest_side p.attempts) (sym party_is) ∙ session.is_newest in
      let same : side ≡ session.side =
      same_Some side session.side (sym (newest-is party.attempts a side current has) ∙ newest) in
      ap (λ (s : ServerSide). s.is_up) same ∙ session.is_up

  -- so it isn't lost
  kept : (c : Connected) → connection_of did.old me ≡ Some c → connection_of did.last me ≡ None
      → IsServed (did_to me did) party.attempts → ⊥
  kept c was lost served =
      let a : Attempt = served.0 in
      let side : ServerSide = served.2.0 in
      let up =
      served-up c (ap (λ (d : ServerDid). connection_of d.old me) (sym goes.did_is) ∙ was) a side served.1 served.2.1 in
      let stays : PartyAt next i party =
      then-at
      ∙ ap₂
      (λ (one two : Option Connected).
      Some (record party { attempts = ticked_by one two (did_to me did) party.attempts }))
      was lost in
      let seat =
      sound_next.places.seated i 0 party side stays
      (record { attempt = a; is_attempt = served.1; is_side = served.2.1 }) up in
      let there : slice_get (all_freed goes.step.last.slots) seat.0 ≡ Some (connected side.connected) =
      ap (λ (s : Server). slice_get s.slots seat.0) (sym goes.step.new_is)
      ∙ ap (λ (w : World). slice_get w.server.slots seat.0) (sym goes.new_is) ∙ seat.1 in
      let attempt =
      all-at (IsAttempt party.client.me party.client.server) party.attempts 0 a (sound.parties i party is).attempts
      served.1 in
      let serves =
      some-at
      (λ (s : ServerSide). IsEndOf false party.client.server party.client.me s.connected.end) a.server side
      attempt.stations.serves served.2.1 in
      seat-found me goes.step.last.slots seat.0 side.connected
      (freed-seat goes.step.last.slots seat.0 side.connected there) serves.peer_is
      (ap (λ (d : ServerDid). connection_of d.last me) (sym goes.did_is) ∙ lost)

  -- ---- its lanes

  pub tick-lanes : (now : Party) → PartyAt next i now
      → lanes_of now.attempts
      ≡ timing_each (filter (λ frame. is_same_call frame.dest party.client.me) goes.did.frames)
      (lanes_of party.attempts)
  tick-lanes now is_now =
      ap (λ (q : Party). lanes_of q.attempts) (same_Some now (party_ticked did party) (sym is_now ∙ then-at))
      ∙ times (did_to me did) (connection_of did.old me) (connection_of did.last me) party.attempts none kept

-- the next world is sound
ticked-sound : SoundLaw → (world next : World) → Sound world → world.is_cut ≡ false
    → ServerGoes world (ticks (next_moment world)) world next → Sound next
ticked-sound laws world next sound uncut goes =
    laws.kept world next tick_server sound
    (record {
      allowed = record { in_range = tt; possible = tt };
      happens = record {
        coming = ticks (next_moment world);
        delivered = world;
        takes = (refl, refl);
        does =
            subst (λ (cut : Bool). ServerDoes cut world (ticks (next_moment world)) world next) (sym uncut) goes;
      };
    })

pub ticking_lanes : SoundLaw → StepLaw → TickingLanesLaw
ticking_lanes laws steps world next i party now sound uncut goes is is_now =
    tick-lanes steps world next sound (ticked-sound laws world next sound uncut goes) goes i party is now is_now
