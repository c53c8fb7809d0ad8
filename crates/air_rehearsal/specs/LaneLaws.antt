-- What events make of the transmissions of each client's current attempt, in terms of the frames that are sent.
use Rattle.std.specs.Prelude.{◌≡◌, ◌≢◌, ℕ, suc, filter, false}
use Rattle.ftl0_session.specs.Uploads.Session.{is_same_call}
use Rattle.turn_loop.specs.Events.{NodeEvent, ticks}
use Rattle.air_world.specs.Attempts.Party.{Party}
use Rattle.air_world.specs.Events.{ClientPart, ClientTakes, DeliversToServer}
use Rattle.air_world.specs.Lawful.{IsAllowed}
use Rattle.air_world.specs.Schedule.{Event, to_server}
use Rattle.air_world.specs.Sound.{Sound}
use Rattle.air_world.specs.Step.{ServerGoes}
use Rattle.air_world.specs.World.{PartyAt, World, next_moment}
use Rattle.air_rehearsal.specs.Lanes.{lanes_of, replying_each, sending_each, timing_each}
use Rattle.air_rehearsal.specs.TakingPart.{PartyGoes}

-- A client that takes part without a cut sends its frames: a SABM begins an attempt.
abbrev pub ClientLanesLaw : Type 0
ClientLanesLaw =
    (world : World) (event : Event) (c : ℕ) (part : ClientPart) (next : Party) → Sound world → IsAllowed world event
    → ClientTakes world event c part → part.party.is_cut ≡ false → (goes : PartyGoes part next)
    → lanes_of next.attempts ≡ sending_each goes.did.frames (lanes_of part.party.attempts)

-- What the server sends once it heard a frame of the client at this place is sent to that client.
pub record HearingLanesLaw : Type 0 where
  pub own :
      (world : World) (c place : ℕ) (coming : NodeEvent) (delivered next : World) (party now : Party) → Sound world
      → IsAllowed world (to_server (suc c) (suc place)) → world.is_cut ≡ false
      → DeliversToServer world c place coming delivered → (goes : ServerGoes world coming delivered next)
      → PartyAt delivered c party → PartyAt next c now
      → lanes_of now.attempts ≡ replying_each goes.did.frames (lanes_of party.attempts)
  pub others :
      (world : World) (c place i : ℕ) (coming : NodeEvent) (delivered next : World) (party now : Party) → Sound world
      → IsAllowed world (to_server (suc c) (suc place)) → world.is_cut ≡ false
      → DeliversToServer world c place coming delivered → ServerGoes world coming delivered next → i ≢ c
      → PartyAt delivered i party → PartyAt next i now → now ≡ party

-- What it sends at a tick is sent to each client by the frame's destination, where a session answered its attempt.
abbrev pub TickingLanesLaw : Type 0
TickingLanesLaw =
    (world next : World) (i : ℕ) (party now : Party) → Sound world → world.is_cut ≡ false
    → (goes : ServerGoes world (ticks (next_moment world)) world next) → PartyAt world i party → PartyAt next i now
    → lanes_of now.attempts
    ≡ timing_each (filter (λ frame. is_same_call frame.dest party.client.me) goes.did.frames)
    (lanes_of party.attempts)
