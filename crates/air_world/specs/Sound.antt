-- What is true of each world between events, in a form that each event keeps.
use Rattle.std.specs.Prelude.{◌≡◌, ℕ, ◌≤◌, length, slice_get, true, Some}
use Rattle.std.specs.List.{AllByRecursion}
use Rattle.px_base.specs.CallSign.{IsCall}
use Rattle.ax25_link.specs.declared.state.LinkState.TheVariants.{Up}
use Rattle.ax25_link.specs.Window.{IsWindow}
use Rattle.ftl0_session.specs.Downloads.Needs.{AreComplete}
use Rattle.ftl0_server.specs.Connection.Connected.{Connected, caller_of}
use Rattle.ftl0_server.specs.StepLaws.Steps as server
use Rattle.ftl0_server.specs.Slots.{connected, leaving}
use Rattle.ftl0_client.specs.Laws as client
use Rattle.air_world.specs.Attempts.Attempt.{Attempt, IsAttempt}
use Rattle.air_world.specs.Files.Facts.{HasFacts}
use Rattle.air_world.specs.Attempts.Party.{EachAttempt, OnlyNewestUp, Party, newest}
use Rattle.air_world.specs.Attempts.Party.{newest_side, IsLinkOf}
use Rattle.air_world.specs.Files.SoundStore.{IsSoundStore}
use Rattle.air_world.specs.Files.Tasks.{AreTasks, IsWork, StandsBy}
use Rattle.air_world.specs.Attempts.Said.{Grants}
use Rattle.air_world.specs.Attempts.Sides.{ServerSide}
use Rattle.air_world.specs.Files.Uploads.{IsGoodFile}
use Rattle.air_world.specs.World.{PartyAt, World}

-- The stations: at most eight clients, all calls are calls and no two alike, and each client's server and window are
-- the world's.
pub record AreStationsOf (world : World) : Type 0 where
  pub server : IsCall world.server.me
  pub window : IsWindow world.server.window
  pub most : length world.parties ≤ 8
  pub are_calls : AllByRecursion (λ party. IsCall party.client.me) world.parties
  pub distinct : (c other : ℕ) (party that : Party) → PartyAt world c party → PartyAt world other that
      → party.client.me ≡ that.client.me → c ≡ other
  pub servers : AllByRecursion (λ party. party.client.server ≡ world.server.me) world.parties
  pub windows : AllByRecursion (λ party. party.client.window ≡ world.server.window) world.parties

-- this connection is at the place of the server
abbrev pub IsSeated : World → ℕ → Connected → Type 0
IsSeated world place c = slice_get world.server.slots place ≡ Some (connected c)

-- the connection is that of the session of its caller's newest attempt that a session answered, which is up
pub record IsSessionOf (world : World) (it : Connected) : Type 0 where
  pub c : ℕ
  pub party : Party
  pub is_party : PartyAt world c party
  pub caller_is : caller_of it ≡ party.client.me
  pub side : ServerSide
  pub is_newest : newest_side party.attempts ≡ Some side
  pub connected_is : side.connected ≡ it
  pub is_up : side.is_up ≡ true

-- this is the session of the attempt at this place of the client's
pub record IsSideAt (party : Party) (place : ℕ) (side : ServerSide) : Type 0 where
  pub attempt : Attempt
  pub is_attempt : slice_get party.attempts place ≡ Some attempt
  pub is_side : attempt.server ≡ Some side

-- The server's eight places and the sessions of attempts are the same: each connection is that of a caller's newest
-- session, with its link up, and each session that is up is at a place; at most the newest one of a client is. No
-- caller has two connections, and none is leaving.
pub record ArePlaces (world : World) : Type 0 where
  pub eight : length world.server.slots ≡ 8
  pub sessions : (place : ℕ) (it : Connected) → IsSeated world place it → IsSessionOf world it
  pub ups : (place : ℕ) (it : Connected) → IsSeated world place it → it.end.state ≡ Up
  pub seated : (c at : ℕ) (party : Party) (side : ServerSide) → PartyAt world c party → IsSideAt party at side
      → side.is_up ≡ true → (place : ℕ) × IsSeated world place side.connected
  pub newest_up : AllByRecursion (λ party. OnlyNewestUp party.attempts) world.parties
  pub distinct : (place other : ℕ) (it that : Connected) → IsSeated world place it → IsSeated world other that
      → caller_of it ≡ caller_of that → place ≡ other
  pub none_leaving : (place : ℕ) (it : Connected) → slice_get world.server.slots place ≡ Some (leaving it) → ⊥

-- a session of this attempt of this client gave the number to a new upload
pub record GrantedAt (world : World) (c at number : ℕ) : Type 0 where
  pub party : Party
  pub is_party : PartyAt world c party
  pub side : ServerSide
  pub is_side : IsSideAt party at side
  pub file_length : ℕ
  pub grants : Grants side number file_length

-- no number was given twice
abbrev pub AreGrantedOnce : World → Type 0
AreGrantedOnce world =
    (c at other that number : ℕ) → GrantedAt world c at number → GrantedAt world other that number
    → (c ≡ other) × (at ≡ that)

-- One client: each of its attempts is so on its own, and what is between them, its notes and the store.
pub record IsParty (world : World) (c : ℕ) (party : Party) : Type 0 where
  pub attempts : EachAttempt party (IsAttempt party.client.me party.client.server)
  pub windows : EachAttempt party (λ a. a.window ≡ party.client.window)
  pub works : EachAttempt party (λ a. IsWork world.files party a.client.asked)
  pub link : IsLinkOf (newest party) party.client.attempt
  pub may_step : client.MayStep party.client
  pub tasks : AreTasks world.files c party
  pub job : StandsBy party (newest party)
  pub facts : HasFacts world.server.store world.files party

-- The world is sound.
pub record Sound (world : World) : Type 0 where
  pub stations : AreStationsOf world
  pub store : IsSoundStore world.server.store
  pub may_step : server.MayStep world.server
  pub places : ArePlaces world
  pub lists : AreComplete world.server.store world.server.lists
  pub files : AllByRecursion (λ asked. IsGoodFile asked.file) world.files
  pub parties : (c : ℕ) (party : Party) → PartyAt world c party → IsParty world c party
  pub granted : AreGrantedOnce world
