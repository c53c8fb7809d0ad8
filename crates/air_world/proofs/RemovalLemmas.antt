-- An entry under way that no session receives may be given up: the world stays sound.
use Rattle.std.proofs.Common.{◌≡◌, ℕ, List, [], ◌∷◌, refl, Bool, true, false, Option, None, Some, inl, inr}
use Rattle.std.specs.Prelude.{if◌then◌else◌}
use Rattle.ftl0_session.specs.Downloads.Laws.{DueStaysLaw, ListsStayLaw}
use Rattle.ftl0_session.specs.Downloads.Sending.{due_packet, is_due}
use Rattle.ftl0_session.specs.Uploads.Failures.{read_fails}
use Rattle.ftl0_server.specs.Server.{IsSilent, sends_by}
use Rattle.ftl0_server.specs.StepLaws.Steps as server
use Rattle.air_world.specs.Sound.{GrantedAt}
use Rattle.air_world.proofs.Names.{option_map, Refusal, FollowsLaw, after, drop_entry, Store, State, download_part, in_session, next_due, Server, sends_of_places, PlacesSend, Slot, connected, free, leaving, places_next, Party, drop-keeps, drop-sound, facts-removed, RemovalLaw, without_entry, ArePlaces, AreStationsOf, IsParty, PartyAt, World}

-- whether anything is due depends on the state alone
due-none : (store other : Store) (state : State) (fails : Bool) → next_due store state fails ≡ None
    → next_due other state fails ≡ None
due-none store other state fails none = by (is_due (download_part state)) none
  where
    by : (due : Bool) → option_map in_session
        (if due then Some (due_packet store (download_part state) fails) else None) ≡ None
        → option_map in_session (if due then Some (due_packet other (download_part state) fails) else None) ≡ None
    by true none = absurd (cc)
    by false none = refl

slot-queued : (store other : Store) (slot : Slot) → server.SlotIsQueued store slot → server.SlotIsQueued other slot
slot-queued store other free queued = tt
slot-queued store other (connected c) (inl none) = inl
    (λ failures part. due-none store other c.state (read_fails failures part) (none failures part))
slot-queued store other (connected c) (inr few) = inr few
slot-queued store other (leaving c) queued = tt

are-queued : (store other : Store) (slots : List Slot) → server.AreQueued store slots → server.AreQueued other slots
are-queued store other [] queued = tt
are-queued store other (slot ∷ slots) queued =
    (slot-queued store other slot queued.0, are-queued store other slots queued.1)

-- and so is whether there is anything to send
silent-still : (it : Server) (store : Store) → IsSilent it → IsSilent (record it { store = store })
silent-still it store silent = by it.stray silent
  where
    places : (next : Option PlacesSend) → sends_of_places it next ≡ None
        → sends_of_places (record it { store = store }) next ≡ None
    places None silent = refl
    places (Some sends) silent = absurd (cc)

    by : (stray : Option Refusal) → sends_by it stray ≡ None → sends_by (record it { store = store }) stray ≡ None
    by None silent = places (places_next it.window it.slots) silent
    by (Some refusal) silent = absurd (cc)

stations-without : (world : World) (number : ℕ) → AreStationsOf world → AreStationsOf (without_entry world number)
stations-without world number it = record {
  server = it.server;
  window = it.window;
  most = it.most;
  are_calls = it.are_calls;
  distinct = it.distinct;
  servers = it.servers;
  windows = it.windows;
}

places-without : (world : World) (number : ℕ) → ArePlaces world → ArePlaces (without_entry world number)
places-without world number it = record {
  eight = it.eight;
  sessions = λ place c seated.
      let of = it.sessions place c seated in
      record {
        c = of.c;
        party = of.party;
        is_party = of.is_party;
        caller_is = of.caller_is;
        side = of.side;
        is_newest = of.is_newest;
        connected_is = of.connected_is;
        is_up = of.is_up;
      };
  ups = it.ups;
  seated = it.seated;
  newest_up = it.newest_up;
  distinct = it.distinct;
  none_leaving = it.none_leaving;
}

granted-with : (world : World) (number c at other : ℕ) → GrantedAt (without_entry world number) c at other
    → GrantedAt world c at other
granted-with world number c at other it = record {
  party = it.party;
  is_party = it.is_party;
  side = it.side;
  is_side = it.is_side;
  file_length = it.file_length;
  grants = it.grants;
}

pub removal-law : FollowsLaw → DueStaysLaw → ListsStayLaw → RemovalLaw
removal-law follows due lists world number entry held sound there holds none = record {
  stations = stations-without world number sound.stations;
  store = drop-sound world.server.store number entry held follows sound.store there holds;
  may_step = record {
    silent = silent-still world.server now sound.may_step.silent;
    fits = sound.may_step.fits;
    queued = are-queued world.server.store now world.server.slots sound.may_step.queued;
  };
  places = places-without world number sound.places;
  lists = lists world.server.store now world.server.lists
      (drop-keeps world.server.store number entry held follows sound.store.is_store there holds).complete sound.lists;
  files = sound.files;
  parties = λ c party is. party-without c party is (sound.parties c party is);
  granted = λ c at other that given one two.
      sound.granted c at other that given (granted-with world number c at given one)
      (granted-with world number other that given two);
}
  where
    now : Store
    now = after world.server.store (drop_entry number)

    party-without : (c : ℕ) (party : Party) → PartyAt world c party → IsParty world c party
        → IsParty (without_entry world number) c party
    party-without c party is it = record {
      attempts = it.attempts;
      windows = it.windows;
      works = it.works;
      link = it.link;
      may_step = it.may_step;
      tasks = it.tasks;
      job = it.job;
      facts = facts-removed world.server.store world.files party number entry held follows due sound.store there holds
          (none c party is) it.facts;
    }
