-- The world: a server, its clients, and all that they sent to one another.
use Rattle.std.specs.Prelude.{◌≡◌, ℕ, suc, ◌%◌, ◌^◌, List, [], ◌∷◌, map, slice_get, slice_set, Bool, false, Some}
use Rattle.px_base.specs.CallSign.{CallSign}
use Rattle.ax25_link.specs.Window.{window_of}
use Rattle.file_store.specs.Store.{empty_store}
use Rattle.ftl0_server.specs.Server.{Server, new_server}
use Rattle.air_world.specs.Attempts.Party.{Asked, Party, first_party}
use Rattle.air_world.specs.Schedule.{Schedule}

-- The server; its clients, each at its place; how many events there were; the uploads that were asked, in order; and
-- whether the server's next event is to be cut.
pub record World : Type 0 where
  pub server : Server
  pub parties : List Party
  pub events : ℕ
  pub files : List Asked
  pub is_cut : Bool

-- the server's call, PACSAT
abbrev pub pacsat : CallSign
pacsat = record { chars = 80 ∷ 65 ∷ 67 ∷ 83 ∷ 65 ∷ 84 ∷ []; ssid = 0 }

-- how many blocks the server's store may take
abbrev pub store_blocks : ℕ
store_blocks = 65536

-- the world before a schedule's events: an empty store, and clients without notes
abbrev pub first_world : Schedule → World
first_world schedule =
    record {
      server = new_server pacsat (window_of schedule.size) (empty_store store_blocks);
      parties = map (first_party pacsat (window_of schedule.size)) schedule.calls;
      events = 0;
      files = [];
      is_cut = false;
    }

-- the client at this place
abbrev pub PartyAt : World → ℕ → Party → Type 0
PartyAt world c party = slice_get world.parties c ≡ Some party

-- the world with this client at the place, and no other one changed
abbrev pub with_party : World → ℕ → Party → World
with_party world c party = record world { parties = slice_set world.parties c party }

-- one event more came
abbrev pub counted : World → World
counted world = record world { events = suc world.events }

-- the moment of the next event: its number, from 1 on, as the clock's 32 bits give it
abbrev pub next_moment : World → ℕ
next_moment world = suc world.events % 2 ^ 32
