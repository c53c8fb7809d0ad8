-- A server as contracts see it, and which of the definitions' servers it stands for.
use Rattle.std.specs.Prelude.{◌≡◌, ℕ, ◌+◌, List, [], ◌∷◌, Bool, true, false, not, ◌||◌, Option, ⊤}
use Rattle.std.specs.List.{count_by, list_any}
use Rattle.px_base.specs.CallSign.{CallSign}
use Rattle.ax25_link.specs.Kept.{StandsFor, count_of, is_pending, is_there, most_pending}
use Rattle.ax25_link.specs.Window.{Window, window_of}
use Rattle.ftl0_session.specs.Uploads.Session.{is_same_call}
use Rattle.ftl0_session.specs.Lists.Lists.{CallerList}
use Rattle.file_store.specs.State.{StoreState}
use Rattle.file_store.specs.Store.{Store}
use Rattle.packet_link.specs.PacketLink.{idle_link}
use Rattle.ftl0_session.specs.SessionState.{caller_of, state_in}
use Rattle.ftl0_server.specs.Connection.Connected.{Connected}
use Rattle.ftl0_server.specs.Connection.ConnectionState.{ConnectionState}
use Rattle.ftl0_server.specs.declared.place.Place.{Place}
use Rattle.ftl0_server.specs.declared.place.Place.TheVariants.{Moving, Talking, Empty}
use Rattle.ftl0_server.specs.Server.{Refused, Server}
use Rattle.ftl0_server.specs.Slots.{Slot, connected, free, leaving}

-- its call, the window k of its links, its places, the DM that is to be sent, its store, and the lists of all callers
pub record ServerState : Type 0 where
  pub me : CallSign
  pub k : ℕ
  pub places : List Place
  pub stray : Option Refused
  pub store : StoreState
  pub lists : List CallerList

-- a place before its first session
abbrev pub new_place : CallSign → ℕ → Place
new_place me k = Empty (idle_link (window_of k) me)

-- the places of a server that has just started
abbrev pub new_places : CallSign → ℕ → List Place
new_places me k =
    let place : Place = new_place me k in
    place ∷ place ∷ place ∷ place ∷ place ∷ place ∷ place ∷ place ∷ []

-- the place's link is the one of that place, as far as frames go
abbrev pub SendsAs : Window → Place → Slot → Type 0
SendsAs w Moving slot = ⊥
SendsAs w (Talking connection) free = ⊥
SendsAs w (Talking connection) (connected c) = StandsFor w connection.link c.end
SendsAs w (Talking connection) (leaving c) = ⊥
SendsAs w (Empty link) free = is_pending link.link ≡ false
SendsAs w (Empty link) (connected c) = ⊥
SendsAs w (Empty link) (leaving c) = StandsFor w link.link c.end

-- how far the session of a connection is, over this store
pub record TalksAs (store : StoreState) (connection : ConnectionState) (c : Connected) : Type 0 where
  pub rest : connection.octets ≡ c.rest
  pub state : state_in store connection.session ≡ c.state

-- the same of a place, if it has a session
abbrev pub SaysAs : StoreState → Place → Slot → Type 0
SaysAs store Moving slot = ⊤
SaysAs store (Talking connection) free = ⊤
SaysAs store (Talking connection) (connected c) = TalksAs store connection c
SaysAs store (Talking connection) (leaving c) = ⊤
SaysAs store (Empty link) slot = ⊤

-- this is true of each place and the slot at it, and there are as many of the one as of the other
abbrev pub AllPlaces : (Place → Slot → Type 0) → List Place → List Slot → Type 0
AllPlaces P [] [] = ⊤
AllPlaces P [] (slot ∷ slots) = ⊥
AllPlaces P (place ∷ places) [] = ⊥
AllPlaces P (place ∷ places) (slot ∷ slots) = P place slot × AllPlaces P places slots

-- The server sends what that one sends.
pub record SendsFor (self : ServerState) (server : Server) : Type 0 where
  pub me : self.me ≡ server.me
  pub window : server.window ≡ window_of self.k
  pub stray : self.stray ≡ server.stray
  pub links : AllPlaces (SendsAs server.window) self.places server.slots

-- The server stands for that one, over this store of files: it may stand for many, since its links keep no history.
pub record IsServer (files : Store) (self : ServerState) (server : Server) : Type 0 where
  pub sends : SendsFor self server
  pub says : AllPlaces (SaysAs self.store) self.places server.slots
  pub store : files ≡ server.store
  pub lists : self.lists ≡ server.lists

-- a frame is to be sent
abbrev pub place_pending : Place → Bool
place_pending Moving = false
place_pending (Talking connection) = is_pending connection.link
place_pending (Empty link) = is_pending link.link

abbrev pub any_pending : List Place → Bool
any_pending places = list_any place_pending places

abbrev pub server_pending : ServerState → Bool
server_pending self = is_there self.stray || any_pending self.places

-- no more frames than this are handed out one after another
abbrev pub place_most : Place → ℕ
place_most Moving = 0
place_most (Talking connection) = most_pending connection.link
place_most (Empty link) = most_pending link.link

abbrev pub places_most : List Place → ℕ
places_most [] = 0
places_most (place ∷ places) = place_most place + places_most places

abbrev pub server_most : ServerState → ℕ
server_most self = count_of self.stray + places_most self.places

-- the place has no session
abbrev pub is_empty_place : Place → Bool
is_empty_place Moving = false
is_empty_place (Talking connection) = false
is_empty_place (Empty link) = true

-- the place has a session of this caller
abbrev pub has_caller : CallSign → Place → Bool
has_caller caller Moving = false
has_caller caller (Talking connection) = is_same_call (caller_of connection.session) caller
has_caller caller (Empty link) = false

-- how many sessions are up
abbrev pub sessions_in : List Place → ℕ
sessions_in places = count_by (λ place. not (is_empty_place place)) places
