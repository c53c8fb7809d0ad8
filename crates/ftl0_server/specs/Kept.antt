-- What each server keeps.
use Rattle.std.specs.Prelude.{◌≡◌, ◌≢◌, ℕ, List, All, slice_get, Option, None, Some, false, ⊤}
use Rattle.px_base.specs.CallSign.{CallSign}
use Rattle.ax25_link.specs.Window.{IsGoodK}
use Rattle.ax25_link.specs.Kept.{Kept}
use Rattle.ax25_link.specs.declared.state.LinkState.TheVariants.{Up, Down}
use Rattle.file_store.specs.State.{StoreState, store_in}
use Rattle.ftl0_server.specs.Connection.ConnectionState.{ConnectionState}
use Rattle.ftl0_session.specs.Uploads.SessionState.{IsHeld, NoOtherOut, number_of}
use Rattle.ftl0_session.specs.Downloads.Needs.{AreComplete, IsDueIn}
use Rattle.ftl0_session.specs.SessionState.{caller_of}
use Rattle.ftl0_server.specs.declared.place.Place.{Place}
use Rattle.ftl0_server.specs.declared.place.Place.TheVariants.{Moving, Talking, Empty}
use Rattle.ftl0_server.specs.declared.server.Server.TheInside.{Inside}
use Rattle.ftl0_server.specs.ServerState.{ServerState}

-- this connection is at this place
abbrev pub IsAt : List Place → ℕ → ConnectionState → Type 0
IsAt places place connection = slice_get places place ≡ Some (Talking connection)

-- The connection is this station's, with this window, its link is up, and the store holds its session's upload and the
-- complete files of which it sends.
pub record IsSeated (me : CallSign) (k : ℕ) (store : StoreState) (connection : ConnectionState) : Type 0 where
  pub me_is : connection.link.me ≡ me
  pub peer_is : connection.link.peer ≡ caller_of connection.session
  pub answers : connection.link.called ≡ false
  pub k_is : connection.link.k ≡ k
  pub up : connection.link.state ≡ Up
  pub held : IsHeld store connection.session.uploads
  pub due : IsDueIn (store_in store) connection.session.downloads

-- no caller has two connections
abbrev pub AreDistinct : List Place → Type 0
AreDistinct places =
    (one other : ℕ) (first second : ConnectionState) → IsAt places one first → IsAt places other second
    → caller_of first.session ≡ caller_of second.session → one ≡ other

-- this is the number of the upload of this caller's session; none, if it has none or isn't connected
abbrev pub IsUploadOf : List Place → CallSign → Option ℕ → Type 0
IsUploadOf places caller number =
    ((place : ℕ) (connection : ConnectionState) → IsAt places place connection
    → caller_of connection.session ≡ caller → number ≡ number_of connection.session.uploads.phase)
    × (((place : ℕ) (connection : ConnectionState) → IsAt places place connection
    → caller_of connection.session ≢ caller) → number ≡ None)

-- a link without a session is this station's, with this window, and down, unless the store has failed
pub record IsEmpty (me : CallSign) (k : ℕ) (store : StoreState) (link : Kept) : Type 0 where
  pub me_is : link.me ≡ me
  pub k_is : link.k ≡ k
  pub down : store.journal.failed ≡ false → link.state ≡ Down

-- so is the link of a place without a session; and no place's link is under way
abbrev pub HasLink : CallSign → ℕ → StoreState → Place → Type 0
HasLink me k store Moving = ⊥
HasLink me k store (Talking connection) = ⊤
HasLink me k store (Empty link) = IsEmpty me k store link.link

-- Each connection is seated, no caller has two, and of no caller is an upload out except that of its session. Each
-- place has its link, and unless the store has failed one without a session may begin one.
pub record IsSettled (me : CallSign) (k : ℕ) (store : StoreState) (places : List Place) : Type 0 where
  pub good : IsGoodK k
  pub seated :
      (place : ℕ) (connection : ConnectionState) → IsAt places place connection → IsSeated me k store connection
  pub distinct : AreDistinct places
  pub only : (caller : CallSign) (number : Option ℕ) → IsUploadOf places caller number → NoOtherOut store caller number
  pub links : All (HasLink me k store) places

-- some station's places are so, with some window
abbrev pub IsWorking : StoreState → List Place → Type 0
IsWorking store places = (me : CallSign) × (k : ℕ) × IsSettled me k store places

-- The places are settled, and the lists' numbers are those of complete files.
pub record IsKept (a : Inside) : Type 0 where
  pub settled : IsSettled a.me a.k a.store a.places
  pub complete : AreComplete (store_in a.store) a.lists

-- a server's fields as contracts see them
abbrev pub server_state : Inside → ServerState
server_state a =
    record {
      me = a.me;
      k = a.k;
      places = a.places;
      stray = a.stray;
      store = a.store;
      lists = a.lists;
    }
