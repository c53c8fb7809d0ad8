-- One attempt of a client: one SABM that it sent, and all that follows until it sends the next (AX.25 2.0, 2.4.3.1).
use Rattle.std.specs.Prelude.{◌≡◌, ◌⊎◌, ◌<◌, List, [], ◌∷◌, Bool, true, false, Option, None, Some, IfSome}
use Rattle.std.specs.List.{AllByRecursion}
use Rattle.px_base.specs.CallSign.{CallSign}
use Rattle.ax25_frames.specs.declared.control.Control.TheVariants as control
use Rattle.ax25_frames.specs.FrameText.{FrameValue}
use Rattle.ax25_link.specs.Air.{Transmission, control_of}
use Rattle.ax25_link.specs.declared.state.LinkState.TheVariants.{Calling, Down}
use Rattle.ax25_link.specs.Ends.{LinkEnd}
use Rattle.ax25_link.specs.Laws.{IsUnused}
use Rattle.ax25_link.specs.Linked.{AreLinked, Station, ack_number, send_number}
use Rattle.ax25_link.specs.Rows.{is_call}
use Rattle.ax25_link.specs.Sending.{IsQuiet}
use Rattle.ax25_link.specs.Window.{IsWindow, Window}
use Rattle.air_world.specs.Attempts.Sides.{ClientSide, IsJob, IsSession, ServerSide}

-- The window of its link; the client's side, and the server's, once a session answered the SABM; and what each
-- station sent in it. A side that is gone is as it was last.
pub record Attempt : Type 0 where
  pub window : Window
  pub client : ClientSide
  pub server : Option ServerSide
  pub by_client : List Transmission
  pub by_server : List Transmission

-- the two stations: an end, and all that it sent in the attempt
abbrev pub client_station : Attempt → Station
client_station a = record { end = a.client.attempted.end; transmissions = a.by_client }

abbrev pub server_station : Attempt → ServerSide → Station
server_station a side = record { end = side.connected.end; transmissions = a.by_server }

-- the end is of this station and its peer, and has called or not
pub record IsEndOf (called : Bool) (me peer : CallSign) (end : LinkEnd) : Type 0 where
  pub called_is : end.called ≡ called
  pub me_is : end.me ≡ me
  pub peer_is : end.peer ≡ peer

-- the frame is from this station to that one, without repeaters, and its sequence numbers are below the modulus
pub record IsFromTo (w : Window) (me peer : CallSign) (frame : FrameValue) : Type 0 where
  pub src_is : frame.src ≡ me
  pub dest_is : frame.dest ≡ peer
  pub via : frame.via ≡ 0
  pub sends : send_number frame.kind.control < w.modulus
  pub acks : ack_number frame.kind.control < w.modulus

abbrev pub AreFromTo : Window → CallSign → CallSign → List Transmission → Type 0
AreFromTo w me peer list = AllByRecursion (λ t. IsFromTo w me peer t.frame) list

-- the ends are of the client, which called, and of the server, and all frames go from one to the other
pub record AreStations (me server : CallSign) (a : Attempt) : Type 0 where
  pub client : IsEndOf true me server a.client.attempted.end
  pub serves : IfSome a.server (λ side. IsEndOf false server me side.connected.end)
  pub from_client : AreFromTo a.window me server a.by_client
  pub from_server : AreFromTo a.window server me a.by_server

-- the first transmission is a SABM, and no other one is
abbrev pub IsOneCall : List Transmission → Type 0
IsOneCall [] = ⊥
IsOneCall (first ∷ others) =
    (is_call (control_of first) ≡ true) × AllByRecursion (λ t. is_call (control_of t) ≡ false) others

-- the transmission is a DM, a response
pub record IsRefusal (t : Transmission) : Type 0 where
  pub refuses : control_of t ≡ control.Dm
  pub responds : t.frame.command ≡ false

-- While no session has answered the SABM nothing was pushed, sent, accepted or acknowledged, the client's end calls
-- or is down, it has sent nothing but its SABM, and the server nothing but DM.
pub record IsUnanswered (a : Attempt) : Type 0 where
  pub unused : IsUnused a.client.attempted.end
  pub state : (a.client.attempted.end.state ≡ Calling) ⊎ (a.client.attempted.end.state ≡ Down)
  pub alone : (call : Transmission) × (a.by_client ≡ call ∷ [])
  pub refused : AllByRecursion IsRefusal a.by_server
  pub unserved : a.client.entries ≡ []

-- Once one has, the SABM was delivered and the two ends are linked. Neither has anything to send.
pub record IsAnswered (a : Attempt) (side : ServerSide) : Type 0 where
  pub linked : AreLinked a.window (client_station a) (server_station a side)
  pub quiet : IsQuiet a.window side.connected.end
  pub session : IsSession side

abbrev pub IsAnsweredBy : Attempt → Option ServerSide → Type 0
IsAnsweredBy a None = IsUnanswered a
IsAnsweredBy a (Some side) = IsAnswered a side

-- What is true of each attempt of the client at this call with this server, also of older ones: an end that calls was
-- never used.
pub record IsAttempt (me server : CallSign) (a : Attempt) : Type 0 where
  pub window : IsWindow a.window
  pub stations : AreStations me server a
  pub call : IsOneCall a.by_client
  pub calling : a.client.attempted.end.state ≡ Calling → IsUnused a.client.attempted.end
  pub quiet : IsQuiet a.window a.client.attempted.end
  pub job : IsJob a.client
  pub answered : IsAnsweredBy a a.server
