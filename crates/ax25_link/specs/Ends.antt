-- An end of a link, with whole numbers and lists that never wrap (AX.25 2.0, 2.3.2.4, 2.4).
use Rattle.std.specs.Prelude.{ℕ, ◌+◌, ◌-◌, ◌≤◌, ◌≡◌, List, [], ◌++◌, length, drop, Bool, true, false, Option, None, Some}
use Rattle.std.specs.List.{concat}
use Rattle.px_base.specs.CallSign.{CallSign}
use Rattle.ax25_link.specs.declared.state.LinkState.{LinkState}
use Rattle.ax25_link.specs.declared.state.LinkState.TheVariants.{Calling, Up, Down}
use Rattle.ax25_link.specs.Window.{Window}

-- what is sent before all other frames: the reply to a frame, or what the timer sends (2.4.4, 2.4.7.1)
pub data Reply : Type 0 where
  -- RR, REJ, UA and DM, responses with this F bit
  ready : Bool → Reply
  reject : Bool → Reply
  accept : Bool → Reply
  refuse : Bool → Reply
  -- FRMR with this information, a response with this F bit (2.3.4.3.3)
  refuse_frame : List ℕ → Bool → Reply
  -- SABM, DISC and RR, commands with P = 1
  call : Reply
  disconnect : Reply
  enquire : Reply
  -- the oldest outstanding I frame, with P = 1
  oldest : Reply

-- what an end that hangs up sends after all other frames: DISC with P = 1 (2.4.3.3), or DM with F = 0 (2.3.4.3.5)
pub data Farewell : Type 0 where
  goodbye : Farewell
  gone : Farewell

-- An end of a link. A piece is the information of one I frame. The send state variable V(S) is the number of pieces in
-- `sent`, the acknowledge variable V(A) is `acked`, the receive state variable V(R) is the number of pieces in `taken`,
-- each modulo m (2.3.2.4).
pub record LinkEnd : Type 0 where
  -- whether this end called the other one
  pub called : Bool
  pub me : CallSign
  pub peer : CallSign
  pub state : LinkState
  -- all octets that were pushed since the link is up
  pub pushed : List ℕ
  -- those of them that weren't given to an I frame yet, and weren't dropped
  pub queued : List ℕ
  -- the pieces that were given to I frames, the first one first
  pub sent : List (List ℕ)
  -- how many pieces were acknowledged
  pub acked : ℕ
  -- the pieces that were accepted from the peer, the first one first
  pub taken : List (List ℕ)
  -- whether the peer said RNR last
  pub busy : Bool
  -- whether a REJ is outstanding
  pub rejecting : Bool
  -- ticks and tries of the timer
  pub count : ℕ
  pub tries : ℕ
  -- what is to be sent first
  pub reply : Option Reply
  -- how many of the pieces that were sent, the last ones, are to be sent again
  pub again : ℕ
  -- what is to be sent last
  pub farewell : Option Farewell

-- how many pieces were given to I frames
abbrev pub high : LinkEnd → ℕ
high end = length end.sent

-- how many pieces were accepted
abbrev pub taken_count : LinkEnd → ℕ
taken_count end = length end.taken

-- how many I frames are outstanding
abbrev pub outstanding : LinkEnd → ℕ
outstanding end = high end - end.acked

-- the octets that are queued or unacknowledged
abbrev pub held : LinkEnd → List ℕ
held end = concat (drop end.acked end.sent) ++ end.queued

-- how many octets may be held
abbrev pub most_held : ℕ
most_held = 4096

-- how many octets can be pushed
abbrev pub free_octets : LinkEnd → ℕ
free_octets end = most_held - length (held end)

-- an end with numbers 0 and nothing in its lists, which is to send this first, if it is to send anything
abbrev pub begun : Bool → CallSign → CallSign → LinkState → Option Reply → LinkEnd
begun called me peer state reply =
    record {
      called = called;
      me = me;
      peer = peer;
      state = state;
      pushed = [];
      queued = [];
      sent = [];
      acked = 0;
      taken = [];
      busy = false;
      rejecting = false;
      count = 0;
      tries = 0;
      reply = reply;
      again = 0;
      farewell = None;
    }

-- the end that calls: a SABM is to be sent (2.4.3.1)
abbrev pub calling_end : CallSign → CallSign → LinkEnd
calling_end me peer = begun true me peer Calling (Some call)

-- the end that answers a SABM with this P bit: a UA is to be sent (2.4.3.1)
abbrev pub answering_end : CallSign → CallSign → Bool → LinkEnd
answering_end me peer poll = begun false me peer Up (Some (accept poll))

-- An end before its first link, with nothing to be sent. It has no peer: its own station is in that place.
abbrev pub idle_end : CallSign → LinkEnd
idle_end me = begun false me me Down None

-- What is true of each end, whatever frames it was given: at most k frames are outstanding, and none is to be sent
-- again that isn't outstanding.
pub record IsEnd (w : Window) (end : LinkEnd) : Type 0 where
  pub acked : end.acked ≤ high end
  pub window : high end ≤ end.acked + w.size
  pub again : end.again ≤ outstanding end
  pub oldest : end.reply ≡ Some oldest → 1 ≤ outstanding end
