-- What a link keeps of its end: not what was pushed, sent and taken, but the numbers modulo m, and the octets that
-- are queued or unacknowledged.
use Rattle.std.specs.Prelude.{◌≡◌, ℕ, ◌+◌, ◌-◌, ◌%◌, ◌<◌, ◌≤◌, List, length, drop, Bool, true, false, not, ◌&&◌, ◌||◌, nat_lt, if◌then◌else◌, Option, None, Some}
use Rattle.px_base.specs.CallSign.{CallSign}
use Rattle.ax25_frames.specs.Kinds.{KindValue, FitsControl}
use Rattle.ax25_frames.specs.FrameText.{FrameValue, FrameText, canonical}
use Rattle.ax25_link.specs.declared.state.LinkState.{LinkState}
use Rattle.ax25_link.specs.declared.state.Heard.{Heard}
use Rattle.ax25_link.specs.Window.{Window, IsGoodK}
use Rattle.ax25_link.specs.Ends.{LinkEnd, Reply, Farewell, IsEnd, oldest, high, taken_count}
use Rattle.ax25_link.specs.Acknowledging.{is_good, meaning_of}
use Rattle.ax25_link.specs.Rows.{Outcome, numbered_row, sending_again, supervisory_row, with_busy}
use Rattle.ax25_link.specs.Timer.{is_up}
use Rattle.ax25_link.specs.Sending.{Sending, is_empty, next_sending}
use Rattle.ax25_link.specs.Queue.{Queue, empty_queue}

pub record Kept : Type 0 where
  pub called : Bool
  pub me : CallSign
  pub peer : CallSign
  -- how many I frames may be outstanding
  pub k : ℕ
  pub state : LinkState
  -- V(A) and V(R)
  pub acked : ℕ
  pub taken : ℕ
  pub queue : Queue
  pub busy : Bool
  pub rejecting : Bool
  pub count : ℕ
  pub tries : ℕ
  pub reply : Option Reply
  pub again : ℕ
  pub farewell : Option Farewell

-- how many I frames are outstanding
abbrev pub outstanding_in : Kept → ℕ
outstanding_in kept = length kept.queue.pieces

-- what is true of each link
pub record IsKept (kept : Kept) : Type 0 where
  pub window : IsGoodK kept.k
  pub acked : kept.acked < 8
  pub taken : kept.taken < 8
  pub outstanding : outstanding_in kept ≤ kept.k
  pub again : kept.again ≤ outstanding_in kept
  pub oldest : kept.reply ≡ Some oldest → 1 ≤ outstanding_in kept
  pub count : kept.count < 60

-- what a link keeps of this end
abbrev pub kept_of : Window → LinkEnd → Kept
kept_of w end =
    record {
      called = end.called;
      me = end.me;
      peer = end.peer;
      k = w.size;
      state = end.state;
      acked = end.acked % w.modulus;
      taken = taken_count end % w.modulus;
      queue = record { pieces = drop end.acked end.sent; unsent = end.queued };
      busy = end.busy;
      rejecting = end.rejecting;
      count = end.count;
      tries = end.tries;
      reply = end.reply;
      again = end.again;
      farewell = end.farewell;
    }

-- the two stations of a link, which of them called, and its window, stay
pub record SameStations (before now : Kept) : Type 0 where
  pub called : now.called ≡ before.called
  pub me : now.me ≡ before.me
  pub peer : now.peer ≡ before.peer
  pub k : now.k ≡ before.k

-- the two stations of a link, which of them called, and its window
pub record HasStations (link : Kept) (calls : Bool) (from to : CallSign) (size : ℕ) : Type 0 where
  pub called : link.called ≡ calls
  pub me : link.me ≡ from
  pub peer : link.peer ≡ to
  pub k : link.k ≡ size

-- with its numbers 0 and nothing queued, and this reply to be sent first
abbrev pub anew : Kept → Reply → Kept
anew kept reply =
    record kept {
      acked = 0;
      taken = 0;
      queue = empty_queue;
      busy = false;
      rejecting = false;
      count = 0;
      tries = 0;
      reply = Some reply;
      again = 0;
      farewell = None;
    }

-- The link stands for this end. It may stand for many, since it keeps no history.
pub record StandsFor (w : Window) (link : Kept) (end : LinkEnd) : Type 0 where
  pub modulus : w.modulus ≡ 8
  pub kept : link ≡ kept_of w end
  pub acked : end.acked ≤ high end

-- whatever end a link stands for, it is one that frames can bring about
abbrev pub Fits : Kept → Type 0
Fits link = (w : Window) (end : LinkEnd) → StandsFor w link end → IsEnd w end

-- Whatever end the link stood for, it stands for that end's step now.
abbrev pub Steps : Kept → Kept → (Window → LinkEnd → LinkEnd) → Type 0
Steps before now step = (w : Window) (end : LinkEnd) → StandsFor w before end → StandsFor w now (step w end)

-- whatever end the link stood for, this is what is reported of it
abbrev pub Tells : {X : Type 0} → Kept → (Window → LinkEnd → X) → X → Type 0
Tells before told answer = (w : Window) (end : LinkEnd) → StandsFor w before end → answer ≡ told w end

-- whatever end the link stood for, these are the octets of this frame
abbrev pub Writes : Kept → (Window → LinkEnd → FrameValue) → List ℕ → Type 0
Writes link frame octets = Tells link (λ w end. canonical (frame w end)) octets

-- whatever end the link stood for, these octets are read as this frame of it
abbrev pub Reads : Kept → (Window → LinkEnd → FrameValue) → List ℕ → Type 0
Reads link frame octets = (w : Window) (end : LinkEnd) → StandsFor w link end → FrameText (frame w end) octets

-- Whatever end the link stood for, it stands for the end of this outcome now, and what is reported is the outcome's.
-- Its stations stay.
pub record Takes (before now : Kept) (row : Window → LinkEnd → Outcome) (answer : Heard) : Type 0 where
  pub after : Steps before now (λ w end. (row w end).after)
  pub heard : Tells before (λ w end. (row w end).heard) answer
  pub stations : SameStations before now

-- what an S frame does while up, by whether it says that the peer is busy, and whether it rejects
abbrev pub any_supervisory_row : Bool → Bool → Window → LinkEnd → FrameValue → ℕ → Outcome
any_supervisory_row is_busy is_reject w end frame nr =
    numbered_row w end frame nr
    (λ e. supervisory_row (with_busy is_busy (if is_reject && is_good (meaning_of w end nr) then sending_again e else e)) frame)

-- a frame from this station to the peer, without repeaters
abbrev pub frame_between : Kept → KindValue → Bool → Bool → FrameValue
frame_between link kind poll command =
    record { dest = link.peer; src = link.me; via = 0; kind = kind; poll = poll; command = command }

-- whether a value is there
abbrev pub is_there : {X : Type 0} → Option X → Bool
is_there None = false
is_there (Some x) = true

-- whether a new I frame is to be sent
abbrev pub has_new_in : Kept → Bool
has_new_in link =
    is_up link.state && nat_lt (outstanding_in link) link.k && not link.busy && not (is_empty link.queue.unsent)

-- whether a frame is to be sent
abbrev pub is_pending : Kept → Bool
is_pending link = is_there link.reply || nat_lt 0 link.again || has_new_in link || is_there link.farewell

-- 1 if a value is there
abbrev pub count_of : {X : Type 0} → Option X → ℕ
count_of None = 0
count_of (Some x) = 1

-- no more frames than this are handed out one after another
abbrev pub most_pending : Kept → ℕ
most_pending link = count_of link.reply + link.again + (link.k - outstanding_in link) + count_of link.farewell

-- nothing changed: neither the link nor the octets of the buffer
abbrev pub IsUnchanged : Kept → Kept → List ℕ → List ℕ → Type 0
IsUnchanged before now old new = (now ≡ before) × (new ≡ old)

-- The frame is from the peer to this station, without repeaters, and its sequence numbers are below 8, as those of
-- each frame that is read.
pub record IsFromPeer (link : Kept) (frame : FrameValue) : Type 0 where
  pub dest : frame.dest ≡ link.me
  pub src : frame.src ≡ link.peer
  pub via : frame.via ≡ 0
  pub numbers : FitsControl frame.kind.control

-- What is handed out if this is sent next: nothing, and nothing changes; or the octets of its frame in place of those
-- that the buffer held.
abbrev pub HandsOut : Option Sending → Window → Kept → Kept → List ℕ → List ℕ → Bool → Type 0
HandsOut None w before now old new answer = (answer ≡ false) × IsUnchanged before now old new
HandsOut (Some sending) w before now old new answer =
    (answer ≡ true) × StandsFor w now sending.after × (new ≡ canonical sending.frame) × FrameText sending.frame new

-- the same of whatever end the link stood for
abbrev pub GivesNext : Kept → Kept → List ℕ → List ℕ → Bool → Type 0
GivesNext before now old new answer =
    (w : Window) (end : LinkEnd) → StandsFor w before end → HandsOut (next_sending w end) w before now old new answer
