-- What is true of the two ends of an attempt and of all that they sent, in every lawful run. Between events nothing is
-- to be sent; the definitions hold also in between, while frames are still to be sent.
use Rattle.std.specs.Prelude.{◌≡◌, ℕ, ◌+◌, ◌%◌, ◌<◌, ◌≤◌, List, [], ◌++◌, length, take, slice_get, true, Option, None, Some, if◌then◌else◌, IsTrue}
use Rattle.std.specs.List.{concat}
use Rattle.ax25_frames.specs.declared.control.Control.{Control}
use Rattle.ax25_frames.specs.declared.control.Control.TheVariants.{I, Rr, Rnr, Rej, Sabm, Disc, Dm, Ua, Frmr, Ui}
use Rattle.ax25_link.specs.declared.state.LinkState.TheVariants.{Calling, Up}
use Rattle.ax25_link.specs.Window.{Window}
use Rattle.ax25_link.specs.Ends.{LinkEnd, Reply, IsEnd, high, taken_count}
use Rattle.ax25_link.specs.Rows.{is_oldest, is_call}
use Rattle.ax25_link.specs.Air.{Transmission, IsAt, NoneLater, later_count, control_of, is_information, is_numbered}

-- N(S) of an I frame
abbrev pub send_number : Control → ℕ
send_number (I ns nr) = ns
send_number (Rr nr) = 0
send_number (Rnr nr) = 0
send_number (Rej nr) = 0
send_number Sabm = 0
send_number Disc = 0
send_number Dm = 0
send_number Ua = 0
send_number Frmr = 0
send_number Ui = 0

-- N(R) of an I or S frame
abbrev pub ack_number : Control → ℕ
ack_number (I ns nr) = nr
ack_number (Rr nr) = nr
ack_number (Rnr nr) = nr
ack_number (Rej nr) = nr
ack_number Sabm = 0
ack_number Disc = 0
ack_number Dm = 0
ack_number Ua = 0
ack_number Frmr = 0
ack_number Ui = 0

-- the transmission at this place is an I frame
abbrev pub IsInformationAt : List Transmission → ℕ → Transmission → Type 0
IsInformationAt list place t = IsAt list place t × IsTrue (is_information (control_of t))

-- the transmission at this place is an I or S frame
abbrev pub IsNumberedAt : List Transmission → ℕ → Transmission → Type 0
IsNumberedAt list place t = IsAt list place t × IsTrue (is_numbered (control_of t))

-- The whole numbers of a station's transmissions are given by places: of an I frame the place of its piece among those
-- sent, and of an I or S frame how many pieces its sender had accepted.

-- The whole number of each I frame: N(S) shows it, and the frame carries that piece. The pieces that were sent since
-- are at most k more than the frames that were sent since, and each earlier I frame's number is less than k above.
-- While no I or S frame sent later was delivered, the peer has accepted at most k pieces from this one on.
pub record PiecesFit
    (w : Window) (pieces : List (List ℕ)) (peer_taken : ℕ) (list : List Transmission) (piece : ℕ → ℕ) : Type 0 where
  pub shows :
      (place : ℕ) (t : Transmission) → IsInformationAt list place t → send_number (control_of t) ≡ piece place % w.modulus
  pub carries :
      (place : ℕ) (t : Transmission) → IsInformationAt list place t
      → slice_get pieces (piece place) ≡ Some t.frame.kind.information
  pub sent : (place : ℕ) (t : Transmission) → IsInformationAt list place t → piece place < length pieces
  pub recent :
      (place : ℕ) (t : Transmission) → IsInformationAt list place t
      → length pieces ≤ piece place + w.size + later_count list place
  pub earlier :
      (before place : ℕ) (s t : Transmission) → before < place → IsInformationAt list before s → IsInformationAt list place t
      → piece before < piece place + w.size
  pub accepted :
      (place : ℕ) (t : Transmission) → IsInformationAt list place t → NoneLater list place → peer_taken ≤ piece place + w.size

-- The whole number of each I or S frame: N(R) shows it. It is at most what the sender has accepted, and the frames that
-- were sent since are at least as many as the pieces that were accepted since. No earlier I or S frame's number is
-- above it. While no I or S frame sent later was delivered, the peer takes no more pieces as acknowledged. `owed` is 1
-- while a reply is to be sent, else 0.
pub record ShownFit (w : Window) (taken owed peer_acked : ℕ) (list : List Transmission) (shown : ℕ → ℕ) : Type 0 where
  pub shows : (place : ℕ) (t : Transmission) → IsNumberedAt list place t → ack_number (control_of t) ≡ shown place % w.modulus
  pub reached : (place : ℕ) (t : Transmission) → IsNumberedAt list place t → shown place ≤ taken
  pub recent : (place : ℕ) (t : Transmission) → IsNumberedAt list place t → taken ≤ shown place + later_count list place + owed
  pub earlier :
      (before place : ℕ) (s t : Transmission) → before < place → IsNumberedAt list before s → IsNumberedAt list place t
      → shown before ≤ shown place
  pub acknowledged :
      (place : ℕ) (t : Transmission) → IsNumberedAt list place t → NoneLater list place → peer_acked ≤ shown place

-- 1 while a reply is to be sent that is no I frame
abbrev pub owed_for : Option Reply → ℕ
owed_for None = 0
owed_for (Some reply) = if is_oldest reply then 0 else 1

abbrev pub owed : LinkEnd → ℕ
owed end = owed_for end.reply

-- a station: its end of the link, and all that it sent in the attempt
pub record Station : Type 0 where
  pub end : LinkEnd
  pub transmissions : List Transmission

-- What the sender knows as acknowledged, the peer has accepted; what the peer has accepted, the sender has sent; and
-- that is at most k pieces more than what it knows as acknowledged. Whole numbers fit the sender's transmissions.
pub record NumbersFit (w : Window) (sender peer : Station) : Type 0 where
  pub acked : sender.end.acked ≤ taken_count peer.end
  pub taken : taken_count peer.end ≤ high sender.end
  pub window : high sender.end ≤ sender.end.acked + w.size
  pub pieces : (piece : ℕ → ℕ) × PiecesFit w sender.end.sent (taken_count peer.end) sender.transmissions piece
  pub shown :
      (shown : ℕ → ℕ) × ShownFit w (taken_count sender.end) (owed sender.end) peer.end.acked sender.transmissions shown

-- What the peer has accepted are the first pieces that the sender sent. These pieces, joined, are the first octets that
-- the sender's layer above pushed, and while its end is up the others are queued.
pub record OctetsFit (sender peer : LinkEnd) : Type 0 where
  pub taken : peer.taken ≡ take (taken_count peer) sender.sent
  pub pushed : (rest : List ℕ) × (sender.pushed ≡ concat sender.sent ++ rest) × (sender.state ≡ Up → sender.queued ≡ rest)

-- each SABM among the transmissions was delivered
abbrev pub IsOpened : List Transmission → Type 0
IsOpened list = (place : ℕ) (t : Transmission) → IsAt list place t → IsTrue (is_call (control_of t)) → t.delivered ≡ true

-- while an end is calling, nothing was pushed
abbrev pub IsUnpushed : LinkEnd → Type 0
IsUnpushed end = end.state ≡ Calling → (end.pushed ≡ []) × (end.queued ≡ [])

-- all this of both stations
pub record AreLinked (w : Window) (one other : Station) : Type 0 where
  pub one_end : IsEnd w one.end
  pub other_end : IsEnd w other.end
  pub one_numbers : NumbersFit w one other
  pub other_numbers : NumbersFit w other one
  pub one_octets : OctetsFit one.end other.end
  pub other_octets : OctetsFit other.end one.end
  pub one_calling : IsUnpushed one.end
  pub other_calling : IsUnpushed other.end
  pub one_opened : IsOpened one.transmissions
  pub other_opened : IsOpened other.transmissions
