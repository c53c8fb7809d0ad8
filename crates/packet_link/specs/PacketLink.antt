-- A link that carries packets as contracts see it, and what its calls do.
use Rattle.std.specs.Prelude.{◌≡◌, ℕ, ◌<◌, List, [], ◌∷◌, ◌++◌, length, Bool, false, true, IsTrue}
use Rattle.px_base.specs.Octets.{IsOctets}
use Rattle.px_base.specs.CallSign.{CallSign}
use Rattle.ax25_link.specs.Ends.{LinkEnd, idle_end}
use Rattle.ax25_link.specs.Kept.{GivesNext, Kept, SameStations, StandsFor, is_pending, kept_of, most_pending}
use Rattle.ax25_link.specs.Window.{Window}
use Rattle.ax25_link.specs.declared.state.Heard.{Heard}
use Rattle.ax25_link.specs.declared.state.Heard.TheVariants.{Closed}
use Rattle.ax25_link.specs.declared.state.Why.{Why}
use Rattle.ftl0_packets.specs.Layout.{Item}
use Rattle.ftl0_packets.specs.Reading.{is_whole, packets_of, read_item, rest_of, under_way}

-- the link, and what its reader has: the octets of the packet under way, or of the whole packet that came last
pub record PacketLinkState : Type 0 where
  pub link : Kept
  pub reader : List ℕ

-- an end before its first link
abbrev pub idle_link : Window → CallSign → PacketLinkState
idle_link w me = record { link = kept_of w (idle_end me); reader = [] }

-- the octets that were accepted and of which no packet was taken yet
abbrev pub octets_in : PacketLinkState → List ℕ
octets_in it = under_way it.reader

-- The link stands for some end.
pub record StandsForSome (link : Kept) : Type 0 where
  pub w : Window
  pub end : LinkEnd
  pub stands : StandsFor w link end

-- No packet is whole of these octets: they wait for the end of the one under way.
pub record IsWaiting (octets : List ℕ) : Type 0 where
  pub none : packets_of octets ≡ []
  pub left : rest_of octets ≡ octets
  pub are_octets : IsOctets octets

-- the link isn't down by what was reported
abbrev pub IsOpen : Heard → Type 0
IsOpen told = (reason : Why) → told ≡ Closed reason → ⊥

-- its stations stay, and what its reader has
pub record KeepsReader (old new : PacketLinkState) : Type 0 where
  pub stations : SameStations old.link new.link
  pub reader : new.reader ≡ old.reader

-- What has a link gives out a frame exactly when one is pending: the octets of the frame that is sent next, and fewer
-- are left; else nothing changes. The state stays.
pub record GivesFrame {S : Type 0} (link : S → Kept) (old new : S) (before after : List ℕ) (answer : Bool) : Type 0
  where
    pub pending : answer ≡ is_pending (link old)
    pub none : answer ≡ false → (new ≡ old) × (after ≡ before)
    pub fewer : answer ≡ true → most_pending (link new) < most_pending (link old)
    pub next : GivesNext (link old) (link new) before after answer
    pub state : (link new).state ≡ (link old).state

-- These packets are at the beginning of the octets before, and the octets after follow them: the packets and the rest
-- of those before are these packets and those of the octets after, and their rest.
pub record HasFront (before after : List ℕ) (items : List Item) : Type 0 where
  pub packets : packets_of before ≡ items ++ packets_of after
  pub rest : rest_of before ≡ rest_of after

-- Of these octets, next in the stream, those up to the end of a packet were taken, and the others are left.
pub record FindsPacket (old new : PacketLinkState) (octets left : List ℕ) : Type 0 where
  pub whole : IsTrue (is_whole new.reader)
  pub front : HasFront (octets_in old ++ octets) (octets_in new ++ left) (read_item new.reader ∷ [])
  pub fewer : length left < length octets

-- All of these octets were taken, and no packet is whole.
pub record FindsNone (old new : PacketLinkState) (octets : List ℕ) : Type 0 where
  pub none : packets_of (octets_in old ++ octets) ≡ []
  pub rest : rest_of (octets_in old ++ octets) ≡ octets_in new
