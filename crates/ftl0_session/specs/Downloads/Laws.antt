-- Laws of downloads, directories and selections.
use Rattle.std.specs.Prelude.{◌≡◌, ◌≢◌, ℕ, ◌≤◌, List, [], ◌∷◌, ◌++◌, length, map, drop, flat_map, All, true, false}
use Rattle.std.specs.Prelude.{None, Some}
use Rattle.px_base.specs.CallSign.{CallSign}
use Rattle.ftl0_packets.specs.Layout.{PacketValue, data_end, data_part, download_cmd}
use Rattle.ftl0_session.specs.Lists.Lists.{CallerList}
use Rattle.file_store.specs.Headers.{IsHeaderOf, header_octets}
use Rattle.file_store.specs.EntriesKept.{KeepsComplete}
use Rattle.file_store.specs.Store.{Store}
use Rattle.ftl0_session.specs.Downloads.Needs.{AreComplete, AreFiles, IsDueIn}
use Rattle.ftl0_session.specs.Downloads.Sending.{is_due, next_due, octets_due, state_at_end}
use Rattle.ftl0_session.specs.Downloads.Table.{DownloadState, download_row, file_of, listing, long_due, octets_in}
use Rattle.ftl0_session.specs.Downloads.Table.{ready, sending, short_due, short_octets, waiting}

-- While the store keeps its complete files, what is due in a state stays due, octet by octet.
abbrev pub DueStaysLaw : Type 0
DueStaysLaw =
    (before now : Store) (state : DownloadState) → KeepsComplete before now → IsDueIn before state
    → IsDueIn now state × (octets_due now state ≡ octets_due before state)

-- So the files of the lists stay complete.
abbrev pub ListsStayLaw : Type 0
ListsStayLaw =
    (before now : Store) (lists : List CallerList) → KeepsComplete before now → AreComplete before lists
    → AreComplete now lists

-- These packets are sent from the state on, one after another, if no read fails, up to this state, in which nothing is
-- due.
abbrev pub Sends : Store → DownloadState → List PacketValue → DownloadState → Type 0
Sends store state [] now = (now ≡ state) × (next_due store state false ≡ None)
Sends store state (packet ∷ packets) now =
    (next : DownloadState) × (next_due store state false ≡ Some (record { packet = packet; state = next }))
    × Sends store next packets now

-- DATA with these octets, one after another, and then DATA_END are sent from the state on, up to this state.
pub record SendsAll (store : Store) (state : DownloadState) (octets : List ℕ) (now : DownloadState) : Type 0 where
  pub pieces : List (List ℕ)
  pub sends : Sends store state (map data_part pieces ++ data_end ∷ []) now
  pub all : flat_map (λ piece. piece) pieces ≡ octets

-- From a state in which anything is due exactly the octets that are due are sent.
abbrev pub SentLaw : Type 0
SentLaw =
    (store : Store) (state : DownloadState) → is_due state ≡ true → IsDueIn store state
    → SendsAll store state (octets_due store state) (state_at_end state)

-- The command has this state's row, and in it exactly these octets are sent.
pub record IsSent (caller : CallSign) (store : Store) (lists : List CallerList) (number offset : ℕ) (file : List ℕ) :
    Type 0 where
  pub row :
      download_row caller store lists ready (download_cmd number offset 0) false
      ≡ Some (record { state = sending number offset (length file); lists = lists; replies = [] })
  pub sent : SendsAll store (sending number offset (length file)) (drop offset file) waiting

-- A complete file that is asked for from an offset on, up to its length, is sent exactly from there to its end.
abbrev pub DownloadedLaw : Type 0
DownloadedLaw =
    (caller : CallSign) (store : Store) (lists : List CallerList) (number offset : ℕ) (file : List ℕ) → number ≢ 0
    → file_of store number ≡ Some file → offset ≤ length file → IsSent caller store lists number offset file

-- When short forms are listed, exactly these are sent, one after another.
abbrev pub ShortListedLaw : Type 0
ShortListedLaw =
    (store : Store) (numbers : List ℕ)
    → SendsAll store (listing (short_due store numbers))
    (flat_map (λ number. short_octets (octets_in store number)) numbers) ready

-- the files of these numbers are complete, and each begins with its header, as the store's `header` says it
pub record BeginWithHeaders (store : Store) (numbers : List ℕ) : Type 0 where
  pub complete : AreFiles store numbers
  pub headers : All (λ number. IsHeaderOf (octets_in store number) (header_octets (octets_in store number))) numbers

-- When the headers of files are listed, exactly these are sent, one after another.
abbrev pub LongListedLaw : Type 0
LongListedLaw =
    (store : Store) (numbers : List ℕ) → BeginWithHeaders store numbers
    → SendsAll store (listing (long_due store numbers))
    (flat_map (λ number. header_octets (octets_in store number)) numbers) ready
