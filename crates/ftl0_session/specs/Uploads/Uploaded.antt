-- The upload of a whole file in a session: the packets that bring it, and what is replied and kept (FTL0 1990,
-- uploading).
use Rattle.std.specs.Prelude.{◌≡◌, ℕ, List, [], ◌∷◌, ◌++◌, length, true, None, Some, Ok}
use Rattle.px_base.specs.CallSign.{CallSign, IsCall}
use Rattle.px_base.specs.Octets.{IsOctets}
use Rattle.ftl0_packets.specs.Layout.{data_end, data_part, ul_ack_resp, ul_go_resp, upload_cmd}
use Rattle.pfh_items.specs.Faults.{fault_code}
use Rattle.pfh_items.specs.Stamp.{stamped}
use Rattle.pfh_writer.specs.KeptFile.{KeepsClient}
use Rattle.file_store.specs.Command.{can_begin, stamp_of}
use Rattle.file_store.specs.IsStore.{IsStore}
use Rattle.file_store.specs.Store.{Entry, Store, entry_of, new_entry}
use Rattle.ftl0_session.specs.Uploads.Events.{Event}
use Rattle.ftl0_session.specs.Uploads.Laws.{kept}
use Rattle.ftl0_session.specs.Uploads.Run.{replies_to, store_after}
use Rattle.ftl0_session.specs.Uploads.Session.{command}

-- These events are DATA packets, at any moments, that bring these octets one after another.
abbrev pub BringsFile : List Event → List ℕ → Type 0
BringsFile [] octets = octets ≡ []
BringsFile (event ∷ events) octets =
    (piece : List ℕ) × (later : List ℕ) × (event.packet ≡ Ok (data_part piece)) × (octets ≡ piece ++ later)
    × BringsFile events later

-- the events of an upload: UPLOAD_CMD with this number and length at one moment, these parts, DATA_END at another
abbrev pub upload_events : ℕ → ℕ → ℕ → List Event → ℕ → List Event
upload_events number file_length asked parts moment =
    record { moment = asked; packet = Ok (upload_cmd number file_length) }
    ∷ (parts ++ record { moment = moment; packet = Ok data_end } ∷ [])

-- the entry of this file as it was begun
abbrev pub entry_begun : CallSign → Store → List ℕ → ℕ → Entry
entry_begun caller store file begun = new_entry store.next caller (length file) begun

-- The events get UL_GO_RESP with the store's next number, and UL_ACK_RESP. Then the entry of that number is complete
-- with the file, stamped; and what is kept has no fault, the client's body, and the client's items except for those
-- that the server fills in.
pub record IsAcknowledged (caller : CallSign) (store : Store) (file : List ℕ) (begun moment : ℕ) (events : List Event) :
    Type 0 where
  pub replies : replies_to caller store command events ≡ ul_go_resp store.next 0 ∷ ul_ack_resp ∷ []
  pub entry : entry_of (store_after caller store command events) store.next
      ≡ Some (kept (entry_begun caller store file begun) file moment)
  pub client : KeepsClient file (stamped (stamp_of moment (entry_begun caller store file begun)) file)

-- A new file without fault that may be begun is granted and acknowledged, in whatever parts it comes, and the store
-- keeps exactly the octets that came, stamped.
abbrev pub UploadedLaw : Type 0
UploadedLaw =
    (caller : CallSign) (store : Store) (file : List ℕ) (parts : List Event) (begun moment : ℕ) → IsCall caller
    → IsStore store → can_begin store (length file) ≡ true → IsOctets file → fault_code file ≡ None
    → BringsFile parts file
    → IsAcknowledged caller store file begun moment (upload_events 0 (length file) begun parts moment)
