-- The upload of a file that was begun before, and is brought to its end (FTL0 1990, continuing an upload).
use Rattle.std.specs.Prelude.{◌≡◌, ◌≢◌, ℕ, List, [], ◌∷◌, ◌++◌, length, None, Some}
use Rattle.px_base.specs.CallSign.{CallSign}
use Rattle.ftl0_packets.specs.Layout.{ul_ack_resp, ul_go_resp}
use Rattle.pfh_items.specs.Faults.{fault_code}
use Rattle.file_store.specs.Store.{Entry, Store, entry_of}
use Rattle.ftl0_session.specs.Uploads.Events.{Event}
use Rattle.ftl0_session.specs.Uploads.Laws.{IsUnderWay, kept}
use Rattle.ftl0_session.specs.Uploads.Run.{replies_to, store_after}
use Rattle.ftl0_session.specs.Uploads.Session.{command}
use Rattle.ftl0_session.specs.Uploads.Uploaded.{BringsFile, upload_events}

-- The events get UL_GO_RESP with the number and how many octets were held, and UL_ACK_RESP. Then the entry is complete
-- with the file, stamped.
pub record IsCompleted (caller : CallSign) (store : Store) (entry : Entry) (held file : List ℕ) (number moment : ℕ)
    (events : List Event) : Type 0 where
  pub replies : replies_to caller store command events ≡ ul_go_resp number (length held) ∷ ul_ack_resp ∷ []
  pub entry_now : entry_of (store_after caller store command events) number ≡ Some (kept entry file moment)

-- The caller's own file that is under way, and that is without fault once the octets after those that are held have
-- come, goes on and is acknowledged, in whatever parts they come. The store keeps exactly the octets held and those
-- that came, stamped.
abbrev pub ContinuedLaw : Type 0
ContinuedLaw =
    (caller : CallSign) (store : Store) (number : ℕ) (entry : Entry) (held later : List ℕ) (parts : List Event)
    (asked moment : ℕ) → number ≢ 0 → IsUnderWay store number entry held → entry.caller ≡ caller
    → length (held ++ later) ≡ entry.length → fault_code (held ++ later) ≡ None → BringsFile parts later
    → IsCompleted caller store entry held (held ++ later) number moment
    (upload_events number entry.length asked parts moment)
