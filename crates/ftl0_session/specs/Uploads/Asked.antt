-- What a packet of uploading asks of the session.
use Rattle.std.specs.Prelude.{◌≡◌, ℕ, List, true, None, Result, Ok, IsErr, ⊤}
use Rattle.px_base.specs.CallSign.{CallSign}
use Rattle.ftl0_packets.specs.Layout.{Item, data_end, data_part, upload_cmd}
use Rattle.file_store.specs.State.{StoreState}
use Rattle.ftl0_session.specs.declared.uploads.asked.Asked.{Asked}
use Rattle.ftl0_session.specs.declared.uploads.asked.Asked.TheVariants as asked
use Rattle.ftl0_session.specs.declared.uploads.phase.Phase.{Phase}
use Rattle.disk_model.specs.declared.disk.DiskFault.{DiskFault}
use Rattle.ftl0_packets.specs.Items.{kind_of_item}
use Rattle.ftl0_session.specs.Uploads.Events.{packet_of}
use Rattle.ftl0_session.specs.Uploads.Session.{aborting, is_upload_kind}
use Rattle.ftl0_session.specs.Uploads.SessionState.{NoOtherOut}
use Rattle.ftl0_session.specs.Uploads.Taking.{AnsweredAlone}

-- this is what the packet asks, which is of uploading
abbrev pub IsAsked : Item → Asked → Type 0
IsAsked item (asked.Upload number file_length) = item ≡ Ok (upload_cmd number file_length)
IsAsked item (asked.Part octets) = item ≡ Ok (data_part octets.now)
IsAsked item asked.End = item ≡ Ok data_end
IsAsked item asked.Malformed = IsErr item × (is_upload_kind (kind_of_item item) ≡ true)

-- so each packet that asks this is answered
abbrev pub AnswersAsked : Asked → (Item → Type 0) → Type 0
AnswersAsked what IsAnswered = (item : Item) → IsAsked item what → IsAnswered item

-- In Aborting, whoever the caller is and whatever the store, which stays.
abbrev pub AnswersAborting : Asked → List ℕ → (Phase × Result ⊤ DiskFault) → Type 0
AnswersAborting what replies taken =
    (caller : CallSign) (moment : ℕ) (store : StoreState) (item : Item) → NoOtherOut store caller None
    → IsAsked item what → AnsweredAlone (packet_of caller moment item) aborting store store replies taken
