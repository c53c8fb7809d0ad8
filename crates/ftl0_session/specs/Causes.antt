-- What replies report about reads that failed, and the causes of code 3.
use Rattle.std.specs.Prelude.{◌≡◌, ◌≢◌, ◌⊎◌, ℕ, List, [], ◌∷◌, Bool, true, ⊤}
use Rattle.std.specs.List.{AllByRecursion}
use Rattle.disk_model.specs.declared.disk.Disk.{Ghosts}
use Rattle.file_store.specs.State.{IsKnown}
use Rattle.ftl0_packets.specs.ErrorCodes.{octet_of}
use Rattle.ftl0_packets.specs.declared.error_code.ErrorCode.TheVariants as error
use Rattle.ftl0_packets.specs.Items.{texts}
use Rattle.ftl0_packets.specs.Layout.{PacketValue, dl_error_resp, ul_error_resp, ul_nak_resp}
use Rattle.ftl0_session.specs.Table.{tells_failed_read}

-- these replies are one, which reports a read that failed
abbrev pub TellsRead : List PacketValue → Type 0
TellsRead replies = (reply : PacketValue) × (replies ≡ reply ∷ []) × (tells_failed_read reply ≡ true)

-- A reply with code 3 has its cause. UL_NAK_RESP: a read failed. DL_ERROR_RESP: a read failed, or a file has no header
-- any more, which never comes if it is known what the store's files hold. UL_ERROR_RESP has none.
abbrev pub HasCause : {D : Type 0} → Ghosts D → D → Bool → PacketValue → Type 0
HasCause g disk fails (ul_error_resp code) = code ≢ octet_of error.ServerFsys
HasCause g disk fails (ul_nak_resp code) = code ≡ octet_of error.ServerFsys → fails ≡ true
HasCause g disk fails (dl_error_resp code) =
    code ≡ octet_of error.ServerFsys → (fails ≡ true) ⊎ ¬ IsKnown g disk
HasCause g disk fails packet = ⊤

-- What is replied, whatever is observed of the disk: these packets. A read that failed is reported by one alone, and
-- each code 3 has its cause.
pub record Says {D : Type 0} (g : Ghosts D) (disk : D) (fails : Bool) (replies : List ℕ) : Type 0 where
  pub said : List PacketValue
  pub text : replies ≡ texts said
  pub told : fails ≡ true → TellsRead said
  pub causes : AllByRecursion (HasCause g disk fails) said
