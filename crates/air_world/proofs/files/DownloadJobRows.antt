-- The rows of the client's table for a download, each with the packet that has it.
use Rattle.std.proofs.Common.{◌≡◌, ℕ, ◌+◌, List, [], ◌∷◌, ◌++◌, Bool, true, false, Option, None, Some, length, refl}
use Rattle.std.specs.Prelude.{if◌then◌else◌}
use Rattle.client_notes.specs.Limits.{longest_file}
use Rattle.ftl0_client_job.specs.declared.ending.Outcome.TheVariants as outcome
use Rattle.ftl0_client_job.specs.declared.phases.DownloadPhase.TheVariants as phase
use Rattle.air_world.proofs.files.Names.{nat_lt, CallSign, PacketValue, data_end, data_part, dl_completed_resp, dl_error_resp, download_cmd, kind_of, login_resp, fault_code, DownloadPhase, Download, done_row, download_row, error_row, fetching_row, login_row, unnoted, whole_gots, whole_row, Row, ends, goes_on, strange}

-- the download of a server's file, of which these octets aren't noted yet, come so far
abbrev pub download_at : CallSign → ℕ → List ℕ → DownloadPhase → Download
download_at server number rest p = record { server = server; number = number; rest = rest; phase = p }

-- it is true of each row of a download, by how far it has come and by the packet, if these octets were noted
pub record DownloadCases (server : CallSign) (number : ℕ) (held rest : List ℕ)
    (P : DownloadPhase → PacketValue → Row Download → Type 0) : Type 0 where
  pub strange_rows : (p : DownloadPhase) (packet : PacketValue) (kind : ℕ)
      → P p packet (strange (download_at server number rest p) kind)
  pub login :
      (moment flags : ℕ)
      → P phase.Login (login_resp moment flags)
      (goes_on (download_at server number [] phase.Fetching) [] (download_cmd number (length held) 0 ∷ []))
  pub octets :
      (octets : List ℕ)
      → P phase.Fetching (data_part octets)
      (goes_on (download_at server number (unnoted (rest ++ octets)) phase.Fetching)
      (whole_gots server number (rest ++ octets)) [])
  pub whole : fault_code (held ++ rest) ≡ None
      → P phase.Fetching data_end (whole_row (download_at server number rest phase.Fetching) None)
  pub bad :
      (code : ℕ) → fault_code (held ++ rest) ≡ Some code
      → P phase.Fetching data_end (whole_row (download_at server number rest phase.Fetching) (Some code))
  pub refused : (code : ℕ)
      → P phase.Fetching (dl_error_resp code) (error_row (download_at server number rest phase.Fetching) code)
  pub done : P phase.Done dl_completed_resp
      (ends (download_at server number rest phase.Done) [] (outcome.Fetched number))

module _ (server : CallSign) (number : ℕ) (held rest : List ℕ) (P : DownloadPhase → PacketValue → Row Download → Type 0)
    (each : DownloadCases server number held rest P) where
  abbrev at : DownloadPhase → Download
  at p = download_at server number rest p

  login-case : (packet : PacketValue) → P phase.Login packet (login_row held (at phase.Login) packet)
  login-case (login_resp moment flags) = each.login moment flags
  login-case packet = each.strange_rows phase.Login packet (kind_of packet)

  octets-case : (octets : List ℕ) (b : Bool)
      → P phase.Fetching (data_part octets)
      (if b then strange (at phase.Fetching) 0
      else goes_on (download_at server number (unnoted (rest ++ octets)) phase.Fetching)
      (whole_gots server number (rest ++ octets)) [])
  octets-case octets true = each.strange_rows phase.Fetching (data_part octets) 0
  octets-case octets false = each.octets octets

  end-case : (o : Option ℕ) → fault_code (held ++ rest) ≡ o
      → P phase.Fetching data_end (whole_row (at phase.Fetching) o)
  end-case None is = each.whole is
  end-case (Some code) is = each.bad code is

  fetching-case : (packet : PacketValue) → P phase.Fetching packet (fetching_row held (at phase.Fetching) packet)
  fetching-case (data_part octets) = octets-case octets (nat_lt longest_file (length held + length (rest ++ octets)))
  fetching-case data_end = end-case (fault_code (held ++ rest)) refl
  fetching-case (dl_error_resp code) = each.refused code
  fetching-case packet = each.strange_rows phase.Fetching packet (kind_of packet)

  done-case : (packet : PacketValue) → P phase.Done packet (done_row (at phase.Done) packet)
  done-case dl_completed_resp = each.done
  done-case packet = each.strange_rows phase.Done packet (kind_of packet)

  -- so it is true of what any packet gives
  pub download-cases : (p : DownloadPhase) (packet : PacketValue) → P p packet (download_row held (at p) packet)
  unfolding download_row
  download-cases phase.Login packet = login-case packet
  download-cases phase.Fetching packet = fetching-case packet
  download-cases phase.Done packet = done-case packet
