-- The rows of the client's table, each once: what is true of each of them is true of what a packet gives.
use Rattle.std.proofs.Common.{◌≡◌, ℕ, ◌+◌, List, [], ◌∷◌, ◌++◌, Bool, true, false, length, refl}
use Rattle.std.specs.Prelude.{◌==◌, if◌then◌else◌}
use Rattle.ftl0_client_job.specs.declared.ending.Outcome.TheVariants as outcome
use Rattle.ftl0_client_job.specs.declared.phases.DirectoryPhase.TheVariants as directory_phase
use Rattle.ftl0_client_job.specs.declared.phases.DownloadPhase.TheVariants as download_phase
use Rattle.ftl0_client_job.specs.declared.phases.UploadPhase.TheVariants as upload_phase
use Rattle.ftl0_client_job.specs.Directory as directory
use Rattle.ftl0_client_job.specs.Download as download
use Rattle.ftl0_client_job.specs.Upload as upload
use Rattle.ftl0_client_job.proofs.Names.{nat_lt, Option, None, Some, PacketValue, data_part, data_end, login_resp, upload_cmd, ul_go_resp, ul_error_resp, ul_ack_resp, ul_nak_resp, download_cmd, dl_error_resp, dl_completed_resp, dir_short_cmd, kind_of, select_cmd, select_resp, fault_code, acked, longest_file, DirectoryPhase, DownloadPhase, UploadPhase, Directory, directory_row, is_empty_code, longest_listing, with_octets, Download, download_row, error_row, unnoted, whole_gots, whole_row, with_rest, Row, ends, ends_later, goes_on, strange, are_short_headers, Upload, is_complete, may_go, number_commands, refusal_of, upload_row}

-- ---- uploads

-- it is true of each row of an upload that has come so far
pub record UploadRows (P : Row Upload → Type 0) (at : Upload) : Type 0 where
  pub strange_rows : (kind : ℕ) → P (strange at kind)
  pub login : at.phase ≡ upload_phase.Login → P (goes_on (upload.in_phase at upload_phase.Go) [] (upload_cmd at.known (length at.file) ∷ []))
  pub go :
      (number offset : ℕ) → at.phase ≡ upload_phase.Go → may_go at number offset ≡ true
      → P (goes_on (upload.in_phase at (upload_phase.Sending number offset)) (number_commands at number) [])
  pub complete : at.phase ≡ upload_phase.Go → P (ends at (acked at.task ∷ []) (outcome.Acked at.known))
  pub refused_rows : (code : ℕ) → P (ends at (refusal_of at.task code) (outcome.Refused code))
  pub broken_off : (code : ℕ) → P (ends_later at (refusal_of at.task code) data_end (outcome.Refused code))
  pub ack : (number : ℕ) → at.phase ≡ upload_phase.Ack number → P (ends at (acked at.task ∷ []) (outcome.Acked number))

module _ (P : Row Upload → Type 0) (at : Upload) (each : UploadRows P at) where
  go-by : (b : Bool) (number offset : ℕ) → at.phase ≡ upload_phase.Go → may_go at number offset ≡ b
      → P (if b then goes_on (upload.in_phase at (upload_phase.Sending number offset)) (number_commands at number) [] else strange at 4)
  go-by true number offset is may = each.go number offset is may
  go-by false number offset is may = each.strange_rows 4

  error-by : (b : Bool) (code : ℕ) → at.phase ≡ upload_phase.Go
      → P (if b then ends at (acked at.task ∷ []) (outcome.Acked at.known) else ends at (refusal_of at.task code) (outcome.Refused code))
  error-by true code is = each.complete is
  error-by false code is = each.refused_rows code

  login : (packet : PacketValue) → at.phase ≡ upload_phase.Login → P (upload.login_row at packet)
  login (login_resp moment flags) is = each.login is
  login packet is = each.strange_rows (kind_of packet)

  go : (packet : PacketValue) → at.phase ≡ upload_phase.Go → P (upload.go_row at packet)
  go (ul_go_resp of offset) is = go-by (may_go at of offset) of offset is refl
  go (ul_error_resp code) is = error-by (is_complete at code) code is
  go packet is = each.strange_rows (kind_of packet)

  sending : (packet : PacketValue) → P (upload.sending_row at packet)
  sending (ul_nak_resp code) = each.broken_off code
  sending packet = each.strange_rows (kind_of packet)

  ack : (number : ℕ) (packet : PacketValue) → at.phase ≡ upload_phase.Ack number → P (upload.ack_row at number packet)
  ack number ul_ack_resp is = each.ack number is
  ack number (ul_nak_resp code) is = each.refused_rows code
  ack number packet is = each.strange_rows (kind_of packet)

  pub upload-rows : (packet : PacketValue) → P (upload_row at packet)
  unfolding upload_row
  upload-rows packet = by at.phase refl
    where
      by : (p : UploadPhase) → at.phase ≡ p → P (upload.row_in p at packet)
      by upload_phase.Login is = login packet is
      by upload_phase.Go is = go packet is
      by (upload_phase.Sending number place) is = sending packet
      by (upload_phase.Ack number) is = ack number packet is

-- ---- lists

-- it is true of each row of a list that has come so far
pub record DirectoryRows (P : Row Directory → Type 0) (at : Directory) : Type 0 where
  pub strange_rows : (kind : ℕ) → P (strange at kind)
  pub refused_rows : (code : ℕ) → P (ends at [] (outcome.Refused code))
  pub login : at.phase ≡ directory_phase.Login → P (goes_on (directory.in_phase at directory_phase.Selecting) [] (select_cmd at.tokens ∷ []))
  pub nothing : at.phase ≡ directory_phase.Selecting → P (ends at [] outcome.Listed)
  pub selected : P (goes_on (directory.in_phase at directory_phase.Listing) [] (dir_short_cmd 0 ∷ []))
  pub octets : (octets : List ℕ) → at.phase ≡ directory_phase.Listing → P (goes_on (with_octets at octets) [] [])
  pub next : P (goes_on at [] (dir_short_cmd 0 ∷ []))
  pub whole : are_short_headers at.listing ≡ true → P (ends at [] outcome.Listed)

module _ (P : Row Directory → Type 0) (at : Directory) (each : DirectoryRows P at) where
  selected-by : (b : Bool) → at.phase ≡ directory_phase.Selecting → P (if b then ends at [] outcome.Listed else goes_on (directory.in_phase at directory_phase.Listing) [] (dir_short_cmd 0 ∷ []))
  selected-by true is = each.nothing is
  selected-by false is = each.selected

  data-by : (b : Bool) (octets : List ℕ) → at.phase ≡ directory_phase.Listing → P (if b then strange at 0 else goes_on (with_octets at octets) [] [])
  data-by true octets is = each.strange_rows 0
  data-by false octets is = each.octets octets is

  next-by : (b : Bool) → P (if b then goes_on at [] (dir_short_cmd 0 ∷ []) else strange at 1)
  next-by true = each.next
  next-by false = each.strange_rows 1

  whole-by : (b : Bool) → are_short_headers at.listing ≡ b → P (if b then ends at [] outcome.Listed else strange at 9)
  whole-by true are = each.whole are
  whole-by false are = each.strange_rows 9

  code-by : (b : Bool) (code : ℕ) → P (if b then directory.empty_row at else ends at [] (outcome.Refused code))
  code-by true code = whole-by (are_short_headers at.listing) refl
  code-by false code = each.refused_rows code

  list-login : (packet : PacketValue) → at.phase ≡ directory_phase.Login → P (directory.login_row at packet)
  list-login (login_resp moment flags) is = each.login is
  list-login packet is = each.strange_rows (kind_of packet)

  list-selecting : (packet : PacketValue) → at.phase ≡ directory_phase.Selecting → P (directory.selecting_row at packet)
  list-selecting (dl_error_resp code) is = each.refused_rows code
  list-selecting (select_resp count) is = selected-by (count == 0) is
  list-selecting packet is = each.strange_rows (kind_of packet)

  list-listing : (packet : PacketValue) → at.phase ≡ directory_phase.Listing → P (directory.listing_row at packet)
  list-listing (data_part octets) is = data-by (nat_lt longest_listing (length (at.listing ++ octets))) octets is
  list-listing data_end is = next-by (are_short_headers at.listing)
  list-listing (dl_error_resp code) is = code-by (is_empty_code code) code
  list-listing packet is = each.strange_rows (kind_of packet)

  pub directory-rows : (packet : PacketValue) → P (directory_row at packet)
  unfolding directory_row
  directory-rows packet = by at.phase refl
    where
      by : (p : DirectoryPhase) → at.phase ≡ p → P (directory.row_in p at packet)
      by directory_phase.Login is = list-login packet is
      by directory_phase.Selecting is = list-selecting packet is
      by directory_phase.Listing is = list-listing packet is

-- ---- downloads

-- it is true of each row of a download that has come so far, if these octets were noted
pub record DownloadRows (P : Row Download → Type 0) (held : List ℕ) (at : Download) : Type 0 where
  pub strange_rows : (kind : ℕ) → P (strange at kind)
  pub refused_rows : (code : ℕ) → P (error_row at code)
  pub login : P (goes_on (download.in_phase (with_rest at []) download_phase.Fetching) [] (download_cmd at.number (length held) 0 ∷ []))
  pub octets :
      (octets : List ℕ) → at.phase ≡ download_phase.Fetching → nat_lt longest_file (length held + length (at.rest ++ octets)) ≡ false
      → P (goes_on (with_rest at (unnoted (at.rest ++ octets))) (whole_gots at.server at.number (at.rest ++ octets)) [])
  pub whole : fault_code (held ++ at.rest) ≡ None → P (whole_row at None)
  pub bad : (code : ℕ) → P (whole_row at (Some code))
  pub done : at.phase ≡ download_phase.Done → P (ends at [] (outcome.Fetched at.number))

module _ (P : Row Download → Type 0) (held : List ℕ) (at : Download) (each : DownloadRows P held at) where
  octets-by : (b : Bool) (octets : List ℕ) → at.phase ≡ download_phase.Fetching → nat_lt longest_file (length held + length (at.rest ++ octets)) ≡ b
      → P (if b then strange at 0 else goes_on (with_rest at (unnoted (at.rest ++ octets))) (whole_gots at.server at.number (at.rest ++ octets)) [])
  octets-by true octets is few = each.strange_rows 0
  octets-by false octets is few = each.octets octets is few

  end-by : (o : Option ℕ) → fault_code (held ++ at.rest) ≡ o → P (whole_row at o)
  end-by None is = each.whole is
  end-by (Some code) is = each.bad code

  fetch-login : (packet : PacketValue) → P (download.login_row held at packet)
  fetch-login (login_resp moment flags) = each.login
  fetch-login packet = each.strange_rows (kind_of packet)

  fetch-octets : (packet : PacketValue) → at.phase ≡ download_phase.Fetching → P (download.fetching_row held at packet)
  fetch-octets (data_part octets) is = octets-by (nat_lt longest_file (length held + length (at.rest ++ octets))) octets is refl
  fetch-octets data_end is = end-by (fault_code (held ++ at.rest)) refl
  fetch-octets (dl_error_resp code) is = each.refused_rows code
  fetch-octets packet is = each.strange_rows (kind_of packet)

  fetch-done : (packet : PacketValue) → at.phase ≡ download_phase.Done → P (download.done_row at packet)
  fetch-done dl_completed_resp is = each.done is
  fetch-done packet is = each.strange_rows (kind_of packet)

  pub download-rows : (packet : PacketValue) → P (download_row held at packet)
  unfolding download_row
  download-rows packet = by at.phase refl
    where
      by : (p : DownloadPhase) → at.phase ≡ p → P (download.row_in p held at packet)
      by download_phase.Login is = fetch-login packet
      by download_phase.Fetching is = fetch-octets packet is
      by download_phase.Done is = fetch-done packet is
