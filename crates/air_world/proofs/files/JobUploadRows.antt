-- The rows of the client's table for an upload, each with the packet that has it.
use Rattle.std.proofs.Common.{◌≡◌, ℕ, List, [], ◌∷◌, Bool, true, false, length, refl}
use Rattle.std.specs.Prelude.{if◌then◌else◌}
use Rattle.ftl0_client_job.specs.declared.ending.Outcome.TheVariants as outcome
use Rattle.ftl0_client_job.specs.declared.phases.UploadPhase.TheVariants as phase
use Rattle.ftl0_client_job.specs.Upload.{is_complete, login_row}
use Rattle.air_world.proofs.files.Names.{PacketValue, data_end, kind_of, login_resp, ul_ack_resp, ul_error_resp, ul_go_resp, ul_nak_resp, upload_cmd, acked, UploadPhase, Row, ends, ends_later, goes_on, strange, Upload, ack_row, go_row, may_go, number_commands, refusal_of, sending_row, upload_row}

-- the upload of a task's file, come so far
abbrev pub upload_at : ℕ → ℕ → List ℕ → UploadPhase → Upload
upload_at task known file p = record { task = task; known = known; file = file; phase = p }

-- the packet is no offer that the upload waits for and may take
abbrev pub IsNoOffer : Upload → UploadPhase → PacketValue → Type 0
IsNoOffer at p packet =
    (number offset : ℕ) → p ≡ phase.Go → packet ≡ ul_go_resp number offset → may_go at number offset ≡ false

-- it is true of each row of an upload, by how far it has come and by the packet
pub record UploadCases (task known : ℕ) (file : List ℕ)
    (P : UploadPhase → PacketValue → Row Upload → Type 0) : Type 0 where
  pub strange_rows :
      (p : UploadPhase) (packet : PacketValue) (kind : ℕ) → IsNoOffer (upload_at task known file p) p packet
      → P p packet (strange (upload_at task known file p) kind)
  pub login :
      (moment flags : ℕ)
      → P phase.Login (login_resp moment flags)
      (goes_on (upload_at task known file phase.Go) [] (upload_cmd known (length file) ∷ []))
  pub go :
      (number offset : ℕ) → may_go (upload_at task known file phase.Go) number offset ≡ true
      → P phase.Go (ul_go_resp number offset)
      (goes_on (upload_at task known file (phase.Sending number offset))
      (number_commands (upload_at task known file phase.Go) number) [])
  pub complete :
      (code : ℕ) → is_complete (upload_at task known file phase.Go) code ≡ true
      → P phase.Go (ul_error_resp code)
      (ends (upload_at task known file phase.Go) (acked task ∷ []) (outcome.Acked known))
  pub refused_go :
      (code : ℕ) → P phase.Go (ul_error_resp code)
      (ends (upload_at task known file phase.Go) (refusal_of task code) (outcome.Refused code))
  pub broken_off :
      (number place code : ℕ)
      → P (phase.Sending number place) (ul_nak_resp code)
      (ends_later (upload_at task known file (phase.Sending number place)) (refusal_of task code) data_end
      (outcome.Refused code))
  pub ack :
      (number : ℕ) → P (phase.Ack number) ul_ack_resp
      (ends (upload_at task known file (phase.Ack number)) (acked task ∷ []) (outcome.Acked number))
  pub refused_ack :
      (number code : ℕ)
      → P (phase.Ack number) (ul_nak_resp code)
      (ends (upload_at task known file (phase.Ack number)) (refusal_of task code) (outcome.Refused code))

module _ (task known : ℕ) (file : List ℕ) (P : UploadPhase → PacketValue → Row Upload → Type 0)
    (each : UploadCases task known file P) where
  abbrev at : UploadPhase → Upload
  at p = upload_at task known file p

  login-case : (packet : PacketValue) → P phase.Login packet (login_row (at phase.Login) packet)
  login-case (login_resp moment flags) = each.login moment flags
  login-case packet = each.strange_rows phase.Login packet (kind_of packet) (λ number offset is same. absurd (cc is))

  offer-case : (b : Bool) (number offset : ℕ) → may_go (at phase.Go) number offset ≡ b
      → P phase.Go (ul_go_resp number offset)
      (if b then goes_on (at (phase.Sending number offset)) (number_commands (at phase.Go) number) [] else strange
      (at phase.Go) 4)
  offer-case true number offset may = each.go number offset may
  offer-case false number offset may =
      each.strange_rows phase.Go (ul_go_resp number offset) 4 (λ n o is same. none n o same)
    where
      none : (n o : ℕ) → ul_go_resp number offset ≡ ul_go_resp n o → may_go (at phase.Go) n o ≡ false
      none n o same = let is : number ≡ n = cc in let at_is : offset ≡ o = cc in cc

  error-case : (b : Bool) (code : ℕ) → is_complete (at phase.Go) code ≡ b
      → P phase.Go (ul_error_resp code)
      (if b then ends (at phase.Go) (acked task ∷ []) (outcome.Acked known) else ends (at phase.Go)
      (refusal_of task code) (outcome.Refused code))
  error-case true code is = each.complete code is
  error-case false code is = each.refused_go code

  go-case : (packet : PacketValue) → P phase.Go packet (go_row (at phase.Go) packet)
  go-case (ul_go_resp number offset) = offer-case (may_go (at phase.Go) number offset) number offset refl
  go-case (ul_error_resp code) = error-case (is_complete (at phase.Go) code) code refl
  go-case packet = each.strange_rows phase.Go packet (kind_of packet) (λ number offset is same. absurd (cc same))

  sending-case : (number place : ℕ) (packet : PacketValue)
      → P (phase.Sending number place) packet (sending_row (at (phase.Sending number place)) packet)
  sending-case number place (ul_nak_resp code) = each.broken_off number place code
  sending-case number place packet =
      each.strange_rows (phase.Sending number place) packet (kind_of packet) (λ n o is same. absurd (cc is))

  ack-case : (number : ℕ) (packet : PacketValue)
      → P (phase.Ack number) packet (ack_row (at (phase.Ack number)) number packet)
  ack-case number ul_ack_resp = each.ack number
  ack-case number (ul_nak_resp code) = each.refused_ack number code
  ack-case number packet = each.strange_rows (phase.Ack number) packet (kind_of packet) (λ n o is same. absurd (cc is))

  pub upload-cases : (p : UploadPhase) (packet : PacketValue) → P p packet (upload_row (at p) packet)
  unfolding upload_row
  upload-cases phase.Login packet = login-case packet
  upload-cases phase.Go packet = go-case packet
  upload-cases (phase.Sending number place) packet = sending-case number place packet
  upload-cases (phase.Ack number) packet = ack-case number packet
