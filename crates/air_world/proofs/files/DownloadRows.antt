-- The rows of a session of a download: of DOWNLOAD_CMD, DL_ACK_CMD and DL_NAK_CMD (FTL0 1990, downloading).
use Rattle.std.proofs.Common.{◌≡◌, ◌≢◌, inl, inr, ℕ, ◌≤◌, ◌==◌, List, [], ◌∷◌, length, refl, ap, ◌∙◌, false, Option}
use Rattle.std.proofs.Common.{None, Some, arith}
use Rattle.ftl0_session.specs.Downloads.Table as download
use Rattle.ftl0_session.specs.Table.{Row}
use Rattle.air_world.proofs.files.Names.{Ok, nat_lt, nat_tests, CallSign, PacketValue, dl_aborted_resp, dl_ack_cmd, dl_completed_resp, dl_error_resp, dl_nak_cmd, download_cmd, Store, DownloadsLaw, asked_file, asked_row, ended_row, file_of, file_row, CallerList, by_download, command, sending, session_row, waiting, IsLast, IsWord}

-- the row of a command that is refused with this code
abbrev pub refusal : List CallerList → ℕ → Row
refusal lists code = record { state = command; lists = lists; commands = []; replies = dl_error_resp code ∷ [] }

-- the row of a file that is sent from the offset on
abbrev pub sending_row : List CallerList → ℕ → ℕ → List ℕ → Row
sending_row lists number offset file =
    record { state = sending number offset (length file); lists = lists; commands = []; replies = [] }

-- the row of DL_ACK_CMD or DL_NAK_CMD
abbrev pub last_row : List CallerList → PacketValue → Row
last_row lists last = record { state = command; lists = lists; commands = []; replies = last ∷ [] }

module _ (law : DownloadsLaw) (caller : CallSign) (moment : ℕ) (store : Store) (lists : List CallerList) where
  command-row : (number offset : ℕ)
      → download.download_row caller store lists download.ready (download_cmd number offset 0) false
      ≡ Some (asked_row caller store lists number offset (asked_file lists caller number))
  unfolding download.download_row download.command_row
  command-row number offset = refl

  -- the number of a file isn't 0
  asked-number : (number offset : ℕ) → number ≢ 0
      → asked_row caller store lists number offset (asked_file lists caller number)
      ≡ file_row caller lists number offset number (file_of store number)
  asked-number number offset some =
      let no : (number == 0) ≡ false = grind (arith, nat_tests, some) in
      rw no refl

  pub asked-is : (number offset : ℕ) → number ≢ 0
      → session_row caller moment store lists command (Ok (download_cmd number offset 0)) false
      ≡ by_download (file_row caller lists number offset number (file_of store number))
  asked-is number offset some =
      law caller moment store lists download.ready (download_cmd number offset 0) false _ (command-row number offset)
      ∙ ap by_download (asked-number number offset some)

  -- there is no complete file of this number
  pub row-none : (number offset : ℕ) → number ≢ 0 → file_of store number ≡ None
      → session_row caller moment store lists command (Ok (download_cmd number offset 0)) false ≡ refusal lists 4
  row-none number offset some none =
      asked-is number offset some ∙ ap
      (λ (o : Option (List ℕ)). by_download (file_row caller lists number offset number o)) none

  -- there is, and the offset is within it
  pub row-sends : (number offset : ℕ) (file : List ℕ) → number ≢ 0 → file_of store number ≡ Some file
      → offset ≤ length file
      → session_row caller moment store lists command
      (Ok (download_cmd number offset 0)) false ≡ sending_row lists number offset file
  row-sends number offset file some there within =
      let no : (number == 0) ≡ false = grind (arith, nat_tests, some) in
      let not_past : nat_lt (length file) offset ≡ false = grind (arith, nat_tests, within) in
      asked-is number offset some ∙ ap
      (λ (o : Option (List ℕ)). by_download (file_row caller lists number offset number o)) there
      ∙ rw not_past (rw no refl)

  ack-row : download.download_row caller store lists download.waiting dl_ack_cmd false ≡ Some
      (ended_row lists dl_completed_resp)
  unfolding download.download_row
  ack-row = refl

  nak-row : download.download_row caller store lists download.waiting dl_nak_cmd false ≡ Some
      (ended_row lists dl_aborted_resp)
  unfolding download.download_row
  nak-row = refl

  -- DL_ACK_CMD or DL_NAK_CMD, and its answer
  pub row-word : (word : PacketValue) → IsWord word
      → (last : PacketValue) × IsLast
      last × (session_row caller moment store lists waiting (Ok word) false ≡ last_row lists last)
  row-word word (inl is) = (
    dl_completed_resp,
    inl refl,
    ap (λ (p : PacketValue). session_row caller moment store lists waiting (Ok p) false) is
        ∙ law caller moment store lists download.waiting dl_ack_cmd false (ended_row lists dl_completed_resp) ack-row,
  )
  row-word word (inr is) = (
    dl_aborted_resp,
    inr refl,
    ap (λ (p : PacketValue). session_row caller moment store lists waiting (Ok p) false) is
        ∙ law caller moment store lists download.waiting dl_nak_cmd false (ended_row lists dl_aborted_resp) nak-row,
  )
