-- What the rows of downloading reply.
use Rattle.std.proofs.Common.{◌≡◌, ℕ, List, [], ◌∷◌, length, refl, Bool, true, false, not, Option, None, Some}
use Rattle.std.specs.Prelude.{if◌then◌else◌, ◌==◌}
use Rattle.selection.specs.Reading.{tree_in}
use Rattle.ftl0_session.proofs.Names.{Ok, Err, IfSome, Result, nat_lt, list_all, option_map, CallSign, PacketValue, dir_long_cmd, dir_short_cmd, dl_aborted_resp, dl_ack_cmd, dl_completed_resp, dl_error_resp, dl_nak_cmd, download_cmd, select_cmd, select_resp, Tree, SelFault, CallerList, Store, DownloadRow, DownloadState, Due, asked_file, asked_row, command_row, download_row, ended_row, file_of, file_row, files_row, has_file, listed_files, listing, long_due, ready, refused_row, reply_sending, reply_waiting, sending, short_due, tree_row, waiting}

-- Whether a read fails or none does: what is true of no reply, of each refusal except that with code 3, of that one if
-- a read fails, and of SELECT_RESP and the ends of a download, is true of each row's replies.
module _ (fails : Bool) (P : List PacketValue → Type 0) (none : P []) (refused : (code : ℕ) → (code == 3) ≡ false → P (dl_error_resp code ∷ [])) (failed : fails ≡ true → P (dl_error_resp 3 ∷ []))
    (counted : (count : ℕ) → P (select_resp count ∷ [])) (aborted : P (dl_aborted_resp ∷ [])) (completed : P (dl_completed_resp ∷ [])) where
  either : (b : Bool) (first second : DownloadRow) → P first.replies → P second.replies → P (if b then first else second).replies
  either true first second a c = a
  either false first second a c = c

  -- error 3 if this is so
  read_failed : (b : Bool) (lists : List CallerList) (other : DownloadRow) → (b ≡ true → P (dl_error_resp 3 ∷ [])) → P other.replies → P (if b then refused_row lists 3 else other).replies
  read_failed true lists other fault holds = fault refl
  read_failed false lists other fault holds = holds

  files : (caller : CallSign) (store : Store) (lists : List CallerList) (asked : ℕ) (dues : Store → List ℕ → List Due) (numbers : List ℕ) → P (files_row caller store lists asked dues fails numbers).replies
  files caller store lists asked dues numbers =
      either (length numbers == 0) (refused_row lists 11) _ (refused 11 refl)
      (either (not (list_all (has_file store) numbers)) (refused_row lists 4) _ (refused 4 refl) (read_failed fails lists _ failed none))

  file : (caller : CallSign) (lists : List CallerList) (asked offset number : ℕ) (octets : Option (List ℕ)) → P (file_row caller lists asked offset number octets).replies
  file caller lists asked offset number None = refused 4 refl
  file caller lists asked offset number (Some octets) = either (nat_lt (length octets) offset) (refused_row lists 2) _ (refused 2 refl) none

  asks : (caller : CallSign) (store : Store) (lists : List CallerList) (asked offset : ℕ) (o : Option ℕ) → P (asked_row caller store lists asked offset o).replies
  asks caller store lists asked offset None = refused 11 refl
  asks caller store lists asked offset (Some number) = file caller lists asked offset number (file_of store number)

  tree : (caller : CallSign) (store : Store) (lists : List CallerList) (result : Result Tree SelFault) → P (tree_row caller store lists fails result).replies
  tree caller store lists (Err fault) = refused 8 refl
  tree caller store lists (Ok tokens) = read_failed fails lists _ failed (counted _)

  commands : (caller : CallSign) (store : Store) (lists : List CallerList) (packet : PacketValue) → IfSome (command_row caller store lists packet fails) (λ row. P row.replies)
  unfolding command_row
  commands caller store lists (download_cmd number offset lock) =
      either (lock == 0) (asked_row caller store lists number offset (asked_file lists caller number)) (refused_row lists 10) (asks caller store lists number offset (asked_file lists caller number))
      (refused 10 refl)
  commands caller store lists (dir_short_cmd number) = files caller store lists number short_due (listed_files lists caller number)
  commands caller store lists (dir_long_cmd number) = files caller store lists number long_due (listed_files lists caller number)
  commands caller store lists (select_cmd tokens) = either (nat_lt 2047 (length tokens)) (refused_row lists 8) _ (refused 8 refl) (tree caller store lists (tree_in tokens))
  commands caller store lists packet = tt

  in_sending : (lists : List CallerList) (packet : PacketValue) → IfSome (option_map (ended_row lists) (reply_sending packet)) (λ row. P row.replies)
  in_sending lists dl_nak_cmd = aborted
  in_sending lists packet = tt

  in_waiting : (lists : List CallerList) (packet : PacketValue) → IfSome (option_map (ended_row lists) (reply_waiting packet)) (λ row. P row.replies)
  in_waiting lists dl_ack_cmd = completed
  in_waiting lists dl_nak_cmd = aborted
  in_waiting lists packet = tt

  pub row_replies : (caller : CallSign) (store : Store) (lists : List CallerList) (state : DownloadState) (packet : PacketValue) → IfSome (download_row caller store lists state packet fails) (λ row. P row.replies)
  unfolding download_row
  row_replies caller store lists ready packet = commands caller store lists packet
  row_replies caller store lists (sending number place last) packet = in_sending lists packet
  row_replies caller store lists waiting packet = in_waiting lists packet
  row_replies caller store lists (listing dues) packet = tt
