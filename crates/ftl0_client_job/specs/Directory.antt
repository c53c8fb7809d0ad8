-- The list of the files that a selection matches (FTL0 1990, directories and selections): its states, and its rows of
-- the client's table.
use Rattle.std.specs.Prelude.{ℕ, ◌==◌, List, [], ◌∷◌, ◌++◌, length, nat_lt, Bool, ◌||◌, if◌then◌else◌}
use Rattle.ftl0_packets.specs.ErrorCodes.{octet_of}
use Rattle.ftl0_packets.specs.declared.error_code.ErrorCode.TheVariants as error
use Rattle.ftl0_packets.specs.Layout.{PacketValue, data_end, data_part, dir_short_cmd, dl_error_resp, kind_of}
use Rattle.ftl0_packets.specs.Layout.{login_resp, select_cmd, select_resp}
use Rattle.ftl0_client_job.specs.declared.ending.Outcome.TheVariants as outcome
use Rattle.ftl0_client_job.specs.declared.phases.DirectoryPhase.{DirectoryPhase}
use Rattle.ftl0_client_job.specs.declared.phases.DirectoryPhase.TheVariants as phase
use Rattle.ftl0_client_job.specs.Row.{Row, ends, goes_on, strange}
use Rattle.ftl0_client_job.specs.Short.{are_short_headers}

-- The list of the files of these tokens' selection, the octets of it that came, and how far it has come: LOGIN_RESP is
-- waited for; or SELECT_RESP; or headers come.
pub record Directory : Type 0 where
  pub tokens : List ℕ
  pub listing : List ℕ
  pub phase : DirectoryPhase

-- the same list, come so far
abbrev pub in_phase : Directory → DirectoryPhase → Directory
in_phase directory now = record directory { phase = now }

-- with these octets after those that came
abbrev pub with_octets : Directory → List ℕ → Directory
with_octets directory octets = record directory { listing = directory.listing ++ octets }

-- Login: LOGIN_RESP brings SELECT_CMD.
abbrev pub login_row : Directory → PacketValue → Row Directory
login_row directory (login_resp moment flags) =
    goes_on (in_phase directory phase.Selecting) [] (select_cmd directory.tokens ∷ [])
login_row directory packet = strange directory (kind_of packet)

-- Selecting, SELECT_RESP: if the selection matches no file the list is whole; else its first headers are asked for.
abbrev pub select_resp_row : Directory → ℕ → Row Directory
select_resp_row directory count =
    if count == 0 then ends directory [] outcome.Listed
    else goes_on (in_phase directory phase.Listing) [] (dir_short_cmd 0 ∷ [])

abbrev pub selecting_row : Directory → PacketValue → Row Directory
selecting_row directory (select_resp count) = select_resp_row directory count
selecting_row directory (dl_error_resp code) = ends directory [] (outcome.Refused code)
selecting_row directory packet = strange directory (kind_of packet)

-- how many octets a list has at most: 1,024 short headers of 73
abbrev pub longest_listing : ℕ
longest_listing = 74752

-- Listing, DATA: its octets are appended to the others, up to the most that a list may have.
abbrev pub data_row : Directory → List ℕ → Row Directory
data_row directory octets =
    if nat_lt longest_listing (length (directory.listing ++ octets)) then strange directory 0
    else goes_on (with_octets directory octets) [] []

-- Listing, DATA_END: the next headers are asked for. What isn't whole short headers is strange.
abbrev pub data_end_row : Directory → Row Directory
data_end_row directory =
    if are_short_headers directory.listing then goes_on directory [] (dir_short_cmd 0 ∷ []) else strange directory 1

-- Listing, "selection empty" (code 11, or 5): the list is whole. What isn't whole short headers is strange.
abbrev pub empty_row : Directory → Row Directory
empty_row directory =
    if are_short_headers directory.listing then ends directory [] outcome.Listed else strange directory 9

-- whether the code says that the selection is empty
abbrev pub is_empty_code : ℕ → Bool
is_empty_code code = (code == octet_of error.SelectionEmpty) || (code == octet_of error.AlsoSelectionEmpty)

abbrev pub listing_row : Directory → PacketValue → Row Directory
listing_row directory (data_part octets) = data_row directory octets
listing_row directory data_end = data_end_row directory
listing_row directory (dl_error_resp code) =
    if is_empty_code code then empty_row directory else ends directory [] (outcome.Refused code)
listing_row directory packet = strange directory (kind_of packet)

abbrev pub row_in : DirectoryPhase → Directory → PacketValue → Row Directory
row_in phase.Login directory packet = login_row directory packet
row_in phase.Selecting directory packet = selecting_row directory packet
row_in phase.Listing directory packet = listing_row directory packet

-- what a packet gives to a list
unfoldable pub directory_row : Directory → PacketValue → Row Directory
directory_row directory packet = row_in directory.phase directory packet

-- a list of the files of these tokens' selection, of which nothing came yet
abbrev pub new_directory : List ℕ → Directory
new_directory tokens = record { tokens = tokens; listing = []; phase = phase.Login }
