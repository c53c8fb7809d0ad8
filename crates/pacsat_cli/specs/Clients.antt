-- What a run of the program did as a client of a server, by its words, by what was heard, by its notes' disk, and by its
-- shelf and output.
use Rattle.std.specs.Prelude.{◌≡◌, ◌⊎◌, ℕ, ◌≤◌, List, [], length, codes, Result, Ok, Err, IsErrOf, ⊤}
use Rattle.px_base.specs.Outside.{Gains, GainsPrefix, Rose}
use Rattle.px_base.specs.declared.out.Out.{Ghosts as OutGhosts}
use Rattle.px_base.specs.declared.shelf.Shelf.{Ghosts as ShelfGhosts}
use Rattle.turn_loop.specs.Lent.{Lent, Seen}
use Rattle.disk_model.specs.Runs.{CountsFault}
use Rattle.uploader.specs.declared.stop.SendStop.{SendStop}
use Rattle.uploader.specs.declared.stop.SendStop.TheVariants as stop
use Rattle.uploader.specs.declared.terms.ClientTerms.{ClientTerms}
use Rattle.uploader.specs.declared.terms.Sent.{Sent}
use Rattle.uploader.specs.Causes.{HasCauses}
use Rattle.uploader.specs.Fetching.{FetchEnds, FileAsked, file_asked}
use Rattle.uploader.specs.Listing.{FilesAsked, ListEnds, files_asked}
use Rattle.uploader.specs.Loading.{HasShelfCause, IsPastFile, RefusesFile}
use Rattle.uploader.specs.OnDisk.{RefusesNotes}
use Rattle.uploader.specs.Sending.{SendEnds}
use Rattle.command_words.specs.declared.client.ClientRequest.{ClientRequest}
use Rattle.command_words.specs.declared.client.ClientRequest.TheVariants as client
use Rattle.command_words.specs.declared.client.FetchRequest.{FetchRequest}
use Rattle.command_words.specs.declared.client.ListRequest.{ListRequest}
use Rattle.command_words.specs.declared.client.SendRequest.{SendRequest}
use Rattle.command_words.specs.declared.terms.ClientTerms.{ClientTerms as AskedTerms}
use Rattle.command_words.specs.Clients.{AreTermsInRange, HexText}
use Rattle.command_words.specs.Words.{IsFetch, IsList, IsSend}
use Rattle.pacsat_cli.specs.declared.status.Status.{Status}
use Rattle.pacsat_cli.specs.declared.status.Status.TheVariants.{Done, Out, OutOfMemory}
use Rattle.pacsat_cli.specs.Run.{Shows}
use Rattle.pacsat_cli.specs.Status.{line_of, numbered_line}
use Rattle.pacsat_cli.specs.Stops.{status_of_end, status_of_stop}

-- with what a run carries out a client's command
abbrev pub client_terms : AskedTerms → ClientTerms
client_terms asked = record { server = asked.server; me = asked.me; k = asked.k; polls = asked.polls }

-- This line was shown, and it is done; or a front of it was, and the output failed.
abbrev pub PutsLine : {O : Type 0} → OutGhosts O → List ℕ → O → O → Status → Type 0
PutsLine o line before now status =
    ((status ≡ Done) × Gains (o.shown before) (o.shown now) line × (o.faults now ≡ o.faults before))
    ⊎ ((status ≡ Out) × GainsPrefix (o.shown before) (o.shown now) line × Rose (o.faults before) (o.faults now))

-- What a command that ended so shows of it, and its status: once it is done its line; where it was stopped nothing.
abbrev pub Closes : {O T : Type 0} → OutGhosts O → (T → List ℕ) → O → O → Result T SendStop → Status → Type 0
Closes o line before now (Ok value) status = PutsLine o (line value) before now status
Closes o line before now (Err why) status = (status ≡ status_of_stop why) × (now ≡ before)

-- What a run is lent, with its shelf and its output, at one moment.
pub record Outside (D A C S O : Type 0) : Type 0 where
  pub lent : Lent D A C
  pub shelf : S
  pub out : O

abbrev pub outside : {D A C S O : Type 0} → Lent D A C → S → O → Outside D A C S O
outside lent shelf out = record { lent = lent; shelf = shelf; out = out }

-- the same with this output
abbrev pub with_out : {D A C S O : Type 0} → Outside D A C S O → O → Outside D A C S O
with_out all out = outside all.lent all.shelf out

-- The file of this name was sent, as far as that came: what was said to what was heard, what stands on the disk at each
-- moment, why it ended, as the status says, and what was shown of it.
pub record SendRan {A C D S O : Type 0} (see : Seen D A C) (s : ShelfGhosts S) (o : OutGhosts O)
    (old new : Outside D A C S O) (terms : ClientTerms) (name : List ℕ) (status : Status) : Type 0 where
  pub ended : Result Sent SendStop
  pub ends : SendEnds see old.lent new.lent (s.held old.shelf) terms name ended
  pub causes : HasCauses see old.lent new.lent ended
  pub file : RefusesFile (s.held old.shelf) name ended
  pub notes : IsPastFile ended → RefusesNotes (see.disk.content old.lent.disk) ended
  pub held : s.held new.shelf ≡ s.held old.shelf
  pub of_shelf : HasShelfCause (s.faults old.shelf) (s.faults new.shelf) ended
  pub closes : Closes o (λ sent. numbered_line (codes "acked ") sent.number) old.out new.out ended status

-- The file of this number was fetched, and kept under this name, as far as that came.
pub record FetchRan {A C D S O : Type 0} (see : Seen D A C) (s : ShelfGhosts S) (o : OutGhosts O)
    (old new : Outside D A C S O) (file : FileAsked) (status : Status) : Type 0 where
  pub ended : Result ⊤ SendStop
  pub ends : FetchEnds see s.held old.lent new.lent old.shelf new.shelf file ended
  pub causes : HasCauses see old.lent new.lent ended
  pub notes : RefusesNotes (see.disk.content old.lent.disk) ended
  pub of_shelf : CountsFault (s.faults old.shelf) (s.faults new.shelf) (IsErrOf ended stop.Shelf)
  pub closes : Closes o (λ _. numbered_line (codes "fetched ") file.number) old.out new.out ended status

-- The files that the selection of these tokens holds of were listed, as far as that came. Their lines are all that is shown.
pub record ListRan {A C D O : Type 0} (see : Seen D A C) (o : OutGhosts O) (old new : Lent D A C) (out out_now : O)
    (files : FilesAsked) (status : Status) : Type 0 where
  pub ended : Result ⊤ SendStop
  pub ends : ListEnds see o.shown old new out out_now files ended
  pub causes : HasCauses see old new ended
  pub notes : RefusesNotes (see.disk.content old.disk) ended
  pub of_out : CountsFault (o.faults out) (o.faults out_now) (IsErrOf ended stop.Out)
  pub status_is : status ≡ status_of_end ended

-- there was no memory for the tokens of a list, and nothing was touched
abbrev pub IsUnlisted : {A C D O : Type 0} → Lent D A C → Lent D A C → O → O → Status → Type 0
IsUnlisted old new out out_now status = (status ≡ OutOfMemory) × (new ≡ old) × (out_now ≡ out)

-- so it was with a list, by the text of its tokens
abbrev pub IsListed :
    {A C D O : Type 0} → Seen D A C → OutGhosts O → Lent D A C → Lent D A C → O → O → ListRequest → Status → Type 0
IsListed see o old new out out_now asked status =
    (tokens : List ℕ) → HexText asked.hex.now tokens
    → IsUnlisted old new out out_now status
    ⊎ ListRan see o old new out out_now (files_asked (client_terms asked.terms) tokens) status

-- so it was with the file that is to be sent
abbrev pub IsSent :
    {A C D S O : Type 0} → Seen D A C → ShelfGhosts S → OutGhosts O → Outside D A C S O → Outside D A C S O
    → SendRequest → Status → Type 0
IsSent see s o old new asked status = SendRan see s o old new (client_terms asked.terms) asked.name.now status

-- so it was with the one that is to be fetched
abbrev pub IsFetched :
    {A C D S O : Type 0} → Seen D A C → ShelfGhosts S → OutGhosts O → Outside D A C S O → Outside D A C S O
    → FetchRequest → Status → Type 0
IsFetched see s o old new asked status =
    FetchRan see s o old new (file_asked (client_terms asked.terms) asked.number asked.name.now) status

-- so it was with what a client was asked for
abbrev pub ClientRan :
    {A C D S O : Type 0} → Seen D A C → ShelfGhosts S → OutGhosts O → Outside D A C S O → Outside D A C S O
    → ClientRequest → Status → Type 0
ClientRan see s o old new (client.Send asked) status = IsSent see s o old new asked status
ClientRan see s o old new (client.Fetch asked) status = IsFetched see s o old new asked status
ClientRan see s o old new (client.List asked) status =
    IsListed see o old.lent new.lent old.out new.out asked status × (new.shelf ≡ old.shelf)

-- The numbers and the texts of a request are such as the words give: of `send` NAME has 1 to 64 octets,
pub record MaySend (asked : SendRequest) : Type 0 where
  pub ranges : AreTermsInRange asked.terms
  pub some : 1 ≤ length asked.name.now
  pub few : length asked.name.now ≤ 64

-- of `fetch` they are in their ranges,
pub record MayFetch (asked : FetchRequest) : Type 0 where
  pub ranges : AreTermsInRange asked.terms
  pub some : 1 ≤ asked.number

-- of `list` HEX is hexadecimal,
pub record MayList (asked : ListRequest) : Type 0 where
  pub ranges : AreTermsInRange asked.terms
  pub hex : (tokens : List ℕ) × HexText asked.hex.now tokens

-- and so of each request.
abbrev pub MayRun : ClientRequest → Type 0
MayRun (client.Send asked) = MaySend asked
MayRun (client.Fetch asked) = MayFetch asked
MayRun (client.List asked) = MayList asked

-- there was no memory to read the words, or for the tokens among them, and nothing was touched
abbrev pub IsUnread : {A C D S O : Type 0} → Outside D A C S O → Outside D A C S O → Status → Type 0
IsUnread old new status =
    (status ≡ OutOfMemory) × (new.lent ≡ old.lent) × (new.shelf ≡ old.shelf) × (new.out ≡ old.out)

-- A command did this to the output, and ended with this status, or its words couldn't be read. Then the status's line was
-- shown, if it has one.
pub record ThenShows {O : Type 0} (o : OutGhosts O) (Unread Ran : O → Type 0) (now : O) (status : Status) : Type 0 where
  pub mid : O
  pub ran : Unread mid ⊎ Ran mid
  pub line : Shows o.shown o.faults mid now (line_of status)
  pub done : line_of status ≡ [] → now ≡ mid

-- where the words ask for a file to be sent, it is sent so
abbrev pub RunsSend :
    {A C D S O : Type 0} → List (List ℕ) → Seen D A C → ShelfGhosts S → OutGhosts O → Outside D A C S O
    → Outside D A C S O → Status → Type 0
RunsSend words see s o old new status =
    (asked : AskedTerms) (name : List ℕ) → IsSend words asked name
    → ThenShows o (λ mid. IsUnread old (with_out new mid) status)
    (λ mid. SendRan see s o old (with_out new mid) (client_terms asked) name status) new.out status

-- where they ask for one to be fetched, it is fetched so
abbrev pub RunsFetch :
    {A C D S O : Type 0} → List (List ℕ) → Seen D A C → ShelfGhosts S → OutGhosts O → Outside D A C S O
    → Outside D A C S O → Status → Type 0
RunsFetch words see s o old new status =
    (asked : AskedTerms) (number : ℕ) (name : List ℕ) → IsFetch words asked number name
    → ThenShows o (λ mid. IsUnread old (with_out new mid) status)
    (λ mid. FetchRan see s o old (with_out new mid) (file_asked (client_terms asked) number name) status) new.out
    status

-- where they ask for a list, it is made so
abbrev pub RunsList :
    {A C D S O : Type 0} → List (List ℕ) → Seen D A C → OutGhosts O → Outside D A C S O → Outside D A C S O → Status
    → Type 0
RunsList words see o old new status =
    (asked : AskedTerms) (tokens : List ℕ) → IsList words asked tokens
    → ThenShows o (λ mid. IsUnread old (with_out new mid) status)
    (λ mid. ListRan see o old.lent new.lent old.out mid (files_asked (client_terms asked) tokens) status) new.out status
