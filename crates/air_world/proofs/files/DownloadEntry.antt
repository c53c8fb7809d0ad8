-- An entry of a session of a download is one of few: a command that is refused or granted, DL_ACK_CMD or DL_NAK_CMD, or
-- what is due.
use Rattle.std.proofs.Common.{◌≡◌, ◌⊎◌, inl, inr, ℕ, ◌≤◌, List, [], ◌∷◌, ◌++◌, length, refl, ap, sym, ◌∙◌, subst, Bool}
use Rattle.std.proofs.Common.{true, false, Option, None, Some}
use Rattle.ftl0_session.specs.Table.{Row}
use Rattle.ftl0_server.specs.Entries as session
use Rattle.ftl0_server.specs.Entries.{GoesBy, row_of}
use Rattle.air_world.specs.Files.DownloadDialogue.{unasked}
use Rattle.air_world.proofs.files.Names.{Ok, AllByRecursion, CallSign, Item, PacketValue, download_cmd, DownloadsLaw, file_of, Session, State, command, next_due, session_row, waiting, SessionEntry, after_row, Attempt, ServerTookFront, Party, ServerSide, IsLast, IsSendingState, IsWord, Sending, ended, refused, sends, waits}
use Rattle.air_world.proofs.files.DownloadNext.{IsNextOf, next-is}
use Rattle.air_world.proofs.files.DownloadQueued.{due-sends, keeps-queued}
use Rattle.air_world.proofs.files.DownloadRows.{last_row, refusal, row-none, row-sends, row-word, sending_row}
use Rattle.air_world.proofs.files.DownloadServed.{IsDownloading, KeepsDownload, keeps-ended, keeps-granted, keeps-lost}
use Rattle.air_world.proofs.files.DownloadServed.{keeps-refused}
use Rattle.air_world.proofs.files.QuietKeeps.{gone_side}

-- ---- the row of a packet that comes

module _ (before : Session) (number : ℕ) (stage : Sending) (item : Item) (row : Row) where
  record IsRefused : Type 0 where
    stage_is : stage ≡ unasked
    offset : ℕ
    item_is : item ≡ Ok (download_cmd number offset 0)
    row_is : row ≡ refusal before.lists 4

  record IsGranted : Type 0 where
    stage_is : stage ≡ unasked
    offset : ℕ
    file : List ℕ
    is_file : file_of before.store number ≡ Some file
    within : offset ≤ length file
    item_is : item ≡ Ok (download_cmd number offset 0)
    row_is : row ≡ sending_row before.lists number offset file

  record IsEnded : Type 0 where
    offset : ℕ
    parts : List (List ℕ)
    stage_is : stage ≡ waits offset parts
    word : PacketValue
    last : PacketValue
    is_word : IsWord word
    is_last : IsLast last
    item_is : item ≡ Ok word
    row_is : row ≡ last_row before.lists last

  -- the row is one of these
  abbrev IsRowHere : Type 0
  IsRowHere = IsRefused ⊎ (IsGranted ⊎ IsEnded)

-- it has no command, and leaves the lists
row-quiet : (before : Session) (number : ℕ) (stage : Sending) (item : Item) (row : Row)
    → IsRowHere before number stage item row → (row.commands ≡ []) × (row.lists ≡ before.lists)
row-quiet before number stage item row (inl it) =
    (ap (λ (r : Row). r.commands) it.row_is, ap (λ (r : Row). r.lists) it.row_is)
row-quiet before number stage item row (inr (inl it)) =
    (ap (λ (r : Row). r.commands) it.row_is, ap (λ (r : Row). r.lists) it.row_is)
row-quiet before number stage item row (inr (inr it)) =
    (ap (λ (r : Row). r.commands) it.row_is, ap (λ (r : Row). r.lists) it.row_is)

module _ (law : DownloadsLaw) (caller : CallSign) (moment : ℕ) (before : Session) (a : Attempt) (old : ServerSide)
    (number : ℕ) (it : IsDownloading before.store a old number)
    (file : List ℕ) (item : Item) (row : Row) (is_row : row ≡ row_of caller moment before item) where
  row-in : (state : State) (such : Item) → before.state ≡ state → item ≡ such
      → row ≡ session_row caller moment before.store before.lists state such false
  row-in state such state_is item_is =
      is_row ∙ ap (λ (s : State). session_row caller moment before.store before.lists s item false) state_is
      ∙ ap (λ (i : Item). session_row caller moment before.store before.lists state i false) item_is

  row-here : (stage : Sending) → IsSendingState number file stage before.state → IsNextOf number a stage item
      → IsRowHere before number stage item row
  row-here unasked state_is (offset, item_is, has) = by (file_of before.store number) refl
    where
      by : (o : Option (List ℕ)) → file_of before.store number ≡ o → IsRowHere before number unasked item row
      by None none = inl (record {
        stage_is = refl;
        offset = offset;
        item_is = item_is;
        row_is =
            row-in command (Ok (download_cmd number offset 0)) state_is item_is
            ∙ row-none law caller moment before.store before.lists number offset it.some none;
      })
      by (Some found) there =
          let within = it.within offset found has there in
          inr (inl (record {
            stage_is = refl;
            offset = offset;
            file = found;
            is_file = there;
            within = within;
            item_is = item_is;
            row_is =
                row-in command (Ok (download_cmd number offset 0)) state_is item_is
                ∙ row-sends law caller moment before.store before.lists number offset found it.some there within;
          }))
  row-here (refused offset code) state_is next = absurd next
  row-here (sends offset parts) state_is next = absurd next
  row-here (waits offset parts) state_is (word, item_is, is_word) =
      let answer = row-word law caller moment before.store before.lists word is_word in
      inr (inr (record {
        offset = offset;
        parts = parts;
        stage_is = refl;
        word = word;
        last = answer.0;
        is_word = is_word;
        is_last = answer.1;
        item_is = item_is;
        row_is = row-in waiting (Ok word) state_is item_is ∙ answer.2;
      }))
  row-here (ended offset parts word last) state_is next = absurd next

-- ---- the entry

module _ (law : DownloadsLaw) (caller : CallSign) (moment : ℕ) (before : Session) (party : Party) (a : Attempt)
    (old : ServerSide) (number : ℕ)
    (it : IsDownloading before.store a old number) (state_is : before.state ≡ old.connected.state) (up : Bool) where
  abbrev Keeps : SessionEntry → Session → Type 0
  Keeps entry now = KeepsDownload before now party a old (gone_side old (entry ∷ []) now.state up) number entry

  took-as : (item such : Item) (row given : Row) → item ≡ such → row ≡ given
      → Keeps (session.took such given) (after_row before given) → Keeps (session.took item row) (after_row before row)
  took-as item such row given item_is row_is keeps =
      subst (λ (i : Item). Keeps (session.took i row) (after_row before row)) (sym item_is)
      (subst (λ (r : Row). Keeps (session.took such r) (after_row before r)) (sym row_is) keeps)

  keeps-row : (item : Item) (row : Row) → IsRowHere before number it.serves.stage item row
      → Keeps (session.took item row) (after_row before row)
  keeps-row item row (inl here) =
      took-as item (Ok (download_cmd number here.offset 0)) row (refusal before.lists 4) here.item_is here.row_is
      (keeps-refused before party a old number it up here.offset here.stage_is)
  keeps-row item row (inr (inl here)) =
      took-as item (Ok (download_cmd number here.offset 0)) row
      (sending_row before.lists number here.offset here.file) here.item_is here.row_is
      (keeps-granted before party a old number it up here.offset here.file here.stage_is here.is_file here.within)
  keeps-row item row (inr (inr here)) =
      took-as item (Ok here.word) row (last_row before.lists here.last) here.item_is here.row_is
      (keeps-ended before party a old number it up here.offset here.parts here.word here.last here.stage_is here.is_word
      here.is_last)

  here-is : (entry : SessionEntry) (item : Item) (row : Row) → row ≡ row_of caller moment before item
      → session.items_of entry ≡ item ∷ []
      → ServerTookFront a (record old { entries = old.entries ++ entry ∷ [] })
      → IsRowHere before number it.serves.stage item row
  here-is entry item row is_row taken front =
      row-here law caller moment before a old number it it.serves.file item row is_row it.serves.stage
      (subst (λ (s : State). IsSendingState number it.serves.file it.serves.stage s) (sym state_is)
      (it.serves.state it.none_lost))
      (next-is number a old it.serves.stage entry item it.serves.items it.serves.said it.none_lost it.says it.greets
      it.heard taken front)

  -- any entry
  pub keeps-entry : (entry : SessionEntry) (now : Session) → GoesBy caller moment before (entry ∷ []) now
      → (up ≡ true → AllByRecursion session.IsNotLost (entry ∷ []))
      → ServerTookFront a (record old { entries = old.entries ++ entry ∷ [] }) → Keeps entry now
  keeps-entry (session.took item row) now goes none front =
      subst (λ (n : Session). Keeps (session.took item row) n) (sym goes.1)
      (keeps-row item row (here-is (session.took item row) item row goes.0 refl front))
  keeps-entry (session.lost item row) now goes none front =
      let quiet = row-quiet before number it.serves.stage item row
      (here-is (session.lost item row) item row goes.0 refl front) in
      subst (λ (n : Session). Keeps (session.lost item row) n) (sym goes.2)
      (keeps-lost before party a old number it up item row quiet.0 quiet.1 (λ is_up. (none is_up).0))
  keeps-entry (session.queued due) now goes none front =
      let there = ap (λ (s : State). next_due before.store s false) (sym state_is) ∙ goes.0 in
      let from = due-sends before.store number it.serves.file it.serves.stage old.connected.state due there
      (it.serves.state it.none_lost) in
      subst (λ (n : Session). Keeps (session.queued due) n) (sym goes.1)
      (keeps-queued before party a old number it up from.0 from.1 from.2 due there front)
