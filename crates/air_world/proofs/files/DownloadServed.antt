-- A session of a download goes on by one entry (FTL0 1990, downloading).
use Rattle.std.proofs.Common.{◌≡◌, ◌≢◌, inl, inr, ℕ, ◌≤◌, List, [], ◌∷◌, ◌++◌, length, map, drop, refl, ap, sym, ◌∙◌}
use Rattle.std.proofs.Common.{subst, Bool, true, Some, arith, append_assoc, append-nil, add-zero}
use Rattle.file_store.specs.Command.{after_all}
use Rattle.ftl0_session.specs.Table.{Row}
use Rattle.ftl0_server.specs.Entries as session
use Rattle.air_world.specs.Files.DownloadDialogue.{unasked}
use Rattle.air_world.proofs.files.Names.{Ok, AllByRecursion, All-nil, IsOctets, Fits, Item, PacketValue, data_end, data_part, download_cmd, Store, IsDueIn, octets_due, file_of, Session, State, command, download_part, sending, waiting, SessionEntry, after_row, Attempt, ClientTookFront, Has, Party, octets_said, IsGreeting, ServerSide, said_by_client, said_by_server, flat_map-one, IsDueNow, AreSent, IsLast, IsWord, SaysDownload, Sending, ServesDownload, ended, refused, sending_items, sending_said, sends, waits, IsSoundStore, answered_by, answered_in}
use Rattle.air_world.proofs.files.DownloadRows.{last_row, refusal, sending_row}
use Rattle.air_world.proofs.files.FetchesOn.{ComesOn, comes-silent}
use Rattle.air_world.proofs.files.FileOctets.{due-sending}
use Rattle.air_world.proofs.files.QuietKeeps.{gone_side}

-- What is known of a session of a download that is up.
pub record IsDownloading (store : Store) (a : Attempt) (old : ServerSide) (number : ℕ) : Type 0 where
  pub some : number ≢ 0
  pub serves : ServesDownload store number old
  pub says : SaysDownload number a.client
  pub greets : IsGreeting old.greeting
  pub heard : ClientTookFront a old
  pub none_lost : AllByRecursion session.IsNotLost old.entries
  pub sound : IsSoundStore store
  pub within :
      (offset : ℕ) (file : List ℕ) → Has (said_by_client a.client) (download_cmd number offset 0)
      → file_of store number ≡ Some file → offset ≤ length file

-- What an entry leaves of it.
pub record KeepsDownload (before now : Session) (party : Party) (a : Attempt) (old new : ServerSide) (number : ℕ)
    (entry : SessionEntry) : Type 0 where
  pub stays : now.store ≡ before.store
  pub lists : now.lists ≡ before.lists
  pub commands : session.commands_of entry ≡ []
  pub fits : AllByRecursion Fits (session.packets_said entry)
  pub serves : ServesDownload before.store number new
  pub due : new.is_up ≡ true → IsDueNow before.store new
  pub comes : ComesOn before.store party a old new

-- ---- a side after one entry

module _ (old : ServerSide) (entry : SessionEntry) (state : State) (up : Bool) where
  pub said-one : said_by_server (gone_side old (entry ∷ []) state up) ≡ said_by_server old ++ session.packets_said entry
  said-one = ap (λ (l : List PacketValue). old.greeting ∷ l) (flat_map-one session.packets_said old.entries entry)

  -- it waits for a command, or for DL_ACK_CMD or DL_NAK_CMD: nothing is due
  pub due-command : (store : Store) → state ≡ command → IsDueNow store (gone_side old (entry ∷ []) state up)
  due-command store is = record {
    lies = subst (λ (s : State). IsDueIn store (download_part s)) (sym is) tt;
    octets = subst (λ (s : State). IsOctets (octets_due store (download_part s))) (sym is) (All-nil _);
  }

  pub due-waiting : (store : Store) → state ≡ waiting → IsDueNow store (gone_side old (entry ∷ []) state up)
  due-waiting store is = record {
    lies = subst (λ (s : State). IsDueIn store (download_part s)) (sym is) tt;
    octets = subst (λ (s : State). IsOctets (octets_due store (download_part s))) (sym is) (All-nil _);
  }

-- an entry that was lost is among them
lost-among : (entries : List SessionEntry) (item : Item) (row : Row)
    → ¬ AllByRecursion session.IsNotLost (entries ++ session.lost item row ∷ [])
lost-among [] item row all = all.0
lost-among (entry ∷ entries) item row all = lost-among entries item row all.1

module _ (before : Session) (party : Party) (a : Attempt) (old : ServerSide) (number : ℕ)
    (it : IsDownloading before.store a old number) (up : Bool) where
  abbrev new_side : SessionEntry → State → ServerSide
  new_side entry state = gone_side old (entry ∷ []) state up

  -- ---- an entry that was lost

  -- the packets to which it replied are as they were, and it is over
  serves-lost : (item : Item) (row : Row)
      → ServesDownload before.store number (new_side (session.lost item row) row.state)
  serves-lost item row = record {
    stage = it.serves.stage;
    file = it.serves.file;
    items =
        flat_map-one answered_by old.entries (session.lost item row) ∙ append-nil (answered_in old.entries)
        ∙ it.serves.items;
    said =
        flat_map-one session.packets_said old.entries (session.lost item row) ∙ append-nil (session.said_in old.entries)
        ∙ it.serves.said;
    state = λ all. absurd (lost-among old.entries item row all);
    sent = it.serves.sent;
  }

  pub keeps-lost : (item : Item) (row : Row) → row.commands ≡ [] → row.lists ≡ before.lists → (up ≢ true)
      → KeepsDownload before (after_row before row) party a old (new_side (session.lost item row) row.state) number
      (session.lost item row)
  keeps-lost item row commands lists down = record {
    stays = ap (after_all before.store) commands;
    lists = lists;
    commands = commands;
    fits = tt;
    serves = serves-lost item row;
    due = λ is_up. absurd (down is_up);
    comes =
        comes-silent before.store party a old (new_side (session.lost item row) row.state) it.heard []
        (said-one old (session.lost item row) row.state up) refl;
  }

  -- ---- a packet that is taken

  -- a row without a command, whose replies are no DATA
  keeps-took : (item : Item) (row : Row) → row.commands ≡ [] → row.lists ≡ before.lists
      → AllByRecursion Fits row.replies → octets_said row.replies ≡ []
      → ServesDownload before.store number (new_side (session.took item row) row.state)
      → IsDueNow before.store (new_side (session.took item row) row.state)
      → KeepsDownload before (after_row before row) party a old (new_side (session.took item row) row.state) number
      (session.took item row)
  keeps-took item row commands lists fits silent serves due = record {
    stays = ap (after_all before.store) commands;
    lists = lists;
    commands = commands;
    fits = fits;
    serves = serves;
    due = λ is_up. due;
    comes =
        comes-silent before.store party a old (new_side (session.took item row) row.state) it.heard row.replies
        (said-one old (session.took item row) row.state up) silent;
  }

  -- what it answered and said with one packet more
  items-took : (item : Item) (row : Row) (items : List Item) → answered_in old.entries ≡ items
      → answered_in (old.entries ++ session.took item row ∷ []) ≡ items ++ item ∷ []
  items-took item row items is =
      flat_map-one answered_by old.entries (session.took item row) ∙ ap (λ (l : List Item). l ++ item ∷ []) is

  said-took : (item : Item) (row : Row) (said : List PacketValue) → session.said_in old.entries ≡ said
      → session.said_in (old.entries ++ session.took item row ∷ []) ≡ said ++ row.replies
  said-took item row said is =
      flat_map-one session.packets_said old.entries (session.took item row)
      ∙ ap (λ (l : List PacketValue). l ++ row.replies) is

  -- DOWNLOAD_CMD is refused: there is no such file
  pub keeps-refused : (offset : ℕ) → it.serves.stage ≡ unasked
      → KeepsDownload before (after_row before (refusal before.lists 4)) party a old
      (new_side (session.took (Ok (download_cmd number offset 0)) (refusal before.lists 4)) command) number
      (session.took (Ok (download_cmd number offset 0)) (refusal before.lists 4))
  keeps-refused offset is =
      let item : Item = Ok (download_cmd number offset 0) in
      let row = refusal before.lists 4 in
      keeps-took item row refl refl (omega arith, tt) refl
      (record {
        stage = refused offset 4;
        file = it.serves.file;
        items = items-took item row [] (it.serves.items ∙ ap (sending_items number) is);
        said = said-took item row [] (it.serves.said ∙ ap sending_said is);
        state = λ all. refl;
        sent = λ two. absurd (omega (arith, two));
      })
      (due-command old (session.took item row) command up before.store refl)

  -- it is granted: the file is sent from the offset on
  pub keeps-granted : (offset : ℕ) (file : List ℕ) → it.serves.stage ≡ unasked → file_of before.store number ≡ Some file
      → offset ≤ length file
      → KeepsDownload before (after_row before (sending_row before.lists number offset file)) party a old
      (new_side (session.took (Ok (download_cmd number offset 0)) (sending_row before.lists number offset file))
      (sending number offset (length file))) number
      (session.took (Ok (download_cmd number offset 0)) (sending_row before.lists number offset file))
  keeps-granted offset file is is_file within =
      let item : Item = Ok (download_cmd number offset 0) in
      let row = sending_row before.lists number offset file in
      keeps-took item row refl refl tt refl
      (record {
        stage = sends offset [];
        file = file;
        items = items-took item row [] (it.serves.items ∙ ap (sending_items number) is);
        said = said-took item row [] (it.serves.said ∙ ap sending_said is);
        state = λ all. ap (λ (place : ℕ). sending number place (length file)) (sym (add-zero offset));
        sent = record { is_file = is_file; within = within; sent = (drop offset file, refl) };
      })
      (due-sending before.store number offset file
      (new_side (session.took item row) row.state) it.sound is_file within refl)

  -- DL_ACK_CMD or DL_NAK_CMD came, and is answered
  fits-last : (last : PacketValue) → IsLast last → AllByRecursion Fits (last ∷ [])
  fits-last last (inl is) = (subst Fits (sym is) tt, tt)
  fits-last last (inr is) = (subst Fits (sym is) tt, tt)

  silent-last : (last : PacketValue) → IsLast last → octets_said (last ∷ []) ≡ []
  silent-last last (inl is) = ap (λ (p : PacketValue). octets_said (p ∷ [])) is
  silent-last last (inr is) = ap (λ (p : PacketValue). octets_said (p ∷ [])) is

  pub keeps-ended : (offset : ℕ) (parts : List (List ℕ)) (word last : PacketValue)
      → it.serves.stage ≡ waits offset parts → IsWord word → IsLast last
      → KeepsDownload before (after_row before (last_row before.lists last)) party a old
      (new_side (session.took (Ok word) (last_row before.lists last)) command) number
      (session.took (Ok word) (last_row before.lists last))
  keeps-ended offset parts word last is is_word is_last =
      let row = last_row before.lists last in
      keeps-took (Ok word) row refl refl (fits-last last is_last) (silent-last last is_last)
      (record {
        stage = ended offset parts word last;
        file = it.serves.file;
        items =
            items-took (Ok word) row (sending_items number (waits offset parts))
            (it.serves.items ∙ ap (sending_items number) is);
        said =
            said-took (Ok word) row (sending_said (waits offset parts)) (it.serves.said ∙ ap sending_said is)
            ∙ append_assoc (map data_part parts) (data_end ∷ []) (last ∷ []);
        state = λ all. refl;
        sent =
            (subst (λ (s : Sending). AreSent before.store number it.serves.file s) is it.serves.sent, is_word, is_last);
      })
      (due-command old (session.took (Ok word) row) command up before.store refl)
