-- A session of a download queues what is due: DATA with the next octets of the file, and then DATA_END.
use Rattle.std.proofs.Common.{◌≡◌, ℕ, ◌+◌, ◌-◌, ◌≤◌, ◌<◌, min, List, [], ◌∷◌, ◌++◌, length, map, take, refl, ap, sym}
use Rattle.std.proofs.Common.{◌∙◌, subst, Bool, false, Some, arith, append-nil, length-take}
use Rattle.ftl0_session.specs.Table.{DuePacket}
use Rattle.ftl0_server.specs.Entries as session
use Rattle.air_world.specs.Files.DownloadDialogue.{unasked}
use Rattle.air_world.proofs.files.Names.{Ok, concat, map-append, All-drop, All-take, IsOctets, Item, PacketValue, data_end, data_part, download_cmd, Store, most_data, Session, State, command, next_due, sending, waiting, file-complete, Attempt, ServerTookFront, AreFirstOf as AreFirstIn, Party, ServerSide, said_by_client, flat_map-one, AreSent, AreSentFrom, IsSendingState, Sending, ended, refused, sending_items, sending_said, sends, waits, answered_by, answered_in}
use Rattle.air_world.proofs.files.DownloadComing.{comes-data}
use Rattle.air_world.proofs.files.DownloadDue.{all-sent, due-then, left-is, left_then, more-sent, place-more, place-within}
use Rattle.air_world.proofs.files.DownloadDue.{place_then, rest_due}
use Rattle.air_world.proofs.files.UploadNext.{answered-all}
use Rattle.air_world.proofs.files.DownloadServed.{IsDownloading, KeepsDownload, due-waiting, said-one}
use Rattle.air_world.proofs.files.FetchesOn.{comes-silent}
use Rattle.air_world.proofs.files.FileOctets.{due-sending, octets-entry}
use Rattle.air_world.proofs.files.QuietKeeps.{gone_side}

-- ---- if anything is due

-- a session sends, if anything is due
abbrev pub IsSends : Sending → Type 0
IsSends stage = (offset : ℕ) × (parts : List (List ℕ)) × (stage ≡ sends offset parts)

none-due : (store : Store) (state : State) (due : DuePacket) → next_due store state false ≡ Some due → state ≡ command
    → ⊥
none-due store state due is at =
    absurd (let no : next_due store command false ≡ Some due = ap (λ (s : State). next_due store s false) (sym at)
    ∙ is in cc)

none-waiting : (store : Store) (state : State) (due : DuePacket) → next_due store state false ≡ Some due
    → state ≡ waiting → ⊥
none-waiting store state due is at =
    absurd (let no : next_due store waiting false ≡ Some due = ap (λ (s : State). next_due store s false) (sym at)
    ∙ is in cc)

pub due-sends : (store : Store) (number : ℕ) (file : List ℕ) (stage : Sending) (state : State) (due : DuePacket)
    → next_due store state false ≡ Some due
    → IsSendingState number file stage state → IsSends stage
due-sends store number file unasked state due is at = absurd (none-due store state due is at)
due-sends store number file (refused offset code) state due is at = absurd (none-due store state due is at)
due-sends store number file (sends offset parts) state due is at = (offset, parts, refl)
due-sends store number file (waits offset parts) state due is at = absurd (none-waiting store state due is at)
due-sends store number file (ended offset parts word last) state due is at = absurd (none-due store state due is at)

-- ---- what is due

module _ (before : Session) (party : Party) (a : Attempt) (old : ServerSide) (number : ℕ)
    (it : IsDownloading before.store a old number) (up : Bool)
    (offset : ℕ) (parts : List (List ℕ)) (is : it.serves.stage ≡ sends offset parts) where
  abbrev file : List ℕ
  file = it.serves.file

  sent : AreSentFrom before.store number offset file parts
  sent = subst (λ (s : Sending). AreSent before.store number file s) is it.serves.sent

  abbrev left : List ℕ
  left = left_then before.store number offset file parts sent

  items : answered_in old.entries ≡ sending_items number (sends offset parts)
  items = it.serves.items ∙ ap (sending_items number) is

  said : session.said_in old.entries ≡ map data_part parts
  said = it.serves.said ∙ ap sending_said is

  state-is : old.connected.state ≡ sending number (place_then before.store number offset file parts sent) (length file)
  state-is = subst (λ (s : Sending). IsSendingState number file s old.connected.state) is (it.serves.state it.none_lost)

  -- the packet that is due, by what is left
  due-rest : (due : DuePacket) → next_due before.store old.connected.state false ≡ Some due
      → due ≡ rest_due number (place_then before.store number offset file parts sent) (length file) left
  due-rest due there =
      let both : Some due ≡ Some
      (rest_due number (place_then before.store number offset file parts sent) (length file) left) =
      sym there ∙ ap (λ (s : State). next_due before.store s false) state-is
      ∙ due-then before.store number offset file parts sent in
      cc

  abbrev new_side : DuePacket → ServerSide
  new_side due = gone_side old (session.queued due ∷ []) due.state up

  abbrev Keeps : DuePacket → Type 0
  Keeps due =
      KeepsDownload before (record before { state = due.state }) party a old (new_side due) number (session.queued due)

  -- what it answered stays
  items-queued : (due : DuePacket)
      → answered_in (old.entries ++ session.queued due ∷ []) ≡ sending_items number (sends offset parts)
  items-queued due =
      flat_map-one answered_by old.entries (session.queued due) ∙ append-nil (answered_in old.entries) ∙ items

  said-queued : (due : DuePacket)
      → session.said_in (old.entries ++ session.queued due ∷ []) ≡ map data_part parts ++ due.packet ∷ []
  said-queued due =
      flat_map-one session.packets_said old.entries (session.queued due)
      ∙ ap (λ (l : List PacketValue). l ++ due.packet ∷ []) said

  -- all octets were sent: DATA_END
  abbrev end_due : DuePacket
  end_due = record { packet = data_end; state = waiting }

  keeps-end : left ≡ [] → Keeps end_due
  keeps-end none = record {
    stays = refl;
    lists = refl;
    commands = refl;
    fits = (tt, tt);
    serves =
        record {
          stage = waits offset parts;
          file = file;
          items = items-queued end_due;
          said = said-queued end_due;
          state = λ all. refl;
          sent = all-sent before.store number offset file parts sent none;
        };
    due = λ is_up. due-waiting old (session.queued end_due) waiting up before.store refl;
    comes =
        comes-silent before.store party a old (new_side end_due) it.heard (data_end ∷ [])
        (said-one old (session.queued end_due) waiting up) refl;
  }

  -- some are left: DATA with the next ones
  abbrev piece : List ℕ
  piece = take most_data left

  abbrev place : ℕ
  place = place_then before.store number offset file parts sent

  abbrev data_due : DuePacket
  data_due =
      record {
        packet = data_part piece;
        state = sending number (place + min most_data (length file - place))
            (length file);
      }

  -- they are octets of the file
  piece-octets : IsOctets piece
  piece-octets =
      let whole : IsOctets file = subst IsOctets (file-complete before.store number file sent.is_file).1
      (octets-entry before.store number it.sound) in
      All-take (λ octet. octet < 256) most_data left
      (subst IsOctets (left-is before.store number offset file parts sent)
      (All-drop (λ octet. octet < 256) place file whole))

  place-now : offset + length (concat (parts ++ piece ∷ [])) ≡ place + min most_data (length file - place)
  place-now = place-more before.store number offset file parts sent

  within-now : place + min most_data (length file - place) ≤ length file
  within-now = omega (arith, place-within before.store number offset file parts sent)

  front-is : (due : DuePacket) → ServerTookFront a (record old { entries = old.entries ++ session.queued due ∷ [] })
      → AreFirstIn {X = Item} (Ok (download_cmd number offset 0) ∷ []) (map Ok (said_by_client a.client))
  front-is due front =
      let same : session.items_in (old.entries ++ session.queued due ∷ []) ≡ Ok (download_cmd number offset 0) ∷ [] =
      flat_map-one session.items_of old.entries (session.queued due) ∙ append-nil (session.items_in old.entries)
      ∙ sym (answered-all old.entries it.none_lost) ∙ items in
      subst (λ (l : List Item). AreFirstIn l (map Ok (said_by_client a.client))) same front

  keeps-data : ServerTookFront a (record old { entries = old.entries ++ session.queued data_due ∷ [] }) → Keeps data_due
  keeps-data front = record {
    stays = refl;
    lists = refl;
    commands = refl;
    fits = ((omega (arith, length-take most_data left), piece-octets), tt);
    serves =
        record {
          stage = sends offset (parts ++ piece ∷ []);
          file = file;
          items = items-queued data_due;
          said = said-queued data_due ∙ sym (map-append data_part parts (piece ∷ []));
          state = λ all. ap (λ (n : ℕ). sending number n (length file)) (sym place-now);
          sent = more-sent before.store number offset file parts sent;
        };
    due = λ is_up.
        due-sending before.store number (place + min most_data (length file - place)) file
        (new_side data_due) it.sound sent.is_file within-now refl;
    comes =
        comes-data before.store party a old (new_side data_due) number offset file parts sent it.says
        (front-is data_due front) it.greets said it.heard
        (said-one old (session.queued data_due) data_due.state up);
  }

  -- either way
  pub keeps-queued : (due : DuePacket) → next_due before.store old.connected.state false ≡ Some due
      → ServerTookFront a (record old { entries = old.entries ++ session.queued due ∷ [] }) → Keeps due
  keeps-queued due there front = by left refl
    where
      by : (l : List ℕ) → left ≡ l → Keeps due
      by [] none =
          subst Keeps (sym (due-rest due there ∙ ap (rest_due number place (length file)) none)) (keeps-end none)
      by (octet ∷ octets) some =
          let is : due ≡ data_due =
          due-rest due there ∙ ap (rest_due number place (length file)) some
          ∙ ap (λ (l : List ℕ). record {
            packet = data_part (take most_data l);
            state = sending number (place + min most_data (length file - place)) (length file);
          }) (sym some) in
          subst Keeps (sym is)
          (keeps-data (subst (λ (d : DuePacket). ServerTookFront a
          (record old { entries = old.entries ++ session.queued d ∷ [] })) is front))
