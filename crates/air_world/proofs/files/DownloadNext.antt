-- Which packet of a client of a download comes next to its session, by how far both have come.
use Rattle.std.proofs.Common.{◌≡◌, ◌≢◌, inl, inr, ℕ, List, [], ◌∷◌, ◌++◌, map, refl, ap, sym, ◌∙◌, subst, ap₂}
use Rattle.ftl0_server.specs.Entries as session
use Rattle.ftl0_client.specs.Entries as job
use Rattle.air_world.specs.Files.DownloadDialogue.{unasked}
use Rattle.air_world.proofs.files.Names.{Ok, AllByRecursion, Item, PacketValue, data_end, data_part, download_cmd, SessionEntry, Attempt, ClientTookFront, ServerTookFront, AreFirstOf, Has, Took, IsGreeting, ServerSide, said_by_client, said_by_server, flat_map-one, one-left, Fetching, IsFetchingFile, IsWord, SaysDownload, Sending, asked, ended, fetching_said, refused, sending_items, sending_said, sends, silent, told, waits, answered_in}
use Rattle.air_world.proofs.files.JobTook.{took-item}
use Rattle.air_world.proofs.files.UploadNext.{answered-all}

-- ---- what a client took was said

had-ok : (packets : List PacketValue) (packet : PacketValue) → Has (map {B = Item} Ok packets) (Ok packet)
    → Has packets packet
had-ok [] packet has = has
had-ok (x ∷ packets) packet (inl is) = inl (cc)
had-ok (x ∷ packets) packet (inr there) = inr (had-ok packets packet there)

-- except for the greeting
pub took-said : (a : Attempt) (side : ServerSide) (packet : PacketValue) → ClientTookFront a side → Took a.client packet
    → side.greeting ≢ packet
    → Has (session.said_in side.entries) packet
took-said a side packet heard took other = by (had-ok (said_by_server side) packet all)
  where
    all : Has (map {B = Item} Ok (said_by_server side)) (Ok packet)
    all =
        subst (λ (items : List Item). Has items (Ok packet)) (sym heard.1)
        (one-left (λ it. it ≡ Ok packet) (job.items_in a.client.entries) heard.0
        (took-item a.client.entries (Ok packet) took))

    by : Has (said_by_server side) packet → Has (session.said_in side.entries) packet
    by (inl is) = absurd (other is)
    by (inr there) = there

greeting-other : (packet : PacketValue) → IsGreeting packet → packet ≢ data_end
greeting-other packet greets is = absurd (let it = greets.2 in cc)

-- no DATA_END is among DATA
none-among : (parts : List (List ℕ)) → ¬ Has (map data_part parts) data_end
none-among [] has = has
none-among (part ∷ parts) (inl is) = absurd (cc)
none-among (part ∷ parts) (inr there) = none-among parts there

-- ---- the next packet

-- the packet that may come next: DOWNLOAD_CMD of the client's, or its DL_ACK_CMD or DL_NAK_CMD
abbrev pub IsNextOf : ℕ → Attempt → Sending → Item → Type 0
IsNextOf number a unasked item =
    (offset : ℕ) × (item ≡ Ok (download_cmd number offset 0)) × Has (said_by_client a.client)
    (download_cmd number offset 0)
IsNextOf number a (refused offset code) item = ⊥
IsNextOf number a (sends offset parts) item = ⊥
IsNextOf number a (waits offset parts) item = (word : PacketValue) × (item ≡ Ok word) × IsWord word
IsNextOf number a (ended offset parts word last) item = ⊥

module _ (number : ℕ) (a : Attempt) (item : Item) where
  -- nothing comes of a client that has said no more
  none-more : (stage : Sending) (words : List PacketValue)
      → AreFirstOf (sending_items number stage ++ item ∷ []) (map Ok words) → words ≡ [] → ⊥
  none-more unasked words front is =
      absurd (let f = front.1 in let w : map {B = Item} Ok words ≡ [] = ap (map Ok) is in cc)
  none-more (refused offset code) words front is =
      absurd (let f = front.1 in let w : map {B = Item} Ok words ≡ [] = ap (map Ok) is in cc)
  none-more (sends offset parts) words front is =
      absurd (let f = front.1 in let w : map {B = Item} Ok words ≡ [] = ap (map Ok) is in cc)
  none-more (waits offset parts) words front is =
      absurd (let f = front.1 in let w : map {B = Item} Ok words ≡ [] = ap (map Ok) is in cc)
  none-more (ended offset parts word last) words front is =
      absurd (let f = front.1 in let w : map {B = Item} Ok words ≡ [] = ap (map Ok) is in cc)

  -- nor of one that has asked alone, but its command
  next-asked : (stage : Sending) (from : ℕ) → said_by_client a.client ≡ download_cmd number from 0 ∷ []
      → AreFirstOf (sending_items number stage ++ item ∷ []) (map Ok (download_cmd number from 0 ∷ []))
      → IsNextOf number a stage item
  next-asked unasked from said front = (
    from,
    let f = front.1 in cc,
    subst (λ (l : List PacketValue). Has l (download_cmd number from 0)) (sym said)
        (inl refl),
  )
  next-asked (refused offset code) from said front = absurd (let f = front.1 in cc)
  next-asked (sends offset parts) from said front = absurd (let f = front.1 in cc)
  next-asked (waits offset parts) from said front = absurd (let f = front.1 in cc)
  next-asked (ended offset parts word last) from said front = absurd (let f = front.1 in cc)

  -- a client that has said DL_ACK_CMD or DL_NAK_CMD took DATA_END before
  next-told : (stage : Sending) (from : ℕ) (it : PacketValue) → IsWord it → Has (sending_said stage) data_end
      → AreFirstOf (sending_items number stage ++ item ∷ []) (map Ok (download_cmd number from 0 ∷ it ∷ []))
      → IsNextOf number a stage item
  next-told unasked from it is has front = absurd has
  next-told (refused offset code) from it is (inl same) front = absurd (cc)
  next-told (refused offset code) from it is (inr has) front = absurd has
  next-told (sends offset parts) from it is has front = absurd (none-among parts has)
  next-told (waits offset parts) from it is has front = (it, let f = front.1 in cc, is)
  next-told (ended offset parts word last) from it is has front = absurd (let f = front.1 in cc)

  next-by : (stage : Sending) (fetches : Fetching) → said_by_client a.client ≡ fetching_said number fetches
      → IsFetchingFile a.client fetches
      → (Took a.client data_end → Has (sending_said stage) data_end)
      → AreFirstOf (sending_items number stage ++ item ∷ []) (map Ok (fetching_said number fetches))
      → IsNextOf number a stage item
  next-by stage silent said is end front = absurd (none-more stage [] front refl)
  next-by stage (asked from) said is end front = next-asked stage from said front
  next-by stage (told from word) said is end front = next-told stage from word is.0 (end is.1) front

-- ---- the packets of a session that lost none

-- The item that such a session takes next is so.
pub next-is : (number : ℕ) (a : Attempt) (side : ServerSide) (stage : Sending) (entry : SessionEntry) (item : Item)
    → answered_in side.entries ≡ sending_items number stage → session.said_in side.entries ≡ sending_said stage
    → AllByRecursion session.IsNotLost side.entries
    → SaysDownload number a.client → IsGreeting side.greeting → ClientTookFront a side
    → session.items_of entry ≡ item ∷ []
    → ServerTookFront a (record side { entries = side.entries ++ entry ∷ [] }) → IsNextOf number a stage item
next-is number a side stage entry item items said none says greets heard taken front =
    let here : session.items_in (side.entries ++ entry ∷ []) ≡ sending_items number stage ++ item ∷ [] =
    flat_map-one session.items_of side.entries entry
    ∙ ap₂ (λ (l m : List Item). l ++ m) (sym (answered-all side.entries none) ∙ items) taken in
    let end : Took a.client data_end → Has (sending_said stage) data_end = λ took.
    subst (λ (l : List PacketValue). Has l data_end) said
    (took-said a side data_end heard took (greeting-other side.greeting greets)) in
    next-by number a item stage says.stage says.said says.fetches end (
      front.0,
      sym (ap (λ (l : List PacketValue). map {B = Item} Ok l) says.said) ∙ front.1
          ∙ ap (λ (l : List Item). l ++ front.0) here,
    )
