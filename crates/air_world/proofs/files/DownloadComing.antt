-- The next octets of the file go on with those that the client has got and those that come.
use Rattle.std.proofs.Common.{◌≡◌, ◌≢◌, inl, inr, ℕ, ◌+◌, List, [], ◌∷◌, ◌++◌, length, map, take, drop, refl, ap, sym}
use Rattle.std.proofs.Common.{◌∙◌, subst, Some, arith, length-append, append_assoc, add-zero, append-nil}
use Rattle.std.proofs.Common.{take-append-drop}
use Rattle.ftl0_server.specs.Entries as session
use Rattle.ftl0_client.specs.Entries as job
use Rattle.air_world.proofs.files.Names.{Ok, concat, drop-append-add, IsFront, Item, PacketValue, data_part, dl_ack_cmd, dl_nak_cmd, download_cmd, Store, most_data, file_of, Download, Attempt, ClientTookFront, AreFirstOf as AreFirstIn, Has, Party, octets_of_data, octets_said, octets_taken, IsGreeting, ServerSide, said_by_client, said_by_server, AreSentFrom, Fetching, IsFetchingFile, IsWord, SaysDownload, asked, fetching_said, silent, told, AreFirstIfAny, Fetches, coming_by, got}
use Rattle.air_world.proofs.files.DownloadDue.{left-is, left_then, place_then}
use Rattle.air_world.proofs.files.FetchesOn.{ComesOn, coming-more, octets-behind}

-- ---- what a client asked

-- DL_ACK_CMD and DL_NAK_CMD are no DOWNLOAD_CMD
pub word-other : (word : PacketValue) (number offset : ℕ) → IsWord word → word ≢ download_cmd number offset 0
word-other word number offset (inl is) same =
    absurd (let no : dl_ack_cmd ≡ download_cmd number offset 0 = sym is ∙ same in cc)
word-other word number offset (inr is) same =
    absurd (let no : dl_nak_cmd ≡ download_cmd number offset 0 = sym is ∙ same in cc)

-- the one command that a client of a download says is the one that its session took
module _ (a : Attempt) (number offset n from : ℕ) where
  asked-by : (stage : Fetching) → IsFetchingFile a.client stage
      → Has (fetching_said number stage) (download_cmd n from 0)
      → AreFirstIn {X = Item} (Ok (download_cmd number offset 0) ∷ []) (map Ok (fetching_said number stage))
      → (n ≡ number) × (from ≡ offset)
  asked-by silent is has front = absurd has
  asked-by (asked place) is (inl same) front = (cc, let f = front.1 in cc)
  asked-by (asked place) is (inr there) front = absurd there
  asked-by (told place word) is (inl same) front = (cc, let f = front.1 in cc)
  asked-by (told place word) is (inr (inl same)) front = absurd (word-other word n from is.0 same)
  asked-by (told place word) is (inr (inr there)) front = absurd there

  pub asked-one : SaysDownload number a.client → Has (said_by_client a.client) (download_cmd n from 0)
      → AreFirstIn {X = Item} (Ok (download_cmd number offset 0) ∷ []) (map Ok (said_by_client a.client))
      → (n ≡ number) × (from ≡ offset)
  asked-one says has front =
      asked-by says.stage says.fetches (subst (λ (l : List PacketValue). Has l (download_cmd n from 0)) says.said has)
      (subst (λ (l : List PacketValue). AreFirstIn {X = Item} (Ok (download_cmd number offset 0) ∷ []) (map Ok l))
      says.said front)

-- ---- what comes

pub said-parts : (parts : List (List ℕ)) → octets_said (map data_part parts) ≡ concat parts
said-parts [] = refl
said-parts (part ∷ parts) = ap (λ (l : List ℕ). part ++ l) (said-parts parts)

pub greeting-silent : (packet : PacketValue) → IsGreeting packet → octets_of_data packet ≡ []
greeting-silent packet greets = ap octets_of_data greets.2

-- the first of a file, or nothing
pub front-if-any : (store : Store) (number : ℕ) (file octets : List ℕ) → file_of store number ≡ Some file
    → AreFirstIfAny store number octets → IsFront octets file
front-if-any store number file [] is_file first = (file, refl)
front-if-any store number file (octet ∷ octets) is_file first =
    let it = first (λ none. absurd (cc)) in
    let same : it.0 ≡ file = let e = sym it.1 ∙ is_file in cc in
    subst (λ (f : List ℕ). IsFront (octet ∷ octets) f) same it.2

module _ (store : Store) (party : Party) (a : Attempt) (old : ServerSide) (number offset : ℕ) (file : List ℕ)
    (parts : List (List ℕ)) where
  -- this number of octets came and come
  came-length : IsGreeting old.greeting → session.said_in old.entries ≡ map data_part parts → ClientTookFront a old
      → length (octets_taken (job.items_in a.client.entries)) + length (coming_by a (Some old)) ≡ length (concat parts)
  came-length greets said heard =
      sym (length-append (octets_taken (job.items_in a.client.entries)) (coming_by a (Some old)))
      ∙ ap length
      (octets-behind (job.items_in a.client.entries) (said_by_server old) heard
      ∙ ap (λ (l : List ℕ). l ++ octets_said (session.said_in old.entries)) (greeting-silent old.greeting greets)
      ∙ ap octets_said said
      ∙ said-parts parts)

  -- with those that the client has got they lead up to the place
  place-is : (at : Download) (fetches : Fetches store party a at) → fetches.offset ≡ offset
      → length (octets_taken (job.items_in a.client.entries)) + length (coming_by a (Some old)) ≡ length (concat parts)
      → length (got party at.number ++ (at.rest ++ coming_by a (Some old))) ≡ offset + length (concat parts)
  place-is at fetches from came =
      let all : length (got party at.number ++ (at.rest ++ coming_by a (Some old))) ≡ length
      (got party at.number ++ at.rest) + length (coming_by a (Some old)) =
      ap length (sym (append_assoc (got party at.number) at.rest (coming_by a (Some old))))
      ∙ length-append (got party at.number ++ at.rest) (coming_by a (Some old)) in
      omega (arith, all, came, fetches.counted, from)

-- octets that lead up to a place, and those after it
goes-on : (octets file left : List ℕ) (place : ℕ) → IsFront octets file → length octets ≡ place → drop place file ≡ left
    → file ≡ octets ++ left
goes-on octets file left place front long is =
    let rest : drop (length octets) file ≡ front.0 =
    ap (λ (l : List ℕ). drop (length octets) l) front.1
    ∙ ap (λ (n : ℕ). drop n (octets ++ front.0)) (sym (add-zero (length octets)))
    ∙ drop-append-add octets front.0 0 in
    front.1 ∙ ap (λ (l : List ℕ). octets ++ l) (sym rest ∙ ap (λ (n : ℕ). drop n file) long ∙ is)

module _ (store : Store) (party : Party) (a : Attempt) (old new : ServerSide) (number offset : ℕ) (file : List ℕ)
    (parts : List (List ℕ))
    (sent : AreSentFrom store number offset file parts) where
  abbrev piece : List ℕ
  piece = take most_data (left_then store number offset file parts sent)

  pub comes-data : SaysDownload number a.client
      → AreFirstIn {X = Item} (Ok (download_cmd number offset 0) ∷ []) (map Ok (said_by_client a.client))
      → IsGreeting old.greeting → session.said_in old.entries ≡ map data_part parts → ClientTookFront a old
      → said_by_server new ≡ said_by_server old ++ data_part piece ∷ [] → ComesOn store party a old new
  comes-data says front greets said heard more at fetches first some =
      let left = left_then store number offset file parts sent in
      let same = asked-one a number offset at.number fetches.offset says fetches.asked front in
      let is_file : file_of store at.number ≡ Some file = ap (file_of store) same.0 ∙ sent.is_file in
      let were = got party at.number ++ (at.rest ++ coming_by a (Some old)) in
      let long = place-is store party a old number offset file parts at fetches same.1
      (came-length store party a old number offset file parts greets said heard) in
      let all : file ≡ were ++ left = goes-on were file left (place_then store number offset file parts sent)
      (front-if-any store at.number file were is_file first) long
      (left-is store number offset file parts sent) in
      let now : got party at.number ++ (at.rest ++ coming_by a (Some new)) ≡ were ++ piece =
      ap (λ (l : List ℕ). got party at.number ++ (at.rest ++ l))
      (coming-more store party a old new heard (data_part piece ∷ []) more
      ∙ ap (λ (l : List ℕ). coming_by a (Some old) ++ l) (append-nil piece))
      ∙ ap (λ (l : List ℕ). got party at.number ++ l) (sym (append_assoc at.rest (coming_by a (Some old)) piece))
      ∙ sym (append_assoc (got party at.number) (at.rest ++ coming_by a (Some old)) piece) in (
        file,
        is_file,
        (
          drop most_data left,
          all ∙ ap (λ (l : List ℕ). were ++ l) (sym (take-append-drop most_data left))
              ∙ sym (append_assoc were piece (drop most_data left))
              ∙ ap (λ (l : List ℕ). l ++ drop most_data left) (sym now),
        ),
      )
