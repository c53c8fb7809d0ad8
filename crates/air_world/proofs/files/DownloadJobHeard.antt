-- What a packet that a client of a download takes shows of what its session has said.
use Rattle.std.proofs.Common.{◌≡◌, ◌≢◌, inl, inr, ℕ, List, [], ◌∷◌, ◌++◌, length, map, drop, refl, ap, sym, ◌∙◌, subst}
use Rattle.std.proofs.Common.{Ok, append_assoc, append-nil}
use Rattle.ftl0_server.specs.Entries as session
use Rattle.air_world.specs.Files.DownloadDialogue.{unasked}
use Rattle.air_world.proofs.files.Names.{concat, Item, PacketValue, data_end, data_part, dl_aborted_resp, dl_completed_resp, dl_error_resp, download_cmd, Store, SessionEntry, AreFirstOf, Has, octets_of_data, octets_said, octets_taken, ClientSide, IsGreeting, ServerSide, said_by_client, said_by_server, AreAllSent, AreSent, Fetching, IsFetchingFile, IsLast, SaysDownload, Sending, ServesDownload, asked, ended, fetching_said, refused, sending_items, sending_said, sends, silent, told, waits, answered_in}
use Rattle.air_world.proofs.files.DownloadComing.{greeting-silent, word-other}
use Rattle.air_world.proofs.files.FetchesOn.{octets-all}

-- ---- the packet among those that were said

-- What comes next is after what was taken.
pub record IsNext (items : List Item) (packet : PacketValue) (said : List PacketValue) : Type 0 where
  pub before : List PacketValue
  pub after : List PacketValue
  pub said_is : said ≡ before ++ packet ∷ after
  pub items_are : items ≡ map Ok before

heads : (x y : Item) (xs ys : List Item) → x ∷ xs ≡ y ∷ ys → (x ≡ y) × (xs ≡ ys)
heads x y xs ys is = (cc, cc)

pub next-of : (items : List Item) (packet : PacketValue) (said : List PacketValue)
    → AreFirstOf (items ++ Ok packet ∷ []) (map Ok said) → IsNext items packet said
next-of [] packet [] front = absurd (let f = front.1 in cc)
next-of [] packet (first ∷ said) front = record {
  before = [];
  after = said;
  said_is = let f = front.1 in let same : first ≡ packet = cc in ap (λ (p : PacketValue). p ∷ said) same;
  items_are = refl;
}
next-of (item ∷ items) packet [] front = absurd (let f = front.1 in cc)
next-of (item ∷ items) packet (first ∷ said) front =
    let both = heads (Ok first) item (map Ok said) ((items ++ Ok packet ∷ []) ++ front.0) front.1 in
    let next = next-of items packet said (front.0, both.1) in
    record {
      before = first ∷ next.before;
      after = next.after;
      said_is = ap (λ (l : List PacketValue). first ∷ l) next.said_is;
      items_are = ap (λ (i : Item). i ∷ items) (sym both.0) ∙ ap (λ (l : List Item). Ok first ∷ l) next.items_are;
    }

drop-before : (before behind : List PacketValue) → drop (length (map {B = Item} Ok before)) (before ++ behind) ≡ behind
drop-before [] behind = refl
drop-before (packet ∷ before) behind = drop-before before behind

module _ (items : List Item) (packet : PacketValue) (said : List PacketValue) (next : IsNext items packet said) where
  -- the octets that were taken
  pub taken-octets : octets_taken items ≡ octets_said next.before
  taken-octets = ap octets_taken next.items_are ∙ octets-all next.before

  -- those that come, of this packet and after it
  pub coming-octets : octets_said (drop (length items) said) ≡ octets_of_data packet ++ octets_said next.after
  coming-octets =
      ap (λ (l : List Item). octets_said (drop (length l) said)) next.items_are
      ∙ ap (λ (l : List PacketValue). octets_said (drop (length (map {B = Item} Ok next.before)) l)) next.said_is
      ∙ ap octets_said (drop-before next.before (packet ∷ next.after))

  -- and after it alone
  pub left-octets : octets_said (drop (length (items ++ Ok packet ∷ [])) said) ≡ octets_said next.after
  left-octets =
      let items_now : items ++ Ok packet ∷ [] ≡ map Ok (next.before ++ packet ∷ []) =
      ap (λ (l : List Item). l ++ Ok packet ∷ []) next.items_are ∙ sym (map-ok next.before) in
      let said_now : said ≡ (next.before ++ packet ∷ []) ++ next.after =
      next.said_is ∙ sym (append_assoc next.before (packet ∷ []) next.after) in
      ap (λ (l : List Item). octets_said (drop (length l) said)) items_now
      ∙ ap (λ (l : List PacketValue). octets_said
      (drop (length (map {B = Item} Ok (next.before ++ packet ∷ []))) l)) said_now
      ∙ ap octets_said (drop-before (next.before ++ packet ∷ []) next.after)
    where
      map-ok : (packets : List PacketValue)
          → map {B = Item} Ok (packets ++ packet ∷ []) ≡ map Ok packets ++ Ok packet ∷ []
      map-ok [] = refl
      map-ok (p ∷ packets) = ap (λ (l : List Item). Ok p ∷ l) (map-ok packets)

-- ---- one command

module _ (number : ℕ) (side : ClientSide) where
  one-by : (stage : Fetching) (n from : ℕ) → IsFetchingFile side stage
      → Has (fetching_said number stage) (download_cmd n from 0)
      → (more : List PacketValue) × (fetching_said number stage ≡ download_cmd number from 0 ∷ more) × (n ≡ number)
  one-by silent n from is has = absurd has
  one-by (asked place) n from is (inl same) =
      ([], let f : place ≡ from = cc in ap (λ (o : ℕ). download_cmd number o 0 ∷ []) f, cc)
  one-by (asked place) n from is (inr there) = absurd there
  one-by (told place word) n from is (inl same) =
      (word ∷ [], let f : place ≡ from = cc in ap (λ (o : ℕ). download_cmd number o 0 ∷ word ∷ []) f, cc)
  one-by (told place word) n from is (inr (inl same)) = absurd (word-other word n from is.0 same)
  one-by (told place word) n from is (inr (inr there)) = absurd there

  -- a client of a download asks once, for its file
  pub asks-once : SaysDownload number side → (n m from other : ℕ) → Has (said_by_client side) (download_cmd n from 0)
      → Has (said_by_client side) (download_cmd m other 0)
      → (n ≡ number) × (from ≡ other)
  asks-once says n m from other has too =
      let one = one-by says.stage n from says.fetches
      (subst (λ (l : List PacketValue). Has l (download_cmd n from 0)) says.said has) in
      let two = one-by says.stage m other says.fetches
      (subst (λ (l : List PacketValue). Has l (download_cmd m other 0)) says.said too) in (
        one.2,
        let same : download_cmd number from 0 ∷ one.0 ≡ download_cmd number other 0 ∷ two.0 = sym one.1 ∙ two.1 in
            cc,
      )

-- ---- a session that has answered nothing

answered-none : (entries : List SessionEntry) → session.items_in entries ≡ [] → answered_in entries ≡ []
answered-none [] none = refl
answered-none (session.took item row ∷ entries) none = absurd (cc)
answered-none (session.lost item row ∷ entries) none = absurd (cc)
answered-none (session.queued due ∷ entries) none = answered-none entries none

silent-by : (number : ℕ) (stage : Sending) → sending_items number stage ≡ [] → sending_said stage ≡ []
silent-by number unasked none = refl
silent-by number (refused offset code) none = absurd (cc)
silent-by number (sends offset parts) none = absurd (cc)
silent-by number (waits offset parts) none = absurd (cc)
silent-by number (ended offset parts word last) none = absurd (cc)

-- has said nothing
pub unasked-silent : (store : Store) (number : ℕ) (side : ServerSide) → ServesDownload store number side
    → session.items_in side.entries ≡ [] → session.said_in side.entries ≡ []
unasked-silent store number side serves none =
    serves.said ∙ silent-by number serves.stage (sym serves.items ∙ answered-none side.entries none)

-- ---- an error

no-error : (parts : List (List ℕ)) (more : List PacketValue) (code : ℕ) → (Has more (dl_error_resp code) → ⊥)
    → ¬ Has (map data_part parts ++ more) (dl_error_resp code)
no-error [] more code none has = none has
no-error (part ∷ parts) more code none (inl is) = absurd (cc)
no-error (part ∷ parts) more code none (inr there) = no-error parts more code none there

last-other : (last other : PacketValue) → IsLast last → dl_completed_resp ≢ other → dl_aborted_resp ≢ other
    → last ≢ other
last-other last other (inl is) completed aborted same = completed (sym is ∙ same)
last-other last other (inr is) completed aborted same = aborted (sym is ∙ same)

error-by : (store : Store) (number : ℕ) (file : List ℕ) (stage : Sending) (code : ℕ) → AreSent store number file stage
    → Has (sending_said stage) (dl_error_resp code) → code ≢ 2
error-by store number file unasked code sent has = absurd has
error-by store number file (refused offset given) code sent (inl same) =
    let f : given ≡ code = cc in subst (λ (n : ℕ). n ≢ 2) f sent
error-by store number file (refused offset given) code sent (inr there) = absurd there
error-by store number file (sends offset parts) code sent has =
    absurd (no-error parts [] code (λ none. none)
    (subst (λ (l : List PacketValue). Has l (dl_error_resp code)) (sym (append-nil (map data_part parts))) has))
error-by store number file (waits offset parts) code sent has = absurd (no-error parts (data_end ∷ []) code none has)
  where
    none : Has (data_end ∷ []) (dl_error_resp code) → ⊥
    none (inl is) = absurd (cc)
    none (inr there) = there
error-by store number file (ended offset parts word last) code sent has =
    absurd (no-error parts (data_end ∷ last ∷ []) code none has)
  where
    none : Has (data_end ∷ last ∷ []) (dl_error_resp code) → ⊥
    none (inl is) = absurd (cc)
    none (inr (inl is)) = last-other last (dl_error_resp code) sent.2 (λ same. absurd (cc)) (λ same. absurd (cc)) is
    none (inr (inr there)) = there

-- No session of a download refuses its client's offset as one above the file's length.
pub error-other : (store : Store) (number : ℕ) (side : ServerSide) (code : ℕ) → IsGreeting side.greeting
    → ServesDownload store number side → Has (said_by_server side) (dl_error_resp code) → code ≢ 2
error-other store number side code greets serves (inl is) = absurd (let it = greets.2 in cc)
error-other store number side code greets serves (inr has) =
    error-by store number serves.file serves.stage code serves.sent
    (subst (λ (l : List PacketValue). Has l (dl_error_resp code)) serves.said has)

-- ---- DATA_END

-- what was said before the one DATA_END
before-end : (parts : List (List ℕ)) (more before after : List PacketValue) → (Has more data_end → ⊥)
    → map data_part parts ++ data_end ∷ more ≡ before ++ data_end ∷ after
    → octets_said before ≡ concat parts
before-end [] more [] after none is = refl
before-end [] more (x ∷ before) after none is = absurd (none (among before (let f = is in cc)))
  where
    among : (l : List PacketValue) → more ≡ l ++ data_end ∷ after → Has more data_end
    among l same = subst (λ (m : List PacketValue). Has m data_end) (sym same) (behind l)
      where
        behind : (l : List PacketValue) → Has (l ++ data_end ∷ after) data_end
        behind [] = inl refl
        behind (y ∷ l) = inr (behind l)
before-end (part ∷ parts) more [] after none is = absurd (let f = is in cc)
before-end (part ∷ parts) more (x ∷ before) after none is =
    let first : x ≡ data_part part = cc in
    let rest : map data_part parts ++ data_end ∷ more ≡ before ++ data_end ∷ after = cc in
    ap (λ (p : PacketValue). octets_of_data p ++ octets_said before) first
    ∙ ap (λ (l : List ℕ). part ++ l) (before-end parts more before after none rest)

-- A session that said DATA_END has sent all: this number of octets was taken before it.
pub record HasSentAll (store : Store) (number : ℕ) (side : ServerSide) (octets : List ℕ) : Type 0 where
  pub offset : ℕ
  pub file : List ℕ
  pub parts : List (List ℕ)
  pub all : AreAllSent store number offset file parts
  pub octets_are : octets ≡ concat parts
  pub answered : Has (answered_in side.entries) (Ok (download_cmd number offset 0))

no-end : (parts : List (List ℕ)) (before after : List PacketValue) → map data_part parts ≡ before ++ data_end ∷ after
    → ⊥
no-end [] [] after is = absurd (cc)
no-end [] (x ∷ before) after is = absurd (cc)
no-end (part ∷ parts) [] after is = absurd (cc)
no-end (part ∷ parts) (x ∷ before) after is = no-end parts before after (let f = is in cc)

module _ (store : Store) (number : ℕ) (side : ServerSide) (serves : ServesDownload store number side) where
  sent-by : (stage : Sending) → AreSent store number serves.file stage
      → answered_in side.entries ≡ sending_items number stage
      → (before after : List PacketValue) → sending_said stage ≡ before ++ data_end ∷ after
      → HasSentAll store number side (octets_said before)
  sent-by unasked sent items [] after is = absurd (cc)
  sent-by unasked sent items (x ∷ before) after is = absurd (cc)
  sent-by (refused offset code) sent items [] after is = absurd (cc)
  sent-by (refused offset code) sent items (x ∷ []) after is = absurd (cc)
  sent-by (refused offset code) sent items (x ∷ y ∷ before) after is = absurd (cc)
  sent-by (sends offset parts) sent items before after is = absurd (no-end parts before after is)
  sent-by (waits offset parts) sent items before after is = record {
    offset = offset;
    file = serves.file;
    parts = parts;
    all = sent;
    octets_are = before-end parts [] before after (λ none. none) is;
    answered = subst (λ (l : List Item). Has l (Ok (download_cmd number offset 0))) (sym items) (inl refl);
  }
  sent-by (ended offset parts word last) sent items before after is = record {
    offset = offset;
    file = serves.file;
    parts = parts;
    all = sent.0;
    octets_are = before-end parts (last ∷ []) before after none is;
    answered = subst (λ (l : List Item). Has l (Ok (download_cmd number offset 0))) (sym items) (inl refl);
  }
    where
      none : Has (last ∷ []) data_end → ⊥
      none (inl same) = last-other last data_end sent.2 (λ no_end. absurd (cc)) (λ no_end. absurd (cc)) same
      none (inr there) = there

  end-behind : IsGreeting side.greeting → (before after : List PacketValue)
      → said_by_server side ≡ before ++ data_end ∷ after → HasSentAll store number side (octets_said before)
  end-behind greets [] after is = absurd (let it = greets.2 in let f : side.greeting ≡ data_end = cc in cc)
  end-behind greets (x ∷ before) after is =
      let first : x ≡ side.greeting = cc in
      let rest : session.said_in side.entries ≡ before ++ data_end ∷ after = cc in
      let silent_first : octets_of_data x ≡ [] = ap octets_of_data first ∙ greeting-silent side.greeting greets in
      subst (HasSentAll store number side) (sym (ap (λ (l : List ℕ). l ++ octets_said before) silent_first))
      (sent-by serves.stage serves.sent serves.items before after (sym serves.said ∙ rest))

  pub end-sent : IsGreeting side.greeting → (items : List Item) → IsNext items data_end (said_by_server side)
      → HasSentAll store number side (octets_taken items)
  end-sent greets items next =
      subst (HasSentAll store number side) (sym (taken-octets items data_end (said_by_server side) next))
      (end-behind greets next.before next.after next.said_is)
