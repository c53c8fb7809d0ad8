-- What the packets that one side took show of what the other one has said.
use Rattle.std.proofs.Common.{◌≡◌, ◌⊎◌, ℕ, List, [], ◌∷◌, ◌++◌, length, map, Ok, inl, inr, refl, sym, ◌∙◌, subst}
use Rattle.ftl0_server.specs.Entries as session
use Rattle.ftl0_client.specs.Entries as job
use Rattle.air_world.specs.Files.UploadDialogue.{IsWord}
use Rattle.air_world.specs.Files.UploadDialogue.{ended}
use Rattle.air_world.specs.Files.UploadDialogue.{refused}
use Rattle.air_world.proofs.files.Names.{flat_map-append, Item, PacketValue, data_end, login_resp, ul_ack_resp, ul_error_resp, ul_go_resp, ul_nak_resp, upload_cmd, SessionEntry, JobEntry, AreFirstOf, Has, OneIs, Answers, IsTaken, IsGreeting, ServerSide, said_by_server, one-last, one-left, one-right, AnsweredFirst, IsOfferFor, IsOfferedBy, Receiving, ServesUpload, answered_in, data_items, received_items, receives, receiving_said, unasked}

-- ---- lists

pub front-has : {X : Type 0} (xs all : List X) (x : X) → AreFirstOf xs all → Has xs x → Has all x
front-has xs all x front has = subst (λ l. OneIs (λ y. y ≡ x) l) (sym front.1) (one-left (λ y. y ≡ x) xs front.0 has)

-- the packet, as it is taken
abbrev pub whole : PacketValue → Item
whole packet = Ok packet

pub map-ok : (ps : List PacketValue) (item : Item) → Has (map whole ps) item
    → (p : PacketValue) × (whole p ≡ item) × Has ps p
map-ok [] item has = absurd has
map-ok (p ∷ ps) item (inl same) = (p, same, inl refl)
map-ok (p ∷ ps) item (inr there) = let found = map-ok ps item there in (found.0, found.1, inr found.2)

ok-same : (p q : PacketValue) → whole p ≡ whole q → p ≡ q
ok-same p q same = cc

pub first-same : (p : PacketValue) (item : Item) (ps : List Item) (items : List Item) → whole p ∷ ps ≡ item ∷ items
    → (item ≡ whole p) × (ps ≡ items)
first-same p item ps items same = (let is : item ≡ whole p = cc in is, let is : ps ≡ items = cc in is)

pub has-ok : (ps : List PacketValue) (p : PacketValue) → Has (map whole ps) (whole p) → Has ps p
has-ok ps p has = let found = map-ok ps (whole p) has in subst (λ q. Has ps q) (ok-same found.0 p found.1) found.2

-- the packet that the last entry took is one of those that all took
pub last-item : (es : List JobEntry) (e : JobEntry) (item : Item) → Has (job.items_of e) item
    → Has (job.items_in (es ++ e ∷ [])) item
last-item es e item has =
    subst (λ (l : List Item). Has l item) (sym (flat_map-append job.items_of es (e ∷ [])))
    (one-right (λ (y : Item). y ≡ item) (job.items_in es) (job.items_of e ++ [])
    (one-left (λ (y : Item). y ≡ item) (job.items_of e) [] has))

-- what a job took before its outcome is one of what it took
pub took-item : (es : List JobEntry) (item : Item) → OneIs (IsTaken item) es → Has (job.items_in es) item
took-item [] item one = one
took-item (job.took x row ∷ es) item (inl same) = inl same
took-item (job.took x row ∷ es) item (inr there) = inr (took-item es item there)
took-item (job.lost x row ∷ es) item (inl none) = absurd none
took-item (job.lost x row ∷ es) item (inr there) = inr (took-item es item there)
took-item (job.passed x ∷ es) item (inl none) = absurd none
took-item (job.passed x ∷ es) item (inr there) = inr (took-item es item there)
took-item (job.queued due ∷ es) item (inl none) = absurd none
took-item (job.queued due ∷ es) item (inr there) = took-item es item there

pub answered-item : (es : List SessionEntry) (item : Item) → Has (answered_in es) item → Has (session.items_in es) item
answered-item [] item has = has
answered-item (session.took x row ∷ es) item (inl same) = inl same
answered-item (session.took x row ∷ es) item (inr there) = inr (answered-item es item there)
answered-item (session.lost x row ∷ es) item has = inr (answered-item es item has)
answered-item (session.queued due ∷ es) item has = answered-item es item has

-- ---- a session of an upload

-- the offer of this session is this one
abbrev pub IsOffer : Receiving → ℕ → ℕ → Type 0
IsOffer unasked number offset = ⊥
IsOffer (refused code) number offset = ⊥
IsOffer (receives n o parts) number offset = (n ≡ number) × (o ≡ offset)
IsOffer (ended n o parts word) number offset = (n ≡ number) × (o ≡ offset)

module _ (known : ℕ) (file : List ℕ) (side : ServerSide) (greets : IsGreeting side.greeting)
    (serves : ServesUpload known file side) where
  -- except for LOGIN_RESP it has said what its stage has
  staged : (x : PacketValue) → ((moment flags : ℕ) → login_resp moment flags ≡ x → ⊥) → Has (said_by_server side) x
      → Has (receiving_said serves.stage) x
  staged x other (inl same) = absurd (other _ _ (sym greets.2 ∙ same))
  staged x other (inr there) = subst (λ (l : List PacketValue). Has l x) serves.said there

  pub the-offer : (number offset : ℕ) → Has (said_by_server side) (ul_go_resp number offset)
      → IsOffer serves.stage number offset
  the-offer number offset has =
      by serves.stage serves.offered (staged (ul_go_resp number offset) (λ m f same. cc same) has)
    where
      no-word : (word : PacketValue) → IsWord word → word ≡ ul_go_resp number offset → ⊥
      no-word word (inl ack) same = absurd (let no : ul_ack_resp ≡ ul_go_resp number offset = sym ack ∙ same in cc no)
      no-word word (inr nak) same =
          absurd (let no : ul_nak_resp nak.0 ≡ ul_go_resp number offset = sym nak.1 ∙ same in cc no)

      by : (stage : Receiving) → IsOfferedBy known stage → Has (receiving_said stage) (ul_go_resp number offset)
          → IsOffer stage number offset
      by unasked offer has = has
      by (refused code) offer (inl same) = absurd (cc same)
      by (refused code) offer (inr there) = there
      by (receives n o parts) offer (inl same) = (let is : n ≡ number = cc in is, let is : o ≡ offset = cc in is)
      by (receives n o parts) offer (inr there) = absurd there
      by (ended n o parts word) offer (inl same) = (let is : n ≡ number = cc in is, let is : o ≡ offset = cc in is)
      by (ended n o parts word) offer (inr (inl same)) = absurd (no-word word offer.1 same)
      by (ended n o parts word) offer (inr (inr there)) = absurd there

  -- two offers are the same
  pub one-offer : (number offset that place : ℕ) → Has (said_by_server side) (ul_go_resp number offset)
      → Has (said_by_server side) (ul_go_resp that place)
      → (number ≡ that) × (offset ≡ place)
  one-offer number offset that place has other =
      by serves.stage (the-offer number offset has) (the-offer that place other)
    where
      by : (stage : Receiving) → IsOffer stage number offset → IsOffer stage that place
          → (number ≡ that) × (offset ≡ place)
      by unasked one two = absurd one
      by (refused code) one two = absurd one
      by (receives n o parts) one two = (sym one.0 ∙ two.0, sym one.1 ∙ two.1)
      by (ended n o parts word) one two = (sym one.0 ∙ two.0, sym one.1 ∙ two.1)

  -- it was made in answer to UPLOAD_CMD, and is such as the number allows
  pub offer-answers : (number offset : ℕ) → Has (said_by_server side) (ul_go_resp number offset)
      → Answers side (Ok (upload_cmd known (length file))) (ul_go_resp number offset) × IsOfferFor known number offset
  offer-answers number offset has = by serves.stage serves.first serves.offered (the-offer number offset has)
    where
      go : (n o : ℕ) → n ≡ number → o ≡ offset → Answers side (Ok (upload_cmd known (length file))) (ul_go_resp n o)
          → IsOfferFor known n o
          → Answers side (Ok (upload_cmd known (length file)))
          (ul_go_resp number offset) × IsOfferFor known number offset
      go n o at to answers offer =
          let first = subst (λ (k : ℕ). Answers side (Ok (upload_cmd known (length file)))
          (ul_go_resp k o) × IsOfferFor known k o) at (answers, offer) in
          subst (λ (k : ℕ). Answers side (Ok (upload_cmd known (length file)))
          (ul_go_resp number k) × IsOfferFor known number k) to first

      by : (stage : Receiving) → AnsweredFirst known (length file) side stage → IsOfferedBy known stage
          → IsOffer stage number offset
          → Answers side (Ok (upload_cmd known (length file)))
          (ul_go_resp number offset) × IsOfferFor known number offset
      by unasked first offer is = absurd is
      by (refused code) first offer is = absurd is
      by (receives n o parts) first offer is = go n o is.0 is.1 first offer
      by (ended n o parts word) first offer is = go n o is.0 is.1 first offer.0

  -- a refusal was
  pub refusal-answers : (code : ℕ) → Has (said_by_server side) (ul_error_resp code)
      → Answers side (Ok (upload_cmd known (length file))) (ul_error_resp code)
  refusal-answers code has =
      by serves.stage serves.first serves.offered (staged (ul_error_resp code) (λ m f same. cc same) has)
    where
      no-word : (word : PacketValue) → IsWord word → word ≡ ul_error_resp code → ⊥
      no-word word (inl ack) same = absurd (let no : ul_ack_resp ≡ ul_error_resp code = sym ack ∙ same in cc no)
      no-word word (inr nak) same = absurd (let no : ul_nak_resp nak.0 ≡ ul_error_resp code = sym nak.1 ∙ same in cc no)

      by : (stage : Receiving) → AnsweredFirst known (length file) side stage → IsOfferedBy known stage
          → Has (receiving_said stage) (ul_error_resp code)
          → Answers side (Ok (upload_cmd known (length file))) (ul_error_resp code)
      by unasked first offer has = absurd has
      by (refused is) first offer (inl same) =
          subst (λ (p : PacketValue). Answers side (Ok (upload_cmd known (length file))) p) same first
      by (refused is) first offer (inr there) = absurd there
      by (receives n o parts) first offer (inl same) = absurd (cc same)
      by (receives n o parts) first offer (inr there) = absurd there
      by (ended n o parts word) first offer (inl same) = absurd (cc same)
      by (ended n o parts word) first offer (inr (inl same)) = absurd (no-word word offer.1 same)
      by (ended n o parts word) first offer (inr (inr there)) = absurd there

  -- it took DATA_END, if it said UL_ACK_RESP or UL_NAK_RESP
  pub word-behind : (word : PacketValue) → IsWord word → Has (said_by_server side) word
      → Has (session.items_in side.entries) (Ok data_end)
  word-behind word is has =
      answered-item side.entries (Ok data_end)
      (subst (λ (l : List Item). Has l (Ok data_end)) (sym serves.items)
      (by serves.stage (staged word (no-login word is) has)))
    where
      no-login : (word : PacketValue) → IsWord word → (moment flags : ℕ) → login_resp moment flags ≡ word → ⊥
      no-login word (inl ack) m f same = absurd (let no : login_resp m f ≡ ul_ack_resp = same ∙ ack in cc no)
      no-login word (inr nak) m f same = absurd (let no : login_resp m f ≡ ul_nak_resp nak.0 = same ∙ nak.1 in cc no)

      no-refusal : (word p : PacketValue) (code n o : ℕ) → IsWord word → (p ≡ ul_error_resp code) ⊎ (p ≡ ul_go_resp n o)
          → p ≡ word → ⊥
      no-refusal word p code n o (inl ack) (inl is) same =
          absurd (let no : ul_error_resp code ≡ ul_ack_resp = sym is ∙ same ∙ ack in cc no)
      no-refusal word p code n o (inl ack) (inr is) same =
          absurd (let no : ul_go_resp n o ≡ ul_ack_resp = sym is ∙ same ∙ ack in cc no)
      no-refusal word p code n o (inr nak) (inl is) same =
          absurd (let no : ul_error_resp code ≡ ul_nak_resp nak.0 = sym is ∙ same ∙ nak.1 in cc no)
      no-refusal word p code n o (inr nak) (inr is) same =
          absurd (let no : ul_go_resp n o ≡ ul_nak_resp nak.0 = sym is ∙ same ∙ nak.1 in cc no)

      by : (stage : Receiving) → Has (receiving_said stage) word
          → Has (received_items known (length file) stage) (Ok data_end)
      by unasked has = absurd has
      by (refused code) (inl same) = absurd (no-refusal word (ul_error_resp code) code 0 0 is (inl refl) same)
      by (refused code) (inr there) = absurd there
      by (receives n o parts) (inl same) = absurd (no-refusal word (ul_go_resp n o) 0 n o is (inr refl) same)
      by (receives n o parts) (inr there) = absurd there
      by (ended n o parts given) has =
          inr (one-last (λ (y : Item). y ≡ Ok data_end) (data_items parts) (Ok data_end) refl)

  -- an offer came after UPLOAD_CMD
  pub offer-behind : (number offset : ℕ) → Has (said_by_server side) (ul_go_resp number offset)
      → Has (session.items_in side.entries) (Ok (upload_cmd known (length file)))
  offer-behind number offset has =
      answered-item side.entries (Ok (upload_cmd known (length file)))
      (subst (λ (l : List Item). Has l (Ok (upload_cmd known (length file)))) (sym serves.items)
      (by serves.stage (the-offer number offset has)))
    where
      by : (stage : Receiving) → IsOffer stage number offset
          → Has (received_items known (length file) stage) (Ok (upload_cmd known (length file)))
      by unasked is = absurd is
      by (refused code) is = absurd is
      by (receives n o parts) is = inl refl
      by (ended n o parts word) is = inl refl
