-- Which packet comes next to a session of an upload, and what the session has offered.
use Rattle.std.proofs.Common.{◌≡◌, ◌⊎◌, inl, inr, ℕ, suc, ◌+◌, List, [], ◌∷◌, ◌++◌, length, map, drop, refl, ap, sym}
use Rattle.std.proofs.Common.{◌∙◌, subst, append_assoc}
use Rattle.ftl0_server.specs.Entries as session
use Rattle.ftl0_client.specs.Entries as job
use Rattle.air_world.specs.Files.UploadDialogue.{IsWord, Sending}
use Rattle.air_world.specs.Files.UploadDialogue.{asked, ended}
use Rattle.air_world.specs.Files.UploadDialogue.{refused, sending_said, sends, silent}
use Rattle.air_world.proofs.files.Names.{Ok, ⊤, AllByRecursion, Item, PacketValue, data_end, data_part, ul_go_resp, upload_cmd, SessionEntry, JobEntry, Attempt, ClientTookFront, Has, OneIs, IsTaken, Took, ClientSide, IsGreeting, ServerSide, said_by_server, one-left, one-right, GoesOnWith, IsOfferedBy, IsSendingFile, Receiving, answered_in, data_items, received_items, receives, receiving_said, unasked}
use Rattle.air_world.proofs.files.JobTook.{IsOffer, has-ok}

-- ---- what was taken

-- if no reply was lost each packet that was taken was answered
pub answered-all : (entries : List SessionEntry) → AllByRecursion session.IsNotLost entries
    → answered_in entries ≡ session.items_in entries
answered-all [] all = refl
answered-all (session.took item row ∷ entries) all =
    ap (λ (items : List Item). item ∷ items) (answered-all entries all.1)
answered-all (session.lost item row ∷ entries) all = absurd all.0
answered-all (session.queued due ∷ entries) all = answered-all entries all.1

-- The packet after those taken, and what was said after it.
pub record SaidNext (items more : List Item) (item : Item) (said : List PacketValue) : Type 0 where
  pub packet : PacketValue
  pub is_item : item ≡ Ok packet
  pub rest : List PacketValue
  pub here : drop (length items) said ≡ packet ∷ rest
  pub behind : drop (suc (length items)) said ≡ rest
  pub others : map Ok rest ≡ more

pub next-said : (items more : List Item) (item : Item) (said : List PacketValue) → map Ok said ≡ items ++ item ∷ more
    → SaidNext items more item said
next-said [] more item [] front = absurd (cc)
next-said [] more item (packet ∷ said) front =
    record { packet = packet; is_item = cc; rest = said; here = refl; behind = refl; others = cc }
next-said (first ∷ items) more item [] front = absurd (cc)
next-said (first ∷ items) more item (packet ∷ said) front =
    let later = next-said items more item said (cc) in
    record {
      packet = later.packet;
      is_item = later.is_item;
      rest = later.rest;
      here = later.here;
      behind = later.behind;
      others = later.others;
    }

-- ---- what a client that sends has said

-- a packet that goes on with a file is DATA or DATA_END
pub goes-first : (file : List ℕ) (place : ℕ) (packet : PacketValue) (packets : List PacketValue)
    → GoesOnWith file place (packet ∷ packets)
    → ((octets : List ℕ) × (packet ≡ data_part octets)) ⊎ (packet ≡ data_end)
goes-first file place (data_part octets) packets goes = inl (octets, refl)
goes-first file place data_end packets goes = inr refl
goes-first file place packet packets goes = absurd goes

-- nothing goes on with a file after DATA_END
pub goes-past : (file : List ℕ) (place : ℕ) (packets : List PacketValue) (parts : List (List ℕ)) (item : Item)
    (more : List Item)
    → GoesOnWith file place packets → map Ok packets ≡ data_items parts ++ Ok data_end ∷ item ∷ more → ⊥
goes-past file place [] [] item more goes front = cc
goes-past file place [] (part ∷ parts) item more goes front = cc
goes-past file place (packet ∷ packets) [] item more goes front =
    let is : packet ≡ data_end = cc in
    let last = subst (λ (p : PacketValue). GoesOnWith file place (p ∷ packets)) is goes in
    let none : packets ≡ [] = last.1 in
    let some : map Ok packets ≡ item ∷ more = cc in
    let same : map Ok [] ≡ item ∷ more = subst (λ (ps : List PacketValue). map Ok ps ≡ item ∷ more) none some in
    let x : ⊥ = cc in x
goes-past file place (packet ∷ packets) (part ∷ parts) item more goes front =
    let is : packet ≡ data_part part = cc in
    let last = subst (λ (p : PacketValue). GoesOnWith file place (p ∷ packets)) is goes in
    goes-past file (place + length part) packets parts item more last.1 (cc)

-- ---- what a client took of its session

taken-item : (entries : List JobEntry) (packet : PacketValue) → OneIs (IsTaken (Ok packet)) entries
    → Has (job.items_in entries) (Ok packet)
taken-item [] packet one = one
taken-item (job.took item row ∷ entries) packet (inl is) = inl is
taken-item (job.lost item row ∷ entries) packet (inl is) = absurd is
taken-item (job.passed item ∷ entries) packet (inl is) = absurd is
taken-item (job.queued due ∷ entries) packet (inl is) = absurd is
taken-item (entry ∷ entries) packet (inr one) =
    one-right (λ item. item ≡ Ok packet) (job.items_of entry) (job.items_in entries) (taken-item entries packet one)

-- a packet that the client took is one that its session said
pub took-said : (a : Attempt) (side : ServerSide) (packet : PacketValue) → ClientTookFront a side → Took a.client packet
    → Has (said_by_server side) packet
took-said a side packet heard took =
    let front = one-left (λ item. item ≡ Ok packet) (job.items_in a.client.entries) heard.0
    (taken-item a.client.entries packet took) in
    has-ok (said_by_server side) packet (subst (λ (items : List Item). Has items (Ok packet)) (sym heard.1) front)

-- ---- what a session has offered

no-greeting : (greeting packet : PacketValue) (number offset : ℕ) → IsGreeting greeting
    → greeting ≡ ul_go_resp number offset → ⊥
no-greeting greeting packet number offset greets is = let both = sym greets.2 ∙ is in cc

no-word : (word : PacketValue) (number offset : ℕ) → IsWord word → word ≡ ul_go_resp number offset → ⊥
no-word word number offset (inl acks) is = cc
no-word word number offset (inr refuses) is = let both = sym refuses.1 ∙ is in cc

pub offers-in : (known : ℕ) (stage : Receiving) (greeting : PacketValue) (number offset : ℕ) → IsGreeting greeting
    → IsOfferedBy known stage
    → Has (greeting ∷ receiving_said stage) (ul_go_resp number offset) → IsOffer stage number offset
offers-in known stage greeting number offset greets offered (inl is) =
    absurd (no-greeting greeting greeting number offset greets is)
offers-in known unasked greeting number offset greets offered (inr has) = has
offers-in known (refused code) greeting number offset greets offered (inr (inl is)) = absurd (cc)
offers-in known (refused code) greeting number offset greets offered (inr (inr has)) = has
offers-in known (receives own from parts) greeting number offset greets offered (inr (inl is)) = (cc, cc)
offers-in known (receives own from parts) greeting number offset greets offered (inr (inr has)) = absurd has
offers-in known (ended own from parts word) greeting number offset greets offered (inr (inl is)) = (cc, cc)
offers-in known (ended own from parts word) greeting number offset greets offered (inr (inr (inl is))) =
    absurd (no-word word number offset offered.1 is)
offers-in known (ended own from parts word) greeting number offset greets offered (inr (inr (inr has))) = absurd has

-- ---- the next packet, by how far the session has come

-- which packets may come next; what comes while a file is received is said elsewhere
abbrev pub IsNextIn : ℕ → ℕ → Receiving → Item → Type 0
IsNextIn known file_length unasked item = item ≡ Ok (upload_cmd known file_length)
IsNextIn known file_length (refused code) item = ⊥
IsNextIn known file_length (receives number offset parts) item = ⊤
IsNextIn known file_length (ended number offset parts word) item = ⊥

-- the client took an offer only if one was made
abbrev pub TookOffered : ClientSide → Receiving → Type 0
TookOffered side stage = (number offset : ℕ) → Took side (ul_go_resp number offset) → IsOffer stage number offset

pub next-in : (known : ℕ) (file : List ℕ) (side : ClientSide) (stage : Receiving) (sending : Sending) (item : Item)
    (more : List Item)
    → TookOffered side stage → IsSendingFile file side sending
    → map Ok (sending_said known (length file) sending) ≡ received_items known (length file) stage ++ item ∷ more
    → IsNextIn known (length file) stage item
next-in known file side unasked silent item more took sends_file front = absurd (cc)
next-in known file side unasked asked item more took sends_file front = cc
next-in known file side unasked (sends number offset packets) item more took sends_file front = cc
next-in known file side (refused code) silent item more took sends_file front = cc
next-in known file side (refused code) asked item more took sends_file front =
    let none : [] ≡ item ∷ more = cc in
    cc
next-in known file side (refused code) (sends number offset packets) item more took sends_file front =
    took number offset sends_file.0
next-in known file side (receives own from parts) sending item more took sends_file front = tt
next-in known file side (ended own from parts word) silent item more took sends_file front = cc
next-in known file side (ended own from parts word) asked item more took sends_file front =
    let none : [] ≡ (data_items parts ++ Ok data_end ∷ []) ++ item ∷ more = cc in
    let same = none ∙ append_assoc (data_items parts) (Ok data_end ∷ []) (item ∷ more) in
    goes-past file 0 [] parts item more tt same
next-in known file side (ended own from parts word) (sends number offset packets) item more took sends_file front =
    let behind : map Ok packets ≡ (data_items parts ++ Ok data_end ∷ []) ++ item ∷ more = cc in
    let same = behind ∙ append_assoc (data_items parts) (Ok data_end ∷ []) (item ∷ more) in
    goes-past file offset packets parts item more sends_file.1 same
