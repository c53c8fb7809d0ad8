-- What a job that uploads has said, after what its session took.
use Rattle.std.proofs.Common.{◌≡◌, ℕ, ◌+◌, List, [], ◌∷◌, ◌++◌, length, drop, map, inl, inr, refl, sym, ◌∙◌, ap, subst}
use Rattle.std.proofs.Common.{suc, zero, length-append, add-zero, add_assoc}
use Rattle.ftl0_server.specs.Entries as session
use Rattle.ftl0_client_job.specs.declared.phases.UploadPhase.TheVariants as phase
use Rattle.air_world.specs.Files.UploadDialogue.{Sending, asked}
use Rattle.air_world.specs.Files.UploadDialogue.{sending_said, sends, silent}
use Rattle.air_world.proofs.files.Names.{Item, PacketValue, data_end, data_part, download_cmd, ul_go_resp, upload_cmd, UploadPhase, AreFirstOf, Has, OneIs, IsTaken, Offers, octets_come, octets_of_item, octets_taken, ClientSide, IsGreeting, ServerSide, said_by_client, said_by_server, GoesOnWith, IsSendingFile, SaysUpload, ServesUpload}
use Rattle.air_world.proofs.files.JobTook.{first-same, offer-behind, one-offer, whole}
use Rattle.air_world.proofs.files.JobUploadCame.{CameTo, goes-on}

-- ---- what is said, by how far the job came

pub says-came : (known : ℕ) (file : List ℕ) (side : ClientSide) (p : UploadPhase) → CameTo p known file side.entries
    → SaysUpload known file side
says-came known file side phase.Login came = record { stage = silent; said = came; sends_file = tt }
says-came known file side phase.Go came = record { stage = asked; said = came; sends_file = tt }
says-came known file side (phase.Sending number place) came = record {
  stage = sends number came.offset came.packets;
  said = came.said;
  sends_file = (came.took, goes-on file came.packets came.offset place came.goes);
}
says-came known file side (phase.Ack number) came =
    record { stage = sends number came.offset came.packets; said = came.said; sends_file = (came.took, came.goes_on) }

-- it stays so if nothing more is said
pub says-same : (known : ℕ) (file : List ℕ) (old new : ClientSide) → SaysUpload known file old
    → said_by_client new ≡ said_by_client old
    → ((packet : PacketValue) → OneIs (IsTaken (whole packet)) old.entries → OneIs (IsTaken (whole packet)) new.entries)
    → SaysUpload known file new
says-same known file old new says same more =
    record { stage = says.stage; said = same ∙ says.said; sends_file = by says.stage says.sends_file }
  where
    by : (stage : Sending) → IsSendingFile file old stage → IsSendingFile file new stage
    by silent is = tt
    by asked is = tt
    by (sends number offset packets) is = (more (ul_go_resp number offset) is.0, is.1)

-- nothing that goes on with a file asks for a download
no-fetch : (file : List ℕ) (packets : List PacketValue) (place number offset : ℕ) → GoesOnWith file place packets
    → Has packets (download_cmd number offset 0) → ⊥
no-fetch file [] place number offset goes has = has
no-fetch file (data_part octets ∷ packets) place number offset goes (inl same) = absurd (cc same)
no-fetch file (data_part octets ∷ packets) place number offset goes (inr there) =
    no-fetch file packets (place + length octets) number offset goes.1 there
no-fetch file (data_end ∷ packets) place number offset goes (inl same) = absurd (cc same)
no-fetch file (data_end ∷ packets) place number offset goes (inr there) =
    subst (λ (l : List PacketValue). Has l (download_cmd number offset 0)) goes.1 there
no-fetch file (packet ∷ packets) place number offset goes has = absurd goes

pub no-download : (known : ℕ) (file : List ℕ) (side : ClientSide) (number offset : ℕ) → SaysUpload known file side
    → Has (said_by_client side) (download_cmd number offset 0) → ⊥
no-download known file side number offset says has =
    by says.stage says.sends_file (subst (λ (l : List PacketValue). Has l (download_cmd number offset 0)) says.said has)
  where
    by : (stage : Sending) → IsSendingFile file side stage
        → Has (sending_said known (length file) stage) (download_cmd number offset 0) → ⊥
    by silent is has = has
    by asked is (inl same) = absurd (cc same)
    by asked is (inr there) = there
    by (sends n o packets) is (inl same) = absurd (cc same)
    by (sends n o packets) is (inr there) = no-fetch file packets o number offset is.1 there

-- ---- after what was taken

abbrev no_packets : List PacketValue
no_packets = []

drop-none : (n : ℕ) → drop n no_packets ≡ no_packets
drop-none zero = refl
drop-none (suc n) = refl

-- what goes on with a file goes on with it after its first packets, too
behind : (file : List ℕ) (items more : List Item) (packets : List PacketValue) (place : ℕ)
    → map whole packets ≡ items ++ more → GoesOnWith file place packets
    → GoesOnWith file (place + length (octets_taken items)) (drop (length items) packets)
behind file [] more packets place front goes = subst (λ (n : ℕ). GoesOnWith file n packets) (sym (add-zero place)) goes
behind file (item ∷ items) more [] place front goes = absurd (cc front)
behind file (item ∷ items) more (data_part octets ∷ packets) place front goes =
    let same = first-same (data_part octets) item (map whole packets) (items ++ more) front in
    let sum : length (octets_taken (item ∷ items)) ≡ length octets + length (octets_taken items) =
    ap (λ (i : Item). length (octets_of_item i ++ octets_taken items)) same.0
    ∙ length-append octets (octets_taken items) in
    subst (λ (n : ℕ). GoesOnWith file n (drop (length items) packets))
    (add_assoc place (length octets) (length (octets_taken items)) ∙ ap (λ (n : ℕ). place + n) (sym sum))
    (behind file items more packets (place + length octets) same.1 goes.1)
behind file (item ∷ items) more (data_end ∷ packets) place front goes =
    subst (λ (l : List PacketValue). GoesOnWith file (place + length (octets_taken (item ∷ items)))
    (drop (length items) l)) (sym goes.1)
    (subst (λ (l : List PacketValue). GoesOnWith file (place + length (octets_taken (item ∷ items))) l)
    (sym (drop-none (length items))) tt)
behind file (item ∷ items) more (packet ∷ packets) place front goes = absurd goes

module _ (known : ℕ) (file : List ℕ) (side : ServerSide) (greets : IsGreeting side.greeting)
    (serves : ServesUpload known file side) (client : ClientSide)
    (says : SaysUpload known file client) (number offset : ℕ) (offers : Offers side number offset)
    (heard : (packet : PacketValue) → OneIs (IsTaken (whole packet)) client.entries
    → Has (said_by_server side) packet) where
  -- by what the session took, which is something
  by-items : (items more : List Item) (stage : Sending) → IsSendingFile file client stage
      → map whole (sending_said known (length file) stage) ≡ items ++ more
      → Has items (whole (upload_cmd known (length file)))
      → GoesOnWith file (offset + length (octets_taken items))
      (drop (length items) (sending_said known (length file) stage))
  by-items [] more stage is front has = absurd has
  by-items (item ∷ items) more silent is front has = absurd (cc front)
  by-items (item ∷ items) more asked is front has =
      subst (λ (l : List PacketValue). GoesOnWith file (offset + length (octets_taken (item ∷ items))) l)
      (sym (drop-none (length items))) tt
  by-items (item ∷ items) more (sends n o packets) is front has =
      let same = first-same (upload_cmd known (length file)) item (map whole packets) (items ++ more) front in
      let place : o ≡ offset = (one-offer known file side greets serves n o number offset
      (heard (ul_go_resp n o) is.0) offers).1 in
      let none : length (octets_taken (item ∷ items)) ≡ length (octets_taken items) =
      ap (λ (i : Item). length (octets_of_item i ++ octets_taken items)) same.0 in
      subst (λ (k : ℕ). GoesOnWith file (offset + k) (drop (length items) packets)) (sym none)
      (subst (λ (k : ℕ). GoesOnWith file (k + length (octets_taken items)) (drop (length items) packets)) place
      (behind file items more packets o same.1 is.1))

  -- what was said after what the session took goes on with the file that it receives
  pub goes-behind : AreFirstOf (session.items_in side.entries) (map whole (said_by_client client))
      → GoesOnWith file (offset + octets_come side)
      (drop (length (session.items_in side.entries)) (said_by_client client))
  goes-behind front =
      subst (λ (l : List PacketValue). GoesOnWith file (offset + octets_come side)
      (drop (length (session.items_in side.entries)) l)) (sym says.said)
      (by-items (session.items_in side.entries) front.0 says.stage says.sends_file
      (ap (map whole) (sym says.said) ∙ front.1)
      (offer-behind known file side greets serves number offset offers))
