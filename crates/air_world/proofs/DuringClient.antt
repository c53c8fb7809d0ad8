-- What is promised holds while an event of a client's is under way, with its notes after the first of its commands.
use Rattle.std.proofs.Common.{◌≡◌, ℕ, zero, suc, List, [], ◌∷◌, length, Some, refl, sym, ap, subst}
use Rattle.client_notes.specs.Several as notes
use Rattle.ftl0_client_job.specs.declared.work.Work.TheVariants as work
use Rattle.ftl0_client.specs.Client as client
use Rattle.ftl0_client.specs.Client.{ClientEvent}
use Rattle.air_world.specs.Events.{DeliversToClient}
use Rattle.air_world.proofs.Names.{sha256, slice_get, same_Some, HasNoFault, HasNoFront, Transmission, fresh_task, NotesCommand, after_all, Lists, new_directory, new_download, new_job, new_upload, Work, asks, SomeStepLaw, Attempt, Placed, Asked, Party, to_client_delivered, with_newest, HasFacts, started_with, client_commands, ClientPart, ClientTakes, IsPartOf, IsResuming, asking, asking_file, next_upload, part_with, with_current, HeadlineIn, noted_first, HasParty, IsPossible, MayCome, Event, ask_download, ask_list, ask_resume, ask_upload, break_client, cut_client, cut_server, tick_client, tick_server, to_client, to_server, Sound, ClientLaws, PartyAt, World}
use Rattle.air_world.proofs.ClientHeard.{IsReceiving, heard-facts, nothing-noted}
use Rattle.air_world.proofs.CutWorld.{take-none}
use Rattle.air_world.proofs.DuringNotes.{AreRight, StaysBut, headline-noted}
use Rattle.air_world.proofs.DuringRight.{right-facts, right-own, right-tasked}
use Rattle.air_world.proofs.Marked.{lawful-sent}

-- the notes of the client of this part, after this number of the event's commands
abbrev noted : ClientPart → ℕ → Lists
noted part count = notes.after_first count part.party.client.lists (client_commands part)

-- a client is that one, with whatever notes
abbrev with_lists : Party → Lists → Party
with_lists party lists = record party { client = record party.client { lists = lists } }

stays-itself : (party : Party) (lists : Lists) → StaysBut party (with_lists party lists)
stays-itself party lists = record {
  me = refl;
  server = refl;
  link = refl;
  uploads = refl;
  each = λ place a is. (a, is, refl, refl);
}

-- also if a delivery to it is marked
stays-delivered : (party : Party) (place : ℕ) (t : Transmission) (lists : Lists)
    → StaysBut party (with_lists (with_current (to_client_delivered place t) party) lists)
stays-delivered party place t lists = record {
  me = refl;
  server = refl;
  link = refl;
  uploads = refl;
  each = each party.attempts;
}
  where
    each : (attempts : List Attempt) (at : ℕ) (a : Attempt)
        → slice_get (with_newest (to_client_delivered place t) attempts) at ≡ Some a
        → (was : Attempt) × (slice_get attempts at ≡ Some was) × (a.client ≡ was.client) × (a.server ≡ was.server)
    each [] at a is = absurd cc
    each (b ∷ older) zero a is =
        let same : to_client_delivered place t b ≡ a = same_Some (to_client_delivered place t b) a is in
        (b, refl, ap (λ (it : Attempt). it.client) (sym same), ap (λ (it : Attempt). it.server) (sym same))
    each (b ∷ older) (suc at) a is = (a, is, refl, refl)

module _ (laws : ClientLaws) (some_step : SomeStepLaw) (fault : HasNoFault) (front : HasNoFront)
    (world : World) (sound : Sound world) where
  abbrev pub Holds : ℕ → ClientPart → ℕ → Type 0
  Holds c part count = HeadlineIn (noted_first world c part count) world.server.store

  module _ (c : ℕ) (party : Party) (is : PartyAt world c party) where
    -- no command is noted
    quiet : (coming : ClientEvent) (count : ℕ) → client_commands (part_with party coming) ≡ []
        → Holds c (part_with party coming) count
    quiet coming count none =
        let lists = noted (part_with party coming) count in
        headline-noted fault front world sound c party (with_lists party lists) is
        (stays-itself party lists)
        (subst (λ lists. AreRight world party lists)
        (sym (nothing-noted count party.client.lists (client_commands (part_with party coming)) none))
        (right-own fault front world sound c party is))

    -- the start of a task is
    tasked : (it : Asked) (count : ℕ) → Holds c (asking_file world it party) count
    tasked it count =
        let lists = noted (asking_file world it party) count in
        headline-noted fault front world sound c party (with_lists party lists) is
        (stays-itself party lists) (by count)
      where
        start : NotesCommand
        start =
            fresh_task party.client.lists party.client.server party.client.me it.name (length it.file) (sha256 it.file)

        by : (count : ℕ) → AreRight world party (noted (asking_file world it party) count)
        by zero = right-own fault front world sound c party is
        by (suc count) =
            subst (λ (more : List NotesCommand). AreRight world party (after_all party.client.lists (start ∷ more)))
            (sym (take-none count)) (right-tasked fault front world sound c party is it)

    -- what the job notes of a frame
    delivered : (place : ℕ) (t : Transmission) (count : ℕ) → IsReceiving world c party place t
        → Holds c (part_with (with_current (to_client_delivered place t) party) (client.hears t.frame)) count
    delivered place t count coming =
        let part = part_with (with_current (to_client_delivered place t) party) (client.hears t.frame) in
        let has = some_step party.client (client.hears t.frame) (sound.parties c party is).may_step in
        let facts = heard-facts laws world sound c party place t coming has.noted has.frames has.new has.step count in
        let lists = noted part count in
        let facts_are : HasFacts world.server.store world.files (started_with party lists) =
        subst
        (λ commands.
        HasFacts world.server.store world.files
        (started_with party (notes.after_first count party.client.lists commands))) has.step.noted_is facts in
        headline-noted fault front world sound c party
        (with_lists (with_current (to_client_delivered place t) party) lists) is
        (stays-delivered party place t lists) (right-facts fault front world sound c party is lists facts_are)

  -- ---- each event

  -- the client of the part, of whom it is so
  record Meant (number c : ℕ) (P : Party → Type 0) : Type 0 where
    pub party : Party
    pub is_party : PartyAt world c party
    pub number_is : number ≡ suc c
    pub so : P party

  meant : (number c : ℕ) (P : Party → Type 0) → IsPartOf world number c P → Meant number c P
  meant zero c P is = absurd is
  meant (suc place) c P is =
      record { party = is.1.0; is_party = is.1.1; number_is = ap suc (sym is.0); so = is.1.2 }

  of-asking : (number c : ℕ) (part : ClientPart) (count : ℕ) (wanted : Party → Work)
      → IsPartOf world number c (λ party. part ≡ asking party (wanted party)) → Holds c part count
  of-asking number c part count wanted takes =
      let it = meant number c (λ party. part ≡ asking party (wanted party)) takes in
      subst (λ (part : ClientPart). Holds c part count) (sym it.so)
      (quiet c it.party it.is_party (asks (new_job (wanted it.party))) count refl)

  of-resume : (number c : ℕ) (part : ClientPart) (count : ℕ)
      → IsPartOf world number c (λ party. IsResuming world party part) → Holds c part count
  of-resume number c part count takes =
      let it = meant number c (λ party. IsResuming world party part) takes in
      let wanted = work.Upload (new_upload it.so.task it.so.entry.number it.so.file) in
      subst (λ (part : ClientPart). Holds c part count) (sym it.so.part_is)
      (quiet c it.party it.is_party (asks (new_job wanted)) count refl)

  of-upload : (number c body : ℕ) (part : ClientPart) (count : ℕ)
      → IsPartOf world number c (λ party. part ≡ asking_file world (next_upload world c body) party)
      → Holds c part count
  of-upload number c body part count takes =
      let it = meant number c (λ party. part ≡ asking_file world (next_upload world c body) party) takes in
      subst (λ (part : ClientPart). Holds c part count) (sym it.so)
      (tasked c it.party it.is_party (next_upload world c body) count)

  of-tick : (number c : ℕ) (part : ClientPart) (count : ℕ)
      → IsPartOf world number c (λ party. part ≡ part_with party client.ticks) → Holds c part count
  of-tick number c part count takes =
      let it = meant number c (λ party. part ≡ part_with party client.ticks) takes in
      subst (λ (part : ClientPart). Holds c part count) (sym it.so)
      (quiet c it.party it.is_party client.ticks count refl)

  of-frame : (number place c : ℕ) (part : ClientPart) (count : ℕ)
      → HasParty world number (MayCome (λ a. a.by_server) place)
      → IsPartOf world number c (λ party. Placed place (λ at. DeliversToClient party at part)) → Holds c part count
  of-frame number zero c part count may takes =
      let it = meant number c (λ party. ⊥) takes in absurd it.so
  of-frame number (suc place) c part count may takes =
      let it = meant number c (λ party. DeliversToClient party place part) takes in
      let may_be = subst (λ n. HasParty world n (MayCome (λ a. a.by_server) (suc place))) it.number_is may in
      let comes : IsReceiving world c it.party place it.so.t = record {
        is = it.is_party;
        attempt = it.so.sent.attempt;
        current = it.so.sent.current;
        lawful =
            lawful-sent (λ a. a.by_server) world c place it.party it.so.t it.is_party it.so.sent may_be;
      } in
      subst (λ (part : ClientPart). Holds c part count) (sym it.so.part_is)
      (delivered c it.party it.is_party place it.so.t count comes)

  pub during-client : (event : Event) (c : ℕ) (part : ClientPart) (count : ℕ) → IsPossible world event
      → ClientTakes world event c part → Holds c part count
  during-client (ask_upload number body) c part count possible takes = of-upload number c body part count takes
  during-client (ask_resume number) c part count possible takes = of-resume number c part count takes
  during-client (ask_list number tokens) c part count possible takes =
      of-asking number c part count (λ party. work.Directory (new_directory tokens)) takes
  during-client (ask_download number file) c part count possible takes =
      of-asking number c part count (λ party. work.Download (new_download party.client.server file)) takes
  during-client (to_client number place) c part count possible takes =
      of-frame number place c part count possible takes
  during-client (tick_client number) c part count possible takes = of-tick number c part count takes
  during-client (to_server number place) c part count possible takes = absurd takes
  during-client tick_server c part count possible takes = absurd takes
  during-client (break_client number) c part count possible takes = absurd takes
  during-client (cut_server call choice) c part count possible takes = absurd takes
  during-client (cut_client number call choice) c part count possible takes = absurd takes
