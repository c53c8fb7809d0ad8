-- Each event of a client's keeps a sound world.
use Rattle.std.proofs.Common.{◌≡◌, ℕ, zero, suc, take, ◌+◌, List, [], ◌∷◌, ◌++◌, Bool, true, false, length, refl, sym}
use Rattle.std.proofs.Common.{ap, subst, ◌∙◌, append-nil}
use Rattle.client_notes.specs.Several as notes
use Rattle.ftl0_client_job.specs.declared.work.Work.TheVariants as work
use Rattle.ftl0_client.specs.Client as client
use Rattle.air_world.proofs.Names.{AllByRecursion, Transmission, NotesCommand, after_all, Lists, task_count, Work, new_upload, new_job, Client, ClientStep, SomeStepLaw, Attempt, AreAttempts, Asked, Party, to_client_delivered, ClientDid, after_event, each-weaker, HasFacts, started_with, AreTasks, IsWork, tasks-lists, broken, ClientDoes, ClientIsCut, party_cut, ClientPart, asking, asking_file, part_with, with_current, Sound, ClientLaws, ClientGoes, client_started, party_after, with_asked, PartyAt, World, counted, with_party}
use Rattle.air_world.proofs.ClientBasics.{goes-with}
use Rattle.air_world.proofs.CutWorld.{take-none}
use Rattle.air_world.proofs.Alike.{made-alike}
use Rattle.air_world.proofs.ClientHeard.{IsReceiving, did-of, heard-client, heard-facts, heard-tasks, nothing-noted}
use Rattle.air_world.proofs.ClientHeard.{received, receives}
use Rattle.air_world.proofs.Asked.{MayBeAsked}
use Rattle.air_world.proofs.ClientAsked.{asked-client, asked-party}
use Rattle.air_world.proofs.ClientMade.{IsClientMade, tasks-more, then-sound, work-more}
use Rattle.air_world.proofs.Served.{stands}
use Rattle.air_world.proofs.ClientQuiet.{IsStill, quiet-made, started-made, still-delivered, still-itself}
use Rattle.air_world.proofs.ClientTicked.{ticked-client}

module _ (laws : ClientLaws) (some_step : SomeStepLaw) (old new : World) (sound : Sound old) where
  asked-sound : (c : ℕ) (was now : Party) (asked : List Asked) (part : ClientPart) → PartyAt old c was
      → part.asked ≡ asked → IsClientMade old c was now asked → new ≡ with_asked old c part now → Sound new
  asked-sound c was now asked part is asked_is made new_is =
      let made_asked = subst (λ asked. IsClientMade old c was now asked) (sym asked_is) made in
      subst Sound (sym new_is) (then-sound laws.begin old sound c was now is part.asked made_asked)

  did-is : (did : ClientDid) (it : Client) → did.old ≡ it
      → did ≡ record { old = it; now = did.now; frames = did.frames }
  did-is did it is = ap (λ (o : Client). record { old = o; now = did.now; frames = did.frames }) is

  none-more : (count : ℕ) (uploads : List ℕ) → uploads ++ take count [] ≡ uploads
  none-more count uploads = ap (λ (more : List ℕ). uploads ++ more) (take-none count) ∙ append-nil uploads

  -- the client starts again from these notes, of which it has the facts and the tasks
  module _ (c : ℕ) (party : Party) (is : PartyAt old c party) (attempts : List Attempt)
      (still : IsStill party.attempts attempts)
      (attempts_are : AreAttempts party.client.me party.client.server attempts) (lists : Lists)
      (facts : HasFacts old.server.store old.files (started_with party lists))
      (tasks : AreTasks old.files c (started_with party lists)) where
    cut-made : (that : Party) → that.client ≡ (started_with party lists).client → that.uploads ≡ party.uploads
        → that.attempts ≡ attempts → IsClientMade old c party that []
    cut-made that client uploads attempts_is =
        let files = sym (append-nil old.files) in
        made-alike laws.stay old c party (record (started_with party lists) { attempts = attempts }) []
        (started-made laws.stay old sound c party is attempts still attempts_are [] party lists refl refl refl refl
        (subst (λ files. AllByRecursion (λ (a : Attempt). IsWork files party a.client.asked) party.attempts) files
        (sound.parties c party is).works)
        (subst (λ files. AreTasks files c (started_with party lists)) files tasks)
        (subst (λ files. HasFacts old.server.store files (started_with party lists)) files facts) tt)
        that client uploads attempts_is

  -- ---- a delivery

  module _ (c place : ℕ) (party : Party) (t : Transmission) (coming : IsReceiving old c party place t) where
    abbrev pub part : ClientPart
    part = part_with (with_current (to_client_delivered place t) party) (client.hears t.frame)

    frame-goes : ClientGoes old c part new → Sound new
    frame-goes goes =
        let did = goes.did in
        let step = subst (λ (o : Client). ClientStep o (client.hears t.frame) goes.noted did.frames did.now) goes.old_is
        goes.step in
        let made = heard-client laws old sound c party place t coming goes.noted did.frames did.now step in
        let that = party_after part did in
        asked-sound c party that [] part coming.is refl
        (made-alike laws.stay old c party
        (record party {
          client = did.now;
          attempts = after_event (client.hears t.frame)
              (did-of laws old sound c party did.now did.frames) (received laws old sound c party place t coming);
        }) []
        made that refl
        (append-nil party.uploads)
        (ap (λ (d : ClientDid). after_event (client.hears t.frame) d (received laws old sound c party place t coming))
        (did-is did party.client goes.old_is)))
        goes.new_is

    frame-cut : ClientIsCut old c part new → Sound new
    frame-cut is_cut =
        let it = sound.parties c party coming.is in
        let has = some_step party.client (client.hears t.frame) it.may_step in
        let lists = notes.after_first is_cut.count party.client.lists has.noted in
        let attempts = received laws old sound c party place t coming in
        let that = party_cut part is_cut.count in
        asked-sound c party that [] part coming.is refl
        (cut-made c party coming.is attempts (still-delivered place t party.attempts)
        (laws.left.to_client party.client.me party.client.server party.attempts attempts t.frame it.attempts
        (receives laws old sound c party place t coming)) lists
        (heard-facts laws old sound c party place t coming has.noted has.frames has.new has.step is_cut.count)
        (heard-tasks laws old sound c party place t coming has.noted has.frames has.new has.step is_cut.count) that
        (ap (λ (commands : List NotesCommand). (started_with party
        (notes.after_first is_cut.count party.client.lists commands)).client) (sym has.step.noted_is))
        (none-more is_cut.count party.uploads) refl)
        is_cut.new_is

    pub frame-does : (cut : Bool) → ClientDoes cut old c part new → Sound new
    frame-does true does = frame-cut does
    frame-does false does = frame-goes does

  -- ---- a tick

  module _ (c : ℕ) (party : Party) (is : PartyAt old c party) where
    abbrev pub tick-part : ClientPart
    tick-part = part_with party client.ticks

    tick-goes : ClientGoes old c tick-part new → Sound new
    tick-goes goes =
        let did = goes.did in
        let step = subst (λ (o : Client). ClientStep o client.ticks goes.noted did.frames did.now) goes.old_is
        goes.step in
        let made = ticked-client laws old sound c party is goes.noted did.frames did.now step in
        let that = party_after tick-part did in
        asked-sound c party that [] tick-part is refl
        (made-alike laws.stay old c party
        (record party {
          client = did.now;
          attempts = after_event client.ticks
              (did-of laws old sound c party did.now did.frames) party.attempts;
        }) [] made that refl
        (append-nil party.uploads)
        (ap (λ (d : ClientDid). after_event client.ticks d party.attempts) (did-is did party.client goes.old_is)))
        goes.new_is

    -- the client starts again from its notes as they are
    stays-made : (that : Party) → that.client ≡ (started_with party party.client.lists).client
        → that.uploads ≡ party.uploads → that.attempts ≡ party.attempts → IsClientMade old c party that []
    stays-made =
        let it = sound.parties c party is in
        cut-made c party is party.attempts (still-itself party.attempts) it.attempts party.client.lists
        (laws.stay.started old.server.store old.files party it.facts)
        (tasks-lists old.files c party (started_with party party.client.lists) refl refl refl refl it.tasks)

    tick-cut : ClientIsCut old c tick-part new → Sound new
    tick-cut is_cut =
        let that = party_cut tick-part is_cut.count in
        asked-sound c party that [] tick-part is refl
        (stays-made that (ap (λ (lists : Lists). (started_with party lists).client)
        (nothing-noted is_cut.count party.client.lists [] refl)) (none-more is_cut.count party.uploads) refl)
        is_cut.new_is

    pub tick-does : (cut : Bool) → ClientDoes cut old c tick-part new → Sound new
    tick-does true does = tick-cut does
    tick-does false does = tick-goes does

    -- ---- a break, and a cut that is noted

    same-sound : (that : Party) → IsClientMade old c party that [] → new ≡ counted (with_party old c that) → Sound new
    same-sound that made new_is =
        subst Sound
        (sym (new_is ∙ ap (λ (files : List Asked). counted (record (with_party old c that) { files = files }))
        (sym (append-nil old.files))))
        (then-sound laws.begin old sound c party that is [] made)

    pub break-kept : new ≡ counted (with_party old c (broken party)) → Sound new
    break-kept new_is = same-sound (broken party) (stays-made (broken party) refl refl refl) new_is

    pub flag-kept : new ≡ counted (with_party old c (record party { is_cut = true })) → Sound new
    flag-kept new_is =
        same-sound (record party { is_cut = true })
        (made-alike laws.stay old c party (record party { attempts = party.attempts }) []
        (quiet-made laws.stay old sound c party is party.attempts (still-itself party.attempts)
        (goes-with old sound c party is)) (record party { is_cut = true }) refl refl refl)
        new_is

  -- ---- an asking

  module _ (c : ℕ) (party : Party) (is : PartyAt old c party) (wanted : Work) where
    -- of a work without a new task
    module _ (may : MayBeAsked old c party party [] wanted) where
      abbrev pub ask-part : ClientPart
      ask-part = asking party wanted

      ask-goes : ClientGoes old c ask-part new → Sound new
      ask-goes goes =
          let did = goes.did in
          let step = subst (λ (o : Client). ClientStep o (client.asks (new_job wanted)) goes.noted did.frames did.now)
          goes.old_is goes.step in
          let made = asked-client laws old sound c party is party [] wanted may goes.noted did.frames did.now step in
          let that = party_after ask-part did in
          asked-sound c party that [] ask-part is refl
          (made-alike laws.stay old c party
          (asked-party laws old sound c party is party [] wanted may goes.noted did.frames did.now step) [] made
          that refl (append-nil party.uploads)
          (ap (λ (d : ClientDid). after_event (client.asks (new_job wanted)) d party.attempts)
          (did-is did party.client goes.old_is)))
          goes.new_is

      ask-cut : ClientIsCut old c ask-part new → Sound new
      ask-cut is_cut =
          let that = party_cut ask-part is_cut.count in
          asked-sound c party that [] ask-part is refl
          (stays-made c party is that
          (ap (λ (lists : Lists). (started_with party lists).client)
          (nothing-noted is_cut.count party.client.lists [] refl)) (none-more is_cut.count party.uploads) refl)
          is_cut.new_is

      pub ask-does : (cut : Bool) → ClientDoes cut old c ask-part new → Sound new
      ask-does true does = ask-cut does
      ask-does false does = ask-goes does

  -- of a file for the first time
  module _ (c : ℕ) (party : Party) (is : PartyAt old c party) (it : Asked) where
    abbrev pub begin-part : ClientPart
    begin-part = asking_file old it party

    abbrev pub sending : Work
    sending = work.Upload (new_upload (task_count party.client.lists + 1) 0 it.file)

    -- the client with its task
    abbrev pub tasked-party : Party
    tasked-party = record party { client = client_started begin-part; uploads = party.uploads ++ begin-part.begun }

    module _ (may : MayBeAsked old c party tasked-party (it ∷ []) sending) where
      begin-goes : ClientGoes old c begin-part new → Sound new
      begin-goes goes =
          let did = goes.did in
          let step = subst (λ (o : Client). ClientStep o (client.asks (new_job sending)) goes.noted did.frames did.now)
          goes.old_is goes.step in
          let made = asked-client laws old sound c party is tasked-party
          (it ∷ []) sending may goes.noted did.frames did.now step in
          let that = party_after begin-part did in
          asked-sound c party that (it ∷ []) begin-part is refl
          (made-alike laws.stay old c party
          (asked-party laws old sound c party is tasked-party
          (it ∷ []) sending may goes.noted did.frames did.now step) (it ∷ []) made that refl refl
          (ap (λ (d : ClientDid). after_event (client.asks (new_job sending)) d party.attempts)
          (did-is did tasked-party.client goes.old_is)))
          goes.new_is

      -- the start of the task is noted, or it isn't
      begin-cut-made : (count : ℕ) → IsClientMade old c party (party_cut begin-part count) (it ∷ [])
      begin-cut-made zero =
          let own = sound.parties c party is in
          let longer = laws.begin.longer old.server.store old.files c party (it ∷ [])
          (stands old sound c party is) own.facts in
          made-alike laws.stay old c party
          (record (started_with party party.client.lists) { attempts = party.attempts }) (it ∷ [])
          (started-made laws.stay old sound c party is party.attempts (still-itself party.attempts) own.attempts
          (it ∷ []) party party.client.lists refl refl refl refl
          (each-weaker {P = (λ (a : Attempt). IsWork old.files party a.client.asked)} {Q =
          (λ a. IsWork (old.files ++ it ∷ []) party a.client.asked)} party.attempts
          (λ a work. work-more old.files (it ∷ []) party a.client.asked work) own.works)
          (tasks-lists (old.files ++ it ∷ []) c party (started_with party party.client.lists) refl refl refl refl
          (tasks-more old.files (it ∷ []) c party own.tasks))
          (laws.stay.started old.server.store (old.files ++ it ∷ []) party longer) may.base_is.good)
          (party_cut begin-part zero) refl (append-nil party.uploads) refl
      begin-cut-made (suc count) =
          let own = sound.parties c party is in
          let lists = tasked-party.client.lists in
          made-alike laws.stay old c party (record (started_with tasked-party lists) { attempts = party.attempts })
          (it ∷ [])
          (started-made laws.stay old sound c party is party.attempts (still-itself party.attempts) own.attempts
          (it ∷ []) tasked-party lists refl refl refl refl may.base_is.works
          (tasks-lists (old.files ++ it ∷ []) c tasked-party
          (started_with tasked-party lists) refl refl refl refl may.base_is.tasks)
          (laws.stay.started old.server.store (old.files ++ it ∷ []) tasked-party may.base_is.facts) may.base_is.good)
          (party_cut begin-part (suc count))
          (ap (λ (commands : List NotesCommand). (started_with party (after_all lists commands)).client)
          (take-none count))
          (ap (λ (more : List ℕ). party.uploads ++ length old.files ∷ more) (take-none count)) refl

      begin-cut : ClientIsCut old c begin-part new → Sound new
      begin-cut is_cut =
          asked-sound c party (party_cut begin-part is_cut.count) (it ∷ []) begin-part is refl
          (begin-cut-made is_cut.count) is_cut.new_is

      pub begin-does : (cut : Bool) → ClientDoes cut old c begin-part new → Sound new
      begin-does true does = begin-cut does
      begin-does false does = begin-goes does
