-- What a run did, where the words were refused.
use Rattle.std.proofs.Common.{◌≡◌, ℕ, List, [], ◌∷◌, refl, ap, sym, subst, inl, inr, arith, Bool, true, false, Err}
use Rattle.px_base.specs.declared.air.Air.{Ghosts as AirGhosts}
use Rattle.px_base.specs.declared.out.Out.{Ghosts as OutGhosts}
use Rattle.px_base.specs.declared.shelf.Shelf.{Ghosts as ShelfGhosts}
use Rattle.command_words.specs.declared.request.Refusal.{Refusal}
use Rattle.command_words.specs.declared.request.Refusal.TheVariants as refusal
use Rattle.pacsat_cli.specs.declared.status.Status.TheVariants as status
use Rattle.pacsat_cli.proofs.Names.{OneRunLaw, OneStepLaw, StaysLaw, OneSchedule, SeenSetting, Option, None, Some, IfSome, Result, Holding, content_of, Ghosts, Lent, Seen, DiskWord, Named, SessionRequest, ServeRequest, Gains-none, AsksText, OnlyOne, AsksClient, AsksMake, AsksRehearse, IsServe, IsSession, IsUsage, NamesCommand, MakeValue, lent, seen, Status, FileCommand, BodyRan, body_status, RunsFetch, RunsList, RunsSend, outside, FileEnd, FileShown, IsNoSuchBy, IsShownBy, IsTooLongBy, IsOrHindered, MakeRan, make_status, IsUnless, Shows, RunsServe, WhereServed, HasDiskCause, HasStoreCause, IsDoneBy, IsSpentBy, RunsSession, WhereHeard, line_of, status_of_refusal, RunsBody, RunsFile, RunsMake, WhereHeld, lendings}
use Rattle.pacsat_cli.proofs.NodeEnds.{Goes, is_early_status, node-complete, node-spent}
use Rattle.pacsat_cli.proofs.OneTask.{usage-file, usage-make}
use Rattle.pacsat_cli.proofs.RunSession.{some_polls}
use Rattle.pacsat_cli.proofs.Ends.{RunEnds, whole}
use Rattle.pacsat_cli.proofs.ExactCarried.{fetch-exactly, list-exactly}
use Rattle.pacsat_cli.proofs.ExactSend.{send-exactly, send-refuses, send-starts}
use Rattle.pacsat_cli.proofs.RunRehearsal.{refused-rehearsal}

-- why words were refused
abbrev pub MeansOf : List (List ℕ) → Refusal → Type 0
MeansOf words refusal.Usage = IsUsage words
MeansOf words refusal.OutOfMemory = NamesCommand words

pub means : {R : Type 0} (words : List (List ℕ)) (why : Refusal) (result : Result R Refusal) → result ≡ Err why → (result ≡ Err refusal.Usage → IsUsage words) → (result ≡ Err refusal.OutOfMemory → NamesCommand words) → MeansOf words why
means words refusal.Usage result is a b = a is
means words refusal.OutOfMemory result is a b = b is

-- whether words can be refused with this status
abbrev pub is_refusal_status : Status → Bool
is_refusal_status status.Usage = true
is_refusal_status status.OutOfMemory = true
is_refusal_status s = false

pub refused-not : (why : Refusal) (other : Status) → is_refusal_status other ≡ false → status_of_refusal why ≡ other → ⊥
refused-not refusal.Usage other isnt is = let same = ap is_refusal_status is in absurd (cc)
refused-not refusal.OutOfMemory other isnt is = let same = ap is_refusal_status is in absurd (cc)

module _ (words : List (List ℕ)) (only : OnlyOne words) where
  pub refused-usage : (why : Refusal) → MeansOf words why → status_of_refusal why ≡ status.Usage → IsUsage words
  refused-usage refusal.Usage h is = h
  refused-usage refusal.OutOfMemory h is = absurd (cc)

  pub refused-usage_told : (why : Refusal) → MeansOf words why → IsUsage words → IsUnless (status_of_refusal why) status.Usage (status.OutOfMemory ∷ [])
  refused-usage_told refusal.Usage h usage = inl refl
  refused-usage_told refusal.OutOfMemory h usage = inr (0, omega arith, refl)

  pub refused-unread : (why : Refusal) → MeansOf words why → status_of_refusal why ≡ status.OutOfMemory → NamesCommand words
  refused-unread refusal.Usage h is = absurd (cc)
  refused-unread refusal.OutOfMemory h is = h

  -- words that ask for something are refused only for want of memory
  session-memory : (why : Refusal) → MeansOf words why → (asked : SessionRequest) → IsSession words asked → status_of_refusal why ≡ status.OutOfMemory
  session-memory refusal.Usage h asked is = absurd (only.usage_session h (asked, is))
  session-memory refusal.OutOfMemory h asked is = refl

  serve-memory : (why : Refusal) → MeansOf words why → (asked : ServeRequest) → IsServe words asked → status_of_refusal why ≡ status.OutOfMemory
  serve-memory refusal.Usage h asked is = absurd (only.usage_serve h (asked, is))
  serve-memory refusal.OutOfMemory h asked is = refl

  file-memory : (why : Refusal) → MeansOf words why → (command : FileCommand) (name : List ℕ) → AsksText words command name → status_of_refusal why ≡ status.OutOfMemory
  file-memory refusal.Usage h command name is = absurd (usage-file words only h (command, name, is))
  file-memory refusal.OutOfMemory h command name is = refl

  make-memory : (why : Refusal) → MeansOf words why → AsksMake words → status_of_refusal why ≡ status.OutOfMemory
  make-memory refusal.Usage h make = absurd (usage-make words only h make)
  make-memory refusal.OutOfMemory h make = refl

  client-memory : (why : Refusal) → MeansOf words why → AsksClient words → status_of_refusal why ≡ status.OutOfMemory
  client-memory refusal.Usage h client = absurd (only.usage_client h client)
  client-memory refusal.OutOfMemory h client = refl

  pub rehearse-memory : (why : Refusal) → MeansOf words why → AsksRehearse words → status_of_refusal why ≡ status.OutOfMemory
  rehearse-memory refusal.Usage h rehearse = absurd (only.usage_rehearse h rehearse)
  rehearse-memory refusal.OutOfMemory h rehearse = refl

  module _ (why : Refusal) (h : MeansOf words why) where
    module _ {A : Type 0} (air : AirGhosts A) (before : A) where
      pub refused-session : {C D : Type 0} (g : Ghosts D) (given : C → Option (List ℕ)) (disk : D) (clock : C) → RunsSession words (seen g air given) (lent disk before clock) (lent disk before clock) (status_of_refusal why)
      refused-session g given disk clock = λ asked is. inl ((session-memory why h asked is, refl, refl), refl)

      pub refused-serve : {C D : Type 0} (g : Ghosts D) (given : C → Option (List ℕ)) (disk : D) (clock : C) → RunsServe words (seen g air given) (lent disk before clock) (lent disk before clock) (status_of_refusal why)
      refused-serve g given disk clock = λ asked is. inl ((serve-memory why h asked is, refl, refl), refl)

      -- words that ask for a session or a service were refused before anything was heard
      early : (which : DiskWord) (polls : ℕ) → status_of_refusal why ≡ status.OutOfMemory → Goes air polls which before before (status_of_refusal why)
      early which polls memory = inl (record { kind = ap (λ (t : Status). is_early_status t which) memory; same = refl })

      pub refused-complete : WhereHeard words air.heard before before (IsDoneBy (status_of_refusal why))
      refused-complete = λ told. node-complete air before before (status_of_refusal why) told.asked.polls Named (early Named told.asked.polls (session-memory why h told.asked told.asks)) told.earlier told.turns told.told_before told.told_now

      pub refused-serve_complete : WhereServed words air.heard before before (IsDoneBy (status_of_refusal why))
      refused-serve_complete = λ told. node-complete air before before (status_of_refusal why) told.asked.polls Named (early Named told.asked.polls (serve-memory why h told.asked told.asks)) told.earlier told.turns told.told_before told.told_now

      pub refused-serve_spent : WhereServed words air.heard before before (IsSpentBy (status_of_refusal why))
      refused-serve_spent = λ told.
          node-spent air before before (status_of_refusal why) told.asked.polls Named (early Named told.asked.polls (serve-memory why h told.asked told.asks)) told.asked.polls told.asks.text.ranges.some_polls told.earlier told.turns told.told_before told.told_now

      pub refused-spent : WhereHeard words air.heard before before (IsSpentBy (status_of_refusal why))
      refused-spent = λ told.
          node-spent air before before (status_of_refusal why) told.asked.polls told.asked.disk (early told.asked.disk told.asked.polls (session-memory why h told.asked told.asks)) told.asked.polls (some_polls words told.asked told.asks) told.earlier told.turns told.told_before told.told_now

    -- a disk that stayed has no cause
    pub refused-disk : {A D : Type 0} (reads writes : D → ℕ) (disk : D) (before : A) → HasDiskCause words reads writes disk disk before before (status_of_refusal why)
    refused-disk reads writes disk before = record {
      asked = λ e. absurd (refused-not why status.Disk refl e);
      rose = λ e. absurd (refused-not why status.Disk refl e);
      same = λ _. refl;
      same_reads = λ _ _. refl;
      no_less = (omega arith, omega arith);
    }

    pub refused-bad_store : (content : Option (List ℕ)) → HasStoreCause words content (status_of_refusal why)
    refused-bad_store content = record {
      asked = λ bad e. absurd (refused-not why (status.BadStore bad) refl e);
      exact = λ asked is named disk_not memory_not. absurd (memory_not (session-memory why h asked is));
      exact_served = λ asked is disk_not memory_not. absurd (memory_not (serve-memory why h asked is));
      exact_notes = λ client disk_not memory_not _. absurd (memory_not (client-memory why h client));
    }

    -- nothing was touched before the status's line
    module _ {A C D S O : Type 0} (see : Seen D A C) (sh : ShelfGhosts S) (o : OutGhosts O) (old : Lent D A C) (shelf : S) (before now : O) (line : Shows o.shown o.faults before now (line_of (status_of_refusal why))) (done : line_of (status_of_refusal why) ≡ [] → now ≡ before) where
      pub refused-send : RunsSend words see sh o (outside old shelf before) (outside old shelf now) (status_of_refusal why)
      refused-send = λ asked name is. record { mid = before; ran = inl (client-memory why h (inl (asked, name, is)), refl, refl, refl); line = line; done = done }

      pub refused-fetch : RunsFetch words see sh o (outside old shelf before) (outside old shelf now) (status_of_refusal why)
      refused-fetch = λ asked number name is. record { mid = before; ran = inl (client-memory why h (inr (inl (asked, number, name, is))), refl, refl, refl); line = line; done = done }

      pub refused-list : RunsList words see o (outside old shelf before) (outside old shelf now) (status_of_refusal why)
      refused-list = λ asked tokens is. record { mid = before; ran = inl (client-memory why h (inr (inr (asked, tokens, is))), refl, refl, refl); line = line; done = done }

    -- want of memory says nothing of the content
    memory_end : (command : FileCommand) (held : Option Holding) (name : List ℕ) → IfSome held (λ shelf. FileEnd command (content_of shelf name) [] status.OutOfMemory)
    memory_end command None name = tt
    memory_end command (Some shelf) name = refl

    pub refused-files : {S O : Type 0} (holds : S → Option Holding) (shown : O → Option (List ℕ)) (faults : O → ℕ) (shelf : S) (before now : O) → Shows shown faults before now (line_of (status_of_refusal why)) → (line_of (status_of_refusal why) ≡ [] → now ≡ before) → RunsFile words holds shown faults shelf before now (status_of_refusal why)
    refused-files holds shown faults shelf before now line done = λ command name is.
        let memory = file-memory why h command name is in
        let at_status : Status → Type 0 = λ s. FileShown shown faults command (holds shelf) name before before s in
        record {
          mid = before;
          text =
              subst at_status (sym memory)
              (record {
                text = [];
                gains = Gains-none (shown before);
                possible = refl;
                ends = memory_end command (holds shelf) name;
                cause = record { rose = λ e. absurd (cc); same = λ _. refl };
                unshown = λ _. refl;
              });
          line = line;
          done = done;
        }

    pub refused-no_such : (held : Option Holding) → WhereHeld words held (IsNoSuchBy (status_of_refusal why))
    refused-no_such held = λ command name shelf is told none. inr (1, omega arith, sym (file-memory why h command name is))

    pub refused-too_long : (held : Option Holding) → WhereHeld words held (IsTooLongBy (status_of_refusal why))
    refused-too_long held = λ command name shelf is told octets there long. inr (1, omega arith, sym (file-memory why h command name is))

    pub refused-shown : (held : Option Holding) → WhereHeld words held (IsShownBy (status_of_refusal why))
    refused-shown held = λ command name shelf is told octets there short. inr (2, omega arith, sym (file-memory why h command name is))

    -- nothing was made
    memory_status : (spec : MakeValue) (body : List ℕ) (held : Option Holding) → IfSome held (λ shelf. IsOrHindered (make_status spec (content_of shelf body)) status.OutOfMemory)
    memory_status spec body None = tt
    memory_status spec body (Some shelf) = inr (1, omega arith, refl)

    pub refused-made : {S : Type 0} (holds : S → Option Holding) (shelf : S) → RunsMake words holds shelf shelf (status_of_refusal why)
    refused-made holds shelf = λ body name asked is.
        let at_status : Status → Type 0 = λ s. MakeRan asked body name (holds shelf) (holds shelf) s in
        subst at_status (sym (make-memory why h (inl (body, name, asked, is))))
        (record { ends = refl; told = memory_status asked body (holds shelf) })

    memory_body : (name : List ℕ) (held : Option Holding) → IfSome held (λ shelf. IsOrHindered (body_status (content_of shelf name)) status.OutOfMemory)
    memory_body name None = tt
    memory_body name (Some shelf) = inr (1, omega arith, refl)

    pub refused-body : {S : Type 0} (holds : S → Option Holding) (shelf : S) → RunsBody words holds shelf shelf (status_of_refusal why)
    refused-body holds shelf = λ name kept is.
        let at_status : Status → Type 0 = λ s. BodyRan name kept (holds shelf) (holds shelf) s in
        subst at_status (sym (make-memory why h (inr (name, kept, is)))) (record { ends = refl; told = memory_body name (holds shelf) })

    -- all that a run promises, where the words were refused
    module _ {A C D S O B : Type 0} (see : Seen D A C) (told : SeenSetting B S O) (all : Lent D A C) (shelf : S) (bench : List B) (out now : O) where
      pub refused-ends :
          OneRunLaw → OneStepLaw → StaysLaw → OneSchedule
          → Shows told.out.shown told.out.faults out now (line_of (status_of_refusal why)) → (line_of (status_of_refusal why) ≡ [] → now ≡ out)
          → RunEnds words see told (lendings all shelf bench) (lendings all shelf bench) out now (status_of_refusal why)
      refused-ends runs steps stays one line silent =
          let s = status_of_refusal why in
          let sh = told.shelf in
          let o = told.out in
          let send = refused-send see sh o all shelf out now line silent in
          let fetch = refused-fetch see sh o all shelf out now line silent in
          let list = refused-list see sh o all shelf out now line silent in
          whole words see told (lendings all shelf bench) (lendings all shelf bench) out now s
          (inl refl)
          (record {
            usage = refused-usage why h;
            usage_told = refused-usage_told why h;
            unread = λ _. refused-unread why h;
          })
          (record {
            session = refused-session see.air all.air see.disk see.given all.disk all.clock;
            session_acknowledged = λ _ _ _. inl refl;
            complete = refused-complete see.air all.air;
            spent = refused-spent see.air all.air;
          })
          (record {
            serve = refused-serve see.air all.air see.disk see.given all.disk all.clock;
            serve_acknowledged = λ _ _. inl refl;
            serve_complete = refused-serve_complete see.air all.air;
            serve_spent = refused-serve_spent see.air all.air;
          })
          (record {
            send = send;
            fetch = fetch;
            list = list;
            send_refuses = send-refuses see sh o words all all shelf shelf s out now send;
            send_starts = send-starts see sh o words all all shelf shelf s out now send;
            send_exactly = send-exactly see sh o words all all shelf shelf s out now send runs steps stays;
            fetch_exactly = fetch-exactly see runs steps stays all all sh o words shelf shelf out now s fetch;
            list_exactly = list-exactly see runs steps stays all all sh o words shelf shelf out now s list;
          })
          (record {
            files = refused-files sh.held o.shown o.faults shelf out now line silent;
            no_such = refused-no_such (sh.held shelf);
            too_long = refused-too_long (sh.held shelf);
            files_done = refused-shown (sh.held shelf);
          })
          (record { made = refused-made sh.held shelf; body = refused-body sh.held shelf })
          (refused-rehearsal words told shelf out now bench s one (rehearse-memory why h) line silent)
          (record {
            air_read = record { rose = λ e. absurd (refused-not why status.AirRead refl e); same = λ _ _. refl };
            air_write = record { rose = λ e. absurd (refused-not why status.AirWrite refl e); same = λ _ _ _ _. refl };
            disk = refused-disk see.disk.read_faults see.disk.write_faults all.disk all.air;
            shelf = record { rose = λ e. absurd (refused-not why status.Shelf refl e); same = λ _. refl };
            out = λ e. absurd (refused-not why status.Out refl e);
            bad_store = refused-bad_store (see.disk.content all.disk);
          })
          (record {
            memory = λ _ _. (refl, refl);
            node_done = λ _ e. absurd (refused-not why status.Done refl e);
            done = λ e. absurd (refused-not why status.Done refl e);
            unshown = λ e. absurd (refused-not why status.Done refl e);
            shown = λ _. line;
          })
