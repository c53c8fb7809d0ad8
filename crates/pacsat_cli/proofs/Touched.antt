-- What each command touches, and what the table of that comes to.
use Rattle.std.proofs.Common.{◌≡◌, ℕ, List, refl, ap, ◌∙◌, inl, inr, false, true}
use Rattle.px_base.specs.declared.air.Air.{Ghosts as AirGhosts}
use Rattle.px_base.specs.declared.out.Out.{Ghosts as OutGhosts}
use Rattle.px_base.specs.declared.shelf.Shelf.{Ghosts as ShelfGhosts}
use Rattle.command_words.specs.declared.client.ClientRequest.TheVariants as client
use Rattle.command_words.specs.declared.request.Request.TheVariants as request
use Rattle.pacsat_cli.proofs.Names.{ClientRequest, MakingRequest, RehearseRequest, Request, AsksFor, LeavesAlone, LeavesBut, Lendings, Touches, client_reach, is_clocked, is_named, lendings, nothing, reach_of, Option, None, Some, IsSome, Holding, Ghosts, Lent, Seen, lent, seen, AsksClientFor, AsksMakingFor, AsksRehearseFor, Determined, OnlyOne, AsksClient, AsksList, AsksRehearse, AsksServe, AsksSession, IsUsage, IsServe, IsSession, DiskWord, Fresh, Named, SessionRequest, ServeRequest, Status, ClientRan, outside, Stays, AsksDisk, AsksMoment, OverNamed, run_terms, AsksFile, AsksKept}
use Rattle.pacsat_cli.proofs.OneTask.{asks-client, asks-make, asks-rehearse, file-client, make-client, serve-file, serve-make, session-file, session-make, usage-file, usage-make}

-- a moment is given, or the clock may be asked
given : (moment : Option ℕ) → is_clocked moment ≡ false → IsSome moment
given None e = absurd (cc)
given (Some moment) e = refl

module _ {A C D S B : Type 0} (held : S → Option Holding) (words : List (List ℕ)) (bench : List B) where
  -- a session, over the disk that the word names
  pub session-touches :
      (g : Ghosts D) (air : AirGhosts A) (told : C → Option (List ℕ)) (disk disk_now : D) (before now : A) (clock clock_now : C)
      (shelf : S) (asked : SessionRequest) (s : Status) → IsSession words asked
      → OverNamed asked.disk (seen g air told) (lent disk before clock) (lent disk_now now clock_now) (run_terms asked) s
      → (IsSome asked.moment → clock_now ≡ clock)
      → Touches held (lendings (lent disk before clock) shelf bench) (lendings (lent disk_now now clock_now) shelf bench) words
  session-touches g air told disk disk_now before now clock clock_now shelf asked s is over unasked =
      let alone : (word : DiskWord) → OverNamed word (seen g air told) (lent disk before clock) (lent disk_now now clock_now) (run_terms asked) s → is_named word ≡ false → disk_now ≡ disk = elim [
        | Named ↦ λ _ e. absurd (cc)
        | Fresh ↦ λ fresh _. fresh.0
      ] in
      inr (
        request.Session asked,
        is,
        record {
          disk = alone asked.disk over;
          air = λ e. absurd (cc);
          clock = λ e. unasked (given asked.moment e);
          shelf = λ _. refl;
          holding = λ _. refl;
          bench = λ _. refl;
        },
      )

  -- a service
  pub serve-touches : (old new : Lent D A C) (shelf : S) (asked : ServeRequest) → IsServe words asked → Touches held (lendings old shelf bench) (lendings new shelf bench) words
  serve-touches old new shelf asked is = inr (
    request.Serve asked,
    is,
    record {
      disk = λ e. absurd (cc);
      air = λ e. absurd (cc);
      clock = λ e. absurd (cc);
      shelf = λ _. refl;
      holding = λ _. refl;
      bench = λ _. refl;
    },
  )

  -- a client's command
  pub client-touches :
      {O : Type 0} (see : Seen D A C) (sh : ShelfGhosts S) (o : OutGhosts O) (old new : Lent D A C) (shelf shelf_now : S) (out mid : O)
      (s : Status) (asked : ClientRequest) → AsksClientFor words asked
      → ClientRan see sh o (outside old shelf out) (outside new shelf_now mid) asked s
      → Touches sh.held (lendings old shelf bench) (lendings new shelf_now bench) words
  client-touches see sh o old new shelf shelf_now out mid s asked is ran =
      let leaves : (of : ClientRequest) → ClientRan see sh o (outside old shelf out) (outside new shelf_now mid) of s → LeavesBut sh.held (lendings old shelf bench) (lendings new shelf_now bench) (client_reach of) = elim [
        | client.Send of ↦ λ r. record { disk = λ e. absurd (cc); air = λ e. absurd (cc); clock = λ e. absurd (cc); shelf = λ e. absurd (cc); holding = λ _. r.held; bench = λ _. refl }
        | client.Fetch of ↦ λ r. record { disk = λ e. absurd (cc); air = λ e. absurd (cc); clock = λ e. absurd (cc); shelf = λ e. absurd (cc); holding = λ e. absurd (cc); bench = λ _. refl }
        | client.List of ↦ λ r. record { disk = λ e. absurd (cc); air = λ e. absurd (cc); clock = λ e. absurd (cc); shelf = λ _. r.1; holding = λ _. ap sh.held r.1; bench = λ _. refl }
      ] in
      inr (request.Client asked, is, leaves asked ran)

  -- a command that touches neither disk nor air nor clock
  pub shelf-touches :
      (all : Lent D A C) (shelf shelf_now : S) (bench_now : List B) (asked : Request) → AsksFor words asked
      → ((reach_of asked).shelf ≡ false → shelf_now ≡ shelf)
      → ((reach_of asked).holding ≡ false → Stays held shelf shelf_now)
      → ((reach_of asked).bench ≡ false → bench_now ≡ bench)
      → Touches held (lendings all shelf bench) (lendings all shelf_now bench_now) words
  shelf-touches all shelf shelf_now bench_now asked is alone stays unmade = inr (
    asked,
    is,
    record { disk = λ _. refl; air = λ _. refl; clock = λ _. refl; shelf = alone; holding = stays; bench = unmade },
  )

module _ {A C D S B : Type 0} (held : S → Option Holding) (old new : Lendings D A C S B) (words : List (List ℕ)) (only : OnlyOne words) (determined : Determined words) where
  -- nothing was touched
  same-all : new ≡ old → LeavesAlone held old new words
  same-all e = record {
    untouched = λ _. e;
    session_alone = λ _. ap (λ (l : Lendings D A C S B). l.shelf) e;
    serve_alone = λ _. ap (λ (l : Lendings D A C S B). l.shelf) e;
    list_alone = λ _. ap (λ (l : Lendings D A C S B). l.shelf) e;
    clock_unasked = λ _. ap (λ (l : Lendings D A C S B). l.lent.clock) e;
    files_alone = λ _. (ap (λ (l : Lendings D A C S B). l.lent.air) e, ap (λ (l : Lendings D A C S B). l.lent.clock) e);
    made_alone = λ _. (ap (λ (l : Lendings D A C S B). l.lent.air) e, ap (λ (l : Lendings D A C S B). l.lent.clock) e);
    rehearsal_alone = λ _. (ap (λ (l : Lendings D A C S B). l.lent.air) e, ap (λ (l : Lendings D A C S B). l.lent.clock) e);
    disk_alone = λ _. ap (λ (l : Lendings D A C S B). l.lent.disk) e;
    held_stays = λ _. ap (λ (l : Lendings D A C S B). held l.shelf) e;
    bench_alone = λ _. ap (λ (l : Lendings D A C S B). l.bench) e;
  }

  -- a session with a moment doesn't ask the clock, and one whose word names no disk leaves the disk
  unclocked : (asked : SessionRequest) → IsSession words asked → AsksMoment words → is_clocked asked.moment ≡ false
  unclocked asked is moment =
      let same = determined.session asked moment.0 is moment.1 in
      ap is_clocked (ap (λ (r : SessionRequest). r.moment) same ∙ moment.2.1)

  unnamed : (asked : SessionRequest) → IsSession words asked → (AsksDisk words → ⊥) → (word : DiskWord) → asked.disk ≡ word → is_named word ≡ false
  unnamed asked is none Named named = absurd (none (inl (inl (asked, is, named))))
  unnamed asked is none Fresh named = refl

  by-session : (asked : SessionRequest) → IsSession words asked → LeavesBut held old new (reach_of (request.Session asked)) → LeavesAlone held old new words
  by-session asked is leaves = record {
    untouched = λ usage. absurd (only.usage_session usage (asked, is));
    session_alone = λ _. leaves.shelf refl;
    serve_alone = λ _. leaves.shelf refl;
    list_alone = λ _. leaves.shelf refl;
    clock_unasked = λ moment. leaves.clock (unclocked asked is moment);
    files_alone = λ file. absurd (session-file words only (asked, is) file);
    made_alone = λ make. absurd (session-make words only (asked, is) make);
    rehearsal_alone = λ rehearse. absurd (only.session_rehearse (asked, is) rehearse);
    disk_alone = λ none. leaves.disk (unnamed asked is none asked.disk refl);
    held_stays = λ _. leaves.holding refl;
    bench_alone = λ _. leaves.bench refl;
  }

  by-serve : (asked : ServeRequest) → IsServe words asked → LeavesBut held old new (reach_of (request.Serve asked)) → LeavesAlone held old new words
  by-serve asked is leaves = record {
    untouched = λ usage. absurd (only.usage_serve usage (asked, is));
    session_alone = λ _. leaves.shelf refl;
    serve_alone = λ _. leaves.shelf refl;
    list_alone = λ _. leaves.shelf refl;
    clock_unasked = λ moment. absurd (only.session_serve (moment.0, moment.1) (asked, is));
    files_alone = λ file. absurd (serve-file words only (asked, is) file);
    made_alone = λ make. absurd (serve-make words only (asked, is) make);
    rehearsal_alone = λ rehearse. absurd (only.serve_rehearse (asked, is) rehearse);
    disk_alone = λ none. absurd (none (inl (inr (asked, is))));
    held_stays = λ _. leaves.holding refl;
    bench_alone = λ _. leaves.bench refl;
  }

  -- of a client's commands only a list leaves the shelf, and only what is fetched changes what it holds
  client-shelf : (asked : ClientRequest) → AsksClientFor words asked → LeavesBut held old new (client_reach asked) → AsksList words → new.shelf ≡ old.shelf
  client-shelf (client.Send asked) is leaves lists = absurd (only.send_list (asked.terms, asked.name.now, is) lists)
  client-shelf (client.Fetch asked) is leaves lists = absurd (only.fetch_list (asked.terms, asked.number, asked.name.now, is) lists)
  client-shelf (client.List asked) is leaves lists = leaves.shelf refl

  client-holding : (asked : ClientRequest) → AsksClientFor words asked → LeavesBut held old new (client_reach asked) → (AsksKept words → ⊥) → Stays held old.shelf new.shelf
  client-holding (client.Send asked) is leaves none = leaves.holding refl
  client-holding (client.Fetch asked) is leaves none = absurd (none (inr (asked.terms, asked.number, asked.name.now, is)))
  client-holding (client.List asked) is leaves none = leaves.holding refl

  client-bench : (asked : ClientRequest) → LeavesBut held old new (client_reach asked) → new.bench ≡ old.bench
  client-bench (client.Send asked) leaves = leaves.bench refl
  client-bench (client.Fetch asked) leaves = leaves.bench refl
  client-bench (client.List asked) leaves = leaves.bench refl

  by-client : (asked : ClientRequest) → AsksClientFor words asked → LeavesBut held old new (client_reach asked) → LeavesAlone held old new words
  by-client asked is leaves =
      let asks : AsksClient words = asks-client words asked is in
      record {
        untouched = λ usage. absurd (only.usage_client usage asks);
        session_alone = λ session. absurd (only.session_client session asks);
        serve_alone = λ serve. absurd (only.serve_client serve asks);
        list_alone = client-shelf asked is leaves;
        clock_unasked = λ moment. absurd (only.session_client (moment.0, moment.1) asks);
        files_alone = λ file. absurd (file-client words only file asks);
        made_alone = λ make. absurd (make-client words only make asks);
        rehearsal_alone = λ rehearse. absurd (only.client_rehearse asks rehearse);
        disk_alone = λ none. absurd (none (inr asks));
        held_stays = client-holding asked is leaves;
        bench_alone = λ _. client-bench asked leaves;
      }

  -- a command that leaves disk, air and clock alone
  by-idle :
      (new.lent.disk ≡ old.lent.disk) × (new.lent.air ≡ old.lent.air) × (new.lent.clock ≡ old.lent.clock)
      → (IsUsage words → ⊥) → (AsksSession words → ⊥) → (AsksServe words → ⊥) → (AsksClient words → ⊥)
      → ((AsksKept words → ⊥) → Stays held old.shelf new.shelf) → ((AsksRehearse words → ⊥) → new.bench ≡ old.bench)
      → LeavesAlone held old new words
  by-idle same no_usage no_session no_serve no_client holding bench = record {
    untouched = λ usage. absurd (no_usage usage);
    session_alone = λ session. absurd (no_session session);
    serve_alone = λ serve. absurd (no_serve serve);
    list_alone = λ list. absurd (no_client (inr (inr list)));
    clock_unasked = λ _. same.2;
    files_alone = λ _. (same.1, same.2);
    made_alone = λ _. (same.1, same.2);
    rehearsal_alone = λ _. (same.1, same.2);
    disk_alone = λ _. same.0;
    held_stays = holding;
    bench_alone = bench;
  }

  by-file : AsksFile words → LeavesBut held old new (record nothing { shelf = true }) → LeavesAlone held old new words
  by-file file leaves =
      by-idle (leaves.disk refl, leaves.air refl, leaves.clock refl) (λ usage. usage-file words only usage file)
      (λ session. session-file words only session file) (λ serve. serve-file words only serve file)
      (file-client words only file) (λ _. leaves.holding refl) (λ _. leaves.bench refl)

  by-making : (asked : MakingRequest) → AsksMakingFor words asked → LeavesBut held old new (reach_of (request.Making asked)) → LeavesAlone held old new words
  by-making asked is leaves =
      let make = asks-make words asked is in
      by-idle (leaves.disk refl, leaves.air refl, leaves.clock refl) (λ usage. usage-make words only usage make)
      (λ session. session-make words only session make) (λ serve. serve-make words only serve make)
      (make-client words only make) (λ none. absurd (none (inl make))) (λ _. leaves.bench refl)

  by-rehearsal : (asked : RehearseRequest) → AsksRehearseFor words asked → LeavesBut held old new (reach_of (request.Rehearse asked)) → LeavesAlone held old new words
  by-rehearsal asked is leaves =
      let rehearse = asks-rehearse words asked is in
      by-idle (leaves.disk refl, leaves.air refl, leaves.clock refl) (λ usage. only.usage_rehearse usage rehearse)
      (λ session. only.session_rehearse session rehearse) (λ serve. only.serve_rehearse serve rehearse)
      (λ client. only.client_rehearse client rehearse) (λ _. leaves.holding refl) (λ none. absurd (none rehearse))

  by-request : (asked : Request) → AsksFor words asked → LeavesBut held old new (reach_of asked) → LeavesAlone held old new words
  by-request (request.Session asked) is leaves = by-session asked is leaves
  by-request (request.Serve asked) is leaves = by-serve asked is leaves
  by-request (request.Client asked) is leaves = by-client asked is leaves
  by-request (request.File command name) is leaves = by-file (command, name.now, is) leaves
  by-request (request.Making asked) is leaves = by-making asked is leaves
  by-request (request.Rehearse asked) is leaves = by-rehearsal asked is leaves

  -- the relation says what each command leaves alone
  pub leaves-alone : Touches held old new words → LeavesAlone held old new words
  leaves-alone (inl same) = same-all same
  leaves-alone (inr (asked, is, leaves)) = by-request asked is leaves
