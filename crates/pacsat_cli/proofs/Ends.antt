-- All that a run promises, made of what it promises of the words, of each command, of each status, and of its end.
use Rattle.std.proofs.Common.{◌≡◌, ℕ, List, [], ◌∷◌, refl, ap, inl, inr, arith}
use Rattle.pacsat_cli.specs.declared.status.BadStore.{BadStore}
use Rattle.pacsat_cli.specs.declared.status.Status.TheVariants as status
use Rattle.pacsat_cli.proofs.Names.{AsksShown, Lendings, Touches, lendings, Rose, Lent, Seen, AsksClient, IsUsage, NamesCommand, ServiceStands, SessionStands, RunsFetch, RunsList, RunsSend, outside, FetchEndsExactly, ListEndsExactly, SendEndsExactly, SendRefuses, SendStarts, IsNoSuchBy, IsShownBy, IsTooLongBy, Rehearses, SeenSetting, HasStatusCause, IsUnless, Shows, Stays, RunsServe, WhereServed, AsksNode, AsksStore, HasDiskCause, HasReadCause, HasStoreCause, HasWriteCause, IsDoneAtEnd, IsDoneBy, IsSpentBy, RunsSession, WhereHeard, line_of, RunsBody, RunsFile, RunsMake, WhereHeld, Status}
use Rattle.pacsat_cli.proofs.Unasked.{ClientPart, FilePart, MakePart, ServicePart, SessionPart}

module _ {A C D S O B : Type 0} (words : List (List ℕ)) (see : Seen D A C) (told : SeenSetting B S O) (old new : Lendings D A C S B) (before now : O) (s : Status) where
  -- what is said of words that ask for nothing
  pub record UsagePart : Type 0 where
    pub usage : s ≡ status.Usage → IsUsage words
    pub usage_told : IsUsage words → IsUnless s status.Usage (status.OutOfMemory ∷ [])
    pub unread : IsUsage words → s ≡ status.OutOfMemory → NamesCommand words

  -- of the cause of each status
  pub record CausePart : Type 0 where
    pub air_read : HasReadCause words (see.air.read_faults old.lent.air) (see.air.read_faults new.lent.air) s
    pub air_write : HasWriteCause words (see.air.write_faults old.lent.air) (see.air.write_faults new.lent.air) s
    pub disk : HasDiskCause words see.disk.read_faults see.disk.write_faults old.lent.disk new.lent.disk old.lent.air new.lent.air s
    pub shelf : HasStatusCause status.Shelf (told.shelf.faults old.shelf) (told.shelf.faults new.shelf) s
    pub out : s ≡ status.Out → Rose (told.out.faults before) (told.out.faults now)
    pub bad_store : HasStoreCause words (see.disk.content old.lent.disk) s

  -- and of the end
  pub record EndPart : Type 0 where
    pub memory : AsksStore words → s ≡ status.OutOfMemory → (new.lent.air ≡ old.lent.air) × (new.lent.clock ≡ old.lent.clock)
    pub node_done : AsksNode words → s ≡ status.Done → IsDoneAtEnd see.air see.disk.read_faults see.disk.write_faults old.lent.air new.lent.air old.lent.disk new.lent.disk
    pub done : s ≡ status.Done → Stays told.shelf.faults old.shelf new.shelf × Stays told.out.faults before now
    pub unshown : s ≡ status.Done → (AsksShown words → ⊥) → now ≡ before
    pub shown : (AsksShown words → ⊥) → Shows told.out.shown told.out.faults before now (line_of s)

  -- all of it, clause by clause
  abbrev pub RunEnds : Type 0
  RunEnds = record {
    touches : Touches told.shelf.held old new words;
    usage : s ≡ status.Usage → IsUsage words;
    usage_told : IsUsage words → IsUnless s status.Usage (status.OutOfMemory ∷ []);
    unread : IsUsage words → s ≡ status.OutOfMemory → NamesCommand words;
    session : RunsSession words see old.lent new.lent s;
    serve : RunsServe words see old.lent new.lent s;
    send : RunsSend words see told.shelf told.out (outside old.lent old.shelf before) (outside new.lent new.shelf now) s;
    fetch : RunsFetch words see told.shelf told.out (outside old.lent old.shelf before) (outside new.lent new.shelf now) s;
    list : RunsList words see told.out (outside old.lent old.shelf before) (outside new.lent new.shelf now) s;
    send_refuses : SendRefuses words told.shelf old.shelf s;
    send_starts : SendStarts words see.disk told.shelf old.lent old.shelf s;
    send_exactly : SendEndsExactly words see told.shelf old.lent new.lent old.shelf s;
    fetch_exactly : FetchEndsExactly words see old.lent new.lent s;
    list_exactly : ListEndsExactly words see old.lent new.lent s;
    session_acknowledged : SessionStands words see old.lent new.lent;
    serve_acknowledged : ServiceStands words see old.lent new.lent;
    memory : AsksStore words → s ≡ status.OutOfMemory → (new.lent.air ≡ old.lent.air) × (new.lent.clock ≡ old.lent.clock);
    complete : WhereHeard words see.air.heard old.lent.air new.lent.air (IsDoneBy s);
    spent : WhereHeard words see.air.heard old.lent.air new.lent.air (IsSpentBy s);
    serve_complete : WhereServed words see.air.heard old.lent.air new.lent.air (IsDoneBy s);
    serve_spent : WhereServed words see.air.heard old.lent.air new.lent.air (IsSpentBy s);
    files : RunsFile words told.shelf.held told.out.shown told.out.faults old.shelf before now s;
    no_such : WhereHeld words (told.shelf.held old.shelf) (IsNoSuchBy s);
    too_long : WhereHeld words (told.shelf.held old.shelf) (IsTooLongBy s);
    files_done : WhereHeld words (told.shelf.held old.shelf) (IsShownBy s);
    made : RunsMake words told.shelf.held old.shelf new.shelf s;
    body : RunsBody words told.shelf.held old.shelf new.shelf s;
    rehearsal : Rehearses words told old.shelf before now new.bench s;
    air_read : HasReadCause words (see.air.read_faults old.lent.air) (see.air.read_faults new.lent.air) s;
    air_write : HasWriteCause words (see.air.write_faults old.lent.air) (see.air.write_faults new.lent.air) s;
    disk : HasDiskCause words see.disk.read_faults see.disk.write_faults old.lent.disk new.lent.disk old.lent.air new.lent.air s;
    shelf : HasStatusCause status.Shelf (told.shelf.faults old.shelf) (told.shelf.faults new.shelf) s;
    out : s ≡ status.Out → Rose (told.out.faults before) (told.out.faults now);
    bad_store : HasStoreCause words (see.disk.content old.lent.disk) s;
    node_done : AsksNode words → s ≡ status.Done → IsDoneAtEnd see.air see.disk.read_faults see.disk.write_faults old.lent.air new.lent.air old.lent.disk new.lent.disk;
    done : s ≡ status.Done → Stays told.shelf.faults old.shelf new.shelf × Stays told.out.faults before now;
    unshown : s ≡ status.Done → (AsksShown words → ⊥) → now ≡ before;
    shown : (AsksShown words → ⊥) → Shows told.out.shown told.out.faults before now (line_of s);
  }

  pub whole :
      Touches told.shelf.held old new words → UsagePart → SessionPart words see old.lent new.lent s
      → ServicePart words see old.lent new.lent s
      → ClientPart words see told.shelf told.out (outside old.lent old.shelf before) (outside new.lent new.shelf now) s
      → FilePart words told.shelf told.out old.shelf before now s → MakePart words told.shelf old.shelf new.shelf s
      → Rehearses words told old.shelf before now new.bench s → CausePart → EndPart → RunEnds
  whole touches usage session service client file make rehearsal cause end = record {
    touches = touches;
    usage = usage.usage;
    usage_told = usage.usage_told;
    unread = usage.unread;
    session = session.session;
    serve = service.serve;
    send = client.send;
    fetch = client.fetch;
    list = client.list;
    send_refuses = client.send_refuses;
    send_starts = client.send_starts;
    send_exactly = client.send_exactly;
    fetch_exactly = client.fetch_exactly;
    list_exactly = client.list_exactly;
    session_acknowledged = session.session_acknowledged;
    serve_acknowledged = service.serve_acknowledged;
    memory = end.memory;
    complete = session.complete;
    spent = session.spent;
    serve_complete = service.serve_complete;
    serve_spent = service.serve_spent;
    files = file.files;
    no_such = file.no_such;
    too_long = file.too_long;
    files_done = file.files_done;
    made = make.made;
    body = make.body;
    rehearsal = rehearsal;
    air_read = cause.air_read;
    air_write = cause.air_write;
    disk = cause.disk;
    shelf = cause.shelf;
    out = cause.out;
    bad_store = cause.bad_store;
    node_done = end.node_done;
    done = end.done;
    unshown = end.unshown;
    shown = end.shown;
  }

  -- words that ask for a command
  pub asked-usage : (s ≡ status.Usage → ⊥) → (IsUsage words → ⊥) → UsagePart
  asked-usage isnt none = record {
    usage = λ e. absurd (isnt e);
    usage_told = λ usage. absurd (none usage);
    unread = λ usage. absurd (none usage);
  }

-- a command that touches neither disk nor air nor clock
module _ {A C D S O B : Type 0} (words : List (List ℕ)) (see : Seen D A C) (told : SeenSetting B S O) (all : Lent D A C) (shelf shelf_now : S) (bench bench_now : List B) (before now : O) (s : Status) (no_node : AsksNode words → ⊥) where
  pub idle-cause :
      (s ≡ status.AirRead → ⊥) → (s ≡ status.AirWrite → ⊥) → (s ≡ status.Disk → ⊥)
      → ((why : BadStore) → s ≡ status.BadStore why → ⊥) → (AsksClient words → ⊥)
      → HasStatusCause status.Shelf (told.shelf.faults shelf) (told.shelf.faults shelf_now) s
      → (s ≡ status.Out → Rose (told.out.faults before) (told.out.faults now))
      → CausePart words see told (lendings all shelf bench) (lendings all shelf_now bench_now) before now s
  idle-cause no_read no_write no_disk no_bad no_client of_shelf of_out = record {
    air_read = record { rose = λ e. absurd (no_read e); same = λ _ _. refl };
    air_write = record { rose = λ e. absurd (no_write e); same = λ _ _ _ _. refl };
    disk = record {
      asked = λ e. absurd (no_disk e);
      rose = λ e. absurd (no_disk e);
      same = λ _. refl;
      same_reads = λ _ _. refl;
      no_less = (omega arith, omega arith);
    };
    shelf = of_shelf;
    out = of_out;
    bad_store = record {
      asked = λ why e. absurd (no_bad why e);
      exact = λ asked is _ _ _. absurd (no_node (inl (asked, is)));
      exact_served = λ asked is _ _. absurd (no_node (inr (asked, is)));
      exact_notes = λ client _ _ _. absurd (no_client client);
    };
  }

  -- what it shows is a text, or nothing but the status's line
  pub text-end : AsksShown words → (s ≡ status.Done → Stays told.shelf.faults shelf shelf_now × Stays told.out.faults before now) → EndPart words see told (lendings all shelf bench) (lendings all shelf_now bench_now) before now s
  text-end text done = record {
    memory = λ _ _. (refl, refl);
    node_done = λ node. absurd (no_node node);
    done = done;
    unshown = λ _ others. absurd (others text);
    shown = λ others. absurd (others text);
  }

  pub line-end :
      Shows told.out.shown told.out.faults before now (line_of s) → (line_of s ≡ [] → now ≡ before)
      → (s ≡ status.Done → Stays told.shelf.faults shelf shelf_now)
      → EndPart words see told (lendings all shelf bench) (lendings all shelf_now bench_now) before now s
  line-end line silent done = record {
    memory = λ _ _. (refl, refl);
    node_done = λ node. absurd (no_node node);
    done = λ e. (done e, ap told.out.faults (silent (ap line_of e)));
    unshown = λ e _. silent (ap line_of e);
    shown = λ _. line;
  }
