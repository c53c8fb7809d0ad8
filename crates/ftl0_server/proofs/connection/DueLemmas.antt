-- How a connection queues what is due, after the packets of a frame.
use Rattle.std.proofs.Common.{◌≡◌, ◌⊎◌, inl, inr, ℕ, suc, ◌+◌, ◌<◌, ◌≤◌, Bool, true, false, List, [], ◌++◌, refl, ap, sym, ◌∙◌, subst, arith, append-nil}
use Rattle.ftl0_server.specs.Connection.ConnectionState.{Hears}
use Rattle.ftl0_server.proofs.Names.{common_steps, All, None, Some, Result, Ok, ⊤, add-zero, add_assoc, All-append, All-nil, All-weaker, Ghosts, free_octets, Kept, StandsFor, Window, after_all, IsKnown, IsReady, StoreState, store_on, Store, DoesAmongReads, one_if, among-at, among-same, among-store, among-then, does-among, Does-none, known_on, puts-among-then, Failure, failed_reads, read_fails, DiskFault, WorkingOn, state_in, DuePacket, State, due_at, next_due, tells_failed_read, AtDisk, Fate, Stays, ConnectionState, HearsBy, AreFree, HearsParts, IsNothingDue, KeepsFit, Queued, QueuesBy, QueuesDue, QueuesPacket, NoneDue, progressed, Progress, after_due, enough_free, fails, queued, queuing, stations-then}
use Rattle.ftl0_server.proofs.connection.FailureLemmas.{alike-second, All-at, among-at as among-one, among-first, at_part, none-writes, reads-among}
use Rattle.ftl0_server.proofs.connection.HearsLemmas.{IsStop}
use Rattle.ftl0_server.proofs.connection.QueuingLemmas.{KeepsRest, queued-keeps, queued-on, queuing-alike, queuing-fewer, queuing-keeps, queuing-next, queuing-none}

-- ---- nothing is due

pub none-due : (store : Store) (state : State) (fails : Bool) → NoneDue state → next_due store state fails ≡ None
none-due store state reads none = rw none refl

-- and a packet is
due-no : (store : Store) (state : State) (fails : Bool) (due : DuePacket) → NoneDue state → next_due store state fails ≡ Some due → ⊥
due-no store state reads due none is = cc (sym (none-due store state reads none) ∙ is)

-- a packet was put, so the other is so
pub known-or : {Known : Type 0} {put due : Bool} → put ≡ due → put ≡ true → Known ⊎ (due ≡ false) → Known
known-or same is (inl known) = known
known-or same is (inr none) = absurd (let x : true ≡ false = sym is ∙ same ∙ none in cc x)

module _ {D : Type 0} (g : Ghosts D) (lasts : (disk : D) → g.lasts disk disk) (on : (first second third : D) → g.lasts first second → g.lasts second third → g.lasts first third) where
  -- ---- no packet

  pub does-none : (store : StoreState) (disk : D) → IsReady g store disk → DoesAmongReads g ⊥ 0 store store disk disk []
  does-none store disk ready = does-among g ⊥ store store disk disk [] (Does-none g ⊥ store disk (λ never. never) ready (lasts disk))

  module _ (store : StoreState) (disk disk_n : D) (old new : ConnectionState) (ready : IsReady g store disk) (link : new.link ≡ old.link)
      (state : state_in store new.session ≡ state_in store old.session) (untouched : disk_n ≡ disk) where
    -- it is as it was
    still : (w : Window) (progress : Progress) → StandsFor w old.link progress.end → state_in store old.session ≡ progress.state
        → progress ≡ queuing (free_octets progress.end) (store_on g store disk) (failed_reads []) progress → Queued g w store disk disk_n new progress
    still w progress stands stood is = record {
      parts = [];
      behind = All-nil (λ part. progress.part ≤ part);
      now = progress;
      is_now = is;
      link = subst (λ (k : Kept). StandsFor w k progress.end) (sym link) stands;
      state = state ∙ stood;
      missed = 0;
      missed_is = sym (add-zero progress.missed);
      reads = subst (λ (d : D). DoesAmongReads g ⊥ 0 store store disk d []) (sym untouched) (does-none store disk ready);
      store_is = ap (λ (d : D). store_on g store d) untouched;
    }

    queues-none : IsNothingDue g store disk old.session ⊎ AreFree old.link (λ free. free < enough_free) → QueuesDue g store disk disk_n old new
    queues-none (inl none) seen w progress stands stood =
        still w progress stands stood
        (sym (queuing-none (store_on g store disk) (failed_reads []) (free_octets progress.end) progress (ap (λ (s : State). next_due (store_on g store disk) s false) (sym stood) ∙ none false)))
    queues-none (inr few) seen w progress stands stood = grind (arith, common_steps, still, queuing-fewer)

  pub queues-last : (store : StoreState) (disk disk_n : D) (old new : ConnectionState) → IsReady g store disk → (IsKnown g disk ⊎ NoneDue (state_in store old.session) → QueuesBy g store disk disk_n old new false) → QueuesDue g store disk disk_n old new
  queues-last store disk disk_n old new ready last seen = let is = last seen in queues-none store disk disk_n old new ready is.0 is.1 is.2 is.3 seen

  -- ---- one packet, and then the others

  module _ (store : StoreState) (disk disk_m disk_n : D) (old mid new : ConnectionState) (known : IsKnown g disk) (one : QueuesPacket g store disk disk_m old mid) where
    -- it is known still, and the store is the same
    known-then : IsKnown g disk_m
    known-then = known_on g disk disk_m one.reads.puts.told known

    same-store : store_on g store disk_m ≡ store_on g store disk
    same-store = among-store g (one_if (tells_failed_read one.due.packet)) store store disk disk_m [] known one.reads

    module _ (w : Window) (progress : Progress) (stands : StandsFor w old.link progress.end) (state : state_in store old.session ≡ progress.state) where
      -- after it
      abbrev next : Progress
      next = after_due one.due progress

      module _ (more : Queued g w store disk_m disk_n new next) where
        abbrev parts : List ℕ
        parts = at_part one.fails progress.part ++ more.parts

        here : All (λ part. part < suc progress.part) (at_part one.fails progress.part)
        here = All-at (λ part. part < suc progress.part) one.fails progress.part (omega arith)

        fails-here : read_fails (failed_reads parts) progress.part ≡ one.fails
        fails-here =
            reads-among [] parts progress.part none-writes
            ∙ among-first (suc progress.part) progress.part (at_part one.fails progress.part) more.parts more.behind (omega arith) ∙ among-one one.fails progress.part

        is-due : due_at (store_on g store disk) progress.state (failed_reads parts) progress.part ≡ Some one.due
        is-due = ap (λ (b : Bool). next_due (store_on g store disk) progress.state b) fails-here ∙ ap (λ (s : State). next_due (store_on g store disk) s one.fails) (sym state) ∙ one.is_due

        now-is : more.now ≡ queuing (free_octets progress.end) (store_on g store disk) (failed_reads parts) progress
        now-is =
            let alike : (part : ℕ) → next.part ≤ part → read_fails (failed_reads more.parts) part ≡ read_fails (failed_reads parts) part =
            λ part later. sym (alike-second [] (at_part one.fails progress.part) more.parts next.part (suc part) none-writes here part later (omega arith)).0 in
            more.is_now ∙ ap (λ (s : Store). queuing (free_octets next.end) s (failed_reads more.parts) next) same-store
            ∙ queuing-alike (store_on g store disk) (failed_reads more.parts) (free_octets next.end) (failed_reads parts) next alike
            ∙ queuing-next (store_on g store disk) (failed_reads parts) progress one.due is-due (one.enough w progress.end stands)

        queued-one : Queued g w store disk disk_n new progress
        queued-one = record {
          parts = parts;
          behind = grind (arith, common_steps, All-append, at_part, All-at, All-weaker);
          now = more.now;
          is_now = now-is;
          link = more.link;
          state = more.state;
          missed = one_if (tells_failed_read one.due.packet) + more.missed;
          missed_is = more.missed_is ∙ add_assoc progress.missed (one_if (tells_failed_read one.due.packet)) more.missed;
          reads = among-then g on ⊥ ⊥ (one_if (tells_failed_read one.due.packet)) more.missed store store store disk disk_m disk_n [] [] (λ never. never) one.reads more.reads;
          store_is = more.store_is ∙ same-store;
        }

  pub queues-then : (store : StoreState) (disk disk_m disk_n : D) (old mid new : ConnectionState) → (IsKnown g disk ⊎ NoneDue (state_in store old.session) → QueuesPacket g store disk disk_m old mid) → QueuesDue g store disk_m disk_n mid new
      → QueuesDue g store disk disk_n old new
  queues-then store disk disk_m disk_n old mid new one more (inl known) w progress stands state =
      let packet = one (inl known) in
      queued-one store disk disk_m disk_n old mid new known packet w progress stands state
      (more (inl (known-then store disk disk_m disk_n old mid new known packet)) w (after_due packet.due progress) (packet.queued w progress.end stands) packet.state)
  queues-then store disk disk_m disk_n old mid new one more (inr none) w progress stands state =
      let packet = one (inr none) in absurd (due-no (store_on g store disk) (state_in store old.session) packet.fails packet.due none packet.is_due)

  -- ---- what is left for the next event

  pub keeps-then : (a b c : StoreState) (d e f : D) (old mid new : ConnectionState) → KeepsFit g a b d e old mid → KeepsFit g b c e f mid new → KeepsFit g a c d f old new
  keeps-then a b c d e f old mid new first second = grind (arith, common_steps, puts-among-then, stations-then)

  -- ---- a frame

  module _ (w : Window) (left : List ℕ) (event : List Failure → Progress) (before : AtDisk StoreState D) where
    -- with what is due after it
    abbrev whole : List Failure → Progress
    whole failures = queued (store_on g before.it before.disk) failures (event failures)

    -- the connection goes on
    pub hears-going : (between now : WorkingOn D) (mid new : ConnectionState) → IsKnown g between.disk ⊎ NoneDue (state_in between.store mid.session) → HearsParts g w left event before between mid (Stays, Ok tt) → now.store ≡ between.store → now.lists ≡ between.lists
        → new.octets ≡ mid.octets → QueuesDue g between.store between.disk now.disk mid new → Hears g w (λ failures. progressed left (whole failures)) before now new (Stays, Ok tt)
    hears-going between now mid new seen heard same lists octets queues =
        let h = heard.hears.by in
        let settled = heard.settled refl in
        let made : Progress = event ([] ++ failed_reads heard.hears.parts) in
        let is = h.1.1.1 in
        let q : Queued g w between.store between.disk now.disk new made =
        queues seen w made is.link is.state in
        let all : List Failure = [] ++ failed_reads (heard.hears.parts ++ q.parts) in
        let stores : after_all (store_on g before.it before.disk) made.done ≡ store_on g between.store between.disk = sym (heard.hears.store refl) in
        let alike : (part : ℕ) → made.part ≤ part → read_fails all part ≡ read_fails (failed_reads q.parts) part =
        λ part later. (alike-second [] heard.hears.parts q.parts made.part (suc part) none-writes settled.before part later (omega arith)).0 in
        let now_is : whole all ≡ q.now =
        rw (settled.later q.parts q.behind, queued-on (store_on g before.it before.disk) all made h.1.1.0, stores, q.is_now)
        (queuing-alike (store_on g between.store between.disk) all (free_octets made.end) (failed_reads q.parts) made alike) in
        let rest : KeepsRest made q.now = rw q.is_now (queuing-keeps (store_on g between.store between.disk) (failed_reads q.parts) (free_octets made.end) made) in
        let both = among-then g on ⊥ ⊥ made.missed q.missed before.it between.store between.store before.disk between.disk now.disk made.done [] (λ never. never) h.2 q.reads in
        let those = among-at g ⊥ (made.missed + q.missed) before.it between.store before.disk now.disk (made.done ++ []) q.now.done (append-nil made.done ∙ sym rest.done) both in
        let does : DoesAmongReads g ⊥ q.now.missed before.it now.store before.disk now.disk q.now.done =
        rw same (among-same g ⊥ ⊥ (made.missed + q.missed) q.now.missed before.it between.store before.disk now.disk q.now.done (λ p. p) (λ p. p) (sym q.missed_is) those) in
        let by =
        subst (λ p. HearsBy g w (λ writes. progressed left p) before now new Stays (Ok tt)) (sym now_is) (grind arith) in
        let store : store_on g now.store now.disk ≡ after_all (store_on g before.it before.disk) (whole all).done =
        rw (same, now_is, rest.done) (q.store_is ∙ sym stores) in
        record { parts = heard.hears.parts ++ q.parts; by = by; since = by.2.since; store = λ fine. store }

    -- it stopped, and nothing is queued
    module _ (now : WorkingOn D) (new : ConnectionState) (over : (failures : List Failure) → (event failures).halt ≡ fails → (event failures).over ≡ true) (parts : List ℕ) where
      abbrev By : Fate → Result ⊤ DiskFault → Progress → Type 0
      By fate result p = HearsBy g w (λ writes. progressed left p) before now new fate result

      by-stopped : (fate : Fate) (result : Result ⊤ DiskFault) → IsStop (fate, result) → HearsBy g w (λ writes. progressed left (event (writes ++ failed_reads parts))) before now new fate result
          → HearsBy g w (λ writes. progressed left (whole (writes ++ failed_reads parts))) before now new fate result
      by-stopped fate result stops h = grind (arith, common_steps)

    pub hears-stop : (now : WorkingOn D) (new : ConnectionState) (told : Fate × Result ⊤ DiskFault) → IsStop told → HearsParts g w left event before now new told
        → Hears g w (λ failures. progressed left (whole failures)) before now new told
    hears-stop now new told stops heard = record {
      parts = heard.hears.parts;
      by = by-stopped now new heard.over heard.hears.parts told.0 told.1 stops heard.hears.by;
      since = rw (queued-keeps (store_on g before.it before.disk) ([] ++ failed_reads heard.hears.parts) (event ([] ++ failed_reads heard.hears.parts))).done heard.hears.since;
      store = rw (queued-keeps (store_on g before.it before.disk) ([] ++ failed_reads heard.hears.parts) (event ([] ++ failed_reads heard.hears.parts))).done heard.hears.store;
    }
