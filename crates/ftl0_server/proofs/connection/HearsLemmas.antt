-- How what packets make of a connection is put together.
use Rattle.std.proofs.Common.{◌≡◌, inl, inr, ℕ, ◌+◌, ◌<◌, ◌≤◌, Bool, true, false, not, ◌&&◌, List, [], ◌++◌, length, refl, ap, sym, ◌∙◌, subst, arith, length-append}
use Rattle.disk_model.specs.Runs.{Leaves}
use Rattle.file_store.specs.OnDisk.{MakesFirst}
use Rattle.ftl0_server.proofs.Names.{common_steps, All, Result, Ok, Err, ⊤, All-append, All-weaker, CallSign, Ghosts, LinkEnd, StandsFor, Window, Item, Command, after_all, Store, StoreState, store_on, after_all-append, among-then, cuts-among-all, cuts-among-then, known_back, known_on, makes-first, makes-within, told_weaker, weaker, Failure, failed_reads, failed_write, write_fails, DiskFault, SessionState, WorkingOn, caller_of, State, AtDisk, at, Session, Fate, Ends, Stays, ConnectionState, HearsBy, StandsAfter, none_left, with_reads, HearsParts, IsAmong, IsGoing, IsSeen, TakesPackets, session_on, taking_some, Happened, progressed, Halt, LookAtNone, Progress, fails, goes_on, taking}
use Rattle.ftl0_server.proofs.connection.FailureLemmas.{AreWrites, alike-first, alike-second, none-writes, one-writes, other-part, reads-among, same-part, writes-none}
use Rattle.ftl0_server.proofs.connection.TakingLemmas.{IsFront, behind, going, is_going, looks-first, looks-on, on_from, taking-alike, taking-begins, taking-ended, taking-failed, taking-fails, taking-on, taking-part}

-- the first of some commands, for some number of them, are the first of more commands
pub leaves-front : {D : Type 0} (g : Ghosts D) (store : Store) (disk disk_n : D) (front all : List Command) → IsFront front all → Leaves g disk disk_n (λ _. MakesFirst store front)
    → Leaves g disk disk_n (λ _. MakesFirst store all)
leaves-front g store disk disk_n front all h leaves = told_weaker (g.content disk) _ _ (λ octets told left. weaker g.moment g.images_since disk disk_n (MakesFirst store front) (MakesFirst store all) first left) leaves
  where
    first : (image : List ℕ) → MakesFirst store front image → MakesFirst store all image
    first image made = let few = length-append front h.0 in
        subst (λ (cs : List Command). MakesFirst store cs image) (sym h.1)
        (makes-within 0 (length front) 0 (length (front ++ h.0)) store (front ++ h.0) image (omega arith) (omega (arith, few)) (makes-first 0 (length front) store front h.0 image (omega arith) made))

-- whether more is taken, by its parts
pub going-on : (progress : Progress) → progress.over ≡ false → progress.halt ≡ goes_on → going progress ≡ true
going-on progress over halt = rw (over, halt) refl

going-over : (progress : Progress) → progress.over ≡ true → going progress ≡ false
going-over progress over = rw over refl

not-both : (b : Bool) → (b && false) ≡ false
not-both b = grind (arith, common_steps)

going-halted : (progress : Progress) (halt : Halt) → is_going halt ≡ false → progress.halt ≡ halt → going progress ≡ false
going-halted progress halt never is = ap (λ (h : Halt). not progress.over && is_going h) is ∙ ap (λ (b : Bool). not progress.over && b) never ∙ not-both (not progress.over)

-- a frame stopped the connection
abbrev pub IsStop : Fate × Result ⊤ DiskFault → Type 0
IsStop told = IsGoing told → ⊥

-- what is known or looked at for packets is for the first of them
pub seen-first : {D : Type 0} (g : Ghosts D) (moment : ℕ) (session : SessionState) (before : WorkingOn D) (items others : List Item) → IsSeen g moment session before (items ++ others)
    → IsSeen g moment session before items
seen-first g moment session before items others (inl known) = inl known
seen-first g moment session before items others (inr (unknown, looks)) = inr (unknown, looks-first (caller_of session) moment (session_on g session before) items others looks)

module _ {D : Type 0} (g : Ghosts D) (on : (first second third : D) → g.lasts first second → g.lasts second third → g.lasts first third) (w : Window) where
  -- ---- what images stand for since a frame came

  -- whichever write fails, what is begun is a prefix of what is done when none does
  abbrev pub BeginsWhole : (List Failure → Happened) → Type 0
  BeginsWhole event = (part : ℕ) → IsFront ((event (failed_write part)).done ++ (event (failed_write part)).cut) (event []).done

  pub by-since : (event : List Failure → Happened) (before : AtDisk StoreState D) (now : WorkingOn D) (connection : ConnectionState) (fate : Fate) (result : Result ⊤ DiskFault)
      → BeginsWhole event → HearsBy g w event before now connection fate result → Leaves g before.disk now.disk (λ _. MakesFirst (store_on g before.it before.disk) (event []).done)
  by-since event before now connection fate (Ok done) begins h = h.2.since
  by-since event before now connection fate (Err fault) begins h =
      leaves-front g (store_on g before.it before.disk) before.disk now.disk _ _ (begins h.0)
      (cuts-among-all g on ⊤ (event (failed_write h.0)).missed before (at now.store now.disk) (event (failed_write h.0)).done (event (failed_write h.0)).cut h.3).since

  -- so it is of packets
  pub taking-whole : (left : List ℕ) (caller : CallSign) (moment : ℕ) (session : Session) (end : LinkEnd) (items : List Item) (parts : List ℕ) (first : ℕ)
      → BeginsWhole (with_reads (λ failures. progressed left (taking caller moment session end items failures first)) parts)
  taking-whole left caller moment session end items parts first part = grind (arith, common_steps, taking-begins, reads-among, one-writes, none-writes, writes-none)

  -- ---- packets, and then others

  module _ (moment : ℕ) (old mid new : ConnectionState) (before between now : WorkingOn D) (end : LinkEnd) (items others : List Item) (first : ℕ) (callers : caller_of mid.session ≡ caller_of old.session)
      (one : TakesPackets g w (taking_some g moment old.session before end items first) (IsAmong first (length items)) (at before.store before.disk) between (none_left mid.link mid.session) (Stays, Ok tt)) where
    -- the parts after them begin here
    abbrev next : ℕ
    next = first + length items

    -- what they made
    abbrev made : Progress
    made = taking (caller_of old.session) moment (session_on g old.session before) end items ([] ++ failed_reads one.parts) first

    goes : going made ≡ true
    goes = going-on made one.by.1.1.0 one.by.0

    number : made.part ≡ next
    number = taking-part (caller_of old.session) moment (session_on g old.session before) end items ([] ++ failed_reads one.parts) first goes

    ahead : All (λ part. part < next) one.parts
    ahead = All-weaker (IsAmong first (length items)) (λ part. part < next) (λ part among. among.1) one.parts one.among

    abbrev whole : List Failure → Progress
    whole failures = taking (caller_of old.session) moment (session_on g old.session before) end (items ++ others) failures first

    abbrev part_of : List Failure → Progress
    part_of failures = taking (caller_of mid.session) moment (session_on g mid.session between) made.end others failures next

    -- where it goes on, as the others find it
    from : on_from (store_on g before.store before.disk) made ≡ session_on g mid.session between
    from =
        let stores : after_all (store_on g before.store before.disk) made.done ≡ store_on g between.store between.disk = sym (one.store refl) in
        rw (stores, sym one.by.1.0, sym one.by.1.1.1.state) refl

    -- what octets are known or looked at
    pub seen-then : IsSeen g moment old.session before (items ++ others) → IsSeen g moment mid.session between others
    seen-then (inl known) = inl (known_on g before.disk between.disk one.by.2.puts.told known)
    seen-then (inr (unknown, looks)) =
        inr (
          λ known. unknown (known_back g before.disk between.disk one.by.2.puts.told known),
          subst (λ (s : Session). LookAtNone (caller_of mid.session) moment s others) from
              (subst (λ (caller : CallSign). LookAtNone caller moment (on_from (store_on g before.store before.disk) made) others) (sym callers)
              (looks-on (caller_of old.session) moment (session_on g old.session before) end items others ([] ++ failed_reads one.parts) first looks goes)),
        )

    -- the whole is what they made, and what the others make from there
    same : (writes : List Failure) (parts : List ℕ) → AreWrites writes → ((part : ℕ) → part < next → write_fails writes part ≡ false) → All (λ part. next ≤ part) parts
        → whole (writes ++ failed_reads (one.parts ++ parts)) ≡ behind made.missed made.done (part_of (writes ++ failed_reads parts))
    same writes parts are none later =
        let all : List Failure = writes ++ failed_reads (one.parts ++ parts) in
        let these : taking (caller_of old.session) moment (session_on g old.session before) end items all first ≡ made =
        taking-alike (caller_of old.session) moment (session_on g old.session before) end items all ([] ++ failed_reads one.parts) first
        (alike-first writes one.parts parts first next are none later) in
        rw (taking-on (caller_of old.session) moment (session_on g old.session before) end items others all first (rw these goes), these, number, from, callers)
        (ap (behind made.missed made.done)
        (taking-alike (caller_of old.session) moment (session_on g mid.session between) made.end others all (writes ++ failed_reads parts) next
        (alike-second writes one.parts parts next (next + length others) are ahead)))

    -- so it is if a write of the others fails
    same-fault : (part : ℕ) (parts : List ℕ) → All (λ part. next ≤ part) parts → (part_of (failed_write part ++ failed_reads parts)).halt ≡ fails
        → whole (failed_write part ++ failed_reads (one.parts ++ parts)) ≡ behind made.missed made.done (part_of (failed_write part ++ failed_reads parts))
    same-fault part parts later halts =
        let there = taking-fails (caller_of mid.session) moment (session_on g mid.session between) made.end others (failed_write part ++ failed_reads parts) next halts in
        same (failed_write part) parts (one-writes part) (λ n low. other-part part n (λ here. omega (arith, same-part part there.0 parts there.2, here, there.1))) later

    abbrev By : Fate → Result ⊤ DiskFault → Progress → Type 0
    By fate result p = HearsBy g w (λ failures. progressed [] p) (at before.store before.disk) now (none_left new.link new.session) fate result

    by-then : (parts : List ℕ) → All (λ part. next ≤ part) parts → (fate : Fate) (result : Result ⊤ DiskFault)
        → HearsBy g w (λ writes. progressed [] (part_of (writes ++ failed_reads parts))) (at between.store between.disk) now (none_left new.link new.session) fate result
        → HearsBy g w (λ writes. progressed [] (whole (writes ++ failed_reads (one.parts ++ parts)))) (at before.store before.disk) now (none_left new.link new.session) fate result
    by-then parts later fate (Ok done) h =
        let part : Progress = part_of ([] ++ failed_reads parts) in
        subst (By fate (Ok done)) (sym (same [] parts none-writes (λ n low. refl) later))
        (h.0, h.1, among-then g on ⊥ ⊥ made.missed part.missed _ _ _ _ _ _ made.done part.done (λ never. never) one.by.2 h.2)
    by-then parts later fate (Err fault) h =
        let part : Progress = part_of (failed_write h.0 ++ failed_reads parts) in
        let is = subst (By fate (Err fault)) (sym (same-fault h.0 parts later h.1)) (
          h.0,
          h.1,
          h.2,
          cuts-among-then g on ⊤ made.missed part.missed (at before.store before.disk) (at between.store between.disk) (at now.store now.disk) made.done part.done part.cut one.by.2 h.3,
        ) in
        (h.0, is.1, is.2, is.3)

    -- packets were taken, and then the others
    pub takes-then : (told : Fate × Result ⊤ DiskFault)
        → ((there : LinkEnd) → StandsFor w mid.link there → TakesPackets g w (taking_some g moment mid.session between there others next) (IsAmong next (length others)) (at between.store between.disk) now (none_left new.link new.session) told)
        → TakesPackets g w (taking_some g moment old.session before end (items ++ others) first) (IsAmong first (length (items ++ others))) (at before.store before.disk) now (none_left new.link new.session) told
    takes-then told more =
        let two = more made.end one.by.1.1.1.link in
        let sum : length (items ++ others) ≡ length items + length others = length-append items others in
        let later : All (λ part. next ≤ part) two.parts = All-weaker (IsAmong next (length others)) (λ part. next ≤ part) (λ part among. among.0) two.parts two.among in
        record {
          parts = one.parts ++ two.parts;
          among =
              All-append (IsAmong first (length (items ++ others))) one.parts two.parts
              (All-weaker (IsAmong first (length items)) (IsAmong first (length (items ++ others))) (λ part among. (among.0, omega (arith, among.1, sum))) one.parts one.among)
              (All-weaker (IsAmong next (length others)) (IsAmong first (length (items ++ others))) (λ part among. (omega (arith, among.0), omega (arith, among.1, sum))) two.parts two.among);
          by = by-then two.parts later told.0 told.1 two.by;
          store = λ fine.
              let done : (whole ([] ++ failed_reads (one.parts ++ two.parts))).done ≡ made.done ++ (part_of ([] ++ failed_reads two.parts)).done =
              ap (λ (p : Progress). p.done) (same [] two.parts none-writes (λ n low. refl) later) in
              two.store fine ∙ ap (λ (s : Store). after_all s (part_of ([] ++ failed_reads two.parts)).done) (one.store refl)
              ∙ sym (after_all-append made.done (part_of ([] ++ failed_reads two.parts)).done (store_on g before.store before.disk))
              ∙ ap (after_all (store_on g before.store before.disk)) (sym done);
        }

  -- ---- a stop

  module _ (moment : ℕ) (session : SessionState) (before now : WorkingOn D) (new : ConnectionState) (end : LinkEnd) (items : List Item) (left : List ℕ) where
    abbrev of_items : List Failure → Progress
    of_items failures = taking (caller_of session) moment (session_on g session before) end items failures 0

    module _ (others : List Item) where
      abbrev of_all : List Failure → Progress
      of_all failures = taking (caller_of session) moment (session_on g session before) end (items ++ others) failures 0

      ended : (failures : List Failure) → going (of_items failures) ≡ false → of_all failures ≡ of_items failures
      ended failures stops = taking-ended (caller_of session) moment (session_on g session before) end items others failures 0 stops

      abbrev To : Fate → Result ⊤ DiskFault → Progress → Type 0
      To fate result p = HearsBy g w (λ failures. progressed left p) (at before.store before.disk) now new fate result

      -- a session that is over isn't carried on
      after-over : (fate : Fate) (over : Bool) (at_end : LinkEnd) (state : State) → over ≡ true
          → StandsAfter w now.store (none_left new.link new.session) over (record { end = at_end; rest = []; state = state }) fate → StandsAfter w now.store new over (record { end = at_end; rest = left; state = state }) fate
      after-over Stays over at_end state is h = absurd (let e : false ≡ true = sym h.0 ∙ is in cc)
      after-over Ends over at_end state is h = h

      by-ended : (parts : List ℕ) (fate : Fate) (result : Result ⊤ DiskFault) → IsStop (fate, result)
          → HearsBy g w (λ writes. progressed [] (of_items (writes ++ failed_reads parts))) (at before.store before.disk) now (none_left new.link new.session) fate result
          → HearsBy g w (λ writes. progressed left (of_all (writes ++ failed_reads parts))) (at before.store before.disk) now new fate result
      by-ended parts fate (Ok done) stops h = grind (arith, common_steps, ended, going-over, taking-failed, going-halted)
      by-ended parts fate (Err fault) stops h =
          let failures : List Failure = failed_write h.0 ++ failed_reads parts in
          let over : (of_items failures).over ≡ true = taking-failed (caller_of session) moment (session_on g session before) end items failures 0 h.1 in
          let is = subst (To fate (Err fault)) (sym (ended failures (going-over (of_items failures) over))) (h.0, h.1, (h.2.0, after-over fate _ _ _ over h.2.1), h.3) in
          (h.0, is.1, is.2, is.3)

      store-ended : (parts : List ℕ) (fate : Fate) (result : Result ⊤ DiskFault) → IsStop (fate, result)
          → HearsBy g w (λ writes. progressed [] (of_items (writes ++ failed_reads parts))) (at before.store before.disk) now (none_left new.link new.session) fate result
          → (result ≡ Ok tt → store_on g now.store now.disk ≡ after_all (store_on g before.store before.disk) (of_items ([] ++ failed_reads parts)).done)
          → result ≡ Ok tt → store_on g now.store now.disk ≡ after_all (store_on g before.store before.disk) (of_all ([] ++ failed_reads parts)).done
      store-ended parts Stays result stops h store fine = absurd (stops (ap (λ (r : Result ⊤ DiskFault). (Stays, r)) fine))
      store-ended parts Ends (Ok done) stops h store fine =
          rw (ended ([] ++ failed_reads parts) (going-over (of_items ([] ++ failed_reads parts)) h.1.1.0)) (store fine)
      store-ended parts Ends (Err why) stops h store fine = absurd (cc fine)

      -- whatever comes after packets that stopped the connection isn't taken
      pub parts-stopped : (told : Fate × Result ⊤ DiskFault) → IsStop told
          → TakesPackets g w (taking_some g moment session before end items 0) (IsAmong 0 (length items)) (at before.store before.disk) now (none_left new.link new.session) told
          → HearsParts g w left of_all (at before.store before.disk) now new told
      parts-stopped told stops takes =
          let by = by-ended takes.parts told.0 told.1 stops takes.by in
          record {
            hears =
                record {
                  parts = takes.parts;
                  by = by;
                  since =
                      by-since (with_reads (λ failures. progressed left (of_all failures)) takes.parts) (at before.store before.disk) now new told.0 told.1
                      (taking-whole left (caller_of session) moment (session_on g session before) end (items ++ others) takes.parts 0) by;
                  store = store-ended takes.parts told.0 told.1 stops takes.by takes.store;
                };
            over = λ failures. taking-failed (caller_of session) moment (session_on g session before) end (items ++ others) failures 0;
            settled = λ goes. absurd (stops goes);
          }

    -- all packets were taken, and these octets are left
    pub parts-whole : new.octets ≡ left → TakesPackets g w (taking_some g moment session before end items 0) (IsAmong 0 (length items)) (at before.store before.disk) now (none_left new.link new.session) (Stays, Ok tt)
        → HearsParts g w left of_items (at before.store before.disk) now new (Stays, Ok tt)
    parts-whole octets takes =
        let h = takes.by in
        let failures : List Failure = [] ++ failed_reads takes.parts in
        let number : (of_items failures).part ≡ length items =
        (let there = taking-part (caller_of session) moment (session_on g session before) end items failures 0 (going-on (of_items failures) h.1.1.0 h.0) in omega arith) in
        record {
          hears = record {
            parts = takes.parts;
            by = grind (arith, common_steps);
            since = grind (arith, common_steps);
            store = takes.store;
          };
          over = λ writes. taking-failed (caller_of session) moment (session_on g session before) end items writes 0;
          settled = λ goes. record {
            before = grind (arith, All-weaker, number);
            later = λ more later.
                taking-alike (caller_of session) moment (session_on g session before) end items ([] ++ failed_reads (takes.parts ++ more)) failures 0
                (λ n low high. alike-first [] takes.parts more 0 (length items) none-writes (λ m before. refl)
                (All-weaker (λ part. (of_items failures).part ≤ part) (λ part. length items ≤ part) (λ part behind. omega (arith, behind, number)) more later) n low (omega (arith, high)));
          };
        }
