-- How a connection answers one packet.
use Rattle.std.proofs.Common.{◌≡◌, inl, inr, ap, ℕ, suc, ◌+◌, append-nil, Bool, true, false, not, List, [], ◌∷◌, ◌++◌, refl, sym, ◌∙◌, subst, arith}
use Rattle.std.specs.Prelude.{if◌then◌else◌}
use Rattle.ftl0_session.specs.Taking.{Answers, AnswersAnyway, LooksAtNone, PutsRow, TakesPacket, TellsRead, at_work, packet_row, working}
use Rattle.ftl0_session.specs.Uploads.Events.{packet_of}
use Rattle.ftl0_server.proofs.Names.{common_steps, Result, Ok, Err, ⊤, add-zero, Ghosts, after_abandon, after_push, LinkEnd, StandsFor, Window, texts, Item, after_all, IsKnown, IsReady, store_in, store_on, Store, CutsOffAmongReads, DoesAmongReads, one_if, among-at, among-same, among-store, does-among, Does-none, known_back, on_untold, Failure, failed_reads, failed_write, read_fails, write_fails, DiskFault, SessionState, WorkingOn, caller_of, state_in, Row, failed_reads_told, session_row, at, told-is, Fate, Stays, Ends, ConnectionState, HearsBy, is_over, none_left, IsAmong, IsSeen, TakesPackets, session_on, taking_some, progressed, LookAtNone, Progress, fits, replied, resting, taking}
use Rattle.ftl0_server.proofs.connection.FailureLemmas.{All-at, at_part, none-writes, one-writes, reads-at, writes-at, writes-none}
use Rattle.ftl0_server.proofs.connection.TakingLemmas.{by_tests}

module _ {D : Type 0} (g : Ghosts D) (on : (first second third : D) → g.lasts first second → g.lasts second third → g.lasts first third)
    (w : Window) (end : LinkEnd) (moment : ℕ) (session : SessionState) (new : ConnectionState) (before now : WorkingOn D) (item : Item) (first : ℕ)
    (ready : IsReady g before.store before.disk) (seen : IsSeen g moment session before (item ∷ [])) (lasts : g.lasts before.disk before.disk) where
  -- the packet's row, whether a read fails or none does
  abbrev row_here : Bool → Row
  row_here = packet_row g (packet_of (caller_of session) moment item) (at_work session before)

  -- what one packet makes with this row, whether a write fails or none does
  abbrev one : Bool → Row → Progress
  one failed row = by_tests (session_on g session before) end first row failed (fits end (texts row.replies)) (resting (after_push end (texts row.replies)) row.state row.lists (suc first))

  abbrev taking_one : List Failure → Progress
  taking_one failures = taking (caller_of session) moment (session_on g session before) end (item ∷ []) failures first

  -- the failures of the event decide
  one-is : (failures : List Failure) (reads writes : Bool) → read_fails failures first ≡ reads → write_fails failures first ≡ writes → taking_one failures ≡ one writes (row_here reads)
  one-is failures reads writes is_read is_written = grind (arith, common_steps)

  -- if a write fails
  one-fails : (reads : Bool) → taking_one (failed_write first ++ failed_reads (at_part reads first)) ≡ one true (row_here reads)
  one-fails reads = one-is (failed_write first ++ failed_reads (at_part reads first)) reads true (reads-at (failed_write first) reads first (one-writes first)) (writes-at first (at_part reads first))

  abbrev Takes : Result ⊤ DiskFault → List ℕ → Type 0
  Takes result replies = TakesPacket g (packet_of (caller_of session) moment item) (at_work session before) (at_work new.session now) replies result

  -- What the packet gave and did, by its row for whether a read failed.
  record IsBy (result : Result ⊤ DiskFault) (replies : List ℕ) (reads : Bool) : Type 0 where
    pub told : reads ≡ true → TellsRead (row_here reads).replies
    pub on_disk : PutsRow g reads (row_here reads) (at_work session before) (at_work new.session now) result
    pub answers : AnswersAnyway (row_here reads) (at_work new.session now).it replies result

  by-answers : (row : Row) (result : Result ⊤ DiskFault) (replies : List ℕ) → Answers g (at_work session before) row (at_work new.session now) replies result
      → AnswersAnyway row (at_work new.session now).it replies result
  by-answers row (Ok done) replies given = (given.1, given.2, given.3)
  by-answers row (Err fault) replies given = tt

  -- over what memory shows, no read decides the row
  looks-at : ¬ IsKnown g before.disk → (looks : LookAtNone (caller_of session) moment (session_on g session before) (item ∷ []))
      → LooksAtNone (packet_of (caller_of session) moment item) (working session before.store before.lists) looks.0
  looks-at unknown looks reads =
      subst (λ (store : Store). session_row (caller_of session) moment store before.lists (state_in before.store session) item reads ≡ looks.0)
      (on_untold g before.store before.disk ready unknown) (looks.1 reads)

  is-by : (result : Result ⊤ DiskFault) (replies : List ℕ) (takes : Takes result replies) → IsBy result replies takes.fails
  is-by result replies takes =
      elim seen [
        | inl known ↦ record { told = takes.told known; on_disk = takes.on_disk known; answers = by-answers (row_here takes.fails) result replies (takes.answers known) }
        | inr alone ↦
            let any = takes.anyway alone.1.0 (looks-at alone.0 alone.1) in
            subst (IsBy result replies) (sym any.0) (record {
              told = λ is. absurd (cc is);
              on_disk = subst (λ (row : Row). PutsRow g false row (at_work session before) (at_work new.session now) result) (sym (alone.1.1 false)) any.1.on_disk;
              answers = subst (λ (row : Row). AnswersAnyway row (at_work new.session now).it replies result) (sym (alone.1.1 false)) any.1.answers;
            })
      ]

  -- how many reads its row reports
  missed-is : (result : Result ⊤ DiskFault) (replies : List ℕ) (takes : Takes result replies) → one_if takes.fails ≡ failed_reads_told (row_here takes.fails).replies
  missed-is result replies takes =
      sym (told-is (caller_of session) moment (store_on g before.store before.disk) item (working session before.store before.lists) takes.fails (is-by result replies takes).told)

  -- nothing was done yet
  none-yet : (missed : ℕ) → 0 ≡ missed → DoesAmongReads g ⊥ missed before.store before.store before.disk before.disk []
  none-yet missed none =
      among-same g ⊥ ⊥ 0 missed before.store before.store before.disk before.disk [] (λ p. p) (λ p. p) none
      (does-among g ⊥ before.store before.store before.disk before.disk [] (Does-none g ⊥ before.store before.disk (λ never. never) ready lasts))

  -- the store is the one after the row's commands
  store-is : IsReady g now.store now.disk → (replies : List ℕ) (takes : Takes (Ok tt) replies) → store_on g now.store now.disk ≡ after_all (store_on g before.store before.disk) (row_here takes.fails).commands
  store-is ready_now replies takes =
      let does = (is-by (Ok tt) replies takes).on_disk in
      elim seen [
        | inl known ↦ among-store g (one_if takes.fails) before.store now.store before.disk now.disk (row_here takes.fails).commands known does
        | inr alone ↦
            let any = takes.anyway alone.1.0 (looks-at alone.0 alone.1) in
            let unknown : ¬ IsKnown g now.disk = λ known. alone.0 (known_back g before.disk now.disk takes.puts.told known) in
            on_untold g now.store now.disk ready_now unknown ∙ any.1.memory
            ∙ ap (after_all (store_in before.store)) alone.1.2
            ∙ ap (λ (store : Store). after_all store alone.1.0.commands) (sym (on_untold g before.store before.disk ready alone.0))
            ∙ ap (λ (row : Row). after_all (store_on g before.store before.disk) row.commands) (sym (alone.1.1 takes.fails))
      ]

  abbrev Made : Fate × Result ⊤ DiskFault → Type 0
  Made told =
      TakesPackets g w (taking_some g moment session before end (item ∷ []) first) (IsAmong first 1) (at before.store before.disk) now (none_left new.link new.session) told

  -- what came of these parts
  abbrev By : Progress → Fate → Result ⊤ DiskFault → Type 0
  By p fate result = HearsBy g w (λ failures. progressed [] p) (at before.store before.disk) now (none_left new.link new.session) fate result

  -- the store is so, whether the replies fit or not
  row-store : (row : Row) (enough : Bool) → store_on g now.store now.disk ≡ after_all (store_on g before.store before.disk) row.commands
      → store_on g now.store now.disk
      ≡ after_all (store_on g before.store before.disk)
      (by_tests (session_on g session before) end first row false enough (resting (after_push end (texts row.replies)) row.state row.lists (suc first))).done
  row-store row enough is = grind (arith, common_steps)

  -- the packet's row was taken, and its replies queued or the link given up
  row-done : (row : Row) (enough : Bool) (fate : Fate) → is_over fate ≡ not enough → StandsFor w new.link (if enough then after_push end (texts row.replies) else after_abandon end)
      → now.lists ≡ row.lists → state_in now.store new.session ≡ row.state → DoesAmongReads g ⊥ (failed_reads_told row.replies) before.store now.store before.disk now.disk row.commands
      → By (by_tests (session_on g session before) end first row false enough (resting (after_push end (texts row.replies)) row.state row.lists (suc first))) fate (Ok tt)
  row-done row true Stays over stands same state does = (
    refl,
    (same, (refl, record { link = stands; rest = refl; state = state })),
    among-at g ⊥ (failed_reads_told row.replies + 0) before.store now.store before.disk now.disk row.commands (row.commands ++ []) (sym (append-nil row.commands))
        (among-same g ⊥ ⊥ (failed_reads_told row.replies) (failed_reads_told row.replies + 0) before.store now.store before.disk now.disk row.commands (λ p. p) (λ p. p) (sym (add-zero (failed_reads_told row.replies))) does),
  )
  row-done row true Ends over stands same state does = absurd (cc over)
  row-done row false Stays over stands same state does = absurd (cc over)
  row-done row false Ends over stands same state does = (refl, (same, (refl, stands)), does)

  pub said-done : IsReady g now.store now.disk → (fate : Fate) (text replies : List ℕ) → text ≡ replies → is_over fate ≡ not (fits end text) → StandsFor w new.link (replied end text) → Takes (Ok tt) replies
      → Made (fate, Ok tt)
  said-done ready_now fate text replies same over stands takes =
      let row : Row = row_here takes.fails in
      let by = is-by (Ok tt) replies takes in
      let is : text ≡ texts row.replies = same ∙ by.answers.2 in
      let one : taking_one ([] ++ failed_reads (at_part takes.fails first)) ≡ one false row =
      one-is ([] ++ failed_reads (at_part takes.fails first)) takes.fails false (reads-at [] takes.fails first none-writes) (writes-none (at_part takes.fails first) first) in
      let does = among-same g ⊥ ⊥ (one_if takes.fails) (failed_reads_told row.replies) before.store now.store before.disk now.disk row.commands (λ p. p) (λ p. p) (missed-is (Ok tt) replies takes) by.on_disk in
      record {
        parts = at_part takes.fails first;
        among = All-at (IsAmong first 1) takes.fails first (omega arith, omega arith);
        by = subst (λ p. By p fate (Ok tt)) (sym one) (row-done row _ fate (rw is at over) (rw is at stands) by.answers.0 by.answers.1 does);
        store = λ fine. rw one (row-store row (fits end (texts row.replies)) (store-is ready_now replies takes));
      }

  -- the disk failed, and code 3 is queued, or the link given up
  pub said-fault : (fault : DiskFault) (text replies : List ℕ) → text ≡ replies → StandsFor w new.link (replied end text) → Takes (Err fault) replies → Made (Ends, Err fault)
  said-fault fault text replies same stands takes =
      let row : Row = row_here takes.fails in
      let none : 0 ≡ failed_reads_told row.replies = sym (ap one_if takes.stopped.0) ∙ missed-is (Err fault) replies takes in
      let cut : CutsOffAmongReads g ⊤ (failed_reads_told row.replies) (at before.store before.disk) (at now.store now.disk) [] row.commands =
      record { then_is = at before.store before.disk; first = none-yet (failed_reads_told row.replies) none; second = (is-by (Err fault) replies takes).on_disk } in
      let at = subst (λ p. By p Ends (Err fault)) (sym (one-fails takes.fails)) (first, refl, (takes.stopped.2, (refl, rw (same ∙ takes.stopped.3) at stands)), cut) in
      record { parts = at_part takes.fails first; among = All-at (IsAmong first 1) takes.fails first (omega arith, omega arith); by = (first, at.1, at.2, at.3); store = λ fine. absurd (cc fine) }
