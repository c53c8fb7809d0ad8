-- What a run did, where the words ask for a session.
use Rattle.std.proofs.Common.{◌≡◌, ℕ, ◌≤◌, List, [], refl, ap, sym, subst, ◌∙◌, inl, inr, false, arith}
use Rattle.px_base.specs.declared.air.Air.{Ghosts as AirGhosts}
use Rattle.command_words.specs.Numbers.{IsNumberOr}
use Rattle.pacsat_cli.specs.declared.status.Status.TheVariants as status
use Rattle.pacsat_cli.proofs.Names.{Option, Some, None, IsSome, IfSome, Ghosts, standing_of, lent, seen, DiskWord, Fresh, Named, SessionRequest, Determined, OnlyOne, AsksSession, IsSession, outside, SeenSetting, Shows, line_of, Status, AsksStore, HasDiskCause, HasReadCause, HasStoreCause, HasWriteCause, IsDoneAtEnd, IsDoneBy, IsSpentBy, OverNamed, RefusesExactly, RunsSession, WhereHeard, run_terms, SessionAcknowledgesLaw, lendings}
use Rattle.pacsat_cli.proofs.Ended.{heard-not_memory, mended-disk, mended-memory}
use Rattle.pacsat_cli.proofs.NodeEnds.{Goes, OnDisk, is_early_status, is_node_status, node-complete, node-done, node-not, node-read, node-spent, node-write, on_disk-cause, on_disk-exact, on_disk-goes}
use Rattle.pacsat_cli.proofs.Acknowledged.{session-stands}
use Rattle.pacsat_cli.proofs.Ends.{RunEnds, asked-usage, whole}
use Rattle.pacsat_cli.proofs.OneTask.{session-file, session-make}
use Rattle.pacsat_cli.proofs.RunRehearsal.{no-rehearsal}
use Rattle.pacsat_cli.proofs.Touched.{session-touches}
use Rattle.pacsat_cli.proofs.Unasked.{unasked-client, unasked-file, unasked-make, unasked-serve}

module _ (words : List (List ℕ)) (asked : SessionRequest) (asks : IsSession words asked) where
  -- a number of the words is in its range
  in_range : (otherwise low high : ℕ) (value : Option (List ℕ)) (number : ℕ) → low ≤ otherwise → otherwise ≤ high → IsNumberOr otherwise low high value number → (low ≤ number) × (number ≤ high)
  in_range otherwise low high None number least most h = omega (arith, least, most, h)
  in_range otherwise low high (Some text) number least most h = (h.least, h.most)

  pub some_blocks : 1 ≤ asked.blocks
  some_blocks = (in_range _ _ _ _ asked.blocks (omega arith) (omega arith) asks.text.given.blocks_given).0

  pub most_blocks : asked.blocks ≤ 65536
  most_blocks = (in_range _ _ _ _ asked.blocks (omega arith) (omega arith) asks.text.given.blocks_given).1

  pub some_polls : 1 ≤ asked.polls
  some_polls = (in_range _ _ _ _ asked.polls (omega arith) (omega arith) asks.text.given.polls_given).0

module _ {A C D : Type 0} (g : Ghosts D) (air : AirGhosts A) (given : C → Option (List ℕ)) (disk disk_now : D) (before now : A) (clock clock_n : C) (asked : SessionRequest) (s : Status) where
  -- over the disk that DISK names it is as a service is
  session-on_disk : OverNamed Named (seen g air given) (lent disk before clock) (lent disk_now now clock_n) (run_terms asked) s → OnDisk g air asked.blocks asked.polls disk disk_now before now s
  session-on_disk over = record {
    ended = over.ended;
    refuses = over.refuses;
    runs = over.runs;
    status_is = over.status_is;
    goes =
        elim over.ends [
          | inl refused ↦ inl (refused.fault, refused.answer, refused.air)
          | inr served ↦
              inr (
                served.puts,
                record {
                  ended = over.ended;
                  turns = served.run.turns;
                  turns_heard = served.turns_heard;
                  ends = served.ran.ends;
                  counts = over.counts;
                  status_is = over.status_is ∙ sym (mended-disk over.ended);
                },
              )
        ];
  }

  goes-by : (word : DiskWord) → OverNamed word (seen g air given) (lent disk before clock) (lent disk_now now clock_n) (run_terms asked) s → Goes air asked.polls word before now s
  goes-by Named over = on_disk-goes g air asked.blocks asked.polls disk disk_now before now s (session-on_disk over)
  goes-by Fresh over =
      elim over.1 [
        | inl none ↦ inl (record { kind = ap (λ (t : Status). is_early_status t Fresh) none.0; same = none.1 })
        | inr served ↦
            inr
            (record {
              ended = served.ended;
              turns = served.run.turns;
              turns_heard = served.turns_heard;
              ends = served.ran.ends;
              counts = served.counts;
              status_is = served.status_is ∙ sym (mended-memory served.ended);
            })
      ]

  -- over one in memory no fault of the disk is answered, and no content is refused
  memory-not : OverNamed Fresh (seen g air given) (lent disk before clock) (lent disk_now now clock_n) (run_terms asked) s → (other : Status) → is_node_status other Fresh ≡ false → s ≡ other → ⊥
  memory-not over = node-not air before now s asked.polls Fresh (goes-by Fresh over)

  -- the disk's counts by how the session ended
  disk-cause : (words : List (List ℕ)) (word : DiskWord) → (word ≡ Named → AsksStore words) → OverNamed word (seen g air given) (lent disk before clock) (lent disk_now now clock_n) (run_terms asked) s → HasDiskCause words g.read_faults g.write_faults disk disk_now before now s
  disk-cause words Named names over = on_disk-cause g air asked.blocks asked.polls disk disk_now before now s (session-on_disk over) words (names refl)
  disk-cause words Fresh names over = record {
    asked = λ e. absurd (memory-not over status.Disk refl e);
    rose = λ e. absurd (memory-not over status.Disk refl e);
    same = λ _. ap g.write_faults over.0;
    same_reads = λ _ _. ap g.read_faults over.0;
    no_less = (let same = ap g.read_faults over.0 in omega (arith, same), let same = ap g.write_faults over.0 in omega (arith, same));
  }

  -- the words ask for one session
  module _ (words : List (List ℕ)) (asks : IsSession words asked) (only : OnlyOne words) (determined : Determined words) where
    one : (other : SessionRequest) → IsSession words other → asked ≡ other
    one other is = determined.session asked other asks is

    store-cause : (word : DiskWord) → asked.disk ≡ word → OverNamed word (seen g air given) (lent disk before clock) (lent disk_now now clock_n) (run_terms asked) s → HasStoreCause words (g.content disk) s
    store-cause Named is over = record {
      asked = λ _ _. inl (inl (asked, asks, is));
      exact = λ other asks_other named disk_not memory_not.
          let at_blocks : ℕ → Type 0 = λ b. IfSome (g.content disk) (λ octets. RefusesExactly (standing_of b octets) s) in
          subst at_blocks (ap (λ (r : SessionRequest). r.blocks) (one other asks_other))
          (on_disk-exact g air asked.blocks asked.polls disk disk_now before now s (session-on_disk over) disk_not memory_not);
      exact_served = λ other asks_other _ _. absurd (only.session_serve (asked, asks) (other, asks_other));
      exact_notes = λ client _ _ _. absurd (only.session_client (asked, asks) client);
    }
    store-cause Fresh is over = record {
      asked = λ why e. absurd (memory-not over (status.BadStore why) refl e);
      exact = λ other asks_other named _ _. absurd (let same = ap (λ (r : SessionRequest). r.disk) (one other asks_other) in cc);
      exact_served = λ other asks_other _ _. absurd (only.session_serve (asked, asks) (other, asks_other));
      exact_notes = λ client _ _ _. absurd (only.session_client (asked, asks) client);
    }

    -- over the disk that DISK names memory was wanted before anything was heard
    memory-by : (word : DiskWord) → asked.disk ≡ word → OverNamed word (seen g air given) (lent disk before clock) (lent disk_now now clock_n) (run_terms asked) s → AsksStore words → s ≡ status.OutOfMemory → (now ≡ before) × (clock_n ≡ clock)
    memory-by Named is over store memory =
        elim over.ends [
          | inl refused ↦ (refused.air, refused.clock)
          | inr served ↦ absurd (heard-not_memory over.ended asked.polls served.run.turns served.ran.ends (sym over.status_is ∙ memory))
        ]
    memory-by Fresh is over (inl named) memory = absurd (let same = ap (λ (r : SessionRequest). r.disk) (one named.0 named.1) in let other = named.2 in cc)
    memory-by Fresh is over (inr serve) memory = absurd (only.session_serve (asked, asks) serve)

    module _ (over : OverNamed asked.disk (seen g air given) (lent disk before clock) (lent disk_now now clock_n) (run_terms asked) s) where
      goes : Goes air asked.polls asked.disk before now s
      goes = goes-by asked.disk over

      -- no session ends with another command's status
      pub session-not : (other : Status) → is_node_status other asked.disk ≡ false → s ≡ other → ⊥
      session-not = node-not air before now s asked.polls asked.disk goes

      -- the words ask for this session alone
      pub session-runs : RunsSession words (seen g air given) (lent disk before clock) (lent disk_now now clock_n) s
      session-runs = λ other is.
          let P : SessionRequest → Type 0 = λ r. OverNamed r.disk (seen g air given) (lent disk before clock) (lent disk_now now clock_n) (run_terms r) s in
          inr (subst P (one other is) over)

      pub session-memory : AsksStore words → s ≡ status.OutOfMemory → (now ≡ before) × (clock_n ≡ clock)
      session-memory = memory-by asked.disk refl over

      pub session-complete : WhereHeard words air.heard before now (IsDoneBy s)
      session-complete = λ told. node-complete air before now s asked.polls asked.disk goes told.earlier told.turns told.told_before told.told_now

      pub session-spent : WhereHeard words air.heard before now (IsSpentBy s)
      session-spent = λ told.
          let P : SessionRequest → Type 0 = λ r. IsSpentBy s r.disk r.polls told.turns in
          subst P (one told.asked told.asks) (node-spent air before now s asked.polls asked.disk goes asked.polls (some_polls words asked asks) told.earlier told.turns told.told_before told.told_now)

      pub session-read : HasReadCause words (air.read_faults before) (air.read_faults now) s
      session-read = node-read air before now s asked.polls asked.disk words goes

      pub session-write : HasWriteCause words (air.write_faults before) (air.write_faults now) s
      session-write = node-write air before now s asked.polls asked.disk words (λ is. (asked, asks, is)) (λ is. inl (asked, asks, is)) goes

      pub session-disk : HasDiskCause words g.read_faults g.write_faults disk disk_now before now s
      session-disk = disk-cause words asked.disk (λ is. inl (asked, asks, is)) over

      pub session-bad_store : HasStoreCause words (g.content disk) s
      session-bad_store = store-cause asked.disk refl over

      pub session-done : s ≡ status.Done → IsDoneAtEnd air g.read_faults g.write_faults before now disk disk_now
      session-done = node-done air before now s asked.polls asked.disk words g.read_faults g.write_faults disk disk_now (λ is. (asked, asks, is)) (λ is. inl (asked, asks, is)) (only.session_client (asked, asks)) goes session-disk

      -- all that a run promises, where it serves a session
      module _ {S O B : Type 0} (told : SeenSetting B S O) (shelf : S) (bench : List B) (out out_now : O) where
        pub session-ends :
            SessionAcknowledgesLaw (seen g air given) → (IsSome asked.moment → clock_n ≡ clock)
            → Shows told.out.shown told.out.faults out out_now (line_of s) → (line_of s ≡ [] → out_now ≡ out)
            → RunEnds words (seen g air given) told (lendings (lent disk before clock) shelf bench) (lendings (lent disk_now now clock_n) shelf bench) out out_now s
        session-ends law unasked line silent =
            let see = seen g air given in
            let old = lent disk before clock in
            let new = lent disk_now now clock_n in
            let session : AsksSession words = (asked, asks) in
            whole words see told (lendings old shelf bench) (lendings new shelf bench) out out_now s
            (session-touches told.shelf.held words bench g air given disk disk_now before now clock clock_n shelf asked s asks over unasked)
            (asked-usage words see told (lendings old shelf bench) (lendings new shelf bench) out out_now s (session-not status.Usage refl) (λ usage. only.usage_session usage session))
            (record {
              session = session-runs;
              session_acknowledged = session-stands see words old new s law session-runs;
              complete = session-complete;
              spent = session-spent;
            })
            (unasked-serve words see old new s (only.session_serve session))
            (unasked-client words see told.shelf told.out (outside old shelf out) (outside new shelf out_now) s (only.session_client session))
            (unasked-file words told.shelf told.out shelf out out_now s (session-file words only session))
            (unasked-make words told.shelf shelf shelf s (session-make words only session))
            (no-rehearsal words told shelf out out_now bench s (only.session_rehearse session))
            (record {
              air_read = session-read;
              air_write = session-write;
              disk = session-disk;
              shelf = record { rose = λ e. absurd (session-not status.Shelf refl e); same = λ _. refl };
              out = λ e. absurd (session-not status.Out refl e);
              bad_store = session-bad_store;
            })
            (record {
              memory = session-memory;
              node_done = λ _. session-done;
              done = λ e. (refl, ap told.out.faults (silent (ap line_of e)));
              unshown = λ e _. silent (ap line_of e);
              shown = λ _. line;
            })
