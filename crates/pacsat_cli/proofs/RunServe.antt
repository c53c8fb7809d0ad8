-- What a run did, where the words ask for a service.
use Rattle.std.proofs.Common.{◌≡◌, ℕ, List, [], refl, ap, sym, subst, ◌∙◌, inl, inr, false}
use Rattle.px_base.specs.declared.air.Air.{Ghosts as AirGhosts}
use Rattle.pacsat_cli.specs.declared.status.Status.TheVariants as status
use Rattle.pacsat_cli.proofs.Names.{Option, IfSome, Ghosts, standing_of, lent, seen, Fresh, Named, ServeRequest, Determined, OnlyOne, AsksServe, IsServe, outside, SeenSetting, Shows, line_of, Status, IsServedOver, RunsServe, WhereServed, serve_terms, AsksFresh, AsksStore, HasDiskCause, HasReadCause, HasStoreCause, HasWriteCause, IsDoneAtEnd, IsDoneBy, IsSpentBy, RefusesExactly, ServerAcknowledgesLaw, lendings}
use Rattle.pacsat_cli.proofs.Ended.{heard-not_memory, mended-disk}
use Rattle.pacsat_cli.proofs.NodeEnds.{Goes, OnDisk, is_node_status, node-complete, node-done, node-not, node-read, node-spent, node-write, on_disk-cause, on_disk-exact, on_disk-goes}
use Rattle.pacsat_cli.proofs.Acknowledged.{service-stands}
use Rattle.pacsat_cli.proofs.Ends.{RunEnds, asked-usage, whole}
use Rattle.pacsat_cli.proofs.OneTask.{serve-file, serve-make}
use Rattle.pacsat_cli.proofs.RunRehearsal.{no-rehearsal}
use Rattle.pacsat_cli.proofs.Touched.{serve-touches}
use Rattle.pacsat_cli.proofs.Unasked.{unasked-client, unasked-file, unasked-make, unasked-session}

module _ {A C D : Type 0} (g : Ghosts D) (air : AirGhosts A) (given : C → Option (List ℕ)) (disk disk_now : D) (before now : A) (clock clock_n : C) (asked : ServeRequest) (s : Status) where
  serve-on_disk : IsServedOver (seen g air given) (lent disk before clock) (lent disk_now now clock_n) (serve_terms asked) s → OnDisk g air asked.blocks asked.polls disk disk_now before now s
  serve-on_disk over = record {
    ended = over.ended;
    refuses = over.refuses;
    runs = over.runs;
    status_is = over.status_is;
    goes =
        elim over.ends [
          | inl refused ↦ inl (refused.fault, refused.answer, refused.air)
          | inr served ↦
              inr (
                served.puts,
                record {
                  ended = over.ended;
                  turns = served.run.turns;
                  turns_heard = served.turns_heard;
                  ends = served.ran.ends;
                  counts = over.counts;
                  status_is = over.status_is ∙ sym (mended-disk over.ended);
                },
              )
        ];
  }

  -- the words ask for one service
  module _ (words : List (List ℕ)) (asks : IsServe words asked) (only : OnlyOne words) (determined : Determined words) where
    one : (other : ServeRequest) → IsServe words other → asked ≡ other
    one other is = determined.serve asked other asks is

    module _ (over : IsServedOver (seen g air given) (lent disk before clock) (lent disk_now now clock_n) (serve_terms asked) s) where
      on_disk : OnDisk g air asked.blocks asked.polls disk disk_now before now s
      on_disk = serve-on_disk over

      goes : Goes air asked.polls Named before now s
      goes = on_disk-goes g air asked.blocks asked.polls disk disk_now before now s on_disk

      never-fresh : Named ≡ Fresh → AsksFresh words
      never-fresh never = absurd (cc)

      store : Named ≡ Named → AsksStore words
      store is = inr (asked, asks)

      -- no service ends with another command's status
      pub serve-not : (other : Status) → is_node_status other Named ≡ false → s ≡ other → ⊥
      serve-not = node-not air before now s asked.polls Named goes

      -- the words ask for this service alone
      pub serve-runs : RunsServe words (seen g air given) (lent disk before clock) (lent disk_now now clock_n) s
      serve-runs = λ other is.
          let P : ServeRequest → Type 0 = λ r. IsServedOver (seen g air given) (lent disk before clock) (lent disk_now now clock_n) (serve_terms r) s in
          inr (subst P (one other is) over)

      -- memory was wanted before anything was heard
      pub serve-memory : s ≡ status.OutOfMemory → (now ≡ before) × (clock_n ≡ clock)
      serve-memory memory =
          elim over.ends [
            | inl refused ↦ (refused.air, refused.clock)
            | inr served ↦ absurd (heard-not_memory over.ended asked.polls served.run.turns served.ran.ends (sym over.status_is ∙ memory))
          ]

      pub serve-complete : WhereServed words air.heard before now (IsDoneBy s)
      serve-complete = λ told. node-complete air before now s asked.polls Named goes told.earlier told.turns told.told_before told.told_now

      pub serve-spent : WhereServed words air.heard before now (IsSpentBy s)
      serve-spent = λ told. node-spent air before now s asked.polls Named goes told.asked.polls told.asks.text.ranges.some_polls told.earlier told.turns told.told_before told.told_now

      pub serve-read : HasReadCause words (air.read_faults before) (air.read_faults now) s
      serve-read = node-read air before now s asked.polls Named words goes

      pub serve-write : HasWriteCause words (air.write_faults before) (air.write_faults now) s
      serve-write = node-write air before now s asked.polls Named words never-fresh store goes

      pub serve-disk : HasDiskCause words g.read_faults g.write_faults disk disk_now before now s
      serve-disk = on_disk-cause g air asked.blocks asked.polls disk disk_now before now s on_disk words (inr (asked, asks))

      pub serve-bad_store : HasStoreCause words (g.content disk) s
      serve-bad_store = record {
        asked = λ _ _. inl (inr (asked, asks));
        exact = λ other is _ _ _. absurd (only.session_serve (other, is) (asked, asks));
        exact_served = λ other is disk_not memory_not.
            let at_blocks : ℕ → Type 0 = λ b. IfSome (g.content disk) (λ octets. RefusesExactly (standing_of b octets) s) in
            subst at_blocks (ap (λ (r : ServeRequest). r.blocks) (one other is))
            (on_disk-exact g air asked.blocks asked.polls disk disk_now before now s on_disk disk_not memory_not);
        exact_notes = λ client _ _ _. absurd (only.serve_client (asked, asks) client);
      }

      pub serve-done : s ≡ status.Done → IsDoneAtEnd air g.read_faults g.write_faults before now disk disk_now
      serve-done = node-done air before now s asked.polls Named words g.read_faults g.write_faults disk disk_now never-fresh store (only.serve_client (asked, asks)) goes serve-disk

      -- all that a run promises, where it serves
      module _ {S O B : Type 0} (told : SeenSetting B S O) (shelf : S) (bench : List B) (out out_now : O) where
        pub serve-ends :
            ServerAcknowledgesLaw (seen g air given)
            → Shows told.out.shown told.out.faults out out_now (line_of s) → (line_of s ≡ [] → out_now ≡ out)
            → RunEnds words (seen g air given) told (lendings (lent disk before clock) shelf bench) (lendings (lent disk_now now clock_n) shelf bench) out out_now s
        serve-ends law line silent =
            let see = seen g air given in
            let old = lent disk before clock in
            let new = lent disk_now now clock_n in
            let serve : AsksServe words = (asked, asks) in
            whole words see told (lendings old shelf bench) (lendings new shelf bench) out out_now s
            (serve-touches told.shelf.held words bench old new shelf asked asks)
            (asked-usage words see told (lendings old shelf bench) (lendings new shelf bench) out out_now s (serve-not status.Usage refl) (λ usage. only.usage_serve usage serve))
            (unasked-session words see old new s (λ session. only.session_serve session serve))
            (record {
              serve = serve-runs;
              serve_acknowledged = service-stands see words old new s law serve-runs;
              serve_complete = serve-complete;
              serve_spent = serve-spent;
            })
            (unasked-client words see told.shelf told.out (outside old shelf out) (outside new shelf out_now) s (only.serve_client serve))
            (unasked-file words told.shelf told.out shelf out out_now s (serve-file words only serve))
            (unasked-make words told.shelf shelf shelf s (serve-make words only serve))
            (no-rehearsal words told shelf out out_now bench s (only.serve_rehearse serve))
            (record {
              air_read = serve-read;
              air_write = serve-write;
              disk = serve-disk;
              shelf = record { rose = λ e. absurd (serve-not status.Shelf refl e); same = λ _. refl };
              out = λ e. absurd (serve-not status.Out refl e);
              bad_store = serve-bad_store;
            })
            (record {
              memory = λ _. serve-memory;
              node_done = λ _. serve-done;
              done = λ e. (refl, ap told.out.faults (silent (ap line_of e)));
              unshown = λ e _. silent (ap line_of e);
              shown = λ _. line;
            })
