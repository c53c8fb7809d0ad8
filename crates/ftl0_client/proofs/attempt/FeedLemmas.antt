-- How packets are taken, one after another.
use Rattle.std.proofs.Common.{inl, refl, ◌≡◌, ℕ, List, [], ◌∷◌, ◌++◌, ap, sym, ◌∙◌, subst}
use Rattle.ftl0_client.proofs.Names.{None, Result, Ok, Err, ⊤, Ghosts, Up, Window, Item, packets_of, HasFront, front-none, front-then, stations-same, stations-then, after_all, Lists, Several-none, Several-then, Halt, JobState, WithNotes, with_notes, Attempted, AttemptState, HearsBy, IsAttempt, LeavesFit, StopsAtPacket, Working, working, Made, MayAnswer, StopsAmongOctets, StopsHere, Takes, TakesOctetsBy, accepting, Happened, taking}
use Rattle.ftl0_client.proofs.attempt.Invariants.{IsTaking}
use Rattle.ftl0_client.proofs.attempt.TakingLemmas.{taking-append, taking-keeps}

module _ {D : Type 0} (g : Ghosts D) where
  -- no packet was taken
  takes-none : (before : Working D) → g.lasts before.disk before.disk → MayAnswer g before → Takes g [] before before
  takes-none before lasts may w a stands same = record {
    link = stands;
    job = same;
    noted = Several-none g ⊥ before.notes before.disk (λ never. never) may.may.ready lasts;
  }

  pub taking-start : (octets : List ℕ) (before : Working D) → g.lasts before.disk before.disk → MayAnswer g before → IsTaking g octets octets before before
  taking-start octets before lasts may = record {
    items = [];
    front = front-none octets;
    takes = takes-none before lasts may;
    may = may;
    fit = record { may = may.may; stands_on = may.may.ready.stands_on; stations = stations-same before.link };
  }

  module _ (on : (first second third : D) → g.lasts first second → g.lasts second third → g.lasts first third) where
    made-then : (w : Window) (a : Attempted) (items others : List Item) (before mid now : Working D) → Made g w (taking before.notes.lists a items) before mid
        → Made g w (taking mid.notes.lists (taking before.notes.lists a items).after others) mid now → Made g w (taking before.notes.lists a (items ++ others)) before now
    made-then w a items others before mid now first second =
        let h : Happened = taking before.notes.lists a items in
        let at : mid.notes.lists ≡ after_all before.notes.lists h.noted = ((first.noted.does.done (λ never. never)).0 (inl refl)) in
        let next : Made g w (taking (after_all before.notes.lists h.noted) h.after others) mid now = subst (λ (l : Lists). Made g w (taking l h.after others) mid now) at second in
        subst (λ (made : Happened). Made g w made before now) (sym (taking-append before.notes.lists a items others))
        (record {
          link = next.link;
          job = next.job;
          noted =
              Several-then g on ⊥ ⊥ before.notes mid.notes now.notes before.disk mid.disk now.disk h.noted (taking (after_all before.notes.lists h.noted) h.after others).noted (λ never. never)
              first.noted next.noted;
        })

    module _ (octets left back : List ℕ) (before mid now : Working D) (item : Item) (h : IsTaking g octets left before mid) (front : HasFront left back (item ∷ [])) where
      -- what a packet leaves is what all leave
      pub fit-then : {T : Type 0} (result : Result T Halt) → LeavesFit g mid now result → LeavesFit g before now result
      fit-then result fit = record { may = fit.may; stands_on = fit.stands_on; stations = stations-then before.link mid.link now.link h.fit.stations fit.stations }

      pub taking-next : Takes g (item ∷ []) mid now → (now.job.ending ≡ None → now.link.state ≡ Up) → LeavesFit {T = ⊤} g mid now (Ok tt) → IsTaking g octets back before now
      taking-next takes up fit = record {
        items = h.items ++ item ∷ [];
        front = front-then octets left back h.items (item ∷ []) h.front front;
        takes = λ w a stands same.
            let made = h.takes w a stands same in
            made-then w a h.items (item ∷ []) before mid now made (takes w (taking before.notes.lists a h.items).after made.link made.job);
        may = record { up = up; may = fit.may };
        fit = fit-then (Ok tt) fit;
      }

      pub taking-stops : (why : Halt) → StopsHere g item mid now why → StopsAmongOctets g octets before now why
      taking-stops why stops = record {
        items = h.items;
        item = item;
        behind = packets_of back;
        packets = h.front.packets ∙ ap (λ (items : List Item). h.items ++ items) front.packets;
        between = mid;
        takes = h.takes;
        stops = stops;
      }

  -- ---- the octets of a frame

  module _ (w : Window) (was : AttemptState) (before now : WithNotes AttemptState D) (a : Attempted) (is : IsAttempt w before.state a) (octets : List ℕ) (down : now.state.down ≡ before.state.down)
      (result : Result ⊤ Halt) where
    abbrev start : List ℕ → Attempted
    start waiting = accepting (record a { rest = waiting }) octets

    abbrev Heard : List ℕ → Result ⊤ Halt → Type 0
    Heard waiting told =
        HearsBy g w (taking before.notes.lists (start waiting) (packets_of (waiting ++ octets))) (start waiting) (packets_of (waiting ++ octets)) (with_notes was before.notes before.disk) now told

    abbrev Took : Result ⊤ Halt → Type 0
    Took told =
        TakesOctetsBy g (before.state.octets ++ octets) now.state.octets (working before.state.link before.state.job before.notes before.disk)
        (working now.state.link now.state.job now.notes now.disk) told

    heard-octets : (told : Result ⊤ Halt) → Took told → Heard before.state.octets told
    heard-octets (Ok done) h =
        let begun : Attempted = start before.state.octets in
        let made = h.0 w begun is.link is.job in
        let keeps = taking-keeps before.notes.lists begun (packets_of (before.state.octets ++ octets)) in
        (record { link = made.link; rest = h.1 ∙ sym keeps.rest; job = made.job; down = down ∙ is.down ∙ sym keeps.down }, made.noted)
    heard-octets (Err why) h =
        let made = h.takes w (start before.state.octets) is.link is.job in
        record {
          before = h.items;
          item = h.item;
          behind = h.behind;
          is_part = h.packets;
          notes_then = h.between.notes;
          disk_then = h.between.disk;
          done = made.noted;
          stops =
              subst (λ (j : JobState). StopsAtPacket g h.item (with_notes j h.between.notes h.between.disk) (with_notes now.state.job now.notes now.disk) why) made.job h.stops;
          down = down ∙ is.down;
        }

    pub hears-octets : Took result → Heard a.rest result
    hears-octets h = subst (λ (waiting : List ℕ). Heard waiting result) is.rest (heard-octets result h)
