-- What a run did, where the words ask for a rehearsal, and where they don't.
use Rattle.std.proofs.Common.{◌≡◌, ℕ, ◌≤◌, List, [], refl, ap, sym, subst, ◌∙◌, inl, inr, arith, Bool, true, false}
use Rattle.px_base.specs.declared.out.Out.{Ghosts as OutGhosts}
use Rattle.pacsat_cli.specs.declared.status.Status.TheVariants as status
use Rattle.pacsat_cli.proofs.Names.{RehearseRequest, Drawn, Schedule, Option, Rose, Holding, Lent, Seen, outside, HasStatusCause, Stays, AsksNode, Cuts, Ghosts, OneSchedule, AsksRehearseFor, Determined, OnlyOne, AsksRehearse, Status, DrawnEnd, FromFresh, PlayEnd, RehearsalEnd, Rehearses, ReportShown, RunsExactly, RunsNamed, SeenSetting, Shows, line_of, lendings}
use Rattle.pacsat_cli.proofs.RehearsalEnds.{exactly, none-put}
use Rattle.command_words.specs.declared.request.Request.TheVariants as request
use Rattle.pacsat_cli.proofs.Ends.{RunEnds, asked-usage, idle-cause, text-end, whole}
use Rattle.pacsat_cli.proofs.OneTask.{asks-rehearse, file-rehearse, make-rehearse, node-rehearse}
use Rattle.pacsat_cli.proofs.Touched.{shelf-touches}
use Rattle.pacsat_cli.proofs.Unasked.{unasked-client, unasked-file, unasked-make, unasked-serve, unasked-session}

-- whether a rehearsal can end with this status
abbrev pub is_play_status : Status → Bool
is_play_status status.Done = true
is_play_status status.NoSuch = true
is_play_status status.TooLong = true
is_play_status status.Shelf = true
is_play_status status.Out = true
is_play_status status.OutOfMemory = true
is_play_status (status.BadSchedule line) = true
is_play_status (status.Broken line what) = true
is_play_status s = false

module _ {B : Type 0} (g : Ghosts B) (cuts : Cuts B) (old new : List B) (text : List ℕ) where
  drawn-status : (seed count : ℕ) (s : Status) → DrawnEnd g cuts seed count old new text s → is_play_status s ≡ true
  drawn-status seed count status.Done h = refl
  drawn-status seed count status.Out h = refl
  drawn-status seed count status.OutOfMemory h = refl
  drawn-status seed count (status.Broken line what) h = refl
  drawn-status seed count s h = absurd h

  named-status : (held : Option Holding) (name : List ℕ) (s : Status) → RehearsalEnd g cuts held name old new text s → is_play_status s ≡ true
  named-status held name status.Done h = refl
  named-status held name status.NoSuch h = refl
  named-status held name status.TooLong h = refl
  named-status held name status.Shelf h = refl
  named-status held name status.Out h = refl
  named-status held name status.OutOfMemory h = refl
  named-status held name (status.BadSchedule line) h = refl
  named-status held name (status.Broken line what) h = refl
  named-status held name s h = absurd h.2.ends

  play-status : (held : Option Holding) (request : RehearseRequest) (s : Status) → PlayEnd g cuts held request old new text s → is_play_status s ≡ true
  play-status held (Schedule name) s h = named-status held name.now s h
  play-status held (Drawn seed count) s h = drawn-status seed count s h

module _ {O : Type 0} (o : OutGhosts O) (before mid : O) (s : Status) (Ends : List ℕ → Status → Type 0) (shown : ReportShown o Ends before mid s) where
  -- a count that rose before the status's line has risen after it
  pub play-rose : (now : O) → o.faults mid ≤ o.faults now → s ≡ status.Out → Rose (o.faults before) (o.faults now)
  play-rose now fewer out = λ below. let rose = shown.cause.rose out below in omega (arith, rose, fewer)

  -- where all was shown, no count rose
  pub play-done : (now : O) → (s ≡ status.Done → now ≡ mid) → s ≡ status.Done → o.faults now ≡ o.faults before
  play-done now same done = ap o.faults (same done) ∙ shown.cause.same (λ e. let other = sym done ∙ e in cc)

-- over fresh disks too
fresh-status : {B : Type 0} (g : Ghosts B) (cuts : Cuts B) (held : Option Holding) (request : RehearseRequest) (new : List B) (text : List ℕ) (s : Status) → FromFresh g cuts (λ old. PlayEnd g cuts held request old new) text s → is_play_status s ≡ true
fresh-status g cuts held request new text status.OutOfMemory h = refl
fresh-status g cuts held request new text s h = play-status g cuts h.0 new text held request s h.2

-- a rehearsal ends with no other command's status
pub play-not : {B O : Type 0} (g : Ghosts B) (cuts : Cuts B) (o : OutGhosts O) (held : Option Holding) (request : RehearseRequest) (new : List B) (before mid : O) (s : Status) → ReportShown o (FromFresh g cuts (λ old. PlayEnd g cuts held request old new)) before mid s → (other : Status) → is_play_status other ≡ false → s ≡ other → ⊥
play-not g cuts o held request new before mid s shown other isnt is =
    let yes = fresh-status g cuts held request new shown.text s shown.ends in
    let same = ap is_play_status is in
    absurd (cc)

module _ {B S O : Type 0} (words : List (List ℕ)) (seen : SeenSetting B S O) (shelf : S) (before now : O) (disks : List B) (s : Status) where
  -- how it ends, by the schedule's name, and by what is drawn
  abbrev named-end : List ℕ → List ℕ → Status → Type 0
  named-end name = FromFresh seen.disk seen.cuts (λ old. RehearsalEnd seen.disk seen.cuts (seen.shelf.held shelf) name old disks)

  abbrev drawn-end : ℕ → ℕ → List ℕ → Status → Type 0
  drawn-end seed count = FromFresh seen.disk seen.cuts (λ old. DrawnEnd seen.disk seen.cuts seed count old disks)

  -- where it is told what the shelf holds, the end of the name is that of its content
  runs-exactly : OneSchedule → RunsNamed words seen shelf before now disks s → RunsExactly words seen shelf before now disks s
  runs-exactly one named = λ name there is told.
      let ran = (named name is).shown in
      let At : Option Holding → Type 0 = λ held. FromFresh seen.disk seen.cuts (λ old. RehearsalEnd seen.disk seen.cuts held name old disks) ran.text s in
      exactly seen.disk seen.cuts one there name disks ran.text s (subst At told ran.ends)

  -- words that ask for no rehearsal
  pub no-rehearsal : (AsksRehearse words → ⊥) → Rehearses words seen shelf before now disks s
  no-rehearsal asks_none =
      record {
        named = λ name is. absurd (asks_none (inl (name, is)));
        drawn = λ seed count is. absurd (asks_none (inr (seed, count, is)));
        exactly = λ name there is told. absurd (asks_none (inl (name, is)));
      }

  -- words that were refused, for want of memory where they ask for one
  pub refused-rehearsal : OneSchedule → (AsksRehearse words → s ≡ status.OutOfMemory) → Shows seen.out.shown seen.out.faults before now (line_of s) → (line_of s ≡ [] → now ≡ before) → Rehearses words seen shelf before now disks s
  refused-rehearsal one memory line done =
      let named : RunsNamed words seen shelf before now disks s = λ name is.
      let AtStatus : Status → Type 0 = λ t. ReportShown seen.out (named-end name) before before t in
      record {
        mid = before;
        shown = subst AtStatus (sym (memory (inl (name, is)))) (none-put seen.out before (named-end name) status.OutOfMemory refl refl);
        line = line;
        done = done;
      } in
      record {
        named = named;
        drawn = λ seed count is.
            let AtStatus : Status → Type 0 = λ t. ReportShown seen.out (drawn-end seed count) before before t in
            record {
              mid = before;
              shown = subst AtStatus (sym (memory (inr (seed, count, is)))) (none-put seen.out before (drawn-end seed count) status.OutOfMemory refl refl);
              line = line;
              done = done;
            };
        exactly = runs-exactly one named;
      }

  -- words that ask for one, which was played so
  pub rehearses :
      OneSchedule → OnlyOne words → Determined words → (mid : O)
      → Shows seen.out.shown seen.out.faults mid now (line_of s) → (line_of s ≡ [] → now ≡ mid)
      → (request : RehearseRequest) → AsksRehearseFor words request
      → ReportShown seen.out (FromFresh seen.disk seen.cuts (λ old. PlayEnd seen.disk seen.cuts (seen.shelf.held shelf) request old disks)) before mid s
      → Rehearses words seen shelf before now disks s
  rehearses one only determined mid line done (Schedule name) is shown =
      let named : RunsNamed words seen shelf before now disks s = λ other too.
      let At : List ℕ → Type 0 = λ n. ReportShown seen.out (named-end n) before mid s in
      record { mid = mid; shown = subst At (determined.rehearsal name.now other is too) shown; line = line; done = done } in
      record {
        named = named;
        drawn = λ seed count too. absurd (only.rehearsal_drawn name.now seed count is too);
        exactly = runs-exactly one named;
      }
  rehearses one only determined mid line done (Drawn seed count) is shown =
      let named : RunsNamed words seen shelf before now disks s = λ name too. absurd (only.rehearsal_drawn name seed count too is) in
      record {
        named = named;
        drawn = λ other more too.
            let same = determined.drawn seed other count more is too in
            let AtSeed : ℕ → Type 0 = λ n. ReportShown seen.out (drawn-end n count) before mid s in
            let AtCount : ℕ → Type 0 = λ n. ReportShown seen.out (drawn-end other n) before mid s in
            record { mid = mid; shown = subst AtCount same.1 (subst AtSeed same.0 shown); line = line; done = done };
        exactly = runs-exactly one named;
      }

-- all that a run promises, where it plays a rehearsal
module _ {A C D S O B : Type 0} (see : Seen D A C) (told : SeenSetting B S O) (all : Lent D A C) (shelf shelf_now : S) (bench bench_now : List B) (out mid now : O) (words : List (List ℕ)) (s : Status) (only : OnlyOne words) (determined : Determined words) where
  pub rehearse-ends :
      OneSchedule → Shows told.out.shown told.out.faults mid now (line_of s) → (line_of s ≡ [] → now ≡ mid)
      → told.out.faults mid ≤ told.out.faults now → (asked : RehearseRequest) → AsksRehearseFor words asked
      → ReportShown told.out (FromFresh told.disk told.cuts (λ old. PlayEnd told.disk told.cuts (told.shelf.held shelf) asked old bench_now)) out mid s
      → Stays told.shelf.held shelf shelf_now
      → HasStatusCause status.Shelf (told.shelf.faults shelf) (told.shelf.faults shelf_now) s
      → RunEnds words see told (lendings all shelf bench) (lendings all shelf_now bench_now) out now s
  rehearse-ends one line silent fewer asked asks shown stays of_shelf =
      let rehearse : AsksRehearse words = asks-rehearse words asked asks in
      let ends : List ℕ → Status → Type 0 = FromFresh told.disk told.cuts (λ old. PlayEnd told.disk told.cuts (told.shelf.held shelf) asked old bench_now) in
      let isnt = play-not told.disk told.cuts told.out (told.shelf.held shelf) asked bench_now out mid s shown in
      let no_node : AsksNode words → ⊥ = λ node. node-rehearse words only node rehearse in
      whole words see told (lendings all shelf bench) (lendings all shelf_now bench_now) out now s
      (shelf-touches told.shelf.held words bench all shelf shelf_now bench_now (request.Rehearse asked) asks (λ e. absurd (cc)) (λ _. stays) (λ e. absurd (cc)))
      (asked-usage words see told (lendings all shelf bench) (lendings all shelf_now bench_now) out now s (isnt status.Usage refl) (λ usage. only.usage_rehearse usage rehearse))
      (unasked-session words see all all s (λ session. only.session_rehearse session rehearse))
      (unasked-serve words see all all s (λ serve. only.serve_rehearse serve rehearse))
      (unasked-client words see told.shelf told.out (outside all shelf out) (outside all shelf_now now) s (λ client. only.client_rehearse client rehearse))
      (unasked-file words told.shelf told.out shelf out now s (λ file. file-rehearse words only file rehearse))
      (unasked-make words told.shelf shelf shelf_now s (λ make. make-rehearse words only make rehearse))
      (rehearses words told shelf out now bench_now s one only determined mid line silent asked asks shown)
      (idle-cause words see told all shelf shelf_now bench bench_now out now s no_node (isnt status.AirRead refl) (isnt status.AirWrite refl) (isnt status.Disk refl) (λ why. isnt (status.BadStore why) refl) (λ client. only.client_rehearse client rehearse) of_shelf (play-rose told.out out mid s ends shown now fewer))
      (text-end words see told all shelf shelf_now bench bench_now out now s no_node (inr (inr rehearse)) (λ e. (of_shelf.same (λ f. let other = sym e in cc), play-done told.out out mid s ends shown now (λ d. silent (ap line_of d)) e)))
