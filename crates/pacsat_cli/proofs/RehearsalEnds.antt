-- How a rehearsal ends, step by step: by its report, by the text of its schedule, and by the content of the name.
use Rattle.std.proofs.Common.{◌≡◌, ◌⊎◌, ℕ, ◌<◌, ◌≤◌, List, [], ◌∷◌, length, refl, ap, sym, subst, ◌∙◌, inl, inr, arith, false}
use Rattle.px_base.specs.declared.out.Out.{Ghosts as OutGhosts}
use Rattle.px_base.specs.declared.shelf.ShelfRefusal.TheVariants as refusal
use Rattle.air_schedule.specs.Schedule.{Schedule}
use Rattle.air_rehearsal.specs.declared.report.Report.{Report}
use Rattle.air_rehearsal.specs.Generator.{DrivenBy}
use Rattle.pacsat_cli.specs.Rehearsing.{EndsExactly, IsBroken}
use Rattle.pacsat_cli.specs.declared.status.Status.TheVariants.{Broken}
use Rattle.pacsat_cli.proofs.Names.{RehearseRequest, Drawn, Schedule as named, Contains, Option, None, Some, Err, Gains, GainsPrefix, Rose, Holding, Loads, content_of, ShelfRefusal, Gains-front, Gains-none, AreFresh, Cuts, Ghosts, FirstBadLine, OneSchedule, ScheduleText, IsUnlawful, Status, Done, NoSuch, OutOfMemory, Out, Shelf, BadSchedule, TooLong, CanTell, ContentEnd, DrawnEnd, FromFresh, IsUnlawfulAt, PlayEnd, PlaysText, RehearsalEnd, ReportShown, ShowsReport, TextEnd, most_text, report_line, says_report, IsUnless, status_of_load}
use Rattle.pacsat_cli.proofs.Loading.{long, none}

module _ {O : Type 0} (o : OutGhosts O) (before : O) where
  -- all of a report's line was put
  pub all-put : (now : O) (report : Report) → Gains (o.shown before) (o.shown now) (report_line report) → o.faults now ≡ o.faults before → ReportShown o (ShowsReport (λ told. told ≡ report)) before now Done
  all-put now report gains same =
      record {
        text = report_line report;
        gains = gains;
        ends = (report, refl, refl);
        cause = record { rose = λ e. absurd (cc); same = λ _. same };
        unshown = λ e. absurd (cc);
      }

  -- a front of it was put
  pub front-put : (now : O) (report : Report) → GainsPrefix (o.shown before) (o.shown now) (report_line report) → Rose (o.faults before) (o.faults now) → ReportShown o (ShowsReport (λ told. told ≡ report)) before now Out
  front-put now report gains rose =
      let front = Gains-front (o.shown before) (o.shown now) (report_line report) gains in
      record {
        text = front.0;
        gains = front.1;
        ends = (report, refl, front.2);
        cause = record { rose = λ _. rose; same = λ e. absurd (e refl) };
        unshown = λ e. absurd (cc);
      }

  -- nothing was put
  pub none-put : (Ends : List ℕ → Status → Type 0) (s : Status) → says_report s ≡ false → Ends [] s → ReportShown o Ends before before s
  none-put Ends s silent ends =
      record {
        text = [];
        gains = Gains-none (o.shown before);
        ends = ends;
        cause = record { rose = λ e. absurd (let other = ap says_report e in cc); same = λ _. refl };
        unshown = λ _. refl;
      }

  -- an end that implies another
  pub ends-so : (Ends Other : List ℕ → Status → Type 0) (now : O) (s : Status) → ((text : List ℕ) → Ends text s → Other text s) → ReportShown o Ends before now s → ReportShown o Other before now s
  ends-so Ends Other now s so h = record { text = h.text; gains = h.gains; ends = so h.text h.ends; cause = h.cause; unshown = h.unshown }

-- a report of which more is known
shows-so : (IsPlayed Other : Report → Type 0) → ((report : Report) → IsPlayed report → Other report) → (text : List ℕ) (s : Status) → ShowsReport IsPlayed text s → ShowsReport Other text s
shows-so IsPlayed Other so text Done h = (h.0, so h.0 h.1, h.2)
shows-so IsPlayed Other so text Out h = (h.0, so h.0 h.1, h.2)
shows-so IsPlayed Other so text s h = h

pub report-shown : {O : Type 0} (o : OutGhosts O) (before now : O) (IsPlayed : Report → Type 0) (report : Report) (s : Status) → IsPlayed report → ReportShown o (ShowsReport (λ told. told ≡ report)) before now s → ReportShown o (ShowsReport IsPlayed) before now s
report-shown o before now IsPlayed report s played shown =
    ends-so o before (ShowsReport (λ told. told ≡ report)) (ShowsReport IsPlayed) now s
    (λ text. shows-so (λ told. told ≡ report) IsPlayed (λ told is. subst IsPlayed (sym is) played) text s) shown

module _ {B : Type 0} (g : Ghosts B) (cuts : Cuts B) where
  text-end : (octets : List ℕ) (old new : List B) (text : List ℕ) (s : Status) → ShowsReport (PlaysText g cuts octets old new) text s → TextEnd g cuts octets old new text s
  text-end octets old new text (BadSchedule line) h = absurd h
  text-end octets old new text (Broken line what) h = absurd h
  text-end octets old new text s h = h

  -- a schedule was played to its end
  pub played-text : {O : Type 0} (o : OutGhosts O) (before now : O) (octets : List ℕ) (old new : List B) (report : Report) (s : Status) → length octets ≤ most_text → PlaysText g cuts octets old new report → ReportShown o (ShowsReport (λ told. told ≡ report)) before now s → ReportShown o (ContentEnd g cuts octets old new) before now s
  played-text o before now octets old new report s most plays shown =
      ends-so o before (ShowsReport (PlaysText g cuts octets old new)) (ContentEnd g cuts octets old new) now s
      (λ text h. record { most = most; ends = text-end octets old new text s h })
      (report-shown o before now (PlaysText g cuts octets old new) report s plays shown)

  -- what was drawn was played to its end
  pub drawn-end : (seed count : ℕ) (old new : List B) (text : List ℕ) (s : Status) → ShowsReport (λ report. CanTell g new → DrivenBy g cuts seed count old new report) text s → DrawnEnd g cuts seed count old new text s
  drawn-end seed count old new text (Broken line what) h = absurd h
  drawn-end seed count old new text s h = h

  -- nothing was loaded
  unloaded-end : (held : Option Holding) (name : List ℕ) (old : List B) (why : ShelfRefusal) → Loads held name most_text (Err why) → RehearsalEnd g cuts held name old old [] (status_of_load why)
  unloaded-end None name old refusal.NoSuch loads = (tt, refl, refl)
  unloaded-end None name old refusal.TooLong loads = (tt, refl, refl)
  unloaded-end (Some shelf) name old refusal.NoSuch loads = (none most_text (content_of shelf name) loads, refl, refl)
  unloaded-end (Some shelf) name old refusal.TooLong loads = (long most_text (content_of shelf name) loads, refl, refl)
  unloaded-end held name old refusal.Fault loads = (refl, refl)
  unloaded-end held name old refusal.OutOfMemory loads = refl

  -- what came of a text is no fault of the shelf
  pub content-no_shelf : (octets : List ℕ) (old new : List B) (text : List ℕ) (s : Status) → ContentEnd g cuts octets old new text s → s ≡ Shelf → ⊥
  content-no_shelf octets old new text s h is =
      let At : Status → Type 0 = λ t. ContentEnd g cuts octets old new text t in
      (subst At is h).ends

  silent : (why : ShelfRefusal) → says_report (status_of_load why) ≡ false
  silent refusal.NoSuch = refl
  silent refusal.TooLong = refl
  silent refusal.Fault = refl
  silent refusal.OutOfMemory = refl

  pub unloaded-named : {O : Type 0} (o : OutGhosts O) (before : O) (held : Option Holding) (name : List ℕ) (old : List B) (why : ShelfRefusal) → Loads held name most_text (Err why) → ReportShown o (RehearsalEnd g cuts held name old old) before before (status_of_load why)
  unloaded-named o before held name old why loads =
      none-put o before (RehearsalEnd g cuts held name old old) (status_of_load why) (silent why)
      (unloaded-end held name old why loads)

  module _ (one : OneSchedule) (shelf : Holding) (name : List ℕ) (old new : List B) (text : List ℕ) where
    no_such : (s : Status) → RehearsalEnd g cuts (Some shelf) name old new text s → content_of shelf name ≡ None → IsUnless s NoSuch (Shelf ∷ OutOfMemory ∷ [])
    no_such NoSuch h gone = inl refl
    no_such TooLong h gone = absurd (let e = sym h.0.1 ∙ gone in cc)
    no_such Shelf h gone = inr (0, omega arith, refl)
    no_such OutOfMemory h gone = inr (1, omega arith, refl)
    no_such s h gone = absurd (let e = sym h.1 ∙ gone in cc)

    too_long : (s : Status) → RehearsalEnd g cuts (Some shelf) name old new text s → (octets : List ℕ) → content_of shelf name ≡ Some octets → most_text < length octets → IsUnless s TooLong (Shelf ∷ OutOfMemory ∷ [])
    too_long NoSuch h octets there above = absurd (let e = sym h.0 ∙ there in cc)
    too_long TooLong h octets there above = inl refl
    too_long Shelf h octets there above = inr (0, omega arith, refl)
    too_long OutOfMemory h octets there above = inr (1, omega arith, refl)
    too_long s h octets there above =
        let same : h.0 ≡ octets = (let e = sym h.1 ∙ there in cc) in
        absurd (omega (arith, h.2.most, above, ap length same))

    -- content that isn't too long has this end
    same_octets : (octets other : List ℕ) → content_of shelf name ≡ Some octets → content_of shelf name ≡ Some other → octets ≡ other
    same_octets octets other there is = let e = sym there ∙ is in cc

    no_schedule : (s : Status) → RehearsalEnd g cuts (Some shelf) name old new text s → (octets : List ℕ) → content_of shelf name ≡ Some octets → length octets ≤ most_text → ((schedule : Schedule) → ScheduleText schedule octets → ⊥) → ((line : ℕ) × FirstBadLine octets line × (s ≡ BadSchedule line)) ⊎ Contains (Shelf ∷ OutOfMemory ∷ []) s
    no_schedule NoSuch h octets there short isnt = absurd (let e = sym h.0 ∙ there in cc)
    no_schedule TooLong h octets there short isnt =
        let same = same_octets h.0.0 octets h.0.1 there in
        absurd (omega (arith, h.0.2, short, ap length same))
    no_schedule Shelf h octets there short isnt = inr (0, omega arith, refl)
    no_schedule OutOfMemory h octets there short isnt = inr (1, omega arith, refl)
    no_schedule (BadSchedule line) h octets there short isnt =
        let same = same_octets h.0 octets h.1 there in
        let IsLine : List ℕ → Type 0 = λ o. FirstBadLine o line in
        elim h.2.ends.0 [
          | inl first ↦ inl (line, subst IsLine same first.0, refl)
          | inr unlawful ↦ absurd (isnt unlawful.schedule (let IsText : List ℕ → Type 0 = λ o. ScheduleText unlawful.schedule o in subst IsText same unlawful.text))
        ]
    no_schedule (Broken line what) h octets there short isnt =
        let ends = h.2.ends in
        let IsText : List ℕ → Type 0 = λ o. ScheduleText ends.0 o in
        absurd (isnt ends.0 (subst IsText (same_octets h.0 octets h.1 there) ends.1))
    no_schedule Done h octets there short isnt =
        let plays = h.2.ends.1 in
        let IsText : List ℕ → Type 0 = λ o. ScheduleText plays.schedule o in
        absurd (isnt plays.schedule (subst IsText (same_octets h.0 octets h.1 there) plays.text))
    no_schedule Out h octets there short isnt =
        let plays = h.2.ends.1 in
        let IsText : List ℕ → Type 0 = λ o. ScheduleText plays.schedule o in
        absurd (isnt plays.schedule (subst IsText (same_octets h.0 octets h.1 there) plays.text))
    no_schedule s h octets there short isnt = absurd h.2.ends

    is_schedule : AreFresh g cuts old → (s : Status) → RehearsalEnd g cuts (Some shelf) name old new text s → (octets : List ℕ) (schedule : Schedule) → content_of shelf name ≡ Some octets → length octets ≤ most_text → ScheduleText schedule octets → IsUnlawfulAt g cuts schedule new s ⊎ (IsBroken s ⊎ Contains (Done ∷ Out ∷ Shelf ∷ OutOfMemory ∷ []) s)
    is_schedule fresh NoSuch h octets schedule there short is = absurd (let e = sym h.0 ∙ there in cc)
    is_schedule fresh TooLong h octets schedule there short is =
        let same = same_octets h.0.0 octets h.0.1 there in
        absurd (omega (arith, h.0.2, short, ap length same))
    is_schedule fresh Shelf h octets schedule there short is = inr (inr (2, omega arith, refl))
    is_schedule fresh OutOfMemory h octets schedule there short is = inr (inr (3, omega arith, refl))
    is_schedule fresh Done h octets schedule there short is = inr (inr (0, omega arith, refl))
    is_schedule fresh Out h octets schedule there short is = inr (inr (1, omega arith, refl))
    is_schedule fresh (BadSchedule line) h octets schedule there short is =
        let IsText : List ℕ → Type 0 = λ o. ScheduleText schedule o in
        let text_is = subst IsText (sym (same_octets h.0 octets h.1 there)) is in
        elim h.2.ends.0 [
          | inl first ↦ absurd (first.0.none schedule text_is)
          | inr unlawful ↦
              let IsAt : Schedule → Type 0 = λ x. IsUnlawful g cuts x old new line in
              inl (old, fresh, (line, refl, λ can. subst IsAt (one h.0 unlawful.schedule schedule unlawful.text text_is) (unlawful.unlawful can)))
        ]
    is_schedule fresh (Broken line what) h octets schedule there short is = inr (inl (line, what, refl))
    is_schedule fresh s h octets schedule there short is = absurd h.2.ends

    exactly-fresh : AreFresh g cuts old → (s : Status) → RehearsalEnd g cuts (Some shelf) name old new text s → EndsExactly g cuts (content_of shelf name) new s
    exactly-fresh fresh s h = record { no_such = no_such s h; too_long = too_long s h; no_schedule = no_schedule s h; is_schedule = is_schedule fresh s h }

  -- what was played over fresh disks
  over-fresh : (held : Option Holding) (request : RehearseRequest) (old new : List B) → AreFresh g cuts old → (text : List ℕ) (s : Status) → PlayEnd g cuts held request old new text s → FromFresh g cuts (λ from. PlayEnd g cuts held request from new) text s
  over-fresh held (named name) old new fresh text OutOfMemory h = h
  over-fresh held (Drawn seed count) old new fresh text OutOfMemory h = h
  over-fresh held request old new fresh text s h = (old, fresh, h)

  pub played-fresh : {O : Type 0} (o : OutGhosts O) (before now : O) (held : Option Holding) (request : RehearseRequest) (old new : List B) (s : Status) → AreFresh g cuts old → ReportShown o (PlayEnd g cuts held request old new) before now s → ReportShown o (FromFresh g cuts (λ from. PlayEnd g cuts held request from new)) before now s
  played-fresh o before now held request old new s fresh shown =
      ends-so o before (PlayEnd g cuts held request old new) (FromFresh g cuts (λ from. PlayEnd g cuts held request from new)) now s
      (λ text. over-fresh held request old new fresh text s) shown

  -- out of memory each cause has its exception
  memory-exactly : (content : Option (List ℕ)) (new : List B) → EndsExactly g cuts content new OutOfMemory
  memory-exactly content new = record {
    no_such = λ _. inr (1, omega arith, refl);
    too_long = λ _ _ _. inr (1, omega arith, refl);
    no_schedule = λ _ _ _ _. inr (1, omega arith, refl);
    is_schedule = λ _ _ _ _ _. inr (inr (3, omega arith, refl));
  }

  pub exactly : OneSchedule → (shelf : Holding) (name : List ℕ) (new : List B) (text : List ℕ) (s : Status) → FromFresh g cuts (λ old. RehearsalEnd g cuts (Some shelf) name old new) text s → EndsExactly g cuts (content_of shelf name) new s
  exactly one shelf name new text OutOfMemory h = memory-exactly (content_of shelf name) new
  exactly one shelf name new text s h = exactly-fresh one shelf name h.0 new text h.1 s h.2
