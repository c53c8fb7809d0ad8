-- What a run of the program plays where the words ask for a rehearsal, what it shows of it, and why it ends.
use Rattle.std.specs.Prelude.{◌≡◌, ◌⊎◌, ℕ, ◌<◌, ◌≤◌, List, [], ◌∷◌, ◌++◌, codes, length, Contains}
use Rattle.std.specs.Prelude.{Option, None, Some, IfSome, Bool, true, false}
use Rattle.px_base.specs.Octets.{IsFront}
use Rattle.px_base.specs.Outside.{Gains}
use Rattle.px_base.specs.Shelves.{Holding, content_of}
use Rattle.px_base.specs.declared.out.Out.{Ghosts as OutGhosts}
use Rattle.px_base.specs.declared.shelf.Shelf.{Ghosts as ShelfGhosts}
use Rattle.disk_model.specs.Cuts.{AreFresh, Cuts}
use Rattle.disk_model.specs.declared.disk.Disk.{Ghosts}
use Rattle.air_schedule.specs.Schedule.{Schedule}
use Rattle.air_schedule.specs.Text.{FirstBadLine, ScheduleText}
use Rattle.air_rehearsal.specs.Counting.{report_text}
use Rattle.air_rehearsal.specs.Generator.{DrivenBy}
use Rattle.air_rehearsal.specs.Rehearsed.{CanTell, IsUnlawful, Rehearsed}
use Rattle.air_rehearsal.specs.declared.report.Report.{Report}
use Rattle.air_rehearsal.specs.declared.stopped.Breach.{Breach}
use Rattle.command_words.specs.Words.{IsDrawn, IsRehearsal}
use Rattle.command_words.specs.declared.rehearse.RehearseRequest.{RehearseRequest}
use Rattle.command_words.specs.declared.rehearse.RehearseRequest.TheVariants as rehearse
use Rattle.pacsat_cli.specs.declared.status.Status.{Status}
use Rattle.pacsat_cli.specs.declared.status.Status.TheVariants.{Done, NoSuch, OutOfMemory, Out, Shelf, BadSchedule}
use Rattle.pacsat_cli.specs.declared.status.Status.TheVariants.{Broken, TooLong}
use Rattle.pacsat_cli.specs.Run.{HasStatusCause, IsUnless, Shows}
use Rattle.pacsat_cli.specs.Status.{line_of}

-- the most octets of a schedule's text on the shelf
abbrev pub most_text : ℕ
most_text = 1048576

-- the line of a report
abbrev pub report_line : Report → List ℕ
report_line report = report_text report ++ codes "\n"

-- What is told of what a rehearsal is over: by its disks, by the shelf that has the schedule, and by the output.
pub record SeenSetting (B S O : Type 0) : Type 1 where
  pub disk : Ghosts B
  pub cuts : Cuts B
  pub shelf : ShelfGhosts S
  pub out : OutGhosts O

abbrev pub seen_setting : {B S O : Type 0} → Ghosts B → Cuts B → ShelfGhosts S → OutGhosts O → SeenSetting B S O
seen_setting disk cuts shelf out = record { disk = disk; cuts = cuts; shelf = shelf; out = out }

-- Where it is told what the shelf holds: these octets are the content of the name, or it has none, or that is too long.
abbrev pub IsContent : Option Holding → List ℕ → List ℕ → Type 0
IsContent held name octets = IfSome held (λ shelf. content_of shelf name ≡ Some octets)

abbrev pub HasNoContent : Option Holding → List ℕ → Type 0
HasNoContent held name = IfSome held (λ shelf. content_of shelf name ≡ None)

abbrev pub IsTooLong : Option Holding → List ℕ → Type 0
IsTooLong held name =
    IfSome held
    (λ shelf. (octets : List ℕ) × (content_of shelf name ≡ Some octets) × (most_text < length octets))

-- The line of a report of which this holds was shown, or a front of it, where the output failed. Where memory was
-- wanting nothing was shown. No other status comes.
abbrev pub ShowsReport : (Report → Type 0) → List ℕ → Status → Type 0
ShowsReport IsPlayed shown Done = (report : Report) × IsPlayed report × (shown ≡ report_line report)
ShowsReport IsPlayed shown Out = (report : Report) × IsPlayed report × IsFront shown (report_line report)
ShowsReport IsPlayed shown OutOfMemory = shown ≡ []
ShowsReport IsPlayed shown status = ⊥

-- the rehearsal found what never should be
abbrev pub IsBroken : Status → Type 0
IsBroken status = (line : ℕ) × (what : Breach) × (status ≡ Broken line what)

module _ {B : Type 0} (g : Ghosts B) (cuts : Cuts B) where
  -- The octets are the text of a schedule, which was played to its end over these disks and came to this report.
  pub record PlaysText (octets : List ℕ) (old new : List B) (report : Report) : Type 0 where
    pub schedule : Schedule
    pub text : ScheduleText schedule octets
    pub rehearsed : CanTell g new → Rehearsed g cuts schedule old new report

  -- The octets are the text of a schedule, and the event of this line may not come where it stands.
  pub record HasUnlawful (octets : List ℕ) (old new : List B) (line : ℕ) : Type 0 where
    pub schedule : Schedule
    pub text : ScheduleText schedule octets
    pub unlawful : CanTell g new → IsUnlawful g cuts schedule old new line

  -- The octets are no text of a schedule, which this line shows first, and nothing was played; or they are one, whose
  -- event of this line may not come where it stands.
  abbrev pub IsBadSchedule : List ℕ → List B → List B → ℕ → Type 0
  IsBadSchedule octets old new line =
      (FirstBadLine octets line × (new ≡ old)) ⊎ HasUnlawful octets old new line

  -- How the rehearsal of a text of these octets ended, by what was shown before the status's line.
  abbrev pub TextEnd : List ℕ → List B → List B → List ℕ → Status → Type 0
  TextEnd octets old new shown (BadSchedule line) = IsBadSchedule octets old new line × (shown ≡ [])
  TextEnd octets old new shown (Broken line what) =
      (schedule : Schedule) × ScheduleText schedule octets × (shown ≡ [])
  TextEnd octets old new shown status = ShowsReport (PlaysText octets old new) shown status

  -- The rehearsal of a text of these octets, which may be read whole, ended so.
  pub record ContentEnd (octets : List ℕ) (old new : List B) (shown : List ℕ) (status : Status) : Type 0 where
    pub most : length octets ≤ most_text
    pub ends : TextEnd octets old new shown status

  -- How the rehearsal of the schedule of this name ended: nothing was played where there is no content, where it is too
  -- long, or where the shelf failed; else it is the end of the content.
  abbrev pub RehearsalEnd : Option Holding → List ℕ → List B → List B → List ℕ → Status → Type 0
  RehearsalEnd held name old new shown NoSuch = HasNoContent held name × (new ≡ old) × (shown ≡ [])
  RehearsalEnd held name old new shown TooLong = IsTooLong held name × (new ≡ old) × (shown ≡ [])
  RehearsalEnd held name old new shown Shelf = (new ≡ old) × (shown ≡ [])
  RehearsalEnd held name old new shown OutOfMemory = shown ≡ []
  RehearsalEnd held name old new shown status =
      (octets : List ℕ) × IsContent held name octets × ContentEnd octets old new shown status

  -- How a rehearsal ended that is drawn by this number, in so many rounds.
  abbrev pub DrawnEnd : ℕ → ℕ → List B → List B → List ℕ → Status → Type 0
  DrawnEnd seed count old new shown (Broken line what) = shown ≡ []
  DrawnEnd seed count old new shown status =
      ShowsReport (λ report. CanTell g new → DrivenBy g cuts seed count old new report) shown status

  -- So it ended, by what was asked for.
  abbrev pub PlayEnd : Option Holding → RehearseRequest → List B → List B → List ℕ → Status → Type 0
  PlayEnd held (rehearse.Schedule name) old new shown status = RehearsalEnd held name.now old new shown status
  PlayEnd held (rehearse.Drawn seed count) old new shown status = DrawnEnd seed count old new shown status

  -- It began over nine disks without an octet, and ended so. Out of memory, which may come before there are such disks,
  -- nothing was shown.
  abbrev pub FromFresh : (List B → List ℕ → Status → Type 0) → List ℕ → Status → Type 0
  FromFresh Ends shown OutOfMemory = shown ≡ []
  FromFresh Ends shown status = (old : List B) × AreFresh g cuts old × Ends old shown status

  -- an event of the schedule may not come where it stands, and the status says its line
  abbrev pub IsUnlawfulAt : Schedule → List B → Status → Type 0
  IsUnlawfulAt schedule new status =
      (old : List B) × AreFresh g cuts old
      × ((line : ℕ) × (status ≡ BadSchedule line) × (CanTell g new → IsUnlawful g cuts schedule old new line))

  -- How a rehearsal ends, by the content of the name. But for a fault of the shelf and want of memory: where there is
  -- none, or it is too long, that is the status; where it is no schedule's text the status says the first line that
  -- shows this; where it is a schedule's, it was played, or an event of it may not come, or it broke.
  pub record EndsExactly (content : Option (List ℕ)) (new : List B) (status : Status) : Type 0 where
    pub no_such : content ≡ None → IsUnless status NoSuch (Shelf ∷ OutOfMemory ∷ [])
    pub too_long :
        (octets : List ℕ) → content ≡ Some octets → most_text < length octets
        → IsUnless status TooLong (Shelf ∷ OutOfMemory ∷ [])
    pub no_schedule :
        (octets : List ℕ) → content ≡ Some octets → length octets ≤ most_text
        → ((schedule : Schedule) → ScheduleText schedule octets → ⊥)
        → ((line : ℕ) × FirstBadLine octets line × (status ≡ BadSchedule line))
        ⊎ Contains (Shelf ∷ OutOfMemory ∷ []) status
    pub is_schedule :
        (octets : List ℕ) (schedule : Schedule) → content ≡ Some octets → length octets ≤ most_text
        → ScheduleText schedule octets
        → IsUnlawfulAt schedule new status
        ⊎ (IsBroken status ⊎ Contains (Done ∷ Out ∷ Shelf ∷ OutOfMemory ∷ []) status)

-- whether the line of a report was put
abbrev pub says_report : Status → Bool
says_report Done = true
says_report Out = true
says_report status = false

-- The command showed some text and ended with this status, which has a cause by the text; its line isn't shown yet. The
-- output's count of faults rose where showing failed, and stayed where it didn't; where there was no report the output
-- wasn't touched.
pub record ReportShown {O : Type 0} (o : OutGhosts O) (Ends : List ℕ → Status → Type 0) (before now : O)
    (status : Status) : Type 0 where
  pub text : List ℕ
  pub gains : Gains (o.shown before) (o.shown now) text
  pub ends : Ends text status
  pub cause : HasStatusCause Out (o.faults before) (o.faults now) status
  pub unshown : says_report status ≡ false → now ≡ before

-- So it was, and then the status's line was shown, if it has one.
pub record ReportRan {O : Type 0} (o : OutGhosts O) (Ends : List ℕ → Status → Type 0) (before now : O)
    (status : Status) : Type 0 where
  pub mid : O
  pub shown : ReportShown o Ends before mid status
  pub line : Shows o.shown o.faults mid now (line_of status)
  pub done : line_of status ≡ [] → now ≡ mid

-- What the words are, what is told, the shelf, the output before and now, the disks of the bench now, and the status.
module _ {B S O : Type 0} (words : List (List ℕ)) (seen : SeenSetting B S O) (shelf : S) (before now : O)
    (disks : List B) (status : Status) where
  -- where the words ask for the rehearsal of a schedule that the shelf has, it is played so
  abbrev pub RunsNamed : Type 0
  RunsNamed =
      (name : List ℕ) → IsRehearsal words name
      → ReportRan seen.out
      (FromFresh seen.disk seen.cuts (λ old. RehearsalEnd seen.disk seen.cuts (seen.shelf.held shelf) name old disks))
      before now status

  -- where they ask for one that is drawn, that one is
  abbrev pub RunsDrawn : Type 0
  RunsDrawn =
      (seed count : ℕ) → IsDrawn words seed count
      → ReportRan seen.out
      (FromFresh seen.disk seen.cuts (λ old. DrawnEnd seen.disk seen.cuts seed count old disks)) before now status

  -- where it is told what the shelf holds, the status is by the content
  abbrev pub RunsExactly : Type 0
  RunsExactly =
      (name : List ℕ) (there : Holding) → IsRehearsal words name → seen.shelf.held shelf ≡ Some there
      → EndsExactly seen.disk seen.cuts (content_of there name) disks status

  -- What a run does as a rehearsal, by its words: over disks that began without an octet, and that the bench has now.
  pub record Rehearses : Type 0 where
    pub named : RunsNamed
    pub drawn : RunsDrawn
    pub exactly : RunsExactly
