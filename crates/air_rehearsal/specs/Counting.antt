-- How the code's report tells the numbers that are counted: each stands still at its last number, 2 ^ 64 - 1.
use Rattle.std.specs.Prelude.{◌≡◌, ℕ, ◌+◌, min, List, ◌++◌, codes, decimal, Bool, true, false, Option}
use Rattle.disk_model.specs.declared.disk.Disk.{Ghosts}
use Rattle.air_world.specs.World.{World}
use Rattle.air_rehearsal.specs.Chain.{StartsAgain}
use Rattle.ftl0_client.specs.Outcome.{Outcome}
use Rattle.air_rehearsal.specs.Report.{CountOf, IsAcked, Report, all_tasks, is_fetch, is_refusal}
use Rattle.air_rehearsal.specs.Standing.{StandsNow}
use Rattle.air_rehearsal.specs.Stations.{the_server}
use Rattle.air_rehearsal.specs.declared.report.Report.{Report as StoredReport}

-- a number as a count of 64 bits tells it
abbrev pub told : ℕ → ℕ
told count = min count 18446744073709551615

-- the report tells these numbers
pub record Tells (report : StoredReport) (counts : Report) : Type 0 where
  pub events : report.events ≡ told counts.events
  pub asked : report.asked ≡ told counts.asked
  pub acked : report.acked ≡ told counts.acked
  pub kept : report.kept ≡ told counts.kept
  pub refused : report.refused ≡ told counts.refused
  pub fetched : report.fetched ≡ told counts.fetched
  pub cuts : report.cuts ≡ told counts.cuts

-- how a report is written: each number in decimal digits, behind its name
abbrev pub report_text : StoredReport → List ℕ
report_text report =
    codes "events " ++ decimal report.events ++ codes " asked " ++ decimal report.asked ++ codes " acked "
    ++ decimal report.acked ++ codes " kept " ++ decimal report.kept ++ codes " refused " ++ decimal report.refused
    ++ codes " fetched " ++ decimal report.fetched ++ codes " cuts " ++ decimal report.cuts

-- nothing was counted
abbrev pub no_counts : Report
no_counts = record { events = 0; asked = 0; acked = 0; kept = 0; refused = 0; fetched = 0; cuts = 0 }

-- one where this is so
abbrev pub one_if : Bool → ℕ
one_if true = 1
one_if false = 0

-- Whatever numbers the report told before, it tells what this makes of them.
abbrev pub TellsThen : (Report → Report) → StoredReport → StoredReport → Type 0
TellsThen change before report = (counts : Report) → Tells before counts → Tells report (change counts)

-- an event more
abbrev pub event_more : Report → Report
event_more counts = record counts { events = counts.events + 1 }

-- a client was asked once more, or it wasn't
abbrev pub asked_more : Bool → Report → Report
asked_more is_asked counts = record counts { asked = counts.asked + one_if is_asked }

-- power was cut once more, or it wasn't
abbrev pub cut_more : Bool → Report → Report
cut_more is_cut counts = record counts { cuts = counts.cuts + one_if is_cut }

-- what was asked came to this, or is under way
abbrev pub outcome_more : Option Outcome → Report → Report
outcome_more outcome counts =
    record counts {
      refused = counts.refused + one_if (is_refusal outcome);
      fetched = counts.fetched + one_if (is_fetch outcome);
    }

-- a file more is acknowledged, and is kept or not
abbrev pub acked_more : Bool → Report → Report
acked_more is_kept counts =
    record counts { acked = counts.acked + 1; kept = counts.kept + one_if is_kept }

-- so many files more are acknowledged, and each is kept
abbrev pub kept_more : ℕ → Report → Report
kept_more acked counts = record counts { acked = counts.acked + acked; kept = counts.kept + acked }

-- The tasks were counted of which this world's clients hold an acknowledgement, each as one whose file is kept, and
-- nothing else: the store was recovered from the disk, which stands for it then.
pub record EndsSo {D : Type 0} (g : Ghosts D) (world : World) (before : StoredReport) (disk disk_now : D)
    (report : StoredReport) : Type 0 where
  pub acked : ℕ
  pub is_acked : CountOf IsAcked (all_tasks world) acked
  pub report_tells : TellsThen (kept_more acked) before report
  pub again : StartsAgain g the_server disk disk_now
  pub stands : StandsNow g the_server world disk_now
