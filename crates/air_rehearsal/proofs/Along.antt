-- A rehearsal along the events of a schedule.
use Rattle.std.specs.Prelude.{◌≡◌, ◌+◌, ◌≤◌, ◌∷◌, ◌++◌}
use Rattle.std.proofs.Common.{sym, ap, ◌∙◌, subst, arith}
use Rattle.air_rehearsal.specs.declared.report.Report.{Report as StoredReport}
use Rattle.air_rehearsal.proofs.Names.{ℕ, zero, suc, List, [], length, take, drop, slice_get, Some, refl, AllByRecursion, length-take-le, take_all, same_Some, slice_get_within, AreFresh, Cuts, LastsSo, cut_state, Ghosts, IsAllowed, Event, IsInRange, IsSchedule, Schedule, World, first_world, EndsSo, Bench, PlaysEvent, IsUnlawful, Rehearsed, until, last_world}
use Rattle.air_rehearsal.proofs.Finished.{finished, refused}
use Rattle.air_rehearsal.proofs.WholePlay.{PlayedSome, stepped}
use Rattle.air_rehearsal.proofs.WholeRehearsal.{RehearsalLaws}

-- the list, split at one of its places
split_at :
    {X : Type 0} (xs : List X) (i : ℕ) (x : X) → slice_get xs i ≡ Some x
    → xs ≡ take i xs ++ x ∷ drop (suc i) xs
split_at [] i x is = absurd (let less = slice_get_within [] i x is in let no : ⊥ = omega (arith, less) in no)
split_at (x' ∷ xs) zero x is = ap (λ it. it ∷ xs) (same_Some x' x is)
split_at (x' ∷ xs) (suc i) x is = ap (λ (rest : List _). x' ∷ rest) (split_at xs i x is)

take_one :
    {X : Type 0} (xs : List X) (i : ℕ) (x : X) → slice_get xs i ≡ Some x → take (suc i) xs ≡ take i xs ++ x ∷ []
take_one [] i x is = absurd (let less = slice_get_within [] i x is in let no : ⊥ = omega (arith, less) in no)
take_one (x' ∷ xs) zero x is = ap (λ it. it ∷ []) (same_Some x' x is)
take_one (x' ∷ xs) (suc i) x is = ap (λ (rest : List _). x' ∷ rest) (take_one xs i x is)

all_taken : {X : Type 0} (P : X → Type 0) (i : ℕ) (xs : List X) → AllByRecursion P xs → AllByRecursion P (take i xs)
all_taken P zero xs all = tt
all_taken P (suc i) [] all = tt
all_taken P (suc i) (x ∷ xs) all = (all.0, all_taken P i xs all.1)

pub all_there :
    {X : Type 0} (P : X → Type 0) (xs : List X) (i : ℕ) (x : X) → AllByRecursion P xs → slice_get xs i ≡ Some x → P x
all_there P [] i x all is = absurd (let less = slice_get_within [] i x is in let no : ⊥ = omega (arith, less) in no)
all_there P (x' ∷ xs) zero x all is = subst P (same_Some x' x is) all.0
all_there P (x' ∷ xs) (suc i) x all is = all_there P xs i x all.1 is

module _ {B : Type 0} (g : Ghosts B) (cuts : Cuts B) (schedule : Schedule) (i : ℕ) where
  -- the schedule, as far as this event
  abbrev front : Schedule
  front = until (take i schedule.events) schedule

  front_schedule : IsSchedule schedule → IsSchedule front
  front_schedule is =
      record {
        some = is.some;
        few = is.few;
        most = is.most;
        are_calls = is.are_calls;
        distinct = is.distinct;
        in_range = all_taken IsInRange i schedule.events is.in_range;
      }

  -- The event was played: one more.
  pub goes_along :
      (bench : List B) (at now : Bench B) (event : Event) → slice_get schedule.events i ≡ Some event
      → (played : PlayedSome g cuts front bench at)
      → PlaysEvent g cuts (last_world (first_world front) played.0) event at now
      → PlayedSome g cuts (until (take (i + 1) schedule.events) schedule) bench now
  goes_along bench at now event is played plays =
      let more = take_one schedule.events i event is in
      let next : take (i + 1) schedule.events ≡ take i schedule.events ++ event ∷ [] =
      ap (λ (n : ℕ). take n schedule.events) (let e : i + 1 ≡ suc i = omega arith in e) ∙ more in
      subst (λ (events : List Event). PlayedSome g cuts (until events schedule) bench now) (sym next)
      (_, stepped g cuts front played.0 bench at now played.1 event plays)

  module _ (lasts_so : (old new : B) → g.lasts old new → LastsSo (cut_state g cuts old) (cut_state g cuts new))
      (bench : List B) (at : Bench B) (fresh : AreFresh g cuts bench) (is_schedule : IsSchedule schedule)
      (played : PlayedSome g cuts front bench at) where
    abbrev world : World
    world = last_world (first_world front) played.0

    -- The event may not come.
    pub stops_there :
        (event : Event) (line : ℕ) → slice_get schedule.events i ≡ Some event → ¬ IsAllowed world event
        → line ≡ 2 + length schedule.calls + i → IsUnlawful g cuts schedule bench (at.disk ∷ at.disks) line
    stops_there event line is not_allowed line_is =
        let within = slice_get_within schedule.events i event is in
        let many = length-take-le i schedule.events (omega (arith, within)) in
        refused g cuts lasts_so front played.0 bench at fresh played.1 (front_schedule is_schedule) schedule event
        (drop (suc i) schedule.events) line refl (split_at schedule.events i event is) not_allowed
        (let e : line ≡ 1 + length schedule.calls + length (take i schedule.events) + 1 = omega (arith, line_is, many) in e)

    -- There is no other event.
    pub ends_there :
        (laws : RehearsalLaws) (disk_now : B) (report : StoredReport) → length schedule.events ≤ i
        → EndsSo g world at.stations.report at.disk disk_now report
        → Rehearsed g cuts schedule bench (disk_now ∷ at.disks) report
    ends_there laws disk_now report all ends =
        subst (λ (events : List Event). Rehearsed g cuts (until events schedule) bench (disk_now ∷ at.disks) report)
        (take_all i schedule.events all)
        (finished g cuts lasts_so front played.0 bench at fresh played.1 (front_schedule is_schedule) laws disk_now
        report ends).0
