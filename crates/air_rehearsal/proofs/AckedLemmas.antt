-- Counts over tasks that come one after another.
use Rattle.std.proofs.Common.{◌≡◌, ℕ, suc, ◌+◌, List, [], ◌∷◌, ◌++◌, map, Some, inl, inr, refl, ap, sym, subst, ◌∙◌, arith}
use Rattle.std.proofs.lemmas.List.Concat.{flat_map-cons}
use Rattle.air_world.specs.Attempts.Party.{Party}
use Rattle.air_rehearsal.specs.declared.report.Report.{Report as StoredReport}
use Rattle.air_rehearsal.proofs.Names.{slice_get, true, AllByRecursion, flat_map, range_with_len, task_count, HeadlineIn, World, TellsThen, acked_more, kept_more, told, CountsAcked, ClientTask, CountOf, IsAcked, IsAckedAndKept, all_tasks, tasks_of}

count-append : {T : Type 0} (P : T → Type 0) (front later : List T) (some more : ℕ) → CountOf P front some
    → CountOf P later more → CountOf P (front ++ later) (some + more)
count-append P [] later some more none rest =
    let same : more ≡ some + more = omega (arith, none) in
    subst (λ (count : ℕ). CountOf P later count) same rest
count-append P (it ∷ front) later some more counted rest = elim counted [
  | inl has ↦ inl (
    has.0,
    (
      has.1.0 + more,
      (let next : some + more ≡ suc (has.1.0 + more) = omega (arith, has.1.1) in next),
      count-append P front later has.1.0 more has.1.2 rest,
    ),
  )
  | inr not ↦ inr (not.0, count-append P front later some more not.1 rest)
]

none-more : (report : StoredReport) → TellsThen (kept_more 0) report report
none-more report counts tells = record {
  events = tells.events;
  asked = tells.asked;
  acked = tells.acked ∙ ap told (omega arith);
  kept = tells.kept ∙ ap told (omega arith);
  refused = tells.refused;
  fetched = tells.fetched;
  cuts = tells.cuts;
}

-- nothing is counted of no tasks
pub counts-none : (report : StoredReport) → CountsAcked [] report report
counts-none report = record { acked = 0; is_acked = refl; tells = none-more report }

-- nor of a task of whose file no acknowledgement is held
pub counts-not : (it : ClientTask) (report : StoredReport) → ¬ IsAcked it → CountsAcked (it ∷ []) report report
counts-not it report not = record { acked = 0; is_acked = inr (not, refl); tells = none-more report }

-- one is counted, whose file is kept
pub counts-one : (it : ClientTask) (before report : StoredReport) → IsAcked it
    → TellsThen (acked_more true) before report → CountsAcked (it ∷ []) before report
counts-one it before report is tells = record { acked = 1; is_acked = inl (is, (0, refl, refl)); tells = tells }

-- those of some tasks, and then those of others
pub counts-append : (front later : List ClientTask) (before mid report : StoredReport)
    → CountsAcked front before mid → CountsAcked later mid report → CountsAcked (front ++ later) before report
counts-append front later before mid report first second = record {
  acked = first.acked + second.acked;
  is_acked = count-append IsAcked front later first.acked second.acked first.is_acked second.is_acked;
  tells = λ counts tells.
      let last = second.tells (kept_more first.acked counts) (first.tells counts tells) in
      record {
        events = last.events;
        asked = last.asked;
        acked = last.acked ∙ ap told (omega arith);
        kept = last.kept ∙ ap told (omega arith);
        refused = last.refused;
        fetched = last.fetched;
        cuts = last.cuts;
      };
}

-- ---- each file of which an acknowledgement is held is kept

-- what holds exactly where another thing does is counted as often
both-count : {T : Type 0} (P Q : T → Type 0) (items : List T) (count : ℕ)
    → AllByRecursion (λ it. (P it → Q it) × (Q it → P it)) items → CountOf P items count → CountOf Q items count
both-count P Q [] count all is = is
both-count P Q (it ∷ later) count all is = elim is [
  | inl has ↦ inl (all.0.0 has.0, (has.1.0, has.1.1, both-count P Q later has.1.0 all.1 has.1.2))
  | inr not ↦ inr (λ holds. not.0 (all.0.1 holds), both-count P Q later count all.1 not.1)
]

all-append : {T : Type 0} (P : T → Type 0) (front later : List T) → AllByRecursion P front → AllByRecursion P later
    → AllByRecursion P (front ++ later)
all-append P [] later all rest = rest
all-append P (it ∷ front) later all rest = (all.0, all-append P front later all.1 rest)

all-map : {A T : Type 0} (P : T → Type 0) (f : A → T) (items : List A) → ((it : A) → P (f it))
    → AllByRecursion P (map f items)
all-map P f [] each = tt
all-map P f (it ∷ items) each = (each it, all-map P f items each)

-- what holds of each task of the client at each place
all-tasks : (P : ClientTask → Type 0) (parties : List Party)
    → ((c : ℕ) (party : Party) (task : ℕ) → slice_get parties c ≡ Some party
    → P (record { party = party; task = task }))
    → AllByRecursion P (flat_map tasks_of parties)
all-tasks P [] each = tt
all-tasks P (party ∷ parties) each =
    subst (λ (tasks : List ClientTask). AllByRecursion P tasks) (sym (flat_map-cons tasks_of party parties))
    (all-append P (tasks_of party) (flat_map tasks_of parties)
    (all-map P (λ task. record { party = party; task = task }) (range_with_len 1 (task_count party.client.lists))
    (λ task. each 0 party task refl))
    (all-tasks P parties (λ c it task at. each (suc c) it task at)))

-- As many files are acknowledged and kept as are acknowledged, where what is promised holds.
pub acked-kept : (world : World) (count : ℕ) → HeadlineIn world world.server.store
    → CountOf IsAcked (all_tasks world) count → CountOf (IsAckedAndKept world) (all_tasks world) count
acked-kept world count headline is =
    both-count IsAcked (IsAckedAndKept world) (all_tasks world) count
    (all-tasks (λ it. (IsAcked it → IsAckedAndKept world it) × (IsAckedAndKept world it → IsAcked it)) world.parties
    (λ c party task at. (
      λ acked. (acked.0, acked.1, headline.acknowledged c task acked.0 party at acked.1),
      λ kept. (kept.0, kept.1),
    )))
    is
