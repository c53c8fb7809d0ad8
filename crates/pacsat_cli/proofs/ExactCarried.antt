-- The status of `fetch` and of `list`, exactly.
use Rattle.std.proofs.Common.{◌≡◌, ℕ, List, [], Some, refl, ap, sym, subst, ◌∙◌, inl, inr}
use Rattle.px_base.specs.declared.out.Out.{Ghosts as OutGhosts}
use Rattle.px_base.specs.declared.shelf.Shelf.{Ghosts as ShelfGhosts}
use Rattle.uploader.specs.StoreFault.{StoreFault}
use Rattle.ftl0_client.specs.Table.{JobState}
use Rattle.ftl0_client.specs.Outcome.TheVariants as outcome
use Rattle.uploader.specs.Stops.{stop_of_fault}
use Rattle.pacsat_cli.specs.declared.status.Status.TheVariants as status
use Rattle.pacsat_cli.proofs.Names.{err_from_is_err_and, Contains, Option, IfOk, Result, Ok, Err, IsErrAnd, ⊤, Holding, Ghosts, OneRunLaw, Lent, Seen, Lists, StaysLaw, OneStepLaw, Outcome, SendStop, ClientTerms, Carries, IsUnrecovered, RecoversTo, asked_of, KeepsBy, file_asked, ComesBy, IsLedTo, ShowsBy, files_asked, led-law, told_recovered, told_refused, Status, FetchRan, ListRan, RunsFetch, RunsList, client_terms, outside, FetchEndsExactly, FetchLed, IsCause, IsNoFault, IsWanted, ListEndsExactly, ListLed, NotesTold, status_of_stop}
use Rattle.pacsat_cli.proofs.ClientEnds.{closes-status, end-status, keeps-along, shows-along, fetched_line}
use Rattle.pacsat_cli.proofs.ClientStops.{StatusBy}
use Rattle.pacsat_cli.proofs.ExactJob.{EndsAs, at-disk, at-memory, at-out, at-shelf, comes-exactly, no-fault, faults}

-- ---- notes that are told are recovered, but for a fault of the disk and want of memory

pub recovered-start : {D : Type 0} (g : Ghosts D) (disk recovered : D) (first start : Lists) → RecoversTo g disk recovered first → NotesTold g disk start → first ≡ start
recovered-start g disk recovered first start recovers notes = told_recovered g disk recovered start notes.content notes.told notes.stands first recovers

pub unrecovered-never : {A C D T X : Type 0} (g : Ghosts D) (old new : Lent D A C) (start : Lists) (ended : Result T SendStop) (s : Status) → StatusBy ended s → IsNoFault s → NotesTold g old.disk start
    → IsErrAnd ended (IsUnrecovered g old new) → X
unrecovered-never g old new start ended s is fine notes h =
    let e = err_from_is_err_and ended h in
    let why : SendStop = e.0 in
    let u : IsUnrecovered g old new why = e.2 in
    let status_is : s ≡ status_of_stop (stop_of_fault u.fault) = is.stopped why e.1 ∙ ap status_of_stop u.why_is in
    elim (told_refused g old.disk new.disk start notes.content notes.told notes.stands u.fault u.answers) [
      | inl disk ↦ no-fault s status.Disk fine (status_is ∙ ap (λ (f : StoreFault). status_of_stop (stop_of_fault f)) disk) at-disk
      | inr memory ↦ no-fault s status.OutOfMemory fine (status_is ∙ ap (λ (f : StoreFault). status_of_stop (stop_of_fault f)) memory) at-memory
    ]

-- ---- what is kept, or shown, may fail behind the outcome

keeps-as : {S : Type 0} (held : S → Option Holding) (shelf shelf_now : S) (name octets : List ℕ) (number : ℕ) (came : Result Outcome SendStop) (ended : Result ⊤ SendStop) (P : Outcome → Type 0)
    → KeepsBy held shelf shelf_now name octets came ended → IfOk came (λ reached. (reached ≡ outcome.Fetched number) × P reached) → EndsAs came ended
keeps-as held shelf shelf_now name octets number came ended P h f = record {
  along = λ why e. elim (keeps-along held shelf shelf_now name octets came ended h why e) [ inl same ↦ inl same | inr is ↦ inr (subst (λ (w : SendStop). Contains faults (status_of_stop w)) (sym is) at-shelf) ];
  some = some came f h;
}
  where
    some : (c : Result Outcome SendStop) → IfOk c (λ reached. (reached ≡ outcome.Fetched number) × P reached) → KeepsBy held shelf shelf_now name octets c ended → (value : ⊤) → ended ≡ Ok value
        → (reached : Outcome) × (c ≡ Ok reached) × IsWanted (Some reached)
    some (Ok reached) is k value e = (reached, refl, subst (λ (r : Outcome). IsWanted (Some r)) (sym is.0) tt)
    some (Err other) is k value e = absurd (let both = sym k.0 ∙ e in cc)

shows-as : {O : Type 0} (shown : O → Option (List ℕ)) (out out_now : O) (listing : List ℕ) (came : Result Outcome SendStop) (ended : Result ⊤ SendStop) (P : Outcome → Type 0)
    → ShowsBy shown out out_now listing came ended → IfOk came (λ reached. (reached ≡ outcome.Listed) × P reached) → EndsAs came ended
shows-as shown out out_now listing came ended P h f = record {
  along = λ why e. elim (shows-along shown out out_now listing came ended h why e) [ inl same ↦ inl same | inr is ↦ inr (subst (λ (w : SendStop). Contains faults (status_of_stop w)) (sym is) at-out) ];
  some = some came f h;
}
  where
    some : (c : Result Outcome SendStop) → IfOk c (λ reached. (reached ≡ outcome.Listed) × P reached) → ShowsBy shown out out_now listing c ended → (value : ⊤) → ended ≡ Ok value
        → (reached : Outcome) × (c ≡ Ok reached) × IsWanted (Some reached)
    some (Ok reached) is k value e = (reached, refl, subst (λ (r : Outcome). IsWanted (Some r)) (sym is.0) tt)
    some (Err other) is k value e = absurd (let both = sym k.0 ∙ e in cc)

-- ---- the two commands

module _ {A C D : Type 0} (see : Seen D A C) (runs : OneRunLaw) (steps : OneStepLaw) (stays : StaysLaw) (old new : Lent D A C) where
  -- a job of a client over the notes that are told
  job-comes : (terms : ClientTerms) (first start : Lists) (job : JobState) (came : Result Outcome SendStop) (h : Carries see old new (asked_of terms first [] job) came) → NotesTold see.disk old.disk start
      → (led : (t : _) × (r : Option Outcome) × IsLedTo see old new (asked_of terms start [] job) t r) → ComesBy terms.polls led.0 led.1 came
  job-comes terms first start job came h notes led =
      let same : first ≡ start = recovered-start see.disk old.disk h.recovered first start h.recovers notes in
      led-law see runs steps stays old new (asked_of terms first [] job) came led.0 led.1 h
      (subst (λ (l : Lists). IsLedTo see old new (asked_of terms l [] job) led.0 led.1) (sym same) led.2)

  module _ {S O : Type 0} (sh : ShelfGhosts S) (o : OutGhosts O) (words : List (List ℕ)) (shelf shelf_now : S) (out out_now : O) (s : Status) where
    pub fetch-exactly : RunsFetch words see sh o (outside old shelf out) (outside new shelf_now out_now) s → FetchEndsExactly words see old new s
    fetch-exactly all led fine other =
        let went = all led.asked led.number led.name led.asks in
        elim went.ran [
          | inl unread ↦ no-fault s status.OutOfMemory fine unread.0 at-memory
          | inr ran ↦ fetch-ran led fine other went.mid ran
        ]
      where
        fetch-ran : (led : FetchLed words see old new) → IsNoFault s → (other : Status) (mid : O) → FetchRan see sh o (outside old shelf out) (outside new shelf_now mid) (file_asked (client_terms led.asked) led.number led.name) s
            → (s ≡ other → IsCause led.asked.polls led.turns led.reached other) × (IsCause led.asked.polls led.turns led.reached other → s ≡ other)
        fetch-ran led fine other mid ran =
            let line : ⊤ → List ℕ = λ _. fetched_line led.number in
            let is : StatusBy ran.ended s = closes-status o line out mid ran.ended s ran.closes in
            elim ran.ends [
              | inl unrecovered ↦ unrecovered-never see.disk old new led.start ran.ended s is fine led.notes unrecovered.0
              | inr h ↦
                  comes-exactly h.came ran.ended s is (keeps-as sh.held shelf shelf_now led.name h.octets led.number h.came ran.ended _ h.keeps h.fetched) fine led.asked.polls led.turns led.reached
                  (job-comes (client_terms led.asked) h.start led.start _ h.came h.carries led.notes (led.turns, led.reached, led.led)) other
            ]

    pub list-exactly : RunsList words see o (outside old shelf out) (outside new shelf_now out_now) s → ListEndsExactly words see old new s
    list-exactly all led fine other =
        let went = all led.asked led.tokens led.asks in
        elim went.ran [
          | inl unread ↦ no-fault s status.OutOfMemory fine unread.0 at-memory
          | inr ran ↦ list-ran led fine other went.mid ran
        ]
      where
        list-ran : (led : ListLed words see old new) → IsNoFault s → (other : Status) (mid : O) → ListRan see o old new out mid (files_asked (client_terms led.asked) led.tokens) s
            → (s ≡ other → IsCause led.asked.polls led.turns led.reached other) × (IsCause led.asked.polls led.turns led.reached other → s ≡ other)
        list-ran led fine other mid ran =
            let is : StatusBy ran.ended s = end-status ran.ended s ran.status_is in
            elim ran.ends [
              | inl unrecovered ↦ unrecovered-never see.disk old new led.start ran.ended s is fine led.notes unrecovered.0
              | inr h ↦
                  comes-exactly h.came ran.ended s is (shows-as o.shown out mid h.carries.listing h.came ran.ended _ h.shows h.listed) fine led.asked.polls led.turns led.reached
                  (job-comes (client_terms led.asked) h.start led.start _ h.came h.carries led.notes (led.turns, led.reached, led.led)) other
            ]
