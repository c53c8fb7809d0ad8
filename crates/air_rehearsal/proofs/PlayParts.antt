-- What a result holds that is handed on, and which client has a number.
use Rattle.std.specs.Prelude.{◌≡◌, ◌↔◌, ◌+◌, ◌<◌, ◌∷◌}
use Rattle.std.specs.Prelude.{◌&&◌}
use Rattle.std.proofs.Common.{ap, sym, ◌∙◌, subst, arith}
use Rattle.air_rehearsal.specs.Seats.{asks}
use Rattle.air_rehearsal.specs.declared.report.Report.{Report as StoredReport}
use Rattle.air_rehearsal.proofs.Names.{ℕ, zero, suc, List, [], length, slice_get, slice_set, Result, Ok, Err, IfOk, OnOk, Option, Some, Bool, true, false, IsTrue, slice_index_or, is_some, refl, same_Some, Cuts, Ghosts, EachImage, NotesState, StandsFor, IsClient, Client, is_under_way, outcome_by, Outcome, ClientPart, ClientTakes, IsAllowed, Event, Tells, TellsThen, asked_more, cut_more, one_if, outcome_more, told, place_numbered, Report, is_fetch, is_refusal, Clients, MayTake, TookPart, DoesPart, IsPart, IsSeat, Seat, TakesPart, IsSteady, Part, Party as StoredParty}

-- what has P where it is there has Q then, where that follows
pub if_ok : {T E : Type 0} (r : Result T E) (P Q : T → Type 0) → IfOk r P → ((x : T) → P x → Q x) → IfOk r Q
if_ok (Ok x) P Q holds then = then x holds
if_ok (Err e) P Q holds then = tt

pub on_ok : {T E : Type 0} (r : Result T E) (P Q : Type 0) → OnOk r P → (P → Q) → OnOk r Q
on_ok (Ok x) P Q holds then = then holds
on_ok (Err e) P Q holds then = tt

pub on_ok_of : {T E : Type 0} (r : Result T E) (P : Type 0) → P → OnOk r P
on_ok_of (Ok x) P holds = holds
on_ok_of (Err e) P holds = tt

-- what is at a place has the number after it
pub number_at : (number c : ℕ) → place_numbered number ≡ Some c → number ≡ suc c
number_at zero c is = absurd cc
number_at (suc place) c is = ap suc (same_Some place c is)

-- what is read at a place of a list that was set there
pub set_read : {X : Type 0} (xs : List X) (c : ℕ) (y d : X) → c < length xs → slice_index_or (slice_set xs c y) c d ≡ y
set_read [] c y d within = absurd (let no : ⊥ = omega (arith, within) in no)
set_read (first ∷ xs) zero y d within = refl
set_read (first ∷ xs) (suc c) y d within = set_read xs c y d (omega (arith, within))

-- the images of a client's notes, as they were read
pub images_there :
    {D : Type 0} (g : Ghosts D) (disks : List D) (c : ℕ) (then other : D) (read notes : NotesState) → c < length disks
    → read ≡ notes
    → EachImage g (slice_index_or (slice_set disks c then) c other) (λ image. StandsFor image read.lists)
    → EachImage g then (λ image. StandsFor image notes.lists)
images_there {D} g disks c then other read notes within is images =
    subst (λ (n : NotesState). EachImage g then (λ image. StandsFor image n.lists)) is
    (subst (λ (d : D). EachImage g d (λ image. StandsFor image read.lists)) (set_read disks c then other within) images)

-- ---- what is counted of a client that takes part

pub not_false : (is : Bool) → (is ≡ false → ⊥) → is ≡ true
not_false true not = refl
not_false false not = absurd (not refl)

-- what comes of what was under way is counted
abbrev pub CountsEnd : Bool → Option Outcome → StoredReport → StoredReport → Type 0
CountsEnd before now old new =
    (numbers : Report) → Tells old numbers
    → Tells new
    (record numbers {
      refused = numbers.refused + one_if (before && is_refusal now);
      fetched = numbers.fetched + one_if (before && is_fetch now);
    })

-- of a client that was free nothing is
pub counts_free : (before : Bool) (now : Option Outcome) (report : StoredReport) → before ≡ false
    → CountsEnd before now report report
counts_free before now report free numbers tells =
    record {
      events = tells.events;
      asked = tells.asked;
      acked = tells.acked;
      kept = tells.kept;
      refused = tells.refused ∙ ap told (same numbers.refused (is_refusal now) before free);
      fetched = tells.fetched ∙ ap told (same numbers.fetched (is_fetch now) before free);
      cuts = tells.cuts;
    }
  where
    same : (n : ℕ) (such was : Bool) → was ≡ false → n ≡ n + one_if (was && such)
    same n such true is = absurd (let e : true ≡ false = is in cc)
    same n such false is = omega arith

-- of one that wasn't it is
pub counts_busy : (before : Bool) (now : Option Outcome) (old new : StoredReport) → (before ≡ false → ⊥)
    → TellsThen (outcome_more now) old new → CountsEnd before now old new
counts_busy before now old new busy counts numbers tells =
    let is : before ≡ true = not_false before busy in
    let then = counts numbers tells in
    record {
      events = then.events;
      asked = then.asked;
      acked = then.acked;
      kept = then.kept;
      refused = then.refused ∙ ap (λ (was : Bool). told (numbers.refused + one_if (was && is_refusal now))) (sym is);
      fetched = then.fetched ∙ ap (λ (was : Bool). told (numbers.fetched + one_if (was && is_fetch now))) (sym is);
      cuts = then.cuts;
    }

-- The client at this place took part.
pub took_part :
    {B : Type 0} (g : Ghosts B) (cuts : Cuts B) (old : Clients B) (new : Clients B) (c : ℕ) (self now : StoredParty)
    (was then : B) (part : Part) (asked_report cut_report : StoredReport)
    → slice_get old.stations.parties.items c ≡ Some self → slice_get old.disks c ≡ Some was
    → new.stations.parties.items ≡ slice_set old.stations.parties.items c now → new.disks ≡ slice_set old.disks c then
    → new.stations ≡ record old.stations { parties = new.stations.parties; report = new.stations.report }
    → ((seat : Seat) (event : Event) (whole : ClientPart) → IsSeat self seat → IsAllowed seat.world event
    → ClientTakes seat.world event seat.c whole → IsPart seat part whole → IsSteady g cuts was
    → TakesPart g cuts whole self now was then)
    → EachImage g then (λ image. StandsFor image now.client.notes.lists)
    → TellsThen (asked_more (asks part)) old.stations.report asked_report
    → TellsThen (cut_more (is_some self.cut)) asked_report cut_report
    → ((seat : Seat) (next : Client) → IsSeat self seat → IsClient now.client next
    → CountsEnd (is_under_way seat.party.client.attempt) (outcome_by next.attempt) cut_report new.stations.report)
    → (whole : ClientPart) (may : MayTake g cuts c old part whole) → TookPart g cuts c part whole old new may
took_part {B} g cuts old new c self now was then part asked_report cut_report self_at was_at parties disks stations takes
    images asked cut ends whole may =
    let it = may.seated in
    let same : self ≡ it.party = same_Some self it.party (sym self_at ∙ it.is_party) in
    let same_disk : was ≡ it.disk = same_Some was it.disk (sym was_at ∙ it.is_disk) in
    let is_seat : IsSeat self may.seat = subst (λ (s : StoredParty). IsSeat s may.seat) (sym same) it.is_seat in
    let took : TakesPart g cuts whole self now was then =
    takes may.seat may.event whole is_seat may.allowed may.takes may.is_part
    (subst (λ (d : B). IsSteady g cuts d) (sym same_disk) it.steady) in
    record {
      party = now;
      disk = then;
      takes = record {
        next = took.next;
        does =
            subst (λ (s : StoredParty). DoesPart g cuts s.cut whole took.next it.disk then) same
            (subst (λ (d : B). DoesPart g cuts self.cut whole took.next d then) same_disk took.does);
        plays = took.plays;
        steady = took.steady;
      };
      changes = record { parties_are = parties; disks_are = disks; stations_are = stations };
      images = images;
      counts = λ numbers tells.
          let last =
          ends may.seat took.next.client is_seat took.plays.client _ (cut _ (asked numbers tells)) in
          record {
            events = last.events;
            asked = last.asked;
            acked = last.acked;
            kept = last.kept;
            refused = last.refused;
            fetched = last.fetched;
            cuts =
                last.cuts ∙ ap (λ (s : StoredParty). told (numbers.cuts + one_if (is_some s.cut))) same;
          };
    }

-- whether a client is free, where a test says so
pub is_free_so : {A : Type 0} (is : Bool) → is ≡ true → IsTrue is ↔ A → A
is_free_so is yes_is right = right.0 yes_is

pub not_free_so : {A : Type 0} (is : Bool) → is ≡ false → IsTrue is ↔ A → A → ⊥
not_free_so is no_is right a = (let e : false ≡ true = sym no_is ∙ right.1 a in cc)
