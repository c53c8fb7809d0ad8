-- The worlds decide each number of a report.
use Rattle.std.specs.Prelude.{◌≡◌, ◌∷◌}
use Rattle.std.proofs.Common.{inl, inr, sym, ◌∙◌, ap}
use Rattle.air_rehearsal.proofs.Names.{ℕ, suc, List, [], refl, Schedule, World, CountOf, IsReport, Report}

one_count :
    {T : Type 0} (P : T → Type 0) (items : List T) (one other : ℕ) → CountOf P items one → CountOf P items other
    → one ≡ other
one_count P [] one other is also = is ∙ sym also
one_count P (it ∷ later) one other is also = elim is [
  | inl has ↦ elim also [
    | inl too ↦ has.1.1 ∙ ap suc (one_count P later has.1.0 too.1.0 has.1.2 too.1.2) ∙ sym too.1.1
    | inr not ↦ absurd (not.0 has.0)
  ]
  | inr not ↦ elim also [
    | inl has ↦ absurd (not.0 has.0)
    | inr too ↦ one_count P later one other not.1 too.1
  ]
]

pub one_report :
    (schedule : Schedule) (worlds : List World) (one other : Report) → IsReport schedule worlds one
    → IsReport schedule worlds other → one ≡ other
one_report schedule worlds one other is also =
    let events : one.events ≡ other.events = is.events ∙ sym also.events in
    let asked : one.asked ≡ other.asked = is.asked ∙ sym also.asked in
    let acked : one.acked ≡ other.acked = one_count _ _ one.acked other.acked is.acked also.acked in
    let kept : one.kept ≡ other.kept = one_count _ _ one.kept other.kept is.kept also.kept in
    let refused : one.refused ≡ other.refused = is.refused ∙ sym also.refused in
    let fetched : one.fetched ≡ other.fetched = is.fetched ∙ sym also.fetched in
    let cuts : one.cuts ≡ other.cuts = is.cuts ∙ sym also.cuts in
    let this : one ≡ record {
      events = one.events;
      asked = one.asked;
      acked = one.acked;
      kept = one.kept;
      refused = one.refused;
      fetched = one.fetched;
      cuts = one.cuts;
    } = refl in
    let that : other ≡ record {
      events = other.events;
      asked = other.asked;
      acked = other.acked;
      kept = other.kept;
      refused = other.refused;
      fetched = other.fetched;
      cuts = other.cuts;
    } = refl in
    cc
