-- What a call of a disk in memory leaves of its content, its images and its past.
use Rattle.std.proofs.Common.{◌≡◌, ◌⊎◌, inl, inr, ℕ, ◌+◌, ◌<◌, ◌≤◌, List, true, false, [], ◌∷◌, ◌++◌, length, take, drop, refl, sym, ◌∙◌, ap, subst, arith, Some, Ok, Err, Result, OnOk, zero-add}
use Rattle.disk_model.specs.declared.disk_call.DiskCall.TheVariants as call
use Rattle.disk_model.proofs.Names.{cases_Bool, cases_lt, length_push, take_all, take-append-drop, take-append-le, sum_by-append, le_refl, HasCause, IsOctets, DiskState, IsFailingSync, IsRefused, IsSyncing, IsTearing, IsWriting, content_of, images_of, images_since_of, moment_of, surface, with_starved, Follows, HasContent, Only, Torn, Writes, Elapses, SamePast, ImagesSince, IsImage, Surface, moments_in, moments_of, with_range, surface_after, surface_after_call, write_over, DiskCall}
use Rattle.disk_model.proofs.Surfaces.{quiet_leaves_only, images_of_this_content, images_of_other_content, with_range_keeps, surface_after-push, torn_from, torn_leaves}
use Rattle.disk_model.proofs.Writes.{torn_by_places, write_over_writes}

pub moments_in-push : (calls : List DiskCall) (done : DiskCall) → moments_in (calls ++ done ∷ []) ≡ moments_in calls + moments_of done
moments_in-push calls done = sum_by-append moments_of calls (done ∷ []) ∙ ap (λ (n : ℕ). moments_in calls + n) (zero-add (moments_of done))

moments_front : (k : ℕ) (calls : List DiskCall) → moments_in (take k calls) ≤ moments_in calls
moments_front k calls =
    let whole = ap moments_in (take-append-drop k calls) in
    omega (arith, whole, sum_by-append moments_of (take k calls) (drop k calls))

-- no call was made, and a crash may leave no more than before
pub nothing_elapses : (first : List ℕ) (calls : List DiskCall) (images : List ℕ → Type 0) → Elapses (moments_in calls) (moments_in calls) (ImagesSince first calls) (ImagesSince first calls) images
nothing_elapses first calls images = record { later = omega arith; nothing_else = λ t image early since. inl since; keeps = λ t image early past. past }

-- one call more
module _ (first : List ℕ) (calls : List DiskCall) (done : DiskCall) where
  longer : length (calls ++ done ∷ []) ≡ length calls + 1
  longer = length_push calls done

  same : (k : ℕ) → k ≤ length calls → take k (calls ++ done ∷ []) ≡ take k calls
  same k le = take-append-le k calls (done ∷ []) le

  before_or_now : (t : ℕ) (image : List ℕ) → ImagesSince first (calls ++ done ∷ []) t image → ImagesSince first calls t image ⊎ IsImage (surface_after first (calls ++ done ∷ [])) image
  before_or_now t image since = elim (cases_lt (length calls) since.0) [
    | inl after ↦ inr (subst (λ (l : List DiskCall). IsImage (surface_after first l) image) (take_all since.0 (calls ++ done ∷ []) (omega (arith, after, longer))) since.3)
    | inr le ↦ inl (since.0, subst (λ (l : List DiskCall). t ≤ moments_in l) (same since.0 le) since.1, le, subst (λ (l : List DiskCall). IsImage (surface_after first l) image) (same since.0 le) since.3)
  ]

  still : (t : ℕ) (image : List ℕ) → ImagesSince first calls t image → ImagesSince first (calls ++ done ∷ []) t image
  still t image past =
      (past.0, subst (λ (l : List DiskCall). t ≤ moments_in l) (sym (same past.0 past.2)) past.1, omega (arith, longer, past.2), subst (λ (l : List DiskCall). IsImage (surface_after first l) image) (sym (same past.0 past.2)) past.3)

  pub call_elapses : Elapses (moments_in calls) (moments_in (calls ++ done ∷ [])) (ImagesSince first calls) (ImagesSince first (calls ++ done ∷ [])) (IsImage (surface_after first (calls ++ done ∷ [])))
  call_elapses = record {
    later = omega (arith, moments_in-push calls done);
    nothing_else = λ t image early since. before_or_now t image since;
    keeps = λ t image early past. still t image past;
  }

  -- where it was a moment, what may be left since then may be left now
  pub call_leaves_now : moments_in calls < moments_in (calls ++ done ∷ []) → (image : List ℕ) → ImagesSince first (calls ++ done ∷ []) (moments_in (calls ++ done ∷ [])) image → IsImage (surface_after first (calls ++ done ∷ [])) image
  call_leaves_now rose image since = elim (before_or_now (moments_in (calls ++ done ∷ [])) image since) [
    | inl past ↦ absurd (omega (arith, rose, past.1, moments_front past.0 calls))
    | inr now ↦ now
  ]

  -- after a power cut nothing else might have been left since a moment: what is left might have been left before
  pub cut_keeps_past : moments_of done ≡ 0 → (left : List ℕ) → IsImage (surface_after first calls) left → Only (IsImage (surface_after first (calls ++ done ∷ []))) left → SamePast (ImagesSince first calls) (ImagesSince first (calls ++ done ∷ []))
  cut_keeps_past none left was only = λ t image. (λ since. back t image since, λ past. still t image past)
    where
      back : (t : ℕ) (image : List ℕ) → ImagesSince first (calls ++ done ∷ []) t image → ImagesSince first calls t image
      back t image since = elim (before_or_now t image since) [
        | inl past ↦ past
        | inr now ↦
            let all = take_all (length calls) calls (le_refl (length calls)) in
            let early : t ≤ moments_in calls = omega (arith, since.1, moments_front since.0 (calls ++ done ∷ []), moments_in-push calls done, none) in (
              length calls,
              subst (λ (l : List DiskCall). t ≤ moments_in l) (sym all) early,
              le_refl (length calls),
              subst (λ (l : List DiskCall). IsImage (surface_after first l) image) (sym all) (subst (IsImage (surface_after first calls)) (sym (only image now)) was),
            )
      ]

-- the images of a range that is open
with_range_follows : (before : DiskState) (at count : ℕ) → images_of before (content_of before) → Follows (Torn at count) (images_of before) (IsImage (with_range (surface before) at count))
with_range_follows before at count content image left = torn_from (surface before) at count (content_of before) image content left

same_follows : (before : DiskState) (at count : ℕ) → Follows (Torn at count) (images_of before) (images_of before)
same_follows before at count image left = (image, left, torn_by_places at count image image (omega arith) (omega arith) (λ place below outside. refl))

abbrev ElapsesTo : DiskState → DiskState → Type 0
ElapsesTo before now = Elapses (moment_of before) (moment_of now) (images_since_of before) (images_since_of now) (images_of now)

abbrev LeavesNow : DiskState → DiskState → Type 0
LeavesNow before now = moment_of before < moment_of now → (image : List ℕ) → images_since_of now (moment_of now) image → images_of now image

-- what a call of `write_at` does that leaves its range open
pub record Opens (before now : DiskState) (at count : ℕ) : Type 0 where
  pub follows : images_of before (content_of before) → Follows (Torn at count) (images_of before) (images_of now)
  pub leaves_open : (old new : List ℕ) → images_of before old → IsOctets new → Torn at count old new → images_of now new
  pub kept : (image : List ℕ) → images_of before image → images_of now image
  pub elapses : ElapsesTo before now
  pub leaves_now : LeavesNow before now

-- and what one does that changes nothing
pub record Untouched (before now : DiskState) : Type 0 where
  pub first : now.first ≡ before.first
  pub calls : now.calls ≡ before.calls

-- the call is recorded, and its surface is the one before but for the content, with this range open
opens_by : (before now : DiskState) (at count : ℕ) (done : DiskCall) (content : List ℕ)
    → now.first ≡ before.first → now.calls ≡ before.calls ++ done ∷ []
    → surface_after_call (surface before) done ≡ record (with_range (surface before) at count) { content = content }
    → Opens before now at count
opens_by before now at count done content first calls is = record {
  follows = λ content_is image left. with_range_follows before at count content_is image (images_of_this_content (with_range (surface before) at count) content image (subst (λ (s : Surface). IsImage s image) surface_is left));
  leaves_open = λ old new left small torn. here new (torn_leaves (surface before) at count old new left small torn);
  kept = λ image left. here image (with_range_keeps (surface before) at count image left);
  elapses = subst (λ (f : List ℕ). Elapses (moment_of before) (moments_in now.calls) (images_since_of before) (ImagesSince f now.calls) (IsImage (surface_after f now.calls))) (sym first)
      (subst (λ (l : List DiskCall). Elapses (moment_of before) (moments_in l) (images_since_of before) (ImagesSince before.first l) (IsImage (surface_after before.first l))) (sym calls) (call_elapses before.first before.calls done));
  leaves_now = subst (λ (f : List ℕ). moment_of before < moments_in now.calls → (image : List ℕ) → ImagesSince f now.calls (moments_in now.calls) image → IsImage (surface_after f now.calls) image) (sym first)
      (subst (λ (l : List DiskCall). moment_of before < moments_in l → (image : List ℕ) → ImagesSince before.first l (moments_in l) image → IsImage (surface_after before.first l) image) (sym calls) (call_leaves_now before.first before.calls done));
}
  where
    surface_is : surface now ≡ record (with_range (surface before) at count) { content = content }
    surface_is =
        ap (λ (f : List ℕ). surface_after f now.calls) first
        ∙ ap (surface_after before.first) calls
        ∙ surface_after-push before.first before.calls done
        ∙ is

    here : (image : List ℕ) → IsImage (with_range (surface before) at count) image → images_of now image
    here image left = subst (λ (s : Surface). IsImage s image) (sym surface_is) (images_of_other_content (with_range (surface before) at count) content image left)

-- a write that is done, and one that is torn
pub write_opens : (before now : DiskState) (at : ℕ) (octets : List ℕ) → now.first ≡ before.first → now.calls ≡ before.calls ++ call.Write at octets ∷ [] → Opens before now at (length octets)
write_opens before now at octets first calls =
    opens_by before now at (length octets) (call.Write at octets) (write_over (content_of before) at octets) first calls refl

pub torn_write_opens : (before now : DiskState) (at count : ℕ) → now.first ≡ before.first → now.calls ≡ before.calls ++ call.TornWrite at count ∷ [] → Opens before now at count
torn_write_opens before now at count first calls = opens_by before now at count (call.TornWrite at count) (content_of before) first calls refl

module _ (before now : DiskState) where
  untouched_surface : Untouched before now → surface now ≡ surface before
  untouched_surface same = ap (λ (f : List ℕ). surface_after f now.calls) same.first ∙ ap (surface_after before.first) same.calls

  untouched_elapses : Untouched before now → ElapsesTo before now
  untouched_elapses same =
      subst (λ (f : List ℕ). Elapses (moment_of before) (moments_in now.calls) (images_since_of before) (ImagesSince f now.calls) (IsImage (surface_after f now.calls))) (sym same.first)
      (subst (λ (l : List DiskCall). Elapses (moment_of before) (moments_in l) (images_since_of before) (ImagesSince before.first l) (IsImage (surface_after before.first l))) (sym same.calls) (nothing_elapses before.first before.calls (images_of before)))

-- a call of `write_at` that left its range open, or, where this holds, changed nothing
module _ (before now : DiskState) (at count : ℕ) (P : Type 0) where
  pub follows_either : Opens before now at count ⊎ (P × Untouched before now) → images_of before (content_of before) → Follows (Torn at count) (images_of before) (images_of now)
  follows_either (inl opens) content image left = opens.follows content image left
  follows_either (inr same) content image left =
      same_follows before at count image (subst (λ (s : Surface). IsImage s image) (untouched_surface before now same.1) left)

  pub leaves_open_either : Opens before now at count ⊎ (P × Untouched before now) → (P → ⊥) → (old new : List ℕ) → images_of before old → IsOctets new → Torn at count old new → images_of now new
  leaves_open_either (inl opens) none old new left small torn = opens.leaves_open old new left small torn
  leaves_open_either (inr same) none old new left small torn = absurd (none same.0)

  pub kept_either : Opens before now at count ⊎ (P × Untouched before now) → (image : List ℕ) → images_of before image → images_of now image
  kept_either (inl opens) image left = opens.kept image left
  kept_either (inr same) image left = subst (λ (s : Surface). IsImage s image) (sym (untouched_surface before now same.1)) left

  pub elapses_either : Opens before now at count ⊎ (P × Untouched before now) → ElapsesTo before now
  elapses_either (inl opens) = opens.elapses
  elapses_either (inr same) = untouched_elapses before now same.1

  pub leaves_now_either : Opens before now at count ⊎ (P × Untouched before now) → LeavesNow before now
  leaves_now_either (inl opens) = opens.leaves_now
  leaves_now_either (inr same) = λ rose. absurd (let e = ap moments_in same.1.calls in omega (arith, e, rose))

module _ {T E : Type 0} (before now : DiskState) (at : ℕ) (octets : List ℕ) where
  pub writing_writes : (result : Result T E) → IsWriting before now at octets result → OnOk result (HasContent (Some (content_of before)) (Some (content_of now)) (Writes at octets))
  writing_writes (Ok done) step =
      let content = ap (λ (s : Surface). s.content) (ap surface step.ok.2 ∙ surface_after-push before.first before.calls (call.Write at octets)) in
      (write_over (content_of before) at octets, ap Some content, write_over_writes (content_of before) at octets)
  writing_writes (Err fault) step = tt

  pub writing_opens : (result : Result T E) → IsWriting before now at octets result
      → Opens before now at (length octets) ⊎ (IsRefused before at (length octets) × Untouched before now)
  writing_opens (Ok done) step =
      inl (write_opens before now at octets (ap (λ (s : DiskState). s.first) step.ok.2) (ap (λ (s : DiskState). s.calls) step.ok.2))
  writing_opens (Err fault) step = elim step.err [
    | inl listed ↦ inl (torn_write_opens before now at (length octets) (ap (λ (s : DiskState). s.first) listed.2) (ap (λ (s : DiskState). s.calls) listed.2))
    | inr rest ↦ elim rest [
      | inl lost ↦ inl (torn_write_opens before now at (length octets) (ap (λ (s : DiskState). s.first) lost.1) (ap (λ (s : DiskState). s.calls) lost.1))
      | inr refused ↦ inr (refused.0, record { first = ap (λ (s : DiskState). s.first) refused.1; calls = ap (λ (s : DiskState). s.calls) refused.1 })
    ]
  ]

-- a write that a fuse cuts short
pub tearing_opens : (before now : DiskState) (at count : ℕ) → IsTearing before now at count → Opens before now at count ⊎ ((before.down ≡ true) × Untouched before now)
tearing_opens before now at count step = elim (cases_Bool before.down) [
  | inl is ↦ inr (is, record { first = ap (λ (s : DiskState). s.first) (step.down is); calls = ap (λ (s : DiskState). s.calls) (step.down is) })
  | inr up ↦ elim (step.up up) [
    | inl torn ↦ inl (torn_write_opens before now at count (ap (λ (s : DiskState). s.first) torn) (ap (λ (s : DiskState). s.calls) torn))
    | inr torn ↦ inl (torn_write_opens before now at count (ap (λ (s : DiskState). s.first) torn) (ap (λ (s : DiskState). s.calls) torn))
  ]
]

module _ {T E : Type 0} (before now : DiskState) where
  pub syncing_leaves_only : (result : Result T E) → IsSyncing before now result → OnOk result (Only (images_of now) (content_of before))
  syncing_leaves_only (Ok done) step = λ image left.
      let surface_is = ap surface step.ok.2 ∙ surface_after-push before.first before.calls call.Sync in
      quiet_leaves_only (content_of before) image (subst (λ (s : Surface). IsImage s image) surface_is left)
  syncing_leaves_only (Err fault) step = tt

  pub syncing_elapses : (result : Result T E) → IsSyncing before now result → ElapsesTo before now
  syncing_elapses (Ok done) step = subst (ElapsesTo before) (sym step.ok.2) (call_elapses before.first before.calls call.Sync)
  syncing_elapses (Err fault) step = elim step.err [
    | inl failed ↦ subst (ElapsesTo before) (sym failed.2) (call_elapses before.first before.calls call.FailedSync)
    | inr starved ↦ subst (ElapsesTo before) (sym starved) (nothing_elapses before.first before.calls (images_of before))
  ]

  pub syncing_leaves_now : (result : Result T E) → IsSyncing before now result → LeavesNow before now
  syncing_leaves_now (Ok done) step = subst (LeavesNow before) (sym step.ok.2) (call_leaves_now before.first before.calls call.Sync)
  syncing_leaves_now (Err fault) step = elim step.err [
    | inl failed ↦ subst (LeavesNow before) (sym failed.2) (call_leaves_now before.first before.calls call.FailedSync)
    | inr starved ↦ subst (LeavesNow before) (sym starved) (λ rose. absurd (omega (arith, rose)))
  ]

-- a sync that a fuse lets fail
module _ (before now : DiskState) where
  pub failing_elapses : IsFailingSync before now → ElapsesTo before now
  failing_elapses (inl failed) = subst (ElapsesTo before) (sym failed.1) (call_elapses before.first before.calls call.FailedSync)
  failing_elapses (inr starved) = subst (ElapsesTo before) (sym starved) (nothing_elapses before.first before.calls (images_of before))

  pub failing_leaves_now : IsFailingSync before now → LeavesNow before now
  failing_leaves_now (inl failed) = subst (LeavesNow before) (sym failed.1) (call_leaves_now before.first before.calls call.FailedSync)
  failing_leaves_now (inr starved) = subst (LeavesNow before) (sym starved) (λ rose. absurd (omega (arith, rose)))

  pub failing_surface : IsFailingSync before now → surface now ≡ surface before
  failing_surface (inl failed) = ap surface failed.1 ∙ surface_after-push before.first before.calls call.FailedSync
  failing_surface (inr starved) = ap surface starved

  pub failing_down : IsFailingSync before now → now.down ≡ before.down
  failing_down (inl failed) = ap (λ (s : DiskState). s.down) failed.1
  failing_down (inr starved) = ap (λ (s : DiskState). s.down) starved

  -- a disk that is down finds no memory
  pub failing_starves : IsFailingSync before now → before.down ≡ true → now ≡ with_starved before
  failing_starves (inl failed) down = absurd (let e : true ≡ false = sym down ∙ failed.0 in cc)
  failing_starves (inr starved) down = starved

  pub failing_at_most : IsFailingSync before now → moment_of now ≤ moment_of before + 1
  failing_at_most (inl failed) = let same = ap moment_of failed.1 in omega (arith, same, moments_in-push before.calls call.FailedSync)
  failing_at_most (inr starved) = let same = ap moment_of starved in omega (arith, same)

-- a count that rose by a part
pub cause_of_sum : {T E : Type 0} (before now other : ℕ) (result : Result T E) → HasCause before now result → HasCause (before + other) (now + other) result
cause_of_sum before now other (Ok done) cause = record { no_less = omega (arith, cause.no_less); rose = tt; same = omega (arith, cause.same) }
cause_of_sum before now other (Err fault) cause = record { no_less = omega (arith, cause.no_less); rose = λ below. let rose = cause.rose (omega (arith, below)) in omega (arith, rose); same = tt }
