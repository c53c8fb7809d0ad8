-- What stands in the ranges that are open.
use Rattle.std.proofs.Common.{◌≡◌, ◌⊎◌, inl, inr, ⊎_elim, ℕ, ◌+◌, ◌-◌, ◌^◌, ◌<◌, ◌≤◌, min, List, [], ◌∷◌, ◌++◌, length, get_or, take, drop, refl, sym, ◌∙◌, ap, subst, arith}
use Rattle.std.proofs.Math.Seq.{drop-append_seam}
use Rattle.disk_model.specs.declared.disk_call.DiskCall.TheVariants as call
use Rattle.disk_model.proofs.Names.{places, ext_get_or, get_or-drop, get_or-take, length-append, length-drop, length-take, take-append-le, take-append-drop, take_all, le_refl, All-append, IsOctets, IsCrash, IsClosed, StandsSince, inside_of, standing, AllLeaveOpen, Closes, IsImage, IsInRange, IsOpen, Surface, left_by, overlay, quiet_surface, surface_after, surface_after_call, with_ranges, write_over, DiskCall}
use Rattle.disk_model.proofs.Crashes.{inside_or_not}
use Rattle.disk_model.proofs.Surfaces.{images_of_this_content, surface_after-push}
use Rattle.disk_model.proofs.Writes.{get_or-write_over_outside, length-write_over}

pub open_or_not : (ranges : List (ℕ × ℕ)) (place : ℕ) → IsOpen ranges place ⊎ (IsOpen ranges place → ⊥)
open_or_not [] place = inr (λ none. none)
open_or_not (write ∷ earlier) place = elim (inside_or_not write.0 write.1 place) [
  | inl inside ↦ inl (inl inside)
  | inr outside ↦ elim (open_or_not earlier place) [ inl before ↦ inl (inr before) | inr shut ↦ inr (⊎_elim outside shut) ]
]

pub length-overlay : (old : List ℕ) (at : ℕ) (octets : List ℕ) → length (overlay old at octets) ≡ length old
length-overlay old at octets = omega (arith, length-take (length old) (write_over old at octets), length-write_over old at octets)

length-with_ranges : (ranges : List (ℕ × ℕ)) (octets old : List ℕ) → length (with_ranges ranges octets old) ≡ length old
length-with_ranges [] octets old = refl
length-with_ranges (write ∷ earlier) octets old =
    let before = length octets - min write.1 (length old - write.0) in
    length-overlay (with_ranges earlier (take before octets) old) write.0 (drop before octets)
    ∙ length-with_ranges earlier (take before octets) old

pub overlay_inside : (old : List ℕ) (at : ℕ) (octets : List ℕ) (place : ℕ) → at ≤ place → place < at + length octets → place < length old → get_or (overlay old at octets) place 0 ≡ get_or octets (place - at) 0
overlay_inside old at octets place from to within = grind (arith, places)

pub overlay_outside : (old : List ℕ) (at : ℕ) (octets : List ℕ) (place : ℕ) → place < length old → ((at ≤ place) × (place < at + length octets) → ⊥) → get_or (overlay old at octets) place 0 ≡ get_or old place 0
overlay_outside old at octets place within outside =
    get_or-take (length old) (write_over old at octets) place 0 within ∙ get_or-write_over_outside old at octets place within outside

-- the octets of the latest range stand behind the others
pub parted : (front part : List ℕ) (count : ℕ) → count ≡ length part → (take (length (front ++ part) - count) (front ++ part) ≡ front) × (drop (length (front ++ part) - count) (front ++ part) ≡ part)
parted front part count is = (
  ap (λ (n : ℕ). take n (front ++ part)) here ∙ take-append-le (length front) front part (le_refl (length front)) ∙ take_all (length front) front (le_refl (length front)),
  ap (λ (n : ℕ). drop n (front ++ part)) here ∙ drop-append_seam front part,
)
  where
    here : length (front ++ part) - count ≡ length front
    here = omega (arith, length-append front part, is)

-- one range more
with_range_is : (write : ℕ × ℕ) (earlier : List (ℕ × ℕ)) (front old : List ℕ) → length front ≡ length old → (place : ℕ) → place < length old
    → (IsOpen earlier place ⊎ (get_or old place 0 ≡ get_or front place 0) → get_or (with_ranges earlier (inside_of earlier front) old) place 0 ≡ get_or front place 0)
    → IsOpen (write ∷ earlier) place ⊎ (get_or old place 0 ≡ get_or front place 0) → get_or (with_ranges (write ∷ earlier) (inside_of (write ∷ earlier) front) old) place 0 ≡ get_or front place 0
with_range_is write earlier front old size place within so_far reached = whole ∙ here
  where
    part : List ℕ
    part = take write.1 (drop write.0 front)

    before : List ℕ
    before = with_ranges earlier (inside_of earlier front) old

    part_size : min write.1 (length old - write.0) ≡ length part
    part_size = omega (arith, length-take write.1 (drop write.0 front), length-drop write.0 front, size)

    cut : ℕ
    cut = length (inside_of earlier front ++ part) - min write.1 (length old - write.0)

    whole : get_or (with_ranges (write ∷ earlier) (inside_of (write ∷ earlier) front) old) place 0 ≡ get_or (overlay before write.0 part) place 0
    whole =
        let two = parted (inside_of earlier front) part (min write.1 (length old - write.0)) part_size in
        ap (λ (l : List ℕ). get_or (overlay (with_ranges earlier l old) write.0 (drop cut (inside_of earlier front ++ part))) place 0) two.0
        ∙ ap (λ (l : List ℕ). get_or (overlay before write.0 l) place 0) two.1

    inner : place < length before
    inner = omega (arith, within, length-with_ranges earlier (inside_of earlier front) old)

    here : get_or (overlay before write.0 part) place 0 ≡ get_or front place 0
    here = elim (inside_or_not write.0 (length part) place) [
      | inl inside ↦
          overlay_inside before write.0 part place inside.0 inside.1 inner
          ∙ get_or-take write.1 (drop write.0 front) (place - write.0) 0 (omega (arith, inside.0, inside.1, part_size))
          ∙ get_or-drop write.0 front (place - write.0) 0
          ∙ ap (λ (n : ℕ). get_or front n 0) (omega (arith, inside.0))
      | inr outside ↦
          overlay_outside before write.0 part place inner outside
          ∙ so_far (⊎_elim (⊎_elim (λ (inside : IsInRange write.0 write.1 place). absurd (outside (inside.0, omega (arith, inside.0, inside.1, part_size, within)))) (λ open_before. inl open_before)) (λ same. inr same) reached)
    ]

with_ranges_is : (ranges : List (ℕ × ℕ)) (front old : List ℕ) → length front ≡ length old → (place : ℕ) → place < length old → IsOpen ranges place ⊎ (get_or old place 0 ≡ get_or front place 0) → get_or (with_ranges ranges (inside_of ranges front) old) place 0 ≡ get_or front place 0
with_ranges_is [] front old size place within reached = ⊎_elim (λ none. absurd none) (λ same. same) reached
with_ranges_is (write ∷ earlier) front old size place within reached =
    with_range_is write earlier front old size place within (λ before. with_ranges_is earlier front old size place within before) reached

-- what is recorded of an image gives it back
pub left_is : (surface : Surface) (image : List ℕ) → IsImage surface image → left_by surface (inside_of surface.writes (take (length surface.synced) image)) (drop (length surface.synced) image) ≡ image
left_is surface image is =
    ap (λ (l : List ℕ). l ++ drop (length surface.synced) image) front_is ∙ take-append-drop (length surface.synced) image
  where
    front : List ℕ
    front = take (length surface.synced) image

    size : length front ≡ length surface.synced
    size = omega (arith, length-take (length surface.synced) image, is.no_shorter)

    front_is : with_ranges surface.writes (inside_of surface.writes front) surface.synced ≡ front
    front_is = ext_get_or 0 _ _ (length-with_ranges surface.writes (inside_of surface.writes front) surface.synced ∙ sym size) (λ place below.
        let within : place < length surface.synced = omega (arith, below, length-with_ranges surface.writes (inside_of surface.writes front) surface.synced) in
        with_ranges_is surface.writes front surface.synced size place within
        (elim (open_or_not surface.writes place) [
          | inl reached ↦ inl reached
          | inr shut ↦ inr (sym (get_or-take (length surface.synced) image place 0 within ∙ is.kept place within shut))
        ]))

-- a write that leaves its range open, kept as one that did no more
pub alone_open : (done : DiskCall) → (Closes done → ⊥) → AllLeaveOpen (done ∷ [])
alone_open done leaves = λ k d below. let e : get_or (done ∷ []) k d ≡ done = grind (arith, places) in subst (λ (x : DiskCall). Closes x → ⊥) (sym e) leaves

-- This one makes of what stands on a disk what that one makes, but for what a read gives.
abbrev SameRange : DiskCall → DiskCall → Type 0
SameRange kept done =
    (surface : Surface) (content : List ℕ) →
    record (surface_after_call surface kept) { content = (surface_after_call (record surface { content = content }) done).content }
    ≡ surface_after_call (record surface { content = content }) done

-- one call more, of which a write is kept
closes_more : (first : List ℕ) (calls : List DiskCall) (synced : List ℕ) (since : List DiskCall) (done kept : DiskCall) → (Closes kept → ⊥) → SameRange kept done → IsClosed first calls synced since → IsClosed first (calls ++ done ∷ []) synced (since ++ kept ∷ [])
closes_more first calls synced since done kept leaves same is = record {
  stands =
      ap (λ (s : Surface). record s { content = (surface_after first (calls ++ done ∷ [])).content }) (surface_after-push synced since kept)
      ∙ ap (λ (s : Surface). record (surface_after_call (surface_after synced since) kept) { content = s.content }) (surface_after-push first calls done)
      ∙ subst (λ (s : Surface). record (surface_after_call (surface_after synced since) kept) { content = (surface_after_call s done).content } ≡ surface_after_call s done) is.stands (same (surface_after synced since) (surface_after first calls).content)
      ∙ sym (surface_after-push first calls done);
  open_calls = All-append (λ (d : DiskCall). Closes d → ⊥) since (kept ∷ []) is.open_calls (alone_open kept leaves);
}

-- the record of a write, whether it passed or failed
pub closes_write : (first : List ℕ) (calls now : List DiskCall) (synced : List ℕ) (since since_now : List DiskCall) (at : ℕ) (octets : List ℕ)
    → now ≡ calls ++ call.Write at octets ∷ [] → since_now ≡ since ++ call.TornWrite at (length octets) ∷ [] → IsClosed first calls synced since → IsClosed first now synced since_now
closes_write first calls now synced since since_now at octets pushed kept is =
    subst (λ (l : List DiskCall). IsClosed first l synced since_now) (sym pushed)
    (subst (IsClosed first (calls ++ call.Write at octets ∷ []) synced) (sym kept)
    (closes_more first calls synced since (call.Write at octets) (call.TornWrite at (length octets)) (λ none. none) (λ surface content. refl) is))

pub closes_torn_write : (first : List ℕ) (calls now : List DiskCall) (synced : List ℕ) (since since_now : List DiskCall) (at count : ℕ)
    → now ≡ calls ++ call.TornWrite at count ∷ [] → since_now ≡ since ++ call.TornWrite at count ∷ [] → IsClosed first calls synced since → IsClosed first now synced since_now
closes_torn_write first calls now synced since since_now at count pushed kept is =
    subst (λ (l : List DiskCall). IsClosed first l synced since_now) (sym pushed)
    (subst (IsClosed first (calls ++ call.TornWrite at count ∷ []) synced) (sym kept)
    (closes_more first calls synced since (call.TornWrite at count) (call.TornWrite at count) (λ none. none) (λ surface content. refl) is))

-- a sync that failed changes nothing
pub closes_failed_sync : (first : List ℕ) (calls now : List DiskCall) (synced : List ℕ) (since : List DiskCall) → now ≡ calls ++ call.FailedSync ∷ [] → IsClosed first calls synced since → IsClosed first now synced since
closes_failed_sync first calls now synced since pushed is = record {
  stands = subst (λ (s : Surface). record (surface_after synced since) { content = s.content } ≡ s) (sym (ap (surface_after first) pushed ∙ surface_after-push first calls call.FailedSync)) is.stands;
  open_calls = is.open_calls;
}

-- a call after which nothing is open
pub closes_now : (first : List ℕ) (calls : List DiskCall) (synced : List ℕ) (since : List DiskCall) → since ≡ [] → surface_after first calls ≡ quiet_surface synced → IsClosed first calls synced since
closes_now first calls synced since none is = subst (IsClosed first calls synced) (sym none) (record {
  stands = ap (λ (s : Surface). record (quiet_surface synced) { content = s.content }) is ∙ sym is;
  open_calls = λ k d below. absurd (omega (arith, below));
})

pub quiet_image : (octets : List ℕ) → IsOctets octets → IsImage (quiet_surface octets) octets
quiet_image octets small = record { octets = small; no_shorter = omega arith; no_longer = omega arith; kept = λ place below shut. refl }

-- a crash leaves these octets, and they are what is left where those in the open ranges and those behind are recorded
pub record CutLeft (first : List ℕ) (calls : List DiskCall) (pick : ℕ) (left : List ℕ) : Type 0 where
  pub crash : IsCrash (surface_after first calls) pick left
  pub left_is :
      left_by (surface_after first calls) (inside_of (surface_after first calls).writes (take (length (surface_after first calls).synced) left)) (drop (length (surface_after first calls).synced) left)
      ≡ left

-- what stands after a power cut
pub cut_surface : (first : List ℕ) (calls now : List DiskCall) (inside behind : List ℕ) → now ≡ calls ++ call.PowerCut inside behind ∷ [] → surface_after first now ≡ quiet_surface (left_by (surface_after first calls) inside behind)
cut_surface first calls now inside behind pushed = ap (surface_after first) pushed ∙ surface_after-push first calls (call.PowerCut inside behind)

-- what is left of a disk is what its record says
pub cut_left : (first : List ℕ) (calls : List DiskCall) (synced : List ℕ) (since : List DiskCall) (present : List ℕ) (pick : ℕ) (left : List ℕ) → IsClosed first calls synced since → present ≡ (surface_after first calls).content
    → IsCrash (standing synced since present) pick left → CutLeft first calls pick left
cut_left first calls synced since present pick left closes content crash = record {
  crash = here;
  left_is = left_is (surface_after first calls) left here.left;
}
  where
    here : IsCrash (surface_after first calls) pick left
    here = subst (λ (s : Surface). IsCrash s pick left) (ap (standing synced since) content ∙ closes.stands) crash

-- the record of a disk
pub stands_since : (first : List ℕ) (calls : List DiskCall) (synced : List ℕ) (since : List DiskCall) (present : List ℕ) → IsClosed first calls synced since
    → IsImage (surface_after first calls) present → (surface_after first calls).most ≤ 2 ^ 63 → StandsSince synced since present
stands_since first calls synced since present closes image most = record {
  open_calls = closes.open_calls;
  most = subst (λ (s : Surface). s.most ≤ 2 ^ 63) (sym closes.stands) most;
  image = images_of_this_content (surface_after synced since) (surface_after first calls).content present (subst (λ (s : Surface). IsImage s present) (sym closes.stands) image);
}
