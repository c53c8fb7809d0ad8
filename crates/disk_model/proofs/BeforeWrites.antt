-- What writes found, and what undoing them gives.
use Rattle.std.proofs.Common.{◌≡◌, inl, inr, ⊎_elim, ℕ, ◌+◌, ◌-◌, ◌^◌, ◌<◌, ◌≤◌, max, min, List, [], ◌∷◌, ◌++◌, length, get_or, take, drop, replicate, reverse, Option, Some, refl, sym, ◌∙◌, ap, subst, arith, fold}
use Rattle.disk_model.specs.declared.disk_call.DiskCall.TheVariants as call
use Rattle.disk_model.proofs.Names.{places, same_lists, drop-drop, ext_get_or, get_or-drop, get_or-take, length-append, length-drop, length-take, map-append, reverse-append, take_all, take_more, cases_lt, All-tail, AllLeaveOpen, Closes, IsImage, Surface, overlay, quiet_surface, surface_after, surface_after_call, with_range, write_over, IsClosed, LeaveOpen, StandsOpen, Undoes, before_writes, call_of, calls_of, found_by, synced_before, undone, DiskCall, OpenWrite}
use Rattle.disk_model.proofs.Crashes.{IsTorn, inside_or_not}
use Rattle.disk_model.proofs.Ranges.{closes_failed_sync, closes_now, closes_torn_write, closes_write, length-overlay, overlay_inside, overlay_outside, parted, stands_since}
use Rattle.disk_model.proofs.Surfaces.{surface_after-push}
use Rattle.disk_model.proofs.Writes.{get_or-write_over_outside, length-write_over}

pub length-undone : (writes : List OpenWrite) (kept octets : List ℕ) → length (undone writes kept octets) ≡ length octets
length-undone [] kept octets = refl
length-undone (write ∷ earlier) kept octets =
    let before = length kept - write.found in
    length-undone earlier (take before kept) (overlay octets write.at (drop before kept)) ∙ length-overlay octets write.at (drop before kept)

-- the latest write is undone first
pub before_writes-push : (writes : List OpenWrite) (write : OpenWrite) (kept octets : List ℕ)
    → before_writes (writes ++ write ∷ []) kept octets ≡ before_writes writes (take (length kept - write.found) kept) (overlay octets write.at (drop (length kept - write.found) kept))
before_writes-push writes write kept octets = ap (λ (l : List OpenWrite). undone l kept octets) (reverse-append writes (write ∷ []))

pub calls_of-push : (writes : List OpenWrite) (write : OpenWrite) → calls_of (writes ++ write ∷ []) ≡ calls_of writes ++ call_of write ∷ []
calls_of-push writes write = map-append call_of writes (write ∷ [])

overlay_front : (end : ℕ) (octets others : List ℕ) (at : ℕ) (found : List ℕ) → end ≤ length octets → end ≤ length others → take end octets ≡ take end others → take end (overlay octets at found) ≡ take end (overlay others at found)
overlay_front end octets others at found within within_others same =
    ext_get_or 0 _ _ (omega (arith, length-take end (overlay octets at found), length-take end (overlay others at found), length-overlay octets at found, length-overlay others at found)) (λ place below.
    let here : place < end = omega (arith, below, length-take end (overlay octets at found)) in
    let inner : place < length octets = omega (arith, here, within) in
    let inner_others : place < length others = omega (arith, here, within_others) in
    get_or-take end (overlay octets at found) place 0 here
    ∙ elim (inside_or_not at (length found) place) [
      | inl inside ↦ overlay_inside octets at found place inside.0 inside.1 inner ∙ sym (overlay_inside others at found place inside.0 inside.1 inner_others)
      | inr outside ↦
          overlay_outside octets at found place inner outside
          ∙ sym (get_or-take end octets place 0 here)
          ∙ ap (λ (l : List ℕ). get_or l place 0) same
          ∙ get_or-take end others place 0 here
          ∙ sym (overlay_outside others at found place inner_others outside)
    ]
    ∙ sym (get_or-take end (overlay others at found) place 0 here))

-- before this end the same octets are undone, whatever stands behind it
pub undone_front : (writes : List OpenWrite) (kept : List ℕ) (end : ℕ) (octets others : List ℕ) → end ≤ length octets → end ≤ length others → take end octets ≡ take end others → take end (undone writes kept octets) ≡ take end (undone writes kept others)
undone_front [] kept end octets others within within_others same = same
undone_front (write ∷ earlier) kept end octets others within within_others same =
    let before = length kept - write.found in
    let found = drop before kept in
    undone_front earlier (take before kept) end (overlay octets write.at found) (overlay others write.at found)
    (omega (arith, within, length-overlay octets write.at found)) (omega (arith, within_others, length-overlay others write.at found))
    (overlay_front end octets others write.at found within within_others same)

length-found_by : (old : List ℕ) (at : ℕ) (octets : List ℕ) → length (found_by old at octets) ≡ min (length octets) (length old - at)
length-found_by old at octets = omega (arith, length-take (length octets) (drop at old), length-drop at old)

-- in their place they undo it
put_back : (end : ℕ) (old : List ℕ) (at : ℕ) (octets : List ℕ) → end ≤ length old → take end (overlay (write_over old at octets) at (found_by old at octets)) ≡ take end old
put_back end old at octets within =
    ext_get_or 0 _ _ (omega (arith, within, length-take end (overlay new at found), length-take end old, length-overlay new at found, size)) (λ place below.
    let here : place < end = omega (arith, below, length-take end (overlay new at found)) in
    let inner : place < length new = omega (arith, here, within, size) in
    get_or-take end (overlay new at found) place 0 here
    ∙ elim (inside_or_not at (length found) place) [
      | inl inside ↦
          overlay_inside new at found place inside.0 inside.1 inner
          ∙ get_or-take (length octets) (drop at old) (place - at) 0 (omega (arith, inside.0, inside.1, length-found_by old at octets))
          ∙ get_or-drop at old (place - at) 0
          ∙ ap (λ (n : ℕ). get_or old n 0) (omega (arith, inside.0))
      | inr outside ↦
          overlay_outside new at found place inner outside
          ∙ get_or-write_over_outside old at octets place (omega (arith, here, within)) (λ inside. outside (inside.0, omega (arith, inside.0, inside.1, here, within, length-found_by old at octets)))
    ]
    ∙ sym (get_or-take end old place 0 here))
  where
    new : List ℕ
    new = write_over old at octets

    found : List ℕ
    found = found_by old at octets

    size : length new ≡ max (length old) (at + length octets)
    size = length-write_over old at octets

-- What was synced stays so by a write more, with what it found.
pub synced_before-write : (count : ℕ) (writes : List OpenWrite) (kept old : List ℕ) (write : OpenWrite) (octets : List ℕ) → count ≤ length old → write.found ≡ length (found_by old write.at octets)
    → synced_before count (writes ++ write ∷ []) (kept ++ found_by old write.at octets) (write_over old write.at octets) ≡ synced_before count writes kept old
synced_before-write count writes kept old write octets within found_is =
    ap (take count) (before_writes-push writes write (kept ++ found) new)
    ∙ ap (λ (l : List ℕ). take count (before_writes writes l (overlay new write.at (drop (length (kept ++ found) - write.found) (kept ++ found))))) parts.0
    ∙ ap (λ (l : List ℕ). take count (before_writes writes kept (overlay new write.at l))) parts.1
    ∙ undone_front (reverse writes) kept count (overlay new write.at found) old (omega (arith, within, length-overlay new write.at found, length-write_over old write.at octets)) within
    (put_back count old write.at octets within)
  where
    new : List ℕ
    new = write_over old write.at octets

    found : List ℕ
    found = found_by old write.at octets

    parts : (take (length (kept ++ found) - write.found) (kept ++ found) ≡ kept) × (drop (length (kept ++ found) - write.found) (kept ++ found) ≡ found)
    parts = parted kept found write.found found_is

overlay_nothing : (old : List ℕ) (at : ℕ) → overlay old at [] ≡ old
overlay_nothing old at = ext_get_or 0 _ _ (length-overlay old at []) (λ place below.
    overlay_outside old at [] place (omega (arith, below, length-overlay old at [])) (λ inside. let none : length {A = ℕ} [] ≡ 0 = refl in omega (arith, inside.0, inside.1, none)))

-- and by a write that failed
pub synced_before-torn : (count : ℕ) (writes : List OpenWrite) (kept octets : List ℕ) (write : OpenWrite) → write.found ≡ 0 → synced_before count (writes ++ write ∷ []) kept octets ≡ synced_before count writes kept octets
synced_before-torn count writes kept octets write none =
    ap (take count) (before_writes-push writes write kept octets)
    ∙ ap (λ (n : ℕ). take count (before_writes writes (take n kept) (overlay octets write.at (drop n kept)))) here
    ∙ ap (λ (l : List ℕ). take count (before_writes writes l (overlay octets write.at (drop (length kept) kept)))) (take_all (length kept) kept (omega arith))
    ∙ ap (λ (l : List ℕ). take count (before_writes writes kept (overlay octets write.at l))) nothing
    ∙ ap (λ (l : List ℕ). take count (before_writes writes kept l)) (overlay_nothing octets write.at)
  where
    here : length kept - write.found ≡ length kept
    here = omega (arith, none)

    nothing : drop (length kept) kept ≡ []
    nothing = search places

-- so many octets are those that were synced
pub length-synced_before : (count : ℕ) (writes : List OpenWrite) (kept octets : List ℕ) → count ≤ length octets → length (synced_before count writes kept octets) ≡ count
length-synced_before count writes kept octets within =
    omega (arith, within, length-take count (before_writes writes kept octets), length-undone (reverse writes) kept octets)

most_after : (surface other : Surface) (calls : List DiskCall) → surface.most ≡ other.most → AllLeaveOpen calls → (fold surface_after_call surface calls).most ≡ (fold surface_after_call other calls).most
most_after surface other [] same open_calls = same
most_after surface other (done ∷ calls) same open_calls =
    most_after (surface_after_call surface done) (surface_after_call other done) calls (one done (open_calls 0 done (omega arith))) (All-tail (λ (d : DiskCall). Closes d → ⊥) done calls open_calls)
  where
    one : (d : DiskCall) → (Closes d → ⊥) → (surface_after_call surface d).most ≡ (surface_after_call other d).most
    one (call.Write at octets) leaves = ap (λ (n : ℕ). max n (at + length octets)) same
    one (call.TornWrite at count) leaves = ap (λ (n : ℕ). max n (at + count)) same
    one call.Sync leaves = absurd (leaves tt)
    one call.FailedSync leaves = same
    one (call.PowerCut inside behind) leaves = absurd (leaves tt)

-- how long a disk was at most depends on how many octets were synced alone
pub most_same : (synced others : List ℕ) (calls : List DiskCall) → length synced ≡ length others → AllLeaveOpen calls → (surface_after synced calls).most ≡ (surface_after others calls).most
most_same synced others calls same = most_after (quiet_surface synced) (quiet_surface others) calls same

-- octets put in the place of others, as far as there are octets
pub exchanged : (old : List ℕ) (at : ℕ) (others new : List ℕ) (start count part : ℕ) → start ≡ min at (length old) → count ≡ min (length others) (length old - start) → part ≡ count → new ≡ take count others → take start old ++ (new ++ drop part (drop start old)) ≡ overlay old at others
exchanged old at others new start count part start_is count_is part_is new_is =
    ap (λ (n : ℕ). take start old ++ (new ++ drop n (drop start old))) part_is
    ∙ ap (λ (l : List ℕ). take start old ++ (new ++ l)) (drop-drop count start old)
    ∙ ext_get_or 0 _ _ (omega (arith, all, size, new_size, start_is, count_is, length-overlay old at others)) (λ place below.
    let inner : place < length old = omega (arith, below, all, new_size, start_is, count_is) in
    elim (inside_or_not at (length others) place) [
      | inl inside ↦
          let here : get_or (take start old ++ (new ++ drop (start + count) old)) place 0 ≡ get_or others (place - at) 0 =
          let e : start ≡ at = omega (arith, start_is, inner, inside.0) in
          let f : place - at < count = omega (arith, count_is, e, inner, inside.0, inside.1) in
          let g : get_or new (place - at) 0 ≡ get_or others (place - at) 0 = ap (λ (l : List ℕ). get_or l (place - at) 0) new_is ∙ get_or-take count others (place - at) 0 f in
          grind (arith, places, e, f, g, new_size, size, inner, inside.0) in
          here ∙ sym (overlay_inside old at others place inside.0 inside.1 inner)
      | inr outside ↦ elim (cases_lt place start) [
        | inl front ↦
            let here : get_or (take start old ++ (new ++ drop (start + count) old)) place 0 ≡ get_or old place 0 = grind (arith, places, front, size) in
            here ∙ sym (overlay_outside old at others place inner outside)
        | inr rest ↦
            let past : start + count ≤ place = elim (cases_lt place (start + count)) [
              | inl below ↦ absurd (outside (omega (arith, start_is, rest, inner), omega (arith, start_is, count_is, rest, below, inner)))
              | inr past ↦ past
            ] in
            let here : get_or (take start old ++ (new ++ drop (start + count) old)) place 0 ≡ get_or old place 0 = grind (arith, places, past, size, new_size) in
            here ∙ sym (overlay_outside old at others place inner outside)
      ]
    ])
  where
    size : length (take start old) ≡ start
    size = omega (arith, length-take start old, start_is)

    new_size : length new ≡ count
    new_size = omega (arith, ap length new_is, length-take count others, count_is)

    all : length (take start old ++ (new ++ drop (start + count) old)) ≡ start + (length new + (length old - (start + count)))
    all = omega (arith, length-append (take start old) (new ++ drop (start + count) old), length-append new (drop (start + count) old), length-drop (start + count) old, size)

-- the latest of some writes is undone, by the octets at the end of those that are kept
pub undo_next : (writes : List OpenWrite) (i : ℕ) (none : OpenWrite) (kept now octets : List ℕ) (start end : ℕ) → i < length writes → end ≤ length kept → start ≡ end - (get_or writes i none).found → take start now ≡ take start kept
    → before_writes (take i writes) (take start now) (overlay octets (get_or writes i none).at (take (end - start) (drop start kept))) ≡ before_writes (take (i + 1) writes) (take end kept) octets
undo_next writes i none kept now octets start end below within start_is same =
    ap (λ (l : List ℕ). before_writes (take i writes) l (overlay octets write.at (take (end - start) (drop start kept)))) (same ∙ sym front)
    ∙ ap (λ (l : List ℕ). before_writes (take i writes) (take start (take end kept)) (overlay octets write.at l)) (sym back)
    ∙ sym
    (ap (λ (l : List OpenWrite). before_writes l (take end kept) octets) (take_more writes i none below)
    ∙ before_writes-push (take i writes) write (take end kept) octets
    ∙ ap (λ (n : ℕ). before_writes (take i writes) (take n (take end kept)) (overlay octets write.at (drop n (take end kept)))) here)
  where
    write : OpenWrite
    write = get_or writes i none

    here : length (take end kept) - write.found ≡ start
    here = omega (arith, length-take end kept, within, start_is)

    front : take start (take end kept) ≡ take start kept
    front = same_lists _ _ (omega (arith, length-take start (take end kept), length-take end kept, length-take start kept, within, start_is)) (λ k d h. grind (arith, places, within, start_is))

    back : drop start (take end kept) ≡ take (end - start) (drop start kept)
    back = same_lists _ _ (omega (arith, length-drop start (take end kept), length-take end kept, length-take (end - start) (drop start kept), length-drop start kept, within, start_is)) (λ k d h. grind (arith, places, within, start_is))

-- what was synced, and what the writes leave open since then
pub synced_so : (first : List ℕ) (calls : List DiskCall) (count : ℕ) (writes : List OpenWrite) (kept octets : List ℕ) → Undoes first calls count writes kept octets
    → (count ≤ length octets) × IsClosed first calls (synced_before count writes kept octets) (calls_of writes)
synced_so first calls count writes kept octets undoes =
    let here = undoes (synced_before count writes kept octets) refl in (
      omega (arith, here.0, length-take count (before_writes writes kept octets), length-undone (reverse writes) kept octets),
      here.1,
    )

undoes_so : (first : List ℕ) (calls : List DiskCall) (count : ℕ) (writes : List OpenWrite) (kept octets : List ℕ) → count ≤ length octets → IsClosed first calls (synced_before count writes kept octets) (calls_of writes) → Undoes first calls count writes kept octets
undoes_so first calls count writes kept octets within closes = λ synced is.
    subst (λ (l : List ℕ). (length l ≡ count) × IsClosed first calls l (calls_of writes)) (sym is) (length-synced_before count writes kept octets within, closes)

-- a write that failed
pub undoes_torn : (first : List ℕ) (calls now : List DiskCall) (count : ℕ) (writes writes_now : List OpenWrite) (kept octets : List ℕ) (write : OpenWrite)
    → now ≡ calls ++ call.TornWrite write.at write.count ∷ [] → writes_now ≡ writes ++ write ∷ [] → write.found ≡ 0
    → Undoes first calls count writes kept octets → Undoes first now count writes_now kept octets
undoes_torn first calls now count writes writes_now kept octets write pushed written none was =
    let here = synced_so first calls count writes kept octets was in
    undoes_so first now count writes_now kept octets here.0
    (subst (λ (l : List OpenWrite). IsClosed first now (synced_before count l kept octets) (calls_of l)) (sym written)
    (subst (λ (l : List ℕ). IsClosed first now l (calls_of (writes ++ write ∷ []))) (sym (synced_before-torn count writes kept octets write none))
    (closes_torn_write first calls now (synced_before count writes kept octets) (calls_of writes) (calls_of (writes ++ write ∷ [])) write.at write.count pushed (calls_of-push writes write) here.1)))

-- a write that passed, with what it found
pub undoes_write : (first : List ℕ) (calls now : List DiskCall) (count : ℕ) (writes writes_now : List OpenWrite) (kept old : List ℕ) (write : OpenWrite) (octets : List ℕ)
    → now ≡ calls ++ call.Write write.at octets ∷ [] → write.count ≡ length octets → writes_now ≡ writes ++ write ∷ [] → write.found ≡ length (found_by old write.at octets)
    → Undoes first calls count writes kept old → Undoes first now count writes_now (kept ++ found_by old write.at octets) (write_over old write.at octets)
undoes_write first calls now count writes writes_now kept old write octets pushed size written found_is was =
    let here = synced_so first calls count writes kept old was in
    let new = write_over old write.at octets in
    let kept_now = kept ++ found_by old write.at octets in
    undoes_so first now count writes_now kept_now new (omega (arith, here.0, length-write_over old write.at octets))
    (subst (λ (l : List OpenWrite). IsClosed first now (synced_before count l kept_now new) (calls_of l)) (sym written)
    (subst (λ (l : List ℕ). IsClosed first now l (calls_of (writes ++ write ∷ []))) (sym (synced_before-write count writes kept old write octets here.0 found_is))
    (closes_write first calls now (synced_before count writes kept old) (calls_of writes) (calls_of (writes ++ write ∷ [])) write.at octets pushed
    (calls_of-push writes write ∙ ap (λ (n : ℕ). calls_of writes ++ call.TornWrite write.at n ∷ []) size) here.1)))

-- a sync that failed
pub undoes_failed_sync : (first : List ℕ) (calls now : List DiskCall) (count : ℕ) (writes : List OpenWrite) (kept octets : List ℕ) → now ≡ calls ++ call.FailedSync ∷ [] → Undoes first calls count writes kept octets → Undoes first now count writes kept octets
undoes_failed_sync first calls now count writes kept octets pushed was =
    let here = synced_so first calls count writes kept octets was in
    undoes_so first now count writes kept octets here.0 (closes_failed_sync first calls now (synced_before count writes kept octets) (calls_of writes) pushed here.1)

-- nothing is open
pub undoes_now : (first : List ℕ) (calls : List DiskCall) (count : ℕ) (writes : List OpenWrite) (kept octets : List ℕ) → writes ≡ [] → count ≡ length octets → surface_after first calls ≡ quiet_surface octets → Undoes first calls count writes kept octets
undoes_now first calls count writes kept octets none count_is is =
    undoes_so first calls count writes kept octets (omega (arith, count_is))
    (subst (λ (l : List OpenWrite). IsClosed first calls (synced_before count l kept octets) (calls_of l)) (sym none)
    (closes_now first calls (take count octets) [] refl (is ∙ ap quiet_surface (sym (take_all count octets (omega (arith, count_is)))))))

-- the record of a disk stands so
pub stands_open : (first : List ℕ) (calls : List DiskCall) (count : ℕ) (writes : List OpenWrite) (kept octets : List ℕ) → Undoes first calls count writes kept octets
    → IsImage (surface_after first calls) octets → (surface_after first calls).most ≤ 2 ^ 63 → StandsOpen count writes kept octets
stands_open first calls count writes kept octets was image most =
    let here = synced_so first calls count writes kept octets was in
    record { within = here.0; since = stands_since first calls (synced_before count writes kept octets) (calls_of writes) octets here.1 image most }

-- how long it was at most
pub greatest_same : (count : ℕ) (writes : List OpenWrite) (kept octets front : List ℕ) → front ≡ octets → StandsOpen count writes kept octets
    → (surface_after (take count front) (calls_of writes)).most ≡ (surface_after (synced_before count writes kept octets) (calls_of writes)).most
greatest_same count writes kept octets front is stands =
    most_same (take count front) (synced_before count writes kept octets) (calls_of writes)
    (let size = ap length is in omega (arith, size, stands.within, length-take count front, length-synced_before count writes kept octets stands.within)) stands.since.open_calls

pub leaves_open : (count : ℕ) (writes : List OpenWrite) (kept octets front : List ℕ) → front ≡ octets → StandsOpen count writes kept octets → LeaveOpen (take count front) (calls_of writes)
leaves_open count writes kept octets front is stands = record {
  open_calls = stands.since.open_calls;
  most = let e = greatest_same count writes kept octets front is stands in omega (arith, e, stands.since.most);
}

-- one write more of those since the last sync
pub write_next : (synced : List ℕ) (writes : List OpenWrite) (i : ℕ) (none : OpenWrite) → i < length writes
    → surface_after synced (calls_of (take (i + 1) writes)) ≡ with_range (surface_after synced (calls_of (take i writes))) (get_or writes i none).at (get_or writes i none).count
write_next synced writes i none below =
    ap (λ (l : List OpenWrite). surface_after synced (calls_of l)) (take_more writes i none below)
    ∙ ap (surface_after synced) (calls_of-push (take i writes) (get_or writes i none))
    ∙ surface_after-push synced (calls_of (take i writes)) (call_of (get_or writes i none))

-- what was synced, with octets behind it
pub filled_behind : (synced : List ℕ) (picked : Option ℕ) (size : ℕ) (octet : ℕ) (image : List ℕ) → image ≡ synced ++ replicate size octet → ((wanted : ℕ) → picked ≡ Some wanted → octet ≡ wanted) → IsTorn (quiet_surface synced) picked image
filled_behind synced picked size octet image is picks = record {
  kept = λ place below shut. ap (λ (l : List ℕ). get_or l place 0) is ∙ (grind (arith, places, below));
  filled = λ wanted place picked_is below reached.
      let past : length synced ≤ place = ⊎_elim (λ past. past) (λ none. absurd none) reached in
      let all = ap length is in
      let here : get_or (synced ++ replicate size octet) place 0 ≡ octet = grind (arith, places, past, below, all) in
      ap (λ (l : List ℕ). get_or l place 0) is ∙ here ∙ picks wanted picked_is;
}
