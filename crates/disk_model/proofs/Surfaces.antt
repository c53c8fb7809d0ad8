-- How what a crash may leave changes with the calls of a disk.
use Rattle.std.proofs.Common.{◌≡◌, inl, inr, ⊎_elim, ℕ, ◌+◌, ◌<◌, ◌≤◌, min, List, [], ◌∷◌, ◌++◌, length, get_or, take, sym, ◌∙◌, arith}
use Rattle.disk_model.proofs.Names.{cases_lt, ext_get_or, get_or-take, length-take, All-take, fold-append, DiskCall, IsOctets, Only, Torn, IsImage, IsOpen, Surface, with_range, surface_after, surface_after_call, quiet_surface, write_over}
use Rattle.disk_model.proofs.Writes.{length-write_over, get_or-write_over_outside, IsOctets-write_over, restored, length-restored, get_or-restored_inside, get_or-restored_outside, IsOctets-restored, torn_by_places, torn_outside}

pub surface_after-push : (first : List ℕ) (calls : List DiskCall) (call : DiskCall) → surface_after first (calls ++ call ∷ []) ≡ surface_after_call (surface_after first calls) call
surface_after-push first calls call = fold-append surface_after_call (quiet_surface first) calls (call ∷ [])

-- a quiet disk leaves what it has, and nothing else
pub quiet_leaves_only : (octets : List ℕ) → Only (IsImage (quiet_surface octets)) octets
quiet_leaves_only octets image is =
    ext_get_or 0 image octets (omega (arith, is.no_shorter, is.no_longer))
    (λ place below. is.kept place (omega (arith, is.no_shorter, is.no_longer)) (λ none. none))

-- what a read gives makes no difference to what a crash may leave
pub images_of_other_content : (surface : Surface) (content image : List ℕ) → IsImage surface image → IsImage (record surface { content = content }) image
images_of_other_content surface content image is = record { octets = is.octets; no_shorter = is.no_shorter; no_longer = is.no_longer; kept = is.kept }

pub images_of_this_content : (surface : Surface) (content image : List ℕ) → IsImage (record surface { content = content }) image → IsImage surface image
images_of_this_content surface content image is = record { octets = is.octets; no_shorter = is.no_shorter; no_longer = is.no_longer; kept = is.kept }

-- what might be left before a write may be left after it
pub with_range_keeps : (surface : Surface) (at count : ℕ) (image : List ℕ) → IsImage surface image → IsImage (with_range surface at count) image
with_range_keeps surface at count image is = record {
  octets = is.octets;
  no_shorter = is.no_shorter;
  no_longer = omega (arith, is.no_longer);
  kept = λ place below shut. is.kept place below (λ inside. shut (inr inside));
}

-- a write that is done leaves its octets, whatever might be left before
pub written_leaves : (surface : Surface) (at : ℕ) (octets image : List ℕ) → IsOctets octets → IsImage surface image → IsImage (with_range surface at (length octets)) (write_over image at octets)
written_leaves surface at octets image bytes is = record {
  octets = IsOctets-write_over image at octets is.octets bytes;
  no_shorter = omega (arith, is.no_shorter, length-write_over image at octets);
  no_longer = omega (arith, is.no_longer, length-write_over image at octets);
  kept = λ place below shut.
      get_or-write_over_outside image at octets place (omega (arith, is.no_shorter)) (λ inside. shut (inl inside))
      ∙ is.kept place below (λ inside. shut (inr inside));
}

-- an image is torn from one in which nothing of the range was written
pub torn_from : (surface : Surface) (at count : ℕ) (other image : List ℕ) → IsImage surface other → IsImage (with_range surface at count) image → (old : List ℕ) × IsImage surface old × Torn at count old image
torn_from surface at count other image is_other is = (restored at count other front, old_is, torn)
  where
    front : List ℕ
    front = take surface.most image

    front_size : length front ≡ min surface.most (length image)
    front_size = length-take surface.most image

    size : length (restored at count other front) ≡ length front
    size = length-restored at count other front

    kept : (place : ℕ) → place < length surface.synced → (IsOpen surface.writes place → ⊥) → get_or (restored at count other front) place 0 ≡ get_or surface.synced place 0
    kept place below shut =
        let within : place < length front = omega (arith, front_size, is_other.no_shorter, is_other.no_longer, is.no_shorter) in
        let within_other : place < length other = omega (arith, is_other.no_shorter) in
        let front_is : get_or front place 0 ≡ get_or image place 0 = get_or-take surface.most image place 0 (omega (arith, front_size)) in
        elim (cases_lt place at) [
          | inl before ↦
              let outside : (at ≤ place) × (place < at + count) → ⊥ = λ inside. omega (arith, inside.0) in
              get_or-restored_outside at count other front place within outside ∙ front_is ∙ is.kept place below (⊎_elim outside shut)
          | inr rest ↦ elim (cases_lt place (at + count)) [
            | inl inside ↦ get_or-restored_inside at count other front place rest inside within within_other ∙ is_other.kept place below shut
            | inr back ↦
                let outside : (at ≤ place) × (place < at + count) → ⊥ = λ inside. omega (arith, inside.1) in
                get_or-restored_outside at count other front place within outside ∙ front_is ∙ is.kept place below (⊎_elim outside shut)
          ]
        ]

    old_is : IsImage surface (restored at count other front)
    old_is = record {
      octets = IsOctets-restored at count other front is_other.octets (All-take (λ (n : ℕ). n < 256) surface.most image is.octets);
      no_shorter = omega (arith, size, front_size, is_other.no_shorter, is_other.no_longer, is.no_shorter);
      no_longer = omega (arith, size, front_size);
      kept = kept;
    }

    torn : Torn at count (restored at count other front) image
    torn =
        torn_by_places at count (restored at count other front) image (omega (arith, size, front_size)) (omega (arith, size, front_size, is.no_longer))
        (λ place below outside. sym (get_or-restored_outside at count other front place (omega (arith, size)) outside ∙ get_or-take surface.most image place 0 (omega (arith, size, front_size))))

-- and each that is torn from one may be left
pub torn_leaves : (surface : Surface) (at count : ℕ) (old image : List ℕ) → IsImage surface old → IsOctets image → Torn at count old image → IsImage (with_range surface at count) image
torn_leaves surface at count old image is small torn = record {
  octets = small;
  no_shorter = omega (arith, is.no_shorter, torn.no_shorter);
  no_longer = omega (arith, is.no_longer, torn.no_longer);
  kept = λ place below shut.
      torn_outside at count old image torn place (omega (arith, is.no_shorter)) (λ inside. shut (inl inside))
      ∙ is.kept place below (λ inside. shut (inr inside));
}
