-- Octets finish some frames for a station.
use Rattle.std.proofs.Common.{◌≡◌, ℕ, ◌<◌, List, [], ◌∷◌, ◌++◌, Bool, true, false, ◌&&◌, refl, sym, ◌∙◌, ap, ap₂, subst, inl, inr, true≢false}
use Rattle.std.specs.Prelude.{◌==◌, if◌then◌else◌}
use Rattle.std.specs.Bool.{Decides}
use Rattle.std.proofs.lemmas.Bool.Decides.{Decides-eqb}
use Rattle.std.proofs.lemmas.Slice.Eq.{bytes_eq-Decides}
use Rattle.kiss.specs.declared.whole.Part.{Part}
use Rattle.kiss.specs.declared.whole.Part.TheVariants.{Frame, Dropped, Passed}
use Rattle.kiss.specs.Laws.{FramesGoOn, FramesHaveOctets, HasOctets}
use Rattle.turn_loop.proofs.Names.{bytes_eq, AllByRecursion, filter_map, list_any, cases_Bool, All-from_recursion, recursion_from_All, CallSign, IsOctets, frame_of, from_last_fend, is_fend, kiss_frames, kiss_parts, FrameValue, IsFrameOrFault, IsNoFrame, IsOneFrame, FramesFor, IsFor, SomeFramesLaw}

both : (a b : Bool) {P Q : Type 0} → Decides a P → Decides b Q → Decides (a && b) (P × Q)
both true b first second = (λ h. (first.0 refl, second.0 h), λ pq. second.1 pq.1)
both false b first second = (λ h. absurd (true≢false (sym h)), λ pq. absurd (true≢false (sym (first.1 pq.0))))

-- whether two calls are the same
same_call : (one other : CallSign) → Decides (bytes_eq one.chars other.chars && (one.ssid == other.ssid)) (one ≡ other)
same_call one other =
    let each = both (bytes_eq one.chars other.chars) (one.ssid == other.ssid) (bytes_eq-Decides one.chars other.chars) (Decides-eqb one.ssid other.ssid) in (
      λ h. let parts = each.0 h in ap₂ (λ (chars : List ℕ) (ssid : ℕ). record { chars = chars; ssid = ssid }) parts.0 parts.1,
      λ same. each.1 (ap (λ (c : CallSign). c.chars) same, ap (λ (c : CallSign). c.ssid) same),
    )

-- whether a frame is for the station
abbrev own : CallSign → FrameValue → Bool
own me f = (bytes_eq f.dest.chars me.chars && (f.dest.ssid == me.ssid)) && (f.via == 0)

own-decides : (me : CallSign) (f : FrameValue) → Decides (own me f) (IsFor me f)
own-decides me f =
    let each = both (bytes_eq f.dest.chars me.chars && (f.dest.ssid == me.ssid)) (f.via == 0) (same_call f.dest me) (Decides-eqb f.via 0) in (
      λ h. let parts = each.0 h in record { dest = parts.0; via = parts.1 },
      λ is. each.1 (is.dest, is.via),
    )

all-append : (P : ℕ → Type 0) (xs ys : List ℕ) → AllByRecursion P xs → AllByRecursion P ys → AllByRecursion P (xs ++ ys)
all-append P [] ys h k = k
all-append P (x ∷ xs) ys h k = (h.0, all-append P xs ys h.1 k)

-- octets from the last FEND on are octets
by-rest : (P : List ℕ → Type 0) (last all : List ℕ) (some this : Bool) → P last → P all → P [] → P (if some then last else if this then all else [])
by-rest P last all true this one two three = one
by-rest P last all false true one two three = two
by-rest P last all false false one two three = three

last-octets : (octets : List ℕ) → AllByRecursion (λ o. o < 256) octets → AllByRecursion (λ o. o < 256) (from_last_fend octets)
last-octets [] h = tt
last-octets (x ∷ rest) h =
    by-rest (AllByRecursion (λ o. o < 256)) (from_last_fend rest) (x ∷ rest) (list_any is_fend rest) (is_fend x) (last-octets rest h.1) h tt

-- the frames among parts are of octets where the parts are
frames-octets : (parts : List Part) → AllByRecursion HasOctets parts → AllByRecursion IsOctets (filter_map frame_of parts)
frames-octets [] h = tt
frames-octets (Frame octets ∷ parts) h = (h.0, frames-octets parts h.1)
frames-octets (Dropped ∷ parts) h = frames-octets parts h.1
frames-octets (Passed ∷ parts) h = frames-octets parts h.1

module _ (one : IsOneFrame) (some : IsFrameOrFault) (none : IsNoFrame) where
  -- each text is that of a frame for the station, or of none
  text-frames : (me : CallSign) (text : List ℕ) (others : List (List ℕ)) (later : List FrameValue) → IsOctets text → FramesFor me others later
      → (frames : List FrameValue) × FramesFor me (text ∷ others) frames
  text-frames me text others later octets rest =
      elim (some text octets) [
        | inl read ↦ elim (cases_Bool (own me read.0)) [
          | inl is_own ↦ (read.0 ∷ later, inl (read.0, later, read.1, (own-decides me read.0).0 is_own, refl, rest))
          | inr other ↦ (
            later,
            inr (
              λ f t is. true≢false (sym ((own-decides me read.0).1 (subst (λ (v : FrameValue). IsFor me v) (one f read.0 text t read.1) is)) ∙ other),
              rest,
            ),
          )
        ]
        | inr fault ↦ (later, inr (λ f t is. none fault.0 text f fault.1 t, rest))
      ]

  texts-frames : (me : CallSign) (texts : List (List ℕ)) → AllByRecursion IsOctets texts → (frames : List FrameValue) × FramesFor me texts frames
  texts-frames me [] h = ([], refl)
  texts-frames me (text ∷ texts) h =
      let rest = texts-frames me texts h.1 in text-frames me text texts rest.0 h.0 rest.1

  pub some_frames : FramesGoOn → FramesHaveOctets → SomeFramesLaw
  unfolding kiss_frames
  some_frames go_on have me before octets first second =
      let P : ℕ → Type 0 = λ o. o < 256 in
      let left = from_last_fend before ++ octets in
      let all : IsOctets left = All-from_recursion P left (all-append P (from_last_fend before) octets (last-octets before (recursion_from_All P before first)) (recursion_from_All P octets second)) in
      let texts = texts-frames me (kiss_frames left) (frames-octets (kiss_parts left) (recursion_from_All HasOctets (kiss_parts left) (have left all))) in
      (texts.0, (kiss_frames left, go_on before octets, texts.1))
