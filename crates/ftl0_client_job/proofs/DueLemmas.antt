-- What is due of an upload.
use Rattle.std.proofs.Common.{◌≡◌, ℕ, ◌+◌, ◌-◌, ◌<◌, min, true, false, List, length, take, drop, Some, refl, sym, ap, ◌∙◌, subst, arith, length-drop}
use Rattle.std.specs.Prelude.{◌==◌}
use Rattle.ftl0_client_job.specs.declared.phases.UploadPhase.TheVariants as phase
use Rattle.ftl0_client_job.proofs.Names.{nat_tests, length-take, take_all, take_min, data_part, packet_text, UploadPhase, DuePacket, PutsDue, due_from, due_in, most_data, place_after, upload_due, Upload, in_phase}

-- the first octets of those that are left
pub part-is : (file shown : List ℕ) (place count : ℕ) → shown ≡ file → count ≡ min (length (take (length shown - place) (drop place shown))) 254
    → take count (take (length shown - place) (drop place shown)) ≡ take 254 (drop place file)
part-is file shown place count same is =
    let left : List ℕ = drop place shown in
    let all : take (length shown - place) left ≡ left = take_all (length shown - place) left (omega (arith, length-drop place shown)) in
    let least : count ≡ min 254 (length left) = omega (arith, is, ap (λ (l : List ℕ). length l) all) in
    ap (λ (l : List ℕ). take count l) all ∙ ap (λ (k : ℕ). take k left) least ∙ take_min 254 left ∙ ap (λ (l : List ℕ). take 254 (drop place l)) same

-- how many they are
pub part-len : (file : List ℕ) (place : ℕ) → length (take 254 (drop place file)) ≡ min 254 (length file - place)
part-len file place = length-take 254 (drop place file) ∙ ap (min 254) (length-drop place file)

-- there are some, and DATA of them is due
pub due-data : (at : Upload) (number place : ℕ) (part out out_now : List ℕ) → at.phase ≡ phase.Sending number place → part ≡ take 254 (drop place at.file) → 0 < length part → out_now ≡ packet_text (data_part part)
    → PutsDue (upload_due at) true at (in_phase at (phase.Sending number (place + length part))) out out_now
due-data at number place part out out_now sends is some text =
    let len : length part ≡ min 254 (length at.file - place) = ap length is ∙ part-len at.file place in
    let left : length (drop place at.file) ≡ length at.file - place = length-drop place at.file in
    let test : (length (drop place at.file) == 0) ≡ false = grind (arith, nat_tests) in
    let due : DuePacket Upload = record { packet = data_part (take most_data (drop place at.file)); state = in_phase at (phase.Sending number (place_after at place)) } in
    let from : due_from at number place ≡ due = rw test refl in
    let P : UploadPhase → Type 0 = λ p. PutsDue (due_in p at) true at (in_phase at (phase.Sending number (place + length part))) out out_now in
    let Q : DuePacket Upload → Type 0 = λ d. PutsDue (Some d) true at (in_phase at (phase.Sending number (place + length part))) out out_now in
    subst P (sym sends)
    (subst Q (sym from)
    (refl, ap (λ (n : ℕ). in_phase at (phase.Sending number (place + n))) len, text ∙ ap (λ (os : List ℕ). packet_text (data_part os)) is))
