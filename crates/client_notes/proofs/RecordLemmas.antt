-- Lemmas on the records of commands.
use Rattle.std.proofs.Common.{◌≡◌, ℕ, ◌+◌, ◌^◌, ◌<◌, ◌≤◌, ◌==◌, Bool, true, ◌&&◌, nat_le, nat_lt, List, [], ◌∷◌, ◌++◌, length, take, drop, Option, None, Some, refl, sym, ap, ◌∙◌, subst, arith, inl, inr, add-zero, append_assoc, length-append, length-drop, take-append-drop}
use Rattle.std.specs.Prelude.{◌↔◌, if◌then◌else◌}
use Rattle.px_base.specs.Numbers.{le32, le32_octets}
use Rattle.px_base.specs.CallOctets.{call_in, call_octets, call_of}
use Rattle.px_base.proofs.Spelled.{law, length-IsSpelled}
use Rattle.client_notes.proofs.Names.{slice_index, and_parts, eq-eqb, eqb-true, le-leb, leb-true, lt-ltb, ltb-true, ne_eqb, eqb_tells, get_or-drop, get_or_append_left, length-take-le, drop-append-le, drop-drop, drop_all, take-append-le, take_all, CallSign, IsOctets, IsRecord, Record, record_of, eight, four, if_some, le32_below, map_some, number_at, number_front, octet_at, octets_call, octets_drop, octets_joined, octets_le32, octets_one, octets_part, NotesCommand, acked, forgot, got, numbered, refused, start, IsWritable, Writes, acked_in, command_of, forgot_by, forgot_in, got_by, got_in, is_start_len, numbered_in, record_of_command, refused_in, start_by, start_content, start_in}

-- a part within the octets has its length
pub length-part : (octets : List ℕ) (i n : ℕ) → i + n ≤ length octets → length (take n (drop i octets)) ≡ n
length-part octets i n inside = length-take-le n (drop i octets) (let left = length-drop i octets in omega (arith, left))

-- two calls of a Start
both-calls : (content : List ℕ) (a b : Option CallSign) (command : NotesCommand) → start_by content a b ≡ Some command
    → (server caller : CallSign) × (a ≡ Some server) × (b ≡ Some caller)
    × (command ≡ start (le32 content 0) server caller (drop 55 content) (le32 content 18) (take 32 (drop 22 content)))
both-calls content None b command h = absurd (cc h)
both-calls content (Some server) None command h = absurd (cc h)
both-calls content (Some server) (Some caller) command h = (server, caller, refl, refl, cc h)

-- one more part cut off the rest
cut : (octets front : List ℕ) (i n : ℕ) → octets ≡ front ++ drop i octets → octets ≡ (front ++ take n (drop i octets)) ++ drop (i + n) octets
cut octets front i n e =
    e
    ∙ ap (λ (t : List ℕ). front ++ t) (sym (take-append-drop n (drop i octets)))
    ∙ sym (append_assoc front (take n (drop i octets)) (drop n (drop i octets)))
    ∙ ap (λ (t : List ℕ). (front ++ take n (drop i octets)) ++ t) (drop-drop n i octets)

-- the octet at the front
one-front : (octets : List ℕ) → 0 < length octets → take 1 octets ≡ slice_index octets 0 ∷ []
one-front [] some = absurd (omega arith)
one-front (x ∷ xs) some = refl

one-at : (octets : List ℕ) (i : ℕ) → i < length octets → take 1 (drop i octets) ≡ slice_index octets i ∷ []
one-at octets i some =
    one-front (drop i octets) (let left = length-drop i octets in omega (arith, left))
    ∙ ap (λ (x : ℕ). x ∷ []) (simp (get_or-drop, add-zero))

-- ---- a content that is read is the command's

-- the lengths that a Start has
pub record StartLengths (content : List ℕ) : Type 0 where
  pub some : 55 < length content
  pub most : slice_index content 54 ≤ 64
  pub whole : length content ≡ 55 + slice_index content 54

pub start_lengths : (content : List ℕ) → is_start_len content ≡ true → StartLengths content
start_lengths content h =
    let w = and_parts (nat_lt 55 (length content) && nat_le (slice_index content 54) 64) (length content == 55 + slice_index content 54) h in
    let v = and_parts (nat_lt 55 (length content)) (nat_le (slice_index content 54) 64) w.0 in
    record { some = ltb-true _ _ v.0; most = leb-true _ _ v.1; whole = eqb-true _ _ w.1 }

start-parts : (content : List ℕ) (server caller : CallSign) → IsOctets content → StartLengths content → take 7 (drop 4 content) ≡ call_octets server → take 7 (drop 11 content) ≡ call_octets caller
    → content ≡ start_content (le32 content 0) server caller (drop 55 content) (le32 content 18) (take 32 (drop 22 content))
start-parts content server caller octets is one other =
    let first : take 4 content ≡ le32_octets (le32 content 0) = sym (number_front content octets (omega (arith, is.some))) in
    let fourth : take 4 (drop 18 content) ≡ le32_octets (le32 content 18) = sym (number_at content 18 octets (omega (arith, is.some))) in
    let left = length-drop 55 content in
    let same : slice_index content 54 ≡ length (drop 55 content) = omega (arith, is.whole, left) in
    let len : take 1 (drop 54 content) ≡ length (drop 55 content) ∷ [] = one-at content 54 (omega (arith, is.some)) ∙ ap (λ (n : ℕ). n ∷ []) same in
    let a : content ≡ take 4 content ++ drop 4 content = sym (take-append-drop 4 content) in
    let b = cut content (take 4 content) 4 7 a in
    let c = cut content (take 4 content ++ take 7 (drop 4 content)) 11 7 b in
    let d = cut content ((take 4 content ++ take 7 (drop 4 content)) ++ take 7 (drop 11 content)) 18 4 c in
    let e = cut content (((take 4 content ++ take 7 (drop 4 content)) ++ take 7 (drop 11 content)) ++ take 4 (drop 18 content)) 22 32 d in
    let f = cut content ((((take 4 content ++ take 7 (drop 4 content)) ++ take 7 (drop 11 content)) ++ take 4 (drop 18 content)) ++ take 32 (drop 22 content)) 54 1 e in
    f
    ∙ ap (λ (t : List ℕ). (((((t ++ take 7 (drop 4 content)) ++ take 7 (drop 11 content)) ++ take 4 (drop 18 content)) ++ take 32 (drop 22 content)) ++ take 1 (drop 54 content)) ++ drop 55 content) first
    ∙ ap (λ (t : List ℕ). (((((le32_octets (le32 content 0) ++ t) ++ take 7 (drop 11 content)) ++ take 4 (drop 18 content)) ++ take 32 (drop 22 content)) ++ take 1 (drop 54 content)) ++ drop 55 content) one
    ∙ ap (λ (t : List ℕ). (((((le32_octets (le32 content 0) ++ call_octets server) ++ t) ++ take 4 (drop 18 content)) ++ take 32 (drop 22 content)) ++ take 1 (drop 54 content)) ++ drop 55 content) other
    ∙ ap (λ (t : List ℕ). (((((le32_octets (le32 content 0) ++ call_octets server) ++ call_octets caller) ++ t) ++ take 32 (drop 22 content)) ++ take 1 (drop 54 content)) ++ drop 55 content) fourth
    ∙ ap (λ (t : List ℕ). (((((le32_octets (le32 content 0) ++ call_octets server) ++ call_octets caller) ++ le32_octets (le32 content 18)) ++ take 32 (drop 22 content)) ++ t) ++ drop 55 content) len

start-read : (content : List ℕ) (command : NotesCommand) → IsOctets content → start_in content ≡ Some command → Writes (record_of 1 content) command
start-read content command octets h =
    let w = if_some (is_start_len content) (start_by content (call_in (take 7 (drop 4 content))) (call_in (take 7 (drop 11 content)))) command h in
    let is = start_lengths content w.0 in
    let v = both-calls content (call_in (take 7 (drop 4 content))) (call_in (take 7 (drop 11 content))) command w.1 in
    let one = (law (take 7 (drop 4 content)) v.0).0 v.2 in
    let other = (law (take 7 (drop 11 content)) v.1).0 v.3 in
    let left = length-drop 55 content in
    let digest : length (take 32 (drop 22 content)) ≡ 32 = length-part content 22 32 (omega (arith, is.some)) in
    subst (λ (c : NotesCommand). Writes (record_of 1 content) c) (sym v.4) (
      (
        le32_below content 0 octets,
        one.0,
        other.0,
        (octets_drop content 55 octets, omega (arith, left, is.some), omega (arith, left, is.whole, is.most)),
        le32_below content 18 octets,
        (octets_part content 22 32 octets, omega (arith, digest), omega (arith, digest)),
      ),
      ap (record_of 1) (start-parts content v.0 v.1 octets is one.1 other.1),
    )

five : (octets : List ℕ) → length octets ≡ 5 → octets ≡ take 4 octets ++ slice_index octets 4 ∷ []
five (a ∷ b ∷ c ∷ d ∷ e ∷ []) same = refl
five octets same = absurd (omega arith)

eleven : (octets : List ℕ) → length octets ≡ 11 → octets ≡ take 7 octets ++ take 4 (drop 7 octets)
eleven (a ∷ b ∷ c ∷ d ∷ e ∷ f ∷ g ∷ h ∷ i ∷ j ∷ k ∷ []) same = refl
eleven octets same = absurd (omega arith)

numbered-read : (content : List ℕ) (command : NotesCommand) → IsOctets content → numbered_in content ≡ Some command → Writes (record_of 2 content) command
numbered-read content command octets h =
    let w = if_some (length content == 8) (Some (numbered (le32 content 0) (le32 content 4))) command h in
    let whole : length content ≡ 8 = eqb-true _ _ w.0 in
    let is : command ≡ numbered (le32 content 0) (le32 content 4) = let e = w.1 in cc in
    let front : le32_octets (le32 content 0) ≡ take 4 content = number_front content octets (omega arith) in
    let back : le32_octets (le32 content 4) ≡ take 4 (drop 4 content) = number_at content 4 octets (omega arith) in
    subst (λ (c : NotesCommand). Writes (record_of 2 content) c) (sym is) (
      (le32_below content 0 octets, le32_below content 4 octets),
      ap (record_of 2)
          (eight content whole ∙ ap (λ (t : List ℕ). t ++ take 4 (drop 4 content)) (sym front) ∙ ap (λ (t : List ℕ). le32_octets (le32 content 0) ++ t) (sym back)),
    )

acked-read : (content : List ℕ) (command : NotesCommand) → IsOctets content → acked_in content ≡ Some command → Writes (record_of 3 content) command
acked-read content command octets h =
    let w = if_some (length content == 4) (Some (acked (le32 content 0))) command h in
    let whole : length content ≡ 4 = eqb-true _ _ w.0 in
    let is : command ≡ acked (le32 content 0) = let e = w.1 in cc in
    let front : le32_octets (le32 content 0) ≡ take 4 content = number_front content octets (omega arith) in
    subst (λ (c : NotesCommand). Writes (record_of 3 content) c) (sym is)
    (le32_below content 0 octets, ap (record_of 3) (four content whole ∙ sym front))

refused-read : (content : List ℕ) (command : NotesCommand) → IsOctets content → refused_in content ≡ Some command → Writes (record_of 4 content) command
refused-read content command octets h =
    let w = if_some (length content == 5) (Some (refused (le32 content 0) (slice_index content 4))) command h in
    let whole : length content ≡ 5 = eqb-true _ _ w.0 in
    let is : command ≡ refused (le32 content 0) (slice_index content 4) = let e = w.1 in cc in
    let front : le32_octets (le32 content 0) ≡ take 4 content = number_front content octets (omega arith) in
    subst (λ (c : NotesCommand). Writes (record_of 4 content) c) (sym is) (
      (le32_below content 0 octets, octet_at content octets 4),
      ap (record_of 4) (five content whole ∙ ap (λ (t : List ℕ). t ++ slice_index content 4 ∷ []) (sym front)),
    )

got-read : (content : List ℕ) (command : NotesCommand) → IsOctets content → got_in content ≡ Some command → Writes (record_of 5 content) command
got-read content command octets h =
    let w = if_some (nat_lt 11 (length content) && nat_le (length content) 523) (got_by content (call_in (take 7 content))) command h in
    let t = and_parts _ _ w.0 in
    let some : 11 < length content = ltb-true _ _ t.0 in
    let most : length content ≤ 523 = leb-true _ _ t.1 in
    let v = map_some (λ (server : CallSign). got server (le32 content 7) (drop 11 content)) (call_in (take 7 content)) command w.1 in
    let call = (law (take 7 content) v.0).0 v.1 in
    let left = length-drop 11 content in
    let number : take 4 (drop 7 content) ≡ le32_octets (le32 content 7) = sym (number_at content 7 octets (omega arith)) in
    let a : content ≡ take 7 content ++ drop 7 content = sym (take-append-drop 7 content) in
    let b = cut content (take 7 content) 7 4 a in
    subst (λ (c : NotesCommand). Writes (record_of 5 content) c) (sym v.2) (
      (call.0, le32_below content 7 octets, (octets_drop content 11 octets, omega (arith, left), omega (arith, left))),
      ap (record_of 5)
          (b ∙ ap (λ (t : List ℕ). (t ++ take 4 (drop 7 content)) ++ drop 11 content) call.1 ∙ ap (λ (t : List ℕ). (call_octets v.0 ++ t) ++ drop 11 content) number),
    )

forgot-read : (content : List ℕ) (command : NotesCommand) → IsOctets content → forgot_in content ≡ Some command → Writes (record_of 6 content) command
forgot-read content command octets h =
    let w = if_some (length content == 11) (forgot_by content (call_in (take 7 content))) command h in
    let whole : length content ≡ 11 = eqb-true _ _ w.0 in
    let v = map_some (λ (server : CallSign). forgot server (le32 content 7)) (call_in (take 7 content)) command w.1 in
    let call = (law (take 7 content) v.0).0 v.1 in
    let number : take 4 (drop 7 content) ≡ le32_octets (le32 content 7) = sym (number_at content 7 octets (omega arith)) in
    subst (λ (c : NotesCommand). Writes (record_of 6 content) c) (sym v.2) (
      (call.0, le32_below content 7 octets),
      ap (record_of 6) (eleven content whole ∙ ap (λ (t : List ℕ). t ++ take 4 (drop 7 content)) call.1 ∙ ap (λ (t : List ℕ). call_octets v.0 ++ t) number),
    )

-- the record, whose kind is known
of_kind : (entry : Record) (kind : ℕ) (command : NotesCommand) → entry.kind ≡ kind → Writes (record_of kind entry.content) command → Writes entry command
of_kind entry kind command is h = subst (λ (k : ℕ). Writes (record_of k entry.content) command) (sym is) h

read-writes : (entry : Record) (command : NotesCommand) → IsRecord entry → command_of entry ≡ Some command → Writes entry command
unfolding command_of
read-writes entry command is h =
    elim (eqb_tells entry.kind 1) [
      | inl w ↦ of_kind entry 1 command w.1 (start-read entry.content command is.octets (rw w.0 at h))
      | inr w ↦
          let g = rw w.0 at h in
          elim (eqb_tells entry.kind 2) [
            | inl v ↦ of_kind entry 2 command v.1 (numbered-read entry.content command is.octets (rw v.0 at g))
            | inr v ↦
                let f = rw v.0 at g in
                elim (eqb_tells entry.kind 3) [
                  | inl u ↦ of_kind entry 3 command u.1 (acked-read entry.content command is.octets (rw u.0 at f))
                  | inr u ↦
                      let e = rw u.0 at f in
                      elim (eqb_tells entry.kind 4) [
                        | inl t ↦ of_kind entry 4 command t.1 (refused-read entry.content command is.octets (rw t.0 at e))
                        | inr t ↦
                            let d = rw t.0 at e in
                            elim (eqb_tells entry.kind 5) [
                              | inl s ↦ of_kind entry 5 command s.1 (got-read entry.content command is.octets (rw s.0 at d))
                              | inr s ↦
                                  let b = rw s.0 at d in
                                  elim (eqb_tells entry.kind 6) [
                                    | inl r ↦ of_kind entry 6 command r.1 (forgot-read entry.content command is.octets (rw r.0 at b))
                                    | inr r ↦ let a = rw r.0 at b in absurd (cc)
                                  ]
                            ]
                      ]
                ]
          ]
    ]

-- ---- the record of a command is read as it

-- what is read of the content of a Start
record StartParts (task server_ssid caller_ssid file_length : ℕ) (server_chars caller_chars name digest content : List ℕ) : Type 0 where
  len : length content ≡ 55 + length name
  task_is : le32 content 0 ≡ task
  server : take 7 (drop 4 content) ≡ server_chars ++ server_ssid ∷ []
  caller : take 7 (drop 11 content) ≡ caller_chars ++ caller_ssid ∷ []
  length_is : le32 content 18 ≡ file_length
  digest_is : take 32 (drop 22 content) ≡ digest
  name_len : slice_index content 54 ≡ length name
  name_is : drop 55 content ≡ name

module _ (name digest : List ℕ) (whole : length digest ≡ 32) where
  tail_len : length ((digest ++ length name ∷ []) ++ name) ≡ 33 + length name
  tail_len = let a = length-append (digest ++ length name ∷ []) name in let b = length-append digest (length name ∷ []) in omega (arith, a, b)

  tail_digest : take 32 ((digest ++ length name ∷ []) ++ name) ≡ digest
  tail_digest =
      let b = length-append digest (length name ∷ []) in
      take-append-le 32 (digest ++ length name ∷ []) name (omega (arith, b)) ∙ take-append-le 32 digest (length name ∷ []) (omega arith) ∙ take_all 32 digest (omega arith)

  tail_octet : slice_index ((digest ++ length name ∷ []) ++ name) 32 ≡ length name
  tail_octet =
      let b = length-append digest (length name ∷ []) in
      get_or_append_left (digest ++ length name ∷ []) name 0 32 (omega (arith, b)) ∙ ap (λ (n : ℕ). slice_index (digest ++ length name ∷ []) n) (sym whole) ∙ last digest (length name)
    where
      last : (xs : List ℕ) (x : ℕ) → slice_index (xs ++ x ∷ []) (length xs) ≡ x
      last [] x = refl
      last (y ∷ ys) x = last ys x

  tail_name : drop 33 ((digest ++ length name ∷ []) ++ name) ≡ name
  tail_name =
      let b = length-append digest (length name ∷ []) in
      drop-append-le 33 (digest ++ length name ∷ []) name (omega (arith, b)) ∙ ap (λ (t : List ℕ). t ++ name) (drop_all 33 (digest ++ length name ∷ []) (omega (arith, b)))

start_parts : (task server_ssid caller_ssid file_length : ℕ) (server_chars caller_chars name digest : List ℕ) → length server_chars ≡ 6 → length caller_chars ≡ 6 → length digest ≡ 32 → task < 2 ^ 32 → file_length < 2 ^ 32
    → StartParts task server_ssid caller_ssid file_length server_chars caller_chars name digest (start_content task (call_of server_chars server_ssid) (call_of caller_chars caller_ssid) name file_length digest)
start_parts task server_ssid caller_ssid file_length (a ∷ b ∷ c ∷ d ∷ e ∷ f ∷ []) (g ∷ h ∷ i ∷ j ∷ k ∷ l ∷ []) name digest six other whole t n = record {
  len = let tail = tail_len name digest whole in omega (arith, tail);
  task_is = omega arith;
  server = refl;
  caller = refl;
  length_is = omega arith;
  digest_is = tail_digest name digest whole;
  name_len = tail_octet name digest whole;
  name_is = tail_name name digest whole;
}
start_parts task server_ssid caller_ssid file_length (a ∷ b ∷ c ∷ d ∷ e ∷ f ∷ []) caller_chars name digest six other whole t n = absurd (omega arith)
start_parts task server_ssid caller_ssid file_length server_chars caller_chars name digest six other whole t n = absurd (omega arith)

start-tests : (content : List ℕ) → 55 < length content → slice_index content 54 ≤ 64 → length content ≡ 55 + slice_index content 54 → is_start_len content ≡ true
start-tests content some most whole =
    ap (λ (b : Bool). (b && nat_le (slice_index content 54) 64) && (length content == 55 + slice_index content 54)) (lt-ltb 55 (length content) some)
    ∙ ap (λ (b : Bool). b && (length content == 55 + slice_index content 54)) (le-leb (slice_index content 54) 64 most)
    ∙ eq-eqb (length content) (55 + slice_index content 54) whole

start-by : (content name digest : List ℕ) (task file_length : ℕ) (server caller : CallSign) (a b : Option CallSign) → a ≡ Some server → b ≡ Some caller → le32 content 0 ≡ task → le32 content 18 ≡ file_length
    → drop 55 content ≡ name → take 32 (drop 22 content) ≡ digest → start_by content a b ≡ Some (start task server caller name file_length digest)
start-by content name digest task file_length server caller a b one other t l n d =
    ap (λ (o : Option CallSign). start_by content o b) one
    ∙ ap (λ (o : Option CallSign). start_by content (Some server) o) other
    ∙ ap (λ (x : ℕ). Some (start x server caller (drop 55 content) (le32 content 18) (take 32 (drop 22 content)))) t
    ∙ ap (λ (x : List ℕ). Some (start task server caller x (le32 content 18) (take 32 (drop 22 content)))) n
    ∙ ap (λ (x : ℕ). Some (start task server caller name x (take 32 (drop 22 content)))) l
    ∙ ap (λ (x : List ℕ). Some (start task server caller name file_length x)) d

start-written : (task : ℕ) (server caller : CallSign) (name : List ℕ) (file_length : ℕ) (digest : List ℕ) → IsWritable (start task server caller name file_length digest)
    → start_in (start_content task server caller name file_length digest) ≡ Some (start task server caller name file_length digest)
start-written task server caller name file_length digest is = by (start_content task server caller name file_length digest)
    (start_parts task server.ssid caller.ssid file_length server.chars caller.chars name digest (length-IsSpelled server.chars is.1.spelled) (length-IsSpelled caller.chars is.2.spelled) (omega (arith, is.5)) is.0 is.4)
  where
    by : (content : List ℕ) → StartParts task server.ssid caller.ssid file_length server.chars caller.chars name digest content → start_in content ≡ Some (start task server caller name file_length digest)
    by content p =
        ap (λ (b : Bool). if b then start_by content (call_in (take 7 (drop 4 content))) (call_in (take 7 (drop 11 content))) else None)
        (start-tests content (omega (arith, p.len, is.3.1)) (omega (arith, p.name_len, is.3.2)) (omega (arith, p.len, p.name_len)))
        ∙ start-by content name digest task file_length server caller _ _ ((law (take 7 (drop 4 content)) server).1 (is.1, p.server)) ((law (take 7 (drop 11 content)) caller).1 (is.2, p.caller)) p.task_is p.length_is p.name_is p.digest_is

numbered-written : (task number : ℕ) → IsWritable (numbered task number) → numbered_in (le32_octets task ++ le32_octets number) ≡ Some (numbered task number)
numbered-written task number is =
    let task_is : le32 (le32_octets task ++ le32_octets number) 0 ≡ task = omega (arith, is.0) in
    let number_is : le32 (le32_octets task ++ le32_octets number) 4 ≡ number = omega (arith, is.1) in
    ap (λ (n : ℕ). Some (numbered n (le32 (le32_octets task ++ le32_octets number) 4))) task_is ∙ ap (λ (n : ℕ). Some (numbered task n)) number_is

acked-written : (task : ℕ) → IsWritable (acked task) → acked_in (le32_octets task) ≡ Some (acked task)
acked-written task is =
    let task_is : le32 (le32_octets task) 0 ≡ task = omega (arith, is) in
    ap (λ (n : ℕ). Some (acked n)) task_is

refused-written : (task code : ℕ) → IsWritable (refused task code) → refused_in (le32_octets task ++ code ∷ []) ≡ Some (refused task code)
refused-written task code is =
    let task_is : le32 (le32_octets task ++ code ∷ []) 0 ≡ task = omega (arith, is.0) in
    ap (λ (n : ℕ). Some (refused n code)) task_is

-- what is read of the content of a Got or a Forgot
record GotParts (ssid number : ℕ) (chars octets content : List ℕ) : Type 0 where
  len : length content ≡ 11 + length octets
  call : take 7 content ≡ chars ++ ssid ∷ []
  number_is : le32 content 7 ≡ number
  octets_are : drop 11 content ≡ octets

got_parts : (ssid number : ℕ) (chars octets : List ℕ) → length chars ≡ 6 → number < 2 ^ 32
    → GotParts ssid number chars octets (call_octets (call_of chars ssid) ++ le32_octets number ++ octets)
got_parts ssid number (a ∷ b ∷ c ∷ d ∷ e ∷ f ∷ []) octets six n = record { len = omega arith; call = refl; number_is = omega arith; octets_are = refl }
got_parts ssid number chars octets six n = absurd (omega arith)

got-written : (server : CallSign) (number : ℕ) (octets : List ℕ) → IsWritable (got server number octets) → got_in (call_octets server ++ le32_octets number ++ octets) ≡ Some (got server number octets)
got-written server number octets is = by (call_octets server ++ le32_octets number ++ octets) (got_parts server.ssid number server.chars octets (length-IsSpelled server.chars is.0.spelled) is.1)
  where
    by : (content : List ℕ) → GotParts server.ssid number server.chars octets content → got_in content ≡ Some (got server number octets)
    by content p =
        let some : nat_lt 11 (length content) ≡ true = lt-ltb _ _ (omega (arith, p.len, is.2.1)) in
        let most : nat_le (length content) 523 ≡ true = le-leb _ _ (omega (arith, p.len, is.2.2)) in
        ap (λ (b : Bool). if (b && nat_le (length content) 523) then got_by content (call_in (take 7 content)) else None) some
        ∙ ap (λ (b : Bool). if b then got_by content (call_in (take 7 content)) else None) most
        ∙ ap (got_by content) ((law (take 7 content) server).1 (is.0, p.call))
        ∙ ap (λ (n : ℕ). Some (got server n (drop 11 content))) p.number_is
        ∙ ap (λ (os : List ℕ). Some (got server number os)) p.octets_are

forgot_parts : (ssid number : ℕ) (chars : List ℕ) → length chars ≡ 6 → number < 2 ^ 32 → GotParts ssid number chars [] (call_octets (call_of chars ssid) ++ le32_octets number)
forgot_parts ssid number (a ∷ b ∷ c ∷ d ∷ e ∷ f ∷ []) six n = record { len = refl; call = refl; number_is = omega arith; octets_are = refl }
forgot_parts ssid number chars six n = absurd (omega arith)

forgot-written : (server : CallSign) (number : ℕ) → IsWritable (forgot server number) → forgot_in (call_octets server ++ le32_octets number) ≡ Some (forgot server number)
forgot-written server number is = by (call_octets server ++ le32_octets number) (forgot_parts server.ssid number server.chars (length-IsSpelled server.chars is.0.spelled) is.1)
  where
    by : (content : List ℕ) → GotParts server.ssid number server.chars [] content → forgot_in content ≡ Some (forgot server number)
    by content p =
        ap (λ (b : Bool). if b then forgot_by content (call_in (take 7 content)) else None) (eq-eqb (length content) 11 p.len)
        ∙ ap (forgot_by content) ((law (take 7 content) server).1 (is.0, p.call))
        ∙ ap (λ (n : ℕ). Some (forgot server n)) p.number_is

pub read-written : (command : NotesCommand) → IsWritable command → command_of (record_of_command command) ≡ Some command
unfolding command_of
read-written (start task server caller name file_length digest) is = start-written task server caller name file_length digest is
read-written (numbered task number) is = numbered-written task number is
read-written (acked task) is = acked-written task is
read-written (refused task code) is = refused-written task code is
read-written (got server number octets) is = got-written server number octets is
read-written (forgot server number) is = forgot-written server number is

pub records : (entry : Record) (command : NotesCommand) → IsRecord entry → (command_of entry ≡ Some command) ↔ Writes entry command
records entry command is = (read-writes entry command is, λ w. ap command_of w.1 ∙ read-written command w.0)

-- ---- the record of a command is a record

pub IsRecord-written : (command : NotesCommand) → IsWritable command → IsRecord (record_of_command command)
IsRecord-written (start task server caller name file_length digest) is =
    let p = start_parts task server.ssid caller.ssid file_length server.chars caller.chars name digest (length-IsSpelled server.chars is.1.spelled) (length-IsSpelled caller.chars is.2.spelled) (omega (arith, is.5)) is.0 is.4 in
    record {
      kind = omega arith;
      octets =
          octets_joined (((((le32_octets task ++ call_octets server) ++ call_octets caller) ++ le32_octets file_length) ++ digest) ++ (length name ∷ [])) name
          (octets_joined ((((le32_octets task ++ call_octets server) ++ call_octets caller) ++ le32_octets file_length) ++ digest) (length name ∷ [])
          (octets_joined (((le32_octets task ++ call_octets server) ++ call_octets caller) ++ le32_octets file_length) digest
          (octets_joined ((le32_octets task ++ call_octets server) ++ call_octets caller) (le32_octets file_length)
          (octets_joined (le32_octets task ++ call_octets server) (call_octets caller)
          (octets_joined (le32_octets task) (call_octets server) (octets_le32 task) (octets_call server is.1)) (octets_call caller is.2))
          (octets_le32 file_length)) is.5.0)
          (octets_one (length name) (omega (arith, is.3.2)))) is.3.0;
      most = omega (arith, p.len, is.3.2);
    }
IsRecord-written (numbered task number) is =
    record { kind = omega arith; octets = octets_joined (le32_octets task) (le32_octets number) (octets_le32 task) (octets_le32 number); most = omega arith }
IsRecord-written (acked task) is = record { kind = omega arith; octets = octets_le32 task; most = omega arith }
IsRecord-written (refused task code) is =
    record { kind = omega arith; octets = octets_joined (le32_octets task) (code ∷ []) (octets_le32 task) (octets_one code is.1); most = omega arith }
IsRecord-written (got server number octets) is =
    let p = got_parts server.ssid number server.chars octets (length-IsSpelled server.chars is.0.spelled) is.1 in
    record {
      kind = omega arith;
      octets = octets_joined (call_octets server ++ le32_octets number) octets (octets_joined (call_octets server) (le32_octets number) (octets_call server is.0) (octets_le32 number)) is.2.0;
      most = omega (arith, p.len, is.2.2);
    }
IsRecord-written (forgot server number) is =
    let p = forgot_parts server.ssid number server.chars (length-IsSpelled server.chars is.0.spelled) is.1 in
    record {
      kind = omega arith;
      octets = octets_joined (call_octets server) (le32_octets number) (octets_call server is.0) (octets_le32 number);
      most = omega (arith, p.len);
    }

-- ---- the kinds

pub of_kind_1 : (kind : ℕ) (content : List ℕ) → kind ≡ 1 → start_in content ≡ command_of (record_of kind content)
unfolding command_of
of_kind_1 kind content is = sym (ap (λ (k : ℕ). command_of (record_of k content)) is)

pub of_kind_2 : (kind : ℕ) (content : List ℕ) → kind ≡ 2 → numbered_in content ≡ command_of (record_of kind content)
unfolding command_of
of_kind_2 kind content is = sym (ap (λ (k : ℕ). command_of (record_of k content)) is)

pub of_kind_3 : (kind : ℕ) (content : List ℕ) → kind ≡ 3 → acked_in content ≡ command_of (record_of kind content)
unfolding command_of
of_kind_3 kind content is = sym (ap (λ (k : ℕ). command_of (record_of k content)) is)

pub of_kind_4 : (kind : ℕ) (content : List ℕ) → kind ≡ 4 → refused_in content ≡ command_of (record_of kind content)
unfolding command_of
of_kind_4 kind content is = sym (ap (λ (k : ℕ). command_of (record_of k content)) is)

pub of_kind_5 : (kind : ℕ) (content : List ℕ) → kind ≡ 5 → got_in content ≡ command_of (record_of kind content)
unfolding command_of
of_kind_5 kind content is = sym (ap (λ (k : ℕ). command_of (record_of k content)) is)

pub of_kind_6 : (kind : ℕ) (content : List ℕ) → kind ≡ 6 → forgot_in content ≡ command_of (record_of kind content)
unfolding command_of
of_kind_6 kind content is = sym (ap (λ (k : ℕ). command_of (record_of k content)) is)

pub of_other_kind : (kind : ℕ) (content : List ℕ) → (kind ≡ 1 → ⊥) → (kind ≡ 2 → ⊥) → (kind ≡ 3 → ⊥) → (kind ≡ 4 → ⊥) → (kind ≡ 5 → ⊥) → (kind ≡ 6 → ⊥) → None ≡ command_of (record_of kind content)
unfolding command_of
of_other_kind kind content a b c d e f = rw (ne_eqb kind 1 a, ne_eqb kind 2 b, ne_eqb kind 3 c, ne_eqb kind 4 d, ne_eqb kind 5 e, ne_eqb kind 6 f) refl

-- a Start that is read by the code
pub start-in : (content name : List ℕ) (task file_length : ℕ) (server caller : CallSign) → true ≡ is_start_len content → Some server ≡ call_in (take 7 (drop 4 content)) → Some caller ≡ call_in (take 7 (drop 11 content))
    → task ≡ le32 content 0 → file_length ≡ le32 content 18 → name ≡ drop 55 content → Some (start task server caller name file_length (take 32 (drop 22 content))) ≡ start_in content
start-in content name task file_length server caller test one other t l n =
    sym (ap (λ (b : Bool). if b then start_by content (call_in (take 7 (drop 4 content))) (call_in (take 7 (drop 11 content))) else None) (sym test)
    ∙ start-by content name (take 32 (drop 22 content)) task file_length server caller _ _ (sym one) (sym other) (sym t) (sym l) (sym n) refl)
