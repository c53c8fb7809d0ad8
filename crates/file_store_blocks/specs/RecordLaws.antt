-- What a record says, and the record of each command.
use Rattle.std.proofs.Common.{◌≡◌, ℕ, ◌+◌, ◌^◌, ◌<◌, ◌==◌, Bool, List, [], ◌∷◌, ◌++◌, ◌*◌, ◌/◌, ◌%◌, length, take, drop}
use Rattle.std.proofs.Common.{None, Some}
use Rattle.std.proofs.Common.{refl, sym, ap, ◌∙◌, subst, arith, inl, inr}
use Rattle.std.specs.Prelude.{◌↔◌, if◌then◌else◌, option_map}
use Rattle.std.proofs.lemmas.Bool.{eq-eqb, eqb-true, ne_eqb}
use Rattle.std.proofs.lemmas.Bool.Decides.{eqb_tells}
use Rattle.px_base.specs.CallOctets.{call_in, call_octets, call_of}
use Rattle.px_base.specs.CallSign.{CallSign, IsCall}
use Rattle.px_base.specs.Numbers.{le16, le16_octets, le32, le32_octets}
use Rattle.px_base.specs.Octets.{IsOctets}
use Rattle.px_base.proofs.Spelled.{law, length-IsSpelled}
use Rattle.pfh_items.proofs.Offered.{IsOctets-le16}
use Rattle.file_store_model.specs.Command.{HasCall}
use Rattle.file_journal.specs.Layout.{Blocks}
use Rattle.file_journal.specs.Records.{IsRecord, Record, record_of}
use Rattle.file_journal.proofs.Offered.{four, if_some, le32_below, map_some, number_at, number_front, octet_at}
use Rattle.file_journal.proofs.Offered.{octets_call, octets_joined, octets_le32}
use Rattle.file_store_blocks.specs.PlacedCommand.{PlacedCommand, begin, drop_entry, grow, seal, seen_command}
use Rattle.file_store_blocks.specs.PlacedRecords.{CanRecord, IsWritable, Says, Writes, begin_by, begin_content}
use Rattle.file_store_blocks.specs.PlacedRecords.{begin_in, drop_in, grow_in, next_in, placed_in, record_of_placed}
use Rattle.file_store_blocks.specs.PlacedRecords.{record_of_recorded, recorded_in, seal_in}
use Rattle.file_store_blocks.specs.ReadStore.{Recorded, change, next_is}

-- ---- a content that is read is the command's

-- a content of 19 octets, by its parts
nineteen : (octets : List ℕ) → length octets ≡ 19
    → octets ≡ ((take 4 octets ++ take 7 (drop 4 octets)) ++ take 4 (drop 11 octets)) ++ take 4 (drop 15 octets)
nineteen (a ∷ b ∷ c ∷ d ∷ e ∷ f ∷ g ∷ h ∷ i ∷ j ∷ k ∷ l ∷ m ∷ n ∷ o ∷ p ∷ q ∷ r ∷ s ∷ []) same = refl
nineteen octets same = absurd (omega arith)

begin_read :
    (content : List ℕ) (command : PlacedCommand) → IsOctets content → begin_in content ≡ Some command
    → Writes (record_of 1 content) command
begin_read content command octets h =
    let w = if_some (length content == 19) (begin_by content (call_in (take 7 (drop 4 content)))) command h in
    let whole : length content ≡ 19 = eqb-true _ _ w.0 in
    let v =
    map_some (λ (caller : CallSign). begin (le32 content 0) caller (le32 content 11) (le32 content 15))
    (call_in (take 7 (drop 4 content))) command w.1 in
    let call = (law (take 7 (drop 4 content)) v.0).0 v.1 in
    let first : le32_octets (le32 content 0) ≡ take 4 content = number_front content octets (omega arith) in
    let third : le32_octets (le32 content 11) ≡ take 4 (drop 11 content) = number_at content 11 octets (omega arith) in
    let fourth : le32_octets (le32 content 15) ≡ take 4 (drop 15 content) = number_at content 15 octets (omega arith) in
    let parts : content ≡ begin_content (le32 content 0) v.0 (le32 content 11) (le32 content 15) =
    nineteen content whole
    ∙ ap (λ (t : List ℕ). ((t ++ take 7 (drop 4 content)) ++ take 4 (drop 11 content)) ++ take 4 (drop 15 content))
    (sym first)
    ∙ ap (λ (t : List ℕ). ((le32_octets (le32 content 0) ++ t) ++ take 4 (drop 11 content)) ++ take 4 (drop 15 content))
    call.1
    ∙ ap (λ (t : List ℕ). ((le32_octets (le32 content 0) ++ call_octets v.0) ++ t) ++ take 4 (drop 15 content))
    (sym third)
    ∙ ap (λ (t : List ℕ). ((le32_octets (le32 content 0) ++ call_octets v.0) ++ le32_octets (le32 content 11)) ++ t)
    (sym fourth) in
    subst (λ (c : PlacedCommand). Writes (record_of 1 content) c) (sym v.2) (
      (le32_below content 0 octets, call.0, le32_below content 11 octets, le32_below content 15 octets),
      ap (record_of 1) parts,
    )

-- a content of ten octets, by its parts
ten :
    (octets : List ℕ) → length octets ≡ 10
    → octets ≡ (take 4 octets ++ take 4 (drop 4 octets)) ++ take 2 (drop 8 octets)
ten (a ∷ b ∷ c ∷ d ∷ e ∷ f ∷ g ∷ h ∷ i ∷ j ∷ []) same = refl
ten octets same = absurd (omega arith)

-- two octets are those of the number that they are
two_octets :
    (octets : List ℕ) → length octets ≡ 10 → IsOctets octets
    → (le16 octets 8 < 2 ^ 16) × (le16_octets (le16 octets 8) ≡ take 2 (drop 8 octets))
two_octets (a ∷ b ∷ c ∷ d ∷ e ∷ f ∷ g ∷ h ∷ i ∷ j ∷ []) same is =
    let octet = octet_at (a ∷ b ∷ c ∷ d ∷ e ∷ f ∷ g ∷ h ∷ i ∷ j ∷ []) is in
    let low : i < 256 = octet 8 in
    let high : j < 256 = octet 9 in
    let first : (i + 256 * j) % 256 ≡ i = omega (arith, low, high) in
    let second : (i + 256 * j) / 256 % 256 ≡ j = omega (arith, low, high) in (
      omega (arith, low, high),
      ap (λ (x : ℕ). x ∷ (i + 256 * j) / 256 % 256 ∷ []) first
          ∙ ap (λ (x : ℕ). i ∷ x ∷ []) second,
    )
two_octets octets same is = absurd (omega arith)

-- the content that two numbers of four octets and one of two make
abbrev three : ℕ → ℕ → ℕ → List ℕ
three first second third = le32_octets first ++ le32_octets second ++ le16_octets third

-- what is read of such a content, and that it is the content of that
record IsThree (content : List ℕ) : Type 0 where
  first : le32 content 0 < 2 ^ 32
  second : le32 content 4 < 2 ^ 32
  third : le16 content 8 < 2 ^ 16
  content_is : content ≡ three (le32 content 0) (le32 content 4) (le16 content 8)

is_three : (content : List ℕ) → IsOctets content → length content ≡ 10 → IsThree content
is_three content octets len =
    let last = two_octets content len octets in
    record {
      first = le32_below content 0 octets;
      second = le32_below content 4 octets;
      third = last.0;
      content_is =
          ten content len
          ∙ ap (λ (t : List ℕ). (t ++ take 4 (drop 4 content)) ++ take 2 (drop 8 content))
          (sym (number_front content octets (omega (arith, len))))
          ∙ ap (λ (t : List ℕ). (le32_octets (le32 content 0) ++ t) ++ take 2 (drop 8 content))
          (sym (number_at content 4 octets (omega (arith, len))))
          ∙ ap (λ (t : List ℕ). (le32_octets (le32 content 0) ++ le32_octets (le32 content 4)) ++ t) (sym last.1);
    }

grow_read :
    (content : List ℕ) (command : PlacedCommand) → IsOctets content → grow_in content ≡ Some command
    → Writes (record_of 2 content) command
grow_read content command octets is =
    let made = grow (le32 content 0) (le32 content 4) (le16 content 8) in
    let some = if_some (length content == 10) (Some made) command is in
    let same : made ≡ command = let e = some.1 in cc in
    let parts = is_three content octets (eqb-true _ _ some.0) in
    subst (Writes (record_of 2 content)) same
    ((parts.first, parts.second, parts.third), ap (record_of 2) parts.content_is)

seal_read :
    (content : List ℕ) (command : PlacedCommand) → IsOctets content → seal_in content ≡ Some command
    → Writes (record_of 3 content) command
seal_read content command octets is =
    let made = seal (le32 content 0) (le32 content 4) (le16 content 8) in
    let some = if_some (length content == 10) (Some made) command is in
    let same : made ≡ command = let e = some.1 in cc in
    let parts = is_three content octets (eqb-true _ _ some.0) in
    subst (Writes (record_of 3 content)) same
    ((parts.first, parts.second, parts.third), ap (record_of 3) parts.content_is)

drop_read :
    (content : List ℕ) (command : PlacedCommand) → IsOctets content → drop_in content ≡ Some command
    → Writes (record_of 4 content) command
drop_read content command octets h =
    let w = if_some (length content == 4) (Some (drop_entry (le32 content 0))) command h in
    let whole : length content ≡ 4 = eqb-true _ _ w.0 in
    let is : command ≡ drop_entry (le32 content 0) = let e = w.1 in cc in
    let front : le32_octets (le32 content 0) ≡ take 4 content = number_front content octets (omega arith) in
    subst (λ (c : PlacedCommand). Writes (record_of 4 content) c) (sym is)
    (le32_below content 0 octets, ap (record_of 4) (four content whole ∙ sym front))

-- the record, whose kind is known
of_kind :
    (entry : Record) (kind : ℕ) (command : PlacedCommand) → entry.kind ≡ kind
    → Writes (record_of kind entry.content) command → Writes entry command
of_kind entry kind command is h = subst (λ (k : ℕ). Writes (record_of k entry.content) command) (sym is) h

read_writes :
    (entry : Record) (command : PlacedCommand) → IsRecord entry → placed_in entry ≡ Some command
    → Writes entry command
unfolding placed_in
read_writes entry command rules is =
    elim (eqb_tells entry.kind 1) [
      | inl w ↦ of_kind entry 1 command w.1 (begin_read entry.content command rules.octets (rw w.0 at is))
      | inr w ↦
          let second = rw w.0 at is in
          elim (eqb_tells entry.kind 2) [
            | inl v ↦ of_kind entry 2 command v.1 (grow_read entry.content command rules.octets (rw v.0 at second))
            | inr v ↦
                let third = rw v.0 at second in
                elim (eqb_tells entry.kind 3) [
                  | inl u ↦ of_kind entry 3 command u.1 (seal_read entry.content command rules.octets (rw u.0 at third))
                  | inr u ↦
                      let fourth = rw u.0 at third in
                      elim (eqb_tells entry.kind 4) [
                        | inl s ↦
                            of_kind entry 4 command s.1
                            (drop_read entry.content command rules.octets (rw s.0 at fourth))
                        | inr s ↦ let none = rw s.0 at fourth in absurd (cc)
                      ]
                ]
          ]
    ]

-- ---- the record of a command is read as it

-- what is read of the content of a Begin
record BeginParts (number ssid file_length moment : ℕ) (chars content : List ℕ) : Type 0 where
  len : length content ≡ 19
  number_is : le32 content 0 ≡ number
  call : take 7 (drop 4 content) ≡ chars ++ ssid ∷ []
  length_is : le32 content 11 ≡ file_length
  moment_is : le32 content 15 ≡ moment

begin_parts :
    (number ssid file_length moment : ℕ) (chars : List ℕ) → length chars ≡ 6 → number < 2 ^ 32 → file_length < 2 ^ 32
    → moment < 2 ^ 32
    → BeginParts number ssid file_length moment chars (begin_content number (call_of chars ssid) file_length moment)
begin_parts number ssid file_length moment (a ∷ b ∷ c ∷ d ∷ e ∷ f ∷ []) six n l m =
    record { len = refl; number_is = omega arith; call = refl; length_is = omega arith; moment_is = omega arith }
begin_parts number ssid file_length moment chars six n l m = absurd (omega arith)

begin_written :
    (number : ℕ) (caller : CallSign) (file_length moment : ℕ) → IsWritable (begin number caller file_length moment)
    → begin_in (begin_content number caller file_length moment) ≡ Some (begin number caller file_length moment)
begin_written number caller file_length moment is =
    let content = begin_content number caller file_length moment in
    let p =
    begin_parts number caller.ssid file_length moment caller.chars (length-IsSpelled caller.chars is.1.spelled) is.0
    is.2 is.3 in
    let call : call_in (take 7 (drop 4 (begin_content number caller file_length moment))) ≡ Some caller =
    (law (take 7 (drop 4 (begin_content number caller file_length moment))) caller).1 (is.1, p.call) in
    ap
    (λ (b : Bool). if b then
    begin_by (begin_content number caller file_length moment)
    (call_in (take 7 (drop 4 (begin_content number caller file_length moment))))
    else None)
    (eq-eqb _ _ p.len)
    ∙ ap (begin_by (begin_content number caller file_length moment)) call
    ∙ ap
    (λ (n : ℕ).
    Some
    (begin n caller (le32 (begin_content number caller file_length moment) 11)
    (le32 (begin_content number caller file_length moment) 15)))
    p.number_is
    ∙ ap (λ (n : ℕ). Some (begin number caller n (le32 (begin_content number caller file_length moment) 15)))
    p.length_is
    ∙ ap (λ (n : ℕ). Some (begin number caller file_length n)) p.moment_is

drop_written : (number : ℕ) → IsWritable (drop_entry number) → drop_in (le32_octets number) ≡ Some (drop_entry number)
drop_written number is =
    let number_is : le32 (le32_octets number) 0 ≡ number = omega (arith, is) in
    ap (λ (n : ℕ). Some (drop_entry n)) number_is

-- what is read of a content of three numbers
record ReadsThree (first second third : ℕ) : Type 0 where
  first_is : le32 (three first second third) 0 ≡ first
  second_is : le32 (three first second third) 4 ≡ second
  third_is : le16 (three first second third) 8 ≡ third

reads_three :
    (first second third : ℕ) → first < 2 ^ 32 → second < 2 ^ 32 → third < 2 ^ 16 → ReadsThree first second third
reads_three first second third a b c =
    record { first_is = omega (arith, a); second_is = omega (arith, b); third_is = omega (arith, c) }

made_three : (make : ℕ → ℕ → ℕ → PlacedCommand) (first second third : ℕ) → ReadsThree first second third
    → Some
    (make (le32 (three first second third) 0) (le32 (three first second third) 4) (le16 (three first second third) 8))
    ≡ Some (make first second third)
made_three make first second third reads =
    ap (λ (n : ℕ). Some (make n (le32 (three first second third) 4) (le16 (three first second third) 8))) reads.first_is
    ∙ ap (λ (n : ℕ). Some (make first n (le16 (three first second third) 8))) reads.second_is
    ∙ ap (λ (n : ℕ). Some (make first second n)) reads.third_is

pub read_written : (command : PlacedCommand) → IsWritable command → placed_in (record_of_placed command) ≡ Some command
unfolding placed_in
read_written (begin number caller file_length moment) is = begin_written number caller file_length moment is
read_written (grow number block used) is =
    made_three grow number block used (reads_three number block used is.0 is.1 is.2)
read_written (seal number moment sum) is =
    made_three seal number moment sum (reads_three number moment sum is.0 is.1 is.2)
read_written (drop_entry number) is = drop_written number is

pub placed_records :
    (entry : Record) (command : PlacedCommand) → IsRecord entry
    → (placed_in entry ≡ Some command) ↔ Writes entry command
placed_records entry command is = (read_writes entry command is, λ w. ap placed_in w.1 ∙ read_written command w.0)

-- ---- the record of a command is a record

octets_three : (first second third : ℕ) → IsOctets (three first second third)
octets_three first second third =
    octets_joined (le32_octets first ++ le32_octets second) (le16_octets third)
    (octets_joined (le32_octets first) (le32_octets second) (octets_le32 first) (octets_le32 second))
    (IsOctets-le16 third)

-- a Begin has 19 octets
pub begin_len :
    (number : ℕ) (caller : CallSign) (file_length moment : ℕ) → IsCall caller
    → length (begin_content number caller file_length moment) ≡ 19
begin_len number caller file_length moment call =
    begin_by_parts number caller.ssid file_length moment caller.chars (length-IsSpelled caller.chars call.spelled)
  where
    begin_by_parts :
        (number ssid file_length moment : ℕ) (chars : List ℕ) → length chars ≡ 6
        → length (begin_content number (call_of chars ssid) file_length moment) ≡ 19
    begin_by_parts number ssid file_length moment (a ∷ b ∷ c ∷ d ∷ e ∷ f ∷ []) six = refl
    begin_by_parts number ssid file_length moment chars six = absurd (omega arith)

-- whatever its numbers are
pub any_record :
    (held : Blocks) (command : PlacedCommand) → HasCall (seen_command held command)
    → IsRecord (record_of_placed command)
any_record held (begin number caller file_length moment) call = record {
  kind = omega arith;
  octets =
      octets_joined ((le32_octets number ++ call_octets caller) ++ le32_octets file_length) (le32_octets moment)
      (octets_joined (le32_octets number ++ call_octets caller) (le32_octets file_length)
      (octets_joined (le32_octets number) (call_octets caller) (octets_le32 number) (octets_call caller call))
      (octets_le32 file_length))
      (octets_le32 moment);
  most = omega (arith, begin_len number caller file_length moment call);
}
any_record held (grow number block used) call =
    record { kind = omega arith; octets = octets_three number block used; most = omega arith }
any_record held (seal number moment sum) call =
    record { kind = omega arith; octets = octets_three number moment sum; most = omega arith }
any_record held (drop_entry number) call =
    record { kind = omega arith; octets = octets_le32 number; most = omega arith }

pub next_is_record : (number : ℕ) → IsRecord (record_of_recorded (next_is number))
next_is_record number = record { kind = omega arith; octets = octets_le32 number; most = omega arith }

pub written_record : (command : PlacedCommand) → IsWritable command → IsRecord (record_of_placed command)
written_record (begin number caller file_length moment) is =
    any_record (λ b. []) (begin number caller file_length moment) is.1
written_record (grow number block used) is = any_record (λ b. []) (grow number block used) tt
written_record (seal number moment sum) is = any_record (λ b. []) (seal number moment sum) tt
written_record (drop_entry number) is = any_record (λ b. []) (drop_entry number) tt

pub recorded_record : (recorded : Recorded) → CanRecord recorded → IsRecord (record_of_recorded recorded)
recorded_record (next_is number) is = next_is_record number
recorded_record (change command) is = written_record command is

-- ---- what a record says

next_read :
    (content : List ℕ) (recorded : Recorded) → IsOctets content → next_in content ≡ Some recorded
    → Says (record_of 5 content) recorded
next_read content recorded octets h =
    let w = if_some (length content == 4) (Some (next_is (le32 content 0))) recorded h in
    let whole : length content ≡ 4 = eqb-true _ _ w.0 in
    let is : recorded ≡ next_is (le32 content 0) = let e = w.1 in cc in
    let front : le32_octets (le32 content 0) ≡ take 4 content = number_front content octets (omega arith) in
    subst (λ (r : Recorded). Says (record_of 5 content) r) (sym is)
    (le32_below content 0 octets, ap (record_of 5) (four content whole ∙ sym front))

pub recorded_says :
    (entry : Record) (recorded : Recorded) → IsRecord entry → recorded_in entry ≡ Some recorded → Says entry recorded
unfolding recorded_in
recorded_says entry recorded rules is =
    elim (eqb_tells entry.kind 5) [
      | inl w ↦
          subst (λ (k : ℕ). Says (record_of k entry.content) recorded) (sym w.1)
          (next_read entry.content recorded rules.octets (rw w.0 at is))
      | inr w ↦
          let made = map_some change (placed_in entry) recorded (rw w.0 at is) in
          subst (Says entry) (sym made.2) (read_writes entry made.0 rules made.1)
    ]

pub recorded_written :
    (recorded : Recorded) → CanRecord recorded → recorded_in (record_of_recorded recorded) ≡ Some recorded
unfolding recorded_in
recorded_written (next_is number) is =
    let number_is : le32 (le32_octets number) 0 ≡ number = omega (arith, is) in
    ap (λ (n : ℕ). Some (next_is n)) number_is
recorded_written (change (begin number caller file_length moment)) is =
    ap (option_map change) (read_written (begin number caller file_length moment) is)
recorded_written (change (grow number block used)) is =
    ap (option_map change) (read_written (grow number block used) is)
recorded_written (change (seal number moment sum)) is =
    ap (option_map change) (read_written (seal number moment sum) is)
recorded_written (change (drop_entry number)) is = ap (option_map change) (read_written (drop_entry number) is)

pub says_recorded :
    (entry : Record) (recorded : Recorded) → IsRecord entry
    → (recorded_in entry ≡ Some recorded) ↔ Says entry recorded
says_recorded entry recorded is =
    (recorded_says entry recorded is, λ says. ap recorded_in says.1 ∙ recorded_written recorded says.0)

-- ---- the kinds

pub of_kind_1 : (kind : ℕ) (content : List ℕ) → kind ≡ 1 → begin_in content ≡ placed_in (record_of kind content)
unfolding placed_in
of_kind_1 kind content is = sym (ap (λ (k : ℕ). placed_in (record_of k content)) is)

pub of_kind_2 : (kind : ℕ) (content : List ℕ) → kind ≡ 2 → grow_in content ≡ placed_in (record_of kind content)
unfolding placed_in
of_kind_2 kind content is = sym (ap (λ (k : ℕ). placed_in (record_of k content)) is)

pub of_kind_3 : (kind : ℕ) (content : List ℕ) → kind ≡ 3 → seal_in content ≡ placed_in (record_of kind content)
unfolding placed_in
of_kind_3 kind content is = sym (ap (λ (k : ℕ). placed_in (record_of k content)) is)

pub of_kind_4 : (kind : ℕ) (content : List ℕ) → kind ≡ 4 → drop_in content ≡ placed_in (record_of kind content)
unfolding placed_in
of_kind_4 kind content is = sym (ap (λ (k : ℕ). placed_in (record_of k content)) is)

pub of_other_kind :
    (kind : ℕ) (content : List ℕ) → (kind ≡ 1 → ⊥) → (kind ≡ 2 → ⊥) → (kind ≡ 3 → ⊥) → (kind ≡ 4 → ⊥)
    → None ≡ placed_in (record_of kind content)
unfolding placed_in
of_other_kind kind content a b c d = rw (ne_eqb kind 1 a, ne_eqb kind 2 b, ne_eqb kind 3 c, ne_eqb kind 4 d) refl

pub of_next_kind : (kind : ℕ) (content : List ℕ) → kind ≡ 5 → next_in content ≡ recorded_in (record_of kind content)
unfolding recorded_in
of_next_kind kind content is = sym (ap (λ (k : ℕ). recorded_in (record_of k content)) is)

pub of_command_kind :
    (kind : ℕ) (content : List ℕ) → (kind ≡ 5 → ⊥)
    → option_map change (placed_in (record_of kind content)) ≡ recorded_in (record_of kind content)
unfolding recorded_in
of_command_kind kind content other = rw (ne_eqb kind 5 other) refl
