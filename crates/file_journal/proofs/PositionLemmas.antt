-- The journal's place among the records.
use Rattle.std.proofs.Common.{◌≡◌, inl, inr, ℕ, ◌+◌, false, List, [], ◌∷◌, ◌++◌, length, Option, IfSome, refl, sym, ◌∙◌, ap, arith, append_assoc, length-append, Ok, Err}
use Rattle.file_journal.specs.declared.faults.ReadFault.TheVariants as fault
use Rattle.file_journal.proofs.Names.{common_steps, AllByRecursion, Record, IsRecord, record_text, records_text, Reading, with_record, with_records, Position, left_to_read, IsAt, StandsAmong, at_told, if_told, AppliesAll, AppliesOne, Takes, whole, damaged_at, state, walk, walk_left, ReadFault}
use Rattle.file_journal.proofs.ReadingLemmas.{read_on, no_record}
use Rattle.file_journal.proofs.WalkLemmas.{takes_more, walk_on_all}

pub records_text-append : (entries others : List Record) → records_text (entries ++ others) ≡ records_text entries ++ records_text others
records_text-append [] others = refl
records_text-append (entry ∷ entries) others =
    ap (λ (l : List ℕ). 1 ∷ record_text entry ++ l) (records_text-append entries others)
    ∙ sym (append_assoc (1 ∷ record_text entry) (records_text entries) (records_text others))

pub length-records_text-push : (entries : List Record) (entry : Record) → length (records_text (entries ++ entry ∷ [])) ≡ length (records_text entries) + 4 + length entry.content
length-records_text-push entries entry = grind (arith, common_steps, records_text-append, length-append)

pub with_records-append : (entries others : List Record) (reading : Reading) → with_records (entries ++ others) reading ≡ with_records entries (with_records others reading)
with_records-append [] others reading = refl
with_records-append (entry ∷ entries) others reading = ap (with_record entry) (with_records-append entries others reading)

-- The journal moves on over a record that it has read.
module _ (journal : Position) (place : ℕ) (entry : Record) (is_place : place ≡ journal.place + 4 + length entry.content) where
  moved_at : (passed : List Record) (octets : List ℕ) (next : Reading) → IsAt journal passed octets → left_to_read journal octets ≡ with_record entry next
      → IsAt (record journal { place = place }) (passed ++ entry ∷ []) octets × (left_to_read (record journal { place = place }) octets ≡ next)
  moved_at passed octets next is_at found = grind (arith, common_steps, read_on, length-records_text-push, with_records-append, no_record)

  pub moved : (content now : Option (List ℕ)) (images later : List ℕ → Type 0) → now ≡ content → ((image : List ℕ) → later image → images image)
      → IfSome content (λ octets. left_to_read journal octets ≡ with_record entry (left_to_read (record journal { place = place }) octets))
      → StandsAmong journal content images → StandsAmong (record journal { place = place }) now later
  moved content now images later same same_images found (inl failed) = inl failed
  moved content now images later same same_images found (inr stands) =
      inr (if_told now _ (λ octets told.
      let was = sym same ∙ told in
      let at = at_told _ octets was stands in
      let here = at_told _ octets was found in
      let moved_here = moved_at at.0 octets _ at.1 here in (
        at.0 ++ entry ∷ [],
        moved_here.0,
        λ image left_there.
            let there = at.2 image (same_images image left_there) in
            let moved_there = moved_at at.0 image _ there.0 (there.1 ∙ here) in
            (moved_there.0, moved_there.1),
      )))

-- a journal that hasn't failed stands among the records
pub among_records : (journal : Position) (content : Option (List ℕ)) (images : List ℕ → Type 0) → journal.failed ≡ false → StandsAmong journal content images
    → IfSome content (λ octets. (passed : List Record) × IsAt journal passed octets × ((image : List ℕ) → images image → IsAt journal passed image × (left_to_read journal image ≡ left_to_read journal octets)))
among_records journal content images fine (inl failed) = absurd (cc (sym failed ∙ fine))
among_records journal content images fine (inr stands) = stands

-- each is a record, and so is one more
pub records-push : (entries : List Record) (entry : Record) → AllByRecursion IsRecord entries → IsRecord entry → AllByRecursion IsRecord (entries ++ entry ∷ [])
records-push [] entry are is = (is, tt)
records-push (first ∷ entries) entry are is = (are.0, records-push entries entry are.1 is)

-- ---- how far a journal's records are applied

module _ {S : Type 0} (step : S → Record → Option S) where
  -- Some records were applied, each allowed, and the journal stands behind them.
  pub record IsOn (first now : Position) (before after : S) (octets : List ℕ) : Type 0 where
    pub entries : List Record
    pub left : left_to_read first octets ≡ with_records entries (left_to_read now octets)
    pub place : now.place ≡ first.place + length (records_text entries)
    pub takes : Takes step before entries after

  module _ (first now : Position) (before after : S) (octets : List ℕ) (on : IsOn first now before after octets) where
    -- what is left comes to what was left at first
    pub on_walk : walk_left step first before octets ≡ walk_left step now after octets
    on_walk = grind (arith, common_steps, walk_on_all)

    -- one record more
    pub on_more : (next : Position) (later : S) (entry : Record) → AppliesOne step now next after later octets entry → IsOn first next before later octets
    on_more next later entry one = record {
      entries = on.entries ++ entry ∷ [];
      left = on.left ∙ ap (with_records on.entries) one.left ∙ sym (with_records-append on.entries (entry ∷ []) (left_to_read next octets));
      place = omega (arith, on.place, one.place, length-records_text-push on.entries entry);
      takes = takes_more step on.entries before after later entry on.takes one.allowed;
    }

    -- to the end
    pub on_end : left_to_read now octets ≡ whole [] → walk_left step first before octets ≡ state after
    on_end none = on_walk ∙ ap (walk step after now.place) none

  -- what is answered where all was read, and where damage was found
  pub all_read : {T : Type 0} (x : T) (first : Position) (before after : S) (octets : List ℕ) → walk_left step first before octets ≡ state after → AppliesAll step first before after octets (Ok x)
  all_read x first before after octets is = record { ok = is; damaged = λ at. (λ same. absurd (cc same), λ now. absurd (cc (sym is ∙ now))) }

  pub all_damaged : {T : Type 0} (e : ReadFault) (first : Position) (before after : S) (octets : List ℕ) → ((at : ℕ) → e ≡ fault.Damaged at → walk_left step first before octets ≡ damaged_at at)
      → ¬ (e ≡ fault.Disk) → ¬ (e ≡ fault.OutOfMemory) → AppliesAll {T = T} step first before after octets (Err e)
  all_damaged (fault.Damaged at) first before after octets is disk memory = record {
    ok = tt;
    damaged = λ other. (
      λ same. is other (cc same),
      λ now. let n : at ≡ other = cc (sym (is at refl) ∙ now) in ap (λ (i : ℕ). Err (fault.Damaged i)) n,
    );
  }
  all_damaged fault.Disk first before after octets is disk memory = absurd (disk refl)
  all_damaged fault.OutOfMemory first before after octets is disk memory = absurd (memory refl)
