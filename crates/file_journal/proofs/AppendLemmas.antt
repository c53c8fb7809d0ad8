-- What a record put behind the last gate makes of a store, and what a crash leaves of it.
use Rattle.std.proofs.Common.{◌≡◌, ◌≢◌, inl, inr, ℕ, ◌+◌, ◌<◌, ◌≤◌, true, false, List, [], ◌∷◌, ◌++◌, length, take, drop, Some, IfSome, Result, OnOk, refl, sym, ◌∙◌, ap, subst, arith, append_assoc, append-nil, length-append, length-drop, take-append-drop, take-take}
use Rattle.file_journal.proofs.Names.{common_steps, cases_eq, take-append-le, take_at, drop_at, length-take-le, All-drop, on_ok_weaker, AllByRecursion, IsOctets, HasContent, Only, Torn, LeavesSince, Ghosts, Appends, IsAppending, IsPutting, OpensGate, with_gate, Leaves, Makes, images_now, HasHeader, first_gate, half_end, half_gate, half_in, up_to, Half, Layout, Record, IsRecord, record_text, records_text, StartsClosed, Reading, whole, StandsFrom, with_records, reading_from, Standing, store, journal_of, store_of, with_last, IsBeforeOrAfter, HasRoom, Position, end_of, gate_of, left_to_read, store_in, IsAt, StandsOn, on_ok_both, weaker, at_told, content_now, if_told, told_weaker, kept_back, torn_front, torn_wider}
use Rattle.file_journal.proofs.JournalLemmas.{same_header, of_full, store_parts}
use Rattle.file_journal.proofs.LayoutLemmas.{gate_behind, half_behind, same_half, up_to_front, up_to_octets, up_to_split, up_to_whole}
use Rattle.file_journal.proofs.PositionLemmas.{among_records, records_text-append, length-records_text-push, records-push}
use Rattle.file_journal.proofs.ReadingLemmas.{stands_from_read, reading_none, reading_records, reading_closed, all_whole}

-- the store's records, in this half, end at a gate at this place, which isn't open
pub record Ends (magic : List ℕ) (layout : Layout) (blocks : ℕ) (chosen : Half) (entries : List Record) (place : ℕ) (octets : List ℕ) : Type 0 where
  pub header : List ℕ
  pub gate : ℕ
  pub rest : List ℕ
  pub head : HasHeader magic blocks header
  pub size : length header ≡ half_gate layout blocks chosen
  pub half : half_in layout header ≡ chosen
  pub long : first_gate layout blocks + 2 ≤ length octets
  pub are : AllByRecursion IsRecord entries
  pub is_place : place ≡ half_gate layout blocks chosen + length (records_text entries)
  pub inside : IfSome (half_end layout blocks chosen) (λ end. place < end)
  pub split : octets ≡ (header ++ records_text entries) ++ gate ∷ rest
  pub shut : gate ≢ 1

-- A journal that has read its end stands there.
pub ends_from : (journal : Position) (passed : List Record) (octets : List ℕ) → journal.ended ≡ true → IsAt journal passed octets
    → Ends journal.magic journal.layout journal.blocks journal.half passed journal.place octets
ends_from journal passed octets end at =
    let is_store : store_in journal octets ≡ store (Some journal.blocks) (whole passed) =
    at.records ∙ ap (λ (r : Reading). store_of journal.blocks (with_records passed r)) (at.ended end) ∙ ap (store_of journal.blocks) (all_whole passed) in
    let parts = store_parts journal.magic journal.layout octets journal.blocks journal.half passed at.formatted at.half is_store in
    by (drop (gate_of journal) (up_to (end_of journal) octets)) refl parts.0 parts.1
  where
    behind : HasHeader journal.magic journal.blocks octets → gate_of journal < length (up_to (end_of journal) octets) → (rest : List ℕ) → AllByRecursion IsRecord passed
        → drop (gate_of journal) (up_to (end_of journal) octets) ≡ records_text passed ++ rest → StartsClosed rest
        → Ends journal.magic journal.layout journal.blocks journal.half passed journal.place octets
    behind head there [] are is shut = absurd shut
    behind head there (gate ∷ later) are is shut =
        let first = gate_of journal in
        let all = up_to (end_of journal) octets in
        let after : 16 ≤ first = omega (arith, gate_behind journal.layout journal.blocks, half_behind journal.layout journal.blocks journal.half) in
        let size : length (take first all) ≡ first = length-take-le first all (omega (arith, there)) in
        let same : take first (take first all) ≡ take first octets = take-take first first all (omega arith) ∙ up_to_front (end_of journal) first octets (omega (arith, there)) in
        let whole =
        up_to_whole (end_of journal) (take first all ++ records_text passed) gate later octets
        (sym (take-append-drop first all) ∙ ap (λ (l : List ℕ). take first all ++ l) is ∙ sym (append_assoc (take first all) (records_text passed) (gate ∷ later))) in
        record {
          header = take first all;
          gate = gate;
          rest = whole.rest;
          head = same_header first journal.magic journal.blocks octets (take first all) (omega (arith, after)) same head;
          size = size;
          half = same_half first journal.layout octets (take first all) after same ∙ at.half;
          long = at.formatted;
          are = are;
          is_place = at.place;
          inside = told_weaker (end_of journal) _ _ (λ place told lt. omega (arith, at.place, size, lt, length-append (take first all) (records_text passed))) whole.inside;
          split = whole.split;
          shut = shut;
        }

    by : (rest : List ℕ) → drop (gate_of journal) (up_to (end_of journal) octets) ≡ rest → HasHeader journal.magic journal.blocks octets
        → reading_from (gate_of journal) (drop (gate_of journal) (up_to (end_of journal) octets)) ≡ whole passed
        → Ends journal.magic journal.layout journal.blocks journal.half passed journal.place octets
    by [] is head read = absurd (cc (sym read ∙ ap (reading_from (gate_of journal)) is ∙ reading_none (gate_of journal)))
    by (gate ∷ rest) is head read =
        let first = gate_of journal in
        let all = up_to (end_of journal) octets in
        let there : first < length all = omega (arith, ap length is, length-drop first all) in
        let stands : StandsFrom first (drop first all) (whole passed) =
        subst (λ (r : Reading). StandsFrom first (drop first all) r) read
        (stands_from_read (length (drop first all)) first (drop first all) (omega arith) (All-drop (λ octet. octet < 256) first all (up_to_octets (end_of journal) octets at.are_octets)) (omega (arith, there, length-drop first all))) in
        behind head there stands.0 stands.1 stands.2 stands.3

module _ (magic : List ℕ) (layout : Layout) (blocks : ℕ) (chosen : Half) (entries : List Record) (place : ℕ) (octets : List ℕ) (ends : Ends magic layout blocks chosen entries place octets) where
  abbrev first : ℕ
  first = half_gate layout blocks chosen

  front_size : length (ends.header ++ records_text entries) ≡ place
  front_size = omega (arith, ends.size, ends.is_place, length-append ends.header (records_text entries))

  pub ends_there : place < length octets
  ends_there = omega (arith, ap length ends.split, front_size, length-append (ends.header ++ records_text entries) (ends.gate ∷ ends.rest))

  front : take place octets ≡ ends.header ++ records_text entries
  front = ap (λ (l : List ℕ). take place l) ends.split ∙ take_at (ends.header ++ records_text entries) (ends.gate ∷ ends.rest) place front_size

  -- the header is that of the octets
  front16 : take 16 octets ≡ take 16 ends.header
  front16 =
      ap (λ (l : List ℕ). take 16 l) (ends.split ∙ append_assoc ends.header (records_text entries) (ends.gate ∷ ends.rest))
      ∙ take-append-le 16 ends.header (records_text entries ++ ends.gate ∷ ends.rest) (omega (arith, ends.size, gate_behind layout blocks, half_behind layout blocks chosen))

  pub ends_half : half_in layout octets ≡ chosen
  ends_half = same_half 16 layout ends.header octets (omega arith) front16 ∙ ends.half

  -- what is read goes on behind the gate
  read_part : (later : List ℕ) × (up_to (half_end layout blocks chosen) octets ≡ (ends.header ++ records_text entries) ++ ends.gate ∷ later)
  read_part = up_to_split (half_end layout blocks chosen) (ends.header ++ records_text entries) ends.gate ends.rest octets ends.split
      (told_weaker (half_end layout blocks chosen) _ _ (λ end told lt. omega (arith, lt, front_size)) ends.inside)

  -- it stands for these records
  pub ends_store : journal_of magic layout octets ≡ store (Some blocks) (whole entries)
  ends_store =
      let part = read_part in
      of_full magic layout octets blocks (same_header 16 magic blocks ends.header octets (omega arith) front16 ends.head) chosen ends_half ends.long
      ∙ ap (store_of blocks)
      (ap (reading_from first) (ap (λ (l : List ℕ). drop first l) (part.1 ∙ append_assoc ends.header (records_text entries) (ends.gate ∷ part.0)) ∙ drop_at ends.header (records_text entries ++ ends.gate ∷ part.0) first ends.size)
      ∙ reading_records entries first ends.gate part.0 ends.are
      ∙ ap (with_records entries) (reading_closed (first + length (records_text entries)) ends.gate part.0 ends.shut)
      ∙ all_whole entries)

  -- and nothing is read at that place
  pub ends_closed : reading_from place (drop place (up_to (half_end layout blocks chosen) octets)) ≡ whole []
  ends_closed = grind (arith, common_steps, read_part, drop_at, front_size, reading_closed)

  -- so do octets that begin so, with a gate that isn't open
  with_rest : (gate : ℕ) (rest image : List ℕ) → gate ≢ 1 → length octets ≤ length image → image ≡ (ends.header ++ records_text entries) ++ gate ∷ rest → Ends magic layout blocks chosen entries place image
  with_rest gate rest image shut le split = grind (arith, common_steps)

  pub ends_kept : (image : List ℕ) → take (place + 1) image ≡ take (place + 1) octets → length octets ≤ length image → Ends magic layout blocks chosen entries place image
  ends_kept image same le = with_rest ends.gate (drop (place + 1) image) image ends.shut le (sym (take-append-drop (place + 1) image)
      ∙ ap (λ (l : List ℕ). l ++ drop (place + 1) image)
      (same ∙ ap (λ (l : List ℕ). take (place + 1) l) (ends.split ∙ sym (append_assoc (ends.header ++ records_text entries) (ends.gate ∷ []) ends.rest))
      ∙ take_at ((ends.header ++ records_text entries) ++ ends.gate ∷ []) ends.rest (place + 1) (omega (arith, front_size, length-append (ends.header ++ records_text entries) (ends.gate ∷ []))))
      ∙ append_assoc (ends.header ++ records_text entries) (ends.gate ∷ []) (drop (place + 1) image))

  -- other octets from the gate on
  module _ (gate : ℕ) (text : List ℕ) where
    place_front : length (take place octets) ≡ place
    place_front = length-take-le place octets (omega (arith, ends_there))

    gated_length : length octets ≤ length (with_gate place gate text octets)
    gated_length = omega (arith, place_front, length-append {A = ℕ}, length-drop {A = ℕ})

    -- outside the gate and the text all is as it was
    pub gated_torn : (count : ℕ) → count ≡ 1 + length text → Torn place count octets (with_gate place gate text octets)
    gated_torn count is_count =
        let whole = with_gate place gate text octets in
        let behind : drop (place + count) whole ≡ drop (place + count) octets =
        drop_at (take place octets ++ gate ∷ text) (drop (place + 1 + length text) octets) (place + count) (omega (arith, place_front, is_count, length-append (take place octets) (gate ∷ text)))
        ∙ ap (λ (i : ℕ). drop i octets) (let same : place + 1 + length text ≡ place + count = omega (arith, is_count) in same) in
        record {
          before =
              take-take place (length octets) whole (omega (arith, ends_there)) ∙ ap (λ (l : List ℕ). take place l) (append_assoc (take place octets) (gate ∷ text) (drop (place + 1 + length text) octets))
              ∙ take_at (take place octets) (gate ∷ (text ++ drop (place + 1 + length text) octets)) place place_front;
          after = kept_back (place + count) octets whole behind;
          no_shorter = gated_length;
          no_longer = omega (arith, place_front, is_count, length-append {A = ℕ}, length-drop {A = ℕ});
        }

    pub gate_shut : gate ≢ 1 → Ends magic layout blocks chosen entries place (with_gate place gate text octets)
    gate_shut shut = with_rest gate (text ++ drop (place + 1 + length text) octets) _ shut gated_length
        (append_assoc (take place octets) (gate ∷ text) (drop (place + 1 + length text) octets) ∙ ap (λ (l : List ℕ). l ++ gate ∷ (text ++ drop (place + 1 + length text) octets)) front)

  -- A record behind an open gate is one more.
  pub gate_open : (entry : Record) → IsRecord entry → IfSome (half_end layout blocks chosen) (λ end. place + 1 + (4 + length entry.content) ≤ end)
      → Ends magic layout blocks chosen (entries ++ entry ∷ []) (place + 4 + length entry.content) (with_gate place 1 (record_text entry ++ 0 ∷ []) octets)
  gate_open entry is room = record {
    header = ends.header;
    gate = 0;
    rest = drop (place + 1 + length (record_text entry ++ 0 ∷ [])) octets;
    head = ends.head;
    size = ends.size;
    half = ends.half;
    long = omega (arith, ends.long, gated_length 1 (record_text entry ++ 0 ∷ []));
    inside = told_weaker (half_end layout blocks chosen) _ _ (λ end told le. omega (arith, le)) room;
    are = records-push entries entry ends.are is;
    is_place = omega (arith, ends.is_place, length-records_text-push entries entry);
    split =
        ap (λ (l : List ℕ). (l ++ 1 ∷ (record_text entry ++ 0 ∷ [])) ++ drop (place + 1 + length (record_text entry ++ 0 ∷ [])) octets) front
        ∙ simp (append_assoc, records_text-append, append-nil);
    shut = λ is_open. cc;
  }

-- A journal whose place that is stands there, and has read its end.
pub ends_at : (journal : Position) (passed : List Record) (octets : List ℕ) → IsOctets octets → Ends journal.magic journal.layout journal.blocks journal.half passed journal.place octets → IsAt journal passed octets × (left_to_read journal octets ≡ whole [])
ends_at journal passed octets are ends =
    let end = ends_closed _ _ _ _ passed _ octets ends in (
      record {
        are_octets = are;
        formatted = ends.long;
        half = ends_half _ _ _ _ passed _ octets ends;
        place = ends.is_place;
        records = ends_store _ _ _ _ passed _ octets ends ∙ sym (ap (λ (r : Reading). store_of journal.blocks (with_records passed r)) end ∙ ap (store_of journal.blocks) (all_whole passed));
        ended = λ e. end;
      },
      end,
    )

-- A journal at its end, and a record that is put there.
module _ {D : Type 0} (g : Ghosts D) (journal : Position) (old : D) (ok : journal.failed ≡ false) (end : journal.ended ≡ true) (stands : StandsOn g journal old) where
  -- the content's records and those of each image end at the journal's place
  pub record AllEnd (octets : List ℕ) : Type 0 where
    pub entries : List Record
    pub content : Ends journal.magic journal.layout journal.blocks journal.half entries journal.place octets
    pub images : (image : List ℕ) → images_now g old image → Ends journal.magic journal.layout journal.blocks journal.half entries journal.place image

  pub all_end : (octets : List ℕ) → g.content old ≡ Some octets → AllEnd octets
  all_end octets told =
      let at = at_told _ octets told (among_records journal (g.content old) (images_now g old) ok stands) in
      record { entries = at.0; content = ends_from journal at.0 octets end at.1; images = λ image here. ends_from journal at.0 image end (at.2 image here).0 }

  pub gate_there : IfSome (g.content old) (λ octets. journal.place < length octets)
  gate_there = if_told (g.content old) _ (λ octets told. ends_there _ _ _ _ _ _ octets (all_end octets told).content)

  module _ (entry : Record) (is : IsRecord entry) (room : HasRoom journal (4 + length entry.content)) where
    put_store : (octets : List ℕ) → AllEnd octets → store_in journal (with_gate journal.place 1 (record_text entry ++ 0 ∷ []) octets) ≡ with_last (store_in journal octets) entry
    put_store octets all =
        ends_store _ _ _ _ _ _ _ (gate_open _ _ _ _ _ _ octets all.content entry is room)
        ∙ ap (λ (s : Standing). with_last s entry) (sym (ends_store _ _ _ _ _ _ octets all.content))

    put_length : length (record_text entry ++ 0 ∷ []) ≡ 4 + length entry.content
    put_length = omega (arith, length-append entry.content (0 ∷ []))

    -- each image while it is put
    putting : ((t : ℕ) (image : List ℕ) → t ≤ g.moment old → g.images old image → g.images_since old t image) → (octets : List ℕ) → g.content old ≡ Some octets → g.images old octets → (image : List ℕ)
        → IsPutting journal.place (record_text entry ++ 0 ∷ []) (g.images old) octets image → IsAppending journal entry (g.images old) octets image
    putting counts_now octets told is_image image (inl torn) =
        let all = all_end octets told in
        let before = all.images torn.0 (counts_now (g.moment old) torn.0 (omega arith) torn.1) in
        let count : length (record_text entry ++ 0 ∷ []) + 1 ≡ 5 + length entry.content = omega (arith, put_length) in
        let image_ends = ends_kept _ _ _ _ _ _ torn.0 before image
        (torn_front (journal.place + 1) (length (record_text entry ++ 0 ∷ [])) torn.0 image (omega (arith, ends_there _ _ _ _ _ _ torn.0 before)) torn.2) torn.2.no_shorter in
        record {
          store = inl (ends_store _ _ _ _ _ _ image image_ends ∙ sym (ends_store _ _ _ _ _ _ octets all.content));
          beside = (torn.0, torn.1, subst (λ (n : ℕ). Torn journal.place n torn.0 image) count (torn_wider journal.place (length (record_text entry ++ 0 ∷ [])) torn.0 image torn.2));
        }
    putting counts_now octets told is_image image (inr put) =
        let all = all_end octets told in
        let text = record_text entry ++ 0 ∷ [] in
        record {
          store = elim (cases_eq put.0 1) [
            | inl is_open ↦ inr (ap (store_in journal) (put.1 ∙ ap (λ (n : ℕ). with_gate journal.place n text octets) is_open) ∙ put_store octets all)
            | inr shut ↦ inl (ap (store_in journal) put.1 ∙ ends_store _ _ _ _ _ _ _ (gate_shut _ _ _ _ _ _ octets all.content put.0 text shut) ∙ sym (ends_store _ _ _ _ _ _ octets all.content))
          ];
          beside = (octets, is_image, subst (λ (l : List ℕ). Torn journal.place (5 + length entry.content) octets l) (sym put.1) (gated_torn _ _ _ _ _ _ octets all.content put.0 text (5 + length entry.content) (omega (arith, put_length))));
        }

    -- what it makes and leaves, where the journal is seen so
    module _ (seen : Position) (seen_is : seen ≡ journal) {U E : Type 0} (result : Result U E) (new : D) (text : List ℕ) (text_is : text ≡ record_text entry ++ 0 ∷ [])
        (seen_makes : Makes g result old new (OpensGate seen.place text) (IsPutting seen.place text (g.images old))) where
      makes : Makes g result old new (OpensGate journal.place (record_text entry ++ 0 ∷ [])) (IsPutting journal.place (record_text entry ++ 0 ∷ []) (g.images old))
      makes = subst (λ (p : Position). Makes g result old new (OpensGate p.place (record_text entry ++ 0 ∷ [])) (IsPutting p.place (record_text entry ++ 0 ∷ []) (g.images old))) seen_is
          (subst (λ (l : List ℕ). Makes g result old new (OpensGate seen.place l) (IsPutting seen.place l (g.images old))) text_is seen_makes)

      pub appends : OnOk result (HasContent (g.content old) (g.content new) (Appends journal entry))
      appends = on_ok_weaker result (λ has. told_weaker (g.content old) _ _ (λ before told now. (now.0, now.1, record { octets = now.2; store = ap (store_in journal) now.2 ∙ put_store before (all_end before told) })) has) makes.ok

      pub stands_after : (place : ℕ) → place ≡ seen.place + 4 + length entry.content → IfSome (g.content new) IsOctets → OnOk result (StandsOn g (record seen { place = place }) new)
      stands_after place is_place are = subst (λ (p : Position). OnOk result (StandsOn g (record p { place = place }) new)) (sym seen_is) (on_ok_both result (λ has rest. inr (if_told (g.content new) _ (λ now told_now.
          let was = content_now _ _ (OpensGate journal.place (record_text entry ++ 0 ∷ [])) now makes.puts.told has told_now in
          let all = all_end was.0 was.1 in
          let entries = all.entries ++ entry ∷ [] in
          let ends = subst (λ (n : ℕ). Ends journal.magic journal.layout journal.blocks journal.half entries n now) (ap (λ (p : Position). p.place + 4 + length entry.content) (sym seen_is) ∙ sym is_place)
          (subst (λ (l : List ℕ). Ends journal.magic journal.layout journal.blocks journal.half entries (journal.place + 4 + length entry.content) l) (sym was.2) (gate_open _ _ _ _ _ _ was.0 all.content entry is room)) in
          let at = ends_at (record journal { place = place }) entries now (at_told IsOctets now told_now are) ends in (
            entries,
            at.0,
            λ image here.
                let same = at_told (Only (images_now g new)) now told_now rest image here in
                (subst (λ (l : List ℕ). IsAt (record journal { place = place }) entries l) (sym same) at.0, ap (left_to_read (record journal { place = place })) same),
          )))) makes.ok makes.quiet)

      module _ (counts_now : (t : ℕ) (image : List ℕ) → t ≤ g.moment old → g.images old image → g.images_since old t image) (is_image : IfSome (g.content old) (g.images old)) where
        pub leaves : Leaves g old new (IsAppending journal entry (g.images old))
        leaves = told_weaker (g.content old) _ _ (λ before told left. weaker g.moment g.images_since old new _ _ (λ image put.
            putting counts_now before told (at_told (g.images old) before told is_image) image put) left) makes.since

        pub any_moment : IfSome (g.content old) (λ before. LeavesSince (g.moment old) (g.images_since new) (λ image. IsBeforeOrAfter (store_in journal before) entry (store_in journal image)))
        any_moment = grind (arith, common_steps, all_end, ends_store, leaves)
