-- What a checker keeps of more octets.
use Rattle.std.proofs.Common.{◌≡◌, ℕ, ◌+◌, ◌%◌, ◌<◌, ◌≤◌, List, [], ◌∷◌, ◌++◌, length, take, drop, get_or, None, refl, sym, ap, ◌∙◌, subst, arith, length-append, append_assoc}
use Rattle.pfh_reader.specs.declared.checker.Stage.TheVariants as stages
use Rattle.pfh_reader.proofs.Names.{leb-false, lt-leb, append-nil, take_at, drop_at, nil_from_length, All-append, All-drop, All-from_recursion, sum16, IsOctets, EndItem, Ran, BeginsHeader, file_parts, ItemValue, AreItems, item_text, items_text, end_item, header_start, header_text, FileText, ItemList, StopsAt, item_len, items_from, BeginsHeader-text, file_parts-ran, items_from-ran, ItemsFrom-items_from, none-FileText, short-StartsCut, Stage, Claims, Measures, with_header, at_end, CheckerValue, HasFed, Extends, IsCutItem, KeepsClaims, StandsAt, StandsAmong, StandsBehind, TakesEnd, TakesItems}
use Rattle.pfh_reader.proofs.SumLemmas.{sum16-append}

abbrev IsOctet : ℕ → Type 0
IsOctet octet = octet < 256

abbrev pub value : Stage → List ℕ → Claims → Measures → CheckerValue
value stage held claims measures = record { stage = stage; held = held; claims = claims; measures = measures }

-- items and more items
pub AreItems-append : (items more : List ItemValue) → AreItems items → AreItems more → AreItems (items ++ more)
AreItems-append [] more a b = b
AreItems-append (item ∷ items) more a b = (a.0, AreItems-append items more a.1 b)

pub items_text-append : (items more : List ItemValue) → items_text (items ++ more) ≡ items_text items ++ items_text more
items_text-append [] more = refl
items_text-append (item ∷ items) more =
    ap (λ (t : List ℕ). item_text item ++ t) (items_text-append items more) ∙ sym (append_assoc (item_text item) (items_text items) (items_text more))

-- more octets where no header begins
pub passes : (held : List ℕ) (claims : Claims) (measures : Measures) (octets : List ℕ)
    → Extends (value stages.NoHeader held claims measures) (value stages.NoHeader held claims (with_header measures octets)) octets
passes held claims measures octets fed h = record {
  count = ap (λ (n : ℕ). n + length octets) h.count ∙ sym (length-append fed octets);
  stands = λ more begins. h.stands (octets ++ more) (begins.0, sym (append_assoc fed octets more) ∙ begins.1);
}

-- where the octets of items are, with those that are left
among : (items more : List ItemValue) (fed held part left : List ℕ) → fed ≡ header_start ++ (items_text items ++ held) → held ++ part ≡ items_text more ++ left
    → fed ++ part ≡ header_start ++ (items_text (items ++ more) ++ left)
among items more fed held part left text taken =
    ap (λ (t : List ℕ). t ++ part) text
    ∙ ap (λ (t : List ℕ). header_start ++ t)
    (append_assoc (items_text items) held part
    ∙ ap (λ (t : List ℕ). items_text items ++ t) taken
    ∙ sym (append_assoc (items_text items) (items_text more) left)
    ∙ ap (λ (t : List ℕ). t ++ left) (sym (items_text-append items more)))

sums : (fed part : List ℕ) (n : ℕ) → n ≡ sum16 fed → (n + sum16 part) % 65536 ≡ sum16 (fed ++ part)
sums fed part n same = ap (λ (m : ℕ). (m + sum16 part) % 65536) same ∙ sym (sum16-append fed part)

-- more octets of items
pub takes_items : (held left : List ℕ) (claims after : Claims) (measures : Measures) (part : List ℕ) → TakesItems (held ++ part) left claims after → IsCutItem left
    → Extends (value stages.Items held claims measures) (value stages.Items left after (with_header measures part)) part
takes_items held left claims after measures part takes cut fed h =
    let items = h.stands.0 in
    let stands = h.stands.1 in
    record {
      count = ap (λ (n : ℕ). n + length part) h.count ∙ sym (length-append fed part);
      stands = (
        items ++ takes.0,
        record {
          are_items = AreItems-append items takes.0 stands.are_items takes.1;
          text = among items takes.0 fed held part left stands.text takes.2;
          cut = cut;
          claims = takes.3 items stands.claims;
          header_sum = sums fed part measures.header_sum stands.header_sum;
          body_sum = stands.body_sum;
        },
      );
    }

-- the octets that end the header
pub takes_end : (held left : List ℕ) (claims after : Claims) (measures : Measures) (part : List ℕ) → TakesEnd (held ++ part) claims after
    → Extends (value stages.Items held claims measures) (value stages.Body left after (at_end (with_header measures part))) part
takes_end held left claims after measures part takes fed h =
    let items : List ItemValue = h.stands.0 in
    let stands = h.stands.1 in
    let all : List ItemValue = items ++ takes.0 in
    let text : fed ++ part ≡ header_text all = among items takes.0 fed held part end_item stands.text takes.2 in
    let len : measures.file_len + length part ≡ length (fed ++ part) = ap (λ (n : ℕ). n + length part) h.count ∙ sym (length-append fed part) in
    record {
      count = len;
      stands = (
        all,
        [],
        record {
          file_text = record { are_items = AreItems-append items takes.0 stands.are_items takes.1; text = text ∙ sym (append-nil (header_text all)) };
          claims = takes.3 items stands.claims;
          measures = record {
            file_len = len ∙ ap length (text ∙ sym (append-nil (header_text all)));
            header_len = len ∙ ap length text;
            header_sum = sums fed part measures.header_sum stands.header_sum ∙ ap sum16 text;
            body_sum = stands.body_sum;
          };
        },
      );
    }

-- what items are read from octets, up to the end item
pub ends : (octets : List ℕ) (at : ℕ) (claims after : Claims) → IsOctets octets → (items_from 0 octets).stop ≡ EndItem at
    → KeepsClaims (items_from 0 octets).items claims after → TakesEnd (take (at + 3) octets) claims after
ends octets at claims after h stop keeps =
    let w : StopsAt 0 octets (items_from 0 octets).items (EndItem at) = subst (StopsAt 0 octets (items_from 0 octets).items) stop (ItemsFrom-items_from 0 octets h) in
    let items : List ItemValue = (items_from 0 octets).items in
    let len : length (items_text items ++ end_item) ≡ at + 3 = omega (arith, length-append (items_text items) end_item, w.3) in (
      items,
      w.1,
      ap (take (at + 3)) (w.2 ∙ sym (append_assoc (items_text items) end_item w.0)) ∙ take_at (items_text items ++ end_item) w.0 (at + 3) len,
      keeps,
    )

-- or up to one that is cut
pub ran : (octets : List ℕ) (at : ℕ) (claims after : Claims) → IsOctets octets → (items_from 0 octets).stop ≡ Ran at
    → KeepsClaims (items_from 0 octets).items claims after → TakesItems octets (drop at octets) claims after × IsCutItem (drop at octets)
ran octets at claims after h stop keeps =
    let w : StopsAt 0 octets (items_from 0 octets).items (Ran at) = subst (StopsAt 0 octets (items_from 0 octets).items) stop (ItemsFrom-items_from 0 octets h) in
    let items : List ItemValue = (items_from 0 octets).items in
    let left : drop at octets ≡ w.0 = ap (drop at) w.2 ∙ drop_at (items_text items) w.0 at (omega (arith, w.4)) in
    let rest : IsOctets w.0 = subst IsOctets left (All-drop IsOctet at octets h) in
    let cut : IsCutItem w.0 = record { short = leb-false _ _ (short-StartsCut w.0 rest w.3); octets = rest } in (
      (items, w.1, w.2 ∙ ap (λ (t : List ℕ). items_text items ++ t) (sym left), keeps),
      subst IsCutItem (sym left) cut,
    )

-- one octet more makes an item whole at most
pub one_more : (front : List ℕ) (octet : ℕ) → IsCutItem front → length (front ++ octet ∷ []) ≤ item_len (front ++ octet ∷ [])
one_more [] octet cut = omega arith
one_more (a ∷ []) octet cut = omega arith
one_more (a ∷ (b ∷ [])) octet cut = omega arith
one_more (a ∷ (b ∷ (l ∷ front))) octet cut = let short = cut.short in omega (arith, length-append front (octet ∷ []))

-- a cut item has less than 258 octets
pub length-cut : (held : List ℕ) → IsCutItem held → length held < 258
length-cut held cut = by held cut.short cut.octets
  where
    by : (xs : List ℕ) → length xs < item_len xs → IsOctets xs → length xs < 258
    by [] short h = omega arith
    by (a ∷ []) short h = omega arith
    by (a ∷ (b ∷ [])) short h = omega arith
    by (a ∷ (b ∷ (l ∷ xs))) short h = let below : l < 256 = h 2 0 (omega arith) in omega arith

pub IsCutItem-none : IsCutItem []
IsCutItem-none = record { short = omega arith; octets = λ k d below. absurd (omega arith) }

-- no octets are left behind an item then
nothing_left : (front : List ℕ) (octet : ℕ) (item : ItemValue) (tail : List ℕ) → IsCutItem front → front ++ octet ∷ [] ≡ item_text item ++ tail → tail ≡ []
nothing_left front octet item tail cut same =
    let most : length (item_text item ++ tail) ≤ item_len (item_text item ++ tail) = subst (λ (t : List ℕ). length t ≤ item_len t) same (one_more front octet cut) in
    nil_from_length tail (omega (arith, length-append item.content tail))

back_nil : (xs ys : List ℕ) → xs ++ ys ≡ [] → ys ≡ []
back_nil [] ys same = same
back_nil (x ∷ xs) ys same = absurd (omega (arith, ap length same))

-- what one octet more makes of a cut item
pub octet_ran : (front : List ℕ) (octet at : ℕ) (claims after : Claims) → IsCutItem front → IsOctets (front ++ octet ∷ []) → (items_from 0 (front ++ octet ∷ [])).stop ≡ Ran at
    → (at ≡ 0 → ⊥) → KeepsClaims (items_from 0 (front ++ octet ∷ [])).items claims after → TakesItems (front ++ octet ∷ []) [] claims after
octet_ran front octet at claims after cut h stop some keeps =
    let octets : List ℕ = front ++ octet ∷ [] in
    let w : StopsAt 0 octets (items_from 0 octets).items (Ran at) = subst (StopsAt 0 octets (items_from 0 octets).items) stop (ItemsFrom-items_from 0 octets h) in (
      (items_from 0 octets).items,
      w.1,
      w.2 ∙ ap (λ (t : List ℕ). items_text (items_from 0 octets).items ++ t) (none (items_from 0 octets).items w.0 w.2 w.4),
      keeps,
    )
  where
    none : (items : List ItemValue) (rest : List ℕ) → front ++ octet ∷ [] ≡ items_text items ++ rest → at ≡ 0 + length (items_text items) → rest ≡ []
    none [] rest same place = absurd (some (omega arith))
    none (item ∷ items) rest same place =
        back_nil (items_text items) rest
        (nothing_left front octet item (items_text items ++ rest) cut (same ∙ append_assoc (item_text item) (items_text items) rest))

pub octet_end : (front : List ℕ) (octet at : ℕ) (claims after : Claims) → IsCutItem front → IsOctets (front ++ octet ∷ []) → (items_from 0 (front ++ octet ∷ [])).stop ≡ EndItem at
    → KeepsClaims (items_from 0 (front ++ octet ∷ [])).items claims after → TakesEnd (front ++ octet ∷ []) claims after
octet_end front octet at claims after cut h stop keeps =
    let octets : List ℕ = front ++ octet ∷ [] in
    let w : StopsAt 0 octets (items_from 0 octets).items (EndItem at) = subst (StopsAt 0 octets (items_from 0 octets).items) stop (ItemsFrom-items_from 0 octets h) in (
      (items_from 0 octets).items,
      w.1,
      w.2 ∙ ap (λ (t : List ℕ). items_text (items_from 0 octets).items ++ (end_item ++ t)) (none (items_from 0 octets).items w.0 w.2),
      keeps,
    )
  where
    none : (items : List ItemValue) (rest : List ℕ) → front ++ octet ∷ [] ≡ items_text items ++ (end_item ++ rest) → rest ≡ []
    none [] rest same =
        let most : length (end_item ++ rest) ≤ item_len (end_item ++ rest) = subst (λ (t : List ℕ). length t ≤ item_len t) same (one_more front octet cut) in
        nil_from_length rest (omega arith)
    none (item ∷ items) rest same =
        let left = nothing_left front octet item (items_text items ++ (end_item ++ rest)) cut (same ∙ append_assoc (item_text item) (items_text items) (end_item ++ rest)) in
        absurd (omega (arith, ap length left, length-append (items_text items) (end_item ++ rest)))

-- and where it makes nothing whole
pub octet_cut : (octets : List ℕ) (claims after : Claims) → IsOctets octets → (items_from 0 octets).stop ≡ Ran 0 → KeepsClaims (items_from 0 octets).items claims after
    → TakesItems octets octets claims after × IsCutItem octets
octet_cut octets claims after h stop keeps = ran octets 0 claims after h stop keeps

-- the same, said of equal ones
pub Extends-at : (old old_is new new_is : CheckerValue) (more more_is : List ℕ) → old ≡ old_is → new ≡ new_is → more ≡ more_is → Extends old new more
    → Extends old_is new_is more_is
Extends-at old old_is new new_is more more_is o n m h =
    subst (λ (x : CheckerValue). Extends x new_is more_is) o
    (subst (λ (x : CheckerValue). Extends old x more_is) n (subst (λ (x : List ℕ). Extends old new x) m h))

-- a checker in this stage, and one that holds nothing
pub value_at : (now : CheckerValue) (stage is : Stage) (held : List ℕ) (claims : Claims) (measures : Measures) → value stage held claims measures ≡ now → now.stage ≡ is
    → value is held claims measures ≡ now
value_at now stage is held claims measures view same =
    ap (λ (s : Stage). value s held claims measures) (sym (ap (λ (v : CheckerValue). v.stage) view ∙ same)) ∙ view

pub value_none : (now : CheckerValue) (stage is : Stage) (held : List ℕ) (claims : Claims) (measures : Measures) → value stage held claims measures ≡ now → now.stage ≡ is
    → now.held ≡ [] → value is [] claims measures ≡ now
value_none now stage is held claims measures view same none =
    ap (λ (x : List ℕ). value is x claims measures) (sym (ap (λ (v : CheckerValue). v.held) view ∙ none)) ∙ value_at now stage is held claims measures view same

-- where items stop is within the octets
pub end_within : (octets : List ℕ) (at : ℕ) → IsOctets octets → (items_from 0 octets).stop ≡ EndItem at → at + 3 ≤ length octets
end_within octets at h stop =
    let w : StopsAt 0 octets (items_from 0 octets).items (EndItem at) = subst (StopsAt 0 octets (items_from 0 octets).items) stop (ItemsFrom-items_from 0 octets h) in
    omega (arith, ap length w.2, length-append (items_text (items_from 0 octets).items) (end_item ++ w.0), w.3)

pub ran_within : (octets : List ℕ) (at : ℕ) → IsOctets octets → (items_from 0 octets).stop ≡ Ran at → at ≤ length octets
ran_within octets at h stop =
    let w : StopsAt 0 octets (items_from 0 octets).items (Ran at) = subst (StopsAt 0 octets (items_from 0 octets).items) stop (ItemsFrom-items_from 0 octets h) in
    omega (arith, ap length w.2, length-append (items_text (items_from 0 octets).items) w.0, w.4)

-- the first octet
pub first_octet : (octets : List ℕ) → 0 < length octets → take 1 octets ≡ get_or octets 0 0 ∷ []
first_octet [] some = absurd (omega arith)
first_octet (x ∷ octets) some = refl

-- octets and one more
pub IsOctets-push : (octets : List ℕ) (octet : ℕ) → IsOctets octets → octet < 256 → IsOctets (octets ++ octet ∷ [])
IsOctets-push octets octet h below = All-append IsOctet octets (octet ∷ []) h (All-from_recursion IsOctet (octet ∷ []) (below, tt))

-- what is kept in this stage
pub stands_in : (now : CheckerValue) (stage is : Stage) (held : List ℕ) (claims : Claims) (measures : Measures) (fed : List ℕ) → value stage held claims measures ≡ now → stage ≡ is
    → HasFed now fed → StandsAt is (value stage held claims measures) fed
stands_in now stage is held claims measures fed view same h =
    let there : HasFed (value stage held claims measures) fed = subst (λ (v : CheckerValue). HasFed v fed) (sym view) h in
    subst (λ (s : Stage). StandsAt s (value stage held claims measures) fed) same there.stands

-- octets of a header that is cut
pub among_begins : (now : CheckerValue) (fed : List ℕ) (items : List ItemValue) → StandsAmong now fed items → BeginsHeader fed
among_begins now fed items h = (items_text items ++ now.held, h.text)

pub among_none : (now : CheckerValue) (fed : List ℕ) (items : List ItemValue) → StandsAmong now fed items → file_parts fed ≡ None
among_none now fed items h =
    file_parts-ran fed (0 + length (items_text items))
    (ap (λ (t : List ℕ). (items_from 0 (drop 2 t)).stop) h.text
    ∙ ap (λ (walk : ItemList). walk.stop) (items_from-ran items 0 now.held h.are_items (lt-leb (item_len now.held) (length now.held) h.cut.short)))

-- no octets, and AA alone, begin no header
pub none_begins : (fed : List ℕ) → fed ≡ [] → BeginsHeader fed → ⊥
none_begins fed same begins = omega (arith, ap length same, ap length begins.1)

pub one_begins : (fed : List ℕ) → fed ≡ 0xAA ∷ [] → BeginsHeader fed → ⊥
one_begins fed same begins = omega (arith, ap length same, ap length begins.1)

pub other_begins : (fed : List ℕ) → ((more : List ℕ) → BeginsHeader (fed ++ more) → ⊥) → BeginsHeader fed → ⊥
other_begins fed none begins = none [] (subst BeginsHeader (sym (append-nil fed)) begins)

-- a checker that was fed a header and a body stands behind the header
pub behind : (now : CheckerValue) (fed : List ℕ) (items : List ItemValue) (body : List ℕ) → FileText items body fed → (s : Stage) → StandsAt s now fed
    → (others : List ItemValue) × (other : List ℕ) × StandsBehind now fed others other
behind now fed items body is stages.Nothing h = absurd (none_begins fed h.0 (BeginsHeader-text items body fed is))
behind now fed items body is stages.Begun h = absurd (one_begins fed h.0 (BeginsHeader-text items body fed is))
behind now fed items body is stages.NoHeader h = absurd (other_begins fed h (BeginsHeader-text items body fed is))
behind now fed items body is stages.Items h = absurd (none-FileText fed (among_none now fed h.0 h.1) items body is)
behind now fed items body is stages.Body h = h
