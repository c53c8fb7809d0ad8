-- What a lane holds, frame by frame, and which of its frames may be delivered.
use Rattle.std.proofs.Common.{◌≡◌, ℕ, zero, suc, ◌+◌, ◌≤◌, ◌-◌, List, [], ◌∷◌, ◌++◌, length, drop, Bool, true, false}
use Rattle.std.proofs.Common.{not, ◌&&◌, Some, None, refl, sym, subst, inl, inr, ◌∙◌, arith}
use Rattle.std.specs.List.{slice_get, slice_set}
use Rattle.std.specs.Prelude.{◌↔◌}
use Rattle.ax25_link.specs.Air.{is_numbered as is_numbered_control}
use Rattle.air_rehearsal.specs.declared.lane.Sort.{Sort}
use Rattle.air_rehearsal.specs.declared.lane.Sort.TheVariants as sort
use Rattle.air_rehearsal.proofs.Names.{list_any, IsTrue, and_parts, both_ways, not-true, not_from_false, or_cases, or_parts, slice_get_within, AllZip-long, all_zipped_more, FrameText, Control, Disc, Dm, Frmr, I, Rej, Rnr, Rr, Sabm, Ua, Ui, slice_get-set_same, IsAt, NoneLater, Transmission, control_of, delivering, is_call, Window, window_of, MayDeliver, is_numbered, overtakes, AreSentAs, IsSentAs, sort_of, Sent}
use Rattle.air_rehearsal.proofs.PairLemmas.{pair-at, pair-left, pair-right, pair-set}

-- the transmission is still there once it is delivered
pub delivered-at :
    (list : List Transmission) (place : ℕ) (t : Transmission) → IsAt list place t
    → IsAt (delivering list place t) place (record t { delivered = true })
delivered-at list place t at =
    slice_get-set_same list place (record t { delivered = true }) (slice_get_within list place t at)

-- ---- the sorts of frames

is_call_sort : Sort → Bool
is_call_sort sort.Call = true
is_call_sort sort.Numbered = false
is_call_sort sort.Plain = false

call-of : (c : Control) → is_call c ≡ is_call_sort (sort_of c)
unfolding is_call_sort
call-of (I ns nr) = refl
call-of (Rr nr) = refl
call-of (Rnr nr) = refl
call-of (Rej nr) = refl
call-of Sabm = refl
call-of Disc = refl
call-of Dm = refl
call-of Ua = refl
call-of Frmr = refl
call-of Ui = refl

numbered-of : (c : Control) → is_numbered_control c ≡ is_numbered (sort_of c)
numbered-of (I ns nr) = refl
numbered-of (Rr nr) = refl
numbered-of (Rnr nr) = refl
numbered-of (Rej nr) = refl
numbered-of Sabm = refl
numbered-of Disc = refl
numbered-of Dm = refl
numbered-of Ua = refl
numbered-of Frmr = refl
numbered-of Ui = refl

-- ---- what overtakes

-- where none behind so many passes, each there doesn't
none-overtakes :
    (all : List Sent) (n k : ℕ) (sent : Sent) → list_any overtakes (drop n all) ≡ false → n ≤ k
    → slice_get all k ≡ Some sent → overtakes sent ≡ false
none-overtakes [] n k sent none within at = absurd cc
none-overtakes (one ∷ all) zero zero sent none within at =
    let first = or_parts (overtakes one) (list_any overtakes all) none in cc
none-overtakes (one ∷ all) zero (suc k) sent none within at =
    none-overtakes all zero k sent (or_parts (overtakes one) (list_any overtakes all) none).1 (omega arith) at
none-overtakes (one ∷ all) (suc n) zero sent none within at = absurd (omega arith)
none-overtakes (one ∷ all) (suc n) (suc k) sent none within at = none-overtakes all n k sent none (omega arith) at

-- and where one passes, it is there
record Overtaking (all : List Sent) (n : ℕ) : Type 0 where
  k : ℕ
  within : n ≤ k
  sent : Sent
  at : slice_get all k ≡ Some sent
  passes : overtakes sent ≡ true

one-overtakes : (all : List Sent) (n : ℕ) → list_any overtakes (drop n all) ≡ true → Overtaking all n
one-overtakes [] zero any = absurd cc
one-overtakes [] (suc n) any = absurd cc
one-overtakes (one ∷ all) zero any = elim (or_cases (overtakes one) (list_any overtakes all) any) [
  | inl first ↦ record { k = zero; within = omega arith; sent = one; at = refl; passes = first }
  | inr later ↦
      let it = one-overtakes all zero later in
      record { k = suc it.k; within = omega arith; sent = it.sent; at = it.at; passes = it.passes }
]
one-overtakes (one ∷ all) (suc n) any =
    let it = one-overtakes all n any in
    record { k = suc it.k; within = omega (arith, it.within); sent = it.sent; at = it.at; passes = it.passes }

module _ (all : List Sent) (list : List Transmission) (same : AreSentAs all list) where
  pub sent-count : length all ≡ length list
  sent-count = sym (AllZip-long IsSentAs all list same)

  -- one more was sent
  pub sent-more :
      (sent : Sent) (t : Transmission) → IsSentAs sent t → AreSentAs (all ++ sent ∷ []) (list ++ t ∷ [])
  sent-more sent t is = all_zipped_more IsSentAs all list sent t same is

  -- whether a frame overtakes is told by its transmission
  overtakes-is :
      (sent : Sent) (t : Transmission) → IsSentAs sent t
      → overtakes sent ≡ (t.delivered && is_numbered_control (control_of t))
  overtakes-is sent t is = let control = numbered-of (control_of t) in cc (is.sort_is, is.delivered_is)

  none-later : (place : ℕ) → list_any overtakes (drop (place + 1) all) ≡ false → NoneLater list place
  none-later place none later t behind at numbered =
      let found = pair-right IsSentAs all list same later t at in
      let passes : (t.delivered && is_numbered_control (control_of t)) ≡ false =
      sym (overtakes-is found.0 t found.2)
      ∙ none-overtakes all (place + 1) later found.0 none (omega (arith, behind)) found.1 in
      by t.delivered (is_numbered_control (control_of t)) passes numbered
    where
      by : (delivered is : Bool) → (delivered && is) ≡ false → is ≡ true → delivered ≡ false
      by true true both is = cc
      by true false both is = cc
      by false is both true_is = refl

  some-later : (place : ℕ) → list_any overtakes (drop (place + 1) all) ≡ true → NoneLater list place → ⊥
  some-later place any none =
      let it = one-overtakes all (place + 1) any in
      let found = pair-left IsSentAs all list same it.k it.sent it.at in
      let both =
      and_parts found.0.delivered (is_numbered_control (control_of found.0))
      (sym (overtakes-is it.sent found.0 found.2) ∙ it.passes) in
      both_ways found.0.delivered (none it.k found.0 (omega (arith, it.within)) found.1 both.1) both.0

  -- each transmission has its frame
  pub sent-some : (place : ℕ) (t : Transmission) → IsAt list place t → slice_get all place ≡ None → ⊥
  sent-some place t at none = let found = pair-right IsSentAs all list same place t at in cc

  -- with its octets
  pub sent-text :
      (place : ℕ) (sent : Sent) (t : Transmission) → slice_get all place ≡ Some sent → IsAt list place t
      → (octets : List ℕ) → octets ≡ sent.octets.items → FrameText t.frame octets
  sent-text place sent t at there octets octets_are =
      subst (FrameText t.frame) (sym octets_are) (pair-at IsSentAs all list same place sent t at there).text

  -- and is delivered with it
  pub sent-delivered :
      (place : ℕ) (sent : Sent) (t : Transmission) → slice_get all place ≡ Some sent → IsAt list place t
      → AreSentAs (slice_set all place (record sent { is_delivered = true })) (delivering list place t)
  sent-delivered place sent t at there =
      let is = pair-at IsSentAs all list same place sent t at there in
      pair-set IsSentAs all list same place (record sent { is_delivered = true }) (record t { delivered = true })
      (record { text = is.text; sort_is = is.sort_is; delivered_is = refl })

  -- nothing is at a place where no frame is
  pub none-lawful : (w : Window) (place : ℕ) → slice_get all place ≡ None → MayDeliver w list place → ⊥
  none-lawful w place at may =
      let found = pair-right IsSentAs all list same place may.0 may.1.sent in cc

  module _ (place : ℕ) (sent : Sent) (at : slice_get all place ≡ Some sent) where
    is-it : (t : Transmission) → IsAt list place t → IsSentAs sent t
    is-it t there = pair-at IsSentAs all list same place sent t at there

    -- a SABM comes once
    pub call-lawful :
        (w : Window) → sent.sort ≡ sort.Call → IsTrue (not sent.is_delivered) ↔ MayDeliver w list place
    unfolding is_call_sort
    call-lawful w is =
        let found = pair-left IsSentAs all list same place sent at in
        let control = numbered-of (control_of found.0) in (
          λ fresh_is. (
            found.0,
            record {
              sent = found.1;
              call = λ _. sym found.2.delivered_is ∙ not-true sent.is_delivered fresh_is;
              overtaken = λ numbered. absurd (let no : true ≡ false = cc (found.2.sort_is, is, numbered) in cc);
            },
          ),
          λ may.
              let it = is-it may.0 may.1.sent in
              let call = call-of (control_of may.0) in
              let is_call_it : is_call (control_of may.0) ≡ true = cc (it.sort_is, is) in
              not_from_false sent.is_delivered (it.delivered_is ∙ may.1.call is_call_it),
        )

    -- a frame of another kind but I and S comes whenever it will
    pub plain-lawful : (w : Window) → sent.sort ≡ sort.Plain → MayDeliver w list place
    unfolding is_call_sort
    plain-lawful w is =
        let found = pair-left IsSentAs all list same place sent at in
        let numbered_is = numbered-of (control_of found.0) in
        let call_is = call-of (control_of found.0) in (
          found.0,
          record {
            sent = found.1;
            call = λ call. absurd (let no : true ≡ false = cc (found.2.sort_is, is, call) in cc);
            overtaken = λ numbered. absurd (let no : true ≡ false = cc (found.2.sort_is, is, numbered) in cc);
          },
        )

    -- one that isn't overtaken
    pub foremost-lawful :
        (w : Window) → sent.sort ≡ sort.Numbered → list_any overtakes (drop (place + 1) all) ≡ false
        → MayDeliver w list place
    unfolding is_call_sort
    foremost-lawful w is none =
        let found = pair-left IsSentAs all list same place sent at in
        let call_is = call-of (control_of found.0) in (
          found.0,
          record {
            sent = found.1;
            call = λ call. absurd (let no : true ≡ false = cc (found.2.sort_is, is, call) in cc);
            overtaken = λ numbered. inl (none-later place none);
          },
        )

    -- one that is overtaken, and by few
    pub overtaken-lawful :
        (k : ℕ) (recent : Bool) → sent.sort ≡ sort.Numbered
        → list_any overtakes (drop (place + 1) all) ≡ true
        → IsTrue recent ↔ (length all - 1 - place ≤ 7 - k) → IsTrue recent ↔ MayDeliver (window_of k) list place
    unfolding is_call_sort
    overtaken-lawful k recent is any few =
        let found = pair-left IsSentAs all list same place sent at in
        let call_is = call-of (control_of found.0) in
        let count = sent-count in (
          λ recent_is. (
            found.0,
            record {
              sent = found.1;
              call = λ call. absurd (let no : true ≡ false = cc (found.2.sort_is, is, call) in cc);
              overtaken = λ numbered. inr (omega (arith, few.0 recent_is, count));
            },
          ),
          λ may.
              let it = is-it may.0 may.1.sent in
              let numbered_is = numbered-of (control_of may.0) in
              let numbered : is_numbered_control (control_of may.0) ≡ true = cc (it.sort_is, is) in
              elim (may.1.overtaken numbered) [
                | inl none ↦ absurd (some-later place any none)
                | inr within ↦ few.1 (omega (arith, within, count))
              ],
        )
