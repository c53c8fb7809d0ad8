-- What is true of each server stays so, whatever happens at one place.
use Rattle.std.proofs.Common.{◌≡◌, ◌≢◌, ◌⊎◌, ℕ, zero, suc, ◌<◌, List, [], ◌∷◌, length, get_or, set, Bool, true, false, Option, rules, None, Some, refl, sym, ◌∙◌, ap, subst, inl, inr, arith}
use Rattle.file_store.specs.Upload.{entry_for}
use Rattle.ftl0_session.specs.Uploads.Session.{is_same_call}
use Rattle.ftl0_session.specs.declared.uploads.phase.Phase.TheVariants as phase
use Rattle.ftl0_session.proofs.downloads.DueLemmas.{due-kept}
use Rattle.ftl0_server.proofs.Names.{common_steps, slice_get, eqb_tells, All-set, same_Some, slice_get_within, CallSign, slice_get-set_other, slice_get-set_same, PacketLinkState, KeepsComplete, partial, StoreState, store_in, KeepsOtherCallers, NoOtherOut, PhaseIsHeld, state_of, Phase, same_call-decides, caller_of, ConnectionState, GoesOn, IsEmptied, Works, Place, Moving, Talking, Empty, HasLink, IsAt, IsSeated, IsSettled, IsUploadOf, IsEmpty, SaysAs, Slot}

bool-cases : (b : Bool) → (b ≡ true) ⊎ (b ≡ false)
bool-cases b = grind (arith, common_steps)

pub same-call : (one other : CallSign) → (one ≡ other) ⊎ (one ≢ other)
same-call one other =
    elim (bool-cases (is_same_call one other)) [
      | inl is ↦ inl ((same_call-decides one other).0 is)
      | inr not_is ↦ inr (λ same. let is = (same_call-decides one other).1 same in let x : ⊥ = cc in x)
    ]

module _ (before now : StoreState) (caller : CallSign) (others : KeepsOtherCallers before now caller) where
  -- the upload of another caller's session stays held, with the same octets that wait
  pub held-kept : (other : CallSign) → other ≢ caller → (p : Phase) → PhaseIsHeld before other p → PhaseIsHeld now other p
  held-kept other ne p held = grind (arith, common_steps)

  pub state-kept : (other : CallSign) → other ≢ caller → (p : Phase) → PhaseIsHeld before other p → state_of now p ≡ state_of before p
  state-kept other ne phase.Command held = refl
  state-kept other ne (phase.Receiving up) held =
      let theirs : up.caller ≢ caller = λ same. ne (sym held.1 ∙ same) in
      let holds = others.uploads up theirs held.0 in
      let rest = (others.entries up.number (entry_for up holds.begun (partial holds.held)) theirs holds.entry).1 in
      rw rest refl
  state-kept other ne phase.Aborting held = refl

  pub out-kept : (other : CallSign) (number : Option ℕ) → other ≢ caller → NoOtherOut before other number → NoOtherOut now other number
  out-kept other number ne only n entry found theirs own = grind (arith, common_steps)

-- the connection at a place of places of which one is another now
pub at-set : (places : List Place) (i j : ℕ) (p : Place) (c : ConnectionState) → i < length places → IsAt (set places i p) j c
    → ((j ≡ i) × (p ≡ Talking c)) ⊎ ((j ≢ i) × IsAt places j c)
at-set places i j p c within at =
    grind (arith, common_steps, eqb_tells, same_Some, slice_get-set_same, slice_get-set_other)

pub leaving-no : (link : PacketLinkState) (c : ConnectionState) → Empty link ≡ Talking c → ⊥
leaving-no link c same = cc

-- ---- an event at the place of a connection

module _ (me : CallSign) (k : ℕ) (before now : StoreState) (places : List Place) (i : ℕ) (old : ConnectionState) (at : IsAt places i old)
    (settled : IsSettled me k before places) (others : KeepsOtherCallers before now (caller_of old.session)) where
  abbrev within : i < length places
  within = slice_get_within places i (Talking old) at

  -- a connection at another place has another caller
  pub other-caller : (j : ℕ) (c : ConnectionState) → j ≢ i → IsAt places j c → caller_of c.session ≢ caller_of old.session
  other-caller j c ne there same = ne (settled.distinct j i c old there at same)

  module _ (complete : KeepsComplete (store_in before) (store_in now)) (healthy : now.journal.failed ≡ false → before.journal.failed ≡ false) where
    -- it is seated still
    pub seated-kept : (j : ℕ) (c : ConnectionState) → j ≢ i → IsAt places j c → IsSeated me k now c
    seated-kept j c ne there =
        let was = settled.seated j c there in
        let held = held-kept before now (caller_of old.session) others (caller_of c.session) (other-caller j c ne there) c.session.uploads.phase was.held in
        let due = (due-kept (store_in before) (store_in now) c.session.downloads complete was.due).0 in grind (arith, common_steps)

    -- its link is kept
    link-kept : (p : Place) → HasLink me k before p → HasLink me k now p
    link-kept Moving has = has
    link-kept (Talking c) has = has
    link-kept (Empty link) has = record { me_is = has.me_is; k_is = has.k_is; down = λ fine. has.down (healthy fine) }

    -- the place is this one now
    module _ (p : Place) (same : (c : ConnectionState) → p ≡ Talking c → caller_of c.session ≡ caller_of old.session)
        (seat : (c : ConnectionState) → p ≡ Talking c → IsSeated me k now c)
        (own : (number : Option ℕ) → IsUploadOf (set places i p) (caller_of old.session) number → NoOtherOut now (caller_of old.session) number)
        (link : HasLink me k now p) where
      set-seated : (j : ℕ) (c : ConnectionState) → IsAt (set places i p) j c → IsSeated me k now c
      set-seated j c there = let cases = at-set places i j p c within there in grind (arith, common_steps, seated-kept)

      set-distinct : (one another : ℕ) (first second : ConnectionState) → IsAt (set places i p) one first → IsAt (set places i p) another second
          → caller_of first.session ≡ caller_of second.session → one ≡ another
      set-distinct one another first second a b callers =
          let here = at-set places i one p first within a in
          let there = at-set places i another p second within b in grind (arith, common_steps, other-caller)

      set-upload : (caller : CallSign) (number : Option ℕ) → caller ≢ caller_of old.session → IsUploadOf (set places i p) caller number
          → IsUploadOf places caller number
      set-upload caller number ne is = grind (arith, common_steps, eqb_tells, slice_get-set_other, at-set)

      pub settled-set : IsSettled me k now (set places i p)
      settled-set = record {
        good = settled.good;
        seated = set-seated;
        distinct = set-distinct;
        only = λ caller number is.
            elim (same-call caller (caller_of old.session)) [
              | inl same_one ↦
                  subst (λ (x : CallSign). NoOtherOut now x number) (sym same_one)
                  (own number (subst (λ (x : CallSign). IsUploadOf (set places i p) x number) same_one is))
              | inr ne ↦
                  out-kept before now (caller_of old.session) others caller number ne (settled.only caller number (set-upload caller number ne is))
            ];
        links = All-set (HasLink me k now) places i p link (λ j d lt. link-kept (get_or places j d) (settled.links j d lt));
      }

-- a place that is what it was
pub set-get : {X : Type 0} (xs : List X) (i : ℕ) (x : X) → slice_get xs i ≡ Some x → set xs i x ≡ xs
set-get [] i x at = refl
set-get (y ∷ ys) zero x at = let same = same_Some y x at in ap (λ z. z ∷ ys) (sym same)
set-get (y ∷ ys) (suc i) x at = ap (λ zs. y ∷ zs) (set-get ys i x at)

-- the connection goes on
module _ (me : CallSign) (k : ℕ) (before now : StoreState) (places : List Place) (i : ℕ) (c : ConnectionState) (at : IsAt places i c)
    (settled : IsSettled me k before places) (others : KeepsOtherCallers before now (caller_of c.session))
    (complete : KeepsComplete (store_in before) (store_in now)) (healthy : now.journal.failed ≡ false → before.journal.failed ≡ false) where
  goes_on-seat : (d : ConnectionState) → GoesOn now c d → (e : ConnectionState) → Talking d ≡ Talking e → IsSeated me k now e
  goes_on-seat d on e is = grind (arith, common_steps)

  goes_on-same : (d : ConnectionState) → GoesOn now c d → (e : ConnectionState) → Talking d ≡ Talking e → caller_of e.session ≡ caller_of c.session
  goes_on-same d on e is = let one : d ≡ e = cc in ap (λ (x : ConnectionState). caller_of x.session) (sym one) ∙ on.caller

  goes_on-own : (d : ConnectionState) → GoesOn now c d → (number : Option ℕ) → IsUploadOf (set places i (Talking d)) (caller_of c.session) number
      → NoOtherOut now (caller_of c.session) number
  goes_on-own d on number is =
      let here = slice_get-set_same places i (Talking d) (slice_get_within places i (Talking c) at) in
      let the_number = is.0 i d here on.caller in grind (arith, common_steps)

  pub settled-goes_on : (d : ConnectionState) → GoesOn now c d → IsSettled me k now (set places i (Talking d))
  settled-goes_on d on = search (rules, arith, settled-set, goes_on-same, goes_on-seat, goes_on-own)

  -- its session is over
  over-own : (link : PacketLinkState) → NoOtherOut now (caller_of c.session) None → (number : Option ℕ) → IsUploadOf (set places i (Empty link)) (caller_of c.session) number
      → NoOtherOut now (caller_of c.session) number
  over-own link only number is = grind (arith, common_steps)

  over-link : (link : PacketLinkState) → IsEmptied now c link.link → IsEmpty me k now link.link
  over-link link over = let seat = settled.seated i c at in grind (arith, common_steps)

  pub settled-over : (link : PacketLinkState) → IsEmptied now c link.link → IsSettled me k now (set places i (Empty link))
  settled-over link over =
      settled-set me k before now places i c at settled others complete healthy (Empty link) (λ e is. absurd (leaving-no link e is)) (λ e is. absurd (leaving-no link e is))
      (over-own link over.only) (over-link link over)

-- nothing changes
unchanged : (me : CallSign) (k : ℕ) (before now : StoreState) (places : List Place) (i : ℕ) (old new : Place) → slice_get places i ≡ Some old
    → IsSettled me k before places → now ≡ before → new ≡ old → IsSettled me k now (set places i new)
unchanged me k before now places i old new at settled store same = grind (arith, common_steps, set-get)

-- whatever the place becomes
pub settled-works : (me : CallSign) (k : ℕ) (before now : StoreState) (places : List Place) (i : ℕ) (old new : Place) → slice_get places i ≡ Some old
    → IsSettled me k before places → Works before now old new → KeepsComplete (store_in before) (store_in now)
    → (now.journal.failed ≡ false → before.journal.failed ≡ false) → IsSettled me k now (set places i new)
settled-works me k before now places i Moving new at settled works complete healthy = unchanged me k before now places i Moving new at settled works.0 works.1
settled-works me k before now places i (Talking c) Moving at settled works complete healthy = absurd works.1
settled-works me k before now places i (Talking c) (Talking d) at settled works complete healthy = settled-goes_on me k before now places i c at settled works.0 complete healthy d works.1
settled-works me k before now places i (Talking c) (Empty link) at settled works complete healthy = settled-over me k before now places i c at settled works.0 complete healthy link works.1
settled-works me k before now places i (Empty link) new at settled works complete healthy = unchanged me k before now places i (Empty link) new at settled works.0 works.1

-- what another place is doesn't change
pub says-kept : (me : CallSign) (k : ℕ) (before now : StoreState) (places : List Place) (i : ℕ) (old new : Place) → slice_get places i ≡ Some old
    → IsSettled me k before places → Works before now old new → (j : ℕ) (place : Place) (slot : Slot) → j ≢ i → slice_get places j ≡ Some place
    → SaysAs before place slot → SaysAs now place slot
says-kept me k before now places i old new at settled works j place slot ne there says =
    grind (arith, common_steps, other-caller, state-kept)
