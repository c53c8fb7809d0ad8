-- A connection is seated at a place that has no session.
use Rattle.std.proofs.Common.{◌≡◌, ◌≢◌, ℕ, zero, suc, ◌+◌, ◌<◌, List, [], ◌∷◌, length, set, cond, get_or, Bool, true, false, not, Option, None, Some, refl, sym, ◌∙◌, ap, subst, inl, inr, arith}
use Rattle.ftl0_server.proofs.Names.{common_steps, slice_get, position, prefix_len, lt-ltb, All-get_or, All-set, slice_get-get_or, CallSign, Kept, is_pending, slice_get-set_other, slice_get-set_same, PacketLinkState, StoreState, Store, NoOtherOut, number_of, same_call-decides, has_left, SessionState, caller_of, HasBegun, MayBegin, AwaitsStranger, Connected, answering, ConnectionState, IsAnswered, IsConnection, Place, Moving, Talking, Empty, HasLink, IsAt, IsSeated, IsSettled, IsUploadOf, IsEmpty, Server, called_by, with_slot, IsServer, ServerState, has_caller, is_empty_place, place_pending, connected}
use Rattle.ftl0_server.proofs.AllPlaces.{all-set, never}
use Rattle.ftl0_server.proofs.HearLemmas.{found-passes, found-within, quiet-any}
use Rattle.ftl0_server.proofs.SettledLemmas.{at-set, same-call}

-- ---- a caller that no place has

front-step : (b : Bool) (n m : ℕ) → (b ≡ false → n < m) → cond (not b) (1 + n) 0 < suc m
front-step b n m less = grind (arith, common_steps)

passes-front : (p : Place → Bool) (places : List Place) (j : ℕ) (x : Place) → slice_get places j ≡ Some x → p x ≡ true
    → prefix_len (λ (y : Place). not (p y)) places < length places
passes-front p [] j x at is = absurd (never x at)
passes-front p (y ∷ ys) zero x at is = grind (arith, common_steps)
passes-front p (y ∷ ys) (suc j) x at is =
    front-step (p y) (prefix_len (λ (z : Place). not (p z)) ys) (length ys) (λ not_here. passes-front p ys j x at is)

pub nobody : (caller : CallSign) (places : List Place) → position (has_caller caller) places ≡ None → (j : ℕ) (e : ConnectionState) → IsAt places j e
    → caller_of e.session ≢ caller
nobody caller places none j e at same = grind (arith, common_steps, lt-ltb, passes-front, same_call-decides)

-- ---- what is still true of a server

module _ (me : CallSign) (k : ℕ) (store : StoreState) (places : List Place) (i : ℕ) (c : ConnectionState) (within : i < length places)
    (free_there : (e : ConnectionState) → IsAt places i e → ⊥) (settled : IsSettled me k store places)
    (none : (j : ℕ) (e : ConnectionState) → IsAt places j e → caller_of e.session ≢ caller_of c.session) (seat : IsSeated me k store c)
    (no_upload : number_of c.session.uploads.phase ≡ None) where
  there : IsAt (set places i (Talking c)) i c
  there = slice_get-set_same places i (Talking c) within

  same_talk : (e : ConnectionState) → Talking c ≡ Talking e → c ≡ e
  same_talk e same = cc

  -- at each other place is what was there
  before : (j : ℕ) (e : ConnectionState) → j ≢ i → IsAt places j e → IsAt (set places i (Talking c)) j e
  before j e ne at = slice_get-set_other places i j (Talking c) ne ∙ at

  not-there : (j : ℕ) (e : ConnectionState) → IsAt places j e → j ≢ i
  not-there j e at same = free_there e (subst (λ (n : ℕ). IsAt places n e) same at)

  seats-seated : (j : ℕ) (e : ConnectionState) → IsAt (set places i (Talking c)) j e → IsSeated me k store e
  seats-seated j e at = grind (arith, common_steps, at-set, same_talk)

  seats-distinct : (one other : ℕ) (first second : ConnectionState) → IsAt (set places i (Talking c)) one first → IsAt (set places i (Talking c)) other second
      → caller_of first.session ≡ caller_of second.session → one ≡ other
  seats-distinct one other first second a b callers = grind (arith, common_steps, at-set, same_talk)

  seats-only : (caller : CallSign) (number : Option ℕ) → IsUploadOf (set places i (Talking c)) caller number → NoOtherOut store caller number
  seats-only caller number is =
      elim (same-call caller (caller_of c.session)) [
        | inl same ↦
            let one : number ≡ None = is.0 i c there (sym same) ∙ no_upload in
            subst (λ (x : Option ℕ). NoOtherOut store caller x) (sym one)
            (settled.only caller None (λ j e at theirs. absurd (none j e at (theirs ∙ same)), λ nobody_has. refl))
        | inr ne ↦
            settled.only caller number (
              λ j e at theirs. is.0 j e (before j e (not-there j e at) at) theirs,
              λ nobody_has. is.1 (λ j e at theirs. let cases = at-set places i j (Talking c) e within at in grind (arith, common_steps, same_talk)),
            )
      ]

  pub settled-seat : IsSettled me k store (set places i (Talking c))
  settled-seat = record { good = settled.good; seated = seats-seated; distinct = seats-distinct; only = seats-only; links = All-set (HasLink me k store) places i (Talking c) tt settled.links }

-- a new connection of a server's is seated
new-seated : (me : CallSign) (k : ℕ) (store : StoreState) (link : Kept) (caller : CallSign) (poll : Bool) (moment : ℕ) (left : Bool) (c : ConnectionState) → IsEmpty me k store link
    → IsAnswered link caller poll moment left c → IsSeated me k store c
new-seated me k store link caller poll moment left c empty answered = grind (arith, common_steps)

-- the server with a new connection at this place
server-seated : (over : Store) (old : ServerState) (server : Server) (place : ℕ) (c : ConnectionState) (d : Connected) → IsServer over old server
    → IsConnection server.window old.store c d
    → IsServer over (record old { places = set old.places place (Talking c) }) (with_slot server place (connected d))
server-seated over old server place c d is talks = grind (arith, common_steps, all-set)

-- ---- a session begins at the place that was found

empty-here : (me : CallSign) (k : ℕ) (store : StoreState) (p : Place) → is_empty_place p ≡ true → HasLink me k store p → place_pending p ≡ false
    → (link : PacketLinkState) × (p ≡ Empty link) × IsEmpty me k store link.link × (is_pending link.link ≡ false)
empty-here me k store Moving empty has quiet = absurd has
empty-here me k store (Talking c) empty has quiet = absurd cc
empty-here me k store (Empty link) empty has quiet = (link, refl, has, quiet)

module _ (old : ServerState) (caller : CallSign) (place : ℕ) (d : Place) (found : position is_empty_place old.places ≡ Some place) (awaits : AwaitsStranger old caller)
    (settled : IsSettled old.me old.k old.store old.places) where
  abbrev within : place < length old.places
  within = found-within is_empty_place old.places place found

  at : slice_get old.places place ≡ Some (get_or old.places place d)
  at = slice_get-get_or old.places place d within

  empty : (link : PacketLinkState) × (get_or old.places place d ≡ Empty link) × IsEmpty old.me old.k old.store link.link × (is_pending link.link ≡ false)
  empty =
      empty-here old.me old.k old.store (get_or old.places place d) (found-passes is_empty_place old.places place d found)
      (All-get_or (HasLink old.me old.k old.store) old.places place d within settled.links) (quiet-any old.places place (get_or old.places place d) at awaits.quiet)

  pub may-begin : MayBegin (get_or old.places place d)
  may-begin = rw empty.1 (empty.2.down awaits.healthy, empty.3)

  module _ (poll : Bool) (moment : ℕ) (new : Place) (begun : HasBegun caller poll moment (has_left old.lists caller) (get_or old.places place d) new) where
    answered : (c : ConnectionState) × (new ≡ Talking c) × IsAnswered empty.0.link caller poll moment (has_left old.lists caller) c
    answered = rw empty.1 at begun

    no-one : (e : ConnectionState) → IsAt old.places place e → ⊥
    no-one e there = let same : Some (Talking e) ≡ Some (Empty empty.0) = sym there ∙ at ∙ ap (λ (p : Place). Some p) empty.1 in cc

    pub begun-settled : IsSettled old.me old.k old.store (set old.places place new)
    begun-settled =
        let c = answered.0 in
        let own : caller_of c.session ≡ caller = ap caller_of answered.2.session in
        rw answered.1
        (settled-seat old.me old.k old.store old.places place c within no-one settled (λ j e there same. nobody caller old.places awaits.stranger j e there (same ∙ own))
        (new-seated old.me old.k old.store empty.0.link caller poll moment (has_left old.lists caller) c empty.2 answered.2) (ap (λ (s : SessionState). number_of s.uploads.phase) answered.2.session))

    pub begun-server : (over : Store) (server : Server) → IsServer over old server
        → IsServer over (record old { places = set old.places place new }) (called_by server caller poll moment (Some place))
    begun-server over server is =
        let c = answered.0 in
        let answer = answering server.me caller poll moment (has_left server.lists caller) in
        let first = answered.2.stands old.store in
        let talks : IsConnection server.window old.store c answer = grind (arith, common_steps) in rw answered.1 (server-seated over old server place c answer is talks)
