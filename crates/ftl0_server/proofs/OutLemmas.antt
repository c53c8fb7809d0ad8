-- Frames are given out, and then nothing is pending.
use Rattle.std.proofs.Common.{◌≡◌, ℕ, zero, suc, List, [], ◌∷◌, map, Bool, true, false, Option, None, Some, sym, rules, ◌∙◌, subst, arith}
use Rattle.ax25_link.specs.Refusals.{refusal_frame}
use Rattle.ftl0_server.proofs.Names.{common_steps, All, ⊤, All-cons, All-nil, same_Some, CallSign, FrameText, canonical, Window, StoreState, Store, ConnectionState, Place, Talking, HandsOut, SamePlaces, HasLink, IsAt, IsSettled, PlacesGive, SamePlace, SameTalk, Refused, Server, sends_by, sends_of_places, server_next, settled, AllPlaces, IsServer, SaysAs, SendsAs, SendsFor, ServerState, any_pending, place_pending, PlacesSend, Slot, SlotSends, first_of, freed, places_next, slot_next}
use Rattle.ftl0_server.proofs.AllPlaces.{by-pairs, never}
use Rattle.ftl0_server.proofs.NextLemmas.{none_first}

-- the DM to a station without a connection goes out
pub stray-out : (Stands : ServerState → Server → Type 0) (old new : ServerState) (server : Server) (refused : Refused) (before now : List ℕ)
    → old.me ≡ server.me → old.stray ≡ server.stray → old.stray ≡ Some refused → Stands new (record server { stray = None })
    → now ≡ canonical (refusal_frame old.me refused) → FrameText (refusal_frame old.me refused) now
    → HandsOut Stands (server_next server) old new before now true
stray-out Stands old new server refused before now me stray is stands octets text = grind (arith, common_steps)

-- ---- what the places say stays

module _ (store : StoreState) where
  -- what the slot that has sent says
  abbrev SaysNext : Place → Option SlotSends → Type 0
  SaysNext p None = ⊤
  SaysNext p (Some sends) = SaysAs store p sends.after

  slot-says : (w : Window) (p : Place) (s : Slot) → SaysAs store p s → SaysNext p (slot_next w s)
  slot-says w p s says = grind (arith, common_steps)

  abbrev AllSay : List Place → Option PlacesSend → Type 0
  AllSay places None = ⊤
  AllSay places (Some sends) = AllPlaces (SaysAs store) places sends.after

  first-says : (p : Place) (ps : List Place) (s : Slot) (ss : List Slot) (o : Option SlotSends) (later : Option PlacesSend) → SaysAs store p s
      → AllPlaces (SaysAs store) ps ss → SaysNext p o → AllSay ps later → AllSay (p ∷ ps) (first_of s ss o later)
  first-says p ps s ss o later here all next others = grind (arith, common_steps)

  places-say : (w : Window) (places : List Place) (slots : List Slot) → AllPlaces (SaysAs store) places slots → AllSay places (places_next w slots)
  places-say w =
      by-pairs (SaysAs store) (λ ps ss. AllSay ps (places_next w ss)) tt
      (λ p s ps ss here all later. first-says p ps s ss (slot_next w s) (places_next w ss) here all (slot-says w p s here) later)

  same-says : (p q : Place) (s : Slot) → SamePlace p q → SaysAs store p s → SaysAs store q s
  same-says p q s same says = grind (arith, common_steps)

  pub all-same-say : (ps qs : List Place) (ss : List Slot) → SamePlaces ps qs → AllPlaces (SaysAs store) ps ss → AllPlaces (SaysAs store) qs ss
  all-same-say [] [] ss same all = all
  all-same-say [] (q ∷ qs) ss same all = absurd same
  all-same-say (p ∷ ps) [] ss same all = absurd same
  all-same-say (p ∷ ps) (q ∷ qs) [] same all = absurd all
  all-same-say (p ∷ ps) (q ∷ qs) (s ∷ ss) same all = (same-says p q s same.0 all.0, all-same-say ps qs ss same.1 all.1)

-- ---- the places give out a frame

module _ (old new : ServerState) (server : Server) (before now : List ℕ) (answer : Bool) (me : new.me ≡ old.me) (k : new.k ≡ old.k)
    (stray_new : new.stray ≡ old.stray) (store : new.store ≡ old.store) (lists : new.lists ≡ old.lists) (same : SamePlaces old.places new.places)
    (none : answer ≡ false → (new ≡ old) × (now ≡ before)) (no_stray : old.stray ≡ None) where
  sends-after : (slots : List Slot) → SendsFor old server → AllPlaces (SendsAs server.window) new.places slots → SendsFor new (record server { slots = slots })
  sends-after slots is links = grind (arith, common_steps)

  places-sends : (o : Option PlacesSend) → SendsFor old server → PlacesGive o server.window new.places now answer
      → HandsOut SendsFor (sends_of_places server o) old new before now answer
  places-sends o is gives = grind (arith, common_steps)

  places-next : (over : Store) (o : Option PlacesSend) → IsServer over old server → AllSay old.store old.places o → PlacesGive o server.window new.places now answer
      → HandsOut (IsServer over) (sends_of_places server o) old new before now answer
  places-next over None is say gives = (gives, (none gives).0, (none gives).1)
  places-next over (Some sends) is say gives =
      let all = all-same-say old.store old.places new.places sends.after same say in
      let after = sends-after sends.after is.sends gives.1 in
      let stands : IsServer over new (record server { slots = sends.after }) =
      record { sends = after; says = rw store all; store = is.store; lists = lists ∙ is.lists } in
      (gives.0, stands, gives.2, gives.3)

  pub places-out-sends : SendsFor old server → PlacesGive (places_next server.window server.slots) server.window new.places now answer
      → HandsOut SendsFor (server_next server) old new before now answer
  places-out-sends is gives = grind (arith, common_steps, places-sends)

  pub places-out-next : (over : Store) → IsServer over old server → PlacesGive (places_next server.window server.slots) server.window new.places now answer
      → HandsOut (IsServer over) (server_next server) old new before now answer
  places-out-next over is gives =
      subst (λ (o : Option Refused). HandsOut (IsServer over) (sends_by server o) old new before now answer) (sym no_stray ∙ is.sends.stray)
      (places-next over (places_next server.window server.slots) is (places-say old.store server.window old.places server.slots is.says) gives)

-- ---- nothing is pending

freed-sends : (w : Window) (p : Place) (s : Slot) → SendsAs w p s → place_pending p ≡ false → SendsAs w p (freed s)
freed-sends w = grind (arith, common_steps)

freed-says : (store : StoreState) (p : Place) (s : Slot) → SaysAs store p s → SaysAs store p (freed s)
freed-says store p s says = grind (arith, common_steps)

all-freed-sends : (w : Window) (places : List Place) (slots : List Slot) → any_pending places ≡ false → AllPlaces (SendsAs w) places slots
    → AllPlaces (SendsAs w) places (map freed slots)
all-freed-sends w places slots none all =
    by-pairs (SendsAs w) (λ ps ss. any_pending ps ≡ false → AllPlaces (SendsAs w) ps (map freed ss)) (λ none. tt)
    (λ p s ps ss here others later none. let parts = none_first (place_pending p) (any_pending ps) none in (freed-sends w p s here parts.0, later parts.1)) places slots all none

all-freed-says : (store : StoreState) (places : List Place) (slots : List Slot) → AllPlaces (SaysAs store) places slots → AllPlaces (SaysAs store) places (map freed slots)
all-freed-says store = by-pairs (SaysAs store) (λ ps ss. AllPlaces (SaysAs store) ps (map freed ss)) tt (λ p s ps ss here all later. (freed-says store p s here, later))

pub settles : (over : Store) (self : ServerState) (server : Server) → any_pending self.places ≡ false → IsServer over self server → IsServer over self (settled server)
settles over self server none is = search (rules, arith, all-freed-sends, all-freed-says)

-- ---- what is true of a server is true after frames are given out

same-first : (p : Place) (d : ConnectionState) → SamePlace p (Talking d) → (c : ConnectionState) × (Some p ≡ Some (Talking c)) × SameTalk c d
same-first p d same = grind (arith, common_steps)

same-second : (q : Place) (c : ConnectionState) → SamePlace (Talking c) q → (d : ConnectionState) × (Some q ≡ Some (Talking d)) × SameTalk c d
same-second q c same = grind (arith, common_steps)

-- the links without a session are as they were
same-link : (me : CallSign) (k : ℕ) (store : StoreState) (p q : Place) → SamePlace p q → HasLink me k store p → HasLink me k store q
same-link me k store p q same has = grind (arith, common_steps)

same-links : (me : CallSign) (k : ℕ) (store : StoreState) (ps qs : List Place) → SamePlaces ps qs → All (HasLink me k store) ps → All (HasLink me k store) qs
same-links me k store [] [] same all = All-nil (HasLink me k store)
same-links me k store [] (q ∷ qs) same all = absurd same
same-links me k store (p ∷ ps) [] same all = absurd same
same-links me k store (p ∷ ps) (q ∷ qs) same all =
    All-cons (HasLink me k store) q qs (same-link me k store p q same.0 (all 0 p (omega arith))) (same-links me k store ps qs same.1 (λ i d lt. all (suc i) d (omega (arith, lt))))

same-get : (ps qs : List Place) (i : ℕ) (d : ConnectionState) → SamePlaces ps qs → IsAt qs i d → (c : ConnectionState) × IsAt ps i c × SameTalk c d
same-get [] [] i d same at = absurd (never (Talking d) at)
same-get [] (q ∷ qs) i d same at = absurd same
same-get (p ∷ ps) [] i d same at = absurd same
same-get (p ∷ ps) (q ∷ qs) zero d same at = same-first p d (subst (λ (x : Place). SamePlace p x) (same_Some q (Talking d) at) same.0)
same-get (p ∷ ps) (q ∷ qs) (suc i) d same at = same-get ps qs i d same.1 at

same-back : (ps qs : List Place) (i : ℕ) (c : ConnectionState) → SamePlaces ps qs → IsAt ps i c → (d : ConnectionState) × IsAt qs i d × SameTalk c d
same-back [] [] i c same at = absurd (never (Talking c) at)
same-back [] (q ∷ qs) i c same at = absurd same
same-back (p ∷ ps) [] i c same at = absurd same
same-back (p ∷ ps) (q ∷ qs) zero c same at = same-second q c (subst (λ (x : Place). SamePlace x q) (same_Some p (Talking c) at) same.0)
same-back (p ∷ ps) (q ∷ qs) (suc i) c same at = same-back ps qs i c same.1 at

pub settled-same : (me : CallSign) (k : ℕ) (store : StoreState) (ps qs : List Place) → SamePlaces ps qs → IsSettled me k store ps → IsSettled me k store qs
settled-same me k store ps qs same was =
    record {
      good = was.good;
      seated = λ i d at.
          let c = same-get ps qs i d same at in
          let seat = was.seated i c.0 c.1 in grind (arith, common_steps);
      distinct = λ one other first second a b callers.
          let c = same-get ps qs one first same a in
          let e = same-get ps qs other second same b in
          was.distinct one other c.0 e.0 c.1 e.1 (grind (arith, common_steps));
      only = λ caller number is.
          was.only caller number (
            λ i c at theirs. let d = same-back ps qs i c same at in let own = is.0 i d.0 d.1 in grind (arith, common_steps),
            λ nobody_has. is.1 (λ i d at theirs. let c = same-get ps qs i d same at in nobody_has i c.0 c.1 (grind (arith, common_steps))),
          );
      links = same-links me k store ps qs same was.links;
    }
