-- Each server ends with nothing to send.
use Rattle.std.proofs.Common.{◌≡◌, ◌⊎◌, ℕ, zero, suc, ◌+◌, ◌<◌, ◌≤◌, List, [], ◌∷◌, Option, None, Some, refl, sym, ap₂, subst, inl, inr, arith}
use Rattle.std.specs.Option.{option_map}
use Rattle.ax25_link.specs.Sending.{Sending, next_sending}
use Rattle.ftl0_server.specs.Fits.{SlotFits, SlotsFit}
use Rattle.ftl0_server.proofs.Names.{common_steps, FrameValue, IsEnd, LinkEnd, count_of, Window, left_to_send, next_sending-Sends, AllFit, PlaceFits, Place, IsSilent, Refused, Server, ServerSends, sends_by, sends_of_places, server_next, settled, AllPlaces, SendsAs, SendsFor, ServerState, Empties, PlacesSend, Slot, SlotSends, all_freed, connected, first_of, free, freed, leaving, places_next, slot_next, slot_sends}
use Rattle.ftl0_server.proofs.AllPlaces.{by-pairs, never, sends-cases}

-- ---- fewer frames are left

module _ (w : Window) where
  abbrev slot_left : Slot → ℕ
  slot_left free = 0
  slot_left (connected c) = left_to_send c.end
  slot_left (leaving c) = left_to_send c.end

  abbrev slots_left : List Slot → ℕ
  slots_left [] = 0
  slots_left (s ∷ ss) = slot_left s + slots_left ss

  -- what a slot that has sent is
  abbrev SlotLess : ℕ → SlotSends → Type 0
  SlotLess left x = SlotFits w x.after × (slot_left x.after < left)

  end-less : (end : LinkEnd) (slot : LinkEnd → Slot)
      → ((after : LinkEnd) → IsEnd w after → left_to_send after < left_to_send end → SlotFits w (slot after) × (slot_left (slot after) < left_to_send end))
      → (o : Option Sending) → next_sending w end ≡ o → IsEnd w end → (x : SlotSends) → option_map (slot_sends slot) o ≡ Some x → SlotLess (left_to_send end) x
  end-less end slot each None is fits x sends = absurd (never x sends)
  end-less end slot each (Some sending) is fits x sends =
      let s = next_sending-Sends w end sending fits is in
      let it = each sending.after s.fits s.less in grind (arith, common_steps)

  slot-less : (s : Slot) → SlotFits w s → (x : SlotSends) → slot_next w s ≡ Some x → SlotLess (slot_left s) x
  slot-less s fits x sends = grind (arith, common_steps, never, end-less)

  abbrev PlacesLess : ℕ → PlacesSend → Type 0
  PlacesLess left y = SlotsFit w y.after × (slots_left y.after < left)

  first-less : (s : Slot) (ss : List Slot) (o : Option SlotSends) (l : Option PlacesSend) → ((x : SlotSends) → o ≡ Some x → SlotLess (slot_left s) x)
      → ((y : PlacesSend) → l ≡ Some y → PlacesLess (slots_left ss) y) → SlotFits w s → SlotsFit w ss → (z : PlacesSend) → first_of s ss o l ≡ Some z
      → PlacesLess (slot_left s + slots_left ss) z
  first-less s ss None None first later fits all z sends = absurd (never z sends)
  first-less s ss None (Some y) first later fits all z sends = let of = later y refl in grind (arith, common_steps)
  first-less s ss (Some x) l first later fits all z sends = let of = first x refl in grind (arith, common_steps)

  places-less : (slots : List Slot) → SlotsFit w slots → (z : PlacesSend) → places_next w slots ≡ Some z → PlacesLess (slots_left slots) z
  places-less [] fits z sends = absurd (never z sends)
  places-less (s ∷ ss) fits z sends =
      first-less s ss (slot_next w s) (places_next w ss) (slot-less s fits.0) (places-less ss fits.1) fits.0 fits.1 z sends

  slot-fits : (p : Place) (s : Slot) → SendsAs w p s → PlaceFits p → SlotFits w s
  slot-fits = sends-cases w (λ p s. PlaceFits p → SlotFits w s) (λ d c stands fit. fit w c.end stands) (λ link none fit. tt) (λ link c stands fit. fit w c.end stands)

  slots-fit : (places : List Place) (slots : List Slot) → AllFit places → AllPlaces (SendsAs w) places slots → SlotsFit w slots
  slots-fit places slots fit all =
      by-pairs (SendsAs w) (λ ps ss. AllFit ps → SlotsFit w ss) (λ fit. tt)
      (λ p s ps ss here others later fit. (slot-fits p s here (fit 0 p refl), later (λ i there at. fit (suc i) there at))) places slots all fit

-- how many are left of a server
abbrev pub server_left : Server → ℕ
server_left server = count_of server.stray + slots_left server.window server.slots

abbrev pub ServerLess : ℕ → ServerSends → Type 0
ServerLess left sends = SlotsFit sends.after.window sends.after.slots × (server_left sends.after < left)

by_places : (server : Server) (o : Option PlacesSend) → places_next server.window server.slots ≡ o → server.stray ≡ None
    → SlotsFit server.window server.slots → (sends : ServerSends) → sends_of_places server o ≡ Some sends → ServerLess (server_left server) sends
by_places server None is none fits sends gives = absurd (never sends gives)
by_places server (Some z) is none fits sends gives =
    let of = places-less server.window server.slots fits z is in grind (arith, common_steps)

pub by_stray : (server : Server) (o : Option Refused) → server.stray ≡ o → SlotsFit server.window server.slots → (sends : ServerSends)
    → sends_by server o ≡ Some sends → ServerLess (server_left server) sends
by_stray server None is fits sends gives = by_places server (places_next server.window server.slots) refl is fits sends gives
by_stray server (Some refused) is fits sends gives = grind (arith, common_steps)

option_cases : {X : Type 0} (o : Option X) → (o ≡ None) ⊎ ((x : X) × (o ≡ Some x))
option_cases None = inl refl
option_cases (Some x) = inr (x, refl)

pub emptied : (fuel : ℕ) (server : Server) → SlotsFit server.window server.slots → server_left server ≤ fuel
    → (frames : List FrameValue) × (last : Server) × Empties server frames last
emptied zero server fits few =
    elim (option_cases (server_next server)) [
      | inl none ↦ ([], server, (none, refl))
      | inr some ↦ let of = by_stray server server.stray refl fits some.0 some.1 in absurd (omega (arith, of.1, few))
    ]
emptied (suc fuel) server fits few =
    elim (option_cases (server_next server)) [
      | inl none ↦ ([], server, (none, refl))
      | inr some ↦
          let of = by_stray server server.stray refl fits some.0 some.1 in
          let rest = emptied fuel some.0.after of.0 (omega (arith, of.1, few)) in
          (some.0.frame ∷ rest.0, rest.1, (some.0, some.1, refl, rest.2))
    ]

pub empties : (self : ServerState) (server : Server) → AllFit self.places → SendsFor self server
    → (frames : List FrameValue) × (last : Server) × Empties server frames last
empties self server fit is = emptied (server_left server) server (slots-fit server.window self.places server.slots fit is.links) (omega arith)

-- the last server has nothing to send
pub empties-silent : (server : Server) (frames : List FrameValue) (last : Server) → Empties server frames last → IsSilent last
empties-silent server [] last h = subst (λ (s : Server). IsSilent s) (sym h.1) h.0
empties-silent server (frame ∷ frames) last h = empties-silent h.0.after frames last h.3

-- ---- what has nothing to send has nothing to send once its places are settled

pub first_none : (slot : Slot) (slots : List Slot) (first : Option SlotSends) (later : Option PlacesSend) → first_of slot slots first later ≡ None → (first ≡ None) × (later ≡ None)
first_none slot slots first later h = grind (arith, common_steps)

freed_silent : (w : Window) (slot : Slot) → slot_next w slot ≡ None → slot_next w (freed slot) ≡ None
freed_silent w slot h = grind (arith, common_steps)

places_silent : (w : Window) (slots : List Slot) → places_next w slots ≡ None → places_next w (all_freed slots) ≡ None
places_silent w [] h = h
places_silent w (slot ∷ slots) h =
    let both = first_none slot slots (slot_next w slot) (places_next w slots) h in
    ap₂ (λ (a : Option SlotSends) (b : Option PlacesSend). first_of (freed slot) (all_freed slots) a b) (freed_silent w slot both.0) (places_silent w slots both.1)

silent_by : (server : Server) (stray : Option Refused) → sends_by server stray ≡ None → sends_by (settled server) stray ≡ None
silent_by server stray h = grind (arith, common_steps, places_silent)

pub silent-settled : (server : Server) → IsSilent server → IsSilent (settled server)
silent-settled server h = silent_by server server.stray h
