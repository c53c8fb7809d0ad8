-- What a frame makes of a server, by what it makes of one place.
use Rattle.std.proofs.Common.{◌≡◌, ◌⊎◌, ℕ, zero, suc, ◌<◌, List, [], ◌∷◌, length, get_or, set, Bool, true, false, Option, rules, None, Some, refl, sym, ◌∙◌, ap, subst, inl, inr, arith}
use Rattle.std.proofs.lemmas.List.Quantifiers.{position-Some}
use Rattle.ax25_frames.specs.Kinds.{FitsControl}
use Rattle.ftl0_server.specs.Calls.{HearsBy}
use Rattle.ftl0_server.proofs.Names.{common_steps, slice_get, ⊤, Result, Ok, Err, IsErr, position, slice_get-get_or, CallSign, Ghosts, FrameValue, CallerList, Store, IsKnown, IsReady, StoreState, store_on, DoesAmongReads, puts-among, puts_none, after_all, Failure, same_call-decides, caller_of, working_on, at, DiskFault, Connected, ConnectionState, with_reads, Happened, LooksAtNone, hearing, IsFor, hears, IsPlace, KeepsStore, MayHear, PlaceHears, PlaceHearsBy, Works, Hears, HearsEvent, HearsStranger, SameStore, Place, Moving, Talking, IsAt, IsSettled, Server, becoming, heard_at, hearing_at, hearing_by, hearing_stranger, LooksAtNoFile, LooksAtNoneAt, LooksAtNoneBy, happening, AllPlaces, IsServer, SaysAs, SendsAs, SendsFor, ServerState, any_pending, has_caller, is_empty_place, place_pending, Slot, connected, first_empty, is_callers, place_of, slot_after}
use Rattle.ftl0_server.proofs.AllPlaces.{all-both, all-get, all-set, all-to, never, same-position}
use Rattle.ftl0_server.proofs.connection.HearLemmas.{gives-nothing, nothing-done as does-nothing}
use Rattle.ftl0_server.proofs.connection.FeedLemmas.{fine, no-fault}
use Rattle.ftl0_server.proofs.NextLemmas.{none_first}
use Rattle.ftl0_server.proofs.TickLemmas.{all-works, own-only}

false_no : {X : Type 0} → false ≡ true → X
false_no same = absurd (let x : ⊥ = cc in x)

-- ---- whose connection it is

talks : (caller : CallSign) (p : Place) → has_caller caller p ≡ true → (c : ConnectionState) × (p ≡ Talking c) × (caller_of c.session ≡ caller)
talks caller p is = grind (arith, common_steps, false_no, same_call-decides)

-- the place that was found
pub found-within : (p : Place → Bool) (places : List Place) (i : ℕ) → position p places ≡ Some i → i < length places
found-within p places i found = (position-Some p places i Moving found).0

pub found-passes : (p : Place → Bool) (places : List Place) (i : ℕ) (d : Place) → position p places ≡ Some i → p (get_or places i d) ≡ true
found-passes p places i d found = (position-Some p places i d found).1

-- the connection of this caller
pub found-talks : (caller : CallSign) (places : List Place) (i : ℕ) (d : Place) → position (has_caller caller) places ≡ Some i
    → (c : ConnectionState) × (get_or places i d ≡ Talking c) × (caller_of c.session ≡ caller)
found-talks caller places i d found = talks caller (get_or places i d) (found-passes (has_caller caller) places i d found)

pub found-at : (caller : CallSign) (places : List Place) (i : ℕ) (d : Place) (c : ConnectionState) → position (has_caller caller) places ≡ Some i
    → get_or places i d ≡ Talking c → IsAt places i c
found-at caller places i d c found is = slice_get-get_or places i d (found-within (has_caller caller) places i found) ∙ ap (λ (p : Place). Some p) is

-- nothing is pending at any place
pub quiet-any : (places : List Place) (i : ℕ) (here : Place) → slice_get places i ≡ Some here → any_pending places ≡ false → place_pending here ≡ false
quiet-any [] i here at none = absurd (never here at)
quiet-any (p ∷ ps) zero here at none = grind (arith, common_steps)
quiet-any (p ∷ ps) (suc i) here at none = quiet-any ps i here at (none_first (place_pending p) (any_pending ps) none).1

-- the sender's connection may hear the frame
pub may-hear : (me : CallSign) (k : ℕ) (store : StoreState) (places : List Place) (i : ℕ) (d : Place) (frame : FrameValue)
    → position (has_caller frame.src) places ≡ Some i → IsSettled me k store places → any_pending places ≡ false → IsFor me frame
    → FitsControl frame.kind.control → MayHear store frame (get_or places i d)
may-hear me k store places i d frame found settled none is_for numbers =
    let c = found-talks frame.src places i d found in
    let at = found-at frame.src places i d c.0 found c.1 in
    let seated = settled.seated i c.0 at in
    let only = own-only me k store places i c.0 at settled in
    let quiet = quiet-any places i (Talking c.0) at none in
    let may : MayHear store frame (Talking c.0) = grind (arith, common_steps) in rw c.1 may

-- ---- places and slots

module _ (over : Store) (self : ServerState) (server : Server) (is : IsServer over self server) where
  pub all-are : AllPlaces (IsPlace server.window self.store) self.places server.slots
  all-are = all-both (SendsAs server.window) (SaysAs self.store) self.places server.slots is.sends.links is.says

  same-caller : (caller : CallSign) (p : Place) (s : Slot) → ((c : ConnectionState) → p ≡ Talking c → c.link.peer ≡ caller_of c.session)
      → SendsAs server.window p s → has_caller caller p ≡ is_callers caller s
  same-caller caller p s peer sends = grind (arith, common_steps)

  -- the caller's place
  pub same-place_of : (me : CallSign) (k : ℕ) → IsSettled me k self.store self.places → (caller : CallSign)
      → position (has_caller caller) self.places ≡ place_of caller server.slots
  same-place_of me k settled caller =
      same-position (has_caller caller) (is_callers caller) self.places server.slots
      (all-to (SendsAs server.window) (λ p s. has_caller caller p ≡ is_callers caller s) self.places server.slots
      (λ i p s at there sends. same-caller caller p s (λ c talks_is. (settled.seated i c (at ∙ ap (λ (x : Place). Some x) talks_is)).peer_is) sends)
      is.sends.links)

  -- the lowest empty place
  pub same-first_empty : position is_empty_place self.places ≡ first_empty server.slots
  same-first_empty = grind (arith, common_steps, same-position, all-to)

-- ---- a frame of a connected caller

module _ {D : Type 0} (g : Ghosts D) (old new : ServerState) (server : Server) (disk disk_now : D) (is : IsServer (store_on g old.store disk) old server)
    (settled : IsSettled old.me old.k old.store old.places) (frame : FrameValue) (moment : ℕ) (place : ℕ)
    (found : position (has_caller frame.src) old.places ≡ Some place) (c : ConnectionState) (is_at : IsAt old.places place c) (p : Place)
    (works : Works old.store new.store (Talking c) p) (me : new.me ≡ old.me) (k : new.k ≡ old.k) (stray : new.stray ≡ old.stray)
    (places : new.places ≡ set old.places place p) where
  -- the server as it is now, if the place is this one
  now-sends : (s : Slot) (store : Store) (lists : List CallerList) → SendsAs server.window p s
      → SendsFor new (record server { slots = set server.slots place s; store = store; lists = lists })
  now-sends s store lists here = grind (arith, common_steps, all-set)

  now-is : (s : Slot) (over store : Store) (lists : List CallerList) → IsPlace server.window new.store p s → over ≡ store → new.lists ≡ lists
      → IsServer over new (record server { slots = set server.slots place s; store = store; lists = lists })
  now-is s over store lists here same same_lists =
      let all = all-works server.window old.me old.k old.store new.store old.places server.slots place (Talking c) p s is_at settled works (all-are _ old server is) here in
      let says = all-to (IsPlace server.window new.store) (SaysAs new.store) (set old.places place p) (set server.slots place s) (λ i q t there it both. both.1) all in
      let sends = now-sends s store lists here.0 in grind (arith, common_steps)

  module _ (event : List Failure → Happened) where
    heard-by : (result : Result ⊤ DiskFault) → (result ≡ Ok tt → store_on g new.store disk_now ≡ after_all (store_on g old.store disk) (event []).done) → PlaceHearsBy g server.window event (at old.store disk) (working_on new.store new.lists disk_now) p result
        → HearsBy g (λ failures. heard_at server place (event failures)) old new disk disk_now result
    heard-by (Ok done) store by =
        let same : store_on g new.store disk_now ≡ after_all server.store (event []).done = store refl ∙ ap (λ (s : Store). after_all s (event []).done) is.store in
        (by.0, now-is (slot_after (event [])) (store_on g new.store disk_now) (after_all server.store (event []).done) (event []).lists by.2 same by.1, by.3)
    heard-by (Err fault) store by = search (rules, arith, now-sends)

  -- the slot of the place
  slot_is : (d : Connected) × (slice_get server.slots place ≡ Some (connected d)) × IsPlace server.window old.store (Talking c) (connected d)
  slot_is = grind (arith, common_steps, all-get, all-are)

  abbrev Seen : Connected → Type 0
  Seen d = IsKnown g disk ⊎ LooksAtNone server.window moment (store_on g old.store disk) old.lists d frame

  -- what the frame looks at of the connection there
  seen-at : IsKnown g disk ⊎ LooksAtNoFile server (hears frame moment) → (d : Connected) → slice_get server.slots place ≡ Some (connected d) → Seen d
  seen-at (inl known) d at = inl known
  seen-at (inr looks) d at =
      let here = subst (LooksAtNoneBy server frame moment) (sym (sym found ∙ same-place_of _ old server is old.me old.k settled frame.src)) looks in
      let there : LooksAtNone server.window moment server.store server.lists d frame = subst (LooksAtNoneAt server frame moment) at here in
      inr (rw (is.store, is.lists) there)

  pub server-hears : (result : Result ⊤ DiskFault) → IsKnown g disk ⊎ LooksAtNoFile server (hears frame moment)
      → ((d : Connected) → IsPlace server.window old.store (Talking c) (connected d) → Seen d
      → PlaceHears g server.window (hearing server.window moment (store_on g old.store disk) old.lists d frame) (at old.store disk) (working_on new.store new.lists disk_now) p result)
      → Hears g (happening server (hears frame moment)) old new disk disk_now result
  server-hears result seen hears_at =
      let slot = slot_is in
      let heard = hears_at slot.0 slot.2 (seen-at seen slot.0 slot.1) in
      let by : Hears g (λ failures. heard_at server place (hearing server.window moment (store_on g old.store disk) old.lists slot.0 frame failures)) old new disk disk_now result =
      record {
        parts = heard.parts;
        by = heard-by (with_reads (hearing server.window moment (store_on g old.store disk) old.lists slot.0 frame) heard.parts) result heard.store heard.by;
        since = heard.since;
      } in
      let over = subst (λ (s : Store). Hears g (λ failures. heard_at server place (hearing server.window moment s old.lists slot.0 frame failures)) old new disk disk_now result) is.store by in
      let among = subst (λ (l : List CallerList). Hears g (λ failures. heard_at server place (hearing server.window moment server.store l slot.0 frame failures)) old new disk disk_now result) is.lists over in
      let at_slot = subst (λ (o : Option Slot). Hears g (λ failures. hearing_at server frame moment failures place o) old new disk disk_now result) (sym slot.1) among in
      subst (λ (o : Option ℕ). Hears g (λ failures. hearing_by server frame moment failures o) old new disk disk_now result)
      (sym found ∙ same-place_of _ old server is old.me old.k settled frame.src) at_slot

-- ---- a frame of a station without a connection

module _ {D : Type 0} (g : Ghosts D) (old new : ServerState) (settled : IsSettled old.me old.k old.store old.places) (frame : FrameValue) (moment : ℕ) (disk : D)
    (found : position (has_caller frame.src) old.places ≡ None) (ready : IsReady g old.store disk) (lasts : g.lasts disk disk) (same : SameStore old new) where
  nothing-done : DoesAmongReads g ⊥ 0 old.store new.store disk disk []
  nothing-done =
      subst (λ (s : StoreState). DoesAmongReads g ⊥ 0 old.store s disk disk []) (sym same.store) (does-nothing g old.store old.store disk ready lasts (gives-nothing old.store))

  module _ (server : Server) (is : IsServer (store_on g old.store disk) old server) where
    stranger-hears : HearsStranger (λ s. hearing_stranger s frame moment) old new → Hears g (happening server (hears frame moment)) old new disk disk (Ok tt)
    stranger-hears heard =
        let stands = subst (λ (s : StoreState). IsServer (store_on g s disk) new (hearing_stranger server frame moment)) (sym same.store) (heard (store_on g old.store disk) server is) in
        let by : Hears g (λ failures. becoming (hearing_stranger server frame moment)) old new disk disk (Ok tt) =
        record { parts = []; by = (refl, stands, nothing-done); since = nothing-done.since } in
        subst (λ (o : Option ℕ). Hears g (λ failures. hearing_by server frame moment failures o) old new disk disk (Ok tt))
        (sym found ∙ same-place_of _ old server is old.me old.k settled frame.src) by

  stranger-keeps : KeepsStore g (IsErr fine) old.store new.store disk disk
  stranger-keeps = rw same.store (record {
    puts = puts-among g (IsErr fine) disk disk (puts_none g disk (IsErr fine) no-fault lasts);
    kept = λ number entry there whole. there;
    healthy = λ fine. ready.healthy;
    stands_on = ready.stands_on;
  })

  -- what it does to the server
  pub stranger-event : HearsStranger (λ s. hearing_stranger s frame moment) old new → HearsEvent g (hears frame moment) old new disk disk (Ok tt)
  stranger-event heard = record { hears = λ known server is. stranger-hears server is heard; alone = λ server is looks. stranger-hears server is heard; keeps = stranger-keeps; me = same.me }
