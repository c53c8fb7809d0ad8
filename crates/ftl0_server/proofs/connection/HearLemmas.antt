-- How a connection hears a frame.
use Rattle.std.proofs.Common.{arith, ◌≡◌, ◌⊎◌, inl, inr, ℕ, ◌<◌, true, false, List, [], ◌++◌, refl, ap, sym, ◌∙◌, subst}
use Rattle.ftl0_server.proofs.Names.{common_steps, Result, Ok, ⊤, All-nil, CallSign, FrameValue, Ghosts, Heard, Bytes, Closed, Nothing, Opened, Reopened, LinkEnd, Kept, StandsFor, Tells, after_frame, heard_of, Window, packets_of, rest_of, CallerList, has_left, IsReady, StoreState, store_on, Store, DoesAmongReads, among-parked, does-among, Does-none, on_parked, Phase, at, Failure, write_fails, Parks, DiskFault, State, WorkingOn, working_on, session_over, Fate, Stays, Ends, GivesUp, Connected, beginning, ConnectionState, IsConnection, HearsParts, LooksAtNoneAs, NoneDue, NoneDueBehind, parts_as, rest_as, with_end, resting, taking}
use Rattle.ftl0_server.proofs.connection.TakingLemmas.{looks-same}

-- the session's upload was given up
pub parks-same : (store store_n : StoreState) (of : Phase) → Parks store store_n of → GivesUp store store_n
parks-same store store_n of parks = grind (arith, common_steps)

pub gives-nothing : (store : StoreState) → GivesUp store store
gives-nothing store = record { entries = refl; journal = refl }

-- nothing else was done to it, and nothing to the disk
pub nothing-done : {D : Type 0} (g : Ghosts D) (before now : StoreState) (disk : D) → IsReady g before disk → g.lasts disk disk → GivesUp before now → DoesAmongReads g ⊥ 0 before now disk disk []
nothing-done g before now disk ready lasts gives_up =
    among-parked g ⊥ 0 before before now disk disk [] gives_up.entries gives_up.journal (does-among g ⊥ before before disk disk [] (Does-none g ⊥ before disk (λ never. never) ready lasts))

module _ {D : Type 0} (g : Ghosts D) (lasts : (disk : D) → g.lasts disk disk) (w : Window) (left : List ℕ) (end : LinkEnd) (state : State) (on : WorkingOn D) (store_n : StoreState)
    (connection : ConnectionState) (ready : IsReady g on.store on.disk) (gives_up : GivesUp on.store store_n) where
  -- nothing was done to the store
  does-nothing : DoesAmongReads g ⊥ 0 on.store store_n on.disk on.disk []
  does-nothing = nothing-done g on.store store_n on.disk ready (lasts on.disk) gives_up

  -- no packet was taken, and the session goes on
  pub parts-on : IsConnection w store_n connection (record { end = end; rest = left; state = state })
      → HearsParts g w left (λ failures. resting end state on.lists 0) (at on.store on.disk) (working_on store_n on.lists on.disk) connection (Stays, Ok tt)
  parts-on is = record {
    hears = record { parts = []; by = (refl, (refl, (refl, is)), does-nothing); since = does-nothing.since; store = λ fine. on_parked g on.store store_n on.disk gives_up.entries };
    over = λ failures halts. absurd cc;
    settled = λ goes. record { before = All-nil (λ part. part < 0); later = λ more later. refl };
  }

  -- the session is over
  pub parts-over : StandsFor w connection.link end
      → HearsParts g w left (λ failures. record (resting end state on.lists 0) { over = true }) (at on.store on.disk) (working_on store_n on.lists on.disk) connection (Ends, Ok tt)
  parts-over stands = grind (arith, common_steps, does-nothing, on_parked)

module _ {D : Type 0} (g : Ghosts D) (w : Window) (moment : ℕ) (frame : FrameValue) (before now : WorkingOn D) (new : ConnectionState) (result : Fate × Result ⊤ DiskFault) where
  -- what was heard of these octets, by what the link reported
  abbrev Told : Heard → Connected → LinkEnd → List ℕ → Type 0
  Told told c end octets =
      HearsParts g w (rest_as told c octets) (parts_as told moment (store_on g before.store before.disk) before.lists c end octets) (at before.store before.disk) now new result

  -- what the link reported decides
  pub parts-told : (old : ConnectionState) (told : Heard) → Tells old.link (λ w end. heard_of w end frame) told → (c : Connected) → IsConnection w before.store old c
      → Told told c (after_frame w c.end frame) frame.kind.information → Told (heard_of w c.end frame) c (after_frame w c.end frame) frame.kind.information
  parts-told old told tells c is h = subst (λ (t : Heard). Told t c (after_frame w c.end frame) frame.kind.information) (tells w c.end is.link) h

  -- it reported nothing that changes more than the end
  pub parts-quiet : (told : Heard) (c : Connected) (end : LinkEnd) (octets : List ℕ) → (told ≡ Nothing) ⊎ (told ≡ Opened) → Told Nothing c end octets → Told told c end octets
  parts-quiet told c end octets (inl is) h = subst (λ (t : Heard). Told t c end octets) (sym is) h
  parts-quiet told c end octets (inr is) h = subst (λ (t : Heard). Told t c end octets) (sym is) h

  -- information was next in the stream
  pub parts-bytes : (c : Connected) (end : LinkEnd) (octets information : List ℕ) → end.peer ≡ c.end.peer → octets ≡ information → Told Bytes (with_end c end) end octets → Told Bytes c end information
  parts-bytes c end octets information peer same h =
      let P : CallSign → List ℕ → Type 0 =
      λ caller o. HearsParts g w (rest_of (c.rest ++ o)) (λ failures. taking caller moment (session_over (store_on g before.store before.disk) before.lists c.state) end (packets_of (c.rest ++ o)) failures 0)
      (at before.store before.disk) now new result in
      subst (P c.end.peer) same (subst (λ (caller : CallSign). P caller octets) peer h)

-- if no octet of a file is looked at, nothing is due after the parts, if the session goes on
pub looks-due : (told : Heard) (moment : ℕ) (store : Store) (lists : List CallerList) (c : Connected) (end : LinkEnd) (octets : List ℕ) (failures : List Failure) → ((n : ℕ) → write_fails failures n ≡ false)
    → LooksAtNoneAs told moment store lists c end octets → (parts_as told moment store lists c end octets failures).over ≡ false → NoneDue (parts_as told moment store lists c end octets failures).state
looks-due Nothing moment store lists c end octets failures none looks goes = looks
looks-due Opened moment store lists c end octets failures none looks goes = looks
looks-due Reopened moment store lists c end octets failures none looks goes = refl
looks-due Bytes moment store lists c end octets failures none looks goes =
    subst NoneDueBehind
    (sym (looks-same c.end.peer moment (session_over store lists c.state) end (packets_of (c.rest ++ octets)) failures 0 looks.0 none))
    looks.1 goes
looks-due (Closed why) moment store lists c end octets failures none looks goes = absurd (cc goes)

-- the peer of an end is that of the link that stands for it
pub same-peer : (w : Window) (link link_n : Kept) (end next : LinkEnd) → StandsFor w link end → StandsFor w link_n next → link_n.peer ≡ link.peer → next.peer ≡ end.peer
same-peer w link link_n end next stands stands_n same = sym (ap (λ (k : Kept). k.peer) stands_n.kept) ∙ same ∙ ap (λ (k : Kept). k.peer) stands.kept

-- ---- a session that begins again

-- for the caller by the name that the definitions have
pub anew-at : (w : Window) (store : StoreState) (connection : ConnectionState) (end : LinkEnd) (moment : ℕ) (lists : List CallerList) (caller peer : CallSign) → caller ≡ peer
    → IsConnection w store connection (beginning end moment (has_left lists caller)) → IsConnection w store connection (beginning end moment (has_left lists peer))
anew-at w store connection end moment lists caller peer same is = grind (arith, common_steps)
