-- What the packets of the octets of a frame make of a connection.
use Rattle.std.proofs.Common.{arith, ◌≡◌, ◌⊎◌, inl, inr, ℕ, List, ◌++◌, sym, subst}
use Rattle.ftl0_server.proofs.Names.{common_steps, Result, ⊤, CallSign, Ghosts, Window, Item, packets_of, rest_of, front-whole, IsKnown, store_on, DiskFault, WorkingOn, caller_of, state_in, State, at, session_over, Fate, Connected, ConnectionState, IsConnection, FeedsAll, HearsParts, IsGoing, IsSeen, carrying, LookAtNone, taking}
use Rattle.ftl0_server.proofs.KnownLemmas.{known-or-not}
use Rattle.ftl0_server.proofs.connection.HearsLemmas.{IsStop, parts-stopped, parts-whole, seen-first}

-- the connection goes on, or it stops
going-or : (told : Fate × Result ⊤ DiskFault) → IsGoing told ⊎ IsStop told
going-or told = grind (arith, common_steps)

module _ {D : Type 0} (g : Ghosts D) (on : (first second third : D) → g.lasts first second → g.lasts second third → g.lasts first third) (moment : ℕ) (old new : ConnectionState) (octets : List ℕ)
    (before now : WorkingOn D) (told : Fate × Result ⊤ DiskFault) (peer : old.link.peer ≡ caller_of old.session) (seen : IsSeen g moment old.session before (packets_of (old.octets ++ octets))) (w : Window) (c : Connected) (is : IsConnection w before.store old c) where
  -- what was heard, if these packets of these octets came, and others waited before
  abbrev Heard : CallSign → State → List ℕ → List Item → Type 0
  Heard caller state waiting items =
      HearsParts g w (rest_of (waiting ++ octets)) (λ failures. taking caller moment (session_over (store_on g before.store before.disk) before.lists state) c.end items failures 0)
      (at before.store before.disk) now new told

  -- by the octets, the state and the caller of the definitions' connection
  at-connected : Heard (caller_of old.session) (state_in before.store old.session) old.octets (packets_of (old.octets ++ octets)) → Heard c.end.peer c.state c.rest (packets_of (c.rest ++ octets))
  at-connected h = grind (arith, common_steps)

  -- the first of the packets
  seen-these : (items others : List Item) → packets_of (old.octets ++ octets) ≡ items ++ others → IsSeen g moment old.session before items
  seen-these items others same = seen-first g moment old.session before items others (rw same at seen)

  -- they stopped at a packet, or all were taken
  pub hears-all : FeedsAll g moment (carrying old.link (old.octets ++ octets) old.session) new before now told → Heard c.end.peer c.state c.rest (packets_of (c.rest ++ octets))
  hears-all h =
      let P : List Item → Type 0 = λ items. Heard (caller_of old.session) (state_in before.store old.session) old.octets items in
      elim (going-or told) [
        | inl going ↦
            let whole = front-whole (old.octets ++ octets) h.left new.octets h.feeds.items h.feeds.front (h.none going) (h.rest going) in
            at-connected
            (subst P whole.0
            (rw going (parts-whole g on w moment old.session before now new c.end h.feeds.items (rest_of (old.octets ++ octets)) whole.1 (rw going at h.feeds.takes (seen-these h.feeds.items (packets_of h.left) h.feeds.front.packets) w c.end 0 is.link))))
        | inr stops ↦
            at-connected
            (subst P (sym h.feeds.front.packets)
            (parts-stopped g on w moment old.session before now new c.end h.feeds.items (rest_of (old.octets ++ octets)) (packets_of h.left) told stops (h.feeds.takes (seen-these h.feeds.items (packets_of h.left) h.feeds.front.packets) w c.end 0 is.link)))
      ]

-- what is known or looked at, of the connection as the code has it
pub seen-octets : {D : Type 0} (g : Ghosts D) (moment : ℕ) (old : ConnectionState) (before : WorkingOn D) (w : Window) (c : Connected) (octets information : List ℕ) → IsConnection w before.store old c
    → c.end.peer ≡ caller_of old.session → octets ≡ information
    → IsKnown g before.disk ⊎ LookAtNone c.end.peer moment (session_over (store_on g before.store before.disk) before.lists c.state) (packets_of (c.rest ++ information))
    → IsSeen g moment old.session before (packets_of (old.octets ++ octets))
seen-octets g moment old before w c octets information is peer same (inl known) = inl known
seen-octets g moment old before w c octets information is peer same (inr looks) =
    elim (known-or-not g before.disk) [
      | inl known ↦ inl known
      | inr unknown ↦ inr (unknown, rw (same, is.rest, is.state, sym peer) looks)
    ]
