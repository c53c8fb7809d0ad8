-- The turns of a station on the air are turns of the station over its events.
use Rattle.std.proofs.Common.{◌≡◌, ℕ, List, [], ◌++◌, length, Bool, true, false, Option, None, Result, Ok, Err, refl, sym, ap, ◌∙◌, ◌⊎◌, subst, inl, inr, append-nil}
use Rattle.turn_loop.specs.declared.finished.Finished.TheVariants as finished
use Rattle.turn_loop.specs.declared.stop.NodeStop.TheVariants as stop
use Rattle.turn_loop.proofs.Names.{CallSign, Ghosts as AirGhosts, Turn, AtDisk, Course, at, NodeEvent, NodeEvents, Input, inputs_of, octets_in, Brings, inner, on_air, HasHeard, AreHandedOver, Brought, IsOpenBefore, LentParty, RanBy, StoppedInLast, TookAll, TookTurns, lent_party, Finished, OnAir, NodeStop, TurnTerms}
use Rattle.turn_loop.proofs.BringsLemmas.{brings-then, events-brought}
use Rattle.turn_loop.proofs.OnAirLemmas.{octets-nil}

module _ {S D : Type 0} (me : S → CallSign) (course : Course S D NodeEvent) (start : AtDisk (OnAir S) D) (call : CallSign) (own : me start.it.station ≡ call) (heard : HasHeard start.it.reader []) where
  -- what turns at moments hand over brings the station's events
  node-events : (turns : List Turn) (moments : List ℕ) (inputs : List Input) (events : List NodeEvent) → inputs ≡ inputs_of turns moments → length moments ≡ length turns
      → Brings (me start.it.station) [] inputs events → NodeEvents call turns moments events
  node-events turns moments inputs events is same brings =
      events-brought call turns moments events same
      (subst (λ (ins : List Input). Brings call [] ins events) is (subst (λ (m : CallSign). Brings m [] inputs events) own brings))

  took-all : (turns : List Turn) (moments : List ℕ) (inputs : List Input) (text : List ℕ) (now : AtDisk (OnAir S) D) (over : Bool) → inputs ≡ inputs_of turns moments → length moments ≡ length turns
      → TookAll (on_air me course) start inputs text now over
      → (events : List NodeEvent) × NodeEvents call turns moments events × TookAll course (inner start) events text (inner now) over
  took-all turns moments inputs text now over is same h =
      let all = h.0.1 [] octets-nil heard in
      (all.0, node-events turns moments inputs all.0 is same all.1, (all.2.1, h.1.0, h.2))

  open-before : (turns : List Turn) (moments given : List ℕ) → IsOpenBefore AreHandedOver (on_air me course) start turns moments given → IsOpenBefore (NodeEvents call) course (inner start) turns moments given
  open-before turns moments given h earlier next later before behind split moments_split same =
      let first = h earlier next later before behind split moments_split same in
      let all = first.5.1 [] octets-nil heard in
      (all.0, node-events earlier before first.0 all.0 first.1 same all.1, first.2, first.3, inner first.4, all.2.1, first.6)

  -- what came of it, with the events
  abbrev Ran : List Turn → List ℕ → Result Finished NodeStop → List ℕ → Bool → AtDisk (OnAir S) D → Type 0
  Ran turns moments result text unsaid now =
      (events : List NodeEvent) × NodeEvents call turns moments events
      × RanBy (NodeEvents call) course (inner start) (record { turns = turns; moments = moments; events = events }) result text unsaid (inner now)

  stopped-in-last : (all : Brought Input) (why : NodeStop) (text : List ℕ) (unsaid : Bool) (now : AtDisk (OnAir S) D) → all.events ≡ inputs_of all.turns all.moments → length all.moments ≡ length all.turns
      → StoppedInLast AreHandedOver (on_air me course) start all why text unsaid now
      → (events : List NodeEvent) × NodeEvents call all.turns all.moments events
      × StoppedInLast (NodeEvents call) course (inner start) (record { turns = all.turns; moments = all.moments; events = events }) why text unsaid (inner now)
  stopped-in-last all why text unsaid now is same h = by h.ends
    where
      by : ((all.turns ≡ []) × (h.least ≡ []) × (h.first ≡ []) × (on_air me course).halts start h.more why unsaid h.last now)
          ⊎ ((then_is : AtDisk (OnAir S) D) × (on_air me course).goes start h.least h.first then_is × (on_air me course).halts then_is h.more why unsaid h.last now)
          → (events : List NodeEvent) × NodeEvents call all.turns all.moments events
          × StoppedInLast (NodeEvents call) course (inner start) (record { turns = all.turns; moments = all.moments; events = events }) why text unsaid (inner now)
      by (inl none) =
          let behind = none.3.1 [] octets-nil heard in
          let none_before : h.least ++ h.more ≡ h.more = ap (λ (ins : List Input). ins ++ h.more) none.1 in (
            behind.0,
            node-events all.turns all.moments all.events behind.0 is same (subst (λ (ins : List Input). Brings (me start.it.station) [] ins behind.0) (sym (h.events_are ∙ none_before)) behind.1),
            record {
              earlier = h.earlier;
              but_last = h.but_last;
              before = h.before;
              behind = h.behind;
              split = h.split;
              one_each = h.one_each;
              least = [];
              brought = node-events h.earlier h.before h.least [] h.brought h.one_each (subst (λ (ins : List Input). Brings (me start.it.station) [] ins []) (sym none.1) refl);
              first = h.first;
              last = h.last;
              text_is = h.text_is;
              more = behind.0;
              events_are = refl;
              ends = inl (none.0, refl, none.2, behind.2);
            },
          )
      by (inr some) =
          let first = some.1.1 [] octets-nil heard in
          let behind = some.2.1 (octets_in h.least) some.1.0.are_octets first.2.0 in
          let later : Brings (me start.it.station) (octets_in h.least) h.more behind.0 = subst (λ (m : CallSign). Brings m (octets_in h.least) h.more behind.0) some.1.0.same_me behind.1 in (
            first.0 ++ behind.0,
            node-events all.turns all.moments all.events (first.0 ++ behind.0) is same
                (subst (λ (ins : List Input). Brings (me start.it.station) [] ins (first.0 ++ behind.0)) (sym h.events_are)
                (brings-then (me start.it.station) [] h.least h.more first.0 behind.0 first.1 later)),
            record {
              earlier = h.earlier;
              but_last = h.but_last;
              before = h.before;
              behind = h.behind;
              split = h.split;
              one_each = h.one_each;
              least = first.0;
              brought = node-events h.earlier h.before h.least first.0 h.brought h.one_each first.1;
              first = h.first;
              last = h.last;
              text_is = h.text_is;
              more = behind.0;
              events_are = refl;
              ends = inr (inner some.0, first.2.1, behind.2);
            },
          )

  ran : (all : Brought Input) (result : Result Finished NodeStop) (text : List ℕ) (unsaid : Bool) (now : AtDisk (OnAir S) D) → all.events ≡ inputs_of all.turns all.moments → length all.moments ≡ length all.turns
      → RanBy AreHandedOver (on_air me course) start all result text unsaid now → Ran all.turns all.moments result text unsaid now
  ran all (Ok (finished.Over count)) text unsaid now is same h = took-all all.turns all.moments all.events text now true is same h
  ran all (Ok (finished.Closed count)) text unsaid now is same h = took-all all.turns all.moments all.events text now false is same h
  ran all (Err stop.AirRead) text unsaid now is same h = took-all all.turns all.moments all.events text now false is same h
  ran all (Err stop.Spent) text unsaid now is same h = took-all all.turns all.moments all.events text now false is same h
  ran all (Err stop.AirWrite) text unsaid now is same h = stopped-in-last all stop.AirWrite text unsaid now is same h
  ran all (Err stop.Disk) text unsaid now is same h = stopped-in-last all stop.Disk text unsaid now is same h
  ran all (Err stop.OutOfMemory) text unsaid now is same h = stopped-in-last all stop.OutOfMemory text unsaid now is same h
  ran all (Err (stop.NotAStore found)) text unsaid now is same h = absurd h
  ran all (Err (stop.Damaged at)) text unsaid now is same h = absurd h

module _ {S D A C : Type 0} (me : S → CallSign) (course : Course S D NodeEvent) (air : AirGhosts A) (given : C → Option (List ℕ)) (terms : TurnTerms) (call : CallSign) where
  -- the turns of the station
  pub station-turns : (old new : LentParty (OnAir S) D A C) (result : Result Finished NodeStop) → me old.party.station ≡ call → HasHeard old.party.reader []
      → TookTurns AreHandedOver (on_air me course) air given old new terms result
      → TookTurns (NodeEvents call) course air given (lent_party old.party.station old.disk old.air old.clock) (lent_party new.party.station new.disk new.air new.clock) terms result
  station-turns old new result own heard h =
      let start = at old.party old.disk in
      let all = ran me course start call own heard h.all result h.text h.unsaid (at new.party new.disk) h.brings h.one_each h.ran in
      record {
        all = record { turns = h.all.turns; moments = h.all.moments; events = all.0 };
        text = h.text;
        turns_heard = h.turns_heard;
        moments_given = h.moments_given;
        text_said = h.text_said;
        one_each = h.one_each;
        brings = all.1;
        bound = h.bound;
        ends = h.ends;
        open_before = open-before me course start call own heard h.all.turns h.all.moments h.text h.open_before;
        counts = h.counts;
        unsaid = h.unsaid;
        is_unsaid = h.is_unsaid;
        ran = all.2;
      }

-- before the first octet, what the station owes is what it owes on the air
pub owes-first : {S D : Type 0} (me : S → CallSign) (course : Course S D NodeEvent) (a : AtDisk (OnAir S) D) → a.it.reader.me ≡ me a.it.station → HasHeard a.it.reader [] → course.owes (inner a) [] None [] (inner a)
    → (on_air me course).owes a [] None [] a
owes-first me course a own heard owes = (
  record { some = ([], octets-nil, heard); same_me = refl; own = own; are_octets = octets-nil },
  λ all are has. ([], refl, (subst (λ (o : List ℕ). HasHeard a.it.reader o) (sym (append-nil all)) has, owes)),
)
