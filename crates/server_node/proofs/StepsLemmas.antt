-- Events one after another, and a stop at one of them, whatever serves them; what is left on the disk; and whether it is
-- known what octets the store's files have.
use Rattle.std.proofs.Common.{◌≡◌, inl, inr, ℕ, ◌+◌, List, [], ◌∷◌, ◌++◌, Bool, refl, ap, sym, ◌∙◌, append_assoc, arith, Option, None, Some, Result, Ok, Err, IsErr, IsErrOf}
use Rattle.disk_model.specs.declared.halt.Halt.TheVariants as halt
use Rattle.turn_loop.specs.declared.stop.NodeStop.TheVariants as stop
use Rattle.server_node.proofs.Names.{AtDisk, Command, CutsOffAmongReads, DiskFault, Does-none, DoesAmongReads, EndsOver, FailsBy, Ghosts, Halt, IsKnown, IsReady, Made, NodeStop, PutsAmongReads, RunsOn, RunsTo, Served, Service, Steps, StopsBehind, StopsOn, StopsOver, StopsTo, StoreState, TakesAll, add_assoc, among-then, at, both, common_steps, cuts-among-none, cuts-among-same, cuts-among-then, does-among, known-or-not, known_on, made, puts-among, puts-among-same, puts-among-then, puts_none, stop_at_put, store_at, ⊤}

-- no events make nothing, and events and others behind them what both make
pub record AreSteps {S E : Type 0} (steps : Steps S E) : Type 0 where
  pub none : (s : S) → steps.goes s [] (made [] [] 0) s
  pub on : (a b c : S) (xs ys : List E) (m n : Made) → steps.goes a xs m b → steps.goes b ys n c → steps.goes a (xs ++ ys) (both m n) c

both-assoc : (a b c : Made) → both (both a b) c ≡ both a (both b c)
both-assoc a b c = grind (arith, common_steps, add_assoc)

-- ---- whatever the disk tells

-- nothing is done
pub does-none : {D : Type 0} (g : Ghosts D) (store : StoreState) (disk : D) → IsReady g store disk → g.lasts disk disk → DoesAmongReads g ⊥ 0 store store disk disk []
does-none g store disk ready lasts = does-among g ⊥ store store disk disk [] (Does-none g ⊥ store disk (λ never. never) ready lasts)

-- no call
pub puts-still : {D : Type 0} (g : Ghosts D) (disk : D) → g.lasts disk disk → PutsAmongReads g ⊥ disk disk
puts-still g disk lasts = puts-among g ⊥ disk disk (puts_none g disk ⊥ (λ never. never) lasts)

-- how an event's answer halts its node
abbrev pub halt_by : Result ⊤ DiskFault → Option Halt
halt_by (Ok done) = None
halt_by (Err fault) = Some halt.Disk

-- An answer is a fault exactly where the disk is why a node stops by it.
pub puts-answered : {D : Type 0} (g : Ghosts D) (old now : D) (result : Result ⊤ DiskFault) → PutsAmongReads g (IsErr result) old now → PutsAmongReads g (FailsBy (stop_at_put (halt_by result))) old now
puts-answered g old now (Ok done) puts = puts-among-same g _ ⊥ old now (λ e. cc e) (λ never. absurd never) puts
puts-answered g old now (Err fault) puts = puts-among-same g _ ⊤ old now (λ e. tt) (λ t. refl) puts

-- A stop is by the disk exactly where it is that error.
fails-there : (why : NodeStop) → FailsBy why → IsErrOf {T = Served} (Err why) stop.Disk
fails-there why fails = grind (arith, common_steps)

fails-back : (why : NodeStop) → IsErrOf {T = Served} (Err why) stop.Disk → FailsBy why
fails-back why is = let same : why ≡ stop.Disk = cc is in rw same tt

-- ---- by how the turns of its node ended

-- what was done on the disk
pub record DidOnDisk {D : Type 0} (g : Ghosts D) (result : Result Served NodeStop) (old new : AtDisk StoreState D) : Type 0 where
  pub puts : PutsAmongReads g (IsErrOf result stop.Disk) old.disk new.disk
  pub done : List Command
  pub cut : List Command
  pub missed : ℕ
  pub cuts : IsKnown g old.disk → CutsOffAmongReads g (IsErrOf result stop.Disk) missed old new done cut

-- Where it isn't known what octets the files have nothing of it is told.
untold : {D : Type 0} (g : Ghosts D) (result : Result Served NodeStop) (old new : AtDisk StoreState D) → ¬ IsKnown g old.disk → PutsAmongReads g (IsErrOf result stop.Disk) old.disk new.disk
    → (P : DidOnDisk g result old new → Type 0) → (d : DidOnDisk g result old new) × (IsKnown g old.disk → P d)
untold g result old new unknown puts P = (record { puts = puts; done = []; cut = []; missed = 0; cuts = λ known. absurd (unknown known) }, λ known. absurd (unknown known))

-- ---- steps

module _ {P S E D : Type 0} (by : Service P S E D) (laws : AreSteps by.steps) where
  abbrev g : Ghosts D
  g = by.disk

  -- a stop at the one event
  pub stop-one : (why : NodeStop) (unsaid : Bool) (s : S) (event : E) (all : Made) (cut : List Command) → by.steps.stops why unsaid s event all cut → StopsOver by.steps s (event ∷ []) why unsaid all cut
  stop-one why unsaid s event all cut h = record { before = []; next = event; later = []; events_are = refl; earlier = made [] [] 0; then_is = s; goes = laws.none s; last = all; stops = h; all_is = grind (arith, common_steps) }

  -- others behind the one at which it stopped
  pub stops-more : (a c : AtDisk P D) (xs ys : List E) (why : NodeStop) (unsaid : Bool) (text : List ℕ) → StopsOn by a c xs why unsaid text → StopsOn by a c (xs ++ ys) why unsaid text
  stops-more a c xs ys why unsaid text h = record {
    puts = h.puts;
    memory = h.memory;
    stops = λ known start stands. let to = h.stops known start stands in grind (arith, common_steps, to);
  }

  -- no events, over the same store
  pub runs-none : (start : S) (a : AtDisk P D) (it : P) → by.stands (at it a.disk) start → by.store it ≡ by.store a.it → IsReady g (by.store a.it) a.disk → g.lasts a.disk a.disk → RunsTo by start a (at it a.disk) [] []
  runs-none start a it stands same ready lasts = record { next = start; stands = stands; done = []; missed = 0; goes = laws.none start; does = rw same (does-none g (by.store a.it) a.disk ready lasts) }

  pub stays : (a : AtDisk P D) → IsReady g (by.store a.it) a.disk → g.lasts a.disk a.disk → RunsOn by a a [] []
  stays a ready lasts = record { puts = puts-still g a.disk lasts; runs = λ known start stands. runs-none start a a.it stands refl ready lasts }

  -- ---- some events, and others behind them

  module _ (on : (first second third : D) → g.lasts first second → g.lasts second third → g.lasts first third) (a b c : AtDisk P D) (xs ys : List E) (text more : List ℕ) (h : RunsOn by a b xs text) where
    then-known : IsKnown g a.disk → IsKnown g b.disk
    then-known known = known_on g a.disk b.disk h.puts.told known

    pub runs-then : RunsOn by b c ys more → RunsOn by a c (xs ++ ys) (text ++ more)
    runs-then k = record {
      puts = puts-among-then g on ⊥ ⊥ a.disk b.disk c.disk (λ never. never) h.puts k.puts;
      runs = λ known start stands.
          let first = h.runs known start stands in let second = k.runs (then-known known) first.next first.stands in
          let goes = laws.on start first.next second.next xs ys (made text first.done first.missed) (made more second.done second.missed) first.goes second.goes in
          let does = among-then g on ⊥ ⊥ first.missed second.missed (by.store a.it) (by.store b.it) (by.store c.it) a.disk b.disk c.disk first.done second.done (λ never. never) first.does second.does in
          record { next = second.next; stands = second.stands; done = first.done ++ second.done; missed = first.missed + second.missed; goes = goes; does = does };
    }

    module _ (why : NodeStop) (unsaid : Bool) (k : StopsOn by b c ys why unsaid more) where
      -- a stop behind all of the first ones
      stops-behind : IsKnown g a.disk → (start : S) → by.stands a start → (to : StopsTo by start a c (xs ++ ys) why unsaid (text ++ more)) × StopsBehind xs by.steps start (xs ++ ys) why unsaid (made (text ++ more) to.done to.missed) to.cut
      unfolding then-known
      stops-behind known start stands =
          let first = h.runs known start stands in let last = k.stops (then-known known) first.next first.stands in
          let m = made text first.done first.missed in let s = last.stops in
          let are : xs ++ ys ≡ (xs ++ s.before) ++ s.next ∷ s.later = rw (s.events_are, append_assoc) refl in
          let goes = laws.on start first.next s.then_is xs s.before m s.earlier first.goes s.goes in
          let all = ap (both m) s.all_is ∙ sym (both-assoc m s.earlier s.last) in
          let over : StopsOver by.steps start (xs ++ ys) why unsaid (made (text ++ more) (first.done ++ last.done) (first.missed + last.missed)) last.cut =
          record { before = xs ++ s.before; next = s.next; later = s.later; last = s.last; stops = s.stops; earlier = both m s.earlier; then_is = s.then_is; events_are = are; goes = goes; all_is = all } in
          let cuts = cuts-among-then g on (FailsBy why) first.missed last.missed (store_at by a) (store_at by b) (store_at by c) first.done last.done last.cut first.does last.cuts in (
            record { done = first.done ++ last.done; cut = last.cut; missed = first.missed + last.missed; stops = over; cuts = cuts },
            record { stops = over; between = s.before; in_order = refl },
          )

      puts-behind : PutsAmongReads g (FailsBy why) a.disk c.disk
      puts-behind = puts-among-then g on ⊥ (FailsBy why) a.disk b.disk c.disk (λ never. never) h.puts k.puts

      pub stops-then : StopsOn by a c (xs ++ ys) why unsaid (text ++ more)
      stops-then = record { puts = puts-behind; memory = k.memory; stops = λ known start stands. (stops-behind known start stands).0 }

    -- ---- by how the turns ended

    module _ (start : S) (stands : by.stands a start) where
      -- it stopped
      pub did-stop : (events : List E) (all : List ℕ) → events ≡ xs ++ ys → all ≡ text ++ more → (why : NodeStop) (unsaid : Bool)
          → ((m : Made) (cut : List Command) → StopsBehind xs by.steps start events why unsaid m cut → EndsOver (Err why) xs by.steps start events unsaid m cut) → StopsOn by b c ys why unsaid more
          → (d : DidOnDisk g (Err why) (store_at by a) (store_at by c)) × (IsKnown g a.disk → EndsOver (Err why) xs by.steps start events unsaid (made all d.done d.missed) d.cut)
      did-stop events all events_are all_is why unsaid over k =
          let puts = puts-among-same g (FailsBy why) (IsErrOf {T = Served} (Err why) stop.Disk) a.disk c.disk (fails-there why) (fails-back why) (puts-behind why unsaid k) in
          elim (known-or-not g a.disk) [
            | inl known ↦ (
                let found = stops-behind why unsaid k known start stands in let to = found.0 in
                let cuts = cuts-among-same g (FailsBy why) (IsErrOf {T = Served} (Err why) stop.Disk) to.missed to.missed (store_at by a) (store_at by c) to.done to.cut (fails-there why) (fails-back why) refl to.cuts in (
                  record { puts = puts; done = to.done; cut = to.cut; missed = to.missed; cuts = λ k. cuts },
                  λ k. over (made all to.done to.missed) to.cut (rw (events_are, all_is) found.1),
                )
                )
            | inr unknown ↦ untold g (Err why) (store_at by a) (store_at by c) unknown puts _
          ]

  -- all was taken
  pub did-all : (lasts : (disk : D) → g.lasts disk disk) (a b : AtDisk P D) (events : List E) (text : List ℕ) (start : S) → by.stands a start → (unsaid : Bool) (result : Result Served NodeStop) → ¬ IsErrOf result stop.Disk
      → ((least : List E) (m : Made) → TakesAll by.steps start events m [] → EndsOver result least by.steps start events unsaid m []) → RunsOn by a b events text
      → (d : DidOnDisk g result (store_at by a) (store_at by b)) × (IsKnown g a.disk → (least : List E) → EndsOver result least by.steps start events unsaid (made text d.done d.missed) d.cut)
  did-all lasts a b events text start stands unsaid result fine over h =
      let puts = puts-among-same g ⊥ (IsErrOf result stop.Disk) a.disk b.disk (λ never. absurd never) fine h.puts in
      elim (known-or-not g a.disk) [
        | inl known ↦ (
            let to = h.runs known start stands in (
              record { puts = puts; done = to.done; cut = []; missed = to.missed; cuts = λ k. cuts-among-none g _ to.missed (store_at by a) (store_at by b) to.done fine (lasts b.disk) to.does },
              λ k least. over least (made text to.done to.missed) (to.next, to.goes, refl),
            )
            )
        | inr unknown ↦ untold g result (store_at by a) (store_at by b) unknown puts _
      ]
