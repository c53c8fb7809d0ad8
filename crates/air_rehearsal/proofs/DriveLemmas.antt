-- The calls of a driver, one after another.
use Rattle.std.specs.Prelude.{◌≡◌, ◌∷◌, ◌++◌}
use Rattle.std.proofs.Common.{sym, ap, subst, inl, inr, arith, append_assoc}
use Rattle.air_schedule.specs.declared.event.Event.{Event as StoredEvent}
use Rattle.air_rehearsal.proofs.Names.{ℕ, List, [], Option, Result, Ok, Err, IfOk, OnOk, refl, option_map, Cuts, Ghosts, ServerState, event_value, IsAllowed, Event, World, Comes, Driven, Drives, IsDraw, IsReadyBench, PlaysEach, Draw, Drawing, Takes, Tries, TriesIf, drawn, state_after, Bench, IsPlaying, PlaysEvent, bench_of, AreReady, IsReadyServer, last_world, CanCount, CountsOn, Stations}
use Rattle.air_rehearsal.proofs.WholePlay.{playing_next}

-- where a generator stands
abbrev pub drawing : ℕ → World → List Event → List World → Drawing
drawing state world events worlds =
    record { state = state; world = world; events = events; worlds = worlds }

-- one after the other
abbrev pub Then : (Drawing → Drawing → Type 0) → (Drawing → Drawing → Type 0) → Drawing → Drawing → Type 0
Then First Second old new = (amid : Drawing) × First old amid × Second amid new

-- What is left to come makes up the whole.
abbrev pub Owes : (Drawing → Drawing → Type 0) → (Drawing → Drawing → Type 0) → Drawing → Drawing → Type 0
Owes Whole Left old new = (last : Drawing) → Left new last → Whole old last

-- the last one of two rows of worlds
pub last_behind :
    (world : World) (worlds more : List World)
    → last_world world (worlds ++ more) ≡ last_world (last_world world worlds) more
last_behind world [] more = refl
last_behind world (next ∷ worlds) more = last_behind next worlds more

module _ {B : Type 0} (g : Ghosts B) (cuts : Cuts B) where
  -- ---- events that were played

  -- the last world is played
  pub played_by :
      (world : World) (events : List Event) (worlds : List World) (old new : Bench B) → IsPlaying g cuts world old
      → PlaysEach g cuts world events worlds old new → IsPlaying g cuts (last_world world worlds) new
  played_by world [] worlds old new playing plays =
      subst (λ (l : List World). IsPlaying g cuts (last_world world l) new) (sym plays.0)
      (subst (IsPlaying g cuts world) (sym plays.1) playing)
  played_by world (event ∷ events) worlds old new playing plays =
      subst (λ (l : List World). IsPlaying g cuts (last_world world l) new) (sym plays.3)
      (played_by plays.1.goes.next events plays.2 plays.0 new
      (playing_next g cuts world event old plays.0 plays.1) plays.4)

  -- and then others
  pub plays_more :
      (world : World) (events : List Event) (worlds : List World) (more : List Event) (seen : List World)
      (old mid new : Bench B) → PlaysEach g cuts world events worlds old mid
      → PlaysEach g cuts (last_world world worlds) more seen mid new
      → PlaysEach g cuts world (events ++ more) (worlds ++ seen) old new
  plays_more world [] worlds more seen old mid new one two =
      subst (λ (l : List World). PlaysEach g cuts world more (l ++ seen) old new) (sym one.0)
      (subst (λ (at : Bench B). PlaysEach g cuts world more seen at new) one.1
      (subst (λ (l : List World). PlaysEach g cuts (last_world world l) more seen mid new) one.0 two))
  plays_more world (event ∷ events) worlds more seen old mid new one two = (
    one.0,
    one.1,
    one.2 ++ seen,
    ap (λ (l : List World). l ++ seen) one.3,
    plays_more one.1.goes.next events one.2 more seen one.0 mid new one.4
        (subst (λ (l : List World). PlaysEach g cuts (last_world world l) more seen mid new) one.3 two),
  )

  -- ---- one call after the other

  comes_then :
      (First Second : Drawing → Drawing → Type 0) (world : World) (old mid new : Driven B)
      (one : Comes g cuts First world old mid) → Comes g cuts Second (last_world world one.worlds) mid new
      → Comes g cuts (Then First Second) world old new
  comes_then First Second world old mid new one two = record {
    events = one.events ++ two.events;
    worlds = one.worlds ++ two.worlds;
    plays =
        plays_more world one.events one.worlds two.events two.worlds old.bench mid.bench new.bench one.plays two.plays;
    moves = λ later rest.
        let amid : Drawing =
        drawing mid.state (last_world world one.worlds) (two.events ++ later) (two.worlds ++ rest) in (
          amid,
          subst
              (λ (events : List Event).
              First (drawing old.state world events ((one.worlds ++ two.worlds) ++ rest)) amid)
              (sym (append_assoc one.events two.events later))
              (subst
              (λ (worlds : List World).
              First (drawing old.state world (one.events ++ (two.events ++ later)) worlds) amid)
              (sym (append_assoc one.worlds two.worlds rest))
              (one.moves (two.events ++ later) (two.worlds ++ rest))),
          subst (λ (last : World). Second amid (drawing new.state last later rest))
              (sym (last_behind world one.worlds two.worlds)) (two.moves later rest),
        );
  }

  pub drives_then :
      (First Second : Drawing → Drawing → Type 0) (old mid new : Driven B) → Drives g cuts First old mid
      → Drives g cuts Second mid new → Drives g cuts (Then First Second) old new
  drives_then First Second old mid new one two = record {
    ready = two.ready;
    faults = (let first = one.faults in let second = two.faults in omega (arith, first, second));
    comes = λ world playing can.
        let could : CanCount g mid.bench.disk = (let on = two.faults in omega (arith, on, can)) in
        let first = one.comes world playing could in
        comes_then First Second world old mid new first
        (two.comes (last_world world first.worlds)
        (played_by world first.events first.worlds old.bench mid.bench playing first.plays) can);
  }

  -- what is known of the world before serves to say something else of the events
  pub drives_in :
      (Moves Others : Drawing → Drawing → Type 0) (old new : Driven B)
      → ((world : World) → IsPlaying g cuts world old.bench
      → (x y : Drawing) → x.world ≡ world → x.state ≡ old.state → Moves x y → Others x y)
      → Drives g cuts Moves old new → Drives g cuts Others old new
  drives_in Moves Others old new by it = record {
    ready = it.ready;
    faults = it.faults;
    comes = λ world playing can.
        let came = it.comes world playing can in
        record {
          events = came.events;
          worlds = came.worlds;
          plays = came.plays;
          moves = λ later rest. by world playing _ _ refl refl (came.moves later rest);
        };
  }

  pub drives_as :
      (Moves Others : Drawing → Drawing → Type 0) (old new : Driven B)
      → ((x y : Drawing) → Moves x y → Others x y) → Drives g cuts Moves old new → Drives g cuts Others old new
  drives_as Moves Others old new by = drives_in Moves Others old new (λ world playing x y _ _ moves. by x y moves)

  -- ---- as far as a loop has come

  pub owes_more :
      (Whole Left Less : Drawing → Drawing → Type 0) (old mid new : Driven B) → Drives g cuts (Owes Whole Left) old mid
      → Drives g cuts (Owes Left Less) mid new → Drives g cuts (Owes Whole Less) old new
  owes_more Whole Left Less old mid new one two =
      drives_as (Then (Owes Whole Left) (Owes Left Less)) (Owes Whole Less) old new
      (λ x y both last less. both.1 last (both.2 last less))
      (drives_then (Owes Whole Left) (Owes Left Less) old mid new one two)

  pub owes_all :
      (Whole Left : Drawing → Drawing → Type 0) (old mid new : Driven B) → Drives g cuts (Owes Whole Left) old mid
      → Drives g cuts Left mid new → Drives g cuts Whole old new
  owes_all Whole Left old mid new one two =
      drives_as (Then (Owes Whole Left) Left) Whole old new (λ x y both. both.1 y both.2)
      (drives_then (Owes Whole Left) Left old mid new one two)

  pub owes_done :
      (Whole Left : Drawing → Drawing → Type 0) (old new : Driven B) → ((x : Drawing) → Left x x)
      → Drives g cuts (Owes Whole Left) old new → Drives g cuts Whole old new
  owes_done Whole Left old new none =
      drives_as (Owes Whole Left) Whole old new (λ x y owes. owes y (none y))

  -- ---- the smallest steps

  -- numbers are drawn
  pub drives_draws :
      (count state : ℕ) (bench : Bench B) → IsReadyBench g bench
      → Drives g cuts (λ old new. new ≡ drawn count old) (record { state = state; bench = bench })
      (record { state = state_after count state; bench = bench })
  drives_draws count state bench ready = record {
    ready = ready;
    faults = omega arith;
    comes = λ world playing can. record {
      events = [];
      worlds = [];
      plays = (refl, refl);
      moves = λ later rest. refl;
    };
  }

  -- nothing comes
  pub drives_none :
      (at : Driven B) → IsReadyBench g at.bench → Drives g cuts (λ old new. new ≡ old) at at
  drives_none at ready = drives_draws 0 at.state at.bench ready

  -- where nothing came yet, all is left
  pub owes_none :
      (Whole Left : Drawing → Drawing → Type 0) (at : Driven B) → IsReadyBench g at.bench
      → ((world : World) → IsPlaying g cuts world at.bench
      → (x last : Drawing) → x.world ≡ world → x.state ≡ at.state → Left x last → Whole x last)
      → Drives g cuts (Owes Whole Left) at at
  owes_none Whole Left at ready by =
      drives_in (λ old new. new ≡ old) (Owes Whole Left) at at
      (λ world playing x y is state_is same last left.
      by world playing x last is state_is (subst (λ (z : Drawing). Left z last) same left)) (drives_none at ready)

  -- an event comes that may
  pub drives_plays :
      (event : Event) (old new : Driven B) → new.state ≡ old.state → IsReadyBench g new.bench
      → CountsOn g old.bench.disk new.bench.disk
      → ((world : World) → IsPlaying g cuts world old.bench → CanCount g new.bench.disk
      → IsAllowed world event × PlaysEvent g cuts world event old.bench new.bench)
      → Drives g cuts (Tries event) old new
  drives_plays event old new state_is ready faults plays = record {
    ready = ready;
    faults = faults;
    comes = λ world playing can.
        let it = plays world playing can in
        record {
          events = event ∷ [];
          worlds = it.1.goes.next ∷ [];
          plays = (new.bench, it.1, [], refl, (refl, refl));
          moves = λ later rest. inl (it.0, refl, refl, state_is);
        };
  }

  -- so it is of whichever server the call gives, if it gives one
  pub played-drives :
      {E : Type 0} (event : Event) (state : ℕ) (old : Bench B) (stations : Stations) (disk : B) (disks : List B)
      (result : Result ServerState E) → ((world : World) → IsPlaying g cuts world old → IsAllowed world event)
      → IfOk result (λ server. IsReadyServer g stations server disk)
      → OnOk result (AreReady g stations.parties.items disks) → OnOk result (CountsOn g old.disk disk)
      → IfOk result
      (λ server. (world : World) → IsPlaying g cuts world old → CanCount g old.disk → IsAllowed world event
      → PlaysEvent g cuts world event old (bench_of stations server disk disks))
      → IfOk result
      (λ server. Drives g cuts (Tries event) (record { state = state; bench = old })
      (record { state = state; bench = bench_of stations server disk disks }))
  played-drives event state old stations disk disks (Err why) allowed ready clients faults plays = tt
  played-drives event state old stations disk disks (Ok server) allowed ready clients faults plays =
      drives_plays event (record { state = state; bench = old })
      (record { state = state; bench = bench_of stations server disk disks }) refl
      (record { server = ready; clients = clients }) faults
      (λ world playing can. (
        allowed world playing,
        plays world playing (let e : CanCount g old.disk = omega (arith, faults, can) in e) (allowed world playing),
      ))

  -- one doesn't that may not
  pub drives_refuses :
      (event : Event) (at : Driven B) → IsReadyBench g at.bench
      → ((world : World) → IsPlaying g cuts world at.bench → ¬ IsAllowed world event)
      → Drives g cuts (Tries event) at at
  drives_refuses event at ready not =
      drives_in (λ old new. new ≡ old) (Tries event) at at
      (λ world playing x y is state_is same.
      inr (subst (λ (w : World). ¬ IsAllowed w event) (sym is) (not world playing), same)) (drives_none at ready)

  -- what was drawn comes, if it may
  pub drives_takes :
      (draw : ℕ → World → Draw) (event : Option StoredEvent) (old mid new : Driven B) → mid.bench ≡ old.bench
      → ((world : World) → IsPlaying g cuts world old.bench → IsDraw (draw old.state world) event old.state mid.state)
      → Drives g cuts (TriesIf (option_map event_value event)) mid new
      → Drives g cuts (λ x y. Takes (draw x.state x.world) x y) old new
  drives_takes draw event old mid new bench_is draws it = record {
    ready = it.ready;
    faults = subst (λ (at : Bench B). CountsOn g at.disk new.bench.disk) bench_is it.faults;
    comes = λ world playing can.
        let is = draws world playing in
        let came = it.comes world (subst (IsPlaying g cuts world) (sym bench_is) playing) can in
        record {
          events = came.events;
          worlds = came.worlds;
          plays =
              subst (λ (at : Bench B). PlaysEach g cuts world came.events came.worlds at new.bench) bench_is came.plays;
          moves = λ later rest.
              let last : Drawing = drawing new.state (last_world world came.worlds) later rest in
              subst
              (λ (o : Option Event).
              TriesIf o
              (drawing (state_after (draw old.state world).count old.state) world (came.events ++ later)
              (came.worlds ++ rest)) last) is.event_is
              (subst
              (λ (state : ℕ).
              TriesIf (option_map event_value event)
              (drawing state world (came.events ++ later) (came.worlds ++ rest)) last) is.state_is
              (came.moves later rest));
        };
  }
