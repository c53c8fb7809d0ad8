-- A rehearsal that goes on by one event.
use Rattle.std.specs.Prelude.{◌≡◌, ◌+◌, ◌<◌, ◌∷◌, ◌++◌}
use Rattle.std.proofs.Common.{sym, ap, ◌∙◌, subst, arith}
use Rattle.air_rehearsal.proofs.Names.{ℕ, zero, suc, List, [], length, map, slice_get, Some, refl, Cuts, Ghosts, Plays, WorldStep, Event, Schedule, World, first_world, DiskStep, Follow, Stage, last_stage, HasPlayed, Path, counts_to, Bench, IsBench, IsPlaying, IsStage, PlaysEvent, client_count, Tells, first_stage, until, last_world, Stations, IsStationOf, Station, client_at, the_server}

pub plays_more :
    (world : World) (events : List Event) (worlds : List World) (event : Event) (next : World)
    → Plays world events worlds → WorldStep (last_world world worlds) event next
    → Plays world (events ++ event ∷ []) (worlds ++ next ∷ [])
plays_more world [] worlds event next plays step =
    let here = subst (λ (w : List World). WorldStep (last_world world w) event next) plays step in
    subst (λ (w : List World). Plays world (event ∷ []) (w ++ next ∷ [])) (sym plays) (next, [], refl, here, refl)
plays_more world (first ∷ events) worlds event next plays step =
    let later = subst (λ (w : List World). WorldStep (last_world world w) event next) plays.2 step in
    subst (λ (w : List World). Plays world (first ∷ events ++ event ∷ []) (w ++ next ∷ [])) (sym plays.2)
    (plays.0, plays.1 ++ next ∷ [], refl, plays.3, plays_more plays.0 events plays.1 event next plays.4 later)

pub last_more : (world : World) (worlds : List World) (next : World) → last_world world (worlds ++ next ∷ []) ≡ next
last_more world [] next = refl
last_more world (first ∷ worlds) next = last_more first worlds next

module _ {B : Type 0} (g : Ghosts B) (cuts : Cuts B) where
  stage_more : (stage : Stage B) (stages : List (Stage B)) (next : Stage B)
      → last_stage stage (stages ++ next ∷ []) ≡ next
  stage_more stage [] next = refl
  stage_more stage (first ∷ stages) next = stage_more first stages next

  follow_more :
      (station : Station) (stage : Stage B) (events : List Event) (stages : List (Stage B)) (event : Event)
      (next : Stage B)
      → Follow g cuts station stage events stages → DiskStep g cuts station (last_stage stage stages) event next
      → Follow g cuts station stage (events ++ event ∷ []) (stages ++ next ∷ [])
  follow_more station stage [] stages event next follow step =
      let here = subst (λ (s : List (Stage B)). DiskStep g cuts station (last_stage stage s) event next) follow step in
      subst (λ (s : List (Stage B)). Follow g cuts station stage (event ∷ []) (s ++ next ∷ [])) (sym follow)
      (next, [], refl, here, refl)
  follow_more station stage (first ∷ events) stages event next follow step =
      let later = subst (λ (s : List (Stage B)). DiskStep g cuts station (last_stage stage s) event next) follow.2 step in
      subst (λ (s : List (Stage B)). Follow g cuts station stage (first ∷ events ++ event ∷ []) (s ++ next ∷ []))
      (sym follow.2) (
        follow.0,
        follow.1 ++ next ∷ [],
        refl,
        follow.3,
        follow_more station follow.0 events follow.1 event next follow.4 later,
      )

map_more : {X Y : Type 0} (f : X → Y) (xs : List X) (x : X) → map f (xs ++ x ∷ []) ≡ map f xs ++ f x ∷ []
map_more f [] x = refl
map_more f (first ∷ xs) x = ap (λ (ys : List _). f first ∷ ys) (map_more f xs x)

-- what stands at a place of a list
pub there : {X : Type 0} (xs : List X) (c : ℕ) → c < length xs → (x : X) × (slice_get xs c ≡ Some x)
there [] c within = absurd (let no : ⊥ = omega (arith, within) in no)
there (x ∷ xs) zero within = (x, refl)
there (x ∷ xs) (suc c) within = there xs c (omega (arith, within))

module _ {B : Type 0} (g : Ghosts B) (cuts : Cuts B) where
  some_stage :
      (schedule : Schedule) (world : World) (at : Bench B) (station : Station) → IsBench g cuts world at
      → client_count at.stations ≡ length schedule.calls → IsStationOf schedule station
      → (stage : Stage B) × IsStage world at station stage
  some_stage schedule world at the_server bench count is = (_, refl)
  some_stage schedule world at (client_at c) bench count is =
      let within : c < client_count at.stations = omega (arith, count, is) in
      let party = there at.stations.parties.items c within in
      let disk = there at.disks c (omega (arith, within, bench.enough)) in (
        _,
        record { party = party.0; is_party = party.1; disk = disk.0; is_disk = disk.1; stage_is = refl },
      )

  stage_world :
      (world : World) (at : Bench B) (station : Station) (stage : Stage B) → IsStage world at station stage
      → stage.world ≡ world
  stage_world world at the_server stage is = ap (λ (s : Stage B). s.world) is
  stage_world world at (client_at c) stage is = ap (λ (s : Stage B). s.world) is.stage_is

  path_more :
      (schedule : Schedule) (worlds : List World) (event : Event) (next : World) (station : Station) (before : B)
      (at now : Bench B) (stage : Stage B) (path : Path g cuts schedule worlds station before at)
      → IsStage next now station stage
      → DiskStep g cuts station (last_stage (first_stage schedule path.start) path.stages) event stage
      → Path g cuts (until (schedule.events ++ event ∷ []) schedule) (worlds ++ next ∷ []) station before now
  path_more schedule worlds event next station before at now stage path is step =
      record {
        start = path.start;
        opens = path.opens;
        stands = path.stands;
        stages = path.stages ++ stage ∷ [];
        follow =
            follow_more g cuts station (first_stage schedule path.start) schedule.events path.stages event stage
            path.follow step;
        worlds_are =
            map_more (λ (it : Stage B). it.world) path.stages stage
            ∙ ap (λ (w : List World). w ++ stage.world ∷ []) path.worlds_are
            ∙ ap (λ (w : World). worlds ++ w ∷ []) (stage_world next now station stage is);
        last =
            subst
            (λ (w : World).
            IsStage w now station (last_stage (first_stage schedule path.start) (path.stages ++ stage ∷ [])))
            (sym (last_more (first_world schedule) worlds next))
            (subst (λ (s : Stage B). IsStage next now station s)
            (sym (stage_more g cuts (first_stage schedule path.start) path.stages stage)) is);
      }

  -- what was counted changes no stage
  counted_stage :
      (world : World) (event : Event) (at now : Bench B) (plays : PlaysEvent g cuts world event at now)
      (station : Station) (stage : Stage B) → IsStage world at station stage
      → IsStage world (record at { stations = plays.counted }) station stage
  counted_stage world event at now plays the_server stage is =
      subst (λ (s : Stations). IsStage world (record at { stations = s }) the_server stage) (sym plays.counted_is) is
  counted_stage world event at now plays (client_at c) stage is =
      subst (λ (s : Stations). IsStage world (record at { stations = s }) (client_at c) stage) (sym plays.counted_is)
      (record {
        party = is.party;
        is_party = is.is_party;
        disk = is.disk;
        is_disk = is.is_disk;
        stage_is = is.stage_is;
      })

  counted_count :
      (world : World) (event : Event) (at now : Bench B) → PlaysEvent g cuts world event at now
      → client_count now.stations ≡ client_count at.stations
  counted_count world event at now plays =
      plays.goes.same_count ∙ ap (λ (s : Stations). client_count s) plays.counted_is

  others_more :
      (schedule : Schedule) (world : World) (event : Event) (bench : List B) (at now : Bench B)
      → PlaysEvent g cuts world event at now → client_count at.stations ≡ length schedule.calls
      → ((place : ℕ) → length schedule.calls < place → slice_get (at.disk ∷ at.disks) place ≡ slice_get bench place)
      → (place : ℕ) → length schedule.calls < place → slice_get (now.disk ∷ now.disks) place ≡ slice_get bench place
  others_more schedule world event bench at now plays count others zero far =
      absurd (let no : ⊥ = omega (arith, far) in no)
  others_more schedule world event bench at now plays count others (suc c) far =
      let same = ap (λ (s : Stations). client_count s) plays.counted_is in
      plays.goes.others c (omega (arith, same, count, far)) ∙ others (suc c) far

  -- One event more was played.
  pub has_played_more :
      (schedule : Schedule) (worlds : List World) (event : Event) (bench : List B) (at now : Bench B)
      (played : HasPlayed g cuts schedule worlds bench at)
      → (plays : PlaysEvent g cuts (last_world (first_world schedule) worlds) event at now)
      → IsPlaying g cuts plays.goes.next now
      → Tells now.stations.report
      (counts_to (until (schedule.events ++ event ∷ []) schedule) (worlds ++ plays.goes.next ∷ []))
      → HasPlayed g cuts (until (schedule.events ++ event ∷ []) schedule) (worlds ++ plays.goes.next ∷ []) bench now
  has_played_more schedule worlds event bench at now played plays playing counts =
      let world = last_world (first_world schedule) worlds in
      let next = plays.goes.next in
      let same = counted_count world event at now plays ∙ played.count_is in
      record {
        plays = plays_more (first_world schedule) schedule.events worlds event next played.plays plays.goes.step;
        playing =
            subst (λ (w : World). IsPlaying g cuts w now) (sym (last_more (first_world schedule) worlds next)) playing;
        paths = λ station is.
            let path = played.paths station is in
            let stage = some_stage schedule next now station playing.bench same is in
            let before = counted_stage world event at now plays station _ path.2.last in (
              path.0,
              path.1,
              path_more schedule worlds event next station path.0 at now stage.0 path.2 stage.1
                  (plays.goes.disks station _ stage.0 before stage.1),
            );
        count_is = same;
        others = others_more schedule world event bench at now plays played.count_is played.others;
        as_many =
            (let e : 1 + length now.disks ≡ length bench = omega (arith, plays.goes.as_many, played.as_many) in e);
        counts = counts;
      }
