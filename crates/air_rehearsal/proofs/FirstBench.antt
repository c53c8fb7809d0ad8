-- Before the first event of a rehearsal.
use Rattle.std.specs.Prelude.{◌≡◌, ◌+◌, ◌<◌, ◌≤◌, ◌∷◌}
use Rattle.std.proofs.Common.{sym, ap, ◌∙◌, subst, arith}
use Rattle.file_store.specs.State.{StandsFor as StandsForStore}
use Rattle.air_rehearsal.proofs.Names.{ℕ, zero, suc, List, [], length, map, slice_get, All, false, Option, None, Some, IfSome, is_some, refl, range_with_len, sum_by, sum_by-cons, All-get_or, get_or_from_slice_get, same_Some, slice_get_within, CallSign, AreFresh, Cuts, IsFresh, LastsSo, Unarmed, UsesUp, cut_state, IsTold, Ghosts, window_of, told_weaker, images_now, journal_of, state, standing_of, store_on, Store, empty_store, new_server, IsServer, ServerState, first_party, SoundLaw, IsSchedule, Schedule, World, first_world, pacsat, store_blocks, OpensAll, OpensClient, Stage, Tells, no_counts, HasPlayed, Path, counts_to, cuts_of, waiting_of, Cut, Opens, Bench, IsBench, IsStage, bench_of, client_count, until, IsStarted, StandsNow, IsStationOf, Station, client_at, place_of, stations_of, the_server, IsSteady, PlayParties, PlaysParty, PlaysStations, asked_from, Party as StoredParty, Stations}
use Rattle.air_rehearsal.proofs.BenchLemmas.{played_at}
use Rattle.air_rehearsal.proofs.CourseLemmas.{there}
use Rattle.air_rehearsal.proofs.ServerGoes.{none_of}
use Rattle.air_rehearsal.proofs.StandsNowLemmas.{notes_stand, some_has, told_content}

-- a disk without an octet stands for an empty store
empty_stands : standing_of store_blocks [] ≡ state (empty_store store_blocks)
unfolding journal_of
empty_stands = refl

-- what holds of all elements of a list holds of the one at a place
pub all_at : {X : Type 0} (P : X → Type 0) (xs : List X) (c : ℕ) (x : X) → All P xs → slice_get xs c ≡ Some x → P x
all_at P xs c x all is =
    subst P (get_or_from_slice_get xs c x x is) (All-get_or P xs c x (slice_get_within xs c x is) all)

module _ {B : Type 0} (g : Ghosts B) (cuts : Cuts B)
    (lasts_so : (old new : B) → g.lasts old new → LastsSo (cut_state g cuts old) (cut_state g cuts new)) where
  -- A fresh disk that was opened is steady.
  pub steady_opened :
      (station : Station) (disk disk_now : B) → IsFresh g cuts disk → Opens g cuts station disk disk_now
      → cuts.is_starved disk_now ≡ false → IsSteady g cuts disk_now
  steady_opened station disk disk_now fresh opens memory =
      let disarmed = opens.disarmed in
      let lasts = lasts_so disarmed disk_now opens.starts.lasts in
      let plain = opens.arms.plain.1 fresh.plain in
      let unarmed : cuts.arming disarmed ≡ Unarmed = opens.arms.armed in
      let uses = subst
      (λ (a : _). UsesUp a (cut_state g cuts disarmed).use_of (cut_state g cuts disk_now).use_of) unarmed
      (lasts.uses plain memory) in
      let content = opens.arms.nothing_else.same_content in
      record {
        told = opens.starts.told.1 (subst (λ (c : Option (List ℕ)). IsTold c) (sym (content ∙ fresh.told)) refl);
        plain = lasts.plain.1 plain;
        unarmed = uses.0;
        memory = memory;
        reads = (let same = uses.1.reads in let was = opens.arms.reads in let low = fresh.reads in omega (arith, same, was, low));
      }

-- the clients are first ones, one by one
first_parties :
    {B : Type 0} (g : Ghosts B) (cuts : Cuts B) (k : ℕ) (calls : List CallSign) (parties : List StoredParty)
    → length parties ≡ length calls
    → ((c : ℕ) (me : CallSign) (party : StoredParty) → slice_get calls c ≡ Some me → slice_get parties c ≡ Some party
    → PlaysParty party (first_party pacsat (window_of k) me))
    → PlayParties parties (map (first_party pacsat (window_of k)) calls)
first_parties g cuts k [] [] same each = tt
first_parties g cuts k [] (party ∷ parties) same each = absurd (let e : suc (length parties) ≡ 0 = same in cc)
first_parties g cuts k (me ∷ calls) [] same each = absurd (let e : 0 ≡ suc (length calls) = same in cc)
first_parties g cuts k (me ∷ calls) (party ∷ parties) same each = (
  each 0 me party refl refl,
  first_parties g cuts k calls parties (let e : length parties ≡ length calls = omega (arith, same) in e)
      (λ c it its at at_party. each (suc c) it its at at_party),
)

-- The bench before the first event, where the clients and the server were opened over fresh disks.
module _ {B : Type 0} (g : Ghosts B) (cuts : Cuts B)
    (lasts_so : (old new : B) → g.lasts old new → LastsSo (cut_state g cuts old) (cut_state g cuts new))
    (is_image : (disk : B) → IfSome (g.content disk) (g.images disk))
    (counts_now : (disk : B) (t : ℕ) (image : List ℕ) → t ≤ g.moment disk → g.images disk image
    → g.images_since disk t image)
    (law : SoundLaw) (schedule : Schedule) (is_schedule : IsSchedule schedule) (disk disk_now : B)
    (disks disks_now : List B) (fresh : AreFresh g cuts (disk ∷ disks)) (stations : Stations) (server : ServerState)
    (opens : OpensAll g cuts schedule.size schedule.calls disks disks_now stations)
    (starts : IsStarted g cuts stations disk disk_now server) (memory : cuts.is_starved disk_now ≡ false) where
  abbrev none : Schedule
  none = until [] schedule

  abbrev at : Bench B
  at = bench_of stations server disk_now disks_now

  abbrev world : World
  world = first_world schedule

  server_opens : Opens g cuts the_server disk disk_now
  server_opens = record { disarmed = starts.disarmed; arms = starts.arms; starts = starts.restarts.again }

  fresh_disk : IsFresh g cuts disk
  fresh_disk = all_at (IsFresh g cuts) (disk ∷ disks) 0 disk fresh.1 refl

  fresh_at : (c : ℕ) (it : B) → slice_get disks c ≡ Some it → IsFresh g cuts it
  fresh_at c it is = all_at (IsFresh g cuts) (disk ∷ disks) (suc c) it fresh.1 is

  abbrev store_now : Store
  store_now = store_on g server.store disk_now

  store_is : store_now ≡ empty_store store_blocks
  store_is =
      let content : g.content starts.disarmed ≡ Some [] =
      starts.arms.nothing_else.same_content ∙ fresh_disk.told in
      let stood : standing_of store_blocks [] ≡ state store_now =
      subst
      (λ (c : Option (List ℕ)). IfSome c (λ before. standing_of store_blocks before ≡ state store_now))
      content starts.restarts.stood in
      let empty : standing_of store_blocks [] ≡ state (empty_store store_blocks) = empty_stands in
      (let same : state store_now ≡ state (empty_store store_blocks) = sym stood ∙ empty in cc)

  server_plays : IsServer store_now server world.server
  server_plays =
      subst (λ (s : Store). IsServer store_now server (new_server pacsat (window_of schedule.size) s)) store_is
      (subst (λ (k : ℕ). IsServer store_now server (new_server pacsat (window_of k) store_now)) opens.k_is
      (subst (λ (me : CallSign). IsServer store_now server (new_server me (window_of stations.k) store_now))
      opens.me_is starts.restarts.is_new))

  count_is : client_count stations ≡ length schedule.calls
  count_is = opens.clients.count_is

  enough_disks : length schedule.calls ≤ length disks
  enough_disks = (let nine = fresh.0 in let few = is_schedule.most in omega (arith, nine, few))

  -- the client of a place, with its disk before and after
  opened_at :
      (c : ℕ) (it : B) (party : StoredParty) → c < length schedule.calls → slice_get disks_now c ≡ Some it
      → slice_get stations.parties.items c ≡ Some party
      → (me : CallSign) × (before : B) × (slice_get schedule.calls c ≡ Some me) × (slice_get disks c ≡ Some before)
      × OpensClient g cuts pacsat schedule.size c me (record { before = before; after = it; party = party })
  opened_at c it party within is is_party =
      let me = there schedule.calls c within in
      let before = there disks c (omega (arith, within, enough_disks)) in (
        me.0,
        before.0,
        me.1,
        before.1,
        opens.clients.each c me.0 (record { before = before.0; after = it; party = party }) me.1 before.1 is is_party,
      )

  parties_play : PlayParties stations.parties.items world.parties
  parties_play =
      first_parties g cuts schedule.size schedule.calls stations.parties.items count_is
      (λ c me party is is_party.
      let within = slice_get_within schedule.calls c me is in
      let its = there disks_now c
      (let many = opens.clients.as_many in omega (arith, within, enough_disks, many)) in
      let opened = opened_at c its.0 party within its.1 is_party in
      let same_me = same_Some opened.0 me (sym opened.2 ∙ is) in
      subst (λ (m : CallSign). PlaysParty party (first_party pacsat (window_of schedule.size) m)) same_me
      (opened.4.plays (fresh_at c opened.1 opened.3).told))

  stations_play : PlaysStations stations world
  stations_play =
      record {
        me_is = opens.me_is;
        window_is = sym (ap (λ (k : ℕ). window_of k) opens.k_is);
        cut_is = ap is_some opens.no_cut;
        files_are = sym (ap (asked_from 0) opens.none_asked);
        parties = parties_play;
      }

  steady_at : (c : ℕ) (it : B) → c < client_count stations → slice_get disks_now c ≡ Some it → IsSteady g cuts it
  steady_at c it within is =
      let party = there stations.parties.items c within in
      let opened = opened_at c it party.0 (omega (arith, within, count_is)) is party.1 in
      steady_opened g cuts lasts_so (client_at c) opened.1 it (fresh_at c opened.1 opened.3) opened.4.opens
      opened.4.memory

  server_steady : IsSteady g cuts disk_now
  server_steady = steady_opened g cuts lasts_so the_server disk disk_now fresh_disk server_opens memory

  image_now : (it : B) → IfSome (g.content it) (images_now g it)
  image_now it =
      told_weaker (g.content it) (g.images it) (images_now g it)
      (λ image _ here. counts_now it (g.moment it) image (omega arith) here) (is_image it)

  server_stands : StandsNow g the_server world disk_now
  server_stands =
      let told = told_content (g.content disk_now) server_steady.told in
      let own : (image : List ℕ) → images_now g disk_now image → StandsForStore image world.server.store =
      λ image since.
      subst (λ (s : Store). StandsForStore image s) store_is
      (some_has (g.content disk_now) told.0
      (λ _. (i : List ℕ) → images_now g disk_now i → StandsForStore i store_now) told.1
      starts.restarts.stands image since) in
      record {
        content = told.0;
        is_content = told.1;
        stands = own told.0 (some_has (g.content disk_now) told.0 (images_now g disk_now) told.1 (image_now disk_now));
        images = own;
      }

  client_stands :
      (c : ℕ) (it : B) (party : StoredParty) → slice_get disks_now c ≡ Some it
      → slice_get stations.parties.items c ≡ Some party → StandsNow g (client_at c) world it
  client_stands c it party is is_party =
      let within = slice_get_within stations.parties.items c party is_party in
      let opened = opened_at c it party (omega (arith, within, count_is)) is is_party in
      let played = played_at stations.parties.items world.parties c party parties_play is_party in
      notes_stand g party.client.notes.lists it world c played.0 (steady_at c it within is).told (image_now it)
      opened.4.images played.1 played.2.client.lists

  bench_first : IsBench g cuts world at
  bench_first =
      record {
        sound = law.first schedule is_schedule;
        none_gone = law.first_none_gone schedule;
        plays = record { server = server_plays; blocks = refl; stations = stations_play };
        steady = server_steady;
        all_steady = steady_at;
        enough = (let many = opens.clients.as_many in omega (arith, count_is, enough_disks, many));
        stands = stands_first;
      }
    where
      stands_first :
          (station : Station) (stage : Stage B) → IsStage world at station stage
          → StandsNow g station world stage.disk
      stands_first the_server stage is =
          subst (λ (s : Stage B). StandsNow g the_server world s.disk) (sym is) server_stands
      stands_first (client_at c) stage is =
          subst (λ (s : Stage B). StandsNow g (client_at c) world s.disk) (sym is.stage_is)
          (client_stands c is.disk is.party is.is_disk is.is_party)

  path_first :
      (station : Station) → IsStationOf schedule station
      → (before : B) × (slice_get (disk ∷ disks) (place_of station) ≡ Some before)
      × Path g cuts none [] station before at
  path_first the_server is = (
    disk,
    refl,
    record {
      start = disk_now;
      opens = server_opens;
      stands = server_stands;
      stages = [];
      follow = refl;
      worlds_are = refl;
      last = ap (λ (c : Option Cut). record { world = world; waiting = waiting_of c; disk = disk_now }) (sym opens.no_cut);
    },
  )
  path_first (client_at c) is =
      let party = there stations.parties.items c (omega (arith, is, count_is)) in
      let its = there disks_now c (let many = opens.clients.as_many in omega (arith, is, enough_disks, many)) in
      let opened = opened_at c its.0 party.0 is its.1 party.1 in
      let fresh_one = fresh_at c opened.1 opened.3 in
      let plays = opened.4.plays fresh_one.told in
      let no_cut : party.0.cut ≡ None = none_of party.0.cut plays.cut_is in (
        opened.1,
        opened.3,
        record {
          start = its.0;
          opens = opened.4.opens;
          stands = client_stands c its.0 party.0 its.1 party.1;
          stages = [];
          follow = refl;
          worlds_are = refl;
          last = record {
            party = party.0;
            is_party = party.1;
            disk = its.0;
            is_disk = its.1;
            stage_is =
                ap (λ (x : Option Cut). record { world = world; waiting = waiting_of x; disk = its.0 }) (sym no_cut);
          };
        },
      )

  others_first :
      (place : ℕ) → length schedule.calls < place → slice_get (disk_now ∷ disks_now) place ≡ slice_get (disk ∷ disks) place
  others_first zero far = absurd (let no : ⊥ = omega (arith, far) in no)
  others_first (suc c) far = opens.clients.others c (omega (arith, far))

  no_sum : (n from : ℕ) (f : Station → ℕ) → ((c : ℕ) → f (client_at c) ≡ 0)
      → sum_by f (map client_at (range_with_len from n)) ≡ 0
  no_sum zero from f all = refl
  no_sum (suc n) from f all =
      let first = all from in
      let rest = no_sum n (from + 1) f all in
      let one = sum_by-cons f (client_at from) (map client_at (range_with_len (from + 1) n)) in
      omega (arith, first, rest, one)

  no_cuts : sum_by (cuts_of none []) (stations_of none) ≡ 0
  no_cuts =
      let one = sum_by-cons (cuts_of none []) the_server (map client_at (range_with_len 0 (length schedule.calls))) in
      let rest = no_sum (length schedule.calls) 0 (cuts_of none []) (λ c. refl) in
      omega (arith, one, rest)

  counts_first : Tells stations.report (counts_to none [])
  counts_first =
      subst (λ (n : ℕ). Tells stations.report (record no_counts { cuts = n })) (sym no_cuts) opens.none_counted

  -- Nothing was played yet.
  pub played_first : HasPlayed g cuts none [] (disk ∷ disks) at
  played_first =
      record {
        plays = refl;
        playing = record { bench = bench_first; moment = opens.no_moment };
        paths = path_first;
        count_is = count_is;
        others = others_first;
        as_many = (let many = opens.clients.as_many in let e : 1 + length disks_now ≡ suc (length disks) = omega (arith, many) in e);
        counts = counts_first;
      }
