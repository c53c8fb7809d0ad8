-- The server took part in an event, whether it was cut or not.
use Rattle.std.proofs.Common.{◌≡◌, ℕ, ◌-◌, ◌<◌, ◌≤◌, Bool, true, false, List, [], length, Option, None, Some}
use Rattle.std.proofs.Common.{IfSome, Result, refl, sym, ap, subst, ◌∙◌, inl, inr, arith}
use Rattle.file_store.specs.State.{StandsFor}
use Rattle.air_rehearsal.proofs.Names.{is_some, map, take, ⊤, FrameValue, Window, window_of, ArmsOnly, Cuts, LastsSo, cut_state, IsTold, LeavesOnly, DiskFault, Ghosts, Command, DropsNothing, Leaves, images_now, state, at_told, if_told, MakesBetween, MakesFirst, after_first, IsReady, standing_of, store_form, store_on, Store, on_same, Server, new_server, settled, IsServer, Empties, happening, FrontOfEventLaw, MissesLaw, sessions_over, NoneGone, ServerDoes, server_commands, Event, World, counted, store_blocks, CarriesOut, StepBy, IsCutSo, IsTaken, AwaitsServer, ServesEvent, Serving, TellsFailure, server_stage, serving, waiting_of, Makes, StandsNow, least_done, acts, the_server, IsSteady, PlayParties, PlaysWorld, asked_from, Cut, Stations}
use Rattle.air_rehearsal.proofs.SameContent.{server-over, store-same}
use Rattle.air_rehearsal.proofs.ServingDisk.{WentCut, WentWhole, all-images, stands-now, steady-on, told-content, went-cut}
use Rattle.air_rehearsal.proofs.ServingWorld.{carried, commands-blocks, empties-keeps, goes, happening-window, next}
use Rattle.air_rehearsal.proofs.ServingWorld.{plays-over}

module _ {B : Type 0} (g : Ghosts B) (cuts : Cuts B)
    (lasts_so : (old new : B) → g.lasts old new → LastsSo (cut_state g cuts old) (cut_state g cuts new))
    (is_image : (disk : B) → IfSome (g.content disk) (g.images disk))
    (counts_now : (disk : B) (t : ℕ) (image : List ℕ) → t ≤ g.moment disk → g.images disk image
    → g.images_since disk t image) (world : World) (event : Event) where
  -- ---- without a cut

  module _ (old mid new : Serving B) (answer : Result ⊤ DiskFault) (awaits : AwaitsServer g cuts world old)
      (none : old.stations.cut ≡ None) (taken : IsTaken g world event old mid answer)
      (whole : WentWhole g world.server taken.coming old.server mid.server old.disk mid.disk)
      (memory : cuts.is_starved mid.disk ≡ false) (frames : List FrameValue) (last : Server)
      (sent : Empties (happening world.server taken.coming []).after frames last)
      (is : IsServer (store_on g mid.server.store mid.disk) new.server (settled last)) (disk : new.disk ≡ mid.disk)
      (store : new.server.store ≡ mid.server.store) (me : new.server.me ≡ new.stations.me) (k : new.stations.k ≡ old.stations.k)
      (uploads : new.stations.uploads ≡ mid.stations.uploads) (cut : new.stations.cut ≡ mid.stations.cut) where
    abbrev then : World
    then = next world event awaits.sound taken.coming taken.delivered taken.takes frames last sent

    commands : List Command
    commands = server_commands world taken.coming

    same-store : store_on g old.server.store old.disk ≡ world.server.store
    same-store = awaits.plays.server.store

    carries : CarriesOut g the_server world event old.disk mid.disk
    carries = record {
      told = whole.does.puts.told;
      since =
          carried g world event taken.coming taken.delivered old.disk mid.disk taken.takes
          (subst
          (λ (s : Store). Leaves g old.disk mid.disk (λ _. MakesFirst s (server_commands world taken.coming)))
          same-store whole.does.since);
      lasts = whole.does.puts.lasts;
    }

    not-cut : world.is_cut ≡ false
    not-cut = sym awaits.plays.stations.cut_is ∙ ap (λ (c : Option Cut). is_some c) none

    store-then : then.server.store ≡ store_on g mid.server.store mid.disk
    store-then =
        (empties-keeps (happening world.server taken.coming []).after frames last sent).1 ∙ sym whole.is.store

    blocks-then : then.server.store.blocks ≡ store_blocks
    blocks-then =
        ap (λ (s : Store). s.blocks) store-then
        ∙ ap (λ (s : Store). s.blocks) ((whole.does.done (λ never. never)).0 (inr awaits.steady.told))
        ∙ commands-blocks (server_commands world taken.coming) (store_on g old.server.store old.disk)
        ∙ ap (λ (s : Store). s.blocks) same-store ∙ awaits.plays.blocks

    window-then : then.server.window ≡ window_of new.stations.k
    window-then =
        (empties-keeps (happening world.server taken.coming []).after frames last sent).0
        ∙ happening-window world.server taken.coming [] ∙ awaits.plays.stations.window_is
        ∙ ap (λ (n : ℕ). window_of n) (sym k)

    stands-then : (image : List ℕ) → images_now g mid.disk image → StandsFor image then.server.store
    stands-then image now =
        subst (λ (s : Store). StandsFor image s) (sym store-then)
        (all-images g 0 old.server.store mid.server.store old.disk mid.disk (server_commands world taken.coming)
        whole.does awaits.steady.told
        (λ i was. subst (λ (s : Store). StandsFor i s) (sym same-store) (awaits.stands.images i was)) image now)

    pub serves-whole :
        PlayParties new.stations.parties.items then.parties → ServesEvent g cuts world event old new
    serves-whole plays =
        let steady = steady-on g cuts lasts_so old.disk mid.disk awaits.steady memory whole.does.puts.lasts
        whole.does.puts.told in
        let stands = stands-now g is_image counts_now then mid.disk steady.0.told stands-then in
        record {
          next = then;
          happens = record {
            coming = taken.coming;
            delivered = taken.delivered;
            takes = taken.takes;
            does =
                subst (λ (b : Bool). ServerDoes b world taken.coming taken.delivered then) (sym not-cut)
                (goes world event awaits.sound taken.coming taken.delivered taken.takes frames last sent);
          };
          plays = record {
            server =
                server-over new.server then.server (store_on g mid.server.store mid.disk)
                (store_on g new.server.store new.disk)
                (sym
                (store-same g mid.disk new.disk (ap (λ (d : B). g.content d) disk) mid.server.store new.server.store
                store)) is;
            blocks = blocks-then;
            stations = record {
              me_is = sym me ∙ is.sends.me;
              window_is = window-then;
              cut_is = ap (λ (c : Option Cut). is_some c) cut ∙ taken.plays.cut_is;
              files_are = taken.plays.files_are ∙ ap (λ (v : _). asked_from 0 v.items) (sym uploads);
              parties = plays;
            };
          };
          does =
              subst
              (λ (c : Option Cut).
              StepBy g cuts the_server acts (waiting_of c) (server_stage world old) event (server_stage then new))
              (sym none)
              (subst (λ (d : B). CarriesOut g the_server world event old.disk d) (sym disk) carries);
          stands = subst (λ (d : B). StandsNow g the_server then d) (sym disk) stands;
          steady = subst (λ (d : B). IsSteady g cuts d) (sym disk) steady.0;
        }

  -- ---- with a cut

  module _ (on : (first second third : B) → g.lasts first second → g.lasts second third → g.lasts first third)
      (misses : MissesLaw) (front : FrontOfEventLaw) (old mid new : Serving B) (cut : Cut) (armed : B)
      (answer : Result ⊤ DiskFault) (awaits : AwaitsServer g cuts world old) (waits : old.stations.cut ≡ Some cut)
      (arms : ArmsOnly g cuts (Some (cut.call - 1)) old.disk armed)
      (taken : IsTaken g world event (serving old.stations old.server armed) mid answer)
      (gone : IsCutSo g cuts new.stations mid.disk new.disk new.server)
      (stations : new.stations ≡ record mid.stations { cut = None }) (me : new.stations.me ≡ old.stations.me)
      (k : new.stations.k ≡ old.stations.k) (ready : IsReady g old.server.store armed)
      (drops : DropsNothing (server_commands world taken.coming)) where
    told-armed : IsTold (g.content armed)
    told-armed =
        subst (λ (c : Option (List ℕ)). IsTold c) (sym arms.nothing_else.same_content) awaits.steady.told

    store-armed : store_on g old.server.store armed ≡ world.server.store
    store-armed = on_same g old.server.store old.disk armed arms.nothing_else.same_content ∙ awaits.plays.server.store

    stands-armed : (image : List ℕ) → images_now g armed image → StandsFor image (store_on g old.server.store armed)
    stands-armed image now =
        let then = (arms.nothing_else.same_past (g.moment armed) image).0 now in
        let was = subst (λ (t : ℕ). g.images_since old.disk t image) arms.nothing_else.same_moment then in
        subst (λ (s : Store). StandsFor image s) (sym store-armed) (awaits.stands.images image was)

    -- what the event did to the disk
    went :
        WentCut g cuts lasts_so (cut.call - 1) (store_on g old.server.store armed)
        (server_commands world taken.coming) armed mid.disk
    went =
        let writes = subst (λ (c : Option Cut). TellsFailure g c old.disk) waits awaits.tells in
        went-cut g cuts lasts_so on misses front world.server taken.coming old.server mid.server armed mid.disk
        (cut.call - 1) (arms.plain.1 awaits.steady.plain) arms.armed (omega (arith, arms.writes, writes))
        (omega (arith, arms.reads, awaits.steady.reads)) gone.strikes.memory_before told-armed stands-armed ready
        (subst NoneGone (sym store-armed) awaits.none_gone) drops answer taken.hears

    told-left : IsTold (g.content gone.left)
    told-left = gone.strikes.keeps.told.1 (went.told.1 told-armed)

    abbrev octets : List ℕ
    octets = (told-content (g.content gone.left) told-left).0

    is-left : g.content gone.left ≡ Some octets
    is-left = (told-content (g.content gone.left) told-left).1

    since : Leaves g armed mid.disk (λ _. MakesFirst world.server.store (server_commands world taken.coming))
    since =
        subst
        (λ (s : Store). Leaves g armed mid.disk (λ _. MakesFirst s (server_commands world taken.coming)))
        store-armed went.since

    -- what is left stands for the store after the first of the commands
    made : MakesFirst world.server.store (server_commands world taken.coming) octets
    made =
        let first = told-content (g.content armed) told-armed in
        let leaves = at_told
        (λ (_ : List ℕ).
        LeavesOnly g.moment g.images_since armed mid.disk
        (MakesFirst world.server.store (server_commands world taken.coming))) first.0 first.1 since in
        let image = at_told (λ (c : List ℕ). g.images mid.disk c) octets is-left gone.strikes.loses.left in
        let was = counts_now mid.disk (g.moment armed) octets leaves.later image in
        elim (leaves.each (g.moment armed) octets (omega arith) was) [
          | inl before ↦ (
            0,
            omega arith,
            omega arith,
            subst (λ (s : Store). StandsFor octets s) store-armed (stands-armed octets before),
          )
          | inr here ↦ here
        ]

    abbrev store-left : Store
    store-left = after_first made.0 world.server.store (server_commands world taken.coming)

    blocks-left : store-left.blocks ≡ store_blocks
    blocks-left =
        commands-blocks (take made.0 (server_commands world taken.coming)) world.server.store ∙ awaits.plays.blocks

    same-left : store_on g new.server.store new.disk ≡ store-left
    same-left =
        let stood = at_told
        (λ (c : List ℕ). standing_of store_blocks c ≡ state (store_on g new.server.store new.disk)) octets is-left
        gone.restarts.stood in
        let stands : standing_of store_blocks octets ≡ state store-left =
        subst (λ (b : ℕ). standing_of b octets ≡ state store-left) blocks-left made.3 in
        let same : state (store_on g new.server.store new.disk) ≡ state store-left = sym stood ∙ stands in cc

    abbrev then-cut : World
    then-cut =
        counted
        (record taken.delivered {
          server = new_server world.server.me world.server.window store-left;
          parties = map sessions_over taken.delivered.parties;
          is_cut = false;
        })

    is-cut : world.is_cut ≡ true
    is-cut = sym awaits.plays.stations.cut_is ∙ ap (λ (c : Option Cut). is_some c) waits

    steady-left : IsSteady g cuts gone.left
    steady-left = record {
      told = told-left;
      plain =
          gone.strikes.keeps.plain.1
          ((lasts_so armed mid.disk went.lasts).plain.1 (arms.plain.1 awaits.steady.plain));
      unarmed = gone.strikes.loses.disarmed;
      memory = gone.strikes.memory;
      reads = omega (arith, gone.strikes.keeps.reads, went.reads, arms.reads, awaits.steady.reads);
    }

    abbrev store-now : Store
    store-now = store_on g new.server.store new.disk

    plays-cut : PlaysWorld g new.stations new.server new.disk then-cut
    plays-cut = record {
      server =
          subst (λ (c : _). IsServer store-now new.server (new_server c world.server.window store-left))
          (me ∙ awaits.plays.stations.me_is)
          (subst (λ (w : Window). IsServer store-now new.server (new_server new.stations.me w store-left))
          (ap (λ (n : ℕ). window_of n) k ∙ sym awaits.plays.stations.window_is)
          (subst
          (λ (s : Store). IsServer store-now new.server (new_server new.stations.me (window_of new.stations.k) s))
          same-left gone.restarts.is_new));
      blocks = blocks-left;
      stations = record {
        me_is = me ∙ awaits.plays.stations.me_is;
        window_is = awaits.plays.stations.window_is ∙ ap (λ (n : ℕ). window_of n) (sym k);
        cut_is = ap (λ (s : Stations). is_some s.cut) stations;
        files_are = taken.plays.files_are ∙ ap (λ (s : Stations). asked_from 0 s.uploads.items) (sym stations);
        parties =
            subst (λ (s : Stations). PlayParties s.parties.items (map sessions_over taken.delivered.parties))
            (sym stations) (plays-over mid.stations.parties.items taken.delivered.parties taken.plays.parties);
      };
    }

    no-fewer :
        g.write_faults mid.disk < 18446744073709551615
        → IfSome (g.content gone.left) (Makes (least_done (cuts.arming mid.disk) (cut.call - 1)) the_server world event)
    no-fewer below =
        let commands = server_commands world taken.coming in
        if_told (g.content gone.left)
        (Makes (least_done (cuts.arming mid.disk) (cut.call - 1)) the_server world event) (λ image is.
        let there = at_told (λ (c : List ℕ). g.images mid.disk c) image is gone.strikes.loses.left in
        let makes = went.no_fewer below image
        (counts_now mid.disk (g.moment mid.disk) image (omega arith) there) in
        record {
          coming = taken.coming;
          delivered = taken.delivered;
          takes = taken.takes;
          stands =
              subst
              (λ (s : Store). MakesBetween (least_done (cuts.arming mid.disk) (cut.call - 1) Store Command store_form commands)
              (length commands) s commands image) store-armed makes;
        })

    pub serves-cut : ServesEvent g cuts world event old new
    serves-cut =
        let again = gone.restarts.again in
        let steady = steady-on g cuts lasts_so gone.left new.disk steady-left gone.memory again.lasts again.told in
        let now = told-content (g.content new.disk) steady.0.told in
        let each = at_told
        (λ (_ : List ℕ). (image : List ℕ) → images_now g new.disk image → StandsFor image store-now)
        now.0 now.1 gone.restarts.stands in
        record {
          next = then-cut;
          happens = record {
            coming = taken.coming;
            delivered = taken.delivered;
            takes = taken.takes;
            does =
                subst (λ (b : Bool). ServerDoes b world taken.coming taken.delivered then-cut) (sym is-cut)
                (record { count = made.0; within = made.2; new_is = refl });
          };
          plays = plays-cut;
          does =
              subst
              (λ (c : Option Cut).
              StepBy g cuts the_server acts (waiting_of c) (server_stage world old) event
              (server_stage then-cut new)) (sym waits)
              (record {
                armed = armed;
                arms = arms;
                lost = mid.disk;
                carries = record {
                  told = went.told;
                  since = carried g world event taken.coming taken.delivered armed mid.disk taken.takes since;
                  lasts = went.lasts;
                };
                left = gone.left;
                loses = gone.strikes.loses;
                keeps = gone.strikes.keeps;
                memory = gone.strikes.memory;
                stands =
                    subst (λ (c : Option (List ℕ)). IfSome c (λ image. StandsFor image store-left)) (sym is-left)
                    made.3;
                no_fewer = no-fewer;
                again = again;
              });
          stands =
              stands-now g is_image counts_now then-cut new.disk steady.0.told
              (λ image is. subst (λ (s : Store). StandsFor image s) same-left (each image is));
          steady = steady.0;
        }
