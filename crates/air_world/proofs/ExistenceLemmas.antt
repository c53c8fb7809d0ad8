-- If an event may come there is a step.
use Rattle.std.proofs.Common.{◌≡◌, ℕ, zero, suc, ◌-◌, ◌<◌, [], length, reverse, get_or, refl, sym, subst, arith, Bool}
use Rattle.std.proofs.Common.{true, false, Option, None, Some, inl, inr}
use Rattle.ftl0_server.specs.StepLaws.Steps as server
use Rattle.ftl0_client_job.specs.declared.work.Work.TheVariants as work
use Rattle.ftl0_client.specs.Client as client
use Rattle.ftl0_client.specs.Laws as law
use Rattle.air_world.proofs.Names.{position, option_map, eqb_tells, length-reverse, position-Some, same_Some, slice_get-get_or, Transmission, Refusal, Sending, next_sending, NodeEvent, hears, ticks, is_going, new_task, Lists, Task, task_count, task_of, new_directory, new_download, new_upload, Attempted, Client, IsSilent, sends_by, sends_of_attempt, sends_of_link, Party, to_client_delivered, to_server_delivered, task-file, ClientDoes, ClientEvent, Happens, ServerDoes, ServerEvent, broken, ClientPart, ClientTakes, IsResuming, ServerTakes, asking, asking_file, next_upload, part_with, with_current, IsPossible, last_unfinished, ExistenceLaw, Event, ask_download, ask_list, ask_resume, ask_upload, break_client, cut_client, cut_server, tick_client, tick_server, to_client, to_server, Sound, client_started, PartyAt, World, counted, next_moment, with_party}

-- ---- the two stations

server-does : server.SomeStepLaw → (world : World) (coming : NodeEvent) (delivered : World) (cut : Bool) → Sound world
    → (next : World) × ServerDoes cut world coming delivered next
server-does some world coming delivered false sound =
    let it = some world.server coming [] sound.may_step in
    (_, record { gives = it.gives; step = it.step; did = _; did_is = refl; new_is = refl })
server-does some world coming delivered true sound = (_, record { count = 0; within = omega arith; new_is = refl })

server-event : server.SomeStepLaw → (world : World) (event : Event) (coming : NodeEvent) (delivered : World)
    → Sound world
    → ServerTakes world event coming delivered → (next : World) × ServerEvent world event next
server-event some world event coming delivered sound takes =
    let does = server-does some world coming delivered world.is_cut sound in
    (does.0, record { coming = coming; delivered = delivered; takes = takes; does = does.1 })

-- whether a client has anything to send doesn't depend on its notes
silent-noted : (it : Client) (lists : Lists) → IsSilent it → IsSilent (record it { lists = lists })
silent-noted it lists silent = by it.stray silent
  where
    sent : (a : Attempted) (next : Option Sending) → sends_of_link it a next ≡ None
        → sends_of_link (record it { lists = lists }) a next ≡ None
    sent a None silent = refl
    sent a (Some sending) silent = absurd (cc)

    link : (attempt : Option Attempted) → sends_of_attempt it attempt ≡ None
        → sends_of_attempt (record it { lists = lists }) attempt ≡ None
    link None silent = refl
    link (Some a) silent = sent a (next_sending it.window a.end) silent

    by : (stray : Option Refusal) → sends_by it stray ≡ None → sends_by (record it { lists = lists }) stray ≡ None
    by None silent = link it.attempt silent
    by (Some refusal) silent = absurd (cc)

client-does : law.SomeStepLaw → (world : World) (c : ℕ) (part : ClientPart) (cut : Bool) → law.MayStep part.party.client
    → (next : World) × ClientDoes cut world c part next
client-does some world c part false may =
    let it = some (client_started part) part.coming
    (record { silent = silent-noted part.party.client (client_started part).lists may.silent; fits = may.fits }) in (
      _,
      record {
        noted = it.noted;
        did = record {
          old = client_started part;
          now = it.new;
          frames =
              it.frames;
        };
        old_is = refl;
        step = it.step;
        new_is = refl;
      },
    )
client-does some world c part true may = (_, record { count = 0; within = omega arith; new_is = refl })

client-event : law.SomeStepLaw → (world : World) (event : Event) (c : ℕ) (part : ClientPart)
    → law.MayStep part.party.client
    → ClientTakes world event c part → (next : World) × ClientEvent world event next
client-event some world event c part may takes =
    let does = client-does some world c part part.party.is_cut may in
    (does.0, record { c = c; part = part; takes = takes; does = does.1 })

-- ---- the last unfinished task is one

last-there : (lists : Lists) (task : ℕ) → last_unfinished lists ≡ Some task
    → (entry : Task) × (task_of lists task ≡ Some entry)
last-there lists task is = by (position unfinished (reverse lists.tasks)) refl is
  where
    unfinished : Task → Bool
    unfinished = λ task. is_going task.progress

    none : Task
    none = new_task (record { chars = []; ssid = 0 }) (record { chars = []; ssid = 0 }) [] 0 []

    there : (place : ℕ) → place < task_count lists → task_count lists - place ≡ task
        → (entry : Task) × (task_of lists task ≡ Some entry)
    there place below same = elim (eqb_tells task 0) [
      | inl w ↦ absurd (let zero_is = w.1 in omega arith)
      | inr w ↦ (
        get_or lists.tasks (task - 1) none,
        rw w.0
            (slice_get-get_or lists.tasks (task - 1) none (omega arith)),
      )
    ]

    by : (o : Option ℕ) → position unfinished (reverse lists.tasks) ≡ o
        → option_map (λ place. task_count lists - place) o ≡ Some task
        → (entry : Task) × (task_of lists task ≡ Some entry)
    by None at is = absurd (cc)
    by (Some place) at is =
        let within = (position-Some unfinished (reverse lists.tasks) place none at).0 in
        let same : length (reverse lists.tasks) ≡ length lists.tasks = length-reverse lists.tasks in
        there place (omega arith) (same_Some (task_count lists - place) task is)

-- ---- each event

-- the client at a place may step
may-step-at : (world : World) (c : ℕ) (party : Party) → Sound world → PartyAt world c party → law.MayStep party.client
may-step-at world c party sound there = (sound.parties c party there).may_step

resuming : (world : World) (c : ℕ) (party : Party) (task : ℕ) → Sound world → PartyAt world c party
    → last_unfinished party.client.lists ≡ Some task
    → (part : ClientPart) × IsResuming world party part × (part.party ≡ party)
resuming world c party task sound there last =
    let found = last-there party.client.lists task last in
    let its = (sound.parties c party there).tasks.each task found.0 found.1 in (
      asking party (work.Upload (new_upload task found.0.number its.asked.file)),
      record {
        task = task;
        last = last;
        entry = found.0;
        is_entry = found.1;
        file = its.asked.file;
        is_file = task-file world.files c party task found.0 its;
        part_is = refl;
      },
      refl,
    )

module _ (serves : server.SomeStepLaw) (works : law.SomeStepLaw) (world : World) (sound : Sound world) where
  happens : (event : Event) → IsPossible world event → (next : World) × Happens world event next
  happens (ask_upload zero count) possible = absurd possible
  happens (ask_upload (suc c) count) possible =
      client-event works world (ask_upload (suc c) count) c (asking_file world (next_upload world c count) possible.0)
      (may-step-at world c possible.0 sound possible.1) (refl, (possible.0, possible.1, refl))
  happens (ask_resume zero) possible = absurd possible
  happens (ask_resume (suc c)) possible =
      let it = resuming world c possible.0 possible.2.1.0 sound possible.1 possible.2.1.1 in
      client-event works world (ask_resume (suc c)) c it.0
      (subst (λ (party : Party). law.MayStep party.client) (sym it.2) (may-step-at world c possible.0 sound possible.1))
      (refl, (possible.0, possible.1, it.1))
  happens (ask_list zero tokens) possible = absurd possible
  happens (ask_list (suc c) tokens) possible =
      client-event works world (ask_list (suc c) tokens) c (asking possible.0 (work.Directory (new_directory tokens)))
      (may-step-at world c possible.0 sound possible.1) (refl, (possible.0, possible.1, refl))
  happens (ask_download zero number) possible = absurd possible
  happens (ask_download (suc c) number) possible =
      client-event works world (ask_download (suc c) number) c
      (asking possible.0 (work.Download (new_download possible.0.client.server number)))
      (may-step-at world c possible.0 sound possible.1) (refl, (possible.0, possible.1, refl))
  happens (to_server zero number) possible = absurd possible
  happens (to_server (suc c) zero) possible = absurd possible.2.3
  happens (to_server (suc c) (suc place)) possible =
      let party : Party = possible.0 in
      let t : Transmission = possible.2.1 in
      server-event serves world (to_server (suc c) (suc place)) (hears t.frame (next_moment world))
      (with_party world c (with_current (to_server_delivered place t) party)) sound
      (record {
        party = party;
        is_party = possible.1;
        t = t;
        sent = record { attempt = possible.2.0; current = possible.2.2; is_at = possible.2.3.sent };
        coming_is = refl;
        delivered_is = refl;
      })
  happens (to_client zero number) possible = absurd possible
  happens (to_client (suc c) zero) possible = absurd possible.2.3
  happens (to_client (suc c) (suc place)) possible =
      let party : Party = possible.0 in
      let t : Transmission = possible.2.1 in
      client-event works world (to_client (suc c) (suc place)) c
      (part_with (with_current (to_client_delivered place t) party) (client.hears t.frame))
      (may-step-at world c party sound possible.1) (
        refl,
        (
          party,
          possible.1,
          record {
            t = t;
            sent = record { attempt = possible.2.0; current = possible.2.2; is_at = possible.2.3.sent };
            part_is = refl;
          },
        ),
      )
  happens tick_server possible = server-event serves world tick_server (ticks (next_moment world)) world sound
      (refl, refl)
  happens (tick_client zero) possible = absurd possible
  happens (tick_client (suc c)) possible =
      client-event works world (tick_client (suc c)) c (part_with possible.0 client.ticks)
      (may-step-at world c possible.0 sound possible.1) (refl, (possible.0, possible.1, refl))
  happens (break_client zero) possible = absurd possible
  happens (break_client (suc c)) possible = (
    counted (with_party world c (broken possible.0)),
    (c, broken possible.0, (refl, (possible.0, possible.1, refl)), refl),
  )
  happens (cut_server call choice) possible = (counted (record world { is_cut = true }), refl)
  happens (cut_client zero call choice) possible = absurd possible
  happens (cut_client (suc c) call choice) possible = (
    counted (with_party world c (record possible.0 { is_cut = true })),
    (c, record possible.0 { is_cut = true }, (refl, (possible.0, possible.1, refl)), refl),
  )

pub existence-law : server.SomeStepLaw → law.SomeStepLaw → ExistenceLaw
existence-law serves works world event sound allowed =
    let it = happens serves works world sound event allowed.possible in
    (it.0, record { allowed = allowed; happens = it.1 })
