-- Each event that may come keeps a sound world.
use Rattle.std.proofs.Common.{◌≡◌, ℕ, zero, suc, ◌<◌, List, [], Bool, true, refl, sym, ap, subst, ◌∙◌}
use Rattle.ftl0_client_job.specs.declared.work.Work.TheVariants as work
use Rattle.ftl0_client.specs.Client as client
use Rattle.air_world.proofs.Names.{same_Some, most_tasks, task_count, Work, new_directory, new_download, new_upload, Party, to_client_delivered, alike-itself, Changes, ClientDoes, ClientEvent, WorldStep, broken, ClientPart, asking, asking_file, next_upload, part_with, with_current, IsAllowed, Event, ask_download, ask_list, ask_resume, ask_upload, break_client, cut_client, cut_server, tick_client, tick_server, to_client, to_server, SoundLaw, Sound, StationLaws, PartyAt, World, counted, with_party}
use Rattle.air_world.proofs.FirstLemmas.{first-sound}
use Rattle.air_world.proofs.ClientsStay.{stay-refl}
use Rattle.air_world.proofs.Granted.{granted-like}
use Rattle.air_world.proofs.Following.{does-so, stays-next}
use Rattle.air_world.proofs.Marked.{lawful-sent}
use Rattle.air_world.proofs.Rebuild.{IsMade, StayParties, rebuilt}
use Rattle.air_world.proofs.Seats.{between, calls}
use Rattle.air_world.proofs.AskOthers.{ask-download, ask-list}
use Rattle.air_world.proofs.AskResume.{ask-resume}
use Rattle.air_world.proofs.AskUpload.{ask-upload}
use Rattle.air_world.proofs.Asked.{MayBeAsked}
use Rattle.air_world.proofs.ClientEvents as events
use Rattle.air_world.proofs.ClientHeard.{IsReceiving}
use Rattle.air_world.proofs.ServerEvents.{server-hears-kept, server-ticks-kept}

module _ (laws : StationLaws) (old new : World) (sound : Sound old) where
  -- of the client of a number, at its place, with this part
  module _ (event : Event) (happens : ClientEvent old event new) where
    -- the part is this one
    with-part : (c : ℕ) (part : ClientPart) → happens.c ≡ c → happens.part ≡ part
        → ((cut : Bool) → ClientDoes cut old c part new → Sound new) → Sound new
    with-part c part c_is part_is does =
        does happens.part.party.is_cut
        (subst (λ c. ClientDoes happens.part.party.is_cut old c part new) c_is
        (subst (λ part. ClientDoes happens.part.party.is_cut old happens.c part new) part_is happens.does))

  -- a work without a new task
  ask-kept : (event : Event) (happens : ClientEvent old event new) (c : ℕ) (party : Party) (wanted : Work)
      → happens.c ≡ c → PartyAt old happens.c party → happens.part ≡ asking party wanted
      → ((is : PartyAt old c party) → MayBeAsked old c party party [] wanted) → Sound new
  ask-kept event happens c party wanted c_is is part_is may =
      let there = subst (λ c. PartyAt old c party) c_is is in
      with-part event happens c (asking party wanted) c_is part_is
      (events.ask-does laws.client laws.client_steps old new sound c party there wanted (may there))

  list-kept : (number : ℕ) (tokens : List ℕ) → IsAllowed old (ask_list number tokens)
      → ClientEvent old (ask_list number tokens) new → Sound new
  list-kept zero tokens allowed happens = absurd happens.takes
  list-kept (suc c) tokens allowed happens =
      let takes = happens.takes in
      ask-kept (ask_list (suc c) tokens) happens c takes.1.0
      (work.Directory (new_directory tokens)) takes.0 takes.1.1 takes.1.2
      (λ is. ask-list old c takes.1.0 tokens sound is allowed.in_range)

  download-kept : (number file : ℕ) → IsAllowed old (ask_download number file)
      → ClientEvent old (ask_download number file) new → Sound new
  download-kept zero file allowed happens = absurd happens.takes
  download-kept (suc c) file allowed happens =
      let takes = happens.takes in
      ask-kept (ask_download (suc c) file) happens c takes.1.0
      (work.Download (new_download takes.1.0.client.server file)) takes.0 takes.1.1 takes.1.2
      (λ is. ask-download old c takes.1.0 file sound is allowed.in_range)

  resume-kept : (number : ℕ) → ClientEvent old (ask_resume number) new → Sound new
  resume-kept zero happens = absurd happens.takes
  resume-kept (suc c) happens =
      let takes = happens.takes in
      let it = takes.1.2 in
      ask-kept (ask_resume (suc c)) happens c takes.1.0
      (work.Upload (new_upload it.task it.entry.number it.file)) takes.0 takes.1.1 it.part_is
      (λ is. ask-resume old c takes.1.0 it.task it.entry it.file sound is it.last it.is_entry it.is_file)

  -- a file for the first time
  upload-kept : (number count : ℕ) → IsAllowed old (ask_upload number count)
      → ClientEvent old (ask_upload number count) new → Sound new
  upload-kept zero count allowed happens = absurd happens.takes
  upload-kept (suc c) count allowed happens =
      let takes = happens.takes in
      let party = takes.1.0 in
      let is = subst (λ c. PartyAt old c party) takes.0 takes.1.1 in
      let it = next_upload old c count in
      let part_is = takes.1.2 ∙ ap (λ c. asking_file old (next_upload old c count) party) takes.0 in
      let possible = allowed.possible in
      let same = same_Some possible.0 party (sym possible.1 ∙ is) in
      let few = subst (λ (p : Party). task_count p.client.lists < most_tasks) same possible.2.1 in
      let may = ask-upload laws.client.begin old c party count sound is few allowed.in_range in
      with-part (ask_upload (suc c) count) happens c (asking_file old it party) takes.0 part_is
      (events.begin-does laws.client laws.client_steps old new sound c party is it may)

  -- a tick
  client-ticks-kept : (number : ℕ) → ClientEvent old (tick_client number) new → Sound new
  client-ticks-kept zero happens = absurd happens.takes
  client-ticks-kept (suc c) happens =
      let takes = happens.takes in
      let is = subst (λ c. PartyAt old c takes.1.0) takes.0 takes.1.1 in
      with-part (tick_client (suc c)) happens c (part_with takes.1.0 client.ticks) takes.0 takes.1.2
      (events.tick-does laws.client laws.client_steps old new sound c takes.1.0 is)

  -- a delivery
  client-hears-kept : (number place : ℕ) → IsAllowed old (to_client number place)
      → ClientEvent old (to_client number place) new → Sound new
  client-hears-kept zero place allowed happens = absurd happens.takes
  client-hears-kept (suc c) zero allowed happens = absurd happens.takes.1.2
  client-hears-kept (suc c) (suc place) allowed happens =
      let takes = happens.takes in
      let party = takes.1.0 in
      let it = takes.1.2 in
      let is = subst (λ c. PartyAt old c party) takes.0 takes.1.1 in
      let coming : IsReceiving old c party place it.t = record {
        is = is;
        attempt = it.sent.attempt;
        current = it.sent.current;
        lawful = lawful-sent (λ a. a.by_server) old c place party it.t is it.sent allowed.possible;
      } in
      with-part (to_client (suc c) (suc place)) happens c
      (part_with (with_current (to_client_delivered place it.t) party) (client.hears it.t.frame)) takes.0 it.part_is
      (events.frame-does laws.client laws.client_steps old new sound c place party it.t coming)

  -- a break, and a cut that is noted
  break-kept : (number : ℕ) → Changes old number broken new → Sound new
  break-kept zero changes = absurd changes.2
  break-kept (suc c) changes =
      let of = changes.2 in
      let new_is = changes.3 ∙ ap (λ (it : Party). counted (with_party old changes.0 it)) of.1.2 in
      events.break-kept laws.client laws.client_steps old new sound changes.0 of.1.0 of.1.1 new_is

  note-kept : (number : ℕ) → Changes old number (λ party. record party { is_cut = true }) new → Sound new
  note-kept zero changes = absurd changes.2
  note-kept (suc c) changes =
      let of = changes.2 in
      let new_is = changes.3 ∙ ap (λ (it : Party). counted (with_party old changes.0 it)) of.1.2 in
      events.flag-kept laws.client laws.client_steps old new sound changes.0 of.1.0 of.1.1 new_is

  -- nothing changes but that the server's next event is to be cut
  abbrev noted : World
  noted = counted (record old { is_cut = true })

  noted-made : IsMade noted
  noted-made = record {
    between = between old sound;
    known = λ place seat at.
        let session = sound.places.sessions place seat at in
        (session.c, session.party, session.is_party, session.caller_is);
    store = sound.store;
    lists = sound.lists;
    calls = λ c party is. calls old sound c party is;
    facts = λ c party is. (sound.parties c party is).facts;
    granted = granted-like old noted (λ c party is. (party, is, alike-itself party.attempts)) sound.granted;
  }

  noted-stay : StayParties old noted
  noted-stay = record {
    me = refl;
    window = refl;
    files = refl;
    many = refl;
    each = λ c party is. (party, is, record { client = refl; uploads = refl; attempts = stay-refl party.attempts });
  }

  server-note-kept : new ≡ noted → Sound new
  server-note-kept new_is = subst Sound (sym new_is) (rebuilt old noted sound noted-stay noted-made)

  pub kept : (event : Event) → WorldStep old event new → Sound new
  kept (ask_upload number count) step = upload-kept number count step.allowed step.happens
  kept (ask_resume number) step = resume-kept number step.happens
  kept (ask_list number tokens) step = list-kept number tokens step.allowed step.happens
  kept (ask_download number file) step = download-kept number file step.allowed step.happens
  kept (to_server number place) step =
      server-hears-kept laws.server old new sound number place step.allowed step.happens
  kept (to_client number place) step = client-hears-kept number place step.allowed step.happens
  kept tick_server step = server-ticks-kept laws.server old new sound step.happens
  kept (tick_client number) step = client-ticks-kept number step.happens
  kept (break_client number) step = break-kept number step.happens
  kept (cut_server call choice) step = server-note-kept step.happens
  kept (cut_client number call choice) step = note-kept number step.happens

-- the law, from those of both stations
pub sound-law : StationLaws → SoundLaw
sound-law laws = record {
  first = first-sound;
  kept = λ old new event sound step. kept laws old new sound event step;
  first_none_gone = λ schedule. refl;
  none_gone = λ old new event sound step. (stays-next laws.server old sound event new step).none_gone;
  drops = λ world event coming delivered sound allowed takes. (does-so laws.server world sound event coming delivered allowed.possible takes).drops;
}
