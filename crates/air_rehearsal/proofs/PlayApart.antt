-- What the stations make of an event in which the server takes no part, in whichever world is played.
use Rattle.std.specs.Prelude.{◌≡◌, ◌≤◌, ◌∷◌, ◌++◌}
use Rattle.std.proofs.Common.{sym, ap, ◌∙◌, subst}
use Rattle.air_world.specs.Attempts.Party.{Party}
use Rattle.air_rehearsal.specs.Seats.{asks}
use Rattle.air_rehearsal.specs.declared.part.Part.TheVariants as stored
use Rattle.air_rehearsal.proofs.Names.{ℕ, suc, List, [], length, slice_get, slice_set, true, Some, IfSome, refl, append-nil, same_Some, Cuts, Ghosts, EachImage, StandsFor, ServerState, upload_file, broken, ClientPart, ClientTakes, asking_file, next_upload, SoundLaw, IsAllowed, Event, ask_upload, break_client, cut_client, cut_server, with_asked, PartyAt, World, counted, with_party, Tells, one_if, IsBench, counts_with, BreaksOff, Report, is_fetch, is_question, is_refusal, Clients, ComesAlways, GoesApart, MayTake, TookPart, clients_of, with_server, IsPart, IsSeat, Seat, IsSteady, asked_from, Upload, Cut, Part, Party as StoredParty, Stations}
use Rattle.air_rehearsal.proofs.Apart.{goes_broken, goes_cut_client, goes_cut_server, set_same}
use Rattle.air_rehearsal.proofs.ClientFacts.{clients_event}
use Rattle.air_rehearsal.proofs.ClientGoes.{within_of}
use Rattle.air_rehearsal.proofs.CountLemmas.{came-at}
use Rattle.air_rehearsal.proofs.CutCounts.{client_cuts}
use Rattle.air_rehearsal.proofs.PartiesLemmas.{files-count, files-more}
use Rattle.air_rehearsal.proofs.PlayCounts.{break_cuts, broken_came, cut_client_cuts, cut_server_cuts, none_came}
use Rattle.air_rehearsal.proofs.PlayCounts.{same_came, tells_same, tells_with}
use Rattle.air_rehearsal.proofs.Took.{goes_took, may_take, seated}

module _ {B : Type 0} (g : Ghosts B) (cuts : Cuts B) (law : SoundLaw)
    (is_image : (disk : B) → IfSome (g.content disk) (g.images disk))
    (counts_now : (disk : B) (t : ℕ) (image : List ℕ) → t ≤ g.moment disk → g.images disk image
    → g.images_since disk t image) where
  -- A cut of a client is noted.
  notes_at :
      (old new : Clients B) (c : ℕ) (cut : Cut) (self : StoredParty)
      → slice_get old.stations.parties.items c ≡ Some self
      → new.stations.parties.items ≡ slice_set old.stations.parties.items c (record self { cut = Some cut })
      → new.disks ≡ old.disks
      → new.stations
      ≡ record old.stations { parties = new.stations.parties; report = new.stations.report }
      → new.stations.report ≡ old.stations.report
      → GoesApart g cuts (cut_client (suc c) cut.call cut.choice) old new
  notes_at old new c cut self self_at parties disks stations report world server disk bench allowed =
      let party : Party = allowed.possible.0 in
      let at : PartyAt world c party = allowed.possible.1 in
      let seat = seated g cuts world old server disk bench c party at in
      let same : self ≡ seat.party = same_Some self seat.party (sym self_at ∙ seat.is_party) in
      let next : World = counted (with_party world c (record party { is_cut = true })) in
      goes_cut_client g cuts law is_image counts_now world old new server disk bench c party at cut.call cut.choice
      allowed cut refl
      (record {
        parties_are =
            parties
            ∙ ap
            (λ (p : StoredParty). slice_set old.stations.parties.items c (record p { cut = Some cut })) same;
        disks_are = disks ∙ sym (set_same old.disks c seat.disk seat.is_disk);
        stations_are = stations;
      })
      (λ numbers tells.
      tells_with old.stations (cut_client (suc c) cut.call cut.choice) world next new.stations.report numbers 0 0 0 0
      refl
      (same_came is_refusal refl world next c party (record party { is_cut = true }) at refl refl)
      (same_came is_fetch refl world next c party (record party { is_cut = true }) at refl refl)
      (cut_client_cuts old.stations (suc c) cut.call cut.choice world)
      (tells_same new.stations.report numbers
      (subst (λ (r : _). Tells r numbers) (sym report) tells)))

  pub notes_cut :
      (old new : Clients B) (number c : ℕ) (cut : Cut) (self : StoredParty) → number ≡ suc c
      → slice_get old.stations.parties.items c ≡ Some self
      → new.stations.parties.items ≡ slice_set old.stations.parties.items c (record self { cut = Some cut })
      → new.disks ≡ old.disks
      → new.stations
      ≡ record old.stations { parties = new.stations.parties; report = new.stations.report }
      → new.stations.report ≡ old.stations.report
      → GoesApart g cuts (cut_client number cut.call cut.choice) old new
  notes_cut old new number c cut self number_is self_at parties disks stations report =
      subst (λ (n : ℕ). GoesApart g cuts (cut_client n cut.call cut.choice) old new) (sym number_is)
      (notes_at old new c cut self self_at parties disks stations report)

  -- A cut of the server is noted.
  pub notes_server_cut :
      (old : Clients B) (new : Stations) (cut : Cut) → new ≡ record old.stations { cut = Some cut }
      → GoesApart g cuts (cut_server cut.call cut.choice) old (clients_of new old.disks)
  notes_server_cut old new cut new_is world server disk bench allowed =
      let next : World = counted (record world { is_cut = true }) in
      goes_cut_server g cuts law world old new server disk bench cut.call cut.choice allowed cut refl new_is
      (λ numbers tells.
      tells_with old.stations (cut_server cut.call cut.choice) world next old.stations.report numbers 0 0 0 0 refl
      (none_came is_refusal refl world next refl) (none_came is_fetch refl world next refl)
      (cut_server_cuts old.stations cut.call cut.choice world) (tells_same old.stations.report numbers tells))

  -- A client is broken off.
  breaks_at :
      (old new : Clients B) (c : ℕ) (self now : StoredParty) (was then : B)
      → slice_get old.stations.parties.items c ≡ Some self → slice_get old.disks c ≡ Some was
      → new.stations.parties.items ≡ slice_set old.stations.parties.items c now
      → new.disks ≡ slice_set old.disks c then
      → new.stations
      ≡ record old.stations { parties = new.stations.parties; report = new.stations.report }
      → new.stations.report ≡ old.stations.report
      → ((seat : Seat) → IsSeat self seat → IsSteady g cuts was → BreaksOff g cuts seat self now was then)
      → EachImage g then (λ image. StandsFor image now.client.notes.lists)
      → GoesApart g cuts (break_client (suc c)) old new
  breaks_at old new c self now was then self_at was_at parties disks stations report breaks images world server disk bench
      allowed =
      let party : Party = allowed.possible.0 in
      let at : PartyAt world c party = allowed.possible.1 in
      let seat : Seat = record { world = world; c = c; party = party } in
      let it = seated g cuts world old server disk bench c party at in
      let same : self ≡ it.party = same_Some self it.party (sym self_at ∙ it.is_party) in
      let same_disk : was ≡ it.disk = same_Some was it.disk (sym was_at ∙ it.is_disk) in
      let next : World = counted (with_party world c (broken party)) in
      goes_broken g cuts law is_image counts_now world old new server disk bench c party at allowed
      (record {
        party = now;
        disk = then;
        breaks =
            subst (λ (s : StoredParty). BreaksOff g cuts seat s now it.disk then) same
            (subst (λ (d : B). BreaksOff g cuts seat self now d then) same_disk
            (breaks seat (subst (λ (s : StoredParty). IsSeat s seat) (sym same) it.is_seat)
            (subst (λ (d : B). IsSteady g cuts d) (sym same_disk) it.steady)));
        changes = record { parties_are = parties; disks_are = disks; stations_are = stations };
        images = images;
        same_report = report;
      })
      (λ numbers tells.
      tells_with old.stations (break_client (suc c)) world next new.stations.report numbers 0 0 0 0 refl
      (broken_came is_refusal refl world next c party at refl)
      (broken_came is_fetch refl world next c party at refl) (break_cuts old.stations (suc c) world)
      (tells_same new.stations.report numbers (subst (λ (r : _). Tells r numbers) (sym report) tells)))

  pub breaks_client :
      (old new : Clients B) (number c : ℕ) (self now : StoredParty) (was then : B) → number ≡ suc c
      → slice_get old.stations.parties.items c ≡ Some self → slice_get old.disks c ≡ Some was
      → new.stations.parties.items ≡ slice_set old.stations.parties.items c now
      → new.disks ≡ slice_set old.disks c then
      → new.stations
      ≡ record old.stations { parties = new.stations.parties; report = new.stations.report }
      → new.stations.report ≡ old.stations.report
      → ((seat : Seat) → IsSeat self seat → IsSteady g cuts was → BreaksOff g cuts seat self now was then)
      → EachImage g then (λ image. StandsFor image now.client.notes.lists)
      → GoesApart g cuts (break_client number) old new
  breaks_client old new number c self now was then number_is self_at was_at parties disks stations report breaks images =
      subst (λ (n : ℕ). GoesApart g cuts (break_client n) old new) (sym number_is)
      (breaks_at old new c self now was then self_at was_at parties disks stations report breaks images)

  -- what the report tells where a client took part
  tells_took :
      (world : World) (old mid : Clients B) (server : ServerState) (disk : B)
      (bench : IsBench g cuts world (with_server old server disk)) (event : Event) (c : ℕ) (party : Party)
      (part : Part) (whole : ClientPart) (at : PartyAt world c party) (allowed : IsAllowed world event)
      (takes : ClientTakes world event c whole)
      (is_part : IsPart (record { world = world; c = c; party = party }) part whole)
      (took :
      TookPart g cuts c part whole old mid
      (may_take g cuts world old server disk bench event c party part whole at allowed takes is_part))
      → is_question event ≡ asks part → (numbers : Report) → Tells old.stations.report numbers
      → Tells mid.stations.report
      (counts_with old.stations event world (with_asked world c whole took.takes.next) numbers)
  tells_took world old mid server disk bench event c party part whole at allowed takes is_part took asks_so numbers
      tells =
      let it = seated g cuts world old server disk bench c party at in
      let roles = clients_event world event c whole takes in
      tells_with old.stations event world (with_asked world c whole took.takes.next) mid.stations.report numbers
      (one_if (asks part)) _ _ (one_if _) (ap one_if asks_so)
      (came-at is_refusal refl world.parties c party took.takes.next at)
      (came-at is_fetch refl world.parties c party took.takes.next at)
      (client_cuts old.stations event world c it.party it.is_party
      (within_of old.stations.parties.items c it.party it.is_party) roles.server roles.own roles.others)
      (took.counts numbers tells)

  -- A client takes part, and no upload is asked beside it.
  pub goes_taken :
      (old new : Clients B) (event : Event) (c : ℕ) (part : Part) → ComesAlways old.stations event c part
      → ((whole : ClientPart) (may : MayTake g cuts c old part whole) → TookPart g cuts c part whole old new may)
      → GoesApart g cuts event old new
  goes_taken old new event c part comes_always takes_part world server disk bench allowed =
      let comes = comes_always world bench.sound bench.plays.stations allowed in
      let may =
      may_take g cuts world old server disk bench event c comes.party part comes.whole comes.is_party allowed
      comes.takes comes.is_part in
      let took = takes_part comes.whole may in
      goes_took g cuts law is_image counts_now world old new server disk bench event c comes.party part comes.whole
      comes.is_party allowed comes.takes comes.is_part took new.stations refl
      (ap (λ (more : List _). world.files ++ more) comes.none_asked ∙ append-nil world.files
      ∙ bench.plays.stations.files_are
      ∙ ap (λ (s : Stations). asked_from 0 s.uploads.items) (sym took.changes.stations_are))
      (tells_took world old new server disk bench event c comes.party part comes.whole comes.is_party allowed
      comes.takes comes.is_part took comes.asks_so)

  -- A client is asked for a new upload, which is noted as the next one.
  asks_at :
      (old mid : Clients B) (new : Stations) (c count upload : ℕ) (file : List ℕ)
      → upload ≡ length old.stations.uploads.items → file ≡ upload_file upload count
      → ((whole : ClientPart) (may : MayTake g cuts c old (stored.Upload upload file) whole)
      → TookPart g cuts c (stored.Upload upload file) whole old mid may)
      → new ≡ record mid.stations { uploads = new.uploads }
      → new.uploads.items ≡ mid.stations.uploads.items ++ record { client = c; octets = count } ∷ []
      → GoesApart g cuts (ask_upload (suc c) count) old (clients_of new mid.disks)
  asks_at old mid new c count upload file upload_is file_is takes_part new_is uploads_are world server disk bench allowed =
      let party : Party = allowed.possible.0 in
      let at : PartyAt world c party = allowed.possible.1 in
      let event : Event = ask_upload (suc c) count in
      let one : Upload = record { client = c; octets = count } in
      let whole : ClientPart = asking_file world (next_upload world c count) party in
      let takes : ClientTakes world event c whole = (refl, (party, at, refl)) in
      let is_part : IsPart (record { world = world; c = c; party = party }) (stored.Upload upload file) whole =
      record {
        upload_is = upload_is ∙ sym (files-count old.stations world bench.plays.stations);
        count = count;
        file_is = file_is;
        part_is = refl;
      } in
      let may =
      may_take g cuts world old server disk bench event c party (stored.Upload upload file) whole at allowed takes
      is_part in
      let took = takes_part whole may in
      goes_took g cuts law is_image counts_now world old mid server disk bench event c party
      (stored.Upload upload file) whole at allowed takes is_part took new new_is
      (files-more old.stations world bench.plays.stations one
      ∙ ap (λ (s : Stations). asked_from 0 (s.uploads.items ++ one ∷ [])) (sym took.changes.stations_are)
      ∙ ap (asked_from 0) (sym uploads_are))
      (λ numbers tells.
      subst
      (λ (s : Stations).
      Tells s.report (counts_with old.stations event world (with_asked world c whole took.takes.next) numbers))
      (sym new_is)
      (tells_took world old mid server disk bench event c party (stored.Upload upload file) whole at allowed takes
      is_part took refl numbers tells))

  pub asks_upload :
      (old mid : Clients B) (new : Stations) (number c count upload : ℕ) (file : List ℕ) → number ≡ suc c
      → upload ≡ length old.stations.uploads.items → file ≡ upload_file upload count
      → ((whole : ClientPart) (may : MayTake g cuts c old (stored.Upload upload file) whole)
      → TookPart g cuts c (stored.Upload upload file) whole old mid may)
      → new ≡ record mid.stations { uploads = new.uploads }
      → new.uploads.items ≡ mid.stations.uploads.items ++ record { client = c; octets = count } ∷ []
      → GoesApart g cuts (ask_upload number count) old (clients_of new mid.disks)
  asks_upload old mid new number c count upload file number_is upload_is file_is takes_part new_is uploads_are =
      subst (λ (n : ℕ). GoesApart g cuts (ask_upload n count) old (clients_of new mid.disks)) (sym number_is)
      (asks_at old mid new c count upload file upload_is file_is takes_part new_is uploads_are)
