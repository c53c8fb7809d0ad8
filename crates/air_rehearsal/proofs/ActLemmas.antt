-- What a client does in an event that isn't cut, and what it is then; and so what it is after any event.
use Rattle.std.proofs.Common.{◌≡◌, refl, sym, ap, ◌∙◌, subst, Option, None, Some, false}
use Rattle.ftl0_client.specs.Client.{ClientEvent}
use Rattle.ftl0_client.specs.ClientStep.{happening}
use Rattle.air_world.specs.Attempts.Party.{Party}
use Rattle.air_rehearsal.proofs.Names.{is_some, append-nil, Cuts, LastsSo, cut_state, Ghosts, IsSilent, IsClient, ClientDid, ClientPart, ClientTakes, part_with, IsAllowed, Event, client_started, party_after, ClientLanesLaw, HasLanes, Lanes, lanes_of, ActsPart, BeCut, BeginsPart, KeepsOthers, SaysAll, DoesPart, IsPart, IsSeat, PartyGoes, Seat, TakesPart, IsSteady, Cut, Part, Party as StoredParty}
use Rattle.air_rehearsal.proofs.CutLemmas.{party_but}
use Rattle.air_rehearsal.proofs.PartLemmas.{carries_none, silent_noted, steady_on}

-- ---- a part that leaves the disk alone

pub begins_still : {D : Type 0} (g : Ghosts D) (lasts : (disk : D) → g.lasts disk disk) (self new : StoredParty)
    (seat : Seat) (whole : ClientPart) (coming : ClientEvent) (disk : D) → IsSeat self seat
    → whole ≡ part_with seat.party coming → IsClient new.client (happening seat.party.client coming).after
    → new.attempt ≡ self.attempt → new.uploads ≡ self.uploads → new.cut ≡ self.cut
    → BeginsPart g whole self new disk disk
begins_still g lasts self new seat whole coming disk at_seat is client attempt_is uploads_are cut_is =
    subst (λ (p : ClientPart). BeginsPart g p self new disk disk) (sym is)
    (record {
      client = client;
      lanes = subst (λ attempt. HasLanes attempt (lanes_of seat.party.attempts)) (sym attempt_is) at_seat.plays.lanes;
      uploads = ap (λ uploads. uploads.items) uploads_are ∙ at_seat.plays.uploads_are ∙ sym (append-nil seat.party.uploads);
      cut = cut_is;
      carries = carries_none g lasts (part_with seat.party coming) disk;
    })

-- ---- the client sends its frames

module _ {D : Type 0} (g : Ghosts D) (law : ClientLanesLaw) (self begun new : StoredParty) (seat : Seat) (part : Part)
    (whole : ClientPart) (event : Event) (disk disk_then : D) (at_seat : IsSeat self seat)
    (allowed : IsAllowed seat.world event) (takes : ClientTakes seat.world event seat.c whole)
    (is_part : IsPart seat part whole) (none : self.cut ≡ None)
    (begins : BeginsPart g whole self begun disk disk_then)
    (says : SaysAll (happening (client_started whole) whole.coming).after (lanes_of whole.party.attempts) new) where
  but : whole.party ≡ record seat.party { attempts = whole.party.attempts }
  but = party_but seat part whole is_part

  silent : IsSilent (client_started whole)
  silent =
      silent_noted whole.party.client (client_started whole).lists
      (subst (λ (p : Party). IsSilent p.client) (sym but)
      (at_seat.sound.parties seat.c seat.party at_seat.is_party).may_step.silent)

  pub did : ClientDid
  did = record { old = client_started whole; now = says.last; frames = says.frames }

  goes : PartyGoes whole (party_after whole did)
  unfolding did
  goes = record {
    noted = (happening (client_started whole) whole.coming).noted;
    did = did;
    old_is = refl;
    step = record { silent = silent; noted_is = refl; sent = says.empties };
    next_is = refl;
  }

  cut_before : whole.party.is_cut ≡ is_some self.cut
  cut_before = ap (λ (p : Party). p.is_cut) but ∙ sym at_seat.plays.cut_is

  pub acts : KeepsOthers begun new → new.client.me ≡ new.me → ActsPart g whole self new disk disk_then
  unfolding did goes
  acts keeps me = record {
    next = party_after whole did;
    goes = goes;
    carries = begins.carries;
    plays = record {
      me_is = sym me ∙ says.is_last.me;
      client = says.is_last;
      lanes =
          subst (λ (l : Lanes). HasLanes new.attempt l)
          (sym
          (law seat.world event seat.c whole (party_after whole did) at_seat.sound allowed takes
          (cut_before ∙ ap is_some none) goes)) says.lanes_are;
      uploads_are = ap (λ (p : StoredParty). p.uploads.items) keeps ∙ begins.uploads;
      cut_is = ap (λ (p : StoredParty). is_some p.cut) keeps ∙ ap is_some begins.cut ∙ sym cut_before;
    };
  }

-- ---- any event

module _ {B : Type 0} (g : Ghosts B) (cuts : Cuts B)
    (lasts_so : (old new : B) → g.lasts old new → LastsSo (cut_state g cuts old) (cut_state g cuts new))
    (whole : ClientPart) (self new : StoredParty) (disk now : B) (memory : cuts.is_starved now ≡ false) where
  pub takes_so : self.cut ≡ None → IsSteady g cuts disk → ActsPart g whole self new disk now
      → TakesPart g cuts whole self new disk now
  takes_so none steady acts = record {
    next = acts.next;
    does =
        subst (λ (o : Option Cut). DoesPart g cuts o whole acts.next disk now) (sym none) (acts.goes, acts.carries);
    plays = acts.plays;
    steady = steady_on g cuts disk now steady acts.carries.told (lasts_so disk now acts.carries.lasts) memory;
  }

  pub takes_cut : (cut : Cut) → self.cut ≡ Some cut → BeCut g cuts cut.call whole new disk now
      → TakesPart g cuts whole self new disk now
  takes_cut cut some be = record {
    next = be.next;
    does = subst (λ (o : Option Cut). DoesPart g cuts o whole be.next disk now) (sym some) (be.is_cut, be.cut);
    plays = be.plays;
    steady = be.steady memory;
  }
