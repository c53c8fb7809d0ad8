-- What a client hears of what the server sent, and what that makes of it.
use Rattle.std.proofs.Common.{inl, ◌≡◌, ◌==◌, ◌&&◌, ℕ, zero, suc, List, [], ◌∷◌, length, refl, sym, ap, ◌∙◌, subst}
use Rattle.std.proofs.Common.{Option, Some, Result, Ok, Err, true, Bool, arith}
use Rattle.std.specs.Prelude.{◌+◌, ◌<◌}
use Rattle.disk_model.specs.declared.halt.Halt.TheVariants as halt
use Rattle.client_notes.specs.Laws.{after_all}
use Rattle.client_notes.specs.Several as notes
use Rattle.ftl0_client.specs.Calls.{Hears}
use Rattle.ftl0_client.specs.Client as client
use Rattle.ftl0_client.proofs.attempt.HearLemmas.{client-stopped}
use Rattle.air_rehearsal.specs.declared.attempt.Attempt.{Attempt as StoredAttempt}
use Rattle.air_rehearsal.proofs.Names.{append-nil, slice_get, IfSome, IsErrOf, OnOk, ⊤, bytes_eq, Decides-eqb, same_Some, bytes_eq-Decides, Failed, Ghosts, Halt, EachImage, Leaves, alone, cut_makes, first_all, room_always, told_weaker, CallSign, FrameValue, IsAt, Transmission, delivering, IsFor, one-half, NotesCommand, Lists, notes_form, StandsFor, PutsBy, HearsBy, Client, client_hearing, ClientState, IsClient, Attempt, IsAttempt, IsFromTo, to_client_delivered, with_newest, all-at, ClientPart, DeliversToClient, part_with, with_current, HasLanes, IsLane, lanes_by, lanes_of, BeginsPart, TouchesDisk, least_done, IsSeat, Seat, Party as StoredParty}

-- equal calls are found equal
pub same_call : (one other : CallSign) → one ≡ other
    → (bytes_eq one.chars other.chars && (one.ssid == other.ssid)) ≡ true
same_call one other same =
    both (bytes_eq one.chars other.chars) (one.ssid == other.ssid)
    ((bytes_eq-Decides one.chars other.chars).1 (ap (λ (c : CallSign). c.chars) same))
    ((Decides-eqb one.ssid other.ssid).1 (ap (λ (c : CallSign). c.ssid) same))
  where
    both : (a b : Bool) → a ≡ true → b ≡ true → (a && b) ≡ true
    both a b first second = rw first second

-- ---- a transmission that is delivered

-- the transmission at a place, once it is delivered
pub delivered_at : (list : List Transmission) (place : ℕ) (t : Transmission) → IsAt list place t
    → IsAt (delivering list place t) place (record t { delivered = true })
delivered_at [] place t is = absurd (cc is)
delivered_at (x ∷ list) zero t is = refl
delivered_at (x ∷ list) (suc place) t is = delivered_at list place t is

-- the first of some is this one
first_is : (attempts : List Attempt) (a : Attempt) → slice_get attempts 0 ≡ Some a
    → (older : List Attempt) × (attempts ≡ a ∷ older)
first_is [] a is = absurd (cc is)
first_is (b ∷ older) a is = (older, ap (λ (x : Attempt). x ∷ older) (same_Some b a is))

-- the lanes of the current attempt, once a transmission of the server's is marked
pub lanes_delivered : (old new : StoredAttempt) (attempts : List Attempt) (a : Attempt) (place : ℕ) (t : Transmission)
    → slice_get attempts 0 ≡ Some a → HasLanes old (lanes_of attempts)
    → new ≡ record old { from_server = new.from_server } → IsLane new.from_server (delivering a.by_server place t)
    → HasLanes new (lanes_of (with_newest (to_client_delivered place t) attempts))
lanes_delivered old new attempts a place t is has same lane =
    let first = first_is attempts a is in
    let was = subst (λ (all : List Attempt). HasLanes old (lanes_of all)) first.1 has in
    subst (λ (all : List Attempt). HasLanes new (lanes_of (with_newest (to_client_delivered place t) all)))
    (sym first.1)
    (record {
      by_client = subst (λ (s : StoredAttempt). IsLane s.from_client a.by_client) (sym same) was.by_client;
      by_server = lane;
      answered_is = ap (λ (s : StoredAttempt). s.is_answered) same ∙ was.answered_is;
      number_is = ap (λ (s : StoredAttempt). s.number) same ∙ was.number_is;
    })

-- ---- what a client hears

module _ {D : Type 0} (g : Ghosts D) (it : Client) (frame : FrameValue) (old new : ClientState) (disk disk_now : D)
    (is : IsClient old it) where
  abbrev noted : List NotesCommand
  noted = (client_hearing it frame).noted

  -- where nothing stopped it each image has all that was noted
  pub heard_all : (result : Result ⊤ Halt) → HearsBy g it frame old new disk disk_now result
      → OnOk result (EachImage g disk_now (λ image. StandsFor image new.notes.lists))
      → OnOk result (EachImage g disk_now (notes.MakesBetween (length noted) (length noted) it.lists noted))
  heard_all (Err why) by stands = tt
  heard_all (Ok done) by stands =
      let all : new.notes.lists ≡ after_all old.notes.lists noted = ((by.1.does.done (λ never. never)).0 (inl refl)) in
      let first : notes.after_first (length noted) it.lists noted ≡ new.notes.lists =
      first_all notes_form noted it.lists ∙ ap (λ (l : Lists). after_all l noted) (sym is.lists) ∙ sym all in
      told_weaker (g.content disk_now) _ _
      (λ before told each image now. (
        length noted,
        omega arith,
        omega arith,
        subst (λ (l : Lists). StandsFor image l) (sym first) (each image now),
      )) stands

  -- where the disk failed no fewer of what was noted stands than the calls before the failing one carry out
  pub heard_cut : ((first second third : D) → g.lasts first second → g.lasts second third → g.lasts first third)
      → (result : Result ⊤ Halt) → HearsBy g it frame old new disk disk_now result → IsErrOf result halt.Disk
      → (calls : ℕ) → g.moment disk + calls < g.moment disk_now
      → IfSome (g.content disk) (λ _. EachImage g disk_now
      (notes.MakesBetween (least_done Failed calls Lists NotesCommand notes_form noted) (length noted) it.lists noted))
  heard_cut on (Ok done) by failed calls passed = absurd (cc failed)
  heard_cut on (Err halt.OutOfMemory) by failed calls passed = absurd (cc failed)
  heard_cut on (Err halt.Disk) by failed calls passed =
      let front = client-stopped g on it frame old new disk disk_now is.lists by in
      let makes = cut_makes g notes_form (alone g ⊤) ⊤ front.0 front.1 (notes.notes_on old.notes disk)
      (notes.notes_on new.notes disk_now) calls tt (room_always notes_form old.notes.journal front.0 one-half)
      front.3.does passed in
      subst
      (λ (l : Lists). IfSome (g.content disk) (λ _. EachImage g disk_now
      (notes.MakesBetween (least_done Failed calls Lists NotesCommand notes_form noted) (length noted) l noted))) is.lists
      (subst
      (λ (commands : List NotesCommand). IfSome (g.content disk) (λ _. EachImage g disk_now
      (notes.MakesBetween (least_done Failed calls Lists NotesCommand notes_form commands) (length commands) old.notes.lists commands)))
      (sym front.2) makes)

module _ (self : StoredParty) (seat : Seat) (at_seat : IsSeat self seat) (place : ℕ) (whole : ClientPart)
    (delivers : DeliversToClient seat.party place whole) where
  abbrev attempt : Attempt
  attempt = delivers.sent.attempt

  abbrev frame : FrameValue
  frame = delivers.t.frame

  -- the lane has the transmission
  pub lane_was : IsLane self.attempt.from_server attempt.by_server
  lane_was =
      (subst (λ (o : Option Attempt). HasLanes self.attempt (lanes_by o (length seat.party.attempts)))
      delivers.sent.current at_seat.plays.lanes).by_server

  is_attempt : IsAttempt seat.party.client.me seat.party.client.server attempt
  is_attempt =
      all-at (IsAttempt seat.party.client.me seat.party.client.server) seat.party.attempts 0 attempt
      (at_seat.sound.parties seat.c seat.party at_seat.is_party).attempts delivers.sent.current

  from_server : IsFromTo attempt.window seat.party.client.server seat.party.client.me frame
  from_server =
      all-at (λ (t : Transmission). IsFromTo attempt.window seat.party.client.server seat.party.client.me t.frame)
      attempt.by_server place delivers.t is_attempt.stations.from_server delivers.sent.is_at

  -- its frame is for this station
  pub is_for : self.client.me ≡ self.me → IsFor self.me frame
  is_for me = record {
    dest = from_server.dest_is ∙ sym at_seat.plays.client.me ∙ me;
    via = from_server.via;
  }

  -- the lanes then
  pub lanes_now : (new : StoredParty) → new.attempt ≡ record self.attempt { from_server = new.attempt.from_server }
      → IsLane new.attempt.from_server (delivering attempt.by_server place delivers.t)
      → HasLanes new.attempt (lanes_of whole.party.attempts)
  lanes_now new same lane =
      subst (λ (p : ClientPart). HasLanes new.attempt (lanes_of p.party.attempts)) (sym delivers.part_is)
      (lanes_delivered self.attempt new.attempt seat.party.attempts attempt place delivers.t delivers.sent.current
      at_seat.plays.lanes same lane)

  -- the part that is taken
  abbrev heard_part : ClientPart
  heard_part = part_with (with_current (to_client_delivered place delivers.t) seat.party) (client.hears frame)

  module _ {D : Type 0} (g : Ghosts D) (new : ClientState) (disk disk_now : D) (result : Result ⊤ Halt)
      (hears : Hears g seat.party.client frame self.client new disk disk_now result)
      (puts : PutsBy g disk disk_now result) where
    -- what it does to the disk
    pub heard_touches : ((first second third : D) → g.lasts first second → g.lasts second third
        → g.lasts first third) → OnOk result (EachImage g disk_now (λ image. StandsFor image new.notes.lists))
        → TouchesDisk g whole disk disk_now result
    heard_touches on stands =
        subst (λ (p : ClientPart). TouchesDisk g p disk disk_now result) (sym delivers.part_is)
        (record {
          carries = record { told = puts.told; since = hears.since; lasts = puts.lasts };
          reads = puts.reads;
          fails = puts.faults.rose;
          cut =
              heard_cut g seat.party.client frame self.client new disk disk_now at_seat.plays.client on result hears.by;
          done =
              heard_all g seat.party.client frame self.client new disk disk_now at_seat.plays.client result hears.by
              stands;
        })

    -- and what it makes of the client
    pub heard_begins : (stored : StoredParty) → stored.client ≡ new → stored.uploads.items ≡ self.uploads.items
        → stored.cut ≡ self.cut → HasLanes stored.attempt (lanes_of whole.party.attempts)
        → OnOk result (BeginsPart g whole self stored disk disk_now)
    heard_begins stored client_is uploads_are cut_is lanes = by result hears.by hears.since puts
      where
        by : (came : Result ⊤ Halt) → HearsBy g seat.party.client frame self.client new disk disk_now came
            → Leaves g disk disk_now (λ _. notes.MakesFirst seat.party.client.lists (client_hearing seat.party.client frame).noted)
            → PutsBy g disk disk_now came → OnOk came (BeginsPart g whole self stored disk disk_now)
        by (Err why) hears since puts = tt
        by (Ok done) hears since puts =
            subst (λ (p : ClientPart). BeginsPart g p self stored disk disk_now) (sym delivers.part_is)
            (record {
              client = subst (λ (s : ClientState). IsClient s (client_hearing seat.party.client frame).after) (sym client_is) hears.0;
              lanes =
                  subst (λ (p : ClientPart). HasLanes stored.attempt (lanes_of p.party.attempts)) delivers.part_is lanes;
              uploads = uploads_are ∙ at_seat.plays.uploads_are ∙ sym (append-nil seat.party.uploads);
              cut = cut_is;
              carries = record { told = puts.told; since = since; lasts = puts.lasts };
            })
