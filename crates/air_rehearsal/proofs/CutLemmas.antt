-- What becomes of a client that starts again from its disk: right after a cut of power, and where it is broken off.
use Rattle.std.proofs.Common.{◌≡◌, ◌≢◌, ◌⊎◌, ℕ, zero, suc, ◌+◌, ◌-◌, ◌<◌, ◌≤◌, List, [], ◌∷◌, ◌++◌, length, take, refl, sym, ap}
use Rattle.std.proofs.Common.{◌∙◌, subst, inl, inr, arith, false, Option, None, Some, Result, Ok, Err}
use Rattle.std.proofs.Common.{length-append}
use Rattle.disk_model.specs.declared.halt.Halt.TheVariants as halt
use Rattle.client_notes.specs.Several as notes
use Rattle.air_world.specs.Attempts.Party.{Party}
use Rattle.air_rehearsal.specs.declared.attempt.Attempt.{Attempt as StoredAttempt}
use Rattle.air_rehearsal.specs.declared.part.Part.TheVariants as stored
use Rattle.air_rehearsal.proofs.Names.{IfSome, OnOk, is_some, ⊤, append-nil, CallSign, Arming, ArmsOnly, Cuts, Failed, LastsSo, Passes, UsesUp, cut_state, IsTold, Ghosts, Halt, EachImage, images_now, state, at_told, makes_within, Window, window_of, NotesCommand, Lists, task_count, notes_form, StandsFor, Client, new_client, ClientState, IsClient, client_commands, party_cut, started_again, ClientPart, HasLanes, lanes_of, BeCut, Restarts, TouchesPart, uploads_by, uploads_then, BreaksOff, IsReadyParty, least_done, Strikes, HasAll, HasDone, IsPart, IsSeat, Seat, IsSteady, Part, Party as StoredParty}
use Rattle.air_rehearsal.proofs.PartLemmas.{least_most, steady_on}
use Rattle.air_rehearsal.proofs.UploadLemmas.{part_is_for, start_of, uploads_more, uploads_same}

-- ---- a part's client

-- but for what is marked as delivered the client of a part is that of the world
pub party_but : (seat : Seat) (part : Part) (whole : ClientPart) → IsPart seat part whole
    → whole.party ≡ record seat.party { attempts = whole.party.attempts }
party_but seat (stored.Upload upload file) whole is =
    subst (λ (p : ClientPart). p.party ≡ record seat.party { attempts = p.party.attempts }) (sym is.part_is) refl
party_but seat (stored.Resume task number file) whole is =
    subst (λ (p : ClientPart). p.party ≡ record seat.party { attempts = p.party.attempts }) (sym is.part_is) refl
party_but seat (stored.List tokens) whole is =
    subst (λ (p : ClientPart). p.party ≡ record seat.party { attempts = p.party.attempts }) (sym is) refl
party_but seat (stored.Download number) whole is =
    subst (λ (p : ClientPart). p.party ≡ record seat.party { attempts = p.party.attempts }) (sym is) refl
party_but seat (stored.Hear place) whole is =
    subst (λ (p : ClientPart). p.party ≡ record seat.party { attempts = p.party.attempts }) (sym is.part_is) refl
party_but seat stored.Tick whole is =
    subst (λ (p : ClientPart). p.party ≡ record seat.party { attempts = p.party.attempts }) (sym is) refl

-- what is told is something
told_some : (o : Option (List ℕ)) → IsTold o → (content : List ℕ) × (o ≡ Some content)
told_some None told = absurd (cc told)
told_some (Some content) told = (content, refl)

-- octets stand for one state of notes
one_state : (image : List ℕ) (lists others : Lists) → StandsFor image lists → StandsFor image others → lists ≡ others
one_state image lists others stands other = let same : state lists ≡ state others = sym stands ∙ other in cc

-- ---- which uploads the tasks are

take_none : (count : ℕ) → take {A = ℕ} count [] ≡ []
take_none zero = refl
take_none (suc count) = refl

pub uploads_cut : (self : StoredParty) (seat : Seat) → IsSeat self seat → (part : Part) (whole : ClientPart)
    → IsPart seat part whole → (count : ℕ) → count ≤ length (client_commands whole)
    → uploads_by part (task_count (notes.after_first count whole.party.client.lists (client_commands whole)))
    self.uploads.items
    ≡ whole.party.uploads ++ take count whole.begun
uploads_cut self seat at_seat part whole is_part count few = by part is_part
  where
    none : (part : Part) → IsPart seat part whole → whole.begun ≡ []
        → self.uploads.items ≡ whole.party.uploads ++ take count whole.begun
    none part is begun_is =
        at_seat.plays.uploads_are ∙ ap (λ (p : Party). p.uploads) (sym (party_but seat part whole is))
        ∙ sym (append-nil whole.party.uploads)
        ∙ ap (λ (l : List ℕ). whole.party.uploads ++ l) (sym (ap (take count) begun_is ∙ take_none count))

    as_many : length self.uploads.items ≡ task_count seat.party.client.lists
    as_many =
        ap length at_seat.plays.uploads_are
        ∙ (at_seat.sound.parties seat.c seat.party at_seat.is_party).tasks.as_many

    started : (upload : ℕ) (file : List ℕ) (count : ℕ) → count ≤ 1
        → uploads_then (task_count (notes.after_first count seat.party.client.lists (start_of seat upload file ∷ [])))
        upload self.uploads.items
        ≡ seat.party.uploads ++ take count (upload ∷ [])
    started upload file zero few =
        uploads_same (task_count seat.party.client.lists) upload self.uploads.items (sym as_many)
        ∙ at_seat.plays.uploads_are ∙ sym (append-nil seat.party.uploads)
    started upload file (suc zero) few =
        uploads_more _ upload self.uploads.items
        (length-append seat.party.client.lists.tasks _ ∙ ap (λ n. n + 1) (sym as_many))
        ∙ ap (λ (l : List ℕ). l ++ upload ∷ []) at_seat.plays.uploads_are
    started upload file (suc (suc count)) few = absurd (omega (arith, few))

    by : (part : Part) → IsPart seat part whole
        → uploads_by part (task_count (notes.after_first count whole.party.client.lists (client_commands whole)))
        self.uploads.items
        ≡ whole.party.uploads ++ take count whole.begun
    by (stored.Upload upload file) is =
        let same = part_is_for seat upload file whole is in
        let within = subst (λ (p : ClientPart). count ≤ length (client_commands p)) same few in
        subst
        (λ (p : ClientPart).
        uploads_then (task_count (notes.after_first count p.party.client.lists (client_commands p))) upload
        self.uploads.items
        ≡ p.party.uploads ++ take count p.begun) (sym same) (started upload file count within)
    by (stored.Resume task number file) is =
        none (stored.Resume task number file) is (ap (λ (p : ClientPart). p.begun) is.part_is)
    by (stored.List tokens) is = none (stored.List tokens) is (ap (λ (p : ClientPart). p.begun) is)
    by (stored.Download number) is = none (stored.Download number) is (ap (λ (p : ClientPart). p.begun) is)
    by (stored.Hear place) is = none (stored.Hear place) is (ap (λ (p : ClientPart). p.begun) is.part_is)
    by stored.Tick is = none stored.Tick is (ap (λ (p : ClientPart). p.begun) is)

-- ---- the client that starts again

-- it is that of the world, with whatever notes its disk stands for
pub restarted : {D : Type 0} (g : Ghosts D) (self touched new : StoredParty) (seat : Seat) (disk left now : D)
    (lists : Lists) → IsSeat self seat → IsReadyParty g self disk → touched.me ≡ self.me
    → touched.server ≡ self.server → touched.k ≡ self.k → Restarts g touched new left now
    → new.client.notes.lists ≡ lists → IsClient new.client (started_again seat.party.client lists)
restarted g self touched new seat disk left now lists at_seat ready me server k restarts lists_is =
    let me_is : touched.me ≡ seat.party.client.me = me ∙ sym ready.theirs.me ∙ at_seat.plays.client.me in
    let server_is : touched.server ≡ seat.party.client.server =
    server ∙ sym ready.theirs.server ∙ at_seat.plays.client.server in
    let window_is : window_of touched.k ≡ seat.party.client.window =
    ap window_of (k ∙ sym ready.theirs.k) ∙ sym at_seat.plays.client.window in
    subst (λ (c : Client). IsClient new.client c) (same me_is server_is window_is) restarts.client
  where
    same : touched.me ≡ seat.party.client.me → touched.server ≡ seat.party.client.server
        → window_of touched.k ≡ seat.party.client.window
        → new_client touched.me touched.server (window_of touched.k) new.client.notes.lists
        ≡ started_again seat.party.client lists
    same me_is server_is window_is =
        ap (λ (c : CallSign). new_client c touched.server (window_of touched.k) new.client.notes.lists) me_is
        ∙ ap (λ (c : CallSign). new_client seat.party.client.me c (window_of touched.k) new.client.notes.lists)
        server_is
        ∙ ap (λ (w : Window). new_client seat.party.client.me seat.party.client.server w new.client.notes.lists)
        window_is
        ∙ ap (new_client seat.party.client.me seat.party.client.server seat.party.client.window) lists_is

-- ---- a cut of power

module _ {B : Type 0} (g : Ghosts B) (cuts : Cuts B)
    (counts_now : (disk : B) (t : ℕ) (image : List ℕ) → t ≤ g.moment disk → g.images disk image
    → g.images_since disk t image)
    (lasts_so : (old new : B) → g.lasts old new → LastsSo (cut_state g cuts old) (cut_state g cuts new))
    (self touched again : StoredParty) (seat : Seat) (part : Part) (whole : ClientPart) (call : ℕ)
    (disk armed lost left now : B) (came : Result ⊤ Halt)
    (at_seat : IsSeat self seat) (is_part : IsPart seat part whole) (steady : IsSteady g cuts disk)
    (arms : ArmsOnly g cuts (Some (call - 1)) disk armed)
    (images : EachImage g armed (λ image. StandsFor image self.client.notes.lists))
    (touches : TouchesPart g whole touched armed lost came) (not_stopped : came ≢ Err halt.OutOfMemory)
    (strikes : Strikes g cuts lost left) (restarts : Restarts g touched again left now) where
  told_armed : IsTold (g.content armed)
  told_armed = subst IsTold (sym arms.nothing_else.same_content) steady.told

  told_lost : IsTold (g.content lost)
  told_lost = touches.touches.carries.told.1 told_armed

  pub told_left : IsTold (g.content left)
  told_left = strikes.keeps.told.1 told_lost

  pub content : List ℕ
  content = (told_some (g.content left) told_left).0

  abbrev lists : Lists
  lists = whole.party.client.lists

  abbrev commands : List NotesCommand
  commands = client_commands whole

  lists_same : self.client.notes.lists ≡ lists
  lists_same =
      at_seat.plays.client.lists ∙ ap (λ (p : Party). p.client.lists) (sym (party_but seat part whole is_part))

  content_is : g.content left ≡ Some content
  unfolding content
  content_is = (told_some (g.content left) told_left).1

  is_left : g.images lost content
  is_left = at_told (g.images lost) content content_is strikes.loses.left

  -- what was left stands for the notes after the first of the commands
  makes : notes.MakesFirst lists commands content
  makes =
      let before = told_some (g.content armed) told_armed in
      let since = at_told _ before.0 before.1 touches.touches.carries.since in
      by (since.each (g.moment armed) content (omega arith)
      (counts_now lost (g.moment armed) content since.later is_left))
    where
      by : g.images_since armed (g.moment armed) content ⊎ notes.MakesFirst lists commands content
          → notes.MakesFirst lists commands content
      by (inl was) =
          let before = told_some (g.content armed) told_armed in
          let stands = at_told _ before.0 before.1 images content was in
          (0, omega arith, omega arith, subst (λ (l : Lists). StandsFor content l) lists_same stands)
      by (inr makes) = makes

  pub count : ℕ
  count = makes.0

  pub within : count ≤ length commands
  unfolding count
  within = makes.2

  stands_then : StandsFor content (notes.after_first count lists commands)
  unfolding count
  stands_then = makes.3

  pub lists_now : again.client.notes.lists ≡ notes.after_first count lists commands
  lists_now =
      one_state content again.client.notes.lists (notes.after_first count lists commands)
      (at_told (λ before. StandsFor before again.client.notes.lists) content content_is restarts.stands) stands_then

  -- no fewer commands are done than the calls before the failing one carry out, and all of them where none failed
  pub no_fewer : g.write_faults lost < 18446744073709551615
      → IfSome (g.content left) (HasDone (least_done (cuts.arming lost) (call - 1) Lists NotesCommand notes_form) whole)
  no_fewer few =
      subst (λ (o : Option (List ℕ)). IfSome o (HasDone (least_done (cuts.arming lost) (call - 1) Lists NotesCommand notes_form) whole))
      (sym content_is) (by came refl)
    where
      used : UsesUp (Passes (call - 1)) (cut_state g cuts armed).use_of (cut_state g cuts lost).use_of
      used =
          let uses = (lasts_so armed lost touches.touches.carries.lasts).uses (arms.plain.1 steady.plain)
          strikes.memory_before in
          subst (λ (a : Arming). UsesUp a (cut_state g cuts armed).use_of (cut_state g cuts lost).use_of) arms.armed uses

      here : (P : List ℕ → Type 0) → EachImage g lost P → P content
      here P each =
          let before = told_some (g.content lost) told_lost in
          at_told (λ (_ : List ℕ). (image : List ℕ) → images_now g lost image → P image) before.0 before.1 each content
          (counts_now lost (g.moment lost) content (omega arith) is_left)

      by : (r : Result ⊤ Halt) → came ≡ r → HasDone (least_done (cuts.arming lost) (call - 1) Lists NotesCommand notes_form) whole content
      by (Ok done) is =
          let all = subst (λ (r : Result ⊤ Halt). OnOk r (EachImage g lost (HasAll whole))) is touches.touches.done in
          makes_within notes_form (length commands) (length commands)
          (least_done (cuts.arming lost) (call - 1) Lists NotesCommand notes_form commands) (length commands) lists commands content
          (least_most notes_form (cuts.arming lost) (call - 1) commands) (omega arith) (here (HasAll whole) all)
      by (Err halt.Disk) is = elim used [
        | inl on ↦
            absurd
            (let same = on.faults.writes in
            let less = touches.touches.fails is (omega (arith, same, few)) in
            omega (arith, same, less))
        | inr fails ↦
            let before = told_some (g.content armed) told_armed in
            let each = at_told _ before.0 before.1 (touches.touches.cut is (call - 1) fails.passed) in
            subst (λ (a : Arming). HasDone (least_done a (call - 1) Lists NotesCommand notes_form) whole content) (sym fails.failed)
            (here (HasDone (least_done Failed (call - 1) Lists NotesCommand notes_form) whole) each)
      ]
      by (Err halt.OutOfMemory) is = absurd (not_stopped is)

  -- the disk between two events, where memory was found
  pub steady_then : cuts.is_starved now ≡ false → IsSteady g cuts now
  steady_then memory =
      let plain_armed = arms.plain.1 steady.plain in
      let plain_lost = (lasts_so armed lost touches.touches.carries.lasts).plain.1 plain_armed in
      let plain_left = strikes.keeps.plain.1 plain_lost in
      let starts = restarts.again 0 in
      let lasts = lasts_so left now starts.lasts in
      let used = subst (λ (a : Arming). UsesUp a (cut_state g cuts left).use_of (cut_state g cuts now).use_of)
      strikes.loses.disarmed (lasts.uses plain_left memory) in
      let reads : g.read_faults now ≡ g.read_faults disk =
      used.1.reads ∙ strikes.keeps.reads ∙ touches.touches.reads ∙ arms.reads in
      record {
        told = starts.told.1 told_left;
        plain = lasts.plain.1 plain_left;
        unarmed = used.0;
        memory = memory;
        reads = subst (λ n. n < 18446744073709551615) (sym reads) steady.reads;
      }

  -- The client then.
  pub be_cut : (new : StoredParty) → new.me ≡ self.me → IsReadyParty g self disk → touched.me ≡ self.me → touched.server ≡ self.server
      → touched.k ≡ self.k → new.client ≡ again.client → new.attempt ≡ touched.attempt
      → new.uploads.items ≡ uploads_by part (task_count again.client.notes.lists) self.uploads.items
      → new.cut ≡ None → BeCut g cuts call whole new disk now
  be_cut new me_is ready me server k client_is attempt_is uploads_are cut_is = record {
    next = party_cut whole count;
    is_cut = record { count = count; within = within; next_is = refl };
    cut = record {
      armed = armed;
      arms = arms;
      lost = lost;
      carries = touches.touches.carries;
      left = left;
      loses = strikes.loses;
      keeps = strikes.keeps;
      memory = strikes.memory;
      stands =
          subst
          (λ (o : Option (List ℕ)). IfSome o (λ image. StandsFor image (notes.after_first count lists commands)))
          (sym content_is) stands_then;
      no_fewer = no_fewer;
      again = restarts.again;
    };
    plays = record {
      me_is =
          me_is ∙ at_seat.plays.me_is ∙ ap (λ (p : Party). p.client.me) (sym (party_but seat part whole is_part));
      client =
          subst (λ (s : ClientState). IsClient s (party_cut whole count).client) (sym client_is)
          (subst
          (λ (p : Party). IsClient again.client (started_again p.client (notes.after_first count lists commands)))
          (sym (party_but seat part whole is_part))
          (restarted g self touched again seat disk left now (notes.after_first count lists commands) at_seat ready
          me server k restarts lists_now));
      lanes =
          subst (λ (a : StoredAttempt). HasLanes a (lanes_of whole.party.attempts)) (sym attempt_is) touches.lanes;
      uploads_are =
          uploads_are
          ∙ ap (λ (l : Lists). uploads_by part (task_count l) self.uploads.items) lists_now
          ∙ uploads_cut self seat at_seat part whole is_part count within;
      cut_is = ap is_some cut_is;
    };
    steady = steady_then;
  }

-- ---- a client that is broken off

module _ {B : Type 0} (g : Ghosts B) (cuts : Cuts B)
    (is_image : (disk : B) → IfSome (g.content disk) (g.images disk))
    (counts_now : (disk : B) (t : ℕ) (image : List ℕ) → t ≤ g.moment disk → g.images disk image
    → g.images_since disk t image)
    (lasts_so : (old new : B) → g.lasts old new → LastsSo (cut_state g cuts old) (cut_state g cuts new))
    (self new : StoredParty) (seat : Seat) (disk now : B) (at_seat : IsSeat self seat)
    (steady : IsSteady g cuts disk)
    (images : EachImage g disk (λ image. StandsFor image self.client.notes.lists))
    (restarts : Restarts g self new disk now) where
  lists_kept : new.client.notes.lists ≡ seat.party.client.lists
  lists_kept =
      let content = told_some (g.content disk) steady.told in
      let image = at_told (g.images disk) content.0 content.1 (is_image disk) in
      let stands = at_told _ content.0 content.1 images content.0
      (counts_now disk (g.moment disk) content.0 (omega arith) image) in
      one_state content.0 new.client.notes.lists self.client.notes.lists
      (at_told (λ before. StandsFor before new.client.notes.lists) content.0 content.1 restarts.stands) stands
      ∙ at_seat.plays.client.lists

  pub breaks_off : IsReadyParty g self disk → cuts.is_starved now ≡ false → BreaksOff g cuts seat self new disk now
  breaks_off ready memory = record {
    plays = record {
      me_is = ap (λ (p : StoredParty). p.me) restarts.keeps ∙ at_seat.plays.me_is;
      client =
          restarted g self self new seat disk disk now seat.party.client.lists at_seat ready refl refl refl restarts
          lists_kept;
      lanes =
          subst (λ (p : StoredParty). HasLanes p.attempt (lanes_of seat.party.attempts)) (sym restarts.keeps)
          at_seat.plays.lanes;
      uploads_are = ap (λ (p : StoredParty). p.uploads.items) restarts.keeps ∙ at_seat.plays.uploads_are;
      cut_is = ap (λ (p : StoredParty). is_some p.cut) restarts.keeps ∙ at_seat.plays.cut_is;
    };
    cut = ap (λ (p : StoredParty). p.cut) restarts.keeps;
    again = restarts.again;
    steady =
        steady_on g cuts disk now steady (restarts.again 0).told (lasts_so disk now (restarts.again 0).lasts) memory;
  }
