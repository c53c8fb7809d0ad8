-- The file that a session receives is that of the task that has its number.
use Rattle.std.proofs.Common.{◌≡◌, ◌⊎◌, ℕ, zero, suc, ◌+◌, ◌≤◌, List, [], ◌++◌, length, take, drop, refl, ap, sym, ◌∙◌}
use Rattle.std.proofs.Common.{subst, arith, true, Some, inl, inr}
use Rattle.ftl0_server.specs.Entries as session
use Rattle.ftl0_client_job.specs.declared.work.Work.TheVariants as work
use Rattle.air_world.specs.Files.Dialogue.{Serves}
use Rattle.air_world.specs.Files.UploadDialogue.{AnsweredFirst, GoesOnWith, IsOfferedBy, IsReceivingState, Receiving}
use Rattle.air_world.specs.Files.UploadDialogue.{ServesUpload, ended, receives, refused, unasked}
use Rattle.air_world.proofs.Names.{AllByRecursion, length-take-le, take-append-drop, IsFront, State, command, receiving, new_upload, Attempt, IsAttempt, IsAnsweredBy, Has, IsFileOf, Party, AsksUpload, Grants, octets_come, said_behind_server, IsSession, ServerSide, each-at, one-placed, GoesOnWithTask, HasNumber, Receives, IsWork, side-at, AreNumbered, ReceivesFile, IsParty, Sound, PartyAt, World}
use Rattle.air_world.proofs.NumberedLemmas.{same-grant, task-grant}

-- the session of an attempt of a client
pub session-of : (world : World) (c : ℕ) (party : Party) (a : Attempt) (side : ServerSide) → IsParty world c party
    → Has party.attempts a
    → a.server ≡ Some side → IsSession side
session-of world c party a side is has serves =
    let it = each-at (IsAttempt party.client.me party.client.server) party.attempts a is.attempts has in
    (subst (IsAnsweredBy a) serves it.answered).session

-- the number of a state that receives
abbrev number_in : State → ℕ
number_in (receiving number rest) = number
number_in state = 0

-- A session of an upload that receives a file answered UPLOAD_CMD with the file's number: a new one, or that of the
-- upload.
offered-number : (known number : ℕ) (file rest : List ℕ) (side : ServerSide) (serves : ServesUpload known file side)
    → AllByRecursion session.IsNotLost side.entries → side.connected.state ≡ receiving number rest
    → ((known ≡ 0) × Grants side number (length file)) ⊎ ((1 ≤ known) × (number ≡ known))
offered-number known number file rest side serves none_lost is = by serves.stage
    (serves.state none_lost) serves.offered serves.first
  where
    from : (known number offset : ℕ) → (known ≡ 0 → offset ≡ 0) → (1 ≤ known → number ≡ known)
        → AnsweredFirst known (length file) side (receives number offset [])
        → ((known ≡ 0) × Grants side number (length file)) ⊎ ((1 ≤ known) × (number ≡ known))
    from zero number offset new same first =
        inl (refl, subst (λ o. AnsweredFirst 0 (length file) side (receives number o [])) (new refl) first)
    from (suc known) number offset new same first = inr (omega arith, same (omega arith))

    by : (stage : Receiving) → IsReceivingState stage side.connected.state → IsOfferedBy known stage
        → AnsweredFirst known (length file) side stage
        → ((known ≡ 0) × Grants side number (length file)) ⊎ ((1 ≤ known) × (number ≡ known))
    by unasked at offered first = absurd (let none : command ≡ receiving number rest = sym at
        ∙ is in let x : ⊥ = cc in x)
    by (refused code) at offered first = absurd
        (let none : command ≡ receiving number rest = sym at ∙ is in let x : ⊥ = cc in x)
    by (receives that offset parts) at offered first =
        let same : that ≡ number = ap number_in (sym at.1 ∙ is) in
        subst (λ n. ((known ≡ 0) × Grants side n (length file)) ⊎ ((1 ≤ known) × (n ≡ known))) same
        (from known that offset offered.new offered.same first)
    by (ended that offset parts word) at offered first = absurd
        (let none : command ≡ receiving number rest = sym at ∙ is in let x : ⊥ = cc in x)

-- the task of an attempt whose session receives a file is the one that has the file's number
received-task : (world : World) (c : ℕ) (party : Party) (a : Attempt) (side : ServerSide) (task number : ℕ)
    (rest : List ℕ) → Sound world
    → AreNumbered world → PartyAt world c party → Has party.attempts a → a.server ≡ Some side → side.is_up ≡ true
    → side.connected.state ≡ receiving number rest → HasNumber party task number
    → (r : Receives world.server.store party a side number rest) → r.task ≡ task
received-task world c party a side task number rest sound numbered there has is up state number_is r =
    let party_is = sound.parties c party there in
    let serves : ServesUpload r.known r.file side =
    subst (λ asked. Serves world.server.store asked side) r.asks
    (side-at (λ it those.
    Serves world.server.store it.client.asked those) party a side party_is.facts.sessions.serves has is) in
    let session = session-of world c party a side party_is has is in
    let at = one-placed (λ it. it ≡ a) party.attempts has in
    elim (offered-number r.known number r.file rest side serves (session.none_lost up) state) [
      | inl new ↦
          (same-grant world c c r.task task number party party sound.granted there there
          (record {
            at = at.0;
            attempt = a;
            is_attempt = at.2 ∙ ap Some at.3;
            file = r.file;
            asks = subst (λ known. AsksUpload a r.task known r.file) new.0 r.asks;
            side = side;
            is_side = is;
            file_length = length r.file;
            grants = new.1;
          })
          (task-grant world c party task number party_is number_is)).1
      | inr old ↦
          (numbered.distinct c r.task c task number party party there there
          (subst (HasNumber party r.task) (sym old.1)
          (each-at (GoesOnWithTask party) party.attempts a party_is.facts.tasks.goes_on has r.task r.known r.file r.asks
          old.0))
          number_is).1
    ]

-- the first octets of a file are a prefix of it
front-of : (count : ℕ) (file octets : List ℕ) → octets ≡ take count file → IsFront octets file
front-of count file octets first = (
  drop count file,
  sym (take-append-drop count file) ∙ ap
      (λ (it : List ℕ). it ++ drop count file) (sym first),
)

pub receives-file : (world : World) (c : ℕ) (party : Party) (a : Attempt) (side : ServerSide) (task number : ℕ)
    (rest : List ℕ) → Sound world
    → AreNumbered world → PartyAt world c party → Has party.attempts a → a.server ≡ Some side → side.is_up ≡ true
    → side.connected.state ≡ receiving number rest → HasNumber party task number
    → ReceivesFile world party a side task number rest
receives-file world c party a side task number rest sound numbered there has is up state number_is =
    let party_is = sound.parties c party there in
    let r : Receives world.server.store party a side number rest =
    side-at (λ it those. (number : ℕ) (rest : List ℕ) → those.is_up ≡ true
    → those.connected.state ≡ receiving number rest
    → Receives world.server.store party it those number rest)
    party a side party_is.facts.sessions.receives has is number rest up state in
    let same = received-task world c party a side task number rest sound numbered there has is up state number_is r in
    let works : IsWork world.files party (work.Upload (new_upload r.task r.known r.file)) =
    subst (IsWork world.files party) r.asks (each-at
    (λ it. IsWork world.files party it.client.asked) party.attempts a party_is.works has) in
    record {
      file = r.file;
      is_file = subst (λ it. IsFileOf world.files party it r.file) same works;
      entry = r.entry;
      is_entry = r.is_entry;
      held = r.held;
      holds = r.holds;
      front = front-of (r.offset + octets_come side) r.file (r.held ++ rest) r.came;
      goes_on = subst (λ place. GoesOnWith r.file place (said_behind_server side a.client))
          (sym (ap (λ (octets : List ℕ). length octets) r.came ∙ length-take-le
          (r.offset + octets_come side) r.file r.within)) r.goes_on;
    }
