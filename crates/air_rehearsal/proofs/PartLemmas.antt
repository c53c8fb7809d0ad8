-- What a client's part in an event does to its disk, in general, and what stays between two events.
use Rattle.std.proofs.Common.{◌≡◌, ℕ, ◌<◌, ◌≤◌, List, [], length, refl, sym, subst, arith}
use Rattle.std.proofs.Common.{Option, None, Some, Result, Ok, Err, false}
use Rattle.client_notes.specs.Several as notes
use Rattle.air_rehearsal.proofs.Names.{OnOk, Arming, Cuts, Failed, LastsSo, Passes, Unarmed, UsesUp, cut_state, Ghosts, Halt, EachImage, TellsAlike, Form, if_told, started, told_weaker, within_most, Sending, next_sending, NotesCommand, Lists, StandsFor, Attempted, Client, IsSilent, Refused, sends_by, sends_of_attempt, sends_of_link, client_commands, ClientPart, TouchesDisk, least_done, CarriesPart, HasAll, IsSteady}

-- ---- nothing to send

-- nothing is to be sent by a client with whatever notes, where nothing was
pub silent_noted : (it : Client) (lists : Lists) → IsSilent it → IsSilent (record it { lists = lists })
silent_noted it lists silent = by it.stray silent
  where
    sent : (a : Attempted) (o : Option Sending) → sends_of_link it a o ≡ None
        → sends_of_link (record it { lists = lists }) a o ≡ None
    sent a None silent = refl
    sent a (Some sending) silent = absurd (cc)

    link : (attempt : Option Attempted) → sends_of_attempt it attempt ≡ None
        → sends_of_attempt (record it { lists = lists }) attempt ≡ None
    link None silent = refl
    link (Some a) silent = sent a (next_sending it.window a.end) silent

    by : (stray : Option Refused) → sends_by it stray ≡ None → sends_by (record it { lists = lists }) stray ≡ None
    by None silent = link it.attempt silent
    by (Some refusal) silent = absurd (cc)

-- ---- how many commands stand

-- no more than there are are asked for
pub least_most : {S C : Type 0} (form : Form S C) (arming : Arming) (calls : ℕ) (commands : List C) → least_done arming calls S C form commands ≤ length commands
least_most form Unarmed calls commands = omega arith
least_most form (Passes left) calls commands = omega arith
least_most form Failed calls commands = within_most form commands calls

-- ---- a disk that isn't touched

module _ {D : Type 0} (g : Ghosts D) (lasts : (disk : D) → g.lasts disk disk) where
  pub carries_none : (whole : ClientPart) (disk : D) → CarriesPart g whole disk disk
  carries_none whole disk = record {
    told = (λ told. told, λ told. told);
    since = if_told (g.content disk) _ (λ before told. started g.moment g.images_since disk _);
    lasts = lasts disk;
  }

  pub carries_same : (whole : ClientPart) (disk disk_now : D) → disk_now ≡ disk → CarriesPart g whole disk disk_now
  carries_same whole disk disk_now same =
      subst (λ (now : D). CarriesPart g whole disk now) (sym same) (carries_none whole disk)

  -- where the part has no command, and its notes stand on the disk
  pub touches_none : {T : Type 0} (whole : ClientPart) (disk : D) (came : Result T Halt) → client_commands whole ≡ []
      → OnOk came (EachImage g disk (λ image. StandsFor image whole.party.client.lists))
      → ((why : Halt) → came ≡ Err why → ⊥)
      → TouchesDisk g whole disk disk came
  touches_none {T} whole disk came none stands fine = record {
    carries = carries_none whole disk;
    reads = refl;
    fails = λ failed. absurd (fine _ failed);
    cut = λ failed. absurd (fine _ failed);
    done = by came stands;
  }
    where
      all : (image : List ℕ) → StandsFor image whole.party.client.lists → HasAll whole image
      all image stands =
          subst
          (λ (commands : List NotesCommand). notes.MakesBetween (length commands) (length commands)
          whole.party.client.lists commands image) (sym none) (0, omega arith, omega arith, stands)

      by : (came : Result T Halt) → OnOk came (EachImage g disk (λ image. StandsFor image whole.party.client.lists))
          → OnOk came (EachImage g disk (HasAll whole))
      by (Ok done) stands =
          told_weaker (g.content disk) _ _ (λ before told each image now. all image (each image now)) stands
      by (Err why) stands = tt

-- ---- between two events

module _ {B : Type 0} (g : Ghosts B) (cuts : Cuts B) where
  -- a disk that isn't armed stays so through calls that know of no arming, where memory was found
  pub steady_on : (disk disk_now : B) → IsSteady g cuts disk → TellsAlike (g.content disk) (g.content disk_now)
      → LastsSo (cut_state g cuts disk) (cut_state g cuts disk_now) → cuts.is_starved disk_now ≡ false
      → IsSteady g cuts disk_now
  steady_on disk disk_now steady told lasts memory =
      let uses = lasts.uses steady.plain memory in
      let unarmed = subst (λ (arming : Arming). UsesUp arming (cut_state g cuts disk).use_of (cut_state g cuts disk_now).use_of) steady.unarmed uses in
      record {
        told = told.1 steady.told;
        plain = lasts.plain.1 steady.plain;
        unarmed = unarmed.0;
        memory = memory;
        reads = subst (λ n. n < 18446744073709551615) (sym unarmed.1.reads) steady.reads;
      }

-- ---- what is answered

-- where a call was answered Ok this holds, and so that does
pub ok_then : {T E : Type 0} (result : Result T E) (P Q : Type 0) → (P → Q) → OnOk result P → OnOk result Q
ok_then (Ok x) P Q step holds = step holds
ok_then (Err e) P Q step holds = tt

pub ok_both : {T E : Type 0} (result : Result T E) (P Q : Type 0) → OnOk result P → OnOk result Q
    → OnOk result (P × Q)
ok_both (Ok x) P Q one other = (one, other)
ok_both (Err e) P Q one other = tt
