-- In a sound world the fields of all that a client's job says have their ranges.
use Rattle.std.proofs.Common.{◌≡◌, ◌⊎◌, ℕ, ◌^◌, ◌<◌, ◌≤◌, List, [], ◌∷◌, ◌++◌, Option, None, Some, Ok, refl, inl, inr}
use Rattle.std.proofs.Common.{ap, ◌∙◌, subst, arith}
use Rattle.ftl0_packets.specs.Layout.{Fits, Item, PacketValue, ul_go_resp, upload_cmd}
use Rattle.ftl0_server.specs.Entries as session
use Rattle.ftl0_client_job.specs.declared.work.Work.TheVariants as work
use Rattle.ftl0_client.specs.Client.{ClientEvent, hears, ticks}
use Rattle.air_world.proofs.Names.{length, slice_get, AllByRecursion, option_and_then, option_map, cases_lt, same_Some, SessionEntry, IsNotBegun, Upload, new_upload, Work, asks, Attempt, IsAnswered, IsAnsweredBy, IsAttempt, MaySay, MaySayAt, WorkFits, OneIs, Asked, IsFileOf, Party, newest, upload_of, IsAnswer, ServerSide, all-at, GoesOnWithTask, IsGranted, IsWork, StandsBy, IsGoodFile, IsParty, Sound, PartyAt, World}

-- ---- a number that was granted

-- what a session said in answer to a packet fits
answer-fits : (item : Item) (packet : PacketValue) (entries : List SessionEntry) → OneIs (IsAnswer item packet) entries
    → AllByRecursion Fits (session.said_in entries) → Fits packet
answer-fits item packet [] one fits = absurd one
answer-fits item packet (session.took taken row ∷ entries) (inl answers) fits =
    (subst (λ (replies : List PacketValue). AllByRecursion Fits (replies ++ session.said_in entries)) answers.1 fits).0
answer-fits item packet (session.took taken row ∷ entries) (inr later) fits =
    answer-fits item packet entries later (all-behind row.replies (session.said_in entries) fits)
  where
    all-behind : (xs ys : List PacketValue) → AllByRecursion Fits (xs ++ ys) → AllByRecursion Fits ys
    all-behind [] ys all = all
    all-behind (x ∷ xs) ys all = all-behind xs ys all.1
answer-fits item packet (session.lost taken row ∷ entries) (inl answers) fits = absurd answers
answer-fits item packet (session.lost taken row ∷ entries) (inr later) fits = answer-fits item packet entries later fits
answer-fits item packet (session.queued due ∷ entries) (inl answers) fits = absurd answers
answer-fits item packet (session.queued due ∷ entries) (inr later) fits = answer-fits item packet entries later fits.1

granted-fits : (me server : _) (task number : ℕ) (attempts : List Attempt) → OneIs (IsGranted task number) attempts
    → AllByRecursion (IsAttempt me server) attempts → number < 2 ^ 32
granted-fits me server task number [] one all = absurd one
granted-fits me server task number (a ∷ older) (inr later) all = granted-fits me server task number older later all.1
granted-fits me server task number (a ∷ older) (inl granted) all =
    let side : ServerSide = granted.1 in
    let answered : IsAnswered a side = subst (IsAnsweredBy a) granted.3 all.0.answered in
    (answer-fits (Ok (upload_cmd 0 (length granted.0)))
    (ul_go_resp number 0) side.entries granted.4 answered.session.fits.1).0

-- ---- the files that are sent

-- a file that was found in a list, by whatever place, is one of it
found-good : (files : List Asked) (place : Option ℕ) (file : List ℕ)
    → AllByRecursion (λ asked. IsGoodFile asked.file) files
    → option_map (λ (asked : Asked). asked.file) (option_and_then (slice_get files) place) ≡ Some file → IsGoodFile file
found-good files None file good is = absurd (cc is)
found-good files (Some place) file good is = by (slice_get files place) refl is
  where
    by : (o : Option Asked) → slice_get files place ≡ o → option_map (λ (asked : Asked). asked.file) o ≡ Some file
        → IsGoodFile file
    by None at is = absurd (cc is)
    by (Some asked) at is =
        subst IsGoodFile (same_Some asked.file file is)
        (all-at (λ (it : Asked). IsGoodFile it.file) files place asked good at)

-- ---- what a job says

module _ (world : World) (c : ℕ) (party : Party) (sound : Sound world) (is : IsParty world c party) (a : Attempt)
    (current : newest party ≡ Some a) where
  known-fits : (at : Upload) → a.client.asked ≡ work.Upload at → at ≡ new_upload at.task at.known at.file
      → IsFileOf world.files party at.task at.file → at.known < 2 ^ 32
  known-fits at asked begun file = by (cases_lt 0 at.known)
    where
      by : (0 < at.known) ⊎ (at.known ≤ 0) → at.known < 2 ^ 32
      by (inr none) = omega arith
      by (inl some) =
          let goes_on = all-at (GoesOnWithTask party) party.attempts 0 a is.facts.tasks.goes_on current in
          let has = goes_on at.task at.known at.file (asked ∙ ap work.Upload begun) (omega arith) in
          let numbered = is.facts.tasks.numbered at.task at.known at.file has file in
          granted-fits party.client.me party.client.server at.task at.known party.attempts numbered.granted is.attempts

  work-fits : (doing : Work) → a.client.asked ≡ doing → IsNotBegun doing → IsWork world.files party doing
      → WorkFits doing
  work-fits (work.Upload at) asked begun file =
      let good = found-good world.files (upload_of party at.task) at.file sound.files file in
      let short = good.short in
      (known-fits at asked begun file, omega arith, good.octets)
  work-fits (work.Directory at) asked begun tokens = (omega (arith, tokens.1), tokens.2)
  work-fits (work.Download at) asked begun number = number.1.1

  pub may-say : party.client.attempt ≡ Some a.client.attempted → MaySay party.client a
  may-say link =
      let attempt = all-at (IsAttempt party.client.me party.client.server) party.attempts 0 a is.attempts current in
      let stands : StandsBy party (Some a) = subst (StandsBy party) current is.job in
      record {
        asked =
            work-fits a.client.asked refl attempt.job.begun
            (all-at (λ b. IsWork world.files party b.client.asked) party.attempts 0 a is.works current);
        go_with = (stands link).job.go_with;
      }

-- so it is at each event
pub may-say-at : (world : World) (c : ℕ) (party : Party) (event : ClientEvent) → Sound world → PartyAt world c party
    → MaySayAt event party.client party.attempts
may-say-at world c party (asks job) sound at = tt
may-say-at world c party (hears frame) sound at =
    λ a current link. may-say world c party sound (sound.parties c party at) a current link
may-say-at world c party ticks sound at =
    λ a current link. may-say world c party sound (sound.parties c party at) a current link
