-- How far the job of an upload has come by what it said.
use Rattle.std.proofs.Common.{◌≡◌, ◌≢◌, ℕ, ◌+◌, ◌≤◌, List, [], ◌∷◌, ◌++◌, Bool, true, false, length, take, drop, Option}
use Rattle.std.proofs.Common.{None, Some, Ok, inl, inr, refl, sym, ap, subst, arith, suc, zero}
use Rattle.std.specs.Prelude.{◌==◌, ◌&&◌, if◌then◌else◌}
use Rattle.ftl0_client_job.specs.declared.ending.Outcome.TheVariants as outcome
use Rattle.ftl0_client_job.specs.declared.phases.UploadPhase.TheVariants as phase
use Rattle.ftl0_client_job.specs.declared.work.Work.TheVariants as work
use Rattle.air_world.proofs.files.Names.{nat_le, nat_lt, ⊤, nat_tests, PacketValue, data_end, data_part, ul_go_resp, upload_cmd, Ending, UploadPhase, JobState, JobEntry, packets_said, said_in, Has, OneIs, IsTaken, flat_map-one, GoesOnWith}
use Rattle.air_world.proofs.files.JobUploadRows.{upload_at}

-- ---- packets that go on with a file

-- these DATA go on with the file from this place to that one
abbrev pub GoesTo : List ℕ → ℕ → List PacketValue → ℕ → Type 0
GoesTo file place [] end = place ≡ end
GoesTo file place (data_part octets ∷ packets) end =
    (octets ≡ take (length octets) (drop place file)) × GoesTo file (place + length octets) packets end
GoesTo file place (packet ∷ packets) end = ⊥

module _ (file : List ℕ) where
  -- with DATA after them
  pub goes-more : (packets : List PacketValue) (place mid : ℕ) (octets : List ℕ) → GoesTo file place packets mid
      → octets ≡ take (length octets) (drop mid file)
      → GoesTo file place (packets ++ data_part octets ∷ []) (mid + length octets)
  goes-more [] place mid octets goes next = (
    subst (λ (p : ℕ). octets ≡ take (length octets) (drop p file)) (sym goes) next,
    ap
        (λ (p : ℕ). p + length octets) goes,
  )
  goes-more (data_part more ∷ packets) place mid octets goes next =
      (goes.0, goes-more packets (place + length more) mid octets goes.1 next)
  goes-more (packet ∷ packets) place mid octets goes next = absurd goes

  pub goes-on : (packets : List PacketValue) (place end : ℕ) → GoesTo file place packets end
      → GoesOnWith file place packets
  goes-on [] place end goes = tt
  goes-on (data_part more ∷ packets) place end goes = (goes.0, goes-on packets (place + length more) end goes.1)
  goes-on (packet ∷ packets) place end goes = absurd goes

  -- with DATA_END after them
  pub goes-end : (packets : List PacketValue) (place : ℕ) → GoesTo file place packets (length file)
      → GoesOnWith file place (packets ++ data_end ∷ [])
  goes-end [] place goes = (goes, refl)
  goes-end (data_part more ∷ packets) place goes = (goes.0, goes-end packets (place + length more) goes.1)
  goes-end (packet ∷ packets) place goes = absurd goes

  pub no-end : (packets : List PacketValue) (place end : ℕ) → GoesTo file place packets end → Has packets data_end → ⊥
  no-end [] place end goes has = has
  no-end (data_part more ∷ packets) place end goes (inl same) = absurd (cc same)
  no-end (data_part more ∷ packets) place end goes (inr has) = no-end packets (place + length more) end goes.1 has
  no-end (packet ∷ packets) place end goes has = absurd goes

-- ---- how far a job has come

pub said-one : (es : List JobEntry) (e : JobEntry) → said_in (es ++ e ∷ []) ≡ said_in es ++ packets_said e
said-one = flat_map-one packets_said

-- the file of this number is sent up to this place
pub record SendsTo (known : ℕ) (file : List ℕ) (es : List JobEntry) (number place : ℕ) : Type 0 where
  pub some : 1 ≤ number
  pub within : place ≤ length file
  pub offset : ℕ
  pub packets : List PacketValue
  pub said : said_in es ≡ upload_cmd known (length file) ∷ packets
  pub took : OneIs (IsTaken (Ok (ul_go_resp number offset))) es
  pub goes : GoesTo file offset packets place

-- all of it was sent
pub record SentAll (known : ℕ) (file : List ℕ) (es : List JobEntry) (number : ℕ) : Type 0 where
  pub some : 1 ≤ number
  pub offset : ℕ
  pub packets : List PacketValue
  pub said : said_in es ≡ upload_cmd known (length file) ∷ packets
  pub took : OneIs (IsTaken (Ok (ul_go_resp number offset))) es
  pub goes_on : GoesOnWith file offset packets

-- what was said and taken before the outcome
abbrev pub CameTo : UploadPhase → ℕ → List ℕ → List JobEntry → Type 0
CameTo phase.Login known file es = said_in es ≡ []
CameTo phase.Go known file es = said_in es ≡ upload_cmd known (length file) ∷ []
CameTo (phase.Sending number place) known file es = SendsTo known file es number place
CameTo (phase.Ack number) known file es = SentAll known file es number

-- no outcome is that a file was fetched
abbrev pub NeverFetched : Option Ending → Type 0
NeverFetched None = ⊤
NeverFetched (Some ending) = (number : ℕ) → ending.outcome ≢ outcome.Fetched number

-- A job that uploads a file, after these entries.
pub record DoesUpload (task known : ℕ) (file : List ℕ) (es : List JobEntry) (job : JobState) : Type 0 where
  pub phase_is : UploadPhase
  pub work_is : job.work ≡ work.Upload (upload_at task known file phase_is)
  pub came : job.ending ≡ None → CameTo phase_is known file es
  pub ended : NeverFetched job.ending

-- an offer that may be taken has a number, and lies within the file
pub may-go : (b : Bool) (known number offset len : ℕ)
    → (if b then nat_lt 0 number && (offset == 0) else (number == known) && nat_le offset len) ≡ true
    → (b ≡ false → 1 ≤ known)
    → (1 ≤ number) × (offset ≤ len)
may-go true known number offset len may some = (grind (arith, nat_tests), grind (arith, nat_tests))
may-go false known number offset len may some =
    let least = some refl in (grind (arith, nat_tests), grind (arith, nat_tests))

pub known-some : (known : ℕ) → (known == 0) ≡ false → 1 ≤ known
known-some known is = grind (arith, nat_tests)

pub take-length : (n : ℕ) (xs : List ℕ) → take n xs ≡ take (length (take n xs)) xs
take-length zero xs = refl
take-length (suc n) [] = refl
take-length (suc n) (x ∷ xs) = ap (λ (l : List ℕ). x ∷ l) (take-length n xs)
