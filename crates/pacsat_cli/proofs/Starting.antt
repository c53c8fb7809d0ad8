-- What a start asks its system for, step by step.
use Rattle.std.proofs.Common.{◌≡◌, ℕ, List, [], ◌∷◌, true, false, Option, Result, Ok, Err, refl, sym}
use Rattle.px_base.specs.CallRecords.{Asks}
use Rattle.pacsat_cli.specs.declared.startup.host.HostCall.{HostCall}
use Rattle.pacsat_cli.specs.declared.startup.host.HostCall.TheVariants as call
use Rattle.pacsat_cli.specs.declared.startup.host.NotHeld.{NotHeld}
use Rattle.pacsat_cli.specs.declared.startup.host.WordsRefusal.{WordsRefusal}
use Rattle.pacsat_cli.specs.declared.status.Status.TheVariants as status
use Rattle.pacsat_cli.specs.Start.{Follows, IsRunOf, Starts, status_of_words}
use Rattle.pacsat_cli.proofs.Names.{false≢true, is_err, Grows-trans, Status, number_of}

module _ (was held now : Option (List HostCall)) (answer : Result Unit NotHeld) (number : ℕ) where
  -- the standard streams could not be held
  pub closed :
      is_err answer ≡ true → Follows was held (call.Holds answer) → Follows held now (call.Ends status.Disk)
      → number ≡ number_of status.Disk → Asks was now (Starts number)
  closed = by answer
    where
      by : (a : Result Unit NotHeld) → is_err a ≡ true → Follows was held (call.Holds a)
          → Follows held now (call.Ends status.Disk) → number ≡ number_of status.Disk → Asks was now (Starts number)
      by (Ok done) is first last n = absurd (false≢true is)
      by (Err why) is first last n = (call.Holds (Err why) ∷ call.Ends status.Disk ∷ [], Grows-trans was held now (call.Holds (Err why) ∷ []) (call.Ends status.Disk ∷ []) first last, (refl, n))

  -- the words were asked for
  module _ (read : Option (List HostCall)) where
    -- and refused
    pub refused :
        (why : WordsRefusal) → is_err answer ≡ false → Follows was held (call.Holds answer)
        → Follows held read (call.Reads (Err why)) → Follows read now (call.Ends (status_of_words why))
        → number ≡ number_of (status_of_words why) → Asks was now (Starts number)
    refused why = by answer
      where
        by : (a : Result Unit NotHeld) → is_err a ≡ false → Follows was held (call.Holds a)
            → Follows held read (call.Reads (Err why)) → Follows read now (call.Ends (status_of_words why))
            → number ≡ number_of (status_of_words why) → Asks was now (Starts number)
        by (Err closed) is first second last n = absurd (false≢true (sym is))
        by (Ok done) is first second last n = (
          call.Holds (Ok done) ∷ call.Reads (Err why) ∷ call.Ends (status_of_words why) ∷ [],
          Grows-trans was read now (call.Holds (Ok done) ∷ call.Reads (Err why) ∷ []) (call.Ends (status_of_words why) ∷ [])
              (Grows-trans was held read (call.Holds (Ok done) ∷ []) (call.Reads (Err why) ∷ []) first second) last,
          (refl, n),
        )

    -- and done
    pub ran :
        (words : List (List ℕ)) (ends : Status) → is_err answer ≡ false → Follows was held (call.Holds answer)
        → Follows held read (call.Reads (Ok words)) → (made : HostCall) × Follows read now made × IsRunOf words ends made
        → number ≡ number_of ends → Asks was now (Starts number)
    ran words ends = by answer
      where
        by : (a : Result Unit NotHeld) → is_err a ≡ false → Follows was held (call.Holds a)
            → Follows held read (call.Reads (Ok words)) → (made : HostCall) × Follows read now made × IsRunOf words ends made
            → number ≡ number_of ends → Asks was now (Starts number)
        by (Err closed) is first second run n = absurd (false≢true (sym is))
        by (Ok done) is first second run n = (
          call.Holds (Ok done) ∷ call.Reads (Ok words) ∷ run.0 ∷ [],
          Grows-trans was read now (call.Holds (Ok done) ∷ call.Reads (Ok words) ∷ []) (run.0 ∷ [])
              (Grows-trans was held read (call.Holds (Ok done) ∷ []) (call.Reads (Ok words) ∷ []) first second) run.1,
          (run.0, ends, refl, run.2, n),
        )
