-- The end of a file that is fetched: its rest is noted, and the whole checked.
use Rattle.std.proofs.Common.{inl, ◌≡◌, ℕ, ◌+◌, ◌<◌, ◌≤◌, List, [], ◌∷◌, ◌++◌, length, take, refl, sym, ap, ◌∙◌, subst, arith, length-append}
use Rattle.ftl0_client_job.specs.declared.ending.Outcome.TheVariants as outcome
use Rattle.ftl0_client_job.specs.declared.phases.DownloadPhase.TheVariants as phase
use Rattle.disk_model.specs.declared.halt.Halt.TheVariants as stop
use Rattle.ftl0_client_job.specs.Download.{in_phase}
use Rattle.ftl0_client_job.proofs.Names.{⊤, Option, None, Some, Ok, Err, take-append-add, append-nil, take-append-le, Ghosts, CallSign, dl_ack_cmd, dl_nak_cmd, packet_text, fault_code, longest_file, NotesCommand, forgot, AreAllowed, after_all, Lists, got_of, DoesSeveral, NotesState, AreAllowed-append, got-allowed, got-append, Several-longer, Several-then, Ending, Halt, Download, data_end_row, last_got, whole_row, with_rest, HasGot, HasNoted, Row, later, TakesRow, with_notes}
use Rattle.ftl0_client_job.proofs.BlockLemmas.{is-before}
use Rattle.ftl0_client_job.proofs.NotingLemmas.{noted-err}

-- ---- the last Got

pub last-allowed : (server : CallSign) (number : ℕ) (rest : List ℕ) (lists : Lists) → 1 ≤ number → length rest < 512 → length (got_of lists server number) + length rest ≤ longest_file
    → AreAllowed lists (last_got server number rest)
last-allowed server number [] lists some few fits = tt
last-allowed server number (octet ∷ octets) lists some few fits = (got-allowed lists server number (octet ∷ octets) some (omega arith) (omega arith) fits, tt)

pub last-after : (server : CallSign) (number : ℕ) (rest : List ℕ) (lists : Lists) → got_of (after_all lists (last_got server number rest)) server number ≡ got_of lists server number ++ rest
last-after server number [] lists = sym (append-nil (got_of lists server number))
last-after server number (octet ∷ octets) lists = got-append lists server number (octet ∷ octets)

module _ {D : Type 0} (g : Ghosts D) (on : (first second third : D) → g.lasts first second → g.lasts second third → g.lasts first third) where
  -- ---- a stop in the first of two lists of commands, and in the second

  pub first-stopped : (T U : Type 0) (old new : NotesState) (disk disk_now : D) (a b : List NotesCommand) (why : Halt) → AreAllowed old.lists (a ++ b) → HasNoted {T = T} g old new disk disk_now a (Err why)
      → HasNoted {T = U} g old new disk disk_now (a ++ b) (Err why)
  first-stopped T U old new disk disk_now a b stop.Disk allowed noted = Several-longer g ⊤ old new disk disk_now a b tt allowed noted
  first-stopped T U old new disk disk_now [] [] stop.OutOfMemory allowed noted = noted
  first-stopped T U old new disk disk_now [] (command ∷ commands) stop.OutOfMemory allowed noted =
      let none : noted.0 ≡ 0 = noted.1 in
      (0, omega arith, subst (λ (k : ℕ). DoesSeveral g ⊥ old new disk disk_now (take k [])) none noted.2)
  first-stopped T U old new disk disk_now (command ∷ commands) b stop.OutOfMemory allowed noted =
      let few : noted.0 < length (command ∷ commands) = noted.1 in
      let sum : length ((command ∷ commands) ++ b) ≡ length (command ∷ commands) + length b = length-append (command ∷ commands) b in (
        noted.0,
        is-before noted.0 ((command ∷ commands) ++ b) (omega (arith, few, sum)),
        subst (λ (cs : List NotesCommand). DoesSeveral g ⊥ old new disk disk_now cs) (sym (take-append-le noted.0 (command ∷ commands) b (omega (arith, few)))) noted.2,
      )

  pub second-stopped : (T U : Type 0) (old mid new : NotesState) (disk disk_mid disk_now : D) (a : List NotesCommand) (command : NotesCommand) (why : Halt) → DoesSeveral g ⊥ old mid disk disk_mid a
      → HasNoted {T = T} g mid new disk_mid disk_now (command ∷ []) (Err why) → HasNoted {T = U} g old new disk disk_now (a ++ command ∷ []) (Err why)
  second-stopped T U old mid new disk disk_mid disk_now a command stop.Disk first noted = Several-then g on ⊥ ⊤ old mid new disk disk_mid disk_now a (command ∷ []) (λ never. never) first noted
  second-stopped T U old mid new disk disk_mid disk_now a command stop.OutOfMemory first noted =
      let few : noted.0 < length (command ∷ []) = noted.1 in
      let sum : length (a ++ command ∷ []) ≡ length a + length (command ∷ []) = length-append a (command ∷ []) in (
        length a + noted.0,
        is-before (length a + noted.0) (a ++ command ∷ []) (omega (arith, few, sum)),
        subst (λ (cs : List NotesCommand). DoesSeveral g ⊥ old new disk disk_now cs) (sym (take-append-add a (command ∷ []) noted.0))
            (Several-then g on ⊥ ⊥ old mid new disk disk_mid disk_now a (take noted.0 (command ∷ [])) (λ never. never) first noted.2),
      )

  -- ---- DATA_END

  module _ (at : Download) (old mid : NotesState) (disk disk_mid : D) (some : 1 ≤ at.number) (few : length at.rest < 512) (has : HasGot old.lists at) where
    commands-allowed : (o : Option ℕ) → AreAllowed old.lists (whole_row at o).commands
    commands-allowed None = last-allowed at.server at.number at.rest old.lists some few has.fits
    commands-allowed (Some code) =
        AreAllowed-append (last_got at.server at.number at.rest) (forgot at.server at.number ∷ []) old.lists (last-allowed at.server at.number at.rest old.lists some few has.fits) (refl, tt)

    -- the rest isn't noted
    pub end-stopped : (T : Type 0) (why : Halt) (replies : List ℕ) → replies ≡ [] → HasNoted {T = T} g old mid disk disk_mid (last_got at.server at.number at.rest) (Err why)
        → TakesRow g (data_end_row (got_of old.lists at.server at.number) at) (with_notes at old disk) (with_notes at mid disk_mid) replies (Err why)
    end-stopped T why replies none noted = by (fault_code (got_of old.lists at.server at.number ++ at.rest))
      where
        by : (o : Option ℕ) → TakesRow g (whole_row at o) (with_notes at old disk) (with_notes at mid disk_mid) replies (Err why)
        by None = record { answers = (refl, none); noted = noted-err g T (Option Ending) old mid disk disk_mid (last_got at.server at.number at.rest) why noted }
        by (Some code) = record {
          answers = (refl, none);
          noted =
              first-stopped T (Option Ending) old mid disk disk_mid (last_got at.server at.number at.rest) (forgot at.server at.number ∷ []) why (commands-allowed (Some code)) noted;
        }

    module _ (first : DoesSeveral g ⊥ old mid disk disk_mid (last_got at.server at.number at.rest)) where
      -- what is checked is the whole
      whole-is : (o : Option ℕ) → o ≡ fault_code (got_of mid.lists at.server at.number) → data_end_row (got_of old.lists at.server at.number) at ≡ whole_row at o
      whole-is o is =
          let octets : got_of mid.lists at.server at.number ≡ got_of old.lists at.server at.number ++ at.rest =
          ap (λ (l : Lists). got_of l at.server at.number) ((first.does.done (λ never. never)).0 (inl refl)) ∙ last-after at.server at.number at.rest old.lists in
          ap (whole_row at) (sym (is ∙ ap fault_code octets))

      -- it has no fault
      pub end-good : (replies : List ℕ) → None ≡ fault_code (got_of mid.lists at.server at.number) → replies ≡ packet_text dl_ack_cmd
          → TakesRow g (data_end_row (got_of old.lists at.server at.number) at) (with_notes at old disk) (with_notes (in_phase (with_rest at []) phase.Done) mid disk_mid) replies (Ok None)
      end-good replies is text =
          subst (λ (r : Row Download). TakesRow g r (with_notes at old disk) (with_notes (in_phase (with_rest at []) phase.Done) mid disk_mid) replies (Ok None)) (sym (whole-is None is))
          (record { answers = (refl, text, refl); noted = first })

      module _ (new : NotesState) (disk_now : D) (code : ℕ) (is : Some code ≡ fault_code (got_of mid.lists at.server at.number)) where
        -- it has one, and is given up
        pub end-bad : (replies : List ℕ) → DoesSeveral g ⊥ mid new disk_mid disk_now (forgot at.server at.number ∷ []) → replies ≡ packet_text dl_nak_cmd
            → TakesRow g (data_end_row (got_of old.lists at.server at.number) at) (with_notes at old disk) (with_notes (with_rest at []) new disk_now) replies (Ok (Some (later (outcome.BadFile code))))
        end-bad replies second text =
            subst (λ (r : Row Download). TakesRow g r (with_notes at old disk) (with_notes (with_rest at []) new disk_now) replies (Ok (Some (later (outcome.BadFile code))))) (sym (whole-is (Some code) is))
            (record {
              answers = (refl, text, refl);
              noted =
                  Several-then g on ⊥ ⊥ old mid new disk disk_mid disk_now (last_got at.server at.number at.rest) (forgot at.server at.number ∷ []) (λ never. never) first second;
            })

        -- that isn't noted
        pub end-bad-stopped : (T : Type 0) (why : Halt) (replies : List ℕ) → replies ≡ [] → HasNoted {T = T} g mid new disk_mid disk_now (forgot at.server at.number ∷ []) (Err why)
            → TakesRow g (data_end_row (got_of old.lists at.server at.number) at) (with_notes at old disk) (with_notes at new disk_now) replies (Err why)
        end-bad-stopped T why replies none noted =
            subst (λ (r : Row Download). TakesRow g r (with_notes at old disk) (with_notes at new disk_now) replies (Err why)) (sym (whole-is (Some code) is))
            (record {
              answers = (refl, none);
              noted =
                  second-stopped T (Option Ending) old mid new disk disk_mid disk_now (last_got at.server at.number at.rest) (forgot at.server at.number) why first noted;
            })
