-- What a command does to the disk of the notes, from their recovery on.
use Rattle.std.proofs.Common.{◌≡◌, inr, ℕ, List, [], ◌++◌, ◌∙◌, subst, arith}
use Rattle.px_base.specs.Outside.{Rose}
use Rattle.file_journal.specs.Through.{CountsWrites, StandsThrough}
use Rattle.file_journal.proofs.Offered as kept
use Rattle.client_notes.proofs.Names.{Ghosts, CountsFault, Runs, alone, alike_on, stops_on, NotesCommand, notes_number, notes_form, Recovers, CutsOff, DoesSeveral, notes_on, NotesState}
use Rattle.client_notes.proofs.SeveralLemmas.{Several-then}

-- What stands on the disk at each moment, what is counted, that without commands the disk is as the recovery left it, and
-- that all is a run of calls.
pub record GoesThrough {D : Type 0} (g : Ghosts D) (failed : Type 0) (old mid now : D) (start : NotesState) (done cut : List NotesCommand) : Type 0 where
  pub stands : StandsThrough g notes_form failed start.lists done cut old now
  pub ready : stands.ready ≡ g.moment mid
  pub counts : CountsWrites g failed old now
  pub none : done ++ cut ≡ [] → now ≡ mid
  pub runs : Runs g failed old now

module _ {D : Type 0} (g : Ghosts D) (on : (first second third : D) → g.lasts first second → g.lasts second third → g.lasts first third) (failed : Type 0) (old mid now : D) (start new : NotesState)
    (done cut : List NotesCommand) where
  pub goes_through : Recovers g old mid start → CutsOff g failed start new mid now done cut → GoesThrough g failed old mid now start done cut
  goes_through r cuts =
      let all : DoesSeveral g failed start new mid now (done ++ cut) = Several-then g on ⊥ failed start cuts.notes_then new mid cuts.disk_then now done cut (λ never. never) cuts.first cuts.second in
      let same = r.runs.faults.same (λ never. never) in
      let puts = all.does.puts in
      let stands = kept.stands_through g notes_form notes_number 1 failed old (notes_on start mid) (notes_on cuts.notes_then cuts.disk_then) (notes_on new now) done cut r.runs.told r.recovered.content r.since_start
      r.since_sync (alone g ⊥) (alone g failed) cuts.first.does cuts.second.does cuts.first.does.puts.told cuts.second.does.puts.told in
      record {
        stands = stands.0;
        ready = stands.1;
        counts = record { reads = puts.reads ∙ same.0; writes = subst (λ (n : ℕ). CountsFault n (g.write_faults now) failed) same.1 puts.faults };
        none = λ none. all.does.none none;
        runs = record {
          told = alike_on _ _ _ r.runs.told puts.told;
          faults = record {
            reads = omega (arith, same.0, puts.reads);
            writes = omega (arith, same.1, puts.faults.no_less);
            rose = λ stopped. inr (subst (λ (n : ℕ). Rose n (g.write_faults now)) same.1 (puts.faults.rose stopped));
            same = λ fine. (puts.reads ∙ same.0, puts.faults.same fine ∙ same.1);
          };
          stops = stops_on g on old mid now r.runs.lasts same.0 same.1 puts.stops;
          lasts = on old mid now r.runs.lasts puts.lasts;
        };
      }
