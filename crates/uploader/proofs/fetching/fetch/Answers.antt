-- The recovery is refused; or the download stops, or is fetched, and the file is kept.
use Rattle.std.proofs.Common.{sym, inr, [], length, refl, ap, ◌∙◌, subst, ◌≡◌, rules}
use Rattle.uploader.specs.declared.stop.SendStop.TheVariants as stop
use Rattle.uploader.proofs.Names.{Result, Err, ⊤, counts_none, got_of, NotesState, lent, seen, Outcome, SendStop, HasCauses, KeepsBy, download_of, file_asked}
use Rattle.uploader.proofs.CarryLemmas.{carried, causes, causes-err, causes-late, download-goes, fetch-ends, is_carried, is_late, just-asked, late-by, never, recovered_exactly}
use Rattle.uploader.proofs.StartLemmas.{refused_exactly}
use Rattle.uploader.proofs.fetching.fetch.Goals as goal

pub carry_out-client-requires-clause-asked : goal.carry_out-client-requires-clause-asked
carry_out-client-requires-clause-asked g c =
    let len = c.got_len-held.ensures.len ∙ ap (λ (n : NotesState). length (got_of n.lists c.args.terms.now.server c.args.number)) c.notes.ensures in
    let goes = download-goes c.in_ok-client.client.notes.lists c.args.terms.now.server c.args.number c.got_len-held.result len c.got_len-held.ensures.most c.download-job.result c.download-job.ensures in
    record { free = search rules; new = search rules; go_with = goes; own = search rules }

pub returns-in-Err : goal.returns-in-Err
returns-in-Err g c =
    let see = seen g.D.Disk g.A.Air g.C.Clock.given in
    let ready = c.in_ok-client.ensures.recovers in
    let why = c.in-Err.stop in
    let h = just-asked see g.met.D.Disk.lasts_same (lent c.args.disk.now c.args.air.now c.args.clock.now) (lent c.carry_out-client.new.disk c.carry_out-client.new.air c.carry_out-client.new.clock) c.recover_client.new.disk c.args.terms.now
    c.in_ok-client.client c.carry_out-client.result.0 c.download-job.result (download_of (file_asked c.args.terms.now c.args.number c.args.name.now)) c.carry_out-client.result.1 c.download-job.ensures ready (c.carry_out-client.ensures.carried _ ready.is) in
    let carried_ = carried see g.met.D.Disk.lasts_on (lent c.args.disk.now c.args.air.now c.args.clock.now) (lent c.carry_out-client.new.disk c.carry_out-client.new.air c.carry_out-client.new.clock) c.args.terms.now [] (download_of (file_asked c.args.terms.now c.args.number c.args.name.now)) c.carry_out-client.result.1 h why c.in-Err.is in
    record {
      notes = recovered_exactly is_carried (λ found. refl) (λ at. refl) (g.D.Disk.content c.args.disk.now) c.in_ok-client.client.notes.lists (Err why) ready.recovers.recovered.content carried_;
      ends = inr (fetch-ends see g.S.Shelf.held g.met.D.Disk.lasts_on (lent c.args.disk.now c.args.air.now c.args.clock.now) (lent c.carry_out-client.new.disk c.carry_out-client.new.air c.carry_out-client.new.clock) (file_asked c.args.terms.now c.args.number c.args.name.now) c.carry_out-client.result.1 h c.args.shelf.now c.args.shelf.now (got_of c.carry_out-client.result.0.notes.lists c.args.terms.now.server c.args.number) refl (Err why)
          (subst (λ (r : Result Outcome SendStop). KeepsBy g.S.Shelf.held c.args.shelf.now c.args.shelf.now c.args.name.now (got_of c.carry_out-client.result.0.notes.lists c.args.terms.now.server c.args.number) r (Err why)) (sym c.in-Err.is) (refl, refl)));
      shelf = counts_none _ _ (never {T = ⊤} is_carried (Err why) carried_ stop.Shelf refl);
      causes =
          causes-err see (lent c.args.disk.now c.args.air.now c.args.clock.now) (lent c.carry_out-client.new.disk c.carry_out-client.new.air c.carry_out-client.new.clock) Outcome ⊤ why (subst (λ (r : Result Outcome SendStop). HasCauses see (lent c.args.disk.now c.args.air.now c.args.clock.now) (lent c.carry_out-client.new.disk c.carry_out-client.new.air c.carry_out-client.new.clock) r) c.in-Err.is
          (causes see g.met.D.Disk.lasts_on (lent c.args.disk.now c.args.air.now c.args.clock.now) (lent c.carry_out-client.new.disk c.carry_out-client.new.air c.carry_out-client.new.clock) c.args.terms.now [] (download_of (file_asked c.args.terms.now c.args.number c.args.name.now)) c.carry_out-client.result.1 h));
    }

pub returns-in-Ok : goal.returns-in-Ok
returns-in-Ok g c =
    let see = seen g.D.Disk g.A.Air g.C.Clock.given in
    let ready = c.in_ok-client.ensures.recovers in
    let h = just-asked see g.met.D.Disk.lasts_same (lent c.args.disk.now c.args.air.now c.args.clock.now) (lent c.carry_out-client.new.disk c.carry_out-client.new.air c.carry_out-client.new.clock) c.recover_client.new.disk c.args.terms.now
    c.in_ok-client.client c.carry_out-client.result.0 c.download-job.result (download_of (file_asked c.args.terms.now c.args.number c.args.name.now)) c.carry_out-client.result.1 c.download-job.ensures ready (c.carry_out-client.ensures.carried _ ready.is) in
    let late = late-by c.keep_file-kept.result _ _ stop.Shelf refl c.keep_file-kept.ensures.keeps in
    record {
      notes = recovered_exactly is_late (λ found. refl) (λ at. refl) (g.D.Disk.content c.args.disk.now) c.in_ok-client.client.notes.lists c.keep_file-kept.result ready.recovers.recovered.content late;
      ends = inr (fetch-ends see g.S.Shelf.held g.met.D.Disk.lasts_on (lent c.args.disk.now c.args.air.now c.args.clock.now) (lent c.carry_out-client.new.disk c.carry_out-client.new.air c.carry_out-client.new.clock) (file_asked c.args.terms.now c.args.number c.args.name.now) c.carry_out-client.result.1 h c.args.shelf.now c.keep_file-kept.new.shelf c.got_octets.result.now
          (c.got_octets.ensures.octets ∙ ap (λ (n : NotesState). got_of n.lists c.args.terms.now.server c.args.number) c.notes-in-Ok.ensures) c.keep_file-kept.result
          (subst (λ (r : Result Outcome SendStop). KeepsBy g.S.Shelf.held c.args.shelf.now c.keep_file-kept.new.shelf c.args.name.now c.got_octets.result.now r c.keep_file-kept.result) (sym c.in-Ok.is) c.keep_file-kept.ensures.keeps));
      shelf = c.keep_file-kept.ensures.shelf;
      causes = causes-late see (lent c.args.disk.now c.args.air.now c.args.clock.now) (lent c.carry_out-client.new.disk c.carry_out-client.new.air c.carry_out-client.new.clock) c.in-Ok._fetched c.keep_file-kept.result late
          (subst (λ (r : Result Outcome SendStop). HasCauses see (lent c.args.disk.now c.args.air.now c.args.clock.now) (lent c.carry_out-client.new.disk c.carry_out-client.new.air c.carry_out-client.new.clock) r) c.in-Ok.is
          (causes see g.met.D.Disk.lasts_on (lent c.args.disk.now c.args.air.now c.args.clock.now) (lent c.carry_out-client.new.disk c.carry_out-client.new.air c.carry_out-client.new.clock) c.args.terms.now [] (download_of (file_asked c.args.terms.now c.args.number c.args.name.now)) c.carry_out-client.result.1 h));
    }

pub returns-in_err-client-clause-notes : goal.returns-in_err-client-clause-notes
returns-in_err-client-clause-notes g c =
    let stopped : c.from_residual.result ≡ Err c.in_err-client.field-0.0 = search rules in
    refused_exactly g.D.Disk c.args.disk.now c.recover_client.new.disk c.in_err-client.field-0.0 c.from_residual.result stopped c.in_err-client.ensures.stops
