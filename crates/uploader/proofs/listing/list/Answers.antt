-- The recovery is refused, or there was no memory for the tokens; or the list stops, or came whole and is shown.
use Rattle.std.proofs.Common.{sym, inl, inr, ℕ, List, [], refl, ap, ◌∙◌, subst, ◌≡◌, rules}
use Rattle.client_notes.specs.StoreFault.TheVariants as fault
use Rattle.uploader.specs.declared.stop.SendStop.TheVariants as stop
use Rattle.uploader.proofs.Names.{Result, Ok, Err, ⊤, counts_none, lent, seen, listing_in, Outcome, SendStop, HasCauses, ShowsBy, directory_of, files_asked}
use Rattle.uploader.proofs.CarryLemmas.{carried, causes, causes-err, causes-late, is_carried, is_late, just-asked, late-by, list-ends, never, recovered_exactly}
use Rattle.uploader.proofs.StartLemmas.{refused_exactly, unmade_leaves}
use Rattle.uploader.proofs.listing.list.Goals as goal

pub returns-in_default-clause-ends : goal.returns-in_default-clause-ends
returns-in_default-clause-ends g c =
    inl (
      record {
        fault = fault.OutOfMemory;
        why_is = refl;
        air = refl;
        clock = refl;
        answers = unmade_leaves g.D.Disk c.args.disk.now c.recover_client.new.disk c.in_ok-client.client.notes c.in_ok-client.ensures.recovers.recovers;
      },
      refl,
    )

pub returns-in-Err : goal.returns-in-Err
returns-in-Err g c =
    let see = seen g.D.Disk g.A.Air g.C.Clock.given in
    let ready = c.in_ok-client.ensures.recovers in
    let why = c.in-Err.stop in
    let h = just-asked see g.met.D.Disk.lasts_same (lent c.args.disk.now c.args.air.now c.args.clock.now) (lent c.carry_out-client.new.disk c.carry_out-client.new.air c.carry_out-client.new.clock) c.recover_client.new.disk c.args.terms.now
    c.in_ok-client.client c.carry_out-client.result.0 c.list-job.result (directory_of c.args.tokens.now) c.carry_out-client.result.1 (c.list-job.ensures ∙ ap (λ (t : List ℕ). directory_of t) c.in-Ok.ensures) ready (c.carry_out-client.ensures.carried _ ready.is) in
    let carried_ = carried see g.met.D.Disk.lasts_on (lent c.args.disk.now c.args.air.now c.args.clock.now) (lent c.carry_out-client.new.disk c.carry_out-client.new.air c.carry_out-client.new.clock) c.args.terms.now [] (directory_of c.args.tokens.now) c.carry_out-client.result.1 h why c.in-Err.is in
    record {
      notes = recovered_exactly is_carried (λ found. refl) (λ at. refl) (g.D.Disk.content c.args.disk.now) c.in_ok-client.client.notes.lists (Err why) ready.recovers.recovered.content carried_;
      ends = inr (list-ends see g.O.Out.shown g.met.D.Disk.lasts_on (lent c.args.disk.now c.args.air.now c.args.clock.now) (lent c.carry_out-client.new.disk c.carry_out-client.new.air c.carry_out-client.new.clock) (files_asked c.args.terms.now c.args.tokens.now) c.carry_out-client.result.1 h c.args.out.now c.args.out.now (Err why)
          (subst (λ (r : Result Outcome SendStop). ShowsBy g.O.Out.shown c.args.out.now c.args.out.now (listing_in c.carry_out-client.result.0.attempt) r (Err why)) (sym c.in-Err.is) (refl, refl)));
      out = counts_none _ _ (never {T = ⊤} is_carried (Err why) carried_ stop.Out refl);
      causes =
          causes-err see (lent c.args.disk.now c.args.air.now c.args.clock.now) (lent c.carry_out-client.new.disk c.carry_out-client.new.air c.carry_out-client.new.clock) Outcome ⊤ why (subst (λ (r : Result Outcome SendStop). HasCauses see (lent c.args.disk.now c.args.air.now c.args.clock.now) (lent c.carry_out-client.new.disk c.carry_out-client.new.air c.carry_out-client.new.clock) r) c.in-Err.is
          (causes see g.met.D.Disk.lasts_on (lent c.args.disk.now c.args.air.now c.args.clock.now) (lent c.carry_out-client.new.disk c.carry_out-client.new.air c.carry_out-client.new.clock) c.args.terms.now [] (directory_of c.args.tokens.now) c.carry_out-client.result.1 h));
    }

pub returns-in-Ok-came : goal.returns-in-Ok-came
returns-in-Ok-came g c =
    let see = seen g.D.Disk g.A.Air g.C.Clock.given in
    let ready = c.in_ok-client.ensures.recovers in
    let h = just-asked see g.met.D.Disk.lasts_same (lent c.args.disk.now c.args.air.now c.args.clock.now) (lent c.carry_out-client.new.disk c.carry_out-client.new.air c.carry_out-client.new.clock) c.recover_client.new.disk c.args.terms.now
    c.in_ok-client.client c.carry_out-client.result.0 c.list-job.result (directory_of c.args.tokens.now) c.carry_out-client.result.1 (c.list-job.ensures ∙ ap (λ (t : List ℕ). directory_of t) c.in-Ok.ensures) ready (c.carry_out-client.ensures.carried _ ready.is) in
    let late = late-by c.show_listing-shown.result _ _ stop.Out refl c.show_listing-shown.ensures.shows in
    let shows = subst (λ (l : List ℕ). ShowsBy g.O.Out.shown c.args.out.now c.show_listing-shown.new.out l (Ok c.in-Ok-came._listed) c.show_listing-shown.result) c.listing.ensures c.show_listing-shown.ensures.shows in
    record {
      notes = recovered_exactly is_late (λ found. refl) (λ at. refl) (g.D.Disk.content c.args.disk.now) c.in_ok-client.client.notes.lists c.show_listing-shown.result ready.recovers.recovered.content late;
      ends = inr (list-ends see g.O.Out.shown g.met.D.Disk.lasts_on (lent c.args.disk.now c.args.air.now c.args.clock.now) (lent c.carry_out-client.new.disk c.carry_out-client.new.air c.carry_out-client.new.clock) (files_asked c.args.terms.now c.args.tokens.now) c.carry_out-client.result.1 h c.args.out.now c.show_listing-shown.new.out c.show_listing-shown.result
          (subst (λ (r : Result Outcome SendStop). ShowsBy g.O.Out.shown c.args.out.now c.show_listing-shown.new.out (listing_in c.carry_out-client.result.0.attempt) r c.show_listing-shown.result) (sym c.in-Ok-came.is) shows));
      out = c.show_listing-shown.ensures.out;
      causes = causes-late see (lent c.args.disk.now c.args.air.now c.args.clock.now) (lent c.carry_out-client.new.disk c.carry_out-client.new.air c.carry_out-client.new.clock) c.in-Ok-came._listed c.show_listing-shown.result late
          (subst (λ (r : Result Outcome SendStop). HasCauses see (lent c.args.disk.now c.args.air.now c.args.clock.now) (lent c.carry_out-client.new.disk c.carry_out-client.new.air c.carry_out-client.new.clock) r) c.in-Ok-came.is
          (causes see g.met.D.Disk.lasts_on (lent c.args.disk.now c.args.air.now c.args.clock.now) (lent c.carry_out-client.new.disk c.carry_out-client.new.air c.carry_out-client.new.clock) c.args.terms.now [] (directory_of c.args.tokens.now) c.carry_out-client.result.1 h));
    }

pub returns-in_err-client-clause-notes : goal.returns-in_err-client-clause-notes
returns-in_err-client-clause-notes g c =
    let stopped : c.from_residual.result ≡ Err c.in_err-client.field-0.0 = search rules in
    refused_exactly g.D.Disk c.args.disk.now c.recover_client.new.disk c.in_err-client.field-0.0 c.from_residual.result stopped c.in_err-client.ensures.stops
