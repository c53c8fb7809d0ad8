-- There is no other job.
use Rattle.std.proofs.Common.{◌≡◌, ◌∷◌, sym, ◌∙◌}
use Rattle.air_schedule.proofs.Names.{words_of}
use Rattle.air_schedule.proofs.EventCases.{no_job}
use Rattle.air_schedule.proofs.WordLemmas.{other_words}
use Rattle.air_schedule.proofs.ask.read_job.Goals as goal

pub returns : goal.returns
returns c = λ event h.
    let split : words_of c.args.job.now ≡ c.in-Some.kind.now ∷ words_of c.in-Some.detail.now = c.in-Some.ensures in
    no_job event c.args.client c.args.job.now c.in-Some.kind.now c.in-Some.detail.now c.requires
    (other_words _ _ (sym c.eq.ensures ∙ c.if-eq.false)) (other_words _ _ (sym c.eq-2.ensures ∙ c.if-eq-2.false))
    (other_words _ _ (sym c.eq-3.ensures ∙ c.if-eq-3.false)) split h
