use Rattle.std.proofs.Common.{ℕ, List, refl, subst, sym}
use Rattle.command_words.specs.declared.air.AirWord.TheVariants as air
use Rattle.command_words.specs.Airs.{IsAirOf}
use Rattle.pacsat_cli.specs.declared.startup.host.HostCall.TheVariants as call
use Rattle.pacsat_cli.proofs.startup.run_by.Goals as goal

pub returns-in-None : goal.returns-in-None
returns-in-None g c = (
  call.WithoutAir c.args.words.now c.word_at-disk.result.now c.run_without_air-in-None.result,
  c.run_without_air-in-None.ensures,
  (
    refl,
    c.word_at-disk.ensures,
    λ is. c.in-None.ensures.none air.HostPort (subst (λ (w : List ℕ). IsAirOf w air.HostPort) (sym c.word_at-air.ensures) is),
    λ is. c.in-None.ensures.none air.Standard (subst (λ (w : List ℕ). IsAirOf w air.Standard) (sym c.word_at-air.ensures) is),
    refl,
  ),
)
