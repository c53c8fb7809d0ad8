use Rattle.file_store.proofs.OnLemmas.{on_like, on_like_always, on_rules, on_rules_always, on_untold}
use Rattle.file_store.proofs.laws.told_law.Goals as goal

pub returns : goal.returns
returns g c = record {
  like = λ ready known. on_like g.D.Disk c.args.store.now c.args.disk.now ready known;
  rules = λ ready known. on_rules g.D.Disk c.args.store.now c.args.disk.now ready known c.state_law.ensures.rules;
  like_always = λ ready. on_like_always g.D.Disk c.args.store.now c.args.disk.now ready;
  rules_always = λ ready. on_rules_always g.D.Disk c.args.store.now c.args.disk.now ready c.state_law.ensures.rules;
  untold = λ ready unknown. on_untold g.D.Disk c.args.store.now c.args.disk.now ready unknown;
}
