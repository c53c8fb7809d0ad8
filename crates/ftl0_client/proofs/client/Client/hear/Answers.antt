-- A station with which there is no link is answered, and nothing is noted.
use Rattle.std.proofs.Common.{rules, [], ◌≡◌, ap, ◌∙◌, subst, sym}
use Rattle.ftl0_client.proofs.Names.{ClientState, MayHear, client_state, Several-none, DoesSeveral, NotesState}
use Rattle.ftl0_client.proofs.KeptLemmas.{may-kept}
use Rattle.ftl0_client.proofs.client.Client.hear.Goals as goal

pub returns-then-not-is_from-clause-may : goal.returns-then-not-is_from-clause-may
returns-then-not-is_from-clause-may g c = may-kept g.D.Disk c.args.self.now c.hear_stranger.new.self c.args.disk.now c.hear_stranger.ensures.keeps c.requires.may

pub returns-in-None-clause-may : goal.returns-in-None-clause-may
returns-in-None-clause-may g c =
    may-kept g.D.Disk (client_state c.self.inside) c.hear_stranger-in-None.new.self c.args.disk.now c.hear_stranger-in-None.ensures.keeps
    (subst (λ (s : ClientState). MayHear g.D.Disk s c.args.disk.now) (sym c.self.view_is) c.requires.may)

pub returns-then-not-is_from-clause-hears : goal.returns-then-not-is_from-clause-hears
returns-then-not-is_from-clause-hears g c =
    let old = c.args.self.now.notes in
    let none = subst (λ (n : NotesState). DoesSeveral g.D.Disk ⊥ old n c.args.disk.now c.args.disk.now []) (sym c.hear_stranger.ensures.keeps.notes)
    (Several-none g.D.Disk ⊥ old c.args.disk.now (λ never. never) c.requires.may.ready (g.met.D.Disk.lasts_same c.args.disk.now)) in search rules

pub returns-in-None-clause-hears : goal.returns-in-None-clause-hears
returns-in-None-clause-hears g c =
    let old = c.args.self.now.notes in
    let same : c.hear_stranger-in-None.new.self.notes ≡ old = c.hear_stranger-in-None.ensures.keeps.notes ∙ ap (λ (s : ClientState). s.notes) c.self.view_is in
    let none = subst (λ (n : NotesState). DoesSeveral g.D.Disk ⊥ old n c.args.disk.now c.args.disk.now []) (sym same)
    (Several-none g.D.Disk ⊥ old c.args.disk.now (λ never. never) c.requires.may.ready (g.met.D.Disk.lasts_same c.args.disk.now)) in search rules
