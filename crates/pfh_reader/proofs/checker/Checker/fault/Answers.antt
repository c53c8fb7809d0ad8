-- The first fault of what was fed, by how far it goes.
use Rattle.std.proofs.Common.{sym, ◌∙◌}
use Rattle.pfh_reader.specs.declared.checker.Stage.TheVariants as stages
use Rattle.pfh_reader.proofs.Names.{first_fault-text, none-FileText}
use Rattle.pfh_reader.proofs.FaultLemmas.{first_fault-other, first_fault-parts, found}
use Rattle.pfh_reader.proofs.FeedLemmas.{among_begins, among_none, none_begins, one_begins, other_begins, stands_in, value}
use Rattle.pfh_reader.proofs.checker.Checker.fault.Goals as goal

pub returns-in-Nothing-clause-read : goal.returns-in-Nothing-clause-read
returns-in-Nothing-clause-read c fed h = sym (first_fault-other fed (none_begins fed (stands_in c.args.self.now c.self.inside.stage stages.Nothing c.self.inside.held.items c.self.inside.claims c.self.inside.measures fed c.self.view_is c.in-Nothing.is h).0))

pub returns-in-Begun-clause-read : goal.returns-in-Begun-clause-read
returns-in-Begun-clause-read c fed h = sym (first_fault-other fed (one_begins fed (stands_in c.args.self.now c.self.inside.stage stages.Begun c.self.inside.held.items c.self.inside.claims c.self.inside.measures fed c.self.view_is c.in-Begun.is h).0))

pub returns-in-NoHeader-clause-found : goal.returns-in-NoHeader-clause-found
returns-in-NoHeader-clause-found c fed h = other_begins fed (stands_in c.args.self.now c.self.inside.stage stages.NoHeader c.self.inside.held.items c.self.inside.claims c.self.inside.measures fed c.self.view_is c.in-NoHeader.is h)

pub returns-in-NoHeader-clause-read : goal.returns-in-NoHeader-clause-read
returns-in-NoHeader-clause-read c fed h = sym (first_fault-other fed (other_begins fed (stands_in c.args.self.now c.self.inside.stage stages.NoHeader c.self.inside.held.items c.self.inside.claims c.self.inside.measures fed c.self.view_is c.in-NoHeader.is h)))

pub returns-in-Items-clause-found : goal.returns-in-Items-clause-found
returns-in-Items-clause-found c fed h =
    let stands = (stands_in c.args.self.now c.self.inside.stage stages.Items c.self.inside.held.items c.self.inside.claims c.self.inside.measures fed c.self.view_is c.in-Items.is h) in (
      among_begins (value c.self.inside.stage c.self.inside.held.items c.self.inside.claims c.self.inside.measures) fed stands.0 stands.1,
      none-FileText fed (among_none (value c.self.inside.stage c.self.inside.held.items c.self.inside.claims c.self.inside.measures) fed stands.0 stands.1),
    )

pub returns-in-Items-clause-read : goal.returns-in-Items-clause-read
returns-in-Items-clause-read c fed h =
    let stands = (stands_in c.args.self.now c.self.inside.stage stages.Items c.self.inside.held.items c.self.inside.claims c.self.inside.measures fed c.self.view_is c.in-Items.is h) in
    sym (first_fault-parts fed (among_begins (value c.self.inside.stage c.self.inside.held.items c.self.inside.claims c.self.inside.measures) fed stands.0 stands.1)
    (among_none (value c.self.inside.stage c.self.inside.held.items c.self.inside.claims c.self.inside.measures) fed stands.0 stands.1))

pub returns-in-Body-clause-found : goal.returns-in-Body-clause-found
returns-in-Body-clause-found c fed h =
    let stands = (stands_in c.args.self.now c.self.inside.stage stages.Body c.self.inside.held.items c.self.inside.claims c.self.inside.measures fed c.self.view_is c.in-Body.is h) in
    found stands.0 stands.1 fed c.fault.result stands.2.file_text
    (c.fault.ensures stands.0 stands.1 stands.2.file_text.are_items stands.2.claims stands.2.measures)

pub returns-in-Body-clause-read : goal.returns-in-Body-clause-read
returns-in-Body-clause-read c fed h =
    let stands = (stands_in c.args.self.now c.self.inside.stage stages.Body c.self.inside.held.items c.self.inside.claims c.self.inside.measures fed c.self.view_is c.in-Body.is h) in
    c.fault.ensures stands.0 stands.1 stands.2.file_text.are_items stands.2.claims stands.2.measures
    ∙ sym (first_fault-text stands.0 stands.1 fed stands.2.file_text)
