-- The first LF is the end of the first line.
use Rattle.std.proofs.Common.{◌≡◌, ◌+◌, ◌-◌, length, drop, eqb, sym, ◌∙◌, rules, tests, arith, length-drop}
use Rattle.std.proofs.lemmas.Iterator.{YieldsList-from_slice}
use Rattle.std.proofs.lemmas.Iterator.Search.{position_from_yields_List}
use Rattle.air_schedule.proofs.Names.{position, take_all}
use Rattle.air_schedule.proofs.SplitLemmas.{first_line, no_line}
use Rattle.air_schedule.proofs.split.split_line.Goals.{In-None, In-Some}
use Rattle.air_schedule.proofs.split.split_line.Goals as goal

pub returns-in-None-clause-parts : goal.returns-in-None-clause-parts
returns-in-None-clause-parts c =
    let found : c.position.result ≡ position (λ octet. eqb octet 10) c.args.text.now
    = position_from_yields_List (λ octet. eqb octet 10) _ _ c.position.result c.position.ensures.ran (YieldsList-from_slice _ c.iter.ensures.rest) (λ x b q k. search (rules, tests)) in
    no_line c.args.text.now (sym found ∙ c.in-None.is)

pub returns-in-Some-clause-parts : goal.returns-in-Some-clause-parts
returns-in-Some-clause-parts c =
    let found : c.position.result ≡ position (λ octet. eqb octet 10) c.args.text.now
    = position_from_yields_List (λ octet. eqb octet 10) _ _ c.position.result c.position.ensures.ran (YieldsList-from_slice _ c.iter.ensures.rest) (λ x b q k. search (rules, tests)) in
    let cut = first_line c.args.text.now c.in-Some.end (sym found ∙ c.in-Some.is) in
    rw (take_all (length c.args.text.now - (c.in-Some.end + 1)) (drop (c.in-Some.end + 1) c.args.text.now) (omega (arith, length-drop (c.in-Some.end + 1) c.args.text.now))) cut.1
