-- The answer is the first fault of the file.
use Rattle.std.proofs.Common.{sym, ap, ◌∙◌}
use Rattle.std.specs.Prelude.{option_map}
use Rattle.pfh_reader.proofs.Names.{both_ways, NoHeader, NoEndItem, begins_header, code_of, begins_header-BeginsHeader, BeginsHeader-begins_header, first_fault-none, first_fault-text}
use Rattle.pfh_reader.proofs.FaultLemmas.{code, faultless, first, first_fault-other, first_fault-parts}
use Rattle.pfh_reader.proofs.whole_file.check.Goals as goal

pub returns-then-not-begins_header-clause-code : goal.returns-then-not-begins_header-clause-code
returns-then-not-begins_header-clause-code c =
    code c.args.file.now NoHeader c.into.result.code
    (first_fault-other c.args.file.now
    (λ begins. both_ways (begins_header c.args.file.now) (sym c.begins_header.ensures ∙ c.if-not-begins_header.true) (begins_header-BeginsHeader c.args.file.now begins)))
    c.into.ensures

pub returns-in_default-clause-code : goal.returns-in_default-clause-code
returns-in_default-clause-code c =
    code c.args.file.now NoEndItem c.into-in_default.result.code
    (first_fault-parts c.args.file.now (BeginsHeader-begins_header c.args.file.now (sym c.begins_header.ensures ∙ c.if-not-begins_header.false))
    (sym c.of_file.ensures.read ∙ c.in_default.is))
    c.into-in_default.ensures

pub returns-in-None-clause-ok : goal.returns-in-None-clause-ok
returns-in-None-clause-ok c =
    faultless c.in-Some.header.items c.in-Some.header.body c.args.file.now c.in-Some.ensures.some (sym c.fault_in.ensures ∙ c.in-None.is)

pub returns-in-None-clause-code : goal.returns-in-None-clause-code
returns-in-None-clause-code c =
    ap (option_map code_of)
    (first_fault-none c.in-Some.header.items c.in-Some.header.body c.args.file.now
    (faultless c.in-Some.header.items c.in-Some.header.body c.args.file.now c.in-Some.ensures.some (sym c.fault_in.ensures ∙ c.in-None.is)))

pub returns-in-Some-fault_in-clause-fault : goal.returns-in-Some-fault_in-clause-fault
returns-in-Some-fault_in-clause-fault c = (
  c.in-Some-fault_in.fault,
  first c.in-Some.header.items c.in-Some.header.body c.args.file.now c.in-Some-fault_in.fault c.in-Some.ensures.some (sym c.fault_in.ensures ∙ c.in-Some-fault_in.is),
  c.into-in-Some-fault_in.ensures,
)

pub returns-in-Some-fault_in-clause-code : goal.returns-in-Some-fault_in-clause-code
returns-in-Some-fault_in-clause-code c =
    code c.args.file.now c.in-Some-fault_in.fault c.into-in-Some-fault_in.result.code
    (first_fault-text c.in-Some.header.items c.in-Some.header.body c.args.file.now c.in-Some.ensures.some ∙ (sym c.fault_in.ensures ∙ c.in-Some-fault_in.is))
    c.into-in-Some-fault_in.ensures
