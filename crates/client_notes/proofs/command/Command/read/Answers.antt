use Rattle.std.proofs.Common.{◌∙◌, arith}
use Rattle.client_notes.proofs.RecordLemmas.{of_kind_1, of_kind_2, of_kind_3, of_kind_4, of_kind_5, of_kind_6, of_other_kind}
use Rattle.client_notes.proofs.command.Command.read.Goals as goal

pub returns-in-1 : goal.returns-in-1
returns-in-1 c = record { command = c.read_start.ensures.command ∙ of_kind_1 c.args.kind c.args.content.now c.in-1.is; writable = c.read_start.ensures.writable }

pub returns-in-2 : goal.returns-in-2
returns-in-2 c = record { command = c.read_numbered.ensures.command ∙ of_kind_2 c.args.kind c.args.content.now c.in-2.is; writable = c.read_numbered.ensures.writable }

pub returns-in-3 : goal.returns-in-3
returns-in-3 c = record { command = c.read_acked.ensures.command ∙ of_kind_3 c.args.kind c.args.content.now c.in-3.is; writable = c.read_acked.ensures.writable }

pub returns-in-4 : goal.returns-in-4
returns-in-4 c = record { command = c.read_refused.ensures.command ∙ of_kind_4 c.args.kind c.args.content.now c.in-4.is; writable = c.read_refused.ensures.writable }

pub returns-in-5 : goal.returns-in-5
returns-in-5 c = record { command = c.read_got.ensures.command ∙ of_kind_5 c.args.kind c.args.content.now c.in-5.is; writable = c.read_got.ensures.writable }

pub returns-in-6 : goal.returns-in-6
returns-in-6 c = record { command = c.read_forgot.ensures.command ∙ of_kind_6 c.args.kind c.args.content.now c.in-6.is; writable = c.read_forgot.ensures.writable }

pub returns-in_default : goal.returns-in_default
returns-in_default c = record {
  command = of_other_kind c.args.kind c.args.content.now (λ e. omega arith) (λ e. omega arith) (λ e. omega arith) (λ e. omega arith) (λ e. omega arith) (λ e. omega arith);
  writable = tt;
}
