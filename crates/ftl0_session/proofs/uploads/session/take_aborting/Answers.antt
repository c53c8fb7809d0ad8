-- Each packet in Aborting, by its row.
use Rattle.std.proofs.Common.{refl}
use Rattle.ftl0_session.specs.declared.uploads.phase.Phase.TheVariants as phase
use Rattle.ftl0_session.proofs.Names.{aborting, command, silent_row}
use Rattle.ftl0_session.proofs.uploads.Rows.{alone-refused, alone-row, error-aborting, row-aborting_data, row-aborting_end, row-at}
use Rattle.ftl0_session.proofs.uploads.session.take_aborting.Goals as goal

pub returns-in-Part : goal.returns-in-Part
returns-in-Part c = λ caller moment store item only is.
    let same = rw c.in-Part.is at is in
    rw c.reply_nothing.ensures.taken (alone-row caller moment aborting item store phase.Aborting (silent_row aborting) _ (λ files. row-at caller moment files aborting item _ _ same (row-aborting_data caller moment files _)) refl refl c.reply_nothing.ensures.text tt only)

pub returns-in-End : goal.returns-in-End
returns-in-End c = λ caller moment store item only is.
    let same = rw c.in-End.is at is in
    rw c.reply_nothing-in-End.ensures.taken (alone-row caller moment aborting item store phase.Command (silent_row command) _ (λ files. row-at caller moment files aborting item _ _ same (row-aborting_end caller moment files)) refl refl c.reply_nothing-in-End.ensures.text tt only)

pub returns-in_default : goal.returns-in_default
returns-in_default c = λ caller moment store item only is.
    alone-refused caller moment aborting item store phase.Aborting 1 _ _ (λ files. error-aborting caller moment files item _ c.in_default.not-Part c.in_default.not-End is) refl c.refuse.ensures.taken c.refuse.ensures.text tt only
