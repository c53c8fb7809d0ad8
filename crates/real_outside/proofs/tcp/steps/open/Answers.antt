use Rattle.std.proofs.Common.{false, inl, inr, true}
use Rattle.real_outside.proofs.Names.{Connects, LimitsReads, SendsAtOnce, Then, asks_as}
use Rattle.real_outside.proofs.tcp.Asked.{asks_both}
use Rattle.real_outside.proofs.tcp.steps.open.Goals as goal

pub returns-then-not-send_at_once : goal.returns-then-not-send_at_once
returns-then-not-send_at_once g c =
    asks_as (Then (Connects true) (SendsAtOnce false)) _ _ _ (λ calls cut. inl cut)
    (asks_both (Connects true) (SendsAtOnce false) _ _ _ c.if-not-connect.ensures c.if-not-send_at_once.ensures)

pub returns-then-not-limit_reads : goal.returns-then-not-limit_reads
returns-then-not-limit_reads g c =
    asks_as (Then (Connects true) (Then (SendsAtOnce true) (LimitsReads false))) _ _ _ (λ calls cut. inr cut)
    (asks_both (Connects true) (Then (SendsAtOnce true) (LimitsReads false)) _ _ _ c.if-not-connect.ensures
    (asks_both (SendsAtOnce true) (LimitsReads false) _ _ _ c.if-not-send_at_once.ensures c.if-not-limit_reads.ensures))

pub returns : goal.returns
returns g c =
    asks_both (Connects true) (Then (SendsAtOnce true) (LimitsReads true)) _ _ _ c.if-not-connect.ensures
    (asks_both (SendsAtOnce true) (LimitsReads true) _ _ _ c.if-not-send_at_once.ensures c.if-not-limit_reads.ensures)
