use Rattle.std.proofs.Common.{sym, ◌∙◌, arith}
use Rattle.px_base.proofs.Spelled.{IsCall-of_chars, none_at_chars, none_at_length, none_at_ssid, read_of_chars}
use Rattle.px_base.proofs.call_octets.read_call.Goals as goal
use Rattle.px_base.proofs.call_octets.read_call.Goals.{else-is_spelled-via-then-is_spelled+else-ssid-le-LAST_SSID, else-is_spelled-via-else-is_spelled}

pub returns-then-octets-ne-CALL_OCTETS-clause-call : goal.returns-then-octets-ne-CALL_OCTETS-clause-call
returns-then-octets-ne-CALL_OCTETS-clause-call c = none_at_length _ c.if-octets-ne-CALL_OCTETS.true

pub invariant_of-result : goal.invariant_of-result
invariant_of-result c =
    IsCall-of_chars c.args.octets.now _ (omega arith) c.copy_from_slice.ensures.after
    (sym c.is_spelled.ensures ∙ c.if-is_spelled.true) c.if-ssid-le-LAST_SSID.true

pub returns-then-ssid-le-LAST_SSID-clause-call : goal.returns-then-ssid-le-LAST_SSID-clause-call
returns-then-ssid-le-LAST_SSID-clause-call c =
    read_of_chars c.args.octets.now _ (omega arith) c.copy_from_slice.ensures.after
    (sym c.is_spelled.ensures ∙ c.if-is_spelled.true) c.if-ssid-le-LAST_SSID.true

pub returns-then-ssid-le-LAST_SSID-clause-valid : goal.returns-then-ssid-le-LAST_SSID-clause-valid
returns-then-ssid-le-LAST_SSID-clause-valid c = invariant_of-result c

pub returns-else-is_spelled-clause-call : goal.returns-else-is_spelled-clause-call
returns-else-is_spelled-clause-call c =
    elim c.else-is_spelled.branch [
      | else-is_spelled-via-then-is_spelled+else-ssid-le-LAST_SSID w ↦ none_at_ssid _ (omega arith)
      | else-is_spelled-via-else-is_spelled w ↦
          none_at_chars _ _ c.copy_from_slice.ensures.after (sym c.is_spelled.ensures ∙ w.if-is_spelled.false)
    ]
