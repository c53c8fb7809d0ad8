use Rattle.std.proofs.Common.{◌≡◌, subst, sym}
use Rattle.px_base.proofs.Names.{CallSign, CallText, call_text}
use Rattle.px_base.proofs.Calls.{call_text_is, text_written}
use Rattle.px_base.proofs.call.Call.text.Goals as goal

-- A valid call's text is a text of it.
pub returns-clause-call : goal.returns-clause-call
returns-clause-call c =
    let call : CallSign = record { chars = c.self.inside.chars; ssid = c.self.inside.ssid } in
    let e : c.push_str-2.new.self.bytes ≡ call_text call =
    text_written call _ _ _ _ _ c.new-text.ensures c.base_text.ensures.base c.push_str.ensures.bytes c.ssid_text.ensures.ssid c.push_str-2.ensures.bytes in
    let h : CallText call c.push_str-2.new.self.bytes = subst (CallText call) (sym e) (call_text_is call c.self.invariant) in
    subst (λ (s : CallSign). CallText s c.push_str-2.new.self.bytes) c.self.view_is h
