-- A station with which there is no link hears what an end to it that is down would say.
use Rattle.std.proofs.Common.{◌≡◌, Bool, true, false, sym, ◌∙◌, ap, ap₂}
use Rattle.std.specs.Prelude.{if◌then◌else◌}
use Rattle.ftl0_client.proofs.Names.{Option, None, Some, option_map, CallSign, FrameValue, LinkEnd, refuse, frame_of_reply, is_answered, refusal_frame, replying, row_of_state, LinkState, Sending, next_sending, Window, Client, ClientSends, client_next, refusing, StrangerLaw}

-- what is said next by a client, and by an end
abbrev said : Client → Option FrameValue
said client = option_map (λ (sends : ClientSends). sends.frame) (client_next client)

abbrev told : Window → LinkEnd → Option FrameValue
told w end = option_map (λ (sending : Sending). sending.frame) (next_sending w end)

-- the DM of each, with these stations
dm-same : (me to : CallSign) (poll : Bool) (w : Window) (end : LinkEnd) → end.me ≡ me → end.peer ≡ to
    → refusal_frame me (record { to = to; poll = poll }) ≡ frame_of_reply w end (refuse poll)
dm-same me to poll w end is_me is_to =
    ap₂ (λ (from : CallSign) (dest : CallSign). refusal_frame from (record { to = dest; poll = poll })) (sym is_me) (sym is_to)

by-answer : (client : Client) (frame : FrameValue) (w : Window) (end : LinkEnd) (answers : Bool) → end.me ≡ client.me → end.peer ≡ frame.src → said client ≡ None → told w end ≡ None
    → said (if answers then refusing client frame.src frame.poll else client) ≡ told w (if answers then replying end (refuse frame.poll) else end)
by-answer client frame w end true me peer silent quiet = ap Some (dm-same client.me frame.src frame.poll w end me peer)
by-answer client frame w end false me peer silent quiet = silent ∙ sym quiet

pub stranger : StrangerLaw
stranger client frame w end down me peer quiet silent =
    let none : said client ≡ None = ap (λ (o : Option ClientSends). option_map (λ (sends : ClientSends). sends.frame) o) silent in
    let still : told w end ≡ None = ap (λ (o : Option Sending). option_map (λ (sending : Sending). sending.frame) o) quiet in
    by-answer client frame w end (is_answered frame) me peer none still ∙ ap (λ (s : LinkState). told w (row_of_state s w end frame).after) (sym down)
