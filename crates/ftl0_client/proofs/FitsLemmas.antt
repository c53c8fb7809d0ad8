-- Each event leaves the end of a client's link such as frames and ticks bring about.
use Rattle.std.proofs.Common.{◌≡◌, ℕ, List, [], ◌∷◌, refl}
use Rattle.ftl0_client.proofs.Names.{Option, None, Some, ⊤, cond_both, FrameValue, after_hang_up, after_push, IsEnd, LinkEnd, heard_of_tick, is_answered, after_frame, heard_of, IsQuiet, Sending, next_sending, after_tick, told_of_tick, Window, Heard, Nothing, Opened, Reopened, Bytes, Closed, after_frame-IsEnd, after_hang_up-IsEnd, after_push-IsEnd, after_tick-IsEnd, calling_end-IsEnd, kind_of_item, texts, Item, packet_text, fits, after_all, Lists, is_same_call, Ending, Work, Row, job_after, job_row, Attempted, after_hearing, after_told, packets_heard, with_end, settled, Happened, after_replies, parting, replied, taking, taking_by, taking_one, Client, ClientEvent, IsSilent, Refused, asks, attempt_for, hearing_by, hears, refusing, sends_by, sends_of_attempt, sends_of_link, ticking_by, ticks, happening, EndFits}
use Rattle.ftl0_client.proofs.attempt.SettlingLemmas.{settled-keeps}

-- ---- ends

module _ (w : Window) where
  replied-fits : (end : LinkEnd) (text : List ℕ) → IsEnd w end → IsEnd w (replied end text)
  replied-fits end text is = cond_both (fits end text) (after_push end text) end (λ (e : LinkEnd). IsEnd w e) (λ b. after_push-IsEnd w end text is) (λ b. is)

  parting-fits : (o : Option Ending) (end : LinkEnd) → IsEnd w end → IsEnd w (parting o end)
  parting-fits None end is = is
  parting-fits (Some ending) end is = cond_both ending.later end (after_hang_up end) (λ (e : LinkEnd). IsEnd w e) (λ b. is) (λ b. after_hang_up-IsEnd w end is)

  -- after packets
  one-fits : (o : Option Ending) (lists : Lists) (a : Attempted) (item : Item) → IsEnd w a.end → IsEnd w (taking_by o lists a item).after.end
  one-fits None lists a item is =
      let row : Row Work = job_row lists a.job item in
      parting-fits (after_replies (job_after row) (kind_of_item item) (fits a.end (texts row.replies))).ending (replied a.end (texts row.replies)) (replied-fits a.end (texts row.replies) is)
  one-fits (Some ending) lists a item is = is

  taking-fits : (lists : Lists) (a : Attempted) (items : List Item) → IsEnd w a.end → IsEnd w (taking lists a items).after.end
  taking-fits lists a [] is = is
  taking-fits lists a (item ∷ items) is =
      let one : Happened = taking_one lists a item in
      taking-fits (after_all lists one.noted) one.after items (one-fits a.job.ending lists a item is)

  -- at the end of an event
  settled-fits : (a : Attempted) → IsEnd w a.end → IsEnd w (settled a).end
  settled-fits =
      settled-keeps (λ (a : Attempted). IsEnd w a.end) (λ a due is fit. after_push-IsEnd w a.end (packet_text due.packet) fit) (λ a fit. after_hang_up-IsEnd w a.end fit)

  told-fits : (told : Heard) (a : Attempted) (octets : List ℕ) → IsEnd w a.end → IsEnd w (after_told told a octets).end
  told-fits Nothing a octets is = is
  told-fits Opened a octets is = is
  told-fits Reopened a octets is = is
  told-fits Bytes a octets is = is
  told-fits (Closed why) a octets is = is

  -- after a frame
  heard-fits : (lists : Lists) (a : Attempted) (frame : FrameValue) → IsEnd w a.end → IsQuiet w a.end
      → IsEnd w (settled (taking lists (after_hearing w a frame) (packets_heard w a frame)).after).end
  heard-fits lists a frame is quiet =
      let told : IsEnd w (after_hearing w a frame).end =
      told-fits (heard_of w a.end frame) (with_end a (after_frame w a.end frame)) frame.kind.information (after_frame-IsEnd w a.end frame is quiet) in
      settled-fits (taking lists (after_hearing w a frame) (packets_heard w a frame)).after (taking-fits lists (after_hearing w a frame) (packets_heard w a frame) told)

  -- nothing is to be sent by the end, if there is one
  abbrev pub IsQuietAt : Option Attempted → Type 0
  IsQuietAt None = ⊤
  IsQuietAt (Some a) = IsQuiet w a.end

-- ---- a silent client's end has nothing to send

link-quiet : (client : Client) (a : Attempted) (o : Option Sending) → sends_of_link client a o ≡ None → o ≡ None
link-quiet client a None silent = refl
link-quiet client a (Some sending) silent = absurd (cc silent)

attempt-quiet : (client : Client) (o : Option Attempted) → sends_of_attempt client o ≡ None → IsQuietAt client.window o
attempt-quiet client None silent = tt
attempt-quiet client (Some a) silent = link-quiet client a (next_sending client.window a.end) silent

stray-quiet : (client : Client) (o : Option Refused) → sends_by client o ≡ None → IsQuietAt client.window client.attempt
stray-quiet client None silent = attempt-quiet client client.attempt silent
stray-quiet client (Some refused) silent = absurd (cc silent)

-- ---- events

hearing-fits : (client : Client) (frame : FrameValue) (o : Option Attempted) → EndFits client.window o → IsQuietAt client.window o → EndFits client.window client.attempt
    → EndFits (hearing_by client frame o).after.window (hearing_by client frame o).after.attempt
hearing-fits client frame None none quiet fit =
    cond_both (is_answered frame) (refusing client frame.src frame.poll) client (λ (c : Client). EndFits c.window c.attempt) (λ asks. fit) (λ passes. fit)
hearing-fits client frame (Some a) is quiet fit = heard-fits client.window client.lists a frame is quiet

ticked-fits : (client : Client) (o : Option Attempted) → EndFits client.window o → EndFits client.window client.attempt
    → EndFits (ticking_by client o).window (ticking_by client o).attempt
ticked-fits client None none fit = fit
ticked-fits client (Some a) is fit =
    let w : Window = client.window in
    settled-fits w (after_told (heard_of_tick (told_of_tick a.end)) (with_end a (after_tick a.end)) [])
    (told-fits w (heard_of_tick (told_of_tick a.end)) (with_end a (after_tick a.end)) [] (after_tick-IsEnd w a.end is))

pub happening-fits : (client : Client) (event : ClientEvent) → IsSilent client → EndFits client.window client.attempt
    → EndFits (happening client event).after.window (happening client event).after.attempt
happening-fits client (asks job) silent fit = calling_end-IsEnd client.window client.me client.server
happening-fits client (hears frame) silent fit =
    let w : Window = client.window in
    let P : Option Attempted → Type 0 = λ o. EndFits w o in
    let Q : Option Attempted → Type 0 = λ o. IsQuietAt w o in
    hearing-fits client frame (attempt_for client frame) (cond_both (is_same_call frame.src client.server) client.attempt None P (λ same. fit) (λ other. tt))
    (cond_both (is_same_call frame.src client.server) client.attempt None Q (λ same. stray-quiet client client.stray silent) (λ other. tt)) fit
happening-fits client ticks silent fit = ticked-fits client client.attempt fit fit
