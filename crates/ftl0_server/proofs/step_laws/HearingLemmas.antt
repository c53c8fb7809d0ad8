-- What a frame makes of a connection is what entries make.
use Rattle.std.proofs.Common.{◌≡◌, ℕ, zero, suc, ◌≤◌, min, List, [], ◌∷◌, ◌++◌, length, take, Bool, true, false, Option, None, Some, refl, sym, ap, subst, ◌∙◌, append_assoc, append-nil, arith}
use Rattle.std.specs.Prelude.{if◌then◌else◌, ◌==◌, ◌&&◌, ◌||◌}
use Rattle.std.proofs.lemmas.List.Concat.{flat_map-append}
use Rattle.ax25_frames.specs.declared.control.Control.{Control}
use Rattle.ax25_frames.specs.declared.control.Control.TheVariants.{I, Rr, Rnr, Rej, Sabm, Disc, Dm, Ua, Frmr, Ui}
use Rattle.ax25_link.specs.declared.state.LinkState.{LinkState}
use Rattle.ax25_link.specs.declared.state.LinkState.TheVariants.{Up}
use Rattle.ax25_link.specs.Acknowledging.{Meaning, acknowledging, applying, bad, good, is_bad, is_good, meaning_of, stale, with_timer_anew}
use Rattle.ax25_link.specs.Frames.{receive_number}
use Rattle.ftl0_packets.proofs.SplitLemmas.{texts-append}
use Rattle.ftl0_session.specs.Downloads.Table as download
use Rattle.ftl0_session.specs.Downloads.Sending as due_part
use Rattle.ftl0_server.specs.Connection.Taking as taken
use Rattle.ftl0_server.specs.Entries as entry
use Rattle.ftl0_server.specs.Entries.{GoesBy, HeardBy, HearingLaw, IsNotLost, SessionEntry, after_row, commands_in, entries_due, entries_taken, items_in, packets_told, row_of, said_in, took, lost}
use Rattle.ftl0_server.proofs.step_laws.Names.{common_steps, nat_le, nat_lt, ⊤, option_map, AllByRecursion, length-take, take_all, CallSign, FrameValue, Doing, DoesAll, abandon, after_doing, after_push, push, Heard, Nothing, Opened, Reopened, Bytes, Closed, LinkEnd, free_octets, high, ready, Outcome, accepting, after_frame, heard_of, information_row, is_call, numbered_row, out_of_sequence, refusing, replying, row_of_state, sending_again, supervisory_row, up_row, with_busy, Window, texts, Item, data_end, data_part, packet_text, packets_of, enough_free, fits, on_due, Command, after_all, Store, after_all-append, CallerList, Session, session_over, DuePacket, Row, State, download_part, in_session, next_due, Connected, caller_of, parts_as, parts_of_frame, progressed, rest_of_frame, Progress, after_due, queued, queuing, resting, taking}

-- ---- doings

-- the layer above goes on from where it came
does-then : (end mid last : LinkEnd) (some more : List Doing) → DoesAll end some mid → DoesAll mid more last → DoesAll end (some ++ more) last
does-then end mid last [] more first second = subst (λ (e : LinkEnd). DoesAll e more last) first second
does-then end mid last (doing ∷ some) more first second = (first.0, does-then (after_doing end doing) mid last some more first.1 second)

-- text that fits is queued whole
pushed-whole : (end : LinkEnd) (text : List ℕ) → length text ≤ free_octets end → (after_push end text).pushed ≡ end.pushed ++ text
pushed-whole end text few = ap (λ (octets : List ℕ). end.pushed ++ octets) (take_all (free_octets end) text few)

-- and others after it
pushed-then : (end : LinkEnd) (text more : List ℕ) (last : List ℕ) → length text ≤ free_octets end → last ≡ (after_push end text).pushed ++ more → last ≡ end.pushed ++ (text ++ more)
pushed-then end text more last few is = is ∙ ap (λ (octets : List ℕ). octets ++ more) (pushed-whole end text few) ∙ append_assoc end.pushed text more

-- ---- entries, one after others

said-then : (some more : List SessionEntry) → said_in (some ++ more) ≡ said_in some ++ said_in more
said-then some more = flat_map-append entry.packets_said some more

items-then : (some more : List SessionEntry) → items_in (some ++ more) ≡ items_in some ++ items_in more
items-then some more = flat_map-append entry.items_of some more

commands-then : (some more : List SessionEntry) → commands_in (some ++ more) ≡ commands_in some ++ commands_in more
commands-then some more = flat_map-append entry.commands_of some more

all-then : (some more : List SessionEntry) → AllByRecursion IsNotLost some → AllByRecursion IsNotLost more → AllByRecursion IsNotLost (some ++ more)
all-then [] more first second = second
all-then (one ∷ some) more first second = (first.0, all-then some more first.1 second)

all-first : (some more : List SessionEntry) → AllByRecursion IsNotLost (some ++ more) → AllByRecursion IsNotLost some
all-first [] more all = tt
all-first (one ∷ some) more all = (all.0, all-first some more all.1)

goes-then : (caller : CallSign) (moment : ℕ) (session mid now : Session) (some more : List SessionEntry) → AllByRecursion IsNotLost some
    → GoesBy caller moment session some mid → GoesBy caller moment mid more now → GoesBy caller moment session (some ++ more) now
goes-then caller moment session mid now [] more all first second = subst (λ (s : Session). GoesBy caller moment s more now) first second
goes-then caller moment session mid now (took item row ∷ some) more all first second =
    (first.0, goes-then caller moment (after_row session row) mid now some more all.1 first.1 second)
goes-then caller moment session mid now (lost item row ∷ some) more all first second = absurd all.0
goes-then caller moment session mid now (entry.queued due ∷ some) more all first second =
    (first.0, goes-then caller moment (record session { state = due.state }) mid now some more all.1 first.1 second)

-- ---- packets that are taken

-- What packets make of a session and its end is what these entries make.
pub record Taken (caller : CallSign) (moment : ℕ) (session : Session) (end : LinkEnd) (items : List Item) (progress : Progress) (entries : List SessionEntry) : Type 0 where
  pub doings : List Doing
  pub does : DoesAll end doings progress.end
  pub said : progress.end.pushed ≡ end.pushed ++ texts (said_in entries)
  pub unread : List Item
  pub packets : items ≡ items_in entries ++ unread
  pub all : AllByRecursion IsNotLost entries → unread ≡ []
  pub none_lost : progress.over ≡ false → AllByRecursion IsNotLost entries
  pub up : progress.over ≡ false → progress.end.state ≡ Up
  pub done : progress.done ≡ commands_in entries
  pub goes : GoesBy caller moment session entries (session_over (after_all session.store progress.done) progress.lists progress.state)

module _ (caller : CallSign) (moment : ℕ) where
  -- no packet
  taken-none : (over : Bool) (session : Session) (end : LinkEnd) → (over ≡ false → end.state ≡ Up)
      → Taken caller moment session end [] (record (resting end session.state session.lists 0) { over = over }) []
  taken-none over session end up = record {
    doings = [];
    does = refl;
    said = sym (append-nil end.pushed);
    unread = [];
    packets = refl;
    all = λ h. refl;
    none_lost = λ h. tt;
    up = up;
    done = refl;
    goes = refl;
  }

  -- one packet, whose replies fit or don't, and the others
  module _ (session : Session) (end : LinkEnd) (item : Item) (items : List Item) (part : ℕ) (row : Row) (later : Progress) (entries : List SessionEntry)
      (is : row ≡ row_of caller moment session item) (up : end.state ≡ Up) where
    taken-one : (enough : Bool) → fits end (texts row.replies) ≡ enough
        → (enough ≡ true → Taken caller moment (after_row session row) (after_push end (texts row.replies)) items later entries)
        → Taken caller moment session end (item ∷ items) (if enough then taken.after_row row later else taken.giving_up end row part)
        (if enough then took item row ∷ entries else lost item row ∷ [])
    taken-one true enough each =
        let h = each refl in
        record {
          doings = push (texts row.replies) ∷ h.doings;
          does = (up, h.does);
          said =
              pushed-then end (texts row.replies) (texts (said_in entries)) later.end.pushed (grind (arith, common_steps)) h.said
              ∙ ap (λ (octets : List ℕ). end.pushed ++ octets) (sym (texts-append row.replies (said_in entries)));
          unread = h.unread;
          packets = ap (λ (rest : List Item). item ∷ rest) h.packets;
          all = λ all. h.all all.1;
          none_lost = λ over. (tt, h.none_lost over);
          up = h.up;
          done = ap (λ (done : List Command). row.commands ++ done) h.done;
          goes = (
            is,
            subst (λ (s : Store). GoesBy caller moment (after_row session row) entries (session_over s later.lists later.state))
                (sym (after_all-append row.commands later.done session.store)) h.goes,
          );
        }
    taken-one false enough each = record {
      doings = abandon ∷ [];
      does = (up, refl);
      said = sym (append-nil end.pushed);
      unread = items;
      packets = refl;
      all = λ all. absurd all.0;
      none_lost = λ over. absurd cc;
      up = λ over. absurd cc;
      done = sym (append-nil row.commands);
      goes = (is, refl, refl);
    }

  taken-all : (session : Session) (end : LinkEnd) (items : List Item) (part : ℕ) → end.state ≡ Up
      → Taken caller moment session end items (taking caller moment session end items [] part) (entries_taken caller moment session end items)
  taken-all session end [] part up = record {
    doings = [];
    does = refl;
    said = sym (append-nil end.pushed);
    unread = [];
    packets = refl;
    all = λ h. refl;
    none_lost = λ h. tt;
    up = λ h. up;
    done = refl;
    goes = refl;
  }
  taken-all session end (item ∷ items) part up =
      let row : Row = row_of caller moment session item in
      taken-one session end item items part row (taking caller moment (after_row session row) (after_push end (texts row.replies)) items [] (suc part))
      (entries_taken caller moment (after_row session row) (after_push end (texts row.replies)) items) refl up (fits end (texts row.replies)) refl
      (λ enough. taken-all (after_row session row) (after_push end (texts row.replies)) items (suc part) up)

-- ---- packets that are due

-- one packet: DATA_END if nothing is left, else DATA of the next octets
abbrev packet_by : Bool → List ℕ → download.DownloadState → download.DownloadState → due_part.DuePacket
packet_by none octets some more =
    if none then record { packet = data_end; state = some } else record { packet = data_part (take due_part.most_data octets); state = more }

packet-small : (none : Bool) (octets : List ℕ) (some more : download.DownloadState) → length (packet_text (packet_by none octets some more).packet) ≤ enough_free
packet-small true octets some more = omega arith
packet-small false octets some more = let few : length (take 254 octets) ≡ min 254 (length octets) = length-take 254 octets in omega arith

small-by : (is_due : Bool) (next : due_part.DuePacket) (due : DuePacket) → length (packet_text next.packet) ≤ enough_free
    → option_map in_session (if is_due then Some next else None) ≡ Some due → length (packet_text due.packet) ≤ enough_free
small-by true next due small is =
    let same : in_session next ≡ due = cc in
    subst (λ (d : DuePacket). length (packet_text d.packet) ≤ enough_free) same small
small-by false next due small is = absurd cc

due-small : (store : Store) (state : State) (due : DuePacket) → next_due store state false ≡ Some due → length (packet_text due.packet) ≤ enough_free
due-small store state due is =
    let part : download.DownloadState = download_part state in
    small-by (due_part.is_due part) (due_part.due_packet store part false) due
    (packet-small (length (due_part.octets_due store part) == 0) (due_part.octets_due store part) (due_part.state_at_end part) (due_part.state_after due_part.most_data part)) is

-- What is queued is what these entries queue.
record DueBy (caller : CallSign) (moment : ℕ) (store : Store) (lists : List CallerList) (progress now : Progress) (entries : List SessionEntry) : Type 0 where
  pub doings : List Doing
  pub does : DoesAll progress.end doings now.end
  pub said : now.end.pushed ≡ progress.end.pushed ++ texts (said_in entries)
  pub goes : GoesBy caller moment (session_over store lists progress.state) entries (session_over store lists now.state)
  pub none_lost : AllByRecursion IsNotLost entries
  pub none_taken : items_in entries ≡ []
  pub none_done : commands_in entries ≡ []
  pub done : now.done ≡ progress.done
  pub lists_are : now.lists ≡ progress.lists
  pub over : now.over ≡ progress.over

module _ (caller : CallSign) (moment : ℕ) (store : Store) (lists : List CallerList) where
  due-none : (progress : Progress) → DueBy caller moment store lists progress progress []
  due-none progress = record {
    doings = [];
    does = refl;
    said = sym (append-nil progress.end.pushed);
    goes = refl;
    none_lost = tt;
    none_taken = refl;
    none_done = refl;
    done = refl;
    lists_are = refl;
    over = refl;
  }

  -- whether enough octets are free, and what is due
  module _ (progress : Progress) (now : DuePacket → Progress) (entries : DuePacket → List SessionEntry) (up : progress.end.state ≡ Up)
      (each : (due : DuePacket) → DueBy caller moment store lists (after_due due progress) (now due) (entries due)) where
    due-one : (due : Option DuePacket) → next_due store progress.state false ≡ due → enough_free ≤ free_octets progress.end
        → DueBy caller moment store lists progress (on_due due progress now) (on_due due [] (λ one. entry.queued one ∷ entries one))
    due-one None is enough = due-none progress
    due-one (Some due) is enough =
        let h = each due in
        record {
          doings = push (packet_text due.packet) ∷ h.doings;
          does = (up, h.does);
          said =
              pushed-then progress.end (packet_text due.packet) (texts (said_in (entries due))) (now due).end.pushed (let small = due-small store progress.state due is in omega arith) h.said;
          goes = (is, h.goes);
          none_lost = (tt, h.none_lost);
          none_taken = h.none_taken;
          none_done = h.none_done;
          done = h.done;
          lists_are = h.lists_are;
          over = h.over;
        }

    due-by : (enough : Bool) → nat_le enough_free (free_octets progress.end) ≡ enough
        → DueBy caller moment store lists progress (if enough then on_due (next_due store progress.state false) progress now else progress)
        (if enough then on_due (next_due store progress.state false) [] (λ one. entry.queued one ∷ entries one) else [])
    due-by true enough = due-one (next_due store progress.state false) refl (grind (arith, common_steps))
    due-by false enough = due-none progress

  due-all : (count : ℕ) (progress : Progress) → progress.end.state ≡ Up
      → DueBy caller moment store lists progress (queuing count store [] progress) (entries_due count store progress.end progress.state)
  due-all zero progress up = due-none progress
  due-all (suc more) progress up =
      due-by progress (λ due. queuing more store [] (after_due due progress)) (λ due. entries_due more store (after_push progress.end (packet_text due.packet)) due.state) up
      (λ due. due-all more (after_due due progress) up) (nat_le enough_free (free_octets progress.end)) refl

-- ---- what the link reports

-- whether the link is up after what it reports, of a frame that doesn't call
abbrev pub IsUpBehind : Heard → LinkEnd → Type 0
IsUpBehind Nothing after = after.state ≡ Up
IsUpBehind Opened after = ⊥
IsUpBehind Reopened after = ⊥
IsUpBehind Bytes after = after.state ≡ Up
IsUpBehind (Closed why) after = ⊤

abbrev IsUpAfter : Outcome → Type 0
IsUpAfter outcome = IsUpBehind outcome.heard outcome.after

either-up : (b : Bool) (some other : LinkEnd) → some.state ≡ Up → other.state ≡ Up → (if b then some else other).state ≡ Up
either-up true some other first second = first
either-up false some other first second = second

either-row : (b : Bool) (some other : Outcome) → IsUpAfter some → IsUpAfter other → IsUpAfter (if b then some else other)
either-row true some other first second = first
either-row false some other first second = second

-- an N(R) that is applied leaves the link up
acknowledging-up : (end : LinkEnd) (x : ℕ) → end.state ≡ Up → (acknowledging end x).state ≡ Up
acknowledging-up end x up = either-up (nat_lt end.acked x || (x == high end)) (with_timer_anew (record end { acked = x })) end up up

applying-up : (end : LinkEnd) (meaning : Meaning) → end.state ≡ Up → (applying end meaning).state ≡ Up
applying-up end (good x) up = acknowledging-up end x up
applying-up end stale up = acknowledging-up end end.acked up
applying-up end bad up = up

supervisory-up : (frame : FrameValue) (end : LinkEnd) → end.state ≡ Up → IsUpAfter (supervisory_row end frame)
supervisory-up frame end up = either-up (frame.command && frame.poll) (replying end (ready true)) end up up

numbered-up : (w : Window) (end : LinkEnd) (frame : FrameValue) (nr : ℕ) (row : LinkEnd → Outcome) → end.state ≡ Up → ((e : LinkEnd) → e.state ≡ Up → IsUpAfter (row e))
    → IsUpAfter (numbered_row w end frame nr row)
numbered-up w end frame nr row up each =
    either-row (is_bad (meaning_of w end nr)) (refusing w end frame) (row (applying end (meaning_of w end nr))) tt
    (each (applying end (meaning_of w end nr)) (applying-up end (meaning_of w end nr) up))

up-by : (w : Window) (end : LinkEnd) (frame : FrameValue) (control : Control) → end.state ≡ Up → is_call control ≡ false → IsUpAfter (up_row w end frame control)
up-by w end frame (I ns nr) up other =
    numbered-up w end frame nr (λ e. information_row w e frame ns) up (λ e is. either-row (ns == receive_number w e) (accepting e frame) (out_of_sequence e frame) is is)
up-by w end frame (Rr nr) up other = numbered-up w end frame nr (λ e. supervisory_row (with_busy false e) frame) up (λ e is. supervisory-up frame (with_busy false e) is)
up-by w end frame (Rnr nr) up other = numbered-up w end frame nr (λ e. supervisory_row (with_busy true e) frame) up (λ e is. supervisory-up frame (with_busy true e) is)
up-by w end frame (Rej nr) up other =
    let good : Bool = is_good (meaning_of w end nr) in
    numbered-up w end frame nr (λ e. supervisory_row (with_busy false (if good then sending_again e else e)) frame) up
    (λ e is. supervisory-up frame (with_busy false (if good then sending_again e else e)) (either-up good (sending_again e) e is is))
up-by w end frame Sabm up other = absurd cc
up-by w end frame Disc up other = tt
up-by w end frame Dm up other = tt
up-by w end frame Frmr up other = tt
up-by w end frame Ua up other = up
up-by w end frame Ui up other = up

pub up-behind : (w : Window) (end : LinkEnd) (frame : FrameValue) → end.state ≡ Up → is_call frame.kind.control ≡ false → IsUpBehind (heard_of w end frame) (after_frame w end frame)
up-behind w end frame up other = subst (λ (state : LinkState). IsUpAfter (row_of_state state w end frame)) (sym up) (up-by w end frame frame.kind.control up other)

-- ---- a frame

module _ (moment : ℕ) (store : Store) (lists : List CallerList) (c : Connected) (after : LinkEnd) (octets : List ℕ) where
  -- what was taken, by what the link reports
  pub taken-told : (told : Heard) → IsUpBehind told after
      → Taken (caller_of c) moment (session_over store lists c.state) after (packets_told told c octets) (parts_as told moment store lists c after octets [])
      (entries_taken (caller_of c) moment (session_over store lists c.state) after (packets_told told c octets))
  taken-told Nothing up = taken-none (caller_of c) moment false (session_over store lists c.state) after (λ h. up)
  taken-told Opened up = absurd up
  taken-told Reopened up = absurd up
  taken-told Bytes up = taken-all (caller_of c) moment (session_over store lists c.state) after (packets_of (c.rest ++ octets)) 0 up
  taken-told (Closed why) up = taken-none (caller_of c) moment true (session_over store lists c.state) after (λ h. absurd cc)

module _ (moment : ℕ) (store : Store) (lists : List CallerList) (c : Connected) (w : Window) (frame : FrameValue) (progress : Progress) (entries : List SessionEntry)
    (h : Taken (caller_of c) moment (session_over store lists c.state) (after_frame w c.end frame) (entry.packets_heard w c frame) progress entries) where
  abbrev Law : Progress → List SessionEntry → Type 0
  Law now all =
      HeardBy w frame c (progressed (rest_of_frame w c frame) now) all
      × GoesBy (caller_of c) moment (session_over store lists c.state) all (session_over (after_all store now.done) now.lists now.state)

  -- it is over, or what is due is queued after it
  heard-by : (over : Bool) → progress.over ≡ over
      → Law (if over then progress else queuing (free_octets progress.end) (after_all store progress.done) [] progress)
      (entries ++ (if over then [] else entries_due (free_octets progress.end) (after_all store progress.done) progress.end progress.state))
  heard-by true is =
      rw (append-nil entries)
      (record { doings = h.doings; does = h.does; said = h.said; unread = h.unread; packets = h.packets; all = h.all; none_lost = h.none_lost; done = h.done }, h.goes)
  heard-by false is =
      let stores : Store = after_all store progress.done in
      let more : List SessionEntry = entries_due (free_octets progress.end) stores progress.end progress.state in
      let now : Progress = queuing (free_octets progress.end) stores [] progress in
      let d = due-all (caller_of c) moment stores progress.lists (free_octets progress.end) progress (h.up is) in
      let session : Session = session_over store lists c.state in
      let P : Store → List CallerList → Type 0 = λ s l. GoesBy (caller_of c) moment session (entries ++ more) (session_over s l now.state) in
      let goes : P stores progress.lists =
      goes-then (caller_of c) moment session (session_over stores progress.lists progress.state) (session_over stores progress.lists now.state) entries more (h.none_lost is) h.goes d.goes in (
        record {
          doings = h.doings ++ d.doings;
          does = does-then (after_frame w c.end frame) progress.end now.end h.doings d.doings h.does d.does;
          said =
              d.said ∙ ap (λ (octets : List ℕ). octets ++ texts (said_in more)) h.said
              ∙ append_assoc (after_frame w c.end frame).pushed (texts (said_in entries)) (texts (said_in more))
              ∙ ap (λ (octets : List ℕ). (after_frame w c.end frame).pushed ++ octets) (sym (texts-append (said_in entries) (said_in more)) ∙ ap texts (sym (said-then entries more)));
          unread = h.unread;
          packets =
              h.packets
              ∙ ap (λ (items : List Item). items ++ h.unread)
              (sym (items-then entries more ∙ ap (λ (items : List Item). items_in entries ++ items) d.none_taken ∙ append-nil (items_in entries)));
          all = λ all. h.all (all-first entries more all);
          none_lost = λ over. all-then entries more (h.none_lost is) d.none_lost;
          done =
              d.done ∙ h.done
              ∙ sym (commands-then entries more ∙ ap (λ (commands : List Command). commands_in entries ++ commands) d.none_done ∙ append-nil (commands_in entries));
        },
        subst (λ (s : Store). P s now.lists) (sym (ap (after_all store) d.done)) (subst (P stores) (sym d.lists_are) goes),
      )

pub hearing-law : HearingLaw
hearing-law w moment store lists c frame up other =
    let progress : Progress = parts_of_frame w moment store lists c frame [] in
    let h = taken-told moment store lists c (after_frame w c.end frame) frame.kind.information (heard_of w c.end frame) (up-behind w c.end frame up other) in
    heard-by moment store lists c w frame progress _ h progress.over refl
