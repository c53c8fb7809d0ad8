-- The files that a session or a server acknowledges stand.
use Rattle.std.proofs.lemmas.Grind.{common_steps}
use Rattle.std.proofs.Common.{◌≡◌, ◌⊎◌, inl, inr, ⊎_elim, ℕ, zero, suc, ◌+◌, ◌≤◌, List, [], ◌∷◌, ◌++◌, length, Bool, true, false, Option, None, Some, refl, sym, ap, subst, ◌∙◌, append_assoc, append-nil, length-append, true≢false, arith}
use Rattle.px_base.specs.Octets.{IsFront}
use Rattle.disk_model.specs.declared.disk.Disk.{Ghosts}
use Rattle.file_journal.specs.Through.{HadRoom, StandsThrough}
use Rattle.file_journal.proofs.Offered.{done_stay, front_done, rises_all}
use Rattle.disk_model.proofs.Offered.{told_weaker}
use Rattle.file_store.specs.Command.{AreAllowed, Command, after_all, last_grow, seal}
use Rattle.file_store.specs.OnDisk.{MakesBetween}
use Rattle.file_store.specs.State.{IsKnown, store_form}
use Rattle.file_store.proofs.Offered.{AreAllowed-split, after_all-append}
use Rattle.ftl0_session.specs.Answering.{SendsSome}
use Rattle.ftl0_session.specs.Laws.{AcknowledgedStandsLaw}
use Rattle.ftl0_session.specs.Run.{Event, RunsOver, Sends, Session, event_row, session_over}
use Rattle.ftl0_session.specs.Uploads.Failures.{Failure, failed_reads, failed_write, read_fails}
use Rattle.ftl0_session.specs.Uploads.Laws.{IsWhole}
use Rattle.ftl0_session.specs.Uploads.Session as upload
use Rattle.ax25_link.specs.Rows.{after_frame}
use Rattle.ax25_link.specs.declared.state.Heard.{Heard as HeardKind}
use Rattle.ftl0_packets.proofs.SplitLemmas.{texts-append}
use Rattle.ftl0_session.specs.Uploads.Events.{Event as Heard}
use Rattle.ftl0_server.specs.Connection.Connected.{Connected, caller_of}
use Rattle.ftl0_server.specs.Connection.Hearing.{parts_as, parts_of_frame}
use Rattle.ftl0_server.specs.Connection.Laws.{TakesUpTo, TakingLaw}
use Rattle.ftl0_server.specs.Connection.Taking.{Progress, queued, queuing}
use Rattle.ftl0_server.specs.Server.{Server, hearing_at, hearing_by}
use Rattle.ftl0_server.specs.ServerStep.{happening}
use Rattle.ftl0_server.specs.Serving.{ServesOver}
use Rattle.ftl0_server.specs.Slots.{Slot}
use Rattle.ax25_frames.specs.FrameText.{FrameValue}
use Rattle.server_node.specs.OnAir.Serving.{server_steps}
use Rattle.ftl0_server.proofs.Offered.{serves}
use Rattle.turn_loop.specs.Events.{NodeEvent}
use Rattle.server_node.proofs.acknowledged.Names.{slice_index, Ok, Err, IsErrOf, Result, CallSign, texts, Item, PacketValue, data_end, ul_ack_resp, Entry, Holding, Store, complete, entry_of, partial, Row, State, command, due_at, fault_reply, receiving, session_row, runs, runs-trans, Seen}
use Rattle.server_node.proofs.acknowledged.AckLemmas.{IsAllGood, acks, is_ack, row-acks}
use Rattle.server_node.specs.Acknowledged.{AcknowledgedSince, FileEnd, IsServerServed, IsSessionServed, MeetsEvent, ServerAcknowledgesLaw, ServerTakes, SessionAcknowledgesLaw, TakesPacket, row_of_end, taken_first}
use Rattle.server_node.specs.OnAir.Served.{server_from}
use Rattle.server_node.specs.Served.{IsUnrecovered, Run}
use Rattle.server_node.specs.Sessions.Running.{IsSaid, RunsAs, StopsAs, first_session, session_steps}
use Rattle.server_node.specs.Sessions.SessionRan.{IsGreeted, IsUngreeted, SessionRan, login_text}
use Rattle.server_node.specs.Steps.{EndsOver, Made, StopsBehind, made}
use Rattle.server_node.specs.declared.terms.SessionTerms.{SessionTerms}
use Rattle.turn_loop.specs.declared.stop.NodeStop.{NodeStop}
use Rattle.turn_loop.specs.declared.stop.NodeStop.TheVariants as stop
use Rattle.server_node.specs.declared.terms.Served.{Served}

-- ---- UL_ACK_RESP among packets

pub acks-at : (before later : List PacketValue) → acks (before ++ ul_ack_resp ∷ later) ≡ true
acks-at [] later = refl
acks-at (packet ∷ before) later = let each = acks-at before later in grind (arith, common_steps)

-- what stands in two lists stands in the first, or in the second
split : {X : Type 0} (xs ys before later : List X) (x : X) → xs ++ ys ≡ before ++ x ∷ later
    → ((more : List X) × (xs ≡ before ++ x ∷ more)) ⊎ ((more : List X) × (before ≡ xs ++ more) × (ys ≡ more ++ x ∷ later))
split [] ys before later x e = inr (before, refl, e)
split (a ∷ xs) ys [] later x e = inl (xs, cc)
split {X = X} (a ∷ xs) ys (b ∷ before) later x e = ⊎_elim (λ (one : (more : List X) × (xs ≡ before ++ x ∷ more)). inl (one.0, cc)) (λ other. inr (other.0, cc, other.2)) (split xs ys before later x cc)

-- ---- what is due doesn't

due-acks : (store : Store) (state : State) (failures : List Failure) (part : ℕ) (packet : PacketValue) (next : State) → due_at store state failures part ≡ Some (record { packet = packet; state = next }) → is_ack packet ≡ false
due-acks store state failures part packet next is = grind (arith, common_steps)

pub some-acks : (store : Store) (state : State) (failures : List Failure) (part : ℕ) (packets : List PacketValue) → SendsSome store state failures part packets → acks packets ≡ false
some-acks store state failures part [] sends = refl
some-acks store state failures part (packet ∷ packets) sends =
    let here = due-acks store state failures part packet sends.0 sends.1 in let each = some-acks store sends.0 failures (suc part) packets sends.2 in grind (arith, common_steps)

sends-acks : (store : Store) (state : State) (failures : List Failure) (part : ℕ) (packets : List PacketValue) (now : State) → Sends store state failures part packets now → acks packets ≡ false
sends-acks store state failures part [] now sends = refl
sends-acks store state failures part (packet ∷ packets) now sends =
    let here = due-acks store state failures part packet sends.0 sends.1 in let each = sends-acks store sends.0 failures (suc part) packets now sends.2 in grind (arith, common_steps)

-- ---- the file stands

-- whether the disk failed
by_disk : (result : Result Served NodeStop) → IsErrOf result stop.Disk ⊎ ¬ IsErrOf result stop.Disk
by_disk (Ok served) = inr (λ is. cc is)
by_disk (Err stop.Disk) = inl refl
by_disk (Err stop.AirRead) = inr (λ is. cc is)
by_disk (Err stop.AirWrite) = inr (λ is. cc is)
by_disk (Err (stop.NotAStore found)) = inr (λ is. cc is)
by_disk (Err (stop.Damaged at)) = inr (λ is. cc is)
by_disk (Err stop.Spent) = inr (λ is. cc is)
by_disk (Err stop.OutOfMemory) = inr (λ is. cc is)

-- the commands of its row
end-commands : (file : FileEnd) → IsAllGood file.store file.number file.rest → (row_of_end file).commands ≡ last_grow file.number file.rest ++ seal file.number file.moment ∷ []
unfolding session_row upload.session_row
end-commands file good = rw (good.0, good.1) refl

-- the first of them is allowed, so the file is under way
under_way : (store : Store) (number moment : ℕ) (rest : List ℕ) (others : List Command) (entry : Entry) (holding : Holding) → entry_of store number ≡ Some entry → entry.holding ≡ holding
    → AreAllowed store ((last_grow number rest ++ seal number moment ∷ []) ++ others) → (held : List ℕ) × (entry.holding ≡ partial held)
under_way store number moment rest others entry (partial held) is holds allowed = (held, holds)
under_way store number moment [] others entry (complete octets sealed) is holds allowed = absurd (grind (arith, common_steps))
under_way store number moment (octet ∷ rest) others entry (complete octets sealed) is holds allowed = absurd (grind (arith, common_steps))

whole : (store : Store) (number moment : ℕ) (rest : List ℕ) (others : List Command) (o : Option Entry) → entry_of store number ≡ o → IsAllGood store number rest
    → AreAllowed store ((last_grow number rest ++ seal number moment ∷ []) ++ others) → (entry : Entry) × (held : List ℕ) × IsWhole store number entry held rest
whole store number moment rest others None is good allowed = absurd (grind (arith, common_steps))
whole store number moment rest others (Some entry) is good allowed =
    let holds = under_way store number moment rest others entry entry.holding is refl allowed in
    (entry, holds.0, record { under_way = (is, holds.1); all = grind (arith, common_steps); good = grind (arith, common_steps) })

module _ {D : Type 0} (g : Ghosts D) (law : AcknowledgedStandsLaw) (failed : Type 0) (whether : failed ⊎ ¬ failed) (start : Store) (done cut : List Command) (disk disk_n : D)
    (known : IsKnown g disk) (stands : StandsThrough g store_form failed start done cut disk disk_n) where
  pub acknowledged : (file : FileEnd) → file.store ≡ after_all start file.before → IsAllGood file.store file.number file.rest → (others : List Command)
      → done ≡ file.before ++ ((row_of_end file).commands ++ others) → AcknowledgedSince g file start stands.time (HadRoom stands) disk disk_n
  acknowledged file behind good others parts =
      let before : List Command = file.before in
      let commands : List Command = (row_of_end file).commands in
      let all : done ++ cut ≡ before ++ (commands ++ (others ++ cut)) =
      ap (λ (cs : List Command). cs ++ cut) parts ∙ append_assoc before (commands ++ others) cut ∙ ap (λ (cs : List Command). before ++ cs) (append_assoc commands others cut) in
      let allowed : AreAllowed start (before ++ (commands ++ (others ++ cut))) = subst (λ (cs : List Command). AreAllowed start cs) all (stands.allowed known) in
      let there : AreAllowed file.store (commands ++ (others ++ cut)) =
      subst (λ (s : Store). AreAllowed s (commands ++ (others ++ cut))) (sym behind)
      (AreAllowed-split before (commands ++ (others ++ cut)) start allowed).1 in
      let is = whole file.store file.number file.moment file.rest (others ++ cut) (entry_of file.store file.number) refl good
      (subst (λ (cs : List Command). AreAllowed file.store (cs ++ (others ++ cut))) (end-commands file good) there) in
      let ack = law file.caller start file.store file.lists before file.moment file.number is.0 is.1 file.rest behind is.2 in
      let count : ℕ = length before + length commands in
      let some : 1 ≤ count = omega (arith, ack.some) in
      let most : count ≤ length done = omega (arith, ap length parts, length-append before (commands ++ others), length-append commands others) in
      let here : List Command = before ++ commands in
      let number : length here ≡ count = length-append before commands in
      let moment : stands.time (length here) ≡ stands.time count = ap stands.time number in
      let front = front_done g store_form failed start done cut disk disk_n stands here (others ++ cut) (all ∙ sym (append_assoc before commands (others ++ cut))) in
      let stay = done_stay g store_form failed start done cut disk disk_n stands whether in
      record {
        behind = behind;
        entry = is.0;
        held = is.1;
        whole = is.2;
        replies = ack.replies;
        since = stands.time (length here);
        since_is = refl;
        no_sooner = front.0;
        exactly = front.1;
        in_run = told_weaker (g.content disk) _ _ (λ octets told by.
            omega (arith, moment, by.1, rises_all store_form (done ++ cut) stands.time stands.paces.rises count (length done) most (omega (arith, length-append done cut)))) stay;
        stands = told_weaker (g.content disk) _ _ (λ octets told by image left. ack.stands (others ++ cut) count (length (done ++ cut)) image allowed (omega arith)
            (subst (λ (cs : List Command). MakesBetween count (length (done ++ cut)) start cs image) all (by.0 count some most image (subst (λ (t : ℕ). g.images_since disk_n t image) moment left)))) stay;
      }

-- ---- a session

-- Behind these packets and these commands the session receives a file, all octets of which came, and the row of DATA_END
-- has the next commands.
record Found (caller : CallSign) (start : Session) (said : List PacketValue) (commands : List Command) : Type 0 where
  pub file : FileEnd
  pub caller_is : file.caller ≡ caller
  pub events : List Event
  pub runs : RunsOver caller start events said file.before (session_over file.store file.lists (receiving file.number file.rest))
  pub good : IsAllGood file.store file.number file.rest
  pub others : List Command
  pub commands_are : commands ≡ file.before ++ ((row_of_end file).commands ++ others)

abbrev after_row : Session → Row → State → Session
after_row now row state = session_over (after_all now.store row.commands) row.lists state

none-before : (before later : List PacketValue) → ul_ack_resp ∷ [] ≡ before ++ ul_ack_resp ∷ later → before ≡ []
none-before [] later is = refl
none-before (packet ∷ before) later is = absurd (true≢false (sym (acks-at before later) ∙ ap acks (let e : before ++ ul_ack_resp ∷ later ≡ [] = cc in e)))

module _ (caller : CallSign) where
  -- by the row of the next event
  found-here : (now : Session) (event : Event) (row : Row) (others : List Command) (before later : List PacketValue) → event_row caller now.store now.lists now.state event ≡ row
      → row.replies ≡ before ++ ul_ack_resp ∷ later → Found caller now before (row.commands ++ others)
  found-here now event row others before later is replies =
      let fails : Bool = read_fails event.failures 0 in
      let of : State → Item → Bool → Row = λ state item read. session_row caller event.moment now.store now.lists state item read in
      let a = row-acks caller event.moment now.store now.lists now.state event.packet fails (ap (λ (r : Row). acks r.replies) is ∙ ap acks replies ∙ acks-at before later) in
      let same : row ≡ of (receiving a.number a.rest) (Ok data_end) false =
      sym is ∙ ap (λ (s : State). of s event.packet fails) a.state_is ∙ ap (λ (i : Item). of (receiving a.number a.rest) i fails) a.item_is ∙ ap (of (receiving a.number a.rest) (Ok data_end)) a.read in
      subst (λ (said : List PacketValue). Found caller now said (row.commands ++ others)) (sym (none-before before later (sym a.only ∙ ap (λ (r : Row). r.replies) is ∙ replies)))
      (record {
        file = record { caller = caller; before = []; store = now.store; lists = now.lists; moment = event.moment; number = a.number; rest = a.rest };
        caller_is = refl;
        events = [];
        runs = (refl, refl, refl, refl, sym a.state_is);
        good = a.good;
        others = others;
        commands_are = ap (λ (r : Row). r.commands ++ others) same;
      })

  -- by that of one of several
  found : (start : Session) (events : List Event) (said : List PacketValue) (commands : List Command) (now : Session) → RunsOver caller start events said commands now
      → (before later : List PacketValue) → said ≡ before ++ ul_ack_resp ∷ later → Found caller start before commands
  found start [] said commands now h before later is = absurd (true≢false (sym (acks-at before later) ∙ ap acks (sym is ∙ h.0)))
  found start (event ∷ events) said commands now h before later is =
      ⊎_elim (λ (here : (m : List PacketValue) × (h.0.replies ≡ before ++ ul_ack_resp ∷ m)). subst (Found caller start before) (sym h.8) (found-here start event h.0 h.4 before here.0 h.5 here.1))
      (λ (on : (m : List PacketValue) × (before ≡ h.0.replies ++ m) × (h.1 ++ h.3 ≡ m ++ ul_ack_resp ∷ later)). ⊎_elim
      (λ (due : (m : List PacketValue) × (h.1 ≡ on.0 ++ ul_ack_resp ∷ m)). absurd (true≢false (sym (acks-at on.0 due.0) ∙ ap acks (sym due.1) ∙ sends-acks (after_all start.store h.0.commands) h.0.state event.failures 1 h.1 h.2 h.6)))
      (λ (next : (m : List PacketValue) × (on.0 ≡ h.1 ++ m) × (h.3 ≡ m ++ ul_ack_resp ∷ later)).
      let f = found (after_row start h.0 h.2) events h.3 h.4 now h.9 next.0 later next.2 in
      record {
        file = record f.file { before = h.0.commands ++ f.file.before };
        caller_is = f.caller_is;
        events = event ∷ f.events;
        runs = (h.0, h.1, h.2, next.0, f.file.before, h.5, h.6, on.1 ∙ ap (λ (l : List PacketValue). h.0.replies ++ l) next.1, refl, f.runs);
        good = f.good;
        others = f.others;
        commands_are = h.8 ∙ ap (λ (cs : List Command). h.0.commands ++ cs) f.commands_are ∙ sym (append_assoc h.0.commands f.file.before ((row_of_end f.file).commands ++ f.others));
      })
      (split h.1 h.3 on.0 later ul_ack_resp on.2))
      (split h.0.replies (h.1 ++ h.3) before later ul_ack_resp (sym h.7 ∙ is))

  -- more commands behind, and other events before
  found-more : (start : Session) (said : List PacketValue) (commands more : List Command) → Found caller start said commands → Found caller start said (commands ++ more)
  found-more start said commands more f =
      record {
        file = f.file;
        caller_is = f.caller_is;
        events = f.events;
        runs = f.runs;
        good = f.good;
        others = f.others ++ more;
        commands_are =
            ap (λ (cs : List Command). cs ++ more) f.commands_are ∙ append_assoc f.file.before ((row_of_end f.file).commands ++ f.others) more
            ∙ ap (λ (cs : List Command). f.file.before ++ cs) (append_assoc (row_of_end f.file).commands f.others more);
      }

  found-behind : (start mid : Session) (events : List Event) (said more : List PacketValue) (done commands : List Command) → RunsOver caller start events said done mid → Found caller mid more commands
      → Found caller start (said ++ more) (done ++ commands)
  found-behind start mid events said more done commands runs f =
      record {
        file = record f.file { before = done ++ f.file.before };
        caller_is = f.caller_is;
        events = events ++ f.events;
        runs = runs-trans caller _ _ _ events said done _ _ _ f.events more f.file.before _ _ _ runs f.runs;
        good = f.good;
        others = f.others;
        commands_are = ap (λ (cs : List Command). done ++ cs) f.commands_are ∙ sym (append_assoc done f.file.before ((row_of_end f.file).commands ++ f.others));
      }

-- It said these packets behind this text, or a front of that, and for each UL_ACK_RESP a file is found.
record Says (caller : CallSign) (start : Session) (done : List Command) (first text : List ℕ) : Type 0 where
  pub said : List PacketValue
  pub front : IsFront text (first ++ texts said)
  pub each : (before later : List PacketValue) → said ≡ before ++ ul_ack_resp ∷ later → Found caller start before done

module _ (caller : CallSign) (start : Session) (first : List ℕ) where
  says-all : (events : List Heard) (all : Made) (now : Session) → RunsAs caller start events all now → Says caller start all.done first (first ++ all.text)
  says-all events all now h = record { said = h.said; front = ([], ap (λ (t : List ℕ). first ++ t) (sym h.text_is) ∙ sym (append-nil (first ++ all.text))); each = found caller start h.met h.said all.done now h.runs }

  -- behind all that was said to earlier events these packets were said, or a front of them
  says-last : (events : List Heard) (earlier last : Made) (mid : Session) (sent : List PacketValue) → RunsAs caller start events earlier mid → IsFront last.text (texts sent)
      → ((before later : List PacketValue) → sent ≡ before ++ ul_ack_resp ∷ later → Found caller mid before last.done)
      → Says caller start (earlier.done ++ last.done) first (first ++ (earlier.text ++ last.text))
  says-last events earlier last mid sent h front found-last = record {
    said = h.said ++ sent;
    front = (
      front.0,
      ap (λ (t : List ℕ). first ++ t) (texts-append h.said sent ∙ ap (λ (t : List ℕ). t ++ texts sent) (sym h.text_is) ∙ ap (λ (t : List ℕ). earlier.text ++ t) front.1 ∙ sym (append_assoc earlier.text last.text front.0))
          ∙ sym (append_assoc first (earlier.text ++ last.text) front.0),
    );
    each = λ before later is.
        ⊎_elim (λ (one : (m : List PacketValue) × (h.said ≡ before ++ ul_ack_resp ∷ m)). found-more caller start before earlier.done last.done (found caller start h.met h.said earlier.done mid h.runs before one.0 one.1))
        (λ (other : (m : List PacketValue) × (before ≡ h.said ++ m) × (sent ≡ m ++ ul_ack_resp ∷ later)).
        subst (λ (said : List PacketValue). Found caller start said (earlier.done ++ last.done)) (sym other.1)
        (found-behind caller start mid h.met h.said other.0 earlier.done last.done h.runs (found-last other.0 later other.2)))
        (split h.said sent before later ul_ack_resp is);
  }

  -- none of these is UL_ACK_RESP
  no-ack : (mid : Session) (sent : List PacketValue) (done : List Command) → acks sent ≡ false → (before later : List PacketValue) → sent ≡ before ++ ul_ack_resp ∷ later → Found caller mid before done
  no-ack mid sent done none before later is = absurd (true≢false (sym (acks-at before later) ∙ ap acks (sym is) ∙ none))

  said-front : (unsaid : Bool) (reply text : List ℕ) → IsSaid unsaid reply text → IsFront text reply
  said-front false reply text said = ([], sym said ∙ sym (append-nil text))
  said-front true reply text said = said

  fault-acks : (state : State) → acks (fault_reply state ∷ []) ≡ false
  fault-acks state = grind (arith, common_steps)

  says-stopped : (why : NodeStop) (unsaid : Bool) (events : List Heard) (next : Heard) (earlier last : Made) (mid : Session) (cut : List Command) → RunsAs caller start events earlier mid
      → StopsAs caller why unsaid mid next last cut → Says caller start (earlier.done ++ last.done) first (first ++ (earlier.text ++ last.text))
  says-stopped stop.AirWrite unsaid events next earlier last mid cut h stops =
      let row : Row = event_row caller mid.store mid.lists mid.state stops.met in
      let at = stops.stops in says-last events earlier last mid (row.replies ++ at.0) h at.3
      (λ before later is. ⊎_elim
      (λ (here : (m : List PacketValue) × (row.replies ≡ before ++ ul_ack_resp ∷ m)).
      subst (Found caller mid before) (append-nil row.commands ∙ sym at.4) (found-here caller mid stops.met row [] before here.0 refl here.1))
      (λ (due : (m : List PacketValue) × (before ≡ row.replies ++ m) × (at.0 ≡ m ++ ul_ack_resp ∷ later)).
      absurd (true≢false (sym (acks-at due.0 later) ∙ ap acks (sym due.2) ∙ some-acks (after_all mid.store row.commands) row.state stops.met.failures 1 at.0 at.1)))
      (split row.replies at.0 before later ul_ack_resp is))
  says-stopped stop.Disk unsaid events next earlier last mid cut h stops =
      says-last events earlier last mid (fault_reply mid.state ∷ []) h (said-front unsaid _ last.text stops.stops.0) (no-ack mid _ last.done (fault-acks mid.state))
  says-stopped stop.OutOfMemory unsaid events next earlier last mid cut h stops = absurd stops.stops
  says-stopped stop.AirRead unsaid events next earlier last mid cut h stops = absurd stops.stops
  says-stopped stop.Spent unsaid events next earlier last mid cut h stops = absurd stops.stops
  says-stopped (stop.NotAStore found) unsaid events next earlier last mid cut h stops = absurd stops.stops
  says-stopped (stop.Damaged at) unsaid events next earlier last mid cut h stops = absurd stops.stops

  says-behind : (why : NodeStop) (unsaid : Bool) (least events : List Heard) (replies : List ℕ) (done : List Command) (missed : ℕ) (cut : List Command)
      → StopsBehind least (session_steps caller) start events why unsaid (made replies done missed) cut → Says caller start done first (first ++ replies)
  says-behind why unsaid least events replies done missed cut behind =
      let h = behind.stops in
      let P : Made → Type 0 = λ all. Says caller start all.done first (first ++ all.text) in
      subst P (sym h.all_is) (says-stopped why unsaid h.before h.next h.earlier h.last h.then_is cut h.goes h.stops)

  says-over : (ended : Result Served NodeStop) (least events : List Heard) (unsaid : Bool) (replies : List ℕ) (done : List Command) (missed : ℕ) (cut : List Command)
      → EndsOver ended least (session_steps caller) start events unsaid (made replies done missed) cut → Says caller start done first (first ++ replies)
  says-over (Ok served) least events unsaid replies done missed cut h = says-all events (made replies done missed) h.0 h.1
  says-over (Err stop.AirRead) least events unsaid replies done missed cut h = says-all events (made replies done missed) h.0 h.1
  says-over (Err stop.Spent) least events unsaid replies done missed cut h = says-all events (made replies done missed) h.0 h.1
  says-over (Err stop.AirWrite) least events unsaid replies done missed cut h = says-behind stop.AirWrite unsaid least events replies done missed cut h
  says-over (Err stop.Disk) least events unsaid replies done missed cut h = says-behind stop.Disk unsaid least events replies done missed cut h
  says-over (Err stop.OutOfMemory) least events unsaid replies done missed cut h = absurd h
  says-over (Err (stop.NotAStore found)) least events unsaid replies done missed cut h = absurd h
  says-over (Err (stop.Damaged at)) least events unsaid replies done missed cut h = absurd h

says : (known : Type 0) → known → (terms : SessionTerms) (start : Store) (run : Run) (ended : Result Served NodeStop) → SessionRan known terms start run ended
    → Says terms.caller (first_session start) run.all.done (login_text (slice_index run.moments 0)) run.all.text
says known is_known terms start run ended ran =
    let first : List ℕ = login_text (slice_index run.moments 0) in
    let caller : CallSign = terms.caller in
    ⊎_elim (λ (none : IsUngreeted (slice_index run.moments 0) run ended). record {
      said = [];
      front = (none.front.0, append-nil first ∙ none.front.1);
      each = no-ack caller (first_session start) first (first_session start) [] run.all.done refl;
    })
    (λ (greeted : IsGreeted known terms start run ran.events ended).
    subst (Says caller (first_session start) run.all.done first) (sym greeted.text_is)
    (says-over caller (first_session start) first ended greeted.least ran.events run.unsaid greeted.replies run.all.done run.all.missed run.cut (greeted.ends_over is_known))) ran.said

pub session_acknowledges : {D A C : Type 0} (seen : Seen D A C) → AcknowledgedStandsLaw → SessionAcknowledgesLaw seen
session_acknowledges {D} {A} {C} seen law old new terms ended ends =
    ⊎_elim (λ (none : IsUnrecovered seen terms.limits.blocks old new ended). inl none.air)
    (λ (served : IsSessionServed seen old new terms ended).
    inr (record {
      ended = ended;
      served = served;
      says = λ known.
          let h = says (IsKnown seen.disk old.disk) known terms served.start served.run ended served.ran in
          record {
            said = h.said;
            front = h.front;
            each = λ before later is.
                let f = h.each before later is in (
                  f.file,
                  record { caller_is = f.caller_is; events = f.events; runs = f.runs },
                  acknowledged seen.disk law _ (by_disk ended) served.start served.run.all.done served.run.cut old.disk new.disk known (served.stands known) f.file (behind terms.caller served.start f) f.good f.others f.commands_are,
                );
          };
    })) ends
  where
    behind : (caller : CallSign) (start : Store) {said : List PacketValue} {done : List Command} (f : Found caller (first_session start) said done) → f.file.store ≡ after_all start f.file.before
    behind caller start f = runs.store caller start [] command f.events _ f.file.before f.file.store f.file.lists _ f.runs

-- ---- a server

filling-done : (more : ℕ) (store : Store) (failures : List Failure) (progress : Progress) → (queuing more store failures progress).done ≡ progress.done
filling-done zero store failures progress = refl
filling-done (suc more) store failures progress = grind (arith, common_steps, filling-done more store failures)

queued-done : (store : Store) (failures : List Failure) (progress : Progress) → (queued store failures progress).done ≡ progress.done
queued-done store failures progress = grind (arith, common_steps, filling-done)

module _ (server : Server) (event : NodeEvent) (failures : List Failure) (taken : TakesPacket server event failures) where
  abbrev c : Connected
  c = taken.c

  abbrev progress : Progress
  progress = taken_first server taken.frame taken.moment failures c taken.items

  -- what the event does is what the packets of its frame do
  taking-done : (happening server event failures).done ≡ (taken_first server taken.frame taken.moment failures c (taken.items ++ taken.packet ∷ taken.others)).done
  taking-done =
      let all : Progress = parts_of_frame server.window taken.moment server.store server.lists c taken.frame failures in
      ap (λ (e : NodeEvent). (happening server e failures).done) taken.is_event ∙ ap (λ (o : Option ℕ). (hearing_by server taken.frame taken.moment failures o).done) taken.is_place
      ∙ ap (λ (o : Option Slot). (hearing_at server taken.frame taken.moment failures taken.place o).done) taken.is_there ∙ queued-done server.store failures all
      ∙ ap (λ (h : HeardKind). (parts_as h taken.moment server.store server.lists c (after_frame server.window c.end taken.frame) taken.frame.kind.information failures).done) taken.is_next
      ∙ ap (λ (items : List Item). (taken_first server taken.frame taken.moment failures c items).done) taken.packets_are

  taking-up_to : TakingLaw → TakesUpTo progress.done taken.row.commands (happening server event failures).done
  taking-up_to law =
      let up = law (caller_of c) taken.moment (session_over server.store server.lists c.state) (after_frame server.window c.end taken.frame) taken.items taken.packet taken.others failures taken.goes taken.not_over taken.written in
      record { others = up.others; done_is = taking-done ∙ up.done_is ∙ ap (λ (r : Row). progress.done ++ (r.commands ++ up.others)) taken.row_is }

-- It took the first of these events, and met each of them.
record Took (server : Server) (events least : List NodeEvent) (done : List Command) : Type 0 where
  pub taken : List NodeEvent
  pub others : List NodeEvent
  pub in_order : events ≡ taken ++ others
  pub whole : (others ≡ []) ⊎ ((between : List NodeEvent) × (taken ≡ least ++ between))
  pub met : (earlier : List NodeEvent) (event : NodeEvent) (later : List NodeEvent) → taken ≡ earlier ++ event ∷ later
      → (meets : MeetsEvent server events done) × (meets.earlier ≡ earlier) × (meets.event ≡ event)

-- one event among others is the only one
only-one : (next event : NodeEvent) (before later : List NodeEvent) → next ∷ [] ≡ before ++ event ∷ later → (before ≡ []) × (next ≡ event)
only-one next event [] later is = (refl, cc)
only-one next event (one ∷ []) later is = absurd (let e : [] ≡ event ∷ later = cc in cc)
only-one next event (one ∷ (two ∷ before)) later is = absurd (let e : [] ≡ two ∷ (before ++ event ∷ later) = cc in cc)

module _ (server : Server) (events least : List NodeEvent) where
  -- events that were served over are met, whatever is behind them
  met-over : (taken behind : List NodeEvent) (frames : List FrameValue) (first more : List Command) (missed : ℕ) (now : Server) → events ≡ taken ++ behind → ServesOver server taken frames first missed now
      → (earlier : List NodeEvent) (event : NodeEvent) (later : List NodeEvent) → taken ≡ earlier ++ event ∷ later → (meets : MeetsEvent server events (first ++ more)) × (meets.earlier ≡ earlier) × (meets.event ≡ event)
  met-over taken behind frames first more missed now in_order h earlier event later is =
      let P : List NodeEvent → Type 0 = λ es. ServesOver server es frames first missed now in
      let m = serves.comes_to server earlier event later frames first missed now (subst P is h) in
      let here : List Command = (happening m.server_then event (failed_reads m.parts)).done in (
        record {
          earlier = earlier;
          event = event;
          later = later ++ behind;
          in_order = in_order ∙ ap (λ (es : List NodeEvent). es ++ behind) is ∙ append_assoc earlier (event ∷ later) behind;
          frames = m.frames;
          before = m.before;
          missed = m.missed;
          now = m.server_then;
          serves = m.serves;
          failures = failed_reads m.parts;
          others = m.others ++ more;
          done_are =
              ap (λ (cs : List Command). cs ++ more) m.commands_are ∙ append_assoc m.before (here ++ m.others) more ∙ ap (λ (cs : List Command). m.before ++ cs) (append_assoc here m.others more);
        },
        refl,
        refl,
      )

  took-all : (frames : List FrameValue) (done : List Command) (missed : ℕ) (now : Server) → ServesOver server events frames done missed now → Took server events least done
  took-all frames done missed now h = record {
    taken = events;
    others = [];
    in_order = sym (append-nil events);
    whole = inl refl;
    met = λ earlier event later is.
        let P : List Command → Type 0 = λ cs. (meets : MeetsEvent server events cs) × (meets.earlier ≡ earlier) × (meets.event ≡ event) in
        subst P (append-nil done) (met-over events [] frames done [] missed now (sym (append-nil events)) h earlier event later is);
  }

  module _ (unsaid : Bool) (all : Made) (cut : List Command) where
    -- a stop at an event with these failures
    took-up_to : (why : NodeStop) (h : StopsBehind least server_steps server events why unsaid all cut) (failures : List Failure) → h.stops.last.done ≡ (happening h.stops.then_is h.stops.next failures).done → Took server events least all.done
    took-up_to why h failures done_is =
        let s = h.stops in
        let first : List Command = s.earlier.done in
        let last : List Command = s.last.done in
        let done : all.done ≡ first ++ last = ap (λ (m : Made). m.done) s.all_is in
        let order : events ≡ (s.before ++ s.next ∷ []) ++ s.later = s.events_are ∙ sym (append_assoc s.before (s.next ∷ []) s.later) in
        record {
          taken = s.before ++ s.next ∷ [];
          others = s.later;
          in_order = order;
          whole = inr (h.between ++ s.next ∷ [], ap (λ (es : List NodeEvent). es ++ s.next ∷ []) h.in_order ∙ append_assoc least h.between (s.next ∷ []));
          met = λ earlier event later is.
              let P : List Command → Type 0 = λ cs. (meets : MeetsEvent server events cs) × (meets.earlier ≡ earlier) × (meets.event ≡ event) in
              subst P (sym done)
              (⊎_elim (λ (one : (m : List NodeEvent) × (s.before ≡ earlier ++ event ∷ m)). met-over s.before (s.next ∷ s.later) s.goes.frames first last s.earlier.missed s.then_is s.events_are s.goes.serves earlier event one.0 one.1)
              (λ (other : (m : List NodeEvent) × (earlier ≡ s.before ++ m) × (s.next ∷ [] ≡ m ++ event ∷ later)).
              let at = only-one s.next event other.0 later other.2 in (
                record {
                  earlier = s.before;
                  event = s.next;
                  later = s.later;
                  in_order = s.events_are;
                  frames = s.goes.frames;
                  before = first;
                  missed = s.earlier.missed;
                  now = s.then_is;
                  serves = s.goes.serves;
                  failures = failures;
                  others = [];
                  done_are = ap (λ (cs : List Command). first ++ cs) (done_is ∙ sym (append-nil _));
                },
                sym (append-nil s.before) ∙ ap (λ (es : List NodeEvent). s.before ++ es) (sym at.0) ∙ sym other.1,
                at.1,
              ))
              (split s.before (s.next ∷ []) earlier later event is));
        }

    took : (ended : Result Served NodeStop) → EndsOver ended least server_steps server events unsaid all cut → Took server events least all.done
    took (Ok served) h = took-all h.1.frames all.done all.missed h.0 h.1.serves
    took (Err stop.AirRead) h = took-all h.1.frames all.done all.missed h.0 h.1.serves
    took (Err stop.Spent) h = took-all h.1.frames all.done all.missed h.0 h.1.serves
    took (Err stop.AirWrite) h = let at = h.stops.stops in took-up_to stop.AirWrite h (failed_reads at.2.parts) at.2.step.done_is
    took (Err stop.Disk) h = let at = h.stops.stops in took-up_to stop.Disk h (failed_write at.0 ++ failed_reads at.1) at.4.done_is
    took (Err stop.OutOfMemory) h = absurd h
    took (Err (stop.NotAStore found)) h = absurd h
    took (Err (stop.Damaged at)) h = absurd h

pub server_acknowledges : {D A C : Type 0} (seen : Seen D A C) → AcknowledgedStandsLaw → TakingLaw → ServerAcknowledgesLaw seen
server_acknowledges {D} {A} {C} seen law taking old new terms ended ends =
    ⊎_elim (λ (none : IsUnrecovered seen terms.limits.blocks old new ended). inl none.air)
    (λ (served : IsServerServed seen old new terms ended). inr (record { ended = ended; served = served; takes = λ known. takes_so served known })) ends
  where
    regroup : (before front row others more : List Command) → before ++ ((front ++ (row ++ others)) ++ more) ≡ (before ++ front) ++ (row ++ (others ++ more))
    regroup before front row others more = simp append_assoc

    takes_so : (served : IsServerServed seen old new terms ended) (known : IsKnown seen.disk old.disk) → ServerTakes seen old new terms ended served known
    takes_so served known =
        let t = took (server_from terms served.start) served.ran.events served.ran.least served.run.unsaid served.run.all served.run.cut ended (served.ran.ends_over known) in
        record {
          taken = t.taken;
          others = t.others;
          in_order = t.in_order;
          whole = t.whole;
          met = t.met;
          each = λ meets taken before later is.
              let done : Progress = progress meets.now meets.event meets.failures taken in
              let store : Store = after_all meets.now.store done.done in
              let fails : Bool = read_fails meets.failures (length taken.items) in
              let of : State → Item → Bool → Row = λ state item b. session_row (caller_of taken.c) taken.moment store done.lists state item b in
              let a =
              row-acks (caller_of taken.c) taken.moment store done.lists done.state taken.packet fails (ap (λ (r : Row). acks r.replies) taken.row_is ∙ ap acks is ∙ acks-at before later) in
              let same : taken.row ≡ of (receiving a.number a.rest) (Ok data_end) false =
              sym taken.row_is ∙ ap (λ (s : State). of s taken.packet fails) a.state_is ∙ ap (λ (i : Item). of (receiving a.number a.rest) i fails) a.item_is ∙ ap (of (receiving a.number a.rest) (Ok data_end)) a.read in
              let up = taking-up_to meets.now meets.event meets.failures taken taking in
              let file : FileEnd = record { caller = caller_of taken.c; before = meets.before ++ done.done; store = store; lists = done.lists; moment = taken.moment; number = a.number; rest = a.rest } in (
                file,
                record { caller_is = refl; moment_is = refl; receives = a.state_is; before_is = refl },
                acknowledged seen.disk law _ (by_disk ended) served.start served.run.all.done served.run.cut old.disk new.disk known (served.stands known) file
                    (ap (λ (s : Store). after_all s done.done) (serves.store _ meets.earlier meets.frames meets.before meets.missed meets.now meets.serves) ∙ sym (after_all-append meets.before done.done served.start)) a.good
                    (up.others ++ meets.others)
                    (meets.done_are ∙ ap (λ (cs : List Command). meets.before ++ (cs ++ meets.others)) up.done_is ∙ regroup meets.before done.done _ up.others meets.others
                    ∙ ap (λ (r : Row). (meets.before ++ done.done) ++ (r.commands ++ (up.others ++ meets.others))) same),
              );
        }
