-- The course of a session's server: that it is lawful, what the server owes by what it hears, and what it gives.
use Rattle.std.proofs.Common.{◌≡◌, inl, inr, ℕ, Bool, false, None, List, [], ◌++◌, refl, ap, sym, ◌∙◌, subst, append_assoc, append-nil, ◌⊎◌, ◌==◌, ◌<◌, ◌∷◌, length, true, true≢false, Option, Some, arith, take, map, Result, Ok, Err, IsTrue, if◌then◌else◌}
use Rattle.ftl0_session.specs.Answering.{IsAnswering, met_with, octets_left}
use Rattle.ftl0_session.specs.Downloads.Sending.{due_packet, is_due}
use Rattle.ftl0_session.specs.Table.{fault_reply, next_due, Row, State, download_part, failed_reads_told, in_session, tells_failed_read}
use Rattle.server_node.proofs.Names.{Answers, AtDisk, AwaitsInput, CallSign, Command, CutsOffAmongReads, DiskFault, DoesAmongReads, Event, FailsBy, GaveAll, Ghosts, GivesNext, GoesOver, Halt, HaltsOver, Input, IsAnswered, IsFront, IsHalting, IsInput, IsKnown, IsLawful, IsOctets, IsOctets-nil, IsOctets-take, IsPartial, IsReady, IsRowOf, IsSaid, IsServer, IsStopped, IsUnderWay, IsUnsaidFirst, Item, MetEvent, NodeStop, NoneDue, Owes, OwesAll, PacketText, PacketValue, RunsOn, RunsOver, RunsTo, ServerState, Service, Session, StopsAt, StopsOn, StopsTo, Store, StoreState, Stream, TakesAtMostOne, TakesPacket, Working, add-zero, after_all, among-at, among-same, among-store, among-then, answer-all, answer-first, answer-more, answer-some, are-octets, at, at_moment, common_steps, cuts-among-none, events_behind, events_to, heard_of, is_whole, known_on, made, map-append, most_left, nil_from_length, nothing_partial, octets_at, octets_in, octets_in-at, one_if, packet_of, puts-among-reads, puts-among-then, row-first, row_over, runs-trans, server_state, session_course, session_in, session_service, session_steps, stop_at_put, stop_of, store_in, store_on, texts-append, tick, under-way-whole, under_way, waiting_behind, with_part, ⊤}
use Rattle.server_node.proofs.sessions.PacketLemmas.{both-octets, events-append, events-then, hears-none, hears-then, events-of}
use Rattle.server_node.proofs.Ending.{append-none}
use Rattle.server_node.proofs.StepsLemmas.{AreSteps, does-none, puts-answered, puts-still, runs-then, stays, stop-one, stops-more, stops-then}
use Rattle.std.proofs.lemmas.Bool.Decides.{nat_tests}
use Rattle.ftl0_packets.specs.Items.{texts}
use Rattle.ftl0_session.specs.Downloads.Needs.{IsDueIn}
use Rattle.ftl0_session.specs.Filling.{PutsDue}
use Rattle.ftl0_session.specs.Downloads.Filling.{filled as filled_with}
use Rattle.ftl0_session.proofs.WorkingLemmas.{Sent, due-among, told-append, taken-among, taken-cut}
use Rattle.server_node.specs.declared.sessions.server.SessionServer.TheInside.{Inside}
use Rattle.std.specs.Option.{option_map}
use Rattle.disk_model.specs.declared.halt.Halt.TheVariants as halt
use Rattle.turn_loop.specs.declared.stop.NodeStop.TheVariants as stop

-- a session goes over its events one after another
pub are_steps : (caller : CallSign) → AreSteps (session_steps caller)
are_steps caller = grind (arith, common_steps, map-append, runs-trans, texts-append, told-append)

-- ---- texts

-- a front of a text's end, behind the rest of it
front-behind : (said text front all : List ℕ) → IsFront front text → said ++ text ≡ all → IsFront (said ++ front) all
front-behind said text front all h is = grind (arith, common_steps, append_assoc)

-- no items are none
pub is-nil : {X : Type 0} (xs : List X) → (length xs == 0) ≡ true → xs ≡ []
is-nil xs e = nil_from_length xs (grind (arith, nat_tests))

pub not-nil : {X : Type 0} (xs : List X) → (length xs == 0) ≡ false → xs ≡ [] → ⊥
not-nil xs some none = grind (arith, common_steps)

pub not-empty : (xs : List ℕ) → 0 < length xs → xs ≡ [] → ⊥
not-empty xs some none = omega (arith, some, ap (λ (l : List ℕ). length l) none)

-- what is due leaves less
pub less-left : (a : ServerState) (state : State) → octets_left (store_in a.store) (download_part state) < octets_left (store_in a.store) (download_part a.state)
    → most_left (record a { state = state }) < most_left a
less-left a state fewer = omega (arith, fewer)

-- nothing is due, over whatever store
none-next : (store : Store) (state : State) (fails : Bool) → NoneDue state → next_due store state fails ≡ None
none-next store state fails none = ap (λ (b : Bool). option_map in_session (if b then Some (due_packet store (download_part state) fails) else None)) none

-- ---- the course is lawful

module _ {D : Type 0} (g : Ghosts D) (lasts : (disk : D) → g.lasts disk disk) (on : (first second third : D) → g.lasts first second → g.lasts second third → g.lasts first third) where
  abbrev service : CallSign → Service ServerState Session Event D
  service caller = session_service g caller

  -- These inputs bring no packet.
  none-taken : (a : ServerState) (disk : D) (inputs : List Input) (octets : List ℕ) → IsReady g a.store disk → a.halted ≡ false → NoneDue a.state → IsOctets (octets_in inputs) → events_to a inputs ≡ []
      → octets ≡ waiting_behind a.octets inputs → Owes g (at a disk) inputs None [] (at (record a { octets = octets }) disk)
  none-taken a disk inputs octets up going none_due are none waits = record {
    hears = record { caller = refl; are_octets = are; waits = waits };
    goes_on = going;
    ready = up;
    replies = [];
    text_is = sym (append-nil a.replies);
    one = rw none (refl, none_due);
    puts = puts-still g disk (lasts disk);
    answers = λ known. record { said = []; replies_are = refl; commands = []; answered = rw none (refl, refl, refl, refl); does = does-none g a.store disk up (lasts disk) };
  }

  -- before the first input, whatever it has to say
  pub owes-first : (a : AtDisk ServerState D) → IsReady g a.it.store a.disk → a.it.halted ≡ false → NoneDue a.it.state → Owes g a [] None [] a
  owes-first a up going none_due = none-taken a.it a.disk [] a.it.octets up going none_due IsOctets-nil refl refl

  -- a tick brings no packet
  pub owes-tick : (moment : ℕ) (a : AtDisk ServerState D) → AwaitsInput g a → Owes g a (tick moment ∷ []) None [] a
  owes-tick moment a fit = none-taken a.it a.disk (tick moment ∷ []) a.it.octets fit.up fit.goes_on fit.none_due IsOctets-nil refl refl

  -- the text of both
  text-then : {a b : AtDisk ServerState D} {xs : List Input} {text : List ℕ} (more : List ℕ) (h : GoesOver g a xs text b) (replies : List ℕ) → more ≡ b.it.replies ++ replies → text ++ more ≡ a.it.replies ++ (h.replies ++ replies)
  text-then more h replies is = grind (arith, common_steps, append_assoc)

  pub lawful : IsLawful (session_course g) IsInput
  lawful = record {
    owes_none = λ a ready. owes-first a ready.up ready.goes_on ready.none_due;
    goes_none = λ a ready. record {
      hears = hears-none a.it;
      silent = ready.silent;
      replies = [];
      text_is = sym (append-nil a.it.replies ∙ ready.silent);
      runs = stays (service a.it.caller) (are_steps a.it.caller) a ready.up (lasts a.disk);
    };
    goes_on = λ a b c xs ys text more h k. record {
      hears = hears-then a.it b.it xs h.hears c.it ys k.hears;
      silent = k.silent;
      replies = h.replies ++ k.replies;
      text_is = text-then more h k.replies k.text_is;
      runs = rw (events-then a.it b.it xs h.hears ys)
          (runs-then (service a.it.caller) (are_steps a.it.caller) on a b c (events_to a.it xs) (events_to b.it ys) h.replies k.replies h.runs
          (subst (λ (caller : CallSign). RunsOn (service caller) b c (events_to b.it ys) k.replies) h.hears.caller k.runs));
    };
    halts_behind = λ a b c xs ys text more why unsaid h k. record {
      are_octets = both-octets xs ys h.hears.are_octets k.are_octets;
      stops =
          elim k.stops [
            | inl first ↦ absurd (first.some h.silent)
            | inr stopped ↦ inr (record {
              some = λ none. stopped.some (append-none (events_to a.it xs) (events_to b.it ys) (sym (events-then a.it b.it xs h.hears ys) ∙ none)).1;
              replies = h.replies ++ stopped.replies;
              text_is = text-then more h stopped.replies stopped.text_is;
              stops = rw (events-then a.it b.it xs h.hears ys)
                  (stops-then (service a.it.caller) (are_steps a.it.caller) on a b c (events_to a.it xs) (events_to b.it ys) h.replies stopped.replies h.runs why unsaid
                  (subst (λ (caller : CallSign). StopsOn (service caller) b c (events_to b.it ys) why unsaid stopped.replies) h.hears.caller stopped.stops));
            })
          ];
    };
    halts_before = λ a c xs ys text why unsaid inputs h. record {
      are_octets = both-octets xs ys h.are_octets (are-octets ys inputs);
      stops =
          elim h.stops [
            | inl first ↦ inl first
            | inr stopped ↦ inr (record {
              some = λ none. stopped.some (append-none (events_to a.it xs) (events_behind (waiting_behind a.it.octets xs) ys) (sym (events-append a.it.octets xs ys) ∙ none)).0;
              replies = stopped.replies;
              text_is = stopped.text_is;
              stops = rw (events-append a.it.octets xs ys)
                  (stops-more (service a.it.caller) (are_steps a.it.caller) a c (events_to a.it xs) (events_behind (waiting_behind a.it.octets xs) ys) why unsaid stopped.replies stopped.stops);
            })
          ];
    };
  }

-- ---- a server whose session was asked for what is due

-- its caller and its store stay
pub filled : (a : ServerState) (caller : CallSign) (store : StoreState) (state : State) → caller ≡ a.caller → store ≡ a.store
    → record a { caller = caller; store = store; state = state } ≡ record a { state = state }
filled a caller store state h k = grind (arith, common_steps)

pub server-filled : (a now : Inside) → now.store ≡ a.store → now.session.uploads ≡ a.session.uploads → IsDueIn (store_in now.store) now.session.downloads → now.lists ≡ a.lists → now.reader ≡ a.reader → IsServer a → IsServer now
server-filled a now h k due l r is = record { held = rw (h, k) is.held; only = rw (h, k) is.only; due = due; complete = rw (h, l) is.complete; waiting = rw r is.waiting }

-- ---- a stop at the one packet that was taken

module _ {D : Type 0} (g : Ghosts D) (old new : AtDisk ServerState D) (events : List Event) (event : Event) (only : events ≡ event ∷ []) (parts : List ℕ) (row : Row)
    (is_row : IsRowOf g old (met_with event parts) row) (why : NodeStop) (unsaid : Bool) (text : List ℕ) where
  stop-at : (done cut : List Command) (missed : ℕ) → StopsAt why unsaid (session_in g old) (met_with event parts) row (made text done missed) cut
      → CutsOffAmongReads g (FailsBy why) missed (at old.it.store old.disk) (at new.it.store new.disk) done cut → (session : Session) → session ≡ session_in g old → StopsTo (session_service g old.it.caller) session old new events why unsaid text
  stop-at done cut missed stops cuts session is = record {
    done = done;
    cut = cut;
    missed = missed;
    stops = rw (only, is) (stop-one (session_service g old.it.caller) (are_steps old.it.caller) why unsaid _ event _ cut (record { met = met_with event parts; heard = refl; stops = rw is_row stops }));
    cuts = cuts;
  }

module _ {D : Type 0} (g : Ghosts D) (lasts : (disk : D) → g.lasts disk disk) (start : AtDisk ServerState D) (inputs : List Input) (now : AtDisk ServerState D) where
  -- ---- it halts, and its last reply was said whole, or a put of it failed

  stops-so : (why : Halt) (text : List ℕ) → IsHalting g start inputs why text now → (unsaid : Bool) (said : List ℕ) → IsSaid unsaid (texts (fault_reply start.it.state ∷ [])) said
      → HaltsOver g start inputs (stop_of why) unsaid said now
  stops-so why text h unsaid said is_said = rw h.by (record {
    are_octets = h.are_octets;
    stops = inr (record {
      some = λ none. cc (h.only, none);
      replies = said;
      text_is = ap (λ (t : List ℕ). t ++ said) (sym h.silent);
      stops = record {
        puts = h.puts;
        memory = λ e. cc e;
        stops = λ known.
            let k = h.halts known in
            stop-at g start now (events_to start.it inputs) h.event h.only k.parts k.row k.is_row stop.Disk unsaid said [] k.row.commands (failed_reads_told k.row.replies) (is_said, refl, refl, refl) k.cuts;
      };
    });
  })

  -- ---- it goes on

  -- what was done, said otherwise
  does-as : (events : List Event) (replies : List ℕ) (an : Answers g start now events replies) (missed : ℕ) (commands : List Command) → failed_reads_told an.said ≡ missed → an.commands ≡ commands
      → DoesAmongReads g ⊥ missed start.it.store now.it.store start.disk now.disk commands
  does-as events replies an missed commands same these =
      among-same g ⊥ ⊥ (failed_reads_told an.said) missed start.it.store now.it.store start.disk now.disk commands (λ p. p) (λ p. p) same
      (among-at g ⊥ (failed_reads_told an.said) start.it.store now.it.store start.disk now.disk an.commands commands these an.does)

  -- the store that it came to
  files-then : IsKnown g start.disk → (events : List Event) (replies : List ℕ) (an : Answers g start now events replies)
      → store_on g now.it.store now.disk ≡ after_all (store_on g start.it.store start.disk) an.commands
  files-then known events replies an = among-store g (failed_reads_told an.said) start.it.store now.it.store start.disk now.disk an.commands known an.does

  -- a put failed, behind a front of this text
  module _ (said text front : List ℕ) (some : text ≡ [] → ⊥) (is_front : IsFront front text) where
    -- at the packet that was taken
    stopped-at : (event : Event) (others : List Event) → events_to start.it inputs ≡ event ∷ [] → (replies : List ℕ) → said ++ text ≡ replies → Answers g start now (event ∷ others) replies
        → (session : Session) → session ≡ session_in g start → StopsTo (session_service g start.it.caller) session start now (events_to start.it inputs) stop.AirWrite true (said ++ front)
    stopped-at event others is replies whole an =
        let answering : IsAnswering start.it.caller (session_in g start) event an.said an.commands now.it.lists now.it.state = an.answered in
        let row : Row = answering.row in
        let answer : List PacketValue = row.replies ++ answering.sent in
        let all : said ++ text ≡ texts answer = whole ∙ an.replies_are ∙ ap texts answering.said_is in
        stop-at g start now (events_to start.it inputs) event is answering.parts row answering.is_row stop.AirWrite true (said ++ front) row.commands [] (failed_reads_told answer)
        (answering.sent, answer-some start.it.caller (session_in g start) event an.said an.commands now.it.lists now.it.state answering, (λ none. some (append-none said text (all ∙ none)).1), front-behind said text front (texts answer) is_front all, refl, refl, refl)
        (cuts-among-none g ⊥ (failed_reads_told answer) (at start.it.store start.disk) (at now.it.store now.disk) row.commands (λ never. never) (lasts now.disk)
        (does-as (event ∷ others) replies an (failed_reads_told answer) row.commands (ap failed_reads_told answering.said_is) answering.commands_are))

    halts-cut : (why : Option Halt) → OwesAll g start inputs why (said ++ text) now → HaltsOver g start inputs (stop_at_put why) true (said ++ front) now
    halts-cut (Some why) h = stops-so why (said ++ text) h true (said ++ front) (front-behind said text front _ is_front h.text_is)
    halts-cut None h = record {
      are_octets = h.hears.are_octets;
      stops = by (events_to start.it inputs) refl h.one h.answers;
    }
      where
        by : (events : List Event) → events_to start.it inputs ≡ events → TakesAtMostOne start.it now.it events h.replies → (IsKnown g start.disk → Answers g start now events h.replies)
            → IsUnsaidFirst g start stop.AirWrite (said ++ front) now ⊎ IsStopped g start inputs stop.AirWrite true (said ++ front) now
        by [] is one answers =
            let first : said ++ text ≡ start.it.replies = h.text_is ∙ ap (λ (r : List ℕ). start.it.replies ++ r) one.0 ∙ append-nil start.it.replies in
            inl (record {
              some = λ empty. some (append-none said text (first ∙ empty)).1;
              front = front-behind said text front start.it.replies is_front first;
              why_is = refl;
              puts = h.puts;
              does = λ known. let an = answers known in does-as [] h.replies an 0 [] (ap failed_reads_told an.answered.0) an.answered.1;
            })
        by (event ∷ others) is one answers =
            let only : events_to start.it inputs ≡ event ∷ [] = is ∙ ap (λ (es : List Event). event ∷ es) one.0 in
            inr (record {
              some = λ none. cc (only, none);
              replies = said ++ front;
              text_is = ap (λ (t : List ℕ). t ++ (said ++ front)) (sym one.1);
              stops = record { puts = h.puts; memory = λ e. cc e; stops = λ known. stopped-at event others only h.replies (h.text_is ∙ ap (λ (t : List ℕ). t ++ h.replies) one.1) (answers known) };
            })

  -- all was given
  settled : (text : List ℕ) → now.it.replies ≡ [] → NoneDue now.it.state → IsUnderWay g start inputs text now → GoesOver g start inputs text now × AwaitsInput g now
  settled text silent none_due h = (
    record { hears = h.hears; silent = silent; replies = h.replies; text_is = h.text_is; runs = record { puts = h.puts; runs = λ known session is. rw is (by known (events_to start.it inputs) h.one (h.answers known)) } },
    record { up = h.ready; goes_on = h.goes_on; silent = silent; none_due = none_due },
  )
    where
      ran : (events : List Event) (an : Answers g start now events h.replies) (met : List MetEvent) → map heard_of met ≡ events
          → RunsOver start.it.caller (session_in g start) met an.said an.commands (session_in g now) → RunsTo (session_service g start.it.caller) (session_in g start) start now events h.replies
      ran events an met heard runs = record {
        next = session_in g now;
        stands = refl;
        done = an.commands;
        missed = failed_reads_told an.said;
        goes = record { met = met; heard = heard; said = an.said; text_is = an.replies_are; missed_is = refl; runs = runs };
        does = an.does;
      }

      by : IsKnown g start.disk → (events : List Event) → TakesAtMostOne start.it now.it events h.replies → Answers g start now events h.replies → RunsTo (session_service g start.it.caller) (session_in g start) start now events h.replies
      by known [] one an =
          let same = files-then known [] h.replies an ∙ ap (after_all (store_on g start.it.store start.disk)) an.answered.1 in
          ran [] an [] refl (an.answered.0, an.answered.1, same, an.answered.2, an.answered.3)
      by known (event ∷ others) one an =
          let answering : IsAnswering start.it.caller (session_in g start) event an.said an.commands now.it.lists now.it.state = an.answered in
          let files = store_on g now.it.store now.disk in
          ran (event ∷ others) an (met_with event answering.parts ∷ []) (ap (λ (es : List Event). event ∷ es) (sym one.0))
          (answer-all start.it.caller (session_in g start) event an.said an.commands now.it.lists now.it.state answering files (files-then known (event ∷ others) h.replies an) (λ fails. none-next files now.it.state fails none_due))

module _ {D : Type 0} (g : Ghosts D) (lasts : (disk : D) → g.lasts disk disk) (on : (first second third : D) → g.lasts first second → g.lasts second third → g.lasts first third)
    (a : ServerState) (disk : D) where
  abbrev now : AtDisk ServerState D
  now = at a disk

  abbrev replying : List ℕ → AtDisk ServerState D
  replying replies = at (record a { replies = replies }) disk

  -- with nothing more to say than what is due
  ended : (now : AtDisk ServerState D) → now.it.replies ≡ [] → (start : AtDisk ServerState D) (inputs : List Input) (why : Option Halt) (text : List ℕ) → Owes g start inputs why text now → OwesAll g start inputs why text now
  ended now silent start inputs why text h = subst (λ (r : List ℕ). OwesAll g start inputs why text (at (record (now.it) { replies = r }) now.disk)) (sym silent) (rw (silent, append-nil) at h)

  pub gave-all : a.replies ≡ [] → NoneDue a.state → a.halted ≡ false → GaveAll (session_course g) now now
  gave-all silent none_due going start inputs None text h = settled g lasts start inputs now text silent none_due (ended now silent start inputs None text h)
  gave-all silent none_due going start inputs (Some why) text h = absurd (cc (h.halted, going))

  pub gave-last : a.replies ≡ [] → a.halted ≡ true → GaveAll (session_course g) now now
  gave-last silent halted start inputs None text h = absurd (cc (halted, h.goes_on))
  gave-last silent halted start inputs (Some why) text h = let last = ended now silent start inputs (Some why) text h in stops-so g lasts start inputs now why text last false text last.text_is

  -- the replies are given
  pub gives-replies : (a.replies ≡ [] → ⊥) → GivesNext (session_course g) now a.replies (replying [])
  gives-replies some =
      record { goes_on = λ start inputs why text h. rw append-nil h; cut_off = λ start inputs why text front is_front h. halts-cut g lasts start inputs (replying []) text a.replies front some is_front why h }

  -- ---- a packet that is due

  module _ (going : a.halted ≡ false) (disk_n : D) (state_n : State) (out out_n : List ℕ) (puts : PutsDue g (store_on g a.store disk) (filled_with disk a.state out) (filled_with disk_n state_n out_n) true)
      (due : is_due (download_part a.state) ≡ true) (some : out_n ≡ [] → ⊥) (ready_n : IsReady g a.store disk_n) where
    abbrev given : List ℕ → AtDisk ServerState D
    given replies = at (record a { state = state_n; replies = replies }) disk_n

    module _ (start : AtDisk ServerState D) (inputs : List Input) (text : List ℕ) (h : IsUnderWay g start inputs text (replying [])) where
      -- without a packet nothing is due
      one-more : (events : List Event) → TakesAtMostOne start.it (record a { replies = [] }) events h.replies → TakesAtMostOne start.it (record a { state = state_n; replies = [] }) events (h.replies ++ out_n)
      one-more [] one = absurd (true≢false (sym due ∙ one.1))
      one-more (event ∷ others) one = one

      module _ (known : IsKnown g start.disk) (an : Answers g start (replying []) (events_to start.it inputs) h.replies) where
        packet : Sent g a.store disk disk_n a.state state_n out_n puts.fails
        packet = due-among g a.store disk disk_n a.state state_n out out_n (lasts disk) puts h.ready (known_on g start.disk disk h.puts.told known)

        abbrev said_n : List PacketValue
        said_n = an.said ++ packet.next.packet ∷ []

        is-next : next_due (after_all (store_on g start.it.store start.disk) an.commands) a.state puts.fails ≡ Some packet.next
        is-next =
            ap (λ (s : Store). next_due s a.state puts.fails) (sym (among-store g (failed_reads_told an.said) start.it.store a.store start.disk disk an.commands known an.does)) ∙ packet.is_next

        answered-more : (events : List Event) → TakesAtMostOne start.it (record a { replies = [] }) events h.replies → IsAnswered g start a.lists a.state events an.said an.commands
            → IsAnswered g start a.lists state_n events said_n an.commands
        answered-more [] one none = absurd (true≢false (sym due ∙ one.1))
        answered-more (event ∷ others) one answering = subst (λ (s : State). IsAnswering start.it.caller (session_in g start) event said_n an.commands a.lists s) (sym packet.state_is)
            (answer-more start.it.caller (session_in g start) event an.said an.commands a.lists a.state answering puts.fails packet.next is-next)

        answers-more : Answers g start (given []) (events_to start.it inputs) (h.replies ++ out_n)
        answers-more = record {
          said = said_n;
          replies_are = grind (arith, common_steps, an.replies_are, packet.text_is, texts-append, append-nil);
          commands = an.commands;
          answered = answered-more (events_to start.it inputs) h.one an.answered;
          does = rw (told-append, add-zero)
              (rw append-nil at (among-then g on ⊥ ⊥ (failed_reads_told an.said) (one_if (tells_failed_read packet.next.packet)) start.it.store a.store a.store start.disk disk disk_n an.commands [] (λ never. never) an.does packet.does));
        }

      goes-due : IsUnderWay g start inputs (text ++ out_n) (given [])
      goes-due = record {
        hears = record { caller = h.hears.caller; are_octets = h.hears.are_octets; waits = h.hears.waits };
        goes_on = h.goes_on;
        ready = ready_n;
        replies = h.replies ++ out_n;
        text_is = ap (λ (t : List ℕ). t ++ out_n) h.text_is ∙ append_assoc start.it.replies h.replies out_n;
        one = one-more (events_to start.it inputs) h.one;
        puts = puts-among-then g on ⊥ ⊥ start.disk disk disk_n (λ never. never) h.puts (puts-among-reads g (IsTrue puts.fails) ⊥ disk disk_n (lasts disk) (λ never. never) puts.reads);
        answers = λ known. answers-more known (h.answers known);
      }

    pub gives-due : a.replies ≡ [] → GivesNext (session_course g) now out_n (given a.replies)
    gives-due silent = record { goes_on = goes; cut_off = cut }
      where
        goes : (start : AtDisk ServerState D) (inputs : List Input) (why : Option Halt) (text : List ℕ) → Owes g start inputs why text now → Owes g start inputs why (text ++ out_n) (given a.replies)
        goes start inputs None text h = rw (silent, append-nil) (goes-due start inputs text (rw (silent, append-nil) at h))
        goes start inputs (Some why) text h = absurd (cc (h.halted, going))

        cut : (start : AtDisk ServerState D) (inputs : List Input) (why : Option Halt) (text front : List ℕ) → IsFront front out_n → Owes g start inputs why text now
            → HaltsOver g start inputs (stop_at_put why) true (text ++ front) (given a.replies)
        cut start inputs None text front is_front h =
            halts-cut g lasts start inputs (given a.replies) text out_n front some is_front None (ended (given a.replies) silent start inputs None (text ++ out_n) (goes start inputs None text h))
        cut start inputs (Some why) text front is_front h = absurd (cc (h.halted, going))

-- ---- what it owes by what it hears

module _ {D : Type 0} (g : Ghosts D) (lasts : (disk : D) → g.lasts disk disk) (on : (first second third : D) → g.lasts first second → g.lasts second third → g.lasts first third)
    (moment : ℕ) (inside : Inside) (disk : D) (ready : AwaitsInput g (at (server_state inside) disk)) (holds : IsServer inside)
    (piece : List ℕ) (are : IsOctets piece) (taken : ℕ) (reader : List ℕ) (fed : reader ≡ under_way inside.reader ++ take taken piece) where
  abbrev inputs : List Input
  inputs = octets_at moment (take taken piece)

  abbrev a : ServerState
  a = server_state inside

  heard : (items : List Item) → Stream reader items (under_way reader) → (events_to a inputs ≡ at_moment moment items) × (waiting_behind a.octets inputs ≡ under_way reader)
  heard items stream = events-of moment a.octets (take taken piece) items (under_way reader) holds.waiting (IsOctets-take taken piece are) (rw (sym fed) stream)

  inputs-octets : IsOctets (octets_in inputs)
  inputs-octets = rw octets_in-at (IsOctets-take taken piece are)

  -- no packet is whole
  pub owes-more : IsPartial reader → under_way reader ≡ reader → Owes g (at a disk) inputs None [] (at (record a { octets = under_way reader }) disk)
  owes-more partial same =
      let h = heard [] (sym same, rw same partial) in
      none-taken g lasts on a disk inputs (under_way reader) ready.up ready.goes_on ready.none_due inputs-octets h.0 (sym h.1)

  -- this packet is whole
  module _ (item : Item) (packet : PacketText item reader) (whole : IsTrue (is_whole reader)) where
    abbrev event : Event
    event = record { moment = moment; packet = item }

    only : (events_to a inputs ≡ event ∷ []) × (waiting_behind a.octets inputs ≡ under_way reader)
    only = let none = under-way-whole reader whole in heard (item ∷ []) (reader, [], packet, sym (append-nil reader), (sym none, rw none nothing_partial))

    abbrev before : Working
    before = record { store = a.store; lists = a.lists; state = a.state }

    module _ (now : Working) (disk_n : D) (replies : List ℕ) where
      abbrev Takes : Result ⊤ DiskFault → Type 0
      Takes result = TakesPacket g (packet_of a.caller moment item) (at before disk) (at now disk_n) replies result

      -- the server behind it
      abbrev server_n : CallSign → Bool → ServerState
      server_n caller halted =
          record { caller = caller; store = now.store; lists = now.lists; state = now.state; octets = under_way reader; replies = replies; halted = halted }

      abbrev row : Bool → Row
      row fails = row_over a.caller moment (store_on g a.store disk) before item fails

      pub owes-taken : (caller : CallSign) (halted : Bool) → caller ≡ a.caller → halted ≡ false → IsReady g now.store disk_n → Takes (Ok tt) → Owes g (at a disk) inputs None [] (at (server_n caller halted) disk_n)
      owes-taken caller halted same going ready_n takes =
          record {
            hears = record { caller = same; are_octets = inputs-octets; waits = sym only.1 };
            goes_on = going;
            ready = ready_n;
            replies = replies;
            text_is = ap (λ (t : List ℕ). t ++ replies) (sym ready.silent);
            one = rw only.0 (refl, ready.silent);
            puts = puts-answered g disk disk_n (Ok tt) takes.puts;
            answers = λ known.
                let gives = takes.answers known in
                record {
                  said = (row takes.fails).replies;
                  replies_are = gives.3;
                  commands = (row takes.fails).commands;
                  answered = rw only.0 (answer-first a.caller (session_in g (at a disk)) event takes.fails now.lists now.state gives.1 gives.2);
                  does = taken-among g on a.caller moment item before now disk disk_n replies ready.up known tt takes;
                };
          }

      -- the disk failed in one of its row's commands
      pub owes-last : (caller : CallSign) (fault : DiskFault) → Takes (Err fault) → Owes g (at a disk) inputs (Some halt.Disk) [] (at (server_n caller true) disk_n)
      owes-last caller fault takes =
          record {
            are_octets = inputs-octets;
            by = refl;
            halted = refl;
            silent = ready.silent;
            event = event;
            only = only.0;
            text_is = takes.stopped.3;
            puts = puts-answered g disk disk_n (Err fault) takes.puts;
            halts = λ known. record {
              parts = with_part takes.fails 0 [];
              row = row takes.fails;
              is_row = row-first a.caller (session_in g (at a disk)) event takes.fails;
              cuts = taken-cut g on a.caller moment item before now disk disk_n replies ready.up known (lasts disk) takes;
            };
          }
