-- The course of a server as a node drives it, and what the server did over the turns of its node.
use Rattle.std.proofs.Common.{◌≡◌, ℕ, ◌+◌, Bool, true, false, List, [], ◌∷◌, ◌++◌, Option, None, Some, refl, ap, sym, subst, ◌∙◌, inl, inr, append_assoc, append-nil, length, take, drop, length-append, arith, ◌≢◌, Result, Ok, Err}
use Rattle.kiss.specs.KissText.{kiss_text}
use Rattle.ax25_frames.specs.FrameText.{FrameValue, canonical}
use Rattle.ftl0_server.specs.Failures.{failed_reads, failed_write}
use Rattle.ftl0_server.specs.Connection.ConnectionState.{with_reads}
use Rattle.ftl0_server.specs.Calls.{HandsOutNext, HearsBy, HearsEvent}
use Rattle.ftl0_server.specs.Server.{IsSilent, Server, ServerHappened, ServerSends, server_next, settled}
use Rattle.ftl0_server.specs.ServerState.{IsServer, ServerState}
use Rattle.ftl0_server.specs.ServerStep.{Empties, happening}
use Rattle.ftl0_server.specs.Serving.{TakesEvent}
use Rattle.server_node.specs.OnAir.Serving.{StopsAt, server_steps, text_of}
use Rattle.server_node.specs.declared.on_air.station.ServerStation.{ServerStation}
use Rattle.std.proofs.lemmas.List.Concat.{flat_map-append}
use Rattle.server_node.proofs.Names.{AtDisk, Command, CutsOffAmongReads, DiskFault, EndsOver, FailsBy, Finished, GaveAll, Ghosts, GivesNext, Halt, HasAirCause, IsButLast, IsFront, IsKnown, IsLawful, IsReady, IsRecovered, IsSaid, IsUp, LentParty, NodeEvent, NodeEvents, NodeStop, OwesRest, Run, RunsOn, RunsTo, Seen, Served, ServesAt, Service, StandsBy, StopsOn, StopsTo, Store, StoreState, TookTurns, Turn, TurnTerms, TurnsBy, WholeBy, at, common_steps, cuts-among-none, empties-silent, files_at, known_on, length-take-le, lent, made, party_at, served_by, server_course, server_service, serves-append, serves-one, silent-settled, stop_at_put, store_at, store_on, take-append-drop, uncut, with_server, ⊤, SendsFor, server_pending}
use Rattle.server_node.proofs.StepsLemmas.{AreSteps, DidOnDisk, did-all, did-stop, halt_by, puts-answered, puts-still, runs-none, runs-then, stays, stop-one, stops-more, stops-then}
use Rattle.server_node.specs.declared.terms.ServerTerms.{ServerTerms}
use Rattle.server_node.specs.OnAir.Served.{ServerRan, server_from}
use Rattle.server_node.proofs.Ending.{Came, Recovers, Serves, Stopped, Taken, but_last, came-by, served}
use Rattle.turn_loop.specs.declared.stop.NodeStop.TheVariants as stop

-- a server goes over its events one after another
pub are_steps : AreSteps server_steps
are_steps = grind (arith, common_steps, flat_map-append, serves-append)

module _ {D : Type 0} (g : Ghosts D) (lasts : (disk : D) → g.lasts disk disk) where
  abbrev service : Service ServerStation Server NodeEvent D
  service = server_service g

  -- ---- one event

  -- It came, and its frames are to be said.
  module _ (old : AtDisk ServerStation D) (made_so : ServerState) (disk : D) (event : NodeEvent) where
    abbrev heard : AtDisk ServerStation D
    heard = at (record { server = made_so }) disk

    module _ (server : Server) (serving : ServesAt g old server) (parts : List ℕ) where
      abbrev Heard : Result ⊤ DiskFault → Type 0
      Heard result = HearsBy g (with_reads (happening server event) parts) old.it.server made_so old.disk disk result

      -- what it makes of the server where no write and no sync fails
      abbrev taken : ServerHappened
      taken = happening server event (failed_reads parts)

      -- and where one fails at this part
      abbrev failing : ℕ → ServerHappened
      failing part = happening server event (failed_write part ++ failed_reads parts)

      module _ (self : ServerState) (same : self.store ≡ made_so.store) where
        abbrev behind : AtDisk ServerStation D
        behind = with_server heard self

        -- It stopped at the event.
        stopped : (why : NodeStop) (unsaid : Bool) (text : List ℕ) (done cut : List Command) (missed : ℕ) → StopsAt why unsaid server event (made text done missed) cut
            → CutsOffAmongReads g (FailsBy why) missed (store_at service old) (at made_so.store disk) done cut → StopsTo service server old behind (event ∷ []) why unsaid text
        stopped why unsaid text done cut missed at_event cuts =
            record { done = done; cut = cut; missed = missed; stops = stop-one service are_steps why unsaid server event (made text done missed) cut at_event; cuts = rw same cuts }

        module _ (by : Heard (Ok tt)) (frames : List FrameValue) (last : Server) (sent : Empties taken.after frames last) where
          takes-event : TakesEvent server event frames taken.done taken.missed (settled last)
          takes-event = grind (arith, common_steps, uncut, by)

          -- All of it was taken, and its frames were said.
          event-taken : IsServer (files_at g behind) self (settled last) → RunsTo service server old behind (event ∷ []) (text_of frames)
          event-taken stands = grind (arith, common_steps, empties-silent, by.2, serves-one, silent-settled, takes-event)

          -- All of it was taken, and saying its frames failed.
          event-unsaid : (text : List ℕ) → frames ≢ [] → IsFront text (text_of frames) → StopsTo service server old behind (event ∷ []) stop.AirWrite true text
          event-unsaid text some is_front =
              stopped stop.AirWrite true text taken.done [] taken.missed (frames, settled last, takes-event, some, is_front, refl)
              (cuts-among-none g ⊥ taken.missed (store_at service old) (at made_so.store disk) taken.done (λ never. never) (lasts disk) by.2)

        -- The disk failed in it, and the frames of that step were said, or a front of them.
        event-failed : (fault : DiskFault) (by : Heard (Err fault)) (frames : List FrameValue) (last : Server) → Empties (failing by.0).after frames last → (text : List ℕ) (unsaid : Bool)
            → IsSaid unsaid (text_of frames) text → StopsTo service server old behind (event ∷ []) stop.Disk unsaid text
        event-failed fault by frames last sent text unsaid said =
            let failed : ServerHappened = failing by.0 in
            stopped stop.Disk unsaid text failed.done failed.cut failed.missed (by.0, parts, frames, settled last, grind (arith, common_steps, by.1, sent, serving.silent), said) by.3

      owes-rest : (result : Result ⊤ DiskFault) → Heard result → OwesRest g server old (event ∷ []) (halt_by result) [] heard
      owes-rest (Ok done) by = record {
        made = taken.after;
        stands = by.1;
        whole = λ frames last self sent same stands settles. event-taken self same by frames last sent settles;
        front = λ frames last self text sent same some is_front. event-unsaid self same by frames last sent text some is_front;
      }
      owes-rest (Err fault) by = record {
        made = (failing by.0).after;
        stands = by.2;
        whole = λ frames last self sent same. event-failed self same fault by frames last sent (text_of frames) false refl;
        front = λ frames last self text sent same some is_front. event-failed self same fault by frames last sent text true is_front;
      }

    pub owes-event : (result : Result ⊤ DiskFault) → HearsEvent g event old.it.server made_so old.disk disk result → (server_course g).owes old (event ∷ []) (halt_by result) [] heard
    owes-event result h = record {
      puts = puts-answered g old.disk disk result h.keeps.puts;
      memory = grind (arith, common_steps);
      ready = λ is. record { healthy = h.keeps.healthy (λ e. grind (arith, common_steps, is, e)); stands_on = h.keeps.stands_on };
      rest = λ known server serving. let hears = h.hears known server serving.is in owes-rest server serving hears.parts result hears.by;
    }

  -- ---- no events

  -- a server that has nothing to send sends nothing
  none-sent : (server : Server) (frames : List FrameValue) (last : Server) → IsSilent server → Empties server frames last → (frames ≡ []) × (last ≡ server)
  none-sent server [] last silent sent = (refl, sent.1)
  none-sent server (frame ∷ frames) last silent sent = absurd (cc (sym silent ∙ sent.1))

  pub owes-none : (start : AtDisk ServerStation D) → IsUp g start → (server_course g).owes start [] None [] start
  owes-none start up = record {
    puts = puts-still g start.disk (lasts start.disk);
    memory = λ e. cc e;
    ready = λ is. up.ready;
    rest = λ known server serving. record {
      made = server;
      stands = serving.is;
      whole = λ frames last self sent same stands settles.
          let none = none-sent server frames last serving.silent sent in let self_at = (with_server start self).it in
          rw none.0 (runs-none service are_steps server start self_at (record { is = rw none.1 at stands; silent = serving.silent }) same up.ready (lasts start.disk));
      front = λ frames last self text sent same some. absurd (some (none-sent server frames last serving.silent sent).0);
    };
  }

  -- ---- what is said

  module _ (old : AtDisk ServerStation D) (server_n : ServerState) (out out_n : List ℕ) (answer : Bool) (pending : answer ≡ server_pending old.it.server)
      (sends : HandsOutNext SendsFor old.it.server server_n out out_n answer) (serves : (files : Store) → HandsOutNext (IsServer files) old.it.server server_n out out_n answer) (store : server_n.store ≡ old.it.server.store) where
    abbrev new : AtDisk ServerStation D
    new = with_server old server_n

    hands : (why : Option Halt) → HandsOutNext (StandsBy (files_at g old) why) old.it.server server_n out out_n answer
    hands None = serves (files_at g old)
    hands (Some why) = sends

    -- the store's files are the same
    over-new : (P : Store → Type 0) → P (files_at g old) → P (files_at g new)
    over-new P h = subst (λ (s : StoreState). P (store_on g s old.disk)) (sym store) h

    module _ (start : AtDisk ServerStation D) (events : List NodeEvent) (said : List ℕ) (server : Server) where
      -- One frame more is given.
      module _ (is : answer ≡ true) (why : Option Halt) (h : OwesRest g server start events why said old) where
        next : (sends : ServerSends) × (server_next h.made ≡ Some sends) × StandsBy (files_at g old) why server_n sends.after × (out_n ≡ canonical sends.frame)
        next = grind (arith, common_steps, hands why h.made h.stands)

        rest-on : OwesRest g server start events why (said ++ kiss_text out_n) new
        rest-on = record {
          made = next.0.after;
          stands = over-new (λ files. StandsBy files why server_n next.0.after) next.2;
          whole = λ frames last self sent same. rw (append_assoc, next.3) (h.whole (next.0.frame ∷ frames) last self (next.0, next.1, refl, sent) (same ∙ store));
          front = λ frames last self text sent same some is_front. rw append_assoc
              (h.front (next.0.frame ∷ frames) last self (kiss_text out_n ++ text) (next.0, next.1, refl, sent) (same ∙ store) (λ e. cc e) (is_front.0, grind (arith, common_steps, is_front.1, next.3)));
        }

        -- Saying it failed.
        rest-cut : ((then_is : Server) → StandsBy (files_at g old) why server_n then_is → (frames : List FrameValue) × (last : Server) × Empties then_is frames last) → (front : List ℕ) → IsFront front (kiss_text out_n)
            → StopsTo service server start new events (stop_at_put why) true (said ++ front)
        rest-cut ends front is_front =
            let later = ends next.0.after next.2 in
            h.front (next.0.frame ∷ later.0) later.1 server_n front (next.0, next.1, refl, later.2) store (λ e. cc e)
            (is_front.0 ++ text_of later.0, cc (next.3, is_front.1, append_assoc front is_front.0 (text_of later.0)))

      -- All was given.
      module _ (is : answer ≡ false) (why : Option Halt) (h : OwesRest g server start events why said old) where
        no-next : Empties h.made [] h.made
        no-next = grind (arith, common_steps, hands why h.made h.stands)

        rest-whole : WholeBy g server start events why h.made said new
        rest-whole = rw append-nil at (h.whole [] h.made server_n no-next store)

    module _ (is : answer ≡ true) (ends : (then_is : Server) → SendsFor server_n then_is → (frames : List FrameValue) × (last : Server) × Empties then_is frames last) where
      ends-by : (why : Option Halt) (then_is : Server) → StandsBy (files_at g old) why server_n then_is → (frames : List FrameValue) × (last : Server) × Empties then_is frames last
      ends-by None then_is stands = ends then_is stands.sends
      ends-by (Some why) then_is stands = ends then_is stands

      pub gives-next : GivesNext (server_course g) old (kiss_text out_n) new
      gives-next = record {
        goes_on = λ start events why said h. record {
          puts = h.puts;
          memory = h.memory;
          ready = λ none. subst (λ (s : StoreState). IsReady g s old.disk) (sym store) (h.ready none);
          rest = λ known server serving. rest-on start events said server is why (h.rest known server serving);
        };
        cut_off = λ start events why said front is_front h. record {
          puts = h.puts;
          memory = h.memory;
          stops = λ known server serving. rest-cut start events said server is why (h.rest known server serving) (ends-by why) front is_front;
        };
      }

    module _ (is : answer ≡ false) (same : server_n ≡ old.it.server) (settles : (files : Store) (server : Server) → IsServer files old.it.server server → IsServer files server_n (settled server)) where
      pub gave-all : GaveAll (server_course g) old new
      gave-all start events None said h = (
        record {
          puts = h.puts;
          runs = λ known server serving.
              let rest_is : OwesRest g server start events None said old = h.rest known server serving in
              rest-whole start events said server is None rest_is
              (subst (λ (s : ServerState). IsServer (store_on g s.store old.disk) s rest_is.made) (sym same) rest_is.stands)
              (over-new (λ files. IsServer files server_n (settled rest_is.made)) (settles (files_at g old) rest_is.made rest_is.stands));
        },
        record { silent = ap server_pending same ∙ sym pending ∙ is; ready = subst (λ (s : StoreState). IsReady g s old.disk) (sym store) (h.ready refl) },
      )
      gave-all start events (Some why) said h = record {
        puts = h.puts;
        memory = h.memory;
        stops = λ known server serving. rest-whole start events said server is (Some why) (h.rest known server serving);
      }

  -- ---- its laws

  pub lawful : ((first second third : D) → g.lasts first second → g.lasts second third → g.lasts first third) → IsLawful (server_course g) (λ event. ⊤)
  lawful on = record {
    owes_none = owes-none;
    goes_none = λ start up. stays service are_steps start up.ready (lasts start.disk);
    goes_on = λ a b c xs ys text more h k. runs-then service are_steps on a b c xs ys text more h k;
    halts_behind = λ a b c xs ys text more why unsaid h k. stops-then service are_steps on a b c xs ys text more h why unsaid k;
    halts_before = λ a c xs ys text why unsaid any h. stops-more service are_steps a c xs ys why unsaid text h;
  }

-- what the node of a server is driven by
abbrev pub turn_terms : ServerTerms → TurnTerms
turn_terms terms = record { polls = terms.polls; given = None; first = None }

-- how a server comes to a run
abbrev pub Ran : Type 0 → ServerTerms → Result Served NodeStop → Store → Run → Type 0
Ran known terms result start run = ServerRan known (server_from terms start) terms.polls run result

-- the station of a server that was started over the store that was recovered may take an event
pub started : {D : Type 0} (g : Ghosts D) (terms : ServerTerms) (blocks : ℕ) (old mid : D) (station : ServerStation) (server : ServerState) → station.server ≡ server
    → IsRecovered g blocks old mid server.store → ((files : Store) → IsServer files server (server_from terms files)) → server_pending server ≡ false
    → IsUp g (at station mid) × ServesAt g (at station mid) (server_from terms (files_at g (at station mid)))
started g terms blocks old mid station server same recovered is silent =
    rw same (record { silent = silent; ready = recovered.ready }, record { is = is (store_on g server.store mid); silent = refl })

module _ {A C D : Type 0} (seen : Seen D A C) (terms : ServerTerms) (old new : LentParty ServerStation D A C) (ended : Result Finished NodeStop)
    (took : TookTurns (NodeEvents terms.me) (server_course seen.disk) seen.air seen.given old new (turn_terms terms) ended) where
  module _ (lasts : (disk : D) → seen.disk.lasts disk disk) (on : (first second third : D) → seen.disk.lasts first second → seen.disk.lasts second third → seen.disk.lasts first third) (up : IsUp seen.disk (party_at old))
      {T : Type 0} (disk : D) (value : T) (recovers : Recovers {T = T} seen.disk terms.limits.blocks disk old.disk value old.party.server.store) (serving : ServesAt seen.disk (party_at old) (server_from terms (files_at seen.disk (party_at old)))) where
    abbrev g : Ghosts D
    g = seen.disk

    abbrev server : Server
    server = server_from terms (files_at g (party_at old))

    abbrev CameSo : Result Served NodeStop → Type 0
    CameSo result = Came seen (NodeEvents terms.me) (server_course g) old new (turn_terms terms) ended took None old.clock (Ran (IsKnown g disk) terms) old.party.server.store new.party.server.store result

    -- what all turns but the last bring
    record Least : Type 0 where
      earlier : List Turn
      but_last : IsButLast took.all.turns earlier
      before : List ℕ
      behind : List ℕ
      split : took.all.moments ≡ before ++ behind
      least : List NodeEvent
      brought : NodeEvents terms.me earlier before least

    least_by : (earlier : List Turn) → IsButLast took.all.turns earlier → Least
    least_by earlier (inl none) = record { earlier = []; but_last = inl (none.0, refl); before = []; behind = took.all.moments; split = refl; least = []; brought = (refl, refl) }
    least_by earlier (inr some) =
        let few : length earlier + 1 ≡ length took.all.turns = simp length-append at (sym (ap length some.1)) in let before = take (length earlier) took.all.moments in
        let behind = drop (length earlier) took.all.moments in let split : took.all.moments ≡ before ++ behind = sym (take-append-drop (length earlier) took.all.moments) in
        let left = took.open_before earlier some.0 [] before behind some.1 split (length-take-le (length earlier) took.all.moments (omega (arith, few, took.one_each))) in
        record { earlier = earlier; but_last = inr some; before = before; behind = behind; split = split; least = left.0; brought = left.1 }

    came : (result : Result Served NodeStop) → TurnsBy result terms.polls took.all.turns → HasAirCause seen.air.read_faults seen.air.write_faults old.air new.air result → (l : Least)
        → (d : DidOnDisk g result (store_at (server_service g) (party_at old)) (store_at (server_service g) (party_at new)))
        → (IsKnown g old.disk → EndsOver result l.least server_steps server took.all.events took.unsaid (made took.text d.done d.missed) d.cut) → CameSo result
    came result ends counts l d over = record {
      did = d;
      moments = took.all.moments;
      moments_given = took.moments_given;
      ran = record {
        one_each = took.one_each;
        events = took.all.events;
        brings = took.brings;
        bound = took.bound;
        ends = ends;
        earlier = l.earlier;
        but_last = l.but_last;
        before = l.before;
        behind = l.behind;
        split = l.split;
        least = l.least;
        brought = l.brought;
        ends_over = λ known. over (known_on g disk old.disk recovers.answers.runs.told known);
      };
      ends = ends;
      counts = counts;
    }

    all-taken : Taken seen (NodeEvents terms.me) (server_course g) old new (turn_terms terms) ended took (λ p. refl) server_steps server took.all.events CameSo
    all-taken result ends counts fine over h =
        let l = least_by (but_last took.all.turns).0 (but_last took.all.turns).1 in
        let did = did-all (server_service g) are_steps lasts (party_at old) (party_at new) took.all.events took.text server serving took.unsaid result fine over h.0 in
        came result ends counts l did.0 (λ known. did.1 known l.least)

    stopped-last : Stopped seen (NodeEvents terms.me) (server_course g) old new (turn_terms terms) ended took (λ p. refl) server_steps server took.all.events CameSo
    stopped-last why ends counts over h =
        -- it went on to somewhere first
        let from : (mid : AtDisk ServerStation D) × RunsOn (server_service g) (party_at old) mid h.least h.first × StopsOn (server_service g) mid (party_at new) h.more why took.unsaid h.last =
        elim h.ends [
          | inl none ↦ (party_at old, rw (none.1, none.2) (stays (server_service g) are_steps (party_at old) up.ready (lasts old.disk)), none.3)
          | inr from ↦ from
        ] in
        let l : Least = record { earlier = h.earlier; but_last = h.but_last; before = h.before; behind = h.behind; split = h.split; least = h.least; brought = h.brought } in
        let did = did-stop (server_service g) are_steps on (party_at old) from.0 (party_at new) h.least h.more h.first h.last from.1 server serving took.all.events took.text h.events_are h.text_is
        why took.unsaid (over h.least) from.2 in
        came (Err why) ends counts l did.0 did.1

    pub server-serves : Serves seen terms.limits.blocks None (Ran (IsKnown g disk) terms) (lent disk old.air old.clock) (lent new.disk new.air new.clock) (served_by ended)
    server-serves = served seen (NodeEvents terms.me) (server_course g) old new (turn_terms terms) ended took on terms.limits.blocks None (Ran (IsKnown g disk) terms) disk old.clock value _ new.party.server.store (served_by ended) recovers
        (came-by seen (NodeEvents terms.me) (server_course g) old new (turn_terms terms) ended took (λ p. refl) server_steps server took.all.events CameSo (λ start now events text h. h.memory refl) all-taken stopped-last)
