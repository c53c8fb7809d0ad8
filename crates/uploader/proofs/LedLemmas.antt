-- A command that carried out a job comes to what the definition makes of it over all that was heard.
use Rattle.std.proofs.Common.{◌≡◌, ℕ, List, [], ◌∷◌, ◌++◌, refl, ap, sym, subst, ◌∙◌, inl, inr, Bool, true, false, append_assoc, ◌≢◌, Option, None, Some, Result, Ok, Err, map}
use Rattle.turn_loop.specs.declared.finished.Finished.TheVariants as finished
use Rattle.turn_loop.specs.declared.stop.NodeStop.TheVariants as node
use Rattle.uploader.proofs.Names.{append_cancel_left, AllByRecursion, Grows, Turn, FrameValue, NodeEvent, NodeEvents, OneRunLaw, Seen, TurnsBy, Finished, NotesCommand, JobState, Client, ClientEvent, asks, AsksNothing, GoesOver, StaysLaw, OneStepLaw, outcome_by, Outcome, EndsOver, asked_first, before_last, StopsBehind, TakesAll, event_of, NodeStop, SendStop, client_of, answer_of, by_outcome, stop_of_turns}
use Rattle.uploader.proofs.turns.CourseLemmas.{goes-alike, goes-append, goes-one, nothing-asked}
use Rattle.uploader.specs.Led.{ComesBy, IsCutShort, LedLaw, is_of_turns}

-- what is told to have come since is what came
pub told-same : {X : Type 0} (before now : Option (List X)) (earlier xs ys : List X) → before ≡ Some earlier → now ≡ Some (earlier ++ xs) → Grows before now ys → ys ≡ xs
told-same {X} before now earlier xs ys e f h =
    let P : Option (List X) → Type 0 = λ o. Grows before o ys in
    let told = subst P f h in
    let first : earlier ≡ told.0 = (let same = sym e ∙ told.1 in cc) in
    sym (append_cancel_left told.0 xs ys (ap (λ x. x ++ xs) (sym first) ∙ told.2))

-- ---- events, and others behind them

-- what a client comes to over the first events, and from there over the others
record GoesBy (client : Client) (events others : List ClientEvent) (now : Client) : Type 0 where
  pub frames : List FrameValue
  pub more : List FrameValue
  pub commands : List NotesCommand
  pub further : List NotesCommand
  pub mid : Client
  pub first : GoesOver client events frames commands mid
  pub behind : GoesOver mid others more further now

goes-split : (client : Client) (events others : List ClientEvent) (frames : List FrameValue) (commands : List NotesCommand) (now : Client) → GoesOver client (events ++ others) frames commands now
    → GoesBy client events others now
goes-split client [] others frames commands now h =
    record { frames = []; more = frames; commands = []; further = commands; mid = client; first = (refl, refl, refl); behind = h }
goes-split client (event ∷ events) others frames commands now h =
    let rest : GoesBy h.2 events others now = goes-split h.2 events others h.4 h.3 now h.8 in
    record {
      frames = h.1 ++ rest.frames;
      more = rest.more;
      commands = h.0 ++ rest.commands;
      further = rest.further;
      mid = rest.mid;
      first = (h.0, h.1, h.2, rest.commands, rest.frames, h.5, refl, refl, rest.first);
      behind = rest.behind;
    }

nothing-parts : (before : List ClientEvent) (next : ClientEvent) (later : List ClientEvent) → AllByRecursion AsksNothing (before ++ next ∷ later)
    → AllByRecursion AsksNothing (before ++ next ∷ []) × AllByRecursion AsksNothing later
nothing-parts [] next later h = ((h.0, tt), h.1)
nothing-parts (event ∷ before) next later h =
    let rest = nothing-parts before next later h.1 in
    ((h.0, rest.0), rest.1)

-- up to any event of a run: the asking, and then frames and ticks alone, as behind it
record AskedUpTo (job : JobState) (before : List ClientEvent) (next : ClientEvent) (later : List ClientEvent) : Type 0 where
  pub front : List ClientEvent
  pub front_is : before ++ next ∷ [] ≡ asks job ∷ front
  pub nothing : AllByRecursion AsksNothing front
  pub behind : AllByRecursion AsksNothing later

asked-up : (job : JobState) (events : List NodeEvent) (before : List ClientEvent) (next : ClientEvent) (later : List ClientEvent) → asked_first job events ≡ before ++ next ∷ later
    → AskedUpTo job before next later
asked-up job events [] next later is =
    let head : asks job ≡ next = cc is in
    let tail : map event_of events ≡ later = cc is in
    record {
      front = [];
      front_is = ap (λ (e : ClientEvent). e ∷ []) (sym head);
      nothing = tt;
      behind = subst (λ (es : List ClientEvent). AllByRecursion AsksNothing es) tail (nothing-asked events);
    }
asked-up job events (event ∷ before) next later is =
    let head : asks job ≡ event = cc is in
    let tail : map event_of events ≡ before ++ next ∷ later = cc is in
    let parts = nothing-parts before next later (subst (λ (es : List ClientEvent). AllByRecursion AsksNothing es) tail (nothing-asked events)) in
    record {
      front = before ++ next ∷ [];
      front_is = ap (λ (e : ClientEvent). e ∷ (before ++ next ∷ [])) (sym head);
      nothing = parts.0;
      behind = parts.1;
    }

-- ---- the answer of the turns

-- either nothing became of the job, and it is the turns' stop, or something did, and it is that
at-stop : (ended : Result Finished NodeStop) (reached : Option Outcome) (P : Result Outcome SendStop → Type 0) → (reached ≡ None → P (Err (stop_of_turns ended))) → ((some : Outcome) → reached ≡ Some some → P (by_outcome some))
    → P (answer_of ended reached)
at-stop ended None P stopped came = stopped refl
at-stop ended (Some some) P stopped came = came some refl

-- ---- what was reached

module _ (steps : OneStepLaw) (stays : StaysLaw) (client : Client) where
  -- over all events it is what the definition leads to
  taken-same : (events : List ClientEvent) (over : Bool) (got reached : Option Outcome) (text : List ℕ) (done cut : List NotesCommand) (frames : List FrameValue) (commands : List NotesCommand) (now : Client)
      → TakesAll client events over got text done cut → GoesOver client events frames commands now → outcome_by now.attempt ≡ reached → got ≡ reached
  taken-same events over got reached text done cut frames commands now taken goes is =
      let same : taken.1 ≡ now = (goes-alike steps client events taken.0 frames done commands taken.1 now taken.2 goes).0 in
      taken.5 ∙ ap (λ (c : Client). outcome_by c.attempt) same ∙ is

  -- where a put failed behind what became of the job, that stays over all that is behind it
  unsaid-same : (job : JobState) (least : List ClientEvent) (events : List NodeEvent) (got reached : Option Outcome) (text : List ℕ) (done cut : List NotesCommand) (frames : List FrameValue) (commands : List NotesCommand)
      (now : Client) → StopsBehind least client (asked_first job events) node.AirWrite got text done cut → GoesOver client (asked_first job events) frames commands now → outcome_by now.attempt ≡ reached
      → got ≢ None → got ≡ reached
  unsaid-same job least events got reached text done cut frames commands now h goes is some =
      let s = h.stops in
      let at = s.stops in
      let up : AskedUpTo job s.before s.next s.later = asked-up job events s.before s.next s.later s.events_are in
      let events_are : asked_first job events ≡ (s.before ++ s.next ∷ []) ++ s.later = s.events_are ∙ sym (append_assoc s.before (s.next ∷ []) s.later) in
      let parts : GoesBy client (s.before ++ s.next ∷ []) s.later now =
      goes-split client (s.before ++ s.next ∷ []) s.later frames commands now (subst (λ (es : List ClientEvent). GoesOver client es frames commands now) events_are goes) in
      let run = goes-append client s.before s.frames s.commands s.client_then (s.next ∷ []) at.0 s.more at.1 s.goes (goes-one s.client_then s.next s.more at.0 at.1 at.2) in
      let same : at.1 ≡ parts.mid = (goes-alike steps client (s.before ++ s.next ∷ []) _ parts.frames _ parts.commands at.1 parts.mid run parts.first).0 in
      let asked : GoesOver client (asks job ∷ up.front) parts.frames parts.commands parts.mid =
      subst (λ (es : List ClientEvent). GoesOver client es parts.frames parts.commands parts.mid) up.front_is parts.first in
      let came : got ≡ outcome_by parts.mid.attempt = at.6 ∙ ap (λ (c : Client). outcome_by c.attempt) same in
      let stayed = stays client job up.front s.later parts.frames parts.more parts.commands parts.further parts.mid now up.nothing up.behind asked parts.behind (λ working. some (came ∙ working)) in
      came ∙ sym stayed ∙ is

  -- by how the turns ended
  module _ (job : JobState) (polls : ℕ) (turns : List Turn) (least : List ClientEvent) (events : List NodeEvent) (got reached : Option Outcome) (text : List ℕ) (done cut : List NotesCommand) (frames : List FrameValue)
      (commands : List NotesCommand) (now : Client) (goes : GoesOver client (asked_first job events) frames commands now) (is : outcome_by now.attempt ≡ reached) where
    abbrev Comes : Result Finished NodeStop → Type 0
    Comes ended = ComesBy polls turns reached (answer_of ended got)

    -- something became of the job, which the definition leads to
    came-to : got ≡ reached → (some : Outcome) → got ≡ Some some → ComesBy polls turns reached (by_outcome some)
    came-to same some is = inl (some, sym same ∙ is, refl)

    of-turns : (ended : Result Finished NodeStop) (over : Bool) → is_of_turns ended ≡ true → TurnsBy ended polls turns → TakesAll client (asked_first job events) over got text done cut → Comes ended
    of-turns ended over of ends h =
        let same = taken-same (asked_first job events) over got reached text done cut frames commands now h goes is in
        at-stop ended got (λ (r : Result Outcome SendStop). ComesBy polls turns reached r)
        (λ working. inr (inl (record { ended = ended; of_turns = of; working = sym same ∙ working; ends = ends; came_is = refl }))) (came-to same)

    -- it was cut short before anything became of the job
    cut-short : (ended : Result Finished NodeStop) → IsCutShort (Err (stop_of_turns ended)) → got ≡ None → Comes ended
    cut-short ended short working = at-stop ended got (λ (r : Result Outcome SendStop). ComesBy polls turns reached r) (λ still. inr (inr short)) (λ some is. let no : Some some ≡ None = sym is ∙ working in absurd (cc no))

    comes-by : (ended : Result Finished NodeStop) → ((count : ℕ) → ended ≡ Ok (finished.Over count) → got ≢ None) → TurnsBy ended polls turns → EndsOver ended least client (asked_first job events) got text done cut → Comes ended
    comes-by (Ok (finished.Over count)) over ends h =
        at-stop (Ok (finished.Over count)) got (λ (r : Result Outcome SendStop). ComesBy polls turns reached r) (λ working. absurd (over count refl working))
        (came-to (taken-same (asked_first job events) true got reached text done cut frames commands now h goes is))
    comes-by (Ok (finished.Closed count)) over ends h = of-turns (Ok (finished.Closed count)) false refl ends h
    comes-by (Err node.AirRead) over ends h = of-turns (Err node.AirRead) false refl ends h
    comes-by (Err node.Spent) over ends h = of-turns (Err node.Spent) false refl ends h
    comes-by (Err node.AirWrite) over ends h =
        at-stop (Err node.AirWrite) got (λ (r : Result Outcome SendStop). ComesBy polls turns reached r) (λ working. inr (inr (inl refl)))
        (λ some so. came-to (unsaid-same job least events got reached text done cut frames commands now h goes is (λ none. let no : Some some ≡ None = sym so ∙ none in cc no)) some so)
    comes-by (Err node.Disk) over ends h = cut-short (Err node.Disk) (inr (inl refl)) h.stops.stops.4
    comes-by (Err node.OutOfMemory) over ends h = cut-short (Err node.OutOfMemory) (inr (inr refl)) h.stops.stops.5
    comes-by (Err why) over ends h = absurd h

pub led-law : {A C D : Type 0} (see : Seen D A C) → OneRunLaw → OneStepLaw → StaysLaw → LedLaw see
led-law see runs steps stays old new asked came turns reached h led =
    let client : Client = client_of asked in
    let told = led.told in
    let leads = led.leads in
    let run = h.run in
    let same_turns : run.turns ≡ turns = told-same (see.air.heard old.air) (see.air.heard new.air) told.before turns run.turns told.heard told.heard_now h.air.turns_heard in
    let same_moments : run.moments ≡ led.moments = told-same (see.given old.clock) (see.given new.clock) told.earlier led.moments run.moments told.told told.told_now h.air.moments_given in
    let at_turns : List Turn → Type 0 = λ x. NodeEvents client.me x run.moments h.ran.events in
    let at_moments : List ℕ → Type 0 = λ x. NodeEvents client.me turns x h.ran.events in
    let brings = subst at_moments same_moments (subst at_turns same_turns h.ran.brings) in
    let same_events : leads.events ≡ h.ran.events = runs client.me turns led.moments leads.events h.ran.events leads.brings brings in
    let at_events : List NodeEvent → Type 0 = λ x. GoesOver client (asked_first asked.job x) leads.frames leads.commands leads.now in
    let P : Result Outcome SendStop → Type 0 = λ r. ComesBy asked.terms.polls turns reached r in
    let Q : List Turn → Type 0 = λ x. ComesBy asked.terms.polls x reached (answer_of run.ended run.reached) in
    subst P (sym h.answer)
    (subst Q same_turns
    (comes-by steps stays client asked.job asked.terms.polls run.turns (before_last run.turns asked.job h.ran.least) h.ran.events run.reached reached run.text run.done run.cut leads.frames leads.commands leads.now
    (subst at_events same_events leads.goes) leads.reached_is run.ended h.became.over h.ran.ends h.ran.ends_over))
