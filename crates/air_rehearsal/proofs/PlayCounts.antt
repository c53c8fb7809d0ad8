-- What an event of each kind adds to the numbers of the report.
use Rattle.std.specs.Prelude.{◌≡◌, ◌≢◌, ◌+◌, ◌==◌, ◌∷◌, if◌then◌else◌}
use Rattle.std.specs.Prelude.{◌&&◌}
use Rattle.std.proofs.Common.{sym, ap, ◌∙◌, subst, arith}
use Rattle.air_world.specs.Attempts.Party.{Party}
use Rattle.air_rehearsal.specs.declared.report.Report.{Report as StoredReport}
use Rattle.air_rehearsal.proofs.Names.{ℕ, zero, suc, List, [], slice_get, slice_set, map, Bool, false, true, Option, None, Some, refl, AllZip, same_Some, FrameValue, NodeEvent, hears, ticks, Outcome, is_under_way, is_same_call, sessions_over, ServerDid, ServerDoes, ServerEvent, broken, ServerTakes, Event, break_client, cut_client, cut_server, tick_server, to_server, ask_download, ask_list, ask_resume, ask_upload, tick_client, to_client, parties_after, party_heard, party_ticked, PartyAt, World, Tells, one_if, told, came_in, counts_with, cuts_in, Report, is_fetch, is_question, is_refusal, Role, Station, acts, breaks_off, client_at, looks_on, role_of, the_server, will_be_cut, Stations}
use Rattle.air_rehearsal.proofs.CountLemmas.{SameAttempt, came-at, came-same, same-each}
use Rattle.air_rehearsal.proofs.CutCounts.{nobody_cuts}

-- the numbers with so many more of each kind
abbrev pub counts_more : ℕ → ℕ → ℕ → ℕ → Report → Report
counts_more asked refused fetched cuts counts =
    record counts {
      asked = counts.asked + asked;
      refused = counts.refused + refused;
      fetched = counts.fetched + fetched;
      cuts = counts.cuts + cuts;
    }

-- They are those of the event, where each is what the event adds.
pub tells_with :
    (stations : Stations) (event : Event) (old new : World) (report : StoredReport) (numbers : Report)
    (asked refused fetched cuts : ℕ) → one_if (is_question event) ≡ asked → came_in is_refusal old new ≡ refused
    → came_in is_fetch old new ≡ fetched → cuts_in stations event old ≡ cuts
    → Tells report (counts_more asked refused fetched cuts numbers)
    → Tells report (counts_with stations event old new numbers)
tells_with stations event old new report numbers asked refused fetched cuts asks refuses fetches cut tells =
    record {
      events = tells.events;
      asked = tells.asked ∙ ap (λ (n : ℕ). told (numbers.asked + n)) (sym asks);
      acked = tells.acked;
      kept = tells.kept;
      refused = tells.refused ∙ ap (λ (n : ℕ). told (numbers.refused + n)) (sym refuses);
      fetched = tells.fetched ∙ ap (λ (n : ℕ). told (numbers.fetched + n)) (sym fetches);
      cuts = tells.cuts ∙ ap (λ (n : ℕ). told (numbers.cuts + n)) (sym cut);
    }

none_more : (n : ℕ) → told n ≡ told (n + 0)
none_more n = ap told (let e : n ≡ n + 0 = omega arith in e)

-- nothing is added
pub tells_same : (report : StoredReport) (numbers : Report) → Tells report numbers
    → Tells report (counts_more 0 0 0 0 numbers)
tells_same report numbers tells =
    record {
      events = tells.events;
      asked = tells.asked ∙ none_more numbers.asked;
      acked = tells.acked;
      kept = tells.kept;
      refused = tells.refused ∙ none_more numbers.refused;
      fetched = tells.fetched ∙ none_more numbers.fetched;
      cuts = tells.cuts ∙ none_more numbers.cuts;
    }

-- cuts alone are added
pub tells_cuts : (report : StoredReport) (numbers : Report) (cuts : ℕ)
    → Tells report (record numbers { cuts = numbers.cuts + cuts })
    → Tells report (counts_more 0 0 0 cuts numbers)
tells_cuts report numbers cuts tells =
    record {
      events = tells.events;
      asked = tells.asked ∙ none_more numbers.asked;
      acked = tells.acked;
      kept = tells.kept;
      refused = tells.refused ∙ none_more numbers.refused;
      fetched = tells.fetched ∙ none_more numbers.fetched;
      cuts = tells.cuts;
    }

-- ---- outcomes

both_false : (is such : Bool) → such ≡ false → (is && such) ≡ false
both_false true such not = not
both_false false such not = refl

-- ---- events of the server

-- the client at a place is another one of the same attempt
same_set : (parties : List Party) (c : ℕ) (party now : Party) → slice_get parties c ≡ Some party → SameAttempt party now
    → AllZip SameAttempt parties (slice_set parties c now)
same_set [] c party now at same = tt
same_set (first ∷ parties) zero party now at same =
    (subst (λ (p : Party). SameAttempt p now) (sym (same_Some first party at)) same, same-each parties)
same_set (first ∷ parties) (suc c) party now at same = (refl, same_set parties c party now at same)

-- then each of them is made into one of the same attempt
same_then : (change : Party → Party) → ((party : Party) → SameAttempt party (change party)) → (parties now : List Party)
    → AllZip SameAttempt parties now → AllZip SameAttempt parties (map change now)
same_then change same [] [] all = tt
same_then change same [] (it ∷ now) all = absurd all
same_then change same (party ∷ parties) [] all = absurd all
same_then change same (party ∷ parties) (it ∷ now) all =
    (same it ∙ all.0, same_then change same parties now all.1)

delivered_same : (world : World) (event : Event) (coming : NodeEvent) (delivered : World)
    → ServerTakes world event coming delivered → AllZip SameAttempt world.parties delivered.parties
delivered_same world (to_server zero place) coming delivered takes = absurd takes
delivered_same world (to_server (suc c) zero) coming delivered takes = absurd takes
delivered_same world (to_server (suc c) (suc at)) coming delivered takes =
    subst (λ (w : World). AllZip SameAttempt world.parties w.parties) (sym takes.delivered_is)
    (same_set world.parties c takes.party _ takes.is_party refl)
delivered_same world tick_server coming delivered takes =
    subst (λ (w : World). AllZip SameAttempt world.parties w.parties) (sym takes.1) (same-each world.parties)
delivered_same world (ask_upload n count) coming delivered takes = absurd takes
delivered_same world (ask_resume n) coming delivered takes = absurd takes
delivered_same world (ask_list n tokens) coming delivered takes = absurd takes
delivered_same world (ask_download n file) coming delivered takes = absurd takes
delivered_same world (to_client n place) coming delivered takes = absurd takes
delivered_same world (tick_client n) coming delivered takes = absurd takes
delivered_same world (break_client n) coming delivered takes = absurd takes
delivered_same world (cut_server call choice) coming delivered takes = absurd takes
delivered_same world (cut_client n call choice) coming delivered takes = absurd takes

one_of_both : (is : Bool) (party one other : Party) → SameAttempt party one → SameAttempt party other
    → SameAttempt party (if is then one else other)
one_of_both true party one other same also = same
one_of_both false party one other same also = also

heard_same : (did : ServerDid) (frame : FrameValue) (party : Party) → SameAttempt party (party_heard did frame party)
heard_same did frame party = one_of_both (is_same_call party.client.me frame.src) party _ party refl refl

after_same : (did : ServerDid) (coming : NodeEvent) (parties now : List Party) → AllZip SameAttempt parties now
    → AllZip SameAttempt parties (parties_after did coming now)
after_same did (hears frame moment) parties now all =
    same_then (party_heard did frame) (heard_same did frame) parties now all
after_same did (ticks moment) parties now all = same_then (party_ticked did) (λ party. refl) parties now all

does_same : (is_cut : Bool) (world : World) (coming : NodeEvent) (delivered next : World)
    → ServerDoes is_cut world coming delivered next → AllZip SameAttempt world.parties delivered.parties
    → AllZip SameAttempt world.parties next.parties
does_same false world coming delivered next does all =
    subst (λ (w : World). AllZip SameAttempt world.parties w.parties) (sym does.new_is)
    (after_same does.did coming world.parties delivered.parties all)
does_same true world coming delivered next does all =
    subst (λ (w : World). AllZip SameAttempt world.parties w.parties) (sym does.new_is)
    (same_then sessions_over (λ party. refl) world.parties delivered.parties all)

-- In an event of the server nothing that was asked comes to an outcome.
pub server_came : (is_such : Option Outcome → Bool) → is_such None ≡ false → (world : World) (event : Event)
    (next : World) → ServerEvent world event next → came_in is_such world next ≡ 0
server_came is_such not world event next happens =
    came-same is_such not world.parties next.parties
    (does_same world.is_cut world happens.coming happens.delivered next happens.does
    (delivered_same world event happens.coming happens.delivered happens.takes))

-- ---- a break, and cuts that are to come

-- of a client that starts again nothing was asked
pub broken_came : (is_such : Option Outcome → Bool) → is_such None ≡ false → (world next : World) (c : ℕ)
    (party : Party) → PartyAt world c party
    → next.parties ≡ slice_set world.parties c (broken party) → came_in is_such world next ≡ 0
broken_came is_such not world next c party at is =
    ap (λ (parties : List Party). came_in is_such world (record next { parties = parties })) is
    ∙ came-at is_such not world.parties c party (broken party) at
    ∙ ap one_if (both_false (is_under_way party.client.attempt) (is_such None) not)

-- the client at a place is another one of the same attempt
pub same_came : (is_such : Option Outcome → Bool) → is_such None ≡ false → (world next : World) (c : ℕ)
    (party now : Party) → PartyAt world c party → SameAttempt party now
    → next.parties ≡ slice_set world.parties c now → came_in is_such world next ≡ 0
same_came is_such not world next c party now at same is =
    ap (λ (parties : List Party). came_in is_such world (record next { parties = parties })) is
    ∙ came-same is_such not world.parties (slice_set world.parties c now)
    (same_set world.parties c party now at same)

-- no client changes
pub none_came : (is_such : Option Outcome → Bool) → is_such None ≡ false → (world next : World)
    → next.parties ≡ world.parties → came_in is_such world next ≡ 0
none_came is_such not world next is =
    ap (λ (parties : List Party). came_in is_such world (record next { parties = parties })) is
    ∙ came-same is_such not world.parties world.parties (same-each world.parties)

-- what isn't the own event of a client that acts
not_acts : (is : Bool) (role : Role) → role ≢ acts → (if is then role else looks_on) ≢ acts
not_acts true role other = other
not_acts false role other = λ e. (let no : looks_on ≡ acts = e in absurd cc)

pub break_cuts : (stations : Stations) (number : ℕ) (world : World)
    → cuts_in stations (break_client number) world ≡ 0
break_cuts stations number world = nobody_cuts stations (break_client number) world nobody
  where
    nobody : (station : Station) → role_of station (break_client number) ≢ acts
    nobody the_server = λ e. (let no : looks_on ≡ acts = e in absurd cc)
    nobody (client_at c) =
        not_acts (number == suc c) breaks_off (λ e. (let no : breaks_off ≡ acts = e in absurd cc))

pub cut_client_cuts : (stations : Stations) (number call choice : ℕ) (world : World)
    → cuts_in stations (cut_client number call choice) world ≡ 0
cut_client_cuts stations number call choice world =
    nobody_cuts stations (cut_client number call choice) world nobody
  where
    nobody : (station : Station) → role_of station (cut_client number call choice) ≢ acts
    nobody the_server = λ e. (let no : looks_on ≡ acts = e in absurd cc)
    nobody (client_at c) =
        not_acts (number == suc c) (will_be_cut call) (λ e. (let no : will_be_cut call ≡ acts = e in absurd cc))

pub cut_server_cuts : (stations : Stations) (call choice : ℕ) (world : World)
    → cuts_in stations (cut_server call choice) world ≡ 0
cut_server_cuts stations call choice world = nobody_cuts stations (cut_server call choice) world nobody
  where
    nobody : (station : Station) → role_of station (cut_server call choice) ≢ acts
    nobody the_server = λ e. (let no : will_be_cut call ≡ acts = e in absurd cc)
    nobody (client_at c) = λ e. (let no : looks_on ≡ acts = e in absurd cc)
