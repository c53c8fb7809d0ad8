-- The server took part in the event of a frame that it heard, or of a tick, and sent what it had to send.
use Rattle.std.proofs.Common.{◌≡◌, ℕ, zero, suc, ◌≤◌, List, [], ◌∷◌, Option, None, Some, IfSome, Result, false, true, refl}
use Rattle.std.proofs.Common.{sym, ap, subst, ◌∙◌}
use Rattle.air_rehearsal.specs.declared.serving.ServerEvent.{ServerEvent}
use Rattle.air_rehearsal.specs.declared.serving.ServerEvent.TheVariants.{Hear, Tick}
use Rattle.air_rehearsal.proofs.Names.{AnswersEvent, event_of, is_ok, is_some, slice_get, slice_set, ⊤, Cuts, LastsSo, cut_state, Ghosts, DiskFault, store_on, Store, Hears, Server, IsServer, happening, NodeEvent, ticks, MissesLaw, to_server_delivered, DeliversToServer, with_current, IsAllowed, Event, tick_server, to_server, World, next_moment, HearingLanesLaw, TickingLanesLaw, KeepsClients, IsTaken, RepliesAt, SendsByTimer, AwaitsServer, ServesEvent, Serving, PlayParties, PlaysStations, Cut, Party as StoredParty, Stations}
use Rattle.air_rehearsal.proofs.Served.{serves-whole}
use Rattle.air_rehearsal.proofs.ServingDisk.{WentWhole, steady-on, went-whole}
use Rattle.air_rehearsal.proofs.ServingHeard.{plays-heard, plays-ticked}
use Rattle.air_rehearsal.proofs.ServingParties.{plays-at}

at-own : {X : Type 0} (xs : List X) (i : ℕ) (old x : X) → slice_get xs i ≡ Some old
    → slice_get (slice_set xs i x) i ≡ Some x
at-own [] i old x at = absurd cc
at-own (y ∷ ys) zero old x at = refl
at-own (y ∷ ys) (suc i) old x at = at-own ys i old x at

-- the client whose frame is delivered is among those that are played
own-at : (world : World) (c place : ℕ) (coming : NodeEvent) (delivered : World) (all : List StoredParty)
    → DeliversToServer world c place coming delivered → PlayParties all delivered.parties
    → (self : StoredParty) × (slice_get all c ≡ Some self)
own-at world c place coming delivered all takes plays =
    let party = with_current (to_server_delivered place takes.t) takes.party in
    let is = at-own world.parties c takes.party party takes.is_party in
    let at = subst (λ (w : World). slice_get w.parties c ≡ Some party) (sym takes.delivered_is) is in
    let it = plays-at all delivered.parties c party plays at in
    (it.0, it.1)

-- What is known of the stations and the server behind an event.
pub record KeepsSo {B : Type 0} (old mid new : Serving B) : Type 0 where
  pub none : old.stations.cut ≡ None
  pub me : new.server.me ≡ new.stations.me
  pub k : new.stations.k ≡ old.stations.k
  pub uploads : new.stations.uploads ≡ mid.stations.uploads
  pub cut : new.stations.cut ≡ mid.stations.cut
  pub disk : new.disk ≡ mid.disk
  pub store : new.server.store ≡ mid.server.store

-- nothing but a cut that waits is taken away
pub keeps-no-cut : (old new : Stations) → KeepsClients old new → KeepsClients old (record new { cut = None })
keeps-no-cut old new keeps = record {
  me = keeps.me;
  k = keeps.k;
  parties = keeps.parties;
  uploads = keeps.uploads;
  moment = keeps.moment;
  report = keeps.report;
}

module _ {B : Type 0} (g : Ghosts B) (cuts : Cuts B)
    (lasts_so : (old new : B) → g.lasts old new → LastsSo (cut_state g cuts old) (cut_state g cuts new))
    (is_image : (disk : B) → IfSome (g.content disk) (g.images disk))
    (counts_now : (disk : B) (t : ℕ) (image : List ℕ) → t ≤ g.moment disk → g.images disk image
    → g.images_since disk t image) (misses : MissesLaw) (world : World) where
  whole-of :
      (event : Event) (old mid : Serving B) (answer : Result ⊤ DiskFault) → AwaitsServer g cuts world old
      → (taken : IsTaken g world event old mid answer) → is_ok answer ≡ true → cuts.is_starved mid.disk ≡ false
      → WentWhole g world.server taken.coming old.server mid.server old.disk mid.disk
  whole-of event old mid answer awaits taken ok memory =
      went-whole g misses world.server taken.coming old.server mid.server old.disk mid.disk answer ok
      awaits.steady.reads taken.hears
      (λ missed commands does.
      (steady-on g cuts lasts_so old.disk mid.disk awaits.steady memory does.puts.lasts does.puts.told).1)

  pub serves-heard :
      (laws : HearingLanesLaw) (c place : ℕ) (old mid new : Serving B) (answer : Result ⊤ DiskFault)
      → AwaitsServer g cuts world old → IsAllowed world (to_server (suc c) (suc place)) → KeepsSo old mid new
      → IsTaken g world (to_server (suc c) (suc place)) old mid answer → is_ok answer ≡ true
      → cuts.is_starved mid.disk ≡ false
      → ((store : Store) (it : Server) (party : StoredParty) → IsServer store mid.server it
      → slice_get mid.stations.parties.items c ≡ Some party
      → RepliesAt store c it new.server party mid.stations.parties.items new.stations.parties.items)
      → ServesEvent g cuts world (to_server (suc c) (suc place)) old new
  serves-heard laws c place old mid new answer awaits allowed keeps taken ok memory replies =
      let whole = whole-of (to_server (suc c) (suc place)) old mid answer awaits taken ok memory in
      let self = own-at world c place taken.coming taken.delivered mid.stations.parties.items taken.takes
      taken.plays.parties in
      let sent = replies (store_on g mid.server.store mid.disk) (happening world.server taken.coming []).after self.0
      whole.is self.1 in
      let not_cut : world.is_cut ≡ false =
      sym awaits.plays.stations.cut_is ∙ ap (λ (o : Option Cut). is_some o) keeps.none in
      let plays = plays-heard laws world awaits.sound c place allowed not_cut taken.coming taken.delivered taken.takes
      sent.replies.frames sent.replies.last sent.replies.empties mid.stations.parties.items new.stations.parties.items
      self.0 sent.attempt_now taken.plays.parties self.1 sent.replies.lanes sent.parties_are in
      serves-whole g cuts lasts_so is_image counts_now world (to_server (suc c) (suc place)) old mid new answer awaits
      keeps.none taken whole memory sent.replies.frames sent.replies.last sent.replies.empties sent.replies.settles
      keeps.disk keeps.store keeps.me keeps.k keeps.uploads keeps.cut plays

  -- the event of a tick, taken
  abbrev pub ticks-taken :
      (old mid : Serving B) (answer : Result ⊤ DiskFault) → Hears g (happening world.server (ticks (next_moment world)))
      old.server mid.server old.disk mid.disk answer → PlaysStations mid.stations world
      → IsTaken g world tick_server old mid answer
  ticks-taken old mid answer hears plays = record {
    coming = ticks (next_moment world);
    delivered = world;
    takes = (refl, refl);
    hears = hears;
    plays = plays;
  }

  pub serves-ticked :
      (laws : TickingLanesLaw) (old mid new : Serving B) (answer : Result ⊤ DiskFault) → AwaitsServer g cuts world old
      → KeepsSo old mid new
      → Hears g (happening world.server (ticks (next_moment world))) old.server mid.server old.disk mid.disk answer
      → PlaysStations mid.stations world → is_ok answer ≡ true → cuts.is_starved mid.disk ≡ false
      → ((store : Store) (it : Server) → IsServer store mid.server it
      → SendsByTimer store it new.server mid.stations.parties.items new.stations.parties.items)
      → ServesEvent g cuts world tick_server old new
  serves-ticked laws old mid new answer awaits keeps hears stations ok memory says =
      let taken = ticks-taken old mid answer hears stations in
      let whole = whole-of tick_server old mid answer awaits taken ok memory in
      let sent = says (store_on g mid.server.store mid.disk)
      (happening world.server (ticks (next_moment world)) []).after whole.is in
      let not_cut : world.is_cut ≡ false =
      sym awaits.plays.stations.cut_is ∙ ap (λ (o : Option Cut). is_some o) keeps.none in
      let plays = plays-ticked laws world awaits.sound not_cut sent.frames sent.last sent.empties
      mid.stations.parties.items new.stations.parties.items stations.parties sent.timed in
      serves-whole g cuts lasts_so is_image counts_now world tick_server old mid new answer awaits keeps.none taken whole
      memory sent.frames sent.last sent.empties sent.settles keeps.disk keeps.store keeps.me keeps.k keeps.uploads keeps.cut plays

  -- whichever event it was
  pub serves-answered :
      (heard : HearingLanesLaw) (ticked : TickingLanesLaw) (event : ServerEvent) (old mid new : Serving B)
      (answer : Result ⊤ DiskFault) → AwaitsServer g cuts world old → IsAllowed world (event_of event)
      → KeepsSo old mid new → IsTaken g world (event_of event) old mid answer → is_ok answer ≡ true
      → cuts.is_starved mid.disk ≡ false
      → ((store : Store) (it : Server) → IsServer store mid.server it
      → AnswersEvent event store it new.server mid.stations.parties.items new.stations.parties.items)
      → ServesEvent g cuts world (event_of event) old new
  serves-answered heard ticked (Hear c place) old mid new answer awaits allowed keeps taken ok memory answers =
      serves-heard heard c place old mid new answer awaits allowed keeps taken ok memory
      (λ store it party is at. answers store it is party at)
  serves-answered heard ticked Tick old mid new answer awaits allowed keeps taken ok memory answers =
      serves-ticked ticked old mid new answer awaits keeps
      (subst (λ (n : NodeEvent). Hears g (happening world.server n) old.server mid.server old.disk mid.disk answer)
      taken.takes.0 taken.hears)
      (subst (λ (w : World). PlaysStations mid.stations w) taken.takes.1 taken.plays) ok memory answers
