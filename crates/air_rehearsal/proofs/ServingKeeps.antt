-- Where nothing of the clients changes but what was sent.
use Rattle.std.proofs.Common.{◌≡◌, ◌≢◌, ◌⊎◌, ℕ, zero, suc, ◌+◌, ◌<◌, Bool, true, false, List, [], ◌∷◌, ◌++◌, length, Some}
use Rattle.std.proofs.Common.{refl, sym, ap, subst, ◌∙◌, inl, inr, arith}
use Rattle.air_rehearsal.proofs.Names.{filter, slice_get, slice_set, length-set, same_Some, slice_get_within, CallSign, FrameText, FrameValue, is_same_call, Store, HandsOutNext, Server, settled, IsServer, ServerState, HasLanes, Lanes, timing_each, KeepParties, KeepsAllButLanes, KeepsClients, AreTimed, IsTimed, SendsByTimer, Party, Stations}
use Rattle.air_rehearsal.proofs.PairLemmas.{set_at}
use Rattle.air_rehearsal.proofs.ServingParties.{at-place}
use Rattle.air_rehearsal.proofs.ServingSent.{SendsEach, filter-more, has-sent, is-silent, sends-empties, sends-more}
use Rattle.air_rehearsal.proofs.ServingSent.{timing-more}

keep-same : (party : Party) → KeepsAllButLanes party party
keep-same party = record { same = refl }

pub keep-refl : (all : List Party) → KeepParties all all
keep-refl [] = tt
keep-refl (party ∷ all) = (keep-same party, keep-refl all)

pub keep-set : (all : List Party) (c : ℕ) (old new : Party) → slice_get all c ≡ Some old → KeepsAllButLanes old new
    → KeepParties all (slice_set all c new)
keep-set [] c old new at keeps = tt
keep-set (party ∷ all) zero old new at keeps =
    (subst (λ (p : Party). KeepsAllButLanes p new) (sym (same_Some party old at)) keeps, keep-refl all)
keep-set (party ∷ all) (suc c) old new at keeps = (keep-same party, keep-set all c old new at keeps)

keep-then : (old mid new : Party) → KeepsAllButLanes old mid → KeepsAllButLanes mid new → KeepsAllButLanes old new
keep-then old mid new first second = record {
  same = second.same ∙ ap (λ (p : Party). record p { attempt = new.attempt }) first.same;
}

pub keep-on : (first second third : List Party) → KeepParties first second → KeepParties second third
    → KeepParties first third
keep-on [] [] [] one other = tt
keep-on [] [] (c ∷ third) one other = absurd other
keep-on [] (b ∷ second) third one other = absurd one
keep-on (a ∷ first) [] third one other = absurd one
keep-on (a ∷ first) (b ∷ second) [] one other = absurd other
keep-on (a ∷ first) (b ∷ second) (c ∷ third) one other =
    (keep-then a b c one.0 other.0, keep-on first second third one.1 other.1)

pub keeps-self : (stations : Stations) → KeepsClients stations stations
keeps-self stations = record {
  me = refl;
  k = refl;
  parties = keep-refl stations.parties.items;
  uploads = refl;
  moment = refl;
  report = refl;
}

pub keeps-then : (first second third : Stations) → KeepsClients first second → KeepsClients second third
    → KeepsClients first third
keeps-then first second third one other = record {
  me = other.me ∙ one.me;
  k = other.k ∙ one.k;
  parties = keep-on first.parties.items second.parties.items third.parties.items one.parties other.parties;
  uploads = other.uploads ∙ one.uploads;
  moment = other.moment ∙ one.moment;
  report = other.report ∙ one.report;
}

-- ---- what is sent by a timer

timed-keep : (frames : List FrameValue) (old new : Party) → IsTimed frames old new → KeepsAllButLanes old new
timed-keep frames old new timed = record { same = timed.same }

pub timed-keeps : (frames : List FrameValue) (all now : List Party) → AreTimed frames all now → KeepParties all now
timed-keeps frames [] [] timed = tt
timed-keeps frames [] (new ∷ now) timed = absurd (let no : ⊥ = omega (arith, timed.as_many) in no)
timed-keeps frames (old ∷ all) [] timed = absurd (let no : ⊥ = omega (arith, timed.as_many) in no)
timed-keeps frames (old ∷ all) (new ∷ now) timed = (
  timed-keep frames old new (timed.each zero old new refl refl),
  timed-keeps frames all now
      (record {
        as_many = (let less : length now ≡ length all = omega (arith, timed.as_many) in less);
        each = λ i self party at there. timed.each (suc i) self party at there;
      }),
)

-- no frame was sent
timed-still : (party : Party) → IsTimed [] party party
timed-still party = record { same = refl; lanes = λ lanes has. has }

pub timed-none : (all : List Party) → AreTimed [] all all
timed-none all = record {
  as_many = refl;
  each = λ i old new at there.
      subst (λ (p : Party). IsTimed [] old p) (same_Some old new (sym at ∙ there)) (timed-still old);
}

-- one frame more
timed-one :
    (frames : List FrameValue) (frame : FrameValue) (old mid new : Party) → IsTimed frames old mid
    → IsTimed (frame ∷ []) mid new → IsTimed (frames ++ frame ∷ []) old new
timed-one frames frame old mid new first second =
    let to = λ (me : CallSign) (it : FrameValue). is_same_call it.dest me in
    let me : mid.me ≡ old.me = ap (λ (p : Party). p.me) first.same in
    record {
      same = second.same ∙ ap (λ (p : Party). record p { attempt = new.attempt }) first.same;
      lanes = λ lanes has.
          let then = second.lanes (timing_each (filter (to old.me) frames) lanes) (first.lanes lanes has) in
          let mine = subst
          (λ (call : CallSign).
          HasLanes new.attempt
          (timing_each (filter (to call) (frame ∷ [])) (timing_each (filter (to old.me) frames) lanes))) me then in
          subst (λ (l : Lanes). HasLanes new.attempt l)
          (sym
          (ap (λ (l : List FrameValue). timing_each l lanes) (filter-more (to old.me) frames frame)
          ∙ timing-more (filter (to old.me) frames) (filter (to old.me) (frame ∷ [])) lanes)) mine;
    }

pub timed-more :
    (frames : List FrameValue) (frame : FrameValue) (all mid now : List Party) → AreTimed frames all mid
    → AreTimed (frame ∷ []) mid now → AreTimed (frames ++ frame ∷ []) all now
timed-more frames frame all mid now first second = record {
  as_many = second.as_many ∙ first.as_many;
  each = λ i old new at there.
      let within : i < length mid = omega (arith, slice_get_within all i old at, first.as_many) in
      let between = at-place mid i within in
      timed-one frames frame old between.0 new (first.each i old between.0 at between.1)
      (second.each i between.0 new between.1 there);
}

-- ---- one frame, client by client

-- The clients before this place were sent the frame, if it is for them, and the others are as they were.
pub record TimedSoFar (frame : FrameValue) (place : ℕ) (all now : List Party) : Type 0 where
  pub as_many : length now ≡ length all
  pub before :
      (i : ℕ) (old new : Party) → i < place → slice_get all i ≡ Some old → slice_get now i ≡ Some new
      → IsTimed (frame ∷ []) old new
  pub later : (i : ℕ) (new : Party) → ¬ (i < place) → slice_get now i ≡ Some new → slice_get all i ≡ Some new

pub timed-start : (frame : FrameValue) (all : List Party) → TimedSoFar frame 0 all all
timed-start frame all = record {
  as_many = refl;
  before = λ i old new before at there. absurd (let no : ⊥ = omega arith in no);
  later = λ i new later at. at;
}

pub timed-end : (frame : FrameValue) (place : ℕ) (all now : List Party) → TimedSoFar frame place all now
    → ¬ (place < length all) → AreTimed (frame ∷ []) all now
timed-end frame place all now so_far past = record {
  as_many = so_far.as_many;
  each = λ i old new at there.
      let within = slice_get_within all i old at in
      so_far.before i old new (omega (arith, within, past)) at there;
}

-- ---- a server that says what it has to say by its timer

-- It has sent these frames so far, each to the client that it is for.
pub record SaysSoFar (store : Store) (it : Server) (now : ServerState) (parties parties_now : List Party)
    : Type 0 where
  pub frames : List FrameValue
  pub last : Server
  pub sent : SendsEach it frames last
  pub is : IsServer store now last
  pub timed : AreTimed frames parties parties_now

pub says-first : (store : Store) (it : Server) (now : ServerState) (parties : List Party) → IsServer store now it
    → SaysSoFar store it now parties parties
says-first store it now parties is = record {
  frames = [];
  last = it;
  sent = refl;
  is = is;
  timed = timed-none parties;
}

pub says-more :
    (store : Store) (it : Server) (old new : ServerState) (parties mid parties_now : List Party) (before now : List ℕ)
    (answer : Bool) → SaysSoFar store it old parties mid → answer ≡ true
    → HandsOutNext (IsServer store) old new before now answer
    → ((frame : FrameValue) → FrameText frame now → AreTimed (frame ∷ []) mid parties_now)
    → SaysSoFar store it new parties parties_now
says-more store it old new parties mid parties_now before now answer so_far given hands says =
    let next = has-sent store so_far.last old new before now answer given hands so_far.is in
    record {
      frames = so_far.frames ++ next.sends.frame ∷ [];
      last = next.sends.after;
      sent = sends-more it so_far.frames so_far.last next.sends so_far.sent next.next;
      is = next.is;
      timed =
          timed-more so_far.frames next.sends.frame parties mid parties_now so_far.timed
          (says next.sends.frame next.text);
    }

pub says-all :
    (store : Store) (it : Server) (old new : ServerState) (parties parties_now : List Party) (before now : List ℕ)
    (answer : Bool) → SaysSoFar store it old parties parties_now → answer ≡ false
    → HandsOutNext (IsServer store) old new before now answer
    → (answer ≡ false → (server : Server) → IsServer store old server → IsServer store new (settled server))
    → SendsByTimer store it new parties parties_now
says-all store it old new parties parties_now before now answer so_far ended hands settles = record {
  frames = so_far.frames;
  last = so_far.last;
  empties =
      sends-empties it so_far.frames so_far.last so_far.sent
      (is-silent store so_far.last old new before now answer ended hands so_far.is);
  settles = settles ended so_far.last so_far.is;
  timed = so_far.timed;
}

pub keep-length : (all now : List Party) → KeepParties all now → length now ≡ length all
keep-length [] [] keeps = refl
keep-length [] (new ∷ now) keeps = absurd keeps
keep-length (old ∷ all) [] keeps = absurd keeps
keep-length (old ∷ all) (new ∷ now) keeps = ap suc (keep-length all now keeps.1)

pub timed-step :
    (frame : FrameValue) (place : ℕ) (all now : List Party) (self new : Party) → TimedSoFar frame place all now
    → slice_get now place ≡ Some self → IsTimed (frame ∷ []) self new
    → TimedSoFar frame (place + 1) all (slice_set now place new)
timed-step frame place all now self new so_far at timed = record {
  as_many = length-set now place new ∙ so_far.as_many;
  before = λ i old s less there is. before_by i old s less there (set_at now place i new s is);
  later = λ i s past is. later_by i s past (set_at now place i new s is);
}
  where
    before_by : (i : ℕ) (old s : Party) → i < place + 1 → slice_get all i ≡ Some old
        → ((i ≡ place) × (s ≡ new)) ⊎ ((i ≢ place) × (slice_get now i ≡ Some s)) → IsTimed (frame ∷ []) old s
    before_by i old s less there (inl own) =
        let was = so_far.later place self (λ less. let no : ⊥ = omega arith in no) at in
        let here = subst (λ (j : ℕ). slice_get all j ≡ Some old) own.0 there in
        subst (λ (p : Party). IsTimed (frame ∷ []) old p) (sym own.1)
        (subst (λ (p : Party). IsTimed (frame ∷ []) p new) (same_Some self old (sym was ∙ here)) timed)
    before_by i old s less there (inr other) =
        let less_now : i < place = omega (arith, less, other.0) in so_far.before i old s less_now there other.1

    later_by : (i : ℕ) (s : Party) → ¬ (i < place + 1)
        → ((i ≡ place) × (s ≡ new)) ⊎ ((i ≢ place) × (slice_get now i ≡ Some s)) → slice_get all i ≡ Some s
    later_by i s past (inl own) = absurd (past (let less : i < place + 1 = omega (arith, own.0) in less))
    later_by i s past (inr other) =
        so_far.later i s (λ less. past (let more : i < place + 1 = omega (arith, less) in more)) other.1
