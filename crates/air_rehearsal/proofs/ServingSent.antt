-- What a server has sent, frame by frame.
use Rattle.std.proofs.Common.{◌≡◌, ℕ, Bool, true, false, List, [], ◌∷◌, ◌++◌, Option, None, Some, refl, sym, ap, subst}
use Rattle.std.proofs.Common.{◌∙◌}
use Rattle.std.specs.Prelude.{if◌then◌else◌}
use Rattle.ftl0_server.specs.Calls.{HandsOut}
use Rattle.ftl0_server.specs.Server.{IsSilent}
use Rattle.air_rehearsal.specs.declared.attempt.Attempt.{Attempt}
use Rattle.air_rehearsal.proofs.Names.{filter, IfOk, Result, Ok, Err, OnOk, FrameText, FrameValue, Store, HandsOutNext, Server, ServerSends, server_next, settled, IsServer, ServerState, Empties, HasLanes, Lanes, replying, replying_each, timing, timing_each, SendsReplies}

-- The server sends these frames one after another, and is this one then.
abbrev pub SendsEach : Server → List FrameValue → Server → Type 0
SendsEach server [] last = last ≡ server
SendsEach server (frame ∷ frames) last =
    (sends : ServerSends) × (server_next server ≡ Some sends) × (frame ≡ sends.frame)
    × SendsEach sends.after frames last

pub sends-more : (server : Server) (frames : List FrameValue) (last : Server) (sends : ServerSends)
    → SendsEach server frames last → server_next last ≡ Some sends
    → SendsEach server (frames ++ sends.frame ∷ []) sends.after
sends-more server [] last sends sent next =
    (sends, subst (λ (s : Server). server_next s ≡ Some sends) sent next, refl, refl)
sends-more server (frame ∷ frames) last sends sent next =
    (sent.0, sent.1, sent.2, sends-more sent.0.after frames last sends sent.3 next)

pub sends-empties : (server : Server) (frames : List FrameValue) (last : Server) → SendsEach server frames last
    → IsSilent last → Empties server frames last
sends-empties server [] last sent silent = (subst IsSilent sent silent, sent)
sends-empties server (frame ∷ frames) last sent silent =
    (sent.0, sent.1, sent.2, sends-empties sent.0.after frames last sent.3 silent)

pub replying-more : (frames : List FrameValue) (frame : FrameValue) (lanes : Lanes)
    → replying_each (frames ++ frame ∷ []) lanes ≡ replying frame (replying_each frames lanes)
replying-more [] frame lanes = refl
replying-more (first ∷ frames) frame lanes = replying-more frames frame (replying first lanes)

pub timing-more : (frames more : List FrameValue) (lanes : Lanes)
    → timing_each (frames ++ more) lanes ≡ timing_each more (timing_each frames lanes)
timing-more [] more lanes = refl
timing-more (first ∷ frames) more lanes = timing-more frames more (timing first lanes)

first-more : (b : Bool) (first : FrameValue) (kept whole more : List FrameValue) → whole ≡ kept ++ more
    → (if b then first ∷ whole else whole) ≡ (if b then first ∷ kept else kept) ++ more
first-more true first kept whole more is = ap (λ (l : List FrameValue). first ∷ l) is
first-more false first kept whole more is = is

pub filter-more : (keep : FrameValue → Bool) (frames : List FrameValue) (frame : FrameValue)
    → filter keep (frames ++ frame ∷ []) ≡ filter keep frames ++ filter keep (frame ∷ [])
filter-more keep [] frame = refl
filter-more keep (first ∷ frames) frame =
    first-more (keep first) first (filter keep frames) (filter keep (frames ++ frame ∷ [])) (filter keep (frame ∷ []))
    (filter-more keep frames frame)

-- What the answer of `next_out` says of a server that it was, over a store of files.
pub record HasSent (store : Store) (it : Server) (now : ServerState) (octets : List ℕ) : Type 0 where
  pub sends : ServerSends
  pub next : server_next it ≡ Some sends
  pub is : IsServer store now sends.after
  pub text : FrameText sends.frame octets

pub has-sent : (store : Store) (it : Server) (old new : ServerState) (before now : List ℕ) (answer : Bool)
    → answer ≡ true → HandsOutNext (IsServer store) old new before now answer → IsServer store old it
    → HasSent store it new now
has-sent store it old new before now answer given hands is = by (server_next it) refl (hands it is)
  where
    by : (next : Option ServerSends) → server_next it ≡ next → HandsOut (IsServer store) next old new before now answer
        → HasSent store it new now
    by None next gives = absurd (let wrong : true ≡ false = sym given ∙ gives.0 in cc)
    by (Some sends) next gives = record { sends = sends; next = next; is = gives.1; text = gives.3 }

pub is-silent : (store : Store) (it : Server) (old new : ServerState) (before now : List ℕ) (answer : Bool)
    → answer ≡ false → HandsOutNext (IsServer store) old new before now answer → IsServer store old it → IsSilent it
is-silent store it old new before now answer ended hands is = by (server_next it) refl (hands it is)
  where
    by : (next : Option ServerSends) → server_next it ≡ next → HandsOut (IsServer store) next old new before now answer
        → server_next it ≡ None
    by None next gives = next
    by (Some sends) next gives = absurd (let wrong : false ≡ true = sym ended ∙ gives.0 in cc)

-- The server has sent these frames so far, as replies in this attempt.
pub record RepliesSoFar (store : Store) (it : Server) (now : ServerState) (attempt attempt_now : Attempt)
    : Type 0 where
  pub frames : List FrameValue
  pub last : Server
  pub sent : SendsEach it frames last
  pub is : IsServer store now last
  pub lanes : (lanes : Lanes) → HasLanes attempt lanes → HasLanes attempt_now (replying_each frames lanes)

pub replies-first : (store : Store) (it : Server) (now : ServerState) (attempt : Attempt) → IsServer store now it
    → RepliesSoFar store it now attempt attempt
replies-first store it now attempt is = record {
  frames = [];
  last = it;
  sent = refl;
  is = is;
  lanes = λ lanes has. has;
}

pub replies-more :
    (store : Store) (it : Server) (old new : ServerState) (attempt mid attempt_now : Attempt) (before now : List ℕ)
    (answer : Bool) → RepliesSoFar store it old attempt mid → answer ≡ true
    → HandsOutNext (IsServer store) old new before now answer
    → ((lanes : Lanes) (frame : FrameValue) → HasLanes mid lanes → FrameText frame now
    → HasLanes attempt_now (replying frame lanes)) → RepliesSoFar store it new attempt attempt_now
replies-more store it old new attempt mid attempt_now before now answer so_far given hands replies =
    let next = has-sent store so_far.last old new before now answer given hands so_far.is in
    record {
      frames = so_far.frames ++ next.sends.frame ∷ [];
      last = next.sends.after;
      sent = sends-more it so_far.frames so_far.last next.sends so_far.sent next.next;
      is = next.is;
      lanes = λ lanes has.
          subst (λ (l : Lanes). HasLanes attempt_now l) (sym (replying-more so_far.frames next.sends.frame lanes))
          (replies (replying_each so_far.frames lanes) next.sends.frame (so_far.lanes lanes has) next.text);
    }

pub on-ok : {T E P : Type 0} (result : Result T E) → P → OnOk result P
on-ok (Ok done) holds = holds
on-ok (Err stop) holds = tt

pub on-ok-more : {T E P Q : Type 0} (result : Result T E) → (P → Q) → OnOk result P → OnOk result Q
on-ok-more (Ok done) more holds = more holds
on-ok-more (Err stop) more holds = tt

pub if-ok-more : {T E : Type 0} (P Q : T → Type 0) (result : Result T E) → ((it : T) → P it → Q it) → IfOk result P
    → IfOk result Q
if-ok-more P Q (Ok it) more holds = more it holds
if-ok-more P Q (Err stop) more holds = tt

pub replies-all :
    (store : Store) (it : Server) (old new : ServerState) (attempt attempt_now : Attempt) (before now : List ℕ)
    (answer : Bool) → RepliesSoFar store it old attempt attempt_now → answer ≡ false
    → HandsOutNext (IsServer store) old new before now answer
    → (answer ≡ false → (server : Server) → IsServer store old server → IsServer store new (settled server))
    → SendsReplies store it new attempt attempt_now
replies-all store it old new attempt attempt_now before now answer so_far ended hands settles = record {
  frames = so_far.frames;
  last = so_far.last;
  empties =
      sends-empties it so_far.frames so_far.last so_far.sent
      (is-silent store so_far.last old new before now answer ended hands so_far.is);
  settles = settles ended so_far.last so_far.is;
  lanes = so_far.lanes;
}
