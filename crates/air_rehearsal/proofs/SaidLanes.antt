-- What the frames that the server sends make of the transmissions of a client's current attempt, by what becomes of the
-- client's attempts.
use Rattle.std.proofs.Common.{◌≡◌, ℕ, suc, List, [], ◌∷◌, length, map, Bool, true, false, Option, None, Some, refl, sym, ap, ◌∙◌}
use Rattle.std.specs.Prelude.{◌||◌}
use Rattle.ftl0_server.specs.Entries as session
use Rattle.air_rehearsal.proofs.Names.{is_some, slice_get, option_map, length-map, AllByRecursion, option_map_or, or_from, or_left, or_right, CallSign, FrameValue, Transmission, fresh, sending_all, Connected, Attempt, IsAnsweredBy, IsAttempt, IsRefusal, AreAttempts, over, server_sends, with_answered, ServerSide, ServerDid, heard_by, served, ticked_by, is_ua, lanes_of, replying_each, timing_each}
use Rattle.air_rehearsal.proofs.SentLanes.{has_ua, replying-each, timing-answered, timing-unanswered, with_said}

-- ---- where no session answers

-- no UA is among refusals
refused-none : (frames : List FrameValue) → AllByRecursion IsRefusal (map fresh frames) → has_ua frames ≡ false
refused-none [] all = refl
refused-none (frame ∷ frames) all =
    or_from (is_ua frame.kind.control) (has_ua frames) (ap is_ua all.0.refuses) (refused-none frames all.1)

refused-behind : (frames : List FrameValue) (list : List Transmission)
    → AllByRecursion IsRefusal (sending_all list frames) → has_ua frames ≡ false
refused-behind frames [] all = refused-none frames all
refused-behind frames (t ∷ list) all = refused-behind frames list all.1

-- so none is among frames that leave it so
unanswered-none : (frames : List FrameValue) (a : Attempt) (o : Option ServerSide)
    → IsAnsweredBy (server_sends frames a) o → is_some o ≡ (is_some o || has_ua frames)
unanswered-none frames a None un = sym (refused-behind frames a.by_server un.refused)
unanswered-none frames a (Some side) answered = refl

-- ---- a frame

module _ (did : ServerDid) (frame : FrameValue) (me server : CallSign) (a : Attempt) (older : List Attempt) where
  -- these are the lanes of the newest of these attempts once the server sent its frames
  abbrev Replies : List Attempt → Type 0
  Replies now = lanes_of now ≡ replying_each did.frames (lanes_of (a ∷ older))

  replies-by : (answered : Bool) → answered ≡ (is_some a.server || has_ua did.frames)
      → with_said (lanes_of (a ∷ older)) did.frames answered ≡ replying_each did.frames (lanes_of (a ∷ older))
  replies-by answered is =
      ap (with_said (lanes_of (a ∷ older)) did.frames) is ∙ sym (replying-each did.frames (lanes_of (a ∷ older)))

  -- no session hears it
  passed : IsAttempt me server (server_sends did.frames a) → Replies (server_sends did.frames a ∷ older)
  passed is = replies-by (is_some a.server) (unanswered-none did.frames a a.server is.answered)

  -- a session does, which is of the newest attempt
  heard : (now : Connected) (entries : List session.SessionEntry) (side : ServerSide) → a.server ≡ Some side
      → Replies (with_answered (served did now entries) (a ∷ older))
  heard now entries side has =
      ap
      (λ (o : Option ServerSide).
      lanes_of (option_map_or (λ s. served did now entries a s ∷ older) o
      (a ∷ with_answered (served did now entries) older))) has
      ∙ replies-by true (sym (or_left (is_some a.server) (has_ua did.frames) (ap is_some has)))

  pub replies : (calls : Bool) (was now : Option Connected)
      → AreAttempts me server (heard_by calls was now did frame (a ∷ older))
      → (calls ≡ true → (c : Connected) → now ≡ Some c → has_ua did.frames ≡ true)
      → (calls ≡ false → (side : ServerSide) × (a.server ≡ Some side))
      → Replies (heard_by calls was now did frame (a ∷ older))
  replies true was (Some c) are opens serves =
      ap (λ (n : ℕ). record (lanes_of (server_sends did.frames a ∷ older)) { answered = true; attempts = suc n })
      (length-map older (λ (b : Attempt). record b { server = option_map over b.server }))
      ∙ replies-by true (sym (or_right (is_some a.server) (has_ua did.frames) (opens refl c refl)))
  replies true was None are opens serves = passed are.0
  replies false (Some c) (Some now) are opens serves =
      let has = serves refl in
      heard now (session.entries_heard did.old.window did.moment did.old.store did.old.lists c frame) has.0 has.1
  replies false (Some c) None are opens serves = passed are.0
  replies false None now are opens serves = passed are.0

-- ---- a tick

-- one of the attempts is changed, and none comes or goes
length-answered : (change : Attempt → ServerSide → Attempt) (attempts : List Attempt)
    → length (with_answered change attempts) ≡ length attempts
length-answered change [] = refl
length-answered change (a ∷ older) = by (length-answered change older) a.server
  where
    by : length (with_answered change older) ≡ length older → (o : Option ServerSide)
        → length (option_map_or (λ side. change a side ∷ older) o (a ∷ with_answered change older)) ≡ suc (length older)
    by same None = ap suc same
    by same (Some side) = refl

module _ (did : ServerDid) where
  -- these are the lanes of the newest of these attempts once the server sent its frames
  abbrev Times : List Attempt → List Attempt → Type 0
  Times before now = lanes_of now ≡ timing_each did.frames (lanes_of before)

  -- the current attempt is answered
  abbrev pub IsServed : List Attempt → Type 0
  IsServed attempts = (a : Attempt) × (slice_get attempts 0 ≡ Some a) × ((side : ServerSide) × (a.server ≡ Some side))

  -- where its attempts stay no frame is for it, unless no session answered the current one
  stays : (attempts : List Attempt) → (IsServed attempts → did.frames ≡ []) → Times attempts attempts
  stays [] none = sym (timing-unanswered did.frames (lanes_of []) refl)
  stays (a ∷ older) none = by a.server refl
    where
      by : (o : Option ServerSide) → a.server ≡ o → Times (a ∷ older) (a ∷ older)
      by None has = sym (timing-unanswered did.frames (lanes_of (a ∷ older)) (ap is_some has))
      by (Some side) has =
          ap (λ frames. timing_each frames (lanes_of (a ∷ older))) (sym (none (a, refl, (side, has))))

  -- the newest attempt, by whether a session answered it
  abbrev newest_by : Connected → Attempt → List Attempt → Option ServerSide → List Attempt
  newest_by now a older o =
      option_map_or (λ s. served did now [] a s ∷ older) o (a ∷ with_answered (served did now []) older)

  goes-on : (now : Connected) (attempts : List Attempt) → Times attempts (with_answered (served did now []) attempts)
  goes-on now [] = sym (timing-unanswered did.frames (lanes_of []) refl)
  goes-on now (a ∷ older) = by a.server refl
    where
      by : (o : Option ServerSide) → a.server ≡ o
          → lanes_of (newest_by now a older a.server) ≡ timing_each did.frames (lanes_of (a ∷ older))
      by None has =
          ap (λ (o : Option ServerSide). lanes_of (newest_by now a older o)) has
          ∙ ap (λ (n : ℕ). record (lanes_of (a ∷ older)) { attempts = suc n })
          (length-answered (served did now []) older)
          ∙ sym (timing-unanswered did.frames (lanes_of (a ∷ older)) (ap is_some has))
      by (Some side) has =
          ap (λ (o : Option ServerSide). lanes_of (newest_by now a older o)) has
          ∙ ap (with_said (lanes_of (a ∷ older)) did.frames) (sym (ap is_some has))
          ∙ sym (timing-answered did.frames (lanes_of (a ∷ older)) (ap is_some has))

  pub times : (was now : Option Connected) (attempts : List Attempt)
      → (was ≡ None → IsServed attempts → did.frames ≡ [])
      → ((c : Connected) → was ≡ Some c → now ≡ None → IsServed attempts → ⊥)
      → Times attempts (ticked_by was now did attempts)
  times (Some c) (Some now) attempts none lost = goes-on now attempts
  times (Some c) None attempts none lost = stays attempts (λ served. absurd (lost c refl refl served))
  times None now attempts none lost = stays attempts (none refl)
