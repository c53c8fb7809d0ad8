-- What the server sends once it heard a frame makes of the transmissions of the attempt whose frame it is; and of no
-- other client's.
use Rattle.std.proofs.Common.{◌≡◌, ◌≢◌, ℕ, zero, suc, List, [], ◌∷◌, Bool, true, false, Option, None, Some, refl}
use Rattle.std.proofs.Common.{sym, ap, ap₂, subst, ◌∙◌, true≢false}
use Rattle.std.specs.Prelude.{if◌then◌else◌}
use Rattle.ftl0_server.specs.Slots.{place_of}
use Rattle.air_world.specs.Attempts.Party.{Party}
use Rattle.air_rehearsal.proofs.Names.{slice_get, AllByRecursion, option_map, option_or, cond_both, same_Some, slice_get-map, slice_get_within, IsAt, Transmission, control_of, is_call, slice_get-set_other, slice_get-set_same, NodeEvent, hears, is_same_call, same_call-decides, Connected, Slot, all_freed, connected, StepLaw, Attempt, IsAnsweredBy, IsAttempt, IsEndOf, IsFromTo, IsOneCall, AreAttempts, IsSeatedIn, all_over, newest, newest_side, server_sends, to_server_delivered, with_newest, ServerSide, ServerDid, after_hearing, begun, connection_of, heard_by, all-at, place-of-not, some-at, ServerDoes, DeliversToServer, with_current, IsAllowed, SoundLaw, to_server, IsSideAt, Sound, ServerGoes, party_heard, PartyAt, World, next_moment, with_party, HearingLanesLaw, lanes_of, replying_each}
use Rattle.air_rehearsal.proofs.AnswersCall.{answers-ua}
use Rattle.air_rehearsal.proofs.CallersSeat.{freed-seat}
use Rattle.air_rehearsal.proofs.SaidLanes.{replies}
use Rattle.air_rehearsal.proofs.SentLanes.{has_ua}

-- ---- attempts

-- the newest one, and the others
first-of : (attempts : List Attempt) (a : Attempt) → slice_get attempts 0 ≡ Some a
    → (older : List Attempt) × (attempts ≡ a ∷ older)
first-of [] a is = absurd cc
first-of (b ∷ older) a is = (older, ap (λ (x : Attempt). x ∷ older) (same_Some b a is))

-- the attempt of the newest session
newest-of : (P : Attempt → Type 0) (attempts : List Attempt) (side : ServerSide) → AllByRecursion P attempts
    → newest_side attempts ≡ Some side → (a : Attempt) × P a × (a.server ≡ Some side)
newest-of P [] side all is = absurd cc
newest-of P (a ∷ older) side all is = by (λ is. newest-of P older side all.1 is) a.server refl
  where
    by : (newest_side older ≡ Some side → (b : Attempt) × P b × (b.server ≡ Some side)) → (o : Option ServerSide)
        → a.server ≡ o → (b : Attempt) × P b × (b.server ≡ Some side)
    by rest None has = rest (ap (λ (o : Option ServerSide). option_or o (newest_side older)) (sym has) ∙ is)
    by rest (Some one) has =
        (a, all.0, has ∙ ap (λ (o : Option ServerSide). option_or o (newest_side older)) (sym has) ∙ is)

-- the only transmission of one
at-alone : (call t : Transmission) (place : ℕ) → IsAt (call ∷ []) place t → t ≡ call
at-alone call t zero at = sym (same_Some call t at)
at-alone call t (suc place) at = absurd cc

-- an attempt of which a frame comes that is no SABM was answered
served-by : (a : Attempt) (place : ℕ) (t : Transmission) → IsOneCall a.by_client → IsAnsweredBy a a.server
    → IsAt a.by_client place t → is_call (control_of t) ≡ false → (side : ServerSide) × (a.server ≡ Some side)
served-by a place t once answered at other = by a.server refl answered
  where
    by : (o : Option ServerSide) → a.server ≡ o → IsAnsweredBy a o → (side : ServerSide) × (a.server ≡ Some side)
    by (Some side) has answered = (side, has)
    by None has un =
        let same =
        at-alone un.alone.0 t place (subst (λ (list : List Transmission). IsAt list place t) un.alone.1 at) in
        let calls = (subst IsOneCall un.alone.1 once).0 in
        absurd (true≢false (sym calls ∙ ap (λ (x : Transmission). is_call (control_of x)) (sym same) ∙ other))

-- ---- the client whose frame it is

module _ (steps : StepLaw) (world delivered next : World) (c place : ℕ) (p : Party) (a : Attempt) (t : Transmission)
    (moment : ℕ) (sound : Sound world) (sound_next : Sound next) (is_p : PartyAt world c p)
    (current : newest p ≡ Some a) (at : IsAt a.by_client place t)
    (delivered_is : delivered ≡ with_party world c (with_current (to_server_delivered place t) p))
    (goes : ServerGoes world (hears t.frame moment) delivered next) where
  abbrev did : ServerDid
  did = goes.did

  attempt : IsAttempt p.client.me p.client.server a
  attempt =
      all-at (IsAttempt p.client.me p.client.server) p.attempts 0 a (sound.parties c p is_p).attempts current

  src : t.frame.src ≡ p.client.me
  src =
      (all-at (λ (u : Transmission). IsFromTo a.window p.client.me p.client.server u.frame) a.by_client place t
      attempt.stations.from_client at).src_is

  abbrev older : List Attempt
  older = (first-of p.attempts a current).0

  abbrev marked : Attempt
  marked = to_server_delivered place t a

  abbrev those : List Attempt
  those = after_hearing did t.frame (marked ∷ older)

  -- as it is once the delivery is marked
  abbrev one : Party
  one = record p { attempts = marked ∷ older }

  one-is : with_current (to_server_delivered place t) p ≡ one
  one-is =
      ap (λ (attempts : List Attempt). record p { attempts = with_newest (to_server_delivered place t) attempts })
      (first-of p.attempts a current).1

  one-at : PartyAt delivered c one
  one-at =
      ap (λ (w : World). slice_get w.parties c) delivered_is
      ∙ slice_get-set_same world.parties c (with_current (to_server_delivered place t) p)
      (slice_get_within world.parties c p is_p)
      ∙ ap Some one-is

  -- and once the server heard the frame
  then-at : PartyAt next c (record p { attempts = those })
  then-at =
      ap (λ (w : World). slice_get w.parties c) goes.new_is
      ∙ slice_get-map (party_heard did t.frame) delivered.parties c
      ∙ ap (option_map (party_heard did t.frame)) one-at
      ∙ ap (λ (mine : Bool). Some (if mine then record p { attempts = those } else one))
      ((same_call-decides p.client.me t.frame.src).1 (sym src))

  those-are : AreAttempts p.client.me p.client.server those
  those-are = (sound_next.parties c (record p { attempts = those }) then-at).attempts

  -- ---- a SABM that is answered

  -- the connections at places are of ends that answered
  answered-at : (at : ℕ) (it : Connected) → IsSeatedIn world.server at it → it.end.called ≡ false
  answered-at at it seated =
      let session = sound.places.sessions at it seated in
      let its =
      newest-of (IsAttempt session.party.client.me session.party.client.server) session.party.attempts session.side
      (sound.parties session.c session.party session.is_party).attempts session.is_newest in
      let serves =
      some-at
      (λ (side : ServerSide). IsEndOf false session.party.client.server session.party.client.me side.connected.end)
      its.0.server session.side its.1.stations.serves its.2 in
      ap (λ (d : Connected). d.end.called) (sym session.connected_is) ∙ serves.called_is

  -- the session that begins is at a place
  opened-seat : is_call t.frame.kind.control ≡ true → (now : Connected)
      → connection_of did.last t.frame.src ≡ Some now → place_of t.frame.src world.server.slots ≡ None
      → goes.gives.new.slots ≡ all_freed world.server.slots → ⊥
  opened-seat calls now last none slots =
      let first : Attempt = server_sends did.frames (record marked { server = Some (begun did now) }) in
      let those_is : those ≡ first ∷ all_over older =
      ap₂
      (λ (b : Bool) (o : Option Connected). heard_by b (connection_of did.old t.frame.src) o did t.frame
      (marked ∷ older)) calls last in
      let new_at : PartyAt next c (record p { attempts = first ∷ all_over older }) =
      subst (λ (attempts : List Attempt). PartyAt next c (record p { attempts = attempts })) those_is then-at in
      let side_at : IsSideAt (record p { attempts = first ∷ all_over older }) 0 (begun did now) =
      record { attempt = first; is_attempt = refl; is_side = refl } in
      let seat =
      sound_next.places.seated c 0 (record p { attempts = first ∷ all_over older }) (begun did now) new_at side_at
      refl in
      let there : slice_get (all_freed world.server.slots) seat.0 ≡ Some (connected now) =
      ap (λ (s : List Slot). slice_get s seat.0) (sym slots)
      ∙ ap (λ (w : World). slice_get w.server.slots seat.0) (sym goes.new_is) ∙ seat.1 in
      let are = subst (AreAttempts p.client.me p.client.server) those_is those-are in
      place-of-not t.frame.src world.server.slots none seat.0 now (freed-seat world.server.slots seat.0 now there)
      (are.0.stations.serves.peer_is ∙ sym src)

  opens : is_call t.frame.kind.control ≡ true → (now : Connected) → connection_of did.last t.frame.src ≡ Some now
      → has_ua did.frames ≡ true
  opens calls now last =
      ap (λ (d : ServerDid). has_ua d.frames) goes.did_is
      ∙ answers-ua steps world.server t.frame moment goes.gives goes.step calls
      (λ at it seated. record { up = sound.places.ups at it seated; answers = answered-at at it seated })
      (opened-seat calls now last)

  -- ---- its lanes

  pub own-lanes : (party now : Party) → PartyAt delivered c party → PartyAt next c now
      → lanes_of now.attempts ≡ replying_each did.frames (lanes_of party.attempts)
  own-lanes party now is is_now =
      ap (λ (q : Party). lanes_of q.attempts) (same_Some now (record p { attempts = those }) (sym is_now ∙ then-at))
      ∙ replies did t.frame p.client.me p.client.server marked older (is_call t.frame.kind.control)
      (connection_of did.old t.frame.src) (connection_of did.last t.frame.src) those-are opens
      (λ other. served-by a place t attempt.call attempt.answered at other)
      ∙ ap (λ (q : Party). replying_each did.frames (lanes_of q.attempts)) (same_Some one party (sym one-at ∙ is))

  -- ---- another client

  pub other-same : (i : ℕ) (party now : Party) → i ≢ c → PartyAt delivered i party → PartyAt next i now → now ≡ party
  other-same i party now other is is_now =
      let before : PartyAt world i party =
      sym (slice_get-set_other world.parties c i (with_current (to_server_delivered place t) p) other)
      ∙ ap (λ (w : World). slice_get w.parties i) (sym delivered_is) ∙ is in
      let after : now ≡ party_heard did t.frame party =
      same_Some now (party_heard did t.frame party)
      (sym is_now ∙ ap (λ (w : World). slice_get w.parties i) goes.new_is
      ∙ slice_get-map (party_heard did t.frame) delivered.parties i
      ∙ ap (option_map (party_heard did t.frame)) is) in
      after
      ∙ cond_both (is_same_call party.client.me t.frame.src)
      (record party { attempts = after_hearing did t.frame party.attempts }) party (λ (q : Party). q ≡ party)
      (λ mine.
      absurd
      (other
      (sound.stations.distinct i c party p before is_p
      ((same_call-decides party.client.me t.frame.src).0 mine ∙ src))))
      (λ theirs. refl)

-- ---- the law

-- the next world is sound
heard-sound : SoundLaw → (world delivered next : World) (c place : ℕ) (coming : NodeEvent) → Sound world
    → IsAllowed world (to_server (suc c) (suc place)) → world.is_cut ≡ false
    → DeliversToServer world c place coming delivered → ServerGoes world coming delivered next → Sound next
heard-sound laws world delivered next c place coming sound allowed uncut delivers goes =
    laws.kept world next (to_server (suc c) (suc place)) sound
    (record {
      allowed = allowed;
      happens = record {
        coming = coming;
        delivered = delivered;
        takes = delivers;
        does = subst (λ (cut : Bool). ServerDoes cut world coming delivered next) (sym uncut) goes;
      };
    })

module _ (laws : SoundLaw) (steps : StepLaw) (world : World) (c place : ℕ) (coming : NodeEvent)
    (delivered next : World) (sound : Sound world) (allowed : IsAllowed world (to_server (suc c) (suc place)))
    (uncut : world.is_cut ≡ false) (delivers : DeliversToServer world c place coming delivered)
    (goes : ServerGoes world coming delivered next) where
  -- what is so of each step that what comes makes
  from-hearing : (P : (did : ServerDid) → Type 0)
      → ((heard : ServerGoes world (hears delivers.t.frame (next_moment world)) delivered next) → P heard.did)
      → P goes.did
  from-hearing P each =
      subst (λ (k : NodeEvent). (it : ServerGoes world k delivered next) → P it.did) (sym delivers.coming_is) each goes

  abbrev later : Sound next
  later = heard-sound laws world delivered next c place coming sound allowed uncut delivers goes

  own : (party now : Party) → PartyAt delivered c party → PartyAt next c now
      → lanes_of now.attempts ≡ replying_each goes.did.frames (lanes_of party.attempts)
  own party now is is_now =
      from-hearing (λ did. lanes_of now.attempts ≡ replying_each did.frames (lanes_of party.attempts))
      (λ heard.
      own-lanes steps world delivered next c place delivers.party delivers.sent.attempt delivers.t
      (next_moment world) sound later delivers.is_party delivers.sent.current delivers.sent.is_at
      delivers.delivered_is heard party now is is_now)

  others : (i : ℕ) (party now : Party) → i ≢ c → PartyAt delivered i party → PartyAt next i now → now ≡ party
  others i party now other is is_now =
      from-hearing (λ did. now ≡ party)
      (λ heard.
      other-same steps world delivered next c place delivers.party delivers.sent.attempt delivers.t
      (next_moment world) sound later delivers.is_party delivers.sent.current delivers.sent.is_at
      delivers.delivered_is heard i party now other is is_now)

pub hearing_lanes : SoundLaw → StepLaw → HearingLanesLaw
hearing_lanes laws steps = record {
  own = λ world c place coming delivered next party now sound allowed uncut delivers goes is is_now.
      own laws steps world c place coming delivered next sound allowed uncut delivers goes party now is is_now;
  others = λ world c place i coming delivered next party now sound allowed uncut delivers goes other is is_now.
      others laws steps world c place coming delivered next sound allowed uncut delivers goes i party now other is
      is_now;
}
