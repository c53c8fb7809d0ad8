-- The lanes of an attempt, once a frame was sent in it.
use Rattle.std.proofs.Common.{◌≡◌, [], ◌∷◌, ◌++◌, Bool, ◌||◌, cond, true, false, subst, sym, ap, ◌∙◌}
use Rattle.air_rehearsal.specs.declared.attempt.Attempt.{Attempt as StoredAttempt}
use Rattle.air_rehearsal.proofs.Names.{FrameValue, fresh, is_call, HasLanes, IsLane, Lanes, beginning, is_ua, replying, sending, Lane}

-- the lanes once an attempt has begun, if one has
abbrev starting : Bool → Lanes → Lanes
starting true lanes = beginning lanes
starting false lanes = lanes

-- by whether the frame that the client sends begins an attempt
abbrev pub Begins : StoredAttempt → Lanes → Bool → Type 0
Begins before lanes is = HasLanes before (starting is lanes)

pub begins : (before : StoredAttempt) (lanes : Lanes) (is : Bool) → is ≡ true → HasLanes before (beginning lanes)
    → Begins before lanes is
begins before lanes is begun has = subst (Begins before lanes) (sym begun) has

pub goes-on : (before : StoredAttempt) (lanes : Lanes) (is : Bool) → is ≡ false → HasLanes before lanes
    → Begins before lanes is
goes-on before lanes is none has = subst (Begins before lanes) (sym none) has

module _ (frame : FrameValue) (lanes : Lanes) (before now : StoredAttempt) where
  -- the client sends it
  pub sends :
      Begins before lanes (is_call frame.kind.control) → now.from_server ≡ before.from_server
      → now.is_answered ≡ before.is_answered → now.number ≡ before.number
      → IsLane now.from_client ((starting (is_call frame.kind.control) lanes).by_client ++ fresh frame ∷ [])
      → HasLanes now (sending frame lanes)
  sends has server answered number client = by (is_call frame.kind.control) has client
    where
      by : (is : Bool) → Begins before lanes is → IsLane now.from_client ((starting is lanes).by_client ++ fresh frame ∷ [])
          → HasLanes now
          (cond is (record (beginning lanes) { by_client = fresh frame ∷ [] })
          (record lanes { by_client = lanes.by_client ++ fresh frame ∷ [] }))
      by true was sent =
          record {
            by_client = sent;
            by_server = subst (λ (lane : Lane). IsLane lane []) (sym server) was.by_server;
            answered_is = answered ∙ was.answered_is;
            number_is = number ∙ was.number_is;
          }
      by false was sent =
          record {
            by_client = sent;
            by_server = subst (λ (lane : Lane). IsLane lane lanes.by_server) (sym server) was.by_server;
            answered_is = answered ∙ was.answered_is;
            number_is = number ∙ was.number_is;
          }

  -- the server replies it
  pub replies :
      HasLanes before lanes → now.from_client ≡ before.from_client
      → now.is_answered ≡ (before.is_answered || is_ua frame.kind.control) → now.number ≡ before.number
      → IsLane now.from_server (lanes.by_server ++ fresh frame ∷ []) → HasLanes now (replying frame lanes)
  replies has client answered number sent =
      record {
        by_client = subst (λ (lane : Lane). IsLane lane lanes.by_client) (sym client) has.by_client;
        by_server = sent;
        answered_is = answered ∙ ap (λ b. b || is_ua frame.kind.control) has.answered_is;
        number_is = number ∙ has.number_is;
      }
