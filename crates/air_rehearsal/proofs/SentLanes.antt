-- What frames that are sent make of the transmissions of an attempt, all together.
use Rattle.std.proofs.Common.{◌≡◌, List, [], ◌∷◌, ◌++◌, map, Bool, true, false, refl, sym, ap, ap₂, ◌∙◌, append_assoc}
use Rattle.std.proofs.Common.{append-nil, length}
use Rattle.std.specs.Prelude.{◌||◌, if◌then◌else◌}
use Rattle.ax25_link.specs.Laws.{HasNoCall}
use Rattle.air_rehearsal.proofs.Names.{AllByRecursion, list_any, FrameValue, Transmission, control_of, fresh, sending_all, is_call, Attempt, IsOneCall, Lanes, beginning, is_ua, lanes_of, replying_each, sending_each, timing_each}

-- one frame more behind those that were sent, and then others
sent-more : (list : List Transmission) (frame : FrameValue) (frames : List FrameValue)
    → sending_all (list ++ fresh frame ∷ []) frames ≡ sending_all list (frame ∷ frames)
sent-more list frame frames = append_assoc list (fresh frame ∷ []) (map fresh frames)

-- as many attempts are counted as there are
pub lanes-count : (attempts : List Attempt) → (lanes_of attempts).attempts ≡ length attempts
lanes-count [] = refl
lanes-count (a ∷ older) = refl

-- ---- the client

-- the lanes with these frames behind those of the client
abbrev pub with_sent : Lanes → List FrameValue → Lanes
with_sent lanes frames = record lanes { by_client = sending_all lanes.by_client frames }

-- the lanes of an attempt that begins with these frames
abbrev pub begun_by : List FrameValue → Lanes → Lanes
begun_by frames lanes = record (beginning lanes) { by_client = map fresh frames }

-- a frame that the client sends, by whether it is a SABM
abbrev sent_by : Bool → FrameValue → Lanes → Lanes
sent_by calls frame lanes =
    if calls then record (beginning lanes) { by_client = fresh frame ∷ [] }
    else record lanes { by_client = lanes.by_client ++ fresh frame ∷ [] }

pub sending-each : (frames : List FrameValue) (lanes : Lanes) → HasNoCall frames
    → sending_each frames lanes ≡ with_sent lanes frames
sending-each [] lanes none =
    ap (λ (list : List Transmission). record lanes { by_client = list }) (sym (append-nil lanes.by_client))
sending-each (frame ∷ frames) lanes none =
    ap (λ (calls : Bool). sending_each frames (sent_by calls frame lanes)) none.0
    ∙ sending-each frames (record lanes { by_client = lanes.by_client ++ fresh frame ∷ [] }) none.1
    ∙ ap (λ (list : List Transmission). record lanes { by_client = list }) (sent-more lanes.by_client frame frames)

-- ---- where the first transmission is the only SABM

-- no SABM is among frames that are sent behind others
sent-none : (frames : List FrameValue) → AllByRecursion (λ t. is_call (control_of t) ≡ false) (map fresh frames)
    → HasNoCall frames
sent-none [] all = tt
sent-none (frame ∷ frames) all = (all.0, sent-none frames all.1)

behind-none : (list : List Transmission) (frames : List FrameValue)
    → AllByRecursion (λ t. is_call (control_of t) ≡ false) (sending_all list frames) → HasNoCall frames
behind-none [] frames all = sent-none frames all
behind-none (t ∷ list) frames all = behind-none list frames all.1

pub no-call-behind : (list : List Transmission) (frames : List FrameValue) → IsOneCall list
    → IsOneCall (sending_all list frames) → HasNoCall frames
no-call-behind [] frames before one = absurd before
no-call-behind (t ∷ list) frames before one = behind-none list frames one.1

-- the attempt begins with the SABM
pub sending-begins : (frames : List FrameValue) (lanes : Lanes) → IsOneCall (map fresh frames)
    → sending_each frames lanes ≡ begun_by frames lanes
sending-begins [] lanes one = absurd one
sending-begins (frame ∷ frames) lanes one =
    ap (λ (calls : Bool). sending_each frames (sent_by calls frame lanes)) one.0
    ∙ sending-each frames (record (beginning lanes) { by_client = fresh frame ∷ [] })
    (sent-none frames one.1)

-- ---- the server

-- whether a UA is among the frames
abbrev pub has_ua : List FrameValue → Bool
has_ua frames = list_any (λ frame. is_ua frame.kind.control) frames

-- the lanes with these frames behind those of the server, and by whether a session has answered
abbrev pub with_said : Lanes → List FrameValue → Bool → Lanes
with_said lanes frames answered =
    record lanes { by_server = sending_all lanes.by_server frames; answered = answered }

or-none : (a : Bool) → (a || false) ≡ a
or-none true = refl
or-none false = refl

or-then : (a b c : Bool) → ((a || b) || c) ≡ (a || (b || c))
or-then true b c = refl
or-then false b c = refl

pub replying-each : (frames : List FrameValue) (lanes : Lanes)
    → replying_each frames lanes ≡ with_said lanes frames (lanes.answered || has_ua frames)
replying-each [] lanes =
    ap₂ (λ (list : List Transmission) (b : Bool). record lanes { by_server = list; answered = b })
    (sym (append-nil lanes.by_server)) (sym (or-none lanes.answered))
replying-each (frame ∷ frames) lanes =
    let ua : Bool = is_ua frame.kind.control in
    let next : Lanes =
    record lanes { by_server = lanes.by_server ++ fresh frame ∷ []; answered = lanes.answered || ua } in
    replying-each frames next
    ∙ ap₂ (λ (list : List Transmission) (b : Bool). record lanes { by_server = list; answered = b })
    (sent-more lanes.by_server frame frames) (or-then lanes.answered ua (has_ua frames))

-- ---- its timers

-- a frame by the timer, by whether a session has answered
abbrev timed_by : Bool → FrameValue → Lanes → Lanes
timed_by answered frame lanes =
    if answered then record lanes { by_server = lanes.by_server ++ fresh frame ∷ [] } else lanes

pub timing-answered : (frames : List FrameValue) (lanes : Lanes) → lanes.answered ≡ true
    → timing_each frames lanes ≡ with_said lanes frames lanes.answered
timing-answered [] lanes is =
    ap (λ (list : List Transmission). record lanes { by_server = list }) (sym (append-nil lanes.by_server))
timing-answered (frame ∷ frames) lanes is =
    ap (λ (answered : Bool). timing_each frames (timed_by answered frame lanes)) is
    ∙ timing-answered frames (record lanes { by_server = lanes.by_server ++ fresh frame ∷ [] }) is
    ∙ ap (λ (list : List Transmission). record lanes { by_server = list }) (sent-more lanes.by_server frame frames)

pub timing-unanswered : (frames : List FrameValue) (lanes : Lanes) → lanes.answered ≡ false
    → timing_each frames lanes ≡ lanes
timing-unanswered [] lanes is = refl
timing-unanswered (frame ∷ frames) lanes is =
    ap (λ (answered : Bool). timing_each frames (timed_by answered frame lanes)) is
    ∙ timing-unanswered frames lanes is
