-- The events that turns bring: one list of them, and the frames among them.
use Rattle.std.proofs.Common.{◌≡◌, ℕ, List, [], ◌∷◌, ◌++◌, refl, sym, ap, ◌∙◌, subst, inl, inr, append_assoc, append-nil}
use Rattle.px_base.specs.declared.air.Turn.TheVariants as turn
use Rattle.std.specs.Prelude.{◌==◌, if◌then◌else◌}
use Rattle.turn_loop.proofs.Names.{CallSign, octets_heard, octets_of_turn, Turn, Bool, true, false, drop, kiss_frames, kiss_parts, FrameValue, IsOneFrame, FramesFor, NodeEvent, NodeEvents, TurnsBring, frames_in, heard_at, tick_of, ticks}

-- frames of texts and of others
frames-append : (me : CallSign) (texts others : List (List ℕ)) (frames more : List FrameValue) → FramesFor me texts frames → FramesFor me others more → FramesFor me (texts ++ others) (frames ++ more)
frames-append me [] others frames more h k = subst (λ (fs : List FrameValue). FramesFor me others (fs ++ more)) (sym h) k
frames-append me (text ∷ texts) others frames more (inl h) k =
    inl (h.0, h.1 ++ more, h.2, h.3, ap (λ (fs : List FrameValue). fs ++ more) h.4, frames-append me texts others h.1 more h.5 k)
frames-append me (text ∷ texts) others frames more (inr h) k = inr (h.0, frames-append me texts others frames more h.1 k)

-- texts have one list of frames
frames-one : IsOneFrame → (me : CallSign) (texts : List (List ℕ)) (frames others : List FrameValue) → FramesFor me texts frames → FramesFor me texts others → frames ≡ others
frames-one one me [] frames others h k = h ∙ sym k
frames-one one me (text ∷ texts) frames others (inl h) (inl k) =
    h.4 ∙ ap (λ (f : FrameValue). f ∷ h.1) (one h.0 k.0 text h.2 k.2) ∙ ap (λ (fs : List FrameValue). k.0 ∷ fs) (frames-one one me texts h.1 k.1 h.5 k.5) ∙ sym k.4
frames-one one me (text ∷ texts) frames others (inl h) (inr k) = absurd (k.0 h.0 h.2 h.3)
frames-one one me (text ∷ texts) frames others (inr h) (inl k) = absurd (h.0 k.0 k.2 k.3)
frames-one one me (text ∷ texts) frames others (inr h) (inr k) = frames-one one me texts frames others h.1 k.1

-- what is put behind a list says what it is
behind : (front one other : List (List ℕ)) → front ++ one ≡ front ++ other → one ≡ other
behind [] one other h = h
behind (x ∷ front) one other h = behind front one other (ap (drop 1) h)

pub bring-one : IsOneFrame → (me : CallSign) (before : List ℕ) (last : ℕ) (turns : List Turn) (moments : List ℕ) (events others : List NodeEvent) → TurnsBring me before last turns moments events → TurnsBring me before last turns moments others → events ≡ others
bring-one one me before last [] moments events others h k = h ∙ sym k
bring-one one me before last (t ∷ turns) [] events others h k = absurd h
bring-one one me before last (t ∷ turns) (m ∷ moments) events others h k =
    let texts = behind (kiss_frames before) h.2.0 k.2.0 (sym h.2.1 ∙ k.2.1) in
    let P : List (List ℕ) → Type 0 = λ ts. FramesFor me ts h.0 in
    let frames = frames-one one me k.2.0 h.0 k.0 (subst P texts h.2.2) k.2.2 in
    h.3
    ∙ ap (λ (fs : List FrameValue). heard_at m fs ++ (tick_of t last m ++ h.1)) frames
    ∙ ap (λ (es : List NodeEvent). heard_at m k.0 ++ (tick_of t last m ++ es)) (bring-one one me (before ++ octets_of_turn t) m turns moments h.1 k.1 h.4 k.4)
    ∙ sym k.3

pub events-one : IsOneFrame → (me : CallSign) (turns : List Turn) (moments : List ℕ) (events others : List NodeEvent) → NodeEvents me turns moments events → NodeEvents me turns moments others → events ≡ others
events-one one me turns [] events others h k = h.1 ∙ sym k.1
events-one one me turns (m ∷ moments) events others h k = bring-one one me [] m turns (m ∷ moments) events others h k

-- no frame is among ticks
no-frames-if : (same : Bool) (moment : ℕ) (later : List NodeEvent) → frames_in ((if same then [] else ticks moment ∷ []) ++ later) ≡ frames_in later
no-frames-if true moment later = refl
no-frames-if false moment later = refl

no-frames-tick : (t : Turn) (last moment : ℕ) (later : List NodeEvent) → frames_in (tick_of t last moment ++ later) ≡ frames_in later
no-frames-tick (turn.Bytes octets) last moment later = no-frames-if (moment == last) moment later
no-frames-tick turn.Quiet last moment later = no-frames-if (moment == last) moment later
no-frames-tick turn.Fail last moment later = refl
no-frames-tick turn.End last moment later = refl

frames-heard : (moment : ℕ) (frames : List FrameValue) (later : List NodeEvent) → frames_in (heard_at moment frames ++ later) ≡ frames ++ frames_in later
frames-heard moment [] later = refl
frames-heard moment (f ∷ frames) later = ap (λ (fs : List FrameValue). f ∷ fs) (frames-heard moment frames later)

-- the texts that turns finish, joined, have the frames among the events
bring-frames : (me : CallSign) (before : List ℕ) (last : ℕ) (turns : List Turn) (moments : List ℕ) (events : List NodeEvent) → TurnsBring me before last turns moments events
    → (texts : List (List ℕ)) × (kiss_frames (before ++ octets_heard turns) ≡ kiss_frames before ++ texts) × FramesFor me texts (frames_in events)
bring-frames me before last [] moments events h =
    ([], ap kiss_frames (append-nil before) ∙ sym (append-nil (kiss_frames before)), ap frames_in h)
bring-frames me before last (t ∷ turns) [] events h = absurd h
bring-frames me before last (t ∷ turns) (m ∷ moments) events h =
    let later = bring-frames me (before ++ octets_of_turn t) m turns moments h.1 h.4 in
    let P : List FrameValue → Type 0 = λ fs. FramesFor me (h.2.0 ++ later.0) fs in (
      h.2.0 ++ later.0,
      ap kiss_frames (sym (append_assoc before (octets_of_turn t) (octets_heard turns))) ∙ later.1
          ∙ ap (λ (ts : List (List ℕ)). ts ++ later.0) h.2.1 ∙ append_assoc (kiss_frames before) h.2.0 later.0,
      subst P (sym (ap frames_in h.3 ∙ frames-heard m h.0 (tick_of t last m ++ h.1) ∙ ap (λ (fs : List FrameValue). h.0 ++ fs) (no-frames-tick t last m h.1)))
          (frames-append me h.2.0 later.0 h.0 (frames_in h.1) h.2.2 later.2),
    )

no-frames : kiss_frames [] ≡ []
unfolding kiss_frames kiss_parts
no-frames = refl

pub events-frames : (me : CallSign) (turns : List Turn) (moments : List ℕ) (events : List NodeEvent) → NodeEvents me turns moments events → FramesFor me (kiss_frames (octets_heard turns)) (frames_in events)
events-frames me turns [] events h =
    let P : List Turn → Type 0 = λ ts. FramesFor me (kiss_frames (octets_heard ts)) (frames_in events) in
    let Q : List (List ℕ) → Type 0 = λ texts. FramesFor me texts (frames_in events) in
    subst P (sym h.0) (subst Q (sym no-frames) (ap frames_in h.1))
events-frames me turns (m ∷ moments) events h =
    let all = bring-frames me [] m turns (m ∷ moments) events h in
    let Q : List (List ℕ) → Type 0 = λ texts. FramesFor me texts (frames_in events) in
    subst Q (sym (all.1 ∙ ap (λ (ts : List (List ℕ)). ts ++ all.0) no-frames)) all.2
