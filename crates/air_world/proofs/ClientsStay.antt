-- What the server does leaves the clients' sides of attempts as they are.
use Rattle.std.proofs.Common.{◌≡◌, List, [], ◌∷◌, Bool, true, false, Option, None, Some, refl, sym, ap, subst, ◌∙◌}
use Rattle.ftl0_server.specs.Entries as session
use Rattle.air_world.proofs.Names.{slice_get, ⊤, AllByRecursion, option_map_or, same_Some, CallSign, FrameValue, is_call, Window, Connected, Attempted, Attempt, IsLinkOf, all_over, server_sends, with_answered, with_newest, ClientSide, ServerSide, ServerDid, after_hearing, after_tick, connection_of, did_to, heard_by, opened, served, ticked_by}

-- the client's side and the window
pub record StaysClient (old new : Attempt) : Type 0 where
  pub client : new.client ≡ old.client
  pub window : new.window ≡ old.window

abbrev pub ClientsStay : List Attempt → List Attempt → Type 0
ClientsStay [] [] = ⊤
ClientsStay [] (b ∷ news) = ⊥
ClientsStay (a ∷ older) [] = ⊥
ClientsStay (a ∷ older) (b ∷ news) = StaysClient a b × ClientsStay older news

same : (a : Attempt) → StaysClient a a
same a = record { client = refl; window = refl }

pub stay-refl : (attempts : List Attempt) → ClientsStay attempts attempts
stay-refl [] = tt
stay-refl (a ∷ older) = (same a, stay-refl older)

pub stay-trans : (olds news cs : List Attempt) → ClientsStay olds news → ClientsStay news cs → ClientsStay olds cs
stay-trans [] [] [] one other = tt
stay-trans [] [] (c ∷ cs) one other = absurd other
stay-trans [] (b ∷ news) cs one other = absurd one
stay-trans (a ∷ olds) [] cs one other = absurd one
stay-trans (a ∷ olds) (b ∷ news) [] one other = absurd other
stay-trans (a ∷ olds) (b ∷ news) (c ∷ cs) one other = (
  record { client = other.0.client ∙ one.0.client; window = other.0.window ∙ one.0.window },
  stay-trans olds news cs one.1 other.1,
)

pub newest-stays : (change : Attempt → Attempt) (attempts : List Attempt) → ((a : Attempt) → StaysClient a (change a))
    → ClientsStay attempts (with_newest change attempts)
newest-stays change [] each = tt
newest-stays change (a ∷ older) each = (each a, stay-refl older)

answered-stays : (change : Attempt → ServerSide → Attempt) (attempts : List Attempt)
    → ((a : Attempt) (side : ServerSide) → StaysClient a (change a side))
    → ClientsStay attempts (with_answered change attempts)
answered-stays change [] each = tt
answered-stays change (a ∷ older) each = by a.server (answered-stays change older each)
  where
    by : (o : Option ServerSide) → ClientsStay older (with_answered change older)
        → ClientsStay (a ∷ older) (option_map_or (λ side. change a side ∷ older) o (a ∷ with_answered change older))
    by None rest = (same a, rest)
    by (Some side) rest = (each a side, stay-refl older)

pub over-stays : (attempts : List Attempt) → ClientsStay attempts (all_over attempts)
over-stays [] = tt
over-stays (a ∷ older) = (record { client = refl; window = refl }, over-stays older)

opened-stays : (did : ServerDid) (c : Connected) (attempts : List Attempt)
    → ClientsStay attempts (opened did c attempts)
opened-stays did c [] = tt
opened-stays did c (a ∷ older) = (record { client = refl; window = refl }, over-stays older)

sends-stay : (frames : List FrameValue) (attempts : List Attempt)
    → ClientsStay attempts (with_newest (server_sends frames) attempts)
sends-stay frames attempts = newest-stays (server_sends frames) attempts (λ a. record { client = refl; window = refl })

pub hearing-stays : (did : ServerDid) (frame : FrameValue) (attempts : List Attempt)
    → ClientsStay attempts (after_hearing did frame attempts)
hearing-stays did frame attempts =
    by (is_call frame.kind.control) (connection_of did.old frame.src) (connection_of did.last frame.src)
  where
    by : (call : Bool) (before after : Option Connected)
        → ClientsStay attempts (heard_by call before after did frame attempts)
    by true before (Some now) = opened-stays did now attempts
    by true before None = sends-stay did.frames attempts
    by false (Some c) (Some now) =
        answered-stays
        (served did now (session.entries_heard did.old.window did.moment did.old.store did.old.lists c frame)) attempts
        (λ a side. record { client = refl; window = refl })
    by false (Some c) None = sends-stay did.frames attempts
    by false None now = sends-stay did.frames attempts

pub tick-stays : (did : ServerDid) (caller : CallSign) (attempts : List Attempt)
    → ClientsStay attempts (after_tick did caller attempts)
tick-stays did caller attempts = by (connection_of did.old caller) (connection_of did.last caller)
  where
    by : (before after : Option Connected) → ClientsStay attempts (ticked_by before after (did_to caller did) attempts)
    by (Some c) (Some now) =
        answered-stays (served (did_to caller did) now []) attempts (λ a side. record { client = refl; window = refl })
    by (Some c) None = stay-refl attempts
    by None now = stay-refl attempts

-- ---- what follows

module _ (P : ClientSide → Type 0) where
  pub stay-each : (olds news : List Attempt) → ClientsStay olds news → AllByRecursion (λ (a : Attempt). P a.client) olds
      → AllByRecursion (λ (b : Attempt). P b.client) news
  stay-each [] [] stays all = tt
  stay-each [] (b ∷ news) stays all = absurd stays
  stay-each (a ∷ olds) [] stays all = absurd stays
  stay-each (a ∷ olds) (b ∷ news) stays all = (subst P (sym stays.0.client) all.0, stay-each olds news stays.1 all.1)

  -- what is true of the current one's side
  pub stay-newest : (olds news : List Attempt) → ClientsStay olds news
      → ((a : Attempt) → slice_get olds 0 ≡ Some a → P a.client)
      → (b : Attempt) → slice_get news 0 ≡ Some b → P b.client
  stay-newest [] [] stays each b is = absurd cc
  stay-newest [] (b' ∷ news) stays each b is = absurd stays
  stay-newest (a ∷ olds) [] stays each b is = absurd stays
  stay-newest (a ∷ olds) (b' ∷ news) stays each b is =
      subst P (sym stays.0.client ∙ ap (λ (it : Attempt). it.client) (same_Some b' b is)) (each a refl)

pub stay-link : (olds news : List Attempt) (link : Option Attempted) → ClientsStay olds news
    → IsLinkOf (slice_get olds 0) link → IsLinkOf (slice_get news 0) link
stay-link olds news None stays is = tt
stay-link [] [] (Some a) stays is = is
stay-link [] (b ∷ news) (Some a) stays is = absurd stays
stay-link (a ∷ olds) [] (Some it) stays is = absurd stays
stay-link (a ∷ olds) (b ∷ news) (Some it) stays is = ap (λ (c : ClientSide). c.attempted) stays.0.client ∙ is

pub stay-windows : (w : Window) (olds news : List Attempt) → ClientsStay olds news
    → AllByRecursion (λ (a : Attempt). a.window ≡ w) olds → AllByRecursion (λ (b : Attempt). b.window ≡ w) news
stay-windows w [] [] stays all = tt
stay-windows w [] (b ∷ news) stays all = absurd stays
stay-windows w (a ∷ olds) [] stays all = absurd stays
stay-windows w (a ∷ olds) (b ∷ news) stays all = (stays.0.window ∙ all.0, stay-windows w olds news stays.1 all.1)
