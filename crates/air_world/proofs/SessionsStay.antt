-- Attempts whose sessions are as others' were: a server's places have the same attempts then.
use Rattle.std.proofs.Common.{◌≡◌, ◌⊎◌, List, [], ◌∷◌, false, Option, None, Some, refl, sym, ap, subst, ◌∙◌, inl, inr}
use Rattle.air_world.proofs.Names.{map, IfSome, MatchOption, ⊤, AllByRecursion, option_or, CallSign, Server, Attempt, SitsBy, AreOver, OnlyNewestUp, newest_side, ServerSide}

abbrev pub sessions_of : List Attempt → List (Option ServerSide)
sessions_of attempts = map (λ (a : Attempt). a.server) attempts

-- the sessions are the same; or an attempt without one came
abbrev pub SessionsStay : List Attempt → List Attempt → Type 0
SessionsStay olds news = (sessions_of news ≡ sessions_of olds) ⊎ (sessions_of news ≡ None ∷ sessions_of olds)

-- by the sessions alone
abbrev AreDown : List (Option ServerSide) → Type 0
AreDown sessions = AllByRecursion (λ o. IfSome o (λ side. side.is_up ≡ false)) sessions

over-down : (attempts : List Attempt) → AreOver attempts → AreDown (sessions_of attempts)
over-down [] all = tt
over-down (a ∷ older) all = (all.0, over-down older all.1)

down-over : (attempts : List Attempt) → AreDown (sessions_of attempts) → AreOver attempts
down-over [] all = tt
down-over (a ∷ older) all = (all.0, down-over older all.1)

abbrev first_session : List (Option ServerSide) → Option ServerSide
first_session [] = None
first_session (o ∷ sessions) = option_or o (first_session sessions)

newest-first : (attempts : List Attempt) → newest_side attempts ≡ first_session (sessions_of attempts)
newest-first [] = refl
newest-first (a ∷ older) = ap (λ (o : Option ServerSide). option_or a.server o) (newest-first older)

abbrev IsOnlyFirst : List (Option ServerSide) → Type 0
IsOnlyFirst [] = ⊤
IsOnlyFirst (o ∷ sessions) = MatchOption o (IsOnlyFirst sessions) (λ _. AreDown sessions)

only-first : (attempts : List Attempt) → OnlyNewestUp attempts → IsOnlyFirst (sessions_of attempts)
only-first [] only = tt
only-first (a ∷ older) only = by a.server only (only-first older)
  where
    by : (o : Option ServerSide) → MatchOption o (OnlyNewestUp older) (λ _. AreOver older)
        → (OnlyNewestUp older → IsOnlyFirst (sessions_of older))
        → MatchOption o (IsOnlyFirst (sessions_of older)) (λ _. AreDown (sessions_of older))
    by None only later = later only
    by (Some side) only later = over-down older only

first-only : (attempts : List Attempt) → IsOnlyFirst (sessions_of attempts) → OnlyNewestUp attempts
first-only [] only = tt
first-only (a ∷ older) only = by a.server only (first-only older)
  where
    by : (o : Option ServerSide) → MatchOption o (IsOnlyFirst (sessions_of older)) (λ _. AreDown (sessions_of older))
        → (IsOnlyFirst (sessions_of older) → OnlyNewestUp older)
        → MatchOption o (OnlyNewestUp older) (λ _. AreOver older)
    by None only later = later only
    by (Some side) only later = down-over older only

-- what is said by the sessions stays if a session that isn't there comes
module _ (olds news : List Attempt) where
  over-stays : SessionsStay olds news → AreOver olds → AreOver news
  over-stays (inl same) all = down-over news (subst AreDown (sym same) (over-down olds all))
  over-stays (inr one) all = down-over news (subst AreDown (sym one) (tt, over-down olds all))

  newest-stays : SessionsStay olds news → newest_side news ≡ newest_side olds
  newest-stays (inl same) = newest-first news ∙ ap first_session same ∙ sym (newest-first olds)
  newest-stays (inr one) = newest-first news ∙ ap first_session one ∙ sym (newest-first olds)

  only-stays : SessionsStay olds news → OnlyNewestUp olds → OnlyNewestUp news
  only-stays (inl same) only = first-only news (subst IsOnlyFirst (sym same) (only-first olds only))
  only-stays (inr one) only = first-only news (subst IsOnlyFirst (sym one) (only-first olds only))

pub sits-stays : (server : Server) (me : CallSign) (olds news : List Attempt) → SessionsStay olds news
    → SitsBy server me olds → SitsBy server me news
sits-stays server me olds news stay sits = record {
  none = λ none. over-stays olds news stay (sits.none none);
  some = λ place c found seat.
      let session = sits.some place c found seat in
      record {
        side = session.side;
        is_newest = newest-stays olds news stay ∙ session.is_newest;
        connected_is = session.connected_is;
        is_up = session.is_up;
      };
  newest_up = only-stays olds news stay sits.newest_up;
}
