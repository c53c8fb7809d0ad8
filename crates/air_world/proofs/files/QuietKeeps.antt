-- What an entry of a session keeps that has no command of the store and says nothing of uploading.
use Rattle.std.proofs.Common.{◌≡◌, ◌≢◌, ℕ, zero, suc, List, [], ◌++◌, refl, ap, sym, ◌∙◌, subst, Bool, Some}
use Rattle.ftl0_server.specs.Entries as session
use Rattle.ftl0_client_job.specs.declared.work.Work.TheVariants as work
use Rattle.air_world.proofs.files.Names.{AllByRecursion, Fits, FollowsBy, AreAllowed, DropsNothing, after_first, Store, AreComplete, Session, State, SessionEntry, Upload, Attempt, Asked, Party, sessions_over, ServerSide, HasFacts, IsFetching, IsServed, LeftIn, SessionKeeps, session_gone, with_attempt, IsSoundStore}
use Rattle.air_world.proofs.files.QuietLemmas.{IsQuiet, facts-quiet, grants-none}

-- the session gone on by these entries
abbrev pub gone_side : ServerSide → List SessionEntry → State → Bool → ServerSide
gone_side side entries state up =
    record side { connected = record side.connected { state = state }; entries = side.entries ++ entries; is_up = up }

-- no command is done
pub first-none : (count : ℕ) (store : Store) → after_first count store [] ≡ store
first-none zero store = refl
first-none (suc count) store = refl

follows-none : (party : Party) (store : Store) → FollowsBy party.client.me store store
follows-none party store = record { commands = []; own = tt; does = (tt, refl) }

-- What an entry makes of a session, its store and its lists that has no command.
pub record StaysQuiet (store : Store) (party : Party) (a : Attempt) (old new : ServerSide) (older : List Attempt)
    (entries : List SessionEntry) (now : Session) : Type 0 where
  pub stays : now.store ≡ store
  pub commands : session.commands_in entries ≡ []
  pub fits : AllByRecursion Fits (session.said_in entries)
  pub lists : AreComplete store now.lists
  pub quiet : IsQuiet store a.client.asked old new
  pub fetching : IsFetching store (with_attempt party (record a { server = Some new }) older)
      (record a { server = Some new })

module _ (over : (store : Store) (files : List Asked) (party : Party) → HasFacts store files party
    → HasFacts store files (sessions_over party))
    (files : List Asked) (c : ℕ) (party : Party) (before now : Session) (entries : List SessionEntry) (up : Bool)
    (served : IsServed files c party before) where
  abbrev new_side : ServerSide
  new_side = gone_side served.side entries now.state up

  pub keeps-quiet : ((at : Upload) → served.attempt.client.asked ≢ work.Upload at)
      → StaysQuiet before.store party served.attempt served.side new_side served.older entries now
      → SessionKeeps files party
      (with_attempt party (session_gone entries now.state up served.attempt served.side) served.older) before now
      entries served.side
  keeps-quiet other it = record {
    facts =
        subst (λ (s : Store). HasFacts s files (with_attempt party
        (session_gone entries now.state up served.attempt served.side) served.older)) (sym it.stays)
        (facts-quiet before.store files party served.attempt served.older served.side new_side served.attempts_are
        served.is_side served.facts other it.quiet it.fetching);
    store = subst IsSoundStore (sym it.stays) served.store;
    lists = subst (λ (s : Store). AreComplete s now.lists) (sym it.stays) it.lists;
    follows =
        subst (λ (s : Store). FollowsBy party.client.me before.store s) (sym it.stays)
        (follows-none party before.store);
    allowed = subst (AreAllowed before.store) (sym it.commands) tt;
    drops = subst DropsNothing (sym it.commands) tt;
    during = λ count.
        subst (λ (s : Store). LeftIn files party before.store s)
        (sym (ap (after_first count before.store) it.commands ∙ first-none count before.store))
        (record {
          facts = over before.store files party served.facts;
          store = served.store;
          follows = follows-none party before.store;
        });
    grants = λ number file_length grants. absurd (grants-none new_side it.quiet.none number file_length grants);
    fits = it.fits;
  }
