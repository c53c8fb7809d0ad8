-- What packets leave for the next one, and how a connection takes octets, piece by piece.
use Rattle.std.proofs.Common.{arith, ◌≡◌, ℕ, ◌+◌, List, [], ◌∷◌, ◌++◌, length, refl, ap, sym, ◌∙◌, subst}
use Rattle.ftl0_session.specs.Uploads.SessionState.{SessionState as Uploading}
use Rattle.ftl0_session.specs.SessionState.{MayTake as SessionMayTake}
use Rattle.ftl0_server.proofs.Names.{common_steps, None, Result, Ok, IsErr, ⊤, All-nil, Ghosts, Up, Down, Kept, SameStations, Item, HasFront, front-none, front-then, stations-same, stations-then, Store, entry_of, Position, does-among, Does-none, in_parked, puts-among, puts-among-same, puts-among-then, puts_none, stands_parked, StoreState, store_in, KeepsOtherCallers, AtDisk, at, NoOtherOut, AreComplete, DiskFault, SessionState, caller_of, new_session, WorkingOn, working_on, Fate, Stays, Ends, GivesUp, ConnectionState, Feeds, FeedsAll, IsAmong, IsGoing, KeepsFit, LeavesFit, MayQueue, MayTake, TakesSome, carrying}
use Rattle.ftl0_server.proofs.connection.HearsLemmas.{IsStop, seen-first, seen-then, takes-then}
use Rattle.ftl0_server.proofs.connection.Invariants.{IsTaking}

-- ---- what is left for the next packet

-- no stop
abbrev pub fine : Result ⊤ DiskFault
fine = Ok tt

pub no-fault : IsErr fine → ⊥
no-fault same = cc

module _ {D : Type 0} (g : Ghosts D) where
  -- a frame without packets was heard
  pub fit-heard : (on : WorkingOn D) (link link_n : Kept) (session : SessionState) (fate : Fate) → g.lasts on.disk on.disk → SessionMayTake g on.store on.disk on.lists session
      → (fate ≡ Stays → link_n.state ≡ Up) → (fate ≡ Ends → link_n.state ≡ Down) → SameStations link link_n
      → LeavesFit g (at on.store on.disk) on link link_n session session (fate, Ok tt)
  fit-heard on link link_n session fate lasts may up down stations = grind (arith, common_steps, puts-among, puts_none)

  -- a session began again, over a store that has only given up the upload of the one before
  pub fit-anew : (on : WorkingOn D) (store_n : StoreState) (link link_n : Kept) (session session_n : SessionState) → g.lasts on.disk on.disk → SessionMayTake g on.store on.disk on.lists session
      → GivesUp on.store store_n → session_n ≡ new_session (caller_of session) → NoOtherOut store_n (caller_of session) None
      → KeepsOtherCallers on.store store_n (caller_of session) → link_n.state ≡ Up → SameStations link link_n
      → LeavesFit g (at on.store on.disk) (working_on store_n on.lists on.disk) link link_n session session_n (Stays, Ok tt)
  fit-anew on store_n link link_n session session_n lasts may gives_up anew only others up stations =
      let same : store_in store_n ≡ store_in on.store = in_parked on.store store_n gives_up.entries in
      rw anew (record {
        puts = puts-among g (IsErr fine) on.disk on.disk (puts_none g on.disk (IsErr fine) no-fault lasts);
        kept = λ number e found complete. ap (λ (s : Store). entry_of s number) same ∙ found;
        others = others;
        healthy = λ fine. ap (λ (p : Position). p.failed) gives_up.journal ∙ may.ready.healthy;
        fit = record {
          stands_on = stands_parked g on.store store_n on.disk gives_up.entries gives_up.journal may.ready.stands_on;
          held = tt;
          only = only;
          due = tt;
          complete = subst (λ (s : Store). AreComplete s on.lists) (sym same) may.complete;
        };
        up = λ stays. up;
        down = λ ends. absurd (cc ends);
        caller = refl;
        stations = stations;
      })

  -- nothing was queued
  pub keeps-none : (store : StoreState) (disk : D) (now : ConnectionState) → g.lasts disk disk → MayQueue g store disk now
      → KeepsFit g store store disk disk now now
  keeps-none store disk now lasts may = grind (arith, common_steps, puts-among, puts_none, stations-same)

  module _ (on : (first second third : D) → g.lasts first second → g.lasts second third → g.lasts first third) where
    -- one part, and then another
    pub fit-then : (before : AtDisk StoreState D) (between now : WorkingOn D) (link link_m link_n : Kept) (session session_m session_n : SessionState) (told : Fate × Result ⊤ DiskFault)
        → LeavesFit g before between link link_m session session_m (Stays, Ok tt) → LeavesFit g (at between.store between.disk) now link_m link_n session_m session_n told
        → LeavesFit g before now link link_n session session_n told
    fit-then before between now link link_m link_n session session_m session_n told first second =
        let later = rw first.caller at second.others in
        record {
          puts = puts-among-then g on (IsErr fine) (IsErr told.1) before.disk between.disk now.disk no-fault first.puts second.puts;
          kept = λ number e found complete. second.kept number e (first.kept number e found complete) complete;
          others = record {
            uploads = λ up theirs holds. later.uploads up theirs (first.others.uploads up theirs holds);
            entries = λ number e theirs found.
                let last = later.entries number e theirs found in
                let before_it = first.others.entries number e theirs last.0 in
                (before_it.0, last.1 ∙ before_it.1);
          };
          healthy = second.healthy;
          fit = second.fit;
          up = second.up;
          down = second.down;
          caller = second.caller ∙ first.caller;
          stations = stations-then link link_m link_n first.stations second.stations;
        }

    -- packets, and then what is due after them
    pub fit-queued : (before : AtDisk StoreState D) (between now : WorkingOn D) (link : Kept) (session : SessionState) (mid new : ConnectionState) → now.lists ≡ between.lists
        → LeavesFit g before between link mid.link session mid.session (Stays, Ok tt) → KeepsFit g between.store now.store between.disk now.disk mid new
        → LeavesFit g before now link new.link session new.session (Stays, Ok tt)
    fit-queued before between now link session mid new lists first second = record {
      puts = grind (arith, common_steps, puts-among-same, puts-among-then);
      kept = rw second.same first.kept;
      others = rw second.same first.others;
      healthy = rw second.same first.healthy;
      fit = rw (second.same, lists, second.uploads) (record { stands_on = second.ready.stands_on; held = first.fit.held; only = first.fit.only; due = second.due; complete = first.fit.complete });
      up = λ stays. second.up;
      down = λ ends. absurd (cc ends);
      caller = ap (λ (u : Uploading). u.caller) second.uploads ∙ first.caller;
      stations = stations-then link mid.link new.link first.stations second.stations;
    }

    -- ---- octets

    module _ (moment : ℕ) (before : WorkingOn D) (old : ConnectionState) where
      -- no packet was taken
      pub taking-start : g.lasts before.disk before.disk → MayTake g before.store before.disk before.lists old.link old.session → IsTaking g moment old old before before
      taking-start lasts may = record {
        feeds = record {
          items = [];
          front = front-none old.octets;
          takes = λ seen w end first stands. record {
            parts = [];
            among = All-nil (IsAmong first 0);
            by = (refl, (refl, (refl, record { link = stands; rest = refl; state = refl })), does-among g ⊥ _ _ _ _ [] (Does-none g ⊥ _ _ (λ never. never) may.may.ready lasts));
            store = λ fine. refl;
          };
        };
        fit = fit-heard before old.link old.link old.session Stays lasts may.may (λ stays. may.up) (λ ends. absurd (cc ends)) (stations-same old.link);
      }

      -- some packets, and then one
      module _ (mid new : ConnectionState) (between now : WorkingOn D) (told : Fate × Result ⊤ DiskFault) (item : Item) (h : IsTaking g moment old mid before between)
          (front : HasFront mid.octets new.octets (item ∷ [])) (takes : TakesSome g moment mid between (item ∷ []) now new told) where
        feeds-one : Feeds g moment old new before now told
        feeds-one = record {
          items = h.feeds.items ++ item ∷ [];
          front = front-then old.octets mid.octets new.octets h.feeds.items (item ∷ []) h.feeds.front front;
          takes = λ seen w end from stands.
              let one = h.feeds.takes (seen-first g moment old.session before h.feeds.items (item ∷ []) seen) w end from stands in
              takes-then g on w moment old mid new before between now end h.feeds.items (item ∷ []) from h.fit.caller one told
              (λ next there.
              takes (seen-then g on w moment old mid new before between now end h.feeds.items (item ∷ []) from h.fit.caller one seen) w next (from + length h.feeds.items) there);
        }

        module _ (fit : LeavesFit g (at between.store between.disk) now mid.link new.link mid.session new.session told) where
          pub fit-all : LeavesFit g (at before.store before.disk) now old.link new.link old.session new.session told
          fit-all = fit-then (at before.store before.disk) between now old.link mid.link new.link old.session mid.session new.session told h.fit fit

          pub taking-next : IsGoing told → IsTaking g moment old new before now
          taking-next going = record { feeds = rw going at feeds-one; fit = rw going at fit-all }

        pub taking-stops : (rest : List ℕ) → IsStop told → FeedsAll g moment old (carrying new.link rest new.session) before now told
        taking-stops rest stops = record { left = new.octets; feeds = feeds-one; none = λ going. absurd (stops going); rest = λ going. absurd (stops going) }
