-- Any entries of a session keep the client's facts, by what one entry does.
use Rattle.std.proofs.Common.{◌≡◌, ◌⊎◌, inl, inr, ℕ, suc, zero, List, [], ◌∷◌, ◌++◌, take, refl, ap, sym, ◌∙◌, subst}
use Rattle.std.proofs.Common.{arith, append_assoc, append-nil, Bool, true, Option, None, Some}
use Rattle.file_store.specs.Command.{after_all}
use Rattle.ftl0_server.specs.Entries as session
use Rattle.ftl0_client_job.specs.declared.work.Work.TheVariants as work
use Rattle.air_world.proofs.files.Names.{IfSome, Ok, slice_get, ⊤, AllByRecursion, option_map, same_Some, Fits, ul_go_resp, upload_cmd, FollowsBy, AreAllowed-append, follows_law, AreAllowed, Command, DropsNothing, KeepsFile, after_first, Store, after_all-append, Session, SessionEntry, Work, Attempt, Asked, Party, all_over, over, sessions_over, AsksUpload, Grants, IsAnswer, ServerSide, each-append, one-left, HasFacts, HasNumber, IsDirectoryOf, IsDownloadOf, IsOne, IsServed, IsUploadOf, LeftIn, LookLike, LooksServed, SessionGoes, SessionKeeps, SessionLaw, SessionLawOf, session_gone, with_attempt}
use Rattle.air_world.proofs.files.ApartLemmas.{GrantFact}
use Rattle.air_world.proofs.files.GoneLemmas.{alike-itself, facts-over, facts-same}
use Rattle.air_world.proofs.files.LikeLemmas.{number-like}
use Rattle.air_world.proofs.files.MovedLemmas.{GrantsBegun, facts-left, same-task}
use Rattle.air_world.proofs.files.QuietKeeps.{first-none}
use Rattle.air_world.proofs.files.SessionFirst.{attempt_mid, first-goes, front-first, party_mid, served-mid, side_mid}

-- ---- one entry, whatever the work

pub one-law : SessionLawOf IsUploadOf IsOne → SessionLawOf IsDirectoryOf IsOne → SessionLawOf IsDownloadOf IsOne
    → SessionLawOf (λ asked. ⊤) IsOne
one-law uploads directories downloads files c party moment before now entries up served any one goes =
    by served.attempt.client.asked refl
  where
    by : (doing : Work) → served.attempt.client.asked ≡ doing
        → SessionKeeps files party
        (with_attempt party (session_gone entries now.state up served.attempt served.side) served.older) before now
        entries served.side
    by (work.Upload at) is = uploads files c party moment before now entries up served (at, is) one goes
    by (work.Directory at) is = directories files c party moment before now entries up served (at, is) one goes
    by (work.Download at) is = downloads files c party moment before now entries up served (at, is) one goes

-- ---- no entry

module _ (files : List Asked) (c : ℕ) (party : Party) (before : Session) (served : IsServed files c party before)
    (up : Bool) where
  none-left : (count : ℕ) → LeftIn files party before.store (after_first count before.store [])
  none-left count =
      subst (LeftIn files party before.store) (sym (first-none count before.store))
      (record {
        facts = facts-over before.store files party served.facts;
        store = served.store;
        follows = record { commands = []; own = tt; does = (tt, refl) };
      })

  abbrev none_attempt : Attempt
  none_attempt = session_gone [] before.state up served.attempt served.side

  none-alike : LookLike party.attempts (none_attempt ∷ served.older)
  none-alike =
      subst (λ (attempts : List Attempt). LookLike attempts (none_attempt ∷ served.older)) (sym served.attempts_are) (
        record {
          asked = refl;
          entries = refl;
          job = refl;
          served =
              subst (λ (o : Option ServerSide). LooksServed o none_attempt.server) (sym served.is_side)
              (record {
                greeting = refl;
                entries = append-nil served.side.entries;
                state = served.state_is;
                up = λ is_up. served.is_up;
              });
        },
        alike-itself served.older,
      )

  none-link : (a b : Attempt) → slice_get party.attempts 0 ≡ Some a → Some none_attempt ≡ Some b
      → party.client.attempt ≡ Some b.client.attempted
      → party.client.attempt ≡ Some a.client.attempted
  none-link a b one two is =
      let first : served.attempt ≡ a = same_Some served.attempt a
      (sym (ap (λ (attempts : List Attempt). slice_get attempts 0) served.attempts_are) ∙ one) in
      is ∙ sym (ap (λ (it : Attempt). Some it.client.attempted) (same_Some none_attempt b two))
      ∙ ap (λ (it : Attempt). Some it.client.attempted) first

  none-keeps : SessionKeeps files party (with_attempt party none_attempt served.older) before before [] served.side
  none-keeps = record {
    facts =
        facts-same before.store files party (with_attempt party none_attempt served.older)
        (record { me = refl; server = refl; lists = refl; uploads = refl; attempts = none-alike; link = none-link })
        served.facts;
    store = served.store;
    lists = served.lists;
    follows = record { commands = []; own = tt; does = (tt, refl) };
    allowed = tt;
    drops = tt;
    during = none-left;
    grants = λ number file_length grants.
        inl (subst (λ (entries : List SessionEntry). Grants
        (record served.side { entries = entries }) number file_length) (append-nil served.side.entries) grants);
    fits = tt;
  }

-- ---- what is left of more entries is left of fewer

-- the first of the commands of two are the first of the one's, or all of those and the first of the other's
take-two : (a b : List Command) (count : ℕ)
    → (take count (a ++ b) ≡ take count a) ⊎ ((k : ℕ) × (take count (a ++ b) ≡ a ++ take k b))
take-two [] b count = inr (count, refl)
take-two (command ∷ a) b zero = inl refl
take-two (command ∷ a) b (suc count) =
    elim (take-two a b count) [
      | inl same ↦ inl (ap (λ (commands : List Command). command ∷ commands) same)
      | inr more ↦ inr (more.0, ap (λ (commands : List Command). command ∷ commands) more.1)
    ]

module _ (files : List Asked) (c : ℕ) (party : Party) (moment : ℕ) (before : Session)
    (served : IsServed files c party before)
    (x : SessionEntry) (kept : session.IsNotLost x) (mid : Session) where
  abbrev mid_party : Party
  mid_party = party_mid files c party moment before served x kept mid

  abbrev mid_attempt : Attempt
  mid_attempt = attempt_mid files c party moment before served x kept mid

  abbrev mid_side : ServerSide
  mid_side = side_mid files c party moment before served x kept mid

  number-over : (task number : ℕ) → HasNumber party task number → HasNumber (sessions_over mid_party) task number
  number-over task number has =
      record { entry = has.entry; is_entry = has.is_entry; number_is = has.number_is; some = has.some }

  begun-from : (now : Store) (a b : Attempt) (side other : ServerSide) → b.client ≡ a.client
      → ((number file_length : ℕ) → Grants side number file_length → Grants other number file_length)
      → GrantFact now (sessions_over mid_party) b other → GrantsBegun now party a side
  begun-from now a b side other same more fact number file_length task file grants asks none entry there =
      let it = fact number file_length (more number file_length grants) in
      let mine : AsksUpload a it.task 0 it.file = ap (λ client. client.asked) (sym same) ∙ it.asks in
      let one : it.task ≡ task = same-task a it.task task it.file file mine asks in
      let is =
      it.begun
      (λ has.
      none (subst (λ (t : ℕ). HasNumber party t number) one
      (number-like party (sessions_over mid_party) it.task number has))) entry there in
      record { caller_is = is.caller_is; length_is = is.length_is; nothing = is.nothing }

  begun-older : (now : Store) (older : List Attempt)
      → AllByRecursion (λ b. IfSome b.server (GrantFact now (sessions_over mid_party) b)) (all_over older)
      → AllByRecursion (λ a. IfSome a.server (GrantsBegun now party a)) older
  begun-older now [] facts = tt
  begun-older now (a ∷ older) facts = (by a.server facts.0, begun-older now older facts.1)
    where
      by : (o : Option ServerSide)
          → IfSome (option_map over o)
          (GrantFact now (sessions_over mid_party) (record a { server = option_map over a.server }))
          → IfSome o (GrantsBegun now party a)
      by None fact = tt
      by (Some side) fact =
          begun-from now a (record a { server = option_map over a.server }) side (over side) refl
          (λ number file_length grants. grants) fact

  begun-all : (now : Store) → HasFacts now files (sessions_over mid_party)
      → AllByRecursion (λ a. IfSome a.server (GrantsBegun now party a)) party.attempts
  begun-all now facts =
      let granted = facts.sessions.granted in
      subst (AllByRecursion (λ a. IfSome a.server (GrantsBegun now party a))) (sym served.attempts_are) (
        subst (λ (o : Option ServerSide). IfSome o (GrantsBegun now party served.attempt)) (sym served.is_side)
            (begun-from now served.attempt (record mid_attempt { server = option_map over mid_attempt.server })
            served.side (over mid_side) refl
            (λ number file_length grants. one-left (IsAnswer (Ok (upload_cmd 0 file_length)) (ul_go_resp number 0))
            served.side.entries (x ∷ []) grants) granted.0),
        begun-older now served.older granted.1,
      )

  -- the earlier client has its facts if the later one has
  left-earlier : (now : Store) → FollowsBy party.client.me before.store mid.store → LeftIn files mid_party mid.store now
      → LeftIn files party before.store now
  left-earlier now first left =
      let follows : FollowsBy party.client.me before.store now =
      follows_law.joined_by party.client.me before.store mid.store now first left.follows in
      record {
        facts =
            facts-left files party before.store now
            (record {
              keeps =
                  follows_law.entries before.store now served.store.is_store
                  (follows_law.others party.client.me before.store now served.store.is_store served.stands.call
                  follows).0;
              file =
                  λ task number file has is.
                  (left.facts.tasks.numbered task number file (number-over task number has) is).stands;
              begun = begun-all now left.facts;
            })
            served.facts;
        store = left.store;
        follows = follows;
      }

  abbrev Left : List Command → Type 0
  Left commands = LeftIn files party before.store (after_all before.store commands)

  -- after the commands of both
  left-both : (later : List SessionEntry) → mid.store ≡ after_all before.store (session.commands_of x)
      → FollowsBy party.client.me before.store mid.store
      → ((count : ℕ) → LeftIn files party before.store (after_first count before.store (session.commands_in (x ∷ []))))
      → ((count : ℕ) → LeftIn files mid_party mid.store (after_first count mid.store (session.commands_in later)))
      → (count : ℕ) → LeftIn files party before.store (after_first count before.store (session.commands_in (x ∷ later)))
  left-both later store_is follows first others count =
      by (take-two (session.commands_of x) (session.commands_in later) count)
    where
      by : (take count (session.commands_of x ++ session.commands_in later) ≡ take count (session.commands_of x))
          ⊎ ((k : ℕ) × (take count (session.commands_of x ++ session.commands_in later) ≡ session.commands_of x ++ take
          k (session.commands_in later)))
          → Left (take count (session.commands_of x ++ session.commands_in later))
      by (inl same) =
          subst Left (ap (take count) (append-nil (session.commands_of x)) ∙ sym same) (first count)
      by (inr more) =
          let there : after_all before.store (session.commands_of x ++ take more.0 (session.commands_in later))
          ≡ after_first more.0 mid.store (session.commands_in later) =
          after_all-append (session.commands_of x) (take more.0 (session.commands_in later)) before.store
          ∙ ap (λ (s : Store). after_all s (take more.0 (session.commands_in later))) (sym store_is) in
          subst Left (sym more.1)
          (subst (LeftIn files party before.store) (sym there)
          (left-earlier (after_first more.0 mid.store (session.commands_in later)) follows (others more.0)))

-- ---- one entry after another

-- these entries keep the facts of every client
abbrev KeepAll : List SessionEntry → Type 0
KeepAll entries =
    (files : List Asked) (c : ℕ) (party : Party) (moment : ℕ) (before now : Session) (up : Bool)
    (served : IsServed files c party before)
    → SessionGoes party moment before now entries up served.attempt served.side
    → SessionKeeps files party
    (with_attempt party (session_gone entries now.state up served.attempt served.side) served.older) before now
    entries
    served.side

both-keep : (x y : SessionEntry) (ys : List SessionEntry) → SessionLawOf (λ asked. ⊤) IsOne → KeepAll (y ∷ ys)
    → KeepAll (x ∷ y ∷ ys)
both-keep x y ys one later files c party moment before now up served goes =
    let a : Attempt = served.attempt in
    let side : ServerSide = served.side in
    let split = first-goes party.client.me moment before now x y ys goes.goes in
    let mid : Session = split.mid in
    let joins : side.entries ++ x ∷ y ∷ ys ≡ (side.entries ++ x ∷ []) ++ y ∷ ys =
    sym (append_assoc side.entries (x ∷ []) (y ∷ ys)) in
    let first : SessionKeeps files party (party_mid files c party moment before served x split.kept mid) before mid
    (x ∷ []) side =
    one files c party moment before mid (x ∷ []) true served tt (x, refl)
    (record {
      goes = split.first;
      none_lost = λ is_up. (split.kept, tt);
      front = front-first a side x (y ∷ ys) goes.front;
      client_fits = goes.client_fits;
    }) in
    let those =
    later files c (party_mid files c party moment before served x split.kept mid) moment mid now up
    (served-mid files c party moment before served x split.kept mid first)
    (record {
      goes = split.others;
      none_lost = λ is_up. (goes.none_lost is_up).1;
      front = (
        goes.front.0,
        goes.front.1 ∙ ap (λ (entries : List SessionEntry). session.items_in entries ++ goes.front.0)
            joins,
      );
      client_fits = goes.client_fits;
    }) in
    record {
      facts =
          subst
          (λ (entries : List SessionEntry). HasFacts now.store files (with_attempt party (record a {
            server = Some (record side { connected = record side.connected { state = now.state }; entries = entries; is_up = up });
          }) served.older))
          (sym joins) those.facts;
      store = those.store;
      lists = those.lists;
      follows = follows_law.joined_by party.client.me before.store mid.store now.store first.follows those.follows;
      allowed =
          AreAllowed-append (session.commands_of x) (session.commands_in (y ∷ ys)) before.store
          (subst (AreAllowed before.store) (append-nil (session.commands_of x)) first.allowed)
          (subst (λ (s : Store). AreAllowed s (session.commands_in (y ∷ ys))) split.store_is those.allowed);
      drops =
          each-append KeepsFile (session.commands_of x) (session.commands_in (y ∷ ys))
          (subst DropsNothing (append-nil (session.commands_of x)) first.drops) those.drops;
      during =
          left-both files c party moment before served x split.kept mid
          (y ∷ ys) split.store_is first.follows first.during those.during;
      grants = λ number file_length grants.
          elim
          (those.grants number file_length
          (subst (λ (entries : List SessionEntry). Grants (record side { entries = entries }) number file_length) joins
          grants)) [
            | inl were ↦ first.grants number file_length were
            | inr new ↦
                let rises =
                (follows_law.entries before.store mid.store served.store.is_store
                (follows_law.others party.client.me before.store mid.store served.store.is_store served.stands.call
                first.follows).0).next in
                inr (omega (arith, rises, new))
          ];
      fits =
          each-append Fits (session.packets_said x) (session.said_in (y ∷ ys))
          (subst (AllByRecursion Fits) (append-nil (session.packets_said x)) first.fits) those.fits;
    }

cons-keep : (x : SessionEntry) (later : List SessionEntry) → SessionLawOf (λ asked. ⊤) IsOne → KeepAll later
    → KeepAll (x ∷ later)
cons-keep x [] one keep =
    λ files c party moment before now up served goes. one files c party moment before now (x ∷ []) up served tt
    (x, refl) goes
cons-keep x (y ∷ ys) one keep = both-keep x y ys one keep

none-keep : KeepAll []
none-keep files c party moment before now up served goes =
    subst
    (λ (s : Session).
    SessionKeeps files party (with_attempt party (session_gone [] s.state up served.attempt served.side) served.older)
    before s [] served.side)
    (sym goes.goes) (none-keeps files c party before served up)

all-keep : (entries : List SessionEntry) → SessionLawOf (λ asked. ⊤) IsOne → KeepAll entries
all-keep [] one = none-keep
all-keep (x ∷ later) one = cons-keep x later one (all-keep later one)

-- by the laws of one entry
pub session-all : SessionLawOf IsUploadOf IsOne → SessionLawOf IsDirectoryOf IsOne → SessionLawOf IsDownloadOf IsOne
    → SessionLaw
session-all uploads directories downloads files c party moment before now entries up served kind any goes =
    all-keep entries (one-law uploads directories downloads) files c party moment before now up served goes
