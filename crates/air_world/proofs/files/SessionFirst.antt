-- Entries of a session one after another: the first one, and the client after it.
use Rattle.std.proofs.Common.{◌≡◌, ◌⊎◌, inl, inr, ℕ, suc, zero, ◌≤◌, ◌<◌, List, [], ◌∷◌, ◌++◌, map, refl, ap, sym, ◌∙◌}
use Rattle.std.proofs.Common.{subst, arith, append_assoc, true}
use Rattle.file_store.specs.Command.{after_all}
use Rattle.ftl0_server.specs.Entries as session
use Rattle.air_world.proofs.files.Names.{Ok, slice_get, AllByRecursion, map-append, flat_map-append, same_Some, CallSign, Item, PacketValue, Session, SessionEntry, after_row, Task, Attempt, ClientTookFront, ServerTookFront, Asked, Party, Grants, ServerSide, said_by_server, each-append, has-at, GrantedAt, GrantsOnce, IsServed, SessionKeeps, Stands, session_gone, with_attempt, IsTaskFor, IsWork}
use Rattle.air_world.proofs.files.ApartLemmas.{GrantFact}
use Rattle.air_world.proofs.files.EntryLemmas.{said-gone, with_entry}
use Rattle.air_world.proofs.files.LiftLemmas.{side-at}

-- ---- the first entry

-- The first of some entries, which others follow: the session after it, to which it leads, and its commands.
pub record FirstGoes (caller : CallSign) (moment : ℕ) (before now : Session) (x : SessionEntry)
    (later : List SessionEntry) : Type 0 where
  pub mid : Session
  pub first : session.GoesBy caller moment before (x ∷ []) mid
  pub others : session.GoesBy caller moment mid later now
  pub kept : session.IsNotLost x
  pub store_is : mid.store ≡ after_all before.store (session.commands_of x)

pub first-goes : (caller : CallSign) (moment : ℕ) (before now : Session) (x y : SessionEntry) (ys : List SessionEntry)
    → session.GoesBy caller moment before (x ∷ y ∷ ys) now → FirstGoes caller moment before now x (y ∷ ys)
first-goes caller moment before now (session.took item row) y ys goes =
    record { mid = after_row before row; first = (goes.0, refl); others = goes.1; kept = tt; store_is = refl }
first-goes caller moment before now (session.lost item row) y ys goes = absurd (let none : y ∷ ys ≡ [] = goes.1 in cc)
first-goes caller moment before now (session.queued due) y ys goes =
    record {
      mid = record before { state = due.state };
      first = (goes.0, refl);
      others = goes.1;
      kept = tt;
      store_is = refl;
    }

-- what was taken of more entries was taken of fewer
pub front-first : (a : Attempt) (side : ServerSide) (x : SessionEntry) (later : List SessionEntry)
    → ServerTookFront a (record side { entries = side.entries ++ x ∷ later })
    → ServerTookFront a (record side { entries = side.entries ++ x ∷ [] })
front-first a side x later front =
    let split : side.entries ++ x ∷ later ≡ (side.entries ++ x ∷ []) ++ later =
    sym (append_assoc side.entries (x ∷ []) later) in (
      session.items_in later ++ front.0,
      front.1 ∙ ap (λ (entries : List SessionEntry). session.items_in entries ++ front.0) split
          ∙ ap (λ (items : List Item). items ++ front.0)
          (flat_map-append session.items_of (side.entries ++ x ∷ []) later)
          ∙ append_assoc (session.items_in (side.entries ++ x ∷ [])) (session.items_in later) front.0,
    )

-- ---- the client after it

module _ (files : List Asked) (c : ℕ) (party : Party) (moment : ℕ) (before : Session)
    (served : IsServed files c party before)
    (x : SessionEntry) (kept : session.IsNotLost x) (mid : Session) where
  abbrev pub side_mid : ServerSide
  side_mid = with_entry served.side x mid.state true

  abbrev pub attempt_mid : Attempt
  attempt_mid = session_gone (x ∷ []) mid.state true served.attempt served.side

  abbrev pub party_mid : Party
  party_mid = with_attempt party attempt_mid served.older

  task-mid : (task : ℕ) (entry : Task) → IsTaskFor files c party task entry → IsTaskFor files c party_mid task entry
  task-mid task entry is = record {
    upload = is.upload;
    is_upload = is.is_upload;
    asked = is.asked;
    is_asked = is.is_asked;
    whose = is.whose;
    server_is = is.server_is;
    caller_is = is.caller_is;
    name_is = is.name_is;
    length_is = is.length_is;
    digest_is = is.digest_is;
  }

  pub stands-mid : Stands files c party_mid
  stands-mid = record {
    call = served.stands.call;
    good = served.stands.good;
    tasks = record {
      each = λ task entry there. task-mid task entry (served.stands.tasks.each task entry there);
      as_many = served.stands.tasks.as_many;
    };
    works = subst (AllByRecursion (λ a. IsWork files party a.client.asked)) served.attempts_are served.stands.works;
  }

  pub heard-mid : ClientTookFront attempt_mid side_mid
  heard-mid = (
    served.heard.0 ++ map Ok (session.packets_said x),
    ap (λ (packets : List PacketValue). map Ok packets) (said-gone served.side x mid.state true)
        ∙ map-append (λ (p : PacketValue). Ok p) (said_by_server served.side) (session.packets_said x)
        ∙ ap (λ (items : List Item). items ++ map Ok (session.packets_said x)) served.heard.1
        ∙ append_assoc _ served.heard.0 (map Ok (session.packets_said x)),
  )

  pub none_lost-mid : AllByRecursion session.IsNotLost side_mid.entries
  none_lost-mid = each-append session.IsNotLost served.side.entries (x ∷ []) served.none_lost (kept, tt)

  module _ (keeps : SessionKeeps files party party_mid before mid (x ∷ []) served.side) where
    granted-below : (at number : ℕ) → GrantedAt party at number → number < before.store.next
    granted-below at number granted =
        let has = has-at party.attempts at granted.attempt granted.is_attempt in
        (side-at (GrantFact before.store party) party granted.attempt granted.side served.facts.sessions.granted has
        granted.is_side number granted.file_length
        granted.grants).below

    was-granted : (at number : ℕ) → GrantedAt party_mid at number
        → GrantedAt party at number ⊎ ((at ≡ zero) × (before.store.next ≤ number))
    was-granted zero number granted =
        let mine : attempt_mid ≡ granted.attempt = same_Some attempt_mid granted.attempt granted.is_attempt in
        let side_is : side_mid ≡ granted.side = same_Some side_mid granted.side
        (ap (λ (a : Attempt). a.server) mine ∙ granted.is_side) in
        let given : Grants side_mid number granted.file_length =
        subst (λ (s : ServerSide). Grants s number granted.file_length) (sym side_is) granted.grants in
        elim (keeps.grants number granted.file_length given) [
          | inl were ↦
              inl (record {
                attempt = served.attempt;
                is_attempt = ap (λ (attempts : List Attempt). slice_get attempts 0) served.attempts_are;
                side = served.side;
                is_side = served.is_side;
                file_length = granted.file_length;
                grants = were;
              })
          | inr new ↦ inr (refl, new)
        ]
    was-granted (suc at) number granted =
        inl (record {
          attempt = granted.attempt;
          is_attempt =
              ap (λ (attempts : List Attempt). slice_get attempts (suc at)) served.attempts_are ∙ granted.is_attempt;
          side = granted.side;
          is_side = granted.is_side;
          file_length = granted.file_length;
          grants = granted.grants;
        })

    pub once-mid : GrantsOnce party_mid
    once-mid at that number one two =
        elim (was-granted at number one) [
          | inl first ↦
              elim (was-granted that number two) [
                | inl second ↦ served.once at that number first second
                | inr second ↦ absurd (let below = granted-below at number first in
                    let no : ⊥ = omega (arith, below, second.1) in no)
              ]
          | inr first ↦
              elim (was-granted that number two) [
                | inl second ↦ absurd (let below = granted-below that number second in
                    let no : ⊥ = omega (arith, below, first.1) in no)
                | inr second ↦ first.0 ∙ sym second.0
              ]
        ]

    abbrev pub served-mid : IsServed files c party_mid mid
    served-mid = record {
      stands = stands-mid;
      attempt = attempt_mid;
      older = served.older;
      attempts_are = refl;
      side = side_mid;
      is_side = refl;
      is_up = refl;
      caller_is = served.caller_is;
      state_is = refl;
      none_lost = none_lost-mid;
      greets = served.greets;
      begun = served.begun;
      heard = heard-mid;
      older_over = served.older_over;
      once = once-mid;
      store = keeps.store;
      lists = keeps.lists;
      facts = keeps.facts;
    }
