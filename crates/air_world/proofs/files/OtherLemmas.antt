-- Facts in a store in which the client's own entries are as they were, or are gone if no session receives them.
use Rattle.std.proofs.Common.{◌≡◌, ◌≢◌, ◌⊎◌, ℕ, ◌<◌, List, refl, ap, sym, ◌∙◌, subst, arith, true, Option, None, Some}
use Rattle.std.proofs.Common.{inl, inr}
use Rattle.air_world.proofs.files.Names.{same_Some, eqb_tells, CallSign, IsCall, FollowsBy, FollowsLaw, KeepsEntries, after, drop_entry, Entry, Store, entry_of, partial, find-filter_other, DueStaysLaw, receiving, Attempt, Has, Asked, EachSide, Party, newest, ServerSide, HasFacts, IsBegun, IsGrantKept, IsNumbered, Receives, IsFileAt, IsUnderWay, WhereStands, IsSoundStore}
use Rattle.air_world.proofs.files.ApartLemmas.{HasFactsApart, HasSideFacts, ReceiveFact, apart, together}
use Rattle.air_world.proofs.files.LiftLemmas.{each-side, side-at}
use Rattle.air_world.proofs.files.StableLemmas.{keeps-complete, keeps-due, keeps-fetching_some, keeps-first_any, keeps-kept}
use Rattle.air_world.proofs.files.StableLemmas.{keeps-offer, keeps-serves, keeps-task_kept}
use Rattle.air_world.proofs.files.StoreLemmas.{drop-keeps, dropped-none}
use Rattle.air_world.proofs.files.ReceivesAs.{receives-as}

-- the entry is as it was
abbrev pub StandsStill : Store → Store → ℕ → Type 0
StandsStill before now number = (entry : Entry) → entry_of before number ≡ Some entry → entry_of now number ≡ Some entry

-- The store follows the other; in it the caller's entries are as they were, or are gone.
pub record LeavesOwn (before now : Store) (caller : CallSign) : Type 0 where
  pub keeps : KeepsEntries before now
  pub own :
      (number : ℕ) (entry : Entry) → entry.caller ≡ caller → entry_of before number ≡ Some entry
      → (entry_of now number ≡ Some entry) ⊎ (entry_of now number ≡ None)

-- what a session that is up receives is as it was
abbrev pub LeavesReceived : Store → Store → ServerSide → Type 0
LeavesReceived before now side =
    (number : ℕ) (rest : List ℕ) → side.is_up ≡ true → side.connected.state ≡ receiving number rest
    → StandsStill before now number

-- an entry on the way, still or gone
under-way-moved : (before now : Store) (number : ℕ) (file : List ℕ) (caller : CallSign) → LeavesOwn before now caller
    → IsUnderWay before number file caller → IsFileAt now number file caller
under-way-moved before now number file caller leaves way = by (leaves.own number way.entry way.caller_is way.is_entry)
  where
    by : (entry_of now number ≡ Some way.entry) ⊎ (entry_of now number ≡ None) → IsFileAt now number file caller
    by (inl still) = inr (inl (record {
      entry = way.entry;
      is_entry = still;
      caller_is = way.caller_is;
      length_is = way.length_is;
      held = way.held;
      holds = way.holds;
      front = way.front;
    }))
    by (inr gone) = inl gone

pub file_at-moved : (before now : Store) (number : ℕ) (file : List ℕ) (caller : CallSign) → LeavesOwn before now caller
    → number < before.next
    → IsFileAt before number file caller → IsFileAt now number file caller
file_at-moved before now number file caller leaves below (inl gone) = inl (leaves.keeps.gone number below gone)
file_at-moved before now number file caller leaves below
    (inr (inl way)) = under-way-moved before now number file caller leaves way
file_at-moved before now number file caller leaves below (inr (inr kept)) = inr
    (inr (keeps-kept before now number file caller leaves.keeps.complete kept))

numbered-moved : (before now : Store) (party : Party) (task number : ℕ) (file : List ℕ)
    → LeavesOwn before now party.client.me
    → IsNumbered before party task number file → IsNumbered now party task number file
numbered-moved before now party task number file leaves is = record {
  below = omega (arith, is.below, leaves.keeps.next);
  stands = file_at-moved before now number file party.client.me leaves is.below is.stands;
  granted = is.granted;
}

begun-moved : (before now : Store) (caller : CallSign) (number file_length : ℕ) → LeavesOwn before now caller
    → number < before.next
    → WhereStands before number (IsBegun caller file_length) → WhereStands now number (IsBegun caller file_length)
begun-moved before now caller number file_length leaves below begun entry there = by (entry_of before number) refl
  where
    still : (old : Entry) → IsBegun caller file_length old
        → (entry_of now number ≡ Some old) ⊎ (entry_of now number ≡ None)
        → IsBegun caller file_length entry
    still old is (inl same) = subst (IsBegun caller file_length) (same_Some old entry (sym same ∙ there)) is
    still old is (inr gone) = absurd (let x : ⊥ = cc in x)

    by : (o : Option Entry) → entry_of before number ≡ o → IsBegun caller file_length entry
    by None gone = let none = leaves.keeps.gone number below gone in absurd (let x : ⊥ = cc in x)
    by (Some old) found = still old (begun old found) (leaves.own number old (begun old found).caller_is found)

grant-moved : (before now : Store) (party : Party) (a : Attempt) (number file_length : ℕ)
    → LeavesOwn before now party.client.me
    → IsGrantKept before party a number file_length → IsGrantKept now party a number file_length
grant-moved before now party a number file_length leaves kept = record {
  some = kept.some;
  below = omega (arith, kept.below, leaves.keeps.next);
  task = kept.task;
  file = kept.file;
  asks = kept.asks;
  length_is = kept.length_is;
  begun = λ none. begun-moved before now party.client.me number file_length leaves kept.below (kept.begun none);
}

pub receives-still : (before now : Store) (party : Party) (a : Attempt) (side : ServerSide) (number : ℕ) (rest : List ℕ)
    → StandsStill before now number
    → Receives before party a side number rest → Receives now party a side number rest
receives-still before now party a side number rest still r = receives-as r r.asks (still r.entry r.is_entry) r.caller_is r.offers r.came r.within r.goes_on

side-moved : (before now : Store) (party : Party) (a : Attempt) (side : ServerSide) → DueStaysLaw
    → LeavesOwn before now party.client.me
    → LeavesReceived before now side → HasSideFacts before party a side → HasSideFacts now party a side
side-moved before now party a side law leaves received facts = record {
  granted = λ number file_length grants. grant-moved before now party a number file_length leaves
      (facts.granted number file_length grants);
  complete = λ number says. keeps-complete before now number leaves.keeps.complete (facts.complete number says);
  offered = λ number offset offers. keeps-offer before now number offset leaves.keeps
      (facts.offered number offset offers);
  receives = λ number rest up is.
      receives-still before now party a side number rest (received number rest up is)
      (facts.receives number rest up is);
  due = λ up. keeps-due before now side law leaves.keeps.complete (facts.due up);
  serves = keeps-serves before now a.client.asked side leaves.keeps.complete facts.serves;
}

-- by the law of what is due, `stays_law` of `ftl0_session`
pub facts-moved : (files : List Asked) (before now : Store) (party : Party) → DueStaysLaw
    → LeavesOwn before now party.client.me
    → EachSide party (λ _ side. LeavesReceived before now side) → HasFacts before files party → HasFacts now files party
facts-moved files before now party law leaves received facts = together now files party
    (moved (apart before files party facts))
  where
    moved : HasFactsApart before files party → HasFactsApart now files party
    moved parts = record {
      numbered = λ task number file has is. numbered-moved before now party task number file leaves
          (parts.numbered task number file has is);
      acknowledged = λ task number holds.
          keeps-task_kept files before now party task number leaves.keeps.complete
          (parts.acknowledged task number holds);
      attempts = parts.attempts;
      sides = each-side party (λ a side has is.
          side-moved before now party a side law leaves
          (side-at (λ _ it. LeavesReceived before now it) party a side received has is)
          (side-at (HasSideFacts before party) party a side parts.sides has is));
      got_front = λ number. keeps-first_any before now number _ leaves.keeps.complete (parts.got_front number);
      fetching = keeps-fetching_some before now party (newest party) leaves.keeps.complete parts.fetching;
    }

-- ---- another caller's commands

-- if a session that is up receives the entry it is its client's
pub received-own : (store : Store) (files : List Asked) (party : Party) (a : Attempt) (side : ServerSide)
    → HasFacts store files party
    → Has party.attempts a → a.server ≡ Some side → (number : ℕ) (rest : List ℕ) → side.is_up ≡ true
    → side.connected.state ≡ receiving number rest → (entry : Entry) → entry_of store number ≡ Some entry
    → entry.caller ≡ party.client.me
received-own store files party a side facts has is number rest up state entry there =
    let r = side-at (ReceiveFact store party) party a side facts.sessions.receives has is number rest up state in
    ap (λ (it : Entry). it.caller) (same_Some entry r.entry (sym there ∙ r.is_entry)) ∙ r.caller_is

pub facts-other : (files : List Asked) (party : Party) (caller : CallSign) (before now : Store) → FollowsLaw
    → DueStaysLaw → IsCall caller
    → party.client.me ≢ caller → IsSoundStore before → FollowsBy caller before now → HasFacts before files party
    → HasFacts now files party
facts-other files party caller before now law due call other sound follows facts =
    let others = law.others caller before now sound.is_store call follows in
    let stays : (number : ℕ) (entry : Entry) → entry.caller ≡ party.client.me → entry_of before number ≡ Some entry
    → entry_of now number ≡ Some entry =
    λ number entry mine. (others.1 number entry (λ is. other (sym mine ∙ is))).0 in
    facts-moved files before now party due
    (record {
      keeps = law.entries before now sound.is_store others.0;
      own = λ number entry mine there. inl
          (stays number entry mine there);
    })
    (each-side party (λ a side has is number rest up state entry there.
    stays number entry
    (received-own before files party a side facts has is number rest up state entry there) there)) facts

-- ---- an entry that is given up

-- no session that is up receives the file of this number
abbrev pub NoneReceives : Party → ℕ → Type 0
NoneReceives party number =
    EachSide party (λ _ side. (rest : List ℕ) → side.is_up ≡ true → side.connected.state ≢ receiving number rest)

left-or-gone : (store : Store) (number other : ℕ) (entry : Entry) → entry_of store other ≡ Some entry
    → (entry_of (after store (drop_entry number)) other ≡ Some entry) ⊎
    (entry_of (after store (drop_entry number)) other ≡ None)
left-or-gone store number other entry there = elim (eqb_tells other number) [
  | inl w ↦ inr (subst (λ (n : ℕ). entry_of (after store (drop_entry number)) n ≡ None) (sym w.1)
      (dropped-none number store.entries))
  | inr w ↦ inl (find-filter_other number other store.entries w.1 ∙ there)
]

pub facts-removed : (store : Store) (files : List Asked) (party : Party) (number : ℕ) (entry : Entry) (held : List ℕ)
    → FollowsLaw → DueStaysLaw
    → IsSoundStore store → entry_of store number ≡ Some entry → entry.holding ≡ partial held → NoneReceives party number
    → HasFacts store files party → HasFacts (after store (drop_entry number)) files party
facts-removed store files party number entry held law due sound there holds none facts =
    facts-moved files store (after store (drop_entry number)) party due
    (record {
      keeps = drop-keeps store number entry held law sound.is_store there holds;
      own = λ other it mine found. left-or-gone store number other it found;
    })
    (each-side party (λ a side has is other rest up state it found.
    find-filter_other number other store.entries
    (λ same.
    side-at (λ _ those. (rest : List ℕ) → those.is_up ≡ true
    → those.connected.state ≢ receiving number rest) party a side none has is
    rest up (state ∙ ap (λ n. receiving n rest) same))
    ∙ found))
    facts
