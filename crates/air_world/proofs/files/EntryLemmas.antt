-- One more entry of a session: what it says, what it answers, and what its row's commands leave.
use Rattle.std.proofs.Common.{◌≡◌, ◌⊎◌, inl, inr, ℕ, suc, zero, List, [], ◌∷◌, ◌++◌, length, drop, take, refl, ap, sym, ◌∙◌, subst, Bool, Some}
use Rattle.ftl0_server.specs.Entries as session
use Rattle.ftl0_client.specs.Entries as job
use Rattle.air_world.proofs.files.Names.{AllByRecursion, CallSign, IsCall, Item, PacketValue, AreOf, BringsOctets, FollowsBy, IsOf, KeepsEntries, AreAllowed-first, follows_law, AreAllowed, Command, DropsNothing, HasCall, HaveCalls, after, begin, drop_entry, grow, seal, after_first, Store, State, SessionEntry, Attempt, Has, OneIs, Answers, IsAnswer, octets_of_data, octets_said, ServerSide, said_by_server, flat_map-one, one-cases, one-left, one-right, coming_by, IsSoundStore, answered_by, answered_in}
use Rattle.air_world.proofs.files.StoreLemmas.{sound-kept}

-- ---- lists of entries

pub said-more : (entries : List SessionEntry) (x : SessionEntry)
    → session.said_in (entries ++ x ∷ []) ≡ session.said_in entries ++ session.packets_said x
said-more = flat_map-one session.packets_said

pub answered-more : (entries : List SessionEntry) (x : SessionEntry)
    → answered_in (entries ++ x ∷ []) ≡ answered_in entries ++ answered_by x
answered-more = flat_map-one answered_by

pub items-more : (entries : List SessionEntry) (x : SessionEntry)
    → session.items_in (entries ++ x ∷ []) ≡ session.items_in entries ++ session.items_of x
items-more = flat_map-one session.items_of

-- packets without octets of DATA bring none, also after some of those before
quiet-behind : (k : ℕ) (packets : List PacketValue) → AllByRecursion (λ p. octets_of_data p ≡ []) packets
    → octets_said (drop k packets) ≡ []
quiet-behind zero [] quiet = refl
quiet-behind (suc k) [] quiet = refl
quiet-behind zero (p ∷ packets) quiet =
    ap (λ (octets : List ℕ). octets ++ octets_said packets) quiet.0 ∙ quiet-behind zero packets quiet.1
quiet-behind (suc k) (p ∷ packets) quiet = quiet-behind k packets quiet.1

quiet-more : (k : ℕ) (packets more : List PacketValue) → AllByRecursion (λ p. octets_of_data p ≡ []) more
    → octets_said (drop k packets) ≡ octets_said (drop k (packets ++ more))
quiet-more zero [] more quiet = sym (quiet-behind zero more quiet)
quiet-more (suc k) [] more quiet = sym (quiet-behind (suc k) more quiet)
quiet-more zero (p ∷ packets) more quiet =
    ap (λ (octets : List ℕ). octets_of_data p ++ octets) (quiet-more zero packets more quiet)
quiet-more (suc k) (p ∷ packets) more quiet = quiet-more k packets more quiet

-- ---- a session with one more entry

-- the session with one more entry, in this state, up or over
abbrev pub with_entry : ServerSide → SessionEntry → State → Bool → ServerSide
with_entry side x state up =
    record side {
      connected = record side.connected { state = state };
      entries = side.entries ++ x ∷ [];
      is_up = up;
    }

module _ (side : ServerSide) (x : SessionEntry) (state : State) (up : Bool) where
  abbrev gone : ServerSide
  gone = with_entry side x state up

  -- what it said
  pub said-gone : said_by_server gone ≡ said_by_server side ++ session.packets_said x
  said-gone = ap (λ (packets : List PacketValue). side.greeting ∷ packets) (said-more side.entries x)

  -- a packet that it said it said before, or by this entry
  pub says-cases : (packet : PacketValue) → Has (said_by_server gone) packet
      → Has (said_by_server side) packet ⊎ Has (session.packets_said x) packet
  says-cases packet has =
      one-cases (λ p. p ≡ packet) (said_by_server side) (session.packets_said x)
      (subst (λ (packets : List PacketValue). Has packets packet) said-gone has)

  pub says-still : (packet : PacketValue) → Has (said_by_server side) packet → Has (said_by_server gone) packet
  says-still packet has =
      subst (λ (packets : List PacketValue). Has packets packet) (sym said-gone)
      (one-left (λ p. p ≡ packet) (said_by_server side) (session.packets_said x) has)

  -- what it answered it answered before, or by this entry
  pub answers-cases : (item : Item) (answer : PacketValue) → Answers gone item answer
      → Answers side item answer ⊎ IsAnswer item answer x
  answers-cases item answer answers = by (one-cases (IsAnswer item answer) side.entries (x ∷ []) answers)
    where
      by : Answers side item answer ⊎ OneIs (IsAnswer item answer) (x ∷ [])
          → Answers side item answer ⊎ IsAnswer item answer x
      by (inl before) = inl before
      by (inr (inl here)) = inr here
      by (inr (inr none)) = absurd none

  pub answers-still : (item : Item) (answer : PacketValue) → Answers side item answer → Answers gone item answer
  answers-still item answer answers = one-left (IsAnswer item answer) side.entries (x ∷ []) answers

  pub answers-now : (item : Item) (answer : PacketValue) → IsAnswer item answer x → Answers gone item answer
  answers-now item answer is = one-right (IsAnswer item answer) side.entries (x ∷ []) (inl is)

  -- no octets of a file come by it
  pub coming-gone : (a : Attempt) → AllByRecursion (λ p. octets_of_data p ≡ []) (session.packets_said x)
      → coming_by a (Some side) ≡ coming_by (record a { server = Some gone }) (Some gone)
  coming-gone a quiet =
      quiet-more (length (job.items_in a.client.entries)) (said_by_server side) (session.packets_said x) quiet
      ∙ ap (λ (packets : List PacketValue). octets_said (drop (length (job.items_in a.client.entries)) packets))
      (sym said-gone)

-- ---- the commands of a row

own-call : (caller : CallSign) (store : Store) (command : Command) → IsCall caller → IsOf caller store command
    → HasCall command
own-call caller store (begin number by file_length moment) call own = subst IsCall (sym own) call
own-call caller store (grow number octets) call own = tt
own-call caller store (seal number moment) call own = tt
own-call caller store (drop_entry number) call own = tt

pub own-calls : (caller : CallSign) (store : Store) (commands : List Command) → IsCall caller
    → AreOf caller store commands → HaveCalls commands
own-calls caller store [] call own = tt
own-calls caller store (command ∷ commands) call own =
    (own-call caller store command call own.0, own-calls caller (after store command) commands call own.1)

-- the first of them are so, if all of them are
pub such-first : (P : Command → Type 0) (count : ℕ) (commands : List Command) → AllByRecursion P commands
    → AllByRecursion P (take count commands)
such-first P zero commands all = tt
such-first P (suc count) [] all = tt
such-first P (suc count) (command ∷ commands) all = (all.0, such-first P count commands all.1)

own-first : (caller : CallSign) (count : ℕ) (store : Store) (commands : List Command) → AreOf caller store commands
    → AreOf caller store (take count commands)
own-first caller zero store commands all = tt
own-first caller (suc count) store [] all = tt
own-first caller (suc count) store (command ∷ commands) all =
    (all.0, own-first caller count (after store command) commands all.1)

-- The commands of a row of this caller over a store are its own, allowed, and bring octets; none gives a file up.
pub record AreRowCommands (caller : CallSign) (store : Store) (commands : List Command) : Type 0 where
  pub own : AreOf caller store commands
  pub allowed : AreAllowed store commands
  pub brings : AllByRecursion BringsOctets commands
  pub drops : DropsNothing commands

module _ (caller : CallSign) (store : Store) (commands : List Command) (call : IsCall caller)
    (sound : IsSoundStore store)
    (row : AreRowCommands caller store commands) (count : ℕ) where
  abbrev now : Store
  now = after_first count store commands

  -- the store after the first of them follows, keeps what any command keeps, and is sound
  pub row-follows : FollowsBy caller store now
  row-follows = record {
    commands = take count commands;
    own = own-first caller count store commands row.own;
    does = (AreAllowed-first count commands store row.allowed, refl);
  }

  pub row-keeps : KeepsEntries store now
  row-keeps =
      follows_law.entries store now sound.is_store
      (follows_law.others caller store now sound.is_store call row-follows).0

  pub row-sound : IsSoundStore now
  row-sound =
      sound-kept store now (take count commands) follows_law sound
      (own-calls caller store (take count commands) call (own-first caller count store commands row.own))
      (such-first BringsOctets count commands row.brings) (AreAllowed-first count commands store row.allowed, refl)
