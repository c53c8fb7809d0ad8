-- Blocks of 512 octets that are noted, one after another.
use Rattle.std.proofs.Common.{◌≡◌, ℕ, zero, suc, ◌+◌, ◌-◌, ◌*◌, ◌<◌, ◌≤◌, List, [], ◌∷◌, ◌++◌, length, take, drop, refl, sym, ap, ◌∙◌, subst, arith, zero-add, length-append, length-drop, drop-drop, append_assoc}
use Rattle.disk_model.specs.declared.halt.Halt.TheVariants as stop
use Rattle.ftl0_client_job.proofs.Names.{⊤, IsTrue, Err, take-add, take-append-add, drop-append-add, append-nil, length-take-le, take-append-le, take_all, Ghosts, CallSign, longest_file, NotesCommand, after, got, is_allowed, AreAllowed, after_all, Lists, got_of, DoesSeveral, NotesState, got-allowed, got-append, Several-longer, Several-then, Halt, gots, HasNoted, IsBefore}

-- a block that is filled to its end
pub block-full : (block octets : List ℕ) → length block ≤ 512 → block ++ take (512 - length block) octets ≡ take 512 (block ++ octets)
block-full block octets few =
    let all : length block + (512 - length block) ≡ 512 = omega arith in
    sym (take-append-add block octets (512 - length block)) ∙ ap (λ (n : ℕ). take n (block ++ octets)) all

pub block-left : (block octets : List ℕ) → length block ≤ 512 → take (length octets - (512 - length block)) (drop (512 - length block) octets) ≡ drop 512 (block ++ octets)
block-left block octets few =
    let all : length block + (512 - length block) ≡ 512 = omega arith in
    take_all (length octets - (512 - length block)) (drop (512 - length block) octets) (omega (arith, length-drop (512 - length block) octets))
    ∙ sym (drop-append-add block octets (512 - length block)) ∙ ap (λ (n : ℕ). drop n (block ++ octets)) all

-- ---- one Got a block

-- this number of blocks, and then that many more
pub gots-add : (server : CallSign) (number m n : ℕ) (octets : List ℕ) → gots server number (m + n) octets ≡ gots server number m octets ++ gots server number n (drop (512 * m) octets)
gots-add server number zero n octets = ap (λ (k : ℕ). gots server number k octets) (zero-add n)
gots-add server number (suc m) n octets =
    let step : suc m + n ≡ suc (m + n) = omega arith in
    let place : 512 + 512 * m ≡ 512 * suc m = omega arith in
    ap (λ (k : ℕ). gots server number k octets) step
    ∙ ap (λ (commands : List NotesCommand). got server number (take 512 octets) ∷ commands)
    (gots-add server number m n (drop 512 octets) ∙ ap (λ (rest : List ℕ). gots server number m (drop 512 octets) ++ gots server number n rest) (drop-drop (512 * m) 512 octets ∙ ap (λ (k : ℕ). drop k octets) place))

-- what was got after this number of blocks
pub gots-after : (server : CallSign) (number n : ℕ) (octets : List ℕ) (lists : Lists) → got_of (after_all lists (gots server number n octets)) server number ≡ got_of lists server number ++ take (512 * n) octets
gots-after server number zero octets lists = sym (append-nil (got_of lists server number))
gots-after server number (suc n) octets lists =
    let step : 512 + 512 * n ≡ 512 * suc n = omega arith in
    gots-after server number n (drop 512 octets) (after lists (got server number (take 512 octets)))
    ∙ ap (λ (os : List ℕ). os ++ take (512 * n) (drop 512 octets)) (got-append lists server number (take 512 octets))
    ∙ append_assoc (got_of lists server number) (take 512 octets) (take (512 * n) (drop 512 octets))
    ∙ ap (λ (os : List ℕ). got_of lists server number ++ os) (sym (take-add 512 (512 * n) octets) ∙ ap (λ (k : ℕ). take k octets) step)

-- the condition of each holds
pub gots-allowed : (server : CallSign) (number n : ℕ) (octets : List ℕ) (lists : Lists) → 1 ≤ number → 512 * n ≤ length octets → length (got_of lists server number) + 512 * n ≤ longest_file
    → AreAllowed lists (gots server number n octets)
gots-allowed server number zero octets lists some there fits = tt
gots-allowed server number (suc n) octets lists some there fits =
    let step : 512 + 512 * n ≡ 512 * suc n = omega arith in
    let block : length (take 512 octets) ≡ 512 = length-take-le 512 octets (omega arith) in
    let more : length (got_of (after lists (got server number (take 512 octets))) server number) ≡ length (got_of lists server number) + 512 =
    ap length (got-append lists server number (take 512 octets)) ∙ length-append (got_of lists server number) (take 512 octets) ∙ ap (λ (k : ℕ). length (got_of lists server number) + k) block in (
      got-allowed lists server number (take 512 octets) some (omega arith) (omega arith) (omega arith),
      gots-allowed server number n (drop 512 octets) (after lists (got server number (take 512 octets))) some (omega (arith, length-drop 512 octets)) (omega arith),
    )

pub gots-len : (server : CallSign) (number n : ℕ) (octets : List ℕ) → length (gots server number n octets) ≡ n
gots-len server number zero octets = refl
gots-len server number (suc n) octets = ap suc (gots-len server number n (drop 512 octets))

-- the first of them, and the others
pub gots-split : (server : CallSign) (number i n : ℕ) (octets : List ℕ) → i ≤ n → gots server number n octets ≡ gots server number i octets ++ gots server number (n - i) (drop (512 * i) octets)
gots-split server number i n octets few =
    let sum : n ≡ i + (n - i) = omega arith in
    ap (λ (k : ℕ). gots server number k octets) sum ∙ gots-add server number i (n - i) octets

pub gots-take : (server : CallSign) (number i n : ℕ) (octets : List ℕ) → i ≤ n → take i (gots server number n octets) ≡ gots server number i octets
gots-take server number i n octets few =
    let len : length (gots server number i octets) ≡ i = gots-len server number i octets in
    ap (take i) (gots-split server number i n octets few)
    ∙ take-append-le i (gots server number i octets) (gots server number (n - i) (drop (512 * i) octets)) (omega (arith, len))
    ∙ take_all i (gots server number i octets) (omega (arith, len))

-- one more
pub gots-more : (server : CallSign) (number i : ℕ) (octets : List ℕ) → gots server number (i + 1) octets ≡ gots server number i octets ++ got server number (take 512 (drop (512 * i) octets)) ∷ []
gots-more server number i octets = gots-add server number i 1 octets

pub is-before : (count : ℕ) (commands : List NotesCommand) → count < length commands → IsBefore count commands
is-before count [] below = absurd (omega (arith, below))
is-before count (command ∷ commands) below = below

-- ---- while they are noted

module _ (server : CallSign) (number n i : ℕ) (octets : List ℕ) (lists now : Lists) (some : 1 ≤ number) (there : 512 * n ≤ length octets) (fits : length (got_of lists server number) + length octets ≤ longest_file)
    (below : i < n) (done : now ≡ after_all lists (gots server number i octets)) where
  pub block-len : length (take 512 (drop (512 * i) octets)) ≡ 512
  block-len = length-take-le 512 (drop (512 * i) octets) (omega (arith, length-drop (512 * i) octets, below, there))

  -- the next block may be noted
  pub block-allowed : (block : List ℕ) → block ≡ take 512 (drop (512 * i) octets) → IsTrue (is_allowed now (got server number block))
  block-allowed block is =
      let len : length block ≡ 512 = ap length is ∙ block-len in
      let front : length (take (512 * i) octets) ≡ 512 * i = length-take-le (512 * i) octets (omega (arith, below, there)) in
      let held : length (got_of now server number) ≡ length (got_of lists server number) + 512 * i =
      ap (λ (l : Lists). length (got_of l server number)) done ∙ ap length (gots-after server number i octets lists)
      ∙ length-append (got_of lists server number) (take (512 * i) octets) ∙ ap (λ (k : ℕ). length (got_of lists server number) + k) front in
      got-allowed now server number block some (omega arith) (omega arith) (omega (arith, len, held, below, there, fits))

module _ {D : Type 0} (g : Ghosts D) (on : (first second third : D) → g.lasts first second → g.lasts second third → g.lasts first third)
    (server : CallSign) (number n i : ℕ) (octets block : List ℕ) (old mid new : NotesState) (disk disk_mid disk_now : D) (is : block ≡ take 512 (drop (512 * i) octets))
    (first : DoesSeveral g ⊥ old mid disk disk_mid (gots server number i octets)) where
  more-by : (P : Type 0) → DoesSeveral g P mid new disk_mid disk_now (got server number block ∷ []) → DoesSeveral g P old new disk disk_now (gots server number (i + 1) octets)
  more-by P second =
      let all : gots server number (i + 1) octets ≡ gots server number i octets ++ got server number block ∷ [] =
      gots-more server number i octets ∙ ap (λ (os : List ℕ). gots server number i octets ++ got server number os ∷ []) (sym is) in
      subst (λ (cs : List NotesCommand). DoesSeveral g P old new disk disk_now cs) (sym all)
      (Several-then g on ⊥ P old mid new disk disk_mid disk_now (gots server number i octets) (got server number block ∷ []) (λ never. never) first second)

  -- one more is noted
  pub more-noted : DoesSeveral g ⊥ mid new disk_mid disk_now (got server number block ∷ []) → DoesSeveral g ⊥ old new disk disk_now (gots server number (i + 1) octets)
  more-noted second = more-by ⊥ second

  -- one isn't: the disk failed in it, or there was no memory for it
  pub one-stopped : (T U : Type 0) (why : Halt) → i < n → AreAllowed old.lists (gots server number n octets) → HasNoted {T = T} g mid new disk_mid disk_now (got server number block ∷ []) (Err why)
      → HasNoted {T = U} g old new disk disk_now (gots server number n octets) (Err why)
  one-stopped T U stop.Disk below allowed noted =
      let split = gots-split server number (i + 1) n octets (omega arith) in
      subst (λ (cs : List NotesCommand). DoesSeveral g ⊤ old new disk disk_now cs) (sym split)
      (Several-longer g ⊤ old new disk disk_now (gots server number (i + 1) octets) (gots server number (n - (i + 1)) (drop (512 * (i + 1)) octets)) tt
      (subst (λ (cs : List NotesCommand). AreAllowed old.lists cs) split allowed) (more-by ⊤ noted))
  one-stopped T U stop.OutOfMemory below allowed noted =
      let none : noted.0 ≡ 0 = let few = noted.1 in omega (arith, few) in
      let second : DoesSeveral g ⊥ mid new disk_mid disk_now [] = subst (λ (k : ℕ). DoesSeveral g ⊥ mid new disk_mid disk_now (take k (got server number block ∷ []))) none noted.2 in
      let all : take i (gots server number n octets) ≡ gots server number i octets ++ [] = gots-take server number i n octets (omega arith) ∙ sym (append-nil (gots server number i octets)) in
      let len : length (gots server number n octets) ≡ n = gots-len server number n octets in (
        i,
        is-before i (gots server number n octets) (omega (arith, len, below)),
        subst (λ (cs : List NotesCommand). DoesSeveral g ⊥ old new disk disk_now cs) (sym all)
            (Several-then g on ⊥ ⊥ old mid new disk disk_mid disk_now (gots server number i octets) [] (λ never. never) first second),
      )
