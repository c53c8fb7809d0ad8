-- Which parts failures list.
use Rattle.std.proofs.Common.{◌≡◌, ◌≢◌, ℕ, ◌<◌, ◌≤◌, Bool, true, false, List, [], ◌∷◌, ◌++◌, refl, ap, sym, ◌∙◌, arith, ⊎_elim}
use Rattle.std.specs.Prelude.{◌==◌, ◌||◌, if◌then◌else◌}
use Rattle.std.proofs.lemmas.List.Folds.{list_any-append}
use Rattle.std.proofs.Math.Bool.{or-false}
use Rattle.ftl0_server.proofs.Names.{common_steps, All, AllByRecursion, eq-eqb, eqb-true, eqb_tells, All-cons, All-nil, recursion_from_All, Failure, failed_reads, failed_write, read_fails, write_fails, is_among, reads-behind, reads-listed, write-listed, write-unread, writes-behind, writes-unlisted}

not-equal : (a b : ℕ) → a ≢ b → (a == b) ≡ false
not-equal a b ne = ⊎_elim (λ (w : ((a == b) ≡ true) × (a ≡ b)). absurd (ne w.1)) (λ (w : ((a == b) ≡ false) × (a ≢ b)). w.0) (eqb_tells a b)

-- ---- which parts are among others

among-none : (part : ℕ) (parts : List ℕ) → AllByRecursion (λ one. one ≢ part) parts → is_among part parts ≡ false
among-none part [] others = refl
among-none part (one ∷ parts) others = ap (λ b. b || is_among part parts) (not-equal one part others.0) ∙ among-none part parts others.1

-- a part before all of these isn't
among-later : (low part : ℕ) (parts : List ℕ) → All (λ one. low ≤ one) parts → part < low → is_among part parts ≡ false
among-later low part parts later before = grind (arith, common_steps, among-none, recursion_from_All)

-- nor a part after all of these
among-before : (high part : ℕ) (parts : List ℕ) → All (λ one. one < high) parts → high ≤ part → is_among part parts ≡ false
among-before high part parts before later = grind (arith, common_steps, among-none, recursion_from_All)

among-append : (part : ℕ) (some others : List ℕ) → is_among part (some ++ others) ≡ (is_among part some || is_among part others)
among-append part some others = list_any-append (λ one. one == part) some others

-- of parts and later ones, those before the later ones are as without them
pub among-first : (high part : ℕ) (some others : List ℕ) → All (λ one. high ≤ one) others → part < high → is_among part (some ++ others) ≡ is_among part some
among-first high part some others later before = grind (arith, common_steps, among-append, is_among, among-later, or-false)

-- and later parts are as without the others
pub among-second : (low part : ℕ) (some others : List ℕ) → All (λ one. one < low) some → low ≤ part → is_among part (some ++ others) ≡ is_among part others
among-second low part some others before later = among-append part some others ∙ ap (λ b. b || is_among part others) (among-before low part some before later)

-- ---- reads among writes

-- no read among these failures
abbrev pub AreWrites : List Failure → Type 0
AreWrites failures = (part : ℕ) → read_fails failures part ≡ false

pub none-writes : AreWrites []
none-writes part = refl

pub one-writes : (part : ℕ) → AreWrites (failed_write part)
one-writes one part = write-unread one part

-- the writes that are listed, if reads are too
pub writes-among : (writes : List Failure) (parts : List ℕ) (part : ℕ) → write_fails (writes ++ failed_reads parts) part ≡ write_fails writes part
writes-among writes parts part = grind (arith, common_steps, writes-behind, writes-unlisted, or-false)

-- and the reads
pub reads-among : (writes : List Failure) (parts : List ℕ) (part : ℕ) → AreWrites writes → read_fails (writes ++ failed_reads parts) part ≡ is_among part parts
reads-among writes parts part are = grind (arith, common_steps, reads-behind, reads-listed)

-- a part at which one write fails is that write's
pub same-part : (one part : ℕ) (parts : List ℕ) → write_fails (failed_write one ++ failed_reads parts) part ≡ true → one ≡ part
same-part one part parts fails = eqb-true one part (sym (write-listed one part) ∙ sym (writes-among (failed_write one) parts part) ∙ fails)

pub other-part : (one part : ℕ) → one ≢ part → write_fails (failed_write one) part ≡ false
other-part one part ne = write-listed one part ∙ not-equal one part ne

-- ---- one part

-- this part, if it is to be listed
abbrev pub at_part : Bool → ℕ → List ℕ
at_part fails part = if fails then part ∷ [] else []

pub among-at : (fails : Bool) (part : ℕ) → is_among part (at_part fails part) ≡ fails
among-at fails part = grind (arith, common_steps, or-false, eq-eqb)

pub All-at : (P : ℕ → Type 0) (fails : Bool) (part : ℕ) → P part → All P (at_part fails part)
All-at P fails part here = grind (arith, common_steps, All-cons, All-nil)

-- such a part fails to be read, whatever writes fail
pub reads-at : (writes : List Failure) (fails : Bool) (part : ℕ) → AreWrites writes → read_fails (writes ++ failed_reads (at_part fails part)) part ≡ fails
reads-at writes fails part are = reads-among writes (at_part fails part) part are ∙ among-at fails part

pub writes-none : (parts : List ℕ) (part : ℕ) → write_fails ([] ++ failed_reads parts) part ≡ false
writes-none parts part = writes-among [] parts part

pub writes-at : (part : ℕ) (parts : List ℕ) → write_fails (failed_write part ++ failed_reads parts) part ≡ true
writes-at part parts = writes-among (failed_write part) parts part ∙ write-listed part part ∙ eq-eqb part part refl

-- ---- failures that are alike

-- these failures list the same of each part from one number up to another
abbrev pub AreAlike : ℕ → ℕ → List Failure → List Failure → Type 0
AreAlike low high some others = (part : ℕ) → low ≤ part → part < high → (read_fails some part ≡ read_fails others part) × (write_fails some part ≡ write_fails others part)

-- whatever reads fail at later parts, and whatever writes at no part of these
pub alike-first : (writes : List Failure) (some others : List ℕ) (low high : ℕ) → AreWrites writes → ((part : ℕ) → part < high → write_fails writes part ≡ false) → All (λ one. high ≤ one) others
    → AreAlike low high (writes ++ failed_reads (some ++ others)) ([] ++ failed_reads some)
alike-first writes some others low high are none later part from before = grind (arith, common_steps, reads-among, among-first, reads-listed, writes-among, writes-unlisted)

-- whatever reads fail at earlier parts
pub alike-second : (writes : List Failure) (some others : List ℕ) (low high : ℕ) → AreWrites writes → All (λ one. one < low) some
    → AreAlike low high (writes ++ failed_reads (some ++ others)) (writes ++ failed_reads others)
alike-second writes some others low high are before part from within = grind (arith, common_steps, reads-among, among-second, writes-among)
