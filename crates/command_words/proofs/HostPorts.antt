-- Where a word is cut at its first colon.
use Rattle.std.proofs.Common.{◌≡◌, ◌≢◌, ◌<◌, ◌≤◌, ℕ, zero, suc, true, false, List, [], ◌∷◌, length, get_or, Option, None, Some, refl, sym, ◌∙◌, arith, append_assoc, Bor, is_some, true≢false, ne_eqb, eq-eqb, ◌==◌}
use Rattle.std.proofs.lemmas.Str.Pattern.{IsSplitOnceResult, split_after, split_parts}
use Rattle.command_words.proofs.Names.{has_byte, or_parts, IfNone, IfSome, AllByRecursion, NumberText, IsHostPort}

abbrev IsNone : ℕ → Type 0
IsNone c = c ≢ 58

all_from : (text : List ℕ) → ((i : ℕ) → i < length text → get_or text i 0 ≢ 58) → AllByRecursion (λ c. c ≢ 58) text
all_from [] h = tt
all_from (x ∷ text) h = (h 0 (omega arith), all_from text (λ i below. h (suc i) (omega arith)))

all_to : (text : List ℕ) → AllByRecursion (λ c. c ≢ 58) text → (i : ℕ) → i < length text → get_or text i 0 ≢ 58
all_to [] all i below = absurd (omega arith)
all_to (x ∷ text) all zero below = all.0
all_to (x ∷ text) all (suc i) below = all_to text all.1 i (omega arith)

abbrev Cut : Type 0
Cut = Option (Bor (List ℕ) × Bor (List ℕ))

-- a host, and the number of a port after the first colon
pub host_port : (word : List ℕ) (host port : Bor (List ℕ)) (number : ℕ) → IsSplitOnceResult 58 word (Some (host, port)) → (host.now ≡ [] → ⊥)
    → NumberText 1 65535 port.now number → IsHostPort word
host_port word host port number cut some in_range =
    let (written, none) = split_parts 58 word (Some (host, port)) cut (omega arith) in
    record {
      host = host.now;
      port = port.now;
      number = number;
      written = written ∙ sym (append_assoc host.now (58 ∷ []) port.now);
      some = filled host.now some;
      plain = all_from host.now none;
      in_range = in_range;
    }
  where
    filled : (text : List ℕ) → (text ≡ [] → ⊥) → 1 ≤ length text
    filled [] h = absurd (h refl)
    filled (x ∷ text) h = omega arith

-- the parts of a host and port are those before and after the first colon
pub cut_at_colon : (word : List ℕ) (host port : Bor (List ℕ)) (is : IsHostPort word) → IsSplitOnceResult 58 word (Some (host, port)) → (host.now ≡ is.host) × (port.now ≡ is.port)
cut_at_colon word host port is cut =
    split_after 58 word is.host is.port (Some (host, port)) cut (omega arith) (is.written ∙ append_assoc is.host (58 ∷ []) is.port) (all_to is.host is.plain)

-- and there is a colon
pub has_colon : (word : List ℕ) → IsSplitOnceResult 58 word None → IsHostPort word → ⊥
has_colon word cut is = split_after 58 word is.host is.port None cut (omega arith) (is.written ∙ append_assoc is.host (58 ∷ []) is.port) (all_to is.host is.plain)

-- the number that was read, or that there is none
pub number_some : (read : Option ℕ) (P : ℕ → Type 0) → IfSome read P → is_some read ≡ true → (number : ℕ) × P number
number_some None P h e = absurd (true≢false (sym e))
number_some (Some number) P h e = (number, h)

pub number_none : (read : Option ℕ) (P : Type 0) → IfNone read P → is_some read ≡ false → P
number_none None P h e = h
number_none (Some number) P h e = absurd (true≢false e)

-- a text lacks the colon where none of its octets is one
pub all_lack : (text : List ℕ) → AllByRecursion (λ c. c ≢ 58) text → has_byte 58 text ≡ false
all_lack [] all = refl
all_lack (x ∷ text) all = rw (ne_eqb x 58 all.0) (all_lack text all.1)

pub lack_all : (text : List ℕ) → has_byte 58 text ≡ false → AllByRecursion (λ c. c ≢ 58) text
lack_all [] e = tt
lack_all (x ∷ text) e =
    let parts = or_parts (x == 58) (has_byte 58 text) e in
    (λ same. true≢false (sym (eq-eqb x 58 same) ∙ parts.0), lack_all text parts.1)
