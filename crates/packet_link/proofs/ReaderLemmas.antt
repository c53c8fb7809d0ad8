-- The octets that wait in a reader of packets.
use Rattle.std.proofs.Common.{◌≡◌, ℕ, ◌<◌, Bool, true, false, List, [], ◌∷◌, ◌++◌, length, take, ap, sym, ◌∙◌, subst, append-nil, arith}
use Rattle.std.specs.Prelude.{if◌then◌else◌}
use Rattle.px_base.specs.Octets.{IsOctets}
use Rattle.packet_link.proofs.Names.{nat_eq, is_whole, packets_of, rest_of, under_way, IsOctets-append, IsOctets-nil, IsOctets-take, IsWaiting}

-- in a new reader
pub waits-none : (reader : List ℕ) → reader ≡ [] → packets_of (under_way reader) ≡ [] → rest_of (under_way reader) ≡ [] → IsWaiting (under_way reader)
waits-none reader is none left =
    let nothing : under_way reader ≡ [] = ap under_way is in
    record {
      none = none;
      left = left ∙ sym nothing;
      are_octets = subst (λ (o : List ℕ). IsOctets o) (sym nothing) IsOctets-nil;
    }

-- octets, or none of them
octets_if : (b : Bool) (xs : List ℕ) → IsOctets xs → IsOctets (if b then [] else xs)
octets_if true xs h = IsOctets-nil
octets_if false xs h = h

-- after octets were put to those under way
pub waits-after : (reader now piece : List ℕ) (taken : ℕ) → IsWaiting (under_way reader) → IsOctets piece → now ≡ under_way reader ++ take taken piece
    → packets_of (under_way now) ≡ [] → rest_of (under_way now) ≡ under_way now → IsWaiting (under_way now)
waits-after reader now piece taken waiting octets is none left =
    record {
      none = none;
      left = left;
      are_octets = octets_if (is_whole now) now
          (subst (λ (o : List ℕ). IsOctets o) (sym is) (IsOctets-append (under_way reader) (take taken piece) waiting.are_octets (IsOctets-take taken piece octets)));
    }

-- what is true of octets whatever comes later is true if nothing does
pub with-none : {X : Type 0} (f g : List ℕ → X) (u p v q : List ℕ) → ((later : List ℕ) → f (u ++ (p ++ later)) ≡ g (v ++ (q ++ later))) → f (u ++ p) ≡ g (v ++ q)
with-none f g u p v q h = ap (λ octets. f (u ++ octets)) (sym (append-nil p)) ∙ h [] ∙ ap (λ octets. g (v ++ octets)) (append-nil q)

-- octets that aren't none are some
pub some-of : (xs : List ℕ) → nat_eq (length xs) 0 ≡ false → 0 < length xs
some-of [] e = absurd (cc e)
some-of (x ∷ xs) e = omega arith
