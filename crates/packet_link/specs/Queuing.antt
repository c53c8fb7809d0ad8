-- How packets are queued: replies if they fit, and what is due while enough octets are free.
use Rattle.std.specs.Prelude.{ℕ, zero, suc, List, length, Bool, nat_le, if◌then◌else◌, Option, None, Some}
use Rattle.ax25_link.specs.Ends.{LinkEnd, free_octets}

-- whether the link has room for replies of this text
abbrev pub fits : LinkEnd → List ℕ → Bool
fits end text = nat_le (length text) (free_octets end)

-- how many octets are free at least when a packet that is due is queued
abbrev pub enough_free : ℕ
enough_free = 1280

-- what follows if a packet is due, or what is there if none is
abbrev pub on_due : {P S : Type 0} → Option P → S → (P → S) → S
on_due None s later = s
on_due (Some packet) s later = later packet

-- Packets that are due are queued, one after another, while enough octets are free at a state's end: this number of
-- them at most. Of a state `due` gives the packet that is due, if one is, and `after` what it is once that is queued.
abbrev pub filling : {P S : Type 0} → (S → LinkEnd) → (S → Option P) → (P → S → S) → ℕ → S → S
filling end due after zero s = s
filling end due after (suc more) s =
    if nat_le enough_free (free_octets (end s))
    then on_due (due s) s (λ packet. filling end due after more (after packet s))
    else s
