-- How a command that shows a file ended, by the content of the name.
use Rattle.std.proofs.Common.{◌≡◌, ℕ, ◌<◌, List, length, refl, ap, sym, ◌∙◌, inl, inr, arith}
use Rattle.pacsat_cli.specs.declared.status.RefusedBy.TheVariants as by
use Rattle.pacsat_cli.proofs.Names.{Option, None, Some, FileCommand, Status, Done, Refused, NoSuch, OutOfMemory, Out, Shelf, TooLong, FileEnd, FileText, IsNoSuchBy, IsShownBy, IsTooLongBy, end_of, most_octets}

-- content that isn't there isn't content that may be shown
text-none : (command : FileCommand) (content : Option (List ℕ)) (all : List ℕ) (last : Status) → FileText command content all last → content ≡ None → ⊥
text-none command content all last h none = let e = sym h.there ∙ none in cc

-- nor is content that is too long
text-long : (command : FileCommand) (content : Option (List ℕ)) (all : List ℕ) (last : Status) (octets : List ℕ) → FileText command content all last → content ≡ Some octets → most_octets < length octets → ⊥
text-long command content all last octets h there long =
    let same : h.octets ≡ octets = (let e = sym h.there ∙ there in cc) in
    absurd (omega (arith, h.most, long, ap length same))

-- where it is shown, the status is the one of the content
text-end : (command : FileCommand) (content : Option (List ℕ)) (all : List ℕ) (last : Status) (octets : List ℕ) → FileText command content all last → content ≡ Some octets → last ≡ end_of command octets
text-end command content all last octets h there =
    let same : h.octets ≡ octets = (let e = sym h.there ∙ there in cc) in
    sym h.ends ∙ ap (end_of command) same

pub no_such-end : (command : FileCommand) (content : Option (List ℕ)) (text : List ℕ) (s : Status) → FileEnd command content text s → IsNoSuchBy s command content
no_such-end command content text Done h none = absurd (text-none command content text Done h none)
no_such-end command content text (Refused by.Shown) h none = absurd (text-none command content text (Refused by.Shown) h none)
no_such-end command content text NoSuch h none = inl refl
no_such-end command content text TooLong h none = absurd (let e = sym h.1 ∙ none in cc)
no_such-end command content text Out h none = absurd (text-none command content h.0 h.1 h.2 none)
no_such-end command content text Shelf h none = inr (0, omega arith, refl)
no_such-end command content text OutOfMemory h none = inr (1, omega arith, refl)
no_such-end command content text s h none = absurd h

pub too_long-end : (command : FileCommand) (content : Option (List ℕ)) (text : List ℕ) (s : Status) → FileEnd command content text s → IsTooLongBy s command content
too_long-end command content text Done h octets there long = absurd (text-long command content text Done octets h there long)
too_long-end command content text (Refused by.Shown) h octets there long = absurd (text-long command content text (Refused by.Shown) octets h there long)
too_long-end command content text NoSuch h octets there long = absurd (let e = sym h.0 ∙ there in cc)
too_long-end command content text TooLong h octets there long = inl refl
too_long-end command content text Out h octets there long = absurd (text-long command content h.0 h.1 octets h.2 there long)
too_long-end command content text Shelf h octets there long = inr (0, omega arith, refl)
too_long-end command content text OutOfMemory h octets there long = inr (1, omega arith, refl)
too_long-end command content text s h octets there long = absurd h

pub shown-end : (command : FileCommand) (content : Option (List ℕ)) (text : List ℕ) (s : Status) → FileEnd command content text s → IsShownBy s command content
shown-end command content text Done h octets there short = inl (text-end command content text Done octets h there)
shown-end command content text (Refused by.Shown) h octets there short = inl (text-end command content text (Refused by.Shown) octets h there)
shown-end command content text NoSuch h octets there short = absurd (let e = sym h.0 ∙ there in cc)
shown-end command content text TooLong h octets there short =
    let same : h.0 ≡ octets = (let e = sym h.1 ∙ there in cc) in
    absurd (omega (arith, h.2, short, ap length same))
shown-end command content text Shelf h octets there short = inr (0, omega arith, refl)
shown-end command content text Out h octets there short = inr (1, omega arith, refl)
shown-end command content text OutOfMemory h octets there short = inr (2, omega arith, refl)
shown-end command content text s h octets there short = absurd h
