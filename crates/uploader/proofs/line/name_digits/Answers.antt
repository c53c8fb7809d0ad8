-- Hexadecimal digits are a text.
use Rattle.std.proofs.Common.{◌≡◌, ◌<◌, List, [], ◌∷◌, rules, subst, sym}
use Rattle.std.specs.Str.{IsAscii, IsUtf8}
use Rattle.std.proofs.lemmas.Str.{IsUtf8-from_ascii}
use Rattle.std.proofs.lemmas.Str.Ascii.{IsAscii-cons, IsAscii-nil}
use Rattle.hex.specs.Hex.{encode_lower, lower_digits}
use Rattle.hex.proofs.HexLemmas.{IsAscii-encode_with}
use Rattle.uploader.proofs.Names.{ℕ, AllByRecursion}
use Rattle.uploader.proofs.line.name_digits.Goals as goal

-- octets below 128, each by itself
below : (octets : List ℕ) → AllByRecursion (λ octet. octet < 128) octets → IsAscii octets
below [] all = IsAscii-nil
below (octet ∷ octets) all = IsAscii-cons octet octets all.0 (below octets all.1)

ascii : IsAscii lower_digits
ascii = below lower_digits (search rules depth 20)

pub unwrap-requires-4 : goal.unwrap-requires-4
unwrap-requires-4 c =
    let name = c.as_slice.result.now in
    let is : c.encode_to_slice.new.output ≡ encode_lower name = search rules in
    c.from_byte_string.ensures.variant.1 (subst (λ (octets : List ℕ). IsUtf8 octets) (sym is) (IsUtf8-from_ascii (encode_lower name) (IsAscii-encode_with lower_digits name ascii)))
