-- What a file is made of: its body, and what its header says (PFH 1990, mandatory, extended and optional header).
use Rattle.std.specs.Prelude.{◌≡◌, ◌⊎◌, ℕ, ◌-◌, List, [], ◌∷◌, ◌++◌, length, replicate, Bool, true, not, ◌&&◌, nat_le, if◌then◌else◌, Option, Some, None, option_map, Result, Err}
use Rattle.std.specs.List.{list_all}
use Rattle.std.specs.Option.{option_copied}
use Rattle.pfh_items.specs.Faults.{IsFaultless}
use Rattle.pfh_items.specs.Layout.{ItemValue}
use Rattle.pfh_writer.specs.Built.{BuilderValue, built_items, item, passing_len, put_refusal}
use Rattle.header_tool.specs.declared.refusal.MakeRefusal.{MakeRefusal}
use Rattle.header_tool.specs.declared.refusal.MakeRefusal.TheVariants.{BadName, BadExt, LongText, TooLong, OutOfMemory}
use Rattle.header_tool.specs.declared.spec.MakeSpec.{MakeSpec}

-- what contracts see of what a header is made of
pub record MakeValue : Type 0 where
  pub name : List ℕ
  pub ext : List ℕ
  pub file_type : ℕ
  pub time : ℕ
  pub source : List ℕ
  pub destination : Option (List ℕ)
  pub title : Option (List ℕ)

abbrev pub make_value : MakeSpec → MakeValue
make_value spec =
    record {
      name = spec.name.now;
      ext = spec.ext.now;
      file_type = spec.file_type;
      time = spec.time;
      source = spec.source.now;
      destination = option_copied spec.destination;
      title = option_copied spec.title;
    }

-- a character of ASCII that is printed, or a blank
abbrev pub is_printed : ℕ → Bool
is_printed octet = nat_le 0x20 octet && nat_le octet 0x7E

-- whether this may be a file's name: 1 to 8 characters that are printed
abbrev pub is_name : List ℕ → Bool
is_name text = nat_le 1 (length text) && nat_le (length text) 8 && list_all is_printed text

-- whether this may be its extension: 0 to 3
abbrev pub is_ext : List ℕ → Bool
is_ext text = nat_le (length text) 3 && list_all is_printed text

-- whether a text fits an item: it has at most 255 octets
abbrev pub fits_item : List ℕ → Bool
fits_item text = nat_le (length text) 255

-- the same of a text that may be left out
abbrev pub fits_if_given : Option (List ℕ) → Bool
fits_if_given None = true
fits_if_given (Some text) = fits_item text

-- whether each text fits an item
abbrev pub has_short_texts : MakeValue → Bool
has_short_texts spec = fits_item spec.source && fits_if_given spec.destination && fits_if_given spec.title

-- Why no header is made of this, whatever the body: the first of three causes.
abbrev pub spec_refusal : MakeValue → Option MakeRefusal
spec_refusal spec =
    if not (is_name spec.name) then Some BadName
    else if not (is_ext spec.ext) then Some BadExt
    else if not (has_short_texts spec) then Some LongText
    else None

-- a text, padded with blanks to this length
abbrev pub padded : ℕ → List ℕ → List ℕ
padded len text = text ++ replicate (len - length text) 0x20

-- a call that isn't known yet: six blanks
abbrev pub no_call : List ℕ
no_call = 0x20 ∷ 0x20 ∷ 0x20 ∷ 0x20 ∷ 0x20 ∷ 0x20 ∷ []

-- a moment that isn't known yet, or none
abbrev pub no_moment : List ℕ
no_moment = 0 ∷ 0 ∷ 0 ∷ 0 ∷ []

-- a count, or a priority, that is 0
abbrev pub nought : List ℕ
nought = 0 ∷ []

-- the items of a message with a destination, and none of one without: those that name its ends, and those that a server
-- fills in
abbrev pub message_items : List ℕ → Option (List ℕ) → List ItemValue
message_items source None = []
message_items source (Some destination) =
    item 0x10 source  -- source
    ∷ item 0x11 no_call  -- ax25_uploader
    ∷ item 0x12 no_moment  -- upload_time
    ∷ item 0x13 nought  -- download_count
    ∷ item 0x14 destination  -- destination
    ∷ item 0x15 no_call  -- ax25_downloader
    ∷ item 0x16 no_moment  -- download_time
    ∷ item 0x17 no_moment  -- expire_time
    ∷ item 0x18 nought  -- priority
    ∷ []

-- the item of a title, where there is one
abbrev pub title_items : Option (List ℕ) → List ItemValue
title_items None = []
title_items (Some title) = item 0x22 title ∷ []

-- a builder with these other items
abbrev pub with_others : BuilderValue → List ItemValue → BuilderValue
with_others builder items = record builder { others = items }

-- with the items of a message
abbrev pub with_message : BuilderValue → List ℕ → Option (List ℕ) → BuilderValue
with_message builder source destination = with_others builder (message_items source destination)

-- with these items more
abbrev pub with_more : BuilderValue → List ItemValue → BuilderValue
with_more builder items = with_others builder (builder.others ++ items)

-- with one item more, of this id and with this data
abbrev pub with_item : BuilderValue → ℕ → List ℕ → BuilderValue
with_item builder id content = with_more builder (item id content ∷ [])

-- a builder takes an item of this id with this data
abbrev pub Takes : BuilderValue → ℕ → List ℕ → Type 0
Takes builder id content = put_refusal builder.others id content ≡ None

-- what the header's builder is given: both times are the same, and seu_flag is 0
abbrev pub made_builder : MakeValue → BuilderValue
made_builder spec =
    record {
      name = padded 8 spec.name;
      ext = padded 3 spec.ext;
      created = spec.time;
      modified = spec.time;
      seu = 0;
      file_type = spec.file_type;
      others = message_items spec.source spec.destination ++ title_items spec.title;
    }

-- the items of the file that is made of this and a body
abbrev pub made_items : MakeValue → List ℕ → List ItemValue
made_items spec body = built_items (made_builder spec) body

-- This is the file that is made: these items, whose lengths and sums are the file's, and the body.
abbrev pub IsMade : MakeValue → List ℕ → List ℕ → Type 0
IsMade spec body file = IsFaultless (made_items spec body) body file

-- this refusal, or else the one of a file that would be too long
abbrev pub or_long : Option MakeRefusal → Option ℕ → Option MakeRefusal
or_long (Some refusal) len = Some refusal
or_long None len = option_map TooLong len

-- why no file is made of this and a body, if none is: the first of four causes
abbrev pub make_refusal : MakeValue → List ℕ → Option MakeRefusal
make_refusal spec body = or_long (spec_refusal spec) (passing_len (made_builder spec) body)

-- This refusal is answered; where the file would be too long, a want of memory may come in its place.
abbrev pub IsRefused : {T : Type 0} → Result T MakeRefusal → MakeRefusal → Type 0
IsRefused result (TooLong len) = (result ≡ Err (TooLong len)) ⊎ (result ≡ Err OutOfMemory)
IsRefused result refusal = result ≡ Err refusal
