-- Laws of headers: what is said by a relation is the same as what is computed.
use Rattle.std.specs.Prelude.{◌≡◌, ◌↔◌, ℕ, List, [], ◌++◌, Some, None}
use Rattle.px_base.specs.CallSign.{IsCall}
use Rattle.pfh_items.specs.declared.fault.FileFault.{FileFault}
use Rattle.pfh_items.specs.Faults.{FirstFault, IsFaultless, first_fault}
use Rattle.pfh_items.specs.Layout.{ItemValue, FileText}
use Rattle.px_base.specs.Octets.{IsOctets}
use Rattle.pfh_items.specs.Stamp.{StampValue, Stamped, stamped}
use Rattle.pfh_items.specs.Walk.{ItemList, ItemsFrom, items_from}

-- octets have the items that are read from the front, stop where that says, and have no others
abbrev pub IsOneWalk : Type 0
IsOneWalk =
    (place : ℕ) (octets : List ℕ) (walk : ItemList) → IsOctets octets
    → (ItemsFrom place octets walk) ↔ (walk ≡ items_from place octets)

-- No header begins another header with anything behind it: a file has one header, and one body.
abbrev pub IsOneHeader : Type 0
IsOneHeader =
    (file : List ℕ) (items others : List ItemValue) (body other : List ℕ) → FileText items body file → FileText others other file
    → (items ≡ others) × (body ≡ other)

-- a file has the first fault that is computed, and no other
abbrev pub IsOneFault : Type 0
IsOneFault =
    (file : List ℕ) (fault : FileFault) → IsOctets file → (FirstFault fault file) ↔ (first_fault file ≡ Some fault)

-- it keeps all rules exactly where no first fault is computed
abbrev pub HasNoFault : Type 0
HasNoFault =
    (file : List ℕ) → IsOctets file
    → ((items : List ItemValue) × (body : List ℕ) × IsFaultless items body file) ↔ (first_fault file ≡ None)

-- a file that is a header and a body is stamped to what is computed, and to nothing else
abbrev pub IsOneStamp : Type 0
IsOneStamp =
    (stamp : StampValue) (old new : List ℕ) (items : List ItemValue) (body : List ℕ) → FileText items body old → IsCall stamp.by
    → (Stamped stamp old new) ↔ (new ≡ stamped stamp old)

-- No proper front of a file without fault is a file without fault: file_size is the length of the whole.
abbrev pub HasNoFront : Type 0
HasNoFront =
    (items others : List ItemValue) (body other front more : List ℕ) → IsFaultless items body (front ++ more)
    → IsFaultless others other front → more ≡ []

-- a header is octets, so a file is octets where its body is
abbrev pub IsOctetsAsBody : Type 0
IsOctetsAsBody =
    (items : List ItemValue) (body file : List ℕ) → FileText items body file → IsOctets body → IsOctets file
