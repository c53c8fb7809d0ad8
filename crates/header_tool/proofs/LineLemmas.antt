-- The text that shows a header, by the items and the fault of its file.
use Rattle.std.proofs.Common.{◌≡◌, ℕ, List, Option, Some, None, option_map, refl, ap, ◌∙◌}
use Rattle.px_base.specs.Octets.{IsOctets}
use Rattle.pfh_items.specs.declared.fault.FileFault.{FileFault}
use Rattle.pfh_items.specs.Faults.{IsFound, code_of, fault_code, file_parts, first_fault}
use Rattle.header_tool.proofs.Names.{ItemValue, HeaderValue, FileText, file_parts-text, FileText-file_parts, first_fault-from, first_fault-none, ChecksFault, ShowsFault, ShowsItems, items_in, last_line, shown_text}

-- the first fault of a file is the one that is computed
first_fault-is : (file : List ℕ) (fault : Option FileFault) → IsOctets file → IsFound file fault → first_fault file ≡ fault
first_fault-is file None h is = first_fault-none is.0 is.1 file is.2
first_fault-is file (Some fault) h is = first_fault-from file fault h is

-- a file that is no header and body has no parts
no_parts : (file : List ℕ) → IsOctets file → ((items : List ItemValue) (body : List ℕ) → FileText items body file → ⊥) → file_parts file ≡ None
no_parts file h not = by (file_parts file) refl
  where
    by : (parts : Option HeaderValue) → file_parts file ≡ parts → file_parts file ≡ None
    by None p = p
    by (Some parts) p = absurd (not parts.items parts.body (FileText-file_parts file parts h p))

pub shows_items : ShowsItems
shows_items items body file fault h is found =
    ap (λ (parts : Option HeaderValue). shown_text (items_in parts) (fault_code file)) (file_parts-text items body file is)
    ∙ ap (λ (f : Option FileFault). shown_text items (option_map code_of f)) (first_fault-is file fault h found)

pub shows_fault : ShowsFault
shows_fault file fault h not found =
    ap (λ (parts : Option HeaderValue). shown_text (items_in parts) (fault_code file)) (no_parts file h not)
    ∙ ap (λ (f : Option FileFault). last_line (option_map code_of f)) (first_fault-is file fault h found)

pub checks_fault : ChecksFault
checks_fault file fault h found = ap (λ (f : Option FileFault). last_line (option_map code_of f)) (first_fault-is file fault h found)
