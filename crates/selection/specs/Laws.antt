-- Laws of selections: what is said by a relation is the same as what is computed.
use Rattle.std.specs.Prelude.{◌≡◌, ◌↔◌, ◌≤◌, ℕ, List, Ok, Err}
use Rattle.px_base.specs.Octets.{IsOctets}
use Rattle.selection.specs.declared.fault.SelFault.{SelFault}
use Rattle.selection.specs.Faults.{FirstFault}
use Rattle.selection.specs.Layout.{Tree, IsTree, Postfix, most_tokens, tokens_of, tree_text}
use Rattle.selection.specs.Reading.{tree_in}

-- tokens have the tree that is computed, and no other
abbrev pub IsOneTree : Type 0
IsOneTree = (octets : List ℕ) (tree : Tree) → IsOctets octets → (Postfix tree octets) ↔ (tree_in octets ≡ Ok tree)

-- they have the first fault that is computed, and no other
abbrev pub IsOneFault : Type 0
IsOneFault = (octets : List ℕ) (fault : SelFault) → IsOctets octets → (FirstFault fault octets) ↔ (tree_in octets ≡ Err fault)

-- the tokens of a tree are read back as the tree
abbrev pub ReadsBack : Type 0
ReadsBack = (tree : Tree) → IsTree tree → tokens_of tree ≤ most_tokens → tree_in (tree_text tree) ≡ Ok tree
