-- What a queue holds of the octets that were pushed and aren't acknowledged.
use Rattle.std.specs.Prelude.{◌≡◌, ℕ, ◌≤◌, ◌-◌, List, [], ◌∷◌, ◌++◌, length, take, drop, sum, All}
use Rattle.std.specs.List.{concat}

-- the pieces of the outstanding I frames, the oldest first, and the octets that weren't sent
pub record Queue : Type 0 where
  pub pieces : List (List ℕ)
  pub unsent : List ℕ

-- the octets of both, in order
abbrev pub octets_of : Queue → List ℕ
octets_of queue = concat queue.pieces ++ queue.unsent

abbrev pub empty_queue : Queue
empty_queue = record { pieces = []; unsent = [] }

-- how many octets can be queued
abbrev pub room_of : Queue → ℕ
room_of queue = 4096 - length (octets_of queue)

-- octets cut into pieces of these lengths
abbrev pub cut : List ℕ → List ℕ → List (List ℕ)
cut [] octets = []
cut (size ∷ sizes) octets = take size octets ∷ cut sizes (drop size octets)

-- the queue of these octets, the first of which are in pieces of these lengths
abbrev pub queue_of : List ℕ → List ℕ → Queue
queue_of sizes octets = record { pieces = cut sizes octets; unsent = drop (sum sizes) octets }

-- the pieces are some of the octets, each has at most 256, and there is room for 4,096 octets
pub record AreSizes (sizes octets : List ℕ) (capacity : ℕ) : Type 0 where
  pub inside : sum sizes ≤ length octets
  pub most : All (λ size. size ≤ 256) sizes
  pub room : capacity ≡ 4096
