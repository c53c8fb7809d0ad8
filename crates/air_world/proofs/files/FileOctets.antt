-- The octets of a complete file of a sound store, and of what is due of it.
use Rattle.std.proofs.Common.{◌≡◌, ℕ, ◌-◌, ◌≤◌, ◌<◌, ◌==◌, List, length, take, drop, refl, ap, sym, subst, Option, None}
use Rattle.std.proofs.Common.{Some, arith}
use Rattle.air_world.proofs.files.Names.{All-drop, All-nil, All-take, IsOctets, Entry, Store, entry_of, octets_at, octets_of, IsDueIn, LiesIn, file_of, octets_in, octets_due, State, download_part, sending, file-complete, ServerSide, IsDueNow, IsSoundStore}
use Rattle.air_world.proofs.files.StoreLemmas.{found-such}

pub octets-entry : (store : Store) (number : ℕ) → IsSoundStore store → IsOctets (octets_in store number)
octets-entry store number sound = by (entry_of store number) refl
  where
    by : (o : Option Entry) → entry_of store number ≡ o → IsOctets (octets_at o)
    by None is = All-nil _
    by (Some entry) is =
        found-such (λ (e : Entry). IsOctets (octets_of e.holding))
        (λ (e : Entry). e.number == number) store.entries entry is sound.octets

pub octets-part : (count place : ℕ) (octets : List ℕ) → IsOctets octets → IsOctets (take count (drop place octets))
octets-part count place octets are =
    All-take (λ octet. octet < 256) count (drop place octets) (All-drop (λ octet. octet < 256) place octets are)

-- what is due of the file of this number, from a place within it to its end
pub due-sending : (store : Store) (number place : ℕ) (file : List ℕ) (side : ServerSide) → IsSoundStore store
    → file_of store number ≡ Some file → place ≤ length file
    → side.connected.state ≡ sending number place (length file) → IsDueNow store side
due-sending store number place file side sound is_file within is =
    let whole = file-complete store number file is_file in
    let all : length (octets_in store number) ≡ length file = ap length whole.1 in
    let lies : LiesIn store number place (length file) =
    record { complete = whole.0; forward = within; within = omega (arith, all) } in
    record {
      lies = subst (λ (s : State). IsDueIn store (download_part s)) (sym is) lies;
      octets =
          subst (λ (s : State). IsOctets (octets_due store (download_part s))) (sym is)
          (octets-part (length file - place) place (octets_in store number) (octets-entry store number sound));
    }
