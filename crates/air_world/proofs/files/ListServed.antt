-- What reaches a session of a list, and what it queues without being asked.
use Rattle.std.proofs.Common.{◌≡◌, ◌⊎◌, inl, inr, ℕ, ◌<◌, ◌==◌, List, [], ◌∷◌, ◌++◌, length, map, take, refl, ap, sym}
use Rattle.std.proofs.Common.{◌∙◌, subst, false, Some, arith, length-take}
use Rattle.ftl0_session.specs.Table.{DuePacket}
use Rattle.air_world.proofs.files.Names.{Ok, nat_tests, All-drop, All-take, IsOctets, Item, PacketValue, data_end, data_part, dir_short_cmd, download_cmd, select_cmd, Store, AreStored, after_octets, joined, most_data, Due, State, command, listing, next_due, joined-after, stored-after, AreFirstOf, Has, each-at, IsListSaid}
use Rattle.air_world.proofs.files.ListRows.{IsListReply, IsListed, waits-command}

-- ---- what its client said

-- a packet of a client that selects and lists
abbrev pub IsListPacket : List ℕ → PacketValue → Type 0
IsListPacket tokens packet = (packet ≡ select_cmd tokens) ⊎ (packet ≡ dir_short_cmd 0)

pub list-packet : (tokens : List ℕ) (said : List PacketValue) (packet : PacketValue) → IsListSaid tokens said
    → Has said packet → IsListPacket tokens packet
list-packet tokens [] packet is has = absurd has
list-packet tokens (first ∷ others) packet is (inl same) = inl (sym same ∙ is.0)
list-packet tokens (first ∷ others) packet is (inr there) =
    inr (each-at (λ it. it ≡ dir_short_cmd 0) others packet is.1 there)

-- it asks for no file
pub none-asked : (tokens : List ℕ) (said : List PacketValue) (number offset : ℕ) → IsListSaid tokens said
    → ¬ Has said (download_cmd number offset 0)
none-asked tokens said number offset is has = by (list-packet tokens said (download_cmd number offset 0) is has)
  where
    by : IsListPacket tokens (download_cmd number offset 0) → ⊥
    by (inl same) = absurd (cc)
    by (inr same) = absurd (cc)

-- the last of the first items of those that were said
pub front-last : (items : List Item) (item : Item) (said : List PacketValue)
    → AreFirstOf (items ++ item ∷ []) (map Ok said) → (packet : PacketValue) × (item ≡ Ok packet) × Has said packet
front-last items item [] front = absurd (none items front.1)
  where
    none : (l : List Item) → [] ≡ (l ++ item ∷ []) ++ front.0 → ⊥
    none [] is = absurd (cc)
    none (x ∷ l) is = absurd (cc)
front-last [] item (first ∷ others) front = (first, let f = front.1 in cc, inl refl)
front-last (x ∷ items) item (first ∷ others) front =
    let f = front.1 in
    let rest : map {B = Item} Ok others ≡ (items ++ item ∷ []) ++ front.0 = cc in
    let later = front-last items item others (front.0, rest) in
    (later.0, later.1, inr later.2)

-- ---- what is due

-- the next packet of these octets and the state after it
abbrev list_due : List Due → List ℕ → DuePacket
list_due dues [] = record { packet = data_end; state = command }
list_due dues (octet ∷ octets) =
    record { packet = data_part (take most_data (octet ∷ octets)); state = listing (after_octets most_data dues) }

due-is : (store : Store) (dues : List Due) (octets : List ℕ) → joined store dues ≡ octets
    → next_due store (listing dues) false ≡ Some (list_due dues octets)
due-is store dues [] none = rw none refl
due-is store dues (octet ∷ octets) some =
    let left : (length (octet ∷ octets) == 0) ≡ false = grind (arith, nat_tests) in
    rw some (rw left refl)

module _ (store : Store) (dues : List Due) (lies : AreStored store dues) (are : IsOctets (joined store dues)) where
  list-due : (octets : List ℕ) → joined store dues ≡ octets
      → IsListReply (list_due dues octets).packet × IsListed store (list_due dues octets).state
  list-due [] none = ((tt, tt), waits-command store)
  list-due (octet ∷ octets) some =
      let here : IsOctets (octet ∷ octets) = subst IsOctets some are in (
        (
          tt,
          (
            omega (arith, length-take most_data (octet ∷ octets)),
            All-take (λ o. o < 256) most_data
                (octet ∷ octets) here,
          ),
        ),
        record {
          is = inr (after_octets most_data dues, refl);
          lies = stored-after store dues most_data lies;
          octets =
              subst IsOctets (sym (joined-after store dues most_data lies))
              (All-drop (λ o. o < 256) most_data (joined store dues) are);
        },
      )

-- What a session of a list queues is of it, and leaves such a state.
pub due-listed : (store : Store) (state : State) (due : DuePacket) → IsListed store state
    → next_due store state false ≡ Some due → IsListReply due.packet × IsListed store due.state
due-listed store state due listed there = by listed.is
  where
    by : (state ≡ command) ⊎ ((dues : List Due) × (state ≡ listing dues))
        → IsListReply due.packet × IsListed store due.state
    by (inl is) =
        absurd (let no : next_due store command false ≡ Some due = ap (λ (s : State). next_due store s false) (sym is)
        ∙ there in cc)
    by (inr (dues, is)) =
        let here : IsListed store (listing dues) = subst (IsListed store) is listed in
        let both : Some due ≡ Some (list_due dues (joined store dues)) =
        sym there ∙ ap (λ (s : State). next_due store s false) is ∙ due-is store dues (joined store dues) refl in
        let same : due ≡ list_due dues (joined store dues) = cc in
        subst (λ (d : DuePacket). IsListReply d.packet × IsListed store d.state) (sym same)
        (list-due store dues here.lies here.octets (joined store dues) refl)
