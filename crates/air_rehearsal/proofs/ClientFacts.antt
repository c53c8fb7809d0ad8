-- What an event in which a client takes part is for each station.
use Rattle.std.specs.Prelude.{◌≡◌, ◌≢◌, ◌==◌, if◌then◌else◌}
use Rattle.std.proofs.Common.{sym, ap, ◌∙◌, subst, inl, inr, arith}
use Rattle.air_world.specs.Attempts.Party.{Party}
use Rattle.air_rehearsal.proofs.Names.{ℕ, zero, suc, Bool, false, slice_get, Some, refl, eq-eqb, eqb_tells, same_Some, Placed, ClientEvent, Happens, ClientPart, ClientTakes, DeliversToClient, IsPartOf, Event, ask_download, ask_list, ask_resume, ask_upload, break_client, cut_client, cut_server, tick_client, tick_server, to_client, to_server, World, Role, acts, client_at, for_client, looks_on, role_of, the_server}

-- it is this client's alone
pub record IsClients (event : Event) (c : ℕ) (role : Role) : Type 0 where
  pub server : role_of the_server event ≡ looks_on
  pub own : role_of (client_at c) event ≡ role
  pub others : (i : ℕ) → i ≢ c → role_of (client_at i) event ≡ looks_on

other_number : (n m : ℕ) → n ≢ m → (n == m) ≡ false
other_number n m other = elim (eqb_tells n m) [
  | inl same ↦ absurd (other same.1)
  | inr unlike ↦ unlike.0
]

pub for_own : (c : ℕ) (role : Role) → for_client (suc c) c role ≡ role
for_own c role = ap (λ (b : Bool). if b then role else looks_on) (eq-eqb (suc c) (suc c) refl)

pub for_other : (c i : ℕ) (role : Role) → i ≢ c → for_client (suc c) i role ≡ looks_on
for_other c i role other =
    ap (λ (b : Bool). if b then role else looks_on)
    (other_number (suc c) (suc i) (λ e. other (let same : i ≡ c = omega (arith, e) in same)))

-- the client of this number is at this place
pub number_of : (world : World) (number c : ℕ) (P : Party → Type 0) → IsPartOf world number c P → number ≡ suc c
number_of world zero c P is = absurd is
number_of world (suc place) c P is = ap suc (sym is.0)

pub clients_event :
    (world : World) (event : Event) (c : ℕ) (part : ClientPart) → ClientTakes world event c part
    → IsClients event c acts
clients_event world (ask_upload n count) c part takes =
    subst (λ (x : ℕ). IsClients (ask_upload x count) c acts) (sym (number_of world n c _ takes))
    (record { server = refl; own = for_own c acts; others = λ i other. for_other c i acts other })
clients_event world (ask_resume n) c part takes =
    subst (λ (x : ℕ). IsClients (ask_resume x) c acts) (sym (number_of world n c _ takes))
    (record { server = refl; own = for_own c acts; others = λ i other. for_other c i acts other })
clients_event world (ask_list n tokens) c part takes =
    subst (λ (x : ℕ). IsClients (ask_list x tokens) c acts) (sym (number_of world n c _ takes))
    (record { server = refl; own = for_own c acts; others = λ i other. for_other c i acts other })
clients_event world (ask_download n file) c part takes =
    subst (λ (x : ℕ). IsClients (ask_download x file) c acts) (sym (number_of world n c _ takes))
    (record { server = refl; own = for_own c acts; others = λ i other. for_other c i acts other })
clients_event world (to_server n place) c part takes = absurd takes
clients_event world (to_client n place) c part takes =
    subst (λ (x : ℕ). IsClients (to_client x place) c acts) (sym (number_of world n c _ takes))
    (record { server = refl; own = for_own c acts; others = λ i other. for_other c i acts other })
clients_event world tick_server c part takes = absurd takes
clients_event world (tick_client n) c part takes =
    subst (λ (x : ℕ). IsClients (tick_client x) c acts) (sym (number_of world n c _ takes))
    (record { server = refl; own = for_own c acts; others = λ i other. for_other c i acts other })
clients_event world (break_client n) c part takes = absurd takes
clients_event world (cut_server call choice) c part takes = absurd takes
clients_event world (cut_client n call choice) c part takes = absurd takes

-- the client's event is what the event makes of the world
pub happens_so :
    (world next : World) (event : Event) (c : ℕ) (part : ClientPart) → ClientTakes world event c part
    → ClientEvent world event next → Happens world event next
happens_so world next (ask_upload n count) c part takes happens = happens
happens_so world next (ask_resume n) c part takes happens = happens
happens_so world next (ask_list n tokens) c part takes happens = happens
happens_so world next (ask_download n file) c part takes happens = happens
happens_so world next (to_server n place) c part takes happens = absurd takes
happens_so world next (to_client n place) c part takes happens = happens
happens_so world next tick_server c part takes happens = absurd takes
happens_so world next (tick_client n) c part takes happens = happens
happens_so world next (break_client n) c part takes happens = absurd takes
happens_so world next (cut_server call choice) c part takes happens = absurd takes
happens_so world next (cut_client n call choice) c part takes happens = absurd takes

-- what is said of the client of a number is said of the one at its place
pub of_party :
    (world : World) (number c : ℕ) (party : Party) (P : Party → Type 0) → IsPartOf world number c P
    → slice_get world.parties c ≡ Some party → P party
of_party world zero c party P is at = absurd is
of_party world (suc place) c party P is at = subst P (same_Some is.1.0 party (sym is.1.1 ∙ at)) is.1.2

-- The client, with the delivery marked if there is one, is the same but for its transmissions.
pub record IsSameClient (one other : Party) : Type 0 where
  pub client : one.client ≡ other.client
  pub is_cut : one.is_cut ≡ other.is_cut
  pub uploads : one.uploads ≡ other.uploads

same_as : (one other : Party) → one ≡ other → IsSameClient one other
same_as one other is =
    record {
      client = ap (λ (p : Party). p.client) is;
      is_cut = ap (λ (p : Party). p.is_cut) is;
      uploads = ap (λ (p : Party). p.uploads) is;
    }

delivered_same :
    (party : Party) (place : ℕ) (part : ClientPart) → Placed place (λ at. DeliversToClient party at part)
    → IsSameClient part.party party
delivered_same party zero part takes = absurd takes
delivered_same party (suc at) part takes =
    record {
      client = ap (λ (p : ClientPart). p.party.client) takes.part_is;
      is_cut = ap (λ (p : ClientPart). p.party.is_cut) takes.part_is;
      uploads = ap (λ (p : ClientPart). p.party.uploads) takes.part_is;
    }

pub same_client :
    (world : World) (event : Event) (c : ℕ) (part : ClientPart) (party : Party) → ClientTakes world event c part
    → slice_get world.parties c ≡ Some party → IsSameClient part.party party
same_client world (ask_upload n count) c part party takes at =
    same_as part.party party (ap (λ (p : ClientPart). p.party) (of_party world n c party _ takes at))
same_client world (ask_resume n) c part party takes at =
    same_as part.party party (ap (λ (p : ClientPart). p.party) (of_party world n c party _ takes at).part_is)
same_client world (ask_list n tokens) c part party takes at =
    same_as part.party party (ap (λ (p : ClientPart). p.party) (of_party world n c party _ takes at))
same_client world (ask_download n file) c part party takes at =
    same_as part.party party (ap (λ (p : ClientPart). p.party) (of_party world n c party _ takes at))
same_client world (to_server n place) c part party takes at = absurd takes
same_client world (to_client n place) c part party takes at =
    delivered_same party place part (of_party world n c party _ takes at)
same_client world tick_server c part party takes at = absurd takes
same_client world (tick_client n) c part party takes at =
    same_as part.party party (ap (λ (p : ClientPart). p.party) (of_party world n c party _ takes at))
same_client world (break_client n) c part party takes at = absurd takes
same_client world (cut_server call choice) c part party takes at = absurd takes
same_client world (cut_client n call choice) c part party takes at = absurd takes
