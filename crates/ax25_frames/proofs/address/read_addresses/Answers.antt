-- Destination, source and repeaters.
use Rattle.std.proofs.Common.{◌+◌, ◌*◌, [], ℕ, Bool, false, sym, subst, refl}
use Rattle.ax25_frames.proofs.Names.{BeginsUnended, AddressesAt, EntryAt}
use Rattle.ax25_frames.proofs.FaultLemmas.{ended_destination, more_unended}
use Rattle.ax25_frames.proofs.ReadLemmas.{addresses_two, addresses_more}
use Rattle.ax25_frames.proofs.address.read_addresses.Goals as goal
use Rattle.ax25_frames.proofs.address.read_addresses.Goals.{then-src, else-src+in_ok-via}

pub returns-then-dest-clause-fault : goal.returns-then-dest-clause-fault
returns-then-dest-clause-fault c =
    let d = c.in_ok-dest.dest in
    ended_destination c.args.bytes.now d.call d.c_or_h_bit (subst (λ (b : Bool). EntryAt c.args.bytes.now 0 d.call d.c_or_h_bit b) c.if-dest.true c.in_ok-dest.ensures.entry)

pub read_entry-requires-2-clause-unended : goal.read_entry-requires-2-clause-unended
read_entry-requires-2-clause-unended c =
    let d = c.in_ok-dest.dest in
    more_unended c.args.bytes.now 0 d.call d.c_or_h_bit ([], c.args.bytes.now, tt, refl, refl)
    (subst (λ (b : Bool). EntryAt c.args.bytes.now 0 d.call d.c_or_h_bit b) c.if-dest.false c.in_ok-dest.ensures.entry)

pub read_repeaters-requires : goal.read_repeaters-requires
read_repeaters-requires c =
    let d = c.in_ok-dest.dest in
    let s = c.in_ok-src.src in
    let one : BeginsUnended c.args.bytes.now 1 =
    more_unended c.args.bytes.now 0 d.call d.c_or_h_bit ([], c.args.bytes.now, tt, refl, refl)
    (subst (λ (b : Bool). EntryAt c.args.bytes.now 0 d.call d.c_or_h_bit b) c.if-dest.false c.in_ok-dest.ensures.entry) in
    more_unended c.args.bytes.now 1 s.call s.c_or_h_bit one
    (subst (λ (b : Bool). EntryAt c.args.bytes.now 1 s.call s.c_or_h_bit b) c.if-src.false c.in_ok-src.ensures.entry)

pub returns-clause-addresses : goal.returns-clause-addresses
returns-clause-addresses c =
    let d = c.in_ok-dest.dest in
    let s = c.in_ok-src.src in
    let dest : EntryAt c.args.bytes.now 0 d.call d.c_or_h_bit false =
    subst (λ (b : Bool). EntryAt c.args.bytes.now 0 d.call d.c_or_h_bit b) c.if-dest.false c.in_ok-dest.ensures.entry in
    let src : EntryAt c.args.bytes.now 1 s.call s.c_or_h_bit s.is_last = c.in_ok-src.ensures.entry in
    let P : ℕ → Type 0 = λ via. AddressesAt c.args.bytes.now d.call s.call via d.c_or_h_bit (14 + 7 * via) in
    elim c.if-src.branch [
      | then-src w ↦
          subst P (sym w.via-is)
          (addresses_two c.args.bytes.now d.call s.call d.c_or_h_bit s.c_or_h_bit dest (subst (λ (b : Bool). EntryAt c.args.bytes.now 1 s.call s.c_or_h_bit b) w.if-src.true src))
      | else-src+in_ok-via w ↦
          let r = w.in_ok-via.ensures.repeaters in
          subst P (sym w.via-is)
          (addresses_more c.args.bytes.now d.call s.call d.c_or_h_bit s.c_or_h_bit _ dest (subst (λ (b : Bool). EntryAt c.args.bytes.now 1 s.call s.c_or_h_bit b) w.if-src.false src) r.0 r.1 r.2)
    ]
