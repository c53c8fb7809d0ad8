-- What a packet that is taken, or one that is sent, does to the disk, with the reads that were made for it.
use Rattle.std.proofs.Common.{◌≡◌, ℕ, ◌+◌, List, [], ◌∷◌, ◌++◌, ◌==◌, refl, ap, ap₂, sym, ◌∙◌, Bool, true, false, ◌&&◌, ◌||◌, Option, None, Some, IfSome}
use Rattle.std.specs.Prelude.{if◌then◌else◌}
use Rattle.std.proofs.Math.Bool.{and-false, and-true, or-false}
use Rattle.std.proofs.Math.Nat.{add_assoc, zero-add}
use Rattle.ftl0_session.specs.Downloads.Sending as due
use Rattle.ftl0_session.specs.Taking.{TakesPacket}
use Rattle.ftl0_session.proofs.Names.{⊤, Result, Ok, Err, list_any, option_map, list_any-append, CallSign, Ghosts, Item, PacketValue, dl_error_resp, packet_text, among-same, at_told, Does-none, does-among, reads-only, Store, IsKnown, IsReady, StoreState, store_on, CutsOffAmongReads, DoesAmongReads, one_if, Failure, failed_reads, failed_write, is_read_fault, is_write_fault, read_fails, write_fails, DiskFault, IsDue, PutsDue, DuePacket, Row, State, download_part, in_session, next_due, row_at, failed_reads_told, tells_failed_read, TellsRead, Working, row_over, filled, packet_of, at}
use Rattle.ftl0_session.proofs.FaultLemmas.{due_codes, fault_codes}

-- ---- a read that failed is reported, and no other

-- a row's replies report a read that failed exactly when one did
pub told-is : (caller : CallSign) (moment : ℕ) (files : Store) (item : Item) (before : Working) (fails : Bool) → (fails ≡ true → TellsRead (row_over caller moment files before item fails).replies)
    → failed_reads_told (row_over caller moment files before item fails).replies ≡ one_if fails
told-is caller moment files item before true told = let one = told refl in ap failed_reads_told one.1 ∙ ap (λ (b : Bool). one_if b + 0) one.2
told-is caller moment files item before false told = (fault_codes caller moment files before.lists before.state item).reads

-- so does a packet that is sent
pub told-due : (store : Store) (state : State) (fails : Bool) (next : DuePacket) → next_due store state fails ≡ Some next → (fails ≡ true → IfSome (next_due store state fails) (λ sent. sent.packet ≡ dl_error_resp 3))
    → tells_failed_read next.packet ≡ fails
told-due store state true next is told = ap tells_failed_read (at_told (λ (sent : DuePacket). sent.packet ≡ dl_error_resp 3) next is (told refl))
told-due store state false next is told = at_told (λ (sent : DuePacket). tells_failed_read sent.packet ≡ false) next is (due_codes store state).0

-- packets joined report as many as they do together
pub told-append : (xs ys : List PacketValue) → failed_reads_told (xs ++ ys) ≡ failed_reads_told xs + failed_reads_told ys
told-append [] ys = sym (zero-add (failed_reads_told ys))
told-append (x ∷ xs) ys =
    ap (λ (n : ℕ). one_if (tells_failed_read x) + n) (told-append xs ys) ∙ sym (add_assoc (one_if (tells_failed_read x)) (failed_reads_told xs) (failed_reads_told ys))

-- ---- a packet that is taken

module _ {D : Type 0} (g : Ghosts D) (on : (first second third : D) → g.lasts first second → g.lasts second third → g.lasts first third)
    (caller : CallSign) (moment : ℕ) (item : Item) (before now : Working) (disk disk_now : D) (replies : List ℕ) (ready : IsReady g before.store disk) (known : IsKnown g disk) where
  abbrev files : Store
  files = store_on g before.store disk

  -- how many reads its row reports
  missed-is : (result : Result ⊤ DiskFault) (takes : TakesPacket g (packet_of caller moment item) (at before disk) (at now disk_now) replies result)
      → one_if takes.fails ≡ failed_reads_told (row_over caller moment files before item takes.fails).replies
  missed-is result takes = sym (told-is caller moment files item before takes.fails (takes.told known))

  -- its row's commands are done
  pub taken-among : (done : ⊤) (takes : TakesPacket g (packet_of caller moment item) (at before disk) (at now disk_now) replies (Ok done))
      → DoesAmongReads g ⊥ (failed_reads_told (row_over caller moment files before item takes.fails).replies) before.store now.store disk disk_now (row_over caller moment files before item takes.fails).commands
  taken-among done takes =
      let row : Row = row_over caller moment files before item takes.fails in
      among-same g ⊥ ⊥ (one_if takes.fails) (failed_reads_told row.replies) before.store now.store disk disk_now row.commands (λ p. p) (λ p. p) (missed-is (Ok done) takes) (takes.on_disk known)

  -- a write or a sync failed in one of them
  pub taken-cut : {fault : DiskFault} → g.lasts disk disk → (takes : TakesPacket g (packet_of caller moment item) (at before disk) (at now disk_now) replies (Err fault))
      → CutsOffAmongReads g ⊤ (failed_reads_told (row_over caller moment files before item takes.fails).replies) (at before.store disk) (at now.store disk_now) []
      (row_over caller moment files before item takes.fails).commands
  taken-cut same takes =
      let missed : ℕ = failed_reads_told (row_over caller moment files before item takes.fails).replies in
      let none : 0 ≡ missed = sym (ap one_if takes.stopped.0) ∙ missed-is _ takes in
      record {
        then_is = at before.store disk;
        first =
            among-same g ⊥ ⊥ 0 missed before.store before.store disk disk [] (λ p. p) (λ p. p) none
            (does-among g ⊥ before.store before.store disk disk [] (Does-none g ⊥ before.store disk (λ never. never) ready same));
        second = takes.on_disk known;
      }

-- ---- a packet that is sent

-- whether one is due doesn't depend on reads
pub none-whatever : (store : Store) (state : State) (fails other : Bool) → next_due store state fails ≡ None → next_due store state other ≡ None
none-whatever store state fails other is = by (due.is_due (download_part state)) is
  where
    by : (b : Bool) → option_map in_session (if b then Some (due.due_packet store (download_part state) fails) else None) ≡ None
        → option_map in_session (if b then Some (due.due_packet store (download_part state) other) else None) ≡ None
    by true none = absurd (cc none)
    by false none = refl

due-put : {D : Type 0} (o : Option DuePacket) (disk disk_now : D) (state state_now : State) (out out_now : List ℕ) → IsDue o true disk disk_now state state_now out out_now
    → (next : DuePacket) × (o ≡ Some next) × (state_now ≡ next.state) × (out_now ≡ packet_text next.packet)
due-put None disk disk_now state state_now out out_now is = absurd (let e : true ≡ false = is.0 in cc)
due-put (Some next) disk disk_now state state_now out out_now is = (next, refl, is.1, is.2)

due-not : {D : Type 0} (o : Option DuePacket) (disk disk_now : D) (state state_now : State) (out out_now : List ℕ) → IsDue o false disk disk_now state state_now out out_now
    → (o ≡ None) × (disk_now ≡ disk) × (state_now ≡ state) × (out_now ≡ out)
due-not None disk disk_now state state_now out out_now is = (refl, is.1, is.2, is.3)
due-not (Some next) disk disk_now state state_now out out_now is = absurd (let e : false ≡ true = is.0 in cc)

-- what a packet that was put is, and what was done for it
pub record Sent {D : Type 0} (g : Ghosts D) (files : StoreState) (disk disk_now : D) (state state_now : State) (out_now : List ℕ) (fails : Bool) : Type 0 where
  pub next : DuePacket
  pub is_next : next_due (store_on g files disk) state fails ≡ Some next
  pub state_is : state_now ≡ next.state
  pub text_is : out_now ≡ packet_text next.packet
  pub tells : tells_failed_read next.packet ≡ fails
  pub does : DoesAmongReads g ⊥ (one_if (tells_failed_read next.packet)) files files disk disk_now []

module _ {D : Type 0} (g : Ghosts D) (files : StoreState) (disk disk_now : D) (state state_now : State) (out out_now : List ℕ) where
  pub due-among : g.lasts disk disk → (puts : PutsDue g (store_on g files disk) (filled disk state out) (filled disk_now state_now out_now) true) → IsReady g files disk → IsKnown g disk
      → Sent g files disk disk_now state state_now out_now puts.fails
  due-among same puts ready known =
      let store : Store = store_on g files disk in
      let has = due-put (next_due store state puts.fails) disk disk_now state state_now out out_now (puts.is_due known) in
      let tells = told-due store state puts.fails has.0 has.1 (puts.told known) in
      record {
        next = has.0;
        is_next = has.1;
        state_is = has.2;
        text_is = has.3;
        tells = tells;
        does =
            among-same g ⊥ ⊥ (one_if puts.fails) (one_if (tells_failed_read has.0.packet)) files files disk disk_now [] (λ p. p) (λ p. p) (ap one_if (sym tells))
            (reads-only g puts.fails files disk disk_now same puts.reads ready);
      }

  -- nothing was due, whether a read fails or none does
  pub due-none : PutsDue g (store_on g files disk) (filled disk state out) (filled disk_now state_now out_now) false → IsKnown g disk
      → ((fails : Bool) → next_due (store_on g files disk) state fails ≡ None) × (disk_now ≡ disk) × (state_now ≡ state) × (out_now ≡ out)
  due-none puts known =
      let store : Store = store_on g files disk in
      let none = due-not (next_due store state puts.fails) disk disk_now state state_now out out_now (puts.is_due known) in
      (λ fails. none-whatever store state puts.fails fails none.0, none.1, none.2, none.3)

-- ---- parts whose reads failed

-- whether this part is among these
abbrev pub is_among : ℕ → List ℕ → Bool
is_among part parts = list_any (λ number. number == part) parts

pub reads-listed : (parts : List ℕ) (part : ℕ) → read_fails (failed_reads parts) part ≡ is_among part parts
reads-listed [] part = refl
reads-listed (number ∷ parts) part = ap₂ (λ (a b : Bool). a || b) (and-true (number == part)) (reads-listed parts part)

pub writes-unlisted : (parts : List ℕ) (part : ℕ) → write_fails (failed_reads parts) part ≡ false
writes-unlisted [] part = refl
writes-unlisted (number ∷ parts) part = ap₂ (λ (a b : Bool). a || b) (and-false (number == part)) (writes-unlisted parts part)

-- after others
pub reads-behind : (before behind : List Failure) (part : ℕ) → read_fails (before ++ behind) part ≡ (read_fails before part || read_fails behind part)
reads-behind before behind part = list_any-append (λ failure. (failure.part == part) && is_read_fault failure.fault) before behind

pub writes-behind : (before behind : List Failure) (part : ℕ) → write_fails (before ++ behind) part ≡ (write_fails before part || write_fails behind part)
writes-behind before behind part = list_any-append (λ failure. (failure.part == part) && is_write_fault failure.fault) before behind

-- a write that failed
pub write-listed : (number part : ℕ) → write_fails (failed_write number) part ≡ (number == part)
write-listed number part = or-false ((number == part) && true) ∙ and-true (number == part)

pub write-unread : (number part : ℕ) → read_fails (failed_write number) part ≡ false
write-unread number part = or-false ((number == part) && false) ∙ and-false (number == part)

-- the row of a packet, and what is sent, as the part of an event whose failures list it if a read fails
pub row-at : (caller : CallSign) (moment : ℕ) (files : Store) (item : Item) (before : Working) (failures : List Failure) (part : ℕ) (fails : Bool) → read_fails failures part ≡ fails
    → row_over caller moment files before item fails ≡ row_at caller moment files before.lists before.state item failures part
row-at caller moment files item before failures part fails is = ap (λ (b : Bool). row_over caller moment files before item b) (sym is)
