-- How the code's session sends what is due.
use Rattle.std.specs.Prelude.{◌≡◌, ◌↔◌, List, ℕ, Bool, true, false, IsTrue, Option, None, Some, IfSome}
use Rattle.disk_model.specs.declared.disk.Disk.{Ghosts}
use Rattle.ftl0_packets.specs.ErrorCodes.{octet_of}
use Rattle.ftl0_packets.specs.declared.error_code.ErrorCode.TheVariants as error
use Rattle.ftl0_packets.specs.Layout.{dl_error_resp, packet_text}
use Rattle.disk_model.specs.Runs.{Reads}
use Rattle.file_store.specs.State.{IsKnown}
use Rattle.file_store.specs.Store.{Store}
use Rattle.ftl0_session.specs.Downloads.Filling.{Filled}
use Rattle.ftl0_session.specs.Table.{DuePacket, State, next_due}

-- this packet is due, and its octets were put; or none is, and nothing changed
abbrev pub IsDue : {D : Type 0} → Option DuePacket → Bool → D → D → State → State → List ℕ → List ℕ → Type 0
IsDue None put disk disk_now state state_now out out_now =
    (put ≡ false) × (disk_now ≡ disk) × (state_now ≡ state) × (out_now ≡ out)
IsDue (Some due) put disk disk_now state state_now out out_now =
    (put ≡ true) × (state_now ≡ due.state) × (out_now ≡ packet_text due.packet)

-- The disk is as reads leave it, of which one failed or none. If it is known what the store's files hold, a packet is
-- put exactly when one is due, and what was put is what is due for that, code 3 if a read failed. Whatever is observed
-- of the disk, code 3 is put exactly when a read failed.
pub record PutsDue {D : Type 0} (g : Ghosts D) (store : Store) (before now : Filled D State) (put : Bool) :
    Type 0 where
  pub fails : Bool
  pub reads : Reads g (IsTrue fails) before.disk now.disk
  pub told :
      IsKnown g before.disk → fails ≡ true
      → IfSome (next_due store before.state fails) (λ due. due.packet ≡ dl_error_resp (octet_of error.ServerFsys))
  pub is_due :
      IsKnown g before.disk
      → IsDue (next_due store before.state fails) put before.disk now.disk before.state now.state before.out now.out
  pub tells :
      (fails ≡ true) ↔ ((put ≡ true) × (now.out ≡ packet_text (dl_error_resp (octet_of error.ServerFsys))))
