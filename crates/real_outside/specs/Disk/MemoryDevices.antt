-- A device in memory as contracts see it, and what each of its calls does.
use Rattle.std.specs.Prelude.{◌≡◌, ◌⊎◌, ℕ, min, List, length, take, drop, Result, OnOk, OnErr, IfOk}
use Rattle.px_base.specs.CallRecords.{CallRecordState, no_calls}
use Rattle.px_base.specs.Counter.{CallCounterState, IsListed, counter_after_call, counter_after_starved_call, new_counter}
use Rattle.disk_model.specs.Surface.{write_over}
use Rattle.real_outside.specs.declared.disk.device.DeviceCall.{DeviceCall}
use Rattle.real_outside.specs.declared.disk.device.DeviceDown.{DeviceDown}
use Rattle.real_outside.specs.declared.disk.memory_device.MemoryDevice.TheInside.{Inside}

-- the octets of the device, the most of them that one call moves, the calls so far, and how they are numbered
pub record MemoryDeviceState : Type 0 where
  pub octets : List ℕ
  pub most : ℕ
  pub made : CallRecordState DeviceCall
  pub counter : CallCounterState

abbrev pub device_state : Inside → MemoryDeviceState
device_state a =
    record {
      octets = a.octets.items;
      most = a.most;
      made = a.made;
      counter = a.counter;
    }

-- before the first call
abbrev pub new_device_state : List ℕ → ℕ → List ℕ → MemoryDeviceState
new_device_state octets most failing =
    record { octets = octets; most = most; made = no_calls; counter = new_counter failing }

-- A call that moves no octets fails exactly if it is listed, and the octets stay.
pub record IsPlain {T : Type 0} (before now : MemoryDeviceState) (result : Result T DeviceDown) : Type 0 where
  pub ok : OnOk result (IsListed before.counter → ⊥)
  pub err : OnErr result (IsListed before.counter)
  pub counter : now.counter ≡ counter_after_call before.counter
  pub octets : now.octets ≡ before.octets
  pub most : now.most ≡ before.most

-- the octets that a read of at most this number gives
abbrev pub next_octets : MemoryDeviceState → ℕ → ℕ → List ℕ
next_octets state at count = take (min state.most count) (drop at state.octets)

-- A read gives the next octets: as many as are asked for, as are there, and as one call moves.
pub record IsDeviceRead (before now : MemoryDeviceState) (at : ℕ) (room : List ℕ) (result : Result ℕ DeviceDown)
    : Type 0 where
  pub plain : IsPlain before now result
  pub count : IfOk result (λ count. count ≡ length (next_octets before at (length room)))
  pub given : IfOk result (λ count. take count room ≡ next_octets before at (length room))

-- it is listed, or it found no memory
abbrev pub IsListedOrStarved : CallCounterState → CallCounterState → Type 0
IsListedOrStarved before now =
    (IsListed before × (now ≡ counter_after_call before)) ⊎ (now ≡ counter_after_starved_call before)

-- A write writes the first of the octets, as many as one call moves; it fails if it is listed, or finds no memory, and
-- the octets stay.
pub record IsDeviceWrite (before now : MemoryDeviceState) (at : ℕ) (octets : List ℕ) (result : Result ℕ DeviceDown)
    : Type 0 where
  pub ok : OnOk result ((IsListed before.counter → ⊥) × (now.counter ≡ counter_after_call before.counter))
  pub err : OnErr result (IsListedOrStarved before.counter now.counter)
  pub count : IfOk result (λ count. count ≡ min before.most (length octets))
  pub written : OnOk result (now.octets ≡ write_over before.octets at (take before.most octets))
  pub kept : OnErr result (now.octets ≡ before.octets)
  pub most : now.most ≡ before.most
