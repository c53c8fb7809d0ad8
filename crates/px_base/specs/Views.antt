-- What contracts see of a form, from its fields.
use Rattle.px_base.specs.Forms.{MemoryAirState}
use Rattle.px_base.specs.declared.memory_air.MemoryAir.TheInside.{Inside as AirInside}

abbrev pub air_state : AirInside → MemoryAirState
air_state a =
    record {
      coming = a.coming.items;
      heard = a.heard.items;
      said = a.said.items;
      calls = a.calls;
      read_faults = a.read_faults;
      write_faults = a.write_faults;
      untold = a.untold;
    }
