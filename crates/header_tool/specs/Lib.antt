pub mod Bodies
pub mod Frames
pub mod Laws
pub mod Lines
pub mod Made
pub use Rattle.pfh_items.specs.Faults
pub use Rattle.pfh_writer.specs.Built
