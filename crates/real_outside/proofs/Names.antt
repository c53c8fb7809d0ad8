-- The names of specs, and of the crates below, that proofs use, in one place.
pub use Rattle.px_base.proofs.Told.{Grows-trans, asks_as, asks_more, asks_none, asks_one, asks_then}
pub use Rattle.px_base.specs.CallRecords.{Asks}
pub use Rattle.px_base.specs.Outside.{Grows}
pub use Rattle.px_base.specs.Polling.{turn_of}
pub use Rattle.px_base.specs.declared.air.AirDown.{AirDown}
pub use Rattle.px_base.specs.declared.air.Polled.{Polled}
pub use Rattle.real_outside.specs.Descriptors.{AreHeld, AreStandard, Has, HoldsLowest, HoldsOpened, IsHeld, IsStandard, KeepsHeld}
pub use Rattle.real_outside.specs.Disk.Devices.{FillsFrom, GoesOn, IsReadOf, IsWriteOf, PutsAt, ReadsAll, SyncsOnce, WritesAll, all_given, moved, octets_given}
pub use Rattle.real_outside.specs.Disk.FileDevices.{AfterOpening, AsksLength, FileDeviceState, Reads, SyncsFile, SyncsWithEntry, TakesFile}
pub use Rattle.real_outside.specs.Files.{OpensLocked, WritesOnce, file_answer, folder_of}
pub use Rattle.real_outside.specs.Shelf.Keeping.{ChecksPart, Fills, FillsAndMoves, FollowsLink, InTurn, Keeps, KeepsAt, KeepsFound, KeepsLinked, KeepsUnresolved, MovesFilled, OnLocked, OnOpened, Once, OpensPart, Prepares, Replaces, Step, WritesFrom, WritesNew, WritesOver, WritesSome, WritesSynced, is_of_system, out_of_memory}
pub use Rattle.real_outside.specs.StreamCalls.{Writes, octets_read, turn_read}
pub use Rattle.real_outside.specs.Tcp.Connections.{Connects, HearsAt, IsPollAnswer, LimitsReads, Opens, Polls, Puts, Readies, SaysAt, Sends, SendsAtOnce, Then, is_quiet, stage_after_saying, stage_after_turn, turn_for}
pub use Rattle.real_outside.specs.declared.disk.device.DeviceCall.{DeviceCall}
pub use Rattle.real_outside.specs.declared.files.file_call.FileCall.{FileCall}
pub use Rattle.real_outside.specs.declared.system_error.SystemError.{SystemError}
pub use Rattle.real_outside.specs.declared.tcp.connection.ConnectionCall.{ConnectionCall}
pub use Rattle.std.proofs.Math.Seq.{take-add, take-append-add}
pub use Rattle.std.proofs.lemmas.Bool.{cases_lt, false≢true}
pub use Rattle.std.proofs.lemmas.Bool.Decides.{nat_tests}
pub use Rattle.std.proofs.lemmas.List.{append-nil, drop-drop, drop-take, drop_all, length-take, places, same_lists, take-append-drop, take-append-le, take-take, take_all, take_rest}
pub use Rattle.std.specs.Prelude.{OnOk, codes, is_ok, nat_le}
pub use borrow.Rule.Slice.PartMut.{post_of, put_mid, same_len_mid}
