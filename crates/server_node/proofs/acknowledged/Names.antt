-- The names of specs, and of the crates below, that proofs use, in one place.
pub use Rattle.file_store.specs.Store.{Entry, Holding, Store, complete, entry_of, octets_at, partial}
pub use Rattle.ftl0_packets.specs.Items.{kind_of_item, texts}
pub use Rattle.ftl0_packets.specs.Layout.{Item, PacketValue, data_end, ul_ack_resp}
pub use Rattle.ftl0_session.proofs.Offered.{OfUploads, runs, runs-trans, session-case, upload-case}
pub use Rattle.ftl0_session.specs.Table.{Row, State, command, due_at, error_by, fault_reply, receiving, state_by}
unfoldable pub use Rattle.ftl0_session.specs.Table.{session_row}
pub use Rattle.ftl0_session.specs.Uploads.Session.{is_all, is_upload_kind, whole_row}
pub use Rattle.turn_loop.specs.Lent.{Seen, seen}
pub use Rattle.px_base.specs.CallSign.{CallSign}
pub use Rattle.std.specs.Prelude.{Err, IfSome, IsErrOf, Ok, Result, slice_index}
