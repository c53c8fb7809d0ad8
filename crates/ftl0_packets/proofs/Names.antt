-- The names of specs, and of the crates below, that proofs use, in one place.
pub use Rattle.ftl0_packets.specs.Items.{texts}
pub use Rattle.ftl0_packets.specs.Laws.{FrontLaw, IsOneStream, IsReadAgain, IsReadAsStream, IsRestBefore, ReadsFront}
pub use Rattle.ftl0_packets.specs.Layout.{Fits, Item, PacketText, PacketValue, data_end, data_part, dir_long_cmd, dir_short_cmd, dl_aborted_resp, dl_ack_cmd, dl_completed_resp, dl_error_resp, dl_nak_cmd, download_cmd, has_length, information, kind_of, login_resp, packet_text, select_cmd, select_resp, text_of, ul_ack_resp, ul_error_resp, ul_go_resp, ul_nak_resp, upload_cmd}
pub use Rattle.ftl0_packets.specs.Pieces.{TakesAll}
pub use Rattle.ftl0_packets.specs.Reading.{is_whole, item_from, packet_from, packets_within, rest_within, text_len, under_way}
unfoldable pub use Rattle.ftl0_packets.specs.Reading.{is_malformed, malformed_in, packets_of, read_item, rest_of}
pub use Rattle.ftl0_packets.specs.Stream.{IsPartial, Stream}
pub use Rattle.ftl0_packets.specs.Values.{item_of, items_of}
pub use Rattle.px_base.specs.Octets.{IsFront, IsOctets}
pub use Rattle.std.proofs.lemmas.Bool.{cases_lt, cond-false, cond-true, eq-eqb, eqb-false, eqb-true, false≢true, le-leb, leb-false, leb-true, lt-leb, lt-ltb, ltb-true, ne_eqb}
pub use Rattle.std.proofs.lemmas.List.{append-nil, append_cancel_left, drop_at, flat_map_more, get_or_append_left, get_or_past, length-take-le, nil_from_length, take-append-drop, take-take, take_all, take_at, take_more}
