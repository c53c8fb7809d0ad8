-- The lemmas that crates above may use.
pub use Rattle.disk_model.proofs.Runs.{among_on, changes_none, changes_on, counts_none, counts_on, counts_same, either_way, err_there, makes_failed, makes_on, makes_weaker, ok_there, on_err, on_ok_both, puts_among, puts_among_reads, puts_among_same, puts_among_then, puts_none, puts_on, puts_once, puts_same, quiet_by_sync, quiet_images, reads_none, reads_now, reads_on, reads_same, runs_among, runs_missed, some_one, some_still, still, stops_none, stops_on, stops_reads}
pub use Rattle.disk_model.proofs.Told.{alike_on, alike_same, at_ok, at_told, content_now, goes_on, if_told, joined, once, reads, started, told_before, told_weaker, weaker}
pub use Rattle.disk_model.proofs.Torn.{kept_back, kept_behind, torn_by, torn_front, torn_length, torn_none, torn_octet, torn_on, torn_then, torn_wider, torn_within, written, three_parts}
