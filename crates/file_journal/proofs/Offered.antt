-- The lemmas that crates above may use.
pub use Rattle.file_journal.proofs.ThroughLemmas.{among_does, among_same, among_then, reads_only, done_stay, front_done, stands_through, through_exactly}
pub use Rattle.file_journal.proofs.BoundLemmas.{halves_on, halves_reads, halves_same, recovers_on, recovers_reads, stays_on, stays_reads, stays_same}
pub use Rattle.file_journal.proofs.CommandLemmas.{after_all_append, allowed_append, at_all, at_first, at_some, first_all, first_then, makes_first, makes_second, makes_within, allowed_first, allowed_split, cut_timed, exact_rises, paced_always, paces_exactly, rises_all, rises_calls, rises_from, room_always, room_behind, room_first, room_of, room_some, stay_timed}
pub use Rattle.file_journal.proofs.ContentLemmas.{eight, four, if_some, le32_below, map_some, number_at, number_front, octet_at, octets_call, octets_drop, octets_joined, octets_le32, octets_one, octets_part}
pub use Rattle.file_journal.proofs.DoesLemmas.{cut_makes, does_longer, does_none, does_same, does_then, same_on, within_most}
pub use Rattle.file_journal.proofs.KeptLemmas.{images_here}
pub use Rattle.file_journal.proofs.ToldLemmas.{knew, known_told, knows_on}
pub use Rattle.file_journal.proofs.PlaceLemmas.{AreMade, are_made, room_within}
pub use Rattle.file_journal.proofs.ReadingLemmas.{all_whole}
pub use Rattle.file_journal.proofs.RestoringLemmas.{good_header, runs_same}
pub use Rattle.file_journal.proofs.StandingLemmas.{IsAfter, Written, after_stands, journal_records, stands_after, stepped, steps, written_step}
pub use Rattle.file_journal.proofs.HoldLemmas.{held_kept, kept_stands, read_stands}
pub use Rattle.file_journal.proofs.WalkLemmas.{growing_seen, made_there, own_always, own_told, see_same, seen_own_number, own_number, one_step}
