-- What octets stand for as notes: the notes after the commands that their records are.
use Rattle.std.proofs.Common.{ℕ, List, refl}
use Rattle.client_notes.proofs.Names.{IsOctets, Written, after_stands, stands_after, stepped, steps, NotesCommand, after, is_allowed, IsWritable, command_of, fresh_notes, notes_form, notes_step, record_of_command, Lists, IsNotesAfter, StandsFor}
use Rattle.client_notes.proofs.RecordLemmas.{read-written, records}

-- the commands of notes as records
abbrev pub notes_written : Written notes_form
notes_written =
    record {
      fresh = fresh_notes;
      step = notes_step;
      standing = λ blocks octets. refl;
      IsWritable = IsWritable;
      record_of = record_of_command;
      command_of = command_of;
      reads = read-written;
      writes = λ entry command is. (records entry command is).0;
      steps = λ before command entry. steps is_allowed after before command (command_of entry);
      stepped = λ before now entry. stepped is_allowed after before now (command_of entry);
    }

pub standing-back : (octets : List ℕ) (lists : Lists) (commands : List NotesCommand) → IsNotesAfter octets lists commands
    → StandsFor octets lists
standing-back octets lists commands is =
    after_stands notes_form notes_written octets lists commands
    (record {
      number = is.number;
      records = is.records;
      writable = is.writable;
      allowed = is.allowed;
      after = is.after;
    })

pub standing-forth : (octets : List ℕ) (lists : Lists) → IsOctets octets → StandsFor octets lists
    → (commands : List NotesCommand) × IsNotesAfter octets lists commands
standing-forth octets lists are stands =
    let made = stands_after notes_form notes_written octets lists are stands in (
      made.0,
      record {
        number = made.1.number;
        records = made.1.records;
        writable = made.1.writable;
        allowed = made.1.allowed;
        after = made.1.after;
      },
    )
