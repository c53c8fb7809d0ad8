-- A part without a command of the notes leaves the disk, on which they stand.
use Rattle.std.proofs.Common.{◌≡◌, ◌∙◌, ⊎_elim, ℕ, [], ap, refl, subst, sym, Ok}
use Rattle.px_base.specs.declared.file_bytes.FileBytes.{FileBytes}
use Rattle.air_world.specs.Attempts.Party.{Party}
use Rattle.air_rehearsal.specs.declared.part.Part.TheVariants as stored
use Rattle.air_rehearsal.proofs.Names.{⊤, Err, Result, Ghosts, Halt, EachImage, Lists, NotesState, StandsFor, client_commands, ClientPart, HasLanes, lanes_of, TouchesPart, IsPart, IsSeat, Seat, Part, Party as StoredParty}
use Rattle.air_rehearsal.proofs.PartLemmas.{touches_none}
use Rattle.air_rehearsal.proofs.party.Party.touch_disk.Goals as goal

abbrev done : Result ⊤ Halt
done = Ok (tt {0})

still : {D : Type 0} (g : Ghosts D) → ((disk : D) → g.lasts disk disk) → (self : StoredParty) (seat : Seat) (whole part : ClientPart) (disk : D)
    → IsSeat self seat → EachImage g disk (λ image. StandsFor image self.client.notes.lists) → whole ≡ part
    → client_commands part ≡ [] → part.party ≡ seat.party → TouchesPart g {T = ⊤} whole self disk disk done
still g lasts self seat whole part disk at_seat stands is none same =
    let party : whole.party ≡ seat.party = ap (λ (p : ClientPart). p.party) is ∙ same in
    let lists : self.client.notes.lists ≡ whole.party.client.lists =
    at_seat.plays.client.lists ∙ sym (ap (λ (p : Party). p.client.lists) party) in
    record {
      lanes = subst (λ (p : Party). HasLanes self.attempt (lanes_of p.attempts)) (sym party) at_seat.plays.lanes;
      touches =
          touches_none g lasts whole disk done (ap client_commands is ∙ none)
          (subst (λ (l : Lists). EachImage g disk (λ image. StandsFor image l)) lists stands) (λ why (halts : done ≡ Err why). cc halts);
    }

pub returns-in-Resume-clause-touches : goal.returns-in-Resume-clause-touches
returns-in-Resume-clause-touches g c = λ seat whole at_seat is_part.
    let as_is = still g.D.Disk g.met.D.Disk.lasts_same c.args.self.now seat whole in
    let stands : EachImage g.D.Disk c.args.disk.now (λ image. StandsFor image c.args.self.now.client.notes.lists) =
    subst (λ (n : NotesState). EachImage g.D.Disk c.args.disk.now (λ image. StandsFor image n.lists)) c.notes.ensures c.images_law.ensures in
    ⊎_elim
    (λ (one : (task : ℕ) × (number : ℕ) × (file : FileBytes) × (c.args.part.now ≡ stored.Resume task number file)).
    let resumes = subst (λ (p : Part). IsPart seat p whole) one.3 is_part in
    as_is _ c.args.disk.now at_seat stands resumes.part_is refl refl)
    (⊎_elim
    (λ (one : (tokens : FileBytes) × (c.args.part.now ≡ stored.List tokens)).
    as_is _ c.args.disk.now at_seat stands (subst (λ (p : Part). IsPart seat p whole) one.1 is_part) refl refl)
    (⊎_elim
    (λ (one : (number : ℕ) × (c.args.part.now ≡ stored.Download number)).
    as_is _ c.args.disk.now at_seat stands (subst (λ (p : Part). IsPart seat p whole) one.1 is_part) refl refl)
    (λ (one : c.args.part.now ≡ stored.Tick).
    as_is _ c.args.disk.now at_seat stands (subst (λ (p : Part). IsPart seat p whole) one is_part) refl refl))) c.in-Resume.is
