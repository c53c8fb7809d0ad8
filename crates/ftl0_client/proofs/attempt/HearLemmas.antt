-- How an attempt hears a frame.
use Rattle.std.proofs.Common.{inl, ◌≡◌, List, ◌++◌, take, drop, refl, ap, sym, ◌∙◌, subst, append_assoc}
use Rattle.std.proofs.lemmas.List.{take-append-drop}
use Rattle.disk_model.specs.Runs.{Leaves}
use Rattle.disk_model.specs.declared.halt.Halt.TheVariants as stop
use Rattle.ftl0_client_job.specs.Noting.{HasNoted}
use Rattle.ftl0_client.proofs.Names.{Option, Result, Ok, Err, ⊤, FrameValue, Ghosts, Heard, Tells, after_frame, heard_of, Window, Item, makes-longer, puts_on, puts_same, Several-then, told_weaker, weaker, NotesCommand, after_all, Lists, DoesSeveral, MakesFirst, NotesState, Halt, job_row, WithNotes, with_notes, Attempted, AttemptState, HearsBy, IsAttempt, PutsBy, StopsAmong, after_hearing, after_told, packets_heard, packets_told, with_end, Happened, taking, StopsBy, Client, client_hearing, hearing_by, ClientState}
use Rattle.ftl0_client.proofs.attempt.TakingLemmas.{noted-front}

module _ {D : Type 0} (g : Ghosts D) where
  -- the first of some commands, for some number of them, are the first of more commands
  leaves-front : (lists : Lists) (disk disk_n : D) (front more : List NotesCommand) → Leaves g disk disk_n (λ _. MakesFirst lists front) → Leaves g disk disk_n (λ _. MakesFirst lists (front ++ more))
  leaves-front lists disk disk_n front more leaves =
      told_weaker (g.content disk) _ _ (λ before told left.
      weaker g.moment g.images_since disk disk_n (MakesFirst lists front) (MakesFirst lists (front ++ more)) (makes-longer lists front more) left) leaves

  module _ (on : (first second third : D) → g.lasts first second → g.lasts second third → g.lasts first third) (old mid new : NotesState) (disk disk_m disk_n : D) (done commands : List NotesCommand)
      (first : DoesSeveral g ⊥ old mid disk disk_m done) where
    -- what is true since commands began, after which the disk failed or there was no memory
    noted-since : (more : List NotesCommand) (why : Halt) → HasNoted {T = ⊤} g mid new disk_m disk_n commands (Err why) → Leaves g disk disk_n (λ _. MakesFirst old.lists (done ++ (commands ++ more)))
    noted-since more stop.Disk noted =
        subst (λ (all : List NotesCommand). Leaves g disk disk_n (λ _. MakesFirst old.lists all)) (append_assoc done commands more)
        (leaves-front old.lists disk disk_n (done ++ commands) more (Several-then g on ⊥ ⊤ old mid new disk disk_m disk_n done commands (λ never. never) first noted).does.since)
    noted-since more stop.OutOfMemory noted =
        let some : List NotesCommand = take noted.0 commands in
        let others : List NotesCommand = drop noted.0 commands in
        let same : (done ++ some) ++ (others ++ more) ≡ done ++ (commands ++ more) =
        append_assoc done some (others ++ more)
        ∙ ap (λ (cs : List NotesCommand). done ++ cs) (sym (append_assoc some others more) ∙ ap (λ (cs : List NotesCommand). cs ++ more) (take-append-drop noted.0 commands)) in
        subst (λ (all : List NotesCommand). Leaves g disk disk_n (λ _. MakesFirst old.lists all)) same
        (leaves-front old.lists disk disk_n (done ++ some) (others ++ more) (Several-then g on ⊥ ⊥ old mid new disk disk_m disk_n done some (λ never. never) first noted.2).does.since)

    -- and what is claimed of the counts
    noted-puts : (why : Halt) → HasNoted {T = ⊤} g mid new disk_m disk_n commands (Err why) → PutsBy g disk disk_n (Err why)
    noted-puts stop.Disk noted = puts_same g disk disk_n ⊤ _ (λ all. refl) (λ e. tt) (puts_on g on disk disk_m disk_n ⊥ ⊤ (λ never. never) first.does.puts noted.does.puts)
    noted-puts stop.OutOfMemory noted = puts_same g disk disk_n ⊥ _ (λ never. absurd never) (λ e. cc e) (puts_on g on disk disk_m disk_n ⊥ ⊥ (λ never. never) first.does.puts noted.2.does.puts)

  module _ (on : (first second third : D) → g.lasts first second → g.lasts second third → g.lasts first third) (a : Attempted) (items : List Item) (before now : WithNotes AttemptState D) where
    -- the event's commands are those before the packet at which it stopped, that packet's, and others after them
    stopped-front : (why : Halt) (h : StopsAmong g a items before now why) → (more : List NotesCommand) × ((taking before.notes.lists a items).noted ≡ (taking before.notes.lists a h.before).noted ++ ((job_row h.notes_then.lists (taking before.notes.lists a h.before).after.job h.item).commands ++ more))
    stopped-front why h =
        let p : Happened = taking before.notes.lists a h.before in
        let at : h.notes_then.lists ≡ after_all before.notes.lists p.noted = ((h.done.does.done (λ never. never)).0 (inl refl)) in
        let front = noted-front before.notes.lists a h.before h.item h.behind h.stops.no_outcome in
        (front.0, ap (λ (some : List Item). (taking before.notes.lists a some).noted) h.is_part ∙ front.1 ∙ ap (λ (l : Lists). p.noted ++ ((job_row l p.after.job h.item).commands ++ front.0)) (sym at))

    stopped-since : (why : Halt) → StopsAmong g a items before now why → Leaves g before.disk now.disk (λ _. MakesFirst before.notes.lists (taking before.notes.lists a items).noted)
    stopped-since why h =
        let p : Happened = taking before.notes.lists a h.before in
        let front = stopped-front why h in
        subst (λ (cs : List NotesCommand). Leaves g before.disk now.disk (λ _. MakesFirst before.notes.lists cs)) (sym front.1)
        (noted-since on before.notes h.notes_then now.notes before.disk h.disk_then now.disk p.noted (job_row h.notes_then.lists p.after.job h.item).commands h.done front.0 why h.stops.noted)

    -- if the disk failed: the commands that were begun, in one of which it did, are the first of those that the event
    -- has
    stopped-does : StopsAmong g a items before now stop.Disk → (begun : List NotesCommand) × (more : List NotesCommand) × ((taking before.notes.lists a items).noted ≡ begun ++ more) × DoesSeveral g ⊤ before.notes now.notes before.disk now.disk begun
    stopped-does h =
        let p : Happened = taking before.notes.lists a h.before in
        let own : List NotesCommand = (job_row h.notes_then.lists p.after.job h.item).commands in
        let front = stopped-front stop.Disk h in
        (p.noted ++ own, front.0, front.1 ∙ sym (append_assoc p.noted own front.0), Several-then g on ⊥ ⊤ before.notes h.notes_then now.notes before.disk h.disk_then now.disk p.noted own (λ never. never) h.done h.stops.noted)

    pub hears-since : (w : Window) (event : Happened) (result : Result ⊤ Halt) → event.noted ≡ (taking before.notes.lists a items).noted → HearsBy g w event a items before now result
        → Leaves g before.disk now.disk (λ _. MakesFirst before.notes.lists event.noted)
    hears-since w event (Ok done) same h = h.1.does.since
    hears-since w event (Err why) same h = subst (λ (cs : List NotesCommand). Leaves g before.disk now.disk (λ _. MakesFirst before.notes.lists cs)) (sym same) (stopped-since why h)

    pub hears-puts : (w : Window) (event : Happened) (result : Result ⊤ Halt) → HearsBy g w event a items before now result → PutsBy g before.disk now.disk result
    hears-puts w event (Ok done) h = puts_same g before.disk now.disk ⊥ _ (λ never. absurd never) (λ e. cc e) h.1.does.puts
    hears-puts w event (Err why) h =
        noted-puts on before.notes h.notes_then now.notes before.disk h.disk_then now.disk (taking before.notes.lists a h.before).noted
        (job_row h.notes_then.lists (taking before.notes.lists a h.before).after.job h.item).commands h.done why h.stops.noted

  -- the same of a client
  pub client-stopped : ((first second third : D) → g.lasts first second → g.lasts second third → g.lasts first third) → (client : Client) (frame : FrameValue) (old new : ClientState) (disk disk_now : D)
      → old.notes.lists ≡ client.lists → StopsBy g client frame old new disk disk_now stop.Disk
      → (begun : List NotesCommand) × (more : List NotesCommand) × ((client_hearing client frame).noted ≡ begun ++ more) × DoesSeveral g ⊤ old.notes new.notes disk disk_now begun
  client-stopped on client frame old new disk disk_now lists h =
      let heard : Attempted = after_hearing client.window h.a frame in
      let items : List Item = packets_heard client.window h.a frame in
      let does = stopped-does on heard items (with_notes h.was old.notes disk) (with_notes h.attempt new.notes disk_now) h.stops in
      (does.0, does.1, ap (λ (o : Option Attempted). (hearing_by client frame o).noted) h.hears ∙ ap (λ (l : Lists). (taking l heard items).noted) (sym lists) ∙ does.2, does.3)

  -- what the link reported decides
  pub hears-told : (w : Window) (frame : FrameValue) (before now : WithNotes AttemptState D) (told : Heard) (result : Result ⊤ Halt) → Tells before.state.link (λ w end. heard_of w end frame) told
      → (a : Attempted) → IsAttempt w before.state a
      → HearsBy g w (taking before.notes.lists (after_told told (with_end a (after_frame w a.end frame)) frame.kind.information) (packets_told told a frame.kind.information))
      (after_told told (with_end a (after_frame w a.end frame)) frame.kind.information) (packets_told told a frame.kind.information) before now result
      → HearsBy g w (taking before.notes.lists (after_hearing w a frame) (packets_heard w a frame)) (after_hearing w a frame) (packets_heard w a frame) before now result
  hears-told w frame before now told result tells a is h =
      subst (λ (t : Heard). HearsBy g w (taking before.notes.lists (after_told t (with_end a (after_frame w a.end frame)) frame.kind.information) (packets_told t a frame.kind.information))
      (after_told t (with_end a (after_frame w a.end frame)) frame.kind.information) (packets_told t a frame.kind.information) before now result)
      (tells w a.end is.link) h
