-- How an attempt takes one packet.
use Rattle.std.proofs.Common.{◌≡◌, ℕ, List, [], ◌∷◌, ap, sym, ◌∙◌, subst, append-nil}
use Rattle.ftl0_client.proofs.Names.{Option, None, Ok, Ghosts, LinkEnd, StandsFor, Window, kind_of_item, texts, Item, NotesCommand, DoesSeveral, Ending, Work, Row, JobState, job_after, job_row, TakesPacket, with_notes, Attempted, Working, Made, RepliesAndParts, Takes, after_noting, quietly, taking_by}

module _ {D : Type 0} (g : Ghosts D) (item : Item) (before now : Working D) (job_m : JobState) (kind : ℕ) (text replies : List ℕ)
    (is_kind : kind ≡ kind_of_item item) (is_text : text ≡ replies) where
  made-answered : (w : Window) (a : Attempted) → a.job.ending ≡ None → TakesPacket g item (with_notes a.job before.notes before.disk) (with_notes job_m now.notes now.disk) replies (Ok tt)
      → RepliesAndParts kind text job_m now.job w a.end now.link
      → Made g w (after_noting (taking_by a.job.ending before.notes.lists a item).noted (quietly (taking_by a.job.ending before.notes.lists a item).after)) before now
  made-answered w a none takes replied =
      let row : Row Work = job_row before.notes.lists a.job item in
      let gives = takes.answers in
      let is_job : job_m ≡ job_after row =
      ap (λ (doing : Work). record { work = doing; ending = job_m.ending }) gives.0 ∙ ap (λ (ending : Option Ending). record { work = row.state; ending = ending }) gives.2 in
      let at : RepliesAndParts (kind_of_item item) (texts row.replies) (job_after row) now.job w a.end now.link =
      subst (λ (j : JobState). RepliesAndParts (kind_of_item item) (texts row.replies) j now.job w a.end now.link) is_job
      (subst (λ (t : List ℕ). RepliesAndParts (kind_of_item item) t job_m now.job w a.end now.link) (is_text ∙ gives.1)
      (subst (λ (k : ℕ). RepliesAndParts k text job_m now.job w a.end now.link) is_kind replied)) in
      subst (λ (o : Option Ending). Made g w (after_noting (taking_by o before.notes.lists a item).noted (quietly (taking_by o before.notes.lists a item).after)) before now) (sym none)
      (record {
        link = at.0;
        job = at.1;
        noted = subst (λ (commands : List NotesCommand). DoesSeveral g ⊥ before.notes now.notes before.disk now.disk commands) (sym (append-nil row.commands)) takes.noted;
      })

  -- a packet was taken, and its replies queued or lost
  pub takes-answered : before.job.ending ≡ None → TakesPacket g item (with_notes before.job before.notes before.disk) (with_notes job_m now.notes now.disk) replies (Ok tt)
      → ((w : Window) (end : LinkEnd) → StandsFor w before.link end → RepliesAndParts kind text job_m now.job w end now.link) → Takes g (item ∷ []) before now
  takes-answered none takes replied w a stands same =
      made-answered w a (subst (λ (j : JobState). j.ending ≡ None) same none)
      (subst (λ (j : JobState). TakesPacket g item (with_notes j before.notes before.disk) (with_notes job_m now.notes now.disk) replies (Ok tt)) same takes) (replied w a.end stands)
