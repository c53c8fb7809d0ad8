-- How an event reaches an outcome, packet by packet.
use Rattle.std.proofs.Common.{◌≡◌, ℕ, Bool, true, false, List, [], ◌∷◌, ◌++◌, refl, ap, sym, ◌∙◌, subst}
use Rattle.ftl0_client_job.specs.declared.ending.Outcome.{Outcome}
use Rattle.ftl0_client_job.specs.declared.ending.Outcome.TheVariants as outcome
use Rattle.ftl0_client.proofs.Names.{Option, None, Some, option_map, same_Some, FrameValue, Why, after_frame, heard_of, Window, kind_of_item, texts, Item, fits, NotesCommand, after_all, Lists, Ending, Work, DuePacket, due_by, in_job, work_due, reached, Row, strange_ending, JobState, job_after, job_row, new_job, row_of, Attempted, outcome_by, outcome_of, after_hearing, hearing, packets_heard, with_end, settled, Happened, after_replies, answering, taking, taking_by, taking_one}
use Rattle.ftl0_client.proofs.attempt.EndedLemmas.{taking-ended, told-job}
use Rattle.ftl0_client.proofs.attempt.SettlingLemmas.{settled-keeps}

-- ---- the end of the event

mapped : (o : Option (DuePacket Work)) (due : DuePacket JobState) → option_map in_job o ≡ Some due → due.state.ending ≡ None
mapped None due is = absurd (cc is)
mapped (Some next) due is = let same : in_job next ≡ due = cc is in ap (λ (d : DuePacket JobState). d.state.ending) (sym same)

due-ending : (o : Option Ending) (doing : Work) (due : DuePacket JobState) → due_by o doing ≡ Some due → due.state.ending ≡ o
due-ending None doing due is = mapped (work_due doing) due is
due-ending (Some ending) doing due is = absurd (cc is)

settled-ending : (a : Attempted) → (settled a).job.ending ≡ a.job.ending
settled-ending a =
    settled-keeps (λ (now : Attempted). now.job.ending ≡ a.job.ending) (λ now due is same. due-ending now.job.ending now.job.work due is ∙ same) (λ now same. same) a refl

-- an outcome that isn't that of a link is how the job ended
reached-by : (o : Option Ending) (down : Option Why) (of : Outcome) → ((why : Why) → outcome.LinkDown why ≡ of → ⊥) → outcome_by o down ≡ Some of → (e : Ending) × (o ≡ Some e) × (e.outcome ≡ of)
reached-by None None of not is = absurd (cc is)
reached-by None (Some why) of not is = absurd (not why (same_Some (outcome.LinkDown why) of is))
reached-by (Some ending) down of not is = (ending, refl, same_Some ending.outcome of is)

-- ---- packets

-- Of one kind of work: what a packet's row is, what the notes need to go with it, and what is to be shown of the
-- commands by which an event reaches this outcome.
module _ {S : Type 0} (made : S → Work) (item_row : Lists → S → Item → Row S) (Has : Lists → S → Type 0) (Shows : Lists → S → List NotesCommand → Type 0) (result : Outcome)
    (row_is : (lists : Lists) (at : S) (item : Item) → job_row lists (new_job (made at)) item ≡ row_of made (item_row lists at item))
    (goes : (lists : Lists) (at : S) (item : Item) → Has lists at → (item_row lists at item).ending ≡ None → Has (after_all lists (item_row lists at item).commands) (item_row lists at item).state)
    (ends : (lists : Lists) (at : S) (item : Item) → Has lists at → reached (item_row lists at item) ≡ Some result → Shows lists at ((item_row lists at item).commands ++ []))
    (behind : (lists : Lists) (at : S) (item : Item) (noted : List NotesCommand) → Shows (after_all lists (item_row lists at item).commands) (item_row lists at item).state noted
    → Shows lists at ((item_row lists at item).commands ++ noted))
    (other : (kind : ℕ) → outcome.Strange kind ≡ result → ⊥) (not_link : (why : Why) → outcome.LinkDown why ≡ result → ⊥) where
  -- what packets reach
  abbrev Reaches : List Item → Ending → Type 0
  Reaches items e =
      (lists : Lists) (a : Attempted) (at : S) → a.job ≡ new_job (made at) → Has lists at → (taking lists a items).after.job.ending ≡ Some e → Shows lists at (taking lists a items).noted

  module _ (items : List Item) (e : Ending) (is_result : e.outcome ≡ result) (later : Reaches items e) (lists : Lists) (at : S) (item : Item) (has : Has lists at) where
    abbrev row_here : Row S
    row_here = item_row lists at item

    abbrev next : Lists
    next = after_all lists row_here.commands

    -- packets that come after an outcome leave it
    ended-same : (c : Attempted) (ending : Ending) → c.job.ending ≡ Some ending → (taking next c items).after.job.ending ≡ Some e → ending ≡ e
    ended-same c ending is ended =
        let same : Some ending ≡ Some e = sym is ∙ sym (ap (λ (h : Happened). h.after.job.ending) (taking-ended next c items ending is)) ∙ ended in
        cc same

    by-ending : (o : Option Ending) (c : Attempted) → row_here.ending ≡ o → c.job ≡ job_after (row_of made row_here) → (taking next c items).after.job.ending ≡ Some e
        → Shows lists at (row_here.commands ++ (taking next c items).noted)
    by-ending None c none is ended =
        behind lists at item (taking next c items).noted
        (later next c row_here.state (is ∙ ap (λ (o : Option Ending). record { work = made row_here.state; ending = o }) none) (goes lists at item has none) ended)
    by-ending (Some ending) c some is ended =
        let of : c.job.ending ≡ Some ending = ap (λ (j : JobState). j.ending) is ∙ some in
        let same : ending ≡ e = ended-same c ending of ended in
        let got : reached row_here ≡ Some result =
        ap (option_map (λ (x : Ending). x.outcome)) some ∙ ap (λ (x : Ending). Some x.outcome) same ∙ ap (λ (x : Outcome). Some x) is_result in
        subst (λ (h : Happened). Shows lists at (row_here.commands ++ h.noted)) (sym (taking-ended next c items ending of)) (ends lists at item has got)

    by-fit : (fit : Bool) (c : Attempted) → c.job ≡ after_replies (job_after (row_of made row_here)) (kind_of_item item) fit → (taking next c items).after.job.ending ≡ Some e
        → Shows lists at (row_here.commands ++ (taking next c items).noted)
    by-fit true c is ended = by-ending row_here.ending c refl is ended
    by-fit false c is ended =
        let same : strange_ending (kind_of_item item) ≡ e = ended-same c (strange_ending (kind_of_item item)) (ap (λ (j : JobState). j.ending) is) ended in
        absurd (other (kind_of_item item) (ap (λ (x : Ending). x.outcome) same ∙ is_result))

    one-more : (a : Attempted) → a.job ≡ new_job (made at) → (taking lists a (item ∷ items)).after.job.ending ≡ Some e → Shows lists at (taking lists a (item ∷ items)).noted
    one-more a is =
        let after : Happened = answering a (kind_of_item item) (row_of made row_here) in
        let one : taking_one lists a item ≡ after =
        ap (λ (j : JobState). taking_by j.ending lists (record a { job = j }) item) is ∙ ap (answering a (kind_of_item item)) (row_is lists at item) in
        let P : Happened → Type 0 =
        λ h. (taking (after_all lists h.noted) h.after items).after.job.ending ≡ Some e → Shows lists at (h.noted ++ (taking (after_all lists h.noted) h.after items).noted) in
        subst P (sym one) (by-fit (fits a.end (texts row_here.replies)) after.after refl)

  all-packets : (items : List Item) (e : Ending) → e.outcome ≡ result → Reaches items e
  all-packets [] e is_result lists a at is has ended = absurd (let no : None ≡ Some e = sym (ap (λ (j : JobState). j.ending) is) ∙ ended in cc no)
  all-packets (item ∷ items) e is_result lists a at is has ended = one-more items e is_result (all-packets items e is_result) lists at item has a is ended

  -- a frame by which the outcome comes
  pub reaches : (w : Window) (lists : Lists) (a : Attempted) (frame : FrameValue) (at : S) → a.job ≡ new_job (made at) → Has lists at
      → outcome_of (hearing w lists a frame).after ≡ Some result → Shows lists at (hearing w lists a frame).noted
  reaches w lists a frame at is has got =
      let b : Attempted = after_hearing w a frame in
      let items : List Item = packets_heard w a frame in
      let h : Happened = taking lists b items in
      let by = reached-by (settled h.after).job.ending (settled h.after).down result not_link got in
      all-packets items by.0 by.2 lists b at (told-job (heard_of w a.end frame) (with_end a (after_frame w a.end frame)) frame.kind.information ∙ is) has
      (sym (settled-ending h.after) ∙ by.1)
