-- What a frame or a tick makes of an attempt is what the entries make that come of it.
use Rattle.std.proofs.Common.{◌≡◌, ℕ, zero, suc, ◌≤◌, Bool, true, false, ◌&&◌, List, [], ◌∷◌, ◌++◌, length, take, drop, Option, None, Some, refl, sym, ◌∙◌, ap, ap₂, subst, append_assoc, append-nil, arith}
use Rattle.std.specs.Prelude.{◌==◌, if◌then◌else◌}
use Rattle.std.proofs.lemmas.List.{length-take, take_all}
use Rattle.std.proofs.lemmas.List.Concat.{flat_map-append}
use Rattle.ax25_link.specs.Calls.{Doing, DoesAll, after_doing, after_hang_up, after_push, hang_up, push}
use Rattle.ax25_link.specs.LinkStep.{heard_of_tick}
use Rattle.ax25_link.specs.Timer.{after_tick, is_up, told_of_tick}
use Rattle.ax25_link.specs.declared.state.Heard.{Heard}
use Rattle.ax25_link.specs.declared.state.LinkState.TheVariants as link
use Rattle.ax25_link.specs.declared.state.Why.{Why}
use Rattle.ftl0_packets.specs.Items.{kind_of_item, texts}
use Rattle.ftl0_packets.proofs.SplitLemmas.{texts-append}
use Rattle.packet_link.specs.Queuing.{enough_free, fits, on_due}
use Rattle.packet_link.proofs.Queuing.{filling-keeps}
use Rattle.client_notes.proofs.Offered.{after_all-append}
use Rattle.ftl0_client_job.specs.declared.ending.Ending.{Ending}
use Rattle.ftl0_client_job.specs.declared.phases.UploadPhase.{UploadPhase}
use Rattle.ftl0_client_job.specs.declared.phases.UploadPhase.TheVariants as phase
use Rattle.ftl0_client_job.specs.declared.work.Work.{Work}
use Rattle.ftl0_client_job.specs.declared.work.Work.TheVariants as work
use Rattle.ftl0_client_job.specs.Due.{DuePacket, due_by, due_from, due_in, in_job, in_work, most_data, next_due}
use Rattle.std.specs.Option.{option_map}
use Rattle.ftl0_client_job.specs.Row.{Row}
use Rattle.ftl0_client_job.specs.Upload.{Upload}
use Rattle.ftl0_client.specs.Attempt.Settling.{after_due, is_all_free, is_later, parting_later, queuing, settled}
use Rattle.ftl0_client.specs.Entries.{GoesBy, HappensBy, HearingLaw, JobEntry, TickingLaw, after_losing, commands_of, entries_behind, entries_due, entries_taken, entry_by, items_in, items_of, lost, packets_said, passed, queued, said_in, took}
use Rattle.ftl0_client.proofs.step_laws.Names.{nat_le, cond_both, leb-true, same_Some, LinkEnd, free_octets, after_frame, heard_of, Nothing, Opened, Reopened, Bytes, Closed, LinkState, Up, Item, packet_text, NotesCommand, after_all, Lists, JobState, job_after, job_row, Attempted, after_told, packets_told, settling, with_end, Happened, after_noting, after_replies, parting, quietly, taking, taking_by, taking_one}
use Rattle.ftl0_client.proofs.step_laws.UpLemmas.{bytes-up}

-- these entries make this of an attempt, over these notes, and take these packets
record Goes (lists : Lists) (a : Attempted) (items : List Item) (entries : List JobEntry) (h : Happened) : Type 0 where
  happens : HappensBy a.end h entries
  items_are : items ≡ items_in entries
  goes : GoesBy lists a.job entries (after_all lists h.noted) h.after.job

-- ---- some entries, and then others

does-then : (a b c : LinkEnd) (first second : List Doing) → DoesAll a first b → DoesAll b second c → DoesAll a (first ++ second) c
does-then a b c [] second is does = subst (λ (end : LinkEnd). DoesAll end second c) is does
does-then a b c (doing ∷ first) second is does = (is.0, does-then (after_doing a doing) b c first second is.1 does)

said-then : (es fs : List JobEntry) → texts (said_in (es ++ fs)) ≡ texts (said_in es) ++ texts (said_in fs)
said-then es fs = ap texts (flat_map-append packets_said es fs) ∙ texts-append (said_in es) (said_in fs)

goes-by : (lists mid last : Lists) (job between now : JobState) (es fs : List JobEntry) → GoesBy lists job es mid between → GoesBy mid between fs last now → GoesBy lists job (es ++ fs) last now
goes-by lists mid last job between now [] fs g h = subst (λ (l : Lists). GoesBy l job fs last now) g.0 (subst (λ (j : JobState). GoesBy mid j fs last now) g.1 h)
goes-by lists mid last job between now (took item row ∷ es) fs g h = (g.0, g.1, goes-by (after_all lists row.commands) mid last (job_after row) between now es fs g.2 h)
goes-by lists mid last job between now (lost item row ∷ es) fs g h =
    (g.0, g.1, goes-by (after_all lists row.commands) mid last (after_losing (kind_of_item item) row) between now es fs g.2 h)
goes-by lists mid last job between now (passed item ∷ es) fs g h = (g.0, goes-by lists mid last job between now es fs g.1 h)
goes-by lists mid last job between now (queued due ∷ es) fs g h = (g.0, goes-by lists mid last due.state between now es fs g.1 h)

goes-then : (lists : Lists) (a : Attempted) (items more : List Item) (es fs : List JobEntry) (h k : Happened) → Goes lists a items es h → Goes (after_all lists h.noted) h.after more fs k
    → Goes lists a (items ++ more) (es ++ fs) (after_noting h.noted k)
goes-then lists a items more es fs h k first second = record {
  happens = record {
    doings = first.happens.doings ++ second.happens.doings;
    does = does-then a.end h.after.end k.after.end first.happens.doings second.happens.doings first.happens.does second.happens.does;
    said =
        second.happens.said ∙ ap (λ (t : List ℕ). t ++ texts (said_in fs)) first.happens.said ∙ append_assoc a.end.pushed (texts (said_in es)) (texts (said_in fs))
        ∙ ap (λ (t : List ℕ). a.end.pushed ++ t) (sym (said-then es fs));
    noted = ap₂ (λ (xs ys : List NotesCommand). xs ++ ys) first.happens.noted second.happens.noted ∙ sym (flat_map-append commands_of es fs);
  };
  items_are = ap₂ (λ (xs ys : List Item). xs ++ ys) first.items_are second.items_are ∙ sym (flat_map-append items_of es fs);
  goes =
      subst (λ (l : Lists). GoesBy lists a.job (es ++ fs) l k.after.job) (sym (after_all-append h.noted k.noted lists))
      (goes-by lists (after_all lists h.noted) (after_all (after_all lists h.noted) k.noted) a.job h.after.job k.after.job es fs first.goes second.goes);
}

goes-none : (lists : Lists) (a : Attempted) → Goes lists a [] [] (quietly a)
goes-none lists a = record { happens = record { doings = []; does = refl; said = sym (append-nil a.end.pushed); noted = refl }; items_are = refl; goes = (refl, refl) }

-- ---- a packet that is taken

-- the link is up as long as there is no outcome
abbrev MayGo : Attempted → Type 0
MayGo a = a.job.ending ≡ None → a.end.state ≡ Up

-- an end that is up is hung up, or stays
record Parts (end now : LinkEnd) : Type 0 where
  doings : List Doing
  does : DoesAll end doings now
  pushed : now.pushed ≡ end.pushed

parts-by : (later : Bool) (end : LinkEnd) → end.state ≡ Up → Parts end (if later then end else after_hang_up end)
parts-by true end up = record { doings = []; does = refl; pushed = refl }
parts-by false end up = record { doings = hang_up ∷ []; does = (up, refl); pushed = refl }

parts : (o : Option Ending) (end : LinkEnd) → end.state ≡ Up → Parts end (parting o end)
parts None end up = record { doings = []; does = refl; pushed = refl }
parts (Some ending) end up = parts-by ending.later end up

parting-up : (o : Option Ending) (end : LinkEnd) → end.state ≡ Up → o ≡ None → (parting o end).state ≡ Up
parting-up None end up none = up
parting-up (Some ending) end up none = absurd (cc none)

module _ (lists : Lists) (a : Attempted) (item : Item) where
  abbrev row_is : Row Work
  row_is = job_row lists a.job item

  -- by whether its replies fit
  abbrev job_by : Bool → JobState
  job_by fit = after_replies (job_after row_is) (kind_of_item item) fit

  abbrev made : Bool → Happened
  made fit = record {
    after = record a { end = parting (job_by fit).ending (if fit then after_push a.end (texts row_is.replies) else a.end); job = job_by fit };
    noted = row_is.commands;
  }

  answered : (fit : Bool) → fits a.end (texts row_is.replies) ≡ fit → a.job.ending ≡ None → a.end.state ≡ Up
      → Goes lists a (item ∷ []) ((if fit then took item row_is else lost item row_is) ∷ []) (made fit) × MayGo (made fit).after
  answered true fit none up =
      let text : List ℕ = texts row_is.replies in
      let p = parts (job_by true).ending (after_push a.end text) up in
      let all : take (free_octets a.end) text ≡ text = take_all (free_octets a.end) text (leb-true (length text) (free_octets a.end) fit) in (
        record {
          happens = record {
            doings = push text ∷ p.doings;
            does = (up, p.does);
            said = p.pushed ∙ ap (λ (t : List ℕ). a.end.pushed ++ t) (all ∙ sym (ap texts (append-nil row_is.replies)));
            noted = sym (append-nil row_is.commands);
          };
          items_are = refl;
          goes = (none, refl, (refl, refl));
        },
        parting-up (job_by true).ending (after_push a.end text) up,
      )
  answered false fit none up =
      let p = parts (job_by false).ending a.end up in (
        record {
          happens = record { doings = p.doings; does = p.does; said = p.pushed ∙ sym (append-nil a.end.pushed); noted = sym (append-nil row_is.commands) };
          items_are = refl;
          goes = (none, refl, (refl, refl));
        },
        (λ ended. absurd (cc ended)),
      )

  one : (o : Option Ending) → a.job.ending ≡ o → MayGo a → Goes lists a (item ∷ []) (entry_by o lists a item ∷ []) (taking_by o lists a item) × MayGo (taking_by o lists a item).after
  one None is may = answered (fits a.end (texts row_is.replies)) refl is (may is)
  one (Some ending) is may = (
    record {
      happens = record { doings = []; does = refl; said = sym (append-nil a.end.pushed); noted = refl };
      items_are = refl;
      goes = ((λ none. (let no : Some ending ≡ None = sym is ∙ none in cc no)), (refl, refl));
    },
    may,
  )

goes-taken : (lists : Lists) (a : Attempted) (items : List Item) → MayGo a → Goes lists a items (entries_taken lists a items) (taking lists a items)
goes-taken lists a [] may = goes-none lists a
goes-taken lists a (item ∷ items) may =
    let first : Happened = taking_one lists a item in
    let is = one lists a item a.job.ending refl may in
    let next : Lists = after_all lists first.noted in
    goes-then lists a (item ∷ []) items (entry_by a.job.ending lists a item ∷ []) (entries_taken next first.after items) first (taking next first.after items) is.0
    (goes-taken next first.after items is.1)

-- ---- a packet that is due

from-short : (at : Upload) (number place : ℕ) → length (packet_text (due_from at number place).packet) ≤ enough_free
from-short at number place =
    cond_both (length (drop place at.file) == 0) _ _ (λ (d : DuePacket Upload). length (packet_text d.packet) ≤ enough_free) (λ none. omega arith)
    (λ some. omega (arith, length-take most_data (drop place at.file)))

-- it fits if enough octets are free
due-short : (o : Option Ending) (doing : Work) (due : DuePacket JobState) → due_by o doing ≡ Some due → length (packet_text due.packet) ≤ enough_free
due-short (Some ending) doing due is = absurd (cc is)
due-short None (work.Directory at) due is = absurd (cc is)
due-short None (work.Download at) due is = absurd (cc is)
due-short None (work.Upload at) due is = by at.phase is
  where
    by : (p : UploadPhase) → option_map in_job (option_map in_work (due_in p at)) ≡ Some due → length (packet_text due.packet) ≤ enough_free
    by phase.Login is = absurd (cc is)
    by phase.Go is = absurd (cc is)
    by (phase.Sending number place) is =
        subst (λ (d : DuePacket JobState). length (packet_text d.packet) ≤ enough_free) (same_Some (in_job (in_work (due_from at number place))) due is) (from-short at number place)
    by (phase.Ack number) is = absurd (cc is)

goes-queued : (lists : Lists) (a : Attempted) (due : DuePacket JobState) → next_due a.job ≡ Some due → enough_free ≤ free_octets a.end → a.end.state ≡ Up
    → Goes lists a [] (queued due ∷ []) (quietly (after_due due a))
goes-queued lists a due is enough up =
    let text : List ℕ = packet_text due.packet in
    let short : length text ≤ enough_free = due-short a.job.ending a.job.work due is in
    let all : take (free_octets a.end) text ≡ text = take_all (free_octets a.end) text (omega (arith, short, enough)) in
    record {
      happens = record { doings = push text ∷ []; does = (up, refl); said = ap (λ (t : List ℕ). a.end.pushed ++ t) (all ∙ sym (append-nil text)); noted = refl };
      items_are = refl;
      goes = (is, (refl, refl));
    }

goes-due : (lists : Lists) (count : ℕ) (a : Attempted) → a.end.state ≡ Up → Goes lists a [] (entries_due count a) (quietly (queuing count a))
goes-due lists zero a up = goes-none lists a
goes-due lists (suc more) a up = by (goes-due lists more) (nat_le enough_free (free_octets a.end)) refl (next_due a.job) refl
  where
    by : ((next : Attempted) → next.end.state ≡ Up → Goes lists next [] (entries_due more next) (quietly (queuing more next)))
        → (enough : Bool) → nat_le enough_free (free_octets a.end) ≡ enough → (o : Option (DuePacket JobState)) → next_due a.job ≡ o
        → Goes lists a [] (if enough then on_due o [] (λ due. queued due ∷ entries_due more (after_due due a)) else [])
        (quietly (if enough then on_due o a (λ due. queuing more (after_due due a)) else a))
    by rest false enough o is = goes-none lists a
    by rest true enough None is = goes-none lists a
    by rest true enough (Some due) is =
        let next : Attempted = after_due due a in
        goes-then lists a [] [] (queued due ∷ []) (entries_due more next) (quietly next) (quietly (queuing more next))
        (goes-queued lists a due is (leb-true enough_free (free_octets a.end) enough) up) (rest next up)

-- ---- the end of an event

queuing-up : (count : ℕ) (a : Attempted) → a.end.state ≡ Up → (queuing count a).end.state ≡ Up
queuing-up = filling-keeps (λ (at : Attempted). at.end) (λ at. next_due at.job) after_due (λ (at : Attempted). at.end.state ≡ Up) (λ at due is up. up)

goes-hung : (lists : Lists) (a now : Attempted) (entries : List JobEntry) → now.end.state ≡ Up → Goes lists a [] entries (quietly now)
    → Goes lists a [] entries (quietly (record now { end = after_hang_up now.end }))
goes-hung lists a now entries up g = record {
  happens = record {
    doings = g.happens.doings ++ hang_up ∷ [];
    does = does-then a.end now.end (after_hang_up now.end) g.happens.doings (hang_up ∷ []) g.happens.does (up, refl);
    said = g.happens.said;
    noted = g.happens.noted;
  };
  items_are = g.items_are;
  goes = g.goes;
}

state-up : (s : LinkState) → is_up s ≡ true → s ≡ Up
state-up Up is = refl
state-up link.Calling is = absurd (cc is)
state-up link.Ending is = absurd (cc is)
state-up link.Down is = absurd (cc is)

goes-settled : (lists : Lists) (a : Attempted) → Goes lists a [] (entries_behind a) (quietly (settled a))
goes-settled lists a = by (is_up a.end.state) refl
  where
    by : (up : Bool) → is_up a.end.state ≡ up
        → Goes lists a [] (if up then entries_due (free_octets a.end) a else []) (quietly (if up then parting_later (queuing (free_octets a.end) a) else a))
    by false is = goes-none lists a
    by true is =
        let now : Attempted = queuing (free_octets a.end) a in
        let up : a.end.state ≡ Up = state-up a.end.state is in
        let queued_all = goes-due lists (free_octets a.end) a up in
        cond_both (is_later now.job.ending && is_all_free now.end) _ _ (λ (at : Attempted). Goes lists a [] (entries_due (free_octets a.end) a) (quietly at))
        (λ both. goes-hung lists a now (entries_due (free_octets a.end) a) (queuing-up (free_octets a.end) a up) queued_all) (λ not_both. queued_all)

goes-all : (lists : Lists) (a : Attempted) (items : List Item) → Goes lists a items (entries_taken lists a items) (taking lists a items)
    → Goes lists a items (entries_taken lists a items ++ entries_behind (taking lists a items).after) (settling (taking lists a items))
goes-all lists a items taken =
    let h : Happened = taking lists a items in
    let entries : List JobEntry = entries_taken lists a items ++ entries_behind h.after in
    let all = goes-then lists a items [] (entries_taken lists a items) (entries_behind h.after) h (quietly (settled h.after)) taken (goes-settled (after_all lists h.noted) h.after) in
    subst (λ (some : List Item). Goes lists a some entries (settling h)) (append-nil items)
    (subst (λ (noted : List NotesCommand). Goes lists a (items ++ []) entries (record { after = settled h.after; noted = noted })) (append-nil h.noted) all)

-- ---- events

module _ (lists : Lists) (a : Attempted) (end : LinkEnd) (octets : List ℕ) where
  -- the attempt by what the link reported of a frame, and what becomes of it then
  abbrev told : Heard → Attempted
  told t = after_told t (with_end a end) octets

  abbrev made_of : Heard → Happened
  made_of t = settling (taking lists (told t) (packets_told t a octets))

  abbrev entries_of : Heard → List JobEntry
  entries_of t = entries_taken lists (told t) (packets_told t a octets) ++ entries_behind (taking lists (told t) (packets_told t a octets)).after

  abbrev Hears : Heard → Type 0
  Hears t =
      HappensBy end (made_of t) (entries_of t) × (packets_told t a octets ≡ items_in (entries_of t))
      × GoesBy lists a.job (entries_of t) (after_all lists (made_of t).noted) (made_of t).after.job

  hears : (t : Heard) → (t ≡ Bytes → end.state ≡ Up) → Hears t
  hears Nothing up = let g = goes-all lists (told Nothing) [] (goes-none lists (told Nothing)) in (g.happens, g.items_are, g.goes)
  hears Opened up = let g = goes-all lists (told Opened) [] (goes-none lists (told Opened)) in (g.happens, g.items_are, g.goes)
  hears Reopened up = let g = goes-all lists (told Reopened) [] (goes-none lists (told Reopened)) in (g.happens, g.items_are, g.goes)
  hears Bytes up =
      let items : List Item = packets_told Bytes a octets in
      let g = goes-all lists (told Bytes) items (goes-taken lists (told Bytes) items (λ none. up refl)) in
      (g.happens, g.items_are, g.goes)
  hears (Closed why) up = let g = goes-all lists (told (Closed why)) [] (goes-none lists (told (Closed why))) in (g.happens, g.items_are, g.goes)

pub hearing-law : HearingLaw
hearing-law w lists a frame = hears lists a (after_frame w a.end frame) frame.kind.information (heard_of w a.end frame) (bytes-up w a.end frame)

pub ticking-law : TickingLaw
ticking-law lists a = by (told_of_tick a.end)
  where
    ticked : Option Why → Attempted
    ticked o = after_told (heard_of_tick o) (with_end a (after_tick a.end)) []

    by : (o : Option Why)
        → HappensBy (after_tick a.end) (quietly (settled (ticked o))) (entries_behind (ticked o))
        × (items_in (entries_behind (ticked o)) ≡ []) × GoesBy lists a.job (entries_behind (ticked o)) lists (settled (ticked o)).job
    by None = let g = goes-settled lists (ticked None) in (g.happens, sym g.items_are, g.goes)
    by (Some why) = let g = goes-settled lists (ticked (Some why)) in (g.happens, sym g.items_are, g.goes)
