-- As long as nothing became of an attempt its link calls or is up; and if its link went down before an outcome, none
-- comes.
use Rattle.std.proofs.Common.{◌≡◌, ◌⊎◌, ℕ, List, [], ◌∷◌, Bool, true, Option, None, Some, refl, inr, sym, ap, ◌∙◌}
use Rattle.std.proofs.Common.{subst}
use Rattle.std.specs.Prelude.{if◌then◌else◌, ◌&&◌}
use Rattle.packet_link.specs.Queuing.{fits}
use Rattle.ftl0_client.specs.Attempt.Hearing.{closing}
use Rattle.air_world.proofs.attempts.Names.{cond_both, kind_of_item, texts, Item, after_hang_up, after_push, Heard, Nothing, Opened, Reopened, Bytes, Closed, LinkState, Calling, Up, Down, Why, LinkEnd, free_octets, is_up, filling-keeps, after_all, Lists, Ending, Work, DuePacket, due_by, next_due, JobState, job_after, job_row, Attempted, outcome_by, outcome_of, after_told, down_by, packets_told, with_end, IsToldDown, after_due, is_all_free, is_later, parting_later, queuing, settled, after_replies, parting, replied, taking, taking_by, taking_one}
use Rattle.air_world.proofs.attempts.ClientRows.{StateAs}

abbrev pub CallsOrUp : LinkState → Type 0
CallsOrUp state = (state ≡ Calling) ⊎ (state ≡ Up)

-- before the job's outcome the link calls or is up
abbrev Works : Attempted → Type 0
Works a = a.job.ending ≡ None → CallsOrUp a.end.state

-- the attempt goes on: its link isn't reported down, no octets come, and it works still
record GoesFrom (a now : Attempted) : Type 0 where
  down : now.down ≡ a.down
  rest : now.rest ≡ a.rest
  works : Works a → Works now

goes-same : (a : Attempted) → GoesFrom a a
goes-same a = record { down = refl; rest = refl; works = λ works. works }

goes-then : (a between now : Attempted) → GoesFrom a between → GoesFrom between now → GoesFrom a now
goes-then a between now first second =
    record {
      down = second.down ∙ first.down;
      rest = second.rest ∙ first.rest;
      works = λ works. second.works (first.works works);
    }

-- ---- packets that are taken

replied-state : (end : LinkEnd) (text : List ℕ) → (replied end text).state ≡ end.state
replied-state end text =
    cond_both (fits end text) (after_push end text) end (λ (e : LinkEnd). e.state ≡ end.state) (λ b. refl) (λ b. refl)

parted-works : (o : Option Ending) (end : LinkEnd) → o ≡ None → CallsOrUp end.state → CallsOrUp (parting o end).state
parted-works None end none works = works
parted-works (Some ending) end none works = absurd (cc none)

goes-one : (lists : Lists) (a : Attempted) (item : Item) (o : Option Ending) → a.job.ending ≡ o
    → GoesFrom a (taking_by o lists a item).after
goes-one lists a item (Some ending) is = goes-same a
goes-one lists a item None is =
    let text : List ℕ = texts (job_row lists a.job item).replies in
    let now : JobState = after_replies (job_after (job_row lists a.job item)) (kind_of_item item) (fits a.end text) in
    record {
      down = refl;
      rest = refl;
      works =
          λ works none. parted-works now.ending (replied a.end text) none
          (subst CallsOrUp (sym (replied-state a.end text)) (works is));
    }

goes-taken : (lists : Lists) (a : Attempted) (items : List Item) → GoesFrom a (taking lists a items).after
goes-taken lists a [] = goes-same a
goes-taken lists a (item ∷ items) =
    let one = taking_one lists a item in
    goes-then a one.after (taking (after_all lists one.noted) one.after items).after
    (goes-one lists a item a.job.ending refl) (goes-taken (after_all lists one.noted) one.after items)

-- ---- the end of an event

pub due-none : (o : Option Ending) (doing : Work) (due : DuePacket JobState) → due_by o doing ≡ Some due → o ≡ None
due-none None doing due is = refl
due-none (Some ending) doing due is = absurd (cc is)

goes-queued : (a : Attempted) (count : ℕ) → GoesFrom a (queuing count a)
goes-queued a count =
    filling-keeps (λ (at : Attempted). at.end) (λ at. next_due at.job) after_due (GoesFrom a)
    (λ at due is goes.
    goes-then a at (after_due due at) goes
    (record { down = refl; rest = refl; works = λ works none. works (due-none at.job.ending at.job.work due is) }))
    count a (goes-same a)

later-some : (o : Option Ending) (free : Bool) → (is_later o && free) ≡ true → o ≡ None → ⊥
later-some None free is none = cc is
later-some (Some ending) free is none = cc none

goes-parted : (a : Attempted) → GoesFrom a (parting_later a)
goes-parted a =
    cond_both (is_later a.job.ending && is_all_free a.end) (record a { end = after_hang_up a.end }) a (GoesFrom a)
    (λ both. record {
      down = refl;
      rest = refl;
      works = λ works none. absurd (later-some a.job.ending (is_all_free a.end) both none);
    })
    (λ not_both. goes-same a)

goes-settled : (a : Attempted) → GoesFrom a (settled a)
goes-settled a =
    cond_both (is_up a.end.state) (parting_later (queuing (free_octets a.end) a)) a (GoesFrom a)
    (λ up. goes-then a (queuing (free_octets a.end) a) (parting_later (queuing (free_octets a.end) a))
    (goes-queued a (free_octets a.end)) (goes-parted (queuing (free_octets a.end) a)))
    (λ down. goes-same a)

-- if the link is down, nothing is done
pub settled-down : (a : Attempted) → a.end.state ≡ Down → settled a ≡ a
settled-down a down = ap (λ (s : LinkState). if is_up s then parting_later (queuing (free_octets a.end) a) else a) down

-- ---- an event

-- what an attempt keeps of what became of it
pub record KeepsWorking (a : Attempted) : Type 0 where
  pub closed : (why : Why) → a.down ≡ Some why → a.job.ending ≡ None
  pub working : outcome_of a ≡ None → CallsOrUp a.end.state

none-outcome : (o : Option Ending) (down : Option Why) → outcome_by o down ≡ None → (o ≡ None) × (down ≡ None)
none-outcome None None is = (refl, refl)
none-outcome None (Some why) is = absurd (cc is)
none-outcome (Some ending) down is = absurd (cc is)

-- the attempt at the end of an event, once this was reported
abbrev pub after_of : Lists → Attempted → LinkEnd → List ℕ → Heard → Attempted
after_of lists a end octets told =
    settled (taking lists (after_told told (with_end a end) octets) (packets_told told a octets)).after

goes-all : (lists : Lists) (next : Attempted) (items : List Item)
    → GoesFrom next (settled (taking lists next items).after)
goes-all lists next items =
    let taken = (taking lists next items).after in
    goes-then next taken (settled taken) (goes-taken lists next items) (goes-settled taken)

-- the octets of which no packet was taken yet are those that were left before any was
pub rest-kept : (lists : Lists) (a : Attempted) (end : LinkEnd) (octets : List ℕ) (told : Heard)
    → (after_of lists a end octets told).rest ≡ (after_told told (with_end a end) octets).rest
rest-kept lists a end octets told =
    (goes-all lists (after_told told (with_end a end) octets) (packets_told told a octets)).rest

module _ (lists : Lists) (a : Attempted) (end : LinkEnd) (octets : List ℕ) (keeps : KeepsWorking a)
    (told_down : IsToldDown a) where
  -- It goes on from one to which nothing of the link's end was reported. If the link went down before an outcome, none
  -- comes.
  goes-on : (next : Attempted) (items : List Item) → next.down ≡ a.down → next.job ≡ a.job
      → (CallsOrUp a.end.state → CallsOrUp next.end.state)
      → ((why : Why) → a.down ≡ Some why → (settled (taking lists next items).after).job.ending ≡ None)
      → KeepsWorking (settled (taking lists next items).after)
  goes-on next items down job state still =
      let now : Attempted = settled (taking lists next items).after in
      let goes : GoesFrom next now = goes-all lists next items in
      let same : now.down ≡ a.down = goes.down ∙ down in
      record {
        closed = λ why is. still why (sym same ∙ is);
        working = λ none.
            let both = none-outcome now.job.ending now.down none in
            goes.works
            (λ not_ended.
            let before : a.job.ending ≡ None = ap (λ (j : JobState). j.ending) (sym job) ∙ not_ended in
            state (keeps.working (ap (λ (o : Option Ending). outcome_by o a.down) before
            ∙ ap (λ (d : Option Why). outcome_by None d) (sym same ∙ both.1))))
            both.0;
      }

  -- its link went down
  closes : (why : Why) → end.state ≡ Down → KeepsWorking (closing (with_end a end) why)
  closes why is = record {
    closed = λ other down. by a.job.ending refl other down;
    working = λ none.
        let both = none-outcome a.job.ending (down_by a.job.ending a.down why) none in
        absurd (let no : Some why ≡ None = ap (λ (o : Option Ending). down_by o a.down why) (sym both.0) ∙ both.1 in
        cc no);
  }
    where
      by : (o : Option Ending) → a.job.ending ≡ o → (other : Why) → down_by a.job.ending a.down why ≡ Some other
          → a.job.ending ≡ None
      by None same other down = same
      by (Some ending) same other down =
          keeps.closed other (ap (λ (o : Option Ending). down_by o a.down why) (sym same) ∙ down)

  same-works : (before now : LinkState) → now ≡ before → CallsOrUp before → CallsOrUp now
  same-works before now same works = subst CallsOrUp (sym same) works

  -- so it is after each event; a link that is down reports nothing
  pub keeps-working : (told : Heard) → StateAs told a.end.state end.state → (a.end.state ≡ Down → told ≡ Nothing)
      → KeepsWorking (after_of lists a end octets told)
  keeps-working Nothing is silent =
      goes-on (with_end a end) [] refl refl (same-works a.end.state end.state is)
      (λ why down.
      ap (λ (now : Attempted). now.job.ending) (settled-down (with_end a end) (is ∙ told_down why down))
      ∙ keeps.closed why down)
  keeps-working Opened is silent =
      goes-on (with_end a end) [] refl refl (λ works. inr is)
      (λ why down. absurd (let no : Opened ≡ Nothing = silent (told_down why down) in cc no))
  keeps-working Reopened is silent =
      goes-on (with_end a end) [] refl refl (same-works a.end.state end.state is)
      (λ why down. absurd (let no : Reopened ≡ Nothing = silent (told_down why down) in cc no))
  keeps-working Bytes is silent =
      goes-on (after_told Bytes (with_end a end) octets) (packets_told Bytes a octets) refl refl
      (same-works a.end.state end.state is)
      (λ why down. absurd (let no : Bytes ≡ Nothing = silent (told_down why down) in cc no))
  keeps-working (Closed why) is silent =
      subst KeepsWorking (sym (settled-down (closing (with_end a end) why) is)) (closes why is)
