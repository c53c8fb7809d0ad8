-- How packets are taken, some and then others.
use Rattle.std.proofs.Common.{◌≡◌, List, [], ◌∷◌, ◌++◌, refl, ap, sym, ◌∙◌, append_assoc}
use Rattle.ftl0_client.proofs.Names.{Option, None, Some, Item, NotesCommand, after_all, Lists, after_all-append, Ending, job_row, Attempted, Happened, after_noting, taking, taking_by, taking_one}

-- commands that come before others
after_noting-then : (first second : List NotesCommand) (happened : Happened) → after_noting first (after_noting second happened) ≡ after_noting (first ++ second) happened
after_noting-then first second happened = ap (λ (noted : List NotesCommand). record happened { noted = noted }) (sym (append_assoc first second happened.noted))

-- what packets make after others
abbrev pub taking_from : Lists → Happened → List Item → Happened
taking_from lists from others = after_noting from.noted (taking (after_all lists from.noted) from.after others)

pub taking-append : (lists : Lists) (a : Attempted) (items others : List Item) → taking lists a (items ++ others) ≡ taking_from lists (taking lists a items) others
taking-append lists a [] others = refl
taking-append lists a (item ∷ items) others =
    let one : Happened = taking_one lists a item in
    let next : Lists = after_all lists one.noted in
    let part : Happened = taking next one.after items in
    ap (after_noting one.noted) (taking-append next one.after items others)
    ∙ after_noting-then one.noted part.noted (taking (after_all next part.noted) part.after others)
    ∙ ap (λ (l : Lists). after_noting (one.noted ++ part.noted) (taking l part.after others)) (sym (after_all-append one.noted part.noted lists))

-- The commands of a packet's row come after those of the packets before it, whatever packets come later.
pub noted-front : (lists : Lists) (a : Attempted) (before : List Item) (item : Item) (behind : List Item) → (taking lists a before).after.job.ending ≡ None
    → (more : List NotesCommand)
    × ((taking lists a (before ++ item ∷ behind)).noted
    ≡ (taking lists a before).noted ++ ((job_row (after_all lists (taking lists a before).noted) (taking lists a before).after.job item).commands ++ more))
noted-front lists a before item behind none =
    let p : Happened = taking lists a before in
    let then : Lists = after_all lists p.noted in
    let one : Happened = taking_one then p.after item in
    let more : List NotesCommand = (taking (after_all then one.noted) one.after behind).noted in
    let is : one.noted ≡ (job_row then p.after.job item).commands = ap (λ (o : Option Ending). (taking_by o then p.after item).noted) none in
    (more, ap (λ (h : Happened). h.noted) (taking-append lists a before (item ∷ behind)) ∙ ap (λ (commands : List NotesCommand). p.noted ++ (commands ++ more)) is)

-- ---- what packets leave as it was

-- the octets that wait, and why the link went down
pub record KeepsOctets (before now : Attempted) : Type 0 where
  pub rest : now.rest ≡ before.rest
  pub down : now.down ≡ before.down

one-keeps : (o : Option Ending) (lists : Lists) (a : Attempted) (item : Item) → KeepsOctets a (taking_by o lists a item).after
one-keeps None lists a item = record { rest = refl; down = refl }
one-keeps (Some ending) lists a item = record { rest = refl; down = refl }

pub taking-keeps : (lists : Lists) (a : Attempted) (items : List Item) → KeepsOctets a (taking lists a items).after
taking-keeps lists a [] = record { rest = refl; down = refl }
taking-keeps lists a (item ∷ items) =
    let one : Happened = taking_one lists a item in
    let first = one-keeps a.job.ending lists a item in
    let second = taking-keeps (after_all lists one.noted) one.after items in
    record { rest = second.rest ∙ first.rest; down = second.down ∙ first.down }
