-- A job goes on by what a frame or a tick makes of it: it is still one that its packets lead to.
use Rattle.std.proofs.Common.{◌≡◌, ℕ, List, [], ◌++◌, sym, ap, ap₂, ◌∙◌, subst, append-nil}
use Rattle.air_world.proofs.attempts.Names.{AllByRecursion, concat, IsOctets, texts, Fits, Item, PacketValue, packets_of, rest_of, Doing, DoesAll, Heard, Nothing, Opened, Reopened, Bytes, Closed, LinkState, Down, LinkEnd, Outcome, Lists, NotesGoWith, new_job, Attempted, after_told, packets_told, with_end, IsToldDown, GoesBy, JobEntry, items_in, said_in, WorkFits, ClientSide, IsJob}
use Rattle.air_world.proofs.attempts.ClientRows.{Comes}
use Rattle.air_world.proofs.attempts.ClientWorks.{CallsOrUp, KeepsWorking, after_of, keeps-working, rest-kept}
use Rattle.air_world.proofs.attempts.JobAppend.{items-then, reaches-by, reaches-then, said-then, texts-then}
use Rattle.air_world.proofs.attempts.JobSays.{entries-fit, reached-fits}
use Rattle.air_world.proofs.attempts.LinkKeeps.{KeepsStreams, does-taken, taken_as}
use Rattle.air_world.proofs.attempts.PacketLists.{ReadsOn, reads-on}
use Rattle.air_world.proofs.attempts.ListLemmas.{each-append}

-- ---- what came

-- What is read of the pieces that came, once this was reported of a frame with this information.
record ReadsTold (a : Attempted) (pieces : List (List ℕ)) (information : List ℕ) (end : LinkEnd)
    (told : Heard) : Type 0 where
  packets : packets_of (concat (taken_as told pieces information)) ≡ packets_of (concat pieces) ++ packets_told told a
      information
  rest : (after_told told (with_end a end) information).rest ≡ rest_of (concat (taken_as told pieces information))

module _ (a : Attempted) (pieces : List (List ℕ)) (information : List ℕ) (end : LinkEnd)
    (rest : a.rest ≡ rest_of (concat pieces)) where
  reads-bytes : ReadsOn pieces information → ReadsTold a pieces information end Bytes
  reads-bytes reads =
      let same : rest_of (concat pieces) ++ information ≡ a.rest ++ information =
      ap (λ (r : List ℕ). r ++ information) (sym rest) in
      record {
        packets = reads.packets ∙ ap (λ (octets : List ℕ). packets_of (concat pieces) ++ packets_of octets) same;
        rest = ap (λ (octets : List ℕ). rest_of octets) (sym same) ∙ sym reads.rest;
      }

  reads-nothing : packets_of (concat pieces) ≡ packets_of (concat pieces) ++ []
  reads-nothing = sym (append-nil (packets_of (concat pieces)))

  reads-told : (told : Heard) → IsOctets (concat (taken_as told pieces information))
      → ReadsTold a pieces information end told
  reads-told Nothing octets = record { packets = reads-nothing; rest = rest }
  reads-told Opened octets = record { packets = reads-nothing; rest = rest }
  reads-told Reopened octets = record { packets = reads-nothing; rest = rest }
  reads-told Bytes octets = reads-bytes (reads-on pieces information octets)
  reads-told (Closed why) octets = record { packets = reads-nothing; rest = rest }

-- ---- the job

-- What reaches the client's side makes this of its end of the link, and these entries of the job; and that makes this
-- of the attempt.
pub record Happens (lists last : Lists) (a : Attempted) (o : Outcome) (information : List ℕ) (entries : List JobEntry)
    (now : Attempted) : Type 0 where
  pub comes : Comes information a.end o
  pub now_is : now ≡ after_of lists a o.after information o.heard
  pub doings : List Doing
  pub does : DoesAll o.after doings now.end
  pub said : now.end.pushed ≡ o.after.pushed ++ texts (said_in entries)
  pub items : packets_told o.heard a information ≡ items_in entries
  pub goes : GoesBy lists a.job entries last now.job
  pub told_down : IsToldDown now
  pub silent : a.end.state ≡ Down → o.heard ≡ Nothing

-- what the job needs so that what it says fits
pub record SaysInRange (lists : Lists) (side : ClientSide) : Type 0 where
  pub asked : WorkFits side.asked
  pub go_with : NotesGoWith lists side.attempted.job

-- the side with its job gone on, whose end is this once it has sent all
abbrev pub gone_on : List JobEntry → Attempted → LinkEnd → ClientSide → ClientSide
gone_on entries now end side = record side { attempted = with_end now end; entries = side.entries ++ entries }

module _ (lists last : Lists) (side : ClientSide) (o : Outcome) (information : List ℕ) (entries : List JobEntry)
    (now : Attempted) (end : LinkEnd) (job : IsJob side)
    (says : SaysInRange lists side) (happens : Happens lists last side.attempted o information entries now)
    (keeps : KeepsStreams now.end end) where
  came : end.taken ≡ taken_as o.heard side.attempted.end.taken information
  came = keeps.taken ∙ does-taken o.after now.end happens.doings happens.does ∙ happens.comes.taken

  working : KeepsWorking now
  working =
      let a : Attempted = side.attempted in
      let before : KeepsWorking a = record { closed = job.closed; working = job.working } in
      subst KeepsWorking (sym happens.now_is)
      (keeps-working lists a o.after information before job.told_down o.heard happens.comes.state happens.silent)

  pub job-goes-on : IsOctets (concat end.taken) → IsJob (gone_on entries now end side)
  job-goes-on octets =
      let reads = reads-told side.attempted side.attempted.end.taken information o.after job.rest o.heard
      (subst (λ (pieces : List (List ℕ)). IsOctets (concat pieces)) came octets) in
      let all = ap (λ (pieces : List (List ℕ)). concat pieces) came in
      record {
        begun = job.begun;
        reached =
            reaches-then (new_job side.asked) side.attempted.job now.job side.entries entries job.reached
            (reaches-by lists last side.attempted.job now.job entries happens.goes);
        packets =
            ap (λ (text : List ℕ). packets_of text) all ∙ reads.packets
            ∙ ap₂ (λ (xs ys : List Item). xs ++ ys) job.packets happens.items
            ∙ sym (items-then side.entries entries);
        rest =
            ap (λ (a : Attempted). a.rest) happens.now_is ∙ rest-kept lists side.attempted o.after information o.heard
            ∙ reads.rest ∙ ap (λ (text : List ℕ). rest_of text) (sym all);
        said =
            keeps.pushed ∙ happens.said ∙ ap (λ (text : List ℕ). text ++ texts (said_in entries))
            (happens.comes.pushed ∙ job.said) ∙ sym (texts-then side.entries entries);
        fits =
            subst (λ (packets : List PacketValue). AllByRecursion Fits packets) (sym (said-then side.entries entries))
            (each-append Fits (said_in side.entries) (said_in entries) job.fits
            (entries-fit lists last side.attempted.job now.job entries happens.goes
            (reached-fits (new_job side.asked) side.attempted.job side.entries job.reached says.asked)
            says.go_with));
        told_down = λ why is. keeps.state ∙ happens.told_down why is;
        closed = working.closed;
        working = λ none. subst (λ (s : LinkState). CallsOrUp s) (sym keeps.state) (working.working none);
      }
