-- What a packet does to the store's disk.
use Rattle.std.proofs.Common.{◌≡◌, ℕ, List, [], ◌∷◌, ◌++◌, refl, ap, sym, ◌∙◌, subst, inl, arith, Bool, true, false, true≢false, Option, Some}
use Rattle.ftl0_session.specs.Uploads.Session.{Row, State}
use Rattle.ftl0_session.specs.Uploads.Taking.{Working}
use Rattle.ftl0_session.proofs.Names.{⊤, Result, Ok, Err, AllByRecursion, Ghosts, texts, ul_nak_resp, at_told, Does-moved, Does-none, Does-same, does-among, in_parked, like_same, on_like, puts-among, puts-among-same, stands_parked, Command, DoesAll, after_all, KeepsComplete, IsStoreLike, Store, Does, outlined_all, IsKnown, IsReady, StoreState, store_in, store_on, CountsSome, DoesAmongReads, PutsAmongReads, one_if, Phase, DiskFault, command, fault_reply, state_of, Says, IsNoFault, Answered, AnsweredAlone, LooksAtNone, MakesAnyway, TakesPacket, row_of, working_at, CallerPacket, at}
use Rattle.ftl0_session.proofs.CauseLemmas.{says-quiet}
use Rattle.ftl0_session.proofs.FaultLemmas.{Silent, upload_codes, uploads-silent}

-- a count that is as it was
counts-none : (before now : ℕ) → now ≡ before → CountsSome before now 0
counts-none before now same = record { no_less = omega (arith, same); rose = inl (omega (arith, same)); same = λ none. same }

pub one-row : (one other : Row) → Some one ≡ Some other → one ≡ other
one-row one other same = cc

-- what a row of the table that no read failed for replies
pub says-row : {D : Type 0} (g : Ghosts D) (disk : D) (packet : CallerPacket) (store : Store) (state : State) (row : Row) (replies : List ℕ) → row_of packet store state false ≡ Some row
    → replies ≡ texts row.replies → Says g disk false replies
says-row g disk packet store state row replies is text =
    says-quiet g disk false row.replies replies refl text
    (at_told (λ (r : Row). Silent r.replies) row is (uploads-silent packet.caller packet.moment store state packet.item))
    (at_told (λ (r : Row). AllByRecursion IsNoFault r.replies) row is (upload_codes packet.caller packet.moment store state packet.item))

-- a row with these commands
abbrev pub HasRow : Option Row → List Command → Type 0
HasRow given commands = (row : Row) × (given ≡ Some row) × (commands ≡ row.commands)

-- a row with these commands, this state and these replies
abbrev pub GivesRow : Option Row → List Command → State → List ℕ → Type 0
GivesRow given commands next replies = (row : Row) × (given ≡ Some row) × (commands ≡ row.commands) × (next ≡ row.state) × (replies ≡ texts row.replies)

module _ {D : Type 0} (g : Ghosts D) (packet : CallerPacket) (state : State) (before : StoreState) (disk : D) (ready : IsReady g before disk) where
  abbrev here : Working
  here = record { store = before; state = state }

  module _ (next : State) (now : StoreState) (disk_now : D) (replies : List ℕ) where
    -- commands are done, among reads of which one failed or none
    pub takes-among : (P : Type 0) (fails : Bool) (commands : List Command) → ¬ P → PutsAmongReads g P disk disk_now → CountsSome (g.read_faults disk) (g.read_faults disk_now) (one_if fails)
        → (IsKnown g disk → DoesAmongReads g ⊥ (one_if fails) before now disk disk_now commands)
        → (gives : IsKnown g disk → GivesRow (row_of packet (store_on g before disk) state fails) commands next replies)
        → ((known : IsKnown g disk) → fails ≡ true → (gives known).0.replies ≡ ul_nak_resp 3 ∷ []) → (fails ≡ false → commands ≡ [] → disk_now ≡ disk)
        → ((row : Row) → LooksAtNone packet here row → (fails ≡ false) × MakesAnyway g row (at here disk) (at (record { store = now; state = next }) disk_now) replies (Ok tt))
        → Says g disk fails replies
        → TakesPacket g packet (working_at (at before disk) state) (working_at (at now disk_now) next) replies (Ok tt)
    takes-among P fails commands fine puts reads does gives told untouched anyway says = record {
      fails = fails;
      stopped = tt;
      makes = λ known.
          let row = gives known in
          let done = does known in (
            row.0,
            row.1,
            record {
              told = told known;
              answers = (
                subst (λ (cs : List Command). DoesAll (store_on g before disk) (store_on g now disk_now) cs) row.2 (done.allowed known, (done.done (λ never. never)).0 known),
                row.3,
                row.4,
              );
              on_disk = subst (λ (cs : List Command). DoesAmongReads g ⊥ (one_if fails) before now disk disk_now cs) row.2 done;
              untouched = λ ok none. untouched ok (row.2 ∙ none);
            },
          );
      reads = reads;
      puts = puts-among-same g P _ disk disk_now (λ p. absurd (fine p)) (λ e. cc e) puts;
      anyway = anyway;
      says = says;
    }

    -- commands are done, and nothing is read: the row is the same over each store that is so
    pub takes-done : (P : Type 0) (commands : List Command) → ¬ P → Does g P before now disk disk_now commands
        → store_in now ≡ after_all (store_in before) (outlined_all commands)
        → ((files : Store) → IsStoreLike (store_in before) files → GivesRow (row_of packet files state false) commands next replies)
        → TakesPacket g packet (working_at (at before disk) state) (working_at (at now disk_now) next) replies (Ok tt)
    takes-done P commands fine does memory gives =
        let done : DoesAmongReads g ⊥ 0 before now disk disk_now commands = does-among g ⊥ before now disk disk_now commands (Does-same g P ⊥ before now disk disk_now commands fine (λ never. absurd never) does) in
        let told = gives (store_in before) (like_same (store_in before)) in
        takes-among P false commands fine (puts-among g P disk disk_now does.puts) (counts-none _ _ does.puts.reads) (λ known. done)
        (λ known. gives (store_on g before disk) (on_like g before disk ready known)) (λ known failed. absurd (true≢false (sym failed))) (λ ok none. does.none none)
        (λ row looks.
        let is : told.0 ≡ row = one-row told.0 row (sym told.1 ∙ looks false) in (
          refl,
          record {
            answers = (told.3 ∙ ap (λ (r : Row). r.state) is, told.4 ∙ ap (λ (r : Row). texts r.replies) is);
            on_disk = subst (λ (cs : List Command). DoesAmongReads g ⊥ 0 before now disk disk_now cs) (told.2 ∙ ap (λ (r : Row). r.commands) is) done;
            memory = memory ∙ ap (λ (cs : List Command). after_all (store_in before) (outlined_all cs)) (told.2 ∙ ap (λ (r : Row). r.commands) is);
          },
        )) (says-row g disk packet (store_in before) state told.0 replies told.1 told.4)

    -- the disk failed in one of them
    pub takes-fault : {fault : DiskFault} (P : Type 0) (commands : List Command) → P → PutsAmongReads g P disk disk_now → CountsSome (g.read_faults disk) (g.read_faults disk_now) 0
        → (IsKnown g disk → DoesAmongReads g ⊤ 0 before now disk disk_now commands) → (IsKnown g disk → HasRow (row_of packet (store_on g before disk) state false) commands)
        → (commands ≡ [] → disk_now ≡ disk) → next ≡ command → replies ≡ texts (fault_reply state ∷ [])
        → ((row : Row) → LooksAtNone packet here row → MakesAnyway g row (at here disk) (at (record { store = now; state = next }) disk_now) replies (Err fault))
        → TakesPacket g packet (working_at (at before disk) state) (working_at (at now disk_now) next) replies (Err fault)
    takes-fault P commands failed puts reads does rows untouched waits text anyway = record {
      fails = false;
      stopped = (refl, waits, text);
      makes = λ known.
          let row = rows known in (
            row.0,
            row.1,
            record {
              told = λ never. absurd (true≢false (sym never));
              answers = tt;
              on_disk = subst (λ (cs : List Command). DoesAmongReads g ⊤ 0 before now disk disk_now cs) row.2 (does known);
              untouched = λ ok none. untouched (row.2 ∙ none);
            },
          );
      reads = reads;
      puts = puts-among-same g P _ disk disk_now (λ p. refl) (λ e. failed) puts;
      anyway = λ row looks. (refl, anyway row looks);
      says = tt;
    }

    -- the same if nothing is read
    pub takes-cut : {fault : DiskFault} (P : Type 0) (commands : List Command) → P → Does g P before now disk disk_now commands
        → ((files : Store) → IsStoreLike (store_in before) files → HasRow (row_of packet files state false) commands)
        → next ≡ command → replies ≡ texts (fault_reply state ∷ []) → TakesPacket g packet (working_at (at before disk) state) (working_at (at now disk_now) next) replies (Err fault)
    takes-cut P commands failed does rows waits text =
        let done : DoesAmongReads g ⊤ 0 before now disk disk_now commands = does-among g ⊤ before now disk disk_now commands (Does-same g P ⊤ before now disk disk_now commands (λ p. tt) (λ t. failed) does) in
        let told = rows (store_in before) (like_same (store_in before)) in
        takes-fault P commands failed (puts-among g P disk disk_now does.puts) (counts-none _ _ does.puts.reads) (λ known. done) (λ known. rows (store_on g before disk) (on_like g before disk ready known)) does.none
        waits text
        (λ row looks.
        let is : told.0 ≡ row = one-row told.0 row (sym told.1 ∙ looks false) in
        record { answers = tt; on_disk = subst (λ (cs : List Command). DoesAmongReads g ⊤ 0 before now disk disk_now cs) (told.2 ∙ ap (λ (r : Row). r.commands) is) done; memory = tt })

  -- a packet that leaves the disk alone
  answered-by : (now : StoreState) (replies : List ℕ) (phase : Phase) → g.lasts disk disk → AnsweredAlone packet state before now replies (phase, Ok tt)
      → Answered g packet state (at before disk) (at now disk) replies (phase, Ok tt)
  answered-by now replies phase lasts alone =
      let same : store_in now ≡ store_in before = in_parked before now alone.files in
      let does : Does g ⊥ before now disk disk [] = Does-moved g ⊥ before before before now disk disk [] refl refl alone.files alone.journal (Does-none g ⊥ before disk (λ never. never) ready lasts) in
      record {
        takes =
            takes-done (state_of now phase) now disk replies ⊥ [] (λ never. never) does same
            (λ files like. let row = alone.gives files like in (row.0, row.1, sym row.2, row.3, row.4));
        failed = λ e. absurd (cc e);
        healthy = λ fine. (does.done (λ never. never)).1;
        stands_on = stands_parked g before now disk alone.files alone.journal ready.stands_on;
        held = alone.held;
        only = alone.only;
        others = alone.others;
        kept = subst (λ (s : Store). KeepsComplete (store_in before) s) (sym same) (λ number entry found whole. found);
      }

  pub answered-alone : (now : StoreState) (replies : List ℕ) (taken : Phase × Result ⊤ DiskFault) → g.lasts disk disk → AnsweredAlone packet state before now replies taken
      → Answered g packet state (at before disk) (at now disk) replies taken
  answered-alone now replies taken lasts alone =
      let P : Result ⊤ DiskFault → Type 0 = λ r. AnsweredAlone packet state before now replies (taken.0, r) → Answered g packet state (at before disk) (at now disk) replies (taken.0, r) in
      subst P (sym alone.answered) (answered-by now replies taken.0 lasts) alone

-- a list with one more at its end is another
pub more-at_end : (commands : List Command) (last : Command) → commands ++ last ∷ [] ≡ commands → ⊥
more-at_end [] last same = cc
more-at_end (first ∷ commands) last same = more-at_end commands last (cc)

-- a list with one at its end isn't empty
pub some-at_end : (commands : List Command) (last : Command) → commands ++ last ∷ [] ≡ [] → ⊥
some-at_end [] last none = cc
some-at_end (first ∷ commands) last none = cc
