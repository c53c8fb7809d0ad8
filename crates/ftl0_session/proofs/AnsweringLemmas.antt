-- The answer to a packet while it is sent: its parts whose reads failed, what is due of it, and how much is left.
use Rattle.std.proofs.Common.{◌≡◌, ℕ, suc, List, [], ◌∷◌, ◌+◌, ◌++◌, ◌==◌, ◌<◌, ◌≤◌, length, take, Bool, true, false, ◌&&◌, ◌||◌, Option, None, Some, refl, ap, ap₂, sym, ◌∙◌, subst, append-nil, append_assoc, length-append, length-drop, arith}
use Rattle.std.specs.Prelude.{if◌then◌else◌}
use Rattle.ftl0_session.specs.declared.uploads.phase.Phase.TheVariants as phase
use Rattle.ftl0_session.specs.Answering.{IsAnswering, SendsSome, SendsTo, met_with, octets_left}
use Rattle.ftl0_session.specs.Downloads.Sending as due
use Rattle.ftl0_session.specs.Run.{Sends}
use Rattle.ftl0_session.specs.SessionState.{SessionState}
use Rattle.ftl0_session.specs.Table.{session_row}
use Rattle.ftl0_session.proofs.Names.{option_map, nat_tests, CallSign, PacketValue, data_end, data_part, dl_error_resp, Command, after_all, StoreState, Store, Phase, CallerList, Event as Heard, IsDueIn, is_due, is_read, octets_due, state_after, state_at_end, DownloadState, listing, ready, sending, waiting, RunsOver, Session, event_row, session_over, state_in, DuePacket, Row, State, download_part, due_at, in_session, next_due, state_by, Failure, failed_reads, read_fails, state_of}
use Rattle.ftl0_session.proofs.RowLemmas.{download_part-is}
use Rattle.ftl0_session.proofs.downloads.DueLemmas.{octets_due-after}
use Rattle.ftl0_session.proofs.downloads.SentLemmas.{is_due-after}

-- ---- parts whose reads failed

-- with this part, if its read failed
abbrev pub with_part : Bool → ℕ → List ℕ → List ℕ
with_part true part parts = part ∷ parts
with_part false part parts = parts

-- no other part is listed by that
with-other : (fails : Bool) (part : ℕ) (parts : List ℕ) (number : ℕ) → (part == number) ≡ false → read_fails (failed_reads (with_part fails part parts)) number ≡ read_fails (failed_reads parts) number
with-other true part parts number other = ap (λ (b : Bool). (b && true) || read_fails (failed_reads parts) number) other
with-other false part parts number other = refl

-- it is if its read failed, and only then
with-here : (fails : Bool) (part : ℕ) (parts : List ℕ) → read_fails (failed_reads parts) part ≡ false → read_fails (failed_reads (with_part fails part parts)) part ≡ fails
with-here true part parts free =
    let same : (part == part) ≡ true = grind (arith, nat_tests) in
    ap (λ (b : Bool). (b && true) || read_fails (failed_reads parts) part) same
with-here false part parts free = free

-- ---- packets that are sent one after another

module _ (store : Store) (failures others : List Failure) where
  -- what is due if these list the same reads
  due-same : (state : State) (part : ℕ) (o : Option DuePacket) → read_fails failures part ≡ read_fails others part → due_at store state failures part ≡ o → due_at store state others part ≡ o
  due-same state part o same is = ap (λ (b : Bool). next_due store state b) (sym same) ∙ is

  to-same : (state : State) (part : ℕ) (sent : List PacketValue) (now : State) → ((number : ℕ) → part ≤ number → number < part + length sent → read_fails failures number ≡ read_fails others number)
      → SendsTo store state failures part sent now → SendsTo store state others part sent now
  to-same state part [] now same to = to
  to-same state part (packet ∷ sent) now same to = (
    to.0,
    due-same state part _ (same part (omega arith) (omega arith)) to.1,
    to-same to.0 (suc part) sent now (λ number low high. same number (omega (arith, low)) (omega (arith, high))) to.2,
  )

module _ (store : Store) (failures : List Failure) where
  -- one packet more
  to-more : (state : State) (part : ℕ) (sent : List PacketValue) (mid : State) (number : ℕ) (next : DuePacket) → number ≡ part + length sent → SendsTo store state failures part sent mid
      → due_at store mid failures number ≡ Some next → SendsTo store state failures part (sent ++ next.packet ∷ []) next.state
  to-more state part [] mid number next at to is =
      let first : part ≡ number = omega (arith, at) in
      (next.state, ap₂ (λ (s : State) (n : ℕ). due_at store s failures n) (sym to) first ∙ is, refl)
  to-more state part (packet ∷ sent) mid number next at to is = (to.0, to.1, to-more to.0 (suc part) sent mid number next (omega (arith, at)) to.2 is)

  -- nothing more is due
  to-all : (state : State) (part : ℕ) (sent : List PacketValue) (now : State) → ((fails : Bool) → next_due store now fails ≡ None) → SendsTo store state failures part sent now
      → Sends store state failures part sent now
  to-all state part [] now none to = (to, ap (λ (s : State). due_at store s failures part) (sym to) ∙ none (read_fails failures part))
  to-all state part (packet ∷ sent) now none to = (to.0, to.1, to-all to.0 (suc part) sent now none to.2)

  -- more may be
  to-some : (state : State) (part : ℕ) (sent : List PacketValue) (now : State) → SendsTo store state failures part sent now → SendsSome store state failures part sent
  to-some state part [] now to = tt
  to-some state part (packet ∷ sent) now to = (to.0, to.1, to-some to.0 (suc part) sent now to.2)

-- ---- the answer to a packet

not-here : (number n : ℕ) → n < number → (number == n) ≡ false
not-here number n low = grind (arith, nat_tests)

not-there : (number n : ℕ) → number < n → (number == n) ≡ false
not-there number n high = grind (arith, nat_tests)

module _ (caller : CallSign) (start : Session) (event : Heard) where
  -- the row by whether a read fails at the packet itself
  pub row-first : (fails : Bool) → event_row caller start.store start.lists start.state (met_with event (with_part fails 0 [])) ≡ session_row caller event.moment start.store start.lists start.state event.packet fails
  row-first fails = ap (λ (b : Bool). session_row caller event.moment start.store start.lists start.state event.packet b) (with-here fails 0 [] refl)

  pub answer-first : (fails : Bool) (lists : List CallerList) (state : State) → (let row : Row = session_row caller event.moment start.store start.lists start.state event.packet fails in
      lists ≡ row.lists → state ≡ row.state → IsAnswering caller start event row.replies row.commands lists state)
  answer-first fails lists state lists_are state_is = record {
    parts = with_part fails 0 [];
    row = _;
    is_row = row-first fails;
    sent = [];
    none_later = λ n later. with-other fails 0 [] n (not-there 0 n (omega (arith, later)));
    sends = state_is;
    said_is = sym (append-nil _);
    commands_are = refl;
    lists_are = lists_are;
  }

  module _ (said : List PacketValue) (commands : List Command) (lists : List CallerList) (state : State) (h : IsAnswering caller start event said commands lists state) where
    abbrev then_is : Store
    then_is = after_all start.store h.row.commands

    -- the next packet of it, which is due
    pub answer-more : (fails : Bool) (next : DuePacket) → next_due (after_all start.store commands) state fails ≡ Some next → IsAnswering caller start event (said ++ next.packet ∷ []) commands lists next.state
    answer-more fails next is =
        let number : ℕ = 1 + length h.sent in
        let parts : List ℕ = with_part fails number h.parts in
        let other : (n : ℕ) → (number == n) ≡ false → read_fails (failed_reads parts) n ≡ read_fails (failed_reads h.parts) n = λ n not. with-other fails number h.parts n not in
        let longer : length (h.sent ++ next.packet ∷ []) ≡ length h.sent + 1 = length-append h.sent (next.packet ∷ []) in
        record {
          parts = parts;
          row = h.row;
          is_row = ap (λ (b : Bool). session_row caller event.moment start.store start.lists start.state event.packet b) (other 0 (not-here number 0 (omega arith))) ∙ h.is_row;
          sent = h.sent ++ next.packet ∷ [];
          none_later = λ n later. other n (not-there number n (omega (arith, later, longer))) ∙ h.none_later n (omega (arith, later, longer));
          sends =
              to-more then_is (failed_reads parts) h.row.state 1 h.sent state number next refl
              (to-same then_is (failed_reads h.parts) (failed_reads parts) h.row.state 1 h.sent state (λ n low high. sym (other n (not-here number n (omega (arith, high))))) h.sends)
              (ap₂ (λ (b : Bool) (cs : List Command). next_due (after_all start.store cs) state b) (with-here fails number h.parts (h.none_later number (omega arith))) (sym h.commands_are) ∙ is);
          said_is = ap (λ (ps : List PacketValue). ps ++ next.packet ∷ []) h.said_is ∙ append_assoc h.row.replies h.sent (next.packet ∷ []);
          commands_are = h.commands_are;
          lists_are = h.lists_are;
        }

    -- all of it
    pub answer-all : (now : Store) → now ≡ after_all start.store commands → ((fails : Bool) → next_due now state fails ≡ None)
        → RunsOver caller start (met_with event h.parts ∷ []) said commands (session_over now lists state)
    answer-all now is none =
        let store : now ≡ then_is = is ∙ ap (after_all start.store) h.commands_are in (
          h.row,
          h.sent,
          state,
          [],
          [],
          h.is_row,
          to-all then_is (failed_reads h.parts) h.row.state 1 h.sent state (λ fails. ap (λ s. next_due s state fails) (sym store) ∙ none fails) h.sends,
          h.said_is ∙ ap (λ (ps : List PacketValue). h.row.replies ++ ps) (sym (append-nil h.sent)),
          h.commands_are ∙ sym (append-nil h.row.commands),
          (refl, refl, store, h.lists_are, refl),
        )

    -- some of what is due
    pub answer-some : SendsSome then_is h.row.state (failed_reads h.parts) 1 h.sent
    answer-some = to-some then_is (failed_reads h.parts) h.row.state 1 h.sent state h.sends

-- ---- how much is left

pub left-some : (store : Store) (state : DownloadState) → is_due state ≡ true → octets_left store state ≡ suc (length (octets_due store state))
left-some store state is = ap (λ (b : Bool). if b then suc (length (octets_due store state)) else 0) is

pub left-end : (store : Store) (state : DownloadState) → octets_left store (state_at_end state) ≡ 0
left-end store ready = refl
left-end store (sending number place last) = refl
left-end store waiting = refl
left-end store (listing dues) = refl

pub left-after : (store : Store) (state : DownloadState) → is_due state ≡ true → IsDueIn store state → (length (octets_due store state) == 0) ≡ false
    → octets_left store (state_after 254 state) < suc (length (octets_due store state))
left-after store state is lies test =
    let some : 0 < length (octets_due store state) = grind (arith, nat_tests, test) in
    omega (
      arith,
      some,
      left-some store (state_after 254 state) (is_due-after state 254 ∙ is),
      ap (λ (l : List ℕ). length l) (octets_due-after store state 254 lies),
      length-drop 254 (octets_due store state),
    )

-- each packet that is sent leaves less
packet-smaller : (store : Store) (state : DownloadState) (fails : Bool) → is_due state ≡ true → IsDueIn store state → octets_left store (due.due_packet store state fails).state < octets_left store state
packet-smaller store state fails is lies = by (length (octets_due store state) == 0) (fails && is_read state) refl
  where
    by : (none missed : Bool) → (length (octets_due store state) == 0) ≡ none
        → (let next : due.DuePacket =
        if none then record { packet = data_end; state = state_at_end state } else if missed then record { packet = dl_error_resp 3; state = ready }
        else record { packet = data_part (take 254 (octets_due store state)); state = state_after 254 state } in
        octets_left store next.state < octets_left store state)
    by true missed test = omega (arith, left-end store state, left-some store state is)
    by false true test = omega (arith, left-some store state is)
    by false false test = omega (arith, left-after store state is lies test, left-some store state is)

due-smaller : (store : Store) (state : DownloadState) (fails : Bool) (next : DuePacket) → IsDueIn store state → option_map in_session (due.next_due store state fails) ≡ Some next
    → octets_left store (download_part next.state) < octets_left store state
due-smaller store state fails next lies is = by (is_due state) refl is
  where
    by : (b : Bool) → is_due state ≡ b → option_map in_session (if b then Some (due.due_packet store state fails) else None) ≡ Some next
        → octets_left store (download_part next.state) < octets_left store state
    by false free none = absurd (cc none)
    by true here some =
        let same : in_session (due.due_packet store state fails) ≡ next = cc some in
        let P : DuePacket → Type 0 = λ n. octets_left store (download_part n.state) < octets_left store state in
        let Q : DownloadState → Type 0 = λ s. octets_left store s < octets_left store state in
        subst P same (subst Q (sym (download_part-is (due.due_packet store state fails).state)) (packet-smaller store state fails here lies))

-- what is due of a session lies within complete files
lies-in : (store : Store) (files : StoreState) (here : Phase) (downloads : DownloadState) → IsDueIn store downloads → IsDueIn store (download_part (state_by (state_of files here) downloads))
lies-in store files phase.Command downloads lies = subst (λ (d : DownloadState). IsDueIn store d) (sym (download_part-is downloads)) lies
lies-in store files (phase.Receiving up) downloads lies = tt
lies-in store files phase.Aborting downloads lies = tt

pub smaller : (store : Store) (files : StoreState) (session : SessionState) (fails : Bool) (next : DuePacket) → IsDueIn store session.downloads → next_due store (state_in files session) fails ≡ Some next
    → octets_left store (download_part next.state) < octets_left store (download_part (state_in files session))
smaller store files session fails next lies is = due-smaller store (download_part (state_in files session)) fails next (lies-in store files session.uploads.phase session.downloads lies) is
