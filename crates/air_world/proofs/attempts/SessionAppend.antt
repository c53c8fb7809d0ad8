-- A session goes on by the entries of a frame.
use Rattle.std.proofs.Common.{◌≡◌, ℕ, List, [], ◌∷◌, ◌++◌, Bool, true, false, refl, sym, ap, ap₂, subst, ◌∙◌}
use Rattle.std.proofs.Common.{append_assoc, append-nil}
use Rattle.ftl0_server.specs.Connection.Hearing.{with_end}
use Rattle.ftl0_server.specs.Entries as session
use Rattle.ftl0_server.specs.Entries.{GoesBy, packets_told}
use Rattle.air_world.proofs.attempts.Names.{AllByRecursion, concat, flat_map-append, CallSign, IsOctets, FrameValue, texts, Fits, Item, packets_of, rest_of, texts-append, Heard, Nothing, Opened, Reopened, Bytes, Closed, Up, LinkEnd, after_frame, heard_of, is_call, Drains, Window, Store, CallerList, Session, session_over, State, command, Connected, caller_of, Happened, hearing, rest_as, HeardBy, IsNotLost, SessionEntry, after_row, session_after, IsSession, ServerSide, SessionReaches, said_by_server}
use Rattle.air_world.proofs.attempts.LinkKeeps.{IsNoReopening, does-taken, drains-keep, frame-brings, taken_as}
use Rattle.air_world.proofs.attempts.PacketLists.{reads-on}
use Rattle.air_world.proofs.attempts.ListLemmas.{each-append}

-- ---- entries after others

pub reaches-then : (caller : CallSign) (state mid now : State) (some more : List SessionEntry)
    → AllByRecursion IsNotLost some
    → SessionReaches caller state some mid → SessionReaches caller mid more now
    → SessionReaches caller state (some ++ more) now
reaches-then caller state mid now [] more all first second =
    subst (λ (s : State). SessionReaches caller s more now) first second
reaches-then caller state mid now (session.took item row ∷ some) more all first second =
    (first.0, reaches-then caller row.state mid now some more all.1 first.1 second)
reaches-then caller state mid now (session.lost item row ∷ some) more all first second = absurd all.0
reaches-then caller state mid now (session.queued due ∷ some) more all first second =
    (first.0, reaches-then caller due.state mid now some more all.1 first.1 second)

-- entries that follow from the store and the lists of a moment
pub goes-reaches : (caller : CallSign) (moment : ℕ) (before now : Session) (entries : List SessionEntry)
    → GoesBy caller moment before entries now
    → SessionReaches caller before.state entries now.state
goes-reaches caller moment before now [] goes = ap (λ (s : Session). s.state) goes
goes-reaches caller moment before now (session.took item row ∷ entries) goes =
    ((moment, before.store, before.lists, goes.0), goes-reaches caller moment (after_row before row) now entries goes.1)
goes-reaches caller moment before now (session.lost item row ∷ entries) goes =
    ((moment, before.store, before.lists, goes.0), goes.1, ap (λ (s : Session). s.state) goes.2)
goes-reaches caller moment before now (session.queued due ∷ entries) goes =
    ((before.store, goes.0), goes-reaches caller moment (record before { state = due.state }) now entries goes.1)

pub none-lost-second : (some more : List SessionEntry) → AllByRecursion IsNotLost (some ++ more)
    → AllByRecursion IsNotLost more
none-lost-second [] more all = all
none-lost-second (one ∷ some) more all = none-lost-second some more all.1

items-then : (some more : List SessionEntry)
    → session.items_in (some ++ more) ≡ session.items_in some ++ session.items_in more
items-then some more = flat_map-append session.items_of some more

said-then : (some more : List SessionEntry)
    → session.said_in (some ++ more) ≡ session.said_in some ++ session.said_in more
said-then some more = flat_map-append session.packets_said some more

-- ---- what is read

-- the packets and the rest of the octets that came, once the link reported this of a frame
record ReadsTold (told : Heard) (c : Connected) (taken : List (List ℕ)) (octets : List ℕ) : Type 0 where
  packets : packets_of (concat (taken_as told taken octets)) ≡ packets_of (concat taken) ++ packets_told told c octets
  rest : rest_as told c octets ≡ rest_of (concat (taken_as told taken octets))

reads-none : (told : Heard) (c : Connected) (taken : List (List ℕ)) (octets : List ℕ)
    → taken_as told taken octets ≡ taken → packets_told told c octets ≡ []
    → rest_as told c octets ≡ c.rest → c.rest ≡ rest_of (concat taken) → ReadsTold told c taken octets
reads-none told c taken octets same none stays rest = record {
  packets =
      ap (λ (t : List (List ℕ)). packets_of (concat t)) same ∙ sym (append-nil (packets_of (concat taken)))
      ∙ ap (λ (items : List Item). packets_of (concat taken) ++ items) (sym none);
  rest = stays ∙ rest ∙ ap (λ (t : List (List ℕ)). rest_of (concat t)) (sym same);
}

reads-told : (told : Heard) (c : Connected) (taken : List (List ℕ)) (octets : List ℕ) → IsNoReopening told
    → c.rest ≡ rest_of (concat taken)
    → IsOctets (concat (taken_as told taken octets)) → ReadsTold told c taken octets
reads-told Nothing c taken octets on rest are = reads-none Nothing c taken octets refl refl refl rest
reads-told Opened c taken octets on rest are = reads-none Opened c taken octets refl refl refl rest
reads-told Reopened c taken octets on rest are = absurd on
reads-told (Closed why) c taken octets on rest are = reads-none (Closed why) c taken octets refl refl refl rest
reads-told Bytes c taken octets on rest are =
    let read = reads-on taken octets are in
    record {
      packets = read.packets
          ∙ ap (λ (left : List ℕ). packets_of (concat taken) ++ packets_of (left ++ octets)) (sym rest);
      rest = ap (λ (left : List ℕ). rest_of (left ++ octets)) rest ∙ sym read.rest;
    }

-- ---- a frame

-- the session gone on by these entries, with this end of its link, and up or over
abbrev pub gone_by : ServerSide → Happened → LinkEnd → List SessionEntry → Bool → ServerSide
gone_by side happened last entries up =
    record side { connected = with_end happened.after last; entries = side.entries ++ entries; is_up = up }

module _ (w : Window) (moment : ℕ) (store : Store) (lists : List CallerList) (frame : FrameValue) (side : ServerSide)
    (entries : List SessionEntry) where
  abbrev c : Connected
  c = side.connected

  abbrev happened : Happened
  happened = hearing w moment store lists c frame []

  -- What the frame makes of the session's connection, whose link then sends these frames.
  pub record HearsOn (frames : List FrameValue) (last : LinkEnd) (up : Bool) : Type 0 where
    pub is_up : side.is_up ≡ true
    pub state : side.connected.end.state ≡ Up
    pub other : is_call frame.kind.control ≡ false
    pub heard : HeardBy w frame side.connected (hearing w moment store lists side.connected frame []) entries
    pub goes :
        GoesBy (caller_of side.connected) moment (session_over store lists side.connected.state) entries
        (session_after store (hearing w moment store lists side.connected frame []))
    pub drains : Drains w (hearing w moment store lists side.connected frame []).after.end frames last
    pub peer : last.peer ≡ side.connected.end.peer
    pub octets : IsOctets (concat last.taken)
    pub goes_on : up ≡ true → (hearing w moment store lists side.connected frame []).over ≡ false

  module _ (frames : List FrameValue) (last : LinkEnd) (up : Bool) (is : IsSession side) (h : HearsOn frames last up)
    where
      taken-is : last.taken ≡ taken_as (heard_of w c.end frame) c.end.taken frame.kind.information
      taken-is =
          (drains-keep w happened.after.end last frames h.drains).taken
          ∙ does-taken (after_frame w c.end frame) happened.after.end h.heard.doings h.heard.does
          ∙ (frame-brings frame w c.end h.state h.other).taken

      read : ReadsTold (heard_of w c.end frame) c c.end.taken frame.kind.information
      read =
          reads-told (heard_of w c.end frame) c c.end.taken frame.kind.information
          (frame-brings frame w c.end h.state h.other).goes_on is.rest
          (subst (λ (t : List (List ℕ)). IsOctets (concat t)) taken-is h.octets)

      none : AllByRecursion IsNotLost side.entries
      none = is.none_lost h.is_up

      -- all packets that came before were taken
      before : packets_of (concat c.end.taken) ≡ session.items_in side.entries
      before = is.packets ∙ ap (λ (u : List Item). session.items_in side.entries ++ u) (is.all none)
          ∙ append-nil (session.items_in side.entries)

      -- the packets of all octets that came, followed by those that the session didn't take
      pub packets-are : packets_of (concat last.taken) ≡ session.items_in (side.entries ++ entries) ++ h.heard.unread
      packets-are =
          ap (λ (t : List (List ℕ)). packets_of (concat t)) taken-is ∙ read.packets
          ∙ ap₂ (λ (one two : List Item). one ++ two) before h.heard.packets
          ∙ sym (append_assoc (session.items_in side.entries) (session.items_in entries) h.heard.unread)
          ∙ ap (λ (items : List Item). items ++ h.heard.unread) (sym (items-then side.entries entries))

      pushed-is : last.pushed ≡ texts (said_by_server (gone_by side happened last entries up))
      pushed-is =
          (drains-keep w happened.after.end last frames h.drains).pushed ∙ h.heard.said
          ∙ ap (λ (octets : List ℕ). octets ++ texts (session.said_in entries))
          ((frame-brings frame w c.end h.state h.other).pushed ∙ is.said)
          ∙ sym (texts-append (said_by_server side) (session.said_in entries))
          ∙ ap (λ said. texts (side.greeting ∷ said)) (sym (said-then side.entries entries))

      pub session-goes-on : AllByRecursion Fits (session.said_in entries)
          → IsSession (gone_by side happened last entries up)
      session-goes-on fits = record {
        reached =
            subst (λ (caller : CallSign). SessionReaches caller command (side.entries ++ entries) happened.after.state)
            (sym h.peer)
            (reaches-then (caller_of c) command c.state happened.after.state side.entries entries none is.reached
            (goes-reaches (caller_of c) moment (session_over store lists c.state) (session_after store happened) entries
            h.goes));
        unread = h.heard.unread;
        packets = packets-are;
        all = λ all. h.heard.all (none-lost-second side.entries entries all);
        none_lost = λ still. each-append IsNotLost side.entries entries none (h.heard.none_lost (h.goes_on still));
        rest = read.rest ∙ ap (λ (t : List (List ℕ)). rest_of (concat t)) (sym taken-is);
        said = pushed-is;
        greets = is.greets;
        fits = (
          is.fits.0,
          subst (AllByRecursion Fits) (sym (said-then side.entries entries))
              (each-append Fits (session.said_in side.entries) (session.said_in entries) is.fits.1 fits),
        );
      }
