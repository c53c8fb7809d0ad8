-- What one side of an attempt took are the first of the packets that the other one said.
use Rattle.std.proofs.Common.{◌≡◌, ℕ, List, ◌++◌, map, Ok, sym, ◌∙◌, ap, subst, append_assoc}
use Rattle.ftl0_server.specs.Entries as session
use Rattle.ftl0_client.specs.Entries as job
use Rattle.air_world.proofs.attempts.Names.{AllByRecursion, concat, map-append, CallSign, IsFront, texts, Fits, Item, PacketValue, packets_of, read_front, Transmission, LinkEnd, AreLinked, prefix_law, Attempt, IsAnswered, IsAttempt, client_station, server_station, FrontLaw, AreFirstOf, ServerSide, said_by_client, said_by_server}
use Rattle.air_world.proofs.attempts.ServerLink.{answered-by, taken-front}

-- a prefix of the texts of packets that fit is read as the first of them
first-read : (packets : List PacketValue) (front : List ℕ) → AllByRecursion Fits packets
    → IsFront front (texts packets) → AreFirstOf (packets_of front) (map Ok packets)
first-read packets front fits is =
    let read = read_front packets front fits is in (
      map Ok read.later,
      ap (λ (l : List PacketValue). map Ok l) read.packets_are ∙ map-append Ok read.first read.later
          ∙ ap (λ (l : List Item). l ++ map Ok read.later) (sym read.read),
    )

-- the first of the first are first
first-of_first : {X : Type 0} (xs ys all some : List X) → AreFirstOf some all → some ≡ xs ++ ys
    → AreFirstOf xs all
first-of_first xs ys all some is same =
    (ys ++ is.0, is.1 ∙ ap (λ (l : List _). l ++ is.0) same ∙ append_assoc xs ys is.0)

-- If the client's end and an end of the server's are linked, the packets of what the latter accepted are the first of
-- what the client said, and so are these, the first of them.
pub took-first : (me server : CallSign) (a : Attempt) (list more : List Transmission) (last : LinkEnd)
    (items unread : List Item) → IsAttempt me server a
    → AreLinked a.window (record { end = a.client.attempted.end; transmissions = list })
    (record { end = last; transmissions = more })
    → packets_of (concat last.taken) ≡ items ++ unread → AreFirstOf items (map Ok (said_by_client a.client))
took-first me server a list more last items unread is linked packets =
    first-of_first items unread (map Ok (said_by_client a.client)) (packets_of (concat last.taken))
    (first-read (said_by_client a.client) (concat last.taken) is.job.fits
    (taken-front me server a list more last is linked)) packets

module _ (me server : CallSign) (a : Attempt) (side : ServerSide) (is : IsAttempt me server a)
    (answered : IsAnswered a side) where
  server-took : AreFirstOf (session.items_in side.entries) (map Ok (said_by_client a.client))
  server-took =
      took-first me server a a.by_client a.by_server side.connected.end (session.items_in side.entries)
      answered.session.unread is answered.linked answered.session.packets

  -- what the client's end accepted is a prefix of what the server's side said
  client-front : IsFront (concat a.client.attempted.end.taken) (texts (said_by_server side))
  client-front =
      subst (IsFront (concat a.client.attempted.end.taken)) answered.session.said
      (prefix_law.front a.window (server_station a side) (client_station a)
      (prefix_law.turned a.window (client_station a) (server_station a side) answered.linked))

  client-took : AreFirstOf (job.items_in a.client.entries) (map Ok (said_by_server side))
  client-took =
      subst (λ (items : List Item). AreFirstOf items (map Ok (said_by_server side))) is.job.packets
      (first-read (said_by_server side) (concat a.client.attempted.end.taken) answered.session.fits client-front)

pub front-law : FrontLaw
front-law me server a side is same =
    let answered = answered-by me server a side is same in
    (server-took me server a side is answered, client-took me server a side is answered)
