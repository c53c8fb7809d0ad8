-- What an event at one place leaves.
use Rattle.std.proofs.Common.{◌≡◌, List, [], Bool, true, false, sym, ◌∙◌, subst, arith}
use Rattle.ftl0_server.specs.Connection.ConnectionState.{Hears}
use Rattle.ftl0_server.proofs.Names.{common_steps, ⊤, Result, Ok, Err, CallSign, Ghosts, Down, SameStations, StandsFor, Window, PacketLinkState, StoreState, CallerList, among-parked, on_parked, Failure, failed_write, KeepsOtherCallers, AtDisk, at, IsOnlyOut, caller_of, working_on, DiskFault, ConnectionState, HearsBy, IsConnection, with_reads, Fate, Ends, Stays, Connected, Happened, GivesUp, IsOver, IsPlace, PlaceHears, PlaceHearsBy, Works, Place, Empty, Talking, SendsAs, connected, left_by, slot_after}
use Rattle.ftl0_server.proofs.connection.HearLemmas.{parks-same}

-- What two events one after another leave of the files of other callers.
pub others-then : (before mid now : StoreState) (caller : CallSign) → KeepsOtherCallers before mid caller → KeepsOtherCallers mid now caller
    → KeepsOtherCallers before now caller
others-then before mid now caller first second = grind (arith, common_steps)

-- If the session is over, its upload is parked, and the link left.
module _ {D : Type 0} (g : Ghosts D) (w : Window) (event : List Failure → Happened) (store mid now : StoreState) (lists : List CallerList) (disk disk_now : D)
    (connection : ConnectionState) (gives_up : GivesUp mid now) (link : PacketLinkState) (same : link.link ≡ connection.link) where
  left : (happened : Happened) → happened.over ≡ true → StandsFor w connection.link happened.after.end → SendsAs w (Empty link) (slot_after happened)
  left happened over stands = subst (λ (b : Bool). SendsAs w (Empty link) (left_by b happened.after)) (sym over) (rw (sym same) at stands)

  heard-over : (result : Result ⊤ DiskFault) → HearsBy g w event (at store disk) (working_on mid lists disk_now) connection Ends result
      → PlaceHearsBy g w event (at store disk) (working_on now lists disk_now) (Empty link) result
  heard-over (Ok done) by = (
    by.0,
    by.1.0,
    (left (event []) by.1.1.0 by.1.1.1, tt),
    among-parked g ⊥ (event []).missed store mid now disk disk_now (event []).done gives_up.entries gives_up.journal by.2,
  )
  heard-over (Err fault) by =
      let then_is : AtDisk StoreState D = by.3.then_is in (
        by.0,
        by.1,
        left (event (failed_write by.0)) by.2.1.0 by.2.1.1,
        record { then_is = then_is; first = by.3.first; second = among-parked g ⊤ 0 then_is.it mid now then_is.disk disk_now (event (failed_write by.0)).cut gives_up.entries gives_up.journal by.3.second },
      )

-- If it goes on, so does the connection.
module _ {D : Type 0} (g : Ghosts D) (w : Window) (event : List Failure → Happened) (store now : StoreState) (lists : List CallerList) (disk disk_now : D)
    (connection : ConnectionState) where
  going : (happened : Happened) → happened.over ≡ false → IsConnection w now connection happened.after
      → IsPlace w now (Talking connection) (slot_after happened)
  going happened over is = grind (arith, common_steps)

  heard-on : (result : Result ⊤ DiskFault) → HearsBy g w event (at store disk) (working_on now lists disk_now) connection Stays result
      → PlaceHearsBy g w event (at store disk) (working_on now lists disk_now) (Talking connection) result
  heard-on (Ok done) by = (by.0, by.1.0, going (event []) by.1.1.0 by.1.1.1, by.2)
  heard-on (Err fault) by = (by.0, by.1, (going (event (failed_write by.0)) by.2.1.0 by.2.1.1).0, by.3)

-- its session is over
pub hears-over : {D : Type 0} (g : Ghosts D) (w : Window) (event : List Failure → Happened) (store mid now : StoreState) (lists : List CallerList) (disk disk_now : D) (connection : ConnectionState)
    (link : PacketLinkState) → link.link ≡ connection.link → (told : Fate × Result ⊤ DiskFault) → GivesUp mid now → told.0 ≡ Ends
    → Hears g w event (at store disk) (working_on mid lists disk_now) connection told → PlaceHears g w event (at store disk) (working_on now lists disk_now) (Empty link) told.1
hears-over g w event store mid now lists disk disk_now connection link same told gives_up ends heard =
    let here : Fate → Type 0 = λ fate. HearsBy g w (with_reads event heard.parts) (at store disk) (working_on mid lists disk_now) connection fate told.1 in
    record {
      parts = heard.parts;
      by = heard-over g w (with_reads event heard.parts) store mid now lists disk disk_now connection gives_up link same told.1 (subst here ends heard.by);
      since = heard.since;
      store = λ fine. on_parked g mid now disk_now gives_up.entries ∙ heard.store fine;
    }

-- it goes on
pub hears-on : {D : Type 0} (g : Ghosts D) (w : Window) (event : List Failure → Happened) (store now : StoreState) (lists : List CallerList) (disk disk_now : D) (connection : ConnectionState)
    (told : Fate × Result ⊤ DiskFault) → told.0 ≡ Stays → Hears g w event (at store disk) (working_on now lists disk_now) connection told
    → PlaceHears g w event (at store disk) (working_on now lists disk_now) (Talking connection) told.1
hears-on g w event store now lists disk disk_now connection told stays heard =
    let here : Fate → Type 0 = λ fate. HearsBy g w (with_reads event heard.parts) (at store disk) (working_on now lists disk_now) connection fate told.1 in
    record {
      parts = heard.parts;
      by = heard-on g w (with_reads event heard.parts) store now lists disk disk_now connection told.1 (subst here stays heard.by);
      since = heard.since;
      store = heard.store;
    }

-- the place that has a connection stands for what that stands for
pub talks-as : (w : Window) (store : StoreState) (place : Place) (connection : ConnectionState) (d : Connected) → place ≡ Talking connection → IsPlace w store place (connected d)
    → IsConnection w store connection d
talks-as w store place connection d is here =
    let talks = subst (λ (p : Place). IsPlace w store p (connected d)) is here in record { link = talks.0; rest = talks.1.rest; state = talks.1.state }

-- an event ends the session at a place
pub works-over : (before mid now : StoreState) (old then : ConnectionState) (link : PacketLinkState) → caller_of then.session ≡ caller_of old.session
    → KeepsOtherCallers before mid (caller_of old.session) → IsOnlyOut mid then.session.uploads → IsOver mid now then → link.link ≡ then.link
    → SameStations old.link then.link → (mid.journal.failed ≡ false → then.link.state ≡ Down) → Works before now (Talking old) (Empty link)
works-over before mid now old then link caller others only over same stations down =
    let gives_up = parks-same mid now then.session.uploads.phase over.parks in grind (arith, common_steps)
