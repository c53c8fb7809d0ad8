use Rattle.std.proofs.Common.{sym, ap, ◌∙◌, subst, IfOk}
use Rattle.air_schedule.specs.declared.event.Event.{Event as StoredEvent}
use Rattle.air_rehearsal.specs.declared.part.Part.TheVariants as part
use Rattle.air_rehearsal.proofs.Names.{event_value, ComesAlways}
use Rattle.air_rehearsal.proofs.Comes.{download_comes, hear_comes, list_comes, tick_comes}
use Rattle.air_rehearsal.proofs.PlayParts.{if_ok, number_at}
use Rattle.air_rehearsal.proofs.stations.Stations.part_of.Goals as goal

pub returns-in_ok-tokens-in-AskList : goal.returns-in_ok-tokens-in-AskList
returns-in_ok-tokens-in-AskList c =
    subst
    (λ (e : StoredEvent). IfOk c.part_at.result (λ it. ComesAlways c.args.self.now (event_value e) it.0 it.1))
    (sym c.in-AskList.is)
    (if_ok c.part_at.result _ _ c.part_at.ensures
    (λ it is.
    list_comes c.args.self.now c.in-AskList.client it.0 c.in-AskList.tokens.items it.1 is.0
    (is.1 ∙ ap part.List (c.in_ok-tokens-in-AskList.ensures ∙ c.as_slice.ensures.value))))

pub returns-in-AskDownload : goal.returns-in-AskDownload
returns-in-AskDownload c =
    subst
    (λ (e : StoredEvent).
    IfOk c.part_at-in-AskDownload.result (λ it. ComesAlways c.args.self.now (event_value e) it.0 it.1))
    (sym c.in-AskDownload.is)
    (if_ok c.part_at-in-AskDownload.result _ _ c.part_at-in-AskDownload.ensures
    (λ it is.
    download_comes c.args.self.now c.in-AskDownload.client it.0 c.in-AskDownload.number it.1 is.0
    (is.1 ∙ ap part.Download c.new.ensures)))

pub returns-in-Some : goal.returns-in-Some
returns-in-Some c =
    subst
    (λ (e : StoredEvent).
    IfOk c.part_at-in-Some.result (λ it. ComesAlways c.args.self.now (event_value e) it.0 it.1))
    (sym c.in-ToClient.is)
    (if_ok c.part_at-in-Some.result _ _ c.part_at-in-Some.ensures
    (λ it is.
    hear_comes c.args.self.now c.in-ToClient.client it.0 c.in-ToClient.transmission c.in-Some.place it.1 is.0
    (number_at c.in-ToClient.transmission c.in-Some.place (sym c.place_of.ensures ∙ c.in-Some.is)) is.1))

pub returns-in-TickClient : goal.returns-in-TickClient
returns-in-TickClient c =
    subst
    (λ (e : StoredEvent).
    IfOk c.part_at-in-TickClient.result (λ it. ComesAlways c.args.self.now (event_value e) it.0 it.1))
    (sym c.in-TickClient.is)
    (if_ok c.part_at-in-TickClient.result _ _ c.part_at-in-TickClient.ensures
    (λ it is. tick_comes c.args.self.now c.in-TickClient.client it.0 it.1 is.0 is.1))
