-- What is due of a session is what is due of its downloading.
use Rattle.std.proofs.Common.{◌≡◌, ℕ, List, refl, ap, sym, subst, Bool, Option, None, Some}
use Rattle.ftl0_session.specs.declared.uploads.phase.Phase.TheVariants as phase
use Rattle.ftl0_session.specs.Downloads.Filling.{IsDue as IsDownloadDue, PutsDue as PutsDownload}
use Rattle.ftl0_session.specs.Downloads.Sending.{DuePacket as DownloadDue, next_due as next_download}
use Rattle.ftl0_session.proofs.Names.{option_map, IfSome, Ghosts, dl_error_resp, Store, StoreState, Phase, state_of, filled, DownloadState, ready, IsDue, PutsDue, DoesOne, downloading, in_session, next_due, state_by}
use Rattle.ftl0_session.proofs.RowLemmas.{download_part-is}

module _ {D : Type 0} (store : Store) (fails put : Bool) (disk disk_now : D) (part part_now : DownloadState) (out out_now : List ℕ) where
  -- nothing is due of a session that is ready
  none-due : part ≡ ready → IsDownloadDue (next_download store part fails) put disk disk_now part part_now out out_now → IsDownloadDue None put disk disk_now ready part_now out out_now
  none-due free is = subst (λ (p : DownloadState). IsDownloadDue (next_download store p fails) put disk disk_now p part_now out out_now) free is

  pub fill-one : (here : Phase) → DoesOne here part → IsDownloadDue (next_download store part fails) put disk disk_now part part_now out out_now → DoesOne here part_now
  fill-one phase.Command one is = tt
  fill-one (phase.Receiving up) one is = (none-due one is).2
  fill-one phase.Aborting one is = (none-due one is).2

  due-in : (o : Option DownloadDue) → IsDownloadDue o put disk disk_now part part_now out out_now
      → IsDue (option_map in_session o) put disk disk_now (downloading part) (downloading part_now) out out_now
  due-in None is = (is.0, is.1, ap downloading is.2, is.3)
  due-in (Some next) is = (is.0, ap downloading is.1, is.2)

fill-due : {D : Type 0} (store : Store) (files : StoreState) (here : Phase) (fails put : Bool) (disk disk_now : D) (part part_now : DownloadState) (out out_now : List ℕ) → DoesOne here part
    → IsDownloadDue (next_download store part fails) put disk disk_now part part_now out out_now
    → IsDue (next_due store (state_by (state_of files here) part) fails) put disk disk_now (state_by (state_of files here) part) (state_by (state_of files here) part_now) out out_now
fill-due store files phase.Command fails put disk disk_now part part_now out out_now one is =
    subst (λ (p : DownloadState). IsDue (option_map in_session (next_download store p fails)) put disk disk_now (downloading part) (downloading part_now) out out_now)
    (sym (download_part-is part)) (due-in store fails put disk disk_now part part_now out out_now (next_download store part fails) is)
fill-due store files (phase.Receiving up) fails put disk disk_now part part_now out out_now one is =
    let none = none-due store fails put disk disk_now part part_now out out_now one is in
    (none.0, none.1, refl, none.3)
fill-due store files phase.Aborting fails put disk disk_now part part_now out out_now one is =
    let none = none-due store fails put disk disk_now part part_now out out_now one is in
    (none.0, none.1, refl, none.3)

told-in : (o : Option DownloadDue) → IfSome o (λ due. due.packet ≡ dl_error_resp 3) → IfSome (option_map in_session o) (λ due. due.packet ≡ dl_error_resp 3)
told-in None told = tt
told-in (Some due) told = told

fill-told : (store : Store) (files : StoreState) (here : Phase) (fails : Bool) (part : DownloadState) → IfSome (next_download store part fails) (λ due. due.packet ≡ dl_error_resp 3)
    → IfSome (next_due store (state_by (state_of files here) part) fails) (λ due. due.packet ≡ dl_error_resp 3)
fill-told store files phase.Command fails part told =
    subst (λ (p : DownloadState). IfSome (option_map in_session (next_download store p fails)) (λ due. due.packet ≡ dl_error_resp 3)) (sym (download_part-is part)) (told-in (next_download store part fails) told)
fill-told store files (phase.Receiving up) fails part told = tt
fill-told store files phase.Aborting fails part told = tt

pub fill-puts : {D : Type 0} (g : Ghosts D) (store : Store) (files : StoreState) (here : Phase) (put : Bool) (disk disk_now : D) (part part_now : DownloadState) (out out_now : List ℕ) → DoesOne here part
    → PutsDownload g store (filled disk part out) (filled disk_now part_now out_now) put
    → PutsDue g store (filled disk (state_by (state_of files here) part) out) (filled disk_now (state_by (state_of files here) part_now) out_now) put
fill-puts g store files here put disk disk_now part part_now out out_now one puts = record {
  fails = puts.fails;
  reads = puts.reads;
  told = λ known failed. fill-told store files here puts.fails part (puts.told known failed);
  is_due = λ known. fill-due store files here puts.fails put disk disk_now part part_now out out_now one (puts.is_due known);
  tells = puts.tells;
}
