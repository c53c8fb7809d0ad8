-- What a session or a service acknowledges stands, by how it was served.
use Rattle.std.proofs.Common.{⊎_elim, ℕ, List, inl, subst}
use Rattle.pacsat_cli.proofs.Names.{ServerAcknowledgesLaw, SessionAcknowledgesLaw, Lent, Seen, DiskWord, Status, ServiceStands, SessionStands, RunsServe, serve_terms, OverNamed, RunsSession, run_terms}

module _ {D A C : Type 0} (seen : Seen D A C) (words : List (List ℕ)) (old new : Lent D A C) (s : Status) where
  pub session-stands : SessionAcknowledgesLaw seen → RunsSession words seen old new s → SessionStands words seen old new
  session-stands law runs asked is named =
      ⊎_elim (λ none. inl none.0.1)
      (λ over. let P : DiskWord → Type 0 = λ word. OverNamed word seen old new (run_terms asked) s in let on = subst P named over in law old new (run_terms asked) on.ended on.ends) (runs asked is)

  pub service-stands : ServerAcknowledgesLaw seen → RunsServe words seen old new s → ServiceStands words seen old new
  service-stands law runs asked is = ⊎_elim (λ none. inl none.0.1) (λ over. law old new (serve_terms asked) over.ended over.ends) (runs asked is)
