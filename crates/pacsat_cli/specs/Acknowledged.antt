-- What a run of the program acknowledges, where the words ask for a session or a service, stands on its disk.
use Rattle.std.specs.Prelude.{◌≡◌, ◌⊎◌, ℕ, List}
use Rattle.turn_loop.specs.Lent.{Lent, Seen}
use Rattle.server_node.specs.Acknowledged.{ServerAcknowledges, SessionAcknowledges}
use Rattle.command_words.specs.declared.disk.DiskWord.TheVariants.{Named}
use Rattle.command_words.specs.declared.request.SessionRequest.{SessionRequest}
use Rattle.command_words.specs.declared.serve.ServeRequest.{ServeRequest}
use Rattle.command_words.specs.Words.{IsServe, IsSession}
use Rattle.pacsat_cli.specs.Servers.{serve_terms}
use Rattle.pacsat_cli.specs.Sessions.{run_terms}

-- Where the words ask for a session over the disk that DISK names, a file stands on it for each UL_ACK_RESP that was
-- said; or nothing was said.
abbrev pub SessionStands : {D A C : Type 0} → List (List ℕ) → Seen D A C → Lent D A C → Lent D A C → Type 0
SessionStands words seen old new =
    (asked : SessionRequest) → IsSession words asked → asked.disk ≡ Named
    → (new.air ≡ old.air) ⊎ SessionAcknowledges seen old new (run_terms asked)

-- Where the words ask for a service, one stands for each packet to which UL_ACK_RESP was replied; or nothing was said.
abbrev pub ServiceStands : {D A C : Type 0} → List (List ℕ) → Seen D A C → Lent D A C → Lent D A C → Type 0
ServiceStands words seen old new =
    (asked : ServeRequest) → IsServe words asked
    → (new.air ≡ old.air) ⊎ ServerAcknowledges seen old new (serve_terms asked)
