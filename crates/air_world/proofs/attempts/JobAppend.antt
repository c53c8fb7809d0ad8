-- What a job did, and then did more.
use Rattle.std.proofs.Common.{◌≡◌, List, [], ◌∷◌, ◌++◌, ap, ◌∙◌, subst}
use Rattle.air_world.proofs.attempts.Names.{flat_map-append, kind_of_item, texts, PacketValue, texts-append, after_all, Lists, JobState, job_after, GoesBy, JobEntry, after_losing, items_in, items_of, lost, packets_said, passed, queued, said_in, took, JobReaches}

-- what entries of an event make of a job
pub reaches-by : (lists last : Lists) (doing now : JobState) (entries : List JobEntry)
    → GoesBy lists doing entries last now → JobReaches doing entries now
reaches-by lists last doing now [] goes = goes.1
reaches-by lists last doing now (took item row ∷ entries) goes =
    ((goes.0, (lists, goes.1)), reaches-by (after_all lists row.commands) last (job_after row) now entries goes.2)
reaches-by lists last doing now (lost item row ∷ entries) goes = (
  (goes.0, (lists, goes.1)),
  reaches-by (after_all lists row.commands) last
      (after_losing (kind_of_item item) row) now entries goes.2,
)
reaches-by lists last doing now (passed item ∷ entries) goes = (goes.0, reaches-by lists last doing now entries goes.1)
reaches-by lists last doing now (queued due ∷ entries) goes =
    (goes.0, reaches-by lists last due.state now entries goes.1)

pub reaches-then : (doing between now : JobState) (es fs : List JobEntry) → JobReaches doing es between
    → JobReaches between fs now → JobReaches doing (es ++ fs) now
reaches-then doing between now [] fs first second = subst (λ (j : JobState). JobReaches j fs now) first second
reaches-then doing between now (took item row ∷ es) fs first second =
    (first.0, reaches-then (job_after row) between now es fs first.1 second)
reaches-then doing between now (lost item row ∷ es) fs first second =
    (first.0, reaches-then (after_losing (kind_of_item item) row) between now es fs first.1 second)
reaches-then doing between now (passed item ∷ es) fs first second =
    (first.0, reaches-then doing between now es fs first.1 second)
reaches-then doing between now (queued due ∷ es) fs first second =
    (first.0, reaches-then due.state between now es fs first.1 second)

pub items-then : (es fs : List JobEntry) → items_in (es ++ fs) ≡ items_in es ++ items_in fs
items-then = flat_map-append items_of

pub said-then : (es fs : List JobEntry) → said_in (es ++ fs) ≡ said_in es ++ said_in fs
said-then = flat_map-append packets_said

pub texts-then : (es fs : List JobEntry) → texts (said_in (es ++ fs)) ≡ texts (said_in es) ++ texts (said_in fs)
texts-then es fs =
    ap (λ (packets : List PacketValue). texts packets) (said-then es fs) ∙ texts-append (said_in es) (said_in fs)
