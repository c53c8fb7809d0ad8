-- What is promised of uploads and downloads holds still in a store that follows.
use Rattle.std.proofs.Common.{ℕ}
use Rattle.air_world.proofs.Names.{KeepsEntries, Store, got_of, IsOfferKept, keeps-file, keeps-offer, keeps-task_kept, HeadlineIn, Offered, World}

-- an offer's number is below the next one, as it is in a sound world
pub headline-follows : (world : World) (before now : Store) → KeepsEntries before now
    → ((number offset : ℕ) → Offered world number offset → IsOfferKept before number offset) → HeadlineIn world before
    → HeadlineIn world now
headline-follows world before now keeps offers headline = record {
  acknowledged = λ c task number party there holds.
      keeps-task_kept world.files before now party task number keeps.complete
      (headline.acknowledged c task number party there holds);
  offered = λ number offset offered. (keeps-offer before now number offset keeps (offers number offset offered)).1;
  fetched = λ c number party there is.
      keeps-file before now number (got_of party.client.lists party.client.server number) keeps.complete
      (headline.fetched c number party there is);
  fetched_before = λ c place number party a there at is.
      keeps-file before now number (got_of party.client.lists party.client.server number) keeps.complete
      (headline.fetched_before c place number party a there at is);
}
