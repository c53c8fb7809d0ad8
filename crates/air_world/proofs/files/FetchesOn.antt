-- What a client fetches goes on with what its session says.
use Rattle.std.proofs.Common.{◌≡◌, ℕ, zero, suc, ◌+◌, ◌≤◌, List, [], ◌∷◌, ◌++◌, length, map, drop, refl, ap, sym, ◌∙◌}
use Rattle.std.proofs.Common.{subst, Option, None, Some, arith, length-append, append-nil}
use Rattle.std.proofs.lemmas.Grind.{flat_map-append}
use Rattle.ftl0_client_job.specs.declared.phases.DownloadPhase.TheVariants as fetch
use Rattle.ftl0_client_job.specs.declared.work.Work.TheVariants as work
use Rattle.ftl0_client.specs.Entries as job
use Rattle.air_world.proofs.files.Names.{IfSome, Ok, slice_get, drop-append-le, length-map, Item, PacketValue, Store, Ending, DownloadPhase, Work, Download, Attempt, ClientTookFront, AreFirstOf as AreFirstIn, Party, octets_of_data, octets_of_item, octets_said, octets_taken, ServerSide, said_by_server, AreFirstIfAny, Fetches, FetchesBy, FetchesIn, IsFetching, coming_by, got, with_attempt}

-- ---- lists

-- ---- the octets that one side said, of which the other one took the first

pub octets-all : (packets : List PacketValue) → octets_taken (map Ok packets) ≡ octets_said packets
octets-all [] = refl
octets-all (packet ∷ packets) = ap (λ (l : List ℕ). octets_of_data packet ++ l) (octets-all packets)

drop-ok : (count : ℕ) (packets : List PacketValue)
    → drop count (map Ok packets) ≡ map {B = Item} Ok (drop count packets)
drop-ok zero packets = refl
drop-ok (suc count) [] = refl
drop-ok (suc count) (packet ∷ packets) = drop-ok count packets

drop-taken : (items more : List Item) → drop (length items) (items ++ more) ≡ more
drop-taken [] more = refl
drop-taken (item ∷ items) more = drop-taken items more

module _ (items : List Item) (packets : List PacketValue) (front : AreFirstIn items (map Ok packets)) where
  pub front-few : length items ≤ length packets
  front-few =
      let all : length packets ≡ length items + length front.0 =
      sym (length-map {B = Item} packets Ok) ∙ ap length front.1 ∙ length-append items front.0 in
      omega (arith, all)

  -- what was taken, and what comes after it
  pub octets-behind : octets_taken items ++ octets_said (drop (length items) packets) ≡ octets_said packets
  octets-behind =
      let behind : map {B = Item} Ok (drop (length items) packets) ≡ front.0 =
      sym (drop-ok (length items) packets) ∙ ap (λ (l : List Item). drop (length items) l) front.1
      ∙ drop-taken items front.0 in
      ap (λ (l : List ℕ). octets_taken items ++ l)
      (sym (octets-all (drop (length items) packets)) ∙ ap octets_taken behind)
      ∙ sym (flat_map-append octets_of_item items front.0) ∙ ap octets_taken (sym front.1) ∙ octets-all packets

  -- more that is said comes after it
  pub octets-more : (more : List PacketValue)
      → octets_said (drop (length items) (packets ++ more)) ≡ octets_said
      (drop (length items) packets) ++ octets_said more
  octets-more more =
      ap octets_said (drop-append-le (length items) packets more front-few)
      ∙ flat_map-append octets_of_data (drop (length items) packets) more

-- ---- what is fetched

-- what came and comes of a file is its first octets
abbrev pub ComesFirst : Store → Party → Attempt → ServerSide → Download → Type 0
ComesFirst store party a side at =
    AreFirstIfAny store at.number (got party at.number ++ (at.rest ++ coming_by a (Some side)))

-- it is so with the new session if it was so with the old one
abbrev pub ComesOn : Store → Party → Attempt → ServerSide → ServerSide → Type 0
ComesOn store party a old new =
    (at : Download) → Fetches store party a at → ComesFirst store party a old at → ComesFirst store party a new at

module _ (store : Store) (party : Party) (a : Attempt) (older : List Attempt) (old new : ServerSide)
    (is_side : a.server ≡ Some old) where
  abbrev now_is : Attempt
  now_is = record a { server = Some new }

  abbrev done : Party
  done = with_attempt party now_is older

  fetches-on : ComesOn store party a old new → (at : Download) → Fetches store party a at → Fetches store done now_is at
  fetches-on comes at fetches = record {
    first =
        comes at fetches
        (subst (λ (o : Option ServerSide). AreFirstIfAny store at.number
        (got party at.number ++ (at.rest ++ coming_by a o))) is_side fetches.first);
    offset = fetches.offset;
    asked = fetches.asked;
    counted = fetches.counted;
  }

  fetches_in-on : ComesOn store party a old new → (phase : DownloadPhase) (at : Download)
      → FetchesIn phase store party a at → FetchesIn phase store done now_is at
  fetches_in-on comes fetch.Login at fetches = fetches
  fetches_in-on comes fetch.Fetching at fetches = fetches-on comes at fetches
  fetches_in-on comes fetch.Done at fetches = fetches

  fetches_by-on : ComesOn store party a old new → (ending : Option Ending) (doing : Work)
      → FetchesBy ending doing store party a → FetchesBy ending doing store done now_is
  fetches_by-on comes None (work.Download at) fetches = fetches_in-on comes at.phase at fetches
  fetches_by-on comes (Some ending) (work.Download at) fetches = fetches
  fetches_by-on comes None (work.Upload at) fetches = tt
  fetches_by-on comes (Some ending) (work.Upload at) fetches = tt
  fetches_by-on comes None (work.Directory at) fetches = tt
  fetches_by-on comes (Some ending) (work.Directory at) fetches = tt

  pub fetching-on : ComesOn store party a old new → party.attempts ≡ a ∷ older
      → IfSome (slice_get party.attempts 0) (IsFetching store party) → IsFetching store done now_is
  fetching-on comes attempts_are fetching link =
      let was = subst (λ (l : List Attempt). IfSome (slice_get l 0) (IsFetching store party)) attempts_are fetching in
      fetches_by-on comes a.client.attempted.job.ending a.client.attempted.job.work (was link)

-- ---- what comes, as the session says more

module _ (store : Store) (party : Party) (a : Attempt) (old new : ServerSide) (heard : ClientTookFront a old)
    (more : List PacketValue)
    (said : said_by_server new ≡ said_by_server old ++ more) where
  pub coming-more : coming_by a (Some new) ≡ coming_by a (Some old) ++ octets_said more
  coming-more =
      ap (λ (l : List PacketValue). octets_said (drop (length (job.items_in a.client.entries)) l)) said
      ∙ octets-more (job.items_in a.client.entries) (said_by_server old) heard more

  -- no octets of a file
  pub comes-silent : octets_said more ≡ [] → ComesOn store party a old new
  comes-silent none at fetches first =
      subst (λ (octets : List ℕ). AreFirstIfAny store at.number (got party at.number ++ (at.rest ++ octets)))
      (sym (coming-more ∙ ap (λ (l : List ℕ). coming_by a (Some old) ++ l) none ∙ append-nil (coming_by a (Some old))))
      first
