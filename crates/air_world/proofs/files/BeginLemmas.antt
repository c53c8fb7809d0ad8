-- An attempt that begins, and a session that does, have all facts: neither side said anything but LOGIN_RESP.
use Rattle.std.proofs.Common.{◌≡◌, ⊎_elim, ℕ, List, [], ◌∷◌, length, refl, ap, sym, ◌∙◌, subst, Option, None, Some, Ok}
use Rattle.std.proofs.Common.{inl, inr}
use Rattle.ftl0_server.specs.Entries as session
use Rattle.ftl0_client_job.specs.declared.ending.Outcome.TheVariants as reached
use Rattle.ftl0_client_job.specs.declared.work.Work.TheVariants as work
use Rattle.ftl0_client.specs.Entries as job
use Rattle.air_world.specs.Files.DownloadDialogue as download
use Rattle.air_world.specs.Files.UploadDialogue.{silent}
use Rattle.air_world.proofs.files.Names.{IfSome, drop, slice_get, AllByRecursion, option_map, All-nil, IsOctets, PacketValue, ul_ack_resp, ul_error_resp, ul_go_resp, upload_cmd, Why, Store, IsDueIn, octets_due, State, command, download_part, greeting, receiving, Work, Download, IsNotBegun, JobState, outcome_by, JobEntry, Attempt, Has, OneIs, Asked, Party, all_over, over, sessions_over, IsAnswer, IsTaken, Took, octets_said, ClientSide, ServerSide, said_by_client, said_by_server, each-weaker, some-weaker, IsListSaid, IsOfListing, Says, Serves, FetchesBy, FetchesIn, GoesOnWithTask, HasFacts, IsFetching, IsGranted, coming_by, IsBeginning, IsGreeted, with_attempt, answered_in, unasked}
use Rattle.air_world.proofs.files.ApartLemmas.{HasClientFacts, HasFactsApart, HasSideFacts, apart, together}
use Rattle.air_world.proofs.files.GoneLemmas.{facts-over, like-fetches_by}
use Rattle.air_world.proofs.files.LikeLemmas.{like-client, like-side, number-like}

-- ---- an attempt that begins

not-taken : (side : ClientSide) (packet : PacketValue) → side.entries ≡ [] → Took side packet → ⊥
not-taken side packet none took = subst (OneIs (IsTaken (Ok packet))) none took

nothing-said : (side : ClientSide) → side.entries ≡ [] → said_by_client side ≡ []
nothing-said side none = ap job.said_in none

not-said : (side : ClientSide) (packet : PacketValue) → side.entries ≡ [] → Has (said_by_client side) packet → ⊥
not-said side packet none said = subst (λ packets. Has packets packet) (nothing-said side none) said

not-fetched : (ending : JobState) (down : Option Why) (number : ℕ) → ending.ending ≡ None
    → outcome_by ending.ending down ≡ Some (reached.Fetched number) → ⊥
not-fetched it down number none is = by down
    (subst (λ ending. outcome_by ending down ≡ Some (reached.Fetched number)) none is)
  where
    by : (down : Option Why) → outcome_by None down ≡ Some (reached.Fetched number) → ⊥
    by None is = cc
    by (Some why) is = cc

pub silent-says : (asked : Work) (side : ClientSide) → side.entries ≡ [] → Says asked side
silent-says (work.Upload at) side none = record { stage = silent; said = nothing-said side none; sends_file = tt }
silent-says (work.Directory at) side none = subst (IsListSaid at.tokens) (sym (nothing-said side none)) tt
silent-says (work.Download at) side none = record {
  stage = download.silent;
  said = nothing-said side none;
  fetches =
      tt;
}

-- the client with an attempt that begins
abbrev calling : Party → Attempt → Party
calling party a =
    record party {
      client = record party.client { attempt = Some a.client.attempted };
      attempts = a ∷ party.attempts;
    }

begun-client : (party : Party) (a : Attempt) → IsBeginning a → GoesOnWithTask party a
    → HasClientFacts (calling party a) a
begun-client party a begins goes_on = record {
  noted = λ task number file asks took. absurd (not-taken a.client (ul_go_resp number 0) begins.entries took);
  goes_on = λ task known file asks some.
      let has = goes_on task known file asks some in
      record { entry = has.entry; is_entry = has.is_entry; number_is = has.number_is; some = has.some };
  says = silent-says a.client.asked a.client begins.entries;
  fetched = λ number is.
      absurd (not-fetched a.client.attempted.job a.client.attempted.down number
      (ap (λ (it : JobState). it.ending) begins.job) is);
  asked_within = λ number offset asked. absurd (not-said a.client _ begins.entries asked);
}

begun-fetches : (asked : Work) (store : Store) (party : Party) (a : Attempt) → IsNotBegun asked
    → FetchesBy None asked store party a
begun-fetches (work.Upload at) store party a begun = tt
begun-fetches (work.Directory at) store party a begun = tt
begun-fetches (work.Download at) store party a begun = subst (λ (it : Download). FetchesIn it.phase store party a it)
    (sym begun) refl

pub facts-called : (store : Store) (files : List Asked) (party : Party) (a : Attempt) → HasFacts store files party
    → IsBeginning a
    → GoesOnWithTask party a → HasFacts store files (calling party a)
facts-called store files party a facts begins goes_on = together store files (calling party a)
    (called (apart store files party facts))
  where
    called : HasFactsApart store files party → HasFactsApart store files (calling party a)
    called parts = record {
      numbered = λ task number file has is.
          let it = parts.numbered task number file (number-like party (calling party a) task number has) is in
          record { below = it.below; stands = it.stands; granted = inr it.granted };
      acknowledged = parts.acknowledged;
      attempts = (
        begun-client party a begins goes_on,
        each-weaker party.attempts (λ b. like-client party (calling party a) b b) parts.attempts,
      );
      sides = (
        subst (λ o. IfSome o (HasSideFacts store (calling party a) a)) (sym begins.unserved) tt,
        each-weaker party.attempts
            (λ b. some-weaker b.server (λ side. like-side store party (calling party a) b b side side
            (λ up. up))) parts.sides,
      );
      got_front = parts.got_front;
      fetching = λ link.
          subst (λ (it : JobState). FetchesBy it.ending it.work store (calling party a) a) (sym begins.job)
          (begun-fetches a.client.asked store (calling party a) a begins.asked);
    }

-- ---- a session that begins

only-greeting : (side : ServerSide) (greeted : IsGreeted side) (packet : PacketValue) → Has (said_by_server side) packet
    → greeting greeted.greets.0 greeted.greets.1 ≡ packet
only-greeting side greeted packet said =
    ⊎_elim (λ it. it) (λ none. absurd none)
    (subst (λ packets. Has packets packet)
    (ap (λ entries. side.greeting ∷ session.said_in entries) greeted.entries ∙ ap
    (λ it. it ∷ []) greeted.greets.2) said)

greeted-serves : (store : Store) (asked : Work) (side : ServerSide) → IsGreeted side → Serves store asked side
greeted-serves store (work.Upload at) side greeted = record {
  stage = unasked;
  items = ap answered_in greeted.entries;
  said = ap session.said_in greeted.entries;
  state = λ none. greeted.state;
  offered = tt;
  first = tt;
}
greeted-serves store (work.Directory at) side greeted = record {
  said = subst (λ entries. AllByRecursion IsOfListing (session.said_in entries)) (sym greeted.entries) tt;
  state = inl greeted.state;
}
greeted-serves store (work.Download at) side greeted = record {
  stage = download.unasked;
  file = [];
  items = ap answered_in greeted.entries;
  said = ap session.said_in greeted.entries;
  state = λ none. greeted.state;
  sent = tt;
}

greeted-side : (store : Store) (party : Party) (a : Attempt) (side : ServerSide) → IsGreeted side
    → HasSideFacts store party a side
greeted-side store party a side greeted = record {
  granted = λ number file_length grants.
      absurd (subst (OneIs (IsAnswer (Ok (upload_cmd 0 file_length)) (ul_go_resp number 0))) greeted.entries grants);
  complete = λ number says.
      ⊎_elim (λ acks. absurd (let is = only-greeting side greeted ul_ack_resp acks.1 in let x : ⊥ = cc in x))
      (λ tells. absurd (subst (OneIs (IsAnswer (Ok (upload_cmd number tells.0))
      (ul_error_resp 12))) greeted.entries tells.1)) says;
  offered = λ number offset offers.
      absurd (let is = only-greeting side greeted (ul_go_resp number offset) offers in let x : ⊥ = cc in x);
  receives = λ number rest up is. absurd (let none : command ≡ receiving number rest = sym greeted.state
      ∙ is in let x : ⊥ = cc in x);
  due = λ up. record {
    lies = subst (λ (it : State). IsDueIn store (download_part it)) (sym greeted.state) tt;
    octets = subst (λ (it : State). IsOctets (octets_due store (download_part it))) (sym greeted.state) (All-nil _);
  };
  serves = greeted-serves store a.client.asked side greeted;
}

-- the attempt with its session
abbrev serving : Attempt → ServerSide → Attempt
serving a side = record a { server = Some side }

nothing-comes : (a : Attempt) (side : ServerSide) → a.server ≡ None → a.client.entries ≡ [] → IsGreeted side
    → coming_by a a.server ≡ coming_by (serving a side) (Some side)
nothing-comes a side unserved none greeted =
    ap (coming_by a) unserved
    ∙ sym (ap (λ (entries : List JobEntry). octets_said
    (drop (length (job.items_in entries)) (said_by_server side))) none
    ∙ ap (λ packets. octets_said packets)
    (ap (λ entries. side.greeting ∷ session.said_in entries) greeted.entries ∙ ap (λ it. it ∷ []) greeted.greets.2))

opened-grants : (task number : ℕ) (a : Attempt) (older : List Attempt) (side : ServerSide) → a.server ≡ None
    → OneIs (IsGranted task number) (a ∷ older) → OneIs (IsGranted task number) (serving a side ∷ older)
opened-grants task number a older side unserved (inl it) = absurd
    (let is : None ≡ Some it.1 = sym unserved ∙ it.3 in let x : ⊥ = cc in x)
opened-grants task number a older side unserved (inr it) = inr it

pub facts-opened : (store : Store) (files : List Asked) (party : Party) (a : Attempt) (older : List Attempt)
    (side : ServerSide)
    → HasFacts store files party → party.attempts ≡ a ∷ older → a.server ≡ None → a.client.entries ≡ [] → IsGreeted side
    → HasFacts store files (with_attempt party (serving a side) older)
facts-opened store files party a older side facts are unserved none greeted =
    together store files (with_attempt party (serving a side) older) (opened (apart store files party facts))
  where
    opened : HasFactsApart store files party → HasFactsApart store files (with_attempt party (serving a side) older)
    opened parts =
        let now : Party = with_attempt party (serving a side) older in
        let clients : AllByRecursion (HasClientFacts party) (a ∷ older) = subst
        (AllByRecursion (HasClientFacts party)) are parts.attempts in
        let sessions : AllByRecursion (λ b. IfSome b.server (HasSideFacts store party b)) (a ∷ older) =
        subst (AllByRecursion (λ b. IfSome b.server (HasSideFacts store party b))) are parts.sides in
        let fetches : IsFetching store party a = subst
        (λ (attempts : List Attempt). IfSome (slice_get attempts 0) (IsFetching store party)) are parts.fetching in
        record {
          numbered = λ task number file has is.
              let it = parts.numbered task number file (number-like party now task number has) is in
              record {
                below = it.below;
                stands = it.stands;
                granted = opened-grants task number a older side unserved
                    (subst (OneIs (IsGranted task number)) are it.granted);
              };
          acknowledged = parts.acknowledged;
          attempts = (
            like-client party now a (serving a side) clients.0,
            each-weaker older
                (λ b. like-client party now b b) clients.1,
          );
          sides = (
            greeted-side store now (serving a side) side greeted,
            each-weaker older (λ b. some-weaker b.server
                (λ it. like-side store party now b b it it (λ up. up))) sessions.1,
          );
          got_front = parts.got_front;
          fetching = λ link.
              like-fetches_by a.client.attempted.job.ending a.client.attempted.job.work store party now a
              (serving a side)
              (nothing-comes a side unserved none greeted) (fetches link);
        }

pub facts-opened_over : (store : Store) (files : List Asked) (party : Party) (a : Attempt) (older : List Attempt)
    (side : ServerSide)
    → HasFacts store files party → party.attempts ≡ a ∷ older → a.server ≡ None → a.client.entries ≡ [] → IsGreeted side
    → HasFacts store files (with_attempt party (serving a side) (all_over older))
facts-opened_over store files party a older side facts are unserved none greeted =
    facts-opened store files (sessions_over party) (record a { server = option_map over a.server })
    (all_over older) side
    (facts-over store files party facts) (ap all_over are) (ap (option_map over) unserved) none greeted
