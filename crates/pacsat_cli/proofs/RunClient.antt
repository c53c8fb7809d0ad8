-- What a run did, where the words ask for a client's command.
use Rattle.std.proofs.Common.{◌≡◌, ℕ, ◌≤◌, List, [], arith, refl, ap, sym, subst, ◌∙◌, inl, inr, false}
use Rattle.std.specs.Prelude.{◌⊎◌}
use Rattle.px_base.specs.declared.out.Out.{Ghosts as OutGhosts}
use Rattle.px_base.specs.declared.shelf.Shelf.{Ghosts as ShelfGhosts}
use Rattle.command_words.specs.declared.client.ClientRequest.TheVariants as client
use Rattle.command_words.specs.declared.terms.ClientTerms.{ClientTerms as AskedTerms}
use Rattle.pacsat_cli.specs.declared.status.Status.TheVariants as status
use Rattle.pacsat_cli.proofs.Names.{ClientRequest, Rose, Lent, Seen, file_asked, files_asked, AsksClientFor, Determined, OnlyOne, AsksClient, IsFetch, IsList, IsSend, OneRunLaw, OneStepLaw, StaysLaw, SeenSetting, Status, ClientRan, FetchRan, IsUnlisted, ListRan, MayRun, RunsFetch, RunsList, RunsSend, SendRan, client_terms, outside, Shows, Stays, HasStoreCause, line_of, lendings}
use Rattle.pacsat_cli.proofs.ClientEnds.{ClientDid, fetch-did, list-did, send-did, unread-did}
use Rattle.pacsat_cli.proofs.ClientStops.{is_client_status}
use Rattle.pacsat_cli.proofs.Ends.{RunEnds, asked-usage, whole}
use Rattle.pacsat_cli.proofs.ExactCarried.{fetch-exactly, list-exactly}
use Rattle.pacsat_cli.proofs.ExactSend.{send-exactly, send-refuses, send-starts}
use Rattle.pacsat_cli.proofs.OneTask.{asks-client, file-client, make-client, node-client, store-client}
use Rattle.pacsat_cli.proofs.RunRehearsal.{no-rehearsal}
use Rattle.pacsat_cli.proofs.Touched.{client-touches}
use Rattle.pacsat_cli.proofs.Unasked.{unasked-file, unasked-make, unasked-serve, unasked-session}

pub may-run : (words : List (List ℕ)) (request : ClientRequest) → AsksClientFor words request → MayRun request
may-run words (client.Send asked) is = record { ranges = is.text.text.ranges; some = is.text.some; few = is.text.few }
may-run words (client.Fetch asked) is = record { ranges = is.text.text.ranges; some = is.text.in_range.least }
may-run words (client.List asked) is = record { ranges = is.2.text.text.ranges; hex = (is.0, is.1) }

module _ {A C D S O : Type 0} (see : Seen D A C) (sh : ShelfGhosts S) (o : OutGhosts O) (old new : Lent D A C) (shelf shelf_now : S) (out mid now : O) (words : List (List ℕ)) (s : Status) where
  -- the words ask for this one command alone
  module _ (determined : Determined words) (line : Shows o.shown o.faults mid now (line_of s)) (done : line_of s ≡ [] → now ≡ mid) where
    send-runs : (asked : AskedTerms) (name : List ℕ) → IsSend words asked name → SendRan see sh o (outside old shelf out) (outside new shelf_now mid) (client_terms asked) name s → RunsSend words see sh o (outside old shelf out) (outside new shelf_now now) s
    send-runs asked name is ran = λ other another too.
        let same = determined.send asked other name another is too in
        let at_name : List ℕ → Type 0 = λ n. SendRan see sh o (outside old shelf out) (outside new shelf_now mid) (client_terms asked) n s in
        let at_asked : AskedTerms → Type 0 = λ a. SendRan see sh o (outside old shelf out) (outside new shelf_now mid) (client_terms a) another s in
        record { mid = mid; ran = inr (subst at_asked same.0 (subst at_name same.1 ran)); line = line; done = done }

    fetch-runs : (asked : AskedTerms) (number : ℕ) (name : List ℕ) → IsFetch words asked number name → FetchRan see sh o (outside old shelf out) (outside new shelf_now mid) (file_asked (client_terms asked) number name) s → RunsFetch words see sh o (outside old shelf out) (outside new shelf_now now) s
    fetch-runs asked number name is ran = λ other more another too.
        let same = determined.fetch asked other number more name another is too in
        let at_name : List ℕ → Type 0 = λ n. FetchRan see sh o (outside old shelf out) (outside new shelf_now mid) (file_asked (client_terms asked) number n) s in
        let at_number : ℕ → Type 0 = λ n. FetchRan see sh o (outside old shelf out) (outside new shelf_now mid) (file_asked (client_terms asked) n another) s in
        let at_asked : AskedTerms → Type 0 = λ a. FetchRan see sh o (outside old shelf out) (outside new shelf_now mid) (file_asked (client_terms a) more another) s in
        record { mid = mid; ran = inr (subst at_asked same.0 (subst at_number same.1 (subst at_name same.2 ran))); line = line; done = done }

    list-runs : (asked : AskedTerms) (tokens : List ℕ) → IsList words asked tokens → shelf_now ≡ shelf → IsUnlisted old new out mid s ⊎ ListRan see o old new out mid (files_asked (client_terms asked) tokens) s → RunsList words see o (outside old shelf out) (outside new shelf_now now) s
    list-runs asked tokens is same_shelf (inl none) = λ other more too. record { mid = mid; ran = inl (none.0, none.1, same_shelf, none.2); line = line; done = done }
    list-runs asked tokens is same_shelf (inr ran) = λ other more too.
        let same = determined.list asked other tokens more is too in
        let at_tokens : List ℕ → Type 0 = λ t. ListRan see o old new out mid (files_asked (client_terms asked) t) s in
        let at_asked : AskedTerms → Type 0 = λ a. ListRan see o old new out mid (files_asked (client_terms a) more) s in
        record { mid = mid; ran = inr (subst at_asked same.0 (subst at_tokens same.1 ran)); line = line; done = done }

  -- a list, or want of memory for its tokens
  listed-did : (asked : AskedTerms) (tokens : List ℕ) → IsList words asked tokens → shelf_now ≡ shelf → IsUnlisted old new out mid s ⊎ ListRan see o old new out mid (files_asked (client_terms asked) tokens) s → ClientDid see sh o old new shelf shelf_now out mid words s
  listed-did asked tokens is same_shelf (inl none) = unread-did see sh o old new shelf shelf_now out mid words s (client_terms asked) none.0 none.1 same_shelf none.2
  listed-did asked tokens is same_shelf (inr ran) = list-did see sh o old new shelf shelf_now out mid words s (client_terms asked) tokens (asked, tokens, is) same_shelf ran

  pub client-did : (request : ClientRequest) → AsksClientFor words request → ClientRan see sh o (outside old shelf out) (outside new shelf_now mid) request s → ClientDid see sh o old new shelf shelf_now out mid words s
  client-did (client.Send asked) is ran = send-did see sh o old new shelf shelf_now out mid words s (client_terms asked.terms) asked.name.now (asked.terms, asked.name.now, is) ran
  client-did (client.Fetch asked) is ran =
      fetch-did see sh o old new shelf shelf_now out mid words s (client_terms asked.terms) asked.number asked.name.now (asked.terms, asked.number, asked.name.now, is) ran
  client-did (client.List asked) is ran = listed-did asked.terms is.0 is.2 ran.1 (ran.0 is.0 is.1)

  -- the words ask for this alone
  module _ (only : OnlyOne words) (determined : Determined words) (line : Shows o.shown o.faults mid now (line_of s)) (done : line_of s ≡ [] → now ≡ mid) where
    pub client-sends : (request : ClientRequest) → AsksClientFor words request → ClientRan see sh o (outside old shelf out) (outside new shelf_now mid) request s → RunsSend words see sh o (outside old shelf out) (outside new shelf_now now) s
    client-sends (client.Send asked) is ran = send-runs determined line done asked.terms asked.name.now is ran
    client-sends (client.Fetch asked) is ran = λ other another too. absurd (only.send_fetch (other, another, too) (asked.terms, asked.number, asked.name.now, is))
    client-sends (client.List asked) is ran = λ other another too. absurd (only.send_list (other, another, too) (asked.terms, is.0, is.2))

    pub client-fetches : (request : ClientRequest) → AsksClientFor words request → ClientRan see sh o (outside old shelf out) (outside new shelf_now mid) request s → RunsFetch words see sh o (outside old shelf out) (outside new shelf_now now) s
    client-fetches (client.Send asked) is ran = λ other number another too. absurd (only.send_fetch (asked.terms, asked.name.now, is) (other, number, another, too))
    client-fetches (client.Fetch asked) is ran = fetch-runs determined line done asked.terms asked.number asked.name.now is ran
    client-fetches (client.List asked) is ran = λ other number another too. absurd (only.fetch_list (other, number, another, too) (asked.terms, is.0, is.2))

    pub client-lists : (request : ClientRequest) → AsksClientFor words request → ClientRan see sh o (outside old shelf out) (outside new shelf_now mid) request s → RunsList words see o (outside old shelf out) (outside new shelf_now now) s
    client-lists (client.Send asked) is ran = λ other tokens too. absurd (only.send_list (asked.terms, asked.name.now, is) (other, tokens, too))
    client-lists (client.Fetch asked) is ran = λ other tokens too. absurd (only.fetch_list (asked.terms, asked.number, asked.name.now, is) (other, tokens, too))
    client-lists (client.List asked) is ran = list-runs determined line done asked.terms is.0 is.2 ran.1 (ran.0 is.0 is.1)

  module _ (did : ClientDid see sh o old new shelf shelf_now out mid words s) where
    -- a client's command ends with no other command's status
    pub client-not : (other : Status) → is_client_status other ≡ false → s ≡ other → ⊥
    client-not other isnt is = let kind = did.kind in let same = ap is_client_status is in absurd (cc)

    pub client-store : AsksClient words → OnlyOne words → HasStoreCause words (see.disk.content old.disk) s
    client-store asks only = record {
      asked = λ _ _. inr asks;
      exact = λ asked is _ _ _. absurd (only.session_client (asked, is) asks);
      exact_served = λ asked is _ _. absurd (only.serve_client (asked, is) asks);
      exact_notes = λ _. did.exact;
    }

    -- a count that rose before the status's line has risen after it
    pub client-rose : o.faults mid ≤ o.faults now → s ≡ status.Out → Rose (o.faults out) (o.faults now)
    client-rose fewer e = λ below. let rose = did.out_rose e below in omega (arith, rose, fewer)

    -- where it is done neither shelf nor output counted a fault
    pub client-done : (line_of s ≡ [] → now ≡ mid) → s ≡ status.Done → Stays sh.faults shelf shelf_now × Stays o.faults out now
    client-done same done = (
      did.of_shelf.same (λ f. let other = sym done ∙ f in cc),
      ap o.faults (same (ap line_of done)) ∙ did.out_same done,
    )

-- all that a run promises, where it is a client's
module _ {A C D S O B : Type 0} (see : Seen D A C) (told : SeenSetting B S O) (old new : Lent D A C) (shelf shelf_now : S) (bench : List B) (out mid now : O) (words : List (List ℕ)) (s : Status) (only : OnlyOne words) (determined : Determined words) where
  pub client-ends :
      OneRunLaw → OneStepLaw → StaysLaw → Shows told.out.shown told.out.faults mid now (line_of s) → (line_of s ≡ [] → now ≡ mid)
      → told.out.faults mid ≤ told.out.faults now → (request : ClientRequest) → AsksClientFor words request
      → ClientRan see told.shelf told.out (outside old shelf out) (outside new shelf_now mid) request s
      → RunEnds words see told (lendings old shelf bench) (lendings new shelf_now bench) out now s
  client-ends runs steps stays line silent fewer request asks ran =
      let sh = told.shelf in
      let o = told.out in
      let client : AsksClient words = asks-client words request asks in
      let did = client-did see sh o old new shelf shelf_now out mid now words s request asks ran in
      let isnt = client-not see sh o old new shelf shelf_now out mid now words s did in
      let sends = client-sends see sh o old new shelf shelf_now out mid now words s only determined line silent request asks ran in
      let fetches = client-fetches see sh o old new shelf shelf_now out mid now words s only determined line silent request asks ran in
      let lists = client-lists see sh o old new shelf shelf_now out mid now words s only determined line silent request asks ran in
      whole words see told (lendings old shelf bench) (lendings new shelf_now bench) out now s
      (client-touches sh.held words bench see sh o old new shelf shelf_now out mid s request asks ran)
      (asked-usage words see told (lendings old shelf bench) (lendings new shelf_now bench) out now s (isnt status.Usage refl) (λ usage. only.usage_client usage client))
      (unasked-session words see old new s (λ session. only.session_client session client))
      (unasked-serve words see old new s (λ serve. only.serve_client serve client))
      (record {
        send = sends;
        fetch = fetches;
        list = lists;
        send_refuses = send-refuses see sh o words old new shelf shelf_now s out now sends;
        send_starts = send-starts see sh o words old new shelf shelf_now s out now sends;
        send_exactly = send-exactly see sh o words old new shelf shelf_now s out now sends runs steps stays;
        fetch_exactly = fetch-exactly see runs steps stays old new sh o words shelf shelf_now out now s fetches;
        list_exactly = list-exactly see runs steps stays old new sh o words shelf shelf_now out now s lists;
      })
      (unasked-file words sh o shelf out now s (λ file. file-client words only file client))
      (unasked-make words sh shelf shelf_now s (λ make. make-client words only make client))
      (no-rehearsal words told shelf out now bench s (only.client_rehearse client))
      (record {
        air_read = did.read;
        air_write = did.write;
        disk = did.disk;
        shelf = did.of_shelf;
        out = client-rose see sh o old new shelf shelf_now out mid now words s did fewer;
        bad_store = client-store see sh o old new shelf shelf_now out mid now words s did client only;
      })
      (record {
        memory = λ store _. absurd (store-client words only store client);
        node_done = λ node. absurd (node-client words only node client);
        done = client-done see sh o old new shelf shelf_now out mid now words s did silent;
        unshown = λ _ others. absurd (others (inr (inl client)));
        shown = λ others. absurd (others (inr (inl client)));
      })
