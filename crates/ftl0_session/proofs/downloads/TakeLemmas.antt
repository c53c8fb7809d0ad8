-- What is taken, by its row.
use Rattle.std.proofs.Common.{◌≡◌, ℕ, List, Bool, true, false, Option, None, Some, refl, sym, ◌∙◌, ap, Bor}
use Rattle.ftl0_packets.specs.declared.packet.Packet.{Packet}
use Rattle.ftl0_packets.specs.declared.packet.Packet.TheVariants as packet
use Rattle.ftl0_session.proofs.Names.{append-nil, CallSign, Ghosts, IfNone, IfSome, option_map, PacketValue, dir_long_cmd, dir_short_cmd, download_cmd, packet_text, select_cmd, value_of, CallerList, at_told, reads_none, IsKnown, StoreState, store_in, store_on, Store, DownloadRow, DownloadState, Due, command_row, directory_row, download_cmd_row, download_row, ended_row, listing, long_due, ready, reply_sending, reply_waiting, select_row, sending, short_due, waiting, Made, MakesRow, TakesByRow, made, made_by}
use Rattle.ftl0_session.proofs.CauseLemmas.{says-quiet}
use Rattle.ftl0_session.proofs.FaultLemmas.{Keeps}

-- a packet without a row in Ready
pub no_row : (caller : CallSign) (store : Store) (lists : List CallerList) (p : Packet) (fails : Bool)
    → ((number offset lock : ℕ) → p ≡ packet.DownloadCmd number offset lock → ⊥) → ((number : ℕ) → p ≡ packet.DirShortCmd number → ⊥)
    → ((number : ℕ) → p ≡ packet.DirLongCmd number → ⊥) → ((tokens : Bor (List ℕ)) → p ≡ packet.SelectCmd tokens → ⊥)
    → command_row caller store lists (value_of p) fails ≡ None
unfolding command_row
no_row caller store lists (packet.DownloadCmd number offset lock) fails a b c d = absurd (a number offset lock refl)
no_row caller store lists (packet.DirShortCmd number) fails a b c d = absurd (b number refl)
no_row caller store lists (packet.DirLongCmd number) fails a b c d = absurd (c number refl)
no_row caller store lists (packet.SelectCmd tokens) fails a b c d = absurd (d tokens refl)
no_row caller store lists p fails a b c d = refl

-- the rows in Ready
pub download-is : (caller : CallSign) (store : Store) (lists : List CallerList) (number offset lock : ℕ) (fails : Bool)
    → command_row caller store lists (download_cmd number offset lock) fails ≡ Some (download_cmd_row caller store lists number offset lock)
unfolding command_row
download-is caller store lists number offset lock fails = refl

pub short-is : (caller : CallSign) (store : Store) (lists : List CallerList) (number : ℕ) (fails : Bool) → command_row caller store lists (dir_short_cmd number) fails ≡ Some (directory_row caller store lists number short_due fails)
unfolding command_row
short-is caller store lists number fails = refl

pub long-is : (caller : CallSign) (store : Store) (lists : List CallerList) (number : ℕ) (fails : Bool) → command_row caller store lists (dir_long_cmd number) fails ≡ Some (directory_row caller store lists number long_due fails)
unfolding command_row
long-is caller store lists number fails = refl

pub select-is : (caller : CallSign) (store : Store) (lists : List CallerList) (tokens : List ℕ) (fails : Bool) → command_row caller store lists (select_cmd tokens) fails ≡ Some (select_row caller store lists tokens fails)
unfolding command_row
select-is caller store lists tokens fails = refl

-- in Ready a command's row is the table's
pub row_in_ready : (caller : CallSign) (store : Store) (lists : List CallerList) (state : DownloadState) (p : PacketValue) (fails : Bool) → state ≡ ready
    → download_row caller store lists state p fails ≡ command_row caller store lists p fails
unfolding download_row
row_in_ready caller store lists state p fails is = rw is refl

-- the rows in the other states
pub row_in_sending : (caller : CallSign) (store : Store) (lists : List CallerList) (state : DownloadState) (number place last : ℕ) (p : PacketValue) (fails : Bool) → state ≡ sending number place last
    → download_row caller store lists state p fails ≡ option_map (ended_row lists) (reply_sending p)
unfolding download_row
row_in_sending caller store lists state number place last p fails is = rw is refl

pub row_in_waiting : (caller : CallSign) (store : Store) (lists : List CallerList) (state : DownloadState) (p : PacketValue) (fails : Bool) → state ≡ waiting
    → download_row caller store lists state p fails ≡ option_map (ended_row lists) (reply_waiting p)
unfolding download_row
row_in_waiting caller store lists state p fails is = rw is refl

pub row_in_listing : (caller : CallSign) (store : Store) (lists : List CallerList) (state : DownloadState) (dues : List Due) (p : PacketValue) (fails : Bool) → state ≡ listing dues
    → download_row caller store lists state p fails ≡ None
unfolding download_row
row_in_listing caller store lists state dues p fails is = rw is refl

one-row : (one other : DownloadRow) → Some one ≡ Some other → one ≡ other
one-row one other same = cc

module _ {D : Type 0} (g : Ghosts D) (store : StoreState) (row : Store → Bool → Option DownloadRow) (before : Made) (disk : D) (same : g.lasts disk disk) where
  -- it has this row, for reads that failed or didn't
  pub taken_reading : (disk_now : D) (now : Made) (given : Store → Bool → DownloadRow) → ((files : Store) (fails : Bool) → row files fails ≡ Some (given files fails))
      → MakesRow g store disk disk_now given now → TakesByRow g store row disk disk_now before now true
  taken_reading disk_now now given is makes = record {
    fails = makes.fails;
    reads = makes.reads;
    has = λ files fails. rw (is files fails) refl;
    passed = λ never. absurd (cc never);
    told = λ known failed. rw (is (store_on g store disk) makes.fails) (makes.told known failed);
    is_row = λ known. rw (is (store_on g store disk) makes.fails) (refl, makes.is_row known);
    anyway = λ alike.
        let made_then = makes.anyway (one-row _ _ (sym (is (store_in store) true) ∙ alike ∙ is (store_in store) false)) in
        (made_then.0, rw (is (store_in store) false) (refl, made_then.1));
    says = λ taken. makes.says;
  }

  -- it has this row, and nothing is read
  pub taken_alone : (now : Made) (rows : Store → DownloadRow) (given : DownloadRow) → ((files : Store) (fails : Bool) → row files fails ≡ Some (rows files)) → (IsKnown g disk → rows (store_on g store disk) ≡ given)
      → rows (store_in store) ≡ given → ((files : Store) → IfSome (row files false) (λ r. Keeps false r.replies)) → now ≡ made_by given → TakesByRow g store row disk disk before now true
  taken_alone now rows given is on here quiet makes =
      let at_store : row (store_in store) false ≡ Some given = is (store_in store) false ∙ ap (λ (r : DownloadRow). Some r) here in
      let keeps : Keeps false given.replies = at_told (λ (r : DownloadRow). Keeps false r.replies) given at_store (quiet (store_in store)) in
      record {
        fails = false;
        reads = reads_none g disk (false ≡ true) (λ e. cc e) same;
        has = λ files fails. rw (is files fails) refl;
        passed = λ never. absurd (cc never);
        told = λ known failed. absurd (cc failed);
        is_row = λ known. rw (is (store_on g store disk) false, on known) (refl, makes);
        anyway = λ alike. (refl, rw at_store (refl, makes));
        says = λ taken. says-quiet g disk false given.replies now.replies refl (ap (λ (m : Made). m.replies) makes) (keeps.reads refl) keeps.writes;
      }

  -- it has none
  pub not_taken : ((files : Store) (fails : Bool) → row files fails ≡ None) → TakesByRow g store row disk disk before before false
  not_taken is = record {
    fails = false;
    reads = reads_none g disk (false ≡ true) (λ e. cc e) same;
    has = λ files fails. rw (is files fails) refl;
    passed = λ never. (refl, refl, refl);
    told = λ known failed. absurd (cc failed);
    is_row = λ known. rw (is (store_on g store disk) false) (refl, refl, refl);
    anyway = λ alike. (refl, rw (is (store_in store) false) (refl, refl, refl));
    says = λ taken. absurd (cc taken);
  }

-- a download ends by this reply, if there is one
pub ended_by : {D : Type 0} (g : Ghosts D) (store : StoreState) (row : Store → Bool → Option DownloadRow) (lists : List CallerList) (state : DownloadState) (disk : D) → g.lasts disk disk → (reply : Option Packet)
    (now : DownloadState) (replies_before replies : List ℕ) (result : Bool) → ((files : Store) (fails : Bool) → row files fails ≡ option_map (ended_row lists) (option_map value_of reply))
    → ((files : Store) → IfSome (row files false) (λ r. Keeps false r.replies))
    → IfNone reply ((result ≡ false) × (now ≡ state) × (replies ≡ replies_before)) → IfSome reply (λ packet. (result ≡ true) × (now ≡ ready) × (replies ≡ packet_text (value_of packet)))
    → TakesByRow g store row disk disk (made state lists replies_before) (made now lists replies) result
ended_by g store row lists state disk same None now replies_before replies result is quiet none some = rw (none.0, none.1, none.2) (not_taken g store row (made state lists replies_before) disk same is)
ended_by g store row lists state disk same (Some packet) now replies_before replies result is quiet none some =
    rw (some.0, some.1)
    (taken_alone g store row (made state lists replies_before) disk same (made ready lists replies) (λ files. ended_row lists (value_of packet)) (ended_row lists (value_of packet)) is (λ known. refl) refl quiet
    (ap (λ (l : List ℕ). made ready lists l) (some.2 ∙ sym (append-nil (packet_text (value_of packet))))))
