-- Which row of a session's table replies UL_ACK_RESP.
use Rattle.std.proofs.Common.{◌≡◌, ℕ, List, [], ◌∷◌, ◌++◌, ◌||◌, Bool, true, false, None, refl, sym, ◌∙◌, true≢false}
use Rattle.std.proofs.lemmas.Option.{IfSome_then}
use Rattle.pfh_items.specs.Faults.{fault_code}
use Rattle.ftl0_session.specs.Downloads.Table as download
use Rattle.ftl0_session.specs.Downloads.Table.{DownloadState, ready}
use Rattle.ftl0_session.specs.Lists.Lists.{CallerList}
use Rattle.ftl0_session.proofs.downloads.ReplyLemmas.{row_replies}
use Rattle.server_node.proofs.acknowledged.Names.{Ok, IfSome, CallSign, kind_of_item, Item, PacketValue, data_end, ul_ack_resp, Store, entry_of, octets_at, State, error_by, receiving, session_row, state_by, is_all, is_upload_kind, OfUploads, session-case, upload-case}

abbrev pub is_ack : PacketValue → Bool
is_ack ul_ack_resp = true
is_ack packet = false

-- whether it is one of these
abbrev pub acks : List PacketValue → Bool
acks [] = false
acks (packet ∷ packets) = is_ack packet || acks packets

-- all octets of the file came, and it has no fault
abbrev pub IsAllGood : Store → ℕ → List ℕ → Type 0
IsAllGood store number rest = (is_all (entry_of store number) rest ≡ true) × (fault_code (octets_at (entry_of store number) ++ rest) ≡ None)

-- it is that of DATA_END in this state, of a file of which all octets came, at which no read failed, and replies nothing
-- else
pub record Acks (store : Store) (state : State) (item : Item) (fails : Bool) (replies : List PacketValue) : Type 0 where
  pub number : ℕ
  pub rest : List ℕ
  pub state_is : state ≡ receiving number rest
  pub item_is : item ≡ Ok data_end
  pub good : IsAllGood store number rest
  pub read : fails ≡ false
  pub only : replies ≡ ul_ack_resp ∷ []

abbrev AcksIn : Store → Bool → State → Item → List PacketValue → Type 0
AcksIn store fails state item replies = acks replies ≡ true → Acks store state item fails replies

never : (store : Store) (fails : Bool) (state : State) (item : Item) (replies : List PacketValue) → acks replies ≡ false → AcksIn store fails state item replies
never store fails state item replies none h = absurd (true≢false (sym h ∙ none))

uploads-ack : (caller : CallSign) (moment : ℕ) (store : Store) (fails : Bool) → OfUploads caller moment store fails (λ part item row. AcksIn store fails (state_by part ready) item row.replies)
uploads-ack caller moment store fails = record {
  granted = λ number len can. never store fails _ _ _ refl;
  resumed = λ number len e found theirs partly. never store fails _ _ _ refl;
  refused = λ part item code other. never store fails _ _ _ refl;
  taken = λ n rest octets room. never store fails _ _ _ refl;
  too_many = λ n rest octets. never store fails _ _ _ refl;
  whole = λ n rest fine all good h. record { number = n; rest = rest; state_is = refl; item_is = refl; good = (all, good); read = fine; only = refl };
  faulty = λ n rest code other. never store fails _ _ _ refl;
  unread = λ n rest failed all. never store fails _ _ _ refl;
  too_few = λ n rest. never store fails _ _ _ refl;
  waited = λ octets. never store fails _ _ _ refl;
  ended = never store fails _ _ _ refl;
}

-- no row of downloading does, and no error
part-acks : (caller : CallSign) (store : Store) (lists : List CallerList) (part : DownloadState) (packet : PacketValue) (fails : Bool)
    → IfSome (download.download_row caller store lists part packet fails) (λ row. acks row.replies ≡ false)
part-acks caller store lists part packet fails =
    row_replies fails (λ replies. acks replies ≡ false) refl (λ code other. refl) (λ failed. refl) (λ count. refl) refl refl caller store lists part packet

error-acks : (b : Bool) → acks (error_by b ∷ []) ≡ false
error-acks true = refl
error-acks false = refl

pub row-acks : (caller : CallSign) (moment : ℕ) (store : Store) (lists : List CallerList) (state : State) (item : Item) (fails : Bool) → acks (session_row caller moment store lists state item fails).replies ≡ true
    → Acks store state item fails (session_row caller moment store lists state item fails).replies
row-acks caller moment store lists state item fails =
    session-case caller moment store lists fails (λ at given row. AcksIn store fails at given row.replies) (upload-case (uploads-ack caller moment store fails))
    (λ part packet. IfSome_then (download.download_row caller store lists part packet fails) (part-acks caller store lists part packet fails) (λ row none. never store fails _ _ row.replies none))
    (λ at given. never store fails at given _ (error-acks (is_upload_kind (kind_of_item given)))) state item
