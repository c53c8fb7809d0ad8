-- What a client has to send is sent, frame after frame.
use Rattle.std.proofs.Common.{◌≡◌, ℕ, List, [], ◌∷◌, ◌++◌, refl, sym, ◌∙◌, subst, append_assoc}
use Rattle.std.proofs.Common.{Option, None, Some, false, true}
use Rattle.client_notes.specs.State.{IsReady}
use Rattle.ftl0_client.specs.ClientStep.{Empties}
use Rattle.air_rehearsal.specs.declared.attempt.Attempt.{Attempt as StoredAttempt}
use Rattle.air_rehearsal.proofs.Names.{append-nil, FrameText, FrameValue, Ghosts, IsGoodK, Lists, NotesState, NotesGoWith, JobState, AttemptState, HandsOut, SameAttempt, SameButFrames, Client, ClientSends, client_next, ClientState, GoWithAttempt, IsClient, HasLanes, Lanes, sending, sending_each, SaysAll, IsTheirs, Party as StoredParty}

-- These frames were sent so far, and the client is one that has still to send what is left.
pub record SaysSoFar (client : Client) (lanes : Lanes) (self : StoredParty) : Type 0 where
  pub front : List FrameValue
  pub now : Client
  pub sent : (more : List FrameValue) (last : Client) → Empties now more last → Empties client (front ++ more) last
  pub is_now : IsClient self.client now
  pub lanes_are : HasLanes self.attempt (sending_each front lanes)

-- one frame behind others
sending_more : (frames : List FrameValue) (frame : FrameValue) (lanes : Lanes)
    → sending_each (frames ++ frame ∷ []) lanes ≡ sending frame (sending_each frames lanes)
sending_more [] frame lanes = refl
sending_more (first ∷ frames) frame lanes = sending_more frames frame (sending first lanes)

-- nothing was sent yet
pub says_none : (client : Client) (lanes : Lanes) (self : StoredParty) → IsClient self.client client
    → HasLanes self.attempt lanes → SaysSoFar client lanes self
says_none client lanes self is has = record {
  front = [];
  now = client;
  sent = λ more last empties. empties;
  is_now = is;
  lanes_are = has;
}

-- a frame was handed out: the client sends it next, and is the one that has sent it
pub record HandedOut (now : Client) (self : ClientState) (octets : List ℕ) : Type 0 where
  pub sends : ClientSends
  pub next_is : client_next now ≡ Some sends
  pub is_after : IsClient self sends.after
  pub text : FrameText sends.frame octets

pub handed_out : (now : Client) (old new : ClientState) (before octets : List ℕ)
    → HandsOut (client_next now) old new before octets true → HandedOut now new octets
handed_out now old new before octets hands = by (client_next now) refl hands
  where
    by : (o : Option ClientSends) → client_next now ≡ o → HandsOut o old new before octets true
        → HandedOut now new octets
    by None is hands = absurd (let no = hands.0 in let x : ⊥ = cc in x)
    by (Some sends) is hands = record { sends = sends; next_is = is; is_after = hands.1; text = hands.3 }

pub none_left : (now : Client) (old new : ClientState) (before octets : List ℕ)
    → HandsOut (client_next now) old new before octets false → client_next now ≡ None
none_left now old new before octets hands = by (client_next now) refl hands
  where
    by : (o : Option ClientSends) → client_next now ≡ o → HandsOut o old new before octets false
        → client_next now ≡ None
    by None is hands = is
    by (Some sends) is hands = absurd (let no = hands.0 in let x : ⊥ = cc in x)

module _ (client : Client) (lanes : Lanes) (old new : StoredParty) (octets : List ℕ) where
  -- one frame more was handed out and sent
  pub says_more : (so_far : SaysSoFar client lanes old) → HandedOut so_far.now new.client octets
      → ((lanes : Lanes) (frame : FrameValue) → HasLanes old.attempt lanes → FrameText frame octets
      → HasLanes new.attempt (sending frame lanes))
      → SaysSoFar client lanes new
  says_more so_far handed sends =
      let frame : FrameValue = handed.sends.frame in
      record {
        front = so_far.front ++ frame ∷ [];
        now = handed.sends.after;
        sent = λ more last empties.
            subst (λ (frames : List FrameValue). Empties client frames last)
            (sym (append_assoc so_far.front (frame ∷ []) more))
            (so_far.sent (frame ∷ more) last (handed.sends, handed.next_is, refl, empties));
        is_now = handed.is_after;
        lanes_are =
            subst (λ (l : Lanes). HasLanes new.attempt l) (sym (sending_more so_far.front frame lanes))
            (sends (sending_each so_far.front lanes) frame so_far.lanes_are handed.text);
      }

-- nothing is left to be sent
pub says_all : (client : Client) (lanes : Lanes) (old new : StoredParty) (so_far : SaysSoFar client lanes old)
    → client_next so_far.now ≡ None → new.client ≡ old.client → new.attempt ≡ old.attempt → SaysAll client lanes new
says_all client lanes old new so_far none client_is attempt_is = record {
  frames = so_far.front ++ [];
  last = so_far.now;
  empties = so_far.sent [] so_far.now (none, refl);
  is_last = subst (λ (s : ClientState). IsClient s so_far.now) (sym client_is) so_far.is_now;
  lanes_are =
      subst (λ (frames : List FrameValue). HasLanes new.attempt (sending_each frames lanes))
      (sym (append-nil so_far.front))
      (subst (λ (a : StoredAttempt). HasLanes a (sending_each so_far.front lanes)) (sym attempt_is) so_far.lanes_are);
}

-- ---- what the next event needs stays

goes_same : (lists : Lists) (old new : Option AttemptState) → SameAttempt old new → GoWithAttempt lists old
    → GoWithAttempt lists new
goes_same lists None None same goes = tt
goes_same lists None (Some new) same goes = absurd same
goes_same lists (Some old) None same goes = absurd same
goes_same lists (Some old) (Some new) same goes = subst (λ (j : JobState). NotesGoWith lists j) (sym same.job) goes

-- a client that gave out a frame is still of these stations
pub theirs_still : {D : Type 0} (g : Ghosts D) (old new : StoredParty) (disk : D) → new.me ≡ old.me
    → new.server ≡ old.server → new.k ≡ old.k → SameButFrames old.client new.client → IsTheirs g old disk
    → IsTheirs g new disk
theirs_still g old new disk me server k same theirs = record {
  window = subst IsGoodK (sym k) theirs.window;
  me = same.same.me ∙ theirs.me ∙ sym me;
  server = same.same.server ∙ theirs.server ∙ sym server;
  k = same.same.k ∙ theirs.k ∙ sym k;
  may = record {
    ready = subst (λ (n : NotesState). IsReady g n disk) (sym same.notes) theirs.may.ready;
    notes_are =
        goes_same new.client.notes.lists old.client.attempt new.client.attempt same.attempt
        (subst (λ (n : NotesState). GoWithAttempt n.lists old.client.attempt) (sym same.notes) theirs.may.notes_are);
  };
}
