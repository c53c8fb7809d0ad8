-- Each list of words has one meaning.
use Rattle.std.specs.Prelude.{◌≡◌, ℕ, ◌⊎◌, List}
use Rattle.header_tool.specs.Made.{MakeValue}
use Rattle.command_words.specs.declared.request.SessionRequest.{SessionRequest}
use Rattle.command_words.specs.declared.serve.ServeRequest.{ServeRequest}
use Rattle.command_words.specs.declared.terms.ClientTerms.{ClientTerms}
use Rattle.command_words.specs.Words.{AsksClient, AsksFetch, AsksHeader, AsksList, AsksRehearse, AsksSend}
use Rattle.command_words.specs.Words.{IsFetch, IsList, IsSend, IsServe, IsSession, IsUsage}
use Rattle.command_words.specs.Words.{IsBody, IsCheck, IsDrawn, IsFrames, IsMake, IsRehearsal, IsShow}

-- the words ask for a session
abbrev pub AsksSession : List (List ℕ) → Type 0
AsksSession words = (asked : SessionRequest) × IsSession words asked

-- the words ask for a service
abbrev pub AsksServe : List (List ℕ) → Type 0
AsksServe words = (asked : ServeRequest) × IsServe words asked

-- the words ask for the frames of a name
abbrev pub AsksFrames : List (List ℕ) → Type 0
AsksFrames words = (name : List ℕ) × IsFrames words name

-- Each list of words isn't in the command set, or asks for a session, for a service, for something of a client, for
-- frames, for a header or for a rehearsal.
abbrev pub HasMeaning : Type 0
HasMeaning =
    (words : List (List ℕ))
    → IsUsage words
    ⊎ (AsksSession words
    ⊎ (AsksServe words ⊎ (AsksClient words ⊎ (AsksFrames words ⊎ (AsksHeader words ⊎ AsksRehearse words)))))

-- It does only one of these,
pub record OnlyOne (words : List (List ℕ)) : Type 0 where
  pub usage_session : IsUsage words → AsksSession words → ⊥
  pub usage_serve : IsUsage words → AsksServe words → ⊥
  pub usage_client : IsUsage words → AsksClient words → ⊥
  pub usage_frames : IsUsage words → AsksFrames words → ⊥
  pub usage_header : IsUsage words → AsksHeader words → ⊥
  pub usage_rehearse : IsUsage words → AsksRehearse words → ⊥
  pub session_serve : AsksSession words → AsksServe words → ⊥
  pub session_client : AsksSession words → AsksClient words → ⊥
  pub session_frames : AsksSession words → AsksFrames words → ⊥
  pub session_header : AsksSession words → AsksHeader words → ⊥
  pub session_rehearse : AsksSession words → AsksRehearse words → ⊥
  pub serve_client : AsksServe words → AsksClient words → ⊥
  pub serve_frames : AsksServe words → AsksFrames words → ⊥
  pub serve_header : AsksServe words → AsksHeader words → ⊥
  pub serve_rehearse : AsksServe words → AsksRehearse words → ⊥
  pub client_frames : AsksClient words → AsksFrames words → ⊥
  pub client_header : AsksClient words → AsksHeader words → ⊥
  pub client_rehearse : AsksClient words → AsksRehearse words → ⊥
  pub frames_header : AsksFrames words → AsksHeader words → ⊥
  pub frames_rehearse : AsksFrames words → AsksRehearse words → ⊥
  pub header_rehearse : AsksHeader words → AsksRehearse words → ⊥
  pub send_fetch : AsksSend words → AsksFetch words → ⊥
  pub send_list : AsksSend words → AsksList words → ⊥
  pub fetch_list : AsksFetch words → AsksList words → ⊥
  pub check_show : (name other : List ℕ) → IsCheck words name → IsShow words other → ⊥
  pub check_make : (name body kept : List ℕ) (spec : MakeValue) → IsCheck words name → IsMake words body kept spec → ⊥
  pub show_make : (name body kept : List ℕ) (spec : MakeValue) → IsShow words name → IsMake words body kept spec → ⊥
  pub check_body : (name other kept : List ℕ) → IsCheck words name → IsBody words other kept → ⊥
  pub show_body : (name other kept : List ℕ) → IsShow words name → IsBody words other kept → ⊥
  pub make_body :
      (body kept name other : List ℕ) (spec : MakeValue) → IsMake words body kept spec → IsBody words name other → ⊥
  pub rehearsal_drawn : (name : List ℕ) (seed count : ℕ) → IsRehearsal words name → IsDrawn words seed count → ⊥

-- the words of `pfh-make` ask for one file, of one body and one header
abbrev pub OnlyMake : List (List ℕ) → Type 0
OnlyMake words =
    (body other kept another : List ℕ) (spec later : MakeValue) → IsMake words body kept spec → IsMake words other another later
    → (body ≡ other) × (kept ≡ another) × (spec ≡ later)

-- those of `pfh-body` for the body of one file, under one name
abbrev pub OnlyBody : List (List ℕ) → Type 0
OnlyBody words =
    (name other kept another : List ℕ) → IsBody words name kept → IsBody words other another
    → (name ≡ other) × (kept ≡ another)

-- those of `rehearse` with options for the rounds of one seed, and for one number of them
abbrev pub OnlyDrawn : List (List ℕ) → Type 0
OnlyDrawn words =
    (seed other count more : ℕ) → IsDrawn words seed count → IsDrawn words other more → (seed ≡ other) × (count ≡ more)

-- the words of `send` ask for one file
abbrev pub OnlySend : List (List ℕ) → Type 0
OnlySend words =
    (terms other : ClientTerms) (name another : List ℕ) → IsSend words terms name → IsSend words other another
    → (terms ≡ other) × (name ≡ another)

-- those of `fetch` ask for one file, under one name
abbrev pub OnlyFetch : List (List ℕ) → Type 0
OnlyFetch words =
    (terms other : ClientTerms) (number more : ℕ) (name another : List ℕ) → IsFetch words terms number name
    → IsFetch words other more another → (terms ≡ other) × (number ≡ more) × (name ≡ another)

-- those of `list` ask for one list
abbrev pub OnlyList : List (List ℕ) → Type 0
OnlyList words =
    (terms other : ClientTerms) (tokens more : List ℕ) → IsList words terms tokens → IsList words other more
    → (terms ≡ other) × (tokens ≡ more)

-- and for one session (of one disk, caller, moment, number of blocks and number of polls), one service (of one call, k,
-- number of blocks and number of polls), one thing of a client (of one server, under one call, with one k and number of
-- polls), one name, and one rehearsal.
pub record Determined (words : List (List ℕ)) : Type 0 where
  pub session : (asked other : SessionRequest) → IsSession words asked → IsSession words other → asked ≡ other
  pub serve : (asked other : ServeRequest) → IsServe words asked → IsServe words other → asked ≡ other
  pub send : OnlySend words
  pub fetch : OnlyFetch words
  pub list : OnlyList words
  pub frames : (name other : List ℕ) → IsFrames words name → IsFrames words other → name ≡ other
  pub check : (name other : List ℕ) → IsCheck words name → IsCheck words other → name ≡ other
  pub show : (name other : List ℕ) → IsShow words name → IsShow words other → name ≡ other
  pub make : OnlyMake words
  pub body : OnlyBody words
  pub rehearsal : (name other : List ℕ) → IsRehearsal words name → IsRehearsal words other → name ≡ other
  pub drawn : OnlyDrawn words
