-- What a run promises of each command, and that all of it holds of words that ask for something else.
use Rattle.std.proofs.Common.{ℕ, List, inl, inr}
use Rattle.px_base.specs.declared.out.Out.{Ghosts as OutGhosts}
use Rattle.px_base.specs.declared.shelf.Shelf.{Ghosts as ShelfGhosts}
use Rattle.pacsat_cli.proofs.Names.{Lent, Seen, AsksServe, AsksSession, AsksClient, AsksMake, ServiceStands, SessionStands, Outside, RunsFetch, RunsList, RunsSend, FetchEndsExactly, ListEndsExactly, SendEndsExactly, SendRefuses, SendStarts, IsNoSuchBy, IsShownBy, IsTooLongBy, RunsServe, WhereServed, IsDoneBy, IsSpentBy, RunsSession, WhereHeard, AsksFile, RunsBody, RunsFile, RunsMake, WhereHeld, Status}

module _ {A C D : Type 0} (words : List (List ℕ)) (see : Seen D A C) (old new : Lent D A C) (s : Status) where
  pub record SessionPart : Type 0 where
    pub session : RunsSession words see old new s
    pub session_acknowledged : SessionStands words see old new
    pub complete : WhereHeard words see.air.heard old.air new.air (IsDoneBy s)
    pub spent : WhereHeard words see.air.heard old.air new.air (IsSpentBy s)

  -- no session
  pub unasked-session : (AsksSession words → ⊥) → SessionPart
  unasked-session none = record {
    session = λ asked is. absurd (none (asked, is));
    session_acknowledged = λ asked is _. absurd (none (asked, is));
    complete = λ told. absurd (none (told.asked, told.asks));
    spent = λ told. absurd (none (told.asked, told.asks));
  }

  pub record ServicePart : Type 0 where
    pub serve : RunsServe words see old new s
    pub serve_acknowledged : ServiceStands words see old new
    pub serve_complete : WhereServed words see.air.heard old.air new.air (IsDoneBy s)
    pub serve_spent : WhereServed words see.air.heard old.air new.air (IsSpentBy s)

  -- no service
  pub unasked-serve : (AsksServe words → ⊥) → ServicePart
  unasked-serve none = record {
    serve = λ asked is. absurd (none (asked, is));
    serve_acknowledged = λ asked is. absurd (none (asked, is));
    serve_complete = λ told. absurd (none (told.asked, told.asks));
    serve_spent = λ told. absurd (none (told.asked, told.asks));
  }

module _ {A C D S O : Type 0} (words : List (List ℕ)) (see : Seen D A C) (sh : ShelfGhosts S) (o : OutGhosts O) (old new : Outside D A C S O) (s : Status) where
  pub record ClientPart : Type 0 where
    pub send : RunsSend words see sh o old new s
    pub fetch : RunsFetch words see sh o old new s
    pub list : RunsList words see o old new s
    pub send_refuses : SendRefuses words sh old.shelf s
    pub send_starts : SendStarts words see.disk sh old.lent old.shelf s
    pub send_exactly : SendEndsExactly words see sh old.lent new.lent old.shelf s
    pub fetch_exactly : FetchEndsExactly words see old.lent new.lent s
    pub list_exactly : ListEndsExactly words see old.lent new.lent s

  -- no client's command
  pub unasked-client : (AsksClient words → ⊥) → ClientPart
  unasked-client none = record {
    send = λ asked name is. absurd (none (inl (asked, name, is)));
    fetch = λ asked number name is. absurd (none (inr (inl (asked, number, name, is))));
    list = λ asked tokens is. absurd (none (inr (inr (asked, tokens, is))));
    send_refuses = λ asked name is. absurd (none (inl (asked, name, is)));
    send_starts = λ of. absurd (none (inl (of.asked, of.name, of.asks)));
    send_exactly = λ of. absurd (none (inl (of.asked, of.name, of.asks)));
    fetch_exactly = λ led. absurd (none (inr (inl (led.asked, led.number, led.name, led.asks))));
    list_exactly = λ led. absurd (none (inr (inr (led.asked, led.tokens, led.asks))));
  }

module _ {S O : Type 0} (words : List (List ℕ)) (sh : ShelfGhosts S) (o : OutGhosts O) (shelf : S) (before now : O) (s : Status) where
  pub record FilePart : Type 0 where
    pub files : RunsFile words sh.held o.shown o.faults shelf before now s
    pub no_such : WhereHeld words (sh.held shelf) (IsNoSuchBy s)
    pub too_long : WhereHeld words (sh.held shelf) (IsTooLongBy s)
    pub files_done : WhereHeld words (sh.held shelf) (IsShownBy s)

  -- no text of a file
  pub unasked-file : (AsksFile words → ⊥) → FilePart
  unasked-file none = record {
    files = λ command name is. absurd (none (command, name, is));
    no_such = λ command name held is. absurd (none (command, name, is));
    too_long = λ command name held is. absurd (none (command, name, is));
    files_done = λ command name held is. absurd (none (command, name, is));
  }

module _ {S : Type 0} (words : List (List ℕ)) (sh : ShelfGhosts S) (before now : S) (s : Status) where
  pub record MakePart : Type 0 where
    pub made : RunsMake words sh.held before now s
    pub body : RunsBody words sh.held before now s

  -- no file that is made
  pub unasked-make : (AsksMake words → ⊥) → MakePart
  unasked-make none = record {
    made = λ body kept asked is. absurd (none (inl (body, kept, asked, is)));
    body = λ name kept is. absurd (none (inr (name, kept, is)));
  }
