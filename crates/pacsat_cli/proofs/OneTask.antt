-- Words ask for one thing to do.
use Rattle.std.proofs.Common.{◌≡◌, ℕ, List, refl, inl, inr}
use Rattle.command_words.specs.declared.command.FileCommand.TheVariants.{Frames, Show, Check}
use Rattle.command_words.specs.declared.client.ClientRequest.TheVariants as client
use Rattle.pacsat_cli.proofs.Names.{ClientRequest, MakingRequest, Make, Body, RehearseRequest, Drawn, Schedule, AsksClientFor, AsksMakingFor, AsksRehearseFor, make_value, AsksText, AsksServe, AsksSession, Determined, OnlyOne, AsksClient, AsksMake, AsksRehearse, IsUsage, FileCommand, AsksNode, AsksStore, AsksFile}

module _ (words : List (List ℕ)) where
  -- a request is a command
  pub asks-client : (request : ClientRequest) → AsksClientFor words request → AsksClient words
  asks-client (client.Send asked) is = inl (asked.terms, asked.name.now, is)
  asks-client (client.Fetch asked) is = inr (inl (asked.terms, asked.number, asked.name.now, is))
  asks-client (client.List asked) is = inr (inr (asked.terms, is.0, is.2))

  pub asks-make : (request : MakingRequest) → AsksMakingFor words request → AsksMake words
  asks-make (Make asked) is = inl (asked.body.now, asked.kept.now, make_value asked.header, is)
  asks-make (Body asked) is = inr (asked.name.now, asked.kept.now, is)

  pub asks-rehearse : (request : RehearseRequest) → AsksRehearseFor words request → AsksRehearse words
  asks-rehearse (Schedule name) is = inl (name.now, is)
  asks-rehearse (Drawn seed count) is = inr (seed, count, is)

module _ (words : List (List ℕ)) (only : OnlyOne words) where
  -- words that ask for the text of a file are in the command set, and ask for no session and no service
  pub usage-file : IsUsage words → AsksFile words → ⊥
  usage-file usage (Frames, name, is) = only.usage_frames usage (name, is)
  usage-file usage (Show, name, is) = only.usage_header usage (inr (inl (name, is)))
  usage-file usage (Check, name, is) = only.usage_header usage (inl (name, is))

  pub session-file : AsksSession words → AsksFile words → ⊥
  session-file session (Frames, name, is) = only.session_frames session (name, is)
  session-file session (Show, name, is) = only.session_header session (inr (inl (name, is)))
  session-file session (Check, name, is) = only.session_header session (inl (name, is))

  pub serve-file : AsksServe words → AsksFile words → ⊥
  serve-file serve (Frames, name, is) = only.serve_frames serve (name, is)
  serve-file serve (Show, name, is) = only.serve_header serve (inr (inl (name, is)))
  serve-file serve (Check, name, is) = only.serve_header serve (inl (name, is))

  pub node-file : AsksNode words → AsksFile words → ⊥
  node-file node file = elim node [ inl session ↦ session-file session file | inr serve ↦ serve-file serve file ]

  -- nor for a file that is made
  pub file-make : AsksFile words → AsksMake words → ⊥
  file-make (Frames, name, is) make = only.frames_header (name, is) (inr (inr make))
  file-make (Show, name, is) (inl (body, kept, asked, make)) = only.show_make name body kept asked is make
  file-make (Show, name, is) (inr (other, kept, body)) = only.show_body name other kept is body
  file-make (Check, name, is) (inl (body, kept, asked, make)) = only.check_make name body kept asked is make
  file-make (Check, name, is) (inr (other, kept, body)) = only.check_body name other kept is body

  -- and so do those that ask for a file that is made
  pub usage-make : IsUsage words → AsksMake words → ⊥
  usage-make usage make = only.usage_header usage (inr (inr make))

  pub session-make : AsksSession words → AsksMake words → ⊥
  session-make session make = only.session_header session (inr (inr make))

  pub serve-make : AsksServe words → AsksMake words → ⊥
  serve-make serve make = only.serve_header serve (inr (inr make))

  pub node-make : AsksNode words → AsksMake words → ⊥
  node-make node make = elim node [ inl session ↦ session-make session make | inr serve ↦ serve-make serve make ]

  -- nor is any of these a client's command
  pub file-client : AsksFile words → AsksClient words → ⊥
  file-client (Frames, name, is) client = only.client_frames client (name, is)
  file-client (Show, name, is) client = only.client_header client (inr (inl (name, is)))
  file-client (Check, name, is) client = only.client_header client (inl (name, is))

  pub make-client : AsksMake words → AsksClient words → ⊥
  make-client make client = only.client_header client (inr (inr make))

  pub node-client : AsksNode words → AsksClient words → ⊥
  node-client node client = elim node [ inl session ↦ only.session_client session client | inr serve ↦ only.serve_client serve client ]

  pub store-client : AsksStore words → AsksClient words → ⊥
  store-client store client = elim store [ inl session ↦ only.session_client (session.0, session.1) client | inr serve ↦ only.serve_client serve client ]

  -- nor a rehearsal
  pub file-rehearse : AsksFile words → AsksRehearse words → ⊥
  file-rehearse (Frames, name, is) rehearse = only.frames_rehearse (name, is) rehearse
  file-rehearse (Show, name, is) rehearse = only.header_rehearse (inr (inl (name, is))) rehearse
  file-rehearse (Check, name, is) rehearse = only.header_rehearse (inl (name, is)) rehearse

  pub make-rehearse : AsksMake words → AsksRehearse words → ⊥
  make-rehearse make rehearse = only.header_rehearse (inr (inr make)) rehearse

  pub node-rehearse : AsksNode words → AsksRehearse words → ⊥
  node-rehearse node rehearse = elim node [ inl session ↦ only.session_rehearse session rehearse | inr serve ↦ only.serve_rehearse serve rehearse ]

  -- they ask for one text of one file
  pub one-text : Determined words → (command other : FileCommand) (name another : List ℕ) → AsksText words command name → AsksText words other another → (command ≡ other) × (name ≡ another)
  one-text determined Frames Frames name another is too = (refl, determined.frames name another is too)
  one-text determined Show Show name another is too = (refl, determined.show name another is too)
  one-text determined Check Check name another is too = (refl, determined.check name another is too)
  one-text determined Frames Show name another is too = absurd (only.frames_header (name, is) (inr (inl (another, too))))
  one-text determined Frames Check name another is too = absurd (only.frames_header (name, is) (inl (another, too)))
  one-text determined Show Frames name another is too = absurd (only.frames_header (another, too) (inr (inl (name, is))))
  one-text determined Show Check name another is too = absurd (only.check_show another name too is)
  one-text determined Check Frames name another is too = absurd (only.frames_header (another, too) (inl (name, is)))
  one-text determined Check Show name another is too = absurd (only.check_show name another is too)
