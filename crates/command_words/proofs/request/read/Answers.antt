-- The third word is the command.
use Rattle.std.proofs.Common.{◌≡◌, List, ◌∷◌, codes, drop, length, lit<, map, refl, string_bytes, subst, sym, take, ◌-◌, ◌∙◌}
use Rattle.command_words.specs.declared.command.ClientCommand.TheVariants as client
use Rattle.command_words.proofs.Names.{Contains, IfOk, IfOk-weaker, AsksFor, client_word, word_of, ClientCommand, commands, FileCommand, Check, Frames, Show}
use Rattle.command_words.proofs.Uses.{Text}
use Rattle.command_words.proofs.Meanings.{body_usage, client_usage, make_usage, name_usage, no_command_usage, rehearse_usage, serve_usage, session_usage, three_words}
use Rattle.command_words.proofs.request.read.Goals as goal

-- ---- a session

session_words : (c : goal.After-session_request)
    → c.args.words.now ≡ c.as_str-in-Some-Session.result.now ∷ c.as_str-in-Some-Session-2.result.now ∷ codes "session" ∷ drop 1 (map string_bytes (take (length c.as_slice-texts.result.now - 2) (drop 2 c.as_slice-texts.result.now)))
session_words c =
    sym c.as_slice-texts.ensures ∙ three_words c.as_slice-texts.result.now c.disk-item.result c.air-item.result c.command-item.result _ _ _ c.in-len3-up.len_at_least c.disk-item.is c.air-item.is c.command-item.is
    c.as_str-in-Some-Session.ensures.value c.as_str-in-Some-Session-2.ensures.value
    (sym (rw c.in-Some-Session.field-0-is at c.in-Some-Session.ensures.some) ∙ c.as_str.ensures.value)

pub returns-in-Some-Session : goal.returns-in-Some-Session
returns-in-Some-Session c = record {
  asks = subst (λ (ws : List Text). IfOk c.session_request.result (AsksFor ws)) (sym (session_words c)) c.session_request.ensures.asks;
  usage = λ usage. session_usage (session_words c) (c.session_request.ensures.refused usage);
  memory = λ _. (_, _, _, _, session_words c, (0, lit< tt, refl));
}

-- ---- a service

serve_words : (c : goal.After-serve_request)
    → c.args.words.now ≡ c.as_str-in-Some-Serve.result.now ∷ c.as_str-in-Some-Serve-2.result.now ∷ codes "serve" ∷ drop 1 (map string_bytes (take (length c.as_slice-texts.result.now - 2) (drop 2 c.as_slice-texts.result.now)))
serve_words c =
    sym c.as_slice-texts.ensures ∙ three_words c.as_slice-texts.result.now c.disk-item.result c.air-item.result c.command-item.result _ _ _ c.in-len3-up.len_at_least c.disk-item.is c.air-item.is c.command-item.is
    c.as_str-in-Some-Serve.ensures.value c.as_str-in-Some-Serve-2.ensures.value
    (sym (rw c.in-Some-Serve.field-0-is at c.in-Some-Serve.ensures.some) ∙ c.as_str.ensures.value)

pub returns-in-Some-Serve : goal.returns-in-Some-Serve
returns-in-Some-Serve c = record {
  asks = subst (λ (ws : List Text). IfOk c.serve_request.result (AsksFor ws)) (sym (serve_words c)) c.serve_request.ensures.asks;
  usage = λ usage. serve_usage (serve_words c) (c.serve_request.ensures.refused usage);
  memory = λ _. (_, _, _, _, serve_words c, (1, lit< tt, refl));
}

-- ---- something of a client

client_words : (c : goal.After-client_request)
    → c.args.words.now ≡ c.as_str-in-Some-Client.result.now ∷ c.as_str-in-Some-Client-2.result.now ∷ client_word c.in-Some-Client.asked ∷ drop 1 (map string_bytes (take (length c.as_slice-texts.result.now - 2) (drop 2 c.as_slice-texts.result.now)))
client_words c =
    sym c.as_slice-texts.ensures ∙ three_words c.as_slice-texts.result.now c.disk-item.result c.air-item.result c.command-item.result _ _ _ c.in-len3-up.len_at_least c.disk-item.is c.air-item.is c.command-item.is
    c.as_str-in-Some-Client.ensures.value c.as_str-in-Some-Client-2.ensures.value
    (sym (rw c.in-Some-Client.field-0-is at c.in-Some-Client.ensures.some) ∙ c.as_str.ensures.value)

-- which is one of the commands
client_known : (command : ClientCommand) → Contains commands (client_word command)
client_known client.Send = (2, lit< tt, refl)
client_known client.Fetch = (3, lit< tt, refl)
client_known client.List = (4, lit< tt, refl)

pub returns-in-Some-Client : goal.returns-in-Some-Client
returns-in-Some-Client c = record {
  asks = subst (λ (ws : List Text). IfOk c.client_request.result (AsksFor ws)) (sym (client_words c)) c.client_request.ensures.asks;
  usage = λ usage. client_usage c.in-Some-Client.asked (client_words c) (c.client_request.ensures.refused usage);
  memory = λ _. (_, _, _, _, client_words c, client_known c.in-Some-Client.asked);
}

-- ---- a command with a name

name_words : (c : goal.After-file_request)
    → c.args.words.now ≡ string_bytes c.disk-item.result ∷ c.as_str-in-Some-File.result.now ∷ word_of c.in-Some-File.shown ∷ drop 1 (map string_bytes (take (length c.as_slice-texts.result.now - 2) (drop 2 c.as_slice-texts.result.now)))
name_words c =
    sym c.as_slice-texts.ensures ∙ three_words c.as_slice-texts.result.now c.disk-item.result c.air-item.result c.command-item.result _ _ _ c.in-len3-up.len_at_least c.disk-item.is c.air-item.is c.command-item.is
    refl c.as_str-in-Some-File.ensures.value (sym (rw c.in-Some-File.field-0-is at c.in-Some-File.ensures.some) ∙ c.as_str.ensures.value)

-- which is one of the commands
name_known : (command : FileCommand) → Contains commands (word_of command)
name_known Frames = (5, lit< tt, refl)
name_known Check = (6, lit< tt, refl)
name_known Show = (7, lit< tt, refl)

pub returns-in-Some-File : goal.returns-in-Some-File
returns-in-Some-File c = record {
  asks = subst (λ (ws : List Text). IfOk c.file_request.result (AsksFor ws)) (sym (name_words c))
      (IfOk-weaker c.file_request.result _ _ (λ request asks. asks (string_bytes c.disk-item.result)) c.file_request.ensures.asks);
  usage = λ usage. name_usage c.in-Some-File.shown (name_words c) (c.file_request.ensures.refused usage (string_bytes c.disk-item.result));
  memory = λ _. (_, _, _, _, name_words c, name_known c.in-Some-File.shown);
}

-- ---- `pfh-make`

make_words : (c : goal.After-make_request)
    → c.args.words.now ≡ string_bytes c.disk-item.result ∷ c.as_str-in-Some-PfhMake.result.now ∷ codes "pfh-make" ∷ drop 1 (map string_bytes (take (length c.as_slice-texts.result.now - 2) (drop 2 c.as_slice-texts.result.now)))
make_words c =
    sym c.as_slice-texts.ensures ∙ three_words c.as_slice-texts.result.now c.disk-item.result c.air-item.result c.command-item.result _ _ _ c.in-len3-up.len_at_least c.disk-item.is c.air-item.is c.command-item.is
    refl c.as_str-in-Some-PfhMake.ensures.value (sym (rw c.in-Some-PfhMake.field-0-is at c.in-Some-PfhMake.ensures.some) ∙ c.as_str.ensures.value)

pub returns-in-Some-PfhMake : goal.returns-in-Some-PfhMake
returns-in-Some-PfhMake c = record {
  asks = subst (λ (ws : List Text). IfOk c.make_request.result (AsksFor ws)) (sym (make_words c))
      (IfOk-weaker c.make_request.result _ _ (λ request asks. asks (string_bytes c.disk-item.result)) c.make_request.ensures.asks);
  usage = λ usage. make_usage (make_words c) (c.make_request.ensures.refused usage (string_bytes c.disk-item.result));
  memory = λ _. (_, _, _, _, make_words c, (8, lit< tt, refl));
}

-- ---- `pfh-body`

body_words : (c : goal.After-body_request)
    → c.args.words.now ≡ string_bytes c.disk-item.result ∷ c.as_str-in-Some-PfhBody.result.now ∷ codes "pfh-body" ∷ drop 1 (map string_bytes (take (length c.as_slice-texts.result.now - 2) (drop 2 c.as_slice-texts.result.now)))
body_words c =
    sym c.as_slice-texts.ensures ∙ three_words c.as_slice-texts.result.now c.disk-item.result c.air-item.result c.command-item.result _ _ _ c.in-len3-up.len_at_least c.disk-item.is c.air-item.is c.command-item.is
    refl c.as_str-in-Some-PfhBody.ensures.value (sym (rw c.in-Some-PfhBody.field-0-is at c.in-Some-PfhBody.ensures.some) ∙ c.as_str.ensures.value)

pub returns-in-Some-PfhBody : goal.returns-in-Some-PfhBody
returns-in-Some-PfhBody c = record {
  asks = subst (λ (ws : List Text). IfOk c.body_request.result (AsksFor ws)) (sym (body_words c))
      (IfOk-weaker c.body_request.result _ _ (λ request asks. asks (string_bytes c.disk-item.result)) c.body_request.ensures.asks);
  usage = λ usage. body_usage (body_words c) (c.body_request.ensures.refused usage (string_bytes c.disk-item.result));
  memory = λ _. (_, _, _, _, body_words c, (9, lit< tt, refl));
}

-- ---- a rehearsal

rehearse_words : (c : goal.After-rehearse_request)
    → c.args.words.now ≡ string_bytes c.disk-item.result ∷ c.as_str-in-Some-Rehearse.result.now ∷ codes "rehearse" ∷ drop 1 (map string_bytes (take (length c.as_slice-texts.result.now - 2) (drop 2 c.as_slice-texts.result.now)))
rehearse_words c =
    sym c.as_slice-texts.ensures ∙ three_words c.as_slice-texts.result.now c.disk-item.result c.air-item.result c.command-item.result _ _ _ c.in-len3-up.len_at_least c.disk-item.is c.air-item.is c.command-item.is
    refl c.as_str-in-Some-Rehearse.ensures.value (sym (rw c.in-Some-Rehearse.field-0-is at c.in-Some-Rehearse.ensures.some) ∙ c.as_str.ensures.value)

pub returns-in-Some-Rehearse : goal.returns-in-Some-Rehearse
returns-in-Some-Rehearse c = record {
  asks = subst (λ (ws : List Text). IfOk c.rehearse_request.result (AsksFor ws)) (sym (rehearse_words c))
      (IfOk-weaker c.rehearse_request.result _ _ (λ request asks. asks (string_bytes c.disk-item.result)) c.rehearse_request.ensures.asks);
  usage = λ usage. rehearse_usage (rehearse_words c) (c.rehearse_request.ensures.refused usage (string_bytes c.disk-item.result));
  memory = λ _. (_, _, _, _, rehearse_words c, (10, lit< tt, refl));
}

-- ---- what is no command

pub returns-in-None-clause-usage : goal.returns-in-None-clause-usage
returns-in-None-clause-usage c = λ usage. no_command_usage
    (sym c.as_slice-texts.ensures ∙ three_words c.as_slice-texts.result.now c.disk-item.result c.air-item.result c.command-item.result _ _ _ c.in-len3-up.len_at_least c.disk-item.is c.air-item.is c.command-item.is
    refl refl c.as_str.ensures.value)
    c.in-None.ensures.none
