-- Lemmas on the lines of a text.
use Rattle.std.proofs.Common.{ℕ, ◌≤◌, List, codes, sym, subst, refl, arith}
use Rattle.air_schedule.proofs.Names.{AllByRecursion, IsUtf8, join_with_byte-slice_split, Event, ask_download, ask_list, ask_resume, ask_upload, break_client, cut_client, cut_server, tick_client, tick_server, to_client, to_server, EventText, Line, LineWords, client_line, event_line, window_line, words_of}
use Rattle.air_schedule.proofs.WordLemmas.{IsText, IsText-call, IsText-decimal, IsText-hex, IsUtf8-joined, text}

-- all these words are text
abbrev AreTexts : List (List ℕ) → Type 0
AreTexts = AllByRecursion IsText

event_texts : (event : Event) (words : List (List ℕ)) → EventText event words → AreTexts words
event_texts (ask_upload c count) words h =
    subst AreTexts (sym h.1.2) (text (codes "ask") refl, (IsText-decimal c h.1.0, (text (codes "upload") refl, (IsText-decimal count h.1.1, tt))))
event_texts (ask_resume c) words h =
    subst AreTexts (sym h.1.1) (text (codes "ask") refl, (IsText-decimal c h.1.0, (text (codes "resume") refl, tt)))
event_texts (ask_list c tokens) words h =
    subst AreTexts (sym h.1.3) (text (codes "ask") refl, (IsText-decimal c h.1.1, (text (codes "list") refl, (IsText-hex h.1.0 tokens h.1.2, tt))))
event_texts (ask_download c number) words h =
    subst AreTexts (sym h.1.2) (text (codes "ask") refl, (IsText-decimal c h.1.0, (text (codes "download") refl, (IsText-decimal number h.1.1, tt))))
event_texts (to_server c number) words h =
    subst AreTexts (sym h.1.2) (text (codes "air") refl, (text (codes "server") refl, (IsText-decimal c h.1.0, (IsText-decimal number h.1.1, tt))))
event_texts (to_client c number) words h =
    subst AreTexts (sym h.1.2) (text (codes "air") refl, (text (codes "client") refl, (IsText-decimal c h.1.0, (IsText-decimal number h.1.1, tt))))
event_texts tick_server words h = subst AreTexts (sym h.1) (text (codes "tick") refl, (text (codes "server") refl, tt))
event_texts (tick_client c) words h = subst AreTexts (sym h.1.1) (text (codes "tick") refl, (IsText-decimal c h.1.0, tt))
event_texts (break_client c) words h = subst AreTexts (sym h.1.1) (text (codes "break") refl, (IsText-decimal c h.1.0, tt))
event_texts (cut_server call choice) words h =
    subst AreTexts (sym h.1.2) (text (codes "cut") refl, (text (codes "server") refl, (IsText-decimal call h.1.0, (IsText-decimal choice h.1.1, tt))))
event_texts (cut_client c call choice) words h =
    subst AreTexts (sym h.1.3) (text (codes "cut") refl, (IsText-decimal c h.1.0, (IsText-decimal call h.1.1, (IsText-decimal choice h.1.2, tt))))

line_texts : (said : Line) (words : List (List ℕ)) → LineWords said words → AreTexts words
line_texts (window_line size) words h =
    subst AreTexts (sym h.2) (text (codes "window") refl, (IsText-decimal size (let most : size ≤ 7 = h.1 in omega arith), tt))
line_texts (client_line call) words h = subst AreTexts (sym h.2) (text (codes "client") refl, (IsText-call call h.0 h.1, tt))
line_texts (event_line event) words h = event_texts event words h

-- each line of a schedule is text
pub line_is_text : (said : Line) (line : List ℕ) → LineWords said (words_of line) → IsUtf8 line
line_is_text said line h =
    subst IsUtf8 (join_with_byte-slice_split 32 line) (IsUtf8-joined (words_of line) (line_texts said (words_of line) h))
