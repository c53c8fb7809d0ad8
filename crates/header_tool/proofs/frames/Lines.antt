-- The texts of parts: put together, taken apart, and one at most.
use Rattle.std.proofs.Common.{◌≡◌, ℕ, List, [], ◌∷◌, ◌++◌, sym, ap, ◌∙◌, subst, inl, inr, append_assoc}
use Rattle.header_tool.proofs.Names.{Part, Frame, Dropped, Passed, IsNoFrame, IsOneFault, IsOneFrame, fault_line, frame_line, LineOf, LinesOf, line_feed}

-- a line before a text
line_before : (line rest more : List ℕ) → (line ++ line_feed ∷ rest) ++ more ≡ line ++ line_feed ∷ (rest ++ more)
line_before line rest more = append_assoc line (line_feed ∷ rest) more

-- the text of parts and then of others
pub LinesOf-append : (parts others : List Part) (text more : List ℕ) → LinesOf parts text → LinesOf others more → LinesOf (parts ++ others) (text ++ more)
LinesOf-append [] others text more h k = subst (LinesOf others) (ap (λ (x : List ℕ). x ++ more) (sym h)) k
LinesOf-append (part ∷ parts) others text more h k = (
  h.0,
  h.1 ++ more,
  h.2,
  LinesOf-append parts others h.1 more h.3 k,
  ap (λ (x : List ℕ). x ++ more) h.4 ∙ line_before h.0 h.1 more,
)

-- the text of the last of the parts
pub rest_text : (parts others : List Part) (text : List ℕ) → LinesOf (parts ++ others) text → (more : List ℕ) × LinesOf others more
rest_text [] others text h = (text, h)
rest_text (part ∷ parts) others text h = rest_text parts others h.1 h.3

module _ (frame : IsOneFrame) (fault : IsOneFault) (none : IsNoFrame) where
  -- a part has one line at most
  line_one : (part : Part) (one other : List ℕ) → LineOf part one → LineOf part other → one ≡ other
  line_one (Frame octets) one other (inl h) (inl k) = h.2 ∙ ap frame_line (frame h.0 k.0 octets h.1 k.1) ∙ sym k.2
  line_one (Frame octets) one other (inl h) (inr k) = absurd (none k.0 octets h.0 k.1 h.1)
  line_one (Frame octets) one other (inr h) (inl k) = absurd (none h.0 octets k.0 h.1 k.1)
  line_one (Frame octets) one other (inr h) (inr k) = h.2 ∙ ap fault_line (fault h.0 k.0 octets h.1 k.1) ∙ sym k.2
  line_one Dropped one other h k = h ∙ sym k
  line_one Passed one other h k = h ∙ sym k

  -- parts have one text at most
  pub text_one : (parts : List Part) (one other : List ℕ) → LinesOf parts one → LinesOf parts other → one ≡ other
  text_one [] one other h k = h ∙ sym k
  text_one (part ∷ parts) one other h k =
      h.4
      ∙ ap (λ (x : List ℕ). x ++ line_feed ∷ h.1) (line_one part h.0 k.0 h.2 k.2)
      ∙ ap (λ (x : List ℕ). k.0 ++ line_feed ∷ x) (text_one parts h.1 k.1 h.3 k.3)
      ∙ sym k.4
