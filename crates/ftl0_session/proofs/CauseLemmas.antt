-- The causes of code 3 in what is replied.
use Rattle.std.proofs.Common.{◌≡◌, ℕ, ◌+◌, ◌*◌, List, [], ◌∷◌, Bool, true, false, true≢false, refl, sym, ap, ◌∙◌, arith, append-nil, eq-eqb, ◌==◌}
use Rattle.ftl0_session.proofs.Names.{AllByRecursion, Ghosts, texts, PacketValue, data_end, data_part, dl_error_resp, packet_text, ul_error_resp, ul_nak_resp, one_if, HasCause, Says, failed_reads_told, tells_failed_read, IsNoFault}

not-told : (b : Bool) (n : ℕ) → one_if b + n ≡ 0 → b ≡ false
not-told true n none = absurd (omega (arith, none))
not-told false n none = refl

rest-none : (a b : ℕ) → a + b ≡ 0 → b ≡ 0
rest-none a b none = omega (arith, none)

module _ {D : Type 0} (g : Ghosts D) (disk : D) (fails : Bool) where
  -- a packet that reports no failed read and no failed write
  cause-quiet : (packet : PacketValue) → tells_failed_read packet ≡ false → IsNoFault packet → HasCause g disk fails packet
  cause-quiet (ul_error_resp code) silent other = λ three. other.0 (ap ul_error_resp three)
  cause-quiet (ul_nak_resp code) silent other = λ three. absurd (other.1 (ap ul_nak_resp three))
  cause-quiet (dl_error_resp code) silent other = λ three. absurd (true≢false (sym (eq-eqb code 3 three) ∙ silent))
  cause-quiet packet silent other = tt

  causes-quiet : (said : List PacketValue) → failed_reads_told said ≡ 0 → AllByRecursion IsNoFault said → AllByRecursion (HasCause g disk fails) said
  causes-quiet [] none others = tt
  causes-quiet (packet ∷ said) none others = (
    cause-quiet packet (not-told (tells_failed_read packet) (failed_reads_told said) none) others.0,
    causes-quiet said (rest-none (one_if (tells_failed_read packet)) (failed_reads_told said) none) others.1,
  )

  -- packets that do, if no read failed
  pub says-quiet : (said : List PacketValue) (replies : List ℕ) → fails ≡ false → replies ≡ texts said → failed_reads_told said ≡ 0 → AllByRecursion IsNoFault said → Says g disk fails replies
  says-quiet said replies fine text none others =
      record { said = said; text = text; told = λ failed. absurd (true≢false (sym failed ∙ fine)); causes = causes-quiet said none others }

  -- nothing
  pub says-nothing : (replies : List ℕ) → fails ≡ false → replies ≡ [] → Says g disk fails replies
  says-nothing replies fine text = says-quiet [] replies fine text refl tt

  -- one packet, with its cause
  pub says-one : (replies : List ℕ) (packet : PacketValue) → replies ≡ texts (packet ∷ []) → (fails ≡ true → tells_failed_read packet ≡ true) → HasCause g disk fails packet → Says g disk fails replies
  says-one replies packet text tells cause = record { said = packet ∷ []; text = text; told = λ failed. (packet, refl, tells failed); causes = (cause, tt) }

  -- a refusal with another code
  pub says-refused : (code : ℕ) (replies : List ℕ) → fails ≡ false → (code == 3) ≡ false → replies ≡ packet_text (dl_error_resp code) → Says g disk fails replies
  says-refused code replies fine other text = record {
    said = dl_error_resp code ∷ [];
    text = text ∙ sym (append-nil (packet_text (dl_error_resp code)));
    told = λ failed. absurd (true≢false (sym failed ∙ fine));
    causes = ((λ three. absurd (true≢false (sym (eq-eqb code 3 three) ∙ other))), tt);
  }

-- ---- the texts of what is sent

abbrev second : List ℕ → ℕ
second [] = 0
second (a ∷ []) = 0
second (a ∷ b ∷ rest) = b

never-nine : (x : ℕ) → 32 * x + 0 ≡ 9 → ⊥
never-nine x same = omega (arith, same)

-- the text of DATA isn't that of a refusal
pub part-no_error : (octets : List ℕ) → packet_text (data_part octets) ≡ packet_text (dl_error_resp 3) → ⊥
part-no_error octets same = never-nine _ (ap second same)

-- nor is that of DATA_END
pub end-no_error : packet_text data_end ≡ packet_text (dl_error_resp 3) → ⊥
end-no_error same = let kinds : 1 ≡ 9 = ap second same in omega (arith, kinds)
