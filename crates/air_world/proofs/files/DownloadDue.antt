-- What a session of a download sends without being asked: the rest of the file, piece by piece, and then DATA_END.
use Rattle.std.proofs.Common.{◌≡◌, ℕ, ◌+◌, ◌-◌, ◌≤◌, ◌==◌, min, List, [], ◌∷◌, ◌++◌, length, take, drop, refl, ap, sym}
use Rattle.std.proofs.Common.{◌∙◌, false, Some, arith, length-append, length-drop, length-take, append_assoc}
use Rattle.std.proofs.Common.{append-nil, take-append-drop, add-zero}
use Rattle.std.proofs.lemmas.List.Folds.{concat-append}
use Rattle.ftl0_session.specs.Downloads.Table as download
use Rattle.ftl0_session.specs.Table.{DuePacket}
use Rattle.air_world.proofs.files.Names.{concat, nat_tests, drop-drop, drop-append-add, data_end, data_part, Store, most_data, octets_due, file_of, next_due, sending, waiting, take-all, file-complete, AreAllSent, AreSentFrom}

-- the packet that goes on with the file, if these octets of it are left
abbrev pub rest_due : ℕ → ℕ → ℕ → List ℕ → DuePacket
rest_due number place last [] = record { packet = data_end; state = waiting }
rest_due number place last (octet ∷ octets) =
    record {
      packet = data_part (take most_data (octet ∷ octets));
      state = sending number (place + min most_data (last - place)) last;
    }

module _ (store : Store) (number : ℕ) (file : List ℕ) (is_file : file_of store number ≡ Some file) where
  -- the octets that are due are the file's from the place on
  due-octets : (place : ℕ) → octets_due store (download.sending number place (length file)) ≡ drop place file
  due-octets place =
      ap (λ (octets : List ℕ). take (length file - place) (drop place octets))
      (file-complete store number file is_file).1
      ∙ take-all (length file - place) (drop place file) (omega (arith, length-drop place file))

  pub due-is : (place : ℕ) (rest : List ℕ) → drop place file ≡ rest
      → next_due store (sending number place (length file)) false ≡ Some (rest_due number place (length file) rest)
  due-is place rest is = by rest (due-octets place ∙ is)
    where
      by : (octets : List ℕ) → octets_due store (download.sending number place (length file)) ≡ octets
          → next_due store (sending number place (length file)) false ≡ Some
          (rest_due number place (length file) octets)
      by [] none = rw none refl
      by (octet ∷ octets) some =
          let left : (length (octet ∷ octets) == 0) ≡ false = grind (arith, nat_tests) in
          rw some (rw left refl)

-- what is left of the file after what was sent
module _ (store : Store) (number offset : ℕ) (file : List ℕ) (parts : List (List ℕ))
    (sent : AreSentFrom store number offset file parts) where
  abbrev pub place_then : ℕ
  place_then = offset + length (concat parts)

  abbrev pub left_then : List ℕ
  left_then = sent.sent.0

  pub left-is : drop place_then file ≡ left_then
  left-is =
      sym (drop-drop (length (concat parts)) offset file)
      ∙ ap (λ (l : List ℕ). drop (length (concat parts)) l) sent.sent.1
      ∙ ap (λ (n : ℕ). drop n (concat parts ++ left_then)) (sym (add-zero (length (concat parts))))
      ∙ drop-append-add (concat parts) left_then 0

  left-length : length left_then ≡ length file - place_then
  left-length = ap length (sym left-is) ∙ length-drop place_then file

  -- it lies within the file
  pub place-within : place_then ≤ length file
  place-within =
      let all : length (drop offset file) ≡ length (concat parts) + length left_then =
      ap length sent.sent.1 ∙ length-append (concat parts) left_then in
      omega (arith, all, length-drop offset file, sent.within)

  pub due-then : next_due store (sending number place_then (length file)) false ≡ Some
      (rest_due number place_then (length file) left_then)
  due-then = due-is store number file sent.is_file place_then left_then left-is

  -- nothing is left: all were sent
  pub all-sent : left_then ≡ [] → AreAllSent store number offset file parts
  all-sent none = (sent, sym (sent.sent.1 ∙ ap (λ (l : List ℕ). concat parts ++ l) none ∙ append-nil (concat parts)))

  -- the next octets that are left are sent too
  concat-more : (octets : List ℕ) → concat (parts ++ octets ∷ []) ≡ concat parts ++ octets
  concat-more octets = concat-append parts (octets ∷ []) ∙ ap (λ (l : List ℕ). concat parts ++ l) (append-nil octets)

  pub more-sent : AreSentFrom store number offset file (parts ++ take most_data left_then ∷ [])
  more-sent = record {
    is_file = sent.is_file;
    within = sent.within;
    sent = (
      drop most_data left_then,
      sent.sent.1 ∙ ap (λ (l : List ℕ). concat parts ++ l) (sym (take-append-drop most_data left_then))
          ∙ sym (append_assoc (concat parts) (take most_data left_then) (drop most_data left_then))
          ∙ ap (λ (l : List ℕ). l ++ drop most_data left_then) (sym (concat-more (take most_data left_then))),
    );
  }

  pub place-more : offset + length (concat (parts ++ take most_data left_then ∷ [])) ≡ place_then + min most_data
      (length file - place_then)
  place-more =
      let all : length (concat (parts ++ take most_data left_then ∷ [])) ≡ length (concat parts) + length
      (take most_data left_then) =
      ap length (concat-more (take most_data left_then)) ∙ length-append (concat parts) (take most_data left_then) in
      omega (arith, all, length-take most_data left_then, left-length)
