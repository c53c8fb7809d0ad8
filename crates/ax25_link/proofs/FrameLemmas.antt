-- The I frames that a link sends are those of the ends that it stands for.
use Rattle.std.proofs.Common.{◌≡◌, ℕ, zero, suc, ◌+◌, ◌-◌, ◌%◌, ◌≤◌, ◌==◌, Bool, true, false, if◌then◌else◌, List, [], ◌∷◌, ◌++◌, length, drop, refl, ap, sym, ◌∙◌, subst, append_assoc, length-drop, zero-add, suc-add, arith}
use Rattle.ax25_frames.specs.declared.control.Control.TheVariants as control
use Rattle.ax25_link.proofs.Names.{Option, slice_get, unwrap_or, get_or_push, unwrap_or-slice_get, IsOctets, FrameValue, FrameText, FreeBits, canonical, frame_octets, Window, LinkEnd, high, outstanding, information_of, information_again, no_protocol, piece_at, with_timer_anew, Kept, StandsFor, frame_between, after_new, next_piece, with_piece}

-- an I frame with this information
abbrev pub numbered : Kept → ℕ → ℕ → List ℕ → Bool → FrameValue
numbered link ns nr piece poll =
    frame_between link (record { control = control.I ns nr; pid = no_protocol ∷ []; information = piece }) poll true

-- information can be put at the end of an I frame without any
pub canonical-append : (link : Kept) (ns nr : ℕ) (piece : List ℕ) (poll : Bool)
    → canonical (numbered link ns nr [] poll) ++ piece ≡ canonical (numbered link ns nr piece poll)
canonical-append link ns nr piece poll = simp append_assoc

-- the text of a frame, however that frame is given
pub text-same : (f g : FrameValue) (octets : List ℕ) → f ≡ g → FrameText f octets → FrameText g octets
text-same f g octets same t = subst (λ (x : FrameValue). FrameText x octets) same t

octets-append : (link : Kept) (ns nr : ℕ) (piece : List ℕ) (poll : Bool) (free : FreeBits)
    → frame_octets (numbered link ns nr [] poll) free ++ piece ≡ frame_octets (numbered link ns nr piece poll) free
octets-append link ns nr piece poll free = simp append_assoc

-- the text of an I frame without information becomes that of one with it
pub text-append : (link : Kept) (ns nr : ℕ) (piece octets more : List ℕ) (poll : Bool)
    → FrameText (numbered link ns nr [] poll) octets → more ≡ octets ++ piece → IsOctets piece → length piece ≤ 256
    → FrameText (numbered link ns nr piece poll) more
text-append link ns nr piece octets more poll t is_more range most =
    record {
      fits = record {
        dest = t.fits.dest;
        src = t.fits.src;
        via = t.fits.via;
        kind = record {
          control = t.fits.kind.control;
          pid = t.fits.kind.pid;
          octets = range;
          count = t.fits.kind.count;
          least = omega arith;
          most = most;
        };
      };
      free = t.free;
      fits_free = record {
        dest_reserved = t.fits_free.dest_reserved;
        src_reserved = t.fits_free.src_reserved;
        repeaters = t.fits_free.repeaters;
        via = t.fits_free.via;
      };
      text = is_more ∙ ap (λ (xs : List ℕ). xs ++ piece) t.text ∙ octets-append link ns nr piece poll t.free;
    }

-- an element of what is left of a list
slice_get-drop : (n : ℕ) (pieces : List (List ℕ)) (place : ℕ) → slice_get (drop n pieces) place ≡ slice_get pieces (n + place)
slice_get-drop zero pieces place = ap (λ (k : ℕ). slice_get pieces k) (sym (zero-add place))
slice_get-drop (suc n) [] place = ap (λ (k : ℕ). slice_get {X = List ℕ} [] k) (zero-add (suc n + place))
slice_get-drop (suc n) (piece ∷ pieces) place =
    slice_get-drop n pieces place ∙ ap (λ (k : ℕ). slice_get (piece ∷ pieces) k) (sym (suc-add n place))

-- numbers modulo 8
mod-shift : (m a b : ℕ) → m ≡ 8 → (a % m + b) % 8 ≡ (a + b) % m
mod-shift m a b eight =
    let P : ℕ → Type 0 = λ (n : ℕ). (a % n + b) % 8 ≡ (a + b) % n in
    subst P (sym eight) (omega arith)

-- the outstanding I frame at a place
pub information-is : (w : Window) (link : Kept) (end : LinkEnd) (place ns : ℕ) (poll : Bool) → StandsFor w link end
    → ns ≡ (link.acked + place) % 8
    → numbered link ns link.taken (unwrap_or (slice_get link.queue.pieces place) []) poll ≡ information_again w end (end.acked + place) poll
information-is w link end place ns poll s is_ns =
    let number : ns ≡ (end.acked + place) % w.modulus =
    is_ns ∙ ap (λ (k : Kept). (k.acked + place) % 8) s.kept ∙ mod-shift w.modulus end.acked place s.modulus in
    ap (λ (n : ℕ). numbered link n link.taken (unwrap_or (slice_get link.queue.pieces place) []) poll) number
    ∙ ap (λ (k : Kept). numbered k ((end.acked + place) % w.modulus) k.taken (unwrap_or (slice_get k.queue.pieces place) []) poll) s.kept
    ∙ ap (λ (o : Option (List ℕ)). information_of w end (end.acked + place) (unwrap_or o []) poll) (slice_get-drop end.acked end.sent place)

-- the first of the frames that are sent again
pub again-is : (w : Window) (link : Kept) (end : LinkEnd) (place : ℕ) → StandsFor w link end → link.again ≤ length link.queue.pieces
    → place ≡ length link.queue.pieces - link.again → end.acked + place ≡ high end - end.again
again-is w link end place s few is_place =
    omega (arith, s.acked, ap (λ (k : Kept). k.again) s.kept, ap (λ (k : Kept). length k.queue.pieces) s.kept, length-drop end.acked end.sent)

-- the new frame
pub new-is : (w : Window) (end : LinkEnd) (place : ℕ) → end.acked ≤ high end → place ≡ outstanding end
    → information_again w (after_new end) ((after_new end).acked + place) false ≡ information_of w end (high end) (next_piece end) false
new-is w end place order is_place = either (outstanding end == 0)
  where
    number : end.acked + place ≡ high end
    number = omega arith

    last : piece_at (with_piece end) (high end) ≡ next_piece end
    last = unwrap_or-slice_get (end.sent ++ next_piece end ∷ []) (high end) [] ∙ get_or_push end.sent (next_piece end) [] (high end) refl

    same : information_again w (with_piece end) (end.acked + place) false ≡ information_of w end (high end) (next_piece end) false
    same =
        ap (λ (n : ℕ). information_of w end n (piece_at (with_piece end) n) false) number
        ∙ ap (λ (piece : List ℕ). information_of w end (high end) piece false) last

    either : (b : Bool)
        → information_again w (if b then with_timer_anew (with_piece end) else with_piece end) ((if b then with_timer_anew (with_piece end) else with_piece end).acked + place) false
        ≡ information_of w end (high end) (next_piece end) false
    either true = same
    either false = same
