-- What a station says: the KISS text of the frames that it gives.
use Rattle.std.specs.Prelude.{ℕ, List, flat_map}
use Rattle.kiss.specs.KissText.{kiss_text}
use Rattle.ax25_frames.specs.FrameText.{FrameValue, canonical}

-- the KISS text of frames, one after another
abbrev pub text_of : List FrameValue → List ℕ
text_of frames = flat_map (λ frame. kiss_text (canonical frame)) frames
