-- The body of a file that keeps all rules.
use Rattle.std.proofs.Common.{◌+◌, ap, drop, length, sym, ◌∙◌}
use Rattle.std.proofs.Math.Seq.{drop-append_seam}
use Rattle.header_tool.proofs.Names.{length-append, header_text, one_header, IsBodyBehind, IsBodyOfMade, IsOneBody}

pub body_behind : IsBodyBehind
body_behind items body file is = (
  sym (ap (λ n. drop n file) is.fits.body_offset ∙ ap (drop (length (header_text items))) is.file_text.text ∙ drop-append_seam (header_text items) body),
  ap (λ n. n + length body) is.fits.body_offset ∙ sym (length-append (header_text items) body) ∙ sym is.fits.file_size,
)

pub one_body : IsOneBody
one_body file body other is also = (one_header file is.0 also.0 body other is.1.file_text also.1.file_text).1

pub body_of_made : IsBodyOfMade
body_of_made spec body file is = (_, is)
