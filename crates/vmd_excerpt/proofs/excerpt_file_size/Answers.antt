-- `vmd_excerpt::excerpt_file_size` meets its contract. Assumes nothing.
use mathlib.Core.Path.{refl, sym, ap, ◌∙◌}
use lib.ListN.{length}
use Rattle.vmd_format.specs.Answer.{map_answer, fitted}
use Rattle.vmd_base.proofs.Refused.{handed_on}
use Rattle.vmd_output.proofs.Saves.{refused_answer, given_answer}
use Rattle.vmd_excerpt.specs.Meaning.{bytes_of}
use Rattle.vmd_excerpt.proofs.excerpt_file_size.Goals as goal

pub returns-in_err-piece : goal.returns-in_err-piece
returns-in_err-piece c = handed_on _ _ _ c.from_residual.ensures.1 ∙ refused_answer _ _ _ (sym c.in_err-piece.ensures)

pub returns : goal.returns
returns c =
    c.size.ensures ∙ given_answer (bytes_of c.in_ok-piece.piece) refl 18446744073709551615
    ∙ ap (λ w. map_answer length (fitted 18446744073709551615 w)) c.in_ok-piece.ensures
