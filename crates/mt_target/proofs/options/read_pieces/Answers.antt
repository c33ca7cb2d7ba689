use Rattle.mt_target.proofs.OptionLaws.{text_here}
use Rattle.mt_target.proofs.options.read_pieces.Goals as goal

pub returns-in_default : goal.returns-in_default
returns-in_default c all =
    (rw c.in_default.is at c.in_ok-option.ensures)
    (text_here c.args.text.now c.first_piece.result.0.now c.pieces.rest.now c.pieces.options.items c.first_piece.result.1 c.pieces.invariant.same c.first_piece.ensures all)
