use Rattle.mt_io.proofs.MemoryLaws.{later_more, later_last}
use Rattle.mt_io.proofs.mem.later_piece.Goals as goal

pub returns-then-piece-pieces-clause-later : goal.returns-then-piece-pieces-clause-later
returns-then-piece-pieces-clause-later c = later_more c.args.pieces.now c.args.piece c.if-piece-pieces.true

pub returns-else-piece-pieces-clause-later : goal.returns-else-piece-pieces-clause-later
returns-else-piece-pieces-clause-later c = later_last c.args.pieces.now c.args.piece c.if-piece-pieces.false
