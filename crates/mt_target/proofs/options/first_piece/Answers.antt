use Rattle.mt_target.specs.Options.{is_ampersand}
use Rattle.mt_target.proofs.SplitLaws.{split_more, split_none}
use Rattle.mt_target.proofs.options.first_piece.Goals as goal

pub returns-in-Some : goal.returns-in-Some
returns-in-Some c = split_more is_ampersand c.args.text.now c.in-Some.piece.now c.in-Some.behind.now c.in-Some.ensures.0 c.in-Some.ensures.1 c.in-Some.ensures.2

pub returns-in-None : goal.returns-in-None
returns-in-None c = split_none is_ampersand c.args.text.now c.in-None.ensures
