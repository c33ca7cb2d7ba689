use Rattle.mt_scan.proofs.ChunkLaws.{none_rise}
use Rattle.mt_scan.proofs.chunk.rows_of.Goals as goal

pub returns-in-None-clause-rising : goal.returns-in-None-clause-rising
returns-in-None-clause-rising c = none_rise
