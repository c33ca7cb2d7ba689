use Rattle.mt_target.proofs.PathLaws.{path_named, slash_first}
use Rattle.mt_target.proofs.paths.read_path.Goals as goal

pub returns-in_default-after : goal.returns-in_default-after
returns-in_default-after c t is = slash_first c.args.path.now t c.in_default-after.ensures c.in_default.ensures is

pub returns : goal.returns
returns c = path_named c.args.path.now c.in-Some-after.text.now c.split_name.result.0.now c.split_name.result.1 c.read_name.result c.in-Some-after.ensures c.split_name.ensures c.in_default.ensures c.read_name.ensures
