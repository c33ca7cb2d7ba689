use Rattle.mt_json.proofs.value.int64_value.Goals as goal

pub returns-in-None : goal.returns-in-None
returns-in-None c = λ v h. c.in-None.ensures h.0 h.1
