use Rattle.mt_time.proofs.TextLaws.{number_short, number_none, number_some}
use Rattle.mt_time.proofs.read.read_number.Goals as goal

pub returns-in_default : goal.returns-in_default
returns-in_default c = number_short c.args.text.now c.args.count c.in_default.ensures.cases

pub returns-in_default-digits_number : goal.returns-in_default-digits_number
returns-in_default-digits_number c = number_none c.args.text.now c.in-Some.digits.now c.in-Some.rest.now c.args.count c.in-Some.ensures.cases c.in_default-digits_number.ensures

pub returns : goal.returns
returns c = number_some c.args.text.now c.in-Some.digits.now c.in-Some.rest.now c.args.count c.in-Some-digits_number.number c.in-Some.ensures.cases c.in-Some-digits_number.ensures
