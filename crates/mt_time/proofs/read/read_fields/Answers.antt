use Rattle.std.proofs.Common.{◌∙◌}
use Rattle.mt_time.specs.Written.{with_decimals}
use Rattle.mt_time.proofs.TextLaws.{at_month, at_day, at_hour, at_minute, at_second, text_is, text_made, rest_same, rest_after}
use Rattle.mt_time.specs.Moment.{end_of}
use Rattle.mt_time.specs.declared.fields.Fields.{Fields}
use Rattle.mt_time.proofs.read.read_fields.Goals as goal

pub returns-in_default : goal.returns-in_default
returns-in_default c p decimals is = c.in_default.ensures p.year (at_month p) (is ∙ text_is p)

pub returns-in_default-read_two_after : goal.returns-in_default-read_two_after
returns-in_default-read_two_after c p decimals is =
    let month = rest_same 4 c.in-Some.year p.year c.args.text.now c.in-Some.rest.now (at_month p) c.in-Some.ensures.1 (is ∙ text_is p) in
    c.in_default-read_two_after.ensures p.month (at_day p) month

pub returns-in_default-read_two_after-2 : goal.returns-in_default-read_two_after-2
returns-in_default-read_two_after-2 c p decimals is =
    let month = rest_same 4 c.in-Some.year p.year c.args.text.now c.in-Some.rest.now (at_month p) c.in-Some.ensures.1 (is ∙ text_is p) in
    let day = rest_after 45 c.in-Some-read_two_after.month p.month c.in-Some.rest.now c.in-Some-read_two_after.rest.now (at_day p) c.in-Some-read_two_after.ensures.1 month in
    c.in_default-read_two_after-2.ensures p.day (at_hour p) day

pub returns-in_default-read_two_after-3 : goal.returns-in_default-read_two_after-3
returns-in_default-read_two_after-3 c p decimals is =
    let month = rest_same 4 c.in-Some.year p.year c.args.text.now c.in-Some.rest.now (at_month p) c.in-Some.ensures.1 (is ∙ text_is p) in
    let day = rest_after 45 c.in-Some-read_two_after.month p.month c.in-Some.rest.now c.in-Some-read_two_after.rest.now (at_day p) c.in-Some-read_two_after.ensures.1 month in
    let hour = rest_after 45 c.in-Some-read_two_after-2.day p.day c.in-Some-read_two_after.rest.now c.in-Some-read_two_after-2.rest.now (at_hour p) c.in-Some-read_two_after-2.ensures.1 day in
    c.in_default-read_two_after-3.ensures p.hour (at_minute p) hour

pub returns-in_default-read_two_after-4 : goal.returns-in_default-read_two_after-4
returns-in_default-read_two_after-4 c p decimals is =
    let month = rest_same 4 c.in-Some.year p.year c.args.text.now c.in-Some.rest.now (at_month p) c.in-Some.ensures.1 (is ∙ text_is p) in
    let day = rest_after 45 c.in-Some-read_two_after.month p.month c.in-Some.rest.now c.in-Some-read_two_after.rest.now (at_day p) c.in-Some-read_two_after.ensures.1 month in
    let hour = rest_after 45 c.in-Some-read_two_after-2.day p.day c.in-Some-read_two_after.rest.now c.in-Some-read_two_after-2.rest.now (at_hour p) c.in-Some-read_two_after-2.ensures.1 day in
    let minute = rest_after 84 c.in-Some-read_two_after-3.hour p.hour c.in-Some-read_two_after-2.rest.now c.in-Some-read_two_after-3.rest.now (at_minute p) c.in-Some-read_two_after-3.ensures.1 hour in
    c.in_default-read_two_after-4.ensures p.minute (at_second p) minute

pub returns-in_default-read_two_after-5 : goal.returns-in_default-read_two_after-5
returns-in_default-read_two_after-5 c p decimals is =
    let month = rest_same 4 c.in-Some.year p.year c.args.text.now c.in-Some.rest.now (at_month p) c.in-Some.ensures.1 (is ∙ text_is p) in
    let day = rest_after 45 c.in-Some-read_two_after.month p.month c.in-Some.rest.now c.in-Some-read_two_after.rest.now (at_day p) c.in-Some-read_two_after.ensures.1 month in
    let hour = rest_after 45 c.in-Some-read_two_after-2.day p.day c.in-Some-read_two_after.rest.now c.in-Some-read_two_after-2.rest.now (at_hour p) c.in-Some-read_two_after-2.ensures.1 day in
    let minute = rest_after 84 c.in-Some-read_two_after-3.hour p.hour c.in-Some-read_two_after-2.rest.now c.in-Some-read_two_after-3.rest.now (at_minute p) c.in-Some-read_two_after-3.ensures.1 hour in
    let second = rest_after 58 c.in-Some-read_two_after-4.minute p.minute c.in-Some-read_two_after-3.rest.now c.in-Some-read_two_after-4.rest.now (at_second p) c.in-Some-read_two_after-4.ensures.1 minute in
    c.in_default-read_two_after-5.ensures p.second (end_of p.decimals) second

pub returns-in_default-read_end : goal.returns-in_default-read_end
returns-in_default-read_end c p decimals is =
    let month = rest_same 4 c.in-Some.year p.year c.args.text.now c.in-Some.rest.now (at_month p) c.in-Some.ensures.1 (is ∙ text_is p) in
    let day = rest_after 45 c.in-Some-read_two_after.month p.month c.in-Some.rest.now c.in-Some-read_two_after.rest.now (at_day p) c.in-Some-read_two_after.ensures.1 month in
    let hour = rest_after 45 c.in-Some-read_two_after-2.day p.day c.in-Some-read_two_after.rest.now c.in-Some-read_two_after-2.rest.now (at_hour p) c.in-Some-read_two_after-2.ensures.1 day in
    let minute = rest_after 84 c.in-Some-read_two_after-3.hour p.hour c.in-Some-read_two_after-2.rest.now c.in-Some-read_two_after-3.rest.now (at_minute p) c.in-Some-read_two_after-3.ensures.1 hour in
    let second = rest_after 58 c.in-Some-read_two_after-4.minute p.minute c.in-Some-read_two_after-3.rest.now c.in-Some-read_two_after-4.rest.now (at_second p) c.in-Some-read_two_after-4.ensures.1 minute in
    let end = rest_after 58 c.in-Some-read_two_after-5.second p.second c.in-Some-read_two_after-4.rest.now c.in-Some-read_two_after-5.rest.now (end_of p.decimals) c.in-Some-read_two_after-5.ensures.1 second in
    c.in_default-read_end.ensures p.decimals decimals end

pub returns : goal.returns
returns c =
    let end = c.in-Some-read_end.ensures in
    let fields : Fields = record {
      year = c.in-Some.year;
      month = c.in-Some-read_two_after.month;
      day = c.in-Some-read_two_after-2.day;
      hour = c.in-Some-read_two_after-3.hour;
      minute = c.in-Some-read_two_after-4.minute;
      second = c.in-Some-read_two_after-5.second;
      fraction = c.in-Some-read_end.fraction;
    } in (
      record {
        year = c.in-Some.ensures.0;
        month = c.in-Some-read_two_after.ensures.0;
        day = c.in-Some-read_two_after-2.ensures.0;
        hour = c.in-Some-read_two_after-3.ensures.0;
        minute = c.in-Some-read_two_after-4.ensures.0;
        second = c.in-Some-read_two_after-5.ensures.0;
        fraction = end.0;
      },
      (
        end.1.0,
        end.1.1,
        end.1.3,
        text_made (with_decimals fields end.1.0) c.args.text.now c.in-Some.rest.now c.in-Some-read_two_after.rest.now c.in-Some-read_two_after-2.rest.now
            c.in-Some-read_two_after-3.rest.now c.in-Some-read_two_after-4.rest.now c.in-Some-read_two_after-5.rest.now c.in-Some.ensures.1
            c.in-Some-read_two_after.ensures.1 c.in-Some-read_two_after-2.ensures.1 c.in-Some-read_two_after-3.ensures.1
            c.in-Some-read_two_after-4.ensures.1 c.in-Some-read_two_after-5.ensures.1 end.1.2,
      ),
    )
