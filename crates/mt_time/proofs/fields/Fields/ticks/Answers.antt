use Rattle.std.proofs.Common.{◌∙◌, arith}
use Rattle.mt_time.specs.Written.{with_decimals}
use Rattle.mt_time.proofs.DayLaws.{IsDayOf, day_of_date, small_parts, ticks_made}
use Rattle.mt_time.proofs.fields.Fields.ticks.Goals as goal

pub overflow_sub-days : goal.overflow_sub-days
overflow_sub-days c =
    (day_of_date c.in-Ok.date c.args.self.year c.args.self.month c.args.self.day c.days_since_min-days.result (small_parts c.in-Ok.date c.args.self.year c.args.self.month c.args.self.day c.requires.year c.requires.month c.requires.day c.in-Ok.ensures.value) c.days_since_min-days.ensures.value c.if-self-lt-FIRST_YEAR.false).late

pub returns-clause-value : goal.returns-clause-value
returns-clause-value c ds decimals fraction =
    let day : IsDayOf c.args.self.year c.args.self.month c.args.self.day c.days_since_min-days.result =
    day_of_date c.in-Ok.date c.args.self.year c.args.self.month c.args.self.day c.days_since_min-days.result (small_parts c.in-Ok.date c.args.self.year c.args.self.month c.args.self.day c.requires.year c.requires.month c.requires.day c.in-Ok.ensures.value) c.days_since_min-days.ensures.value c.if-self-lt-FIRST_YEAR.false in (
      record {
        year = day.year_in;
        month = day.month_in;
        day = day.day_in;
        hour = omega (arith, c.if-self-gt23.false);
        minute = omega (arith, c.if-self-gt59.false);
        second = omega (arith, c.if-self-gt59-2.false);
        decimals = decimals;
      },
      ticks_made (with_decimals c.args.self ds) c.from.result c.from-2.result c.from-3.result c.from-4.result c.from-5.result
          (c.from.ensures ∙ day.days) c.from-2.ensures c.from-3.ensures c.from-4.ensures (c.from-5.ensures ∙ fraction),
    )
