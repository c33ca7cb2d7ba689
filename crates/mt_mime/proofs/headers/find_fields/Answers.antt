use Rattle.std.proofs.Common.{rules, sym, ◌∙◌}
use Rattle.mt_mime.proofs.HeaderLaws.{fields_found}
use Rattle.mt_mime.proofs.headers.find_fields.Goals as goal

pub returns-then-is_paired-clause-fields : goal.returns-then-is_paired-clause-fields
returns-then-is_paired-clause-fields c =
    fields_found c.args.text.now c.parse_headers.new.headers c.in-Ok-Complete.found.0 c.in-Ok-Complete.found.1 (rw c.in-Ok-Complete.field-0-is at c.in-Ok-Complete.ensures.complete)
    c.if-found-le-MAX_BYTES.true (sym c.is_paired.ensures ∙ c.if-is_paired.true) (rw c.in-Ok-Complete.field-0-is at c.in-Ok-Complete.ensures.within).count_fits (search rules)
