use Rattle.std.proofs.Common.{◌≡◌, ◌∙◌, sym, ap, subst, Ok, pos, w64}
use Rattle.std.proofs.lemmas.Int.{to_z_pos}
use Rattle.mt_time.specs.Written.{with_decimals}
use Rattle.mt_time.specs.Moment.{IsDateTime, ticks_of}
use Rattle.mt_time.proofs.TextLaws.{text_unique, wide, wide_fields}
use Rattle.mt_time.proofs.read.read_utc.Goals as goal

pub returns-in_default-clause-bad : goal.returns-in_default-clause-bad
returns-in_default-clause-bad c ticks x = c.in_default.ensures x.0 x.1.decimals x.2

pub returns-in_default-clause-one : goal.returns-in_default-clause-one
returns-in_default-clause-one c ticks x = absurd (c.in_default.ensures x.0 x.1.decimals x.2)

pub returns-in_default-ticks-clause-bad : goal.returns-in_default-ticks-clause-bad
returns-in_default-ticks-clause-bad c ticks x =
    let f = c.in-Some.fields in
    let written = c.in-Some.ensures.1 in
    let same : x.0 ≡ with_decimals f written.0 = text_unique x.0 (with_decimals f written.0) (wide x.0 x.1) (wide_fields f written.0 c.in-Some.ensures.0) (sym x.2 ∙ written.3) in
    c.in_default-ticks.ensures.value written.0 (subst IsDateTime same x.1)

pub returns-in_default-ticks-clause-one : goal.returns-in_default-ticks-clause-one
returns-in_default-ticks-clause-one c ticks x =
    let f = c.in-Some.fields in
    let written = c.in-Some.ensures.1 in
    let same : x.0 ≡ with_decimals f written.0 = text_unique x.0 (with_decimals f written.0) (wide x.0 x.1) (wide_fields f written.0 c.in-Some.ensures.0) (sym x.2 ∙ written.3) in
    absurd (c.in_default-ticks.ensures.value written.0 (subst IsDateTime same x.1))

pub returns-clause-ok : goal.returns-clause-ok
returns-clause-ok c =
    let written = c.in-Some.ensures.1 in
    let value = c.in-Some-ticks.ensures.value written.0 written.1 written.2 in
    (with_decimals c.in-Some.fields written.0, value.0, written.3, to_z_pos w64 c.in-Some-ticks.ticks c.in-Some-ticks.ensures.small ∙ ap pos value.1)

pub returns-clause-one : goal.returns-clause-one
returns-clause-one c ticks x =
    let f = c.in-Some.fields in
    let written = c.in-Some.ensures.1 in
    let same : x.0 ≡ with_decimals f written.0 = text_unique x.0 (with_decimals f written.0) (wide x.0 x.1) (wide_fields f written.0 c.in-Some.ensures.0) (sym x.2 ∙ written.3) in
    ap Ok (to_z_pos w64 c.in-Some-ticks.ticks c.in-Some-ticks.ensures.small ∙ ap pos ((c.in-Some-ticks.ensures.value written.0 written.1 written.2).1 ∙ ap ticks_of (sym same)) ∙ sym x.3)
