use Rattle.std.proofs.Common.{◌≡◌, Some, sym, ap, ◌∙◌}
use Rattle.std.proofs.lemmas.Result.{MatchResult-weaker}
use Rattle.uuid.specs.Text.{parsed_hyphenated, hyphenated_text, lower}
use Rattle.mt_json.proofs.GuidLaws.{read_of_lower}
use Rattle.mt_json.proofs.guid.guid_text.Goals as goal

pub returns-clause-reads_back : goal.returns-clause-reads_back
returns-clause-reads_back c =
    let same : c.hyphenated.result ≡ c.args.bytes.now = c.hyphenated.ensures ∙ c.from_bytes-id.ensures in
    let text = c.encode_lower-text.result.now in
    let back =
    read_of_lower c.args.bytes.now text (c.encode_lower-text.ensures.text ∙ ap (hyphenated_text lower) same)
    (ap Some (sym same) ∙ c.encode_lower-text.ensures.parsed) in
    MatchResult-weaker c.from_str.result c.from_str.ensures.ok (λ t is. ap parsed_hyphenated is ∙ back) (λ e h. h)
