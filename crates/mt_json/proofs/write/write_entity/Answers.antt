use Rattle.std.proofs.Common.{◌≡◌, ◌++◌, option_map, sym, ap, subst, ◌∙◌}
use Rattle.std.specs.Prelude.{IsUtf8}
use Rattle.std.proofs.lemmas.Result.{MatchResult-weaker}
use Rattle.serde_json.specs.Read.{read}
use Rattle.mt_json.specs.Draft.{text_of}
use Rattle.mt_json.proofs.ReadLaws.{read_back}
use Rattle.mt_json.proofs.ReadBackLaws.{round_trip}
use Rattle.mt_json.proofs.write.write_entity.Goals as goal

pub returns-clause-written : goal.returns-clause-written
returns-clause-written c =
    let text = text_of c.in_ok-draft.draft c.args.entity.now.tag in
    let wrote : c.write.new.room.items ≡ text = c.write.ensures.items ∙ ap (λ before. before ++ text) c.in_ok-room.ensures.items in
    let w = c.in_ok-draft.ensures.written c.args.entity.now.tag in
    MatchResult-weaker c.text_from.result c.text_from.ensures (λ t h. (w.0, w.1, h.0 ∙ wrote ∙ w.2)) (λ e h. h)

pub returns-clause-reads_back : goal.returns-clause-reads_back
returns-clause-reads_back c =
    let chosen = option_map (λ v. v.now.items) c.args.chosen in
    let text = text_of c.in_ok-draft.draft c.args.entity.now.tag in
    let wrote : c.write.new.room.items ≡ text = c.write.ensures.items ∙ ap (λ before. before ++ text) c.in_ok-room.ensures.items in
    let w = c.in_ok-draft.ensures.written c.args.entity.now.tag in
    let back = read_back c.args.entity.now c.args.level chosen w.0 w.1 in
    MatchResult-weaker c.text_from.result c.text_from.ensures
    (λ t h. (w.0, w.1, (subst IsUtf8 (sym h.0) h.1, ap read (h.0 ∙ wrote ∙ w.2) ∙ back)))
    (λ e h. h)

pub returns-clause-round_trip : goal.returns-clause-round_trip
returns-clause-round_trip c =
    MatchResult-weaker c.text_from.result (returns-clause-reads_back c)
    (λ t h. round_trip c.args.entity.now c.args.level (option_map (λ v. v.now.items) c.args.chosen) _ c.in_ok-draft.ensures.named c.in_ok-draft.ensures.valid h)
    (λ e h. h)
