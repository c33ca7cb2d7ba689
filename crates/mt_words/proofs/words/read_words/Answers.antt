use Rattle.std.proofs.Common.{◌∷◌, ◌-◌, List, ℕ, length, take, drop, sym, ◌∙◌, ap}
use Rattle.mt_words.specs.Readings.{texts_of}
use Rattle.mt_words.proofs.FrontLaws.{first_and_rest}
use Rattle.mt_words.proofs.CommandLaws.{session_read, drill_read}
use Rattle.mt_words.proofs.words.read_words.Goals as goal

pub returns-in-session : goal.returns-in-session
returns-in-session c =
    let rest : List (List ℕ) = texts_of (take (length c.args.words.now - 1) (drop 1 c.args.words.now)) in
    let words = first_and_rest c.args.words.now c.first-item.result c.in-len1-up.len_at_least c.first-item.is in
    session_read (texts_of c.args.words.now) rest c.read_session.result (words ∙ ap (λ (x : List ℕ). x ∷ rest) (sym c.as_str.ensures.value ∙ c.in-session.is)) c.read_session.ensures

pub returns-in-drill : goal.returns-in-drill
returns-in-drill c =
    let rest : List (List ℕ) = texts_of (take (length c.args.words.now - 1) (drop 1 c.args.words.now)) in
    let words = first_and_rest c.args.words.now c.first-item.result c.in-len1-up.len_at_least c.first-item.is in
    drill_read (texts_of c.args.words.now) rest c.read_drill.result (words ∙ ap (λ (x : List ℕ). x ∷ rest) (sym c.as_str.ensures.value ∙ c.in-drill.is)) c.read_drill.ensures
