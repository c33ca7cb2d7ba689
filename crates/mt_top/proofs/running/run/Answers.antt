use Rattle.std.proofs.Common.{Some, None, Err, refl, ap, subst, ◌∙◌, inl}
use Rattle.mt_words.specs.declared.command.Command.TheVariants as command
use Rattle.mt_words.specs.Readings.{texts_of, Reads}
use Rattle.mt_words.specs.Words.{IsCommand}
use Rattle.mt_words.proofs.TakenLaws.{session_history}
use Rattle.mt_top.specs.declared.running.Ending.TheVariants.{NoMemory}
use Rattle.mt_top.specs.Run.{code_of}
use Rattle.mt_top.proofs.RunningLaws.{wants_memory}
use Rattle.mt_top.proofs.running.run.Goals as goal
use Rattle.mt_top.proofs.running.run.Goals.{in-Ok-Session, in-Ok-Help, in-Ok-Drill, in-Err-Bad, in-Err-NoMemory}

pub over_depot-ending-requires-clause-some : goal.over_depot-ending-requires-clause-some
over_depot-ending-requires-clause-some g c =
    (session_history (texts_of c.args.words.now) c.in-Ok-Session.common (subst (IsCommand (texts_of c.args.words.now)) c.in-Ok-Session.field-0-is c.in-Ok-Session.ensures)).0

pub over_depot-ending-requires-clause-bounded : goal.over_depot-ending-requires-clause-bounded
over_depot-ending-requires-clause-bounded g c =
    (session_history (texts_of c.args.words.now) c.in-Ok-Session.common (subst (IsCommand (texts_of c.args.words.now)) c.in-Ok-Session.field-0-is c.in-Ok-Session.ensures)).1

pub returns : goal.returns
returns g c = elim c.match-read_words.branch [
  | in-Ok-Session w ↦ rw (w.source-is, w.sink-is, w.depot-is) (record {
    asked = Some (command.Session w.in-Ok-Session.common);
    asks = subst (IsCommand (texts_of c.args.words.now)) w.in-Ok-Session.field-0-is w.in-Ok-Session.ensures;
    ending = w.over_depot-ending.result;
    status_is = c.code.ensures ∙ ap code_of w.ending-is;
    ends = w.over_depot-ending.ensures;
  })
  | in-Ok-Help w ↦ rw (w.source-is, w.sink-is, w.depot-is) (record {
    asked = Some command.Help;
    asks = subst (IsCommand (texts_of c.args.words.now)) w.in-Ok-Help.field-0-is w.in-Ok-Help.ensures;
    ending = w.help-ending.result;
    status_is = c.code.ensures ∙ ap code_of w.ending-is;
    ends = (record { source = refl; depot = refl }, inl w.help-ending.ensures);
  })
  | in-Ok-Drill w ↦ rw (w.source-is, w.sink-is, w.depot-is) (record {
    asked = Some (command.Drill _ _ _);
    asks = subst (IsCommand (texts_of c.args.words.now)) w.in-Ok-Drill.field-0-is w.in-Ok-Drill.ensures;
    ending = w.refuse_words-ending.result;
    status_is = c.code.ensures ∙ ap code_of w.ending-is;
    ends = (record { source = refl; depot = refl }, inl w.refuse_words-ending.ensures);
  })
  | in-Err-Bad w ↦ rw (w.source-is, w.sink-is, w.depot-is) (record {
    asked = None;
    asks = subst (λ u. Reads (texts_of c.args.words.now) (Err u)) w.in-Err-Bad.field-0-is w.in-Err-Bad.ensures;
    ending = w.refuse_words-ending-in-Err-Bad.result;
    status_is = c.code.ensures ∙ ap code_of w.ending-is;
    ends = (record { source = refl; depot = refl }, w.refuse_words-ending-in-Err-Bad.ensures);
  })
  | in-Err-NoMemory w ↦ let read = subst (λ u. Reads (texts_of c.args.words.now) (Err u)) w.in-Err-NoMemory.field-0-is w.in-Err-NoMemory.ensures in rw (w.source-is, w.sink-is, w.depot-is) (record {
    asked = Some read.0;
    asks = read.1;
    ending = NoMemory;
    status_is = c.code.ensures ∙ ap code_of w.ending-is;
    ends = wants_memory read.0 (g.S.Source.input c.args.source.now) (g.T.Sink.output c.args.sink.now) (g.D.Depot.shelf c.args.depot.now);
  })
]
