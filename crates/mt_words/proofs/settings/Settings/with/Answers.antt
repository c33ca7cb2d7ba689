use Rattle.std.proofs.Common.{◌∷◌, ◌++◌, ap, subst}
use Rattle.std.specs.Option.{option_map}
use Rattle.mt_words.specs.Words.{Setting, Gives}
use Rattle.mt_words.specs.Readings.{setting_of, given_of}
use Rattle.mt_words.proofs.GivenLaws.{join_table, two_tables, join_history, two_histories, join_keeper, two_keepers, join_number, two_numbers, join_events, two_events}
use Rattle.mt_words.proofs.settings.Settings.with.Goals as goal

pub returns-in-None : goal.returns-in-None
returns-in-None c before given = rw c.in-Table.is (join_table before (given_of c.args.self) c.in-Table.table.now given (ap (option_map (λ b. b.now)) c.in-None.is))

pub returns-in-Some : goal.returns-in-Some
returns-in-Some c before given more h all =
    two_tables before more (given_of c.args.self) h c.in-Table.table.now c.in-Some.field-0.now given (ap (option_map (λ b. b.now)) c.in-Some.is) (subst (λ (s : Setting). Gives (before ++ s ∷ more) h) (ap setting_of c.in-Table.is) all)

pub returns-in-None-history : goal.returns-in-None-history
returns-in-None-history c before given = rw c.in-History.is (join_history before (given_of c.args.self) c.in-History.entries given c.in-None-history.is)

pub returns-in-Some-history : goal.returns-in-Some-history
returns-in-Some-history c before given more h all =
    two_histories before more (given_of c.args.self) h c.in-History.entries c.in-Some-history.field-0 given c.in-Some-history.is (subst (λ (s : Setting). Gives (before ++ s ∷ more) h) (ap setting_of c.in-History.is) all)

pub returns-in-None-keeper : goal.returns-in-None-keeper
returns-in-None-keeper c before given = rw c.in-Keeper.is (join_keeper before (given_of c.args.self) c.in-Keeper.choice given c.in-None-keeper.is)

pub returns-in-Some-keeper : goal.returns-in-Some-keeper
returns-in-Some-keeper c before given more h all =
    two_keepers before more (given_of c.args.self) h c.in-Keeper.choice c.in-Some-keeper.field-0 given c.in-Some-keeper.is (subst (λ (s : Setting). Gives (before ++ s ∷ more) h) (ap setting_of c.in-Keeper.is) all)

pub returns-in-None-number : goal.returns-in-None-number
returns-in-None-number c before given = rw c.in-Number.is (join_number before (given_of c.args.self) c.in-Number.number given c.in-None-number.is)

pub returns-in-Some-number : goal.returns-in-Some-number
returns-in-Some-number c before given more h all =
    two_numbers before more (given_of c.args.self) h c.in-Number.number c.in-Some-number.field-0 given c.in-Some-number.is (subst (λ (s : Setting). Gives (before ++ s ∷ more) h) (ap setting_of c.in-Number.is) all)

pub returns-in-None-events : goal.returns-in-None-events
returns-in-None-events c before given = rw c.in-Events.is (join_events before (given_of c.args.self) c.in-Events.events given c.in-None-events.is)

pub returns-in-Some-events : goal.returns-in-Some-events
returns-in-Some-events c before given more h all =
    two_events before more (given_of c.args.self) h c.in-Events.events c.in-Some-events.field-0 given c.in-Some-events.is (subst (λ (s : Setting). Gives (before ++ s ∷ more) h) (ap setting_of c.in-Events.is) all)
