-- What a cleaner knows of the two stores in each state.
use Rattle.std.specs.Prelude.{ℕ, Bool, List, [], ◌∷◌, map, Option, Some, None, if◌then◌else◌}
use Rattle.mt_chain.specs.declared.ask.Side.TheVariants.{New}
use Rattle.mt_chain.specs.declared.row.StoredRow.{StoredRow}
use Rattle.mt_chain.specs.declared.query.RkFrom.TheVariants.{Start}
use Rattle.mt_chain.specs.declared.query.PkFrom.TheVariants.{From}
use Rattle.mt_meta.specs.declared.fact.Keys.TheVariants as keys
use Rattle.mt_meta.specs.declared.fact.Fact.{Fact}
use Rattle.mt_meta.specs.declared.fact.Fact.TheVariants as fact
use Rattle.mt_meta.specs.Steps.{row_facts}
use Rattle.mt_clean.specs.declared.state.State.{State}
use Rattle.mt_clean.specs.declared.state.State.TheVariants as at

-- old is sealed: it has nothing in a range without keys
abbrev pub sealed_fact : Fact
sealed_fact = fact.Closed (From []) (Some [])

-- the partition that the walk found, in a sealed old
abbrev pub found_facts : List ℕ → List Fact
found_facts pk = fact.There pk ∷ sealed_fact ∷ []

abbrev pub keys_of : List StoredRow → List (List ℕ)
keys_of rows = map (λ r. r.rk) rows

-- new is used alone and has no tombstone up to there, but at the keys of these
abbrev pub clean_but : List ℕ → Option (List ℕ) → List StoredRow → Fact
clean_but pk upto tombs = fact.Clean pk (keys.Within Start upto (keys_of tombs)) None

-- what a reading up to there has found
abbrev pub done_facts : List ℕ → Option (List ℕ) → List Fact
done_facts pk None = []
done_facts pk (Some rk) = clean_but pk (Some rk) [] ∷ []

-- new has no tombstone, and old no data row but these, where that is known
abbrev pub clean_fact : List ℕ → Option (List StoredRow) → Fact
clean_fact pk rest = fact.Clean pk (keys.Within Start None []) rest

-- the rows in hand are old's last ones where there are no more
abbrev pub rest_of : List StoredRow → Bool → Option (List StoredRow)
rest_of rows more = if more then None else Some rows

abbrev pub state_facts : State → List Fact
state_facts at.Walk = []
state_facts (at.Tombs pk after) = fact.There pk ∷ sealed_fact ∷ done_facts pk after
state_facts (at.Purge pk upto tombs) = fact.There pk ∷ sealed_fact ∷ clean_but pk upto tombs ∷ row_facts New pk tombs
state_facts (at.Rows pk) = fact.There pk ∷ sealed_fact ∷ clean_fact pk None ∷ []
state_facts (at.Drop pk marker rows more) = fact.There pk ∷ sealed_fact ∷ clean_fact pk (rest_of rows more) ∷ []
state_facts at.Done = fact.Retired ∷ []
