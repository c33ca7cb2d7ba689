-- What a step of a query does to a sound pair of stores.
use Rattle.std.specs.Prelude.{◌≡◌, ℕ, Bool, List, Option}
use Rattle.mt_filter.specs.declared.filter.Filter.{Filter}
use Rattle.mt_history.specs.declared.entry.What.TheVariants as what
use Rattle.mt_history.specs.declared.model.Reply.TheVariants as reply
use Rattle.mt_history.specs.Replies.{Replies}
use Rattle.mt_meta.specs.Logical.{Pair}
use Rattle.mt_meta.specs.Steps.{logical_table, ActorStep}
use Rattle.mt_query_plan.specs.declared.place.Place.{Place}
use Rattle.mt_query_plan.specs.declared.call.QueryProgress.{QueryProgress}
use Rattle.mt_query_plan.specs.declared.call.QueryProgress.TheVariants.{More, Rows}
use Rattle.mt_query_plan.specs.Queries.{place_facts}

-- nothing changes, and rows are the reply to this query at the logical table
abbrev pub Does : List ℕ → Option Filter → QueryProgress → Pair → Pair → Type 0
Does pk filter More p q = q ≡ p
Does pk filter (Rows answer) p q = (q ≡ p) × Replies (what.Query pk filter) (logical_table p) (reply.Rows answer)

-- a step of a query, from one place to the next: a step of an actor that knows what these places know
abbrev pub QueryStep : List ℕ → Option Filter → Place → Place → Bool → QueryProgress → Pair → Pair → Type 0
QueryStep pk filter place to retired said p q = ActorStep (place_facts pk filter place) (place_facts pk filter to) retired retired (Does pk filter said) p q
