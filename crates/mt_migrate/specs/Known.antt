-- What a migrator knows of the two stores in each state.
use Rattle.std.specs.Prelude.{ℕ, List, [], ◌∷◌, ◌++◌, Option, Some, None}
use Rattle.mt_model.specs.declared.tag.Tag.{Tag}
use Rattle.mt_chain.specs.declared.ask.Side.TheVariants.{Old, New}
use Rattle.mt_chain.specs.declared.row.StoredRow.{StoredRow}
use Rattle.mt_chain.specs.declared.query.RkFrom.TheVariants.{Start}
use Rattle.mt_chain.specs.declared.query.PkFrom.{PkFrom}
use Rattle.mt_chain.specs.declared.query.PkFrom.TheVariants.{From}
use Rattle.mt_meta.specs.declared.marker.Phase.TheVariants.{PreferOld}
use Rattle.mt_meta.specs.declared.marker.NewPhase.TheVariants.{Filling}
use Rattle.mt_meta.specs.Markers.{marker_key, marker_props, old_kind, new_kind}
use Rattle.mt_meta.specs.Marks.{seen_tag}
use Rattle.mt_meta.specs.declared.fact.Keys.{Keys}
use Rattle.mt_meta.specs.declared.fact.Keys.TheVariants as keys
use Rattle.mt_meta.specs.declared.fact.Fact.{Fact}
use Rattle.mt_meta.specs.declared.fact.Fact.TheVariants as fact
use Rattle.mt_meta.specs.Steps.{row_facts}
use Rattle.mt_migrate.specs.declared.state.Walk.{Walk}
use Rattle.mt_migrate.specs.declared.state.Walk.TheVariants.{BeforeSeal, AfterSeal}
use Rattle.mt_migrate.specs.declared.state.Pass.{Pass}
use Rattle.mt_migrate.specs.declared.state.Pass.TheVariants.{First, Second}
use Rattle.mt_migrate.specs.declared.state.Part.{Part}
use Rattle.mt_migrate.specs.declared.state.Copying.{Copying}
use Rattle.mt_migrate.specs.declared.state.State.{State}
use Rattle.mt_migrate.specs.declared.state.State.TheVariants as at
use Rattle.mt_migrate.specs.Chunks.{end_of, waiting}
use Rattle.mt_migrate.specs.Moves.{past}

-- in the second walk, that each partition before the place is in new alone
abbrev pub behind : Walk → PkFrom → List Fact
behind BeforeSeal place = []
behind AfterSeal place = fact.Swept (Some place) ∷ []

abbrev pub walk_facts : Part → List Fact
walk_facts part = behind part.walk (From part.pk)

-- in the first pass old's marker with its tag; in the second that old takes no write while new fills
abbrev pub old_known : List ℕ → Pass → Fact
old_known pk (First marker) = fact.Row Old pk marker_key (marker_props (old_kind PreferOld)) marker
old_known pk Second = fact.Turned pk keys.None []

-- in the second pass also that it has the rows that were read, up to there
abbrev pub rows_known : Copying → Pass → Option (List ℕ) → List StoredRow → Fact
rows_known copying (First marker) upto rows = fact.Row Old copying.part.pk marker_key (marker_props (old_kind PreferOld)) marker
rows_known copying Second upto rows = fact.Turned copying.part.pk (keys.Within (past copying.done) upto []) rows

-- of the epoch: in the first pass the marker alone, in the second also that the copies at these keys are made
abbrev pub epoch_known : Copying → Pass → Keys → Fact
epoch_known copying (First marker) part = fact.Epoch copying.part.pk copying.epoch keys.None
epoch_known copying Second part = fact.Epoch copying.part.pk copying.epoch part

-- the keys that are done
abbrev pub done_keys : Option (List ℕ) → Keys
done_keys None = keys.None
done_keys (Some rk) = keys.Within Start (Some rk) []

abbrev pub done_known : Copying → Fact
done_known copying = epoch_known copying copying.pass (done_keys copying.done)

-- a row of old in hand may be copied, where clients see it
abbrev pub kept_fact : List ℕ → List ℕ → Option Tag → List Fact → List Fact
kept_fact pk rk None rest = rest
kept_fact pk rk (Some tag) rest = fact.Kept pk rk tag ∷ rest

abbrev pub kept_facts : List ℕ → List StoredRow → List Fact
kept_facts pk [] = []
kept_facts pk (r ∷ rows) = kept_fact pk r.rk (seen_tag r.props r.tag) (kept_facts pk rows)

abbrev pub state_facts : State → List Fact
state_facts (at.Walk walk from) = behind walk from
state_facts at.SealOld = []
state_facts (at.Look part) = walk_facts part
state_facts (at.Prepare part rows) = row_facts Old part.pk rows ++ walk_facts part
state_facts (at.Claim part pass) = fact.Begun part.pk ∷ old_known part.pk pass ∷ walk_facts part
state_facts (at.Begin part pass) = fact.Begun part.pk ∷ old_known part.pk pass ∷ walk_facts part
state_facts (at.Takeover part pass filling) = fact.Row New part.pk marker_key (marker_props (new_kind Filling)) filling ∷ old_known part.pk pass ∷ walk_facts part
state_facts (at.ReadOld copying) = done_known copying ∷ old_known copying.part.pk copying.pass ∷ walk_facts copying.part
state_facts (at.ReadNew copying old) = done_known copying ∷ rows_known copying copying.pass (end_of old) old.rows ∷ (kept_facts copying.part.pk old.rows ++ walk_facts copying.part)
-- before the write those up to the chunk's end less the ones that wait for a put; and, where it is not done, those that were done before
state_facts (at.Write copying upto rows entries) =
    epoch_known copying copying.pass (keys.Within Start upto (waiting upto rows entries))
    ∷ done_known copying
    ∷ rows_known copying copying.pass upto rows
    ∷ (kept_facts copying.part.pk rows ++ (row_facts New copying.part.pk entries ++ walk_facts copying.part))
state_facts (at.Switch part marker epoch) = fact.Epoch part.pk epoch keys.None ∷ fact.Row Old part.pk marker_key (marker_props (old_kind PreferOld)) marker ∷ walk_facts part
state_facts (at.Finish part epoch) = fact.Epoch part.pk epoch (keys.Within Start None []) ∷ walk_facts part
state_facts at.Done = fact.Swept None ∷ []
