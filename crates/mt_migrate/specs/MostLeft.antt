-- How many steps a migrator still takes that acts alone from now on, where others may have changed what it has in hand.
use Rattle.std.specs.Prelude.{◌⊎◌, ℕ, ◌+◌, ◌*◌, ◌≤◌, ◌&&◌, is_none, List, Option, Some, None, if◌then◌else◌}
use Rattle.mt_chain.specs.Puts.{has_tag}
use Rattle.mt_meta.specs.Markers.{marker_key}
use Rattle.mt_meta.specs.Logical.{Pair, old_at, new_at}
use Rattle.mt_meta.specs.ReadRows.{marker_tag}
use Rattle.mt_migrate.specs.declared.state.Pass.{Pass}
use Rattle.mt_migrate.specs.declared.state.Pass.TheVariants.{First, Second}
use Rattle.mt_migrate.specs.declared.state.Part.{Part}
use Rattle.mt_migrate.specs.declared.state.State.{State}
use Rattle.mt_migrate.specs.declared.state.State.TheVariants as at
use Rattle.mt_migrate.specs.Chunks.{end_of}
use Rattle.mt_migrate.specs.RowCounts.{unread, old_rows, entries_of}
use Rattle.mt_migrate.specs.StepsLeft.{chunks, others_left, steps_left, is_owned, Stands}

-- the partition is looked at again
abbrev pub again : Part → Pair → ℕ
again part p = steps_left (at.Look part) p

-- after a pass that may make up to fifty copies of rows which old has no more: what follows it, or the partition again
abbrev pub pass_again : Pair → List ℕ → Pass → ℕ
pass_again p pk (First marker) = 15 + (3 * chunks (old_rows p pk + entries_of p pk + 50) + 3 * chunks (2 * old_rows p pk + entries_of p pk + 50))
pass_again p pk Second = 1

-- a chunk's end may leave more unread than was left before: the chunks past it
abbrev pub end_left : Pair → List ℕ → Option (List ℕ) → ℕ
end_left p pk None = 0
end_left p pk (Some rk) = 3 * chunks (unread p pk (Some rk)) + 3

-- a pass of a former epoch, which is found out when new is read
abbrev pub stale_left : Pass → ℕ
stale_left (First marker) = 3
stale_left Second = 2

-- the steps that are left, whatever others did before: those of a state whose rows and tags stand, where a test shows that, else those until that is found out, and then the partition again
abbrev pub most_left : State → Pair → ℕ
most_left (at.Walk walk from) p = steps_left (at.Walk walk from) p
most_left at.SealOld p = steps_left at.SealOld p
most_left (at.Look part) p = steps_left (at.Look part) p
most_left (at.Prepare part rows) p = if has_tag (marker_tag rows) (old_at p part.pk marker_key) then steps_left (at.Prepare part rows) p else 1 + again part p
most_left (at.Claim part pass) p = steps_left (at.Claim part pass) p
most_left (at.Begin part pass) p = if is_none (new_at p part.pk marker_key) then steps_left (at.Begin part pass) p else 1 + again part p
most_left (at.Takeover part pass filling) p = if is_owned p part.pk filling then steps_left (at.Takeover part pass filling) p else 1 + again part p
most_left (at.ReadOld c) p = if is_owned p c.part.pk c.epoch then steps_left (at.ReadOld c) p else stale_left c.pass + again c.part p
most_left (at.ReadNew c old) p =
    if is_owned p c.part.pk c.epoch
    then others_left c.part p + (5 + 6 * chunks (unread p c.part.pk c.done) + end_left p c.part.pk (end_of old) + pass_again p c.part.pk c.pass)
    else 1 + again c.part p
most_left (at.Write c upto rows entries) p =
    if is_owned p c.part.pk c.epoch
    then others_left c.part p + (4 + 3 * chunks (unread p c.part.pk c.done) + end_left p c.part.pk upto + pass_again p c.part.pk c.pass)
    else 4 + again c.part p
most_left (at.Switch part marker epoch) p = if is_owned p part.pk epoch && has_tag marker (old_at p part.pk marker_key) then steps_left (at.Switch part marker epoch) p else 3 + again part p
most_left (at.Finish part epoch) p = if is_owned p part.pk epoch then steps_left (at.Finish part epoch) p else 1 + again part p
most_left at.Done p = 0

-- so many steps are left at most, of one whose rows and tags in hand stand, or of any
abbrev pub Lasts : ℕ → Pair → State → Type 0
Lasts n p state = (Stands p state × (steps_left state p ≤ n)) ⊎ (most_left state p ≤ n)
