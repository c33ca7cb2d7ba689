-- How many steps are left at most, by the rows of both stores.
use Rattle.std.proofs.Common.{◌≡◌, ℕ, ◌+◌, ◌*◌, ◌≤◌, Bool, true, false, cond, not, ◌&&◌, List, [], length, Option, Some, None, refl, sym, ap, ◌∙◌, arith, inl, inr, bytes_eq}
use Rattle.std.specs.Prelude.{is_some, is_none}
use Rattle.std.proofs.lemmas.Bool.{and_parts}
use Rattle.mt_model.specs.declared.key.Key.{Key}
use Rattle.mt_model.specs.declared.tag.Tag.{Tag}
use Rattle.mt_chain.specs.declared.query.PkFrom.{PkFrom}
use Rattle.mt_chain.specs.declared.query.PkFrom.TheVariants as start
use Rattle.mt_chain.specs.declared.row.Stored.{Stored}
use Rattle.mt_chain.specs.Rows.{Rows, is_past}
use Rattle.mt_chain.specs.Puts.{has_tag}
use Rattle.mt_chain.proofs.KeyLaws.{text_false}
use Rattle.mt_meta.specs.Markers.{marker_key}
use Rattle.mt_meta.specs.Logical.{Pair, old_at, new_at, new_state_at}
use Rattle.mt_meta.specs.Facts.{is_use_new}
use Rattle.mt_meta.specs.ReadRows.{marker_tag}
use Rattle.mt_meta.proofs.StorePuts.{tagged}
use Rattle.mt_migrate.specs.declared.state.Walk.{Walk}
use Rattle.mt_migrate.specs.declared.state.Walk.TheVariants.{BeforeSeal, AfterSeal}
use Rattle.mt_migrate.specs.declared.state.Pass.{Pass}
use Rattle.mt_migrate.specs.declared.state.Pass.TheVariants.{First, Second}
use Rattle.mt_migrate.specs.declared.state.Part.{Part}
use Rattle.mt_migrate.specs.declared.state.State.{State}
use Rattle.mt_migrate.specs.declared.state.State.TheVariants as at
use Rattle.mt_migrate.specs.Chunks.{end_of}
use Rattle.mt_migrate.specs.Moves.{GoesOn}
use Rattle.mt_migrate.specs.RowCounts.{count_of, is_marker, is_data, is_unread, unread, old_rows, entries_of, partitions, data_in, any_partition, is_other, is_unmoved}
use Rattle.mt_migrate.specs.StepsLeft.{chunks, passes, others_left, look_left, claim_left, pass_left, steps_left, is_owned}
use Rattle.mt_migrate.specs.MostLeft.{again, pass_again, end_left, stale_left, most_left, Lasts}
use Rattle.mt_migrate.proofs.Counts.{count_in}
use Rattle.mt_migrate.proofs.PartsLeft.{in_part, part_down, has_marker, not_past, lone_in}
use Rattle.mt_migrate.proofs.MarkerSteps.{AreRising}
use Rattle.mt_migrate.proofs.AloneLaw.{kind_of, kinds_within}

-- the rows of both stores
abbrev pub rows_of : Pair → ℕ
rows_of p = length p.old.rows + length p.new.rows

-- a partition's rows beside those of the others
pub record Beside (p : Pair) (pk : List ℕ) : Type 0 where
  pub others : (walk : Walk) → others_left (record { walk = walk; pk = pk }) p ≤ 16 * partitions (is_other pk any_partition) p + (3 * data_in (is_other pk any_partition) p.old.rows + 2 * data_in (is_other pk any_partition) p.new.rows) + 6
  pub all : partitions (is_other pk any_partition) p + count_of (in_part is_marker pk) p.old.rows + (data_in (is_other pk any_partition) p.old.rows + old_rows p pk) + (data_in (is_other pk any_partition) p.new.rows + entries_of p pk) + count_of (in_part is_marker pk) p.new.rows ≤ rows_of p

beside : (p : Pair) (pk : List ℕ) → Beside p pk
beside p pk = record {
  others = λ walk.
      let ahead = count_in (λ k. is_marker k && is_past (start.After pk) k.pk) (λ k. is_marker k && is_other pk any_partition k.pk) p.old.rows
      (λ k h. let a = and_parts (is_marker k) (is_past (start.After pk) k.pk) h in ap (λ b. b && (not (bytes_eq pk k.pk) && true)) a.0 ∙ ap (λ b. not b && true) (text_false pk k.pk (not_past pk k.pk a.1))) in
      let a = fewer is_marker p.old.rows in
      let b = fewer is_data p.old.rows in
      let c = fewer is_data p.new.rows in
      by walk ahead a b c;
  all =
      let a = kinds_within p.old.rows in
      let b = kinds_within p.new.rows in
      let c = part_down is_marker any_partition pk p.old.rows in
      let d = part_down is_data any_partition pk p.old.rows in
      let e = part_down is_data any_partition pk p.new.rows in
      let f = part_down is_marker any_partition pk p.new.rows in
      omega (arith, a, b, c, d, e, f);
} where
  fewer : (kind : Key → Bool) (rows : Rows) → count_of (λ k. kind k && is_other pk (is_unmoved p) k.pk) rows ≤ count_of (λ k. kind k && is_other pk any_partition k.pk) rows
  fewer kind rows = count_in (λ k. kind k && is_other pk (is_unmoved p) k.pk) (λ k. kind k && is_other pk any_partition k.pk) rows
      (λ k h. let a = and_parts (kind k) (is_other pk (is_unmoved p) k.pk) h in let b = and_parts (not (bytes_eq pk k.pk)) (is_unmoved p k.pk) a.1 in ap (λ x. x && (not (bytes_eq pk k.pk) && true)) a.0 ∙ ap (λ x. x && true) b.0)

  by : (walk : Walk) → partitions (is_past (start.After pk)) p ≤ partitions (is_other pk any_partition) p → partitions (is_other pk (is_unmoved p)) p ≤ partitions (is_other pk any_partition) p
      → data_in (is_other pk (is_unmoved p)) p.old.rows ≤ data_in (is_other pk any_partition) p.old.rows → data_in (is_other pk (is_unmoved p)) p.new.rows ≤ data_in (is_other pk any_partition) p.new.rows
      → others_left (record { walk = walk; pk = pk }) p ≤ 16 * partitions (is_other pk any_partition) p + (3 * data_in (is_other pk any_partition) p.old.rows + 2 * data_in (is_other pk any_partition) p.new.rows) + 6
  by BeforeSeal ahead a b c = omega (arith, ahead, a, b, c)
  by AfterSeal ahead a b c = omega (arith, ahead, a, b, c)

-- what is left in other partitions and six steps, with sixteen for each row of this one, stay below
others_most : (p : Pair) (part : Part) → others_left part p + 28 * (count_of (in_part is_marker part.pk) p.old.rows + count_of (in_part is_marker part.pk) p.new.rows) + 28 * (old_rows p part.pk + entries_of p part.pk) ≤ 28 * rows_of p + 6
others_most p part = (let h = beside p part.pk in let a = h.others part.walk in let b = h.all in omega (arith, a, b))

unread_most : (p : Pair) (pk : List ℕ) (before : Option (List ℕ)) → unread p pk before ≤ old_rows p pk + entries_of p pk
unread_most p pk before =
    let a = fewer p.old.rows in
    let b = fewer p.new.rows in
    omega (arith, a, b) where
      fewer : (rows : Rows) → count_of (is_unread pk before) rows ≤ count_of (is_unread pk None) rows
      fewer rows = count_in (is_unread pk before) (is_unread pk None) rows (λ k h. let a = and_parts (is_data k) _ h in let b = and_parts (bytes_eq pk k.pk) _ a.1 in ap (λ x. x && (bytes_eq pk k.pk && true)) a.0 ∙ ap (λ x. x && true) b.0)

look_most : (p : Pair) (pk : List ℕ) → AreRising p → look_left p pk ≤ 4 + 8 * count_of (in_part is_marker pk) p.old.rows + (3 * old_rows p pk + 2 * entries_of p pk)
look_most p pk up = go (is_unmoved p pk) refl where
  go : (b : Bool) → is_unmoved p pk ≡ b → cond b (12 + passes p pk) 2 ≤ 4 + 8 * count_of (in_part is_marker pk) p.old.rows + (3 * old_rows p pk + 2 * entries_of p pk)
  go false e = omega arith
  go true e = by (old_at p pk marker_key) refl (and_parts (is_some (old_at p pk marker_key)) (not (is_use_new (new_state_at p pk))) e).0 where
    by : (x : Option Stored) → old_at p pk marker_key ≡ x → is_some (old_at p pk marker_key) ≡ true → 12 + passes p pk ≤ 4 + 8 * count_of (in_part is_marker pk) p.old.rows + (3 * old_rows p pk + 2 * entries_of p pk)
    by (Some r) is there = (let x = has_marker pk p.old.rows r up.0 is in omega (arith, x))
    by None is there = absurd (let x : false ≡ true = sym (ap is_some is) ∙ there in cc)

again_most : (p : Pair) (part : Part) → AreRising p → again part p ≤ 28 * rows_of p + 10
again_most p part up = (let a = others_most p part in let b = look_most p part.pk up in omega (arith, a, b))

claim_most : (p : Pair) (part : Part) → others_left part p + claim_left p part.pk ≤ 28 * rows_of p + 16
claim_most p part = go (is_unmoved p part.pk) (others_most p part) where
  go : (b : Bool) → others_left part p + 28 * (count_of (in_part is_marker part.pk) p.old.rows + count_of (in_part is_marker part.pk) p.new.rows) + 28 * (old_rows p part.pk + entries_of p part.pk) ≤ 28 * rows_of p + 6
      → others_left part p + cond b (10 + passes p part.pk) 1 ≤ 28 * rows_of p + 16
  go true h = omega (arith, h)
  go false h = omega (arith, h)

pass_left_most : (p : Pair) (pk : List ℕ) (pass : Pass) → pass_left p pk pass ≤ 5 + 3 * chunks (2 * old_rows p pk + entries_of p pk)
pass_left_most p pk (First marker) = (let a = lone_in pk p in omega (arith, a))
pass_left_most p pk Second = omega arith

pass_again_most : (p : Pair) (pk : List ℕ) (pass : Pass) → pass_again p pk pass ≤ 15 + (3 * chunks (old_rows p pk + entries_of p pk + 50) + 3 * chunks (2 * old_rows p pk + entries_of p pk + 50))
pass_again_most p pk (First marker) = omega arith
pass_again_most p pk Second = omega arith

end_left_most : (p : Pair) (pk : List ℕ) (end : Option (List ℕ)) → end_left p pk end ≤ 3 * chunks (old_rows p pk + entries_of p pk) + 3
end_left_most p pk None = omega arith
end_left_most p pk (Some rk) = (let a = unread_most p pk (Some rk) in omega (arith, a))

-- where new has the migrator's marker, there is a row
owned_marker : (p : Pair) (pk : List ℕ) (epoch : Tag) → AreRising p → is_owned p pk epoch ≡ true → 1 ≤ count_of (in_part is_marker pk) p.new.rows
owned_marker p pk epoch up own = (let m = tagged (new_at p pk marker_key) epoch own in has_marker pk p.new.rows m.0 up.1 m.1)

old_marker : (p : Pair) (pk : List ℕ) (tag : Tag) → AreRising p → has_tag tag (old_at p pk marker_key) ≡ true → 1 ≤ count_of (in_part is_marker pk) p.old.rows
old_marker p pk tag up held = (let m = tagged (old_at p pk marker_key) tag held in has_marker pk p.old.rows m.0 up.0 m.1)

if_at_most : (b : Bool) (x y n : ℕ) → (b ≡ true → x ≤ n) → y ≤ n → cond b x y ≤ n
if_at_most true x y n h g = h refl
if_at_most false x y n h g = g

walk_most : (p : Pair) (walk : Walk) (from : PkFrom) → steps_left (at.Walk walk from) p ≤ 28 * rows_of p + 16
walk_most p walk from =
    let a = kind_of is_marker (is_past from) p.old.rows in
    let b = kind_of is_marker (is_unmoved p) p.old.rows in
    let c = kind_of is_data (is_unmoved p) p.old.rows in
    let d = kind_of is_data (is_unmoved p) p.new.rows in
    let e = kinds_within p.old.rows in
    let f = kinds_within p.new.rows in
    go walk a b c d e f where
      go : (walk : Walk) → partitions (is_past from) p ≤ partitions any_partition p → partitions (is_unmoved p) p ≤ partitions any_partition p → data_in (is_unmoved p) p.old.rows ≤ data_in any_partition p.old.rows → data_in (is_unmoved p) p.new.rows ≤ data_in any_partition p.new.rows
          → partitions any_partition p + data_in any_partition p.old.rows ≤ length p.old.rows → count_of (λ k. is_marker k && true) p.new.rows + data_in any_partition p.new.rows ≤ length p.new.rows
          → steps_left (at.Walk walk from) p ≤ 28 * rows_of p + 16
      go BeforeSeal a b c d e f = omega (arith, a, b, c, d, e, f)
      go AfterSeal a b c d e f = omega (arith, a, b, c, d, e, f)

pub most_within : (state : State) (p : Pair) → AreRising p → most_left state p ≤ 28 * rows_of p + 16
most_within (at.Walk walk from) p up = walk_most p walk from
most_within at.SealOld p up = (let x = walk_most p BeforeSeal (start.From []) in omega (arith, x))
most_within (at.Look part) p up = (let x = again_most p part up in omega (arith, x))
most_within (at.Prepare part rows) p up = if_at_most (has_tag (marker_tag rows) (old_at p part.pk marker_key)) (steps_left (at.Prepare part rows) p) (1 + again part p) (28 * rows_of p + 16)
    (λ e. let a = others_most p part in let b = old_marker p part.pk (marker_tag rows) up e in omega (arith, a, b)) (let x = again_most p part up in omega (arith, x))
most_within (at.Claim part pass) p up = claim_most p part
most_within (at.Begin part pass) p up = if_at_most (is_none (new_at p part.pk marker_key)) (steps_left (at.Begin part pass) p) (1 + again part p) (28 * rows_of p + 16)
    (λ e. let a = others_most p part in omega (arith, a)) (let x = again_most p part up in omega (arith, x))
most_within (at.Takeover part pass filling) p up = if_at_most (is_owned p part.pk filling) (steps_left (at.Takeover part pass filling) p) (1 + again part p) (28 * rows_of p + 16)
    (λ e. let a = others_most p part in omega (arith, a)) (let x = again_most p part up in omega (arith, x))
most_within (at.ReadOld c) p up = if_at_most (is_owned p c.part.pk c.epoch) (steps_left (at.ReadOld c) p) (stale_left c.pass + again c.part p) (28 * rows_of p + 16)
    (λ e. let a = others_most p c.part in let b = pass_left_most p c.part.pk c.pass in let d = unread_most p c.part.pk c.done in omega (arith, a, b, d)) (stale c.pass) where
      stale : (pass : Pass) → stale_left pass + again c.part p ≤ 28 * rows_of p + 16
      stale (First marker) = (let x = again_most p c.part up in omega (arith, x))
      stale Second = (let x = again_most p c.part up in omega (arith, x))
most_within (at.ReadNew c old) p up =
    if_at_most (is_owned p c.part.pk c.epoch) (others_left c.part p + (5 + 6 * chunks (unread p c.part.pk c.done) + end_left p c.part.pk (end_of old) + pass_again p c.part.pk c.pass)) (1 + again c.part p) (28 * rows_of p + 16)
    (λ e. let a = others_most p c.part in let b = owned_marker p c.part.pk c.epoch up e in let d = pass_again_most p c.part.pk c.pass in let f = end_left_most p c.part.pk (end_of old) in let g = unread_most p c.part.pk c.done in omega (arith, a, b, d, f, g))
    (let x = again_most p c.part up in omega (arith, x))
most_within (at.Write c upto rows entries) p up =
    if_at_most (is_owned p c.part.pk c.epoch) (others_left c.part p + (4 + 3 * chunks (unread p c.part.pk c.done) + end_left p c.part.pk upto + pass_again p c.part.pk c.pass)) (4 + again c.part p) (28 * rows_of p + 16)
    (λ e. let a = others_most p c.part in let b = owned_marker p c.part.pk c.epoch up e in let d = pass_again_most p c.part.pk c.pass in let f = end_left_most p c.part.pk upto in let g = unread_most p c.part.pk c.done in omega (arith, a, b, d, f, g))
    (let x = again_most p c.part up in omega (arith, x))
most_within (at.Switch part marker epoch) p up = if_at_most (is_owned p part.pk epoch && has_tag marker (old_at p part.pk marker_key)) (steps_left (at.Switch part marker epoch) p) (3 + again part p) (28 * rows_of p + 16)
    (λ e. let a = others_most p part in let b = pass_left_most p part.pk (First marker) in omega (arith, a, b)) (let x = again_most p part up in omega (arith, x))
most_within (at.Finish part epoch) p up = if_at_most (is_owned p part.pk epoch) (steps_left (at.Finish part epoch) p) (1 + again part p) (28 * rows_of p + 16)
    (λ e. let a = others_most p part in omega (arith, a)) (let x = again_most p part up in omega (arith, x))
most_within at.Done p up = omega arith

-- ---- none left

some_others : (p : Pair) (part : Part) → 1 ≤ others_left part p
some_others p part = go part.walk where
  go : (walk : Walk) → 1 ≤ others_left (record { walk = walk; pk = part.pk }) p
  go BeforeSeal = omega arith
  go AfterSeal = omega arith

some_walk : (p : Pair) (walk : Walk) (from : PkFrom) → 1 ≤ steps_left (at.Walk walk from) p
some_walk p BeforeSeal from = omega arith
some_walk p AfterSeal from = omega arith

-- a migrator that goes on has steps left
pub some_left : (state : State) (p : Pair) → GoesOn state → 1 ≤ steps_left state p
some_left (at.Walk walk from) p on = some_walk p walk from
some_left at.SealOld p on = omega arith
some_left (at.Look part) p on = (let x = some_others p part in omega (arith, x))
some_left (at.Prepare part rows) p on = omega arith
some_left (at.Claim part pass) p on = (let x = some_others p part in omega (arith, x))
some_left (at.Begin part pass) p on = omega arith
some_left (at.Takeover part pass filling) p on = omega arith
some_left (at.ReadOld c) p on = (let x = some_others p c.part in omega (arith, x))
some_left (at.ReadNew c old) p on = (let x = some_others p c.part in omega (arith, x))
some_left (at.Write c upto rows entries) p on = (let x = some_others p c.part in omega (arith, x))
some_left (at.Switch part marker epoch) p on = (let x = some_others p part in omega (arith, x))
some_left (at.Finish part epoch) p on = (let x = some_others p part in omega (arith, x))
some_left at.Done p on = absurd (let x = on in cc)

if_at_least : (b : Bool) (x y : ℕ) → 1 ≤ x → 1 ≤ y → 1 ≤ cond b x y
if_at_least true x y h g = h
if_at_least false x y h g = g

some_again : (p : Pair) (part : Part) (n : ℕ) → 1 ≤ n + again part p
some_again p part n = (let x = some_others p part in omega (arith, x))

pub some_most_left : (state : State) (p : Pair) → GoesOn state → 1 ≤ most_left state p
some_most_left (at.Walk walk from) p on = some_walk p walk from
some_most_left at.SealOld p on = omega arith
some_most_left (at.Look part) p on = some_left (at.Look part) p on
some_most_left (at.Prepare part rows) p on = if_at_least (has_tag (marker_tag rows) (old_at p part.pk marker_key)) (steps_left (at.Prepare part rows) p) (1 + again part p) (some_left (at.Prepare part rows) p on) (some_again p part 1)
some_most_left (at.Claim part pass) p on = some_left (at.Claim part pass) p on
some_most_left (at.Begin part pass) p on = if_at_least (is_none (new_at p part.pk marker_key)) (steps_left (at.Begin part pass) p) (1 + again part p) (some_left (at.Begin part pass) p on) (some_again p part 1)
some_most_left (at.Takeover part pass filling) p on = if_at_least (is_owned p part.pk filling) (steps_left (at.Takeover part pass filling) p) (1 + again part p) (some_left (at.Takeover part pass filling) p on) (some_again p part 1)
some_most_left (at.ReadOld c) p on = if_at_least (is_owned p c.part.pk c.epoch) (steps_left (at.ReadOld c) p) (stale_left c.pass + again c.part p) (some_left (at.ReadOld c) p on) (some_again p c.part (stale_left c.pass))
some_most_left (at.ReadNew c old) p on = if_at_least (is_owned p c.part.pk c.epoch) (others_left c.part p + (5 + 6 * chunks (unread p c.part.pk c.done) + end_left p c.part.pk (end_of old) + pass_again p c.part.pk c.pass)) (1 + again c.part p) (let x = some_others p c.part in omega (arith, x)) (some_again p c.part 1)
some_most_left (at.Write c upto rows entries) p on = if_at_least (is_owned p c.part.pk c.epoch) (others_left c.part p + (4 + 3 * chunks (unread p c.part.pk c.done) + end_left p c.part.pk upto + pass_again p c.part.pk c.pass)) (4 + again c.part p) (let x = some_others p c.part in omega (arith, x)) (some_again p c.part 4)
some_most_left (at.Switch part marker epoch) p on = if_at_least (is_owned p part.pk epoch && has_tag marker (old_at p part.pk marker_key)) (steps_left (at.Switch part marker epoch) p) (3 + again part p) (some_left (at.Switch part marker epoch) p on) (some_again p part 3)
some_most_left (at.Finish part epoch) p on = if_at_least (is_owned p part.pk epoch) (steps_left (at.Finish part epoch) p) (1 + again part p) (some_left (at.Finish part epoch) p on) (some_again p part 1)
some_most_left at.Done p on = absurd (let x = on in cc)

pub lasts_some : (n : ℕ) (p : Pair) (state : State) → Lasts n p state → GoesOn state → 1 ≤ n
lasts_some n p state (inl h) on = (let x = some_left state p on in let y = h.1 in omega (arith, x, y))
lasts_some n p state (inr h) on = (let x = some_most_left state p on in omega (arith, x, h))
