-- The rows that a batch is judged on are those of the logical table.
use Rattle.std.proofs.Common.{◌≡◌, ◌≢◌, ℕ, true, false, List, sym, ap, ◌∙◌, None, option_map, All}
use Rattle.std.proofs.lemmas.List.Elements.{All-from_recursion, recursion_from_All}
use Rattle.mt_chain.specs.declared.row.StoredRow.{StoredRow}
use Rattle.mt_chain.specs.declared.op.Op.{Op}
use Rattle.mt_chain.specs.Rows.{named_rows}
use Rattle.mt_chain.specs.Effect.{op_key}
use Rattle.mt_rules.specs.Batches.{IsBatch, partition_of}
use Rattle.mt_meta.specs.declared.fact.Keys.TheVariants as keys
use Rattle.mt_meta.specs.Markers.{marker_key}
use Rattle.mt_meta.specs.Logical.{Pair, AtFilling, AtUseNew, old_at, new_at, old_state_at, new_state_at, logical}
use Rattle.mt_meta.specs.Sound.{IsSound}
use Rattle.mt_meta.specs.Facts.{KnowsTurned, is_in, is_filling}
use Rattle.mt_meta.specs.Steps.{as_row, logical_table}
use Rattle.mt_batch_plan.specs.declared.basis.Basis.{Basis}
use Rattle.mt_batch_plan.specs.declared.basis.Basis.TheVariants.{OldRows, OldBirth, Overlay, NewRows, NewBirth}
use Rattle.mt_batch_plan.specs.Bases.{seen_on, seen_by, table_on, row_keys}
use Rattle.mt_batch_plan.specs.Calls.{AreNames}
use Rattle.mt_meta.specs.ReadRows.{kept_in}
use Rattle.mt_meta.proofs.ByMarkers.{is_write_state, shows_old, shows_none, shows_fill, shows_new, shows_nothing}
use Rattle.mt_meta.proofs.ReadLaws.{kept_at, turned_row}
use Rattle.mt_batch_plan.proofs.OpLaws.{each_all, both_all, IsOf, ops_of, each_key, key_named}

-- the table that a batch is judged on is the logical one at its operations' keys
abbrev pub Agrees : Pair → List Op → Basis → Type 0
Agrees p ops basis = All (λ op. logical_table p (op_key op) ≡ table_on basis (op_key op)) ops

-- where the rows at these keys are those that clients see
agrees : (p : Pair) (ops : List Op) (basis : Basis) → IsBatch ops → ((rk : List ℕ) → rk ≢ marker_key → is_in rk (row_keys ops) ≡ true → option_map as_row (logical p (partition_of ops) rk) ≡ seen_by basis rk) → Agrees p ops basis
agrees p ops basis batch f = All-from_recursion (λ op. logical_table p (op_key op) ≡ table_on basis (op_key op)) ops
    (each_all (λ op. IsOf (partition_of ops) op × (option_map as_row (logical p (partition_of ops) (op_key op).rk) ≡ seen_by basis (op_key op).rk)) (λ op. logical_table p (op_key op) ≡ table_on basis (op_key op))
    (λ op h. ap (λ pk. option_map as_row (logical p pk (op_key op).rk)) h.0.0 ∙ h.1) ops
    (both_all (IsOf (partition_of ops)) (λ op. option_map as_row (logical p (partition_of ops) (op_key op).rk) ≡ seen_by basis (op_key op).rk) ops (ops_of ops batch)
    (recursion_from_All (λ op. option_map as_row (logical p (partition_of ops) (op_key op).rk) ≡ seen_by basis (op_key op).rk) ops
    (each_key (λ rk. option_map as_row (logical p (partition_of ops) rk) ≡ seen_by basis rk) ops batch f))))

module _ (p : Pair) (ops : List Op) (sound : IsSound p) (batch : IsBatch ops) where
  pub rows_agree : (names : List (List ℕ)) → AreNames ops names → is_write_state (old_state_at p (partition_of ops)) ≡ true → Agrees p ops (OldRows (named_rows p.old.rows (partition_of ops) names))
  rows_agree names are writes = agrees p ops (OldRows (named_rows p.old.rows (partition_of ops) names)) batch (λ rk other named.
      ap (option_map as_row) (shows_old p (partition_of ops) rk sound writes other)
      ∙ ap (seen_on (OldRows (named_rows p.old.rows (partition_of ops) names)) None) (sym (kept_at p.old.rows (partition_of ops) names rk (key_named ops names rk are named))))

  pub unborn_agree : old_at p (partition_of ops) marker_key ≡ None → p.old.sealed ≡ false → Agrees p ops OldBirth
  unborn_agree none unsealed = agrees p ops OldBirth batch (λ rk other named. ap (option_map as_row) (shows_none p (partition_of ops) rk sound none unsealed))

  pub overlay_agrees : (rows : List StoredRow) (names : List (List ℕ)) → AreNames ops names → KnowsTurned p (partition_of ops) (keys.Named (row_keys ops)) rows → new_state_at p (partition_of ops) ≡ AtFilling
      → Agrees p ops (Overlay rows (named_rows p.new.rows (partition_of ops) names))
  overlay_agrees rows names are turned fills =
      let basis = Overlay rows (named_rows p.new.rows (partition_of ops) names) in
      agrees p ops basis batch (λ rk other named.
      ap (option_map as_row) (shows_fill p (partition_of ops) rk sound fills (turned.turned (ap is_filling fills)) other)
      ∙ ap (λ row. seen_on basis row (new_at p (partition_of ops) rk)) (turned_row p (partition_of ops) rk (keys.Named (row_keys ops)) rows turned (ap is_filling fills) other named)
      ∙ ap (seen_on basis (kept_in rows rk)) (sym (kept_at p.new.rows (partition_of ops) names rk (key_named ops names rk are named))))

  pub entries_agree : (names : List (List ℕ)) → AreNames ops names → new_state_at p (partition_of ops) ≡ AtUseNew → Agrees p ops (NewRows (named_rows p.new.rows (partition_of ops) names))
  entries_agree names are used =
      let basis = NewRows (named_rows p.new.rows (partition_of ops) names) in
      agrees p ops basis batch (λ rk other named.
      ap (option_map as_row) (shows_new p (partition_of ops) rk sound used other)
      ∙ ap (seen_on basis None) (sym (kept_at p.new.rows (partition_of ops) names rk (key_named ops names rk are named))))

  pub nothing_agrees : old_at p (partition_of ops) marker_key ≡ None → new_at p (partition_of ops) marker_key ≡ None → Agrees p ops NewBirth
  nothing_agrees none nothing = agrees p ops NewBirth batch (λ rk other named. ap (option_map as_row) (shows_nothing p (partition_of ops) rk sound none nothing))
