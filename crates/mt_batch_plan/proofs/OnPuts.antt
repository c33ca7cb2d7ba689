-- What the puts of a batch do to the rows of the store that is written, as clients see them.
use Rattle.std.proofs.Common.{◌≡◌, ℕ, Bool, true, false, cond, ◌||◌, List, [], ◌∷◌, map, refl, sym, ap, ◌∙◌, subst, bytes_eq, Some, None, Option, Ok, Err, inl, inr}
use Rattle.std.specs.Prelude.{option_map}
use Rattle.std.specs.List.{zip, AllByRecursion}
use Rattle.std.specs.List.Sorted.{IsStrictlySortedBy}
use Rattle.std.specs.Result.{result_err}
use Rattle.std.specs.Ordering.{nat_cmp, is_eq}
use Rattle.std.specs.declared.cmp.Ordering.TheVariants.{Less}
use Rattle.std.specs.Cmp.Lexicographic.{slice_cmp, texts_ties, nat_list_eq_equiv}
use Rattle.mt_model.specs.declared.tag.Tag.{Tag}
use Rattle.mt_model.specs.declared.value.Prop.{Prop}
use Rattle.mt_model.specs.Key.{key_fault}
use Rattle.mt_chain.specs.declared.row.Stored.{Stored}
use Rattle.mt_chain.specs.declared.row.Put.{Put}
use Rattle.mt_chain.specs.declared.op.Op.{Op}
use Rattle.mt_chain.specs.Rows.{key_at}
use Rattle.mt_chain.specs.Puts.{row_key, tag_of, tags_of, next_tag, counter_after}
use Rattle.mt_chain.specs.Effect.{Outcome, op_key, op_props, effect, any_tag, cause_on, left_by}
use Rattle.mt_chain.specs.Batch.{names, op_at, row_after}
use Rattle.mt_chain.proofs.KeyLaws.{text_true}
use Rattle.mt_chain.proofs.PutLaws as puts
use Rattle.mt_chain.proofs.PutLaws.{Each, is_named, row_after_unnamed}
use Rattle.mt_meta.specs.declared.mark.Mark.{Mark}
use Rattle.mt_meta.specs.declared.mark.Mark.TheVariants.{Live, Copy, Tomb}
use Rattle.mt_meta.specs.declared.marker.NewPhase.{NewPhase}
use Rattle.mt_meta.specs.declared.marker.NewPhase.TheVariants.{Filling, UseNew}
use Rattle.mt_meta.specs.Marks.{mark_of, marked, stored}
use Rattle.mt_meta.specs.Logical.{new_by, filling_by, from_old, shown_over}
use Rattle.mt_meta.specs.Steps.{as_row}
use Rattle.mt_meta.proofs.MarkLaws.{live_reads, live_visible}
use Rattle.mt_rules.proofs.VisibleLaws.{none_hidden}
use Rattle.mt_batch_plan.specs.declared.basis.Basis.{Basis}
use Rattle.mt_batch_plan.specs.declared.basis.Basis.TheVariants.{OldRows, OldBirth, Overlay, NewRows, NewBirth}
use Rattle.mt_batch_plan.specs.Bases.{seen_on, seen_by, stored_in, under_in, kept_props, kept_gone, untagged, kept_on, put_of, put_over, put_by}
use Rattle.mt_batch_plan.proofs.ClientPuts.{LeavesAs, IsPutOf}
use Rattle.mt_batch_plan.proofs.OldChanges.{IsVisible}
use Rattle.mt_batch_plan.proofs.NewChanges.{IsLeft, MayDelete}
use Rattle.mt_batch_plan.proofs.OnRows.{AreVisible, all_visible, RowVisible, seen_visible, shows_itself, WritesVisible, writes_visible, with_tag, with_its_tag, names_in}
use Rattle.mt_batch_plan.proofs.NameLaws.{not_marker}
use Rattle.mt_batch_plan.proofs.OpLaws.{IsOf}
use Rattle.mt_batch_plan.proofs.EffectLaws.{put_key}

-- ---- the puts of a batch are a client's

-- what a client leaves in the store that is written: visible properties in old; in new a live row, and while new fills also a tombstone
abbrev pub LeftIn : Basis → List Prop → Type 0
LeftIn (OldRows rows) = IsVisible
LeftIn OldBirth = IsVisible
LeftIn (Overlay rows entries) = IsLeft Filling
LeftIn (NewRows entries) = IsLeft UseNew
LeftIn NewBirth = IsLeft UseNew

-- it deletes no entry while new fills
abbrev pub GoneIn : Basis → Type 0
GoneIn (OldRows rows) = Unit {0}
GoneIn OldBirth = Unit {0}
GoneIn (Overlay rows entries) = MayDelete Filling
GoneIn (NewRows entries) = MayDelete UseNew
GoneIn NewBirth = MayDelete UseNew

abbrev pub IsGoodPut : List ℕ → Basis → Put → Type 0
IsGoodPut pk basis put = IsPutOf pk (LeftIn basis) (GoneIn basis) put

live_again : (ps : List Prop) → stored Live ps ≡ stored Live (stored Live ps)
live_again ps = ap (λ (qs : List Prop). marked Live qs) (sym (live_visible ps))

row_left : (basis : Basis) (ps : List Prop) → AreVisible ps → LeftIn basis (kept_props basis ps)
row_left (OldRows rows) ps h = all_visible ps h
row_left OldBirth ps h = all_visible ps h
row_left (Overlay rows entries) ps h = inl (live_again ps)
row_left (NewRows entries) ps h = live_again ps
row_left NewBirth ps h = live_again ps

gone_left : (basis : Basis) (rk : List ℕ) (row : Option Stored) → LeavesAs (LeftIn basis) (GoneIn basis) (put_of rk row (option_map untagged (kept_gone basis)))
gone_left (OldRows rows) rk None = tt
gone_left (OldRows rows) rk (Some was) = tt
gone_left OldBirth rk None = tt
gone_left OldBirth rk (Some was) = tt
gone_left (Overlay rows entries) rk None = inr refl
gone_left (Overlay rows entries) rk (Some was) = inr refl
gone_left (NewRows entries) rk None = tt
gone_left (NewRows entries) rk (Some was) = tt
gone_left NewBirth rk None = tt
gone_left NewBirth rk (Some was) = tt

put_leaves : (basis : Basis) (rk : List ℕ) (row made : Option Stored) → RowVisible made → LeavesAs (LeftIn basis) (GoneIn basis) (put_of rk row (kept_on basis made))
put_leaves basis rk row None h = gone_left basis rk row
put_leaves basis rk None (Some made) h = row_left basis made.props h
put_leaves basis rk (Some was) (Some made) h = row_left basis made.props h

left_visible : (made : Outcome) → WritesVisible made → RowVisible (left_by made None)
left_visible (Ok row) h = h
left_visible (Err cause) h = tt

-- ---- what clients see of it

-- clients see a live row of visible properties as it is, with its own tag, whatever old has
live_over : (phase : NewPhase) (row : Option Stored) (ps : List Prop) (tag : Tag) → AreVisible ps
    → option_map as_row (shown_over phase row (Some (record { props = stored Live ps; tag = tag }))) ≡ Some (record { props = ps; tag = tag })
live_over Filling row ps tag h =
    ap (λ mark. option_map as_row (filling_by mark (record { props = stored Live ps; tag = tag }) (from_old row))) (live_reads ps)
    ∙ ap (λ qs. Some (record { props = qs; tag = tag })) (live_visible ps ∙ all_visible ps h)
live_over UseNew row ps tag h =
    ap (λ mark. option_map as_row (new_by mark (record { props = stored Live ps; tag = tag }))) (live_reads ps)
    ∙ ap (λ qs. Some (record { props = qs; tag = tag })) (live_visible ps ∙ all_visible ps h)

-- what is kept of a row shows it
kept_shows : (basis : Basis) (under : Option Stored) (ps : List Prop) (tag : Tag) → AreVisible ps → seen_on basis under (Some (record { props = kept_props basis ps; tag = tag })) ≡ Some (record { props = ps; tag = tag })
kept_shows (OldRows rows) under ps tag h = shows_itself ps tag h
kept_shows OldBirth under ps tag h = shows_itself ps tag h
kept_shows (Overlay rows entries) under ps tag h = live_over Filling under ps tag h
kept_shows (NewRows entries) under ps tag h = live_over UseNew under ps tag h
kept_shows NewBirth under ps tag h = live_over UseNew under ps tag h

-- and of a row that goes nothing shows
gone_shows : (basis : Basis) (store n : ℕ) (rk : List ℕ) (under row : Option Stored) → seen_on basis under (puts.left_by store n (put_of rk row (option_map untagged (kept_gone basis))) row) ≡ None
gone_shows (OldRows rows) store n rk under None = refl
gone_shows (OldRows rows) store n rk under (Some was) = refl
gone_shows OldBirth store n rk under None = refl
gone_shows OldBirth store n rk under (Some was) = refl
gone_shows (Overlay rows entries) store n rk under None = refl
gone_shows (Overlay rows entries) store n rk under (Some was) = refl
gone_shows (NewRows entries) store n rk under None = refl
gone_shows (NewRows entries) store n rk under (Some was) = refl
gone_shows NewBirth store n rk under None = refl
gone_shows NewBirth store n rk under (Some was) = refl

left_shows : (basis : Basis) (store n : ℕ) (rk : List ℕ) (under row : Option Stored) (made : Outcome) → result_err made ≡ None → WritesVisible made
    → seen_on basis under (puts.left_by store n (put_of rk row (kept_on basis (left_by made None))) row)
    ≡ left_by (with_tag (tag_of store n (put_of rk row (kept_on basis (left_by made None)))) made) (seen_on basis under row)
left_shows basis store n rk under row (Err cause) accepted h = absurd cc
left_shows basis store n rk under row (Ok None) accepted h = gone_shows basis store n rk under row
left_shows basis store n rk under None (Ok (Some made)) accepted h = kept_shows basis under made.props (next_tag store n) h
left_shows basis store n rk under (Some was) (Ok (Some made)) accepted h = kept_shows basis under made.props (next_tag store n) h

-- clients see visible properties alone
entry_visible : (mark : Option Mark) (entry : Stored) → RowVisible (option_map as_row (new_by mark entry))
entry_visible None entry = tt
entry_visible (Some Live) entry = none_hidden entry.props
entry_visible (Some (Copy kept)) entry = none_hidden entry.props
entry_visible (Some Tomb) entry = tt

filling_visible : (mark : Option Mark) (row : Option Stored) (entry : Stored) → RowVisible (option_map as_row (filling_by mark entry (from_old row)))
filling_visible None row entry = tt
filling_visible (Some Live) row entry = none_hidden entry.props
filling_visible (Some (Copy kept)) row entry = seen_visible row
filling_visible (Some Tomb) row entry = tt

over_visible : (phase : NewPhase) (row entry : Option Stored) → RowVisible (option_map as_row (shown_over phase row entry))
over_visible Filling row None = seen_visible row
over_visible Filling row (Some entry) = filling_visible (mark_of entry.props) row entry
over_visible UseNew row None = tt
over_visible UseNew row (Some entry) = entry_visible (mark_of entry.props) entry

sight_visible : (basis : Basis) (under row : Option Stored) → RowVisible (seen_on basis under row)
sight_visible (OldRows rows) under row = seen_visible row
sight_visible OldBirth under row = seen_visible row
sight_visible (Overlay rows entries) under row = over_visible Filling under row
sight_visible (NewRows entries) under row = over_visible UseNew under row
sight_visible NewBirth under row = over_visible UseNew under row

-- the put of an operation leaves what clients see as the operation's effect on what they saw
put_shows : (basis : Basis) (store n : ℕ) (op : Op) (under row : Option Stored) → AreVisible (op_props op) → cause_on op (seen_on basis under row) ≡ None
    → seen_on basis under (puts.left_by store n (put_over basis op (seen_on basis under row) row) row)
    ≡ left_by (effect op (seen_on basis under row) (tag_of store n (put_over basis op (seen_on basis under row) row))) (seen_on basis under row)
put_shows basis store n op under row visible accepted =
    left_shows basis store n (op_key op).rk under row (effect op (seen_on basis under row) any_tag) accepted (writes_visible op (seen_on basis under row) visible (sight_visible basis under row))
    ∙ ap (λ made. left_by made (seen_on basis under row)) (sym (with_its_tag op (seen_on basis under row) (tag_of store n (put_over basis op (seen_on basis under row) row))))

-- ---- each put

good_put : (pk : List ℕ) (basis : Basis) (op : Op) → IsOf pk op → IsGoodPut pk basis (put_by basis op)
good_put pk basis op h =
    let rk = (op_key op).rk in
    let seen = seen_by basis rk in
    let key : key_fault pk rk ≡ None = ap (λ k. key_fault k rk) (sym h.0) ∙ h.1.key in
    record {
      other = λ e. not_marker pk rk key (sym (put_key basis op) ∙ e);
      key = ap (key_fault pk) (put_key basis op) ∙ key;
      leaves = put_leaves basis rk (stored_in basis rk) (left_by (effect op seen any_tag) None)
          (left_visible (effect op seen any_tag) (writes_visible op seen h.1.visible (sight_visible basis (under_in basis rk) (stored_in basis rk))));
    }

pub good_puts : (pk : List ℕ) (basis : Basis) (ops : List Op) → AllByRecursion (IsOf pk) ops → Each (IsGoodPut pk basis) (map (put_by basis) ops)
good_puts pk basis [] h = tt
good_puts pk basis (op ∷ ops) h = (good_put pk basis op h.0, good_puts pk basis ops h.1)

-- ---- the puts of a batch

-- the put of an operation, at the row that is there, leaves what is shown as the operation's effect
record LeavesEffect (pk : List ℕ) (store : ℕ) (put : Op → Put) (show : List ℕ → Option Stored → Option Stored) (now : List ℕ → Option Stored) (op : Op) : Type 0 where
  pub partition : (op_key op).pk ≡ pk
  pub key : row_key (put op) ≡ (op_key op).rk
  pub shows : (n : ℕ) → show (op_key op).rk (puts.left_by store n (put op) (now (op_key op).rk))
      ≡ left_by (effect op (show (op_key op).rk (now (op_key op).rk)) (tag_of store n (put op))) (show (op_key op).rk (now (op_key op).rk))

below_not_named : (pk : List ℕ) (store : ℕ) (put : Op → Put) (show : List ℕ → Option Stored → Option Stored) (now : List ℕ → Option Stored) (rk : List ℕ) (ops : List Op)
    → AllByRecursion (LeavesEffect pk store put show now) ops → AllByRecursion (λ y. slice_cmp nat_cmp rk y ≡ Less) (map (λ op. (op_key op).rk) ops) → is_named rk (map put ops) ≡ false
below_not_named pk store put show now rk [] all h = refl
below_not_named pk store put show now rk (op ∷ ops) all h =
    let apart : bytes_eq (row_key (put op)) rk ≡ false =
    ap (λ k. bytes_eq k rk) all.0.key ∙ nat_list_eq_equiv.symm (op_key op).rk rk ∙ texts_ties rk (op_key op).rk ∙ ap is_eq h.0 in
    ap (λ b. b || is_named rk (map put ops)) apart ∙ below_not_named pk store put show now rk ops all.1 h.1

-- at each row key they then leave what is shown as the batch, where each operation has the tag of its put
puts_show : (store n : ℕ) (pk : List ℕ) (put : Op → Put) (show : List ℕ → Option Stored → Option Stored) (now : List ℕ → Option Stored) (ops : List Op) (rk : List ℕ)
    → AllByRecursion (LeavesEffect pk store put show now) ops → IsStrictlySortedBy (slice_cmp nat_cmp) (map (λ op. (op_key op).rk) ops)
    → show rk (puts.row_after store n (map put ops) rk (now rk)) ≡ row_after (op_at (zip ops (tags_of store n (map put ops))) (key_at pk rk)) (show rk (now rk))
unfolding IsStrictlySortedBy
puts_show store n pk put show now [] rk all rising = refl
puts_show store n pk put show now (op ∷ ops) rk all rising =
    go (bytes_eq (op_key op).rk rk) refl (ap (λ k. bytes_eq k rk) all.0.key) (names_in pk rk op all.0.partition)
    (puts_show store (counter_after n (put op)) pk put show now ops rk all.1 rising.1) where
      go : (b : Bool) → bytes_eq (op_key op).rk rk ≡ b → bytes_eq (row_key (put op)) rk ≡ bytes_eq (op_key op).rk rk → names (key_at pk rk) op ≡ bytes_eq (op_key op).rk rk
          → show rk (puts.row_after store (counter_after n (put op)) (map put ops) rk (now rk)) ≡ row_after (op_at (zip ops (tags_of store (counter_after n (put op)) (map put ops))) (key_at pk rk)) (show rk (now rk))
          → show rk (puts.row_after store n (map put (op ∷ ops)) rk (now rk)) ≡ row_after (op_at (zip (op ∷ ops) (tags_of store n (map put (op ∷ ops)))) (key_at pk rk)) (show rk (now rk))
      go true e k m rest =
          let tag = tag_of store n (put op) in
          let out : is_named rk (map put ops) ≡ false = ap (λ r. is_named r (map put ops)) (sym (text_true (op_key op).rk rk e)) ∙ below_not_named pk store put show now (op_key op).rk ops all.1 rising.0 in
          ap (λ b. show rk (puts.row_after store (counter_after n (put op)) (map put ops) rk (cond b (puts.left_by store n (put op) (now rk)) (now rk)))) (k ∙ e)
          ∙ ap (show rk) (row_after_unnamed store (counter_after n (put op)) (map put ops) rk (puts.left_by store n (put op) (now rk)) out)
          ∙ subst (λ r. show r (puts.left_by store n (put op) (now r)) ≡ left_by (effect op (show r (now r)) tag) (show r (now r))) (text_true (op_key op).rk rk e) (all.0.shows n)
          ∙ ap (λ b. row_after (cond b (Some (op, tag)) (op_at (zip ops (tags_of store (counter_after n (put op)) (map put ops))) (key_at pk rk))) (show rk (now rk))) (sym (m ∙ e))
      go false e k m rest =
          ap (λ b. show rk (puts.row_after store (counter_after n (put op)) (map put ops) rk (cond b (puts.left_by store n (put op) (now rk)) (now rk)))) (k ∙ e)
          ∙ rest
          ∙ ap (λ b. row_after (cond b (Some (op, tag_of store n (put op))) (op_at (zip ops (tags_of store (counter_after n (put op)) (map put ops))) (key_at pk rk))) (show rk (now rk))) (sym (m ∙ e))

-- an operation of the partition that is accepted on what clients see by the rows read at its key, which are still what the stores have there
pub record Stands (basis : Basis) (pk : List ℕ) (old now : List ℕ → Option Stored) (op : Op) : Type 0 where
  pub partition : (op_key op).pk ≡ pk
  pub sight : seen_on basis (old (op_key op).rk) (now (op_key op).rk) ≡ seen_by basis (op_key op).rk
  pub row : now (op_key op).rk ≡ stored_in basis (op_key op).rk
  pub visible : AreVisible (op_props op)
  pub accepted : cause_on op (seen_by basis (op_key op).rk) ≡ None

op_leaves : (basis : Basis) (pk : List ℕ) (store : ℕ) (old now : List ℕ → Option Stored) (op : Op) → Stands basis pk old now op
    → LeavesEffect pk store (put_by basis) (λ rk. seen_on basis (old rk)) now op
op_leaves basis pk store old now op h =
    let rk = (op_key op).rk in
    let same : put_over basis op (seen_on basis (old rk) (now rk)) (now rk) ≡ put_by basis op =
    ap (λ seen. put_over basis op seen (now rk)) h.sight ∙ ap (put_over basis op (seen_by basis rk)) h.row in
    record {
      partition = h.partition;
      key = put_key basis op;
      shows = λ n. subst (λ put. seen_on basis (old rk) (puts.left_by store n put (now rk)) ≡ left_by (effect op (seen_on basis (old rk) (now rk)) (tag_of store n put)) (seen_on basis (old rk) (now rk))) same
          (put_shows basis store n op (old rk) (now rk) h.visible (ap (cause_on op) h.sight ∙ h.accepted));
    }

all_leave : (basis : Basis) (pk : List ℕ) (store : ℕ) (old now : List ℕ → Option Stored) (ops : List Op) → AllByRecursion (Stands basis pk old now) ops
    → AllByRecursion (LeavesEffect pk store (put_by basis) (λ rk. seen_on basis (old rk)) now) ops
all_leave basis pk store old now [] h = tt
all_leave basis pk store old now (op ∷ ops) h = (op_leaves basis pk store old now op h.0, all_leave basis pk store old now ops h.1)

-- at each row key clients see afterwards the batch on what they saw
pub rows_show : (basis : Basis) (pk : List ℕ) (store n : ℕ) (old now : List ℕ → Option Stored) (ops : List Op) (rk : List ℕ)
    → AllByRecursion (Stands basis pk old now) ops → IsStrictlySortedBy (slice_cmp nat_cmp) (map (λ op. (op_key op).rk) ops)
    → seen_on basis (old rk) (puts.row_after store n (map (put_by basis) ops) rk (now rk)) ≡ row_after (op_at (zip ops (tags_of store n (map (put_by basis) ops))) (key_at pk rk)) (seen_on basis (old rk) (now rk))
rows_show basis pk store n old now ops rk h rising = puts_show store n pk (put_by basis) (λ k. seen_on basis (old k)) now ops rk (all_leave basis pk store old now ops h) rising
