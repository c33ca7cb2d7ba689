-- A chunk: a key that wants no put is exact, what a wanted put leaves is exact, and what is known of the epoch then.
use Rattle.std.proofs.Common.{◌≡◌, ◌≢◌, ◌⊎◌, ℕ, Bool, true, false, cond, not, ◌&&◌, ◌||◌, List, [], ◌∷◌, ◌++◌, map, filter, Option, Some, None, refl, sym, ap, subst, ◌∙◌, inl, inr, bytes_eq, codes, Less, Equal, Greater, Ordering}
use Rattle.std.specs.Prelude.{option_map, is_some, IfSome}
use Rattle.std.proofs.lemmas.Bool.{or_cases}
use Rattle.std.specs.List.{AllByRecursion}
use Rattle.std.specs.Ordering.{is_le, is_lt, ordering_reverse}
use Rattle.std.specs.Cmp.Lexicographic.{nat_list_cmp_total, nat_list_eq_equiv}
use Rattle.mt_model.specs.declared.name.Hidden.TheVariants as hidden
use Rattle.mt_model.specs.declared.tag.Tag.{Tag}
use Rattle.mt_model.specs.declared.value.Prop.{Prop}
use Rattle.mt_model.specs.Tag.{IsTag}
use Rattle.mt_model.specs.Name.{hidden_name}
use Rattle.mt_model.specs.Props.{is_visible, hidden_text, text_of, value_at}
use Rattle.mt_model.proofs.Same.{props_decide}
use Rattle.mt_chain.specs.declared.row.Stored.{Stored}
use Rattle.mt_chain.specs.declared.row.StoredRow.{StoredRow}
use Rattle.mt_chain.specs.declared.row.Put.{Put}
use Rattle.mt_chain.specs.declared.row.Put.TheVariants as put
use Rattle.mt_chain.specs.declared.query.RkFrom.TheVariants.{Start}
use Rattle.mt_chain.specs.Rows.{row_at, row_in, shown, is_from, is_upto}
use Rattle.mt_chain.specs.Puts.{row_key, is_same_tag, counter_after, next_tag}
use Rattle.mt_chain.specs.StoreCall.{Contents}
use Rattle.mt_chain.proofs.KeyLaws.{text_true, text_same, text_false}
use Rattle.mt_chain.proofs.PutLaws.{left_by, row_after, is_named, row_after_unnamed, Each}
use Rattle.mt_meta.specs.declared.mark.Mark.{Mark}
use Rattle.mt_meta.specs.declared.mark.Mark.TheVariants.{Live, Copy, Tomb}
use Rattle.mt_meta.specs.Markers.{marker_key}
use Rattle.mt_meta.specs.Marks.{mark_in, mark_of, kept_tag, seen_in, seen_tag, marked, stored}
use Rattle.mt_meta.specs.TagTexts.{read_tag}
use Rattle.mt_meta.specs.Logical.{Pair, old_at, new_at, old_state_at, shown_as, shown_with, from_old}
use Rattle.mt_meta.specs.Sound.{HasTag, IsOldRow, IsEntry, IsSound}
use Rattle.mt_meta.specs.declared.fact.Keys.TheVariants as keys
use Rattle.mt_meta.specs.Facts.{is_in, InKeys, KnowsRow, KnowsKept, KnowsEpoch, Exact, is_prefer_new}
use Rattle.mt_meta.proofs.MarkLaws.{live_reads, copy_reads, copy_visible, visible_value}
use Rattle.mt_meta.proofs.StorePuts.{Leaves, the_row}
use Rattle.mt_migrate.specs.declared.chunk.Want.{Want}
use Rattle.mt_migrate.specs.declared.chunk.Want.TheVariants.{Nothing, Insert, Replace, Delete}
use Rattle.mt_migrate.specs.Chunks.{are_alike, insert_want, replace_want, entry_want, want_of, is_of_chunk, want_at, is_want, wants_put, waiting, props_of, put_by, put_at, KeepsTag, IsWanted, ArePuts}
use Rattle.mt_migrate.specs.Moves.{past}
use Rattle.mt_migrate.specs.Known.{done_keys}
use Rattle.mt_chain.proofs.TextOrder.{text_cmp, or_left, or_right}
use Rattle.mt_chain.proofs.TwoLists.{has, not_there}
use Rattle.mt_migrate.proofs.Merging.{nothing_wanted}
use Rattle.mt_meta.proofs.StorePuts.{same_tag}
use Rattle.mt_migrate.proofs.CopyChanges.{IsCopyAt, KnowsCopy, CopyPut, copy_tag}

-- ---- the tag that clients see

-- a row that is neither a tombstone nor without a reading has one
seen_by : (kind text : Option (List ℕ)) (m : Mark) (own : Tag) → mark_in kind text ≡ Some m → m ≢ Tomb → (t : Tag) × (seen_in kind (kept_tag (Some m)) own ≡ Some t)
seen_by None text m own is some = absurd (let e = is in cc)
seen_by (Some kind) text Tomb own is some = absurd (some refl)
seen_by (Some kind) text (Copy kept) own is some = go (bytes_eq kind (codes "live")) where
  go : (b : Bool) → (t : Tag) × (cond b (Some own) (Some kept) ≡ Some t)
  go true = (own, refl)
  go false = (kept, refl)
seen_by (Some kind) None Live own is some = go (bytes_eq kind (codes "live")) refl is where
  go : (b : Bool) → bytes_eq kind (codes "live") ≡ b → cond b (Some Live) (cond (bytes_eq kind (codes "tomb")) (Some Tomb) None) ≡ Some Live → (t : Tag) × (seen_in (Some kind) None own ≡ Some t)
  go true e h = (own, ap (λ b. cond b (Some own) None) e)
  go false e h = absurd (no (bytes_eq kind (codes "tomb")) h) where
    no : (b : Bool) → cond b (Some Tomb) None ≡ Some Live → ⊥
    no true h = cc
    no false h = cc
seen_by (Some kind) (Some text) Live own is some = absurd (go (bytes_eq kind (codes "copy")) (read_tag text) is) where
  go : (b : Bool) (t : Option Tag) → cond b (option_map Copy t) None ≡ Some Live → ⊥
  go true None h = cc
  go true (Some t) h = cc
  go false t h = cc

entry_seen : (ps : List Prop) (own : Tag) → IsEntry ps → mark_of ps ≢ Some Tomb → (t : Tag) × (seen_tag ps own ≡ Some t)
entry_seen ps own h some = go h.0 h.1 h.2 where
  by_mark : (m : Mark) → mark_of ps ≡ Some m → (t : Tag) × (seen_tag ps own ≡ Some t)
  by_mark m is = (let x = seen_by (hidden_text ps hidden.Kind) (hidden_text ps hidden.Tag) m own is (λ e. some (is ∙ ap Some e)) in
      (x.0, ap (λ (k : Option Mark). seen_in (hidden_text ps hidden.Kind) (kept_tag k) own) is ∙ x.1))

  go : (m : Mark) → HasTag m → ps ≡ stored m ps → (t : Tag) × (seen_tag ps own ≡ Some t)
  go Live tag is = by_mark Live (ap mark_of is ∙ live_reads ps)
  go (Copy kept) tag is = by_mark (Copy kept) (ap mark_of is ∙ copy_reads kept ps tag)
  go Tomb tag is = absurd (some (ap mark_of is))

-- old's row has one
pub old_seen : (store : ℕ) (ps : List Prop) (own : Tag) → IsOldRow store ps → (t : Tag) × (seen_tag ps own ≡ Some t)
old_seen store ps own (inl client) = (
  own,
  ap (λ (k : Option (List ℕ)). seen_in k (kept_tag (mark_of ps)) own)
      (ap text_of (ap (λ (qs : List Prop). value_at qs (hidden_name hidden.Kind)) (sym client) ∙ visible_value hidden.Kind ps)),
)
old_seen store ps own (inr h) = entry_seen ps own h.1 h.2

-- it is the row's own, or the one that a copy kept
pub seen_is : (ps : List Prop) (own t : Tag) → seen_tag ps own ≡ Some t → (t ≡ own) ⊎ (mark_of ps ≡ Some (Copy t))
seen_is ps own t is = by_kind (hidden_text ps hidden.Kind) is where
  same : (a b : Tag) → Some a ≡ Some b → a ≡ b
  same a b e = cc

  kept : (m : Option Mark) → mark_of ps ≡ m → kept_tag m ≡ Some t → mark_of ps ≡ Some (Copy t)
  kept None e h = absurd (let x = h in cc)
  kept (Some Live) e h = absurd (let x = h in cc)
  kept (Some (Copy k)) e h = e ∙ ap (λ (x : Tag). Some (Copy x)) (same k t h)
  kept (Some Tomb) e h = absurd (let x = h in cc)

  by_kind : (kind : Option (List ℕ)) → seen_in kind (kept_tag (mark_of ps)) own ≡ Some t → (t ≡ own) ⊎ (mark_of ps ≡ Some (Copy t))
  by_kind None h = inl (sym (same own t h))
  by_kind (Some kind) h = go (bytes_eq kind (codes "live")) h where
    go : (b : Bool) → cond b (Some own) (kept_tag (mark_of ps)) ≡ Some t → (t ≡ own) ⊎ (mark_of ps ≡ Some (Copy t))
    go true h = inl (sym (same own t h))
    go false h = inr (kept (mark_of ps) refl h)

-- ---- a key that wants no put

alike_same : (ps qs : List Prop) → are_alike ps qs ≡ true → filter is_visible ps ≡ filter is_visible qs
alike_same ps qs h = (props_decide (filter is_visible ps) (filter is_visible qs)).0 h

shows_it : (r : Stored) (t : Tag) → seen_tag r.props r.tag ≡ Some t → from_old (Some r) ≡ Some (shown_as r.props t)
shows_it r t is = ap (shown_with r.props) is

both_true : (a b : Bool) (w : Want) → is_want w ≡ true → is_want (cond (a && b) Nothing w) ≡ false → (a ≡ true) × (b ≡ true)
both_true true true w want h = (refl, refl)
both_true true false w want h = absurd (let x : true ≡ false = sym want ∙ h in cc)
both_true false b w want h = absurd (let x : true ≡ false = sym want ∙ h in cc)

copy_exact : (rk : List ℕ) (r e : Stored) (kept t : Tag) → seen_tag r.props r.tag ≡ Some t → is_want (replace_want (shown rk r) (seen_tag r.props r.tag) (shown rk e) kept) ≡ false → from_old (Some r) ≡ Some (shown_as e.props kept)
copy_exact rk r e kept t seen h =
    let parts = both_true (are_alike r.props e.props) (is_same_tag t kept) (Replace t e.tag) refl (ap (λ x. is_want (replace_want (shown rk r) x (shown rk e) kept)) (sym seen) ∙ h) in
    shows_it r t seen
    ∙ ap (λ (ps : List Prop). Some (record { props = ps; tag = t })) (alike_same r.props e.props parts.0)
    ∙ ap (λ (x : Tag). Some (shown_as e.props x)) (sym (same_tag t kept parts.1))

entry_exact : (store : ℕ) (rk : List ℕ) (row : Option Stored) (e : Stored) → IfSome row (λ r. IsOldRow store r.props) → (m : Option Mark) → mark_of e.props ≡ m → is_want (entry_want (option_map (shown rk) row) (shown rk e) m) ≡ false
    → (kept : Tag) → mark_of e.props ≡ Some (Copy kept) → from_old row ≡ Some (shown_as e.props kept)
entry_exact store rk row e form None is h kept copy = absurd (let x = sym is ∙ copy in cc)
entry_exact store rk row e form (Some Live) is h kept copy = absurd (let x = sym is ∙ copy in cc)
entry_exact store rk row e form (Some Tomb) is h kept copy = absurd (let x = sym is ∙ copy in cc)
entry_exact store rk None e form (Some (Copy k)) is h kept copy = absurd (let x = h in cc)
entry_exact store rk (Some r) e form (Some (Copy k)) is h kept copy =
    let seen = old_seen store r.props r.tag form in
    copy_exact rk r e k seen.0 seen.1 h ∙ ap (λ (x : Tag). Some (shown_as e.props x)) (copy_tag k kept (sym is ∙ copy))

pub none_exact : (store : ℕ) (rk : List ℕ) (row entry : Option Stored) → IfSome row (λ r. IsOldRow store r.props) → is_want (want_of (option_map (shown rk) row) (option_map (shown rk) entry)) ≡ false → Exact row entry
none_exact store rk None None form h = record { covered = λ x. x; copies = λ e t is copy. absurd (let x = is in cc) }
none_exact store rk (Some r) None form h = absurd (let seen = old_seen store r.props r.tag form in let x : true ≡ false = sym (ap (λ o. is_want (insert_want o)) seen.1) ∙ h in cc)
none_exact store rk None (Some e) form h = record {
  covered = λ x. refl;
  copies = λ w t is copy. entry_at None e w t form h is copy;
} where
  entry_at : (row : Option Stored) (e w : Stored) (t : Tag) → IfSome row (λ r. IsOldRow store r.props) → is_want (entry_want (option_map (shown rk) row) (shown rk e) (mark_of e.props)) ≡ false → Some e ≡ Some w → mark_of w.props ≡ Some (Copy t) → from_old row ≡ Some (shown_as w.props t)
  entry_at row e w t form h is copy = (let same = the_row e w is in
      subst (λ (x : Stored). from_old row ≡ Some (shown_as x.props t)) same (entry_exact store rk row e form (mark_of e.props) refl h t (ap (λ (x : Stored). mark_of x.props) same ∙ copy)))
none_exact store rk (Some r) (Some e) form h = record {
  covered = λ x. refl;
  copies = λ w t is copy. entry_at (Some r) e w t form h is copy;
} where
  entry_at : (row : Option Stored) (e w : Stored) (t : Tag) → IfSome row (λ r. IsOldRow store r.props) → is_want (entry_want (option_map (shown rk) row) (shown rk e) (mark_of e.props)) ≡ false → Some e ≡ Some w → mark_of w.props ≡ Some (Copy t) → from_old row ≡ Some (shown_as w.props t)
  entry_at row e w t form h is copy = (let same = the_row e w is in
      subst (λ (x : Stored). from_old row ≡ Some (shown_as x.props t)) same (entry_exact store rk row e form (mark_of e.props) refl h t (ap (λ (x : Stored). mark_of x.props) same ∙ copy)))

-- ---- what a wanted put leaves

-- a copy of old's row with the tag that clients see
made_exact : (r : Stored) (t : Tag) (after : Option Stored) → seen_tag r.props r.tag ≡ Some t → IsTag t → (w : Stored) × (after ≡ Some w) × (w.props ≡ stored (Copy t) r.props) → Exact (Some r) after
made_exact r t after seen tag l = record {
  covered = λ x. ap is_some l.1;
  copies = λ e k is copy.
      let same : e.props ≡ stored (Copy t) r.props = ap (λ (x : Stored). x.props) (the_row e l.0 (sym is ∙ l.1)) ∙ l.2 in
      let kept : t ≡ k = copy_tag t k (sym (ap mark_of same ∙ copy_reads t r.props tag) ∙ copy) in
      shows_it r t seen
      ∙ ap (λ (ps : List Prop). Some (record { props = ps; tag = t })) (sym (ap (filter is_visible) same ∙ copy_visible t r.props))
      ∙ ap (λ (x : Tag). Some (shown_as e.props x)) kept;
}

gone_exact : (after : Option Stored) → after ≡ None → Exact None after
gone_exact after none = record { covered = λ x. absurd (let e = x in cc); copies = λ e t is copy. absurd (let x = sym none ∙ is in cc) }

some_put : (a b : Put) → Some a ≡ Some b → a ≡ b
some_put a b e = ap (λ (x : Option Put). elim x as (λ _. Put) [ None ↦ a | Some y ↦ y ]) e

-- what is known of the rows and entries that were read
abbrev pub KeptRow : Pair → List ℕ → List ℕ → Option StoredRow → Type 0
KeptRow p pk rk None = Unit {0}
KeptRow p pk rk (Some r) = IfSome (seen_tag r.props r.tag) (λ t. KnowsKept p pk rk t)

abbrev pub KnownEntry : Pair → List ℕ → List ℕ → Option StoredRow → Type 0
KnownEntry p pk rk None = Unit {0}
KnownEntry p pk rk (Some e) = KnowsRow p.new pk rk e.props e.tag

module _ (p : Pair) (pk rk : List ℕ) (other : rk ≢ marker_key) where
  copy_at : (ps : List Prop) (t : Tag) → KnowsKept p pk rk t → IsTag t → IsCopyAt p pk rk (stored (Copy t) ps)
  copy_at ps t kept tag = record {
    other = other;
    key = kept.key;
    tag = t;
    copy = copy_reads t ps tag;
    entry = (Copy t, tag, ap (marked (Copy t)) (sym (copy_visible t ps)));
    kept = kept.tag_is;
  }

  good_insert : (r : StoredRow) (p' : Put) (o : Option Tag) → seen_tag r.props r.tag ≡ o → IfSome o (λ t. KnowsKept p pk rk t) → KeepsTag (insert_want o) → put_by rk r.props (insert_want o) ≡ Some p' → CopyPut p pk p'
  good_insert r p' None is kept tag e = absurd (let x = e in cc)
  good_insert r p' (Some t) is kept tag e = subst (CopyPut p pk) (some_put (put.Insert rk (stored (Copy t) r.props)) p' e) (copy_at r.props t kept tag)

  good_replace : (r e : StoredRow) (k : Tag) (p' : Put) (o : Option Tag) → IfSome o (λ t. KnowsKept p pk rk t) → KnowsCopy p pk rk e.tag → KeepsTag (replace_want r o e k) → put_by rk r.props (replace_want r o e k) ≡ Some p' → CopyPut p pk p'
  good_replace r e k p' None kept know tag is = absurd (let x = is in cc)
  good_replace r e k p' (Some t) kept know tag is = go (are_alike r.props e.props && is_same_tag t k) tag is where
    go : (b : Bool) → KeepsTag (cond b Nothing (Replace t e.tag)) → put_by rk r.props (cond b Nothing (Replace t e.tag)) ≡ Some p' → CopyPut p pk p'
    go true tag is = absurd (let x = is in cc)
    go false tag is = subst (CopyPut p pk) (some_put (put.Replace rk (stored (Copy t) r.props) e.tag) p' is) (copy_at r.props t kept tag, know)

  good_entry : (row : Option StoredRow) (e : StoredRow) (p' : Put) (m : Option Mark) → mark_of e.props ≡ m → KeptRow p pk rk row → KnowsRow p.new pk rk e.props e.tag → KeepsTag (entry_want row e m) → put_by rk (props_of row) (entry_want row e m) ≡ Some p' → CopyPut p pk p'
  good_entry row e p' None is kept know tag w = absurd (let x = w in cc)
  good_entry row e p' (Some Live) is kept know tag w = absurd (let x = w in cc)
  good_entry row e p' (Some Tomb) is kept know tag w = absurd (let x = w in cc)
  good_entry None e p' (Some (Copy k)) is kept know tag w = subst (CopyPut p pk) (some_put (put.Delete rk e.tag) p' w) (other, record { props = e.props; tag = k; copy = is; row = know })
  good_entry (Some r) e p' (Some (Copy k)) is kept know tag w = good_replace r e k p' (seen_tag r.props r.tag) kept (record { props = e.props; tag = k; copy = is; row = know }) tag w

  pub good_put : (row entry : Option StoredRow) (p' : Put) → KeptRow p pk rk row → KnownEntry p pk rk entry → KeepsTag (want_of row entry) → put_by rk (props_of row) (want_of row entry) ≡ Some p' → CopyPut p pk p'
  good_put None None p' kept know tag w = absurd (let x = w in cc)
  good_put (Some r) None p' kept know tag w = good_insert r p' (seen_tag r.props r.tag) refl kept tag w
  good_put None (Some e) p' kept know tag w = good_entry None e p' (mark_of e.props) refl kept know tag w
  good_put (Some r) (Some e) p' kept know tag w = good_entry (Some r) e p' (mark_of e.props) refl kept know tag w

-- what it leaves is exact, where old has the row that was read
module _ (rk : List ℕ) (after : Option Stored) where
  exact_insert : (r : Stored) (p' : Put) (o : Option Tag) → seen_tag r.props r.tag ≡ o → KeepsTag (insert_want o) → put_by rk r.props (insert_want o) ≡ Some p' → Leaves p' after → Exact (Some r) after
  exact_insert r p' None is tag e l = absurd (let x = e in cc)
  exact_insert r p' (Some t) is tag e l = made_exact r t after is tag (subst (λ x. Leaves x after) (sym (some_put (put.Insert rk (stored (Copy t) r.props)) p' e)) l)

  exact_replace : (r : Stored) (e : StoredRow) (k : Tag) (p' : Put) (o : Option Tag) → seen_tag r.props r.tag ≡ o → KeepsTag (replace_want (shown rk r) o e k) → put_by rk r.props (replace_want (shown rk r) o e k) ≡ Some p' → Leaves p' after → Exact (Some r) after
  exact_replace r e k p' None seen tag is l = absurd (let x = is in cc)
  exact_replace r e k p' (Some t) seen tag is l = go (are_alike r.props e.props && is_same_tag t k) tag is where
    go : (b : Bool) → KeepsTag (cond b Nothing (Replace t e.tag)) → put_by rk r.props (cond b Nothing (Replace t e.tag)) ≡ Some p' → Exact (Some r) after
    go true tag is = absurd (let x = is in cc)
    go false tag is = made_exact r t after seen tag (subst (λ x. Leaves x after) (sym (some_put (put.Replace rk (stored (Copy t) r.props) e.tag) p' is)) l)

  exact_entry : (row : Option Stored) (e : StoredRow) (p' : Put) (m : Option Mark) → KeepsTag (entry_want (option_map (shown rk) row) e m) → put_by rk (props_of (option_map (shown rk) row)) (entry_want (option_map (shown rk) row) e m) ≡ Some p' → Leaves p' after → Exact row after
  exact_entry row e p' None tag w l = absurd (let x = w in cc)
  exact_entry row e p' (Some Live) tag w l = absurd (let x = w in cc)
  exact_entry row e p' (Some Tomb) tag w l = absurd (let x = w in cc)
  exact_entry None e p' (Some (Copy k)) tag w l = gone_exact after (subst (λ x. Leaves x after) (sym (some_put (put.Delete rk e.tag) p' w)) l)
  exact_entry (Some r) e p' (Some (Copy k)) tag w l = exact_replace r e k p' (seen_tag r.props r.tag) refl tag w l

  pub exact_put : (row : Option Stored) (entry : Option StoredRow) (p' : Put) → KeepsTag (want_of (option_map (shown rk) row) entry) → put_by rk (props_of (option_map (shown rk) row)) (want_of (option_map (shown rk) row) entry) ≡ Some p' → Leaves p' after → Exact row after
  exact_put None None p' tag w l = absurd (let x = w in cc)
  exact_put (Some r) None p' tag w l = exact_insert r p' (seen_tag r.props r.tag) refl tag w l
  exact_put None (Some e) p' tag w l = exact_entry None e p' (mark_of e.props) tag w l
  exact_put (Some r) (Some e) p' tag w l = exact_entry (Some r) e p' (mark_of e.props) tag w l

-- ---- the keys that wait

in_keys : (rk : List ℕ) (rows : List StoredRow) → has rk rows ≡ true → is_in rk (map (λ (r : StoredRow). r.rk) rows) ≡ true
in_keys rk [] h = h
in_keys rk (r ∷ rows) h = elim (or_cases (bytes_eq rk r.rk) (has rk rows) h) as (λ _. is_in rk (r.rk ∷ map (λ (x : StoredRow). x.rk) rows) ≡ true) [
  | inl e ↦ or_left (bytes_eq rk r.rk) _ e
  | inr e ↦ or_right (bytes_eq rk r.rk) _ (in_keys rk rows e)
]

in_first : (rk : List ℕ) (a b : List (List ℕ)) → is_in rk a ≡ true → is_in rk (a ++ b) ≡ true
in_first rk [] b h = absurd (let e = h in cc)
in_first rk (k ∷ a) b h = elim (or_cases (bytes_eq rk k) (is_in rk a) h) as (λ _. is_in rk (k ∷ a ++ b) ≡ true) [ inl e ↦ or_left (bytes_eq rk k) _ e | inr e ↦ or_right (bytes_eq rk k) _ (in_first rk a b e) ]

in_second : (rk : List ℕ) (a b : List (List ℕ)) → is_in rk b ≡ true → is_in rk (a ++ b) ≡ true
in_second rk [] b h = h
in_second rk (k ∷ a) b h = or_right (bytes_eq rk k) _ (in_second rk a b h)

in_filter : (test : List ℕ → Bool) (rk : List ℕ) (ks : List (List ℕ)) → test rk ≡ true → is_in rk ks ≡ true → is_in rk (filter test ks) ≡ true
in_filter test rk [] t h = h
in_filter test rk (k ∷ ks) t h = go (in_filter test rk ks t) (bytes_eq rk k) refl h where
  more : (b : Bool) → is_in rk (filter test ks) ≡ true → is_in rk (cond b (k ∷ filter test ks) (filter test ks)) ≡ true
  more true e = or_right (bytes_eq rk k) _ e
  more false e = e

  go : (is_in rk ks ≡ true → is_in rk (filter test ks) ≡ true) → (b : Bool) → bytes_eq rk k ≡ b → (b || is_in rk ks) ≡ true → is_in rk (filter test (k ∷ ks)) ≡ true
  go rest true e h = ap (λ b. is_in rk (cond b (k ∷ filter test ks) (filter test ks))) (ap test (sym (text_true rk k e)) ∙ t) ∙ or_left (bytes_eq rk k) _ e
  go rest false e h = more (test k) (rest h)

of_filter : (test : List ℕ → Bool) (rk : List ℕ) (ks : List (List ℕ)) → is_in rk (filter test ks) ≡ true → test rk ≡ true
of_filter test rk [] h = absurd (let e = h in cc)
of_filter test rk (k ∷ ks) h = go (of_filter test rk ks) (test k) refl h where
  go : (is_in rk (filter test ks) ≡ true → test rk ≡ true) → (b : Bool) → test k ≡ b → is_in rk (cond b (k ∷ filter test ks) (filter test ks)) ≡ true → test rk ≡ true
  go rest false t h = rest h
  go rest true t h = elim (or_cases (bytes_eq rk k) (is_in rk (filter test ks)) h) as (λ _. test rk ≡ true) [
    | inl e ↦ ap test (text_true rk k e) ∙ t
    | inr e ↦ rest e
  ]

module _ (upto : Option (List ℕ)) (rows entries : List StoredRow) (rk : List ℕ) where
  -- a key that wants a put was read
  wanted_read : wants_put upto rows entries rk ≡ true → is_in rk (map (λ (r : StoredRow). r.rk) rows ++ map (λ (e : StoredRow). e.rk) entries) ≡ true
  wanted_read h = go (has rk rows) (has rk entries) refl refl where
    go : (a b : Bool) → has rk rows ≡ a → has rk entries ≡ b → is_in rk (map (λ (r : StoredRow). r.rk) rows ++ map (λ (e : StoredRow). e.rk) entries) ≡ true
    go true b ea eb = in_first rk _ _ (in_keys rk rows ea)
    go false true ea eb = in_second rk (map (λ (r : StoredRow). r.rk) rows) _ (in_keys rk entries eb)
    go false false ea eb = absurd (let x : false ≡ true = sym (ap is_want (nothing_wanted upto rows entries rk (not_there rows rk ea) (not_there entries rk eb))) ∙ h in cc)

  pub not_waiting : is_in rk (waiting upto rows entries) ≡ false → wants_put upto rows entries rk ≡ false
  not_waiting out = go (wants_put upto rows entries rk) refl where
    go : (b : Bool) → wants_put upto rows entries rk ≡ b → b ≡ false
    go false e = refl
    go true e = (let x : true ≡ false = sym (in_filter (wants_put upto rows entries) rk _ e (wanted_read e)) ∙ out in cc)

  pub is_waiting : is_in rk (waiting upto rows entries) ≡ true → wants_put upto rows entries rk ≡ true
  is_waiting h = of_filter (wants_put upto rows entries) rk (map (λ (r : StoredRow). r.rk) rows ++ map (λ (e : StoredRow). e.rk) entries) h

  -- a key of the chunk that wants none, with the rows that were read
  pub wants_none : rk ≢ marker_key → is_upto upto rk ≡ true → wants_put upto rows entries rk ≡ false → is_want (want_of (row_in rows rk) (row_in entries rk)) ≡ false
  wants_none other within h = sym (ap (λ b. is_want (cond b (want_of (row_in rows rk) (row_in entries rk)) Nothing)) (ap (λ b. not b && is_upto upto rk) (text_false rk marker_key other) ∙ within)) ∙ h

-- ---- the puts of a chunk

pub chunk_want : (upto : Option (List ℕ)) (rows entries : List StoredRow) (rk : List ℕ) (p' : Put) → put_at upto rows entries rk ≡ Some p' → (rk ≢ marker_key) × (want_at upto rows entries rk ≡ want_of (row_in rows rk) (row_in entries rk))
chunk_want upto rows entries rk p' e = go (bytes_eq rk marker_key) (is_upto upto rk) refl refl where
  out : is_of_chunk upto rk ≡ false → ⊥
  out f = (let x : None ≡ Some p' = sym (ap (λ b. put_by rk (props_of (row_in rows rk)) (cond b (want_of (row_in rows rk) (row_in entries rk)) Nothing)) f) ∙ e in cc)

  go : (a b : Bool) → bytes_eq rk marker_key ≡ a → is_upto upto rk ≡ b → (rk ≢ marker_key) × (want_at upto rows entries rk ≡ want_of (row_in rows rk) (row_in entries rk))
  go true b ea eb = absurd (out (ap (λ x. not x && is_upto upto rk) ea))
  go false false ea eb = absurd (out (ap (λ x. not x && is_upto upto rk) ea ∙ eb))
  go false true ea eb = (
    λ same. let x : true ≡ false = sym (ap (λ k. bytes_eq k marker_key) same) ∙ ea in cc,
    ap (λ b. cond b (want_of (row_in rows rk) (row_in entries rk)) Nothing) (ap (λ x. not x && is_upto upto rk) ea ∙ eb),
  )

pub each_good : (p : Pair) (pk : List ℕ) (upto : Option (List ℕ)) (rows entries : List StoredRow) (puts : List Put) → AllByRecursion (IsWanted upto rows entries) puts
    → ((rk : List ℕ) → KeptRow p pk rk (row_in rows rk)) → ((rk : List ℕ) → KnownEntry p pk rk (row_in entries rk)) → Each (CopyPut p pk) puts
each_good p pk upto rows entries [] h kept known = tt
each_good p pk upto rows entries (p' ∷ puts) h kept known =
    let rk = row_key p' in
    let c = chunk_want upto rows entries rk p' h.0.0 in (
      good_put p pk rk c.0 (row_in rows rk) (row_in entries rk) p' (kept rk) (known rk)
          (subst KeepsTag c.1 h.0.1) (ap (put_by rk (props_of (row_in rows rk))) (sym c.1) ∙ h.0.0),
      each_good p pk upto rows entries puts h.1 kept known,
    )

named_in : (q : List ℕ) (puts : List Put) → is_named q puts ≡ is_in q (map row_key puts)
named_in q [] = refl
named_in q (p' ∷ puts) = ap (λ b. b || is_named q puts) (nat_list_eq_equiv.symm (row_key p') q) ∙ ap (λ b. bytes_eq q (row_key p') || b) (named_in q puts)

left_leaves : (p : Pair) (pk : List ℕ) (store n : ℕ) (p' : Put) (row : Option Stored) → CopyPut p pk p' → Leaves p' (left_by store n p' row)
left_leaves p pk store n (put.Insert rk props) row h = (record { props = props; tag = next_tag store n }, refl, refl)
left_leaves p pk store n (put.Replace rk props own) row h = (record { props = props; tag = next_tag store n }, refl, refl)
left_leaves p pk store n (put.Delete rk own) row h = refl
left_leaves p pk store n (put.Check rk own) row h = absurd h

-- a key of the puts has what its put left
pub touched_in : (p : Pair) (pk : List ℕ) (upto : Option (List ℕ)) (rows entries : List StoredRow) (store n : ℕ) (puts : List Put) (q : List ℕ) (row : Option Stored) → AllByRecursion (IsWanted upto rows entries) puts → Each (CopyPut p pk) puts → is_in q (map row_key puts) ≡ true
    → (p' : Put) × IsWanted upto rows entries p' × (row_key p' ≡ q) × Leaves p' (row_after store n puts q row)
touched_in p pk upto rows entries store n [] q row h g is = absurd (let e = is in cc)
touched_in p pk upto rows entries store n (p' ∷ puts) q row h g is = go (λ r. touched_in p pk upto rows entries store (counter_after n p') puts q r h.1 g.1) (is_in q (map row_key puts)) refl where
  first : is_in q (map row_key puts) ≡ false → bytes_eq q (row_key p') ≡ true → (x : Put) × IsWanted upto rows entries x × (row_key x ≡ q) × Leaves x (row_after store n (p' ∷ puts) q row)
  first out here =
      let same = text_true q (row_key p') here in
      let kept : row_after store n (p' ∷ puts) q row ≡ left_by store n p' row =
      row_after_unnamed store (counter_after n p') puts q (cond (bytes_eq (row_key p') q) (left_by store n p' row) row) (named_in q puts ∙ out)
      ∙ ap (λ b. cond b (left_by store n p' row) row) (ap (λ k. bytes_eq (row_key p') k) same ∙ text_same (row_key p')) in
      (p', h.0, sym same, subst (Leaves p') (sym kept) (left_leaves p pk store n p' row g.0))

  go : ((r : Option Stored) → is_in q (map row_key puts) ≡ true → (x : Put) × IsWanted upto rows entries x × (row_key x ≡ q) × Leaves x (row_after store (counter_after n p') puts q r))
      → (b : Bool) → is_in q (map row_key puts) ≡ b → (x : Put) × IsWanted upto rows entries x × (row_key x ≡ q) × Leaves x (row_after store n (p' ∷ puts) q row)
  go rest true e = rest (cond (bytes_eq (row_key p') q) (left_by store n p' row) row) e
  go rest false e = first e (elim (or_cases (bytes_eq q (row_key p')) (is_in q (map row_key puts)) is) as (λ _. bytes_eq q (row_key p') ≡ true) [ inl x ↦ x | inr x ↦ absurd (let y : true ≡ false = sym x ∙ e in cc) ])

-- ---- what is known of the epoch

-- a key up to the end is done, or of the chunk
split_keys : (done : Option (List ℕ)) (rk : List ℕ) → InKeys (done_keys done) rk ⊎ (is_from (past done) rk ≡ true)
split_keys None rk = inr refl
split_keys (Some k) rk = go (text_cmp k rk) refl where
  go : (o : Ordering) → text_cmp k rk ≡ o → InKeys (done_keys (Some k)) rk ⊎ (is_from (past (Some k)) rk ≡ true)
  go Less e = inr (ap is_lt e)
  go Equal e = inl (refl, ap is_le (nat_list_cmp_total.antisymm rk k ∙ ap ordering_reverse e), refl)
  go Greater e = inl (refl, ap is_le (nat_list_cmp_total.antisymm rk k ∙ ap ordering_reverse e), refl)

-- the keys of rows that were read past what is done lie there
key_past : (done : Option (List ℕ)) (rk : List ℕ) (rows : List StoredRow) → AllByRecursion (λ r. is_from (past done) r.rk ≡ true) rows → has rk rows ≡ true → is_from (past done) rk ≡ true
key_past done rk [] h there = absurd (let e = there in cc)
key_past done rk (r ∷ rows) h there = elim (or_cases (bytes_eq rk r.rk) (has rk rows) there) as (λ _. is_from (past done) rk ≡ true) [
  | inl e ↦ subst (λ k. is_from (past done) k ≡ true) (sym (text_true rk r.rk e)) h.0
  | inr e ↦ key_past done rk rows h.1 e
]

pub want_past : (done upto : Option (List ℕ)) (rows entries : List StoredRow) (rk : List ℕ) → AllByRecursion (λ r. is_from (past done) r.rk ≡ true) rows → AllByRecursion (λ r. is_from (past done) r.rk ≡ true) entries
    → wants_put upto rows entries rk ≡ true → is_from (past done) rk ≡ true
want_past done upto rows entries rk a b h = go (has rk rows) (has rk entries) refl refl where
  go : (x y : Bool) → has rk rows ≡ x → has rk entries ≡ y → is_from (past done) rk ≡ true
  go true y ex ey = key_past done rk rows a ex
  go false true ex ey = key_past done rk entries b ey
  go false false ex ey = absurd (let x : false ≡ true = sym (ap is_want (nothing_wanted upto rows entries rk (not_there rows rk ex) (not_there entries rk ey))) ∙ h in cc)

pub wants_it : (rk : List ℕ) (ps : List Prop) (w : Want) (p' : Put) → put_by rk ps w ≡ Some p' → is_want w ≡ true
wants_it rk ps Nothing p' e = absurd (let x = e in cc)
wants_it rk ps (Insert seen) p' e = refl
wants_it rk ps (Replace seen own) p' e = refl
wants_it rk ps (Delete own) p' e = refl

-- so do the keys of a chunk's puts
pub named_past : (done upto : Option (List ℕ)) (rows entries : List StoredRow) (puts : List Put) (rk : List ℕ) → AllByRecursion (λ r. is_from (past done) r.rk ≡ true) rows → AllByRecursion (λ r. is_from (past done) r.rk ≡ true) entries
    → AllByRecursion (IsWanted upto rows entries) puts → is_in rk (map row_key puts) ≡ true → is_from (past done) rk ≡ true
named_past done upto rows entries [] rk a b h there = absurd (let e = there in cc)
named_past done upto rows entries (p' ∷ puts) rk a b h there = elim (or_cases (bytes_eq rk (row_key p')) (is_in rk (map row_key puts)) there) as (λ _. is_from (past done) rk ≡ true) [
  | inl e ↦ subst (λ k. is_from (past done) k ≡ true) (sym (text_true rk (row_key p') e))
      (want_past done upto rows entries (row_key p') a b (wants_it (row_key p') (props_of (row_in rows (row_key p'))) (want_at upto rows entries (row_key p')) p' h.0.0))
  | inr e ↦ named_past done upto rows entries puts rk a b h.1 e
]

-- the rows that were read are those of both stores, in the chunk
pub record HasRead (p : Pair) (pk : List ℕ) (done upto : Option (List ℕ)) (rows entries : List StoredRow) : Type 0 where
  pub old : (rk : List ℕ) → rk ≢ marker_key → is_from (past done) rk ≡ true → is_upto upto rk ≡ true → option_map (shown rk) (old_at p pk rk) ≡ row_in rows rk
  pub new : (rk : List ℕ) → rk ≢ marker_key → is_from (past done) rk ≡ true → is_upto upto rk ≡ true → option_map (shown rk) (new_at p pk rk) ≡ row_in entries rk

old_form : (p : Pair) (pk rk : List ℕ) → IsSound p → rk ≢ marker_key → (x : Option Stored) → old_at p pk rk ≡ x → IfSome x (λ r. IsOldRow p.old_number r.props)
old_form p pk rk s other None is = tt
old_form p pk rk s other (Some r) is = (s.forms.0.data_rows pk rk r other is).0

-- the keys up to the chunk's end wait for its puts alone
pub epoch_filled : (p : Pair) (pk : List ℕ) (epoch : Tag) (done upto : Option (List ℕ)) (rows entries : List StoredRow) → IsSound p → KnowsEpoch p pk epoch (done_keys done) → is_prefer_new (old_state_at p pk) ≡ true → HasRead p pk done upto rows entries
    → KnowsEpoch p pk epoch (keys.Within Start upto (waiting upto rows entries))
epoch_filled p pk epoch done upto rows entries s know turned read = record {
  past = know.past;
  marked = know.marked;
  filling = know.filling;
  turned = λ m is e rk h. turned;
  exact = λ m is e rk other h. elim (split_keys done rk) as (λ _. Exact (old_at p pk rk) (new_at p pk rk)) [
    | inl before ↦ know.exact m is e rk other before
    | inr from ↦
        none_exact p.old_number rk (old_at p pk rk) (new_at p pk rk) (old_form p pk rk s other (old_at p pk rk) refl)
        (ap (λ x. is_want (want_of x (option_map (shown rk) (new_at p pk rk)))) (read.old rk other from h.1)
        ∙ ap (λ x. is_want (want_of (row_in rows rk) x)) (read.new rk other from h.1)
        ∙ wants_none upto rows entries rk other h.1 (not_waiting upto rows entries rk h.2))
  ];
}

-- the puts are made: none waits any more
pub epoch_written : (p q : Pair) (pk : List ℕ) (epoch : Tag) (done upto : Option (List ℕ)) (rows entries : List StoredRow) (puts : List Put) → KnowsEpoch p pk epoch (keys.Within Start upto (waiting upto rows entries)) → KnowsEpoch p pk epoch (done_keys done)
    → is_prefer_new (old_state_at p pk) ≡ true → (m : Stored) → new_at p pk marker_key ≡ Some m → m.tag ≡ epoch → ArePuts upto rows entries puts → Each (CopyPut p pk) puts
    → ((rk : List ℕ) → rk ≢ marker_key → is_from (past done) rk ≡ true → is_upto upto rk ≡ true → option_map (shown rk) (old_at p pk rk) ≡ row_in rows rk)
    → ((rk : List ℕ) → is_in rk (map row_key puts) ≡ true → is_from (past done) rk ≡ true)
    → q.old ≡ p.old → KnowsEpoch q pk epoch keys.None → ((rk : List ℕ) → new_at q pk rk ≡ row_after p.new_number p.new.counter puts rk (new_at p pk rk))
    → KnowsEpoch q pk epoch (keys.Within Start upto [])
epoch_written p q pk epoch done upto rows entries puts know before turned m is tag are good old_read later same alone row = record {
  past = alone.past;
  marked = alone.marked;
  filling = alone.filling;
  turned = λ w there e rk h. ap (λ c. is_prefer_new (old_state_at (with_contents c) pk)) same ∙ turned;
  exact = λ w there e rk other h. subst (λ x. Exact x (new_at q pk rk)) (ap (λ c. row_at c.rows pk rk) (sym same)) (at rk other h.1 (is_in rk (map row_key puts)) refl);
} where
  with_contents : Contents → Pair
  with_contents c = record { old_number = p.old_number; new_number = p.new_number; old = c; new = p.new }

  untouched : (rk : List ℕ) → rk ≢ marker_key → is_upto upto rk ≡ true → is_in rk (map row_key puts) ≡ false → Exact (old_at p pk rk) (new_at q pk rk)
  untouched rk other within out =
      subst (Exact (old_at p pk rk)) (sym (row rk ∙ row_after_unnamed p.new_number p.new.counter puts rk (new_at p pk rk) (named_in rk puts ∙ out)))
      (know.exact m is tag rk other (refl, within, no (is_in rk (waiting upto rows entries)) refl)) where
        no : (b : Bool) → is_in rk (waiting upto rows entries) ≡ b → b ≡ false
        no false e = refl
        no true e = (let x : true ≡ false = sym (are.all rk (is_waiting upto rows entries rk e)) ∙ out in cc)

  written : (rk : List ℕ) → rk ≢ marker_key → is_upto upto rk ≡ true → is_in rk (map row_key puts) ≡ true → Exact (old_at p pk rk) (new_at q pk rk)
  written rk other within there =
      let t = touched_in p pk upto rows entries p.new_number p.new.counter puts rk (new_at p pk rk) are.each good there in
      let want = subst (λ k. (put_at upto rows entries k ≡ Some t.0) × KeepsTag (want_at upto rows entries k)) t.2 t.1 in
      let c = chunk_want upto rows entries rk t.0 want.0 in
      let read = old_read rk other (later rk there) within in
      exact_put rk (new_at q pk rk) (old_at p pk rk) (row_in entries rk) t.0
      (subst (λ x. KeepsTag (want_of x (row_in entries rk))) (sym read) (subst KeepsTag c.1 want.1))
      (subst (λ x. put_by rk (props_of x) (want_of x (row_in entries rk)) ≡ Some t.0) (sym read) (ap (put_by rk (props_of (row_in rows rk))) (sym c.1) ∙ want.0))
      (subst (Leaves t.0) (sym (row rk)) t.3)

  at : (rk : List ℕ) → rk ≢ marker_key → is_upto upto rk ≡ true → (b : Bool) → is_in rk (map row_key puts) ≡ b → Exact (old_at p pk rk) (new_at q pk rk)
  at rk other within false e = untouched rk other within e
  at rk other within true e = written rk other within e
