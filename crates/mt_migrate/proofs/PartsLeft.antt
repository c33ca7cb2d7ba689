-- What is left of a walk, with one partition apart from the others.
use Rattle.std.proofs.Common.{◌≡◌, ◌≢◌, ℕ, ◌+◌, ◌*◌, ◌≤◌, Bool, true, false, cond, not, ◌&&◌, ◌||◌, List, Option, Some, None, refl, sym, ap, subst, ◌∙◌, arith, bytes_eq}
use Rattle.std.specs.Prelude.{is_some, is_none}
use Rattle.std.proofs.lemmas.Bool.{and_parts}
use Rattle.std.specs.Ordering.{is_lt, is_le}
use Rattle.std.specs.Cmp.{tied_itself}
use Rattle.std.specs.Cmp.Lexicographic.{nat_list_cmp_total}
use Rattle.mt_model.specs.declared.key.Key.{Key}
use Rattle.mt_chain.specs.declared.query.PkFrom.{PkFrom}
use Rattle.mt_chain.specs.declared.query.PkFrom.TheVariants as start
use Rattle.mt_chain.specs.declared.row.Stored.{Stored}
use Rattle.mt_chain.specs.Rows.{Rows, row_at, key_at, are_rising, is_past}
use Rattle.mt_chain.proofs.KeyLaws.{text_true, text_same, text_false}
use Rattle.mt_chain.proofs.OrderLaws.{lt_less}
use Rattle.mt_chain.proofs.TextOrder.{text_cmp, le_trans}
use Rattle.mt_meta.specs.Markers.{marker_key}
use Rattle.mt_meta.specs.Logical.{Pair, new_state, old_at, new_at}
use Rattle.mt_meta.specs.Facts.{is_use_new}
use Rattle.mt_migrate.specs.declared.state.Walk.{Walk}
use Rattle.mt_migrate.specs.declared.state.Walk.TheVariants.{BeforeSeal, AfterSeal}
use Rattle.mt_migrate.specs.declared.state.Part.{Part}
use Rattle.mt_migrate.specs.declared.state.State.TheVariants as at
use Rattle.mt_migrate.specs.Moves.{onward}
use Rattle.mt_migrate.specs.RowCounts.{count_of, is_marker, is_data, is_unread, unread, old_rows, entries_of, is_lone, lone_entries, partitions, data_in, any_partition, is_other, is_unmoved}
use Rattle.mt_migrate.specs.StepsLeft.{passes, visits, others_left, steps_left}
use Rattle.mt_migrate.proofs.Counts.{count_le, count_in, split_up, split_down, one_at_most, one_at_least}

-- ---- rows of this partition and of others

-- a row of that kind in the partition
abbrev pub in_part : (Key → Bool) → List ℕ → Key → Bool
in_part kind pk k = kind k && (bytes_eq pk k.pk && true)

abbrev where_pk : (Key → Bool) → (List ℕ → Bool) → Key → Bool
where_pk kind test k = kind k && test k.pk

part_up : (kind : Key → Bool) (test : List ℕ → Bool) (pk : List ℕ) (rows : Rows) → count_of (where_pk kind test) rows ≤ count_of (where_pk kind (is_other pk test)) rows + cond (test pk) (count_of (in_part kind pk) rows) 0
part_up kind test pk rows = go (test pk) refl where
  other : (k : Key) → kind k ≡ true → test k.pk ≡ true → bytes_eq pk k.pk ≡ false → where_pk kind (is_other pk test) k ≡ true
  other k a b e = ap (λ x. x && (not (bytes_eq pk k.pk) && test k.pk)) a ∙ ap (λ x. not x && test k.pk) e ∙ b

  go : (t : Bool) → test pk ≡ t → count_of (where_pk kind test) rows ≤ count_of (where_pk kind (is_other pk test)) rows + cond t (count_of (in_part kind pk) rows) 0
  go true e = split_up (where_pk kind test) (where_pk kind (is_other pk test)) (in_part kind pk) rows (λ k h. let p = and_parts (kind k) (test k.pk) h in by k p.0 p.1 (bytes_eq pk k.pk) refl) where
    by : (k : Key) → kind k ≡ true → test k.pk ≡ true → (b : Bool) → bytes_eq pk k.pk ≡ b → (where_pk kind (is_other pk test) k || in_part kind pk k) ≡ true
    by k a b false e = ap (λ x. x || in_part kind pk k) (other k a b e)
    by k a b true e = here (where_pk kind (is_other pk test) k) (ap (λ x. x && (bytes_eq pk k.pk && true)) a ∙ ap (λ x. x && true) e) where
      here : (x : Bool) → in_part kind pk k ≡ true → (x || in_part kind pk k) ≡ true
      here true h = refl
      here false h = h
  go false e = (let x = count_in (where_pk kind test) (where_pk kind (is_other pk test)) rows (λ k h. let p = and_parts (kind k) (test k.pk) h in other k p.0 p.1 (by k p.1 (bytes_eq pk k.pk) refl)) in omega (arith, x)) where
    by : (k : Key) → test k.pk ≡ true → (b : Bool) → bytes_eq pk k.pk ≡ b → b ≡ false
    by k t false s = refl
    by k t true s = absurd (let x : true ≡ false = sym t ∙ ap test (sym (text_true pk k.pk s)) ∙ e in cc)

pub part_down : (kind : Key → Bool) (test : List ℕ → Bool) (pk : List ℕ) (rows : Rows) → count_of (where_pk kind (is_other pk test)) rows + cond (test pk) (count_of (in_part kind pk) rows) 0 ≤ count_of (where_pk kind test) rows
part_down kind test pk rows = go (test pk) refl where
  fewer : (k : Key) → where_pk kind (is_other pk test) k ≡ true → (where_pk kind test k ≡ true) × (bytes_eq pk k.pk ≡ false)
  fewer k h = (let p = and_parts (kind k) (is_other pk test k.pk) h in let q = and_parts (not (bytes_eq pk k.pk)) (test k.pk) p.1 in (ap (λ x. x && test k.pk) p.0 ∙ q.1, flip (bytes_eq pk k.pk) q.0)) where
    flip : (b : Bool) → not b ≡ true → b ≡ false
    flip true e = absurd (let x = e in cc)
    flip false e = refl

  nothing : (x : Bool) → (x && false) ≡ false
  nothing true = refl
  nothing false = refl

  go : (t : Bool) → test pk ≡ t → count_of (where_pk kind (is_other pk test)) rows + cond t (count_of (in_part kind pk) rows) 0 ≤ count_of (where_pk kind test) rows
  go true e = split_down (where_pk kind test) (where_pk kind (is_other pk test)) (in_part kind pk) rows
      (λ k h. let f = fewer k h in (f.0, ap (λ x. kind k && (x && true)) f.1 ∙ nothing (kind k)))
      (λ k h. let p = and_parts (kind k) (bytes_eq pk k.pk && true) h in let q = and_parts (bytes_eq pk k.pk) true p.1 in ap (λ x. x && test k.pk) p.0 ∙ ap test (sym (text_true pk k.pk q.0)) ∙ e)
  go false e = (let x = count_in (where_pk kind (is_other pk test)) (where_pk kind test) rows (λ k h. (fewer k h).0) in omega (arith, x))

-- a partition has one marker
one_marker : (pk : List ℕ) (rows : Rows) → are_rising rows ≡ true → count_of (in_part is_marker pk) rows ≤ 1
one_marker pk rows up = one_at_most (in_part is_marker pk) rows pk marker_key up (λ x y h. let p = and_parts (is_marker (key_at x y)) (bytes_eq pk x && true) h in let q = and_parts (bytes_eq pk x) true p.1 in (sym (text_true pk x q.0), text_true y marker_key p.0))

pub has_marker : (pk : List ℕ) (rows : Rows) (r : Stored) → are_rising rows ≡ true → row_at rows pk marker_key ≡ Some r → 1 ≤ count_of (in_part is_marker pk) rows
has_marker pk rows r up is = one_at_least (in_part is_marker pk) rows pk marker_key r up (ap (λ x. x && true) (text_same pk)) is

-- ---- on to the next partition

visits_less : (walk : Walk) (a b c d : ℕ) → a ≤ c → b ≤ d → visits walk a b ≤ visits walk c d
visits_less BeforeSeal a b c d h g = omega (arith, h, g)
visits_less AfterSeal a b c d h g = omega (arith, h)

-- what moving this partition takes beside the visit that finds it moved
abbrev pub move_left : Pair → List ℕ → ℕ
move_left p pk = cond (is_unmoved p pk) (10 + (3 * old_rows p pk + 2 * entries_of p pk)) 0

pub onward_left : (p : Pair) (part : Part) → are_rising p.old.rows ≡ true → steps_left (onward part) p ≤ others_left part p + move_left p part.pk
onward_left p part up =
    let all = part_up is_marker any_partition part.pk p.old.rows in
    let one = one_marker part.pk p.old.rows up in
    let markers = part_up is_marker (is_unmoved p) part.pk p.old.rows in
    let rows = part_up is_data (is_unmoved p) part.pk p.old.rows in
    let entries = part_up is_data (is_unmoved p) part.pk p.new.rows in
    let v = visits_less part.walk (partitions (is_past (start.After part.pk)) p) (partitions any_partition p) (partitions (is_past (start.After part.pk)) p) (partitions (is_other part.pk any_partition) p + 1) (omega arith) (omega (arith, all, one)) in
    go (is_unmoved p part.pk) markers rows entries one v where
      go : (b : Bool)
          → partitions (is_unmoved p) p ≤ partitions (is_other part.pk (is_unmoved p)) p + cond b (count_of (in_part is_marker part.pk) p.old.rows) 0
          → data_in (is_unmoved p) p.old.rows ≤ data_in (is_other part.pk (is_unmoved p)) p.old.rows + cond b (old_rows p part.pk) 0
          → data_in (is_unmoved p) p.new.rows ≤ data_in (is_other part.pk (is_unmoved p)) p.new.rows + cond b (entries_of p part.pk) 0
          → count_of (in_part is_marker part.pk) p.old.rows ≤ 1
          → visits part.walk (partitions (is_past (start.After part.pk)) p) (partitions any_partition p) ≤ visits part.walk (partitions (is_past (start.After part.pk)) p) (partitions (is_other part.pk any_partition) p + 1)
          → steps_left (onward part) p ≤ others_left part p + cond b (10 + (3 * old_rows p part.pk + 2 * entries_of p part.pk)) 0
      go true a b c d v = omega (arith, a, b, c, d, v)
      go false a b c d v = omega (arith, a, b, c, v)

-- a place past this partition is past where the walk was
past_on : (from : PkFrom) (pk x : List ℕ) → is_past from pk ≡ true → is_past (start.After pk) x ≡ true → is_past from x ≡ true
past_on (start.From low) pk x h less = le_trans low pk x h (ap is_le (lt_less (text_cmp pk x) less))
past_on (start.After low) pk x h less = ap is_lt (nat_list_cmp_total.trans low pk x (lt_less (text_cmp low pk) h) (lt_less (text_cmp pk x) less))

pub not_past : (pk x : List ℕ) → is_past (start.After pk) x ≡ true → pk ≢ x
not_past pk x h same = (let y : false ≡ true = sym (ap is_lt (tied_itself nat_list_cmp_total pk)) ∙ subst (λ z. is_lt (text_cmp pk z) ≡ true) (sym same) h in cc)

ahead_less : (p : Pair) (from : PkFrom) (pk : List ℕ) (r : Stored) → are_rising p.old.rows ≡ true → is_past from pk ≡ true → old_at p pk marker_key ≡ Some r → partitions (is_past (start.After pk)) p + 1 ≤ partitions (is_past from) p
ahead_less p from pk r up past is =
    let one = has_marker pk p.old.rows r up is in
    let x = split_down (where_pk is_marker (is_past from)) (where_pk is_marker (is_past (start.After pk))) (in_part is_marker pk) p.old.rows
    (λ k h. let a = and_parts (is_marker k) (is_past (start.After pk) k.pk) h in (ap (λ b. b && is_past from k.pk) a.0 ∙ past_on from pk k.pk past a.1, ap (λ b. is_marker k && (b && true)) (text_false pk k.pk (not_past pk k.pk a.1)) ∙ nothing (is_marker k)))
    (λ k h. let a = and_parts (is_marker k) (bytes_eq pk k.pk && true) h in let b = and_parts (bytes_eq pk k.pk) true a.1 in ap (λ c. c && is_past from k.pk) a.0 ∙ ap (is_past from) (sym (text_true pk k.pk b.0)) ∙ past) in
    omega (arith, one, x) where
      nothing : (x : Bool) → (x && false) ≡ false
      nothing true = refl
      nothing false = refl

visits_fewer : (walk : Walk) (a b c d : ℕ) → a + 1 ≤ c → b ≤ d → visits walk a b + 3 ≤ visits walk c d
visits_fewer BeforeSeal a b c d h g = omega (arith, h, g)
visits_fewer AfterSeal a b c d h g = omega (arith, h)

-- a walk comes to a partition
pub walk_to : (p : Pair) (walk : Walk) (from : PkFrom) (pk : List ℕ) (r : Stored) → are_rising p.old.rows ≡ true → is_past from pk ≡ true → old_at p pk marker_key ≡ Some r
    → steps_left (at.Look (record { walk = walk; pk = pk })) p + 1 ≤ steps_left (at.Walk walk from) p
walk_to p walk from pk r up past is =
    let ahead = ahead_less p from pk r up past is in
    let one = has_marker pk p.old.rows r up is in
    let all = part_down is_marker any_partition pk p.old.rows in
    let markers = part_down is_marker (is_unmoved p) pk p.old.rows in
    let rows = part_down is_data (is_unmoved p) pk p.old.rows in
    let entries = part_down is_data (is_unmoved p) pk p.new.rows in
    let v = visits_fewer walk (partitions (is_past (start.After pk)) p) (partitions (is_other pk any_partition) p + 1) (partitions (is_past from) p) (partitions any_partition p) ahead (omega (arith, all, one)) in
    go (is_unmoved p pk) markers rows entries one v where
      go : (b : Bool)
          → partitions (is_other pk (is_unmoved p)) p + cond b (count_of (in_part is_marker pk) p.old.rows) 0 ≤ partitions (is_unmoved p) p
          → data_in (is_other pk (is_unmoved p)) p.old.rows + cond b (old_rows p pk) 0 ≤ data_in (is_unmoved p) p.old.rows
          → data_in (is_other pk (is_unmoved p)) p.new.rows + cond b (entries_of p pk) 0 ≤ data_in (is_unmoved p) p.new.rows
          → 1 ≤ count_of (in_part is_marker pk) p.old.rows
          → visits walk (partitions (is_past (start.After pk)) p) (partitions (is_other pk any_partition) p + 1) + 3 ≤ visits walk (partitions (is_past from) p) (partitions any_partition p)
          → others_left (record { walk = walk; pk = pk }) p + cond b (12 + passes p pk) 2 + 1 ≤ steps_left (at.Walk walk from) p
      go true a b c d v = omega (arith, a, b, c, d, v)
      go false a b c d v = omega (arith, a, b, c, v)

-- ---- a step in one partition

-- rows elsewhere stay
pub record StaysBut (pk : List ℕ) (p q : Pair) : Type 0 where
  pub rising : (are_rising p.old.rows ≡ true) × (are_rising p.new.rows ≡ true) × (are_rising q.old.rows ≡ true) × (are_rising q.new.rows ≡ true)
  pub old : (x rk : List ℕ) → x ≢ pk → old_at q x rk ≡ old_at p x rk
  pub new : (x rk : List ℕ) → x ≢ pk → new_at q x rk ≡ new_at p x rk

elsewhere_less : (kind : Key → Bool) (f g : List ℕ → Bool) (xs ys : Rows) → are_rising xs ≡ true → are_rising ys ≡ true → ((x : List ℕ) → f x ≡ true → (g x ≡ true) × ((rk : List ℕ) → row_at xs x rk ≡ row_at ys x rk))
    → count_of (where_pk kind f) xs ≤ count_of (where_pk kind g) ys
elsewhere_less kind f g xs ys up down h = count_le (where_pk kind f) (where_pk kind g) xs ys up down
    (λ x rk s passes is. let a = and_parts (kind (key_at x rk)) (f x) passes in let b = h x a.1 in (ap (λ c. c && g x) a.0 ∙ b.0, ap is_some (sym (b.1 rk) ∙ is)))

other_is : (pk : List ℕ) (f : List ℕ → Bool) (x : List ℕ) → is_other pk f x ≡ true → (x ≢ pk) × (f x ≡ true)
other_is pk f x h = (let a = and_parts (not (bytes_eq pk x)) (f x) h in (λ same. let y : false ≡ true = sym (ap not (ap (bytes_eq pk) same ∙ text_same pk)) ∙ a.0 in cc, a.1))

pub others_less : (part : Part) (p q : Pair) → StaysBut part.pk p q → others_left part q ≤ others_left part p
others_less part p q h =
    let pk = part.pk in
    let ahead = elsewhere_less is_marker (is_past (start.After pk)) (is_past (start.After pk)) q.old.rows p.old.rows h.rising.2 h.rising.0 (λ x t. (t, λ rk. h.old x rk (λ same. not_past pk x t (sym same)))) in
    let all = elsewhere_less is_marker (is_other pk any_partition) (is_other pk any_partition) q.old.rows p.old.rows h.rising.2 h.rising.0 (λ x t. (t, λ rk. h.old x rk (other_is pk any_partition x t).0)) in
    let markers = elsewhere_less is_marker (is_other pk (is_unmoved q)) (is_other pk (is_unmoved p)) q.old.rows p.old.rows h.rising.2 h.rising.0 (λ x t. (unmoved x t, λ rk. h.old x rk (other_is pk (is_unmoved q) x t).0)) in
    let rows = elsewhere_less is_data (is_other pk (is_unmoved q)) (is_other pk (is_unmoved p)) q.old.rows p.old.rows h.rising.2 h.rising.0 (λ x t. (unmoved x t, λ rk. h.old x rk (other_is pk (is_unmoved q) x t).0)) in
    let entries = elsewhere_less is_data (is_other pk (is_unmoved q)) (is_other pk (is_unmoved p)) q.new.rows p.new.rows h.rising.3 h.rising.1 (λ x t. (unmoved x t, λ rk. h.new x rk (other_is pk (is_unmoved q) x t).0)) in
    let v = visits_less part.walk (partitions (is_past (start.After pk)) q) (partitions (is_other pk any_partition) q + 1) (partitions (is_past (start.After pk)) p) (partitions (is_other pk any_partition) p + 1) ahead (omega (arith, all)) in
    omega (arith, v, markers, rows, entries) where
      unmoved : (x : List ℕ) → is_other part.pk (is_unmoved q) x ≡ true → is_other part.pk (is_unmoved p) x ≡ true
      unmoved x t =
          let o = other_is part.pk (is_unmoved q) x t in
          ap (λ b. not b && is_unmoved p x) (text_false part.pk x (λ same. o.0 (sym same)))
          ∙ ap (λ r. is_some r && not (is_use_new (new_state (new_at p x marker_key)))) (sym (h.old x marker_key o.0))
          ∙ ap (λ r. is_some (old_at q x marker_key) && not (is_use_new (new_state r))) (sym (h.new x marker_key o.0)) ∙ o.1

-- ---- rows of the partition

-- the data rows stay
pub record DataStays (pk : List ℕ) (p q : Pair) : Type 0 where
  pub rising : (are_rising p.old.rows ≡ true) × (are_rising p.new.rows ≡ true) × (are_rising q.old.rows ≡ true) × (are_rising q.new.rows ≡ true)
  pub old : (rk : List ℕ) → rk ≢ marker_key → old_at q pk rk ≡ old_at p pk rk
  pub new : (rk : List ℕ) → rk ≢ marker_key → new_at q pk rk ≡ new_at p pk rk

pub data_is : (pk : List ℕ) (before : Option (List ℕ)) (x rk : List ℕ) → is_unread pk before (key_at x rk) ≡ true → (pk ≡ x) × (rk ≢ marker_key)
data_is pk before x rk h =
    let a = and_parts (is_data (key_at x rk)) _ h in
    let b = and_parts (bytes_eq pk x) _ a.1 in
    (text_true pk x b.0, λ same. let y : false ≡ true = sym (ap not (ap (λ k. bytes_eq k marker_key) same ∙ text_same marker_key)) ∙ a.0 in cc)

unread_less : (pk : List ℕ) (before : Option (List ℕ)) (xs ys : Rows) → are_rising xs ≡ true → are_rising ys ≡ true → ((rk : List ℕ) → rk ≢ marker_key → row_at xs pk rk ≡ row_at ys pk rk) → count_of (is_unread pk before) xs ≤ count_of (is_unread pk before) ys
unread_less pk before xs ys up down h = count_le (is_unread pk before) (is_unread pk before) xs ys up down
    (λ x rk s passes is. let a = data_is pk before x rk passes in (passes, ap is_some (ap (λ k. row_at ys k rk) (sym a.0) ∙ sym (h rk a.1) ∙ ap (λ k. row_at xs k rk) a.0 ∙ is)))

pub record DataLess (pk : List ℕ) (p q : Pair) : Type 0 where
  pub unread : (before : Option (List ℕ)) → unread q pk before ≤ unread p pk before
  pub old : old_rows q pk ≤ old_rows p pk
  pub new : entries_of q pk ≤ entries_of p pk
  pub lone : lone_entries q pk ≤ lone_entries p pk

pub data_less : (pk : List ℕ) (p q : Pair) → DataStays pk p q → DataLess pk p q
data_less pk p q h = record {
  unread = λ before. let a = unread_less pk before q.old.rows p.old.rows h.rising.2 h.rising.0 h.old in let b = unread_less pk before q.new.rows p.new.rows h.rising.3 h.rising.1 h.new in omega (arith, a, b);
  old = unread_less pk None q.old.rows p.old.rows h.rising.2 h.rising.0 h.old;
  new = unread_less pk None q.new.rows p.new.rows h.rising.3 h.rising.1 h.new;
  lone = count_le (is_lone q pk) (is_lone p pk) q.new.rows p.new.rows h.rising.3 h.rising.1 (λ x rk s passes is.
      let l = and_parts (is_unread pk None (key_at x rk)) (is_none (old_at q pk rk)) passes in
      let a = data_is pk None x rk l.0 in
      (ap (λ b. b && is_none (old_at p pk rk)) l.0 ∙ ap is_none (sym (h.old rk a.1)) ∙ l.1, ap is_some (ap (λ k. row_at p.new.rows k rk) (sym a.0) ∙ sym (h.new rk a.1) ∙ ap (λ k. row_at q.new.rows k rk) a.0 ∙ is)));
}

-- the entries of a partition are at keys of old, or lone
pub lone_in : (pk : List ℕ) (p : Pair) → lone_entries p pk ≤ entries_of p pk
lone_in pk p = count_in (is_lone p pk) (is_unread pk None) p.new.rows (λ k h. (and_parts (is_unread pk None k) (is_none (old_at p pk k.rk)) h).0)

pub entries_in : (pk : List ℕ) (p : Pair) → are_rising p.old.rows ≡ true → are_rising p.new.rows ≡ true → entries_of p pk ≤ old_rows p pk + lone_entries p pk
entries_in pk p up down =
    let a = split_up (is_unread pk None) both (is_lone p pk) p.new.rows (λ k h. cases k h (old_at p pk k.rk) refl) in
    let b = count_le both (is_unread pk None) p.new.rows p.old.rows down up (λ x rk s passes is. let l = and_parts (is_unread pk None (key_at x rk)) (is_some (old_at p pk rk)) passes in let d = data_is pk None x rk l.0 in (l.0, ap (λ k. is_some (row_at p.old.rows k rk)) (sym d.0) ∙ l.1)) in
    omega (arith, a, b) where
      both : Key → Bool
      both k = is_unread pk None k && is_some (old_at p pk k.rk)

      cases : (k : Key) → is_unread pk None k ≡ true → (o : Option Stored) → old_at p pk k.rk ≡ o → (both k || is_lone p pk k) ≡ true
      cases k h (Some s) e = ap (λ x. (x && is_some (old_at p pk k.rk)) || (x && is_none (old_at p pk k.rk))) h ∙ ap (λ x. is_some x || is_none x) e
      cases k h None e = ap (λ x. (x && is_some (old_at p pk k.rk)) || (x && is_none (old_at p pk k.rk))) h ∙ ap (λ x. is_some x || is_none x) e
