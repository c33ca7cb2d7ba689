-- The rows that the walk finds are the first that clients see, up to where the chunk ends.
use Rattle.std.proofs.Common.{◌≡◌, ℕ, ◌-◌, ◌≤◌, ◌<◌, Bool, true, false, cond, ◌&&◌, nat_lt, List, [], ◌∷◌, ◌++◌, length, Option, Some, None, refl, sym, ap, subst, ◌∙◌, arith, inl, inr, bytes_eq, Less, Equal, length-append}
use Rattle.std.specs.Prelude.{option_map}
use Rattle.std.proofs.lemmas.Bool.{and_parts, or_cases}
use Rattle.std.proofs.lemmas.Bool.Decides.{nat_tests}
use Rattle.std.specs.List.{AllByRecursion, slice_get}
use Rattle.std.specs.List.Sorted.{IsStrictlySortedBy}
use Rattle.std.specs.Ordering.{is_le, is_lt, eq_by_cmp, ordering_reverse}
use Rattle.std.specs.Cmp.{tied_itself}
use Rattle.std.specs.Cmp.Lexicographic.{nat_list_cmp_total}
use Rattle.std.specs.FinMap.Entries.{find, below_all}
use Rattle.mt_model.specs.declared.key.Key.{Key}
use Rattle.mt_model.specs.declared.entity.Entity.{Entity}
use Rattle.mt_model.specs.Key.{key_cmp}
use Rattle.mt_filter.specs.declared.filter.Filter.{Filter}
use Rattle.mt_chain.specs.declared.row.Stored.{Stored}
use Rattle.mt_chain.specs.declared.row.StoredRow.{StoredRow}
use Rattle.mt_chain.specs.declared.query.RkFrom.TheVariants.{Start}
use Rattle.mt_chain.specs.Rows.{RisingRows, key_at, is_upto, are_rising}
use Rattle.mt_chain.specs.Table.{Table, IsListing, table_of, rows_of}
use Rattle.mt_chain.specs.TwoLists.{first_key, first_row, rows_past}
use Rattle.mt_chain.proofs.KeyLaws.{key_ties}
use Rattle.mt_chain.proofs.OrderLaws.{key_less, eq_equal, lt_less}
use Rattle.mt_chain.proofs.TextOrder.{text_cmp, le_itself, le_trans}
use Rattle.mt_chain.proofs.TwoLists.{has, left, none_left, IsFirst, is_first}
use Rattle.mt_history.specs.Replies.{in_range, is_matched, kept_if, selected}
use Rattle.mt_meta.specs.declared.marker.NewPhase.{NewPhase}
use Rattle.mt_query_plan.specs.Answers.{read_table, wanted_over, with_key, with_one}
use Rattle.mt_query_plan.proofs.WalkLaws.{Walked, walk_start, walk_more}
use Rattle.mt_scan.specs.Chunks.{last_of, cut_at, up_to, next_key, AreFirst}

pub none_rise : RisingRows []
unfolding IsStrictlySortedBy
none_rise = tt

-- ---- the last row

pub last_get : (es : List Entity) → option_map (λ (e : Entity). e.key.rk) (slice_get es (length es - 1)) ≡ last_of es
last_get [] = refl
last_get (e ∷ es) = let n : length (e ∷ es) - 1 ≡ length es = omega arith in ap (λ i. option_map (λ (x : Entity). x.key.rk) (slice_get (e ∷ es) i)) n ∙ last_is e es where
  last_is : (e : Entity) (es : List Entity) → option_map (λ (x : Entity). x.key.rk) (slice_get (e ∷ es) (length es)) ≡ last_of (e ∷ es)
  last_is e [] = refl
  last_is e (f ∷ es) = last_is f es

pub has_last : (e : Entity) (es : List Entity) → last_of (e ∷ es) ≡ None → ⊥
has_last e [] h = cc
has_last e (f ∷ es) h = has_last f es h

-- what all rows have, the last has
of_last : (P : Entity → Type 0) (es : List Entity) (k : List ℕ) → AllByRecursion P es → last_of es ≡ Some k → (e : Entity) × P e × (e.key.rk ≡ k)
of_last P [] k all h = absurd (let x = h in cc)
of_last P (e ∷ []) k all h = (e, all.0, same e.key.rk k h) where
  same : (a b : List ℕ) → Some a ≡ Some b → a ≡ b
  same a b e = cc
of_last P (e ∷ f ∷ es) k all h = of_last P (f ∷ es) k all.1 h

-- ---- keys of one partition

pub less_row : (x y : Key) → x.pk ≡ y.pk → key_cmp x y ≡ Less → text_cmp x.rk y.rk ≡ Less
less_row x y same less = elim (key_less x y less) as (λ _. text_cmp x.rk y.rk ≡ Less) [
  | inl l ↦ absurd (let no : Equal ≡ Less = sym (tied_itself nat_list_cmp_total y.pk) ∙ subst (λ p. text_cmp p y.pk ≡ Less) same l in cc)
  | inr both ↦ both.1
]

-- the row is one of the partition, up to an end
abbrev pub IsPlaced : List ℕ → Option (List ℕ) → Entity → Type 0
IsPlaced pk end e = (e.key.pk ≡ pk) × (is_upto end e.key.rk ≡ true)

-- of rows that rise the last has the greatest key
up_to_last : (pk : List ℕ) (end : Option (List ℕ)) (es : List Entity) (k : List ℕ) → are_rising (rows_of es) ≡ true → AllByRecursion (IsPlaced pk end) es → last_of es ≡ Some k → AllByRecursion (λ e. is_upto (Some k) e.key.rk ≡ true) es
up_to_last pk end [] k rising all h = tt
up_to_last pk end (e ∷ []) k rising all h = (subst (λ x. is_le (text_cmp e.key.rk x) ≡ true) (same e.key.rk k h) (le_itself e.key.rk), tt) where
  same : (a b : List ℕ) → Some a ≡ Some b → a ≡ b
  same a b e = cc
up_to_last pk end (e ∷ f ∷ es) k rising all h =
    let parts = and_parts (below_all key_cmp e.key (rows_of (f ∷ es))) (are_rising (rows_of (f ∷ es))) rising in
    let first = and_parts (is_lt (key_cmp e.key f.key)) (below_all key_cmp e.key (rows_of es)) parts.0 in
    let rest = up_to_last pk end (f ∷ es) k parts.1 all.1 h in
    let below = less_row e.key f.key (all.0.0 ∙ sym all.1.0.0) (lt_less _ first.0) in
    (le_trans e.key.rk f.key.rk k (ap is_le below) rest.0, rest)

-- ---- a list of what the read table has up to an end

-- no row stands at a key past the end
absent : (upto : Option (List ℕ)) (es : List Entity) (key : Key) → AllByRecursion (λ (e : Entity). is_upto upto e.key.rk ≡ true) es → is_upto upto key.rk ≡ false → table_of (rows_of es) key ≡ None
absent upto [] key all out = refl
absent upto (e ∷ es) key all out = go (absent upto es key all.1 out) (eq_by_cmp key_cmp key e.key) refl where
  go : table_of (rows_of es) key ≡ None → (b : Bool) → eq_by_cmp key_cmp key e.key ≡ b → cond b (Some (record { props = e.props; tag = e.tag })) (find key_cmp key (rows_of es)) ≡ None
  go rest true t = absurd (let same = key_ties key e.key (eq_equal (key_cmp key e.key) t) in let x : true ≡ false = sym all.0 ∙ ap (λ (k : Key). is_upto upto k.rk) (sym same) ∙ out in cc)
  go rest false t = rest

module _ (pk : List ℕ) (test : Option Filter) (phase : NewPhase) (rows entries : List StoredRow) where
  abbrev read : Table
  read = read_table phase rows entries

  -- where all that was found lies up to an end, and all that is left past it, that is all up to it
  listed : (upto : Option (List ℕ)) (found : List Entity) (old new : List StoredRow) → Walked pk test phase rows entries found old new
      → AllByRecursion (λ e. is_upto upto e.key.rk ≡ true) found → ((rk : List ℕ) → left old new rk ≡ true → is_upto upto rk ≡ false)
      → IsListing found (selected (in_range pk Start upto) test read)
  listed upto found old new w all past = record { rising = w.rising; rows = λ key. by key (bytes_eq pk key.pk) (is_upto upto key.rk) (left old new key.rk) refl refl refl } where
    shown : Key → Option Stored
    shown key = kept_if (λ s. is_matched test key s.props) (read key)

    by : (key : Key) (p u l : Bool) → bytes_eq pk key.pk ≡ p → is_upto upto key.rk ≡ u → left old new key.rk ≡ l → table_of (rows_of found) key ≡ selected (in_range pk Start upto) test read key
    by key false u l ep eu el =
        w.shows key
        ∙ ap (λ b. cond (b && left old new key.rk) None (cond b (shown key) None)) ep
        ∙ sym (ap (λ b. cond (b && is_upto upto key.rk) (shown key) None) ep)
    by key true false l ep eu el = absent upto found key all eu ∙ sym (ap (λ b. cond (b && is_upto upto key.rk) (shown key) None) ep ∙ ap (λ b. cond b (shown key) None) eu)
    by key true true true ep eu el = absurd (let x : true ≡ false = sym eu ∙ past key.rk el in cc)
    by key true true false ep eu el =
        w.shows key
        ∙ ap (λ b. cond (b && left old new key.rk) None (cond b (shown key) None)) ep
        ∙ ap (λ b. cond b None (shown key)) el
        ∙ sym (ap (λ b. cond (b && is_upto upto key.rk) (shown key) None) ep ∙ ap (λ b. cond b (shown key) None) eu)

  -- what the walk keeps
  pub record Finding (room : ℕ) (end : Option (List ℕ)) (found : List Entity) (old new : List StoredRow) : Type 0 where
    pub walked : Walked pk test phase rows entries found old new
    pub few : length found ≤ room
    pub placed : AllByRecursion (IsPlaced pk end) found

  all_short : (end : Option (List ℕ)) (es : List Entity) → AllByRecursion (IsPlaced pk end) es → AllByRecursion (λ (e : Entity). is_upto end e.key.rk ≡ true) es
  all_short end [] h = tt
  all_short end (e ∷ es) h = (h.0.1, all_short end es h.1)

  -- where it ends
  none_next : (end : Option (List ℕ)) (old new : List StoredRow) → RisingRows old → RisingRows new → up_to end (first_key old new) ≡ None → (rk : List ℕ) → left old new rk ≡ true → is_upto end rk ≡ false
  none_next end old new a b h rk there = by (first_key old new) refl h where
    far : (m : List ℕ) → is_upto end m ≡ false → is_le (text_cmp m rk) ≡ true → (o : Option (List ℕ)) → end ≡ o → (t : Bool) → is_upto end rk ≡ t → t ≡ false
    far m out le o e false t = refl
    far m out le None e true t = absurd (let x : true ≡ false = sym (ap (λ z. is_upto z m) e) ∙ out in cc)
    far m out le (Some k) e true t = absurd (
        let near : is_le (text_cmp rk k) ≡ true = sym (ap (λ z. is_upto z rk) e) ∙ t in
        let x : true ≡ false = sym (ap (λ z. is_upto z m) e ∙ le_trans m rk k le near) ∙ out in cc)

    least : (m : List ℕ) → IsFirst old new m → is_le (text_cmp m rk) ≡ true
    least m first = elim (or_cases (has rk old) (has rk new) there) as (λ _. is_le (text_cmp m rk) ≡ true) [
      | inl o ↦ first.low rk o
      | inr n ↦ first.high rk n
    ]

    by : (o : Option (List ℕ)) → first_key old new ≡ o → up_to end o ≡ None → is_upto end rk ≡ false
    by None e h = absurd (let x : true ≡ false = sym there ∙ none_left old new rk e in cc)
    by (Some m) e h = test_of (is_upto end m) refl h where
      test_of : (t : Bool) → is_upto end m ≡ t → cond t (Some m) None ≡ None → is_upto end rk ≡ false
      test_of true t h = absurd (let x = h in cc)
      test_of false t h = far m t (least m (is_first old new m a b e)) end refl (is_upto end rk) refl

  -- what all rows that were found lie before is past the last of them
  past_last : (found : List Entity) (old new : List StoredRow) (end : Option (List ℕ)) (k : List ℕ) → Walked pk test phase rows entries found old new → AllByRecursion (IsPlaced pk end) found → last_of found ≡ Some k
      → (rk : List ℕ) → left old new rk ≡ true → is_upto (Some k) rk ≡ false
  past_last found old new end k w placed last rk there =
      let at_end = of_last (λ (e : Entity). (e.key.pk ≡ pk) × (key_cmp e.key (key_at pk rk) ≡ Less)) found k (both found placed (w.below rk there)) last in
      let below : text_cmp k rk ≡ Less = subst (λ x. text_cmp x rk ≡ Less) at_end.2 (less_row at_end.0.key (key_at pk rk) at_end.1.0 at_end.1.1) in
      ap is_le (nat_list_cmp_total.antisymm rk k ∙ ap ordering_reverse below) where
        both : (es : List Entity) → AllByRecursion (IsPlaced pk end) es → AllByRecursion (λ (e : Entity). key_cmp e.key (key_at pk rk) ≡ Less) es → AllByRecursion (λ (e : Entity). (e.key.pk ≡ pk) × (key_cmp e.key (key_at pk rk) ≡ Less)) es
        both [] a b = tt
        both (e ∷ es) a b = ((a.0.0, b.0), both es a.1 b.1)

  -- the rows that were found when the walk ends
  pub all_found : (room : ℕ) (end : Option (List ℕ)) (found : List Entity) (old new : List StoredRow) → 1 ≤ room → Finding room end found old new → next_key (nat_lt (length found) room) end old new ≡ None → AreFirst pk test phase room end rows entries found
  all_found room end found old new some f done = record {
    few = f.few;
    short = all_short end found f.placed;
    listing = by (nat_lt (length found) room) refl done;
  } where
    full : (o : Option (List ℕ)) → last_of found ≡ o → nat_lt (length found) room ≡ false → IsListing found (selected (in_range pk Start (last_of found)) test read)
    full None last more = absurd (nothing found f.few last more) where
      nothing : (es : List Entity) → length es ≤ room → last_of es ≡ None → nat_lt (length es) room ≡ false → ⊥
      nothing [] few last more = (let x : nat_lt 0 room ≡ true = grind (arith, nat_tests) in let y : true ≡ false = sym x ∙ more in cc)
      nothing (e ∷ es) few last more = has_last e es last
    full (Some k) last more = subst (λ o. IsListing found (selected (in_range pk Start o) test read)) (sym last)
        (listed (Some k) found old new f.walked (up_to_last pk end found k f.walked.rising f.placed last) (past_last found old new end k f.walked f.placed last))

    by : (b : Bool) → nat_lt (length found) room ≡ b → next_key b end old new ≡ None → IsListing found (selected (in_range pk Start (cut_at room end found)) test read)
    by true e h = subst (λ o. IsListing found (selected (in_range pk Start o) test read)) (sym (ap (λ b. cond b end (last_of found)) e))
        (listed end found old new f.walked (all_short end found f.placed) (none_next end old new f.walked.old_rising f.walked.new_rising h))
    by false e h = subst (λ o. IsListing found (selected (in_range pk Start o) test read)) (sym (ap (λ b. cond b end (last_of found)) e)) (full (last_of found) refl e)

  -- ---- one key more

  record IsNextKey (room : ℕ) (end : Option (List ℕ)) (found : List Entity) (old new : List StoredRow) (m : List ℕ) : Type 0 where
    pub first : first_key old new ≡ Some m
    pub room_left : nat_lt (length found) room ≡ true
    pub short : is_upto end m ≡ true

  is_next_key : (room : ℕ) (end : Option (List ℕ)) (found : List Entity) (old new : List StoredRow) (m : List ℕ) → next_key (nat_lt (length found) room) end old new ≡ Some m → IsNextKey room end found old new m
  is_next_key room end found old new m h = by (nat_lt (length found) room) refl h where
    keyed : (o : Option (List ℕ)) → first_key old new ≡ o → nat_lt (length found) room ≡ true → up_to end o ≡ Some m → IsNextKey room end found old new m
    keyed None e r h = absurd (let x = h in cc)
    keyed (Some k) e r h = test_of (is_upto end k) refl h where
      same : (a b : List ℕ) → Some a ≡ Some b → a ≡ b
      same a b e = cc

      test_of : (t : Bool) → is_upto end k ≡ t → cond t (Some k) None ≡ Some m → IsNextKey room end found old new m
      test_of true t h = record { first = e ∙ h; room_left = r; short = subst (λ x. is_upto end x ≡ true) (same k m h) t }
      test_of false t h = absurd (let x = h in cc)

    by : (b : Bool) → nat_lt (length found) room ≡ b → next_key b end old new ≡ Some m → IsNextKey room end found old new m
    by true e h = keyed (first_key old new) refl e h
    by false e h = absurd (let x = h in cc)

  placed_more : (room : ℕ) (end : Option (List ℕ)) (found : List Entity) (m : List ℕ) (o : Option Stored) → is_upto end m ≡ true → AllByRecursion (IsPlaced pk end) found → AllByRecursion (IsPlaced pk end) (with_one found (option_map (with_key pk m) o))
  placed_more room end found m None short all = all
  placed_more room end found m (Some s) short all = push found all where
    push : (es : List Entity) → AllByRecursion (IsPlaced pk end) es → AllByRecursion (IsPlaced pk end) (es ++ with_key pk m s ∷ [])
    push [] h = ((refl, short), tt)
    push (e ∷ es) h = (h.0, push es h.1)

  few_more : (room : ℕ) (found : List Entity) (m : List ℕ) (o : Option Stored) → nat_lt (length found) room ≡ true → length found ≤ room → length (with_one found (option_map (with_key pk m) o)) ≤ room
  few_more room found m None less few = few
  few_more room found m (Some s) less few =
      let short : length found < room = grind (arith, nat_tests) in
      let n = length-append found (with_key pk m s ∷ []) in
      omega (arith, n, short)

  pub none_found : (room : ℕ) (end : Option (List ℕ)) → RisingRows rows → RisingRows entries → Finding room end [] rows entries
  none_found room end a b = record { walked = walk_start pk test phase rows entries a b; few = omega arith; placed = tt }

  pub found_more : (room : ℕ) (end : Option (List ℕ)) (found : List Entity) (old new : List StoredRow) (m : List ℕ) → Finding room end found old new → next_key (nat_lt (length found) room) end old new ≡ Some m
      → Finding room end (with_one found (option_map (with_key pk m) (wanted_over pk test phase m (first_row m old) (first_row m new)))) (rows_past m old) (rows_past m new)
  found_more room end found old new m f h =
      let next = is_next_key room end found old new m h in
      let o = wanted_over pk test phase m (first_row m old) (first_row m new) in
      record {
        walked = walk_more pk test phase rows entries found old new m f.walked next.first;
        few = few_more room found m o next.room_left f.few;
        placed = placed_more room end found m o next.short f.placed;
      }
