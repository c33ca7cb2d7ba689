-- Rows counted by their tags, and rows that share one.
use Rattle.std.proofs.Common.{◌≡◌, ◌≢◌, ℕ, zero, suc, ◌+◌, ◌<◌, ◌≤◌, Bool, true, false, cond, ◌&&◌, ◌||◌, ◌==◌, [], ◌∷◌, length, get_or, take, Some, refl, sym, ap, subst, ◌∙◌, inl, inr, arith, Less, Equal, Greater, Ordering}
use Rattle.std.specs.Prelude.{nat_le}
use Rattle.std.specs.Ordering.{is_eq, is_lt, eq_by_cmp, nat_cmp, ordering_reverse}
use Rattle.std.specs.BTreeSet.{BTreeSet, contains}
use Rattle.std.specs.FinMap.Entries.{find, below_all}
use Rattle.std.proofs.lemmas.Bool.{and_parts}
use Rattle.std.proofs.lemmas.Bool.Decides.{nat_tests, Decides-eqb}
use Rattle.std.proofs.lemmas.List.Sums.{count_by_more_yes, count_by_more_no, sum_by-cons}
use Rattle.mt_model.specs.declared.key.Key.{Key}
use Rattle.mt_model.specs.Key.{key_cmp}
use Rattle.mt_chain.specs.declared.row.Stored.{Stored}
use Rattle.mt_chain.specs.Rows.{Rows, are_rising}
use Rattle.mt_chain.proofs.KeyLaws.{key_total, key_ties}
use Rattle.mt_chain.proofs.OrderLaws.{lt_less, reversed}
use Rattle.mt_chain.proofs.SearchLaws.{rest_rising, head_below}
use Rattle.mt_open.proofs.Deciding.{Either}
use Rattle.mt_open.proofs.SoundLaws.{key_or_not}
use Rattle.mt_open.specs.Repeats.{has_tag, how_many, AreCounted}

abbrev Entry : Type 0
Entry = Key × Stored

-- ---- one more row

at_least_one : (c : ℕ) → true ≡ nat_le 1 (c + 1)
at_least_one c = grind (arith, nat_tests)

two_of : (c : ℕ) → (nat_le 1 c || nat_le 2 c) ≡ nat_le 2 (c + 1)
two_of zero = refl
two_of (suc zero) = refl
two_of (suc (suc c)) = (let a : nat_le 1 (suc (suc c)) ≡ true = grind (arith, nat_tests) in let b : nat_le 2 (suc (suc c) + 1) ≡ true = grind (arith, nat_tests) in ap (λ t. t || nat_le 2 (suc (suc c))) a ∙ sym b)

own_tag : (store n : ℕ) (e : Entry) → (e.1.tag.store == store) ≡ true → has_tag store n e ≡ (e.1.tag.n == n)
own_tag store n e h = ap (λ t. t && (e.1.tag.n == n)) h

-- a row of the store's own tag
pub counted_more : (store : ℕ) (rows : Rows) (i : ℕ) (e : Entry) (seen repeated seen' repeated' : BTreeSet ℕ) → i < length rows → e ≡ get_or rows i e → (e.1.tag.store == store) ≡ true
    → ((m : ℕ) → contains nat_cmp seen' m ≡ ((e.1.tag.n == m) || contains nat_cmp seen m))
    → ((m : ℕ) → contains nat_cmp repeated' m ≡ (((e.1.tag.n == m) && contains nat_cmp seen m) || contains nat_cmp repeated m))
    → AreCounted store (take i rows) seen repeated → AreCounted store (take (i + 1) rows) seen' repeated'
counted_more store rows i e seen repeated seen' repeated' inside is own more twice old = record {
  seen_is = λ m. more m ∙ seen_case m (e.1.tag.n == m) refl;
  repeated_is = λ m. twice m ∙ repeated_case m (e.1.tag.n == m) refl;
} where
  before : ℕ → ℕ
  before m = how_many store m (take i rows)

  after : ℕ → ℕ
  after m = how_many store m (take (i + 1) rows)

  has : (m : ℕ) (b : Bool) → (e.1.tag.n == m) ≡ b → has_tag store m (get_or rows i e) ≡ b
  has m b eb = ap (has_tag store m) (sym is) ∙ own_tag store m e own ∙ eb

  yes : (m : ℕ) → (e.1.tag.n == m) ≡ true → after m ≡ before m + 1
  yes m eb = count_by_more_yes (has_tag store m) rows i e inside (has m true eb)

  no : (m : ℕ) → (e.1.tag.n == m) ≡ false → after m ≡ before m
  no m eb = count_by_more_no (has_tag store m) rows i e inside (has m false eb)

  seen_case : (m : ℕ) (b : Bool) → (e.1.tag.n == m) ≡ b → ((e.1.tag.n == m) || contains nat_cmp seen m) ≡ nat_le 1 (after m)
  seen_case m true eb = ap (λ t. t || contains nat_cmp seen m) eb ∙ at_least_one (before m) ∙ ap (nat_le 1) (sym (yes m eb))
  seen_case m false eb = ap (λ t. t || contains nat_cmp seen m) eb ∙ old.seen_is m ∙ ap (nat_le 1) (sym (no m eb))

  repeated_case : (m : ℕ) (b : Bool) → (e.1.tag.n == m) ≡ b → (((e.1.tag.n == m) && contains nat_cmp seen m) || contains nat_cmp repeated m) ≡ nat_le 2 (after m)
  repeated_case m true eb = ap (λ t. (t && contains nat_cmp seen m) || contains nat_cmp repeated m) eb
      ∙ ap (λ t. t || contains nat_cmp repeated m) (old.seen_is m) ∙ ap (λ t. nat_le 1 (before m) || t) (old.repeated_is m)
      ∙ two_of (before m) ∙ ap (nat_le 2) (sym (yes m eb))
  repeated_case m false eb = ap (λ t. (t && contains nat_cmp seen m) || contains nat_cmp repeated m) eb ∙ old.repeated_is m ∙ ap (nat_le 2) (sym (no m eb))

-- a row of another store's tag
pub counted_same : (store : ℕ) (rows : Rows) (i : ℕ) (e : Entry) (seen repeated : BTreeSet ℕ) → i < length rows → e ≡ get_or rows i e → (e.1.tag.store == store) ≡ false
    → AreCounted store (take i rows) seen repeated → AreCounted store (take (i + 1) rows) seen repeated
counted_same store rows i e seen repeated inside is other old = record {
  seen_is = λ m. old.seen_is m ∙ ap (nat_le 1) (sym (no m));
  repeated_is = λ m. old.repeated_is m ∙ ap (nat_le 2) (sym (no m));
} where
  no : (m : ℕ) → how_many store m (take (i + 1) rows) ≡ how_many store m (take i rows)
  no m = count_by_more_no (has_tag store m) rows i e inside (ap (has_tag store m) (sym is) ∙ ap (λ t. t && (e.1.tag.n == m)) other)

-- ---- two rows of one tag

pub tied_true : (k e : Key) → key_cmp k e ≡ Equal → k ≡ e
tied_true k e h = key_ties k e h

pub eq_equal : (o : Ordering) → is_eq o ≡ true → o ≡ Equal
eq_equal Equal e = refl
eq_equal Less e = absurd cc
eq_equal Greater e = absurd cc

pub self_tied : (k : Key) → key_cmp k k ≡ Equal
self_tied k = go (key_cmp k k) (key_total.antisymm k k) where
  go : (o : Ordering) → o ≡ ordering_reverse o → o ≡ Equal
  go Less e = absurd cc
  go Equal e = refl
  go Greater e = absurd cc

-- a row that is found lies above what lies below all
found_above : (x k : Key) (rows : Rows) (r : Stored) → below_all key_cmp x rows ≡ true → find key_cmp k rows ≡ Some r → key_cmp x k ≡ Less
found_above x k [] r h found = absurd cc
found_above x k (e ∷ rows) r h found = here_or_later (eq_by_cmp key_cmp k e.0) refl found (found_above x k rows r (and_parts (is_lt (key_cmp x e.0)) (below_all key_cmp x rows) h).1) where
  here_or_later : (b : Bool) → eq_by_cmp key_cmp k e.0 ≡ b → cond b (Some e.1) (find key_cmp k rows) ≡ Some r → (find key_cmp k rows ≡ Some r → key_cmp x k ≡ Less) → key_cmp x k ≡ Less
  here_or_later true eb found later = subst (λ y. key_cmp x y ≡ Less) (sym (tied_true k e.0 (eq_equal _ eb))) (lt_less _ (and_parts (is_lt (key_cmp x e.0)) (below_all key_cmp x rows) h).0)
  here_or_later false eb found later = later found

-- a later row has another key than the first, and is found past it
pub later : (e : Entry) (rows : Rows) (k : Key) (r : Stored) → are_rising (e ∷ rows) ≡ true → find key_cmp k rows ≡ Some r → (k ≢ e.0) × (find key_cmp k (e ∷ rows) ≡ Some r)
later e rows k r h found = (
  λ same. (let tie = subst (λ y. key_cmp e.0 y ≡ Less) same above in let x = sym (self_tied e.0) ∙ tie in cc),
  ap (λ o. cond (is_eq o) (Some e.1) (find key_cmp k rows)) (reversed e.0 k Less above) ∙ found,
) where
  above : key_cmp e.0 k ≡ Less
  above = found_above e.0 k rows r (head_below e rows h) found

-- the first row is found at its key
pub first_found : (e : Entry) (rows : Rows) → find key_cmp e.0 (e ∷ rows) ≡ Some e.1
first_found e rows = ap (λ o. cond (is_eq o) (Some e.1) (find key_cmp e.0 rows)) (self_tied e.0)

abbrev Has : ℕ → ℕ → Stored → Type 0
Has store n r = (r.tag.store ≡ store) × (r.tag.n ≡ n)

has_from : (store n : ℕ) (e : Entry) → has_tag store n e ≡ true → Has store n e.1
has_from store n e h = (let parts = and_parts (e.1.tag.store == store) (e.1.tag.n == n) h in ((Decides-eqb e.1.tag.store store).0 parts.0, (Decides-eqb e.1.tag.n n).0 parts.1))

has_to : (store n : ℕ) (e : Entry) → Has store n e.1 → has_tag store n e ≡ true
has_to store n e h = rw ((Decides-eqb e.1.tag.store store).1 h.0, (Decides-eqb e.1.tag.n n).1 h.1) refl

abbrev FoundWith : ℕ → ℕ → Rows → Key → Type 0
FoundWith store n rows k = (r : Stored) × (find key_cmp k rows ≡ Some r) × Has store n r

counted_by : (store n : ℕ) (e : Entry) (rows : Rows) → how_many store n (e ∷ rows) ≡ cond (has_tag store n e) 1 0 + how_many store n rows
counted_by store n e rows = sum_by-cons (λ (x : Entry). cond (has_tag store n x) 1 0) e rows

one_there : (store n : ℕ) (rows : Rows) → are_rising rows ≡ true → 1 ≤ how_many store n rows → (k : Key) × FoundWith store n rows k
one_there store n [] h some = absurd (omega (arith, some))
one_there store n (e ∷ rows) h some = go (has_tag store n e) refl (subst (λ c. 1 ≤ c) (counted_by store n e rows) some) (one_there store n rows (rest_rising e rows h)) where
  go : (b : Bool) → has_tag store n e ≡ b → 1 ≤ cond b 1 0 + how_many store n rows → (1 ≤ how_many store n rows → (k : Key) × FoundWith store n rows k) → (k : Key) × FoundWith store n (e ∷ rows) k
  go true eb some rest = (e.0, (e.1, first_found e rows, has_from store n e eb))
  go false eb some rest = (let x = rest (omega (arith, some)) in (x.0, (x.1.0, (later e rows x.0 x.1.0 h x.1.1).1, x.1.2)))

-- another row has the tag, where two rows have it
pub another : (store n : ℕ) (rows : Rows) (k : Key) → are_rising rows ≡ true → 2 ≤ how_many store n rows → (o : Key) × (o ≢ k) × FoundWith store n rows o
another store n [] k h some = absurd (omega (arith, some))
another store n (e ∷ rows) k h some = go (has_tag store n e) (key_or_not e.0 k) refl (subst (λ c. 2 ≤ c) (counted_by store n e rows) some) (another store n rows k (rest_rising e rows h)) where
  go : (b : Bool) → Either (e.0 ≡ k) → has_tag store n e ≡ b → 2 ≤ cond b 1 0 + how_many store n rows
      → (2 ≤ how_many store n rows → (o : Key) × (o ≢ k) × FoundWith store n rows o) → (o : Key) × (o ≢ k) × FoundWith store n (e ∷ rows) o
  go true (inr other) eb some rest = (e.0, other, (e.1, first_found e rows, has_from store n e eb))
  go true (inl same) eb some rest =
      (let x = one_there store n rows (rest_rising e rows h) (omega (arith, some)) in
      let l = later e rows x.0 x.1.0 h x.1.1 in
      (x.0, (λ is. l.0 (is ∙ sym same)), (x.1.0, l.1, x.1.2)))
  go false d eb some rest = (let x = rest (omega (arith, some)) in (x.0, x.1, (x.2.0, (later e rows x.0 x.2.0 h x.2.1).1, x.2.2)))

counted_once : (store n : ℕ) (rows : Rows) (k : Key) → FoundWith store n rows k → 1 ≤ how_many store n rows
counted_once store n [] k f = absurd (let x = f.1 in cc)
counted_once store n (e ∷ rows) k f = subst (λ c. 1 ≤ c) (sym (counted_by store n e rows)) (go (eq_by_cmp key_cmp k e.0) f.1 (λ found. counted_once store n rows k (f.0, found, f.2))) where
  go : (b : Bool) → cond b (Some e.1) (find key_cmp k rows) ≡ Some f.0 → (find key_cmp k rows ≡ Some f.0 → 1 ≤ how_many store n rows) → 1 ≤ cond (has_tag store n e) 1 0 + how_many store n rows
  go true found rest =
      (let same : e.1 ≡ f.0 = (let x : Some e.1 ≡ Some f.0 = found in cc) in
      let is : has_tag store n e ≡ true = has_to store n e (subst (Has store n) (sym same) f.2) in
      let one : cond {A = ℕ} (has_tag store n e) 1 0 ≡ 1 = ap (λ b. cond b 1 0) is in
      omega (arith, one))
  go false found rest = (let x = rest found in omega (arith, x))

-- two rows of other keys with the tag are counted
pub counted_twice : (store n : ℕ) (rows : Rows) (k o : Key) → o ≢ k → FoundWith store n rows k → FoundWith store n rows o → 2 ≤ how_many store n rows
counted_twice store n [] k o ne f g = absurd (let x = f.1 in cc)
counted_twice store n (e ∷ rows) k o ne f g = subst (λ c. 2 ≤ c) (sym (counted_by store n e rows)) (go (eq_by_cmp key_cmp k e.0) (eq_by_cmp key_cmp o e.0) refl refl f.1 g.1 (λ ff gg. counted_twice store n rows k o ne (f.0, ff, f.2) (g.0, gg, g.2))) where
  tied : (x : Key) → eq_by_cmp key_cmp x e.0 ≡ true → x ≡ e.0
  tied x eb = tied_true x e.0 (eq_equal _ eb)

  head : (r : Stored) → Some e.1 ≡ Some r → Has store n r → cond {A = ℕ} (has_tag store n e) 1 0 ≡ 1
  head r found h = ap (λ b. cond b 1 0) (has_to store n e (subst (Has store n) (let same : r ≡ e.1 = cc in same) h))

  go : (a b : Bool) → eq_by_cmp key_cmp k e.0 ≡ a → eq_by_cmp key_cmp o e.0 ≡ b → cond a (Some e.1) (find key_cmp k rows) ≡ Some f.0 → cond b (Some e.1) (find key_cmp o rows) ≡ Some g.0
      → (find key_cmp k rows ≡ Some f.0 → find key_cmp o rows ≡ Some g.0 → 2 ≤ how_many store n rows) → 2 ≤ cond (has_tag store n e) 1 0 + how_many store n rows
  go true true ea eb ff gg rest = absurd (ne (tied o eb ∙ sym (tied k ea)))
  go true false ea eb ff gg rest = (let one = head f.0 ff f.2 in let more = counted_once store n rows o (g.0, gg, g.2) in omega (arith, one, more))
  go false true ea eb ff gg rest = (let one = head g.0 gg g.2 in let more = counted_once store n rows k (f.0, ff, f.2) in omega (arith, one, more))
  go false false ea eb ff gg rest = (let x = rest ff gg in omega (arith, x))
