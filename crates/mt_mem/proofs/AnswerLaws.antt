-- Answers to queries: their order, and that they fit what was asked.
use Rattle.std.proofs.Common.{◌≡◌, ℕ, zero, suc, ◌+◌, ◌<◌, ◌≤◌, Bool, true, false, cond, not, ◌&&◌, ◌||◌, List, [], ◌∷◌, ◌++◌, map, length, take, get_or, take-suc, filter, option_map, refl, sym, ap, ◌∙◌, subst, inl, inr, arith, bytes_eq, Some, None, Option, Less, Ordering, IsTrue, All, Contains, nat_lt}
use Rattle.std.proofs.lemmas.Bool.{and_parts, cases_lt, cases_eq, not-false}
use Rattle.std.proofs.lemmas.List.{length-map}
use Rattle.std.proofs.lemmas.List.Elements.{All-from_recursion, filter_map-append}
use Rattle.std.specs.List.{AllByRecursion, list_any, cons_option}
use Rattle.std.specs.List.Sorted.{IsStrictlySortedBy}
use Rattle.std.specs.Ordering.{nat_cmp, is_le, is_lt}
use Rattle.std.specs.Cmp.{tied_itself}
use Rattle.std.specs.Cmp.Lexicographic.{slice_cmp, nat_list_cmp_total}
use Rattle.std.specs.FinMap.Entries.{below_all}
use Rattle.mt_model.specs.declared.key.Key.{Key}
use Rattle.mt_model.specs.Key.{key_cmp}
use Rattle.mt_chain.specs.declared.row.Stored.{Stored}
use Rattle.mt_chain.specs.declared.row.StoredRow.{StoredRow}
use Rattle.mt_chain.specs.declared.query.PkFrom.{PkFrom}
use Rattle.mt_chain.specs.declared.query.Range.{Range}
use Rattle.mt_chain.specs.declared.query.RangeQuery.{RangeQuery}
use Rattle.mt_chain.specs.declared.query.Found.{Found}
use Rattle.mt_chain.specs.Rows.{Rows, are_rising, row_at, shown, named_rows, rows_within, is_within, limited, is_beyond, has_partition, is_past}
use Rattle.mt_chain.specs.Places.{IsCut, is_passed}
use Rattle.mt_chain.specs.StoreCall.{Contents, IsFound, FitsQuery, FitsRange, AtMost, IsNext, range_answer, range_has_more}
use Rattle.mt_chain.proofs.KeyLaws.{text_true, text_same}
use Rattle.mt_chain.proofs.OrderLaws.{key_less, lt_less}
use Rattle.mt_chain.proofs.SearchLaws.{rises, any_at, any_none, rest_rising, head_below}

abbrev text_cmp : List ℕ → List ℕ → Ordering
text_cmp = slice_cmp nat_cmp

abbrev Entry : Type 0
Entry = Key × Stored

-- ---- named rows

named_below : (rows : Rows) (pk x : List ℕ) (names : List (List ℕ)) → AllByRecursion (λ y. text_cmp x y ≡ Less) names → AllByRecursion (λ y. text_cmp x y ≡ Less) (map (λ s. s.rk) (named_rows rows pk names))
named_below rows pk x [] h = tt
named_below rows pk x (n ∷ names) h =
    elim (row_at rows pk n) as (λ o. AllByRecursion (λ y. text_cmp x y ≡ Less) (map (λ s. s.rk) (cons_option (option_map (shown n) o) (named_rows rows pk names)))) [
      | None ↦ named_below rows pk x names h.1
      | Some s ↦ (h.0, named_below rows pk x names h.1)
    ]

pub named_rising : (rows : Rows) (pk : List ℕ) (names : List (List ℕ)) → IsStrictlySortedBy text_cmp names → IsStrictlySortedBy text_cmp (map (λ s. s.rk) (named_rows rows pk names))
unfolding IsStrictlySortedBy
named_rising rows pk [] h = tt
named_rising rows pk (n ∷ names) h =
    elim (row_at rows pk n) as (λ o. IsStrictlySortedBy text_cmp (map (λ s. s.rk) (cons_option (option_map (shown n) o) (named_rows rows pk names)))) [
      | None ↦ named_rising rows pk names h.1
      | Some s ↦ (named_below rows pk n names h.0, named_rising rows pk names h.1)
    ]

pub named_more : (rows : Rows) (pk : List ℕ) (names : List (List ℕ)) (i : ℕ) (rk : List ℕ) → i < length names → rk ≡ get_or names i rk → named_rows rows pk (take (i + 1) names) ≡ named_rows rows pk (take i names) ++ cons_option (option_map (shown rk) (row_at rows pk rk)) []
named_more rows pk names i rk l is =
    ap (λ k. named_rows rows pk (take k names)) (let e : i + 1 ≡ suc i = omega arith in e)
    ∙ ap (named_rows rows pk) (take-suc names i rk l)
    ∙ ap (λ n. named_rows rows pk (take i names ++ n ∷ [])) (sym is)
    ∙ filter_map-append (λ rk. option_map (shown rk) (row_at rows pk rk)) (take i names) (rk ∷ [])

-- ---- ranges

in_range_test : List ℕ → Range → Entry → Bool
in_range_test pk range e = bytes_eq pk e.0.pk && is_within range e.0.rk

range_below : (pk : List ℕ) (range : Range) (x : Key) (rows : Rows) → x.pk ≡ pk → below_all key_cmp x rows ≡ true → AllByRecursion (λ y. text_cmp x.rk y ≡ Less) (map (λ s. s.rk) (rows_within rows pk range))
range_below pk range x [] same h = tt
range_below pk range x (e ∷ rows) same h =
    let parts = and_parts (is_lt (key_cmp x e.0)) (below_all key_cmp x rows) h in
    let rest = range_below pk range x rows same parts.1 in
    elim (bytes_eq pk e.0.pk && is_within range e.0.rk) as (λ b. (bytes_eq pk e.0.pk && is_within range e.0.rk) ≡ b → AllByRecursion (λ y. text_cmp x.rk y ≡ Less) (map (λ s. s.rk) (map (λ e. shown e.0.rk e.1) (cond b (e ∷ filter (λ e. bytes_eq pk e.0.pk && is_within range e.0.rk) rows) (filter (λ e. bytes_eq pk e.0.pk && is_within range e.0.rk) rows))))) [
      | true ↦ λ t.
          let here = text_true pk e.0.pk (and_parts (bytes_eq pk e.0.pk) (is_within range e.0.rk) t).0 in (
            elim (key_less x e.0 (lt_less _ parts.0)) as (λ _. text_cmp x.rk e.0.rk ≡ Less) [
              | inl less ↦ (let tie = sym (tied_itself nat_list_cmp_total x.pk) ∙ ap (text_cmp x.pk) (same ∙ here) ∙ less in absurd cc)
              | inr both ↦ both.1
            ],
            rest,
          )
      | false ↦ λ t. rest
    ] refl

within_rising : (pk : List ℕ) (range : Range) (rows : Rows) → are_rising rows ≡ true → IsStrictlySortedBy text_cmp (map (λ s. s.rk) (rows_within rows pk range))
unfolding IsStrictlySortedBy
within_rising pk range [] h = tt
within_rising pk range (e ∷ rows) h =
    let rest = within_rising pk range rows (rest_rising e rows h) in
    elim (bytes_eq pk e.0.pk && is_within range e.0.rk) as (λ b. (bytes_eq pk e.0.pk && is_within range e.0.rk) ≡ b → IsStrictlySortedBy text_cmp (map (λ s. s.rk) (map (λ e. shown e.0.rk e.1) (cond b (e ∷ filter (λ e. bytes_eq pk e.0.pk && is_within range e.0.rk) rows) (filter (λ e. bytes_eq pk e.0.pk && is_within range e.0.rk) rows))))) [
      | true ↦ λ t. (range_below pk range e.0 rows (sym (text_true pk e.0.pk (and_parts (bytes_eq pk e.0.pk) (is_within range e.0.rk) t).0)) (head_below e rows h), rest)
      | false ↦ λ t. rest
    ] refl

take_all : {X Y : Type 0} (P : Y → Type 0) (f : X → Y) (n : ℕ) (xs : List X) → AllByRecursion P (map f xs) → AllByRecursion P (map f (take n xs))
take_all P f zero xs h = tt
take_all P f (suc n) [] h = tt
take_all P f (suc n) (x ∷ xs) h = (h.0, take_all P f n xs h.1)

take_rising : (n : ℕ) (rows : List StoredRow) → IsStrictlySortedBy text_cmp (map (λ s. s.rk) rows) → IsStrictlySortedBy text_cmp (map (λ s. s.rk) (take n rows))
unfolding IsStrictlySortedBy
take_rising zero rows h = tt
take_rising (suc n) [] h = tt
take_rising (suc n) (r ∷ rows) h = (take_all (λ y. text_cmp r.rk y ≡ Less) (λ (s : StoredRow). s.rk) n rows h.0, take_rising n rows h.1)

limited_rising : (limit : Option ℕ) (rows : List StoredRow) → IsStrictlySortedBy text_cmp (map (λ s. s.rk) rows) → IsStrictlySortedBy text_cmp (map (λ s. s.rk) (limited limit rows))
limited_rising None rows h = h
limited_rising (Some n) rows h = take_rising n rows h

none_rising : IsStrictlySortedBy text_cmp []
unfolding IsStrictlySortedBy
none_rising = tt

pub range_rising : (rows : Rows) (pk : List ℕ) (range : Option Range) → are_rising rows ≡ true → IsStrictlySortedBy text_cmp (map (λ s. s.rk) (range_answer rows pk range))
range_rising rows pk None h = none_rising
range_rising rows pk (Some range) h = limited_rising range.limit (rows_within rows pk range) (within_rising pk range rows h)

map_take : {X Y : Type 0} (f : X → Y) (n : ℕ) (xs : List X) → map f (take n xs) ≡ take n (map f xs)
map_take f zero xs = refl
map_take f (suc n) [] = refl
map_take f (suc n) (x ∷ xs) = ap (λ ys. f x ∷ ys) (map_take f n xs)

pub map_limited : {X Y : Type 0} (f : X → Y) (limit : Option ℕ) (xs : List X) → map f (limited limit xs) ≡ limited limit (map f xs)
map_limited f None xs = refl
map_limited f (Some n) xs = map_take f n xs

pub map_beyond : {X Y : Type 0} (f : X → Y) (limit : Option ℕ) (xs : List X) → is_beyond limit (map f xs) ≡ is_beyond limit xs
map_beyond f None xs = refl
map_beyond f (Some n) xs = ap (nat_lt n) (length-map xs f)

-- ---- an answer fits what was asked

contains_more : (x y : List ℕ) (names : List (List ℕ)) → Contains names y → Contains (x ∷ names) y
contains_more x y names c = (suc c.0, let below = c.1 in omega arith, c.2)

weaker : {X : Type 0} (P Q : X → Type 0) → ((x : X) → P x → Q x) → (xs : List X) → AllByRecursion P xs → AllByRecursion Q xs
weaker P Q f [] h = tt
weaker P Q f (x ∷ xs) h = (f x h.0, weaker P Q f xs h.1)

named_asked : (rows : Rows) (pk : List ℕ) (names : List (List ℕ)) → AllByRecursion (λ (r : StoredRow). Contains names r.rk) (named_rows rows pk names)
named_asked rows pk [] = tt
named_asked rows pk (n ∷ names) =
    let rest = weaker (λ (r : StoredRow). Contains names r.rk) (λ (r : StoredRow). Contains (n ∷ names) r.rk) (λ r c. contains_more n r.rk names c) (named_rows rows pk names) (named_asked rows pk names) in
    elim (row_at rows pk n) as (λ o. AllByRecursion (λ (r : StoredRow). Contains (n ∷ names) r.rk) (cons_option (option_map (shown n) o) (named_rows rows pk names))) [
      | None ↦ rest
      | Some s ↦ ((0, omega arith, refl), rest)
    ]

within_asked : (pk : List ℕ) (range : Range) (rows : Rows) → AllByRecursion (λ (r : StoredRow). IsTrue (is_within range r.rk)) (rows_within rows pk range)
within_asked pk range [] = tt
within_asked pk range (e ∷ rows) =
    let rest = within_asked pk range rows in
    elim (bytes_eq pk e.0.pk && is_within range e.0.rk) as (λ b. (bytes_eq pk e.0.pk && is_within range e.0.rk) ≡ b → AllByRecursion (λ (r : StoredRow). IsTrue (is_within range r.rk)) (map (λ e. shown e.0.rk e.1) (cond b (e ∷ filter (λ e. bytes_eq pk e.0.pk && is_within range e.0.rk) rows) (filter (λ e. bytes_eq pk e.0.pk && is_within range e.0.rk) rows)))) [
      | true ↦ λ t. ((and_parts (bytes_eq pk e.0.pk) (is_within range e.0.rk) t).1, rest)
      | false ↦ λ t. rest
    ] refl

first_asked : {X : Type 0} (P : X → Type 0) (n : ℕ) (xs : List X) → AllByRecursion P xs → AllByRecursion P (take n xs)
first_asked P zero xs h = tt
first_asked P (suc n) [] h = tt
first_asked P (suc n) (x ∷ xs) h = (h.0, first_asked P n xs h.1)

limited_asked : {X : Type 0} (P : X → Type 0) (limit : Option ℕ) (xs : List X) → AllByRecursion P xs → AllByRecursion P (limited limit xs)
limited_asked P None xs h = h
limited_asked P (Some n) xs h = first_asked P n xs h

few : {X : Type 0} (n : ℕ) (xs : List X) → length (take n xs) ≤ n
few zero xs = omega arith
few (suc n) [] = omega arith
few (suc n) (x ∷ xs) = (let rest = few n xs in omega arith)

at_most : {X : Type 0} (limit : Option ℕ) (xs : List X) → AtMost limit (length (limited limit xs))
at_most None xs = tt
at_most (Some n) xs = few n xs

fits_range : (rows : Rows) (pk : List ℕ) (range : Option Range) (found : Found) → found.rows ≡ range_answer rows pk range → found.more ≡ range_has_more rows pk range → FitsRange range found
fits_range rows pk None found r m = (r, m)
fits_range rows pk (Some range) found r m = (
  subst (All (λ (s : StoredRow). IsTrue (is_within range s.rk))) (sym r) (All-from_recursion _ _ (limited_asked _ range.limit (rows_within rows pk range) (within_asked pk range rows))),
  subst (λ (ss : List StoredRow). AtMost range.limit (length ss)) (sym r) (at_most range.limit (rows_within rows pk range)),
)

pub found_fits : (q : RangeQuery) (found : Found) (c : Contents) → IsFound q found c → FitsQuery q found
found_fits q found c is = record {
  named = subst (All (λ (s : StoredRow). Contains q.named s.rk)) (sym is.named) (All-from_recursion _ _ (named_asked c.rows q.pk q.named));
  rows = fits_range c.rows q.pk q.range found is.rows is.more;
}

-- ---- the next partition

any_index : (test : Entry → Bool) (rows : Rows) → list_any test rows ≡ true → (k : ℕ) × (k < length rows) × ((d : Entry) → test (get_or rows k d) ≡ true)
any_index test [] h = absurd cc
any_index test (e ∷ rows) h = elim (test e) as (λ b. test e ≡ b → (b || list_any test rows) ≡ true → (k : ℕ) × (k < length (e ∷ rows)) × ((d : Entry) → test (get_or (e ∷ rows) k d) ≡ true)) [
  | true ↦ λ t h. (0, omega arith, λ d. t)
  | false ↦ λ t h. let rest = any_index test rows h in (suc rest.0, (let l = rest.1 in omega arith), rest.2)
] refl h

pub next_none : (at : PkFrom) (rows : Rows) (p : ℕ) → IsCut (is_passed at) rows p → length rows ≤ p → IsNext at None rows
next_none at rows p cut end pk past = any_none (λ e. bytes_eq pk e.0.pk) rows (λ k d l. go (bytes_eq pk (get_or rows k d).0.pk) k d l refl) where
  go : (b : Bool) (k : ℕ) (d : Entry) → k < length rows → bytes_eq pk (get_or rows k d).0.pk ≡ b → b ≡ false
  go false k d l e = refl
  go true k d l e =
      let passed = cut.1.0 k d (omega arith) (omega arith) in
      let same = ap (is_past at) (text_true pk (get_or rows k d).0.pk e) in
      let no = sym (ap not past) ∙ ap not same ∙ passed in
      absurd cc

pub next_some : (at : PkFrom) (rows : Rows) (p : ℕ) (d : Entry) → are_rising rows ≡ true → IsCut (is_passed at) rows p → p < length rows → IsNext at (Some (get_or rows p d).0.pk) rows
next_some at rows p d h cut l = (past, there, least) where
  past : is_past at (get_or rows p d).0.pk ≡ true
  past = not-false (is_past at (get_or rows p d).0.pk) (cut.1.1 p d (omega arith) l)

  there : has_partition rows (get_or rows p d).0.pk ≡ true
  there = any_at (λ e. bytes_eq (get_or rows p d).0.pk e.0.pk) rows p d l (text_same (get_or rows p d).0.pk)

  tie : (other : List ℕ) (k : ℕ) → other ≡ (get_or rows k d).0.pk → p ≡ k → is_le (text_cmp (get_or rows p d).0.pk other) ≡ true
  tie other k e same = ap is_le (ap (text_cmp (get_or rows p d).0.pk) (e ∙ ap (λ j. (get_or rows j d).0.pk) (sym same)) ∙ tied_itself nat_list_cmp_total (get_or rows p d).0.pk)

  later : (other : List ℕ) (k : ℕ) → other ≡ (get_or rows k d).0.pk → p < k → k < length rows → is_le (text_cmp (get_or rows p d).0.pk other) ≡ true
  later other k e below kl = elim (key_less (get_or rows p d).0 (get_or rows k d).0 (rises rows p k d h below kl)) as (λ _. is_le (text_cmp (get_or rows p d).0.pk other) ≡ true) [
    | inl less ↦ ap is_le (ap (text_cmp (get_or rows p d).0.pk) e ∙ less)
    | inr both ↦ ap is_le (ap (text_cmp (get_or rows p d).0.pk) (e ∙ sym both.0) ∙ tied_itself nat_list_cmp_total (get_or rows p d).0.pk)
  ]

  least : (other : List ℕ) → is_past at other ≡ true → has_partition rows other ≡ true → is_le (text_cmp (get_or rows p d).0.pk other) ≡ true
  least other o has =
      let found = any_index (λ e. bytes_eq other e.0.pk) rows has in
      let e = text_true other (get_or rows found.0 d).0.pk (found.2 d) in
      elim (cases_lt found.0 p) as (λ _. is_le (text_cmp (get_or rows p d).0.pk other) ≡ true) [
        | inl before ↦ (
            let passed = cut.1.0 found.0 d (omega arith) before in
            let same = ap (λ a. not (is_past at a)) e ∙ passed in
            let no = sym (ap not o) ∙ same in
            absurd cc)
        | inr after ↦ elim (cases_eq p found.0) as (λ _. is_le (text_cmp (get_or rows p d).0.pk other) ≡ true) [
          | inl same ↦ tie other found.0 e same
          | inr ne ↦ later other found.0 e (omega (arith, after, ne)) found.1
        ]
      ]
