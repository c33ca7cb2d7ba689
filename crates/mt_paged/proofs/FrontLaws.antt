-- Where the first rows of pages end that pass a test of keys.
use Rattle.std.proofs.Common.{◌≡◌, ◌≢◌, ℕ, zero, suc, ◌-◌, ◌<◌, ◌≤◌, Bool, true, false, List, [], ◌∷◌, ◌++◌, length, take, drop, get_or, refl, sym, ap, ◌∙◌, subst, inl, inr, arith, append_assoc, drop-cons, Less}
use Rattle.std.proofs.lemmas.Bool.{and_parts, cases_eq}
use Rattle.std.proofs.lemmas.List.{length-drop, take-append-drop}
use Rattle.std.specs.List.Sorted.{IsPartitionedBy, IsPartitionPoint}
use Rattle.std.specs.Ordering.{is_lt}
use Rattle.std.specs.FinMap.Entries.{below_all}
use Rattle.mt_model.specs.declared.key.Key.{Key}
use Rattle.mt_model.specs.Key.{key_cmp}
use Rattle.mt_chain.specs.declared.row.Stored.{Stored}
use Rattle.mt_chain.specs.Rows.{Rows, are_rising}
use Rattle.mt_chain.specs.Places.{IsCut}
use Rattle.mt_chain.proofs.OrderLaws.{lt_less, FallsByKey}
use Rattle.mt_chain.proofs.SearchLaws.{rest_rising, head_below}
use Rattle.mt_mem.proofs.EditLaws.{last_rising}
use Rattle.mt_paged.specs.Pages.{joined, AreFilled}
use Rattle.mt_paged.specs.Fronts.{begins_in, AllPass, NonePasses, IsLastIn, IsSpot}
use Rattle.mt_paged.proofs.PagesLaws.{around, filled_at}

abbrev Entry : Type 0
Entry = Key × Stored

pub below_middle : (x : Key) (A B : Rows) (e : Entry) → below_all key_cmp x (A ++ e ∷ B) ≡ true → key_cmp x e.0 ≡ Less
below_middle x [] B e h = lt_less _ (and_parts (is_lt (key_cmp x e.0)) (below_all key_cmp x B) h).0
below_middle x (a ∷ A) B e h = below_middle x A B e (and_parts (is_lt (key_cmp x a.0)) (below_all key_cmp x (A ++ e ∷ B)) h).1

module _ (test : Key → Bool) (falls : FallsByKey test) where
  pub fails_on : (a b : Key) → key_cmp a b ≡ Less → test a ≡ false → test b ≡ false
  fails_on a b less fails = go (test b) refl where
    go : (t : Bool) → test b ≡ t → t ≡ false
    go true e = sym (falls a b less e) ∙ fails
    go false e = refl

  all_before : (A B : Rows) (e : Entry) → are_rising (A ++ e ∷ B) ≡ true → test e.0 ≡ true → AllPass test A
  all_before [] B e h passes = tt
  all_before (a ∷ A) B e h passes = (falls a.0 e.0 (below_middle a.0 A B e (head_below a (A ++ e ∷ B) h)) passes, all_before A B e (rest_rising a (A ++ e ∷ B) h) passes)

  all_later : (x : Key) (B : Rows) → test x ≡ false → below_all key_cmp x B ≡ true → NonePasses test B
  all_later x [] fails h = tt
  all_later x (e ∷ B) fails h = let p = and_parts (is_lt (key_cmp x e.0)) (below_all key_cmp x B) h in (fails_on x e.0 (lt_less _ p.0) fails, all_later x B fails p.1)

  last_fail : (A B : Rows) → NonePasses test (A ++ B) → NonePasses test B
  last_fail [] B h = h
  last_fail (a ∷ A) B h = last_fail A B h.1

  before_page : (A p B : Rows) → 0 < length p → are_rising (A ++ (p ++ B)) ≡ true → begins_in test p ≡ true → AllPass test A
  before_page A [] B l h passes = absurd (omega arith)
  before_page A (e ∷ p) B l h passes = all_before A (p ++ B) e h passes

  from_page : (p B : Rows) → 0 < length p → are_rising (p ++ B) ≡ true → begins_in test p ≡ false → NonePasses test (p ++ B)
  from_page [] B l h fails = absurd (omega arith)
  from_page (e ∷ p) B l h fails = (fails, all_later e.0 (p ++ B) fails (head_below e (p ++ B) h))

  -- before a page whose first key passes there is none whose first key fails
  go_on : (e : Entry) (p : Rows) (pages : List Rows) (j : ℕ) (d : Rows) → AreFilled pages → are_rising (e ∷ p ++ joined pages) ≡ true → j < length pages → begins_in test (get_or pages j d) ≡ true → test e.0 ≡ true
  go_on e p pages j d f h l passes = pass_first (e ∷ p) (before_page (e ∷ p ++ joined (take j pages)) (get_or pages j d) (joined (drop (suc j) pages)) (filled_at pages j d f l)
      (ap are_rising (append_assoc (e ∷ p) (joined (take j pages)) (get_or pages j d ++ joined (drop (suc j) pages)) ∙ ap (λ es. e ∷ p ++ es) (sym (around pages j d l))) ∙ h) passes) where
        pass_first : (A : Rows) → AllPass test (e ∷ p ++ joined (take j pages)) → test e.0 ≡ true
        pass_first A h = h.0

  pub pages_parted : (pages : List Rows) → AreFilled pages → are_rising (joined pages) ≡ true → IsPartitionedBy (begins_in test) pages
  pages_parted pages f h i j d le jl passes = elim (cases_eq i j) as (λ _. begins_in test (get_or pages i d) ≡ true) [
    | inl same ↦ ap (λ k. begins_in test (get_or pages k d)) same ∙ passes
    | inr ne ↦ go pages i j f h (omega (arith, ne)) jl passes
  ] where
    go : (pages : List Rows) (i j : ℕ) → AreFilled pages → are_rising (joined pages) ≡ true → i < j → j < length pages → begins_in test (get_or pages j d) ≡ true → begins_in test (get_or pages i d) ≡ true
    go [] i j f h lt jl passes = absurd (omega arith)
    go (p ∷ pages) i zero f h lt jl passes = absurd (omega arith)
    go (p ∷ pages) (suc i) (suc j) f h lt jl passes = go pages i j f.1 (last_rising p (joined pages) h) (omega arith) (omega arith) passes
    go ([] ∷ pages) zero (suc j) f h lt jl passes = refl
    go ((e ∷ p) ∷ pages) zero (suc j) f h lt jl passes = go_on e p pages j d f.1 h (omega arith) passes

  -- the last page whose first key passes, or the first page
  pub last_from_cut : (pages : List Rows) (n : ℕ) → AreFilled pages → are_rising (joined pages) ≡ true → 0 < length pages → n ≤ length pages
      → IsPartitionPoint (λ (p : Rows). begins_in test p ≡ true) (λ (p : Rows). begins_in test p ≡ false) pages n → IsLastIn test pages (n - 1)
  last_from_cut [] n f h some l cut = absurd (omega arith)
  last_from_cut (p ∷ pages) zero f h some l cut = record {
    within = omega arith;
    begins = inl refl;
    before = tt;
    after = last_fail p (joined pages) (from_page p (joined pages) f.0 h (cut.1 0 [] (omega arith) (omega arith)));
  }
  last_from_cut (p ∷ pages) (suc m) f h some l cut = subst (IsLastIn test (p ∷ pages)) (let e : m ≡ suc m - 1 = omega arith in e) (record {
    within = omega arith;
    begins = inr (cut.0 m [] (omega arith) (omega arith));
    before = before_page (joined (take m all)) (get_or all m []) (joined (drop (suc m) all)) (filled_at all m [] f (omega arith)) parts (cut.0 m [] (omega arith) (omega arith));
    after = rest (drop (suc m) all) refl;
  }) where
    all : List Rows
    all = p ∷ pages

    parts : are_rising (joined (take m all) ++ (get_or all m [] ++ joined (drop (suc m) all))) ≡ true
    parts = ap are_rising (sym (around all m [] (omega arith))) ∙ h

    rising : are_rising (joined (drop (suc m) all)) ≡ true
    rising = last_rising (get_or all m []) (joined (drop (suc m) all)) (last_rising (joined (take m all)) (get_or all m [] ++ joined (drop (suc m) all)) parts)

    rest : (qs : List Rows) → drop (suc m) all ≡ qs → NonePasses test (joined (drop (suc m) all))
    rest [] e = subst (λ qs. NonePasses test (joined qs)) (sym e) tt
    rest (q ∷ qs) e =
        let long : suc m < length all = (let a = length-drop (suc m) all in let b = ap length e in omega (arith, a, b)) in
        let first : drop (suc m) all ≡ get_or all (suc m) [] ∷ drop (suc (suc m)) all = drop-cons all (suc m) [] long in
        let up : are_rising (get_or all (suc m) [] ++ joined (drop (suc (suc m)) all)) ≡ true = ap (λ qs. are_rising (joined qs)) (sym first) ∙ rising in
        subst (λ qs. NonePasses test (joined qs)) (sym first) (from_page (get_or all (suc m) []) (joined (drop (suc (suc m)) all)) (filled_at all (suc m) [] f long) up (cut.1 (suc m) [] (omega arith) long))

-- ---- the place in the page

cut_parts : (test : Key → Bool) (rows : Rows) (at : ℕ) → IsCut test rows at → AllPass test (take at rows) × NonePasses test (drop at rows)
cut_parts test [] zero cut = (tt, tt)
cut_parts test [] (suc at) cut = (tt, tt)
cut_parts test (e ∷ rows) zero cut = (tt, (cut.1.1 0 e (omega arith) (omega arith), (cut_parts test rows zero (omega arith, ((λ k d z l. absurd (omega arith)), (λ k d z l. cut.1.1 (suc k) d (omega arith) (omega arith))))).1))
cut_parts test (e ∷ rows) (suc at) cut =
    let r = cut_parts test rows at (omega (arith, cut.0), ((λ k d z l. cut.1.0 (suc k) d (omega arith) (omega arith)), (λ k d z l. cut.1.1 (suc k) d (omega arith) (omega arith)))) in
    ((cut.1.0 0 e (omega arith) (omega arith), r.0), r.1)

pass_both : (test : Key → Bool) (A B : Rows) → AllPass test A → AllPass test B → AllPass test (A ++ B)
pass_both test [] B a b = b
pass_both test (e ∷ A) B a b = (a.0, pass_both test A B a.1 b)

fail_both : (test : Key → Bool) (A B : Rows) → NonePasses test A → NonePasses test B → NonePasses test (A ++ B)
fail_both test [] B a b = b
fail_both test (e ∷ A) B a b = (a.0, fail_both test A B a.1 b)

-- where a test ends in its page it ends in the whole
pub spot_found : (test : Key → Bool) (pages : List Rows) (at place : ℕ) → IsLastIn test pages at → IsCut test (get_or pages at []) place → IsSpot test pages at place
spot_found test pages at place last cut =
    let page = get_or pages at [] in
    let parts = cut_parts test page place cut in
    record {
      within = last.within;
      whole = around pages at [] last.within
          ∙ ap (λ (p : Rows). joined (take at pages) ++ (p ++ joined (drop (suc at) pages))) (sym (take-append-drop place page))
          ∙ ap (λ (es : Rows). joined (take at pages) ++ es) (append_assoc (take place page) (drop place page) (joined (drop (suc at) pages)))
          ∙ sym (append_assoc (joined (take at pages)) (take place page) (drop place page ++ joined (drop (suc at) pages)));
      before = pass_both test (joined (take at pages)) (take place page) last.before parts.0;
      from = fail_both test (drop place page) (joined (drop (suc at) pages)) parts.1 last.after;
    }
