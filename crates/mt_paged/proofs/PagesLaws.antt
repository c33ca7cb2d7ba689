-- One page changed, or made into two, in a row of them.
use Rattle.std.proofs.Common.{◌≡◌, ℕ, zero, suc, ◌+◌, ◌<◌, ◌≤◌, List, [], ◌∷◌, ◌++◌, length, take, drop, get_or, set, insert, remove, append_assoc, subst, refl, sym, ap, ◌∙◌, arith}
use Rattle.std.proofs.lemmas.List.{append-nil, drop_all, get_or_read}
use Rattle.std.proofs.lemmas.List.Edits.{length-remove, get_or-remove_below}
use Rattle.mt_paged.specs.Pages.{joined, AreFilled, Paging, Rewrites, Keeps}
use Rattle.std.proofs.lemmas.Grind.{flat_map-append}
use Rattle.mt_mem.specs.Entries.{Row}

pub filled_at : {A : Type 0} (pages : List (List A)) (at : ℕ) (d : List A) → AreFilled pages → at < length pages → 0 < length (get_or pages at d)
filled_at [] at d h l = absurd (omega arith)
filled_at (p ∷ pages) zero d h l = h.0
filled_at (p ∷ pages) (suc at) d h l = filled_at pages at d h.1 (omega arith)

-- pages around one of them
pub around : {A : Type 0} (pages : List (List A)) (at : ℕ) (d : List A) → at < length pages → joined pages ≡ joined (take at pages) ++ (get_or pages at d ++ joined (drop (suc at) pages))
around [] at d l = absurd (omega arith)
around (p ∷ pages) zero d l = refl
around (p ∷ pages) (suc at) d l = ap (λ es. p ++ es) (around pages at d (omega arith)) ∙ sym (append_assoc p (joined (take at pages)) (get_or pages at d ++ joined (drop (suc at) pages)))

pub joined-set : (pages : List (List Row)) (at : ℕ) (p : List Row) → at < length pages → joined (set pages at p) ≡ joined (take at pages) ++ (p ++ joined (drop (suc at) pages))
joined-set [] at p l = absurd (omega arith)
joined-set (x ∷ pages) zero p l = refl
joined-set (x ∷ pages) (suc at) p l = ap (λ es. x ++ es) (joined-set pages at p (omega arith)) ∙ sym (append_assoc x (joined (take at pages)) (p ++ joined (drop (suc at) pages)))

pub joined-split : (pages : List (List Row)) (at : ℕ) (p q : List Row) → at < length pages → joined (insert (set pages at p) (suc at) q) ≡ joined (take at pages) ++ ((p ++ q) ++ joined (drop (suc at) pages))
joined-split [] at p q l = absurd (omega arith)
joined-split (x ∷ pages) zero p q l = sym (append_assoc p q (joined pages))
joined-split (x ∷ pages) (suc at) p q l = ap (λ es. x ++ es) (joined-split pages at p q (omega arith)) ∙ sym (append_assoc x (joined (take at pages)) ((p ++ q) ++ joined (drop (suc at) pages)))

pub joined-remove : (pages : List (List Row)) (at : ℕ) → joined (remove pages at) ≡ joined (take at pages) ++ joined (drop (suc at) pages)
joined-remove pages at = flat_map-append (λ (p : List Row). p) (take at pages) (drop (suc at) pages)

pub joined-join : (pages : List (List Row)) (at : ℕ) (d : List Row) → suc at < length pages → joined (set (remove pages (suc at)) at (get_or pages at d ++ get_or pages (suc at) d)) ≡ joined pages
joined-join [] at d l = absurd (omega arith)
joined-join (x ∷ []) at d l = absurd (omega arith)
joined-join (x ∷ y ∷ pages) zero d l = append_assoc x y (joined pages)
joined-join (x ∷ pages) (suc at) d l = ap (λ es. x ++ es) (joined-join pages at d (omega arith))

pub filled-set : (pages : List (List Row)) (at : ℕ) (p : List Row) → AreFilled pages → 0 < length p → AreFilled (set pages at p)
filled-set [] at p f h = tt
filled-set (x ∷ pages) zero p f h = (h, f.1)
filled-set (x ∷ pages) (suc at) p f h = (f.0, filled-set pages at p f.1 h)

pub filled-insert : (pages : List (List Row)) (at : ℕ) (p : List Row) → AreFilled pages → 0 < length p → AreFilled (insert pages at p)
filled-insert [] zero p f h = (h, tt)
filled-insert [] (suc at) p f h = (h, tt)
filled-insert (x ∷ pages) zero p f h = (h, f)
filled-insert (x ∷ pages) (suc at) p f h = (f.0, filled-insert pages at p f.1 h)

pub filled-remove : (pages : List (List Row)) (at : ℕ) → AreFilled pages → AreFilled (remove pages at)
filled-remove [] zero f = tt
filled-remove [] (suc at) f = tt
filled-remove (x ∷ pages) zero f = f.1
filled-remove (x ∷ pages) (suc at) f = (f.0, filled-remove pages at f.1)

-- a page of the list was changed in its place
pub rewrote_one : (f : List Row → List Row) (s t : Paging) (list : List (List Row)) (at : ℕ) (was now : List Row) → list ≡ s.pages → at < length s.pages → was ≡ get_or list at was → now ≡ f was → t.pages ≡ set list at now → s.spare ≤ t.spare + 1 → Rewrites at (f (get_or s.pages at [])) s t
rewrote_one f s t list at was now same l read made pages spare =
    let long : at < length list = subst (λ ps. at < length ps) (sym same) l in
    record {
      rows = ap joined pages ∙ joined-set list at now long
          ∙ ap (λ p. joined (take at list) ++ (p ++ joined (drop (suc at) list))) (made ∙ ap f (get_or_read list at was long read []))
          ∙ ap (λ ps. joined (take at ps) ++ (f (get_or ps at []) ++ joined (drop (suc at) ps))) same;
      spare = spare;
    }

-- a page of the list was made into two
pub rewrote_two : (f : List Row → List Row) (s t : Paging) (list : List (List Row)) (at : ℕ) (was left right : List Row) → list ≡ s.pages → at < length s.pages → was ≡ get_or list at was → left ++ right ≡ f was → t.pages ≡ insert (set list at left) (at + 1) right → s.spare ≤ t.spare + 1 → Rewrites at (f (get_or s.pages at [])) s t
rewrote_two f s t list at was left right same l read made pages spare =
    let long : at < length list = subst (λ ps. at < length ps) (sym same) l in
    let on : at + 1 ≡ suc at = omega arith in
    record {
      rows = ap joined pages ∙ ap (λ n. joined (insert (set list at left) n right)) on ∙ joined-split list at left right long
          ∙ ap (λ p. joined (take at list) ++ (p ++ joined (drop (suc at) list))) (made ∙ ap f (get_or_read list at was long read []))
          ∙ ap (λ ps. joined (take at ps) ++ (f (get_or ps at []) ++ joined (drop (suc at) ps))) same;
      spare = spare;
    }

-- a page of the list and the next became one
pub joined_two : (s t : Paging) (list : List (List Row)) (at : ℕ) (was next now : List Row) → list ≡ s.pages → at + 1 < length s.pages → next ≡ get_or list (at + 1) [] → was ≡ get_or (remove list (at + 1)) at was → now ≡ was ++ next → t.pages ≡ set (remove list (at + 1)) at now → s.spare ≤ t.spare → Keeps s t
joined_two s t list at was next now same l second first made pages spare =
    let long : suc at < length list = (let n = ap length same in omega (arith, n, l)) in
    let on : at + 1 ≡ suc at = omega arith in
    let short : at < length (remove list (suc at)) = (let n = length-remove list (suc at) long in omega arith) in
    let first_is : was ≡ get_or list at [] = get_or_read (remove list (suc at)) at was short (first ∙ ap (λ n. get_or (remove list n) at was) on) [] ∙ get_or-remove_below list (suc at) [] at (omega arith) long in
    record {
      rows = ap joined pages ∙ ap (λ n. joined (set (remove list n) at now)) on
          ∙ ap (λ p. joined (set (remove list (suc at)) at p)) (made ∙ (λ i. first_is i ++ (second ∙ ap (λ n. get_or list n []) on) i))
          ∙ joined-join list at [] long ∙ ap joined same;
      spare = spare;
    }

pub none_left : (page : List Row) (place : ℕ) → length page ≡ 1 → place < length page → remove page place ≡ []
none_left [] place one l = absurd (omega (arith, one))
none_left (e ∷ []) zero one l = refl
none_left (e ∷ []) (suc place) one l = absurd (omega arith)
none_left (e ∷ f ∷ page) place one l = absurd (omega (arith, one))

pub still_empty : (pool : List (List Row)) (n : ℕ) → ((k : ℕ) (d : List Row) → k < length pool → get_or pool k d ≡ []) → (k : ℕ) (d : List Row) → k < length (take n pool) → get_or (take n pool) k d ≡ []
still_empty [] zero h k d l = absurd (omega arith)
still_empty [] (suc n) h k d l = absurd (omega arith)
still_empty (p ∷ pool) zero h k d l = absurd (omega arith)
still_empty (p ∷ pool) (suc n) h zero d l = h 0 d (omega arith)
still_empty (p ∷ pool) (suc n) h (suc k) d l = still_empty pool n (λ j e m. h (suc j) e (omega arith)) k d (omega arith)

-- a row behind all others of a page
insert_end : (page : List Row) (row : Row) → insert page (length page) row ≡ page ++ row ∷ []
insert_end [] row = refl
insert_end (r ∷ page) row = ap (λ rs. r ∷ rs) (insert_end page row)

-- a row behind all others of the last page is behind all others
pub pushed : (s t : Paging) (at : ℕ) (row : Row) → at + 1 ≡ length s.pages → Rewrites at (insert (get_or s.pages at []) (length (get_or s.pages at [])) row) s t → joined t.pages ≡ joined s.pages ++ row ∷ []
pushed s t at row last r =
    r.rows
    ∙ (λ i. front ++ (insert_end page row i ++ joined (none i)))
    ∙ ap (λ es. front ++ es) (append-nil (page ++ row ∷ []))
    ∙ sym (append_assoc front page (row ∷ []))
    ∙ ap (λ es. es ++ row ∷ []) (sym (around s.pages at [] (omega arith) ∙ (λ i. front ++ (page ++ joined (none i))) ∙ ap (λ es. front ++ es) (append-nil page))) where
      page : List Row
      page = get_or s.pages at []

      front : List Row
      front = joined (take at s.pages)

      none : drop (suc at) s.pages ≡ []
      none = drop_all (suc at) s.pages (omega arith)
