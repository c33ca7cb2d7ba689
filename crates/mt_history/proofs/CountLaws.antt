-- A caller's entries are numbered one after the other.
use Rattle.std.proofs.Common.{◌≡◌, ◌∙◌, ℕ, zero, suc, ◌+◌, Bool, true, false, cond, List, [], ◌∷◌, ◌++◌, map, filter, length, nat_eq, refl, sym, ap, subst, arith, append_assoc, length-append, Option, Some, None, MatchOption}
use Rattle.std.proofs.lemmas.Bool.{eqb-true}
use Rattle.std.proofs.lemmas.List.{append-nil, map-append}
use Rattle.std.proofs.lemmas.List.Elements.{filter-append}
use Rattle.std.specs.List.{range_with_len, last_or}
use Rattle.mt_history.specs.declared.entry.Entry.{Entry}
use Rattle.mt_history.specs.Window.{Window, begun}
use Rattle.mt_history.specs.Legal.{IsLegal, IsNextNumber, numbers_of}

range_more : (start n : ℕ) → range_with_len start (suc n) ≡ range_with_len start n ++ (start + n) ∷ []
range_more start zero = ap (λ x. x ∷ []) (let e : start ≡ start + 0 = omega arith in e)
range_more start (suc n) =
    ap (λ xs. start ∷ xs)
    (range_more (start + 1) n ∙ ap (λ x. range_with_len (start + 1) n ++ x ∷ []) (let e : (start + 1) + n ≡ start + suc n = omega arith in e))

pub last_more : (o : Option ℕ) (xs : List ℕ) (x : ℕ) → last_or o (xs ++ x ∷ []) ≡ Some x
last_more o [] x = refl
last_more o (y ∷ ys) x = last_more (Some y) ys x

-- the numbers from `start` on, each one more than the one before
abbrev pub CountsFrom : ℕ → List ℕ → Type 0
CountsFrom start ns = ns ≡ range_with_len start (length ns)

counts_more : (start : ℕ) (ns : List ℕ) (n : ℕ) → CountsFrom start ns → n ≡ start + length ns → CountsFrom start (ns ++ n ∷ [])
counts_more start ns n counts is =
    ap (λ xs. xs ++ n ∷ []) counts
    ∙ ap (λ x. range_with_len start (length ns) ++ x ∷ []) is
    ∙ sym (range_more start (length ns))
    ∙ ap (range_with_len start) (let e : suc (length ns) ≡ length (ns ++ n ∷ []) = omega (arith, length-append ns (n ∷ [])) in e)

-- what follows the last of numbers that count from `start`
follows : (start : ℕ) (m : ℕ) (ms : List ℕ) (n : ℕ) (P : Type 0) → CountsFrom start (m ∷ ms) → MatchOption (last_or None (m ∷ ms)) P (λ last. n ≡ last + 1) → n ≡ start + suc (length ms)
follows start m ms n P counts next =
    let last : last_or None (m ∷ ms) ≡ Some (start + length ms) =
    ap (last_or None) (counts ∙ range_more start (length ms)) ∙ last_more None (range_with_len start (length ms)) (start + length ms) in
    let after : n ≡ (start + length ms) + 1 = subst (λ o. MatchOption o P (λ last. n ≡ last + 1)) last next in
    omega (arith, after)

zero_next : (ns : List ℕ) (n first : ℕ) → first ≡ 0 → CountsFrom 0 ns → MatchOption (last_or None ns) (first ≡ 0 → n ≡ 0) (λ last. n ≡ last + 1) → CountsFrom 0 (ns ++ n ∷ [])
zero_next [] n first whole counts next = counts_more 0 [] n counts (next whole)
zero_next (m ∷ ms) n first whole counts next = counts_more 0 (m ∷ ms) n counts (follows 0 m ms n (first ≡ 0 → n ≡ 0) counts next)

-- the numbers rise by one
abbrev pub RiseByOne : List ℕ → Type 0
RiseByOne ns = (start : ℕ) × CountsFrom start ns

rise_next : (ns : List ℕ) (n : ℕ) (P : Type 0) → RiseByOne ns → MatchOption (last_or None ns) P (λ last. n ≡ last + 1) → RiseByOne (ns ++ n ∷ [])
rise_next [] n P rise next = (n, refl)
rise_next (m ∷ ms) n P rise next = (rise.0, counts_more rise.0 (m ∷ ms) n rise.1 (follows rise.0 m ms n P rise.1 next))

-- ---- one entry more

number_if : (b : Bool) (e : Entry) → map (λ (x : Entry). x.number) (cond b (e ∷ []) []) ≡ cond b (e.number ∷ []) []
number_if true e = refl
number_if false e = refl

pub numbers_more : (caller : ℕ) (xs : List Entry) (e : Entry) → numbers_of caller (xs ++ e ∷ []) ≡ numbers_of caller xs ++ cond (nat_eq caller e.caller) (e.number ∷ []) []
numbers_more caller xs e =
    ap (map (λ (x : Entry). x.number)) (filter-append (λ (x : Entry). nat_eq caller x.caller) xs (e ∷ []))
    ∙ map-append (λ (x : Entry). x.number) (filter (λ (x : Entry). nat_eq caller x.caller) xs) (filter (λ (x : Entry). nat_eq caller x.caller) (e ∷ []))
    ∙ ap (λ ns. numbers_of caller xs ++ ns) (number_if (nat_eq caller e.caller) e)

-- what holds of a caller's numbers, and of them with the next one, holds of them with one entry more
keeps : (P : List ℕ → Type 0) (caller : ℕ) (xs : List Entry) (e : Entry) → P (numbers_of caller xs) → (e.caller ≡ caller → P (numbers_of caller xs ++ e.number ∷ [])) → P (numbers_of caller (xs ++ e ∷ []))
keeps P caller xs e holds with_next = subst P (sym (numbers_more caller xs e)) (by_caller (nat_eq caller e.caller) refl) where
  by_caller : (b : Bool) → nat_eq caller e.caller ≡ b → P (numbers_of caller xs ++ cond b (e.number ∷ []) [])
  by_caller true is = with_next (sym (eqb-true caller e.caller is))
  by_caller false is = subst P (sym (append-nil (numbers_of caller xs))) holds

zero_keeps : (w : Window) (caller : ℕ) (xs : List Entry) (e : Entry) → w.first ≡ 0 → IsNextNumber (begun w xs) e → CountsFrom 0 (numbers_of caller xs) → CountsFrom 0 (numbers_of caller (xs ++ e ∷ []))
zero_keeps w caller xs e whole next counts =
    keeps (CountsFrom 0) caller xs e counts
    (λ same. zero_next (numbers_of caller xs) e.number w.first whole counts (subst (λ c. MatchOption (last_or None (numbers_of c xs)) (w.first ≡ 0 → e.number ≡ 0) (λ last. e.number ≡ last + 1)) same next))

rise_keeps : (w : Window) (caller : ℕ) (xs : List Entry) (e : Entry) → IsNextNumber (begun w xs) e → RiseByOne (numbers_of caller xs) → RiseByOne (numbers_of caller (xs ++ e ∷ []))
rise_keeps w caller xs e next rise =
    keeps RiseByOne caller xs e rise
    (λ same. rise_next (numbers_of caller xs) e.number (w.first ≡ 0 → e.number ≡ 0) rise (subst (λ c. MatchOption (last_or None (numbers_of c xs)) (w.first ≡ 0 → e.number ≡ 0) (λ last. e.number ≡ last + 1)) same next))

-- ---- all entries

-- what holds of no entries, and of entries with a legal next one where it holds of them, holds of all of a legal window
pub along : (w : Window) (P : List Entry → Type 0) (more : (xs : List Entry) (e : Entry) (rest : List Entry) → w.entries ≡ xs ++ e ∷ rest → P xs → P (xs ++ e ∷ [])) (before after : List Entry) → w.entries ≡ before ++ after → P before → P w.entries
along w P more before [] is holds = subst P (sym (is ∙ append-nil before)) holds
along w P more before (e ∷ after) is holds = along w P more (before ++ e ∷ []) after (is ∙ sym (append_assoc before (e ∷ []) after)) (more before e after is holds)

pub numbers_from_zero : (w : Window) (caller : ℕ) → IsLegal w → w.first ≡ 0 → CountsFrom 0 (numbers_of caller w.entries)
numbers_from_zero w caller legal whole =
    along w (λ xs. CountsFrom 0 (numbers_of caller xs)) (λ xs e rest is holds. zero_keeps w caller xs e whole (legal xs rest e is).number holds) [] w.entries refl refl

pub numbers_rise : (w : Window) (caller : ℕ) → IsLegal w → RiseByOne (numbers_of caller w.entries)
numbers_rise w caller legal =
    along w (λ xs. RiseByOne (numbers_of caller xs)) (λ xs e rest is holds. rise_keeps w caller xs e (legal xs rest e is).number holds) [] w.entries refl (0, refl)
