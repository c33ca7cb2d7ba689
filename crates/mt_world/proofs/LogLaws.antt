-- The numbers of callers' next entries, as entries come.
use Rattle.std.proofs.Common.{◌≡◌, ◌∙◌, ℕ, zero, suc, ◌+◌, ◌≤◌, Bool, true, false, cond, List, [], ◌∷◌, ◌++◌, length, nat_eq, refl, sym, ap, subst, arith, All, length-append, Option, Some, None, ◌==◌, nat_lt, is_some, inl, inr, ◌^◌}
use Rattle.std.specs.Prelude.{filter, nat_le, ◌<◌, ◌&&◌}
use Rattle.std.specs.declared.cmp.Ordering.TheVariants.{Less, Greater}
use Rattle.std.specs.Ordering.{nat_cmp, is_eq}
use Rattle.std.specs.Map.{count_at}
use Rattle.std.proofs.lemmas.Bool.{eqb-true, cases_eq}
use Rattle.std.proofs.lemmas.Bool.Decides.{nat_tests}
use Rattle.std.proofs.lemmas.List.Elements.{All-append, filter-append}
use Rattle.std.proofs.lemmas.List.{append-nil}
use Rattle.std.specs.List.{last_or}
use Rattle.mt_history.specs.declared.entry.Entry.{Entry}
use Rattle.mt_history.specs.Legal.{numbers_of}
use Rattle.mt_history.proofs.CountLaws.{last_more, numbers_more}
use Rattle.mt_history.specs.Kept.{Kept, has_room}
use Rattle.mt_history.specs.Weight.{total_weight}
use Rattle.mt_world.specs.Worlds.{after_last, number_due, number_in, next_number, is_fault, faults_in}
use Rattle.mt_world.specs.Logs.{Log, IsLog, IsTagged, raised, one_if, number_of_next, faults_with}

-- what holds of one holds of the list of it
pub only_one : {A : Type 0} (P : A → Type 0) (x : A) → P x → All P (x ∷ [])
only_one P x h zero d l = h
only_one P x h (suc k) d l = absurd (omega arith)

-- one entry more raises the number of its caller, and of no other
pub due_more : (xs : List Entry) (e : Entry) (caller : ℕ) → number_due (xs ++ e ∷ []) caller ≡ cond (nat_eq caller e.caller) (e.number + 1) (number_due xs caller)
due_more xs e caller = ap (λ ns. after_last (last_or None ns)) (numbers_more caller xs e) ∙ by (nat_eq caller e.caller) where
  by : (b : Bool) → after_last (last_or None (numbers_of caller xs ++ cond b (e.number ∷ []) [])) ≡ cond b (e.number + 1) (number_due xs caller)
  by true = ap after_last (last_more None (numbers_of caller xs) e.number)
  by false = ap (λ ns. after_last (last_or None ns)) (append-nil (numbers_of caller xs))

-- a caller is at its own number
same_test : (a b : ℕ) → is_eq (nat_cmp a b) ≡ nat_eq b a
same_test a b = elim (cases_eq b a) as (λ _. is_eq (nat_cmp a b) ≡ nat_eq b a) [
  | inl e ↦ (let lt : nat_lt a b ≡ false = grind (arith, nat_tests) in let eq : a == b ≡ true = grind (arith, nat_tests) in let n : nat_eq b a ≡ true = grind (arith, nat_tests) in rw (lt, eq, n) refl)
  | inr ne ↦ (let eq : a == b ≡ false = grind (arith, nat_tests) in let n : nat_eq b a ≡ false = grind (arith, nat_tests) in rw (eq, n) (below (nat_lt a b)))
] where
  below : (x : Bool) → is_eq (cond x Less Greater) ≡ false
  below true = refl
  below false = refl

-- the numbers with the caller's raised
pub numbers_raised : (before numbers : List (ℕ × ℕ)) (caller n : ℕ) → n ≡ next_number before caller
    → ((q : ℕ) → number_in numbers q ≡ cond (is_eq (nat_cmp caller q)) (Some (n + 1)) (number_in before q))
    → (q : ℕ) → next_number numbers q ≡ number_of_next before caller q
numbers_raised before numbers caller n number raised q =
    ap (λ o. count_at (λ _. o) q) (raised q) ∙ ap (λ b. count_at (λ _. cond b (Some (n + 1)) (number_in before q)) q) (same_test caller q) ∙ by (nat_eq q caller) refl where
      by : (b : Bool) → nat_eq q caller ≡ b → count_at (λ _. cond b (Some (n + 1)) (number_in before q)) q ≡ next_number before q + one_if b
      by true e = (let same : next_number before q ≡ n = ap (next_number before) (eqb-true q caller e) ∙ sym number in omega (arith, same))
      by false e = omega arith

-- where the numbers are those that are due, they are so with an entry more
pub due_step : (numbers : List (ℕ × ℕ)) (entries : List Entry) (e : Entry) → ((q : ℕ) → next_number numbers q ≡ number_due entries q) → e.number ≡ next_number numbers e.caller
    → (q : ℕ) → number_of_next numbers e.caller q ≡ number_due (entries ++ e ∷ []) q
due_step numbers entries e due number q = by (nat_eq q e.caller) refl ∙ sym (due_more entries e q) where
  by : (b : Bool) → nat_eq q e.caller ≡ b → next_number numbers q + one_if b ≡ cond b (e.number + 1) (number_due entries q)
  by true is = (let same : next_number numbers q ≡ e.number = ap (next_number numbers) (eqb-true q e.caller is) ∙ sym number in omega (arith, same))
  by false is = (let same = due q in omega (arith, same))

-- no number passes the count of entries
pub few_more : (l : Log) (e : Entry) → IsLog l → e.number ≡ next_number l.numbers e.caller → (q : ℕ) → number_due (l.history.entries ++ e ∷ []) q ≤ length (l.history.entries ++ e ∷ [])
few_more l e log number q = subst (λ n. n ≤ length (l.history.entries ++ e ∷ [])) (sym (due_more l.history.entries e q)) (by (nat_eq q e.caller)) where
  longer : length (l.history.entries ++ e ∷ []) ≡ length l.history.entries + 1
  longer = length-append l.history.entries (e ∷ [])

  by : (b : Bool) → cond b (e.number + 1) (number_due l.history.entries q) ≤ length (l.history.entries ++ e ∷ [])
  by true = (let few = log.few e.caller in let due = log.due e.caller in omega (arith, longer, number, due, few))
  by false = (let few = log.few q in omega (arith, longer, few))

-- ---- counts of faults

pub faults_more : (xs : List Entry) (e : Entry) → faults_in (xs ++ e ∷ []) ≡ faults_in xs + cond (is_fault e.what) 1 0
faults_more xs e = ap length (filter-append (λ (x : Entry). is_fault x.what) xs (e ∷ [])) ∙ length-append (filter (λ (x : Entry). is_fault x.what) xs) _ ∙ ap (λ n. faults_in xs + n) (by (is_fault e.what)) where
  by : (b : Bool) → length (cond b (e ∷ []) []) ≡ cond b 1 0
  by true = refl
  by false = refl

pub faults_few : (xs : List Entry) → faults_in xs ≤ length xs
faults_few [] = omega arith
faults_few (x ∷ xs) = by (is_fault x.what) (faults_few xs) where
  by : (b : Bool) → faults_in xs ≤ length xs → length (cond b (x ∷ filter (λ (y : Entry). is_fault y.what) xs) (filter (λ (y : Entry). is_fault y.what) xs)) ≤ suc (length xs)
  by true few = omega (arith, few)
  by false few = omega (arith, few)

-- a count that is that of a short list does not come to its end
pub counted_with : (xs : List Entry) (e : Entry) (count : ℕ) → count ≡ faults_in xs → length xs ≤ 1048576 → faults_with e.what count ≡ faults_in (xs ++ e ∷ [])
counted_with xs e count is short = by (is_fault e.what) ∙ sym (faults_more xs e) where
  by : (b : Bool) → cond b (raised count) count ≡ faults_in xs + cond b 1 0
  by true = (let few = faults_few xs in omega (arith, is, short, few))
  by false = omega (arith, is)

-- ---- a log with one entry more

-- where there is room for an entry, there are fewer than the limit
pub room_few : (h : Kept) (n : ℕ) → has_room h n ≡ true → length h.entries ≤ h.limit
room_few h n room = by (nat_lt (length h.entries) h.limit) refl room where
  by : (b : Bool) → nat_lt (length h.entries) h.limit ≡ b → b && nat_le (total_weight h.entries + n) (2 ^ 30) ≡ true → length h.entries ≤ h.limit
  by true e x = (let lt : length h.entries < h.limit = grind (arith, nat_tests) in omega (arith, lt))
  by false e x = absurd cc

pub log_more : (l : Log) (h : Kept) (numbers : List (ℕ × ℕ)) (count : ℕ) (e : Entry) → IsLog l → length l.history.entries ≤ l.history.limit → e.number ≡ next_number l.numbers e.caller → IsTagged e.what
    → ((q : ℕ) → next_number numbers q ≡ number_of_next l.numbers e.caller q) → count ≡ faults_with e.what l.fault_entries
    → h.first ≡ l.history.first → h.entries ≡ l.history.entries ++ e ∷ [] → h.limit ≡ l.history.limit
    → IsLog (record { history = h; numbers = numbers; fault_entries = count })
log_more l h numbers count e log within number tagged raised counted first entries limit = record {
  whole = first ∙ log.whole;
  due = λ q. raised q ∙ due_step l.numbers l.history.entries e log.due number q ∙ ap (λ es. number_due es q) (sym entries);
  few = λ q. subst (λ es. number_due es q ≤ length es) (sym entries) (few_more l e log number q);
  fault_entries = counted ∙ counted_with l.history.entries e l.fault_entries log.fault_entries (let b = log.bounded in omega (arith, within, b)) ∙ ap faults_in (sym entries);
  tagged = subst (All (λ (x : Entry). IsTagged x.what)) (sym entries) (All-append (λ (x : Entry). IsTagged x.what) l.history.entries (e ∷ []) log.tagged (only_one (λ (x : Entry). IsTagged x.what) e tagged));
  bounded = subst (λ n. n ≤ 1048576) (sym limit) log.bounded;
}

-- a number in hand for a caller without entries says no more than its absence
pub held_same : (m n : List (ℕ × ℕ)) (caller : ℕ) → is_some (number_in m caller) ≡ false
    → ((q : ℕ) → number_in n q ≡ cond (is_eq (nat_cmp caller q)) (Some 0) (number_in m q))
    → (q : ℕ) → count_at (number_in n) q ≡ count_at (number_in m) q
held_same m n caller none held q = ap (λ o. count_at (λ _. o) q) (held q) ∙ by (is_eq (nat_cmp caller q)) (same_test caller q) where
  absent : (o : Option ℕ) → is_some o ≡ false → o ≡ None
  absent None e = refl
  absent (Some x) e = absurd cc

  by : (b : Bool) → b ≡ nat_eq q caller → count_at (λ _. cond b (Some 0) (number_in m q)) q ≡ count_at (number_in m) q
  by false e = refl
  by true e = ap (λ o. count_at (λ _. o) q) (sym (ap (number_in m) (eqb-true q caller (sym e)) ∙ absent (number_in m caller) none))
