-- Steps of filling and spending, one after another.
use Rattle.std.proofs.Common.{◌≡◌, ◌≢◌, ℕ, ◌+◌, ◌-◌, ◌≤◌, List, [], ◌++◌, length, take, drop, Option, Some, None, Ok, Err, refl, sym, ap, ◌∙◌, arith, append_assoc, append-nil, length-append, subst}
use Rattle.std.specs.Prelude.{IfSome}
use Rattle.std.proofs.lemmas.List.{take-append-le, take-append-drop}
use Rattle.std.proofs.Math.Seq.{take-append_seam}
use Rattle.mt_io.specs.Ends.{Input, Rose, before_known}
use Rattle.mt_io.proofs.Pieces.{before_before, before_nothing, if_before, told, map_told}
use Rattle.mt_http_in.specs.declared.reader.Halt.{Halt}
use Rattle.mt_http_in.specs.declared.reader.Halt.TheVariants.{ReadFault, NoMemory, Refused}
use Rattle.mt_http_in.specs.declared.Code.{Code}
use Rattle.mt_http_in.specs.Reading.{ahead, Later, Filled, Fills, Spent, Failed, Ended, ReadAs, Reads}
use Rattle.mt_http_in.specs.Filling.{Reached}

pub later_none : (s : Input) → Later s s
later_none s = record { number = refl; calls = omega arith; faults = omega arith }

pub later_then : (s t u : Input) → Later s t → Later t u → Later s u
later_then s t u x y =
    let a : s.calls ≤ t.calls = x.calls in
    let b : t.calls ≤ u.calls = y.calls in
    let c : s.faults ≤ t.faults = x.faults in
    let d : t.faults ≤ u.faults = y.faults in
    record { number = y.number ∙ x.number; calls = omega (arith, a, b); faults = omega (arith, c, d) }

rose_after : (s t u : ℕ) → s ≤ t → Rose t u → Rose s u
rose_after s t u le r = omega (arith, le, r)

-- what stands at the front of more bytes stood there before, if it is short enough
pub front : (bytes more p rest : List ℕ) → bytes ++ more ≡ p ++ rest → length p ≤ length bytes → bytes ≡ p ++ drop (length p) bytes
front bytes more p rest e le =
    let t : take (length p) bytes ≡ p = sym (take-append-le (length p) bytes more le) ∙ ap (take (length p)) e ∙ take-append_seam p rest in
    sym (take-append-drop (length p) bytes) ∙ ap (λ v. v ++ drop (length p) bytes) t

not_less : (a b : ℕ) → (b ≤ a → ⊥) → a + 1 ≤ b
not_less a b small = grind (arith, small)

-- ---- filling, before a unit is spent

module _ (U : List ℕ → Type 0) where
  pub reached_none : (kept : List ℕ) (s : Input) → Reached U kept s kept s
  reached_none kept s = record {
    later = later_none s;
    more = [];
    grew = sym (append-nil kept);
    left = sym (before_nothing s.left);
    due = 0;
    within = omega arith;
    paid = omega arith;
    needed = λ bytes rest u e. omega arith;
  }

  pub reached_same : (kept : List ℕ) (s : Input) (kept' : List ℕ) (t : Input) → Reached U kept s kept' t → ahead kept s ≡ ahead kept' t
  reached_same kept s kept' t r = ap (before_known kept) r.left ∙ before_before kept r.more t.left ∙ ap (λ (v : List ℕ). before_known v t.left) (sym r.grew)

  sizes : (kept : List ℕ) (s : Input) (kept' : List ℕ) (t : Input) → (r : Reached U kept s kept' t) → length kept' ≡ length kept + length r.more
  sizes kept s kept' t r = ap length r.grew ∙ length-append kept r.more

  pub reached_fill : (kept : List ℕ) (s : Input) (kept' : List ℕ) (t : Input) (n : ℕ) (kept'' : List ℕ) (u : Input) → Reached U kept s kept' t → ((bytes rest : List ℕ) → U bytes → kept' ≡ bytes ++ rest → ⊥)
      → Fills kept' t (Ok n) kept'' u → n ≢ 0 → Reached U kept s kept'' u
  reached_fill kept s kept' t n kept'' u r none f some =
      let x : Filled kept' t n kept'' u = f.filled in
      let long : length kept'' ≡ length kept' + n = ap length x.grew ∙ length-append kept' x.got ∙ ap (λ k. length kept' + k) x.long in
      let old : length kept' ≡ length kept + length r.more = sizes kept s kept' t r in
      let once : u.calls ≡ t.calls + 1 = x.once in
      let paid : t.calls ≤ s.calls + (r.due - length kept) = r.paid in
      let within : r.due ≤ length kept' = r.within in
      let due : ℕ = length kept' + 1 in
      record {
        later = later_then s t u r.later f.later;
        more = r.more ++ x.got;
        grew = x.grew ∙ ap (λ v. v ++ x.got) r.grew ∙ append_assoc kept r.more x.got;
        left = r.left ∙ ap (before_known r.more) x.left ∙ before_before r.more x.got u.left;
        due = length kept' + 1;
        within = omega (arith, long, some);
        paid = omega (arith, once, paid, within, old);
        needed = λ bytes rest whole e. by_size kept' x.got bytes rest whole (sym x.grew ∙ e) none (length kept');
      }
    where
      by_size : (a got bytes rest : List ℕ) → U bytes → a ++ got ≡ bytes ++ rest → ((p q : List ℕ) → U p → a ≡ p ++ q → ⊥) → (k : ℕ) → length a + 1 ≤ length bytes
      by_size a got bytes rest whole e none k = not_less (length a) (length bytes) (λ le. none bytes (drop (length bytes) a) whole (front a got bytes rest e le))

  pub reached_spent : (kept : List ℕ) (s : Input) (kept' : List ℕ) (t : Input) (bytes kept'' : List ℕ) → Reached U kept s kept' t → U bytes → kept' ≡ bytes ++ kept'' → Spent kept s bytes kept'' t
  reached_spent kept s kept' t bytes kept'' r whole e =
      let old : length kept' ≡ length kept + length r.more = sizes kept s kept' t r in
      let new : length kept' ≡ length bytes + length kept'' = ap length e ∙ length-append bytes kept'' in
      let paid : t.calls ≤ s.calls + (r.due - length kept) = r.paid in
      let due : r.due ≤ length bytes = r.needed bytes kept'' whole e in
      record {
        same = reached_same kept s kept' t r ∙ ap (λ (v : List ℕ). before_known v t.left) e ∙ sym (before_before bytes kept'' t.left);
        within = omega (arith, old, new);
        paid = omega (arith, paid, due);
      }

  pub reached_ended : (kept : List ℕ) (s : Input) (kept' : List ℕ) (t : Input) → Reached U kept s kept' t → (k : ℕ) → k ≤ t.calls + 1 → IfSome s.left (λ xs. k ≤ s.calls + length xs + 1)
  reached_ended kept s kept' t r k le =
      let P : List ℕ → Type 0 = λ xs. k ≤ s.calls + length xs + 1 in
      let old : length kept' ≡ length kept + length r.more = sizes kept s kept' t r in
      let paid : t.calls ≤ s.calls + (r.due - length kept) = r.paid in
      let within : r.due ≤ length kept' = r.within in
      subst (λ (o : Option (List ℕ)). IfSome o P) (sym r.left) (if_before P r.more t.left (told (λ xs. P (r.more ++ xs)) t.left (λ xs. omega (arith, le, paid, within, old, length-append r.more xs))))

  -- a refusal where no read is made
  pub ended_now : (kept : List ℕ) (s : Input) (kept' : List ℕ) (t : Input) → Reached U kept s kept' t → Ended s t
  ended_now kept s kept' t r = reached_ended kept s kept' t r t.calls (omega arith)

  -- what holds of the bytes that are kept, whatever follows, holds of what is known
  pub known_now : (P : List ℕ → Type 0) (kept : List ℕ) (s : Input) (kept' : List ℕ) (t : Input) → Reached U kept s kept' t → ((more : List ℕ) → P (kept' ++ more)) → IfSome (ahead kept s) P
  known_now P kept s kept' t r all = subst (λ (o : Option (List ℕ)). IfSome o P) (sym (reached_same kept s kept' t r)) (if_before P kept' t.left (told (λ xs. P (kept' ++ xs)) t.left all))

-- ---- one part after another

pub spent_then : (a : List ℕ) (s : Input) (p b : List ℕ) (t : Input) (q c : List ℕ) (u : Input) → Spent a s p b t → Spent b t q c u → Spent a s (p ++ q) c u
spent_then a s p b t q c u x y =
    let size : length (p ++ q) ≡ length p + length q = length-append p q in
    let f : length a ≤ length p + length b = x.within in
    let g : length b ≤ length q + length c = y.within in
    let v : t.calls ≤ s.calls + (length p - length a) = x.paid in
    let w : u.calls ≤ t.calls + (length q - length b) = y.paid in
    record {
      same = x.same ∙ ap (before_known p) y.same ∙ before_before p q (ahead c u);
      within = omega (arith, size, f, g);
      paid = omega (arith, size, f, v, w);
    }

pub failed_then : (a : List ℕ) (s : Input) (p b : List ℕ) (t : Input) (q : List ℕ) (u : Input) → Later s t → Spent a s p b t → Failed b t q u → Failed a s (p ++ q) u
failed_then a s p b t q u l x y =
    let size : length (p ++ q) ≡ length p + length q = length-append p q in
    let f : length a ≤ length p + length b = x.within in
    let g : length b ≤ length q = y.within in
    let v : t.calls ≤ s.calls + (length p - length a) = x.paid in
    let w : u.calls ≤ t.calls + (length q - length b) + 1 = y.paid in
    record {
      same = x.same ∙ ap (before_known p) y.same ∙ before_before p q u.left;
      within = omega (arith, size, f, g);
      paid = omega (arith, size, f, v, w);
      cause = rose_after s.faults t.faults u.faults l.faults y.cause;
    }

ended_of : (a p b : List ℕ) (x y : Option (List ℕ)) (n m k : ℕ) → before_known a x ≡ before_known p (before_known b y) → length a ≤ length p + length b → m ≤ n + (length p - length a)
    → IfSome y (λ ys. k ≤ m + length ys + 1) → IfSome x (λ xs. k ≤ n + length xs + 1)
ended_of a p b None y n m k e within paid z = tt
ended_of a p b (Some xs) None n m k e within paid z = let none : ⊥ = cc in absurd none
ended_of a p b (Some xs) (Some ys) n m k e within paid z =
    let both : a ++ xs ≡ p ++ (b ++ ys) = cc in
    let size : length a + length xs ≡ length p + (length b + length ys) =
    sym (length-append a xs) ∙ ap length both ∙ length-append p (b ++ ys) ∙ ap (λ j. length p + j) (length-append b ys) in
    omega (arith, size, within, paid, z)

pub ended_then : (a : List ℕ) (s : Input) (p b : List ℕ) (t u : Input) → Spent a s p b t → Ended t u → Ended s u
ended_then a s p b t u x z = ended_of a p b s.left t.left s.calls t.calls u.calls x.same x.within x.paid z

pub known_then : (P Q : List ℕ → Type 0) (a : List ℕ) (s : Input) (p b : List ℕ) (t : Input) → Spent a s p b t → ((xs : List ℕ) → Q xs → P (p ++ xs)) → IfSome (ahead b t) Q → IfSome (ahead a s) P
known_then P Q a s p b t x f q = subst (λ (o : Option (List ℕ)). IfSome o P) (sym x.same) (if_before P p (ahead b t) (map_told Q (λ xs. P (p ++ xs)) (ahead b t) f q))

-- a part of reading stops where one of its own parts does, behind bytes that were spent before
pub stops_then : {V W : Type 0} (Sp : List ℕ → V → Type 0) (Be : List ℕ → Type 0) (Re : Code → List ℕ → Type 0) (Sp' : List ℕ → W → Type 0) (Be' : List ℕ → Type 0) (Re' : Code → List ℕ → Type 0)
    (a : List ℕ) (s : Input) (p b : List ℕ) (t : Input) (halt : Halt) (c : List ℕ) (u : Input) → Later s t → Spent a s p b t
    → ((q : List ℕ) → Be q → Be' (p ++ q)) → ((code : Code) (xs : List ℕ) → Re code xs → Re' code (p ++ xs)) → Reads Sp Be Re b t (Err halt) c u → Reads Sp' Be' Re' a s (Err halt) c u
stops_then {V} {W} Sp Be Re Sp' Be' Re' a s p b t halt c u later spent begun refused r = record { later = later_then s t u later r.later; read = by_halt halt r.read }
  where
    by_halt : (h : Halt) → ReadAs Sp Be Re b t (Err h) c u → ReadAs Sp' Be' Re' a s (Err h) c u
    by_halt ReadFault x = (p ++ x.0, begun x.0 x.1, failed_then a s p b t x.0 u later spent x.2)
    by_halt NoMemory x = tt
    by_halt (Refused code) x = (x.0, known_then (Re' code) (Re code) a s p b t spent (λ xs. refused code xs) x.1, ended_then a s p b t u spent x.2)
