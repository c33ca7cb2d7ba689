-- Windows that follow one another, and parts of one whole history.
use Rattle.std.proofs.Common.{◌≡◌, ◌⊎◌, ℕ, zero, suc, ◌+◌, ◌<◌, ◌≤◌, List, [], ◌∷◌, ◌++◌, length, sym, refl, ap, ◌∙◌, subst, inl, inr, arith, Option, Some, None, length-append, append_assoc, slice_index_or}
use Rattle.std.specs.List.{last_or, Contains}
use Rattle.std.proofs.lemmas.List.{append-nil}
use Rattle.std.proofs.lemmas.List.Sums.{fold-append}
use Rattle.mt_turn.specs.declared.view.Window.{Window}
use Rattle.mt_turn.specs.Windows.{last_of, end_of, replay, FollowsBy, Follows, InOrder}
use Rattle.mt_turn.specs.Rule.{IsPart}

module _ {A : Type 0} where
  -- of two beginnings of one list the shorter begins the longer
  pub prefixes : (a x b y : List A) → a ++ x ≡ b ++ y → length a ≤ length b → (z : List A) × (b ≡ a ++ z) × (x ≡ z ++ y)
  prefixes [] x b y e le = (b, refl, e)
  prefixes (h ∷ a) x [] y e le = absurd (omega arith)
  prefixes (h ∷ a) x (h' ∷ b) y e le =
      let tails : a ++ x ≡ b ++ y = cc in
      let heads : h ≡ h' = cc in
      let t = prefixes a x b y tails (omega arith) in (t.0, (λ i. sym heads i ∷ t.1 i), t.2)

  pub nothing : (l : List A) → length l ≡ 0 → l ≡ []
  nothing [] e = refl
  nothing (x ∷ xs) e = absurd (omega arith)

  pub last_or_snoc : (o : Option A) (xs : List A) (x : A) → last_or o (xs ++ x ∷ []) ≡ Some x
  last_or_snoc o [] x = refl
  last_or_snoc o (y ∷ ys) x = last_or_snoc (Some y) ys x

  pub last_snoc : (xs : List A) (x : A) → last_of (xs ++ x ∷ []) ≡ Some x
  last_snoc xs x = last_or_snoc None xs x

  pub same_item : {x y : A} → Some x ≡ Some y → x ≡ y
  same_item e = cc

module _ {E B : Type 0} (base_after : B → E → B) where
  pub follows_by_self : (w : Window E B) → FollowsBy base_after w w [] []
  follows_by_self w = record { entries = append-nil w.entries; first = omega arith; base = refl }

  pub follows_by_again : (x u v : Window E B) (cut more cut' more' : List E) → FollowsBy base_after u v cut more → FollowsBy base_after x u cut' more' → FollowsBy base_after x v (cut ++ cut') (more ++ more')
  follows_by_again x u v cut more cut' more' f g = record {
    entries = sym (append_assoc v.entries more more') ∙ ap (λ l. l ++ more') f.entries ∙ append_assoc cut u.entries more' ∙ ap (λ l. cut ++ l) g.entries ∙ sym (append_assoc cut cut' x.entries);
    first = g.first ∙ (let h = f.first in omega (arith, length-append cut cut'));
    base = g.base ∙ ap (λ b. replay base_after b cut') f.base ∙ sym (fold-append base_after v.base cut cut');
  }

  pub follows_self : (w : Window E B) → Follows base_after w w
  follows_self w = record { cut = []; more = []; by = follows_by_self w }

  pub follows_again : (x u v : Window E B) → Follows base_after u v → Follows base_after x u → Follows base_after x v
  follows_again x u v f g = record { cut = f.cut ++ g.cut; more = f.more ++ g.more; by = follows_by_again x u v f.cut f.more g.cut g.more f.by g.by }

  -- a later window begins and ends no earlier
  pub no_earlier : (u v : Window E B) → Follows base_after u v → (v.first ≤ u.first) × (end_of v ≤ end_of u)
  no_earlier u v f =
      let e = f.by.first in
      let l = ap length f.by.entries in
      (omega arith, omega (arith, length-append v.entries f.more, length-append f.cut u.entries))

  -- two windows that follow each other are one
  pub same_window : (u v : Window E B) → Follows base_after u v → Follows base_after v u → u ≡ v
  same_window u v f g =
      let back = no_earlier v u g in
      let e = f.by.first in
      let lengths = ap length f.by.entries in
      let begins = back.0 in
      let ends = back.1 in
      let c : f.cut ≡ [] = nothing f.cut (omega arith) in
      let m : f.more ≡ [] = nothing f.more (omega (arith, length-append v.entries f.more, length-append f.cut u.entries)) in
      let entries : u.entries ≡ v.entries = sym (sym (append-nil v.entries) ∙ ap (λ l. v.entries ++ l) (sym m) ∙ f.by.entries ∙ ap (λ l. l ++ u.entries) c) in
      let firsts : u.first ≡ v.first = omega (arith, ap length c) in
      let bases : u.base ≡ v.base = f.by.base ∙ ap (replay base_after v.base) c in
      (λ i. record { first = firsts i; base = bases i; entries = entries i })

  -- ---- windows in order

  pub one_more : (xs : List (Window E B)) (y : Window E B) → InOrder base_after xs → ((z : Window E B) → last_of xs ≡ Some z → Follows base_after y z) → InOrder base_after (xs ++ y ∷ [])
  one_more [] y order h = (tt, tt)
  one_more (x ∷ []) y order h = (h x refl, (tt, tt))
  one_more (x ∷ x' ∷ xs) y order h = (order.0, one_more (x' ∷ xs) y order.1 h)

  all_follow : (x d : Window E B) (xs : List (Window E B)) → InOrder base_after (x ∷ xs) → (k : ℕ) → k < length (x ∷ xs) → Follows base_after (slice_index_or (x ∷ xs) k d) x
  all_follow x d xs order zero lt = follows_self x
  all_follow x d [] order (suc k) lt = absurd (omega arith)
  all_follow x d (y ∷ ys) order (suc k) lt = follows_again _ y x order.0 (all_follow y d ys order.1 k (omega arith))

  one_of_two : (xs : List (Window E B)) (c d : Window E B) → InOrder base_after xs → (i j : ℕ) → i < length xs → j < length xs → Follows base_after (slice_index_or xs i c) (slice_index_or xs j d) ⊎ Follows base_after (slice_index_or xs j d) (slice_index_or xs i c)
  one_of_two [] c d order i j l m = absurd (omega arith)
  one_of_two (x ∷ xs) c d order zero j l m = inr (all_follow x d xs order j m)
  one_of_two (x ∷ xs) c d order (suc i) zero l m = inl (all_follow x c xs order (suc i) l)
  one_of_two (x ∷ xs) c d order (suc i) (suc j) l m = one_of_two xs c d order.1 i j (omega arith) (omega arith)

  -- of two windows of such a list one follows the other
  pub one_follows : (xs : List (Window E B)) (a b : Window E B) → InOrder base_after xs → Contains xs a → Contains xs b → Follows base_after a b ⊎ Follows base_after b a
  one_follows xs a b order p q = subst (λ (t : Window E B × Window E B). Follows base_after t.0 t.1 ⊎ Follows base_after t.1 t.0) (λ i. (p.2 i, q.2 i)) (one_of_two xs a b order p.0 q.0 p.1 q.1)

  last_or_follows : (o : Option (Window E B)) (xs : List (Window E B)) (z d : Window E B) → InOrder base_after xs → last_or o xs ≡ Some z → (k : ℕ) → k < length xs → Follows base_after z (slice_index_or xs k d)
  last_or_follows o [] z d order e k lt = absurd (omega arith)
  last_or_follows o (x ∷ []) z d order e zero lt = subst (λ u. Follows base_after u x) (same_item e) (follows_self x)
  last_or_follows o (x ∷ y ∷ ys) z d order e zero lt = follows_again z y x order.0 (last_or_follows (Some x) (y ∷ ys) z d order.1 e zero (omega arith))
  last_or_follows o (x ∷ xs) z d order e (suc k) lt = last_or_follows (Some x) xs z d order.1 e k (omega arith)

  -- the last of such a list follows each
  pub last_follows : (xs : List (Window E B)) (z a : Window E B) → InOrder base_after xs → last_of xs ≡ Some z → Contains xs a → Follows base_after z a
  last_follows xs z a order e p = subst (Follows base_after z) p.2 (last_or_follows None xs z a order e p.0 p.1)

  -- ---- parts of a whole

  -- of two parts, where one begins and ends no earlier, it follows the other, and what came after it is the end of what came after the other
  pub record Between (x y : Window E B) (r s : List E) : Type 0 where
    pub cut : List E
    pub more : List E
    pub follows : FollowsBy base_after y x cut more
    pub rest : r ≡ more ++ s

  pub between : (whole x y : Window E B) (r s : List E) → IsPart base_after whole x r → IsPart base_after whole y s → x.first ≤ y.first → end_of x ≤ end_of y → Between x y r s
  between whole x y r s p q begins ends =
      let f = p.first in
      let g = q.first in
      let fronts = prefixes p.before (x.entries ++ r) q.before (y.entries ++ s) (sym p.entries ∙ q.entries) (omega arith) in
      let cut = fronts.0 in
      let grew : length q.before ≡ length p.before + length cut = ap length fronts.1 ∙ length-append p.before cut in
      let backs = prefixes x.entries r (cut ++ y.entries) s (fronts.2 ∙ sym (append_assoc cut y.entries s)) (omega (arith, length-append cut y.entries)) in
      record {
        cut = cut;
        more = backs.0;
        follows = record {
          entries = sym backs.1;
          first = omega arith;
          base = q.base ∙ ap (replay base_after whole.base) fronts.1 ∙ fold-append base_after whole.base p.before cut ∙ ap (λ b. replay base_after b cut) (sym p.base);
        };
        rest = backs.2;
      }

  -- the whole with more entries at its end
  abbrev pub longer : Window E B → List E → Window E B
  longer whole more = record { first = whole.first; base = whole.base; entries = whole.entries ++ more }

  pub part_grows : (whole x : Window E B) (rest more : List E) → IsPart base_after whole x rest → IsPart base_after (longer whole more) x (rest ++ more)
  part_grows whole x rest more p = record {
    before = p.before;
    entries = ap (λ l. l ++ more) p.entries ∙ append_assoc p.before (x.entries ++ rest) more ∙ ap (λ l. p.before ++ l) (append_assoc x.entries rest more);
    first = p.first;
    base = p.base;
  }

  -- the window that is given is the end of the longer whole
  pub part_given : (whole w u : Window E B) (cut more : List E) → IsPart base_after whole w [] → FollowsBy base_after u w cut more → IsPart base_after (longer whole more) u []
  part_given whole w u cut more p f = record {
    before = p.before ++ cut;
    entries = ap (λ l. l ++ more) p.entries ∙ append_assoc p.before (w.entries ++ []) more ∙ ap (λ l. p.before ++ (l ++ more)) (append-nil w.entries) ∙ ap (λ l. p.before ++ l) f.entries ∙ sym (append_assoc p.before cut u.entries)
        ∙ ap (λ l. (p.before ++ cut) ++ l) (sym (append-nil u.entries));
    first = let e = p.first in let h = f.first in omega (arith, length-append p.before cut);
    base = f.base ∙ ap (λ b. replay base_after b cut) p.base ∙ sym (fold-append base_after whole.base p.before cut);
  }
