-- The start of a turnstile, a claim of the turn, and the turn given back keep the rule.
use Rattle.std.proofs.Common.{◌≡◌, ◌≢◌, ℕ, zero, suc, ◌+◌, ◌*◌, ◌^◌, ◌%◌, ◌<◌, ◌≤◌, eqb, true, List, [], ◌∷◌, ◌++◌, length, get_or, set, sym, refl, ap, ◌∙◌, subst, arith, Option, Some, None, IfSome, All, length-set}
use Rattle.std.specs.List.{last_or, Contains}
use Rattle.std.specs.Option.{is_some}
use Rattle.std.proofs.lemmas.List.{append-nil}
use Rattle.std.proofs.lemmas.List.Elements.{All-nil, All-append, Contains-append_left, Contains-append_right}
use Rattle.std.proofs.lemmas.Bool.{false≢true}
use mathlib.Core.Option.{none, some, some-injective, some-ne-none}
use mathlib.Core.Option as maybe
use lib.ListN.{get_elem?}
use prog.Atomic.{either}
use Rattle.atomic_table.specs.Table.{State, Me, step, Act, keeps, takes, gives, stepped, carried_after, Valid, Allows, opening}
use Rattle.atomic_table.proofs.Lists.{set_again, exchanged}
use Rattle.mt_turn.specs.declared.view.Window.{Window}
use Rattle.mt_turn.specs.declared.view.View.{View}
use Rattle.mt_turn.specs.Windows.{last_of, end_of, Follows, InOrder}
use Rattle.mt_turn.specs.Views.{first_pass, after_take, after_give}
use Rattle.mt_turn.specs.Turns.{OfTaken, FindsWindow, MayGive}
use Rattle.mt_turn.specs.Steps.{claimed, left}
use Rattle.mt_turn.specs.Rule.{IsPart, WasHad, AreApart, IsLast, Knows, Kept}
use Rattle.mt_turn.proofs.WindowLaws.{same_item, follows_again, no_earlier, one_more, last_follows, last_snoc, between, longer, part_grows, part_given}
use Rattle.mt_turn.proofs.Seats.{item_there, weaken, at_last, apart_back, where_one_changes, differ_still, separated_still, ApartBothWays}

module _ {W E B X F : Type 0} (window : W → Window E B) (base_after : B → E → B) (fixed : W → X) (caller_of : E → ℕ) (holds : W → F → Type 0) (tells : W → Type 0) (apart : F → F → Type 0) (about : W) where
  abbrev pub St : Type 0
  St = State (Option W) (View W E B X F)

  abbrev pub M : Type 0
  M = Me (Option W) (View W E B X F)

  abbrev pub Rule : St → Type 0
  Rule = Kept window base_after fixed caller_of holds tells apart about

  abbrev pub Known : Window E B → List (Window E B) → W → ℕ → ℕ → ℕ → ℕ → View W E B X F → Type 0
  Known = Knows base_after fixed caller_of holds tells about

  abbrev pub Last : Window E B → List (Window E B) → ℕ → View W E B X F → Window E B → Type 0
  Last whole log top = IsLast base_after caller_of whole log top

  -- the value's own window is the last of the log, with nothing behind it
  pub now_last : (whole w : Window E B) (log : List (Window E B)) (top : ℕ) (v : View W E B X F) → Contains log w → IsPart base_after whole w [] → Last whole log top v w
  now_last whole w log top v had part = record { was = record { had = had; rest = []; part = part }; others = λ _. All-nil _; low = λ _ _. All-nil _ }

  -- ---- the start

  pub opens : (word : ℕ) (slots : List (Option W)) → end_of (window about) < 2 ^ 63 → word ≡ end_of (window about) → slots ≡ Some about ∷ [] → Rule (opening (2 * word ∷ []) slots (first_pass window fixed about))
  opens word slots few is one = subst (λ xs. Rule (opening (2 * word ∷ []) xs (first_pass window fixed about))) (sym one) record {
    value = about;
    held = 0;
    holder = 0;
    top = 0;
    whole = window about;
    log = window about ∷ [];
    order = (tt, tt);
    now = refl;
    part = whole_part;
    few = few;
    fixed_is = refl;
    words = ap (λ n. n ∷ []) (omega (arith, is));
    bit = omega arith;
    home = λ _. refl;
    deep = refl;
    seats = λ j v e. first_seat j v e;
    callers = λ i j v w ei ej _ _ _. only_first i v ei ∙ sym (only_first j w ej);
    apart_are = λ i j v w ei ej ne. absurd (ne (only_first i v ei ∙ sym (only_first j w ej)));
  }
    where
      whole_part : IsPart base_after (window about) (window about) []
      whole_part = record { before = []; entries = sym (append-nil (window about).entries); first = omega arith; base = refl }

      in_log : Contains (window about ∷ []) (window about)
      in_log = (0, omega arith, refl)

      only_first : (j : ℕ) (v : View W E B X F) → get_elem? (first_pass window fixed about ∷ []) j ≡ some v → j ≡ 0
      only_first zero v e = refl
      only_first (suc j) v e = absurd (some-ne-none v (sym e))

      knows_all : Known (window about) (window about ∷ []) about 0 0 0 0 (first_pass window fixed about)
      knows_all = record {
        order = (tt, tt);
        seen = now_last (window about) (window about) (window about ∷ []) 0 (first_pass window fixed about) in_log whole_part;
        heard = tt;
        fixed_is = λ _. refl;
        turn = λ t. absurd (false≢true t);
        low = λ _. omega arith;
        count = λ _ _. refl;
        told = λ t. t;
        facts = All-nil _;
      }

      first_seat : (j : ℕ) (v : View W E B X F) → get_elem? (first_pass window fixed about ∷ []) j ≡ some v → Known (window about) (window about ∷ []) about 0 0 0 j v
      first_seat zero v e = subst (Known (window about) (window about ∷ []) about 0 0 0 0) (some-injective _ v e) knows_all
      first_seat (suc j) v e = absurd (some-ne-none v (sym e))

  -- ---- of any state that keeps the rule

  module _ (s : St) (k : Rule s) where
    pub word_is : get_or s.words 0 0 ≡ 2 * end_of (window k.value) + k.held
    word_is = ap (λ l. get_or l 0 0) k.words

    pub word_set : (n m : ℕ) → n ≡ m → set s.words 0 n ≡ m ∷ []
    word_set n m e = ap (λ l. set l 0 n) k.words ∙ ap (λ x. x ∷ []) e

    -- nothing changed
    pub same : (id : ℕ) (v : View W E B X F) → get_elem? s.views id ≡ some v → Rule record { words = set s.words 0 (get_or s.words 0 0); homes = s.homes; views = set s.views id v }
    same id v at = subst Rule (λ i. record { words = sym (word_set _ _ word_is ∙ sym k.words) i; homes = s.homes; views = sym (set_again s.views id v at) i }) k

    -- the other seats' facts are apart from those of the seat id
    pub apart_of : (id : ℕ) (v : View W E B X F) → get_elem? s.views id ≡ some v → (j : ℕ) (w : View W E B X F) → get_elem? s.views j ≡ some w → j ≢ id → ApartBothWays apart v w
    apart_of id v at j w at' ne = (k.apart_are id j v w at at' (λ e. ne (sym e)), k.apart_are j id w v at' at ne)

    -- the value's window is in the log, and follows each that is
    pub now_had : Contains k.log (window k.value)
    now_had = last_in k.log (window k.value) k.now
      where
        last_or_in : (o : Option (Window E B)) (xs : List (Window E B)) (z : Window E B) → 0 < length xs → last_or o xs ≡ Some z → Contains xs z
        last_or_in o [] z lt e = absurd (omega arith)
        last_or_in o (x ∷ []) z lt e = (0, omega arith, same_item e)
        last_or_in o (x ∷ y ∷ ys) z lt e = let t = last_or_in (Some x) (y ∷ ys) z (omega arith) e in (suc t.0, (let l = t.1 in omega arith), t.2)

        last_in : (xs : List (Window E B)) (z : Window E B) → last_of xs ≡ Some z → Contains xs z
        last_in [] z e = absurd (no_item e)
          where
            no_item : None ≡ Some z → ⊥
            no_item e = cc
        last_in (x ∷ xs) z e = last_or_in None (x ∷ xs) z (omega arith) e

    pub now_follows : (x : Window E B) → WasHad base_after k.whole k.log x → Follows base_after (window k.value) x
    now_follows x was = last_follows base_after k.log (window k.value) x k.order k.now was.had

    -- what a pass finds whose last window is x
    pub finds_window : (v : View W E B X F) (x : Window E B) → v.numbered ≡ true → last_of v.seen ≡ Some x → IfSome (last_of v.seen) (Last k.whole k.log k.top v) → FindsWindow base_after caller_of v (window k.value)
    finds_window v x num is seen =
        let l : Last k.whole k.log k.top v x = subst (λ o. IfSome o (Last k.whole k.log k.top v)) is seen in
        let late = no_earlier base_after (window k.value) x (now_follows x l.was) in
        let b = between base_after k.whole x (window k.value) l.was.rest [] l.was.part k.part late.0 late.1 in
        record { before = x; is_last = is; cut = b.cut; more = b.more; follows = b.follows; others = subst (All (λ e. caller_of e ≢ v.caller)) (b.rest ∙ append-nil b.more) (l.others num) }

    -- windows stay in order where the value's is seen, or one that follows it
    pub order_after : (v : View W E B X F) (u : Window E B) → Follows base_after u (window k.value) → InOrder base_after v.seen → IfSome (last_of v.seen) (Last k.whole k.log k.top v) → InOrder base_after (v.seen ++ u ∷ [])
    order_after v u late order seen = one_more base_after v.seen u order
        (λ z e. let l : Last k.whole k.log k.top v z = subst (λ o. IfSome o (Last k.whole k.log k.top v)) e seen in follows_again base_after u (window k.value) z (now_follows z l.was) late)

  one_home : (hs : List (maybe.Option (Option W))) (x : maybe.Option (Option W)) → length hs ≡ 1 → set hs 0 x ≡ x ∷ []
  one_home [] x e = absurd (omega arith)
  one_home (h ∷ []) x e = refl
  one_home (h ∷ h' ∷ hs) x e = absurd (omega arith)

  abbrev Then : ℕ → ℕ → M → ℕ → M → Type 0
  Then slots found m = claimed window base_after fixed caller_of holds tells (step slots 0 found (found + 1) none) m

  -- ---- a claim

  pub claims : (slots id found : ℕ) (m : M) → m.0.numbered ≡ true → is_some (last_of m.0.seen) ≡ true → found % 2 ≡ 0 → Allows Rule slots id m 0 (λ n. either (eqb n found) (found + 1) n) (Then slots found m)
  claims slots id found m num begun even s k wide at fits = exchanged (get_or s.words 0 0) found (found + 1)
      (λ x. (w : View W E B X F) × (a : Act (Option W)) × Valid s.homes m.1 a × Rule (stepped s 0 x id m.1 w a) × Then slots found m (get_or s.words 0 0) (w, carried_after m.1 a)) hit miss
    where
      hit : get_or s.words 0 0 ≡ found → (w : View W E B X F) × (a : Act (Option W)) × Valid s.homes m.1 a × Rule (stepped s 0 (found + 1) id m.1 w a) × Then slots found m (get_or s.words 0 0) (w, carried_after m.1 a)
      hit e =
          let is = word_is s k in
          let bit = k.bit in
          let free : k.held ≡ 0 = omega arith in
          let w = k.value in
          let q = k.seats id m.0 at in
          let v = after_take window m.0 w in
          let x = item_there (last_of m.0.seen) begun in
          let in_order = order_after s k m.0 (window w) (now_follows s k (window w) record { had = now_had s k; rest = []; part = k.part }) q.order q.seen in
          let total : found + 1 ≡ 2 * end_of (window w) + 1 = omega arith in (
            v,
            takes 0 (Some w),
            ap (λ l. get_elem? l 0) (k.home free),
            record {
              value = w;
              held = 1;
              holder = id;
              top = k.top;
              whole = k.whole;
              log = k.log;
              order = k.order;
              now = k.now;
              part = k.part;
              few = k.few;
              fixed_is = k.fixed_is;
              words = word_set s k (found + 1) _ total;
              bit = omega arith;
              home = λ one. absurd (omega arith);
              deep = length-set s.homes 0 none ∙ k.deep;
              seats = where_one_changes (Known k.whole k.log w 1 id k.top) s.views id v
                  record {
                    order = in_order;
                    seen = at_last (Last k.whole k.log k.top v) m.0.seen (window w) (now_last k.whole (window w) k.log k.top v (now_had s k) k.part);
                    heard = q.heard;
                    fixed_is = q.fixed_is;
                    turn = λ _. (refl, refl, num, refl);
                    low = q.low;
                    count = q.count;
                    told = λ t. t;
                    facts = q.facts;
                  }
                  (λ j u ne at'. let p = k.seats j u at' in record {
                    order = p.order;
                    seen = p.seen;
                    heard = p.heard;
                    fixed_is = p.fixed_is;
                    turn = λ on. let h = (p.turn on).1 in absurd (omega arith);
                    low = p.low;
                    count = p.count;
                    told = p.told;
                    facts = p.facts;
                  });
              callers = differ_still s.views id m.0 v at (λ _. (num, refl)) k.callers;
              apart_are = separated_still apart s.views id v (apart_of s k id m.0 at) k.apart_are;
            },
            (
              λ _. (
                w,
                refl,
                record {
                  seen = finds_window s k m.0 x.0 num x.1 q.seen;
                  few = k.few;
                  fixed_is = q.fixed_is num ∙ ap (λ (x : X). Some x) (sym k.fixed_is);
                  facts = q.facts;
                  told = q.told;
                },
                in_order,
              ),
              λ ne. absurd (ne e),
            ),
          )

      miss : get_or s.words 0 0 ≢ found → (w : View W E B X F) × (a : Act (Option W)) × Valid s.homes m.1 a × Rule (stepped s 0 (get_or s.words 0 0) id m.1 w a) × Then slots found m (get_or s.words 0 0) (w, carried_after m.1 a)
      miss ne = (m.0, keeps, tt, same s k id m.0 at, (λ e. absurd (ne e), λ _. refl))

  -- ---- the turn given back

  -- what came behind a window, where this much more came
  pub was_still : (whole x : Window E B) (log : List (Window E B)) (u : Window E B) (more : List E) → WasHad base_after whole log x → WasHad base_after (longer base_after whole more) (log ++ u ∷ []) x
  was_still whole x log u more was = record { had = Contains-append_left log (u ∷ []) x was.had; rest = was.rest ++ more; part = part_grows base_after whole x was.rest more was.part }

  module _ (calls : W → ℕ) (kept_by : W → W → List F → List F → Type 0)
      (law : (w u : W) (before after : List F) (f : F) → kept_by w u before after → holds w f → All (apart f) before → holds u f × All (apart f) after) (both : (f g : F) → apart f g → apart g f) where
    leaves_at : (slots id word : ℕ) (v : View W E B X F) (u : W) (facts : List F) → v.turn ≡ true → v.fixed ≡ Some (fixed u) → OfTaken v (λ w. MayGive base_after caller_of v.caller (window w) (window u)) → OfTaken v (λ w. tells u → tells w)
        → end_of (window u) < 2 ^ 63 → word ≡ end_of (window u) → All (holds u) facts → OfTaken v (λ w. kept_by w u v.facts facts)
        → Allows Rule slots id (v, (0, Some u) ∷ []) 0 (λ _. 2 * word) (λ _ n. (n ≡ (after_give window calls facts v u, [])) × InOrder base_after (after_give window calls facts v u).seen)
    unfolding was_still
    leaves_at slots id word v u facts on same_data may ends few is true_now owed s k wide at fits =
        let q = k.seats id v at in
        let held = q.turn on in
        let num = held.2 in
        let v' = after_give window calls facts v u in
        let goes = may k.value held.3 in
        let keeps_all = owed k.value held.3 in
        let ends_now = ends k.value held.3 in
        let late : Follows base_after (window u) (window k.value) = record { cut = goes.cut; more = goes.more; by = goes.follows } in
        let whole = longer base_after k.whole goes.more in
        let log = k.log ++ window u ∷ [] in
        let part : IsPart base_after whole (window u) [] = part_given base_after k.whole (window k.value) (window u) goes.cut goes.more k.part goes.follows in
        let had : Contains log (window u) = Contains-append_right k.log (window u ∷ []) (window u) (0, omega arith, refl) in
        let in_order = order_after s k v (window u) late q.order q.seen in
        let total : 2 * word ≡ 2 * end_of (window u) + 0 = omega arith in (
          v',
          gives,
          tt,
          record {
            value = u;
            held = 0;
            holder = 0;
            top = k.top;
            whole = whole;
            log = log;
            order = one_more base_after k.log (window u) k.order (λ z e. subst (Follows base_after (window u)) (same_item (sym k.now ∙ e)) late);
            now = last_snoc k.log (window u);
            part = part;
            few = few;
            fixed_is = same_item (sym same_data ∙ q.fixed_is num);
            words = word_set s k (2 * word) _ total;
            bit = omega arith;
            home = λ _. one_home s.homes (some (Some u)) k.deep;
            deep = length-set s.homes 0 (some (Some u)) ∙ k.deep;
            seats = where_one_changes (Known whole log u 0 0 k.top) s.views id v'
                record {
                  order = in_order;
                  seen = at_last (Last whole log k.top v') v.seen (window u) (now_last whole (window u) log k.top v' had part);
                  heard = weaken (WasHad base_after k.whole k.log) (WasHad base_after whole log) (λ x was. was_still k.whole x k.log (window u) goes.more was) v.heard q.heard;
                  fixed_is = q.fixed_is;
                  turn = λ t. absurd (false≢true t);
                  low = q.low;
                  count = q.count;
                  told = λ t. subst (λ o. IfSome o tells) (sym held.3) (ends_now t);
                  facts = true_now;
                }
                (λ j o ne at'. let p = k.seats j o at' in record {
                  order = p.order;
                  seen = weaken (Last k.whole k.log k.top o) (Last whole log k.top o)
                      (λ x l. record {
                        was = was_still k.whole x k.log (window u) goes.more l.was;
                        others = λ n. All-append (λ e. caller_of e ≢ o.caller) l.was.rest goes.more (l.others n) (λ i d lt e. ne (k.callers j id o v at' at n num (sym e ∙ goes.own i d lt)));
                        low = λ n z. All-append (λ e. caller_of e ≤ k.top) l.was.rest goes.more (l.low n z) (λ i d lt. subst (λ x. x ≤ k.top) (sym (goes.own i d lt)) (q.low num));
                      })
                      (last_of o.seen) p.seen;
                  heard = weaken (WasHad base_after k.whole k.log) (WasHad base_after whole log) (λ x was. was_still k.whole x k.log (window u) goes.more was) o.heard p.heard;
                  fixed_is = p.fixed_is;
                  turn = λ t. absurd (ne ((p.turn t).0 ∙ sym held.0));
                  low = p.low;
                  count = p.count;
                  told = λ t. p.told (ends_now t);
                  facts = λ i d lt. (law k.value u v.facts facts _ keeps_all (p.facts i d lt) (k.apart_are j id o v at' at ne i d lt)).0;
                });
            callers = differ_still s.views id v v' at (λ _. (num, refl)) k.callers;
            apart_are = separated_still apart s.views id v'
                (λ j o at' ne. let p = k.seats j o at' in let far : AreApart apart o.facts facts = λ i d lt. (law k.value u v.facts facts _ keeps_all (p.facts i d lt) (k.apart_are j id o v at' at ne i d lt)).1 in (apart_back apart both o.facts facts far, far)) k.apart_are;
          },
          (refl, in_order),
        )

    pub leaves : (slots id word : ℕ) (m : M) (u : W) (facts : List F) → m.1 ≡ (0, Some u) ∷ [] → m.0.turn ≡ true → m.0.fixed ≡ Some (fixed u) → OfTaken m.0 (λ w. MayGive base_after caller_of m.0.caller (window w) (window u)) → OfTaken m.0 (λ w. tells u → tells w)
        → end_of (window u) < 2 ^ 63 → word ≡ end_of (window u) → All (holds u) facts → OfTaken m.0 (λ w. kept_by w u m.0.facts facts)
        → Allows Rule slots id m 0 (λ _. 2 * word) (λ _. left window base_after calls facts (step slots 0 (2 * word) 0 none) m (2 * word))
    leaves slots id word m u facts is on same_data may ends few count true_now owed = subst (λ (c : List (ℕ × Option W)). Allows Rule slots id (m.0, c) 0 (λ _. 2 * word) (λ _. left window base_after calls facts (step slots 0 (2 * word) 0 none) (m.0, c) (2 * word))) (sym is)
        (λ s k wide at fits. let t = leaves_at slots id word m.0 u facts on same_data may ends few count true_now owed s k wide at fits in
        (t.0, t.1, t.2, t.3, λ w e. subst (λ (x : W). ◌≡◌ {A = M} (t.0, carried_after {S = Option W} ((0, Some u) ∷ []) t.1) (after_give window calls facts m.0 x, []) × InOrder base_after (after_give window calls facts m.0 x).seen) (same_value e) t.4))
      where
        of_option : W → Option W → W
        of_option d None = d
        of_option d (Some x) = x

        of_list : W → List (ℕ × Option W) → W
        of_list d [] = d
        of_list d (t ∷ ts) = of_option d t.1

        same_value : {x y : W} → ◌≡◌ {A = List (ℕ × Option W)} ((0, Some x) ∷ []) ((0, Some y) ∷ []) → x ≡ y
        same_value {x} e = ap (of_list x) e
