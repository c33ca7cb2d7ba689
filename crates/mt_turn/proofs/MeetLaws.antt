-- Seats that are split and joined, and the end of a turnstile.
use Rattle.std.proofs.Common.{◌≡◌, ◌≢◌, ℕ, ◌+◌, ◌*◌, ◌%◌, ◌≤◌, true, List, [], ◌∷◌, ◌++◌, set, sym, refl, ap, ◌∙◌, subst, ⊎_elim, inl, inr, arith, Option, Some, IfSome, All}
use Rattle.std.specs.Option.{is_some}
use Rattle.std.proofs.lemmas.List.Elements.{All-nil, All-weaker}
use Rattle.std.proofs.lemmas.Bool.{false≢true}
use mathlib.Core.Option.{none, some, some-injective}
use lib.ListN.{get_elem?}
use Rattle.atomic_table.specs.Table.{State, Me, step, keeps, Allows, Splits, Joins, Final, Seen}
use Rattle.atomic_table.proofs.Lists.{set_again, set_else}
use Rattle.mt_turn.specs.declared.view.Window.{Window}
use Rattle.mt_turn.specs.declared.view.View.{View}
use Rattle.mt_turn.specs.Windows.{last_of, end_of, Follows, InOrder}
use Rattle.mt_turn.specs.Views.{note, after_split, split_off, sees, hears}
use Rattle.mt_turn.specs.Turns.{Finds, IsLater}
use Rattle.mt_turn.specs.Steps.{looked}
use Rattle.mt_turn.specs.Rule.{WasHad, IsLast, Knows, Kept}
use Rattle.mt_turn.proofs.WindowLaws.{same_item, same_window, follows_self, no_earlier, one_more, one_follows, between}
use Rattle.mt_turn.proofs.Seats.{item_there, weaken, at_last, All_right, where_one_changes, where_one_comes, Differ, differ_still, differ_more, Separated, separated_still, separated_more, ApartBothWays}
use Rattle.mt_turn.proofs.TurnLaws.{word_is, word_set, apart_of, finds_window}

module _ {E B : Type 0} (base_after : B → E → B) where
  -- a pass that hears of the later of two windows, of which one is its own, sees that one
  pub met : (mine theirs : Option (Window E B)) (x y : Window E B) → IsLater base_after mine theirs x → IsLater base_after theirs (Some x) y → y ≡ x
  met mine theirs x y first second = ⊎_elim own told second.one
    where
      after : Follows base_after y x
      after = let t = second.follows_theirs in subst (Follows base_after y) (same_item (sym t.1)) t.2

      own : theirs ≡ Some y → y ≡ x
      own e = let t = first.follows_theirs in same_window base_after y x after (subst (Follows base_after x) (same_item (sym t.1 ∙ e)) t.2)

      told : Some x ≡ Some y → y ≡ x
      told e = same_item (sym e)

module _ {W E B X F : Type 0} (window : W → Window E B) (base_after : B → E → B) (fixed : W → X) (caller_of : E → ℕ) (holds : W → F → Type 0) (tells : W → Type 0) (apart : F → F → Type 0) (about : W) where
  abbrev V : Type 0
  V = View W E B X F

  abbrev St : Type 0
  St = State (Option W) V

  abbrev M : Type 0
  M = Me (Option W) V

  abbrev Rule : St → Type 0
  Rule = Kept window base_after fixed caller_of holds tells apart about

  abbrev Known : Window E B → List (Window E B) → W → ℕ → ℕ → ℕ → ℕ → V → Type 0
  Known = Knows base_after fixed caller_of holds tells about

  abbrev Last : Window E B → List (Window E B) → ℕ → V → Window E B → Type 0
  Last whole log top = IsLast base_after caller_of whole log top

  -- only views change, and the number that no caller's exceeds
  views_change : (s : St) (k : Rule s) (ws : List ℕ) (vs : List V) (top : ℕ) → ws ≡ s.words → ((j : ℕ) (v : V) → get_elem? vs j ≡ some v → Known k.whole k.log k.value k.held k.holder top j v) → Differ vs → Separated apart vs
      → Rule record { words = ws; homes = s.homes; views = vs }
  views_change s k ws vs top e seats differ apart_are = record {
    value = k.value;
    held = k.held;
    holder = k.holder;
    top = top;
    whole = k.whole;
    log = k.log;
    order = k.order;
    now = k.now;
    part = k.part;
    few = k.few;
    fixed_is = k.fixed_is;
    words = e ∙ k.words;
    bit = k.bit;
    home = k.home;
    deep = k.deep;
    seats = seats;
    callers = differ;
    apart_are = apart_are;
  }

  -- one view changes, and nothing else
  changes : (s : St) (k : Rule s) (id : ℕ) (v u : V) (ws : List ℕ) → ws ≡ s.words → get_elem? s.views id ≡ some v → (u.numbered ≡ true → (v.numbered ≡ true) × (u.caller ≡ v.caller))
      → ((j : ℕ) (w : V) → get_elem? s.views j ≡ some w → j ≢ id → ApartBothWays apart u w) → Known k.whole k.log k.value k.held k.holder k.top id u
      → Rule record { words = ws; homes = s.homes; views = set s.views id u }
  changes s k id v u ws e at same fresh knows = views_change s k ws (set s.views id u) k.top e
      (where_one_changes (Known k.whole k.log k.value k.held k.holder k.top) s.views id u knows (λ j o ne at'. k.seats j o at'))
      (differ_still s.views id v u at same k.callers) (separated_still apart s.views id u fresh k.apart_are)

  -- ---- what was heard is compared

  -- the later of the last window seen and the one heard of
  record Later (whole : Window E B) (log : List (Window E B)) (top : ℕ) (v : V) : Type 0 where
    pub x : Window E B
    pub later : IsLater base_after (last_of v.seen) v.heard x
    pub last : Last whole log top v x
    pub order : InOrder base_after (v.seen ++ x ∷ [])

  later_of : (whole : Window E B) (log : List (Window E B)) (top : ℕ) (v : V) (mine theirs : Window E B) → last_of v.seen ≡ Some mine → v.heard ≡ Some theirs → InOrder base_after log → InOrder base_after v.seen
      → Last whole log top v mine → WasHad base_after whole log theirs → Later whole log top v
  later_of whole log top v mine theirs is told in_log in_order last was = ⊎_elim stays goes (one_follows base_after log mine theirs in_log last.was.had was.had)
    where
      at : (x : Window E B) → Follows base_after x mine → InOrder base_after (v.seen ++ x ∷ [])
      at x f = one_more base_after v.seen x in_order (λ z e. subst (Follows base_after x) (same_item (sym is ∙ e)) f)

      stays : Follows base_after mine theirs → Later whole log top v
      stays f = record {
        x = mine;
        later = record { one = inl is; follows_mine = (mine, is, follows_self base_after mine); follows_theirs = (theirs, told, f) };
        last = last;
        order = at mine (follows_self base_after mine);
      }

      goes : Follows base_after theirs mine → Later whole log top v
      goes f =
          let late = no_earlier base_after theirs mine f in
          let b = between base_after whole mine theirs last.was.rest was.rest last.was.part was.part late.0 late.1 in
          record {
            x = theirs;
            later = record { one = inr told; follows_mine = (mine, is, f); follows_theirs = (theirs, told, follows_self base_after theirs) };
            last = record {
              was = was;
              others = λ n. All_right (λ e. caller_of e ≢ v.caller) b.more was.rest (subst (All (λ e. caller_of e ≢ v.caller)) b.rest (last.others n));
              low = λ n z. All_right (λ e. caller_of e ≤ top) b.more was.rest (subst (All (λ e. caller_of e ≤ top)) b.rest (last.low n z));
            };
            order = at theirs f;
          }

  pub looks : (slots id : ℕ) (m : M) → is_some (last_of m.0.seen) ≡ true → is_some m.0.heard ≡ true → Allows Rule slots id m 0 (λ n. n) (looked base_after (step slots 0 0 0 none) m)
  looks slots id m begun heard s k wide at fits =
      let q = k.seats id m.0 at in
      let mine = item_there (last_of m.0.seen) begun in
      let theirs = item_there m.0.heard heard in
      let l = later_of k.whole k.log k.top m.0 mine.0 theirs.0 mine.1 theirs.1 k.order q.order (subst (λ o. IfSome o (Last k.whole k.log k.top m.0)) mine.1 q.seen) (subst (λ o. IfSome o (WasHad base_after k.whole k.log)) theirs.1 q.heard) in
      let u = sees m.0 l.x in (
        u,
        keeps,
        tt,
        changes s k id m.0 u _ (word_set window base_after fixed caller_of holds tells apart about s k _ _ (word_is window base_after fixed caller_of holds tells apart about s k) ∙ sym k.words) at (λ n. (n, refl))
            (apart_of window base_after fixed caller_of holds tells apart about s k id m.0 at) record {
              order = l.order;
              seen = at_last (Last k.whole k.log k.top u) m.0.seen l.x record { was = l.last.was; others = l.last.others; low = l.last.low };
              heard = tt;
              fixed_is = q.fixed_is;
              turn = q.turn;
              low = q.low;
              count = q.count;
              told = q.told;
              facts = q.facts;
            },
        (l.x, refl, l.later, l.order),
      )

  -- ---- seats joined

  -- a seat that was given up
  spent : (whole : Window E B) (log : List (Window E B)) (w : W) (held holder top j : ℕ) → Known whole log w held holder top j (note [])
  spent whole log w held holder top j = record {
    order = tt;
    seen = tt;
    heard = tt;
    fixed_is = λ n. absurd (false≢true n);
    turn = λ n. absurd (false≢true n);
    low = λ n. absurd (false≢true n);
    count = λ n. absurd (false≢true n);
    told = λ _. tt;
    facts = All-nil _;
  }

  pub joins : (id other : ℕ) (v w : V) → Joins Rule id v other w (hears v w) (note [])
  joins id other v w s k at ne at' =
      let q = k.seats id v at in
      let p = k.seats other w (sym (set_else s.views id other (hears v w) ne) ∙ at') in
      let s' : St = record { words = s.words; homes = s.homes; views = set s.views id (hears v w) } in
      let k' : Rule s' = changes s k id v (hears v w) s.words refl at (λ n. (n, refl)) (apart_of window base_after fixed caller_of holds tells apart about s k id v at) record {
        order = q.order;
        seen = weaken (Last k.whole k.log k.top v) (Last k.whole k.log k.top (hears v w)) (λ x l. record { was = l.was; others = l.others; low = l.low }) (last_of v.seen) q.seen;
        heard = weaken (Last k.whole k.log k.top w) (WasHad base_after k.whole k.log) (λ x l. l.was) (last_of w.seen) p.seen;
        fixed_is = q.fixed_is;
        turn = q.turn;
        low = q.low;
        count = q.count;
        told = q.told;
        facts = q.facts;
      } in
      changes s' k' other w (note []) s.words refl at' (λ n. absurd (false≢true n)) (λ j o _ _. (All-nil _, λ i d lt. All-nil _)) (spent k'.whole k'.log k'.value k'.held k'.holder k'.top other)

  -- ---- seats split

  pub notes : (id : ℕ) (v : V) → Splits Rule id v v (note v.seen)
  notes id v s k at = let q = k.seats id v at in subst (λ (vs : List V). Rule record { words = s.words; homes = s.homes; views = vs ++ note v.seen ∷ [] }) (sym (set_again s.views id v at))
      (views_change s k s.words (s.views ++ note v.seen ∷ []) k.top refl
      (where_one_comes (Known k.whole k.log k.value k.held k.holder k.top) s.views (note v.seen) k.seats record {
        order = q.order;
        seen = weaken (Last k.whole k.log k.top v) (Last k.whole k.log k.top (note v.seen)) (λ x l. record { was = l.was; others = λ n. absurd (false≢true n); low = λ n. absurd (false≢true n) }) (last_of v.seen) q.seen;
        heard = tt;
        fixed_is = λ n. absurd (false≢true n);
        turn = λ n. absurd (false≢true n);
        low = λ n. absurd (false≢true n);
        count = λ n. absurd (false≢true n);
        told = λ _. tt;
        facts = All-nil _;
      })
      (differ_more s.views (note v.seen) k.callers (λ i o e n nu. absurd (false≢true nu))) (separated_more apart s.views (note v.seen) refl k.apart_are))

  -- a number that no caller's exceeds stays one
  higher : (whole : Window E B) (log : List (Window E B)) (top : ℕ) (v u : V) → u.numbered ≡ v.numbered → u.caller ≡ v.caller → (o : Option (Window E B)) → IfSome o (Last whole log top v) → IfSome o (Last whole log (top + 1) u)
  higher whole log top v u is caller o h = weaken (Last whole log top v) (Last whole log (top + 1) u)
      (λ x l. record {
        was = l.was;
        others = λ n. subst (λ c. All (λ e. caller_of e ≢ c) l.was.rest) (sym caller) (l.others (sym is ∙ n));
        low = λ n z. All-weaker (λ e. caller_of e ≤ top) (λ e. caller_of e ≤ top + 1) (λ e h. omega arith) l.was.rest (l.low (sym is ∙ n) (sym caller ∙ z));
      })
      o h

  pub numbers : (id : ℕ) (v : V) → v.numbered ≡ true → v.caller ≡ 0 → Splits Rule id v (after_split v) (split_off v)
  numbers id v num zero' s k at =
      let q = k.seats id v at in
      let count : v.count ≡ k.top = q.count num zero' in
      let vs = set s.views id (after_split v) in
      views_change s k s.words (vs ++ split_off v ∷ []) (k.top + 1) refl
      (where_one_comes (Known k.whole k.log k.value k.held k.holder (k.top + 1)) vs (split_off v)
      (where_one_changes (Known k.whole k.log k.value k.held k.holder (k.top + 1)) s.views id (after_split v)
      record {
        order = q.order;
        seen = higher k.whole k.log k.top v (after_split v) refl refl (last_of v.seen) q.seen;
        heard = q.heard;
        fixed_is = q.fixed_is;
        turn = q.turn;
        low = λ n. let h = q.low n in omega arith;
        count = λ n z. ap (λ x. x + 1) count;
        told = q.told;
        facts = q.facts;
      }
      (λ j o ne at'. let p = k.seats j o at' in record {
        order = p.order;
        seen = higher k.whole k.log k.top o o refl refl (last_of o.seen) p.seen;
        heard = p.heard;
        fixed_is = p.fixed_is;
        turn = p.turn;
        low = λ n. let h = p.low n in omega arith;
        count = λ n z. absurd (ne (k.callers j id o v at' at n num (z ∙ sym zero')));
        told = p.told;
        facts = p.facts;
      }))
      record {
        order = q.order;
        seen = weaken (Last k.whole k.log k.top v) (Last k.whole k.log (k.top + 1) (split_off v))
            (λ x l. record {
              was = l.was;
              others = λ _. All-weaker (λ e. caller_of e ≤ k.top) (λ e. caller_of e ≢ v.count + 1) (λ e h same. omega arith) l.was.rest (l.low num zero');
              low = λ _ z. absurd (omega arith);
            })
            (last_of v.seen) q.seen;
        heard = tt;
        fixed_is = λ _. q.fixed_is num;
        turn = λ n. absurd (false≢true n);
        low = λ _. omega arith;
        count = λ _ z. absurd (omega arith);
        told = q.told;
        facts = All-nil _;
      })
      (differ_more vs (split_off v) (differ_still s.views id v (after_split v) at (λ n. (n, refl)) k.callers)
      (λ i o e n _ same. let h = where_one_changes (λ j o. o.numbered ≡ true → o.caller ≤ k.top) s.views id (after_split v) q.low (λ j o ne at'. (k.seats j o at').low) i o e n in omega arith))
      (separated_more apart vs (split_off v) refl (separated_still apart s.views id (after_split v) (apart_of window base_after fixed caller_of holds tells apart about s k id v at) k.apart_are))

  -- ---- the end

  -- what `close` found
  pub closes : (ws : List ℕ) (xs : List (Option W)) (id : ℕ) (v : V) (word : ℕ) (value : Option W) → v.numbered ≡ true → is_some (last_of v.seen) ≡ true → Final (Seen Rule id v) ws xs → get_elem? ws 0 ≡ some word → word % 2 ≡ 0 → get_elem? xs 0 ≡ some value
      → IfSome value (Finds window base_after fixed caller_of holds tells v)
  closes ws xs id v word value num begun f is even has =
      let s = f.0 in
      let k = f.1.0 in
      let q = k.seats id v f.1.1 in
      let x = item_there (last_of v.seen) begun in
      let found : word ≡ 2 * end_of (window k.value) + k.held = some-injective word _ (sym is ∙ ap (λ l. get_elem? l 0) (sym f.2 ∙ k.words)) in
      let bit = k.bit in
      let free : k.held ≡ 0 = omega arith in
      let this : value ≡ Some k.value = some-injective value _ (sym has ∙ f.4 0 (Some k.value) (ap (λ l. get_elem? l 0) (k.home free))) in
      subst (λ o. IfSome o (Finds window base_after fixed caller_of holds tells v)) (sym this) record {
        seen = finds_window window base_after fixed caller_of holds tells apart about s k v x.0 num x.1 q.seen;
        few = k.few;
        fixed_is = q.fixed_is num ∙ ap (λ (x : X). Some x) (sym k.fixed_is);
        facts = q.facts;
        told = q.told;
      }
