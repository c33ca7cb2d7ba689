-- Laws for callers: what they may give, and what windows in order say.
use Rattle.std.proofs.Common.{◌≡◌, ℕ, ◌+◌, ◌≤◌, Bool, true, false, cond, List, [], ◌∷◌, ◌++◌, sym, refl, ap, ◌∙◌, subst, inl, inr, arith}
use Rattle.std.proofs.lemmas.List.{append-nil}
use Rattle.std.proofs.lemmas.List.Elements.{All-nil, All-cons}
use Rattle.mt_turn.specs.declared.view.Window.{Window}
use Rattle.mt_turn.specs.Windows.{last_of, end_of, replay, Follows, HasSeen}
use Rattle.mt_turn.specs.Turns.{MayGive, IsLater}
use Rattle.mt_turn.proofs.WindowLaws.{nothing, same_item, last_snoc, follows_by_self, no_earlier}

-- ---- what a caller may give

module _ {E B : Type 0} (base_after : B → E → B) (caller_of : E → ℕ) (caller : ℕ) (w : Window E B) where
  -- what was taken
  pub gives_same : MayGive base_after caller_of caller w w
  gives_same = record { cut = []; more = []; follows = follows_by_self base_after w; few = omega arith; own = All-nil _; one_kind = inl refl }

  -- one entry more
  pub gives_one : (e : E) → caller_of e ≡ caller → MayGive base_after caller_of caller w record { first = w.first; base = w.base; entries = w.entries ++ e ∷ [] }
  gives_one e own = record {
    cut = [];
    more = e ∷ [];
    follows = record { entries = refl; first = omega arith; base = refl };
    few = omega arith;
    own = All-cons (λ e. caller_of e ≡ caller) e [] own (All-nil _);
    one_kind = inl refl;
  }

  -- one entry more, or what was taken
  pub gives_at_most_one : (e : E) (b : Bool) (entries : List E) → caller_of e ≡ caller → entries ≡ cond b (w.entries ++ e ∷ []) w.entries → MayGive base_after caller_of caller w record { first = w.first; base = w.base; entries = entries }
  gives_at_most_one e b entries own is = subst (λ es. MayGive base_after caller_of caller w record { first = w.first; base = w.base; entries = es }) (sym is) (by_case b)
    where
      by_case : (b : Bool) → MayGive base_after caller_of caller w record { first = w.first; base = w.base; entries = cond b (w.entries ++ e ∷ []) w.entries }
      by_case true = gives_one e own
      by_case false = gives_same

  -- without its first entry
  pub gives_cut : (e : E) (rest : List E) → w.entries ≡ e ∷ rest → MayGive base_after caller_of caller w record { first = w.first + 1; base = base_after w.base e; entries = rest }
  gives_cut e rest is = record {
    cut = e ∷ [];
    more = [];
    follows = record { entries = append-nil w.entries ∙ is; first = refl; base = refl };
    few = omega arith;
    own = All-nil _;
    one_kind = inr refl;
  }

-- ---- what windows in order say

module _ {E B : Type 0} (base_after : B → E → B) where
  -- where nothing was cut, a later window has the same base and the same entries in front
  pub uncut : (u v : Window E B) → Follows base_after u v → u.first ≡ v.first → (more : List E) × (u.entries ≡ v.entries ++ more) × (u.base ≡ v.base)
  uncut u v f same =
      let e = f.by.first in
      let none : f.cut ≡ [] = nothing f.cut (omega arith) in
      (f.more, sym (f.by.entries ∙ ap (λ l. l ++ u.entries) none), f.by.base ∙ ap (replay base_after v.base) none)

  -- who meets another has seen as much as that one
  pub has_seen_as_much : (mine theirs : List (Window E B)) (x : Window E B) (place : ℕ) → IsLater base_after (last_of mine) (last_of theirs) x → HasSeen theirs place → HasSeen (mine ++ x ∷ []) place
  has_seen_as_much mine theirs x place l has =
      let b = l.follows_theirs in
      let late = no_earlier base_after x has.now (subst (Follows base_after x) (same_item (sym b.1 ∙ has.is_last)) b.2) in
      let ends = late.1 in
      let reaches = has.reaches in
      record { now = x; is_last = last_snoc mine x; reaches = omega arith }

module _ {E B : Type 0} where
  -- a pass that saw this window last
  pub has_seen_last : (seen : List (Window E B)) (x : Window E B) (place : ℕ) → place ≤ end_of x → HasSeen (seen ++ x ∷ []) place
  has_seen_last seen x place reaches = record { now = x; is_last = last_snoc seen x; reaches = reaches }
