-- Turns with no other caller between them: all find the history with the same end, and the last alone leaves an entry, or none does.
use Rattle.std.proofs.Common.{◌≡◌, ℕ, ◌+◌, ◌-◌, List, [], ◌∷◌, ◌++◌, length, take, drop, Option, Some, None, refl, sym, ap, ◌∙◌, arith, subst, length-append}
use Rattle.std.specs.Prelude.{Bool, true, false, not, ◌||◌}
use Rattle.std.specs.List.{list_any}
use Rattle.std.specs.Option.{option_to_list}
use Rattle.std.proofs.Math.Seq.{take-append_seam, drop-append_seam}
use Rattle.std.proofs.lemmas.List.{drop_all}
use Rattle.std.proofs.lemmas.List.Elements.{All-nil}
use Rattle.mt_history.specs.declared.entry.Entry.{Entry}
use Rattle.mt_history.specs.Kept.{has_room}
use Rattle.mt_history.specs.Window.{replay}
use Rattle.mt_world.specs.Moves.{NewEntry}
use Rattle.mt_world.specs.WholeCalls.{Mark, AreMarksAt}
use Rattle.mt_front.specs.Items.{entries_of}
use Rattle.mt_front.specs.Answers.{Past, past_end, entries_before, entries_from, found, table_found, NoneOf, StandsFirst, RepliesFound, IsNextMark, place_behind, behind, AreNextMarks}
use Rattle.mt_front.proofs.FitLaws.{grown}

-- these entries are that of the caller's, or none
abbrev pub AreOwn : ℕ → Option NewEntry → List Entry → Type 0
AreOwn c None own = own ≡ []
AreOwn c (Some e) own = (number : ℕ) × (own ≡ (record { caller = c; number = number; what = e.what }) ∷ [])

abbrev pub mark : ℕ → Option NewEntry → Mark
mark place entry = record { place = place; entry = entry }

own_stands : (c : ℕ) (o : Option NewEntry) (own : List Entry) → AreOwn c o own → StandsFirst c o own
own_stands c None own a = tt
own_stands c (Some e) own a = (a.0, [], a.1)

pub own_long : (c : ℕ) (o : Option NewEntry) (own : List Entry) (n : ℕ) → AreOwn c o own → n + length own ≡ place_behind n o
own_long c None own n a = let l : length own ≡ 0 = ap length a in omega (arith, l)
own_long c (Some e) own n a = let l : length own ≡ 1 = ap length a.1 in omega (arith, l)

pub left_at : (place : ℕ) (o : Option NewEntry) (marks : List Mark) → AreMarksAt place o marks → entries_of marks ≡ option_to_list o
left_at place o [] h = absurd h
left_at place None (m ∷ []) h = rw h refl
left_at place (Some e) (m ∷ []) h = rw h refl
left_at place o (m ∷ next ∷ marks) h = rw h.0 (left_at place o (next ∷ marks) h.1)

-- a test of the place alone
or_same : (b : Bool) → (b || b) ≡ b
or_same true = refl
or_same false = refl

pub or_none : (b : Bool) → (b || false) ≡ b
or_none true = refl
or_none false = refl

any_at : (test : ℕ → Bool) (place : ℕ) (o : Option NewEntry) (marks : List Mark) → AreMarksAt place o marks → list_any (λ (m : Mark). test m.place) marks ≡ test place
any_at test place o [] h = absurd h
any_at test place o (m ∷ []) h = ap (λ (n : Mark). test n.place || false) h ∙ or_none (test place)
any_at test place o (m ∷ next ∷ marks) h = ap (λ (n : Mark). test n.place || list_any (λ (k : Mark). test k.place) (next ∷ marks)) h.0 ∙ ap (λ b. test place || b) (any_at test place o (next ∷ marks) h.1) ∙ or_same (test place)

module _ (c : ℕ) (T : Type 0) (past : Past) (o : Option NewEntry) (own : List Entry) (are : AreOwn c o own) where
  at_end : past_end past - past.window.first ≡ length past.window.entries
  at_end = omega arith

  ends : length (past.window.entries ++ own) ≡ length past.window.entries + length own
  ends = length-append past.window.entries own

  old_entries : entries_before (grown past own) (past_end past) ≡ past.window.entries
  old_entries = ap (λ n. take n (past.window.entries ++ own)) at_end ∙ take-append_seam past.window.entries own

  pub table_at : table_found (grown past own) (past_end past) ≡ replay past.window.base past.window.entries
  table_at = ap (replay past.window.base) old_entries

  pub room_at : (need : ℕ) (marks : List Mark) → AreMarksAt (past_end past) o marks
      → list_any (λ (m : Mark). not (has_room (found (grown past own) m.place) need)) marks ≡ not (has_room (record { first = past.window.first; entries = past.window.entries; limit = past.limit; spare = 0 }) need)
  room_at need marks h =
      any_at (λ place. not (has_room (found (grown past own) place) need)) (past_end past) o marks h
      ∙ ap (λ (l : List Entry). not (has_room (record { first = past.window.first; entries = l; limit = past.limit; spare = 0 }) need)) old_entries

  next_at : (entry : Option NewEntry) → StandsFirst c entry own → (T → RepliesFound (grown past own) (past_end past) entry) → IsNextMark c T (grown past own) (past_end past) (mark (past_end past) entry)
  next_at entry stands replies = record {
    order = omega arith;
    within = omega (arith, ends);
    between = subst (λ n. NoneOf c (take n (drop (past_end past - past.window.first) (past.window.entries ++ own)))) (let z : 0 ≡ (past_end past - past.window.first) - (past_end past - past.window.first) = omega arith in z) (All-nil (λ (e : Entry). e.caller ≡ c → ⊥));
    stands = subst (StandsFirst c entry) (sym (ap (λ n. drop n (past.window.entries ++ own)) at_end ∙ drop-append_seam past.window.entries own)) stands;
    replies = replies;
  }

  pub marks_at : (T → RepliesFound (grown past own) (past_end past) o) → (marks : List Mark) → AreMarksAt (past_end past) o marks → AreNextMarks c T (grown past own) (past_end past) marks
  marks_at replies [] h = absurd h
  marks_at replies (m ∷ []) h = (subst (IsNextMark c T (grown past own) (past_end past)) (sym h) (next_at o (own_stands c o own are) replies), tt)
  marks_at replies (m ∷ next ∷ marks) h = (
    subst (IsNextMark c T (grown past own) (past_end past)) (sym h.0) (next_at None tt (λ t. tt)),
    subst (λ (n : Mark). AreNextMarks c T (grown past own) (place_behind n.place n.entry) (next ∷ marks)) (sym h.0) (marks_at replies (next ∷ marks) h.1),
  )

  pub behind_at : (marks : List Mark) → AreMarksAt (past_end past) o marks → behind (past_end past) marks ≡ place_behind (past_end past) o
  behind_at [] h = absurd h
  behind_at (m ∷ []) h = ap (λ (n : Mark). place_behind n.place n.entry) h
  behind_at (m ∷ next ∷ marks) h = ap (λ (n : Mark). behind (place_behind n.place n.entry) (next ∷ marks)) h.0 ∙ behind_at (next ∷ marks) h.1

  pub none_at : (marks : List Mark) → AreMarksAt (past_end past) o marks → NoneOf c (entries_from (grown past own) (behind (past_end past) marks))
  none_at marks h =
      subst (NoneOf c) (sym (drop_all (behind (past_end past) marks - past.window.first) (past.window.entries ++ own)
      (let long : past_end past + length own ≡ place_behind (past_end past) o = own_long c o own (past_end past) are in omega (arith, long, behind_at marks h, ends)))) (All-nil (λ (e : Entry). e.caller ≡ c → ⊥))
