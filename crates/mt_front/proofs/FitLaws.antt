-- How the items of a connection go on fitting a history that grows.
use Rattle.std.proofs.Common.{◌≡◌, ◌≢◌, ℕ, ◌+◌, ◌-◌, ◌≤◌, List, [], ◌∷◌, ◌++◌, length, take, drop, Option, Some, None, refl, sym, ap, ◌∙◌, arith, subst, length-append}
use Rattle.std.specs.Prelude.{not, ◌||◌, IfSome}
use Rattle.std.specs.List.{list_any, slice_range}
use Rattle.std.proofs.lemmas.List.{take-append-le, drop-append-le, drop-drop, take_rest, length-drop}
use Rattle.std.proofs.lemmas.List.Elements.{All-append}
use Rattle.std.proofs.lemmas.List.Folds.{drop_split}
use Rattle.std.proofs.Math.Seq.{take-add}
use Rattle.mt_history.specs.declared.entry.Entry.{Entry}
use Rattle.mt_history.specs.Kept.{Kept, has_room}
use Rattle.mt_history.specs.Window.{replay}
use Rattle.mt_history.specs.Replies.{Replies}
use Rattle.mt_world.specs.Moves.{NewEntry}
use Rattle.mt_world.specs.WholeCalls.{Mark}
use Rattle.mt_front.specs.Items.{Item, is_full, need_of}
use Rattle.mt_front.specs.Answers.{Past, past_end, entries_before, entries_from, entries_between, found, NoneOf, StandsFirst, RepliesFound, IsNextMark, place_behind, behind, AreNextMarks, FitsAt, FitsFrom}

-- ---- parts of lists

slice_more : (xs ys : List Entry) (a b : ℕ) → a ≤ b → b ≤ length xs → slice_range (xs ++ ys) a b ≡ slice_range xs a b
slice_more xs ys a b order within =
    ap (take (b - a)) (drop-append-le a xs ys (omega (arith, order, within)))
    ∙ take-append-le (b - a) (drop a xs) ys (let l : length (drop a xs) ≡ length xs - a = length-drop a xs in omega (arith, l, within))

slice_join : (xs : List Entry) (a b c : ℕ) → a ≤ b → b ≤ c → slice_range xs a c ≡ slice_range xs a b ++ slice_range xs b c
slice_join xs a b c ab bc =
    ap (λ n. take n (drop a xs)) (let e : c - a ≡ (b - a) + (c - b) = omega (arith, ab, bc) in e)
    ∙ take-add (b - a) (c - b) (drop a xs)
    ∙ ap (λ l. slice_range xs a b ++ take (c - b) l) (drop-drop (b - a) a xs)
    ∙ ap (λ n. slice_range xs a b ++ take (c - b) (drop n xs)) (let e : a + (b - a) ≡ b = omega (arith, ab) in e)

slice_to_end : (xs ys : List Entry) (a : ℕ) → a ≤ length xs → slice_range (xs ++ ys) a (length xs) ≡ drop a xs
slice_to_end xs ys a within = slice_more xs ys a (length xs) within (omega arith) ∙ take_rest xs a

none_both : (c : ℕ) (xs ys : List Entry) → NoneOf c xs → NoneOf c ys → NoneOf c (xs ++ ys)
none_both c xs ys p q = All-append (λ (e : Entry). e.caller ≢ c) xs ys p q

-- ---- places

-- the history with more entries behind the last
abbrev pub grown : Past → List Entry → Past
grown past more = record { window = record { first = past.window.first; base = past.window.base; entries = past.window.entries ++ more }; limit = past.limit }

module _ (c : ℕ) (T : Type 0) (past : Past) where
  -- an entry that stands at a place is no longer behind it
  behind_one : (o : Option NewEntry) (place : ℕ) → place ≤ past_end past → StandsFirst c o (entries_from past place) → place_behind place o ≤ past_end past
  behind_one None place within s = within
  behind_one (Some e) place within s =
      let long : length (entries_from past place) ≡ length past.window.entries - (place - past.window.first) = length-drop (place - past.window.first) past.window.entries in
      let more : length (entries_from past place) ≡ length s.1 + 1 = ap length s.2 ∙ omega arith in
      omega (arith, within, long, more)

  pub behind_within : (from : ℕ) (marks : List Mark) → from ≤ past_end past → AreNextMarks c T past from marks → behind from marks ≤ past_end past
  behind_within from [] le h = le
  behind_within from (m ∷ marks) le h = behind_within (place_behind m.place m.entry) marks (behind_one m.entry m.place h.0.within h.0.stands) h.1

-- ---- under a stronger premise less is said

module _ (c : ℕ) (T T' : Type 0) (f : T' → T) (past : Past) where
  pub marks_sooner : (from : ℕ) (marks : List Mark) → AreNextMarks c T past from marks → AreNextMarks c T' past from marks
  marks_sooner from [] h = tt
  marks_sooner from (m ∷ marks) h = (
    record { order = h.0.order; within = h.0.within; between = h.0.between; stands = h.0.stands; replies = λ t. h.0.replies (f t) },
    marks_sooner (place_behind m.place m.entry) marks h.1,
  )

  pub fits_sooner : (from : ℕ) (items : List Item) (broken : List Mark) → FitsFrom c T past from items broken → FitsFrom c T' past from items broken
  fits_sooner from [] broken h = record { marks = marks_sooner from broken h.marks; no_batch = h.no_batch; behind_them = h.behind_them }
  fits_sooner from (i ∷ items) broken h = (record { marks = marks_sooner from i.marks h.0.marks; room = h.0.room }, fits_sooner (behind from i.marks) items broken h.1)

-- ---- the history grows

module _ (c : ℕ) (T : Type 0) (past : Past) (more : List Entry) where
  before_more : (place : ℕ) → place ≤ past_end past → entries_before (grown past more) place ≡ entries_before past place
  before_more place within = take-append-le (place - past.window.first) past.window.entries more (omega (arith, within))

  from_more : (place : ℕ) → place ≤ past_end past → entries_from (grown past more) place ≡ entries_from past place ++ more
  from_more place within = drop-append-le (place - past.window.first) past.window.entries more (omega (arith, within))

  between_more : (from place : ℕ) → from ≤ place → place ≤ past_end past → entries_between (grown past more) from place ≡ entries_between past from place
  between_more from place order within = slice_more past.window.entries more (from - past.window.first) (place - past.window.first) (omega (arith, order)) (omega (arith, within))

  found_same : (place : ℕ) → place ≤ past_end past → found (grown past more) place ≡ found past place
  found_same place within = ap (λ (l : List Entry). record { first = past.window.first; entries = l; limit = past.limit; spare = 0 }) (before_more place within)

  stands_more : (o : Option NewEntry) (place : ℕ) → place ≤ past_end past → StandsFirst c o (entries_from past place) → StandsFirst c o (entries_from (grown past more) place)
  stands_more None place within s = tt
  stands_more (Some e) place within s = (s.0, s.1 ++ more, from_more place within ∙ ap (λ (l : List Entry). l ++ more) s.2)

  replies_more : (o : Option NewEntry) (place : ℕ) → place ≤ past_end past → RepliesFound past place o → RepliesFound (grown past more) place o
  replies_more None place within r = tt
  replies_more (Some e) place within r = subst (λ (l : List Entry). Replies e.what (replay past.window.base l) e.reply) (sym (before_more place within)) r

  next_more : (from : ℕ) (m : Mark) → IsNextMark c T past from m → IsNextMark c T (grown past more) from m
  next_more from m h = record {
    order = h.order;
    within = let l : length (past.window.entries ++ more) ≡ length past.window.entries + length more = length-append past.window.entries more in omega (arith, h.within, l);
    between = subst (NoneOf c) (sym (between_more from m.place h.order h.within)) h.between;
    stands = stands_more m.entry m.place h.within h.stands;
    replies = λ t. replies_more m.entry m.place h.within (h.replies t);
  }

  pub marks_more : (from : ℕ) (marks : List Mark) → AreNextMarks c T past from marks → AreNextMarks c T (grown past more) from marks
  marks_more from [] h = tt
  marks_more from (m ∷ marks) h = (next_more from m h.0, marks_more (place_behind m.place m.entry) marks h.1)

  pub room_more : (need : ℕ) (from : ℕ) (marks : List Mark) → AreNextMarks c T past from marks
      → list_any (λ (m : Mark). not (has_room (found (grown past more) m.place) need)) marks ≡ list_any (λ (m : Mark). not (has_room (found past m.place) need)) marks
  room_more need from [] h = refl
  room_more need from (m ∷ marks) h =
      ap (λ (k : Kept). not (has_room k need) || list_any (λ (n : Mark). not (has_room (found (grown past more) n.place) need)) marks) (found_same m.place h.0.within)
      ∙ ap (λ b. not (has_room (found past m.place) need) || b) (room_more need (place_behind m.place m.entry) marks h.1)

  found_more : (o : Option ℕ) (i : Item) (from : ℕ) → AreNextMarks c T past from i.marks
      → IfSome o (λ need. is_full i.outcome ≡ list_any (λ (m : Mark). not (has_room (found past m.place) need)) i.marks)
      → IfSome o (λ need. is_full i.outcome ≡ list_any (λ (m : Mark). not (has_room (found (grown past more) m.place) need)) i.marks)
  found_more None i from h r = tt
  found_more (Some need) i from h r = r ∙ sym (room_more need from i.marks h)

  fits_at_more : (from : ℕ) (i : Item) → FitsAt c T past from i → FitsAt c T (grown past more) from i
  fits_at_more from i h = record { marks = marks_more from i.marks h.marks; room = found_more (need_of i.asks) i from h.marks h.room }

  -- entries of others come behind
  pub fits_beside : (from : ℕ) (items : List Item) (broken : List Mark) → from ≤ past_end past → NoneOf c more → FitsFrom c T past from items broken → FitsFrom c T (grown past more) from items broken
  fits_beside from [] broken le none h = record {
    marks = marks_more from broken h.marks;
    no_batch = h.no_batch;
    behind_them = subst (NoneOf c) (sym (from_more (behind from broken) (behind_within c T past from broken le h.marks))) (none_both c (entries_from past (behind from broken)) more h.behind_them none);
  }
  fits_beside from (i ∷ items) broken le none h = (fits_at_more from i h.0, fits_beside (behind from i.marks) items broken (behind_within c T past from i.marks le h.0.marks) none h.1)

-- ---- an earlier place to look from

module _ (c : ℕ) (T : Type 0) (past : Past) (last from : ℕ) (le : last ≤ from) (none : NoneOf c (entries_between past last from)) where
  next_before : (m : Mark) → IsNextMark c T past from m → IsNextMark c T past last m
  next_before m h = record {
    order = omega (arith, le, h.order);
    within = h.within;
    between = subst (NoneOf c) (sym (slice_join past.window.entries (last - past.window.first) (from - past.window.first) (m.place - past.window.first) (omega (arith, le)) (omega (arith, h.order))))
        (none_both c (entries_between past last from) (entries_between past from m.place) none h.between);
    stands = h.stands;
    replies = h.replies;
  }

  marks_before : (marks : List Mark) → AreNextMarks c T past from marks → AreNextMarks c T past last marks
  marks_before [] h = tt
  marks_before (m ∷ marks) h = (next_before m h.0, h.1)

  none_before : (marks : List Mark) → NoneOf c (entries_from past (behind from marks)) → NoneOf c (entries_from past (behind last marks))
  none_before [] h = subst (NoneOf c) (sym (drop_split past.window.entries (last - past.window.first) (from - past.window.first) (omega (arith, le)))) (none_both c (entries_between past last from) (entries_from past from) none h)
  none_before (m ∷ marks) h = h

  fits_before : (items : List Item) (broken : List Mark) → FitsFrom c T past from items broken → FitsFrom c T past last items broken
  fits_before [] broken h = record { marks = marks_before broken h.marks; no_batch = h.no_batch; behind_them = none_before broken h.behind_them }
  fits_before (i ∷ items) broken h = (
    record { marks = marks_before i.marks h.0.marks; room = h.0.room },
    elim i.marks as (λ marks. FitsFrom c T past (behind from marks) items broken → FitsFrom c T past (behind last marks) items broken) [
      | [] ↦ λ g. fits_before items broken g
      | m ∷ marks ↦ λ g. g
    ] h.1,
  )

-- ---- one history after another

module _ (c : ℕ) (T : Type 0) (past : Past) (more : List Entry) where
  all_between : (from : ℕ) → from ≤ past_end past → entries_between (grown past more) from (past_end past) ≡ entries_from past from
  all_between from le =
      ap (slice_range (past.window.entries ++ more) (from - past.window.first)) (let e : past_end past - past.window.first ≡ length past.window.entries = omega arith in e)
      ∙ slice_to_end past.window.entries more (from - past.window.first) (omega (arith, le))

  -- items that found all old entries, and left theirs among the new ones
  pub fits_join : (from : ℕ) (items later : List Item) (broken : List Mark) → from ≤ past_end past → FitsFrom c T past from items []
      → FitsFrom c T (grown past more) (past_end past) later broken → FitsFrom c T (grown past more) from (items ++ later) broken
  fits_join from [] later broken le h g = fits_before c T (grown past more) from (past_end past) le (subst (NoneOf c) (sym (all_between from le)) h.behind_them) later broken g
  fits_join from (i ∷ items) later broken le h g = (fits_at_more c T past more from i h.0, fits_join (behind from i.marks) items later broken (behind_within c T past from i.marks le h.0.marks) h.1 g)

-- entries of others come behind, and then an item's own
pub fits_turn : (c : ℕ) (T : Type 0) (past : Past) (others own : List Entry) (from : ℕ) (items : List Item) (i : Item) → from ≤ past_end past → FitsFrom c T past from items [] → NoneOf c others
    → FitsFrom c T (grown (grown past others) own) (past_end (grown past others)) (i ∷ []) [] → FitsFrom c T (grown (grown past others) own) from (items ++ i ∷ []) []
fits_turn c T past others own from items i le h none one =
    let long : length (past.window.entries ++ others) ≡ length past.window.entries + length others = length-append past.window.entries others in
    fits_join c T (grown past others) own from items (i ∷ []) [] (omega (arith, le, long)) (fits_beside c T past others from items [] le none h) one
