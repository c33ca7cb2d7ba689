-- The first row that does not pass a test, and the partition that it begins.
use Rattle.std.proofs.Common.{◌≡◌, ℕ, zero, suc, ◌<◌, ◌≤◌, Bool, true, false, List, [], ◌∷◌, ◌++◌, length, get_or, take, drop, refl, sym, ap, ◌∙◌, subst, arith, bytes_eq, Option, Some, None, option_map, Less, Equal, Greater, Ordering}
use Rattle.std.proofs.lemmas.List.{append-nil, length-append}
use Rattle.std.specs.Ordering.{nat_cmp, is_le, is_eq, ordering_reverse}
use Rattle.std.specs.Cmp.{tied_itself}
use Rattle.std.specs.Cmp.Lexicographic.{slice_cmp, nat_list_cmp_total, texts_ties}
use Rattle.mt_model.specs.declared.key.Key.{Key}
use Rattle.mt_chain.specs.declared.row.Stored.{Stored}
use Rattle.mt_chain.specs.declared.query.PkFrom.{PkFrom}
use Rattle.mt_chain.specs.declared.query.PkFrom.TheVariants.{From}
use Rattle.mt_chain.specs.Rows.{Rows, are_rising, has_partition, is_past}
use Rattle.mt_chain.specs.Places.{IsCut, is_passed}
use Rattle.mt_chain.specs.StoreCall.{IsNext}
use Rattle.mt_chain.proofs.KeyLaws.{text_true, text_same}
use Rattle.mt_mem.specs.Entries.{Row, entries}
use Rattle.mt_mem.proofs.AnswerLaws.{next_none, next_some}
use Rattle.mt_paged.specs.Pages.{joined, sheets, first_of}
use Rattle.mt_paged.specs.Fronts.{AllPass, NonePasses, IsSpot}
use Rattle.mt_paged.specs.Walks.{IsFirstPast}
use Rattle.mt_paged.proofs.SheetLaws.{joined_sheets}

abbrev Entry : Type 0
Entry = Key × Stored

pub first_past_spot : (test : Key → Bool) (pages : List (List Row)) (at place : ℕ) (next : Option Entry) → IsSpot test (sheets pages) at place
    → next ≡ first_of (drop place (get_or (sheets pages) at []) ++ joined (drop (suc at) (sheets pages))) → IsFirstPast test (entries (joined pages)) next
first_past_spot test pages at place next spot is = record {
  before = joined (take at (sheets pages)) ++ take place (get_or (sheets pages) at []);
  rest = drop place (get_or (sheets pages) at []) ++ joined (drop (suc at) (sheets pages));
  whole = joined_sheets pages ∙ spot.whole;
  pass = spot.before;
  none = spot.from;
  first = is;
}

pub no_first : (test : Key → Bool) → IsFirstPast test [] None
no_first test = record { before = []; rest = []; whole = refl; pass = tt; none = tt; first = refl }

-- ---- where the rows that pass end

module _ (test : Key → Bool) where
  none_at : (rows : Rows) → NonePasses test rows → (k : ℕ) (d : Entry) → k < length rows → test (get_or rows k d).0 ≡ false
  none_at [] h k d l = absurd (omega arith)
  none_at (e ∷ rows) h zero d l = h.0
  none_at (e ∷ rows) h (suc k) d l = none_at rows h.1 k d (omega arith)

  cut_before : (A B : Rows) → AllPass test A → (k : ℕ) (d : Entry) → k < length A → test (get_or (A ++ B) k d).0 ≡ true
  cut_before [] B h k d l = absurd (omega arith)
  cut_before (e ∷ A) B h zero d l = h.0
  cut_before (e ∷ A) B h (suc k) d l = cut_before A B h.1 k d (omega arith)

  cut_from : (A B : Rows) → NonePasses test B → (k : ℕ) (d : Entry) → length A ≤ k → k < length (A ++ B) → test (get_or (A ++ B) k d).0 ≡ false
  cut_from [] B h k d le l = none_at B h k d l
  cut_from (e ∷ A) B h zero d le l = absurd (omega arith)
  cut_from (e ∷ A) B h (suc k) d le l = cut_from A B h k d (omega arith) (omega arith)

  cut_of : (A B : Rows) → AllPass test A → NonePasses test B → IsCut test (A ++ B) (length A)
  cut_of A B pass none = ((let n = length-append A B in omega (arith, n)), ((λ k d z l. cut_before A B pass k d l), (λ k d le l. cut_from A B none k d le l)))

get_past : (A B : Rows) (e d : Entry) → get_or (A ++ e ∷ B) (length A) d ≡ e
get_past [] B e d = refl
get_past (a ∷ A) B e d = get_past A B e d

-- ---- the next partition

next_parts : (at : PkFrom) (A B : Rows) → are_rising (A ++ B) ≡ true → AllPass (is_passed at) A → NonePasses (is_passed at) B → IsNext at (option_map (λ (e : Entry). e.0.pk) (first_of B)) (A ++ B)
next_parts at A [] up pass none = next_none at (A ++ []) (length A) (cut_of (is_passed at) A [] pass none) (let n = ap length (append-nil A) in omega (arith, n))
next_parts at A (e ∷ B) up pass none =
    subst (λ pk. IsNext at (Some pk) (A ++ e ∷ B)) (ap (λ (f : Entry). f.0.pk) (get_past A B e e))
    (next_some at (A ++ e ∷ B) (length A) e up (cut_of (is_passed at) A (e ∷ B) pass none) (let n = length-append A (e ∷ B) in omega (arith, n)))

pub next_past : (at : PkFrom) (rows : Rows) (next : Option Entry) → are_rising rows ≡ true → IsFirstPast (is_passed at) rows next → IsNext at (option_map (λ (e : Entry). e.0.pk) next) rows
next_past at rows next up past =
    subst (λ (n : Option Entry). IsNext at (option_map (λ (e : Entry). e.0.pk) n) rows) (sym past.first)
    (subst (λ (rs : Rows). IsNext at (option_map (λ (e : Entry). e.0.pk) (first_of past.rest)) rs) (sym past.whole)
    (next_parts at past.before past.rest (ap are_rising (sym past.whole) ∙ up) past.pass past.none))

-- ---- whether a partition has rows

begins_itself : (pk : List ℕ) → is_past (From pk) pk ≡ true
begins_itself pk = ap is_le (tied_itself nat_list_cmp_total pk)

-- a partition key of the first row from a partition on
abbrev pub is_of : List ℕ → Option (List ℕ) → Bool
is_of pk None = false
is_of pk (Some other) = bytes_eq pk other

both_le : (a b : List ℕ) → is_le (slice_cmp nat_cmp a b) ≡ true → is_le (slice_cmp nat_cmp b a) ≡ true → a ≡ b
both_le a b ab ba = go (slice_cmp nat_cmp a b) refl ab where
  go : (o : Ordering) → slice_cmp nat_cmp a b ≡ o → is_le o ≡ true → a ≡ b
  go Less e h = (let no : false ≡ true = sym (ap is_le (nat_list_cmp_total.antisymm b a ∙ ap ordering_reverse e)) ∙ ba in absurd cc)
  go Equal e h = text_true a b (texts_ties a b ∙ ap is_eq e)
  go Greater e h = absurd cc

pub has_next : (pk : List ℕ) (rows : Rows) (next : Option (List ℕ)) → IsNext (From pk) next rows → is_of pk next ≡ has_partition rows pk
has_next pk rows None h = sym (h pk (begins_itself pk))
has_next pk rows (Some other) h = go (bytes_eq pk other) (has_partition rows pk) refl refl where
  go : (same has : Bool) → bytes_eq pk other ≡ same → has_partition rows pk ≡ has → same ≡ has
  go true true s e = refl
  go false false s e = refl
  go true false s e = (let there = ap (has_partition rows) (text_true pk other s) ∙ h.1 in absurd cc)
  go false true s e = (let tie = both_le pk other h.0 (h.2 pk (begins_itself pk) e) in let no : false ≡ true = sym s ∙ ap (bytes_eq pk) (sym tie) ∙ text_same pk in absurd cc)
