-- What matches a filter matches each of its conjuncts, and so keeps to each text that bounds it.
use Rattle.std.proofs.Common.{◌≡◌, ℕ, Bool, true, false, cond, ◌&&◌, List, [], ◌∷◌, ◌++◌, refl, Option, Some, None}
use Rattle.std.specs.Prelude.{IsTrue, IfSome, slice_get}
use Rattle.std.specs.Option.{option_or}
use Rattle.std.specs.List.{All, cons_option, filter_map}
use Rattle.std.specs.declared.cmp.Ordering.{Ordering}
use Rattle.std.specs.declared.cmp.Ordering.TheVariants.{Less, Equal, Greater}
use Rattle.std.proofs.lemmas.List.Elements.{All-append, All-cons, All-nil, All-head, All-tail, filter_map-append}
use Rattle.mt_model.proofs.Places.{cmp}
use Rattle.mt_model.specs.declared.key.Key.{Key}
use Rattle.mt_model.specs.declared.key.KeyPart.{KeyPart}
use Rattle.mt_model.specs.declared.key.KeyPart.TheVariants.{Partition, Row}
use Rattle.mt_model.specs.declared.value.Prop.{Prop}
use Rattle.mt_model.specs.declared.value.Value.{Value}
use Rattle.mt_model.specs.declared.value.Value.TheVariants.{Str, Binary, Bool as Boolean, Int32, Int64, Guid, Moment}
use Rattle.mt_filter.specs.declared.filter.Compare.{Compare}
use Rattle.mt_filter.specs.declared.filter.Compare.TheVariants.{Eq, Ne, Gt, Ge, Lt, Le}
use Rattle.mt_filter.specs.declared.filter.Field.{Field}
use Rattle.mt_filter.specs.declared.filter.Field.TheVariants.{PartitionKey, RowKey, Property}
use Rattle.mt_filter.specs.Tree.{Tree, test, not as negation, and, or}
use Rattle.mt_match.specs.Match.{holds, matches, passes, field_value}
use Rattle.mt_match.specs.Partition.{conjuncts, named_partition, atomic_partition}
use Rattle.mt_match.specs.Bounds.{IsAtMost, bounds_below, bounds_above, key_text, low_text, high_text, low_texts, high_texts, IsNarrowest, IsWithin, IsLeast, IsLowEnd}
use Rattle.mt_match.specs.declared.bounds.Bounds.{Bounds}
use Rattle.mt_match.proofs.Texts.{at_most_less, at_most_equal, at_most_turned_equal, at_most_greater, below_all, above_all}

-- the first of two lists together
pub first-append : (xs ys : List (List ℕ)) → slice_get (xs ++ ys) 0 ≡ option_or (slice_get xs 0) (slice_get ys 0)
first-append [] ys = refl
first-append (x ∷ xs) ys = refl

pub partition_either : (t u : Tree) → atomic_partition (and t u) ≡ option_or (atomic_partition t) (atomic_partition u)
partition_either t u =
    rw (filter_map-append named_partition (conjuncts t) (conjuncts u))
    (first-append (filter_map named_partition (conjuncts t)) (filter_map named_partition (conjuncts u)))

both : (a b : Bool) → IsTrue (a && b) → IsTrue a × IsTrue b
both true true h = (refl, refl)
both true false h = cc
both false b h = cc

matches_each : (t : Tree) (key : Key) (props : List Prop) → IsTrue (matches t key props) → All (λ u. IsTrue (matches u key props)) (conjuncts t)
matches_each (and t u) key props h =
    let parts = both (matches t key props) (matches u key props) h in
    All-append (λ v. IsTrue (matches v key props)) (conjuncts t) (conjuncts u) (matches_each t key props parts.0) (matches_each u key props parts.1)
matches_each (test field compare literal) key props h =
    let P : Tree → Type 0 = λ v. IsTrue (matches v key props) in All-cons P (test field compare literal) [] h (All-nil P)
matches_each (negation t) key props h = let P : Tree → Type 0 = λ v. IsTrue (matches v key props) in All-cons P (negation t) [] h (All-nil P)
matches_each (or t u) key props h = let P : Tree → Type 0 = λ v. IsTrue (matches v key props) in All-cons P (or t u) [] h (All-nil P)

-- the text of that part of a key
abbrev pub part_of : KeyPart → Key → List ℕ
part_of Partition key = key.pk
part_of Row key = key.rk

-- a test that gives a text compares the part of the key with it
record Compares (part : KeyPart) (field : Field) (literal : Value) (text : List ℕ) : Type 0 where
  value : (key : Key) (props : List Prop) → field_value field key props ≡ Some (Str (part_of part key))
  same : literal ≡ Str text

compares : (part : KeyPart) (field : Field) (literal : Value) (text : List ℕ) → key_text part field literal ≡ Some text → Compares part field literal text
compares Partition PartitionKey (Str other) text e = record { value = λ key props. refl; same = cc }
compares Partition PartitionKey (Binary b) text e = cc
compares Partition PartitionKey (Boolean b) text e = cc
compares Partition PartitionKey (Int32 n) text e = cc
compares Partition PartitionKey (Int64 n) text e = cc
compares Partition PartitionKey (Guid g) text e = cc
compares Partition PartitionKey (Moment n) text e = cc
compares Partition RowKey literal text e = cc
compares Partition (Property name) literal text e = cc
compares Row PartitionKey literal text e = cc
compares Row RowKey (Str other) text e = record { value = λ key props. refl; same = cc }
compares Row RowKey (Binary b) text e = cc
compares Row RowKey (Boolean b) text e = cc
compares Row RowKey (Int32 n) text e = cc
compares Row RowKey (Int64 n) text e = cc
compares Row RowKey (Guid g) text e = cc
compares Row RowKey (Moment n) text e = cc
compares Row (Property name) literal text e = cc

-- a comparison that bounds below holds of no lesser text
not_below : (compare : Compare) (o : Ordering) (k text : List ℕ) → cmp k text ≡ o → bounds_below compare ≡ true → IsTrue (holds compare o) → IsAtMost text k
not_below Eq Equal k text e b h = at_most_turned_equal k text e
not_below Ge Equal k text e b h = at_most_turned_equal k text e
not_below Ge Greater k text e b h = at_most_greater k text e
not_below Gt Greater k text e b h = at_most_greater k text e
not_below Eq Less k text e b h = cc
not_below Eq Greater k text e b h = cc
not_below Ge Less k text e b h = cc
not_below Gt Less k text e b h = cc
not_below Gt Equal k text e b h = cc
not_below Ne o k text e b h = cc
not_below Lt o k text e b h = cc
not_below Le o k text e b h = cc

-- a comparison that bounds above holds of no greater text
not_above : (compare : Compare) (o : Ordering) (k text : List ℕ) → cmp k text ≡ o → bounds_above compare ≡ true → IsTrue (holds compare o) → IsAtMost k text
not_above Eq Equal k text e b h = at_most_equal k text e
not_above Le Equal k text e b h = at_most_equal k text e
not_above Le Less k text e b h = at_most_less k text e
not_above Lt Less k text e b h = at_most_less k text e
not_above Eq Less k text e b h = cc
not_above Eq Greater k text e b h = cc
not_above Le Greater k text e b h = cc
not_above Lt Greater k text e b h = cc
not_above Lt Equal k text e b h = cc
not_above Ne o k text e b h = cc
not_above Gt o k text e b h = cc
not_above Ge o k text e b h = cc

-- a test of a part of the key that holds, by the order of that part and the text
held : (part : KeyPart) (field : Field) (compare : Compare) (literal : Value) (text : List ℕ) (key : Key) (props : List Prop)
    → Compares part field literal text → IsTrue (passes field compare literal key props) → IsTrue (holds compare (cmp (part_of part key) text))
held part field compare literal text key props c h = rw (c.value key props, c.same) at h

chosen : (b : Bool) (o : Option (List ℕ)) (text : List ℕ) → cond b o None ≡ Some text → (b ≡ true) × (o ≡ Some text)
chosen true o text e = (refl, e)
chosen false o text e = cc

low_held : (part : KeyPart) (key : Key) (props : List Prop) (u : Tree) (text : List ℕ) → IsTrue (matches u key props)
    → low_text part u ≡ Some text → IsAtMost text (part_of part key)
low_held part key props (test field compare literal) text h e =
    let parts = chosen (bounds_below compare) (key_text part field literal) text e in
    let same = compares part field literal text parts.1 in
    not_below compare (cmp (part_of part key) text) (part_of part key) text refl parts.0 (held part field compare literal text key props same h)
low_held part key props (negation t) text h e = cc
low_held part key props (and t u) text h e = cc
low_held part key props (or t u) text h e = cc

high_held : (part : KeyPart) (key : Key) (props : List Prop) (u : Tree) (text : List ℕ) → IsTrue (matches u key props)
    → high_text part u ≡ Some text → IsAtMost (part_of part key) text
high_held part key props (test field compare literal) text h e =
    let parts = chosen (bounds_above compare) (key_text part field literal) text e in
    let same = compares part field literal text parts.1 in
    not_above compare (cmp (part_of part key) text) (part_of part key) text refl parts.0 (held part field compare literal text key props same h)
high_held part key props (negation t) text h e = cc
high_held part key props (and t u) text h e = cc
high_held part key props (or t u) text h e = cc

all_given : (P : List ℕ → Type 0) (o : Option (List ℕ)) (texts : List (List ℕ)) → ((text : List ℕ) → o ≡ Some text → P text) → All P texts → All P (cons_option o texts)
all_given P None texts f h = h
all_given P (Some text) texts f h = All-cons P text texts (f text refl) h

-- what holds of each text that an item gives holds of each text of the list
all_mapped : (Q : Tree → Type 0) (P : List ℕ → Type 0) (g : Tree → Option (List ℕ)) → ((u : Tree) (text : List ℕ) → Q u → g u ≡ Some text → P text)
    → (us : List Tree) → All Q us → All P (filter_map g us)
all_mapped Q P g f [] h = All-nil P
all_mapped Q P g f (u ∷ us) h =
    all_given P (g u) (filter_map g us) (λ text e. f u text (All-head Q u us h) e) (all_mapped Q P g f us (All-tail Q u us h))

low_all : (part : KeyPart) (t : Tree) (key : Key) (props : List Prop) → IsTrue (matches t key props)
    → All (λ text. IsAtMost text (part_of part key)) (low_texts part t)
low_all part t key props h =
    all_mapped (λ u. IsTrue (matches u key props)) (λ text. IsAtMost text (part_of part key)) (low_text part)
    (λ u text m e. low_held part key props u text m e) (conjuncts t) (matches_each t key props h)

high_all : (part : KeyPart) (t : Tree) (key : Key) (props : List Prop) → IsTrue (matches t key props)
    → All (λ text. IsAtMost (part_of part key) text) (high_texts part t)
high_all part t key props h =
    all_mapped (λ u. IsTrue (matches u key props)) (λ text. IsAtMost (part_of part key) text) (high_text part)
    (λ u text m e. high_held part key props u text m e) (conjuncts t) (matches_each t key props h)

below_end : (part : KeyPart) (t : Tree) (end : List ℕ) (key : Key) (props : List Prop) → IsLowEnd end (low_texts part t)
    → IsTrue (matches t key props) → IsAtMost end (part_of part key)
below_end part t end key props e h = below_all end (part_of part key) (low_texts part t) e (low_all part t key props h)

above_end : (part : KeyPart) (t : Tree) (end : Option (List ℕ)) (key : Key) (props : List Prop) → IsLeast end (high_texts part t)
    → IsTrue (matches t key props) → IfSome end (λ high. IsAtMost (part_of part key) high)
above_end part t None key props e h = tt
above_end part t (Some high) key props e h = above_all high (part_of part key) (high_texts part t) e (high_all part t key props h)

-- the key of what matches lies within the bounds that are the narrowest
pub lies_within : (t : Tree) (b : Bounds) → IsNarrowest t b → (key : Key) (props : List Prop) → IsTrue (matches t key props) → IsWithin b key
lies_within t b n key props h =
    record {
      pk_low = below_end Partition t b.pk_low key props n.pk_low h;
      pk_high = above_end Partition t b.pk_high key props n.pk_high h;
      rk_low = below_end Row t b.rk_low key props n.rk_low h;
      rk_high = above_end Row t b.rk_high key props n.rk_high h;
    }
