-- The name of an option fixes which it is, and its value's text fixes the value.
use Rattle.std.proofs.Common.{◌≡◌, ℕ, ◌<◌, ◌≤◌, ◌^◌, Bool, true, false, not, List, get_or, codes, decimal, refl, sym, ap, ◌∙◌, arith, inl, inr}
use Rattle.std.specs.Prelude.{◌==◌, ◌&&◌, ◌⊎◌}
use Rattle.std.specs.List.{list_all}
use Rattle.std.proofs.lemmas.Fmt.{decimal_injective}
use Rattle.mt_model.specs.TableName.{is_table_name}
use Rattle.mt_words.specs.declared.command.StoreChoice.{StoreChoice}
use Rattle.mt_words.specs.declared.command.StoreChoice.TheVariants.{Plain, Paged}
use Rattle.mt_words.specs.Words.{Setting, Table, History, Keeper, Number, Events, option_name, keeper_word}
use Rattle.mt_words.specs.Readings.{IsNamed}

-- ---- names differ in their third character

abbrev third : List ℕ → ℕ
third name = get_or name 2 0

abbrev third_of : Setting → ℕ
third_of (Table name) = 116
third_of (History entries) = 104
third_of (Keeper choice) = 107
third_of (Number number) = 110
third_of (Events events) = 101

third_is : (s : Setting) → third (option_name s) ≡ third_of s
third_is (Table name) = refl
third_is (History entries) = refl
third_is (Keeper choice) = refl
third_is (Number number) = refl
third_is (Events events) = refl

third_named : (name value : List ℕ) (s : Setting) → IsNamed name value s → third name ≡ third_of s
third_named name value s n = ap third n.named ∙ third_is s

-- an option's name has no `=`
abbrev pub without_equals : List ℕ → Bool
without_equals name = list_all (λ c. not (c == 61)) name

pub none_equals : (s : Setting) → without_equals (option_name s) ≡ true
none_equals (Table name) = refl
none_equals (History entries) = refl
none_equals (Keeper choice) = refl
none_equals (Number number) = refl
none_equals (Events events) = refl

pub clash : (b : Bool) → b ≡ true → b ≡ false → ⊥
clash b t f = cc

pub both : (a b : Bool) → (a && b) ≡ true → (a ≡ true) × (b ≡ true)
both true true e = (refl, refl)
both true false e = absurd (cc)
both false true e = absurd (cc)
both false false e = absurd (cc)

-- ---- an option of each name

pub table_only : (value : List ℕ) (s : Setting) → IsNamed (codes "--table") value s → is_table_name value ≡ true
table_only value (Table name) n = ap is_table_name n.valued ∙ n.taken
table_only value (History entries) n = let d : 116 ≡ 104 = third_named (codes "--table") value (History entries) n in absurd (omega (arith, d))
table_only value (Keeper choice) n = let d : 116 ≡ 107 = third_named (codes "--table") value (Keeper choice) n in absurd (omega (arith, d))
table_only value (Number number) n = let d : 116 ≡ 110 = third_named (codes "--table") value (Number number) n in absurd (omega (arith, d))
table_only value (Events events) n = let d : 116 ≡ 101 = third_named (codes "--table") value (Events events) n in absurd (omega (arith, d))

pub history_only : (value : List ℕ) (s : Setting) → IsNamed (codes "--history") value s → (n : ℕ) × (value ≡ decimal n) × (1 ≤ n) × (n ≤ 1048576)
history_only value (Table name) n = let d : 104 ≡ 116 = third_named (codes "--history") value (Table name) n in absurd (omega (arith, d))
history_only value (History entries) n = (entries, n.valued, n.taken.0, n.taken.1)
history_only value (Keeper choice) n = let d : 104 ≡ 107 = third_named (codes "--history") value (Keeper choice) n in absurd (omega (arith, d))
history_only value (Number number) n = let d : 104 ≡ 110 = third_named (codes "--history") value (Number number) n in absurd (omega (arith, d))
history_only value (Events events) n = let d : 104 ≡ 101 = third_named (codes "--history") value (Events events) n in absurd (omega (arith, d))

pub keeper_only : (value : List ℕ) (s : Setting) → IsNamed (codes "--keeper") value s → (value ≡ codes "plain") ⊎ (value ≡ codes "paged")
keeper_only value (Table name) n = let d : 107 ≡ 116 = third_named (codes "--keeper") value (Table name) n in absurd (omega (arith, d))
keeper_only value (History entries) n = let d : 107 ≡ 104 = third_named (codes "--keeper") value (History entries) n in absurd (omega (arith, d))
keeper_only value (Keeper Plain) n = inl n.valued
keeper_only value (Keeper Paged) n = inr n.valued
keeper_only value (Number number) n = let d : 107 ≡ 110 = third_named (codes "--keeper") value (Number number) n in absurd (omega (arith, d))
keeper_only value (Events events) n = let d : 107 ≡ 101 = third_named (codes "--keeper") value (Events events) n in absurd (omega (arith, d))

pub number_only : (value : List ℕ) (s : Setting) → IsNamed (codes "--number") value s → (n : ℕ) × (value ≡ decimal n) × (n < 2 ^ 64)
number_only value (Table name) n = let d : 110 ≡ 116 = third_named (codes "--number") value (Table name) n in absurd (omega (arith, d))
number_only value (History entries) n = let d : 110 ≡ 104 = third_named (codes "--number") value (History entries) n in absurd (omega (arith, d))
number_only value (Keeper choice) n = let d : 110 ≡ 107 = third_named (codes "--number") value (Keeper choice) n in absurd (omega (arith, d))
number_only value (Number number) n = (number, n.valued, n.taken)
number_only value (Events events) n = let d : 110 ≡ 101 = third_named (codes "--number") value (Events events) n in absurd (omega (arith, d))

pub events_only : (value : List ℕ) (s : Setting) → IsNamed (codes "--events") value s → (n : ℕ) × (value ≡ decimal n) × (1 ≤ n) × (n ≤ 100000)
events_only value (Table name) n = let d : 101 ≡ 116 = third_named (codes "--events") value (Table name) n in absurd (omega (arith, d))
events_only value (History entries) n = let d : 101 ≡ 104 = third_named (codes "--events") value (History entries) n in absurd (omega (arith, d))
events_only value (Keeper choice) n = let d : 101 ≡ 107 = third_named (codes "--events") value (Keeper choice) n in absurd (omega (arith, d))
events_only value (Number number) n = let d : 101 ≡ 110 = third_named (codes "--events") value (Number number) n in absurd (omega (arith, d))
events_only value (Events events) n = (events, n.valued, n.taken.0, n.taken.1)

-- ---- one option

same_number : (value : List ℕ) (m n : ℕ) → m < 2 ^ 64 → n < 2 ^ 64 → value ≡ decimal m → value ≡ decimal n → m ≡ n
same_number value m n a b e f = decimal_injective m n a b (sym e ∙ f)

abbrev second : List ℕ → ℕ
second word = get_or word 1 0

same_choice : (value : List ℕ) (a b : StoreChoice) → value ≡ keeper_word a → value ≡ keeper_word b → a ≡ b
same_choice value Plain Plain e f = refl
same_choice value Plain Paged e f = let d : 108 ≡ 97 = sym (ap second e) ∙ ap second f in absurd (omega (arith, d))
same_choice value Paged Plain e f = let d : 97 ≡ 108 = sym (ap second e) ∙ ap second f in absurd (omega (arith, d))
same_choice value Paged Paged e f = refl

same_third : (name value : List ℕ) (s t : Setting) → IsNamed name value s → IsNamed name value t → third_of s ≡ third_of t
same_third name value s t m n = sym (third_named name value s m) ∙ third_named name value t n

pub one_setting : (name value : List ℕ) (s t : Setting) → IsNamed name value s → IsNamed name value t → s ≡ t
one_setting name value (Table a) (Table b) m n = ap Table (sym m.valued ∙ n.valued)
one_setting name value (Table a) (History b) m n = let d : 116 ≡ 104 = same_third name value (Table a) (History b) m n in absurd (omega (arith, d))
one_setting name value (Table a) (Keeper b) m n = let d : 116 ≡ 107 = same_third name value (Table a) (Keeper b) m n in absurd (omega (arith, d))
one_setting name value (Table a) (Number b) m n = let d : 116 ≡ 110 = same_third name value (Table a) (Number b) m n in absurd (omega (arith, d))
one_setting name value (Table a) (Events b) m n = let d : 116 ≡ 101 = same_third name value (Table a) (Events b) m n in absurd (omega (arith, d))
one_setting name value (History a) (Table b) m n = let d : 104 ≡ 116 = same_third name value (History a) (Table b) m n in absurd (omega (arith, d))
one_setting name value (History a) (History b) m n = ap History (same_number value a b (omega (arith, m.taken.1)) (omega (arith, n.taken.1)) m.valued n.valued)
one_setting name value (History a) (Keeper b) m n = let d : 104 ≡ 107 = same_third name value (History a) (Keeper b) m n in absurd (omega (arith, d))
one_setting name value (History a) (Number b) m n = let d : 104 ≡ 110 = same_third name value (History a) (Number b) m n in absurd (omega (arith, d))
one_setting name value (History a) (Events b) m n = let d : 104 ≡ 101 = same_third name value (History a) (Events b) m n in absurd (omega (arith, d))
one_setting name value (Keeper a) (Table b) m n = let d : 107 ≡ 116 = same_third name value (Keeper a) (Table b) m n in absurd (omega (arith, d))
one_setting name value (Keeper a) (History b) m n = let d : 107 ≡ 104 = same_third name value (Keeper a) (History b) m n in absurd (omega (arith, d))
one_setting name value (Keeper a) (Keeper b) m n = ap Keeper (same_choice value a b m.valued n.valued)
one_setting name value (Keeper a) (Number b) m n = let d : 107 ≡ 110 = same_third name value (Keeper a) (Number b) m n in absurd (omega (arith, d))
one_setting name value (Keeper a) (Events b) m n = let d : 107 ≡ 101 = same_third name value (Keeper a) (Events b) m n in absurd (omega (arith, d))
one_setting name value (Number a) (Table b) m n = let d : 110 ≡ 116 = same_third name value (Number a) (Table b) m n in absurd (omega (arith, d))
one_setting name value (Number a) (History b) m n = let d : 110 ≡ 104 = same_third name value (Number a) (History b) m n in absurd (omega (arith, d))
one_setting name value (Number a) (Keeper b) m n = let d : 110 ≡ 107 = same_third name value (Number a) (Keeper b) m n in absurd (omega (arith, d))
one_setting name value (Number a) (Number b) m n = ap Number (same_number value a b m.taken n.taken m.valued n.valued)
one_setting name value (Number a) (Events b) m n = let d : 110 ≡ 101 = same_third name value (Number a) (Events b) m n in absurd (omega (arith, d))
one_setting name value (Events a) (Table b) m n = let d : 101 ≡ 116 = same_third name value (Events a) (Table b) m n in absurd (omega (arith, d))
one_setting name value (Events a) (History b) m n = let d : 101 ≡ 104 = same_third name value (Events a) (History b) m n in absurd (omega (arith, d))
one_setting name value (Events a) (Keeper b) m n = let d : 101 ≡ 107 = same_third name value (Events a) (Keeper b) m n in absurd (omega (arith, d))
one_setting name value (Events a) (Number b) m n = let d : 101 ≡ 110 = same_third name value (Events a) (Number b) m n in absurd (omega (arith, d))
one_setting name value (Events a) (Events b) m n = ap Events (same_number value a b (omega (arith, m.taken.1)) (omega (arith, n.taken.1)) m.valued n.valued)
