-- The first place over both stores, and over all rules.
use Rattle.std.proofs.Common.{◌≡◌, ℕ, zero, suc, ◌+◌, ◌<◌, ◌≤◌, true, false, [], get_or, Some, None, refl, sym, ap, subst, ◌∙◌, inl, inr, arith, Less, Equal, Greater, Ordering}
use Rattle.std.specs.Prelude.{IsTrue}
use Rattle.std.specs.Ordering.{is_le, ordering_then, nat_cmp}
use Rattle.std.specs.Cmp.{nat_cmp_is, alike_right}
use Rattle.std.proofs.lemmas.Bool.{cases_lt, cases_eq}
use Rattle.mt_model.specs.declared.key.Key.{Key}
use Rattle.mt_model.specs.Key.{key_cmp}
use Rattle.mt_chain.specs.Rows.{key_at}
use Rattle.mt_chain.proofs.KeyLaws.{key_total}
use Rattle.mt_chain.proofs.OrderLaws.{reversed}
use Rattle.mt_meta.specs.Logical.{Pair}
use Rattle.mt_open.specs.declared.damage.Rule.{Rule}
use Rattle.mt_open.specs.declared.damage.Rule.TheVariants as rule
use Rattle.mt_chain.specs.declared.ask.Side.{Side}
use Rattle.mt_chain.specs.declared.ask.Side.TheVariants.{Old, New}
use Rattle.mt_open.specs.declared.damage.Damage.{Damage}
use Rattle.mt_open.specs.Damage.{rule_number, Place, FailsByRow, FailsAt, place, spot_cmp, place_cmp, IsLeastIn, IsFirstAt, IsFirstBy, IsFirst, IsDamage, all_rules}

-- ---- orders

abbrev IsUpTo : Key → Key → Type 0
IsUpTo a b = IsTrue (is_le (key_cmp a b))

lt_le : (a b c : Key) → key_cmp a b ≡ Less → IsUpTo b c → key_cmp a c ≡ Less
lt_le a b c l h = go (key_cmp b c) refl h where
  go : (o : Ordering) → key_cmp b c ≡ o → is_le o ≡ true → key_cmp a c ≡ Less
  go Less e h = key_total.trans a b c l e
  go Equal e h = sym (alike_right key_total b c a e) ∙ l
  go Greater e h = absurd cc

le_le : (a b c : Key) → IsUpTo a b → IsUpTo b c → IsUpTo a c
le_le a b c g h = go (key_cmp a b) refl g where
  go : (o : Ordering) → key_cmp a b ≡ o → is_le o ≡ true → IsUpTo a c
  go Less e g = ap is_le (lt_le a b c e h)
  go Equal e g = ap is_le (key_total.congr a b c e) ∙ h
  go Greater e g = absurd cc

not_le : (a b : Key) → is_le (key_cmp a b) ≡ false → key_cmp b a ≡ Less
not_le a b h = go (key_cmp a b) refl h where
  go : (o : Ordering) → key_cmp a b ≡ o → is_le o ≡ false → key_cmp b a ≡ Less
  go Less e h = absurd cc
  go Equal e h = absurd cc
  go Greater e h = reversed a b Greater e

then_le : (o x : Ordering) → is_le o ≡ true → is_le x ≡ true → is_le (ordering_then o x) ≡ true
then_le Less x g h = refl
then_le Equal x g h = h
then_le Greater x g h = absurd cc

less_first : (o x : Ordering) → o ≡ Less → is_le (ordering_then o x) ≡ true
less_first o x e = ap (λ t. is_le (ordering_then t x)) e

-- ---- both stores

pub none_by : (p : Pair) (r : Rule) → IsLeastIn p r Old None → IsLeastIn p r New None → IsFirstBy p r None
none_by p r a b Old key f = a key f
none_by p r a b New key f = b key f

pub only_old : (p : Pair) (r : Rule) (a : Key) → IsLeastIn p r Old (Some a) → IsLeastIn p r New None → IsFirstAt p r Old a
only_old p r a h none = (h.0, least) where
  least : (s : Side) (k : Key) → FailsByRow p (place r s k) → IsTrue (is_le (spot_cmp a Old k s))
  least Old k f = then_le (key_cmp a k) (nat_cmp 0 0) (h.1 k f) refl
  least New k f = absurd (none k f)

pub only_new : (p : Pair) (r : Rule) (b : Key) → IsLeastIn p r Old None → IsLeastIn p r New (Some b) → IsFirstAt p r New b
only_new p r b none h = (h.0, least) where
  least : (s : Side) (k : Key) → FailsByRow p (place r s k) → IsTrue (is_le (spot_cmp b New k s))
  least Old k f = absurd (none k f)
  least New k f = then_le (key_cmp b k) (nat_cmp 1 1) (h.1 k f) refl

pub old_first : (p : Pair) (r : Rule) (a b : Key) → IsLeastIn p r Old (Some a) → IsLeastIn p r New (Some b) → is_le (key_cmp a b) ≡ true → IsFirstAt p r Old a
old_first p r a b g h le = (g.0, least) where
  least : (s : Side) (k : Key) → FailsByRow p (place r s k) → IsTrue (is_le (spot_cmp a Old k s))
  least Old k f = then_le (key_cmp a k) (nat_cmp 0 0) (g.1 k f) refl
  least New k f = then_le (key_cmp a k) (nat_cmp 0 1) (le_le a b k le (h.1 k f)) refl

pub new_first : (p : Pair) (r : Rule) (a b : Key) → IsLeastIn p r Old (Some a) → IsLeastIn p r New (Some b) → is_le (key_cmp a b) ≡ false → IsFirstAt p r New b
new_first p r a b g h above = (h.0, least) where
  least : (s : Side) (k : Key) → FailsByRow p (place r s k) → IsTrue (is_le (spot_cmp b New k s))
  least Old k f = less_first (key_cmp b k) (nat_cmp 1 0) (lt_le b a k (not_le a b above) (g.1 k f))
  least New k f = then_le (key_cmp b k) (nat_cmp 1 1) (h.1 k f) refl

-- ---- all rules

-- the rule of a number
abbrev numbered : ℕ → Rule
numbered zero = rule.Unsealed
numbered (suc zero) = rule.Forms
numbered (suc (suc zero)) = rule.Marked
numbered (suc (suc (suc zero))) = rule.UseOld
numbered (suc (suc (suc (suc zero)))) = rule.PreferOld
numbered (suc (suc (suc (suc (suc zero))))) = rule.PreferNew
numbered (suc (suc (suc (suc (suc (suc zero)))))) = rule.NoOld
numbered (suc (suc (suc (suc (suc (suc (suc zero))))))) = rule.Tags
numbered (suc (suc (suc (suc (suc (suc (suc (suc n)))))))) = rule.Unsealed

numbered_is : (r : Rule) → numbered (rule_number r) ≡ r
numbered_is rule.Forms = refl
numbered_is rule.Marked = refl
numbered_is rule.UseOld = refl
numbered_is rule.PreferOld = refl
numbered_is rule.PreferNew = refl
numbered_is rule.NoOld = refl
numbered_is rule.Tags = refl
numbered_is rule.Unsealed = refl

same_rule : (a b : Rule) → rule_number a ≡ rule_number b → a ≡ b
same_rule a b e = sym (numbered_is a) ∙ ap numbered e ∙ numbered_is b

pub up_to_eight : (r : Rule) → (1 ≤ rule_number r) × (rule_number r ≤ 8)
up_to_eight rule.Forms = (omega arith, omega arith)
up_to_eight rule.Marked = (omega arith, omega arith)
up_to_eight rule.UseOld = (omega arith, omega arith)
up_to_eight rule.PreferOld = (omega arith, omega arith)
up_to_eight rule.PreferNew = (omega arith, omega arith)
up_to_eight rule.NoOld = (omega arith, omega arith)
up_to_eight rule.Tags = (omega arith, omega arith)
up_to_eight rule.Unsealed = (omega arith, omega arith)

-- no row fails a rule whose number is below
abbrev pub CleanBelow : Pair → ℕ → Type 0
CleanBelow p n = (r : Rule) → rule_number r < n → IsFirstBy p r None

pub clean_at_start : (p : Pair) → CleanBelow p 1
clean_at_start p r below = absurd (let low = (up_to_eight r).0 in omega (arith, low, below))

pub clean_more : (p : Pair) (n : ℕ) (r : Rule) → rule_number r ≡ n → CleanBelow p n → IsFirstBy p r None → CleanBelow p (n + 1)
clean_more p n r e clean none s below = elim (cases_eq (rule_number s) n) as (λ _. IsFirstBy p s None) [
  | inl same ↦ subst (λ x. IsFirstBy p x None) (same_rule r s (e ∙ sym same)) none
  | inr other ↦ clean s (omega (arith, below, other))
]

pub clean_all : (p : Pair) (n : ℕ) → 8 < n → CleanBelow p n → (at : Place) → ¬ FailsByRow p at
clean_all p n past clean at f = (let high = (up_to_eight at.rule).1 in clean at.rule (omega (arith, past, high)) at.side at.key f)

pub rule_at : (i : ℕ) (d : Rule) → i < 8 → rule_number (get_or all_rules i d) ≡ i + 1
rule_at zero d h = refl
rule_at (suc zero) d h = refl
rule_at (suc (suc zero)) d h = refl
rule_at (suc (suc (suc zero))) d h = refl
rule_at (suc (suc (suc (suc zero)))) d h = refl
rule_at (suc (suc (suc (suc (suc zero))))) d h = refl
rule_at (suc (suc (suc (suc (suc (suc zero)))))) d h = refl
rule_at (suc (suc (suc (suc (suc (suc (suc zero))))))) d h = refl
rule_at (suc (suc (suc (suc (suc (suc (suc (suc i)))))))) d h = absurd (omega (arith, h))

less_number : (n m : ℕ) (x : Ordering) → n < m → IsTrue (is_le (ordering_then (nat_cmp n m) x))
less_number n m x h = less_first (nat_cmp n m) x (sym (nat_cmp_is n m Less h))

same_number : (n m : ℕ) (x : Ordering) → n ≡ m → IsTrue (is_le x) → IsTrue (is_le (ordering_then (nat_cmp n m) x))
same_number n m x e h = ap (λ o. is_le (ordering_then o x)) (sym (nat_cmp_is n m Equal e)) ∙ h

below_eight : (p : Pair) (r : Rule) (side : Side) (key : Key) → FailsByRow p (place r side key) → rule_number r < 8
below_eight p rule.Forms side key f = omega arith
below_eight p rule.Marked side key f = omega arith
below_eight p rule.UseOld side key f = omega arith
below_eight p rule.PreferOld side key f = omega arith
below_eight p rule.PreferNew side key f = omega arith
below_eight p rule.NoOld side key f = omega arith
below_eight p rule.Tags side key f = omega arith
below_eight p rule.Unsealed side key f = absurd f.2

first_place : (p : Pair) (r : Rule) (side : Side) (key : Key) → CleanBelow p (rule_number r) → IsFirstAt p r side key → IsFirst p (place r side key)
first_place p r side key clean first = record { fails = inl first.0; least = least } where
  by_row : (other : Place) → FailsByRow p other → IsTrue (is_le (place_cmp (place r side key) other))
  by_row other f = elim (cases_lt (rule_number other.rule) (rule_number r)) as (λ _. IsTrue (is_le (place_cmp (place r side key) other))) [
    | inl below ↦ absurd (clean other.rule below other.side other.key f)
    | inr from ↦ elim (cases_eq (rule_number r) (rule_number other.rule)) as (λ _. IsTrue (is_le (place_cmp (place r side key) other))) [
      | inl same ↦ same_number (rule_number r) (rule_number other.rule) (spot_cmp key side other.key other.side) same
          (first.1 other.side other.key (subst (λ x. FailsByRow p (place x other.side other.key)) (sym (same_rule r other.rule same)) f))
      | inr differ ↦ less_number (rule_number r) (rule_number other.rule) (spot_cmp key side other.key other.side) (omega (arith, from, differ))
    ]
  ]

  least : (other : Place) → FailsAt p other → IsTrue (is_le (place_cmp (place r side key) other))
  least other (inl f) = by_row other f
  least other (inr seal) = less_number (rule_number r) (rule_number other.rule) (spot_cmp key side other.key other.side)
      (subst (λ x. rule_number r < rule_number x) (sym seal.0) (below_eight p r side key first.0))

-- the first damage of a rule is the first of all, where no row fails a rule before
pub damage_by : (p : Pair) (r : Rule) (d : Damage) → CleanBelow p (rule_number r) → IsFirstBy p r (Some d) → IsDamage p d
damage_by p r d clean f = (f.0, f.2, subst (λ x. IsFirst p (place x f.0 d.key)) (sym f.1) (first_place p r f.0 d.key clean f.3))

abbrev sealed_place : Place
sealed_place = place rule.Unsealed New (key_at [] [])

-- the seal of new is the first damage where no row fails
pub damage_by_seal : (p : Pair) (d : Damage) → ((at : Place) → ¬ FailsByRow p at) → p.new.sealed ≡ true → d.rule ≡ rule.Unsealed → d.key ≡ key_at [] [] → d.store ≡ p.new_number → IsDamage p d
damage_by_seal p d clean sealed r k s = (New, s, subst (λ x. IsFirst p (place d.rule New x)) (sym k) (subst (λ x. IsFirst p (place x New (key_at [] []))) (sym r) (record { fails = inr (refl, refl, refl, sealed); least = least }))) where
  least : (other : Place) → FailsAt p other → IsTrue (is_le (place_cmp sealed_place other))
  least other (inl f) = absurd (clean other f)
  least other (inr seal) =
      subst (λ x. IsTrue (is_le (place_cmp sealed_place (place x other.side other.key)))) (sym seal.0)
      (subst (λ x. IsTrue (is_le (place_cmp sealed_place (place rule.Unsealed x other.key)))) (sym seal.1)
      (subst (λ x. IsTrue (is_le (place_cmp sealed_place (place rule.Unsealed New x)))) (sym seal.2) refl))

pub fails_nowhere : (p : Pair) → ((at : Place) → ¬ FailsByRow p at) → p.new.sealed ≡ false → (at : Place) → ¬ FailsAt p at
fails_nowhere p clean unsealed at (inl f) = clean at f
fails_nowhere p clean unsealed at (inr seal) = (let x = sym unsealed ∙ seal.3 in cc)
