-- What a name's value is after a put, a merge and a filter, for crates above.
use Rattle.std.proofs.Common.{◌≡◌, ℕ, Bool, true, false, not, cond, List, [], ◌∷◌, Option, Some, None, refl, sym, ap, subst, ◌∙◌, Result, Ok, Err, OnOk, OnErr}
use Rattle.std.specs.Prelude.{bytes_eq, filter, find, option_map}
use Rattle.std.specs.Option.{option_or}
use Rattle.std.specs.declared.cmp.Ordering.{Ordering}
use Rattle.std.specs.declared.cmp.Ordering.TheVariants.{Less, Equal, Greater}
use Rattle.std.specs.List.{AllByRecursion}
use Rattle.std.specs.List.Sorted.{IsStrictlySortedBy}
use Rattle.std.proofs.lemmas.Slice.Eq.{bytes_eq-Decides}
use Rattle.mt_model.specs.declared.value.Value.{Value}
use Rattle.mt_model.specs.declared.value.Prop.{Prop}
use Rattle.mt_model.specs.declared.name.Hidden.{Hidden}
use Rattle.mt_model.specs.Name.{is_hidden, hidden_name}
use Rattle.mt_model.specs.Props.{RisingNames, names, is_visible, value_at, hidden_text, hidden_prop}
use Rattle.mt_model.specs.Merge.{put_by, put_prop, merged}
use Rattle.mt_model.proofs.Hiding.{unseen}
use Rattle.mt_model.proofs.Places.{cmp, turned, apart, same_name}

value_step : (b : Bool) (q : Prop) (rest : Option Prop)
    → option_map (λ (p : Prop). p.value) (cond b (Some q) rest) ≡ cond b (Some q.value) (option_map (λ (p : Prop). p.value) rest)
value_step true q rest = refl
value_step false q rest = refl

value_cons : (q : Prop) (qs : List Prop) (n : List ℕ) → value_at (q ∷ qs) n ≡ cond (bytes_eq q.name n) (Some q.value) (value_at qs n)
value_cons q qs n = value_step (bytes_eq q.name n) q (find (λ (p : Prop). bytes_eq p.name n) qs)

-- one of two tests that agree hides the other
hides : (b c : Bool) (x y z : Option Value) → b ≡ c → cond b x z ≡ cond b x (cond c y z)
hides true c x y z e = refl
hides false c x y z e = rw (sym e) refl

-- two tests of which at most one holds may change places
swaps : (b c : Bool) (x y z : Option Value) → (b ≡ true → c ≡ false) → cond c y (cond b x z) ≡ cond b x (cond c y z)
swaps true c x y z f = rw (f refl) refl
swaps false c x y z f = refl

value_put_by : (o : Ordering) (p q : Prop) (qs further : List Prop) (n : List ℕ) → cmp p.name q.name ≡ o
    → value_at further n ≡ cond (bytes_eq p.name n) (Some p.value) (value_at qs n)
    → value_at (put_by o p q qs further) n ≡ cond (bytes_eq p.name n) (Some p.value) (value_at (q ∷ qs) n)
value_put_by Less p q qs further n e h = value_cons p (q ∷ qs) n
value_put_by Equal p q qs further n e h =
    let agree : bytes_eq p.name n ≡ bytes_eq q.name n = ap (λ (m : List ℕ). bytes_eq m n) (same_name p.name q.name e) in
    rw (value_cons p qs n, value_cons q qs n) (hides (bytes_eq p.name n) (bytes_eq q.name n) (Some p.value) (Some q.value) (value_at qs n) agree)
value_put_by Greater p q qs further n e h =
    let only : bytes_eq p.name n ≡ true → bytes_eq q.name n ≡ false = λ yes.
    let at : p.name ≡ n = (bytes_eq-Decides p.name n).0 yes in
    let below : cmp q.name p.name ≡ Less = turned p.name q.name Greater e in
    subst (λ (m : List ℕ). bytes_eq q.name m ≡ false) at (apart q.name p.name Less below refl) in
    rw (value_cons q further n, h, value_cons q qs n) (swaps (bytes_eq p.name n) (bytes_eq q.name n) (Some p.value) (Some q.value) (value_at qs n) only)

-- a put gives its value at its name, and changes no other
pub value_put : (p : Prop) (qs : List Prop) (n : List ℕ)
    → value_at (put_prop p qs) n ≡ cond (bytes_eq p.name n) (Some p.value) (value_at qs n)
value_put p [] n = value_cons p [] n
value_put p (q ∷ qs) n = value_put_by (cmp p.name q.name) p q qs (put_prop p qs) n refl (value_put p qs n)

value_below : (n : List ℕ) (ps : List Prop) → AllByRecursion (λ y. cmp n y ≡ Less) (names ps) → value_at ps n ≡ None
value_below n [] h = refl
value_below n (p ∷ ps) h = rw (apart p.name n Greater (turned n p.name Less h.0) refl) (value_below n ps h.1)

wins : (b : Bool) (v : Value) (x y : Option Value) → (b ≡ true → x ≡ None) → option_or x (cond b (Some v) y) ≡ option_or (cond b (Some v) x) y
wins true v x y f = rw (f refl) refl
wins false v x y f = refl

-- a merge has at each name what the second list has, or else what the first has
pub value_merged : (ps os : List Prop) (n : List ℕ) → RisingNames os → value_at (merged ps os) n ≡ option_or (value_at os n) (value_at ps n)
unfolding IsStrictlySortedBy
value_merged ps [] n up = refl
value_merged ps (o ∷ os) n up =
    let none : bytes_eq o.name n ≡ true → value_at os n ≡ None = λ yes.
    subst (λ (m : List ℕ). value_at os m ≡ None) ((bytes_eq-Decides o.name n).0 yes) (value_below o.name os up.0) in
    value_merged (put_prop o ps) os n up.1 ∙ (rw (value_put o ps n, value_cons o os n) (wins (bytes_eq o.name n) o.value (value_at os n) (value_at ps n) none))

-- a hidden property that is put in is found, and clients see the same properties
pub hidden_put : (which : Hidden) (text : List ℕ) (ps : List Prop) → hidden_text (put_prop (hidden_prop which text) ps) which ≡ Some text
hidden_put which text ps =
    let yes : bytes_eq (hidden_name which) (hidden_name which) ≡ true = (bytes_eq-Decides (hidden_name which) (hidden_name which)).1 refl in
    rw (value_put (hidden_prop which text) ps (hidden_name which), yes) refl

filter_put_by : (o : Ordering) (p q : Prop) (qs further : List Prop) → cmp p.name q.name ≡ o → is_visible p ≡ false
    → filter is_visible further ≡ filter is_visible qs → filter is_visible (put_by o p q qs further) ≡ filter is_visible (q ∷ qs)
filter_put_by Less p q qs further e unseen h = rw unseen refl
filter_put_by Equal p q qs further e unseen h =
    let alike : is_visible p ≡ is_visible q = ap (λ (m : List ℕ). not (is_hidden m)) (same_name p.name q.name e) in
    rw (unseen, sym alike ∙ unseen) refl
filter_put_by Greater p q qs further e unseen h = rw h refl

pub visible_put : (which : Hidden) (text : List ℕ) (ps : List Prop)
    → filter is_visible (put_prop (hidden_prop which text) ps) ≡ filter is_visible ps
visible_put which text [] = rw (unseen which text) refl
visible_put which text (q ∷ qs) =
    let p : Prop = hidden_prop which text in
    filter_put_by (cmp p.name q.name) p q qs (put_prop p qs) refl (unseen which text) (visible_put which text qs)

-- whether or not it could be put in
pub visible_tried : {T E : Type 0} (r : Result T E) (p : Prop) (which : Hidden) (text : List ℕ) (olds news : List Prop) → p ≡ hidden_prop which text
    → OnOk r (news ≡ put_prop p olds) → OnErr r (news ≡ olds) → filter is_visible news ≡ filter is_visible olds
visible_tried (Ok t) p which text olds news e done same = rw (done, e) (visible_put which text olds)
visible_tried (Err f) p which text olds news e done same = rw same refl

pub found_tried : {T E : Type 0} (r : Result T E) (p : Prop) (which : Hidden) (text : List ℕ) (olds news : List Prop) → p ≡ hidden_prop which text
    → OnOk r (news ≡ put_prop p olds) → OnOk r (hidden_text news which ≡ Some text)
found_tried (Ok t) p which text olds news e done =
    let P : List Prop → Type 0 = λ l. hidden_text l which ≡ Some text in
    subst P (sym (done ∙ ap (λ (q : Prop). put_prop q olds) e)) (hidden_put which text olds)
found_tried (Err f) p which text olds news e done = tt
