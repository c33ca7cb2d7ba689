-- A path is spelled in one way.
use Rattle.std.proofs.Common.{◌≡◌, ◌≢◌, ◌⊎◌, inl, inr, ℕ, ◌==◌, Bool, true, false, List, [], ◌∷◌, ◌++◌, refl, sym, ap, ◌∙◌, subst, append-nil, append_assoc, rules}
use Rattle.std.specs.Prelude.{codes, bytes_eq, ◌&&◌, ◌||◌, not, nat_le, length, Option, Some, None, Result, Ok, Err}
use Rattle.std.specs.Borrow.{Bor}
use Rattle.std.specs.List.{AllByRecursion, list_all, list_any}
use Rattle.std.proofs.lemmas.Bool.Decides.{Decides-eqb}
use Rattle.std.specs.Char.{to_ascii_lowercase}
use Rattle.std.proofs.lemmas.List.{append_cancel_left}
use Rattle.std.proofs.lemmas.Slice.Eq.{bytes_eq-Decides}
use Rattle.mt_model.specs.declared.text.NoMemory.{NoMemory}
use Rattle.mt_model.specs.TableName.{is_table_name, is_same_table, is_letter, is_digit, begins_with_letter}
use Rattle.mt_target.specs.declared.target.Keys.{Keys}
use Rattle.mt_target.specs.declared.target.Keys.TheVariants as keys
use Rattle.mt_target.specs.declared.target.Target.{Target}
use Rattle.mt_target.specs.declared.target.Target.TheVariants as target
use Rattle.mt_target.specs.declared.target.Service.{Service}
use Rattle.mt_target.specs.Quoted.{quoted, BeginsQuoted, Found}
use Rattle.mt_target.specs.Paths.{service_path, entity_text, keys_text, NamesTable, SpellsPath, LacksParenthesis, opened_text, SplitsName, NamedBy}
use Rattle.mt_target.proofs.QuotedLaws.{same_quoted}

-- ---- the keys of an entity

comma_ends : (tail : List ℕ) (more : List ℕ) → ◌≢◌ {A = List ℕ} (44 ∷ tail) (39 ∷ more)
comma_ends tail more e = cc

paren_ends : (more : List ℕ) → ◌≢◌ {A = List ℕ} (41 ∷ []) (39 ∷ more)
paren_ends more e = cc

-- the text that begins behind the first name
abbrev pub behind_first : List ℕ → List ℕ
behind_first rk = codes ",RowKey=" ++ (quoted rk ++ codes ")")

pub first_quoted : (text first pk rk : List ℕ) → text ≡ codes "PartitionKey=" ++ first → text ≡ entity_text pk rk → BeginsQuoted first pk (behind_first rk)
first_quoted text first pk rk e f = record {
  whole = append_cancel_left (codes "PartitionKey=") first (quoted pk ++ behind_first rk) (sym e ∙ f);
  ends = comma_ends (codes "RowKey=" ++ (quoted rk ++ codes ")"));
}

pub second_quoted : (text first a rest second pk rk : List ℕ) → text ≡ codes "PartitionKey=" ++ first → BeginsQuoted first a rest → rest ≡ codes ",RowKey=" ++ second → text ≡ entity_text pk rk → (a ≡ pk) × BeginsQuoted second rk (codes ")")
second_quoted text first a rest second pk rk e q g f =
    let same = same_quoted first a rest pk (behind_first rk) q (first_quoted text first pk rk e f) in (
      same.0,
      record { whole = append_cancel_left (codes ",RowKey=") second (quoted rk ++ codes ")") (sym g ∙ same.1); ends = paren_ends },
    )

pub behind_quoted : (text first a rest pk rk : List ℕ) → text ≡ codes "PartitionKey=" ++ first → BeginsQuoted first a rest → text ≡ entity_text pk rk → rest ≡ behind_first rk
behind_quoted text first a rest pk rk e q f = (same_quoted first a rest pk (behind_first rk) q (first_quoted text first pk rk e f)).1

pub entity_made : (text first pk rest second rk last : List ℕ) → text ≡ codes "PartitionKey=" ++ first → BeginsQuoted first pk rest → rest ≡ codes ",RowKey=" ++ second → BeginsQuoted second rk last → last ≡ codes ")" → text ≡ entity_text pk rk
entity_made text first pk rest second rk last e q g p l =
    e ∙ ap (λ z. codes "PartitionKey=" ++ z) (q.whole ∙ ap (λ z. quoted pk ++ z) (g ∙ ap (λ z. codes ",RowKey=" ++ z) (p.whole ∙ ap (λ z. quoted rk ++ z) l)))

pub last_is : (second a rest rk : List ℕ) → BeginsQuoted second a rest → BeginsQuoted second rk (codes ")") → rest ≡ codes ")"
last_is second a rest rk p q = (same_quoted second a rest rk (codes ")") p q).1

pub clash : (b : Bool) → b ≡ true → b ≡ false → ⊥
clash b t f = cc

-- ---- a name ends at the first parenthesis

abbrev pub Opens : List ℕ → Type 0
Opens rest = (rest ≡ []) ⊎ ((more : List ℕ) × (rest ≡ 40 ∷ more))

pub names_same : (n m x y : List ℕ) → LacksParenthesis n → LacksParenthesis m → Opens x → Opens y → n ++ x ≡ m ++ y → (n ≡ m) × (x ≡ y)
names_same [] [] x y a b p q e = (refl, e)
names_same [] (d ∷ m) x y a b p q e = elim p as (λ _. ([] ≡ d ∷ m) × (x ≡ y)) [
  | inl none ↦ absurd (let f : ◌≡◌ {A = List ℕ} [] (d ∷ (m ++ y)) = sym none ∙ e in cc)
  | inr more ↦ absurd (b.0 (let f : ◌≡◌ {A = List ℕ} (40 ∷ more.0) (d ∷ (m ++ y)) = sym more.1 ∙ e in cc))
]
names_same (c ∷ n) [] x y a b p q e = elim q as (λ _. (c ∷ n ≡ []) × (x ≡ y)) [
  | inl none ↦ absurd (let f : ◌≡◌ {A = List ℕ} (c ∷ (n ++ x)) [] = e ∙ none in cc)
  | inr more ↦ absurd (a.0 (let f : ◌≡◌ {A = List ℕ} (c ∷ (n ++ x)) (40 ∷ more.0) = e ∙ more.1 in cc))
]
names_same (c ∷ n) (d ∷ m) x y a b p q e =
    let first : c ≡ d = cc in
    let later : n ++ x ≡ m ++ y = cc in
    let same = names_same n m x y a.1 b.1 p q later in
    (ap (λ (z : ℕ). z ∷ n) first ∙ ap (λ (z : List ℕ). d ∷ z) same.0, same.1)

opened_opens : (o : Option (Bor (List ℕ))) → Opens (opened_text o)
opened_opens None = inl refl
opened_opens (Some behind) = inr (behind.now, refl)

keys_open : (k : Keys) → Opens (keys_text k)
keys_open keys.Absent = inl refl
keys_open keys.Empty = inr (41 ∷ [], refl)
keys_open (keys.Entity pk rk) = inr (entity_text pk rk, refl)

names_open : (rest : List ℕ) → NamesTable rest → Opens rest
names_open rest (inl none) = inl none
names_open rest (inr h) = inr (quoted h.0 ++ codes ")", h.1)

-- ---- what is a table's name has no parenthesis

both : (a b : Bool) → (a && b) ≡ true → (a ≡ true) × (b ≡ true)
both true true e = (refl, refl)
both true false e = absurd (cc)
both false true e = absurd (cc)
both false false e = absurd (cc)

all_lack : (bs : List ℕ) → list_all (λ c. is_letter c || is_digit c) bs ≡ true → LacksParenthesis bs
all_lack [] e = tt
all_lack (c ∷ bs) e =
    let b = both (is_letter c || is_digit c) (list_all (λ c. is_letter c || is_digit c) bs) e in
    (λ at. clash (is_letter c || is_digit c) b.0 (ap (λ z. is_letter z || is_digit z) at), all_lack bs b.1)

pub name_lacks : (name : List ℕ) → is_table_name name ≡ true → LacksParenthesis name
name_lacks name e =
    let a = nat_le 3 (length name) in
    let b = nat_le (length name) 63 in
    let c = begins_with_letter name in
    let d = list_all (λ c. is_letter c || is_digit c) name in
    let f = not (is_same_table name (codes "Tables")) in
    all_lack name (both (a && b && c) d (both (a && b && c && d) f e).0).1

neither : (a b : Bool) → (a || b) ≡ false → (a ≡ false) × (b ≡ false)
neither true b e = absurd (cc)
neither false b e = (refl, e)

same_lack : (lit name : List ℕ) → is_same_table lit name ≡ true → list_any (λ c. to_ascii_lowercase c == 40) lit ≡ false → LacksParenthesis name
same_lack [] [] e lacks = tt
same_lack [] (c ∷ name) e lacks = absurd (cc)
same_lack (l ∷ lit) [] e lacks = absurd (cc)
same_lack (l ∷ lit) (c ∷ name) e lacks =
    let same = both (to_ascii_lowercase l == to_ascii_lowercase c) (is_same_table lit name) e in
    let off = neither (to_ascii_lowercase l == 40) (list_any (λ c. to_ascii_lowercase c == 40) lit) lacks in (
      λ at. clash (to_ascii_lowercase l == 40) ((Decides-eqb (to_ascii_lowercase l) 40).1 ((Decides-eqb (to_ascii_lowercase l) (to_ascii_lowercase c)).0 same.0 ∙ ap to_ascii_lowercase at)) off.0,
      same_lack lit name same.1 off.1,
    )

pub tables_lack : (name : List ℕ) → is_same_table (codes "Tables") name ≡ true → LacksParenthesis name
tables_lack name e = same_lack (codes "Tables") name e refl

-- ---- paths

pub no_keys : (behind : List ℕ) (o : Option (Bor (List ℕ))) (k : Keys) → opened_text o ≡ 40 ∷ behind → bytes_eq behind (codes ")") ≡ false → ((pk rk : List ℕ) → behind ≡ entity_text pk rk → ⊥) → opened_text o ≡ keys_text k → ⊥
no_keys behind o keys.Absent at other none e = let f : ◌≡◌ {A = List ℕ} (40 ∷ behind) [] = sym at ∙ e in cc
no_keys behind o keys.Empty at other none e =
    let f : behind ≡ codes ")" = append_cancel_left (40 ∷ []) behind (codes ")") (sym at ∙ e) in
    clash (bytes_eq behind (codes ")")) ((bytes_eq-Decides behind (codes ")")).1 f) other
no_keys behind o (keys.Entity pk rk) at other none e = none pk rk (append_cancel_left (40 ∷ []) behind (entity_text pk rk) (sym at ∙ e))

pub naming_here : (behind : List ℕ) (o : Option (Bor (List ℕ))) (name : List ℕ) → opened_text o ≡ 40 ∷ behind → BeginsQuoted behind name (codes ")") → NamesTable (opened_text o)
naming_here behind o name at q = inr (name, at ∙ ap (λ (z : List ℕ). 40 ∷ z) q.whole)

quoted_there : (behind : List ℕ) (o : Option (Bor (List ℕ))) → opened_text o ≡ 40 ∷ behind → NamesTable (opened_text o) → (name : List ℕ) × BeginsQuoted behind name (codes ")")
quoted_there behind o at (inl none) = absurd (let f : ◌≡◌ {A = List ℕ} (40 ∷ behind) [] = sym at ∙ none in cc)
quoted_there behind o at (inr h) = (h.0, record { whole = append_cancel_left (40 ∷ []) behind (quoted h.0 ++ codes ")") (sym at ∙ h.1); ends = paren_ends })

pub no_naming : (behind : List ℕ) (o : Option (Bor (List ℕ))) → opened_text o ≡ 40 ∷ behind → ((text : List ℕ) (rest : List ℕ) → BeginsQuoted behind text rest → ⊥) → NamesTable (opened_text o) → ⊥
no_naming behind o at none h = let q = quoted_there behind o at h in none q.0 (codes ")") q.1

pub other_naming : (behind : List ℕ) (o : Option (Bor (List ℕ))) (text rest : List ℕ) → opened_text o ≡ 40 ∷ behind → BeginsQuoted behind text rest → bytes_eq rest (codes ")") ≡ false → NamesTable (opened_text o) → ⊥
other_naming behind o text rest at q other h =
    let p = quoted_there behind o at h in
    clash (bytes_eq rest (codes ")")) ((bytes_eq-Decides rest (codes ")")).1 (last_is behind text rest p.0 q p.1)) other

-- behind a slash a name and what follows it spell the path
named_spells : (path text name : List ℕ) (o : Option (Bor (List ℕ))) (t : Target) → path ≡ codes "/" ++ text → SplitsName text name o → NamedBy name (opened_text o) t → SpellsPath path t
named_spells path text name o (target.Table n k) e s h = (subst (λ z. is_table_name z ≡ true) (sym h.0) h.1, e ∙ ap (λ (z : List ℕ). 47 ∷ z) (s.whole ∙ ap (λ (z : List ℕ). z ++ opened_text o) (sym h.0) ∙ ap (λ (z : List ℕ). n ++ z) h.2))
named_spells path text name o target.Tables e s h = (name, opened_text o, h.0, e ∙ ap (λ (z : List ℕ). 47 ∷ z) s.whole, h.1)
named_spells path text name o (target.Service v) e s h = absurd h

spells_named : (path text name : List ℕ) (o : Option (Bor (List ℕ))) (t : Target) → path ≡ codes "/" ++ text → SplitsName text name o → ((v : Service) → path ≢ service_path v) → SpellsPath path t → NamedBy name (opened_text o) t
spells_named path text name o (target.Table n k) e s none h =
    let same = names_same name n (opened_text o) (keys_text k) s.lacks (name_lacks n h.0) (opened_opens o) (keys_open k) (sym s.whole ∙ append_cancel_left (codes "/") text (n ++ keys_text k) (sym e ∙ h.1)) in
    (sym same.0, subst (λ z. is_table_name z ≡ true) (sym same.0) h.0, same.1)
spells_named path text name o target.Tables e s none (n, rest, is, at, names) =
    let same = names_same name n (opened_text o) rest s.lacks (tables_lack n is) (opened_opens o) (names_open rest names) (sym s.whole ∙ append_cancel_left (codes "/") text (n ++ rest) (sym e ∙ at)) in
    (subst (λ z. is_same_table (codes "Tables") z ≡ true) (sym same.0) is, subst NamesTable (sym same.1) names)
spells_named path text name o (target.Service v) e s none h = none v h

pub path_named : (path text name : List ℕ) (o : Option (Bor (List ℕ))) (r : Result (Option Target) NoMemory) → path ≡ codes "/" ++ text → SplitsName text name o → ((v : Service) → path ≢ service_path v)
    → Found (NamedBy name (opened_text o)) r → Found (SpellsPath path) r
path_named path text name o (Ok (Some t)) e s none h = named_spells path text name o t e s h
path_named path text name o (Ok None) e s none h = λ t is. h t (spells_named path text name o t e s none is)
path_named path text name o (Err f) e s none h = tt

-- and without a slash nothing does
pub slash_first : (path : List ℕ) (t : Target) → ((rest : List ℕ) → path ≢ codes "/" ++ rest) → ((v : Service) → path ≢ service_path v) → SpellsPath path t → ⊥
slash_first path (target.Table n k) none other h = none (n ++ keys_text k) h.1
slash_first path target.Tables none other (n, rest, is, at, names) = none (n ++ rest) at
slash_first path (target.Service v) none other h = other v h
