-- How legal histories grow, and that no tag of a write comes twice in one.
use Rattle.std.proofs.Common.{◌≡◌, ◌≢◌, ◌∙◌, ◌⊎◌, suc, List, [], ◌∷◌, ◌++◌, get_or, refl, sym, ap, subst, inl, inr, arith, append_assoc}
use Rattle.std.proofs.lemmas.List.{append-nil}
use Rattle.std.proofs.lemmas.List.Elements.{All-append, Contains-append_right}
use Rattle.std.proofs.lemmas.List.Concat.{flat_map-append}
use Rattle.std.proofs.lemmas.List.Kept.{AllPairs-cons}
use Rattle.std.proofs.lemmas.List.Sums.{fold-append}
use Rattle.std.specs.List.{All, AllPairs, Contains}
use Rattle.mt_model.specs.declared.tag.Tag.{Tag}
use Rattle.mt_chain.specs.declared.op.Op.{Op}
use Rattle.mt_chain.specs.Table.{Table, IsFinite}
use Rattle.mt_chain.specs.Batch.{batch_applied, table_after, unless_refusal}
use Rattle.mt_chain.proofs.Theorems.{finite_after}
use Rattle.mt_history.specs.declared.entry.What.{What}
use Rattle.mt_history.specs.declared.entry.What.TheVariants as what
use Rattle.mt_history.specs.declared.entry.Entry.{Entry}
use Rattle.mt_history.specs.Window.{Window, after_entry, replay, table_at_end, begun, with_one}
use Rattle.mt_history.specs.Legal.{IsLegal, IsLegalNext, IsTrueAtEnd, IsNew, HasTag, entry_tags, all_tags}
use Rattle.mt_history.proofs.CountLaws.{along}

pub replays_join : (table : Table) (xs ys : List Entry) → replay table (xs ++ ys) ≡ replay (replay table xs) ys
replays_join table xs ys = fold-append (λ (t : Table) (e : Entry). after_entry t e.what) table xs ys

-- ---- batches

pub legal_batches_apply : (w : Window) (batch : List Op) (tags : List Tag) → IsTrueAtEnd w (what.Batch batch tags) → after_entry (table_at_end w) (what.Batch batch tags) ≡ table_after batch tags (table_at_end w)
legal_batches_apply w batch tags says = sym (ap (λ r. unless_refusal r (batch_applied batch tags (table_at_end w)) (table_at_end w)) says.accepted)

finite_entry : (w : Window) (said : What) → IsTrueAtEnd w said → IsFinite (table_at_end w) → IsFinite (after_entry (table_at_end w) said)
finite_entry w (what.Batch batch tags) says finite = subst IsFinite (sym (legal_batches_apply w batch tags says)) (finite_after batch tags (table_at_end w) finite)
finite_entry w (what.Refused batch) says finite = finite
finite_entry w (what.Query pk wanted) says finite = finite
finite_entry w (what.Scan pk from upto wanted) says finite = finite
finite_entry w (what.Gap from to) says finite = finite
finite_entry w what.Fault says finite = finite

pub tables_stay_finite : (w : Window) → IsLegal w → IsFinite w.base → IsFinite (table_at_end w)
tables_stay_finite w legal finite =
    along w (λ xs. IsFinite (replay w.base xs))
    (λ xs e rest is holds. subst IsFinite (sym (replays_join w.base xs (e ∷ []))) (finite_entry (begun w xs) e.what (legal xs rest e is).says holds))
    [] w.entries refl finite

-- ---- one entry more

not_empty : (before after : List Entry) (e : Entry) → [] ≡ before ++ e ∷ after → ⊥
not_empty [] after e is = absurd cc
not_empty (b ∷ before) after e is = absurd cc

pub nothing_is_legal : (w : Window) → w.entries ≡ [] → IsLegal w
nothing_is_legal w none before after e is = absurd (not_empty before after e (sym none ∙ is))

-- an entry of a list with one more at its end is that one, or one of the list
abbrev IsCutAt : (xs before : List Entry) (y e : Entry) → Type 0
IsCutAt xs before y e = ((before ≡ xs) × (e ≡ y)) ⊎ ((rest : List Entry) × (xs ≡ before ++ e ∷ rest))

cut_at : (xs before after : List Entry) (y e : Entry) → xs ++ y ∷ [] ≡ before ++ e ∷ after → IsCutAt xs before y e
cut_at [] [] after y e is = inl (refl, (let same : e ≡ y = cc in same))
cut_at [] (b ∷ before) after y e is = absurd (not_empty before after e (let rest : [] ≡ before ++ e ∷ after = cc in rest))
cut_at (x ∷ xs) [] after y e is = inr (xs, (let same : x ≡ e = cc in ap (λ z. z ∷ xs) same))
cut_at (x ∷ xs) (b ∷ before) after y e is =
    let same : x ≡ b = cc in
    elim (cut_at xs before after y e (let rest : xs ++ y ∷ [] ≡ before ++ e ∷ after = cc in rest)) as (λ _. IsCutAt (x ∷ xs) (b ∷ before) y e) [
      | inl last ↦ inl ((λ i. sym same i ∷ last.0 i), last.1)
      | inr within ↦ inr (within.0, (λ i. same i ∷ within.1 i))
    ]

pub legal_grows : (w : Window) (y : Entry) → IsLegal w → IsLegalNext w y → IsLegal (with_one w y)
legal_grows w y legal next before after e is =
    elim (cut_at w.entries before after y e is) as (λ _. IsLegalNext (begun w before) e) [
      | inl last ↦ subst (λ es. IsLegalNext (begun w es) e) (sym last.0) (subst (λ x. IsLegalNext w x) (sym last.1) next)
      | inr within ↦ legal before within.0 e within.1
    ]

pub legal_was : (w : Window) (y : Entry) → IsLegal (with_one w y) → IsLegal w
legal_was w y legal before after e is = legal before (after ++ y ∷ []) e (ap (λ es. es ++ y ∷ []) is ∙ append_assoc before (e ∷ after) (y ∷ []))

pub legal_next : (w : Window) (y : Entry) → IsLegal (with_one w y) → IsLegalNext w y
legal_next w y legal = legal w.entries [] y refl

-- ---- tags

-- no element of the one list is one of the other
abbrev AreStrangers : List Tag → List Tag → Type 0
AreStrangers xs ys = All (λ y. Contains xs y → ⊥) ys

later : {X : Type 0} (R : X → X → Type 0) (x : X) (xs : List X) → AllPairs R (x ∷ xs) → All (R x) xs
later R x xs pairs k d l = pairs 0 (suc k) d (omega arith) (omega arith)

rest_pairs : {X : Type 0} (R : X → X → Type 0) (x : X) (xs : List X) → AllPairs R (x ∷ xs) → AllPairs R xs
rest_pairs R x xs pairs i j d ij jl = pairs (suc i) (suc j) d (omega arith) (omega arith)

differs_from_all : (x : Tag) (xs ys : List Tag) → AreStrangers (x ∷ xs) ys → All (λ y. x ≢ y) ys
differs_from_all x xs ys strangers k d l same = strangers k d l (0, omega arith, same)

rest_strangers : (x : Tag) (xs ys : List Tag) → AreStrangers (x ∷ xs) ys → AreStrangers xs ys
rest_strangers x xs ys strangers k d l has = strangers k d l (Contains-append_right (x ∷ []) xs (get_or ys k d) has)

pairs_join : (xs ys : List Tag) → AllPairs (λ a b. a ≢ b) xs → AllPairs (λ a b. a ≢ b) ys → AreStrangers xs ys → AllPairs (λ a b. a ≢ b) (xs ++ ys)
pairs_join [] ys p q strangers = q
pairs_join (x ∷ xs) ys p q strangers =
    AllPairs-cons (λ (a b : Tag). a ≢ b) x (xs ++ ys)
    (All-append (λ y. x ≢ y) xs ys (later (λ (a b : Tag). a ≢ b) x xs p) (differs_from_all x xs ys strangers))
    (pairs_join xs ys (rest_pairs (λ (a b : Tag). a ≢ b) x xs p) q (rest_strangers x xs ys strangers))

-- the tags of an entry that may come next differ, and are new
record AreNew (w : Window) (tags : List Tag) : Type 0 where
  apart : AllPairs (λ a b. a ≢ b) tags
  fresh : All (IsNew w) tags

none_new : (w : Window) → AreNew w []
none_new w = record { apart = λ i j d ij jl. absurd (omega arith); fresh = λ k d l. absurd (omega arith) }

new_tags : (w : Window) (said : What) → IsTrueAtEnd w said → AreNew w (entry_tags said)
new_tags w (what.Batch batch tags) says = record { apart = says.apart; fresh = says.fresh }
new_tags w (what.Refused batch) says = none_new w
new_tags w (what.Query pk wanted) says = none_new w
new_tags w (what.Scan pk from upto wanted) says = none_new w
new_tags w (what.Gap from to) says = none_new w
new_tags w what.Fault says = none_new w

-- the tags of the first entries differ, and the base has none of them
record AreOnce (w : Window) (entries : List Entry) : Type 0 where
  apart : AllPairs (λ a b. a ≢ b) (all_tags entries)
  strange : All (λ tag. HasTag w.base tag → ⊥) (all_tags entries)

one_more : (xs : List Entry) (e : Entry) → all_tags (xs ++ e ∷ []) ≡ all_tags xs ++ entry_tags e.what
one_more xs e =
    flat_map-append (λ (x : Entry). entry_tags x.what) xs (e ∷ [])
    ∙ ap (λ tags. all_tags xs ++ tags) (append-nil (entry_tags e.what))

once_more : (w : Window) (before : List Entry) (e : Entry) → AreOnce w before → AreNew (begun w before) (entry_tags e.what) → AreOnce w (before ++ e ∷ [])
once_more w before e once new = record {
  apart = subst (AllPairs (λ (a b : Tag). a ≢ b)) (sym (one_more before e))
      (pairs_join (all_tags before) (entry_tags e.what) once.apart new.apart (λ k d l has. (new.fresh k d l).entries has));
  strange = subst (All (λ tag. HasTag w.base tag → ⊥)) (sym (one_more before e))
      (All-append (λ tag. HasTag w.base tag → ⊥) (all_tags before) (entry_tags e.what) once.strange (λ k d l has. (new.fresh k d l).base has));
}

tags_once : (w : Window) → IsLegal w → AreOnce w w.entries
tags_once w legal =
    along w (AreOnce w) (λ xs e rest is once. once_more w xs e once (new_tags (begun w xs) e.what (legal xs rest e is).says))
    [] w.entries refl (record { apart = λ i j d ij jl. absurd (omega arith); strange = λ k d l. absurd (omega arith) })

pub tags_differ : (w : Window) → IsLegal w → AllPairs (λ a b. a ≢ b) (all_tags w.entries)
tags_differ w legal = (tags_once w legal).apart

pub tags_are_new : (w : Window) → IsLegal w → All (λ tag. HasTag w.base tag → ⊥) (all_tags w.entries)
tags_are_new w legal = (tags_once w legal).strange
