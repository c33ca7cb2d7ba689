-- Puts of a client in one of the stores, and the rows that are there after them.
use Rattle.std.proofs.Common.{◌≡◌, ◌≢◌, ◌⊎◌, ℕ, false, ◌||◌, List, [], ◌∷◌, Option, Some, None, refl, sym, ap, ◌∙◌, subst, inl, inr}
use Rattle.mt_model.specs.declared.value.Prop.{Prop}
use Rattle.mt_model.specs.Key.{key_fault}
use Rattle.mt_chain.specs.declared.row.Stored.{Stored}
use Rattle.mt_chain.specs.declared.row.Put.{Put}
use Rattle.mt_chain.specs.declared.row.Put.TheVariants.{Check, Insert, Replace, Delete}
use Rattle.mt_chain.specs.Puts.{row_key}
use Rattle.mt_chain.proofs.KeyLaws.{text_false}
use Rattle.mt_chain.proofs.PutLaws.{row_after, is_named, row_after_unnamed, Each}
use Rattle.mt_meta.specs.Markers.{marker_key}
use Rattle.mt_meta.proofs.StorePuts.{Leaves, touched, the_row}

-- it leaves such properties, or deletes where it may
abbrev pub LeavesAs : (List Prop → Type 0) → Type 0 → Put → Type 0
LeavesAs Left Gone (Check rk tag) = ⊥
LeavesAs Left Gone (Insert rk props) = Left props
LeavesAs Left Gone (Replace rk props tag) = Left props
LeavesAs Left Gone (Delete rk tag) = Gone

-- a put of a client: not of the marker, under a client's key, and what it leaves is a client's
pub record IsPutOf (pk : List ℕ) (Left : List Prop → Type 0) (Gone : Type 0) (put : Put) : Type 0 where
  pub other : row_key put ≢ marker_key
  pub key : key_fault pk (row_key put) ≡ None
  pub leaves : LeavesAs Left Gone put

-- they leave the marker as it is
unmarked : (pk : List ℕ) (Left : List Prop → Type 0) (Gone : Type 0) (rest : List Put) → Each (IsPutOf pk Left Gone) rest → is_named marker_key rest ≡ false
unmarked pk Left Gone [] h = refl
unmarked pk Left Gone (put ∷ rest) h = ap (λ b. b || is_named marker_key rest) (text_false (row_key put) marker_key h.0.other) ∙ unmarked pk Left Gone rest h.1

pub marker_stays : (pk : List ℕ) (Left : List Prop → Type 0) (Gone : Type 0) (store n : ℕ) (rest : List Put) (row : Option Stored) → Each (IsPutOf pk Left Gone) rest → row_after store n rest marker_key row ≡ row
marker_stays pk Left Gone store n rest row h = row_after_unnamed store n rest marker_key row (unmarked pk Left Gone rest h)

-- a row that is there after them was there, or is what a client leaves under a client's key
abbrev pub IsOneOf : List ℕ → (List Prop → Type 0) → List ℕ → Option Stored → Stored → Type 0
IsOneOf pk Left rk row r = (row ≡ Some r) ⊎ (Left r.props × (key_fault pk rk ≡ None))

left_is : (Left : List Prop → Type 0) (w r : Stored) (ps : List Prop) → Left ps → w.props ≡ ps → w ≡ r → Left r.props
left_is Left w r ps l e same = subst Left (sym e ∙ ap (λ (x : Stored). x.props) same) l

pub left_props : (Left : List Prop → Type 0) (Gone : Type 0) (put : Put) (after : Option Stored) (r : Stored) → LeavesAs Left Gone put → Leaves put after → after ≡ Some r → Left r.props
left_props Left Gone (Check rk tag) after r h l is = absurd l
left_props Left Gone (Insert rk props) after r h l is = left_is Left l.0 r props h l.2 (the_row l.0 r (sym l.1 ∙ is))
left_props Left Gone (Replace rk props tag) after r h l is = left_is Left l.0 r props h l.2 (the_row l.0 r (sym l.1 ∙ is))
left_props Left Gone (Delete rk tag) after r h l is = absurd (let e = sym l ∙ is in cc)

pub one_of : (pk : List ℕ) (Left : List Prop → Type 0) (Gone : Type 0) (store n : ℕ) (rest : List Put) (rk : List ℕ) (row : Option Stored) (r : Stored) → Each (IsPutOf pk Left Gone) rest
    → row_after store n rest rk row ≡ Some r → IsOneOf pk Left rk row r
one_of pk Left Gone store n rest rk row r h is = elim (touched (IsPutOf pk Left Gone) store n rest rk row h) as (λ _. IsOneOf pk Left rk row r) [
  | inl same ↦ inl (sym same ∙ is)
  | inr w ↦ inr (left_props Left Gone w.0 (row_after store n rest rk row) r w.1.leaves w.3 is, subst (λ k. key_fault pk k ≡ None) w.2 w.1.key)
]
