-- A plan of puts, one put after another.
use Rattle.std.proofs.Common.{◌≡◌, ℕ, suc, ◌+◌, ◌<◌, List, [], ◌∷◌, ◌++◌, length, map, drop, get_or, drop-cons, sym, ap, ◌∙◌, subst, arith, append_assoc, append-nil, bytes_eq, None, Some}
use Rattle.std.proofs.lemmas.List.{map-append}
use Rattle.std.specs.List.{IsDistinct}
use Rattle.mt_model.specs.declared.tag.Tag.{Tag}
use Rattle.mt_chain.specs.declared.row.Put.{Put}
use Rattle.mt_chain.specs.Rows.{Rows}
use Rattle.mt_chain.specs.Puts.{row_key, counter_after, tag_of, all_rows_after, all_counter_after, tags_of}
use Rattle.mt_mem.specs.declared.change.Change.{Change}
use Rattle.mt_mem.specs.Changes.{Edit, edited, AreEdits, edit_of, edits_of, edit_by, edits_by, IsChange}
use Rattle.mt_mem.proofs.EditLaws.{are_edits, edits_done}

pub next_item : {X : Type 0} (xs : List X) (i : ℕ) (x : X) → i < length xs → x ≡ get_or xs i x → drop i xs ≡ x ∷ drop (i + 1) xs
next_item xs i x l is = drop-cons xs i x l ∙ ap (λ y. y ∷ drop (suc i) xs) (sym is) ∙ ap (λ k. x ∷ drop k xs) (let e : suc i ≡ i + 1 = omega arith in e)

-- a put that was planned comes before the rest

pub edits_more : (store n m : ℕ) (pk : List ℕ) (puts : List Put) (i : ℕ) (put : Put) (edits after : List Edit)
    → drop i puts ≡ put ∷ drop (i + 1) puts → m ≡ counter_after n put → after ≡ edits ++ edit_by store n pk put
    → after ++ edits_by store m pk (drop (i + 1) puts) ≡ edits ++ edits_by store n pk (drop i puts)
edits_more store n m pk puts i put edits after next count more =
    ap (λ es. es ++ edits_by store m pk (drop (i + 1) puts)) more
    ∙ append_assoc edits (edit_by store n pk put) (edits_by store m pk (drop (i + 1) puts))
    ∙ ap (λ k. edits ++ (edit_by store n pk put ++ edits_by store k pk (drop (i + 1) puts))) count
    ∙ sym (ap (λ ps. edits ++ edits_by store n pk ps) next)

-- the edits of changes, with that of one more put

pub edits_pushed : (store n : ℕ) (pk : List ℕ) (put : Put) (changes after : List Change) (change : Change) → after ≡ changes ++ change ∷ [] → IsChange store n pk put (Some change)
    → edits_of pk after ≡ edits_of pk changes ++ edit_by store n pk put
edits_pushed store n pk put changes after change more is =
    ap (edits_of pk) more
    ∙ map-append (edit_of pk) changes (change ∷ [])
    ∙ ap (λ es. edits_of pk changes ++ es) (sym is)

pub edits_kept : (store n : ℕ) (pk : List ℕ) (put : Put) (changes after : List Change) → after ≡ changes → IsChange store n pk put None
    → edits_of pk after ≡ edits_of pk changes ++ edit_by store n pk put
edits_kept store n pk put changes after same is =
    ap (edits_of pk) same
    ∙ sym (append-nil (edits_of pk changes))
    ∙ ap (λ es. edits_of pk changes ++ es) (sym is)

pub tags_more : (store n m : ℕ) (puts : List Put) (i : ℕ) (put : Put) (tags after : List Tag) (tag : Tag)
    → drop i puts ≡ put ∷ drop (i + 1) puts → m ≡ counter_after n put → tag ≡ tag_of store n put → after ≡ tags ++ tag ∷ []
    → after ++ tags_of store m (drop (i + 1) puts) ≡ tags ++ tags_of store n (drop i puts)
tags_more store n m puts i put tags after tag next count is more =
    ap (λ ts. ts ++ tags_of store m (drop (i + 1) puts)) more
    ∙ append_assoc tags (tag ∷ []) (tags_of store m (drop (i + 1) puts))
    ∙ ap (λ k. tags ++ tag ∷ tags_of store k (drop (i + 1) puts)) count
    ∙ ap (λ t. tags ++ t ∷ tags_of store (counter_after n put) (drop (i + 1) puts)) is
    ∙ sym (ap (λ ps. tags ++ tags_of store n ps) next)

pub counter_more : (n m : ℕ) (puts : List Put) (i : ℕ) (put : Put) → drop i puts ≡ put ∷ drop (i + 1) puts → m ≡ counter_after n put
    → all_counter_after m (drop (i + 1) puts) ≡ all_counter_after n (drop i puts)
counter_more n m puts i put next count = ap (λ k. all_counter_after k (drop (i + 1) puts)) count ∙ sym (ap (all_counter_after n) next)

-- changes with the edits of puts are a plan of them

pub planned_edits : (store n : ℕ) (pk : List ℕ) (puts : List Put) (edits : List Edit) → IsDistinct bytes_eq (map row_key puts) → edits ≡ edits_by store n pk puts → AreEdits pk edits
planned_edits store n pk puts edits h is = subst (AreEdits pk) (sym is) (are_edits store n pk puts h)

pub planned_rows : (store n : ℕ) (pk : List ℕ) (puts : List Put) (edits : List Edit) → edits ≡ edits_by store n pk puts → (rows : Rows) → edited edits rows ≡ all_rows_after store n pk puts rows
planned_rows store n pk puts edits is rows = ap (λ es. edited es rows) is ∙ edits_done store n pk puts rows
