-- Sizes of pieces, and what a read over memory does as a read of any source.
use Rattle.std.proofs.Common.{◌≡◌, ℕ, zero, suc, ◌+◌, ◌^◌, ◌<◌, ◌≤◌, min, List, [], ◌∷◌, ◌++◌, length, take, drop, Some, Ok, IsTrue, refl, sym, ap, ◌∙◌, arith, subst, length-take}
use Rattle.std.proofs.lemmas.List.{take-append-drop}
use Rattle.std.proofs.Math.Seq.{take-append_seam, drop-nil}
use Rattle.mt_io.specs.Ends.{Reads}
use Rattle.mt_io.specs.Memory.{MemoryInput, input_of, next_size, later_sizes, count_given, after_read}

pub later_more : (xs : List ℕ) (p : ℕ) → p + 1 < length xs → drop (p + 1) xs ≡ later_sizes (drop p xs)
later_more [] p lt = let none : ⊥ = omega (arith, lt) in absurd none
later_more (x ∷ []) zero lt = let none : ⊥ = omega (arith, lt) in absurd none
later_more (x ∷ (y ∷ ys)) zero lt = refl
later_more (x ∷ xs) (suc p) lt =
    let e : suc p + 1 ≡ suc (p + 1) = omega arith in
    ap (λ k. drop k (x ∷ xs)) e ∙ later_more xs p (omega (arith, lt))

pub later_last : (xs : List ℕ) (p : ℕ) → length xs ≤ p + 1 → drop p xs ≡ later_sizes (drop p xs)
later_last [] zero le = refl
later_last [] (suc p) le = refl
later_last (x ∷ []) zero le = refl
later_last (x ∷ (y ∷ ys)) zero le = let none : ⊥ = omega (arith, le) in absurd none
later_last (x ∷ xs) (suc p) le = later_last xs p (omega (arith, le))

nothing_left : (sizes : List ℕ) (left : List ℕ) (room : ℕ) → 0 < room → min (min (next_size sizes (length left)) room) (length left) ≡ 0 → length left ≡ 0
nothing_left [] left room some is = omega (arith, some, is)
nothing_left (size ∷ sizes) left room some is = omega (arith, some, is)

-- a list of no length is empty
empty_of : (xs : List ℕ) → length xs ≡ 0 → xs ≡ []
empty_of [] is = refl
empty_of (x ∷ xs) is = let none : ⊥ = omega (arith, is) in absurd none

end_of : (s : MemoryInput) (n room : ℕ) → 0 < room → n ≡ count_given s room → n ≡ 0 → drop n s.left ≡ []
end_of s n room some count none =
    let nothing : length s.left ≡ 0 = nothing_left s.pieces s.left room some (sym count ∙ none) in
    ap (drop n) (empty_of s.left nothing) ∙ drop-nil n

front_of : (n : ℕ) (left old : List ℕ) → n ≤ length left → n ≤ length old → take n (take n left ++ drop n old) ≡ take n left
front_of n left old le room =
    let size : length (take n left) ≡ n = length-take n left ∙ omega (arith, le) in
    ap (λ k. take k (take n left ++ drop n old)) (sym size) ∙ take-append_seam (take n left) (drop n old)

-- a read that gave this many bytes of what is left, and took them away
pub reads_given : (s t : MemoryInput) (n : ℕ) (old new : List ℕ) → IsTrue s.open → s.calls + 1 < 2 ^ 32 → 0 < length old → n ≡ count_given s (length old) → new ≡ take n s.left ++ drop n old → length new ≡ length old → t ≡ after_read s n → Reads (input_of s) (Ok n) new (input_of t)
reads_given s t n old new ready early some count bytes size is =
    let le : n ≤ length s.left = omega (arith, count) in
    let room : n ≤ length old = omega (arith, count) in
    let front : take n new ≡ take n s.left = ap (take n) bytes ∙ front_of n s.left old le room in
    let reads : Reads (input_of s) (Ok n) new (input_of (after_read s n)) = record {
      number = refl;
      same = refl;
      calls = refl;
      grew = omega (arith, early);
      faults = omega arith;
      took = record {
        within = omega (arith, room, size);
        left = ap Some (sym (take-append-drop n s.left) ∙ ap (λ v. v ++ drop n s.left) (sym front));
        end = λ none. end_of s n (length old) some count none;
        early = early;
        ready = ready;
      };
    } in
    subst (λ v. Reads (input_of s) (Ok n) new (input_of v)) (sym is) reads
