-- One step of a pass that writes rows anew: what is written and what is left after it.
use Rattle.std.proofs.Common.{◌≡◌, ℕ, ◌+◌, ◌<◌, List, [], ◌∷◌, ◌++◌, length, take, drop, set, get_or, sym, ap, ◌∙◌, arith, append_assoc, append-nil}
use Rattle.std.specs.List.{swap}
use Rattle.std.proofs.lemmas.List.{take_more, take_more_set, drop_more, drop-drop, drop-set-lt, take-set-le, take-append-drop, take-take, drop-take}
use Rattle.std.proofs.lemmas.List.Edits.{swap_is}

module _ {X : Type 0} where
  first_left : (rows : List X) (r : ℕ) (d : X) → r < length rows → take 1 (drop r rows) ≡ get_or rows r d ∷ []
  first_left rows r d l = ap (take 1) (drop_more rows r d l)

  -- ---- a row moves down

  pub moved_written : (rows waiting : List X) (f r : ℕ) → f < r → r < length rows → waiting ≡ [] → take (f + 1) (swap rows f r) ++ waiting ≡ (take f rows ++ waiting) ++ take 1 (drop r rows)
  moved_written [] waiting f r fr l none = absurd (omega arith)
  moved_written (d ∷ ds) waiting f r fr l none =
      let rows = d ∷ ds in
      ap (λ xs. take (f + 1) xs ++ waiting) (sym (swap_is rows f r d (omega (arith, fr, l)) l))
      ∙ ap (λ xs. xs ++ waiting) (take-set-le (f + 1) (set rows f (get_or rows r d)) r (get_or rows f d) (omega arith) ∙ take_more_set rows f (get_or rows r d) (omega (arith, fr, l)))
      ∙ ap (λ ws. (take f rows ++ get_or rows r d ∷ []) ++ ws) none
      ∙ append-nil (take f rows ++ get_or rows r d ∷ [])
      ∙ sym (ap (λ xs. xs ++ get_or rows r d ∷ []) (append-nil (take f rows)))
      ∙ sym (ap (λ ws. (take f rows ++ ws) ++ get_or rows r d ∷ []) none)
      ∙ sym (ap (λ xs. (take f rows ++ waiting) ++ xs) (first_left rows r d l))

  pub moved_left : (rows : List X) (f r : ℕ) → f < r → r < length rows → drop (r + 1) (swap rows f r) ≡ drop 1 (drop r rows)
  moved_left [] f r fr l = absurd (omega arith)
  moved_left (d ∷ ds) f r fr l =
      let rows = d ∷ ds in
      ap (drop (r + 1)) (sym (swap_is rows f r d (omega (arith, fr, l)) l))
      ∙ drop-set-lt (r + 1) (set rows f (get_or rows r d)) r (get_or rows f d) (omega arith)
      ∙ drop-set-lt (r + 1) rows f (get_or rows r d) (omega (arith, fr))
      ∙ sym (drop-drop 1 r rows)

  -- ---- a row takes the place of the one that is read, which waits

  pub queued_written : (rows waiting rest : List X) (f r : ℕ) (first row : X) → f ≡ r → r < length rows → waiting ≡ first ∷ rest → row ≡ get_or rows r row
      → take (f + 1) (set rows r first) ++ (rest ++ row ∷ []) ≡ (take f rows ++ waiting) ++ take 1 (drop r rows)
  queued_written rows waiting rest f r first row same l head is =
      ap (λ n. take (n + 1) (set rows r first) ++ (rest ++ row ∷ [])) same
      ∙ ap (λ xs. xs ++ (rest ++ row ∷ [])) (take_more_set rows r first l)
      ∙ append_assoc (take r rows) (first ∷ []) (rest ++ row ∷ [])
      ∙ sym (append_assoc (take r rows) (first ∷ rest) (row ∷ []))
      ∙ sym (ap (λ n. (take n rows ++ first ∷ rest) ++ row ∷ []) same)
      ∙ sym (ap (λ ws. (take f rows ++ ws) ++ row ∷ []) head)
      ∙ ap (λ x. (take f rows ++ waiting) ++ x ∷ []) is
      ∙ sym (ap (λ xs. (take f rows ++ waiting) ++ xs) (first_left rows r row l))

  pub replaced_left : (rows : List X) (r : ℕ) (first : X) → drop (r + 1) (set rows r first) ≡ drop 1 (drop r rows)
  replaced_left rows r first = drop-set-lt (r + 1) rows r first (omega arith) ∙ sym (drop-drop 1 r rows)

  -- ---- a row stays in its place

  pub stayed_written : (rows waiting : List X) (f r : ℕ) → f ≡ r → r < length rows → waiting ≡ [] → take (f + 1) rows ++ waiting ≡ (take f rows ++ waiting) ++ take 1 (drop r rows)
  stayed_written [] waiting f r same l none = absurd (omega arith)
  stayed_written (d ∷ ds) waiting f r same l none =
      let rows = d ∷ ds in
      ap (λ ws. take (f + 1) rows ++ ws) none
      ∙ append-nil (take (f + 1) rows)
      ∙ ap (λ n. take (n + 1) rows) same
      ∙ take_more rows r d l
      ∙ sym (ap (λ n. take n rows ++ get_or rows r d ∷ []) same)
      ∙ sym (ap (λ xs. xs ++ get_or rows r d ∷ []) (append-nil (take f rows)))
      ∙ sym (ap (λ ws. (take f rows ++ ws) ++ get_or rows r d ∷ []) none)
      ∙ sym (ap (λ xs. (take f rows ++ waiting) ++ xs) (first_left rows r d l))

  pub take_and : (n k : ℕ) (rows : List X) → take (n + k) rows ≡ take n rows ++ take k (drop n rows)
  take_and n k rows =
      sym (take-append-drop n (take (n + k) rows))
      ∙ ap (λ xs. xs ++ drop n (take (n + k) rows)) (take-take n (n + k) rows (omega arith))
      ∙ ap (λ xs. take n rows ++ xs) (drop-take n k rows)

  pub all_stayed_written : (rows waiting : List X) (f r k : ℕ) → f ≡ r → waiting ≡ [] → take (f + k) rows ++ waiting ≡ (take f rows ++ waiting) ++ take k (drop r rows)
  all_stayed_written rows waiting f r k same none =
      ap (λ ws. take (f + k) rows ++ ws) none
      ∙ append-nil (take (f + k) rows)
      ∙ take_and f k rows
      ∙ ap (λ n. take f rows ++ take k (drop n rows)) same
      ∙ sym (ap (λ xs. xs ++ take k (drop r rows)) (append-nil (take f rows)))
      ∙ sym (ap (λ ws. (take f rows ++ ws) ++ take k (drop r rows)) none)

  pub next_left : (rows : List X) (r : ℕ) → drop (r + 1) rows ≡ drop 1 (drop r rows)
  next_left rows r = sym (drop-drop 1 r rows)
