-- Lines that stand between parts, and those that do not.
use Rattle.std.proofs.Common.{◌≡◌, ◌≢◌, ℕ, ◌+◌, ◌-◌, Bool, true, false, List, [], ◌∷◌, ◌++◌, length, take, Option, Some, None, Bor, refl, sym, ap, ◌∙◌, arith, append_assoc, append-nil, length-append, subst, codes}
use Rattle.std.specs.List.{list_all}
use Rattle.std.proofs.lemmas.List.{append_cancel_left, take_at}
use Rattle.std.proofs.lemmas.List.Elements.{All-push}
use Rattle.httparse.specs.Grammar.{is_ows}
use Rattle.mt_mime.specs.declared.lines.Line.{Line}
use Rattle.mt_mime.specs.Lines.{line_end, print_line, print_lines, Follows, IsPeeled, left}
use Rattle.mt_mime.specs.Marks.{IsDelimiter, IsClosing, IsOther, IsPlain, Ends, HasNoMark, HasMark, Passed}
use Rattle.mt_mime.proofs.LineLaws.{follows_left}

pub clash : (b : Bool) → b ≡ true → b ≡ false → ⊥
clash b t f = cc

after_word : (b line r s blanks : List ℕ) → line ≡ codes "--" ++ r → r ≡ b ++ s → line ≡ codes "--" ++ b ++ blanks → s ≡ blanks
after_word b line r s blanks e f w =
    append_cancel_left (codes "--" ++ b) s blanks (append_assoc (codes "--") b s ∙ sym (e ∙ ap (λ (x : List ℕ). codes "--" ++ x) f) ∙ w)

pub no_delimiter : (b line r s : List ℕ) → line ≡ codes "--" ++ r → r ≡ b ++ s → list_all is_ows s ≡ false → IsDelimiter b line → ⊥
no_delimiter b line r s e f not m =
    clash (list_all is_ows s) (ap (list_all is_ows) (after_word b line r s m.blanks e f m.whole) ∙ m.each) not

closing_rest : (b line r s : List ℕ) → line ≡ codes "--" ++ r → r ≡ b ++ s → (m : IsClosing b line) → s ≡ codes "--" ++ m.blanks
closing_rest b line r s e f m = after_word b line r s (codes "--" ++ m.blanks) e f (m.whole ∙ append_assoc (codes "--" ++ b) (codes "--") m.blanks)

pub no_dashes : (b line r s : List ℕ) → line ≡ codes "--" ++ r → r ≡ b ++ s → ((rest : List ℕ) → s ≢ codes "--" ++ rest) → IsClosing b line → ⊥
no_dashes b line r s e f not m = not m.blanks (closing_rest b line r s e f m)

pub no_closing : (b line r s t : List ℕ) → line ≡ codes "--" ++ r → r ≡ b ++ s → s ≡ codes "--" ++ t → list_all is_ows t ≡ false → IsClosing b line → ⊥
no_closing b line r s t e f g not m =
    let same = append_cancel_left (codes "--") t m.blanks (sym g ∙ closing_rest b line r s e f m) in
    clash (list_all is_ows t) (ap (list_all is_ows) same ∙ m.each) not

-- no line both begins a part and ends all
pub marks_differ : (b line : List ℕ) → IsDelimiter b line → IsClosing b line → ⊥
marks_differ b line d m =
    let same : d.blanks ≡ codes "--" ++ m.blanks = append_cancel_left (codes "--" ++ b) d.blanks (codes "--" ++ m.blanks) (sym d.whole ∙ m.whole ∙ append_assoc (codes "--" ++ b) (codes "--") m.blanks) in
    clash (list_all is_ows d.blanks) d.each (ap (list_all is_ows) same)

-- ---- plain lines, one after another

pub print_join : (ls ms : List (List ℕ)) → print_lines (ls ++ ms) ≡ print_lines ls ++ print_lines ms
print_join [] ms = refl
print_join (l ∷ ls) ms = ap (λ (x : List ℕ). print_line l ++ x) (print_join ls ms) ∙ sym (append_assoc (print_line l) (print_lines ls) (print_lines ms))

-- one line more
print_push : (ls : List (List ℕ)) (l rest : List ℕ) → print_lines (ls ++ l ∷ []) ++ rest ≡ print_lines ls ++ (print_line l ++ rest)
print_push ls l rest =
    ap (λ (x : List ℕ). x ++ rest) (print_join ls (l ∷ []) ∙ ap (λ (x : List ℕ). print_lines ls ++ x) (append-nil (print_line l)))
    ∙ append_assoc (print_lines ls) (print_line l) rest

pub passed_more : (b bytes rest : List ℕ) (l : Line) (more : Bor (List ℕ)) → Passed b bytes rest → IsPeeled rest l → IsOther b l.text.now → l.rest ≡ Some more → Passed b bytes more.now
passed_more b bytes rest l more p line other is =
    let f : Follows rest l.text.now (Some more) = subst (λ (o : Option (Bor (List ℕ))). Follows rest l.text.now o) is line.whole in
    record {
      lines = p.lines ++ l.text.now ∷ [];
      each = All-push (IsPlain b) p.lines l.text.now p.each (record { line = line.line; other = other });
      whole = p.whole ∙ ap (λ (x : List ℕ). print_lines p.lines ++ x) f ∙ sym (print_push p.lines l.text.now more.now);
    }

left_after : (b bytes rest : List ℕ) (l : Line) → (p : Passed b bytes rest) → IsPeeled rest l → print_line bytes ≡ print_lines p.lines ++ (print_line l.text.now ++ left l.rest)
left_after b bytes rest l p line =
    ap print_line p.whole ∙ append_assoc (print_lines p.lines) rest line_end
    ∙ ap (λ (x : List ℕ). print_lines p.lines ++ x) (follows_left rest l.text.now l.rest line.whole)

pub passed_all : (b bytes rest : List ℕ) (l : Line) → Passed b bytes rest → IsPeeled rest l → IsOther b l.text.now → l.rest ≡ None → HasNoMark b bytes
passed_all b bytes rest l p line other is = record {
  lines = p.lines ++ l.text.now ∷ [];
  each = All-push (IsPlain b) p.lines l.text.now p.each (record { line = line.line; other = other });
  whole =
      left_after b bytes rest l p line
      ∙ ap (λ (o : Option (Bor (List ℕ))). print_lines p.lines ++ (print_line l.text.now ++ left o)) is
      ∙ sym (print_join p.lines (l.text.now ∷ []));
}

pub mark_found : (b bytes rest : List ℕ) (l : Line) (lines : Bor (List ℕ)) (closing : Bool) → Passed b bytes rest → IsPeeled rest l → Ends b l.text.now closing → lines.now ≡ take (length bytes - length rest) bytes
    → HasMark b bytes (record { lines = lines; closing = closing; rest = l.rest })
mark_found b bytes rest l lines closing p line ends is =
    let size : length bytes ≡ length (print_lines p.lines) + length rest = ap (λ (x : List ℕ). length x) p.whole ∙ length-append (print_lines p.lines) rest in
    let place : length (print_lines p.lines) ≡ length bytes - length rest = omega (arith, size) in
    record {
      lines = p.lines;
      each = p.each;
      lines_are = is ∙ ap (take (length bytes - length rest)) p.whole ∙ take_at (print_lines p.lines) rest (length bytes - length rest) place;
      mark = l.text.now;
      line = line.line;
      ends = ends;
      whole = left_after b bytes rest l p line;
    }
