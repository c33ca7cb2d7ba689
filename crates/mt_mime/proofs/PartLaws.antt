-- The parts of a body are spelled in one way.
use Rattle.std.proofs.Common.{◌≡◌, ℕ, ◌+◌, ◌-◌, true, false, List, [], ◌∷◌, ◌++◌, length, Option, Some, None, Bor, refl, sym, ap, ◌∙◌, arith, append_assoc, append-nil, length-append, subst, map}
use Rattle.std.specs.Prelude.{All}
use Rattle.std.proofs.lemmas.List.{take_at, map-append}
use Rattle.std.proofs.lemmas.List.Elements.{All-nil, All-push, All-head, All-tail}
use Rattle.mt_mime.specs.declared.marks.Mark.{Mark}
use Rattle.mt_mime.specs.Lines.{line_end, IsLine, print_line, print_lines, join_lines, left}
use Rattle.mt_mime.specs.Marks.{IsDelimiter, IsClosing, IsPlain, Ends, HasNoMark, HasMark}
use Rattle.mt_mime.specs.Parts.{BodyPart, Multipart, IsBodyPart, print_part, print_parts, HasParts, HasNoParts, part_text, without_end, Splits, Begun}
use Rattle.mt_mime.proofs.LineLaws.{line_unique}
use Rattle.mt_mime.proofs.MarkLaws.{marks_differ}

-- ---- plain lines up to one that is not

-- a line that is not plain
record IsStop (b : List ℕ) (text : List ℕ) : Type 0 where
  line : IsLine text
  not_plain : IsPlain b text → ⊥

stop_delimiter : (b x : List ℕ) → IsLine x → IsDelimiter b x → IsStop b x
stop_delimiter b x i d = record { line = i; not_plain = λ p. p.other.0 d }

stop_closing : (b x : List ℕ) → IsLine x → IsClosing b x → IsStop b x
stop_closing b x i d = record { line = i; not_plain = λ p. p.other.1 d }

not_same : (b x l : List ℕ) → IsStop b x → IsPlain b l → x ≡ l → ⊥
not_same b x l stop p e = stop.not_plain (subst (λ (t : List ℕ). IsPlain b t) (sym e) p)

some_line : (x s : List ℕ) → [] ≡ print_line x ++ s → ⊥
some_line [] s e = cc
some_line (c ∷ x) s e = cc

only_plain : (b : List ℕ) (ls ms : List (List ℕ)) (x s : List ℕ) → All (IsPlain b) ls → All (IsPlain b) ms → IsStop b x → print_lines ls ≡ print_lines ms ++ (print_line x ++ s) → ⊥
only_plain b [] [] x s i k stop e = some_line x s e
only_plain b [] (m ∷ ms) x s i k stop e = some_line m (print_lines ms ++ (print_line x ++ s)) (e ∙ append_assoc (print_line m) (print_lines ms) (print_line x ++ s))
only_plain b (l ∷ ls) [] x s i k stop e =
    let head = All-head (IsPlain b) l ls i in
    not_same b x l stop head (sym (line_unique l (print_lines ls) x s head.line stop.line e).0)
only_plain b (l ∷ ls) (m ∷ ms) x s i k stop e =
    let head = All-head (IsPlain b) l ls i in
    let other = All-head (IsPlain b) m ms k in
    let same = line_unique l (print_lines ls) m (print_lines ms ++ (print_line x ++ s)) head.line other.line (e ∙ append_assoc (print_line m) (print_lines ms) (print_line x ++ s)) in
    only_plain b ls ms x s (All-tail (IsPlain b) l ls i) (All-tail (IsPlain b) m ms k) stop same.1

plain_unique : (b : List ℕ) (ls : List (List ℕ)) (x r : List ℕ) (ms : List (List ℕ)) (y s : List ℕ) → All (IsPlain b) ls → IsStop b x → All (IsPlain b) ms → IsStop b y
    → print_lines ls ++ (print_line x ++ r) ≡ print_lines ms ++ (print_line y ++ s) → (ls ≡ ms) × (print_line x ++ r ≡ print_line y ++ s)
plain_unique b [] x r [] y s i stop k end e = (refl, e)
plain_unique b [] x r (m ∷ ms) y s i stop k end e =
    let other = All-head (IsPlain b) m ms k in
    absurd (not_same b x m stop other (line_unique x r m (print_lines ms ++ (print_line y ++ s)) stop.line other.line (e ∙ append_assoc (print_line m) (print_lines ms) (print_line y ++ s))).0)
plain_unique b (l ∷ ls) x r [] y s i stop k end e =
    let head = All-head (IsPlain b) l ls i in
    absurd (not_same b y l end head (line_unique y s l (print_lines ls ++ (print_line x ++ r)) end.line head.line (sym e ∙ append_assoc (print_line l) (print_lines ls) (print_line x ++ r))).0)
plain_unique b (l ∷ ls) x r (m ∷ ms) y s i stop k end e =
    let head = All-head (IsPlain b) l ls i in
    let other = All-head (IsPlain b) m ms k in
    let same = line_unique l (print_lines ls ++ (print_line x ++ r)) m (print_lines ms ++ (print_line y ++ s)) head.line other.line
    (sym (append_assoc (print_line l) (print_lines ls) (print_line x ++ r)) ∙ e ∙ append_assoc (print_line m) (print_lines ms) (print_line y ++ s)) in
    let more = plain_unique b ls x r ms y s (All-tail (IsPlain b) l ls i) stop (All-tail (IsPlain b) m ms k) end same.1 in
    let first : l ≡ m = same.0 in
    let rest : ls ≡ ms = more.0 in
    (cc, more.1)

-- ---- parts

part_split : (p : BodyPart) (ps : List BodyPart) (rest : List ℕ) → print_parts (p ∷ ps) ++ rest ≡ print_line p.mark ++ (print_lines p.lines ++ (print_parts ps ++ rest))
part_split p ps rest =
    append_assoc (print_part p) (print_parts ps) rest ∙ append_assoc (print_line p.mark) (print_lines p.lines) (print_parts ps ++ rest)

parts_join : (ps qs : List BodyPart) → print_parts (ps ++ qs) ≡ print_parts ps ++ print_parts qs
parts_join [] qs = refl
parts_join (p ∷ ps) qs = ap (λ (x : List ℕ). print_part p ++ x) (parts_join ps qs) ∙ sym (append_assoc (print_part p) (print_parts ps) (print_parts qs))

-- parts and a line that is not plain begin with such a line
opens : (b : List ℕ) (ps : List BodyPart) (x r : List ℕ) → All (IsBodyPart b) ps → IsStop b x → (y : List ℕ) × (s : List ℕ) × IsStop b y × (print_parts ps ++ (print_line x ++ r) ≡ print_line y ++ s)
opens b [] x r i stop = (x, r, stop, refl)
opens b (p ∷ ps) x r i stop =
    let is = All-head (IsBodyPart b) p ps i in
    (p.mark, print_lines p.lines ++ (print_parts ps ++ (print_line x ++ r)), stop_delimiter b p.mark is.line is.mark, part_split p ps (print_line x ++ r))

same_part : (p q : BodyPart) → p.mark ≡ q.mark → p.lines ≡ q.lines → p ≡ q
same_part p q e f =
    let lines : BodyPart = record { mark = q.mark; lines = p.lines } in
    let one : p ≡ lines = ap (λ (m : List ℕ). record { mark = m; lines = p.lines }) e in
    let two : lines ≡ q = ap (λ (ls : List (List ℕ)). record { mark = q.mark; lines = ls }) f in
    one ∙ two

-- a line that is not plain after parts stands so in each spelling
record Longer (ps qs : List BodyPart) (tail close epilogue : List ℕ) : Type 0 where
  more : List BodyPart
  parts : qs ≡ ps ++ more
  rest : tail ≡ print_parts more ++ (print_line close ++ epilogue)

walk : (b : List ℕ) (ps : List BodyPart) (x r : List ℕ) (qs : List BodyPart) (close epilogue : List ℕ) → All (IsBodyPart b) ps → IsStop b x → All (IsBodyPart b) qs → IsLine close → IsClosing b close
    → print_parts ps ++ (print_line x ++ r) ≡ print_parts qs ++ (print_line close ++ epilogue) → Longer ps qs (print_line x ++ r) close epilogue
walk b [] x r qs close epilogue i stop k line closing e = record { more = qs; parts = refl; rest = e }
walk b (p ∷ ps) x r [] close epilogue i stop k line closing e =
    let is = All-head (IsBodyPart b) p ps i in
    let same = line_unique p.mark (print_lines p.lines ++ (print_parts ps ++ (print_line x ++ r))) close epilogue is.line line (sym (part_split p ps (print_line x ++ r)) ∙ e) in
    absurd (marks_differ b p.mark is.mark (subst (λ (t : List ℕ). IsClosing b t) (sym same.0) closing))
walk b (p ∷ ps) x r (q ∷ qs) close epilogue i stop k line closing e =
    let is = All-head (IsBodyPart b) p ps i in
    let other = All-head (IsBodyPart b) q qs k in
    let mine = print_parts ps ++ (print_line x ++ r) in
    let its = print_parts qs ++ (print_line close ++ epilogue) in
    let same = line_unique p.mark (print_lines p.lines ++ mine) q.mark (print_lines q.lines ++ its) is.line other.line
    (sym (part_split p ps (print_line x ++ r)) ∙ e ∙ part_split q qs (print_line close ++ epilogue)) in
    let a = opens b ps x r (All-tail (IsBodyPart b) p ps i) stop in
    let c = opens b qs close epilogue (All-tail (IsBodyPart b) q qs k) (stop_closing b close line closing) in
    let inner = plain_unique b p.lines a.0 a.1 q.lines c.0 c.1 is.lines a.2 other.lines c.2
    (sym (ap (λ (t : List ℕ). print_lines p.lines ++ t) a.3) ∙ same.1 ∙ ap (λ (t : List ℕ). print_lines q.lines ++ t) c.3) in
    let further = walk b ps x r qs close epilogue (All-tail (IsBodyPart b) p ps i) stop (All-tail (IsBodyPart b) q qs k) line closing (a.3 ∙ inner.1 ∙ sym c.3) in
    let one : p ≡ q = same_part p q same.0 inner.0 in
    let parts : qs ≡ ps ++ further.more = further.parts in
    record { more = further.more; parts = cc; rest = further.rest }

-- the same, with the lines before the first part
walk_body : (b body : List ℕ) (preamble : List (List ℕ)) (ps : List BodyPart) (x r : List ℕ) (m : Multipart) → All (IsPlain b) preamble → All (IsBodyPart b) ps → IsStop b x → HasParts b body m
    → print_line body ≡ print_lines preamble ++ (print_parts ps ++ (print_line x ++ r)) → (preamble ≡ m.preamble) × Longer ps m.parts (print_line x ++ r) m.close m.epilogue
walk_body b body preamble ps x r m plain i stop has e =
    let v = has.valid in
    let a = opens b ps x r i stop in
    let c = opens b m.parts m.close m.epilogue v.parts (stop_closing b m.close v.line v.close) in
    let outer = plain_unique b preamble a.0 a.1 m.preamble c.0 c.1 plain a.2 v.preamble c.2
    (sym (ap (λ (t : List ℕ). print_lines preamble ++ t) a.3) ∙ sym e ∙ has.whole ∙ ap (λ (t : List ℕ). print_lines m.preamble ++ t) c.3) in
    (outer.0, walk b ps x r m.parts m.close m.epilogue i stop v.parts v.line v.close (a.3 ∙ outer.1 ∙ sym c.3))

-- after the lines and parts that end so, no others
no_more : (b : List ℕ) (more : List BodyPart) (x r close epilogue : List ℕ) → All (IsBodyPart b) more → IsLine x → IsClosing b x → IsLine close → print_line x ++ r ≡ print_parts more ++ (print_line close ++ epilogue)
    → (more ≡ []) × (x ≡ close) × (r ≡ epilogue)
no_more b [] x r close epilogue i line closing last e = let same = line_unique x r close epilogue line last e in (refl, same.0, same.1)
no_more b (p ∷ ps) x r close epilogue i line closing last e =
    let is = All-head (IsBodyPart b) p ps i in
    let same = line_unique x r p.mark (print_lines p.lines ++ (print_parts ps ++ (print_line close ++ epilogue))) line is.line (e ∙ part_split p ps (print_line close ++ epilogue)) in
    absurd (marks_differ b p.mark is.mark (subst (λ (t : List ℕ). IsClosing b t) same.0 closing))

later_parts : (b : List ℕ) (ps more : List BodyPart) → All (IsBodyPart b) (ps ++ more) → All (IsBodyPart b) more
later_parts b [] more i = i
later_parts b (p ∷ ps) more i = later_parts b ps more (All-tail (IsBodyPart b) p (ps ++ more) i)

-- two spellings of one body are the same
pub parts_unique : (b body : List ℕ) (m n : Multipart) → HasParts b body m → HasParts b body n → m ≡ n
parts_unique b body m n has also =
    let v = has.valid in
    let w = also.valid in
    let walked = walk_body b body m.preamble m.parts m.close m.epilogue n v.preamble v.parts (stop_closing b m.close v.line v.close) also has.whole in
    let longer = walked.1 in
    let rest : All (IsBodyPart b) longer.more = later_parts b m.parts longer.more (subst (All (IsBodyPart b)) longer.parts w.parts) in
    let end = no_more b longer.more m.close m.epilogue n.close n.epilogue rest v.line v.close w.line longer.rest in
    let parts : m.parts ≡ n.parts = sym (longer.parts ∙ ap (λ (ps : List BodyPart). m.parts ++ ps) end.0 ∙ append-nil m.parts) in
    let one : m ≡ record { preamble = n.preamble; parts = m.parts; close = m.close; epilogue = m.epilogue } = ap (λ (x : List (List ℕ)). record { preamble = x; parts = m.parts; close = m.close; epilogue = m.epilogue }) walked.0 in
    let two : record { preamble = n.preamble; parts = m.parts; close = m.close; epilogue = m.epilogue } ≡ record { preamble = n.preamble; parts = n.parts; close = m.close; epilogue = m.epilogue } = ap (λ (x : List BodyPart). record { preamble = n.preamble; parts = x; close = m.close; epilogue = m.epilogue }) parts in
    let three : record { preamble = n.preamble; parts = n.parts; close = m.close; epilogue = m.epilogue } ≡ record { preamble = n.preamble; parts = n.parts; close = n.close; epilogue = m.epilogue } = ap (λ (x : List ℕ). record { preamble = n.preamble; parts = n.parts; close = x; epilogue = m.epilogue }) end.1 in
    let four : record { preamble = n.preamble; parts = n.parts; close = n.close; epilogue = m.epilogue } ≡ n = ap (λ (x : List ℕ). record { preamble = n.preamble; parts = n.parts; close = n.close; epilogue = x }) end.2 in
    one ∙ two ∙ three ∙ four

-- ---- as they are read

-- the bytes of lines without the last one's end
join_end : (l : List ℕ) (ls : List (List ℕ)) → print_lines (l ∷ ls) ≡ join_lines (l ∷ ls) ++ line_end
join_end l [] = append-nil (print_line l)
join_end l (m ∷ ls) = ap (λ (x : List ℕ). print_line l ++ x) (join_end m ls) ∙ sym (append_assoc (print_line l) (join_lines (m ∷ ls)) line_end)

without_end_is : (ls : List (List ℕ)) → without_end (print_lines ls) ≡ join_lines ls
without_end_is [] = refl
without_end_is (l ∷ ls) =
    let whole = join_end l ls in
    let text = join_lines (l ∷ ls) in
    let size : length (text ++ line_end) ≡ length text + 2 = length-append text line_end in
    let place : length text ≡ length (text ++ line_end) - 2 = omega (arith, size) in
    ap without_end whole ∙ take_at text line_end (length (text ++ line_end) - 2) place

pub first_none : (b body : List ℕ) → HasNoMark b body → HasNoParts b body
first_none b body none = λ m has.
    let v = has.valid in
    let c = opens b m.parts m.close m.epilogue v.parts (stop_closing b m.close v.line v.close) in
    only_plain b none.lines m.preamble c.0 c.1 none.each v.preamble c.2 (sym none.whole ∙ has.whole ∙ ap (λ (t : List ℕ). print_lines m.preamble ++ t) c.3)

pub begun_first : (b body : List ℕ) (k : Mark) → HasMark b body k → Begun b body k []
begun_first b body k has = record {
  preamble = has.lines;
  plain = has.each;
  parts = [];
  each = All-nil (IsBodyPart b);
  texts_are = refl;
  mark = has.mark;
  line = has.line;
  ends = has.ends;
  whole = has.whole;
}

begins : (b : List ℕ) (k : Mark) (x : List ℕ) → k.closing ≡ false → Ends b x k.closing → IsDelimiter b x
begins b k x more e = subst (Ends b x) more e

closes : (b : List ℕ) (k : Mark) (x : List ℕ) → k.closing ≡ true → Ends b x k.closing → IsClosing b x
closes b k x last e = subst (Ends b x) last e

stuck_at : (b x : List ℕ) (ls : List (List ℕ)) (more : List BodyPart) (close epilogue : List ℕ) → IsLine x → IsDelimiter b x → All (IsPlain b) ls → All (IsBodyPart b) more → IsLine close → IsClosing b close
    → print_line x ++ print_lines ls ≡ print_parts more ++ (print_line close ++ epilogue) → ⊥
stuck_at b x ls [] close epilogue line d all i last closing e =
    marks_differ b x d (subst (λ (t : List ℕ). IsClosing b t) (sym (line_unique x (print_lines ls) close epilogue line last e).0) closing)
stuck_at b x ls (p ∷ ps) close epilogue line d all i last closing e =
    let is = All-head (IsBodyPart b) p ps i in
    let c = opens b ps close epilogue (All-tail (IsBodyPart b) p ps i) (stop_closing b close last closing) in
    let same = line_unique x (print_lines ls) p.mark (print_lines p.lines ++ (print_parts ps ++ (print_line close ++ epilogue))) line is.line (e ∙ part_split p ps (print_line close ++ epilogue)) in
    only_plain b ls p.lines c.0 c.1 all is.lines c.2 (same.1 ∙ ap (λ (t : List ℕ). print_lines p.lines ++ t) c.3)

-- a delimiter after which all lines are plain
stuck : (b body : List ℕ) (preamble : List (List ℕ)) (ps : List BodyPart) (x : List ℕ) (ls : List (List ℕ)) → All (IsPlain b) preamble → All (IsBodyPart b) ps → IsLine x → IsDelimiter b x → All (IsPlain b) ls
    → print_line body ≡ print_lines preamble ++ (print_parts ps ++ (print_line x ++ print_lines ls)) → HasNoParts b body
stuck b body preamble ps x ls plain i line d all e = λ m has.
    let v = has.valid in
    let longer = (walk_body b body preamble ps x (print_lines ls) m plain i (stop_delimiter b x line d) has e).1 in
    let rest : All (IsBodyPart b) longer.more = later_parts b ps longer.more (subst (All (IsBodyPart b)) longer.parts v.parts) in
    stuck_at b x ls longer.more m.close m.epilogue line d all rest v.line v.close longer.rest

pub begun_cut : (b body : List ℕ) (k : Mark) (texts : List (Bor (List ℕ))) → Begun b body k texts → k.closing ≡ false → k.rest ≡ None → HasNoParts b body
begun_cut b body k texts g going none =
    stuck b body g.preamble g.parts g.mark [] g.plain g.each g.line (begins b k g.mark going g.ends) (All-nil (IsPlain b))
    (g.whole ∙ ap (λ (o : Option (Bor (List ℕ))). print_lines g.preamble ++ (print_parts g.parts ++ (print_line g.mark ++ left o))) none)

pub begun_stuck : (b body : List ℕ) (k : Mark) (texts : List (Bor (List ℕ))) (rest : Bor (List ℕ)) → Begun b body k texts → k.closing ≡ false → k.rest ≡ Some rest → HasNoMark b rest.now → HasNoParts b body
begun_stuck b body k texts rest g going some none =
    stuck b body g.preamble g.parts g.mark none.lines g.plain g.each g.line (begins b k g.mark going g.ends) none.each
    (g.whole ∙ ap (λ (o : Option (Bor (List ℕ))). print_lines g.preamble ++ (print_parts g.parts ++ (print_line g.mark ++ left o))) some
    ∙ ap (λ (t : List ℕ). print_lines g.preamble ++ (print_parts g.parts ++ (print_line g.mark ++ t))) none.whole)

pub begun_next : (b body : List ℕ) (k : Mark) (texts : List (Bor (List ℕ))) (rest : Bor (List ℕ)) (next : Mark) (text : Bor (List ℕ)) → Begun b body k texts → k.closing ≡ false → k.rest ≡ Some rest → HasMark b rest.now next
    → text.now ≡ without_end next.lines.now → Begun b body next (texts ++ text ∷ [])
begun_next b body k texts rest next text g going some has is =
    let p : BodyPart = record { mark = g.mark; lines = has.lines } in
    let tail = print_line has.mark ++ left next.rest in
    let more : print_parts (g.parts ++ p ∷ []) ++ tail ≡ print_parts g.parts ++ (print_line g.mark ++ (print_lines has.lines ++ tail)) =
    ap (λ (t : List ℕ). t ++ tail) (parts_join g.parts (p ∷ [])) ∙ append_assoc (print_parts g.parts) (print_parts (p ∷ [])) tail
    ∙ ap (λ (t : List ℕ). print_parts g.parts ++ t) (part_split p [] tail) in
    record {
      preamble = g.preamble;
      plain = g.plain;
      parts = g.parts ++ p ∷ [];
      each = All-push (IsBodyPart b) g.parts p g.each (record { line = g.line; mark = begins b k g.mark going g.ends; lines = has.each });
      texts_are =
          map-append (λ (s : Bor (List ℕ)). s.now) texts (text ∷ [])
          ∙ ap (λ (t : List ℕ). map (λ (s : Bor (List ℕ)). s.now) texts ++ t ∷ []) (is ∙ ap without_end has.lines_are ∙ without_end_is has.lines)
          ∙ ap (λ (ts : List (List ℕ)). ts ++ part_text p ∷ []) g.texts_are
          ∙ sym (map-append part_text g.parts (p ∷ []));
      mark = has.mark;
      line = has.line;
      ends = has.ends;
      whole =
          g.whole ∙ ap (λ (o : Option (Bor (List ℕ))). print_lines g.preamble ++ (print_parts g.parts ++ (print_line g.mark ++ left o))) some
          ∙ ap (λ (t : List ℕ). print_lines g.preamble ++ (print_parts g.parts ++ (print_line g.mark ++ t))) has.whole
          ∙ ap (λ (t : List ℕ). print_lines g.preamble ++ t) (sym more);
    }

pub begun_ended : (b body : List ℕ) (k : Mark) (texts : List (Bor (List ℕ))) → Begun b body k texts → k.closing ≡ true → Splits b body texts
begun_ended b body k texts g closed = record {
  m = record { preamble = g.preamble; parts = g.parts; close = g.mark; epilogue = left k.rest };
  has = record { valid = record { preamble = g.plain; parts = g.each; line = g.line; close = closes b k g.mark closed g.ends }; whole = g.whole };
  texts_are = g.texts_are;
}
