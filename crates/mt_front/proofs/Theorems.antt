-- Laws of connections, in the words of their definitions.
use Rattle.std.proofs.Common.{◌≡◌, ℕ, List, [], ◌∷◌, ◌++◌, refl, sym, ap, ◌∙◌, append_assoc, subst}
use Rattle.httparse.specs.Grammar.{RequestHead}
use Rattle.mt_http_in.specs.declared.Code.{Code}
use Rattle.mt_http_in.specs.Fields.{keeps_open}
use Rattle.mt_http_in.specs.Heads.{fields_of}
use Rattle.mt_http_in.specs.Requests.{Refuses}
use Rattle.mt_http_in.proofs.UniqueLaws.{Same, one_request, refused_is_no_request}
use Rattle.mt_front.specs.Asks.{WholeAsks, request_by}
use Rattle.mt_front.specs.Items.{Item}
use Rattle.mt_front.specs.Spells.{SpellsAll, AllAlike, HasNoWhole}

-- where bytes are refused, no whole request stands at their front
pub refused_ends : (rest : List ℕ) (code : Code) (said : List ℕ) → Refuses rest code said → HasNoWhole rest
refused_ends rest code said refuses h body p more whole is = refused_is_no_request rest code said h body p more refuses whole is

front_of : (all a b rest read : List ℕ) → read ≡ a ++ b → all ≡ read ++ rest → all ≡ a ++ (b ++ rest)
front_of all a b rest read parts is = is ∙ ap (λ z. z ++ rest) parts ∙ append_assoc a b rest

-- the bytes of a connection fix its requests, and where they end: two courses over the same bytes, behind each of which no whole request stands, have the same requests and leave the same
pub one_course : (table : List ℕ) (is js : List Item) (all read read' written written' rest rest' : List ℕ) → HasNoWhole rest → HasNoWhole rest'
    → SpellsAll table is read written → SpellsAll table js read' written' → all ≡ read ++ rest → all ≡ read' ++ rest' → AllAlike table is js × (read ≡ read') × (rest ≡ rest')
one_course table [] [] all read read' written written' rest rest' none none' s t e f =
    (tt, s.0 ∙ sym t.0, sym (e ∙ ap (λ z. z ++ rest) s.0) ∙ f ∙ ap (λ z. z ++ rest') t.0)
one_course table [] (j ∷ js) all read read' written written' rest rest' none none' s t e f =
    let k = t.6 in
    absurd (none k.head k.body t.0 (t.1 ++ rest') k.whole (sym (e ∙ ap (λ z. z ++ rest) s.0) ∙ front_of all t.0 t.1 rest' read' t.4 f))
one_course table (i ∷ is) [] all read read' written written' rest rest' none none' s t e f =
    let k = s.6 in
    absurd (none' k.head k.body s.0 (s.1 ++ rest) k.whole (sym (f ∙ ap (λ z. z ++ rest') t.0) ∙ front_of all s.0 s.1 rest read s.4 e))
one_course table (i ∷ is) (j ∷ js) all read read' written written' rest rest' none none' s t e f =
    let k = s.6 in
    let l = t.6 in
    let at = front_of all s.0 s.1 rest read s.4 e in
    let bt = front_of all t.0 t.1 rest' read' t.4 f in
    let same : Same k.head l.head k.body l.body s.0 t.0 (s.1 ++ rest) (t.1 ++ rest') = one_request all k.head l.head k.body l.body s.0 t.0 (s.1 ++ rest) (t.1 ++ rest') k.whole at l.whole bt in
    let later = one_course table is js (s.1 ++ rest) s.1 t.1 s.3 t.3 rest rest' none none' s.7 t.7 refl same.rests in (
      (
        record {
          head = l.head;
          body = l.body;
          first = subst (λ h. WholeAsks table (request_by h l.body) i.asks) same.head (subst (λ b. WholeAsks table (request_by k.head b) i.asks) same.bodies k.is_asked);
          second = l.is_asked;
          keep = k.keep_is ∙ ap (λ (h : RequestHead). keeps_open h.minor (fields_of h)) same.head ∙ sym l.keep_is;
        },
        later.0,
      ),
      s.4 ∙ ap (λ z. z ++ s.1) same.bytes ∙ ap (λ z. t.0 ++ z) later.1 ∙ sym t.4,
      later.2,
    )
