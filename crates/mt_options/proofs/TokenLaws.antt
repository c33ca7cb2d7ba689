-- Tokens and the values that spell them.
use Rattle.std.proofs.Common.{◌≡◌, ℕ, List, [], ◌∷◌, ◌++◌, get_or, drop, codes, Option, Some, None, MatchOption, Result, Ok, Err, refl, sym, ap, ap₂, subst, ◌∙◌, arith}
use Rattle.std.specs.Prelude.{IsUtf8}
use Rattle.base64.specs.Engines.{url_safe_no_pad}
use Rattle.base64.specs.GeneralPurpose.{encode_of, decode_of, IsBytes}
use Rattle.base64.specs.declared.decode.DecodeError.{DecodeError}
use Rattle.base64.proofs.EngineFacts.{decode_of-encode_of}
use Rattle.mt_model.specs.declared.text.NoMemory.{NoMemory}
use Rattle.mt_model.specs.declared.key.Key.{Key}
use Rattle.mt_model.specs.Key.{key_fault}
use Rattle.mt_target.specs.Quoted.{Found}
use Rattle.mt_options.specs.declared.tokens.Token.{Token}
use Rattle.mt_options.specs.declared.tokens.Token.TheVariants.{From, After, Past}
use Rattle.mt_options.specs.Tokens.{marked, IsMarked, IsKey, Spells}
use Rattle.mt_options.proofs.ByteLaws.{text_bytes}

-- ---- base64

-- what is encoded is decoded
decoded : (bs : List ℕ) → IsBytes bs → decode_of url_safe_no_pad (encode_of url_safe_no_pad bs) ≡ Ok bs
decoded bs small = decode_of-encode_of url_safe_no_pad bs refl small

-- bytes that are encoded alike are the same
encoded_once : (a b : List ℕ) → IsBytes a → IsBytes b → encode_of url_safe_no_pad a ≡ encode_of url_safe_no_pad b → a ≡ b
encoded_once a b u v e = let same = sym (decoded a u) ∙ ap (decode_of url_safe_no_pad) e ∙ decoded b v in cc same

-- where bytes were decoded, they are the one text that is encoded so, if they are a text
pub found_text : (encoded bs : List ℕ) (o : Option (List ℕ)) → IsBytes bs → encoded ≡ encode_of url_safe_no_pad bs → MatchOption o (IsUtf8 bs → ⊥) (λ text. (text ≡ bs) × IsUtf8 bs)
    → Found (λ text. (encoded ≡ encode_of url_safe_no_pad text) × IsUtf8 text) (Ok o)
found_text encoded bs (Some text) small e h = (e ∙ ap (encode_of url_safe_no_pad) (sym h.0), subst IsUtf8 (sym h.0) h.1)
found_text encoded bs None small e h = λ text s. h (subst IsUtf8 (encoded_once text bs (text_bytes text s.1) small (sym s.0 ∙ e)) s.1)

-- where decoding failed, no text is encoded so
pub no_text : (encoded : List ℕ) (d : DecodeError) → decode_of url_safe_no_pad encoded ≡ Err d → (text : List ℕ) → (encoded ≡ encode_of url_safe_no_pad text) × IsUtf8 text → ⊥
no_text encoded d failed text s =
    let clash = sym failed ∙ ap (decode_of url_safe_no_pad) s.0 ∙ decoded text (text_bytes text s.1) in
    cc clash

-- ---- marks

some_same : {A : Type 0} (a b : A) → Some a ≡ Some b → a ≡ b
some_same a b e = cc e

cancel : (mark x y : List ℕ) → mark ++ x ≡ mark ++ y → x ≡ y
cancel [] x y e = e
cancel (m ∷ mark) x y e = cancel mark x y (ap (drop 1) e)

-- behind a mark stands one text
marked_once : (mark text a b : List ℕ) → IsMarked mark text a → text ≡ marked mark b → IsUtf8 b → a ≡ b
marked_once mark text a b m e u = encoded_once a b (text_bytes a m.1) (text_bytes b u) (cancel mark _ _ (sym m.0 ∙ e))

pub found_marked : (mark text encoded : List ℕ) (r : Result (Option (List ℕ)) NoMemory) → text ≡ mark ++ encoded
    → Found (λ t. (encoded ≡ encode_of url_safe_no_pad t) × IsUtf8 t) r → Found (IsMarked mark text) r
found_marked mark text encoded (Ok (Some t)) e h = (e ∙ ap (λ z. mark ++ z) h.0, h.1)
found_marked mark text encoded (Ok None) e h = λ t s. h t (cancel mark _ _ (sym e ∙ s.0), s.1)
found_marked mark text encoded (Err f) e h = tt

-- ---- keys

-- two texts that are no key make no token
pub no_partition : (mark text pk : List ℕ) → IsMarked mark text pk → ((key : Key) → (key.pk ≡ pk) × (key.rk ≡ []) × (key_fault pk [] ≡ None) → ⊥)
    → (x : List ℕ) → (text ≡ marked mark x) × IsKey x [] → ⊥
no_partition mark text pk m none x s =
    let same : pk ≡ x = marked_once mark text pk x m s.0 s.1.partition in
    none (record { pk = x; rk = [] }) (sym same, refl, subst (λ p. key_fault p [] ≡ None) (sym same) s.1.fault)

pub no_row : (pk rk p r : List ℕ) → IsMarked (codes "1!") pk p → IsMarked (codes "1!") rk r → ((key : Key) → (key.pk ≡ p) × (key.rk ≡ r) × (key_fault p r ≡ None) → ⊥)
    → (t : Token) → Spells (Some pk) (Some rk) t → ⊥
no_row pk rk p r m n none (From x) s = absurd (let e = s.row in cc e)
no_row pk rk p r m n none (After x y) s =
    let same : p ≡ x = marked_once (codes "1!") pk p x m (some_same _ _ s.partition) s.key.partition in
    let also : r ≡ y = marked_once (codes "1!") rk r y n (some_same _ _ s.row) s.key.row in
    none (record { pk = x; rk = y }) (sym same, sym also, subst (λ q. key_fault p q ≡ None) (sym also) (subst (λ q. key_fault q y ≡ None) (sym same) s.key.fault))
no_row pk rk p r m n none (Past x) s = absurd (let e = s.row in cc e)

-- ---- tokens

-- the values of one mark are those of one text
here_once : (a b : List ℕ) → IsUtf8 a → IsUtf8 b → Some (marked (codes "1!") a) ≡ Some (marked (codes "1!") b) → a ≡ b
here_once a b u v e = encoded_once a b (text_bytes a u) (text_bytes b v) (cancel (codes "1!") _ _ (some_same _ _ e))

past_once : (a b : List ℕ) → IsUtf8 a → IsUtf8 b → Some (marked (codes "2!") a) ≡ Some (marked (codes "2!") b) → a ≡ b
past_once a b u v e = encoded_once a b (text_bytes a u) (text_bytes b v) (cancel (codes "2!") _ _ (some_same _ _ e))

marks_differ : (a b : List ℕ) → Some (marked (codes "1!") a) ≡ Some (marked (codes "2!") b) → ⊥
marks_differ a b e =
    let first : 49 ≡ 50 = ap (λ bs. get_or bs 0 0) (some_same _ _ e) in
    omega (arith, first)

-- two values spell at most one token
pub spelled_once : (pk rk : Option (List ℕ)) (t u : Token) → Spells pk rk t → Spells pk rk u → t ≡ u
spelled_once pk rk (From a) (From b) s r = ap From (here_once a b s.key.partition r.key.partition (sym s.partition ∙ r.partition))
spelled_once pk rk (From a) (After b c) s r = absurd (let e = sym s.row ∙ r.row in cc e)
spelled_once pk rk (From a) (Past b) s r = absurd (marks_differ a b (sym s.partition ∙ r.partition))
spelled_once pk rk (After a c) (From b) s r = absurd (let e = sym s.row ∙ r.row in cc e)
spelled_once pk rk (After a c) (After b d) s r =
    ap₂ After (here_once a b s.key.partition r.key.partition (sym s.partition ∙ r.partition)) (here_once c d s.key.row r.key.row (sym s.row ∙ r.row))
spelled_once pk rk (After a c) (Past b) s r = absurd (let e = sym s.row ∙ r.row in cc e)
spelled_once pk rk (Past a) (From b) s r = absurd (marks_differ b a (sym r.partition ∙ s.partition))
spelled_once pk rk (Past a) (After b c) s r = absurd (let e = sym s.row ∙ r.row in cc e)
spelled_once pk rk (Past a) (Past b) s r = ap Past (past_once a b s.key.partition r.key.partition (sym s.partition ∙ r.partition))
