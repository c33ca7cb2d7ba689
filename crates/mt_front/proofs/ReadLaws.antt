-- The texts of rows, one after the other.
use Rattle.std.proofs.Common.{◌≡◌, ℕ, ◌+◌, ◌-◌, ◌<◌, ◌≤◌, Bool, List, [], ◌∷◌, ◌++◌, length, take, drop, get_or, Ok, Err, refl, sym, ap, ◌∙◌, subst, arith, append_assoc, append-nil}
use Rattle.std.specs.Prelude.{codes, Result, IfOk, OnOk}
use Rattle.std.specs.List.{flat_map}
use Rattle.std.proofs.lemmas.List.{take_more, take_all}
use Rattle.std.proofs.lemmas.List.Concat.{flat_map-append}
use Rattle.mt_model.specs.declared.entity.Entity.{Entity}
use Rattle.mt_model.specs.declared.text.NoMemory.{NoMemory}
use Rattle.mt_http_out.specs.declared.reply.Reply.{Reply}
use Rattle.mt_http_out.specs.Rendering.{bytes_of}
use Rattle.mt_world.specs.WholeCalls.{Mark}
use Rattle.mt_options.specs.declared.shows.Show.{Show}
use Rattle.mt_front.specs.declared.reads.Read.{Read}
use Rattle.mt_front.specs.Reads.{IsText, AreTexts, ShowsRows, with_commas}
use Rattle.mt_front.specs.Items.{Found, entries_of, found_entry, RendersRead}

abbrev pub behind_comma : List ℕ → List ℕ
behind_comma text = codes "," ++ text

-- the texts of these rows were added, each behind a comma
pub record Added (show : Show) (before : List ℕ) (rows : List Entity) (after : List ℕ) : Type 0 where
  pub texts : List (List ℕ)
  pub are : AreTexts show rows texts
  pub grew : after ≡ before ++ flat_map behind_comma texts

pub added_none : (show : Show) (before : List ℕ) → Added show before [] before
added_none show before = record { texts = []; are = tt; grew = sym (append-nil before) }

one_more : (show : Show) (rows : List Entity) (texts : List (List ℕ)) (row : Entity) (text : List ℕ) → AreTexts show rows texts → IsText show row text → AreTexts show (rows ++ row ∷ []) (texts ++ text ∷ [])
one_more show [] [] row text are is = (is, tt)
one_more show [] (t ∷ ts) row text are is = absurd are
one_more show (r ∷ rs) [] row text are is = absurd are
one_more show (r ∷ rs) (t ∷ ts) row text are is = (are.0, one_more show rs ts row text are.1 is)

pub added_more : (show : Show) (before : List ℕ) (rows : List Entity) (after between last : List ℕ) (row : Entity) (text : List ℕ) → Added show before rows after → between ≡ after ++ codes "," → IsText show row text → last ≡ between ++ text
    → Added show before (rows ++ row ∷ []) last
added_more show before rows after between last row text a comma is more = record {
  texts = a.texts ++ text ∷ [];
  are = one_more show rows a.texts row text a.are is;
  grew = more ∙ ap (λ z. z ++ text) comma ∙ append_assoc after (codes ",") text ∙ ap (λ z. z ++ behind_comma text) a.grew
      ∙ append_assoc before (flat_map behind_comma a.texts) (behind_comma text)
      ∙ ap (λ z. before ++ z) (ap (λ z. flat_map behind_comma a.texts ++ z) (sym (append-nil (behind_comma text))) ∙ sym (flat_map-append behind_comma a.texts (text ∷ [])));
}

-- so for the row at a place
pub added_at : (show : Show) (before : List ℕ) (rows : List Entity) (at : ℕ) (after between last : List ℕ) (row : Entity) (text : List ℕ) → at < length rows → row ≡ get_or rows at row → Added show before (take at rows) after
    → between ≡ after ++ codes "," → IsText show row text → last ≡ between ++ text → Added show before (take (at + 1) rows) last
added_at show before rows at after between last row text inside is a comma shown more =
    subst (λ rs. Added show before rs last) (sym (take_more rows at row inside ∙ ap (λ r. take at rows ++ r ∷ []) (sym is))) (added_more show before (take at rows) after between last row text a comma shown more)

-- a first row and what is behind it
front_is : (rows : List Entity) (row : Entity) → 1 ≤ length rows → row ≡ get_or rows 0 row → rows ≡ row ∷ take (length rows - 1) (drop 1 rows)
front_is [] row some is = absurd (omega (arith, some))
front_is (r ∷ rows) row some is =
    let same : row ≡ r = is in
    ap (λ z. z ∷ rows) (sym same) ∙ ap (λ z. row ∷ z) (sym (take_all (length (r ∷ rows) - 1) rows (omega arith)))

listed_as : (show : Show) (before between last : List ℕ) (rows rest : List Entity) (row : Entity) (text : List ℕ) (r : Result (Unit {0}) NoMemory) → rows ≡ row ∷ rest → IsText show row text → between ≡ before ++ text
    → OnOk r ((texts : List (List ℕ)) × AreTexts show rest texts × (last ≡ between ++ flat_map behind_comma texts)) → OnOk r ((texts : List (List ℕ)) × AreTexts show rows texts × (last ≡ before ++ with_commas texts))
listed_as show before between last rows rest row text (Ok u) are shown first h =
    (text ∷ h.0, subst (λ rs. AreTexts show rs (text ∷ h.0)) (sym are) (shown, h.1), h.2 ∙ ap (λ z. z ++ flat_map behind_comma h.0) first ∙ append_assoc before text (flat_map behind_comma h.0))
listed_as show before between last rows rest row text (Err e) are shown first h = tt

-- the texts of all rows
pub listed : (show : Show) (before between last : List ℕ) (rows : List Entity) (row : Entity) (text : List ℕ) (r : Result (Unit {0}) NoMemory) → 1 ≤ length rows → row ≡ get_or rows 0 row → IsText show row text → between ≡ before ++ text
    → OnOk r ((texts : List (List ℕ)) × AreTexts show (take (length rows - 1) (drop 1 rows)) texts × (last ≡ between ++ flat_map behind_comma texts)) → OnOk r ((texts : List (List ℕ)) × AreTexts show rows texts × (last ≡ before ++ with_commas texts))
listed show before between last rows row text r some is shown first h = listed_as show before between last rows (take (length rows - 1) (drop 1 rows)) row text r (front_is rows row some is) shown first h

-- a reply that shows the rows is the read's
pub found_shown : (q : Read) (rows : List Entity) (close : Bool) (made : Result Reply NoMemory) → IfOk made (ShowsRows q.shape q.show rows close)
    → IfOk made (λ reply. (marks : List Mark) → entries_of marks ≡ found_entry q.pk q.filter rows ∷ [] → RendersRead q (Found rows) marks close (bytes_of reply))
found_shown q rows close (Ok reply) h = λ marks left. (left, (reply, h, refl))
found_shown q rows close (Err e) h = tt
