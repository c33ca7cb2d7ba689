-- Options are read one after the other, in the one way in which the words spell them.
use Rattle.std.proofs.Common.{◌≡◌, ◌≢◌, ℕ, List, [], ◌∷◌, ◌++◌, true, false, length, arith, refl, sym, ap, ◌∙◌, subst, append_assoc}
use Rattle.std.specs.Prelude.{◌==◌, String}
use Rattle.std.proofs.lemmas.List.{append-nil}
use Rattle.std.proofs.lemmas.Bool.Decides.{Decides-eqb}
use Rattle.mt_words.specs.Words.{Setting, Spells, Given, Gives}
use Rattle.mt_words.specs.Readings.{texts_of, nothing, IsFront, HasNoFront, HasNoSettings, HasSettings, IsReadTo}
use Rattle.mt_words.proofs.FrontLaws.{no_words}

pub nothing_read : (words : List (List ℕ)) → IsReadTo words nothing words
nothing_read words = record {
  before = [];
  gives = record { table = refl; history = refl; keeper = refl; number = refl; events = refl };
  join = λ more spelled. spelled;
  only = λ all spelled. (all, refl, spelled);
}

-- what is left begins with the option at its front
more_of : (left rest : List (List ℕ)) (s : Setting) (before all more : List Setting) → left ≢ [] → IsFront left s rest → all ≡ before ++ more → Spells more left → (others : List Setting) × (all ≡ before ++ s ∷ others) × Spells others rest
more_of left rest s before all [] some front e spelled = absurd (some spelled)
more_of left rest s before all (other ∷ more) some front e spelled =
    let k = front.only other more spelled in
    (more, e ∙ ap (λ (x : Setting). before ++ x ∷ more) k.0, k.1)

only_more : (words left rest : List (List ℕ)) (g : Given) (s : Setting) (r : IsReadTo words g left) → left ≢ [] → IsFront left s rest → (all : List Setting) → Spells all words
    → (more : List Setting) × (all ≡ r.before ++ s ∷ more) × Spells more rest
only_more words left rest g s r some front all spelled = let m = r.only all spelled in more_of left rest s r.before all m.0 some front m.1 m.2

pub one_read : (words left rest : List (List ℕ)) (g h : Given) (s : Setting) (r : IsReadTo words g left) → left ≢ [] → IsFront left s rest → Gives (r.before ++ s ∷ []) h → IsReadTo words h rest
one_read words left rest g h s r some front gives = record {
  before = r.before ++ s ∷ [];
  gives = gives;
  join = λ more spelled. subst (λ (x : List Setting). Spells x words) (sym (append_assoc r.before (s ∷ []) more)) (r.join (s ∷ more) (front.join more spelled));
  only = λ all spelled. let m = only_more words left rest g s r some front all spelled in (m.0, m.1 ∙ sym (append_assoc r.before (s ∷ []) m.0), m.2);
}

-- where no option stands at the front, the words spell none
no_more : (left : List (List ℕ)) (more : List Setting) → left ≢ [] → HasNoFront left → Spells more left → ⊥
no_more left [] some none spelled = some spelled
no_more left (s ∷ more) some none spelled = none s more spelled

pub stuck : (words left : List (List ℕ)) (g : Given) → IsReadTo words g left → left ≢ [] → HasNoFront left → HasNoSettings words
stuck words left g r some none all h spelled gives = let m = r.only all spelled in no_more left m.0 some none m.2

-- where the option was given before, so it is
pub repeated : (words left rest : List (List ℕ)) (g : Given) (s : Setting) (r : IsReadTo words g left) → left ≢ [] → IsFront left s rest → ((more : List Setting) (h : Given) → Gives (r.before ++ s ∷ more) h → ⊥) → HasNoSettings words
repeated words left rest g s r some front twice all h spelled gives =
    let m = only_more words left rest g s r some front all spelled in
    twice m.0 h (subst (λ (x : List Setting). Gives x h) m.1 gives)

no_option : (more : List Setting) → Spells more [] → more ≡ []
no_option [] spelled = refl
no_option (s ∷ more) spelled = absurd (no_words s more spelled)

pub all_read : (words : List (List ℕ)) (g : Given) → IsReadTo words g [] → HasSettings words g
all_read words g r = record {
  options = record { settings = r.before; spelled = subst (λ (x : List Setting). Spells x words) (append-nil r.before) (r.join [] refl); gives = r.gives };
  only = λ others spelled. let m = r.only others spelled in m.1 ∙ ap (λ (x : List Setting). r.before ++ x) (no_option m.0 m.2) ∙ append-nil r.before;
}

-- ---- words that are left

pub some_left : {A : Type 0} (left : List (String A)) → (length left == 0) ≡ false → texts_of left ≢ []
some_left [] e none = cc
some_left (word ∷ left) e none = cc

pub none_left : {A : Type 0} (left : List (String A)) → (length left == 0) ≡ true → texts_of left ≡ []
none_left [] e = refl
none_left (word ∷ left) e = absurd (omega (arith, (Decides-eqb (length (word ∷ left)) 0).0 e))
