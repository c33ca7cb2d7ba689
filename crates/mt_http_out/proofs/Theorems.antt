-- A law of the server's replies that no code needs.
use Rattle.std.proofs.Common.{◌≡◌, ℕ, ◌==◌, Bool, true, false, IsTrue, List, [], ◌∷◌, refl, subst, rules, if◌then◌else◌}
use Rattle.std.specs.Prelude.{codes, map}
use Rattle.std.specs.List.{AllByRecursion, IsDistinct}
use Rattle.std.specs.Str.{bytes_eq}
use Rattle.std.proofs.lemmas.Slice.Eq.{bytes_eq-Decides}
use Rattle.mt_http_out.specs.declared.reply.Reply.{Reply}
use Rattle.mt_http_out.specs.Rendering.{further_names, names_at, are_some_of, IsReply}

some_all : (P : List ℕ → Type 0) (names xs : List (List ℕ)) → IsTrue (are_some_of names xs) → AllByRecursion P names → AllByRecursion P xs
some_all P names [] is all = tt
some_all P [] (x ∷ xs) is all = absurd cc
some_all P (n ∷ names) (x ∷ xs) is all =
    elim (bytes_eq n x) as (λ b. bytes_eq n x ≡ b → IsTrue (if b then are_some_of names xs else are_some_of names (x ∷ xs)) → AllByRecursion P (x ∷ xs)) [
      | true ↦ λ e h. (subst P ((bytes_eq-Decides n x).0 e) all.0, some_all P names xs h all.1)
      | false ↦ λ e h. some_all P names (x ∷ xs) h all.1
    ] refl is

some_distinct : (names xs : List (List ℕ)) → IsTrue (are_some_of names xs) → IsDistinct bytes_eq names → IsDistinct bytes_eq xs
unfolding IsDistinct
some_distinct names [] is d = tt
some_distinct [] (x ∷ xs) is d = absurd cc
some_distinct (n ∷ names) (x ∷ xs) is d =
    elim (bytes_eq n x) as (λ b. bytes_eq n x ≡ b → IsTrue (if b then are_some_of names xs else are_some_of names (x ∷ xs)) → IsDistinct bytes_eq (x ∷ xs)) [
      | true ↦ λ e h. (
        some_all (λ y. bytes_eq x y ≡ false) names xs h (subst (λ t. AllByRecursion (λ y. bytes_eq t y ≡ false) names) ((bytes_eq-Decides n x).0 e) d.0),
        some_distinct names xs h d.1,
      )
      | false ↦ λ e h. some_distinct names (x ∷ xs) h d.1
    ] refl is

all_distinct : (b : Bool) → IsDistinct bytes_eq (codes "Content-Length" ∷ codes "Connection" ∷ (if b then further_names else codes "Content-Type" ∷ further_names))
unfolding IsDistinct
all_distinct true = search rules
all_distinct false = search rules

-- no field stands twice in a reply, with those that are added
pub fields_come_once : (r : Reply) → IsReply r → IsDistinct bytes_eq (codes "Content-Length" ∷ codes "Connection" ∷ map (λ f. f.name) r.fields)
fields_come_once r is = some_distinct (codes "Content-Length" ∷ codes "Connection" ∷ names_at r.status) (codes "Content-Length" ∷ codes "Connection" ∷ map (λ f. f.name) r.fields)
    is.fields (all_distinct (r.status == 204))
