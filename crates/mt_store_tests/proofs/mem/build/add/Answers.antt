use Rattle.std.proofs.Common.{◌≡◌, ◌∷◌, ◌||◌, [], false, List, ℕ, map, refl, ap, sym, subst, ◌∙◌, bytes_eq}
use Rattle.std.proofs.lemmas.List.{map-append}
use Rattle.std.proofs.lemmas.Map.Keys.{IsDistinct-push}
use Rattle.std.specs.List.{list_any, IsDistinct}
use Rattle.std.specs.Cmp.Lexicographic.{nat_list_eq_equiv}
use Rattle.mt_chain.specs.declared.row.Put.{Put}
use Rattle.mt_chain.specs.Puts.{row_key}
use Rattle.mt_chain.proofs.PutLaws.{is_named}
use Rattle.mt_store_tests.proofs.mem.build.add.Goals as goal

keys_named : (q : List ℕ) (puts : List Put) → list_any (bytes_eq q) (map row_key puts) ≡ is_named q puts
keys_named q [] = refl
keys_named q (put ∷ puts) =
    ap (λ t. t || list_any (bytes_eq q) (map row_key puts)) (nat_list_eq_equiv.symm q (row_key put))
    ∙ ap (λ t. bytes_eq (row_key put) q || t) (keys_named q puts)

pub returns-clause-apart : goal.returns-clause-apart
returns-clause-apart c =
    let puts = c.args.puts.now.items in
    let put = c.args.put in
    let free : list_any (bytes_eq (row_key put)) (map row_key puts) ≡ false =
    keys_named (row_key put) puts
    ∙ sym (c.is_named.ensures ∙ ap (λ q. is_named q c.deref.result.now) c.row_key.ensures ∙ ap (is_named (row_key put)) c.deref.ensures.value)
    ∙ c.if-is_named.false in
    subst (IsDistinct bytes_eq) (sym (ap (map row_key) c.in_ok-push.ensures.items ∙ map-append row_key puts (put ∷ [])))
    (IsDistinct-push nat_list_eq_equiv (map row_key puts) (row_key put) c.requires free)
