-- What an outcome of puts tells, and which outcome there is.
use Rattle.std.proofs.Common.{◌≡◌, ℕ, ◌<◌, Bool, true, false, cond, not, ◌&&◌, List, length, refl, sym, ap, ◌∙◌, subst, arith, Some, None, Option}
use Rattle.std.proofs.lemmas.Bool.{and_parts, not-true}
use Rattle.mt_model.specs.declared.tag.Tag.{Tag}
use Rattle.mt_chain.specs.declared.row.Put.{Put}
use Rattle.mt_chain.specs.Rows.{has_partition}
use Rattle.mt_chain.specs.Puts.{unmet_from, all_rows_after, all_counter_after, tags_of}
use Rattle.mt_chain.specs.StoreCall.{Contents, IsContents, Outcome, Done, UnmetAt, SealedOff, done, unless_unmet, is_sealed_off, judge}
use Rattle.mt_chain.proofs.PutLaws.{rising_after, unmet_in_range}

-- the contents after puts that were done
abbrev pub contents_after : ℕ → Contents → List ℕ → List Put → Contents
contents_after store c pk puts = record { rows = all_rows_after store c.counter pk puts c.rows; sealed = c.sealed; counter = all_counter_after c.counter puts }

-- the puts were done
pub record WasDone (store : ℕ) (c : Contents) (pk : List ℕ) (puts : List Put) (after : Contents) (tags : List Tag) : Type 0 where
  pub allowed : is_sealed_off c pk ≡ false
  pub met : unmet_from 0 c.rows pk puts ≡ None
  pub contents : after ≡ contents_after store c pk puts
  pub answer : tags ≡ tags_of store c.counter puts

-- a put did not hold
pub record WasUnmet (c : Contents) (pk : List ℕ) (puts : List Put) (at : ℕ) : Type 0 where
  pub allowed : is_sealed_off c pk ≡ false
  pub unmet : unmet_from 0 c.rows pk puts ≡ Some at

-- what an outcome tells
abbrev Tells : ℕ → Contents → List ℕ → List Put → Outcome → Type 0
Tells store c pk puts (Done after tags) = WasDone store c pk puts after tags
Tells store c pk puts (UnmetAt at) = WasUnmet c pk puts at
Tells store c pk puts SealedOff = is_sealed_off c pk ≡ true

judge_tells : (store : ℕ) (c : Contents) (pk : List ℕ) (puts : List Put) → Tells store c pk puts (judge store c pk puts)
judge_tells store c pk puts = by_seal (is_sealed_off c pk) refl where
  by_index : is_sealed_off c pk ≡ false → (o : Option ℕ) → unmet_from 0 c.rows pk puts ≡ o → Tells store c pk puts (unless_unmet o (done store c pk puts))
  by_index f None e = record { allowed = f; met = e; contents = refl; answer = refl }
  by_index f (Some at) e = record { allowed = f; unmet = e }

  by_seal : (b : Bool) → is_sealed_off c pk ≡ b → Tells store c pk puts (cond b SealedOff (unless_unmet (unmet_from 0 c.rows pk puts) (done store c pk puts)))
  by_seal true e = e
  by_seal false e = by_index e (unmet_from 0 c.rows pk puts) refl

pub was_done : (store : ℕ) (c : Contents) (pk : List ℕ) (puts : List Put) (after : Contents) (tags : List Tag) → judge store c pk puts ≡ Done after tags → WasDone store c pk puts after tags
was_done store c pk puts after tags e = subst (Tells store c pk puts) e (judge_tells store c pk puts)

pub was_unmet : (store : ℕ) (c : Contents) (pk : List ℕ) (puts : List Put) (at : ℕ) → judge store c pk puts ≡ UnmetAt at → WasUnmet c pk puts at
was_unmet store c pk puts at e = subst (Tells store c pk puts) e (judge_tells store c pk puts)

pub was_sealed_off : (store : ℕ) (c : Contents) (pk : List ℕ) (puts : List Put) → judge store c pk puts ≡ SealedOff → is_sealed_off c pk ≡ true
was_sealed_off store c pk puts e = subst (Tells store c pk puts) e (judge_tells store c pk puts)

-- the converses
pub judge_done : (store : ℕ) (c : Contents) (pk : List ℕ) (puts : List Put) → is_sealed_off c pk ≡ false → unmet_from 0 c.rows pk puts ≡ None → judge store c pk puts ≡ Done (contents_after store c pk puts) (tags_of store c.counter puts)
judge_done store c pk puts a m =
    ap (λ b. cond b SealedOff (unless_unmet (unmet_from 0 c.rows pk puts) (done store c pk puts))) a
    ∙ ap (λ o. unless_unmet o (done store c pk puts)) m

pub judge_unmet : (store : ℕ) (c : Contents) (pk : List ℕ) (puts : List Put) (at : ℕ) → is_sealed_off c pk ≡ false → unmet_from 0 c.rows pk puts ≡ Some at → judge store c pk puts ≡ UnmetAt at
judge_unmet store c pk puts at a m =
    ap (λ b. cond b SealedOff (unless_unmet (unmet_from 0 c.rows pk puts) (done store c pk puts))) a
    ∙ ap (λ o. unless_unmet o (done store c pk puts)) m

pub judge_sealed_off : (store : ℕ) (c : Contents) (pk : List ℕ) (puts : List Put) → is_sealed_off c pk ≡ true → judge store c pk puts ≡ SealedOff
judge_sealed_off store c pk puts e = ap (λ b. cond b SealedOff (unless_unmet (unmet_from 0 c.rows pk puts) (done store c pk puts))) e

-- a sealed store that is not sealed off for a partition has a row of it
pub allowed_sealed : (c : Contents) (pk : List ℕ) → is_sealed_off c pk ≡ false → c.sealed ≡ true → has_partition c.rows pk ≡ true
allowed_sealed c pk a s = go (has_partition c.rows pk) refl where
  go : (b : Bool) → has_partition c.rows pk ≡ b → b ≡ true
  go true e = refl
  go false e = (let is : true ≡ false = sym (ap (λ x. x && not (has_partition c.rows pk)) s ∙ ap not e) ∙ a in cc)

pub sealed_off_parts : (c : Contents) (pk : List ℕ) → is_sealed_off c pk ≡ true → (c.sealed ≡ true) × (has_partition c.rows pk ≡ false)
sealed_off_parts c pk e = (let parts = and_parts c.sealed (not (has_partition c.rows pk)) e in (parts.0, not-true (has_partition c.rows pk) parts.1))

pub done_contents : (store : ℕ) (c : Contents) (pk : List ℕ) (puts : List Put) → IsContents c → IsContents (contents_after store c pk puts)
done_contents store c pk puts h = record { rising = rising_after store c.counter pk puts c.rows h.rising }

pub unmet_below : (c : Contents) (pk : List ℕ) (puts : List Put) (at : ℕ) → unmet_from 0 c.rows pk puts ≡ Some at → at < length puts
unmet_below c pk puts at e = (let r = unmet_in_range 0 c.rows pk puts at e in omega (arith, r.1))
