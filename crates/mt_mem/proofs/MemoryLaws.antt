-- The calls of a store in memory, as those of a keeper.
use Rattle.std.proofs.Common.{◌≡◌, ℕ, ◌+◌, ◌^◌, ◌<◌, ◌≤◌, Bool, true, false, ◌||◌, ◌==◌, nat_le, List, length, refl, sym, ap, ◌∙◌, subst, arith, leb-false, ltb-false, Result, Ok, Err}
use Rattle.std.specs.List.{list_any}
use Rattle.mt_model.specs.declared.tag.Tag.{Tag}
use Rattle.mt_chain.specs.declared.row.Put.{Put}
use Rattle.mt_chain.specs.declared.query.RangeQuery.{RangeQuery}
use Rattle.mt_chain.specs.declared.query.Found.{Found}
use Rattle.mt_chain.specs.declared.keeper.KeepFault.{KeepFault}
use Rattle.mt_chain.specs.declared.keeper.KeepFault.TheVariants.{Unmet, Sealed, Failed, NoMemory}
use Rattle.mt_chain.specs.StoreCall.{IsFound}
use Rattle.mt_chain.specs.Store.{Counted, Applies, Queries}
use Rattle.mt_mem.specs.Memory.{Memory, IsMemory, contents_of, store_of, risen, is_failing, is_at_end, counted, Judges}
use Rattle.mt_chain.proofs.PutLaws.{length-tags_of}
use Rattle.mt_chain.proofs.JudgeLaws.{was_done, was_unmet, unmet_below}
use Rattle.mt_mem.proofs.AnswerLaws.{found_fits}
use Rattle.mt_mem.proofs.TagLaws.{memory_done}

second_false : (a b : Bool) → (a || b) ≡ false → b ≡ false
second_false true b e = absurd cc
second_false false b e = e

pub early : (m : Memory) → is_failing m ≡ false → m.calls + 1 < 2 ^ 62
early m e = (let l = leb-false (2 ^ 62) (risen m.calls) (second_false (list_any (λ k. k == risen m.calls) m.failing) (nat_le (2 ^ 62) (risen m.calls)) e) in omega (arith, l))

-- puts that are not at the end leave the counter within it
pub room_for : (m : Memory) (puts : List Put) → is_at_end m puts ≡ false → m.counter + length puts ≤ 2 ^ 62
room_for m puts e = ltb-false (2 ^ 62) (m.counter + length puts) e

counted_call : (m after : Memory) → after.store ≡ m.store → after.calls ≡ risen m.calls → after.faults ≡ m.faults → m.calls ≤ risen m.calls → IsMemory after → Counted (store_of m) (store_of after)
counted_call m after store calls faults grew h = record {
  number = store;
  calls = calls;
  grew = omega (arith, grew, calls);
  faults = omega (arith, faults);
  contents = record { rising = h.rising };
}

pub queries_found : (m : Memory) (q : RangeQuery) (found : Found) → is_failing m ≡ false → IsMemory m → m.calls ≤ risen m.calls → IsFound q found (contents_of m) → Queries (store_of m) q (Ok found) (store_of (counted m))
queries_found m q found e h grew is = record {
  counted = counted_call m (counted m) refl refl refl grew h;
  faults = refl;
  queried = (early m e, found_fits q found (contents_of m) is, (refl, is));
}

pub applies_judged : (m : Memory) (pk : List ℕ) (puts : List Put) (r : Result (List Tag) KeepFault) (after : Memory)
    → is_failing m ≡ false → is_at_end m puts ≡ false → IsMemory m → m.calls ≤ risen m.calls
    → Judges (counted m) pk puts r after → Applies (store_of m) pk puts r (store_of after)
applies_judged m pk puts (Ok tags) after e room h grew j =
    let done = was_done m.store (contents_of m) pk puts (contents_of after) tags j.0 in
    record {
      counted = counted_call m after (ap (λ x. x.store) j.1) (ap (λ x. x.calls) j.1) (ap (λ x. x.faults) j.1) grew
          (subst IsMemory (sym j.1) (memory_done (counted m) pk puts h));
      faults = ap (λ x. x.faults) j.1;
      shows = (early m e, ap length done.answer ∙ length-tags_of m.store m.counter puts);
      judged = (j.0, room_for m puts room);
    }
applies_judged m pk puts (Err (Unmet index)) after e room h grew j =
    let unmet = was_unmet m.store (contents_of m) pk puts index j.0 in
    record {
      counted = counted_call m after (ap (λ x. x.store) j.1) (ap (λ x. x.calls) j.1) (ap (λ x. x.faults) j.1) grew (subst IsMemory (sym j.1) h);
      faults = ap (λ x. x.faults) j.1;
      shows = (early m e, unmet_below (contents_of m) pk puts index unmet.unmet);
      judged = (j.0, ap contents_of j.1, room_for m puts room);
    }
applies_judged m pk puts (Err Sealed) after e room h grew j = record {
  counted = counted_call m after (ap (λ x. x.store) j.1) (ap (λ x. x.calls) j.1) (ap (λ x. x.faults) j.1) grew (subst IsMemory (sym j.1) h);
  faults = ap (λ x. x.faults) j.1;
  shows = early m e;
  judged = (j.0, ap contents_of j.1, room_for m puts room);
}
applies_judged m pk puts (Err Failed) after e room h grew j = absurd j
applies_judged m pk puts (Err NoMemory) after e room h grew j = record {
  counted = counted_call m after (ap (λ x. x.store) j) (ap (λ x. x.calls) j) (ap (λ x. x.faults) j) grew (subst IsMemory (sym j) h);
  faults = ap (λ x. x.faults) j;
  shows = tt;
  judged = ap contents_of j;
}
