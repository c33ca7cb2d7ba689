-- Bytes that leave the reader as they come.
use Rattle.std.proofs.Common.{◌≡◌, ◌≢◌, ℕ, ◌+◌, ◌-◌, ◌<◌, ◌≤◌, List, [], ◌++◌, length, Ok, Err, sym, ap, ◌∙◌, arith, length-append}
use Rattle.mt_io.specs.Ends.{Input, Rose, before_known}
use Rattle.mt_io.proofs.Pieces.{before_before, before_nothing}
use Rattle.mt_http_in.specs.declared.reader.Halt.{Halt}
use Rattle.mt_http_in.specs.declared.reader.Halt.TheVariants.{ReadFault, NoMemory, Refused}
use Rattle.mt_http_in.specs.Reading.{ahead, Filled, FilledAs, Fills, ReadAs, Reads}
use Rattle.mt_http_in.specs.Filling.{Moving}
use Rattle.mt_http_in.specs.Chunks.{SpellsBytes, IsShort, CutOff}
use Rattle.mt_http_in.proofs.FillLaws.{later_then}

module _ (n : ℕ) (a : List ℕ) (s : Input) where
  -- bytes go from the reader to the body
  pub moving_take : (spent kept got kept' : List ℕ) (t : Input) → Moving n a s spent kept t → kept ≡ got ++ kept' → Moving n a s (spent ++ got) kept' t
  moving_take spent kept got kept' t m e =
      let old : length kept ≡ length got + length kept' = ap length e ∙ length-append got kept' in
      let new : length (spent ++ got) ≡ length spent + length got = length-append spent got in
      record {
        later = m.later;
        same = m.same ∙ ap (λ (v : List ℕ). before_known spent (before_known v t.left)) e ∙ ap (before_known spent) (sym (before_before got kept' t.left)) ∙ before_before spent got (ahead kept' t);
        within = omega (arith, old, new, m.within);
        due = m.due;
        there = omega (arith, old, new, m.there);
        wanted = m.wanted;
        paid = m.paid;
      }

  at_end : (spent kept : List ℕ) (t : Input) → Moving n a s spent kept t → kept ≡ [] → ahead a s ≡ before_known spent t.left
  at_end spent kept t m e = m.same ∙ ap (λ (v : List ℕ). before_known spent (before_known v t.left)) e ∙ ap (before_known spent) (before_nothing t.left)

  -- more bytes come where the reader is empty
  pub moving_fill : (spent kept : List ℕ) (t : Input) (m : ℕ) (kept' : List ℕ) (u : Input) → Moving n a s spent kept t → kept ≡ [] → length spent < n → Fills kept t (Ok m) kept' u → m ≢ 0 → Moving n a s spent kept' u
  moving_fill spent kept t m kept' u x e short f some =
      let y : Filled kept t m kept' u = f.filled in
      let none : length kept ≡ 0 = ap length e in
      let long : length kept' ≡ m = omega (arith, ap length y.grew, length-append kept y.got, none, y.long) in
      let once : u.calls ≡ t.calls + 1 = y.once in
      let there : x.due ≤ length spent + length kept = x.there in
      let within : length a ≤ length spent + length kept = x.within in
      let paid : t.calls ≤ s.calls + (x.due - length a) = x.paid in
      record {
        later = later_then s t u x.later f.later;
        same = at_end spent kept t x e ∙ ap (before_known spent) y.left ∙ ap (λ (v : List ℕ). before_known spent (before_known v u.left)) (sym (y.grew ∙ ap (λ v. v ++ y.got) e));
        within = omega (arith, none, within);
        due = length spent + 1;
        there = omega (arith, long, some);
        wanted = omega (arith, short);
        paid = omega (arith, none, once, there, within, paid);
      }

  -- a read fails before
  pub moving_halt : (body : List ℕ) (spent kept : List ℕ) (t : Input) (halt : Halt) (kept' : List ℕ) (u : Input) → Moving n a s spent kept t → kept ≡ [] → length spent < n → Fills kept t (Err halt) kept' u
      → Reads {V = List ℕ} (SpellsBytes body n) (IsShort n) (CutOff n) a s (Err halt) kept' u
  moving_halt body spent kept t halt kept' u x e short f = record { later = later_then s t u x.later f.later; read = by_halt halt f.filled }
    where
      by_halt : (h : Halt) → FilledAs kept t (Err h) kept' u → ReadAs {V = List ℕ} (SpellsBytes body n) (IsShort n) (CutOff n) a s (Err h) kept' u
      by_halt ReadFault y =
          let none : length kept ≡ 0 = ap length e in
          let there : x.due ≤ length spent + length kept = x.there in
          let paid : t.calls ≤ s.calls + (x.due - length a) = x.paid in
          let rose : Rose t.faults u.faults = y.1 in (
            spent,
            short,
            record {
              same = at_end spent kept t x e ∙ ap (before_known spent) (sym y.0);
              within = omega (arith, none, x.within);
              paid = omega (arith, none, there, paid, y.2);
              cause = omega (arith, rose, x.later.faults);
            },
          )
      by_halt NoMemory y = tt
      by_halt (Refused c) y = absurd y
