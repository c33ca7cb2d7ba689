-- Lists of facts: those that hold, and those that speak of no epoch.
use Rattle.std.proofs.Common.{Bool, List, [], ◌∷◌, ◌++◌}
use Rattle.mt_meta.specs.declared.fact.Fact.{Fact}
use Rattle.mt_meta.specs.Logical.{Pair}
use Rattle.mt_meta.specs.Sound.{IsSound}
use Rattle.mt_meta.specs.Facts.{ApartFrom, IsPlain, AllPlain, Grows}
use Rattle.mt_meta.specs.Steps.{AllHold}
use Rattle.mt_meta.proofs.Growth.{fact_kept}
use Rattle.mt_meta.proofs.Actors.{plain_left}

pub hold_more : (p : Pair) (retired : Bool) (fs gs : List Fact) → AllHold p retired fs → AllHold p retired gs → AllHold p retired (fs ++ gs)
hold_more p retired [] gs h g = g
hold_more p retired (f ∷ fs) gs h g = (h.0, hold_more p retired fs gs h.1 g)

pub hold_first : (p : Pair) (retired : Bool) (fs gs : List Fact) → AllHold p retired (fs ++ gs) → AllHold p retired fs
hold_first p retired [] gs h = tt
hold_first p retired (f ∷ fs) gs h = (h.0, hold_first p retired fs gs h.1)

pub hold_rest : (p : Pair) (retired : Bool) (fs gs : List Fact) → AllHold p retired (fs ++ gs) → AllHold p retired gs
hold_rest p retired [] gs h = h
hold_rest p retired (f ∷ fs) gs h = hold_rest p retired fs gs h.1

pub plain_more : (fs gs : List Fact) → AllPlain fs → AllPlain gs → AllPlain (fs ++ gs)
plain_more [] gs h g = g
plain_more (f ∷ fs) gs h g = (h.0, plain_more fs gs h.1 g)

pub apart_left : (f : Fact) (own : List Fact) → IsPlain f → ApartFrom f own
apart_left f [] h = tt
apart_left f (g ∷ own) h = (plain_left f g h, apart_left f own h)

pub plain_kept : (own : List Fact) (p q : Pair) (retired : Bool) → IsSound p → IsSound q → Grows own p q → (fs : List Fact) → AllPlain fs → AllHold p retired fs → AllHold q retired fs
plain_kept own p q retired s t g [] plain h = tt
plain_kept own p q retired s t g (f ∷ fs) plain h = (fact_kept own p q retired retired s t g (λ x. x) f h.0 (apart_left f own plain.0), plain_kept own p q retired s t g fs plain.1 h.1)
