-- What is written in steps, into room for the whole.
use Rattle.std.proofs.Common.{◌≡◌, ℕ, ◌<◌, List, ◌++◌, length, get_or, take, ap, ◌∙◌, append_assoc, length-append, arith}
use Rattle.std.specs.List.{flat_map}
use Rattle.std.specs.Global.{Vec}
use Rattle.std.proofs.lemmas.List.Folds.{length-flat_map-take}
use Rattle.mt_json.specs.Draft.{HasRoom, Appends}

pub appends_then : {a b c : Vec ℕ} {s t : List ℕ} → Appends a s b → Appends b t c → Appends a (s ++ t) c
appends_then {a} {b} {c} {s} {t} p q = record {
  items = q.items ∙ ap (λ x. x ++ t) p.items ∙ append_assoc a.items s t;
  len = omega (arith, length-append s t);
  capacity = omega arith;
}

pub room_first : (room : Vec ℕ) (s t : List ℕ) → HasRoom room (s ++ t) → HasRoom room s
room_first room s t h = omega (arith, length-append s t)

pub room_next : (room after : Vec ℕ) (s t : List ℕ) → HasRoom room (s ++ t) → Appends room s after → HasRoom after t
room_next room after s t h wrote = omega (arith, length-append s t)

-- one of the texts that are written in a row fits
pub item_fits : (f : ℕ → List ℕ) (bs : List ℕ) (i : ℕ) (b : ℕ) (before room : Vec ℕ) → i < length bs
    → HasRoom before (flat_map f bs) → Appends before (flat_map f (take i bs)) room → b ≡ get_or bs i b → HasRoom room (f b)
item_fits f bs i b before room inside fits wrote is =
    let one = length-flat_map-take f bs i b inside in
    let same : length (f b) ≡ length (f (get_or bs i b)) = ap (λ q. length (f q)) is in
    omega arith
