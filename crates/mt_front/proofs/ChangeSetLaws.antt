-- The requests of a change set, one after the other.
use Rattle.std.proofs.Common.{◌≡◌, ℕ, ◌+◌, ◌<◌, ◌≤◌, List, [], ◌∷◌, ◌++◌, length, take, drop, get_or, All, Ok, Err, sym, ap, ◌∙◌, subst, inl, arith, rules}
use Rattle.std.specs.Prelude.{Result, IfOk}
use Rattle.std.specs.List.{AllZip}
use Rattle.std.proofs.lemmas.List.{take_more, drop_more, take_all, take-append-drop, length-take-le}
use Rattle.std.proofs.lemmas.List.Elements.{All-push}
use Rattle.mt_model.specs.declared.text.NoMemory.{NoMemory}
use Rattle.mt_chain.specs.declared.op.Op.{Op}
use Rattle.mt_rules.specs.Batches.{MayAsk}
use Rattle.mt_mime.specs.declared.forms.Echo.{Echo}
use Rattle.mt_mime.specs.declared.changes.Part.{Part}
use Rattle.mt_mime.specs.Replies.{HasEcho}
use Rattle.mt_front.specs.declared.refusals.BadRequest.{BadRequest}
use Rattle.mt_front.specs.declared.changes.Change.TheVariants as change
use Rattle.mt_front.specs.Changes.{CanTry}
use Rattle.mt_front.specs.declared.asks.Asked.{Asked}
use Rattle.mt_mime.specs.Changes.{Batch, SpellsBatch, parts_of}
use Rattle.mt_front.specs.ChangeSets.{AsksPart, Gathers, FirstRefused, AsksTogether, AsksSet, AsksWithin}

-- the requests ask for these operations, which may be tried
pub record Gathered (table : List ℕ) (parts : List Part) (ops : List Op) (echoes : List Echo) : Type 0 where
  pub gathers : Gathers table parts ops echoes
  pub may : All MayAsk ops
  pub shown : AllZip HasEcho ops echoes

gathers_more : (table : List ℕ) (parts : List Part) (ops : List Op) (echoes : List Echo) (part : Part) (op : Op) (echo : Echo) → Gathers table parts ops echoes → AsksPart table part (change.Write op echo)
    → Gathers table (parts ++ part ∷ []) (ops ++ op ∷ []) (echoes ++ echo ∷ [])
gathers_more table [] [] [] part op echo g one = (one, tt)
gathers_more table [] [] (e ∷ echoes) part op echo g one = absurd g
gathers_more table [] (o ∷ ops) echoes part op echo g one = absurd g
gathers_more table (p ∷ parts) [] echoes part op echo g one = absurd g
gathers_more table (p ∷ parts) (o ∷ ops) [] part op echo g one = absurd g
gathers_more table (p ∷ parts) (o ∷ ops) (e ∷ echoes) part op echo g one = (g.0, gathers_more table parts ops echoes part op echo g.1 one)

shown_more : (ops : List Op) (echoes : List Echo) (op : Op) (echo : Echo) → AllZip HasEcho ops echoes → HasEcho op echo → AllZip HasEcho (ops ++ op ∷ []) (echoes ++ echo ∷ [])
shown_more [] [] op echo all one = (one, tt)
shown_more [] (e ∷ echoes) op echo all one = absurd all
shown_more (o ∷ ops) [] op echo all one = absurd all
shown_more (o ∷ ops) (e ∷ echoes) op echo all one = (all.0, shown_more ops echoes op echo all.1 one)

pub gathered_none : (table : List ℕ) → Gathered table [] [] []
gathered_none table = record { gathers = tt; may = search rules; shown = tt }

-- one more of them
pub gathered_more : (table : List ℕ) (parts : List Part) (at : ℕ) (part : Part) (ops : List Op) (echoes : List Echo) (op : Op) (echo : Echo) → at < length parts → part ≡ get_or parts at part → Gathered table (take at parts) ops echoes
    → AsksPart table part (change.Write op echo) → CanTry (change.Write op echo) → Gathered table (take (at + 1) parts) (ops ++ op ∷ []) (echoes ++ echo ∷ [])
gathered_more table parts at part ops echoes op echo inside is g one can =
    subst (λ ps. Gathered table ps (ops ++ op ∷ []) (echoes ++ echo ∷ [])) (sym (take_more parts at part inside ∙ ap (λ p. take at parts ++ p ∷ []) (sym is)))
    (record {
      gathers = gathers_more table (take at parts) ops echoes part op echo g.gathers one;
      may = All-push MayAsk ops op g.may can.0;
      shown = shown_more ops echoes op echo g.shown can.1;
    })

-- all of them
pub set_gathered : (table : List ℕ) (parts : List Part) (at : ℕ) (ops : List Op) (echoes : List Echo) (r : Result Asked NoMemory) → length parts ≤ at → Gathered table (take at parts) ops echoes → IfOk r (AsksTogether ops echoes)
    → IfOk r (AsksSet table parts)
set_gathered table parts at ops echoes (Ok asked) all g h = inl (ops, echoes, subst (λ ps. Gathers table ps ops echoes) (take_all at parts all) g.gathers, h)
set_gathered table parts at ops echoes (Err e) all g h = tt

-- one of them is refused
pub first_refused : (table : List ℕ) (parts : List Part) (at : ℕ) (part : Part) (ops : List Op) (echoes : List Echo) (r : BadRequest) → at < length parts → part ≡ get_or parts at part → Gathered table (take at parts) ops echoes
    → AsksPart table part (change.Refused r) → FirstRefused table parts (record { index = at; refusal = r })
first_refused table parts at part ops echoes r inside is g one = record {
  before = take at parts;
  part = part;
  behind = drop (at + 1) parts;
  are = sym (take-append-drop at parts) ∙ ap (λ z. take at parts ++ z) (drop_more parts at part inside ∙ ap (λ p. p ∷ drop (at + 1) parts) (sym is));
  ops = ops;
  echoes = echoes;
  gathers = g.gathers;
  refused = one;
  index_is = sym (length-take-le at parts (let le : at ≤ length parts = omega (arith, inside) in le));
}

-- what a body asks for that spells a batch
pub batch_asks : (table boundary body : List ℕ) (parts : List Part) (r : Result Asked NoMemory) → (batch : Batch) × SpellsBatch boundary body batch × (parts ≡ parts_of batch) → IfOk r (AsksSet table parts) → IfOk r (AsksWithin table boundary body)
batch_asks table boundary body parts (Ok asked) spelled h = inl (spelled.0, spelled.1, subst (λ ps. AsksSet table ps asked) spelled.2 h)
batch_asks table boundary body parts (Err e) spelled h = tt
