-- Refusals of what is asked for: of a whole request, or of one that is part of a change set.
use Rattle.std.specs.Prelude.{◌≡◌, Option, Some, None}
use Rattle.mt_model.specs.declared.key.KeyFault.{KeyFault}
use Rattle.mt_front.specs.declared.refusals.BadRequest.{BadRequest}
use Rattle.mt_front.specs.Refusals.{key_refusal}

-- this refusal and nothing else; where there is none to tell, it cannot be
abbrev pub IsRefused : {A : Type 0} → (BadRequest → A) → Option BadRequest → A → Type 0
IsRefused refused None asked = ⊥
IsRefused refused (Some r) asked = asked ≡ refused r

-- the key meets the rules and then this is asked for, or its first fault refuses
abbrev pub KeyedBy : {A : Type 0} → (BadRequest → A) → Option KeyFault → Type 0 → A → Type 0
KeyedBy refused None then asked = then
KeyedBy refused (Some fault) then asked = IsRefused refused (key_refusal fault) asked
