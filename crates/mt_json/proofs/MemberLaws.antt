-- One more member of an object.
use Rattle.std.proofs.Common.{◌≡◌, ◌⊎◌, inl, inr, ap, ℕ, List, [], ◌∷◌, ◌++◌, Option, Some, None, Result, Ok, Err, refl, sym, subst, append-nil}
use Rattle.serde_json.specs.Data.{Data, Members, member}
use Rattle.mt_model.specs.declared.value.Prop.{Prop}
use Rattle.mt_json.specs.declared.read.KeyUse.{KeyUse}
use Rattle.mt_json.specs.declared.read.JsonFault.{JsonFault}
use Rattle.mt_json.specs.declared.read.JsonFault.TheVariants.{NoMemory}
use Rattle.mt_json.specs.Kind.{kind_in}
use Rattle.mt_json.specs.Body.{Gives, AllGive}

pub one_more : (keys : KeyUse) (top : Data) (ps : List Prop) (name : List ℕ) (d : Data) (ms : Members) (p : Prop) (r : Result (List Prop) JsonFault)
    → Gives keys (kind_in top name) name d (Ok (Some p)) → AllGive keys top (ps ++ p ∷ []) ms r → AllGive keys top ps (member name d ms) r
one_more keys top ps name d ms p r given rest = (Ok (Some p), given, rest)

pub none_more : (keys : KeyUse) (top : Data) (ps : List Prop) (name : List ℕ) (d : Data) (ms : Members) (r : Result (List Prop) JsonFault)
    → Gives keys (kind_in top name) name d (Ok None) → AllGive keys top ps ms r → AllGive keys top ps (member name d ms) r
none_more keys top ps name d ms r given rest = (Ok None, given, subst (λ qs. AllGive keys top qs ms r) (sym (append-nil ps)) rest)

pub faulty : (keys : KeyUse) (top : Data) (ps : List Prop) (name : List ℕ) (d : Data) (ms : Members) (f : JsonFault)
    → Gives keys (kind_in top name) name d (Err f) → AllGive keys top ps (member name d ms) (Err f)
faulty keys top ps name d ms f given = (Err f, given, refl)

fault_of : Result (Option Prop) JsonFault → JsonFault
fault_of (Ok p) = NoMemory
fault_of (Err f) = f

-- want of memory at a member
abbrev pub NoRoom : Result (Option Prop) JsonFault → Type 0
NoRoom r = r ≡ Err NoMemory

-- the fault of a member is that of all of them, where what is left gives what all give
pub fault_of_all : (keys : KeyUse) (top : Data) (ps : List Prop) (name : List ℕ) (d : Data) (ms all : Members) (f : JsonFault)
    → ((r : Result (List Prop) JsonFault) → AllGive keys top ps (member name d ms) r → AllGive keys top [] all r)
    → Gives keys (kind_in top name) name d (Err f) ⊎ NoRoom (Err f) → AllGive keys top [] all (Err f) ⊎ (f ≡ NoMemory)
unfolding fault_of
fault_of_all keys top ps name d ms all f left (inl given) = inl (left (Err f) (faulty keys top ps name d ms f given))
fault_of_all keys top ps name d ms all f left (inr is) = inr (ap fault_of is)
