-- The operations of a batch: in the order of their row keys, and by the keys that they name.
use Rattle.std.proofs.Common.{◌≡◌, ◌≢◌, ℕ, Bool, true, false, ◌||◌, List, [], ◌∷◌, refl, sym, ap, ◌∙◌, arith, bytes_eq, Option, Some, None, All}
use Rattle.std.specs.List.{AllByRecursion}
use Rattle.std.proofs.lemmas.List.Elements.{All-from_recursion, recursion_from_All}
use Rattle.std.proofs.lemmas.List.Sorted.{All-permutation, IsPermutation-sym, list_any-IsPermutation}
use Rattle.mt_model.specs.declared.key.KeyPart.TheVariants.{Partition, Row}
use Rattle.mt_model.specs.Key.{part_fault}
use Rattle.mt_chain.specs.declared.op.Op.{Op}
use Rattle.mt_chain.specs.Effect.{op_key}
use Rattle.mt_chain.proofs.KeyLaws.{text_same}
use Rattle.mt_rules.specs.Batches.{MayAsk, IsBatch, partition_of}
use Rattle.mt_meta.specs.Markers.{marker_key}
use Rattle.mt_meta.specs.Facts.{is_in}
use Rattle.std.specs.Option.{option_or}
use Rattle.mt_batch_plan.specs.Bases.{row_keys}
use Rattle.mt_batch_plan.specs.Calls.{AreNames, IsInOrder}
use Rattle.mt_batch_plan.proofs.NameLaws.{not_marker}

-- ---- in the order of their row keys

pub all_sorted : (P : Op → Type 0) (ops sorted : List Op) → IsInOrder ops sorted → All P ops → AllByRecursion P sorted
all_sorted P ops sorted order h = recursion_from_All P sorted (All-permutation P ops sorted order.all h)

pub all_unsorted : (P : Op → Type 0) (ops sorted : List Op) → IsInOrder ops sorted → AllByRecursion P sorted → All P ops
all_unsorted P ops sorted order h = All-permutation P sorted ops (IsPermutation-sym ops sorted order.all) (All-from_recursion P sorted h)

pub each_all : {X : Type 0} (P Q : X → Type 0) → ((x : X) → P x → Q x) → (xs : List X) → AllByRecursion P xs → AllByRecursion Q xs
each_all P Q f [] h = tt
each_all P Q f (x ∷ xs) h = (f x h.0, each_all P Q f xs h.1)

pub both_all : (P Q : Op → Type 0) (ops : List Op) → AllByRecursion P ops → AllByRecursion Q ops → AllByRecursion (λ op. P op × Q op) ops
both_all P Q [] g h = tt
both_all P Q (op ∷ ops) g h = ((g.0, h.0), both_all P Q ops g.1 h.1)

-- ---- of one partition

-- an operation of a batch: of its partition, and one that may be asked
abbrev pub IsOf : List ℕ → Op → Type 0
IsOf pk op = ((op_key op).pk ≡ pk) × MayAsk op

pub ops_of : (ops : List Op) → IsBatch ops → AllByRecursion (IsOf (partition_of ops)) ops
ops_of ops batch = both_all (λ op. (op_key op).pk ≡ partition_of ops) MayAsk ops (recursion_from_All _ ops batch.partition) (recursion_from_All MayAsk ops batch.rules)

-- a client's row key
pub row_key_of : (pk : List ℕ) (op : Op) → IsOf pk op → (op_key op).rk ≢ marker_key
row_key_of pk op h = not_marker (op_key op).pk (op_key op).rk h.1.key

both_none : {A : Type 0} (a b : Option A) → option_or a b ≡ None → (a ≡ None) × (b ≡ None)
both_none None b h = (refl, h)
both_none (Some a) b h = absurd cc

-- a batch has an operation, so its partition's key is a client's
pub partition_whole : (ops : List Op) → IsBatch ops → part_fault Partition (partition_of ops) ≡ None
partition_whole [] batch = absurd (let some = batch.some in omega (arith, some))
partition_whole (op ∷ ops) batch =
    (both_none (part_fault Partition (op_key op).pk) (part_fault Row (op_key op).rk) (recursion_from_All MayAsk (op ∷ ops) batch.rules).0.key).0

-- ---- by their row keys

pub also : (a b : Bool) → b ≡ true → (a || b) ≡ true
also true b h = refl
also false b h = h

in_keys : (listed : List (List ℕ)) (ops : List Op) → ((rk : List ℕ) → is_in rk (row_keys ops) ≡ true → is_in rk listed ≡ true) → AllByRecursion (λ op. is_in (op_key op).rk listed ≡ true) ops
in_keys listed [] f = tt
in_keys listed (op ∷ ops) f = (
  f (op_key op).rk (ap (λ b. b || is_in (op_key op).rk (row_keys ops)) (text_same (op_key op).rk)),
  in_keys listed ops (λ rk h. f rk (also (bytes_eq rk (op_key op).rk) (is_in rk (row_keys ops)) h)),
)

-- what holds at each key of a client that the operations name
pub each_key : (P : List ℕ → Type 0) (ops : List Op) → IsBatch ops → ((rk : List ℕ) → rk ≢ marker_key → is_in rk (row_keys ops) ≡ true → P rk) → All (λ op. P (op_key op).rk) ops
each_key P ops batch f = All-from_recursion (λ op. P (op_key op).rk) ops
    (each_all (λ op. IsOf (partition_of ops) op × (is_in (op_key op).rk (row_keys ops) ≡ true)) (λ op. P (op_key op).rk)
    (λ op h. f (op_key op).rk (row_key_of (partition_of ops) op h.0) h.1) ops
    (both_all (IsOf (partition_of ops)) (λ op. is_in (op_key op).rk (row_keys ops) ≡ true) ops (ops_of ops batch) (in_keys (row_keys ops) ops (λ rk h. h))))

-- the marker and the rows of the operations are named
pub marker_named : (ops : List Op) (names : List (List ℕ)) → AreNames ops names → is_in marker_key names ≡ true
marker_named ops names h = sym (list_any-IsPermutation (bytes_eq marker_key) (marker_key ∷ row_keys ops) names h.all)

pub key_named : (ops : List Op) (names : List (List ℕ)) (rk : List ℕ) → AreNames ops names → is_in rk (row_keys ops) ≡ true → is_in rk names ≡ true
key_named ops names rk h named = sym (list_any-IsPermutation (bytes_eq rk) (marker_key ∷ row_keys ops) names h.all) ∙ also (bytes_eq rk marker_key) (is_in rk (row_keys ops)) named
