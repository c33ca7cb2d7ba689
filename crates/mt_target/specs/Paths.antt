-- How a path spells what it names.
use Rattle.std.specs.Prelude.{◌≡◌, ◌≢◌, ◌⊎◌, ℕ, Bool, true, false, List, [], ◌∷◌, ◌++◌, codes, Option, Some, None}
use Rattle.std.specs.List.{AllByRecursion}
use Rattle.std.specs.Borrow.{Bor}
use Rattle.mt_model.specs.TableName.{is_table_name, is_same_table}
use Rattle.mt_target.specs.declared.target.Keys.{Keys}
use Rattle.mt_target.specs.declared.target.Keys.TheVariants as keys
use Rattle.mt_target.specs.declared.target.Service.{Service}
use Rattle.mt_target.specs.declared.target.Service.TheVariants as service
use Rattle.mt_target.specs.declared.target.Target.{Target}
use Rattle.mt_target.specs.declared.target.Target.TheVariants as target
use Rattle.mt_target.specs.Quoted.{quoted}

-- the path of a service
abbrev pub service_path : Service → List ℕ
service_path service.Batch = codes "/$batch"
service_path service.Migrate = codes "/$mt/migrate"
service_path service.Clean = codes "/$mt/clean"
service_path service.Seal = codes "/$mt/seal"
service_path service.Status = codes "/$mt/status"

-- the two keys of an entity, and the parenthesis behind them
abbrev pub entity_text : List ℕ → List ℕ → List ℕ
entity_text pk rk = codes "PartitionKey=" ++ (quoted pk ++ (codes ",RowKey=" ++ (quoted rk ++ codes ")")))

-- what stands behind a table's name
abbrev pub keys_text : Keys → List ℕ
keys_text keys.Absent = []
keys_text keys.Empty = codes "()"
keys_text (keys.Entity pk rk) = codes "(" ++ entity_text pk rk

-- what may stand behind `Tables`
abbrev pub NamesTable : List ℕ → Type 0
NamesTable rest = (rest ≡ []) ⊎ ((name : List ℕ) × (rest ≡ codes "(" ++ (quoted name ++ codes ")")))

-- the path names this: a table by its name, with keys or without; the list of tables, in any case; or a service
abbrev pub SpellsPath : List ℕ → Target → Type 0
SpellsPath path (target.Table name keys) = (is_table_name name ≡ true) × (path ≡ codes "/" ++ (name ++ keys_text keys))
SpellsPath path target.Tables = (name : List ℕ) × (rest : List ℕ) × (is_same_table (codes "Tables") name ≡ true) × (path ≡ codes "/" ++ (name ++ rest)) × NamesTable rest
SpellsPath path (target.Service s) = path ≡ service_path s

-- ---- parts

-- no parenthesis opens in these bytes
abbrev pub LacksParenthesis : List ℕ → Type 0
LacksParenthesis bytes = AllByRecursion (λ c. c ≢ 40) bytes

-- the parenthesis and what follows it, where there is one
abbrev pub opened_text : Option (Bor (List ℕ)) → List ℕ
opened_text None = []
opened_text (Some behind) = 40 ∷ behind.now

-- a name, up to the first parenthesis, and what follows that
pub record SplitsName (text name : List ℕ) (opened : Option (Bor (List ℕ))) : Type 0 where
  pub whole : text ≡ name ++ opened_text opened
  pub lacks : LacksParenthesis name

-- a path behind its slash names this, by a name and what follows it
abbrev pub NamedBy : List ℕ → List ℕ → Target → Type 0
NamedBy name rest (target.Table n keys) = (n ≡ name) × (is_table_name name ≡ true) × (rest ≡ keys_text keys)
NamedBy name rest target.Tables = (is_same_table (codes "Tables") name ≡ true) × NamesTable rest
NamedBy name rest (target.Service s) = ⊥

-- whether it may stand behind `Tables`
abbrev pub IsNaming : List ℕ → Bool → Type 0
IsNaming rest true = NamesTable rest
IsNaming rest false = NamesTable rest → ⊥
