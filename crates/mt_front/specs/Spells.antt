-- How items stand in the bytes of a connection: the requests in what is read, and the replies in what is written.
use Rattle.std.specs.Prelude.{◌≡◌, ℕ, List, [], ◌∷◌, ◌++◌}
use Rattle.httparse.specs.Grammar.{RequestHead}
use Rattle.mt_http_in.specs.Fields.{keeps_open}
use Rattle.mt_http_in.specs.Heads.{fields_of}
use Rattle.mt_http_in.specs.Requests.{Spells as SpellsRequest, continue_of}
use Rattle.mt_front.specs.Asks.{WholeAsks, request_by}
use Rattle.mt_front.specs.Items.{Item}

-- the bytes read are a whole request that asks for this, and those written are its 100 Continue, where it calls for one, and its reply
pub record Spells (table : List ℕ) (i : Item) (read written : List ℕ) : Type 0 where
  pub head : RequestHead
  pub body : List ℕ
  pub whole : SpellsRequest head body read
  pub is_asked : WholeAsks table (request_by head body) i.asks
  pub keep_is : i.keep ≡ keeps_open head.minor (fields_of head)
  pub written_is : written ≡ continue_of head ++ i.reply

-- the items one after the other
abbrev pub SpellsAll : List ℕ → List Item → List ℕ → List ℕ → Type 0
SpellsAll table [] read written = (read ≡ []) × (written ≡ [])
SpellsAll table (i ∷ items) read written = (a : List ℕ) × (b : List ℕ) × (p : List ℕ) × (q : List ℕ)
    × (read ≡ a ++ b) × (written ≡ p ++ q) × Spells table i a p × SpellsAll table items b q

-- ---- what the bytes fix

-- two items of one request
pub record AreAlike (table : List ℕ) (i j : Item) : Type 0 where
  pub head : RequestHead
  pub body : List ℕ
  pub first : WholeAsks table (request_by head body) i.asks
  pub second : WholeAsks table (request_by head body) j.asks
  pub keep : i.keep ≡ j.keep

-- as many items, of the same requests
abbrev pub AllAlike : List ℕ → List Item → List Item → Type 0
AllAlike table [] [] = Unit {0}
AllAlike table [] (j ∷ js) = ⊥
AllAlike table (i ∷ is) [] = ⊥
AllAlike table (i ∷ is) (j ∷ js) = AreAlike table i j × AllAlike table is js

-- no whole request stands at the front of these bytes
abbrev pub HasNoWhole : List ℕ → Type 0
HasNoWhole rest = (h : RequestHead) (body p more : List ℕ) → SpellsRequest h body p → rest ≡ p ++ more → ⊥
