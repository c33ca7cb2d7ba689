-- The bodies that follow a head, by how they are framed; room is what the head leaves for trailers.
use Rattle.std.specs.Prelude.{◌≡◌, ℕ, ◌<◌, ◌⊎◌, List, ◌++◌, length}
use Rattle.mt_http_in.specs.declared.framing.Framing.{Framing}
use Rattle.mt_http_in.specs.declared.framing.Framing.TheVariants.{Length, Chunked, Large, Unclear}
use Rattle.mt_http_in.specs.declared.Code.{Code}
use Rattle.mt_http_in.specs.declared.Code.TheVariants.{InvalidFraming, RequestBodyTooLarge}
use Rattle.mt_http_in.specs.Chunks.{SpellsChunks, AreChunksBegun, AreChunksRefused, CutOff}
use Rattle.mt_http_in.specs.Trailers.{SpellsTrailers, AreTrailersBegun, TrailersRefused}

-- chunks, and then trailers
pub record SpellsChunked (room : ℕ) (bytes body : List ℕ) : Type 0 where
  pub front : List ℕ
  pub back : List ℕ
  pub chunks : SpellsChunks front body
  pub trailers : SpellsTrailers room back tt
  pub is : bytes ≡ front ++ back

-- chunks stand whole, and the bytes end inside the trailers
pub record EndsInTrailers (room : ℕ) (bytes : List ℕ) : Type 0 where
  pub front : List ℕ
  pub body : List ℕ
  pub part : List ℕ
  pub chunks : SpellsChunks front body
  pub begun : AreTrailersBegun room part
  pub is : bytes ≡ front ++ part

-- chunks stand whole, and the trailers are refused
pub record HasBadTrailers (room : ℕ) (c : Code) (all : List ℕ) : Type 0 where
  pub front : List ℕ
  pub body : List ℕ
  pub rest : List ℕ
  pub chunks : SpellsChunks front body
  pub refused : TrailersRefused room c rest
  pub is : all ≡ front ++ rest

-- the bytes end inside chunks or trailers
abbrev pub AreChunkedBegun : ℕ → List ℕ → Type 0
AreChunkedBegun room bytes = AreChunksBegun bytes ⊎ EndsInTrailers room bytes

-- why chunks with trailers are refused
abbrev pub ChunkedRefused : ℕ → Code → List ℕ → Type 0
ChunkedRefused room c all = AreChunksRefused c all ⊎ HasBadTrailers room c all

-- the bytes spell that body
abbrev pub SpellsBody : ℕ → Framing → List ℕ → List ℕ → Type 0
SpellsBody room (Length n) bytes body = (bytes ≡ body) × (length body ≡ n)
SpellsBody room Chunked bytes body = SpellsChunked room bytes body
SpellsBody room Large bytes body = ⊥
SpellsBody room Unclear bytes body = ⊥

-- the bytes end inside a body
abbrev pub IsBodyBegun : ℕ → Framing → List ℕ → Type 0
IsBodyBegun room (Length n) bytes = length bytes < n
IsBodyBegun room Chunked bytes = AreChunkedBegun room bytes
IsBodyBegun room Large bytes = ⊥
IsBodyBegun room Unclear bytes = ⊥

-- why what follows a head is refused
abbrev pub BodyRefused : ℕ → Framing → Code → List ℕ → Type 0
BodyRefused room (Length n) c all = CutOff n c all
BodyRefused room Chunked c all = ChunkedRefused room c all
BodyRefused room Large c all = c ≡ RequestBodyTooLarge
BodyRefused room Unclear c all = c ≡ InvalidFraming
