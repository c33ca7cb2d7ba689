-- The chunks of a body.
use Rattle.std.specs.Prelude.{◌≡◌, ℕ, ◌+◌, ◌<◌, ◌≤◌, ◌⊎◌, List, [], ◌∷◌, ◌++◌, length}
use Rattle.httparse.specs.Ascii.{crlf_bytes}
use Rattle.httparse.specs.Grammar.{ChunkLine, IsChunkLine, chunk_size, print_chunk_line, HasNoChunkLine, MayBecomeChunkLine}
use Rattle.mt_http_in.specs.declared.Code.{Code}
use Rattle.mt_http_in.specs.declared.Code.TheVariants.{InvalidHead, InvalidFraming, RequestBodyTooLarge, InvalidBody, CompressedBody}
use Rattle.mt_io.specs.Ends.{Input}
use Rattle.mt_http_in.specs.Fields.{body_limit}
use Rattle.mt_http_in.specs.Reading.{Later, Spent}

-- n bytes, which are added to a body
abbrev pub SpellsBytes : List ℕ → ℕ → List ℕ → List ℕ → Type 0
SpellsBytes body n bytes body' = (length bytes ≡ n) × (body' ≡ body ++ bytes)

-- fewer than n bytes
abbrev pub IsShort : ℕ → List ℕ → Type 0
IsShort n bytes = length bytes < n

-- the input ends before n bytes
abbrev pub CutOff : ℕ → Code → List ℕ → Type 0
CutOff n c all = (c ≡ InvalidBody) × (length all < n)

-- a line end
abbrev pub SpellsEnd : List ℕ → Unit {0} → Type 0
SpellsEnd bytes u = bytes ≡ crlf_bytes

-- no line end stands at the front
abbrev pub NoEnd : Code → List ℕ → Type 0
NoEnd c all = (c ≡ InvalidBody) × ((rest : List ℕ) → all ≡ crlf_bytes ++ rest → ⊥)

-- a chunk line of at most 16,384 bytes
pub record IsLine (l : ChunkLine) : Type 0 where
  pub grammar : IsChunkLine l
  pub short : length (print_chunk_line l) ≤ 16384

-- the line that gives a size
abbrev pub SpellsLine : List ℕ → ℕ → Type 0
SpellsLine bytes size = (l : ChunkLine) × IsLine l × (bytes ≡ print_chunk_line l) × (size ≡ chunk_size l)

-- no chunk line stands whole in the bytes, and more bytes can make one of them
pub record IsLineBegun (bytes : List ℕ) : Type 0 where
  pub none : HasNoChunkLine bytes
  pub coming : MayBecomeChunkLine bytes
  pub short : length bytes < 16384

-- no chunk line stands at the front
abbrev pub HasNoLine : List ℕ → Type 0
HasNoLine all = (l : ChunkLine) (rest : List ℕ) → IsLine l → all ≡ print_chunk_line l ++ rest → ⊥

-- no chunk line stands at the front, which makes the body invalid
abbrev pub NoLine : Code → List ℕ → Type 0
NoLine c all = (c ≡ InvalidBody) × HasNoLine all

-- n bytes and a line end, where n bytes more are within the limit
pub record SpellsContent (body : List ℕ) (n : ℕ) (bytes body' : List ℕ) : Type 0 where
  pub content : List ℕ
  pub size : length content ≡ n
  pub is : bytes ≡ content ++ crlf_bytes
  pub grew : body' ≡ body ++ content
  pub fits : length body + n ≤ body_limit

-- the bytes end before n and a line end
pub record IsContentBegun (body : List ℕ) (n : ℕ) (bytes : List ℕ) : Type 0 where
  pub short : length bytes < n + 2
  pub fits : length body + n ≤ body_limit

-- n bytes and a line end do not stand at the front
abbrev pub HasNoContent : ℕ → List ℕ → Type 0
HasNoContent n all = (content rest : List ℕ) → length content ≡ n → all ≡ content ++ (crlf_bytes ++ rest) → ⊥

-- why n bytes more of a body are refused
abbrev pub ContentRefused : List ℕ → ℕ → Code → List ℕ → Type 0
ContentRefused body n InvalidHead all = ⊥
ContentRefused body n InvalidFraming all = ⊥
ContentRefused body n RequestBodyTooLarge all = body_limit < length body + n
ContentRefused body n InvalidBody all = (length body + n ≤ body_limit) × HasNoContent n all
ContentRefused body n CompressedBody all = ⊥

-- a chunk: its line and its content
pub record Chunk : Type 0 where
  pub line : ChunkLine
  pub content : List ℕ

-- the line gives the size of the content, which is not empty
pub record IsChunk (c : Chunk) : Type 0 where
  pub line : IsLine c.line
  pub size : chunk_size c.line ≡ length c.content
  pub some : 0 < length c.content

-- each is a chunk
abbrev pub AllChunks : List Chunk → Type 0
AllChunks [] = Unit {0}
AllChunks (c ∷ cs) = IsChunk c × AllChunks cs

-- the bytes of a chunk
abbrev pub print_chunk : Chunk → List ℕ
print_chunk c = print_chunk_line c.line ++ (c.content ++ crlf_bytes)

-- the bytes of chunks
abbrev pub print_chunks : List Chunk → List ℕ
print_chunks [] = []
print_chunks (c ∷ cs) = print_chunk c ++ print_chunks cs

-- the contents of chunks, one after another
abbrev pub content_of : List Chunk → List ℕ
content_of [] = []
content_of (c ∷ cs) = c.content ++ content_of cs

-- chunks, up to the line of size 0 that ends them
pub record SpellsChunks (bytes body : List ℕ) : Type 0 where
  pub chunks : List Chunk
  pub line : ChunkLine
  pub all : AllChunks chunks
  pub is_line : IsLine line
  pub last : chunk_size line ≡ 0
  pub is : bytes ≡ print_chunks chunks ++ print_chunk_line line
  pub content : body ≡ content_of chunks
  pub small : length body ≤ body_limit

-- a line stands whole, and what follows it ends inside its chunk
pub record IsChunkBegun (n : ℕ) (bytes : List ℕ) : Type 0 where
  pub line : ChunkLine
  pub part : List ℕ
  pub is_line : IsLine line
  pub some : 0 < chunk_size line
  pub fits : n + chunk_size line ≤ body_limit
  pub short : length part < chunk_size line + 2
  pub is : bytes ≡ print_chunk_line line ++ part

-- the bytes end inside a chunk
pub record AreChunksBegun (bytes : List ℕ) : Type 0 where
  pub chunks : List Chunk
  pub part : List ℕ
  pub all : AllChunks chunks
  pub small : length (content_of chunks) ≤ body_limit
  pub is : bytes ≡ print_chunks chunks ++ part
  pub begun : IsLineBegun part ⊎ IsChunkBegun (length (content_of chunks)) part

-- the line of a chunk stands at the front, and what follows it is refused
pub record IsChunkRefused (body : List ℕ) (c : Code) (all : List ℕ) : Type 0 where
  pub line : ChunkLine
  pub rest : List ℕ
  pub is_line : IsLine line
  pub some : 0 < chunk_size line
  pub is : all ≡ print_chunk_line line ++ rest
  pub refused : ContentRefused body (chunk_size line) c rest

-- why chunks are refused: after whole ones no line comes, or one of a chunk that is refused
pub record AreChunksRefused (c : Code) (all : List ℕ) : Type 0 where
  pub chunks : List Chunk
  pub rest : List ℕ
  pub all_are : AllChunks chunks
  pub small : length (content_of chunks) ≤ body_limit
  pub is : all ≡ print_chunks chunks ++ rest
  pub refused : NoLine c rest ⊎ IsChunkRefused (content_of chunks) c rest

-- two bytes
abbrev pub IsPairOfBytes : List ℕ → Type 0
IsPairOfBytes bytes = length bytes ≡ 2

-- the bytes of a chunk line of the grammar
abbrev pub IsLineBytes : List ℕ → Type 0
IsLineBytes bytes = (l : ChunkLine) × IsChunkLine l × (bytes ≡ print_chunk_line l)

-- chunks were spent, whose contents are the body so far
pub record Between (kept : List ℕ) (s : Input) (body kept' : List ℕ) (t : Input) : Type 0 where
  pub later : Later s t
  pub chunks : List Chunk
  pub all : AllChunks chunks
  pub content : body ≡ content_of chunks
  pub small : length body ≤ body_limit
  pub spent : Spent kept s (print_chunks chunks) kept' t
