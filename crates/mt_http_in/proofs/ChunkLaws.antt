-- Chunk lines, contents and chunks, one after another.
use Rattle.std.proofs.Common.{◌≡◌, ◌≢◌, ℕ, ◌+◌, ◌<◌, ◌≤◌, List, [], ◌∷◌, ◌++◌, length, take, drop, Ok, Err, refl, sym, ap, ◌∙◌, arith, append_assoc, append-nil, length-append, subst, inl, inr}
use Rattle.std.proofs.lemmas.List.{take-append-drop}
use Rattle.std.proofs.Math.Seq.{take-append_seam, drop-append_seam}
use Rattle.httparse.specs.Ascii.{crlf_bytes}
use Rattle.httparse.specs.Grammar.{ChunkLine, chunk_size, print_chunk_line, HasNoChunkLine, ReadsChunkLine}
use Rattle.httparse.specs.Spans.{IsChunkLineAt}
use Rattle.httparse.proofs.ChunkLemmas.{chunk_line_unique, ReadsChunkLine-append}
use Rattle.mt_io.specs.Ends.{Input}
use Rattle.mt_http_in.specs.declared.reader.Halt.{Halt}
use Rattle.mt_http_in.specs.declared.reader.Halt.TheVariants.{Refused}
use Rattle.mt_http_in.specs.declared.Code.{Code}
use Rattle.mt_http_in.specs.declared.Code.TheVariants.{InvalidBody}
use Rattle.mt_http_in.specs.Fields.{body_limit}
use Rattle.mt_http_in.specs.Reading.{Spent, Reads}
use Rattle.mt_http_in.specs.Filling.{Reached}
use Rattle.mt_http_in.specs.Chunks.{SpellsBytes, IsShort, CutOff, SpellsEnd, NoEnd, SpellsLine, IsLineBegun, HasNoLine, NoLine, SpellsContent, IsContentBegun, HasNoContent, ContentRefused, Chunk, IsChunk, AllChunks, print_chunk, print_chunks, content_of, SpellsChunks, AreChunksBegun, AreChunksRefused, IsPairOfBytes, IsLineBytes, Between}
use Rattle.mt_http_in.proofs.FillLaws.{front, later_then, reached_spent, known_now, ended_now, spent_then, stops_then}

-- ---- line ends

pub pair_none : (kept : List ℕ) (n : ℕ) → n ≡ length kept → n < 2 → (bytes rest : List ℕ) → IsPairOfBytes bytes → kept ≡ bytes ++ rest → ⊥
pair_none kept n size less bytes rest two e =
    let all : length kept ≡ length bytes + length rest = ap length e ∙ length-append bytes rest in
    absurd (omega (arith, size, less, two, all))

pub end_whole : (kept : List ℕ) (s : Input) (kept' slice : List ℕ) (t : Input) (kept'' : List ℕ) → Reached IsPairOfBytes kept s kept' t → slice ≡ kept' → take 2 slice ≡ crlf_bytes → kept'' ≡ drop 2 kept' → 2 ≤ length kept'
    → Reads SpellsEnd (IsShort 2) NoEnd kept s (Ok tt) kept'' t
end_whole kept s kept' slice t kept'' r same two d long =
    let e : kept' ≡ crlf_bytes ++ kept'' = sym (take-append-drop 2 kept') ∙ ap (λ v. v ++ drop 2 kept') (ap (take 2) (sym same) ∙ two) ∙ ap (λ v. crlf_bytes ++ v) (sym d) in
    record { later = r.later; read = (crlf_bytes, refl, reached_spent IsPairOfBytes kept s kept' t crlf_bytes kept'' r refl e) }

-- ---- chunk lines

pub line_none : (kept slice : List ℕ) → slice ≡ kept → HasNoChunkLine slice → (bytes rest : List ℕ) → IsLineBytes bytes → kept ≡ bytes ++ rest → ⊥
line_none kept slice same none bytes rest line e = none line.0 rest (line.1, same ∙ e ∙ ap (λ v. v ++ rest) line.2)

late : (bytes : List ℕ) → HasNoChunkLine bytes → 16384 ≤ length bytes → (more : List ℕ) → HasNoLine (bytes ++ more)
late bytes none many more l rest is e = none l (drop (length (print_chunk_line l)) bytes) (is.grammar, front bytes more (print_chunk_line l) rest e (omega (arith, is.short)))

long : (bytes rest : List ℕ) (l : ChunkLine) → ReadsChunkLine bytes l rest → 16384 < length (print_chunk_line l) → (more : List ℕ) → HasNoLine (bytes ++ more)
long bytes rest l reads many more k rest' is e =
    let same = chunk_line_unique (bytes ++ more) l k (rest ++ more) rest' (ReadsChunkLine-append bytes l rest more reads) (is.grammar, e) in
    let eq : length (print_chunk_line l) ≡ length (print_chunk_line k) = ap (λ v. length (print_chunk_line v)) same.0 in
    absurd (omega (arith, is.short))

refused_line : (kept : List ℕ) (s : Input) (kept' : List ℕ) (t : Input) → Reached IsLineBytes kept s kept' t → ((more : List ℕ) → HasNoLine (kept' ++ more)) → Reads {V = ℕ} SpellsLine IsLineBegun NoLine kept s (Err (Refused InvalidBody)) kept' t
refused_line kept s kept' t r never = record {
  later = r.later;
  read = (tt, known_now IsLineBytes (NoLine InvalidBody) kept s kept' t r (λ more. (refl, never more)), ended_now IsLineBytes kept s kept' t r);
}

pub line_late : (kept : List ℕ) (s : Input) (kept' slice : List ℕ) (t : Input) (n : ℕ) → Reached IsLineBytes kept s kept' t → slice ≡ kept' → HasNoChunkLine slice → n ≡ length kept' → 16384 ≤ n
    → Reads {V = ℕ} SpellsLine IsLineBegun NoLine kept s (Err (Refused InvalidBody)) kept' t
line_late kept s kept' slice t n r same none is many = refused_line kept s kept' t r (late kept' (subst HasNoChunkLine same none) (subst (λ k. 16384 ≤ k) is many))

pub line_long : (kept : List ℕ) (s : Input) (kept' slice : List ℕ) (t : Input) (len size : ℕ) → Reached IsLineBytes kept s kept' t → slice ≡ kept' → (l : ChunkLine) × IsChunkLineAt slice len size l → 16384 < len
    → Reads {V = ℕ} SpellsLine IsLineBegun NoLine kept s (Err (Refused InvalidBody)) kept' t
line_long kept s kept' slice t len size r same found many =
    refused_line kept s kept' t r (long kept' (drop len slice) found.0 (subst (λ v. ReadsChunkLine v found.0 (drop len slice)) same found.1.reads) (subst (λ k. 16384 < k) found.1.len_is many))

-- ---- contents

no_content : (n : ℕ) (content xs : List ℕ) → length content ≡ n → ((rest : List ℕ) → xs ≡ crlf_bytes ++ rest → ⊥) → HasNoContent n (content ++ xs)
no_content n content xs size none other rest size' e =
    let same : content ≡ other =
    sym (take-append_seam content xs) ∙ ap (take (length content)) e ∙ ap (λ k. take k (other ++ (crlf_bytes ++ rest))) (size ∙ sym size') ∙ take-append_seam other (crlf_bytes ++ rest) in
    let others : xs ≡ crlf_bytes ++ rest =
    sym (drop-append_seam content xs) ∙ ap (drop (length content)) e ∙ ap (λ k. drop k (other ++ (crlf_bytes ++ rest))) (size ∙ sym size') ∙ drop-append_seam other (crlf_bytes ++ rest) in
    none rest others

module _ (body : List ℕ) (n : ℕ) (fits : length body + n ≤ body_limit) where
  pub content_whole : (a : List ℕ) (s : Input) (b : List ℕ) (t : Input) (c : List ℕ) (u : Input) (body' : List ℕ) → Reads {V = List ℕ} (SpellsBytes body n) (IsShort n) (CutOff n) a s (Ok body') b t
      → Reads SpellsEnd (IsShort 2) NoEnd b t (Ok tt) c u → Reads {V = List ℕ} (SpellsContent body n) (IsContentBegun body n) (ContentRefused body n) a s (Ok body') c u
  content_whole a s b t c u body' x y = record {
    later = later_then s t u x.later y.later;
    read = (
      x.read.0 ++ y.read.0,
      record { content = x.read.0; size = x.read.1.0; is = ap (λ v. x.read.0 ++ v) y.read.1; grew = x.read.1.1; fits = fits },
      spent_then a s x.read.0 b t y.read.0 c u x.read.2 y.read.2,
    );
  }

  pub content_ends : (a : List ℕ) (s : Input) (b : List ℕ) (t : Input) (halt : Halt) (c : List ℕ) (u : Input) (body' : List ℕ) → Reads {V = List ℕ} (SpellsBytes body n) (IsShort n) (CutOff n) a s (Ok body') b t
      → Reads SpellsEnd (IsShort 2) NoEnd b t (Err halt) c u → Reads {V = List ℕ} (SpellsContent body n) (IsContentBegun body n) (ContentRefused body n) a s (Err halt) c u
  content_ends a s b t halt c u body' x y =
      stops_then {V = Unit {0}} {W = List ℕ} SpellsEnd (IsShort 2) NoEnd (SpellsContent body n) (IsContentBegun body n) (ContentRefused body n) a s x.read.0 b t halt c u x.later x.read.2
      (λ q short. record { short = omega (arith, short, x.read.1.0, length-append x.read.0 q); fits = fits })
      (λ code xs none. subst (λ k. ContentRefused body n k (x.read.0 ++ xs)) (sym none.0) (fits, no_content n x.read.0 xs x.read.1.0 none.1)) y

-- ---- chunks

printed_more : (cs : List Chunk) (c : Chunk) → print_chunks (cs ++ c ∷ []) ≡ print_chunks cs ++ print_chunk c
printed_more [] c = append-nil (print_chunk c)
printed_more (d ∷ cs) c = ap (λ v. print_chunk d ++ v) (printed_more cs c) ∙ sym (append_assoc (print_chunk d) (print_chunks cs) (print_chunk c))

content_more : (cs : List Chunk) (c : Chunk) → content_of (cs ++ c ∷ []) ≡ content_of cs ++ c.content
content_more [] c = append-nil c.content
content_more (d ∷ cs) c = ap (λ v. d.content ++ v) (content_more cs c) ∙ sym (append_assoc d.content (content_of cs) c.content)

all_more : (cs : List Chunk) (c : Chunk) → AllChunks cs → IsChunk c → AllChunks (cs ++ c ∷ [])
all_more [] c all is = (is, tt)
all_more (d ∷ cs) c all is = (all.0, all_more cs c all.1 is)

module _ (kept : List ℕ) (s : Input) (body a : List ℕ) (r : Input) (was : Between kept s body a r) where
  pub chunks_last : (b : List ℕ) (t : Input) (size : ℕ) → Reads {V = ℕ} SpellsLine IsLineBegun NoLine a r (Ok size) b t → size ≡ 0 → Reads {V = List ℕ} SpellsChunks AreChunksBegun AreChunksRefused kept s (Ok body) b t
  chunks_last b t size x zero =
      let line = x.read.1 in
      record {
        later = later_then s r t was.later x.later;
        read = (
          print_chunks was.chunks ++ x.read.0,
          record {
            chunks = was.chunks;
            line = line.0;
            all = was.all;
            is_line = line.1;
            last = sym line.3 ∙ zero;
            is = ap (λ v. print_chunks was.chunks ++ v) line.2;
            content = was.content;
            small = was.small;
          },
          spent_then kept s (print_chunks was.chunks) a r x.read.0 b t was.spent x.read.2,
        );
      }

  pub chunks_stop : (halt : Halt) (b : List ℕ) (t : Input) → Reads {V = ℕ} SpellsLine IsLineBegun NoLine a r (Err halt) b t → Reads {V = List ℕ} SpellsChunks AreChunksBegun AreChunksRefused kept s (Err halt) b t
  chunks_stop halt b t x =
      stops_then {V = ℕ} {W = List ℕ} SpellsLine IsLineBegun NoLine SpellsChunks AreChunksBegun AreChunksRefused kept s (print_chunks was.chunks) a r halt b t was.later was.spent
      (λ q begun. record { chunks = was.chunks; part = q; all = was.all; small = small; is = refl; begun = inl begun })
      (λ code xs none. record { chunks = was.chunks; rest = xs; all_are = was.all; small = small; is = refl; refused = inl none }) x
    where
      small : length (content_of was.chunks) ≤ body_limit
      small = subst (λ v. length v ≤ body_limit) was.content was.small

  module _ (b : List ℕ) (t : Input) (size : ℕ) (line : Reads {V = ℕ} SpellsLine IsLineBegun NoLine a r (Ok size) b t) (some : size ≢ 0) where
    abbrev before : List ℕ
    before = print_chunks was.chunks ++ line.read.0

    spent_before : Spent kept s before b t
    spent_before = spent_then kept s (print_chunks was.chunks) a r line.read.0 b t was.spent line.read.2

    pub chunks_more : (c : List ℕ) (u : Input) (body' : List ℕ) → Reads {V = List ℕ} (SpellsContent body size) (IsContentBegun body size) (ContentRefused body size) b t (Ok body') c u → Between kept s body' c u
    chunks_more c u body' y =
        let l = line.read.1 in
        let x = y.read.1 in
        let chunk : Chunk = record { line = l.0; content = x.content } in
        let is : IsChunk chunk = record { line = l.1; size = sym l.3 ∙ sym x.size; some = omega (arith, some, x.size) } in
        let printed : before ++ y.read.0 ≡ print_chunks (was.chunks ++ chunk ∷ []) =
        append_assoc (print_chunks was.chunks) line.read.0 y.read.0
        ∙ ap (λ v. print_chunks was.chunks ++ v) (ap (λ v. v ++ y.read.0) l.2 ∙ ap (λ v. print_chunk_line l.0 ++ v) x.is) ∙ sym (printed_more was.chunks chunk) in
        record {
          later = later_then s t u (later_then s r t was.later line.later) y.later;
          chunks = was.chunks ++ chunk ∷ [];
          all = all_more was.chunks chunk was.all is;
          content = x.grew ∙ ap (λ v. v ++ x.content) was.content ∙ sym (content_more was.chunks chunk);
          small = omega (arith, x.fits, x.size, ap length x.grew, length-append body x.content);
          spent = subst (λ v. Spent kept s v c u) printed (spent_then kept s before b t y.read.0 c u spent_before y.read.2);
        }

    pub chunk_stops : (halt : Halt) (c : List ℕ) (u : Input) → Reads {V = List ℕ} (SpellsContent body size) (IsContentBegun body size) (ContentRefused body size) b t (Err halt) c u
        → Reads {V = List ℕ} SpellsChunks AreChunksBegun AreChunksRefused kept s (Err halt) c u
    chunk_stops halt c u y =
        stops_then {V = List ℕ} {W = List ℕ} (SpellsContent body size) (IsContentBegun body size) (ContentRefused body size) SpellsChunks AreChunksBegun AreChunksRefused kept s before b t halt c u
        (later_then s r t was.later line.later) spent_before begun refused y
      where
        small : length (content_of was.chunks) ≤ body_limit
        small = subst (λ v. length v ≤ body_limit) was.content was.small

        positive : 0 < chunk_size line.read.1.0
        positive = omega (arith, some, line.read.1.3)

        begun : (q : List ℕ) → IsContentBegun body size q → AreChunksBegun (before ++ q)
        begun q x = record {
          chunks = was.chunks;
          part = line.read.0 ++ q;
          all = was.all;
          small = small;
          is = append_assoc (print_chunks was.chunks) line.read.0 q;
          begun = inr (record {
            line = line.read.1.0;
            part = q;
            is_line = line.read.1.1;
            some = positive;
            fits = omega (arith, x.fits, line.read.1.3, ap length was.content);
            short = omega (arith, x.short, line.read.1.3);
            is = ap (λ v. v ++ q) line.read.1.2;
          });
        }

        refused : (code : Code) (xs : List ℕ) → ContentRefused body size code xs → AreChunksRefused code (before ++ xs)
        refused code xs x = record {
          chunks = was.chunks;
          rest = line.read.0 ++ xs;
          all_are = was.all;
          small = small;
          is = append_assoc (print_chunks was.chunks) line.read.0 xs;
          refused = inr (record {
            line = line.read.1.0;
            rest = xs;
            is_line = line.read.1.1;
            some = positive;
            is = ap (λ v. v ++ xs) line.read.1.2;
            refused = subst (λ v. ContentRefused v (chunk_size line.read.1.0) code xs) was.content (subst (λ k. ContentRefused body k code xs) line.read.1.3 x);
          });
        }
