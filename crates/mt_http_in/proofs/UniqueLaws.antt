-- Bytes spell at most one first request, and what is refused spells none.
use Rattle.std.proofs.Common.{◌≡◌, ℕ, ◌+◌, ◌-◌, ◌<◌, ◌≤◌, List, [], ◌∷◌, ◌++◌, length, take, drop, refl, sym, ap, ◌∙◌, arith, append_assoc, append-nil, length-append, subst, inl, inr}
use Rattle.std.specs.Prelude.{◌⊎◌}
use Rattle.std.proofs.Math.Seq.{take-append_seam, drop-append_seam, take-append-add}
use Rattle.httparse.specs.Ascii.{crlf_bytes}
use Rattle.httparse.specs.Grammar.{RequestHead, print_request, ChunkLine, chunk_size, print_chunk_line, Field, LineEnd, crlf, lf, print_end, print_section, ReadsSection}
use Rattle.httparse.proofs.GrammarLemmas.{request_unique, section_unique}
use Rattle.httparse.proofs.ChunkLemmas.{chunk_line_unique}
use Rattle.mt_http_in.specs.declared.framing.Framing.{Framing}
use Rattle.mt_http_in.specs.declared.framing.Framing.TheVariants.{Length, Chunked, Large, Unclear}
use Rattle.mt_http_in.specs.declared.Code.{Code}
use Rattle.mt_http_in.specs.declared.Code.TheVariants.{InvalidHead, InvalidFraming, RequestBodyTooLarge, InvalidBody, CompressedBody}
use Rattle.mt_http_in.specs.Fields.{body_limit}
use Rattle.mt_http_in.specs.Heads.{HasHead}
use Rattle.mt_http_in.specs.Chunks.{IsLine, NoLine, ContentRefused, Chunk, IsChunk, AllChunks, print_chunk, print_chunks, content_of, SpellsChunks, IsChunkRefused, AreChunksRefused}
use Rattle.mt_http_in.specs.Trailers.{feeds, first_lines, AreTrailers, print_lines, SpellsTrailers, window, TrailersRefused}
use Rattle.mt_http_in.specs.Bodies.{SpellsBody, BodyRefused}
use Rattle.mt_http_in.specs.Requests.{room_after, framing_after, continue_of, Spells, Refuses}
use Rattle.mt_http_in.proofs.TrailerLaws.{feeds-append, first_ends, first_holds, fields_fed, window_prefix}
use Rattle.httparse.specs.Spans.{SectionExceeds}

-- ---- fronts of the same length

same_fronts : (a b x y : List ℕ) → length a ≡ length b → a ++ x ≡ b ++ y → (a ≡ b) × (x ≡ y)
same_fronts a b x y size e = (
  sym (take-append_seam a x) ∙ ap (take (length a)) e ∙ ap (λ k. take k (b ++ y)) size ∙ take-append_seam b y,
  sym (drop-append_seam a x) ∙ ap (drop (length a)) e ∙ ap (λ k. drop k (b ++ y)) size ∙ drop-append_seam b y,
)

-- ---- heads

heads_same : (all : List ℕ) (h k : RequestHead) (r q : List ℕ) → HasHead all h r → HasHead all k q → (h ≡ k) × (r ≡ q)
heads_same all h k r q x y = request_unique all h k r q (x.0.grammar, x.1) (y.0.grammar, y.1)

-- ---- chunks

lines_same : (all : List ℕ) (l k : ChunkLine) (r q : List ℕ) → IsLine l → all ≡ print_chunk_line l ++ r → IsLine k → all ≡ print_chunk_line k ++ q → (l ≡ k) × (r ≡ q)
lines_same all l k r q x e y f = chunk_line_unique all l k r q (x.grammar, e) (y.grammar, f)

-- what follows the line of the first chunk
behind : Chunk → List Chunk → List ℕ → List ℕ
behind c cs more = c.content ++ (crlf_bytes ++ (print_chunks cs ++ more))

opened : (c : Chunk) (cs : List Chunk) (more : List ℕ) → print_chunks (c ∷ cs) ++ more ≡ print_chunk_line c.line ++ behind c cs more
unfolding behind
opened c cs more =
    append_assoc (print_chunk c) (print_chunks cs) more ∙ append_assoc (print_chunk_line c.line) (c.content ++ crlf_bytes) (print_chunks cs ++ more)
    ∙ ap (λ v. print_chunk_line c.line ++ v) (append_assoc c.content crlf_bytes (print_chunks cs ++ more))

-- two chunks at the same place are one
chunk_same : (all : List ℕ) (c d : Chunk) (cs ds : List Chunk) (more others : List ℕ) → IsChunk c → IsChunk d → all ≡ print_chunks (c ∷ cs) ++ more → all ≡ print_chunks (d ∷ ds) ++ others
    → (print_chunk c ≡ print_chunk d) × (c.content ≡ d.content) × (print_chunks cs ++ more ≡ print_chunks ds ++ others)
unfolding behind
chunk_same all c d cs ds more others x y e f =
    let lines = lines_same all c.line d.line (behind c cs more) (behind d ds others) x.line (e ∙ opened c cs more) y.line (f ∙ opened d ds others) in
    let size : length c.content ≡ length d.content = sym x.size ∙ ap chunk_size lines.0 ∙ y.size in
    let contents = same_fronts c.content d.content (crlf_bytes ++ (print_chunks cs ++ more)) (crlf_bytes ++ (print_chunks ds ++ others)) size lines.1 in
    let rests = same_fronts crlf_bytes crlf_bytes (print_chunks cs ++ more) (print_chunks ds ++ others) refl contents.1 in
    (ap (λ l. print_chunk_line l ++ (c.content ++ crlf_bytes)) lines.0 ∙ ap (λ v. print_chunk_line d.line ++ (v ++ crlf_bytes)) contents.0, contents.0, rests.1)

-- a chunk does not stand where the chunks end
no_chunk : (all : List ℕ) (c : Chunk) (cs : List Chunk) (more : List ℕ) (l : ChunkLine) (rest : List ℕ) → IsChunk c → all ≡ print_chunks (c ∷ cs) ++ more → IsLine l → chunk_size l ≡ 0 → all ≡ print_chunk_line l ++ rest → ⊥
no_chunk all c cs more l rest x e is zero f =
    let lines = lines_same all c.line l (behind c cs more) rest x.line (e ∙ opened c cs more) is f in
    absurd (omega (arith, x.some, x.size, ap chunk_size lines.0, zero))

record SameChunks (cs ds : List Chunk) (l k : ChunkLine) (r q : List ℕ) : Type 0 where
  bytes : print_chunks cs ++ print_chunk_line l ≡ print_chunks ds ++ print_chunk_line k
  contents : content_of cs ≡ content_of ds
  rests : r ≡ q

chunks_same : (cs ds : List Chunk) (l k : ChunkLine) (r q all : List ℕ) → AllChunks cs → AllChunks ds → IsLine l → IsLine k → chunk_size l ≡ 0 → chunk_size k ≡ 0
    → all ≡ print_chunks cs ++ (print_chunk_line l ++ r) → all ≡ print_chunks ds ++ (print_chunk_line k ++ q) → SameChunks cs ds l k r q
chunks_same [] [] l k r q all x y is is' zero zero' e f =
    let lines = lines_same all l k r q is e is' f in record { bytes = ap print_chunk_line lines.0; contents = refl; rests = lines.1 }
chunks_same [] (d ∷ ds) l k r q all x y is is' zero zero' e f = absurd (no_chunk all d ds (print_chunk_line k ++ q) l r y.0 f is zero e)
chunks_same (c ∷ cs) [] l k r q all x y is is' zero zero' e f = absurd (no_chunk all c cs (print_chunk_line l ++ r) k q x.0 e is' zero' f)
chunks_same (c ∷ cs) (d ∷ ds) l k r q all x y is is' zero zero' e f =
    let one = chunk_same all c d cs ds (print_chunk_line l ++ r) (print_chunk_line k ++ q) x.0 y.0 e f in
    let others = chunks_same cs ds l k r q (print_chunks cs ++ (print_chunk_line l ++ r)) x.1 y.1 is is' zero zero' refl one.2 in
    record {
      bytes = append_assoc (print_chunk c) (print_chunks cs) (print_chunk_line l) ∙ ap (λ v. v ++ (print_chunks cs ++ print_chunk_line l)) one.0 ∙ ap (λ v. print_chunk d ++ v) others.bytes
          ∙ sym (append_assoc (print_chunk d) (print_chunks ds) (print_chunk_line k));
      contents = ap (λ v. v ++ content_of cs) one.1 ∙ ap (λ v. d.content ++ v) others.contents;
      rests = others.rests;
    }

-- whole chunks at the front are fixed by the bytes
whole_same : (all a b x y r q : List ℕ) → SpellsChunks a x → all ≡ a ++ r → SpellsChunks b y → all ≡ b ++ q → (a ≡ b) × (x ≡ y) × (r ≡ q)
whole_same all a b x y r q s e t f =
    let same = chunks_same s.chunks t.chunks s.line t.line r q all s.all t.all s.is_line t.is_line s.last t.last
    (e ∙ ap (λ v. v ++ r) s.is ∙ append_assoc (print_chunks s.chunks) (print_chunk_line s.line) r) (f ∙ ap (λ v. v ++ q) t.is ∙ append_assoc (print_chunks t.chunks) (print_chunk_line t.line) q) in
    (s.is ∙ same.bytes ∙ sym t.is, s.content ∙ same.contents ∙ sym t.content, same.rests)

-- a chunk that is refused does not stand there whole
not_refused : (all body : List ℕ) (c : Code) (d : Chunk) (ds : List Chunk) (more : List ℕ) → IsChunk d → all ≡ print_chunks (d ∷ ds) ++ more → length body + length d.content ≤ body_limit → IsChunkRefused body c all → ⊥
unfolding behind
not_refused all body c d ds more x e fits r =
    let lines = lines_same all r.line d.line r.rest (behind d ds more) r.is_line r.is x.line (e ∙ opened d ds more) in
    let size : chunk_size r.line ≡ length d.content = ap chunk_size lines.0 ∙ x.size in
    by_code c size lines.1 r.refused
  where
    by_code : (c : Code) → chunk_size r.line ≡ length d.content → r.rest ≡ d.content ++ (crlf_bytes ++ (print_chunks ds ++ more)) → ContentRefused body (chunk_size r.line) c r.rest → ⊥
    by_code InvalidHead size rest y = y
    by_code InvalidFraming size rest y = y
    by_code RequestBodyTooLarge size rest y = absurd (omega (arith, y, size, fits))
    by_code InvalidBody size rest y = y.1 d.content (print_chunks ds ++ more) (sym size) rest
    by_code CompressedBody size rest y = y

refused_same : (cs ds : List Chunk) (k : ChunkLine) (q rest body all : List ℕ) (n : ℕ) (c : Code) → AllChunks cs → AllChunks ds → IsLine k → chunk_size k ≡ 0 → n + length (content_of cs) ≡ length body → n + length (content_of ds) ≤ body_limit
    → all ≡ print_chunks cs ++ rest → all ≡ print_chunks ds ++ (print_chunk_line k ++ q) → NoLine c rest ⊎ IsChunkRefused body c rest → ⊥
refused_same [] [] k q rest body all n c x y is zero size fits e f (inl none) = none.1 k q is (sym e ∙ f)
refused_same [] [] k q rest body all n c x y is zero size fits e f (inr r) =
    let lines = lines_same rest r.line k r.rest q r.is_line r.is is (sym e ∙ f) in
    absurd (omega (arith, r.some, ap chunk_size lines.0, zero))
refused_same [] (d ∷ ds) k q rest body all n c x y is zero size fits e f (inl none) = none.1 d.line (behind d ds (print_chunk_line k ++ q)) y.0.line (sym e ∙ f ∙ opened d ds (print_chunk_line k ++ q))
refused_same [] (d ∷ ds) k q rest body all n c x y is zero size fits e f (inr r) =
    not_refused rest body c d ds (print_chunk_line k ++ q) y.0 (sym e ∙ f) (omega (arith, size, fits, length-append d.content (content_of ds))) r
refused_same (d ∷ ds) [] k q rest body all n c x y is zero size fits e f r = no_chunk all d ds rest k q x.0 e is zero f
refused_same (d ∷ ds) (g ∷ gs) k q rest body all n c x y is zero size fits e f r =
    let one = chunk_same all d g ds gs rest (print_chunk_line k ++ q) x.0 y.0 e f in
    refused_same ds gs k q rest body (print_chunks ds ++ rest) (n + length d.content) c x.1 y.1 is zero (omega (arith, size, length-append d.content (content_of ds)))
    (omega (arith, fits, length-append g.content (content_of gs), ap length one.1)) refl one.2 r

refused_not_whole : (all a x r : List ℕ) (c : Code) → SpellsChunks a x → all ≡ a ++ r → AreChunksRefused c all → ⊥
refused_not_whole all a x r c s e z =
    refused_same z.chunks s.chunks s.line r z.rest (content_of z.chunks) all 0 c z.all_are s.all s.is_line s.last (omega arith) (omega (arith, s.small, ap length s.content)) z.is
    (e ∙ ap (λ v. v ++ r) s.is ∙ append_assoc (print_chunks s.chunks) (print_chunk_line s.line) r) z.refused

-- ---- trailers

trailers_same : (room : ℕ) (all a b r q : List ℕ) → SpellsTrailers room a tt → all ≡ a ++ r → SpellsTrailers room b tt → all ≡ b ++ q → (a ≡ b) × (r ≡ q)
trailers_same room all a b r q s e t f =
    let same = section_unique all s.fields t.fields s.last t.last r q (s.are.grammar, e ∙ ap (λ v. v ++ r) s.is) (t.are.grammar, f ∙ ap (λ v. v ++ q) t.is) in
    (s.is ∙ ap (λ v. print_section v s.last) same.0 ∙ ap (λ v. print_section t.fields v) same.1 ∙ sym t.is, same.2)

end_short : (e : LineEnd) → length (print_end e) ≤ 2
end_short crlf = omega arith
end_short lf = omega arith

-- trailers that are whole stand whole in the window
in_window : (room : ℕ) (all : List ℕ) (fields : List Field) (last : LineEnd) (r : List ℕ) → AreTrailers room fields → all ≡ print_section fields last ++ r → (rest : List ℕ) × (window room all ≡ print_section fields last ++ rest)
in_window room all fields last r are e =
    let p : List ℕ = print_section fields last in
    let short : length (print_section fields last) ≤ room + 2 = omega (arith, are.short, end_short last, length-append (print_lines fields) (print_end last)) in
    let k : ℕ = room + 2 - length (print_section fields last) in
    let size : room + 2 ≡ length (print_section fields last) + (room + 2 - length (print_section fields last)) = omega (arith, short) in
    let cut : take (room + 2) all ≡ print_section fields last ++ take k r = ap (take (room + 2)) e ∙ ap (λ n. take n (p ++ r)) size ∙ take-append-add p r k in
    let held = by_end last (take k r) in
    (held.0, ap (first_lines 65) cut ∙ held.1)
  where
    fed : feeds (print_lines fields) ≡ length fields
    fed = fields_fed fields are.grammar

    by_end : (e : LineEnd) (r : List ℕ) → (rest : List ℕ) × (first_lines 65 (print_section fields e ++ r) ≡ print_section fields e ++ rest)
    by_end crlf r =
        let q : List ℕ = print_lines fields ++ 13 ∷ [] in
        let few : feeds (print_lines fields ++ 13 ∷ []) < 65 = omega (arith, fed, are.few, feeds-append (print_lines fields) (13 ∷ [])) in
        let x = first_holds 65 q r few in (
          x.0,
          ap (first_lines 65) (append_assoc (print_lines fields) (13 ∷ 10 ∷ []) r ∙ sym (append_assoc (print_lines fields) (13 ∷ []) (10 ∷ r))) ∙ x.1 ∙ append_assoc (print_lines fields) (13 ∷ []) (10 ∷ x.0)
              ∙ sym (append_assoc (print_lines fields) (13 ∷ 10 ∷ []) x.0),
        )
    by_end lf r =
        let few : feeds (print_lines fields) < 65 = omega (arith, fed, are.few) in
        let x = first_holds 65 (print_lines fields) r few in
        (x.0, ap (first_lines 65) (append_assoc (print_lines fields) (10 ∷ []) r) ∙ x.1 ∙ sym (append_assoc (print_lines fields) (10 ∷ []) x.0))

-- a section in the window is one in all
in_all : (room : ℕ) (all : List ℕ) (fields : List Field) (last : LineEnd) (rest : List ℕ) → ReadsSection (window room all) fields last rest → ReadsSection all fields last (rest ++ (window_prefix room all).0)
in_all room all fields last rest reads =
    let whole = window_prefix room all in
    (reads.0, whole.1 ∙ ap (λ v. v ++ whole.0) reads.1 ∙ append_assoc (print_section fields last) rest whole.0)

-- trailers that are whole are not refused
trailers_refused_none : (room : ℕ) (all a r : List ℕ) (c : Code) → SpellsTrailers room a tt → all ≡ a ++ r → TrailersRefused room c all → ⊥
trailers_refused_none room all a r c s e z = by_code c z
  where
    reads : ReadsSection all s.fields s.last r
    reads = (s.are.grammar, e ∙ ap (λ v. v ++ r) s.is)

    seen_reads : ReadsSection (window room all ++ (window_prefix room all).0) s.fields s.last r
    seen_reads = (s.are.grammar, sym (window_prefix room all).1 ∙ reads.1)

    by_code : (c : Code) → TrailersRefused room c all → ⊥
    by_code InvalidHead (inl many) = absurd (omega (arith, many.0 (window_prefix room all).0 s.fields s.last r seen_reads, s.are.few))
    by_code InvalidHead (inr (inl long)) =
        let same = section_unique all s.fields long.fields s.last long.last r (long.rest ++ (window_prefix room all).0) reads (in_all room all long.fields long.last long.rest long.reads) in
        absurd (omega (arith, long.long, s.are.short, ap (λ v. length (print_lines v)) same.0))
    by_code InvalidHead (inr (inr endless)) = let there = in_window room all s.fields s.last r s.are reads.1 in endless.none s.fields s.last there.0 (s.are.grammar, there.1)
    by_code InvalidFraming z = z
    by_code RequestBodyTooLarge z = z
    by_code InvalidBody (inl never) = never (window_prefix room all).0 s.fields s.last r seen_reads
    by_code InvalidBody (inr begun) = begun.none s.fields s.last r reads
    by_code CompressedBody z = z

-- ---- bodies

body_same : (room : ℕ) (f : Framing) (all a b x y r q : List ℕ) → SpellsBody room f a x → all ≡ a ++ r → SpellsBody room f b y → all ≡ b ++ q → (a ≡ b) × (x ≡ y) × (r ≡ q)
body_same room (Length n) all a b x y r q s e t g =
    let same = same_fronts a b r q (ap length s.0 ∙ s.1 ∙ sym t.1 ∙ sym (ap length t.0)) (sym e ∙ g) in (same.0, sym s.0 ∙ same.0 ∙ t.0, same.1)
body_same room Chunked all a b x y r q s e t g =
    let chunks = whole_same all s.front t.front x y (s.back ++ r) (t.back ++ q) s.chunks (e ∙ ap (λ v. v ++ r) s.is ∙ append_assoc s.front s.back r) t.chunks
    (g ∙ ap (λ v. v ++ q) t.is ∙ append_assoc t.front t.back q) in
    let trailers = trailers_same room (s.back ++ r) s.back t.back r q s.trailers refl t.trailers chunks.2 in
    (s.is ∙ ap (λ v. v ++ s.back) chunks.0 ∙ ap (λ v. t.front ++ v) trailers.0 ∙ sym t.is, chunks.1, trailers.1)
body_same room Large all a b x y r q s e t g = absurd s
body_same room Unclear all a b x y r q s e t g = absurd s

body_refused_none : (room : ℕ) (f : Framing) (c : Code) (all a x r : List ℕ) → SpellsBody room f a x → all ≡ a ++ r → BodyRefused room f c all → ⊥
body_refused_none room (Length n) c all a x r s e z = absurd (omega (arith, z.1, ap length e, length-append a r, ap length s.0, s.1))
body_refused_none room Chunked c all a x r s e (inl z) = refused_not_whole all s.front x (s.back ++ r) c s.chunks (e ∙ ap (λ v. v ++ r) s.is ∙ append_assoc s.front s.back r) z
body_refused_none room Chunked c all a x r s e (inr z) =
    let chunks = whole_same all s.front z.front x z.body (s.back ++ r) z.rest s.chunks (e ∙ ap (λ v. v ++ r) s.is ∙ append_assoc s.front s.back r) z.chunks z.is in
    trailers_refused_none room z.rest s.back r c s.trailers (sym chunks.2) z.refused
body_refused_none room Large c all a x r s e z = s
body_refused_none room Unclear c all a x r s e z = s

-- ---- requests

pub record Same (h k : RequestHead) (body content p q rest rest' : List ℕ) : Type 0 where
  pub head : h ≡ k
  pub bodies : body ≡ content
  pub bytes : p ≡ q
  pub rests : rest ≡ rest'

head_of : (all : List ℕ) (h : RequestHead) (body p rest : List ℕ) (s : Spells h body p) → all ≡ p ++ rest → HasHead all h (s.coda ++ rest)
head_of all h body p rest s e = (s.head, e ∙ ap (λ v. v ++ rest) s.is ∙ append_assoc (print_request h) s.coda rest)

-- two whole requests at the front of the same bytes are one, and leave the same rest
pub one_request : (all : List ℕ) (h k : RequestHead) (body content p q rest rest' : List ℕ) → Spells h body p → all ≡ p ++ rest → Spells k content q → all ≡ q ++ rest' → Same h k body content p q rest rest'
one_request all h k body content p q rest rest' s e t f =
    let heads = heads_same all h k (s.coda ++ rest) (t.coda ++ rest') (head_of all h body p rest s e) (head_of all k content q rest' t f) in
    let other : SpellsBody (room_after h) (framing_after h) t.coda content = subst (λ g. SpellsBody (room_after g) (framing_after g) t.coda content) (sym heads.0) t.spelled in
    let bodies = body_same (room_after h) (framing_after h) (s.coda ++ rest) s.coda t.coda body content rest rest' s.spelled refl other heads.1 in
    record { head = heads.0; bodies = bodies.1; bytes = s.is ∙ ap (λ g. print_request g ++ s.coda) heads.0 ∙ ap (λ v. print_request k ++ v) bodies.0 ∙ sym t.is; rests = bodies.2 }

-- bytes that are refused begin with no whole request
pub refused_is_no_request : (all : List ℕ) (c : Code) (said : List ℕ) (h : RequestHead) (body p rest : List ℕ) → Refuses all c said → Spells h body p → all ≡ p ++ rest → ⊥
refused_is_no_request all c said h body p rest (inl x) s e = let has = head_of all h body p rest s e in x.none h (s.coda ++ rest) has.0 has.1
refused_is_no_request all c said h body p rest (inr x) s e =
    let heads = heads_same all h x.head (s.coda ++ rest) x.rest (head_of all h body p rest s e) x.has in
    let refused : BodyRefused (room_after h) (framing_after h) c (s.coda ++ rest) =
    subst (λ v. BodyRefused (room_after h) (framing_after h) c v) (sym heads.1) (subst (λ g. BodyRefused (room_after g) (framing_after g) c x.rest) (sym heads.0) x.refused) in
    body_refused_none (room_after h) (framing_after h) c (s.coda ++ rest) s.coda body rest s.spelled refl refused

-- ---- one code

content_codes : (body body' : List ℕ) (n n' : ℕ) (c c' : Code) (xs : List ℕ) → length body ≡ length body' → n ≡ n' → ContentRefused body n c xs → ContentRefused body' n' c' xs → c ≡ c'
content_codes body body' n n' InvalidHead c' xs size same y z = absurd y
content_codes body body' n n' InvalidFraming c' xs size same y z = absurd y
content_codes body body' n n' CompressedBody c' xs size same y z = absurd y
content_codes body body' n n' RequestBodyTooLarge InvalidHead xs size same y z = absurd z
content_codes body body' n n' RequestBodyTooLarge InvalidFraming xs size same y z = absurd z
content_codes body body' n n' RequestBodyTooLarge RequestBodyTooLarge xs size same y z = refl
content_codes body body' n n' RequestBodyTooLarge InvalidBody xs size same y z = absurd (omega (arith, size, same, y, z.0))
content_codes body body' n n' RequestBodyTooLarge CompressedBody xs size same y z = absurd z
content_codes body body' n n' InvalidBody InvalidHead xs size same y z = absurd z
content_codes body body' n n' InvalidBody InvalidFraming xs size same y z = absurd z
content_codes body body' n n' InvalidBody RequestBodyTooLarge xs size same y z = absurd (omega (arith, size, same, y.0, z))
content_codes body body' n n' InvalidBody InvalidBody xs size same y z = refl
content_codes body body' n n' InvalidBody CompressedBody xs size same y z = absurd z

-- why the next chunk is refused
abbrev NextRefused : List ℕ → Code → List ℕ → Type 0
NextRefused body c rest = NoLine c rest ⊎ IsChunkRefused body c rest

next_codes : (body body' : List ℕ) (c c' : Code) (all : List ℕ) → length body ≡ length body' → NextRefused body c all → NextRefused body' c' all → c ≡ c'
next_codes body body' c c' all size (inl a) (inl b) = a.0 ∙ sym b.0
next_codes body body' c c' all size (inl a) (inr b) = absurd (a.1 b.line b.rest b.is_line b.is)
next_codes body body' c c' all size (inr a) (inl b) = absurd (b.1 a.line a.rest a.is_line a.is)
next_codes body body' c c' all size (inr a) (inr b) =
    let lines = lines_same all a.line b.line a.rest b.rest a.is_line a.is b.is_line b.is in
    content_codes body body' (chunk_size a.line) (chunk_size b.line) c c' a.rest size (ap chunk_size lines.0) a.refused (subst (ContentRefused body' (chunk_size b.line) c') (sym lines.1) b.refused)

-- a whole chunk is not refused
next_not_chunk : (body : List ℕ) (c : Code) (all : List ℕ) (d : Chunk) (ds : List Chunk) (more : List ℕ) → IsChunk d → all ≡ print_chunks (d ∷ ds) ++ more → length body + length d.content ≤ body_limit → NextRefused body c all → ⊥
next_not_chunk body c all d ds more x e fits (inl none) = none.1 d.line (behind d ds more) x.line (e ∙ opened d ds more)
next_not_chunk body c all d ds more x e fits (inr r) = not_refused all body c d ds more x e fits r

chunk_codes : (cs ds : List Chunk) (rest rest' body body' all : List ℕ) (n : ℕ) (c c' : Code) → AllChunks cs → AllChunks ds → n + length (content_of cs) ≡ length body → n + length (content_of ds) ≡ length body' → length body ≤ body_limit
    → length body' ≤ body_limit → all ≡ print_chunks cs ++ rest → all ≡ print_chunks ds ++ rest' → NextRefused body c rest → NextRefused body' c' rest' → c ≡ c'
chunk_codes [] [] rest rest' body body' all n c c' x y size size' fits fits' e f a b = next_codes body body' c c' rest (omega (arith, size, size')) a (subst (NextRefused body' c') (sym f ∙ e) b)
chunk_codes [] (d ∷ ds) rest rest' body body' all n c c' x y size size' fits fits' e f a b =
    absurd (next_not_chunk body c rest d ds rest' y.0 (sym e ∙ f) (omega (arith, size, size', fits', length-append d.content (content_of ds))) a)
chunk_codes (d ∷ ds) [] rest rest' body body' all n c c' x y size size' fits fits' e f a b =
    absurd (next_not_chunk body' c' rest' d ds rest x.0 (sym f ∙ e) (omega (arith, size, size', fits, length-append d.content (content_of ds))) b)
chunk_codes (d ∷ ds) (g ∷ gs) rest rest' body body' all n c c' x y size size' fits fits' e f a b =
    let one = chunk_same all d g ds gs rest rest' x.0 y.0 e f in
    chunk_codes ds gs rest rest' body body' (print_chunks ds ++ rest) (n + length d.content) c c' x.1 y.1 (omega (arith, size, length-append d.content (content_of ds)))
    (omega (arith, size', length-append g.content (content_of gs), ap length one.1)) fits fits' refl one.2 a b

-- more than 64 fields have as many lines
many_fed : (bytes : List ℕ) (x : SectionExceeds 64 bytes) → 65 ≤ feeds x.0
many_fed bytes x =
    let fed : feeds (print_lines x.3) ≡ length x.3 = fields_fed x.3 x.4.0 in
    let both : x.0 ++ 10 ∷ [] ≡ print_lines x.3 ++ 10 ∷ [] = x.4.1 ∙ append-nil (print_section x.3 lf) in
    let counts : feeds x.0 + 1 ≡ feeds (print_lines x.3) + 1 = sym (feeds-append x.0 (10 ∷ [])) ∙ ap feeds both ∙ feeds-append (print_lines x.3) (10 ∷ []) in
    omega (arith, fed, counts, x.5)

all_fed : (room : ℕ) (all : List ℕ) → feeds (window room all) ≤ feeds all
all_fed room all = let whole = window_prefix room all in omega (arith, ap feeds whole.1, feeds-append (window room all) whole.0)

overlong_is_not_bad : (room : ℕ) (all : List ℕ) → TrailersRefused room InvalidHead all → TrailersRefused room InvalidBody all → ⊥
overlong_is_not_bad room all (inl many) (inl never) =
    let x = many.1 in
    let rest : x.1 ≡ [] = first_ends 65 (take (room + 2) all) x.0 x.1 x.2 (many_fed (window room all) x) in
    let whole : window room all ≡ x.0 = x.2 ∙ ap (λ v. x.0 ++ v) rest ∙ append-nil x.0 in
    never (10 ∷ []) x.3 lf [] (x.4.0, ap (λ v. v ++ 10 ∷ []) whole ∙ x.4.1)
overlong_is_not_bad room all (inl many) (inr begun) =
    let x = many.1 in
    let low : 65 ≤ feeds x.0 = many_fed (window room all) x in
    let inside : feeds (window room all) ≡ feeds x.0 + feeds x.1 = ap feeds x.2 ∙ feeds-append x.0 x.1 in
    absurd (omega (arith, low, inside, all_fed room all, begun.few))
overlong_is_not_bad room all (inr (inl long)) (inl never) = never [] long.fields long.last long.rest (long.reads.0, append-nil (window room all) ∙ long.reads.1)
overlong_is_not_bad room all (inr (inl long)) (inr begun) =
    let reads = in_all room all long.fields long.last long.rest long.reads in begun.none long.fields long.last (long.rest ++ (window_prefix room all).0) reads
overlong_is_not_bad room all (inr (inr endless)) (inl never) = let x = endless.coming in never x.0 x.1 x.2 [] x.3
overlong_is_not_bad room all (inr (inr endless)) (inr begun) = by_long endless.long
  where
    by_long : (room + 2 ≤ length all) ⊎ (65 ≤ feeds (window room all)) → ⊥
    by_long (inl long) = absurd (omega (arith, long, begun.short))
    by_long (inr many) = absurd (omega (arith, many, all_fed room all, begun.few))

trailer_codes : (room : ℕ) (c c' : Code) (all : List ℕ) → TrailersRefused room c all → TrailersRefused room c' all → c ≡ c'
trailer_codes room InvalidHead InvalidHead all a b = refl
trailer_codes room InvalidHead InvalidFraming all a b = absurd b
trailer_codes room InvalidHead RequestBodyTooLarge all a b = absurd b
trailer_codes room InvalidHead InvalidBody all a b = absurd (overlong_is_not_bad room all a b)
trailer_codes room InvalidHead CompressedBody all a b = absurd b
trailer_codes room InvalidFraming c' all a b = absurd a
trailer_codes room RequestBodyTooLarge c' all a b = absurd a
trailer_codes room InvalidBody InvalidHead all a b = absurd (overlong_is_not_bad room all b a)
trailer_codes room InvalidBody InvalidFraming all a b = absurd b
trailer_codes room InvalidBody RequestBodyTooLarge all a b = absurd b
trailer_codes room InvalidBody InvalidBody all a b = refl
trailer_codes room InvalidBody CompressedBody all a b = absurd b
trailer_codes room CompressedBody c' all a b = absurd a

body_codes : (room : ℕ) (f : Framing) (c c' : Code) (all : List ℕ) → BodyRefused room f c all → BodyRefused room f c' all → c ≡ c'
body_codes room (Length n) c c' all a b = a.0 ∙ sym b.0
body_codes room Chunked c c' all (inl a) (inl b) =
    chunk_codes a.chunks b.chunks a.rest b.rest (content_of a.chunks) (content_of b.chunks) all 0 c c' a.all_are b.all_are (omega arith) (omega arith) a.small b.small a.is b.is a.refused b.refused
body_codes room Chunked c c' all (inl a) (inr b) = absurd (refused_not_whole all b.front b.body b.rest c b.chunks b.is a)
body_codes room Chunked c c' all (inr a) (inl b) = absurd (refused_not_whole all a.front a.body a.rest c' a.chunks a.is b)
body_codes room Chunked c c' all (inr a) (inr b) =
    let chunks = whole_same all a.front b.front a.body b.body a.rest b.rest a.chunks a.is b.chunks b.is in
    trailer_codes room c c' a.rest a.refused (subst (TrailersRefused room c') (sym chunks.2) b.refused)
body_codes room Large c c' all a b = a ∙ sym b
body_codes room Unclear c c' all a b = a ∙ sym b

-- bytes are refused by one code, after the same was written
pub one_refusal : (all : List ℕ) (c c' : Code) (said said' : List ℕ) → Refuses all c said → Refuses all c' said' → (c ≡ c') × (said ≡ said')
one_refusal all c c' said said' (inl a) (inl b) = (a.code ∙ sym b.code, a.silent ∙ sym b.silent)
one_refusal all c c' said said' (inl a) (inr b) = absurd (a.none b.head b.rest b.has.0 b.has.1)
one_refusal all c c' said said' (inr a) (inl b) = absurd (b.none a.head a.rest a.has.0 a.has.1)
one_refusal all c c' said said' (inr a) (inr b) =
    let heads = heads_same all a.head b.head a.rest b.rest a.has b.has in
    let other : BodyRefused (room_after a.head) (framing_after a.head) c' a.rest =
    subst (λ v. BodyRefused (room_after a.head) (framing_after a.head) c' v) (sym heads.1) (subst (λ g. BodyRefused (room_after g) (framing_after g) c' b.rest) (sym heads.0) b.refused) in
    (body_codes (room_after a.head) (framing_after a.head) c c' a.rest a.refused other, a.spoken ∙ ap continue_of heads.0 ∙ sym b.spoken)
