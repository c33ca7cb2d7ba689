-- Chunks, and trailers behind them.
use Rattle.std.proofs.Common.{ℕ, List, ◌++◌, Ok, Err, refl, inr}
use Rattle.mt_io.specs.Ends.{Input}
use Rattle.mt_http_in.specs.declared.reader.Halt.{Halt}
use Rattle.mt_http_in.specs.Reading.{Reads}
use Rattle.mt_http_in.specs.Chunks.{SpellsChunks, AreChunksBegun, AreChunksRefused}
use Rattle.mt_http_in.specs.Trailers.{SpellsTrailers, AreTrailersBegun, TrailersRefused}
use Rattle.mt_http_in.specs.Bodies.{SpellsChunked, AreChunkedBegun, ChunkedRefused}
use Rattle.mt_http_in.proofs.FillLaws.{later_then, spent_then, stops_then}

module _ (room : ℕ) (a : List ℕ) (s : Input) (body b : List ℕ) (t : Input) (x : Reads {V = List ℕ} SpellsChunks AreChunksBegun AreChunksRefused a s (Ok body) b t) (c : List ℕ) where
  pub chunked_whole : (u : Input) → Reads {V = Unit {0}} (SpellsTrailers room) (AreTrailersBegun room) (TrailersRefused room) b t (Ok tt) c u
      → Reads {V = List ℕ} (SpellsChunked room) (AreChunkedBegun room) (ChunkedRefused room) a s (Ok body) c u
  chunked_whole u y = record {
    later = later_then s t u x.later y.later;
    read = (
      x.read.0 ++ y.read.0,
      record { front = x.read.0; back = y.read.0; chunks = x.read.1; trailers = y.read.1; is = refl },
      spent_then a s x.read.0 b t y.read.0 c u x.read.2 y.read.2,
    );
  }

module _ (room : ℕ) (a : List ℕ) (s : Input) (body b : List ℕ) (t : Input) (x : Reads {V = List ℕ} SpellsChunks AreChunksBegun AreChunksRefused a s (Ok body) b t) (halt : Halt) (c : List ℕ) (u : Input) where
  pub chunked_stops : Reads {V = Unit {0}} (SpellsTrailers room) (AreTrailersBegun room) (TrailersRefused room) b t (Err halt) c u
      → Reads {V = List ℕ} (SpellsChunked room) (AreChunkedBegun room) (ChunkedRefused room) a s (Err halt) c u
  chunked_stops y =
      stops_then {V = Unit {0}} {W = List ℕ} (SpellsTrailers room) (AreTrailersBegun room) (TrailersRefused room) (SpellsChunked room) (AreChunkedBegun room) (ChunkedRefused room) a s x.read.0 b t halt c u x.later x.read.2
      (λ q begun. inr (record { front = x.read.0; body = body; part = q; chunks = x.read.1; begun = begun; is = refl }))
      (λ code xs refused. inr (record { front = x.read.0; body = body; rest = xs; chunks = x.read.1; refused = refused; is = refl })) y
