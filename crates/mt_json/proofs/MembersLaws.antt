-- The text of members with the tag in its place.
use Rattle.std.proofs.Common.{◌≡◌, ℕ, ◌+◌, ◌-◌, ◌^◌, ◌<◌, Bool, true, false, List, [], ◌∷◌, ◌++◌, length, Ordering, Less, Equal, Greater, refl, ap, ap₂, sym, subst, ◌∙◌, append_assoc, length-append, arith}
use Rattle.std.specs.Prelude.{codes, min}
use Rattle.std.specs.Ordering.{nat_cmp, match_ordering}
use Rattle.std.specs.Cmp.Lexicographic.{slice_cmp}
use Rattle.std.proofs.lemmas.Bool.{or_parts}
use Rattle.json.specs.Print.{quoted, escape}
use Rattle.serde_json.specs.Data.{Data, null, string, Members, no_members, member, put, members_depth}
use Rattle.serde_json.specs.Written.{has_float, members_have_float, comma_if, compact_text, members_text}
use Rattle.mt_json.specs.declared.write.Level.{Level}
use Rattle.mt_json.specs.declared.write.Level.TheVariants as level
use Rattle.mt_json.specs.Written.{put_etag}
use Rattle.mt_json.specs.Tagged.{with_tag, tagged, placed, IsFlat, AreFlat, tag_bytes, IsDraft}
use Rattle.mt_json.proofs.WrittenLaws.{AreLeaves}

-- the text of a member, with a comma before it where it is not the first
abbrev pub member_text : Bool → List ℕ → List ℕ → Data → List ℕ
member_text later tag k d = comma_if later ++ (quoted k ++ 58 ∷ compact_text (with_tag tag d))

regroup : (c q a z : List ℕ) → c ++ (q ++ 58 ∷ (a ++ z)) ≡ (c ++ (q ++ 58 ∷ a)) ++ z
regroup c q a z = ap (λ s. c ++ s) (sym (append_assoc q (58 ∷ a) z)) ∙ sym (append_assoc c (q ++ 58 ∷ a) z)

pub member_then : (later : Bool) (tag k : List ℕ) (d : Data) (ms : Members)
    → members_text later (tagged tag (member k d ms)) ≡ member_text later tag k d ++ members_text true (tagged tag ms)
member_then later tag k d ms = regroup (comma_if later) (quoted k) (compact_text (with_tag tag d)) (members_text true (tagged tag ms))

-- ---- null in the tag's place

tagged_same : (tag : List ℕ) (ms : Members) → AreLeaves ms → tagged tag ms ≡ ms
tagged_same tag no_members h = refl
tagged_same tag (member k d ms) h = ap₂ (member k) (h.0.0.given tag) (tagged_same tag ms h.1)

tagged_match : (o : Ordering) (tag k l : List ℕ) (e : Data) (ms : Members) → with_tag tag e ≡ e → tagged tag ms ≡ ms → tagged tag (put k null ms) ≡ put k (string tag) ms
    → tagged tag (match_ordering o (member k null (member l e ms)) (member l null ms) (member l e (put k null ms)))
    ≡ match_ordering o (member k (string tag) (member l e ms)) (member l (string tag) ms) (member l e (put k (string tag) ms))
tagged_match Less tag k l e ms given same later = ap (member k (string tag)) (ap₂ (member l) given same)
tagged_match Equal tag k l e ms given same later = ap (member l (string tag)) same
tagged_match Greater tag k l e ms given same later = ap₂ (member l) given later

tagged_put : (tag k : List ℕ) (ms : Members) → AreLeaves ms → tagged tag (put k null ms) ≡ put k (string tag) ms
tagged_put tag k no_members h = refl
tagged_put tag k (member l e ms) h = tagged_match (slice_cmp nat_cmp k l) tag k l e ms (h.0.0.given tag) (tagged_same tag ms h.1) (tagged_put tag k ms h.1)

-- the members with the tag in its place are those with the tag put among them
pub tagged_placed : (l : Level) (tag : List ℕ) (ms : Members) → AreLeaves ms → tagged tag (placed l ms) ≡ put_etag l tag ms
tagged_placed level.None tag ms h = tagged_same tag ms h
tagged_placed level.Minimal tag ms h = tagged_put tag (codes "odata.etag") ms h

flat_null : IsFlat null
flat_null = record { exact = refl; flat = refl }

flat_leaves : (ms : Members) → AreLeaves ms → AreFlat ms
flat_leaves no_members h = tt
flat_leaves (member k d ms) h = (record { exact = h.0.0.exact; flat = h.0.0.flat }, flat_leaves ms h.1)

flat_match : (o : Ordering) (k l : List ℕ) (e : Data) (ms : Members) → IsFlat e → AreFlat ms → AreFlat (put k null ms)
    → AreFlat (match_ordering o (member k null (member l e ms)) (member l null ms) (member l e (put k null ms)))
flat_match Less k l e ms one more later = (flat_null, (one, more))
flat_match Equal k l e ms one more later = (flat_null, more)
flat_match Greater k l e ms one more later = (one, later)

flat_put : (k : List ℕ) (ms : Members) → AreFlat ms → AreFlat (put k null ms)
flat_put k no_members h = (flat_null, tt)
flat_put k (member l e ms) h = flat_match (slice_cmp nat_cmp k l) k l e ms h.0 h.1 (flat_put k ms h.1)

pub flat_placed : (l : Level) (ms : Members) → AreLeaves ms → AreFlat (placed l ms)
flat_placed level.None ms h = flat_leaves ms h
flat_placed level.Minimal ms h = flat_put (codes "odata.etag") ms (flat_leaves ms h)

flat_exact : (ms : Members) → AreFlat ms → members_have_float ms ≡ false
flat_exact no_members h = refl
flat_exact (member k d ms) h = rw (h.0.exact, flat_exact ms h.1)

flat_depth : (ms : Members) → AreFlat ms → members_depth ms ≡ 0
flat_depth no_members h = refl
flat_depth (member k d ms) h = rw (h.0.flat, flat_depth ms h.1)

pub flat_from : (ms : Members) → members_have_float ms ≡ false → members_depth ms ≡ 0 → AreFlat ms
flat_from no_members exact flat = tt
flat_from (member k d ms) exact flat =
    let p = or_parts (has_float d) (members_have_float ms) exact in
    (record { exact = p.0; flat = omega (arith, flat) }, flat_from ms p.1 (omega (arith, flat)))

-- ---- what the tag adds to the size

abbrev Adds : Bool → List ℕ → Members → Members → Type 0
Adds later tag with without = length (members_text later with) ≡ length (members_text later without) + length (escape tag)

adds_here : (later : Bool) (tag k : List ℕ) (ms : Members) → Adds later tag (member k (string tag) ms) (member k (string []) ms)
adds_here later tag k ms =
    let r = members_text true ms in
    omega (
      arith,
      length-append (comma_if later) (quoted k ++ 58 ∷ (quoted tag ++ r)),
      length-append (quoted k) (58 ∷ (quoted tag ++ r)),
      length-append (quoted tag) r,
      length-append (escape tag) (34 ∷ []),
      length-append (comma_if later) (quoted k ++ 58 ∷ (quoted [] ++ r)),
      length-append (quoted k) (58 ∷ (quoted [] ++ r)),
      length-append (quoted []) r,
    )

adds_later : (later : Bool) (tag l : List ℕ) (e : Data) (with without : Members) → Adds true tag with without → Adds later tag (member l e with) (member l e without)
adds_later later tag l e with without more =
    let a = members_text true with in
    let b = members_text true without in
    omega (
      arith,
      more,
      length-append (comma_if later) (quoted l ++ 58 ∷ (compact_text e ++ a)),
      length-append (quoted l) (58 ∷ (compact_text e ++ a)),
      length-append (compact_text e) a,
      length-append (comma_if later) (quoted l ++ 58 ∷ (compact_text e ++ b)),
      length-append (quoted l) (58 ∷ (compact_text e ++ b)),
      length-append (compact_text e) b,
    )

adds_match : (o : Ordering) (later : Bool) (tag k l : List ℕ) (e : Data) (ms : Members) → Adds true tag (put k (string tag) ms) (put k (string []) ms)
    → Adds later tag (match_ordering o (member k (string tag) (member l e ms)) (member l (string tag) ms) (member l e (put k (string tag) ms)))
    (match_ordering o (member k (string []) (member l e ms)) (member l (string []) ms) (member l e (put k (string []) ms)))
adds_match Less later tag k l e ms more = adds_here later tag k (member l e ms)
adds_match Equal later tag k l e ms more = adds_here later tag l ms
adds_match Greater later tag k l e ms more = adds_later later tag l e (put k (string tag) ms) (put k (string []) ms) more

adds_put : (later : Bool) (tag k : List ℕ) (ms : Members) → Adds later tag (put k (string tag) ms) (put k (string []) ms)
adds_put later tag k no_members = adds_here later tag k no_members
adds_put later tag k (member l e ms) = adds_match (slice_cmp nat_cmp k l) later tag k l e ms (adds_put true tag k ms)

adds_placed : (l : Level) (tag : List ℕ) (ms : Members) → AreLeaves ms
    → length (members_text false (tagged tag (placed l ms))) ≡ length (members_text false (tagged [] (placed l ms))) + tag_bytes l tag
adds_placed level.None tag ms h =
    let one = ap (λ ms. length (members_text false ms)) (tagged_same tag ms h ∙ sym (tagged_same [] ms h)) in
    omega (arith, one)
adds_placed level.Minimal tag ms h =
    let with = ap (λ ms. length (members_text false ms)) (tagged_put tag (codes "odata.etag") ms h) in
    let without = ap (λ ms. length (members_text false ms)) (tagged_put [] (codes "odata.etag") ms h) in
    omega (arith, with, without, adds_put false tag (codes "odata.etag") ms)

pub draft_of : (l : Level) (ms all : Members) (size : ℕ) → AreLeaves ms → all ≡ placed l ms
    → size ≡ min (2 ^ 64 - 1) (min (2 ^ 64 - 1) (length (members_text false (tagged [] all))) + 1) → size + 37 < 2 ^ 64 - 1 → IsDraft all l size
draft_of l ms all size leaves is counted small = record {
  exact = ap members_have_float is ∙ flat_exact (placed l ms) (flat_placed l ms leaves);
  flat = ap members_depth is ∙ flat_depth (placed l ms) (flat_placed l ms leaves);
  sized = λ tag.
      let adds = subst (λ all. length (members_text false (tagged tag all)) ≡ length (members_text false (tagged [] all)) + tag_bytes l tag) (sym is) (adds_placed l tag ms leaves) in
      omega (arith, adds, counted, small);
  small = omega (arith, small);
}
