-- What a migrator knows: how its facts lie apart, how they last, and what each of its reads tells.
use Rattle.std.proofs.Common.{◌≡◌, ◌≢◌, ◌⊎◌, ℕ, ◌<◌, Bool, true, false, cond, ◌&&◌, List, [], ◌∷◌, take, length, nat_lt, Option, Some, None, refl, sym, ap, subst, ◌∙◌, arith, inl, inr, bytes_eq, Less, Equal, Greater, Ordering}
use Rattle.std.specs.Prelude.{option_map, is_some, IfSome}
use Rattle.std.specs.List.{AllByRecursion}
use Rattle.std.specs.Ordering.{nat_cmp, is_lt, is_le, is_eq}
use Rattle.std.specs.Cmp.Lexicographic.{slice_cmp, texts_ties}
use Rattle.mt_model.specs.declared.tag.Tag.{Tag}
use Rattle.mt_model.specs.declared.value.Prop.{Prop}
use Rattle.mt_model.specs.Key.{key_fault}
use Rattle.mt_chain.specs.declared.ask.Side.TheVariants.{New}
use Rattle.mt_chain.specs.declared.query.PkFrom.{PkFrom}
use Rattle.mt_chain.specs.declared.query.PkFrom.TheVariants as start
use Rattle.mt_chain.specs.declared.query.Found.{Found}
use Rattle.mt_chain.specs.declared.row.Stored.{Stored}
use Rattle.mt_chain.specs.declared.row.StoredRow.{StoredRow}
use Rattle.mt_chain.specs.Rows.{Rows, row_at, row_in, shown, has_partition, are_rising, is_from, is_upto, is_past, rows_within}
use Rattle.mt_chain.specs.StoreCall.{Contents, IsNext}
use Rattle.mt_chain.proofs.KeyLaws.{text_true}
use Rattle.mt_chain.proofs.RowLaws.{no_partition}
use Rattle.mt_chain.proofs.TextOrder.{le_trans, not_le}
use Rattle.mt_chain.proofs.RangeRows.{in_whole, rising_within, up_to_end, IsRowOf}
use Rattle.mt_meta.specs.declared.marker.Phase.{Phase}
use Rattle.mt_meta.specs.declared.marker.Phase.TheVariants.{UseOld, PreferOld, PreferNew}
use Rattle.mt_meta.specs.declared.marker.NewPhase.{NewPhase}
use Rattle.mt_meta.specs.declared.marker.NewPhase.TheVariants.{Filling, UseNew}
use Rattle.mt_meta.specs.declared.mark.Mark.TheVariants.{Copy}
use Rattle.mt_meta.specs.Markers.{marker_key, marker_props, old_kind, new_kind, old_phase_of, new_phase_of}
use Rattle.mt_meta.specs.Marks.{mark_of, seen_tag}
use Rattle.mt_meta.specs.Logical.{Pair, old_at, new_at, new_state_at}
use Rattle.mt_meta.specs.Sound.{IsOldMarker, IsKept, AreTags, IsSound}
use Rattle.mt_meta.specs.declared.fact.Keys.{Keys}
use Rattle.mt_meta.specs.declared.fact.Keys.TheVariants as keys
use Rattle.mt_meta.specs.declared.fact.Fact.{Fact}
use Rattle.mt_meta.specs.declared.fact.Fact.TheVariants as fact
use Rattle.mt_meta.specs.Facts.{is_use_new, KnowsRow, KnowsKept, KnowsTurned, KnowsEpoch, KnowsSwept, Holds, Apart, IsPlain, AllPlain}
use Rattle.mt_meta.specs.Steps.{AllHold, row_facts}
use Rattle.std.proofs.lemmas.Bool.{lt-ltb}
use Rattle.mt_meta.proofs.Rules.{old_read, new_read, key_cases}
use Rattle.mt_meta.proofs.ReadLaws.{row_known}
use Rattle.mt_migrate.specs.declared.state.Walk.{Walk}
use Rattle.mt_migrate.specs.declared.state.Walk.TheVariants.{BeforeSeal, AfterSeal}
use Rattle.mt_migrate.specs.declared.state.Pass.{Pass}
use Rattle.mt_migrate.specs.declared.state.Pass.TheVariants.{First, Second}
use Rattle.mt_migrate.specs.declared.state.Part.{Part}
use Rattle.mt_migrate.specs.declared.state.Copying.{Copying as CopyingPart}
use Rattle.mt_migrate.specs.Chunks.{end_of, lesser}
use Rattle.mt_migrate.specs.Moves.{past, next_rows, reading_of}
use Rattle.mt_migrate.specs.Known.{behind, walk_facts, old_known, rows_known, epoch_known, kept_fact, kept_facts}
use Rattle.mt_migrate.proofs.ChunkLaws.{seen_is, KeptRow, KnownEntry}

-- ---- lists of facts

pub behind_plain : (walk : Walk) (place : PkFrom) → AllPlain (behind walk place)
behind_plain BeforeSeal place = tt
behind_plain AfterSeal place = (tt, tt)

pub old_plain : (pk : List ℕ) (pass : Pass) → IsPlain (old_known pk pass)
old_plain pk (First marker) = tt
old_plain pk Second = tt

pub rows_plain : (copying : CopyingPart) (pass : Pass) (upto : Option (List ℕ)) (rows : List StoredRow) → IsPlain (rows_known copying pass upto rows)
rows_plain copying (First marker) upto rows = tt
rows_plain copying Second upto rows = tt

pub kept_plain : (pk : List ℕ) (rows : List StoredRow) → AllPlain (kept_facts pk rows)
kept_plain pk [] = tt
kept_plain pk (r ∷ rows) = go (seen_tag r.props r.tag) (kept_plain pk rows) where
  go : (o : Option Tag) → AllPlain (kept_facts pk rows) → AllPlain (kept_fact pk r.rk o (kept_facts pk rows))
  go None rest = rest
  go (Some t) rest = (tt, rest)

-- ---- epochs

pub epoch_apart : (f : Fact) (pk : List ℕ) (tag : Tag) (part part' : Keys) → Apart f (fact.Epoch pk tag part) → Apart f (fact.Epoch pk tag part')
epoch_apart (fact.Epoch a b c) pk tag part part' h = h
epoch_apart (fact.Row a b c d e) pk tag part part' h = tt
epoch_apart (fact.Kept a b c) pk tag part part' h = tt
epoch_apart (fact.Begun a) pk tag part part' h = tt
epoch_apart (fact.There a) pk tag part part' h = tt
epoch_apart (fact.Turned a b c) pk tag part part' h = tt
epoch_apart (fact.Closed a b) pk tag part part' h = tt
epoch_apart (fact.Moved a) pk tag part part' h = tt
epoch_apart (fact.Clean a b c) pk tag part part' h = tt
epoch_apart (fact.Swept a) pk tag part part' h = tt
epoch_apart fact.Retired pk tag part part' h = tt

-- a tag above new's counter is of no epoch that a fact that holds speaks of
pub fresh_apart : (p : Pair) (retired : Bool) (f : Fact) (pk : List ℕ) (tag : Tag) (part : Keys) → p.new.counter < tag.n → Holds p retired f → Apart f (fact.Epoch pk tag part)
fresh_apart p retired (fact.Epoch a b c) pk tag part low h = λ same e. (let n : b.n ≡ tag.n = ap (λ (t : Tag). t.n) e in let past = h.past in omega (arith, n, past, low))
fresh_apart p retired (fact.Row a b c d e) pk tag part low h = tt
fresh_apart p retired (fact.Kept a b c) pk tag part low h = tt
fresh_apart p retired (fact.Begun a) pk tag part low h = tt
fresh_apart p retired (fact.There a) pk tag part low h = tt
fresh_apart p retired (fact.Turned a b c) pk tag part low h = tt
fresh_apart p retired (fact.Closed a b) pk tag part low h = tt
fresh_apart p retired (fact.Moved a) pk tag part low h = tt
fresh_apart p retired (fact.Clean a b c) pk tag part low h = tt
fresh_apart p retired (fact.Swept a) pk tag part low h = tt
fresh_apart p retired fact.Retired pk tag part low h = tt

-- what is known of the epoch by the pass
pub as_known : (p : Pair) (retired : Bool) (copying : CopyingPart) (pass : Pass) (part : Keys) → (pass ≡ Second → KnowsEpoch p copying.part.pk copying.epoch part) → KnowsEpoch p copying.part.pk copying.epoch keys.None → Holds p retired (epoch_known copying pass part)
as_known p retired copying (First marker) part h alone = alone
as_known p retired copying Second part h alone = h refl

pub no_keys : (p : Pair) (pk : List ℕ) (tag : Tag) (part : Keys) → KnowsEpoch p pk tag part → KnowsEpoch p pk tag keys.None
no_keys p pk tag part h = record { past = h.past; marked = h.marked; filling = h.filling; turned = λ m is e rk x. absurd x; exact = λ m is e rk other x. absurd x }

pub known_alone : (p : Pair) (retired : Bool) (copying : CopyingPart) (pass : Pass) (part : Keys) → Holds p retired (epoch_known copying pass part) → KnowsEpoch p copying.part.pk copying.epoch keys.None
known_alone p retired copying (First marker) part h = h
known_alone p retired copying Second part h = no_keys p copying.part.pk copying.epoch part h

pub known_apart : (f : Fact) (copying : CopyingPart) (pass : Pass) (part part' : Keys) → Apart f (epoch_known copying pass part) → Apart f (fact.Epoch copying.part.pk copying.epoch part')
known_apart f copying (First marker) part part' h = epoch_apart f copying.part.pk copying.epoch keys.None part' h
known_apart f copying Second part part' h = epoch_apart f copying.part.pk copying.epoch part part' h

pub apart_known : (f : Fact) (copying : CopyingPart) (pass : Pass) (part part' : Keys) → Apart f (fact.Epoch copying.part.pk copying.epoch part) → Apart f (epoch_known copying pass part')
apart_known f copying (First marker) part part' h = epoch_apart f copying.part.pk copying.epoch part keys.None h
apart_known f copying Second part part' h = epoch_apart f copying.part.pk copying.epoch part part' h

-- ---- what a read of a marker tells

pub known_as : (store : ℕ) (c : Contents) (pk rk : List ℕ) (r : Stored) (ps : List Prop) → AreTags store c → row_at c.rows pk rk ≡ Some r → r.props ≡ ps → KnowsRow c pk rk ps r.tag
known_as store c pk rk r ps tags is e = subst (λ x. KnowsRow c pk rk x r.tag) e (row_known store c pk rk r tags is)

-- the marker of an earlier migration
later_read : (store : ℕ) → 0 < store → old_phase_of store (marker_props (new_kind UseNew)) ≡ Some UseOld
later_read store up = rw (lt-ltb 0 store up) refl

pub prefer_old_props : (p : Pair) (pk : List ℕ) (r : Stored) → IsSound p → old_at p pk marker_key ≡ Some r → old_phase_of r.tag.store r.props ≡ Some PreferOld → r.props ≡ marker_props (old_kind PreferOld)
prefer_old_props p pk r s is reads = go (s.forms.0.markers pk r is).0 where
  number : r.tag.store ≡ p.old_number
  number = s.tags.0.number pk marker_key r is

  go : IsOldMarker p.old_number r.props → r.props ≡ marker_props (old_kind PreferOld)
  go (inl h) = (let same : h.0 ≡ PreferOld = one h.0 PreferOld (sym (ap (old_phase_of r.tag.store) h.1 ∙ old_read r.tag.store h.0) ∙ reads) in h.1 ∙ ap (λ f. marker_props (old_kind f)) same) where
    one : (a b : Phase) → Some a ≡ Some b → a ≡ b
    one a b e = cc
  go (inr h) = absurd (let e : Some UseOld ≡ Some PreferOld = sym (ap (old_phase_of p.old_number) h.1 ∙ later_read p.old_number h.0) ∙ ap (λ (n : ℕ). old_phase_of n r.props) (sym number) ∙ reads in no e) where
    no : Some UseOld ≡ Some PreferOld → ⊥
    no e = cc

pub filling_props : (p : Pair) (pk : List ℕ) (r : Stored) → IsSound p → new_at p pk marker_key ≡ Some r → new_phase_of r.props ≡ Some Filling → r.props ≡ marker_props (new_kind Filling)
filling_props p pk r s is reads = (let h = (s.forms.1.markers pk r is).0 in let same : h.0 ≡ Filling = one h.0 Filling (sym (ap new_phase_of h.1 ∙ new_read h.0) ∙ reads) in h.1 ∙ ap (λ f. marker_props (new_kind f)) same) where
  one : (a b : NewPhase) → Some a ≡ Some b → a ≡ b
  one a b e = cc

pub less_rows : (p : Pair) (pk : List ℕ) (part : Keys) (rows : List StoredRow) → KnowsTurned p pk part rows → KnowsTurned p pk keys.None []
less_rows p pk part rows h = record { marked = h.marked; turned = h.turned; rows = λ f rk other x. absurd x }

pub rows_to_old : (p : Pair) (retired : Bool) (copying : CopyingPart) (pass : Pass) (upto : Option (List ℕ)) (rows : List StoredRow) → Holds p retired (rows_known copying pass upto rows) → Holds p retired (old_known copying.part.pk pass)
rows_to_old p retired copying (First marker) upto rows h = h
rows_to_old p retired copying Second upto rows h = less_rows p copying.part.pk (keys.Within (past copying.done) upto []) rows h

-- ---- the walk

pub swept_on : (p : Pair) (pk : List ℕ) → KnowsSwept p (Some (start.From pk)) → (is_some (old_at p pk marker_key) ≡ true → is_use_new (new_state_at p pk) ≡ true) → KnowsSwept p (Some (start.After pk))
swept_on p pk h here = record {
  sealed = h.sealed;
  moved = λ x before there. go x (slice_cmp nat_cmp pk x) refl before there;
} where
  go : (x : List ℕ) (o : Ordering) → slice_cmp nat_cmp pk x ≡ o → is_lt (slice_cmp nat_cmp pk x) ≡ false → is_some (old_at p x marker_key) ≡ true → is_use_new (new_state_at p x) ≡ true
  go x Less e before there = absurd (let y : true ≡ false = sym (ap is_lt e) ∙ before in cc)
  go x Equal e before there = (let same : pk ≡ x = text_true pk x (texts_ties pk x ∙ ap is_eq e) in
      subst (λ k. is_use_new (new_state_at p k) ≡ true) same (here (subst (λ k. is_some (old_at p k marker_key) ≡ true) (sym same) there)))
  go x Greater e before there = h.moved x (ap is_le e) there

pub there_has : (rows : Rows) (pk : List ℕ) → is_some (row_at rows pk marker_key) ≡ true → has_partition rows pk ≡ true
there_has rows pk there = go (has_partition rows pk) refl where
  go : (b : Bool) → has_partition rows pk ≡ b → b ≡ true
  go true e = refl
  go false e = (let x : false ≡ true = sym (ap is_some (no_partition rows pk marker_key e)) ∙ there in cc)

pub swept_to : (p : Pair) (from : PkFrom) (pk : List ℕ) → KnowsSwept p (Some from) → IsNext from (Some pk) p.old.rows → KnowsSwept p (Some (start.From pk))
swept_to p from pk h next = record { sealed = h.sealed; moved = λ x before there. go x (is_past from x) refl before there } where
  go : (x : List ℕ) (b : Bool) → is_past from x ≡ b → is_le (slice_cmp nat_cmp pk x) ≡ false → is_some (old_at p x marker_key) ≡ true → is_use_new (new_state_at p x) ≡ true
  go x false e before there = h.moved x e there
  go x true e before there = absurd (let y : true ≡ false = sym (next.2 x e (there_has p.old.rows x there)) ∙ before in cc)

pub swept_all : (p : Pair) (from : PkFrom) → KnowsSwept p (Some from) → IsNext from None p.old.rows → KnowsSwept p None
swept_all p from h next = record { sealed = h.sealed; moved = λ x before there. go x (is_past from x) refl there } where
  go : (x : List ℕ) (b : Bool) → is_past from x ≡ b → is_some (old_at p x marker_key) ≡ true → is_use_new (new_state_at p x) ≡ true
  go x false e there = h.moved x e there
  go x true e there = absurd (let y : false ≡ true = sym (next x e) ∙ there_has p.old.rows x there in cc)

pub further : (p : Pair) (retired : Bool) (part : Part) → AllHold p retired (walk_facts part) → (is_some (old_at p part.pk marker_key) ≡ true → is_use_new (new_state_at p part.pk) ≡ true) → AllHold p retired (behind part.walk (start.After part.pk))
further p retired part = go part.walk where
  go : (walk : Walk) → AllHold p retired (behind walk (start.From part.pk)) → (is_some (old_at p part.pk marker_key) ≡ true → is_use_new (new_state_at p part.pk) ≡ true) → AllHold p retired (behind walk (start.After part.pk))
  go BeforeSeal know here = tt
  go AfterSeal know here = (swept_on p part.pk know.0 here, tt)

-- ---- what a read of rows tells

-- a row of old may be copied with the tag that clients see
pub may_copy : (p : Pair) (pk rk : List ℕ) (r : Stored) (t : Tag) → IsSound p → p.old_number < p.new_number → old_at p pk rk ≡ Some r → seen_tag r.props r.tag ≡ Some t → KnowsKept p pk rk t
may_copy p pk rk r t s lower is seen = record { key = key (key_cases rk); tag_is = by (seen_is r.props r.tag t seen) } where
  no_tag : (ps : List Prop) → IsOldMarker p.old_number ps → (own : Tag) → seen_tag ps own ≡ None
  no_tag ps (inl h) own = ap (λ (qs : List Prop). seen_tag qs own) h.1 ∙ one h.0 where
    one : (f : Phase) → seen_tag (marker_props (old_kind f)) own ≡ None
    one UseOld = refl
    one PreferOld = refl
    one PreferNew = refl
  no_tag ps (inr h) own = ap (λ (qs : List Prop). seen_tag qs own) h.1

  key : (rk ≡ marker_key) ⊎ (rk ≢ marker_key) → key_fault pk rk ≡ None
  key (inl same) = absurd (let x : None ≡ Some t = sym (no_tag r.props (s.forms.0.markers pk r (ap (old_at p pk) (sym same) ∙ is)).0 r.tag) ∙ seen in cc)
  key (inr other) = (s.forms.0.data_rows pk rk r other is).1

  by : (t ≡ r.tag) ⊎ (mark_of r.props ≡ Some (Copy t)) → IsKept p p.new_number t
  by (inl own) =
      let number : t.store ≡ p.old_number = ap (λ (x : Tag). x.store) own ∙ s.tags.0.number pk rk r is in
      let range = s.tags.0.range pk rk r is in
      let n : t.n ≡ r.tag.n = ap (λ (x : Tag). x.n) own in
      record { below = omega (arith, number, lower); from_one = omega (arith, range.0, n); given = λ e. omega (arith, range.1, n) }
  by (inr copy) = (let k = s.tags.2 pk rk r t is copy in record { below = (let b = k.below in omega (arith, b, lower)); from_one = k.from_one; given = k.given })

pub kept_known : (p : Pair) (retired : Bool) (pk : List ℕ) (rows : List StoredRow) → IsSound p → p.old_number < p.new_number → AllByRecursion (IsRowOf p.old.rows pk) rows → AllHold p retired (kept_facts pk rows)
kept_known p retired pk [] s lower h = tt
kept_known p retired pk (r ∷ rows) s lower h = go (seen_tag r.props r.tag) refl (kept_known p retired pk rows s lower h.1) where
  go : (o : Option Tag) → seen_tag r.props r.tag ≡ o → AllHold p retired (kept_facts pk rows) → AllHold p retired (kept_fact pk r.rk o (kept_facts pk rows))
  go None e rest = rest
  go (Some t) e rest = (may_copy p pk r.rk h.0.row t s lower h.0.there (ap (λ (ps : List Prop). seen_tag ps h.0.row.tag) h.0.props ∙ ap (seen_tag r.props) h.0.tag ∙ e), rest)

pub entries_known : (p : Pair) (retired : Bool) (pk : List ℕ) (rows : List StoredRow) → IsSound p → AllByRecursion (IsRowOf p.new.rows pk) rows → AllHold p retired (row_facts New pk rows)
entries_known p retired pk [] s h = tt
entries_known p retired pk (r ∷ rows) s h = (
  subst (λ t. KnowsRow p.new pk r.rk r.props t) h.0.tag (known_as p.new_number p.new pk r.rk h.0.row r.props s.tags.1 h.0.there h.0.props),
  entries_known p retired pk rows s h.1,
)

pub kept_row_at : (p : Pair) (retired : Bool) (pk : List ℕ) (rows : List StoredRow) → AllHold p retired (kept_facts pk rows) → (rk : List ℕ) → KeptRow p pk rk (row_in rows rk)
kept_row_at p retired pk [] h rk = tt
kept_row_at p retired pk (r ∷ rows) h rk = go (λ x. kept_row_at p retired pk rows x rk) (seen_tag r.props r.tag) refl h where
  at : (AllHold p retired (kept_facts pk rows) → KeptRow p pk rk (row_in rows rk)) → (o : Option Tag) → seen_tag r.props r.tag ≡ o → IfSome o (λ t. KnowsKept p pk r.rk t) → AllHold p retired (kept_facts pk rows)
      → (b : Bool) → bytes_eq rk r.rk ≡ b → KeptRow p pk rk (cond b (Some r) (row_in rows rk))
  at more o e one rest true same = subst (λ x. IfSome x (λ t. KnowsKept p pk rk t)) (sym e) (subst (λ k. IfSome o (λ t. KnowsKept p pk k t)) (sym (text_true rk r.rk same)) one)
  at more o e one rest false same = more rest

  go : (AllHold p retired (kept_facts pk rows) → KeptRow p pk rk (row_in rows rk)) → (o : Option Tag) → seen_tag r.props r.tag ≡ o → AllHold p retired (kept_fact pk r.rk o (kept_facts pk rows)) → KeptRow p pk rk (row_in (r ∷ rows) rk)
  go more None e h = at more None e tt h (bytes_eq rk r.rk) refl
  go more (Some t) e h = at more (Some t) e h.0 h.1 (bytes_eq rk r.rk) refl

pub known_at : (p : Pair) (retired : Bool) (pk : List ℕ) (rows : List StoredRow) → AllHold p retired (row_facts New pk rows) → (rk : List ℕ) → KnownEntry p pk rk (row_in rows rk)
known_at p retired pk [] h rk = tt
known_at p retired pk (r ∷ rows) h rk = go (known_at p retired pk rows h.1 rk) (bytes_eq rk r.rk) refl where
  go : KnownEntry p pk rk (row_in rows rk) → (b : Bool) → bytes_eq rk r.rk ≡ b → KnownEntry p pk rk (cond b (Some r) (row_in rows rk))
  go rest true same = subst (λ k. KnowsRow p.new pk k r.props r.tag) (sym (text_true rk r.rk same)) h.0
  go rest false same = rest

-- up to its end a reading has the rows of its range
pub reading_is : (rows : Rows) (pk : List ℕ) (done upto : Option (List ℕ)) (found : Found) (rk : List ℕ) → are_rising rows ≡ true → found.rows ≡ take 50 (rows_within rows pk (next_rows done upto)) → found.more ≡ nat_lt 50 (length (rows_within rows pk (next_rows done upto)))
    → is_from (past done) rk ≡ true → is_upto upto rk ≡ true → is_upto (end_of (reading_of found)) rk ≡ true → option_map (shown rk) (row_at rows pk rk) ≡ row_in found.rows rk
reading_is rows pk done upto found rk rise is more from within end =
    let all = rows_within rows pk (next_rows done upto) in
    let ended : is_upto (end_of (record { rows = take 50 all; more = nat_lt 50 (length all) })) rk ≡ true =
    ap (λ (x : List StoredRow). is_upto (end_of (record { rows = x; more = nat_lt 50 (length all) })) rk) (sym is) ∙ ap (λ (b : Bool). is_upto (end_of (record { rows = found.rows; more = b })) rk) (sym more) ∙ end in
    sym (in_whole rows pk (next_rows done upto) rk (ap (λ b. b && is_upto upto rk) from ∙ within))
    ∙ sym (up_to_end 50 all rk (omega arith) (rising_within rows pk (next_rows done upto) rise) ended)
    ∙ ap (λ l. row_in l rk) (sym is)

pub lesser_left : (a b : Option (List ℕ)) (rk : List ℕ) → is_upto (lesser a b) rk ≡ true → is_upto a rk ≡ true
lesser_left None b rk h = refl
lesser_left (Some a) None rk h = h
lesser_left (Some a) (Some b) rk h = go (is_le (slice_cmp nat_cmp a b)) refl h where
  go : (x : Bool) → is_le (slice_cmp nat_cmp a b) ≡ x → is_upto (cond x (Some a) (Some b)) rk ≡ true → is_le (slice_cmp nat_cmp rk a) ≡ true
  go true e h = h
  go false e h = le_trans rk b a h (ap is_le (not_le a b e))

pub lesser_right : (a b : Option (List ℕ)) (rk : List ℕ) → is_upto (lesser a b) rk ≡ true → is_upto b rk ≡ true
lesser_right None b rk h = h
lesser_right (Some a) None rk h = refl
lesser_right (Some a) (Some b) rk h = go (is_le (slice_cmp nat_cmp a b)) refl h where
  go : (x : Bool) → is_le (slice_cmp nat_cmp a b) ≡ x → is_upto (cond x (Some a) (Some b)) rk ≡ true → is_le (slice_cmp nat_cmp rk b) ≡ true
  go true e h = le_trans rk a b h e
  go false e h = h
