-- One entry more: the history stays legal, and what it makes of the table.
use Rattle.std.proofs.Common.{◌≡◌, ◌∙◌, ◌⊎◌, ℕ, ◌+◌, ◌-◌, ◌^◌, ◌≤◌, ◌<◌, Bool, true, false, List, [], ◌∷◌, ◌++◌, refl, sym, ap, subst, arith, inl, inr, All, Contains, Option, Some, None, if◌then◌else◌}
use Rattle.std.specs.Prelude.{nat_le, option_map, MatchOption, IsSome}
use Rattle.std.specs.List.{zip, last_or}
use Rattle.std.proofs.lemmas.Bool.Decides.{nat_tests}
use Rattle.std.proofs.lemmas.List.{append-nil}
use Rattle.std.proofs.lemmas.List.Elements.{All-append}
use Rattle.std.proofs.lemmas.List.Concat.{flat_map-append}
use Rattle.mt_model.specs.declared.key.Key.{Key}
use Rattle.mt_model.specs.declared.tag.Tag.{Tag}
use Rattle.mt_filter.specs.declared.filter.Filter.{Filter}
use Rattle.mt_chain.specs.declared.op.Op.{Op}
use Rattle.mt_chain.specs.Table.{Table, IsSameTable, table_of, rows_of}
use Rattle.mt_chain.specs.Batch.{refusal_of, batch_applied, op_at, row_after, Tagged}
use Rattle.mt_chain.specs.StoreCall.{IsContents}
use Rattle.mt_chain.specs.Store.{Rose}
use Rattle.mt_chain.proofs.Theorems.{same_refusal}
use Rattle.mt_history.specs.declared.entry.What.{What}
use Rattle.mt_history.specs.declared.entry.What.TheVariants as what
use Rattle.mt_history.specs.declared.entry.Entry.{Entry}
use Rattle.mt_history.specs.declared.model.Reply.{Reply}
use Rattle.mt_history.specs.Window.{after_entry, table_at_end, with_one}
use Rattle.mt_history.specs.Replies.{Replies, ShowsRows, refusal_reply, selected, kept_if, is_matched}
use Rattle.mt_history.specs.Legal.{IsLegal, IsNextNumber, IsTrueAtEnd, IsGone, IsGap, HasTag, numbers_of, entry_tags, all_tags}
use Rattle.mt_history.proofs.WindowLaws.{replays_join, legal_grows}
use Rattle.mt_meta.specs.Logical.{Pair}
use Rattle.mt_meta.specs.declared.fact.Fact.{Fact}
use Rattle.mt_meta.specs.Facts.{Grows}
use Rattle.mt_meta.specs.Steps.{logical_table, IsGiven, ActorStep}
use Rattle.mt_meta.proofs.Actors.{retired_on, given_on, fresh_given, not_given}
use Rattle.mt_batch_plan.specs.BatchSteps.{IsWritten}
use Rattle.mt_world.specs.Worlds.{WorldState, IsReplayed, window_of, table_now, next_number, number_due, after_last, entry_of}
use Rattle.mt_world.specs.Logs.{entries_with}
use Rattle.mt_world.specs.Moves.{NewEntry}
use Rattle.mt_world.specs.Turns.{IsSameWorld}

-- ---- numbers

pub next_is : (w : WorldState) (caller : ℕ) (said : What) → ((q : ℕ) → next_number w.numbers q ≡ number_due w.history.entries q) → IsNextNumber (window_of w) (entry_of w.numbers caller said)
next_is w caller said due = by (last_or None (numbers_of caller w.history.entries)) (due caller) where
  by : (o : Option ℕ) → next_number w.numbers caller ≡ after_last o → MatchOption o (w.history.first ≡ 0 → next_number w.numbers caller ≡ 0) (λ last. next_number w.numbers caller ≡ last + 1)
  by None e = λ whole. e
  by (Some n) e = e

-- ---- windows

pub window_stays : (w w' : WorldState) → IsSameWorld w w' → w'.history.entries ≡ w.history.entries → window_of w' ≡ window_of w
window_stays w w' same entries i = record { first = same.first i; base = table_of (rows_of (same.base i)); entries = entries i }

pub window_grows : (w w' : WorldState) (e : Entry) → IsSameWorld w w' → w'.history.entries ≡ w.history.entries ++ e ∷ [] → window_of w' ≡ with_one (window_of w) e
window_grows w w' e same entries i = record { first = same.first i; base = table_of (rows_of (same.base i)); entries = entries i }

pub table_grows : (w w' : WorldState) (e : Entry) → IsSameWorld w w' → w'.history.entries ≡ w.history.entries ++ e ∷ [] → table_now w' ≡ after_entry (table_now w) e.what
table_grows w w' e same entries = ap table_at_end (window_grows w w' e same entries) ∙ replays_join (table_of (rows_of w.base)) w.history.entries (e ∷ [])

pub tags_grow : (xs : List Entry) (e : Entry) → all_tags (xs ++ e ∷ []) ≡ all_tags xs ++ entry_tags e.what
tags_grow xs e = flat_map-append (λ (x : Entry). entry_tags x.what) xs (e ∷ []) ∙ ap (λ tags. all_tags xs ++ tags) (append-nil (entry_tags e.what))

-- ---- tables that are the same

pub refusal_same : (ops : List Op) (t u : Table) → IsSameTable t u → refusal_of ops t ≡ refusal_of ops u
refusal_same ops t u same = same_refusal ops t u (λ k d l. same _)

pub applied_same : (ops : List Op) (tags : List Tag) (t u : Table) → IsSameTable t u → IsSameTable (batch_applied ops tags t) (batch_applied ops tags u)
applied_same ops tags t u same key = ap (row_after (op_at (zip ops tags) key)) (same key)

pub gone_same : (t u : Table) (os : List Tagged) → IsSameTable t u → All (IsGone t) os → All (IsGone u) os
gone_same t u os same gone k d l = λ w. ap (λ o. option_map (λ row. row.tag) o) (sym (same _)) ∙ gone k d l w

selected_same : (region : Key → Bool) (filter : Option Filter) (t u : Table) → IsSameTable t u → IsSameTable (selected region filter t) (selected region filter u)
selected_same region filter t u same key = ap (λ row. if region key then kept_if (λ r. is_matched filter key r.props) row else None) (same key)

shows_same : (r : Reply) (t u : Table) → IsSameTable t u → ShowsRows r t → ShowsRows r u
shows_same r t u same h = (h.0, h.1, record { rising = h.2.rising; rows = λ key. h.2.rows key ∙ same key })

pub replies_same : (said : What) (t u : Table) (r : Reply) → IsSameTable t u → Replies said t r → Replies said u r
replies_same (what.Batch batch tags) t u r same h = h
replies_same (what.Refused batch) t u r same h = h ∙ ap refusal_reply (refusal_same batch t u same)
replies_same (what.Query pk filter) t u r same h = shows_same r _ _ (selected_same _ filter t u same) h
replies_same (what.Scan pk from upto filter) t u r same h = shows_same r _ _ (selected_same _ filter t u same) h
replies_same (what.Gap from to) t u r same h = h
replies_same what.Fault t u r same h = h

-- ---- what an entry says of the pair before a step and after it

-- clients see the same
abbrev pub Still : Pair → Pair → Type 0
Still p q = IsSameTable (logical_table q) (logical_table p)

abbrev pub SaysOf : What → Pair → Pair → Type 0
SaysOf (what.Batch ops tags) p q = IsWritten ops tags p q
SaysOf (what.Refused ops) p q = Still p q × IsSome (refusal_of ops (logical_table p))
SaysOf (what.Query pk filter) p q = Still p q
SaysOf (what.Scan pk from upto filter) p q = Still p q
SaysOf (what.Gap from to) p q = Still p q × IsGap from to (logical_table p)
SaysOf what.Fault p q = Still p q

-- what every actor's step does: without an entry clients see the same; an entry is true, and its reply is the table's
abbrev pub EntryDoes : Option NewEntry → Pair → Pair → Type 0
EntryDoes None p q = Still p q
EntryDoes (Some e) p q = SaysOf e.what p q × Replies e.what (logical_table p) e.reply

in_all : (P : Tag → Type 0) (xs : List Tag) (x : Tag) → All P xs → Contains xs x → P x
in_all P xs x all has = subst P has.2 (all has.0 x has.1)

pub no_tags : (P : Tag → Type 0) → All P []
no_tags P k d l = absurd (omega arith)

-- what the entry says is true at the end of the history
pub says_true : (w : WorldState) (said : What) (p q : Pair) → p.old_number < p.new_number → IsReplayed w p → SaysOf said p q → IsTrueAtEnd (window_of w) said
says_true w (what.Batch ops tags) p q below h does = record {
  accepted = sym (refusal_same ops (logical_table p) (table_now w) h.table) ∙ does.accepted;
  each = does.each;
  apart = does.apart;
  fresh = λ k d l. record {
    base = λ has. not_given p q _ below (does.fresh k d l) (h.given_before _ has);
    entries = λ has. not_given p q _ below (does.fresh k d l) (in_all (IsGiven p) (all_tags w.history.entries) _ h.given_since has);
  };
  gone = gone_same (logical_table p) (table_now w) (zip ops tags) h.table does.gone;
}
says_true w (what.Refused ops) p q below h does = subst IsSome (refusal_same ops (logical_table p) (table_now w) h.table) does.1
says_true w (what.Query pk filter) p q below h does = tt
says_true w (what.Scan pk from upto filter) p q below h does = tt
says_true w (what.Gap from to) p q below h does = λ key within. sym (h.table key) ∙ does.1 key within
says_true w what.Fault p q below h does = tt

-- the table afterwards is what the entry makes of the one before
says_table : (w : WorldState) (said : What) (p q : Pair) → IsReplayed w p → SaysOf said p q → IsSameTable (logical_table q) (after_entry (table_now w) said)
says_table w (what.Batch ops tags) p q h does key = does.table key ∙ applied_same ops tags (logical_table p) (table_now w) h.table key
says_table w (what.Refused ops) p q h does key = does.0 key ∙ h.table key
says_table w (what.Query pk filter) p q h does key = does key ∙ h.table key
says_table w (what.Scan pk from upto filter) p q h does key = does key ∙ h.table key
says_table w (what.Gap from to) p q h does key = does.0 key ∙ h.table key
says_table w what.Fault p q h does key = does key ∙ h.table key

-- and its tags were given
says_given : (said : What) (own : List Fact) (p q : Pair) → Grows own p q → SaysOf said p q → All (IsGiven q) (entry_tags said)
says_given (what.Batch ops tags) own p q grows does = λ k d l. fresh_given own p q _ grows (does.fresh k d l)
says_given (what.Refused ops) own p q grows does = no_tags (IsGiven q)
says_given (what.Query pk filter) own p q grows does = no_tags (IsGiven q)
says_given (what.Scan pk from upto filter) own p q grows does = no_tags (IsGiven q)
says_given (what.Gap from to) own p q grows does = no_tags (IsGiven q)
says_given what.Fault own p q grows does = no_tags (IsGiven q)

-- ---- the history over a pair that is told, after a step

-- a step of an actor that leaves this entry, or none, over what the history says
pub record IsStepped (w w' : WorldState) (own own' : List Fact) (p q : Pair) (entry : Option NewEntry) : Type 0 where
  pub same : IsSameWorld w w'
  pub below : p.old_number < p.new_number
  pub due : (caller : ℕ) → next_number w.numbers caller ≡ number_due w.history.entries caller
  pub contents : IsContents q.old × IsContents q.new
  pub step : ActorStep own own' w.retired w'.retired (EntryDoes entry) p q

pub replay_on : (w w' : WorldState) (caller : ℕ) (own own' : List Fact) (p q : Pair) (entry : Option NewEntry) → w'.history.entries ≡ entries_with w.history.entries w.numbers caller entry → IsReplayed w p → IsStepped w w' own own' p q entry → IsReplayed w' q
replay_on w w' caller own own' p q None entries h s = record {
  sound = s.step.sound;
  contents = s.contents;
  legal = subst IsLegal (sym (window_stays w w' s.same entries)) h.legal;
  table = subst (λ x. IsSameTable (logical_table q) (table_at_end x)) (sym (window_stays w w' s.same entries)) (λ key. s.step.does key ∙ h.table key);
  given_before = subst (λ base. (tag : Tag) → HasTag (table_of (rows_of base)) tag → IsGiven q tag) (sym s.same.base) (λ tag has. given_on own p q tag s.step.grows (h.given_before tag has));
  given_since = subst (λ es. All (IsGiven q) (all_tags es)) (sym entries) (λ k d l. given_on own p q _ s.step.grows (h.given_since k d l));
  retired = retired_on own own' w.retired w'.retired (EntryDoes None) p q s.step h.retired;
}
replay_on w w' caller own own' p q (Some x) entries h s =
    let e = entry_of w.numbers caller x.what in
    record {
      sound = s.step.sound;
      contents = s.contents;
      legal = subst IsLegal (sym (window_grows w w' e s.same entries)) (legal_grows (window_of w) e h.legal (record { says = says_true w x.what p q s.below h s.step.does.0; number = next_is w caller x.what s.due }));
      table = subst (IsSameTable (logical_table q)) (sym (table_grows w w' e s.same entries)) (says_table w x.what p q h s.step.does.0);
      given_before = subst (λ base. (tag : Tag) → HasTag (table_of (rows_of base)) tag → IsGiven q tag) (sym s.same.base) (λ tag has. given_on own p q tag s.step.grows (h.given_before tag has));
      given_since = subst (λ es. All (IsGiven q) (all_tags es)) (sym entries)
          (subst (All (IsGiven q)) (sym (tags_grow w.history.entries e)) (All-append (IsGiven q) (all_tags w.history.entries) (entry_tags x.what) (λ k d l. given_on own p q _ s.step.grows (h.given_since k d l)) (says_given x.what own p q s.step.grows s.step.does.0)));
      retired = retired_on own own' w.retired w'.retired (EntryDoes (Some x)) p q s.step h.retired;
    }

-- ---- counts of faults

-- the counts go on where no entry of a fault comes
pub counts_on : (o f s t s' t' : ℕ) → s ≤ s' → t ≤ t' → (o + f ≤ s + t) ⊎ ((2 ^ 64 - 1 ≤ s) ⊎ (2 ^ 64 - 1 ≤ t)) → (o + f ≤ s' + t') ⊎ ((2 ^ 64 - 1 ≤ s') ⊎ (2 ^ 64 - 1 ≤ t'))
counts_on o f s t s' t' le le' h = elim h as (λ _. (o + f ≤ s' + t') ⊎ ((2 ^ 64 - 1 ≤ s') ⊎ (2 ^ 64 - 1 ≤ t'))) [
  | inl few ↦ inl (omega (arith, few, le, le'))
  | inr at_end ↦ inr (elim at_end as (λ _. (2 ^ 64 - 1 ≤ s') ⊎ (2 ^ 64 - 1 ≤ t')) [ inl x ↦ inl (omega (arith, x, le)) | inr x ↦ inr (omega (arith, x, le')) ])
]

rose_or_end : (s s' : ℕ) → Rose s s' → (s + 1 ≤ s') ⊎ (2 ^ 64 - 1 ≤ s')
rose_or_end s s' rose = by (nat_le (s + 1) (2 ^ 64 - 1)) refl where
  by : (x : Bool) → nat_le (s + 1) (2 ^ 64 - 1) ≡ x → (s + 1 ≤ s') ⊎ (2 ^ 64 - 1 ≤ s')
  by true e = (let le : s + 1 ≤ 2 ^ 64 - 1 = grind (arith, nat_tests) in inl (omega (arith, rose, le)))
  by false e = (let gt : 2 ^ 64 - 1 ≤ s = grind (arith, nat_tests) in inr (omega (arith, rose, gt)))

-- and where one comes and a count rose
pub counts_rise : (o f f' s t s' t' : ℕ) → s ≤ s' → t ≤ t' → f' ≤ f + 1 → Rose s s' ⊎ Rose t t' → (o + f ≤ s + t) ⊎ ((2 ^ 64 - 1 ≤ s) ⊎ (2 ^ 64 - 1 ≤ t)) → (o + f' ≤ s' + t') ⊎ ((2 ^ 64 - 1 ≤ s') ⊎ (2 ^ 64 - 1 ≤ t'))
counts_rise o f f' s t s' t' le le' one rose (inr (inl x)) = inr (inl (omega (arith, x, le)))
counts_rise o f f' s t s' t' le le' one rose (inr (inr x)) = inr (inr (omega (arith, x, le')))
counts_rise o f f' s t s' t' le le' one (inl rose) (inl few) = elim (rose_or_end s s' rose) as (λ _. (o + f' ≤ s' + t') ⊎ ((2 ^ 64 - 1 ≤ s') ⊎ (2 ^ 64 - 1 ≤ t'))) [
  | inl more ↦ inl (omega (arith, few, one, more, le'))
  | inr at_end ↦ inr (inl at_end)
]
counts_rise o f f' s t s' t' le le' one (inr rose) (inl few) = elim (rose_or_end t t' rose) as (λ _. (o + f' ≤ s' + t') ⊎ ((2 ^ 64 - 1 ≤ s') ⊎ (2 ^ 64 - 1 ≤ t'))) [
  | inl more ↦ inl (omega (arith, few, one, more, le))
  | inr at_end ↦ inr (inr at_end)
]
