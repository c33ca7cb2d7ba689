-- How the turns of a session add up.
use Rattle.std.proofs.Common.{◌≡◌, ℕ, ◌+◌, ◌-◌, ◌≤◌, true, false, List, [], ◌∷◌, ◌++◌, length, Option, Some, None, Ok, Err, refl, sym, ap, ◌∙◌, arith, subst, append_assoc, append-nil, length-append, inl, inr}
use Rattle.std.specs.Prelude.{Result, Bool, IfSome, ◌⊎◌}
use Rattle.std.proofs.lemmas.List.Elements.{All-nil, All-cons, All-append}
use Rattle.httparse.specs.Grammar.{print_request}
use Rattle.mt_io.specs.declared.IoFault.{IoFault}
use Rattle.mt_io.specs.Ends.{Input, Output, Rose, Sends, before_known}
use Rattle.mt_io.proofs.Pieces.{before_nothing, after_nothing}
use Rattle.mt_http_in.specs.Reading.{ahead, Later, Spent, Failed}
use Rattle.mt_http_in.specs.Requests.{continue_of, BrokeIn, BrokeOut}
use Rattle.mt_http_in.proofs.FillLaws.{later_then, spent_then, failed_then, ended_then}
use Rattle.mt_history.specs.declared.entry.Entry.{Entry}
use Rattle.mt_world.specs.Worlds.{WorldState, Tells}
use Rattle.mt_world.specs.WholeCalls.{Mark}
use Rattle.mt_front.specs.declared.connection.End.{End}
use Rattle.mt_front.specs.declared.connection.End.TheVariants.{Input as AtEnd, Closed, BadInput}
use Rattle.mt_front.specs.declared.connection.Served.{Served}
use Rattle.mt_front.specs.declared.connection.ConnFault.{ConnFault}
use Rattle.mt_front.specs.declared.connection.ConnFault.TheVariants.{ReadFault, WriteFault, NoMemory}
use Rattle.mt_front.specs.declared.connection.Turn.TheVariants.{Answered, Ended}
use Rattle.mt_http_out.specs.Rendering.{bytes_of}
use Rattle.mt_front.specs.Refusals.{memory_reply}
use Rattle.mt_front.specs.Asks.{WholeAsks, request_by}
use Rattle.mt_front.specs.Items.{Item, IsRendered, AllKeep, LastCloses}
use Rattle.mt_front.specs.Answers.{FitsFrom, BreaksOff, IsCaused, past_end}
use Rattle.mt_front.specs.Spells.{SpellsAll}
use Rattle.mt_front.specs.Session.{Sent, Cut, past_of, counts_of, Added, Talk, Ran, Course, IsCourse, IsRefused, MayBreak, AtNoMemory, SessionAs, Serves}
use Rattle.mt_front.specs.Turns.{BrokeOff, CameOut, OneMore, IsRefusal, SessionTurn, AtWant, ConversesAs, Converses, served_of}
use Rattle.mt_front.proofs.FitLaws.{grown, fits_sooner, fits_join}
use Rattle.mt_front.proofs.MarkLaws.{same_self, same_then, told_self, told_then, tells_before, past_grown}
use Rattle.mt_front.proofs.CameLaws.{added_self, fits_none}
use Rattle.mt_front.proofs.CauseLaws.{caused_more, caused_all, caused_whole}
use Rattle.mt_front.specs.declared.machines.Machines.{Machines}
use Rattle.mt_front.specs.Machines.{all_begun, IsHeld, ItemsDo}
use Rattle.mt_front.specs.Migration.{Migrates}
use Rattle.mt_front.proofs.MachineLaws.{forward_self, same_forward, items_more, begun_held}
use Rattle.mt_front.proofs.MigrationLaws.{ran_to, ran_migrates, items_held}
use Rattle.mt_front.proofs.SpellLaws.{spells_more}
use Rattle.mt_front.proofs.TurnLaws.{sent_after, cut_after}

-- ---- a talk begins, goes on, and stays

talk_start : (c : ℕ) (w : WorldState) → Talk c w [] [] w
talk_start c w = record {
  answered = record { rendered = All-nil IsRendered; fits = fits_none c (Tells w) (past_of w) };
  same = same_self w;
  told = told_self w;
  added = added_self c w;
  caused = caused_all (counts_of w) (counts_of w) [] refl;
}

module _ (c : ℕ) (u w w' : WorldState) (items : List Item) (talk : Talk c u items [] w) where
  began : past_end (past_of u) ≤ past_end (past_of w)
  began =
      let l : length w.history.entries ≡ length u.history.entries + length talk.added.more = ap length talk.added.grew ∙ length-append u.history.entries talk.added.more in
      omega (arith, l, talk.same.first)

  added_then : Added c w w' → Added c u w'
  added_then a = record {
    more = talk.added.more ++ a.more;
    grew = a.grew ∙ ap (λ (l : List Entry). l ++ a.more) talk.added.grew ∙ append_assoc u.history.entries talk.added.more a.more;
    own = All-append (λ (e : Entry). e.caller ≡ c) talk.added.more a.more talk.added.own a.own;
  }

  pub talk_more : (i : Item) → CameOut c w i w' → IsCaused (counts_of w) i (counts_of w') → Added c w w' → IsRendered i → Talk c u (items ++ i ∷ []) [] w'
  talk_more i came cause added rendered = record {
    answered = record {
      rendered = All-append IsRendered items (i ∷ []) talk.answered.rendered (All-cons IsRendered i [] rendered (All-nil IsRendered));
      fits = subst (λ p. FitsFrom c (Tells w') p (past_end (past_of u)) (items ++ i ∷ []) []) (sym (past_grown w w' added.more came.same added.grew))
          (fits_join c (Tells w') (past_of w) added.more (past_end (past_of u)) items (i ∷ []) [] began
          (fits_sooner c (Tells w) (Tells w') (tells_before w w' came.told) (past_of w) (past_end (past_of u)) items [] talk.answered.fits)
          (subst (λ p. FitsFrom c (Tells w') p (past_end (past_of w)) (i ∷ []) []) (past_grown w w' added.more came.same added.grew) came.fits));
    };
    same = same_then u w w' talk.same came.same;
    told = told_then u w w' talk.told came.told;
    added = added_then added;
    caused = caused_all (counts_of u) (counts_of w') (items ++ i ∷ []) (caused_more (counts_of u) (counts_of w) (counts_of w') items i (caused_whole (counts_of u) (counts_of w) items talk.caused) cause);
  }

  -- an item broke off behind them
  pub talk_breaks : (broken : List Mark) → BrokeOff c w broken w' → Talk c u items broken w'
  talk_breaks broken b = record {
    answered = record {
      rendered = talk.answered.rendered;
      fits = subst (λ p. FitsFrom c (Tells w') p (past_end (past_of u)) items broken) (sym (past_grown w w' b.added.more b.same b.added.grew))
          (subst (λ (l : List Item). FitsFrom c (Tells w') (grown (past_of w) b.added.more) (past_end (past_of u)) l broken) (append-nil items)
          (fits_join c (Tells w') (past_of w) b.added.more (past_end (past_of u)) items [] broken began
          (fits_sooner c (Tells w) (Tells w') (tells_before w w' b.told) (past_of w) (past_end (past_of u)) items [] talk.answered.fits)
          (subst (λ p. BreaksOff c (Tells w') p (past_end (past_of w)) broken) (past_grown w w' b.added.more b.same b.added.grew) b.breaks)));
    };
    same = same_then u w w' talk.same b.same;
    told = told_then u w w' talk.told b.told;
    added = added_then b.added;
    caused = record { at = counts_of w; items_are = caused_whole (counts_of u) (counts_of w) items talk.caused; later = b.later; still = b.still };
  }

-- ---- the turns of a session

-- so far: these items were answered, and their replies written; the connection goes on
pub record On (c : ℕ) (table : List ℕ) (s : Input) (o : Output) (u : WorldState) (count : ℕ) (kept : List ℕ) (t : Input) (x : Output) (w : WorldState) (ms : Machines) : Type 0 where
  pub items : List Item
  pub read : List ℕ
  pub written : List ℕ
  pub spelled : SpellsAll table items read written
  pub spent : Spent [] s read kept t
  pub talk : Talk c u items [] w
  pub did : ItemsDo c u all_begun items w ms
  pub sent : Sent o written x
  pub keep : AllKeep items
  pub count_is : count ≡ length items
  pub later : Later s t
  pub faults_out : o.faults ≤ x.faults

spent_start : (kept : List ℕ) (s : Input) → kept ≡ [] → Spent [] s [] kept s
spent_start kept s e = record {
  same = sym (before_nothing (ahead kept s) ∙ ap (λ b. ahead b s) e);
  within = omega arith;
  paid = omega arith;
}

pub on_start : (c : ℕ) (table kept : List ℕ) (s : Input) (o : Output) (u : WorldState) → kept ≡ [] → On c table s o u 0 kept s o u all_begun
on_start c table kept s o u e = record {
  items = [];
  read = [];
  written = [];
  spelled = (refl, refl);
  spent = spent_start kept s e;
  talk = talk_start c u;
  did = (refl, refl);
  sent = sym (after_nothing o.held);
  keep = All-nil (λ (i : Item). i.keep ≡ true);
  count_is = refl;
  later = record { number = refl; calls = omega arith; faults = omega arith };
  faults_out = omega arith;
}

last_empty : (a b : List ℕ) → a ++ b ≡ [] → b ≡ []
last_empty [] b e = e
last_empty (x ∷ a) b e = absurd (omega (arith, ap length e))

nothing_left : (kept : List ℕ) (left : Option (List ℕ)) → IfSome (before_known kept left) (λ all. all ≡ []) → IfSome left (λ all. all ≡ [])
nothing_left kept None e = tt
nothing_left kept (Some all) e = last_empty kept all e

-- without memory for a reader nothing began
pub never_began : (c : ℕ) (table : List ℕ) (s : Input) (o : Output) (u : WorldState) → Converses c table u s o (Err NoMemory) u s o
never_began c table s o u = record {
  course = record { items = []; broken = []; read = []; written = []; left = s.left };
  is_course = record { spelled = (refl, refl); read_is = sym (before_nothing s.left) };
  talk = talk_start c u;
  ran = ran_to c u u u all_begun [] (refl, refl) (forward_self u);
  migrates = ran_migrates c u u u all_begun [] (refl, refl) (forward_self u);
  breaks = tt;
  ends = record { said = []; spoken = inl refl; keep = All-nil (λ (i : Item). i.keep ≡ true); sent = sym (after_nothing o.held) };
  faults = omega arith;
  faults_out = omega arith;
}

module _ (c : ℕ) (table : List ℕ) (s : Input) (o : Output) (u : WorldState) (count : ℕ) (kept : List ℕ) (t : Input) (x : Output) (w : WorldState) (ms : Machines) (kept' : List ℕ) (t' : Input) (x' : Output) (w' : WorldState) (ms' : Machines)
    (on : On c table s o u count kept t x w ms) where
  -- ---- one request more

  abbrev pub item_of : (keep : Bool) (r : Result (Unit {0}) ConnFault) → OneMore c table kept t x w ms keep r kept' t' x' w' ms' → Item
  item_of keep r m = m.answering.item

  abbrev pub owed_for : (keep : Bool) (r : Result (Unit {0}) ConnFault) → OneMore c table kept t x w ms keep r kept' t' x' w' ms' → List ℕ
  owed_for keep r m = continue_of m.head ++ m.answering.item.reply

  abbrev pub course_more : (keep : Bool) (r : Result (Unit {0}) ConnFault) → OneMore c table kept t x w ms keep r kept' t' x' w' ms' → Course
  course_more keep r m = record { items = on.items ++ item_of keep r m ∷ []; broken = []; read = on.read ++ m.got.bytes; written = on.written ++ owed_for keep r m; left = ahead kept' t' }

  spelled_more : (keep : Bool) (r : Result (Unit {0}) ConnFault) (m : OneMore c table kept t x w ms keep r kept' t' x' w' ms')
      → SpellsAll table (on.items ++ item_of keep r m ∷ []) (on.read ++ m.got.bytes) (on.written ++ owed_for keep r m)
  spelled_more keep r m = spells_more table on.items (item_of keep r m) on.read on.written m.got.bytes (owed_for keep r m) on.spelled (record {
    head = m.head;
    body = m.body;
    whole = m.got.whole;
    is_asked = subst (WholeAsks table (request_by m.head m.body)) (sym m.answering.is_asked) m.is_asked;
    keep_is = m.answering.keep_is ∙ m.keep_is;
    written_is = refl;
  })

  spent_more : (keep : Bool) (r : Result (Unit {0}) ConnFault) (m : OneMore c table kept t x w ms keep r kept' t' x' w' ms') → Spent [] s (on.read ++ m.got.bytes) kept' t'
  spent_more keep r m = spent_then [] s on.read kept t m.got.bytes kept' t' on.spent m.got.spent

  known_of : (read : List ℕ) (b : List ℕ) (v : Input) → Spent [] s read b v → s.left ≡ before_known read (ahead b v)
  known_of read b v spent = sym (before_nothing s.left) ∙ spent.same

  is_course_more : (keep : Bool) (r : Result (Unit {0}) ConnFault) (m : OneMore c table kept t x w ms keep r kept' t' x' w' ms') → IsCourse table s (course_more keep r m)
  is_course_more keep r m = record { spelled = spelled_more keep r m; read_is = known_of (on.read ++ m.got.bytes) kept' t' (spent_more keep r m) }

  talk_made : (keep : Bool) (r : Result (Unit {0}) ConnFault) (m : OneMore c table kept t x w ms keep r kept' t' x' w' ms') → Talk c u (on.items ++ item_of keep r m ∷ []) [] w'
  talk_made keep r m = let a = m.answering in talk_more c u w w' on.items on.talk a.item a.came a.caused a.added a.rendered

  did_more : (keep : Bool) (r : Result (Unit {0}) ConnFault) (m : OneMore c table kept t x w ms keep r kept' t' x' w' ms') → ItemsDo c u all_begun (on.items ++ item_of keep r m ∷ []) w' ms'
  did_more keep r m = items_more c u w w' all_begun ms ms' on.items m.answering.item on.did m.answering.did

  ran_more : (keep : Bool) (r : Result (Unit {0}) ConnFault) (m : OneMore c table kept t x w ms keep r kept' t' x' w' ms') → Ran c u (on.items ++ item_of keep r m ∷ []) w'
  ran_more keep r m = ran_to c u w' w' ms' (on.items ++ item_of keep r m ∷ []) (did_more keep r m) (forward_self w')

  migrates_more : (keep : Bool) (r : Result (Unit {0}) ConnFault) (m : OneMore c table kept t x w ms keep r kept' t' x' w' ms') → Migrates u (on.items ++ item_of keep r m ∷ []) w'
  migrates_more keep r m = ran_migrates c u w' w' ms' (on.items ++ item_of keep r m ∷ []) (did_more keep r m) (forward_self w')

  sent_more : (keep : Bool) (m : OneMore c table kept t x w ms keep (Ok tt) kept' t' x' w' ms') → Sent o (on.written ++ owed_for keep (Ok tt) m) x'
  sent_more keep m = sent_after o x x' on.written (owed_for keep (Ok tt) m) on.sent (sent_after x m.between x' (continue_of m.head) m.answering.item.reply m.got.said m.answering.replied)

  cut_more : (keep : Bool) (m : OneMore c table kept t x w ms keep (Err WriteFault) kept' t' x' w' ms') → Cut o (on.written ++ owed_for keep (Err WriteFault) m) x'
  cut_more keep m =
      cut_after o x x' on.written (owed_for keep (Err WriteFault) m) on.faults_out on.sent (cut_after x m.between x' (continue_of m.head) m.answering.item.reply m.later m.got.said m.answering.replied)

  keeps_more : (i : Item) → i.keep ≡ true → AllKeep (on.items ++ i ∷ [])
  keeps_more i e = All-append (λ (j : Item). j.keep ≡ true) on.items (i ∷ []) on.keep (All-cons (λ (j : Item). j.keep ≡ true) i [] e (All-nil (λ (j : Item). j.keep ≡ true)))

  closes_last : (i : Item) → i.keep ≡ false → LastCloses (on.items ++ i ∷ [])
  closes_last i e = record { before = on.items; last = i; are = refl; keep = on.keep; closes = e }

  kept_or_last : (keep : Bool) (i : Item) → i.keep ≡ keep → AllKeep (on.items ++ i ∷ []) ⊎ LastCloses (on.items ++ i ∷ [])
  kept_or_last true i e = inl (keeps_more i e)
  kept_or_last false i e = inr (closes_last i e)

  long_more : (i : Item) → length (on.items ++ i ∷ []) ≡ length on.items + 1
  long_more i = length-append on.items (i ∷ [])

  count_more : (i : Item) → count + 1 ≡ length (on.items ++ i ∷ [])
  count_more i = let n : count ≡ length on.items = on.count_is in let l : length (on.items ++ i ∷ []) ≡ length on.items + 1 = long_more i in omega (arith, n, l)

  later_more : Later t t' → Later s t'
  later_more l = later_then s t t' on.later l

  out_more : x.faults ≤ x'.faults → o.faults ≤ x'.faults
  out_more f = omega (arith, on.faults_out, f)

  reads_of : (read b : List ℕ) (v : Input) → Spent [] s read b v → v.calls ≤ s.calls + length read
  reads_of read b v spent = let p : v.calls ≤ s.calls + (length read - 0) = spent.paid in omega (arith, p)

  pub go_on : SessionTurn c table kept t x w ms (Ok Answered) kept' t' x' w' ms' → On c table s o u (count + 1) kept' t' x' w' ms'
  go_on y =
      let m : OneMore c table kept t x w ms true (Ok tt) kept' t' x' w' ms' = y.turn in
      let i : Item = m.answering.item in
      record {
        items = on.items ++ i ∷ [];
        read = on.read ++ m.got.bytes;
        written = on.written ++ owed_for true (Ok tt) m;
        spelled = spelled_more true (Ok tt) m;
        spent = spent_more true (Ok tt) m;
        talk = talk_made true (Ok tt) m;
        did = did_more true (Ok tt) m;
        sent = sent_more true m;
        keep = keeps_more i m.answering.keep_is;
        count_is = count_more i;
        later = later_more y.later;
        faults_out = out_more y.faults_out;
      }

  -- ---- ends

  -- the course so far
  abbrev pub course : Course
  course = record { items = on.items; broken = []; read = on.read; written = on.written; left = ahead kept t }

  is_course : IsCourse table s course
  is_course = record { spelled = on.spelled; read_is = known_of on.read kept t on.spent }

  -- the items so far, and how that ended
  serves : (r : Result Served ConnFault) → MayBreak r [] → w' ≡ w → ConversesAs s o course r t' x' → Later t t' → x.faults ≤ x'.faults → Converses c table u s o r w' t' x'
  serves r breaks same ends more more_out = record {
    course = course;
    is_course = is_course;
    talk = subst (λ z. Talk c u on.items [] z) (sym same) on.talk;
    ran = ran_to c u w w' ms on.items on.did (same_forward w w' same);
    migrates = ran_migrates c u w w' ms on.items on.did (same_forward w w' same);
    breaks = breaks;
    ends = ends;
    faults = let l : Later s t' = later_more more in l.faults;
    faults_out = out_more more_out;
  }

  ended_at_end : SessionTurn c table kept t x w ms (Ok (Ended AtEnd)) kept' t' x' w' ms' → Converses c table u s o (Ok (served_of count AtEnd)) w' t' x'
  ended_at_end y =
      let calls : t'.calls ≤ t.calls + 1 = y.turn.2 in
      let before : t.calls ≤ s.calls + length on.read = reads_of on.read kept t on.spent in
      serves (Ok (served_of count AtEnd)) refl y.turn.4 (
        record {
          nothing = y.turn.1;
          nothing_more = nothing_left kept' t'.left (subst (λ known. IfSome known (λ all. all ≡ [])) y.turn.0 y.turn.1);
          keep = on.keep;
          sent = subst (λ z. Sent o on.written z) (sym y.turn.3) on.sent;
          reads = omega (arith, calls, before);
        },
        on.count_is,
      )
      y.later y.faults_out

  ended_closed : SessionTurn c table kept t x w ms (Ok (Ended Closed)) kept' t' x' w' ms' → Converses c table u s o (Ok (served_of count Closed)) w' t' x'
  ended_closed y =
      let m : OneMore c table kept t x w ms false (Ok tt) kept' t' x' w' ms' = y.turn in
      let i : Item = m.answering.item in
      record {
        course = course_more false (Ok tt) m;
        is_course = is_course_more false (Ok tt) m;
        talk = talk_made false (Ok tt) m;
        ran = ran_more false (Ok tt) m;
        migrates = migrates_more false (Ok tt) m;
        breaks = refl;
        ends = (record { last = closes_last i m.answering.keep_is; sent = sent_more false m; reads = reads_of (on.read ++ m.got.bytes) kept' t' (spent_more false (Ok tt) m) }, count_more i);
        faults = let l : Later s t' = later_more y.later in l.faults;
        faults_out = out_more y.faults_out;
      }

  refused_here : (owed : List ℕ) → IsRefusal kept t owed t' → IsRefused s course t' (on.written ++ owed)
  refused_here owed b = record {
    code = b.code;
    said = b.said;
    closes = b.closes;
    refuses = b.refuses;
    keep = on.keep;
    owed_is = ap (λ z. on.written ++ z) b.owed_is;
    reads = ended_then [] s on.read kept t t' on.spent b.ended;
  }

  ended_badly : SessionTurn c table kept t x w ms (Ok (Ended BadInput)) kept' t' x' w' ms' → Converses c table u s o (Ok (served_of count BadInput)) w' t' x'
  ended_badly y =
      serves (Ok (served_of count BadInput)) refl y.turn.3
      (on.written ++ y.turn.0, refused_here y.turn.0 y.turn.1, sent_after o x x' on.written y.turn.0 on.sent y.turn.2, ap (λ k. k + 1) on.count_is)
      y.later y.faults_out

  pub ended : (at : End) → SessionTurn c table kept t x w ms (Ok (Ended at)) kept' t' x' w' ms' → Converses c table u s o (Ok (served_of count at)) w' t' x'
  ended AtEnd y = ended_at_end y
  ended Closed y = ended_closed y
  ended BadInput y = ended_badly y

  broke_in : BrokeIn kept t x t' x' → SessionAs s o course (Err ReadFault) t' x'
  broke_in b =
      let f : Failed [] s (on.read ++ b.read) t' = failed_then [] s on.read kept t b.read t' on.later on.spent b.failed in
      let long : length (on.read ++ b.read) ≡ length on.read + length b.read = length-append on.read b.read in
      let paid : t'.calls ≤ s.calls + (length (on.read ++ b.read) - 0) + 1 = f.paid in
      record {
        begun = b.read;
        said = b.bytes;
        begun_is = b.failed.same;
        broken = b.broken;
        keep = on.keep;
        sent = sent_after o x x' on.written b.bytes on.sent b.said;
        reads = omega (arith, long, paid);
        cause = f.cause;
      }

  broke_out : BrokeOut kept t x kept' t' x' → SessionAs s o course (Err WriteFault) t' x'
  broke_out b =
      let more : Spent [] s (on.read ++ print_request b.head) kept' t' = spent_then [] s on.read kept t (print_request b.head) kept' t' on.spent b.spent in
      let long : length (on.read ++ print_request b.head) ≡ length on.read + length (print_request b.head) = length-append on.read (print_request b.head) in
      let calls : t'.calls ≤ s.calls + length (on.read ++ print_request b.head) = reads_of (on.read ++ print_request b.head) kept' t' more in
      inr (inl (record {
        head = b.head;
        said = continue_of b.head;
        next = record { is_head = b.is_head; rest = ahead kept' t'; at = b.spent.same; spoken = refl };
        keep = on.keep;
        cut = cut_after o x x' on.written (continue_of b.head) on.faults_out on.sent (record { part = b.part; rest = b.rest; is = b.piece; held = b.said; cause = b.cause });
        reads = omega (arith, long, calls);
      }))

  cut_reply : (keep : Bool) (m : OneMore c table kept t x w ms keep (Err WriteFault) kept' t' x' w' ms') → Later t t' → x.faults ≤ x'.faults → Converses c table u s o (Err WriteFault) w' t' x'
  cut_reply keep m later out = record {
    course = course_more keep (Err WriteFault) m;
    is_course = is_course_more keep (Err WriteFault) m;
    talk = talk_made keep (Err WriteFault) m;
    ran = ran_more keep (Err WriteFault) m;
    migrates = migrates_more keep (Err WriteFault) m;
    breaks = refl;
    ends = inl (record {
      keep = kept_or_last keep m.answering.item m.answering.keep_is;
      cut = cut_more keep m;
      reads = reads_of (on.read ++ m.got.bytes) kept' t' (spent_more keep (Err WriteFault) m);
    });
    faults = let l : Later s t' = later_more later in l.faults;
    faults_out = out_more out;
  }

  pub failed : (f : ConnFault) → SessionTurn c table kept t x w ms (Err f) kept' t' x' w' ms' → Converses c table u s o (Err f) w' t' x'
  failed ReadFault y = serves (Err ReadFault) refl y.turn.1 (broke_in y.turn.0) y.later y.faults_out
  failed WriteFault y = elim y.turn as (λ _. Converses c table u s o (Err WriteFault) w' t' x') [
    | inl m ↦ cut_reply m.0 m.1 y.later y.faults_out
    | inr (inl b) ↦ serves (Err WriteFault) refl b.1 (broke_out b.0) y.later y.faults_out
    | inr (inr b) ↦ serves (Err WriteFault) refl b.3 (inr (inr (on.written ++ b.0, refused_here b.0 b.1, cut_after o x x' on.written b.0 on.faults_out on.sent b.2))) y.later y.faults_out
  ]
  failed NoMemory y = record {
    course = record { items = on.items; broken = y.turn.0; read = on.read; written = on.written; left = ahead kept t };
    is_course = record { spelled = on.spelled; read_is = known_of on.read kept t on.spent };
    talk = talk_breaks c u w w' on.items on.talk y.turn.0 y.turn.1;
    ran = ran_to c u w w' ms on.items on.did y.turn.1.forward;
    migrates = ran_migrates c u w w' ms on.items on.did y.turn.1.forward;
    breaks = tt;
    ends = record { said = y.turn.2.said; spoken = y.turn.2.spoken; keep = on.keep; sent = sent_after o x x' on.written y.turn.2.said on.sent y.turn.2.sent };
    faults = let l : Later s t' = later_more y.later in l.faults;
    faults_out = out_more y.faults_out;
  }

pub out_of_count : (c : ℕ) (table : List ℕ) (s : Input) (o : Output) (u : WorldState) (count : ℕ) (kept : List ℕ) (t : Input) (x : Output) (w : WorldState) (ms : Machines) → On c table s o u count kept t x w ms → Converses c table u s o (Err NoMemory) w t x
out_of_count c table s o u count kept t x w ms on = record {
  course = record { items = on.items; broken = []; read = on.read; written = on.written; left = ahead kept t };
  is_course = record { spelled = on.spelled; read_is = sym (before_nothing s.left) ∙ on.spent.same };
  talk = on.talk;
  ran = ran_to c u w w ms on.items on.did (forward_self w);
  migrates = ran_migrates c u w w ms on.items on.did (forward_self w);
  breaks = tt;
  ends = record { said = []; spoken = inl refl; keep = on.keep; sent = subst (λ z. Sent o z x) (sym (append-nil on.written)) on.sent };
  faults = on.later.faults;
  faults_out = on.faults_out;
}

-- both machines may take turns
pub on_held : (c : ℕ) (table : List ℕ) (s : Input) (o : Output) (u : WorldState) (count : ℕ) (kept : List ℕ) (t : Input) (x : Output) (w : WorldState) (ms : Machines) → On c table s o u count kept t x w ms → IsHeld w ms
on_held c table s o u count kept t x w ms on = items_held c u w all_begun ms on.items (begun_held u) on.did

-- ---- want of memory is told

-- what was written of the reply
told_as : (o y x : Output) (c : Course) (r : Result (Unit {0}) IoFault) → o.faults ≤ y.faults → AtWant o c y → Sends y (bytes_of memory_reply) r x → AtNoMemory o c x
told_as o y x c (Ok u) le a s = record {
  said = a.said;
  spoken = a.spoken;
  keep = a.keep;
  told = bytes_of memory_reply;
  rest = [];
  reply_is = sym (append-nil (bytes_of memory_reply));
  sent = subst (λ z. Sent o z x) (append_assoc c.written a.said (bytes_of memory_reply)) (sent_after o y x (c.written ++ a.said) (bytes_of memory_reply) a.sent s.sent);
  cause = inl refl;
}
told_as o y x c (Err e) le a s =
    let rose : Rose y.faults x.faults = s.sent.0 in
    record {
      said = a.said;
      spoken = a.spoken;
      keep = a.keep;
      told = s.sent.1.0;
      rest = s.sent.1.1;
      reply_is = s.sent.1.2;
      sent = subst (λ z. Sent o z x) (append_assoc c.written a.said s.sent.1.0) (sent_after o y x (c.written ++ a.said) s.sent.1.0 a.sent s.sent.1.3);
      cause = inr (let more : Rose o.faults x.faults = omega arith in more);
    }

pub told_want : (c : ℕ) (table : List ℕ) (w : WorldState) (s : Input) (o y x : Output) (r : Result (Unit {0}) IoFault) (w' : WorldState) (t : Input) → Converses c table w s o (Err NoMemory) w' t y → Sends y (bytes_of memory_reply) r x → Serves c table w s o (Err NoMemory) w' t x
told_want c table w s o y x r w' t k sends = record {
  course = k.course;
  is_course = k.is_course;
  talk = k.talk;
  ran = k.ran;
  migrates = k.migrates;
  breaks = tt;
  ends = told_as o y x k.course r k.faults_out k.ends sends;
  faults = k.faults;
  faults_out = omega (arith, k.faults_out, sends.faults);
}
