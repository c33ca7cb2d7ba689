-- From the parts of a call to what it says whole.
use Rattle.std.proofs.Common.{◌≡◌, ℕ, ◌-◌, ◌<◌, Bool, true, false, cond, not, List, [], ◌++◌, length, Option, Some, Result, Ok, Err, refl, sym, ap, ◌∙◌, arith, subst, inl, inr}
use Rattle.std.specs.Prelude.{IfSome}
use Rattle.httparse.specs.Grammar.{RequestHead, print_request}
use Rattle.mt_io.specs.Ends.{Input, Output, after_known, Sends}
use Rattle.mt_io.proofs.Pieces.{after_nothing, map_told}
use Rattle.mt_http_in.specs.declared.requests.Incoming.{Incoming}
use Rattle.mt_http_in.specs.declared.heads.Head.{Head}
use Rattle.mt_http_in.specs.declared.framing.Framing.{Framing}
use Rattle.mt_http_in.specs.declared.InFault.{InFault}
use Rattle.mt_http_in.specs.declared.InFault.TheVariants.{Refused}
use Rattle.mt_http_in.specs.declared.reader.Halt.{Halt}
use Rattle.mt_http_in.specs.declared.reader.Halt.TheVariants as halt
use Rattle.mt_http_in.specs.declared.Code.{Code}
use Rattle.mt_http_in.specs.declared.Code.TheVariants.{InvalidHead, InvalidFraming, RequestBodyTooLarge, InvalidBody, CompressedBody}
use Rattle.mt_http_in.specs.Fields.{framing_of, calls_for, is_packed, keeps_open}
use Rattle.mt_http_in.specs.Reading.{ahead, Later, Spent, Ended, Reads, ReadAs}
use Rattle.mt_http_in.specs.Heads.{IsHead, HasNoHead, HoldsHead, HeadAs, ReadsHead, fields_of}
use Rattle.mt_http_in.specs.Bodies.{SpellsBody, IsBodyBegun, BodyRefused}
use Rattle.mt_http_in.specs.Requests.{continue_bytes, continue_of, room_after, framing_after, Refuses, Got, Closed, RefusedAs, Starved, status_of, FaultOf, RequestAs, LaterOut, ReadsRequest, Continued}
use Rattle.mt_http_in.proofs.FillLaws.{later_then, spent_then, failed_then, ended_then, known_then}

-- what was read off a head
pub record Asks (v : Head) (framing : Framing) (wanted keep packed : Bool) (room : ℕ) : Type 0 where
  pub framing_is : framing ≡ framing_of v.fields
  pub wanted_is : wanted ≡ calls_for v.fields
  pub keep_is : keep ≡ keeps_open v.minor v.fields
  pub packed_is : packed ≡ is_packed v.fields
  pub room_is : room ≡ 16384 - v.size

abbrev said_of : Bool → List ℕ
said_of wanted = cond wanted continue_bytes []

module _ (b : List ℕ) (t : Input) (w : Output) (v : Head) (framing : Framing) (wanted keep packed : Bool) (room : ℕ) (c : List ℕ) (u : Input) (x : Output) (asks : Asks v framing wanted keep packed room) where
  abbrev Body : Result (List ℕ) Halt → Type 0
  Body r = Reads {V = List ℕ} (SpellsBody room framing) (IsBodyBegun room framing) (BodyRefused room framing) b t r c u

  later_of : {r : Result (Unit {0}) _} → Sends w (said_of wanted) r x → LaterOut w x
  later_of sends = record { number = sends.number; same = sends.same; calls = sends.calls; faults = sends.faults }

  said_is : (h : RequestHead) → HoldsHead v h → Sends w (said_of wanted) (Ok tt) x → x.held ≡ after_known w.held (continue_of h)
  said_is h holds sends = sends.sent ∙ ap (after_known w.held) (ap said_of (asks.wanted_is ∙ ap calls_for holds.fields))

  room_is : (h : RequestHead) → HoldsHead v h → room ≡ room_after h
  room_is h holds = asks.room_is ∙ ap (λ n. 16384 - n) holds.size

  framing_is : (h : RequestHead) → HoldsHead v h → framing ≡ framing_after h
  framing_is h holds = asks.framing_is ∙ ap framing_of holds.fields

  keep_is : (h : RequestHead) → HoldsHead v h → keep ≡ keeps_open h.minor (fields_of h)
  keep_is h holds = asks.keep_is ∙ ap (keeps_open v.minor) holds.fields ∙ ap (λ m. keeps_open m (fields_of h)) holds.minor

  packed_is : (h : RequestHead) → HoldsHead v h → is_packed (fields_of h) ≡ packed
  packed_is h holds = ap is_packed (sym holds.fields) ∙ sym asks.packed_is

  moved : (P : ℕ → Framing → Type 0) (h : RequestHead) → HoldsHead v h → P room framing → P (room_after h) (framing_after h)
  moved P h holds p = subst (λ f. P (room_after h) f) (framing_is h holds) (subst (λ n. P n framing) (room_is h holds) p)

  module _ (sends : Sends w (said_of wanted) (Ok tt) x) where
    got_of : (body from : List ℕ) (s : Input) (h : RequestHead) → IsHead h → HoldsHead v h → Spent from s (print_request h) b t → Body (Ok body) → Got from s w h body c u x
    got_of body from s h is holds spent y = record {
      bytes = print_request h ++ y.read.0;
      whole = record { head = is; coda = y.read.0; spelled = moved (λ n f. SpellsBody n f y.read.0 body) h holds y.read.1; is = refl };
      spent = spent_then from s (print_request h) b t y.read.0 c u spent y.read.2;
      said = said_is h holds sends;
    }

    pub whole_law : (body : List ℕ) (i : Incoming) → packed ≡ false → Body (Ok body) → i.method ≡ v.method → i.target ≡ v.target → i.fields ≡ v.fields → i.body ≡ body → i.keep ≡ keep
        → Continued v b t w (Ok (Some i)) c u x
    whole_law body i off y method target fields content kept = record {
      later = y.later;
      later_out = later_of sends;
      read = λ from s h is holds later spent. (
        h,
        body,
        got_of body from s h is holds spent y,
        record { method = method ∙ holds.method; target = target ∙ holds.target; fields = fields ∙ holds.fields; body_is = content; keep = kept ∙ keep_is h holds },
        packed_is h holds ∙ off,
      );
    }

    pub packed_law : (body : List ℕ) (f : InFault) → packed ≡ true → Body (Ok body) → f ≡ Refused (status_of CompressedBody) CompressedBody (not keep) → Continued v b t w (Err f) c u x
    packed_law body f on y e = record {
      later = y.later;
      later_out = later_of sends;
      read = λ from s h is holds later spent. subst (λ g. RequestAs from s w (Err g) c u x) (sym e) (
        refl,
        record { head = h; body = body; got = got_of body from s h is holds spent y; packed = packed_is h holds ∙ on; closes = ap not (keep_is h holds) },
      );
    }

    starved : (from : List ℕ) (s : Input) (h : RequestHead) → IsHead h → HoldsHead v h → Spent from s (print_request h) b t → Starved from s w x
    starved from s h is holds spent = record {
      bytes = continue_of h;
      said = said_is h holds sends;
      spoken = inr (record { head = h; kept' = b; t = t; is_head = is; spent = spent; spoken = refl });
    }

    closed_of : (code : Code) (from : List ℕ) (s : Input) (h : RequestHead) → IsHead h → HoldsHead v h → Spent from s (print_request h) b t → IfSome (ahead b t) (BodyRefused room framing code) → Ended t u → Closed from s w code true u x
    closed_of code from s h is holds spent refused ended = record {
      closes = refl;
      bytes = continue_of h;
      said = said_is h holds sends;
      refuses = known_then (λ all. Refuses all code (continue_of h)) (BodyRefused room framing code) from s (print_request h) b t spent
          (λ xs y. inr (record { head = h; rest = xs; has = (is, refl); refused = moved (λ n f. BodyRefused n f code xs) h holds y; spoken = refl })) refused;
      ended = ended_then from s (print_request h) b t u spent ended;
    }

    by_code : (code : Code) (from : List ℕ) (s : Input) (h : RequestHead) → IsHead h → HoldsHead v h → Spent from s (print_request h) b t → ReadAs {V = List ℕ} (SpellsBody room framing) (IsBodyBegun room framing) (BodyRefused room framing) b t (Err (halt.Refused code)) c u
        → RefusedAs from s w code true c u x
    by_code InvalidHead from s h is holds spent y = closed_of InvalidHead from s h is holds spent y.1 y.2
    by_code InvalidFraming from s h is holds spent y = closed_of InvalidFraming from s h is holds spent y.1 y.2
    by_code RequestBodyTooLarge from s h is holds spent y = closed_of RequestBodyTooLarge from s h is holds spent y.1 y.2
    by_code InvalidBody from s h is holds spent y = closed_of InvalidBody from s h is holds spent y.1 y.2
    by_code CompressedBody from s h is holds spent y = absurd y.0

    by_halt : (o : Halt) (f : InFault) (from : List ℕ) (s : Input) (h : RequestHead) → IsHead h → HoldsHead v h → Later s t → Spent from s (print_request h) b t → FaultOf o f
        → ReadAs {V = List ℕ} (SpellsBody room framing) (IsBodyBegun room framing) (BodyRefused room framing) b t (Err o) c u → RequestAs from s w (Err f) c u x
    by_halt halt.ReadFault f from s h is holds later spent e y = subst (λ g. RequestAs from s w (Err g) c u x) (sym e) (record {
      read = print_request h ++ y.0;
      failed = failed_then from s (print_request h) b t y.0 u later spent y.2;
      bytes = continue_of h;
      said = said_is h holds sends;
      broken = inr (record { head = h; part = y.0; has = (is, refl); begun = moved (λ n g. IsBodyBegun n g y.0) h holds y.1; spoken = refl });
    })
    by_halt halt.NoMemory f from s h is holds later spent e y = subst (λ g. RequestAs from s w (Err g) c u x) (sym e) (starved from s h is holds spent)
    by_halt (halt.Refused code) f from s h is holds later spent e y = subst (λ g. RequestAs from s w (Err g) c u x) (sym e) (refl, by_code code from s h is holds spent y)

    pub fault_law : (o : Halt) (f : InFault) → FaultOf o f → Body (Err o) → Continued v b t w (Err f) c u x
    fault_law o f e y = record { later = y.later; later_out = later_of sends; read = λ from s h is holds later spent. by_halt o f from s h is holds later spent e y.read }

-- ---- the call whole

pub after_head : (from : List ℕ) (s : Input) (w : Output) (v : Head) (b : List ℕ) (t : Input) (r : Result (Option Incoming) InFault) (c : List ℕ) (u : Input) (x : Output)
    → ReadsHead from s (Ok (Some v)) b t → Continued v b t w r c u x → ReadsRequest from s w r c u x
after_head from s w v b t r c u x head y = record {
  later = later_then s t u head.later y.later;
  later_out = y.later_out;
  read = y.read from s head.read.0 head.read.1 head.read.2 head.later head.read.3;
}

pub no_head : (from : List ℕ) (s : Input) (w : Output) (o : Halt) (f : InFault) (b : List ℕ) (t : Input) → ReadsHead from s (Err o) b t → FaultOf o f → ReadsRequest from s w (Err f) b t w
no_head from s w o f b t head e = record {
  later = head.later;
  later_out = record { number = refl; same = refl; calls = omega arith; faults = omega arith };
  read = by_halt o e head.read;
}
  where
    silent : w.held ≡ after_known w.held []
    silent = sym (after_nothing w.held)

    by_halt : (o : Halt) → FaultOf o f → HeadAs from s (Err o) b t → RequestAs from s w (Err f) b t w
    by_halt halt.ReadFault e y =
        subst (λ g. RequestAs from s w (Err g) b t w) (sym e) (record { read = y.0; failed = y.2; bytes = []; said = silent; broken = inl (y.1, refl) })
    by_halt halt.NoMemory e y = subst (λ g. RequestAs from s w (Err g) b t w) (sym e) (record { bytes = []; said = silent; spoken = inl refl })
    by_halt (halt.Refused code) e y =
        let closed : Closed from s w InvalidHead true t w = record {
          closes = refl;
          bytes = [];
          said = silent;
          refuses = map_told (λ all. HasNoHead all × (0 < length all)) (λ all. Refuses all InvalidHead []) (ahead from s) (λ xs z. inl (record { code = refl; none = z.0; some = z.1; silent = refl })) y.1;
          ended = y.2;
        } in
        subst (λ g. RequestAs from s w (Err g) b t w) (sym (e ∙ ap (λ k. Refused (status_of k) k true) y.0)) (refl, closed)
