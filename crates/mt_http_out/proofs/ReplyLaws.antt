-- What holds of each status of the server's replies, and how long a reply is.
use Rattle.std.proofs.Common.{◌≡◌, ℕ, ◌+◌, ◌^◌, ◌≤◌, ◌<◌, Bool, true, false, IsTrue, List, [], ◌++◌, length, Option, Some, None, IfSome, refl, if◌then◌else◌, arith, lit<, length-append}
use Rattle.std.specs.Prelude.{nat_eq, nat_le, codes, decimal, ◌==◌, unwrap_or, option_map, Contains}
use Rattle.std.specs.List.{list_all}
use Rattle.std.specs.Option.{SomeIff}
use Rattle.std.specs.Set.{is_member}
use Rattle.std.proofs.lemmas.Bool.{leb-true}
use Rattle.std.proofs.lemmas.Bool.Decides.{Decides-eqb}
use Rattle.std.proofs.lemmas.Fmt.{length-decimal-le}
use Rattle.std.proofs.lemmas.List.Elements.{All-contains}
use Rattle.std.proofs.lemmas.List.Sums.{AllPass-from_list_all}
use Rattle.std.proofs.lemmas.Map.Made.{is_member-Decides}
use Rattle.http.specs.StatusCode.{IsStatusCode}
use Rattle.mt_http_out.specs.declared.reply.Reply.{Reply}
use Rattle.mt_http_out.specs.Rendering.{statuses, IsReply, phrase_of, status_line, line_of, field_lines, length_line, close_line, bytes_closing}

-- ---- statuses

is_given : (status : ℕ) → IsTrue (is_member nat_eq statuses status) → Contains statuses status
is_given status is = (is_member-Decides Decides-eqb statuses status).0 is

-- a test that each status passes
passes : (p : ℕ → Bool) → list_all p statuses ≡ true → (status : ℕ) → IsTrue (is_member nat_eq statuses status) → p status ≡ true
passes p all status is = All-contains (λ s. p s ≡ true) statuses status (AllPass-from_list_all p statuses all) (is_given status is)

pub is_code : (status : ℕ) → IsTrue (is_member nat_eq statuses status) → IsStatusCode status
is_code status is = (leb-true 100 status (passes (λ s. nat_le 100 s) refl status is), omega (arith, leb-true (status + 1) 1000 (passes (λ s. nat_le (s + 1) 1000) refl status is)))

phrase_short : (status : ℕ) → IsTrue (is_member nat_eq statuses status) → length (phrase_of status) ≤ 32
unfolding phrase_of
phrase_short status is = leb-true (length (phrase_of status)) 32 (passes (λ s. nat_le (length (phrase_of s)) 32) refl status is)

-- ---- lengths

line_len : (name value : List ℕ) → length (line_of name value) ≡ length name + length value + 4
line_len name value = simp length-append (omega arith)

status_len : (digits phrase : List ℕ) → length (codes "HTTP/1.1 " ++ digits ++ codes " " ++ phrase ++ codes "\r\n") ≡ 12 + length digits + length phrase
status_len digits phrase = simp length-append (omega arith)

reply_len : (status fields size close body : List ℕ) → length (status ++ fields ++ size ++ close ++ codes "\r\n" ++ body) ≡ length status + length fields + length size + length close + 2 + length body
reply_len status fields size close body = simp length-append (omega arith)

none_or : (b : Bool) (xs : List ℕ) → length (if b then [] else xs) ≤ length xs
none_or true xs = omega arith
none_or false xs = omega arith

close_len : (close : Bool) → length (close_line close) ≤ 19
close_len true = omega arith
close_len false = omega arith

pub reply_fits : (r : Reply) (fields : ℕ) → IsReply r → fields ≡ length (field_lines r.fields) → fields + length r.body < 2 ^ 64 → (close : Bool) → length (bytes_closing close r) ≤ fields + length r.body + 128
reply_fits r fields is same small close =
    let code = is_code r.status is.status in
    let digits = length-decimal-le 3 r.status (lit< tt) (omega (arith, code.1)) (omega (arith, code.1)) in
    let phrase = phrase_short r.status is.status in
    let size = length-decimal-le 20 (length r.body) (lit< tt) (omega (arith, small)) (omega (arith, small)) in
    let line = line_len (codes "Content-Length") (decimal (length r.body)) in
    let shown = none_or (r.status == 204) (line_of (codes "Content-Length") (decimal (length r.body))) in
    let first = status_len (decimal r.status) (phrase_of r.status) in
    let all = reply_len (status_line r.status) (field_lines r.fields) (length_line r.status (length r.body)) (close_line close) r.body in
    omega (arith, same, digits, phrase, size, line, shown, first, all, close_len close)

-- ---- options

pub sum_fits : (o : Option ℕ) (P : Type 0) (sum : ℕ) (least : Bool → ℕ) → SomeIff o P sum → ((close : Bool) → least close ≤ sum) → IfSome o (λ n. (close : Bool) → least close ≤ n)
sum_fits (Some n) P sum least is fits = λ close. omega (arith, is.1, fits close)
sum_fits None P sum least is fits = tt

pub map_or : {A B : Type 0} (f : A → B) (o : Option A) (d : A) → f (unwrap_or o d) ≡ unwrap_or (option_map f o) (f d)
map_or f None d = refl
map_or f (Some x) d = refl
