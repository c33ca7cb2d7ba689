-- The replies of forms, how long they are, and that they are those to their operations.
use Rattle.std.proofs.Common.{◌≡◌, ℕ, zero, suc, ◌+◌, ◌^◌, ◌<◌, ◌≤◌, Bool, true, false, List, [], ◌∷◌, ◌++◌, length, drop, take, get_or, refl, sym, ap, ◌∙◌, subst, append-nil, append_assoc, length-append, arith, lit<}
use Rattle.std.specs.Prelude.{codes, decimal, vec_len}
use Rattle.std.specs.List.{AllZip, flat_map}
use Rattle.std.specs.Global.{Vec}
use Rattle.std.proofs.lemmas.Fmt.{length-decimal-le}
use Rattle.std.proofs.lemmas.List.{drop_more, drop_all, drop_at, take_more, take_all, take_at}
use Rattle.std.proofs.lemmas.List.Elements.{All-head, All-tail}
use Rattle.std.proofs.lemmas.Grind.{flat_map-append}
use Rattle.mt_model.specs.declared.tag.Tag.{Tag}
use Rattle.mt_model.specs.Tag.{IsTag, framed, tag_text}
use Rattle.mt_json.specs.declared.draft.Draft.{Draft as EntityDraft}
use Rattle.mt_json.specs.Draft.{text_of, HasRoom, Appends}
use Rattle.mt_json.proofs.RoomLaws.{appends_then, room_next}
use Rattle.mt_chain.specs.declared.op.Op.{Op}
use Rattle.mt_http_out.specs.declared.reply.Reply.{Reply}
use Rattle.mt_http_out.specs.Rendering.{IsReply, line_of, field_lines, status_line, length_line, close_line, line_end, bytes_of, bytes_closing, inner_bytes}
use Rattle.mt_http_out.proofs.ReplyLaws.{reply_fits}
use Rattle.mt_mime.specs.declared.forms.Echo.{Echo}
use Rattle.mt_mime.specs.declared.forms.Form.{Form}
use Rattle.mt_mime.specs.declared.forms.Form.TheVariants as form
use Rattle.mt_mime.specs.Replies.{json_field, tag_field, applied_field, multipart_field, created, no_content, tagged, gone, reply_by, replies_by, part_bytes, accepted, answer_by, HasEcho, RepliesToAll, Answers, IsFormOf, AreForms, AreTags}

-- ---- each form is a reply

created_is : (tag : Tag) (text : List ℕ) (close : Bool) → IsReply (created tag text close)
created_is tag text close = record { status = refl; fields = refl; body = λ e. absurd (omega (arith, e)) }

no_content_is : (tag : Tag) (close : Bool) → IsReply (no_content tag close)
no_content_is tag close = record { status = refl; fields = refl; body = λ e. refl }

tagged_is : (tag : Tag) (close : Bool) → IsReply (tagged tag close)
tagged_is tag close = record { status = refl; fields = refl; body = λ e. refl }

gone_is : (close : Bool) → IsReply (gone close)
gone_is close = record { status = refl; fields = refl; body = λ e. refl }

accepted_is : (rs : List Reply) (close : Bool) → IsReply (accepted rs close)
accepted_is rs close = record { status = refl; fields = refl; body = λ e. absurd (omega (arith, e)) }

-- ---- lengths

tag_len : (store n : List ℕ) → length (framed (store ++ 46 ∷ n)) ≡ 5 + length store + length n
tag_len store n = simp length-append (omega arith)

tag_short : (tag : Tag) → IsTag tag → length (tag_text tag) ≤ 35
tag_short tag is =
    let store = length-decimal-le 10 tag.store (lit< tt) (omega (arith, is.0)) (omega (arith, is.0)) in
    let n = length-decimal-le 20 tag.n (lit< tt) (omega (arith, is.1)) (omega (arith, is.1)) in
    omega (arith, tag_len (decimal tag.store) (decimal tag.n), store, n)

line_len : (name value : List ℕ) → length (line_of name value) ≡ length name + length value + 4
line_len name value = simp length-append (omega arith)

tag_line : (tag : Tag) → IsTag tag → length (line_of (codes "ETag") (tag_text tag)) ≤ 43
tag_line tag is = omega (arith, line_len (codes "ETag") (tag_text tag), tag_short tag is)

two_len : (a b : List ℕ) → length (a ++ (b ++ [])) ≡ length a + length b
two_len a b = length-append a (b ++ []) ∙ ap (λ (x : List ℕ). length a + length x) (append-nil b)

created_fields : (tag : Tag) → IsTag tag → length (field_lines (json_field ∷ tag_field tag ∷ [])) ≤ 82
created_fields tag is = omega (
  arith,
  two_len (line_of (codes "Content-Type") (codes "application/json")) (line_of (codes "ETag") (tag_text tag)),
  tag_line tag is,
)

no_content_fields : (tag : Tag) → IsTag tag → length (field_lines (tag_field tag ∷ applied_field ∷ [])) ≤ 82
no_content_fields tag is = omega (
  arith,
  two_len (line_of (codes "ETag") (tag_text tag)) (line_of (codes "Preference-Applied") (codes "return-no-content")),
  tag_line tag is,
)

tagged_fields : (tag : Tag) → IsTag tag → length (field_lines (tag_field tag ∷ [])) ≤ 82
tagged_fields tag is =
    let same : length (field_lines (tag_field tag ∷ [])) ≡ length (line_of (codes "ETag") (tag_text tag)) = ap (λ (x : List ℕ). length x) (append-nil (line_of (codes "ETag") (tag_text tag))) in
    omega (arith, same, tag_line tag is)

-- ---- room for a reply

pub created_fits : (entity : EntityDraft) (room size : ℕ) → ((tag : Tag) → IsTag tag → length (text_of entity tag) ≤ room) → room + 224 < 2 ^ 64 → size ≡ room + 224
    → (tag : Tag) (close : Bool) → IsTag tag → length (bytes_closing close (reply_by (form.Created entity) tag close)) ≤ size
created_fits entity room size enough small is tag close tagged =
    let text = enough tag tagged in
    let few = created_fields tag tagged in
    let whole = reply_fits (created tag (text_of entity tag) close) (length (field_lines (json_field ∷ tag_field tag ∷ []))) (created_is tag (text_of entity tag) close) refl (omega (arith, few, text, small)) close in
    omega (arith, text, few, whole, is)

pub no_content_fits : (tag : Tag) (close : Bool) → IsTag tag → length (bytes_closing close (reply_by form.NoContent tag close)) ≤ 224
no_content_fits tag close is =
    let few = no_content_fields tag is in
    let whole = reply_fits (no_content tag close) (length (field_lines (tag_field tag ∷ applied_field ∷ []))) (no_content_is tag close) refl (omega (arith, few)) close in
    omega (arith, few, whole)

pub tagged_fits : (tag : Tag) (close : Bool) → IsTag tag → length (bytes_closing close (reply_by form.Tagged tag close)) ≤ 224
tagged_fits tag close is =
    let few = tagged_fields tag is in
    let whole = reply_fits (tagged tag close) (length (field_lines (tag_field tag ∷ []))) (tagged_is tag close) refl (omega (arith, few)) close in
    omega (arith, few, whole)

pub gone_fits : (tag : Tag) (close : Bool) → IsTag tag → length (bytes_closing close (reply_by form.Gone tag close)) ≤ 224
gone_fits tag close is =
    let whole = reply_fits (gone close) 0 (gone_is close) refl (omega arith) close in
    omega (arith, whole)

-- ---- lines of fields

pub one_line : {before after : Vec ℕ} {line : List ℕ} → Appends before line after → Appends before (line ++ []) after
one_line {before} {after} {line} wrote = subst (λ (x : List ℕ). Appends before x after) (sym (append-nil line)) wrote

pub two_lines : {before between after : Vec ℕ} {first second : List ℕ} → Appends before first between → Appends between second after → Appends before (first ++ (second ++ [])) after
two_lines a b = appends_then a (one_line b)

-- ---- writing parts

pub parts_step : (forms : List Form) (tags : List Tag) (at : ℕ) (f : Form) (d : Tag) → at < length forms → at < length tags → f ≡ get_or forms at f
    → flat_map part_bytes (replies_by (drop at forms) (drop at tags)) ≡ part_bytes (reply_by f (get_or tags at d) false) ++ flat_map part_bytes (replies_by (drop (at + 1) forms) (drop (at + 1) tags))
parts_step forms tags at f d inside within f_is =
    let a = drop_more forms at f inside ∙ ap (λ (x : Form). x ∷ drop (at + 1) forms) (sym f_is) in
    let b = drop_more tags at d within in
    ap (λ (x : List Form). flat_map part_bytes (replies_by x (drop at tags))) a ∙ ap (λ (x : List Tag). flat_map part_bytes (replies_by (f ∷ drop (at + 1) forms) x)) b

pub parts_more : (before room after : Vec ℕ) (whole left part rest : List ℕ) → left ≡ part ++ rest → HasRoom room left × ((end : Vec ℕ) → Appends room left end → Appends before whole end) → Appends room part after
    → HasRoom after rest × ((end : Vec ℕ) → Appends after rest end → Appends before whole end)
parts_more before room after whole left part rest is have wrote = (
  room_next room after part rest (subst (HasRoom room) is have.0) wrote,
  λ end more. have.1 end (subst (λ (x : List ℕ). Appends room x end) (sym is) (appends_then wrote more)),
)

nothing : (v : Vec ℕ) → Appends v [] v
nothing v = record { items = sym (append-nil v.items); len = omega arith; capacity = omega arith }

pub parts_end : (before room : Vec ℕ) (forms : List Form) (tags : List Tag) (at : ℕ) (whole : List ℕ) → length forms ≤ at
    → HasRoom room (flat_map part_bytes (replies_by (drop at forms) (drop at tags))) × ((end : Vec ℕ) → Appends room (flat_map part_bytes (replies_by (drop at forms) (drop at tags))) end → Appends before whole end)
    → Appends before whole room
parts_end before room forms tags at whole past have =
    let none = ap (λ (x : List Form). flat_map part_bytes (replies_by x (drop at tags))) (drop_all at forms past) in
    have.1 room (subst (λ (x : List ℕ). Appends room x room) (sym none) (nothing room))

-- ---- room for parts

part_len : (r : List ℕ) → length (codes "--changesetresponse_1\r\nContent-Type: application/http\r\nContent-Transfer-Encoding: binary\r\n\r\n" ++ r ++ codes "\r\n") ≡ 94 + length r
part_len r = simp length-append (omega arith)

pub bound_step : (f : Form) (rest : List Form) (reply part size total : ℕ) → ((tag : Tag) (close : Bool) → IsTag tag → length (bytes_closing close (reply_by f tag close)) ≤ reply) → part ≡ reply + 96
    → ((tags : List Tag) → AreTags (length rest) tags → length (flat_map part_bytes (replies_by rest tags)) + (size + part) ≤ total)
    → (tags : List Tag) → AreTags (length (f ∷ rest)) tags → length (flat_map part_bytes (replies_by (f ∷ rest) tags)) + size ≤ total
bound_step f rest reply part size total fits is left [] are = absurd (omega (arith, are.count))
bound_step f rest reply part size total fits is left (tag ∷ tags) are =
    let one = fits tag false (All-head IsTag tag tags are.each) in
    let long = part_len (inner_bytes (reply_by f tag false)) in
    let more = left tags (record { count = omega (arith, are.count); each = All-tail IsTag tag tags are.each }) in
    omega (arith, one, long, more, is, length-append (part_bytes (reply_by f tag false)) (flat_map part_bytes (replies_by rest tags)))

-- ---- room for the whole

body_len : (ps : List ℕ) → length (codes "--batchresponse_1\r\nContent-Type: multipart/mixed; boundary=changesetresponse_1\r\n\r\n" ++ ps ++ codes "--changesetresponse_1--\r\n--batchresponse_1--\r\n") ≡ 128 + length ps
body_len ps = simp length-append (omega arith)

accepted_fields : length (field_lines (multipart_field ∷ [])) ≡ 57
accepted_fields = refl

set_fits : (forms : List Form) (parts : ℕ) (close : Bool) (tags : List Tag) → length (flat_map part_bytes (replies_by forms tags)) ≤ parts → parts + 320 < 2 ^ 64
    → length (bytes_of (accepted (replies_by forms tags) close)) ≤ parts + 320
set_fits forms parts close tags few small =
    let rs = replies_by forms tags in
    let long = body_len (flat_map part_bytes rs) in
    let whole = reply_fits (accepted rs close) (length (field_lines (multipart_field ∷ []))) (accepted_is rs close) refl (omega (arith, few, long, small, accepted_fields)) close in
    omega (arith, few, long, whole, accepted_fields)

bytes_len : (s f l c e b : List ℕ) → length (s ++ f ++ l ++ c ++ e ++ b) ≡ length s + length f + length l + length c + length e + length b
bytes_len s f l c e b = simp length-append (omega arith)

close_len : (close : Bool) → length (close_line close) ≤ 19
close_len true = omega arith
close_len false = omega arith

-- Connection makes a reply so much longer
closing_len : (r : Reply) (close : Bool) → length (bytes_closing close r) ≤ length (bytes_closing false r) + 19
closing_len r close =
    let with = bytes_len (status_line r.status) (field_lines r.fields) (length_line r.status (length r.body)) (close_line close) line_end r.body in
    let without = bytes_len (status_line r.status) (field_lines r.fields) (length_line r.status (length r.body)) (close_line false) line_end r.body in
    omega (arith, with, without, close_len close)

one_fits : (forms : List Form) (parts : ℕ) (close : Bool) (tags : List Tag) → length (flat_map part_bytes (replies_by forms tags)) ≤ parts → length (answer_by false close forms tags) ≤ parts + 320
one_fits [] parts close tags few = omega arith
one_fits (f ∷ forms) parts close [] few = omega arith
one_fits (f ∷ forms) parts close (tag ∷ tags) few =
    let r = reply_by f tag false in
    omega (
      arith,
      few,
      part_len (inner_bytes r),
      closing_len r close,
      length-append (part_bytes r) (flat_map part_bytes (replies_by forms tags)),
    )

pub whole_fits : (forms : List Form) (parts size : ℕ) → ((tags : List Tag) → AreTags (length forms) tags → length (flat_map part_bytes (replies_by forms tags)) ≤ parts) → parts + 320 < 2 ^ 64 → size ≡ parts + 320
    → (change_set close : Bool) (tags : List Tag) → AreTags (length forms) tags → length (answer_by change_set close forms tags) ≤ size
whole_fits forms parts size bound small is true close tags are = omega (arith, is, set_fits forms parts close tags (bound tags are) small)
whole_fits forms parts size bound small is false close tags are = omega (arith, is, one_fits forms parts close tags (bound tags are))

-- ---- forms of operations

pub echo_at : (ops : List Op) (echoes : List Echo) (at : ℕ) (d : Op) (e : Echo) → AllZip HasEcho ops echoes → at < length ops → HasEcho (get_or ops at d) (get_or echoes at e)
echo_at [] echoes at d e all inside = absurd (omega (arith, inside))
echo_at (op ∷ ops) [] at d e all inside = absurd all
echo_at (op ∷ ops) (echo ∷ echoes) zero d e all inside = all.0
echo_at (op ∷ ops) (echo ∷ echoes) (suc at) d e all inside = echo_at ops echoes at d e all.1 (omega (arith, inside))

pub forms_push : (ops : List Op) (echoes : List Echo) (forms : List Form) (op : Op) (echo : Echo) (f : Form) → AreForms ops echoes forms → IsFormOf op echo f → AreForms (ops ++ op ∷ []) (echoes ++ echo ∷ []) (forms ++ f ∷ [])
forms_push [] [] [] op echo f all is = (is, tt)
forms_push [] [] (g ∷ forms) op echo f all is = absurd all
forms_push [] (e ∷ echoes) forms op echo f all is = absurd all
forms_push (o ∷ ops) [] forms op echo f all is = absurd all
forms_push (o ∷ ops) (e ∷ echoes) [] op echo f all is = absurd all
forms_push (o ∷ ops) (e ∷ echoes) (g ∷ forms) op echo f all is = (all.0, forms_push ops echoes forms op echo f all.1 is)

pub forms_more : (ops : List Op) (echoes : List Echo) (forms : List Form) (at : ℕ) (d : Op) (e : Echo) (f : Form) → AreForms (take at ops) (take at echoes) forms → at < length ops → at < length echoes → IsFormOf (get_or ops at d) (get_or echoes at e) f
    → AreForms (take (at + 1) ops) (take (at + 1) echoes) (forms ++ f ∷ [])
forms_more ops echoes forms at d e f so_far inside within is =
    let all = forms_push (take at ops) (take at echoes) forms (get_or ops at d) (get_or echoes at e) f so_far is in
    subst (λ (x : List Op). AreForms x (take (at + 1) echoes) (forms ++ f ∷ [])) (sym (take_more ops at d inside))
    (subst (λ (x : List Echo). AreForms (take at ops ++ get_or ops at d ∷ []) x (forms ++ f ∷ [])) (sym (take_more echoes at e within)) all)

pub forms_all : (ops : List Op) (echoes : List Echo) (forms : List Form) (at : ℕ) → AreForms (take at ops) (take at echoes) forms → length ops ≤ at → length echoes ≤ at → AreForms ops echoes forms
forms_all ops echoes forms at all past over =
    subst (λ (x : List Op). AreForms x echoes forms) (take_all at ops past) (subst (λ (x : List Echo). AreForms (take at ops) x forms) (take_all at echoes over) all)

pub forms_count : (ops : List Op) (echoes : List Echo) (forms : List Form) → AreForms ops echoes forms → length forms ≡ length ops
forms_count [] [] [] all = refl
forms_count [] [] (g ∷ forms) all = absurd all
forms_count [] (e ∷ echoes) forms all = absurd all
forms_count (o ∷ ops) [] forms all = absurd all
forms_count (o ∷ ops) (e ∷ echoes) [] all = absurd all
forms_count (o ∷ ops) (e ∷ echoes) (g ∷ forms) all = omega (arith, forms_count ops echoes forms all.1)

replies_all : (ops : List Op) (echoes : List Echo) (forms : List Form) (tags : List Tag) → AreForms ops echoes forms → length tags ≡ length ops → RepliesToAll ops echoes tags (replies_by forms tags)
replies_all [] [] [] [] all count = tt
replies_all [] [] [] (t ∷ tags) all count = absurd (omega (arith, count))
replies_all [] [] (g ∷ forms) tags all count = absurd all
replies_all [] (e ∷ echoes) forms tags all count = absurd all
replies_all (o ∷ ops) [] forms tags all count = absurd all
replies_all (o ∷ ops) (e ∷ echoes) [] tags all count = absurd all
replies_all (o ∷ ops) (e ∷ echoes) (g ∷ forms) [] all count = absurd (omega (arith, count))
replies_all (o ∷ ops) (e ∷ echoes) (g ∷ forms) (t ∷ tags) all count = (all.0 t false, replies_all ops echoes forms tags all.1 (omega (arith, count)))

answers_one : (close : Bool) (ops : List Op) (echoes : List Echo) (forms : List Form) (tags : List Tag) → AreForms ops echoes forms → length ops ≡ 1 → length tags ≡ length ops
    → (r : Reply) × Answers false close ops echoes tags r × (answer_by false close forms tags ≡ bytes_of r)
answers_one close [] echoes forms tags all one count = absurd (omega (arith, one))
answers_one close (o ∷ p ∷ ops) echoes forms tags all one count = absurd (omega (arith, one))
answers_one close (o ∷ []) [] forms tags all one count = absurd all
answers_one close (o ∷ []) (e ∷ echoes) [] tags all one count = absurd all
answers_one close (o ∷ []) (e ∷ f ∷ echoes) (g ∷ forms) tags all one count = absurd all.1
answers_one close (o ∷ []) (e ∷ []) (g ∷ forms) [] all one count = absurd (omega (arith, count))
answers_one close (o ∷ []) (e ∷ []) (g ∷ forms) (t ∷ u ∷ tags) all one count = absurd (omega (arith, count))
answers_one close (o ∷ []) (e ∷ []) (g ∷ forms) (t ∷ []) all one count = (reply_by g t close, all.0 t close, refl)

pub answers_all : (change_set close : Bool) (ops : List Op) (echoes : List Echo) (forms : List Form) → AreForms ops echoes forms → (change_set ≡ false → length ops ≡ 1)
    → (tags : List Tag) → length tags ≡ length ops → (r : Reply) × Answers change_set close ops echoes tags r × (answer_by change_set close forms tags ≡ bytes_of r)
answers_all true close ops echoes forms all one tags count = (accepted (replies_by forms tags) close, (replies_by forms tags, replies_all ops echoes forms tags all count, refl), refl)
answers_all false close ops echoes forms all one tags count = answers_one close ops echoes forms tags all (one refl) count

-- ---- the room of the whole, while it is written

no_bytes : (room : Vec ℕ) → room.items ≡ [] → vec_len room ≡ 0
no_bytes room e = room.ok.0 ∙ ap (λ (x : List ℕ). length x) e

pub size_is : (room after : Vec ℕ) (body : List ℕ) (size : ℕ) → room.items ≡ [] → Appends room body after → size ≡ vec_len after → size ≡ length body
size_is room after body size empty wrote is = omega (arith, is, wrote.len, no_bytes room empty)

-- the head comes to the front
pub turned : (room between after : Vec ℕ) (head body : List ℕ) (size : ℕ) → room.items ≡ [] → Appends room body between → Appends between head after → size ≡ length body → drop size after.items ++ take size after.items ≡ head ++ body
turned room between after head body size empty wrote more is =
    let items : after.items ≡ body ++ head = more.items ∙ ap (λ (x : List ℕ). x ++ head) (wrote.items ∙ ap (λ (x : List ℕ). x ++ body) empty) in
    ap (λ (x : List ℕ). drop size x ++ take size x) items
    ∙ ap (λ (x : List ℕ). x ++ take size (body ++ head)) (drop_at body head size (sym is))
    ∙ ap (λ (x : List ℕ). head ++ x) (take_at body head size (sym is))

-- ---- writing given replies

-- three pieces, one behind the other
pub three_pieces : (s t u v p q r : List ℕ) → t ≡ s ++ p → u ≡ t ++ q → v ≡ u ++ r → v ≡ s ++ (p ++ q ++ r)
three_pieces s t u v p q r a b c =
    c ∙ ap (λ (x : List ℕ). x ++ r) (b ∙ ap (λ (x : List ℕ). x ++ q) a ∙ append_assoc s p q) ∙ append_assoc s (p ++ q) r

-- one part more
pub part_more : (rs : List Reply) (at : ℕ) (r : Reply) (before so_far after : List ℕ) → at < length rs → r ≡ get_or rs at r → so_far ≡ before ++ flat_map part_bytes (take at rs) → after ≡ so_far ++ part_bytes r
    → after ≡ before ++ flat_map part_bytes (take (at + 1) rs)
part_more rs at r before so_far after inside is e f =
    let taken : take (at + 1) rs ≡ take at rs ++ r ∷ [] = take_more rs at r inside ∙ ap (λ (x : Reply). take at rs ++ x ∷ []) (sym is) in
    let parts : flat_map part_bytes (take (at + 1) rs) ≡ flat_map part_bytes (take at rs) ++ part_bytes r =
    ap (flat_map part_bytes) taken ∙ flat_map-append part_bytes (take at rs) (r ∷ []) ∙ ap (λ (x : List ℕ). flat_map part_bytes (take at rs) ++ x) (append-nil (part_bytes r)) in
    f ∙ ap (λ (x : List ℕ). x ++ part_bytes r) e ∙ append_assoc before (flat_map part_bytes (take at rs)) (part_bytes r) ∙ ap (λ (x : List ℕ). before ++ x) (sym parts)
