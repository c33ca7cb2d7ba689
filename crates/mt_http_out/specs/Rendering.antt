-- The bytes of a reply: a response of HTTP/1.1 (RFC 9112).
use Rattle.std.specs.Prelude.{◌≡◌, ℕ, ◌==◌, nat_eq, Bool, true, false, IsTrue, List, [], ◌∷◌, ◌++◌, length, map, flat_map, codes, decimal, unwrap_or, if◌then◌else◌}
use Rattle.std.specs.Str.{bytes_eq}
use Rattle.std.specs.Set.{is_member}
use Rattle.http.specs.StatusCode.{reason_phrase}
use Rattle.mt_http_out.specs.declared.reply.Reply.{Reply}
use Rattle.mt_http_out.specs.declared.reply.ReplyField.{ReplyField}

-- ---- what a reply may be

-- the statuses of the server's replies
abbrev pub statuses : List ℕ
statuses = 200 ∷ 201 ∷ 202 ∷ 204 ∷ 400 ∷ 404 ∷ 405 ∷ 409 ∷ 410 ∷ 412 ∷ 413 ∷ 500 ∷ 501 ∷ 503 ∷ 507 ∷ []

-- the names of the fields that a reply may have beside Content-Type, Content-Length and Connection
abbrev pub further_names : List (List ℕ)
further_names = codes "ETag" ∷ codes "Preference-Applied" ∷ codes "x-ms-continuation-NextPartitionKey" ∷ codes "x-ms-continuation-NextRowKey" ∷ codes "Allow" ∷ []

-- the names of the fields that a reply of that status may be given, in their order; a 204 has no Content-Type
abbrev pub names_at : ℕ → List (List ℕ)
names_at status = if status == 204 then further_names else codes "Content-Type" ∷ further_names

-- these are some of those names, in their order, each once where the names are distinct
abbrev pub are_some_of : List (List ℕ) → List (List ℕ) → Bool
are_some_of names [] = true
are_some_of [] (x ∷ xs) = false
are_some_of (n ∷ names) (x ∷ xs) = if bytes_eq n x then are_some_of names xs else are_some_of names (x ∷ xs)

-- a reply that this server gives
pub record IsReply (r : Reply) : Type 0 where
  pub status : IsTrue (is_member nat_eq statuses r.status)
  pub fields : IsTrue (are_some_of (names_at r.status) (map (λ f. f.name) r.fields))
  pub body : r.status ≡ 204 → r.body ≡ []

-- ---- its bytes

abbrev pub line_end : List ℕ
line_end = codes "\r\n"

-- the reason phrase of a status, where it has one
unfoldable pub phrase_of : ℕ → List ℕ
phrase_of status = unwrap_or (reason_phrase status) []

abbrev pub status_line : ℕ → List ℕ
status_line status = codes "HTTP/1.1 " ++ decimal status ++ codes " " ++ phrase_of status ++ line_end

-- the line of a field of that name and value
abbrev pub line_of : List ℕ → List ℕ → List ℕ
line_of name value = name ++ codes ": " ++ value ++ line_end

-- the lines of these fields
abbrev pub field_lines : List ReplyField → List ℕ
field_lines fields = flat_map (λ f. line_of f.name f.value) fields

-- the length of the body, which a 204 does not say
abbrev pub length_line : ℕ → ℕ → List ℕ
length_line status size = if status == 204 then [] else line_of (codes "Content-Length") (decimal size)

-- the field that ends the connection, where it ends
abbrev pub close_line : Bool → List ℕ
close_line close = if close then line_of (codes "Connection") (codes "close") else []

-- the head of a reply whose body has that many bytes, and the empty line behind it
abbrev pub head_bytes : ℕ → List ReplyField → ℕ → Bool → List ℕ
head_bytes status fields size close = status_line status ++ field_lines fields ++ length_line status size ++ close_line close ++ line_end

-- a reply of that status with these fields and this body, behind which the connection goes on or ends
abbrev pub reply_bytes : ℕ → List ReplyField → List ℕ → Bool → List ℕ
reply_bytes status fields body close = head_bytes status fields (length body) close ++ body

-- the bytes of a reply, behind which the connection goes on or ends, whatever its own field says
abbrev pub bytes_closing : Bool → Reply → List ℕ
bytes_closing close r = reply_bytes r.status r.fields r.body close

abbrev pub bytes_of : Reply → List ℕ
bytes_of r = bytes_closing r.close r

-- the bytes of a reply that stands in a multipart body, which has no Connection
abbrev pub inner_bytes : Reply → List ℕ
inner_bytes r = bytes_closing false r
