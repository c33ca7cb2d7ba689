-- The reply that shows a page.
use Rattle.std.specs.Prelude.{◌≡◌, ℕ, Bool, List, [], ◌∷◌, codes, Option, Some, None}
use Rattle.mt_chain.specs.declared.query.PkFrom.TheVariants as part
use Rattle.mt_http_out.specs.declared.reply.Reply.{Reply}
use Rattle.mt_http_out.specs.declared.reply.ReplyField.{ReplyField}
use Rattle.mt_mime.specs.Replies.{field, json_field, reply_with}
use Rattle.mt_options.specs.declared.shows.Show.{Show}
use Rattle.mt_options.specs.declared.tokens.Token.{Token as WrittenToken}
use Rattle.mt_options.specs.declared.tokens.Token.TheVariants as written
use Rattle.mt_options.specs.Tokens.{partition_text, row_text}
use Rattle.mt_scan.specs.declared.unit.Page.{Page}
use Rattle.mt_scan.specs.declared.unit.Token.{Token}
use Rattle.mt_scan.specs.declared.unit.Token.TheVariants as token
use Rattle.mt_front.specs.Reads.{AreTexts, list_body}

-- a token as a request may give it again
abbrev pub written_token : Token → WrittenToken
written_token (token.Row key) = written.After key.pk key.rk
written_token (token.Part (part.From pk)) = written.From pk
written_token (token.Part (part.After pk)) = written.Past pk

abbrev pub row_fields : Option (List ℕ) → List ReplyField
row_fields None = []
row_fields (Some text) = field (codes "x-ms-continuation-NextRowKey") text ∷ []

-- the fields with these texts of a place, that of a partition, and perhaps that of a row
abbrev pub place_fields : List ℕ → Option (List ℕ) → List ReplyField
place_fields partition row = field (codes "x-ms-continuation-NextPartitionKey") partition ∷ row_fields row

abbrev pub token_fields : WrittenToken → List ReplyField
token_fields t = place_fields (partition_text t) (row_text t)

-- the fields that say where the next page begins, if there is one
abbrev pub continuation_fields : Option Token → List ReplyField
continuation_fields None = []
continuation_fields (Some t) = token_fields (written_token t)

-- 200 with the rows, whose texts these are, and the token
abbrev pub page_reply : Option Token → List (List ℕ) → Bool → Reply
page_reply token texts close = reply_with 200 (json_field ∷ continuation_fields token) (list_body texts) close

-- the reply shows all rows of the page, in their order, and where the next one begins
abbrev pub ShowsPage : Show → Page → Bool → Reply → Type 0
ShowsPage show page close r = (texts : List (List ℕ)) × AreTexts show page.rows texts × (r ≡ page_reply page.token texts close)
