-- The replies that tell what the service reports are replies of this server.
use Rattle.std.proofs.Common.{◌≡◌, ◌∙◌, ℕ, Bool, true, false, List, [], ◌∷◌, ◌++◌, Ok, refl, sym, ap, subst, append_assoc, append-nil, arith}
use Rattle.std.specs.Prelude.{codes, decimal}
use Rattle.json.specs.Token.{string}
use Rattle.json.specs.Print.{escape, quoted, print, print_from}
use Rattle.mt_http_out.specs.declared.reply.Reply.{Reply}
use Rattle.mt_http_out.specs.declared.reply.ReplyField.{ReplyField}
use Rattle.mt_http_out.specs.Rendering.{IsReply}
use Rattle.mt_front.specs.Refusals.{json_type, error_object, error_fields, Makes}
use Rattle.mt_front.specs.Reports.{truth_text, stepped_body, status_body, not_migrated, json_reply, sealed_reply, unmigrated_reply}
use Rattle.mt_front.proofs.RefusalLaws.{error_made}
use Rattle.std.specs.Prelude.{None}

json_is : (body : List ℕ) (close : Bool) → IsReply (json_reply body close)
json_is body close = record { status = refl; fields = refl; body = λ is. absurd (omega (arith, is)) }

-- 200 with these parts
pub json_made : (fields : List ReplyField) (body text : List ℕ) (close : Bool) → fields ≡ json_type ∷ [] → body ≡ text → Makes (json_reply text close) (Ok (record { status = 200; fields = fields; body = body; close = close }))
json_made fields body text close f b =
    let same : ◌≡◌ {A = Reply} (record { status = 200; fields = fields; body = body; close = close }) (json_reply text close) =
    ap (λ z. record { status = 200; fields = z; body = body; close = close }) f ∙ ap (λ z. record { status = 200; fields = json_type ∷ []; body = z; close = close }) b in
    (same, subst IsReply (sym same) (json_is text close))

-- 204
pub sealed_made : (fields : List ReplyField) (body : List ℕ) (close : Bool) → fields ≡ [] → body ≡ [] → Makes (sealed_reply close) (Ok (record { status = 204; fields = fields; body = body; close = close }))
sealed_made fields body close f b =
    let same : ◌≡◌ {A = Reply} (record { status = 204; fields = fields; body = body; close = close }) (sealed_reply close) =
    ap (λ z. record { status = 204; fields = z; body = body; close = close }) f ∙ ap (λ z. record { status = 204; fields = []; body = z; close = close }) b in
    (same, subst IsReply (sym same) (record { status = refl; fields = refl; body = λ is. refl }))

-- 409 with a partition
pub unmigrated_made : (fields : List ReplyField) (body pk : List ℕ) (close : Bool) → fields ≡ json_type ∷ [] → body ≡ error_object (codes "NotMigrated") (escape (not_migrated pk)) → Makes (unmigrated_reply pk close) (Ok (record { status = 409; fields = fields; body = body; close = close }))
unmigrated_made fields body pk close f b = error_made None 409 fields body (codes "NotMigrated") (escape (not_migrated pk)) close refl f b

-- a text that is printed alone stands in its quotes
pub printed_alone : (text : List ℕ) → print (string text ∷ []) ≡ quoted text
unfolding print_from
printed_alone text = append-nil (quoted text)

-- between the two ends of the error object it is the object with the escaped text
pub object_quoted : (sentence : List ℕ) → (codes "{\"odata.error\":{\"code\":\"NotMigrated\",\"message\":{\"lang\":\"en-US\",\"value\":" ++ quoted sentence) ++ codes "}}}" ≡ error_object (codes "NotMigrated") (escape sentence)
object_quoted sentence =
    append_assoc (codes "{\"odata.error\":{\"code\":\"NotMigrated\",\"message\":{\"lang\":\"en-US\",\"value\":") (quoted sentence) (codes "}}}")
    ∙ ap (λ z. codes "{\"odata.error\":{\"code\":\"NotMigrated\",\"message\":{\"lang\":\"en-US\",\"value\":\"" ++ z) (append_assoc (escape sentence) (codes "\"") (codes "}}}"))
