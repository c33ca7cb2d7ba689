-- The replies that tell what the service reports.
use Rattle.std.specs.Prelude.{ℕ, Bool, true, false, List, [], ◌∷◌, ◌++◌, codes, decimal}
use Rattle.json.specs.Print.{escape}
use Rattle.mt_http_out.specs.declared.reply.Reply.{Reply}
use Rattle.mt_front.specs.declared.services.Report.{Report}
use Rattle.mt_front.specs.declared.services.Report.TheVariants.{Stepped, NotSealed, NotMigrated, Sealed, Status}
use Rattle.mt_front.specs.Refusals.{json_type, error_reply}

-- a truth value as JSON has it
abbrev pub truth_text : Bool → List ℕ
truth_text true = codes "true"
truth_text false = codes "false"

-- whether the machine is done, and how many turns were taken
abbrev pub stepped_body : Bool → ℕ → List ℕ
stepped_body done steps = codes "{\"done\":" ++ (truth_text done ++ (codes ",\"steps\":" ++ (decimal steps ++ codes "}")))

-- how far the migration is
abbrev pub status_body : ℕ → ℕ → Bool → List ℕ
status_body entries generation retired = codes "{\"entries\":" ++ (decimal entries ++ (codes ",\"generation\":" ++ (decimal generation ++ (codes ",\"retired\":" ++ (truth_text retired ++ codes "}")))))

-- the sentence that names a partition
abbrev pub not_migrated : List ℕ → List ℕ
not_migrated pk = codes "Not migrated: " ++ pk

-- 200 with this JSON
abbrev pub json_reply : List ℕ → Bool → Reply
json_reply body close = record { status = 200; fields = json_type ∷ []; body = body; close = close }

-- 204
abbrev pub sealed_reply : Bool → Reply
sealed_reply close = record { status = 204; fields = []; body = []; close = close }

-- 409 with the partition, as a JSON text has it
abbrev pub unmigrated_reply : List ℕ → Bool → Reply
unmigrated_reply pk close = error_reply 409 (codes "NotMigrated") (escape (not_migrated pk)) close

-- the reply that tells a report, behind which the connection ends or goes on
abbrev pub report_reply : Report → Bool → Reply
report_reply (Stepped done steps) close = json_reply (stepped_body done steps) close
report_reply NotSealed close = error_reply 409 (codes "NotSealed") (codes "The old store is not sealed.") close
report_reply (NotMigrated pk) close = unmigrated_reply pk close
report_reply Sealed close = sealed_reply close
report_reply (Status entries generation retired) close = json_reply (status_body entries generation retired) close
