-- An entry has one reply at a table.
use Rattle.std.proofs.Common.{◌≡◌, ◌∙◌, sym, ap}
use Rattle.mt_chain.specs.Table.{Table}
use Rattle.mt_history.specs.declared.entry.What.{What}
use Rattle.mt_history.specs.declared.entry.What.TheVariants as what
use Rattle.mt_history.specs.declared.model.Reply.{Reply}
use Rattle.mt_history.specs.declared.model.Reply.TheVariants as reply
use Rattle.mt_history.specs.Replies.{Replies, ShowsRows}
use Rattle.mt_history.proofs.ListingLaws.{one_listing}

one_rows : (table : Table) (r s : Reply) → ShowsRows r table → ShowsRows s table → r ≡ s
one_rows table r s x y = x.1 ∙ ap reply.Rows (one_listing x.0 y.0 table x.2 y.2) ∙ sym y.1

pub one_reply : (said : What) (table : Table) (r s : Reply) → Replies said table r → Replies said table s → r ≡ s
one_reply (what.Batch batch tags) table r s x y = x ∙ sym y
one_reply (what.Refused batch) table r s x y = x ∙ sym y
one_reply (what.Query pk wanted) table r s x y = one_rows _ r s x y
one_reply (what.Scan pk from upto wanted) table r s x y = one_rows _ r s x y
one_reply (what.Gap from to) table r s x y = x ∙ sym y
one_reply what.Fault table r s x y = x ∙ sym y
