-- The reply that shows a page.
use Rattle.std.proofs.Common.{Bool, List, ◌∷◌, Ok, Err, refl}
use Rattle.std.specs.Prelude.{Result, Option, Some, None, IfOk, IsTrue, map}
use Rattle.mt_model.specs.declared.text.NoMemory.{NoMemory}
use Rattle.mt_http_out.specs.declared.reply.Reply.{Reply}
use Rattle.mt_http_out.specs.Rendering.{bytes_of, names_at, are_some_of}
use Rattle.mt_chain.specs.declared.query.PkFrom.TheVariants as part
use Rattle.mt_mime.specs.Replies.{json_field}
use Rattle.mt_scan.specs.declared.unit.Page.{Page}
use Rattle.mt_scan.specs.declared.unit.Token.{Token}
use Rattle.mt_scan.specs.declared.unit.Token.TheVariants as token
use Rattle.mt_world.specs.declared.actor.Answer.TheVariants as answer
use Rattle.mt_world.specs.WholeCalls.{Mark}
use Rattle.mt_front.specs.declared.pages.PageRead.{PageRead}
use Rattle.mt_front.specs.PageReplies.{continuation_fields, ShowsPage}
use Rattle.mt_front.specs.PageUnits.{LeavesPage}
use Rattle.mt_front.specs.Items.{Paged, entries_of, RendersPage}

-- the fields of a page's reply are some of those that a reply may have, in their order
pub fields_fit : (t : Option Token) → IsTrue (are_some_of (names_at 200) (map (λ f. f.name) (json_field ∷ continuation_fields t)))
fields_fit None = refl
fields_fit (Some (token.Row key)) = refl
fields_fit (Some (token.Part (part.From pk))) = refl
fields_fit (Some (token.Part (part.After pk))) = refl

-- a reply that shows the page is that of the read
pub page_shown : (q : PageRead) (page : Page) (close : Bool) (made : Result Reply NoMemory) → IfOk made (ShowsPage q.show page close)
    → IfOk made (λ reply. (marks : List Mark) → LeavesPage q.filter q.top q.token (Ok (answer.Page page)) (entries_of marks) → RendersPage q (Paged page) marks close (bytes_of reply))
page_shown q page close (Ok reply) h = λ marks left. (left, (reply, h, refl))
page_shown q page close (Err e) h = tt
