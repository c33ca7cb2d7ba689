-- Pages of the table that are asked for.
use Rattle.std.specs.Prelude.{◌≡◌, ◌⊎◌, ℕ, ◌≤◌, decimal, List, codes, Option, Some, None, IfSome, Ok}
use Rattle.mt_filter.specs.declared.filter.Filter.{Filter}
use Rattle.mt_chain.specs.declared.query.PkFrom.TheVariants as part
use Rattle.mt_chain.specs.Rows.{key_at}
use Rattle.mt_scan.specs.declared.unit.Token.{Token as PageToken}
use Rattle.mt_scan.specs.declared.unit.Token.TheVariants as page
use Rattle.mt_scan.specs.Pages.{IsKeyedToken}
use Rattle.mt_http_in.specs.declared.fields.Field.{Field}
use Rattle.mt_target.specs.declared.target.QueryOption.{QueryOption}
use Rattle.mt_options.specs.declared.tokens.Token.{Token}
use Rattle.mt_options.specs.declared.tokens.Token.TheVariants.{From, After, Past}
use Rattle.mt_options.specs.declared.tokens.TokenRead.TheVariants.{Absent, Is, Unreadable}
use Rattle.mt_options.specs.Values.{value_of}
use Rattle.mt_front.specs.declared.refusals.BadRequest.TheVariants.{InvalidQuery}
use Rattle.mt_front.specs.declared.asks.Asked.{Asked}
use Rattle.mt_front.specs.declared.asks.Asked.TheVariants as asked
use Rattle.mt_front.specs.declared.pages.PageRead.{PageRead}
use Rattle.mt_front.specs.Services.{MayOrder}
use Rattle.mt_front.specs.Reads.{IsShown, TokenReads, FilteredBy}

-- ---- how many rows

-- so many rows at most: 1,000 without $top, else the number from 1 to 1,000 that it spells
abbrev pub IsTop : Option (List ℕ) → ℕ → Type 0
IsTop None top = top ≡ 1000
IsTop (Some text) top = (text ≡ decimal top) × (1 ≤ top) × (top ≤ 1000)

-- $top is there, and spells no such number
abbrev pub IsNoTop : Option (List ℕ) → Type 0
IsNoTop value = (top : ℕ) → IsTop value top → ⊥

-- ---- where a page begins

-- the place that a token names: from a partition on, past a row, or past a partition
abbrev pub place_by : Token → PageToken
place_by (From pk) = page.Part (part.From pk)
place_by (After pk rk) = page.Row (key_at pk rk)
place_by (Past pk) = page.Part (part.After pk)

-- a page begins at the first row without a token, else at the place that the token names
abbrev pub BeginsAt : List QueryOption → Option PageToken → Type 0
BeginsAt options None = TokenReads options (Ok Absent)
BeginsAt options (Some place) = (t : Token) × TokenReads options (Ok (Is t)) × (place ≡ place_by t)

-- ---- what is asked for

-- $top is no number of rows, or the continuation token cannot be read
abbrev pub IsBadPage : List QueryOption → Type 0
IsBadPage options = IsNoTop (value_of (codes "$top") options) ⊎ TokenReads options (Ok Unreadable)

-- the page that the options name, of all rows
pub record IsPageOfAll (options : List QueryOption) (fields : List Field) (q : PageRead) : Type 0 where
  pub filter_is : q.filter ≡ None
  pub top_is : IsTop (value_of (codes "$top") options) q.top
  pub begins : BeginsAt options q.token
  pub shown : IsShown options fields q.show

-- the same page, or that it cannot be
abbrev pub PageBy : List QueryOption → List Field → Option PageRead → Type 0
PageBy options fields None = IsBadPage options
PageBy options fields (Some q) = IsPageOfAll options fields q

-- the page of the rows that a filter matches
abbrev pub filtered : PageRead → Filter → PageRead
filtered q filter = record { filter = Some filter; top = q.top; token = q.token; show = q.show }

-- what a page asks for with that text of a filter, or with none
abbrev pub AsksPageWith : Option (List ℕ) → PageRead → Asked → Type 0
AsksPageWith None q a = a ≡ asked.Page q
AsksPageWith (Some text) q a = FilteredBy text (λ filter. a ≡ asked.Page (filtered q filter)) a

-- what a GET on the table asks for that is not atomic
abbrev pub AsksPage : List QueryOption → List Field → Asked → Type 0
AsksPage options fields a =
    (IsBadPage options × (a ≡ asked.Refused InvalidQuery))
    ⊎ ((IsBadPage options → ⊥) × ((q : PageRead) × IsPageOfAll options fields q × AsksPageWith (value_of (codes "$filter") options) q a))

-- ---- what may be tried

-- a page has from 1 to 1,000 rows at most, and the texts of its token meet the rules of keys
abbrev pub MayPage : PageRead → Type 0
MayPage q = (1 ≤ q.top) × (q.top ≤ 1000) × IfSome q.token IsKeyedToken

-- so is a page that is asked for, and an order
abbrev pub MayTry : Asked → Type 0
MayTry (asked.Page q) = MayPage q
MayTry (asked.Write w) = Unit {0}
MayTry (asked.Read q) = Unit {0}
MayTry (asked.Admin order) = MayOrder order
MayTry (asked.Refused r) = Unit {0}
MayTry (asked.RefusedPart r) = Unit {0}
