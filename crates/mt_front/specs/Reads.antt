-- Rows of one partition that are asked for, and the replies that show them.
use Rattle.std.specs.Prelude.{◌≡◌, ◌⊎◌, ℕ, Bool, true, false, List, [], ◌∷◌, ◌++◌, codes, Option, Some, None, option_map, Result, Ok}
use Rattle.std.specs.List.{flat_map}
use Rattle.mt_model.specs.declared.text.NoMemory.{NoMemory}
use Rattle.mt_model.specs.declared.tag.Tag.{Tag}
use Rattle.mt_model.specs.declared.entity.Entity.{Entity}
use Rattle.mt_model.specs.declared.value.Value.TheVariants.{Str}
use Rattle.mt_filter.specs.declared.filter.Compare.TheVariants.{Eq}
use Rattle.mt_filter.specs.declared.filter.Field.TheVariants.{PartitionKey, RowKey}
use Rattle.mt_filter.specs.declared.filter.Filter.{Filter}
use Rattle.mt_filter.specs.Tree.{Tree, test, and, tree_of}
use Rattle.mt_json.specs.Written.{IsWritten}
use Rattle.mt_chain.specs.declared.op.Cause.TheVariants.{NotFound}
use Rattle.mt_http_out.specs.declared.reply.Reply.{Reply}
use Rattle.mt_mime.specs.Replies.{json_field, tag_field, reply_with}
use Rattle.mt_front.specs.declared.reads.Shape.{Shape}
use Rattle.mt_front.specs.declared.reads.Shape.TheVariants.{One, All}
use Rattle.mt_front.specs.declared.reads.Read.{Read}
use Rattle.mt_options.specs.declared.shows.Show.{Show}
use Rattle.mt_options.specs.declared.tokens.TokenRead.{TokenRead}
use Rattle.mt_options.specs.declared.tokens.TokenRead.TheVariants.{Unreadable}
use Rattle.mt_options.specs.Values.{value_of}
use Rattle.mt_options.specs.Shows.{shown_level, shown_names}
use Rattle.mt_options.specs.Tokens.{ReadsToken}
use Rattle.mt_target.specs.declared.target.QueryOption.{QueryOption}
use Rattle.mt_target.specs.Options.{has_option}
use Rattle.mt_http_in.specs.declared.fields.Field.{Field}
use Rattle.mt_http_in.specs.Fields.{first_value}
use Rattle.mt_model.specs.declared.key.Key.{Key}
use Rattle.mt_model.specs.Key.{key_fault}
use Rattle.mt_chain.specs.Rows.{key_at}
use Rattle.mt_filter.specs.declared.filter.FilterKind.{FilterKind}
use Rattle.mt_filter.specs.Grammar.{IsFilter, IsBad as IsBadFilter}
use Rattle.mt_match.specs.Partition.{atomic_partition}
use Rattle.mt_front.specs.declared.refusals.BadRequest.TheVariants.{InvalidQuery, InvalidFilter, AtomicNeedsPartition}
use Rattle.mt_front.specs.declared.asks.Asked.{Asked}
use Rattle.mt_front.specs.declared.asks.Asked.TheVariants as asked
use Rattle.mt_front.specs.Refused.{KeyedBy}
use Rattle.mt_front.specs.Refusals.{cause_reply}

-- the text is the row's, as it is shown
abbrev pub IsText : Show → Entity → List ℕ → Type 0
IsText show row text = IsWritten row show.level (option_map (λ v. v.items) show.select) text

-- ---- one row

-- 200 with the row, whose text this is
abbrev pub row_reply : Tag → List ℕ → Bool → Reply
row_reply tag text close = reply_with 200 (json_field ∷ tag_field tag ∷ []) text close

-- the reply shows the first row, or says that there is none
abbrev pub ShowsFirst : Show → List Entity → Bool → Reply → Type 0
ShowsFirst show [] close r = r ≡ cause_reply NotFound close
ShowsFirst show (row ∷ rows) close r = (text : List ℕ) × IsText show row text × (r ≡ row_reply row.tag text close)

-- ---- lists

-- the texts are those of the rows, in their order
abbrev pub AreTexts : Show → List Entity → List (List ℕ) → Type 0
AreTexts show [] [] = Unit {0}
AreTexts show [] (t ∷ ts) = ⊥
AreTexts show (row ∷ rows) [] = ⊥
AreTexts show (row ∷ rows) (t ∷ ts) = IsText show row t × AreTexts show rows ts

-- texts, each but the first behind a comma
abbrev pub with_commas : List (List ℕ) → List ℕ
with_commas [] = []
with_commas (t ∷ ts) = t ++ flat_map (λ u. codes "," ++ u) ts

-- the list of the rows whose texts these are
abbrev pub list_body : List (List ℕ) → List ℕ
list_body texts = codes "{\"value\":[" ++ with_commas texts ++ codes "]}"

-- 200 with the rows, whose texts these are
abbrev pub list_reply : List (List ℕ) → Bool → Reply
list_reply texts close = reply_with 200 (json_field ∷ []) (list_body texts) close

-- the reply shows all rows, in their order
abbrev pub ShowsAll : Show → List Entity → Bool → Reply → Type 0
ShowsAll show rows close r = (texts : List (List ℕ)) × AreTexts show rows texts × (r ≡ list_reply texts close)

-- the reply to a read of that shape, which found these rows
abbrev pub ShowsRows : Shape → Show → List Entity → Bool → Reply → Type 0
ShowsRows One show rows close r = ShowsFirst show rows close r
ShowsRows All show rows close r = ShowsAll show rows close r

-- ---- the row of a key

-- the test for the row of that key, of its two parts
abbrev pub key_tree : List ℕ → List ℕ → Tree
key_tree pk rk = and (test PartitionKey Eq (Str pk)) (test RowKey Eq (Str rk))

-- the filter is that test
abbrev pub IsKeyFilter : List ℕ → List ℕ → Option Filter → Type 0
IsKeyFilter pk rk filter = (f : Filter) × (filter ≡ Some f) × (tree_of f ≡ key_tree pk rk)

-- ---- what is asked for

-- so much is shown as $select, $format and Accept say
pub record IsShown (options : List QueryOption) (fields : List Field) (show : Show) : Type 0 where
  pub level : show.level ≡ shown_level options (first_value (codes "accept") fields)
  pub names : option_map (λ v. v.items) show.select ≡ shown_names options

-- the read of the row of a key
pub record IsRowRead (key : Key) (options : List QueryOption) (fields : List Field) (q : Read) : Type 0 where
  pub pk : q.pk ≡ key.pk
  pub filter : IsKeyFilter key.pk key.rk q.filter
  pub shape : q.shape ≡ One
  pub show : IsShown options fields q.show

-- what a GET on the entity of these keys asks for
abbrev pub AsksRow : List ℕ → List ℕ → List QueryOption → List Field → Asked → Type 0
AsksRow pk rk options fields a =
    KeyedBy asked.Refused (key_fault pk rk) ((q : Read) × IsRowRead (key_at pk rk) options fields q × (a ≡ asked.Read q)) a

-- the options of a continuation token say this
abbrev pub TokenReads : List QueryOption → Result TokenRead NoMemory → Type 0
TokenReads options said = ReadsToken (value_of (codes "NextPartitionKey") options) (value_of (codes "NextRowKey") options) said

-- an atomic query has no $top, and a continuation token must be one
abbrev pub IsBad : List QueryOption → Type 0
IsBad options = (has_option (codes "$top") options ≡ true) ⊎ TokenReads options (Ok Unreadable)

abbrev pub BadAs : List QueryOption → Bool → Type 0
BadAs options true = IsBad options
BadAs options false = IsBad options → ⊥

-- the read of the rows that a filter matches, of the partition that it names
pub record IsRowsRead (pk : List ℕ) (filter : Filter) (options : List QueryOption) (fields : List Field) (q : Read) : Type 0 where
  pub pk_is : q.pk ≡ pk
  pub filter_is : q.filter ≡ Some filter
  pub shape : q.shape ≡ All
  pub show : IsShown options fields q.show

-- what a filter asks for that names this partition, or none
abbrev pub AsksPartition : Option (List ℕ) → Filter → List QueryOption → List Field → Asked → Type 0
AsksPartition None filter options fields a = a ≡ asked.Refused AtomicNeedsPartition
AsksPartition (Some pk) filter options fields a = (q : Read) × IsRowsRead pk filter options fields q × (a ≡ asked.Read q)

-- the text is a filter and then this is asked for with it, or it cannot be read, and its place is told
abbrev pub FilteredBy : List ℕ → (Filter → Type 0) → Asked → Type 0
FilteredBy text then a =
    ((filter : Filter) × IsFilter text (tree_of filter) × then filter)
    ⊎ ((at : ℕ) × (kind : FilterKind) × IsBadFilter text at kind × (a ≡ asked.Refused (InvalidFilter at)))

-- what a query asks for with that text of a filter, or with none
abbrev pub AsksFiltered : Option (List ℕ) → List QueryOption → List Field → Asked → Type 0
AsksFiltered None options fields a = a ≡ asked.Refused AtomicNeedsPartition
AsksFiltered (Some text) options fields a = FilteredBy text (λ filter. AsksPartition (atomic_partition (tree_of filter)) filter options fields a) a

-- what an atomic GET on the table asks for
abbrev pub AsksRows : List QueryOption → List Field → Asked → Type 0
AsksRows options fields a =
    (IsBad options × (a ≡ asked.Refused InvalidQuery)) ⊎ ((IsBad options → ⊥) × AsksFiltered (value_of (codes "$filter") options) options fields a)
