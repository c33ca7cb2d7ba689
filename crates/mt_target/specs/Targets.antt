-- What the target of a request spells.
use Rattle.std.specs.Prelude.{◌≡◌, ℕ, List, IsUtf8}
use Rattle.std.specs.List.{AllByRecursion}
use Rattle.percent_encoding.specs.Percent.{percent_decode}
use Rattle.mt_target.specs.declared.target.QueryOption.{QueryOption}
use Rattle.mt_target.specs.declared.target.Target.{Target}
use Rattle.mt_target.specs.declared.target.Spelled.{Spelled}
use Rattle.mt_target.specs.Paths.{SpellsPath}
use Rattle.mt_target.specs.Options.{origin_of, path_in, options_in, IsText}

-- the target spells this path and these options: the path is decoded as one piece, and each name and each value by itself, all of which are texts
pub record Spells (text : List ℕ) (t : Target) (options : List QueryOption) : Type 0 where
  pub utf8 : IsUtf8 (percent_decode (path_in (origin_of text)))
  pub path : SpellsPath (percent_decode (path_in (origin_of text))) t
  pub texts : AllByRecursion IsText (options_in (origin_of text))
  pub options_are : options ≡ options_in (origin_of text)

abbrev pub SpellsIt : List ℕ → Spelled → Type 0
SpellsIt text s = Spells text s.target s.options
