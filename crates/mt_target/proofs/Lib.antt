mod SplitLaws
mod OptionLaws
mod QuotedLaws
mod PathLaws
