pub mod KeyLaws
pub mod TextOrder
pub mod TwoLists
pub mod RangeRows
pub mod Searches
pub mod OneList
pub mod RowLaws
pub mod PutLaws
pub mod JudgeLaws
pub mod OrderLaws
pub mod SearchLaws
mod BatchLaws
pub mod Theorems
mod ModelLaws
mod MergeLaws
