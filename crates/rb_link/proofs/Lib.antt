pub mod LastRules
pub mod PairIndex
pub mod Latest
pub mod NodeRows
