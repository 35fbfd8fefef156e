pub mod PathLemmas
pub mod FunctionLemmas
pub mod ReadLemmas
pub mod Growth
pub mod ChainLemmas
pub mod NetLemmas
pub mod ServedLemmas
pub mod StopLemmas
