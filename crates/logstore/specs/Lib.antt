pub mod Examples
pub mod Log
pub mod LogStores
