pub mod Parts
pub mod Literals
pub mod Conditions
pub mod Changes
pub mod Catalog
pub mod Transactions
pub mod Statement
