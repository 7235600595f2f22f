mod PartLaws
mod LiteralLaws
mod ConditionLaws
mod ChangeLaws
mod CatalogLaws
mod TransactionLaws
pub mod StatementLaws
pub mod ParseLaws
mod SpellLaws
pub mod WholeLaws
