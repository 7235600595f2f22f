mod Appends
mod WriteLaws
mod PrintLaws
mod PartForms
mod ChangeForms
mod CatalogForms
mod TransactionForms
pub mod RoundTrip
