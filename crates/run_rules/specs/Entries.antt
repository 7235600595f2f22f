-- The entries of records, and the book of a trace, handed on. Declares nothing.
pub use Rattle.book.specs.Entries.{entry_of, entries_of, entries_in, book_of}
