pub mod UndoLaws
mod Books
