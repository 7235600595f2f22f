pub mod UndoRunLemmas
