pub mod UndoRuns
