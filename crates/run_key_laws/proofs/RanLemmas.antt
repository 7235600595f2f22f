-- What a run of a statement can be, handed on for the laws of runs. Declares nothing.
pub use Rattle.node_undo_laws.proofs.RanLemmas.{run_so, runs_at_table, reader_reads, changes_none}
