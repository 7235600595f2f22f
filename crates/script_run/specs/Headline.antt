-- What a run claims.
use Rattle.std.specs.Prelude.{◌≡◌, []}
use Rattle.run_rules.specs.Each.{AtEach}
use Rattle.run_rules.specs.Entries.{book_of}
use Rattle.run_rules.specs.Lawful.{History, AreOfAScript, IsLawfulRun}
use Rattle.run_rules.specs.Reported.{IsReported, Ending}
use Rattle.run_rules.specs.Scripts.{places_of, IsTheRunOf}
use Rattle.run_rules.specs.Book.{Agreement, MixedIsMarked, ScnLaw}
use Rattle.run_claims.specs.Knowledge.{Knowledge}
use Rattle.run_claims.specs.Meanings.{RunsAreMeant}
use Rattle.run_claims.specs.Places.{AnswersHavePlaces}
use Rattle.run_claims.specs.Site.{SiteDecides, Coverage}
use Rattle.run_claims.specs.ReportedDone.{ReportsWhatIsDone}
use Rattle.run_claims.specs.CommitCourse.{QuietCommitsAreDone}
use Rattle.answer_laws.specs.PendingCalls.{CallsEndFirst}
use Rattle.commit_answer_laws.specs.CauseLaws.{CauseEnds}
use Rattle.commit_answer_laws.specs.CommitLines.{CommitAnswersAreTrue}
use Rattle.commit_obey_laws.specs.ObeyLaws.{Obedience}
use Rattle.node_purge_laws.specs.LeftOutLaws.{PurgesChangeNothing}
use Rattle.repeat_read_laws.specs.RepeatLaws.{ReaderReadsTheSame}
use Rattle.run_undo_laws.specs.UndoRuns.{UndoIsKept}
use Rattle.start_laws.specs.StartLaws.{StartsRestore}
use Rattle.view_laws.specs.ReportedViews.{ViewsAreAmong}
use Rattle.view_laws.specs.ViewLaws.{ViewsOf}
use Rattle.answer_once_laws.specs.OnceLaws.{EachIsAnsweredOnce, AllAreAnsweredOnce, LaterAnswersStandWhereCallsEnd}
use Rattle.script_run.specs.declared.outcome.Run.{Run}

-- a run over the nodes that its script makes, as the laws of runs have it
abbrev pub history_of : (run : Run) → AreOfAScript (places_of run.commands) run.commands → History
history_of run script = record { places = places_of run.commands; commands = run.commands; of_a_script = script; trace = run.trace }

-- Each happening is the one that is due, with the record and the messages that the rules give, and so it may come where it
-- came: no message comes twice unless it is repeated, over no cut pair, to no node that is down. The book has the entries of
-- the records that were written. The lines answer the commands in order: each is the one that the rules give at its
-- happening, and SHOW DISK shows bytes that stand for the records so far. Each command that was done has one answer, or
-- `waiting` and one answer more once its call has ended, with the command in whose course it ended; what else has its number
-- is a notice. SHOW PENDING and SHOW NEIGHBORS print just the rows of the branches that by the records are prepared, committed or forced
-- there, and SHOW PENDING those that are collecting.
-- After each start a node has, at each key that is not in doubt, the row that the book leaves there; the keys of its branches in
-- doubt are locked, and no others; its catalog and kept rows are those of its records; and nobody is live there. A node keeps the
-- rows from before its branches' changes within its undo extents, and a start needs no more of them than the node used before.
-- Each record of a turn, and each Exec, Abort, ReadOnly and Committed, has its cause in what came to its branch and what
-- happened before. Where a node runs a query, it answers the query's meaning over the rows that the book leaves there, with
-- the changes of the asking branch, and examines no key in doubt; a change counts the rows that it means. A query of a READ
-- ONLY transaction answers its meaning over the rows up to its SCN; these stay while its branch lives, at each key that was
-- not in doubt, unless a branch of that node is forced to commit at an SCN up to it. What a client is answered is what a run
-- answered, at the table to which the names in its statement lead. What a client is told is created, set, forced or purged is
-- on the disk, and such a record is written for no other call.
-- A call is pending from the turn in which it comes until the first thing that can end it: for a statement the Reply to what its
-- root sent down last, or its being given up, and so for a ROLLBACK TO once all children have gone back; for a COMMIT what its
-- answer says; for each the stop of its node.
-- What a client is told of a COMMIT is true: by Commit complete its transaction is decided in the book, or none of its session
-- tree had changes, or it was READ ONLY, or the session had no transaction; by ORA-02050 no branch of it is ever decided; by
-- ORA-02053 one is; by ORA-02054 its root was in doubt then. Each has its cause in the turn that answered it. A
-- COMMIT that nothing disturbs, that of a CREATE too, is answered Commit complete, its site has decided, its sealed branches
-- end with commit, and no node keeps a branch of it, unless its transaction is READ ONLY, of which this is not said. A decision
-- that comes to a sealed branch from its neighbour on the way to the commit point site is written at once: the branch ends with
-- it, or notes how it met it, if it was forced. Until it ends with a rollback, or forgets, its node keeps its row, and the row of
-- a mixed outcome for ever. A purge hides a row and changes nothing else: take all purges out, and what is left is a run with
-- the same book, the same messages and the same answers, in which images alone say of other rows that they are hidden.
-- Each decision is made by the commit point site of its session tree, once every other branch with changes on it or below it is
-- sealed; a branch is sealed or decided with the changes that its own statements made, and a seal names the neighbour on the
-- way to the site. Branches end as their site decided, mixed outcomes are marked, and the SCN law holds.
pub record IsRun (run : Run) (ending : Ending) : Type 0 where
  pub script : AreOfAScript (places_of run.commands) run.commands
  pub due : IsTheRunOf (history_of run script)
  pub lawful : IsLawfulRun (history_of run script)
  pub booked : run.book ≡ book_of run.trace
  pub answered : IsReported (history_of run script) run.answers ending
  pub once : EachIsAnsweredOnce (history_of run script) × AllAreAnsweredOnce (history_of run script) × LaterAnswersStandWhereCallsEnd (history_of run script)
  pub views : ViewsOf (history_of run script) × ViewsAreAmong (history_of run script) run.answers ending
  pub starts : StartsRestore (history_of run script)
  pub undo : UndoIsKept (history_of run script)
  pub knows : Knowledge (history_of run script)
  pub meant : RunsAreMeant (history_of run script)
  pub reads : ReaderReadsTheSame (history_of run script)
  pub come : AnswersHavePlaces (history_of run script)
  pub done : ReportsWhatIsDone (history_of run script)
  pub ends : CallsEndFirst (history_of run script) × AtEach CauseEnds (history_of run script)
  pub commits : CommitAnswersAreTrue (history_of run script)
  pub completes : QuietCommitsAreDone (history_of run script)
  pub obeyed : Obedience (history_of run script)
  pub purges : PurgesChangeNothing (history_of run script)
  pub site : SiteDecides (history_of run script)
  pub covers : Coverage (history_of run script)
  pub agrees : Agreement run.book
  pub marked : MixedIsMarked run.book
  pub scns : ScnLaw run.book

-- the run of a call that was refused
abbrev pub nothing_done : Run
nothing_done = record { commands = []; answers = []; book = []; trace = [] }
