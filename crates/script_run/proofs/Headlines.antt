-- What holds of a run of a script, by the laws of runs; of the run of no commands; and where memory ran out after a whole run.
use Rattle.std.proofs.Common.{◌≡◌, ◌⊎◌, ℕ, List, [], inl, inr, refl, sym, ap, subst, arith}
use Rattle.book.specs.declared.entry.Entry.{Entry}
use Rattle.book.specs.declared.happening.Happening.{Happening}
use Rattle.book.specs.declared.line.AnswerLine.{AnswerLine}
use Rattle.redo_record.specs.declared.place.Place.{Place}
use Rattle.script_read.specs.declared.command.Command.{Command}
use Rattle.script_read.specs.Sound.{IsOfAScript}
use Rattle.run_rules.specs.Entries.{book_of}
use Rattle.run_rules.specs.RunReport.{start}
use Rattle.run_rules.specs.Due.{Due, Ends, IsTheRun, due_of}
use Rattle.run_rules.specs.Past.{past}
use Rattle.run_rules.specs.Lawful.{AreOfAScript, History}
use Rattle.run_rules.specs.Book.{Agreement, MixedIsMarked, ScnLaw}
use Rattle.run_claims.specs.Headline.{EveryBookAgrees, EveryMixedIsMarked, EveryScnIsLater, EverySiteDecides, EveryDecisionCovers, EveryRunIsMeant, EveryAnswerHasItsPlace, EveryTurnKnows}
use Rattle.run_rules.specs.Reported.{Ending, All_run, Out_of_memory, IsReported, IsBetweenCommands}
use Rattle.run_rules.specs.Scripts.{places_of, TheRunIsLawful}
use Rattle.script_run.specs.declared.outcome.Run.{Run}
use Rattle.script_run.specs.declared.outcome.Status.{Status}
use Rattle.script_run.specs.declared.outcome.Status.TheVariants.{Done, BadScript, Usage, NoMemory, ReadFault, WriteFault, TooLong}
use Rattle.script_run.specs.Headline.{IsRun, history_of, nothing_done}
use Rattle.script_run.specs.Ending.{RunIsWhole, ending_of}
use Rattle.script_run.proofs.ScriptLemmas.{of_a_script}
use Rattle.world.specs.declared.ran.EndedRun.{EndedRun}
use Rattle.run_claims.specs.ReportedDone.{DoneIsReported}
use Rattle.run_claims.specs.CommitCourse.{QuietCommitsAreComplete}
use Rattle.answer_laws.specs.PendingCalls.{PendingCallsEnd}
use Rattle.commit_answer_laws.specs.CauseLaws.{CausesEndCommits}
use Rattle.commit_answer_laws.specs.CommitLines.{CommitsAnswerTruly}
use Rattle.commit_obey_laws.specs.ObeyLaws.{EveryDecisionIsObeyed}
use Rattle.node_purge_laws.specs.LeftOutLaws.{EveryPurgeChangesNothing}
use Rattle.repeat_read_laws.specs.RepeatLaws.{EveryReaderReadsTheSame}
use Rattle.run_undo_laws.specs.UndoRuns.{EveryRunKeepsUndo}
use Rattle.start_laws.specs.StartLaws.{EveryStartRestores}
use Rattle.view_laws.specs.ReportedViews.{ViewsAreReported}
use Rattle.view_laws.specs.ViewLaws.{ViewsAreOfBranches}
use Rattle.answer_once_laws.specs.OnceLaws.{EveryCommandIsAnsweredOnce}
use Rattle.world.specs.Ran.{IsRan, as_ending}

-- the run that these lists tell
abbrev run_by : EndedRun → Run
run_by ran = record { commands = ran.recorded.asked; answers = ran.answers; book = ran.recorded.book; trace = ran.recorded.happenings }

-- a script of no commands
no_script : AreOfAScript (places_of []) []
no_script = of_a_script [] (record { few = omega arith; proper = tt })

-- of which nothing is due and nothing is told
nothing_due : IsTheRun (places_of []) [] (start (places_of [])) []
unfolding IsTheRun
nothing_due = tt

empty_report : IsReported (history_of nothing_done no_script) [] All_run
unfolding past due_of
empty_report = (refl, tt)

module _ (lawful : TheRunIsLawful) (once : EveryCommandIsAnsweredOnce) (views : ViewsAreOfBranches) (reported : ViewsAreReported) (starts : EveryStartRestores) (undoes : EveryRunKeepsUndo) (knows : EveryTurnKnows) (meant : EveryRunIsMeant) (reads : EveryReaderReadsTheSame) (comes : EveryAnswerHasItsPlace) (tells : DoneIsReported) (ended : PendingCallsEnd) (caused : CausesEndCommits) (commits : CommitsAnswerTruly) (completes : QuietCommitsAreComplete) (obeys : EveryDecisionIsObeyed) (purged : EveryPurgeChangesNothing) (sites : EverySiteDecides) (covers : EveryDecisionCovers) (agrees : EveryBookAgrees) (marked : EveryMixedIsMarked) (later : EveryScnIsLater) where
  -- by the laws, of what is due and told
  by_laws : (run : Run) (ending : Ending) (script : AreOfAScript (places_of run.commands) run.commands)
      → IsTheRun (places_of run.commands) run.commands (start (places_of run.commands)) run.trace → run.book ≡ book_of run.trace
      → IsReported (history_of run script) run.answers ending → IsRun run ending
  by_laws run ending script due booked told =
      let t : History = history_of run script in
      let may = lawful t due in
      record {
        script = script;
        due = due;
        lawful = may;
        booked = booked;
        answered = told;
        once = once t due;
        views = (views t due may, reported t run.answers ending told);
        starts = starts t may;
        undo = undoes t may;
        knows = knows t may;
        meant = meant t may;
        reads = reads t may;
        come = comes t due;
        done = tells t due;
        ends = (ended t due, caused t may);
        commits = commits t due;
        completes = completes t due;
        obeyed = obeys t may;
        purges = purged t may;
        site = sites t may;
        covers = covers t may;
        agrees = subst Agreement (sym booked) (agrees t may);
        marked = subst MixedIsMarked (sym booked) (marked t may);
        scns = subst ScnLaw (sym booked) (later t may);
      }

  pub is_run : (ran : EndedRun) → IsOfAScript ran.recorded.asked → ran.recorded.places ≡ places_of ran.recorded.asked → IsRan ran → IsRun (run_by ran) (as_ending ran.ended)
  is_run ran sound placed is =
      let script = of_a_script ran.recorded.asked sound in
      let due = subst (λ (ps : List Place). IsTheRun ps ran.recorded.asked (start ps) ran.recorded.happenings) placed is.due in
      let told = subst (λ (ps : List Place). (s : AreOfAScript ps ran.recorded.asked) → IsReported (record { places = ps; commands = ran.recorded.asked; of_a_script = s; trace = ran.recorded.happenings }) ran.answers (as_ending ran.ended)) placed is.told in
      by_laws (run_by ran) (as_ending ran.ended) script due is.booked (told script)

  pub nothing_is_run : (run : Run) → run ≡ nothing_done → IsRun run All_run
  nothing_is_run run is = subst (λ (r : Run). IsRun r All_run) (sym is) (by_laws nothing_done All_run no_script nothing_due refl empty_report)

-- ---- a whole run

-- its script was run to the end
pub is_whole : (run : Run) → IsRun run All_run → RunIsWhole run
is_whole run is = is.answered.0

between : (due : Due) → due ≡ Ends → IsBetweenCommands due
between due is = subst IsBetweenCommands (sym is) tt

-- and it stands too where memory runs out behind it
pub stands_too : (run : Run) → IsRun run All_run → IsRun run Out_of_memory
stands_too run is = record {
  script = is.script;
  due = is.due;
  lawful = is.lawful;
  booked = is.booked;
  answered = inr (between _ is.answered.0, is.answered.1);
  once = is.once;
  views = (is.views.0, λ i c shows begun view prints. (let it = is.views.1 i c shows begun view prints in record { stands = inr it.stands; text = it.text }));
  starts = is.starts;
  undo = is.undo;
  knows = is.knows;
  meant = is.meant;
  reads = is.reads;
  come = is.come;
  done = is.done;
  ends = is.ends;
  commits = is.commits;
  completes = is.completes;
  obeyed = is.obeyed;
  purges = is.purges;
  site = is.site;
  covers = is.covers;
  agrees = is.agrees;
  marked = is.marked;
  scns = is.scns;
}

-- whatever else comes to pass then
pub with_status : (run : Run) (status : Status) → IsRun run All_run → IsRun run (ending_of status)
with_status run NoMemory is = stands_too run is
with_status run Done is = is
with_status run BadScript is = is
with_status run Usage is = is
with_status run ReadFault is = is
with_status run WriteFault is = is
with_status run TooLong is = is

pub ruleset whole_runs = (is_whole, stands_too, with_status)
