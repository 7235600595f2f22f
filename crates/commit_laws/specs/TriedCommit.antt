-- The definitions of an undisturbed COMMIT and of a complete one, tried on the run of two nodes. In a second run the
-- message is lost that tells B the commit: all else is as before, and A's call is not answered, and B stays in doubt.
use Rattle.std.specs.Prelude.{◌≡◌, List, [], ◌∷◌, ◌++◌, take, None}
use Rattle.std.specs.List.{AllByRecursion}
use Rattle.node_rules.specs.Sessions.{session_at}
use Rattle.node_rules.specs.Data.{BranchId}
use Rattle.net_bag.specs.Net.{first_flying}
use Rattle.run_rules.specs.Book.{in_doubt}
use Rattle.run_rules.specs.Data.{Happening}
use Rattle.run_rules.specs.Data.happenings
use Rattle.run_rules.specs.Facts.{first_facts}
use Rattle.run_branch_laws.specs.TriedRun as tried
use Rattle.run_claims.specs.Undisturbed.{Commit, Undisturbed, CommitIsComplete, HasNotStopped, NoneComesIn, facts_by, branches_by, answers_from}

-- the messages up to the vote of B come, and the seventh, Committed to B, is lost
abbrev pub lost_trace : List Happening
lost_trace = tried.played (first_facts tried.places) (take 12 tried.coming) ++ happenings.Lost 7 ∷ []

-- the branches of the transaction
abbrev pub lost_branches : List BranchId
lost_branches = branches_by tried.places [] lost_trace tried.a

-- The COMMIT of the tried run is undisturbed, and complete. Where the seventh message is lost it is neither.
pub record TheTriedCommit : Type 0 where
  pub commit : Commit tried.places [] tried.trace
  pub undisturbed : Undisturbed tried.places [] tried.trace commit
  pub complete : CommitIsComplete tried.places [] tried.trace commit
  pub lost : Commit tried.places [] lost_trace
  pub lost_goes_on : (session_at lost.kept.sessions lost.session).code ≡ None
  pub lost_still : first_flying (facts_by tried.places [] lost.before).net ≡ None
  pub lost_over : first_flying (facts_by tried.places [] lost_trace).net ≡ None
  pub lost_stopped : AllByRecursion (HasNotStopped (facts_by tried.places [] lost_trace)) lost_branches
  pub lost_calm : AllByRecursion (NoneComesIn lost_branches) lost_trace
  pub lost_answers : answers_from tried.places [] (facts_by tried.places [] lost.before) lost.call.node lost.session (happenings.Turn lost.call ∷ lost.during) ≡ []
  pub lost_doubt : in_doubt (facts_by tried.places [] lost_trace).book 2 ≡ tried.b ∷ []
