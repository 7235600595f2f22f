-- Who gets Prepare, is dropped and says Abort, tried on the run of two nodes. In a second run B's node stops and starts before the COMMIT:
-- B is dropped, and so says Abort to the Prepare that comes.
use Rattle.std.specs.Prelude.{◌≡◌, true, false, List, [], ◌∷◌, ◌++◌, take, Some, None}
use Rattle.std.specs.List.{list_any}
use Rattle.agreement.specs.Events.{Sealed, Dropped, exit}
use Rattle.node_rules.specs.Data.stmts
use Rattle.run_rules.specs.Data.{Happening}
use Rattle.run_rules.specs.Data.happenings
use Rattle.run_rules.specs.Facts.{first_facts}
use Rattle.run_base_laws.specs.FreezeLaws.{was_asked}
use Rattle.run_base_laws.specs.InTurnLaws.{said_in}
use Rattle.run_base_laws.specs.RunEvents.{events_from}
use Rattle.run_rules.specs.Trail.{is_abort}
use Rattle.run_branch_laws.specs.TriedRun as tried
use Rattle.run_claims.specs.Undisturbed.{facts_by}
use Rattle.commit_spread_laws.specs.GotLaws.{GotPrepare}

-- what comes before the COMMIT
abbrev pub before : List Happening
before = tried.played (first_facts tried.places) (take 9 tried.coming)

-- B's node stops and starts then
abbrev pub started : List Happening
started = before ++ happenings.Stopped 2 ∷ happenings.Started 2 2 ∷ []

-- and then the COMMIT comes, and its Prepare
abbrev pub stopped_trace : List Happening
stopped_trace = started ++ tried.played (facts_by tried.places [] started) (tried.calls 1 (stmts.Commit None) ∷ tried.takes 5 ∷ [])

-- B got Prepare of A, after the COMMIT alone, and was not dropped. In the second run it was, and said Abort.
pub record TheTriedStay : Type 0 where
  pub got : GotPrepare tried.trace tried.a tried.b
  pub first : was_asked (said_in (facts_by tried.places [] before)) tried.a tried.b ≡ false
  pub asked : was_asked (said_in (facts_by tried.places [] tried.trace)) tried.a tried.b ≡ true
  pub sealed : exit (events_from tried.places [] (first_facts tried.places) tried.trace []) tried.b ≡ Some (Sealed 0)
  pub dropped : exit (events_from tried.places [] (first_facts tried.places) stopped_trace []) tried.b ≡ Some Dropped
  pub aborts : list_any (λ m. is_abort m.kind) (said_in (facts_by tried.places [] stopped_trace)) ≡ true
