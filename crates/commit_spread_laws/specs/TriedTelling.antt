-- The laws of what is told, tried on the run of two nodes. A, the commit point site, decides and tells B, which was sealed and
-- learns the commit. When the COMMIT was called B was not sealed. In a second run the message is lost, and B is sealed still.
use Rattle.std.specs.Prelude.{◌≡◌, true, List, [], take, Some, None}
use Rattle.agreement.specs.Events.{Event, Sealed, Decided, exit, learned, forced}
use Rattle.node_rules.specs.Data.{Post}
use Rattle.node_rules.specs.Data.decisions
use Rattle.run_rules.specs.Data.{Happening}
use Rattle.run_rules.specs.Facts.{first_facts, facts_of}
use Rattle.run_base_laws.specs.InTurnLaws.{said_in}
use Rattle.run_base_laws.specs.RunEvents.{events_from}
use Rattle.run_branch_laws.specs.TriedRun as tried
use Rattle.run_branch_laws.specs.WalkLaws.{was_sent}
use Rattle.commit_laws.specs.TriedCommit.{lost_trace}
use Rattle.commit_spread_laws.specs.TellLaws.{is_commit_at}

-- the messages of these happenings
abbrev pub said_by : List Happening → List Post
said_by hs = said_in (facts_of tried.places [] (first_facts tried.places) hs)

-- and their events
abbrev pub events_by : List Happening → List Event
events_by hs = events_from tried.places [] (first_facts tried.places) hs []

-- what comes before the COMMIT
abbrev pub before : List Happening
before = tried.played (first_facts tried.places) (take 9 tried.coming)

-- B learns the commit where the message came, and only there.
pub record TheTriedTelling : Type 0 where
  pub decided : exit (events_by tried.trace) tried.a ≡ Some (Decided 1)
  pub sealed : exit (events_by tried.trace) tried.b ≡ Some (Sealed 0)
  pub told : was_sent (is_commit_at 1) (said_by tried.trace) tried.a tried.b ≡ true
  pub heard : learned (events_by tried.trace) tried.b ≡ Some (decisions.Commit 1)
  pub unsealed : exit (events_by before) tried.b ≡ None
  pub unforced : forced (events_by tried.trace) tried.b ≡ None
  pub lost_decided : exit (events_by lost_trace) tried.a ≡ Some (Decided 1)
  pub lost_sealed : exit (events_by lost_trace) tried.b ≡ Some (Sealed 0)
  pub lost_told : was_sent (is_commit_at 1) (said_by lost_trace) tried.a tried.b ≡ true
  pub lost_heard : learned (events_by lost_trace) tried.b ≡ None
