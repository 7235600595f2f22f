-- A transaction that had no commit point site, for none of its branches had changes when its COMMIT was accepted.
-- (Database Administrator's Guide, "Distributed Transactions Concepts": read-only commit.)
use Rattle.std.specs.Prelude.{◌≡◌, true}
use Rattle.node_rules.specs.Data.{BranchId}
use Rattle.run_rules.specs.Branches.{no_trail, plan_at}
use Rattle.run_rules.specs.Facts.{first_facts}
use Rattle.run_rules.specs.Lawful.{History}
use Rattle.run_rules.specs.Trail.{has_no_site, trail_of}

-- its COMMIT was accepted, and no branch of its session tree had changes then
abbrev pub HadNoSite : History → BranchId → Type 0
HadNoSite t g = has_no_site (plan_at (trail_of t.places t.commands (first_facts t.places) no_trail t.trace) g) ≡ true
