-- All messages of the transaction of an undisturbed COMMIT came, and no node of its branches has stopped.
use Rattle.run_rules.specs.Lawful.{History, IsLawfulRun}
use Rattle.run_claims.specs.Undisturbed.{Commit, Undisturbed}
use Rattle.commit_laws.proofs.StillLemmas.{messages_come, never_stopped}
use Rattle.commit_spread_laws.specs.ReachLaws.{HasAllCome}

pub undisturbed_has_come : (t : History) → IsLawfulRun t → (c : Commit t.places t.commands t.trace) → Undisturbed t.places t.commands t.trace c → HasAllCome t c.root
undisturbed_has_come t whole c u = record { messages = messages_come t whole c u; up = never_stopped t whole c u }
