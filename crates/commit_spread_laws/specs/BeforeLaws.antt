-- What a COMMIT finds: no branch of its transaction is sealed. An administrator forces branches that are in doubt, so none of
-- an undisturbed COMMIT was forced.
use Rattle.std.specs.Prelude.{◌≡◌, ◌≢◌, ℕ, Some, None}
use Rattle.agreement.specs.Events.{Sealed, exit, forced}
use Rattle.run_rules.specs.Births.{Born, births_of}
use Rattle.run_base_laws.specs.BirthLaws.{Began}
use Rattle.run_rules.specs.Lawful.{History, IsLawfulRun}
use Rattle.run_base_laws.specs.RunEvents.{events_of}
use Rattle.run_claims.specs.Undisturbed.{Commit, Undisturbed}

-- the run up to the call of a COMMIT
abbrev pub run_before : (t : History) → Commit t.places t.commands t.trace → History
run_before t c = record { places = t.places; commands = t.commands; of_a_script = t.of_a_script; trace = c.before }

-- In every lawful run no branch of the transaction of a COMMIT was sealed when it was called.
abbrev pub NoneSealedBefore : Type 0
NoneSealedBefore = (t : History) → IsLawfulRun t → (c : Commit t.places t.commands t.trace) → (x : Born) → Began (births_of t) x → x.root ≡ c.root
    → (m : ℕ) → exit (events_of (run_before t c)) x.me ≢ Some (Sealed m)

-- So no branch of the transaction of an undisturbed COMMIT was forced.
abbrev pub NoneForced : Type 0
NoneForced = (t : History) → IsLawfulRun t → (c : Commit t.places t.commands t.trace) → Undisturbed t.places t.commands t.trace c → (x : Born) → Began (births_of t) x → x.root ≡ c.root
    → forced (events_of t) x.me ≡ None
