-- The SCNs and the starts that the records of a node tell.
use Rattle.std.proofs.Common.{◌≡◌, ℕ, ◌+◌, ◌≤◌, true, false, List, [], ◌∷◌, ◌++◌, Some, inl, inr, refl, sym, ap, subst, ◌∙◌, arith}
use Rattle.node_rules.specs.Data.{BranchId, RedoRecord, Place}
use Rattle.node_rules.specs.Data.decisions
use Rattle.node_rules.specs.Data.records
use Rattle.node_rules.specs.NodeState.{NodeState, Stored}
use Rattle.node_rules.specs.Records.{nothing_stored, raised_by, applied, stored_by}
use Rattle.run_rules.specs.BranchRecords.{Commits, CommitIsRecorded}
use Rattle.run_rules.specs.Lawful.{boots}
use Rattle.run_base_laws.proofs.NodeLemmas.{Keeps, keeps_both, keeps_alone}
use Rattle.run_base_laws.proofs.StoredLemmas.{StoresOf, stores, stored_with}
use Rattle.run_rules.proofs.BootLemmas.{step_of_turn, boots_started}
use Rattle.run_base_laws.proofs.StoredBootLemmas.{BootIs, booted, boot_with}
use Rattle.run_base_laws.proofs.ClockLemmas.{covers}

-- ---- commits that are told

-- a record lowers no SCN
scn_kept : (s : Stored) (r : RedoRecord) → s.scn ≤ (applied s r).scn
unfolding applied
scn_kept s (records.Sealed r) = omega arith
scn_kept s (records.Decided r) = omega arith
scn_kept s (records.Ended b (decisions.Commit n)) = omega arith
scn_kept s (records.Ended b decisions.Rollback) = omega arith
scn_kept s (records.Met b (decisions.Commit n) mixed) = omega arith
scn_kept s (records.Met b decisions.Rollback mixed) = omega arith
scn_kept s (records.Forced b d true) = omega arith
scn_kept s (records.Forced b (decisions.Commit n) false) = omega arith
scn_kept s (records.Forced b decisions.Rollback false) = omega arith
scn_kept s _ = omega arith

all_kept : (s : Stored) (rs : List RedoRecord) → s.scn ≤ (stored_by s rs).scn
unfolding stored_by
all_kept s [] = omega arith
all_kept s (r ∷ rs) = let one = scn_kept s r in let rest = all_kept (applied s r) rs in omega (arith, one, rest)

commit_told : (s : Stored) (b : BranchId) (n : ℕ) (r : RedoRecord) → Commits b n r → n ≤ (applied s r).scn
unfolding applied
commit_told s b n (records.Decided r) is = let at = is.1 in omega (arith, at)
commit_told s b n (records.Ended c d) is = subst (λ e. n ≤ raised_by s.scn e) (sym is.1) (omega arith)
commit_told s b n (records.Met c d mixed) is = subst (λ e. n ≤ raised_by s.scn e) (sym is.1) (omega arith)
commit_told s b n _ is = absurd is

-- a commit that a record tells is no greater than what is stored
pub recorded_below : (s : Stored) (rs : List RedoRecord) (b : BranchId) (n : ℕ) → CommitIsRecorded rs b n → n ≤ (stored_by s rs).scn
unfolding stored_by
recorded_below s [] b n is = absurd is
recorded_below s (r ∷ rs) b n (inl here) = let one = commit_told s b n r here in let rest = all_kept (applied s r) rs in omega (arith, one, rest)
recorded_below s (r ∷ rs) b n (inr later) = recorded_below (applied s r) rs b n later

-- ---- a start

no_scn : (s : Stored) (boot : ℕ) → (applied s (records.Boot boot)).scn ≡ s.scn
unfolding applied
no_scn s boot = refl

-- one more start tells no SCN
pub boot_scn : (rs : List RedoRecord) (boot : ℕ) → (stored_by nothing_stored (rs ++ records.Boot boot ∷ [])).scn ≡ (stored_by nothing_stored rs).scn
boot_scn rs boot = ap (λ s. s.scn) (stored_with rs (Some (records.Boot boot))) ∙ no_scn (stored_by nothing_stored rs) boot

started : (rs : List RedoRecord) (boot : ℕ) → boot ≡ boots rs + 1 → BootIs (rs ++ records.Boot boot ∷ [])
started rs boot is = ap (λ s. s.durable.boot) (stored_with rs (Some (records.Boot boot))) ∙ (booted (stored_by nothing_stored rs) boot ∙ (is ∙ sym (boots_started rs boot)))

no_start : BootIs []
unfolding stored_by
no_start = refl

-- what is stored of the last start is how often there was one
starts_are_counted : Keeps (λ p rs. BootIs rs) (λ p rs k. BootIs rs)
starts_are_counted = record {
  empty = λ p. no_start;
  starts = λ p rs boot disk next. started rs boot next;
  hears = λ p rs k scn now. now;
  steps = λ p rs input k d step now. boot_with rs d.wrote (step_of_turn p input step) now;
  rests = λ p rs k now. now;
}

-- ---- what a disk and its node keep

abbrev pub J : Place → List RedoRecord → Type 0
J p rs = (Unit {0} × BootIs rs) × Unit {0}

-- a node stores what its records make, apart from the Acks that it heard, and its clock covers their SCNs
abbrev pub I : Place → List RedoRecord → NodeState → Type 0
I p rs k = (StoresOf rs k × BootIs rs) × (k.stored.scn ≤ k.clock)

pub both : Keeps J I
both = keeps_both (keeps_both stores starts_are_counted) (keeps_alone covers)
