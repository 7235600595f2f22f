-- Each Ack that a row holds came: a new row holds none, one that comes is held, and no record changes those of others.
use Rattle.std.proofs.Common.{◌≡◌, ◌||◌, Bool, true, false, List, map, Option, Some, refl, sym, subst, ◌∙◌}
use Rattle.std.specs.List.{AllByRecursion}
use Rattle.std.proofs.lemmas.Bool.{cond_both}
use Rattle.tran_ids.proofs.BranchLemmas.{equal_from_same}
use Rattle.redo_record.specs.Rows.{kid_of}
use Rattle.commit_forget.specs.Next.{acks_kid}
use Rattle.session_tree.specs.Live.{is_branch}
use Rattle.node_rules.specs.Data.{BranchId, Peer, KeptRow, RedoRecord}
use Rattle.node_rules.specs.Words.{same}
use Rattle.node_rules.specs.NodeState.{Stored}
use Rattle.node_rules.specs.Records.{stored_by}
use Rattle.node_rules.specs.Commit.{acked_by}
use Rattle.node_rules.proofs.StepLemmas.{branch_found}
use Rattle.run_branch_laws.specs.HeardLaws.{HasAcks, RowHasAcks}
use Rattle.run_rules.proofs.ListLemmas.{all_weaker, all_map, all_each}
use Rattle.run_base_laws.proofs.RowRecordLemmas.{RowCases, rows_stored, any_records}

-- what the Acks of these neighbours tell of a branch
module _ (Q : BranchId → BranchId → Type 0) where
  holds_none : (me : BranchId) (parent : Option BranchId) (ps : List Peer) → HasAcks Q me parent false (map kid_of ps)
  holds_none me parent ps = record { above = λ none b is. absurd cc; below = all_each (λ c. c.acked ≡ true → Q c.branch me) kid_of ps (λ q none. absurd cc) }

  pub each_row : RowCases (λ r. Unit {0}) (RowHasAcks Q)
  each_row = record {
    seals = λ r known. holds_none r.me r.parent r.children;
    decides = λ r known. holds_none r.me r.parent r.children;
    ends = λ n x so. so;
    forces = λ d x so. so;
    meets = λ d mixed x so. so;
    forgets = λ x so. so;
    hides = λ x so. so;
  }

  pub acks_stored : (s : Stored) (rs : List RedoRecord) → AllByRecursion (RowHasAcks Q) s.durable.kept → AllByRecursion (RowHasAcks Q) (stored_by s rs).durable.kept
  acks_stored s rs all = rows_stored each_row s rs (any_records rs) all

  is_it : (from b : BranchId) (o : Option BranchId) → is_branch from o ≡ true → o ≡ Some b → from ≡ b
  is_it from b o is at = let it : Some from ≡ Some b = sym (branch_found from o is) ∙ at in cc

  or_both : (P : Type 0) (a c : Bool) → (a || c) ≡ true → (a ≡ true → P) → (c ≡ true → P) → P
  or_both P true c is first second = first refl
  or_both P false c is first second = second is

  -- one more Ack is held
  pub acked_so : (s : KeptRow) (from : BranchId) → Q from s.me → RowHasAcks Q s → RowHasAcks Q (acked_by s from)
  acked_so s from came is = record {
    above = λ acked b at. or_both (Q b s.me) s.parent_acked (is_branch from s.parent) acked (λ old. is.above old b at) (λ new. subst (λ c. Q c s.me) (is_it from b s.parent new at) came);
    below = all_map (λ c. c.acked ≡ true → Q c.branch s.me) (acks_kid from) s.children
        (all_weaker (λ c. c.acked ≡ true → Q c.branch s.me) _ (λ c old. cond_both (same c.branch from) (record c { acked = true }) c (λ x. x.acked ≡ true → Q x.branch s.me)
        (λ here acked. subst (λ b. Q b s.me) (sym (equal_from_same c.branch from here)) came) (λ other. old)) s.children is.below);
  }

-- and what they tell too
pub wider_acks : (P Q : BranchId → BranchId → Type 0) → ((c b : BranchId) → P c b → Q c b) → (ks : List KeptRow) → AllByRecursion (RowHasAcks P) ks → AllByRecursion (RowHasAcks Q) ks
wider_acks P Q more ks all = all_weaker (RowHasAcks P) (RowHasAcks Q) (λ s is. record {
  above = λ acked b at. more b s.me (is.above acked b at);
  below = all_weaker (λ c. c.acked ≡ true → P c.branch s.me) _ (λ c so acked. more c.branch s.me (so acked)) s.children is.below;
}) ks all
