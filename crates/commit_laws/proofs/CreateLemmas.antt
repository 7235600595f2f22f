-- A CREATE itself changes the catalog alone: the branches of its node, their rows and the sessions stay, and it says nothing.
use Rattle.std.proofs.Common.{◌≡◌, true, [], ◌∷◌, Option, Some, None, refl}
use Rattle.std.proofs.lemmas.Bool.{cond_both}
use Rattle.node_rules.specs.Data.{Answer, Input, Place, Stmt}
use Rattle.node_rules.specs.Data.inputs
use Rattle.node_rules.specs.Data.stmts
use Rattle.node_rules.specs.Client.{is_used, is_link}
use Rattle.node_rules.specs.Inputs.{IsCall}
use Rattle.node_rules.specs.NodeState.{NodeState, TurnDraft}
use Rattle.node_rules.specs.Records.{applied}
use Rattle.node_rules.specs.Turn.{draft_of}
use Rattle.redo_record.specs.Durable.{durable_after}
use Rattle.run_rules.specs.Commands.{commits_first}
use Rattle.run_rules.specs.Data.{Took}
use Rattle.run_rules.specs.Facts.{Facts}
use Rattle.run_rules.specs.Lawful.{Comes}
use Rattle.run_claims.specs.Undisturbed.{is_create}

-- What a CREATE leaves of its node.
pub record LeavesBranches (k : NodeState) (d : TurnDraft) : Type 0 where
  pub lives : d.after.lives ≡ k.lives
  pub sessions : d.after.sessions ≡ k.sessions
  pub kept : d.after.stored.durable.kept ≡ k.stored.durable.kept
  pub silent : d.says ≡ []

module _ (p : Place) (k : NodeState) where
  pub create_leaves : (input : Input) → is_create input ≡ true → LeavesBranches k (draft_of p k input)
  unfolding applied durable_after
  create_leaves (inputs.Call n (Some (stmts.CreateTable t))) is =
      cond_both (is_used k.stored.durable t.name) _ _ (LeavesBranches k) (λ used. record { lives = refl; sessions = refl; kept = refl; silent = refl }) (λ free. record { lives = refl; sessions = refl; kept = refl; silent = refl })
  create_leaves (inputs.Call n (Some (stmts.CreateLink l))) is =
      cond_both (is_link k.stored.durable l.name) _ _ (LeavesBranches k) (λ used. record { lives = refl; sessions = refl; kept = refl; silent = refl }) (λ free. record { lives = refl; sessions = refl; kept = refl; silent = refl })
  create_leaves (inputs.Call n (Some (stmts.CreateSynonym y))) is =
      cond_both (is_used k.stored.durable y.name) _ _ (LeavesBranches k) (λ used. record { lives = refl; sessions = refl; kept = refl; silent = refl }) (λ free. record { lives = refl; sessions = refl; kept = refl; silent = refl })
  create_leaves (inputs.Call n (Some _)) is = absurd cc
  create_leaves (inputs.Call n None) is = absurd cc
  create_leaves (inputs.Message m) is = absurd cc
  create_leaves (inputs.GiveUp n) is = absurd cc
  create_leaves inputs.Reco is = absurd cc
  create_leaves inputs.Checkpoint is = absurd cc

  -- and it is answered in its own turn
  pub create_answers : (n : _) (s : Stmt) → commits_first s ≡ true → (a : Answer) × ((draft_of p k (inputs.Call n (Some s))).ended ≡ (record { session = n; answer = a }) ∷ [])
  create_answers n (stmts.CreateTable t) is = cond_both (is_used k.stored.durable t.name) _ _ (λ (d : TurnDraft). (a : Answer) × (d.ended ≡ (record { session = n; answer = a }) ∷ [])) (λ used. (_, refl)) (λ free. (_, refl))
  create_answers n (stmts.CreateLink l) is = cond_both (is_link k.stored.durable l.name) _ _ (λ (d : TurnDraft). (a : Answer) × (d.ended ≡ (record { session = n; answer = a }) ∷ [])) (λ used. (_, refl)) (λ free. (_, refl))
  create_answers n (stmts.CreateSynonym y) is = cond_both (is_used k.stored.durable y.name) _ _ (λ (d : TurnDraft). (a : Answer) × (d.ended ≡ (record { session = n; answer = a }) ∷ [])) (λ used. (_, refl)) (λ free. (_, refl))
  create_answers n _ is = absurd cc

-- a CREATE takes no message
pub create_takes_none : (f : Facts) (k : NodeState) (node : _) (input : Input) (took : Option Took) → is_create input ≡ true → Comes f k node input took → took ≡ None
create_takes_none f k node (inputs.Call n s) None is comes = refl
create_takes_none f k node (inputs.Call n s) (Some i) is comes = absurd comes
create_takes_none f k node (inputs.Message m) took is comes = absurd cc
create_takes_none f k node (inputs.GiveUp n) took is comes = absurd cc
create_takes_none f k node inputs.Reco took is comes = absurd cc
create_takes_none f k node inputs.Checkpoint took is comes = absurd cc

-- it is a client's call, of a statement that commits first
pub create_call : (input : Input) → is_create input ≡ true → (n : _) × (s : Stmt) × IsCall input n s × (commits_first s ≡ true)
create_call (inputs.Call n (Some s)) is = (n, s, refl, is)
create_call (inputs.Call n None) is = absurd cc
create_call (inputs.Message m) is = absurd cc
create_call (inputs.GiveUp n) is = absurd cc
create_call inputs.Reco is = absurd cc
create_call inputs.Checkpoint is = absurd cc
