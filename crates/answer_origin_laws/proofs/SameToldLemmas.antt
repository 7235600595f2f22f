-- What a turn does before its calls end leaves the pending calls and what is told.
use Rattle.std.proofs.Common.{◌≡◌, ℕ, Bool, true, false, is_none, Option, Some, None, refl, ◌∙◌}
use Rattle.std.specs.Prelude.{is_some}
use Rattle.std.proofs.lemmas.Bool.{cond_both}
use Rattle.node_rules.specs.Data.{BranchId, Input}
use Rattle.node_rules.specs.Data.inputs
use Rattle.node_rules.specs.Data.stmts
use Rattle.node_rules.specs.NodeState.{NodeState, TurnOutput}
use Rattle.node_rules.specs.Sessions.{session_at}
use Rattle.run_rules.specs.Cuts.{Cut_by, By_nothing, By_strike, By_point, appends_if, cut_appends, cut_by, arms_point, arms, turn_appends}
use Rattle.run_rules.specs.Data.{Took}
use Rattle.run_rules.specs.Past.{delivered_more, is_call, without_following}
use Rattle.run_rules.specs.RunReport.{Call, RunReport}

-- The same calls are pending and the same is told.
pub record SameTold (t u : RunReport) : Type 0 where
  pub calls : u.calls ≡ t.calls
  pub next_call : u.next_call ≡ t.next_call
  pub page : u.page ≡ t.page
  pub lines : u.lines ≡ t.lines

same_told : (t : RunReport) → SameTold t t
same_told t = record { calls = refl; next_call = refl; page = refl; lines = refl }

pub then_told : (t u v : RunReport) → SameTold t u → SameTold u v → SameTold t v
then_told t u v one two = record { calls = two.calls ∙ one.calls; next_call = two.next_call ∙ one.next_call; page = two.page ∙ one.page; lines = two.lines ∙ one.lines }

module _ (t : RunReport) where
  appends_told : (n : ℕ) (writes : Bool) → SameTold t (appends_if t n writes)
  appends_told n true = record { calls = refl; next_call = refl; page = refl; lines = refl }
  appends_told n false = same_told t

  cut_told : (n : ℕ) (writes : Bool) (c : Cut_by) → SameTold t (cut_appends t n writes c)
  cut_told n writes By_nothing = appends_told n writes
  cut_told n writes (By_strike stands) = appends_told n writes
  cut_told n writes (By_point root numbers stands) = let is = appends_told n stands in record { calls = is.calls; next_call = is.next_call; page = is.page; lines = is.lines }

  point_told : (b : Option BranchId) (c : Option Call) (number : Option ℕ) → SameTold t (arms_point t b c number)
  point_told (Some root) (Some c) (Some number) = record { calls = refl; next_call = refl; page = refl; lines = refl }
  point_told None c number = same_told t
  point_told (Some root) None number = same_told t
  point_told (Some root) (Some c) None = same_told t

  arms_told : (n : ℕ) (k : NodeState) (input : Input) → SameTold t (arms t n k input)
  arms_told n k (inputs.Call session (Some (stmts.Commit (Some comment)))) = cond_both (is_none (session_at k.sessions session).code) _ t (SameTold t) (λ none. point_told _ _ _) (λ some. same_told t)
  arms_told n k _ = same_told t

  pub took_told : (o : Option Took) → SameTold t (delivered_more t o)
  took_told None = same_told t
  took_told (Some took) = record { calls = refl; next_call = refl; page = refl; lines = refl }

pub turn_told : (t : RunReport) (n : ℕ) (input : Input) (k : Option NodeState) (o : Option TurnOutput) → SameTold t (turn_appends t n input k o)
turn_told t n input (Some k) (Some o) =
    let u : RunReport = cut_appends t n (is_some o.wrote) (cut_by t n k input o) in then_told t u (arms u n k input) (cut_told t n (is_some o.wrote) (cut_by t n k input o)) (arms_told u n k input)
turn_told t n input None o = same_told t
turn_told t n input (Some k) None = same_told t

-- The same, and no call follows.
pub record ToldBefore (t u : RunReport) : Type 0 where
  pub calls : u.calls ≡ t.calls
  pub alone : u.next_call ≡ None
  pub page : u.page ≡ t.page
  pub lines : u.lines ≡ t.lines

pub before_told : (t : RunReport) (n : ℕ) (input : Input) (k : Option NodeState) (o : Option TurnOutput) (took : Option Took) → (is_call input ≡ false → t.next_call ≡ None)
    → ToldBefore t (without_following (delivered_more (turn_appends t n input k o) took) input)
before_told t n input k o took quiet =
    let u : RunReport = turn_appends t n input k o in
    let v : RunReport = delivered_more u took in
    let same : SameTold t v = then_told t u v (turn_told t n input k o) (took_told u took) in
    cond_both (is_call input) (record v { next_call = None }) v (ToldBefore t) (λ call. record { calls = same.calls; alone = refl; page = same.page; lines = same.lines })
    (λ other. record { calls = same.calls; alone = same.next_call ∙ quiet other; page = same.page; lines = same.lines })
