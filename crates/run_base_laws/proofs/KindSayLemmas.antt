-- What is so of the kinds of messages that branches send is so of all messages of a draft.
use Rattle.std.proofs.Common.{ℕ, ◌+◌, ◌&&◌, not, Bool, List, [], ◌∷◌, ◌++◌, map, filter, fold, Option, Some, None}
use Rattle.std.specs.Prelude.{flat_map}
use Rattle.std.specs.List.{AllByRecursion}
use Rattle.std.proofs.lemmas.Bool.{cond_both}
use Rattle.commit_forget.specs.declared.next.Beyond.{Beyond}
use Rattle.reco.specs.declared.post.Post.{Post}
use Rattle.reco.specs.declared.told.Told.{Told}
use Rattle.reco.specs.declared.told.Told.TheVariants as tolds
use Rattle.node_rules.specs.Data.{BranchId, Decision, Edge, Kind, KeptRow}
use Rattle.node_rules.specs.Data.decisions
use Rattle.node_rules.specs.Data.kinds
use Rattle.node_rules.specs.Words.{put_by_branch}
use Rattle.node_rules.specs.NodeState.{NodeState, post_one, to_each, to_one}
use Rattle.node_rules.specs.Prepare.{prepares}
use Rattle.node_rules.specs.Commit.{beyond, all_acked, passes_commit, rollback_to, passes}
use Rattle.node_rules.specs.Recovery.{told_kind, Asking, asking_id, asks_live, asks_kept, acks_again, recovers, askings}
use Rattle.run_rules.proofs.ListLemmas.{all_append, all_each, all_put}

-- What is so of the messages after a decision.
pub record OfDecisions (P : Kind → Type 0) : Type 0 where
  pub committed : (n : ℕ) → P (kinds.Committed n)
  pub rolled_back : P kinds.RolledBack
  pub rollback : P kinds.Rollback
  pub in_doubt : P kinds.InDoubt
  pub ack : P kinds.Ack
  pub forgotten : P kinds.Forgotten
  pub ask : P kinds.Ask

module _ (P : Kind → Type 0) where
  abbrev pub AllSay : List Post → Type 0
  AllSay posts = AllByRecursion (λ x. P x.kind) posts

  pub one_says : (from : BranchId) (kind : Kind) (to : Option BranchId) → P kind → AllSay (to_one from kind to)
  one_says from kind None is = tt
  one_says from kind (Some to) is = (is, tt)

  pub each_says : (from : BranchId) (kind : Kind) (tos : List BranchId) → P kind → AllSay (to_each from kind tos)
  each_says from kind tos is = all_each (λ x. P x.kind) (post_one from kind) tos (λ b. is)

  pub prepares_say : ((site_below : Bool) (comment : List ℕ) → P (kinds.Prepare site_below comment)) → (me : BranchId) (comment : List ℕ) (path : Option ℕ) (i : ℕ) (es : List Edge) → AllSay (prepares me comment path i es)
  prepares_say is me comment path i [] = tt
  prepares_say is me comment path i (e ∷ es) = (is _ comment, prepares_say is me comment path (i + 1) es)

  module _ (is : OfDecisions P) where
    pub told_says : (t : Told) → P (told_kind t)
    told_says (tolds.Committed n) = is.committed n
    told_says tolds.RolledBack = is.rolled_back
    told_says tolds.RollBackFirst = is.rolled_back
    told_says tolds.InDoubt = is.in_doubt

    commit_says : (s : KeptRow) (n : ℕ) (bs : List Beyond) → AllSay (passes_commit s n bs)
    commit_says s n [] = one_says s.me kinds.Ack s.toward is.ack
    commit_says s n (b ∷ bs) = each_says s.me (kinds.Committed n) (map (λ c. c.branch) (b ∷ bs)) (is.committed n)

    pub passes_say : (s : KeptRow) (d : Decision) → AllSay (passes s d)
    passes_say s (decisions.Commit n) = commit_says s n (beyond s)
    passes_say s decisions.Rollback = all_each (λ x. P x.kind) (rollback_to s.me) (beyond s) (λ b. cond_both b.is_parent kinds.RolledBack kinds.Rollback P (λ up. is.rolled_back) (λ down. is.rollback))

    again_says : (s : KeptRow) → AllSay (acks_again s)
    again_says s = cond_both (all_acked s && not s.forgot) (to_one s.me kinds.Ack s.toward) [] AllSay (λ all. one_says s.me kinds.Ack s.toward is.ack) (λ some. tt)

    recovers_say : (s : KeptRow) (d : Option Decision) → AllSay (recovers s d)
    recovers_say s None = one_says s.me kinds.Ask s.toward is.ask
    recovers_say s (Some (decisions.Commit n)) =
        all_append (λ x. P x.kind) _ (acks_again s) (each_says s.me (kinds.Committed n) (map (λ b. b.branch) (filter (λ b. not b.acked) (beyond s))) (is.committed n)) (again_says s)
    recovers_say s (Some decisions.Rollback) = tt

    abbrev AsksSo : Asking → Type 0
    AsksSo a = AllSay a.says

    sorted_say : (more asked : List Asking) → AllByRecursion AsksSo asked → AllByRecursion AsksSo more → AllByRecursion AsksSo (fold (put_by_branch asking_id) asked more)
    sorted_say [] asked all rest = all
    sorted_say (a ∷ more) asked all rest = sorted_say more (put_by_branch asking_id asked a) (all_put AsksSo asking_id asked a all rest.0) rest.1

    flat_say : (asked : List Asking) → AllByRecursion AsksSo asked → AllSay (flat_map (λ a. a.says) asked)
    flat_say [] all = tt
    flat_say (a ∷ asked) all = all_append (λ x. P x.kind) a.says _ all.0 (flat_say asked all.1)

    pub askings_say : (k : NodeState) → AllSay (flat_map (λ a. a.says) (askings k))
    askings_say k =
        flat_say (askings k) (sorted_say (map asks_live k.lives ++ map asks_kept k.stored.durable.kept) [] tt
        (all_append AsksSo (map asks_live k.lives) (map asks_kept k.stored.durable.kept) (all_each AsksSo asks_live k.lives (λ l. one_says l.me kinds.Ask l.parent is.ask))
        (all_each AsksSo asks_kept k.stored.durable.kept (λ s. recovers_say s s.decision))))
