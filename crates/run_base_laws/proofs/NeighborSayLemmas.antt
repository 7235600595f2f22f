-- The messages to neighbours, of live branches and of kept ones.
use Rattle.std.proofs.Common.{◌≡◌, ℕ, ◌+◌, ◌&&◌, not, false, List, [], ◌∷◌, ◌++◌, map, filter, fold, Option, Some, None, inl, inr, refl, subst, ◌∙◌}
use Rattle.std.specs.Prelude.{flat_map}
use Rattle.std.specs.List.{AllByRecursion}
use Rattle.std.proofs.lemmas.Bool.{cond_both}
use Rattle.commit_forget.specs.declared.next.Beyond.{Beyond}
use Rattle.commit_forget.specs.Beyond.{parent_beyond, kid_beyond}
use Rattle.reco.specs.declared.post.Post.{Post}
use Rattle.reco.specs.declared.told.Told.{Told}
use Rattle.reco.specs.declared.told.Told.TheVariants as tolds
use Rattle.node_rules.specs.Data.{Answer, BranchId, Decision, Kind, Edge, KeptRow}
use Rattle.node_rules.specs.declared.work.Errand.{Errand}
use Rattle.node_rules.specs.Data.decisions
use Rattle.node_rules.specs.Data.kinds
use Rattle.node_rules.specs.declared.session.Session.{Session}
use Rattle.node_rules.specs.Words.{put_by_branch}
use Rattle.session_tree.specs.Live.{is_branch}
use Rattle.node_rules.specs.NodeState.{NodeState, Branch, post_one, to_each, to_one}
use Rattle.node_rules.specs.Calls.{answer_says, exec_to}
use Rattle.node_rules.specs.Prepare.{prepares}
use Rattle.node_rules.specs.Commit.{beyond, all_acked, passes_commit, rollback_to, passes}
use Rattle.node_rules.specs.Recovery.{told_kind, Asking, asking_id, asks_live, asks_kept, acks_again, recovers, askings}
use Rattle.run_rules.specs.Births.{Born}
use Rattle.run_base_laws.specs.BirthLaws.{IsChild, AreNeighbors, LiveIs, TowardIs, KeptIs, NamesAre, GoesSo}
use Rattle.run_rules.proofs.ListLemmas.{all_weaker, all_filter, all_append, all_map, all_put}
use Rattle.run_base_laws.proofs.NeighborLemmas.{up}

module _ (B : Born → Type 0) where
  -- ---- lists of messages

  abbrev pub Goes : Post → Type 0
  Goes x = GoesSo B x.from x.to x.kind

  abbrev pub GoAll : List Post → Type 0
  GoAll posts = AllByRecursion Goes posts

  pub one_goes : (from : BranchId) (kind : Kind) (to : Option BranchId) → ((b : BranchId) → to ≡ Some b → GoesSo B from b kind) → GoAll (to_one from kind to)
  one_goes from kind None may = tt
  one_goes from kind (Some to) may = (may to refl, tt)

  pub each_goes : (from : BranchId) (kind : Kind) (tos : List BranchId) → AllByRecursion (λ b. GoesSo B from b kind) tos → GoAll (to_each from kind tos)
  each_goes from kind tos all = all_map Goes (post_one from kind) tos all

  pub answer_goes : (x : Branch) (a : Answer) (parent : Option BranchId) → ((b : BranchId) → parent ≡ Some b → IsChild B x.live.me b) → GoAll (answer_says x a parent)
  answer_goes x a None above = tt
  answer_goes x a (Some parent) above = (above parent refl, tt)

  pub exec_goes : (ss : List Session) (x : Branch) (i : ℕ) (e : Errand) (to : Option BranchId) → ((b : BranchId) → to ≡ Some b → IsChild B b x.live.me) → GoAll (exec_to ss x i e to)
  exec_goes ss x i e None below = tt
  exec_goes ss x i e (Some to) below = (below to refl, tt)

  pub prepares_go : (me : BranchId) (comment : List ℕ) (path : Option ℕ) (i : ℕ) (es : List Edge) → AllByRecursion (λ e. IsChild B e.peer me) es → GoAll (prepares me comment path i es)
  prepares_go me comment path i [] all = tt
  prepares_go me comment path i (e ∷ es) all = (all.0, prepares_go me comment path (i + 1) es all.1)

  pub told_goes : (a b : BranchId) (t : Told) → AreNeighbors B a b → GoesSo B a b (told_kind t)
  told_goes a b (tolds.Committed n) near = near
  told_goes a b tolds.RolledBack near = near
  told_goes a b tolds.RollBackFirst near = near
  told_goes a b tolds.InDoubt near = near

  -- ---- what a kept branch says

  -- one beyond is a neighbour, and a child where it is not the parent
  abbrev BeyondIs : BranchId → Beyond → Type 0
  BeyondIs me b = AreNeighbors B me b.branch × (b.is_parent ≡ false → IsChild B b.branch me)

  module _ (s : KeptRow) (is : KeptIs B s) where
    row_up : (b : BranchId) → s.parent ≡ Some b → IsChild B s.me b
    row_up b at = (is.born, is.began, is.is_me, is.is_parent ∙ at)

    parent_is : (parent : Option BranchId) → ((b : BranchId) → parent ≡ Some b → IsChild B s.me b) → AllByRecursion (BeyondIs s.me) (parent_beyond s parent)
    parent_is None above = tt
    parent_is (Some b) above = cond_both (is_branch b s.toward) _ _ (AllByRecursion (BeyondIs s.me)) (λ on. tt) (λ off. ((inl (above b refl), (λ no. absurd cc)), tt))

    beyond_is : AllByRecursion (BeyondIs s.me) (beyond s)
    unfolding beyond
    beyond_is =
        all_append (BeyondIs s.me) (parent_beyond s s.parent) _ (parent_is s.parent row_up)
        (all_map (BeyondIs s.me) kid_beyond (filter (λ c. not (is_branch c.branch s.toward)) s.children)
        (all_filter (λ c. IsChild B c.branch s.me) (λ c. BeyondIs s.me (kid_beyond c)) (λ c. not (is_branch c.branch s.toward)) (λ c off kid. (inr kid, (λ no. kid))) s.children is.kids))

    pub beyond_near : AllByRecursion (AreNeighbors B s.me) (map (λ b. b.branch) (beyond s))
    beyond_near = all_map (AreNeighbors B s.me) (λ b. b.branch) (beyond s) (all_weaker (BeyondIs s.me) (λ b. AreNeighbors B s.me b.branch) (λ b so. so.0) (beyond s) beyond_is)

    pub toward_near : (toward : Option BranchId) → TowardIs B s.me toward → (b : BranchId) → toward ≡ Some b → AreNeighbors B s.me b
    toward_near None near b at = absurd cc
    toward_near (Some c) near b at = subst (AreNeighbors B s.me) (let it : Some c ≡ Some b = at in cc) near

    commit_goes : (n : ℕ) (bs : List Beyond) → AllByRecursion (BeyondIs s.me) bs → GoAll (passes_commit s n bs)
    commit_goes n [] all = one_goes s.me kinds.Ack s.toward (toward_near s.toward is.site_way)
    commit_goes n (b ∷ bs) all =
        each_goes s.me (kinds.Committed n) (map (λ c. c.branch) (b ∷ bs))
        (all_map (AreNeighbors B s.me) (λ c. c.branch) (b ∷ bs) (all_weaker (BeyondIs s.me) (λ c. AreNeighbors B s.me c.branch) (λ c so. so.0) (b ∷ bs) all))

    -- a decision goes on to those beyond
    pub passes_go : (d : Decision) → GoAll (passes s d)
    passes_go (decisions.Commit n) = commit_goes n (beyond s) beyond_is
    passes_go decisions.Rollback =
        all_map Goes (rollback_to s.me) (beyond s)
        (all_weaker (BeyondIs s.me) _ (λ b so. cond_both b.is_parent kinds.RolledBack kinds.Rollback (λ kind. GoesSo B s.me b.branch kind) (λ up. so.0) (λ down. so.1 down)) (beyond s) beyond_is)

    again_goes : GoAll (acks_again s)
    again_goes = cond_both (all_acked s && not s.forgot) (to_one s.me kinds.Ack s.toward) [] GoAll (λ all. one_goes s.me kinds.Ack s.toward (toward_near s.toward is.site_way)) (λ some. tt)

    recovers_go : (d : Option Decision) → GoAll (recovers s d)
    recovers_go None = one_goes s.me kinds.Ask s.toward (toward_near s.toward is.site_way)
    recovers_go (Some (decisions.Commit n)) =
        all_append Goes _ (acks_again s)
        (each_goes s.me (kinds.Committed n) (map (λ b. b.branch) (filter (λ b. not b.acked) (beyond s)))
        (all_map (AreNeighbors B s.me) (λ b. b.branch) (filter (λ b. not b.acked) (beyond s))
        (all_filter (BeyondIs s.me) (λ b. AreNeighbors B s.me b.branch) (λ b. not b.acked) (λ b missing so. so.0) (beyond s) beyond_is))) again_goes
    recovers_go (Some decisions.Rollback) = tt

  -- ---- recovery

  abbrev AsksSo : Asking → Type 0
  AsksSo a = GoAll a.says

  sorted_go : (more asked : List Asking) → AllByRecursion AsksSo asked → AllByRecursion AsksSo more → AllByRecursion AsksSo (fold (put_by_branch asking_id) asked more)
  sorted_go [] asked all rest = all
  sorted_go (a ∷ more) asked all rest = sorted_go more (put_by_branch asking_id asked a) (all_put AsksSo asking_id asked a all rest.0) rest.1

  flat_go : (asked : List Asking) → AllByRecursion AsksSo asked → GoAll (flat_map (λ a. a.says) asked)
  flat_go [] all = tt
  flat_go (a ∷ asked) all = all_append Goes a.says _ all.0 (flat_go asked all.1)

  pub askings_go : (k : NodeState) → NamesAre B k → GoAll (flat_map (λ a. a.says) (askings k))
  askings_go k names =
      flat_go (askings k) (sorted_go (map asks_live k.lives ++ map asks_kept k.stored.durable.kept) [] tt
      (all_append AsksSo (map asks_live k.lives) (map asks_kept k.stored.durable.kept)
      (all_map AsksSo asks_live k.lives (all_weaker (LiveIs B) _ (λ l is. one_goes l.me kinds.Ask l.parent (λ b at. inl (up B l is b at))) k.lives names.0))
      (all_map AsksSo asks_kept k.stored.durable.kept (all_weaker (KeptIs B) _ (λ s is. recovers_go s is s.decision) k.stored.durable.kept names.1))))
