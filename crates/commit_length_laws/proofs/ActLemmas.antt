-- What an act of the prepare phase costs: it sends and keeps no more than its branch had.
use Rattle.std.proofs.Common.{◌≡◌, ℕ, ◌+◌, ◌*◌, ◌≤◌, ◌||◌, Bool, true, false, if◌then◌else◌, List, [], ◌∷◌, map, filter, length, is_none, Option, Some, None, refl, sym, ap, subst, arith}
use Rattle.std.proofs.lemmas.Bool.{cond_both}
use Rattle.std.specs.Option.{option_to_list}
use Rattle.redo_record.specs.Durable.{durable_after}
use Rattle.redo_record.specs.Kept.{kept_after, add_kept, keep_decided}
use Rattle.redo_record.specs.Rows.{sealed_as, decided_as, has_neighbors, kid_of}
use Rattle.session_tree.specs.Live.{children_of, peer_of}
use Rattle.session_tree.specs.Tree.{weight, step}
use Rattle.prepare_phase.specs.Records.{is_place}
use Rattle.node_rules.specs.Data.{Act, BranchId, Edge, Live, Post, Walk}
use Rattle.commit_forget.specs.Beyond.{all_acked}
use Rattle.node_rules.specs.Data.acts
use Rattle.node_rules.specs.Data.decisions
use Rattle.node_rules.specs.Data.kinds
use Rattle.node_rules.specs.Data.phases
use Rattle.node_rules.specs.Data.records
use Rattle.node_rules.specs.Data.walks
use Rattle.node_rules.specs.Records.{applied, with_record}
use Rattle.node_rules.specs.NodeState.{NodeState, live_id, live_at, kept_row_id, to_each, to_one, with_live, without_branch}
use Rattle.node_rules.specs.Prepare.{act_turn, path_of, named_children, is_prepared, ready, site_neighbors, sealed_of, decided_of, own_changes, collected_act, root_act, commit_point_act}
use Rattle.commit_length_laws.proofs.TotalLemmas.{total_append, drop_total, put_total, insert_total}
use Rattle.commit_length_laws.proofs.WorthLemmas.{known_most, post_worth, says_worth, live_low, row_low, each_worth, one_worth, asked_worth, asks_worth, map_length, append_length, filter_low}
use Rattle.commit_length_laws.specs.Worth.{total, one_of, neighbors, phase_worth, live_worth, row_worth, node_worth}

-- ---- records

named_low : (path : Option ℕ) (i : ℕ) (es : List Edge) → length (named_children path i es) ≤ length es
named_low path i [] = omega arith
named_low path i (e ∷ es) =
    (let rest = named_low path (i + 1) es in
    by (is_prepared e || is_place i path) rest)
  where
    by : (q : Bool) → length (named_children path (i + 1) es) ≤ length es → length (if q then record { branch = e.peer; link = e.link } ∷ named_children path (i + 1) es else named_children path (i + 1) es) ≤ length (e ∷ es)
    by true rest = omega (arith, rest)
    by false rest = omega (arith, rest)

list_of : (o : Option BranchId) → length (option_to_list o) ≡ one_of o
list_of None = refl
list_of (Some q) = refl

site_low : (l : Live) → length (site_neighbors l) ≤ one_of l.parent + length l.edges
site_low l =
    let one = list_of l.parent in
    let two : length (map (λ (e : Edge). e.peer) (filter is_prepared l.edges)) ≡ length (filter is_prepared l.edges) = map_length (λ (e : Edge). e.peer) (filter is_prepared l.edges) in
    let three : length (filter is_prepared l.edges) ≤ length l.edges = filter_low is_prepared l.edges in
    let all : length (site_neighbors l) ≡ length (option_to_list l.parent) + length (map (λ (e : Edge). e.peer) (filter is_prepared l.edges)) = append_length (option_to_list l.parent) (map (λ (e : Edge). e.peer) (filter is_prepared l.edges)) in
    omega (arith, one, two, three, all)

module _ (g : BranchId) (ask : BranchId → ℕ) where
  abbrev says : List Post → ℕ
  says ms = says_worth ask ms

  abbrev held : NodeState → ℕ
  held k = node_worth g k

  -- what an act may cost
  abbrev pub act_cost : Live → Act → ℕ
  act_cost l acts.Rest = live_worth g l
  act_cost l acts.AskDown = live_worth g l + asked_worth ask l.edges
  act_cost l acts.SayReadOnly = 1
  act_cost l acts.SayReady = 6 + 4 * length l.edges
  act_cost l acts.Seal = 1 + 4 * (one_of l.parent + length l.edges)
  act_cost l (acts.SealAndPass i) = 4 + 4 * (one_of l.parent + length l.edges)
  act_cost l acts.Decide = 2 + 4 * (one_of l.parent + length l.edges)
  act_cost l acts.Finish = 0
  act_cost l acts.Abandon = 1

  module _ (k : NodeState) (x l : Live) (found : live_at k l.me ≡ Some x) where
    left : held (without_branch k l.me) + live_worth g x ≤ held k
    left = (let low = drop_total (live_worth g) live_id l.me k.lives x found in omega (arith, low))

    stays : (y : Live) → y.me ≡ l.me → held (with_live k y) + live_worth g x ≡ held k + live_worth g y
    stays y me =
        let at : live_at k y.me ≡ Some x = subst (λ b. live_at k b ≡ Some x) (sym me) found in
        let is = put_total (live_worth g) live_id k.lives y x at in
        omega (arith, is)

    sealed_low : (scn : ℕ) (path : Option ℕ) → row_worth g (sealed_as (sealed_of scn l (own_changes k l.me) path)) ≤ 4 * (one_of l.parent + length l.edges)
    sealed_low scn path =
        let low = row_low g (sealed_as (sealed_of scn l (own_changes k l.me) path)) in
        let kids : length (map kid_of (named_children path 1 l.edges)) ≡ length (named_children path 1 l.edges) = map_length kid_of (named_children path 1 l.edges) in
        let few = named_low path 1 l.edges in
        omega (arith, low, kids, few)

    decided_low : (scn : ℕ) → row_worth g (decided_as (decided_of scn l (own_changes k l.me))) ≤ 2 + (one_of l.parent + length l.edges)
    decided_low scn =
        let low = row_low g (decided_as (decided_of scn l (own_changes k l.me))) in
        let kids : length (map kid_of (named_children None 1 l.edges)) ≡ length (named_children None 1 l.edges) = map_length kid_of (named_children None 1 l.edges) in
        let few = named_low None 1 l.edges in
        let most = known_most (decisions.Commit scn) false (all_acked (decided_as (decided_of scn l (own_changes k l.me)))) (neighbors (decided_as (decided_of scn l (own_changes k l.me)))) in
        omega (arith, low, kids, few, most)

    seals_low : (b : Bool) (path : Option ℕ) (ms : List Post) (n : ℕ) → says ms ≤ n
        → says ms + held (with_record (without_branch k l.me) (records.Sealed (sealed_of k.clock l (own_changes k l.me) path))) + live_worth g x ≤ (n + 4 * (one_of l.parent + length l.edges)) + held k
    unfolding applied durable_after kept_after
    seals_low b path ms n few =
        let gone = left in
        let row = sealed_low k.clock path in
        let more = insert_total (row_worth g) kept_row_id k.stored.durable.kept (sealed_as (sealed_of k.clock l (own_changes k l.me) path)) in
        omega (arith, few, gone, row, more)

    decides_low : says (act_turn k l true acts.Decide).says + held (act_turn k l true acts.Decide).after + live_worth g x ≤ (2 + 4 * (one_of l.parent + length l.edges)) + held k
    unfolding applied durable_after kept_after
    decides_low =
        let gone = left in
        let row = decided_low (k.clock + 1) in
        let told = each_worth ask l.me (kinds.Committed (k.clock + 1)) (site_neighbors l) 3 (λ to. refl) in
        let few = site_low l in
        let more : total (row_worth g) (keep_decided k.stored.durable.kept (decided_as (decided_of (k.clock + 1) l (own_changes k l.me)))) ≤ total (row_worth g) k.stored.durable.kept + row_worth g (decided_as (decided_of (k.clock + 1) l (own_changes k l.me)))
        = cond_both (has_neighbors (decided_as (decided_of (k.clock + 1) l (own_changes k l.me)))) (add_kept k.stored.durable.kept (decided_as (decided_of (k.clock + 1) l (own_changes k l.me)))) k.stored.durable.kept
        (λ ks. total (row_worth g) ks ≤ total (row_worth g) k.stored.durable.kept + row_worth g (decided_as (decided_of (k.clock + 1) l (own_changes k l.me))))
        (λ some. (let is = insert_total (row_worth g) kept_row_id k.stored.durable.kept (decided_as (decided_of (k.clock + 1) l (own_changes k l.me))) in omega (arith, is))) (λ none. omega arith) in
        omega (arith, gone, row, told, few, more)

    -- so an act sends and keeps no more
    pub act_low : (b : Bool) (a : Act) → says (act_turn k l b a).says + held (act_turn k l b a).after + live_worth g x ≤ act_cost l a + held k
    act_low b acts.Rest = (let is = stays l refl in omega (arith, is))
    act_low b acts.AskDown = (let is = stays l refl in let asks = asks_worth ask l.me l.comment (path_of b (step l)) 1 l.edges in omega (arith, is, asks))
    act_low b acts.SayReadOnly = (let gone = left in let few = one_worth ask l.me kinds.ReadOnly l.parent 1 (λ to. omega arith) in omega (arith, gone, few))
    act_low b acts.SayReady =
        (let is = stays (ready l) refl in
        let few = one_worth ask l.me kinds.Ready l.parent 1 (λ to. omega arith) in
        let low : live_worth g (ready l) ≤ 5 + 4 * length l.edges = live_low g (ready l) in
        omega (arith, is, few, low))
    act_low b acts.Seal = seals_low b None (to_one l.me kinds.Prepared l.parent) 1 (one_worth ask l.me kinds.Prepared l.parent 1 (λ to. omega arith))
    act_low b (acts.SealAndPass i) = seals_low b (Some i) (to_one l.me kinds.CommitPoint (peer_of l i)) 4 (one_worth ask l.me kinds.CommitPoint (peer_of l i) 4 (λ to. omega arith))
    act_low b acts.Decide = decides_low
    act_low b acts.Finish = (let gone = left in omega (arith, gone))
    act_low b acts.Abandon =
        (let gone = left in
        let few = one_worth ask l.me kinds.Abort l.parent 1 (λ to. omega arith) in
        let none = each_worth ask l.me kinds.Rollback (children_of l) 0 (λ to. refl) in
        let both = total_append (post_worth ask) (to_one l.me kinds.Abort l.parent) (to_each l.me kinds.Rollback (children_of l)) in
        omega (arith, gone, few, none, both))

  -- ---- which acts

  none_one : (o : Option BranchId) → is_none o ≡ true → one_of o ≡ 0
  none_one None is = refl
  none_one (Some q) is = absurd cc

  one_low : (o : Option BranchId) → one_of o ≤ 1
  one_low None = omega arith
  one_low (Some q) = omega arith

  root_cost : (l : Live) (w : Walk) → is_none l.parent ≡ true → act_cost l (root_act w) ≤ 6 + 4 * length l.edges
  root_cost l walks.Here top = (let none = none_one l.parent top in omega (arith, none))
  root_cost l (walks.Down i) top = (let none = none_one l.parent top in omega (arith, none))
  root_cost l walks.Nowhere top = omega arith

  -- a collect that is over
  pub collected_cost : (l : Live) (b : Bool) → act_cost l (collected_act l b) ≤ 6 + 4 * length l.edges
  collected_cost l true = cond_both (is_none l.parent) (root_act (step l)) acts.SayReady (λ a. act_cost l a ≤ 6 + 4 * length l.edges) (λ top. root_cost l (step l) top) (λ below. omega arith)
  collected_cost l false = cond_both (is_none (weight l)) acts.SayReadOnly acts.Seal (λ a. act_cost l a ≤ 6 + 4 * length l.edges) (λ none. omega arith) (λ some. (let low = one_low l.parent in omega (arith, low)))

  -- CommitPoint at a branch that is Ready
  pub point_cost : (l : Live) (w : Walk) → l.phase ≡ phases.Ready → act_cost l (commit_point_act w) ≤ 8 + 4 * length l.edges
  point_cost l walks.Here is = (let low = one_low l.parent in omega (arith, low))
  point_cost l (walks.Down i) is = (let low = one_low l.parent in omega (arith, low))
  point_cost l walks.Nowhere is =
      (let low : live_worth g l ≤ phase_worth l.phase (length l.edges) = live_low g l in
      let ready : phase_worth l.phase (length l.edges) ≡ 5 + 4 * length l.edges = ap (λ p. phase_worth p (length l.edges)) is in
      omega (arith, low, ready))
