-- A branch whose new child is there goes on with what waited for it.
use Rattle.std.proofs.Common.{◌≡◌, ℕ, zero, suc, ◌+◌, ◌==◌, ◌<◌, ◌^◌, Bool, true, false, if◌then◌else◌, List, [], ◌∷◌, ◌++◌, length, slice_get, unwrap_or, Option, None, Some, IfSome, refl, sym, ap, subst, ◌∙◌, arith}
use Rattle.dtx_values.specs.Limits.{link_limit}
use Rattle.std.proofs.lemmas.Bool.Decides.{nat_tests}
use Rattle.tran_ids.specs.declared.branch.BranchId.{BranchId}
use Rattle.tran_ids.specs.Listed.{item_at, put_item}
use Rattle.tran_ids.proofs.ListedLemmas.{item_is}
use Rattle.session_tree.specs.Live.{add_edge, new_edge, next_edge}
use Rattle.node_rules.specs.Data.{Edge, Live}
use Rattle.node_rules.specs.declared.work.Errand.{Errand}
use Rattle.node_rules.specs.declared.work.Going.{Going}
use Rattle.node_rules.specs.declared.work.Waits.{Waits}
use Rattle.node_rules.specs.declared.work.Work.{Work}
use Rattle.node_rules.specs.declared.work.Waits.TheVariants as waiting
use Rattle.node_rules.specs.NodeState.{NodeState, Branch, TurnDraft as DraftByRules, nothing, live_id, branch_at, with_branch}
use Rattle.node_rules.specs.Calls.{call_pends, called, calls_over, exec_to, next_call, on_opened, opened_going, opened_waits, with_edge}
use Rattle.session_tree.specs.Live.{peer_of}
use Rattle.node_state.specs.Changed.{change_item, with_item}
use Rattle.node_state.specs.Works.{change_work, with_child, work_of}
use Rattle.node_drafts.specs.declared.draft.TurnDraft.{TurnDraft}
use Rattle.node_drafts.specs.Gives.{GivesDraft}
use Rattle.node_calls.specs.declared.opened.Waited.{Waited}
use Rattle.node_calls.specs.Handled.{at_live, goes_on, waited_for, waits_for, ChildrenLeaveRoom, HasRoomWhile}
use Rattle.node_calls.proofs.BranchLaws.{work_branch, branch_here, somebody, found_changed, changed_twice, calls_changed}

-- what a branch does with what waited for its child, and nothing where nothing did
abbrev goes_if : NodeState → Branch → BranchId → ℕ → Option Waited → DraftByRules
goes_if k x from strength None = nothing k
goes_if k x from strength (Some w) = goes_on k x from strength w

waits_is : (k : NodeState) (x : Branch) (from : BranchId) (strength : ℕ) (g : Going) (waits : Waits) → opened_waits k x from strength g waits ≡ goes_if k x from strength (waits_for g waits)
waits_is k x from strength g (waiting.ForReply i) = refl
waits_is k x from strength g (waiting.ForOpened link) = refl

opened_if : (k : NodeState) (x : Branch) (from : BranchId) (strength : ℕ) (g : Going) (here : Bool)
    → (if here then opened_waits k x from strength g g.waits else nothing k) ≡ goes_if k x from strength (if here then waits_for g g.waits else None)
opened_if k x from strength g true = waits_is k x from strength g g.waits
opened_if k x from strength g false = refl

opened_is : (k : NodeState) (x : Branch) (from : BranchId) (edge strength : ℕ) (g : Option Going) → opened_going k x from edge strength g ≡ goes_if k x from strength (waited_for edge (next_edge x.live) g)
opened_is k x from edge strength None = refl
opened_is k x from edge strength (Some g) = opened_if k x from strength g (edge == next_edge x.live)

number_if : (edge next : ℕ) (g : Going) (w : Waited) (here : Bool) → (edge == next) ≡ here → (if here then waits_for g g.waits else None) ≡ Some w → edge ≡ next
number_if edge next g w true is found = grind (arith, nat_tests, is)
number_if edge next g w false is found = absurd cc

-- what waits for a child waits for the next one
number_is : (edge next : ℕ) (g : Option Going) (w : Waited) → waited_for edge next g ≡ Some w → edge ≡ next
number_is edge next None w found = absurd cc
number_is edge next (Some g) w found = number_if edge next g w (edge == next) refl found

-- the calls of a branch with one more child
child_added : (ws : List Work) (b : BranchId) → work_of (change_work with_child ws b) b ≡ with_child (work_of ws b)
child_added ws b = calls_changed with_child (λ w. refl) ws b

-- and each number stands for the same next call as before
read_last : (cs : List ℕ) (i : ℕ) → unwrap_or (slice_get (cs ++ 0 ∷ []) i) 0 ≡ unwrap_or (slice_get cs i) 0
read_last [] zero = refl
read_last [] (suc i) = refl
read_last (c ∷ cs) zero = refl
read_last (c ∷ cs) (suc i) = read_last cs i

next_same : (w : Work) (i : ℕ) → next_call (with_child w) i ≡ next_call w i
next_same w zero = refl
next_same w (suc i) = ap (λ n. n + 1) (read_last w.calls i)

pub numbers_with_child : (ws : List Work) (b : BranchId) (i : ℕ) → next_call (work_of ws b) i < 2 ^ 32 → next_call (work_of (change_work with_child ws b) b) i < 2 ^ 32
numbers_with_child ws b i low = subst (λ n. n < 2 ^ 32) (sym (ap (λ w. next_call w i) (child_added ws b) ∙ next_same (work_of ws b) i)) low

-- what waits for a child has room for it
room_of : (children : ℕ) (g : Going) (waits : Waits) (w : Waited) → waits_for g waits ≡ Some w → ChildrenLeaveRoom children waits → children < link_limit
room_of children g (waiting.ForReply i) w found room = absurd cc
room_of children g (waiting.ForOpened link) w found room = room

room_if : (children : ℕ) (g : Going) (here : Bool) (w : Waited) → (if here then waits_for g g.waits else None) ≡ Some w → ChildrenLeaveRoom children g.waits → children < link_limit
room_if children g true w found room = room_of children g g.waits w found room
room_if children g false w found room = absurd cc

room_while : (children edge next : ℕ) (g : Option Going) (w : Waited) → waited_for edge next g ≡ Some w → HasRoomWhile children g → children < link_limit
room_while children edge next None w found room = absurd cc
room_while children edge next (Some g) w found room = room_if children g (edge == next) w found room

pub room_there : (ls : List Live) (b : BranchId) (l : Live) (edge : ℕ) (g : Option Going) (w : Waited) → item_at live_id ls b ≡ Some l → waited_for edge (next_edge l) g ≡ Some w
    → IfSome (item_at live_id ls b) (λ x. HasRoomWhile (length x.edges) g) → IfSome (item_at live_id ls b) (λ x. length x.edges < link_limit)
room_there ls b l edge g w is found room =
    let there : HasRoomWhile (length l.edges) g = subst (λ o. IfSome o (λ x. HasRoomWhile (length x.edges) g)) is room in
    subst (λ o. IfSome o (λ x. length x.edges < link_limit)) (sym is) (room_while (length l.edges) edge (next_edge l) g w found there)

-- an errand goes on the same where its branch was put in its place before
pub calls_twice : (k : NodeState) (x y : Branch) (i : ℕ) (e : Errand) → x.live.me ≡ y.live.me → x.work.branch ≡ y.work.branch → calls_over (with_branch k x) y i e ≡ calls_over k y i e
calls_twice k x y i e me mine =
    ap (λ m. record { after = record m { sessions = call_pends k.sessions y.live }; wrote = None; says = exec_to k.sessions y i e (peer_of y.live i); ended = [] })
    (changed_twice k x (called k.sessions y i e) me mine)

pub calls_again : (k : NodeState) (x : Branch) (i : ℕ) (e : Errand) → calls_over (with_branch k x) x i e ≡ calls_over k x i e
calls_again k x i e = calls_twice k x x i e refl refl

module _ (k : NodeState) (b : BranchId) (l : Live) (is : item_at live_id k.lives b ≡ Some l) (from : BranchId) (edge strength : ℕ) where
  abbrev it : Branch
  it = branch_here k b l

  at_once : at_live k (λ x. on_opened k x from edge strength) (branch_at k b) ≡ goes_if k it from strength (waited_for edge (next_edge l) (work_of k.works b).going)
  at_once = somebody k b l (λ x. on_opened k x from edge strength) is ∙ opened_is k it from edge strength (work_of k.works b).going

  -- nothing waits for this child
  pub opened_ignored : (draft : TurnDraft) → waited_for edge (next_edge l) (work_of k.works b).going ≡ None → GivesDraft (nothing k) k draft
      → GivesDraft (at_live k (λ x. on_opened k x from edge strength) (branch_at k b)) k draft
  opened_ignored draft none does = subst (λ d. GivesDraft d k draft) (sym (at_once ∙ ap (goes_if k it from strength) none)) does

  -- the branch with its new child, called
  pub opened_so : (w : Waited) (e : Edge) (lives : List Live) (works : List Work) (after : NodeState) (draft : TurnDraft) → waited_for edge (next_edge l) (work_of k.works b).going ≡ Some w
      → e ≡ new_edge from w.link strength → lives ≡ change_item live_id (λ y. add_edge y e) k.lives b → works ≡ change_work with_child k.works b
      → GivesDraft (at_live (record k { lives = lives; works = works }) (λ x. calls_over (record k { lives = lives; works = works }) x edge w.errand) (branch_at (record k { lives = lives; works = works }) b)) after draft
      → GivesDraft (at_live k (λ x. on_opened k x from edge strength) (branch_at k b)) after draft
  opened_so w e lives works after draft waits is_e is_lives is_works does =
      let m : NodeState = record k { lives = lives; works = works } in
      let x = with_edge it (new_edge from w.link strength) in
      let put : m ≡ with_branch k x =
      ap (λ ls. record k { lives = ls; works = works }) (is_lives ∙ ap (λ d. change_item live_id (λ y. add_edge y d) k.lives b) is_e ∙ ap (with_item live_id (λ y. add_edge y (new_edge from w.link strength)) k.lives) is)
      ∙ ap (λ ws. record k { lives = put_item live_id k.lives x.live; works = ws }) is_works in
      let me : l.me ≡ b = item_is live_id k.lives b l is in
      let mine : x.work.branch ≡ x.live.me = work_branch k.works b ∙ sym me in
      let code : at_live m (λ y. calls_over m y edge w.errand) (branch_at m b) ≡ calls_over k x edge w.errand =
      ap (λ n. at_live n (λ y. calls_over n y edge w.errand) (branch_at n b)) put
      ∙ ap (at_live (with_branch k x) (λ y. calls_over (with_branch k x) y edge w.errand)) (found_changed k b x me mine)
      ∙ calls_again k x edge w.errand in
      let rules : at_live k (λ y. on_opened k y from edge strength) (branch_at k b) ≡ calls_over k x edge w.errand =
      at_once ∙ ap (goes_if k it from strength) waits ∙ ap (λ i. calls_over k x i w.errand) (sym (number_is edge (next_edge l) (work_of k.works b).going w waits)) in
      subst (λ d. GivesDraft d after draft) (code ∙ sym rules) does
