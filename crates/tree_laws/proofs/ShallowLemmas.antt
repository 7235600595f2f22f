-- In every lawful run a live branch with a child stands above the greatest depth of a tree.
use Rattle.std.proofs.Common.{◌≡◌, ℕ, ◌+◌, ◌≤◌, ◌||◌, Bool, true, false, if◌then◌else◌, List, [], ◌∷◌, ◌++◌, length, Option, Some, None, refl, sym, subst, arith}
use Rattle.std.specs.Prelude.{nat_le, ◌==◌}
use Rattle.std.proofs.lemmas.Bool.Decides.{nat_tests}
use Rattle.std.proofs.lemmas.List.{length-map}
use Rattle.dtx_values.specs.Limits.{depth_limit}
use Rattle.tran_ids.proofs.ListedLemmas.{item_is}
use Rattle.tran_ids.proofs.NumberedLemmas.{set_length}
use Rattle.commit_forget.specs.declared.next.Next.TheVariants as nexts
use Rattle.node_rules.specs.Data.{BranchId, Edge, Live, Place, Input, Stmt, Act, Durable}
use Rattle.dtx_values.specs.declared.answer.Refusal.{Refusal}
use Rattle.node_rules.specs.Data.acts
use Rattle.node_rules.specs.declared.work.Errand.{Errand}
use Rattle.node_rules.specs.declared.work.Errand.TheVariants as errands
use Rattle.node_rules.specs.declared.work.Work.{Work}
use Rattle.node_rules.specs.declared.work.Going.{Going}
use Rattle.node_rules.specs.declared.work.Waits.TheVariants as waiting
use Rattle.session_tree.specs.Live.{new_edge, edge_by_link}
use Rattle.session_tree.specs.Tree.{room}
use Rattle.node_rules.specs.NodeState.{NodeState, Branch, TurnDraft, live_id, branch_at, with_branch, with_live, without_branch}
use Rattle.node_rules.specs.Names.{Named, Unknown, A_table, Behind, Nowhere_to, Through, named_by, ref_of, target_of, way_edge, way_target, way_named, way_of, passed_on}
use Rattle.node_rules.specs.Statement.{ran, answer_of_run}
use Rattle.node_rules.specs.Calls.{called, with_answer, waits_for_opened, with_edge, hears_reply, branch_ran, less_room}
use Rattle.node_rules.specs.Prepare.{with_prepare_sent, has_voted, ready}
use Rattle.node_rules.specs.Client.{gives_up, marked}
use Rattle.node_rules.proofs.Steps as steps
use Rattle.node_rules.proofs.Steps.{Step, Asked, Acting, Goes_to, Calls_back}
use Rattle.node_rules.proofs.StepLemmas.{acting_so}
use Rattle.node_rules.specs.LiveBranches.{EachLive, works_of}
use Rattle.node_rules.proofs.LiveLemmas.{none_live, each_put, each_changed, each_left, each_begun, branch_parts, work_is}
use Rattle.run_base_laws.proofs.NodeLemmas.{KeepsAlone, kept_alone}
use Rattle.tree_laws.specs.WeighLaws.{ParentsAreShallow}
use Rattle.node_rules.proofs.WayLemmas.{way_by_name}

-- ---- a link is opened above the greatest depth

low_enough : (a d : ℕ) → nat_le a d ≡ false → d + 1 ≤ a
low_enough a d is = grind (arith, nat_tests, is)

new_low : (deep wide full : Bool) (node : ℕ) (link table : List ℕ) (a b : Refusal) (n : ℕ) (k t : List ℕ) → (if deep || wide then Nowhere_to a else (if full then Nowhere_to b else Through node link table)) ≡ Through n k t → deep ≡ false
new_low true wide full node link table a b n k t is = absurd cc
new_low false wide full node link table a b n k t is = refl

pub edge_low : (p : Place) (l : Live) (given node : ℕ) (link table : List ℕ) (o : Option ℕ) (n : ℕ) (k t : List ℕ) → way_edge p l given node link table o ≡ Through n k t → nat_le depth_limit l.depth ≡ false
edge_low p l given node link table (Some i) n k t is = absurd cc
edge_low p l given node link table None n k t is = new_low (nat_le depth_limit l.depth) (room l given == 0) (nat_le p.links (length l.edges)) node link table _ _ n k t is

pub target_low : (p : Place) (l : Live) (given : ℕ) (link table : List ℕ) (o : Option ℕ) (n : ℕ) (k t : List ℕ) → way_target p l given link table o ≡ Through n k t → nat_le depth_limit l.depth ≡ false
target_low p l given link table None n k t is = absurd cc
target_low p l given link table (Some node) n k t is = edge_low p l given node link table (edge_by_link l link) n k t is

pub named_low : (p : Place) (d : Durable) (l : Live) (given : ℕ) (m : Named) (n : ℕ) (k t : List ℕ) → way_named p d l given m ≡ Through n k t → nat_le depth_limit l.depth ≡ false
named_low p d l given Unknown n k t is = absurd cc
named_low p d l given (A_table x) n k t is = absurd cc
named_low p d l given (Behind link table) n k t is = target_low p l given link table (target_of p d link) n k t is

way_low : (p : Place) (d : Durable) (l : Live) (given : ℕ) (s : Stmt) (n : ℕ) (k t : List ℕ) → way_of p d l given s ≡ Through n k t → l.depth + 1 ≤ depth_limit
way_low p d l given s n k t is = low_enough depth_limit l.depth (named_low p d l given (named_by d (ref_of s)) n k t (way_by_name p d l given s (Through n k t) tt is))

-- ---- branches

-- it has a child, or waits for one
pub record IsHigh (depth : ℕ) (edges : List Edge) (w : Work) : Type 0 where
  pub child : 1 ≤ length edges → depth + 1 ≤ depth_limit
  pub opens : (g : Going) (link : List ℕ) → w.going ≡ Some g → g.waits ≡ waiting.ForOpened link → depth + 1 ≤ depth_limit

abbrev High : Live → Work → Type 0
High l w = IsHigh l.depth l.edges w

abbrev Nodes : NodeState → Type 0
Nodes k = EachLive High k.lives k.works

as_many : (depth : ℕ) (es xs : List Edge) (w : Work) → length xs ≡ length es → IsHigh depth es w → IsHigh depth xs w
as_many depth es xs w same is = record { child = λ some. is.child (subst (λ n. 1 ≤ n) same some); opens = is.opens }

-- one that waits for no new child
waits_not : (depth : ℕ) (es : List Edge) (w : Work) → ((g : Going) (link : List ℕ) → w.going ≡ Some g → g.waits ≡ waiting.ForOpened link → ⊥) → (1 ≤ length es → depth + 1 ≤ depth_limit) → IsHigh depth es w
waits_not depth es w never child = record { child = child; opens = λ g link going waits. absurd (never g link going waits) }

module _ (k : NodeState) (now : Nodes k) where
  found_high : (x : Branch) → branch_at k x.live.me ≡ Some x → High x.live x.work
  found_high x live = let parts = branch_parts k x.live.me x live in subst (IsHigh x.live.depth x.live.edges) (sym parts.1) (now.each x.live.me x.live parts.0)

  asked_high : {input : Input} {x : Branch} {s : Stmt} {given : ℕ} → Asked k input x s given → (1 ≤ length x.live.edges → x.live.depth + 1 ≤ depth_limit) × (x.work.branch ≡ x.live.me)
  asked_high (steps.By_call n x s call rows has code live may) = ((found_high x live).child, work_is k x.live.me x live)
  asked_high (steps.By_exec x from call given advice s came live runs) = ((found_high x live).child, work_is k x.live.me x live)

  goes_high : {input : Input} {x : Branch} {step : ℕ} → Goes_to k input x step → (1 ≤ length x.live.edges → x.live.depth + 1 ≤ depth_limit) × (x.work.branch ≡ x.live.me)
  goes_high (steps.By_rollback_to n x name step call has code live set) = ((found_high x live).child, work_is k x.live.me x live)
  goes_high (steps.By_back x from call keep came live runs) = ((found_high x live).child, work_is k x.live.me x live)

  put : (l : Live) (w : Work) → w.branch ≡ l.me → High l w → EachLive High (with_branch k (record { live = l; work = w })).lives (with_branch k (record { live = l; work = w })).works
  put l w mine so = each_put High High k.lives k.works now l w mine so (λ y v live other is. is)

  gone : (b : BranchId) → EachLive High (without_branch k b).lives (without_branch k b).works
  gone b = each_left High High k.lives k.works now b (λ y v live other is. is)

  stays : (l : Live) → High l (works_of k.works l.me) → EachLive High (with_live k l).lives k.works
  stays l so = each_changed High High k.lives k.works now l so (λ y v live other is. is)

  begins : (l : Live) → length l.edges ≡ 0 → EachLive High (k.lives ++ l ∷ []) k.works
  begins l none = each_begun High High k.lives k.works now l (record { child = λ some. absurd (omega (arith, some, none)); opens = λ g link going waits. absurd cc }) (λ y v live any is. is)

  acting_high : {input : Input} {l : Live} {b : _} {a : Act} → Acting k input l b a → High l (works_of k.works l.me)
  acting_high why =
      acting_so (λ l. High l (works_of k.works l.me)) (λ l comment b is. as_many l.depth l.edges _ (works_of k.works l.me) (length-map l.edges with_prepare_sent) is)
      (λ l from v is. as_many l.depth l.edges _ (works_of k.works l.me) (length-map l.edges (has_voted from v)) is)
      (λ b l found. subst (λ m. High l (works_of k.works m)) (sym (item_is live_id k.lives b l found)) (now.each b l found)) why

  answered_high : (x : Branch) (a : _) → x.work.branch ≡ x.live.me → (1 ≤ length x.live.edges → x.live.depth + 1 ≤ depth_limit) → EachLive High (with_branch k (with_answer x a)).lives (with_branch k (with_answer x a)).works
  answered_high x a mine child = put x.live (with_answer x a).work mine (waits_not x.live.depth x.live.edges (with_answer x a).work (λ g link going waits. absurd cc) child)

  calls_high : (x : Branch) (i : ℕ) (e : Errand) → x.work.branch ≡ x.live.me → (1 ≤ length x.live.edges → x.live.depth + 1 ≤ depth_limit) → EachLive High (with_branch k (called k.sessions x i e)).lives (with_branch k (called k.sessions x i e)).works
  calls_high x i e mine child =
      put x.live (called k.sessions x i e).work mine
      (waits_not x.live.depth x.live.edges (called k.sessions x i e).work (λ g link going waits. (let it : Some (record { errand = e; waits = waiting.ForReply i }) ≡ Some g = going in let here : record { errand = e; waits = waiting.ForReply i } ≡ g = cc in
      let other : waiting.ForReply i ≡ waiting.ForOpened link = subst (λ (y : Going). y.waits ≡ waiting.ForOpened link) (sym here) waits in absurd cc)) child)

-- a branch whose children are to go back
calling_high : {input : Input} (k : NodeState) → Nodes k → {x : Branch} {step from : ℕ} → Calls_back k input x step from → (1 ≤ length x.live.edges → x.live.depth + 1 ≤ depth_limit) × (x.work.branch ≡ x.live.me)
calling_high k now (steps.Has_gone j x step goes is) = goes_high j (subst Nodes is now) goes
calling_high k now (steps.Has_heard x weight count a i e g step answered going errand done) =
    ((λ some. (found_high k now x answered.live).child (subst (λ n. 1 ≤ n) (set_length x.live.edges i _) some)), work_is k x.live.me x answered.live)

high_on : (p : Place) (input : Input) {k : NodeState} {d : TurnDraft} → Step p input k d → Nodes k → Nodes d.after
high_on p input (steps.Begins {k = k} n s read_at call why fit none step) now = high_on p input step (begins k now _ refl)
high_on p input (steps.Counts_call n s call counts step) now = high_on p input step now
high_on p input (steps.Goes_back x step goes next) now = high_on p input next now
high_on p input (steps.Pends n l given call has live code writer step) now = high_on p input step now
high_on p input (steps.Lets_reads_go l comment b live collects step) now = high_on p input step now
high_on p input (steps.Counts_ack s from kept came counts step) now = high_on p input step now
high_on p input (steps.Runs {k = k} x s given t asked way) now =
    let y : Branch = branch_ran k.sessions x t (ran p k x.live.me s t) in let is = asked_high k now asked in answered_high k now y (answer_of_run (ran p k x.live.me s t)) is.1 is.0
high_on p input (steps.Goes_nowhere {k = k} x s given r asked way) now = (let is = asked_high k now asked in answered_high k now x _ is.1 is.0)
high_on p input (steps.Calls {k = k} x s given i table asked way) now = (let is = asked_high k now asked in calls_high k now x i (errands.Statement (passed_on s table) given) is.1 is.0)
high_on p input (steps.Opens {k = k} x s given node link table asked way) now =
    let is = asked_high k now asked in
    put k now x.live (waits_for_opened x link (passed_on s table) given).work is.1 (record { child = is.0; opens = λ g to going waits. way_low p k.stored.durable x.live given s node link table way })
high_on p input (steps.Goes_on {k = k} x from strength g link opened) now =
    let was : High x.live x.work = found_high k now x opened.live in
    calls_high k now (with_edge x (new_edge from link strength)) (length x.live.edges + 1) (less_room g.errand) (work_is k x.live.me x opened.live) (λ some. was.opens g link opened.going opened.waits)
high_on p input (steps.Hears_reply {k = k} x weight count a i e answered) now =
    let was : High x.live x.work = found_high k now x answered.live in
    answered_high k now (hears_reply x i weight count e) _ (work_is k x.live.me x answered.live) (λ some. was.child (subst (λ n. 1 ≤ n) (set_length x.live.edges i _) some))
high_on p input (steps.Backs {k = k} x step from i calls next) now = (let is = calling_high k now calls in calls_high k now x i (errands.GoBack step) is.1 is.0)
high_on p input (steps.Is_back {k = k} x step from calls none) now = (let is = calling_high k now calls in answered_high k now x _ is.1 is.0)
high_on p input (steps.Opens_branch {k = k} to parent edge root depth read_at came new) now = begins k now _ refl
high_on p input (steps.Acts {k = k} l b acts.Rest why) now = stays k now l (acting_high k now why)
high_on p input (steps.Acts {k = k} l b acts.AskDown why) now = stays k now l (acting_high k now why)
high_on p input (steps.Acts {k = k} l b acts.SayReady why) now = stays k now (ready l) (as_many l.depth l.edges _ _ refl (acting_high k now why))
high_on p input (steps.Acts {k = k} l b acts.SayReadOnly why) now = gone k now l.me
high_on p input (steps.Acts {k = k} l b acts.Seal why) now = gone k now l.me
high_on p input (steps.Acts {k = k} l b (acts.SealAndPass i) why) now = gone k now l.me
high_on p input (steps.Acts {k = k} l b acts.Decide why) now = gone k now l.me
high_on p input (steps.Acts {k = k} l b acts.Finish why) now = gone k now l.me
high_on p input (steps.Acts {k = k} l b acts.Abandon why) now = gone k now l.me
high_on p input (steps.Drops_told {k = k} l live drops) now = gone k now l.me
high_on p input (steps.Drops_asked {k = k} l from live came parent) now = gone k now l.me
high_on p input (steps.Does s from nexts.Rest kept why) now = now
high_on p input (steps.Leaves {k = k} n s d x call ends has live) now = gone k now x.live.me
high_on p input (steps.Sets_savepoint {k = k} n x name call has code live) now =
    let was : High x.live x.work = found_high k now x live in put k now x.live (marked k.sessions x name).work (work_is k x.live.me x live) (record { child = was.child; opens = was.opens })
high_on p input (steps.Gives_up {k = k} n x gives has calls live) now =
    put k now x.live (gives_up x).work (work_is k x.live.me x live) (waits_not x.live.depth x.live.edges (gives_up x).work (λ g link going waits. absurd cc) (found_high k now x live).child)
high_on p input (steps.Gives_up_commit {k = k} n b (Some l) gives has calls live) now = gone k now l.me
high_on p input _ now = now

keeps_high : KeepsAlone Nodes
keeps_high = record { starts = λ s vs. none_live High; hears = λ k scn now. now; steps = λ p input k d step now. high_on p input step now }

pub parents_are_shallow : ParentsAreShallow
parents_are_shallow t lawful n k up x found some = (found_high k (kept_alone Nodes keeps_high t lawful n k up) x found).child some
