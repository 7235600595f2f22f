-- A statement of a client goes to the root of its session.
use Rattle.std.proofs.Common.{◌≡◌, ℕ, ◌<◌, ◌≤◌, ◌^◌, ◌&&◌, length, is_some, Bool, true, false, if◌then◌else◌, List, [], ◌∷◌, ◌++◌, Option, None, Some, IfSome, refl, sym, ap, subst, ◌∙◌, arith}
use Rattle.dtx_values.specs.Limits.{node_limit}
use Rattle.catalog.specs.Catalog.{is_used}
use Rattle.tran_ids.specs.declared.branch.BranchId.{BranchId}
use Rattle.tran_ids.specs.Branch.{same}
use Rattle.tran_ids.specs.Listed.{item_at}
use Rattle.session_tree.specs.Tree.{count}
use Rattle.node_rules.specs.Data.{Place, Live, Stmt}
use Rattle.node_rules.specs.declared.work.Work.{Work}
use Rattle.node_rules.specs.Ids.{decimal}
use Rattle.node_rules.specs.Words.{one}
use Rattle.node_rules.specs.Refusals.{ora, dtx}
use Rattle.node_rules.specs.Data.answers
use Rattle.node_rules.specs.Data.dones
use Rattle.node_rules.specs.NodeState.{NodeState, Branch, live_id, with_work, branch_at, nothing, ending}
use Rattle.node_rules.specs.Sessions.{session_at}
use Rattle.node_rules.specs.Calls.{next_call, statement_at}
use Rattle.node_rules.specs.Client.{allowed_at, begun, begun_by, begun_lives, counted, is_write, read_only_by, refuses, root_by, statement_by, statement_call}
use Rattle.node_drafts.specs.declared.draft.TurnDraft.{TurnDraft}
use Rattle.node_drafts.specs.Gives.{GivesDraft}
use Rattle.node_ready_laws.specs.Rows.{HasRows}
use Rattle.node_ready_laws.specs.Following.{listed_in}
use Rattle.node_state.specs.Works.{work_of}
use Rattle.node_memory.specs.declared.memory.Memory.{Memory}
use Rattle.node_memory.specs.Parts.{kept_in}
use Rattle.node_calls.specs.Handled.{at_live, refuses_again, TakesStatement}
use Rattle.node_calls.proofs.BranchLaws.{branch_here, somebody}

-- ---- at the root of a session

-- a session without a root
rootless : (p : Place) (k : NodeState) (n : ℕ) (s : Stmt) (after : NodeState) (draft : TurnDraft) → (session_at k.sessions n).root ≡ None → GivesDraft (nothing k) after draft → GivesDraft (statement_call p k n s) after draft
rootless p k n s after draft none does = subst (λ d. GivesDraft d after draft) (sym (ap (λ root. statement_by p k n s (session_at k.sessions n).code (root_by k root)) none)) does

-- and one with a root
rooted : (p : Place) (k : NodeState) (n : ℕ) (s : Stmt) (root : BranchId) (after : NodeState) (draft : TurnDraft) → (session_at k.sessions n).root ≡ Some root
    → GivesDraft (statement_by p k n s (session_at k.sessions n).code (branch_at k root)) after draft → GivesDraft (statement_call p k n s) after draft
rooted p k n s root after draft is does = subst (λ d. GivesDraft d after draft) (sym (ap (λ o. statement_by p k n s (session_at k.sessions n).code (root_by k o)) is)) does

-- which may be what a node keeps once a transaction has begun
pub rootless_in : (p : Place) (k m : NodeState) (n : ℕ) (s : Stmt) (draft : TurnDraft) → m ≡ k → (session_at m.sessions n).root ≡ None → GivesDraft (nothing m) m draft → GivesDraft (statement_call p k n s) m draft
rootless_in p k m n s draft is none does = subst (λ j. GivesDraft (statement_call p j n s) m draft) is (rootless p m n s m draft none does)

pub rooted_in : (p q : Place) (k m : NodeState) (n : ℕ) (s : Stmt) (root : BranchId) (after : NodeState) (draft : TurnDraft) → m ≡ k → q ≡ p → (session_at m.sessions n).root ≡ Some root
    → GivesDraft (statement_by q m n s (session_at m.sessions n).code (branch_at m root)) after draft → GivesDraft (statement_call p k n s) after draft
rooted_in p q k m n s root after draft is here at does = subst (λ r. GivesDraft (statement_call r k n s) after draft) here (subst (λ j. GivesDraft (statement_call q j n s) after draft) is (rooted q m n s root after draft at does))

-- a call of a transaction that has begun is counted
pub begun_so : (p : Place) (k j m : NodeState) (n : ℕ) → j ≡ begun_by p k n None (session_at k.sessions n).root → m ≡ counted j n → m ≡ begun p k n
begun_so p k j m n began counts = counts ∙ ap (λ q. counted q n) began

-- a READ ONLY transaction may not write
forbidden_if : (p : Place) (k : NodeState) (n : ℕ) (x : Branch) (s : Stmt) (forbidden hit : Bool) → forbidden ≡ hit
    → (if forbidden then refuses k n (dtx 21 []) else statement_at p k x s 0) ≡ (if hit then refuses k n (dtx 21 []) else statement_at p k x s 0)
forbidden_if p k n x s forbidden hit is = ap (λ b. if b then refuses k n (dtx 21 []) else statement_at p k x s 0) is

module _ (p : Place) (k : NodeState) (n : ℕ) (root : BranchId) (s : Stmt) where
  pub forbidden_so : (l : Live) (draft : TurnDraft) → item_at live_id k.lives root ≡ Some l → (is_some l.read_at && is_write s) ≡ true → GivesDraft (refuses k n (dtx 21 [])) k draft
      → GivesDraft (at_live k (λ x. allowed_at p k n x s) (branch_at k root)) k draft
  forbidden_so l draft is forbidden does =
      subst (λ d. GivesDraft d k draft) (sym (somebody k root l (λ x. allowed_at p k n x s) is ∙ forbidden_if p k n (branch_here k root l) s (is_some l.read_at && is_write s) true forbidden)) does

  pub allowed_so : (l : Live) (after : NodeState) (draft : TurnDraft) → item_at live_id k.lives root ≡ Some l → (is_some l.read_at && is_write s) ≡ false
      → GivesDraft (at_live k (λ x. statement_at p k x s 0) (branch_at k root)) after draft → GivesDraft (at_live k (λ x. allowed_at p k n x s) (branch_at k root)) after draft
  allowed_so l after draft is free does =
      subst (λ d. GivesDraft d after draft)
      (somebody k root l (λ x. statement_at p k x s 0) is
      ∙ sym (somebody k root l (λ x. allowed_at p k n x s) is ∙ forbidden_if p k n (branch_here k root l) s (is_some l.read_at && is_write s) false free)) does

-- ---- SET TRANSACTION READ ONLY

pub begun_already : (p : Place) (k : NodeState) (n : ℕ) (root : BranchId) (draft : TurnDraft) → (session_at k.sessions n).root ≡ Some root → GivesDraft (refuses k n (ora 1453 [])) k draft
    → GivesDraft (read_only_by p k n (session_at k.sessions n).root) k draft
begun_already p k n root draft has does = subst (λ d. GivesDraft d k draft) (sym (ap (read_only_by p k n) has)) does

pub reader_begun : (p : Place) (k m : NodeState) (n : ℕ) (read_at : ℕ) (draft : TurnDraft) → (session_at k.sessions n).root ≡ None → read_at ≡ k.clock → m ≡ begun_by p k n (Some read_at) None
    → GivesDraft (ending m n (answers.Did dones.TransactionSet 0)) m draft → GivesDraft (read_only_by p k n (session_at k.sessions n).root) m draft
reader_begun p k m n read_at draft none at began does =
    subst (λ d. GivesDraft d m draft)
    (ap (λ j. ending j n (answers.Did dones.TransactionSet 0)) (began ∙ ap (λ c. begun_by p k n (Some c) None) at) ∙ sym (ap (read_only_by p k n) none)) does

-- ---- a statement at the root

statement_is : (p : Place) (k : NodeState) (n : ℕ) (s : Stmt) (o : Option Branch) → statement_by p k n s None o ≡ at_live k (λ x. allowed_at p k n x s) o
statement_is p k n s None = refl
statement_is p k n s (Some x) = refl

refused_is : (p : Place) (k : NodeState) (n code : ℕ) (s : Stmt) (o : Option Branch) → statement_by p k n s (Some code) o ≡ refuses_again k n code o
refused_is p k n code s None = refl
refused_is p k n code s (Some x) = refl

-- a statement of a transaction that may go on
pub statement_so : (p : Place) (k : NodeState) (n : ℕ) (s : Stmt) (code : Option ℕ) (root : BranchId) (after : NodeState) (draft : TurnDraft) → code ≡ None
    → GivesDraft (at_live k (λ x. allowed_at p k n x s) (branch_at k root)) after draft → GivesDraft (statement_by p k n s code (branch_at k root)) after draft
statement_so p k n s code root after draft none does =
    subst (λ d. GivesDraft d after draft) (sym (ap (λ o. statement_by p k n s o (branch_at k root)) none ∙ statement_is p k n s (branch_at k root))) does

-- and of one that can only be rolled back
pub refused_so : (p : Place) (k : NodeState) (n : ℕ) (s : Stmt) (code : Option ℕ) (answered : ℕ) (root : BranchId) (after : NodeState) (draft : TurnDraft) → code ≡ Some answered
    → GivesDraft (refuses_again k n answered (branch_at k root)) after draft → GivesDraft (statement_by p k n s code (branch_at k root)) after draft
refused_so p k n s code answered root after draft is does =
    subst (λ d. GivesDraft d after draft) (sym (ap (λ o. statement_by p k n s o (branch_at k root)) is ∙ refused_is p k n answered s (branch_at k root))) does

module _ (k : NodeState) (n code : ℕ) (root : BranchId) (draft : TurnDraft) where
  pub nobody_refused : item_at live_id k.lives root ≡ None → GivesDraft (nothing k) k draft → GivesDraft (refuses_again k n code (branch_at k root)) k draft
  nobody_refused none does = subst (λ d. GivesDraft d k draft) (sym (ap (λ o. refuses_again k n code (with_work k o)) none)) does

  pub somebody_refused : (l : Live) → item_at live_id k.lives root ≡ Some l → GivesDraft (refuses k n (ora 2067 (one (decimal code)))) k draft → GivesDraft (refuses_again k n code (branch_at k root)) k draft
  somebody_refused l is does = subst (λ d. GivesDraft d k draft) (sym (ap (λ o. refuses_again k n code (with_work k o)) is)) does

-- ---- a root that begins

holds_here : (P : Live → Type 0) (y : Live) (b : BranchId) (o more : Option Live) (here : Bool) → (IfSome o P → IfSome more P) → IfSome (if here then Some y else o) P → IfSome (if here then Some y else more) P
holds_here P y b o more true later holds = holds
holds_here P y b o more false later holds = later holds

holds_last : (P : Live → Type 0) (x : Live) (here : Bool) → P x → IfSome (if here then Some x else None) P
holds_last P x true holds = holds
holds_last P x false holds = tt

-- what holds of the branches that are live and of one that begins holds of the branches that are live then
holds_begun : (P : Live → Type 0) (x : Live) (b : BranchId) → P x → (ls : List Live) → IfSome (item_at live_id ls b) P → IfSome (item_at live_id (ls ++ x ∷ []) b) P
holds_begun P x b new [] holds = holds_last P x (same x.me b) new
holds_begun P x b new (y ∷ ys) holds = holds_here P y b (item_at live_id ys b) (item_at live_id (ys ++ x ∷ []) b) (same y.me b) (holds_begun P x b new ys) holds

few_by : (p : Place) (k : NodeState) (n : ℕ) (root : Option BranchId) (b : BranchId) → IfSome (item_at live_id k.lives b) (λ l. count l < 2 ^ 16) → IfSome (item_at live_id (begun_lives p k n None root) b) (λ l. count l < 2 ^ 16)
few_by p k n (Some root) b few = few
few_by p k n None b few = holds_begun (λ l. count l < 2 ^ 16) _ b (omega arith) k.lives few

-- a root that begins has told of no other branch
few_begun : (p : Place) (k : NodeState) (n : ℕ) (b : BranchId) → IfSome (item_at live_id k.lives b) (λ l. count l < 2 ^ 16)
    → IfSome (item_at live_id (begun_lives p k n None (session_at k.sessions n).root) b) (λ l. count l < 2 ^ 16)
few_begun p k n b few = few_by p k n (session_at k.sessions n).root b few

-- and so a statement may come to a branch where a transaction begins
pub takes_begun : (m q : Memory) (n : ℕ) (b : BranchId) (s : Stmt) → kept_in q ≡ begun m.place (kept_in m) n → q.place ≡ m.place → TakesStatement m b s → TakesStatement q b s
takes_begun m q n b s kept here takes =
    let listed : q.catalog ≡ m.catalog = ap (λ (j : NodeState). listed_in j.stored.durable) kept in
    record {
      few = subst (λ (ls : List Live). IfSome (item_at live_id ls b) (λ l. count l < 2 ^ 16)) (sym (ap (λ (j : NodeState). j.lives) kept)) (few_begun m.place (kept_in m) n b takes.few);
      numbers = subst (λ (ws : List Work). (i : ℕ) → next_call (work_of ws b) i < 2 ^ 32) (sym (ap (λ (j : NodeState). j.works) kept)) takes.numbers;
      nodes = subst (λ (p : Place). length p.names ≤ node_limit) (sym here) takes.nodes;
      nameless = λ none. ap (λ c. is_used c []) listed ∙ takes.nameless none;
      rows = subst HasRows (sym kept) takes.rows;
    }
