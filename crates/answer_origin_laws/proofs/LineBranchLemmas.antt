-- What each step of a node leaves of its live branches leads where their statements were sent, but for the branch that the step is of; and what is
-- known of a branch that a statement comes to.
use Rattle.std.proofs.Common.{◌≡◌, ℕ, ◌+◌, ◌<◌, ◌≤◌, true, false, List, [], ◌++◌, length, Option, Some, None, refl, sym, ap, subst, ◌∙◌, arith}
use Rattle.std.specs.List.{AllByRecursion}
use Rattle.link_session.proofs.OnceLemmas.{run_is_new}
use Rattle.node_rules.specs.Data.{Stmt, Task, Answer, BranchId, Durable, Edge, Live, Place, Input, Post}
use Rattle.node_rules.specs.Data.stmts
use Rattle.node_rules.specs.Data.kinds
use Rattle.node_rules.specs.Data.tasks
use Rattle.node_rules.specs.declared.work.Errand.TheVariants as errands
use Rattle.node_rules.specs.Data.admits
use Rattle.node_rules.specs.declared.work.Work.{Work}
use Rattle.node_rules.specs.declared.work.Going.{Going}
use Rattle.node_rules.specs.Words.{same, numbered, put_item, drop_item}
use Rattle.node_rules.specs.Inputs.{Came, IsCall}
use Rattle.node_rules.specs.NodeState.{NodeState, Branch, TurnDraft, live_id, work_id, branch_at}
use Rattle.node_rules.specs.LiveBranches.{works_of, EachLive}
use Rattle.node_rules.specs.Names.{Behind, named_by, ref_of, passed_on, target_of}
use Rattle.node_rules.specs.Sessions.{session_at}
use Rattle.node_rules.specs.Marks.{node_back, branch_back}
use Rattle.node_rules.specs.Calls.{admit, answer_says, hears_reply, with_answer}
use Rattle.node_rules.proofs.LiveLemmas.{each_put, each_changed, each_left, each_same, branch_parts, work_is}
use Rattle.node_rules.proofs.StandLemmas.{live_so}
use Rattle.node_rules.proofs.Steps as steps
use Rattle.node_rules.proofs.Steps.{Asked, Goes_to, Calls_back}
use Rattle.run_rules.specs.Births.{Born}
use Rattle.run_base_laws.specs.InTurnLaws.{newest_exec, newest_reply}
use Rattle.run_base_laws.proofs.InTurnLemmas as turns
use Rattle.run_base_laws.proofs.InTurnLemmas.{reply_for}
use Rattle.run_base_laws.proofs.NeighborLemmas.{reply_is}
use Rattle.run_base_laws.proofs.InTurnStepLemmas.{NewBorn}
use Rattle.run_base_laws.proofs.KindSayLemmas.{AllSay}
use Rattle.run_rules.proofs.ListLemmas.{all_weaker}
use Rattle.run_base_laws.proofs.RootLemmas.{SessionsFit, root_alone}
use Rattle.answer_origin_laws.proofs.LineKeepLemmas.{AlikeEdges, set_alike, alike_line, rest_line, waits_zero}
use Rattle.answer_origin_laws.proofs.LineLemmas.{is_calling, Quiet, IsCalm, calm_quiet, Leads, OpensLow, more, ErrandSo, Line, line_more}

module _ (E : BranchId → Option ℕ) (A : BranchId → Option BranchId) (G Here : BranchId → Type 0) (input : Input) (said : List Post) (received : turns.Received E A G Here input said)
    (p : Place) (D : Durable) (Given : BranchId → ℕ → Option Stmt → Type 0) (Called : BranchId → BranchId → ℕ → ℕ → Stmt → Stmt → Type 0) where
  abbrev pub Begun : Live → Work → Type 0
  Begun = turns.Begun E A G Here input said

  abbrev pub Nodes : NodeState → Type 0
  Nodes k = EachLive Begun k.lives k.works

  abbrev pub LineOf : List Post → Live → Work → Type 0
  LineOf xs l w = Line p D Given Called xs (turns.Goes E A G Here input said l) l.me l.edges w

  abbrev pub Lines : List Post → NodeState → Type 0
  Lines xs k = EachLive (LineOf xs) k.lives k.works

  -- a branch of which nothing is known begins
  abbrev pub Fresh : Born → Type 0
  Fresh x = NewBorn E A G Here input said received x × OpensLow p D Given Called said x.me 0

  -- What is known as the turn begins.
  pub record Known : Type 0 where
    pub given : {k : NodeState} {x : Branch} {s : Stmt} {given : ℕ} → SessionsFit k → Here x.live.me → Asked k input x s given → Given x.live.me x.work.came.last_call (Some s)
    pub backs : {k : NodeState} {x : Branch} {step : ℕ} → SessionsFit k → Here x.live.me → Goes_to k input x step → Given x.live.me x.work.came.last_call None
    pub calls : (me c : BranchId) (number last : ℕ) (s : Stmt) (link table : List ℕ) → Here me → Given me last (Some s) → named_by D (ref_of s) ≡ Behind link table → target_of p D link ≡ Some c.node → newest_exec said me c < number → Called me c number last s (passed_on s table)
    pub opened : (from to : BranchId) (edge strength : ℕ) → Came input from to (kinds.Opened edge strength) → (n : ℕ) × (x : Post) × (numbered said n ≡ Some x) × (x.from ≡ to) × (root : BranchId) × (depth : ℕ) × (read_at : Option ℕ) × (x.kind ≡ kinds.Open edge root depth read_at) × (x.to.node ≡ from.node)

  -- Opens and Execs are sent by branches of the node
  abbrev pub FromHere : List Post → Type 0
  FromHere says = AllByRecursion (λ (x : Post). is_calling x.kind ≡ true → Here x.from) says

  pub calm_here : (says : List Post) → AllSay IsCalm says → FromHere says
  calm_here says all = all_weaker (λ (x : Post). IsCalm x.kind) (λ (x : Post). is_calling x.kind ≡ true → Here x.from) (λ x is calls. absurd (cc (is, calls))) says all

  -- what a draft leaves
  abbrev pub LeavesSo : List Live → List Work → List Post → Type 0
  LeavesSo ls ws says = EachLive (LineOf (said ++ says)) ls ws × FromHere says

  abbrev pub Leaves : TurnDraft → Type 0
  Leaves d = LeavesSo d.after.lives d.after.works d.says

  pub fresh_line : (l : Live) (w : Work) → l.edges ≡ [] → w.going ≡ None → OpensLow p D Given Called said l.me 0 → LineOf said l w
  fresh_line l w edges going low = record {
    leads = subst (Leads p D Given Called) (sym edges) tt;
    opens = λ goes. subst (OpensLow p D Given Called said l.me) (let it : 0 ≡ length l.edges + more p D Given Called w.going = (let one : length l.edges ≡ 0 = ap length edges in let two : more p D Given Called w.going ≡ 0 = ap (more p D Given Called) going in omega (arith, one, two)) in it) low;
    waits = λ g some. absurd (cc (some, going));
  }

  module _ (known : Known) where
    module _ (k : NodeState) (now : Nodes k) (lines : Lines said k) where
      pub branch_line : (x : Branch) → branch_at k x.live.me ≡ Some x → LineOf said x.live x.work
      branch_line x live = let parts = branch_parts k x.live.me x live in subst (LineOf said x.live) (sym parts.1) (lines.each x.live.me x.live parts.0)

      pub branch_begun : (x : Branch) → branch_at k x.live.me ≡ Some x → Begun x.live x.work
      branch_begun x live = turns.branch_begun E A G Here input said received k now x live

      pub stays : (says : List Post) (y : Live) (v : Work) → Quiet y.me says → LineOf said y v → LineOf (said ++ says) y v
      stays says y v quiet is = line_more p D Given Called said says y.me (turns.Goes E A G Here input said y) y.edges v quiet is

      pub calm : (says : List Post) → AllSay IsCalm says → LeavesSo k.lives k.works says
      calm says all = (each_same (LineOf said) (LineOf (said ++ says)) k.lives k.works lines (λ y v live any is. stays says y v (calm_quiet y.me says all) is), calm_here says all)

      pub put : (says : List Post) (l : Live) (w : Work) → w.branch ≡ l.me → ((b : BranchId) → same l.me b ≡ false → Quiet b says) → LineOf (said ++ says) l w → EachLive (LineOf (said ++ says)) (put_item live_id k.lives l) (put_item work_id k.works w)
      put says l w mine quiet is = each_put (LineOf said) (LineOf (said ++ says)) k.lives k.works lines l w mine is (λ y v live other was. stays says y v (quiet y.me other) was)

      pub changed : (says : List Post) → AllSay IsCalm says → (l : Live) → LineOf said l (works_of k.works l.me) → LeavesSo (put_item live_id k.lives l) k.works says
      changed says all l is = (each_changed (LineOf said) (LineOf (said ++ says)) k.lives k.works lines l (stays says l (works_of k.works l.me) (calm_quiet l.me says all) is) (λ y v live other was. stays says y v (calm_quiet y.me says all) was), calm_here says all)

      pub left : (says : List Post) → AllSay IsCalm says → (b : BranchId) → LeavesSo (drop_item live_id k.lives b) (drop_item work_id k.works b) says
      left says all b = (each_left (LineOf said) (LineOf (said ++ says)) k.lives k.works lines b (λ y v live other was. stays says y v (calm_quiet y.me says all) was), calm_here says all)

      -- ---- a statement at a branch, or BACK

      -- What is known of the branch that it comes to: the statement, or none where the branch goes back.
      pub record AskedSo (x : Branch) (o : Option Stmt) : Type 0 where
        pub line : LineOf said x.live x.work
        pub free : turns.FreeOf E A G Here input said x
        pub rests : x.work.going ≡ None
        pub here : Here x.live.me
        pub mine : x.work.branch ≡ x.live.me
        pub given : Given x.live.me x.work.came.last_call o

      -- a root whose session calls rests
      called_rests : SessionsFit k → (n : ℕ) (x : Branch) (s : Stmt) → IsCall input n s → (session_at k.sessions n).root ≡ Some x.live.me → branch_at k x.live.me ≡ Some x → x.work.going ≡ None
      called_rests ss n x s call has live = (branch_begun x live).idle (root_alone k ss n x.live.me has x.live (live_so k x.live.me x live)) s (subst (λ m. IsCall input m s) (sym (ss.roots.each n x.live.me has)) call)

      -- so does a branch that takes a call
      taken_rests : (x : Branch) (from : BranchId) (call : ℕ) (task : Task) → Came input from x.live.me (kinds.Exec call task) → branch_at k x.live.me ≡ Some x → admit x.work.came call ≡ admits.Run → x.work.going ≡ None
      taken_rests x from call task came live runs =
          let was : Begun x.live x.work = branch_begun x live in
          let said_so = received.exec from x.live.me call task came in
          let parent : x.live.parent ≡ Some from = was.above from said_so.0 in
          let new : x.work.came.last_call < call = run_is_new x.work.came call runs in
          let answered : call ≤ newest_reply said x.live.me + 1 = omega (arith, said_so.1, received.all from x.live.me) in
          let told : newest_reply said x.live.me ≤ x.work.came.last_call = was.turn.takes.told in
          let last : newest_reply said x.live.me ≡ x.work.came.last_call = omega (arith, new, answered, told) in
          was.turn.takes.rests (λ none. (let it : Some from ≡ None = sym parent ∙ none in absurd cc)) last

      pub asked_so : SessionsFit k → {x : Branch} {s : Stmt} {given : ℕ} → Asked k input x s given → AskedSo x (Some s)
      asked_so ss (steps.By_call n x s call rows has code live may) =
          let was : Begun x.live x.work = branch_begun x live in record {
            line = branch_line x live;
            free = turns.asked_free E A G Here input said received k ss now (steps.By_call n x s call rows has code live may);
            rests = called_rests ss n x s call has live;
            here = was.here;
            mine = work_is k x.live.me x live;
            given = known.given ss was.here (steps.By_call n x s call rows has code live may);
          }
      asked_so ss (steps.By_exec x from call given advice s came live runs) =
          let was : Begun x.live x.work = branch_begun x live in
          let free : x.work.going ≡ None = taken_rests x from call (tasks.Run given advice s) came live runs in
          let line : LineOf said x.live x.work = branch_line x live in record {
            line = record { leads = line.leads; opens = line.opens; waits = λ g some. absurd (cc (some, free)) };
            free = turns.asked_free E A G Here input said received k ss now (steps.By_exec x from call given advice s came live runs);
            rests = free;
            here = was.here;
            mine = work_is k x.live.me x live;
            given = known.given ss was.here (steps.By_exec x from call given advice s came live runs);
          }

      -- a branch that goes back
      pub goes_so : SessionsFit k → {x : Branch} {step : ℕ} → Goes_to k input x step → AskedSo x None
      goes_so ss (steps.By_rollback_to n x name step call has code live set) =
          let was : Begun x.live x.work = branch_begun x live in record {
            line = branch_line x live;
            free = turns.goes_free E A G Here input said received k ss now (steps.By_rollback_to n x name step call has code live set);
            rests = called_rests ss n x (stmts.RollbackTo name) call has live;
            here = was.here;
            mine = work_is k x.live.me x live;
            given = known.backs ss was.here (steps.By_rollback_to n x name step call has code live set);
          }
      goes_so ss (steps.By_back x from call keep came live runs) =
          let was : Begun x.live x.work = branch_begun x live in
          let free : x.work.going ≡ None = taken_rests x from call (tasks.GoBack keep) came live runs in
          let line : LineOf said x.live x.work = branch_line x live in record {
            line = record { leads = line.leads; opens = line.opens; waits = λ g some. absurd (cc (some, free)) };
            free = turns.goes_free E A G Here input said received k ss now (steps.By_back x from call keep came live runs);
            rests = free;
            here = was.here;
            mine = work_is k x.live.me x live;
            given = known.backs ss was.here (steps.By_back x from call keep came live runs);
          }

      -- one that was asked goes on
      pub asked_goes : SessionsFit k → {x : Branch} {s : Stmt} {given : ℕ} → Asked k input x s given → (x.live.parent ≡ None → (session_at k.sessions x.live.me.session).code ≡ None → G x.live.me) → turns.Goes E A G Here input said x.live
      asked_goes ss (steps.By_call n x s call rows has code live allowed) may = λ none. may none (subst (λ m. (session_at k.sessions m).code ≡ None) (sym (ss.roots.each n x.live.me has)) code)
      asked_goes ss (steps.By_exec x from call given advice s came live runs) may =
          let was : Begun x.live x.work = branch_begun x live in
          let parent : x.live.parent ≡ Some from = was.above from (received.exec from x.live.me call (tasks.Run given advice s) came).0 in
          λ none. absurd (cc (parent, none))

      -- it is answered
      pub answered_line : (x z : Branch) (a : Answer) → z.live.me ≡ x.live.me → z.live.parent ≡ x.live.parent → AlikeEdges x.live.edges z.live.edges → z.work.branch ≡ z.live.me → more p D Given Called x.work.going ≡ 0 → LineOf said x.live x.work
          → LeavesSo (put_item live_id k.lives z.live) (put_item work_id k.works (with_answer z a).work) (answer_says z a z.live.parent)
      answered_line x z a me parent alike mine still line = (
        put (answer_says z a z.live.parent) z.live (with_answer z a).work mine (λ b other. calm_quiet b (answer_says z a z.live.parent) (answer_calm z.live.parent))
            (subst (λ b. Line p D Given Called (said ++ answer_says z a z.live.parent) (z.live.parent ≡ None → G b) b z.live.edges (with_answer z a).work) (sym me)
            (subst (λ o. Line p D Given Called (said ++ answer_says z a z.live.parent) (o ≡ None → G x.live.me) x.live.me z.live.edges (with_answer z a).work) (sym parent)
            (rest_line p D Given Called said (answer_says z a z.live.parent) (x.live.parent ≡ None → G x.live.me) x.live.me x.live.edges z.live.edges x.work (with_answer z a).work alike refl still (calm_quiet x.live.me (answer_says z a z.live.parent) (answer_calm z.live.parent)) line))),
        calm_here (answer_says z a z.live.parent) (answer_calm z.live.parent),
      )
        where
          answer_calm : (o : Option BranchId) → AllSay IsCalm (answer_says z a o)
          answer_calm None = tt
          answer_calm (Some up) = (refl, tt)

      -- ---- a branch whose children are to go back

      -- What is known of it.
      pub record CallingSo (x : Branch) : Type 0 where
        pub line : LineOf said x.live x.work
        pub still : more p D Given Called x.work.going ≡ 0
        pub here : Here x.live.me
        pub mine : x.work.branch ≡ x.live.me
        pub given : Given x.live.me x.work.came.last_call None

      -- one that heard of a child before
      heard_calling : (x : Branch) (weight : Option ℕ) (count : ℕ) (a : Answer) (i : ℕ) (e : Edge) (g : Going) (step : ℕ) → steps.Is_answered k input x weight count a i e → x.work.going ≡ Some g → g.errand ≡ errands.GoBack step
          → CallingSo (hears_reply x i weight count e)
      heard_calling x weight count a i e g step answered going errand =
          let line : LineOf said x.live x.work = branch_line x answered.live in record {
            line = alike_line p D Given Called said (turns.Goes E A G Here input said x.live) x.live.me x.live.edges (hears_reply x i weight count e).live.edges x.work
                (set_alike x.live.edges i e (record e { weight = weight; count = count }) (reply_is x answered.from answered.call i e answered.waits) refl refl) line;
            still = waits_zero p D Given Called i x.work.going (reply_for x answered.from answered.call i e answered.waits).0;
            here = (branch_begun x answered.live).here;
            mine = work_is k x.live.me x answered.live;
            given = (subst (λ r. ErrandSo p D Given Called said x.live.me x.live.edges x.work r g.waits) errand (line.waits g going)).0;
          }

    module _ (k : NodeState) where
      -- one that went back itself
      gone_calling : (j : NodeState) (now : Nodes j) (lines : Lines said j) → SessionsFit j → (x : Branch) (step : ℕ) → Goes_to j input x step → (l : NodeState) (there : Nodes l) (lead : Lines said l) → CallingSo l there lead (branch_back j x step)
      gone_calling j now lines ss x step goes l there lead =
          let so = goes_so j now lines ss goes in record {
            line = record { leads = so.line.leads; opens = so.line.opens; waits = so.line.waits };
            still = ap (more p D Given Called) so.rests;
            here = so.here;
            mine = so.mine;
            given = so.given;
          }

      pub calling_so : (now : Nodes k) (lines : Lines said k) → SessionsFit k → {x : Branch} {step from : ℕ} → Calls_back k input x step from → CallingSo k now lines x
      calling_so now lines ss (steps.Has_gone j x step goes is) =
          let back : SessionsFit (node_back j x step) = subst SessionsFit is ss in
          gone_calling j (subst Nodes is now) (subst (Lines said) is lines) (record { roots = back.roots; above = back.above }) x step goes k now lines
      calling_so now lines ss (steps.Has_heard x weight count a i e g step answered going errand plain) = heard_calling k now lines x weight count a i e g step answered going errand
