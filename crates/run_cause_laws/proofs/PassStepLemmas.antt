-- A step sends an Exec where a statement goes on over a link that is open, or where the child that it waits for is opened. No other step
-- sends one, and a branch waits for a child after it only where it did before, unless its statement goes through a new link.
use Rattle.std.proofs.Common.{◌≡◌, ◌⊎◌, if◌then◌else◌, ℕ, ◌+◌, not, Bool, true, false, List, map, length, Option, Some, None, inl, inr, refl, sym, ap, subst, ◌∙◌}
use Rattle.std.proofs.lemmas.Bool.{cond_both}
use Rattle.tran_ids.proofs.BranchLemmas.{equal_from_same}
use Rattle.tran_ids.proofs.ListedLemmas.{put_or_before, drop_gone, drop_leaves}
use Rattle.reco.specs.declared.post.Post.{Post}
use Rattle.reco.specs.declared.told.Told.TheVariants as tolds
use Rattle.commit_forget.specs.declared.next.Next.TheVariants as nexts
use Rattle.session_tree.specs.Live.{children_of, edge_at, peer_of, new_edge}
use Rattle.session_tree.specs.Tree.{step as step_from}
use Rattle.node_rules.specs.Data.{Act, Answer, BranchId, Edge, Kind, Live, Stmt, Place, Input}
use Rattle.node_rules.specs.Data.acts
use Rattle.node_rules.specs.Data.answers
use Rattle.node_rules.specs.Data.inputs
use Rattle.node_rules.specs.Data.kinds
use Rattle.node_rules.specs.Data.stmts
use Rattle.node_rules.specs.declared.work.Waits.{Waits}
use Rattle.node_rules.specs.declared.work.Waits.TheVariants as waiting
use Rattle.node_rules.specs.declared.work.Going.{Going}
use Rattle.node_rules.specs.declared.work.Work.{Work}
use Rattle.node_rules.specs.Words.{same, item_at, put_item, drop_item}
use Rattle.node_rules.specs.Inputs.{IsCall}
use Rattle.node_rules.specs.NodeState.{NodeState, TurnDraft, Branch, branch_at, live_at, live_id, work_id, work_or, to_one, to_each}
use Rattle.node_rules.specs.LiveBranches.{works_of}
use Rattle.node_rules.specs.Calls.{branch_ran, less_room, reply_edge, reply_going, reply_of, reply_waits, answer_says, calls_over, opens_through, with_edge, with_answer, hears_reply}
use Rattle.node_rules.specs.Client.{begun_by, counted, marked}
use Rattle.node_rules.specs.Names.{Over, Through, way_of, passed_on}
use Rattle.node_rules.specs.Sessions.{session_at}
use Rattle.node_rules.specs.Statement.{ran}
use Rattle.node_rules.specs.Prepare.{path_of, site_neighbors, act_turn}
use Rattle.node_rules.specs.Commit.{beyond, is_neighbor}
use Rattle.node_rules.specs.Recovery.{told_by, told_kind}
use Rattle.node_rules.proofs.Steps as steps
use Rattle.node_rules.proofs.LiveLemmas.{branch_parts, work_is}
use Rattle.node_rules.proofs.StandLemmas.{live_so}
use Rattle.node_rules.specs.Data.dones
use Rattle.node_rules.specs.Marks.{branch_back}
use Rattle.node_rules.specs.declared.work.Errand.TheVariants as errands
use Rattle.node_rules.proofs.Steps.{Step, Says, Asked, BeginsBy, IsCounted, Goes_to, Calls_back, Collects, IsOfRows, Is_opened}
use Rattle.run_rules.specs.Trail.{is_exec}
use Rattle.run_base_laws.proofs.KindSayLemmas.{OfDecisions, AllSay, one_says, each_says, prepares_say, told_says, passes_say, askings_say}
use Rattle.run_rules.proofs.ListLemmas.{all_append}
use Rattle.run_base_laws.proofs.InTurnLemmas.{map_set}
use Rattle.tree_trail_laws.proofs.OwnStepLemmas.{From, Itself, Begun, Counted, BringsNone, of_rows, called_none, came_none, collects_none}

-- ---- branches that wait for a child

-- those of these calls that wait for a child did so before
abbrev pub WaitedSo : List Work → List Work → Type 0
WaitedSo before after = (b : BranchId) (g : Going) (link : List ℕ) → (works_of after b).going ≡ Some g → g.waits ≡ waiting.ForOpened link → (works_of before b).going ≡ Some g

-- a branch waits for none
abbrev pub WaitsNot : Option Going → Type 0
WaitsNot o = (g : Going) (link : List ℕ) → o ≡ Some g → g.waits ≡ waiting.ForOpened link → ⊥

pub put_waited : (ws : List Work) (w : Work) → WaitsNot w.going → WaitedSo ws (put_item work_id ws w)
put_waited ws w not_so b g link going waits = elim (put_or_before work_id ws w b) [
  | inl before ↦ ap (λ o. (work_or b o).going) (sym before) ∙ going
  | inr new ↦ absurd (not_so g link (ap (λ o. (work_or b o).going) (sym new.1) ∙ going) waits)
]

pub none_waits : (o : Option Going) → o ≡ None → WaitsNot o
none_waits o none g link some waits = absurd (cc (none, some))

pub drop_waited : (ws : List Work) (c : BranchId) → WaitedSo ws (drop_item work_id ws c)
drop_waited ws c b g link going waits = by (same c b) refl
  where
    by : (q : Bool) → same c b ≡ q → (works_of ws b).going ≡ Some g
    by true here =
        let one : c ≡ b = equal_from_same c b here in
        let gone : item_at work_id (drop_item work_id ws c) b ≡ None = subst (λ x. item_at work_id (drop_item work_id ws c) x ≡ None) one (drop_gone work_id ws c) in
        let none : (works_of (drop_item work_id ws c) b).going ≡ None = ap (λ o. (work_or b o).going) gone in
        absurd (cc (none, going))
    by false other = ap (λ o. (work_or b o).going) (sym (drop_leaves work_id ws c b other)) ∙ going

-- ---- messages of other kinds

abbrev pub NoExec : Kind → Type 0
NoExec kind = is_exec kind ≡ false

others : OfDecisions NoExec
others = record { committed = λ n. refl; rolled_back = refl; rollback = refl; in_doubt = refl; ack = refl; forgotten = refl; ask = refl }

answer_none : (x : Branch) (a : Answer) (parent : Option BranchId) → AllSay NoExec (answer_says x a parent)
answer_none x a None = tt
answer_none x a (Some parent) = (refl, tt)

says_none : {k : NodeState} {input : Input} {says : List Post} → Says k input says → AllSay NoExec says
says_none (steps.Tells s from came kept) =
    (cond_both (is_neighbor s from) (told_by s.decision) tolds.RolledBack (λ t. NoExec (told_kind t)) (λ near. told_says NoExec others (told_by s.decision)) (λ far. refl), tt)
says_none {k = k} (steps.Recovers reco) = askings_say NoExec others k
says_none _ = (refl, tt)

-- ---- a child that is heard

-- a child with its number
abbrev at_number : ℕ → Edge → ℕ × Edge
at_number i e = (i, e)

found_if : (x : Branch) (i j : ℕ) (e f : Edge) (hit : Bool) → edge_at x.live j ≡ Some f → (if hit then Some (at_number j f) else None) ≡ Some (at_number i e) → edge_at x.live i ≡ Some e
found_if x i j e f true there found =
    let it : at_number j f ≡ at_number i e = cc in
    ap (λ (q : ℕ × Edge). edge_at x.live q.0) (sym it) ∙ there ∙ ap (λ (q : ℕ × Edge). Some q.1) it
found_if x i j e f false there found = absurd cc

found_edge : (x : Branch) (from : BranchId) (call i j : ℕ) (e : Edge) (o : Option Edge) → edge_at x.live j ≡ o → reply_edge x from call j o ≡ Some (i, e) → edge_at x.live i ≡ Some e
found_edge x from call i j e None there found = absurd cc
found_edge x from call i j e (Some f) there found = found_if x i j e f _ there found

found_waits : (x : Branch) (from : BranchId) (call i : ℕ) (e : Edge) (waits : Waits) → reply_waits x from call waits ≡ Some (i, e) → edge_at x.live i ≡ Some e
found_waits x from call i e (waiting.ForOpened link) found = absurd cc
found_waits x from call i e (waiting.ForReply j) found = found_edge x from call i j e (edge_at x.live j) refl found

found_going : (x : Branch) (from : BranchId) (call i : ℕ) (e : Edge) (g : Option Going) → reply_going x from call g ≡ Some (i, e) → edge_at x.live i ≡ Some e
found_going x from call i e None found = absurd cc
found_going x from call i e (Some g) found = found_waits x from call i e g.waits found

reply_found : (x : Branch) (from : BranchId) (call i : ℕ) (e : Edge) → reply_of x from call ≡ Some (i, e) → edge_at x.live i ≡ Some e
unfolding reply_of
reply_found x from call i e found = found_going x from call i e x.work.going found

-- its branch has the same children
heard_kids : (x : Branch) (from : BranchId) (call i : ℕ) (weight : Option ℕ) (count : ℕ) (e : Edge) → reply_of x from call ≡ Some (i, e) → children_of (hears_reply x i weight count e).live ≡ children_of x.live
heard_kids x from call i weight count e waits = map_set (λ (y : Edge). y.peer) x.live.edges i e (record e { weight = weight; count = count }) (reply_found x from call i e waits) refl

-- ---- how a statement goes on

-- whether a child may be called to go back on this: on ROLLBACK TO, and on a message
abbrev pub calls_it_back : Input → Bool
calls_it_back (inputs.Call n (Some (stmts.RollbackTo name))) = true
calls_it_back (inputs.Message m) = true
calls_it_back _ = false

-- a statement that begins a transaction or has rows is no ROLLBACK TO
begins_no_back : (clock n : ℕ) (s : Stmt) (read_at : Option ℕ) → BeginsBy clock s read_at → calls_it_back (inputs.Call n (Some s)) ≡ false
begins_no_back clock n s read_at (steps.By_rows q rows) = rows_no_back n s rows
  where
    rows_no_back : (n : ℕ) (s : Stmt) → IsOfRows s → calls_it_back (inputs.Call n (Some s)) ≡ false
    rows_no_back n (stmts.Insert table columns given) rows = refl
    rows_no_back n (stmts.Update table sets cs) rows = refl
    rows_no_back n (stmts.Delete table cs) rows = refl
    rows_no_back n (stmts.Select list table cs for_update) rows = refl
    rows_no_back n _ rows = absurd rows
begins_no_back clock n s read_at (steps.By_savepoint name) = refl
begins_no_back clock n s read_at steps.By_read_only = refl

module _ (p : Place) (input : Input) where
  -- What a step does with statements that go on.
  pub data Passing (k : NodeState) : TurnDraft → Type 0 where
    Goes_over : (j : NodeState) → From p input k j → (x : Branch) (s : Stmt) (given i : ℕ) (table : List ℕ) → Asked j input x s given → way_of p j.stored.durable x.live given s ≡ Over i table
        → Passing k (calls_over j x i (errands.Statement (passed_on s table) given))
    Goes_through : (j : NodeState) → From p input k j → (x : Branch) (s : Stmt) (given node : ℕ) (link table : List ℕ) → Asked j input x s given → way_of p j.stored.durable x.live given s ≡ Through node link table
        → Passing k (opens_through j x node link (passed_on s table) given)
    Child_opened : (x : Branch) (from : BranchId) (strength : ℕ) (g : Going) (link : List ℕ) → Is_opened k input x from strength g link
        → Passing k (calls_over k (with_edge x (new_edge from link strength)) (length x.live.edges + 1) (less_room g.errand))
    -- a child of a live branch is to go back
    Child_back : (j : NodeState) (x : Branch) (i step : ℕ) (l : Live) → calls_it_back input ≡ true → live_at k l.me ≡ Some l → x.live.me ≡ l.me → children_of x.live ≡ children_of l → j.works ≡ k.works
        → Passing k (calls_over j x i (errands.GoBack step))
    Passes_none : (d : TurnDraft) → AllSay NoExec d.says → WaitedSo k.works d.after.works → Passing k d

  -- whether an Opened came
  abbrev is_opened : Kind → Bool
  is_opened (kinds.Opened edge strength) = true
  is_opened _ = false

  abbrev opens : Input → Bool
  opens (inputs.Message m) = is_opened m.kind
  opens _ = false

  opened_came : {k : NodeState} {x : Branch} {from : BranchId} {strength : ℕ} {g : Going} {link : List ℕ} → Is_opened k input x from strength g link → opens input ≡ true
  opened_came opened = ap opens opened.came.is

  asked_some : {k : NodeState} {x : Branch} {s : Stmt} {given : ℕ} → Asked k input x s given → BringsNone input → ⊥
  asked_some (steps.By_call n x s call rows has code found may) none =
      let some : not (_) ≡ true = subst BringsNone call none in
      let row = of_rows s rows in
      absurd (cc (some, row))
  asked_some (steps.By_exec x from call given advice s came found runs) none = let some : false ≡ true = subst BringsNone came.is none in absurd cc

  -- a change before a step in which neither a statement nor an Opened came
  past : {k j : NodeState} {d : TurnDraft} → BringsNone input → opens input ≡ false → j.works ≡ k.works → j.lives ≡ k.lives → Passing j d → Passing k d
  past none closed works lives (Goes_over i from x s given e table asked way) = absurd (asked_some asked none)
  past none closed works lives (Goes_through i from x s given node link table asked way) = absurd (asked_some asked none)
  past none closed works lives (Child_back i x n step l back live me kids same) = Child_back i x n step l back (ap (λ ls. item_at live_id ls l.me) (sym lives) ∙ live) me kids (same ∙ works)
  past none closed works lives (Child_opened x from strength g link opened) = absurd (let came = opened_came opened in cc (came, closed))
  past none closed works lives (Passes_none d says waited) = Passes_none d says (λ b g link going waits. ap (λ ws. (works_of ws b).going) (sym works) ∙ waited b g link going waits)

  begins_on : {k : NodeState} {d : TurnDraft} (n : ℕ) (s : Stmt) (read_at : Option ℕ) → IsCall input n s → BeginsBy k.clock s read_at → (session_at k.sessions n).root ≡ None → Passing (begun_by p k n read_at None) d → Passing k d
  begins_on n s read_at call begins new (Goes_over j from x st given i table asked way) = Goes_over j (Begun n s read_at call begins new from) x st given i table asked way
  begins_on n s read_at call begins new (Goes_through j from x st given node link table asked way) = Goes_through j (Begun n s read_at call begins new from) x st given node link table asked way
  begins_on n s read_at call begins new (Child_opened x from strength g link opened) = absurd (let came = opened_came opened in let closed : opens input ≡ false = ap opens call in cc (came, closed))
  begins_on {k = k} n s read_at call begins new (Child_back j x i step l back live me kids same) =
      absurd (let none : calls_it_back input ≡ false = ap calls_it_back call ∙ begins_no_back k.clock n s read_at begins in cc (none, back))
  begins_on n s read_at call begins new (Passes_none d says waited) = Passes_none d says waited

  counts_on : {k : NodeState} {d : TurnDraft} (n : ℕ) (s : Stmt) → IsCall input n s → IsCounted s → Passing (counted k n) d → Passing k d
  counts_on n s call counts (Goes_over j from x st given i table asked way) = Goes_over j (Counted n s call counts from) x st given i table asked way
  counts_on n s call counts (Goes_through j from x st given node link table asked way) = Goes_through j (Counted n s call counts from) x st given node link table asked way
  counts_on n s call counts (Child_opened x from strength g link opened) = absurd (let came = opened_came opened in let closed : opens input ≡ false = ap opens call in cc (came, closed))
  counts_on n s call counts (Child_back j x i step l back live me kids same) = Child_back j x i step l back live me kids same
  counts_on n s call counts (Passes_none d says waited) = Passes_none d says waited

  goes_none : {k : NodeState} {x : Branch} {step : ℕ} → Goes_to k input x step → BringsNone input × (opens input ≡ false) × (calls_it_back input ≡ true)
  goes_none (steps.By_rollback_to n x name step call has code found at) = (called_none input n (stmts.RollbackTo name) call refl, ap opens call, ap calls_it_back call)
  goes_none (steps.By_back x from call keep came found runs) = (subst BringsNone (sym came.is) refl, ap opens came.is, ap calls_it_back came.is)

  goes_live : {k : NodeState} {x : Branch} {step : ℕ} → Goes_to k input x step → live_at k x.live.me ≡ Some x.live
  goes_live {k = k} (steps.By_rollback_to n x name step call has code found at) = live_so k x.live.me x found
  goes_live {k = k} (steps.By_back x from call keep came found runs) = live_so k x.live.me x found

  calling_back : {k : NodeState} {x : Branch} {step from : ℕ} (i : ℕ) → Calls_back k input x step from → Passing k (calls_over k x i (errands.GoBack step))
  calling_back {k = k} i (steps.Has_gone before x step goes is) =
      let live : live_at before x.live.me ≡ Some x.live = goes_live goes in
      Child_back k (branch_back before x step) i step x.live (goes_none goes).2 (ap (λ (j : NodeState). live_at j x.live.me) is ∙ live) refl refl refl
  calling_back {k = k} i (steps.Has_heard x weight count a j e g step answered going errand plain) =
      Child_back k (hears_reply x j weight count e) i step x.live (ap calls_it_back answered.came.is) (live_so k x.live.me x answered.live) refl (heard_kids x answered.from answered.call j weight count e answered.waits) refl

  collects_closed : {k : NodeState} {l : Live} {comment : List ℕ} {q : Bool} → Collects k input l comment q → opens input ≡ false
  collects_closed (steps.By_commit n given call has code writer is) = ap opens call
  collects_closed (steps.By_prepare from q came working) = ap opens came.is

  same_waited : (ws : List Work) → WaitedSo ws ws
  same_waited ws b g link going waits = going

  calm : (k : NodeState) (d : TurnDraft) → AllSay NoExec d.says → d.after.works ≡ k.works → Passing k d
  calm k d says works = Passes_none d says (λ b g link going waits. ap (λ ws. (works_of ws b).going) (sym works) ∙ going)

  left : (k : NodeState) (d : TurnDraft) (b : BranchId) → AllSay NoExec d.says → d.after.works ≡ drop_item work_id k.works b → Passing k d
  left k d b says works = Passes_none d says (λ c g link going waits. drop_waited k.works b c g link (ap (λ ws. (works_of ws c).going) (sym works) ∙ going) waits)

  put : (k : NodeState) (d : TurnDraft) (w : Work) → AllSay NoExec d.says → WaitsNot w.going → d.after.works ≡ put_item work_id k.works w → Passing k d
  put k d w says not_so works = Passes_none d says (λ c g link going waits. put_waited k.works w not_so c g link (ap (λ ws. (works_of ws c).going) (sym works) ∙ going) waits)

  -- a branch with other marks waits as before
  marks : (k : NodeState) (d : TurnDraft) (x : Branch) (w : Work) → branch_at k x.live.me ≡ Some x → AllSay NoExec d.says → (w.branch ≡ x.work.branch) × (w.going ≡ x.work.going) → d.after.works ≡ put_item work_id k.works w → Passing k d
  marks k d x w found says same works = Passes_none d says (λ c g link going waits. by c g (put_or_before work_id k.works w c) (ap (λ ws. (works_of ws c).going) (sym works) ∙ going))
    where
      parts : (item_at live_id k.lives x.live.me ≡ Some x.live) × (x.work ≡ works_of k.works x.live.me)
      parts = branch_parts k x.live.me x found

      by : (c : BranchId) (g : Going) → (item_at work_id (put_item work_id k.works w) c ≡ item_at work_id k.works c) ⊎ ((w.branch ≡ c) × (item_at work_id (put_item work_id k.works w) c ≡ Some w)) → (works_of (put_item work_id k.works w) c).going ≡ Some g
          → (works_of k.works c).going ≡ Some g
      by c g (inl before) going = ap (λ o. (work_or c o).going) (sym before) ∙ going
      by c g (inr new) going =
          let mine : x.live.me ≡ c = sym (work_is k x.live.me x found) ∙ (sym same.0 ∙ new.0) in
          subst (λ b. (works_of k.works b).going ≡ Some g) mine (ap (λ (v : Work). v.going) (sym parts.1) ∙ (sym same.1 ∙ (ap (λ o. (work_or c o).going) (sym new.1) ∙ going)))

  rolls : (l : Live) → AllSay NoExec (to_each l.me kinds.Rollback (children_of l))
  rolls l = each_says NoExec l.me kinds.Rollback (children_of l) refl

  acts_so : (k : NodeState) (l : Live) (q : Bool) (a : Act) → Passing k (act_turn k l q a)
  acts_so k l q acts.Rest = calm k _ tt refl
  acts_so k l q acts.AskDown = calm k _ (prepares_say NoExec (λ sb comment. refl) l.me l.comment (path_of q (step_from l)) 1 l.edges) refl
  acts_so k l q acts.SayReady = calm k _ (one_says NoExec l.me kinds.Ready l.parent refl) refl
  acts_so k l q acts.SayReadOnly = left k _ l.me (one_says NoExec l.me kinds.ReadOnly l.parent refl) refl
  acts_so k l q acts.Seal = left k _ l.me (one_says NoExec l.me kinds.Prepared l.parent refl) refl
  acts_so k l q (acts.SealAndPass i) = left k _ l.me (one_says NoExec l.me kinds.CommitPoint (peer_of l i) refl) refl
  acts_so k l q acts.Decide = left k _ l.me (each_says NoExec l.me (kinds.Committed (k.clock + 1)) (site_neighbors l) refl) refl
  acts_so k l q acts.Finish = left k _ l.me tt refl
  acts_so k l q acts.Abandon = left k _ l.me (all_append (λ x. NoExec x.kind) (to_one l.me kinds.Abort l.parent) _ (one_says NoExec l.me kinds.Abort l.parent refl) (rolls l)) refl

  pub passes_on : {k : NodeState} {d : TurnDraft} → Step p input k d → Passing k d
  passes_on (steps.Begins n s read_at call begins range new step) = begins_on n s read_at call begins new (passes_on step)
  passes_on (steps.Counts_call n s call counts step) = counts_on n s call counts (passes_on step)
  passes_on (steps.Goes_back x step goes next) = past (goes_none goes).0 (goes_none goes).1 refl refl (passes_on next)
  passes_on (steps.Pends {k = k} {d = d} n l given call has found code writer step) = past (called_none input n (stmts.Commit given) call refl) (ap opens call) refl refl (passes_on step)
  passes_on (steps.Lets_reads_go {k = k} {d = d} l comment q found begins step) = past (collects_none input begins) (collects_closed begins) refl refl (passes_on step)
  passes_on (steps.Counts_ack {k = k} {d = d} s from kept came counts step) = past (came_none input came refl) (ap opens came.is) refl refl (passes_on step)
  passes_on (steps.Sends {k = k} ps says) = calm k _ (says_none says) refl
  passes_on (steps.Runs {k = k} x s given t asked way) =
      let z : Branch = branch_ran k.sessions x t (ran p k x.live.me s t) in
      put k _ (with_answer z _).work (answer_none z _ x.live.parent) (none_waits None refl) refl
  passes_on (steps.Goes_nowhere {k = k} x s given r asked way) = put k _ (with_answer x (answers.Refused r)).work (answer_none x _ x.live.parent) (none_waits None refl) refl
  passes_on (steps.Calls {k = k} x s given i table asked way) = Goes_over k (Itself k) x s given i table asked way
  passes_on (steps.Opens {k = k} x s given node link table asked way) = Goes_through k (Itself k) x s given node link table asked way
  passes_on (steps.Goes_on {k = k} x from strength g link opened) = Child_opened x from strength g link opened
  passes_on (steps.Hears_reply {k = k} x weight count a i e answered) = put k _ (with_answer (hears_reply x i weight count e) _).work (answer_none (hears_reply x i weight count e) _ x.live.parent) (none_waits None refl) refl
  passes_on (steps.Backs x step from i calls next) = calling_back i calls
  passes_on (steps.Is_back {k = k} x step from calls none) = put k _ (with_answer x (answers.Did dones.RolledBack 0)).work (answer_none x _ x.live.parent) (none_waits None refl) refl
  passes_on (steps.Opens_branch {k = k} to parent edge root depth read_at came new) = calm k _ (refl, tt) refl
  passes_on (steps.Acts {k = k} l q a why) = acts_so k l q a
  passes_on (steps.Drops_told {k = k} l found drops) = left k _ l.me (rolls l) refl
  passes_on (steps.Drops_asked {k = k} l from found came parent) = left k _ l.me (refl, rolls l) refl
  passes_on (steps.Does {k = k} s from (nexts.End d) kept why) = calm k _ (passes_say NoExec others s d) refl
  passes_on (steps.Does {k = k} s from (nexts.Meet d mixed) kept why) = calm k _ (passes_say NoExec others s d) refl
  passes_on (steps.Does {k = k} s from nexts.AckToward kept why) = calm k _ (one_says NoExec s.me kinds.Ack s.toward refl) refl
  passes_on (steps.Does {k = k} s from nexts.Forget kept why) = calm k _ (each_says NoExec s.me kinds.Forgotten (map (λ b. b.branch) (beyond s)) refl) refl
  passes_on (steps.Does {k = k} s from nexts.SayForgotten kept why) = calm k _ (refl, tt) refl
  passes_on (steps.Does {k = k} s from nexts.SayAck kept why) = calm k _ (refl, tt) refl
  passes_on (steps.Leaves {k = k} n s d x call ends has found) = left k _ x.live.me (rolls x.live) refl
  passes_on (steps.Sets_savepoint {k = k} n x name call has code found) = marks k _ x (marked k.sessions x name).work found tt (refl, refl) refl
  passes_on (steps.Gives_up {k = k} n x gives has calls found) = put k _ (record x.work { going = None }) tt (none_waits None refl) refl
  passes_on (steps.Gives_up_commit {k = k} n c (Some l) gives has calls found) = left k _ l.me (rolls l) refl
  passes_on {k = k} _ = calm k _ tt refl
