-- What is known of the calls of live branches as a turn begins, and what the drafts of a statement leave of them.
use Rattle.std.proofs.Common.{◌≡◌, ◌≢◌, ℕ, zero, suc, ◌+◌, ◌<◌, ◌≤◌, ◌==◌, ◌&&◌, ◌⊎◌, Bool, true, false, if◌then◌else◌, List, [], ◌∷◌, ◌++◌, map, length, max, unwrap_or, option_map, Option, Some, None, inl, inr, refl, sym, ap, subst, ◌∙◌, arith}
use Rattle.std.specs.Prelude.{nat_lt}
use Rattle.std.proofs.lemmas.Bool.Decides.{nat_tests}
use Rattle.std.proofs.lemmas.Bool.{and_parts}
use Rattle.tran_ids.proofs.BranchLemmas.{equal_from_same}
use Rattle.link_session.proofs.OnceLemmas.{run_is_new}
use Rattle.link_session.specs.Calls.{taken}
use Rattle.session_tree.specs.Live.{children_of, peer_of, edge_at}
use Rattle.node_rules.specs.Data.{Stmt, Answer, BranchId, Edge, Kind, Live, Post, Input, Task}
use Rattle.node_rules.specs.declared.work.Errand.{Errand}
use Rattle.node_rules.specs.Data.kinds
use Rattle.node_rules.specs.declared.work.Waits.TheVariants as waiting
use Rattle.node_rules.specs.declared.session.Session.{Session}
use Rattle.node_rules.specs.declared.work.Work.{Work}
use Rattle.node_rules.specs.declared.work.Going.{Going}
use Rattle.node_rules.specs.declared.work.Waits.{Waits}
use Rattle.node_rules.specs.Words.{same, numbered, set_numbered, put_item, drop_item}
use Rattle.node_rules.specs.Inputs.{Came, IsCall}
use Rattle.node_rules.specs.NodeState.{NodeState, Branch, TurnDraft, live_id, work_id, live_at, branch_at}
use Rattle.node_rules.specs.Calls.{reply_fields, kept_reply, with_answer, answer_says, next_call, called, exec_to, reply_edge, reply_waits, reply_going, reply_of, admit, task_for}
use Rattle.node_rules.proofs.Steps as steps
use Rattle.node_rules.proofs.Steps.{Asked, Goes_to}
use Rattle.node_rules.proofs.StandLemmas.{live_so}
use Rattle.run_base_laws.specs.InTurnLaws.{exec_number, reply_number, newest_exec, newest_reply, WaitsFor, call_at}
use Rattle.node_rules.specs.LiveBranches.{EachLive}
use Rattle.node_rules.proofs.LiveLemmas.{each_put, each_left, each_same, branch_parts}
use Rattle.node_rules.specs.Data.tasks
use Rattle.node_rules.specs.Data.stmts
use Rattle.node_rules.specs.Data.admits
use Rattle.node_rules.specs.Sessions.{session_at}
use Rattle.run_base_laws.proofs.RootLemmas.{SessionsFit, root_alone}
use Rattle.run_base_laws.proofs.KindSayLemmas.{OfDecisions, AllSay}
use Rattle.run_base_laws.proofs.CallTurnLemmas.{Silent, silent_none, one_exec, one_reply, if_zero, silent_other, Answered, answered_more, InTurn, Free, stays_in_turn, answers_in_turn, calls_nobody, calls_child, call_answered}

-- ---- messages that are neither calls nor Replies

abbrev pub IsDumb : Kind → Type 0
IsDumb kind = (exec_number kind ≡ 0) × (reply_number kind ≡ 0)

pub dumb_decisions : OfDecisions IsDumb
dumb_decisions = record {
  committed = λ n. (refl, refl);
  rolled_back = (refl, refl);
  rollback = (refl, refl);
  in_doubt = (refl, refl);
  ack = (refl, refl);
  forgotten = (refl, refl);
  ask = (refl, refl);
}

if_both : (q : Bool) (n m : ℕ) → n ≡ 0 → m ≡ 0 → (if q then max n m else m) ≡ 0
if_both true n m first rest = omega (arith, first, rest)
if_both false n m first rest = rest

pub dumb_execs : (a b : BranchId) (says : List Post) → AllSay IsDumb says → newest_exec says a b ≡ 0
dumb_execs a b [] all = refl
dumb_execs a b (m ∷ ms) all = if_both (same m.from a && same m.to b) (exec_number m.kind) (newest_exec ms a b) all.0.0 (dumb_execs a b ms all.1)

dumb_replies : (b : BranchId) (says : List Post) → AllSay IsDumb says → newest_reply says b ≡ 0
dumb_replies b [] all = refl
dumb_replies b (m ∷ ms) all = if_both (same m.from b) (reply_number m.kind) (newest_reply ms b) all.0.1 (dumb_replies b ms all.1)

pub dumb_silent : (b : BranchId) (says : List Post) → AllSay IsDumb says → Silent b says
dumb_silent b says all = record { calls = λ c. dumb_execs b c says all; replies = dumb_replies b says all }

-- ---- lists of peers

-- the peer of an edge
abbrev pub peer : Edge → BranchId
peer e = e.peer

pub numbered_map : (es : List Edge) (i : ℕ) → numbered (map peer es) i ≡ option_map peer (numbered es i)
numbered_map es zero = refl
numbered_map [] (suc i) = refl
numbered_map (e ∷ es) (suc zero) = refl
numbered_map (e ∷ es) (suc (suc i)) = numbered_map es (suc i)

pub map_set : {X Y : Type 0} (f : X → Y) (xs : List X) (i : ℕ) (e x : X) → numbered xs i ≡ Some e → f x ≡ f e → map f (set_numbered xs i x) ≡ map f xs
map_set f xs zero e x at same_image = refl
map_set f [] (suc i) e x at same_image = refl
map_set f (y ∷ xs) (suc zero) e x at same_image = ap (λ b. b ∷ map f xs) (same_image ∙ ap f (let it : Some y ≡ Some e = at in let here : e ≡ y = cc in here))
map_set f (y ∷ xs) (suc (suc i)) e x at same_image = ap (λ bs. f y ∷ bs) (map_set f xs (suc i) e x at same_image)

pub map_last : (es : List Edge) (e : Edge) → map peer (es ++ e ∷ []) ≡ map peer es ++ peer e ∷ []
map_last [] e = refl
map_last (x ∷ es) e = ap (λ bs. peer x ∷ bs) (map_last es e)

pub length_peers : (es : List Edge) → length (map peer es) ≡ length es
length_peers [] = refl
length_peers (e ∷ es) = ap suc (length_peers es)

module _ {A : Type 0} where
  pub numbered_before : (xs : List A) (y : A) (i : ℕ) (x : A) → numbered xs i ≡ Some x → numbered (xs ++ y ∷ []) i ≡ Some x
  numbered_before xs y zero x at = absurd cc
  numbered_before [] y (suc i) x at = absurd cc
  numbered_before (z ∷ xs) y (suc zero) x at = at
  numbered_before (z ∷ xs) y (suc (suc i)) x at = numbered_before xs y (suc i) x at

  pub numbered_last : (xs : List A) (y : A) → numbered (xs ++ y ∷ []) (suc (length xs)) ≡ Some y
  numbered_last [] y = refl
  numbered_last (x ∷ xs) y = numbered_last xs y

  pub numbered_split : (xs : List A) (y : A) (i : ℕ) (x : A) → numbered (xs ++ y ∷ []) i ≡ Some x → (numbered xs i ≡ Some x) ⊎ ((i ≡ length xs + 1) × (y ≡ x))
  numbered_split xs y zero x at = absurd cc
  numbered_split [] y (suc zero) x at = inr (refl, (let it : Some y ≡ Some x = at in cc))
  numbered_split [] y (suc (suc i)) x at = absurd cc
  numbered_split (z ∷ xs) y (suc zero) x at = inl at
  numbered_split (z ∷ xs) y (suc (suc i)) x at = elim (numbered_split xs y (suc i) x at) [ inl old ↦ inl old | inr new ↦ inr ((let it : suc (suc i) ≡ length (z ∷ xs) + 1 = omega (arith, new.0) in it), new.1) ]

pub calls_before : (cs : List ℕ) (i : ℕ) → i ≤ length cs → unwrap_or (numbered (cs ++ 0 ∷ []) i) 0 ≡ unwrap_or (numbered cs i) 0
calls_before cs zero low = refl
calls_before [] (suc i) low = absurd (omega (arith, low))
calls_before (c ∷ cs) (suc zero) low = refl
calls_before (c ∷ cs) (suc (suc i)) low = calls_before cs (suc i) (omega (arith, low))

-- ---- a turn

-- an edge with its number
abbrev Found : ℕ → Edge → Option (ℕ × Edge)
Found i e = Some (i, e)

-- a Reply that is waited for
going_for : (x : Branch) (from : BranchId) (call i : ℕ) (e : Edge) (o : Option Going) → reply_going x from call o ≡ Some (i, e) → WaitsFor i o × (e.peer ≡ from) × (call_at x.work i ≡ call)
going_for x from call i e None is = absurd cc
going_for x from call i e (Some g) is = over g.waits is
  where
    over : (w : Waits) → reply_waits x from call w ≡ Some (i, e) → (w ≡ waiting.ForReply i) × (e.peer ≡ from) × (call_at x.work i ≡ call)
    over (waiting.ForOpened link) it = absurd cc
    over (waiting.ForReply j) it = edge (edge_at x.live j) it
      where
        edge : (o : Option Edge) → reply_edge x from call j o ≡ Some (i, e) → (waiting.ForReply j ≡ waiting.ForReply i) × (e.peer ≡ from) × (call_at x.work i ≡ call)
        edge None never = absurd cc
        edge (Some y) found = test (same y.peer from && (unwrap_or (numbered x.work.calls j) 0 == call)) refl found
          where
            test : (q : Bool) → (same y.peer from && (unwrap_or (numbered x.work.calls j) 0 == call)) ≡ q → (if q then Found j y else None) ≡ Found i e
                → (waiting.ForReply j ≡ waiting.ForReply i) × (e.peer ≡ from) × (call_at x.work i ≡ call)
            test true both at =
                let number : Some j ≡ Some i = ap (option_map (λ (q : ℕ × Edge). q.0)) at in
                let found : Some y ≡ Some e = ap (option_map (λ (q : ℕ × Edge). q.1)) at in
                let here : j ≡ i = cc in
                let parts = and_parts (same y.peer from) (unwrap_or (numbered x.work.calls j) 0 == call) both in
                let count : call_at x.work j ≡ call = grind (arith, nat_tests, parts.1) in
                (ap waiting.ForReply here, ap peer (let it : e ≡ y = cc in it) ∙ equal_from_same y.peer from parts.0, subst (λ n. call_at x.work n ≡ call) here count)
            test false both at = absurd cc

pub reply_for : (x : Branch) (from : BranchId) (call i : ℕ) (e : Edge) → reply_of x from call ≡ Some (i, e) → WaitsFor i x.work.going × (e.peer ≡ from) × (call_at x.work i ≡ call)
unfolding reply_of
reply_for x from call i e is = going_for x from call i e x.work.going is

-- one edge at a time
pub one_waits : (i j : ℕ) (o : Option Going) → WaitsFor i o → WaitsFor j o → i ≡ j
one_waits i j None first second = absurd first
one_waits i j (Some g) first second = let it : waiting.ForReply i ≡ waiting.ForReply j = sym first ∙ second in cc

pub opened_none : (i : ℕ) (link : List ℕ) (g : Going) (o : Option Going) → o ≡ Some g → g.waits ≡ waiting.ForOpened link → WaitsFor i o → ⊥
opened_none i link g None is opened waits = waits
opened_none i link g (Some h) is opened waits = let it : h ≡ g = cc in let here : g.waits ≡ waiting.ForReply i = subst (λ (y : Going). y.waits ≡ waiting.ForReply i) it waits in absurd (cc (opened, here))

pub none_waits : (i : ℕ) (o : Option Going) → o ≡ None → WaitsFor i o → ⊥
none_waits i None is waits = waits
none_waits i (Some g) is waits = absurd cc

module _ (E : BranchId → Option ℕ) (A : BranchId → Option BranchId) (G Here : BranchId → Type 0) (input : Input) (said : List Post) where
  -- a branch that needs no rollback, where it is a root
  abbrev pub Goes : Live → Type 0
  Goes l = l.parent ≡ None → G l.me

  -- What is known of a branch as a turn begins.
  pub record BegunSo (me : BranchId) (parent : Option BranchId) (peers : List BranchId) (w : Work) : Type 0 where
    pub turn : InTurn (parent ≡ None → G me) said me parent peers w
    pub kids : (i : ℕ) (c : BranchId) → numbered peers i ≡ Some c → E c ≡ Some i
    pub above : (p : BranchId) → A me ≡ Some p → parent ≡ Some p
    pub idle : parent ≡ None → (s : Stmt) → IsCall input me.session s → w.going ≡ None
    pub here : Here me

  -- of a live branch
  abbrev pub Begun : Live → Work → Type 0
  Begun l w = BegunSo l.me l.parent (children_of l) w

  -- and once its messages are sent
  abbrev pub Done : List Post → Live → Work → Type 0
  Done says l w = InTurn (Goes l) (said ++ says) l.me l.parent (children_of l) w

  -- What is known of the message that came.
  pub record Received : Type 0 where
    pub exec : (from to : BranchId) (call : ℕ) (task : Task) → Came input from to (kinds.Exec call task) → (A to ≡ Some from) × (call ≤ newest_exec said from to)
    pub reply : (from to : BranchId) (call : ℕ) (weight : Option ℕ) (count : ℕ) (a : Answer) → Came input from to (kinds.Reply call weight count a) → call ≤ newest_reply said from
    pub opened : (from to : BranchId) (edge strength : ℕ) → Came input from to (kinds.Opened edge strength) → E from ≡ Some edge
    pub here : (from to : BranchId) (kind : Kind) → Came input from to kind → Here to
    pub all : Answered said

  -- a branch of which nothing is known, and that said nothing
  abbrev pub IsNew : BranchId → Type 0
  IsNew b = Silent b said × (A b ≡ None)

  abbrev pub FreeOf : Branch → Type 0
  FreeOf x = Free E (Goes x.live) said x.live.me x.live.parent (children_of x.live) x.work

  -- messages leave it so, and are of branches that are here
  abbrev pub Sends : List Post → Type 0
  Sends says = Answered (said ++ says) × ((b : BranchId) → (Here b → ⊥) → Silent b says)

  -- what a step leaves
  abbrev pub Leaves : TurnDraft → Type 0
  Leaves d = EachLive (Done d.says) d.after.lives d.after.works × Sends d.says

  -- a branch that is not here is another one
  pub elsewhere : (a b : BranchId) → Here a → (Here b → ⊥) → same a b ≡ false
  elsewhere a b here not = by (same a b) refl
    where
      by : (q : Bool) → same a b ≡ q → q ≡ false
      by false is = refl
      by true is = absurd (not (subst Here (equal_from_same a b is) here))

  pub none_at : (i : ℕ) (c : BranchId) → numbered (map peer []) i ≡ Some c → ⊥
  none_at zero c at = absurd cc
  none_at (suc i) c at = absurd cc

  pub begun_fresh : (l : Live) (w : Work) → l.edges ≡ [] → w.calls ≡ [] → w.came.last_call ≡ 0 → w.came.reply ≡ None → w.going ≡ None → Silent l.me said → InTurn (Goes l) said l.me l.parent (children_of l) w
  begun_fresh l w edges calls last reply going silent = record {
    takes = record { taken = λ p above. omega (arith, last); told = omega (arith, silent.replies); rests = λ below it. going };
    makes = record {
      numbers = ap length calls ∙ (let it : length (map peer l.edges) ≡ 0 = ap (λ es. length (map peer es)) edges in sym it);
      made = λ i c at. absurd (none_at i c (subst (λ es. numbered (map peer es) i ≡ Some c) edges at));
      no_other = λ c none. silent.calls c;
      heard = λ goes i c at. absurd (none_at i c (subst (λ es. numbered (map peer es) i ≡ Some c) edges at));
    };
    answered = λ waits. reply;
    alone = λ none. reply;
  }

  module _ (received : Received) where
    -- ---- a statement at a branch

    -- one that waits for nothing, or for something else than a Reply, or whose Reply came
    pub freed : (x : Branch) → Begun x.live x.work → (x.live.parent ≢ None → newest_reply said x.live.me + 1 ≤ x.work.came.last_call) → x.work.came.reply ≡ None
        → ((i : ℕ) (c : BranchId) → numbered (children_of x.live) i ≡ Some c → WaitsFor i x.work.going → call_at x.work i ≤ newest_reply said c) → FreeOf x
    freed x was owes unanswered hears = record {
      kids = was.kids;
      taken = was.turn.takes.taken;
      told = was.turn.takes.told;
      owes = owes;
      unanswered = unanswered;
      numbers = was.turn.makes.numbers;
      made = was.turn.makes.made;
      no_other = was.turn.makes.no_other;
      heard = λ goes i c at. elim (was.turn.makes.heard goes i c at) [ inl waits ↦ hears i c at waits | inr heard ↦ heard ];
    }

    -- a branch that waits has not told its last Reply
    pub still_owes : (x : Branch) (g : Going) → x.work.going ≡ Some g → Begun x.live x.work → x.live.parent ≢ None → newest_reply said x.live.me + 1 ≤ x.work.came.last_call
    still_owes x g going was below = by (nat_lt (newest_reply said x.live.me) x.work.came.last_call) refl
      where
        by : (q : Bool) → nat_lt (newest_reply said x.live.me) x.work.came.last_call ≡ q → newest_reply said x.live.me + 1 ≤ x.work.came.last_call
        by true is = grind (arith, nat_tests, is)
        by false is =
            let low : newest_reply said x.live.me ≤ x.work.came.last_call = was.turn.takes.told in
            let last : newest_reply said x.live.me ≡ x.work.came.last_call = grind (arith, nat_tests, is, low) in
            let none : x.work.going ≡ None = was.turn.takes.rests below last in
            absurd (cc (none, going))

    pub branch_begun : (k : NodeState) → EachLive Begun k.lives k.works → (x : Branch) → branch_at k x.live.me ≡ Some x → Begun x.live x.work
    branch_begun k now x found = let parts = branch_parts k x.live.me x found in subst (Begun x.live) (sym parts.1) (now.each x.live.me x.live parts.0)

    -- a root whose session calls
    called_free : (k : NodeState) → SessionsFit k → EachLive Begun k.lives k.works → (n : ℕ) (x : Branch) (s : Stmt) → IsCall input n s → (session_at k.sessions n).root ≡ Some x.live.me → branch_at k x.live.me ≡ Some x
        → FreeOf x
    called_free k ss now n x s call has live =
        let was : Begun x.live x.work = branch_begun k now x live in
        let none : x.live.parent ≡ None = root_alone k ss n x.live.me has x.live (live_so k x.live.me x live) in
        let free : x.work.going ≡ None = was.idle none s (subst (λ m. IsCall input m s) (sym (ss.roots.each n x.live.me has)) call) in
        freed x was (λ below. absurd (below none)) (was.turn.alone none) (λ i c at waits. absurd (none_waits i x.work.going free waits))

    -- a branch that takes a call
    taken_free : (k : NodeState) → EachLive Begun k.lives k.works → (x : Branch) (from : BranchId) (call : ℕ) (task : Task) → Came input from x.live.me (kinds.Exec call task) → branch_at k x.live.me ≡ Some x
        → admit x.work.came call ≡ admits.Run → Free E (Goes x.live) said x.live.me x.live.parent (children_of x.live) (record x.work { came = taken call })
    taken_free k now x from call task came live runs =
        let was : Begun x.live x.work = branch_begun k now x live in
        let said_so = received.exec from x.live.me call task came in
        let parent : x.live.parent ≡ Some from = was.above from said_so.0 in
        let new : x.work.came.last_call < call = run_is_new x.work.came call runs in
        let answered : call ≤ newest_reply said x.live.me + 1 = omega (arith, said_so.1, received.all from x.live.me) in
        let told : newest_reply said x.live.me ≤ x.work.came.last_call = was.turn.takes.told in
        let last : newest_reply said x.live.me ≡ x.work.came.last_call = omega (arith, new, answered, told) in
        let free : x.work.going ≡ None = was.turn.takes.rests (λ none. (let p : Some from ≡ None = sym parent ∙ none in absurd cc)) last in
        record {
          kids = was.kids;
          taken = λ p above. (let it : Some from ≡ Some p = sym parent ∙ above in let here : from ≡ p = cc in subst (λ q. call ≤ newest_exec said q x.live.me) here said_so.1);
          told = omega (arith, told, new);
          owes = λ below. omega (arith, told, new);
          unanswered = refl;
          numbers = was.turn.makes.numbers;
          made = was.turn.makes.made;
          no_other = was.turn.makes.no_other;
          heard = λ goes i c at. elim (was.turn.makes.heard goes i c at) [ inl waits ↦ absurd (none_waits i x.work.going free waits) | inr heard ↦ heard ];
        }

    pub asked_free : (k : NodeState) → SessionsFit k → EachLive Begun k.lives k.works → {x : Branch} {s : Stmt} {given : ℕ} → Asked k input x s given → FreeOf x
    asked_free k ss now (steps.By_call n x s call rows has code live may) = called_free k ss now n x s call has live
    asked_free k ss now (steps.By_exec x from call given advice s came live runs) = taken_free k now x from call (tasks.Run given advice s) came live runs

    -- a branch that goes back
    pub goes_free : (k : NodeState) → SessionsFit k → EachLive Begun k.lives k.works → {x : Branch} {step : ℕ} → Goes_to k input x step → FreeOf x
    goes_free k ss now (steps.By_rollback_to n x name step call has code live set) = called_free k ss now n x (stmts.RollbackTo name) call has live
    goes_free k ss now (steps.By_back x from call keep came live runs) = taken_free k now x from call (tasks.GoBack keep) came live runs

    -- ---- what becomes of the others

    -- messages of a branch leave all others in turn
    module _ (k : NodeState) (now : EachLive Begun k.lives k.works) where
      pub others_stay : (says : List Post) (y : Live) (v : Work) → Silent y.me says → Begun y v → Done says y v
      others_stay says y v silent was = stays_in_turn (Goes y) said says y.me y.parent (children_of y) v silent was.turn

      pub still : (says : List Post) → ((b : BranchId) (y : Live) → live_at k b ≡ Some y → Silent y.me says) → EachLive (Done says) k.lives k.works
      still says silent = each_same Begun (Done says) k.lives k.works now (λ y v live any was. others_stay says y v (silent y.me y live) was)

      pub changed : (says : List Post) (l : Live) (w : Work) → w.branch ≡ l.me → Done says l w → ((b : BranchId) → same l.me b ≡ false → Silent b says) → EachLive (Done says) (put_item live_id k.lives l) (put_item work_id k.works w)
      changed says l w mine so silent = each_put Begun (Done says) k.lives k.works now l w mine so (λ y v live other was. others_stay says y v (silent y.me other) was)

      pub left : (says : List Post) (b : BranchId) → AllSay IsDumb says → EachLive (Done says) (drop_item live_id k.lives b) (drop_item work_id k.works b)
      left says b dumb = each_left Begun (Done says) k.lives k.works now b (λ y v live other was. others_stay says y v (dumb_silent y.me says dumb) was)

      pub dumbly : (says : List Post) → AllSay IsDumb says → Sends says
      dumbly says dumb = (answered_more said says (λ a b. dumb_execs a b says dumb) received.all, (λ b not. dumb_silent b says dumb))

      -- ---- the drafts of a statement

      -- the Reply of a branch
      abbrev pub reply_kind : Branch → Answer → Kind
      reply_kind x a = kinds.Reply x.work.came.last_call (reply_fields x.live a).weight (reply_fields x.live a).count (reply_fields x.live a).result

      answer_silent : (x : Branch) (a : Answer) (o : Option BranchId) (b : BranchId) → same x.live.me b ≡ false → Silent b (answer_says x a o)
      answer_silent x a None b other = silent_none b
      answer_silent x a (Some parent) b other = silent_other x.live.me parent b _ other

      answer_execs : (x : Branch) (a : Answer) (o : Option BranchId) (b c : BranchId) → newest_exec (answer_says x a o) b c ≡ 0
      answer_execs x a None b c = refl
      answer_execs x a (Some parent) b c = one_exec x.live.me parent b c (reply_kind x a) ∙ if_zero (same x.live.me b && same parent c) 0 refl

      answer_replies : (x : Branch) (a : Answer) (o : Option BranchId) → newest_reply (answer_says x a o) x.live.me ≤ x.work.came.last_call
      answer_replies x a None = omega arith
      answer_replies x a (Some parent) = below (same x.live.me x.live.me) (one_reply x.live.me parent x.live.me (reply_kind x a))
        where
          below : (q : Bool) → newest_reply (answer_says x a (Some parent)) x.live.me ≡ (if q then x.work.came.last_call else 0) → newest_reply (answer_says x a (Some parent)) x.live.me ≤ x.work.came.last_call
          below true is = omega (arith, is)
          below false is = omega (arith, is)

      kept_alone : (x : Branch) (a : Answer) (o : Option BranchId) → x.work.came.reply ≡ None → o ≡ None → kept_reply x a o ≡ None
      kept_alone x a None none is = none
      kept_alone x a (Some b) none is = absurd cc

      pub answers_so : (x : Branch) (a : Answer) → x.work.branch ≡ x.live.me → Here x.live.me → FreeOf x
          → EachLive (Done (answer_says x a x.live.parent)) (put_item live_id k.lives x.live) (put_item work_id k.works (with_answer x a).work) × Sends (answer_says x a x.live.parent)
      answers_so x a mine here free =
          let says : List Post = answer_says x a x.live.parent in (
            changed says x.live (with_answer x a).work mine
                (answers_in_turn (Goes x.live) said says x.live.me x.live.parent (children_of x.live) E x.work free (with_answer x a).work refl refl refl
                (λ c. answer_execs x a x.live.parent x.live.me c) (answer_replies x a x.live.parent) (λ none. kept_alone x a x.live.parent free.unanswered none))
                (λ b other. answer_silent x a x.live.parent b other),
            (answered_more said says (λ b c. answer_execs x a x.live.parent b c) received.all, (λ b not. answer_silent x a x.live.parent b (elsewhere x.live.me b here not))),
          )

      -- what waits for its Reply, and the message
      abbrev over_edge : Errand → ℕ → Going
      over_edge e i = record { errand = e; waits = waiting.ForReply i }

      abbrev pub exec_kind : List Session → Branch → ℕ → Errand → Kind
      exec_kind ss x i e = kinds.Exec (next_call x.work i) (task_for ss x i e)

      -- a call over an edge, whose child answered the last
      pub calls_so : (x : Branch) (i : ℕ) (e : Errand) (ss : List Session) → x.work.branch ≡ x.live.me → Here x.live.me → FreeOf x → ((c : BranchId) → numbered (children_of x.live) i ≡ Some c → call_at x.work i ≤ newest_reply said c)
          → EachLive (Done (exec_to ss x i e (peer_of x.live i))) (put_item live_id k.lives x.live) (put_item work_id k.works (called ss x i e).work) × Sends (exec_to ss x i e (peer_of x.live i))
      calls_so x i e ss mine here free last = by (peer_of x.live i) (numbered_map x.live.edges i)
        where
          by : (o : Option BranchId) → numbered (children_of x.live) i ≡ o
              → EachLive (Done (exec_to ss x i e o)) (put_item live_id k.lives x.live) (put_item work_id k.works (called ss x i e).work) × Sends (exec_to ss x i e o)
          by None at = (
            changed [] x.live (called ss x i e).work mine
                (calls_nobody E (Goes x.live) said x.live.me x.live.parent (children_of x.live) x.work free i (over_edge e i) refl (called ss x i e).work.marks at) (λ b other. silent_none b),
            dumbly [] tt,
          )
          by (Some c) at = (
            changed (exec_to ss x i e (Some c)) x.live (called ss x i e).work mine
                (calls_child E (Goes x.live) said x.live.me x.live.parent (children_of x.live) x.work free i (over_edge e i) refl (called ss x i e).work.marks c at (exec_kind ss x i e) refl refl)
                (λ b other. silent_other x.live.me c b _ other),
            (
              call_answered E (Goes x.live) said x.live.me x.live.parent (children_of x.live) x.work free i (over_edge e i) refl (called ss x i e).work.marks c at (exec_kind ss x i e) refl refl (last c at) received.all,
              (λ b not. silent_other x.live.me c b _ (elsewhere x.live.me b here not)),
            ),
          )
