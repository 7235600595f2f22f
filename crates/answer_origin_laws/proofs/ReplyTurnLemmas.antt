-- A turn leaves what is told of calls and Replies as nodes keep it: each Reply comes from a run that answered it.
use Rattle.std.proofs.Common.{◌≡◌, ◌≢◌, ℕ, ◌+◌, ◌<◌, ◌≤◌, ◌&&◌, ◌||◌, ◌⊎◌, Bool, true, false, if◌then◌else◌, List, [], ◌∷◌, ◌++◌, map, length, Option, Some, None, inl, inr, refl, sym, ap, subst, ◌∙◌, arith}
use Rattle.std.specs.List.{AllByRecursion, list_any}
use Rattle.tran_ids.proofs.ListedLemmas.{item_is}
use Rattle.redo_record.specs.Durable.{durable}
use Rattle.node_rules.specs.Data.{Stmt, Answer, Advice, BranchId, Calls, Edge, Kind, Live, Msg, Post, ReplyFields}
use Rattle.node_rules.specs.declared.session.Finished.{Finished}
use Rattle.node_rules.specs.declared.work.Going.{Going}
use Rattle.node_rules.specs.Data.kinds
use Rattle.node_rules.specs.Data.tasks
use Rattle.node_rules.specs.Words.{same, numbered}
use Rattle.node_rules.specs.Inputs.{Came}
use Rattle.node_rules.specs.NodeState.{NodeState, Branch, branch_at, live_at, post}
use Rattle.node_rules.specs.LiveBranches.{works_of}
use Rattle.node_rules.specs.Names.{A_table, named_by, ref_of}
use Rattle.node_rules.specs.Turn.{turn_of, heard, stamped}
use Rattle.node_rules.proofs.LiveLemmas.{branch_parts}
use Rattle.node_rules.proofs.Steps.{Is_answered}
use Rattle.run_rules.specs.Branches.{Run, Seen, Trail, Origin, seen_id, seen_at, origin_at, is_root_of}
use Rattle.run_rules.specs.Data.{Took, Turn, Happening}
use Rattle.run_rules.specs.Data.happenings
use Rattle.run_rules.specs.Facts.{Facts, node_at, records_at, served, outcome_at}
use Rattle.run_base_laws.specs.InTurnLaws.{said_in}
use Rattle.run_rules.specs.Lawful.{IsOwed, History, IsLawfulRun}
use Rattle.run_rules.specs.Runs.{run_in, ended_answer, replied_answer, answer_or, answered_by, is_accepted}
use Rattle.run_rules.specs.Trail.{is_reply, answers, ended_by, with_begun}
use Rattle.run_base_laws.proofs.StoredLemmas.{records_are_kept}
use Rattle.tree_laws.proofs.PrefixLemmas.{f_at}
use Rattle.tree_trail_laws.proofs.MomentLemmas.{tr_at}
use Rattle.tree_trail_laws.proofs.SeenLemmas.{brings, turned}
use Rattle.answer_origin_laws.specs.ReplyLaws.{went_back, CalledBack}
use Rattle.answer_origin_laws.proofs.BroughtLemmas.{taken_still, taken_new, said_on, says_one, ends_none, runs, again_brings, run_is, run_brings, reply_brings}
use Rattle.answer_origin_laws.proofs.NameLemmas.{catalog_kept, same_names}
use Rattle.answer_origin_laws.proofs.TaleLemmas.{NoReply, IsOfStatement, IsOfBack, Tale, Stays, Says_again, Takes, Answers, Goes_back, Hears, Is_back, calls0, came_one}
use Rattle.answer_origin_laws.proofs.TurnTaleLemmas as tales
use Rattle.answer_origin_laws.proofs.SentLemmas.{came_sent}
use Rattle.tree_laws.proofs.AtTurn.{at_turn}
use Rattle.tree_trail_laws.proofs.AtTrail.{at_trail}

module _ (t : History) (whole : IsLawfulRun t) (Ans : BranchId → ℕ → Answer → Run → Type 0) where
  -- a run that answers at once answers so
  abbrev pub RunsSo : Type 0
  RunsSo = (hs : List Happening) (u : Turn) (rest : List Happening) → hs ++ happenings.Turn u ∷ rest ≡ t.trace → (from : BranchId) (call given : ℕ) (advice : Option Advice) (st : Stmt) (a : Answer) (r : Run)
      → Came u.input from r.branch (kinds.Exec call (tasks.Run given advice st)) → r.statement ≡ st → r.moment ≡ (tr_at t hs).moment → named_by (durable (records_at (f_at t hs) u.node)) (ref_of st) ≡ A_table r.table
      → run_in (f_at t hs) (with_begun (f_at t hs) (tr_at t hs) u) u ≡ Some r → answered_by (outcome_at t.places (f_at t hs) u) ≡ Some a → is_accepted (Some a) ≡ true → Ans r.branch call a r

  -- a Reply that is heard is the answer here too
  abbrev pub PassesSo : Type 0
  PassesSo = (hs : List Happening) (u : Turn) (rest : List Happening) → hs ++ happenings.Turn u ∷ rest ≡ t.trace → (k : NodeState) → node_at (f_at t hs) u.node ≡ Some k → (x : Branch) (weight : Option ℕ) (count : ℕ) (a : Answer) (i : ℕ) (e : Edge)
      → (h : Is_answered (heard k u.input) u.input x weight count a i e) → x.live.parent ≢ None → (r : Run) (n : ℕ) → origin_at (tr_at t hs) n ≡ Some r → Ans h.from h.call a r → Ans x.live.me x.work.came.last_call a r

  -- ---- branches that go back

  -- a BACK of this number came to the branch, before so many happenings
  abbrev pub Backed : ℕ → BranchId → ℕ → Type 0
  Backed now b call = (c : CalledBack t b call) × (c.moment < now)

  -- one that comes in this turn
  abbrev pub ComesBack : Type 0
  ComesBack = (hs : List Happening) (u : Turn) (rest : List Happening) → hs ++ happenings.Turn u ∷ rest ≡ t.trace → (from b : BranchId) (call keep : ℕ) → Came u.input from b (kinds.Exec call (tasks.GoBack keep)) → Backed ((tr_at t hs).moment + 1) b call

  -- a branch below a root that calls its children back was called so itself
  abbrev pub CallsBack : Type 0
  CallsBack = (hs : List Happening) (u : Turn) (rest : List Happening) → hs ++ happenings.Turn u ∷ rest ≡ t.trace → (k : NodeState) → node_at (f_at t hs) u.node ≡ Some k → (x : Branch) (weight : Option ℕ) (count : ℕ) (a : Answer) (i : ℕ) (e : Edge)
      → (h : Is_answered (heard k u.input) u.input x weight count a i e) → x.live.parent ≢ None → (g : Going) → x.work.going ≡ Some g → IsOfBack g.errand → Backed (tr_at t hs).moment x.live.me x.work.came.last_call

  -- a child that was called for a statement was not called back
  abbrev pub CallsOn : Type 0
  CallsOn = (hs : List Happening) (u : Turn) (rest : List Happening) → hs ++ happenings.Turn u ∷ rest ≡ t.trace → (k : NodeState) → node_at (f_at t hs) u.node ≡ Some k → (x : Branch) (weight : Option ℕ) (count : ℕ) (a : Answer) (i : ℕ) (e : Edge)
      → (h : Is_answered (heard k u.input) u.input x weight count a i e) → (g : Going) → x.work.going ≡ Some g → IsOfStatement g.errand → Backed (tr_at t hs).moment h.from h.call → ⊥

  -- What is known of those that go back.
  pub record BacksSo : Type 0 where
    pub comes : ComesBack
    pub calls : CallsBack
    pub statement : CallsOn

  -- ---- answers

  -- an answer comes from its run, or says that the branch went back
  abbrev pub AnswerSo : Option Run → ℕ → BranchId → ℕ → Answer → Type 0
  AnswerSo o now b call a = ((r : Run) × (o ≡ Some r) × Ans b call a r) ⊎ ((a ≡ went_back) × Backed now b call)

  backed_later : (n m : ℕ) → n ≤ m → (b : BranchId) (call : ℕ) → Backed n b call → Backed m b call
  backed_later n m later b call is = (is.0, omega (arith, is.1, later))

  -- it does so later, where its run is told so
  pub answer_later : (o p : Option Run) (n m : ℕ) → n ≤ m → ((r : Run) → o ≡ Some r → p ≡ Some r) → (b : BranchId) (call : ℕ) (a : Answer) → AnswerSo o n b call a → AnswerSo p m b call a
  answer_later o p n m later told b call a (inl ran) = inl (ran.0, told ran.0 ran.1, ran.2)
  answer_later o p n m later told b call a (inr back) = inr (back.0, backed_later n m later b call back.1)

  -- What is told of the calls of a branch is what its node keeps.
  pub record AreTold (now : ℕ) (c : Calls) (b : BranchId) (s : Seen) : Type 0 where
    pub taken : s.taken ≡ c.last_call
    pub kept : (rf : ReplyFields) → c.reply ≡ Some rf → is_accepted (Some rf.result) ≡ true → AnswerSo s.answer now b c.last_call rf.result

  -- so it is of live branches below roots
  abbrev pub CallsOf : Facts → Trail → Type 0
  CallsOf f tr = (n : ℕ) (k : NodeState) → node_at f n ≡ Some k → (l : Live) → live_at k l.me ≡ Some l → l.parent ≢ None → (s : Seen) → seen_at tr l.me ≡ Some s → AreTold tr.moment (works_of k.works l.me).came l.me s

  -- each Reply comes from its run, or says that its branch went back
  abbrev pub RepliesOf : List Post → Trail → Type 0
  RepliesOf said tr = (n : ℕ) (x : Post) → numbered said n ≡ Some x → (call : ℕ) (weight : Option ℕ) (count : ℕ) (a : Answer) → x.kind ≡ kinds.Reply call weight count a → is_accepted (Some a) ≡ true
      → AnswerSo (origin_at tr n) tr.moment x.from call a

  -- What each happening keeps.
  pub record Holds (hs : List Happening) : Type 0 where
    pub replies : RepliesOf (said_in (f_at t hs)) (tr_at t hs)
    pub low : AllByRecursion (λ (o : Origin). o.message ≤ length (said_in (f_at t hs))) (tr_at t hs).origins
    pub calls : CallsOf (f_at t hs) (tr_at t hs)

  module _ (runs_so : RunsSo) (passes_so : PassesSo) (backs_so : BacksSo) (hs : List Happening) (u : Turn) (rest : List Happening) (is : hs ++ happenings.Turn u ∷ rest ≡ t.trace) (now : Holds hs) where
    open at_turn t whole hs u rest is use {after as hs1, part as part0, s as s0, lawful as lawful0, f as f0, g as f1, may, k, heard_k as kk, p, d}
    open at_trail t hs u use {tr as tr0, tr_on as tr1, begun_tr as tr_begun}

    abbrev origin : Option Run
    origin = (brings t.places f0 tr0 u).origin

    abbrev made : Seen → Seen
    made s = turned t.places f0 tr0 u s

    -- the moment, and the one after
    abbrev n0 : ℕ
    n0 = tr0.moment

    abbrev pub n1 : ℕ
    n1 = tr0.moment + 1

    -- ---- a branch, as the turn begins

    module _ (uncut : u.cut ≡ false) where
      pub sent_is : u.sent ≡ map (stamped d.after.clock) d.says
      unfolding turn_of
      sent_is = (subst (λ c. IsOwed p k u.input u.wrote u.sent c) uncut may.1.owed).1

      module _ (l : Live) (s : Seen) (at : seen_at tr_begun l.me ≡ Some s) (alive : s.exit ≡ None) (below : s.parent ≢ None) (told : AreTold n0 (calls0 kk u.input l.me) l.me s) where
        abbrev c0 : Calls
        c0 = calls0 kk u.input l.me

        me : s.me ≡ l.me
        me = item_is seen_id tr_begun.seen l.me s at

        abbrev answering : Bool
        answering = answers u (outcome_at t.places f0 u) s

        by_says : list_any (λ (m : Msg). same m.from s.me && is_reply m.kind) u.sent ≡ list_any (λ (x : Post). same x.from l.me && is_reply x.kind) d.says
        by_says = ap (list_any (λ (m : Msg). same m.from s.me && is_reply m.kind)) sent_is ∙ (said_on s.me d.after.clock d.says ∙ ap (λ b. list_any (λ (x : Post). same x.from b && is_reply x.kind) d.says) me)

        silent : NoReply l.me d.says → (made s).answer ≡ s.answer
        silent none =
            let one : answering ≡ false = ap (λ q. list_any (λ (m : Msg). same m.from s.me && is_reply m.kind) u.sent || q) (ends_none u.node s below (ended_by (outcome_at t.places f0 u))) ∙ ap (λ q. q || false) (by_says ∙ none) in
            ap (λ q. if q then origin else s.answer) one

        loud : (to : BranchId) (call : ℕ) (weight : Option ℕ) (count : ℕ) (a : Answer) → d.says ≡ post l.me to (kinds.Reply call weight count a) → (made s).answer ≡ origin
        loud to call weight count a says =
            let reply : list_any (λ (m : Msg). same m.from s.me && is_reply m.kind) u.sent ≡ true = by_says ∙ (ap (list_any (λ (x : Post). same x.from l.me && is_reply x.kind)) says ∙ says_one l.me to call weight count a) in
            let one : answering ≡ true = ap (λ q. q || list_any (λ (x : Finished). is_root_of u.node x.session s) (ended_by (outcome_at t.places f0 u))) reply in
            ap (λ q. if q then origin else s.answer) one

        -- What a branch says in a turn.
        abbrev pub Speaks : Type 0
        Speaks = NoReply l.me d.says
            ⊎ ((to : BranchId) × (call : ℕ) × (weight : Option ℕ) × (count : ℕ) × (a : Answer) × (d.says ≡ post l.me to (kinds.Reply call weight count a)) × (is_accepted (Some a) ≡ true → AnswerSo origin n1 l.me call a))

        came_to : {from : BranchId} {kind : Kind} → Came u.input from l.me kind → Came u.input from s.me kind
        came_to {from = from} {kind = kind} came = subst (λ b. Came u.input from b kind) (sym me) came

        took_it : (from : BranchId) (kind : Kind) → Came u.input from l.me kind → (tk : Took) × (u.took ≡ Some tk) × (x : Post) × (numbered (said_in f0) tk.number ≡ Some x) × (x.from ≡ from) × (x.kind ≡ kind) × (x.to ≡ l.me)
        took_it from kind came = came_sent f0 k u.node u.input u.took may.1.comes from l.me kind came

        low_last : (call : ℕ) → c0.last_call ≡ call → call ≤ s.taken
        low_last call last = omega (arith, last, told.taken)

        abbrev answered : Option Answer
        answered = (brings t.places f0 tr0 u).answer

        -- the calls of a branch that hears a Reply
        calls_of : (x : Branch) → branch_at kk x.live.me ≡ Some x → x.live.me ≡ l.me → x.work.came ≡ c0
        calls_of x live mine = ap (λ w. w.came) (branch_parts kk x.live.me x live).1 ∙ ap (calls0 kk u.input) mine

        -- it has taken no other call
        heard_taken : (c1 : Calls) (from : BranchId) (call : ℕ) (weight : Option ℕ) (count : ℕ) (a : Answer) → Came u.input from l.me (kinds.Reply call weight count a) → (rf : ReplyFields)
            → c1 ≡ record { last_call = c0.last_call; reply = Some rf } → (made s).taken ≡ c1.last_call
        heard_taken c1 from call weight count a came rf same =
            taken_still u.node s below u.input (λ other n task exec. (let both = (came_one (subst (λ j. Came j other s.me (kinds.Exec n task)) came.is exec)).2 in absurd (cc both))) ∙ (told.taken ∙ ap (λ (c : Calls). c.last_call) (sym same))

        later : (o p : Option Run) → o ≡ p → (call : ℕ) (a : Answer) → AnswerSo o n0 l.me call a → AnswerSo p n1 l.me call a
        later o p same call a is = answer_later o p n0 n1 (omega arith) (λ r told. sym same ∙ told) l.me call a is

        -- what an answer of this turn is kept as
        kept_so : (c1 : Calls) (call : ℕ) (rf : ReplyFields) → c1 ≡ record { last_call = call; reply = Some rf } → (made s).answer ≡ origin → (is_accepted (Some rf.result) ≡ true → AnswerSo origin n1 l.me call rf.result)
            → (x : ReplyFields) → c1.reply ≡ Some x → is_accepted (Some x.result) ≡ true → AnswerSo (made s).answer n1 l.me c1.last_call x.result
        kept_so c1 call rf same answer so x some good =
            let it : Some rf ≡ Some x = ap (λ (c : Calls). c.reply) (sym same) ∙ some in
            let one : rf ≡ x = cc in
            let is : AnswerSo origin n1 l.me call x.result = subst (λ (y : ReplyFields). is_accepted (Some y.result) ≡ true → AnswerSo origin n1 l.me call y.result) one so good in
            subst (λ (c : Calls). AnswerSo (made s).answer n1 l.me c.last_call x.result) (sym same) (subst (λ o. AnswerSo o n1 l.me call x.result) (sym answer) is)

        -- the branch after the turn, with its calls then
        pub told_by : (c1 : Calls) → Tale kk u.input d.says d.ended l.me c0 c1 → AreTold n1 c1 l.me (made s) × Speaks
        unfolding turn_of
        told_by c1 (Stays same none low) = (
          record {
            taken = taken_still u.node s below u.input (λ from call task came. (let less = low from call task (subst (λ b. Came u.input from b (kinds.Exec call task)) me came) in let it : call ≤ s.taken = omega (arith, less, told.taken) in it))
                ∙ (told.taken ∙ ap (λ (c : Calls). c.last_call) (sym same));
            kept = λ rf some good.
                subst (λ (c : Calls). AnswerSo (made s).answer n1 l.me c.last_call rf.result) (sym same) (later s.answer (made s).answer (sym (silent none)) c0.last_call rf.result (told.kept rf (ap (λ (c : Calls). c.reply) (sym same) ∙ some) good));
          },
          inl none,
        )
        told_by c1 (Says_again from call task rf came last some same says) =
            let took = took_it from (kinds.Exec call task) came in
            let brought : origin ≡ s.answer = again_brings f0 tr_begun u answered uncut from l.me s at alive call (low_last call last) task came took.0 took.1 in
            let answer : (made s).answer ≡ s.answer = loud from c0.last_call rf.weight rf.count rf.result says ∙ brought in (
              record {
                taken = taken_new u.node s below u.input from call task (came_to came) alive (omega (arith, last, told.taken)) ∙ (sym last ∙ ap (λ (c : Calls). c.last_call) (sym same));
                kept = λ x is_some good.
                    subst (λ (c : Calls). AnswerSo (made s).answer n1 l.me c.last_call x.result) (sym same) (later s.answer (made s).answer (sym answer) c0.last_call x.result (told.kept x (ap (λ (c : Calls). c.reply) (sym same) ∙ is_some) good));
              },
              inr (from, c0.last_call, rf.weight, rf.count, rf.result, says, (λ good. later s.answer origin (sym brought) c0.last_call rf.result (told.kept rf some good))),
            )
        told_by c1 (Takes from call task came new same none) = (
          record {
            taken = taken_new u.node s below u.input from call task (came_to came) alive (omega (arith, new, told.taken)) ∙ ap (λ (c : Calls). c.last_call) (sym same);
            kept = λ rf some good. absurd (let it : None ≡ Some rf = ap (λ (c : Calls). c.reply) (sym same) ∙ some in absurd cc);
          },
          inl none,
        )
        told_by c1 (Answers from parent call given advice st rf came new same says ended runs_there) =
            let answer : (made s).answer ≡ origin = loud parent call rf.weight rf.count rf.result says in
            let answers_so : answered_by (outcome_at t.places f0 u) ≡ Some rf.result
            = ap (λ o. answered_by (served p u.input o)) may.1.up ∙ (ap (λ xs. answer_or (ended_answer xs) (replied_answer (map (stamped d.after.clock) d.says))) ended ∙ ap (λ xs. answer_or (ended_answer []) (replied_answer (map (stamped d.after.clock) xs))) says) in
            let ran : is_accepted (Some rf.result) ≡ true → AnswerSo origin n1 l.me call rf.result
            = (λ good. (let table = runs_there good in
            let named : named_by (durable (records_at f0 u.node)) (ref_of st) ≡ A_table table.0
            = sym (same_names k.stored.durable (durable (records_at f0 u.node)) (catalog_kept k (records_at f0 u.node) (records_are_kept s0 lawful0 u.node k may.1.up)) (ref_of st)) ∙ (ap (λ x. named_by x.durable (ref_of st)) (sym (tales.heard_stored t whole hs u rest is u.input)) ∙ table.1) in
            let is_new : s.taken < call = omega (arith, new, told.taken) in
            let r : Run = runs f0 tr_begun u answered uncut from l.me s at alive call given advice st came table.0 in
            inl (
              r,
              run_brings f0 tr_begun u answered uncut from l.me s at alive call given advice st came table.0 named is_new,
              subst (λ b. Ans b call rf.result r) me
                  (runs_so hs u rest is from call given advice st rf.result r (came_to came) refl refl named (run_is f0 tr_begun u answered uncut from l.me s at alive call given advice st came table.0 named is_new) answers_so good),
            ))) in (
              record {
                taken = taken_new u.node s below u.input from call (tasks.Run given advice st) (came_to came) alive (omega (arith, new, told.taken)) ∙ ap (λ (c : Calls). c.last_call) (sym same);
                kept = kept_so c1 call rf same answer ran;
              },
              inr (parent, call, rf.weight, rf.count, rf.result, says, ran),
            )
        told_by c1 (Goes_back from parent call keep rf came new same says result) =
            let answer : (made s).answer ≡ origin = loud parent call rf.weight rf.count rf.result says in
            let back : is_accepted (Some rf.result) ≡ true → AnswerSo origin n1 l.me call rf.result = (λ good. inr (result, backs_so.comes hs u rest is from l.me call keep came)) in (
              record {
                taken = taken_new u.node s below u.input from call (tasks.GoBack keep) (came_to came) alive (omega (arith, new, told.taken)) ∙ ap (λ (c : Calls). c.last_call) (sym same);
                kept = kept_so c1 call rf same answer back;
              },
              inr (parent, call, rf.weight, rf.count, rf.result, says, back),
            )
        told_by c1 (Hears x parent weight count a i e rf h mine up result statement same says) =
            let answer : (made s).answer ≡ origin = loud parent c0.last_call rf.weight rf.count rf.result says in
            let came : Came u.input h.from l.me (kinds.Reply h.call weight count a) = subst (λ b. Came u.input h.from b (kinds.Reply h.call weight count a)) mine h.came in
            let took = took_it h.from (kinds.Reply h.call weight count a) came in
            let brought : origin ≡ origin_at tr_begun took.0.number = reply_brings f0 tr_begun u answered uncut h.from l.me h.call weight count a came took.0 took.1 in
            let x_below : x.live.parent ≢ None = (λ none. absurd (cc (up, none))) in
            let heard_it : is_accepted (Some rf.result) ≡ true → AnswerSo origin n1 l.me c0.last_call rf.result
            = (λ good. (let accepted : is_accepted (Some a) ≡ true = ap (λ y. is_accepted (Some y)) (sym result) ∙ good in
            elim (now.replies took.0.number took.2 took.3 h.call weight count a took.5 accepted) [
              | inl was ↦ (let its : Ans h.from h.call a was.0 = subst (λ b. Ans b h.call a was.0) took.4 was.2 in
                  let here : Ans x.live.me x.work.came.last_call a was.0 = passes_so hs u rest is k may.1.up x weight count a i e h x_below was.0 took.0.number was.1 its in
                  inl (was.0, brought ∙ was.1, subst (λ b. Ans b c0.last_call rf.result was.0) mine (subst (λ y. Ans x.live.me c0.last_call y was.0) (sym result) (subst (λ (c : Calls). Ans x.live.me c.last_call a was.0) (calls_of x h.live mine) here))))
              | inr back ↦ (let g = statement accepted in absurd (backs_so.statement hs u rest is k may.1.up x weight count a i e h g.0 g.1 g.2 (subst (λ b. Backed n0 b h.call) took.4 back.1)))
            ])) in (
              record { taken = heard_taken c1 h.from h.call weight count a came rf same; kept = kept_so c1 c0.last_call rf same answer heard_it },
              inr (parent, c0.last_call, rf.weight, rf.count, rf.result, says, heard_it),
            )
        told_by c1 (Is_back x parent weight count a i e g rf h mine up going errand result same says) =
            let answer : (made s).answer ≡ origin = loud parent c0.last_call rf.weight rf.count rf.result says in
            let came : Came u.input h.from l.me (kinds.Reply h.call weight count a) = subst (λ b. Came u.input h.from b (kinds.Reply h.call weight count a)) mine h.came in
            let x_below : x.live.parent ≢ None = (λ none. absurd (cc (up, none))) in
            let called : Backed n0 x.live.me x.work.came.last_call = backs_so.calls hs u rest is k may.1.up x weight count a i e h x_below g going errand in
            let here : Backed n1 l.me c0.last_call = backed_later n0 n1 (omega arith) l.me c0.last_call (subst (λ b. Backed n0 b c0.last_call) mine (subst (λ (c : Calls). Backed n0 x.live.me c.last_call) (calls_of x h.live mine) called)) in
            let back : is_accepted (Some rf.result) ≡ true → AnswerSo origin n1 l.me c0.last_call rf.result = (λ good. inr (result, here)) in (
              record { taken = heard_taken c1 h.from h.call weight count a came rf same; kept = kept_so c1 c0.last_call rf same answer back },
              inr (parent, c0.last_call, rf.weight, rf.count, rf.result, says, back),
            )
