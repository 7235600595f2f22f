-- In a turn of a lawful run the Reply that a pending statement waits for, or its give-up, ends it; and what ends it is one of these.
use Rattle.std.proofs.Common.{◌≡◌, ℕ, ◌+◌, ◌==◌, ◌&&◌, Bool, true, false, if◌then◌else◌, List, [], ◌∷◌, is_none, option_map, unwrap_or, Option, Some, None, refl, sym, ap, subst, ◌∙◌}
use Rattle.std.proofs.lemmas.Bool.{and_from, eq-eqb}
use Rattle.tran_ids.proofs.BranchLemmas.{same_from_equal}
use Rattle.session_tree.specs.Live.{children_of, edge_at}
use Rattle.node_rules.specs.Data.{Answer, BranchId, Edge, Input, Place, Post, Task}
use Rattle.node_rules.specs.declared.work.Errand.{Errand}
use Rattle.node_rules.specs.declared.work.Errand.TheVariants as errands
use Rattle.node_rules.specs.declared.work.Going.{Going}
use Rattle.node_rules.specs.declared.work.Waits.{Waits}
use Rattle.node_rules.specs.Data.answers
use Rattle.node_rules.specs.Data.inputs
use Rattle.node_rules.specs.Data.kinds
use Rattle.node_rules.specs.declared.session.PendingCall.TheVariants as pending
use Rattle.node_rules.specs.declared.work.Waits.TheVariants as waiting
use Rattle.node_rules.specs.declared.session.PendingCall.{PendingCall}
use Rattle.node_rules.specs.NodeState.{NodeState, Branch, TurnDraft, branch_at, kept_row_at}
use Rattle.node_rules.specs.Marks.{next_back}
use Rattle.node_rules.specs.Refusals.{dtx}
use Rattle.node_rules.specs.Words.{numbered, one, same}
use Rattle.node_rules.specs.Sessions.{session_at}
use Rattle.node_rules.specs.Calls.{answer_ends, backs_to, errand_heard, going_heard, hears_reply, heard_answer, reply_heard, is_gone, reply_by, reply_edge, reply_going, reply_of, reply_waits}
use Rattle.node_rules.specs.Client.{give_up_by, statement_given_up, waited_link, waits_on}
use Rattle.node_rules.specs.Turn.{Is_live, draft_of, heard, kind_turn, live_or, status_of}
use Rattle.node_rules.proofs.Steps as steps
use Rattle.run_base_laws.specs.CallLaws.{RootWaits}
use Rattle.run_base_laws.specs.InTurnLaws.{WaitsFor, call_at}
use Rattle.run_base_laws.proofs.InTurnLemmas.{peer, numbered_map, reply_for}
use Rattle.run_base_laws.proofs.NeighborLemmas.{reply_is}
use Rattle.run_base_laws.proofs.RestStepLemmas.{going_of}
use Rattle.answer_laws.proofs.AtWorkLemmas.{is_back_errand, IsSentLast}
use Rattle.answer_origin_laws.specs.ReplyLaws.{went_back}
use Rattle.run_rules.specs.Runs.{is_accepted}
use Rattle.answer_laws.proofs.AtWorkRunLemmas.{IsWaiting}
use Rattle.answer_laws.specs.StatementEnds.{IsLastReply, StatementPends, StatementCause, Is_answered, Branch_is_gone, Is_back, Is_given_up, is_back, next_by, next_after, goes_next, last_sent_down, link_waited}

-- a session whose root waits has a statement pending
pub going_statement : (c : PendingCall) (phase : _) (o : Option Going) (g : Going) → RootWaits c phase o → o ≡ Some g → c ≡ pending.Statement
going_statement pending.NoCall phase o g is going = absurd (let none = is.1 in cc (none, going))
going_statement pending.Statement phase o g is going = refl
going_statement pending.Commit phase o g is going = absurd (cc (is, going))

-- the answer of a root to what it heard
answer_gone : (link : List ℕ) (r : Answer) (o : Option BranchId) → o ≡ None → is_gone r ≡ true → (if is_none o && is_gone r then answers.Refused (dtx 8 (one link)) else r) ≡ answers.Refused (dtx 8 (one link))
answer_gone link r None none gone = ap (λ q. if q then answers.Refused (dtx 8 (one link)) else r) gone
answer_gone link r (Some up) none gone = absurd cc

answer_same : (link : List ℕ) (r : Answer) (o : Option BranchId) → is_gone r ≡ false → (if is_none o && is_gone r then answers.Refused (dtx 8 (one link)) else r) ≡ r
answer_same link r None other = ap (λ q. if q then answers.Refused (dtx 8 (one link)) else r) other
answer_same link r (Some up) other = refl

-- what a node hears leaves its branches
pub heard_branch : (k : NodeState) (input : Input) (b : BranchId) → branch_at (heard k input) b ≡ branch_at k b
heard_branch k (inputs.Message m) b = refl
heard_branch k (inputs.Call n s) b = refl
heard_branch k (inputs.GiveUp n) b = refl
heard_branch k inputs.Reco b = refl
heard_branch k inputs.Checkpoint b = refl

-- the link of the child that a branch waits for
pub link_of_edge : (x : Branch) (g : Going) (i : ℕ) (e : Edge) → x.work.going ≡ Some g → g.waits ≡ waiting.ForReply i → edge_at x.live i ≡ Some e → waited_link x.live x.work.going ≡ e.link
link_of_edge x g i e going waits at = ap (waited_link x.live) going ∙ (ap (waits_on x.live) waits ∙ ap (λ o. unwrap_or (option_map (λ (y : Edge). y.link) o) []) at)

-- ---- what becomes of a Reply

-- the answer of a child is handed on, unless it went back
hands_on : (k : NodeState) (y : Branch) (i : ℕ) (link : List ℕ) (r : Answer) (errand : Errand) → (is_back_errand errand && is_accepted (Some r)) ≡ false → errand_heard k y i link r errand ≡ reply_heard k y link r
hands_on k y i link r (errands.Statement s given) handed = refl
hands_on k y i link (answers.Refused r) (errands.GoBack step) handed = refl
hands_on k y i link (answers.Did d n) (errands.GoBack step) handed = absurd cc
hands_on k y i link (answers.Found rows) (errands.GoBack step) handed = absurd cc

-- then the next child is to go back
pub goes_on_back : (k : NodeState) (y : Branch) (i : ℕ) (link : List ℕ) (r : Answer) (errand : Errand) → (is_back_errand errand && is_accepted (Some r)) ≡ true
    → (step : ℕ) × (errand ≡ errands.GoBack step) × (errand_heard k y i link r errand ≡ backs_to k y step (next_back y.work step (i + 1)))
goes_on_back k y i link r (errands.Statement s given) back = absurd cc
goes_on_back k y i link (answers.Refused r) (errands.GoBack step) back = absurd cc
goes_on_back k y i link (answers.Did d n) (errands.GoBack step) back = (step, refl, refl)
goes_on_back k y i link (answers.Found rows) (errands.GoBack step) back = (step, refl, refl)

-- that a branch is gone is a refusal
gone_refused : (r : Answer) → is_gone r ≡ true → is_accepted (Some r) ≡ false
gone_refused (answers.Refused r) gone = refl
gone_refused (answers.Did d n) gone = absurd cc
gone_refused (answers.Found rows) gone = absurd cc

and_none : (q : Bool) → (q && false) ≡ false
and_none true = refl
and_none false = refl

-- what a turn ends to which a Reply comes that is waited for
module _ (p : Place) (k : NodeState) (x : Branch) (weight : Option ℕ) (count : ℕ) (a : Answer) (i : ℕ) (e : Edge) where
  abbrev Ends : Input → Type 0
  Ends j = branch_at (heard k j) x.live.me ≡ Some x → (draft_of p k j).ended ≡ (going_heard (heard k j) (hears_reply x i weight count e) i e.link a x.work.going).ended

  ends_by : (from : BranchId) (call scn : ℕ) → reply_of x from call ≡ Some (i, e) → Ends (inputs.Message (record { from = from; to = x.live.me; scn = scn; kind = kinds.Reply call weight count a }))
  unfolding status_of
  ends_by from call scn waits live =
      let input : Input = inputs.Message (record { from = from; to = x.live.me; scn = scn; kind = kinds.Reply call weight count a }) in
      ap (λ st. (kind_turn p (heard k input) from x.live.me (kinds.Reply call weight count a) st).ended) (ap (λ o. live_or o (kept_row_at (heard k input) x.live.me)) live)
      ∙ ap (λ o. (reply_by (heard k input) x weight count a o).ended) waits

  pub heard_draft : (input : Input) → steps.Is_answered (heard k input) input x weight count a i e → (draft_of p k input).ended ≡ (going_heard (heard k input) (hears_reply x i weight count e) i e.link a x.work.going).ended
  heard_draft input h = subst Ends (sym h.came.is) (ends_by h.from h.call h.came.scn h.waits) h.live

-- ---- from the Reply that a root heard

-- the Reply is the one to what it sent down last
module _ (said : List Post) (input : Input) (k : NodeState) (x : Branch) (weight : Option ℕ) (count : ℕ) (a : Answer) (i : ℕ) (e : Edge) (heard_it : steps.Is_answered k input x weight count a i e)
    (sent : (g : Going) → x.work.going ≡ Some g → IsSentLast said x.live.me (children_of x.live) x.work g.errand g.waits) where
  abbrev its_going : (g : Going) × (x.work.going ≡ Some g)
  its_going = going_of x heard_it.from heard_it.call i e heard_it.waits

  waits_so : (o : Option Going) (g : Going) → o ≡ Some g → WaitsFor i o → g.waits ≡ waiting.ForReply i
  waits_so None g is for_it = absurd cc
  waits_so (Some h) g is for_it = let one : h ≡ g = (let it : Some h ≡ Some g = is in cc) in subst (λ (y : Going). y.waits ≡ waiting.ForReply i) one for_it

  pub for_reply : its_going.0.waits ≡ waiting.ForReply i
  for_reply = waits_so x.work.going its_going.0 its_going.1 (reply_for x heard_it.from heard_it.call i e heard_it.waits).0

  its_sent : IsSentLast said x.live.me (children_of x.live) x.work its_going.0.errand (waiting.ForReply i)
  its_sent = subst (IsSentLast said x.live.me (children_of x.live) x.work its_going.0.errand) for_reply (sent its_going.0 its_going.1)

  pub last_reply : IsLastReply said x.live.me input a
  last_reply =
      let is = its_sent in
      let at : edge_at x.live i ≡ Some e = reply_is x heard_it.from heard_it.call i e heard_it.waits in
      let is_reply = reply_for x heard_it.from heard_it.call i e heard_it.waits in
      let there : Some is.0 ≡ Some e.peer = sym is.2 ∙ (numbered_map x.live.edges i ∙ ap (option_map peer) at) in
      let child : is.0 ≡ e.peer = cc in record {
        child = heard_it.from;
        call = heard_it.call;
        task = is.1;
        sent = is.3 ∙ (ap (λ c. Some (record { from = x.live.me; to = c; kind = kinds.Exec (call_at x.work i) is.1 })) (child ∙ is_reply.1) ∙ ap (λ n. Some (record { from = x.live.me; to = heard_it.from; kind = kinds.Exec n is.1 })) is_reply.2);
        weight = weight;
        count = count;
        came = heard_it.came;
      }

  -- the last message is a BACK where the errand is to go back
  pub last_back : is_back last_reply.task ≡ is_back_errand its_going.0.errand
  unfolding last_reply
  last_back = its_sent.4

  pub its_link : waited_link x.live x.work.going ≡ e.link
  its_link = link_of_edge x its_going.0 i e its_going.1 for_reply (reply_is x heard_it.from heard_it.call i e heard_it.waits)

  -- so it is the cause, of the answer that is handed on
  pub reply_cause : (link : List ℕ) (next : Option ℕ) → link ≡ e.link → x.live.parent ≡ None → (is_back_errand its_going.0.errand && is_accepted (Some a)) ≡ false
      → StatementCause said link next x.live.me input (heard_answer (hears_reply x i weight count e).live e.link a)
  reply_cause link next is root handed = by (is_gone a) refl
    where
      by : (q : Bool) → is_gone a ≡ q → StatementCause said link next x.live.me input (heard_answer (hears_reply x i weight count e).live e.link a)
      by true gone = Branch_is_gone a last_reply gone (answer_gone e.link a x.live.parent root gone ∙ ap (λ l. answers.Refused (dtx 8 (one l))) (sym is))
      by false other = subst (StatementCause said link next x.live.me input) (sym (answer_same e.link a x.live.parent other)) (Is_answered last_reply (ap (λ q. q && is_accepted (Some a)) last_back ∙ handed) other)

  -- or of the end of ROLLBACK TO
  pub back_cause : (link : List ℕ) (next : Option ℕ) → next ≡ None → (is_back_errand its_going.0.errand && is_accepted (Some a)) ≡ true → (b : Answer) → b ≡ went_back → StatementCause said link next x.live.me input b
  back_cause link next none back b is = Is_back a last_reply (ap (λ q. q && is_accepted (Some a)) last_back ∙ back) none is

-- ---- from the cause to the end

module _ (p : Place) (said : List Post) (k : NodeState) (g : BranchId) (pends : StatementPends k g) (w : IsWaiting said k g) where
  abbrev x : Branch
  x = w.branch

  abbrev EndsSo : Input → Answer → Type 0
  EndsSo input a = (draft_of p k input).ended ≡ (record { session = g.session; answer = a }) ∷ []

  waits_for : link_waited (branch_at k g) ≡ waited_link x.live x.work.going
  waits_for = ap link_waited w.found

  given_up : EndsSo (inputs.GiveUp g.session) (answers.Refused (dtx 3 (one (link_waited (branch_at k g)))))
  given_up =
      ap (λ r. (give_up_by k g.session r (session_at k.sessions g.session).call).ended) pends.root
      ∙ (ap (λ c. (give_up_by k g.session (Some g) c).ended) pends.call
      ∙ (ap (λ o. (statement_given_up k g.session o).ended) w.found ∙ ap (λ l. (record { session = g.session; answer = answers.Refused (dtx 3 (one l)) }) ∷ []) (sym waits_for)))

  -- what it sent down last is the call that it waits for
  -- over which edge
  record OverEdge (child : BranchId) (call : ℕ) (task : Task) : Type 0 where
    pub number : ℕ
    pub edge : Edge
    pub waits : w.going.waits ≡ waiting.ForReply number
    pub back : is_back task ≡ is_back_errand w.going.errand
    pub at : edge_at x.live number ≡ Some edge
    pub peer_is : edge.peer ≡ child
    pub call_is : call_at x.work number ≡ call

  -- the child that is to go back next
  next_is : goes_next (branch_at k g) ≡ next_by x.work w.going.errand w.going.waits
  next_is = ap goes_next w.found ∙ ap (next_after x.work) w.waits

  module _ (child : BranchId) (call : ℕ) (task : Task) (last : last_sent_down g None said ≡ Some (record { from = g; to = child; kind = kinds.Exec call task })) where
    last_me : last_sent_down x.live.me None said ≡ Some (record { from = x.live.me; to = child; kind = kinds.Exec call task })
    last_me = subst (λ b. last_sent_down b None said ≡ Some (record { from = b; to = child; kind = kinds.Exec call task })) (sym w.is_me) last

    over_edge : OverEdge child call task
    over_edge = by w.going.waits refl w.sent
      where
        by_edge : (i : ℕ) → w.going.waits ≡ waiting.ForReply i → is_back task ≡ is_back_errand w.going.errand → (c : BranchId) → numbered (children_of x.live) i ≡ Some c → c ≡ child → call_at x.work i ≡ call → (o : Option Edge) → edge_at x.live i ≡ o → OverEdge child call task
        by_edge i is kind c there same_child same_call None at = absurd (let none : numbered (children_of x.live) i ≡ None = numbered_map x.live.edges i ∙ ap (option_map peer) at in cc (none, there))
        by_edge i is kind c there same_child same_call (Some e) at = record {
          number = i;
          edge = e;
          waits = is;
          back = kind;
          at = at;
          peer_is = (let both : Some e.peer ≡ Some c = sym (numbered_map x.live.edges i ∙ ap (option_map peer) at) ∙ there in let it : e.peer ≡ c = cc in it ∙ same_child);
          call_is = same_call;
        }

        by : (o : Waits) → w.going.waits ≡ o → IsSentLast said x.live.me (children_of x.live) x.work w.going.errand o → OverEdge child call task
        by (waiting.ForOpened link) is sent = absurd
            (let both : Some (record { from = x.live.me; to = sent.0; kind = kinds.Open sent.1 sent.2 sent.3 sent.4 }) ≡ Some (record { from = x.live.me; to = child; kind = kinds.Exec call task }) = sym sent.5 ∙ last_me in
            let one_post : record { from = x.live.me; to = sent.0; kind = kinds.Open sent.1 sent.2 sent.3 sent.4 } ≡ record { from = x.live.me; to = child; kind = kinds.Exec call task } = cc in
            let kind_is : kinds.Open sent.1 sent.2 sent.3 sent.4 ≡ kinds.Exec call task = ap (λ (m : Post). m.kind) one_post in
            cc (kind_is))
        by (waiting.ForReply i) is sent =
            let both : Some (record { from = x.live.me; to = sent.0; kind = kinds.Exec (call_at x.work i) sent.1 }) ≡ Some (record { from = x.live.me; to = child; kind = kinds.Exec call task }) = sym sent.3 ∙ last_me in
            let one_post : record { from = x.live.me; to = sent.0; kind = kinds.Exec (call_at x.work i) sent.1 } ≡ record { from = x.live.me; to = child; kind = kinds.Exec call task } = cc in
            let kind_is : kinds.Exec (call_at x.work i) sent.1 ≡ kinds.Exec call task = ap (λ (m : Post). m.kind) one_post in
            let task_is : sent.1 ≡ task = cc in
            by_edge i is (ap is_back (sym task_is) ∙ sent.4) sent.0 sent.2 (ap (λ (m : Post). m.to) one_post) (let it : call_at x.work i ≡ call = cc in it) (edge_at x.live i) refl

    abbrev i : ℕ
    i = over_edge.number

    abbrev e : Edge
    e = over_edge.edge

    reply_found : reply_of x child call ≡ Some (over_edge.number, over_edge.edge)
    unfolding reply_of
    reply_found =
        let both : (same e.peer child && (unwrap_or (numbered x.work.calls i) 0 == call)) ≡ true = and_from (same e.peer child) (unwrap_or (numbered x.work.calls i) 0 == call) (same_from_equal e.peer child over_edge.peer_is) (eq-eqb (call_at x.work i) call over_edge.call_is) in
        ap (reply_going x child call) w.waits ∙ (ap (reply_waits x child call) over_edge.waits ∙ (ap (reply_edge x child call i) over_edge.at ∙ ap (λ q. if q then Some (i, e) else None) both))

    module _ (scn : ℕ) (weight : Option ℕ) (count : ℕ) (r : Answer) where
      abbrev input : Input
      input = inputs.Message (record { from = child; to = g; scn = scn; kind = kinds.Reply call weight count r })

      abbrev y : Branch
      y = hears_reply x i weight count e

      stands : status_of (heard k input) g ≡ Is_live x
      unfolding status_of
      stands = ap (λ o. live_or o (kept_row_at (heard k input) g)) (heard_branch k input g ∙ w.found)

      abbrev kk : NodeState
      kk = heard k input

      -- what a root says ends its session's call
      answer_ends_so : (b : Answer) → answer_ends y.live b x.live.parent ≡ (record { session = g.session; answer = b }) ∷ []
      answer_ends_so b = ap (answer_ends y.live b) w.is_root ∙ ap (λ (c : BranchId). (record { session = c.session; answer = b }) ∷ []) w.is_me

      errand_ends : (draft_of p k input).ended ≡ (errand_heard kk y i e.link r w.going.errand).ended
      errand_ends =
          ap (λ st. (kind_turn p kk child g (kinds.Reply call weight count r) st).ended) stands
          ∙ (ap (λ o. (reply_by kk x weight count r o).ended) reply_found ∙ ap (λ o. (going_heard kk y i e.link r o).ended) w.waits)

      heard_ends : (is_back_errand w.going.errand && is_accepted (Some r)) ≡ false → EndsSo input (heard_answer y.live e.link r)
      heard_ends handed = errand_ends ∙ (ap (λ (d : TurnDraft). d.ended) (hands_on kk y i e.link r w.going.errand handed) ∙ answer_ends_so (heard_answer y.live e.link r))

      -- with the answer of the Reply, unless the branch is gone
      pub answered_ends : (is_back task && is_accepted (Some r)) ≡ false → is_gone r ≡ false → EndsSo input r
      answered_ends handed other = subst (EndsSo input) (answer_same e.link r x.live.parent other) (heard_ends (ap (λ q. q && is_accepted (Some r)) (sym over_edge.back) ∙ handed))

      pub gone_ends : is_gone r ≡ true → EndsSo input (answers.Refused (dtx 8 (one (link_waited (branch_at k g)))))
      gone_ends gone =
          let link : e.link ≡ link_waited (branch_at k g) = sym (waits_for ∙ link_of_edge x w.going i e w.waits over_edge.waits over_edge.at) in
          subst (EndsSo input) (answer_gone e.link r x.live.parent w.is_root gone ∙ ap (λ l. answers.Refused (dtx 8 (one l))) link)
          (heard_ends (ap (λ q. is_back_errand w.going.errand && q) (gone_refused r gone) ∙ and_none (is_back_errand w.going.errand)))

      -- or the tree is back, where no other child is to go back
      pub back_ends : (is_back task && is_accepted (Some r)) ≡ true → goes_next (branch_at k g) ≡ None → EndsSo input went_back
      back_ends back none =
          let it = goes_on_back kk y i e.link r w.going.errand (ap (λ q. q && is_accepted (Some r)) (sym over_edge.back) ∙ back) in
          let last : next_back x.work it.0 (i + 1) ≡ None = sym (next_is ∙ (ap (λ q. next_by x.work w.going.errand q) over_edge.waits ∙ ap (λ q. next_by x.work q (waiting.ForReply i)) it.1)) ∙ none in
          errand_ends ∙ (ap (λ (d : TurnDraft). d.ended) it.2 ∙ (ap (λ o. (backs_to kk y it.0 o).ended) last ∙ answer_ends_so went_back))

  -- each cause ends it
  pub cause_ends : (came : Input) (a : Answer) → StatementCause said (link_waited (branch_at k g)) (goes_next (branch_at k g)) g came a → EndsSo came a
  cause_ends came a (Is_answered last handed other) =
      ap (λ j. (draft_of p k j).ended) last.came.is ∙ answered_ends last.child last.call last.task last.sent last.came.scn last.weight last.count a handed other
  cause_ends came a (Branch_is_gone refused last gone is) =
      ap (λ j. (draft_of p k j).ended) last.came.is
      ∙ subst (EndsSo (inputs.Message (record { from = last.child; to = g; scn = last.came.scn; kind = kinds.Reply last.call last.weight last.count refused }))) (sym is)
      (gone_ends last.child last.call last.task last.sent last.came.scn last.weight last.count refused gone)
  cause_ends came a (Is_back told last back none is) =
      ap (λ j. (draft_of p k j).ended) last.came.is
      ∙ subst (EndsSo (inputs.Message (record { from = last.child; to = g; scn = last.came.scn; kind = kinds.Reply last.call last.weight last.count told }))) (sym is)
      (back_ends last.child last.call last.task last.sent last.came.scn last.weight last.count told back none)
  cause_ends came a (Is_given_up gives is) = ap (λ j. (draft_of p k j).ended) gives ∙ subst (EndsSo (inputs.GiveUp g.session)) (sym is) given_up
