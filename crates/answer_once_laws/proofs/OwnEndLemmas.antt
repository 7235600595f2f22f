-- A turn that a client's call comes to completes no call but that one: all others that it ends are refused.
use Rattle.std.proofs.Common.{◌≡◌, ℕ, Bool, true, false, if◌then◌else◌, List, [], ◌∷◌, ◌++◌, IfSome, Option, Some, None, refl, sym, ap, subst, ◌∙◌}
use Rattle.std.specs.Prelude.{slice_get, take}
use Rattle.std.specs.List.{AllByRecursion}
use Rattle.std.proofs.lemmas.Bool.{cond_both}
use Rattle.commit_forget.specs.declared.next.Next.TheVariants as nexts
use Rattle.node_rules.specs.Data.{Act, Answer, BranchId, Decision, Input, KeptRow, Kind, Live, Next, Place, Refusal, Stmt}
use Rattle.node_rules.specs.Data.acts
use Rattle.node_rules.specs.Data.answers
use Rattle.node_rules.specs.Data.inputs
use Rattle.node_rules.specs.Data.stmts
use Rattle.node_rules.specs.declared.session.Finished.{Finished}
use Rattle.node_rules.specs.declared.session.Session.{Session}
use Rattle.node_rules.specs.Calls.{answer_ends}
use Rattle.node_rules.specs.Commit.{next_turn}
use Rattle.node_rules.specs.Inputs.{Came, Brings, Commit_came, Rollback_came, Rolled_back_came}
use Rattle.node_rules.specs.NodeState.{Branch, NodeState, TurnDraft, TurnOutput}
use Rattle.node_rules.specs.Prepare.{abandon_ends, is_alone, act_turn}
use Rattle.node_rules.specs.Sessions.{commit_is_pending, commit_answer}
use Rattle.node_rules.specs.Statement.{ran, after_run}
use Rattle.node_rules.specs.Turn.{turn_of, heard, draft_of}
use Rattle.node_rules.proofs.Steps as steps
use Rattle.node_rules.specs.Marks.{node_back}
use Rattle.node_rules.proofs.Steps.{Step, Asked, Goes_to, Calls_back, Acting, Collects, Doing}
use Rattle.run_base_laws.proofs.LawfulLemmas.{serves}
use Rattle.run_base_laws.proofs.RestRunLemmas.{NodeRests, heard_rests, run_roots}
use Rattle.run_base_laws.proofs.RootLemmas.{SessionsFit, begun_so, counted_so, back_so, pends_so}
use Rattle.run_rules.specs.Calls.{is_complete}
use Rattle.run_rules.specs.Data.{Happening, Turn}
use Rattle.run_rules.specs.Data.happenings
use Rattle.run_rules.specs.Data.pending
use Rattle.run_rules.specs.Each.{facts_upto}
use Rattle.run_rules.specs.Facts.{place_at, served, outcome_at}
use Rattle.run_rules.specs.Lawful.{History, IsLawfulRun}
use Rattle.tree_laws.proofs.AtTurn.{at_turn}
use Rattle.tree_laws.proofs.PrefixLemmas.{f_at}
use Rattle.answer_origin_laws.proofs.PartLemmas.{split_at}
use Rattle.answer_origin_laws.proofs.ReplyRunLemmas.{prefix}

-- a call that is complete is of this session
abbrev pub CompletesOwn : ℕ → List Finished → Type 0
CompletesOwn n fs = AllByRecursion (λ (f : Finished). is_complete f.answer ≡ true → f.session ≡ n) fs

no_message : {input : Input} {n : ℕ} {st : Option Stmt} {from to : BranchId} {kind : Kind} → input ≡ inputs.Call n st → Came input from to kind → ⊥
no_message {n = n} {st = st} call came = let both : inputs.Call n st ≡ inputs.Message _ = sym call ∙ came.is in absurd cc

module _ (ss : List Session) (n : ℕ) where
  commit_own : (b : BranchId) (a : Answer) → b.session ≡ n → CompletesOwn n (commit_answer ss b a)
  commit_own b a own = cond_both (commit_is_pending ss b) ((record { session = b.session; answer = a }) ∷ []) [] (CompletesOwn n) (λ pends. ((λ complete. own), tt)) (λ other. tt)

  commit_refused : (b : BranchId) (r : Refusal) (more : List Finished) → CompletesOwn n more → CompletesOwn n (commit_answer ss b (answers.Refused r) ++ more)
  commit_refused b r more all =
      cond_both (commit_is_pending ss b) ((record { session = b.session; answer = answers.Refused r }) ∷ []) [] (λ fs. CompletesOwn n (fs ++ more)) (λ pends. ((λ complete. absurd cc), all)) (λ other. all)

  answer_own : (l : Live) (a : Answer) (o : Option BranchId) → l.me.session ≡ n → CompletesOwn n (answer_ends l a o)
  answer_own l a None own = ((λ complete. own), tt)
  answer_own l a (Some parent) own = tt

  abandon_own : (l : Live) (o : Option BranchId) → l.me.session ≡ n → CompletesOwn n (abandon_ends ss l o)
  abandon_own l None own = commit_own l.me _ own
  abandon_own l (Some parent) own = tt

  alone_own : (here : Bool) (b : BranchId) (a : Answer) → b.session ≡ n → CompletesOwn n (if here then commit_answer ss b a else [])
  alone_own true b a own = commit_own b a own
  alone_own false b a own = tt

act_own : (k : NodeState) (l : Live) (site_below : Bool) (a : Act) (n : ℕ) → l.me.session ≡ n → CompletesOwn n (act_turn k l site_below a).ended
act_own k l site_below acts.Decide n own = alone_own k.sessions n (is_alone l) l.me _ own
act_own k l site_below acts.Finish n own = commit_own k.sessions n l.me _ own
act_own k l site_below acts.Abandon n own = abandon_own k.sessions n l l.parent own
act_own k l site_below acts.Rest n own = tt
act_own k l site_below acts.AskDown n own = tt
act_own k l site_below acts.SayReadOnly n own = tt
act_own k l site_below acts.SayReady n own = tt
act_own k l site_below acts.Seal n own = tt
act_own k l site_below (acts.SealAndPass i) n own = tt

module _ {input : Input} {n : ℕ} {st : Option Stmt} (call : input ≡ inputs.Call n st) where
  same_session : (m : ℕ) (s : Option Stmt) → input ≡ inputs.Call m s → m ≡ n
  same_session m s other = let both : inputs.Call m s ≡ inputs.Call n st = sym other ∙ call in cc

  -- the branch that the call is about is the session's
  asked_session : {k : NodeState} {x : Branch} {s : Stmt} {given : ℕ} → SessionsFit k → Asked k input x s given → x.live.me.session ≡ n
  asked_session fit (steps.By_call m x s its rows has code live may) = fit.roots.each m x.live.me has ∙ same_session m (Some s) its
  asked_session fit (steps.By_exec x from number given advice s came live runs) = absurd (no_message call came)

  goes_session : {k : NodeState} {x : Branch} {step : ℕ} → SessionsFit k → Goes_to k input x step → x.live.me.session ≡ n
  goes_session fit (steps.By_rollback_to m x name _ its has code live set) = fit.roots.each m x.live.me has ∙ same_session m (Some (stmts.RollbackTo name)) its
  goes_session fit (steps.By_back x from number keep came live runs) = absurd (no_message call came)

  calling_session : {k : NodeState} {x : Branch} {step from : ℕ} → SessionsFit k → Calls_back k input x step from → x.live.me.session ≡ n
  calling_session fit (steps.Has_gone j x step goes is) = let back : SessionsFit (node_back j x step) = subst SessionsFit is fit in goes_session {k = j} (record { roots = back.roots; above = back.above }) goes
  calling_session fit (steps.Has_heard x weight count a i e g step answered going errand plain) = absurd (no_message call answered.came)

  collects_session : {k : NodeState} {l : Live} {comment : List ℕ} {site_below : Bool} → SessionsFit k → Collects k input l comment site_below → l.me.session ≡ n
  collects_session {l = l} fit (steps.By_commit m given its has code writer same) = fit.roots.each m l.me has ∙ same_session m _ its
  collects_session fit (steps.By_prepare from site_below came works) = absurd (no_message call came)

  acting_session : {k : NodeState} {l : Live} {site_below : Bool} {a : Act} → SessionsFit k → Acting k input l site_below a → l.me.session ≡ n
  acting_session fit (steps.Asks_down l comment site_below e es live collects edges) = collects_session fit collects
  acting_session fit (steps.Has_no_children l comment site_below a live collects edges so) = collects_session fit collects
  acting_session fit (steps.Hears_abort l from site_below live said) = absurd (no_message call said.came)
  acting_session fit (steps.Waits_on l from v site_below live said not all) = absurd (no_message call said.came)
  acting_session fit (steps.Hears_last l from v site_below a live said not all so) = absurd (no_message call said.came)
  acting_session fit (steps.At_point l from a live came ready points) = absurd (no_message call came)

  brings_none : {from to : BranchId} {d : Decision} → Brings input from to d → ⊥
  brings_none (Commit_came m came) = no_message call came
  brings_none (Rollback_came came) = no_message call came
  brings_none (Rolled_back_came came) = no_message call came

  doing_rests : {clock : ℕ} {s : KeptRow} {from : BranchId} {next : Next} → Doing clock input s from next → next ≡ nexts.Rest
  doing_rests steps.Stays = refl
  doing_rests (steps.Ends_so d brings toward unknown sealed met) = absurd (brings_none brings)
  doing_rests (steps.Meets_so d brings toward unknown sealed committed met) = absurd (brings_none brings)
  doing_rests (steps.Acks_again i m came toward knows all) = absurd (no_message call came)
  doing_rests (steps.Acks_on came knows forgot all toward) = absurd (no_message call came)
  doing_rests (steps.Forgets_first came knows forgot all toward) = absurd (no_message call came)
  doing_rests (steps.Forgets_after came knows toward forgot) = absurd (no_message call came)
  doing_rests (steps.Has_forgotten came knows forgot) = absurd (no_message call came)

  next_own : (k : NodeState) (s : KeptRow) (from : BranchId) (next : Next) → next ≡ nexts.Rest → CompletesOwn n (next_turn k s from next).ended
  next_own k s from next is = subst (λ x. CompletesOwn n (next_turn k s from x).ended) (sym is) tt

own_on : (p : Place) (input : Input) (n : ℕ) (st : Option Stmt) → input ≡ inputs.Call n st → {k : NodeState} {d : TurnDraft} → Step p input k d → SessionsFit k → CompletesOwn n d.ended
own_on p input n st call (steps.Begins {k = k} m s read_at its begins range none step) fit = own_on p input n st call step (begun_so k fit p m read_at)
own_on p input n st call (steps.Counts_call {k = k} m s its counts step) fit = own_on p input n st call step (counted_so k fit m)
own_on p input n st call (steps.Goes_back {k = k} x step goes next) fit = own_on p input n st call next (back_so k fit x step)
own_on p input n st call (steps.Pends {k = k} m l given its has live code writer step) fit = own_on p input n st call step (pends_so k fit m pending.Commit)
own_on p input n st call (steps.Lets_reads_go l comment site_below live begins step) fit = own_on p input n st call step (record { roots = fit.roots; above = fit.above })
own_on p input n st call (steps.Counts_ack s from kept came counts step) fit = own_on p input n st call step (record { roots = fit.roots; above = fit.above })
own_on p input n st call (steps.Runs {k = k} x s given t asked way) fit = answer_own k.sessions n (after_run x.live (ran p k x.live.me s t)) _ x.live.parent (asked_session call fit asked)
own_on p input n st call (steps.Goes_nowhere {k = k} x s given r asked way) fit = answer_own k.sessions n x.live _ x.live.parent (asked_session call fit asked)
own_on p input n st call (steps.Hears_reply {k = k} x weight count a i e answered) fit = absurd (no_message call answered.came)
own_on p input n st call (steps.Acts {k = k} l site_below a why) fit = act_own k l site_below a n (acting_session call fit why)
own_on p input n st call (steps.Does {k = k} s from next kept why) fit = next_own call k s from next (doing_rests call why)
own_on p input n st call (steps.Refuses m s r is) fit = ((λ complete. absurd cc), tt)
own_on p input n st call (steps.Completes_at_once m s d its completes none) fit = ((λ complete. same_session call m (Some s) its), tt)
own_on p input n st call (steps.Makes_record m s r d its makes) fit = ((λ complete. same_session call m (Some s) its), tt)
own_on p input n st call (steps.Forces_given {k = k} m id scn b its named) fit = commit_refused k.sessions n b _ _ ((λ complete. same_session call m _ its), tt)
own_on p input n st call (steps.Forces_commit {k = k} m id b its named) fit = commit_refused k.sessions n b _ _ ((λ complete. same_session call m _ its), tt)
own_on p input n st call (steps.Forces_rollback {k = k} m id b its named) fit = commit_refused k.sessions n b _ _ ((λ complete. same_session call m _ its), tt)
own_on p input n st call (steps.Hides m mixed id s its found) fit = ((λ complete. same_session call m _ its), tt)
own_on p input n st call (steps.Advises m a its) fit = ((λ complete. same_session call m _ its), tt)
own_on p input n st call (steps.Leaves m s d x its ends has live) fit = ((λ complete. same_session call m _ its), tt)
own_on p input n st call (steps.Sets_read_only m its) fit = ((λ complete. same_session call m _ its), tt)
own_on p input n st call (steps.Sets_savepoint m x name its has code live) fit = ((λ complete. same_session call m _ its), tt)
own_on p input n st call (steps.Images checkpoint) fit = tt
own_on p input n st call (steps.Backs x step from i calls next) fit = tt
own_on p input n st call (steps.Is_back {k = k} x step from calls none) fit = answer_own k.sessions n x.live _ x.live.parent (calling_session call fit calls)
own_on p input n st call (steps.Gives_up m x gives has calls live) fit = let both : inputs.Call n st ≡ inputs.GiveUp m = sym call ∙ gives in absurd cc
own_on p input n st call (steps.Gives_up_commit m b o gives has calls live) fit = let both : inputs.Call n st ≡ inputs.GiveUp m = sym call ∙ gives in absurd cc
own_on p input n st call (steps.Rests) fit = tt
own_on p input n st call (steps.Sends says why) fit = tt
own_on p input n st call (steps.Calls x s given i table asked way) fit = tt
own_on p input n st call (steps.Opens x s given node link table asked way) fit = tt
own_on p input n st call (steps.Goes_on x from strength g link opened) fit = tt
own_on p input n st call (steps.Opens_branch to parent edge root depth read_at came new) fit = tt
own_on p input n st call (steps.Drops_told l live drops) fit = tt
own_on p input n st call (steps.Drops_asked l from live came parent) fit = tt

-- ---- in a lawful run

module _ (t : History) (whole : IsLawfulRun t) (n : ℕ) (st : Option Stmt) where
  module _ (hs : List Happening) (u : Turn) (rest : List Happening) (is : hs ++ happenings.Turn u ∷ rest ≡ t.trace) (call : u.input ≡ inputs.Call n st) where
    open at_turn t whole hs u rest is use {s as s0, lawful as lawful0, may, k}

    rests : NodeRests (heard k u.input)
    rests = heard_rests k u.input (subst (λ o. IfSome o NodeRests) may.1.up (run_roots s0 lawful0 u.node))

    draft_own : CompletesOwn n (draft_of (place_at t.places u.node) k u.input).ended
    draft_own = own_on (place_at t.places u.node) u.input n st call (serves t.places (f_at t hs) u k may.1).step rests.0

    turn_own : (o : TurnOutput) → outcome_at t.places (f_at t hs) u ≡ Some o → CompletesOwn n o.ended
    unfolding turn_of
    turn_own o outcome =
        let both : Some (turn_of (place_at t.places u.node) k u.input) ≡ Some o = sym (ap (served (place_at t.places u.node) u.input) may.1.up) ∙ outcome in
        let one : turn_of (place_at t.places u.node) k u.input ≡ o = cc in
        subst (λ (x : TurnOutput). CompletesOwn n x.ended) one draft_own

  pub completes_own : (i : ℕ) (u : Turn) → slice_get t.trace i ≡ Some (happenings.Turn u) → u.input ≡ inputs.Call n st → (o : TurnOutput) → outcome_at t.places (facts_upto t i) u ≡ Some o → CompletesOwn n o.ended
  completes_own i u there call o outcome =
      let at = split_at t.trace i (happenings.Turn u) there in
      let first : take i t.trace ≡ at.0 = ap (λ m. take m t.trace) (sym at.3) ∙ prefix t at.0 (happenings.Turn u) at.1 at.2 in
      turn_own at.0 u at.1 at.2 call o (ap (λ xs. outcome_at t.places (f_at t xs) u) (sym first) ∙ outcome)
