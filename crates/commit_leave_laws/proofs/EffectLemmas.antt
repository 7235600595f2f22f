-- What a step of a message does to the session of a root whose COMMIT is pending: it stays as it was, and so does the root or
-- its row; or the COMMIT is answered with Commit complete. No rollback, question, Abort or Prepare comes to the root.
use Rattle.std.proofs.Common.{◌≡◌, ◌≢◌, ℕ, Bool, List, [], Option, Some, None, inl, inr, refl, sym, ap, subst, ◌∙◌}
use Rattle.commit_forget.specs.declared.next.Next.{Next}
use Rattle.commit_forget.specs.declared.next.Next.TheVariants as nexts
use Rattle.node_rules.specs.Data.{BranchId, Decision, Input, Live, Place, KeptRow}
use Rattle.node_rules.specs.Data.decisions
use Rattle.node_rules.specs.Data.kinds
use Rattle.node_rules.specs.Data.records
use Rattle.node_rules.specs.declared.session.Session.{Session}
use Rattle.node_rules.specs.Calls.{open_by, heard_answer, heard_sessions, hears_reply, with_edge}
use Rattle.node_rules.specs.Inputs.{Came, Brings, Rollback_came, Rolled_back_came}
use Rattle.node_rules.specs.NodeState.{NodeState, Branch, TurnDraft, nothing, saying, post, live_id, with_kept_row}
use Rattle.node_rules.specs.Commit.{acked_by, next_turn}
use Rattle.node_rules.specs.Prepare.{drops}
use Rattle.node_rules.specs.Sessions.{session_at, commit_complete, commit_ended, commit_answer}
use Rattle.node_rules.specs.Statement.{ran, after_run}
use Rattle.session_tree.specs.Live.{new_edge}
use Rattle.node_rules.proofs.StandLemmas.{live_so}
use Rattle.node_rules.proofs.Steps as steps
use Rattle.node_rules.proofs.Steps.{Doing, Drops, IsKept, Step}
use Rattle.run_rules.proofs.ListLemmas.{any_more}
use Rattle.run_base_laws.proofs.RestStepLemmas.{going_of}
use Rattle.commit_leave_laws.proofs.RootActLemmas.{Known, Effect, IsNoCall, same_or, still, not_mine, completes, asked_live, asked_below, waits_elsewhere, lasts_put, lasts_drop, lasts_write, acts_so, calling_elsewhere}
use Rattle.commit_leave_laws.proofs.LastLemmas.{Lasts, acked_row}
use Rattle.commit_leave_laws.proofs.SessionLemmas.{commit_keeps, decision_keeps, answered_keeps, going_keeps, heard_same}
use Rattle.node_rules.proofs.StepLemmas.{calling_back_live}
use Rattle.node_rules.specs.Images.{image_at, images}

module _ (m : ℕ) (r : BranchId) (own : r.session ≡ m) (input : Input) where
  abbrev K : NodeState → Type 0
  K k = Known m r own input k

  module _ (k : NodeState) (now : K k) where
    -- ---- rows

    undone : (b : BranchId) (from : BranchId) → Brings input from b decisions.Rollback → b ≢ r
    undone b from (Rollback_came came) me = (let calm = now.calm from kinds.Rollback (subst (λ c. Came input from c kinds.Rollback) me came) in cc calm)
    undone b from (Rolled_back_came came) me = (let calm = now.calm from kinds.RolledBack (subst (λ c. Came input from c kinds.RolledBack) me came) in cc calm)

    ends_so : {s : KeptRow} {from : BranchId} {d : Decision} → Doing k.clock input s from (nexts.End d) → Brings input from s.me d
    ends_so (steps.Ends_so d brings toward none sealed met) = brings

    meets_so : {s : KeptRow} {from : BranchId} {d : Decision} {mixed : Bool} → Doing k.clock input s from (nexts.Meet d mixed) → Brings input from s.me d
    meets_so (steps.Meets_so d brings toward none unsealed uncommitted met) = brings

    does_so : (s : KeptRow) (from : BranchId) (n : Next) → IsKept k s → Doing k.clock input s from n → Effect m r own input k (next_turn k s from n)
    does_so s from (nexts.End (decisions.Commit n)) kept why = still m r own input k now (next_turn k s from (nexts.End (decisions.Commit n))) refl refl (lasts_write m r own input k now (records.Ended s.me (decisions.Commit n)) tt)
    does_so s from (nexts.End decisions.Rollback) kept why =
        let other : s.me ≢ r = undone s.me from (ends_so why) in
        inl (decision_keeps m k.sessions s.me decisions.Rollback (λ is. not_mine m r own input k now s.me other), (λ root. lasts_write m r own input k now (records.Ended s.me decisions.Rollback) other))
    does_so s from (nexts.Meet (decisions.Commit n) mixed) kept why = still m r own input k now (next_turn k s from (nexts.Meet (decisions.Commit n) mixed)) refl refl (lasts_write m r own input k now (records.Met s.me (decisions.Commit n) mixed) tt)
    does_so s from (nexts.Meet decisions.Rollback mixed) kept why =
        let other : s.me ≢ r = undone s.me from (meets_so why) in
        inl (decision_keeps m k.sessions s.me decisions.Rollback (λ is. not_mine m r own input k now s.me other), (λ root. lasts_write m r own input k now (records.Met s.me decisions.Rollback mixed) other))
    does_so s from nexts.Forget kept why = elim (same_or s.me r) [
      | inr other ↦ inl (commit_keeps m k.sessions s.me commit_complete (not_mine m r own input k now s.me other), (λ root. lasts_write m r own input k now (records.Forgot s.me) other))
      | inl me ↦ by me (session_at k.sessions m).root refl
    ]
      where
        by : s.me ≡ r → (o : Option BranchId) → (session_at k.sessions m).root ≡ o → Effect m r own input k (next_turn k s from nexts.Forget)
        by me None free = (let none : (session_at k.sessions m).root ≢ Some s.me = (λ root. (let both : None ≡ Some s.me = sym free ∙ root in absurd cc)) in
            inl (commit_keeps m k.sessions s.me commit_complete none, (λ root. (let both : None ≡ Some r = sym free ∙ root in absurd cc))))
        by me (Some b) has =
            let it : b ≡ r = now.only b has in
            completes m r own input k now (next_turn k s from nexts.Forget) (ap (commit_ended k.sessions) me) (ap (λ c. commit_answer k.sessions c commit_complete) me) (has ∙ ap Some it)
    does_so s from nexts.Rest kept why = still m r own input k now (next_turn k s from nexts.Rest) refl refl (λ lasts. lasts)
    does_so s from nexts.AckToward kept why = still m r own input k now (next_turn k s from nexts.AckToward) refl refl (λ lasts. lasts)
    does_so s from nexts.SayForgotten kept why = still m r own input k now (next_turn k s from nexts.SayForgotten) refl refl (λ lasts. lasts)
    does_so s from nexts.SayAck kept why = still m r own input k now (next_turn k s from nexts.SayAck) refl refl (λ lasts. lasts)

    dropped : (l : Live) → Drops input l → l.me ≢ r
    dropped l (steps.By_rollback from came) me = (let calm = now.calm from kinds.Rollback (subst (λ c. Came input from c kinds.Rollback) me came) in cc calm)
    dropped l (steps.By_parent from came parent) me = (let calm = now.calm from kinds.RolledBack (subst (λ c. Came input from c kinds.RolledBack) me came) in cc calm)

  -- ---- steps

  -- an Ack that counts leaves what is known
  acked_lasts : (k : NodeState) (s : KeptRow) (from : BranchId) → IsKept k s → Lasts r k → Lasts r (with_kept_row k (acked_by s from))
  acked_lasts k s from kept (inl living) = inl living
  acked_lasts k s from kept (inr row) = inr (acked_row r k (acked_by s from) s kept refl refl row)

  pub effect_on : (p : Place) → IsNoCall input → {k : NodeState} {d : TurnDraft} → Step p input k d → K k → Effect m r own input k d
  effect_on p quiet (steps.Begins n s read_at call begins range none step) now = absurd (quiet.calls n (Some s) call)
  effect_on p quiet (steps.Counts_call n s call counts step) now = absurd (quiet.calls n _ call)
  effect_on p quiet (steps.Goes_back {k = k} x step goes next) now =
      effect_on p quiet next (record { only = now.only; commits = now.commits; roots = now.roots; rests = now.rests; below = now.below; top = now.top; calm = now.calm })
  effect_on p quiet (steps.Pends n l given call has live code writer step) now = absurd (quiet.calls n _ call)
  effect_on p quiet (steps.Lets_reads_go {k = k} l comment site_below live begins step) now =
      effect_on p quiet step (record { only = now.only; commits = now.commits; roots = now.roots; rests = now.rests; below = now.below; top = now.top; calm = now.calm })
  effect_on p quiet (steps.Counts_ack {k = k} s from kept came counts step) now =
      let so = effect_on p quiet step (record { only = now.only; commits = now.commits; roots = now.roots; rests = now.rests; below = now.below; top = now.top; calm = now.calm }) in
      elim so [ inl goes ↦ inl (goes.0, (λ root lasts. goes.1 root (acked_lasts k s from kept lasts))) | inr done ↦ inr done ]
  effect_on p quiet (steps.Rests {k = k}) now = still m r own input k now (nothing k) refl refl (λ lasts. lasts)
  effect_on p quiet (steps.Sends {k = k} says why) now = still m r own input k now (saying k says) refl refl (λ lasts. lasts)
  effect_on p quiet (steps.Runs {k = k} x s given t asked way) now =
      let l : Live = after_run x.live (ran p k x.live.me s t) in
      let y = asked_live m r own input k now asked in
      inl (answered_keeps m k.sessions l _ x.live.parent (λ root. absurd (asked_below m r own input k now quiet asked root)), (λ root. lasts_put m r own input k now l y.0 y.1))
  effect_on p quiet (steps.Goes_nowhere {k = k} x s given r0 asked way) now =
      let y = asked_live m r own input k now asked in inl (answered_keeps m k.sessions x.live _ x.live.parent (λ root. absurd (asked_below m r own input k now quiet asked root)), (λ root. lasts_put m r own input k now x.live y.0 y.1))
  effect_on p quiet (steps.Calls {k = k} x s given i table asked way) now =
      let y = asked_live m r own input k now asked in inl (going_keeps m k.sessions x.live (λ root. absurd (asked_below m r own input k now quiet asked root)), (λ root. lasts_put m r own input k now x.live y.0 y.1))
  effect_on p quiet (steps.Opens {k = k} x s given node link table asked way) now =
      let y = asked_live m r own input k now asked in inl (going_keeps m k.sessions x.live (λ root. absurd (asked_below m r own input k now quiet asked root)), (λ root. lasts_put m r own input k now x.live y.0 y.1))
  effect_on p quiet (steps.Goes_on {k = k} x from strength g link opened) now =
      let l : Live = (with_edge x (new_edge from link strength)).live in
      inl (going_keeps m k.sessions l (waits_elsewhere m r own input k now x g opened.live opened.going), (λ root. lasts_put m r own input k now l x.live (live_so k x.live.me x opened.live)))
  effect_on p quiet (steps.Hears_reply {k = k} x weight count a i e answered) now =
      let y : Branch = hears_reply x i weight count e in
      let g = going_of x answered.from answered.call i e answered.waits in
      let elsewhere : x.live.parent ≡ None → x.live.me.session ≢ m = waits_elsewhere m r own input k now x g.0 answered.live g.1 in
      let zs : List Session = heard_sessions k.sessions y.live a in
      let keeps = answered_keeps m zs y.live (heard_answer y.live e.link a) x.live.parent elsewhere in
      inl (record { quiet = keeps.quiet; same = keeps.same ∙ heard_same m k.sessions y.live a elsewhere }, (λ root. lasts_put m r own input k now y.live x.live (live_so k x.live.me x answered.live)))
  effect_on p quiet (steps.Backs {k = k} x step from i calls next) now =
      let y = calling_back_live calls in inl (going_keeps m k.sessions x.live (calling_elsewhere m r own input k now quiet calls), (λ root. lasts_put m r own input k now x.live y.0 y.1))
  effect_on p quiet (steps.Is_back {k = k} x step from calls none) now =
      let y = calling_back_live calls in inl (answered_keeps m k.sessions x.live _ x.live.parent (calling_elsewhere m r own input k now quiet calls), (λ root. lasts_put m r own input k now x.live y.0 y.1))
  effect_on p quiet (steps.Opens_branch {k = k} to parent edge root depth read_at came new) now =
      still m r own input k now (open_by p k parent edge root depth read_at None) refl refl (λ lasts. elim lasts [ inl living ↦ inl (any_more live_id k.lives r _ living) | inr row ↦ inr row ])
  effect_on p quiet (steps.Acts {k = k} l site_below a why) now = acts_so m r own input k now quiet l site_below a why
  effect_on p quiet (steps.Drops_told {k = k} l live told) now = still m r own input k now (drops k l []) refl refl (lasts_drop m r own input k now l.me (dropped k now l told))
  effect_on p quiet (steps.Drops_asked {k = k} l from live came parent) now =
      still m r own input k now (drops k l (post l.me from kinds.RolledBack)) refl refl (lasts_drop m r own input k now l.me (λ me. (let calm = now.calm from kinds.Ask (subst (λ c. Came input from c kinds.Ask) me came) in cc calm)))
  effect_on p quiet (steps.Does {k = k} s from n kept why) now = does_so k now s from n kept why
  effect_on p quiet (steps.Refuses n s r0 call) now = absurd (quiet.calls n s call)
  effect_on p quiet (steps.Completes_at_once n s d call is_done none) now = absurd (quiet.calls n _ call)
  effect_on p quiet (steps.Makes_record n s r0 d call makes) now = absurd (quiet.calls n _ call)
  effect_on p quiet (steps.Forces_given n id scn b call named) now = absurd (quiet.calls n _ call)
  effect_on p quiet (steps.Forces_commit n id b call named) now = absurd (quiet.calls n _ call)
  effect_on p quiet (steps.Forces_rollback n id b call named) now = absurd (quiet.calls n _ call)
  effect_on p quiet (steps.Hides n mixed id s call found) now = absurd (quiet.calls n _ call)
  effect_on p quiet (steps.Advises n a call) now = absurd (quiet.calls n _ call)
  effect_on p quiet (steps.Leaves n s d x call ends has live) now = absurd (quiet.calls n _ call)
  effect_on p quiet (steps.Sets_read_only n call) now = absurd (quiet.calls n _ call)
  effect_on p quiet (steps.Sets_savepoint n x name call has code live) now = absurd (quiet.calls n _ call)
  effect_on p quiet (steps.Images {k = k} is) now = still m r own input k now (images k) refl refl (lasts_write m r own input k now (records.Image (image_at k.stored k.clock)) tt)
  effect_on p quiet (steps.Gives_up n x gives has calls live) now = absurd (quiet.gives_up n gives)
  effect_on p quiet (steps.Gives_up_commit n b o gives has calls live) now = absurd (quiet.gives_up n gives)
