-- In every lawful run each Reply that is no refusal comes from a run, or says that its branch went back, and what is told of the calls of live
-- branches below roots is what nodes keep.
pub use Rattle.answer_origin_laws.proofs.ReplyStandLemmas.{taken_first, next_at, prefix, happens_at, moment_at, ran_there}
use Rattle.std.proofs.Common.{◌≡◌, ◌≢◌, ℕ, ◌⊎◌, [], Option, Some, None, inl, inr, subst, sym, append-nil}
use Rattle.tran_ids.proofs.ListedLemmas.{item_is}
use Rattle.node_rules.specs.Data.{Answer, BranchId, Live}
use Rattle.node_rules.specs.NodeState.{NodeState, live_at}
use Rattle.node_rules.specs.LiveBranches.{works_of}
use Rattle.run_rules.specs.Branches.{Run, Seen, seen_id, seen_at}
use Rattle.run_rules.specs.Facts.{node_at}
use Rattle.run_rules.specs.Lawful.{History, IsLawfulRun, facts_at}
use Rattle.run_claims.specs.Places.{RanAt}
use Rattle.tree_trail_laws.specs.ChildLaws.{trail_at}
use Rattle.tree_trail_laws.proofs.LowerRunLemmas.{lower_at}
use Rattle.answer_origin_laws.specs.LeadLaws.{AnsweredBy}
use Rattle.answer_origin_laws.specs.ReplyLaws.{WentBack, RepliesComeFromRuns, LowerCallsAreTraced}
use Rattle.answer_origin_laws.proofs.LeadLemmas.{replies_lead_to_runs, kept_answers_lead_to_runs, run_answers}

-- an answer that a call led to comes from a run
ran_so : (t : History) (o : Option Run) (b : BranchId) (call : ℕ) (a : Answer) → ((r : Run) × (o ≡ Some r) × AnsweredBy t b call a r) ⊎ WentBack t b call a → ((r : Run) × (o ≡ Some r) × RanAt t r a) ⊎ WentBack t b call a
ran_so t o b call a (inl ran) = inl (ran.0, ran.1, ran.2.ran)
ran_so t o b call a (inr back) = inr back

pub replies_come_from_runs : RepliesComeFromRuns
replies_come_from_runs t lawful number x at call weight count a reply good = ran_so t _ x.msg.from call a (replies_lead_to_runs t lawful number x at call weight count a reply good)

-- a live branch below a root is told
lower_now : (t : History) → IsLawfulRun t → (n : ℕ) (k : NodeState) → node_at (facts_at t) n ≡ Some k → (l : Live) → live_at k l.me ≡ Some l → l.parent ≢ None → (s : Seen) × (seen_at (trail_at t) l.me ≡ Some s)
lower_now t whole n k up l live below = let was = lower_at t whole t.trace (record { rest = []; is = append-nil t.trace }) n k up l live below in (was.0, was.1)

pub lower_calls_are_told : LowerCallsAreTraced
lower_calls_are_told t lawful n k up l live below =
    let seen = lower_now t lawful n k up l live below in
    let told = (run_answers t lawful).calls n k up l live below seen.0 seen.1 in
    let me : seen.0.me ≡ l.me = item_is seen_id (trail_at t).seen l.me seen.0 seen.1 in (
      seen.0,
      seen.1,
      record {
        taken = told.taken;
        kept = λ rf some good. subst (λ b. ((r : Run) × (seen.0.answer ≡ Some r) × RanAt t r rf.result) ⊎ WentBack t b (works_of k.works l.me).came.last_call rf.result) (sym me)
            (ran_so t seen.0.answer l.me (works_of k.works l.me).came.last_call rf.result (kept_answers_lead_to_runs t lawful n k up l live below seen.0 seen.1 rf some good));
      },
    )
