-- Messages of a turn that changes nothing leave it so: a gone branch tells of one branch, and the last Reply once more tells the same.
use Rattle.std.proofs.Common.{◌≡◌, ℕ, ◌+◌, ◌≤◌, Bool, true, false, List, ◌++◌, Option, Some, None, inl, inr, refl, sym, ap, subst, ◌∙◌, arith}
use Rattle.dtx_values.specs.Limits.{branch_limit}
use Rattle.tran_ids.proofs.BranchLemmas.{equal_from_same}
use Rattle.tran_ids.proofs.ListedLemmas.{item_is}
use Rattle.session_tree.specs.Tree.{count}
use Rattle.node_rules.specs.Data.{Task, BranchId, Live, Post, ReplyFields, Input}
use Rattle.node_rules.specs.Data.kinds
use Rattle.node_rules.specs.declared.work.Work.{Work}
use Rattle.node_rules.specs.Words.{same}
use Rattle.node_rules.specs.Inputs.{Came}
use Rattle.node_rules.specs.NodeState.{NodeState, Branch, live_id, live_at, branch_at}
use Rattle.node_rules.specs.Calls.{replies, gone_reply}
use Rattle.node_rules.specs.Recovery.{kept_told}
use Rattle.node_rules.proofs.Steps as steps
use Rattle.node_rules.proofs.Steps.{Says}
use Rattle.node_rules.specs.LiveBranches.{EachLive, works_of}
use Rattle.node_rules.proofs.LiveLemmas.{branch_parts}
use Rattle.run_base_laws.specs.InTurnLaws.{WaitsFor, call_at}
use Rattle.run_base_laws.proofs.KindSayLemmas.{AllSay, told_says, askings_say}
use Rattle.run_base_laws.proofs.CallTurnLemmas.{silent_other}
use Rattle.run_base_laws.proofs.InTurnLemmas as turns
use Rattle.run_ready_laws.proofs.SentLemmas.{sent_split, sent_more, room_of, GivesRoom, TellsCount, Told, base_old, AllFit, AllNew}
use Rattle.run_ready_laws.proofs.CountLemmas.{counts, spare, ParentFits, base_some, base_number}
use Rattle.run_ready_laws.proofs.CountStepLemmas as fits
use Rattle.run_ready_laws.proofs.CountStepLemmas.{fewer, IsQuiet, quiet_decisions, gone_live, some_going, CameFits}

-- the last Reply once more has its number, and tells the same
again_tells : (x : Branch) (to : BranchId) (t : ReplyFields) (q : BranchId) (j v : ℕ) → Told (replies x to t) x.live.me q j v → (j ≡ x.work.came.last_call) × (v ≡ t.count)
again_tells x to t q j v (inl here) = (sym here.2.0, sym here.2.1)
again_tells x to t q j v (inr none) = absurd none

module _ (E : BranchId → Option ℕ) (A : BranchId → Option BranchId) (G Here : BranchId → Type 0) (input : Input) (said : List Post) (received : turns.Received E A G Here input said) (all : AllFit said said) (came_fits : CameFits input said) where
  abbrev Begun : Live → Work → Type 0
  Begun = turns.Begun E A G Here input said

  abbrev Nodes : NodeState → Type 0
  Nodes k = EachLive Begun k.lives k.works

  abbrev Goes : Live → Type 0
  Goes l = l.parent ≡ None → G l.me

  abbrev Old : Live → Work → Type 0
  Old = fits.Old E A G Here input said received all came_fits

  abbrev pub Olds : NodeState → Type 0
  Olds k = EachLive Old k.lives k.works

  abbrev Then : List Post → Live → Work → Type 0
  Then = fits.Then E A G Here input said received all came_fits

  module _ (k : NodeState) (now : Olds k) where
    found_old : (x : Branch) → branch_at k x.live.me ≡ Some x → Old x.live x.work
    found_old x found = fits.found_old E A G Here input said received all came_fits k now x found

    -- ---- messages alone

    -- the Reply of a gone branch
    gone_says : (to from : BranchId) (call : ℕ) (task : Task) → Came input from to (kinds.Exec call task) → live_at k to ≡ None → EachLive (Then (gone_reply to from call)) k.lives k.works × AllNew said (gone_reply to from call)
    gone_says to from call task came none =
        let it = came_fits.exec from to call task came in
        let new : AllNew said (gone_reply to from call) = ((omega arith, omega arith, (room_of task, it.0, (λ v base. (let some : 1 ≤ v = base_some said all to from call v base in omega (arith, some))))), tt) in (
          fits.still E A G Here input said received all came_fits k now (gone_reply to from call) new (λ b y live. silent_other to from y.me _ (other b y live (same to y.me) refl)),
          new,
        )
      where
        other : (b : BranchId) (y : Live) → live_at k b ≡ Some y → (q : Bool) → same to y.me ≡ q → q ≡ false
        other b y live false is = refl
        other b y live true is =
            let here : to ≡ b = equal_from_same to y.me is ∙ item_is live_id k.lives b y live in
            let found : live_at k to ≡ Some y = subst (λ c. live_at k c ≡ Some y) (sym here) live in
            absurd (cc (found, none))

    -- the last Reply once more
    module _ (nodes : Nodes k) (x : Branch) (to : BranchId) (call : ℕ) (task : Task) (t : ReplyFields) (came : Came input to x.live.me (kinds.Exec call task)) (found : branch_at k x.live.me ≡ Some x)
        (last : x.work.came.last_call ≡ call) (kept : x.work.came.reply ≡ Some t) where
      abbrev says : List Post
      says = replies x to t

      was : Old x.live x.work
      was = found_old x found

      its_parent : x.live.parent ≡ Some to
      its_parent = (turns.branch_begun E A G Here input said received k nodes x found).above to (received.exec to x.live.me call task came).0

      is_count : t.count ≡ count x.live
      is_count = was.0.kept t kept

      some : 1 ≤ x.work.came.last_call
      some = let it = (came_fits.exec to x.live.me call task came).1 in let number : 1 ≤ call = base_number said x.live.me to call it.0 it.1 in omega (arith, number, last)

      new : AllNew said says
      new =
          let it = was.0.given to its_parent some in
          let one : 1 ≤ 1 + counts x.live.edges = omega arith in (
            (
              subst (λ n. 1 ≤ n) (sym is_count) one,
              subst (λ n. n ≤ branch_limit) (sym is_count) (fewer (count x.live) (spare x.live.parent (count x.live) x.work.going) branch_limit was.1.few),
              (it.0, it.1, (λ v base. subst (λ n. n ≤ v + it.0) (sym is_count) (fewer (count x.live) (spare x.live.parent (count x.live) x.work.going) (v + it.0) (it.2 v base)))),
            ),
            tt,
          )

      mine : Then says x.live x.work
      mine = (
        record {
          told = λ below some_call free q v tells. elim (sent_split (TellsCount x.work.came.last_call v) said says x.live.me q tells) [
            | inl old ↦ was.0.told below some_call free q v old
            | inr again ↦ (again_tells x to t q x.work.came.last_call v again).1 ∙ is_count
          ];
          kept = was.0.kept;
          zero_calls = was.0.zero_calls;
          given = λ q above some_call. (let it = was.0.given q above some_call in (
            it.0,
            sent_more (GivesRoom x.work.came.last_call it.0) said says q x.live.me it.1,
            (λ v base. it.2 v (base_old said says x.live.me q x.work.came.last_call v
                (λ j next low again. (let number : j ≡ x.work.came.last_call = (again_tells x to t q j v again).0 in absurd (omega (arith, number, next)))) base)),
          ));
        },
        parent_again,
      )
        where
          parent_again : ParentFits (said ++ says) (Goes x.live) x.live.me (count x.live) (spare x.live.parent (count x.live) x.work.going) x.live.edges x.work
          parent_again = record {
            held = λ goes i e at. elim (was.1.held goes i e at) [ inl waits ↦ inl waits | inr told ↦ inr (sent_more (TellsCount (call_at x.work i) e.count) said says e.peer x.live.me told) ];
            waits = λ i e at for. absurd (rests i for);
            called = was.1.called;
            few = was.1.few;
            opens = was.1.opens;
          }
            where
              rests : (i : ℕ) → WaitsFor i x.work.going → ⊥
              rests i for = let g = some_going i x.work.going for in
                  let answered : x.work.came.reply ≡ None = (turns.branch_begun E A G Here input said received k nodes x found).turn.answered (λ none. (let going : x.work.going ≡ Some g.0 = g.1 in absurd (cc (none, going)))) in
                  absurd (cc (answered, kept))

      again_says : EachLive (Then says) k.lives k.works × AllNew said says
      again_says = (record { there = now.there; each = λ b l live. by b l live (same x.live.me b) refl }, new)
        where
          parts : (live_at k x.live.me ≡ Some x.live) × (x.work ≡ works_of k.works x.live.me)
          parts = branch_parts k x.live.me x found

          by : (b : BranchId) (l : Live) → live_at k b ≡ Some l → (q : Bool) → same x.live.me b ≡ q → Then says l (works_of k.works b)
          by b l live true is =
              let me : x.live.me ≡ b = equal_from_same x.live.me b is in
              let it : Some x.live ≡ Some l = sym parts.0 ∙ (ap (λ c. live_at k c) me ∙ live) in
              let here : x.live ≡ l = cc in
              subst (λ c. Then says l (works_of k.works c)) me (subst (λ y. Then says y (works_of k.works x.live.me)) here (subst (λ w. Then says x.live w) parts.1 mine))
          by b l live false is =
              fits.stay E A G Here input said received all came_fits k now says new l (works_of k.works b)
              (silent_other x.live.me to l.me _ (subst (λ c. same x.live.me c ≡ false) (sym (item_is live_id k.lives b l live)) is)) (now.each b l live)

    quiet : (says : List Post) → AllSay IsQuiet says → EachLive (Then says) k.lives k.works × AllNew said says
    quiet says quiet_so = fits.quiet E A G Here input said received all came_fits k now says quiet_so

    pub says_fit : Nodes k → {says : List Post} → Says k input says → EachLive (Then says) k.lives k.works × AllNew said says
    says_fit nodes (steps.Gone_replies to from call task came gone) = gone_says to from call task came (gone_live k to gone)
    says_fit nodes (steps.Replies_again x to call task t came live last kept) = again_says nodes x to call task t came live last kept
    says_fit nodes (steps.Tells s from came kept) = quiet _ (told_says IsQuiet quiet_decisions (kept_told s from), tt)
    says_fit nodes (steps.Recovers reco) = quiet _ (askings_say IsQuiet quiet_decisions k)
    says_fit nodes (steps.Gone_aborts to from b comment came gone) = quiet _ (((refl, refl), (λ ms x y. tt)), tt)
    says_fit nodes (steps.Gone_rolls_back to from came gone) = quiet _ (((refl, refl), (λ ms x y. tt)), tt)
    says_fit nodes (steps.Gone_acks to from n came gone) = quiet _ (((refl, refl), (λ ms x y. tt)), tt)
    says_fit nodes (steps.Gone_forgets to from came gone) = quiet _ (((refl, refl), (λ ms x y. tt)), tt)
    says_fit nodes (steps.Opened_again to parent edge root depth read_at o came found) = quiet _ (((refl, refl), (λ ms x y. tt)), tt)
    says_fit nodes (steps.Prepared_again s from b comment came kept again) = quiet _ (((refl, refl), (λ ms x y. tt)), tt)
    says_fit nodes (steps.Knows_commit s from n came kept knows) = quiet _ (((refl, refl), (λ ms x y. tt)), tt)
    says_fit nodes (steps.Knows_rollback s from came kept knows) = quiet _ (((refl, refl), (λ ms x y. tt)), tt)
    says_fit nodes (steps.Is_in_doubt l from came live other) = quiet _ (((refl, refl), (λ ms x y. tt)), tt)
