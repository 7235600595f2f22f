-- Each step of a node leaves it true that live branches told their weights in their last Replies.
use Rattle.std.proofs.Common.{◌≡◌, ◌≢◌, ℕ, ◌+◌, ◌≤◌, ◌⊎◌, Bool, true, false, if◌then◌else◌, List, [], ◌∷◌, ◌++◌, map, length, max, Option, Some, None, inl, inr, refl, sym, ap, subst, ◌∙◌, arith}
use Rattle.std.proofs.lemmas.Bool.{cond_both}
use Rattle.tran_ids.proofs.BranchLemmas.{equal_from_same, same_from_equal}
use Rattle.tran_ids.proofs.ListedLemmas.{item_is}
use Rattle.commit_forget.specs.declared.next.Next.TheVariants as nexts
use Rattle.session_tree.specs.Live.{children_of, peer_of, new_edge, next_edge, fresh_live}
use Rattle.session_tree.specs.Tree.{place_of_greatest, weight_by, weight, step as step_from}
use Rattle.node_rules.specs.Data.{Answer, BranchId, Edge, Kind, Live, Act, Post, ReplyFields, Vote, Place, Input}
use Rattle.node_rules.specs.Data.acts
use Rattle.node_rules.specs.Data.kinds
use Rattle.node_rules.specs.declared.work.Errand.{Errand}
use Rattle.node_rules.specs.declared.work.Errand.TheVariants as errands
use Rattle.node_rules.specs.declared.session.Session.{Session}
use Rattle.node_rules.specs.declared.session.PendingCall.TheVariants as pending
use Rattle.node_rules.specs.declared.work.Work.{Work}
use Rattle.node_rules.specs.Words.{same, put_item, drop_item}
use Rattle.node_rules.specs.NodeState.{NodeState, Branch, TurnDraft, live_id, work_id, live_at, branch_at, post, to_one, to_each, no_work, with_work, kept_row_at}
use Rattle.node_rules.specs.Names.{passed_on}
use Rattle.node_rules.specs.Statement.{ran}
use Rattle.node_rules.specs.Calls.{reply_fields, kept_reply, with_answer, answer_says, called, exec_to, next_child, strength_of, with_edge, waits_for_opened, hears_reply, replies, nobody_at, branch_ran, less_room}
use Rattle.node_rules.specs.Client.{new_root, fresh_root, gives_up, marked}
use Rattle.node_rules.specs.Prepare.{path_of, site_neighbors, with_prepare_sent, has_voted, answers_first, ready, collecting, with_comment, voted, act_turn}
use Rattle.node_rules.specs.Commit.{beyond}
use Rattle.node_rules.specs.Recovery.{kept_told}
use Rattle.node_rules.specs.Turn.{Is_gone, live_or, status_of}
use Rattle.node_rules.proofs.Steps as steps
use Rattle.node_rules.proofs.Steps.{Step, Acting, Says}
use Rattle.node_rules.proofs.StandLemmas.{live_so}
use Rattle.node_rules.proofs.StepLemmas.{acting_so}
use Rattle.node_rules.specs.LiveBranches.{EachLive, works_of}
use Rattle.node_rules.proofs.LiveLemmas.{each_put, each_changed, each_left, each_begun, each_same, branch_parts, work_is}
use Rattle.run_base_laws.specs.InTurnLaws.{reply_number, newest_reply}
use Rattle.run_rules.proofs.ListLemmas.{all_append, map_after}
use Rattle.run_base_laws.proofs.RootLemmas.{SessionsFit, root_alone, pends_so, begun_so, counted_so, back_so}
use Rattle.run_base_laws.proofs.NeighborLemmas.{News}
use Rattle.run_base_laws.proofs.NeighborStepLemmas.{begun_news, pends_news, lets_news, acked_news, counted_news, back_news}
use Rattle.run_base_laws.proofs.KindSayLemmas.{OfDecisions, AllSay, one_says, each_says, prepares_say, told_says, passes_say, askings_say}
use Rattle.run_base_laws.proofs.InTurnLemmas as turns
use Rattle.run_base_laws.proofs.InTurnEdgeLemmas.{opened_free, heard_free, calling_free}
use Rattle.run_base_laws.proofs.InTurnStepLemmas as drafts
use Rattle.tree_laws.specs.WeightLaws.{TellsWeight, ToldWeight, TellsItsWeight}

-- ---- messages

pub told_split : (ms ns : List Post) (b : BranchId) (n : ℕ) (v : Option ℕ) → ToldWeight (ms ++ ns) b n v → ToldWeight ms b n v ⊎ ToldWeight ns b n v
told_split [] ns b n v is = inr is
told_split (m ∷ ms) ns b n v (inl here) = inl (inl here)
told_split (m ∷ ms) ns b n v (inr later) = elim (told_split ms ns b n v later) [ inl old ↦ inl (inr old) | inr new ↦ inr new ]

pub told_more : (ms ns : List Post) (b : BranchId) (n : ℕ) (v : Option ℕ) → ToldWeight ms b n v → ToldWeight (ms ++ ns) b n v
told_more (m ∷ ms) ns b n v (inl here) = inl here
told_more (m ∷ ms) ns b n v (inr later) = inr (told_more ms ns b n v later)
told_more [] ns b n v is = absurd is

low_first : (q : Bool) (call n rest : ℕ) → q ≡ true → call ≡ n → n ≤ (if q then max call rest else rest)
low_first true call n rest is at = omega (arith, at)
low_first false call n rest is at = absurd cc

low_later : (q : Bool) (call n rest : ℕ) → n ≤ rest → n ≤ (if q then max call rest else rest)
low_later true call n rest low = omega (arith, low)
low_later false call n rest low = low

-- a Reply that was told has no number above the newest
pub told_low : (ms : List Post) (b : BranchId) (n : ℕ) (v : Option ℕ) → ToldWeight ms b n v → n ≤ newest_reply ms b
told_low [] b n v is = absurd is
told_low (m ∷ ms) b n v (inl here) = by m.kind here.1
  where
    by : (kind : Kind) → TellsWeight n v kind → n ≤ (if same m.from b then max (reply_number kind) (newest_reply ms b) else newest_reply ms b)
    by (kinds.Reply call weight count a) tells = low_first (same m.from b) call n (newest_reply ms b) (same_from_equal m.from b here.0) tells.0
    by _ tells = absurd tells
told_low (m ∷ ms) b n v (inr later) = low_later (same m.from b) (reply_number m.kind) n (newest_reply ms b) (told_low ms b n v later)

-- it is no Reply
abbrev pub IsNoReply : Kind → Type 0
IsNoReply kind = (n : ℕ) (v : Option ℕ) → TellsWeight n v kind → ⊥

pub no_reply_decisions : OfDecisions IsNoReply
no_reply_decisions = record { committed = λ m n v is. is; rolled_back = λ n v is. is; rollback = λ n v is. is; in_doubt = λ n v is. is; ack = λ n v is. is; forgotten = λ n v is. is; ask = λ n v is. is }

-- these tell no weight
abbrev Silent : List Post → BranchId → Type 0
Silent says b = (n : ℕ) (v : Option ℕ) → ToldWeight says b n v → ⊥

no_reply : (says : List Post) (b : BranchId) → AllSay IsNoReply says → Silent says b
no_reply [] b all n v is = is
no_reply (m ∷ ms) b all n v (inl here) = all.0 n v here.1
no_reply (m ∷ ms) b all n v (inr later) = no_reply ms b all.1 n v later

other_silent : (a to b : BranchId) (kind : Kind) → same a b ≡ false → Silent (post a to kind) b
other_silent a to b kind other n v (inl here) = (let yes : same a b ≡ true = same_from_equal a b here.0 in absurd (cc (yes, other)))
other_silent a to b kind other n v (inr none) = none

-- a gone branch is not live
gone_by : (k : NodeState) (b : BranchId) (o : Option Live) → live_at k b ≡ o → live_or (with_work k o) (kept_row_at k b) ≡ Is_gone → o ≡ None
gone_by k b None is gone = refl
gone_by k b (Some l) is gone = absurd cc

gone_live : (k : NodeState) (b : BranchId) → status_of k b ≡ Is_gone → live_at k b ≡ None
unfolding status_of
gone_live k b gone = gone_by k b (live_at k b) refl gone

-- ---- weights

pub collected_weight : (l : Live) (comment : List ℕ) (b : Bool) → weight (collecting (with_comment l comment) b) ≡ weight l
unfolding weight
collected_weight l comment b = ap (λ ws. weight_by l.changed l.strength (place_of_greatest 1 ws None)) (map_after (λ (e : Edge). e.weight) with_prepare_sent (λ (e : Edge). e.weight) (λ e. refl) l.edges)

pub voted_weight : (l : Live) (from : BranchId) (v : Vote) → weight (voted l from v) ≡ weight l
unfolding weight
voted_weight l from v =
    ap (λ ws. weight_by l.changed l.strength (place_of_greatest 1 ws None))
    (map_after (λ (e : Edge). e.weight) (has_voted from v) (λ (e : Edge). e.weight) (λ e. cond_both (answers_first from e) (record e { vote = v }) e (λ y. y.weight ≡ e.weight) (λ here. refl) (λ other. refl)) l.edges)

ready_weight : (l : Live) → weight (ready l) ≡ weight l
unfolding weight
ready_weight l = refl

fresh_weight : (me root : BranchId) (parent : Option BranchId) (depth strength : ℕ) (read_at : Option ℕ) → weight (fresh_live me root parent depth strength read_at) ≡ None
unfolding weight
fresh_weight me root parent depth strength read_at = refl

-- ---- branches

abbrev Weighs : List Post → Live → Work → Type 0
Weighs said l w = TellsItsWeight said l.me l.parent (weight l) w

stays_weighing : (said says : List Post) (l : Live) (w : Work) → Silent says l.me → Weighs said l w → Weighs (said ++ says) l w
stays_weighing said says l w silent is = record {
  told = λ below some none v tells. elim (told_split said says l.me w.came.last_call v tells) [ inl old ↦ is.told below some none v old | inr new ↦ absurd (silent w.came.last_call v new) ];
  kept = is.kept;
  zero_calls = is.zero_calls;
}

-- one that waits
waits_weighing : (said : List Post) (l : Live) (w : Work) → w.going ≢ None → w.came.reply ≡ None → (l.parent ≢ None → 1 ≤ w.came.last_call) → Weighs said l w
waits_weighing said l w going unanswered calls = record {
  told = λ below some none. absurd (going none);
  kept = λ t is. absurd (cc (unanswered, is));
  zero_calls = λ below none. (let some : 1 ≤ w.came.last_call = calls below in absurd (omega (arith, some, none)));
}

-- one that answers
answers_weighing : (said : List Post) (x : Branch) (a : Answer) → x.work.came.reply ≡ None → (x.live.parent ≢ None → newest_reply said x.live.me + 1 ≤ x.work.came.last_call)
    → TellsItsWeight (said ++ answer_says x a x.live.parent) x.live.me x.live.parent (weight x.live) (with_answer x a).work
answers_weighing said x a unanswered owes = record {
  told = λ below some none v tells. elim (told_split said (answer_says x a x.live.parent) x.live.me x.work.came.last_call v tells) [
    | inl old ↦ (let low : x.work.came.last_call ≤ newest_reply said x.live.me = told_low said x.live.me x.work.came.last_call v old in
        let owed : newest_reply said x.live.me + 1 ≤ x.work.came.last_call = owes below in
        absurd (omega (arith, low, owed)))
    | inr new ↦ own x.live.parent v new
  ];
  kept = λ t is. kept_so x.live.parent t is;
  zero_calls = λ below none. (let owed : newest_reply said x.live.me + 1 ≤ x.work.came.last_call = owes below in absurd (omega (arith, owed, none)));
}
  where
    own : (o : Option BranchId) (v : Option ℕ) → ToldWeight (answer_says x a o) x.live.me x.work.came.last_call v → v ≡ weight x.live
    own None v is = absurd is
    own (Some q) v (inl here) = sym here.1.1
    own (Some q) v (inr none) = absurd none

    kept_so : (o : Option BranchId) (t : ReplyFields) → kept_reply x a o ≡ Some t → t.weight ≡ weight x.live
    kept_so None t is = absurd (cc (unanswered, is))
    kept_so (Some q) t is = let it : Some (reply_fields x.live a) ≡ Some t = is in let here : reply_fields x.live a ≡ t = cc in sym (ap (λ (y : ReplyFields). y.weight) here)

module _ (E : BranchId → Option ℕ) (A : BranchId → Option BranchId) (G Here : BranchId → Type 0) (input : Input) (said : List Post) (received : turns.Received E A G Here input said) where
  abbrev Nodes : NodeState → Type 0
  Nodes k = EachLive (turns.Begun E A G Here input said) k.lives k.works

  abbrev pub Tolds : NodeState → Type 0
  Tolds k = EachLive (Weighs said) k.lives k.works

  abbrev pub Then : List Post → Live → Work → Type 0
  Then says l w = Weighs (said ++ says) l w

  -- what a step leaves
  abbrev pub Leaves : TurnDraft → Type 0
  Leaves d = EachLive (Then d.says) d.after.lives d.after.works

  module _ (k : NodeState) (now : Tolds k) where
    still : (says : List Post) → ((b : BranchId) (y : Live) → live_at k b ≡ Some y → Silent says y.me) → EachLive (Then says) k.lives k.works
    still says silent = each_same (Weighs said) (Then says) k.lives k.works now (λ y v live any is. stays_weighing said says y v (silent y.me y live) is)

    quiet : (says : List Post) → AllSay IsNoReply says → EachLive (Then says) k.lives k.works
    quiet says none = still says (λ b y live. no_reply says y.me none)

    left : (b : BranchId) (says : List Post) → AllSay IsNoReply says → EachLive (Then says) (drop_item live_id k.lives b) (drop_item work_id k.works b)
    left b says none = each_left (Weighs said) (Then says) k.lives k.works now b (λ y v live other is. stays_weighing said says y v (no_reply says y.me none) is)

    put : (says : List Post) (l : Live) (w : Work) → w.branch ≡ l.me → ((b : BranchId) → same l.me b ≡ false → Silent says b) → Then says l w → EachLive (Then says) (put_item live_id k.lives l) (put_item work_id k.works w)
    put says l w mine silent is = each_put (Weighs said) (Then says) k.lives k.works now l w mine is (λ y v live other so. stays_weighing said says y v (silent y.me other) so)

    begun : (says : List Post) → AllSay IsNoReply says → (l : Live) → Then says l (no_work l.me) → EachLive (Then says) (k.lives ++ l ∷ []) k.works
    begun says none l is = each_begun (Weighs said) (Then says) k.lives k.works now l is (λ y v live any so. stays_weighing said says y v (no_reply says y.me none) so)

    -- ---- statements

    answer_silent : (x : Branch) (a : Answer) (o : Option BranchId) (b : BranchId) → same x.live.me b ≡ false → Silent (answer_says x a o) b
    answer_silent x a None b other n v is = is
    answer_silent x a (Some parent) b other n v is = other_silent x.live.me parent b (kinds.Reply x.work.came.last_call (reply_fields x.live a).weight (reply_fields x.live a).count (reply_fields x.live a).result) other n v is

    exec_none : (ss : List Session) (x : Branch) (i : ℕ) (e : Errand) (o : Option BranchId) → AllSay IsNoReply (exec_to ss x i e o)
    exec_none ss x i e None = tt
    exec_none ss x i e (Some c) = ((λ n v is. is), tt)

    answers : (x : Branch) (a : Answer) → x.work.branch ≡ x.live.me → turns.FreeOf E A G Here input said x → EachLive (Then (answer_says x a x.live.parent)) (put_item live_id k.lives x.live) (put_item work_id k.works (with_answer x a).work)
    answers x a mine free = put (answer_says x a x.live.parent) x.live (with_answer x a).work mine (λ b other. answer_silent x a x.live.parent b other) (answers_weighing said x a free.unanswered free.owes)

    owes_calls : (x : Branch) → turns.FreeOf E A G Here input said x → x.live.parent ≢ None → 1 ≤ x.work.came.last_call
    owes_calls x free below = (let owed : newest_reply said x.live.me + 1 ≤ x.work.came.last_call = free.owes below in omega (arith, owed))

    calls : (ss : List Session) (x : Branch) (i : ℕ) (e : Errand) → x.work.branch ≡ x.live.me → turns.FreeOf E A G Here input said x
        → EachLive (Then (exec_to ss x i e (peer_of x.live i))) (put_item live_id k.lives x.live) (put_item work_id k.works (called ss x i e).work)
    calls ss x i e mine free =
        let none = exec_none ss x i e (peer_of x.live i) in
        put (exec_to ss x i e (peer_of x.live i)) x.live (called ss x i e).work mine (λ b other. no_reply _ b none) (waits_weighing _ x.live (called ss x i e).work (λ is. absurd cc) free.unanswered (owes_calls x free))

    -- ---- acts

    acting : {l : Live} {b : Bool} {a : Act} → Acting k input l b a → Weighs said l (works_of k.works l.me)
    acting why =
        acting_so (λ l. Weighs said l (works_of k.works l.me))
        (λ l comment b is. subst (λ wt. TellsItsWeight said l.me l.parent wt (works_of k.works l.me)) (sym (collected_weight l comment b)) is)
        (λ l from v is. subst (λ wt. TellsItsWeight said l.me l.parent wt (works_of k.works l.me)) (sym (voted_weight l from v)) is)
        (λ b l found. subst (λ m. Weighs said l (works_of k.works m)) (sym (item_is live_id k.lives b l found)) (now.each b l found)) why

    stays : (l : Live) (says : List Post) → AllSay IsNoReply says → Weighs said l (works_of k.works l.me) → EachLive (Then says) (put_item live_id k.lives l) k.works
    stays l says none is =
        each_changed (Weighs said) (Then says) k.lives k.works now l (stays_weighing said says l (works_of k.works l.me) (no_reply says l.me none) is) (λ y v live other so. stays_weighing said says y v (no_reply says y.me none) so)

    acts_tell : {l : Live} {b : Bool} (a : Act) → Acting k input l b a → Leaves (act_turn k l b a)
    acts_tell {l = l} acts.Rest why = stays l [] tt (acting why)
    acts_tell {l = l} {b = b} acts.AskDown why = stays l _ (prepares_say IsNoReply (λ q c n v is. is) l.me l.comment (path_of b (step_from l)) 1 l.edges) (acting why)
    acts_tell {l = l} acts.SayReady why =
        stays (ready l) _ (one_says IsNoReply l.me kinds.Ready l.parent (λ n v is. is)) (subst (λ wt. TellsItsWeight said l.me l.parent wt (works_of k.works l.me)) (sym (ready_weight l)) (acting why))
    acts_tell {l = l} acts.SayReadOnly why = left l.me _ (one_says IsNoReply l.me kinds.ReadOnly l.parent (λ n v is. is))
    acts_tell {l = l} acts.Seal why = left l.me _ (one_says IsNoReply l.me kinds.Prepared l.parent (λ n v is. is))
    acts_tell {l = l} (acts.SealAndPass i) why = left l.me _ (one_says IsNoReply l.me kinds.CommitPoint (peer_of l i) (λ n v is. is))
    acts_tell {l = l} acts.Decide why = left l.me _ (each_says IsNoReply l.me (kinds.Committed (k.clock + 1)) (site_neighbors l) (λ n v is. is))
    acts_tell {l = l} acts.Finish why = left l.me [] tt
    acts_tell {l = l} acts.Abandon why =
        left l.me _ (all_append (λ x. IsNoReply x.kind) (to_one l.me kinds.Abort l.parent) _ (one_says IsNoReply l.me kinds.Abort l.parent (λ n v is. is)) (each_says IsNoReply l.me kinds.Rollback (children_of l) (λ n v is. is)))

    -- ---- messages alone

    gone_says : (to from : BranchId) (kind : Kind) → live_at k to ≡ None → EachLive (Then (post to from kind)) k.lives k.works
    gone_says to from kind none = still (post to from kind) (λ b y live. other_silent to from y.me kind (other b y live (same to y.me) refl))
      where
        other : (b : BranchId) (y : Live) → live_at k b ≡ Some y → (q : Bool) → same to y.me ≡ q → q ≡ false
        other b y live false is = refl
        other b y live true is =
            let here : to ≡ b = equal_from_same to y.me is ∙ item_is live_id k.lives b y live in
            let found : live_at k to ≡ Some y = subst (λ c. live_at k c ≡ Some y) (sym here) live in
            absurd (cc (found, none))

    -- the last Reply once more tells the same
    again_says : (x : Branch) (to : BranchId) (t : ReplyFields) → branch_at k x.live.me ≡ Some x → x.work.came.reply ≡ Some t → EachLive (Then (replies x to t)) k.lives k.works
    again_says x to t found kept = record { there = now.there; each = λ b l live. by b l live (same x.live.me b) refl }
      where
        parts : (live_at k x.live.me ≡ Some x.live) × (x.work ≡ works_of k.works x.live.me)
        parts = branch_parts k x.live.me x found

        was : Weighs said x.live x.work
        was = subst (Weighs said x.live) (sym parts.1) (now.each x.live.me x.live parts.0)

        own : (v : Option ℕ) → ToldWeight (replies x to t) x.live.me x.work.came.last_call v → v ≡ weight x.live
        own v (inl here) = sym here.1.1 ∙ was.kept t kept
        own v (inr none) = absurd none

        mine : Weighs (said ++ replies x to t) x.live x.work
        mine = record {
          told = λ below some none v tells. elim (told_split said (replies x to t) x.live.me x.work.came.last_call v tells) [ inl old ↦ was.told below some none v old | inr new ↦ own v new ];
          kept = was.kept;
          zero_calls = was.zero_calls;
        }

        by : (b : BranchId) (l : Live) → live_at k b ≡ Some l → (q : Bool) → same x.live.me b ≡ q → Weighs (said ++ replies x to t) l (works_of k.works b)
        by b l live true is =
            let me : x.live.me ≡ b = equal_from_same x.live.me b is in
            let it : Some x.live ≡ Some l = sym parts.0 ∙ (ap (λ c. live_at k c) me ∙ live) in
            let here : x.live ≡ l = cc in
            subst (λ c. Weighs (said ++ replies x to t) l (works_of k.works c)) me (subst (λ y. Weighs (said ++ replies x to t) y (works_of k.works x.live.me)) here (subst (λ w. Weighs (said ++ replies x to t) x.live w) parts.1 mine))
        by b l live false is =
            stays_weighing said (replies x to t) l (works_of k.works b) (other_silent x.live.me to l.me (kinds.Reply x.work.came.last_call t.weight t.count t.result) (subst (λ c. same x.live.me c ≡ false) (sym (item_is live_id k.lives b l live)) is)) (now.each b l live)

    says_tell : {says : List Post} → Says k input says → EachLive (Then says) k.lives k.works
    says_tell (steps.Gone_replies to from call task came gone) = gone_says to from _ (gone_live k to gone)
    says_tell (steps.Replies_again x to call task t came live last kept) = again_says x to t live kept
    says_tell (steps.Tells s from came kept) = quiet _ (told_says IsNoReply no_reply_decisions (kept_told s from), tt)
    says_tell (steps.Recovers reco) = quiet _ (askings_say IsNoReply no_reply_decisions k)
    says_tell (steps.Gone_aborts to from b comment came gone) = quiet _ ((λ n v is. is), tt)
    says_tell (steps.Gone_rolls_back to from came gone) = quiet _ ((λ n v is. is), tt)
    says_tell (steps.Gone_acks to from n came gone) = quiet _ ((λ n v is. is), tt)
    says_tell (steps.Gone_forgets to from came gone) = quiet _ ((λ n v is. is), tt)
    says_tell (steps.Opened_again to parent edge root depth read_at o came found) = quiet _ ((λ n v is. is), tt)
    says_tell (steps.Prepared_again s from b comment came kept again) = quiet _ ((λ n v is. is), tt)
    says_tell (steps.Knows_commit s from n came kept knows) = quiet _ ((λ n v is. is), tt)
    says_tell (steps.Knows_rollback s from came kept knows) = quiet _ ((λ n v is. is), tt)
    says_tell (steps.Is_in_doubt l from came live other) = quiet _ ((λ n v is. is), tt)

  -- ---- every step

  rolled : (l : Live) → AllSay IsNoReply (to_each l.me kinds.Rollback (children_of l))
  rolled l = each_says IsNoReply l.me kinds.Rollback (children_of l) (λ n v is. is)

  -- a branch that begins has no weight, and told none
  begins_weighing : (says : List Post) (l : Live) (w : Work) → w.came.last_call ≡ 0 → w.came.reply ≡ None → weight l ≡ None → Weighs says l w
  begins_weighing says l w last reply none = record {
    told = λ below some free v tells. absurd (omega (arith, some, last));
    kept = λ t is. absurd (cc (reply, is));
    zero_calls = λ below zero_so. none;
  }

  module _ (p : Place) (place : (b : BranchId) → b.node ≡ p.number → Here b) where
    pub tolds_on : {k : NodeState} {d : TurnDraft} → Step p input k d → SessionsFit k → News (drafts.NewBorn E A G Here input said received) p input k → Nodes k → Tolds k → Leaves d
    tolds_on (steps.Begins {k = k} n s read_at call begins range none step) ss news nodes now =
        let root = news.root n s read_at call begins none in
        tolds_on step (begun_so k ss p n read_at) (begun_news (drafts.NewBorn E A G Here input said received) p input k n read_at news)
        (drafts.begins_so E A G Here input said received k nodes (fresh_root p k (new_root p k n) read_at) refl (place (new_root p k n) refl) root)
        (each_begun (Weighs said) (Weighs said) k.lives k.works now (fresh_root p k (new_root p k n) read_at) (begins_weighing said (fresh_root p k (new_root p k n) read_at) (no_work (new_root p k n)) refl refl (fresh_weight _ _ _ _ _ _)) (λ y v live any is. is))
    tolds_on (steps.Counts_call {k = k} n s call counts step) ss news nodes now = tolds_on step (counted_so k ss n) (counted_news (drafts.NewBorn E A G Here input said received) p input k n news) nodes now
    tolds_on (steps.Goes_back {k = k} x step goes next) ss news nodes now = tolds_on next (back_so k ss x step) (back_news (drafts.NewBorn E A G Here input said received) p input k x step news) nodes now
    tolds_on (steps.Pends {k = k} n l given call has live code writer step) ss news nodes now = tolds_on step (pends_so k ss n pending.Commit) (pends_news (drafts.NewBorn E A G Here input said received) p input k n given call news) nodes now
    tolds_on (steps.Lets_reads_go {k = k} l comment b live begins step) ss news nodes now = tolds_on step (record { roots = ss.roots; above = ss.above }) (lets_news (drafts.NewBorn E A G Here input said received) p input k l.me news) nodes now
    tolds_on (steps.Counts_ack {k = k} s from kept came counts step) ss news nodes now = tolds_on step (record { roots = ss.roots; above = ss.above }) (acked_news (drafts.NewBorn E A G Here input said received) p input k _ news) nodes now
    tolds_on (steps.Sends {k = k} posts why) ss news nodes now = says_tell k now why
    tolds_on (steps.Runs {k = k} x s given t asked way) ss news nodes now =
        let free : turns.FreeOf E A G Here input said x = turns.asked_free E A G Here input said received k ss nodes asked in
        let y : Branch = branch_ran k.sessions x t (ran p k x.live.me s t) in
        put k now (answer_says y _ x.live.parent) y.live (with_answer y _).work (drafts.asked_mine E A G Here input said received k asked) (λ b other. answer_silent k now y _ x.live.parent b other)
        (answers_weighing said y _ free.unanswered free.owes)
    tolds_on (steps.Goes_nowhere {k = k} x s given r asked way) ss news nodes now = answers k now x _ (drafts.asked_mine E A G Here input said received k asked) (turns.asked_free E A G Here input said received k ss nodes asked)
    tolds_on (steps.Calls {k = k} x s given i table asked way) ss news nodes now =
        calls k now k.sessions x i (errands.Statement (passed_on s table) given) (drafts.asked_mine E A G Here input said received k asked) (turns.asked_free E A G Here input said received k ss nodes asked)
    tolds_on (steps.Opens {k = k} x s given node link table asked way) ss news nodes now =
        let free : turns.FreeOf E A G Here input said x = turns.asked_free E A G Here input said received k ss nodes asked in
        let says : List Post = post x.live.me (nobody_at node) (kinds.Open (next_edge x.live) x.live.root (x.live.depth + 1) x.live.read_at) in
        put k now says x.live (waits_for_opened x link (passed_on s table) given).work (drafts.asked_mine E A G Here input said received k asked) (λ b other. no_reply says b ((λ n v is. is), tt))
        (waits_weighing (said ++ says) x.live (waits_for_opened x link (passed_on s table) given).work (λ is. absurd cc) free.unanswered (owes_calls k now x free))
    tolds_on (steps.Goes_on {k = k} x from strength g link opened) ss news nodes now =
        calls k now k.sessions (with_edge x (new_edge from link strength)) (length x.live.edges + 1) (less_room g.errand) (work_is k x.live.me x opened.live) (opened_free E A G Here input said received k nodes x from strength g link opened)
    tolds_on (steps.Hears_reply {k = k} x weight count a i e answered) ss news nodes now =
        answers k now (hears_reply x i weight count e) _ (work_is k x.live.me x answered.live) (heard_free E A G Here input said received k nodes x weight count a i e answered)
    tolds_on (steps.Backs {k = k} x step from i calling next) ss news nodes now =
        calls k now k.sessions x i (errands.GoBack step) (drafts.calling_mine E A G Here input said received k calling) (calling_free E A G Here input said received k ss nodes calling)
    tolds_on (steps.Is_back {k = k} x step from calling none) ss news nodes now =
        answers k now x _ (drafts.calling_mine E A G Here input said received k calling) (calling_free E A G Here input said received k ss nodes calling)
    tolds_on (steps.Opens_branch {k = k} to parent edge root depth read_at came new) ss news nodes now =
        begun k now (post (next_child p k) parent (kinds.Opened edge (strength_of p k))) ((λ n v is. is), tt) (fresh_live (next_child p k) root (Some parent) depth (strength_of p k) read_at)
        (begins_weighing _ (fresh_live (next_child p k) root (Some parent) depth (strength_of p k) read_at) (no_work (next_child p k)) refl refl (fresh_weight _ _ _ _ _ _))
    tolds_on (steps.Acts {k = k} l b a why) ss news nodes now = acts_tell k now a why
    tolds_on (steps.Drops_told {k = k} l live drops) ss news nodes now = left k now l.me _ (rolled l)
    tolds_on (steps.Drops_asked {k = k} l from live came parent) ss news nodes now = left k now l.me _ ((λ n v is. is), rolled l)
    tolds_on (steps.Does {k = k} s from (nexts.End d) kept why) ss news nodes now = quiet k now _ (passes_say IsNoReply no_reply_decisions s d)
    tolds_on (steps.Does {k = k} s from (nexts.Meet d mixed) kept why) ss news nodes now = quiet k now _ (passes_say IsNoReply no_reply_decisions s d)
    tolds_on (steps.Does {k = k} s from nexts.AckToward kept why) ss news nodes now = quiet k now _ (one_says IsNoReply s.me kinds.Ack s.toward (λ n v is. is))
    tolds_on (steps.Does {k = k} s from nexts.Forget kept why) ss news nodes now = quiet k now _ (each_says IsNoReply s.me kinds.Forgotten (map (λ b. b.branch) (beyond s)) (λ n v is. is))
    tolds_on (steps.Does {k = k} s from nexts.SayForgotten kept why) ss news nodes now = quiet k now _ ((λ n v is. is), tt)
    tolds_on (steps.Does {k = k} s from nexts.SayAck kept why) ss news nodes now = quiet k now _ ((λ n v is. is), tt)
    tolds_on (steps.Leaves {k = k} n s d x call ends has live) ss news nodes now = left k now x.live.me _ (rolled x.live)
    tolds_on (steps.Sets_savepoint {k = k} n x name call has code live) ss news nodes now =
        let parts = branch_parts k x.live.me x live in
        let was : Weighs said x.live x.work = subst (Weighs said x.live) (sym parts.1) (now.each x.live.me x.live parts.0) in
        let so : Weighs (said ++ []) x.live x.work = stays_weighing said [] x.live x.work (λ n v is. is) was in
        put k now [] x.live (marked k.sessions x name).work (work_is k x.live.me x live) (λ b other n v is. is) (record { told = so.told; kept = so.kept; zero_calls = so.zero_calls })
    tolds_on (steps.Gives_up {k = k} n x gives has calls live) ss news nodes now =
        let parts = branch_parts k x.live.me x live in
        let was : Weighs said x.live x.work = subst (Weighs said x.live) (sym parts.1) (now.each x.live.me x.live parts.0) in
        let root : x.live.parent ≡ None = root_alone k ss n x.live.me has x.live (live_so k x.live.me x live) in
        put k now [] x.live (gives_up x).work (work_is k x.live.me x live) (λ b other n v is. is)
        (record { told = λ below some none. absurd (below root); kept = was.kept; zero_calls = λ below. absurd (below root) })
    tolds_on (steps.Gives_up_commit {k = k} n b (Some l) gives has calls live) ss news nodes now = left k now l.me _ (rolled l)
    tolds_on {k = k} _ ss news nodes now = quiet k now [] tt
