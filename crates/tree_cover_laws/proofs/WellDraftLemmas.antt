-- What an answer, a call over an edge, and messages alone leave of what branches hold of their children's weights.
use Rattle.std.proofs.Common.{◌≡◌, ◌≢◌, ℕ, ◌+◌, ◌<◌, ◌≤◌, ◌⊎◌, ◌&&◌, Bool, true, false, if◌then◌else◌, List, [], ◌∷◌, ◌++◌, map, max, Option, Some, None, inl, inr, refl, sym, ap, subst, subst₂, ◌∙◌, arith}
use Rattle.std.specs.Prelude.{nat_lt}
use Rattle.std.proofs.lemmas.Bool.{and_parts}
use Rattle.std.proofs.lemmas.Bool.Decides.{nat_tests}
use Rattle.tran_ids.proofs.BranchLemmas.{equal_from_same}
use Rattle.tran_ids.proofs.ListedLemmas.{item_is, put_found}
use Rattle.session_tree.specs.Live.{children_of, peer_of}
use Rattle.node_rules.specs.Data.{Answer, BranchId, Edge, Live, Post, ReplyFields, Input}
use Rattle.node_rules.specs.Data.answers
use Rattle.node_rules.specs.Data.kinds
use Rattle.node_rules.specs.declared.work.Errand.{Errand}
use Rattle.node_rules.specs.declared.session.Session.{Session}
use Rattle.node_rules.specs.declared.work.Work.{Work}
use Rattle.node_rules.specs.Words.{same, numbered, item_at, put_item, drop_item}
use Rattle.node_rules.specs.Refusals.{dtx}
use Rattle.node_rules.specs.NodeState.{NodeState, Branch, TurnDraft, live_id, work_id, live_at, branch_at, post, no_work}
use Rattle.node_rules.specs.Calls.{task_for, reply_fields, kept_reply, with_answer, answer_says, called, exec_to, next_call, replies, is_gone}
use Rattle.node_rules.specs.Recovery.{kept_told}
use Rattle.node_rules.proofs.Steps as steps
use Rattle.node_rules.proofs.Steps.{Says}
use Rattle.node_rules.specs.LiveBranches.{EachLive, works_of}
use Rattle.node_rules.proofs.LiveLemmas.{each_put, each_left, each_begun, each_same, branch_parts}
use Rattle.run_base_laws.specs.InTurnLaws.{newest_exec, newest_reply, WaitsFor, call_at}
use Rattle.run_base_laws.proofs.KindSayLemmas.{AllSay, told_says, askings_say}
use Rattle.run_base_laws.proofs.CallTurnLemmas.{exec_more, one_exec}
use Rattle.run_base_laws.proofs.InTurnLemmas as turns
use Rattle.run_base_laws.proofs.InTurnLemmas.{numbered_map}
use Rattle.run_base_laws.proofs.TurnEventLemmas.{cases_nat}
use Rattle.tree_laws.proofs.HoldLemmas.{none_here}
use Rattle.tree_cover_laws.specs.GoneLaws.{ToldWell, HasGone, HoldsWell, CallsWell}
use Rattle.tree_cover_laws.proofs.WellLemmas.{well_split, well_more, well_low, IsIdle, idle_decisions, QuietOf, idle_quiet, other_quiet, NoExec, idle_execs, calls_stay, stays_well, Well, WellBut, called_well}
use Rattle.tree_laws.proofs.HoldLemmas.{numbered_back}

module _ (E : BranchId → Option ℕ) (A : BranchId → Option BranchId) (G Here : BranchId → Type 0) (input : Input) (said : List Post) (received : turns.Received E A G Here input said) where
  abbrev pub Begun : Live → Work → Type 0
  Begun = turns.Begun E A G Here input said

  abbrev pub Nodes : NodeState → Type 0
  Nodes k = EachLive Begun k.lives k.works

  abbrev pub FreeOf : Branch → Type 0
  FreeOf = turns.FreeOf E A G Here input said

  abbrev pub Goes : Live → Type 0
  Goes l = l.parent ≡ None → G l.me

  abbrev pub Old : Live → Work → Type 0
  Old l w = HoldsWell said (Goes l) l.me l.edges w

  abbrev pub Olds : NodeState → Type 0
  Olds k = EachLive Old k.lives k.works

  abbrev pub Then : List Post → Live → Work → Type 0
  Then says l w = HoldsWell (said ++ says) (Goes l) l.me l.edges w

  -- no branch but these answers
  abbrev pub Alone : List Live → List Post → Type 0
  Alone ls says = (b : BranchId) → item_at live_id ls b ≡ None → QuietOf says b

  abbrev pub All : List Post → List Live → List Work → Type 0
  All says ls ws = EachLive (Then says) ls ws × CallsWell (said ++ says) × Alone ls says

  -- what a step leaves
  abbrev pub Leaves : TurnDraft → Type 0
  Leaves d = All d.says d.after.lives d.after.works

  -- a branch that begins
  pub fresh_well : (says : List Post) (l : Live) (w : Work) → l.edges ≡ [] → w.came.reply ≡ None → HoldsWell says (Goes l) l.me l.edges w
  fresh_well says l w none unanswered = record {
    held = λ goes i e at. absurd (none_here i e (subst (λ (es : List Edge). numbered es i ≡ Some e) none at));
    kept = λ gone v tells. (let some = gone.1 in absurd (cc (some, unanswered)));
    first = λ last. unanswered;
  }

  -- edges with the same children and weights
  pub mapped : (f : Edge → Edge) → ((e : Edge) → ((f e).peer ≡ e.peer) × ((f e).weight ≡ e.weight)) → (l : Live) (w : Work) → Old l w → HoldsWell said (Goes l) l.me (map f l.edges) w
  mapped f same_so l w is = record {
    held = λ goes i y at. (let b = numbered_back f l.edges i y at in subst (λ (z : Edge). WaitsFor i w.going ⊎ (ToldWell said z.peer (call_at w i) z.weight ⊎ HasGone w)) b.2
        (elim (is.held goes i b.0 b.1) [
          | inl waits ↦ inl waits
          | inr told ↦ elim told [ inl well ↦ inr (inl (subst₂ (λ c v. ToldWell said c (call_at w i) v) (sym (same_so b.0).0) (sym (same_so b.0).1) well)) | inr gone ↦ inr (inr gone) ]
        ]));
    kept = is.kept;
    first = is.first;
  }

  -- ---- what becomes of the branches

  module _ (k : NodeState) (calls : CallsWell said) (now : Olds k) where
    pub stay : (says : List Post) (y : Live) (v : Work) → QuietOf says y.me → Old y v → Then says y v
    stay says y v quiet is = stays_well said says (Goes y) y.me y.edges v quiet is

    pub quiet : (says : List Post) → AllSay IsIdle says → All says k.lives k.works
    quiet says idle = (each_same Old (Then says) k.lives k.works now (λ y v live any is. stay says y v (idle_quiet says y.me idle) is), calls_stay said says (idle_execs says idle) calls, (λ b none. idle_quiet says b idle))

    pub left : (b : BranchId) (says : List Post) → AllSay IsIdle says → All says (drop_item live_id k.lives b) (drop_item work_id k.works b)
    left b says idle = (each_left Old (Then says) k.lives k.works now b (λ y v live other is. stay says y v (idle_quiet says y.me idle) is), calls_stay said says (idle_execs says idle) calls, (λ b none. idle_quiet says b idle))

    pub begun : (says : List Post) → AllSay IsIdle says → (l : Live) → l.edges ≡ [] → All says (k.lives ++ l ∷ []) k.works
    begun says idle l none =
        (each_begun Old (Then says) k.lives k.works now l (fresh_well (said ++ says) l (no_work l.me) none refl) (λ y v live any is. stay says y v (idle_quiet says y.me idle) is), calls_stay said says (idle_execs says idle) calls, (λ b none. idle_quiet says b idle))

    pub put : (says : List Post) (l : Live) (w : Work) → w.branch ≡ l.me → ((b : BranchId) → same l.me b ≡ false → QuietOf says b) → Then says l w → EachLive (Then says) (put_item live_id k.lives l) (put_item work_id k.works w)
    put says l w mine others is = each_put Old (Then says) k.lives k.works now l w mine is (λ y v live other so. stay says y v (others y.me other) so)

    -- another branch than one that is there
    there_apart : (ls : List Live) (l : Live) → item_at live_id ls l.me ≡ Some l → (b : BranchId) → item_at live_id ls b ≡ None → same l.me b ≡ false
    there_apart ls l there b none = by (same l.me b) refl
      where
        by : (q : Bool) → same l.me b ≡ q → q ≡ false
        by false is = refl
        by true is = (let at : item_at live_id ls b ≡ Some l = subst (λ c. item_at live_id ls c ≡ Some l) (equal_from_same l.me b is) there in absurd (cc (at, none)))

    put_apart : (l : Live) (b : BranchId) → item_at live_id (put_item live_id k.lives l) b ≡ None → same l.me b ≡ false
    put_apart l b none = there_apart (put_item live_id k.lives l) l (put_found live_id k.lives l) b none

    -- ---- a branch answers

    answer_quiet : (x : Branch) (a : Answer) (o : Option BranchId) (b : BranchId) → same x.live.me b ≡ false → QuietOf (answer_says x a o) b
    answer_quiet x a None b other n v is = is
    answer_quiet x a (Some parent) b other n v is = other_quiet x.live.me parent b (kinds.Reply x.work.came.last_call (reply_fields x.live a).weight (reply_fields x.live a).count (reply_fields x.live a).result) other n v is

    answer_execs : (x : Branch) (a : Answer) (o : Option BranchId) → NoExec (answer_says x a o)
    answer_execs x a None b c = refl
    answer_execs x a (Some parent) b c = by (same x.live.me b && same parent c)
      where
        by : (q : Bool) → (if q then max 0 0 else 0) ≡ 0
        by true = refl
        by false = refl

    pub answers_by : (x : Branch) (a : Answer) → x.work.branch ≡ x.live.me → FreeOf x
        → (Goes x.live → (j : ℕ) (e : Edge) → numbered x.live.edges j ≡ Some e → ToldWell (said ++ answer_says x a x.live.parent) e.peer (call_at x.work j) e.weight ⊎ HasGone (with_answer x a).work)
        → All (answer_says x a x.live.parent) (put_item live_id k.lives x.live) (put_item work_id k.works (with_answer x a).work)
    answers_by x a mine free held = (
      put (answer_says x a x.live.parent) x.live (with_answer x a).work mine (λ b other. answer_quiet x a x.live.parent b other) (record {
        held = λ goes j e at. inr (held goes j e at);
        kept = λ gone v tells. kept_so x.live.parent refl gone v tells;
        first = λ last. first_so x.live.parent refl last;
      }),
      calls_stay said (answer_says x a x.live.parent) (answer_execs x a x.live.parent) calls,
      (λ b none. answer_quiet x a x.live.parent b (put_apart x.live b none)),
    )
      where
        kept_so : (o : Option BranchId) → x.live.parent ≡ o → (t : ReplyFields) × (kept_reply x a o ≡ Some t) × (is_gone t.result ≡ true) → (v : Option ℕ) → ToldWell (said ++ answer_says x a o) x.live.me x.work.came.last_call v → ⊥
        kept_so None top gone v tells = (let some = gone.1 in let none = free.unanswered in absurd (cc (some, none)))
        kept_so (Some q) above gone v tells = elim (well_split said (answer_says x a (Some q)) x.live.me x.work.came.last_call v tells) [
          | inl old ↦ (let low : x.work.came.last_call ≤ newest_reply said x.live.me = well_low said x.live.me x.work.came.last_call v old in
              let owed : newest_reply said x.live.me + 1 ≤ x.work.came.last_call = free.owes (λ none. absurd (cc (none, above))) in
              absurd (omega (arith, low, owed)))
          | inr new ↦ own new
        ]
          where
            own : ToldWell (answer_says x a (Some q)) x.live.me x.work.came.last_call v → ⊥
            own (inl here) =
                let both : Some (reply_fields x.live a) ≡ Some gone.0 = gone.1 in
                let it : reply_fields x.live a ≡ gone.0 = cc in
                let yes : is_gone a ≡ true = ap (λ (t : ReplyFields). is_gone t.result) it ∙ gone.2 in
                let no : is_gone a ≡ false = here.1.2 in
                absurd (cc (yes, no))
            own (inr none) = none

        first_so : (o : Option BranchId) → x.live.parent ≡ o → x.work.came.last_call ≡ 0 → kept_reply x a o ≡ None
        first_so None top last = free.unanswered
        first_so (Some q) above last = (let owed : newest_reply said x.live.me + 1 ≤ x.work.came.last_call = free.owes (λ none. absurd (cc (none, above))) in absurd (omega (arith, owed, last)))

    -- one that was told well by all its children
    pub answers_well : (x : Branch) (a : Answer) → x.work.branch ≡ x.live.me → FreeOf x → Well said (Goes x.live) x
        → All (answer_says x a x.live.parent) (put_item live_id k.lives x.live) (put_item work_id k.works (with_answer x a).work)
    answers_well x a mine free told = answers_by x a mine free (λ goes j e at. inl (well_more said (answer_says x a x.live.parent) e.peer (call_at x.work j) e.weight (told goes j e at)))

    -- ---- a branch calls a child

    exec_quiet : (ss : List Session) (x : Branch) (i : ℕ) (e : Errand) (o : Option BranchId) (b : BranchId) → QuietOf (exec_to ss x i e o) b
    exec_quiet ss x i e None b n v is = is
    exec_quiet ss x i e (Some c) b n v (inl here) = here.1
    exec_quiet ss x i e (Some c) b n v (inr none) = none

    exec_call : (ss : List Session) (x : Branch) (i : ℕ) (e : Errand) → FreeOf x → ((c : BranchId) → numbered (children_of x.live) i ≡ Some c → 1 ≤ call_at x.work i → (v : Option ℕ) × ToldWell said c (call_at x.work i) v)
        → (c : BranchId) → numbered (children_of x.live) i ≡ Some c → (p d : BranchId) (n : ℕ) → 1 ≤ n → n + 1 ≤ newest_exec (said ++ exec_to ss x i e (Some c)) p d → (v : Option ℕ) × ToldWell (said ++ exec_to ss x i e (Some c)) d n v
    exec_call ss x i e free told c at p d n some low = by (same x.live.me p && same c d) refl
      where
        says : List Post
        says = exec_to ss x i e (Some c)

        new : (q : Bool) → (same x.live.me p && same c d) ≡ q → newest_exec says p d ≡ (if q then next_call x.work i else 0)
        new q is = one_exec x.live.me c p d (kinds.Exec (next_call x.work i) (task_for ss x i e)) ∙ ap (λ w. if w then next_call x.work i else 0) is

        old : n + 1 ≤ newest_exec said p d → (v : Option ℕ) × ToldWell (said ++ says) d n v
        old it = (let is = calls p d n some it in (is.0, well_more said says d n is.0 is.1))

        by : (q : Bool) → (same x.live.me p && same c d) ≡ q → (v : Option ℕ) × ToldWell (said ++ says) d n v
        by false other = (let none : newest_exec says p d ≡ 0 = new false other in old (omega (arith, low, exec_more said says p d, none)))
        by true here =
            let parts = and_parts (same x.live.me p) (same c d) here in
            let from : x.live.me ≡ p = equal_from_same x.live.me p parts.0 in
            let to : c ≡ d = equal_from_same c d parts.1 in
            let one : newest_exec says p d ≡ call_at x.work i + 1 = new true here in
            let made : newest_exec said p d ≡ call_at x.work i = subst (λ e. newest_exec said p e ≡ call_at x.work i) to (subst (λ b. newest_exec said b c ≡ call_at x.work i) from (free.made i c at)) in
            let few : n ≤ call_at x.work i = omega (arith, low, exec_more said says p d, one, made) in
            elim (cases_nat n (call_at x.work i)) [
              | inl last ↦ (let it = told c at (omega (arith, some, last)) in (it.0, well_more said says d n it.0 (subst (λ m. ToldWell said d m it.0) (sym last) (subst (λ e. ToldWell said e (call_at x.work i) it.0) to it.1))))
              | inr other ↦ old (less n (call_at x.work i) (newest_exec said p d) other few made)
            ]
          where
            less : (a b m : ℕ) → a ≢ b → a ≤ b → m ≡ b → a + 1 ≤ m
            less a b m other few is = lt (nat_lt a b) refl
              where
                lt : (q : Bool) → nat_lt a b ≡ q → a + 1 ≤ m
                lt true it = (let under : a < b = grind (arith, nat_tests, it) in omega (arith, under, is))
                lt false it = (let same_number : a ≡ b = grind (arith, nat_tests, it, few) in absurd (other same_number))

    exec_calls : (ss : List Session) (x : Branch) (i : ℕ) (e : Errand) → FreeOf x → ((c : BranchId) → numbered (children_of x.live) i ≡ Some c → 1 ≤ call_at x.work i → (v : Option ℕ) × ToldWell said c (call_at x.work i) v)
        → (o : Option BranchId) → numbered (children_of x.live) i ≡ o → CallsWell (said ++ exec_to ss x i e o)
    exec_calls ss x i e free told None at = calls_stay said [] (λ a b. refl) calls
    exec_calls ss x i e free told (Some c) at = λ p d n some low. exec_call ss x i e free told c at p d n some low

    pub calls_over : (ss : List Session) (x : Branch) (i : ℕ) (e : Errand) → x.work.branch ≡ x.live.me → FreeOf x → WellBut said (Goes x.live) x i
        → ((c : BranchId) → numbered (children_of x.live) i ≡ Some c → 1 ≤ call_at x.work i → (v : Option ℕ) × ToldWell said c (call_at x.work i) v)
        → All (exec_to ss x i e (peer_of x.live i)) (put_item live_id k.lives x.live) (put_item work_id k.works (called ss x i e).work)
    calls_over ss x i e mine free told last = (
      put (exec_to ss x i e (peer_of x.live i)) x.live (called ss x i e).work mine (λ b other. exec_quiet ss x i e (peer_of x.live i) b) (record {
        held = called_well said (Goes x.live) x ss (exec_to ss x i e (peer_of x.live i)) i e told;
        kept = λ gone v tells. (let some = gone.1 in let none = free.unanswered in absurd (cc (some, none)));
        first = λ zero_calls. free.unanswered;
      }),
      exec_calls ss x i e free last (peer_of x.live i) (numbered_map x.live.edges i),
      (λ b none. exec_quiet ss x i e (peer_of x.live i) b),
    )

    -- ---- messages alone

    still : (says : List Post) → NoExec says → ((b : BranchId) → QuietOf says b) → All says k.lives k.works
    still says none quiet_all = (each_same Old (Then says) k.lives k.works now (λ y v live any is. stay says y v (quiet_all y.me) is), calls_stay said says none calls, (λ b gone. quiet_all b))

    reply_execs : (a to : BranchId) (n : ℕ) (v : Option ℕ) (count : ℕ) (r : Answer) → NoExec (post a to (kinds.Reply n v count r))
    reply_execs a to n v count r b c = by (same a b && same to c)
      where
        by : (q : Bool) → (if q then max 0 0 else 0) ≡ 0
        by true = refl
        by false = refl

    -- the refusal of a gone branch
    gone_quiet : (to from : BranchId) (call : ℕ) (b : BranchId) → QuietOf (post to from (kinds.Reply call None 1 (answers.Refused (dtx 8 [])))) b
    gone_quiet to from call b n v (inl here) = (let no : is_gone (answers.Refused (dtx 8 [])) ≡ false = here.1.2 in absurd cc)
    gone_quiet to from call b n v (inr none) = none

    -- the last Reply once more
    again_says : (x : Branch) (to : BranchId) (t : ReplyFields) → branch_at k x.live.me ≡ Some x → x.work.came.reply ≡ Some t → All (replies x to t) k.lives k.works
    again_says x to t found kept = (
      record { there = now.there; each = λ b l live. by b l live (same x.live.me b) refl },
      calls_stay said (replies x to t) (reply_execs x.live.me to x.work.came.last_call t.weight t.count t.result) calls,
      (λ b none. other_quiet x.live.me to b (kinds.Reply x.work.came.last_call t.weight t.count t.result) (there_apart k.lives x.live parts.0 b none)),
    )
      where
        parts : (live_at k x.live.me ≡ Some x.live) × (x.work ≡ works_of k.works x.live.me)
        parts = branch_parts k x.live.me x found

        was : Old x.live x.work
        was = subst (Old x.live) (sym parts.1) (now.each x.live.me x.live parts.0)

        own : HasGone x.work → (v : Option ℕ) → ToldWell (replies x to t) x.live.me x.work.came.last_call v → ⊥
        own gone v (inl here) =
            let both : Some t ≡ Some gone.0 = sym kept ∙ gone.1 in
            let it : t ≡ gone.0 = cc in
            let yes : is_gone t.result ≡ true = ap (λ (y : ReplyFields). is_gone y.result) it ∙ gone.2 in
            let no : is_gone t.result ≡ false = here.1.2 in
            absurd (cc (yes, no))
        own gone v (inr none) = none

        mine : Then (replies x to t) x.live x.work
        mine = record {
          held = λ goes i e at. elim (was.held goes i e at) [
            | inl waits ↦ inl waits
            | inr told ↦ elim told [ inl well ↦ inr (inl (well_more said (replies x to t) e.peer (call_at x.work i) e.weight well)) | inr gone ↦ inr (inr gone) ]
          ];
          kept = λ gone v tells. elim (well_split said (replies x to t) x.live.me x.work.came.last_call v tells) [ inl old ↦ was.kept gone v old | inr new ↦ own gone v new ];
          first = was.first;
        }

        by : (b : BranchId) (l : Live) → live_at k b ≡ Some l → (q : Bool) → same x.live.me b ≡ q → Then (replies x to t) l (works_of k.works b)
        by b l live true is =
            let me : x.live.me ≡ b = equal_from_same x.live.me b is in
            let it : Some x.live ≡ Some l = sym parts.0 ∙ (ap (λ c. live_at k c) me ∙ live) in
            let here : x.live ≡ l = cc in
            subst (λ c. Then (replies x to t) l (works_of k.works c)) me (subst (λ y. Then (replies x to t) y (works_of k.works x.live.me)) here (subst (λ w. Then (replies x to t) x.live w) parts.1 mine))
        by b l live false is =
            stay (replies x to t) l (works_of k.works b) (other_quiet x.live.me to l.me (kinds.Reply x.work.came.last_call t.weight t.count t.result) (subst (λ c. same x.live.me c ≡ false) (sym (item_is live_id k.lives b l live)) is)) (now.each b l live)

    pub says_well : {says : List Post} → Says k input says → All says k.lives k.works
    says_well (steps.Gone_replies to from call task came gone) = still _ (reply_execs to from call None 1 (answers.Refused (dtx 8 []))) (λ b. gone_quiet to from call b)
    says_well (steps.Replies_again x to call task t came live last kept) = again_says x to t live kept
    says_well (steps.Tells s from came kept) = quiet _ (told_says IsIdle idle_decisions (kept_told s from), tt)
    says_well (steps.Recovers reco) = quiet _ (askings_say IsIdle idle_decisions k)
    says_well (steps.Gone_aborts to from b comment came gone) = quiet _ (((λ n v is. is), refl), tt)
    says_well (steps.Gone_rolls_back to from came gone) = quiet _ (((λ n v is. is), refl), tt)
    says_well (steps.Gone_acks to from n came gone) = quiet _ (((λ n v is. is), refl), tt)
    says_well (steps.Gone_forgets to from came gone) = quiet _ (((λ n v is. is), refl), tt)
    says_well (steps.Opened_again to parent edge root depth read_at o came found) = quiet _ (((λ n v is. is), refl), tt)
    says_well (steps.Prepared_again s from b comment came kept again) = quiet _ (((λ n v is. is), refl), tt)
    says_well (steps.Knows_commit s from n came kept knows) = quiet _ (((λ n v is. is), refl), tt)
    says_well (steps.Knows_rollback s from came kept knows) = quiet _ (((λ n v is. is), refl), tt)
    says_well (steps.Is_in_doubt l from came live other) = quiet _ (((λ n v is. is), refl), tt)
