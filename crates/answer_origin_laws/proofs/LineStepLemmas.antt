-- Each step of a node leaves its live branches leading where their statements were sent.
use Rattle.std.proofs.Common.{◌≡◌, ℕ, ◌+◌, Bool, List, [], ◌++◌, map, Option, Some, None, refl, sym, ap, subst, ◌∙◌}
use Rattle.std.proofs.lemmas.Bool.{cond_both}
use Rattle.tran_ids.proofs.ListedLemmas.{item_is, put_found}
use Rattle.commit_forget.specs.declared.next.Next.TheVariants as nexts
use Rattle.session_tree.specs.Live.{children_of, peer_of, fresh_live}
use Rattle.session_tree.specs.Tree.{step as step_from}
use Rattle.node_rules.specs.Data.{Stmt, BranchId, Durable, Live, Act, Place, Input, Post}
use Rattle.node_rules.specs.Data.acts
use Rattle.node_rules.specs.Data.answers
use Rattle.node_rules.specs.Data.dones
use Rattle.node_rules.specs.Data.kinds
use Rattle.node_rules.specs.declared.session.PendingCall.TheVariants as pending
use Rattle.node_rules.specs.declared.work.Work.{Work}
use Rattle.node_rules.specs.Words.{put_item, drop_item}
use Rattle.node_rules.specs.Refusals.{dtx}
use Rattle.node_rules.specs.NodeState.{NodeState, Branch, TurnDraft, live_id, work_id, no_work, post, to_one, to_each}
use Rattle.node_rules.specs.LiveBranches.{works_of}
use Rattle.node_rules.specs.Sessions.{session_at, with_call, needs_rollback}
use Rattle.node_rules.specs.Statement.{ran, answer_of_run}
use Rattle.node_rules.specs.Calls.{branch_ran, next_child, strength_of}
use Rattle.node_rules.specs.Client.{new_root, fresh_root, marked, gives_up}
use Rattle.node_rules.specs.Commit.{beyond}
use Rattle.node_rules.specs.Prepare.{path_of, site_neighbors, has_voted, with_prepare_sent, ready, answers_first, act_turn}
use Rattle.node_rules.specs.Recovery.{kept_told}
use Rattle.node_rules.proofs.LiveLemmas.{each_begun, work_is}
use Rattle.node_rules.proofs.StandLemmas.{live_so}
use Rattle.node_rules.proofs.StepLemmas.{acting_so}
use Rattle.node_rules.proofs.Steps as steps
use Rattle.node_rules.proofs.Steps.{Step, Acting, Says}
use Rattle.run_rules.specs.Births.{Born}
use Rattle.run_base_laws.proofs.InTurnEdgeLemmas.{calling_free}
use Rattle.run_base_laws.proofs.InTurnLemmas as turns
use Rattle.run_base_laws.proofs.InTurnLemmas.{peer}
use Rattle.run_base_laws.proofs.InTurnStepLemmas.{NewBorn, Granted, begins_so}
use Rattle.run_base_laws.proofs.KindSayLemmas.{OfDecisions, AllSay, one_says, each_says, prepares_say, told_says, passes_say, askings_say}
use Rattle.run_rules.proofs.ListLemmas.{all_append}
use Rattle.run_base_laws.proofs.NeighborLemmas.{News}
use Rattle.run_base_laws.proofs.NeighborStepLemmas.{begun_news, counted_news, back_news, pends_news, lets_news, acked_news}
use Rattle.run_base_laws.proofs.RootLemmas.{SessionsFit, root_alone, begun_so, counted_so, back_so, pends_so}
use Rattle.answer_origin_laws.proofs.LineKeepLemmas.{pends_code, given_code, mapped_alike, same_alike, alike_line}
use Rattle.answer_origin_laws.proofs.LineLemmas.{goes_over, goes_through, IsCalm, calm_quiet, more}
use Rattle.answer_origin_laws.proofs.NameLemmas.{OneCatalog}
use Rattle.answer_origin_laws.proofs.LineBranchLemmas as base
use Rattle.answer_origin_laws.proofs.LineCallLemmas.{over_line, through_line, backs_line, opened_line, heard_line}

calm_decisions : OfDecisions IsCalm
calm_decisions = record { committed = λ n. refl; rolled_back = refl; rollback = refl; in_doubt = refl; ack = refl; forgotten = refl; ask = refl }

rolls : (l : Live) → AllSay IsCalm (to_each l.me kinds.Rollback (children_of l))
rolls l = each_says IsCalm l.me kinds.Rollback (children_of l) refl

module _ (E : BranchId → Option ℕ) (A : BranchId → Option BranchId) (G Here : BranchId → Type 0) (input : Input) (said : List Post) (received : turns.Received E A G Here input said)
    (p : Place) (D : Durable) (Given : BranchId → ℕ → Option Stmt → Type 0) (Called : BranchId → BranchId → ℕ → ℕ → Stmt → Stmt → Type 0) where
  abbrev Fresh : Born → Type 0
  Fresh = base.Fresh E A G Here input said received p D Given Called

  abbrev Nodes : NodeState → Type 0
  Nodes = base.Nodes E A G Here input said received p D Given Called

  abbrev LineOf : List Post → Live → Work → Type 0
  LineOf = base.LineOf E A G Here input said received p D Given Called

  abbrev Lines : List Post → NodeState → Type 0
  Lines = base.Lines E A G Here input said received p D Given Called

  abbrev LeavesSo : List Live → List Work → List Post → Type 0
  LeavesSo = base.LeavesSo E A G Here input said received p D Given Called

  abbrev Leaves : TurnDraft → Type 0
  Leaves = base.Leaves E A G Here input said received p D Given Called

  module _ (known : base.Known E A G Here input said received p D Given Called) where
    module _ (k : NodeState) (now : Nodes k) (lines : Lines said k) where
      calm : (says : List Post) → AllSay IsCalm says → LeavesSo k.lives k.works says
      calm = base.calm E A G Here input said received p D Given Called known k now lines

      changed : (says : List Post) → AllSay IsCalm says → (l : Live) → LineOf said l (works_of k.works l.me) → LeavesSo (put_item live_id k.lives l) k.works says
      changed = base.changed E A G Here input said received p D Given Called known k now lines

      left : (says : List Post) → AllSay IsCalm says → (b : BranchId) → LeavesSo (drop_item live_id k.lives b) (drop_item work_id k.works b) says
      left = base.left E A G Here input said received p D Given Called known k now lines

      -- ---- acts of the prepare phase

      acting_line : {l : Live} {q : Bool} {a : Act} → Acting k input l q a → LineOf said l (works_of k.works l.me)
      acting_line why =
          acting_so (λ l. LineOf said l (works_of k.works l.me))
          (λ l comment q is. alike_line p D Given Called said (turns.Goes E A G Here input said l) l.me l.edges (map with_prepare_sent l.edges) (works_of k.works l.me) (mapped_alike with_prepare_sent (λ e. refl) (λ e. refl) l.edges) is)
          (λ l from v is. alike_line p D Given Called said (turns.Goes E A G Here input said l) l.me l.edges (map (has_voted from v) l.edges) (works_of k.works l.me)
          (mapped_alike (has_voted from v) (λ e. cond_both (answers_first from e) (record e { vote = v }) e (λ y. y.peer ≡ e.peer) (λ here. refl) (λ other. refl)) (λ e. cond_both (answers_first from e) (record e { vote = v }) e (λ y. y.link ≡ e.link) (λ here. refl) (λ other. refl)) l.edges) is)
          (λ b l found. subst (λ c. LineOf said l (works_of k.works c)) (sym (item_is live_id k.lives b l found)) (lines.each b l found)) why

      acts_line : (l : Live) (q : Bool) (a : Act) → LineOf said l (works_of k.works l.me) → Leaves (act_turn k l q a)
      acts_line l q acts.Rest is = changed [] tt l is
      acts_line l q acts.AskDown is = changed _ (prepares_say IsCalm (λ b comment. refl) l.me l.comment (path_of q (step_from l)) 1 l.edges) l is
      acts_line l q acts.SayReady is = changed _ (one_says IsCalm l.me kinds.Ready l.parent refl) (ready l) is
      acts_line l q acts.SayReadOnly is = left _ (one_says IsCalm l.me kinds.ReadOnly l.parent refl) l.me
      acts_line l q acts.Seal is = left _ (one_says IsCalm l.me kinds.Prepared l.parent refl) l.me
      acts_line l q (acts.SealAndPass i) is = left _ (one_says IsCalm l.me kinds.CommitPoint (peer_of l i) refl) l.me
      acts_line l q acts.Decide is = left _ (each_says IsCalm l.me (kinds.Committed (k.clock + 1)) (site_neighbors l) refl) l.me
      acts_line l q acts.Finish is = left [] tt l.me
      acts_line l q acts.Abandon is = left _ (all_append (λ x. IsCalm x.kind) (to_one l.me kinds.Abort l.parent) _ (one_says IsCalm l.me kinds.Abort l.parent refl) (rolls l)) l.me

      says_line : {says : List Post} → Says k input says → LeavesSo k.lives k.works says
      says_line (steps.Gone_replies to from call task came gone) = calm _ (refl, tt)
      says_line (steps.Replies_again x to call task t came live last kept) = calm _ (refl, tt)
      says_line (steps.Tells s from came kept) = calm _ (told_says IsCalm calm_decisions (kept_told s from), tt)
      says_line (steps.Recovers reco) = calm _ (askings_say IsCalm calm_decisions k)
      says_line (steps.Gone_aborts to from q comment came gone) = calm _ (refl, tt)
      says_line (steps.Gone_rolls_back to from came gone) = calm _ (refl, tt)
      says_line (steps.Gone_acks to from n came gone) = calm _ (refl, tt)
      says_line (steps.Gone_forgets to from came gone) = calm _ (refl, tt)
      says_line (steps.Opened_again to parent edge root depth read_at o came found) = calm _ (refl, tt)
      says_line (steps.Prepared_again s from q comment came kept again) = calm _ (refl, tt)
      says_line (steps.Knows_commit s from n came kept knows) = calm _ (refl, tt)
      says_line (steps.Knows_rollback s from came kept knows) = calm _ (refl, tt)
      says_line (steps.Is_in_doubt l from came live other) = calm _ (refl, tt)

    -- ---- every step

    module _ (place : (b : BranchId) → b.node ≡ p.number → Here b) where
      first_news : {k : NodeState} → News Fresh p input k → News (NewBorn E A G Here input said received) p input k
      first_news news = record { root = λ n s read_at call begins none. (news.root n s read_at call begins none).0; child = λ to parent edge root depth read_at came new. (news.child to parent edge root depth read_at came new).0 }

      pub lines_on : {k : NodeState} {d : TurnDraft} → Step p input k d → Granted E A G Here input said received d → SessionsFit k → News Fresh p input k → OneCatalog k.stored.durable D → Nodes k → Lines said k → Leaves d
      lines_on (steps.Begins {k = k} n s read_at call begins range none step) granted ss news cat now lines =
          lines_on step granted (begun_so k ss p n read_at) (begun_news Fresh p input k n read_at news) cat
          (begins_so E A G Here input said received k now (fresh_root p k (new_root p k n) read_at) refl (place (new_root p k n) refl) (news.root n s read_at call begins none).0)
          (each_begun (LineOf said) (LineOf said) k.lives k.works lines (fresh_root p k (new_root p k n) read_at) (base.fresh_line E A G Here input said received p D Given Called (fresh_root p k (new_root p k n) read_at) (no_work (new_root p k n)) refl refl (news.root n s read_at call begins none).1) (λ y v live any is. is))
      lines_on (steps.Counts_call {k = k} n s call counts step) granted ss news cat now lines = lines_on step granted (counted_so k ss n) (counted_news Fresh p input k n news) cat now lines
      lines_on (steps.Goes_back {k = k} x step goes next) granted ss news cat now lines = lines_on next granted (back_so k ss x step) (back_news Fresh p input k x step news) cat now lines
      lines_on (steps.Pends {k = k} n l given call has live code writer step) granted ss news cat now lines = lines_on step granted (pends_so k ss n pending.Commit) (pends_news Fresh p input k n given call news) cat now lines
      lines_on (steps.Lets_reads_go {k = k} l comment q live begins step) granted ss news cat now lines = lines_on step granted (record { roots = ss.roots; above = ss.above }) (lets_news Fresh p input k l.me news) cat now lines
      lines_on (steps.Counts_ack {k = k} s from kept came counts step) granted ss news cat now lines =
          lines_on step granted (record { roots = ss.roots; above = ss.above }) (acked_news Fresh p input k _ news) (record { tables = cat.tables; links = cat.links; synonyms = cat.synonyms }) now lines
      lines_on (steps.Sends {k = k} posts why) granted ss news cat now lines = says_line k now lines why
      lines_on (steps.Runs {k = k} x s given t ask way) granted ss news cat now lines =
          let z : Branch = branch_ran k.sessions x t (ran p k x.live.me s t) in
          let so = base.asked_so E A G Here input said received p D Given Called known k now lines ss ask in
          base.answered_line E A G Here input said received p D Given Called known k now lines x z (answer_of_run (ran p k x.live.me s t)) refl refl (same_alike x.live.edges) so.mine (ap (more p D Given Called) so.rests) so.line
      lines_on (steps.Goes_nowhere {k = k} x s given r ask way) granted ss news cat now lines =
          let so = base.asked_so E A G Here input said received p D Given Called known k now lines ss ask in
          base.answered_line E A G Here input said received p D Given Called known k now lines x x (answers.Refused r) refl refl (same_alike x.live.edges) so.mine (ap (more p D Given Called) so.rests) so.line
      lines_on (steps.Calls {k = k} x s given i table ask way) granted ss news cat now lines =
          over_line E A G Here input said received p D Given Called known k now lines cat x s given i table (base.asked_so E A G Here input said received p D Given Called known k now lines ss ask) (goes_over p k.stored.durable x.live given s i table way)
      lines_on (steps.Opens {k = k} x s given node link table ask way) granted ss news cat now lines =
          through_line E A G Here input said received p D Given Called known k now lines cat x s given node link table (base.asked_so E A G Here input said received p D Given Called known k now lines ss ask)
          (base.asked_goes E A G Here input said received p D Given Called known k now lines ss ask (λ root none. granted.grants x.live.me x.live (put_found live_id k.lives x.live) root (pends_code k.sessions x.live x.live.me.session ∙ none))) (goes_through p k.stored.durable x.live given s node link table way)
      lines_on (steps.Goes_on {k = k} x from strength g link opened) granted ss news cat now lines = opened_line E A G Here input said received p D Given Called known k now lines x from strength g link opened
      lines_on (steps.Hears_reply {k = k} x weight count a i e answered) granted ss news cat now lines = heard_line E A G Here input said received p D Given Called known k now lines x weight count a i e answered
      lines_on (steps.Backs {k = k} x step from i calls next) granted ss news cat now lines =
          backs_line E A G Here input said received p D Given Called known k now lines x i step (base.calling_so E A G Here input said received p D Given Called known k now lines ss calls) (calling_free E A G Here input said received k ss now calls)
      lines_on (steps.Is_back {k = k} x step from calls none) granted ss news cat now lines =
          let so = base.calling_so E A G Here input said received p D Given Called known k now lines ss calls in
          base.answered_line E A G Here input said received p D Given Called known k now lines x x (answers.Did dones.RolledBack 0) refl refl (same_alike x.live.edges) so.mine so.still so.line
      lines_on (steps.Opens_branch {k = k} to parent edge root depth read_at came new) granted ss news cat now lines =
          let l : Live = fresh_live (next_child p k) root (Some parent) depth (strength_of p k) read_at in
          let says : List Post = post (next_child p k) parent (kinds.Opened edge (strength_of p k)) in (
            each_begun (LineOf said) (LineOf (said ++ says)) k.lives k.works lines l
                (base.stays E A G Here input said received p D Given Called known k now lines says l (no_work l.me) (calm_quiet l.me says (refl, tt)) (base.fresh_line E A G Here input said received p D Given Called l (no_work l.me) refl refl (news.child to parent edge root depth read_at came new).1)) (λ y v live any is. base.stays E A G Here input said received p D Given Called known k now lines says y v (calm_quiet y.me says (refl, tt)) is),
            base.calm_here E A G Here input said received p D Given Called says (refl, tt),
          )
      lines_on (steps.Acts {k = k} l q a why) granted ss news cat now lines = acts_line k now lines l q a (acting_line k now lines why)
      lines_on (steps.Drops_told {k = k} l live drops) granted ss news cat now lines = left k now lines _ (rolls l) l.me
      lines_on (steps.Drops_asked {k = k} l from live came parent) granted ss news cat now lines = left k now lines _ (refl, rolls l) l.me
      lines_on (steps.Does {k = k} s from (nexts.End d) kept why) granted ss news cat now lines = calm k now lines _ (passes_say IsCalm calm_decisions s d)
      lines_on (steps.Does {k = k} s from (nexts.Meet d mixed) kept why) granted ss news cat now lines = calm k now lines _ (passes_say IsCalm calm_decisions s d)
      lines_on (steps.Does {k = k} s from nexts.AckToward kept why) granted ss news cat now lines = calm k now lines _ (one_says IsCalm s.me kinds.Ack s.toward refl)
      lines_on (steps.Does {k = k} s from nexts.Forget kept why) granted ss news cat now lines = calm k now lines _ (each_says IsCalm s.me kinds.Forgotten (map (λ b. b.branch) (beyond s)) refl)
      lines_on (steps.Does {k = k} s from nexts.SayForgotten kept why) granted ss news cat now lines = calm k now lines _ (refl, tt)
      lines_on (steps.Does {k = k} s from nexts.SayAck kept why) granted ss news cat now lines = calm k now lines _ (refl, tt)
      lines_on (steps.Leaves {k = k} n s d x call ends has live) granted ss news cat now lines = left k now lines _ (rolls x.live) x.live.me
      lines_on (steps.Sets_savepoint {k = k} n x name call has code live) granted ss news cat now lines =
          let line : LineOf said x.live x.work = base.branch_line E A G Here input said received p D Given Called known k now lines x live in
          let marked_line : LineOf said x.live (marked k.sessions x name).work = record { leads = line.leads; opens = line.opens; waits = line.waits } in (
            base.put E A G Here input said received p D Given Called known k now lines [] x.live (marked k.sessions x name).work (work_is k x.live.me x live) (λ b other. tt)
                (base.stays E A G Here input said received p D Given Called known k now lines [] x.live (marked k.sessions x name).work tt marked_line),
            tt,
          )
      lines_on (steps.Gives_up {k = k} n x gives has calls live) granted ss news cat now lines =
          let refused : G x.live.me → ⊥ = λ goes. given_code k.sessions n _ x.live.me has (subst (λ m. (session_at (needs_rollback (with_call k.sessions n pending.NoCall) n (dtx 3 []).code) m).code ≡ None) (ss.roots.each n x.live.me has) (granted.sees x.live.me goes)) in
          let none : x.live.parent ≡ None = root_alone k ss n x.live.me has x.live (live_so k x.live.me x live) in
          (base.put E A G Here input said received p D Given Called known k now lines [] x.live (gives_up x).work (work_is k x.live.me x live) (λ b other. tt) (record { leads = (base.branch_line E A G Here input said received p D Given Called known k now lines x live).leads; opens = λ goes. absurd (refused (goes none)); waits = λ g some. absurd cc }), tt)
      lines_on (steps.Gives_up_commit {k = k} n b (Some l) gives has calls live) granted ss news cat now lines = left k now lines _ (rolls l) l.me
      lines_on {k = k} _ granted ss news cat now lines = calm k now lines [] tt
