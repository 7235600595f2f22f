-- Each step of a node, case by case: its live branches have no more branches below them than their parents knew and gave room for.
use Rattle.std.proofs.Common.{◌≡◌, ◌≢◌, ℕ, suc, ◌+◌, ◌<◌, ◌≤◌, List, [], ◌∷◌, ◌++◌, map, length, option_map, unwrap_or, Option, Some, None, inl, inr, refl, sym, ap, subst, ◌∙◌, arith}
use Rattle.dtx_values.specs.Limits.{branch_limit}
use Rattle.tran_ids.proofs.ListedLemmas.{put_found}
use Rattle.tran_ids.proofs.NumberedLemmas.{set_found, set_leaves}
use Rattle.link_session.specs.Calls.{taken}
use Rattle.link_session.proofs.OnceLemmas.{run_is_new}
use Rattle.commit_forget.specs.declared.next.Next.TheVariants as nexts
use Rattle.session_tree.specs.Live.{new_edge, next_edge}
use Rattle.session_tree.specs.Tree.{count, room}
use Rattle.node_rules.specs.Data.{Stmt, Answer, Task, BranchId, Edge, Live, Post, Place, Input}
use Rattle.node_rules.specs.declared.work.Errand.{Errand}
use Rattle.node_rules.specs.Data.stmts
use Rattle.node_rules.specs.Data.kinds
use Rattle.node_rules.specs.Data.tasks
use Rattle.node_rules.specs.declared.work.Errand.TheVariants as errands
use Rattle.node_rules.specs.Data.admits
use Rattle.node_rules.specs.declared.session.PendingCall.TheVariants as pending
use Rattle.node_rules.specs.declared.work.Waits.TheVariants as waiting
use Rattle.node_rules.specs.declared.work.Going.{Going}
use Rattle.node_rules.specs.declared.work.Work.{Work}
use Rattle.node_rules.specs.Words.{numbered, set_numbered, put_item}
use Rattle.node_rules.specs.Refusals.{dtx}
use Rattle.node_rules.specs.Inputs.{Came, IsCall}
use Rattle.node_rules.specs.NodeState.{NodeState, Branch, TurnDraft, live_id, work_id, branch_at, post}
use Rattle.node_rules.specs.Sessions.{session_at, with_call, needs_rollback}
use Rattle.node_rules.specs.Names.{passed_on}
use Rattle.node_rules.specs.Statement.{ran}
use Rattle.node_rules.specs.Marks.{node_back}
use Rattle.node_rules.specs.Calls.{admit, branch_ran, less_room, with_answer, answer_says, calls_over, next_child, strength_of, with_edge, waits_for_opened, hears_reply, nobody_at}
use Rattle.node_rules.specs.Client.{new_root, fresh_root, marked, gives_up}
use Rattle.node_rules.specs.Commit.{beyond}
use Rattle.node_rules.proofs.Steps as steps
use Rattle.node_rules.proofs.Steps.{Step, Asked, Goes_to, Calls_back}
use Rattle.node_rules.proofs.StandLemmas.{live_so}
use Rattle.node_rules.specs.LiveBranches.{EachLive}
use Rattle.node_rules.proofs.LiveLemmas.{each_begun, work_is}
use Rattle.run_base_laws.specs.InTurnLaws.{newest_exec, newest_reply, WaitsFor, call_at}
use Rattle.run_rules.proofs.AtNodeLemmas.{range_of}
use Rattle.run_base_laws.proofs.TurnEventLemmas.{cases_nat}
use Rattle.run_base_laws.proofs.RootLemmas.{SessionsFit, root_alone, pends_so, begun_so, counted_so, back_so}
use Rattle.run_base_laws.proofs.NeighborLemmas.{News, reply_is}
use Rattle.run_base_laws.proofs.NeighborStepLemmas.{begun_news, counted_news, back_news, pends_news, lets_news, acked_news}
use Rattle.run_base_laws.proofs.KindSayLemmas.{AllSay, one_says, each_says, passes_say}
use Rattle.run_base_laws.proofs.CallTurnLemmas.{silent_none, silent_kind}
use Rattle.run_base_laws.proofs.InTurnLemmas as turns
use Rattle.run_base_laws.proofs.InTurnLemmas.{length_peers, numbered_map, numbered_last, numbered_split, calls_before, reply_for, one_waits, opened_none, none_waits}
use Rattle.run_base_laws.proofs.InTurnEdgeLemmas.{opened_free, calling_free}
use Rattle.run_base_laws.proofs.InTurnStepLemmas as drafts
use Rattle.run_ready_laws.proofs.SentLemmas.{room_of, Gave, Told, Base, AllFit, AllNew}
use Rattle.run_ready_laws.proofs.CountLemmas.{counts, set_counts, last_counts, room_left, spare, root_few, below_room, one_less, base_is, Under, waits_child, Knows, Called, opens_parent, marked_parent}
use Rattle.run_ready_laws.proofs.RoomLemmas.{way_room}
use Rattle.run_ready_laws.proofs.AgainLemmas as again
use Rattle.run_ready_laws.proofs.CountStepLemmas as fits
use Rattle.run_ready_laws.proofs.CountStepLemmas.{fewer, no_more, same_room, IsQuiet, quiet_decisions, given_code, pends_code, some_going, rolled, CameFits}

-- ---- numbers

-- a child more
grows : (parent : Option BranchId) (n m : ℕ) (errand : Errand) (b : ℕ) → m ≡ n + 1 → 1 ≤ room_left parent n errand → n + room_left parent n errand ≤ b → m + room_left parent m (less_room errand) ≤ b
grows parent n m errand b is some few =
    subst (λ x. x + room_left parent x (less_room errand) ≤ b) (sym is) (let less : (n + 1) + room_left parent (n + 1) (less_room errand) ≤ n + room_left parent n errand = one_less parent n errand some in omega (arith, less, few))

-- a Reply that is heard
hears : (s t e c sp b : ℕ) → t + e ≡ s + c → c ≤ e + sp → (1 + s) + sp ≤ b → (1 + t) + 0 ≤ b
hears s t e c sp b set low few = omega (arith, set, low, few)

-- an Open is no Reply
open_mute : (me to : BranchId) (edge : ℕ) (root : BranchId) (depth : ℕ) (read_at : Option ℕ) (b : BranchId) → newest_reply (post me to (kinds.Open edge root depth read_at)) b ≡ 0
open_mute me to edge root depth read_at b = (silent_kind me to b (kinds.Open edge root depth read_at) refl refl).replies

module _ (E : BranchId → Option ℕ) (A : BranchId → Option BranchId) (G Here : BranchId → Type 0) (input : Input) (said : List Post) (received : turns.Received E A G Here input said) (all : AllFit said said) (came_fits : CameFits input said) where
  abbrev Begun : Live → Work → Type 0
  Begun = turns.Begun E A G Here input said

  abbrev Nodes : NodeState → Type 0
  Nodes k = EachLive Begun k.lives k.works

  abbrev Goes : Live → Type 0
  Goes l = l.parent ≡ None → G l.me

  abbrev Old : Live → Work → Type 0
  Old = fits.Old E A G Here input said received all came_fits

  abbrev pub Olds : NodeState → Type 0
  Olds k = EachLive Old k.lives k.works

  abbrev Then : List Post → Live → Work → Type 0
  Then = fits.Then E A G Here input said received all came_fits

  abbrev pub Leaves : TurnDraft → Type 0
  Leaves d = EachLive (Then d.says) d.after.lives d.after.works × AllNew said d.says

  -- a branch with a call under way, and so much room left
  abbrev CallFits : Branch → ℕ → Type 0
  CallFits x r = Under said x.live.me x.live.parent (count x.live) r x.work.came × Knows said (Goes x.live) x.live.me x.live.edges x.work × Called x.live.edges x.work

  module _ (k : NodeState) (now : Olds k) where
    found_old : (x : Branch) → branch_at k x.live.me ≡ Some x → Old x.live x.work
    found_old x found = fits.found_old E A G Here input said received all came_fits k now x found

    quiet : (says : List Post) → AllSay IsQuiet says → EachLive (Then says) k.lives k.works × AllNew said says
    quiet says quiet_so = fits.quiet E A G Here input said received all came_fits k now says quiet_so

    -- ---- statements

    module _ (ss : SessionsFit k) (nodes : Nodes k) where
      branch_begun : (x : Branch) → branch_at k x.live.me ≡ Some x → Begun x.live x.work
      branch_begun x found = turns.branch_begun E A G Here input said received k nodes x found

      -- one that waits for nothing knows all its children
      knows_free : (x : Branch) → branch_at k x.live.me ≡ Some x → x.work.going ≡ None → Knows said (Goes x.live) x.live.me x.live.edges x.work
      knows_free x found none goes j e at = elim ((found_old x found).1.held goes j e at) [ inl waits ↦ absurd (none_waits j x.work.going none waits) | inr told ↦ told ]

      -- a root whose session calls
      called_fits : (n : ℕ) (x : Branch) (s : Stmt) (r : ℕ) → IsCall input n s → (session_at k.sessions n).root ≡ Some x.live.me → branch_at k x.live.me ≡ Some x
          → (x.live.parent ≡ None → count x.live ≤ branch_limit → count x.live + r ≤ branch_limit) → CallFits x r
      called_fits n x s r call has live few =
          let was : Begun x.live x.work = branch_begun x live in
          let fit : Old x.live x.work = found_old x live in
          let none : x.live.parent ≡ None = root_alone k ss n x.live.me has x.live (live_so k x.live.me x live) in
          let free : x.work.going ≡ None = was.idle none s (subst (λ m. IsCall input m s) (sym (ss.roots.each n x.live.me has)) call) in (
            record {
              unanswered = was.turn.alone none;
              owes = λ below. absurd (below none);
              given = λ q above. absurd (cc (none, above));
              few = few none (fewer (count x.live) (spare x.live.parent (count x.live) x.work.going) branch_limit fit.1.few);
            },
            knows_free x live free,
            fit.1.called,
          )

      -- a branch that takes a call
      taken_fits : (x : Branch) (from : BranchId) (call : ℕ) (task : Task) (r : ℕ) → Came input from x.live.me (kinds.Exec call task) → branch_at k x.live.me ≡ Some x → admit x.work.came call ≡ admits.Run
          → (x.live.parent ≡ Some from → r ≡ room_of task)
          → Under said x.live.me x.live.parent (count x.live) r (taken call) × Knows said (Goes x.live) x.live.me x.live.edges x.work × Called x.live.edges x.work
      taken_fits x from call task r came live runs room_at =
          let was : Begun x.live x.work = branch_begun x live in
          let fit : Old x.live x.work = found_old x live in
          let so = received.exec from x.live.me call task came in
          let parent : x.live.parent ≡ Some from = was.above from so.0 in
          let below : x.live.parent ≢ None = (λ none. absurd (cc (parent, none))) in
          let new : x.work.came.last_call < call = run_is_new x.work.came call runs in
          let answered : call ≤ newest_reply said x.live.me + 1 = omega (arith, so.1, received.all from x.live.me) in
          let told : newest_reply said x.live.me ≤ x.work.came.last_call = was.turn.takes.told in
          let last : newest_reply said x.live.me ≡ x.work.came.last_call = omega (arith, new, answered, told) in
          let free : x.work.going ≡ None = was.turn.takes.rests below last in
          let next : call ≡ x.work.came.last_call + 1 = omega (arith, new, answered, told) in
          let it = came_fits.exec from x.live.me call task came in
          let room_is : r ≡ room_of task = room_at parent in
          let known : (v : ℕ) → Base said x.live.me from call v → v ≡ count x.live
          = (λ v base. base_is said x.live.me from x.live.parent (count x.live) (spare x.live.parent (count x.live) x.work.going) x.work.came x.work.going fit.0 below free call v next base) in (
            record {
              unanswered = refl;
              owes = λ some. omega (arith, told, new);
              given = λ q above. (let same_parent : Some from ≡ Some q = sym parent ∙ above in let here : from ≡ q = cc in
                  subst (λ z. (g : ℕ) × Gave said z x.live.me call g × ((v : ℕ) → Base said x.live.me z call v → count x.live + r ≤ v + g)) here
                  (room_of task, it.0, (λ v base. same_room (count x.live) v (room_of task) r (v + room_of task) (known v base) room_is (omega arith))));
              few = same_room (count x.live) it.1.0 (room_of task) r branch_limit (known it.1.0 it.1.1) room_is it.1.2;
            },
            knows_free x live free,
            fit.1.called,
          )

      -- a branch to which a statement came
      asked_fits : {x : Branch} {s : Stmt} {given : ℕ} → Asked k input x s given → CallFits x (room x.live given)
      asked_fits (steps.By_call n x s call rows has code live may) = called_fits n x s (room x.live 0) call has live (λ none few. root_few x.live.parent (count x.live) 0 none few)
      asked_fits (steps.By_exec x from call given advice s came live runs) =
          taken_fits x from call (tasks.Run given advice s) (room x.live given) came live runs (λ parent. below_room x.live.parent from (count x.live) given parent)

      -- a branch that goes back
      goes_fits : {x : Branch} {step : ℕ} → Goes_to k input x step → CallFits x 0
      goes_fits (steps.By_rollback_to n x name step call has code live set) = called_fits n x (stmts.RollbackTo name) 0 call has live (λ none few. omega (arith, few))
      goes_fits (steps.By_back x from call keep came live runs) = taken_fits x from call (tasks.GoBack keep) 0 came live runs (λ parent. refl)

      -- one that was asked goes on
      asked_goes : {x : Branch} {s : Stmt} {given : ℕ} → Asked k input x s given → (x.live.parent ≡ None → (session_at k.sessions x.live.me.session).code ≡ None → G x.live.me) → Goes x.live
      asked_goes (steps.By_call n x s call rows has code live may) grants none = grants none (subst (λ m. (session_at k.sessions m).code ≡ None) (sym (ss.roots.each n x.live.me has)) code)
      asked_goes (steps.By_exec x from call given advice s came live runs) grants none =
          let parent : x.live.parent ≡ Some from = (branch_begun x live).above from (received.exec from x.live.me call (tasks.Run given advice s) came).0 in
          absurd (cc (parent, none))

      -- its calls are as many as its children
      calls_even : (x : Branch) → turns.FreeOf E A G Here input said x → length x.work.calls ≡ length x.live.edges
      calls_even x free = free.numbers ∙ length_peers x.live.edges

      -- the last call to a child
      calls_made : (x : Branch) → turns.FreeOf E A G Here input said x → (i : ℕ) (e : Edge) → numbered x.live.edges i ≡ Some e → newest_exec said x.live.me e.peer ≡ call_at x.work i
      calls_made x free i e at = free.made i e.peer (numbered_map x.live.edges i ∙ ap (λ (o : Option Edge). option_map turns.peer o) at)

      -- a child that was opened
      module _ (x : Branch) (from : BranchId) (strength : ℕ) (g : Going) (link : List ℕ) (opened : steps.Is_opened k input x from strength g link) where
        abbrev child : Edge
        child = new_edge from link strength

        abbrev opened_branch : Branch
        opened_branch = with_edge x child

        abbrev opened_at : ℕ
        opened_at = length x.live.edges + 1

        opened_fit : Old x.live x.work
        opened_fit = found_old x opened.live

        opened_was : Begun x.live x.work
        opened_was = branch_begun x opened.live

        opened_even : length x.work.calls ≡ length x.live.edges
        opened_even = opened_was.turn.makes.numbers ∙ length_peers x.live.edges

        opened_room : spare x.live.parent (count x.live) x.work.going ≡ room_left x.live.parent (count x.live) g.errand
        opened_room = ap (spare x.live.parent (count x.live)) opened.going

        opened_some : 1 ≤ room_left x.live.parent (count x.live) g.errand
        opened_some = subst (λ n. 1 ≤ n) opened_room (opened_fit.1.opens g link opened.going opened.waits)

        opened_more : count opened_branch.live ≡ count x.live + 1
        opened_more = let last : counts (x.live.edges ++ child ∷ []) ≡ counts x.live.edges + 1 = last_counts x.live.edges child in let it : 1 + counts (x.live.edges ++ child ∷ []) ≡ (1 + counts x.live.edges) + 1 = omega (arith, last) in it

        opened_fewer : (b : ℕ) → count x.live + spare x.live.parent (count x.live) x.work.going ≤ b → count opened_branch.live + room_left x.live.parent (count opened_branch.live) (less_room g.errand) ≤ b
        opened_fewer b few = grows x.live.parent (count x.live) (count opened_branch.live) g.errand b opened_more opened_some (subst (λ r. count x.live + r ≤ b) opened_room few)

        opened_owes : x.live.parent ≢ None → newest_reply said x.live.me + 1 ≤ x.work.came.last_call
        opened_owes = turns.still_owes E A G Here input said received x g opened.going opened_was

        opened_under : Under said x.live.me x.live.parent (count opened_branch.live) (room_left x.live.parent (count opened_branch.live) (less_room g.errand)) x.work.came
        opened_under = record {
          unanswered = opened_was.turn.answered (λ none. (let going : x.work.going ≡ Some g = opened.going in absurd (cc (none, going))));
          owes = opened_owes;
          given = λ q above. (let called_once : newest_reply said x.live.me + 1 ≤ x.work.came.last_call = opened_owes (λ none. absurd (cc (above, none))) in
              let it = opened_fit.0.given q above (omega (arith, called_once)) in
              (it.0, it.1, (λ v base. opened_fewer (v + it.0) (it.2 v base))));
          few = opened_fewer branch_limit opened_fit.1.few;
        }

        none_yet : call_at opened_branch.work opened_at ≡ 0
        none_yet =
            let here : suc (length x.work.calls) ≡ length x.live.edges + 1 = omega (arith, opened_even) in
            ap (λ (o : Option ℕ). unwrap_or o 0) (subst (λ n. numbered (x.work.calls ++ 0 ∷ []) n ≡ Some 0) here (numbered_last x.work.calls 0))

        first_base : (e : Edge) → numbered opened_branch.live.edges opened_at ≡ Some e → Base said e.peer x.live.me (call_at opened_branch.work opened_at + 1) e.count
        first_base e at = elim (numbered_split x.live.edges child opened_at e at) [
          | inl old ↦ absurd (let low : opened_at ≤ length x.live.edges = (range_of x.live.edges opened_at e old).1 in omega (arith, low))
          | inr last ↦ inl ((let first : call_at opened_branch.work opened_at + 1 ≡ 1 = omega (arith, none_yet) in first), sym (ap (λ (z : Edge). z.count) last.1))
        ]

        old_call : (j : ℕ) (e : Edge) → numbered x.live.edges j ≡ Some e → call_at opened_branch.work j ≡ call_at x.work j
        old_call j e at = calls_before x.work.calls j (omega (arith, opened_even, (range_of x.live.edges j e at).1))

        opened_knows : Goes x.live → (j : ℕ) (e : Edge) → opened_at ≢ j → numbered opened_branch.live.edges j ≡ Some e → Told said e.peer x.live.me (call_at opened_branch.work j) e.count
        opened_knows goes j e other at = elim (numbered_split x.live.edges child j e at) [
          | inl old ↦ elim (opened_fit.1.held goes j e old) [
            | inl waits ↦ absurd (opened_none j link g x.work.going opened.going opened.waits waits)
            | inr told ↦ subst (λ n. Told said e.peer x.live.me n e.count) (sym (old_call j e old)) told
          ]
          | inr last ↦ absurd (other (sym last.0))
        ]

        opened_called : (j : ℕ) (e : Edge) → opened_at ≢ j → numbered opened_branch.live.edges j ≡ Some e → 1 ≤ call_at opened_branch.work j
        opened_called j e other at = elim (numbered_split x.live.edges child j e at) [
          | inl old ↦ subst (λ n. 1 ≤ n) (sym (old_call j e old)) (opened_fit.1.called j e old)
          | inr last ↦ absurd (other (sym last.0))
        ]

        goes_on_fits : Leaves (calls_over k opened_branch opened_at (less_room g.errand))
        goes_on_fits =
            let free : turns.FreeOf E A G Here input said opened_branch = opened_free E A G Here input said received k nodes x from strength g link opened in
            fits.calls E A G Here input said received all came_fits k now k.sessions opened_branch opened_at (less_room g.errand) (work_is k x.live.me x opened.live) opened_under (calls_even opened_branch free) (calls_made opened_branch free opened_at) first_base opened_knows opened_called

      -- a Reply that was waited for
      module _ (x : Branch) (weight : Option ℕ) (reported_of : ℕ) (a : Answer) (i : ℕ) (e : Edge) (answered : steps.Is_answered k input x weight reported_of a i e) where
        abbrev heard_branch : Branch
        heard_branch = hears_reply x i weight reported_of e

        abbrev heard_edge : Edge
        heard_edge = record e { weight = weight; count = reported_of }

        heard_fit : Old x.live x.work
        heard_fit = found_old x answered.live

        heard_was : Begun x.live x.work
        heard_was = branch_begun x answered.live

        heard_over : WaitsFor i x.work.going × (e.peer ≡ answered.from) × (call_at x.work i ≡ answered.call)
        heard_over = reply_for x answered.from answered.call i e answered.waits

        heard_at : numbered x.live.edges i ≡ Some e
        heard_at = reply_is x answered.from answered.call i e answered.waits

        heard_told : Told said e.peer x.live.me (call_at x.work i) reported_of
        heard_told = subst (λ c. Told said c x.live.me (call_at x.work i) reported_of) (sym heard_over.1)
            (subst (λ n. Told said answered.from x.live.me n reported_of) (sym heard_over.2) (came_fits.reply answered.from x.live.me answered.call weight reported_of a answered.came))

        heard_low : reported_of ≤ e.count + spare x.live.parent (count x.live) x.work.going
        heard_low = (heard_fit.1.waits i e heard_at heard_over.0).replies reported_of heard_told

        heard_fewer : (b : ℕ) → count x.live + spare x.live.parent (count x.live) x.work.going ≤ b → count heard_branch.live + 0 ≤ b
        heard_fewer b few =
            let set : counts (set_numbered x.live.edges i heard_edge) + e.count ≡ counts x.live.edges + reported_of = set_counts x.live.edges i e heard_edge heard_at in
            hears (counts x.live.edges) (counts (set_numbered x.live.edges i heard_edge)) e.count reported_of (spare x.live.parent (count x.live) x.work.going) b set heard_low few

        heard_under : Under said x.live.me x.live.parent (count heard_branch.live) 0 x.work.came
        heard_under =
            let g = some_going i x.work.going heard_over.0 in
            let owes : x.live.parent ≢ None → newest_reply said x.live.me + 1 ≤ x.work.came.last_call = turns.still_owes E A G Here input said received x g.0 g.1 heard_was in
            record {
              unanswered = heard_was.turn.answered (λ none. (let going : x.work.going ≡ Some g.0 = g.1 in absurd (cc (none, going))));
              owes = owes;
              given = λ q above. (let called_once : newest_reply said x.live.me + 1 ≤ x.work.came.last_call = owes (λ none. absurd (cc (above, none))) in
                  let it = heard_fit.0.given q above (omega (arith, called_once)) in
                  (it.0, it.1, (λ v base. heard_fewer (v + it.0) (it.2 v base))));
              few = heard_fewer branch_limit heard_fit.1.few;
            }

        heard_knows : Knows said (Goes x.live) x.live.me heard_branch.live.edges x.work
        heard_knows goes j z there = elim (cases_nat i j) [
          | inl here ↦ (let it : Some heard_edge ≡ Some z = sym (set_found x.live.edges i e heard_edge heard_at) ∙ subst (λ n. numbered (set_numbered x.live.edges i heard_edge) n ≡ Some z) (sym here) there in
              let is : heard_edge ≡ z = cc in
              subst (λ n. Told said z.peer x.live.me (call_at x.work n) z.count) here (subst (λ v. Told said v.peer x.live.me (call_at x.work i) v.count) is heard_told))
          | inr other ↦ elim (heard_fit.1.held goes j z (sym (set_leaves x.live.edges i j heard_edge other) ∙ there)) [
            | inl waits_too ↦ absurd (other (one_waits i j x.work.going heard_over.0 waits_too))
            | inr old ↦ old
          ]
        ]

        heard_called : Called heard_branch.live.edges x.work
        heard_called j z there = elim (cases_nat i j) [
          | inl here ↦ subst (λ n. 1 ≤ call_at x.work n) here (heard_fit.1.called i e heard_at)
          | inr other ↦ heard_fit.1.called j z (sym (set_leaves x.live.edges i j heard_edge other) ∙ there)
        ]

        hears_fits : (result : Answer) → EachLive (Then (answer_says heard_branch result x.live.parent)) (put_item live_id k.lives heard_branch.live) (put_item work_id k.works (with_answer heard_branch result).work) × AllNew said (answer_says heard_branch result x.live.parent)
        hears_fits result = fits.answers_fit E A G Here input said received all came_fits k now heard_branch result 0 (work_is k x.live.me x answered.live) heard_under heard_knows heard_called

      -- a call that is given up
      gives_up_fits : (n : ℕ) (x : Branch) → (session_at k.sessions n).root ≡ Some x.live.me → branch_at k x.live.me ≡ Some x → (G x.live.me → ⊥) → EachLive (Then []) (put_item live_id k.lives x.live) (put_item work_id k.works (gives_up x).work)
      gives_up_fits n x has live refused =
          let fit : Old x.live x.work = found_old x live in
          let none : x.live.parent ≡ None = root_alone k ss n x.live.me has x.live (live_so k x.live.me x live) in
          fits.put E A G Here input said received all came_fits k now [] x.live (gives_up x).work (work_is k x.live.me x live) tt (λ b other. silent_none b) (
            record {
              told = λ below. absurd (below none);
              kept = fit.0.kept;
              zero_calls = λ below. absurd (below none);
              given = λ q above. absurd (cc (none, above));
            },
            record {
              held = λ goes. absurd (refused (goes none));
              waits = λ i e at for. absurd for;
              called = fit.1.called;
              few = no_more (count x.live) (spare x.live.parent (count x.live) x.work.going) branch_limit fit.1.few;
              opens = λ g link is. absurd cc;
            },
          )

  -- ---- a branch whose children are to go back

  calling_fits : (k : NodeState) → Olds k → SessionsFit k → Nodes k → {x : Branch} {step from : ℕ} → Calls_back k input x step from → CallFits x 0
  calling_fits k now ss nodes (steps.Has_gone j x step goes is) =
      let back : SessionsFit (node_back j x step) = subst SessionsFit is ss in
      goes_fits j (subst Olds is now) (record { roots = back.roots; above = back.above }) (subst Nodes is nodes) goes
  calling_fits k now ss nodes (steps.Has_heard x weight reported_of a i e g step answered going errand plain) = (
    heard_under k now ss nodes x weight reported_of a i e answered,
    heard_knows k now ss nodes x weight reported_of a i e answered,
    heard_called k now ss nodes x weight reported_of a i e answered,
  )

  -- ---- every step

  module _ (p : Place) (place : (b : BranchId) → b.node ≡ p.number → Here b) where
    pub fits_on : {k : NodeState} {d : TurnDraft} → Step p input k d → drafts.Granted E A G Here input said received d → SessionsFit k → News (drafts.NewBorn E A G Here input said received) p input k → Nodes k → Olds k → Leaves d
    fits_on (steps.Begins {k = k} n s read_at call begins range none step) granted ss news nodes now =
        let root = news.root n s read_at call begins none in
        fits_on step granted (begun_so k ss p n read_at) (begun_news (drafts.NewBorn E A G Here input said received) p input k n read_at news)
        (drafts.begins_so E A G Here input said received k nodes (fresh_root p k (new_root p k n) read_at) refl (place (new_root p k n) refl) root)
        (each_begun Old Old k.lives k.works now (fresh_root p k (new_root p k n) read_at) (fits.fresh_fits E A G Here input said received all came_fits said (new_root p k n) (new_root p k n) None 1 (strength_of p k) read_at) (λ y v live any is. is))
    fits_on (steps.Counts_call {k = k} n s call counts step) granted ss news nodes now = fits_on step granted (counted_so k ss n) (counted_news (drafts.NewBorn E A G Here input said received) p input k n news) nodes now
    fits_on (steps.Goes_back {k = k} x step goes next) granted ss news nodes now = fits_on next granted (back_so k ss x step) (back_news (drafts.NewBorn E A G Here input said received) p input k x step news) nodes now
    fits_on (steps.Pends {k = k} n l given call has live code writer step) granted ss news nodes now = fits_on step granted (pends_so k ss n pending.Commit) (pends_news (drafts.NewBorn E A G Here input said received) p input k n given call news) nodes now
    fits_on (steps.Lets_reads_go {k = k} l comment b live begins step) granted ss news nodes now = fits_on step granted (record { roots = ss.roots; above = ss.above }) (lets_news (drafts.NewBorn E A G Here input said received) p input k l.me news) nodes now
    fits_on (steps.Counts_ack {k = k} s from kept came counted step) granted ss news nodes now = fits_on step granted (record { roots = ss.roots; above = ss.above }) (acked_news (drafts.NewBorn E A G Here input said received) p input k _ news) nodes now
    fits_on (steps.Sends {k = k} posts why) granted ss news nodes now = again.says_fit E A G Here input said received all came_fits k now nodes why
    fits_on (steps.Runs {k = k} x s given t asked way) granted ss news nodes now =
        let is = asked_fits k now ss nodes asked in
        fits.answers_fit E A G Here input said received all came_fits k now (branch_ran k.sessions x t (ran p k x.live.me s t)) _ (room x.live given) (drafts.asked_mine E A G Here input said received k asked) is.0 is.1 is.2
    fits_on (steps.Goes_nowhere {k = k} x s given r asked way) granted ss news nodes now =
        let is = asked_fits k now ss nodes asked in
        fits.answers_fit E A G Here input said received all came_fits k now x _ (room x.live given) (drafts.asked_mine E A G Here input said received k asked) is.0 is.1 is.2
    fits_on (steps.Calls {k = k} x s given i table asked way) granted ss news nodes now =
        let is = asked_fits k now ss nodes asked in
        let free : turns.FreeOf E A G Here input said x = turns.asked_free E A G Here input said received k ss nodes asked in
        let goes : Goes x.live = asked_goes k now ss nodes asked (λ root none. granted.grants x.live.me x.live (put_found live_id k.lives x.live) root (pends_code k.sessions x.live x.live.me.session ∙ none)) in
        fits.calls E A G Here input said received all came_fits k now k.sessions x i (errands.Statement (passed_on s table) given) (drafts.asked_mine E A G Here input said received k asked) is.0 (calls_even k now ss nodes x free) (calls_made k now ss nodes x free i)
        (λ e at. inr (call_at x.work i, refl, is.2 i e at, is.1 goes i e at)) (λ so j e other at. is.1 so j e at) (λ j e other at. is.2 j e at)
    fits_on (steps.Opens {k = k} x s given node link table asked way) granted ss news nodes now =
        let is = asked_fits k now ss nodes asked in
        let says : List Post = post x.live.me (nobody_at node) (kinds.Open (next_edge x.live) x.live.root (x.live.depth + 1) x.live.read_at) in
        let g : Going = record { errand = errands.Statement (passed_on s table) given; waits = waiting.ForOpened link } in (
          fits.put E A G Here input said received all came_fits k now says x.live (waits_for_opened x link (passed_on s table) given).work (drafts.asked_mine E A G Here input said received k asked) (tt, tt) (λ b other. silent_kind x.live.me (nobody_at node) b _ refl refl) (
            waits_child said says x.live.me x.live.parent (count x.live) (room x.live given) x.work.came g (open_mute x.live.me (nobody_at node) (next_edge x.live) x.live.root (x.live.depth + 1) x.live.read_at x.live.me) is.0,
            opens_parent said says (Goes x.live) x.live.me (count x.live) (room x.live given) x.live.edges (waits_for_opened x link (passed_on s table) given).work g link refl refl (way_room p k.stored.durable x.live given s node link table way) is.0.few is.1 is.2,
          ),
          (tt, tt),
        )
    fits_on (steps.Goes_on {k = k} x from strength g link opened) granted ss news nodes now = goes_on_fits k now ss nodes x from strength g link opened
    fits_on (steps.Hears_reply {k = k} x weight reported_of a i e answered) granted ss news nodes now = hears_fits k now ss nodes x weight reported_of a i e answered _
    fits_on (steps.Backs {k = k} x step from i calls next) granted ss news nodes now =
        let is = calling_fits k now ss nodes calls in
        let free : turns.FreeOf E A G Here input said x = calling_free E A G Here input said received k ss nodes calls in
        let mine : x.work.branch ≡ x.live.me = drafts.calling_mine E A G Here input said received k calls in
        let goes : Goes x.live = drafts.waits_goes E A G Here input said received k x i (errands.GoBack step) mine granted in
        fits.calls E A G Here input said received all came_fits k now k.sessions x i (errands.GoBack step) mine is.0 (calls_even k now ss nodes x free) (calls_made k now ss nodes x free i)
        (λ e at. inr (call_at x.work i, refl, is.2 i e at, is.1 goes i e at)) (λ so j e other at. is.1 so j e at) (λ j e other at. is.2 j e at)
    fits_on (steps.Is_back {k = k} x step from calls none) granted ss news nodes now =
        let is = calling_fits k now ss nodes calls in
        fits.answers_fit E A G Here input said received all came_fits k now x _ 0 (drafts.calling_mine E A G Here input said received k calls) is.0 is.1 is.2
    fits_on (steps.Opens_branch {k = k} to parent edge root depth read_at came new) granted ss news nodes now =
        fits.begun E A G Here input said received all came_fits k now (post (next_child p k) parent (kinds.Opened edge (strength_of p k))) (((refl, refl), (λ ms x y. tt)), tt) (next_child p k) root (Some parent) depth (strength_of p k) read_at
    fits_on (steps.Acts {k = k} l b a why) granted ss news nodes now = fits.acts_fit E A G Here input said received all came_fits k now a why
    fits_on (steps.Drops_told {k = k} l live drops) granted ss news nodes now = fits.left E A G Here input said received all came_fits k now l.me _ (rolled l)
    fits_on (steps.Drops_asked {k = k} l from live came parent) granted ss news nodes now = fits.left E A G Here input said received all came_fits k now l.me _ (((refl, refl), (λ ms x y. tt)), rolled l)
    fits_on (steps.Does {k = k} s from (nexts.End d) kept why) granted ss news nodes now = quiet k now _ (passes_say IsQuiet quiet_decisions s d)
    fits_on (steps.Does {k = k} s from (nexts.Meet d mixed) kept why) granted ss news nodes now = quiet k now _ (passes_say IsQuiet quiet_decisions s d)
    fits_on (steps.Does {k = k} s from nexts.AckToward kept why) granted ss news nodes now = quiet k now _ (one_says IsQuiet s.me kinds.Ack s.toward ((refl, refl), (λ ms x y. tt)))
    fits_on (steps.Does {k = k} s from nexts.Forget kept why) granted ss news nodes now = quiet k now _ (each_says IsQuiet s.me kinds.Forgotten (map (λ b. b.branch) (beyond s)) ((refl, refl), (λ ms x y. tt)))
    fits_on (steps.Does {k = k} s from nexts.SayForgotten kept why) granted ss news nodes now = quiet k now _ (((refl, refl), (λ ms x y. tt)), tt)
    fits_on (steps.Does {k = k} s from nexts.SayAck kept why) granted ss news nodes now = quiet k now _ (((refl, refl), (λ ms x y. tt)), tt)
    fits_on (steps.Does {k = k} s from nexts.Rest kept why) granted ss news nodes now = quiet k now [] tt
    fits_on (steps.Leaves {k = k} n s d x call ends has live) granted ss news nodes now = fits.left E A G Here input said received all came_fits k now x.live.me _ (rolled x.live)
    fits_on (steps.Sets_savepoint {k = k} n x name call has code live) granted ss news nodes now =
        let was : Then [] x.live x.work = fits.stay E A G Here input said received all came_fits k now [] tt x.live x.work (silent_none x.live.me) (found_old k now x live) in (
          fits.put E A G Here input said received all came_fits k now [] x.live (marked k.sessions x name).work (work_is k x.live.me x live) tt (λ b other. silent_none b)
              (was.0, marked_parent (said ++ []) (Goes x.live) x.live.me (count x.live) (spare x.live.parent (count x.live) x.work.going) x.live.edges x.work (marked k.sessions x name).work.marks was.1),
          tt,
        )
    fits_on (steps.Gives_up {k = k} n x gives has calls live) granted ss news nodes now =
        let refused : G x.live.me → ⊥ = λ goes. given_code k.sessions n _ x.live.me has (subst (λ m. (session_at (needs_rollback (with_call k.sessions n pending.NoCall) n (dtx 3 []).code) m).code ≡ None) (ss.roots.each n x.live.me has) (granted.sees x.live.me goes)) in
        (gives_up_fits k now ss nodes n x has live refused, tt)
    fits_on (steps.Gives_up_commit {k = k} n b (Some l) gives has calls live) granted ss news nodes now = fits.left E A G Here input said received all came_fits k now l.me _ (rolled l)
    fits_on (steps.Gives_up_commit {k = k} n b None gives has calls live) granted ss news nodes now = quiet k now [] tt
    fits_on (steps.Rests {k = k}) granted ss news nodes now = quiet k now [] tt
    fits_on (steps.Refuses {k = k} n s r is) granted ss news nodes now = quiet k now [] tt
    fits_on (steps.Completes_at_once {k = k} n s d call completes none) granted ss news nodes now = quiet k now [] tt
    fits_on (steps.Makes_record {k = k} n s r d call makes) granted ss news nodes now = quiet k now [] tt
    fits_on (steps.Forces_given {k = k} n id m b call named) granted ss news nodes now = quiet k now [] tt
    fits_on (steps.Forces_commit {k = k} n id b call named) granted ss news nodes now = quiet k now [] tt
    fits_on (steps.Forces_rollback {k = k} n id b call named) granted ss news nodes now = quiet k now [] tt
    fits_on (steps.Hides {k = k} n mixed id s call found) granted ss news nodes now = quiet k now [] tt
    fits_on (steps.Advises {k = k} n a call) granted ss news nodes now = quiet k now [] tt
    fits_on (steps.Sets_read_only {k = k} n call) granted ss news nodes now = quiet k now [] tt
    fits_on (steps.Images {k = k} is) granted ss news nodes now = quiet k now [] tt
