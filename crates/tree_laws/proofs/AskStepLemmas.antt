-- Each step of a node leaves live branches collecting as their parents told them, and asks children in the name of collecting
-- branches alone.
use Rattle.std.proofs.Common.{◌≡◌, ◌≢◌, ℕ, zero, suc, ◌+◌, Bool, true, false, List, [], ◌∷◌, ◌++◌, map, length, Option, Some, None, inl, inr, refl, sym, ap, subst, subst₂, ◌∙◌, arith}
use Rattle.std.proofs.lemmas.Bool.{cond_both}
use Rattle.tran_ids.proofs.BranchLemmas.{equal_from_same}
use Rattle.tran_ids.proofs.ListedLemmas.{put_found}
use Rattle.commit_forget.specs.declared.next.Next.TheVariants as nexts
use Rattle.session_tree.specs.Live.{children_of, peer_of, new_edge, next_edge, fresh_live}
use Rattle.session_tree.specs.declared.act.Walk.{Walk}
use Rattle.session_tree.specs.Tree.{step as step_from}
use Rattle.node_rules.specs.Data.{Stmt, Answer, BranchId, Edge, Live, Vote, Act, Post, Place, Input}
use Rattle.node_rules.specs.Data.acts
use Rattle.node_rules.specs.Data.kinds
use Rattle.node_rules.specs.Data.phases
use Rattle.node_rules.specs.Data.stmts
use Rattle.node_rules.specs.Data.votes
use Rattle.node_rules.specs.declared.work.Errand.{Errand}
use Rattle.node_rules.specs.declared.work.Errand.TheVariants as errands
use Rattle.node_rules.specs.declared.session.Session.{Session}
use Rattle.node_rules.specs.declared.session.PendingCall.TheVariants as pending
use Rattle.node_rules.specs.declared.work.Work.{Work}
use Rattle.node_rules.specs.Words.{same, numbered, item_at, put_item, drop_item}
use Rattle.node_rules.specs.Inputs.{Came, IsCall}
use Rattle.node_rules.specs.NodeState.{NodeState, Branch, TurnDraft, live_id, work_id, live_at, post, to_one, to_each}
use Rattle.node_rules.specs.Names.{passed_on}
use Rattle.node_rules.specs.Statement.{ran}
use Rattle.node_rules.specs.Calls.{with_answer, answer_says, called, exec_to, next_child, strength_of, with_edge, waits_for_opened, hears_reply, nobody_at, branch_ran, less_room}
use Rattle.node_rules.specs.Client.{new_root, fresh_root, gives_up, marked}
use Rattle.node_rules.specs.Prepare.{path_of, prepares, site_neighbors, with_prepare_sent, has_voted, answers_first, ready, collecting, with_comment, voted, act_turn}
use Rattle.node_rules.specs.Commit.{beyond}
use Rattle.node_rules.specs.Recovery.{kept_told}
use Rattle.node_rules.proofs.Steps as steps
use Rattle.node_rules.proofs.Steps.{Step, Asked, Acting, Collects, Collected, Says}
use Rattle.run_rules.specs.Trail.{is_prepare}
use Rattle.run_base_laws.specs.FreezeLaws.{was_asked}
use Rattle.run_branch_laws.specs.WalkLaws.{is_below, was_sent}
use Rattle.run_rules.proofs.ListLemmas.{all_append, map_after}
use Rattle.node_rules.specs.LiveBranches.{EachLive, works_of}
use Rattle.node_rules.proofs.LiveLemmas.{each_put, each_changed, each_left, each_begun, each_same, branch_parts, work_is}
use Rattle.run_base_laws.proofs.RootLemmas.{SessionsFit, root_alone, pends_so, begun_so, counted_so, back_so}
use Rattle.run_base_laws.proofs.RestStepLemmas.{going_of}
use Rattle.run_base_laws.proofs.NeighborLemmas.{News}
use Rattle.run_base_laws.proofs.NeighborStepLemmas.{begun_news, pends_news, lets_news, acked_news, counted_news, back_news}
use Rattle.run_base_laws.proofs.KindSayLemmas.{AllSay, one_says, each_says, told_says, passes_say, askings_say}
use Rattle.run_base_laws.proofs.InTurnLemmas as turns
use Rattle.run_base_laws.proofs.InTurnStepLemmas as drafts
use Rattle.run_branch_laws.proofs.FreezeLemmas.{no_ask, IsPlain, plain_decisions, plain_asks, prepares_ask, asked_split}
use Rattle.run_branch_laws.proofs.WalkLemmas.{unasked_below}
use Rattle.run_branch_laws.proofs.FreezeStepLemmas as frost
use Rattle.tree_laws.specs.AskLaws.{way_of, tells, AsToldSo, AsTold}
use Rattle.tree_laws.proofs.AskLemmas.{sent_more, sent_new, sent_split, voted_step, ready_path, prepares_all, below_place, place_below, below_true, working_told, stays_told}

abbrev pub peer : Edge → BranchId
peer e = e.peer

-- A branch that asks a child is live and collecting afterwards. Where it tells a child that the walk comes there, it comes to it.
pub record Asker (Here : BranchId → Type 0) (says : List Post) (after : NodeState) (p c : BranchId) : Type 0 where
  pub here : Here p
  pub live : Live
  pub way : Bool
  pub found : live_at after p ≡ Some live
  pub is_me : live.me ≡ p
  pub collecting : live.phase ≡ phases.Collecting way
  pub below : was_sent is_below says p c ≡ true → way ≡ true

-- each branch that asks does so
abbrev pub Askers : (BranchId → Type 0) → List Post → NodeState → Type 0
Askers Here says after = (p c : BranchId) → was_asked says p c ≡ true → Asker Here says after p c

-- messages without a Prepare
plain_askers : (Here : BranchId → Type 0) (says : List Post) (after : NodeState) → AllSay IsPlain says → Askers Here says after
plain_askers Here says after plain p c is = let none : was_asked says p c ≡ false = plain_asks p c says plain in absurd (cc (is, none))

pub answer_plain : (x : Branch) (a : Answer) (o : Option BranchId) → AllSay IsPlain (answer_says x a o)
answer_plain x a None = tt
answer_plain x a (Some parent) = (refl, tt)

pub exec_plain : (ss : List Session) (x : Branch) (i : ℕ) (e : Errand) (o : Option BranchId) → AllSay IsPlain (exec_to ss x i e o)
exec_plain ss x i e None = tt
exec_plain ss x i e (Some c) = (refl, tt)

rolled : (l : Live) → AllSay IsPlain (to_each l.me kinds.Rollback (children_of l))
rolled l = each_says IsPlain l.me kinds.Rollback (children_of l) refl

-- ---- who answers Ready

ready_true : {l : Live} {b : Bool} → Collected l b acts.SayReady → b ≡ true
ready_true (steps.Awaits_point child) = refl

ready_way : {k : NodeState} {input : Input} {l : Live} {b : Bool} → Acting k input l b acts.SayReady → l.phase ≡ phases.Collecting true
ready_way (steps.Has_no_children l comment b _ live begins none collected) = ap phases.Collecting (ready_true collected)
ready_way (steps.Hears_last l from v b _ live answers other all collected) = let at : l.phase ≡ phases.Collecting b = answers.collecting in at ∙ ap phases.Collecting (ready_true collected)
ready_way (steps.At_point l from _ live came is pointed) = elim pointed [ ]

collected_peers : (es : List Edge) → map peer (map with_prepare_sent es) ≡ map peer es
collected_peers es = map_after peer with_prepare_sent peer (λ e. refl) es

pub voted_peers : (from : BranchId) (v : Vote) (es : List Edge) → map peer (map (has_voted from v) es) ≡ map peer es
voted_peers from v es = map_after peer (has_voted from v) peer (λ e. cond_both (answers_first from e) (record e { vote = v }) e (λ y. y.peer ≡ e.peer) (λ here. refl) (λ other. refl)) es

one_more : (j : ℕ) → 1 + j ≡ suc j
one_more j = omega arith

module _ (E : BranchId → Option ℕ) (A : BranchId → Option BranchId) (G Here : BranchId → Type 0) (input : Input) (said : List Post) (received : turns.Received E A G Here input said) (prepared : frost.Prepared E A G Here input said received) where
  -- the branches and what is known of them as a turn begins
  abbrev Nodes : NodeState → Type 0
  Nodes k = EachLive (turns.Begun E A G Here input said) k.lives k.works

  abbrev Ices : NodeState → Type 0
  Ices k = frost.Ices E A G Here input said received k

  abbrev Old : Live → Work → Type 0
  Old l w = AsTold said l

  abbrev pub Olds : NodeState → Type 0
  Olds k = EachLive Old k.lives k.works

  abbrev pub Then : List Post → Live → Work → Type 0
  Then says l w = AsTold (said ++ says) l

  -- what a step leaves
  abbrev pub Leaves : TurnDraft → Type 0
  Leaves d = EachLive (Then d.says) d.after.lives d.after.works × Askers Here d.says d.after

  -- a Prepare that came was sent
  abbrev pub Sent : Type 0
  Sent = (from to : BranchId) (b : Bool) (comment : List ℕ) → Came input from to (kinds.Prepare b comment) → was_sent (tells b) said from to ≡ true

  module _ (sent : Sent) where
    -- ---- what becomes of the others

    stay : (says : List Post) → AllSay IsPlain says → (y : Live) (v : Work) → Old y v → Then says y v
    stay says plain y v is = stays_told said says y.me y.parent y.phase (children_of y) (step_from y) (λ c. plain_asks y.me c says plain) is

    quiet : (k : NodeState) → Olds k → (says : List Post) → AllSay IsPlain says → EachLive (Then says) k.lives k.works
    quiet k now says plain = each_same Old (Then says) k.lives k.works now (λ y v live any is. stay says plain y v is)

    left : (k : NodeState) → Olds k → (b : BranchId) (says : List Post) → AllSay IsPlain says → EachLive (Then says) (drop_item live_id k.lives b) (drop_item work_id k.works b)
    left k now b says plain = each_left Old (Then says) k.lives k.works now b (λ y v live other is. stay says plain y v is)

    put : (k : NodeState) → Olds k → (says : List Post) (l : Live) (w : Work) → w.branch ≡ l.me → AllSay IsPlain says → AsTold said l → EachLive (Then says) (put_item live_id k.lives l) (put_item work_id k.works w)
    put k now says l w mine plain is = each_put Old (Then says) k.lives k.works now l w mine (stay says plain l w is) (λ y v live other so. stay says plain y v so)

    -- a working branch
    works : (k : NodeState) → Olds k → (says : List Post) (l : Live) (w : Work) → w.branch ≡ l.me → AllSay IsPlain says → l.phase ≡ phases.Working → EachLive (Then says) (put_item live_id k.lives l) (put_item work_id k.works w)
    works k now says l w mine plain working = put k now says l w mine plain (working_told said l.me l.parent l.phase (children_of l) (step_from l) working)

    answers : (k : NodeState) → Olds k → (x : Branch) (a : Answer) (after : NodeState) → x.work.branch ≡ x.live.me → x.live.phase ≡ phases.Working
        → EachLive (Then (answer_says x a x.live.parent)) (put_item live_id k.lives x.live) (put_item work_id k.works (with_answer x a).work) × Askers Here (answer_says x a x.live.parent) after
    answers k now x a after mine working =
        let plain = answer_plain x a x.live.parent in (works k now (answer_says x a x.live.parent) x.live (with_answer x a).work mine plain working, plain_askers Here (answer_says x a x.live.parent) after plain)

    calls : (k : NodeState) → Olds k → (x : Branch) (i : ℕ) (e : Errand) (ss : List Session) (after : NodeState) → x.work.branch ≡ x.live.me → x.live.phase ≡ phases.Working
        → EachLive (Then (exec_to ss x i e (peer_of x.live i))) (put_item live_id k.lives x.live) (put_item work_id k.works (called ss x i e).work) × Askers Here (exec_to ss x i e (peer_of x.live i)) after
    calls k now x i e ss after mine working =
        let says : List Post = exec_to ss x i e (peer_of x.live i) in
        let plain = exec_plain ss x i e (peer_of x.live i) in (works k now says x.live (called ss x i e).work mine plain working, plain_askers Here says after plain)

    begun : (k : NodeState) → Olds k → (says : List Post) → AllSay IsPlain says → (l : Live) → l.phase ≡ phases.Working → EachLive (Then says) (k.lives ++ l ∷ []) k.works
    begun k now says plain l working =
        each_begun Old (Then says) k.lives k.works now l (working_told (said ++ says) l.me l.parent l.phase (children_of l) (step_from l) working) (λ y v live any is. stay says plain y v is)

    -- ---- the prepare phase

    module _ (k : NodeState) (ss : SessionsFit k) (nodes : Nodes k) (ice : Ices k) (now : Olds k) where
      -- a branch begins its collect as its parent told it, and was working
      collects_told : {comment : List ℕ} {b : Bool} (l : Live) → live_at k l.me ≡ Some l → Collects k input l comment b → (q : BranchId) → l.parent ≡ Some q → was_sent (tells b) said q l.me ≡ true
      collects_told l live (steps.By_commit n given call has free writer is) q above = let none : l.parent ≡ None = root_alone k ss n l.me has l live in absurd (cc (none, above))
      collects_told {comment = comment} l live (steps.By_prepare from b came working) q above =
          let parent : l.parent ≡ Some from = (nodes.each l.me l live).above from (prepared.came from l.me b comment came).0 in
          let it : Some from ≡ Some q = sym parent ∙ above in
          let here : from ≡ q = cc in
          subst (λ a. was_sent (tells b) said a l.me ≡ true) here (sent from l.me b comment came)

      collects_working : {comment : List ℕ} {b : Bool} (l : Live) → live_at k l.me ≡ Some l → Collects k input l comment b → l.phase ≡ phases.Working
      collects_working l live (steps.By_commit n given call has free writer is) =
          (ice.each l.me l live).calls (root_alone k ss n l.me has l live) (stmts.Commit given) (subst (λ m. IsCall input m (stmts.Commit given)) (sym (ss.roots.each n l.me has)) call)
      collects_working l live (steps.By_prepare from b came working) = working

      -- the walk comes to a root
      collects_root : {comment : List ℕ} {b : Bool} (l : Live) → live_at k l.me ≡ Some l → Collects k input l comment b → l.parent ≡ None → Some b ≢ Some false
      collects_root l live (steps.By_commit n given call has free writer is) none at = absurd cc
      collects_root {comment = comment} l live (steps.By_prepare from b came working) none at =
          let parent : l.parent ≡ Some from = (nodes.each l.me l live).above from (prepared.came from l.me b comment came).0 in absurd (cc (parent, none))

      way_so : (q : BranchId) (me : BranchId) (b c : Bool) → Some b ≡ Some c → was_sent (tells b) said q me ≡ true → was_sent (tells c) said q me ≡ true
      way_so q me b c is told = let here : b ≡ c = cc in subst (λ z. was_sent (tells z) said q me ≡ true) here told

      none_at : (i : ℕ) (c : BranchId) → numbered (map peer []) i ≡ Some c → ⊥
      none_at zero c at = absurd cc
      none_at (suc i) c at = absurd cc

      unasked : (l : Live) → live_at k l.me ≡ Some l → l.phase ≡ phases.Working → (c : BranchId) → was_asked said l.me c ≡ false
      unasked l live working c = (ice.each l.me l live).frozen.working working c

      -- one without children has asked nobody
      alone_told : {comment : List ℕ} {b : Bool} (l : Live) → live_at k l.me ≡ Some l → Collects k input l comment b → l.edges ≡ [] → AsTold said (collecting (with_comment l comment) b)
      alone_told {b = b} l live begins none = record {
        way = λ c is q above. way_so q l.me b c is (collects_told l live begins q above);
        root = collects_root l live begins;
        kids = λ other i c at. absurd (none_at i c (subst (λ es. numbered (map peer es) i ≡ Some c) none (subst (λ ps. numbered ps i ≡ Some c) (collected_peers l.edges) at)));
        alone = λ other c asked. (let no : was_asked said l.me c ≡ false = unasked l live (collects_working l live begins) c in absurd (cc (asked, no)));
        below = λ other c told. (let no : was_sent is_below said l.me c ≡ false = unasked_below said l.me c (unasked l live (collects_working l live begins) c) in absurd (cc (told, no)));
        points = λ other i c at there. absurd (none_at i c (subst (λ es. numbered (map peer es) i ≡ Some c) none (subst (λ ps. numbered ps i ≡ Some c) (collected_peers l.edges) there)));
      }

      heard_told : (l : Live) (from : BranchId) (v : Vote) → live_at k l.me ≡ Some l → AsTold said (voted l from v)
      heard_told l from v live = subst₂ (AsToldSo said l.me l.parent l.phase) (sym (voted_peers from v l.edges)) (sym (voted_step l from v)) (now.each l.me l live)

      -- a branch that asks nobody now
      pub acting_told : {l : Live} {b : Bool} {a : Act} → Acting k input l b a → (a ≡ acts.AskDown → ⊥) → AsTold said l
      acting_told (steps.Asks_down l comment b e es live begins has) other = absurd (other refl)
      acting_told (steps.Has_no_children l comment b a live begins none collected) other = alone_told l live begins none
      acting_told (steps.Hears_abort l from b live answers) other = heard_told l from votes.Abort live
      acting_told (steps.Waits_on l from v b live answers kind some) other = heard_told l from v live
      acting_told (steps.Hears_last l from v b a live answers kind all collected) other = heard_told l from v live
      acting_told (steps.At_point l from a live came is pointed) other = now.each l.me l live

      ready_told : (l : Live) → l.phase ≡ phases.Collecting true → AsTold said l → AsTold said (ready l)
      ready_told l at is = record {
        way = λ b so q above. way_so q l.me true b so (is.way true (ap way_of at) q above);
        root = λ above so. absurd cc;
        kids = λ other i c there. is.kids (λ working. absurd (cc (at, working))) i c there;
        alone = λ other c asked. is.alone (λ working. absurd (cc (at, working))) c asked;
        below = λ other c told. (let it = is.below (λ working. absurd (cc (at, working))) c told in (it.0, sym (ready_path l at) ∙ it.1, it.2));
        points = λ other i c path there. is.points (λ working. absurd (cc (at, working))) i c (ready_path l at ∙ path) there;
      }

      -- ---- a branch that asks its children

      module _ (comment : List ℕ) (path : Option ℕ) where
        abbrev asks : Live → List Post
        asks l = prepares l.me comment path 1 l.edges

        asks_no_other : (l : Live) (b c : BranchId) → same l.me b ≡ false → was_asked (asks l) b c ≡ false
        asks_no_other l b c other = by (was_asked (asks l) b c) refl
          where
            by : (q : Bool) → was_asked (asks l) b c ≡ q → q ≡ false
            by false is = refl
            by true is = let here : same l.me b ≡ true = (prepares_ask l.me comment path 1 l.edges b c is).0 in absurd (cc (here, other))

        asks_told : {given : List ℕ} {b : Bool} (l : Live) → live_at k l.me ≡ Some l → Collects k input l given b → (walk : Walk) → path_of b walk ≡ path
            → AsToldSo (said ++ asks (collecting (with_comment l given) b)) l.me l.parent (phases.Collecting b) (children_of (collecting (with_comment l given) b)) walk
        asks_told {given = given} {b = b} l live begins walk goes =
            let y : Live = collecting (with_comment l given) b in
            record {
              way = λ c is q above. sent_more (tells c) said (asks y) q l.me (way_so q l.me b c is (collects_told l live begins q above));
              root = collects_root l live begins;
              kids = λ other i c at. (let new : was_asked (asks y) l.me c ≡ true = prepares_all l.me comment path 1 y.edges i c at in new_more y l.me c new);
              alone = λ other c asked. elim (asked_split said (asks y) l.me c asked) [
                | inl old ↦ (let no : was_asked said l.me c ≡ false = unasked l live (collects_working l live begins) c in absurd (cc (old, no)))
                | inr new ↦ (let there = (prepares_ask l.me comment path 1 y.edges l.me c new).1 in (suc there.0, there.1))
              ];
              below = λ other c told. elim (sent_split is_below said (asks y) l.me c told) [
                | inl old ↦ (let no : was_sent is_below said l.me c ≡ false = unasked_below said l.me c (unasked l live (collects_working l live begins) c) in absurd (cc (old, no)))
                | inr new ↦ (let there = below_place l.me comment path 1 y.edges l.me c new in (suc there.0, goes ∙ (there.1 ∙ ap Some (one_more there.0)), there.2))
              ];
              points = λ other i c at there. sent_new is_below said (asks y) l.me c (pointed_at y i c (sym goes ∙ at) there);
            }
          where
            new_more : (y : Live) (p c : BranchId) → was_asked (asks y) p c ≡ true → was_asked (said ++ asks y) p c ≡ true
            new_more y p c new = sent_new is_prepare said (asks y) p c new

            pointed_at : (y : Live) (i : ℕ) (c : BranchId) → path ≡ Some i → numbered (children_of y) i ≡ Some c → was_sent is_below (asks y) y.me c ≡ true
            pointed_at y zero c at there = absurd cc
            pointed_at y (suc j) c at there = place_below y.me comment path 1 y.edges j c (at ∙ ap Some (sym (one_more j))) there

      asks_down : {l : Live} {b : Bool} → Acting k input l b acts.AskDown → Leaves (act_turn k l b acts.AskDown)
      asks_down (steps.Asks_down l comment b e es live begins has) =
          let y : Live = collecting (with_comment l comment) b in
          let path : Option ℕ = path_of b (step_from y) in (
            each_changed Old (Then (asks comment path y)) k.lives k.works now y (asks_told comment path l live begins (step_from y) refl)
                (λ z v there other is. stays_told said (asks comment path y) z.me z.parent z.phase (children_of z) (step_from z) (λ c. asks_no_other comment path y z.me c other) is),
            (λ p c is. (let here : y.me ≡ p = equal_from_same y.me p (prepares_ask y.me comment path 1 y.edges p c is).0 in record {
              here = subst Here here (nodes.each l.me l live).here;
              live = y;
              way = b;
              found = subst (λ m. item_at live_id (put_item live_id k.lives y) m ≡ Some y) here (put_found live_id k.lives y);
              is_me = here;
              collecting = refl;
              below = λ told. below_true b (step_from y) y.me comment y.edges p c told;
            })),
          )
      asks_down (steps.Has_no_children l comment b _ live begins none collected) = absurd (no_ask collected)
      asks_down (steps.Hears_last l from v b _ live answers other all collected) = absurd (no_ask collected)
      asks_down (steps.At_point l from _ live came is pointed) = elim pointed [ ]

      -- ---- acts

      changed : (l : Live) (says : List Post) (after : NodeState) → AllSay IsPlain says → AsTold said l → EachLive (Then says) (put_item live_id k.lives l) k.works × Askers Here says after
      changed l says after plain is = (each_changed Old (Then says) k.lives k.works now l (stay says plain l (works_of k.works l.me) is) (λ y v live other so. stay says plain y v so), plain_askers Here says after plain)

      leaves : (b : BranchId) (says : List Post) (after : NodeState) → AllSay IsPlain says → EachLive (Then says) (drop_item live_id k.lives b) (drop_item work_id k.works b) × Askers Here says after
      leaves b says after plain = (left k now b says plain, plain_askers Here says after plain)

      acts_told : {l : Live} {b : Bool} (a : Act) → Acting k input l b a → Leaves (act_turn k l b a)
      acts_told {l = l} acts.Rest why = changed l [] _ tt (acting_told why (λ is. absurd cc))
      acts_told {l = l} acts.AskDown why = asks_down why
      acts_told {l = l} acts.SayReady why = changed (ready l) _ _ (one_says IsPlain l.me kinds.Ready l.parent refl) (ready_told l (ready_way why) (acting_told why (λ is. absurd cc)))
      acts_told {l = l} acts.SayReadOnly why = leaves l.me _ _ (one_says IsPlain l.me kinds.ReadOnly l.parent refl)
      acts_told {l = l} acts.Seal why = leaves l.me _ _ (one_says IsPlain l.me kinds.Prepared l.parent refl)
      acts_told {l = l} (acts.SealAndPass i) why = leaves l.me _ _ (one_says IsPlain l.me kinds.CommitPoint (peer_of l i) refl)
      acts_told {l = l} acts.Decide why = leaves l.me _ _ (each_says IsPlain l.me (kinds.Committed (k.clock + 1)) (site_neighbors l) refl)
      acts_told {l = l} acts.Finish why = leaves l.me [] _ tt
      acts_told {l = l} acts.Abandon why = leaves l.me _ _ (all_append (λ x. IsPlain x.kind) (to_one l.me kinds.Abort l.parent) _ (one_says IsPlain l.me kinds.Abort l.parent refl) (rolled l))

    -- ---- every step

    says_told : (k : NodeState) → Olds k → {says : List Post} → Says k input says → AllSay IsPlain says
    says_told k now (steps.Gone_replies to from call task came gone) = (refl, tt)
    says_told k now (steps.Replies_again x to call task t came live last kept) = (refl, tt)
    says_told k now (steps.Tells s from came kept) = (told_says IsPlain plain_decisions (kept_told s from), tt)
    says_told k now (steps.Recovers reco) = askings_say IsPlain plain_decisions k
    says_told k now (steps.Gone_aborts to from b comment came gone) = (refl, tt)
    says_told k now (steps.Gone_rolls_back to from came gone) = (refl, tt)
    says_told k now (steps.Gone_acks to from n came gone) = (refl, tt)
    says_told k now (steps.Gone_forgets to from came gone) = (refl, tt)
    says_told k now (steps.Opened_again to parent edge root depth read_at o came found) = (refl, tt)
    says_told k now (steps.Prepared_again s from b comment came kept again) = (refl, tt)
    says_told k now (steps.Knows_commit s from n came kept knows) = (refl, tt)
    says_told k now (steps.Knows_rollback s from came kept knows) = (refl, tt)
    says_told k now (steps.Is_in_doubt l from came live other) = (refl, tt)

    -- no live branch changes
    same_lives : (k : NodeState) → Olds k → (says : List Post) (after : NodeState) → AllSay IsPlain says → EachLive (Then says) k.lives k.works × Askers Here says after
    same_lives k now says after plain = (quiet k now says plain, plain_askers Here says after plain)

    module _ (p : Place) (place : (b : BranchId) → b.node ≡ p.number → Here b) where
      works_on : {k : NodeState} (ss : SessionsFit k) (nodes : Nodes k) (ice : Ices k) (x : Branch) {s : Stmt} {given : ℕ} → Asked k input x s given → x.live.phase ≡ phases.Working
      works_on {k = k} ss nodes ice x asked = frost.asked_works E A G Here input said received prepared k ss nodes ice asked

      pub told_on : {k : NodeState} {d : TurnDraft} → Step p input k d → SessionsFit k → News (frost.Unasking E A G Here input said received) p input k → Nodes k → Ices k → Olds k → Leaves d
      told_on (steps.Begins {k = k} n s read_at call begins range none step) ss news nodes ice now =
          let root = news.root n s read_at call begins none in
          told_on step (begun_so k ss p n read_at) (begun_news (frost.Unasking E A G Here input said received) p input k n read_at news)
          (drafts.begins_so E A G Here input said received k nodes (fresh_root p k (new_root p k n) read_at) refl (place (new_root p k n) refl) root.0)
          (frost.begins_ice E A G Here input said received prepared k ice (fresh_root p k (new_root p k n) read_at) refl root.1)
          (each_begun Old Old k.lives k.works now (fresh_root p k (new_root p k n) read_at) (working_told said (new_root p k n) None phases.Working [] _ refl) (λ y v live any is. is))
      told_on (steps.Counts_call {k = k} n s call counts step) ss news nodes ice now = told_on step (counted_so k ss n) (counted_news (frost.Unasking E A G Here input said received) p input k n news) nodes ice now
      told_on (steps.Goes_back {k = k} x step goes next) ss news nodes ice now = told_on next (back_so k ss x step) (back_news (frost.Unasking E A G Here input said received) p input k x step news) nodes ice now
      told_on (steps.Pends {k = k} n l given call has live code writer step) ss news nodes ice now = told_on step (pends_so k ss n pending.Commit) (pends_news (frost.Unasking E A G Here input said received) p input k n given call news) nodes ice now
      told_on (steps.Lets_reads_go {k = k} l comment b live begins step) ss news nodes ice now = told_on step (record { roots = ss.roots; above = ss.above }) (lets_news (frost.Unasking E A G Here input said received) p input k l.me news) nodes ice now
      told_on (steps.Counts_ack {k = k} s from kept came counts step) ss news nodes ice now = told_on step (record { roots = ss.roots; above = ss.above }) (acked_news (frost.Unasking E A G Here input said received) p input k _ news) nodes ice now
      told_on (steps.Sends {k = k} posts why) ss news nodes ice now = same_lives k now posts _ (says_told k now why)
      told_on (steps.Runs {k = k} x s given t asked way) ss news nodes ice now =
          answers k now (branch_ran k.sessions x t (ran p k x.live.me s t)) _ _ (drafts.asked_mine E A G Here input said received k asked) (works_on ss nodes ice x asked)
      told_on (steps.Goes_nowhere {k = k} x s given r asked way) ss news nodes ice now = answers k now x _ _ (drafts.asked_mine E A G Here input said received k asked) (works_on ss nodes ice x asked)
      told_on (steps.Calls {k = k} x s given i table asked way) ss news nodes ice now = calls k now x i (errands.Statement (passed_on s table) given) k.sessions _ (drafts.asked_mine E A G Here input said received k asked) (works_on ss nodes ice x asked)
      told_on (steps.Opens {k = k} x s given node link table asked way) ss news nodes ice now =
          let says : List Post = post x.live.me (nobody_at node) (kinds.Open (next_edge x.live) x.live.root (x.live.depth + 1) x.live.read_at) in
          (works k now says x.live (waits_for_opened x link (passed_on s table) given).work (drafts.asked_mine E A G Here input said received k asked) (refl, tt) (works_on ss nodes ice x asked), plain_askers Here says _ (refl, tt))
      told_on (steps.Goes_on {k = k} x from strength g link opened) ss news nodes ice now =
          calls k now (with_edge x (new_edge from link strength)) (length x.live.edges + 1) (less_room g.errand) k.sessions _ (work_is k x.live.me x opened.live)
          (frost.waits_working E A G Here input said received prepared k ss nodes ice x g opened.live opened.going)
      told_on (steps.Hears_reply {k = k} x weight count a i e answered) ss news nodes ice now =
          let g = going_of x answered.from answered.call i e answered.waits in
          answers k now (hears_reply x i weight count e) _ _ (work_is k x.live.me x answered.live) (frost.waits_working E A G Here input said received prepared k ss nodes ice x g.0 answered.live g.1)
      told_on (steps.Backs {k = k} x step from i calling next) ss news nodes ice now =
          calls k now x i (errands.GoBack step) k.sessions _ (drafts.calling_mine E A G Here input said received k calling) (frost.calling_working E A G Here input said received prepared k ss nodes ice calling)
      told_on (steps.Is_back {k = k} x step from calling none) ss news nodes ice now =
          answers k now x _ _ (drafts.calling_mine E A G Here input said received k calling) (frost.calling_working E A G Here input said received prepared k ss nodes ice calling)
      told_on (steps.Opens_branch {k = k} to parent edge root depth read_at came new) ss news nodes ice now =
          let says : List Post = post (next_child p k) parent (kinds.Opened edge (strength_of p k)) in
          (begun k now says (refl, tt) (fresh_live (next_child p k) root (Some parent) depth (strength_of p k) read_at) refl, plain_askers Here says _ (refl, tt))
      told_on (steps.Acts {k = k} l b a why) ss news nodes ice now = acts_told k ss nodes ice now a why
      told_on (steps.Drops_told {k = k} l live drops) ss news nodes ice now = (left k now l.me _ (rolled l), plain_askers Here _ _ (rolled l))
      told_on (steps.Drops_asked {k = k} l from live came parent) ss news nodes ice now = (left k now l.me _ (refl, rolled l), plain_askers Here _ _ (refl, rolled l))
      told_on (steps.Does {k = k} s from (nexts.End d) kept why) ss news nodes ice now = same_lives k now _ _ (passes_say IsPlain plain_decisions s d)
      told_on (steps.Does {k = k} s from (nexts.Meet d mixed) kept why) ss news nodes ice now = same_lives k now _ _ (passes_say IsPlain plain_decisions s d)
      told_on (steps.Does {k = k} s from nexts.AckToward kept why) ss news nodes ice now = same_lives k now _ _ (one_says IsPlain s.me kinds.Ack s.toward refl)
      told_on (steps.Does {k = k} s from nexts.Forget kept why) ss news nodes ice now = same_lives k now _ _ (each_says IsPlain s.me kinds.Forgotten (map (λ b. b.branch) (beyond s)) refl)
      told_on (steps.Does {k = k} s from nexts.SayForgotten kept why) ss news nodes ice now = same_lives k now _ _ (refl, tt)
      told_on (steps.Does {k = k} s from nexts.SayAck kept why) ss news nodes ice now = same_lives k now _ _ (refl, tt)
      told_on (steps.Leaves {k = k} n s d x call ends has live) ss news nodes ice now = (left k now x.live.me _ (rolled x.live), plain_askers Here _ _ (rolled x.live))
      told_on (steps.Sets_savepoint {k = k} n x name call has code live) ss news nodes ice now =
          (put k now [] x.live (marked k.sessions x name).work (work_is k x.live.me x live) tt (now.each x.live.me x.live (branch_parts k x.live.me x live).0), plain_askers Here [] _ tt)
      told_on (steps.Gives_up {k = k} n x gives has calls live) ss news nodes ice now =
          (put k now [] x.live (gives_up x).work (work_is k x.live.me x live) tt (now.each x.live.me x.live (branch_parts k x.live.me x live).0), plain_askers Here [] _ tt)
      told_on (steps.Gives_up_commit {k = k} n b (Some l) gives has calls live) ss news nodes ice now = (left k now l.me _ (rolled l), plain_askers Here _ _ (rolled l))
      told_on {k = k} _ ss news nodes ice now = same_lives k now [] _ tt
