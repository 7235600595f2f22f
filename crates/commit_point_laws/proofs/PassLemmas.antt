-- A branch that becomes sealed, and told a child that the walk to the commit point site comes there, passes CommitPoint on to
-- that child. Whom CommitPoint is sent said Ready, or has left.
use Rattle.std.proofs.Common.{◌≡◌, ◌≢◌, ℕ, zero, suc, Bool, true, false, List, [], map, Option, Some, None, inl, inr, refl, sym, ap, subst, ◌∙◌}
use Rattle.std.specs.Prelude.{◌⊎◌}
use Rattle.std.specs.List.{AllByRecursion}
use Rattle.session_tree.specs.Live.{children_of, peer_of}
use Rattle.session_tree.specs.Tree.{step}
use Rattle.session_tree.specs.declared.act.Walk.TheVariants as walks
use Rattle.agreement.specs.Events.{Exit, Sealed, Quiet, exit}
use Rattle.node_rules.specs.Data.{BranchId, Edge, Kind, Live, Place, Post, RedoRecord}
use Rattle.node_rules.specs.Data.acts
use Rattle.node_rules.specs.Data.kinds
use Rattle.node_rules.specs.Data.phases
use Rattle.node_rules.specs.Data.records
use Rattle.node_rules.specs.Words.{numbered}
use Rattle.node_rules.specs.NodeState.{NodeState, Branch, TurnDraft, live_at, branch_at, work_at, with_work, to_one}
use Rattle.node_rules.specs.Points.{is_ready}
use Rattle.node_rules.specs.Prepare.{voted}
use Rattle.node_rules.specs.Turn.{heard, draft_of}
use Rattle.node_rules.proofs.Steps as steps
use Rattle.node_rules.proofs.Steps.{Acting, Collected, Pointed}
use Rattle.run_rules.specs.Data.{Turn, Happening}
use Rattle.run_rules.specs.Data.happenings
use Rattle.run_rules.specs.Facts.{place_at}
use Rattle.run_base_laws.specs.FreezeLaws.{was_asked}
use Rattle.run_base_laws.specs.InTurnLaws.{said_in}
use Rattle.run_rules.specs.Lawful.{MayHappen, MayTurn, History, IsLawfulRun, facts_at}
use Rattle.run_base_laws.specs.RunEvents.{events_of}
use Rattle.run_rules.specs.Trail.{is_prepare}
use Rattle.run_branch_laws.specs.WalkLaws.{is_below, was_sent}
use Rattle.run_branch_laws.proofs.FreezeLemmas.{working_or}
use Rattle.run_branch_laws.proofs.FreezeRunLemmas.{asked_stand_still}
use Rattle.run_base_laws.proofs.InTurnLemmas.{numbered_map}
use Rattle.run_base_laws.proofs.KindSayLemmas.{AllSay, one_says}
use Rattle.run_base_laws.proofs.LawfulLemmas.{serves}
use Rattle.run_branch_laws.proofs.VoteLemmas.{votes_are_of_sealed}
use Rattle.tree_laws.specs.AskLaws.{path_on}
use Rattle.tree_laws.proofs.AskLemmas.{sent_wider, below_asks, voted_step}
use Rattle.tree_laws.proofs.AskRunLemmas.{paths_are_told}
use Rattle.tree_laws.proofs.AskStepLemmas.{voted_peers}
use Rattle.tree_laws.proofs.PrefixLemmas.{so_far, f_at}
use Rattle.tree_laws.proofs.SettleLemmas.{live_in}
use Rattle.tree_laws.proofs.WhyLemmas.{Near, seal_act}
use Rattle.tree_laws.proofs.FrozenLemmas.{edge_to, path_down}
use Rattle.tree_laws.proofs.TimeLemmas.{Part, part_of, part_lawful, may_of, exit_end, sent_end}
use Rattle.commit_laws.proofs.NetLemmas.{numbered_all}
use Rattle.commit_point_laws.specs.PointLaws.{is_point, PointsFindReady}
use Rattle.commit_point_laws.proofs.MomentLemmas.{SentIn, found_in, turn_says, sent_in}
use Rattle.commit_point_laws.proofs.OverLemmas.{Passes_on, EdgeOver, edges_over}
use Rattle.commit_point_laws.proofs.PointStepLemmas.{IsOther, PointWhy, SealsSo, seal_says, point_why}
use Rattle.tree_laws.proofs.AtPart.{at_part}

-- ---- acts

pub none_at : (i : ℕ) (x : BranchId) (es : List Edge) → es ≡ [] → numbered (map (λ e. e.peer) es) i ≡ Some x → ⊥
none_at i x es none at = nowhere i (subst (λ (ys : List Edge). numbered (map (λ e. e.peer) ys) i ≡ Some x) none at)
  where
    nowhere : (j : ℕ) → numbered (map (λ (e : Edge). e.peer) []) j ≡ Some x → ⊥
    nowhere zero it = absurd cc
    nowhere (suc j) it = absurd cc

seal_off : {l : Live} {b : Bool} → Collected l b acts.Seal → b ≡ false
seal_off (steps.Is_prepared some) = refl

pass_on : {l : Live} {b : Bool} {i : ℕ} → Collected l b (acts.SealAndPass i) → (b ≡ true) × (step l ≡ walks.Down i)
pass_on (steps.Passes i none is) = (refl, is)

point_on : {l : Live} {i : ℕ} → Pointed l (acts.SealAndPass i) → step l ≡ walks.Down i
point_on (steps.Points_on i is) = is

module _ (t : History) (before : List Happening) (lawful : IsLawfulRun (so_far t before)) (u : Turn) (k : NodeState) (may : MayTurn t.places (f_at t before) u k) where
  open at_part t before use {s, said}

  abbrev k0 : NodeState
  k0 = heard k u.input

  -- whom it told so it asked
  pub told_kid : (l : Live) → live_at k l.me ≡ Some l → (c : BranchId) → was_sent is_below said l.me c ≡ true → (l.phase ≢ phases.Working) × ((i : ℕ) × (path_on l.phase (step l) ≡ Some i) × (numbered (children_of l) i ≡ Some c))
  told_kid l live c told = elim (working_or l.phase) [
    | inl working ↦ (let y : Branch = record { live = l; work = work_at k l.me } in
        let found : branch_at k l.me ≡ Some y = ap (with_work k) live in
        let no : was_asked said l.me c ≡ false = (asked_stand_still s lawful u.node k may.up y found).0 working c in
        let yes : was_asked said l.me c ≡ true = sent_wider is_below is_prepare below_asks said l.me c told in
        absurd (cc (yes, no)))
    | inr other ↦ (other, (paths_are_told s lawful u.node k may.up l live other).0 c told)
  ]

  no_kids : (l : Live) → live_at k l.me ≡ Some l → l.edges ≡ [] → (c : BranchId) → was_sent is_below said l.me c ≡ true → ⊥
  no_kids l live none c told = let kid = told_kid l live c told in none_at kid.1.0 c l.edges none kid.1.2

  -- by the step of a branch to the child of a number
  passes_down : (l : Live) → live_at k l.me ≡ Some l → (i : ℕ) → step l ≡ walks.Down i → (c : BranchId) → was_sent is_below said l.me c ≡ true → numbered (children_of l) i ≡ Some c
  passes_down l live i down c told =
      let kid = told_kid l live c told in
      let there : step l ≡ walks.Down kid.1.0 = path_down l.phase (step l) kid.1.0 kid.1.1 in
      let both : walks.Down kid.1.0 ≡ walks.Down i = sym there ∙ down in
      let same : kid.1.0 ≡ i = cc in
      subst (λ j. numbered (children_of l) j ≡ Some c) same kid.1.2

  -- a branch that becomes sealed passes CommitPoint on to the child that it told so
  pub passes_to : (at : NodeState) → Near k0 at → {l : Live} {b : Bool} (path : Option ℕ) → Acting at u.input l b (seal_act path) → (c : BranchId) → was_sent is_below said l.me c ≡ true → (i : ℕ) × (path ≡ Some i) × (peer_of l i ≡ Some c)
  passes_to at near None (steps.Has_no_children l comment b _ live begins none collected) c told = absurd (no_kids l (live_in t before lawful u k may at near l live) none c told)
  passes_to at near None (steps.Hears_last l from v b _ live answers other all collected) c told =
      let phase : l.phase ≡ phases.Collecting b = answers.collecting in
      let off : l.phase ≡ phases.Collecting false = phase ∙ ap phases.Collecting (seal_off collected) in
      let kid = told_kid l (live_in t before lawful u k may at near l live) c told in
      let none : path_on l.phase (step l) ≡ None = ap (λ ph. path_on ph (step l)) off in
      let some : path_on l.phase (step l) ≡ Some kid.1.0 = kid.1.1 in
      absurd (cc (none, some))
  passes_to at near None (steps.At_point l from _ live came is pointed) c told = elim pointed [ ]
  passes_to at near (Some i) (steps.Has_no_children l comment b _ live begins none collected) c told = absurd (no_kids l (live_in t before lawful u k may at near l live) none c told)
  passes_to at near (Some i) (steps.Hears_last l from v b _ live answers other all collected) c told =
      let here : live_at k l.me ≡ Some l = live_in t before lawful u k may at near l live in
      let down : step l ≡ walks.Down i = sym (voted_step l from v) ∙ (pass_on collected).1 in
      let there : numbered (children_of l) i ≡ Some c = passes_down l here i down c told in
      (i, refl, sym (numbered_map (voted l from v).edges i) ∙ (ap (λ ps. numbered ps i) (voted_peers from v l.edges) ∙ there))
  passes_to at near (Some i) (steps.At_point l from _ live came is pointed) c told =
      let here : live_at k l.me ≡ Some l = live_in t before lawful u k may at near l live in
      let there : numbered (children_of l) i ≡ Some c = passes_down l here i (point_on pointed) c told in
      (i, refl, sym (numbered_map l.edges i) ∙ there)

-- ---- whom CommitPoint is sent

no_point : (xs : List Post) (p c : BranchId) → AllSay IsOther xs → was_sent is_point xs p c ≡ true → ⊥
no_point xs p c all sent = let found = found_in is_point (λ a b kind. IsOther kind) p c xs all sent in absurd (cc (found.1, found.2))

one_goes : (me : BranchId) (kind : Kind) (o : Option BranchId) → AllByRecursion (λ x. (me ≡ x.from) × (o ≡ Some x.to)) (to_one me kind o)
one_goes me kind None = tt
one_goes me kind (Some q) = ((refl, refl), tt)

module _ (t : History) (whole : IsLawfulRun t) (p c : BranchId) (it : SentIn t whole is_point p c) where
  open it use {before as hs, turn as u}

  abbrev h : Happening
  h = happenings.Turn u

  part : Part t whole hs
  part = part_of t whole hs h it.later it.is

  lawful : IsLawfulRun (so_far t hs)
  lawful = part_lawful t whole hs part

  may : MayHappen t.places t.commands (f_at t hs) h
  may = may_of t whole hs h it.later it.is

  abbrev k : NodeState
  k = may.0

  abbrev place : Place
  place = place_at t.places u.node

  abbrev d : TurnDraft
  d = draft_of place k u.input

  open at_part t hs use {e, said as told}

  -- what is to be shown
  abbrev Finds : Type 0
  Finds = (was_sent is_ready (said_in (facts_at t)) c p ≡ true) ⊎ (exit (events_of t) c ≢ None)

  left_before : (z : Exit) → exit e c ≡ Some z → Finds
  left_before z left = inr (λ none. (let end : exit (events_of t) c ≡ Some z = exit_end t whole hs part c z left in absurd (cc (end, none))))

  by_edge : (x : Edge) → x.peer ≡ c → EdgeOver e told p x → Finds
  by_edge x peer (inl vote) = (let sealed = votes_are_of_sealed (so_far t hs) lawful x.peer vote.0 vote.1 in left_before (Sealed sealed.0) (subst (λ b. exit e b ≡ Some (Sealed sealed.0)) peer sealed.1))
  by_edge x peer (inr (inl quiet)) = left_before Quiet (subst (λ b. exit e b ≡ Some Quiet) peer quiet)
  by_edge x peer (inr (inr ready)) = inl (sent_end t whole hs part is_ready c p (subst (λ b. was_sent is_ready told b p ≡ true) peer ready.0))

  sent_d : was_sent is_point d.says p c ≡ true
  sent_d = (turn_says t hs u k may.1 is_point p c it.says).1

  by_path : (r : BranchId) (so : SealsSo (heard k u.input) u.input d.says r) (path : Option ℕ) → so.path ≡ path → Finds
  by_path r so None is =
      let says : d.says ≡ to_one so.live.me kinds.Prepared so.live.parent = so.says_it ∙ ap (seal_says so.live) is in
      absurd (no_point d.says p c (subst (AllSay IsOther) (sym says) (one_says IsOther so.live.me kinds.Prepared so.live.parent refl)) sent_d)
  by_path r so (Some i) is =
      let l : Live = so.live in
      let says : d.says ≡ to_one l.me kinds.CommitPoint (peer_of l i) = so.says_it ∙ ap (seal_says l) is in
      let goes = found_in is_point (λ a b kind. (l.me ≡ a) × (peer_of l i ≡ Some b)) p c d.says (subst (λ xs. AllByRecursion (λ x. (l.me ≡ x.from) × (peer_of l i ≡ Some x.to)) xs) (sym says) (one_goes l.me kinds.CommitPoint (peer_of l i))) sent_d in
      let acting : Acting so.acts_in.here u.input l so.site_below (acts.SealAndPass i) = subst (λ o. Acting so.acts_in.here u.input l so.site_below (seal_act o)) is so.acts_in.acting in
      let all : AllByRecursion (EdgeOver e told l.me) l.edges = edges_over t hs lawful u k may.1 so.acts_in.here so.acts_in.near acting (Passes_on i) in
      let edge = edge_to l.edges i c (numbered_map l.edges i ∙ goes.2.1) in
      by_edge edge.0 edge.2 (subst (λ b. EdgeOver e told b edge.0) goes.2.0 (numbered_all (EdgeOver e told l.me) l.edges i edge.0 all edge.1))

  by_record : (w : Option RedoRecord) → PointWhy (heard k u.input) u.input d.says w → Finds
  by_record (Some (records.Sealed r)) why = by_path r.me why why.path refl
  by_record None why = absurd (no_point d.says p c why sent_d)
  by_record (Some (records.Decided r)) why = absurd (no_point d.says p c why sent_d)
  by_record (Some (records.Ended b x)) why = absurd (no_point d.says p c why sent_d)
  by_record (Some (records.Forced b x given)) why = absurd (no_point d.says p c why sent_d)
  by_record (Some (records.Met b x mixed)) why = absurd (no_point d.says p c why sent_d)
  by_record (Some (records.Forgot b)) why = absurd (no_point d.says p c why sent_d)
  by_record (Some (records.Table x)) why = absurd (no_point d.says p c why sent_d)
  by_record (Some _) why = absurd (no_point d.says p c why sent_d)

  pub finds : Finds
  finds = by_record d.wrote (point_why (heard k u.input) u.input place (serves t.places (f_at t hs) u k may.1).step (λ no. record { lives = refl; clock = refl }))

pub points_find_ready : PointsFindReady
points_find_ready t whole p c sent = finds t whole p c (sent_in t whole is_point p c sent)
