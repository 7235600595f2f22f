-- The neighbours beyond a branch that becomes sealed, or decides, are sealed: the children that its record names answered
-- Prepared, but for the one that the walk goes to, and the parent from which the walk comes sent CommitPoint.
use Rattle.std.proofs.Common.{◌≡◌, ◌≢◌, ℕ, suc, ◌+◌, ◌⊎◌, Bool, true, false, List, [], ◌∷◌, map, Option, Some, None, inl, inr, refl, sym, ap, subst, ◌∙◌, arith}
use Rattle.std.specs.Prelude.{IfSome}
use Rattle.std.specs.List.{AllByRecursion}
use Rattle.tran_ids.proofs.BranchLemmas.{same_from_equal}
use Rattle.commit_forget.specs.declared.next.Beyond.{Beyond}
use Rattle.commit_forget.specs.Beyond.{beyond, parent_beyond}
use Rattle.prepare_phase.specs.Records.{named_children, is_prepared, is_prepared_answer, sealed_of, decided_of}
use Rattle.redo_record.specs.Rows.{sealed_as, decided_as, toward_of}
use Rattle.session_tree.specs.Live.{is_branch, children_of}
use Rattle.session_tree.specs.Tree.{step}
use Rattle.node_rules.specs.Data.{Act, BranchId, Edge, Live, Peer, RedoRecord, KeptRow, Vote, Sealed as SealedRecord, Decided as DecidedRecord}
use Rattle.node_rules.specs.Data.acts
use Rattle.node_rules.specs.Data.phases
use Rattle.node_rules.specs.Data.records
use Rattle.node_rules.specs.Data.votes
use Rattle.node_rules.specs.Data.walks
use Rattle.node_rules.specs.Words.{numbered}
use Rattle.node_rules.specs.NodeState.{NodeState, TurnDraft, live_at}
use Rattle.node_rules.specs.Prepare.{voted, with_prepare_sent}
use Rattle.node_rules.specs.Turn.{heard, draft_of}
use Rattle.node_rules.proofs.Steps as steps
use Rattle.node_rules.proofs.Steps.{Acting, Collected}
use Rattle.run_rules.specs.Births.{Born}
use Rattle.run_base_laws.specs.BirthLaws.{Began, LiveIs}
use Rattle.run_rules.specs.Data.{Turn, Happening}
use Rattle.run_rules.specs.Facts.{place_at}
use Rattle.run_branch_laws.specs.HeardLaws.{VoteIs, EdgeIs}
use Rattle.run_rules.specs.Lawful.{MayTurn, History, IsLawfulRun}
use Rattle.run_branch_laws.specs.WalkLaws.{is_below, is_above, was_sent}
use Rattle.run_base_laws.proofs.LawfulLemmas.{serves}
use Rattle.run_rules.proofs.ListLemmas.{all_weaker, all_each, all_append}
use Rattle.run_branch_laws.proofs.VoteLemmas.{votes_are_of_sealed}
use Rattle.tree_laws.specs.AskLaws.{path_on}
use Rattle.tree_laws.specs.Forests.{comes_to}
use Rattle.tree_laws.specs.RecordLaws.{LeadsToward, RecordLeads}
use Rattle.tree_laws.proofs.AskLemmas.{voted_step}
use Rattle.tree_laws.proofs.AskRunLemmas.{paths_are_told}
use Rattle.tree_laws.proofs.AskStepLemmas.{voted_peers}
use Rattle.tree_laws.proofs.ForestLemmas as trees
use Rattle.tree_laws.proofs.ForestRunLemmas.{run_known}
use Rattle.tree_laws.proofs.PrefixLemmas.{so_far, f_at}
use Rattle.tree_laws.proofs.SettleLemmas as settle
use Rattle.tree_laws.proofs.SettleLemmas.{Settling, Seals, Passes_on, Decides, above_heard}
use Rattle.tree_laws.proofs.WhyLemmas.{Near, ActsIn, WroteWhy, seal_act, why_on}
use Rattle.commit_forget_laws.specs.RowLaws.{IsSealed}
use Rattle.commit_forget_laws.proofs.RowStepLemmas.{RecordVoted}
use Rattle.commit_forget_laws.proofs.NamedLemmas.{named_so, kids_so, parent_so}
use Rattle.tree_laws.proofs.AtPart.{at_part}

module _ (t : History) (before : List Happening) (lawful : IsLawfulRun (so_far t before)) (u : Turn) (k : NodeState) (may : MayTurn t.places (f_at t before) u k) where
  open at_part t before use {s, f, e, bs, said}

  abbrev k0 : NodeState
  k0 = heard k u.input

  abbrev d : TurnDraft
  d = draft_of (place_at t.places u.node) k u.input

  known : trees.Known bs said
  known = run_known s lawful

  -- the branch began, with this parent
  abbrev BornSo : BranchId → Option BranchId → Type 0
  BornSo me parent = (x : Born) × Began bs x × (x.me ≡ me) × (x.parent ≡ parent)

  placed : (l : Live) → live_at k l.me ≡ Some l → BornSo l.me l.parent
  placed l live = (let b : LiveIs (Began bs) l = settle.born_of t before lawful u k may l live in (b.born, b.began, b.is_me, b.is_parent))

  -- ---- answers

  sealed_vote : (b : BranchId) (v : Vote) → VoteIs e k0.clock b v → v ≡ votes.Prepared → IsSealed e b
  sealed_vote b votes.Prepared is at = let sealed = votes_are_of_sealed s lawful b is.0 is.1 in (sealed.0, sealed.1)
  sealed_vote b _ is at = absurd cc

  prepared_is : (v : Vote) → is_prepared_answer v ≡ true → v ≡ votes.Prepared
  prepared_is votes.Prepared is = refl
  prepared_is _ is = absurd cc

  prepared_edges : (es : List Edge) → AllByRecursion (EdgeIs e k0.clock) es → AllByRecursion (λ y. is_prepared y ≡ true → IsSealed e y.peer) es
  prepared_edges es all = all_weaker (EdgeIs e k0.clock) (λ y. is_prepared y ≡ true → IsSealed e y.peer) (λ y is prepared. sealed_vote y.peer y.vote is (prepared_is y.vote prepared)) es all

  -- ---- the children that a record names

  abbrev On : BranchId → BranchId → Type 0
  On me c = was_sent is_below said me c ≡ true

  abbrev NamedSo : BranchId → List Peer → Type 0
  NamedSo me ps = AllByRecursion (λ (q : Peer). IsSealed e q.branch ⊎ On me q.branch) ps

  none_there : (es : List Edge) → es ≡ [] → (j : ℕ) (c : BranchId) → numbered (map (λ (y : Edge). y.peer) es) (suc j) ≡ Some c → ⊥
  none_there [] none j c at = absurd cc
  none_there (y ∷ es) none j c at = absurd cc

  paths : (l : Live) → live_at k l.me ≡ Some l → l.phase ≢ phases.Working → (i : ℕ) (c : BranchId) → path_on l.phase (step l) ≡ Some i → numbered (children_of l) i ≡ Some c → On l.me c
  paths l live busy i c at there = (paths_are_told s lawful u.node k may.up l live busy).1 i c at there

  down_of : {l : Live} {b : Bool} {i : ℕ} → Collected l b (acts.SealAndPass i) → (b ≡ true) × (step l ≡ walks.Down i)
  down_of (steps.Passes i none is) = (refl, is)

  -- of a branch that passes the walk on
  passing : (i : ℕ) (at : NodeState) → Near k0 at → {l : Live} {b : Bool} → Acting at u.input l b (acts.SealAndPass i) → NamedSo l.me (named_children (Some i) 1 l.edges)
  passing i at near (steps.Has_no_children l comment b _ live begins none collected) =
      named_so (IsSealed e) (On l.me) (Some i) 1 (map with_prepare_sent l.edges)
      (prepared_edges (map with_prepare_sent l.edges) (all_each (EdgeIs e k0.clock) with_prepare_sent l.edges (λ y. tt)))
      (λ j c there is. absurd (none_there (map with_prepare_sent l.edges) (ap (λ es. map with_prepare_sent es) none) j c there))
  passing i at near (steps.Hears_last l from v b _ live answers other all collected) =
      let here : live_at k l.me ≡ Some l = settle.live_in t before lawful u k may at near l live in
      let busy : l.phase ≢ phases.Working = (λ is. (let phase = answers.collecting in absurd (cc (phase, is)))) in
      let down = down_of collected in
      let way : path_on l.phase (step l) ≡ Some i = ap (λ ph. path_on ph (step l)) (answers.collecting ∙ ap phases.Collecting down.0) ∙ ap (path_on (phases.Collecting true)) (sym (voted_step l from v) ∙ down.1) in
      named_so (IsSealed e) (On l.me) (Some i) 1 (voted l from v).edges (prepared_edges (voted l from v).edges (settle.voted_edges t before lawful u k may l from v b here answers))
      (λ j c there is. paths l here busy (suc j) c (way ∙ (is ∙ ap Some (omega arith))) (subst (λ ps. numbered ps (suc j) ≡ Some c) (voted_peers from v l.edges) there))
  passing i at near (steps.At_point l from _ live came is (steps.Points_on _ goes)) =
      let here : live_at k l.me ≡ Some l = settle.live_in t before lawful u k may at near l live in
      let busy : l.phase ≢ phases.Working = (λ working. absurd (cc (is, working))) in
      let way : path_on l.phase (step l) ≡ Some i = ap (λ ph. path_on ph (step l)) is ∙ ap (path_on phases.Ready) goes in
      named_so (IsSealed e) (On l.me) (Some i) 1 l.edges (prepared_edges l.edges (settle.answers_now t before lawful u k may l here)) (λ j c there at_place. paths l here busy (suc j) c (way ∙ (at_place ∙ ap Some (omega arith))) there)

  -- of one that does not
  staying : (at : NodeState) → Near k0 at → {l : Live} {b : Bool} {a : Act} → Acting at u.input l b a → NamedSo l.me (named_children None 1 l.edges)
  staying at near {l = l} why = named_so (IsSealed e) (On l.me) None 1 l.edges (prepared_edges l.edges (edges_of why)) (λ j c there is. absurd cc)
    where
      edges_of : {y : Live} {b : Bool} {a : Act} → Acting at u.input y b a → AllByRecursion (EdgeIs e k0.clock) y.edges
      edges_of (steps.Asks_down y comment b x es live begins some) = all_each (EdgeIs e k0.clock) with_prepare_sent y.edges (λ z. tt)
      edges_of (steps.Has_no_children y comment b a live begins none collected) = all_each (EdgeIs e k0.clock) with_prepare_sent y.edges (λ z. tt)
      edges_of (steps.Hears_abort y from b live answers) = settle.voted_edges t before lawful u k may y from votes.Abort b (settle.live_in t before lawful u k may at near y live) answers
      edges_of (steps.Waits_on y from v b live answers other some) = settle.voted_edges t before lawful u k may y from v b (settle.live_in t before lawful u k may at near y live) answers
      edges_of (steps.Hears_last y from v b a live answers other all collected) = settle.voted_edges t before lawful u k may y from v b (settle.live_in t before lawful u k may at near y live) answers
      edges_of (steps.At_point y from a live came is pointed) = settle.answers_now t before lawful u k may y (settle.live_in t before lawful u k may at near y live)

  -- ---- the way

  -- the child that is told that the walk comes there is toward
  on_toward : (me : BranchId) (parent : Option BranchId) → BornSo me parent → (o : Option BranchId) → LeadsToward said me parent o → (c : BranchId) → On me c → is_branch c o ≡ true
  on_toward me parent born None leads c on = (let no = leads.1 c in absurd (cc (no, on)))
  on_toward me parent born (Some q) (inl up) c on =
      let heard_above = known.walk me c on in
      let it : heard_above.0 ≡ born.0 = trees.same_born bs said known heard_above.0 born.0 heard_above.1 born.1 (heard_above.2 ∙ sym born.2) in
      let above : heard_above.0.parent ≡ Some q = ap (λ (x : Born). x.parent) it ∙ (born.3 ∙ up.0) in
      let below : was_sent is_below said q me ≡ true = heard_above.3 q above in
      let no : was_sent is_above said q me ≡ false = (known.one q me below).0 in
      let yes = up.1 in
      absurd (cc (no, yes))
  on_toward me parent born (Some q) (inr down) c on = same_from_equal q c ((known.one me q down.1).1 c on)

  -- the walk comes from a parent that is not toward
  comes_from : (me : BranchId) (parent o : Option BranchId) → LeadsToward said me parent o → (x : BranchId) → parent ≡ Some x → is_branch x o ≡ false → was_sent is_below said x me ≡ true
  comes_from me parent None leads x above off = sym (ap (comes_to said me) above) ∙ leads.0
  comes_from me parent (Some q) (inl up) x above off =
      let both : Some q ≡ Some x = sym up.0 ∙ above in
      let it : q ≡ x = cc in
      let on : is_branch x (Some q) ≡ true = same_from_equal q x it in
      absurd (cc (on, off))
  comes_from me parent (Some q) (inr down) x above off = sym (ap (comes_to said me) above) ∙ down.0

  live_of : (at : NodeState) → Near k0 at → {l : Live} {b : Bool} {a : Act} → Acting at u.input l b a → BornSo l.me l.parent
  live_of at near (steps.Asks_down l comment b x es live begins some) = placed l (settle.live_in t before lawful u k may at near l live)
  live_of at near (steps.Has_no_children l comment b a live begins none collected) = placed l (settle.live_in t before lawful u k may at near l live)
  live_of at near (steps.Hears_abort l from b live answers) = placed l (settle.live_in t before lawful u k may at near l live)
  live_of at near (steps.Waits_on l from v b live answers other some) = placed l (settle.live_in t before lawful u k may at near l live)
  live_of at near (steps.Hears_last l from v b a live answers other all collected) = placed l (settle.live_in t before lawful u k may at near l live)
  live_of at near (steps.At_point l from a live came is pointed) = placed l (settle.live_in t before lawful u k may at near l live)

  module _ {l : Live} {b : Bool} {a : Act} (acts_in : ActsIn k0 u.input l b a) (settles : Settling a) where
    born : BornSo l.me l.parent
    born = live_of acts_in.here acts_in.near acts_in.acting

    parent_sealed : (x : BranchId) → was_sent is_below said x l.me ≡ true → IsSealed e x
    parent_sealed x told =
        let up = above_heard t before lawful u k may bs said known (λ y began. began) (λ kind q c is. is) acts_in.here acts_in.near acts_in.acting settles x told in
        let sealed = votes_are_of_sealed s lawful x up.1.0 up.1.1 in (sealed.0, sealed.1)

    kids_sealed : (toward : Option BranchId) → LeadsToward said l.me l.parent toward → (ps : List Peer) → NamedSo l.me ps → AllByRecursion (λ (q : Peer). IsSealed e q.branch ⊎ (is_branch q.branch toward ≡ true)) ps
    kids_sealed toward leads ps named = all_weaker _ _ (λ q is. elim is [ inl sealed ↦ inl sealed | inr on ↦ inr (on_toward l.me l.parent born toward leads q.branch on) ]) ps named

    above_sealed : (y : KeptRow) → y.me ≡ l.me → LeadsToward said l.me l.parent y.toward → AllByRecursion (λ (z : Beyond). IsSealed e z.branch) (parent_beyond y l.parent)
    above_sealed y me leads = parent_so (IsSealed e) y l.parent (λ q at off. parent_sealed q (comes_from l.me l.parent y.toward leads q at off))

  named_path : (path : Option ℕ) {l : Live} {b : Bool} → ActsIn k0 u.input l b (seal_act path) → NamedSo l.me (named_children path 1 l.edges)
  named_path None acts_in = staying acts_in.here acts_in.near acts_in.acting
  named_path (Some i) acts_in = passing i acts_in.here acts_in.near acts_in.acting

  seal_settles : (path : Option ℕ) → Settling (seal_act path)
  seal_settles None = Seals
  seal_settles (Some i) = Passes_on i

  seal_voted : (l : Live) (b : Bool) (path : Option ℕ) (cs : _) → ActsIn k0 u.input l b (seal_act path) → RecordLeads said (records.Sealed (sealed_of k0.clock l cs path)) → RecordVoted e (records.Sealed (sealed_of k0.clock l cs path))
  unfolding beyond
  seal_voted l b path cs acts_in leads =
      let r : SealedRecord = sealed_of k0.clock l cs path in
      let way : LeadsToward said l.me l.parent (toward_of r r.toward) = subst (LeadsToward said l.me l.parent) (sym leads.1) leads.2 in
      all_append (λ (z : Beyond). IsSealed e z.branch) (parent_beyond (sealed_as r) l.parent) _ (above_sealed acts_in (seal_settles path) (sealed_as r) refl way)
      (kids_so (IsSealed e) (toward_of r r.toward) (named_children path 1 l.edges) (kids_sealed acts_in (seal_settles path) (toward_of r r.toward) way (named_children path 1 l.edges) (named_path path acts_in)))

  decide_voted : (l : Live) (b : Bool) (cs : _) → ActsIn k0 u.input l b acts.Decide → RecordLeads said (records.Decided (decided_of (k0.clock + 1) l cs)) → RecordVoted e (records.Decided (decided_of (k0.clock + 1) l cs))
  unfolding beyond
  decide_voted l b cs acts_in leads =
      let r : DecidedRecord = decided_of (k0.clock + 1) l cs in
      all_append (λ (z : Beyond). IsSealed e z.branch) (parent_beyond (decided_as r) l.parent) _ (above_sealed acts_in Decides (decided_as r) refl leads)
      (kids_so (IsSealed e) None (named_children None 1 l.edges) (kids_sealed acts_in Decides None leads (named_children None 1 l.edges) (staying acts_in.here acts_in.near acts_in.acting)))

  voted_by : (w : Option RedoRecord) → IfSome w (WroteWhy k0 u.input d.says) → IfSome w (RecordLeads said) → IfSome w (RecordVoted e)
  voted_by None why leads = tt
  voted_by (Some (records.Sealed r)) why leads =
      subst (λ x. RecordVoted e (records.Sealed x)) (sym why.6) (seal_voted why.1 why.2 why.3 why.5 why.4 (subst (λ x. RecordLeads said (records.Sealed x)) why.6 leads))
  voted_by (Some (records.Decided r)) why leads =
      subst (λ x. RecordVoted e (records.Decided x)) (sym why.5) (decide_voted why.1 why.2 why.4 why.3 (subst (λ x. RecordLeads said (records.Decided x)) why.5 leads))
  voted_by (Some _) why leads = tt

  -- so those beyond what a turn writes are sealed
  pub draft_voted : IfSome d.wrote (RecordLeads said) → IfSome d.wrote (RecordVoted e)
  draft_voted leads = voted_by d.wrote (why_on k0 u.input (place_at t.places u.node) (serves t.places f u k may).step (λ no. record { lives = refl; clock = refl })).0 leads
