-- The root of a COMMIT as its call comes: it is working and waits for nothing, it has no parent, and so it stays. The draft of the
-- call is the root's first act.
use Rattle.std.proofs.Common.{◌≡◌, ℕ, true, false, List, [], ◌∷◌, ◌++◌, unwrap_or, Some, None, sym, ap, subst, ◌∙◌}
use Rattle.tran_ids.proofs.ListedLemmas.{item_is}
use Rattle.node_rules.specs.Data.{BranchId, Input, Live}
use Rattle.node_rules.specs.Data.inputs
use Rattle.node_rules.specs.Data.phases
use Rattle.node_rules.specs.Data.stmts
use Rattle.node_rules.specs.declared.session.PendingCall.TheVariants as pending
use Rattle.node_rules.specs.declared.session.Session.{Session}
use Rattle.node_rules.specs.Client.{root_by, root_at, commit_by, commit_at}
use Rattle.node_rules.specs.NodeState.{NodeState, TurnDraft, live_id, live_at, work_at, with_work}
use Rattle.node_rules.specs.Prepare.{act_turn, collecting, first_act, with_comment, without_read_keys}
use Rattle.node_rules.specs.Sessions.{session_at, with_call}
use Rattle.node_rules.specs.Turn.{turn_of, draft_of}
use Rattle.node_rules.proofs.StandLemmas.{call_set}
use Rattle.run_rules.specs.Births.{Born, births_of, born_id, born_at}
use Rattle.run_base_laws.specs.BirthLaws.{Began, IsChild, LiveIs, StandsBelow}
use Rattle.run_base_laws.specs.CallLaws.{ComesAtRest}
use Rattle.run_rules.specs.Data.{Happening}
use Rattle.run_rules.specs.Data.happenings
use Rattle.run_rules.specs.Facts.{Facts, first_facts, place_at, node_at, kept_after, facts_after}
use Rattle.run_rules.specs.Lawful.{History, IsLawfulRun}
use Rattle.run_base_laws.specs.NodeLaws.{EachFactFrom}
use Rattle.run_rules.proofs.AtNodeLemmas.{turn_here}
use Rattle.run_base_laws.proofs.BirthRunLemmas.{births_are_trees, nodes_name_the_born}
use Rattle.run_base_laws.proofs.EventsStandLemmas.{run_stands, ids_name_their_node}
use Rattle.run_base_laws.proofs.OwnLemmas.{all_found}
use Rattle.run_base_laws.proofs.RestRunLemmas.{calls_come_at_rest}
use Rattle.run_base_laws.proofs.RootLemmas.{roots_are_of_sessions}
use Rattle.tree_laws.proofs.PrefixLemmas.{so_far, f_at, one_on}
use Rattle.tree_laws.proofs.TimeLemmas.{Part, part_of, part_lawful, fact_at, born_end}
use Rattle.run_claims.specs.Undisturbed.{Commit}

module _ (t : History) (whole : IsLawfulRun t) (c : Commit t.places t.commands t.trace) where
  abbrev pub m : ℕ
  m = c.session

  abbrev pub r : BranchId
  r = c.root

  abbrev pub f0 : Facts
  f0 = f_at t c.before

  abbrev pub first : Happening
  first = happenings.Turn c.call

  abbrev pub after : List Happening
  after = c.before ++ first ∷ []

  pub part0 : Part t whole c.before
  part0 = part_of t whole c.before first c.during c.is

  pub lawful0 : IsLawfulRun (so_far t c.before)
  lawful0 = part_lawful t whole c.before part0

  pub me : c.live.me ≡ r
  me = item_is live_id c.kept.lives r c.live c.there

  pub found : live_at c.kept c.live.me ≡ Some c.live
  found = subst (λ i. live_at c.kept i ≡ Some c.live) (sym me) c.there

  pub node : c.call.node ≡ r.node
  node = sym (all_found (λ (l : Live). l.me.node ≡ c.call.node) live_id c.kept.lives c.live.me c.live (ids_name_their_node (so_far t c.before) lawful0 c.call.node c.kept c.up).lives found) ∙ ap (λ (i : BranchId). i.node) me

  pub fits : (r.session ≡ m) × ((l : Live) → live_at c.kept r ≡ Some l → l.parent ≡ None)
  fits = roots_are_of_sessions (so_far t c.before) lawful0 c.call.node c.kept c.up m r c.of

  pub own : r.session ≡ m
  own = fits.0

  -- the root as it began
  pub placed : LiveIs (Began (births_of (so_far t c.before))) c.live
  placed = all_found (LiveIs (Began (births_of (so_far t c.before)))) live_id c.kept.lives c.live.me c.live (nodes_name_the_born (so_far t c.before) lawful0 c.call.node c.kept c.up).0 found

  abbrev pub top : Born
  top = placed.born

  pub top_me : top.me ≡ r
  top_me = placed.is_me ∙ me

  pub top_parent : top.parent ≡ None
  top_parent = placed.is_parent ∙ fits.1 c.live c.there

  -- so it stands at each later moment
  module _ (zs : List Happening) (part : Part t whole zs) (since : Part (so_far t zs) (part_lawful t whole zs part) c.before) where
    abbrev pub s : History
    s = so_far t zs

    abbrev pub lawful : IsLawfulRun s
    lawful = part_lawful t whole zs part

    pub began : born_at (births_of s) r ≡ Some top
    began = subst (λ b. born_at (births_of s) b ≡ Some top) top_me (born_end s lawful c.before since top placed.began)

    pub no_child : (from : BranchId) → IsChild (Began (births_of s)) r from → ⊥
    no_child from child =
        let one : born_at (births_of s) r ≡ Some child.0 = subst (λ b. born_at (births_of s) b ≡ Some child.0) child.2 child.1 in
        let both : Some child.0 ≡ Some top = sym one ∙ began in
        let it : child.0 ≡ top = cc in
        let parent : Some from ≡ None = sym child.3 ∙ (ap (λ (x : Born). x.parent) it ∙ top_parent) in
        absurd cc

    -- a child of it is of its transaction
    pub child_root : (x : Born) → Began (births_of s) x → x.parent ≡ Some r → x.root ≡ r
    child_root x has parent =
        let stands : StandsBelow (Began (births_of s)) x x.parent = all_found (λ z. StandsBelow (Began (births_of s)) z z.parent) born_id (births_of s) x.me x (births_are_trees s lawful) has in
        let below = subst (StandsBelow (Began (births_of s)) x) parent stands in
        let one : born_at (births_of s) r ≡ Some below.0 = subst (λ b. born_at (births_of s) b ≡ Some below.0) below.2 below.1 in
        let both : Some below.0 ≡ Some top = sym one ∙ began in
        let it : below.0 ≡ top = cc in
        let its : StandsBelow (Began (births_of s)) top top.parent = all_found (λ z. StandsBelow (Began (births_of s)) z z.parent) born_id (births_of s) r top (births_are_trees s lawful) began in
        let up : StandsBelow (Began (births_of s)) top None = subst (StandsBelow (Began (births_of s)) top) top_parent its in
        sym below.3 ∙ (ap (λ (y : Born). y.root) it ∙ (up.0 ∙ top_me))

  -- ---- the turn of the call

  abbrev pub k : NodeState
  k = c.kept

  abbrev pub input : Input
  input = inputs.Call m (Some (stmts.Commit c.comment))

  abbrev pub comment : List ℕ
  comment = unwrap_or c.comment []

  abbrev pub pends : List Session
  pends = with_call k.sessions m pending.Commit

  abbrev pub kp : NodeState
  kp = without_read_keys (record k { sessions = pends }) c.live.me

  abbrev pub l : Live
  l = collecting (with_comment c.live comment) true

  pub session_is : session_at pends m ≡ record (session_at k.sessions m) { call = pending.Commit }
  session_is = call_set k.sessions m r pending.Commit c.of

  pub root_pends : (session_at pends m).root ≡ Some r
  root_pends = ap (λ (s : Session). s.root) session_is ∙ c.of

  pub call_pends : (session_at pends m).call ≡ pending.Commit
  call_pends = ap (λ (s : Session). s.call) session_is

  pub working : (c.live.phase ≡ phases.Working) × ((work_at k c.live.me).going ≡ None)
  working =
      let law : ComesAtRest t.places f0 first
      = fact_at t.places t.commands (ComesAtRest t.places) (first_facts t.places) c.before first c.during (subst (EachFactFrom (ComesAtRest t.places) t.places t.commands (first_facts t.places)) (sym c.is) (calls_come_at_rest t whole)) in
      law k c.up m (Some (stmts.Commit c.comment)) c.asks (record { live = c.live; work = work_at k c.live.me }) (subst (λ b. (session_at k.sessions m).root ≡ Some b) (sym me) c.of) (ap (with_work k) found)

  abbrev pub done : TurnDraft
  done = act_turn kp l true (first_act l true)

  abbrev pub d0 : TurnDraft
  d0 = draft_of (place_at t.places c.call.node) k c.call.input

  pub root_found : root_at k m ≡ Some (record { live = c.live; work = work_at k c.live.me })
  root_found = ap (root_by k) c.of ∙ ap (with_work k) c.there

  pub draft_is : (session_at k.sessions m).code ≡ None → d0 ≡ done
  draft_is goes_on =
      ap (draft_of (place_at t.places c.call.node) k) c.asks
      ∙ (ap (λ o. commit_by k m comment o (root_at k m)) goes_on ∙ (ap (λ o. commit_by k m comment None o) root_found ∙ ap (commit_at k m comment (record { live = c.live; work = work_at k c.live.me })) c.writer))

  -- what the root's node keeps after it
  pub call_up : c.call.cut ≡ false → node_at (f_at t after) r.node ≡ Some d0.after
  unfolding turn_of
  call_up uncut =
      let here : node_at (facts_after t.places t.commands f0 first) c.call.node ≡ Some d0.after
      = (turn_here t.places t.commands f0 (run_stands (so_far t c.before) lawful0).0.even c.call k c.up).0 ∙ ap (λ q. kept_after q (Some (turn_of (place_at t.places c.call.node) k c.call.input))) uncut in
      subst (λ (f : Facts). node_at f r.node ≡ Some d0.after) (sym (one_on t c.before first)) (subst (λ n. node_at (facts_after t.places t.commands f0 first) n ≡ Some d0.after) node here)
