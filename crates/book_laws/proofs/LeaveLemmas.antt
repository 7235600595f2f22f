-- A live branch seals or decides on what came to it: CommitPoint from its parent, Prepare or COMMIT where it has no children, or the
-- last answer of its children.
use Rattle.std.proofs.Common.{◌≡◌, ℕ, Bool, true, false, List, [], map, is_none, Option, Some, None, inl, inr, refl, sym, ap, subst, ◌∙◌}
use Rattle.std.specs.Prelude.{IfSome}
use Rattle.session_tree.specs.Tree.{walk_by, best_child, step, place_of_greatest}
use Rattle.node_rules.specs.Data.{BranchId, RedoRecord, Edge, Kind, Vote, Live, Stmt, Input, Place}
use Rattle.node_rules.specs.Data.records
use Rattle.node_rules.specs.Data.kinds
use Rattle.node_rules.specs.Data.votes
use Rattle.node_rules.specs.Data.walks
use Rattle.node_rules.specs.Data.acts
use Rattle.node_rules.specs.Data.nexts
use Rattle.node_rules.specs.Data.stmts
use Rattle.node_rules.specs.Inputs.{Came, IsCall}
use Rattle.node_rules.specs.NodeState.{NodeState, TurnDraft, live_id}
use Rattle.node_rules.specs.Client.{begun_by}
use Rattle.node_rules.specs.Prepare.{collecting, with_comment, with_prepare_sent}
use Rattle.node_rules.specs.Turn.{draft_of}
use Rattle.node_rules.specs.Words.{item_at}
use Rattle.node_rules.proofs.Steps as steps
use Rattle.node_rules.proofs.Steps.{Step, Collects, Collected, Acting, vote_kind}
use Rattle.run_rules.specs.Births.{Born, births_of}
use Rattle.run_base_laws.specs.BirthLaws.{Began, IsChild, LiveIs, GoesSo}
use Rattle.run_rules.specs.Data.{Turn, Happening}
use Rattle.run_rules.specs.Data.happenings
use Rattle.run_rules.specs.Facts.{first_facts, place_at}
use Rattle.run_claims.specs.Knowledge.{IsPrepare}
use Rattle.run_rules.specs.Lawful.{MayHappen, MayTurn, History, IsLawfulRun}
use Rattle.run_rules.specs.Trail.{is_vote}
use Rattle.run_base_laws.proofs.BirthRunLemmas.{nodes_name_the_born, messages_are_of_neighbors}
use Rattle.run_base_laws.proofs.BirthsStandLemmas.{came_so}
use Rattle.run_base_laws.proofs.LawfulLemmas.{of_wrote, serves, turn_of_node}
use Rattle.run_base_laws.proofs.OwnLemmas.{all_found}
use Rattle.run_base_laws.proofs.BeginLemmas.{MayBegin, may_begin}
use Rattle.run_branch_laws.proofs.QuietLemmas.{call_apart, came_apart}
use Rattle.tree_laws.proofs.LearnLemmas.{DisksLead, run_leads}
use Rattle.tree_laws.proofs.PrefixLemmas.{so_far, f_at, each_prefix}
use Rattle.run_base_laws.specs.InTurnLaws.{said_in}
use Rattle.run_rules.specs.Lawful.{facts_at}
use Rattle.book_laws.specs.LeaveLaws.{IsCommit, SealsOn, DecidesOn, LeavesOn, LeavesDuly, BranchesLeaveDuly}
use Rattle.book_laws.proofs.ForceLemmas.{one_born}
use Rattle.book_laws.proofs.WriteLemmas.{of_events, none_there}
use Rattle.tree_laws.proofs.AnswerRunLemmas.{lives_heard as heard_lives}

-- ---- what came

vote_is : (v : Vote) (kind : Kind) → vote_kind v ≡ Some kind → is_vote kind ≡ true
vote_is votes.Prepared kind is = let here : kinds.Prepared ≡ kind = cc is in subst (λ q. is_vote q ≡ true) here refl
vote_is votes.ReadOnly kind is = let here : kinds.ReadOnly ≡ kind = cc is in subst (λ q. is_vote q ≡ true) here refl
vote_is votes.Ready kind is = let here : kinds.Ready ≡ kind = cc is in subst (λ q. is_vote q ≡ true) here refl
vote_is votes.Abort kind is = let here : kinds.Abort ≡ kind = cc is in subst (λ q. is_vote q ≡ true) here refl
vote_is _ kind is = absurd cc

-- messages that a parent alone sends
abbrev pub comes_down : Kind → Bool
comes_down kinds.CommitPoint = true
comes_down (kinds.Prepare site_below comment) = true
comes_down _ = false

-- they come from the parent
abbrev pub FromAbove : List Live → Input → Type 0
FromAbove lives input = (l : Live) → item_at live_id lives l.me ≡ Some l → (from : BranchId) (kind : Kind) → comes_down kind ≡ true → Came input from l.me kind → l.parent ≡ Some from

-- the walk leads to no child of a branch that has none
no_way_down : (l : Live) (i : ℕ) → l.edges ≡ [] → step l ≡ walks.Down i → ⊥
unfolding step
no_way_down l i none is =
    let best : best_child l ≡ None = ap (λ (es : List Edge). place_of_greatest 1 (map (λ e. e.weight) es) None) none in
    by l.changed (sym (ap (walk_by l.changed l.strength) best) ∙ is)
  where
    by : (q : Bool) → walk_by q l.strength None ≡ walks.Down i → ⊥
    by true at = absurd cc
    by false at = absurd cc

-- ---- acts

seal_off : {l : Live} {b : Bool} → Collected l b acts.Seal → b ≡ false
seal_off (steps.Is_prepared some) = refl

pass_on : {l : Live} {b : Bool} {i : ℕ} → Collected l b (acts.SealAndPass i) → step l ≡ walks.Down i
pass_on (steps.Passes i none is) = is

site_on : {l : Live} {b : Bool} → Collected l b acts.Decide → is_none l.parent ≡ true
site_on (steps.Is_site none is) = none

module _ {k : NodeState} {input : Input} (above : FromAbove k.lives input) where
  prepared_on : {l : Live} {comment : List ℕ} {b : Bool} → Collects k input l comment b → b ≡ false → IsPrepare l.me input
  prepared_on (steps.By_commit n given call has code writer is) off = absurd (cc off)
  prepared_on {comment = comment} (steps.By_prepare from site_below came working) off = (from, site_below, comment, came)

  committed_on : {l : Live} {comment : List ℕ} {b : Bool} → item_at live_id k.lives l.me ≡ Some l → Collects k input l comment b → l.parent ≡ None → IsCommit input
  committed_on live (steps.By_commit n given call has code writer is) none = (n, given, call)
  committed_on {l = l} {comment = comment} live (steps.By_prepare from site_below came working) none = (let up : l.parent ≡ Some from = above l live from (kinds.Prepare site_below comment) refl came in absurd (cc (none, up)))

  seals_so : {l : Live} {b : Bool} → Acting k input l b acts.Seal → (x : Live) × (item_at live_id k.lives l.me ≡ Some x) × SealsOn x input
  seals_so (steps.Has_no_children l comment b _ live begins none collected) = (l, live, inr (inl (prepared_on begins (seal_off collected), none)))
  seals_so (steps.Hears_last l from v b _ live answers other all collected) = (l, live, inl (from, answers.kind, v, answers.came, vote_is v answers.kind answers.is_vote, answers.first, all))
  seals_so (steps.At_point l from _ live came is pointed) = elim pointed [ ]

  passes_so : {l : Live} {b : Bool} {i : ℕ} → Acting k input l b (acts.SealAndPass i) → (x : Live) × (item_at live_id k.lives l.me ≡ Some x) × SealsOn x input
  passes_so {i = i} (steps.Has_no_children l comment b _ live begins none collected) = absurd (no_way_down (collecting (with_comment l comment) b) i (ap (map with_prepare_sent) none) (pass_on collected))
  passes_so (steps.Hears_last l from v b _ live answers other all collected) = (l, live, inl (from, answers.kind, v, answers.came, vote_is v answers.kind answers.is_vote, answers.first, all))
  passes_so (steps.At_point l from _ live came is pointed) = (l, live, inr (inr (from, came, above l live from kinds.CommitPoint refl came)))

  decides_so : {l : Live} {b : Bool} → Acting k input l b acts.Decide → (x : Live) × (item_at live_id k.lives l.me ≡ Some x) × DecidesOn x input
  decides_so (steps.Has_no_children l comment b _ live begins none collected) =
      (let root : l.parent ≡ None = none_there l.parent (site_on collected) in (l, live, inr (root, inr (committed_on live begins root, none))))
  decides_so (steps.Hears_last l from v b _ live answers other all collected) =
      (l, live, inr (none_there l.parent (site_on collected), inl (from, answers.kind, v, answers.came, vote_is v answers.kind answers.is_vote, answers.first, all)))
  decides_so (steps.At_point l from _ live came is pointed) = (l, live, inl (from, came, above l live from kinds.CommitPoint refl came))

-- ---- steps

-- on a statement that begins a transaction no branch leaves
module _ (input : Input) (m : ℕ) (s : Stmt) (call : IsCall input m s) (begins : MayBegin s) where
  no_seal : (l : Live) → SealsOn l input → ⊥
  no_seal l (inl last) = came_apart m s last.3 call
  no_seal l (inr (inl prepare)) = came_apart m s prepare.0.3 call
  no_seal l (inr (inr point)) = came_apart m s point.1 call

  no_decision : (l : Live) → DecidesOn l input → ⊥
  no_decision l (inl point) = came_apart m s point.1 call
  no_decision l (inr (root, inl last)) = came_apart m s last.3 call
  no_decision l (inr (root, inr commit)) = subst MayBegin (call_apart m commit.0.0 s (stmts.Commit commit.0.1) call commit.0.2) begins

  none_leave : (before lives : List Live) (w : Option RedoRecord) → IfSome w (LeavesOn lives input) → IfSome w (LeavesOn before input)
  none_leave before lives None on = tt
  none_leave before lives (Some (records.Sealed r)) on = absurd (no_seal on.0 on.2)
  none_leave before lives (Some (records.Decided r)) on = absurd (no_decision on.0 on.2)
  none_leave before lives (Some _) on = tt

module _ (p : Place) (input : Input) where
  leaves_on : {k : NodeState} {d : TurnDraft} → Step p input k d → FromAbove k.lives input → IfSome d.wrote (LeavesOn k.lives input)
  leaves_on (steps.Begins {k = k} {d = d} m s read_at call begins fit none step) above =
      none_leave input m s call (may_begin begins) k.lives (begun_by p k m read_at None).lives d.wrote (leaves_on step (λ l live from kind down came. absurd (came_apart m s came call)))
  leaves_on (steps.Counts_call m s call counts step) above = leaves_on step above
  leaves_on (steps.Goes_back x step goes next) above = leaves_on next above
  leaves_on (steps.Pends m l comment call has live code writer step) above = leaves_on step above
  leaves_on (steps.Lets_reads_go l comment site_below live begins step) above = leaves_on step above
  leaves_on (steps.Counts_ack s from kept came counts step) above = leaves_on step above
  leaves_on (steps.Acts l site_below acts.Seal why) above = seals_so above why
  leaves_on (steps.Acts l site_below (acts.SealAndPass i) why) above = passes_so above why
  leaves_on (steps.Acts l site_below acts.Decide why) above = decides_so above why
  leaves_on (steps.Does s from nexts.Rest kept why) above = tt
  leaves_on (steps.Makes_record n s r d call (steps.Sets_recovery on)) above = tt
  leaves_on (steps.Gives_up_commit n b None gives has calls live) above = tt
  leaves_on _ above = tt

-- ---- every run

module _ (t : History) (lawful : IsLawfulRun t) (u : Turn) (k : NodeState) (may : MayTurn t.places (facts_at t) u k) where
  -- the one that is born so has this parent
  child_of : (l : Live) (from : BranchId) → item_at live_id k.lives l.me ≡ Some l → IsChild (Began (births_of t)) l.me from → l.parent ≡ Some from
  child_of l from live child =
      let named : LiveIs (Began (births_of t)) l = all_found (LiveIs (Began (births_of t))) live_id k.lives l.me l (nodes_name_the_born t lawful u.node k may.up).0 live in
      let one : named.born ≡ child.0 = one_born (births_of t) named.born child.0 named.began child.1 (named.is_me ∙ sym child.2) in
      sym named.is_parent ∙ (ap (λ (x : Born). x.parent) one ∙ child.3)

  from_above : FromAbove k.lives u.input
  from_above l live from kind down came = by kind down (came_so (GoesSo (Began (births_of t))) (facts_at t) (messages_are_of_neighbors t lawful) k u.node u.input u.took may.comes from l.me kind came)
    where
      by : (kind : Kind) → comes_down kind ≡ true → GoesSo (Began (births_of t)) from l.me kind → l.parent ≡ Some from
      by kinds.CommitPoint down goes = child_of l from live goes
      by (kinds.Prepare site_below comment) down goes = child_of l from live goes
      by _ down goes = absurd cc

  turn_leaves : IfSome u.wrote (LeavesOn k.lives u.input)
  turn_leaves =
      of_wrote (place_at t.places u.node) k u (serves t.places (facts_at t) u k may) (λ w. IfSome w (LeavesOn k.lives u.input)) tt
      (subst (λ (ls : List Live). IfSome (draft_of (place_at t.places u.node) k u.input).wrote (LeavesOn ls u.input)) (heard_lives k u.input)
      (leaves_on (place_at t.places u.node) u.input (serves t.places (facts_at t) u k may).step (subst (λ (ls : List Live). FromAbove ls u.input) (sym (heard_lives k u.input)) from_above)))

leaves_so : (t : History) (before : List Happening) (lawful : IsLawfulRun (so_far t before)) (h : Happening) → MayHappen t.places t.commands (f_at t before) h → LeavesDuly (f_at t before) h
leaves_so t before lawful (happenings.Turn u) may = λ k up. turn_leaves (so_far t before) lawful u k (turn_of_node t.places (f_at t before) u k t.commands may up)
leaves_so t before lawful _ may = tt

pub branches_leave_duly : BranchesLeaveDuly
branches_leave_duly t lawful =
    of_events t (λ f h. LeavesDuly f h) (first_facts t.places) [] t.trace
    (each_prefix t (λ f e h. DisksLead (said_in (facts_at t)) f) (λ f e h. LeavesDuly f h) (λ before h rest is lawful_before may law. leaves_so t before lawful_before h may) lawful (run_leads t lawful))
