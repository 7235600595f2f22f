-- A branch that says ReadOnly was live and has no changes, its children are gone without changes, and its turn brings no statement.
use Rattle.std.proofs.Common.{◌≡◌, ◌≢◌, ℕ, ◌||◌, Bool, true, false, List, [], ◌∷◌, is_none, Some, None, inl, inr, refl, sym, ap, subst, ◌∙◌}
use Rattle.std.specs.List.{AllByRecursion, list_any}
use Rattle.std.proofs.lemmas.Bool.{and_parts}
use Rattle.tran_ids.proofs.BranchLemmas.{equal_from_same}
use Rattle.session_tree.specs.Live.{children_of}
use Rattle.session_tree.specs.Tree.{weight, weight_by, best_child, step}
use Rattle.agreement.specs.Events.{Quiet, exit}
use Rattle.node_rules.specs.Data.{BranchId, Kind, Live, Msg, Vote, Input, Post}
use Rattle.node_rules.specs.Data.acts
use Rattle.node_rules.specs.Data.kinds
use Rattle.node_rules.specs.Data.phases
use Rattle.node_rules.specs.Data.votes
use Rattle.node_rules.specs.Words.{same, numbered}
use Rattle.node_rules.specs.NodeState.{NodeState, TurnDraft, live_at}
use Rattle.node_rules.specs.Prepare.{collecting, with_comment, voted}
use Rattle.node_rules.specs.Turn.{turn_of, heard, draft_of, stamped}
use Rattle.node_rules.proofs.Steps as steps
use Rattle.node_rules.proofs.Steps.{Acting, Answers, Collected, Collects, vote_kind}
use Rattle.run_rules.specs.Branches.{Trail}
use Rattle.run_rules.specs.Data.{Turn, Happening}
use Rattle.run_rules.specs.Data.happenings
use Rattle.run_rules.specs.Facts.{Facts, place_at, node_at, facts_after}
use Rattle.run_base_laws.specs.InTurnLaws.{said_in}
use Rattle.run_rules.specs.Lawful.{MayTurn, IsOwed, History, IsLawfulRun}
use Rattle.run_base_laws.specs.RunEvents.{lives_at, with_record, with_exits, events_after}
use Rattle.run_rules.specs.Runs.{asks_by, asks}
use Rattle.run_rules.specs.Trail.{is_read_only, is_quiet}
use Rattle.run_branch_laws.specs.WalkLaws.{is_below, was_sent}
use Rattle.run_base_laws.proofs.LawfulLemmas.{serves}
use Rattle.run_rules.proofs.ListLemmas.{all_map, all_weaker}
use Rattle.tree_laws.specs.AskLaws.{path_on}
use Rattle.tree_laws.specs.WeightLaws.{NodesWeigh}
use Rattle.tree_laws.proofs.AskRunLemmas.{edges_asked, paths_are_told}
use Rattle.tree_laws.proofs.PrefixLemmas.{so_far, f_at, e_at}
use Rattle.tree_laws.proofs.SettleLemmas.{live_in, kid_quiet}
use Rattle.tree_laws.proofs.WhyLemmas.{Near, SaidWhy, why_on}
use Rattle.tree_laws.proofs.LeaveLemmas.{messages_exit, all_quiet, wrote_quiet}
use Rattle.tree_laws.proofs.AtPart.{at_part}
use Rattle.tree_laws.proofs.LeaveLemmas.{none_at}

none_off : {l : Live} {b : Bool} → Collected l b acts.SayReadOnly → b ≡ false
none_off (steps.Has_nothing is) = refl

nothing_on : {l : Live} {b : Bool} → Collected l b acts.SayReadOnly → is_none (weight l) ≡ true
nothing_on (steps.Has_nothing is) = is

-- one without a weight has no changes
unchanged_by : (l : Live) → is_none (weight l) ≡ true → l.changed ≡ false
unfolding weight
unchanged_by l none = by l.changed none
  where
    by : (q : Bool) → is_none (weight_by q l.strength (best_child l)) ≡ true → q ≡ false
    by true none = absurd cc
    by false none = refl

-- ---- no statement came

module _ (tr : Trail) (n : ℕ) where
  vote_unasked : (to : BranchId) (v : Vote) (kind : Kind) → vote_kind v ≡ Some kind → asks_by tr to kind ≡ None
  vote_unasked to votes.Prepared kind is = (let it : Some kinds.Prepared ≡ Some kind = is in let here : kinds.Prepared ≡ kind = cc in ap (asks_by tr to) (sym here))
  vote_unasked to votes.ReadOnly kind is = (let it : Some kinds.ReadOnly ≡ Some kind = is in let here : kinds.ReadOnly ≡ kind = cc in ap (asks_by tr to) (sym here))
  vote_unasked to votes.Ready kind is = (let it : Some kinds.Ready ≡ Some kind = is in let here : kinds.Ready ≡ kind = cc in ap (asks_by tr to) (sym here))
  vote_unasked to votes.Abort kind is = (let it : Some kinds.Abort ≡ Some kind = is in let here : kinds.Abort ≡ kind = cc in ap (asks_by tr to) (sym here))
  vote_unasked to _ kind is = absurd cc

  answers_unasked : {input : Input} {l : Live} {from : BranchId} {v : Vote} {b : Bool} → Answers input l from v b → asks tr n input ≡ None
  answers_unasked {l = l} {v = v} answers = ap (asks tr n) answers.came.is ∙ vote_unasked l.me v answers.kind answers.is_vote

  begins_unasked : {at : NodeState} {input : Input} {l : Live} {comment : List ℕ} {b : Bool} → Collects at input l comment b → b ≡ false → asks tr n input ≡ None
  begins_unasked (steps.By_commit m given call has code writer is) off = absurd cc
  begins_unasked (steps.By_prepare from b came working) off = ap (asks tr n) came.is

-- ---- a turn

module _ (t : History) (before : List Happening) (lawful : IsLawfulRun (so_far t before)) (u : Turn) (k : NodeState) (may : MayTurn t.places (f_at t before) u k) (weigh : NodesWeigh (f_at t before) (e_at t before) (happenings.Turn u)) where
  open at_part t before use {f, e}

  abbrev g : Facts
  g = facts_after t.places t.commands f (happenings.Turn u)

  abbrev k0 : NodeState
  k0 = heard k u.input

  abbrev d : TurnDraft
  d = draft_of (place_at t.places u.node) k u.input

  -- A branch was live as the turn began, without changes, and each of its children is gone without changes.
  pub record Quits (b : BranchId) : Type 0 where
    pub live : Live
    pub found : live_at k live.me ≡ Some live
    pub is_me : live.me ≡ b
    pub below : live.parent ≢ None
    pub unchanged : live.changed ≡ false
    pub kids : (i : ℕ) (c : BranchId) → numbered (children_of live) i ≡ Some c → exit e c ≡ Some Quiet
    pub unasked : (tr : Trail) → asks tr u.node u.input ≡ None

  -- off the walk it told no child that the walk comes there
  off_walk : (l : Live) → live_at k l.me ≡ Some l → l.phase ≡ phases.Collecting false → (c : BranchId) → was_sent is_below (said_in f) l.me c ≡ false
  off_walk l found phase c = by (was_sent is_below (said_in f) l.me c) refl
    where
      by : (q : Bool) → was_sent is_below (said_in f) l.me c ≡ q → q ≡ false
      by true told =
          let busy : l.phase ≢ phases.Working = (λ working. (let is : phases.Collecting false ≡ phases.Working = sym phase ∙ working in absurd cc)) in
          let on = (paths_are_told (so_far t before) lawful u.node k may.up l found busy).0 c told in
          nowhere l.phase phase on.0 on.1
        where
          nowhere : (x : _) → x ≡ phases.Collecting false → (i : ℕ) → path_on x (step l) ≡ Some i → true ≡ false
          nowhere x is i at = (let none : path_on (phases.Collecting false) (step l) ≡ Some i = subst (λ y. path_on y (step l) ≡ Some i) is at in absurd cc)
      by false off = refl

  acting_quits : (at : NodeState) → Near k0 at → {l : Live} {b : Bool} → Acting at u.input l b acts.SayReadOnly → l.parent ≢ None → Quits l.me
  acting_quits at near (steps.Has_no_children l comment b _ live begins none collected) below = record {
    live = l;
    found = live_in t before lawful u k may at near l live;
    is_me = refl;
    below = below;
    unchanged = unchanged_by (collecting (with_comment l comment) b) (nothing_on collected);
    kids = λ i c there. absurd (none_at i c l none there);
    unasked = λ tr. begins_unasked tr u.node begins (none_off collected);
  }
  acting_quits at near (steps.Hears_last l from v b _ live answers other all_so collected) below =
      let found : live_at k l.me ≡ Some l = live_in t before lawful u k may at near l live in
      let busy : l.phase ≢ phases.Working = (λ working. (let is : phases.Collecting b ≡ phases.Working = sym answers.collecting ∙ working in absurd cc)) in
      record {
        live = l;
        found = found;
        is_me = refl;
        below = below;
        unchanged = unchanged_by (voted l from v) (nothing_on collected);
        kids = λ i c there.
            kid_quiet t before lawful u k may (weigh u.node k may.up) c at near (steps.Hears_last l from v b acts.SayReadOnly live answers other all_so collected)
            ((edges_asked (so_far t before) lawful u.node k may.up l found busy).0 i c there) (off_walk l found (answers.collecting ∙ ap phases.Collecting (none_off collected)) c);
        unasked = λ tr. answers_unasked tr u.node answers;
      }
  acting_quits at near (steps.At_point l from _ live came is pointed) below = elim pointed [ ]

  -- ---- what was said

  abbrev pub QuitsBy : BranchId → Kind → Type 0
  QuitsBy b kind = is_read_only kind ≡ true → Quits b

  says_why : AllByRecursion (λ m. SaidWhy k0 u.input d.says d.after.lives m.from m.to m.kind) d.says
  says_why = (why_on k0 u.input (place_at t.places u.node) (serves t.places f u k may).step (λ no. record { lives = refl; clock = refl })).1

  said_quits : (from to : BranchId) (kind : Kind) → SaidWhy k0 u.input d.says d.after.lives from to kind → QuitsBy from kind
  said_quits from to kinds.ReadOnly why said = subst Quits why.4 (acting_quits why.3.here why.3.near why.3.acting (λ none. (let above = why.5 in absurd (cc (above, none)))))
  said_quits from to _ why said = absurd cc

  sent_by : (cut : Bool) → IsOwed (place_at t.places u.node) k u.input u.wrote u.sent cut → AllByRecursion (λ (m : Msg). QuitsBy m.from m.kind) u.sent
  unfolding turn_of
  sent_by true owed = subst (λ (ms : List Msg). AllByRecursion (λ (m : Msg). QuitsBy m.from m.kind) ms) (sym owed.1) tt
  sent_by false owed =
      subst (λ (ms : List Msg). AllByRecursion (λ (m : Msg). QuitsBy m.from m.kind) ms) (sym owed.1)
      (all_map (λ (m : Msg). QuitsBy m.from m.kind) (stamped d.after.clock) d.says
      (all_weaker (λ (m : Post). SaidWhy k0 u.input d.says d.after.lives m.from m.to m.kind) (λ (m : Post). QuitsBy m.from m.kind) (λ m why. said_quits m.from m.to m.kind why) d.says says_why))

  -- each that says ReadOnly does so
  pub sent_quits : AllByRecursion (λ (m : Msg). QuitsBy m.from m.kind) u.sent
  sent_quits = sent_by u.cut may.owed

  quiet_found : (b : BranchId) (ms : List Msg) → AllByRecursion (λ (m : Msg). QuitsBy m.from m.kind) ms → list_any (is_quiet b) ms ≡ true → Quits b
  quiet_found b [] all quiet = absurd cc
  quiet_found b (m ∷ ms) all quiet = by (is_quiet b m) refl quiet (quiet_found b ms all.1)
    where
      by : (q : Bool) → is_quiet b m ≡ q → (q || list_any (is_quiet b) ms) ≡ true → (list_any (is_quiet b) ms ≡ true → Quits b) → Quits b
      by true here found rest = let parts = and_parts (same m.from b) (is_read_only m.kind) here in subst Quits (equal_from_same m.from b parts.0) (all.0 parts.1)
      by false here found rest = rest found

  -- and so does each that leaves without changes
  pub quits_so : (b : BranchId) → exit e b ≡ None → exit (events_after t.places t.commands f (happenings.Turn u) e) b ≡ Some Quiet → Quits b
  quits_so b none is =
      let left : exit (with_exits f g u e) b ≡ Some Quiet = sym (messages_exit u.sent (with_exits f g u e) b) ∙ is in
      elim (all_quiet (lives_at (node_at g u.node)) u.sent (lives_at (node_at f u.node)) b (with_record u e) left) [
        | inl old ↦ (let older : exit e b ≡ Some Quiet = wrote_quiet u.node e u.wrote b old in absurd (cc (older, none)))
        | inr new ↦ quiet_found b u.sent sent_quits new
      ]
