-- In every lawful run each child whose answer Ready a live branch holds has said Ready to it. The messages are turned round
-- for it: each Ready as a Prepare that goes back, so that what steps keep of Prepares they keep of Readys.
use Rattle.std.proofs.Common.{◌≡◌, ℕ, ◌&&◌, ◌||◌, Bool, true, false, List, [], ◌∷◌, ◌++◌, map, Some, None, inl, inr, refl, sym, ap, subst, ◌∙◌}
use Rattle.std.specs.Prelude.{IfSome}
use Rattle.std.specs.List.{AllByRecursion}
use Rattle.std.proofs.lemmas.List.{map-append}
use Rattle.node_rules.specs.Data.{BranchId, Live, Post, RedoRecord}
use Rattle.node_rules.specs.Data.kinds
use Rattle.node_rules.specs.Data.phases
use Rattle.node_rules.specs.declared.work.Going.{Going}
use Rattle.node_rules.specs.Inputs.{Came}
use Rattle.node_rules.specs.Points.{is_ready}
use Rattle.node_rules.specs.Words.{same}
use Rattle.node_rules.specs.NodeState.{NodeState, Branch, TurnDraft, live_id, branch_at}
use Rattle.node_rules.specs.Turn.{start_of, heard, draft_of}
use Rattle.run_rules.specs.Data.{Turn, Happening}
use Rattle.run_rules.specs.Facts.{place_at}
use Rattle.run_base_laws.specs.InTurnLaws.{said_in}
use Rattle.run_rules.specs.Lawful.{MayTurn, History, IsLawfulRun, facts_at}
use Rattle.run_branch_laws.specs.WalkLaws.{is_below, was_sent}
use Rattle.run_base_laws.proofs.BirthsStandLemmas.{came_so}
use Rattle.run_branch_laws.proofs.FreezeLemmas.{working_or}
use Rattle.run_branch_laws.proofs.FreezeRunLemmas.{asked_stand_still}
use Rattle.run_base_laws.proofs.LawfulLemmas.{serves}
use Rattle.run_rules.proofs.ListLemmas.{all_weaker}
use Rattle.run_base_laws.proofs.OwnLemmas.{all_found}
use Rattle.tree_laws.specs.AnswerLaws.{AnswersTold}
use Rattle.tree_laws.proofs.AnswerRunLemmas.{heard_branch, lives_heard}
use Rattle.tree_laws.proofs.AnswerStepLemmas.{answers_on}
use Rattle.tree_laws.proofs.AskLemmas.{sent_more}
use Rattle.tree_laws.proofs.AskRunLemmas.{sent_from}
use Rattle.tree_laws.proofs.EachNodeLemmas.{EachNode, node_end}
use Rattle.tree_laws.proofs.PrefixLemmas.{so_far, f_at}
use Rattle.commit_point_laws.specs.PointLaws.{ReadyWereSaid}
use Rattle.tree_laws.proofs.AtPart.{at_part}

-- ---- messages turned round

-- a Ready as a Prepare that goes back and tells that the walk comes there
abbrev turned_one : Post → Post
turned_one m = record { from = m.to; to = m.from; kind = kinds.Prepare (is_ready m.kind) [] }

abbrev turned : List Post → List Post
turned said = map turned_one said

and_turned : (p q : Bool) → (p && q) ≡ (q && p)
and_turned true true = refl
and_turned true false = refl
and_turned false true = refl
and_turned false false = refl

turned_is : (said : List Post) (from to : BranchId) → was_sent is_below (turned said) to from ≡ was_sent is_ready said from to
turned_is [] from to = refl
turned_is (m ∷ ms) from to =
    ap (λ q. (q && is_ready m.kind) || was_sent is_below (turned ms) to from) (and_turned (same m.to to) (same m.from from))
    ∙ ap (λ q. ((same m.from from && same m.to to) && is_ready m.kind) || q) (turned_is ms from to)

-- each answer Ready that a live branch holds was said
abbrev Said : List Post → Live → Type 0
Said said l = AnswersTold (turned said) l

said_more : (said says : List Post) (l : Live) → Said said l → Said (said ++ says) l
said_more said says l all =
    all_weaker _ _ (λ e is. record {
      ready = λ now. subst (λ xs. was_sent is_below xs l.me e.peer ≡ true) (sym (map-append turned_one said says)) (sent_more is_below (turned said) (turned says) l.me e.peer (is.ready now));
      asked = is.asked;
    }) l.edges all

lives_more : (said says : List Post) (ls : List Live) → AllByRecursion (Said said) ls → AllByRecursion (Said (said ++ says)) ls
lives_more said says ls all = all_weaker (Said said) (Said (said ++ says)) (λ l is. said_more said says l is) ls all

abbrev NodeSaid : List Post → NodeState → Type 0
NodeSaid said k = AllByRecursion (Said said) k.lives

started_so : (said : List Post) (rs : List RedoRecord) → NodeSaid said (start_of rs)
unfolding start_of
started_so said rs = tt

-- ---- each turn

module _ (t : History) (before : List Happening) (lawful : IsLawfulRun (so_far t before)) (now : EachNode NodeSaid (f_at t before)) where
  open at_part t before use {f, said}

  module _ (u : Turn) (k : NodeState) (may : MayTurn t.places f u k) where
    abbrev d : TurnDraft
    d = draft_of (place_at t.places u.node) k u.input

    works : (from to : BranchId) (edge strength : ℕ) → Came u.input from to (kinds.Opened edge strength) → (x : Branch) (w : Going) → branch_at (heard k u.input) x.live.me ≡ Some x → x.work.going ≡ Some w → x.live.phase ≡ phases.Working
    works from to edge strength came x w found going = elim (working_or x.live.phase) [
      | inl working ↦ working
      | inr other ↦ (let rest = (asked_stand_still (so_far t before) lawful u.node k may.up x (heard_branch k u.input x.live.me x found)).1 other in
          let none : x.work.going ≡ None = rest.0 in
          absurd (cc (none, going)))
    ]

    came_ready : (from to : BranchId) → Came u.input from to kinds.Ready → was_sent is_below (turned said) to from ≡ true
    came_ready from to came =
        turned_is said from to ∙ came_so (λ x y kind. is_ready kind ≡ true → was_sent is_ready said x y ≡ true) f (sent_from is_ready f.net.packets) k u.node u.input u.took may.comes from to kinds.Ready came refl

    lives_before : NodeSaid said k
    lives_before = subst (λ o. IfSome o (NodeSaid said)) may.up (now u.node)

    lives_after : NodeSaid (said ++ d.says) d.after
    lives_after =
        lives_more said d.says d.after.lives
        (answers_on (turned said) (place_at t.places u.node) u.input came_ready (serves t.places f u k may).step works
        (subst (λ (ls : List Live). AllByRecursion (Said said) ls) (sym (lives_heard k u.input)) lives_before))

pub ready_were_said : ReadyWereSaid
ready_were_said t lawful n k up l live =
    let all : NodeSaid (said_in (facts_at t)) k = node_end NodeSaid started_so t (λ said says k. lives_more said says k.lives) (lives_after t) lawful n k up in
    let its : Said (said_in (facts_at t)) l = all_found (Said (said_in (facts_at t))) live_id k.lives l.me l all live in
    all_weaker _ _ (λ e is ready. sym (turned_is (said_in (facts_at t)) e.peer l.me) ∙ is.ready ready) l.edges its
