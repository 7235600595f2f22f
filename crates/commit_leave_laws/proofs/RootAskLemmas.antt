-- In every lawful run each branch of the transaction of an undisturbed COMMIT was asked by its parent, where none below the root
-- was dropped, and none is live any more, where none is Ready.
use Rattle.std.proofs.Common.{◌≡◌, ◌≢◌, ℕ, zero, suc, ◌+◌, ◌≤◌, true, false, List, [], ◌∷◌, ◌++◌, map, length, Option, Some, None, inl, inr, refl, sym, ap, subst, ◌∙◌, arith, append-nil}
use Rattle.std.specs.List.{AllByRecursion}
use Rattle.std.proofs.lemmas.List.{append_assoc}
use Rattle.tran_ids.proofs.ListedLemmas.{put_found}
use Rattle.node_rules.specs.Data.{BranchId, Edge, Live, Phase, Stmt}
use Rattle.node_rules.specs.Data.acts
use Rattle.node_rules.specs.Data.inputs
use Rattle.node_rules.specs.Data.phases
use Rattle.node_rules.specs.Data.stmts
use Rattle.node_rules.specs.NodeState.{NodeState, TurnDraft, live_id, live_at}
use Rattle.node_rules.specs.Prepare.{act_turn, first_act_by, with_prepare_sent}
use Rattle.node_rules.specs.Sessions.{session_at}
use Rattle.node_rules.specs.Words.{numbered}
use Rattle.session_tree.specs.Live.{children_of}
use Rattle.run_base_laws.proofs.BeginLemmas.{MayBegin}
use Rattle.run_rules.specs.Births.{Born, births_of, born_id}
use Rattle.run_base_laws.specs.BirthLaws.{Began, LiveIs, StandsBelow}
use Rattle.run_rules.specs.Commands.{commits_first}
use Rattle.run_rules.specs.Data.{Happening, Packet, Turn}
use Rattle.run_rules.specs.Data.fates
use Rattle.run_rules.specs.Data.happenings
use Rattle.run_rules.specs.Facts.{node_at}
use Rattle.run_base_laws.specs.FreezeLaws.{was_asked}
use Rattle.run_base_laws.specs.InTurnLaws.{NeedsNoRollback, said_in}
use Rattle.run_rules.specs.Lawful.{Comes, History, IsLawfulRun, MayHappen, facts_at}
use Rattle.run_rules.specs.Trail.{is_prepare}
use Rattle.run_base_laws.proofs.BirthRunLemmas.{births_are_trees, nodes_name_the_born}
use Rattle.run_base_laws.proofs.EventsStandLemmas.{ids_name_their_node}
use Rattle.run_base_laws.proofs.OwnLemmas.{all_found}
use Rattle.tree_laws.proofs.AskRunLemmas.{edges_asked}
use Rattle.tree_laws.proofs.PrefixLemmas.{so_far, f_at}
use Rattle.tree_laws.proofs.TimeLemmas.{Part, part_on, part_of, part_lawful, may_of, sent_end}
use Rattle.commit_laws.specs.DeliveryLaws.{IsBusy}
use Rattle.commit_laws.specs.StillLaws.{DroppedNone}
use Rattle.run_claims.specs.Undisturbed.{Commit, Undisturbed, IsInCourse}
use Rattle.commit_laws.proofs.CreateLemmas.{create_call}
use Rattle.commit_laws.proofs.HeardLemmas.{prepares_are_heard}
use Rattle.commit_laws.proofs.RootLemmas.{undisturbed_roots_leave}
use Rattle.commit_laws.proofs.StillLemmas.{messages_come, undisturbed_collects_end}
use Rattle.commit_leave_laws.specs.StrayLaws.{count_opens, UndisturbedBranchesAreAsked, UndisturbedBranchesLeave}
use Rattle.commit_leave_laws.proofs.OpenRunLemmas.{IsBeginCall, opened_low, adds, count_on}
use Rattle.commit_leave_laws.proofs.AskLemmas.{asked_so, kid_asked}
use Rattle.commit_leave_laws.proofs.CallLemmas as call
use Rattle.commit_leave_laws.proofs.ChildLemmas.{at_most, edge_above, parent_of_tree, opened, is_child}
use Rattle.commit_leave_laws.proofs.PendLemmas.{delivered}

asked_peers : (es : List Edge) → map (λ (x : Edge). x.peer) (map with_prepare_sent es) ≡ map (λ (x : Edge). x.peer) es
asked_peers [] = refl
asked_peers (x ∷ es) = ap (λ xs. x.peer ∷ xs) (asked_peers es)

-- the root of a COMMIT with children asks them
asks_down : (l : Live) (es : List Edge) → 1 ≤ length es → first_act_by l true (map with_prepare_sent es) ≡ acts.AskDown
asks_down l [] some = absurd (omega (arith, some))
asks_down l (e ∷ es) some = refl

-- a CREATE begins no transaction
create_begins_none : (s : Stmt) → commits_first s ≡ true → MayBegin s → ⊥
create_begins_none (stmts.CreateTable table) is rows = absurd rows
create_begins_none (stmts.CreateLink l) is rows = absurd rows
create_begins_none (stmts.CreateSynonym y) is rows = absurd rows
create_begins_none _ is rows = absurd cc

module _ (t : History) (whole : IsLawfulRun t) (c : Commit t.places t.commands t.trace) (u : Undisturbed t.places t.commands t.trace c) (below : DroppedNone t c.root) where
  abbrev r : BranchId
  r = c.root

  abbrev first : Happening
  first = happenings.Turn c.call

  abbrev after : List Happening
  after = c.before ++ first ∷ []

  -- ---- the root opens no edge from its COMMIT on

  abbrev opens_at : List Happening → ℕ → ℕ
  opens_at zs i = count_opens (said_in (f_at t zs)) r i

  no_open : (zs : List Happening) (h : Turn) (rest : List Happening) (is : zs ++ happenings.Turn h ∷ rest ≡ t.trace) → Part (so_far t zs) (part_lawful t whole zs (part_of t whole zs (happenings.Turn h) rest is)) c.before → (IsBeginCall h.input → ⊥)
      → (i : ℕ) → opens_at (zs ++ happenings.Turn h ∷ []) i ≡ opens_at zs i
  no_open zs h rest is since quiet i =
      let may : MayHappen t.places t.commands (f_at t zs) (happenings.Turn h) = may_of t whole zs (happenings.Turn h) rest is in
      let all = count_on t whole zs (happenings.Turn h) rest is r i in
      elim (adds t whole zs h rest is may.0 may.1 r i) [
        | inl none ↦ omega (arith, all, none)
        | inr new ↦ absurd (elim new.0.2 [ inl rows ↦ quiet rows | inr child ↦ call.no_child t whole c zs (part_of t whole zs (happenings.Turn h) rest is) since child.0 child.1 ])
      ]

  call_opens : (i : ℕ) → opens_at after i ≡ opens_at c.before i
  call_opens i = no_open c.before c.call c.during c.is (record { rest = []; is = append-nil c.before }) commits i
    where
      commits : IsBeginCall c.call.input → ⊥
      commits rows =
          let it : inputs.Call c.session (Some (stmts.Commit c.comment)) ≡ inputs.Call rows.0 (Some rows.1) = sym c.asks ∙ rows.2 in
          let same_call : stmts.Commit c.comment ≡ rows.1 = cc in
          subst MayBegin (sym same_call) rows.3

  walk : (mid rest : List Happening) → mid ++ rest ≡ c.during → AllByRecursion IsInCourse rest → ((i : ℕ) → opens_at (after ++ mid) i ≡ opens_at c.before i) → (i : ℕ) → opens_at (after ++ c.during) i ≡ opens_at c.before i
  walk mid [] is all now i = subst (λ xs. opens_at (after ++ xs) i ≡ opens_at c.before i) (sym (append-nil mid) ∙ is) (now i)
  walk mid (happenings.Turn h ∷ rest) is all now i =
      let all_is : (after ++ mid) ++ happenings.Turn h ∷ rest ≡ t.trace
      = append_assoc after mid (happenings.Turn h ∷ rest) ∙ (ap (λ xs. after ++ xs) is ∙ (append_assoc c.before (first ∷ []) c.during ∙ c.is)) in
      let may : MayHappen t.places t.commands (f_at t (after ++ mid)) (happenings.Turn h) = may_of t whole (after ++ mid) (happenings.Turn h) rest all_is in
      let calm : IsBeginCall h.input → ⊥ = elim all.0 [
        | inl delivery ↦ (λ rows. (let took : Comes (f_at t (after ++ mid)) may.0 h.node h.input (Some (record { number = delivery.1; again = false })) = subst (λ o. Comes (f_at t (after ++ mid)) may.0 h.node h.input o) delivery.2 may.1.comes in
            let message = delivered (f_at t (after ++ mid)) may.0 h.node h.input _ took in
            let it : inputs.Message message.0 ≡ inputs.Call rows.0 (Some rows.1) = sym message.1 ∙ rows.2 in
            absurd cc))
        | inr create ↦ (λ rows. (let call = create_call h.input create.1 in
            let it : inputs.Call call.0 (Some call.1) ≡ inputs.Call rows.0 (Some rows.1) = sym call.2 ∙ rows.2 in
            let same_call : call.1 ≡ rows.1 = cc in
            create_begins_none rows.1 (subst (λ s. commits_first s ≡ true) same_call call.3) rows.3))
      ] in
      let since : Part (so_far t (after ++ mid)) (part_lawful t whole (after ++ mid) (part_of t whole (after ++ mid) (happenings.Turn h) rest all_is)) c.before = record { rest = first ∷ mid; is = sym (append_assoc c.before (first ∷ []) mid) } in
      walk (mid ++ happenings.Turn h ∷ []) rest (append_assoc mid (happenings.Turn h ∷ []) rest ∙ is) all.1
      (λ j. subst (λ xs. opens_at xs j ≡ opens_at c.before j) (append_assoc after mid (happenings.Turn h ∷ []))
      (no_open (after ++ mid) h rest all_is since calm j ∙ now j)) i
  walk mid (happenings.Begun n ∷ rest) is all now i = absurd (elim all.0 [ inl never ↦ never | inr never ↦ never ])
  walk mid (happenings.Cut a b ∷ rest) is all now i = absurd (elim all.0 [ inl never ↦ never | inr never ↦ never ])
  walk mid (happenings.Join a b ∷ rest) is all now i = absurd (elim all.0 [ inl never ↦ never | inr never ↦ never ])
  walk mid (happenings.Lost n ∷ rest) is all now i = absurd (elim all.0 [ inl never ↦ never | inr never ↦ never ])
  walk mid (happenings.Stopped n ∷ rest) is all now i = absurd (elim all.0 [ inl never ↦ never | inr never ↦ never ])
  walk mid (happenings.Started n boot ∷ rest) is all now i = absurd (elim all.0 [ inl never ↦ never | inr never ↦ never ])

  same_opens : (i : ℕ) → opens_at t.trace i ≡ opens_at c.before i
  same_opens i =
      subst (λ xs. opens_at xs i ≡ opens_at c.before i) (append_assoc c.before (first ∷ []) c.during ∙ c.is)
      (walk [] c.during refl u.course (λ j. subst (λ xs. opens_at xs j ≡ opens_at c.before j) (sym (append-nil after)) (call_opens j)) i)

  -- ---- so each branch below it is its child, and is asked

  module _ (x : Born) (began : Began (births_of t) x) (of : x.root ≡ r) (above : x.parent ≡ Some r) where
    found : live_at c.kept c.live.me ≡ Some c.live
    found = call.found t whole c

    me : c.live.me ≡ r
    me = call.me t whole c

    goes : NeedsNoRollback c.kept c.live
    goes top = subst (λ n. (session_at c.kept.sessions n).code ≡ None) (sym (ap (λ (b : BranchId). b.session) me ∙ call.own t whole c)) u.goes_on

    wide : x.edge ≤ length c.live.edges
    wide = elim (at_most x.edge (length c.live.edges)) [
      | inl low ↦ low
      | inr high ↦ absurd (
          let none : count_opens (said_in (f_at t c.before)) c.live.me x.edge ≡ 0
          = opened_low t whole c.before (call.part0 t whole c) c.call.node c.kept c.up c.live found goes (call.working t whole c).1 x.edge high in
          let none_r : opens_at c.before x.edge ≡ 0 = subst (λ b. count_opens (said_in (f_at t c.before)) b x.edge ≡ 0) me none in
          let still : opens_at t.trace x.edge ≡ opens_at c.before x.edge = same_opens x.edge in
          let some : 1 ≤ opens_at t.trace x.edge = opened t whole c u x began r above in
          omega (arith, none_r, still, some))
    ]

    child : numbered (children_of c.live) x.edge ≡ Some x.me
    child = is_child t whole c u x began of r above c.before (call.part0 t whole c) c.kept c.call.node c.up c.live found me wide

    some : 1 ≤ length c.live.edges
    some = (let low : 1 ≤ x.edge = edge_above t whole c u x began r above in let high : x.edge ≤ length c.live.edges = wide in omega (arith, low, high))

    -- after the call it collects
    abbrev l : Live
    l = call.l t whole c

    collects : live_at (call.d0 t whole c).after r ≡ Some l
    collects =
        let act : first_act_by l true (map with_prepare_sent c.live.edges) ≡ acts.AskDown = asks_down l c.live.edges some in
        let draft : (call.d0 t whole c) ≡ act_turn (call.kp t whole c) l true acts.AskDown = call.draft_is t whole c u.goes_on ∙ ap (act_turn (call.kp t whole c) l true) act in
        subst (λ (d : TurnDraft). live_at d.after r ≡ Some l) (sym draft) (subst (λ b. live_at (act_turn (call.kp t whole c) l true acts.AskDown).after b ≡ Some l) me (put_found live_id (call.kp t whole c).lives l))

    part_after : Part t whole after
    part_after = part_on t whole c.before first c.during c.is

    asked_after : was_asked (said_in (f_at t after)) r x.me ≡ true
    asked_after =
        let up : node_at (f_at t after) r.node ≡ Some (call.d0 t whole c).after = call.call_up t whole c u.whole in
        let mine : live_at (call.d0 t whole c).after l.me ≡ Some l = subst (λ b. live_at (call.d0 t whole c).after b ≡ Some l) (sym me) collects in
        let peers : children_of l ≡ children_of c.live = asked_peers c.live.edges in
        let kid : numbered (children_of l) x.edge ≡ Some x.me = ap (λ bs. numbered bs x.edge) peers ∙ child in
        subst (λ b. was_asked (said_in (f_at t after)) b x.me ≡ true) me ((edges_asked (so_far t after) (part_lawful t whole after part_after) r.node (call.d0 t whole c).after up l mine (λ working. absurd cc)).0 x.edge x.me kid)

    root_asked : was_asked (said_in (facts_at t)) r x.me ≡ true
    root_asked = sent_end t whole after part_after is_prepare r x.me asked_after

  -- ---- every branch

  module _ (x : Born) (began : Began (births_of t) x) (of : x.root ≡ r) (p : BranchId) (above : x.parent ≡ Some p) where
    -- by its parent
    asked_by : (y : Born) → Began (births_of t) y → y.me ≡ p → y.root ≡ r → (o : Option BranchId) → y.parent ≡ o → ((q : BranchId) → y.parent ≡ Some q → was_asked (said_in (facts_at t)) q y.me ≡ true) → was_asked (said_in (facts_at t)) p x.me ≡ true
    asked_by y began_y me_y of_y None top asked =
        let stands : StandsBelow (Began (births_of t)) y None = subst (StandsBelow (Began (births_of t)) y) top (all_found (λ z. StandsBelow (Began (births_of t)) z z.parent) born_id (births_of t) y.me y (births_are_trees t whole) began_y) in
        let root : p ≡ r = sym me_y ∙ (sym stands.0 ∙ of_y) in
        subst (λ b. was_asked (said_in (facts_at t)) b x.me ≡ true) (sym root) (root_asked x began of (above ∙ ap Some root))
    asked_by y began_y me_y of_y (Some q) above_y asked =
        kid_asked t whole c u below x began of p above y began_y me_y of_y q above_y (subst (λ b. was_asked (said_in (facts_at t)) q b ≡ true) me_y (asked q above_y))

  pub asked_all : (fuel : ℕ) (x : Born) → Began (births_of t) x → x.root ≡ r → x.depth ≤ fuel → (p : BranchId) → x.parent ≡ Some p → was_asked (said_in (facts_at t)) p x.me ≡ true
  asked_all zero x began of deep p above = (let y = parent_of_tree t whole c u x began p above in let one = y.4 in absurd (omega (arith, one, deep)))
  asked_all (suc fuel) x began of deep p above =
      let y = parent_of_tree t whole c u x began p above in
      let one : y.0.depth + 1 ≡ x.depth = y.4 in
      asked_by x began of p above y.0 y.1 y.2 (y.3 ∙ of) y.0.parent refl (λ q above_y. asked_all fuel y.0 y.1 (y.3 ∙ of) (omega (arith, one, deep)) q above_y)

  -- ---- so none is live

  module _ (free : (n : ℕ) (k : NodeState) → node_at (facts_at t) n ≡ Some k → (l : Live) → live_at k l.me ≡ Some l → l.root ≡ r → l.phase ≢ phases.Ready) (n : ℕ) (k : NodeState) (up : node_at (facts_at t) n ≡ Some k) (l : Live) (live : live_at k l.me ≡ Some l) (of : l.root ≡ r) where
    its : LiveIs (Began (births_of t)) l
    its = all_found (LiveIs (Began (births_of t))) live_id k.lives l.me l (nodes_name_the_born t whole n k up).0 live

    mine : l.me.node ≡ n
    mine = all_found (λ (z : Live). z.me.node ≡ n) live_id k.lives l.me l (ids_name_their_node t whole n k up).lives live

    there : node_at (facts_at t) l.me.node ≡ Some k
    there = subst (λ i. node_at (facts_at t) i ≡ Some k) (sym mine) up

    -- no branch of the tree works
    works : l.phase ≡ phases.Working → (o : Option BranchId) → its.born.parent ≡ o → ⊥
    works working None top =
        let stands : StandsBelow (Began (births_of t)) its.born None = subst (StandsBelow (Began (births_of t)) its.born) top (all_found (λ z. StandsBelow (Began (births_of t)) z z.parent) born_id (births_of t) its.born.me its.born (births_are_trees t whole) its.began) in
        let root : l.me ≡ r = sym its.is_me ∙ (sym stands.0 ∙ (its.is_root ∙ of)) in
        let gone : live_at k r ≡ None = undisturbed_roots_leave t whole c u below k (subst (λ b. node_at (facts_at t) b.node ≡ Some k) root there) in
        let some : live_at k r ≡ Some l = subst (λ b. live_at k b ≡ Some l) root live in
        cc (gone, some)
    works working (Some p) above =
        let asked : was_asked (said_in (facts_at t)) p its.born.me ≡ true = asked_all its.born.depth its.born its.began (its.is_root ∙ of) (omega arith) p above in
        let asked_l : was_asked (said_in (facts_at t)) p l.me ≡ true = subst (λ b. was_asked (said_in (facts_at t)) p b ≡ true) its.is_me asked in
        let y = parent_of_tree t whole c u its.born its.began p above in
        asked_so (λ b. (z : Born) × Began (births_of t) z × (z.me ≡ b) × (z.root ≡ r)) (IsBusy (facts_at t)) (facts_at t).net.packets (came (facts_at t).net.packets (messages_come t whole c u)) (prepares_are_heard t whole) p l.me
        (y.0, y.1, y.2, y.3 ∙ (its.is_root ∙ of)) asked_l k l there live working
      where
        came : (xs : List Packet) → AllByRecursion (λ z. (b : Born) → Began (births_of t) b → b.me ≡ z.msg.from → b.root ≡ r → z.fate ≡ fates.Delivered) xs
            → AllByRecursion (λ z. ((b : Born) × Began (births_of t) b × (b.me ≡ z.msg.from) × (b.root ≡ r)) → z.fate ≡ fates.Delivered) xs
        came [] all = tt
        came (z ∷ xs) all = ((λ b. all.0 b.0 b.1 b.2 b.3), came xs all.1)

    none_live : (phase : Phase) → l.phase ≡ phase → ⊥
    none_live phases.Working is = works is its.born.parent refl
    none_live (phases.Collecting down) is = undisturbed_collects_end t whole c u below n k up l live of down is
    none_live phases.Ready is = free n k up l live of is

pub undisturbed_branches_are_asked : UndisturbedBranchesAreAsked
undisturbed_branches_are_asked t whole c u below x began of p above = asked_all t whole c u below x.depth x began of (omega arith) p above

pub undisturbed_branches_leave : UndisturbedBranchesLeave
undisturbed_branches_leave t whole c u below free n k up l live of = none_live t whole c u below free n k up l live of l.phase refl
