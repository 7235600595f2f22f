-- In every lawful run a branch that began below another is the answer of its node to the Open of its edge, as long as the node is not
-- stopped.
use Rattle.std.proofs.Common.{◌≡◌, ◌≢◌, ℕ, ◌+◌, ◌≤◌, ◌==◌, ◌&&◌, ◌⊎◌, Bool, true, false, if◌then◌else◌, List, [], ◌∷◌, ◌++◌, find, length, option_to_list, Some, None, inl, inr, refl, sym, ap, subst, ◌∙◌, arith, append-nil, Option}
use Rattle.std.specs.Prelude.{IfSome}
use Rattle.std.specs.List.{AllByRecursion}
use Rattle.std.proofs.lemmas.Bool.{eq-eqb}
use Rattle.tran_ids.proofs.BranchLemmas.{same_from_equal}
use Rattle.node_rules.specs.Data.{BranchId, Input, Opening, Place, RedoRecord}
use Rattle.commit_forget.specs.declared.next.Next.TheVariants as nexts
use Rattle.node_rules.specs.Data.acts
use Rattle.node_rules.specs.Data.inputs
use Rattle.node_rules.specs.Data.kinds
use Rattle.node_rules.specs.Calls.{is_opening, next_child, new_opening, open_by}
use Rattle.node_rules.specs.Inputs.{Came}
use Rattle.node_rules.specs.NodeState.{NodeState, TurnDraft}
use Rattle.node_rules.specs.Turn.{turn_of, draft_of, heard}
use Rattle.node_rules.specs.Words.{is_item_of, item_at}
use Rattle.link_session.specs.Opens.{opening_of}
use Rattle.node_rules.proofs.Steps as steps
use Rattle.node_rules.proofs.Steps.{Step}
use Rattle.run_rules.specs.Births.{Born, births_by, births_at, births_after, births_from, births_of, born_id}
use Rattle.run_base_laws.specs.BirthLaws.{Began}
use Rattle.run_rules.specs.Branches.{is_among}
use Rattle.run_rules.specs.Data.{Turn, Happening}
use Rattle.run_rules.specs.Data.happenings
use Rattle.run_rules.specs.Facts.{Facts, node_at, records_at, kept_after, with_boot, facts_after}
use Rattle.run_rules.specs.Lawful.{History, IsLawfulRun, boots}
use Rattle.run_base_laws.specs.RunEvents.{lives_at}
use Rattle.run_rules.proofs.AtNodeLemmas.{turn_here, turn_elsewhere, stop_here, stop_elsewhere, start_here, start_elsewhere}
use Rattle.run_base_laws.proofs.BirthLemmas.{Begins, Child_begins, None_begins, Root_begins, begins_so}
use Rattle.run_base_laws.proofs.BirthRunLemmas.{born_are_live_or_left}
use Rattle.run_rules.proofs.BootLemmas.{IsOfTurn, step_of_turn, boots_started, boots_with}
use Rattle.run_base_laws.proofs.EventsStandLemmas.{run_stands}
use Rattle.run_base_laws.proofs.LawfulLemmas.{serves, of_wrote}
use Rattle.run_base_laws.proofs.OwnLemmas.{all_found}
use Rattle.run_base_laws.proofs.TurnEventLemmas.{cases_nat, number_is}
use Rattle.tree_laws.proofs.PrefixLemmas.{so_far, f_at, one_on, births_join}
use Rattle.tree_laws.proofs.TimeLemmas.{may_of, keep_on}
use Rattle.commit_leave_laws.proofs.FindLemmas.{find_kept, find_either, find_last}
use Rattle.tree_laws.proofs.AtTurn.{at_happening, at_turn}

-- ---- a step

-- what a node opened stays
abbrev Grows : NodeState → TurnDraft → Type 0
Grows k d = (b : BranchId) (i : ℕ) (o : Opening) → opening_of k.opens b i ≡ Some o → opening_of d.after.opens b i ≡ Some o

opens_grow : (p : Place) (input : Input) {k : NodeState} {d : TurnDraft} → Step p input k d → Grows k d
opens_grow p input (steps.Begins n s read_at call begins range none step) = opens_grow p input step
opens_grow p input (steps.Counts_call n s call counts step) = opens_grow p input step
opens_grow p input (steps.Goes_back x step goes next) = opens_grow p input next
opens_grow p input (steps.Pends n l given call has live code writer step) = opens_grow p input step
opens_grow p input (steps.Lets_reads_go l comment site_below live begins step) = opens_grow p input step
opens_grow p input (steps.Counts_ack s from kept came counts step) = opens_grow p input step
opens_grow p input (steps.Opens_branch {k = k} to parent edge root depth read_at came new) = λ b i o is. find_kept (is_opening b i) k.opens (new_opening p k parent edge ∷ []) o is
opens_grow p input (steps.Acts l b acts.Rest why) = λ c i o is. is
opens_grow p input (steps.Does s from nexts.Rest kept why) = λ c i o is. is
opens_grow p input (steps.Gives_up_commit n b None gives has calls live) = λ c i o is. is
opens_grow p input _ = λ c i o is. is

heard_opens : (k : NodeState) (input : Input) → (heard k input).opens ≡ k.opens
heard_opens k (inputs.Message m) = refl
heard_opens k (inputs.Call n s) = refl
heard_opens k (inputs.GiveUp n) = refl
heard_opens k inputs.Reco = refl
heard_opens k inputs.Checkpoint = refl

-- ---- every run

-- a branch that began below another at a node in its last start is the answer to the Open of its edge
abbrev pub IsAnswerTo : ℕ → ℕ → NodeState → Born → Type 0
IsAnswerTo n boot k x = (b : BranchId) → x.parent ≡ Some b → x.me.node ≡ n → x.me.boot ≡ boot → (o : Opening) × (opening_of k.opens b x.edge ≡ Some o) × (o.child ≡ x.me)

module _ (t : History) (whole : IsLawfulRun t) where
  abbrev pub Answered : List Happening → Type 0
  Answered hs = (n : ℕ) (k : NodeState) → node_at (f_at t hs) n ≡ Some k → (x : Born) → Began (births_of (so_far t hs)) x → IsAnswerTo n (boots (records_at (f_at t hs) n)) k x

  births_on : (hs : List Happening) (h : Happening) → births_of (so_far t (hs ++ h ∷ [])) ≡ births_after t.places (f_at t hs) h (births_of (so_far t hs))
  unfolding births_from
  births_on hs h = births_join t.places t.commands _ hs (h ∷ []) []

  module _ (hs : List Happening) (h : Happening) (rest : List Happening) (is : hs ++ h ∷ rest ≡ t.trace) (now : Answered hs) where
    open at_happening t whole hs h rest is use {f, s, bs, g, lawful}

    even : length f.nodes ≡ length f.records
    even = (run_stands s lawful).0.even

    many : length f.nodes ≡ length t.places
    many = (run_stands s lawful).1.many

    -- by what the next facts are
    from_facts : births_after t.places f h bs ≡ bs → ((n : ℕ) (k : NodeState) → node_at g n ≡ Some k → (x : Born) → Began bs x → IsAnswerTo n (boots (records_at g n)) k x) → Answered (hs ++ h ∷ [])
    from_facts same_births all n k up x began =
        subst (λ (y : Facts). IsAnswerTo n (boots (records_at y n)) k x) (sym (one_on t hs h))
        (all n k (subst (λ (y : Facts). node_at y n ≡ Some k) (one_on t hs h) up) x (subst (λ xs. Began xs x) (births_on hs h ∙ same_births) began))

    -- a node that is as it was
    as_before : (n : ℕ) (k : NodeState) → node_at g n ≡ node_at f n → records_at g n ≡ records_at f n → node_at g n ≡ Some k → (x : Born) → Began bs x → IsAnswerTo n (boots (records_at g n)) k x
    as_before n k same_node same_records up x began = subst (λ rs. IsAnswerTo n (boots rs) k x) (sym same_records) (now n k (sym same_node ∙ up) x began)

    -- a branch of a node that is down has an id of an earlier start
    low_boot : (x : Born) → Began bs x → node_at f x.me.node ≡ None → x.me.boot ≤ boots (records_at f x.me.node)
    low_boot x began down = elim (born_are_live_or_left s lawful x.me (λ none. absurd (cc (began, none)))) [
      | inl left ↦ ((run_stands s lawful).1.given x.me left).0
      | inr among ↦ absurd (let none : is_among x.me (lives_at None) ≡ true = subst (λ o. is_among x.me (lives_at o) ≡ true) down among in cc)
    ]

  module _ (hs : List Happening) (u : Turn) (rest : List Happening) (is : hs ++ happenings.Turn u ∷ rest ≡ t.trace) (now : Answered hs) where
    open at_turn t whole hs u rest is use {f as f1, g as g1, s as s1, bs as bs1, lawful as lawful1, may, k, p, d}

    even1 : length f1.nodes ≡ length f1.records
    even1 = (run_stands s1 lawful1).0.even

    number : p.number ≡ u.node
    number = number_is t.places t.commands t.of_a_script.each f1 u.node k (run_stands s1 lawful1).1.many may.1.up

    here : (node_at g1 u.node ≡ kept_after u.cut (Some (turn_of p k u.input))) × (records_at g1 u.node ≡ records_at f1 u.node ++ option_to_list u.wrote)
    here = turn_here t.places t.commands f1 even1 u k may.1.up

    -- the number of starts is as it was
    same_boots : boots (records_at g1 u.node) ≡ boots (records_at f1 u.node)
    same_boots =
        let of_turn : IfSome u.wrote IsOfTurn = of_wrote p k u (serves t.places f1 u k may.1) (λ w. IfSome w IsOfTurn) tt (step_of_turn p u.input (serves t.places f1 u k may.1).step) in
        ap boots here.1 ∙ boots_with (records_at f1 u.node) u.wrote of_turn

    -- those that began before stay answers
    old_stay : (x : Born) → IsAnswerTo u.node (boots (records_at f1 u.node)) k x → IsAnswerTo u.node (boots (records_at g1 u.node)) d.after x
    old_stay x so b above at boot =
        let was = so b above at (boot ∙ same_boots) in
        (was.0, opens_grow p u.input (serves t.places f1 u k may.1).step b x.edge was.0 (ap (λ os. opening_of os b x.edge) (heard_opens k u.input) ∙ was.1), was.2)

    -- so is one that begins
    child_so : (to parent : BranchId) (edge : ℕ) (root : BranchId) (depth : ℕ) (read_at : Option ℕ) → Came u.input parent to (kinds.Open edge root depth read_at) → find (is_opening parent edge) k.opens ≡ None
        → (o : Opening) × (opening_of d.after.opens parent edge ≡ Some o) × (o.child ≡ next_child p k)
    child_so to parent edge root depth read_at came none = subst (λ i. (o : Opening) × (opening_of (draft_of p k i).after.opens parent edge ≡ Some o) × (o.child ≡ next_child p k)) (sym came.is) (made, opened, refl)
      where
        j : NodeState
        j = heard k (inputs.Message (record { from = parent; to = to; scn = came.scn; kind = kinds.Open edge root depth read_at }))

        made : Opening
        made = new_opening p k parent edge

        opened : opening_of (draft_of p k (inputs.Message (record { from = parent; to = to; scn = came.scn; kind = kinds.Open edge root depth read_at }))).after.opens parent edge ≡ Some made
        opened =
            ap (λ o. opening_of (open_by p j parent edge root depth read_at o).after.opens parent edge) none
            ∙ find_last (is_opening parent edge) k.opens made none (ap (λ q. q && (edge == edge)) (same_from_equal parent parent refl) ∙ eq-eqb edge edge refl)

    new_stay : {xs : List Born} → Begins p k u.input xs → AllByRecursion (IsAnswerTo u.node (boots (records_at g1 u.node)) d.after) xs
    new_stay None_begins = tt
    new_stay (Root_begins m st read_at call begins none) = ((λ b above at boot. absurd cc), tt)
    new_stay (Child_begins to parent edge root depth read_at came none) = (
      (λ b above at boot. (let one : Some parent ≡ Some b = above in let it : parent ≡ b = cc in
          subst (λ c. (o : Opening) × (opening_of d.after.opens c edge ≡ Some o) × (o.child ≡ next_child p k)) it (child_so to parent edge root depth read_at came none))),
      tt,
    )

    -- a branch that begins is one of the node
    new_here : {xs : List Born} → Begins p k u.input xs → AllByRecursion (λ x. x.me.node ≡ u.node) xs
    new_here None_begins = tt
    new_here (Root_begins m st read_at call begins none) = (number, tt)
    new_here (Child_begins to parent edge root depth read_at came none) = (number, tt)

    births_now : (cut : Bool) → u.cut ≡ cut → births_of (so_far t (hs ++ happenings.Turn u ∷ [])) ≡ (if cut then bs1 else bs1 ++ births_by p k u.input)
    births_now cut is_cut =
        births_on hs (happenings.Turn u) ∙ (ap (λ q. if q then bs1 else bs1 ++ births_at p u.input (node_at f1 u.node)) is_cut
        ∙ ap (λ o. if cut then bs1 else bs1 ++ births_at p u.input o) may.1.up)

    -- one of those before, or of those that begin
    either : (x : Born) → Began (bs1 ++ births_by p k u.input) x → (Began bs1 x) ⊎ (item_at born_id (births_by p k u.input) x.me ≡ Some x)
    either x began = find_either (is_item_of born_id x.me) bs1 (births_by p k u.input) x began

    after_turn : (cut : Bool) → u.cut ≡ cut → (n : ℕ) (j : NodeState) → node_at g1 n ≡ Some j → (x : Born) → Began (if cut then bs1 else bs1 ++ births_by p k u.input) x → IsAnswerTo n (boots (records_at g1 n)) j x
    unfolding turn_of
    after_turn cut is_cut n j up x began = elim (cases_nat u.node n) [
      | inl mine ↦ subst (λ m. IsAnswerTo m (boots (records_at g1 m)) j x) mine (own cut (sym here.0 ∙ subst (λ m. node_at g1 m ≡ Some j) (sym mine) up) is_cut began)
      | inr other ↦ (let same_there = turn_elsewhere t.places t.commands f1 even1 u n other in
          away cut began (λ old. subst (λ (rs : List RedoRecord). IsAnswerTo n (boots rs) j x) (sym same_there.1) (now n j (sym same_there.0 ∙ up) x old)) other)
    ]
      where
        own : (q : Bool) → kept_after u.cut (Some (turn_of p k u.input)) ≡ Some j → u.cut ≡ q → Began (if q then bs1 else bs1 ++ births_by p k u.input) x → IsAnswerTo u.node (boots (records_at g1 u.node)) j x
        own true left at begun = absurd (let it : None ≡ Some j = sym (ap (λ w. kept_after w (Some (turn_of p k u.input))) at) ∙ left in cc)
        own false left at begun =
            let it : Some d.after ≡ Some j = sym (ap (λ w. kept_after w (Some (turn_of p k u.input))) at) ∙ left in
            let one : d.after ≡ j = cc in
            subst (λ (z : NodeState). IsAnswerTo u.node (boots (records_at g1 u.node)) z x) one (elim (either x begun) [
              | inl old ↦ old_stay x (now u.node k may.1.up x old)
              | inr new ↦ all_found (IsAnswerTo u.node (boots (records_at g1 u.node)) d.after) born_id (births_by p k u.input) x.me x (new_stay (begins_so p k u.input)) new
            ])

        away : (q : Bool) → Began (if q then bs1 else bs1 ++ births_by p k u.input) x → (Began bs1 x → IsAnswerTo n (boots (records_at g1 n)) j x) → u.node ≢ n → IsAnswerTo n (boots (records_at g1 n)) j x
        away true begun old other = old begun
        away false begun old other = elim (either x begun) [
          | inl was ↦ old was
          | inr new ↦ (λ b above at boot. absurd (other (sym (all_found (λ (y : Born). y.me.node ≡ u.node) born_id (births_by p k u.input) x.me x (new_here (begins_so p k u.input)) new) ∙ at)))
        ]

    turn_answered : Answered (hs ++ happenings.Turn u ∷ [])
    turn_answered n j up x began =
        subst (λ (y : Facts). IsAnswerTo n (boots (records_at y n)) j x) (sym (one_on t hs (happenings.Turn u)))
        (after_turn u.cut refl n j (subst (λ (y : Facts). node_at y n ≡ Some j) (one_on t hs (happenings.Turn u)) up) x (subst (λ xs. Began xs x) (births_now u.cut refl) began))

  answered_on : (hs : List Happening) (h : Happening) (rest : List Happening) → hs ++ h ∷ rest ≡ t.trace → Answered hs → Answered (hs ++ h ∷ [])
  unfolding facts_after
  answered_on hs (happenings.Turn u) rest is now = turn_answered hs u rest is now
  answered_on hs (happenings.Stopped m) rest is now =
      from_facts hs (happenings.Stopped m) rest is now refl (λ n k up. elim (cases_nat m n) [
        | inl at ↦ absurd (let may = may_of t whole hs (happenings.Stopped m) rest is in
            let down = (stop_here t.places t.commands (f_at t hs) (even hs (happenings.Stopped m) rest is now) m may.0.0 (omega (arith, may.0.1, many hs (happenings.Stopped m) rest is now))).0 in
            let none : node_at (facts_after t.places t.commands (f_at t hs) (happenings.Stopped m)) n ≡ None = subst (λ i. node_at (facts_after t.places t.commands (f_at t hs) (happenings.Stopped m)) i ≡ None) at down in
            cc (none, up))
        | inr other ↦ (let same_there = stop_elsewhere t.places t.commands (f_at t hs) (even hs (happenings.Stopped m) rest is now) m n other in as_before hs (happenings.Stopped m) rest is now n k same_there.0 same_there.1 up)
      ])
  answered_on hs (happenings.Started m boot) rest is now =
      from_facts hs (happenings.Started m boot) rest is now refl (λ n k up. elim (cases_nat m n) [
        | inr other ↦ (let same_there = start_elsewhere t.places t.commands (f_at t hs) (even hs (happenings.Started m boot) rest is now) m boot n other in as_before hs (happenings.Started m boot) rest is now n k same_there.0 same_there.1 up)
        | inl at ↦ (let may = may_of t whole hs (happenings.Started m boot) rest is in
            let there = (start_here t.places t.commands (f_at t hs) (even hs (happenings.Started m boot) rest is now) m boot may.there.0 (omega (arith, may.there.1, many hs (happenings.Started m boot) rest is now))).1 in
            let its : records_at (facts_after t.places t.commands (f_at t hs) (happenings.Started m boot)) n ≡ with_boot (f_at t hs) n boot = subst (λ i. records_at (facts_after t.places t.commands (f_at t hs) (happenings.Started m boot)) i ≡ with_boot (f_at t hs) i boot) at there in
            let count : boots (records_at (facts_after t.places t.commands (f_at t hs) (happenings.Started m boot)) n) ≡ boots (records_at (f_at t hs) n) + 1 = ap boots its ∙ boots_started (records_at (f_at t hs) n) boot in
            let down : node_at (f_at t hs) n ≡ None = subst (λ i. node_at (f_at t hs) i ≡ None) at may.down in
            λ x began b above node number. absurd (
            let low : x.me.boot ≤ boots (records_at (f_at t hs) n) = subst (λ i. x.me.boot ≤ boots (records_at (f_at t hs) i)) node (low_boot hs (happenings.Started m boot) rest is now x began (subst (λ i. node_at (f_at t hs) i ≡ None) (sym node) down)) in
            omega (arith, low, count, number)))
      ])
  answered_on hs (happenings.Begun c) rest is now = from_facts hs (happenings.Begun c) rest is now refl (λ n k up. as_before hs (happenings.Begun c) rest is now n k refl refl up)
  answered_on hs (happenings.Cut a b) rest is now = from_facts hs (happenings.Cut a b) rest is now refl (λ n k up. as_before hs (happenings.Cut a b) rest is now n k refl refl up)
  answered_on hs (happenings.Join a b) rest is now = from_facts hs (happenings.Join a b) rest is now refl (λ n k up. as_before hs (happenings.Join a b) rest is now n k refl refl up)
  answered_on hs (happenings.Lost c) rest is now = from_facts hs (happenings.Lost c) rest is now refl (λ n k up. as_before hs (happenings.Lost c) rest is now n k refl refl up)

  first_answered : Answered []
  unfolding births_from
  first_answered n k up x began = absurd cc

  pub answered_end : Answered t.trace
  answered_end = keep_on t whole Answered answered_on [] t.trace (record { rest = []; is = append-nil t.trace }) first_answered
