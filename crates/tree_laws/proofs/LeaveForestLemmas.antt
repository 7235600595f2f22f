-- In every lawful run the forest allows each branch that answers ReadOnly to leave.
use Rattle.std.proofs.Common.{◌≡◌, ◌≢◌, ◌||◌, not, Bool, true, false, List, [], ◌∷◌, ◌++◌, is_none, Some, None, inl, inr, refl, sym, ap, subst, ◌∙◌}
use Rattle.std.specs.List.{AllByRecursion, list_any}
use Rattle.std.proofs.lemmas.Bool.{cond_both, and_parts, not-true}
use Rattle.tran_ids.proofs.BranchLemmas.{equal_from_same}
use Rattle.tran_ids.proofs.ListedLemmas.{item_is}
use Rattle.node_rules.specs.Data.{BranchId, Kind, Live, Act, Msg}
use Rattle.node_rules.specs.Data.acts
use Rattle.node_rules.specs.Data.kinds
use Rattle.node_rules.specs.Words.{same, item_at}
use Rattle.node_rules.specs.NodeState.{NodeState, TurnDraft, live_id, live_at}
use Rattle.node_rules.specs.Turn.{turn_of, heard, draft_of, stamped}
use Rattle.node_rules.proofs.Steps.{Acting}
use Rattle.node_rules.proofs.StepLemmas.{IsLive, acting_live, acting_so}
use Rattle.agreement.specs.Events.{Forest, Event, Beyond, Quiet, first, exit_by, exit, site_of}
use Rattle.run_rules.specs.Data.{Turn, Happening}
use Rattle.run_rules.specs.Data.happenings
use Rattle.run_rules.specs.Facts.{Facts, first_facts, place_at, node_at, facts_after}
use Rattle.run_rules.specs.Lawful.{MayTurn, MayHappen, IsOwed, History, IsLawfulRun}
use Rattle.run_rules.specs.Branches.{is_among}
use Rattle.run_rules.specs.Trail.{is_read_only, is_quiet}
use Rattle.run_base_laws.specs.RunEvents.{lives_at, leave_event, has_left, with_leaver, with_record, events_after}
use Rattle.run_base_laws.specs.EventLaws.{EachEventFrom}
use Rattle.run_rules.specs.Births.{Born, births_of}
use Rattle.run_base_laws.specs.BirthLaws.{Began}
use Rattle.run_branch_laws.specs.TreeJust.{TreeLeaves}
use Rattle.run_branch_laws.specs.WalkLaws.{is_above, was_sent}
use Rattle.run_base_laws.proofs.BirthLemmas.{turn_leaves}
use Rattle.run_branch_laws.proofs.HeardStandLemmas.{live_among, heard_lives}
use Rattle.run_base_laws.proofs.LaterLemmas.{exit_later, wrote_added}
use Rattle.run_base_laws.proofs.LawfulLemmas.{serves}
use Rattle.run_rules.proofs.ListLemmas.{all_map}
use Rattle.tree_laws.specs.AskLaws.{HasToldAll}
use Rattle.tree_laws.specs.Forests.{forest_of}
use Rattle.tree_laws.specs.AgreeLaws.{LeavesByForest, LeavesGoByForest}
use Rattle.tree_laws.specs.WeightLaws.{NodesWeigh, VotersWeigh}
use Rattle.tree_laws.proofs.BeyondLemmas.{beyond_is}
use Rattle.tree_laws.proofs.LeadLemmas.{leads_so}
use Rattle.tree_laws.proofs.LeftLemmas.{left_have_told_all}
use Rattle.tree_laws.proofs.PrefixLemmas.{so_far, f_at, e_at, both_each, each_prefix}
use Rattle.tree_laws.proofs.SettleLemmas.{born_of, live_in, none_below, none_above, kid_quiet}
use Rattle.tree_laws.proofs.SettleRunLemmas.{all, ends, known, more_sent, wider, asked_then, off_before}
use Rattle.tree_laws.proofs.VoterRunLemmas.{voters_weigh}
use Rattle.tree_laws.proofs.WhyLemmas.{Near, SaidWhy, why_on}
use Rattle.tree_laws.proofs.AtTurn.{at_turn}

module _ (t : History) (whole : IsLawfulRun t) where
  abbrev p : Forest
  p = forest_of t

  abbrev Law : Facts → List Event → Happening → Type 0
  Law f e h = HasToldAll (all t whole) f e h × NodesWeigh f e h

  -- what is known of the branches that have told all
  told_all : (f : Facts) (e : List Event) (hs : List Happening) → EachEventFrom Law t.places t.commands f e hs → EachEventFrom (HasToldAll (all t whole)) t.places t.commands f e hs
  told_all f e [] laws = tt
  told_all f e (h ∷ hs) laws = (laws.0.0, told_all (facts_after t.places t.commands f h) (events_after t.places t.commands f h e) hs laws.1)

  module _ (before : List Happening) (u : Turn) (rest : List Happening) (is : before ++ happenings.Turn u ∷ rest ≡ t.trace) (lawful : IsLawfulRun (so_far t before)) (k : NodeState) (may : MayTurn t.places (f_at t before) u k)
      (laws : EachEventFrom Law t.places t.commands (f_at t before) (e_at t before) (happenings.Turn u ∷ rest)) where
    open at_turn t whole before u rest is use {f, e, g}

    abbrev d : TurnDraft
    d = draft_of (place_at t.places u.node) k u.input

    later : EachEventFrom (HasToldAll (all t whole)) t.places t.commands f e (happenings.Turn u ∷ rest)
    later = told_all f e (happenings.Turn u ∷ rest) laws

    -- ---- who says ReadOnly

    abbrev Why : BranchId → Type 0
    Why b = (to : BranchId) × SaidWhy (heard k u.input) u.input d.says d.after.lives b to kinds.ReadOnly

    why_kind : (b from to : BranchId) (kind : Kind) → from ≡ b → is_read_only kind ≡ true → SaidWhy (heard k u.input) u.input d.says d.after.lives from to kind → Why b
    why_kind b from to kinds.ReadOnly me it why = (to, subst (λ c. SaidWhy (heard k u.input) u.input d.says d.after.lives c to kinds.ReadOnly) me why)
    why_kind b from to _ me it why = absurd cc

    why_found : (b : BranchId) (ms : List Msg) → AllByRecursion (λ m. SaidWhy (heard k u.input) u.input d.says d.after.lives m.from m.to m.kind) ms → list_any (is_quiet b) ms ≡ true → Why b
    why_found b [] whys quiet = absurd cc
    why_found b (m ∷ ms) whys quiet = by (is_quiet b m) refl quiet (why_found b ms whys.1)
      where
        by : (q : Bool) → is_quiet b m ≡ q → (q || list_any (is_quiet b) ms) ≡ true → (list_any (is_quiet b) ms ≡ true → Why b) → Why b
        by true here found rest_found = let parts = and_parts (same m.from b) (is_read_only m.kind) here in why_kind b m.from m.to m.kind (equal_from_same m.from b parts.0) parts.1 whys.0
        by false here found rest_found = rest_found found

    quiet_why : (cut : Bool) → IsOwed (place_at t.places u.node) k u.input u.wrote u.sent cut → (b : BranchId) → list_any (is_quiet b) u.sent ≡ true → Why b
    unfolding turn_of
    quiet_why true owed b quiet = (let none : list_any (is_quiet b) u.sent ≡ false = ap (λ (ms : List Msg). list_any (is_quiet b) ms) owed.1 in absurd (cc (quiet, none)))
    quiet_why false owed b quiet =
        why_found b u.sent
        (subst (λ (ms : List Msg). AllByRecursion (λ m. SaidWhy (heard k u.input) u.input d.says d.after.lives m.from m.to m.kind) ms) (sym owed.1)
        (all_map (λ (m : Msg). SaidWhy (heard k u.input) u.input d.says d.after.lives m.from m.to m.kind) (stamped d.after.clock) d.says
        (why_on (heard k u.input) u.input (place_at t.places u.node) (serves t.places f u k may).step (λ no. record { lives = refl; clock = refl })).1)) quiet

    -- ---- what is beyond it

    -- it is not the site, and all beyond are gone without changes
    abbrev Quits : BranchId → Type 0
    Quits b = (b ≢ site_of p b) × ((x : BranchId) → Beyond p x b → exit e x ≡ Some Quiet)

    -- the branch of an act, as it began
    abbrev BornAs : Live → Type 0
    BornAs l = (x : Born) × Began (births_of (so_far t before)) x × (x.me ≡ l.me) × (x.parent ≡ l.parent)

    born_acting : (at : NodeState) → Near (heard k u.input) at → {l : Live} {b : Bool} {a : Act} → Acting at u.input l b a → BornAs l
    born_acting at near why =
        acting_so BornAs (λ l comment b so. so) (λ l from v so. so)
        (λ b l live. (let here : live_at k l.me ≡ Some l = live_in t before lawful u k may at near l (subst (λ c. live_at at c ≡ Some l) (sym (item_is live_id at.lives b l live)) live) in
        let placed = born_of t before lawful u k may l here in
        (placed.born, placed.began, placed.is_me, placed.is_parent))) why

    not_site : (at : NodeState) → Near (heard k u.input) at → {l : Live} {b : Bool} → Acting at u.input l b acts.SayReadOnly → (q : BranchId) → l.parent ≡ Some q → l.me ≢ site_of p l.me
    not_site at near {l = l} why q above =
        let x : BornAs l = born_acting at near why in
        let told : was_sent is_above (all t whole) q l.me ≡ true = more_sent t whole before u rest is is_above q l.me (none_above t before lawful u k may (ends t whole) (all t whole) (known t whole) (wider t whole before u rest is) (more_sent t whole before u rest is) at near why q above) in
        (leads_so (ends t whole) (all t whole) (known t whole) x.0 l.me q (wider t whole before u rest is x.0 x.1) x.2 (inl (x.3 ∙ above, told))).not_site

    quits_so : (b : BranchId) → Why b → is_among b (lives_at (node_at g u.node)) ≡ false → Quits b
    quits_so b why gone =
        let says = why.1 in
        let l : Live = says.1 in
        let acts = says.3 in
        let living : IsLive (heard k u.input) l.me = (let at = acting_live acts.acting in (at.0, subst (λ (ls : List Live). item_at live_id ls l.me ≡ Some at.0) acts.near.lives at.1)) in
        let was : is_among l.me (lives_at (node_at f u.node)) ≡ true = subst (λ o. is_among l.me (lives_at o) ≡ true) (sym may.up) (live_among k l.me (heard_lives k u.input l.me living)) in
        let left : exit (events_after t.places t.commands f (happenings.Turn u) e) l.me ≢ None = turn_leaves l.me f g u e was (subst (λ c. is_among c (lives_at (node_at g u.node)) ≡ false) (sym says.4) gone) in
        subst Quits says.4 (
          not_site acts.here acts.near acts.acting why.0 says.5,
          (λ x edge. elim (beyond_is (ends t whole) (all t whole) (known t whole) x l.me edge) [
            | inl kid ↦ kid_quiet t before lawful u k may (laws.0.1 u.node k may.up) x acts.here acts.near acts.acting (asked_then t whole before u rest is lawful k may later says.0 l.me x left kid.0)
                (off_before t whole before u rest is lawful k may later l.me x kid.1)
            | inr told ↦ absurd (none_below t before lawful u k may (ends t whole) (all t whole) (known t whole) (wider t whole before u rest is) (more_sent t whole before u rest is) acts.here acts.near acts.acting x told)
          ]),
        )

    -- ---- exits one after the other

    quiet_stays : (after : List BranchId) (sent : List Msg) (b x : BranchId) (r : List Event) → exit r x ≡ Some Quiet → exit (with_leaver after sent b r) x ≡ Some Quiet
    quiet_stays after sent b x r quiet =
        cond_both (has_left after r b) (leave_event sent b ∷ r) r (λ (z : List Event). exit z x ≡ Some Quiet) (λ gone. ap (λ o. first o (exit_by (leave_event sent b) x)) quiet) (λ stays. quiet)

    leaves_so : (bs : List BranchId) (r : List Event) → ((x : BranchId) → exit e x ≡ Some Quiet → exit r x ≡ Some Quiet) → TreeLeaves p (lives_at (node_at g u.node)) u.sent bs r
    leaves_so [] r stays = tt
    leaves_so (b ∷ bs) r stays = (
      (λ left quiet. (let gone : is_among b (lives_at (node_at g u.node)) ≡ false = not-true (is_among b (lives_at (node_at g u.node))) (and_parts (not (is_among b (lives_at (node_at g u.node)))) (is_none (exit r b)) left).0 in
          let quits = quits_so b (quiet_why u.cut may.owed b quiet) gone in
          (quits.0, λ x edge. stays x (quits.1 x edge)))),
      leaves_so bs (with_leaver (lives_at (node_at g u.node)) u.sent b r) (λ x quiet. quiet_stays (lives_at (node_at g u.node)) u.sent b x r (stays x quiet)),
    )

    pub turn_leave : LeavesByForest t f e (happenings.Turn u)
    turn_leave = leaves_so (lives_at (node_at f u.node)) (with_record u e) (λ x quiet. exit_later x Quiet (wrote_added u e) quiet)

  leave_so : (before : List Happening) (h : Happening) (rest : List Happening) → before ++ h ∷ rest ≡ t.trace → IsLawfulRun (so_far t before) → MayHappen t.places t.commands (f_at t before) h
      → EachEventFrom Law t.places t.commands (f_at t before) (e_at t before) (h ∷ rest) → LeavesByForest t (f_at t before) (e_at t before) h
  leave_so before (happenings.Turn u) rest is lawful may laws = turn_leave before u rest is lawful may.0 may.1 laws
  leave_so before _ rest is lawful may laws = tt

  leave_each : VotersWeigh t → EachEventFrom (LeavesByForest t) t.places t.commands (first_facts t.places) [] t.trace
  leave_each weigh =
      each_prefix t Law (LeavesByForest t) leave_so whole (both_each t.places t.commands _ _ (first_facts t.places) [] t.trace (left_have_told_all t whole) weigh)

pub leaves_go_by_forest : LeavesGoByForest
leaves_go_by_forest t lawful = leave_each t lawful (voters_weigh t lawful)
