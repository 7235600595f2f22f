-- In every lawful run a branch that leaves, and is not dropped, was asked by its parent and asked its children; a site decides where the
-- walk ends, and a branch that answers without changes has no weight.
use Rattle.std.proofs.Common.{◌≡◌, ◌≢◌, ℕ, zero, suc, ◌||◌, ◌⊎◌, Bool, true, false, if◌then◌else◌, List, [], ◌∷◌, ◌++◌, map, is_none, Option, Some, None, inl, inr, refl, sym, ap, subst, ◌∙◌}
use Rattle.std.specs.Prelude.{IfSome}
use Rattle.std.specs.List.{AllByRecursion, list_any}
use Rattle.std.proofs.lemmas.Bool.{and_parts}
use Rattle.tran_ids.proofs.BranchLemmas.{equal_from_same}
use Rattle.session_tree.specs.Live.{children_of}
use Rattle.session_tree.specs.Tree.{weight, step}
use Rattle.node_rules.specs.Data.{BranchId, Kind, Live, Act, Msg, RedoRecord, Input}
use Rattle.node_rules.specs.Data.acts
use Rattle.node_rules.specs.Data.kinds
use Rattle.node_rules.specs.Data.phases
use Rattle.node_rules.specs.Data.records
use Rattle.node_rules.specs.Words.{same, numbered}
use Rattle.node_rules.specs.NodeState.{NodeState, Branch, TurnDraft, live_at, branch_at, work_at, with_work}
use Rattle.node_rules.specs.Turn.{turn_of, heard, draft_of, stamped}
use Rattle.session_tree.specs.Tree.{place_of_greatest, walk_by}
use Rattle.node_rules.specs.Data.{Edge}
use Rattle.node_rules.specs.Prepare.{with_prepare_sent, collecting, with_comment}
use Rattle.run_rules.proofs.ListLemmas.{map_after}
use Rattle.node_rules.proofs.Steps as steps
use Rattle.node_rules.proofs.Steps.{Acting, Collects, Collected}
use Rattle.agreement.specs.Events.{Event, Exit, Sealed, Decided, Quiet, Dropped, Answer_read_only, Drop, first, only_at, exit_by, exit}
use Rattle.agreement.proofs.EventLemmas.{first_is, only_at_is}
use Rattle.run_rules.specs.Data.{Turn, Happening}
use Rattle.run_rules.specs.Data.happenings
use Rattle.run_rules.specs.Facts.{Facts, first_facts, place_at, node_at, facts_after}
use Rattle.run_rules.specs.Lawful.{MayTurn, MayHappen, IsOwed, History, IsLawfulRun}
use Rattle.run_rules.specs.Births.{births_of}
use Rattle.run_base_laws.specs.BirthLaws.{Began, GoesSo}
use Rattle.run_base_laws.specs.EventLaws.{EachEventFrom}
use Rattle.run_base_laws.specs.FreezeLaws.{was_asked}
use Rattle.run_base_laws.specs.RunEvents.{message_event, with_event, with_messages, wrote_event, with_record, leave_event, has_left, with_leaver, with_leavers, lives_at, with_exits, events_after}
use Rattle.run_rules.specs.Trail.{is_prepare, is_read_only, is_quiet}
use Rattle.run_base_laws.proofs.BirthRunLemmas.{messages_are_of_neighbors}
use Rattle.run_base_laws.proofs.BirthsStandLemmas.{came_so}
use Rattle.run_branch_laws.proofs.FreezeRunLemmas.{asked_stand_still}
use Rattle.run_base_laws.proofs.LaterLemmas.{exit_made, turn_added}
use Rattle.run_base_laws.proofs.LawfulLemmas.{serves, turn_of_node}
use Rattle.run_rules.proofs.ListLemmas.{all_map}
use Rattle.run_base_laws.proofs.SaidPostLemmas.{prepares_are_said}
use Rattle.run_base_laws.proofs.KidLemmas.{child_parent, above_of}
use Rattle.tree_laws.proofs.AskLemmas.{voted_step}
use Rattle.tree_laws.proofs.AskRunLemmas.{edges_asked}
use Rattle.tree_laws.proofs.PrefixLemmas.{so_far, f_at, e_at, each_prefix}
use Rattle.run_branch_laws.proofs.KeptRowLemmas.{IsSealOf, wrote_seal}
use Rattle.tree_laws.proofs.SealLemmas.{later_unsealed}
use Rattle.tree_laws.proofs.SettleLemmas.{live_in, born_of}
use Rattle.tree_laws.proofs.SiteLemmas.{IsDecisionOf, wrote_decision, later_undecided}
use Rattle.tree_laws.proofs.WeightStepLemmas.{collected_weight, voted_weight}
use Rattle.tree_laws.proofs.WhyLemmas.{Near, ActsIn, seal_act, WroteWhy, SaidWhy, why_on}
use Rattle.tree_laws.specs.LeaveLaws.{EndsAs, LeavesSo, Begins_by, LeftSo, LeaveComplete, LeaversAreComplete}
use Rattle.tree_laws.proofs.AtPart.{at_part}

-- ---- exits without changes

pub first_none : {A : Type 0} (o : Option A) → first o None ≡ o
first_none None = refl
first_none (Some a) = refl

-- messages end nobody
said_exit : (from to : BranchId) (scn : ℕ) (kind : Kind) (t : List Event) (b : BranchId) → exit (with_event (message_event from to scn kind) t) b ≡ exit t b
said_exit from to scn kinds.Prepared t b = first_none (exit t b)
said_exit from to scn kinds.CommitPoint t b = first_none (exit t b)
said_exit from to scn (kinds.Committed n) t b = first_none (exit t b)
said_exit from to scn kinds.Rollback t b = first_none (exit t b)
said_exit from to scn kinds.RolledBack t b = first_none (exit t b)
said_exit from to scn kinds.Ack t b = first_none (exit t b)
said_exit from to scn kinds.Forgotten t b = first_none (exit t b)
said_exit from to scn _ t b = refl

pub messages_exit : (ms : List Msg) (t : List Event) (b : BranchId) → exit (with_messages ms t) b ≡ exit t b
messages_exit [] t b = refl
messages_exit (m ∷ ms) t b = messages_exit ms (with_event (message_event m.from m.to m.scn m.kind) t) b ∙ said_exit m.from m.to m.scn m.kind t b

-- how a branch leaves without a record, by whether it says ReadOnly
abbrev pub leaves_by : Bool → Exit
leaves_by true = Quiet
leaves_by false = Dropped

one_way : (p q : Bool) → leaves_by p ≡ leaves_by q → p ≡ q
one_way true true is = refl
one_way false false is = refl
one_way true false is = absurd cc
one_way false true is = absurd cc

module _ (after : List BranchId) (sent : List Msg) (q : Bool) where
  leave_is : (b x : BranchId) (told : Bool) → exit_by (if told then Answer_read_only b else Drop b) x ≡ Some (leaves_by q) → (b ≡ x) × (told ≡ q)
  leave_is b x true is = let at = only_at_is b x Quiet (leaves_by q) is in (at.0, one_way true q at.1)
  leave_is b x false is = let at = only_at_is b x Dropped (leaves_by q) is in (at.0, one_way false q at.1)

  left_so : (b x : BranchId) (t : List Event) → exit (with_leaver after sent b t) x ≡ Some (leaves_by q) → (exit t x ≡ Some (leaves_by q)) ⊎ (list_any (is_quiet x) sent ≡ q)
  left_so b x t is = by (has_left after t b) is
    where
      by : (left : Bool) → exit (if left then leave_event sent b ∷ t else t) x ≡ Some (leaves_by q) → (exit t x ≡ Some (leaves_by q)) ⊎ (list_any (is_quiet x) sent ≡ q)
      by false it = inl it
      by true it = elim (first_is (exit t x) (exit_by (leave_event sent b) x) (leaves_by q) it) [
        | inl old ↦ inl old
        | inr new ↦ (let at = leave_is b x (list_any (is_quiet b) sent) new.1 in inr (subst (λ c. list_any (is_quiet c) sent ≡ q) at.0 at.1))
      ]

  -- who leaves so with others said so
  pub all_left : (bs : List BranchId) (x : BranchId) (t : List Event) → exit (with_leavers after sent bs t) x ≡ Some (leaves_by q) → (exit t x ≡ Some (leaves_by q)) ⊎ (list_any (is_quiet x) sent ≡ q)
  all_left [] x t is = inl is
  all_left (b ∷ bs) x t is = elim (all_left bs x (with_leaver after sent b t) is) [ inl old ↦ left_so b x t old | inr new ↦ inr new ]

module _ (q : Bool) where
  never_sealed : (n : ℕ) (p : Bool) → Sealed n ≡ leaves_by p → ⊥
  never_sealed n true is = absurd cc
  never_sealed n false is = absurd cc

  never_decided : (n : ℕ) (p : Bool) → Decided n ≡ leaves_by p → ⊥
  never_decided n true is = absurd cc
  never_decided n false is = absurd cc

  none_left : (o : Option Exit) → first o None ≡ Some (leaves_by q) → o ≡ Some (leaves_by q)
  none_left o is = sym (first_none o) ∙ is

  -- no record leaves one so
  pub wrote_left : (n : ℕ) (t : List Event) (w : Option RedoRecord) (b : BranchId) → exit (with_event (wrote_event n w) t) b ≡ Some (leaves_by q) → exit t b ≡ Some (leaves_by q)
  wrote_left n t None b is = is
  wrote_left n t (Some (records.Sealed r)) b is =
      elim (first_is (exit t b) (only_at r.me b (Sealed r.scn)) (leaves_by q) is) [ inl old ↦ old | inr new ↦ absurd (never_sealed r.scn q (only_at_is r.me b (Sealed r.scn) (leaves_by q) new.1).1) ]
  wrote_left n t (Some (records.Decided r)) b is =
      elim (first_is (exit t b) (only_at r.me b (Decided r.scn)) (leaves_by q) is) [ inl old ↦ old | inr new ↦ absurd (never_decided r.scn q (only_at_is r.me b (Decided r.scn) (leaves_by q) new.1).1) ]
  wrote_left n t (Some (records.Ended c d)) b is = none_left (exit t b) is
  wrote_left n t (Some (records.Forced c d given)) b is = none_left (exit t b) is
  wrote_left n t (Some (records.Met c d mixed)) b is = none_left (exit t b) is
  wrote_left n t (Some (records.Forgot c)) b is = none_left (exit t b) is
  wrote_left n t (Some (records.Table table)) b is = none_left (exit t b) is
  wrote_left n t (Some _) b is = is

pub all_quiet : (after : List BranchId) (sent : List Msg) (bs : List BranchId) (x : BranchId) (t : List Event) → exit (with_leavers after sent bs t) x ≡ Some Quiet → (exit t x ≡ Some Quiet) ⊎ (list_any (is_quiet x) sent ≡ true)
all_quiet after sent bs x t is = all_left after sent true bs x t is

pub wrote_quiet : (n : ℕ) (t : List Event) (w : Option RedoRecord) (b : BranchId) → exit (with_event (wrote_event n w) t) b ≡ Some Quiet → exit t b ≡ Some Quiet
wrote_quiet n t w b is = wrote_left true n t w b is

-- ---- acts

-- an act by which a branch leaves so
pub data Ends : Act → Exit → Type 0 where
  Seals : (n : ℕ) → Ends acts.Seal (Sealed n)
  Passes : (i n : ℕ) → Ends (acts.SealAndPass i) (Sealed n)
  Decides : (n : ℕ) → Ends acts.Decide (Decided n)
  Says_none : Ends acts.SayReadOnly Quiet

none_is : {A : Type 0} (o : Option A) → is_none o ≡ true → o ≡ None
none_is None is = refl
none_is (Some a) is = absurd cc

-- by what it knows of its children
collected_ends : {l : Live} {b : Bool} {a : Act} {x : Exit} → Collected l b a → Ends a x → EndsAs l x
collected_ends (steps.Has_nothing is) Says_none = none_is _ is
collected_ends (steps.Is_prepared is) (Seals n) = tt
collected_ends (steps.Passes i none is) (Passes j n) = tt
collected_ends (steps.Is_site none is) (Decides n) = is
collected_ends (steps.Awaits_point is) ends = elim ends [ ]
collected_ends (steps.Has_no_site none is) ends = elim ends [ ]

-- the same of a branch with the same step and weight
ends_alike : (l y : Live) (x : Exit) → weight l ≡ weight y → step l ≡ step y → EndsAs l x → EndsAs y x
ends_alike l y (Decided n) weighs steps_so is = sym steps_so ∙ is
ends_alike l y Quiet weighs steps_so is = sym weighs ∙ is
ends_alike l y (Sealed n) weighs steps_so is = tt
ends_alike l y Dropped weighs steps_so is = tt

pub none_at : (i : ℕ) (c : BranchId) (l : Live) → l.edges ≡ [] → numbered (children_of l) i ≡ Some c → ⊥
none_at i c l none at = nowhere i (subst (λ (ys : List Edge). numbered (map (λ (e : Edge). e.peer) ys) i ≡ Some c) none at)
  where
    nowhere : (j : ℕ) → numbered [] j ≡ Some c → ⊥
    nowhere zero it = absurd cc
    nowhere (suc j) it = absurd cc

collected_step : (l : Live) (comment : List ℕ) (b : Bool) → step (collecting (with_comment l comment) b) ≡ step l
unfolding step
collected_step l comment b = ap (λ ws. walk_by l.changed l.strength (place_of_greatest 1 ws None)) (map_after (λ (e : Edge). e.weight) with_prepare_sent (λ (e : Edge). e.weight) (λ e. refl) l.edges)

-- the collect of a branch begins
pub begins_so : {k : NodeState} {input : Input} {comment : List ℕ} {b : Bool} (l : Live) → Collects k input l comment b → Begins_by input l.me
begins_so l (steps.By_commit n given call has code writer is) = inl (n, given, call)
begins_so {comment = comment} {b = b} l (steps.By_prepare from _ came working) = inr (from, b, comment, came)

-- ---- a turn

module _ (t : History) (before : List Happening) (lawful : IsLawfulRun (so_far t before)) (u : Turn) (k : NodeState) (may : MayTurn t.places (f_at t before) u k) where
  open at_part t before use {s, f, e, said}

  abbrev g : Facts
  g = facts_after t.places t.commands f (happenings.Turn u)

  abbrev k0 : NodeState
  k0 = heard k u.input

  abbrev d : TurnDraft
  d = draft_of (place_at t.places u.node) k u.input

  -- the live branch of an act, as the turn began
  abbrev Was : BranchId → Exit → Type 0
  Was b x = LeftSo k u.input said b x

  -- a root whose COMMIT came has no parent
  root_ends : {l : Live} {a : Act} {x : Exit} → Collected l true a → Ends a x → is_none l.parent ≡ true
  root_ends (steps.Passes i none is) ends = none
  root_ends (steps.Is_site none is) ends = none
  root_ends (steps.Awaits_point is) ends = elim ends [ ]
  root_ends (steps.Has_no_site none is) ends = elim ends [ ]

  -- who begins its collect below a root was asked
  begun_asked : {at : NodeState} {comment : List ℕ} {b : Bool} {a : Act} {x : Exit} (l : Live) → live_at k l.me ≡ Some l → Collects at u.input l comment b → Collected (collecting (with_comment l comment) b) b a → Ends a x
      → (q : BranchId) → l.parent ≡ Some q → was_asked said q l.me ≡ true
  begun_asked l live (steps.By_commit n given call has code writer is) collected ends q above = let none : l.parent ≡ None = none_is l.parent (root_ends collected ends) in absurd (cc (none, above))
  begun_asked {comment = comment} {b = b} l live (steps.By_prepare from _ came working) collected ends q above =
      let kid = came_so (GoesSo (Began (births_of s))) f (messages_are_of_neighbors s lawful) k u.node u.input u.took may.comes from l.me (kinds.Prepare b comment) came in
      let parent : l.parent ≡ Some from = above_of (births_of s) l (born_of t before lawful u k may l live) from (child_parent (births_of s) l.me from kid) in
      let it : Some from ≡ Some q = sym parent ∙ above in
      let here : from ≡ q = cc in
      let asked : was_asked said from l.me ≡ true = came_so (λ a c kind. is_prepare kind ≡ true → was_asked said a c ≡ true) f (prepares_are_said f) k u.node u.input u.took may.comes from l.me (kinds.Prepare b comment) came refl in
      subst (λ c. was_asked said c l.me ≡ true) here asked

  -- one that is not working was asked, and asked its children
  busy_leaves : (l : Live) → live_at k l.me ≡ Some l → l.phase ≢ phases.Working → (x : Exit) → EndsAs l x → LeavesSo said l x
  busy_leaves l live other x ends =
      let z : Branch = record { live = l; work = work_at k l.me } in
      let found : branch_at k l.me ≡ Some z = ap (with_work k) live in
      record {
        asked = λ q above. (((asked_stand_still s lawful u.node k may.up z found).1 other).1 q above).0;
        kids = (edges_asked s lawful u.node k may.up l live other).0;
        ends = ends;
      }

  acting_was : (at : NodeState) → Near k0 at → {l : Live} {b : Bool} {a : Act} → Acting at u.input l b a → (x : Exit) → Ends a x → Was l.me x
  acting_was at near (steps.Has_no_children l comment b a live begins none collected) x ends =
      let found : live_at k l.me ≡ Some l = live_in t before lawful u k may at near l live in
      record {
        live = l;
        found = found;
        is_me = refl;
        leaves = record {
          asked = begun_asked l found begins collected ends;
          kids = λ i c there. absurd (none_at i c l none there);
          ends = ends_alike (collecting (with_comment l comment) b) l x (collected_weight l comment b) (collected_step l comment b) (collected_ends collected ends);
        };
        begins = λ working. begins_so l begins;
      }
  acting_was at near (steps.Hears_last l from v b a live answers other all collected) x ends =
      let found : live_at k l.me ≡ Some l = live_in t before lawful u k may at near l live in
      record {
        live = l;
        found = found;
        is_me = refl;
        leaves = busy_leaves l found (λ working. (let is : phases.Collecting b ≡ phases.Working = sym answers.collecting ∙ working in absurd cc)) x (ends_alike _ l x (voted_weight l from v) (voted_step l from v) (collected_ends collected ends));
        begins = λ working. (let is : phases.Collecting b ≡ phases.Working = sym answers.collecting ∙ working in absurd cc);
      }
  acting_was at near (steps.At_point l from a live came is pointed) x ends =
      let found : live_at k l.me ≡ Some l = live_in t before lawful u k may at near l live in
      record {
        live = l;
        found = found;
        is_me = refl;
        leaves = busy_leaves l found (λ working. (let other : phases.Ready ≡ phases.Working = sym is ∙ working in absurd cc)) x (pointed_ends pointed ends);
        begins = λ working. (let other : phases.Ready ≡ phases.Working = sym is ∙ working in absurd cc);
      }
    where
      pointed_ends : {l : Live} {a : Act} {x : Exit} → steps.Pointed l a → Ends a x → EndsAs l x
      pointed_ends (steps.Points_on i is) (Passes j n) = tt
      pointed_ends (steps.Points_here is) (Decides n) = is
      pointed_ends (steps.Points_nowhere is) ends = elim ends [ ]
  acting_was at near (steps.Asks_down l comment b z zs live begins some) x ends = elim ends [ ]
  acting_was at near (steps.Waits_on l from v b live answers other some) x ends = elim ends [ ]
  acting_was at near (steps.Hears_abort l from b live answers) x ends = elim ends [ ]

  -- ---- what was written, and said

  why : IfSome d.wrote (WroteWhy k0 u.input d.says) × AllByRecursion (λ m. SaidWhy k0 u.input d.says d.after.lives m.from m.to m.kind) d.says
  why = why_on k0 u.input (place_at t.places u.node) (serves t.places f u k may).step (λ no. record { lives = refl; clock = refl })

  wrote_why : IfSome u.wrote (WroteWhy k0 u.input d.says)
  wrote_why = elim (serves t.places f u k may).wrote [
    | inl none ↦ subst (λ o. IfSome o (WroteWhy k0 u.input d.says)) (sym none) tt
    | inr it ↦ subst (λ o. IfSome o (WroteWhy k0 u.input d.says)) (sym it) why.0
  ]

  seal_was : (w : Option RedoRecord) → IfSome w (WroteWhy k0 u.input d.says) → (b : BranchId) (n : ℕ) → IsSealOf b w → Was b (Sealed n)
  seal_was (Some (records.Sealed r)) is b n it = by is.3 is.4
    where
      me : is.1.me ≡ b
      me = sym (ap (λ (z : _). z.me) is.6) ∙ it

      by : (path : Option ℕ) → ActsIn k0 u.input is.1 is.2 (seal_act path) → Was b (Sealed n)
      by None acts_in = subst (λ c. Was c (Sealed n)) me (acting_was acts_in.here acts_in.near acts_in.acting (Sealed n) (Seals n))
      by (Some i) acts_in = subst (λ c. Was c (Sealed n)) me (acting_was acts_in.here acts_in.near acts_in.acting (Sealed n) (Passes i n))
  seal_was _ is b n it = absurd it

  decision_was : (w : Option RedoRecord) → IfSome w (WroteWhy k0 u.input d.says) → (b : BranchId) (n : ℕ) → IsDecisionOf b w → Was b (Decided n)
  decision_was (Some (records.Decided r)) is b n it =
      subst (λ c. Was c (Decided n)) (sym (ap (λ (z : _). z.me) is.5) ∙ it) (acting_was is.3.here is.3.near is.3.acting (Decided n) (Decides n))
  decision_was _ is b n it = absurd it

  quiet_kind : (b from to : BranchId) (kind : Kind) → from ≡ b → is_read_only kind ≡ true → SaidWhy k0 u.input d.says d.after.lives from to kind → Was b Quiet
  quiet_kind b from to kinds.ReadOnly me it is = subst (λ c. Was c Quiet) (is.4 ∙ me) (acting_was is.3.here is.3.near is.3.acting Quiet Says_none)
  quiet_kind b from to _ me it is = absurd cc

  quiet_found : (b : BranchId) (ms : List Msg) → AllByRecursion (λ m. SaidWhy k0 u.input d.says d.after.lives m.from m.to m.kind) ms → list_any (is_quiet b) ms ≡ true → Was b Quiet
  quiet_found b [] whys quiet = absurd cc
  quiet_found b (m ∷ ms) whys quiet = by (is_quiet b m) refl quiet (quiet_found b ms whys.1)
    where
      by : (q : Bool) → is_quiet b m ≡ q → (q || list_any (is_quiet b) ms) ≡ true → (list_any (is_quiet b) ms ≡ true → Was b Quiet) → Was b Quiet
      by true here found rest = let parts = and_parts (same m.from b) (is_read_only m.kind) here in quiet_kind b m.from m.to m.kind (equal_from_same m.from b parts.0) parts.1 whys.0
      by false here found rest = rest found

  quiet_was : (cut : Bool) → IsOwed (place_at t.places u.node) k u.input u.wrote u.sent cut → (b : BranchId) → list_any (is_quiet b) u.sent ≡ true → Was b Quiet
  unfolding turn_of
  quiet_was true owed b quiet = (let none : list_any (is_quiet b) u.sent ≡ false = ap (λ (ms : List Msg). list_any (is_quiet b) ms) owed.1 in absurd (cc (quiet, none)))
  quiet_was false owed b quiet =
      quiet_found b u.sent
      (subst (λ (ms : List Msg). AllByRecursion (λ m. SaidWhy k0 u.input d.says d.after.lives m.from m.to m.kind) ms) (sym owed.1)
      (all_map (λ (m : Msg). SaidWhy k0 u.input d.says d.after.lives m.from m.to m.kind) (stamped d.after.clock) d.says why.1)) quiet

  -- ---- a branch that leaves

  pub was_there : (b : BranchId) → exit e b ≡ None → (x : Exit) → x ≢ Dropped → exit (events_after t.places t.commands f (happenings.Turn u) e) b ≡ Some x → Was b x
  was_there b none (Sealed n) other is = elim (exit_made b (Sealed n) (turn_added f g u e) is) [
    | inl old ↦ elim (wrote_seal u.node e u.wrote b n old) [ inl older ↦ absurd (cc (older, none)) | inr it ↦ seal_was u.wrote wrote_why b n it ]
    | inr made ↦ absurd (later_unsealed b n made.0 made.1 made.2)
  ]
  was_there b none (Decided n) other is = elim (exit_made b (Decided n) (turn_added f g u e) is) [
    | inl old ↦ elim (wrote_decision u.node e u.wrote b n old) [ inl older ↦ absurd (cc (older, none)) | inr it ↦ decision_was u.wrote wrote_why b n it ]
    | inr made ↦ absurd (later_undecided b n made.0 made.1 made.2)
  ]
  was_there b none Quiet other is =
      let left : exit (with_exits f g u e) b ≡ Some Quiet = sym (messages_exit u.sent (with_exits f g u e) b) ∙ is in
      elim (all_quiet (lives_at (node_at g u.node)) u.sent (lives_at (node_at f u.node)) b (with_record u e) left) [
        | inl old ↦ (let older : exit e b ≡ Some Quiet = wrote_quiet u.node e u.wrote b old in absurd (cc (older, none)))
        | inr new ↦ quiet_was u.cut may.owed b new
      ]
  was_there b none Dropped other is = absurd (other refl)

module _ (t : History) where
  leave_so : (before : List Happening) (h : Happening) (rest : List Happening) → before ++ h ∷ rest ≡ t.trace → IsLawfulRun (so_far t before) → MayHappen t.places t.commands (f_at t before) h
      → EachEventFrom (λ f e h. Unit {0}) t.places t.commands (f_at t before) (e_at t before) (h ∷ rest) → LeaveComplete t (f_at t before) (e_at t before) h
  leave_so before (happenings.Turn u) rest is lawful may laws = λ k up b x none other left.
      was_there t before lawful u k (turn_of_node t.places (f_at t before) u k t.commands may up) b none x other left
  leave_so before _ rest is lawful may laws = tt

  nothing : (f : Facts) (e : List Event) (hs : List Happening) → EachEventFrom (λ f e h. Unit {0}) t.places t.commands f e hs
  nothing f e [] = tt
  nothing f e (h ∷ hs) = (tt, nothing (facts_after t.places t.commands f h) (events_after t.places t.commands f h e) hs)

  pub leave_each : IsLawfulRun t → EachEventFrom (LeaveComplete t) t.places t.commands (first_facts t.places) [] t.trace
  leave_each lawful = each_prefix t (λ f e h. Unit {0}) (LeaveComplete t) leave_so lawful (nothing (first_facts t.places) [] t.trace)

pub leavers_are_complete : LeaversAreComplete
leavers_are_complete t lawful = leave_each t lawful
