-- A branch below a root that leaves in a turn, and is not dropped, was not working before, or got Prepare.
use Rattle.std.proofs.Common.{◌≡◌, ◌≢◌, ℕ, ◌||◌, Bool, true, false, List, [], ◌∷◌, is_none, Option, Some, None, inl, inr, refl, sym, ap, subst, ◌∙◌}
use Rattle.std.specs.Prelude.{◌⊎◌, IfSome}
use Rattle.std.specs.List.{AllByRecursion, list_any}
use Rattle.std.proofs.lemmas.Bool.{and_parts}
use Rattle.tran_ids.proofs.BranchLemmas.{equal_from_same}
use Rattle.agreement.specs.Events.{Exit, Sealed, Decided, Quiet, Dropped, exit}
use Rattle.node_rules.specs.Data.{BranchId, Kind, Live, Act, Msg, RedoRecord}
use Rattle.node_rules.specs.Data.kinds
use Rattle.node_rules.specs.Data.phases
use Rattle.node_rules.specs.Data.records
use Rattle.node_rules.specs.Words.{same}
use Rattle.node_rules.specs.NodeState.{NodeState, TurnDraft, live_at}
use Rattle.node_rules.specs.Prepare.{collecting, with_comment}
use Rattle.node_rules.specs.Turn.{turn_of, heard, draft_of, stamped}
use Rattle.node_rules.proofs.Steps as steps
use Rattle.node_rules.proofs.Steps.{Acting, Collects, Collected}
use Rattle.run_rules.specs.Data.{Turn, Happening}
use Rattle.run_rules.specs.Data.happenings
use Rattle.run_rules.specs.Facts.{Facts, place_at, node_at, facts_after}
use Rattle.run_rules.specs.Lawful.{IsOwed, MayTurn, History, IsLawfulRun}
use Rattle.run_base_laws.specs.RunEvents.{with_record, with_exits, lives_at, events_after}
use Rattle.run_rules.specs.Trail.{is_read_only, is_quiet}
use Rattle.run_base_laws.proofs.LaterLemmas.{exit_made, turn_added}
use Rattle.run_base_laws.proofs.LawfulLemmas.{serves}
use Rattle.run_rules.proofs.ListLemmas.{all_map}
use Rattle.tree_laws.proofs.PrefixLemmas.{so_far, f_at, e_at}
use Rattle.run_branch_laws.proofs.KeptRowLemmas.{IsSealOf, wrote_seal}
use Rattle.tree_laws.proofs.SealLemmas.{later_unsealed}
use Rattle.tree_laws.proofs.SettleLemmas.{live_in}
use Rattle.tree_laws.proofs.SiteLemmas.{IsDecisionOf, wrote_decision, later_undecided}
use Rattle.tree_laws.proofs.WhyLemmas.{Near, ActsIn, seal_act, WroteWhy, SaidWhy, why_on}
use Rattle.tree_laws.proofs.LeaveLemmas.{Ends, Seals, Passes, Decides, Says_none, messages_exit, all_quiet, wrote_quiet}
use Rattle.commit_spread_laws.proofs.GotStepLemmas.{PrepareCame}

none_is : {A : Type 0} (o : Option A) → is_none o ≡ true → o ≡ None
none_is None is = refl
none_is (Some a) is = absurd cc

-- a root whose COMMIT came has no parent
root_ends : {l : Live} {a : Act} {x : Exit} → Collected l true a → Ends a x → is_none l.parent ≡ true
root_ends (steps.Passes i none is) ends = none
root_ends (steps.Is_site none is) ends = none
root_ends (steps.Awaits_point is) ends = elim ends [ ]
root_ends (steps.Has_no_site none is) ends = elim ends [ ]

module _ (t : History) (before : List Happening) (lawful : IsLawfulRun (so_far t before)) (u : Turn) (k : NodeState) (may : MayTurn t.places (f_at t before) u k) where
  abbrev f : Facts
  f = f_at t before

  abbrev g : Facts
  g = facts_after t.places t.commands f (happenings.Turn u)

  abbrev k0 : NodeState
  k0 = heard k u.input

  abbrev d : TurnDraft
  d = draft_of (place_at t.places u.node) k u.input

  -- It was live as the turn began. If it was working it is a root, or Prepare came.
  pub record WasThere (b : BranchId) : Type 0 where
    pub live : Live
    pub found : live_at k live.me ≡ Some live
    pub is_me : live.me ≡ b
    pub begins : live.phase ≡ phases.Working → (live.parent ≡ None) ⊎ PrepareCame u.input live.me

  begun : {at : NodeState} {comment : List ℕ} {b : Bool} {a : Act} {x : Exit} (l : Live) → Collects at u.input l comment b → Collected (collecting (with_comment l comment) b) b a → Ends a x → (l.parent ≡ None) ⊎ PrepareCame u.input l.me
  begun l (steps.By_commit n given call has code writer is) collected ends = inl (none_is l.parent (root_ends collected ends))
  begun {comment = comment} {b = b} l (steps.By_prepare from _ came working) collected ends = inr (from, b, comment, came)

  acting_was : (at : NodeState) → Near k0 at → {l : Live} {b : Bool} {a : Act} → Acting at u.input l b a → (x : Exit) → Ends a x → WasThere l.me
  acting_was at near (steps.Has_no_children l comment b a live begins none collected) x ends =
      record { live = l; found = live_in t before lawful u k may at near l live; is_me = refl; begins = λ working. begun l begins collected ends }
  acting_was at near (steps.Hears_last l from v b a live answers other all collected) x ends =
      record { live = l; found = live_in t before lawful u k may at near l live; is_me = refl; begins = λ working. (let is : phases.Collecting b ≡ phases.Working = sym answers.collecting ∙ working in absurd cc) }
  acting_was at near (steps.At_point l from a live came is pointed) x ends =
      record { live = l; found = live_in t before lawful u k may at near l live; is_me = refl; begins = λ working. (let other : phases.Ready ≡ phases.Working = sym is ∙ working in absurd cc) }
  acting_was at near (steps.Asks_down l comment b z zs live begins some) x ends = elim ends [ ]
  acting_was at near (steps.Waits_on l from v b live answers other some) x ends = elim ends [ ]
  acting_was at near (steps.Hears_abort l from b live answers) x ends = elim ends [ ]

  -- ---- what was written, and said

  why : IfSome d.wrote (WroteWhy k0 u.input d.says) × AllByRecursion (λ m. SaidWhy k0 u.input d.says d.after.lives m.from m.to m.kind) d.says
  why = why_on k0 u.input (place_at t.places u.node) (serves t.places f u k may).step (λ no. record { lives = refl; clock = refl })

  wrote_why : IfSome u.wrote (WroteWhy k0 u.input d.says)
  wrote_why = elim (serves t.places f u k may).wrote [
    | inl none ↦ subst (λ o. IfSome o (WroteWhy k0 u.input d.says)) (sym none) tt
    | inr it ↦ subst (λ o. IfSome o (WroteWhy k0 u.input d.says)) (sym it) why.0
  ]

  seal_was : (w : Option RedoRecord) → IfSome w (WroteWhy k0 u.input d.says) → (b : BranchId) (n : ℕ) → IsSealOf b w → WasThere b
  seal_was (Some (records.Sealed r)) is b n it = by is.3 is.4
    where
      me : is.1.me ≡ b
      me = sym (ap (λ (z : _). z.me) is.6) ∙ it

      by : (path : Option ℕ) → ActsIn k0 u.input is.1 is.2 (seal_act path) → WasThere b
      by None acts_in = subst WasThere me (acting_was acts_in.here acts_in.near acts_in.acting (Sealed n) (Seals n))
      by (Some i) acts_in = subst WasThere me (acting_was acts_in.here acts_in.near acts_in.acting (Sealed n) (Passes i n))
  seal_was _ is b n it = absurd it

  decision_was : (w : Option RedoRecord) → IfSome w (WroteWhy k0 u.input d.says) → (b : BranchId) (n : ℕ) → IsDecisionOf b w → WasThere b
  decision_was (Some (records.Decided r)) is b n it = subst WasThere (sym (ap (λ (z : _). z.me) is.5) ∙ it) (acting_was is.3.here is.3.near is.3.acting (Decided n) (Decides n))
  decision_was _ is b n it = absurd it

  quiet_kind : (b from to : BranchId) (kind : Kind) → from ≡ b → is_read_only kind ≡ true → SaidWhy k0 u.input d.says d.after.lives from to kind → WasThere b
  quiet_kind b from to kinds.ReadOnly me it is = subst WasThere (is.4 ∙ me) (acting_was is.3.here is.3.near is.3.acting Quiet Says_none)
  quiet_kind b from to _ me it is = absurd cc

  quiet_found : (b : BranchId) (ms : List Msg) → AllByRecursion (λ m. SaidWhy k0 u.input d.says d.after.lives m.from m.to m.kind) ms → list_any (is_quiet b) ms ≡ true → WasThere b
  quiet_found b [] whys quiet = absurd cc
  quiet_found b (m ∷ ms) whys quiet = by (is_quiet b m) refl quiet (quiet_found b ms whys.1)
    where
      by : (q : Bool) → is_quiet b m ≡ q → (q || list_any (is_quiet b) ms) ≡ true → (list_any (is_quiet b) ms ≡ true → WasThere b) → WasThere b
      by true here found rest = let parts = and_parts (same m.from b) (is_read_only m.kind) here in quiet_kind b m.from m.to m.kind (equal_from_same m.from b parts.0) parts.1 whys.0
      by false here found rest = rest found

  quiet_was : (cut : Bool) → IsOwed (place_at t.places u.node) k u.input u.wrote u.sent cut → (b : BranchId) → list_any (is_quiet b) u.sent ≡ true → WasThere b
  unfolding turn_of
  quiet_was true owed b quiet = (let none : list_any (is_quiet b) u.sent ≡ false = ap (λ (ms : List Msg). list_any (is_quiet b) ms) owed.1 in absurd (cc (quiet, none)))
  quiet_was false owed b quiet =
      quiet_found b u.sent
      (subst (λ (ms : List Msg). AllByRecursion (λ m. SaidWhy k0 u.input d.says d.after.lives m.from m.to m.kind) ms) (sym owed.1)
      (all_map (λ (m : Msg). SaidWhy k0 u.input d.says d.after.lives m.from m.to m.kind) (stamped d.after.clock) d.says why.1)) quiet

  -- ---- a branch that leaves

  pub left_was : (b : BranchId) → exit (e_at t before) b ≡ None → (x : Exit) → x ≢ Dropped → exit (events_after t.places t.commands f (happenings.Turn u) (e_at t before)) b ≡ Some x → WasThere b
  left_was b none (Sealed n) other is = elim (exit_made b (Sealed n) (turn_added f g u (e_at t before)) is) [
    | inl old ↦ elim (wrote_seal u.node (e_at t before) u.wrote b n old) [ inl older ↦ absurd (cc (older, none)) | inr it ↦ seal_was u.wrote wrote_why b n it ]
    | inr made ↦ absurd (later_unsealed b n made.0 made.1 made.2)
  ]
  left_was b none (Decided n) other is = elim (exit_made b (Decided n) (turn_added f g u (e_at t before)) is) [
    | inl old ↦ elim (wrote_decision u.node (e_at t before) u.wrote b n old) [ inl older ↦ absurd (cc (older, none)) | inr it ↦ decision_was u.wrote wrote_why b n it ]
    | inr made ↦ absurd (later_undecided b n made.0 made.1 made.2)
  ]
  left_was b none Quiet other is =
      let left : exit (with_exits f g u (e_at t before)) b ≡ Some Quiet = sym (messages_exit u.sent (with_exits f g u (e_at t before)) b) ∙ is in
      elim (all_quiet (lives_at (node_at g u.node)) u.sent (lives_at (node_at f u.node)) b (with_record u (e_at t before)) left) [
        | inl old ↦ (let older : exit (e_at t before) b ≡ Some Quiet = wrote_quiet u.node (e_at t before) u.wrote b old in absurd (cc (older, none)))
        | inr new ↦ quiet_was u.cut may.owed b new
      ]
  left_was b none Dropped other is = absurd (other refl)
