-- In every lawful run the forest allows each rollback that is told: its sender is gone, or the receiver is gone without changes.
use Rattle.std.proofs.Common.{◌≡◌, ℕ, ◌⊎◌, ◌||◌, Bool, true, false, List, [], ◌∷◌, ◌++◌, map, Option, Some, None, inl, inr, refl, sym, ap, subst, ◌∙◌}
use Rattle.std.specs.Prelude.{IfSome}
use Rattle.std.specs.List.{AllByRecursion, list_any}
use Rattle.std.proofs.lemmas.Bool.{or_left, or_right}
use Rattle.tran_ids.proofs.BranchLemmas.{same_from_equal}
use Rattle.tran_ids.proofs.ListedLemmas.{item_is}
use Rattle.commit_forget.specs.Beyond.{is_neighbor}
use Rattle.redo_record.specs.declared.durable.Kid.{Kid}
use Rattle.session_tree.specs.Live.{is_branch}
use Rattle.node_rules.specs.Data.{BranchId, Kind, Live, Msg, RedoRecord, KeptRow}
use Rattle.node_rules.specs.Data.decisions
use Rattle.node_rules.specs.Data.kinds
use Rattle.node_rules.specs.Data.records
use Rattle.node_rules.specs.Words.{same, item_at}
use Rattle.node_rules.specs.NodeState.{NodeState, TurnDraft, live_id, kept_row_id, live_at, with_work, kept_row_at}
use Rattle.node_rules.specs.Turn.{Is_gone, live_or, status_of, turn_of, heard, draft_of, stamped}
use Rattle.node_rules.proofs.StepLemmas.{IsLive, acting_live}
use Rattle.agreement.specs.Events.{Forest, Event, Beyond, Quiet, Decided, Send_rollback, exit, learned, Gone}
use Rattle.run_rules.specs.Data.{Turn, Happening}
use Rattle.run_rules.specs.Data.happenings
use Rattle.run_rules.specs.Facts.{Facts, first_facts, place_at, node_at}
use Rattle.run_rules.specs.Lawful.{MayTurn, MayHappen, IsOwed, History, IsLawfulRun}
use Rattle.run_base_laws.specs.RunEvents.{wrote_event, with_event, lives_at, with_record, with_exits}
use Rattle.run_base_laws.specs.EventRows.{MayStand, IsKeptIn, IsGoneForGood}
use Rattle.run_base_laws.specs.EventLaws.{EachEventFrom}
use Rattle.run_base_laws.specs.NodeLaws.{unacked_row}
use Rattle.run_branch_laws.specs.RowSayLaws.{RollbackIs, SaysByRow}
use Rattle.run_branch_laws.specs.TreeJust.{TreeAllows}
use Rattle.run_branch_laws.proofs.GoneLemmas.{kept_not_gone}
use Rattle.run_branch_laws.proofs.HeardStandLemmas.{heard_lives}
use Rattle.run_base_laws.proofs.InTurnRunLemmas.{came_here}
use Rattle.run_branch_laws.proofs.KeptRowLemmas.{any_map}
use Rattle.run_base_laws.proofs.LaterLemmas.{Added, Any, exit_later, learned_later, exit_made, leavers_added}
use Rattle.run_base_laws.proofs.LawfulLemmas.{serves}
use Rattle.run_rules.proofs.ListLemmas.{all_weaker, all_map}
use Rattle.run_base_laws.proofs.NodesStandLemmas.{stored_rows}
use Rattle.run_base_laws.proofs.OwnLemmas.{all_found}
use Rattle.run_base_laws.proofs.RowEventLemmas.{learned_now}
use Rattle.run_branch_laws.proofs.RowSayLemmas.{LearnsRollback}
use Rattle.run_base_laws.proofs.EventsStandLemmas.{node_so, run_stands, nodes_are_as_events}
use Rattle.run_branch_laws.proofs.TowardLemmas.{heard_rows}
use Rattle.run_base_laws.proofs.TurnEventLemmas.{all_both}
use Rattle.tree_laws.specs.BeyondLaws.{IsNamed}
use Rattle.tree_laws.specs.Forests.{forest_of}
use Rattle.tree_laws.specs.MessageLaws.{RollByForest, RollsByForest, RollsGoByForest}
use Rattle.tree_laws.specs.NameLaws.{RowNames}
use Rattle.tree_laws.proofs.AckForestLemmas as acks
use Rattle.tree_laws.proofs.AckForestLemmas.{gone_before, exits_added, gone_later}
use Rattle.tree_laws.proofs.DecidedRowLemmas.{DecidedStays, run_decided}
use Rattle.tree_laws.proofs.PrefixLemmas.{so_far, f_at, e_at, both_each, each_prefix}
use Rattle.tree_laws.proofs.RowLemmas.{kid_branch}
use Rattle.tree_laws.proofs.SiteLemmas.{IsDecisionOf, wrote_decision, later_undecided}
use Rattle.tree_laws.proofs.TellWhyLemmas.{RollsSo, Was_live, Learns_so, Knows_so, Is_nothing, Names_not, TellsSo}
use Rattle.tree_laws.proofs.WhyLemmas.{WroteWhy, why_on}
use Rattle.tree_laws.proofs.AtTurn.{at_turn}

-- one that is named is a neighbour
any_kid : (x : BranchId) (cs : List Kid) → list_any (λ c. same c x) (map kid_branch cs) ≡ true → list_any (λ c. same c.branch x) cs ≡ true
any_kid x [] is = is
any_kid x (c ∷ cs) is = by (same c.branch x) is (any_kid x cs)
  where
    by : (q : Bool) → (q || list_any (λ b. same b x) (map kid_branch cs)) ≡ true → (list_any (λ b. same b x) (map kid_branch cs) ≡ true → list_any (λ y. same y.branch x) cs ≡ true) → (q || list_any (λ y. same y.branch x) cs) ≡ true
    by true found later = refl
    by false found later = later found

parent_is : (o : Option BranchId) (x : BranchId) → o ≡ Some x → is_branch x o ≡ true
parent_is None x is = absurd cc
parent_is (Some q) x is = let it : q ≡ x = cc in same_from_equal q x it

named_neighbor : (s : KeptRow) (x : BranchId) → IsNamed s.parent (map kid_branch s.children) x → is_neighbor s x ≡ true
named_neighbor s x (inl up) = or_left (is_branch x s.parent) (list_any (λ c. same c.branch x) s.children) (parent_is s.parent x up)
named_neighbor s x (inr down) = or_right (is_branch x s.parent) (list_any (λ c. same c.branch x) s.children) (any_kid x s.children down)

-- a live branch is not gone
pub live_not_gone : (k : NodeState) (b : BranchId) (l : Live) → live_at k b ≡ Some l → status_of k b ≡ Is_gone → ⊥
unfolding status_of
live_not_gone k b l live gone = (let at : live_or (with_work k (Some l)) (kept_row_at k b) ≡ Is_gone = subst (λ o. live_or (with_work k o) (kept_row_at k b) ≡ Is_gone) live gone in absurd cc)

done_gone : (t : List Event) (b : BranchId) → IsGoneForGood t b → Gone t b
done_gone t b (inl learnt) = inr (inr (inl learnt))
done_gone t b (inr forgot) = inr (inr (inr forgot))

module _ (t : History) (whole : IsLawfulRun t) where
  abbrev p : Forest
  p = forest_of t

  abbrev Rolled : Facts → List Event → Happening → Type 0
  Rolled f e h = acks.Told t whole f e h × DecidedStays p f e

  module _ (before : List Happening) (u : Turn) (rest : List Happening) (is : before ++ happenings.Turn u ∷ rest ≡ t.trace) (lawful : IsLawfulRun (so_far t before)) (k : NodeState) (may : MayTurn t.places (f_at t before) u k)
      (law : Rolled (f_at t before) (e_at t before) (happenings.Turn u)) where
    open at_turn t whole before u rest is use {f, e, g}

    abbrev r : List Event
    r = with_exits f g u e

    abbrev ks : List KeptRow
    ks = k.stored.durable.kept

    abbrev d : TurnDraft
    d = draft_of (place_at t.places u.node) k u.input

    added : Added Any e r
    added = exits_added f g u e

    stands : IfSome u.wrote (MayStand e)
    stands = acks.stands t whole before u rest is lawful k may law.0

    -- ---- its sender is no neighbour

    names_not : (b x : BranchId) (s : KeptRow) → item_at kept_row_id ks b ≡ Some s → is_neighbor s x ≡ false → Beyond p x b → exit r x ≡ Some Quiet
    names_not b x s row other edge =
        let me : s.me ≡ b = item_is kept_row_id ks b s row in
        let names : RowNames p e s = all_found (RowNames p e) kept_row_id ks b s (acks.beyond_named t whole before u rest is lawful k may law.0) row in
        exit_later x Quiet added (elim (names x (subst (λ c. Beyond p x c) (sym me) edge)) [
          | inr quiet ↦ quiet
          | inl named ↦ (let near : is_neighbor s x ≡ true = named_neighbor s x named in absurd (cc (near, other)))
        ])

    -- ---- its sender decided

    learned_record : (w : Option RedoRecord) (b : BranchId) → IfSome w (MayStand e) → LearnsRollback w b → learned (with_event (wrote_event u.node w) e) b ≡ Some decisions.Rollback
    learned_record (Some (records.Ended c decisions.Rollback)) b may_stand now = learned_now e c b decisions.Rollback None may_stand.1 (sym now)
    learned_record (Some (records.Met c decisions.Rollback mixed)) b may_stand now = learned_now e c b decisions.Rollback (Some mixed) may_stand.1 (sym now)
    learned_record _ b may_stand now = absurd now

    none_yet : (b : BranchId) → IsLive k b → exit e b ≡ None
    none_yet b live =
        subst (λ m. exit e m ≡ None) (item_is live_id k.lives b live.0 live.1) (all_found (λ l. exit e l.me ≡ None) live_id k.lives b live.0 (nodes_are_as_events (so_far t before) lawful u.node k may.up).0 live.1)

    -- before the record of this turn, or by it
    decided_when : (b : BranchId) (n : ℕ) → exit r b ≡ Some (Decided n) → (exit e b ≡ Some (Decided n)) ⊎ IsDecisionOf b u.wrote
    decided_when b n decided =
        elim (exit_made b (Decided n) (leavers_added (lives_at (node_at f u.node)) (lives_at (node_at g u.node)) u.sent (lives_at (node_at f u.node)) (with_record u e) (λ c at. at)) decided) [
          | inl old ↦ wrote_decision u.node e u.wrote b n old
          | inr made ↦ absurd (later_undecided b n made.0 made.1 made.2)
        ]

    -- who decides now was live
    deciding_live : (w : Option RedoRecord) (b : BranchId) → IfSome w (WroteWhy (heard k u.input) u.input d.says) → IsDecisionOf b w → IsLive k b
    deciding_live (Some (records.Decided x)) b why at =
        let live : IsLive why.3.here why.1.me = acting_live why.3.acting in
        let me : why.1.me ≡ b = sym (ap (λ y. y.me) why.5) ∙ at in
        heard_lives k u.input b (subst (λ c. IsLive (heard k u.input) c) me (live.0, subst (λ (ls : List Live). item_at live_id ls why.1.me ≡ Some live.0) why.3.near.lives live.1))
    deciding_live _ b why at = absurd at

    why : IfSome d.wrote (WroteWhy (heard k u.input) u.input d.says)
    why = (why_on (heard k u.input) u.input (place_at t.places u.node) (serves t.places f u k may).step (λ no. record { lives = refl; clock = refl })).0

    wrote_live : u.wrote ≡ d.wrote → (b : BranchId) → IsDecisionOf b u.wrote → IsLive k b
    wrote_live wrote b at = deciding_live u.wrote b (subst (λ w. IfSome w (WroteWhy (heard k u.input) u.input d.says)) (sym wrote) why) at

    -- one of which its node knows nothing has forgotten, or is alone
    nothing_known : (b : BranchId) (n : ℕ) → b.node ≡ u.node → exit e b ≡ Some (Decided n) → status_of k b ≡ Is_gone → (x : BranchId) → Beyond p x b → Gone r b ⊎ (exit r x ≡ Some Quiet)
    nothing_known b n here decided gone x edge = elim (law.1 b n decided) [
      | inl row ↦ absurd (kept_not_gone k b
          (sym (any_map b unacked_row (λ y. refl) ks)
          ∙ subst (λ s. IsKeptIn b s.durable.kept) (sym (node_so t.places t.commands t.of_a_script.each f e (run_stands (so_far t before) lawful) u.node k may.up).stored) (subst (λ i. IsKeptIn b (stored_rows f i)) here row)) gone)
      | inr over ↦ elim over [
        | inl done ↦ inl (gone_later added b (done_gone e b done))
        | inr alone ↦ inr (exit_later x Quiet added (alone x edge))
      ]
    ]

    decided_roll : u.wrote ≡ d.wrote → (b x : BranchId) (n : ℕ) → exit r b ≡ Some (Decided n) → RollsSo e (heard k u.input) u.input d b x → Beyond p x b → Gone r b ⊎ (exit r x ≡ Some Quiet)
    decided_roll wrote b x n decided (Was_live live unwritten) edge = elim (decided_when b n decided) [
      | inl old ↦ (let none : exit e b ≡ None = none_yet b (heard_lives k u.input b live) in absurd (cc (none, old)))
      | inr new ↦ absurd (subst (λ w. IsDecisionOf b w) (wrote ∙ unwritten) new)
    ]
    decided_roll wrote b x n decided (Learns_so now) edge =
        inl (inr (inr (inl (learned_later b decisions.Rollback (leavers_added (lives_at (node_at f u.node)) (lives_at (node_at g u.node)) u.sent (lives_at (node_at f u.node)) (with_record u e) (λ c at. at))
        (learned_record u.wrote b stands (subst (λ w. LearnsRollback w b) (sym wrote) now))))))
    decided_roll wrote b x n decided (Knows_so learnt) edge = inl (inr (inr (inl (learned_later b decisions.Rollback added learnt))))
    decided_roll wrote b x n decided (Is_nothing gone from kind came) edge = elim (decided_when b n decided) [
      | inl old ↦ nothing_known b n (came_here f k u.node u.input u.took may.comes from b kind came) old (gone_before k u.input b gone) x edge
      | inr new ↦ (let live = wrote_live wrote b new in absurd (live_not_gone k b live.0 live.1 (gone_before k u.input b gone)))
    ]
    decided_roll wrote b x n decided (Names_not s kept me other) edge =
        inr (names_not b x s (subst (λ c. item_at kept_row_id ks c ≡ Some s) me (subst (λ (zs : List KeptRow). item_at kept_row_id zs s.me ≡ Some s) (heard_rows k u.input) kept)) other edge)

    roll_allowed : u.wrote ≡ d.wrote → (b x : BranchId) → RollbackIs r ks b x → RollsSo e (heard k u.input) u.input d b x → TreeAllows p r (Send_rollback b x)
    roll_allowed wrote b x (inl (inl gone)) how edge = inl gone
    roll_allowed wrote b x (inl (inr decided)) how edge = decided_roll wrote b x decided.0 decided.1 how edge
    roll_allowed wrote b x (inr row) how edge = inr (names_not b x row.0 row.1 row.2 edge)

    kind_allowed : u.wrote ≡ d.wrote → (from to : BranchId) (kind : Kind) → SaysByRow e r ks from to kind → TellsSo e (heard k u.input) u.input d from to kind → RollByForest p r from to kind
    kind_allowed wrote from to kinds.Rollback row how = roll_allowed wrote from to row how
    kind_allowed wrote from to kinds.RolledBack row how = roll_allowed wrote from to row how
    kind_allowed wrote from to _ row how = tt

    pub rolls_allowed : (cut : Bool) → IsOwed (place_at t.places u.node) k u.input u.wrote u.sent cut → AllByRecursion (λ m. RollByForest p r m.from m.to m.kind) u.sent
    unfolding turn_of
    rolls_allowed true owed = subst (λ (ms : List Msg). AllByRecursion (λ m. RollByForest p r m.from m.to m.kind) ms) (sym owed.1) tt
    rolls_allowed false owed =
        let how : AllByRecursion (λ m. TellsSo e (heard k u.input) u.input d m.from m.to m.kind) u.sent
        = subst (λ (ms : List Msg). AllByRecursion (λ m. TellsSo e (heard k u.input) u.input d m.from m.to m.kind) ms) (sym owed.1)
        (all_map (λ (m : Msg). TellsSo e (heard k u.input) u.input d m.from m.to m.kind) (stamped d.after.clock) d.says (acks.whys t whole before u rest is lawful k may law.0)) in
        all_weaker _ _ (λ m both. kind_allowed owed.0 m.from m.to m.kind both.0 both.1) u.sent (all_both _ _ u.sent (law.0.0.1 k may.up) how)

  allowed_so : (before : List Happening) (h : Happening) (rest : List Happening) → before ++ h ∷ rest ≡ t.trace → IsLawfulRun (so_far t before) → MayHappen t.places t.commands (f_at t before) h
      → EachEventFrom Rolled t.places t.commands (f_at t before) (e_at t before) (h ∷ rest) → RollsByForest t (f_at t before) (e_at t before) h
  allowed_so before (happenings.Turn u) rest is lawful may laws = rolls_allowed before u rest is lawful may.0 may.1 laws.0 u.cut may.1.owed
  allowed_so before _ rest is lawful may laws = tt

  rolled_each : EachEventFrom Rolled t.places t.commands (first_facts t.places) [] t.trace
  rolled_each = both_each t.places t.commands _ _ (first_facts t.places) [] t.trace (acks.told_each t whole) (run_decided t whole)

pub rolls_go_by_forest : RollsGoByForest
rolls_go_by_forest t lawful = each_prefix t (Rolled t lawful) (RollsByForest t) (allowed_so t lawful) lawful (rolled_each t lawful)
