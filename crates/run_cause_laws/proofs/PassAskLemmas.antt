-- A branch that waits for a child is asked no statement in a turn: neither its session nor its parent calls it before it has answered.
use Rattle.std.proofs.Common.{◌≡◌, ◌≢◌, ℕ, ◌+◌, ◌<◌, ◌≤◌, ◌==◌, ◌&&◌, Bool, true, false, if◌then◌else◌, is_none, List, ◌∷◌, ◌++◌, Option, Some, None, refl, sym, ap, subst, ◌∙◌, arith}
use Rattle.std.specs.Prelude.{IfSome, nat_lt}
use Rattle.std.proofs.lemmas.Bool.{and_parts, eqb-true}
use Rattle.std.proofs.lemmas.Bool.Decides.{nat_tests}
use Rattle.tran_ids.proofs.BranchLemmas.{equal_from_same}
use Rattle.tran_ids.proofs.ListedLemmas.{item_is}
use Rattle.node_rules.specs.Data.{Advice, BranchId, Kind, Live, Stmt, Input, Task}
use Rattle.node_rules.specs.Data.inputs
use Rattle.node_rules.specs.Data.kinds
use Rattle.node_rules.specs.Data.tasks
use Rattle.node_rules.specs.declared.work.Going.{Going}
use Rattle.node_rules.specs.Inputs.{Came, IsCall, IsSession}
use Rattle.node_rules.specs.Words.{same, is_item_of}
use Rattle.node_rules.specs.NodeState.{live_id, live_at}
use Rattle.node_rules.specs.LiveBranches.{works_of}
use Rattle.node_rules.specs.Sessions.{session_at}
use Rattle.run_base_laws.specs.BirthLaws.{Began, LiveIs}
use Rattle.run_rules.specs.Branches.{Seen, seen_id, seen_at, is_live, is_live_at, is_root_of, root_at}
use Rattle.run_rules.specs.Data.{Turn, Happening}
use Rattle.run_rules.specs.Data.happenings
use Rattle.run_base_laws.specs.InTurnLaws.{newest_reply}
use Rattle.run_rules.specs.Lawful.{Comes, History, IsLawfulRun}
use Rattle.run_base_laws.specs.RunEvents.{events_of}
use Rattle.run_rules.specs.Runs.{Asking, is_of_rows, asks_root, asks_branch, asks_by, asks}
use Rattle.run_rules.specs.Trail.{asked_after}
use Rattle.run_base_laws.proofs.BirthRunLemmas.{StandBorn, run_births, nodes_name_the_born}
use Rattle.run_base_laws.proofs.InTurnLemmas as in_turn
use Rattle.run_base_laws.proofs.InTurnRunLemmas as calls
use Rattle.run_base_laws.proofs.InTurnRunLemmas.{CallsOf, NodeCalls, CallsStand, run_calls}
use Rattle.run_base_laws.proofs.KidLemmas.{edge_of, parent_of, above_of}
use Rattle.run_base_laws.proofs.NodeLemmas.{kept_alone}
use Rattle.run_base_laws.proofs.OwnLemmas.{all_found}
use Rattle.run_base_laws.proofs.RestLemmas.{free_waits}
use Rattle.run_base_laws.proofs.RestRunLemmas.{NodeRests, free_by, RootsStand, run_roots}
use Rattle.run_base_laws.proofs.RootLemmas.{SessionsFit, sessions_keep}
use Rattle.tree_trail_laws.proofs.CallLemmas.{call_free}
use Rattle.tree_trail_laws.proofs.OwnAskLemmas.{asking}
use Rattle.tree_trail_laws.proofs.OwnCallLemmas.{last_of}
use Rattle.tree_trail_laws.proofs.PlanLemmas.{find_more, find_passes}
use Rattle.tree_laws.proofs.AtTurn.{at_turn}
use Rattle.tree_trail_laws.proofs.AtTrail.{at_trail}

module _ (t : History) (whole : IsLawfulRun t) (hs : List Happening) (u : Turn) (rest : List Happening) (is : hs ++ happenings.Turn u ∷ rest ≡ t.trace) where
  open at_turn t whole hs u rest is use {part as part0, s as s0, lawful as lawful0, f as f0, may, k, said, bs as bs0}
  open at_trail t hs u use {tr as tr0, begun_tr as trb}

  stand : StandBorn t.places t.commands t.of_a_script.each f0 (events_of s0) bs0
  stand = run_births s0 lawful0

  root_stand : RootsStand t.places t.commands t.of_a_script.each f0
  root_stand = run_roots s0 lawful0

  stands : CallsStand f0
  stands = run_calls s0 lawful0

  abbrev Here : BranchId → Type 0
  Here = calls.Here t.places t.commands t.of_a_script.each f0 (events_of s0) bs0 stand root_stand stands u k may.1

  abbrev May : BranchId → Type 0
  May = calls.May t.places t.commands t.of_a_script.each f0 (events_of s0) bs0 stand root_stand stands u k may.1

  received : in_turn.Received (edge_of bs0) (parent_of bs0) May Here u.input said
  received = calls.received t.places t.commands t.of_a_script.each f0 (events_of s0) bs0 stand root_stand stands u k may.1

  rests : NodeRests k
  rests = subst (λ o. IfSome o NodeRests) may.1.up (root_stand u.node)

  node_calls : NodeCalls said k
  node_calls = subst (λ o. IfSome o (NodeCalls said)) may.1.up (stands.nodes u.node)

  module _ (z : Live) (live : live_at k z.me ≡ Some z) (g : Going) (going : (works_of k.works z.me).going ≡ Some g) where
    in_its_turn : CallsOf said k z (works_of k.works z.me)
    in_its_turn = node_calls.each z.me z live

    not_called : (m : ℕ) (s : Stmt) → IsCall u.input m s → z.me.session ≡ m → ⊥
    not_called m s call session = by z.parent refl
      where
        by : (o : Option BranchId) → z.parent ≡ o → ⊥
        by None root =
            let mine : IsCall u.input z.me.session s = subst (λ n. IsCall u.input n s) (sym session) call in
            let none : (works_of k.works z.me).going ≡ None
            = (free_waits (session_at k.sessions z.me.session).call z.phase (works_of k.works z.me).going (rests.1.each z.me z live root).waits (free_by f0 k u.node z.me.session (Some s) u.took (subst (λ i. Comes f0 k u.node i u.took) mine may.1.comes))).1 in
            absurd (cc (none, going))
        by (Some q) above =
            let high : 65 ≤ z.me.session = all_found (λ (l : Live). l.parent ≢ None → 65 ≤ l.me.session) live_id k.lives z.me z (kept_alone SessionsFit sessions_keep s0 lawful0 u.node k may.1.up).above live (λ none. absurd (cc (above, none))) in
            let low : IsSession m = (call_free f0 k u.node u.input u.took m (Some s) call may.1.comes).0 in
            absurd (omega (arith, low.1, high, session))

    not_execd : (from : BranchId) (call : ℕ) (task : Task) → Came u.input from z.me (kinds.Exec call task) → (z.parent ≢ None → last_of k z.me < call) → ⊥
    not_execd from call task came new =
        let said_so = received.exec from z.me call task came in
        let parent : z.parent ≡ Some from = above_of bs0 z (all_found (LiveIs (Began bs0)) live_id k.lives z.me z (nodes_name_the_born s0 lawful0 u.node k may.1.up).0 live) from said_so.0 in
        let answered : call ≤ newest_reply said z.me + 1 = omega (arith, said_so.1, received.all from z.me) in
        let told : newest_reply said z.me ≤ last_of k z.me = in_its_turn.takes.told in
        let last : newest_reply said z.me ≡ last_of k z.me = (let later = new (λ none. absurd (cc (parent, none))) in omega (arith, later, answered, told)) in
        let none : (works_of k.works z.me).going ≡ None = in_its_turn.takes.rests (λ root. absurd (cc (parent, root))) last in
        absurd (cc (none, going))

    module _ (s : Seen) (at : seen_at tr0 z.me ≡ Some s) (taken : z.parent ≢ None → s.taken ≡ last_of k z.me) where
      root_asked : (m : ℕ) (st : Stmt) → IsCall u.input m st → (o : Option Seen) → root_at trb u.node m ≡ o → (a : Asking) → asks_root st o ≡ Some a → a.branch.me ≡ z.me → ⊥
      root_asked m st call None found a asked me = absurd cc
      root_asked m st call (Some b) found a asked me = by (is_of_rows st) asked
        where
          session : b.me.session ≡ m
          session =
              let passes = and_parts (is_live_at u.node b) (is_none b.parent && (b.me.session == m)) (find_passes (is_root_of u.node m) trb.seen b found) in
              eqb-true b.me.session m (and_parts (is_none b.parent) (b.me.session == m) passes.1).1

          by : (q : Bool) → (if q then Some (asking b st) else None) ≡ Some a → ⊥
          by true asked =
              let it : Some (asking b st) ≡ Some a = asked in
              let one : asking b st ≡ a = cc in
              not_called m st call (ap (λ (c : BranchId). c.session) (sym me) ∙ (ap (λ (y : Asking). y.branch.me.session) (sym one) ∙ session))
          by false asked = absurd cc

      branch_asked : (from to : BranchId) (call given : ℕ) (advice : Option Advice) (st : Stmt) → Came u.input from to (kinds.Exec call (tasks.Run given advice st)) → (o : Option Seen) → seen_at trb to ≡ o → (a : Asking) → asks_branch call st o ≡ Some a → a.branch.me ≡ z.me → ⊥
      branch_asked from to call given advice st came None found a asked me = absurd cc
      branch_asked from to call given advice st came (Some b) found a asked me = by (is_live b && nat_lt b.taken call) refl asked
        where
          by : (q : Bool) → (is_live b && nat_lt b.taken call) ≡ q → (if q then Some (asking b st) else None) ≡ Some a → ⊥
          by true passes asked =
              let it : Some (asking b st) ≡ Some a = asked in
              let one : asking b st ≡ a = cc in
              let here : to ≡ z.me = sym (item_is seen_id trb.seen to b found) ∙ (ap (λ (y : Asking). y.branch.me) one ∙ me) in
              let both : Some b ≡ Some s = sym (subst (λ c. seen_at trb c ≡ Some b) here found) ∙ find_more (is_item_of seen_id z.me) tr0.seen _ s at in
              let same_seen : b ≡ s = cc in
              let less : nat_lt s.taken call ≡ true = ap (λ (y : Seen). nat_lt y.taken call) (sym same_seen) ∙ (and_parts (is_live b) (nat_lt b.taken call) passes).1 in
              let below : s.taken < call = grind (arith, nat_tests, less) in
              not_execd from call (tasks.Run given advice st) (subst (λ c. Came u.input from c (kinds.Exec call (tasks.Run given advice st))) here came) (λ under. subst (λ n. n < call) (taken under) below)
          by false passes asked = absurd cc

      not_this : (a : Asking) → asks trb u.node u.input ≡ Some a → a.branch.me ≡ z.me → ⊥
      not_this a asked me = by u.input refl asked
        where
          by_kind : (from to : BranchId) (kind : Kind) → Came u.input from to kind → asks_by trb to kind ≡ Some a → ⊥
          by_kind from to (kinds.Exec call (tasks.Run given advice st)) came asked = branch_asked from to call given advice st came (seen_at trb to) refl a asked me
          by_kind from to _ came asked = absurd cc

          by : (input : Input) → u.input ≡ input → asks trb u.node input ≡ Some a → ⊥
          by (inputs.Call m (Some st)) came asked = root_asked m st came (root_at trb u.node m) refl a asked me
          by (inputs.Call m None) came asked = absurd cc
          by (inputs.Message m) came asked = by_kind m.from m.to m.kind (record { scn = m.scn; is = came }) asked
          by (inputs.GiveUp m) came asked = absurd cc
          by inputs.Reco came asked = absurd cc
          by inputs.Checkpoint came asked = absurd cc

      pub unasked : asked_after s (asks trb u.node u.input) ≡ s.asked
      unasked = by (asks trb u.node u.input) refl
        where
          by : (o : Option Asking) → asks trb u.node u.input ≡ o → asked_after s o ≡ s.asked
          by None none = refl
          by (Some a) some = by_same (same a.branch.me s.me) refl
            where
              by_same : (q : Bool) → same a.branch.me s.me ≡ q → (if q then Some a.statement else s.asked) ≡ s.asked
              by_same true here = absurd (not_this a some (equal_from_same a.branch.me s.me here ∙ item_is seen_id tr0.seen z.me s at))
              by_same false other = refl
