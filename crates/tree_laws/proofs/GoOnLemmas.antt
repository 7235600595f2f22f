-- A root that may go on after a turn could go on before it.
use Rattle.std.proofs.Common.{◌≡◌, ℕ, List, Some, None, subst}
use Rattle.tran_ids.proofs.ListedLemmas.{item_is}
use Rattle.node_rules.specs.Data.{BranchId, Live, Place}
use Rattle.node_rules.specs.Words.{numbered}
use Rattle.node_rules.specs.NodeState.{NodeState, live_id, live_at}
use Rattle.node_rules.specs.Sessions.{session_at}
use Rattle.node_rules.specs.Turn.{turn_of}
use Rattle.node_rules.proofs.HeardLemmas.{sessions_heard}
use Rattle.agreement.specs.Events.{Event}
use Rattle.run_rules.specs.Births.{Born}
use Rattle.run_rules.specs.Data.{Turn, Command}
use Rattle.run_rules.specs.Facts.{Facts}
use Rattle.run_base_laws.specs.InTurnLaws.{NeedsNoRollback}
use Rattle.run_rules.specs.Lawful.{IsPlace, MayTurn}
use Rattle.run_base_laws.proofs.BirthRunLemmas.{StandBorn}
use Rattle.run_base_laws.proofs.CodeLemmas.{AllNeed, codes_on}
use Rattle.run_base_laws.proofs.InTurnRunLemmas as calls
use Rattle.run_base_laws.proofs.InTurnRunLemmas.{CallsStand}
use Rattle.run_base_laws.proofs.RestLemmas.{live_root}
use Rattle.run_base_laws.proofs.RestRunLemmas.{NodeRests, RootsStand, turned}
use Rattle.run_base_laws.proofs.OneTurn.{one_turn}

module _ (places : List Place) (asked : List Command) (each : (n : ℕ) (p : Place) → numbered places n ≡ Some p → IsPlace places n p) where
  module _ (f : Facts) (t : List Event) (bs : List Born) (stand : StandBorn places asked each f t bs) (roots : RootsStand places asked each f) (turns : CallsStand f) (u : Turn) (k : NodeState) (may : MayTurn places f u k) where
    open one_turn places asked f u k use {p, d}

    abbrev May : BranchId → Type 0
    May = calls.May places asked each f t bs stand roots turns u k may

    pub rests : NodeRests k
    rests = calls.rests places asked each f t bs stand roots turns u k may

    rests_after : NodeRests d.after
    unfolding turn_of
    rests_after = turned places asked each f t bs stand roots u k may

    codes : AllNeed k.sessions d.after.sessions
    codes = subst (λ ss. AllNeed ss d.after.sessions) (sessions_heard k u.input) (codes_on p u.input (calls.step places asked each f t bs stand roots turns u k may))

    -- a root that may go on after the turn needed no rollback before it
    pub goes_before : (b : BranchId) (l : Live) → live_at k b ≡ Some l → (l.parent ≡ None → May l.me) → NeedsNoRollback k l
    goes_before b l live goes none =
        let may_go : May l.me = goes none in
        let before : (session_at k.sessions l.me.session).root ≡ Some l.me = (live_root k rests.1 b l live none).root in
        let me : may_go.0.me ≡ l.me = item_is live_id d.after.lives l.me may_go.0 may_go.1 in
        let after : (session_at d.after.sessions l.me.session).root ≡ Some l.me
        = subst (λ c. (session_at d.after.sessions c.session).root ≡ Some c) me (live_root d.after rests_after.1 l.me may_go.0 may_go.1 may_go.2).root in
        codes l.me.session l.me before after may_go.3
