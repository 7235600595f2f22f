-- A turn ends a COMMIT that is pending, as complete, where the root has decided by its end and has the Ack of each neighbour.
use Rattle.std.proofs.Common.{◌≡◌, ◌≢◌, ℕ, ◌++◌, ◌==◌, ◌⊎◌, Bool, true, false, if◌then◌else◌, List, [], ◌∷◌, Option, Some, None, inl, inr, refl, sym, ap, subst, ◌∙◌}
use Rattle.std.specs.Option.{option_to_list}
use Rattle.std.specs.Prelude.{IfSome, filter, map}
use Rattle.std.specs.List.{list_all}
use Rattle.std.proofs.lemmas.Bool.{eqb-true}
use Rattle.agreement.specs.Events.{Exit, exit}
use Rattle.node_rules.specs.Data.{Answer, BranchId, Decided, Decision, Input, Kind, Live, Msg, RedoRecord}
use Rattle.node_rules.specs.Data.decisions
use Rattle.node_rules.specs.Data.inputs
use Rattle.node_rules.specs.Data.kinds
use Rattle.node_rules.specs.Data.records
use Rattle.node_rules.specs.Inputs.{Brings, Rollback_came, Rolled_back_came}
use Rattle.node_rules.specs.declared.session.Finished.{Finished}
use Rattle.node_rules.specs.declared.session.PendingCall.TheVariants as pending
use Rattle.node_rules.specs.NodeState.{NodeState, TurnOutput, live_at}
use Rattle.node_rules.specs.Sessions.{session_at, commit_complete}
use Rattle.node_rules.specs.Turn.{turn_of}
use Rattle.node_rules.specs.Words.{same}
use Rattle.run_rules.specs.BranchRecords.{decided_in}
use Rattle.run_rules.specs.Branches.{Seen, is_among, seen_at}
use Rattle.run_rules.specs.Data.{Turn, Happening}
use Rattle.run_rules.specs.Data.happenings
use Rattle.run_rules.specs.Facts.{kept_after, node_at, records_at}
use Rattle.run_rules.specs.Lawful.{History, IsLawfulRun}
use Rattle.run_rules.proofs.AtNodeLemmas.{turn_here}
use Rattle.run_rules.specs.Trail.{acked_by, acks_after}
use Rattle.run_rules.specs.Tree.{parent_of}
use Rattle.run_claims.specs.Knowledge.{ForcesSo, HeardFromToward, IsCommitOfLeaf, IsCommitPoint, IsLastVote, KnowsEnough, MayWrite, TurnKnows, acks_of, neighbors_of}
use Rattle.run_base_laws.proofs.EventsStandLemmas.{run_stands}
use Rattle.run_cause_laws.proofs.KnowLemmas.{every_turn_knows}
use Rattle.run_cause_laws.proofs.OnceLemmas.{disks_only}
use Rattle.answer_done_laws.specs.DoneLaws.{answers_to}
use Rattle.tree_laws.proofs.AtTurn.{at_turn}
use Rattle.tree_laws.proofs.PrefixLemmas.{f_at, one_on}
use Rattle.tree_trail_laws.proofs.AtTrail.{at_trail}
use Rattle.tree_trail_laws.proofs.FullLemmas.{full}
use Rattle.tree_trail_laws.proofs.LeftLemmas.{IsToldLeft, left_are_told}
use Rattle.tree_trail_laws.proofs.SeenRunLemmas.{all_is_seen}
use Rattle.tree_trail_laws.proofs.MomentLemmas.{at_moment, trail_one_on}
use Rattle.tree_trail_laws.proofs.SeenLemmas.{seen_turned}
use Rattle.commit_answer_laws.specs.CommitEndLaws.{CommitPends, EndsCall}
use Rattle.commit_answer_laws.proofs.AckEndLemmas.{has_left, never_acked, root_node}
use Rattle.commit_answer_laws.proofs.CauseEndLemmas.{Ends, alive}
use Rattle.commit_answer_laws.proofs.CauseLemmas.{owes_so}
use Rattle.commit_answer_laws.proofs.EndRunLemmas.{ends_for, ends_or_stays, stays_so}
use Rattle.commit_answer_laws.proofs.EndStepLemmas.{StepEnd, Has_decided, Has_no_site, Has_forgotten, Hears_abort, Is_given_up, Ends_back, Meets_back, Is_known, Is_in_doubt, Is_forced}

-- ---- lists

-- an answer to a session is among the calls that end
answer_ends : (fs : List Finished) (m : ℕ) (a : Answer) → answers_to m fs ≡ a ∷ [] → EndsCall (record { session = m; answer = a }) fs
answer_ends [] m a is = absurd cc
answer_ends (x ∷ fs) m a is = by (x.session == m) refl is (answer_ends fs m a)
  where
    by : (q : Bool) → (x.session == m) ≡ q → map (λ (y : Finished). y.answer) (if q then x ∷ filter (λ (y : Finished). y.session == m) fs else filter (λ (y : Finished). y.session == m) fs) ≡ a ∷ []
        → (answers_to m fs ≡ a ∷ [] → EndsCall (record { session = m; answer = a }) fs) → EndsCall (record { session = m; answer = a }) (x ∷ fs)
    by true mine at rest =
        let both : x.answer ∷ answers_to m fs ≡ a ∷ [] = at in
        let answer : x.answer ≡ a = cc in
        let its : x.session ≡ m = eqb-true x.session m mine in
        inl (ap (λ i. record { session = i; answer = x.answer }) its ∙ ap (λ (y : Answer). record { session = m; answer = y }) answer)
    by false other at rest = inr (rest at)

-- a decision that stands after a turn stood before it, or is the turn's record
decided_or : (rs : List RedoRecord) (w : Option RedoRecord) (g : BranchId) (r : Decided) → decided_in (rs ++ option_to_list w) g ≡ Some r → (decided_in rs g ≡ Some r) ⊎ (w ≡ Some (records.Decided r))
decided_or [] None g r is = absurd cc
decided_or [] (Some (records.Decided x)) g r is = by (same x.me g) is
  where
    by : (q : Bool) → (if q then Some x else None) ≡ Some r → (decided_in [] g ≡ Some r) ⊎ (Some (records.Decided x) ≡ Some (records.Decided r))
    by true at = inr (let it : Some x ≡ Some r = at in ap (λ (y : Decided). Some (records.Decided y)) (let one : x ≡ r = cc in one))
    by false at = absurd cc
decided_or [] (Some _) g r is = absurd cc
decided_or (records.Decided x ∷ rs) w g r is = by (same x.me g) is (decided_or rs w g r)
  where
    by : (q : Bool) → (if q then Some x else decided_in (rs ++ option_to_list w) g) ≡ Some r → (decided_in (rs ++ option_to_list w) g ≡ Some r → (decided_in rs g ≡ Some r) ⊎ (w ≡ Some (records.Decided r)))
        → ((if q then Some x else decided_in rs g) ≡ Some r) ⊎ (w ≡ Some (records.Decided r))
    by true at rest = inl at
    by false at rest = rest at
decided_or (_ ∷ rs) w g r is = decided_or rs w g r is

module _ (t : History) (whole : IsLawfulRun t) (hs : List Happening) (u : Turn) (rest : List Happening) (is : hs ++ happenings.Turn u ∷ rest ≡ t.trace) (uncut : u.cut ≡ false) (k : NodeState) (up : node_at (f_at t hs) u.node ≡ Some k) (g : BranchId) (pending_it : CommitPends k g)
    (r : Decided) where
  open at_turn t whole hs u rest is use {h, s as s0, f, e, bs, part, lawful, p as place, after as hs1, s_after as s1, lawful_after as lawful1}
  open at_trail t hs u use {tr, tr_on}

  abbrev o : TurnOutput
  o = turn_of place k u.input

  here : g.node ≡ u.node
  here = root_node s0 lawful u.node k up g pending_it

  wrote : u.wrote ≡ o.wrote
  wrote = owes_so t whole hs u rest is uncut k up

  knows : TurnKnows t.places f tr u k
  knows = at_moment t KnowsEnough (every_turn_knows t whole) hs h rest is k up

  may_write : (x : RedoRecord) → o.wrote ≡ Some x → MayWrite place f tr tr_on k u.node u.input x
  may_write x is_x = subst (λ w. IfSome w (MayWrite place f tr tr_on k u.node u.input)) (wrote ∙ is_x) knows.writes

  module _ (decided : decided_in (records_at f g.node ++ option_to_list u.wrote) g ≡ Some r) (acked : list_all (λ c. is_among c (acks_of (seen_at tr_on g))) (neighbors_of r) ≡ true) where
    -- ---- it is pending no more

    after_is : node_at (f_at t hs1) u.node ≡ Some o.after
    after_is = ap (λ x. node_at x u.node) (one_on t hs h) ∙ ((turn_here t.places t.commands f (run_stands s0 lawful).0.even u k up).0 ∙ ap (λ c. kept_after c (Some o)) uncut)

    disk : records_at (f_at t hs1) g.node ≡ records_at f g.node ++ option_to_list u.wrote
    disk =
        ap (λ i. records_at (f_at t hs1) i) here
        ∙ (ap (λ x. records_at x u.node) (one_on t hs h) ∙ ((turn_here t.places t.commands f (run_stands s0 lawful).0.even u k up).1 ∙ ap (λ i. records_at f i ++ option_to_list u.wrote) (sym here)))

    stays_not : (session_at o.after.sessions g.session).call ≡ pending.Commit → ⊥
    stays_not commits =
        never_acked s1 lawful1 u.node o.after after_is g (stays_so t whole hs u rest is k up g pending_it commits) r (ap (λ rs. decided_in rs g) disk ∙ decided)
        (ap (λ x. list_all (λ c. is_among c (acks_of (seen_at x g))) (neighbors_of r)) (trail_one_on t hs h) ∙ acked)

    -- ---- and its answer is that of the decision

    -- what stood before, where this turn does not decide
    before : (u.wrote ≡ Some (records.Decided r) → ⊥) → decided_in (records_at f g.node) g ≡ Some r
    before other = elim (decided_or (records_at f g.node) u.wrote g r decided) [ inl old ↦ old | inr new ↦ absurd (other new) ]

    left : decided_in (records_at f g.node) g ≡ Some r → exit e g ≢ None
    left old = has_left e (records_at f u.node) g r (subst (λ i. decided_in (records_at f i) g ≡ Some r) here old) (disks_only t whole hs part u.node).0

    live_not : (z : Live) → live_at k g ≡ Some z → (u.wrote ≡ Some (records.Decided r) → ⊥) → ⊥
    live_not z live other = left (before other) (alive t whole hs u rest is k up g pending_it z live)

    unwritten : o.wrote ≡ None → u.wrote ≡ Some (records.Decided r) → ⊥
    unwritten none new = (let it : u.wrote ≡ None = wrote ∙ none in absurd (cc (it, new)))

    other_record : (x : RedoRecord) → o.wrote ≡ Some x → ((y : Decided) → x ≡ records.Decided y → ⊥) → u.wrote ≡ Some (records.Decided r) → ⊥
    other_record x is_x apart new = apart r (let both : Some x ≡ Some (records.Decided r) = sym (wrote ∙ is_x) ∙ new in let one : x ≡ records.Decided r = cc in one)

    -- where no Ack came it lacked none before
    quiet : decided_in (records_at f g.node) g ≡ Some r → ((m : Msg) → u.input ≡ inputs.Message m → m.kind ≡ kinds.Ack → ⊥) → ⊥
    quiet old none = by (exit e g) refl
      where
        unheard : (s : Seen) (input : Input) → ((m : Msg) → input ≡ inputs.Message m → m.kind ≡ kinds.Ack → ⊥) → acks_after s input ≡ s.acks
        unheard s (inputs.Message m) no_ack = by_kind m.kind refl
          where
            by_kind : (kind : Kind) → m.kind ≡ kind → acked_by s m kind ≡ s.acks
            by_kind kinds.Ack at = absurd (no_ack m refl at)
            by_kind _ at = refl
        unheard s _ no_ack = refl

        same_acks : (s : Seen) → seen_at tr g ≡ Some s → acks_of (seen_at tr_on g) ≡ acks_of (seen_at tr g)
        same_acks s at = ap acks_of (seen_turned t.places f tr u g s at) ∙ (unheard s u.input none ∙ sym (ap acks_of at))

        by : (x : Option Exit) → exit e g ≡ x → ⊥
        by None gone = left old gone
        by (Some x) out =
            let it : IsToldLeft bs f tr g = left_are_told t whole (full t whole (all_is_seen t whole)) hs part g x out in
            never_acked s0 lawful u.node k up g pending_it r old (ap (λ cs. list_all (λ c. is_among c cs) (neighbors_of r)) (sym (same_acks it.seen it.at)) ∙ acked)

    -- the turn of a give-up decides nothing
    given_not : (n : ℕ) → u.input ≡ inputs.GiveUp n → u.wrote ≡ Some (records.Decided r) → ⊥
    given_not n given new = by (may_write (records.Decided r) (sym wrote ∙ new))
      where
        voted : IsLastVote tr r.me u.input ⊎ IsCommitOfLeaf tr u.node r.me u.input → ⊥
        voted (inl vote) = (let came = vote.2.came in absurd (cc (given, came)))
        voted (inr leaf) = (let call = leaf.3 in absurd (cc (given, call)))

        by : IsCommitPoint tr r.me u.input ⊎ ((parent_of (seen_at tr r.me) ≡ None) × (IsLastVote tr r.me u.input ⊎ IsCommitOfLeaf tr u.node r.me u.input)) → ⊥
        by (inl point) = (let came = point.1.is in absurd (cc (given, came)))
        by (inr top) = voted top.1

    given_quiet : (n : ℕ) → u.input ≡ inputs.GiveUp n → ⊥
    given_quiet n given = quiet (before (given_not n given)) (λ m came kind. absurd (cc (given, came)))

    -- a rollback is no Ack
    back_quiet : (x : RedoRecord) → o.wrote ≡ Some x → ((y : Decided) → x ≡ records.Decided y → ⊥) → HeardFromToward f g decisions.Rollback u.input → ⊥
    back_quiet x is_x apart brought = quiet (before (other_record x is_x apart)) (λ m came kind. not_ack brought.2 m came kind)
      where
        unlike : (m : Msg) (kind : Kind) (scn : ℕ) → u.input ≡ inputs.Message m → m.kind ≡ kinds.Ack → u.input ≡ inputs.Message (record { from = brought.0; to = g; scn = scn; kind = kind }) → kinds.Ack ≡ kind
        unlike m kind scn came ack is_it =
            let both : inputs.Message m ≡ inputs.Message (record { from = brought.0; to = g; scn = scn; kind = kind }) = sym came ∙ is_it in
            let one : m ≡ record { from = brought.0; to = g; scn = scn; kind = kind } = cc in
            sym ack ∙ ap (λ (x : Msg). x.kind) one

        not_ack : Brings u.input brought.0 g decisions.Rollback → (m : Msg) → u.input ≡ inputs.Message m → m.kind ≡ kinds.Ack → ⊥
        not_ack (Rollback_came rolled) m came ack = absurd (let it : kinds.Ack ≡ kinds.Rollback = unlike m kinds.Rollback rolled.scn came ack rolled.is in cc)
        not_ack (Rolled_back_came rolled) m came ack = absurd (let it : kinds.Ack ≡ kinds.RolledBack = unlike m kinds.RolledBack rolled.scn came ack rolled.is in cc)

    -- nor is a statement
    forced_quiet : (d : Decision) (given : Bool) → o.wrote ≡ Some (records.Forced g d given) → ⊥
    forced_quiet d given is_x =
        (let force = may_write (records.Forced g d given) is_x in
        quiet (before (other_record (records.Forced g d given) is_x (λ y same. absurd cc))) (λ m came kind. by d given force.0 force.2 m came))
      where
        by : (d : Decision) (given : Bool) (id : List ℕ) → ForcesSo k.clock id d given u.input → (m : Msg) → u.input ≡ inputs.Message m → ⊥
        by (decisions.Commit n) true id call m came = (let is_call = call.1 in absurd (cc (is_call, came)))
        by (decisions.Commit n) false id call m came = (let is_call = call.0.1 in absurd (cc (is_call, came)))
        by decisions.Rollback given id call m came = (let is_call = call.0.1 in absurd (cc (is_call, came)))

    answered_so : (a : Answer) → StepEnd k u.input o.after o.wrote o.sent g a → a ≡ commit_complete
    answered_so a (Has_decided x l live is_x its none complete) = complete
    answered_so a (Has_no_site leaves top ends writes complete) = complete
    answered_so a (Has_forgotten s row is_x complete) = complete
    answered_so a (Hears_abort from sb came leaves answers refused) = absurd (live_not leaves.live leaves.there (unwritten leaves.unwritten))
    answered_so a (Is_given_up given leaves refused) = absurd (live_not leaves.live leaves.there (unwritten leaves.unwritten))
    answered_so a (Ends_back is_x refused) = absurd (back_quiet (records.Ended g decisions.Rollback) is_x (λ y same. absurd cc) (may_write (records.Ended g decisions.Rollback) is_x))
    answered_so a (Meets_back mixed call is_x refused) = absurd (back_quiet (records.Met g decisions.Rollback mixed) is_x (λ y same. absurd cc) (may_write (records.Met g decisions.Rollback mixed) is_x))
    answered_so a (Is_known given gone knows_it refused) = absurd (given_quiet g.session given)
    answered_so a (Is_in_doubt given call gone unknown refused) = absurd (given_quiet g.session given)
    answered_so a (Is_forced d given is_x refused) = absurd (forced_quiet d given is_x)

    pub all_acknowledged : Ends t whole hs u rest is k up g pending_it commit_complete
    all_acknowledged = elim (ends_or_stays t whole hs u rest is k up g pending_it) [
      | inl stays ↦ absurd (stays_not stays.1)
      | inr ends ↦ (let there : EndsCall (record { session = g.session; answer = ends.0 }) o.ended = answer_ends o.ended g.session ends.0 ends.1 in
          subst (λ a. EndsCall (record { session = g.session; answer = a }) o.ended) (answered_so ends.0 (ends_for t whole hs u rest is k up g ends.0 pending_it there)) there)
    ]
