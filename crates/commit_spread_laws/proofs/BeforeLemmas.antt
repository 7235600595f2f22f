-- In every lawful run no branch of a transaction is sealed when its COMMIT is called, as none has asked another to prepare;
-- and none of an undisturbed COMMIT is forced.
use Rattle.std.proofs.Common.{◌≡◌, ◌≢◌, ℕ, true, false, List, [], ◌∷◌, Option, Some, None, inl, inr, refl, sym, ap, subst, ◌∙◌}
use Rattle.std.specs.Prelude.{IfSome}
use Rattle.std.specs.List.{AllByRecursion}
use Rattle.tran_ids.proofs.ListedLemmas.{item_is}
use Rattle.commit_forget.specs.declared.next.Next.TheVariants as nexts
use Rattle.agreement.specs.Events.{Event, Sealed, first, exit, forced}
use Rattle.node_rules.specs.Data.{BranchId, Decision, Live, Place, RedoRecord, Stmt, Input}
use Rattle.node_rules.specs.Data.acts
use Rattle.node_rules.specs.Data.inputs
use Rattle.node_rules.specs.Data.records
use Rattle.node_rules.specs.Data.stmts
use Rattle.node_rules.specs.Inputs.{IsCall}
use Rattle.node_rules.specs.NodeState.{NodeState, TurnDraft, live_id}
use Rattle.node_rules.proofs.Steps as steps
use Rattle.node_rules.proofs.Steps.{Step}
use Rattle.run_rules.specs.Births.{Born, births_of}
use Rattle.run_base_laws.specs.BirthLaws.{Began}
use Rattle.run_rules.specs.Commands.{commits_first}
use Rattle.run_rules.specs.Data.{Took, Turn, Happening, Command}
use Rattle.run_rules.specs.Data.happenings
use Rattle.run_rules.specs.Facts.{Facts, first_facts, place_at, facts_after}
use Rattle.run_base_laws.specs.FreezeLaws.{was_asked}
use Rattle.run_base_laws.specs.InTurnLaws.{said_in}
use Rattle.run_rules.specs.Lawful.{Comes, MayHappen, IsLawful, History, IsLawfulRun, facts_at}
use Rattle.run_base_laws.specs.RunEvents.{with_event, wrote_event, events_after, events_from, events_of}
use Rattle.run_rules.specs.Trail.{is_prepare}
use Rattle.run_base_laws.proofs.EventsStandLemmas.{nodes_are_as_events}
use Rattle.run_base_laws.proofs.LaterLemmas.{forced_same, later_forced, turn_added}
use Rattle.run_base_laws.proofs.LawfulLemmas.{serves, of_wrote}
use Rattle.run_base_laws.proofs.OwnLemmas.{all_found}
use Rattle.tree_laws.specs.AskLaws.{HeardAbove}
use Rattle.tree_laws.proofs.ForestLemmas as trees
use Rattle.tree_laws.proofs.ForestRunLemmas.{run_known}
use Rattle.tree_laws.proofs.PrefixLemmas.{f_at, e_at}
use Rattle.tree_laws.proofs.HeardLemmas.{left_were_asked}
use Rattle.tree_laws.proofs.TimeLemmas.{Part, part_of, part_lawful, rest_lawful, born_end, events_join}
use Rattle.run_claims.specs.Undisturbed.{Commit, IsFirstDelivery, IsCreateTurn, IsInCourse, is_create}
use Rattle.commit_spread_laws.proofs.FirstLemmas.{commits_come_first}
use Rattle.commit_spread_laws.specs.BeforeLaws.{NoneSealedBefore, NoneForced}
use Rattle.tree_laws.proofs.MoreLemmas.{inv_at}
use Rattle.tree_laws.proofs.AtPart.{at_part}

module _ (t : History) (whole : IsLawfulRun t) (c : Commit t.places t.commands t.trace) where
  open c use {before as hs, kept as k}
  open at_part t hs use {s, f, said, bs}

  part : Part t whole hs
  part = part_of t whole hs (happenings.Turn c.call) c.during c.is

  lawful : IsLawfulRun s
  lawful = part_lawful t whole hs part

  known : trees.Known bs said
  known = run_known s lawful

  -- ---- the root is live

  me : c.live.me ≡ c.root
  me = item_is live_id k.lives c.root c.live c.there

  root_is_live : exit (e_at t hs) c.root ≡ None
  root_is_live = subst (λ i. exit (e_at t hs) i ≡ None) me (all_found (λ (l : Live). exit (e_at t hs) l.me ≡ None) live_id k.lives c.root c.live (nodes_are_as_events s lawful c.call.node k c.up).0 c.there)

  -- ---- none is sealed, as nobody has asked

  module _ (z : Born) (began : Began (births_of t) z) (of : z.root ≡ c.root) where
    pub not_sealed : (m : ℕ) → exit (e_at t hs) z.me ≢ Some (Sealed m)
    not_sealed m sealed = by above.0.parent refl
      where
        above : HeardAbove is_prepare bs said z.me
        above = left_were_asked s lawful z.me (Sealed m) sealed (λ no. absurd cc)

        same : above.0 ≡ z
        same = trees.same_born (births_of t) (said_in (facts_at t)) (run_known t whole) above.0 z (born_end t whole hs part above.0 above.1) began above.2

        its : above.0.root ≡ c.root
        its = ap (λ (a : Born). a.root) same ∙ of

        by : (o : Option BranchId) → above.0.parent ≡ o → ⊥
        by None top =
            let mine : z.me ≡ c.root = sym above.2 ∙ (sym (trees.stands_so bs said known above.0 None above.1 top).0 ∙ its) in
            let none : exit (e_at t hs) z.me ≡ None = subst (λ i. exit (e_at t hs) i ≡ None) (sym mine) root_is_live in
            absurd (cc (none, sealed))
        by (Some q) up =
            let y = trees.below_of bs said known above.0 q above.1 up in
            let asked : was_asked said y.up.me z.me ≡ true = subst (λ i. was_asked said i z.me ≡ true) (sym y.is_me) (above.3 q up) in
            let none : was_asked said y.up.me z.me ≡ false = commits_come_first t whole c y.up (born_end t whole hs part y.up y.began) (y.is_root ∙ its) z.me in
            absurd (cc (none, asked))

    pub not_forced : forced (e_at t hs) z.me ≡ None
    not_forced = by (forced (e_at t hs) z.me) refl
      where
        by : (o : Option Decision) → forced (e_at t hs) z.me ≡ o → forced (e_at t hs) z.me ≡ None
        by None is = is
        by (Some d) is = (let sealed = (inv_at t whole hs part).forced_sealed z.me d is in absurd (not_sealed sealed.0 sealed.1))

-- ---- who may be forced in a turn

-- a statement forces an outcome
abbrev Forces : Stmt → Type 0
Forces (stmts.CommitForce id given) = Unit {0}
Forces (stmts.RollbackForce id) = Unit {0}
Forces _ = ⊥

abbrev ForcesNone : Input → Type 0
ForcesNone input = (n : ℕ) (s : Stmt) → IsCall input n s → Forces s → ⊥

abbrev IsUnforced : RedoRecord → Type 0
IsUnforced (records.Forced b d given) = ⊥
IsUnforced _ = Unit {0}

module _ (p : Place) (input : Input) (calm : ForcesNone input) where
  unforced_on : {k : NodeState} {d : TurnDraft} → Step p input k d → IfSome d.wrote IsUnforced
  unforced_on (steps.Begins n s read_at call begins range free step) = unforced_on step
  unforced_on (steps.Counts_call n s call counts step) = unforced_on step
  unforced_on (steps.Goes_back x step goes next) = unforced_on next
  unforced_on (steps.Pends n l given call has live code writer step) = unforced_on step
  unforced_on (steps.Lets_reads_go l comment below live begins step) = unforced_on step
  unforced_on (steps.Counts_ack s from kept came counts step) = unforced_on step
  unforced_on (steps.Acts l below acts.Rest why) = tt
  unforced_on (steps.Does s from nexts.Rest kept why) = tt
  unforced_on (steps.Makes_record n s r d call (steps.Sets_recovery on)) = tt
  unforced_on (steps.Forces_given n id m b call named) = absurd (calm n (stmts.CommitForce id (Some m)) call tt)
  unforced_on (steps.Forces_commit n id b call named) = absurd (calm n (stmts.CommitForce id None) call tt)
  unforced_on (steps.Forces_rollback n id b call named) = absurd (calm n (stmts.RollbackForce id) call tt)
  unforced_on (steps.Gives_up_commit n b None gives has calls live) = tt
  unforced_on _ = tt

plain_force : (e : List Event) (b : BranchId) → first (forced e b) None ≡ forced e b
plain_force e b = by (forced e b)
  where
    by : (o : Option Decision) → first o None ≡ o
    by None = refl
    by (Some d) = refl

wrote_force : (n : ℕ) (e : List Event) (b : BranchId) (w : Option RedoRecord) → IfSome w IsUnforced → forced (with_event (wrote_event n w) e) b ≡ forced e b
wrote_force n e b None is = refl
wrote_force n e b (Some (records.Sealed r)) is = plain_force e b
wrote_force n e b (Some (records.Decided r)) is = plain_force e b
wrote_force n e b (Some (records.Ended c d)) is = plain_force e b
wrote_force n e b (Some (records.Met c d mixed)) is = plain_force e b
wrote_force n e b (Some (records.Forgot c)) is = plain_force e b
wrote_force n e b (Some (records.Table table)) is = plain_force e b
wrote_force n e b (Some (records.Forced c d given)) is = absurd is
wrote_force n e b (Some _) is = refl

-- what is delivered is no call
delivery_calm : (f : Facts) (k : NodeState) (node : ℕ) (input : Input) (took : Option Took) → Comes f k node input took → (i : Took) → took ≡ Some i → ForcesNone input
delivery_calm f k node (inputs.Message m) took comes i some n s call forces = absurd (cc (call))
delivery_calm f k node (inputs.Call session statement) (Some j) comes i some n s call forces = absurd comes
delivery_calm f k node (inputs.Call session statement) None comes i some n s call forces = absurd (cc (some))
delivery_calm f k node (inputs.GiveUp session) took comes i some n s call forces = absurd (cc (call))
delivery_calm f k node inputs.Reco took comes i some n s call forces = absurd (cc (call))
delivery_calm f k node inputs.Checkpoint took comes i some n s call forces = absurd (cc (call))

-- nor is a CREATE a statement that forces
creates_none : (s : Stmt) → commits_first s ≡ true → Forces s → ⊥
creates_none (stmts.CommitForce id given) is forces = absurd cc
creates_none (stmts.RollbackForce id) is forces = absurd cc
creates_none _ is forces = absurd forces

create_calm : (input : Input) → is_create input ≡ true → ForcesNone input
create_calm input is n s call forces = creates_none s (sym (ap is_create call) ∙ is) forces

module _ (places : List Place) (asked : List Command) (b : BranchId) where
  turn_forces : (f : Facts) (u : Turn) (e : List Event) → MayHappen places asked f (happenings.Turn u) → ForcesNone u.input → forced (events_after places asked f (happenings.Turn u) e) b ≡ forced e b
  turn_forces f u e may calm =
      let p : Place = place_at places u.node in
      let wrote : IfSome u.wrote IsUnforced = of_wrote p may.0 u (serves places f u may.0 may.1) (λ w. IfSome w IsUnforced) tt (unforced_on p u.input calm (serves places f u may.0 may.1).step) in
      forced_same b (λ x later. later_forced b x later) (turn_added f (facts_after places asked f (happenings.Turn u)) u e) ∙ wrote_force u.node e b u.wrote wrote

  delivered_forces : (f : Facts) (h : Happening) (e : List Event) → MayHappen places asked f h → IsFirstDelivery h → forced (events_after places asked f h e) b ≡ forced e b
  delivered_forces f (happenings.Turn u) e may is = turn_forces f u e may (delivery_calm f may.0 u.node u.input u.took may.1.comes _ is.2)
  delivered_forces f _ e may is = absurd is

  created_forces : (f : Facts) (h : Happening) (e : List Event) → MayHappen places asked f h → IsCreateTurn h → forced (events_after places asked f h e) b ≡ forced e b
  created_forces f (happenings.Turn u) e may is = turn_forces f u e may (create_calm u.input is.1)
  created_forces f _ e may is = absurd is

  deliveries_force : (f : Facts) (hs : List Happening) (e : List Event) → IsLawful places asked f hs → AllByRecursion IsInCourse hs → forced (events_from places asked f hs e) b ≡ forced e b
  unfolding events_from IsLawful
  deliveries_force f [] e may all = refl
  deliveries_force f (h ∷ hs) e may all = deliveries_force (facts_after places asked f h) hs (events_after places asked f h e) may.1 all.1 ∙ elim all.0 [ inl delivery ↦ delivered_forces f h e may.0 delivery | inr create ↦ created_forces f h e may.0 create ]

  -- a COMMIT, deliveries, and a CREATE itself
  commit_forces : (f : Facts) (u : Turn) (hs : List Happening) (e : List Event) (n : ℕ) (comment : Option (List ℕ)) → IsCall u.input n (stmts.Commit comment) → IsLawful places asked f (happenings.Turn u ∷ hs) → AllByRecursion IsInCourse hs
      → forced (events_from places asked f (happenings.Turn u ∷ hs) e) b ≡ forced e b
  unfolding events_from IsLawful
  commit_forces f u hs e n comment asks lawful all =
      deliveries_force (facts_after places asked f (happenings.Turn u)) hs (events_after places asked f (happenings.Turn u) e) lawful.1 all
      ∙ turn_forces f u e lawful.0 (λ m s call forces. (let it : inputs.Call n (Some (stmts.Commit comment)) ≡ inputs.Call m (Some s) = sym asks ∙ call in
      let same : stmts.Commit comment ≡ s = cc in
      absurd (subst Forces (sym same) forces)))

pub none_sealed_before : NoneSealedBefore
none_sealed_before t whole c z began of m = not_sealed t whole c z began of m

pub none_forced : NoneForced
none_forced t whole c u z began of =
    let ends : events_of t ≡ events_from t.places t.commands (f_at t c.before) (happenings.Turn c.call ∷ c.during) (e_at t c.before)
    = ap (λ xs. events_from t.places t.commands (first_facts t.places) xs []) (sym c.is) ∙ events_join t.places t.commands (first_facts t.places) c.before (happenings.Turn c.call ∷ c.during) [] in
    ap (λ e. forced e z.me) ends
    ∙ (commit_forces t.places t.commands z.me (f_at t c.before) c.call c.during (e_at t c.before) c.session c.comment c.asks (rest_lawful t whole c.before (record { rest = happenings.Turn c.call ∷ c.during; is = c.is })) u.course ∙ not_forced t whole c z began of)
