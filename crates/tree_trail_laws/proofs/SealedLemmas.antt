-- Where the happenings tell of live branches what their nodes keep, each branch that is sealed is told to be so.
use Rattle.std.proofs.Common.{◌≡◌, ℕ, ◌⊎◌, List, [], ◌∷◌, ◌++◌, Option, Some, None, inl, inr, refl, sym, subst, ◌∙◌}
use Rattle.std.specs.Prelude.{IfSome}
use Rattle.tran_ids.proofs.ListedLemmas.{item_is}
use Rattle.agreement.specs.Events.{Event, Sealed, exit}
use Rattle.agreement.proofs.EventLemmas.{first_is, only_at_is}
use Rattle.node_rules.specs.Data.{BranchId, RedoRecord, Sealed as SealedRecord}
use Rattle.node_rules.specs.Data.records
use Rattle.node_rules.specs.NodeState.{live_id, live_at}
use Rattle.run_rules.specs.Data.{Turn, Happening}
use Rattle.run_rules.specs.Data.happenings
use Rattle.run_rules.specs.Facts.{first_facts, facts_after}
use Rattle.run_rules.specs.Branches.{seen_at, exit_at}
use Rattle.run_rules.specs.Lawful.{MayHappen, History, IsLawfulRun}
use Rattle.run_base_laws.specs.NodeLaws.{EachFactFrom}
use Rattle.run_base_laws.specs.RunEvents.{with_event, wrote_event, events_after, events_from}
use Rattle.run_rules.specs.Trail.{trail_after}
use Rattle.run_base_laws.proofs.LaterLemmas.{exit_made, turn_added, stop_added}
use Rattle.tree_laws.proofs.PrefixLemmas.{f_at, e_at, more_on}
use Rattle.run_branch_laws.proofs.KeptRowLemmas.{IsSealOf, wrote_seal}
use Rattle.tree_laws.proofs.SealLemmas.{later_unsealed}
use Rattle.book_laws.specs.LeaveLaws.{LeavesOn, LeavesDuly}
use Rattle.book_laws.proofs.LeaveLemmas.{branches_leave_duly}
use Rattle.tree_laws.proofs.TimeLemmas.{Part, may_of, fact_at, keep_on}
use Rattle.tree_trail_laws.proofs.FullLemmas.{Sees, SeesAll}
use Rattle.tree_trail_laws.proofs.MomentLemmas.{tr_at, trail_one_on, at_moment}
use Rattle.tree_trail_laws.proofs.SeenLemmas.{sealed_by_turn, exit_stays}

-- the seal that was written
seal_written : (b : BranchId) (w : Option RedoRecord) → IsSealOf b w → (r : SealedRecord) × (w ≡ Some (records.Sealed r)) × (r.me ≡ b)
seal_written b (Some (records.Sealed r)) me = (r, refl, me)
seal_written b None me = absurd me
seal_written b (Some _) me = absurd me

-- a seal that stands was there, or was written at this SCN
wrote_scn : (n : ℕ) (t : List Event) (w : Option RedoRecord) (b : BranchId) (m : ℕ) → exit (with_event (wrote_event n w) t) b ≡ Some (Sealed m)
    → (exit t b ≡ Some (Sealed m)) ⊎ ((r : SealedRecord) × (w ≡ Some (records.Sealed r)) × (r.me ≡ b) × (r.scn ≡ m))
wrote_scn n t w b m is = elim (wrote_seal n t w b m is) [ inl old ↦ inl old | inr new ↦ by (seal_written b w new) ]
  where
    by : (r : SealedRecord) × (w ≡ Some (records.Sealed r)) × (r.me ≡ b) → (exit t b ≡ Some (Sealed m)) ⊎ ((r : SealedRecord) × (w ≡ Some (records.Sealed r)) × (r.me ≡ b) × (r.scn ≡ m))
    by it =
        let said : exit (with_event (wrote_event n (Some (records.Sealed it.0))) t) b ≡ Some (Sealed m) = subst (λ o. exit (with_event (wrote_event n o) t) b ≡ Some (Sealed m)) it.1 is in
        elim (first_is (exit t b) _ (Sealed m) said) [
          | inl old ↦ inl old
          | inr new ↦ (let at = only_at_is it.0.me b (Sealed it.0.scn) (Sealed m) new.1 in let one : Sealed it.0.scn ≡ Sealed m = at.1 in inr (it.0, it.1, it.2, (let scn : it.0.scn ≡ m = cc in scn)))
        ]

module _ (t : History) (whole : IsLawfulRun t) (sees : SeesAll t) where
  -- each branch that is sealed is told so
  abbrev pub SealsAreTold : List Happening → Type 0
  SealsAreTold hs = (b : BranchId) (m : ℕ) → exit (e_at t hs) b ≡ Some (Sealed m) → exit_at (tr_at t hs) b ≡ Some (Sealed m)

  module _ (hs : List Happening) (h : Happening) (rest : List Happening) (is : hs ++ h ∷ rest ≡ t.trace) where
    saw : Sees (f_at t hs) (tr_at t hs)
    saw = at_moment t (λ places f tr h. Sees f tr) sees hs h rest is

    leaves : LeavesDuly (f_at t hs) h
    leaves = fact_at t.places t.commands LeavesDuly (first_facts t.places) hs h rest (subst (EachFactFrom LeavesDuly t.places t.commands (first_facts t.places)) (sym is) (branches_leave_duly t whole))

  -- the branch of a seal is live, and told so
  seal_turn : (hs : List Happening) (u : Turn) (rest : List Happening) → hs ++ happenings.Turn u ∷ rest ≡ t.trace → (b : BranchId) (r : SealedRecord) → u.wrote ≡ Some (records.Sealed r) → r.me ≡ b
      → exit_at (trail_after t.places (f_at t hs) (tr_at t hs) (happenings.Turn u)) b ≡ Some (Sealed r.scn)
  seal_turn hs u rest is b r wrote me =
      let may : MayHappen t.places t.commands (f_at t hs) (happenings.Turn u) = may_of t whole hs (happenings.Turn u) rest is in
      let on : LeavesOn may.0.lives u.input (records.Sealed r) = subst (λ w. IfSome w (LeavesOn may.0.lives u.input)) wrote (leaves hs (happenings.Turn u) rest is may.0 may.1.up) in
      let its : on.0.me ≡ r.me = item_is live_id may.0.lives r.me on.0 on.1 in
      let found : live_at may.0 on.0.me ≡ Some on.0 = subst (λ c. live_at may.0 c ≡ Some on.0) (sym its) on.1 in
      let seen = (saw hs (happenings.Turn u) rest is).lives u.node may.0 may.1.up on.0 found in
      let at : seen_at (tr_at t hs) b ≡ Some seen.0 = subst (λ c. seen_at (tr_at t hs) c ≡ Some seen.0) (its ∙ me) seen.1 in
      sealed_by_turn t.places (f_at t hs) (tr_at t hs) u b seen.0 r at seen.2.told.live wrote me

  seals_after : (hs : List Happening) (h : Happening) (rest : List Happening) → hs ++ h ∷ rest ≡ t.trace → SealsAreTold hs → (b : BranchId) (m : ℕ)
      → exit (events_after t.places t.commands (f_at t hs) h (e_at t hs)) b ≡ Some (Sealed m) → exit_at (trail_after t.places (f_at t hs) (tr_at t hs) h) b ≡ Some (Sealed m)
  seals_after hs (happenings.Turn u) rest is now b m sealed =
      elim (exit_made b (Sealed m) (turn_added (f_at t hs) (facts_after t.places t.commands (f_at t hs) (happenings.Turn u)) u (e_at t hs)) sealed) [
        | inl there ↦ elim (wrote_scn u.node (e_at t hs) u.wrote b m there) [
          | inl old ↦ exit_stays t.places (f_at t hs) (tr_at t hs) (happenings.Turn u) b (Sealed m) (now b m old)
          | inr new ↦ subst (λ n. exit_at (trail_after t.places (f_at t hs) (tr_at t hs) (happenings.Turn u)) b ≡ Some (Sealed n)) new.3 (seal_turn hs u rest is b new.0 new.1 new.2)
        ]
        | inr later ↦ absurd (later_unsealed b m later.0 later.1 later.2)
      ]
  seals_after hs (happenings.Stopped n) rest is now b m sealed =
      elim (exit_made b (Sealed m) (stop_added (f_at t hs) (facts_after t.places t.commands (f_at t hs) (happenings.Stopped n)) n (e_at t hs)) sealed) [
        | inl old ↦ exit_stays t.places (f_at t hs) (tr_at t hs) (happenings.Stopped n) b (Sealed m) (now b m old)
        | inr later ↦ absurd (later_unsealed b m later.0 later.1 later.2)
      ]
  seals_after hs (happenings.Started n boot) rest is now b m sealed = exit_stays t.places (f_at t hs) (tr_at t hs) (happenings.Started n boot) b (Sealed m) (now b m sealed)
  seals_after hs (happenings.Begun c) rest is now b m sealed = exit_stays t.places (f_at t hs) (tr_at t hs) (happenings.Begun c) b (Sealed m) (now b m sealed)
  seals_after hs (happenings.Cut x y) rest is now b m sealed = exit_stays t.places (f_at t hs) (tr_at t hs) (happenings.Cut x y) b (Sealed m) (now b m sealed)
  seals_after hs (happenings.Join x y) rest is now b m sealed = exit_stays t.places (f_at t hs) (tr_at t hs) (happenings.Join x y) b (Sealed m) (now b m sealed)
  seals_after hs (happenings.Lost k) rest is now b m sealed = exit_stays t.places (f_at t hs) (tr_at t hs) (happenings.Lost k) b (Sealed m) (now b m sealed)

  seals_on : (hs : List Happening) (h : Happening) (rest : List Happening) → hs ++ h ∷ rest ≡ t.trace → SealsAreTold hs → SealsAreTold (hs ++ h ∷ [])
  seals_on hs h rest is now b m sealed =
      subst (λ tr. exit_at tr b ≡ Some (Sealed m)) (sym (trail_one_on t hs h)) (seals_after hs h rest is now b m (subst (λ e. exit e b ≡ Some (Sealed m)) (more_on t hs h) sealed))

  seals_first : SealsAreTold []
  unfolding events_from
  seals_first b m sealed = absurd cc

  pub seals_are_told : (hs : List Happening) → Part t whole hs → SealsAreTold hs
  seals_are_told hs part = keep_on t whole SealsAreTold seals_on [] hs part seals_first
