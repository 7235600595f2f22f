-- In every lawful run what is told of a live branch below a root is what its node keeps of it.
use Rattle.std.proofs.Common.{◌≡◌, ◌≢◌, ℕ, ◌==◌, Bool, true, false, if◌then◌else◌, List, [], ◌∷◌, ◌++◌, Option, Some, None, inl, inr, refl, sym, ap, subst, ◌∙◌, append-nil}
use Rattle.std.proofs.lemmas.Bool.{and_left, ne_eqb}
use Rattle.tran_ids.proofs.ListedLemmas.{item_is}
use Rattle.tran_ids.proofs.NumberedLemmas.{set_or_before, set_found}
use Rattle.node_rules.specs.Data.{BranchId, Live}
use Rattle.node_rules.specs.Words.{numbered, set_numbered}
use Rattle.node_rules.specs.NodeState.{NodeState, live_id, live_at}
use Rattle.node_rules.specs.Turn.{start_of}
use Rattle.run_rules.specs.Branches.{Dropped, Seen, Trail, seen_id, seen_at, is_live, is_live_at}
use Rattle.run_rules.specs.Data.{Happening}
use Rattle.run_rules.specs.Data.happenings
use Rattle.run_rules.specs.Facts.{Facts, flat, node_at, with_boot, facts_after, facts_of}
use Rattle.run_rules.specs.Lawful.{History, IsLawfulRun}
use Rattle.run_rules.specs.Trail.{stopped_by, trail_after}
use Rattle.run_rules.proofs.AtNodeLemmas.{flat_some}
use Rattle.run_base_laws.proofs.EventsStandLemmas.{ids_name_their_node}
use Rattle.run_base_laws.proofs.OwnLemmas.{all_found}
use Rattle.tree_laws.proofs.PrefixLemmas.{so_far, f_at, one_on}
use Rattle.tree_laws.proofs.TimeLemmas.{Part, part_lawful, keep_on}
use Rattle.tree_trail_laws.specs.LowerLaws.{IsTracedLive, LowerAreTraced}
use Rattle.tree_trail_laws.proofs.MomentLemmas.{tr_at, trail_one_on}
use Rattle.tree_trail_laws.proofs.SeenLemmas.{item_mapped}
use Rattle.tree_trail_laws.proofs.LowerLivesLemmas.{TellsLives, Lower, turn_lower}
use Rattle.tree_trail_laws.proofs.StartLemmas.{started_none, none_made}

module _ (t : History) (whole : IsLawfulRun t) where
  -- ---- other happenings

  module _ (hs : List Happening) (h : Happening) (now : Lower t whole hs) where
    -- the nodes that are up were so, and what is told of their branches is so
    pub same_lower : (g : Facts) (tr : Trail) → facts_after t.places t.commands (f_at t hs) h ≡ g → trail_after t.places (f_at t hs) (tr_at t hs) h ≡ tr
        → ((n : ℕ) (j : NodeState) → node_at g n ≡ Some j → (l : Live) → live_at j l.me ≡ Some l → node_at (f_at t hs) n ≡ Some j)
        → ((n : ℕ) (j : NodeState) → node_at g n ≡ Some j → (l : Live) → live_at j l.me ≡ Some l → (s : Seen) → seen_at (tr_at t hs) l.me ≡ Some s → IsTracedLive l s → (s : Seen) × (seen_at tr l.me ≡ Some s) × IsTracedLive l s)
        → Lower t whole (hs ++ h ∷ [])
    same_lower g tr facts trail still told =
        subst (λ f. TellsLives t whole f (tr_at t (hs ++ h ∷ []))) (sym (one_on t hs h ∙ facts))
        (subst (TellsLives t whole g) (sym (trail_one_on t hs h ∙ trail)) (λ n j up l live below. (let it = now n j (still n j up l live) l live below in told n j up l live it.0 it.1 it.2)))

  -- a stop leaves the branches of other nodes
  pub stopped_other : (n : ℕ) (s : Seen) → s.me.node ≢ n → stopped_by n s ≡ s
  stopped_other n s other = ap (λ q. if q then record s { exit = Some Dropped } else s) (and_left (s.me.node == n) (is_live s) (ne_eqb s.me.node n other))

  stop_keeps_me : (n : ℕ) (s : Seen) → (stopped_by n s).me ≡ s.me
  stop_keeps_me n s = by (is_live_at n s)
    where
      by : (q : Bool) → (if q then record s { exit = Some Dropped } else s).me ≡ s.me
      by true = refl
      by false = refl

  pub not_stopped : (nodes : List (Option NodeState)) (n : ℕ) (j : NodeState) → flat (numbered (set_numbered nodes n None) n) ≡ Some j → ⊥
  not_stopped nodes n j up = elim (set_or_before nodes n n None) [
    | inl before ↦ (let there : numbered nodes n ≡ Some (Some j) = flat_some (numbered nodes n) j (sym (ap flat before) ∙ up) in
        let none : flat (numbered (set_numbered nodes n None) n) ≡ None = ap flat (set_found nodes n (Some j) None there) in
        absurd (cc (none, up)))
    | inr gone ↦ (let none : flat (numbered (set_numbered nodes n None) n) ≡ None = ap flat gone.1 in absurd (cc (none, up)))
  ]

  pub stop_still : (f : Facts) (n m : ℕ) (j : NodeState) → flat (numbered (set_numbered f.nodes n None) m) ≡ Some j → node_at f m ≡ Some j
  stop_still f n m j up = elim (set_or_before f.nodes n m None) [
    | inl before ↦ sym (ap flat before) ∙ up
    | inr gone ↦ (let none : flat (numbered (set_numbered f.nodes n None) m) ≡ None = ap flat gone.1 in absurd (cc (none, up)))
  ]

  lower_on : (hs : List Happening) (h : Happening) (rest : List Happening) → hs ++ h ∷ rest ≡ t.trace → Lower t whole hs → Lower t whole (hs ++ h ∷ [])
  unfolding facts_after trail_after start_of
  lower_on hs (happenings.Turn u) rest is now = turn_lower t whole hs u rest is now
  lower_on hs (happenings.Stopped n) rest is now =
      same_lower hs (happenings.Stopped n) now _ _ refl refl (λ m j up l live. stop_still (f_at t hs) n m j up)
      (λ m j up l live s at was. (let own : l.me.node ≡ m = all_found (λ l. l.me.node ≡ m) live_id j.lives l.me l
      (ids_name_their_node (so_far t hs) (part_lawful t whole hs (record { rest = happenings.Stopped n ∷ rest; is = is })) m j (stop_still (f_at t hs) n m j up)).lives live in
      let me : s.me ≡ l.me = item_is seen_id (tr_at t hs).seen l.me s at in
      let other : s.me.node ≢ n = (λ same. not_stopped (f_at t hs).nodes n j (subst (λ i. flat (numbered (set_numbered (f_at t hs).nodes n None) i) ≡ Some j) (sym own ∙ (sym (ap (λ (b : BranchId). b.node) me) ∙ same)) up)) in
      (s, item_mapped seen_id (stopped_by n) (stop_keeps_me n) (tr_at t hs).seen l.me s at ∙ ap Some (stopped_other n s other), was)))
  lower_on hs (happenings.Started n boot) rest is now =
      same_lower hs (happenings.Started n boot) now _ _ refl refl
      (λ m j up l live. elim (set_or_before (f_at t hs).nodes n m (Some (start_of (with_boot (f_at t hs) n boot)))) [
        | inl before ↦ sym (ap flat before) ∙ up
        | inr new ↦ absurd (started_none (f_at t hs) n boot m j l new.1 up live)
      ])
      (λ m j up l live s at was. (s, at, was))
  lower_on hs (happenings.Begun c) rest is now = same_lower hs (happenings.Begun c) now _ _ refl refl (λ m j up l live. up) (λ m j up l live s at was. (s, at, was))
  lower_on hs (happenings.Cut x y) rest is now = same_lower hs (happenings.Cut x y) now _ _ refl refl (λ m j up l live. up) (λ m j up l live s at was. (s, at, was))
  lower_on hs (happenings.Join x y) rest is now = same_lower hs (happenings.Join x y) now _ _ refl refl (λ m j up l live. up) (λ m j up l live s at was. (s, at, was))
  lower_on hs (happenings.Lost x) rest is now = same_lower hs (happenings.Lost x) now _ _ refl refl (λ m j up l live. up) (λ m j up l live s at was. (s, at, was))

  -- a node that was made keeps no live branch
  first_lower : Lower t whole []
  unfolding start_of facts_of
  first_lower n k up l live below = absurd (none_made t.places n k l up live)

  pub lower_at : (hs : List Happening) → Part t whole hs → Lower t whole hs
  lower_at hs part = keep_on t whole (Lower t whole) lower_on [] hs part first_lower

pub lower_are_traced : LowerAreTraced
lower_are_traced t lawful n k up l live below = lower_at t lawful t.trace (record { rest = []; is = append-nil t.trace }) n k up l live below
