-- In every lawful run a live branch below a root is told to have begun, with its parent and its children as its node keeps them.
use Rattle.std.proofs.Common.{◌≡◌, ℕ, ◌≤◌, ◌⊎◌, Bool, true, false, if◌then◌else◌, List, [], ◌∷◌, ◌++◌, Some, None, inl, inr, refl, sym, ap, subst, ◌∙◌, append-nil, unwrap_or}
use Rattle.std.specs.List.{AllByRecursion}
use Rattle.node_rules.specs.Data.{BranchId, Live}
use Rattle.node_rules.specs.Words.{numbered, set_numbered}
use Rattle.tran_ids.proofs.NumberedLemmas.{set_or_before}
use Rattle.node_rules.specs.NodeState.{NodeState, live_at}
use Rattle.node_rules.specs.Turn.{start_of}
use Rattle.run_rules.specs.Births.{Born, births_of}
use Rattle.run_base_laws.specs.BirthLaws.{Began}
use Rattle.run_rules.specs.Branches.{Dropped, Seen, Trail, seen_id, is_live_at}
use Rattle.run_rules.specs.Data.{Happening}
use Rattle.run_rules.specs.Data.happenings
use Rattle.run_rules.specs.Facts.{Facts, flat, node_at, with_boot, facts_after, facts_of, place_at}
use Rattle.run_rules.specs.Lawful.{History, IsLawfulRun}
use Rattle.run_rules.specs.Trail.{trail_of, stopped_by, trail_after}
use Rattle.run_rules.proofs.ListLemmas.{all_weaker, all_map}
use Rattle.tree_laws.proofs.PrefixLemmas.{so_far, f_at, one_on}
use Rattle.tree_laws.proofs.TimeLemmas.{Part, part_on, part_lawful, born_end, keep_on}
use Rattle.tree_trail_laws.specs.ChildLaws.{IsTracedOf, ChildrenAreTraced}
use Rattle.tree_trail_laws.proofs.MomentLemmas.{tr_at, trail_one_on}
use Rattle.tree_trail_laws.proofs.SeenLemmas.{item_mapped}
use Rattle.tree_trail_laws.proofs.ChildTurnLemmas.{IsKnown, TracesLower, Tells, turn_tells}
use Rattle.tree_trail_laws.proofs.StartLemmas.{started_none, none_made}

module _ (t : History) (whole : IsLawfulRun t) where
  -- ---- other happenings

  module _ (hs : List Happening) (h : Happening) (rest : List Happening) (is : hs ++ h ∷ rest ≡ t.trace) (now : Tells t whole hs) where
    more_known : (s : Seen) → IsKnown t whole hs s → IsKnown t whole (hs ++ h ∷ []) s
    more_known s (inl low) = inl low
    more_known s (inr born) =
        inr (born.0, born_end (so_far t (hs ++ h ∷ [])) (part_lawful t whole (hs ++ h ∷ []) (part_on t whole hs h rest is)) hs (record { rest = h ∷ []; is = refl }) born.0 born.1, born.2)

    -- the branches that are told stay so, and those that are live were
    pub same_reports : (g : Facts) (tr : Trail) → facts_after t.places t.commands (f_at t hs) h ≡ g → trail_after t.places (f_at t hs) (tr_at t hs) h ≡ tr → ((l : Live) → IsTracedOf t.places (tr_at t hs) l → IsTracedOf t.places tr l)
        → ((n : ℕ) (j : NodeState) → node_at g n ≡ Some j → (l : Live) → live_at j l.me ≡ Some l → node_at (f_at t hs) n ≡ Some j) → AllByRecursion (IsKnown t whole (hs ++ h ∷ [])) tr.seen → Tells t whole (hs ++ h ∷ [])
    same_reports g tr facts trail told still known = record {
      lower = subst (λ f. TracesLower t whole f (tr_at t (hs ++ h ∷ []))) (sym (one_on t hs h ∙ facts))
          (subst (TracesLower t whole g) (sym (trail_one_on t hs h ∙ trail)) (λ n j up l live below. told l (now.lower n j (still n j up l live) l live below)));
      known = subst (λ x. AllByRecursion (IsKnown t whole (hs ++ h ∷ [])) x.seen) (sym (trail_one_on t hs h ∙ trail)) known;
    }

  stopped_same : (n : ℕ) (s : Seen) → ((stopped_by n s).me ≡ s.me) × ((stopped_by n s).parent ≡ s.parent) × ((stopped_by n s).children ≡ s.children) × ((stopped_by n s).read_at ≡ s.read_at) × ((stopped_by n s).strength ≡ s.strength)
  stopped_same n s = by (is_live_at n s)
    where
      by : (q : Bool) → ((if q then record s { exit = Some Dropped } else s).me ≡ s.me) × ((if q then record s { exit = Some Dropped } else s).parent ≡ s.parent) × ((if q then record s { exit = Some Dropped } else s).children ≡ s.children)
          × ((if q then record s { exit = Some Dropped } else s).read_at ≡ s.read_at) × ((if q then record s { exit = Some Dropped } else s).strength ≡ s.strength)
      by true = (refl, refl, refl, refl, refl)
      by false = (refl, refl, refl, refl, refl)

  tells_on : (hs : List Happening) (h : Happening) (rest : List Happening) → hs ++ h ∷ rest ≡ t.trace → Tells t whole hs → Tells t whole (hs ++ h ∷ [])
  unfolding facts_after trail_after start_of
  tells_on hs (happenings.Turn u) rest is now = turn_tells t whole hs u rest is now
  tells_on hs (happenings.Stopped n) rest is now =
      same_reports hs (happenings.Stopped n) rest is now _ _ refl refl
      (λ l told. (
        stopped_by n told.0,
        item_mapped seen_id (stopped_by n) (λ s. (stopped_same n s).0) (tr_at t hs).seen l.me told.0 told.1,
        (stopped_same n told.0).1 ∙ told.2,
        (stopped_same n told.0).2 ∙ told.3,
        (stopped_same n told.0).3 ∙ told.4,
        ap (λ o. unwrap_or o (place_at t.places l.me.node).strength) (stopped_same n told.0).4 ∙ told.5,
      ))
      (λ m j up l live. elim (set_or_before (f_at t hs).nodes n m None) [
        | inl before ↦ sym (ap flat before) ∙ up
        | inr gone ↦ (let none : flat (numbered (set_numbered (f_at t hs).nodes n None) m) ≡ None = ap flat gone.1 in absurd (cc (none, up)))
      ])
      (all_map (IsKnown t whole (hs ++ happenings.Stopped n ∷ [])) (stopped_by n) (tr_at t hs).seen
      (all_weaker (IsKnown t whole hs) _ (λ s known. subst (λ (b : BranchId). (b.session ≤ 64) ⊎ ((x : Born) × Began (births_of (so_far t (hs ++ happenings.Stopped n ∷ []))) x × (x.me ≡ b))) (sym (stopped_same n s).0)
      (more_known hs (happenings.Stopped n) rest is now s known)) (tr_at t hs).seen now.known))
  tells_on hs (happenings.Started n boot) rest is now =
      same_reports hs (happenings.Started n boot) rest is now _ _ refl refl (λ l told. told)
      (λ m j up l live. elim (set_or_before (f_at t hs).nodes n m (Some (start_of (with_boot (f_at t hs) n boot)))) [
        | inl before ↦ sym (ap flat before) ∙ up
        | inr new ↦ absurd (started_none (f_at t hs) n boot m j l new.1 up live)
      ])
      (all_weaker (IsKnown t whole hs) _ (more_known hs (happenings.Started n boot) rest is now) (tr_at t hs).seen now.known)
  tells_on hs (happenings.Begun c) rest is now =
      same_reports hs (happenings.Begun c) rest is now _ _ refl refl (λ l told. told) (λ m j up l live. up) (all_weaker (IsKnown t whole hs) _ (more_known hs (happenings.Begun c) rest is now) (tr_at t hs).seen now.known)
  tells_on hs (happenings.Cut x y) rest is now =
      same_reports hs (happenings.Cut x y) rest is now _ _ refl refl (λ l told. told) (λ m j up l live. up) (all_weaker (IsKnown t whole hs) _ (more_known hs (happenings.Cut x y) rest is now) (tr_at t hs).seen now.known)
  tells_on hs (happenings.Join x y) rest is now =
      same_reports hs (happenings.Join x y) rest is now _ _ refl refl (λ l told. told) (λ m j up l live. up) (all_weaker (IsKnown t whole hs) _ (more_known hs (happenings.Join x y) rest is now) (tr_at t hs).seen now.known)
  tells_on hs (happenings.Lost x) rest is now =
      same_reports hs (happenings.Lost x) rest is now _ _ refl refl (λ l told. told) (λ m j up l live. up) (all_weaker (IsKnown t whole hs) _ (more_known hs (happenings.Lost x) rest is now) (tr_at t hs).seen now.known)

  -- a node that was made keeps no live branch
  first_tells : Tells t whole []
  unfolding start_of facts_of trail_of
  first_tells = record { lower = λ n k up l live below. absurd (none_made t.places n k l up live); known = tt }

  pub tells_at : (hs : List Happening) → Part t whole hs → Tells t whole hs
  tells_at hs part = keep_on t whole (Tells t whole) tells_on [] hs part first_tells

pub children_are_traced : ChildrenAreTraced
children_are_traced t lawful n k up l live below = (tells_at t lawful t.trace (record { rest = []; is = append-nil t.trace })).lower n k up l live below
