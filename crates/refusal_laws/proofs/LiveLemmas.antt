-- Where a turn comes to a node, a branch of that node that is live by the branch history is live there; and what it has changed by the
-- branch history it holds, as a live branch.
use Rattle.std.proofs.Common.{◌≡◌, ℕ, ◌&&◌, Bool, true, false, if◌then◌else◌, List, ◌∷◌, ◌++◌, find, option_map, Option, Some, None, inl, inr, sym, ap, subst, ◌∙◌, refl}
use Rattle.std.specs.List.{list_any}
use Rattle.std.proofs.lemmas.Bool.{and_parts}
use Rattle.tran_ids.proofs.ListedLemmas.{item_is}
use Rattle.tran_ids.proofs.BranchLemmas.{equal_from_same}
use Rattle.agreement.specs.Events.{Exit, exit}
use Rattle.row_locks.specs.Back.{is_changed_in}
use Rattle.row_locks.specs.Held.{hold_on, live_one}
use Rattle.row_locks.specs.Locks.{Lock, another, is_lock_on, named}
use Rattle.node_rules.specs.Data.{Value, BranchId, Live}
use Rattle.node_rules.specs.Words.{same, is_item_of}
use Rattle.node_rules.specs.NodeState.{NodeState, live_at, live_id}
use Rattle.node_rules.specs.Prepare.{own_changes}
use Rattle.run_rules.specs.Births.{births_of, born_at}
use Rattle.run_rules.specs.Branches.{Seen, seen_at, seen_id, own_at, own_of, is_among}
use Rattle.run_rules.specs.Data.{Happening, Turn}
use Rattle.run_rules.specs.Data.happenings
use Rattle.run_rules.specs.Facts.{node_at}
use Rattle.run_rules.specs.Lawful.{History, IsLawfulRun, NothingComesFirst}
use Rattle.run_base_laws.specs.RunEvents.{lives_at, events_of}
use Rattle.run_base_laws.proofs.BirthRunLemmas.{born_are_live_or_left}
use Rattle.run_base_laws.proofs.OwnLemmas.{all_found}
use Rattle.run_key_laws.specs.KeyLaws.{passes, is_held, is_written_by, KeysHeld}
use Rattle.run_key_laws.proofs.KeyRunLemmas.{AllStands, run_all, apart_so}
use Rattle.node_undo_laws.proofs.KeyStepLemmas.{Apart}
use Rattle.tree_laws.proofs.FateLemmas.{among_found}
use Rattle.tree_laws.proofs.PrefixLemmas.{so_far, f_at, e_at}
use Rattle.tree_laws.proofs.TimeLemmas.{Part, part_lawful, part_of, may_of}
use Rattle.tree_trail_laws.specs.SeenLaws.{TracesOwns}
use Rattle.tree_trail_laws.specs.SeenLaws as seen
use Rattle.tree_trail_laws.proofs.FullLemmas.{full}
use Rattle.tree_trail_laws.proofs.LeftLemmas.{IsToldLeft, left_are_told}
use Rattle.tree_trail_laws.proofs.MomentLemmas.{tr_at, at_moment, by_moment}
use Rattle.tree_trail_laws.proofs.SeenRunLemmas.{all_is_seen}
use Rattle.tree_trail_laws.proofs.TopBackLemmas.{Back}
use Rattle.tree_trail_laws.proofs.TopBirthLemmas.{IsBorn}
use Rattle.tree_trail_laws.proofs.TopFollowLemmas.{tops_at}
use Rattle.tree_trail_laws.proofs.TopTurnLemmas.{Tops}
use Rattle.refusal_laws.specs.Holders.{is_of_branch, is_of_doubt}
use Rattle.refusal_laws.proofs.DoubtLemmas.{found_so, change_held, one_passes}
use Rattle.refusal_laws.proofs.LockLemmas.{locks_are_of_branches}

module _ (t : History) (whole : IsLawfulRun t) (hs : List Happening) (u : Turn) (rest : List Happening) (is : hs ++ happenings.Turn u ∷ rest ≡ t.trace) where
  part : Part t whole hs
  part = part_of t whole hs (happenings.Turn u) rest is

  abbrev k : NodeState
  k = (may_of t whole hs (happenings.Turn u) rest is).0

  settled : NothingComesFirst (f_at t hs)
  settled = (may_of t whole hs (happenings.Turn u) rest is).1.settled

  up : node_at (f_at t hs) u.node ≡ Some k
  up = (may_of t whole hs (happenings.Turn u) rest is).1.up

  abbrev now : IsLawfulRun (so_far t hs)
  now = part_lawful t whole hs part

  tops : Tops t whole hs
  tops = (tops_at t whole (by_moment t (λ places f tr h. TracesOwns f tr) (λ xs h more at. (at_moment t (λ places f tr x. seen.Sees f tr) (all_is_seen t whole) xs h more at).owns)) hs part).1

  -- a branch that is live by the branch history is live at its node
  pub live_back : (b : BranchId) → b.node ≡ u.node → (s : Seen) → seen_at (tr_at t hs) b ≡ Some s → s.exit ≡ None → live_at k b ≡ None → ⊥
  live_back b here s at live gone = by s.parent refl
    where
      me : s.me ≡ b
      me = item_is seen_id (tr_at t hs).seen b s at

      up_there : node_at (f_at t hs) b.node ≡ Some k
      up_there = ap (node_at (f_at t hs)) here ∙ up

      by : (o : Option BranchId) → s.parent ≡ o → ⊥
      by None top = elim (all_found (Back (f_at t hs)) seen_id (tr_at t hs).seen b s tops.back at live top) [
        | inl it ↦ (let same_node : Some it.0 ≡ Some k = sym it.2 ∙ (ap (λ m. node_at (f_at t hs) m.node) me ∙ up_there) in
            let one : it.0 ≡ k = cc in
            let there : live_at k b ≡ Some it.1 = subst (λ j. live_at j b ≡ Some it.1) one (subst (λ m. live_at it.0 m ≡ Some it.1) me it.3) in cc (there, gone))
        | inr it ↦ (let down : node_at (f_at t hs) b.node ≡ None = subst (λ m. node_at (f_at t hs) m.node ≡ None) me it.1 in cc (down, up_there))
      ]
      by (Some q) below =
          let its = all_found (λ (y : Seen). IsBorn t whole hs y.me) seen_id (tr_at t hs).seen b s tops.born at in
          elim (born_are_live_or_left (so_far t hs) now b (λ unborn. (let born = subst (λ m. born_at (births_of (so_far t hs)) m ≡ Some its.0) (its.2 ∙ me) its.1 in cc (born, unborn)))) [
            | inl left ↦ has_exit (exit (e_at t hs) b) refl left
            | inr among ↦ (let l = among_found k.lives b (subst (λ o. is_among b (lives_at o) ≡ true) up_there among) in let there : live_at k b ≡ Some l.0 = l.1 in cc (there, gone))
          ]
        where
          has_exit : (o : Option Exit) → exit (e_at t hs) b ≡ o → (exit (e_at t hs) b ≡ None → ⊥) → ⊥
          has_exit None none some = some none
          has_exit (Some x) out some =
              let it : IsToldLeft (births_of (so_far t hs)) (f_at t hs) (tr_at t hs) b = left_are_told t whole (full t whole (all_is_seen t whole)) hs part b x out in
              let one : it.seen ≡ s = (let two : Some it.seen ≡ Some s = sym it.at ∙ at in cc) in
              let parent : it.born.parent ≡ Some q = sym it.parent ∙ (ap (λ (y : Seen). y.parent) one ∙ below) in
              elim (it.left (λ none. absurd (cc (parent, none)))) [
                | inl exits ↦ (let gone_then : s.exit ≡ Some exits.0 = subst (λ (y : Seen). y.exit ≡ Some exits.0) one exits.1 in cc (gone_then, live))
                | inr stops ↦ (let upright = settled.upright in cc (upright, stops))
              ]

  -- so it is one of those that are live there
  there : (b : BranchId) → b.node ≡ u.node → (s : Seen) → seen_at (tr_at t hs) b ≡ Some s → s.exit ≡ None → (l : Live) × (live_at k b ≡ Some l)
  there b here s at live = by (live_at k b) refl
    where
      by : (o : Option Live) → live_at k b ≡ o → (l : Live) × (live_at k b ≡ Some l)
      by (Some l) found = (l, found)
      by None gone = absurd (live_back b here s at live gone)

  all : AllStands t.places t.commands t.of_a_script.each (f_at t hs) (events_of (so_far t hs))
  all = run_all (so_far t hs) now

  apart : Apart k
  apart = apart_so t.places t.commands t.of_a_script.each (f_at t hs) (events_of (so_far t hs)) all.stand all.doubts all.tables all.keys u.node k up

  -- its locks are not in doubt
  not_doubted : (b : BranchId) (l : Live) → live_at k b ≡ Some l → (lock : Lock) → lock.branch ≡ b → is_of_branch k.lives k.stored.doubts lock ≡ true → lock.in_doubt ≡ false
  not_doubted b l live lock own its = by lock.in_doubt refl
    where
      by : (q : Bool) → lock.in_doubt ≡ q → q ≡ false
      by false was = refl
      by true was =
          let of_doubt : is_of_doubt k.stored.doubts lock ≡ true = ap (λ q. if q then is_of_doubt k.stored.doubts lock else list_any (is_item_of live_id lock.branch) k.lives) (sym was) ∙ its in
          let d = one_passes (λ e. same e.branch lock.branch && is_changed_in e.changes lock.table lock.key) (λ e. live_at k e.branch ≡ None) k.stored.doubts apart.doubts of_doubt in
          let one : d.0.branch ≡ b = equal_from_same d.0.branch lock.branch (and_parts (same d.0.branch lock.branch) (is_changed_in d.0.changes lock.table lock.key) d.2).0 ∙ own in
          let gone : live_at k b ≡ None = subst (λ c. live_at k c ≡ None) one d.1 in
          absurd (cc (gone, live))

  -- what it has changed it holds, as a live branch
  pub holds_changed : (held : KeysHeld k.locks k.owns k.stored.doubts) (b : BranchId) → b.node ≡ u.node → (s : Seen) → seen_at (tr_at t hs) b ≡ Some s → s.exit ≡ None → (me : BranchId) → same b me ≡ false
      → (table : List ℕ) (key : Value) → is_changed_in (own_of (Some s)) table key ≡ true → hold_on k.locks me table key ≡ Some b
  holds_changed held b here s at live me other table key changed = by (find (is_lock_on table key) k.locks) refl written
    where
      l : (l : Live) × (live_at k b ≡ Some l)
      l = there b here s at live

      own : own_at (tr_at t hs) b ≡ own_changes k b
      own =
          let owns = (at_moment t (λ places f tr x. seen.Sees f tr) (all_is_seen t whole) hs (happenings.Turn u) rest is).owns in
          let its : l.0.me ≡ b = item_is live_id k.lives b l.0 l.1 in
          subst (λ c. own_at (tr_at t hs) c ≡ own_changes k c) its (owns u.node k up l.0 (subst (λ c. live_at k c ≡ Some l.0) (sym its) l.1))

      written : is_held (is_written_by b) k.locks table key ≡ true
      written = change_held (is_written_by b) k.locks table key (own_changes k b) (held.own b) (ap (λ cs. is_changed_in cs table key) (sym own ∙ ap own_of at) ∙ changed)

      by : (o : Option Lock) → find (is_lock_on table key) k.locks ≡ o → passes (is_written_by b) o ≡ true → live_one (another me (option_map named o)) ≡ Some b
      by None found passing = absurd cc
      by (Some x) found passing =
          let its : x.branch ≡ b = equal_from_same x.branch b (and_parts (same x.branch b) x.writes passing).0 in
          let whose : is_of_branch k.lives k.stored.doubts x ≡ true = found_so (λ y. is_of_branch k.lives k.stored.doubts y ≡ true) (is_lock_on table key) k.locks x (locks_are_of_branches (so_far t hs) now u.node k up) found in
          let sure : x.in_doubt ≡ false = not_doubted b l.0 l.1 x its whose in
          let apart_me : same x.branch me ≡ false = ap (λ c. same c me) its ∙ other in
          ap (λ q. live_one (if q then None else Some (x.branch, x.in_doubt))) apart_me ∙ (ap (λ q. if q then None else Some x.branch) sure ∙ ap Some its)
