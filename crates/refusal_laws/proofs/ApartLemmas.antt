-- In every lawful run two live branches of a node never have changed one key: each would hold it.
use Rattle.std.proofs.Common.{◌≡◌, ℕ, ◌==◌, Bool, true, false, List, ◌∷◌, ◌++◌, Some, refl, sym, ap, ◌∙◌}
use Rattle.std.proofs.lemmas.Bool.{and_parts, eqb-true}
use Rattle.tran_ids.proofs.BranchLemmas.{equal_from_same}
use Rattle.row_locks.specs.Locks.{Lock}
use Rattle.row_locks.specs.Held.{hold_on}
use Rattle.node_rules.specs.Data.{BranchId, Value}
use Rattle.node_rules.specs.Words.{same}
use Rattle.node_rules.specs.NodeState.{NodeState}
use Rattle.run_rules.specs.Branches.{Seen, is_live}
use Rattle.run_rules.specs.Data.{Happening, Turn}
use Rattle.run_rules.specs.Data.happenings
use Rattle.run_rules.specs.Lawful.{History, IsLawfulRun}
use Rattle.run_key_laws.proofs.KeyRunLemmas.{keys_are_held}
use Rattle.tree_laws.proofs.PrefixLemmas.{so_far, f_at}
use Rattle.tree_laws.proofs.TimeLemmas.{may_of, part_lawful, part_of}
use Rattle.tree_trail_laws.proofs.MomentLemmas.{tr_at, by_moment}
use Rattle.refusal_laws.specs.ApartLaws.{ChangeApart, HasChanged, LivesChangeApart}
use Rattle.refusal_laws.proofs.AcceptedLemmas.{no_exit}
use Rattle.refusal_laws.proofs.LiveLemmas.{holds_changed}
use Rattle.refusal_laws.proofs.RefusedLemmas.{held_lock}

-- two that hold one key are one
one_holds : (locks : List Lock) (a b : BranchId) (table : List ℕ) (key : Value) → hold_on locks b table key ≡ Some a → hold_on locks a table key ≡ Some b → a ≡ b
one_holds locks a b table key first second =
    let one = held_lock locks b table key a first in
    let two = held_lock locks a table key b second in
    let both : Some one.0 ≡ Some two.0 = sym one.1 ∙ two.1 in
    let lock : one.0 ≡ two.0 = cc in
    sym one.2 ∙ (ap (λ (l : Lock). l.branch) lock ∙ two.2)

module _ (t : History) (whole : IsLawfulRun t) (hs : List Happening) (u : Turn) (rest : List Happening) (is : hs ++ happenings.Turn u ∷ rest ≡ t.trace) where
  abbrev k : NodeState
  k = (may_of t whole hs (happenings.Turn u) rest is).0

  holds : (table : List ℕ) (key : Value) (s : Seen) → HasChanged (tr_at t hs) u.node table key s → (me : BranchId) → same s.me me ≡ false → hold_on k.locks me table key ≡ Some s.me
  holds table key s it me other =
      let live = and_parts (s.me.node == u.node) (is_live s) it.live in
      holds_changed t whole hs u rest is (keys_are_held (so_far t hs) (part_lawful t whole hs (part_of t whole hs (happenings.Turn u) rest is)) u.node k (may_of t whole hs (happenings.Turn u) rest is).1.up)
      s.me (eqb-true s.me.node u.node live.0) s it.began (no_exit s.exit live.1) me other table key it.changed

  turn_apart : (table : List ℕ) (key : Value) (s q : Seen) → HasChanged (tr_at t hs) u.node table key s → HasChanged (tr_at t hs) u.node table key q → s.me ≡ q.me
  turn_apart table key s q one two = by (same s.me q.me) (same q.me s.me) refl refl
    where
      by : (here back : Bool) → same s.me q.me ≡ here → same q.me s.me ≡ back → s.me ≡ q.me
      by true back alike other = equal_from_same s.me q.me alike
      by false true alike other = sym (equal_from_same q.me s.me other)
      by false false alike other = one_holds k.locks s.me q.me table key (holds table key s one q.me alike) (holds table key q two s.me other)

module _ (t : History) (whole : IsLawfulRun t) where
  apart_at : (hs : List Happening) (h : Happening) (rest : List Happening) → hs ++ h ∷ rest ≡ t.trace → ChangeApart t.places (f_at t hs) (tr_at t hs) h
  apart_at hs (happenings.Turn u) rest is = turn_apart t whole hs u rest is
  apart_at hs _ rest is = tt

pub lives_change_apart : LivesChangeApart
lives_change_apart t whole = by_moment t ChangeApart (apart_at t whole)
