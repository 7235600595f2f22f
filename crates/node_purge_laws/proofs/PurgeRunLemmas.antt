-- In every lawful run a purge hides a row alone, and each other turn is what it would be at a node with other rows hidden.
use Rattle.std.proofs.Common.{◌≡◌, ℕ, Bool, true, false, List, [], map, Option, Some, None, inl, inr, refl, sym, ap, ◌∙◌}
use Rattle.std.specs.Prelude.{find}
use Rattle.node_rules.specs.Data.{Input, KeptRow, Place, RedoRecord}
use Rattle.node_rules.specs.Data.inputs
use Rattle.node_rules.specs.Data.stmts
use Rattle.node_rules.specs.Force.{may_purge, hides, purge}
use Rattle.node_rules.specs.NodeState.{NodeState}
use Rattle.node_rules.specs.Turn.{stamped, turn_of}
use Rattle.run_rules.specs.Branches.{Trail, no_trail}
use Rattle.run_rules.specs.Data.{Command, Happening, Turn}
use Rattle.run_rules.specs.Data.happenings
use Rattle.run_rules.specs.Facts.{Facts, first_facts, place_at}
use Rattle.run_rules.specs.Lawful.{IsOwed, MayHappen, History, IsLawfulRun}
use Rattle.run_base_laws.proofs.LawfulLemmas.{lawful_each, turn_of_node}
use Rattle.node_purge_laws.specs.PurgeLaws.{IsLike, ActsLike, written, is_purge}
use Rattle.node_purge_laws.specs.PurgeRunLaws.{SeesNoPurge, PurgesGoUnseen}
use Rattle.node_purge_laws.proofs.CallLikeLemmas.{purges_change_nothing_else}
use Rattle.node_purge_laws.proofs.HideLemmas.{purges_hide_alone}

-- ---- a purge

hides_silently : (k : NodeState) (n : ℕ) (id : List ℕ) (o : Option KeptRow) → (hides k n id o).says ≡ []
hides_silently k n id None = refl
hides_silently k n id (Some s) = refl

purges_silently : (k : NodeState) (n : ℕ) (mixed : Bool) (id : List ℕ) → (purge k n mixed id).says ≡ []
unfolding purge
purges_silently k n mixed id = hides_silently k n id (find (may_purge mixed id) k.stored.durable.kept)

silent : (p : Place) (k : NodeState) (input : Input) → is_purge input ≡ true → (turn_of p k input).sent ≡ []
unfolding turn_of
silent p k (inputs.Call n (Some (stmts.PurgeMixed id))) is = ap (map (stamped (purge k n true id).after.clock)) (purges_silently k n true id)
silent p k (inputs.Call n (Some (stmts.PurgeLost id))) is = ap (map (stamped (purge k n false id).after.clock)) (purges_silently k n false id)
silent p k _ is = absurd cc

hides_alone : (p : Place) (k : NodeState) (input : Input) → is_purge input ≡ true → IsLike k (turn_of p k input).after
hides_alone p k (inputs.Call n (Some (stmts.PurgeMixed id))) is = (purges_hide_alone p k n id).0
hides_alone p k (inputs.Call n (Some (stmts.PurgeLost id))) is = (purges_hide_alone p k n id).1
hides_alone p k _ is = absurd cc

sends_none : (p : Place) (u : Turn) (k : NodeState) (cut : Bool) → (turn_of p k u.input).sent ≡ [] → IsOwed p k u.input u.wrote u.sent cut → u.sent ≡ []
sends_none p u k true none owed = owed.1
sends_none p u k false none owed = owed.1 ∙ none

-- ---- any other turn

-- what the other node owes
record OwesAlike (p : Place) (u : Turn) (other : NodeState) (cut : Bool) : Type 0 where
  wrote : Option RedoRecord
  alike : written wrote ≡ written u.wrote
  owed : IsOwed p other u.input wrote u.sent cut

owes_alike : (p : Place) (u : Turn) (k other : NodeState) (cut : Bool) → ActsLike (turn_of p k u.input) (turn_of p other u.input) → IsOwed p k u.input u.wrote u.sent cut → OwesAlike p u other cut
owes_alike p u k other false acts owed = record { wrote = (turn_of p other u.input).wrote; alike = sym (ap written owed.0 ∙ acts.wrote); owed = (refl, owed.1 ∙ acts.sent) }
owes_alike p u k other true acts owed = elim owed.0 [
  | inl none ↦ record { wrote = None; alike = ap written (sym none); owed = (inl refl, owed.1) }
  | inr is ↦ record { wrote = (turn_of p other u.input).wrote; alike = sym (ap written is ∙ acts.wrote); owed = (inr refl, owed.1) }
]

-- ---- each happening

pub sees_none : (places : List Place) (asked : List Command) (f : Facts) (tr : Trail) (h : Happening) → MayHappen places asked f h → SeesNoPurge places f tr h
sees_none places asked f tr (happenings.Turn u) may = λ k up.
    (let owed = (turn_of_node places f u k asked may up).owed in
    let p : Place = place_at places u.node in (
      λ is. record { sent = sends_none p u k u.cut (silent p k u.input is) owed; after = hides_alone p k u.input is },
      λ plain other like.
          (let acts = purges_change_nothing_else p k other like u.input plain in
          let owes = owes_alike p u k other u.cut acts owed in
          record { wrote = owes.wrote; alike = owes.alike; owed = owes.owed; ended = acts.ended; after = acts.after }),
    ))
sees_none places asked f tr _ may = tt

pub purges_go_unseen : (t : History) → IsLawfulRun t → PurgesGoUnseen t
purges_go_unseen t whole =
    lawful_each t.places t.commands (λ f tr. Unit {0}) (λ f tr h now may. tt) (SeesNoPurge t.places) (λ f tr h now may. sees_none t.places t.commands f tr h may) (first_facts t.places) no_trail t.trace tt whole
