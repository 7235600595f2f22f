-- The numbers of a ready node that its code asks for.
use Rattle.std.proofs.Common.{◌*◌, ◌≤◌, List, [], ◌∷◌, length, refl, arith}
use Rattle.std.specs.Prelude.{sum_by}
use Rattle.std.specs.List.{AllByRecursion}
use Rattle.std.proofs.lemmas.List.Sums.{sum_by-cons}
use Rattle.node_rules.specs.Data.{Edge}
use Rattle.node_rules.specs.Words.{item_at}
use Rattle.node_rules.specs.LiveBranches.{works_of}
use Rattle.node_rules.specs.NodeState.{work_id}
use Rattle.node_ready_laws.specs.Shapes.{count_limit, IsShaped}
use Rattle.node_ready_laws.specs.Gives.{ChildrenAreFew, NextCallsAreWithin}
use Rattle.node_ready_laws.proofs.ShapeLemmas.{within}
use Rattle.node_ready_laws.proofs.CallNumberLemmas.{numbered_below, work_by}

-- so many branches, no more than so many for each child
pub sum_few : (es : List Edge) → AllByRecursion (λ e. e.count ≤ count_limit) es → sum_by (λ (e : Edge). e.count) es ≤ count_limit * length es
sum_few [] all = omega arith
sum_few (e ∷ es) all = let rest = sum_few es all.1 in let sum = sum_by-cons (λ (x : Edge). x.count) e es in omega (arith, all.0, rest, sum)

pub children_are_few : ChildrenAreFew
children_are_few p k b l low shape live =
    let is : IsShaped p.links l (works_of k.works b) = shape.each b l live in
    let few = within p.links (length l.edges) (works_of k.works b).going is.room in
    let sum = sum_few l.edges is.counts in
    (omega (arith, few, low), omega (arith, few, low, sum))

pub next_calls_are_within : NextCallsAreWithin
next_calls_are_within k n is b i =
    let low = numbered_below n (works_of k.works b).calls i (work_by n k is.calls b (item_at work_id k.works b) refl) in
    omega (arith, low)
