-- What is found in lists that grow, and a message that came, which was sent.
use Rattle.std.proofs.Common.{◌≡◌, ℕ, zero, suc, ◌≤◌, ◌&&◌, Bool, true, false, if◌then◌else◌, find, List, [], ◌∷◌, ◌++◌, max, option_map, Option, Some, None, refl, ap, ◌∙◌, arith}
use Rattle.tran_ids.proofs.BranchLemmas.{same_from_equal}
use Rattle.node_rules.specs.Data.{BranchId, Kind, Msg, Input, Post}
use Rattle.node_rules.specs.Data.inputs
use Rattle.node_rules.specs.Words.{same, numbered}
use Rattle.node_rules.specs.Inputs.{Came}
use Rattle.node_rules.specs.NodeState.{NodeState}
use Rattle.run_rules.specs.Branches.{Run, Origin, origin_of}
use Rattle.run_rules.specs.Data.{Took}
use Rattle.run_rules.specs.Facts.{Facts}
use Rattle.run_base_laws.specs.InTurnLaws.{packet_post, said_in, exec_number, newest_exec}
use Rattle.run_rules.specs.Lawful.{Comes}
use Rattle.tree_trail_laws.proofs.PlanLemmas.{find_more}
use Rattle.answer_origin_laws.proofs.NumberLemmas.{numbered_map}
use Rattle.answer_origin_laws.proofs.TaleLemmas.{came_one}

-- ---- small parts

pub more_found : (p : Origin → Bool) (xs ys : List Origin) (r : Run) → origin_of (find p xs) ≡ Some r → origin_of (find p (xs ++ ys)) ≡ Some r
more_found p xs ys r is = by (find p xs) refl is
  where
    by : (o : Option Origin) → find p xs ≡ o → origin_of o ≡ Some r → origin_of (find p (xs ++ ys)) ≡ Some r
    by None at it = absurd cc
    by (Some x) at it = ap origin_of (find_more p xs ys x at) ∙ it

pub none_at : {A : Type 0} {x : A} (j : ℕ) → numbered [] j ≡ Some x → ⊥
none_at zero is = absurd cc
none_at (suc j) is = absurd cc

-- a message that came was sent
pub came_sent : (f : Facts) (k : NodeState) (node : ℕ) (input : Input) (took : Option Took) → Comes f k node input took → (from to : BranchId) (kind : Kind) → Came input from to kind
    → (tk : Took) × (took ≡ Some tk) × (x : Post) × (numbered (said_in f) tk.number ≡ Some x) × (x.from ≡ from) × (x.kind ≡ kind) × (x.to ≡ to)
came_sent f k node (inputs.Message m) (Some tk) comes from to kind came =
    let one = came_one came in
    let sent : numbered (said_in f) tk.number ≡ Some (packet_post comes.0) = numbered_map packet_post f.net.packets tk.number ∙ ap (option_map packet_post) comes.1.sent in
    (tk, refl, packet_post comes.0, sent, ap (λ (y : Msg). y.from) comes.1.same ∙ one.0, ap (λ (y : Msg). y.kind) comes.1.same ∙ one.2, ap (λ (y : Msg). y.to) comes.1.same ∙ one.1)
came_sent f k node (inputs.Message m) None comes from to kind came = absurd comes
came_sent f k node (inputs.Call session statement) took comes from to kind came = absurd (cc (came.is))
came_sent f k node (inputs.GiveUp session) took comes from to kind came = absurd (cc (came.is))
came_sent f k node inputs.Reco took comes from to kind came = absurd (cc (came.is))
came_sent f k node inputs.Checkpoint took comes from to kind came = absurd (cc (came.is))

-- an Exec is no newer than the newest
pub exec_in : (said : List Post) (n : ℕ) (x : Post) → numbered said n ≡ Some x → (a b : BranchId) → x.from ≡ a → x.to ≡ b → exec_number x.kind ≤ newest_exec said a b
exec_in said zero x is a b from to = absurd cc
exec_in [] (suc n) x is a b from to = absurd cc
exec_in (y ∷ ys) (suc zero) x is a b from to =
    let it : Some y ≡ Some x = is in
    let one : y ≡ x = cc in
    let both : (same y.from a && same y.to b) ≡ true = ap (λ q. q && same y.to b) (same_from_equal y.from a (ap (λ (z : Post). z.from) one ∙ from)) ∙ same_from_equal y.to b (ap (λ (z : Post). z.to) one ∙ to) in
    let here : newest_exec (y ∷ ys) a b ≡ max (exec_number y.kind) (newest_exec ys a b) = ap (λ q. if q then max (exec_number y.kind) (newest_exec ys a b) else newest_exec ys a b) both in
    let number : exec_number y.kind ≡ exec_number x.kind = ap (λ (z : Post). exec_number z.kind) one in
    omega (arith, here, number)
exec_in (y ∷ ys) (suc (suc n)) x is a b from to = by (same y.from a && same y.to b) (exec_in ys (suc n) x is a b from to)
  where
    by : (q : Bool) → exec_number x.kind ≤ newest_exec ys a b → exec_number x.kind ≤ (if q then max (exec_number y.kind) (newest_exec ys a b) else newest_exec ys a b)
    by true low = omega (arith, low)
    by false low = low
