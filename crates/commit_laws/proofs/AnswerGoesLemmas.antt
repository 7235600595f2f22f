-- A message of a branch that is an answer, ReadOnly among them, goes to its parent.
use Rattle.std.proofs.Common.{◌≡◌, ◌&&◌, ◌||◌, Bool, true, false, List, [], ◌∷◌, map, refl, ap, subst}
use Rattle.std.specs.List.{AllByRecursion, list_any}
use Rattle.std.proofs.lemmas.Bool.{or_right}
use Rattle.tran_ids.proofs.BranchLemmas.{equal_from_same, same_from_equal}
use Rattle.node_rules.specs.Data.{BranchId, Kind, Msg}
use Rattle.node_rules.specs.Data.kinds
use Rattle.node_rules.specs.Words.{same}
use Rattle.run_rules.specs.Births.{Born}
use Rattle.run_base_laws.specs.BirthLaws.{Began, IsChild, GoesSo}
use Rattle.run_rules.specs.Data.{Packet}
use Rattle.run_base_laws.specs.InTurnLaws.{post_of, packet_post}
use Rattle.run_rules.specs.Trail.{is_quiet, is_read_only}
use Rattle.run_branch_laws.specs.WalkLaws.{was_sent}
use Rattle.commit_laws.specs.DeliveryLaws.{is_answer}
use Rattle.commit_laws.proofs.ReasonLemmas.{is_quiet_post}

-- a message of a branch that is an answer was sent to its parent
answer_goes : (bs : List Born) (c q : BranchId) → ((x : BranchId) → IsChild (Began bs) c x → x ≡ q) → (from to : BranchId) (kind : Kind) → GoesSo (Began bs) from to kind → from ≡ c → is_answer kind ≡ true → to ≡ q
answer_goes bs c q one from to kinds.Prepared goes me is = one to (subst (λ i. IsChild (Began bs) i to) me goes)
answer_goes bs c q one from to kinds.ReadOnly goes me is = one to (subst (λ i. IsChild (Began bs) i to) me goes)
answer_goes bs c q one from to kinds.Ready goes me is = one to (subst (λ i. IsChild (Began bs) i to) me goes)
answer_goes bs c q one from to _ goes me is = absurd cc

quiet_answers : (kind : Kind) → is_read_only kind ≡ true → is_answer kind ≡ true
quiet_answers kinds.ReadOnly is = refl
quiet_answers _ is = absurd cc

three : (a b d e : Bool) → a ≡ true → b ≡ true → d ≡ true → (((a && b) && d) || e) ≡ true
three true true true e i j k = refl
three true true false e i j k = absurd cc
three true false d e i j k = absurd cc
three false b d e i j k = absurd cc

pub any_posts : (c : BranchId) (ms : List Msg) → list_any (is_quiet c) ms ≡ list_any (is_quiet_post c) (map post_of ms)
any_posts c [] = refl
any_posts c (m ∷ ms) = ap (λ r. is_quiet c m || r) (any_posts c ms)

-- ReadOnly among these messages
pub quiet_sent : (bs : List Born) (c q : BranchId) → ((x : BranchId) → IsChild (Began bs) c x → x ≡ q) → (xs : List Packet) → AllByRecursion (λ x. GoesSo (Began bs) x.msg.from x.msg.to x.msg.kind) xs
    → list_any (is_quiet_post c) (map packet_post xs) ≡ true → was_sent is_answer (map packet_post xs) c q ≡ true
quiet_sent bs c q one [] all is = absurd cc
quiet_sent bs c q one (x ∷ xs) all is = by (same x.msg.from c) (is_read_only x.msg.kind) refl refl is (quiet_sent bs c q one xs all.1)
  where
    by : (a r : Bool) → same x.msg.from c ≡ a → is_read_only x.msg.kind ≡ r → ((a && r) || list_any (is_quiet_post c) (map packet_post xs)) ≡ true
        → (list_any (is_quiet_post c) (map packet_post xs) ≡ true → was_sent is_answer (map packet_post xs) c q ≡ true)
        → (((same x.msg.from c && same x.msg.to q) && is_answer x.msg.kind) || was_sent is_answer (map packet_post xs) c q) ≡ true
    by true true me quiet found rest =
        let answers : is_answer x.msg.kind ≡ true = quiet_answers x.msg.kind quiet in
        let from : x.msg.from ≡ c = equal_from_same x.msg.from c me in
        let to : same x.msg.to q ≡ true = same_from_equal x.msg.to q (answer_goes bs c q one x.msg.from x.msg.to x.msg.kind all.0 from answers) in
        three (same x.msg.from c) (same x.msg.to q) (is_answer x.msg.kind) _ me to answers
    by true false me quiet found rest = or_right ((same x.msg.from c && same x.msg.to q) && is_answer x.msg.kind) _ (rest found)
    by false r me quiet found rest = or_right ((same x.msg.from c && same x.msg.to q) && is_answer x.msg.kind) _ (rest found)
