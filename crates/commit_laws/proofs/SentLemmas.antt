-- A message that was sent is among those of the network.
use Rattle.std.proofs.Common.{◌≡◌, ℕ, suc, ◌&&◌, ◌||◌, Bool, true, false, List, [], ◌∷◌, map, slice_get, Some, refl}
use Rattle.std.proofs.lemmas.Bool.{and_parts}
use Rattle.tran_ids.proofs.BranchLemmas.{equal_from_same}
use Rattle.node_rules.specs.Data.{BranchId, Kind}
use Rattle.node_rules.specs.Words.{same}
use Rattle.run_rules.specs.Data.{Packet}
use Rattle.run_base_laws.specs.InTurnLaws.{packet_post}
use Rattle.run_branch_laws.specs.WalkLaws.{was_sent}

-- A message of a kind from a branch to another.
pub record IsSent (kind : Kind → Bool) (from to : BranchId) (xs : List Packet) : Type 0 where
  pub place : ℕ
  pub packet : Packet
  pub there : slice_get xs place ≡ Some packet
  pub is_from : packet.msg.from ≡ from
  pub is_to : packet.msg.to ≡ to
  pub is_kind : kind packet.msg.kind ≡ true

pub sent_found : (kind : Kind → Bool) (from to : BranchId) (xs : List Packet) → was_sent kind (map packet_post xs) from to ≡ true → IsSent kind from to xs
sent_found kind from to [] is = absurd cc
sent_found kind from to (x ∷ xs) is = by ((same x.msg.from from && same x.msg.to to) && kind x.msg.kind) refl is (sent_found kind from to xs)
  where
    by : (q : Bool) → ((same x.msg.from from && same x.msg.to to) && kind x.msg.kind) ≡ q → (q || was_sent kind (map packet_post xs) from to) ≡ true → (was_sent kind (map packet_post xs) from to ≡ true → IsSent kind from to xs) → IsSent kind from to (x ∷ xs)
    by true here found rest =
        let parts = and_parts (same x.msg.from from && same x.msg.to to) (kind x.msg.kind) here in
        let ends = and_parts (same x.msg.from from) (same x.msg.to to) parts.0 in
        record { place = 0; packet = x; there = refl; is_from = equal_from_same x.msg.from from ends.0; is_to = equal_from_same x.msg.to to ends.1; is_kind = parts.1 }
    by false other found rest =
        let it : IsSent kind from to xs = rest found in
        record { place = suc it.place; packet = it.packet; there = it.there; is_from = it.is_from; is_to = it.is_to; is_kind = it.is_kind }
