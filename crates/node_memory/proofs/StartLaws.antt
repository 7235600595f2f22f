-- What a node keeps after a record, and after a start, put together from the parts of its memory.
use Rattle.std.proofs.Common.{◌≡◌, ℕ, max, List, ap, ◌∙◌, arith}
use Rattle.std.specs.Prelude.{fold}
use Rattle.row_locks.specs.Locks.{Lock}
use Rattle.read_only_tx.specs.Versions.{Versions, versions_from}
use Rattle.node_rules.specs.Data.{RedoRecord}
use Rattle.node_rules.specs.NodeState.{NodeState}
use Rattle.node_rules.specs.Records.{nothing_stored, applied, stored_by, versions_in, versions_by, commit_of, locks_after, with_record}
use Rattle.node_rules.specs.Turn.{with_doubt_of, kept_by, start_of}
use Rattle.node_memory.specs.After.{with_stored}

-- what is stored has the record, and then the locks are changed
pub record_taken : (k m : NodeState) (r : RedoRecord) (vs : Versions) (locks : List Lock) → vs ≡ versions_by k.stored.rows k.versions (commit_of k.stored.doubts r)
    → m ≡ with_stored k (applied k.stored r) vs → locks ≡ locks_after m.locks r → (record m { locks = locks }) ≡ with_record k r
record_taken k m r vs locks kept is now =
    ap (λ ls. record m { locks = ls }) now
    ∙ ap (λ (j : NodeState). record j { locks = locks_after j.locks r }) is
    ∙ ap (λ ws. record (with_stored k (applied k.stored r) ws) { locks = locks_after k.locks r }) kept

-- what is stored has all records, and then the clock and the locks are those of a start
pub started : (m : NodeState) (rs : List RedoRecord) (clock : ℕ) (locks : List Lock) → m ≡ with_stored (kept_by nothing_stored (versions_from 0)) (stored_by nothing_stored rs) (versions_in nothing_stored (versions_from 0) rs)
    → clock ≡ max m.clock m.stored.scn → locks ≡ fold with_doubt_of m.locks m.stored.doubts → (record m { clock = clock; locks = locks }) ≡ start_of rs
unfolding start_of
started m rs clock locks is clocks keys =
    let none : max 0 (stored_by nothing_stored rs).scn ≡ (stored_by nothing_stored rs).scn = omega arith in
    ap (λ c. record m { clock = c; locks = locks }) clocks
    ∙ ap (λ ls. record m { clock = max m.clock m.stored.scn; locks = ls }) keys
    ∙ ap (λ (j : NodeState). record j { clock = max j.clock j.stored.scn; locks = fold with_doubt_of j.locks j.stored.doubts }) is
    ∙ ap (λ c. record (kept_by (stored_by nothing_stored rs) (versions_in nothing_stored (versions_from 0) rs)) { clock = c }) none
