-- Decisions and peers as bytes.
use Rattle.std.specs.Prelude.{ℕ, List, [], ◌∷◌, Option, Some, None, ⊤}
use Rattle.redo_record.specs.declared.decision.Decision.{Decision}
use Rattle.redo_record.specs.declared.decision.Decision.TheVariants as decisions
use Rattle.redo_record.specs.declared.record.Peer.{Peer}
use Rattle.byte_format.specs.Format.{Format}
use Rattle.byte_format.specs.Number.{number48, constant}
use Rattle.byte_format.specs.Part.{pair, mapped}
use Rattle.byte_format.specs.Choice.{choice, kind, no_kind}
use Rattle.field_codec.specs.Branch.{branch_format}
use Rattle.field_codec.specs.Name.{name_format}

-- which byte names the decision
abbrev pub decision_kind : Decision → ℕ
decision_kind (decisions.Commit scn) = 1
decision_kind decisions.Rollback = 2

-- the SCN of a commit
abbrev pub commit_of : Decision → Option ℕ
commit_of (decisions.Commit scn) = Some scn
commit_of decisions.Rollback = None

-- whether the decision is to roll back
abbrev pub rollback_of : Decision → Option ⊤
rollback_of (decisions.Commit scn) = None
rollback_of decisions.Rollback = Some tt

-- an SCN of 0
abbrev pub no_scn : List ℕ
no_scn = 0 ∷ 0 ∷ 0 ∷ 0 ∷ 0 ∷ 0 ∷ []

-- the fields of each decision
abbrev pub decision_kinds : ℕ → Format Decision
decision_kinds =
    kind 1 decisions.Commit commit_of number48
    (kind 2 (λ u. decisions.Rollback) rollback_of (constant no_scn) no_kind)

-- a decision: 1 and the SCN for a commit, 2 and an SCN of 0 for a rollback
abbrev pub decision_format : Format Decision
decision_format = choice decision_kind decision_kinds

-- a peer: the branch, and the link that leads to it
abbrev pub peer_format : Format Peer
peer_format = mapped (λ x. record { branch = x.0; link = x.1 }) (λ p. (p.branch, p.link)) (pair branch_format name_format)
