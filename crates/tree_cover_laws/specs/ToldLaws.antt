-- The weight that a branch told with its answer to the last call of its parent is the one that the happenings tell of it from
-- then on, though its node may stop: the changes and the children of a branch that was dropped are told as they were. (Database
-- Administrator's Guide, "Distributed Transactions Concepts": session trees.)
use Rattle.std.specs.Prelude.{◌≡◌, ℕ, ◌≤◌, List, ◌∷◌, ◌++◌, Option, Some}
use Rattle.dtx_values.specs.Limits.{depth_limit}
use Rattle.node_rules.specs.Data.{BranchId, Post}
use Rattle.run_rules.specs.Births.{Born, births_of}
use Rattle.run_base_laws.specs.BirthLaws.{Began}
use Rattle.run_rules.specs.Data.{Happening}
use Rattle.run_rules.specs.Lawful.{History, IsLawfulRun, facts_at}
use Rattle.run_base_laws.specs.InTurnLaws.{said_in, newest_exec}
use Rattle.run_rules.specs.Tree.{weight}
use Rattle.tree_cover_laws.specs.GoneLaws.{ToldWell}
use Rattle.tree_trail_laws.specs.ChildLaws.{trail_at}

-- A branch answered the last of the calls of another with this weight, and the answer is no refusal of a gone branch.
pub record ToldLast (said : List Post) (p c : BranchId) (v : Option ℕ) : Type 0 where
  pub number : ℕ
  pub some : 1 ≤ number
  pub newest : newest_exec said p c ≤ number
  pub told : ToldWell said c number v

-- a run up to one of its moments
abbrev pub up_to : History → List Happening → History
up_to t hs = record { places = t.places; commands = t.commands; of_a_script = t.of_a_script; trace = hs }

-- In every lawful run, before each happening: what a child, no deeper than a tree may be, told its parent so is what the happenings
-- tell of its weight.
abbrev pub AnswersTellWeights : Type 0
AnswersTellWeights = (t : History) → IsLawfulRun t → (hs : List Happening) (h : Happening) (rest : List Happening) → hs ++ h ∷ rest ≡ t.trace
    → (p : BranchId) (c : Born) → Began (births_of (up_to t hs)) c → c.parent ≡ Some p → c.depth ≤ depth_limit → (v : Option ℕ) → ToldLast (said_in (facts_at (up_to t hs))) p c.me v
    → weight t.places (trail_at (up_to t hs)) c.me ≡ v
