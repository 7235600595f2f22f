-- Single turns to which no script comes, or no short one. HQ has a branch between its parent at SALES and a child at DEPOT.
-- One message comes to it at each time of its life, and what HQ then writes and says is looked at. After that, the losses
-- that the network tells.
use Rattle.std.proofs.Common.{◌≡◌, ℕ, true, false, List, [], ◌∷◌, ◌++◌, map, flat_map, replicate, Option, Some, None, codes, refl}
use Rattle.node_rules.specs.Data.{BranchId, Toward, Decision, RedoRecord, Stmt, Kind, Msg, Place}
use Rattle.node_rules.specs.Data.answers
use Rattle.node_rules.specs.Data.decisions
use Rattle.node_rules.specs.Data.inputs
use Rattle.node_rules.specs.Data.kinds
use Rattle.node_rules.specs.Data.records
use Rattle.node_rules.specs.Data.tasks
use Rattle.node_rules.specs.Data.towards
use Rattle.node_rules.specs.Refusals.{dtx}
use Rattle.node_rules.specs.NodeState.{NodeState, TurnOutput}
use Rattle.node_rules.specs.Turn.{turn_of, start_of}
use Rattle.run_rules.specs.Data.{Command, Happening}
use Rattle.run_rules.specs.Data.commands
use Rattle.run_rules.specs.Data.happenings
use Rattle.run_rules.specs.RunReport.{start}
use Rattle.run_rules.specs.Due.{happened}
use Rattle.plays.proofs.Script.{place, number_column, number_key, link, here, over, num, rows, node, at, hold}
use Rattle.plays.proofs.Playing.{playing}
use Rattle.plays.proofs.Commit_shared.{places_2}

-- HQ among the nodes
abbrev hq_place : Place
hq_place = place (codes "SALES" ∷ codes "HQ" ∷ codes "DEPOT" ∷ []) 2 75

-- the root, and the branches at HQ and at DEPOT, one below the other; and one that has no part in it
abbrev sales : BranchId
sales = record { node = 1; boot = 1; session = 1; seq = 1 }

abbrev hq : BranchId
hq = record { node = 2; boot = 1; session = 65; seq = 1 }

abbrev depot : BranchId
depot = record { node = 3; boot = 1; session = 65; seq = 1 }

abbrev stranger : BranchId
stranger = record { node = 3; boot = 1; session = 66; seq = 1 }

-- a message comes to the branch at HQ
abbrev hears : NodeState → BranchId → Kind → TurnOutput
hears k from kind = turn_of hq_place k (inputs.Message (record { from = from; to = hq; scn = 1; kind = kind }))

-- what HQ writes and says then
abbrev does : NodeState → BranchId → Kind → Option RedoRecord × List Msg
does k from kind = ((hears k from kind).wrote, (hears k from kind).sent)

-- nothing
abbrev nothing : Option RedoRecord × List Msg
nothing = (None, [])

-- a message of HQ at this clock
abbrev says : BranchId → ℕ → Kind → List Msg
says to scn kind = (record { from = hq; to = to; scn = scn; kind = kind }) ∷ []

-- it writes nothing and says this
abbrev only_says : BranchId → ℕ → Kind → Option RedoRecord × List Msg
only_says to scn kind = (None, says to scn kind)

-- ---- the branch in doubt

-- the table of HQ, and its branch with an entry in doubt, with the site behind SALES or behind DEPOT
abbrev with_doubt : Toward → List RedoRecord
with_doubt toward =
    records.Boot 1
    ∷ records.Table (record { name = codes "LEDGER"; columns = number_key (codes "ID") ∷ number_column (codes "AMOUNT") ∷ [] })
    ∷ records.Sealed (record {
      me = hq;
      root = sales;
      scn = 1;
      toward = toward;
      parent = Some sales;
      children = (record { branch = depot; link = codes "DEPOT" }) ∷ [];
      advice = None;
      comment = [];
      changes = (record { table = codes "LEDGER"; key = num 1; after = Some (record { cells = num 1 ∷ num 250 ∷ [] }) }) ∷ [];
    })
    ∷ []

abbrev toward_sales : NodeState
toward_sales = start_of (with_doubt towards.Parent)

abbrev toward_depot : NodeState
toward_depot = start_of (with_doubt (towards.Child 0))

-- a decision from the side where the site is not is not heard
commit_from_the_child_is_ignored : does toward_sales depot (kinds.Committed 2) ≡ nothing
unfolding playing
commit_from_the_child_is_ignored = refl

rollback_from_the_child_is_ignored : does toward_sales depot kinds.Rollback ≡ nothing
unfolding playing
rollback_from_the_child_is_ignored = refl

rolled_back_from_the_child_is_ignored : does toward_sales depot kinds.RolledBack ≡ nothing
unfolding playing
rolled_back_from_the_child_is_ignored = refl

commit_from_the_parent_is_ignored : does toward_depot sales (kinds.Committed 2) ≡ nothing
unfolding playing
commit_from_the_parent_is_ignored = refl

rollback_from_the_parent_is_ignored : does toward_depot sales kinds.Rollback ≡ nothing
unfolding playing
rollback_from_the_parent_is_ignored = refl

-- from the side where the site is, it ends the branch and goes on
commit_goes_on_to_the_child : does toward_sales sales (kinds.Committed 2) ≡ (Some (records.Ended hq (decisions.Commit 2)), says depot 2 (kinds.Committed 2))
unfolding playing
commit_goes_on_to_the_child = refl

rollback_goes_on_to_the_child : does toward_sales sales kinds.Rollback ≡ (Some (records.Ended hq decisions.Rollback), says depot 1 kinds.Rollback)
unfolding playing
rollback_goes_on_to_the_child = refl

commit_goes_on_to_the_parent : does toward_depot depot (kinds.Committed 2) ≡ (Some (records.Ended hq (decisions.Commit 2)), says sales 2 (kinds.Committed 2))
unfolding playing
commit_goes_on_to_the_parent = refl

rollback_goes_on_to_the_parent : does toward_depot depot kinds.RolledBack ≡ (Some (records.Ended hq decisions.Rollback), says sales 1 kinds.RolledBack)
unfolding playing
rollback_goes_on_to_the_parent = refl

-- nobody is acknowledged and nobody forgets before the decision is known
ack_in_doubt_is_ignored : does toward_sales depot kinds.Ack ≡ nothing
unfolding playing
ack_in_doubt_is_ignored = refl

forgotten_in_doubt_is_ignored : does toward_sales sales kinds.Forgotten ≡ nothing
unfolding playing
forgotten_in_doubt_is_ignored = refl

commit_point_in_doubt_is_ignored : does toward_depot sales kinds.CommitPoint ≡ nothing
unfolding playing
commit_point_in_doubt_is_ignored = refl

-- Prepare is answered again where the parent is toward
prepare_is_answered_again : does toward_sales sales (kinds.Prepare false []) ≡ only_says sales 1 kinds.Prepared
unfolding playing
prepare_is_answered_again = refl

prepare_on_the_way_to_the_site_is_ignored : does toward_depot sales (kinds.Prepare true []) ≡ nothing
unfolding playing
prepare_on_the_way_to_the_site_is_ignored = refl

-- a branch that is no neighbour hears of a rollback
stranger_that_asks_hears_rollback : does toward_sales stranger kinds.Ask ≡ only_says stranger 1 kinds.RolledBack
unfolding playing
stranger_that_asks_hears_rollback = refl

-- ---- the forced branch

-- a forced branch knows no decision
abbrev forced_to : Decision → NodeState
forced_to d = start_of (with_doubt towards.Parent ++ records.Forced hq d true ∷ [])

forced_commit_is_not_told_to_the_child : does (forced_to (decisions.Commit 7)) depot kinds.Ask ≡ only_says depot 1 kinds.InDoubt
unfolding playing
forced_commit_is_not_told_to_the_child = refl

forced_commit_is_not_told_to_the_parent : does (forced_to (decisions.Commit 7)) sales kinds.Ask ≡ only_says sales 1 kinds.InDoubt
unfolding playing
forced_commit_is_not_told_to_the_parent = refl

forced_rollback_is_not_told_to_the_child : does (forced_to decisions.Rollback) depot kinds.Ask ≡ only_says depot 1 kinds.InDoubt
unfolding playing
forced_rollback_is_not_told_to_the_child = refl

-- and is mixed where it meets the other one
forced_commit_meets_the_rollback : does (forced_to (decisions.Commit 7)) sales kinds.Rollback ≡ (Some (records.Met hq decisions.Rollback true), says depot 1 kinds.Rollback)
unfolding playing
forced_commit_meets_the_rollback = refl

forced_branch_hears_toward_alone : does (forced_to (decisions.Commit 7)) depot kinds.RolledBack ≡ nothing
unfolding playing
forced_branch_hears_toward_alone = refl

-- ---- the committed branch

abbrev committed : NodeState
committed = start_of (with_doubt towards.Parent ++ records.Ended hq (decisions.Commit 2) ∷ [])

-- the child alone is waited for, and toward alone has it forget
ack_from_toward_is_ignored : does committed sales kinds.Ack ≡ nothing
unfolding playing
ack_from_toward_is_ignored = refl

forgotten_from_the_child_is_ignored : does committed depot kinds.Forgotten ≡ nothing
unfolding playing
forgotten_from_the_child_is_ignored = refl

forgotten_goes_on_to_the_child : does committed sales kinds.Forgotten ≡ (Some (records.Forgot hq), says depot 2 kinds.Forgotten)
unfolding playing
forgotten_goes_on_to_the_child = refl

-- the commit that comes again is acknowledged only once the child has acknowledged
commit_again_waits_for_the_child : does committed sales (kinds.Committed 2) ≡ nothing
unfolding playing
commit_again_waits_for_the_child = refl

commit_again_is_acknowledged : does (hears committed depot kinds.Ack).after sales (kinds.Committed 2) ≡ only_says sales 2 kinds.Ack
unfolding playing
commit_again_is_acknowledged = refl

-- a decision once known is not taken back
rollback_after_the_commit_is_ignored : does committed sales kinds.Rollback ≡ nothing
unfolding playing
rollback_after_the_commit_is_ignored = refl

-- ---- the live branch

-- SALES has opened it, and HQ has a link to DEPOT
abbrev a_link : RedoRecord
a_link = records.Link (record { name = codes "DEPOT"; target = codes "DEPOT" })

abbrev node_alone : ℕ → BranchId
node_alone number = record { node = number; boot = 0; session = 0; seq = 0 }

abbrev live : NodeState
live = (turn_of hq_place (start_of (records.Boot 1 ∷ a_link ∷ [])) (inputs.Message (record { from = sales; to = node_alone 2; scn = 1; kind = kinds.Open 1 sales 2 None }))).after

-- nothing is decided over it, and its parent alone may end it
commit_at_a_live_branch_is_ignored : does live sales (kinds.Committed 2) ≡ nothing
unfolding playing
commit_at_a_live_branch_is_ignored = refl

commit_point_before_ready_is_ignored : does live sales kinds.CommitPoint ≡ nothing
unfolding playing
commit_point_before_ready_is_ignored = refl

rolled_back_from_a_stranger_is_ignored : does live stranger kinds.RolledBack ≡ nothing
unfolding playing
rolled_back_from_a_stranger_is_ignored = refl

stranger_that_asks_a_live_branch_hears_nothing : does live stranger kinds.Ask ≡ only_says stranger 1 kinds.InDoubt
unfolding playing
stranger_that_asks_a_live_branch_hears_nothing = refl

parent_that_asks_a_live_branch_ends_it : does live sales kinds.Ask ≡ only_says sales 1 kinds.RolledBack
unfolding playing
parent_that_asks_a_live_branch_ends_it = refl

-- a statement over the link goes as far as the room in the session tree allows
abbrev query_over : Stmt
query_over = rows (over (codes "LEDGER") (codes "DEPOT")) []

abbrev query : Stmt
query = rows (here (codes "LEDGER")) []

link_without_room_is_refused : does live sales (kinds.Exec 1 (tasks.Run 0 None query_over)) ≡ only_says sales 1 (kinds.Reply 1 None 1 (answers.Refused (dtx 2 [])))
unfolding playing
link_without_room_is_refused = refl

link_with_room_is_opened : does live sales (kinds.Exec 1 (tasks.Run 1 None query_over)) ≡ only_says (node_alone 3) 1 (kinds.Open 1 sales 3 None)
unfolding playing
link_with_room_is_opened = refl

last_room_is_used_up : does (hears live sales (kinds.Exec 1 (tasks.Run 1 None query_over))).after depot (kinds.Opened 1 50) ≡ only_says depot 1 (kinds.Exec 1 (tasks.Run 0 None query))
unfolding playing
last_room_is_used_up = refl

-- ---- the branch that is gone

-- HQ has started again, or never knew it
abbrev gone : NodeState
gone = start_of (records.Boot 1 ∷ records.Boot 2 ∷ [])

exec_to_a_gone_branch : does gone sales (kinds.Exec 1 (tasks.Run 63 None query)) ≡ only_says sales 1 (kinds.Reply 1 None 1 (answers.Refused (dtx 8 [])))
unfolding playing
exec_to_a_gone_branch = refl

prepare_to_a_gone_branch : does gone sales (kinds.Prepare true []) ≡ only_says sales 1 kinds.Abort
unfolding playing
prepare_to_a_gone_branch = refl

commit_point_to_a_gone_branch : does gone sales kinds.CommitPoint ≡ only_says sales 1 kinds.RolledBack
unfolding playing
commit_point_to_a_gone_branch = refl

committed_to_a_gone_branch : does gone sales (kinds.Committed 2) ≡ only_says sales 2 kinds.Ack
unfolding playing
committed_to_a_gone_branch = refl

ack_to_a_gone_branch : does gone depot kinds.Ack ≡ only_says depot 1 kinds.Forgotten
unfolding playing
ack_to_a_gone_branch = refl

ask_to_a_gone_branch : does gone depot kinds.Ask ≡ only_says depot 1 kinds.RolledBack
unfolding playing
ask_to_a_gone_branch = refl

-- and all other kinds
abbrev other_kinds : List Kind
other_kinds =
    kinds.Opened 1 75
    ∷ kinds.Reply 1 (Some 75) 1 (answers.Refused (dtx 8 []))
    ∷ kinds.Prepared
    ∷ kinds.ReadOnly
    ∷ kinds.Ready
    ∷ kinds.Abort
    ∷ kinds.RolledBack
    ∷ kinds.InDoubt
    ∷ kinds.Forgotten
    ∷ kinds.Rollback
    ∷ []

others_to_a_gone_branch : map (does gone depot) other_kinds ≡ replicate 10 nothing
unfolding playing
others_to_a_gone_branch = refl

-- ---- losses

-- the numbers of the messages that a happening tells lost
abbrev losses : Happening → List ℕ
losses (happenings.Lost k) = k ∷ []
losses _ = []

-- a message is lost by LOSE, one by CUT, one as it is sent over the cut pair, one by STOP, one as it is sent to the stopped node
abbrev losing : List Command
losing =
    node (codes "SALES") 100
    ∷ node (codes "WAREHOUSE") 140
    ∷ node (codes "HQ") 75
    ∷ at 1 1 (link (codes "WH") (codes "WAREHOUSE"))
    ∷ hold
    ∷ at 1 1 (rows (over (codes "STOCK") (codes "WH")) [])
    ∷ commands.Lose 1
    ∷ at 1 2 (rows (over (codes "STOCK") (codes "WH")) [])
    ∷ commands.Cut 1 2
    ∷ at 1 3 (rows (over (codes "STOCK") (codes "WH")) [])
    ∷ commands.Join 1 2
    ∷ at 1 4 (rows (over (codes "STOCK") (codes "WH")) [])
    ∷ commands.Stop 2
    ∷ at 1 5 (rows (over (codes "STOCK") (codes "WH")) [])
    ∷ []

each_loss_is_told_once : flat_map losses (happened places_2 losing (replicate 60 0) (start places_2)) ≡ 1 ∷ 2 ∷ 3 ∷ 4 ∷ 5 ∷ []
unfolding playing happened
each_loss_is_told_once = refl
