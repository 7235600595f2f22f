-- The laws of branches and calls, tried on the run of two nodes: A opens its edge to B once, B is asked, and A's COMMIT is
-- pending while A is live, and then while A's row has not forgotten. In a second run B's node stops and starts before Opened
-- comes, and the Open comes again: a second branch begins over the same edge, and the first is a stray.
use Rattle.std.specs.Prelude.{◌≡◌, ℕ, Bool, true, false, List, [], ◌∷◌, ◌++◌, take, option_map, Option, Some, None}
use Rattle.node_rules.specs.Data.{BranchId, Post}
use Rattle.node_rules.specs.Data.inputs
use Rattle.node_rules.specs.declared.session.PendingCall.{PendingCall}
use Rattle.node_rules.specs.declared.session.PendingCall.TheVariants as pending
use Rattle.node_rules.specs.NodeState.{NodeState, kept_row_at}
use Rattle.node_rules.specs.Sessions.{session_at}
use Rattle.net_bag.specs.Net.{packet_at}
use Rattle.run_rules.specs.Births.{root_born, child_born, births_from}
use Rattle.run_rules.specs.Branches.{is_among}
use Rattle.run_rules.specs.Data.{Happening, Packet, Turn}
use Rattle.run_rules.specs.Data.happenings
use Rattle.run_rules.specs.Facts.{Facts, first_facts, node_at, facts_of}
use Rattle.run_base_laws.specs.FreezeLaws.{was_asked}
use Rattle.run_base_laws.specs.InTurnLaws.{said_in}
use Rattle.run_base_laws.specs.RunEvents.{lives_at}
use Rattle.run_branch_laws.specs.TriedRun as tried
use Rattle.commit_leave_laws.specs.StrayLaws.{count_opens}

-- what the first happenings of the run leave
abbrev pub facts_by : ℕ → Facts
facts_by count = facts_of tried.places [] (first_facts tried.places) (take count tried.trace)

-- all its messages
abbrev pub said : List Post
said = said_in (facts_by 15)

-- the call of session 1 at a node
abbrev pub call_at : Facts → ℕ → Option PendingCall
call_at f n = option_map (λ k. (session_at k.sessions 1).call) (node_at f n)

-- whether the row of a branch has forgotten, where there is one
abbrev pub has_forgot : Option NodeState → BranchId → Option Bool
has_forgot None b = None
has_forgot (Some k) b = option_map (λ s. s.forgot) (kept_row_at k b)

-- ---- a stray

-- up to B's first turn, and a new start of its node
abbrev pub started : List Happening
started = take 5 tried.trace ++ happenings.Stopped 2 ∷ happenings.Started 2 2 ∷ []

-- what they leave
abbrev pub restarted : Facts
restarted = facts_of tried.places [] (first_facts tried.places) started

-- the Open comes again
abbrev pub again : Option Packet → Turn
again None = tried.turn_by restarted 0 inputs.Reco None
again (Some x) = tried.turn_by restarted x.msg.to.node (inputs.Message x.msg) (Some (record { number = 1; again = true }))

-- the second run
abbrev pub stray_trace : List Happening
stray_trace = started ++ happenings.Turn (again (packet_at restarted.net 1)) ∷ []

-- the branch that begins then
abbrev pub second : BranchId
second = record { node = 2; boot = 2; session = 65; seq = 1 }

-- One Open, one child, which is asked; the COMMIT waits with the root, then with its row, and ends. In the second run one
-- Open begins two branches.
pub record TheTriedStray : Type 0 where
  pub once : count_opens said tried.a 1 ≡ 1
  pub no_other : count_opens said tried.a 2 ≡ 0
  pub asked : was_asked said tried.a tried.b ≡ true
  pub waits : call_at (facts_by 10) 1 ≡ Some pending.Commit
  pub live : is_among tried.a (lives_at (node_at (facts_by 10) 1)) ≡ true
  pub still_waits : call_at (facts_by 12) 1 ≡ Some pending.Commit
  pub kept : has_forgot (node_at (facts_by 12) 1) tried.a ≡ Some false
  pub ends : call_at (facts_by 15) 1 ≡ Some pending.NoCall
  pub gone : has_forgot (node_at (facts_by 15) 1) tried.a ≡ None
  pub two : births_from tried.places [] (first_facts tried.places) stray_trace [] ≡ root_born tried.a 1 None ∷ child_born tried.b tried.a 1 tried.a 2 1 None ∷ child_born second tried.a 1 tried.a 2 1 None ∷ []
  pub one_open : count_opens (said_in (facts_of tried.places [] (first_facts tried.places) stray_trace)) tried.a 1 ≡ 1
