-- In every lawful run each root whose COMMIT is pending is live, or its row says that it is sealed and in doubt, or committed.
use Rattle.std.proofs.Common.{◌≡◌, ◌≢◌, ℕ, false, List, [], ◌∷◌, ◌++◌, replicate, IfSome, Option, Some, None, refl, sym, ap, subst, ◌∙◌}
use Rattle.tran_ids.proofs.ListedLemmas.{item_is}
use Rattle.node_rules.specs.Data.{BranchId, Input, KeptRow, Live, Place, RedoRecord}
use Rattle.node_rules.specs.Data.inputs
use Rattle.node_rules.specs.Data.kinds
use Rattle.node_rules.specs.Data.phases
use Rattle.node_rules.specs.Data.records
use Rattle.node_rules.specs.NodeState.{NodeState, live_at, kept_row_id, kept_row_at}
use Rattle.node_rules.specs.Sessions.{session_at, fresh_session}
use Rattle.node_rules.specs.Turn.{turn_of, heard, start_of}
use Rattle.run_rules.specs.Births.{births_of}
use Rattle.run_rules.specs.Data.{Turn, Happening}
use Rattle.run_rules.specs.Facts.{Facts, first_facts, place_at, node_at, facts_after, facts_of}
use Rattle.run_rules.specs.Lawful.{MayHappen, MayTurn, History, IsLawfulRun, facts_at}
use Rattle.run_base_laws.specs.BirthLaws.{Began, GoesSo}
use Rattle.run_base_laws.specs.RunEvents.{events_of}
use Rattle.run_base_laws.proofs.BirthRunLemmas.{run_births, messages_are_of_neighbors, nodes_name_the_born}
use Rattle.run_base_laws.proofs.BirthsStandLemmas.{came_so}
use Rattle.run_base_laws.proofs.EventsStandLemmas.{first_node, run_stands}
use Rattle.run_base_laws.proofs.LawfulLemmas.{serves}
use Rattle.run_base_laws.proofs.NodeLemmas.{Goes, Stays, Turns, Is_cut, Stops, Starts, goes_so}
use Rattle.run_base_laws.proofs.OwnLemmas.{all_found}
use Rattle.run_base_laws.proofs.RestLemmas.{Before}
use Rattle.run_base_laws.proofs.RestRunLemmas.{NodeRests, asked_parent, heard_rests, heard_before, before_so, run_roots}
use Rattle.run_branch_laws.proofs.QuietLemmas.{NoRows}
use Rattle.run_ready_laws.proofs.RootLiveLemmas.{RollsBelow}
use Rattle.run_ready_laws.proofs.TurnCallLemmas.{fresh_at}
use Rattle.tree_laws.specs.AskLaws.{way_of}
use Rattle.tree_laws.proofs.AskRunLemmas.{live_told}
use Rattle.tree_laws.proofs.PrefixLemmas.{so_far, f_at, one_on, keep_prefix}
use Rattle.commit_answer_laws.proofs.RootHoldLemmas.{RootsHold, Known, holds_on}

heard_live : (k : NodeState) (input : Input) (b : BranchId) → live_at (heard k input) b ≡ live_at k b
heard_live k (inputs.Message m) b = refl
heard_live k (inputs.Call n s) b = refl
heard_live k (inputs.GiveUp n) b = refl
heard_live k inputs.Reco b = refl
heard_live k inputs.Checkpoint b = refl

heard_holds : (k : NodeState) (input : Input) → RootsHold k → RootsHold (heard k input)
heard_holds k (inputs.Message m) holds = holds
heard_holds k (inputs.Call n s) holds = holds
heard_holds k (inputs.GiveUp n) holds = holds
heard_holds k inputs.Reco holds = holds
heard_holds k inputs.Checkpoint holds = holds

started_holds : (rs : List RedoRecord) → RootsHold (start_of rs)
unfolding start_of
started_holds rs n b has commits = let none : (session_at (replicate 64 fresh_session) n).root ≡ None = ap (λ s. s.root) (fresh_at n) in absurd (cc (none, has))

-- a turn at the end of a run
module _ (s : History) (lawful : IsLawfulRun s) (u : Turn) (k : NodeState) (may : MayTurn s.places (facts_at s) u k) where
  abbrev f : Facts
  f = facts_at s

  abbrev k0 : NodeState
  k0 = heard k u.input

  rests : NodeRests k0
  rests = heard_rests k u.input (subst (λ o. IfSome o NodeRests) may.up (run_roots s lawful u.node))

  before : Before u.input k0
  before = heard_before k u.input u.input (before_so s.places s.commands s.of_a_script.each f (events_of s) (births_of s) (run_births s lawful) (run_roots s lawful) u k may)

  rolls : RollsBelow u.input k0
  rolls from to came l live =
      asked_parent (births_of s) k (nodes_name_the_born s lawful u.node k may.up) from to
      (came_so (GoesSo (Began (births_of s))) f (messages_are_of_neighbors s lawful) k u.node u.input u.took may.comes from to kinds.Rollback came) l (sym (heard_live k u.input to) ∙ live)

  way : (l : Live) → live_at k0 l.me ≡ Some l → l.parent ≡ None → l.phase ≢ phases.Collecting false
  way l live top phase = (live_told s lawful u.node k may.up l (sym (heard_live k u.input l.me) ∙ live)).root top (ap way_of phase)

  alone : NoRows u.input → (b : BranchId) (l : Live) → live_at k0 b ≡ Some l → kept_row_at k0 b ≡ None
  alone none b l live = by (kept_row_at k0 b) refl
    where
      by : (o : Option KeptRow) → kept_row_at k0 b ≡ o → kept_row_at k0 b ≡ None
      by None is = is
      by (Some r) is =
          let gone : live_at k0 r.me ≡ None = all_found (λ (x : KeptRow). live_at k0 x.me ≡ None) kept_row_id k0.stored.durable.kept b r (before.either none) is in
          let here : live_at k0 b ≡ None = subst (λ c. live_at k0 c ≡ None) (item_is kept_row_id k0.stored.durable.kept b r is) gone in
          absurd (cc (here, live))

  pub known : Known u.input k0
  known = record {
    fit = rests.0;
    rolls = rolls;
    prepared = before.prepared;
    way = λ none. way;
    free = λ n st call rows commits. (let none = before.free n st call in absurd (cc (none, commits)));
    alone = alone;
  }

  turn_holds : RootsHold k → RootsHold (turn_of (place_at s.places u.node) k u.input).after
  unfolding turn_of
  turn_holds holds = holds_on (place_at s.places u.node) u.input (serves s.places f u k may).step known (heard_holds k u.input holds)

-- ---- every run

abbrev UpHold : Facts → Type 0
UpHold f = (n : ℕ) → IfSome (node_at f n) RootsHold

module _ (s : History) (lawful : IsLawfulRun s) (now : UpHold (facts_at s)) where
  goes_hold : (n : ℕ) {o : Option NodeState} {rs : List RedoRecord} → Goes s.places (facts_at s) n o rs → IfSome o RootsHold
  goes_hold n Stays = now n
  goes_hold n (Turns u k may here) = subst (λ m. RootsHold (turn_of (place_at s.places m) k u.input).after) here (turn_holds s lawful u k may (subst (λ o. IfSome o RootsHold) may.up (now u.node)))
  goes_hold n (Is_cut u k may here) = tt
  goes_hold n Stops = tt
  goes_hold n (Starts boot down next) = started_holds _

  hold_on : (h : Happening) → MayHappen s.places s.commands (facts_at s) h → UpHold (facts_after s.places s.commands (facts_at s) h)
  hold_on h may n = goes_hold n (goes_so s.places (facts_at s) s.commands (run_stands s lawful).0.even h n may)

first_hold : (places : List Place) → UpHold (first_facts places)
first_hold places n = first_node (λ o. IfSome o RootsHold) tt (started_holds (records.Boot 1 ∷ [])) places n

module _ (t : History) where
  abbrev Now : List Happening → Type 0
  Now hs = UpHold (f_at t hs)

  now_on : (before : List Happening) (h : Happening) → IsLawfulRun (so_far t before) → MayHappen t.places t.commands (f_at t before) h → Now before → Now (before ++ h ∷ [])
  now_on before h lawful may now = subst UpHold (sym (one_on t before h)) (hold_on (so_far t before) lawful now h may)

  pub roots_hold : IsLawfulRun t → (n : ℕ) (k : NodeState) → node_at (facts_at t) n ≡ Some k → RootsHold k
  unfolding facts_of
  roots_hold lawful n k up = subst (λ o. IfSome o RootsHold) up (keep_prefix t Now now_on lawful (first_hold t.places) n)
