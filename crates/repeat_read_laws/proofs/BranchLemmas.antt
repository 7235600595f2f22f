-- A live branch is of the last start of its node. So while it lives the node goes on without a start, and what a READ ONLY
-- transaction reads there by this branch stays.
use Rattle.std.proofs.Common.{◌≡◌, ℕ, ◌≤◌, ◌++◌, List, IfSome, take, drop, Some, sym, ap, subst, ◌∙◌}
use Rattle.std.specs.List.{AllByRecursion}
use Rattle.std.specs.Option.{option_to_list}
use Rattle.std.proofs.lemmas.List.{take-append-drop}
use Rattle.tran_ids.proofs.ListedLemmas.{item_is}
use Rattle.node_rules.specs.Data.{BranchId, Live, Place, Input, RedoRecord}
use Rattle.node_rules.specs.NodeState.{NodeState, TurnDraft, live_id, live_at}
use Rattle.node_rules.specs.Turn.{start_of}
use Rattle.node_rules.proofs.Steps.{Step}
use Rattle.run_rules.specs.Each.{facts_upto}
use Rattle.run_rules.specs.Facts.{node_at, records_at}
use Rattle.run_rules.specs.Lawful.{History, IsLawfulRun, boots}
use Rattle.run_rules.proofs.BootLemmas.{step_of_turn, boots_with}
use Rattle.run_base_laws.proofs.FreshLemmas.{Disk, Node, nodes}
use Rattle.run_base_laws.proofs.LiveStepLemmas.{LiveCases, LastsInTurn, acting_by, left_by, lives_on}
use Rattle.run_base_laws.proofs.NodeLemmas.{Keeps, node_keeps}
use Rattle.run_base_laws.proofs.OwnLemmas.{all_found}
use Rattle.tree_laws.proofs.PrefixLemmas.{so_far}
use Rattle.tree_laws.proofs.TimeLemmas.{Part, part_lawful}
use Rattle.repeat_read_laws.specs.RepeatLaws.{ReadsBelow, EveryReaderReadsTheSame}
use Rattle.repeat_read_laws.proofs.BetweenLemmas.{every_read_stays}
use Rattle.repeat_read_laws.proofs.ReaderLemmas.{every_reader_is_below}

-- ---- the start of a branch

abbrev IsOfStart : ℕ → Live → Type 0
IsOfStart start l = l.me.boot ≡ start

module _ (start : ℕ) (p : Place) (input : Input) where
  abbrev HasStarted : NodeState → Type 0
  HasStarted k = k.stored.durable.boot ≡ start

  lasts : LastsInTurn p input HasStarted
  lasts = record {
    begun = λ k n s read_at call begins free so. so;
    counts = λ k n s call is so. so;
    backs = λ k x step goes so. so;
    pends = λ k n l given call has so. so;
    lets = λ k b so. so;
    acked = λ k s from kept came so. so;
  }

  each : LiveCases p input HasStarted (λ d. Unit {0}) (IsOfStart start)
  each = record {
    lasts = lasts;
    root = λ k n s read_at call begins free is. is;
    child = λ k to parent edge root depth read_at came new is. is;
    advised = λ l advice so. so;
    runs = λ k x s t so. so;
    backs = λ l changed so. so;
    opens = λ k x from strength g link opened is so. so;
    replies = λ k x weight count a i e answered so. so;
    acts = λ k l below a why is q all. left_by (IsOfStart start) l a (λ says so. so) (acting_by (IsOfStart start) (λ x comment b live begins so. so) (λ x from v b answers so. so) all why);
  }

-- a node, and its live branches of this start
abbrev LivesNow : List RedoRecord → NodeState → Type 0
LivesNow rs k = Node rs k × AllByRecursion (IsOfStart (boots rs)) k.lives

steps_on : (p : Place) (rs : List RedoRecord) (input : Input) (k : NodeState) (d : TurnDraft) → Step p input k d → LivesNow rs k → LivesNow (rs ++ option_to_list d.wrote) d.after
steps_on p rs input k d step now = (
  nodes.steps p rs input k d step now.0,
  subst (λ start. AllByRecursion (IsOfStart start) d.after.lives) (sym (boots_with rs d.wrote (step_of_turn p input step)))
      (lives_on (each (boots rs) p input) step (ap (λ s. s.durable.boot) now.0.stored ∙ now.0.boot) tt now.1),
)

lives_keep : Keeps (λ p rs. Disk rs) (λ p rs k. LivesNow rs k)
unfolding start_of
lives_keep = record {
  empty = nodes.empty;
  starts = λ p rs boot disk next. (nodes.starts p rs boot disk next, tt);
  hears = λ p rs k scn now. (nodes.hears p rs k scn now.0, now.1);
  steps = λ p rs input k d step now. steps_on p rs input k d step now;
  rests = λ p rs k now. nodes.rests p rs k now.0;
}

-- ---- two moments

module _ (t : History) (whole : IsLawfulRun t) (i : ℕ) (n : ℕ) (k : NodeState) (up : node_at (facts_upto t i) n ≡ Some k) (b : BranchId) (l : Live) (live : live_at k b ≡ Some l) where
  part : Part t whole (take i t.trace)
  part = record { rest = drop i t.trace; is = take-append-drop i t.trace }

  lawful : IsLawfulRun (so_far t (take i t.trace))
  lawful = part_lawful t whole (take i t.trace) part

  of_start : b.boot ≡ boots (records_at (facts_upto t i) n)
  of_start =
      let all = (node_keeps (λ p rs. Disk rs) (λ p rs j. LivesNow rs j) lives_keep (so_far t (take i t.trace)) lawful n k up).1 in
      ap (λ (c : BranchId). c.boot) (sym (item_is live_id k.lives b l live)) ∙ all_found (IsOfStart (boots (records_at (facts_upto t i) n))) live_id k.lives b l all live

  below : (scn : ℕ) → l.read_at ≡ Some scn → scn ≤ k.clock
  below scn reads =
      let all = every_reader_is_below (so_far t (take i t.trace)) lawful n k up in
      subst (λ o. IfSome o (λ s. s ≤ k.clock)) reads (all_found (ReadsBelow k.clock) live_id k.lives b l all live)

pub every_reader_reads_the_same : EveryReaderReadsTheSame
every_reader_reads_the_same t whole i j le n k later up up_later b l last live live_later scn reads unforced table key certain =
    every_read_stays t whole i j le n k up (sym (of_start t whole j n later up_later b last live_later) ∙ of_start t whole i n k up b l live) scn (below t whole i n k up b l live scn reads) unforced table key certain
