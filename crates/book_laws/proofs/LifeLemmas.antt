-- With what hangs on the lives of branches, each turn of a lawful run writes and says what it may.
use Rattle.std.proofs.Common.{◌≡◌, ℕ, List, [], ◌∷◌, ◌++◌, Option, Some, None, refl}
use Rattle.std.specs.Prelude.{IfSome}
use Rattle.std.specs.Option.{option_to_list}
use Rattle.std.specs.List.{AllByRecursion}
use Rattle.node_rules.specs.Data.{BranchId, RedoRecord, Decided, Kind, Msg, Input, Place}
use Rattle.node_rules.specs.Data.records
use Rattle.node_rules.specs.Data.params
use Rattle.node_rules.specs.Data.kinds
use Rattle.node_rules.specs.NodeState.{NodeState}
use Rattle.run_rules.specs.Branches.{Trail, no_trail}
use Rattle.run_rules.specs.Data.{Happening, Command}
use Rattle.run_rules.specs.Data.happenings
use Rattle.run_rules.specs.Each.{EachFrom}
use Rattle.run_rules.specs.Facts.{Facts, first_facts, place_at, records_at, facts_after}
use Rattle.run_claims.specs.Knowledge.{MayWrite, MaySay, MayForget, KnowsEnough}
use Rattle.run_rules.specs.BranchRecords.{decided_in}
use Rattle.run_base_laws.specs.NodeLaws.{EachFactFrom, TellsRecorded, TellsRecords}
use Rattle.run_rules.specs.Trail.{trail_after}
use Rattle.run_base_laws.proofs.KnownLemmas.{commits_are_recorded}
use Rattle.book_laws.specs.LifeLaws.{IsWrittenByLife, IsSaidByLife, TurnKnowsLives, KnowsLives, LivesAreEnough}
use Rattle.book_laws.specs.WriteLaws.{IsToBeWritten, WritesDue}
use Rattle.book_laws.proofs.WriteLemmas.{records_are_due}

module _ (p : Place) (f : Facts) (tr after : Trail) (k : NodeState) (n : ℕ) (input : Input) where
  forgets : (b : BranchId) (o : Option Decided) → decided_in (records_at f b.node) b ≡ o → IsToBeWritten p f k n input (records.Forgot b) → IsWrittenByLife p f tr after k n input (records.Forgot b) → MayForget f after b input o
  forgets b None is due life = due is
  forgets b (Some r) is due life = life r is

  writes : (r : RedoRecord) → IsToBeWritten p f k n input r → IsWrittenByLife p f tr after k n input r → MayWrite p f tr after k n input r
  writes (records.Sealed r) due life = life
  writes (records.Decided r) due life = life
  writes (records.Forgot b) due life = forgets b (decided_in (records_at f b.node) b) refl due life
  writes (records.Boot m) due life = due tr after
  writes (records.Table t) due life = due tr after
  writes (records.Link l) due life = due tr after
  writes (records.Synonym y) due life = due tr after
  writes (records.Param (params.Recovery on)) due life = due tr after
  writes (records.Param (params.Strength strength)) due life = due tr after
  writes (records.Ended b d) due life = due tr after
  writes (records.Forced b d given) due life = due tr after
  writes (records.Met b d mixed) due life = due tr after
  writes (records.Hidden b) due life = due tr after
  writes (records.Image i) due life = due tr after

  wrote_all : (w : Option RedoRecord) → IfSome w (IsToBeWritten p f k n input) → IfSome w (IsWrittenByLife p f tr after k n input) → IfSome w (MayWrite p f tr after k n input)
  wrote_all None due life = tt
  wrote_all (Some r) due life = writes r due life

  module _ (rs : List RedoRecord) where
    says : (from to : BranchId) (kind : Kind) → TellsRecorded rs from kind → IsSaidByLife p f tr after rs input from to kind → MaySay p f tr after rs input from to kind
    says from to (kinds.Committed m) told life = told
    says from to (kinds.Exec call task) told life = life
    says from to kinds.Abort told life = life
    says from to kinds.ReadOnly told life = life
    says from to _ told life = tt

    said_all : (ms : List Msg) → AllByRecursion (λ m. TellsRecorded rs m.from m.kind) ms → AllByRecursion (λ m. IsSaidByLife p f tr after rs input m.from m.to m.kind) ms → AllByRecursion (λ m. MaySay p f tr after rs input m.from m.to m.kind) ms
    said_all [] told life = tt
    said_all (m ∷ ms) told life = (says m.from m.to m.kind told.0 life.0, said_all ms told.1 life.1)

module _ (places : List Place) (asked : List Command) where
  knows_so : (f : Facts) (tr : Trail) (h : Happening) → WritesDue places f h → TellsRecords places f h → KnowsLives places f tr h → KnowsEnough places f tr h
  knows_so f tr (happenings.Turn u) due told life = λ k up. (let lives : TurnKnowsLives places f tr u k = life k up in
      let after : Trail = trail_after places f tr (happenings.Turn u) in
      record {
        writes = wrote_all (place_at places u.node) f tr after k u.node u.input u.wrote (due k up) lives.writes;
        says = said_all (place_at places u.node) f tr after k u.node u.input (records_at f u.node ++ option_to_list u.wrote) u.sent told lives.says;
      })
  knows_so f tr _ due told life = tt

  each_knows : (f : Facts) (tr : Trail) (hs : List Happening) → EachFactFrom (WritesDue places) places asked f hs → EachFactFrom (TellsRecords places) places asked f hs → EachFrom (KnowsLives places) places asked f tr hs
      → EachFrom (KnowsEnough places) places asked f tr hs
  each_knows f tr [] due told life = tt
  each_knows f tr (h ∷ hs) due told life = (knows_so f tr h due.0 told.0 life.0, each_knows (facts_after places asked f h) (trail_after places f tr h) hs due.1 told.1 life.1)

pub lives_are_enough : LivesAreEnough
lives_are_enough t lawful life = each_knows t.places t.commands (first_facts t.places) no_trail t.trace (records_are_due t lawful) (commits_are_recorded t lawful) life
