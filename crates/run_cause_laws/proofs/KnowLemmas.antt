-- In every lawful run each turn writes and says what it may.
use Rattle.std.proofs.Common.{◌≡◌, ℕ, List, [], ◌∷◌, ◌++◌, Option, Some, None}
use Rattle.std.specs.Prelude.{IfSome}
use Rattle.std.specs.Option.{option_to_list}
use Rattle.std.specs.List.{AllByRecursion}
use Rattle.node_rules.specs.Data.{BranchId, RedoRecord, Kind, Msg, Input, Place}
use Rattle.node_rules.specs.Data.kinds
use Rattle.node_rules.specs.Data.tasks
use Rattle.node_rules.specs.Data.records
use Rattle.node_rules.specs.NodeState.{NodeState}
use Rattle.run_rules.specs.Branches.{Trail}
use Rattle.run_rules.specs.Data.{Happening}
use Rattle.run_rules.specs.Data.happenings
use Rattle.run_rules.specs.Each.{AtEach}
use Rattle.run_rules.specs.Facts.{Facts, place_at, records_at}
use Rattle.run_claims.specs.Headline.{EveryTurnKnows}
use Rattle.run_rules.specs.Lawful.{History, IsLawfulRun}
use Rattle.run_rules.specs.Trail.{trail_after}
use Rattle.tree_laws.proofs.PrefixLemmas.{f_at}
use Rattle.book_laws.specs.LifeLaws.{IsWrittenByLife, IsSaidByLife, KnowsLives}
use Rattle.book_laws.proofs.LifeLemmas.{lives_are_enough}
use Rattle.tree_trail_laws.specs.SeenLaws.{LeavesOnWhatCame, LeavesKnowing}
use Rattle.tree_trail_laws.proofs.SeenRunLemmas.{leaves_are_due}
use Rattle.tree_trail_laws.proofs.MomentLemmas.{tr_at, at_moment, by_moment}
use Rattle.run_cause_laws.specs.AbortLaws.{MayAbort, AbortsDuly}
use Rattle.run_cause_laws.specs.ForgetLaws.{SiteMayForget, ForgetsDuly}
use Rattle.run_cause_laws.specs.PassLaws.{MayExec, ExecsDuly}
use Rattle.run_cause_laws.specs.QuietLaws.{MaySayReadOnly, SaysReadOnlyDuly}
use Rattle.run_cause_laws.proofs.AbortLemmas.{aborts_are_due}
use Rattle.run_cause_laws.proofs.AckLemmas.{sites_forget_duly}
use Rattle.run_cause_laws.proofs.PassRunLemmas.{execs_pass_on}
use Rattle.run_cause_laws.proofs.QuietLemmas.{read_only_is_due}

module _ (p : Place) (f : Facts) (tr after : Trail) (k : NodeState) (n : ℕ) (input : Input) where
  writes : (w : Option RedoRecord) → IfSome w (LeavesOnWhatCame p f tr after k n input) → IfSome w (SiteMayForget f after input) → IfSome w (IsWrittenByLife p f tr after k n input)
  writes None leaves forgets = tt
  writes (Some (records.Sealed r)) leaves forgets = leaves
  writes (Some (records.Decided r)) leaves forgets = leaves
  writes (Some (records.Forgot b)) leaves forgets = forgets
  writes (Some _) leaves forgets = tt

  module _ (rs : List RedoRecord) where
    says_one : (b to : BranchId) (kind : Kind) → MayAbort p f tr after rs input b to kind → MayExec p f tr after rs input b to kind → MaySayReadOnly tr b kind → IsSaidByLife p f tr after rs input b to kind
    says_one b to kinds.Abort aborts passes quiets = aborts
    says_one b to (kinds.Exec call (tasks.Run given advice passed)) aborts passes quiets = passes
    says_one b to (kinds.Exec call (tasks.GoBack keep)) aborts passes quiets = passes
    says_one b to kinds.ReadOnly aborts passes quiets = quiets
    says_one b to _ aborts passes quiets = tt

    says : (ms : List Msg) → AllByRecursion (λ m. MayAbort p f tr after rs input m.from m.to m.kind) ms → AllByRecursion (λ m. MayExec p f tr after rs input m.from m.to m.kind) ms
        → AllByRecursion (λ m. MaySayReadOnly tr m.from m.kind) ms → AllByRecursion (λ m. IsSaidByLife p f tr after rs input m.from m.to m.kind) ms
    says [] aborts passes quiets = tt
    says (m ∷ ms) aborts passes quiets = (says_one m.from m.to m.kind aborts.0 passes.0 quiets.0, says ms aborts.1 passes.1 quiets.1)

module _ (t : History) (whole : IsLawfulRun t) where
  lives_at_one : (hs : List Happening) (h : Happening) (rest : List Happening) → hs ++ h ∷ rest ≡ t.trace → KnowsLives t.places (f_at t hs) (tr_at t hs) h
  lives_at_one hs (happenings.Turn u) rest is =
      λ k up. (let p : Place = place_at t.places u.node in
      let f : Facts = f_at t hs in
      let tr : Trail = tr_at t hs in
      let after : Trail = trail_after t.places (f_at t hs) (tr_at t hs) (happenings.Turn u) in
      let leaves : LeavesKnowing t.places (f_at t hs) (tr_at t hs) (happenings.Turn u) = at_moment t LeavesKnowing (leaves_are_due t whole) hs (happenings.Turn u) rest is in
      let forgets : ForgetsDuly t.places (f_at t hs) (tr_at t hs) (happenings.Turn u) = at_moment t ForgetsDuly (sites_forget_duly t whole) hs (happenings.Turn u) rest is in
      let aborts : AbortsDuly t.places (f_at t hs) (tr_at t hs) (happenings.Turn u) = at_moment t AbortsDuly (aborts_are_due t whole) hs (happenings.Turn u) rest is in
      let passes : ExecsDuly t.places (f_at t hs) (tr_at t hs) (happenings.Turn u) = at_moment t ExecsDuly (execs_pass_on t whole) hs (happenings.Turn u) rest is in
      let quiets : SaysReadOnlyDuly t.places (f_at t hs) (tr_at t hs) (happenings.Turn u) = at_moment t SaysReadOnlyDuly (read_only_is_due t whole) hs (happenings.Turn u) rest is in
      record {
        writes = writes p f tr after k u.node u.input u.wrote (leaves k up) forgets;
        says = says p f tr after k u.node u.input (records_at (f_at t hs) u.node ++ option_to_list u.wrote) u.sent aborts passes quiets;
      })
  lives_at_one hs _ rest is = tt

  knows_each : AtEach KnowsLives t
  knows_each = by_moment t KnowsLives lives_at_one

pub every_turn_knows : EveryTurnKnows
every_turn_knows t lawful = lives_are_enough t lawful (knows_each t lawful)
