-- In every lawful run the phases of live branches fit the answers of their children.
use Rattle.std.proofs.Common.{◌≡◌, ◌≢◌, ℕ, zero, suc, ◌||◌, not, Bool, true, false, List, [], ◌∷◌, ◌++◌, map, slice_get, slice_set, is_none, Option, Some, None, refl, sym, ap, subst, ◌∙◌}
use Rattle.std.specs.List.{AllByRecursion, list_any}
use Rattle.std.proofs.lemmas.Bool.{cond_both, not-true}
use Rattle.std.proofs.lemmas.List.Folds.{list_any-append}
use Rattle.node_rules.specs.Data.{BranchId, Edge, Vote, Phase, Live, Act, RedoRecord, Place, Input}
use Rattle.node_rules.specs.Data.votes
use Rattle.node_rules.specs.Data.phases
use Rattle.node_rules.specs.Data.records
use Rattle.node_rules.specs.Words.{numbered, set_numbered}
use Rattle.session_tree.specs.Live.{new_edge}
use Rattle.node_rules.specs.NodeState.{NodeState, TurnDraft, live_at}
use Rattle.node_rules.specs.Prepare.{is_awaited, collecting, with_comment, with_prepare_sent, voted, has_voted, answers_first}
use Rattle.node_rules.specs.Turn.{start_of}
use Rattle.node_rules.proofs.Steps as steps
use Rattle.node_rules.proofs.Steps.{Step, Collected, Pointed, Acting}
use Rattle.run_branch_laws.specs.PhaseLaws.{IsUnasked, IsNoAbort, PhaseFits, PhasesFit}
use Rattle.run_rules.proofs.ListLemmas.{all_weaker, all_append, all_map}
use Rattle.run_base_laws.proofs.LiveStepLemmas.{LiveCases, LeftBy, nothing_lasts, lives_on}
use Rattle.run_base_laws.proofs.NodeLemmas.{Keeps, node_keeps}
use Rattle.run_base_laws.proofs.NeighborLemmas.{reply_is}

-- ---- edges

-- an edge is awaited
abbrev awaited : Edge → Bool
awaited e = is_awaited e.vote

module _ (P : Edge → Type 0) where
  pub slice_all : (es : List Edge) (i : ℕ) (e : Edge) → AllByRecursion P es → slice_get es i ≡ Some e → P e
  slice_all [] i e all is = absurd cc
  slice_all (x ∷ es) zero e all is = subst P (let it : Some x ≡ Some e = is in cc) all.0
  slice_all (x ∷ es) (suc i) e all is = slice_all es i e all.1 is

  pub slice_set_all : (es : List Edge) (i : ℕ) (e : Edge) → AllByRecursion P es → P e → AllByRecursion P (slice_set es i e)
  slice_set_all [] i e all so = tt
  slice_set_all (x ∷ es) zero e all so = (so, all.1)
  slice_set_all (x ∷ es) (suc i) e all so = (all.0, slice_set_all es i e all.1 so)

any_set : (es : List Edge) (i : ℕ) (e x : Edge) → slice_get es i ≡ Some e → awaited x ≡ awaited e → list_any awaited (slice_set es i x) ≡ list_any awaited es
any_set [] i e x at same = absurd cc
any_set (y ∷ es) zero e x at same = ap (λ q. q || list_any awaited es) (same ∙ ap awaited (let it : Some y ≡ Some e = at in let here : e ≡ y = cc in here))
any_set (y ∷ es) (suc i) e x at same = ap (λ q. awaited y || q) (any_set es i e x at same)

-- one more that was not asked
more_fits : (parent : Option BranchId) (es : List Edge) (e : Edge) (phase : Phase) → e.vote ≡ votes.Unasked → PhaseFits parent es phase → PhaseFits parent (es ++ e ∷ []) phase
more_fits parent es e phases.Working is fits = all_append IsUnasked es (e ∷ []) fits (is, tt)
more_fits parent es e (phases.Collecting site_below) is fits =
    (all_append IsNoAbort es (e ∷ []) fits.0 ((λ abort. absurd (cc (is, abort))), tt), list_any-append awaited es (e ∷ []) ∙ ap (λ q. q || list_any awaited (e ∷ [])) fits.1)
more_fits parent es e phases.Ready is fits = (
  all_append IsNoAbort es (e ∷ []) fits.0 ((λ abort. absurd (cc (is, abort))), tt),
  list_any-append awaited es (e ∷ []) ∙ (ap (λ q. q || list_any awaited (e ∷ [])) fits.1 ∙ ap (λ v. is_awaited v || false) is),
  fits.2,
)

-- one of which more is known
known_fits : (parent : Option BranchId) (es : List Edge) (i : ℕ) (e x : Edge) (phase : Phase) → slice_get es i ≡ Some e → x.vote ≡ e.vote → PhaseFits parent es phase → PhaseFits parent (slice_set es i x) phase
known_fits parent es i e x phases.Working at same fits = slice_set_all IsUnasked es i x fits (same ∙ slice_all IsUnasked es i e fits at)
known_fits parent es i e x (phases.Collecting site_below) at same fits = (
  slice_set_all IsNoAbort es i x fits.0 (λ abort. slice_all IsNoAbort es i e fits.0 at (sym same ∙ abort)),
  any_set es i e x at (ap is_awaited same) ∙ fits.1,
)
known_fits parent es i e x phases.Ready at same fits = (
  slice_set_all IsNoAbort es i x fits.0 (λ abort. slice_all IsNoAbort es i e fits.0 at (sym same ∙ abort)),
  any_set es i e x at (ap is_awaited same) ∙ fits.1,
  fits.2,
)

numbered_fits : (parent : Option BranchId) (es : List Edge) (i : ℕ) (e x : Edge) (phase : Phase) → numbered es i ≡ Some e → x.vote ≡ e.vote → PhaseFits parent es phase → PhaseFits parent (set_numbered es i x) phase
numbered_fits parent es zero e x phase at same fits = fits
numbered_fits parent es (suc i) e x phase at same fits = known_fits parent es i e x phase at same fits

-- ---- acts

asked_none : (es : List Edge) → AllByRecursion IsNoAbort (map with_prepare_sent es)
asked_none [] = tt
asked_none (e ∷ es) = ((λ abort. absurd cc), asked_none es)

asked_some : (es xs : List Edge) (e : Edge) → es ≡ e ∷ xs → list_any awaited (map with_prepare_sent es) ≡ true
asked_some es xs e is = ap (λ (ys : List Edge). list_any awaited (map with_prepare_sent ys)) is

voted_none : (from : BranchId) (v : Vote) → v ≢ votes.Abort → (es : List Edge) → AllByRecursion IsNoAbort es → AllByRecursion IsNoAbort (map (has_voted from v) es)
voted_none from v other es all =
    all_map IsNoAbort (has_voted from v) es (all_weaker IsNoAbort _ (λ e so. cond_both (answers_first from e) (record e { vote = v }) e IsNoAbort (λ first. other) (λ again. so)) es all)

abbrev Fits : Live → Type 0
Fits l = PhaseFits l.parent l.edges l.phase

parent_there : (o : Option BranchId) → is_none o ≡ false → o ≢ None
parent_there None is none = absurd cc
parent_there (Some b) is none = absurd cc

module _ (l : Live) where
  collected_fits : {site_below : Bool} {a : Act} → AllByRecursion IsNoAbort l.edges → list_any awaited l.edges ≡ false → Collected l site_below a → LeftBy Fits l a
  collected_fits none all (steps.Has_nothing is) = tt
  collected_fits none all (steps.Is_prepared is) = tt
  collected_fits none all (steps.Awaits_point is) = (none, all, parent_there l.parent is)
  collected_fits none all (steps.Passes i root is) = tt
  collected_fits none all (steps.Is_site root is) = tt
  collected_fits none all (steps.Has_no_site root is) = tt

  pointed_fits : {a : Act} → PhaseFits l.parent l.edges l.phase → Pointed l a → LeftBy Fits l a
  pointed_fits fits (steps.Points_on i is) = tt
  pointed_fits fits (steps.Points_here is) = tt
  pointed_fits fits (steps.Points_nowhere is) = fits

module _ (k : NodeState) (live_fits : (l : Live) → live_at k l.me ≡ Some l → Fits l) where
  -- a collecting branch holds no Abort
  collecting_none : (l : Live) (site_below : Bool) → live_at k l.me ≡ Some l → l.phase ≡ phases.Collecting site_below → AllByRecursion IsNoAbort l.edges
  collecting_none l site_below live is = let fits : PhaseFits l.parent l.edges (phases.Collecting site_below) = subst (PhaseFits l.parent l.edges) is (live_fits l live) in fits.0

  acting_fits : {input : Input} {l : Live} {site_below : Bool} {a : Act} → Acting k input l site_below a → LeftBy Fits l a
  acting_fits (steps.Asks_down l comment site_below e es live begins has) = (asked_none l.edges, asked_some l.edges es e has)
  acting_fits (steps.Has_no_children l comment site_below a live begins none collected) =
      collected_fits (collecting (with_comment l comment) site_below) (asked_none l.edges) (ap (λ (ys : List Edge). list_any awaited (map with_prepare_sent ys)) none) collected
  acting_fits (steps.Hears_abort l from site_below live answers) = tt
  acting_fits (steps.Waits_on l from v site_below live answers other some) =
      subst (PhaseFits l.parent (voted l from v).edges) (sym answers.collecting)
      (voted_none from v other l.edges (collecting_none l site_below live answers.collecting), awaited_so (list_any awaited (voted l from v).edges) some)
    where
      awaited_so : (q : Bool) → not q ≡ false → q ≡ true
      awaited_so true is = refl
      awaited_so false is = absurd cc
  acting_fits (steps.Hears_last l from v site_below a live answers other all_so collected) =
      collected_fits (voted l from v) (voted_none from v other l.edges (collecting_none l site_below live answers.collecting)) (not-true (list_any awaited (voted l from v).edges) all_so) collected
  acting_fits (steps.At_point l from a live came is pointed) = pointed_fits l (live_fits l live) pointed

each : (p : Place) (input : Input) → LiveCases p input (λ k. Unit {0}) (λ d. Unit {0}) Fits
each p input = record {
  lasts = nothing_lasts p input;
  root = λ k n s read_at call begins free c. tt;
  child = λ k to parent edge root depth read_at came new c. tt;
  advised = λ l advice fits. fits;
  runs = λ k x s t fits. fits;
  backs = λ l changed fits. fits;
  opens = λ k x from strength g link opened c fits. more_fits x.live.parent x.live.edges (new_edge from link strength) x.live.phase refl fits;
  replies = λ k x weight count a i e answered fits. numbered_fits x.live.parent x.live.edges i e _ x.live.phase (reply_is x answered.from answered.call i e answered.waits) refl fits;
  acts = λ k l below a why c q all. acting_fits k all why;
}

-- each step keeps it
fits_on : (p : Place) (input : Input) {k : NodeState} {d : TurnDraft} → Step p input k d → AllByRecursion Fits k.lives → AllByRecursion Fits d.after.lives
fits_on p input step all = lives_on (each p input) step tt tt all

starts_fit : (rs : List RedoRecord) → AllByRecursion Fits (start_of rs).lives
unfolding start_of
starts_fit rs = tt

phases_kept : Keeps (λ p rs. Unit {0}) (λ p rs k. AllByRecursion Fits k.lives)
phases_kept = record {
  empty = λ p. tt;
  starts = λ p rs boot disk next. starts_fit (rs ++ records.Boot boot ∷ []);
  hears = λ p rs k scn now. now;
  steps = λ p rs input k d step now. fits_on p input step now;
  rests = λ p rs k now. tt;
}

pub phases_fit : PhasesFit
phases_fit = node_keeps (λ p rs. Unit {0}) (λ p rs k. AllByRecursion Fits k.lives) phases_kept
