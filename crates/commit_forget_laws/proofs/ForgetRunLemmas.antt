-- In every lawful run a branch that has forgotten told so to each neighbour beyond that is not gone without changes, and was
-- told so by toward, where it is not the site. Unless its node has stopped.
use Rattle.std.proofs.Common.{◌≡◌, ◌⊎◌, Bool, true, false, List, [], ◌∷◌, ◌++◌, map, Some, inl, inr, refl, sym, ap, subst, ◌∙◌, append-nil}
use Rattle.std.specs.Prelude.{IfSome}
use Rattle.std.specs.List.{AllByRecursion}
use Rattle.tran_ids.proofs.ListedLemmas.{item_is}
use Rattle.session_tree.specs.Live.{is_branch}
use Rattle.agreement.specs.Events.{Forest, Quiet, Forget, Send_forgotten, Beyond, exit, Has, site_of}
use Rattle.node_rules.specs.Data.{BranchId, Place, Post, KeptRow}
use Rattle.node_rules.specs.Data.kinds
use Rattle.node_rules.specs.Data.records
use Rattle.node_rules.specs.NodeState.{NodeState, TurnDraft, kept_row_id}
use Rattle.node_rules.specs.Commit.{to_beyond}
use Rattle.node_rules.specs.Turn.{turn_of, draft_of}
use Rattle.run_rules.specs.Data.{Happening, Turn}
use Rattle.run_rules.specs.Data.happenings
use Rattle.run_base_laws.specs.EventLaws.{EachEventFrom}
use Rattle.run_rules.specs.Facts.{first_facts, place_at, facts_after}
use Rattle.run_base_laws.specs.IdLaws.{IsRecordOf}
use Rattle.run_base_laws.specs.InTurnLaws.{post_of, said_in}
use Rattle.run_rules.specs.Lawful.{IsOwed, MayHappen, MayTurn, History, IsLawfulRun, facts_at}
use Rattle.run_base_laws.specs.RunEvents.{events_after, events_from, events_of}
use Rattle.run_branch_laws.specs.TowardLaws.{IsRowLike, ForgetsSo, GoesByRow, WritesByRow}
use Rattle.run_branch_laws.specs.WalkLaws.{was_sent}
use Rattle.run_base_laws.proofs.EventsStandLemmas.{node_so, owned_so, run_stands}
use Rattle.run_base_laws.proofs.LaterLemmas.{Added, Any, exit_later, has_later}
use Rattle.run_base_laws.proofs.LawfulLemmas.{serves}
use Rattle.run_base_laws.proofs.OwnLemmas.{all_found}
use Rattle.run_base_laws.proofs.SaidPostLemmas.{posts_back, posts_of, said_after}
use Rattle.run_branch_laws.proofs.TowardLemmas.{heard_rows, turns_go_by_rows}
use Rattle.run_base_laws.proofs.TurnEventLemmas.{record_own}
use Rattle.tree_laws.specs.BeyondLaws.{IsNamed}
use Rattle.tree_laws.specs.Forests.{forest_of}
use Rattle.tree_laws.specs.NameLaws.{RowNames, NodesName}
use Rattle.tree_laws.proofs.AskLemmas.{sent_more, sent_new}
use Rattle.tree_laws.proofs.ClearLemmas.{not_back}
use Rattle.tree_laws.proofs.ForestRunLemmas.{runs_have_forests}
use Rattle.tree_laws.proofs.NameLemmas.{rows_name_beyond}
use Rattle.tree_laws.proofs.PrefixLemmas.{so_far, f_at, e_at, one_on, more_on}
use Rattle.tree_laws.proofs.RowLemmas.{kid_branch}
use Rattle.tree_laws.proofs.TimeLemmas.{may_of, each_at, keep_on}
use Rattle.commit_laws.specs.WaitLaws.{NodeHasStopped}
use Rattle.commit_laws.proofs.StopLemmas.{stopped_on, cut_stops}
use Rattle.commit_forget_laws.specs.ForgetLaws.{is_forgotten, ToldForgotten, ForgetsAreTold, ForgetsComeFromToward}
use Rattle.tree_laws.proofs.MoreLemmas.{happening_added, inv_at}
use Rattle.commit_forget_laws.proofs.EventLemmas.{forgot_left, turn_back, stop_back, wrote_back}
use Rattle.commit_forget_laws.proofs.ForgetStepLemmas.{SaysForgot, forgot_says, same_kids, beyond_told}
use Rattle.tree_laws.proofs.FitRowLemmas.{RowFits, rows_fit}
use Rattle.tree_laws.proofs.AtTurn.{at_happening}

module _ (t : History) (whole : IsLawfulRun t) (b : BranchId) where
  abbrev p : Forest
  p = forest_of t

  -- it told all beyond
  abbrev Told : List Happening → Type 0
  Told hs = (x : BranchId) → Beyond p x b → (was_sent is_forgotten (said_in (f_at t hs)) b x ≡ true) ⊎ (exit (e_at t hs) x ≡ Some Quiet)

  -- it is the site, or was told
  abbrev Came_to : List Happening → Type 0
  Came_to hs = (b ≡ site_of p b) ⊎ Has (Send_forgotten (p.toward b) b) (e_at t hs)

  abbrev Forgets : List Happening → Type 0
  Forgets hs = Has (Forget b) (e_at t hs) → (Told hs ⊎ NodeHasStopped (f_at t hs) b) × Came_to hs

  module _ (hs : List Happening) (h : Happening) (rest : List Happening) (is : hs ++ h ∷ rest ≡ t.trace) (now : Forgets hs) where
    open at_happening t whole hs h rest is use {f, e, after, part, lawful}

    said_is : said_in (f_at t after) ≡ said_in f ++ posts_of h
    said_is = ap said_in (one_on t hs h) ∙ said_after t.places t.commands f h

    added : Added Any e (e_at t after)
    added = subst (Added Any e) (sym (more_on t hs h)) (happening_added t.places t.commands f h e)

    came_stays : Came_to hs → Came_to after
    came_stays (inl site) = inl site
    came_stays (inr told) = inr (has_later (Send_forgotten (p.toward b) b) added told)

    told_stays : Told hs → Told after
    told_stays told x edge = elim (told x edge) [
      | inl sent ↦ inl (subst (λ xs. was_sent is_forgotten xs b x ≡ true) (sym said_is) (sent_more is_forgotten (said_in f) (posts_of h) b x sent))
      | inr quiet ↦ inr (exit_later x Quiet added quiet)
    ]

    old_on : Has (Forget b) e → (Told after ⊎ NodeHasStopped (f_at t after) b) × Came_to after
    old_on has =
        let was = now has in (
          elim was.0 [
            | inl told ↦ inl (told_stays told)
            | inr stopped ↦ inr (stopped_on t whole b hs h rest is (forgot_left p e (inv_at t whole hs part) b has) stopped)
          ],
          came_stays was.1,
        )

    -- ---- the turn in which it forgets

    module _ (u : Turn) (k : NodeState) (may : MayTurn t.places f u k) (turn : h ≡ happenings.Turn u) (wrote : u.wrote ≡ Some (records.Forgot b)) where
      abbrev place : Place
      place = place_at t.places u.node

      abbrev d : TurnDraft
      d = draft_of place k u.input

      abbrev ks : List KeptRow
      ks = k.stored.durable.kept

      node : b.node ≡ u.node
      node = subst (λ o. IfSome o (IsRecordOf (λ c. c.node ≡ u.node))) wrote
          (record_own t.places t.commands t.of_a_script.each f e u k (run_stands (so_far t hs) lawful).1 (run_stands (so_far t hs) lawful).0.even
          (node_so t.places t.commands t.of_a_script.each f e (run_stands (so_far t hs) lawful)) (owned_so t.places t.commands t.of_a_script.each f e (run_stands (so_far t hs) lawful)) may)

      goes : ForgetsSo e ks b
      goes =
          let each : WritesByRow f e h
          = each_at t.places t.commands WritesByRow (first_facts t.places) hs h rest [] (subst (EachEventFrom WritesByRow t.places t.commands (first_facts t.places) []) (sym is) (turns_go_by_rows t whole)) in
          subst (λ o. IfSome o (GoesByRow e ks)) wrote (subst (WritesByRow f e) turn each k may.up)

      names : AllByRecursion (RowNames p e) ks
      names =
          each_at t.places t.commands (NodesName p) (first_facts t.places) hs h rest [] (subst (EachEventFrom (NodesName p) t.places t.commands (first_facts t.places) []) (sym is) (rows_name_beyond t whole)) u.node k may.up

      ways : AllByRecursion (λ s. RowFits p s.me s.toward) ks
      ways = rows_fit t whole hs part u.node k may.up

      module _ (s : KeptRow) (like : IsRowLike ks b s) where
        abbrev row : KeptRow
        row = like.row

        me : row.me ≡ b
        me = item_is kept_row_id ks b row like.stands

        mine : s.me ≡ b
        mine = ap (λ (y : KeptRow). y.me) like.like ∙ me

        way : RowFits p b s.toward
        way =
            subst (RowFits p b) (sym (ap (λ (y : KeptRow). y.toward) like.like))
            (subst (λ c. RowFits p c row.toward) me (all_found (λ (y : KeptRow). RowFits p y.me y.toward) kept_row_id ks b row ways like.stands))

        apart : (x : BranchId) → Beyond p x b → is_branch x s.toward ≡ false
        apart x edge = elim way [
          | inl on ↦ ap (is_branch x) on.0 ∙ not_back p (runs_have_forests t whole) x b (p.toward b) edge on.1 on.2 refl
          | inr site ↦ ap (is_branch x) site.0
        ]

        tells : (says : List Post) → says ≡ to_beyond s kinds.Forgotten → (x : BranchId) → Beyond p x b → (was_sent is_forgotten says b x ≡ true) ⊎ (exit e x ≡ Some Quiet)
        tells says it x edge =
            let named : RowNames p e row = all_found (RowNames p e) kept_row_id ks b row names like.stands in
            elim (named x (subst (λ c. Beyond p x c) (sym me) edge)) [
              | inr quiet ↦ inr quiet
              | inl here ↦ (let there : IsNamed s.parent (map kid_branch s.children) x
                  = subst (λ cs. IsNamed s.parent cs x) (sym (same_kids s row (ap (λ (y : KeptRow). y.children) like.like))) (subst (λ o. IsNamed o (map kid_branch row.children) x) (sym (ap (λ (y : KeptRow). y.parent) like.like)) here) in
                  let told : was_sent is_forgotten (to_beyond s kinds.Forgotten) s.me x ≡ true = beyond_told s x (apart x edge) there in
                  inl (subst (λ xs. was_sent is_forgotten xs b x ≡ true) (sym it) (subst (λ c. was_sent is_forgotten (to_beyond s kinds.Forgotten) c x ≡ true) mine told)))
            ]

      came_now : Came_to hs
      came_now = elim goes.2 [
        | inl site ↦ elim (way goes.0 goes.1) [ inl on ↦ (let none = site.0 in let some = on.0 in absurd (cc (none, some))) | inr it ↦ inl it.1 ]
        | inr told ↦ elim (way goes.0 goes.1) [
          | inl on ↦ (let both : Some told.0 ≡ Some (p.toward b) = sym told.1 ∙ on.0 in let it : told.0 ≡ p.toward b = cc in inr (subst (λ q. Has (Send_forgotten q b) e) it told.2))
          | inr site ↦ inl site.1
        ]
      ]

      told_by : (cut : Bool) → u.cut ≡ cut → IsOwed place k u.input u.wrote u.sent cut → Told after ⊎ NodeHasStopped (f_at t after) b
      unfolding turn_of
      told_by true cut owed = inr (cut_stops t whole b hs h rest is u turn k may.up (sym node) cut)
      told_by false cut owed =
          let posts : posts_of (happenings.Turn u) ≡ d.says = ap (λ xs. map post_of xs) owed.1 ∙ posts_back d.after.clock d.says in
          let its : posts_of h ≡ d.says = ap posts_of turn ∙ posts in
          let says : IfSome d.wrote (SaysForgot ks d.says) = subst (λ (rows : List KeptRow). IfSome d.wrote (SaysForgot rows d.says)) (heard_rows k u.input) (forgot_says place u.input (serves t.places f u k may).step) in
          let row : SaysForgot ks d.says (records.Forgot b) = subst (λ o. IfSome o (SaysForgot ks d.says)) (sym owed.0 ∙ wrote) says in
          inl (λ x edge. elim (tells row.0 row.1 d.says row.2 x edge) [
            | inl sent ↦ inl (subst (λ xs. was_sent is_forgotten xs b x ≡ true) (sym (said_is ∙ ap (λ ys. said_in f ++ ys) its)) (sent_new is_forgotten (said_in f) d.says b x sent))
            | inr quiet ↦ inr (exit_later x Quiet added quiet)
          ])

      new_on : (Told after ⊎ NodeHasStopped (f_at t after) b) × Came_to after
      new_on = (told_by u.cut refl may.owed, came_stays came_now)

    forgets_by : (y : Happening) → h ≡ y → MayHappen t.places t.commands f y → Has (Forget b) (events_after t.places t.commands f y e) → (Told after ⊎ NodeHasStopped (f_at t after) b) × Came_to after
    forgets_by (happenings.Turn u) turn may has = elim (wrote_back b u.node u.wrote e (turn_back b f (facts_after t.places t.commands f (happenings.Turn u)) u e has)) [
      | inl old ↦ old_on old
      | inr new ↦ new_on u may.0 may.1 turn new
    ]
    forgets_by (happenings.Stopped n) it may has = old_on (stop_back b f n e has)
    forgets_by (happenings.Started n boot) it may has = old_on has
    forgets_by (happenings.Begun c) it may has = old_on has
    forgets_by (happenings.Cut x y) it may has = old_on has
    forgets_by (happenings.Join x y) it may has = old_on has
    forgets_by (happenings.Lost n) it may has = old_on has

    forgets_on : Forgets after
    forgets_on has = forgets_by h refl (may_of t whole hs h rest is) (subst (Has (Forget b)) (more_on t hs h) has)

  first : Forgets []
  unfolding events_from
  first none = absurd none

  pub forgets_end : Has (Forget b) (events_of t) → (ToldForgotten t b ⊎ NodeHasStopped (facts_at t) b) × ((b ≡ site_of p b) ⊎ Has (Send_forgotten (p.toward b) b) (events_of t))
  forgets_end has =
      let all : Forgets t.trace = keep_on t whole Forgets forgets_on [] t.trace (record { rest = []; is = append-nil t.trace }) first in
      all has

pub forgets_are_told : ForgetsAreTold
forgets_are_told t whole b has = (forgets_end t whole b has).0

pub forgets_come_from_toward : ForgetsComeFromToward
forgets_come_from_toward t whole b has sealed = elim (forgets_end t whole b has).1 [
  | inl site ↦ absurd (((inv_at t whole t.trace (record { rest = []; is = append-nil t.trace })).sealed_in b sealed.0 sealed.1).1 site)
  | inr told ↦ told
]
