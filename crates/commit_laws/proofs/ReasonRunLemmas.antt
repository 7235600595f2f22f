-- In every lawful run a live branch below a root leaves in a turn for a reason.
use Rattle.std.proofs.Common.{◌≡◌, List, [], ◌∷◌, ◌++◌, Some, refl, sym, subst, ◌∙◌}
use Rattle.std.proofs.lemmas.List.{append_assoc}
use Rattle.node_rules.specs.Data.{Input, Live, Place}
use Rattle.node_rules.specs.Data.inputs
use Rattle.node_rules.specs.Words.{item_at}
use Rattle.node_rules.specs.NodeState.{NodeState, TurnDraft, live_id, live_at}
use Rattle.node_rules.specs.Turn.{turn_of, heard, draft_of}
use Rattle.run_rules.specs.Data.{Turn, Happening}
use Rattle.run_rules.specs.Data.happenings
use Rattle.run_rules.specs.Facts.{Facts, place_at, node_at, facts_of}
use Rattle.run_rules.specs.Lawful.{MayTurn, History, IsLawfulRun}
use Rattle.run_base_laws.specs.NodeLaws.{EachFactFrom, AtEachFact}
use Rattle.run_base_laws.proofs.LawfulLemmas.{serves, turn_of_node}
use Rattle.run_base_laws.proofs.RootLemmas.{SessionsFit, sessions_keep}
use Rattle.run_base_laws.proofs.NodeLemmas.{kept_alone}
use Rattle.tree_laws.proofs.AnswerRunLemmas.{lives_heard}
use Rattle.tree_laws.proofs.PrefixLemmas.{so_far, f_at, one_on}
use Rattle.tree_laws.proofs.TimeLemmas.{part_of, part_lawful, may_of}
use Rattle.commit_laws.specs.LeaveLaws.{LeavesForReason, TurnsHaveReasons, LeaversHaveReasons}
use Rattle.commit_laws.proofs.ReasonLemmas.{stamped_quiet, leaves_on}

module _ (t : History) (So : List Place → Facts → Happening → Type 0) (so : (hs : List Happening) (h : Happening) (rest : List Happening) → hs ++ h ∷ rest ≡ t.trace → So t.places (f_at t hs) h) where
  each_from : (hs rest : List Happening) → hs ++ rest ≡ t.trace → EachFactFrom (So t.places) t.places t.commands (f_at t hs) rest
  each_from hs [] is = tt
  each_from hs (h ∷ rest) is = (so hs h rest is, subst (λ f. EachFactFrom (So t.places) t.places t.commands f rest) (one_on t hs h) (each_from (hs ++ h ∷ []) rest (append_assoc hs (h ∷ []) rest ∙ is)))

  -- what is so of each happening, by the facts before it, is a law
  pub by_fact : AtEachFact So t
  unfolding facts_of
  by_fact = each_from [] t.trace refl

heard_fits : (k : NodeState) → SessionsFit k → (input : Input) → SessionsFit (heard k input)
heard_fits k fit (inputs.Message m) = record { roots = fit.roots; above = fit.above }
heard_fits k fit (inputs.Call n s) = fit
heard_fits k fit (inputs.GiveUp n) = fit
heard_fits k fit inputs.Reco = fit
heard_fits k fit inputs.Checkpoint = fit

module _ (t : History) (whole : IsLawfulRun t) (hs : List Happening) (rest : List Happening) where
  turn_leaves : (u : Turn) → hs ++ happenings.Turn u ∷ rest ≡ t.trace → (k : NodeState) → node_at (f_at t hs) u.node ≡ Some k → LeavesForReason u.input k (turn_of (place_at t.places u.node) k u.input)
  unfolding turn_of
  turn_leaves u is k up b l live some none =
      let p : Place = place_at t.places u.node in
      let d : TurnDraft = draft_of p k u.input in
      let lawful : IsLawfulRun (so_far t hs) = part_lawful t whole hs (part_of t whole hs (happenings.Turn u) rest is) in
      let may : MayTurn t.places (f_at t hs) u k = turn_of_node t.places (f_at t hs) u k t.commands (may_of t whole hs (happenings.Turn u) rest is) up in
      let there : live_at (heard k u.input) b ≡ Some l = subst (λ (ls : List Live). item_at live_id ls b ≡ Some l) (sym (lives_heard k u.input)) live in
      leaves_on p u.input b l some (serves t.places (f_at t hs) u k may).step (heard_fits k (kept_alone SessionsFit sessions_keep (so_far t hs) lawful u.node k up) u.input) there none _ (stamped_quiet b d.after.clock d.says)

  reasons : (h : Happening) → hs ++ h ∷ rest ≡ t.trace → TurnsHaveReasons t.places (f_at t hs) h
  reasons (happenings.Turn u) is = turn_leaves u is
  reasons (happenings.Stopped n) is = tt
  reasons (happenings.Started n boot) is = tt
  reasons (happenings.Begun c) is = tt
  reasons (happenings.Cut a b) is = tt
  reasons (happenings.Join a b) is = tt
  reasons (happenings.Lost n) is = tt

pub leavers_have_reasons : LeaversHaveReasons
leavers_have_reasons t whole = by_fact t TurnsHaveReasons (λ hs h rest is. reasons t whole hs rest h is)
