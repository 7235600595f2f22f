-- In every lawful run a sealed branch that told a child that the walk to the commit point site comes there has sent it
-- CommitPoint in the turn of its seal, or that turn was cut and its node has stopped.
use Rattle.std.proofs.Common.{◌≡◌, ◌≢◌, Bool, true, false, List, [], ◌∷◌, ◌++◌, map, Option, Some, None, inl, inr, refl, sym, ap, subst, ◌∙◌}
use Rattle.std.specs.Prelude.{◌⊎◌}
use Rattle.agreement.specs.Events.{Exit, Sealed, Dropped, exit}
use Rattle.node_rules.specs.Data.{BranchId, Live, RedoRecord}
use Rattle.node_rules.specs.Data.kinds
use Rattle.node_rules.specs.Data.records
use Rattle.node_rules.specs.NodeState.{to_one}
use Rattle.node_rules.specs.Turn.{turn_of, heard}
use Rattle.session_tree.specs.Live.{peer_of}
use Rattle.run_rules.specs.Data.{Turn, Happening}
use Rattle.run_rules.specs.Data.happenings
use Rattle.run_base_laws.specs.InTurnLaws.{post_of, said_in}
use Rattle.run_rules.specs.Lawful.{IsOwed, History, IsLawfulRun, facts_at}
use Rattle.run_base_laws.specs.RunEvents.{events_after}
use Rattle.run_branch_laws.specs.WalkLaws.{is_below, was_sent}
use Rattle.run_base_laws.proofs.EventsStandLemmas.{ids_name_their_node}
use Rattle.run_base_laws.proofs.LaterLemmas.{exit_made, turn_added}
use Rattle.run_base_laws.proofs.LawfulLemmas.{serves}
use Rattle.run_base_laws.proofs.OwnLemmas.{all_found}
use Rattle.run_base_laws.proofs.SaidPostLemmas.{posts_back, posts_of, said_after}
use Rattle.tree_laws.proofs.AskLemmas.{sent_new}
use Rattle.tree_laws.proofs.PrefixLemmas.{f_at, e_at, one_on, more_on}
use Rattle.run_branch_laws.proofs.KeptRowLemmas.{IsSealOf, wrote_seal}
use Rattle.tree_laws.proofs.SealLemmas.{later_unsealed}
use Rattle.node_rules.specs.NodeState.{live_id}
use Rattle.tree_laws.specs.LeaveLaws.{LeftSo}
use Rattle.tree_laws.proofs.FateLemmas.{drops_alone}
use Rattle.tree_laws.proofs.LeaveLemmas.{was_there}
use Rattle.tree_laws.proofs.TimeLemmas.{sent_end}
use Rattle.commit_laws.specs.WaitLaws.{NodeHasStopped}
use Rattle.commit_laws.proofs.ReadyStepLemmas.{one_sent}
use Rattle.commit_laws.proofs.StopLemmas.{cut_stops, stopped_end}
use Rattle.commit_point_laws.specs.PointLaws.{is_point, SealedPassOn}
use Rattle.commit_point_laws.proofs.MomentLemmas.{LeftThen, left_then, none_at_first}
use Rattle.commit_point_laws.proofs.LeaveLemmas.{told_before_leaving}
use Rattle.commit_point_laws.proofs.PassLemmas.{passes_to}
use Rattle.commit_point_laws.proofs.PointStepLemmas.{PointWhy, SealsSo, seal_says, point_why}
use Rattle.tree_laws.proofs.AtTurn.{at_turn}

module _ (t : History) (whole : IsLawfulRun t) (b : BranchId) (c : BranchId) (told : was_sent is_below (said_in (facts_at t)) b c ≡ true) where
  -- it passed CommitPoint on, or its node has stopped
  abbrev Passes : Type 0
  Passes = (was_sent is_point (said_in (facts_at t)) b c ≡ true) ⊎ NodeHasStopped (facts_at t) b

  module _ (hs : List Happening) (u : Turn) (rest : List Happening) (is : hs ++ happenings.Turn u ∷ rest ≡ t.trace) (none : exit (e_at t hs) b ≡ None)
      (z : Exit) (other : z ≢ Dropped) (left : exit (events_after t.places t.commands (f_at t hs) (happenings.Turn u) (e_at t hs)) b ≡ Some z) where
    open at_turn t whole hs u rest is use {h, f, g, e, s, lawful, part_after as part_z, may, k, p, d}

    abbrev after : List Happening
    after = hs ++ h ∷ []

    left_after : exit (e_at t after) b ≢ None
    left_after still = (let gone : exit (e_at t after) b ≡ Some z = subst (λ x. exit x b ≡ Some z) (sym (more_on t hs h)) left in absurd (cc (gone, still)))

    said_is : said_in (f_at t after) ≡ said_in f ++ posts_of h
    said_is = ap said_in (one_on t hs h) ∙ said_after t.places t.commands f h

    -- it told the child so before
    told_before : was_sent is_below (said_in f) b c ≡ true
    told_before = told_before_leaving t whole hs h rest is b c left_after told

    -- the turn is at its node
    node : u.node ≡ b.node
    node =
        let so : LeftSo k u.input (said_in f) b z = was_there t hs lawful u k may.1 b none z other left in
        sym (all_found (λ (l : Live). l.me.node ≡ u.node) live_id k.lives so.live.me so.live (ids_name_their_node s lawful u.node k may.1.up).lives so.found) ∙ ap (λ (i : BranchId). i.node) so.is_me

    cut_so : u.cut ≡ true → Passes
    cut_so cut = inr (stopped_end t whole b after part_z.rest part_z.is left_after (cut_stops t whole b hs h rest is u refl k may.1.up node cut))

    posts_are : IsOwed p k u.input u.wrote u.sent false → posts_of h ≡ d.says
    unfolding turn_of
    posts_are owed = ap (λ xs. map post_of xs) owed.1 ∙ posts_back d.after.clock d.says

    wrote_is : IsOwed p k u.input u.wrote u.sent false → u.wrote ≡ d.wrote
    unfolding turn_of
    wrote_is owed = owed.0

    why : PointWhy (heard k u.input) u.input d.says d.wrote
    why = point_why (heard k u.input) u.input p (serves t.places f u k may.1).step (λ no. record { lives = refl; clock = refl })

    passes_so : (r : BranchId) → r ≡ b → SealsSo (heard k u.input) u.input d.says r → posts_of h ≡ d.says → Passes
    passes_so r me so posts =
        let is_b : so.live.me ≡ b = so.is_me ∙ me in
        let kid = passes_to t hs lawful u k may.1 so.acts_in.here so.acts_in.near so.path so.acts_in.acting c (subst (λ i. was_sent is_below (said_in f) i c ≡ true) (sym is_b) told_before) in
        let says : d.says ≡ to_one so.live.me kinds.CommitPoint (peer_of so.live kid.0) = so.says_it ∙ ap (seal_says so.live) kid.1 in
        let one : was_sent is_point (to_one so.live.me kinds.CommitPoint (peer_of so.live kid.0)) so.live.me c ≡ true = one_sent is_point so.live.me kinds.CommitPoint (peer_of so.live kid.0) c refl kid.2 in
        let sent : was_sent is_point (posts_of h) b c ≡ true = subst (λ i. was_sent is_point (posts_of h) i c ≡ true) is_b (subst (λ xs. was_sent is_point xs so.live.me c ≡ true) (sym (posts ∙ says)) one) in
        let now : was_sent is_point (said_in (f_at t after)) b c ≡ true = subst (λ xs. was_sent is_point xs b c ≡ true) (sym said_is) (sent_new is_point (said_in f) (posts_of h) b c sent) in
        inl (sent_end t whole after part_z is_point b c now)

    sealed_so : IsOwed p k u.input u.wrote u.sent false → (w : Option RedoRecord) → u.wrote ≡ w → IsSealOf b w → Passes
    sealed_so owed (Some (records.Sealed r)) wrote me = passes_so r.me me (subst (PointWhy (heard k u.input) u.input d.says) (sym (wrote_is owed) ∙ wrote) why) (posts_are owed)
    sealed_so owed _ wrote never = absurd never

    by_cut : (n : _) → z ≡ Sealed n → (cut : Bool) → u.cut ≡ cut → IsOwed p k u.input u.wrote u.sent cut → Passes
    by_cut n is_sealed true cut owed = cut_so cut
    by_cut n is_sealed false cut owed =
        let sealed : exit (events_after t.places t.commands f h e) b ≡ Some (Sealed n) = left ∙ ap Some is_sealed in
        elim (exit_made b (Sealed n) (turn_added f g u e) sealed) [
          | inl old ↦ elim (wrote_seal u.node e u.wrote b n old) [ inl older ↦ absurd (cc (older, none)) | inr it ↦ sealed_so owed u.wrote refl it ]
          | inr made ↦ absurd (later_unsealed b n made.0 made.1 made.2)
        ]

    passed : (n : _) → z ≡ Sealed n → Passes
    passed n is_sealed = by_cut n is_sealed u.cut refl may.1.owed

  by_happening : (n : _) (hs : List Happening) (h : Happening) (rest : List Happening) → hs ++ h ∷ rest ≡ t.trace → exit (e_at t hs) b ≡ None → exit (events_after t.places t.commands (f_at t hs) h (e_at t hs)) b ≡ Some (Sealed n) → Passes
  by_happening n hs (happenings.Turn u) rest is none left = passed hs u rest is none (Sealed n) (λ no. absurd cc) left n refl
  by_happening n hs (happenings.Stopped m) rest is none left = (let no : Sealed n ≡ Dropped = drops_alone t hs (happenings.Stopped m) (λ u turn. absurd cc) b (Sealed n) none left in absurd cc)
  by_happening n hs (happenings.Started m boot) rest is none left = (let no : Sealed n ≡ Dropped = drops_alone t hs (happenings.Started m boot) (λ u turn. absurd cc) b (Sealed n) none left in absurd cc)
  by_happening n hs (happenings.Begun m) rest is none left = (let no : Sealed n ≡ Dropped = drops_alone t hs (happenings.Begun m) (λ u turn. absurd cc) b (Sealed n) none left in absurd cc)
  by_happening n hs (happenings.Cut x y) rest is none left = (let no : Sealed n ≡ Dropped = drops_alone t hs (happenings.Cut x y) (λ u turn. absurd cc) b (Sealed n) none left in absurd cc)
  by_happening n hs (happenings.Join x y) rest is none left = (let no : Sealed n ≡ Dropped = drops_alone t hs (happenings.Join x y) (λ u turn. absurd cc) b (Sealed n) none left in absurd cc)
  by_happening n hs (happenings.Lost m) rest is none left = (let no : Sealed n ≡ Dropped = drops_alone t hs (happenings.Lost m) (λ u turn. absurd cc) b (Sealed n) none left in absurd cc)

pub sealed_pass_on : SealedPassOn
sealed_pass_on t whole b n left c told =
    let it : LeftThen t whole [] b (Sealed n) = left_then t whole [] (record { rest = t.trace; is = refl }) b (none_at_first t b) (Sealed n) left in
    by_happening t whole b c told n it.since it.happening it.later it.is it.none it.left
