-- In every lawful run no decision stands of a transaction whose root left in a turn without a record.
use Rattle.std.proofs.Common.{◌≡◌, ◌≢◌, ℕ, ◌≤◌, Bool, true, false, List, [], ◌∷◌, ◌++◌, Option, Some, None, inl, inr, refl, sym, ap, subst, ◌∙◌, arith}
use Rattle.std.specs.List.{list_any}
use Rattle.tran_ids.proofs.ListedLemmas.{item_is}
use Rattle.agreement.specs.Events as exits
use Rattle.agreement.specs.Events.{Forest, Event, Exit, Dropped, Quiet, exit}
use Rattle.agreement.proofs.AgreementLaws.{doomed_undecided}
use Rattle.agreement.proofs.EventLemmas.{only_at_is}
use Rattle.node_rules.specs.Data.{BranchId, Live, Place}
use Rattle.node_rules.specs.NodeState.{NodeState, TurnOutput, live_id}
use Rattle.node_rules.specs.Sessions.{session_at}
use Rattle.node_rules.specs.Turn.{turn_of, heard}
use Rattle.node_rules.proofs.HeardLemmas.{sessions_heard}
use Rattle.run_rules.specs.Births.{Born, births_of, born_id, born_at}
use Rattle.run_base_laws.specs.BirthLaws.{Began, LiveIs}
use Rattle.run_rules.specs.Branches.{is_among}
use Rattle.run_rules.specs.Data.{Turn, Happening}
use Rattle.run_rules.specs.Data.entries
use Rattle.run_rules.specs.Data.happenings
use Rattle.run_rules.specs.Facts.{Facts, place_at, node_at, kept_after, facts_after}
use Rattle.run_base_laws.specs.InTurnLaws.{said_in}
use Rattle.run_rules.specs.Lawful.{IsOwed, MayTurn, History, IsLawfulRun, facts_at}
use Rattle.run_base_laws.specs.RunEvents.{wrote_event, with_event, with_record, with_exits, lives_at, events_after, events_of}
use Rattle.run_rules.specs.Trail.{is_quiet}
use Rattle.run_rules.proofs.AtNodeLemmas.{turn_here}
use Rattle.run_base_laws.proofs.BirthRunLemmas.{nodes_name_the_born, born_are_live_or_left}
use Rattle.run_base_laws.proofs.EventsStandLemmas.{run_stands, nodes_are_as_events, ids_name_their_node}
use Rattle.run_base_laws.proofs.LaterLemmas.{Later, Was_said, Was_quiet, Was_dropped, exit_made, turn_added}
use Rattle.run_base_laws.proofs.LawfulLemmas.{turn_of_node}
use Rattle.run_base_laws.proofs.OwnLemmas.{all_found}
use Rattle.run_base_laws.proofs.RootLemmas.{SessionsFit}
use Rattle.tree_laws.specs.Forests.{forest_of, root_in, is_member, asked_by}
use Rattle.tree_laws.proofs.ForestLemmas as trees
use Rattle.tree_laws.proofs.ForestRunLemmas.{run_known}
use Rattle.tree_laws.proofs.PrefixLemmas.{so_far, f_at, e_at, one_on, more_on}
use Rattle.tree_laws.proofs.FateLemmas.{among_found}
use Rattle.tree_laws.proofs.LeaveLemmas.{messages_exit, all_quiet}
use Rattle.tree_laws.proofs.TimeLemmas.{Part, part_on, part_of, part_lawful, may_of, exit_end, born_end}
use Rattle.commit_point_laws.specs.EndLaws.{EntryIs}
use Rattle.commit_point_laws.proofs.BookEndLemmas.{entries_are_exits}
use Rattle.tree_laws.proofs.MoreLemmas.{forest, events_lawful}
use Rattle.commit_answer_laws.specs.CommitEndLaws.{LeavesUnrecorded}
use Rattle.commit_answer_laws.specs.UndecidedLaws.{IsUndecided}
use Rattle.commit_answer_laws.proofs.BornLemmas.{High, born_high, session_low}
use Rattle.commit_answer_laws.proofs.EndRunLemmas.{fits}
use Rattle.tree_laws.proofs.AtPart.{at_part}
use Rattle.tree_trail_laws.proofs.OwnAfterLemmas.{all_at as slice_all}

-- A whole turn of a run at the node of a root.
pub record RootTurn (t : History) (g : BranchId) : Type 0 where
  pub before : List Happening
  pub turn : Turn
  pub later : List Happening
  pub is : before ++ happenings.Turn turn ∷ later ≡ t.trace
  pub uncut : turn.cut ≡ false
  pub kept : NodeState
  pub up : node_at (f_at t before) turn.node ≡ Some kept
  pub root : (session_at kept.sessions g.session).root ≡ Some g

module _ (t : History) (whole : IsLawfulRun t) (g : BranchId) (it : RootTurn t g) where
  abbrev p : Forest
  p = forest_of t

  open it use {before as hs, turn as u, kept as k}
  open at_part t hs use {s as s0, f, e}

  abbrev after : List Happening
  after = hs ++ happenings.Turn u ∷ []

  abbrev s1 : History
  s1 = so_far t after

  abbrev f1 : Facts
  f1 = facts_after t.places t.commands f (happenings.Turn u)

  abbrev place : Place
  place = place_at t.places u.node

  abbrev o : TurnOutput
  o = turn_of place k u.input

  part : Part t whole hs
  part = part_of t whole hs (happenings.Turn u) it.later it.is

  part_z : Part t whole after
  part_z = part_on t whole hs (happenings.Turn u) it.later it.is

  lawful : IsLawfulRun s0
  lawful = part_lawful t whole hs part

  lawful_z : IsLawfulRun s1
  lawful_z = part_lawful t whole after part_z

  up : node_at f u.node ≡ Some k
  up = it.up

  pub may : MayTurn t.places f u k
  may = turn_of_node t.places f u k t.commands (may_of t whole hs (happenings.Turn u) it.later it.is) up

  owed_by : (cut : Bool) → cut ≡ false → IsOwed place k u.input u.wrote u.sent cut → (u.wrote ≡ o.wrote) × (u.sent ≡ o.sent)
  owed_by true is owed = absurd cc
  owed_by false is owed = owed

  pub owed : (u.wrote ≡ o.wrote) × (u.sent ≡ o.sent)
  owed = owed_by u.cut it.uncut may.owed

  -- ---- its root

  low : g.session ≤ 64
  low =
      let fit : SessionsFit (heard k u.input) = fits t whole hs u it.later it.is k up in
      session_low (heard k u.input).sessions fit.roots.many g.session g (ap (λ ss. (session_at ss g.session).root) (sessions_heard k u.input) ∙ it.root)

  top_by : (x : Born) (q : Option BranchId) → x.parent ≡ q → High x → x.me ≡ g → x.parent ≡ None
  top_by x None is high me = is
  top_by x (Some b) is high me = let above : 65 ≤ x.me.session = high (λ none. absurd (cc (is, none))) in absurd (omega (arith, above, low, ap (λ (c : BranchId). c.session) me))

  -- as it began
  module _ (x : Born) (there : born_at (births_of t) g ≡ Some x) where
    me : x.me ≡ g
    me = item_is born_id (births_of t) g x there

    began : Began (births_of t) x
    began = subst (λ i. born_at (births_of t) i ≡ Some x) (sym me) there

    top : x.parent ≡ None
    top = top_by x x.parent refl (all_found High born_id (births_of t) g x (born_high t) there) me

    pub root_is : p.root g ≡ g
    root_is = ap (root_in g) there ∙ ((trees.stands_so (births_of t) (said_in (facts_at t)) (run_known t whole) x None began top).0 ∙ me)

    pub member_is : p.member g ≡ true
    member_is = ap (is_member (said_in (facts_at t)) g) there ∙ ap (asked_by (said_in (facts_at t)) g) top

  -- ---- a root that is dropped

  module _ (leaves : LeavesUnrecorded k o.after o.wrote o.sent g) where
    abbrev l : Live
    l = leaves.live

    pub l_me : l.me ≡ g
    l_me = item_is live_id k.lives g l leaves.there

    none : exit e g ≡ None
    none = subst (λ i. exit e i ≡ None) l_me (all_found (λ (x : Live). exit e x.me ≡ None) live_id k.lives g l (nodes_are_as_events s0 lawful u.node k up).0 leaves.there)

    placed : LiveIs (Began (births_of s0)) l
    placed = all_found (LiveIs (Began (births_of s0))) live_id k.lives g l (nodes_name_the_born s0 lawful u.node k up).0 leaves.there

    there_z : born_at (births_of s1) g ≡ Some placed.born
    there_z =
        let began : Began (births_of s1) placed.born = born_end s1 lawful_z hs (record { rest = happenings.Turn u ∷ []; is = refl }) placed.born placed.began in
        subst (λ i. born_at (births_of s1) i ≡ Some placed.born) (placed.is_me ∙ l_me) began

    there_t : born_at (births_of t) g ≡ Some placed.born
    there_t = subst (λ i. born_at (births_of t) i ≡ Some placed.born) (placed.is_me ∙ l_me) (born_end t whole hs part placed.born placed.began)

    own : g.node ≡ u.node
    own = subst (λ (i : BranchId). i.node ≡ u.node) l_me (all_found (λ (x : Live). x.me.node ≡ u.node) live_id k.lives g l (ids_name_their_node s0 lawful u.node k up).lives leaves.there)

    up_z : node_at f1 u.node ≡ Some o.after
    up_z = (turn_here t.places t.commands f (run_stands s0 lawful).0.even u k up).0 ∙ ap (λ c. kept_after c (Some o)) it.uncut

    not_live : is_among g (lives_at (node_at (f_at t after) g.node)) ≡ true → ⊥
    not_live among =
        let at : node_at (f_at t after) g.node ≡ Some o.after = ap (λ z. node_at z g.node) (one_on t hs (happenings.Turn u)) ∙ (ap (node_at f1) own ∙ up_z) in
        let here = among_found o.after.lives g (subst (λ z. is_among g (lives_at z) ≡ true) at among) in
        let found = here.1 in
        let gone = leaves.gone in
        absurd (cc (found, gone))

    left : exit (e_at t after) g ≢ None
    left = elim (born_are_live_or_left s1 lawful_z g (λ nobody. (let some = there_z in absurd (cc (some, nobody))))) [ inl gone ↦ gone | inr among ↦ absurd (not_live among) ]

    recorded : with_record u e ≡ e
    recorded = ap (λ w. with_event (wrote_event u.node w) e) (owed.0 ∙ leaves.unwritten)

    dropped_by : (z : Option Exit) → exit (e_at t after) g ≡ z → exit (e_at t after) g ≡ Some Dropped
    dropped_by None is = absurd (left is)
    dropped_by (Some z) is = elim (exit_made g z (turn_added f f1 u e) now) [
      | inl old ↦ (let older : exit e g ≡ Some z = subst (λ x. exit x g ≡ Some z) recorded old in let no_exit = none in absurd (cc (older, no_exit)))
      | inr new ↦ by_later new.0 new.1 new.2
    ]
      where
        now : exit (events_after t.places t.commands f (happenings.Turn u) e) g ≡ Some z
        now = subst (λ x. exit x g ≡ Some z) (more_on t hs (happenings.Turn u)) is

        not_quiet : z ≡ Quiet → ⊥
        not_quiet quiet =
            let gone : exit (with_exits f f1 u e) g ≡ Some Quiet = sym (messages_exit u.sent (with_exits f f1 u e) g) ∙ (now ∙ ap Some quiet) in
            elim (all_quiet (lives_at (node_at f1 u.node)) u.sent (lives_at (node_at f u.node)) g (with_record u e) gone) [
              | inl old ↦ (let older : exit e g ≡ Some Quiet = subst (λ x. exit x g ≡ Some Quiet) recorded old in let no_exit = none in absurd (cc (older, no_exit)))
              | inr said ↦ (let silent : list_any (is_quiet g) u.sent ≡ false = ap (list_any (is_quiet g)) owed.1 ∙ leaves.silent in absurd (cc (said, silent)))
            ]

        by_later : (x : Event) → Later (lives_at (node_at f u.node)) (lives_at (node_at f1 u.node)) x → exits.exit_by x g ≡ Some z → exit (e_at t after) g ≡ Some Dropped
        by_later x (Was_said y nobody) made = (let no_one = (nobody g).0 in absurd (cc (made, no_one)))
        by_later x (Was_quiet c was gone) made = absurd (not_quiet (sym (only_at_is c g Quiet z made).1))
        by_later x (Was_dropped c was gone) made = is ∙ ap Some (sym (only_at_is c g Dropped z made).1)

    dropped : exit (events_of t) g ≡ Some Dropped
    dropped = exit_end t whole after part_z g Dropped (dropped_by (exit (e_at t after) g) refl)

    pub drop_undecided : (b : BranchId) (n : ℕ) → exit (events_of t) b ≡ Some (exits.Decided n) → p.root b ≡ g → ⊥
    drop_undecided b n decided of = (doomed_undecided p (forest t whole) (events_of t) (events_lawful t whole) g b n (member_is placed.born there_t) dropped (of ∙ sym (root_is placed.born there_t))).0 decided

  -- where no branch that decided is of g, none of its decisions is in the book
  pub undecided_book : ((b : BranchId) (n : ℕ) → exit (events_of t) b ≡ Some (exits.Decided n) → p.root b ≡ g → ⊥) → IsUndecided t g
  undecided_book never i b cs n at =
      let is : EntryIs p (events_of t) (entries.Decided b g cs n) = slice_all (EntryIs p (events_of t)) (facts_at t).book i (entries.Decided b g cs n) (entries_are_exits t whole) at in
      never b n is.0 is.1
