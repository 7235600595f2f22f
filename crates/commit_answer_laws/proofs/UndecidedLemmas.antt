-- In every lawful run no decision stands of a transaction whose COMMIT was answered ORA-02050: its root was dropped, or it
-- learned the rollback.
use Rattle.std.proofs.Common.{◌≡◌, ℕ, Bool, true, false, List, [], ◌∷◌, ◌++◌, Option, Some, None, inl, inr, refl, sym, ap, subst, ◌∙◌, arith}
use Rattle.std.specs.Prelude.{◌⊎◌, IfSome}
use Rattle.tran_ids.proofs.ListedLemmas.{item_is}
use Rattle.agreement.specs.Events as exits
use Rattle.agreement.specs.Events.{Forest, Exit, Learn, Knows, first, only_at, exit, learned, site_of}
use Rattle.agreement.proofs.AgreementLaws.{undecided_from_rollback}
use Rattle.agreement.proofs.EventLemmas.{only_at_same}
use Rattle.agreement.proofs.WholeTree.{site_root}
use Rattle.node_rules.specs.Data.{Answer, BranchId, Decision, Live, Place, RedoRecord, KeptRow, Decided as DecidedRecord}
use Rattle.node_rules.specs.Data.answers
use Rattle.node_rules.specs.Data.decisions
use Rattle.node_rules.specs.Data.records
use Rattle.node_rules.specs.NodeState.{NodeState, TurnOutput, live_id, live_at, kept_row_id, kept_row_at}
use Rattle.node_rules.specs.Commit.{knows_commit}
use Rattle.node_rules.specs.Sessions.{session_at, commit_complete, tran_refusal}
use Rattle.node_rules.specs.Turn.{turn_of}
use Rattle.run_rules.specs.Births.{Born, births_of, born_at}
use Rattle.run_base_laws.specs.BirthLaws.{Began, LiveIs, KeptIs}
use Rattle.run_rules.specs.Book.{At}
use Rattle.run_rules.specs.Data.{Turn, Happening}
use Rattle.run_rules.specs.Data.entries
use Rattle.run_rules.specs.Data.happenings
use Rattle.run_base_laws.specs.EventLaws.{TellsAsEvents, EachEventFrom}
use Rattle.run_base_laws.specs.EventRows.{MayStand, RowIs, IsKnown}
use Rattle.run_rules.specs.Facts.{Facts, first_facts, place_at, node_at, facts_after}
use Rattle.run_base_laws.specs.InTurnLaws.{said_in}
use Rattle.run_rules.specs.Lawful.{IsOwed, MayTurn, History, IsLawfulRun, facts_at}
use Rattle.run_base_laws.specs.RunEvents.{wrote_event, with_event, with_record, events_after, events_of}
use Rattle.run_base_laws.proofs.BirthRunLemmas.{nodes_name_the_born}
use Rattle.run_base_laws.proofs.EventsStandLemmas.{nodes_are_as_events, turns_tell_as_events}
use Rattle.run_base_laws.proofs.LaterLemmas.{exit_later, learned_later, turn_added}
use Rattle.run_base_laws.proofs.LawfulLemmas.{turn_of_node}
use Rattle.run_base_laws.proofs.OwnLemmas.{all_found}
use Rattle.run_base_laws.proofs.RowEventLemmas.{learned_now}
use Rattle.tree_laws.specs.Forests.{forest_of, is_member}
use Rattle.tree_laws.proofs.PrefixLemmas.{so_far, f_at, e_at, more_on}
use Rattle.tree_laws.proofs.TimeLemmas.{Part, part_on, part_of, part_lawful, may_of, each_at, exit_end, born_end}
use Rattle.tree_laws.proofs.MoreLemmas.{forest, events_lawful, added_end, inv_end, inv_at}
use Rattle.commit_answer_laws.specs.CommitEndLaws.{row_knows, LeavesUnrecorded}
use Rattle.commit_answer_laws.specs.UndecidedLaws.{EndedWith, IsDecided, IsUndecided, RefusedAreUndecided, KnownAreDecided, CompleteAreDecided}
use Rattle.commit_point_laws.proofs.BookLemmas.{decided_stands}
use Rattle.commit_answer_laws.proofs.DroppedLemmas as drops
use Rattle.commit_answer_laws.proofs.DroppedLemmas.{RootTurn}
use Rattle.commit_answer_laws.proofs.EndRunLemmas.{ends_for}
use Rattle.commit_answer_laws.proofs.EndStepLemmas.{StepEnd, Has_decided, Has_no_site, Has_forgotten, Hears_abort, Is_given_up, Ends_back, Meets_back, Is_known, Is_in_doubt, Is_forced}
use Rattle.tree_trail_laws.specs.NoSite.{HadNoSite}
use Rattle.tree_trail_laws.proofs.NoSiteLemmas.{had_no_site}
use Rattle.tree_laws.proofs.AtPart.{at_part}

-- ---- answers

-- the code of a refusal
abbrev code_of : Answer → ℕ
code_of (answers.Refused r) = r.code
code_of _ = 0

not_complete : (b : BranchId) → tran_refusal 2050 b ≡ commit_complete → ⊥
not_complete b is = absurd cc

not_known : (b : BranchId) → tran_refusal 2050 b ≡ tran_refusal 2053 b → ⊥
not_known b is = let codes : 2050 ≡ 2053 = ap code_of is in absurd (omega (arith, codes))

not_in_doubt : (b : BranchId) → tran_refusal 2050 b ≡ tran_refusal 2054 b → ⊥
not_in_doubt b is = let codes : 2050 ≡ 2054 = ap code_of is in absurd (omega (arith, codes))

not_complete_known : (b : BranchId) → tran_refusal 2053 b ≡ commit_complete → ⊥
not_complete_known b is = absurd cc

not_complete_doubt : (b : BranchId) → tran_refusal 2054 b ≡ commit_complete → ⊥
not_complete_doubt b is = absurd cc

known_not_in_doubt : (b : BranchId) → tran_refusal 2053 b ≡ tran_refusal 2054 b → ⊥
known_not_in_doubt b is = let codes : 2053 ≡ 2054 = ap code_of is in absurd (omega (arith, codes))

first_new : (x z : Option Exit) → x ≡ None → first x z ≡ z
first_new None z is = refl
first_new (Some y) z is = absurd cc

-- The COMMIT of g ended in a whole turn of a run for this reason.
pub record EndsAs (t : History) (g : BranchId) (a : Answer) : Type 0 where
  pub before : List Happening
  pub turn : Turn
  pub later : List Happening
  pub is : before ++ happenings.Turn turn ∷ later ≡ t.trace
  pub uncut : turn.cut ≡ false
  pub kept : NodeState
  pub up : node_at (f_at t before) turn.node ≡ Some kept
  pub root : (session_at kept.sessions g.session).root ≡ Some g
  pub end : StepEnd kept turn.input (turn_of (place_at t.places turn.node) kept turn.input).after (turn_of (place_at t.places turn.node) kept turn.input).wrote (turn_of (place_at t.places turn.node) kept turn.input).sent g a

-- one that was pending
abbrev ends_as : (t : History) → IsLawfulRun t → (g : BranchId) (a : Answer) → EndedWith t g a → EndsAs t g a
ends_as t whole g a it = record {
  before = it.before;
  turn = it.turn;
  later = it.later;
  is = it.is;
  uncut = it.uncut;
  kept = it.kept;
  up = it.up;
  root = it.pends.root;
  end = ends_for t whole it.before it.turn it.later it.is it.kept it.up g a it.pends it.ends;
}

module _ (t : History) (whole : IsLawfulRun t) (g : BranchId) (a : Answer) (it : EndsAs t g a) where
  abbrev p : Forest
  p = forest_of t

  open it use {before as hs, turn as u, kept as k}
  open at_part t hs use {s as s0, f, e}

  abbrev after : List Happening
  after = hs ++ happenings.Turn u ∷ []

  abbrev s1 : History
  s1 = so_far t after

  abbrev f1 : Facts
  f1 = facts_after t.places t.commands f (happenings.Turn u)

  abbrev place : Place
  place = place_at t.places u.node

  abbrev o : TurnOutput
  o = turn_of place k u.input

  part : Part t whole hs
  part = part_of t whole hs (happenings.Turn u) it.later it.is

  part_z : Part t whole after
  part_z = part_on t whole hs (happenings.Turn u) it.later it.is

  lawful : IsLawfulRun s0
  lawful = part_lawful t whole hs part

  lawful_z : IsLawfulRun s1
  lawful_z = part_lawful t whole after part_z

  up : node_at f u.node ≡ Some k
  up = it.up

  pub may : MayTurn t.places f u k
  may = turn_of_node t.places f u k t.commands (may_of t whole hs (happenings.Turn u) it.later it.is) up

  owed_by : (cut : Bool) → cut ≡ false → IsOwed place k u.input u.wrote u.sent cut → (u.wrote ≡ o.wrote) × (u.sent ≡ o.sent)
  owed_by true is owed = absurd cc
  owed_by false is owed = owed

  pub owed : (u.wrote ≡ o.wrote) × (u.sent ≡ o.sent)
  owed = owed_by u.cut it.uncut may.owed

  -- the end of its COMMIT
  end : StepEnd k u.input o.after o.wrote o.sent g a
  end = it.end

  -- ---- its root

  abbrev at : RootTurn t g
  at = record { before = hs; turn = u; later = it.later; is = it.is; uncut = it.uncut; kept = k; up = it.up; root = it.root }

  -- as it began
  root_is : (x : Born) → born_at (births_of t) g ≡ Some x → p.root g ≡ g
  root_is x there = drops.root_is t whole g at x there

  member_is : (x : Born) → born_at (births_of t) g ≡ Some x → p.member g ≡ true
  member_is x there = drops.member_is t whole g at x there

  -- one that is dropped
  drop_undecided : LeavesUnrecorded k o.after o.wrote o.sent g → (b : BranchId) (n : ℕ) → exit (events_of t) b ≡ Some (exits.Decided n) → p.root b ≡ g → ⊥
  drop_undecided leaves b n decided of = drops.drop_undecided t whole g at leaves b n decided of

  -- ---- a root that learned the rollback

  module _ (r : RedoRecord) (mixed : Option Bool) (wrote : o.wrote ≡ Some r) (event : wrote_event u.node (Some r) ≡ Some (Learn g decisions.Rollback mixed)) (stands : MayStand e r → learned e g ≡ None) where
    wrote_u : u.wrote ≡ Some r
    wrote_u = owed.0 ∙ wrote

    tells : TellsAsEvents f e (happenings.Turn u)
    tells = each_at t.places t.commands TellsAsEvents (first_facts t.places) hs (happenings.Turn u) it.later [] (subst (λ xs. EachEventFrom TellsAsEvents t.places t.commands (first_facts t.places) [] xs) (sym it.is) (turns_tell_as_events t whole))

    fresh : learned e g ≡ None
    fresh = stands (subst (λ w. IfSome w (MayStand e)) wrote_u tells.0)

    now_z : learned (with_record u e) g ≡ Some decisions.Rollback
    now_z = subst (λ v. learned (with_event v e) g ≡ Some decisions.Rollback) (sym (ap (wrote_event u.node) wrote_u ∙ event)) (learned_now e g g decisions.Rollback mixed fresh refl)

    learned_end : learned (events_of t) g ≡ Some decisions.Rollback
    learned_end =
        let turned : learned (events_after t.places t.commands f (happenings.Turn u) e) g ≡ Some decisions.Rollback = learned_later g decisions.Rollback (turn_added f f1 u e) now_z in
        learned_later g decisions.Rollback (added_end t whole after part_z) (subst (λ x. learned x g ≡ Some decisions.Rollback) (sym (more_on t hs (happenings.Turn u))) turned)

    born_by : (z : Option Born) → born_at (births_of t) g ≡ z → is_member (said_in (facts_at t)) g z ≡ true → (x : Born) × (born_at (births_of t) g ≡ Some x)
    born_by None is member = absurd cc
    born_by (Some x) is member = (x, is)

    rolled_undecided : (b : BranchId) (n : ℕ) → exit (events_of t) b ≡ Some (exits.Decided n) → p.root b ≡ g → ⊥
    rolled_undecided b n decided of =
        let sealed = (inv_end t whole).learned_sealed g decisions.Rollback learned_end in
        let born = born_by (born_at (births_of t) g) refl ((inv_end t whole).sealed_in g sealed.0 sealed.1).0 in
        undecided_from_rollback p (forest t whole) (events_of t) (events_lawful t whole) g b n learned_end (of ∙ sym (root_is born.0 born.1)) decided

  -- ---- each end

  undecided : a ≡ tran_refusal 2050 g → StepEnd k u.input o.after o.wrote o.sent g a → (b : BranchId) (n : ℕ) → exit (events_of t) b ≡ Some (exits.Decided n) → p.root b ≡ g → ⊥
  undecided asked (Has_decided r l live wrote its alone is) = absurd (not_complete g (sym asked ∙ is))
  undecided asked (Has_no_site leaves top_is ends writes is) = absurd (not_complete g (sym asked ∙ is))
  undecided asked (Has_forgotten s row wrote is) = absurd (not_complete g (sym asked ∙ is))
  undecided asked (Hears_abort from sb came leaves answers is) = drop_undecided leaves
  undecided asked (Is_given_up given leaves is) = drop_undecided leaves
  undecided asked (Ends_back wrote is) = rolled_undecided (records.Ended g decisions.Rollback) None wrote refl (λ stands. stands.1)
  undecided asked (Meets_back mixed call wrote is) = rolled_undecided (records.Met g decisions.Rollback mixed) (Some mixed) wrote refl (λ stands. stands.1)
  undecided asked (Is_known given gone knows is) = absurd (not_known g (sym asked ∙ is))
  undecided asked (Is_in_doubt given call gone doubt is) = absurd (not_in_doubt g (sym asked ∙ is))
  undecided asked (Is_forced d given wrote is) = absurd (not_in_doubt g (sym asked ∙ is))

  undecided_book : ((b : BranchId) (n : ℕ) → exit (events_of t) b ≡ Some (exits.Decided n) → p.root b ≡ g → ⊥) → IsUndecided t g
  undecided_book never = drops.undecided_book t whole g at never

  pub none_decided : a ≡ tran_refusal 2050 g → IsUndecided t g
  none_decided asked = undecided_book (undecided asked end)

  -- ---- a decision in the book

  abbrev IsBorn : Type 0
  IsBorn = (x : Born) × (born_at (births_of t) g ≡ Some x)

  live_born : (y : Live) → live_at k g ≡ Some y → IsBorn
  live_born y there =
      let placed : LiveIs (Began (births_of s0)) y = all_found (LiveIs (Began (births_of s0))) live_id k.lives g y (nodes_name_the_born s0 lawful u.node k up).0 there in
      (placed.born, subst (λ i. born_at (births_of t) i ≡ Some placed.born) (placed.is_me ∙ item_is live_id k.lives g y there) (born_end t whole hs part placed.born placed.began))

  row_born : (s : KeptRow) → kept_row_at k g ≡ Some s → IsBorn
  row_born s there =
      let kept : KeptIs (Began (births_of s0)) s = all_found (KeptIs (Began (births_of s0))) kept_row_id k.stored.durable.kept g s (nodes_name_the_born s0 lawful u.node k up).1 there in
      (kept.born, subst (λ i. born_at (births_of t) i ≡ Some kept.born) (kept.is_me ∙ item_is kept_row_id k.stored.durable.kept g s there) (born_end t whole hs part kept.born kept.began))

  in_book : (b : BranchId) (n : ℕ) → exit (events_of t) b ≡ Some (exits.Decided n) → p.root b ≡ g → IsDecided t g
  in_book b n decided of =
      let found = decided_stands t whole b n decided in
      (b, found.0, n, found.1, subst (λ r. At (facts_at t).book found.1 (entries.Decided b r found.0 n)) of found.2)

  site_in_book : IsBorn → (n : ℕ) → exit (events_of t) (site_of p g) ≡ Some (exits.Decided n) → IsDecided t g
  site_in_book born n decided = in_book (site_of p g) n decided (site_root p (forest t whole) g (member_is born.0 born.1) ∙ root_is born.0 born.1)

  knows_in_book : IsBorn → (n : ℕ) → Knows e g n → IsDecided t g
  knows_in_book born n (inl decided) = in_book g n (exit_end t whole hs part g (exits.Decided n) decided) (root_is born.0 born.1)
  knows_in_book born n (inr learnt) = site_in_book born n (exit_end t whole hs part (site_of p g) (exits.Decided n) ((inv_at t whole hs part).learned_commit g n learnt))

  -- a row that knows the commit
  row_in_book : (o : Option KeptRow) → kept_row_at k g ≡ o → row_knows o ≡ true → IsDecided t g
  row_in_book None there knows = absurd cc
  row_in_book (Some s) there knows =
      let row : RowIs e s = all_found (RowIs e) kept_row_id k.stored.durable.kept g s (nodes_are_as_events s0 lawful u.node k up).1 there in
      by s.decision row.known knows
    where
      by : (d : Option Decision) → IsKnown e s d → knows_commit d ≡ true → IsDecided t g
      by None known so = absurd cc
      by (Some decisions.Rollback) known so = absurd cc
      by (Some (decisions.Commit n)) known so = knows_in_book (row_born s there) n (subst (λ i. Knows e i n) (item_is kept_row_id k.stored.durable.kept g s there) known)

  all_tells : TellsAsEvents f e (happenings.Turn u)
  all_tells = each_at t.places t.commands TellsAsEvents (first_facts t.places) hs (happenings.Turn u) it.later [] (subst (λ xs. EachEventFrom TellsAsEvents t.places t.commands (first_facts t.places) [] xs) (sym it.is) (turns_tell_as_events t whole))

  pub may_stand : (r : RedoRecord) → o.wrote ≡ Some r → MayStand e r
  may_stand r wrote = subst (λ w. IfSome w (MayStand e)) (owed.0 ∙ wrote) all_tells.0

  -- a root that forgets knows the commit
  forgot_in_book : (s : KeptRow) → kept_row_at k g ≡ Some s → o.wrote ≡ Some (records.Forgot g) → IsDecided t g
  forgot_in_book s there wrote = (let knows = may_stand (records.Forgot g) wrote in knows_in_book (row_born s there) knows.0 knows.1)

  -- a root that decides
  decided_in_book : (r : DecidedRecord) (y : Live) → live_at k g ≡ Some y → o.wrote ≡ Some (records.Decided r) → r.me ≡ g → IsDecided t g
  decided_in_book r y there wrote its =
      let fresh : exit e r.me ≡ None = may_stand (records.Decided r) wrote in
      let now : exit (with_record u e) r.me ≡ Some (exits.Decided r.scn)
      = ap (λ w. exit (with_event (wrote_event u.node w) e) r.me) (owed.0 ∙ wrote) ∙ (first_new (exit e r.me) (only_at r.me r.me (exits.Decided r.scn)) fresh ∙ only_at_same r.me r.me (exits.Decided r.scn) refl) in
      let turned : exit (events_after t.places t.commands f (happenings.Turn u) e) r.me ≡ Some (exits.Decided r.scn) = exit_later r.me (exits.Decided r.scn) (turn_added f f1 u e) now in
      let there_z : exit (e_at t after) r.me ≡ Some (exits.Decided r.scn) = subst (λ x. exit x r.me ≡ Some (exits.Decided r.scn)) (sym (more_on t hs (happenings.Turn u))) turned in
      let last : exit (events_of t) g ≡ Some (exits.Decided r.scn) = subst (λ i. exit (events_of t) i ≡ Some (exits.Decided r.scn)) its (exit_end t whole after part_z r.me (exits.Decided r.scn) there_z) in
      let born = live_born y there in
      in_book g r.scn last (root_is born.0 born.1)

  known_ends : a ≡ tran_refusal 2053 g → StepEnd k u.input o.after o.wrote o.sent g a → IsDecided t g
  known_ends asked (Has_decided r y live wrote its alone is) = decided_in_book r y live wrote its
  known_ends asked (Has_no_site leaves top_is ends writes is) = absurd (not_complete_known g (sym asked ∙ is))
  known_ends asked (Has_forgotten s row wrote is) = forgot_in_book s row wrote
  known_ends asked (Hears_abort from sb came leaves answers is) = absurd (not_known g (sym is ∙ asked))
  known_ends asked (Is_given_up given leaves is) = absurd (not_known g (sym is ∙ asked))
  known_ends asked (Ends_back wrote is) = absurd (not_known g (sym is ∙ asked))
  known_ends asked (Meets_back mixed call wrote is) = absurd (not_known g (sym is ∙ asked))
  known_ends asked (Is_known given gone knows is) = row_in_book (kept_row_at k g) refl knows
  known_ends asked (Is_in_doubt given call gone doubt is) = absurd (known_not_in_doubt g (sym asked ∙ is))
  known_ends asked (Is_forced d given wrote is) = absurd (known_not_in_doubt g (sym asked ∙ is))

  pub known_decided : a ≡ tran_refusal 2053 g → IsDecided t g
  known_decided asked = known_ends asked end

  complete_ends : a ≡ commit_complete → StepEnd k u.input o.after o.wrote o.sent g a → IsDecided t g ⊎ (LeavesUnrecorded k o.after o.wrote o.sent g × HadNoSite t g × IsUndecided t g)
  complete_ends asked (Has_decided r y live wrote its alone is) = inl (decided_in_book r y live wrote its)
  complete_ends asked (Has_no_site leaves top_is ends writes is) = inr (leaves, had_no_site t whole hs u it.later it.is k up g leaves.live (drops.l_me t whole g at leaves) leaves.there top_is ends writes, undecided_book (drop_undecided leaves))
  complete_ends asked (Has_forgotten s row wrote is) = inl (forgot_in_book s row wrote)
  complete_ends asked (Hears_abort from sb came leaves answers is) = absurd (not_complete g (sym is ∙ asked))
  complete_ends asked (Is_given_up given leaves is) = absurd (not_complete g (sym is ∙ asked))
  complete_ends asked (Ends_back wrote is) = absurd (not_complete g (sym is ∙ asked))
  complete_ends asked (Meets_back mixed call wrote is) = absurd (not_complete g (sym is ∙ asked))
  complete_ends asked (Is_known given gone knows is) = absurd (not_complete_known g (sym is ∙ asked))
  complete_ends asked (Is_in_doubt given call gone doubt is) = absurd (not_complete_doubt g (sym is ∙ asked))
  complete_ends asked (Is_forced d given wrote is) = absurd (not_complete_doubt g (sym is ∙ asked))

  pub complete_decided : a ≡ commit_complete → IsDecided t g ⊎ (LeavesUnrecorded k o.after o.wrote o.sent g × HadNoSite t g × IsUndecided t g)
  complete_decided asked = complete_ends asked end

pub refused_are_undecided : RefusedAreUndecided
refused_are_undecided t whole g it = none_decided t whole g (tran_refusal 2050 g) (ends_as t whole g (tran_refusal 2050 g) it) refl

pub known_are_decided : KnownAreDecided
known_are_decided t whole g it = known_decided t whole g (tran_refusal 2053 g) (ends_as t whole g (tran_refusal 2053 g) it) refl

pub complete_are_decided : CompleteAreDecided
complete_are_decided t whole g it = complete_decided t whole g commit_complete (ends_as t whole g commit_complete it) refl
