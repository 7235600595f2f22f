-- Where the happenings tell of live branches what their nodes keep, seals and decisions have the changes that are told of their branches.
use Rattle.std.proofs.Common.{◌≡◌, ℕ, Bool, true, false, if◌then◌else◌, List, ◌∷◌, ◌++◌, Option, Some, None, inl, inr, refl, sym, ap, subst, ◌∙◌}
use Rattle.std.specs.Prelude.{IfSome}
use Rattle.tran_ids.proofs.ListedLemmas.{item_is}
use Rattle.node_rules.specs.Data.{BranchId, Change, Kind, Live, RedoRecord, Input, Answer}
use Rattle.node_rules.specs.Data.kinds
use Rattle.node_rules.specs.Data.records
use Rattle.node_rules.specs.Data.stmts
use Rattle.node_rules.specs.Inputs.{Came}
use Rattle.node_rules.specs.Words.{item_at}
use Rattle.node_rules.specs.NodeState.{live_id, live_at}
use Rattle.run_key_laws.specs.ChangedLaws.{changes_at}
use Rattle.run_rules.specs.Data.{Turn, Happening}
use Rattle.run_rules.specs.Data.happenings
use Rattle.run_rules.specs.Each.{AtEach}
use Rattle.run_rules.specs.Facts.{Facts, first_facts}
use Rattle.run_rules.specs.Branches.{Run, Seen, Trail, seen_at, own_at, own_of, root_at}
use Rattle.run_rules.specs.Lawful.{History, IsLawfulRun}
use Rattle.run_base_laws.specs.NodeLaws.{EachFactFrom}
use Rattle.run_rules.specs.Runs.{asks_root, asks_by, asks, run_by, run_in, goes_back, back_by}
use Rattle.run_claims.specs.Site.{HasOwn, RecordIsSo}
use Rattle.run_rules.specs.Trail.{is_vote, runs_for, runs_with, back_in, is_exec, runs_back, step_back, taken_after}
use Rattle.tree_laws.proofs.PrefixLemmas.{f_at}
use Rattle.book_laws.specs.LeaveLaws.{SealsOn, DecidesOn, LeavesOn, LeavesDuly}
use Rattle.book_laws.proofs.LeaveLemmas.{branches_leave_duly}
use Rattle.tree_laws.proofs.TimeLemmas.{fact_at}
use Rattle.tree_trail_laws.proofs.FullLemmas.{Sees, SeesAll}
use Rattle.tree_trail_laws.proofs.MomentLemmas.{tr_at, at_moment, by_moment}
use Rattle.tree_trail_laws.proofs.OwnRecordLemmas.{HasKept, turn_own}
use Rattle.tree_trail_laws.proofs.SeenLemmas.{begun, brings, turned, seen_turned}
use Rattle.tree_laws.proofs.AtTurn.{at_turn}
use Rattle.tree_trail_laws.proofs.AtTrail.{at_trail}

-- ---- inputs that bring no statement

module _ (tr : Trail) (n : ℕ) where
  vote_asks : (to : BranchId) (kind : Kind) → is_vote kind ≡ true → asks_by tr to kind ≡ None
  vote_asks to (kinds.Exec call task) vote = absurd cc
  vote_asks to _ vote = refl

  commit_asks : (comment : Option (List ℕ)) (o : Option Seen) → asks_root (stmts.Commit comment) o ≡ None
  commit_asks comment None = refl
  commit_asks comment (Some s) = refl

  came_asks : (input : Input) (from to : BranchId) (kind : Kind) → Came input from to kind → asks_by tr to kind ≡ None → asks tr n input ≡ None
  came_asks input from to kind came none = ap (asks tr n) came.is ∙ none

  seal_asks : (l : Live) (input : Input) → SealsOn l input → asks tr n input ≡ None
  seal_asks l input (inl last) = came_asks input last.0 l.me last.1 last.3 (vote_asks l.me last.1 last.4)
  seal_asks l input (inr (inl prepare)) = came_asks input prepare.0.0 l.me (kinds.Prepare prepare.0.1 prepare.0.2) prepare.0.3 refl
  seal_asks l input (inr (inr point)) = came_asks input point.0 l.me kinds.CommitPoint point.1 refl

  decide_asks : (l : Live) (input : Input) → DecidesOn l input → asks tr n input ≡ None
  decide_asks l input (inl point) = came_asks input point.0 l.me kinds.CommitPoint point.1 refl
  decide_asks l input (inr (root, inl last)) = came_asks input last.0 l.me last.1 last.3 (vote_asks l.me last.1 last.4)
  decide_asks l input (inr (root, inr commit)) = ap (asks tr n) commit.0.2 ∙ commit_asks commit.0.1 (root_at tr n commit.0.0)

-- nor does a branch go back with these

module _ (tr : Trail) (n : ℕ) (answer : Option Answer) where
  kind_backs : (to : BranchId) (kind : Kind) → is_exec kind ≡ false → back_by tr to kind ≡ None
  kind_backs to (kinds.Exec call task) none = absurd cc
  kind_backs to _ none = refl

  vote_none : (kind : Kind) → is_vote kind ≡ true → is_exec kind ≡ false
  vote_none (kinds.Exec call task) vote = absurd cc
  vote_none _ vote = refl

  came_backs : (input : Input) (from to : BranchId) (kind : Kind) → Came input from to kind → is_exec kind ≡ false → goes_back tr n answer input ≡ None
  came_backs input from to kind came none = ap (goes_back tr n answer) came.is ∙ kind_backs to kind none

  pub seal_backs : (l : Live) (input : Input) → SealsOn l input → goes_back tr n answer input ≡ None
  seal_backs l input (inl last) = came_backs input last.0 l.me last.1 last.3 (vote_none last.1 last.4)
  seal_backs l input (inr (inl prepare)) = came_backs input prepare.0.0 l.me (kinds.Prepare prepare.0.1 prepare.0.2) prepare.0.3 refl
  seal_backs l input (inr (inr point)) = came_backs input point.0 l.me kinds.CommitPoint point.1 refl

  pub decide_backs : (l : Live) (input : Input) → DecidesOn l input → goes_back tr n answer input ≡ None
  decide_backs l input (inl point) = came_backs input point.0 l.me kinds.CommitPoint point.1 refl
  decide_backs l input (inr (root, inl last)) = came_backs input last.0 l.me last.1 last.3 (vote_none last.1 last.4)
  decide_backs l input (inr (root, inr commit)) = ap (goes_back tr n answer) commit.0.2

back_none : (tr : Trail) (u : Turn) (answer : Option Answer) → goes_back tr u.node answer u.input ≡ None → back_in tr u answer ≡ None
back_none tr u answer none = by u.cut
  where
    by : (cut : Bool) → (if cut then None else goes_back tr u.node answer u.input) ≡ None
    by true = refl
    by false = none

run_none : (f : Facts) (tr : Trail) (u : Turn) → asks tr u.node u.input ≡ None → run_in f tr u ≡ None
unfolding run_in
run_none f tr u none = by u.cut
  where
    by : (cut : Bool) → (if cut then None else run_by f tr u.node (asks tr u.node u.input)) ≡ None
    by true = refl
    by false = ap (run_by f tr u.node) none

-- ---- such a turn leaves the changes of a branch

module _ (t : History) (whole : IsLawfulRun t) (sees : SeesAll t) where
  module _ (hs : List Happening) (u : Turn) (rest : List Happening) (is : hs ++ happenings.Turn u ∷ rest ≡ t.trace) where
    open at_turn t whole hs u rest is use {f as f0, may}
    open at_trail t hs u use {tr as tr0, tr_on as tr1}

    saw : Sees f0 tr0
    saw = at_moment t (λ places f tr h. Sees f tr) sees hs (happenings.Turn u) rest is

    leaves : IfSome u.wrote (LeavesOn may.0.lives u.input)
    leaves =
        let all : LeavesDuly f0 (happenings.Turn u) = fact_at t.places t.commands LeavesDuly (first_facts t.places) hs (happenings.Turn u) rest
        (subst (EachFactFrom LeavesDuly t.places t.commands (first_facts t.places)) (sym is) (branches_leave_duly t whole)) in
        all may.0 may.1.up

    abbrev answer : Option Answer
    answer = (brings t.places f0 tr0 u).answer

    own_turned : (s : Seen) → asks (begun t.places f0 tr0 u) u.node u.input ≡ None → goes_back (begun t.places f0 tr0 u) u.node answer u.input ≡ None → own_of (Some (turned t.places f0 tr0 u s)) ≡ own_of (Some s)
    own_turned s none stays =
        ap (λ rs. own_of (Some (record s { runs = rs })))
        (ap (λ o. runs_back (step_back s.me o) (runs_with (runs_for s (brings t.places f0 tr0 u).run answer) f0.book (taken_after u.node s u.input) s (brings t.places f0 tr0 u).run)) (back_none (begun t.places f0 tr0 u) u answer stays)
        ∙ ap (λ (o : Option Run). runs_with (runs_for s o answer) f0.book (taken_after u.node s u.input) s o) (run_none f0 (begun t.places f0 tr0 u) u none))

    own_so : (b : BranchId) (cs : List Change) (l : Live) → item_at live_id may.0.lives b ≡ Some l → cs ≡ changes_at may.0.owns b → asks (begun t.places f0 tr0 u) u.node u.input ≡ None → goes_back (begun t.places f0 tr0 u) u.node answer u.input ≡ None → cs ≡ own_at tr1 b
    own_so b cs l live kept none stays =
        let me : l.me ≡ b = item_is live_id may.0.lives b l live in
        let it = saw.lives u.node may.0 may.1.up l (subst (λ c. live_at may.0 c ≡ Some l) (sym me) live) in
        let at : seen_at tr0 b ≡ Some it.0 = subst (λ c. seen_at tr0 c ≡ Some it.0) me it.1 in
        let own : own_of (Some it.0) ≡ changes_at may.0.owns b = it.2.own ∙ ap (changes_at may.0.owns) me in
        kept ∙ (sym own ∙ (sym (own_turned it.0 none stays) ∙ sym (ap own_of (seen_turned t.places f0 tr0 u b it.0 at))))

    record_own : (w : Option RedoRecord) → IfSome w (LeavesOn may.0.lives u.input) → IfSome w (HasKept may.0.owns) → IfSome w (HasOwn tr1)
    record_own None on kept = tt
    record_own (Some (records.Sealed r)) on kept = own_so r.me r.changes on.0 on.1 kept (seal_asks (begun t.places f0 tr0 u) u.node on.0 u.input on.2) (seal_backs (begun t.places f0 tr0 u) u.node answer on.0 u.input on.2)
    record_own (Some (records.Decided r)) on kept = own_so r.me r.changes on.0 on.1 kept (decide_asks (begun t.places f0 tr0 u) u.node on.0 u.input on.2) (decide_backs (begun t.places f0 tr0 u) u.node answer on.0 u.input on.2)
    record_own (Some _) on kept = tt

    turn_has_own : IfSome u.wrote (HasOwn tr1)
    turn_has_own = record_own u.wrote leaves (turn_own t.places f0 u may.0 may.1)

  own_at_each : (hs : List Happening) (h : Happening) (rest : List Happening) → hs ++ h ∷ rest ≡ t.trace → RecordIsSo HasOwn t.places (f_at t hs) (tr_at t hs) h
  own_at_each hs (happenings.Turn u) rest is = turn_has_own hs u rest is
  own_at_each hs _ rest is = tt

  pub records_have_own : AtEach (RecordIsSo HasOwn) t
  records_have_own = by_moment t (RecordIsSo HasOwn) own_at_each
