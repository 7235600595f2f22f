-- In every lawful run the decision of an undisturbed COMMIT stands in the book; or its root, and so its session tree, had no
-- commit point site.
use Rattle.std.proofs.Common.{◌≡◌, ◌≢◌, ℕ, zero, suc, ◌||◌, Bool, true, false, if◌then◌else◌, List, [], ◌∷◌, ◌++◌, slice_get, Option, Some, None, inl, inr, refl, sym, ap, subst, ◌∙◌}
use Rattle.std.specs.List.{list_any}
use Rattle.std.proofs.lemmas.List.{append_assoc}
use Rattle.tran_ids.proofs.BranchLemmas.{equal_from_same, same_from_equal}
use Rattle.tran_ids.proofs.ListedLemmas.{item_is}
use Rattle.agreement.specs.Events as exits
use Rattle.agreement.specs.Events.{Exit, Dropped, exit}
use Rattle.node_rules.specs.Data.{BranchId, Input, Kind, Live, RedoRecord}
use Rattle.node_rules.specs.Data.inputs
use Rattle.node_rules.specs.Data.kinds
use Rattle.node_rules.specs.Data.records
use Rattle.node_rules.specs.Data.stmts
use Rattle.node_rules.specs.Inputs.{Came, IsCall}
use Rattle.node_rules.specs.NodeState.{live_id, live_at}
use Rattle.node_rules.specs.Turn.{turn_of, heard}
use Rattle.node_rules.specs.Words.{same}
use Rattle.node_rules.proofs.HeardLemmas.{sessions_heard}
use Rattle.run_rules.specs.Births.{births_of}
use Rattle.run_rules.specs.Book.{is_decision_on}
use Rattle.run_rules.specs.Data.{Happening, Turn}
use Rattle.run_rules.specs.Data.entries
use Rattle.run_rules.specs.Data.happenings
use Rattle.run_rules.specs.Lawful.{History, IsLawfulRun, facts_at}
use Rattle.run_rules.specs.Trail.{recorded_exit}
use Rattle.run_base_laws.specs.RunEvents.{events_of}
use Rattle.run_base_laws.proofs.BirthRunLemmas.{run_births}
use Rattle.run_base_laws.proofs.EventsStandLemmas.{ids_name_their_node}
use Rattle.run_base_laws.proofs.LawfulLemmas.{serves}
use Rattle.run_base_laws.proofs.NodeLemmas.{kept_alone}
use Rattle.run_base_laws.proofs.OwnLemmas.{all_found}
use Rattle.run_base_laws.proofs.RestLemmas.{Before}
use Rattle.run_base_laws.proofs.RestRunLemmas.{run_roots, before_so}
use Rattle.run_base_laws.proofs.RootLemmas.{SessionsFit, sessions_keep}
use Rattle.tree_laws.specs.AskLaws.{way_of}
use Rattle.tree_laws.proofs.AskRunLemmas.{live_told}
use Rattle.tree_laws.proofs.AtTurn.{at_turn}
use Rattle.tree_laws.proofs.DecideLemmas.{cancel}
use Rattle.tree_laws.proofs.TopStepLemmas.{Finishes, At_once, On_answer, Why, By_record, By_quiet, By_finish, By_abort, By_rollback, By_parent, By_ask, By_call, By_reading, By_give_up, why_on}
use Rattle.run_claims.specs.Undisturbed.{Commit, Undisturbed, SiteHasDecided, is_create}
use Rattle.commit_laws.specs.StillLaws.{DroppedNone, AbortsNone}
use Rattle.commit_laws.specs.WaitLaws.{AllCame}
use Rattle.commit_point_laws.specs.EndLaws.{WalkEnd, Has_decided, Has_no_changes}
use Rattle.commit_point_laws.proofs.CalmLemmas.{IsPlain, plain}
use Rattle.commit_point_laws.proofs.DroppedRootLemmas as drop
use Rattle.commit_point_laws.proofs.MomentLemmas.{LeftThen, left_then}
use Rattle.commit_point_laws.proofs.ReadyEndLemmas.{all as tree_all}
use Rattle.commit_point_laws.proofs.WalkEndLemmas.{undisturbed_walks_end}
use Rattle.commit_leave_laws.proofs.PendLemmas.{calm_so}
use Rattle.commit_leave_laws.proofs.RootActLemmas.{upsets}
use Rattle.tree_trail_laws.specs.NoSite.{HadNoSite}
use Rattle.commit_point_laws.proofs.BookLemmas.{decided_stands}
use Rattle.tree_trail_laws.proofs.NoSiteLemmas.{Writes, had_no_site}

-- ---- lists

pub place_any : {A : Type 0} (p : A → Bool) (xs : List A) (i : ℕ) (x : A) → slice_get xs i ≡ Some x → p x ≡ true → list_any p xs ≡ true
place_any p [] i x at is = absurd cc
place_any p (y ∷ ys) zero x at is = let it : Some y ≡ Some x = at in let one : y ≡ x = cc in ap (λ q. q || list_any p ys) (ap p one ∙ is)
place_any p (y ∷ ys) (suc i) x at is = by (p y) (place_any p ys i x at is)
  where
    by : (q : Bool) → list_any p ys ≡ true → (q || list_any p ys) ≡ true
    by true found = refl
    by false found = found

-- ---- an undisturbed COMMIT

module _ (t : History) (whole : IsLawfulRun t) (c : Commit t.places t.commands t.trace) (u : Undisturbed t.places t.commands t.trace c) (below : DroppedNone t c.root) (quiet : AbortsNone t c.root) where
  abbrev r : BranchId
  r = c.root

  all : AllCame t r
  all = tree_all t whole c u below

  -- ---- a root that was dropped

  module _ (left : exit (events_of t) r ≡ Some Dropped) where
    it : LeftThen t whole c.before r Dropped
    it = left_then t whole c.before (drop.part0 t whole c u all) r (drop.none_before t whole c u all) Dropped left

    fine : IsPlain t whole c u it.happening
    fine = plain t whole c u it.since it.happening it.later it.is

    abbrev w : Turn
    w = fine.turn

    abbrev hs : List Happening
    hs = c.before ++ it.since

    abbrev is : hs ++ happenings.Turn w ∷ it.later ≡ t.trace
    is = drop.is t whole c u all it w fine.is fine.uncut fine refl

    open at_turn t whole hs w it.later is use {s, lawful, f, may, k, p, d}

    abbrev l : Live
    l = drop.l t whole c u all it w fine.is fine.uncut fine refl

    was : live_at k r ≡ Some l
    was = (drop.was t whole c u all it w fine.is fine.uncut fine refl).1

    top : l.parent ≡ None
    top = drop.top t whole c u all it w fine.is fine.uncut fine refl

    gone : live_at d.after r ≡ None
    unfolding turn_of
    gone = drop.gone t whole c u all it w fine.is fine.uncut fine refl

    me : l.me ≡ r
    me = item_is live_id k.lives r l was

    mine : live_at k l.me ≡ Some l
    mine = subst (λ b. live_at k b ≡ Some l) (sym me) was

    here : w.node ≡ r.node
    here = sym (all_found (λ (x : Live). x.me.node ≡ w.node) live_id k.lives l.me l (ids_name_their_node s lawful w.node k may.1.up).lives mine) ∙ ap (λ (b : BranchId). b.node) me

    -- nothing came that upsets the COMMIT
    calm : (from : BranchId) (kind : Kind) → Came w.input from r kind → upsets kind ≡ false
    calm from kind came = by it.since refl (cancel c.before (it.since ++ happenings.Turn w ∷ it.later) (happenings.Turn c.call ∷ c.during) (sym (append_assoc c.before it.since (happenings.Turn w ∷ it.later)) ∙ (is ∙ sym c.is)))
      where
        by : (xs : List Happening) → it.since ≡ xs → xs ++ happenings.Turn w ∷ it.later ≡ happenings.Turn c.call ∷ c.during → upsets kind ≡ false
        by [] at same_list =
            let both : happenings.Turn w ≡ happenings.Turn c.call = cc in
            let one : w ≡ c.call = cc in
            let call : w.input ≡ inputs.Call c.session (Some (stmts.Commit c.comment)) = ap (λ (v : Turn). v.input) one ∙ c.asks in
            let message = came.is in
            absurd (cc (call, message))
        by (x ∷ xs) at same_list =
            let head : x ≡ happenings.Turn c.call = cc in
            let joined : (c.before ++ happenings.Turn c.call ∷ []) ++ xs ≡ hs = append_assoc c.before (happenings.Turn c.call ∷ []) xs ∙ (ap (λ y. c.before ++ y ∷ xs) (sym head) ∙ ap (λ ys. c.before ++ ys) (sym at)) in
            calm_so t whole c u quiet k w.input hs w it.later is xs joined may.1 here from kind came

    upset : {A : Type 0} (from : BranchId) (kind : Kind) → Came w.input from r kind → upsets kind ≡ true → A
    upset from kind came upsetting = (let none = calm from kind came in absurd (cc (none, upsetting)))

    -- no seal and no decision of it was written
    unwritten : (o : Option RedoRecord) → w.wrote ≡ o → (e : Exit) → recorded_exit r o ≡ Some e → ⊥
    unwritten None wrote e at = absurd cc
    unwritten (Some (records.Sealed x)) wrote e at = by (same x.me r) refl at
      where
        by : (q : Bool) → same x.me r ≡ q → (if q then Some (exits.Sealed x.scn) else None) ≡ Some e → ⊥
        by true own some = drop.seal_not t whole c u all it w fine.is fine.uncut fine refl x wrote (equal_from_same x.me r own)
        by false own some = absurd cc
    unwritten (Some (records.Decided x)) wrote e at = by (same x.me r) refl at
      where
        by : (q : Bool) → same x.me r ≡ q → (if q then Some (exits.Decided x.scn) else None) ≡ Some e → ⊥
        by true own some = drop.decision_not t whole c u all it w fine.is fine.uncut fine refl x wrote (equal_from_same x.me r own)
        by false own some = absurd cc
    unwritten (Some _) wrote e at = absurd cc

    wrote_is : w.wrote ≡ d.wrote
    unfolding turn_of
    wrote_is = (drop.owed t whole c u all it w fine.is fine.uncut fine refl).0

    other_input : (input : Input) → w.input ≡ input → ((n : ℕ) (comment : Option (List ℕ)) → inputs.Call n (Some (stmts.Commit comment)) ≢ input) → ((m : _) → inputs.Message m ≢ input) → is_create input ≡ false → ⊥
    other_input = drop.input_is t whole c u all it w fine.is fine.uncut fine refl

    -- ---- why it left

    fit : SessionsFit k
    fit = kept_alone SessionsFit sessions_keep s lawful w.node k may.1.up

    heard_live : (input : Input) (b : BranchId) → live_at (heard k input) b ≡ live_at k b
    heard_live (inputs.Message y) b = refl
    heard_live (inputs.Call n o) b = refl
    heard_live (inputs.GiveUp n) b = refl
    heard_live inputs.Reco b = refl
    heard_live inputs.Checkpoint b = refl

    heard_fits : (input : Input) → SessionsFit (heard k input)
    heard_fits (inputs.Message y) = record { roots = fit.roots; above = fit.above }
    heard_fits (inputs.Call n o) = fit
    heard_fits (inputs.GiveUp n) = fit
    heard_fits inputs.Reco = fit
    heard_fits inputs.Checkpoint = fit

    before : Before w.input k
    before = before_so t.places t.commands t.of_a_script.each f (events_of s) (births_of s) (run_births s lawful) (run_roots s lawful) w k may.1

    why : Why w.input r l k.sessions d.wrote d.says
    why =
        subst (λ ss. Why w.input r l ss d.wrote d.says) (sessions_heard k w.input)
        (why_on w.input r l p (λ from sb comment came. before.prepared from r sb comment came l was) (λ none phase. (live_told s lawful w.node k may.1.up l mine).root none (ap way_of phase)) (serves t.places f w k may.1).step
        (heard_fits w.input) (heard_live w.input r ∙ was) gone)

    finishes : Why w.input r l k.sessions d.wrote d.says → Finishes w.input r l k.sessions
    finishes (By_record e wrote) = absurd (unwritten d.wrote wrote_is e wrote)
    finishes (By_quiet q above said) = absurd (cc (above, top))
    finishes (By_finish root ends) = ends
    finishes (By_abort from sb answers) = (let it_is : Some kinds.Abort ≡ Some answers.kind = answers.is_vote in
        let kind : answers.kind ≡ kinds.Abort = cc in
        upset from kinds.Abort (subst (λ (i : BranchId). Came w.input from i kinds.Abort) me (subst (Came w.input from l.me) kind answers.came)) refl)
    finishes (By_rollback from came) = upset from kinds.Rollback came refl
    finishes (By_parent from came above) = upset from kinds.RolledBack came refl
    finishes (By_ask from came above) = upset from kinds.Ask came refl
    finishes (By_call n call at root) = absurd (other_input (inputs.Call n (Some stmts.Rollback)) call (λ m comment no. absurd cc) (λ m no. absurd cc) refl)
    finishes (By_reading n comment scn call reads at root) =
        absurd (drop.reads_not t whole c u all it w fine.is fine.uncut fine refl comment scn (subst (λ m. IsCall w.input m (stmts.Commit comment)) (sym at) call) reads)
    finishes (By_give_up n gives root pends) = absurd (other_input (inputs.GiveUp n) gives (λ m comment no. absurd cc) (λ m no. absurd cc) refl)

    -- a root whose client commits is not READ ONLY
    writer : (o : Option ℕ) → l.read_at ≡ o → (given : Option (List ℕ)) → IsCall w.input r.session (stmts.Commit given) → l.read_at ≡ None
    writer None writes given call = writes
    writer (Some scn) reads given call = absurd (drop.reads_not t whole c u all it w fine.is fine.uncut fine refl given scn call reads)

    writes : Finishes w.input r l k.sessions → Writes w.input l
    writes (At_once n given call has code none nowhere) m comment commits = writer l.read_at refl given (subst (λ i. IsCall w.input i (stmts.Commit given)) (sym (fit.roots.each n r has)) call)
    writes (On_answer from v sb answers other answered nowhere) m comment commits = (let message = answers.came.is in absurd (cc (message, commits)))

    siteless : HadNoSite t r
    siteless = (let ends = finishes why in had_no_site t whole hs w it.later is k may.1.up r l me was top ends (writes ends))

  -- ---- the walk has ended

  decided_by : WalkEnd t r → SiteHasDecided t.places t.commands t.trace r
  decided_by (Has_no_changes left others) = inr (siteless left)
  decided_by (Has_decided n left of) =
      let its = decided_stands t whole _ n left in
      inl (place_any (is_decision_on r) (facts_at t).book its.1 (entries.Decided _ _ its.0 n) its.2 (same_from_equal _ r of))

  pub is_decided : SiteHasDecided t.places t.commands t.trace r
  is_decided = decided_by (undisturbed_walks_end t whole c u below)
