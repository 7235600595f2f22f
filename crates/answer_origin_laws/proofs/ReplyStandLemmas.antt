-- In every lawful run each Reply that is no refusal comes from a run, or says that its branch went back, and what is told of the calls of live branches below roots is what nodes keep.
use Rattle.std.proofs.Common.{◌≡◌, ◌≢◌, ℕ, zero, suc, ◌≤◌, ◌+◌, ◌==◌, Bool, true, false, if◌then◌else◌, List, [], ◌∷◌, ◌++◌, length, arith, Option, Some, None, inl, inr, refl, sym, ap, subst, ◌∙◌, append-nil}
use Rattle.std.specs.Prelude.{find, slice_get, take}
use Rattle.std.specs.List.{AllByRecursion}
use Rattle.std.proofs.lemmas.Bool.{and_left, ne_eqb}
use Rattle.tran_ids.proofs.ListedLemmas.{item_is}
use Rattle.tran_ids.proofs.NumberedLemmas.{set_or_before, set_found}
use Rattle.node_rules.specs.Data.{Answer, BranchId, Live, Post}
use Rattle.node_rules.specs.Words.{numbered, set_numbered}
use Rattle.node_rules.specs.NodeState.{NodeState, live_id, live_at}
use Rattle.node_rules.specs.Turn.{start_of}
use Rattle.node_rules.specs.LiveBranches.{works_of}
use Rattle.run_rules.specs.Branches.{Dropped, Run, Seen, Trail, Origin, no_trail, seen_id, seen_at, is_live, is_live_at, origin_of, origin_at}
use Rattle.run_rules.specs.Data.{Turn, Happening}
use Rattle.run_rules.specs.Data.happenings
use Rattle.run_rules.specs.Facts.{Facts, first_facts, flat, node_at, with_boot, outcome_at, facts_after, facts_of}
use Rattle.run_base_laws.specs.InTurnLaws.{said_in}
use Rattle.run_rules.specs.Lawful.{History, IsLawfulRun}
use Rattle.run_claims.specs.Places.{RanAt}
use Rattle.run_rules.specs.Runs.{run_in, answered_by}
use Rattle.run_rules.specs.Trail.{stopped_by, with_begun, trail_after, trail_of}
use Rattle.run_rules.proofs.AtNodeLemmas.{flat_some}
use Rattle.run_base_laws.proofs.EventsStandLemmas.{ids_name_their_node}
use Rattle.run_base_laws.proofs.OwnLemmas.{all_found}
use Rattle.run_base_laws.proofs.SaidPostLemmas.{said_after}
use Rattle.tree_laws.proofs.PrefixLemmas.{so_far, f_at, one_on}
use Rattle.tree_laws.proofs.TimeLemmas.{Part, part_lawful, keep_on}
use Rattle.tree_trail_laws.proofs.LowerRunLemmas.{lower_at}
use Rattle.tree_trail_laws.proofs.MomentLemmas.{tr_at, trail_one_on}
use Rattle.tree_trail_laws.proofs.SeenLemmas.{item_mapped}
use Rattle.tree_trail_laws.proofs.StartLemmas.{started_none, none_made}
use Rattle.answer_origin_laws.proofs.ReplyLivesLemmas.{turn_holds}
use Rattle.answer_origin_laws.proofs.ReplyTurnLemmas.{RunsSo, PassesSo, BacksSo, answer_later, Holds}

module _ (t : History) (whole : IsLawfulRun t) (Ans : BranchId → ℕ → Answer → Run → Type 0) (runs_so : RunsSo t whole Ans) (passes_so : PassesSo t whole Ans) (backs_so : BacksSo t whole Ans) where
  abbrev H : List Happening → Type 0
  H = Holds t whole Ans

  -- ---- other happenings

  module _ (hs : List Happening) (h : Happening) (now : H hs) where
    -- nothing is sent, the nodes that are up were so, and what is told of their branches is so
    pub same_holds : (g : Facts) (tr : Trail) → facts_after t.places t.commands (f_at t hs) h ≡ g → trail_after t.places (f_at t hs) (tr_at t hs) h ≡ tr → said_in g ≡ said_in (f_at t hs) → tr.origins ≡ (tr_at t hs).origins → tr.moment ≡ (tr_at t hs).moment + 1
        → ((n : ℕ) (j : NodeState) → node_at g n ≡ Some j → (l : Live) → live_at j l.me ≡ Some l → node_at (f_at t hs) n ≡ Some j)
        → ((n : ℕ) (j : NodeState) → node_at g n ≡ Some j → (l : Live) → live_at j l.me ≡ Some l → l.parent ≢ None → (s : Seen) → seen_at tr l.me ≡ Some s → seen_at (tr_at t hs) l.me ≡ Some s)
        → H (hs ++ h ∷ [])
    same_holds g tr facts trail said origins moment still told =
        let fact : f_at t (hs ++ h ∷ []) ≡ g = one_on t hs h ∙ facts in
        let trails : tr_at t (hs ++ h ∷ []) ≡ tr = trail_one_on t hs h ∙ trail in
        let next : (tr_at t (hs ++ h ∷ [])).moment ≡ (tr_at t hs).moment + 1 = ap (λ (y : Trail). y.moment) trails ∙ moment in
        let low : (tr_at t hs).moment ≤ (tr_at t (hs ++ h ∷ [])).moment = omega (arith, next) in
        record {
          replies = λ n x at call weight count a reply good.
              answer_later t whole Ans (origin_at (tr_at t hs) n) (origin_at (tr_at t (hs ++ h ∷ [])) n) (tr_at t hs).moment (tr_at t (hs ++ h ∷ [])).moment low
              (λ r was. ap (λ y. origin_at y n) trails ∙ (ap (λ os. origin_of (find (λ (o : Origin). o.message == n) os)) origins ∙ was)) x.from call a
              (now.replies n x (subst (λ xs. numbered xs n ≡ Some x) (ap said_in fact ∙ said) at) call weight count a reply good);
          low = subst (λ xs. AllByRecursion (λ (o : Origin). o.message ≤ length xs) (tr_at t (hs ++ h ∷ [])).origins) (sym (ap said_in fact ∙ said))
              (subst (AllByRecursion (λ (o : Origin). o.message ≤ length (said_in (f_at t hs)))) (sym (ap (λ (y : Trail). y.origins) trails ∙ origins)) now.low);
          calls = λ n j up l live below s at.
              (let there : node_at g n ≡ Some j = subst (λ f. node_at f n ≡ Some j) fact up in
              let was = now.calls n j (still n j there l live) l live below s (told n j there l live below s (subst (λ y. seen_at y l.me ≡ Some s) trails at)) in
              record { taken = was.taken; kept = λ rf some good. answer_later t whole Ans s.answer s.answer (tr_at t hs).moment (tr_at t (hs ++ h ∷ [])).moment low (λ r is. is) l.me (works_of j.works l.me).came.last_call rf.result (was.kept rf some good) });
        }

  said_same : (f : Facts) (xs : List Post) → xs ≡ said_in f ++ [] → xs ≡ said_in f
  said_same f xs is = is ∙ append-nil (said_in f)

  stopped_other : (n : ℕ) (s : Seen) → s.me.node ≢ n → stopped_by n s ≡ s
  stopped_other n s other = ap (λ q. if q then record s { exit = Some Dropped } else s) (and_left (s.me.node == n) (is_live s) (ne_eqb s.me.node n other))

  stop_keeps_me : (n : ℕ) (s : Seen) → (stopped_by n s).me ≡ s.me
  stop_keeps_me n s = by (is_live_at n s)
    where
      by : (q : Bool) → (if q then record s { exit = Some Dropped } else s).me ≡ s.me
      by true = refl
      by false = refl

  not_stopped : (nodes : List (Option NodeState)) (n : ℕ) (j : NodeState) → flat (numbered (set_numbered nodes n None) n) ≡ Some j → ⊥
  not_stopped nodes n j up = elim (set_or_before nodes n n None) [
    | inl before ↦ (let there : numbered nodes n ≡ Some (Some j) = flat_some (numbered nodes n) j (sym (ap flat before) ∙ up) in
        let none : flat (numbered (set_numbered nodes n None) n) ≡ None = ap flat (set_found nodes n (Some j) None there) in
        absurd (cc (none, up)))
    | inr gone ↦ (let none : flat (numbered (set_numbered nodes n None) n) ≡ None = ap flat gone.1 in absurd (cc (none, up)))
  ]

  stop_still : (f : Facts) (n m : ℕ) (j : NodeState) → flat (numbered (set_numbered f.nodes n None) m) ≡ Some j → node_at f m ≡ Some j
  stop_still f n m j up = elim (set_or_before f.nodes n m None) [
    | inl before ↦ sym (ap flat before) ∙ up
    | inr gone ↦ (let none : flat (numbered (set_numbered f.nodes n None) m) ≡ None = ap flat gone.1 in absurd (cc (none, up)))
  ]

  holds_on : (hs : List Happening) (h : Happening) (rest : List Happening) → hs ++ h ∷ rest ≡ t.trace → H hs → H (hs ++ h ∷ [])
  unfolding facts_after trail_after start_of
  holds_on hs (happenings.Turn u) rest is now = turn_holds t whole Ans runs_so passes_so backs_so hs u rest is now
  holds_on hs (happenings.Stopped n) rest is now =
      same_holds hs (happenings.Stopped n) now _ _ refl refl (said_same (f_at t hs) _ (said_after t.places t.commands (f_at t hs) (happenings.Stopped n))) refl refl (λ m j up l live. stop_still (f_at t hs) n m j up)
      (λ m j up l live below s at. (let before : node_at (f_at t hs) m ≡ Some j = stop_still (f_at t hs) n m j up in
      let part : Part t whole hs = record { rest = happenings.Stopped n ∷ rest; is = is } in
      let own : l.me.node ≡ m = all_found (λ l. l.me.node ≡ m) live_id j.lives l.me l (ids_name_their_node (so_far t hs) (part_lawful t whole hs part) m j before).lives live in
      let was = lower_at t whole hs part m j before l live below in
      let me : was.0.me ≡ l.me = item_is seen_id (tr_at t hs).seen l.me was.0 was.1 in
      let other : was.0.me.node ≢ n = (λ same. not_stopped (f_at t hs).nodes n j (subst (λ i. flat (numbered (set_numbered (f_at t hs).nodes n None) i) ≡ Some j) (sym own ∙ (sym (ap (λ (b : BranchId). b.node) me) ∙ same)) up)) in
      let it : Some was.0 ≡ Some s = sym (item_mapped seen_id (stopped_by n) (stop_keeps_me n) (tr_at t hs).seen l.me was.0 was.1 ∙ ap Some (stopped_other n was.0 other)) ∙ at in
      was.1 ∙ it))
  holds_on hs (happenings.Started n boot) rest is now =
      same_holds hs (happenings.Started n boot) now _ _ refl refl (said_same (f_at t hs) _ (said_after t.places t.commands (f_at t hs) (happenings.Started n boot))) refl refl
      (λ m j up l live. elim (set_or_before (f_at t hs).nodes n m (Some (start_of (with_boot (f_at t hs) n boot)))) [
        | inl before ↦ sym (ap flat before) ∙ up
        | inr new ↦ absurd (started_none (f_at t hs) n boot m j l new.1 up live)
      ])
      (λ m j up l live below s at. at)
  holds_on hs (happenings.Begun c) rest is now = same_holds hs (happenings.Begun c) now _ _ refl refl (said_same (f_at t hs) _ (said_after t.places t.commands (f_at t hs) (happenings.Begun c))) refl refl (λ m j up l live. up) (λ m j up l live below s at. at)
  holds_on hs (happenings.Cut x y) rest is now = same_holds hs (happenings.Cut x y) now _ _ refl refl (said_same (f_at t hs) _ (said_after t.places t.commands (f_at t hs) (happenings.Cut x y))) refl refl (λ m j up l live. up) (λ m j up l live below s at. at)
  holds_on hs (happenings.Join x y) rest is now = same_holds hs (happenings.Join x y) now _ _ refl refl (said_same (f_at t hs) _ (said_after t.places t.commands (f_at t hs) (happenings.Join x y))) refl refl (λ m j up l live. up) (λ m j up l live below s at. at)
  holds_on hs (happenings.Lost x) rest is now = same_holds hs (happenings.Lost x) now _ _ refl refl (said_same (f_at t hs) _ (said_after t.places t.commands (f_at t hs) (happenings.Lost x))) refl refl (λ m j up l live. up) (λ m j up l live below s at. at)

  -- nothing was said before anything happened
  first_holds : H []
  unfolding start_of facts_of trail_of
  first_holds = record {
    replies = λ n x at. absurd (none_said n x at);
    low = tt;
    calls = λ n k up l live below s at. absurd (none_made t.places n k l up live);
  }
    where
      none_said : (n : ℕ) (x : Post) → numbered [] n ≡ Some x → ⊥
      none_said zero x is = absurd cc
      none_said (suc n) x is = absurd cc

  pub holds_at : (hs : List Happening) → Part t whole hs → H hs
  holds_at hs part = keep_on t whole H holds_on [] hs part first_holds

-- ---- from runs

-- the first part of a run, by its length
pub taken_first : {A : Type 0} (hs rest : List A) → take (length hs) (hs ++ rest) ≡ hs
taken_first [] rest = refl
taken_first (h ∷ hs) rest = ap (λ xs. h ∷ xs) (taken_first hs rest)

pub next_at : {A : Type 0} (hs : List A) (h : A) (rest : List A) → slice_get (hs ++ h ∷ rest) (length hs) ≡ Some h
next_at [] h rest = refl
next_at (x ∷ hs) h rest = next_at hs h rest

module _ (t : History) where
  pub prefix : (hs : List Happening) (h : Happening) (rest : List Happening) → hs ++ h ∷ rest ≡ t.trace → take (length hs) t.trace ≡ hs
  prefix hs h rest is = ap (take (length hs)) (sym is) ∙ taken_first hs (h ∷ rest)

  pub happens_at : (hs : List Happening) (h : Happening) (rest : List Happening) → hs ++ h ∷ rest ≡ t.trace → slice_get t.trace (length hs) ≡ Some h
  happens_at hs h rest is = ap (λ xs. slice_get xs (length hs)) (sym is) ∙ next_at hs h rest

  moment_on : (f : Facts) (tr : Trail) (h : Happening) → (trail_after t.places f tr h).moment ≡ tr.moment + 1
  unfolding trail_after
  moment_on f tr (happenings.Turn u) = refl
  moment_on f tr (happenings.Stopped n) = refl
  moment_on f tr _ = refl

  moments : (f : Facts) (tr : Trail) (hs : List Happening) → (trail_of t.places t.commands f tr hs).moment ≡ tr.moment + length hs
  unfolding trail_of
  moments f tr [] = omega arith
  moments f tr (h ∷ hs) =
      let later : (trail_of t.places t.commands (facts_after t.places t.commands f h) (trail_after t.places f tr h) hs).moment ≡ (trail_after t.places f tr h).moment + length hs = moments (facts_after t.places t.commands f h) (trail_after t.places f tr h) hs in
      omega (arith, later, moment_on f tr h)

  pub moment_at : (hs : List Happening) → (tr_at t hs).moment ≡ length hs
  moment_at hs =
      let it : (tr_at t hs).moment ≡ 0 + length hs = moments (first_facts t.places) no_trail hs in
      let here : (tr_at t hs).moment ≡ length hs = omega (arith, it) in
      here

  -- a run in one of the turns
  pub ran_there : (hs : List Happening) (u : Turn) (rest : List Happening) → hs ++ happenings.Turn u ∷ rest ≡ t.trace → (r : Run) (a : Answer) → r.moment ≡ (tr_at t hs).moment
      → run_in (f_at t hs) (with_begun (f_at t hs) (tr_at t hs) u) u ≡ Some r → answered_by (outcome_at t.places (f_at t hs) u) ≡ Some a → RanAt t r a
  ran_there hs u rest is r a moment run answer =
      let here : length hs ≡ r.moment = sym (moment ∙ moment_at hs) in
      let upto : hs ≡ take r.moment t.trace = sym (prefix hs (happenings.Turn u) rest is) ∙ ap (λ n. take n t.trace) here in
      record {
        turn = u;
        there = subst (λ n. slice_get t.trace n ≡ Some (happenings.Turn u)) here (happens_at hs (happenings.Turn u) rest is);
        runs = subst (λ xs. run_in (f_at t xs) (with_begun (f_at t xs) (tr_at t xs) u) u ≡ Some r) upto run;
        answers = subst (λ xs. answered_by (outcome_at t.places (f_at t xs) u) ≡ Some a) upto answer;
      }
