-- In every lawful run a branch sent Prepare to another at most once.
use Rattle.std.proofs.Common.{◌≡◌, ℕ, ◌+◌, ◌<◌, ◌≤◌, ◌&&◌, ◌||◌, Bool, true, false, if◌then◌else◌, List, [], ◌∷◌, ◌++◌, map, Option, Some, inl, inr, refl, sym, ap, subst, ◌∙◌, arith, append-nil}
use Rattle.std.specs.Prelude.{◌⊎◌}
use Rattle.std.proofs.lemmas.Bool.{and_parts}
use Rattle.tran_ids.proofs.BranchLemmas.{equal_from_same}
use Rattle.node_rules.specs.Data.{BranchId, Edge, Kind, Live, Place, Post}
use Rattle.node_rules.specs.Data.stmts
use Rattle.node_rules.specs.Words.{same, item_at}
use Rattle.node_rules.specs.NodeState.{NodeState, TurnDraft, live_id, live_at, branch_at, work_at, with_work}
use Rattle.node_rules.specs.Prepare.{prepares, with_prepare_sent}
use Rattle.node_rules.specs.Turn.{turn_of, heard, draft_of}
use Rattle.node_rules.proofs.Steps.{HasRoot}
use Rattle.run_rules.specs.Births.{Born, births_of}
use Rattle.run_base_laws.specs.BirthLaws.{Began, ChildrenAre, LiveIs}
use Rattle.run_base_laws.specs.CallLaws.{ComesAtRest}
use Rattle.run_rules.specs.Data.{Turn, Happening}
use Rattle.run_rules.specs.Data.happenings
use Rattle.run_rules.specs.Facts.{first_facts, place_at, facts_of}
use Rattle.run_base_laws.specs.FreezeLaws.{was_asked}
use Rattle.run_base_laws.specs.InTurnLaws.{post_of, said_in}
use Rattle.run_rules.specs.Lawful.{IsOwed, MayHappen, MayTurn, History, IsLawfulRun}
use Rattle.run_base_laws.specs.NodeLaws.{EachFactFrom}
use Rattle.run_rules.specs.Trail.{is_prepare}
use Rattle.run_base_laws.proofs.BirthRunLemmas.{nodes_name_the_born}
use Rattle.run_branch_laws.proofs.FreezeLemmas.{plain_asks, prepares_ask}
use Rattle.run_branch_laws.proofs.FreezeRunLemmas.{asked_stand_still}
use Rattle.run_base_laws.proofs.KidLemmas.{edge_of, child_edge}
use Rattle.run_base_laws.proofs.LawfulLemmas.{serves}
use Rattle.run_base_laws.proofs.OwnLemmas.{all_found}
use Rattle.run_base_laws.proofs.RestRunLemmas.{calls_come_at_rest}
use Rattle.run_base_laws.proofs.SaidPostLemmas.{posts_back, posts_of, said_after}
use Rattle.tree_laws.proofs.AnswerRunLemmas.{lives_heard}
use Rattle.tree_laws.proofs.PrefixLemmas.{f_at, one_on}
use Rattle.tree_laws.proofs.TimeLemmas.{may_of, fact_at, keep_on}
use Rattle.commit_laws.specs.OnceLaws.{count_sent, PreparesAreSentOnce}
use Rattle.commit_laws.proofs.OnceStepLemmas.{AsksDown, FindsWork, Asks, asks_on}
use Rattle.tree_laws.proofs.AtTurn.{at_happening}

-- ---- counts

count_more : (kind : Kind → Bool) (xs ys : List Post) (p c : BranchId) → count_sent kind (xs ++ ys) p c ≡ count_sent kind xs p c + count_sent kind ys p c
count_more kind [] ys p c = omega arith
count_more kind (x ∷ xs) ys p c = by ((same x.from p && same x.to c) && kind x.kind) (count_more kind xs ys p c)
  where
    by : (q : Bool) → count_sent kind (xs ++ ys) p c ≡ count_sent kind xs p c + count_sent kind ys p c
        → (if q then 1 + count_sent kind (xs ++ ys) p c else count_sent kind (xs ++ ys) p c) ≡ (if q then 1 + count_sent kind xs p c else count_sent kind xs p c) + count_sent kind ys p c
    by true is = omega (arith, is)
    by false is = is

-- none was sent
none_counts : (xs : List Post) (p c : BranchId) → was_asked xs p c ≡ false → count_sent is_prepare xs p c ≡ 0
none_counts [] p c none = refl
none_counts (x ∷ xs) p c none = by ((same x.from p && same x.to c) && is_prepare x.kind) none (none_counts xs p c)
  where
    by : (q : Bool) → (q || was_asked xs p c) ≡ false → (was_asked xs p c ≡ false → count_sent is_prepare xs p c ≡ 0) → (if q then 1 + count_sent is_prepare xs p c else count_sent is_prepare xs p c) ≡ 0
    by true is rest = absurd cc
    by false is rest = rest is

module _ (bs : List Born) (me : BranchId) (comment : List ℕ) (path : Option ℕ) (p c : BranchId) where
  abbrev asked : ℕ → List Edge → ℕ
  asked i es = count_sent is_prepare (prepares me comment path i (map with_prepare_sent es)) p c

  -- an edge of a later number leads elsewhere
  later_none : (i j : ℕ) (es : List Edge) → edge_of bs c ≡ Some i → i < j → ChildrenAre (Began bs) me j es → asked j es ≡ 0
  later_none i j [] at low all = refl
  later_none i j (e ∷ es) at low all = by ((same me p && same e.peer c) && true) refl (later_none i (j + 1) es at (omega (arith, low)) all.1)
    where
      by : (q : Bool) → ((same me p && same e.peer c) && true) ≡ q → asked (j + 1) es ≡ 0 → (if q then 1 + asked (j + 1) es else asked (j + 1) es) ≡ 0
      by true here rest =
          let parts = and_parts (same me p && same e.peer c) true here in
          let peer : e.peer ≡ c = equal_from_same e.peer c (and_parts (same me p) (same e.peer c) parts.0).1 in
          let number : edge_of bs c ≡ Some j = subst (λ b. edge_of bs b ≡ Some j) peer (child_edge bs e.peer me j all.0) in
          let both : Some i ≡ Some j = sym at ∙ number in
          let it : i ≡ j = cc in
          absurd (omega (arith, it, low))
      by false other rest = rest

  -- so each child is asked once
  once : (i : ℕ) (es : List Edge) → ChildrenAre (Began bs) me i es → asked i es ≤ 1
  once i [] all = omega arith
  once i (e ∷ es) all = by ((same me p && same e.peer c) && true) refl (once (i + 1) es all.1)
    where
      by : (q : Bool) → ((same me p && same e.peer c) && true) ≡ q → asked (i + 1) es ≤ 1 → (if q then 1 + asked (i + 1) es else asked (i + 1) es) ≤ 1
      by true here rest =
          let parts = and_parts (same me p && same e.peer c) true here in
          let peer : e.peer ≡ c = equal_from_same e.peer c (and_parts (same me p) (same e.peer c) parts.0).1 in
          let number : edge_of bs c ≡ Some i = subst (λ b. edge_of bs b ≡ Some i) peer (child_edge bs e.peer me i all.0) in
          let none : asked (i + 1) es ≡ 0 = later_none i (i + 1) es number (omega arith) all.1 in
          omega (arith, none)
      by false other rest = rest

-- ---- every run

module _ (t : History) (whole : IsLawfulRun t) where
  abbrev Once : List Happening → Type 0
  Once hs = (p c : BranchId) → count_sent is_prepare (said_in (f_at t hs)) p c ≤ 1

  module _ (hs : List Happening) (h : Happening) (rest : List Happening) (is : hs ++ h ∷ rest ≡ t.trace) (now : Once hs) where
    open at_happening t whole hs h rest is use {f, s, lawful}

    -- with messages that may be added
    abbrev Adds : List Post → Type 0
    Adds says = (p c : BranchId) → (count_sent is_prepare says p c ≡ 0) ⊎ ((count_sent is_prepare (said_in f) p c ≡ 0) × (count_sent is_prepare says p c ≤ 1))

    added : Adds (posts_of h) → Once (hs ++ h ∷ [])
    added adds p c =
        let said : said_in (f_at t (hs ++ h ∷ [])) ≡ said_in f ++ posts_of h = ap said_in (one_on t hs h) ∙ said_after t.places t.commands f h in
        let count : count_sent is_prepare (said_in (f_at t (hs ++ h ∷ []))) p c ≡ count_sent is_prepare (said_in f) p c + count_sent is_prepare (posts_of h) p c
        = ap (λ xs. count_sent is_prepare xs p c) said ∙ count_more is_prepare (said_in f) (posts_of h) p c in
        let old : count_sent is_prepare (said_in f) p c ≤ 1 = now p c in
        elim (adds p c) [ inl none ↦ omega (arith, count, old, none) | inr first ↦ (let none = first.0 in let one = first.1 in omega (arith, count, none, one)) ]

    module _ (u : Turn) (turn : h ≡ happenings.Turn u) (k : NodeState) (may : MayTurn t.places f u k) where
      abbrev p0 : Place
      p0 = place_at t.places u.node

      abbrev d : TurnDraft
      d = draft_of p0 k u.input

      rest_at : ComesAtRest t.places f (happenings.Turn u)
      rest_at =
          subst (ComesAtRest t.places f) turn
          (fact_at t.places t.commands (ComesAtRest t.places) (first_facts t.places) hs h rest (subst (EachFactFrom (ComesAtRest t.places) t.places t.commands (first_facts t.places)) (sym is) (calls_come_at_rest t whole)))

      branch_of : (l : Live) → live_at k l.me ≡ Some l → branch_at k l.me ≡ Some (record { live = l; work = work_at k l.me })
      branch_of l live = ap (with_work k) live

      work : FindsWork (heard k u.input) p0 u.input (heard k u.input)
      work n given l call has live =
          let same : heard k u.input ≡ k = ap (heard k) call in
          let root : HasRoot k n l.me = subst (λ (j : NodeState). HasRoot j n l.me) same has in
          let there : live_at k l.me ≡ Some l = subst (λ (j : NodeState). live_at j l.me ≡ Some l) same live in
          (rest_at k may.up n (Some (stmts.Commit given)) call (record { live = l; work = work_at k l.me }) root (branch_of l there)).0

      asks : Asks (heard k u.input) p0 u.input d.says
      asks = asks_on (heard k u.input) p0 u.input (serves t.places f u k may).step (λ apart. record { lives = refl; clock = refl }) work

      down : AsksDown (heard k u.input) d.says → Adds d.says
      down it p c = by (was_asked d.says p c) refl
        where
          live : live_at k it.live.me ≡ Some it.live
          live = subst (λ (ls : List Live). item_at live_id ls it.live.me ≡ Some it.live) (lives_heard k u.input) it.found

          placed : LiveIs (Began (births_of s)) it.live
          placed = all_found (LiveIs (Began (births_of s))) live_id k.lives it.live.me it.live (nodes_name_the_born s lawful u.node k may.up).0 live

          by : (q : Bool) → was_asked d.says p c ≡ q → (count_sent is_prepare d.says p c ≡ 0) ⊎ ((count_sent is_prepare (said_in f) p c ≡ 0) × (count_sent is_prepare d.says p c ≤ 1))
          by false none = inl (none_counts d.says p c none)
          by true asked =
              let me : it.live.me ≡ p = equal_from_same it.live.me p (prepares_ask it.live.me it.comment it.path 1 (map with_prepare_sent it.live.edges) p c (subst (λ xs. was_asked xs p c ≡ true) it.is asked)).0 in
              let unasked : was_asked (said_in f) it.live.me c ≡ false = (asked_stand_still s lawful u.node k may.up (record { live = it.live; work = work_at k it.live.me }) (branch_of it.live live)).0 it.working c in
              inr (
                none_counts (said_in f) p c (subst (λ b. was_asked (said_in f) b c ≡ false) me unasked),
                subst (λ xs. count_sent is_prepare xs p c ≤ 1) (sym it.is) (once (births_of s) it.live.me it.comment it.path p c 1 it.live.edges placed.children),
              )

      says_add : Adds d.says
      says_add p c = elim asks [ inl plain ↦ inl (none_counts d.says p c (plain_asks p c d.says plain)) | inr it ↦ down it p c ]

      posts_add : (cut : Bool) → IsOwed p0 k u.input u.wrote u.sent cut → Adds (posts_of (happenings.Turn u))
      unfolding turn_of
      posts_add true owed p c = inl (ap (λ xs. count_sent is_prepare (map post_of xs) p c) owed.1)
      posts_add false owed p c =
          let posts : map post_of u.sent ≡ d.says = ap (λ xs. map post_of xs) owed.1 ∙ posts_back d.after.clock d.says in
          subst (λ xs. (count_sent is_prepare xs p c ≡ 0) ⊎ ((count_sent is_prepare (said_in f) p c ≡ 0) × (count_sent is_prepare xs p c ≤ 1))) (sym posts) (says_add p c)

    once_by : (y : Happening) → h ≡ y → MayHappen t.places t.commands f y → Adds (posts_of y)
    once_by (happenings.Turn u) turn may p c = posts_add u turn may.0 may.1 u.cut may.1.owed p c
    once_by (happenings.Stopped n) it may p c = inl refl
    once_by (happenings.Started n boot) it may p c = inl refl
    once_by (happenings.Begun n) it may p c = inl refl
    once_by (happenings.Cut a b) it may p c = inl refl
    once_by (happenings.Join a b) it may p c = inl refl
    once_by (happenings.Lost n) it may p c = inl refl

    once_on : Once (hs ++ h ∷ [])
    once_on = added (once_by h refl (may_of t whole hs h rest is))

  first_once : Once []
  unfolding facts_of
  first_once p c = omega arith

pub prepares_are_sent_once : PreparesAreSentOnce
prepares_are_sent_once t whole = keep_on t whole (Once t whole) (once_on t whole) [] t.trace (record { rest = []; is = append-nil t.trace }) (first_once t whole)
