-- A session has begun as many roots as its last number says, after each turn too, and in the order of their numbers.
use Rattle.std.proofs.Common.{◌≡◌, ◌≢◌, ℕ, suc, ◌+◌, ◌==◌, ◌≤◌, ◌&&◌, ◌⊎◌, Bool, true, false, if◌then◌else◌, filter, unwrap_or, length, List, [], ◌∷◌, ◌++◌, Some, None, inl, inr, refl, sym, ap, subst, ◌∙◌, arith}
use Rattle.std.specs.List.{AllByRecursion}
use Rattle.std.specs.Prelude.{IfSome}
use Rattle.std.proofs.lemmas.Bool.{eq-eqb, ne_eqb, and_from, and_left, and_right, cases_eq}
use Rattle.tran_ids.proofs.NumberedLemmas.{set_or_before}
use Rattle.node_rules.specs.Data.{BranchId, Stmt}
use Rattle.node_rules.specs.Data.stmts
use Rattle.node_rules.specs.declared.session.Session.{Session}
use Rattle.node_rules.specs.Words.{same, set_numbered}
use Rattle.node_rules.specs.Inputs.{IsCall, IsSession}
use Rattle.node_rules.specs.NodeState.{NodeState, TurnDraft}
use Rattle.node_rules.specs.Sessions.{session_at}
use Rattle.node_rules.specs.Client.{new_root}
use Rattle.node_rules.specs.Turn.{turn_of, draft_of}
use Rattle.node_rules.proofs.Steps.{IsOfRows}
use Rattle.node_rules.proofs.SessionLemmas.{seqs, seq_at, session_seq}
use Rattle.node_rules.proofs.HeardLemmas.{sessions_heard}
use Rattle.run_rules.specs.Births.{Born, births_of, born_id}
use Rattle.run_base_laws.specs.BirthLaws.{Began}
use Rattle.run_rules.specs.Branches.{Seen}
use Rattle.run_rules.specs.Data.{Turn, Happening}
use Rattle.run_rules.specs.Data.happenings
use Rattle.run_rules.specs.Facts.{node_at, records_at, kept_after}
use Rattle.run_rules.specs.Lawful.{MayTurn, boots, History, IsLawfulRun}
use Rattle.run_rules.specs.Runs.{is_of_rows, begins_transaction}
use Rattle.run_base_laws.specs.RunEvents.{events_of}
use Rattle.run_rules.specs.Trail.{begun_in, root_seen, begun_in_turn, trail_after}
use Rattle.run_rules.proofs.AtNodeLemmas.{turn_elsewhere, turn_here}
use Rattle.run_base_laws.proofs.BirthRunLemmas.{StandBorn}
use Rattle.run_rules.proofs.BootLemmas.{IsOfTurn, step_of_turn, boots_with}
use Rattle.run_base_laws.proofs.IdLemmas.{seq_set}
use Rattle.run_base_laws.proofs.LawfulLemmas.{of_wrote}
use Rattle.run_rules.proofs.ListLemmas.{all_weaker}
use Rattle.run_base_laws.proofs.OwnLemmas.{all_found}
use Rattle.tree_laws.proofs.PrefixLemmas.{so_far, f_at}
use Rattle.tree_trail_laws.specs.SeenLaws.{SeesRoots}
use Rattle.tree_trail_laws.proofs.MomentLemmas.{tr_at}
use Rattle.tree_trail_laws.proofs.SeenLemmas.{begun, turned}
use Rattle.tree_trail_laws.proofs.TopFreshLemmas.{Fresh, fresh_so}
use Rattle.tree_trail_laws.proofs.TopSeqLemmas.{seqs_on, births_high}
use Rattle.tree_trail_laws.proofs.TopListLemmas.{is_of, count_map, count_none, count_last, count_more, Ordered}
use Rattle.tree_trail_laws.proofs.TopBirthLemmas as births
use Rattle.tree_trail_laws.proofs.TopBirthLemmas.{IsBorn, Counts, Booted}
use Rattle.tree_laws.proofs.AtTurn.{at_turn}
use Rattle.tree_trail_laws.proofs.AtTrail.{at_trail}
use Rattle.tree_trail_laws.proofs.HeardNodeLemmas.{heard_fits}
use Rattle.run_base_laws.proofs.BeginLemmas.{MayBegin}

pub rows_so : (s : Stmt) → IsOfRows s → is_of_rows s ≡ true
rows_so (stmts.Insert table columns given) rows = refl
rows_so (stmts.Update table sets cs) rows = refl
rows_so (stmts.Delete table cs) rows = refl
rows_so (stmts.Select list table cs for_update) rows = refl
rows_so _ rows = absurd rows

-- a statement that may begin a transaction does
pub may_so : (s : Stmt) → MayBegin s → begins_transaction s ≡ true
may_so stmts.SetReadOnly begins = refl
may_so (stmts.Savepoint name) begins = refl
may_so (stmts.Insert table columns given) begins = refl
may_so (stmts.Update table sets cs) begins = refl
may_so (stmts.Delete table cs) begins = refl
may_so (stmts.Select list table cs for_update) begins = refl
may_so _ begins = absurd begins

module _ (t : History) (whole : IsLawfulRun t) where
  module _ (hs : List Happening) (u : Turn) (rest : List Happening) (is : hs ++ happenings.Turn u ∷ rest ≡ t.trace)
      (sees : SeesRoots (f_at t hs) (tr_at t hs)) (counts : Counts t whole (f_at t hs) (tr_at t hs)) (born : AllByRecursion (λ s. IsBorn t whole hs s.me) (tr_at t hs).seen) where
    open at_turn t whole hs u rest is use {after as hs1, s_after as s1, f as f0, g as f1, p}
    open at_trail t hs u use {tr as tr0, tr_on as tr1}

    abbrev k : NodeState
    k = (births.may t whole hs u rest is sees counts born).0

    abbrev d : TurnDraft
    d = draft_of p k u.input

    abbrev stand : StandBorn t.places t.commands t.of_a_script.each f0 (events_of (so_far t hs)) (births_of (so_far t hs))
    stand = births.stand t whole hs u rest is sees counts born

    abbrev number : p.number ≡ u.node
    number = births.number t whole hs u rest is sees counts born

    abbrev boot : k.stored.durable.boot ≡ boots (records_at f0 u.node)
    boot = births.boot t whole hs u rest is sees counts born

    abbrev may_turn : MayTurn t.places f0 u k
    may_turn = (births.may t whole hs u rest is sees counts born).1

    -- ---- starts

    boots_same : (n : ℕ) → boots (records_at f1 n) ≡ boots (records_at f0 n)
    boots_same n = elim (cases_eq u.node n) [
      | inr other ↦ ap boots (turn_elsewhere t.places t.commands f0 stand.0.0.even u n other).1
      | inl here ↦ subst (λ m. boots (records_at f1 m) ≡ boots (records_at f0 m)) here
          (ap boots (turn_here t.places t.commands f0 stand.0.0.even u k may_turn.up).1
          ∙ boots_with (records_at f0 u.node) u.wrote (of_wrote p k u (births.serving t whole hs u rest is sees counts born) (λ w. IfSome w IsOfTurn) tt (step_of_turn p u.input (births.serving t whole hs u rest is sees counts born).step)))
    ]

    pub booted_on : AllByRecursion (Booted t whole f0) tr0.seen → AllByRecursion (Booted t whole f1) tr1.seen
    booted_on booted =
        births.seen_all t whole hs u rest is sees counts born (Booted t whole f1) (λ s so. so) (all_weaker (Booted t whole f0) (Booted t whole f1) (λ s so low. subst (λ m. s.me.boot ≤ m) (sym (boots_same s.me.node)) (so low)) tr0.seen booted)
        (births.begun_all t whole hs u rest is sees counts born (Booted t whole f1) (λ n s cut call rows range none low.
        (let at : boots (records_at f1 p.number) ≡ k.stored.durable.boot = boots_same p.number ∙ (ap (λ m. boots (records_at f0 m)) number ∙ sym boot) in omega (arith, at)))
        (λ y its below low. (let high : 65 ≤ its.0.me.session = all_found (λ (x : Born). x.parent ≢ None → 65 ≤ x.me.session) born_id (births_of s1) its.0.me its.0 (births_high s1) its.1 its.3 in
        let at : its.0.me.session ≡ y.me.session = ap (λ (b : BranchId). b.session) its.2 in absurd (omega (arith, high, at, low)))))

    -- ---- counts

    counted : (n boot session : ℕ) → begun_in tr1 n boot session ≡ length (filter (is_of n boot session) (tr0.seen ++ begun_in_turn f0 tr0 u))
    unfolding trail_after
    counted n boot session = count_map (is_of n boot session) (turned t.places f0 tr0 u) (λ s. refl) (begun t.places f0 tr0 u).seen

    -- no root of this session of this node begins
    same_count : (n boot session : ℕ) → AllByRecursion (λ s. is_of n boot session s ≡ false) (begun_in_turn f0 tr0 u) → begun_in tr1 n boot session ≡ begun_in tr0 n boot session
    same_count n boot session none = counted n boot session ∙ more tr0.seen (begun_in_turn f0 tr0 u) none
      where
        more : (xs ys : List Seen) → AllByRecursion (λ s. is_of n boot session s ≡ false) ys → length (filter (is_of n boot session) (xs ++ ys)) ≡ length (filter (is_of n boot session) xs)
        more [] ys all = count_none (is_of n boot session) ys all
        more (x ∷ xs) ys all = by (is_of n boot session x) (more xs ys all)
          where
            by : (q : Bool) → length (filter (is_of n boot session) (xs ++ ys)) ≡ length (filter (is_of n boot session) xs)
                → length (if q then x ∷ filter (is_of n boot session) (xs ++ ys) else filter (is_of n boot session) (xs ++ ys)) ≡ length (if q then x ∷ filter (is_of n boot session) xs else filter (is_of n boot session) xs)
            by true rest = ap suc rest
            by false rest = rest

    -- a child has no session's number
    child_not : (n boot session : ℕ) → session ≤ 64 → (y : Seen) → ((x : Born) × Began (births_of s1) x × (x.me ≡ y.me) × (x.parent ≢ None)) → is_of n boot session y ≡ false
    child_not n boot session low y its =
        let high : 65 ≤ its.0.me.session = all_found (λ (x : Born). x.parent ≢ None → 65 ≤ x.me.session) born_id (births_of s1) its.0.me its.0 (births_high s1) its.1 its.3 in
        let at : its.0.me.session ≡ y.me.session = ap (λ (b : BranchId). b.session) its.2 in
        and_right (y.me.node == n) ((y.me.boot == boot) && (y.me.session == session)) (and_right (y.me.boot == boot) (y.me.session == session) (ne_eqb y.me.session session (λ equal. omega (arith, high, at, equal, low))))

    elsewhere : (n : ℕ) → u.node ≢ n → (session : ℕ) → IsSession session → (boot : ℕ) → begun_in tr1 n boot session ≡ begun_in tr0 n boot session
    elsewhere n other session range boot =
        same_count n boot session
        (births.begun_all t whole hs u rest is sees counts born (λ s. is_of n boot session s ≡ false) (λ m s cut call rows its none. and_left (p.number == n) ((k.stored.durable.boot == boot) && (m == session)) (ne_eqb p.number n (λ equal. other (sym number ∙ equal))))
        (λ y its below. child_not n boot session range.1 y its))

    -- no session gets another number where none begins
    module _ (session : ℕ) (range : IsSession session) where
      seq_of : seqs d.after.sessions ≡ seqs k.sessions → (session_at d.after.sessions session).seq ≡ (session_at k.sessions session).seq
      seq_of same = session_seq d.after.sessions session ∙ (ap (λ ms. seq_at ms session) same ∙ sym (session_seq k.sessions session))

      quiet_seq : ((n : ℕ) (s : Stmt) → IsCall u.input n s → begins_transaction s ≡ true → (session_at k.sessions n).root ≡ None → ⊥) → (session_at d.after.sessions session).seq ≡ (session_at k.sessions session).seq
      quiet_seq nobody = elim (seqs_on p u.input (births.serving t whole hs u rest is sees counts born).step (heard_fits k (births.fit t whole hs u rest is sees counts born) u.input)) [
        | inl same ↦ seq_of (same ∙ ap seqs (sessions_heard k u.input))
        | inr begins ↦ absurd (nobody begins.session begins.statement begins.call (may_so begins.statement begins.begins) (subst (λ (ss : List Session). (session_at ss begins.session).root ≡ None) (sessions_heard k u.input) begins.none))
      ]

      -- the session of the root that begins gets the next one
      next_seq : (n : ℕ) → IsSession n → seqs d.after.sessions ≡ set_numbered (seqs k.sessions) n ((session_at k.sessions n).seq + 1)
          → ((n ≡ session) × ((session_at d.after.sessions session).seq ≡ (session_at k.sessions session).seq + 1)) ⊎ ((n ≢ session) × ((session_at d.after.sessions session).seq ≡ (session_at k.sessions session).seq))
      next_seq n its next =
          let q : ℕ = (session_at k.sessions n).seq + 1 in
          let now : (session_at d.after.sessions session).seq ≡ seq_at (set_numbered (seqs k.sessions) n q) session = session_seq d.after.sessions session ∙ ap (λ ms. seq_at ms session) next in
          elim (cases_eq n session) [
            | inl here ↦ inl (here, now ∙ (subst (λ m. seq_at (set_numbered (seqs k.sessions) n q) m ≡ (session_at k.sessions m).seq + 1) here (seq_set (seqs k.sessions) n q its (births.node t whole hs u rest is sees counts born).ids.many)))
            | inr other ↦ inr (
              other,
              now ∙ elim (set_or_before (seqs k.sessions) n session q) [
                | inl still ↦ ap (λ o. unwrap_or o 0) still ∙ sym (session_seq k.sessions session)
                | inr new ↦ absurd (other new.0)
              ],
            )
          ]

      here_count : u.cut ≡ false → (ys : List Seen) → births.TurnBegins t whole hs u rest is sees counts born ys → begun_in_turn f0 tr0 u ≡ ys → begun_in tr1 u.node (boots (records_at f0 u.node)) session ≡ (session_at d.after.sessions session).seq
      here_count cut ys (births.None_begins nobody are) is_ys =
          same_count u.node (boots (records_at f0 u.node)) session (subst (AllByRecursion (λ s. is_of u.node (boots (records_at f0 u.node)) session s ≡ false)) (sym (is_ys ∙ are)) tt)
          ∙ (counts u.node k may_turn.up session range ∙ sym (quiet_seq nobody))
      here_count cut ys (births.Child_begins y nobody its below live new are) is_ys =
          same_count u.node (boots (records_at f0 u.node)) session (subst (AllByRecursion (λ s. is_of u.node (boots (records_at f0 u.node)) session s ≡ false)) (sym (is_ys ∙ are)) (child_not u.node (boots (records_at f0 u.node)) session range.1 y its, tt))
          ∙ (counts u.node k may_turn.up session range ∙ sym (quiet_seq (λ n s call rows none. nobody n s call)))
      here_count cut ys (births.Root_begins n s call rows its none are) is_ys =
          let r : Seen = root_seen f0 u.node s (new_root p k n) in
          let so : Fresh p k n d = subst (λ i. Fresh p k n (draft_of p k i)) (sym call) (fresh_so p k n (births.not_live t whole hs u rest is sees counts born (new_root p k n) (births.root_unborn t whole hs u rest is sees counts born n s call rows none)) (births.fit t whole hs u rest is sees counts born) its none s rows) in
          let all : begun_in tr1 u.node (boots (records_at f0 u.node)) session ≡ length (filter (is_of u.node (boots (records_at f0 u.node)) session) (tr0.seen ++ r ∷ []))
          = counted u.node (boots (records_at f0 u.node)) session ∙ ap (λ zs. length (filter (is_of u.node (boots (records_at f0 u.node)) session) (tr0.seen ++ zs))) (is_ys ∙ are) in
          elim (next_seq n its so.next) [
            | inl here ↦ all ∙ (count_last (is_of u.node (boots (records_at f0 u.node)) session) tr0.seen r true
                (and_from (p.number == u.node) _ (eq-eqb p.number u.node number) (and_from (k.stored.durable.boot == boots (records_at f0 u.node)) (n == session) (eq-eqb _ _ boot) (eq-eqb n session here.0)))
                ∙ (ap (λ m. m + 1) (counts u.node k may_turn.up session range) ∙ sym here.1))
            | inr other ↦ all ∙ (count_last (is_of u.node (boots (records_at f0 u.node)) session) tr0.seen r false
                (and_right (p.number == u.node) _ (and_right (k.stored.durable.boot == boots (records_at f0 u.node)) (n == session) (ne_eqb n session other.0)))
                ∙ (counts u.node k may_turn.up session range ∙ sym other.1))
          ]

    -- ---- numbers

    more_counted : (n boot session : ℕ) → begun_in tr0 n boot session ≤ begun_in tr1 n boot session
    more_counted n boot session = subst (λ m. begun_in tr0 n boot session ≤ m) (sym (counted n boot session)) (count_more (is_of n boot session) tr0.seen (begun_in_turn f0 tr0 u))

    ordered_new : (ys : List Seen) → births.TurnBegins t whole hs u rest is sees counts born ys → begun_in_turn f0 tr0 u ≡ ys → AllByRecursion (Ordered tr1) ys
    ordered_new ys (births.None_begins nobody are) is_ys = subst (AllByRecursion (Ordered tr1)) (sym are) tt
    ordered_new ys (births.Child_begins y nobody its below live new are) is_ys =
        subst (AllByRecursion (Ordered tr1)) (sym are) (
          (λ low. (let high : 65 ≤ its.0.me.session = all_found (λ (x : Born). x.parent ≢ None → 65 ≤ x.me.session) born_id (births_of s1) its.0.me its.0 (births_high s1) its.1 its.3 in
              let at : its.0.me.session ≡ y.me.session = ap (λ (b : BranchId). b.session) its.2 in absurd (omega (arith, high, at, low)))),
          tt,
        )
    ordered_new ys (births.Root_begins n s call rows range none are) is_ys =
        let r : Seen = root_seen f0 u.node s (new_root p k n) in
        let b : ℕ = k.stored.durable.boot in
        let all : begun_in tr1 p.number b n ≡ length (filter (is_of p.number b n) (tr0.seen ++ r ∷ [])) = counted p.number b n ∙ ap (λ zs. length (filter (is_of p.number b n) (tr0.seen ++ zs))) (is_ys ∙ are) in
        let one : length (filter (is_of p.number b n) (tr0.seen ++ r ∷ [])) ≡ begun_in tr0 p.number b n + 1
        = count_last (is_of p.number b n) tr0.seen r true (and_from (p.number == p.number) _ (eq-eqb p.number p.number refl) (and_from (b == b) (n == n) (eq-eqb b b refl) (eq-eqb n n refl))) in
        let had : begun_in tr0 p.number b n ≡ (session_at k.sessions n).seq = ap (λ m. begun_in tr0 m b n) number ∙ (ap (λ m. begun_in tr0 u.node m n) boot ∙ counts u.node k may_turn.up n range) in
        subst (AllByRecursion (Ordered tr1)) (sym are) ((λ low. omega (arith, all, one, had)), tt)

    pub ordered_on : AllByRecursion (Ordered tr0) tr0.seen → AllByRecursion (Ordered tr1) tr1.seen
    ordered_on ordered =
        births.seen_all t whole hs u rest is sees counts born (Ordered tr1) (λ s so. so) (all_weaker (Ordered tr0) (Ordered tr1) (λ s so low. omega (arith, so low, more_counted s.me.node s.me.boot s.me.session)) tr0.seen ordered) (new u.cut refl)
      where
        new : (c : Bool) → u.cut ≡ c → AllByRecursion (Ordered tr1) (begun_in_turn f0 tr0 u)
        new true cut = subst (AllByRecursion (Ordered tr1)) (sym (births.none_cut t whole hs u rest is sees counts born cut)) tt
        new false cut = ordered_new (begun_in_turn f0 tr0 u) (births.view t whole hs u rest is sees counts born cut) refl

    after_is : u.cut ≡ false → node_at f1 u.node ≡ Some d.after
    unfolding turn_of
    after_is cut = (turn_here t.places t.commands f0 stand.0.0.even u k may_turn.up).0 ∙ ap (λ c. kept_after c (Some (turn_of p k u.input))) cut

    pub counts_on : Counts t whole f1 tr1
    counts_on n j up session range = subst (λ m. begun_in tr1 n m session ≡ (session_at j.sessions session).seq) (sym (boots_same n)) (elim (cases_eq u.node n) [
      | inr other ↦ elsewhere n other session range (boots (records_at f0 n)) ∙ counts n j (sym (turn_elsewhere t.places t.commands f0 stand.0.0.even u n other).0 ∙ up) session range
      | inl here ↦ subst (λ m. begun_in tr1 m (boots (records_at f0 m)) session ≡ (session_at j.sessions session).seq) here (own u.cut refl (subst (λ m. node_at f1 m ≡ Some j) (sym here) up))
    ])
      where
        own : (cut : Bool) → u.cut ≡ cut → node_at f1 u.node ≡ Some j → begun_in tr1 u.node (boots (records_at f0 u.node)) session ≡ (session_at j.sessions session).seq
        own true cut there = (let none : node_at f1 u.node ≡ None = (turn_here t.places t.commands f0 stand.0.0.even u k may_turn.up).0 ∙ ap (λ c. kept_after c (Some (turn_of p k u.input))) cut in absurd (cc (none, there)))
        own false cut there =
            let both : Some d.after ≡ Some j = sym (after_is cut) ∙ there in
            let it : d.after ≡ j = cc in
            here_count session range cut (begun_in_turn f0 tr0 u) (births.view t whole hs u rest is sees counts born cut) refl ∙ ap (λ (i : NodeState). (session_at i.sessions session).seq) it
