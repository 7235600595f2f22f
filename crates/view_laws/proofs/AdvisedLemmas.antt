-- In every lawful run a session has the advice that its last ALTER SESSION ADVISE set, and an Exec brings that of its sender.
use Rattle.std.proofs.Common.{◌≡◌, ℕ, zero, suc, ◌+◌, ◌==◌, ◌&&◌, ◌⊎◌, Bool, true, false, if◌then◌else◌, is_none, List, [], ◌∷◌, ◌++◌, map, unwrap_or, Option, Some, None, inl, inr, refl, sym, ap, subst, ◌∙◌, arith}
use Rattle.std.specs.Prelude.{slice_get, take}
use Rattle.std.specs.List.{AllByRecursion}
use Rattle.std.proofs.lemmas.Bool.{cases_eq, eq-eqb, eqb-true, ne_eqb}
use Rattle.tran_ids.proofs.ListedLemmas.{item_is}
use Rattle.tran_ids.proofs.NumberedLemmas.{set_found, set_or_before}
use Rattle.node_rules.specs.Data.{Advice, BranchId, Input, Kind, Live, Place, Post, RedoRecord}
use Rattle.node_rules.specs.Data.inputs
use Rattle.node_rules.specs.Data.kinds
use Rattle.node_rules.specs.Data.stmts
use Rattle.node_rules.specs.Data.tasks
use Rattle.node_rules.specs.declared.session.Session.{Session}
use Rattle.node_rules.specs.Inputs.{IsCall, IsSession}
use Rattle.node_rules.specs.NodeState.{NodeState, live_at, live_id}
use Rattle.node_rules.specs.Sessions.{fresh_session, session_at}
use Rattle.node_rules.specs.Turn.{draft_of, heard, made, stamped, start_of, turn_of}
use Rattle.node_rules.specs.Words.{numbered, set_numbered}
use Rattle.run_rules.specs.Branches.{seen_at}
use Rattle.run_rules.specs.Data.{Happening, Turn}
use Rattle.run_rules.specs.Data.happenings
use Rattle.run_rules.specs.Facts.{Facts, facts_after, facts_of, flat, kept_after, node_at, with_boot}
use Rattle.run_rules.specs.Lawful.{History, IsLawfulRun, IsOwed}
use Rattle.run_rules.specs.Trail.{trail_of}
use Rattle.run_rules.proofs.AtNodeLemmas.{item_there, turn_elsewhere, turn_here}
use Rattle.run_base_laws.proofs.EventsStandLemmas.{ids_name_their_node, run_stands}
use Rattle.run_base_laws.proofs.LawfulLemmas.{serves}
use Rattle.run_base_laws.proofs.NodeLemmas.{kept_alone}
use Rattle.run_base_laws.proofs.OwnLemmas.{all_found}
use Rattle.run_base_laws.proofs.RootLemmas.{SessionsFit, session_or_before, sessions_keep}
use Rattle.tree_laws.proofs.AtTurn.{at_turn}
use Rattle.tree_laws.proofs.PrefixLemmas.{f_at, one_on}
use Rattle.tree_laws.proofs.TimeLemmas.{Part, keep_on, may_of, part_on}
use Rattle.tree_trail_laws.proofs.AtTrail.{at_trail}
use Rattle.tree_trail_laws.proofs.CallLemmas.{call_free}
use Rattle.tree_trail_laws.proofs.LowerRunLemmas.{stop_still}
use Rattle.tree_trail_laws.proofs.MomentLemmas.{tr_at}
use Rattle.view_laws.specs.AdviceLaws.{passed_advice, BringsAdvice, AdviceGoesOn}
use Rattle.view_laws.specs.GivenColumns.{Given, advised_after, given_after}
use Rattle.view_laws.proofs.AdviceLemmas.{advice_at, advice_on, fresh_advice}
use Rattle.view_laws.proofs.CarryLemmas.{CarriesSo, CarrySo, carry_on}
use Rattle.view_laws.proofs.CollectLemmas.{LiveGot}
use Rattle.view_laws.proofs.CollectRunLemmas.{all_given}
use Rattle.view_laws.proofs.GivenLemmas.{g_at, given_one_on}
use Rattle.view_laws.proofs.PrintLemmas.{split_at}

-- ---- what an input sets

-- an input is ALTER SESSION ADVISE, or it is not
advise_or_not : (input : Input) → ((n : ℕ) (a : Option Advice) → IsCall input n (stmts.Advise a) → ⊥) ⊎ ((n : ℕ) × (a : Option Advice) × IsCall input n (stmts.Advise a))
advise_or_not (inputs.Call n (Some (stmts.Advise a))) = inr (n, a, refl)
advise_or_not (inputs.Call n (Some _)) = inl (λ m a is. cc)
advise_or_not (inputs.Call n None) = inl (λ m a is. cc)
advise_or_not (inputs.Message m) = inl (λ n a is. cc)
advise_or_not (inputs.GiveUp m) = inl (λ n a is. cc)
advise_or_not inputs.Reco = inl (λ n a is. cc)
advise_or_not inputs.Checkpoint = inl (λ n a is. cc)

module _ (n m : ℕ) (now : Option Advice) (node : ℕ) where
  none_advises : (input : Input) → ((n : ℕ) (a : Option Advice) → IsCall input n (stmts.Advise a) → ⊥) → advised_after n m now node input ≡ now
  none_advises (inputs.Call k (Some (stmts.Advise a))) none = absurd (none k a refl)
  none_advises (inputs.Call k (Some _)) none = refl
  none_advises (inputs.Call k None) none = refl
  none_advises (inputs.Message x) none = refl
  none_advises (inputs.GiveUp k) none = refl
  none_advises inputs.Reco none = refl
  none_advises inputs.Checkpoint none = refl

  else_advises : (input : Input) → (node == n) ≡ false → advised_after n m now node input ≡ now
  else_advises (inputs.Call k (Some (stmts.Advise a))) other = ap (λ q. if q && (k == m) then a else now) other
  else_advises (inputs.Call k (Some _)) other = refl
  else_advises (inputs.Call k None) other = refl
  else_advises (inputs.Message x) other = refl
  else_advises (inputs.GiveUp k) other = refl
  else_advises inputs.Reco other = refl
  else_advises inputs.Checkpoint other = refl

-- ---- in a run

module _ (t : History) (whole : IsLawfulRun t) where
  -- sessions have the advice that came
  abbrev pub IsAdvised : Facts → Given → Type 0
  IsAdvised f g = (n : ℕ) (k : NodeState) → node_at f n ≡ Some k → (m : ℕ) → advice_at k.sessions m ≡ g.advised n m

  abbrev pub AdvisedAt : List Happening → Type 0
  AdvisedAt hs = IsAdvised (f_at t hs) (g_at t hs)

  advised_at : (hs : List Happening) (h : Happening) → IsAdvised (facts_after t.places t.commands (f_at t hs) h) (given_after t.places (f_at t hs) (tr_at t hs) h (g_at t hs)) → AdvisedAt (hs ++ h ∷ [])
  advised_at hs h it = subst (λ f. IsAdvised f (g_at t (hs ++ h ∷ []))) (sym (one_on t hs h)) (subst (IsAdvised (facts_after t.places t.commands (f_at t hs) h)) (sym (given_one_on t hs h)) it)

  -- ---- a turn

  module _ (hs : List Happening) (u : Turn) (rest : List Happening) (is : hs ++ happenings.Turn u ∷ rest ≡ t.trace) where
    open at_turn t whole hs u rest is use {after as hs1, part_after as part1, s as s0, lawful as lawful0, s_after as s1, lawful_after as lawful1, f as f0, g as f1, may, k, heard_k as k1, p, d}
    open at_trail t hs u use {tr as tr0}

    abbrev g0 : Given
    g0 = g_at t hs

    heard_sessions : (input : Input) → (heard k input).sessions ≡ k.sessions
    heard_sessions (inputs.Message x) = refl
    heard_sessions (inputs.Call n s) = refl
    heard_sessions (inputs.GiveUp n) = refl
    heard_sessions inputs.Reco = refl
    heard_sessions inputs.Checkpoint = refl

    fits : SessionsFit k
    fits = kept_alone SessionsFit sessions_keep s0 lawful0 u.node k may.1.up

    here_after : node_at f1 u.node ≡ kept_after u.cut (Some (turn_of p k u.input))
    here_after = (turn_here t.places t.commands f0 (run_stands s0 lawful0).0.even u k may.1.up).0

    after_up : u.cut ≡ false → node_at f1 u.node ≡ Some d.after
    unfolding turn_of
    after_up cut = here_after ∙ ap (λ c. kept_after c (Some (turn_of p k u.input))) cut

    module _ (now : AdvisedAt hs) (m : ℕ) where
      own_advised : advice_at d.after.sessions m ≡ advised_after u.node m (g0.advised u.node m) u.node u.input
      own_advised = elim (advise_or_not u.input) [
        | inl none ↦ advice_on p u.input none (serves t.places f0 u k may.1).step m ∙ (ap (λ ss. advice_at ss m) (heard_sessions u.input) ∙ (now u.node k may.1.up m ∙ sym (none_advises u.node m (g0.advised u.node m) u.node u.input none)))
        | inr advises ↦ by_call advises.0 advises.1 advises.2
      ]
        where
          by_call : (n : ℕ) (a : Option Advice) → IsCall u.input n (stmts.Advise a) → advice_at d.after.sessions m ≡ advised_after u.node m (g0.advised u.node m) u.node u.input
          by_call n a call =
              ap (λ i. advice_at (draft_of p k i).after.sessions m) call
              ∙ (by (n == m) refl ∙ sym (ap (advised_after u.node m (g0.advised u.node m) u.node) call ∙ ap (λ q. if q && (n == m) then a else g0.advised u.node m) (eq-eqb u.node u.node refl)))
            where
              new : Session
              new = record (session_at k.sessions n) { advice = a }

              range : IsSession n
              range = (call_free f0 k u.node u.input u.took n (Some (stmts.Advise a)) call may.1.comes).0

              found : advice_at (set_numbered k.sessions n new) n ≡ a
              found =
                  let there = item_there k.sessions n range.0 (omega (arith, range.1, fits.roots.many)) in
                  ap (λ o. (unwrap_or o fresh_session).advice) (set_found k.sessions n there.0 new there.1)

              by : (q : Bool) → (n == m) ≡ q → advice_at (set_numbered k.sessions n new) m ≡ (if n == m then a else g0.advised u.node m)
              by true same = subst (λ i. advice_at (set_numbered k.sessions n new) i ≡ a) (eqb-true n m same) found ∙ sym (ap (λ q. if q then a else g0.advised u.node m) same)
              by false other = elim (session_or_before k.sessions n m new) [
                | inl before ↦ ap (λ (x : Session). x.advice) before ∙ (now u.node k may.1.up m ∙ sym (ap (λ q. if q then a else g0.advised u.node m) other))
                | inr set ↦ absurd (let here : (n == m) ≡ true = eq-eqb n m set.0 in cc (here, other))
              ]

    turn_advised : AdvisedAt hs → AdvisedAt hs1
    turn_advised now = advised_at hs (happenings.Turn u) (λ n j up m. elim (cases_eq u.node n) [
      | inl here ↦ subst (λ i. advice_at j.sessions m ≡ advised_after i m (g0.advised i m) u.node u.input) here (own u.cut refl j (subst (λ i. node_at f1 i ≡ Some j) (sym here) up) m)
      | inr other ↦
          (let before : node_at f0 n ≡ Some j = sym (turn_elsewhere t.places t.commands f0 (run_stands s0 lawful0).0.even u n other).0 ∙ up in
          now n j before m ∙ sym (else_advises n m (g0.advised n m) u.node u.input (ne_eqb u.node n other)))
    ])
      where
        own : (cut : Bool) → u.cut ≡ cut → (j : NodeState) → node_at f1 u.node ≡ Some j → (m : ℕ) → advice_at j.sessions m ≡ advised_after u.node m (g0.advised u.node m) u.node u.input
        own true cut j there m = (let none : node_at f1 u.node ≡ None = here_after ∙ ap (λ c. kept_after c (Some (turn_of p k u.input))) cut in absurd (cc (none, there)))
        own false cut j there m =
            let both : Some d.after ≡ Some j = sym (after_up cut) ∙ there in
            let it : d.after ≡ j = cc in
            subst (λ (i : NodeState). advice_at i.sessions m ≡ advised_after u.node m (g0.advised u.node m) u.node u.input) it (own_advised now m)

    -- ---- what it sends

    module _ (advised : AdvisedAt hs1) where
      one_brings : (cut : u.cut ≡ false) (from : BranchId) (kind : Kind) → CarriesSo d.after from kind → BringsAdvice (tr_at t hs1) (g_at t hs1) from kind
      one_brings cut from (kinds.Exec call (tasks.Run given advice st)) carries =
          let l : Live = carries.live in
          let me : l.me ≡ from = item_is live_id d.after.lives from l carries.at in
          let up1 : node_at (f_at t hs1) u.node ≡ Some d.after = ap (λ f. node_at f u.node) (one_on t hs (happenings.Turn u)) ∙ after_up cut in
          let live : live_at d.after l.me ≡ Some l = subst (λ b. live_at d.after b ≡ Some l) (sym me) carries.at in
          let got : LiveGot (tr_at t hs1) (g_at t hs1) l = (all_given t whole hs1 part1).lives u.node d.after up1 l live in
          let node : l.me.node ≡ u.node = all_found (λ (y : Live). y.me.node ≡ u.node) live_id d.after.lives l.me l (ids_name_their_node s1 lawful1 u.node d.after up1).lives live in
          let session : advice_at d.after.sessions l.me.session ≡ (g_at t hs1).advised l.me.node l.me.session = subst (λ i. advice_at d.after.sessions l.me.session ≡ (g_at t hs1).advised i l.me.session) (sym node) (advised u.node d.after up1 l.me.session) in
          let its : passed_advice (g_at t hs1) l.me (seen_at (tr_at t hs1) l.me) ≡ (if is_none l.parent then (g_at t hs1).advised l.me.node l.me.session else (g_at t hs1).advice l.me)
          = ap (passed_advice (g_at t hs1) l.me) got.told.1 ∙ ap (λ o. if is_none o then (g_at t hs1).advised l.me.node l.me.session else (g_at t hs1).advice l.me) got.told.3 in
          subst (λ b. advice ≡ passed_advice (g_at t hs1) b (seen_at (tr_at t hs1) b)) me
          (carries.same ∙ (ap (λ a. if is_none l.parent then a else l.advice) session ∙ (ap (λ a. if is_none l.parent then (g_at t hs1).advised l.me.node l.me.session else a) got.advice ∙ sym its)))
      one_brings cut from _ carries = tt

      all_bring : (cut : u.cut ≡ false) (posts : List Post) → AllByRecursion (λ x. CarriesSo d.after x.from x.kind) posts → AllByRecursion (λ m. BringsAdvice (tr_at t hs1) (g_at t hs1) m.from m.kind) (map (stamped d.after.clock) posts)
      all_bring cut [] carry = tt
      all_bring cut (x ∷ posts) carry = (one_brings cut x.from x.kind carry.0, all_bring cut posts carry.1)

      turn_brings : AllByRecursion (λ m. BringsAdvice (tr_at t hs1) (g_at t hs1) m.from m.kind) u.sent
      unfolding turn_of
      turn_brings = by u.cut refl
        where
          by : (cut : Bool) → u.cut ≡ cut → AllByRecursion (λ m. BringsAdvice (tr_at t hs1) (g_at t hs1) m.from m.kind) u.sent
          by true cut = subst (AllByRecursion (λ m. BringsAdvice (tr_at t hs1) (g_at t hs1) m.from m.kind)) (sym (subst (λ c. IsOwed p k u.input u.wrote u.sent c) cut may.1.owed).1) tt
          by false cut =
              let sent : u.sent ≡ map (stamped d.after.clock) d.says = (subst (λ c. IsOwed p k u.input u.wrote u.sent c) cut may.1.owed).1 in
              let carry : CarrySo d = carry_on p u.input (serves t.places f0 u k may.1).step in
              subst (AllByRecursion (λ m. BringsAdvice (tr_at t hs1) (g_at t hs1) m.from m.kind)) (sym sent) (all_bring cut d.says carry)

  -- ---- other happenings

  start_advised : (rs : List RedoRecord) (m : ℕ) → advice_at (start_of rs).sessions m ≡ None
  unfolding start_of
  start_advised rs m = fresh_advice m

  advised_on : (hs : List Happening) (h : Happening) (rest : List Happening) → hs ++ h ∷ rest ≡ t.trace → AdvisedAt hs → AdvisedAt (hs ++ h ∷ [])
  unfolding facts_after
  advised_on hs (happenings.Turn u) rest is now = turn_advised hs u rest is now
  advised_on hs (happenings.Stopped n) rest is now = advised_at hs (happenings.Stopped n) (λ m j up i. now m j (stop_still t whole (f_at t hs) n m j up) i)
  advised_on hs (happenings.Started n boot) rest is now = advised_at hs (happenings.Started n boot) started
    where
      down : node_at (f_at t hs) n ≡ None
      down = (may_of t whole hs (happenings.Started n boot) rest is).down

      started : (m : ℕ) (j : NodeState) → flat (numbered (set_numbered (f_at t hs).nodes n (Some (start_of (with_boot (f_at t hs) n boot)))) m) ≡ Some j → (i : ℕ) → advice_at j.sessions i ≡ (if m == n then None else (g_at t hs).advised m i)
      started m j up i = elim (set_or_before (f_at t hs).nodes n m (Some (start_of (with_boot (f_at t hs) n boot)))) [
        | inl before ↦ old (sym (ap flat before) ∙ up)
        | inr new ↦
            (let both : Some (start_of (with_boot (f_at t hs) n boot)) ≡ Some j = sym (ap flat new.1) ∙ up in
            let one : start_of (with_boot (f_at t hs) n boot) ≡ j = cc in
            ap (λ (x : NodeState). advice_at x.sessions i) (sym one) ∙ (start_advised (with_boot (f_at t hs) n boot) i ∙ sym (ap (λ q. if q then None else (g_at t hs).advised m i) (eq-eqb m n (sym new.0)))))
      ]
        where
          old : node_at (f_at t hs) m ≡ Some j → advice_at j.sessions i ≡ (if m == n then None else (g_at t hs).advised m i)
          old there = by (m == n) refl
            where
              by : (q : Bool) → (m == n) ≡ q → advice_at j.sessions i ≡ (if m == n then None else (g_at t hs).advised m i)
              by true same = (let none : node_at (f_at t hs) m ≡ None = ap (node_at (f_at t hs)) (eqb-true m n same) ∙ down in absurd (cc (none, there)))
              by false other = now m j there i ∙ sym (ap (λ q. if q then None else (g_at t hs).advised m i) other)
  advised_on hs (happenings.Begun c) rest is now = advised_at hs (happenings.Begun c) (λ m j up i. now m j up i)
  advised_on hs (happenings.Cut x y) rest is now = advised_at hs (happenings.Cut x y) (λ m j up i. now m j up i)
  advised_on hs (happenings.Join x y) rest is now = advised_at hs (happenings.Join x y) (λ m j up i. now m j up i)
  advised_on hs (happenings.Lost x) rest is now = advised_at hs (happenings.Lost x) (λ m j up i. now m j up i)

  made_advised : (ps : List Place) (n : ℕ) (k : NodeState) → flat (numbered (map (λ p. Some made) ps) n) ≡ Some k → (m : ℕ) → advice_at k.sessions m ≡ None
  unfolding start_of
  made_advised ps zero k up m = absurd cc
  made_advised [] (suc i) k up m = absurd cc
  made_advised (p ∷ ps) (suc zero) k up m = (let both : Some made ≡ Some k = up in let it : made ≡ k = cc in ap (λ (x : NodeState). advice_at x.sessions m) (sym it) ∙ fresh_advice m)
  made_advised (p ∷ ps) (suc (suc i)) k up m = made_advised ps (suc i) k up m

  first_advised : AdvisedAt []
  unfolding facts_of trail_of
  first_advised n k up m = made_advised t.places n k up m

  all_advised : (hs : List Happening) → Part t whole hs → AdvisedAt hs
  all_advised hs part = keep_on t whole AdvisedAt advised_on [] hs part first_advised

  take_one : {A : Type 0} (xs : List A) (i : ℕ) (x : A) → slice_get xs i ≡ Some x → take (suc i) xs ≡ take i xs ++ x ∷ []
  take_one [] i x is = absurd cc
  take_one (y ∷ xs) zero x is = (let it : Some y ≡ Some x = is in let same : y ≡ x = cc in ap (λ z. z ∷ []) same)
  take_one (y ∷ xs) (suc i) x is = ap (λ zs. y ∷ zs) (take_one xs i x is)

  pub advice_goes_on : AdviceGoesOn t
  advice_goes_on i u there =
      let at = split_at t.trace i (happenings.Turn u) there in
      let part : Part t whole (take i t.trace ++ happenings.Turn u ∷ []) = part_on t whole (take i t.trace) (happenings.Turn u) at.0 at.1 in
      subst (λ xs. AllByRecursion (λ m. BringsAdvice (tr_at t xs) (g_at t xs) m.from m.kind) u.sent) (sym (ap (λ n. take n t.trace) (let more : i + 1 ≡ suc i = omega arith in more) ∙ take_one t.trace i (happenings.Turn u) there)) (turn_brings (take i t.trace) u at.0 at.1 (all_advised (take i t.trace ++ happenings.Turn u ∷ []) part))
