-- What came for the columns of collecting branches, one happening after the other: what stays of it, and what an Exec or a COMMIT
-- sets.
use Rattle.std.proofs.Common.{◌≡◌, ◌≢◌, ℕ, ◌&&◌, ◌⊎◌, Bool, true, false, if◌then◌else◌, is_none, is_some, List, [], ◌∷◌, ◌++◌, unwrap_or, Option, Some, None, inl, inr, refl, sym, ap, ◌∙◌}
use Rattle.std.specs.Prelude.{nat_lt}
use Rattle.tran_ids.proofs.BranchLemmas.{equal_from_same, same_from_equal}
use Rattle.node_rules.specs.Data.{Advice, BranchId, Input, Kind, Place, Stmt}
use Rattle.node_rules.specs.Data.inputs
use Rattle.node_rules.specs.Data.kinds
use Rattle.node_rules.specs.Data.stmts
use Rattle.node_rules.specs.Data.tasks
use Rattle.node_rules.specs.Inputs.{Came, IsCall}
use Rattle.node_rules.specs.Words.{same}
use Rattle.run_rules.specs.Branches.{CommitPlan, Seen, Trail, no_trail, plan_at, seen_at}
use Rattle.run_rules.specs.Data.{Command, Happening}
use Rattle.run_rules.specs.Facts.{Facts, first_facts, facts_after, facts_of}
use Rattle.run_rules.specs.Lawful.{History}
use Rattle.run_rules.specs.Runs.{Asking, asks_branch, asks_by}
use Rattle.run_rules.specs.Trail.{trail_after, trail_of}
use Rattle.tree_laws.proofs.PrefixLemmas.{f_at}
use Rattle.tree_trail_laws.proofs.MomentLemmas.{tr_at}
use Rattle.view_laws.specs.GivenColumns.{Given, nothing_given, advice_brought, advice_after, comment_brought, comment_after, given_after, given_of}
use Rattle.view_laws.proofs.GotLemmas.{ExecCame}

-- ---- one happening after the other

given_on : (places : List Place) (asked : List Command) (f : Facts) (tr : Trail) (g : Given) (hs : List Happening) (h : Happening)
    → given_of places asked f tr g (hs ++ h ∷ []) ≡ given_after places (facts_of places asked f hs) (trail_of places asked f tr hs) h (given_of places asked f tr g hs)
unfolding facts_of trail_of
given_on places asked f tr g [] h = refl
given_on places asked f tr g (x ∷ hs) h = given_on places asked (facts_after places asked f x) (trail_after places f tr x) (given_after places f tr x g) hs h

module _ (t : History) where
  -- what these happenings gave
  abbrev pub g_at : List Happening → Given
  g_at hs = given_of t.places t.commands (first_facts t.places) no_trail nothing_given hs

  pub given_one_on : (hs : List Happening) (h : Happening) → g_at (hs ++ h ∷ []) ≡ given_after t.places (f_at t hs) (tr_at t hs) h (g_at hs)
  given_one_on hs h = given_on t.places t.commands (first_facts t.places) no_trail nothing_given hs h

-- ---- advice

-- an Exec that runs a statement comes to a branch, or none
pub exec_or_none : (b : BranchId) (input : Input) → (ExecCame input b → ⊥) ⊎ ExecCame input b
exec_or_none b (inputs.Message m) = by (same m.to b) refl m.kind refl
  where
    by : (q : Bool) → same m.to b ≡ q → (kind : Kind) → m.kind ≡ kind → (ExecCame (inputs.Message m) b → ⊥) ⊎ ExecCame (inputs.Message m) b
    by false other kind is = inl (λ exec. (let both = exec.5.is in let to : m.to ≡ b = cc in let here : same m.to b ≡ true = same_from_equal m.to b to in cc (here, other)))
    by true here (kinds.Exec call (tasks.Run given advice s)) is =
        let to : m.to ≡ b = equal_from_same m.to b here in
        inr (
          m.from,
          call,
          given,
          advice,
          s,
          record { scn = m.scn; is = ap (λ c. inputs.Message (record { from = m.from; to = c; scn = m.scn; kind = m.kind })) to ∙ ap (λ kind. inputs.Message (record { from = m.from; to = b; scn = m.scn; kind = kind })) is },
        )
    by true here _ is = inl (λ exec. (let both = exec.5.is in let kind : m.kind ≡ kinds.Exec exec.1 (tasks.Run exec.2 exec.3 exec.4) = cc in cc (kind, is)))
exec_or_none b (inputs.Call n s) = inl (λ exec. (let is = exec.5.is in cc))
exec_or_none b (inputs.GiveUp n) = inl (λ exec. (let is = exec.5.is in cc))
exec_or_none b inputs.Reco = inl (λ exec. (let is = exec.5.is in cc))
exec_or_none b inputs.Checkpoint = inl (λ exec. (let is = exec.5.is in cc))

-- a statement that comes to a branch, if it takes it
abbrev asks_if : Seen → Stmt → Bool → Option Asking
asks_if seen s q = if q then Some (record { branch = seen; statement = s }) else None

module _ (tr : Trail) (b : BranchId) (now : Option Advice) where
  pub none_gives : (input : Input) → (ExecCame input b → ⊥) → advice_after tr b now input ≡ now
  none_gives (inputs.Message m) not = by (same m.to b) refl m.kind refl
    where
      by : (q : Bool) → same m.to b ≡ q → (kind : Kind) → m.kind ≡ kind → (if q && is_some (asks_by tr m.to kind) then advice_brought kind else now) ≡ now
      by false other kind is = refl
      by true here (kinds.Exec call (tasks.Run given advice s)) is =
          absurd (not (
            m.from,
            call,
            given,
            advice,
            s,
            record { scn = m.scn; is = ap (λ c. inputs.Message (record { from = m.from; to = c; scn = m.scn; kind = m.kind })) (equal_from_same m.to b here) ∙ ap (λ kind. inputs.Message (record { from = m.from; to = b; scn = m.scn; kind = kind })) is },
          ))
      by true here _ is = refl
  none_gives (inputs.Call n s) not = refl
  none_gives (inputs.GiveUp n) not = refl
  none_gives inputs.Reco not = refl
  none_gives inputs.Checkpoint not = refl

  -- an Exec to a live branch
  pub exec_gives : (input : Input) (from : BranchId) (call given : ℕ) (advice : Option Advice) (s : Stmt) → Came input from b (kinds.Exec call (tasks.Run given advice s)) → (seen : Seen) → seen_at tr b ≡ Some seen → seen.exit ≡ None
      → advice_after tr b now input ≡ (if nat_lt seen.taken call then advice else now)
  exec_gives input from call given advice s came seen at live =
      ap (advice_after tr b now) came.is
      ∙ (ap (λ q. if q && is_some (asks_by tr b (kinds.Exec call (tasks.Run given advice s))) then advice else now) (same_from_equal b b refl)
      ∙ (ap (λ o. if is_some (asks_branch call s o) then advice else now) at
      ∙ (ap (λ o. if is_some (asks_if seen s (is_none o && nat_lt seen.taken call)) then advice else now) live ∙ by (nat_lt seen.taken call))))
    where
      by : (q : Bool) → (if is_some (asks_if seen s q) then advice else now) ≡ (if q then advice else now)
      by true = refl
      by false = refl

  -- one that did not begin takes none
  pub unseen_gives : (input : Input) → seen_at tr b ≡ None → advice_after tr b now input ≡ now
  unseen_gives (inputs.Message m) none = by (same m.to b) refl m.kind
    where
      by : (q : Bool) → same m.to b ≡ q → (kind : Kind) → (if q && is_some (asks_by tr m.to kind) then advice_brought kind else now) ≡ now
      by false other kind = refl
      by true here (kinds.Exec call (tasks.Run given advice s)) =
          let unseen : seen_at tr m.to ≡ None = ap (seen_at tr) (equal_from_same m.to b here) ∙ none in ap (λ o. if is_some (asks_branch call s o) then advice else now) unseen
      by true here _ = refl
  unseen_gives (inputs.Call n s) none = refl
  unseen_gives (inputs.GiveUp n) none = refl
  unseen_gives inputs.Reco none = refl
  unseen_gives inputs.Checkpoint none = refl

-- ---- comments

module _ (tr after : Trail) (root : BranchId) (now : List ℕ) (input : Input) where
  pub planned_keeps : plan_at tr root ≢ None → comment_after tr after root now input ≡ now
  planned_keeps some = by (plan_at tr root) some
    where
      by : (o : Option CommitPlan) → o ≢ None → (if is_none o && is_some (plan_at after root) then comment_brought input else now) ≡ now
      by None some = absurd (some refl)
      by (Some x) some = refl

  pub plan_gives : plan_at tr root ≡ None → (x : CommitPlan) → plan_at after root ≡ Some x → (n : ℕ) (given : Option (List ℕ)) → IsCall input n (stmts.Commit given) → unwrap_or given [] ≡ comment_after tr after root now input
  plan_gives none x some n given call =
      sym (ap (λ o. if is_none o && is_some (plan_at after root) then comment_brought input else now) none ∙ (ap (λ o. if is_some o then comment_brought input else now) some ∙ (ap comment_brought call ∙ by given)))
    where
      by : (given : Option (List ℕ)) → comment_brought (inputs.Call n (Some (stmts.Commit given))) ≡ unwrap_or given []
      by None = refl
      by (Some comment) = refl
