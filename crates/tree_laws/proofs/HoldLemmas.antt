-- What messages and changes of a branch leave of the weights that it holds of its children.
use Rattle.std.proofs.Common.{◌≡◌, ◌≢◌, ℕ, zero, suc, ◌+◌, ◌⊎◌, true, false, List, [], ◌∷◌, ◌++◌, map, length, unwrap_or, Option, Some, None, inl, inr, refl, sym, ap, subst, subst₂, ◌∙◌, arith}
use Rattle.std.proofs.lemmas.Bool.{cond_both}
use Rattle.tran_ids.proofs.NumberedLemmas.{set_found, set_leaves}
use Rattle.node_rules.specs.Data.{BranchId, Edge, Post, Vote}
use Rattle.node_rules.specs.declared.work.Errand.{Errand}
use Rattle.node_rules.specs.declared.work.Waits.TheVariants as waiting
use Rattle.node_rules.specs.declared.session.PendingCall.TheVariants as pending
use Rattle.node_rules.specs.declared.session.Session.{Session}
use Rattle.node_rules.specs.declared.work.Work.{Work}
use Rattle.node_rules.specs.declared.work.Going.{Going}
use Rattle.node_rules.specs.Words.{numbered, set_numbered}
use Rattle.node_rules.specs.NodeState.{Branch}
use Rattle.node_rules.specs.Sessions.{fresh_session, session_at, with_call, needs_rollback}
use Rattle.node_rules.specs.Calls.{called, with_edge, hears_reply}
use Rattle.node_rules.specs.Prepare.{with_prepare_sent, has_voted, answers_first}
use Rattle.node_rules.proofs.StandLemmas.{session_set, call_set}
use Rattle.run_base_laws.specs.FreezeLaws.{was_asked}
use Rattle.run_base_laws.specs.InTurnLaws.{WaitsFor, call_at}
use Rattle.run_rules.proofs.AtNodeLemmas.{range_of}
use Rattle.run_branch_laws.proofs.FreezeLemmas.{asked_split}
use Rattle.run_base_laws.proofs.InTurnLemmas.{numbered_split, calls_before, one_waits, opened_none, none_waits}
use Rattle.run_base_laws.proofs.TurnEventLemmas.{cases_nat}
use Rattle.tree_laws.specs.WeightLaws.{ToldWeight, HoldsWeights}
use Rattle.tree_laws.proofs.WeightStepLemmas.{told_more}

-- the weight of an edge was told by the Reply to the last call over it
abbrev pub EdgeTells : List Post → Work → ℕ → Edge → Type 0
EdgeTells said w i e = ToldWeight said e.peer (call_at w i) e.weight

pub none_here : (i : ℕ) (e : Edge) → numbered [] i ≡ Some e → ⊥
none_here zero e at = absurd cc
none_here (suc i) e at = absurd cc

-- one that waits has a statement
pub some_going : (i : ℕ) (o : Option Going) → WaitsFor i o → (g : Going) × (o ≡ Some g)
some_going i None waits = absurd waits
some_going i (Some g) waits = (g, refl)

-- ---- a root that is given up needs a rollback

pub code_at : (ss : List Session) (n code : ℕ) (b : BranchId) (o : Option Session) → numbered ss n ≡ o → (unwrap_or o fresh_session).root ≡ Some b → session_at (needs_rollback ss n code) n ≡ record (session_at ss n) { code = Some code }
code_at ss n code b None is has = absurd cc
code_at ss n code b (Some s) is has = session_set ss n s (record (session_at ss n) { code = Some code }) is

pub given_code : (ss : List Session) (n code : ℕ) (b : BranchId) → (session_at ss n).root ≡ Some b → (session_at (needs_rollback (with_call ss n pending.NoCall) n code) n).code ≡ None → ⊥
given_code ss n code b has none =
    let free : List Session = with_call ss n pending.NoCall in
    let root : (session_at free n).root ≡ Some b = ap (λ s. s.root) (call_set ss n b pending.NoCall has) ∙ has in
    let set : (session_at (needs_rollback free n code) n).code ≡ Some code = ap (λ s. s.code) (code_at free n code b (numbered free n) refl root) in
    absurd (cc (set, none))

-- ---- more messages

module _ (said says : List Post) (G : Type 0) (me : BranchId) (es : List Edge) (w : Work) where
  -- that ask none of its children
  pub holding_more : ((c : BranchId) → was_asked says me c ≡ false) → HoldsWeights said G me es w → HoldsWeights (said ++ says) G me es w
  holding_more none is = record {
    held = λ goes i e at. elim (is.held goes i e at) [ inl waits ↦ inl waits | inr told ↦ inr (told_more said says e.peer (call_at w i) e.weight told) ];
    asked = λ i e at asked. elim (asked_split said says me e.peer asked) [
      | inl old ↦ told_more said says e.peer (call_at w i) e.weight (is.asked i e at old)
      | inr new ↦ (let no : was_asked says me e.peer ≡ false = none e.peer in absurd (cc (new, no)))
    ];
  }

  -- of a branch that asked nobody
  pub working_holding : ((c : BranchId) → was_asked said me c ≡ false) → ((c : BranchId) → was_asked says me c ≡ false)
      → (G → (i : ℕ) (e : Edge) → numbered es i ≡ Some e → WaitsFor i w.going ⊎ EdgeTells (said ++ says) w i e) → HoldsWeights (said ++ says) G me es w
  working_holding unasked none held = record {
    held = held;
    asked = λ i e at asked. elim (asked_split said says me e.peer asked) [
      | inl old ↦ (let no : was_asked said me e.peer ≡ false = unasked e.peer in absurd (cc (old, no)))
      | inr new ↦ (let no : was_asked says me e.peer ≡ false = none e.peer in absurd (cc (new, no)))
    ];
  }

  -- of one that waits for nothing, and asks
  pub asking_holding : w.going ≡ None → G → HoldsWeights said G me es w → HoldsWeights (said ++ says) G me es w
  asking_holding rests goes is = record { held = λ again i e at. inr (told i e at); asked = λ i e at asked. told i e at }
    where
      told : (i : ℕ) (e : Edge) → numbered es i ≡ Some e → EdgeTells (said ++ says) w i e
      told i e at = elim (is.held goes i e at) [ inl waits ↦ absurd (none_waits i w.going rests waits) | inr old ↦ told_more said says e.peer (call_at w i) e.weight old ]

-- ---- edges with the same children and weights

pub numbered_back : (f : Edge → Edge) (es : List Edge) (i : ℕ) (y : Edge) → numbered (map f es) i ≡ Some y → (e : Edge) × (numbered es i ≡ Some e) × (f e ≡ y)
numbered_back f es zero y at = absurd cc
numbered_back f [] (suc i) y at = absurd cc
numbered_back f (e ∷ es) (suc zero) y at = let it : Some (f e) ≡ Some y = at in (e, refl, (let here : f e ≡ y = cc in here))
numbered_back f (e ∷ es) (suc (suc i)) y at = numbered_back f es (suc i) y at

module _ (said : List Post) (G : Type 0) (me : BranchId) (es : List Edge) (w : Work) where
  mapped_holding : (f : Edge → Edge) → ((e : Edge) → ((f e).peer ≡ e.peer) × ((f e).weight ≡ e.weight)) → HoldsWeights said G me es w → HoldsWeights said G me (map f es) w
  mapped_holding f same_so is = record {
    held = λ goes i y at. (let b = numbered_back f es i y at in subst (λ z. WaitsFor i w.going ⊎ EdgeTells said w i z) b.2
        (elim (is.held goes i b.0 b.1) [ inl waits ↦ inl waits | inr told ↦ inr (tells b.0 i told) ]));
    asked = λ i y at asked. (let b = numbered_back f es i y at in
        let old : was_asked said me b.0.peer ≡ true = subst (λ c. was_asked said me c ≡ true) (sym (sym (same_so b.0).0 ∙ ap (λ (z : Edge). z.peer) b.2)) asked in
        subst (λ z. EdgeTells said w i z) b.2 (tells b.0 i (is.asked i b.0 b.1 old)));
  }
    where
      tells : (e : Edge) (i : ℕ) → EdgeTells said w i e → EdgeTells said w i (f e)
      tells e i told = subst₂ (λ c v. ToldWeight said c (call_at w i) v) (sym (same_so e).0) (sym (same_so e).1) told

  pub collected_holding : HoldsWeights said G me es w → HoldsWeights said G me (map with_prepare_sent es) w
  collected_holding is = mapped_holding with_prepare_sent (λ e. (refl, refl)) is

  pub voted_holding : (from : BranchId) (v : Vote) → HoldsWeights said G me es w → HoldsWeights said G me (map (has_voted from v) es) w
  voted_holding from v is = mapped_holding (has_voted from v) (λ e. cond_both (answers_first from e) (record e { vote = v }) e (λ y. (y.peer ≡ e.peer) × (y.weight ≡ e.weight)) (λ here. (refl, refl)) (λ other. (refl, refl))) is

-- ---- calls and Replies

module _ (said : List Post) (G : Type 0) (x : Branch) where
  -- what the edges hold
  abbrev Held : Type 0
  Held = G → (i : ℕ) (e : Edge) → numbered x.live.edges i ≡ Some e → WaitsFor i x.work.going ⊎ EdgeTells said x.work i e

  -- a branch that calls over an edge
  pub called_holding : (ss : List Session) (says : List Post) (i : ℕ) (errand : Errand) → (G → (j : ℕ) (e : Edge) → i ≢ j → numbered x.live.edges j ≡ Some e → EdgeTells said x.work j e)
      → G → (j : ℕ) (e : Edge) → numbered x.live.edges j ≡ Some e → WaitsFor j (called ss x i errand).work.going ⊎ EdgeTells (said ++ says) (called ss x i errand).work j e
  called_holding ss says i errand told goes j e at = elim (cases_nat i j) [
    | inl here ↦ inl (ap waiting.ForReply here)
    | inr other ↦ inr (told_more said says e.peer (call_at (called ss x i errand).work j) e.weight
        (subst (λ n. ToldWeight said e.peer n e.weight) (sym (ap (λ (o : Option ℕ). unwrap_or o 0) (set_leaves x.work.calls i j _ other))) (told goes j e other at)))
  ]

  -- a child that was opened
  pub opened_told : (new : Edge) (g : Going) (link : List ℕ) → x.work.going ≡ Some g → g.waits ≡ waiting.ForOpened link → length x.work.calls ≡ length x.live.edges → Held
      → G → (j : ℕ) (e : Edge) → length x.live.edges + 1 ≢ j → numbered (with_edge x new).live.edges j ≡ Some e → EdgeTells said (with_edge x new).work j e
  opened_told new g link going opened even held goes j e other at = elim (numbered_split x.live.edges new j e at) [
    | inl old ↦ elim (held goes j e old) [
      | inl waits ↦ absurd (opened_none j link g x.work.going going opened waits)
      | inr told ↦ subst (λ n. ToldWeight said e.peer n e.weight) (sym (calls_before x.work.calls j (omega (arith, even, (range_of x.live.edges j e old).1)))) told
    ]
    | inr last ↦ absurd (other (sym last.0))
  ]

  -- a Reply that was waited for
  pub heard_told : (i : ℕ) (weight : Option ℕ) (count : ℕ) (e : Edge) (from : BranchId) (call : ℕ) → numbered x.live.edges i ≡ Some e → WaitsFor i x.work.going → ToldWeight said from call weight → e.peer ≡ from → call_at x.work i ≡ call → Held
      → G → (j : ℕ) (y : Edge) → numbered (hears_reply x i weight count e).live.edges j ≡ Some y → EdgeTells said x.work j y
  heard_told i weight count e from call there waits told peer last held goes j y at = elim (cases_nat i j) [
    | inl here ↦ (let set : numbered (set_numbered x.live.edges i new) i ≡ Some new = set_found x.live.edges i e new there in
        let it : Some new ≡ Some y = sym set ∙ subst (λ n. numbered (set_numbered x.live.edges i new) n ≡ Some y) (sym here) at in
        let is : new ≡ y = cc in
        subst (λ n. EdgeTells said x.work n y) here (subst (λ z. EdgeTells said x.work i z) is (subst₂ (λ c n. ToldWeight said c n weight) (sym peer) (sym last) told)))
    | inr other ↦ elim (held goes j y (sym (set_leaves x.live.edges i j new other) ∙ at)) [
      | inl waits_too ↦ absurd (other (one_waits i j x.work.going waits waits_too))
      | inr old ↦ old
    ]
  ]
    where
      new : Edge
      new = record e { weight = weight; count = count }
