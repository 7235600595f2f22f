-- Answers that are no refusals of gone branches, among the messages of a run; what a call over an edge, or a Reply, leaves of what was told.
use Rattle.std.proofs.Common.{◌≡◌, ◌≢◌, ℕ, suc, ◌+◌, ◌≤◌, ◌⊎◌, ◌&&◌, Bool, true, false, if◌then◌else◌, List, [], ◌∷◌, ◌++◌, length, max, unwrap_or, Option, Some, None, inl, inr, refl, sym, ap, subst, subst₂, ◌∙◌, arith}
use Rattle.tran_ids.proofs.BranchLemmas.{same_from_equal}
use Rattle.tran_ids.proofs.NumberedLemmas.{set_found, set_leaves}
use Rattle.node_rules.specs.Data.{BranchId, Edge, Kind, Post}
use Rattle.node_rules.specs.Data.kinds
use Rattle.node_rules.specs.declared.work.Errand.{Errand}
use Rattle.node_rules.specs.declared.session.Session.{Session}
use Rattle.node_rules.specs.declared.work.Waits.TheVariants as waiting
use Rattle.node_rules.specs.declared.work.Going.{Going}
use Rattle.node_rules.specs.declared.work.Work.{Work}
use Rattle.node_rules.specs.Words.{same, numbered, set_numbered}
use Rattle.node_rules.specs.NodeState.{Branch, post}
use Rattle.node_rules.specs.Calls.{called, with_edge, hears_reply}
use Rattle.run_base_laws.specs.InTurnLaws.{exec_number, newest_exec, newest_reply, WaitsFor, call_at}
use Rattle.run_rules.proofs.AtNodeLemmas.{range_of}
use Rattle.run_base_laws.proofs.CallTurnLemmas.{exec_more}
use Rattle.run_base_laws.proofs.InTurnLemmas.{numbered_split, numbered_last, calls_before, one_waits, opened_none}
use Rattle.run_base_laws.proofs.KindSayLemmas.{OfDecisions, AllSay}
use Rattle.run_base_laws.proofs.TurnEventLemmas.{cases_nat}
use Rattle.tree_laws.specs.WeightLaws.{TellsWeight, ToldWeight}
use Rattle.tree_laws.proofs.WeightStepLemmas.{told_low}
use Rattle.tree_cover_laws.specs.GoneLaws.{TellsWell, ToldWell, HasGone, HoldsWell, CallsWell}

pub well_split : (ms ns : List Post) (b : BranchId) (n : ℕ) (v : Option ℕ) → ToldWell (ms ++ ns) b n v → ToldWell ms b n v ⊎ ToldWell ns b n v
well_split [] ns b n v is = inr is
well_split (m ∷ ms) ns b n v (inl here) = inl (inl here)
well_split (m ∷ ms) ns b n v (inr later) = elim (well_split ms ns b n v later) [ inl old ↦ inl (inr old) | inr new ↦ inr new ]

pub well_more : (ms ns : List Post) (b : BranchId) (n : ℕ) (v : Option ℕ) → ToldWell ms b n v → ToldWell (ms ++ ns) b n v
well_more (m ∷ ms) ns b n v (inl here) = inl here
well_more (m ∷ ms) ns b n v (inr later) = inr (well_more ms ns b n v later)
well_more [] ns b n v is = absurd is

tells_weight : (n : ℕ) (v : Option ℕ) (kind : Kind) → TellsWell n v kind → TellsWeight n v kind
tells_weight n v (kinds.Reply call weight count a) is = (is.0, is.1)
tells_weight n v _ is = absurd is

-- it tells a weight
pub well_weight : (ms : List Post) (b : BranchId) (n : ℕ) (v : Option ℕ) → ToldWell ms b n v → ToldWeight ms b n v
well_weight [] b n v is = absurd is
well_weight (m ∷ ms) b n v (inl here) = inl (here.0, tells_weight n v m.kind here.1)
well_weight (m ∷ ms) b n v (inr later) = inr (well_weight ms b n v later)

pub well_low : (ms : List Post) (b : BranchId) (n : ℕ) (v : Option ℕ) → ToldWell ms b n v → n ≤ newest_reply ms b
well_low ms b n v is = told_low ms b n v (well_weight ms b n v is)

-- ---- messages that are neither calls nor such answers

-- no call, and no Reply
abbrev pub IsIdle : Kind → Type 0
IsIdle kind = ((n : ℕ) (v : Option ℕ) → TellsWell n v kind → ⊥) × (exec_number kind ≡ 0)

pub idle_decisions : OfDecisions IsIdle
idle_decisions = record {
  committed = λ m. ((λ n v is. is), refl);
  rolled_back = ((λ n v is. is), refl);
  rollback = ((λ n v is. is), refl);
  in_doubt = ((λ n v is. is), refl);
  ack = ((λ n v is. is), refl);
  forgotten = ((λ n v is. is), refl);
  ask = ((λ n v is. is), refl);
}

-- none of them is an answer of this branch
abbrev pub QuietOf : List Post → BranchId → Type 0
QuietOf says b = (n : ℕ) (v : Option ℕ) → ToldWell says b n v → ⊥

pub idle_quiet : (says : List Post) (b : BranchId) → AllSay IsIdle says → QuietOf says b
idle_quiet [] b all n v is = is
idle_quiet (m ∷ ms) b all n v (inl here) = all.0.0 n v here.1
idle_quiet (m ∷ ms) b all n v (inr later) = idle_quiet ms b all.1 n v later

pub other_quiet : (a to b : BranchId) (kind : Kind) → same a b ≡ false → QuietOf (post a to kind) b
other_quiet a to b kind other n v (inl here) = (let yes : same a b ≡ true = same_from_equal a b here.0 in absurd (cc (yes, other)))
other_quiet a to b kind other n v (inr none) = none

-- none of them is a call
abbrev pub NoExec : List Post → Type 0
NoExec says = (a b : BranchId) → newest_exec says a b ≡ 0

if_none : (q : Bool) (n m : ℕ) → n ≡ 0 → m ≡ 0 → (if q then max n m else m) ≡ 0
if_none true n m first rest = omega (arith, first, rest)
if_none false n m first rest = rest

pub idle_execs : (says : List Post) → AllSay IsIdle says → NoExec says
idle_execs [] all a b = refl
idle_execs (m ∷ ms) all a b = if_none (same m.from a && same m.to b) (exec_number m.kind) (newest_exec ms a b) all.0.1 (idle_execs ms all.1 a b)

pub calls_stay : (said says : List Post) → NoExec says → CallsWell said → CallsWell (said ++ says)
calls_stay said says none now p c n some low =
    let it : n + 1 ≤ newest_exec said p c = omega (arith, low, exec_more said says p c, none p c) in
    let told = now p c n some it in
    (told.0, well_more said says c n told.0 told.1)

-- ---- branches

-- more messages take away nothing that the edges hold
pub held_more : (said says : List Post) (G : Type 0) (me : BranchId) (es : List Edge) (w : Work) → HoldsWell said G me es w → G → (i : ℕ) (e : Edge) → numbered es i ≡ Some e
    → WaitsFor i w.going ⊎ (ToldWell (said ++ says) e.peer (call_at w i) e.weight ⊎ HasGone w)
held_more said says G me es w is goes i e at = elim (is.held goes i e at) [
  | inl waits ↦ inl waits
  | inr told ↦ elim told [ inl well ↦ inr (inl (well_more said says e.peer (call_at w i) e.weight well)) | inr gone ↦ inr (inr gone) ]
]

-- messages in which a branch does not answer leave it so
pub stays_well : (said says : List Post) (G : Type 0) (me : BranchId) (es : List Edge) (w : Work) → QuietOf says me → HoldsWell said G me es w → HoldsWell (said ++ says) G me es w
stays_well said says G me es w quiet is = record {
  held = held_more said says G me es w is;
  kept = λ gone v tells. elim (well_split said says me w.came.last_call v tells) [ inl old ↦ is.kept gone v old | inr new ↦ quiet w.came.last_call v new ];
  first = is.first;
}

module _ (said : List Post) (G : Type 0) (x : Branch) where
  -- what the edges hold of what was told well
  abbrev pub Well : Type 0
  Well = G → (j : ℕ) (e : Edge) → numbered x.live.edges j ≡ Some e → ToldWell said e.peer (call_at x.work j) e.weight

  abbrev pub WellBut : ℕ → Type 0
  WellBut i = G → (j : ℕ) (e : Edge) → i ≢ j → numbered x.live.edges j ≡ Some e → ToldWell said e.peer (call_at x.work j) e.weight

  -- a branch that calls over an edge
  pub called_well : (ss : List Session) (says : List Post) (i : ℕ) (errand : Errand) → WellBut i → G → (j : ℕ) (e : Edge) → numbered x.live.edges j ≡ Some e
      → WaitsFor j (called ss x i errand).work.going ⊎ (ToldWell (said ++ says) e.peer (call_at (called ss x i errand).work j) e.weight ⊎ HasGone (called ss x i errand).work)
  called_well ss says i errand told goes j e at = elim (cases_nat i j) [
    | inl here ↦ inl (ap waiting.ForReply here)
    | inr other ↦ inr (inl (well_more said says e.peer (call_at (called ss x i errand).work j) e.weight
        (subst (λ n. ToldWell said e.peer n e.weight) (sym (ap (λ (o : Option ℕ). unwrap_or o 0) (set_leaves x.work.calls i j _ other))) (told goes j e other at))))
  ]

  module _ (held : G → (i : ℕ) (e : Edge) → numbered x.live.edges i ≡ Some e → WaitsFor i x.work.going ⊎ (ToldWell said e.peer (call_at x.work i) e.weight ⊎ HasGone x.work)) (unanswered : x.work.came.reply ≡ None) where
    not_gone : HasGone x.work → ⊥
    not_gone gone = (let some = gone.1 in absurd (cc (some, unanswered)))

    -- a child that was opened
    pub opened_well : (new : Edge) (g : Going) (link : List ℕ) → x.work.going ≡ Some g → g.waits ≡ waiting.ForOpened link → length x.work.calls ≡ length x.live.edges
        → G → (j : ℕ) (e : Edge) → length x.live.edges + 1 ≢ j → numbered (with_edge x new).live.edges j ≡ Some e → ToldWell said e.peer (call_at (with_edge x new).work j) e.weight
    opened_well new g link going opened even goes j e other at = elim (numbered_split x.live.edges new j e at) [
      | inl old ↦ elim (held goes j e old) [
        | inl waits ↦ absurd (opened_none j link g x.work.going going opened waits)
        | inr told ↦ elim told [
          | inl well ↦ subst (λ n. ToldWell said e.peer n e.weight) (sym (calls_before x.work.calls j (omega (arith, even, (range_of x.live.edges j e old).1)))) well
          | inr gone ↦ absurd (not_gone gone)
        ]
      ]
      | inr last ↦ absurd (other (sym last.0))
    ]

    -- a Reply that was waited for and is no refusal of a gone branch
    pub heard_well : (i : ℕ) (weight : Option ℕ) (count : ℕ) (e : Edge) (from : BranchId) (call : ℕ) → numbered x.live.edges i ≡ Some e → WaitsFor i x.work.going → ToldWell said from call weight → e.peer ≡ from → call_at x.work i ≡ call
        → G → (j : ℕ) (y : Edge) → numbered (hears_reply x i weight count e).live.edges j ≡ Some y → ToldWell said y.peer (call_at x.work j) y.weight
    heard_well i weight count e from call there waits told peer last goes j y at = elim (cases_nat i j) [
      | inl here ↦ (let set : numbered (set_numbered x.live.edges i new) i ≡ Some new = set_found x.live.edges i e new there in
          let it : Some new ≡ Some y = sym set ∙ subst (λ n. numbered (set_numbered x.live.edges i new) n ≡ Some y) (sym here) at in
          let is : new ≡ y = cc in
          subst (λ n. ToldWell said y.peer (call_at x.work n) y.weight) here (subst (λ z. ToldWell said z.peer (call_at x.work i) z.weight) is (subst₂ (λ c n. ToldWell said c n weight) (sym peer) (sym last) told)))
      | inr other ↦ elim (held goes j y (sym (set_leaves x.live.edges i j new other) ∙ at)) [
        | inl waits_too ↦ absurd (other (one_waits i j x.work.going waits waits_too))
        | inr old ↦ elim old [ inl well ↦ well | inr gone ↦ absurd (not_gone gone) ]
      ]
    ]
      where
        new : Edge
        new = record e { weight = weight; count = count }

-- the first call over a new edge
pub no_call : (cs : List ℕ) (es : List Edge) → length cs ≡ length es → unwrap_or (numbered (cs ++ 0 ∷ []) (length es + 1)) 0 ≡ 0
no_call cs es even =
    let place : suc (length cs) ≡ length es + 1 = omega (arith, even) in
    ap (λ n. unwrap_or (numbered (cs ++ 0 ∷ []) n) 0) (sym place) ∙ ap (λ (o : Option ℕ). unwrap_or o 0) (numbered_last cs 0)
