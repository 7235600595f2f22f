-- A branch whose child was opened, or whose child's Reply came, may call or answer in turn.
use Rattle.std.proofs.Common.{◌≡◌, ◌≢◌, ℕ, suc, ◌+◌, ◌≤◌, List, [], ◌∷◌, ◌++◌, length, unwrap_or, option_map, Option, Some, None, inl, inr, refl, sym, ap, subst, ◌∙◌, arith}
use Rattle.std.proofs.lemmas.Bool.Decides.{nat_tests}
use Rattle.std.proofs.lemmas.List.{length-append}
use Rattle.session_tree.specs.Live.{children_of, new_edge}
use Rattle.node_rules.specs.Data.{Answer, BranchId, Edge, Live, Post, Input}
use Rattle.node_rules.specs.declared.work.Work.{Work}
use Rattle.node_rules.specs.declared.work.Going.{Going}
use Rattle.node_rules.specs.Words.{numbered}
use Rattle.node_rules.specs.NodeState.{NodeState, Branch}
use Rattle.node_rules.specs.Calls.{with_edge, hears_reply}
use Rattle.node_rules.proofs.Steps as steps
use Rattle.run_rules.specs.Births.{Born}
use Rattle.run_base_laws.specs.InTurnLaws.{newest_exec, newest_reply, WaitsFor, call_at}
use Rattle.run_rules.proofs.AtNodeLemmas.{range_of}
use Rattle.node_rules.specs.LiveBranches.{EachLive}
use Rattle.node_rules.specs.Marks.{node_back, back_to}
use Rattle.node_rules.proofs.Steps.{Calls_back}
use Rattle.run_base_laws.proofs.NeighborLemmas.{reply_is}
use Rattle.run_base_laws.proofs.CallTurnLemmas.{Free, marked_free}
use Rattle.run_base_laws.proofs.InTurnLemmas as turns
use Rattle.run_base_laws.proofs.InTurnLemmas.{peer, numbered_map, map_set, map_last, length_peers, numbered_before, numbered_last, numbered_split, calls_before, reply_for, one_waits, opened_none}
use Rattle.run_base_laws.proofs.RootLemmas.{SessionsFit}

-- one that waits has a statement
waits_some : (i : ℕ) (o : Option Going) → WaitsFor i o → (g : Going) × (o ≡ Some g)
waits_some i None waits = absurd waits
waits_some i (Some g) waits = (g, refl)

module _ (E : BranchId → Option ℕ) (A : BranchId → Option BranchId) (G Here : BranchId → Type 0) (input : Input) (said : List Post) (received : turns.Received E A G Here input said) where
  abbrev Begun : Live → Work → Type 0
  Begun = turns.Begun E A G Here input said

  abbrev Done : List Post → Live → Work → Type 0
  Done = turns.Done E A G Here input said

  abbrev FreeOf : Branch → Type 0
  FreeOf = turns.FreeOf E A G Here input said

  abbrev Nodes : NodeState → Type 0
  Nodes k = EachLive Begun k.lives k.works

  -- a branch of which nothing is known begins
  abbrev pub NewBorn : Born → Type 0
  NewBorn x = turns.IsNew E A G Here input said x.me

  -- ---- a child that was opened

  module _ (k : NodeState) (now : Nodes k) (x : Branch) (from : BranchId) (strength : ℕ) (g : Going) (link : List ℕ) (opened : steps.Is_opened k input x from strength g link) where
    abbrev y : Branch
    y = with_edge x (new_edge from link strength)

    was : Begun x.live x.work
    was = turns.branch_begun E A G Here input said received k now x opened.live

    abbrev peers : List BranchId
    peers = children_of x.live

    more : children_of y.live ≡ peers ++ from ∷ []
    more = map_last x.live.edges (new_edge from link strength)

    edge_is : E from ≡ Some (length x.live.edges + 1)
    edge_is =
        let at : E from ≡ Some opened.edge = received.opened from x.live.me opened.edge strength opened.came in
        let last : opened.edge ≡ length x.live.edges + 1 = grind (arith, nat_tests, opened.new) in
        subst (λ n. E from ≡ Some n) last at

    no_child_yet : (i : ℕ) → numbered peers i ≢ Some from
    no_child_yet i at =
        let it : Some i ≡ Some (length x.live.edges + 1) = sym (was.kids i from at) ∙ edge_is in
        let here : i ≡ length x.live.edges + 1 = cc in
        absurd (omega (arith, here, (range_of peers i from at).1, length_peers x.live.edges))

    new_call : (i : ℕ) → i ≡ length peers + 1 → call_at y.work i ≡ 0
    new_call i is =
        let here : i ≡ suc (length x.work.calls) = omega (arith, is, was.turn.makes.numbers) in
        ap (λ o. unwrap_or o 0) (subst (λ n. numbered (x.work.calls ++ 0 ∷ []) n ≡ Some 0) (sym here) (numbered_last x.work.calls 0))

    old_call : (i : ℕ) (c : BranchId) → numbered peers i ≡ Some c → call_at y.work i ≡ call_at x.work i
    old_call i c at = calls_before x.work.calls i (omega (arith, (range_of peers i c at).1, was.turn.makes.numbers))

    split : (P : ℕ → BranchId → Type 0) → ((i : ℕ) (c : BranchId) → numbered peers i ≡ Some c → P i c) → ((i : ℕ) → i ≡ length peers + 1 → P i from) → (i : ℕ) (c : BranchId) → numbered (peers ++ from ∷ []) i ≡ Some c → P i c
    split P old new i c at = elim (numbered_split peers from i c at) [ inl before ↦ old i c before | inr last ↦ subst (P i) last.1 (new i last.0) ]

    opened_so : Free E (turns.Goes E A G Here input said x.live) said x.live.me x.live.parent (peers ++ from ∷ []) y.work
    opened_so = record {
      kids = split (λ i c. E c ≡ Some i) was.kids (λ i is. subst (λ n. E from ≡ Some n) (let it : length x.live.edges + 1 ≡ i = omega (arith, is, length_peers x.live.edges) in it) edge_is);
      taken = was.turn.takes.taken;
      told = was.turn.takes.told;
      owes = turns.still_owes E A G Here input said received x g opened.going was;
      unanswered = was.turn.answered (λ none. (let some : x.work.going ≡ Some g = opened.going in absurd (cc (none, some))));
      numbers = length-append x.work.calls (0 ∷ []) ∙ (ap (λ n. n + 1) was.turn.makes.numbers ∙ sym (length-append peers (from ∷ [])));
      made = split (λ i c. newest_exec said x.live.me c ≡ call_at y.work i) (λ i c at. was.turn.makes.made i c at ∙ sym (old_call i c at)) (λ i is. was.turn.makes.no_other from no_child_yet ∙ sym (new_call i is));
      no_other = λ c none. was.turn.makes.no_other c (λ i at. none i (numbered_before peers from i c at));
      heard = λ goes. split (λ i c. call_at y.work i ≤ newest_reply said c)
          (λ i c at. elim (was.turn.makes.heard goes i c at) [
            | inl waits ↦ absurd (opened_none i link g x.work.going opened.going opened.waits waits)
            | inr heard ↦ (let it : call_at y.work i ≤ newest_reply said c = omega (arith, heard, old_call i c at) in it)
          ])
          (λ i is. omega (arith, new_call i is));
    }

    pub opened_free : FreeOf y
    opened_free = subst (λ ps. Free E (turns.Goes E A G Here input said x.live) said x.live.me x.live.parent ps y.work) (sym more) opened_so

    -- its first call
    pub opened_first : (c : BranchId) → call_at y.work (length x.live.edges + 1) ≤ newest_reply said c
    opened_first c = omega (arith, new_call (length x.live.edges + 1) (let it : length x.live.edges + 1 ≡ length peers + 1 = omega (arith, length_peers x.live.edges) in it))

  -- ---- a Reply that was waited for

  module _ (k : NodeState) (now : Nodes k) (x : Branch) (weight : Option ℕ) (count : ℕ) (a : Answer) (i : ℕ) (e : Edge) (answered : steps.Is_answered k input x weight count a i e) where
    pub heard_free : FreeOf (hears_reply x i weight count e)
    heard_free =
        let was : Begun x.live x.work = turns.branch_begun E A G Here input said received k now x answered.live in
        let over = reply_for x answered.from answered.call i e answered.waits in
        let g = waits_some i x.work.going over.0 in
        let at : numbered x.live.edges i ≡ Some e = reply_is x answered.from answered.call i e answered.waits in
        let told : answered.call ≤ newest_reply said answered.from = received.reply answered.from x.live.me answered.call weight count a answered.came in
        let free : FreeOf x
        = turns.freed E A G Here input said received x was (turns.still_owes E A G Here input said received x g.0 g.1 was)
        (was.turn.answered (λ none. (let some : x.work.going ≡ Some g.0 = g.1 in absurd (cc (none, some)))))
        (λ j c there waits. (let here : i ≡ j = one_waits i j x.work.going over.0 waits in
        let it : Some e.peer ≡ Some c = sym (numbered_map x.live.edges i ∙ ap (option_map peer) at) ∙ subst (λ n. numbered (children_of x.live) n ≡ Some c) (sym here) there in
        let child : e.peer ≡ c = cc in
        subst (λ n. call_at x.work n ≤ newest_reply said c) here
        (subst (λ b. call_at x.work i ≤ newest_reply said b) (sym over.1 ∙ child) (let low : call_at x.work i ≤ newest_reply said answered.from = omega (arith, told, over.2) in low)))) in
        subst (λ ps. Free E (turns.Goes E A G Here input said x.live) said x.live.me x.live.parent ps x.work) (sym (map_set peer x.live.edges i e (record e { weight = weight; count = count }) at refl)) free

  -- ---- a branch whose children are to go back

  pub calling_free : (k : NodeState) → SessionsFit k → Nodes k → {x : Branch} {step from : ℕ} → Calls_back k input x step from → FreeOf x
  calling_free k ss now (steps.Has_gone j x step goes is) =
      let fits : SessionsFit (node_back j x step) = subst SessionsFit is ss in
      let free : FreeOf x = turns.goes_free E A G Here input said received j (record { roots = fits.roots; above = fits.above }) (subst Nodes is now) goes in
      marked_free E (turns.Goes E A G Here input said x.live) said x.live.me x.live.parent (children_of x.live) x.work (back_to x.work.marks step) free
  calling_free k ss now (steps.Has_heard x weight count a i e g step answered going errand done) = heard_free k now x weight count a i e answered
