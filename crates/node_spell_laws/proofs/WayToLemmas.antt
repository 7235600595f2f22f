-- The way of a prepared branch leads to a parent, or to a child that its record names.
use Rattle.std.proofs.Common.{◌≡◌, ℕ, suc, ◌+◌, ◌-◌, ◌<◌, ◌≤◌, ◌==◌, ◌||◌, ◌⊎◌, inl, inr, Bool, true, false, if◌then◌else◌, List, [], ◌∷◌, length, map, filter, take, Option, Some, None, refl, sym, ap, subst, arith}
use Rattle.std.specs.Prelude.{nat_lt, is_some, IfSome, IsTrue}
use Rattle.std.proofs.lemmas.Bool.Decides.{nat_tests}
use Rattle.std.proofs.lemmas.List.{length-map}
use Rattle.dtx_values.specs.Limits.{link_limit}
use Rattle.prepare_phase.specs.Acts.{with_prepare_sent, has_voted}
use Rattle.prepare_phase.specs.Records.{is_prepared, is_place, named_children, prepared_before}
use Rattle.session_tree.specs.Tree.{place_of_greatest, best_child, walk_by, step}
use Rattle.node_rules.specs.Data.{Edge, Live, Act, Place, Input}
use Rattle.node_rules.specs.Data.towards
use Rattle.node_rules.specs.Data.inputs
use Rattle.node_rules.specs.declared.work.Work.{Work}
use Rattle.node_rules.specs.Data.walks
use Rattle.node_rules.specs.Data.acts
use Rattle.commit_forget.specs.declared.next.Next.TheVariants as nexts
use Rattle.node_rules.specs.NodeState.{NodeState, TurnDraft}
use Rattle.node_rules.specs.LiveBranches.{EachLive}
use Rattle.node_rules.specs.Client.{begun_by}
use Rattle.node_rules.specs.Turn.{heard, turn_of}
use Rattle.node_rules.proofs.Steps as steps
use Rattle.node_rules.proofs.Steps.{Step, Acting}
use Rattle.node_rules.proofs.StepLemmas.{acting_so, made_so}
use Rattle.node_rules.proofs.LiveLemmas.{each_begun}
use Rattle.node_rules.proofs.TurnLemmas.{step_of}
use Rattle.node_spell_laws.specs.Bytes.{BringsBytes, AsksChild, HasAsker, LiveHasBytes, KeepsBytes}
use Rattle.node_spell_laws.specs.Record.{WayFits}
use Rattle.node_spell_laws.specs.Written.{HasWay, HasFewChildren, WaysLead}
use Rattle.node_spell_laws.proofs.SayLemmas.{no_comment}
use Rattle.node_spell_laws.proofs.SayStepLemmas.{begins, acts_so, none_asked, heard_asks, heard_texts}

-- ---- the child that the walk goes to is there

-- what is found among weights from a number on has a number of theirs
place_in : (i : ℕ) (ws : List (Option ℕ)) (best : Option (ℕ × ℕ)) (b : ℕ × ℕ) → place_of_greatest i ws best ≡ Some b → (best ≡ Some b) ⊎ ((i ≤ b.1) × (b.1 < i + length ws))
place_in i [] best b is = inl is
place_in i (None ∷ ws) best b is = elim (place_in (i + 1) ws best b is) [ inl before ↦ inl before | inr new ↦ inr (omega (arith, new.0), omega (arith, new.1)) ]
place_in i (Some w ∷ ws) None b is = elim (place_in (i + 1) ws (Some (w, i)) b is) [
  | inl here ↦ inr (let one : (w, i) ≡ b = cc in let place : i ≡ b.1 = ap (λ (x : ℕ × ℕ). x.1) one in (omega (arith, place), omega (arith, place)))
  | inr new ↦ inr (omega (arith, new.0), omega (arith, new.1))
]
place_in i (Some w ∷ ws) (Some c) b is = by (nat_lt c.0 w) (place_in (i + 1) ws (if nat_lt c.0 w then Some (w, i) else Some c) b is)
  where
    by : (more : Bool) → ((if more then Some (w, i) else Some c) ≡ Some b) ⊎ ((i + 1 ≤ b.1) × (b.1 < i + 1 + length ws)) → (Some c ≡ Some b) ⊎ ((i ≤ b.1) × (b.1 < i + length (Some w ∷ ws)))
    by true (inl here) = inr (let one : (w, i) ≡ b = cc in let place : i ≡ b.1 = ap (λ (x : ℕ × ℕ). x.1) one in (omega (arith, place), omega (arith, place)))
    by false (inl before) = inl before
    by more (inr new) = inr (omega (arith, new.0), omega (arith, new.1))

-- a walk that goes down goes to the best child
goes_to : (changed : Bool) (strength : ℕ) (best : Option (ℕ × ℕ)) (i : ℕ) → walk_by changed strength best ≡ walks.Down i → (b : ℕ × ℕ) × (best ≡ Some b) × (b.1 ≡ i)
goes_to true strength None i is = absurd cc
goes_to true strength (Some b) i is = by (nat_lt strength b.0) is
  where
    by : (below : Bool) → (if below then walks.Down b.1 else walks.Here) ≡ walks.Down i → (c : ℕ × ℕ) × (Some b ≡ Some c) × (c.1 ≡ i)
    by true down = (b, refl, cc)
    by false here = absurd cc
goes_to false strength None i is = absurd cc
goes_to false strength (Some b) i is = (b, refl, cc)

down_within : (l : Live) (i : ℕ) → step l ≡ walks.Down i → (1 ≤ i) × (i ≤ length l.edges)
unfolding step
down_within l i is =
    let best = goes_to l.changed l.strength (best_child l) i is in
    let many : length (map (λ (e : Edge). e.weight) l.edges) ≡ length l.edges = length-map l.edges (λ (e : Edge). e.weight) in
    elim (place_in 1 (map (λ (e : Edge). e.weight) l.edges) None best.0 best.1) [
      | inl none ↦ absurd cc
      | inr new ↦ (let place = best.2 in (omega (arith, new.0, place), omega (arith, new.1, place, many)))
    ]

-- ---- and its record names it

-- the prepared children before one of a number are fewer than the children that a record names with it
named_so : (path n : ℕ) (es : List Edge) → n ≤ path → path < n + length es → length (filter is_prepared (take (path - n) es)) < length (named_children (Some path) n es)
named_so path n [] low high = absurd (omega (arith, low, high))
named_so path n (e ∷ es) low high = by (n == path) refl (named_so path (n + 1) es)
  where
    -- this child, or one behind it
    rest : (prepared : Bool) → length (filter is_prepared (take (path - (n + 1)) es)) < length (named_children (Some path) (n + 1) es)
        → length (if prepared then e ∷ filter is_prepared (take (path - (n + 1)) es) else filter is_prepared (take (path - (n + 1)) es)) < length (if prepared || false then record { branch = e.peer; link = e.link } ∷ named_children (Some path) (n + 1) es else named_children (Some path) (n + 1) es)
    rest true few = omega (arith, few)
    rest false few = few

    here : (prepared : Bool) → 0 < length (if prepared || true then record { branch = e.peer; link = e.link } ∷ named_children (Some path) (n + 1) es else named_children (Some path) (n + 1) es)
    here true = omega arith
    here false = omega arith

    by : (at : Bool) → (n == path) ≡ at → (n + 1 ≤ path → path < n + 1 + length es → length (filter is_prepared (take (path - (n + 1)) es)) < length (named_children (Some path) (n + 1) es))
        → length (filter is_prepared (take (path - n) (e ∷ es))) < length (named_children (Some path) n (e ∷ es))
    by true at later =
        let none : path - n ≡ 0 = grind (arith, nat_tests) in
        subst (λ m. length (filter is_prepared (take m (e ∷ es))) < length (named_children (Some path) n (e ∷ es))) (sym none)
        (subst (λ b. 0 < length (if is_prepared e || b then record { branch = e.peer; link = e.link } ∷ named_children (Some path) (n + 1) es else named_children (Some path) (n + 1) es)) (sym at) (here (is_prepared e)))
    by false at later =
        let below : n + 1 ≤ path = grind (arith, nat_tests) in
        let one_more : path - n ≡ suc (path - (n + 1)) = omega (arith, below) in
        subst (λ m. length (filter is_prepared (take m (e ∷ es))) < length (named_children (Some path) n (e ∷ es))) (sym one_more)
        (subst (λ b. length (filter is_prepared (e ∷ take (path - (n + 1)) es)) < length (if is_prepared e || b then record { branch = e.peer; link = e.link } ∷ named_children (Some path) (n + 1) es else named_children (Some path) (n + 1) es)) (sym at)
        (rest (is_prepared e) (later below (omega (arith, high)))))

down_named : (l : Live) (i : ℕ) → step l ≡ walks.Down i → prepared_before i l.edges < length (named_children (Some i) 1 l.edges)
down_named l i is = let within = down_within l i is in named_so i 1 l.edges within.0 (omega (arith, within.1))

-- a record names no more children than there are
named_few : (path : Option ℕ) (i : ℕ) (es : List Edge) → length (named_children path i es) ≤ length es
named_few path i [] = omega arith
named_few path i (e ∷ es) = by (is_prepared e || is_place i path) (named_few path (i + 1) es)
  where
    by : (named : Bool) → length (named_children path (i + 1) es) ≤ length es
        → length (if named then record { branch = e.peer; link = e.link } ∷ named_children path (i + 1) es else named_children path (i + 1) es) ≤ suc (length es)
    by true few = omega (arith, few)
    by false few = omega (arith, few)

down_fits : (l : Live) (i : ℕ) → step l ≡ walks.Down i → length l.edges ≤ link_limit → WayFits (towards.Child (prepared_before i l.edges)) l.parent (length (named_children (Some i) 1 l.edges))
down_fits l i down few = let low = down_named l i down in let named = named_few (Some i) 1 l.edges in (low, omega (arith, low, named, few))

-- ---- turns

passes_down : {k : NodeState} {input : Input} {l : Live} {site_below : Bool} {i : ℕ} → Acting k input l site_below (acts.SealAndPass i) → step l ≡ walks.Down i
passes_down (steps.Has_no_children l comment site_below a live begun none (steps.Passes i root down)) = down
passes_down (steps.Hears_last l from v site_below a live answers other all (steps.Passes i root down)) = down
passes_down (steps.At_point l from a live came ready (steps.Points_on i down)) = down

-- who seals toward its parent has one
seals_up : {k : NodeState} {input : Input} {l : Live} {w : Work} {site_below : Bool} → LiveHasBytes l w → Acting k input l site_below acts.Seal → IsTrue (is_some l.parent)
seals_up is (steps.Has_no_children l comment site_below a live begun none (steps.Is_prepared some)) = is.asker
seals_up is (steps.Hears_last l from v site_below a live answers other all (steps.Is_prepared some)) = subst (HasAsker l.parent) answers.collecting is.asker
seals_up is (steps.At_point l from a live came ready pointed) = elim pointed [ ]

few_acting : {k : NodeState} {input : Input} {l : Live} {site_below : Bool} {a : Act} → EachLive HasFewChildren k.lives k.works → Acting k input l site_below a → length l.edges ≤ link_limit
few_acting few why =
    acting_so (λ l. length l.edges ≤ link_limit)
    (λ l comment site_below is. subst (λ n. n ≤ link_limit) (sym (length-map l.edges with_prepare_sent)) is)
    (λ l from v is. subst (λ n. n ≤ link_limit) (sym (length-map l.edges (has_voted from v))) is)
    (λ b l found. few.each b l found) why

ways_on : (p : Place) (input : Input) → BringsBytes input → {k : NodeState} {d : TurnDraft} → Step p input k d → AsksChild k input → EachLive HasFewChildren k.lives k.works → KeepsBytes k → IfSome d.wrote HasWay
ways_on p input brings (steps.Begins {k = k} n s read_at call starts fit none step) asks few now =
    ways_on p input brings step (none_asked (begun_by p k n read_at None) call) (each_begun HasFewChildren HasFewChildren k.lives k.works few _ (omega arith) (λ y v live any so. so)) (record { lives = begins k now _ no_comment tt; synonyms = now.synonyms })
ways_on p input brings (steps.Counts_call n s call counts step) asks few now = ways_on p input brings step asks few (record { lives = now.lives; synonyms = now.synonyms })
ways_on p input brings (steps.Goes_back x to goes next) asks few now = ways_on p input brings next asks few (record { lives = now.lives; synonyms = now.synonyms })
ways_on p input brings (steps.Pends n l given call has live code writer step) asks few now = ways_on p input brings step asks few (record { lives = now.lives; synonyms = now.synonyms })
ways_on p input brings (steps.Lets_reads_go l comment site_below live begun step) asks few now = ways_on p input brings step asks few (record { lives = now.lives; synonyms = now.synonyms })
ways_on p input brings (steps.Counts_ack s from kept came counts step) asks few now = ways_on p input brings step asks few (record { lives = now.lives; synonyms = now.synonyms })
ways_on p input brings (steps.Acts l site_below (acts.SealAndPass i) why) asks few now = down_fits l i (passes_down why) (few_acting few why)
ways_on p input brings (steps.Acts {k = k} l site_below acts.Seal why) asks few now = seals_up (acts_so k now brings asks why) why
ways_on p input brings (steps.Acts l site_below acts.Decide why) asks few now = tt
ways_on p input brings (steps.Acts l site_below acts.Rest why) asks few now = tt
ways_on p input brings (steps.Acts l site_below acts.AskDown why) asks few now = tt
ways_on p input brings (steps.Acts l site_below acts.SayReadOnly why) asks few now = tt
ways_on p input brings (steps.Acts l site_below acts.SayReady why) asks few now = tt
ways_on p input brings (steps.Acts l site_below acts.Finish why) asks few now = tt
ways_on p input brings (steps.Acts l site_below acts.Abandon why) asks few now = tt
ways_on p input brings (steps.Does s from (nexts.End d) kept why) asks few now = tt
ways_on p input brings (steps.Does s from (nexts.Meet d mixed) kept why) asks few now = tt
ways_on p input brings (steps.Does s from nexts.Forget kept why) asks few now = tt
ways_on p input brings (steps.Does s from nexts.Rest kept why) asks few now = tt
ways_on p input brings (steps.Does s from nexts.AckToward kept why) asks few now = tt
ways_on p input brings (steps.Does s from nexts.SayForgotten kept why) asks few now = tt
ways_on p input brings (steps.Does s from nexts.SayAck kept why) asks few now = tt
ways_on p input brings (steps.Makes_record n s r d call makes) asks few now = made_so HasWay (λ t. tt) (λ l. tt) (λ y. tt) (λ on. tt) makes
ways_on p input brings (steps.Gives_up_commit n b (Some l) gives has waits live) asks few now = tt
ways_on p input brings (steps.Gives_up_commit n b None gives has waits none) asks few now = tt
ways_on p input brings _ asks few now = tt

heard_few : (k : NodeState) (input : Input) → EachLive HasFewChildren k.lives k.works → EachLive HasFewChildren (heard k input).lives (heard k input).works
heard_few k (inputs.Message m) few = few
heard_few k (inputs.Call n s) few = few
heard_few k (inputs.GiveUp n) few = few
heard_few k inputs.Reco few = few
heard_few k inputs.Checkpoint few = few

pub ways_lead : WaysLead
unfolding turn_of
ways_lead p k input fit brings asks few now = ways_on p input brings (step_of p k input fit) (heard_asks k input asks) (heard_few k input few) (heard_texts k input now)
