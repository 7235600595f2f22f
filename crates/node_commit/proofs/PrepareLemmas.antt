-- What a branch does in the prepare phase, once it stands among the live branches as it is from then on.
use Rattle.std.proofs.Common.{◌≡◌, ℕ, Bool, true, false, if◌then◌else◌, List, [], Option, None, Some, Result, Ok, Err, refl, sym, ap, subst, ◌∙◌}
use Rattle.std.specs.Prelude.{IfOk}
use Rattle.std.specs.Option.{option_map}
use Rattle.tran_ids.specs.declared.branch.BranchId.{BranchId}
use Rattle.tran_ids.specs.Listed.{item_at, put_item}
use Rattle.tran_ids.proofs.ListedLemmas.{item_is, put_found}
use Rattle.session_tree.specs.declared.live.Live.{Live}
use Rattle.session_tree.specs.declared.edge.Vote.{Vote}
use Rattle.session_tree.specs.declared.act.Act.{Act}
use Rattle.session_tree.specs.declared.act.Act.TheVariants as acts
use Rattle.session_tree.specs.declared.live.Phase.TheVariants as phases
use Rattle.prepare_phase.specs.Acts.{after_act, collecting, first_act, prepare_act_in, prepare_act, after_prepare_in, after_prepare, is_first_answer, voted, answer_act, heard_act_in, heard_act, after_answer_in, after_answer}
use Rattle.node_state.specs.Changed.{with_item}
use Rattle.node_state.specs.Lives.{prepared_in, prepared}
use Rattle.node_rules.specs.NodeState.{NodeState, TurnDraft, nothing, saying, live_id, live_at, with_live}
use Rattle.node_rules.specs.Prepare.{act_turn, collects, with_comment, without_read_keys, answer_in, on_answer}
use Rattle.node_commit.specs.Branches.{where_live, at_live, phase_of, begun, answered}
use Rattle.node_commit.proofs.LiveLemmas.{act_again, stays}

-- a branch keeps its id
act_me : (l : Live) (act : Act) → (after_act l act).me ≡ l.me
act_me l acts.Rest = refl
act_me l acts.AskDown = refl
act_me l acts.SayReadOnly = refl
act_me l acts.SayReady = refl
act_me l acts.Seal = refl
act_me l (acts.SealAndPass i) = refl
act_me l acts.Decide = refl
act_me l acts.Finish = refl
act_me l acts.Abandon = refl

-- what a branch does next, where it is live
abbrev turned : NodeState → BranchId → Bool → Act → TurnDraft
turned k b site_below act = at_live k b (λ l. act_turn k l site_below act)

-- where this branch was put in its place
abbrev acted : NodeState → BranchId → Bool → Live → Act → TurnDraft
acted k b site_below x act = turned (with_live k x) b site_below act

acted_is : (k : NodeState) (b : BranchId) (site_below : Bool) (l : Live) (act : Act) → l.me ≡ b → acted k b site_below (after_act l act) act ≡ act_turn k l site_below act
acted_is k b site_below l act me =
    let x = after_act l act in
    let there : item_at live_id (put_item live_id k.lives x) b ≡ Some x =
    subst (λ c. item_at live_id (put_item live_id k.lives x) c ≡ Some x) (act_me l act ∙ me) (put_found live_id k.lives x) in
    ap (where_live (with_live k x) (λ (y : Live). act_turn (with_live k x) y site_below act)) there ∙ act_again k l site_below act

-- a branch that waits stays as it is
rest_at : (k : NodeState) (b : BranchId) (site_below : Bool) (o : Option Live) → o ≡ live_at k b → where_live k (λ (l : Live). act_turn k l site_below acts.Rest) o ≡ nothing k
rest_at k b site_below None found = refl
rest_at k b site_below (Some l) found = ap (λ (ls : List Live). saying (record k { lives = ls }) []) (stays k.lives b l found)

pub rest_is : (k : NodeState) (b : BranchId) (site_below : Bool) → at_live k b (λ l. act_turn k l site_below acts.Rest) ≡ nothing k
rest_is k b site_below = rest_at k b site_below (live_at k b) refl

-- ---- COMMIT or Prepare

begins_act : (l : Live) (site_below : Bool) (comment : List ℕ) → l.phase ≡ phases.Working → prepare_act (with_comment l comment) site_below ≡ first_act (collecting (with_comment l comment) site_below) site_below
unfolding prepare_act
begins_act l site_below comment is = ap (prepare_act_in (with_comment l comment) site_below) is

begins_as : (l : Live) (site_below : Bool) (comment : List ℕ) → l.phase ≡ phases.Working
    → prepared site_below comment l ≡ after_act (collecting (with_comment l comment) site_below) (first_act (collecting (with_comment l comment) site_below) site_below)
unfolding after_prepare
begins_as l site_below comment is = ap (prepared_in l site_below comment) is ∙ ap (after_prepare_in (with_comment l comment) site_below) is

-- what a working branch does
collects_at : (k : NodeState) (b : BranchId) (site_below : Bool) (comment : List ℕ) (act : Act) (o : Option Live) → o ≡ live_at k b → option_map (λ (l : Live). l.phase) o ≡ Some phases.Working
    → Some act ≡ option_map (λ (l : Live). prepare_act (with_comment l comment) site_below) o
    → turned (record (without_read_keys k b) { lives = with_item live_id (prepared site_below comment) k.lives o }) b site_below act
    ≡ where_live k (λ (l : Live). collects k (with_comment l comment) site_below) o
collects_at k b site_below comment act None found working is = absurd cc
collects_at k b site_below comment act (Some l) found working is =
    let me : l.me ≡ b = item_is live_id k.lives b l (sym found) in
    let begun = collecting (with_comment l comment) site_below in
    let first = first_act begun site_below in
    let calm = without_read_keys k b in
    let some : Some act ≡ Some (prepare_act (with_comment l comment) site_below) = is in
    let it : act ≡ prepare_act (with_comment l comment) site_below = cc in
    let phase : Some l.phase ≡ Some phases.Working = working in
    let works : l.phase ≡ phases.Working = cc in
    ap (λ (x : Live). acted calm b site_below x act) (begins_as l site_below comment works)
    ∙ ap (acted calm b site_below (after_act begun first)) (it ∙ begins_act l site_below comment works)
    ∙ acted_is calm b site_below begun first me
    ∙ ap (λ (c : BranchId). act_turn (without_read_keys k c) begun site_below first) (sym me)

pub collects_by : (k after : NodeState) (b : BranchId) (site_below : Bool) (comment : List ℕ) (act : Act) → after ≡ begun k b site_below comment → phase_of k b ≡ Some phases.Working
    → Some act ≡ option_map (λ (l : Live). prepare_act (with_comment l comment) site_below) (live_at k b)
    → at_live after b (λ l. act_turn after l site_below act) ≡ at_live k b (λ l. collects k (with_comment l comment) site_below)
collects_by k after b site_below comment act is working acts =
    ap (λ (j : NodeState). turned j b site_below act) is ∙ collects_at k b site_below comment act (live_at k b) refl working acts

-- ---- an answer

heard_if : (k : NodeState) (b : BranchId) (site_below : Bool) (l heard : Live) (act : Act) → Some l ≡ live_at k b → heard.me ≡ b → (first : Bool)
    → acted k b site_below (if first then after_act heard act else l) (if first then act else acts.Rest) ≡ (if first then act_turn k heard site_below act else nothing k)
heard_if k b site_below l heard act found me true = acted_is k b site_below heard act me
heard_if k b site_below l heard act found me false =
    acted_is k b site_below l acts.Rest (item_is live_id k.lives b l (sym found)) ∙ ap (λ (ls : List Live). saying (record k { lives = ls }) []) (stays k.lives b l found)

heard_as : (l : Live) (site_below : Bool) (from : BranchId) (vote : Vote) → l.phase ≡ phases.Collecting site_below
    → after_answer l from vote ≡ (if is_first_answer l from then after_act (voted l from vote) (answer_act (voted l from vote) site_below vote) else l)
unfolding after_answer
heard_as l site_below from vote is = ap (after_answer_in l from vote) is

heard_does : (l : Live) (site_below : Bool) (from : BranchId) (vote : Vote) → l.phase ≡ phases.Collecting site_below
    → heard_act l from vote ≡ (if is_first_answer l from then answer_act (voted l from vote) site_below vote else acts.Rest)
unfolding heard_act
heard_does l site_below from vote is = ap (heard_act_in l from vote) is

-- what a collecting branch does
answer_at : (k : NodeState) (b : BranchId) (site_below : Bool) (from : BranchId) (vote : Vote) (act : Act) (o : Option Live) → o ≡ live_at k b → option_map (λ (l : Live). l.phase) o ≡ Some (phases.Collecting site_below)
    → Some act ≡ option_map (λ (l : Live). heard_act l from vote) o
    → turned (record k { lives = with_item live_id (λ (l : Live). after_answer l from vote) k.lives o }) b site_below act
    ≡ where_live k (λ (l : Live). on_answer k l from vote) o
answer_at k b site_below from vote act None found collects is = absurd cc
answer_at k b site_below from vote act (Some l) found collects is =
    let heard = voted l from vote in
    let does = answer_act heard site_below vote in
    let first = is_first_answer l from in
    let some : Some act ≡ Some (heard_act l from vote) = is in
    let it : act ≡ heard_act l from vote = cc in
    let phase : Some l.phase ≡ Some (phases.Collecting site_below) = collects in
    let waits : l.phase ≡ phases.Collecting site_below = cc in
    ap (λ (x : Live). acted k b site_below x act) (heard_as l site_below from vote waits)
    ∙ ap (acted k b site_below (if first then after_act heard does else l)) (it ∙ heard_does l site_below from vote waits)
    ∙ heard_if k b site_below l heard does found (item_is live_id k.lives b l (sym found)) first
    ∙ ap (answer_in k l from vote) (sym waits)

pub answer_by : (k after : NodeState) (b : BranchId) (site_below : Bool) (from : BranchId) (vote : Vote) (act : Act) → after ≡ answered k b from vote → phase_of k b ≡ Some (phases.Collecting site_below)
    → Some act ≡ option_map (λ (l : Live). heard_act l from vote) (live_at k b)
    → at_live after b (λ l. act_turn after l site_below act) ≡ at_live k b (λ l. on_answer k l from vote)
answer_by k after b site_below from vote act is collects acts =
    ap (λ (j : NodeState). turned j b site_below act) is ∙ answer_at k b site_below from vote act (live_at k b) refl collects acts

-- a live branch is there
pub is_there : {A B C : Type 0} (f : A → B) (g : A → C) (o : Option A) (x : B) → option_map f o ≡ Some x → None ≡ option_map g o → ⊥
is_there f g None x is none = cc
is_there f g (Some y) x is none = cc

-- what a call gives for each, it gives for this
pub for_each : {A E S : Type 0} (r : Result A E) (P : A → S → Type 0) (s : S) → IfOk r (λ x. (t : S) → P x t) → IfOk r (λ x. P x s)
for_each (Ok x) P s is = is s
for_each (Err e) P s is = is
