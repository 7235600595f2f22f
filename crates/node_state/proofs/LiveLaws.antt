-- What the rules make of a live branch keeps its id and the number of its children.
use Rattle.std.proofs.Common.{◌≡◌, ℕ, ◌<◌, ◌≤◌, zero, suc, Bool, true, false, if◌then◌else◌, List, [], ◌∷◌, length, length-append, Option, None, Some, sym, subst, ◌∙◌, refl, arith}
use Rattle.std.proofs.lemmas.List.{length-map, length-set}
use Rattle.dtx_values.specs.Limits.{link_limit}
use Rattle.tran_ids.specs.declared.branch.BranchId.{BranchId}
use Rattle.tran_ids.specs.Listed.{numbered, set_numbered}
use Rattle.session_tree.specs.declared.act.Act.{Act}
use Rattle.session_tree.specs.declared.act.Act.TheVariants as acts
use Rattle.session_tree.specs.declared.edge.Edge.{Edge}
use Rattle.session_tree.specs.declared.edge.Vote.{Vote}
use Rattle.session_tree.specs.declared.live.Live.{Live}
use Rattle.session_tree.specs.Live.{add_edge}
use Rattle.session_tree.specs.declared.live.Phase.{Phase}
use Rattle.session_tree.specs.declared.live.Phase.TheVariants as phases
use Rattle.prepare_phase.specs.Acts.{after_act, collecting, first_act, with_prepare_sent, after_prepare_in, after_prepare, is_first_answer, has_voted, voted, answer_act, after_answer_in, after_answer}
use Rattle.dtx_values.specs.declared.advice.Advice.{Advice}
use Rattle.node_rules.specs.Prepare.{with_comment, ready}
use Rattle.node_state.specs.Lives.{HasRoom, prepared_in, prepared, changed_by, with_changes, advised, as_told, told, heard}

-- a branch is as another in id and number of children
pub record Keeps (l m : Live) : Type 0 where
  pub me : m.me ≡ l.me
  pub children : length m.edges ≡ length l.edges

pub still : (l : Live) → Keeps l l
still l = record { me = refl; children = refl }

pub has_room : (l m : Live) → Keeps l m → HasRoom l → HasRoom m
has_room l m k room = subst (λ n. n ≤ link_limit) (sym k.children) room

act_keeps : (l : Live) (a : Act) → Keeps l (after_act l a)
act_keeps l acts.Rest = still l
act_keeps l acts.AskDown = still l
act_keeps l acts.SayReadOnly = still l
act_keeps l acts.SayReady = record { me = refl; children = refl }
act_keeps l acts.Seal = still l
act_keeps l (acts.SealAndPass i) = still l
act_keeps l acts.Decide = still l
act_keeps l acts.Finish = still l
act_keeps l acts.Abandon = still l

collect_keeps : (l : Live) (site_below : Bool) (a : Act) → Keeps l (after_act (collecting l site_below) a)
collect_keeps l site_below a =
    let after = act_keeps (collecting l site_below) a in
    record { me = after.me; children = after.children ∙ length-map l.edges with_prepare_sent }

prepare_in : (l : Live) (site_below : Bool) (phase : Phase) → Keeps l (after_prepare_in l site_below phase)
prepare_in l site_below phases.Working = collect_keeps l site_below (first_act (collecting l site_below) site_below)
prepare_in l site_below (phases.Collecting below) = still l
prepare_in l site_below phases.Ready = still l

prepare_keeps : (l : Live) (site_below : Bool) → Keeps l (after_prepare l site_below)
unfolding after_prepare
prepare_keeps l site_below = prepare_in l site_below l.phase

commented : (l : Live) (site_below : Bool) (comment : List ℕ) (phase : Phase) → Keeps l (prepared_in l site_below comment phase)
commented l site_below comment phases.Working = let k = prepare_keeps (with_comment l comment) site_below in record { me = k.me; children = k.children }
commented l site_below comment (phases.Collecting below) = still l
commented l site_below comment phases.Ready = still l

-- COMMIT or Prepare
pub prepared_keeps : (l : Live) (site_below : Bool) (comment : List ℕ) → Keeps l (prepared site_below comment l)
prepared_keeps l site_below comment = commented l site_below comment l.phase

voted_keeps : (l : Live) (from : BranchId) (v : Vote) (a : Act) → Keeps l (after_act (voted l from v) a)
voted_keeps l from v a =
    let after = act_keeps (voted l from v) a in
    record { me = after.me; children = after.children ∙ length-map l.edges (has_voted from v) }

first_if : (l : Live) (from : BranchId) (v : Vote) (site_below first : Bool) → Keeps l (if first then after_act (voted l from v) (answer_act (voted l from v) site_below v) else l)
first_if l from v site_below true = voted_keeps l from v (answer_act (voted l from v) site_below v)
first_if l from v site_below false = still l

answer_in : (l : Live) (from : BranchId) (v : Vote) (phase : Phase) → Keeps l (after_answer_in l from v phase)
answer_in l from v phases.Working = still l
answer_in l from v (phases.Collecting site_below) = first_if l from v site_below (is_first_answer l from)
answer_in l from v phases.Ready = still l

-- the answer of a child
pub answered_keeps : (l : Live) (from : BranchId) (v : Vote) → Keeps l (after_answer l from v)
unfolding after_answer
answered_keeps l from v = answer_in l from v l.phase

set_length : (es : List Edge) (i : ℕ) (e : Edge) → length (set_numbered es i e) ≡ length es
set_length es zero e = refl
set_length es (suc i) e = length-set es i e

told_length : (es : List Edge) (i : ℕ) (weight : Option ℕ) (count : ℕ) (e : Option Edge) → length (told i weight count es e) ≡ length es
told_length es i weight count None = refl
told_length es i weight count (Some e) = set_length es i (as_told weight count e)

-- a child's Reply
pub heard_keeps : (l : Live) (i : ℕ) (weight : Option ℕ) (count : ℕ) → Keeps l (heard i weight count l)
heard_keeps l i weight count = record { me = refl; children = told_length l.edges i weight count (numbered l.edges i) }

-- changes, advice, Ready
pub still_changed : (l : Live) (changes : Bool) → Keeps l (changed_by changes l)
still_changed l changes = record { me = refl; children = refl }

pub still_with_changes : (l : Live) (changed : Bool) → Keeps l (with_changes changed l)
still_with_changes l changed = record { me = refl; children = refl }

pub still_advised : (l : Live) (advice : Option Advice) → Keeps l (advised advice l)
still_advised l advice = record { me = refl; children = refl }

pub still_ready : (l : Live) → Keeps l (ready l)
still_ready l = record { me = refl; children = refl }

-- one more child
pub room_added : (l : Live) (e : Edge) → length l.edges < link_limit → HasRoom (add_edge l e)
room_added l e room = let n = length-append l.edges (e ∷ []) in let one : length (e ∷ []) ≡ 1 = refl in omega arith
