-- What a branch sent down last, as messages are added.
use Rattle.std.proofs.Common.{◌≡◌, ℕ, ◌&&◌, Bool, true, false, if◌then◌else◌, List, [], ◌∷◌, ◌++◌, Option, Some, None, refl, ap, ◌∙◌}
use Rattle.std.specs.List.{AllByRecursion}
use Rattle.tran_ids.proofs.BranchLemmas.{same_from_equal}
use Rattle.node_rules.specs.Data.{Answer, BranchId, Input, Kind, Post}
use Rattle.node_rules.specs.Data.kinds
use Rattle.node_rules.specs.declared.session.Session.{Session}
use Rattle.node_rules.specs.NodeState.{NodeState, Branch, post}
use Rattle.node_rules.specs.declared.work.Errand.{Errand}
use Rattle.node_rules.specs.Calls.{task_for, answer_says, exec_to, next_call}
use Rattle.node_rules.specs.Recovery.{kept_told}
use Rattle.node_rules.specs.Words.{same}
use Rattle.node_rules.proofs.Steps as steps
use Rattle.node_rules.proofs.Steps.{Says}
use Rattle.run_base_laws.proofs.KindSayLemmas.{OfDecisions, AllSay, told_says, askings_say}
use Rattle.answer_laws.specs.StatementEnds.{calls_below, is_sent_down, last_sent_down}

-- a message that takes no statement down
abbrev pub IsLevel : Kind → Type 0
IsLevel kind = calls_below kind ≡ false

-- a branch sends nothing down by these
abbrev pub SendsNoneDown : BranchId → List Post → Type 0
SendsNoneDown b ms = AllByRecursion (λ m. is_sent_down b m ≡ false) ms

pub level_none : (b : BranchId) (ms : List Post) → AllSay IsLevel ms → SendsNoneDown b ms
level_none b [] all = tt
level_none b (m ∷ ms) all = (by (same m.from b) all.0, level_none b ms all.1)
  where
    by : (q : Bool) → calls_below m.kind ≡ false → (q && calls_below m.kind) ≡ false
    by true level = level
    by false level = refl

pub other_none : (b c to : BranchId) (kind : Kind) → same c b ≡ false → SendsNoneDown b (post c to kind)
other_none b c to kind other = (ap (λ q. q && calls_below kind) other, tt)

pub exec_none : (ss : List Session) (y : Branch) (i : ℕ) (errand : Errand) (o : Option BranchId) (b : BranchId) → same y.live.me b ≡ false → SendsNoneDown b (exec_to ss y i errand o)
exec_none ss y i errand None b other = tt
exec_none ss y i errand (Some c) b other = other_none b y.live.me c (kinds.Exec (next_call y.work i) (task_for ss y i errand)) other

-- it stays the last
pub last_append : (b : BranchId) (o : Option Post) (xs ys : List Post) → last_sent_down b o (xs ++ ys) ≡ last_sent_down b (last_sent_down b o xs) ys
last_append b o [] ys = refl
last_append b o (x ∷ xs) ys = last_append b (if is_sent_down b x then Some x else o) xs ys

pub last_stays : (b : BranchId) (o : Option Post) (ms : List Post) → SendsNoneDown b ms → last_sent_down b o ms ≡ o
last_stays b o [] none = refl
last_stays b o (m ∷ ms) none = ap (λ q. last_sent_down b (if q then Some m else o) ms) none.0 ∙ last_stays b o ms none.1

pub last_more : (b : BranchId) (said says : List Post) → SendsNoneDown b says → last_sent_down b None (said ++ says) ≡ last_sent_down b None said
last_more b said says none = last_append b None said says ∙ last_stays b (last_sent_down b None said) says none

-- or another one is
pub last_now : (b to : BranchId) (kind : Kind) (said : List Post) → calls_below kind ≡ true → last_sent_down b None (said ++ post b to kind) ≡ Some (record { from = b; to = to; kind = kind })
last_now b to kind said down =
    last_append b None said (post b to kind)
    ∙ (ap (λ q. if q && calls_below kind then Some (record { from = b; to = to; kind = kind }) else last_sent_down b None said) (same_from_equal b b refl)
    ∙ ap (λ q. if q then Some (record { from = b; to = to; kind = kind }) else last_sent_down b None said) down)

-- ---- messages that take nothing down

pub level_decisions : OfDecisions IsLevel
level_decisions = record { committed = λ n. refl; rolled_back = refl; rollback = refl; in_doubt = refl; ack = refl; forgotten = refl; ask = refl }

pub answer_level : (z : Branch) (a : Answer) (o : Option BranchId) → AllSay IsLevel (answer_says z a o)
answer_level z a None = tt
answer_level z a (Some up) = (refl, tt)

pub says_level : {k : NodeState} {input : Input} {says : List Post} → Says k input says → AllSay IsLevel says
says_level (steps.Tells s from came kept) = (told_says IsLevel level_decisions (kept_told s from), tt)
says_level {k = k} (steps.Recovers reco) = askings_say IsLevel level_decisions k
says_level _ = (refl, tt)
