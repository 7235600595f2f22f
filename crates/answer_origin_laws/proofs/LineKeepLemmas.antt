-- What keeps where a live branch leads: edges that are alike, statements that are answered, the numbers of calls.
use Rattle.std.proofs.Common.{◌≡◌, ℕ, zero, suc, ◌+◌, false, is_none, List, [], ◌∷◌, ◌++◌, map, length, unwrap_or, Option, Some, None, inl, inr, refl, sym, ap, subst, ◌∙◌, arith}
use Rattle.std.specs.List.{AllByRecursion}
use Rattle.std.proofs.lemmas.Bool.{cond_both}
use Rattle.std.proofs.lemmas.List.{length-map}
use Rattle.tran_ids.proofs.NumberedLemmas.{set_length, set_found, set_or_before}
use Rattle.node_rules.specs.Data.{Stmt, BranchId, Durable, Edge, Live, Place, Post}
use Rattle.node_rules.specs.declared.work.Errand.{Errand}
use Rattle.node_rules.specs.Data.kinds
use Rattle.node_rules.specs.declared.work.Errand.TheVariants as errands
use Rattle.node_rules.specs.declared.session.PendingCall.TheVariants as pending
use Rattle.node_rules.specs.declared.session.PendingCall.{PendingCall}
use Rattle.node_rules.specs.declared.session.Session.{Session}
use Rattle.node_rules.specs.declared.work.Waits.{Waits}
use Rattle.node_rules.specs.declared.work.Waits.TheVariants as waiting
use Rattle.node_rules.specs.declared.work.Going.{Going}
use Rattle.node_rules.specs.declared.work.Work.{Work}
use Rattle.node_rules.specs.Words.{same, numbered, set_numbered}
use Rattle.node_rules.specs.NodeState.{Branch}
use Rattle.node_rules.specs.Names.{target_of}
use Rattle.node_rules.specs.Sessions.{session_at, with_call, needs_rollback}
use Rattle.node_rules.specs.Calls.{task_for, exec_to, next_call, call_pends, called}
use Rattle.node_rules.proofs.StandLemmas.{call_set}
use Rattle.run_base_laws.specs.InTurnLaws.{WaitsFor, call_at}
use Rattle.run_rules.proofs.AtNodeLemmas.{there_too}
use Rattle.run_base_laws.proofs.RootLemmas.{session_or_before}
use Rattle.answer_origin_laws.proofs.LineLemmas.{stmt_of_task, stmt_of_errand, Quiet, other_quiet, OpensLow, OpensTo, SentSo, more_by, more, WaitsSo, ErrandSo, Line, low_more}
use Rattle.answer_origin_laws.proofs.NumberLemmas.{all_numbered}
use Rattle.tree_laws.proofs.HoldLemmas.{code_at}

-- ---- codes of sessions

pub call_code : (ss : List Session) (n m : ℕ) (c : PendingCall) → (session_at (with_call ss n c) m).code ≡ (session_at ss m).code
call_code ss n m c = elim (session_or_before ss n m (record (session_at ss n) { call = c })) [
  | inl still ↦ ap (λ s. s.code) still
  | inr new ↦ ap (λ s. s.code) new.1 ∙ ap (λ i. (session_at ss i).code) new.0
]

pub pends_code : (ss : List Session) (l : Live) (m : ℕ) → (session_at (call_pends ss l) m).code ≡ (session_at ss m).code
pends_code ss l m = cond_both (is_none l.parent) (with_call ss l.me.session pending.Statement) ss (λ xs. (session_at xs m).code ≡ (session_at ss m).code) (λ root. call_code ss l.me.session m pending.Statement) (λ below. refl)

pub given_code : (ss : List Session) (n code : ℕ) (b : BranchId) → (session_at ss n).root ≡ Some b → (session_at (needs_rollback (with_call ss n pending.NoCall) n code) n).code ≡ None → ⊥
given_code ss n code b has none =
    let free : List Session = with_call ss n pending.NoCall in
    let root : (session_at free n).root ≡ Some b = ap (λ s. s.root) (call_set ss n b pending.NoCall has) ∙ has in
    let set : (session_at (needs_rollback free n code) n).code ≡ Some code = ap (λ s. s.code) (code_at free n code b (numbered free n) refl root) in
    absurd (cc (set, none))

-- ---- edges

module _ {A B : Type 0} (f : A → B) where
  -- an item of a mapped list
  pub mapped_at : (xs : List A) (i : ℕ) (y : B) → numbered (map f xs) i ≡ Some y → (x : A) × (numbered xs i ≡ Some x) × (f x ≡ y)
  mapped_at xs zero y is = absurd cc
  mapped_at [] (suc i) y is = absurd cc
  mapped_at (x ∷ xs) (suc zero) y is = let it : Some (f x) ≡ Some y = is in let here : f x ≡ y = cc in (x, refl, here)
  mapped_at (x ∷ xs) (suc (suc i)) y is = mapped_at xs (suc i) y is

-- the same peers over the same links
abbrev pub AlikeEdges : List Edge → List Edge → Type 0
AlikeEdges es ds = (length ds ≡ length es) × ((i : ℕ) (d : Edge) → numbered ds i ≡ Some d → (e : Edge) × (numbered es i ≡ Some e) × (d.peer ≡ e.peer) × (d.link ≡ e.link))

pub mapped_alike : (f : Edge → Edge) → ((e : Edge) → (f e).peer ≡ e.peer) → ((e : Edge) → (f e).link ≡ e.link) → (es : List Edge) → AlikeEdges es (map f es)
mapped_alike f peers links es = (length-map es f, (λ i d at. (let found = mapped_at f es i d at in (found.0, found.1, ap (λ (e : Edge). e.peer) (sym found.2) ∙ peers found.0, ap (λ (e : Edge). e.link) (sym found.2) ∙ links found.0))))

pub all_at : {A : Type 0} (P : A → Type 0) (xs : List A) → ((i : ℕ) (x : A) → numbered xs i ≡ Some x → P x) → AllByRecursion P xs
all_at P [] each = tt
all_at P (x ∷ xs) each = (each 1 x refl, all_at P xs (λ i y at. next i y at))
  where
    next : (i : ℕ) (y : _) → numbered xs i ≡ Some y → P y
    next zero y at = absurd cc
    next (suc i) y at = each (suc (suc i)) y at

pub set_alike : (es : List Edge) (i : ℕ) (e x : Edge) → numbered es i ≡ Some e → x.peer ≡ e.peer → x.link ≡ e.link → AlikeEdges es (set_numbered es i x)
set_alike es i e x at peer_is link_is = (
  set_length es i x,
  (λ j d found. elim (set_or_before es i j x) [
    | inl before ↦ (d, sym before ∙ found, refl, refl)
    | inr new ↦ (let it : Some x ≡ Some d = sym new.1 ∙ found in let one : x ≡ d = cc in (e, subst (λ n. numbered es n ≡ Some e) new.0 at, ap (λ (y : Edge). y.peer) (sym one) ∙ peer_is, ap (λ (y : Edge). y.link) (sym one) ∙ link_is))
  ]),
)

pub same_alike : (es : List Edge) → AlikeEdges es es
same_alike es = (refl, (λ i d at. (d, at, refl, refl)))

-- ---- messages and numbers

pub exec_other : (ss : List Session) (y : Branch) (i : ℕ) (errand : Errand) (o : Option BranchId) (b : BranchId) → same y.live.me b ≡ false → Quiet b (exec_to ss y i errand o)
exec_other ss y i errand None b other = tt
exec_other ss y i errand (Some c) b other = other_quiet b y.live.me c (kinds.Exec (next_call y.work i) (task_for ss y i errand)) other

-- the number of the call is above all before it
pub next_number : (ss : List Session) (y : Branch) (i : ℕ) (errand : Errand) (e : Edge) → numbered y.live.edges i ≡ Some e → length y.work.calls ≡ length y.live.edges → call_at (called ss y i errand).work i ≡ call_at y.work i + 1
next_number ss y i errand e at long = let there = there_too y.live.edges y.work.calls i e (sym long) at in ap (λ o. unwrap_or o 0) (set_found y.work.calls i there.0 (next_call y.work i) there.1)

module _ (p : Place) (D : Durable) (Given : BranchId → ℕ → Option Stmt → Type 0) (Called : BranchId → BranchId → ℕ → ℕ → Stmt → Stmt → Type 0) where
  -- edges that are alike
  pub alike_line : (xs : List Post) (Go : Type 0) (me : BranchId) (es ds : List Edge) (w : Work) → AlikeEdges es ds → Line p D Given Called xs Go me es w → Line p D Given Called xs Go me ds w
  alike_line xs Go me es ds w alike is = record {
    leads = all_at (λ (e : Edge). target_of p D e.link ≡ Some e.peer.node) ds (λ i d at. (let e = alike.1 i d at in
        let was : target_of p D e.0.link ≡ Some e.0.peer.node = all_numbered (λ (x : Edge). target_of p D x.link ≡ Some x.peer.node) es i e.0 is.leads e.1 in
        ap (target_of p D) e.3 ∙ (was ∙ ap (λ (b : BranchId). Some b.node) (sym e.2))));
    opens = λ goes. subst (λ n. OpensLow p D Given Called xs me (n + more p D Given Called w.going)) (sym alike.0) (is.opens goes);
    waits = λ g going. by_errand g.errand g.waits (is.waits g going);
  }
    where
      by : (s goes : Stmt) (waits : Waits) → WaitsSo p D Given Called xs me es w s goes waits → WaitsSo p D Given Called xs me ds w s goes waits
      by s goes (waiting.ForReply i) was = λ d at.
          (let e = alike.1 i d at in let so = was e.0 e.1 in
          (subst (λ b. Called me b (call_at w i) w.came.last_call s goes) (sym e.2) so.0, subst (λ b. SentSo p D Given Called xs me b (call_at w i) (Some goes)) (sym e.2) so.1))
      by s goes (waiting.ForOpened link) was = (was.0, was.1, was.2, subst (λ n. OpensTo p D Given Called xs me (n + 1) link) (sym alike.0) was.3)

      by_errand : (errand : Errand) (waits : Waits) → ErrandSo p D Given Called xs me es w errand waits → ErrandSo p D Given Called xs me ds w errand waits
      by_errand (errands.Statement goes given) waits was = (was.0, was.1, by was.0 goes waits was.2)
      by_errand (errands.GoBack step) (waiting.ForReply i) was = (was.0, (λ d at. (let e = alike.1 i d at in subst (λ b. SentSo p D Given Called xs me b (call_at w i) None) (sym e.2) (was.1 e.0 e.1))))
      by_errand (errands.GoBack step) (waiting.ForOpened link) was = absurd was.1

  -- one that waits for nothing
  pub rest_line : (xs says : List Post) (Go : Type 0) (me : BranchId) (es ds : List Edge) (w v : Work) → AlikeEdges es ds → v.going ≡ None → more p D Given Called w.going ≡ 0 → Quiet me says → Line p D Given Called xs Go me es w → Line p D Given Called (xs ++ says) Go me ds v
  rest_line xs says Go me es ds w v alike none still quiet is =
      alike_line (xs ++ says) Go me es ds v alike (record {
        leads = is.leads;
        opens = λ goes. subst (OpensLow p D Given Called (xs ++ says) me) (let it : length es + more p D Given Called w.going ≡ length es + more p D Given Called v.going = (let one : more p D Given Called v.going ≡ 0 = ap (more p D Given Called) none in omega (arith, one, still)) in it)
            (low_more p D Given Called xs says me (length es + more p D Given Called w.going) quiet (is.opens goes));
        waits = λ g some. absurd (cc (some, none));
      })

  pub exec_low : (ss : List Session) (y : Branch) (i : ℕ) (errand : Errand) (o : Option BranchId) (me : BranchId) (n : ℕ) → OpensLow p D Given Called (exec_to ss y i errand o) me n
  exec_low ss y i errand None me n = tt
  exec_low ss y i errand (Some c) me n = ((λ from edge root depth read_at is. absurd cc), tt)

  brings_errand : (ss : List Session) (y : Branch) (i : ℕ) (errand : Errand) → stmt_of_task (task_for ss y i errand) ≡ stmt_of_errand errand
  brings_errand ss y i (errands.Statement s given) = refl
  brings_errand ss y i (errands.GoBack step) = refl

  pub exec_sent : (ss : List Session) (y : Branch) (i : ℕ) (errand : Errand) (o : Option BranchId) (me c : BranchId) (n : ℕ) → SentSo p D Given Called (exec_to ss y i errand o) me c n (stmt_of_errand errand)
  exec_sent ss y i errand None me c n = tt
  exec_sent ss y i errand (Some d) me c n =
      ((λ from to call task is at. (let both : kinds.Exec (next_call y.work i) (task_for ss y i errand) ≡ kinds.Exec call task = is in let one : task_for ss y i errand ≡ task = cc in ap stmt_of_task (sym one) ∙ brings_errand ss y i errand)), tt)

  pub waits_zero : (i : ℕ) (o : Option Going) → WaitsFor i o → more p D Given Called o ≡ 0
  waits_zero i None waits = absurd waits
  waits_zero i (Some g) waits = ap (more_by p D Given Called) waits
