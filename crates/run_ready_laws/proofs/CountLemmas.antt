-- What a live branch knows of the branches below it, and what room it has left: it has no more than its parent knew and gave room for.
use Rattle.std.proofs.Common.{◌≡◌, ◌≢◌, ℕ, zero, suc, ◌+◌, ◌-◌, ◌≤◌, ◌⊎◌, if◌then◌else◌, List, [], ◌∷◌, ◌++◌, map, is_none, Option, Some, None, inl, inr, refl, sym, ap, subst, arith}
use Rattle.std.specs.Prelude.{sum_by}
use Rattle.std.proofs.lemmas.List.Sums.{sum_by-cons, sum_by_push}
use Rattle.dtx_values.specs.Limits.{branch_limit}
use Rattle.link_session.specs.declared.calls.Calls.{Calls}
use Rattle.node_rules.specs.Data.{BranchId, Edge, Marks, Post, ReplyFields}
use Rattle.node_rules.specs.declared.work.Errand.{Errand}
use Rattle.node_rules.specs.declared.work.Errand.TheVariants as errands
use Rattle.node_rules.specs.declared.work.Waits.TheVariants as waiting
use Rattle.node_rules.specs.declared.work.Going.{Going}
use Rattle.node_rules.specs.declared.work.Work.{Work}
use Rattle.node_rules.specs.declared.session.Session.{Session}
use Rattle.node_rules.specs.Words.{numbered, set_numbered}
use Rattle.node_rules.specs.NodeState.{Branch}
use Rattle.node_rules.specs.Calls.{task_for, less_room}
use Rattle.session_tree.specs.Tree.{count}
use Rattle.run_base_laws.specs.InTurnLaws.{newest_exec, newest_reply, WaitsFor, call_at}
use Rattle.run_base_laws.proofs.CallTurnLemmas.{Silent}
use Rattle.run_ready_laws.proofs.SentLemmas.{sent_split, sent_more, room_of, GivesRoom, TellsCount, Gave, Told, gave_low, told_low, Base, base_more, base_old, AllFit, AllNew, told_gave, told_new}

-- ---- sums

-- the branches below these edges, as far as is known
abbrev pub counts : List Edge → ℕ
counts es = sum_by (λ e. e.count) es

pub set_counts : (es : List Edge) (i : ℕ) (e y : Edge) → numbered es i ≡ Some e → counts (set_numbered es i y) + e.count ≡ counts es + y.count
set_counts es zero e y at = absurd cc
set_counts [] (suc i) e y at = absurd cc
set_counts (x ∷ es) (suc zero) e y at =
    let it : Some x ≡ Some e = at in
    let here : x ≡ e = cc in
    let same : x.count ≡ e.count = ap (λ (z : Edge). z.count) here in
    let one : counts (set_numbered (x ∷ es) (suc zero) y) ≡ y.count + counts es = sum_by-cons (λ (z : Edge). z.count) y es in
    let two : counts (x ∷ es) ≡ x.count + counts es = sum_by-cons (λ (z : Edge). z.count) x es in
    omega (arith, one, two, same)
set_counts (x ∷ es) (suc (suc i)) e y at =
    let later : counts (set_numbered es (suc i) y) + e.count ≡ counts es + y.count = set_counts es (suc i) e y at in
    let one : counts (set_numbered (x ∷ es) (suc (suc i)) y) ≡ x.count + counts (set_numbered es (suc i) y) = sum_by-cons (λ (z : Edge). z.count) x (set_numbered es (suc i) y) in
    let two : counts (x ∷ es) ≡ x.count + counts es = sum_by-cons (λ (z : Edge). z.count) x es in
    omega (arith, one, two, later)

pub edge_counts : (es : List Edge) (i : ℕ) (e : Edge) → numbered es i ≡ Some e → e.count ≤ counts es
edge_counts es zero e at = absurd cc
edge_counts [] (suc i) e at = absurd cc
edge_counts (x ∷ es) (suc zero) e at =
    let it : Some x ≡ Some e = at in
    let here : x ≡ e = cc in
    let same : x.count ≡ e.count = ap (λ (z : Edge). z.count) here in
    let two : counts (x ∷ es) ≡ x.count + counts es = sum_by-cons (λ (z : Edge). z.count) x es in
    omega (arith, two, same)
edge_counts (x ∷ es) (suc (suc i)) e at =
    let later : e.count ≤ counts es = edge_counts es (suc i) e at in
    let two : counts (x ∷ es) ≡ x.count + counts es = sum_by-cons (λ (z : Edge). z.count) x es in
    omega (arith, two, later)

pub map_counts : (f : Edge → Edge) → ((e : Edge) → (f e).count ≡ e.count) → (es : List Edge) → counts (map f es) ≡ counts es
map_counts f same [] = refl
map_counts f same (x ∷ es) =
    let later : counts (map f es) ≡ counts es = map_counts f same es in
    let first : (f x).count ≡ x.count = same x in
    let one : counts (map f (x ∷ es)) ≡ (f x).count + counts (map f es) = sum_by-cons (λ (z : Edge). z.count) (f x) (map f es) in
    let two : counts (x ∷ es) ≡ x.count + counts es = sum_by-cons (λ (z : Edge). z.count) x es in
    omega (arith, one, two, later, first)

pub last_counts : (es : List Edge) (e : Edge) → counts (es ++ e ∷ []) ≡ counts es + e.count
last_counts es e = sum_by_push (λ (z : Edge). z.count) es e

-- ---- room

-- the room of a root is what its tree may still get, that of another branch what it was given
abbrev pub room_by : Option BranchId → ℕ → ℕ → ℕ
room_by parent n given = if is_none parent then branch_limit - n else given

-- and for what is under way: a branch that goes back opens no child
abbrev pub room_left : Option BranchId → ℕ → Errand → ℕ
room_left parent n (errands.Statement s given) = room_by parent n given
room_left parent n (errands.GoBack step) = 0

-- the room that a branch has left for what is under way
abbrev pub spare : Option BranchId → ℕ → Option Going → ℕ
spare parent n None = 0
spare parent n (Some g) = room_left parent n g.errand

pub root_few : (parent : Option BranchId) (n given : ℕ) → parent ≡ None → n ≤ branch_limit → n + room_by parent n given ≤ branch_limit
root_few None n given none few = omega (arith, few)
root_few (Some q) n given none few = absurd cc

pub below_room : (parent : Option BranchId) (q : BranchId) (n given : ℕ) → parent ≡ Some q → room_by parent n given ≡ given
below_room None q n given is = absurd cc
below_room (Some p) q n given is = refl

-- what goes over an edge takes that room along
pub task_room : (ss : List Session) (x : Branch) (i : ℕ) (errand : Errand) → room_of (task_for ss x i errand) ≡ room_left x.live.parent (count x.live) errand
task_room ss x i (errands.Statement s given) = refl
task_room ss x i (errands.GoBack step) = refl

-- a child more takes one from the room
pub one_less : (parent : Option BranchId) (n : ℕ) (errand : Errand) → 1 ≤ room_left parent n errand → (n + 1) + room_left parent (n + 1) (less_room errand) ≤ n + room_left parent n errand
one_less None n (errands.Statement s given) some = omega (arith, some)
one_less (Some q) n (errands.Statement s given) some = omega (arith, some)
one_less parent n (errands.GoBack step) some = absurd (omega (arith, some))

-- ---- branches

-- What a branch below a root has and told: each Reply to its last call told all that it has, once it waits for nothing, and so does the one
-- that it keeps. It has no more than its parent knew before that call, and the call had room for.
pub record ChildFits (said : List Post) (me : BranchId) (parent : Option BranchId) (n sp : ℕ) (came : Calls) (going : Option Going) : Type 0 where
  pub told : parent ≢ None → 1 ≤ came.last_call → going ≡ None → (q : BranchId) (v : ℕ) → Told said me q came.last_call v → v ≡ n
  pub kept : (t : ReplyFields) → came.reply ≡ Some t → t.count ≡ n
  pub zero_calls : parent ≢ None → came.last_call ≡ 0 → n ≡ 1
  pub given : (q : BranchId) → parent ≡ Some q → 1 ≤ came.last_call → (r : ℕ) × Gave said q me came.last_call r × ((v : ℕ) → Base said me q came.last_call v → n + sp ≤ v + r)

-- What a branch knows of the child whose Reply it waits for: what that had before the call, the room of the call, and that no Reply tells of more.
pub record Awaits (said : List Post) (me c : BranchId) (k v sp : ℕ) : Type 0 where
  pub base : Base said c me k v
  pub rooms : (r : ℕ) → Gave said me c k r → r ≡ sp
  pub replies : (x : ℕ) → Told said c me k x → x ≤ v + sp

-- What a branch knows of its children, and the room that it has left.
pub record ParentFits (said : List Post) (goes_on : Type 0) (me : BranchId) (n sp : ℕ) (edges : List Edge) (w : Work) : Type 0 where
  pub held : goes_on → (i : ℕ) (e : Edge) → numbered edges i ≡ Some e → WaitsFor i w.going ⊎ Told said e.peer me (call_at w i) e.count
  pub waits : (i : ℕ) (e : Edge) → numbered edges i ≡ Some e → WaitsFor i w.going → Awaits said me e.peer (call_at w i) e.count sp
  pub called : (i : ℕ) (e : Edge) → numbered edges i ≡ Some e → 1 ≤ call_at w i
  pub few : n + sp ≤ branch_limit
  pub opens : (g : Going) (link : List ℕ) → w.going ≡ Some g → g.waits ≡ waiting.ForOpened link → 1 ≤ sp

-- before a call there is one branch at least
pub base_some : (said : List Post) → AllFit said said → (c a : BranchId) (k v : ℕ) → Base said c a k v → 1 ≤ v
base_some said all c a k v (inl first) = omega (arith, first.1)
base_some said all c a k v (inr later) = (told_gave said said all c a later.0 v later.3).0

-- and the call has a number
pub base_number : (said : List Post) (c a : BranchId) (k v : ℕ) → Base said c a k v → 1 ≤ k
base_number said c a k v (inl first) = omega (arith, first.0)
base_number said c a k v (inr later) = omega (arith, later.1)

-- ---- more messages

module _ (said says : List Post) where
  pub child_more : (me : BranchId) (parent : Option BranchId) (n sp : ℕ) (came : Calls) (going : Option Going) → newest_reply says me ≡ 0 → ChildFits said me parent n sp came going → ChildFits (said ++ says) me parent n sp came going
  child_more me parent n sp came going none is = record {
    told = λ below some free q v tells. elim (sent_split (TellsCount came.last_call v) said says me q tells) [
      | inl old ↦ is.told below some free q v old
      | inr new ↦ (let low : came.last_call ≤ newest_reply says me = told_low says me q came.last_call v new in absurd (omega (arith, low, none, some)))
    ];
    kept = is.kept;
    zero_calls = is.zero_calls;
    given = λ q above some. (let it = is.given q above some in (
      it.0,
      sent_more (GivesRoom came.last_call it.0) said says q me it.1,
      (λ v base. it.2 v (base_old said says me q came.last_call v
          (λ j last low new. (let few : j ≤ newest_reply says me = told_low says me q j v new in absurd (omega (arith, few, none, low)))) base)),
    ));
  }

  pub parent_more : (G : Type 0) (me : BranchId) (n sp : ℕ) (es : List Edge) (w : Work) → AllNew said says → Silent me says → ParentFits said G me n sp es w → ParentFits (said ++ says) G me n sp es w
  parent_more G me n sp es w all silent is = record {
    held = λ goes i e at. elim (is.held goes i e at) [ inl waits ↦ inl waits | inr told ↦ inr (sent_more (TellsCount (call_at w i) e.count) said says e.peer me told) ];
    waits = waits;
    called = is.called;
    few = is.few;
    opens = is.opens;
  }
    where
      waits : (i : ℕ) (e : Edge) → numbered es i ≡ Some e → WaitsFor i w.going → Awaits (said ++ says) me e.peer (call_at w i) e.count sp
      waits i e at for =
          let was : Awaits said me e.peer (call_at w i) e.count sp = is.waits i e at for in record {
            base = base_more said says e.peer me (call_at w i) e.count was.base;
            rooms = λ r gave. elim (sent_split (GivesRoom (call_at w i) r) said says me e.peer gave) [
              | inl old ↦ was.rooms r old
              | inr new ↦ (let low : call_at w i ≤ newest_exec says me e.peer = gave_low says me e.peer (call_at w i) r new in absurd (omega (arith, low, silent.calls e.peer, is.called i e at)))
            ];
            replies = λ x told. elim (sent_split (TellsCount (call_at w i) x) said says e.peer me told) [
              | inl old ↦ was.replies x old
              | inr new ↦ (let it = told_new said says all e.peer me (call_at w i) x new in
                  let room : it.0 ≡ sp = was.rooms it.0 it.1 in
                  let few : x ≤ e.count + it.0 = it.2 e.count was.base in
                  omega (arith, few, room))
            ];
          }

-- ---- a call that is taken

-- what a branch that waits for nothing has is what its parent knows before the next call
pub base_is : (said : List Post) (me q : BranchId) (parent : Option BranchId) (n sp : ℕ) (came : Calls) (going : Option Going) → ChildFits said me parent n sp came going → parent ≢ None → going ≡ None
    → (call v : ℕ) → call ≡ came.last_call + 1 → Base said me q call v → v ≡ n
base_is said me q parent n sp came going fits below free call v next (inl first) =
    let none : came.last_call ≡ 0 = omega (arith, next, first.0) in
    let one : n ≡ 1 = fits.zero_calls below none in
    omega (arith, one, first.1)
base_is said me q parent n sp came going fits below free call v next (inr later) =
    let last : later.0 ≡ came.last_call = omega (arith, next, later.1) in
    fits.told below (omega (arith, last, later.2)) free q v (subst (λ j. Told said me q j v) last later.3)

-- A call is under way at a branch, with so much room left.
pub record Under (said : List Post) (me : BranchId) (parent : Option BranchId) (n r : ℕ) (came : Calls) : Type 0 where
  pub unanswered : came.reply ≡ None
  pub owes : parent ≢ None → newest_reply said me + 1 ≤ came.last_call
  pub given : (q : BranchId) → parent ≡ Some q → (x : ℕ) × Gave said q me came.last_call x × ((v : ℕ) → Base said me q came.last_call v → n + r ≤ v + x)
  pub few : n + r ≤ branch_limit

-- one that waits
pub waits_child : (said says : List Post) (me : BranchId) (parent : Option BranchId) (n r : ℕ) (came : Calls) (g : Going) → newest_reply says me ≡ 0 → Under said me parent n r came → ChildFits (said ++ says) me parent n r came (Some g)
waits_child said says me parent n r came g silent is = record {
  told = λ below some free. absurd cc;
  kept = λ t kept. absurd (let none : came.reply ≡ None = is.unanswered in cc (none, kept));
  zero_calls = λ below none. absurd (omega (arith, is.owes below, none));
  given = λ q above some. (let it = is.given q above in (
    it.0,
    sent_more (GivesRoom came.last_call it.0) said says q me it.1,
    (λ v base. it.2 v (base_old said says me q came.last_call v
        (λ j last low new. (let few : j ≤ newest_reply says me = told_low says me q j v new in absurd (omega (arith, few, silent, low)))) base)),
  ));
}

-- one that answers: of its messages each Reply has the number of its call, and tells all that it has
pub answers_child : (said says : List Post) (me : BranchId) (parent : Option BranchId) (n r : ℕ) (came : Calls) (reply : Option ReplyFields)
    → ((q : BranchId) (j v : ℕ) → Told says me q j v → (j ≡ came.last_call) × (v ≡ n)) → ((t : ReplyFields) → reply ≡ Some t → t.count ≡ n) → Under said me parent n r came
    → ChildFits (said ++ says) me parent n 0 (record came { reply = reply }) None
answers_child said says me parent n r came reply tells kept is = record {
  told = λ below some free q v told. elim (sent_split (TellsCount came.last_call v) said says me q told) [
    | inl old ↦ (let low : came.last_call ≤ newest_reply said me = told_low said me q came.last_call v old in absurd (omega (arith, low, is.owes below)))
    | inr new ↦ (tells q came.last_call v new).1
  ];
  kept = kept;
  zero_calls = λ below none. absurd (omega (arith, is.owes below, none));
  given = λ q above some. (let it = is.given q above in (
    it.0,
    sent_more (GivesRoom came.last_call it.0) said says q me it.1,
    (λ v base. (let few : n + r ≤ v + it.0 = it.2 v (base_old said says me q came.last_call v
        (λ j last low new. (let same : j ≡ came.last_call = (tells q j v new).0 in absurd (omega (arith, same, last)))) base) in omega (arith, few))),
  ));
}

-- ---- children

-- what a branch knows of all its children
abbrev pub Knows : List Post → Type 0 → BranchId → List Edge → Work → Type 0
Knows said G me es w = G → (i : ℕ) (e : Edge) → numbered es i ≡ Some e → Told said e.peer me (call_at w i) e.count

abbrev pub Called : List Edge → Work → Type 0
Called es w = (i : ℕ) (e : Edge) → numbered es i ≡ Some e → 1 ≤ call_at w i

-- one that waits for nothing
pub free_parent : (said says : List Post) (G : Type 0) (me : BranchId) (n r : ℕ) (es : List Edge) (w : Work) → n + r ≤ branch_limit → Knows said G me es w → Called es w → w.going ≡ None → ParentFits (said ++ says) G me n 0 es w
free_parent said says G me n r es w few knows called free = record {
  held = λ goes i e at. inr (sent_more (TellsCount (call_at w i) e.count) said says e.peer me (knows goes i e at));
  waits = λ i e at waits. absurd (no_wait i w.going free waits);
  called = called;
  few = omega (arith, few);
  opens = λ g link going. absurd (cc (free, going));
}
  where
    no_wait : (i : ℕ) (o : Option Going) → o ≡ None → WaitsFor i o → ⊥
    no_wait i None is waits = waits
    no_wait i (Some g) is waits = absurd cc

-- one that waits for a child to be opened
pub opens_parent : (said says : List Post) (G : Type 0) (me : BranchId) (n r : ℕ) (es : List Edge) (w : Work) (g : Going) (link : List ℕ) → w.going ≡ Some g → g.waits ≡ waiting.ForOpened link → 1 ≤ r → n + r ≤ branch_limit
    → Knows said G me es w → Called es w → ParentFits (said ++ says) G me n r es w
opens_parent said says G me n r es w g link going waits some few knows called = record {
  held = λ goes i e at. inr (sent_more (TellsCount (call_at w i) e.count) said says e.peer me (knows goes i e at));
  waits = λ i e at for. absurd (no_wait i w.going going for);
  called = called;
  few = few;
  opens = λ h to is for. some;
}
  where
    no_wait : (i : ℕ) (o : Option Going) → o ≡ Some g → WaitsFor i o → ⊥
    no_wait i None is for = for
    no_wait i (Some h) is for = let it : h ≡ g = cc in let here : g.waits ≡ waiting.ForReply i = subst (λ (y : Going). y.waits ≡ waiting.ForReply i) it for in absurd (cc (waits, here))

-- other marks change nothing of it
pub marked_parent : (said : List Post) (G : Type 0) (me : BranchId) (n sp : ℕ) (es : List Edge) (w : Work) (m : Marks) → ParentFits said G me n sp es w → ParentFits said G me n sp es (record w { marks = m })
marked_parent said G me n sp es w m is = record { held = is.held; waits = is.waits; called = is.called; few = is.few; opens = is.opens }

-- ---- edges with the same children and counts

numbered_back : (f : Edge → Edge) (es : List Edge) (i : ℕ) (y : Edge) → numbered (map f es) i ≡ Some y → (e : Edge) × (numbered es i ≡ Some e) × (f e ≡ y)
numbered_back f es zero y at = absurd cc
numbered_back f [] (suc i) y at = absurd cc
numbered_back f (e ∷ es) (suc zero) y at = let it : Some (f e) ≡ Some y = at in (e, refl, (let here : f e ≡ y = cc in here))
numbered_back f (e ∷ es) (suc (suc i)) y at = numbered_back f es (suc i) y at

pub mapped_parent : (said : List Post) (G : Type 0) (me : BranchId) (n sp : ℕ) (es : List Edge) (w : Work) (f : Edge → Edge) → ((e : Edge) → ((f e).peer ≡ e.peer) × ((f e).count ≡ e.count)) → ParentFits said G me n sp es w → ParentFits said G me n sp (map f es) w
mapped_parent said G me n sp es w f same is = record {
  held = λ goes i y at. (let b = numbered_back f es i y at in subst (λ z. WaitsFor i w.going ⊎ Told said z.peer me (call_at w i) z.count) b.2
      (elim (is.held goes i b.0 b.1) [
        | inl waits ↦ inl waits
        | inr told ↦ inr (subst (λ c. Told said c me (call_at w i) (f b.0).count) (sym (same b.0).0) (subst (λ v. Told said b.0.peer me (call_at w i) v) (sym (same b.0).1) told))
      ]));
  waits = λ i y at for. (let b = numbered_back f es i y at in subst (λ z. Awaits said me z.peer (call_at w i) z.count sp) b.2
      (subst (λ c. Awaits said me c (call_at w i) (f b.0).count sp) (sym (same b.0).0) (subst (λ v. Awaits said me b.0.peer (call_at w i) v sp) (sym (same b.0).1) (is.waits i b.0 b.1 for))));
  called = λ i y at. (let b = numbered_back f es i y at in is.called i b.0 b.1);
  few = is.few;
  opens = is.opens;
}
