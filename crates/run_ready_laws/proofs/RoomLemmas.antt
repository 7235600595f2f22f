-- A statement goes over a link that is used for the first time only where there is room for one more branch. A call over an edge takes its room.
use Rattle.std.proofs.Common.{◌≡◌, ◌≢◌, ℕ, ◌+◌, ◌≤◌, ◌==◌, ◌||◌, Bool, true, false, if◌then◌else◌, List, [], ◌++◌, length, Option, Some, None, inl, inr, refl, sym, ap, subst, ◌∙◌, arith}
use Rattle.std.specs.Prelude.{nat_le}
use Rattle.std.proofs.lemmas.Bool.Decides.{nat_tests}
use Rattle.dtx_values.specs.Limits.{branch_limit, depth_limit}
use Rattle.session_tree.specs.Live.{edge_by_link}
use Rattle.session_tree.specs.Tree.{room}
use Rattle.node_rules.specs.Data.{Stmt, Refusal, Task, BranchId, Edge, Live, Place, Durable, Post}
use Rattle.node_rules.specs.Data.kinds
use Rattle.node_rules.specs.declared.work.Waits.TheVariants as waiting
use Rattle.node_rules.specs.declared.work.Going.{Going}
use Rattle.node_rules.specs.declared.work.Work.{Work}
use Rattle.node_rules.specs.Refusals.{ora, dtx}
use Rattle.node_rules.specs.Words.{numbered}
use Rattle.node_rules.specs.NodeState.{post}
use Rattle.node_rules.specs.Names.{Named, Unknown, A_table, Behind, Nowhere_to, Through, named_by, ref_of, target_of, way_edge, way_target, way_named, way_of}
use Rattle.run_base_laws.specs.InTurnLaws.{newest_exec, WaitsFor, call_at}
use Rattle.run_base_laws.proofs.TurnEventLemmas.{cases_nat}
use Rattle.run_ready_laws.proofs.SentLemmas.{sent_split, sent_more, room_of, GivesRoom, TellsCount, Gave, Told, gave_low, Base, base_more, AllFit, told_gave}
use Rattle.run_ready_laws.proofs.CountLemmas.{Awaits, ParentFits}
use Rattle.node_rules.proofs.WayLemmas.{way_by_name}

-- ---- links

new_room : (deep wide full : Bool) (node : ℕ) (link table : List ℕ) (a b : Refusal) (n : ℕ) (k t : List ℕ) → (if deep || wide then Nowhere_to a else (if full then Nowhere_to b else Through node link table)) ≡ Through n k t → wide ≡ false
new_room true wide full node link table a b n k t is = absurd cc
new_room false true full node link table a b n k t is = absurd cc
new_room false false full node link table a b n k t is = refl

edge_room : (p : Place) (l : Live) (given node : ℕ) (link table : List ℕ) (o : Option ℕ) (n : ℕ) (k t : List ℕ) → way_edge p l given node link table o ≡ Through n k t → (room l given == 0) ≡ false
edge_room p l given node link table (Some i) n k t is = absurd cc
edge_room p l given node link table None n k t is = new_room (nat_le depth_limit l.depth) (room l given == 0) (nat_le p.links (length l.edges)) node link table (dtx 2 []) (ora 2020 []) n k t is

target_room : (p : Place) (l : Live) (given : ℕ) (link table : List ℕ) (o : Option ℕ) (n : ℕ) (k t : List ℕ) → way_target p l given link table o ≡ Through n k t → (room l given == 0) ≡ false
target_room p l given link table None n k t is = absurd cc
target_room p l given link table (Some node) n k t is = edge_room p l given node link table (edge_by_link l link) n k t is

named_room : (p : Place) (d : Durable) (l : Live) (given : ℕ) (m : Named) (n : ℕ) (k t : List ℕ) → way_named p d l given m ≡ Through n k t → (room l given == 0) ≡ false
named_room p d l given Unknown n k t is = absurd cc
named_room p d l given (A_table table) n k t is = absurd cc
named_room p d l given (Behind link table) n k t is = target_room p l given link table (target_of p d link) n k t is

some_room : (r : ℕ) → (r == 0) ≡ false → 1 ≤ r
some_room r is = grind (arith, nat_tests, is)

pub way_room : (p : Place) (d : Durable) (l : Live) (given : ℕ) (s : Stmt) (n : ℕ) (k t : List ℕ) → way_of p d l given s ≡ Through n k t → 1 ≤ room l given
way_room p d l given s n k t is = some_room (room l given) (named_room p d l given (named_by d (ref_of s)) n k t (way_by_name p d l given s (Through n k t) tt is))

-- ---- calls

-- a call with a new number
pub new_awaits : (said : List Post) → AllFit said said → (me c : BranchId) (call v : ℕ) (task : Task) → newest_exec said me c + 1 ≡ call → Base said c me call v
    → Awaits (said ++ post me c (kinds.Exec call task)) me c call v (room_of task)
new_awaits said all me c call v task next base = record {
  base = base_more said (post me c (kinds.Exec call task)) c me call v base;
  rooms = λ x gave. elim (sent_split (GivesRoom call x) said (post me c (kinds.Exec call task)) me c gave) [ inl old ↦ absurd (none x old) | inr new ↦ own x new ];
  replies = λ x told. elim (sent_split (TellsCount call x) said (post me c (kinds.Exec call task)) c me told) [
    | inl old ↦ (let it = (told_gave said said all c me call x old).1 in absurd (none it.0 it.1))
    | inr new ↦ absurd (no_reply x new)
  ];
}
  where
    none : (x : ℕ) → Gave said me c call x → ⊥
    none x old = let low : call ≤ newest_exec said me c = gave_low said me c call x old in omega (arith, low, next)

    own : (x : ℕ) → Gave (post me c (kinds.Exec call task)) me c call x → x ≡ room_of task
    own x (inl here) = sym here.2.1
    own x (inr never) = absurd never

    no_reply : (x : ℕ) → Told (post me c (kinds.Exec call task)) c me call x → ⊥
    no_reply x (inl here) = here.2
    no_reply x (inr never) = never

-- a branch that calls over an edge
pub calls_parent : (said says : List Post) (G : Type 0) (me : BranchId) (n r : ℕ) (es : List Edge) (w u : Work) (i : ℕ) (g : Going) → u.going ≡ Some g → g.waits ≡ waiting.ForReply i → n + r ≤ branch_limit
    → ((e : Edge) → numbered es i ≡ Some e → Awaits (said ++ says) me e.peer (call_at u i) e.count r) → ((e : Edge) → numbered es i ≡ Some e → 1 ≤ call_at u i) → ((j : ℕ) → i ≢ j → call_at u j ≡ call_at w j)
    → (G → (j : ℕ) (e : Edge) → i ≢ j → numbered es j ≡ Some e → Told said e.peer me (call_at w j) e.count) → ((j : ℕ) (e : Edge) → i ≢ j → numbered es j ≡ Some e → 1 ≤ call_at w j)
    → ParentFits (said ++ says) G me n r es u
calls_parent said says G me n r es w u i g going over few awaits called_now before knows called = record {
  held = λ goes j e at. elim (cases_nat i j) [
    | inl here ↦ inl (waits_it j here u.going going)
    | inr other ↦ inr (sent_more (TellsCount (call_at u j) e.count) said says e.peer me (subst (λ m. Told said e.peer me m e.count) (sym (before j other)) (knows goes j e other at)))
  ];
  waits = λ j e at for. (let here : i ≡ j = one_at j u.going going for in subst (λ m. Awaits (said ++ says) me e.peer (call_at u m) e.count r) here (awaits e (subst (λ m. numbered es m ≡ Some e) (sym here) at)));
  called = λ j e at. elim (cases_nat i j) [
    | inl here ↦ subst (λ m. 1 ≤ call_at u m) here (called_now e (subst (λ m. numbered es m ≡ Some e) (sym here) at))
    | inr other ↦ subst (λ m. 1 ≤ m) (sym (before j other)) (called j e other at)
  ];
  few = few;
  opens = λ h link at opened. absurd (no_link h link at opened);
}
  where
    waits_it : (j : ℕ) → i ≡ j → (o : Option Going) → o ≡ Some g → WaitsFor j o
    waits_it j here None is = absurd cc
    waits_it j here (Some h) is = let it : h ≡ g = cc in subst (λ (y : Going). y.waits ≡ waiting.ForReply j) (sym it) (over ∙ ap waiting.ForReply here)

    one_at : (j : ℕ) (o : Option Going) → o ≡ Some g → WaitsFor j o → i ≡ j
    one_at j None is for = absurd cc
    one_at j (Some h) is for = let it : h ≡ g = cc in let two : waiting.ForReply i ≡ waiting.ForReply j = sym over ∙ subst (λ (y : Going). y.waits ≡ waiting.ForReply j) it for in cc

    no_link : (h : Going) (link : List ℕ) → u.going ≡ Some h → h.waits ≡ waiting.ForOpened link → ⊥
    no_link h link at opened =
        let it : Some g ≡ Some h = sym going ∙ at in
        let here : g ≡ h = cc in
        let is : g.waits ≡ waiting.ForOpened link = subst (λ (y : Going). y.waits ≡ waiting.ForOpened link) (sym here) opened in
        absurd (cc (over, is))
