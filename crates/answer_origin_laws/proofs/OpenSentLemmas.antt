-- A branch below another began with an Open of its parent that was sent to its node.
use Rattle.std.proofs.Common.{◌≡◌, ℕ, zero, suc, Bool, true, false, if◌then◌else◌, find, List, [], ◌∷◌, ◌++◌, Option, Some, None, refl, sym, ap, subst, ◌∙◌}
use Rattle.std.specs.List.{AllByRecursion}
use Rattle.std.proofs.lemmas.Bool.{cond_both}
use Rattle.node_rules.specs.Data.{BranchId, Kind, Opening, Place, Input, Post, Stmt}
use Rattle.node_rules.specs.Data.inputs
use Rattle.node_rules.specs.Data.kinds
use Rattle.node_rules.specs.Words.{numbered}
use Rattle.node_rules.specs.Inputs.{Came}
use Rattle.node_rules.specs.NodeState.{NodeState}
use Rattle.node_rules.specs.Calls.{is_opening, strength_of}
use Rattle.node_rules.specs.Client.{new_root}
use Rattle.node_rules.specs.Sessions.{session_at}
use Rattle.run_rules.specs.Births.{Born, born_id, root_born, read_at_by, roots_by, births_by_call, births_by_open, births_by_kind, births_by, births_at, births_after, births_from, births_of}
use Rattle.run_base_laws.specs.BirthLaws.{Began, IsChildAt, GoesSo}
use Rattle.run_rules.specs.Data.{Took, Turn, Happening}
use Rattle.run_rules.specs.Data.happenings
use Rattle.run_rules.specs.Facts.{Facts, first_facts, place_at, node_at}
use Rattle.run_base_laws.specs.InTurnLaws.{said_in}
use Rattle.run_rules.specs.Lawful.{Comes, History, IsLawfulRun}
use Rattle.run_rules.specs.Runs.{begins_transaction}
use Rattle.run_base_laws.proofs.BirthRunLemmas.{messages_are_of_neighbors}
use Rattle.run_base_laws.proofs.BirthsStandLemmas.{came_so}
use Rattle.run_base_laws.proofs.InTurnRunLemmas.{came_here}
use Rattle.run_rules.proofs.ListLemmas.{all_append, all_weaker}
use Rattle.run_base_laws.proofs.OwnLemmas.{all_found}
use Rattle.run_base_laws.proofs.SaidPostLemmas.{posts_of, said_after}
use Rattle.tree_laws.proofs.PrefixLemmas.{so_far, f_at, one_on, births_join}
use Rattle.tree_laws.proofs.TimeLemmas.{Part, part_lawful, may_of, keep_on}
use Rattle.answer_origin_laws.proofs.SentLemmas.{came_sent}
use Rattle.answer_origin_laws.proofs.TurnTaleLemmas as tales

-- an item stays where it is
pub numbered_more : {A : Type 0} (xs ys : List A) (n : ℕ) (x : A) → numbered xs n ≡ Some x → numbered (xs ++ ys) n ≡ Some x
numbered_more xs ys zero x is = absurd cc
numbered_more [] ys (suc n) x is = absurd cc
numbered_more (y ∷ xs) ys (suc zero) x is = is
numbered_more (y ∷ xs) ys (suc (suc n)) x is = numbered_more xs ys (suc n) x is

-- An Open of a branch over an edge was sent to a node.
pub record IsOpenTo (said : List Post) (parent : BranchId) (edge node : ℕ) : Type 0 where
  pub number : ℕ
  pub sent : Post
  pub at : numbered said number ≡ Some sent
  pub from : sent.from ≡ parent
  pub root : BranchId
  pub depth : ℕ
  pub read_at : Option ℕ
  pub kind : sent.kind ≡ kinds.Open edge root depth read_at
  pub to : sent.to.node ≡ node

-- a branch below another was opened over its edge, at its node
abbrev pub WasOpened : List Post → Born → Type 0
WasOpened said x = (parent : BranchId) → x.parent ≡ Some parent → IsOpenTo said parent x.edge x.me.node

opened_more : (said more : List Post) (x : Born) → WasOpened said x → WasOpened (said ++ more) x
opened_more said more x was parent above =
    let is : IsOpenTo said parent x.edge x.me.node = was parent above in
    record { number = is.number; sent = is.sent; at = numbered_more said more is.number is.sent is.at; from = is.from; root = is.root; depth = is.depth; read_at = is.read_at; kind = is.kind; to = is.to }

module _ (f : Facts) (k : NodeState) (p : Place) (node : ℕ) (number : p.number ≡ node) (input : Input) (took : Option Took) (comes : Comes f k node input took) where
  abbrev P : Born → Type 0
  P = WasOpened (said_in f)

  root_opened : (b : BranchId) (strength : ℕ) (read_at : Option ℕ) → P (root_born b strength read_at)
  root_opened b strength read_at parent above = absurd cc

  by_roots : (n : ℕ) (read_at : Option ℕ) (o : Option BranchId) → AllByRecursion P (roots_by p k n read_at o)
  by_roots n read_at None = (root_opened (new_root p k n) (strength_of p k) read_at, tt)
  by_roots n read_at (Some root) = tt

  by_call : (n : ℕ) (s : Stmt) → AllByRecursion P (births_by_call p k n s)
  by_call n s = by (begins_transaction s)
    where
      by : (q : Bool) → AllByRecursion P (if q then roots_by p k n (read_at_by k.clock s) (session_at k.sessions n).root else [])
      by true = by_roots n (read_at_by k.clock s) (session_at k.sessions n).root
      by false = tt

  by_open : (from to : BranchId) (edge : ℕ) (root : BranchId) (depth : ℕ) (read_at : Option ℕ) → Came input from to (kinds.Open edge root depth read_at) → (o : Option Opening) → AllByRecursion P (births_by_open p k from edge root depth read_at o)
  by_open from to edge root depth read_at came None =
      let sent = came_sent f k node input took comes from to (kinds.Open edge root depth read_at) came in (
        (λ parent above. (let it : Some from ≡ Some parent = above in let one : from ≡ parent = cc in
            record { number = sent.0.number; sent = sent.2; at = sent.3; from = sent.4 ∙ one; root = root; depth = depth; read_at = read_at; kind = sent.5; to = ap (λ (b : BranchId). b.node) sent.6 ∙ (came_here f k node input took comes from to (kinds.Open edge root depth read_at) came ∙ sym number) })),
        tt,
      )
  by_open from to edge root depth read_at came (Some o) = tt

  by_kind : (from to : BranchId) (kind : Kind) → Came input from to kind → AllByRecursion P (births_by_kind p k from kind)
  by_kind from to (kinds.Open edge root depth read_at) came = by_open from to edge root depth read_at came (find (is_opening from edge) k.opens)
  by_kind from to _ came = tt

  by_input : (i : Input) → input ≡ i → AllByRecursion P (births_by p k i)
  by_input (inputs.Call n (Some s)) is = by_call n s
  by_input (inputs.Call n None) is = tt
  by_input (inputs.Message m) is = by_kind m.from m.to m.kind (record { scn = m.scn; is = is })
  by_input (inputs.GiveUp n) is = tt
  by_input inputs.Reco is = tt
  by_input inputs.Checkpoint is = tt

  pub births_opened : AllByRecursion P (births_by p k input)
  births_opened = by_input input refl

module _ (t : History) (whole : IsLawfulRun t) where
  abbrev AreOpened : List Happening → Type 0
  AreOpened hs = AllByRecursion (WasOpened (said_in (f_at t hs))) (births_of (so_far t hs))

  born_on : (hs : List Happening) (h : Happening) → births_of (so_far t (hs ++ h ∷ [])) ≡ births_after t.places (f_at t hs) h (births_of (so_far t hs))
  unfolding births_from
  born_on hs h = births_join t.places t.commands (first_facts t.places) hs (h ∷ []) []

  same_opened : (hs : List Happening) (h : Happening) → AreOpened hs → AllByRecursion (WasOpened (said_in (f_at t (hs ++ h ∷ [])))) (births_of (so_far t hs))
  same_opened hs h now =
      let said : said_in (f_at t (hs ++ h ∷ [])) ≡ said_in (f_at t hs) ++ posts_of h = ap said_in (one_on t hs h) ∙ said_after t.places t.commands (f_at t hs) h in
      subst (λ xs. AllByRecursion (WasOpened xs) (births_of (so_far t hs))) (sym said) (all_weaker (WasOpened (said_in (f_at t hs))) (WasOpened (said_in (f_at t hs) ++ posts_of h)) (opened_more (said_in (f_at t hs)) (posts_of h)) (births_of (so_far t hs)) now)

  opened_on : (hs : List Happening) (h : Happening) (rest : List Happening) → hs ++ h ∷ rest ≡ t.trace → AreOpened hs → AreOpened (hs ++ h ∷ [])
  opened_on hs (happenings.Turn u) rest is now =
      let may = may_of t whole hs (happenings.Turn u) rest is in
      let said : said_in (f_at t (hs ++ happenings.Turn u ∷ [])) ≡ said_in (f_at t hs) ++ posts_of (happenings.Turn u) = ap said_in (one_on t hs (happenings.Turn u)) ∙ said_after t.places t.commands (f_at t hs) (happenings.Turn u) in
      let new : AllByRecursion (WasOpened (said_in (f_at t hs))) (births_by (place_at t.places u.node) may.0 u.input)
      = births_opened (f_at t hs) may.0 (place_at t.places u.node) u.node (tales.number t whole hs u rest is) u.input u.took may.1.comes in
      let at : births_at (place_at t.places u.node) u.input (node_at (f_at t hs) u.node) ≡ births_by (place_at t.places u.node) may.0 u.input = ap (births_at (place_at t.places u.node) u.input) may.1.up in
      let later : AllByRecursion (WasOpened (said_in (f_at t (hs ++ happenings.Turn u ∷ [])))) (births_at (place_at t.places u.node) u.input (node_at (f_at t hs) u.node))
      = subst (AllByRecursion (WasOpened (said_in (f_at t (hs ++ happenings.Turn u ∷ []))))) (sym at) (subst (λ xs. AllByRecursion (WasOpened xs) (births_by (place_at t.places u.node) may.0 u.input)) (sym said)
      (all_weaker (WasOpened (said_in (f_at t hs))) (WasOpened (said_in (f_at t hs) ++ posts_of (happenings.Turn u))) (opened_more (said_in (f_at t hs)) (posts_of (happenings.Turn u))) (births_by (place_at t.places u.node) may.0 u.input) new)) in
      subst (AllByRecursion (WasOpened (said_in (f_at t (hs ++ happenings.Turn u ∷ []))))) (sym (born_on hs (happenings.Turn u))) (by (same_opened hs (happenings.Turn u) now) later)
    where
      by : AllByRecursion (WasOpened (said_in (f_at t (hs ++ happenings.Turn u ∷ [])))) (births_of (so_far t hs)) → AllByRecursion (WasOpened (said_in (f_at t (hs ++ happenings.Turn u ∷ [])))) (births_at (place_at t.places u.node) u.input (node_at (f_at t hs) u.node))
          → AllByRecursion (WasOpened (said_in (f_at t (hs ++ happenings.Turn u ∷ [])))) (if u.cut then births_of (so_far t hs) else births_of (so_far t hs) ++ births_at (place_at t.places u.node) u.input (node_at (f_at t hs) u.node))
      by old new = cond_both u.cut (births_of (so_far t hs)) (births_of (so_far t hs) ++ births_at (place_at t.places u.node) u.input (node_at (f_at t hs) u.node)) (AllByRecursion (WasOpened (said_in (f_at t (hs ++ happenings.Turn u ∷ []))))) (λ is. old)
          (λ is. all_append (WasOpened (said_in (f_at t (hs ++ happenings.Turn u ∷ [])))) (births_of (so_far t hs)) (births_at (place_at t.places u.node) u.input (node_at (f_at t hs) u.node)) old new)
  opened_on hs h rest is now = subst (AllByRecursion (WasOpened (said_in (f_at t (hs ++ h ∷ []))))) (sym (born_on hs h)) (same_opened hs h now)

  -- by the end of a first part of the run each branch that began below another was opened so
  pub opened_at : (hs : List Happening) → Part t whole hs → AreOpened hs
  unfolding births_from
  opened_at hs part = keep_on t whole AreOpened opened_on [] hs part tt

  -- an Opened comes from the node that the Open was sent to
  pub opened_sent : (hs : List Happening) (u : Turn) (rest : List Happening) → hs ++ happenings.Turn u ∷ rest ≡ t.trace → (from to : BranchId) (edge strength : ℕ) → Came u.input from to (kinds.Opened edge strength) → IsOpenTo (said_in (f_at t hs)) to edge from.node
  opened_sent hs u rest is from to edge strength came =
      let part : Part t whole hs = record { rest = happenings.Turn u ∷ rest; is = is } in
      let s0 : History = so_far t hs in
      let lawful0 : IsLawfulRun s0 = part_lawful t whole hs part in
      let may = may_of t whole hs (happenings.Turn u) rest is in
      let child : IsChildAt (Began (births_of s0)) from to edge = came_so (GoesSo (Began (births_of s0))) (f_at t hs) (messages_are_of_neighbors s0 lawful0) may.0 u.node u.input u.took may.1.comes from to (kinds.Opened edge strength) came in
      let x : Born = child.0 in
      let opened : IsOpenTo (said_in (f_at t hs)) to x.edge x.me.node = all_found (WasOpened (said_in (f_at t hs))) born_id (births_of s0) x.me x (opened_at hs part) child.1 to child.3 in
      subst (λ n. IsOpenTo (said_in (f_at t hs)) to n from.node) child.4 (subst (λ (b : BranchId). IsOpenTo (said_in (f_at t hs)) to x.edge b.node) child.2 opened)
