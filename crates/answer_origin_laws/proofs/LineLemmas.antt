-- Where the statement of a branch that waits leads: over its link, to the child that its edge is of. What keeps that so.
use Rattle.std.proofs.Common.{◌≡◌, ℕ, suc, ◌+◌, ◌<◌, ◌≤◌, ◌==◌, ◌&&◌, ◌||◌, Bool, true, false, if◌then◌else◌, position, List, [], ◌∷◌, ◌++◌, length, max, option_map, Option, Some, None, refl, sym, ap, subst, ◌∙◌, arith}
use Rattle.std.specs.Prelude.{get_or, slice_get, nat_le}
use Rattle.std.specs.List.{AllByRecursion}
use Rattle.std.specs.Str.{bytes_eq}
use Rattle.std.specs.Cmp.Lexicographic.{bytes_decides}
use Rattle.std.proofs.lemmas.List.Quantifiers.{position-Some}
use Rattle.std.proofs.lemmas.Option.{get_or_from_slice_get}
use Rattle.tran_ids.proofs.BranchLemmas.{same_from_equal}
use Rattle.dtx_values.specs.Limits.{depth_limit}
use Rattle.session_tree.specs.Live.{edge_at, edge_by_link}
use Rattle.session_tree.specs.Tree.{room}
use Rattle.node_rules.specs.Data.{Stmt, Task, BranchId, Durable, Edge, Kind, Live, Place, Post}
use Rattle.node_rules.specs.declared.work.Errand.{Errand}
use Rattle.node_rules.specs.Data.kinds
use Rattle.node_rules.specs.Data.tasks
use Rattle.node_rules.specs.declared.work.Errand.TheVariants as errands
use Rattle.node_rules.specs.declared.work.Waits.{Waits}
use Rattle.node_rules.specs.declared.work.Waits.TheVariants as waiting
use Rattle.node_rules.specs.declared.work.Going.{Going}
use Rattle.node_rules.specs.declared.work.Work.{Work}
use Rattle.node_rules.specs.Words.{same, numbered}
use Rattle.node_rules.specs.Refusals.{ora, dtx}
use Rattle.node_rules.specs.NodeState.{post}
use Rattle.node_rules.specs.Names.{Over, Through, Nowhere_to, Named, A_table, Behind, Unknown, named_by, ref_of, passed_on, target_of, way_new, way_edge, way_target, way_named, way_of}
use Rattle.run_base_laws.specs.InTurnLaws.{exec_number, newest_exec, call_at}
use Rattle.run_base_laws.proofs.KindSayLemmas.{AllSay}
use Rattle.run_rules.proofs.ListLemmas.{all_append, all_weaker}
use Rattle.node_rules.proofs.WayLemmas.{way_by_name}

-- ---- where a statement goes

module _ (p : Place) (d : Durable) (l : Live) (given : ℕ) where
  -- over a link to a child that is there
  pub record GoesOver (s : Stmt) (i : ℕ) (table : List ℕ) : Type 0 where
    pub link : List ℕ
    pub named : named_by d (ref_of s) ≡ Behind link table
    pub node : ℕ
    pub leads : target_of p d link ≡ Some node
    pub edge : edge_by_link l link ≡ Some i

  new_over : (node : ℕ) (link t : List ℕ) (i : ℕ) (table : List ℕ) → way_new p l given node link t ≡ Over i table → ⊥
  new_over node link t i table is = by (nat_le depth_limit l.depth || (room l given == 0)) (nat_le p.links (length l.edges)) is
    where
      by : (q r : Bool) → (if q then Nowhere_to (dtx 2 []) else (if r then Nowhere_to (ora 2020 []) else Through node link t)) ≡ Over i table → ⊥
      by true r at = absurd cc
      by false true at = absurd cc
      by false false at = absurd cc

  edge_over : (node : ℕ) (link t : List ℕ) (o : Option ℕ) (i : ℕ) (table : List ℕ) → way_edge p l given node link t o ≡ Over i table → (o ≡ Some i) × (t ≡ table)
  edge_over node link t (Some j) i table is = let it : Over j t ≡ Over i table = is in let one : j ≡ i = cc in let two : t ≡ table = cc in (ap Some one, two)
  edge_over node link t None i table is = absurd (new_over node link t i table is)

  target_over : (link t : List ℕ) (o : Option ℕ) (i : ℕ) (table : List ℕ) → way_target p l given link t o ≡ Over i table → ((node : ℕ) × (o ≡ Some node)) × (edge_by_link l link ≡ Some i) × (t ≡ table)
  target_over link t None i table is = absurd cc
  target_over link t (Some node) i table is = let over = edge_over node link t (edge_by_link l link) i table is in ((node, refl), over.0, over.1)

  named_over : (s : Stmt) (n : Named) (i : ℕ) (table : List ℕ) → named_by d (ref_of s) ≡ n → way_named p d l given n ≡ Over i table → GoesOver s i table
  named_over s Unknown i table at is = absurd cc
  named_over s (A_table t) i table at is = absurd cc
  named_over s (Behind link t) i table at is =
      let over = target_over link t (target_of p d link) i table is in record { link = link; named = at ∙ ap (Behind link) over.2; node = over.0.0; leads = over.0.1; edge = over.1 }

  pub goes_over : (s : Stmt) (i : ℕ) (table : List ℕ) → way_of p d l given s ≡ Over i table → GoesOver s i table
  goes_over s i table is = named_over s (named_by d (ref_of s)) i table refl (way_by_name p d l given s (Over i table) tt is)

  -- over a link that is used for the first time
  abbrev pub GoesThrough : Stmt → ℕ → List ℕ → List ℕ → Type 0
  GoesThrough s node link table = (named_by d (ref_of s) ≡ Behind link table) × (target_of p d link ≡ Some node)

  new_through : (m : ℕ) (k t : List ℕ) (node : ℕ) (link table : List ℕ) → way_new p l given m k t ≡ Through node link table → (m ≡ node) × (k ≡ link) × (t ≡ table)
  new_through m k t node link table is = by (nat_le depth_limit l.depth || (room l given == 0)) (nat_le p.links (length l.edges)) is
    where
      by : (q r : Bool) → (if q then Nowhere_to (dtx 2 []) else (if r then Nowhere_to (ora 2020 []) else Through m k t)) ≡ Through node link table → (m ≡ node) × (k ≡ link) × (t ≡ table)
      by true r at = absurd cc
      by false true at = absurd cc
      by false false at = let it : Through m k t ≡ Through node link table = at in let one : m ≡ node = cc in let two : k ≡ link = cc in let three : t ≡ table = cc in (one, two, three)

  edge_through : (m : ℕ) (k t : List ℕ) (o : Option ℕ) (node : ℕ) (link table : List ℕ) → way_edge p l given m k t o ≡ Through node link table → (m ≡ node) × (k ≡ link) × (t ≡ table)
  edge_through m k t (Some j) node link table is = absurd cc
  edge_through m k t None node link table is = new_through m k t node link table is

  target_through : (k t : List ℕ) (o : Option ℕ) (node : ℕ) (link table : List ℕ) → way_target p l given k t o ≡ Through node link table → (o ≡ Some node) × (k ≡ link) × (t ≡ table)
  target_through k t None node link table is = absurd cc
  target_through k t (Some m) node link table is = let through = edge_through m k t (edge_by_link l k) node link table is in (ap Some through.0, through.1, through.2)

  named_through : (s : Stmt) (n : Named) (node : ℕ) (link table : List ℕ) → named_by d (ref_of s) ≡ n → way_named p d l given n ≡ Through node link table → GoesThrough s node link table
  named_through s Unknown node link table at is = absurd cc
  named_through s (A_table t) node link table at is = absurd cc
  named_through s (Behind k t) node link table at is =
      let through = target_through k t (target_of p d k) node link table is in
      (at ∙ (ap (λ x. Behind x t) through.1 ∙ ap (Behind link) through.2), subst (λ x. target_of p d x ≡ Some node) through.1 through.0)

  pub goes_through : (s : Stmt) (node : ℕ) (link table : List ℕ) → way_of p d l given s ≡ Through node link table → GoesThrough s node link table
  goes_through s node link table is = named_through s (named_by d (ref_of s)) node link table refl (way_by_name p d l given s (Through node link table) tt is)

-- the edge of a link
placed : (es : List Edge) (link : List ℕ) (o : Option ℕ) (i : ℕ) (e : Edge) → position (λ (x : Edge). bytes_eq x.link link) es ≡ o → option_map (λ place. place + 1) o ≡ Some i → numbered es i ≡ Some e → e.link ≡ link
placed es link None i e at is found = absurd cc
placed es link (Some j) i e at is found =
    let it : Some (j + 1) ≡ Some i = is in
    let number : j + 1 ≡ i = cc in
    let next : suc j ≡ j + 1 = omega arith in
    let there : slice_get es j ≡ Some e = subst (λ n. numbered es n ≡ Some e) (sym (next ∙ number)) found in
    let passes : bytes_eq (get_or es j e).link link ≡ true = (position-Some (λ (x : Edge). bytes_eq x.link link) es j e at).1 in
    let same_edge : get_or es j e ≡ e = get_or_from_slice_get es j e e there in
    (bytes_decides e.link link).0 (ap (λ (x : Edge). bytes_eq x.link link) (sym same_edge) ∙ passes)

pub edge_link : (l : Live) (link : List ℕ) (i : ℕ) (e : Edge) → edge_by_link l link ≡ Some i → edge_at l i ≡ Some e → e.link ≡ link
edge_link l link i e is found = placed l.edges link (position (λ (x : Edge). bytes_eq x.link link) l.edges) i e refl is found

-- ---- messages

-- an Open or an Exec
abbrev pub is_calling : Kind → Bool
is_calling (kinds.Open edge root depth read_at) = true
is_calling (kinds.Exec call task) = true
is_calling _ = false

-- a branch sends none
abbrev pub Quiet : BranchId → List Post → Type 0
Quiet me says = AllByRecursion (λ (x : Post). x.from ≡ me → is_calling x.kind ≡ false) says

abbrev pub IsCalm : Kind → Type 0
IsCalm kind = is_calling kind ≡ false

pub calm_quiet : (me : BranchId) (says : List Post) → AllSay IsCalm says → Quiet me says
calm_quiet me says all = all_weaker (λ (x : Post). IsCalm x.kind) (λ (x : Post). x.from ≡ me → is_calling x.kind ≡ false) (λ x is from. is) says all

pub other_quiet : (b c to : BranchId) (kind : Kind) → same c b ≡ false → Quiet b (post c to kind)
other_quiet b c to kind other = ((λ from. (let both : same c b ≡ true = same_from_equal c b from in absurd (cc (both, other)))), tt)

-- ---- what is given

-- the statement of a task, none of one that goes back
abbrev pub stmt_of_task : Task → Option Stmt
stmt_of_task (tasks.Run given advice s) = Some s
stmt_of_task (tasks.GoBack keep) = None

-- the same of an errand
abbrev pub stmt_of_errand : Errand → Option Stmt
stmt_of_errand (errands.Statement s given) = Some s
stmt_of_errand (errands.GoBack step) = None

module _ (p : Place) (D : Durable) (Given : BranchId → ℕ → Option Stmt → Type 0) (Called : BranchId → BranchId → ℕ → ℕ → Stmt → Stmt → Type 0) where
  -- each edge is of the node that its link leads to
  abbrev pub Leads : List Edge → Type 0
  Leads es = AllByRecursion (λ (e : Edge). target_of p D e.link ≡ Some e.peer.node) es

  -- the Opens of a branch are of edges up to this one
  abbrev pub OpensLow : List Post → BranchId → ℕ → Type 0
  OpensLow said me n = AllByRecursion (λ (x : Post). x.from ≡ me → (edge : ℕ) (root : BranchId) (depth : ℕ) (read_at : Option ℕ) → x.kind ≡ kinds.Open edge root depth read_at → edge ≤ n) said

  -- those of this edge go where the link leads
  abbrev pub OpensTo : List Post → BranchId → ℕ → List ℕ → Type 0
  OpensTo said me n link = AllByRecursion (λ (x : Post). x.from ≡ me → (edge : ℕ) (root : BranchId) (depth : ℕ) (read_at : Option ℕ) → x.kind ≡ kinds.Open edge root depth read_at → edge ≡ n → target_of p D link ≡ Some x.to.node) said

  -- the Execs of this number bring this statement, or none where they take their branch back
  abbrev pub SentSo : List Post → BranchId → BranchId → ℕ → Option Stmt → Type 0
  SentSo said me c n o = AllByRecursion (λ (x : Post). x.from ≡ me → x.to ≡ c → (call : ℕ) (task : Task) → x.kind ≡ kinds.Exec call task → call ≡ n → stmt_of_task task ≡ o) said

  -- one edge more is being opened
  abbrev pub more_by : Waits → ℕ
  more_by (waiting.ForReply i) = 0
  more_by (waiting.ForOpened link) = 1

  abbrev pub more : Option Going → ℕ
  more None = 0
  more (Some g) = more_by g.waits

  -- what a branch waits for that was given a statement
  abbrev pub WaitsSo : List Post → BranchId → List Edge → Work → Stmt → Stmt → Waits → Type 0
  WaitsSo said me es w s goes (waiting.ForReply i) = (e : Edge) → numbered es i ≡ Some e → Called me e.peer (call_at w i) w.came.last_call s goes × SentSo said me e.peer (call_at w i) (Some goes)
  WaitsSo said me es w s goes (waiting.ForOpened link) = (table : List ℕ) × (named_by D (ref_of s) ≡ Behind link table) × (goes ≡ passed_on s table) × OpensTo said me (length es + 1) link

  -- what one waits for that was called to go back
  abbrev pub BacksSo : List Post → BranchId → List Edge → Work → Waits → Type 0
  BacksSo said me es w (waiting.ForReply i) = (e : Edge) → numbered es i ≡ Some e → SentSo said me e.peer (call_at w i) None
  BacksSo said me es w (waiting.ForOpened link) = ⊥

  -- what a branch was given that waits, and what it waits for
  abbrev pub ErrandSo : List Post → BranchId → List Edge → Work → Errand → Waits → Type 0
  ErrandSo said me es w (errands.Statement goes given) waits = (s : Stmt) × Given me w.came.last_call (Some s) × WaitsSo said me es w s goes waits
  ErrandSo said me es w (errands.GoBack step) waits = Given me w.came.last_call None × BacksSo said me es w waits

  -- Where a live branch leads.
  pub record Line (said : List Post) (Go : Type 0) (me : BranchId) (es : List Edge) (w : Work) : Type 0 where
    pub leads : Leads es
    pub opens : Go → OpensLow said me (length es + more w.going)
    pub waits : (g : Going) → w.going ≡ Some g → ErrandSo said me es w g.errand g.waits

  module _ (said says : List Post) (me : BranchId) where
    pub low_more : (n : ℕ) → Quiet me says → OpensLow said me n → OpensLow (said ++ says) me n
    low_more n quiet low =
        all_append (λ (x : Post). x.from ≡ me → (edge : ℕ) (root : BranchId) (depth : ℕ) (read_at : Option ℕ) → x.kind ≡ kinds.Open edge root depth read_at → edge ≤ n) said says low
        (all_weaker (λ (x : Post). x.from ≡ me → is_calling x.kind ≡ false) _ (λ x none from edge root depth read_at is. absurd (let calm : is_calling x.kind ≡ false = none from in let calls : is_calling x.kind ≡ true = ap is_calling is in cc (calm, calls))) says quiet)

    pub to_more : (n : ℕ) (link : List ℕ) → Quiet me says → OpensTo said me n link → OpensTo (said ++ says) me n link
    to_more n link quiet to =
        all_append (λ (x : Post). x.from ≡ me → (edge : ℕ) (root : BranchId) (depth : ℕ) (read_at : Option ℕ) → x.kind ≡ kinds.Open edge root depth read_at → edge ≡ n → target_of p D link ≡ Some x.to.node) said says to
        (all_weaker (λ (x : Post). x.from ≡ me → is_calling x.kind ≡ false) _ (λ x none from edge root depth read_at is at. absurd (let calm : is_calling x.kind ≡ false = none from in let calls : is_calling x.kind ≡ true = ap is_calling is in cc (calm, calls))) says quiet)

    pub sent_more : (c : BranchId) (n : ℕ) (o : Option Stmt) → Quiet me says → SentSo said me c n o → SentSo (said ++ says) me c n o
    sent_more c n o quiet sent =
        all_append (λ (x : Post). x.from ≡ me → x.to ≡ c → (call : ℕ) (task : Task) → x.kind ≡ kinds.Exec call task → call ≡ n → stmt_of_task task ≡ o) said says sent
        (all_weaker (λ (x : Post). x.from ≡ me → is_calling x.kind ≡ false) _ (λ x none from to call task is at. absurd (let calm : is_calling x.kind ≡ false = none from in let calls : is_calling x.kind ≡ true = ap is_calling is in cc (calm, calls))) says quiet)

    pub waits_more : (es : List Edge) (w : Work) (s goes : Stmt) (waits : Waits) → Quiet me says → WaitsSo said me es w s goes waits → WaitsSo (said ++ says) me es w s goes waits
    waits_more es w s goes (waiting.ForReply i) quiet is = λ e at. (let was = is e at in (was.0, sent_more e.peer (call_at w i) (Some goes) quiet was.1))
    waits_more es w s goes (waiting.ForOpened link) quiet is = (is.0, is.1, is.2, to_more (length es + 1) link quiet is.3)

    pub errand_more : (es : List Edge) (w : Work) (errand : Errand) (waits : Waits) → Quiet me says → ErrandSo said me es w errand waits → ErrandSo (said ++ says) me es w errand waits
    errand_more es w (errands.Statement goes given) waits quiet is = (is.0, is.1, waits_more es w is.0 goes waits quiet is.2)
    errand_more es w (errands.GoBack step) (waiting.ForReply i) quiet is = (is.0, (λ e at. sent_more e.peer (call_at w i) None quiet (is.1 e at)))
    errand_more es w (errands.GoBack step) (waiting.ForOpened link) quiet is = absurd is.1

    -- a branch that says neither stays so
    pub line_more : (Go : Type 0) (es : List Edge) (w : Work) → Quiet me says → Line said Go me es w → Line (said ++ says) Go me es w
    line_more Go es w quiet is = record {
      leads = is.leads;
      opens = λ goes. low_more (length es + more w.going) quiet (is.opens goes);
      waits = λ g going. errand_more es w g.errand g.waits quiet (is.waits g going);
    }

  -- ---- numbers

  if_low : (q : Bool) (n a rest : ℕ) → (if q then max a rest else rest) < n → (q ≡ true → a < n) × (rest < n)
  if_low true n a rest low = ((λ is. omega (arith, low)), omega (arith, low))
  if_low false n a rest low = ((λ is. absurd cc), low)

  -- no Exec of a number that is above the newest was sent
  pub unsent : (said : List Post) (me c : BranchId) (n : ℕ) (o : Option Stmt) → newest_exec said me c < n → SentSo said me c n o
  unsent [] me c n o low = tt
  unsent (x ∷ xs) me c n o low =
      let parts = if_low (same x.from me && same x.to c) n (exec_number x.kind) (newest_exec xs me c) low in (
        λ from to call task is at.
            absurd (let both : (same x.from me && same x.to c) ≡ true = ap (λ q. q && same x.to c) (same_from_equal x.from me from) ∙ same_from_equal x.to c to in
            let small : exec_number x.kind < n = parts.0 both in let number : exec_number x.kind ≡ call = ap exec_number is in omega (arith, small, number, at)),
        unsent xs me c n o parts.1,
      )
