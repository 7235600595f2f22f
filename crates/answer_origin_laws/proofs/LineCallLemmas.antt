-- A call that goes over an edge, over a link that is used for the first time, or over the edge that an Opened brings, and a Reply that answers one,
-- leave the live branches of a node leading where their statements were sent.
use Rattle.std.proofs.Common.{◌≡◌, ℕ, suc, ◌+◌, ◌-◌, ◌<◌, ◌≤◌, find, List, [], ◌∷◌, ◌++◌, length, option_map, Option, Some, None, refl, sym, ap, subst, ◌∙◌, arith}
use Rattle.std.proofs.lemmas.Bool.Decides.{nat_tests}
use Rattle.std.proofs.lemmas.List.{length-append}
use Rattle.session_tree.specs.Live.{children_of, peer_of, new_edge, next_edge}
use Rattle.node_rules.specs.Data.{Stmt, Answer, Task, BranchId, Durable, Edge, Live, Place, Input, Post}
use Rattle.node_rules.specs.declared.work.Errand.{Errand}
use Rattle.node_rules.specs.Data.kinds
use Rattle.node_rules.specs.declared.work.Errand.TheVariants as errands
use Rattle.node_rules.specs.declared.session.Session.{Session}
use Rattle.node_rules.specs.declared.work.Waits.TheVariants as waiting
use Rattle.node_rules.specs.declared.work.Going.{Going}
use Rattle.node_rules.specs.declared.work.Work.{Work}
use Rattle.node_rules.specs.Words.{same_text, numbered, put_item}
use Rattle.node_rules.specs.NodeState.{NodeState, Branch, live_id, work_id, post}
use Rattle.node_rules.specs.Names.{Behind, named_by, ref_of, passed_on, node_named, target_of}
use Rattle.node_rules.specs.Calls.{answer_says, exec_to, less_room, nobody_at, with_edge, with_answer, called, waits_for_opened, hears_reply, heard_answer}
use Rattle.node_rules.proofs.LiveLemmas.{work_is}
use Rattle.node_rules.proofs.Steps as steps
use Rattle.run_base_laws.specs.InTurnLaws.{newest_exec, call_at}
use Rattle.run_rules.proofs.AtNodeLemmas.{range_of}
use Rattle.run_base_laws.proofs.InTurnLemmas as turns
use Rattle.run_base_laws.proofs.InTurnLemmas.{peer, length_peers, numbered_map, reply_for, numbered_last}
use Rattle.run_rules.proofs.ListLemmas.{all_append, all_weaker}
use Rattle.run_base_laws.proofs.NeighborLemmas.{reply_is}
use Rattle.answer_origin_laws.proofs.LineKeepLemmas.{set_alike, exec_other, next_number, exec_low, exec_sent, waits_zero}
use Rattle.answer_origin_laws.proofs.LineLemmas.{GoesOver, GoesThrough, edge_link, stmt_of_task, stmt_of_errand, other_quiet, Leads, OpensLow, OpensTo, SentSo, more_by, more, WaitsSo, ErrandSo, unsent}
use Rattle.answer_origin_laws.proofs.NameLemmas.{OneCatalog, same_names}
use Rattle.answer_origin_laws.proofs.NumberLemmas.{all_numbered}
use Rattle.answer_origin_laws.proofs.LineBranchLemmas as base

module _ (E : BranchId → Option ℕ) (A : BranchId → Option BranchId) (G Here : BranchId → Type 0) (input : Input) (said : List Post) (received : turns.Received E A G Here input said)
    (p : Place) (D : Durable) (Given : BranchId → ℕ → Option Stmt → Type 0) (Called : BranchId → BranchId → ℕ → ℕ → Stmt → Stmt → Type 0) where
  abbrev LineOf : List Post → Live → Work → Type 0
  LineOf = base.LineOf E A G Here input said received p D Given Called

  abbrev LeavesSo : List Live → List Work → List Post → Type 0
  LeavesSo = base.LeavesSo E A G Here input said received p D Given Called

  module _ (known : base.Known E A G Here input said received p D Given Called) where
    module _ (k : NodeState) (now : base.Nodes E A G Here input said received p D Given Called k) (lines : base.Lines E A G Here input said received p D Given Called said k) where
      -- ---- a call over an edge

      exec_here : (ss : List Session) (y : Branch) (i : ℕ) (errand : Errand) (o : Option BranchId) → Here y.live.me → base.FromHere E A G Here input said received p D Given Called (exec_to ss y i errand o)
      exec_here ss y i errand None here = tt
      exec_here ss y i errand (Some c) here = ((λ calls. here), tt)

      -- the branch waits so once the Execs of its number are known to bring what it passes on
      abbrev Waiting : List Session → Branch → ℕ → Errand → Type 0
      Waiting ss y i errand =
          ((e : Edge) → numbered y.live.edges i ≡ Some e → SentSo p D Given Called (said ++ exec_to ss y i errand (peer_of y.live i)) y.live.me e.peer (call_at (called ss y i errand).work i) (stmt_of_errand errand))
          → ErrandSo p D Given Called (said ++ exec_to ss y i errand (peer_of y.live i)) y.live.me y.live.edges (called ss y i errand).work errand (waiting.ForReply i)

      calls_line : (ss : List Session) (y : Branch) (i : ℕ) (errand : Errand) → Here y.live.me → y.work.branch ≡ y.live.me → Leads p D Given Called y.live.edges
          → (turns.Goes E A G Here input said y.live → OpensLow p D Given Called said y.live.me (length y.live.edges)) → Waiting ss y i errand
          → ((e : Edge) → numbered y.live.edges i ≡ Some e → newest_exec said y.live.me e.peer < call_at (called ss y i errand).work i)
          → LeavesSo (put_item live_id k.lives y.live) (put_item work_id k.works (called ss y i errand).work) (exec_to ss y i errand (peer_of y.live i))
      calls_line ss y i errand here mine leads low waits new =
          let says : List Post = exec_to ss y i errand (peer_of y.live i) in
          let sent : (e : Edge) → numbered y.live.edges i ≡ Some e → SentSo p D Given Called (said ++ says) y.live.me e.peer (call_at (called ss y i errand).work i) (stmt_of_errand errand)
          = (λ e at.
          all_append (λ (x : Post). x.from ≡ y.live.me → x.to ≡ e.peer → (call : ℕ) (task : Task) → x.kind ≡ kinds.Exec call task → call ≡ call_at (called ss y i errand).work i → stmt_of_task task ≡ stmt_of_errand errand) said says
          (unsent p D Given Called said y.live.me e.peer (call_at (called ss y i errand).work i) (stmt_of_errand errand) (new e at)) (exec_sent p D Given Called ss y i errand (peer_of y.live i) y.live.me e.peer (call_at (called ss y i errand).work i))) in (
            base.put E A G Here input said received p D Given Called known k now lines says y.live (called ss y i errand).work mine (λ b other. exec_other ss y i errand (peer_of y.live i) b other) (record {
              leads = leads;
              opens = λ goes. subst (OpensLow p D Given Called (said ++ says) y.live.me) (let it : length y.live.edges ≡ length y.live.edges + 0 = omega arith in it)
                  (all_append (λ (x : Post). x.from ≡ y.live.me → (edge : ℕ) (root : BranchId) (depth : ℕ) (read_at : Option ℕ) → x.kind ≡ kinds.Open edge root depth read_at → edge ≤ length y.live.edges) said says (low goes) (exec_low p D Given Called ss y i errand (peer_of y.live i) y.live.me (length y.live.edges)));
              waits = λ g some. (let it : Some (record { errand = errand; waits = waiting.ForReply i }) ≡ Some g = some in let one : record { errand = errand; waits = waiting.ForReply i } ≡ g = cc in
                  subst (λ (x : Going). ErrandSo p D Given Called (said ++ says) y.live.me y.live.edges (called ss y i errand).work x.errand x.waits) one (waits sent));
            }),
            exec_here ss y i errand (peer_of y.live i) here,
          )

      low_rest : (x : Branch) → x.work.going ≡ None → LineOf said x.live x.work → turns.Goes E A G Here input said x.live → OpensLow p D Given Called said x.live.me (length x.live.edges)
      low_rest x none line goes = subst (OpensLow p D Given Called said x.live.me) (let it : length x.live.edges + more p D Given Called x.work.going ≡ length x.live.edges = (let zero_more : more p D Given Called x.work.going ≡ 0 = ap (more p D Given Called) none in omega (arith, zero_more)) in it) (line.opens goes)

      -- the number of a call is above those before it
      next_above : (ss : List Session) (x : Branch) (i : ℕ) (errand : Errand) → turns.FreeOf E A G Here input said x → (e : Edge) → numbered x.live.edges i ≡ Some e → newest_exec said x.live.me e.peer < call_at (called ss x i errand).work i
      next_above ss x i errand free e at =
          let child : numbered (children_of x.live) i ≡ Some e.peer = numbered_map x.live.edges i ∙ ap (option_map peer) at in
          let made : newest_exec said x.live.me e.peer ≡ call_at x.work i = free.made i e.peer child in
          let next : call_at (called ss x i errand).work i ≡ call_at x.work i + 1 = next_number ss x i errand e at (free.numbers ∙ length_peers x.live.edges) in
          omega (arith, made, next)

      -- a branch whose children are to go back calls the next
      pub backs_line : (x : Branch) (i step : ℕ) → base.CallingSo E A G Here input said received p D Given Called known k now lines x → turns.FreeOf E A G Here input said x
          → LeavesSo (put_item live_id k.lives x.live) (put_item work_id k.works (called k.sessions x i (errands.GoBack step)).work) (exec_to k.sessions x i (errands.GoBack step) (peer_of x.live i))
      backs_line x i step so free =
          calls_line k.sessions x i (errands.GoBack step) so.here so.mine so.line.leads
          (λ goes. subst (OpensLow p D Given Called said x.live.me) (let it : length x.live.edges + more p D Given Called x.work.going ≡ length x.live.edges = omega (arith, so.still) in it) (so.line.opens goes))
          (λ sent. (so.given, sent)) (λ e at. next_above k.sessions x i (errands.GoBack step) free e at)

      module _ (cat : OneCatalog k.stored.durable D) where
        named_so : (s : Stmt) (link table : List ℕ) → named_by k.stored.durable (ref_of s) ≡ Behind link table → named_by D (ref_of s) ≡ Behind link table
        named_so s link table is = sym (same_names k.stored.durable D cat (ref_of s)) ∙ is

        pub over_line : (x : Branch) (s : Stmt) (given i : ℕ) (table : List ℕ) → base.AskedSo E A G Here input said received p D Given Called known k now lines x (Some s) → GoesOver p k.stored.durable x.live given s i table
            → LeavesSo (put_item live_id k.lives x.live) (put_item work_id k.works (called k.sessions x i (errands.Statement (passed_on s table) given)).work) (exec_to k.sessions x i (errands.Statement (passed_on s table) given) (peer_of x.live i))
        over_line x s given i table so over =
            let errand : Errand = errands.Statement (passed_on s table) given in
            let number : ℕ = call_at (called k.sessions x i errand).work i in
            let above : (e : Edge) → numbered x.live.edges i ≡ Some e → newest_exec said x.live.me e.peer < number = (λ e at. next_above k.sessions x i errand so.free e at) in
            calls_line k.sessions x i errand so.here so.mine so.line.leads (low_rest x so.rests so.line)
            (λ sent. (
              s,
              so.given,
              (λ e at. (let link_is : e.link ≡ over.link = edge_link x.live over.link i e over.edge at in
                  let leads : target_of p D over.link ≡ Some e.peer.node = ap (target_of p D) (sym link_is) ∙ all_numbered (λ (y : Edge). target_of p D y.link ≡ Some y.peer.node) x.live.edges i e so.line.leads at in
                  (known.calls x.live.me e.peer number x.work.came.last_call s over.link table so.here so.given (named_so s over.link table over.named) leads (above e at), sent e at))),
            ))
            above

        pub through_line : (x : Branch) (s : Stmt) (given node : ℕ) (link table : List ℕ) → base.AskedSo E A G Here input said received p D Given Called known k now lines x (Some s) → turns.Goes E A G Here input said x.live → GoesThrough p k.stored.durable x.live given s node link table
            → LeavesSo (put_item live_id k.lives x.live) (put_item work_id k.works (waits_for_opened x link (passed_on s table) given).work) (post x.live.me (nobody_at node) (kinds.Open (next_edge x.live) x.live.root (x.live.depth + 1) x.live.read_at))
        through_line x s given node link table so may through =
            let says : List Post = post x.live.me (nobody_at node) (kinds.Open (next_edge x.live) x.live.root (x.live.depth + 1) x.live.read_at) in
            let low : OpensLow p D Given Called said x.live.me (length x.live.edges) = low_rest x so.rests so.line may in
            let target : target_of p D link ≡ Some node = ap (λ ls. node_named p.names (find (λ l. same_text l.name link) ls)) (sym cat.links) ∙ through.1 in (
              base.put E A G Here input said received p D Given Called known k now lines says x.live (waits_for_opened x link (passed_on s table) given).work so.mine (λ b other. other_quiet b x.live.me (nobody_at node) (kinds.Open (next_edge x.live) x.live.root (x.live.depth + 1) x.live.read_at) other) (record {
                leads = so.line.leads;
                opens = λ goes. all_append (λ (y : Post). y.from ≡ x.live.me → (edge : ℕ) (root : BranchId) (depth : ℕ) (read_at : Option ℕ) → y.kind ≡ kinds.Open edge root depth read_at → edge ≤ length x.live.edges + 1) said says
                    (all_weaker (λ (y : Post). y.from ≡ x.live.me → (edge : ℕ) (root : BranchId) (depth : ℕ) (read_at : Option ℕ) → y.kind ≡ kinds.Open edge root depth read_at → edge ≤ length x.live.edges) _ (λ y was from edge root depth read_at is. (let small = was from edge root depth read_at is in let it : edge ≤ length x.live.edges + 1 = omega (arith, small) in it)) said low)
                    ((λ from edge root depth read_at is. (let both : kinds.Open (next_edge x.live) x.live.root (x.live.depth + 1) x.live.read_at ≡ kinds.Open edge root depth read_at = is in let one : next_edge x.live ≡ edge = cc in let it : edge ≤ length x.live.edges + 1 = omega (arith, one) in it)), tt);
                waits = λ g some. (let it : Some (record { errand = errands.Statement (passed_on s table) given; waits = waiting.ForOpened link }) ≡ Some g = some in let one : record { errand = errands.Statement (passed_on s table) given; waits = waiting.ForOpened link } ≡ g = cc in
                    subst (λ (y : Going). ErrandSo p D Given Called (said ++ says) x.live.me x.live.edges (waits_for_opened x link (passed_on s table) given).work y.errand y.waits) one (
                      s,
                      so.given,
                      (
                        table,
                        named_so s link table through.0,
                        refl,
                        all_append (λ (y : Post). y.from ≡ x.live.me → (edge : ℕ) (root : BranchId) (depth : ℕ) (read_at : Option ℕ) → y.kind ≡ kinds.Open edge root depth read_at → edge ≡ length x.live.edges + 1 → target_of p D link ≡ Some y.to.node) said says
                            (all_weaker (λ (y : Post). y.from ≡ x.live.me → (edge : ℕ) (root : BranchId) (depth : ℕ) (read_at : Option ℕ) → y.kind ≡ kinds.Open edge root depth read_at → edge ≤ length x.live.edges) _ (λ y was from edge root depth read_at is at. absurd (let small = was from edge root depth read_at is in omega (arith, small, at))) said low)
                            ((λ from edge root depth read_at is at. target), tt),
                      ),
                    ));
              }),
              ((λ calls. so.here), tt),
            )

      -- ---- an Opened, and a Reply

      module _ (x : Branch) (from : BranchId) (strength : ℕ) (g : Going) (link : List ℕ) (opened : steps.Is_opened k input x from strength g link) where
        abbrev y : Branch
        y = with_edge x (new_edge from link strength)

        abbrev i : ℕ
        i = length x.live.edges + 1

        was_begun : base.Begun E A G Here input said received p D Given Called x.live x.work
        was_begun = base.branch_begun E A G Here input said received p D Given Called known k now lines x opened.live

        was_line : LineOf said x.live x.work
        was_line = base.branch_line E A G Here input said received p D Given Called known k now lines x opened.live

        edge_is : opened.edge ≡ length x.live.edges + 1
        edge_is = grind (arith, nat_tests, opened.new)

        -- what waited for it is a statement
        pub record Waits_so : Type 0 where
          pub goes : Stmt
          pub given : ℕ
          pub is : g.errand ≡ errands.Statement goes given
          pub statement : Stmt
          pub gave : Given x.live.me x.work.came.last_call (Some statement)
          pub waits : WaitsSo p D Given Called said x.live.me x.live.edges x.work statement goes (waiting.ForOpened link)

        it_waits : Waits_so
        it_waits = by g.errand refl (subst (ErrandSo p D Given Called said x.live.me x.live.edges x.work g.errand) opened.waits (was_line.waits g opened.going))
          where
            by : (r : Errand) → g.errand ≡ r → ErrandSo p D Given Called said x.live.me x.live.edges x.work r (waiting.ForOpened link) → Waits_so
            by (errands.Statement goes given) is was = record { goes = goes; given = given; is = is; statement = was.0; gave = was.1; waits = was.2 }
            by (errands.GoBack step) is was = absurd was.1

        abbrev less : Errand
        less = errands.Statement it_waits.goes (it_waits.given - 1)

        less_is : less ≡ less_room g.errand
        less_is = ap less_room (sym it_waits.is)

        leads_there : target_of p D link ≡ Some from.node
        leads_there =
            let sent = known.opened from x.live.me opened.edge strength opened.came in
            let to : OpensTo p D Given Called said x.live.me (length x.live.edges + 1) link = it_waits.waits.3 in
            all_numbered (λ (z : Post). z.from ≡ x.live.me → (edge : ℕ) (root : BranchId) (depth : ℕ) (read_at : Option ℕ) → z.kind ≡ kinds.Open edge root depth read_at → edge ≡ length x.live.edges + 1 → target_of p D link ≡ Some z.to.node) said sent.0 sent.1 to sent.2 sent.3 opened.edge sent.4 sent.5 sent.6 sent.7 edge_is
            ∙ ap Some sent.8

        unmade : newest_exec said x.live.me from ≡ 0
        unmade = was_begun.turn.makes.no_other from (λ j at. (let one : E from ≡ Some j = was_begun.kids j from at in
            let two : E from ≡ Some opened.edge = received.opened from x.live.me opened.edge strength opened.came in
            let both : Some j ≡ Some opened.edge = sym one ∙ two in
            let number : j ≡ opened.edge = cc in
            absurd (omega (arith, number, edge_is, (range_of (children_of x.live) j from at).1, length_peers x.live.edges))))

        calls_long : length y.work.calls ≡ length y.live.edges
        calls_long = length-append x.work.calls (0 ∷ []) ∙ (ap (λ n. n + 1) (was_begun.turn.makes.numbers ∙ length_peers x.live.edges) ∙ sym (length-append x.live.edges (new_edge from link strength ∷ [])))

        abbrev number : ℕ
        number = call_at (called k.sessions y i less).work i

        -- the new edge
        last_edge : (e : Edge) → numbered y.live.edges i ≡ Some e → new_edge from link strength ≡ e
        last_edge e at =
            let last : numbered y.live.edges i ≡ Some (new_edge from link strength) = subst (λ n. numbered y.live.edges n ≡ Some (new_edge from link strength)) (let it : suc (length x.live.edges) ≡ i = omega arith in it) (numbered_last x.live.edges (new_edge from link strength)) in
            let it : Some (new_edge from link strength) ≡ Some e = sym last ∙ at in
            let one : new_edge from link strength ≡ e = cc in
            one

        above : (e : Edge) → numbered y.live.edges i ≡ Some e → newest_exec said x.live.me from < number
        above e at = let next : number ≡ call_at y.work i + 1 = next_number k.sessions y i less e at calls_long in omega (arith, unmade, next)

        called_it : (e : Edge) → numbered y.live.edges i ≡ Some e → Called x.live.me e.peer number x.work.came.last_call it_waits.statement it_waits.goes
        called_it e at =
            let it : Called x.live.me from number x.work.came.last_call it_waits.statement (passed_on it_waits.statement it_waits.waits.0)
            = known.calls x.live.me from number x.work.came.last_call it_waits.statement link it_waits.waits.0 was_begun.here it_waits.gave it_waits.waits.1 leads_there (above e at) in
            subst (λ (z : Edge). Called x.live.me z.peer number x.work.came.last_call it_waits.statement it_waits.goes) (last_edge e at)
            (subst (Called x.live.me from number x.work.came.last_call it_waits.statement) (sym it_waits.waits.2) it)

        less_line : LeavesSo (put_item live_id k.lives y.live) (put_item work_id k.works (called k.sessions y i less).work) (exec_to k.sessions y i less (peer_of y.live i))
        less_line =
            let long : length y.live.edges ≡ length x.live.edges + 1 = length-append x.live.edges (new_edge from link strength ∷ []) in
            calls_line k.sessions y i less was_begun.here (work_is k x.live.me x opened.live)
            (all_append (λ (e : Edge). target_of p D e.link ≡ Some e.peer.node) x.live.edges (new_edge from link strength ∷ []) was_line.leads (leads_there, tt))
            (λ goes. subst (OpensLow p D Given Called said x.live.me) (let it : length x.live.edges + more p D Given Called x.work.going ≡ length y.live.edges = (let one : more p D Given Called x.work.going ≡ 1 = ap (more p D Given Called) opened.going ∙ ap (more_by p D Given Called) opened.waits in omega (arith, one, long)) in it) (was_line.opens goes))
            (λ sent. (it_waits.statement, it_waits.gave, (λ e at. (called_it e at, sent e at))))
            (λ e at. subst (λ (z : Edge). newest_exec said x.live.me z.peer < number) (last_edge e at) (above e at))

        pub opened_line : LeavesSo (put_item live_id k.lives y.live) (put_item work_id k.works (called k.sessions y i (less_room g.errand)).work) (exec_to k.sessions y i (less_room g.errand) (peer_of y.live i))
        opened_line = subst (λ r. LeavesSo (put_item live_id k.lives y.live) (put_item work_id k.works (called k.sessions y i r).work) (exec_to k.sessions y i r (peer_of y.live i))) less_is less_line

      pub heard_line : (x : Branch) (weight : Option ℕ) (count : ℕ) (a : Answer) (i : ℕ) (e : Edge) → steps.Is_answered k input x weight count a i e
          → LeavesSo (put_item live_id k.lives (hears_reply x i weight count e).live) (put_item work_id k.works (with_answer (hears_reply x i weight count e) (heard_answer (hears_reply x i weight count e).live e.link a)).work) (answer_says (hears_reply x i weight count e) (heard_answer (hears_reply x i weight count e).live e.link a) x.live.parent)
      heard_line x weight count a i e answered =
          base.answered_line E A G Here input said received p D Given Called known k now lines x (hears_reply x i weight count e) (heard_answer (hears_reply x i weight count e).live e.link a) refl refl
          (set_alike x.live.edges i e (record e { weight = weight; count = count }) (reply_is x answered.from answered.call i e answered.waits) refl refl) (work_is k x.live.me x answered.live)
          (waits_zero p D Given Called i x.work.going (reply_for x answered.from answered.call i e answered.waits).0) (base.branch_line E A G Here input said received p D Given Called known k now lines x answered.live)
