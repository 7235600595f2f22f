-- What a turn tells of a branch that waits for a child, and what the Execs of the turn pass on.
use Rattle.std.specs.Prelude.{slice_get}
use Rattle.std.proofs.Common.{◌≡◌, ◌≢◌, ◌⊎◌, ◌||◌, Bool, true, zero, ℕ, suc, ◌+◌, ◌-◌, false, if◌then◌else◌, List, [], ◌∷◌, ◌++◌, length, option_map, Option, Some, None, inl, inr, refl, sym, ap, subst, ◌∙◌, arith}
use Rattle.std.specs.List.{AllByRecursion}
use Rattle.std.proofs.lemmas.Bool.Decides.{nat_tests}
use Rattle.tran_ids.proofs.BranchLemmas.{same_from_equal}
use Rattle.tran_ids.proofs.ListedLemmas.{item_is, put_found, put_or_before}
use Rattle.redo_record.specs.Durable.{durable}
use Rattle.session_tree.specs.Live.{children_of, edge_at, peer_of, new_edge}
use Rattle.node_rules.specs.Data.{BranchId, Durable, Edge, Kind, Live, Post, RedoRecord, Stmt}
use Rattle.node_rules.specs.Data.kinds
use Rattle.node_rules.specs.declared.session.Session.{Session}
use Rattle.node_rules.specs.declared.work.Waits.TheVariants as waiting
use Rattle.node_rules.specs.declared.work.Going.{Going}
use Rattle.node_rules.specs.declared.work.Work.{Work}
use Rattle.node_rules.specs.Words.{numbered, item_at, same}
use Rattle.node_rules.specs.NodeState.{NodeState, Stored, Branch, TurnDraft, live_id, work_id, work_or, live_at}
use Rattle.node_rules.specs.LiveBranches.{works_of}
use Rattle.node_rules.specs.declared.work.Errand.TheVariants as errands
use Rattle.node_rules.specs.Calls.{called, less_room, exec_to, waits_for_opened, with_edge}
use Rattle.node_rules.specs.Client.{new_root, fresh_root}
use Rattle.node_rules.specs.Names.{Behind, named_by, ref_of, passed_on, target_of}
use Rattle.node_rules.proofs.LiveLemmas.{branch_parts, work_is}
use Rattle.node_rules.proofs.StandLemmas.{live_so}
use Rattle.node_rules.proofs.Steps as steps
use Rattle.node_rules.proofs.Steps.{Asked, Is_opened}
use Rattle.run_rules.specs.Branches.{Seen, Trail, seen_id, seen_at, is_among, children_of as children_seen, children_at as told_children}
use Rattle.run_rules.specs.Data.{Turn, Happening}
use Rattle.run_rules.specs.Data.happenings
use Rattle.run_rules.specs.Facts.{Facts, node_at, records_at}
use Rattle.run_base_laws.specs.InTurnLaws.{NeedsNoRollback}
use Rattle.run_claims.specs.Knowledge.{PassesOn, asked_of}
use Rattle.run_rules.specs.Lawful.{History, IsLawfulRun}
use Rattle.run_rules.specs.Trail.{asked_after}
use Rattle.run_base_laws.proofs.InTurnLemmas.{numbered_last}
use Rattle.run_base_laws.proofs.StoredLemmas.{records_are_kept}
use Rattle.tree_laws.proofs.PrefixLemmas.{f_at}
use Rattle.tree_trail_laws.specs.OwnLaws.{TracesRoots}
use Rattle.tree_trail_laws.proofs.MomentLemmas.{tr_at}
use Rattle.tree_trail_laws.proofs.OwnAskLemmas.{asked_so}
use Rattle.tree_trail_laws.proofs.OwnKnowLemmas.{Knows, from_calls, from_stored}
use Rattle.tree_trail_laws.proofs.OwnStepLemmas.{From, Itself, Begun, Counted}
use Rattle.tree_trail_laws.proofs.OwnCallLemmas.{last_of}
use Rattle.tree_trail_laws.proofs.OwnTurnLemmas as own
use Rattle.tree_trail_laws.proofs.OwnTurnLemmas.{Owns}
use Rattle.tree_trail_laws.proofs.SeenLemmas.{seen_begun, seen_turned}
use Rattle.answer_origin_laws.proofs.LineLemmas.{GoesOver, goes_over, goes_through, edge_link, WaitsSo, ErrandSo, Line}
use Rattle.answer_origin_laws.proofs.LineRunLemmas.{GivenBy, CalledAt, stand_at}
use Rattle.answer_origin_laws.proofs.NameLemmas.{OneCatalog, catalog_kept, same_names}
use Rattle.answer_origin_laws.proofs.NumberLemmas.{all_numbered}
use Rattle.answer_origin_laws.proofs.OpenSentLemmas.{opened_sent}
use Rattle.answer_origin_laws.proofs.TurnTaleLemmas as tales
use Rattle.run_cause_laws.specs.PassLaws.{MayExec}
use Rattle.run_cause_laws.proofs.PassAskLemmas.{unasked}
use Rattle.run_cause_laws.proofs.PassStepLemmas.{NoExec, Passing, Child_back, Goes_over, Goes_through, Child_opened, Passes_none}
use Rattle.tree_laws.proofs.AtTurn.{at_turn}
use Rattle.tree_trail_laws.proofs.AtTrail.{at_trail}
use Rattle.run_base_laws.proofs.InTurnLemmas.{numbered_map}
use Rattle.tree_trail_laws.proofs.ChildRunLemmas.{tells_at}

-- What is known of a branch that waits for a child: the statement that it was asked, and the link that its table is behind.
pub record WaitsFor (D : Durable) (link : List ℕ) (o : Option Seen) (g : Going) : Type 0 where
  pub statement : Stmt
  pub asked : asked_of o ≡ Some statement
  pub table : List ℕ
  pub named : named_by D (ref_of statement) ≡ Behind link table
  pub room : ℕ
  pub passes : g.errand ≡ errands.Statement (passed_on statement table) room

-- of each live branch that does
abbrev pub EachWaits : Facts → Trail → Type 0
EachWaits f tr = (n : ℕ) (k : NodeState) → node_at f n ≡ Some k → (l : Live) → live_at k l.me ≡ Some l → (g : Going) (link : List ℕ) → (works_of k.works l.me).going ≡ Some g → g.waits ≡ waiting.ForOpened link
    → WaitsFor (durable (records_at f n)) link (seen_at tr l.me) g

-- a live branch more
last_live : (ls : List Live) (x : Live) (b : BranchId) (l : Live) → item_at live_id (ls ++ x ∷ []) b ≡ Some l → (item_at live_id ls b ≡ Some l) ⊎ (x ≡ l)
last_live [] x b l at = by (same x.me b) at
  where
    by : (q : Bool) → (if q then Some x else None) ≡ Some l → (item_at live_id [] b ≡ Some l) ⊎ (x ≡ l)
    by true at = (let it : Some x ≡ Some l = at in let one : x ≡ l = cc in inr one)
    by false at = absurd cc
last_live (y ∷ ls) x b l at = by (same y.me b) at (last_live ls x b l)
  where
    by : (q : Bool) → (if q then Some y else item_at live_id (ls ++ x ∷ []) b) ≡ Some l → (item_at live_id (ls ++ x ∷ []) b ≡ Some l → (item_at live_id ls b ≡ Some l) ⊎ (x ≡ l))
        → ((if q then Some y else item_at live_id ls b) ≡ Some l) ⊎ (x ≡ l)
    by true at later = inl at
    by false at later = later at

-- a child is among the children
slice_among : (cs : List BranchId) (i : ℕ) (c : BranchId) → slice_get cs i ≡ Some c → is_among c cs ≡ true
slice_among [] i c at = absurd cc
slice_among (d ∷ cs) zero c at = (let it : Some d ≡ Some c = at in let one : d ≡ c = cc in ap (λ q. q || is_among c cs) (same_from_equal d c one))
slice_among (d ∷ cs) (suc i) c at = by (same d c) (slice_among cs i c at)
  where
    by : (q : Bool) → is_among c cs ≡ true → (q || is_among c cs) ≡ true
    by true there = refl
    by false there = there

numbered_among : (cs : List BranchId) (i : ℕ) (c : BranchId) → numbered cs i ≡ Some c → is_among c cs ≡ true
numbered_among cs zero c at = absurd cc
numbered_among cs (suc i) c at = slice_among cs i c at

waits_apart : (g : Going) (i : ℕ) (link : List ℕ) → g.waits ≡ waiting.ForReply i → g.waits ≡ waiting.ForOpened link → ⊥
waits_apart g i link reply opened = absurd (cc (reply, opened))

module _ (t : History) (whole : IsLawfulRun t) (hs : List Happening) (u : Turn) (rest : List Happening) (is : hs ++ happenings.Turn u ∷ rest ≡ t.trace)
    (roots : TracesRoots t.places (f_at t hs) (tr_at t hs)) (owns : Owns (f_at t hs) (tr_at t hs)) (now : EachWaits (f_at t hs) (tr_at t hs)) where
  open at_turn t whole hs u rest is use {part as part0, s as s0, lawful as lawful0, f as f0, may, k, heard_k as k1, p, said}
  open at_trail t hs u use {tr as tr0, begun_tr as trb, tr_on as tr1}

  abbrev D0 : Durable
  D0 = durable (records_at f0 u.node)

  -- the children of a branch are told
  kids_told : (z : Live) → live_at k z.me ≡ Some z → told_children tr0 z.me ≡ children_of z
  kids_told z live = by z.parent refl
    where
      by : (o : Option BranchId) → z.parent ≡ o → told_children tr0 z.me ≡ children_of z
      by None root = (let it = roots.tops u.node k may.1.up z live root in ap children_seen it.1 ∙ it.2.children)
      by (Some q) above = (let it = (tells_at t whole hs part0).lower u.node k may.1.up z live (λ none. absurd (cc (above, none))) in ap children_seen it.1 ∙ it.3)

  -- its calls are told where it is below a root
  calls_told : (z : Live) → live_at k z.me ≡ Some z → (told : Knows k tr0 z.me) → z.parent ≢ None → told.seen.taken ≡ last_of k z.me
  calls_told z live told below =
      let it = (tells_at t whole hs part0).lower u.node k may.1.up z live below in
      let both : Some it.0 ≡ Some told.seen = sym it.1 ∙ told.at in
      let one : it.0 ≡ told.seen = cc in
      told.taken (λ none. below (sym it.2 ∙ (ap (λ (y : Seen). y.parent) one ∙ none)))

  -- ---- a branch that waits

  -- one that waits does so as before
  waits_on : (z : Live) → live_at k z.me ≡ Some z → (g : Going) → (works_of k.works z.me).going ≡ Some g → (link : List ℕ) → g.waits ≡ waiting.ForOpened link → WaitsFor D0 link (seen_at tr1 z.me) g
  waits_on z live g going link waits =
      let was = now u.node k may.1.up z live g link going waits in
      let told : Knows k tr0 z.me = own.known t whole hs u rest is roots owns u.node k may.1.up z live in
      record {
        statement = was.statement;
        asked = ap asked_of (seen_turned t.places f0 tr0 u z.me told.seen told.at) ∙ (unasked t whole hs u rest is z live g going told.seen told.at (calls_told z live told) ∙ (sym (ap asked_of told.at) ∙ was.asked));
        table = was.table;
        named = was.named;
        room = was.room;
        passes = was.passes;
      }

  -- the same by its id
  old_waits : (b : BranchId) (g : Going) (link : List ℕ) → (works_of k.works b).going ≡ Some g → g.waits ≡ waiting.ForOpened link → WaitsFor D0 link (seen_at tr1 b) g
  old_waits b g link going waits = by (live_at k b) refl
    where
      by : (o : Option Live) → live_at k b ≡ o → WaitsFor D0 link (seen_at tr1 b) g
      by None none =
          let free : (works_of k.works b).going ≡ None = ap (λ o. (work_or b o).going) (tales.there t whole hs u rest is b none) in absurd (cc (free, going))
      by (Some z) found =
          let me : z.me ≡ b = item_is live_id k.lives b z found in
          let live : live_at k z.me ≡ Some z = subst (λ c. live_at k c ≡ Some z) (sym me) found in
          let mine : (works_of k.works z.me).going ≡ Some g = subst (λ c. (works_of k.works c).going ≡ Some g) (sym me) going in
          subst (λ c. WaitsFor D0 link (seen_at tr1 c) g) me (waits_on z live g mine link waits)

  works_are : k1.works ≡ k.works
  works_are = tales.heard_works t whole hs u rest is u.input

  heard_waits : (b : BranchId) (g : Going) (link : List ℕ) → (works_of k1.works b).going ≡ Some g → g.waits ≡ waiting.ForOpened link → WaitsFor D0 link (seen_at tr1 b) g
  heard_waits b g link going waits = old_waits b g link (ap (λ ws. (works_of ws b).going) (sym works_are) ∙ going) waits

  -- ---- the node of a statement

  from_works : {i j : NodeState} → From p u.input i j → j.works ≡ i.works
  from_works (Itself i) = refl
  from_works (Begun n s read_at call begins new from) = from_works from
  from_works (Counted n s call counts from) = from_works from

  cat : OneCatalog k1.stored.durable D0
  cat = subst (λ (s : Stored). OneCatalog s.durable D0) (sym (tales.heard_stored t whole hs u rest is u.input)) (catalog_kept k (records_at f0 u.node) (records_are_kept s0 lawful0 u.node k may.1.up))

  from_cat : {j : NodeState} → From p u.input k1 j → OneCatalog j.stored.durable D0
  from_cat from = subst (λ (s : Stored). OneCatalog s.durable D0) (from_stored p u.input from) cat

  abbrev Leads : List Edge → Type 0
  Leads es = AllByRecursion (λ (e : Edge). target_of p D0 e.link ≡ Some e.peer.node) es

  abbrev LeadsAll : NodeState → Type 0
  LeadsAll j = (b : BranchId) (l : Live) → live_at j b ≡ Some l → Leads l.edges

  line : (b : BranchId) (l : Live) → live_at k b ≡ Some l → Line p D0 (GivenBy t whole hs) (CalledAt t whole) said (NeedsNoRollback k l) l.me l.edges (works_of k.works b)
  line b l live = (stand_at t whole hs part0 u.node k may.1.up).each b l live

  lives_are : (b : BranchId) (l : Live) → live_at k1 b ≡ Some l → live_at k b ≡ Some l
  lives_are b l live = ap (λ (ls : List Live). item_at live_id ls b) (sym (own.heard_same t whole hs u rest is roots owns u.input).2) ∙ live

  heard_leads : LeadsAll k1
  heard_leads b l live = (line b l (lives_are b l live)).leads

  from_leads : {i j : NodeState} → From p u.input i j → LeadsAll i → LeadsAll j
  from_leads (Itself i) leads = leads
  from_leads (Counted n s call counts from) leads = from_leads from leads
  from_leads (Begun {k = i} n s read_at call begins new from) leads = from_leads from (λ b l live. elim (last_live i.lives (fresh_root p i (new_root p i n) read_at) b l live) [
    | inl before ↦ leads b l before
    | inr last ↦ subst (λ (y : Live). Leads y.edges) last tt
  ])

  asked_leads : {j : NodeState} → LeadsAll j → {x : Branch} {s : Stmt} {given : ℕ} → Asked j u.input x s given → Leads x.live.edges
  asked_leads {j = j} leads (steps.By_call n x s call rows has code found may) = leads x.live.me x.live (live_so j x.live.me x found)
  asked_leads {j = j} leads (steps.By_exec x from call given advice s came found runs) = leads x.live.me x.live (live_so j x.live.me x found)

  asked_mine : {j : NodeState} {x : Branch} {s : Stmt} {given : ℕ} → Asked j u.input x s given → x.work.branch ≡ x.live.me
  asked_mine {j = j} (steps.By_call n x s call rows has code found may) = work_is j x.live.me x found
  asked_mine {j = j} (steps.By_exec x from call given advice s came found runs) = work_is j x.live.me x found

  number : p.number ≡ u.node
  number = tales.number t whole hs u rest is

  passes_so : (s : Stmt) (to : BranchId) (link table : List ℕ) → named_by D0 (ref_of s) ≡ Behind link table → target_of p D0 link ≡ Some to.node → PassesOn p f0 s to (passed_on s table)
  passes_so s to link table named leads = record {
    link = link;
    table = table;
    named = subst (λ n. named_by (durable (records_at f0 n)) (ref_of s) ≡ Behind link table) (sym number) named;
    leads = subst (λ n. target_of p (durable (records_at f0 n)) link ≡ Some to.node) (sym number) leads;
    same = refl;
  }

  module _ (uncut : u.cut ≡ false) (rs : List RedoRecord) where
    asked_now : {j : NodeState} → From p u.input k1 j → {x : Branch} {s : Stmt} {given : ℕ} → Asked j u.input x s given → Knows k1 trb x.live.me → asked_of (seen_at tr1 x.live.me) ≡ Some s
    asked_now {j = j} from {x = x} {s = s} asked told =
        let it = asked_so trb u.node u.input j asked (own.roots_are t whole hs u rest is roots owns uncut j from) (
          told.seen,
          told.at,
          item_is seen_id trb.seen x.live.me told.seen told.at,
          told.live,
          (λ uncalled. told.taken (own.run_below t whole hs u rest is roots owns uncut from asked uncalled told) ∙ from_calls p u.input from x.live.me),
        ) in
        let me : told.seen.me ≡ x.live.me = item_is seen_id trb.seen x.live.me told.seen told.at in
        ap asked_of (seen_begun t.places f0 tr0 u x.live.me told.seen told.at)
        ∙ (ap (asked_after told.seen) it.1 ∙ ap (λ q. if q then Some s else told.seen.asked) (same_from_equal it.0.me told.seen.me (it.2 ∙ sym me)))

    abbrev Told : TurnDraft → Type 0
    Told e = (l : Live) → live_at e.after l.me ≡ Some l → Knows k1 trb l.me

    -- ---- what waits after the turn

    pub waits_after : {e : TurnDraft} → Passing p u.input k1 e → Told e → (l : Live) → live_at e.after l.me ≡ Some l → (g : Going) (link : List ℕ) → (works_of e.after.works l.me).going ≡ Some g → g.waits ≡ waiting.ForOpened link → WaitsFor D0 link (seen_at tr1 l.me) g
    waits_after (Goes_over j from x s given i table asked way) told l live g link going waits =
        elim (put_or_before work_id j.works (called j.sessions x i (errands.Statement (passed_on s table) given)).work l.me) [
          | inl before ↦ heard_waits l.me g link (ap (λ ws. (works_of ws l.me).going) (sym (from_works from)) ∙ (ap (λ o. (work_or l.me o).going) (sym before) ∙ going)) waits
          | inr new ↦ (let it : Some (record { errand = errands.Statement (passed_on s table) given; waits = waiting.ForReply i }) ≡ Some g = ap (λ o. (work_or l.me o).going) (sym new.1) ∙ going in
              let one : record { errand = errands.Statement (passed_on s table) given; waits = waiting.ForReply i } ≡ g = cc in
              absurd (waits_apart g i link (ap (λ (y : Going). y.waits) (sym one)) waits))
        ]
    waits_after (Goes_through j from x s given node through table asked way) told l live g link going waits =
        elim (put_or_before work_id j.works (waits_for_opened x through (passed_on s table) given).work l.me) [
          | inl before ↦ heard_waits l.me g link (ap (λ ws. (works_of ws l.me).going) (sym (from_works from)) ∙ (ap (λ o. (work_or l.me o).going) (sym before) ∙ going)) waits
          | inr new ↦ (let it : Some (record { errand = errands.Statement (passed_on s table) given; waits = waiting.ForOpened through }) ≡ Some g = ap (λ o. (work_or l.me o).going) (sym new.1) ∙ going in
              let one : record { errand = errands.Statement (passed_on s table) given; waits = waiting.ForOpened through } ≡ g = cc in
              let both : waiting.ForOpened through ≡ waiting.ForOpened link = ap (λ (y : Going). y.waits) one ∙ waits in
              let same_link : through ≡ link = cc in
              let me : x.live.me ≡ l.me = sym (asked_mine asked) ∙ new.0 in
              let is_behind : named_by D0 (ref_of s) ≡ Behind through table = sym (same_names j.stored.durable D0 (from_cat from) (ref_of s)) ∙ (goes_through p j.stored.durable x.live given s node through table way).0 in
              record {
                statement = s;
                asked = subst (λ b. asked_of (seen_at tr1 b) ≡ Some s) me (asked_now from asked (told x.live (put_found live_id j.lives x.live)));
                table = table;
                named = subst (λ y. named_by D0 (ref_of s) ≡ Behind y table) same_link is_behind;
                room = given;
                passes = ap (λ (y : Going). y.errand) (sym one);
              })
        ]
    waits_after (Child_opened x from strength w over opened) told l live g link going waits =
        let y : Branch = with_edge x (new_edge from over strength) in
        elim (put_or_before work_id k1.works (called k1.sessions y (length x.live.edges + 1) (less_room w.errand)).work l.me) [
          | inl before ↦ heard_waits l.me g link (ap (λ o. (work_or l.me o).going) (sym before) ∙ going) waits
          | inr new ↦ (let it : Some (record { errand = less_room w.errand; waits = waiting.ForReply (length x.live.edges + 1) }) ≡ Some g = ap (λ o. (work_or l.me o).going) (sym new.1) ∙ going in
              let one : record { errand = less_room w.errand; waits = waiting.ForReply (length x.live.edges + 1) } ≡ g = cc in
              absurd (waits_apart g (length x.live.edges + 1) link (ap (λ (z : Going). z.waits) (sym one)) waits))
        ]
    waits_after (Child_back j x i step z back live_z me kids works) told l live g link going waits =
        elim (put_or_before work_id j.works (called j.sessions x i (errands.GoBack step)).work l.me) [
          | inl before ↦ heard_waits l.me g link (ap (λ ws. (works_of ws l.me).going) (sym works) ∙ (ap (λ o. (work_or l.me o).going) (sym before) ∙ going)) waits
          | inr new ↦ (let it : Some (record { errand = errands.GoBack step; waits = waiting.ForReply i }) ≡ Some g = ap (λ o. (work_or l.me o).going) (sym new.1) ∙ going in
              let one : record { errand = errands.GoBack step; waits = waiting.ForReply i } ≡ g = cc in
              absurd (waits_apart g i link (ap (λ (y : Going). y.waits) (sym one)) waits))
        ]
    waits_after (Passes_none e says waited) told l live g link going waits = heard_waits l.me g link (waited l.me g link going waits) waits

    -- ---- what is passed on

    abbrev SaidSo : List Post → Type 0
    SaidSo says = AllByRecursion (λ (x : Post). MayExec p f0 tr0 tr1 rs u.input x.from x.to x.kind) says

    other_so : (b to : BranchId) (kind : Kind) → NoExec kind → MayExec p f0 tr0 tr1 rs u.input b to kind
    other_so b to (kinds.Exec call task) none = absurd cc
    other_so b to _ none = tt

    -- over a link that is open
    over_so : (ss : List Session) (x : Branch) (s sent : Stmt) (given i : ℕ) (link table : List ℕ) → asked_of (seen_at tr1 x.live.me) ≡ Some s → named_by D0 (ref_of s) ≡ Behind link table → sent ≡ passed_on s table
        → (o : Option Edge) → ((e : Edge) → o ≡ Some e → target_of p D0 link ≡ Some e.peer.node) → SaidSo (exec_to ss x i (errands.Statement sent given) (option_map (λ (e : Edge). e.peer) o))
    over_so ss x s sent given i link table asked named passes None leads = tt
    over_so ss x s sent given i link table asked named passes (Some e) leads = ((s, asked, subst (PassesOn p f0 s e.peer) (sym passes) (passes_so s e.peer link table named (leads e refl))), tt)

    module _ (x : Branch) (from : BranchId) (strength : ℕ) (g : Going) (link : List ℕ) (opened : Is_opened k1 u.input x from strength g link) where
      parts : (item_at live_id k1.lives x.live.me ≡ Some x.live) × (x.work ≡ works_of k1.works x.live.me)
      parts = branch_parts k1 x.live.me x opened.live

      its_going : (works_of k.works x.live.me).going ≡ Some g
      its_going = ap (λ ws. (works_of ws x.live.me).going) (sym works_are) ∙ (ap (λ (w : Work). w.going) (sym parts.1) ∙ opened.going)

      opened_leads : target_of p D0 link ≡ Some from.node
      opened_leads =
          let was = (line x.live.me x.live (lives_are x.live.me x.live parts.0)).waits g its_going in
          let it = heard_waits x.live.me g link (ap (λ (w : Work). w.going) (sym parts.1) ∙ opened.going) opened.waits in
          let of_statement = subst (λ o. ErrandSo p D0 (GivenBy t whole hs) (CalledAt t whole) said x.live.me x.live.edges (works_of k.works x.live.me) o g.waits) it.passes was in
          let so = subst (WaitsSo p D0 (GivenBy t whole hs) (CalledAt t whole) said x.live.me x.live.edges (works_of k.works x.live.me) of_statement.0 (passed_on it.statement it.table)) opened.waits of_statement.2 in
          let sent = opened_sent t whole hs u rest is from x.live.me opened.edge strength opened.came in
          let edge_is : opened.edge ≡ length x.live.edges + 1 = grind (arith, nat_tests, opened.new) in
          all_numbered (λ (z : Post). z.from ≡ x.live.me → (edge : ℕ) (root : BranchId) (depth : ℕ) (read_at : Option ℕ) → z.kind ≡ kinds.Open edge root depth read_at → edge ≡ length x.live.edges + 1 → target_of p D0 link ≡ Some z.to.node) said sent.number sent.sent so.3 sent.at
          sent.from opened.edge sent.root sent.depth sent.read_at sent.kind edge_is
          ∙ ap Some sent.to

      opened_so : SaidSo (exec_to k1.sessions (with_edge x (new_edge from link strength)) (length x.live.edges + 1) (less_room g.errand) (peer_of (with_edge x (new_edge from link strength)).live (length x.live.edges + 1)))
      opened_so =
          let y : Branch = with_edge x (new_edge from link strength) in
          let it = heard_waits x.live.me g link (ap (λ (w : Work). w.going) (sym parts.1) ∙ opened.going) opened.waits in
          let last : numbered (x.live.edges ++ new_edge from link strength ∷ []) (length x.live.edges + 1) ≡ Some (new_edge from link strength)
          = subst (λ n. numbered (x.live.edges ++ new_edge from link strength ∷ []) n ≡ Some (new_edge from link strength)) (let same_number : suc (length x.live.edges) ≡ length x.live.edges + 1 = omega arith in same_number) (numbered_last x.live.edges (new_edge from link strength)) in
          subst (λ o. SaidSo (exec_to k1.sessions y (length x.live.edges + 1) (less_room o) (peer_of y.live (length x.live.edges + 1)))) (sym it.passes) (
          over_so k1.sessions y it.statement (passed_on it.statement it.table) (it.room - 1) (length x.live.edges + 1) link it.table it.asked it.named refl (edge_at y.live (length x.live.edges + 1))
          (λ e at. (let both : Some (new_edge from link strength) ≡ Some e = sym last ∙ at in let one : new_edge from link strength ≡ e = cc in subst (λ (z : Edge). target_of p D0 link ≡ Some z.peer.node) one opened_leads)))

    pub says_so : {e : TurnDraft} → Passing p u.input k1 e → Told e → SaidSo e.says
    says_so (Goes_over j from x s given i table asked way) told =
        let over : GoesOver p j.stored.durable x.live given s i table = goes_over p j.stored.durable x.live given s i table way in
        over_so j.sessions x s (passed_on s table) given i over.link table (asked_now from asked (told x.live (put_found live_id j.lives x.live)))
        (sym (same_names j.stored.durable D0 (from_cat from) (ref_of s)) ∙ over.named) refl (edge_at x.live i)
        (λ e at. (let link_is : e.link ≡ over.link = edge_link x.live over.link i e over.edge at in
        ap (target_of p D0) (sym link_is) ∙ all_numbered (λ (y : Edge). target_of p D0 y.link ≡ Some y.peer.node) x.live.edges i e (asked_leads (from_leads from heard_leads) asked) at))
    says_so (Goes_through j from x s given node link table asked way) told = (tt, tt)
    says_so (Child_opened x from strength g link opened) told = opened_so x from strength g link opened
    says_so (Child_back j x i step z back live me kids works) told = to_child (peer_of x.live i) refl
      where
        to_child : (o : Option BranchId) → peer_of x.live i ≡ o → SaidSo (exec_to j.sessions x i (errands.GoBack step) o)
        to_child None none = tt
        to_child (Some c) there =
            let at : told_children tr0 x.live.me ≡ children_of z = ap (told_children tr0) me ∙ kids_told z (lives_are z.me z live) in
            (ap (is_among c) at ∙ (ap (is_among c) (sym kids) ∙ numbered_among (children_of x.live) i c (numbered_map x.live.edges i ∙ there)), tt)
    says_so (Passes_none e says waited) told = others e.says says
      where
        others : (xs : List Post) → AllByRecursion (λ (x : Post). NoExec x.kind) xs → SaidSo xs
        others [] all = tt
        others (x ∷ xs) all = (other_so x.from x.to x.kind all.0, others xs all.1)
