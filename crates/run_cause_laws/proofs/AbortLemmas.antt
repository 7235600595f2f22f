-- In a lawful run where what is told of live branches is what their nodes keep, Abort is said on Prepare to a branch that is gone, or on a
-- child's Abort.
use Rattle.std.proofs.Common.{◌≡◌, ◌≢◌, ℕ, Bool, true, false, if◌then◌else◌, is_none, List, [], ◌∷◌, ◌++◌, map, Option, Some, None, inl, inr, refl, sym, ap, subst, ◌∙◌}
use Rattle.std.specs.Option.{option_to_list}
use Rattle.std.specs.List.{AllByRecursion}
use Rattle.tran_ids.proofs.ListedLemmas.{item_is}
use Rattle.redo_record.specs.Durable.{durable}
use Rattle.agreement.specs.Events.{Exit, exit}
use Rattle.node_rules.specs.Data.{BranchId, Kind, Live, Msg, RedoRecord, KeptRow, Input}
use Rattle.node_rules.specs.Data.inputs
use Rattle.node_rules.specs.Data.kinds
use Rattle.node_rules.specs.Data.votes
use Rattle.node_rules.specs.Inputs.{Came}
use Rattle.node_rules.specs.Words.{same, item_at}
use Rattle.node_rules.specs.NodeState.{NodeState, Stored, Branch, live_at, kept_row_id, kept_row_at, branch_at, with_work}
use Rattle.node_rules.specs.Records.{nothing_stored}
use Rattle.node_rules.specs.Turn.{Is_gone, kept_or_gone, live_or, status_of, heard, stamped}
use Rattle.node_rules.proofs.Steps.{Answers}
use Rattle.run_rules.specs.Births.{Born, births_of, born_at}
use Rattle.run_base_laws.specs.BirthLaws.{Began, IsChild, GoesSo}
use Rattle.run_rules.specs.Branches.{Live as Told_live, Gone, Seen, seen_id, seen_at, is_live, is_among, life_kept, life_of, life_at}
use Rattle.run_rules.specs.Data.{Took, Turn, Happening}
use Rattle.run_rules.specs.Data.happenings
use Rattle.run_rules.specs.Facts.{node_at, records_at}
use Rattle.run_claims.specs.Knowledge.{IsAbortTo}
use Rattle.run_rules.specs.Lawful.{Comes, History, IsLawfulRun}
use Rattle.run_base_laws.specs.NodeLaws.{unacked_row}
use Rattle.run_base_laws.specs.RunEvents.{lives_at}
use Rattle.run_base_laws.proofs.BirthRunLemmas.{born_are_live_or_left, messages_are_of_neighbors}
use Rattle.run_base_laws.proofs.BirthsStandLemmas.{came_so}
use Rattle.run_base_laws.proofs.LawfulLemmas.{of_sent, serves}
use Rattle.run_rules.proofs.ListLemmas.{all_weaker, all_map}
use Rattle.run_base_laws.proofs.StoredLemmas.{StoresOf, records_are_kept}
use Rattle.tree_laws.proofs.PrefixLemmas.{f_at, e_at}
use Rattle.book_laws.proofs.ForceLemmas.{one_born}
use Rattle.tree_laws.proofs.FateLemmas.{among_found}
use Rattle.tree_trail_laws.proofs.FullLemmas.{Sees, SeesAll, full}
use Rattle.tree_trail_laws.proofs.MomentLemmas.{tr_at, at_moment, by_moment}
use Rattle.tree_trail_laws.proofs.SeenRunLemmas.{all_is_seen}
use Rattle.run_cause_laws.specs.AbortLaws.{MayAbort, AbortsDuly, AbortsAreDue}
use Rattle.tree_trail_laws.proofs.LeftExitLemmas.{abort_first, abort_came}
use Rattle.tree_trail_laws.proofs.LeftLemmas.{IsToldLeft, left_are_told}
use Rattle.run_branch_laws.proofs.AbortStepLemmas.{Was_gone, Hears_one, AbortSo, aborts_on}
use Rattle.tree_laws.proofs.AtTurn.{at_turn}
use Rattle.tree_trail_laws.proofs.AtTrail.{at_trail}
use Rattle.tree_laws.proofs.AckForestLemmas.{gone_before as heard_gone}
use Rattle.book_laws.proofs.KeptLemmas.{durable_stored}
use Rattle.run_cause_laws.proofs.QuietLemmas.{exit_or as some_or_none}

-- ---- a branch of which its node knows nothing

row_none : (ks : List KeptRow) (b : BranchId) → item_at kept_row_id ks b ≡ None → item_at kept_row_id (map unacked_row ks) b ≡ None
row_none [] b none = refl
row_none (x ∷ ks) b none = by (same x.me b) none (row_none ks b)
  where
    by : (q : Bool) → (if q then Some x else item_at kept_row_id ks b) ≡ None → (item_at kept_row_id ks b ≡ None → item_at kept_row_id (map unacked_row ks) b ≡ None) → (if q then Some (unacked_row x) else item_at kept_row_id (map unacked_row ks) b) ≡ None
    by true none rest = absurd cc
    by false none rest = rest none

-- its records make no row of it either
no_row : (k : NodeState) (rs : List RedoRecord) (b : BranchId) → StoresOf rs k → kept_row_at k b ≡ None → item_at kept_row_id (durable rs).kept b ≡ None
no_row k rs b stored none =
    let rows : map unacked_row k.stored.durable.kept ≡ (durable rs).kept = ap (λ (s : Stored). s.durable.kept) stored ∙ ap (λ d. d.kept) (durable_stored nothing_stored rs) in
    subst (λ (ks : List KeptRow). item_at kept_row_id ks b ≡ None) rows (row_none k.stored.durable.kept b none)

kept_none : (o : Option KeptRow) → kept_or_gone o ≡ Is_gone → o ≡ None
kept_none None is = refl
kept_none (Some s) is = absurd (cc is)

gone_parts : (l : Option Branch) (o : Option KeptRow) → live_or l o ≡ Is_gone → (l ≡ None) × (o ≡ None)
gone_parts None o is = (refl, kept_none o is)
gone_parts (Some x) o is = absurd (cc is)

gone_so : (k : NodeState) (b : BranchId) → status_of k b ≡ Is_gone → (branch_at k b ≡ None) × (kept_row_at k b ≡ None)
unfolding status_of
gone_so k b is = gone_parts (branch_at k b) (kept_row_at k b) is

heard_live : (k : NodeState) (input : Input) (b : BranchId) → live_at (heard k input) b ≡ live_at k b
heard_live k (inputs.Message y) b = refl
heard_live k (inputs.Call n o) b = refl
heard_live k (inputs.GiveUp n) b = refl
heard_live k inputs.Reco b = refl
heard_live k inputs.Checkpoint b = refl

-- ---- a turn

module _ (t : History) (whole : IsLawfulRun t) (sees : SeesAll t) (hs : List Happening) (u : Turn) (rest : List Happening) (is : hs ++ happenings.Turn u ∷ rest ≡ t.trace) where
  open at_turn t whole hs u rest is use {s as s0, part as part0, lawful as lawful0, f as f0, may, k, p, d}
  open at_trail t hs u use {tr as tr0, tr_on as tr1}

  saw : Sees f0 tr0
  saw = at_moment t (λ places f tr h. Sees f tr) sees hs (happenings.Turn u) rest is

  abbrev B : Born → Type 0
  B = Began (births_of s0)

  came_here : (b from : BranchId) (kind : Kind) → Came u.input from b kind → b.node ≡ u.node
  came_here b from kind came = by u.took (subst (λ i. Comes f0 k u.node i u.took) came.is may.1.comes)
    where
      by : (took : Option Took) → Comes f0 k u.node (inputs.Message (record { from = from; to = b; scn = came.scn; kind = kind })) took → b.node ≡ u.node
      by None comes = absurd comes
      by (Some x) comes = comes.1.here

  -- one that is gone has left
  gone_left : (b from : BranchId) → IsChild B b from → node_at f0 b.node ≡ Some k → branch_at k b ≡ None → (x : Exit) × (exit (e_at t hs) b ≡ Some x)
  gone_left b from child up none =
      let born : born_at (births_of s0) b ≡ Some child.0 = subst (λ c. born_at (births_of s0) c ≡ Some child.0) child.2 child.1 in
      elim (born_are_live_or_left s0 lawful0 b (λ unborn. absurd (cc (born, unborn)))) [
        | inl out ↦ elim (some_or_none (exit (e_at t hs) b)) [ inl stays ↦ absurd (out stays) | inr some ↦ some ]
        | inr among ↦ (let l = among_found k.lives b (subst (λ o. is_among b (lives_at o) ≡ true) up among) in
            let there : live_at k b ≡ Some l.0 = l.1 in
            let found = ap (with_work k) there in
            absurd (cc (found, none)))
      ]

  -- and is told so
  told_gone : (b from : BranchId) → IsChild B b from → (it : IsToldLeft (births_of s0) f0 tr0 b) → item_at kept_row_id (durable (records_at f0 b.node)).kept b ≡ None → life_at f0 tr0 b ≡ Gone
  unfolding life_at
  told_gone b from child it none =
      let one : it.born ≡ child.0 = one_born (births_of s0) it.born child.0 it.began child.1 (it.is_me ∙ sym child.2) in
      let below : it.born.parent ≢ None = (λ root. (let above : it.born.parent ≡ Some from = ap (λ (x : Born). x.parent) one ∙ child.3 in absurd (cc (above, root)))) in
      let out : is_live it.seen ≡ false = elim (it.left below) [
        | inl some ↦ ap is_none some.1
        | inr stops ↦ (let upright = may.1.settled.upright in absurd (cc (upright, stops)))
      ] in
      ap (life_of f0 b) it.at ∙ (ap (λ q. if q then Told_live else life_kept (item_at kept_row_id (durable (records_at f0 b.node)).kept b)) out ∙ ap life_kept none)

  gone_told : (b from : BranchId) (sb : Bool) (comment : List ℕ) → Came u.input from b (kinds.Prepare sb comment) → status_of k b ≡ Is_gone → life_at f0 tr0 b ≡ Gone
  gone_told b from sb comment came gone =
      let parts = gone_so k b gone in
      let up : node_at f0 b.node ≡ Some k = ap (node_at f0) (came_here b from (kinds.Prepare sb comment) came) ∙ may.1.up in
      let child : IsChild B b from = came_so (GoesSo B) f0 (messages_are_of_neighbors s0 lawful0) k u.node u.input u.took may.1.comes from b (kinds.Prepare sb comment) came in
      let left : (x : Exit) × (exit (e_at t hs) b ≡ Some x) = gone_left b from child up parts.0 in
      told_gone b from child (left_are_told t whole sees hs part0 b left.0 left.1) (no_row k (records_at f0 b.node) b (records_are_kept s0 lawful0 b.node k up) parts.1)

  -- one that hears a child's Abort
  abort_told : (b : BranchId) (z : Live) (from : BranchId) (sb : Bool) → live_at k z.me ≡ Some z → z.me ≡ b → Answers u.input z from votes.Abort sb → IsAbortTo tr0 b u.input
  abort_told b z from sb found me answers =
      let it = saw.lives u.node k may.1.up z found in
      let s : Seen = it.0 in
      let s_me : s.me ≡ z.me = item_is seen_id tr0.seen z.me s it.1 in
      let m : Msg = record { from = from; to = z.me; scn = answers.came.scn; kind = kinds.Abort } in
      (s, m, record { seen = subst (λ c. seen_at tr0 c ≡ Some s) me it.1; came = abort_came u.node None u.input u.sent z s s_me it.2.told from sb answers; first = abort_first u.node None u.input u.sent z s s_me it.2.told from sb answers }, refl)

  abort_due : (rs : List RedoRecord) (b to : BranchId) (kind : Kind) → AbortSo (heard k u.input) u.input b kind → MayAbort p f0 tr0 tr1 rs u.input b to kind
  abort_due rs b to kinds.Abort (Was_gone from sb comment came gone) = inl (gone_told b from sb comment came (heard_gone k u.input b gone), (from, sb, comment, came))
  abort_due rs b to kinds.Abort (Hears_one z from sb found me answers) = inr (abort_told b z from sb (sym (heard_live k u.input z.me) ∙ found) me answers)
  abort_due rs b to _ so = tt

  pub turn_aborts : AbortsDuly t.places f0 tr0 (happenings.Turn u)
  turn_aborts =
      let rs : List RedoRecord = records_at f0 u.node ++ option_to_list u.wrote in
      of_sent p k u (serves t.places f0 u k may.1) (λ w ms. AllByRecursion (λ m. MayAbort p f0 tr0 tr1 rs u.input m.from m.to m.kind) ms) tt
      (all_map (λ (m : Msg). MayAbort p f0 tr0 tr1 rs u.input m.from m.to m.kind) (stamped d.after.clock) d.says
      (all_weaker _ _ (λ x so. abort_due rs x.from x.to x.kind so) d.says (aborts_on p u.input (serves t.places f0 u k may.1).step)))

pub aborts_are_due : AbortsAreDue
aborts_are_due t lawful = by_moment t AbortsDuly each
  where
    each : (hs : List Happening) (h : Happening) (rest : List Happening) → hs ++ h ∷ rest ≡ t.trace → AbortsDuly t.places (f_at t hs) (tr_at t hs) h
    each hs (happenings.Turn u) rest is = turn_aborts t lawful (full t lawful (all_is_seen t lawful)) hs u rest is
    each hs _ rest is = tt
