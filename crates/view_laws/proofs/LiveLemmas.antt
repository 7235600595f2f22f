-- Where a command begins, a branch that is live by the branch history is live at its node, and is collecting there.
use Rattle.std.proofs.Common.{◌≡◌, ◌≢◌, ℕ, ◌&&◌, not, Bool, true, false, if◌then◌else◌, List, [], ◌∷◌, ◌++◌, map, slice_get, codes, is_some, is_none, Option, Some, None, inl, inr, refl, sym, ap, subst, ◌∙◌}
use Rattle.tran_ids.proofs.ListedLemmas.{item_is}
use Rattle.pending_view.specs.Views.{Pending, is_working, has_sent_prepare, pending_live}
use Rattle.agreement.specs.Events.{Exit, exit}
use Rattle.node_rules.specs.Data.{Advice, BranchId, Edge, Live, Phase}
use Rattle.node_rules.specs.Data.phases
use Rattle.node_rules.specs.NodeState.{NodeState, live_id, live_at}
use Rattle.run_rules.specs.Births.{births_of, born_at}
use Rattle.run_rules.specs.Branches.{Seen, seen_id, seen_at, is_among}
use Rattle.run_rules.specs.Data.{Happening}
use Rattle.run_rules.specs.Data.happenings
use Rattle.run_rules.specs.Facts.{node_at}
use Rattle.run_rules.specs.Lawful.{History, IsLawfulRun, NothingComesFirst}
use Rattle.run_base_laws.specs.RunEvents.{lives_at}
use Rattle.run_base_laws.proofs.BirthRunLemmas.{born_are_live_or_left}
use Rattle.run_base_laws.proofs.EventsStandLemmas.{nodes_are_as_events}
use Rattle.run_base_laws.proofs.OwnLemmas.{all_found}
use Rattle.tree_laws.proofs.FateLemmas.{among_found}
use Rattle.tree_laws.proofs.PrefixLemmas.{so_far, f_at, e_at}
use Rattle.tree_laws.proofs.TimeLemmas.{Part, part_lawful, part_of, may_of}
use Rattle.tree_trail_laws.specs.LowerLaws.{IsTracedLive}
use Rattle.tree_trail_laws.specs.SeenLaws.{TracesOwns}
use Rattle.tree_trail_laws.specs.SeenLaws as seen
use Rattle.tree_trail_laws.proofs.FullLemmas.{Sees, full}
use Rattle.tree_trail_laws.proofs.MomentLemmas.{tr_at, at_moment, by_moment}
use Rattle.tree_trail_laws.proofs.SeenRunLemmas.{all_is_seen}
use Rattle.tree_trail_laws.proofs.TopBackLemmas.{Back}
use Rattle.tree_trail_laws.proofs.TopBirthLemmas.{IsBorn}
use Rattle.tree_trail_laws.proofs.TopFollowLemmas.{tops_at}
use Rattle.tree_trail_laws.proofs.TopTurnLemmas.{Tops}
use Rattle.tree_trail_laws.proofs.LeftLemmas.{IsToldLeft, left_are_told}
use Rattle.view_laws.specs.BranchRows.{is_collecting, pending_collecting, pending_seen}
use Rattle.view_laws.proofs.CollectLemmas.{GivesAt, LiveGot}
use Rattle.view_laws.proofs.CollectRunLemmas.{all_given}
use Rattle.view_laws.proofs.GivenLemmas.{g_at}

-- the row of a live branch, if it has sent Prepare
abbrev pub live_rows : Option Live → List Pending
live_rows None = []
live_rows (Some l) = if has_sent_prepare l then pending_live l ∷ [] else []

-- a row of that state
abbrev collecting_row : BranchId → BranchId → Option Advice → List ℕ → Pending
collecting_row me root advice comment = record { me = me; root = root; state = codes "collecting"; mixed = false; advice = advice; comment = comment; number = None }

first_edge : (es : List Edge) → is_some (slice_get (map (λ (e : Edge). e.peer) es) 0) ≡ is_some (slice_get es 0)
first_edge [] = refl
first_edge (e ∷ es) = refl

collecting_same : (l : Live) (s : Seen) → IsTracedLive l s → is_collecting s ≡ has_sent_prepare l
collecting_same l s told = by l.phase refl
  where
    live : is_collecting s ≡ (s.collects && is_some (slice_get s.children 0))
    live = ap (λ o. is_none o && (s.collects && is_some (slice_get s.children 0))) told.live

    edges : is_some (slice_get s.children 0) ≡ is_some (slice_get l.edges 0)
    edges = ap (λ cs. is_some (slice_get cs 0)) told.children ∙ first_edge l.edges

    at_work : (q : Bool) → is_working l.phase ≡ q → has_sent_prepare l ≡ (not q && is_some (slice_get l.edges 0))
    at_work q is = ap (λ w. not w && is_some (slice_get l.edges 0)) is

    asked : (l.phase ≢ phases.Working) → is_working l.phase ≡ false → is_collecting s ≡ has_sent_prepare l
    asked out is = live ∙ (ap (λ q. q && is_some (slice_get s.children 0)) (told.collects out).0 ∙ (edges ∙ sym (at_work false is)))

    by : (p : Phase) → l.phase ≡ p → is_collecting s ≡ has_sent_prepare l
    by phases.Working is = live ∙ (ap (λ q. q && is_some (slice_get s.children 0)) (told.working is).0 ∙ sym (at_work true (ap is_working is)))
    by (phases.Collecting below) is = asked (λ working. absurd (cc (is, working))) (ap is_working is)
    by phases.Ready is = asked (λ working. absurd (cc (is, working))) (ap is_working is)

module _ (t : History) (whole : IsLawfulRun t) (hs : List Happening) (c : ℕ) (rest : List Happening) (is : hs ++ happenings.Begun c ∷ rest ≡ t.trace) where
  part : Part t whole hs
  part = part_of t whole hs (happenings.Begun c) rest is

  settled : NothingComesFirst (f_at t hs)
  settled = (may_of t whole hs (happenings.Begun c) rest is).0

  saw : Sees (f_at t hs) (tr_at t hs)
  saw = at_moment t (λ places f tr h. Sees f tr) (full t whole (all_is_seen t whole)) hs (happenings.Begun c) rest is

  tops : Tops t whole hs
  tops = (tops_at t whole (by_moment t (λ places f tr h. TracesOwns f tr) (λ xs h more at. (at_moment t (λ places f tr x. seen.Sees f tr) (all_is_seen t whole) xs h more at).owns)) hs part).1

  -- a live branch has no exit
  pub live_stays : (n : ℕ) (k : NodeState) → node_at (f_at t hs) n ≡ Some k → (b : BranchId) (l : Live) → live_at k b ≡ Some l → exit (e_at t hs) b ≡ None
  live_stays n k up b l live =
      subst (λ m. exit (e_at t hs) m ≡ None) (item_is live_id k.lives b l live)
      (all_found (λ (y : Live). exit (e_at t hs) y.me ≡ None) live_id k.lives b l (nodes_are_as_events (so_far t hs) (part_lawful t whole hs part) n k up).0 live)

  -- a branch that is live by the branch history is live at its node
  live_back : (n : ℕ) (k : NodeState) → node_at (f_at t hs) n ≡ Some k → (b : BranchId) → b.node ≡ n → (s : Seen) → seen_at (tr_at t hs) b ≡ Some s → s.exit ≡ None → live_at k b ≡ None → ⊥
  live_back n k up b here s at live gone = by s.parent refl
    where
      me : s.me ≡ b
      me = item_is seen_id (tr_at t hs).seen b s at

      up_there : node_at (f_at t hs) b.node ≡ Some k
      up_there = ap (node_at (f_at t hs)) here ∙ up

      by : (o : Option BranchId) → s.parent ≡ o → ⊥
      by None top = elim (all_found (Back (f_at t hs)) seen_id (tr_at t hs).seen b s tops.back at live top) [
        | inl it ↦ (let same_node : Some it.0 ≡ Some k = sym it.2 ∙ (ap (λ m. node_at (f_at t hs) m.node) me ∙ up_there) in
            let one : it.0 ≡ k = cc in
            let there : live_at k b ≡ Some it.1 = subst (λ j. live_at j b ≡ Some it.1) one (subst (λ m. live_at it.0 m ≡ Some it.1) me it.3) in cc (there, gone))
        | inr it ↦ (let down : node_at (f_at t hs) b.node ≡ None = subst (λ m. node_at (f_at t hs) m.node ≡ None) me it.1 in cc (down, up_there))
      ]
      by (Some q) below =
          let its = all_found (λ (y : Seen). IsBorn t whole hs y.me) seen_id (tr_at t hs).seen b s tops.born at in
          elim (born_are_live_or_left (so_far t hs) (part_lawful t whole hs part) b (λ unborn. (let born = subst (λ m. born_at (births_of (so_far t hs)) m ≡ Some its.0) (its.2 ∙ me) its.1 in cc (born, unborn)))) [
            | inl left ↦ has_exit (exit (e_at t hs) b) refl left
            | inr among ↦ (let l = among_found k.lives b (subst (λ o. is_among b (lives_at o) ≡ true) up_there among) in let there : live_at k b ≡ Some l.0 = l.1 in cc (there, gone))
          ]
        where
          has_exit : (o : Option Exit) → exit (e_at t hs) b ≡ o → (exit (e_at t hs) b ≡ None → ⊥) → ⊥
          has_exit None none some = some none
          has_exit (Some x) out some =
              let it : IsToldLeft (births_of (so_far t hs)) (f_at t hs) (tr_at t hs) b = left_are_told t whole (full t whole (all_is_seen t whole)) hs part b x out in
              let one : it.seen ≡ s = (let two : Some it.seen ≡ Some s = sym it.at ∙ at in cc) in
              let parent : it.born.parent ≡ Some q = sym it.parent ∙ (ap (λ (y : Seen). y.parent) one ∙ below) in
              elim (it.left (λ none. absurd (cc (parent, none)))) [
                | inl exits ↦ (let gone_then : s.exit ≡ Some exits.0 = subst (λ (y : Seen). y.exit ≡ Some exits.0) one exits.1 in cc (gone_then, live))
                | inr stops ↦ (let upright = settled.upright in cc (upright, stops))
              ]

  given : GivesAt t whole hs
  given = all_given t whole hs part

  -- the row of a branch that collects
  row_same : (n : ℕ) (k : NodeState) → node_at (f_at t hs) n ≡ Some k → (l : Live) → live_at k l.me ≡ Some l → has_sent_prepare l ≡ true → (s : Seen) → seen_at (tr_at t hs) l.me ≡ Some s → IsTracedLive l s
      → pending_collecting (g_at t hs) s ≡ pending_live l
  row_same n k up l live asked s at told = λ i. collecting_row (me i) (root i) (advice i) (comment i)
    where
      its : LiveGot (tr_at t hs) (g_at t hs) l
      its = given.lives n k up l live

      me : s.me ≡ l.me
      me = item_is seen_id (tr_at t hs).seen l.me s at

      root : s.root ≡ l.root
      root = (let both : Some s ≡ Some its.told.0 = sym at ∙ its.told.1 in let one : s ≡ its.told.0 = cc in ap (λ (y : Seen). y.root) one ∙ its.told.2)

      advice : (if is_none s.parent then None else (g_at t hs).advice s.me) ≡ l.advice
      advice = ap (λ o. if is_none o then None else (g_at t hs).advice s.me) told.parent ∙ by l.parent refl
        where
          by : (o : Option BranchId) → l.parent ≡ o → (if is_none o then None else (g_at t hs).advice s.me) ≡ l.advice
          by None top = sym (its.top top)
          by (Some p) below = ap (g_at t hs).advice me ∙ sym its.advice

      comment : (g_at t hs).comment s.root ≡ l.comment
      comment = ap (g_at t hs).comment root ∙ sym (its.comment (λ working. (let none : has_sent_prepare l ≡ false = ap (λ p. not (is_working p) && is_some (slice_get l.edges 0)) working in cc (none, asked)))).1

  -- the rows of live branches by the branch history are those at their node
  pub seen_rows : (n : ℕ) (k : NodeState) → node_at (f_at t hs) n ≡ Some k → (b : BranchId) → b.node ≡ n → pending_seen (g_at t hs) (seen_at (tr_at t hs) b) ≡ live_rows (live_at k b)
  seen_rows n k up b here = by (live_at k b) refl (seen_at (tr_at t hs) b) refl
    where
      by : (o : Option Live) → live_at k b ≡ o → (p : Option Seen) → seen_at (tr_at t hs) b ≡ p → pending_seen (g_at t hs) p ≡ live_rows o
      by (Some l) live p at =
          let me : l.me ≡ b = item_is live_id k.lives b l live in
          let l_live : live_at k l.me ≡ Some l = subst (λ m. live_at k m ≡ Some l) (sym me) live in
          let it = saw.lives n k up l l_live in
          let found : seen_at (tr_at t hs) b ≡ Some it.0 = subst (λ m. seen_at (tr_at t hs) m ≡ Some it.0) me it.1 in
          ap (pending_seen (g_at t hs)) (sym at ∙ found)
          ∙ (ap (λ q. if q then pending_collecting (g_at t hs) it.0 ∷ [] else []) (collecting_same l it.0 it.2.told) ∙ sent (has_sent_prepare l) (λ asked. row_same n k up l l_live asked it.0 it.1 it.2.told))
        where
          sent : (q : Bool) {x y : Pending} → (q ≡ true → x ≡ y) → (if q then x ∷ [] else []) ≡ (if q then y ∷ [] else [])
          sent true same = ap (λ r. r ∷ []) (same refl)
          sent false same = refl
      by None gone None at = refl
      by None gone (Some s) at = none s.exit refl
        where
          none : (x : Option Exit) → s.exit ≡ x → pending_seen (g_at t hs) (Some s) ≡ []
          none None live = absurd (live_back n k up b here s at live gone)
          none (Some x) out = ap (λ o. if is_none o && (s.collects && is_some (slice_get s.children 0)) then pending_collecting (g_at t hs) s ∷ [] else []) out
