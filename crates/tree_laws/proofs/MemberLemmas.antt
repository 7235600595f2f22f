-- The live children of a branch of such a tree are branches of it, where those who were asked leave without a rollback.
use Rattle.std.proofs.Common.{◌≡◌, ◌≢◌, ℕ, true, false, List, [], ◌∷◌, ◌++◌, Option, Some, None, inl, inr, refl, sym, ap, subst, ◌∙◌, append-nil}
use Rattle.std.proofs.lemmas.List.{append_assoc}
use Rattle.tran_ids.proofs.ListedLemmas.{item_is}
use Rattle.session_tree.specs.Live.{children_of}
use Rattle.agreement.specs.Events.{Exit, Dropped, exit}
use Rattle.node_rules.specs.Data.{BranchId, Live}
use Rattle.node_rules.specs.Data.phases
use Rattle.node_rules.specs.Words.{numbered}
use Rattle.node_rules.specs.NodeState.{NodeState, Branch, live_id, live_at, branch_at, work_at, with_work}
use Rattle.node_rules.proofs.StandLemmas.{live_so}
use Rattle.run_rules.specs.Data.{Happening}
use Rattle.run_rules.specs.Facts.{node_at}
use Rattle.run_rules.specs.Lawful.{History, IsLawfulRun, facts_at}
use Rattle.run_rules.specs.Branches.{is_among}
use Rattle.run_rules.specs.Births.{Born, births_of, born_at, born_id}
use Rattle.run_base_laws.specs.BirthLaws.{Began, LiveIs}
use Rattle.run_base_laws.specs.InTurnLaws.{said_in}
use Rattle.run_base_laws.specs.FreezeLaws.{was_asked}
use Rattle.run_base_laws.specs.RunEvents.{lives_at, events_of}
use Rattle.run_base_laws.proofs.BirthRunLemmas.{born_are_live_or_left}
use Rattle.run_base_laws.proofs.EventsStandLemmas.{nodes_are_as_events}
use Rattle.run_branch_laws.proofs.FreezeLemmas.{working_or}
use Rattle.run_branch_laws.proofs.FreezeRunLemmas.{asked_stand_still}
use Rattle.run_base_laws.proofs.KidLemmas.{parent_in, parent_of, child_of}
use Rattle.run_base_laws.proofs.NodesStandLemmas.{some_or_none}
use Rattle.run_base_laws.proofs.OwnLemmas.{all_found}
use Rattle.tree_laws.proofs.ForestLemmas as trees
use Rattle.tree_laws.proofs.SettleRunLemmas.{known}
use Rattle.tree_laws.proofs.PrefixLemmas.{so_far, f_at, e_at}
use Rattle.tree_laws.specs.RestLaws.{Rests}
use Rattle.tree_laws.proofs.FateLemmas.{among_found}
use Rattle.tree_laws.proofs.FrozenLemmas.{State, Here, Left, Found, strength_at, state_on, Since, Member, kid_rests}
use Rattle.tree_laws.proofs.HeardLemmas.{left_were_asked}
use Rattle.tree_laws.proofs.TimeLemmas.{Part, part_lawful, part_of, exit_end, born_end, keep_on}
use Rattle.tree_laws.proofs.WeighLemmas.{placed_of, child_parent}

-- a branch that has a parent began
pub record BornBelow (bs : List Born) (c p : BranchId) : Type 0 where
  pub born : Born
  pub began : Began bs born
  pub is_me : born.me ≡ c
  pub is_parent : born.parent ≡ Some p

pub born_below : (bs : List Born) (c p : BranchId) → parent_of bs c ≡ Some p → BornBelow bs c p
born_below bs c p is = by (born_at bs c) refl is
  where
    by : (o : Option Born) → born_at bs c ≡ o → parent_in o ≡ Some p → BornBelow bs c p
    by None none some = absurd cc
    by (Some b) at above =
        let me : b.me ≡ c = item_is born_id bs c b at in
        record { born = b; began = subst (λ d. born_at bs d ≡ Some b) (sym me) at; is_me = me; is_parent = above }

-- a branch began in the tree of a root
abbrev pub IsIn : List Born → BranchId → BranchId → Type 0
IsIn bs r c = (b : Born) × Began bs b × (b.me ≡ c) × (b.root ≡ r)

module _ (t : History) (whole : IsLawfulRun t) (hs0 : List Happening) (part0 : Part t whole hs0) (r : BranchId)
    (covered : (q c : BranchId) → was_asked (said_in (facts_at t)) q c ≡ true → IsIn (births_of t) r c → (z : Exit) × (exit (events_of t) c ≡ Some z) × (z ≢ Dropped)) where
  abbrev s0 : History
  s0 = so_far t hs0

  lawful0 : IsLawfulRun s0
  lawful0 = part_lawful t whole hs0 part0

  module _ (x : Branch) (member : Member t whole hs0 part0 r x) (i : ℕ) (c : BranchId) (at : numbered (children_of x.live) i ≡ Some c) where
    asked : was_asked (said_in (facts_at t)) x.live.me c ≡ true
    asked = member.asks i c at

    placed : LiveIs (Began (births_of s0)) x.live
    placed = placed_of s0 lawful0 x.live.me.node member.here.kept member.here.up x member.here.found

    below : BornBelow (births_of s0) c x.live.me
    below = born_below (births_of s0) c x.live.me (child_of (births_of s0) x.live placed i c at)

    inside : IsIn (births_of t) r c
    inside =
        let mine : Began (births_of t) below.born = born_end t whole hs0 part0 below.born below.began in
        let above : Began (births_of t) placed.born = born_end t whole hs0 part0 placed.born placed.began in
        let up = trees.below_of (births_of t) (said_in (facts_at t)) (known t whole) below.born x.live.me mine below.is_parent in
        let one : up.up ≡ placed.born = trees.same_born (births_of t) (said_in (facts_at t)) (known t whole) up.up placed.born up.began above (up.is_me ∙ sym placed.is_me) in
        (below.born, mine, below.is_me, sym up.is_root ∙ (ap (λ (b : Born). b.root) one ∙ (placed.is_root ∙ member.root)))

    leaves : (z : Exit) × (exit (events_of t) c ≡ Some z) × (z ≢ Dropped)
    leaves = covered x.live.me c asked inside

    -- it was not asked yet
    unasked : was_asked (said_in (f_at t hs0)) x.live.me c ≡ false
    unasked = (asked_stand_still s0 lawful0 x.live.me.node member.here.kept member.here.up x member.here.found).0 member.working c

    not_left : (z : Exit) → exit (e_at t hs0) c ≡ Some z → ⊥
    not_left z left =
        let end : exit (events_of t) c ≡ Some z = exit_end t whole hs0 part0 c z left in
        let both : Some leaves.0 ≡ Some z = sym leaves.1 ∙ end in
        let here : leaves.0 ≡ z = cc in
        let heard = left_were_asked s0 lawful0 c z left (λ dropped. leaves.2 (here ∙ dropped)) in
        let two : Some heard.0 ≡ Some below.born = sym heard.1 ∙ (ap (born_at (births_of s0)) (heard.2 ∙ sym below.is_me) ∙ below.began) in
        let born : heard.0 ≡ below.born = cc in
        let yes : was_asked (said_in (f_at t hs0)) x.live.me c ≡ true = heard.3 x.live.me (ap (λ (b : Born). b.parent) born ∙ below.is_parent) in
        absurd (cc (yes, unasked))

    module _ (j : NodeState) (y : Branch) (up : node_at (f_at t hs0) c.node ≡ Some j) (found : branch_at j y.live.me ≡ Some y) (me : y.live.me ≡ c) where
      parent : y.live.parent ≡ Some x.live.me
      parent = child_parent s0 lawful0 x.live.me.node member.here.kept member.here.up x member.here.found i c at c.node j up y found me

      abbrev here : Found t whole hs0 y
      here = record { kept = j; up = subst (λ b. node_at (f_at t hs0) b.node ≡ Some j) (sym me) up; found = found }

      works : y.live.phase ≡ phases.Working
      works = elim (working_or y.live.phase) [
        | inl working ↦ working
        | inr other ↦ (let yes : was_asked (said_in (f_at t hs0)) x.live.me y.live.me ≡ true = (((asked_stand_still s0 lawful0 c.node j up y found).1 other).1 x.live.me parent).0 in
            let no : was_asked (said_in (f_at t hs0)) x.live.me y.live.me ≡ false = subst (λ b. was_asked (said_in (f_at t hs0)) x.live.me b ≡ false) (sym me) unasked in
            absurd (cc (yes, no)))
      ]

      -- later on
      rests : (hs : List Happening) → Since t whole hs0 part0 hs → Part t whole hs → (k : NodeState) (w : Branch) → node_at (f_at t hs) y.live.me.node ≡ Some k → branch_at k w.live.me ≡ Some w → w.live.me ≡ y.live.me
          → Rests (said_in (f_at t hs)) w.live.me w.live.parent w.work
      rests hs since part k w there is same = kid_rests t whole hs0 part0 r x member i c at hs since part k w (subst (λ b. node_at (f_at t hs) b.node ≡ Some k) me there) is (same ∙ me)

      good : (z : Exit) → exit (events_of t) y.live.me ≡ Some z → z ≢ Dropped
      good z is dropped =
          let both : Some leaves.0 ≡ Some z = sym leaves.1 ∙ subst (λ b. exit (events_of t) b ≡ Some z) me is in
          let same : leaves.0 ≡ z = cc in
          leaves.2 (same ∙ dropped)

      abbrev Lasts : List Happening → Type 0
      Lasts hs = Since t whole hs0 part0 hs × State t whole y hs

      lasts_on : (hs : List Happening) (h : Happening) (rest : List Happening) → hs ++ h ∷ rest ≡ t.trace → Lasts hs → Lasts (hs ++ h ∷ [])
      lasts_on hs h rest is now = (
        (now.0.0 ++ h ∷ [], sym (append_assoc hs0 now.0.0 (h ∷ [])) ∙ ap (λ xs. xs ++ h ∷ []) now.0.1),
        state_on t whole y (strength_at t whole hs0 part0 y here) good hs h rest is (λ k w there found_w same working. rests hs now.0 (part_of t whole hs h rest is) k w there found_w same) now.1,
      )

      lasts : (hs : List Happening) → Since t whole hs0 part0 hs → Part t whole hs → State t whole y hs
      lasts hs since part =
          subst (State t whole y) since.1
          (keep_on t whole Lasts lasts_on hs0 since.0 (record { rest = part.rest; is = ap (λ xs. xs ++ part.rest) since.1 ∙ part.is })
          (([], append-nil hs0), Here here.kept y here.up here.found refl (record { peers = refl; weights = refl; changed = refl }))).1

      -- at the end it has left
      kid_asks : State t whole y t.trace → (j : ℕ) (b : BranchId) → numbered (children_of y.live) j ≡ Some b → was_asked (said_in (facts_at t)) y.live.me b ≡ true
      kid_asks (Left z left kids ends told) j b there = kids j b there
      kid_asks (Here k w up_w found_w me_w same) j b there =
          let none : exit (events_of t) w.live.me ≡ None = all_found (λ (l : Live). exit (events_of t) l.me ≡ None) live_id k.lives w.live.me w.live (nodes_are_as_events t whole y.live.me.node k up_w).0 (live_so k w.live.me w found_w) in
          let some : exit (events_of t) w.live.me ≡ Some leaves.0 = subst (λ b. exit (events_of t) b ≡ Some leaves.0) (sym (me_w ∙ me)) leaves.1 in
          absurd (cc (none, some))

      rests_first : Rests (said_in (f_at t hs0)) y.live.me y.live.parent y.work
      rests_first = rests hs0 ([], append-nil hs0) part0 j y here.up found refl

      pub kid_member : Member t whole hs0 part0 r y
      kid_member = record {
        here = here;
        working = works;
        goes = λ none. absurd (cc (none, parent));
        waits = rests_first.waits;
        root = root_so;
        asks = kid_asks (lasts t.trace (part0.rest, part0.is) (record { rest = []; is = append-nil t.trace }));
        state = lasts;
        calm = λ hs since part k w there is same working. (let so : Rests (said_in (f_at t hs)) w.live.me w.live.parent w.work = rests hs since part k w there is same in
            ((λ none. absurd (let above = so.is_parent in cc (none, above))), so.waits));
      }
        where
          root_so : y.live.root ≡ r
          root_so =
              let its : LiveIs (Began (births_of s0)) y.live = placed_of s0 lawful0 c.node j up y found in
              let mine : Began (births_of t) its.born = born_end t whole hs0 part0 its.born its.began in
              let one : its.born ≡ inside.0 = trees.same_born (births_of t) (said_in (facts_at t)) (known t whole) its.born inside.0 mine inside.1 (its.is_me ∙ (me ∙ sym inside.2)) in
              sym its.is_root ∙ (ap (λ (b : Born). b.root) one ∙ inside.3)

    -- A live child.
    pub record Kid : Type 0 where
      pub branch : Branch
      pub is_me : branch.live.me ≡ c
      pub is_member : Member t whole hs0 part0 r branch
      pub leaves : (z : Exit) × (exit (events_of t) c ≡ Some z) × (z ≢ Dropped)

    found_kid : (j : NodeState) → node_at (f_at t hs0) c.node ≡ Some j → (l : Live) → live_at j c ≡ Some l → Kid
    found_kid j up l live =
        let me : l.me ≡ c = item_is live_id j.lives c l live in
        let y : Branch = record { live = l; work = work_at j l.me } in
        let found : branch_at j l.me ≡ Some y = ap (with_work j) (subst (λ b. live_at j b ≡ Some l) (sym me) live) in
        record { branch = y; is_me = me; is_member = kid_member j y up found me; leaves = leaves }

    -- each child is one
    pub kid_of : Kid
    kid_of = elim (born_are_live_or_left s0 lawful0 c (λ none. (let at_c : born_at (births_of s0) c ≡ Some below.born = subst (λ b. born_at (births_of s0) b ≡ Some below.born) below.is_me below.began in absurd (cc (none, at_c))))) [
      | inl left ↦ elim (some_or_none (exit (e_at t hs0) c)) [ inl some ↦ absurd (not_left some.0 some.1) | inr none ↦ absurd (left none) ]
      | inr among ↦ by (node_at (f_at t hs0) c.node) refl among
    ]
      where
        by : (o : Option NodeState) → node_at (f_at t hs0) c.node ≡ o → is_among c (lives_at o) ≡ true → Kid
        by None is among = absurd cc
        by (Some j) is among = let l = among_found j.lives c among in found_kid j is l.0 l.1
