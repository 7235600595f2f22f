-- In every lawful run a branch that left, and was not dropped, began, and its parent asked it.
use Rattle.std.proofs.Common.{◌≡◌, ◌≢◌, true, List, [], ◌∷◌, ◌++◌, Some, None, inl, inr, refl, sym, subst, ◌∙◌}
use Rattle.agreement.specs.Events.{Exit, Dropped, exit}
use Rattle.node_rules.specs.Data.{BranchId}
use Rattle.node_rules.specs.NodeState.{live_id}
use Rattle.run_rules.specs.Data.{Turn, Happening}
use Rattle.run_rules.specs.Data.happenings
use Rattle.run_rules.specs.Lawful.{MayHappen, History, IsLawfulRun, facts_at}
use Rattle.run_rules.specs.Births.{births_of}
use Rattle.run_base_laws.specs.BirthLaws.{Began, LiveIs}
use Rattle.run_base_laws.specs.InTurnLaws.{said_in}
use Rattle.run_base_laws.specs.RunEvents.{events_after, events_from}
use Rattle.run_rules.specs.Trail.{is_prepare}
use Rattle.run_branch_laws.specs.WalkLaws.{was_sent}
use Rattle.run_base_laws.proofs.BirthRunLemmas.{nodes_name_the_born}
use Rattle.run_base_laws.proofs.NodesStandLemmas.{some_or_none}
use Rattle.run_base_laws.proofs.OwnLemmas.{all_found}
use Rattle.tree_laws.specs.AskLaws.{HeardAbove}
use Rattle.tree_laws.proofs.PrefixLemmas.{so_far, f_at, e_at, more_on, lawful_on, keep_prefix}
use Rattle.run_rules.specs.Facts.{first_facts}
use Rattle.tree_laws.specs.LeaveLaws.{LeftSo, LeftWereAsked}
use Rattle.tree_laws.proofs.LeaveLemmas.{was_there}
use Rattle.tree_laws.proofs.FateLemmas.{drops_alone}
use Rattle.tree_laws.proofs.TimeLemmas.{Part, exit_on, sent_end, born_end}

module _ (t : History) where
  -- those who left were asked
  abbrev Asked : List Happening → Type 0
  Asked hs = (c : BranchId) (z : Exit) → exit (e_at t hs) c ≡ Some z → z ≢ Dropped → HeardAbove is_prepare (births_of (so_far t hs)) (said_in (f_at t hs)) c

  module _ (hs : List Happening) (h : Happening) (lawful : IsLawfulRun (so_far t hs)) (may : MayHappen t.places t.commands (f_at t hs) h) where
    abbrev z : History
    z = so_far t (hs ++ h ∷ [])

    lawful_z : IsLawfulRun z
    lawful_z = lawful_on t.places t.commands (first_facts t.places) hs h lawful may

    first_part : Part z lawful_z hs
    first_part = record { rest = h ∷ []; is = refl }

    -- what was heard stays
    heard_on : (c : BranchId) → HeardAbove is_prepare (births_of (so_far t hs)) (said_in (f_at t hs)) c → HeardAbove is_prepare (births_of z) (said_in (facts_at z)) c
    heard_on c is = (is.0, born_end z lawful_z hs first_part is.0 is.1, is.2, (λ q above. sent_end z lawful_z hs first_part is_prepare q c (is.3 q above)))

    -- who leaves in a turn
    left_heard : (u : Turn) → h ≡ happenings.Turn u → (c : BranchId) (x : Exit) → exit (e_at t hs) c ≡ None → x ≢ Dropped → exit (events_after t.places t.commands (f_at t hs) h (e_at t hs)) c ≡ Some x
        → HeardAbove is_prepare (births_of (so_far t hs)) (said_in (f_at t hs)) c
    left_heard u turn c x none other is =
        let at : MayHappen t.places t.commands (f_at t hs) (happenings.Turn u) = subst (MayHappen t.places t.commands (f_at t hs)) turn may in
        let left : LeftSo at.0 u.input (said_in (f_at t hs)) c x
        = was_there t hs lawful u at.0 at.1 c none x other (subst (λ y. exit (events_after t.places t.commands (f_at t hs) y (e_at t hs)) c ≡ Some x) turn is) in
        let placed : LiveIs (Began (births_of (so_far t hs))) left.live
        = all_found (LiveIs (Began (births_of (so_far t hs)))) live_id at.0.lives left.live.me left.live (nodes_name_the_born (so_far t hs) lawful u.node at.0 at.1.up).0 left.found in
        (placed.born, placed.began, placed.is_me ∙ left.is_me, (λ q above. subst (λ b. was_sent is_prepare (said_in (f_at t hs)) q b ≡ true) left.is_me (left.leaves.asked q (sym placed.is_parent ∙ above))))

    new_heard : (c : BranchId) (x : Exit) → exit (e_at t hs) c ≡ None → x ≢ Dropped → exit (events_after t.places t.commands (f_at t hs) h (e_at t hs)) c ≡ Some x → HeardAbove is_prepare (births_of (so_far t hs)) (said_in (f_at t hs)) c
    new_heard c x none other is = by h refl
      where
        by : (y : Happening) → h ≡ y → HeardAbove is_prepare (births_of (so_far t hs)) (said_in (f_at t hs)) c
        by (happenings.Turn u) turn = left_heard u turn c x none other is
        by (happenings.Stopped m) it = absurd (other (drops_alone t hs h (λ u turn. (let no : happenings.Turn u ≡ happenings.Stopped m = sym turn ∙ it in absurd cc)) c x none is))
        by (happenings.Started m boot) it = absurd (other (drops_alone t hs h (λ u turn. (let no : happenings.Turn u ≡ happenings.Started m boot = sym turn ∙ it in absurd cc)) c x none is))
        by (happenings.Begun m) it = absurd (other (drops_alone t hs h (λ u turn. (let no : happenings.Turn u ≡ happenings.Begun m = sym turn ∙ it in absurd cc)) c x none is))
        by (happenings.Cut a b) it = absurd (other (drops_alone t hs h (λ u turn. (let no : happenings.Turn u ≡ happenings.Cut a b = sym turn ∙ it in absurd cc)) c x none is))
        by (happenings.Join a b) it = absurd (other (drops_alone t hs h (λ u turn. (let no : happenings.Turn u ≡ happenings.Join a b = sym turn ∙ it in absurd cc)) c x none is))
        by (happenings.Lost m) it = absurd (other (drops_alone t hs h (λ u turn. (let no : happenings.Turn u ≡ happenings.Lost m = sym turn ∙ it in absurd cc)) c x none is))

    asked_on : Asked hs → Asked (hs ++ h ∷ [])
    asked_on now c x is other = heard_on c (elim (some_or_none (exit (e_at t hs) c)) [
      | inl old ↦ (let later : exit (events_after t.places t.commands (f_at t hs) h (e_at t hs)) c ≡ Some old.0 = exit_on t.places t.commands (f_at t hs) h (e_at t hs) c old.0 old.1 in
          let both : Some old.0 ≡ Some x = sym later ∙ left in
          let same_exit : old.0 ≡ x = cc in
          now c old.0 old.1 (λ dropped. other (sym same_exit ∙ dropped)))
      | inr none ↦ new_heard c x none other left
    ])
      where
        left : exit (events_after t.places t.commands (f_at t hs) h (e_at t hs)) c ≡ Some x
        left = subst (λ e. exit e c ≡ Some x) (more_on t hs h) is

-- nobody has left at first
none_first : (t : History) → Asked t []
unfolding events_from
none_first t c z is other = absurd cc

-- who left
pub left_were_asked : LeftWereAsked
left_were_asked t lawful = keep_prefix t (Asked t) (λ before h so may now. asked_on t before h so may now) lawful (none_first t)
