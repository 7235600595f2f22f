-- In every lawful run each branch of the transaction of an undisturbed COMMIT that began below another than the root was asked
-- by its parent, where that was, and none below the root was dropped.
use Rattle.std.proofs.Common.{◌≡◌, ◌≢◌, ℕ, ◌≤◌, ◌&&◌, ◌||◌, ◌⊎◌, Bool, true, false, List, [], ◌∷◌, ◌++◌, map, length, Option, Some, None, inl, inr, refl, sym, ap, subst, ◌∙◌, arith, append-nil}
use Rattle.std.specs.List.{AllByRecursion}
use Rattle.std.proofs.lemmas.Bool.{and_parts}
use Rattle.tran_ids.proofs.BranchLemmas.{equal_from_same}
use Rattle.tran_ids.proofs.ListedLemmas.{item_is}
use Rattle.agreement.specs.Events.{Dropped, Exit, exit, Sealed, Decided, Quiet}
use Rattle.node_rules.specs.Data.{BranchId, Live}
use Rattle.node_rules.specs.Data.phases
use Rattle.node_rules.specs.NodeState.{NodeState, Branch, live_id, live_at, work_at, with_work}
use Rattle.node_rules.specs.Words.{same, numbered}
use Rattle.session_tree.specs.Live.{children_of}
use Rattle.run_rules.specs.Births.{Born, births_of, born_at}
use Rattle.run_base_laws.specs.BirthLaws.{Began, LiveIs}
use Rattle.run_rules.specs.Branches.{is_among}
use Rattle.run_rules.specs.Data.{Happening, Packet, Turn}
use Rattle.run_rules.specs.Data.fates
use Rattle.run_rules.specs.Data.happenings
use Rattle.run_rules.specs.Facts.{node_at}
use Rattle.run_base_laws.specs.FreezeLaws.{was_asked}
use Rattle.run_base_laws.specs.InTurnLaws.{packet_post, said_in}
use Rattle.run_rules.specs.Lawful.{History, IsLawfulRun, MayHappen, MayTurn, facts_at}
use Rattle.run_base_laws.specs.RunEvents.{events_after, events_from, events_of, lives_at}
use Rattle.run_rules.specs.Trail.{is_prepare}
use Rattle.run_base_laws.proofs.BirthRunLemmas.{born_are_live_or_left, nodes_name_the_born}
use Rattle.run_branch_laws.proofs.FreezeRunLemmas.{prepare_finds_rest}
use Rattle.run_base_laws.proofs.OwnLemmas.{all_found}
use Rattle.tree_laws.proofs.AskRunLemmas.{edges_asked}
use Rattle.tree_laws.proofs.PrefixLemmas.{so_far, f_at, e_at, more_on}
use Rattle.tree_laws.specs.LeaveLaws.{LeftSo}
use Rattle.tree_laws.proofs.FateLemmas.{among_found, drops_alone}
use Rattle.tree_laws.proofs.LeaveLemmas.{was_there}
use Rattle.tree_laws.proofs.TimeLemmas.{Part, part_lawful, may_of, born_end, exit_end, sent_end, keep_on}
use Rattle.commit_laws.specs.DeliveryLaws.{IsBusy}
use Rattle.commit_laws.specs.StillLaws.{DroppedNone}
use Rattle.run_claims.specs.Undisturbed.{Commit, Undisturbed}
use Rattle.commit_laws.proofs.HeardLemmas.{prepares_are_heard}
use Rattle.commit_laws.proofs.StillLemmas.{messages_come}
use Rattle.commit_leave_laws.specs.StrayLaws.{count_opens}
use Rattle.commit_leave_laws.proofs.OpenRunLemmas.{opened_low, adds_any, count_on}
use Rattle.commit_leave_laws.proofs.ChildLemmas.{zero_or, at_most, same_born, parent_of_tree, opened, is_child}
use Rattle.tree_laws.proofs.AtTurn.{at_happening}

-- what is so of the receiver of each Prepare that was delivered is so of one that was asked
pub asked_so : (P Q : BranchId → Type 0) (xs : List Packet) → AllByRecursion (λ x. P x.msg.from → x.fate ≡ fates.Delivered) xs → AllByRecursion (λ x. x.fate ≡ fates.Delivered → is_prepare x.msg.kind ≡ true → Q x.msg.to) xs
    → (p c : BranchId) → P p → was_asked (map packet_post xs) p c ≡ true → Q c
asked_so P Q [] came heard p c so is = absurd cc
asked_so P Q (x ∷ xs) came heard p c so is = by ((same x.msg.from p && same x.msg.to c) && is_prepare x.msg.kind) refl is (asked_so P Q xs came.1 heard.1 p c so)
  where
    by : (q : Bool) → ((same x.msg.from p && same x.msg.to c) && is_prepare x.msg.kind) ≡ q → (q || was_asked (map packet_post xs) p c) ≡ true → (was_asked (map packet_post xs) p c ≡ true → Q c) → Q c
    by true here found later =
        let parts = and_parts (same x.msg.from p && same x.msg.to c) (is_prepare x.msg.kind) here in
        let ends = and_parts (same x.msg.from p) (same x.msg.to c) parts.0 in
        subst Q (equal_from_same x.msg.to c ends.1) (heard.0 (came.0 (subst P (sym (equal_from_same x.msg.from p ends.0)) so)) parts.1)
    by false here found later = later found

module _ (t : History) (whole : IsLawfulRun t) (c : Commit t.places t.commands t.trace) (u : Undisturbed t.places t.commands t.trace c) (below : DroppedNone t c.root) where
  abbrev r : BranchId
  r = c.root

  abbrev bs : List Born
  bs = births_of t

  abbrev end : Part t whole t.trace
  end = record { rest = []; is = append-nil t.trace }

  -- ---- below the root

  module _ (x : Born) (began : Began bs x) (of : x.root ≡ r) (p : BranchId) (above : x.parent ≡ Some p) (y : Born) (began_y : Began bs y) (me_y : y.me ≡ p) (of_y : y.root ≡ r) (q : BranchId) (above_y : y.parent ≡ Some q) (asked : was_asked (said_in (facts_at t)) q p ≡ true) where
    -- a live branch is as it began
    parent_is : (hs : List Happening) (part : Part t whole hs) (n : ℕ) (k : NodeState) → node_at (f_at t hs) n ≡ Some k → (l : Live) → live_at k l.me ≡ Some l → l.me ≡ p → l.parent ≡ Some q
    parent_is hs part n k up l live me =
        let s0 : History = so_far t hs in
        let its : LiveIs (Began (births_of s0)) l = all_found (LiveIs (Began (births_of s0))) live_id k.lives l.me l (nodes_name_the_born s0 (part_lawful t whole hs part) n k up).0 live in
        let one : its.born ≡ y = same_born t whole c u its.born y (born_end t whole hs part its.born its.began) began_y (its.is_me ∙ (me ∙ sym me_y)) in
        sym its.is_parent ∙ (ap (λ (z : Born). z.parent) one ∙ above_y)

    -- its edges go as far as its Opens, while it waits for nothing
    wide : (hs : List Happening) (part : Part t whole hs) (n : ℕ) (k : NodeState) → node_at (f_at t hs) n ≡ Some k → (l : Live) → live_at k l.me ≡ Some l → l.me ≡ p → was_asked (said_in (f_at t hs)) q p ≡ true → 1 ≤ count_opens (said_in (f_at t hs)) p x.edge → x.edge ≤ length l.edges
    wide hs part n k up l live me asked_p some =
        let s0 : History = so_far t hs in
        let z : Branch = record { live = l; work = work_at k l.me } in
        let rests = (prepare_finds_rest s0 (part_lawful t whole hs part) q n k up z (ap (with_work k) live) (subst (λ b. was_asked (said_in (f_at t hs)) q b ≡ true) (sym me) asked_p)).1 in
        elim (at_most x.edge (length l.edges)) [
          | inl low ↦ low
          | inr high ↦ absurd (
              let none : count_opens (said_in (f_at t hs)) l.me x.edge ≡ 0
              = opened_low t whole hs part n k up l live (λ top. absurd (let its = parent_is hs part n k up l live me in cc (top, its))) rests x.edge high in
              let none_p : count_opens (said_in (f_at t hs)) p x.edge ≡ 0 = subst (λ b. count_opens (said_in (f_at t hs)) b x.edge ≡ 0) me none in
              omega (arith, some, none_p))
        ]

    busy : IsBusy (facts_at t) p
    busy =
        let up_y = parent_of_tree t whole c u y began_y q above_y in
        asked_so (λ b. (z : Born) × Began bs z × (z.me ≡ b) × (z.root ≡ r)) (IsBusy (facts_at t)) (facts_at t).net.packets (came (facts_at t).net.packets (messages_come t whole c u)) (prepares_are_heard t whole) q p
        (up_y.0, up_y.1, up_y.2, up_y.3 ∙ of_y) asked
      where
        came : (xs : List Packet) → AllByRecursion (λ z. (b : Born) → Began bs b → b.me ≡ z.msg.from → b.root ≡ r → z.fate ≡ fates.Delivered) xs
            → AllByRecursion (λ z. ((b : Born) × Began bs b × (b.me ≡ z.msg.from) × (b.root ≡ r)) → z.fate ≡ fates.Delivered) xs
        came [] all = tt
        came (z ∷ xs) all = ((λ b. all.0 b.0 b.1 b.2 b.3), came xs all.1)

    -- where it is live at the end
    live_asks : (n : ℕ) (k : NodeState) → node_at (facts_at t) n ≡ Some k → (l : Live) → live_at k l.me ≡ Some l → l.me ≡ p → p.node ≡ n → was_asked (said_in (facts_at t)) p x.me ≡ true
    live_asks n k up l live me node =
        let there : node_at (facts_at t) p.node ≡ Some k = subst (λ i. node_at (facts_at t) i ≡ Some k) (sym node) up in
        let other : l.phase ≢ phases.Working = busy k l there (subst (λ b. live_at k b ≡ Some l) me live) in
        let far : x.edge ≤ length l.edges = wide t.trace end n k up l live me asked (opened t whole c u x began p above) in
        let child : numbered (children_of l) x.edge ≡ Some x.me = is_child t whole c u x began of p above t.trace end k n up l live me far in
        subst (λ b. was_asked (said_in (facts_at t)) b x.me ≡ true) me ((edges_asked t whole n k up l live other).0 x.edge x.me child)

    -- where it has left
    abbrev Known : List Happening → Type 0
    Known hs = (exit (e_at t hs) p ≡ None) ⊎ ((exit (e_at t hs) p ≡ Some Dropped) ⊎ ((was_asked (said_in (f_at t hs)) p x.me ≡ true) ⊎ ((exit (e_at t hs) p ≢ None) × (count_opens (said_in (f_at t hs)) p x.edge ≡ 0))))

    module _ (hs : List Happening) (h : Happening) (rest : List Happening) (is : hs ++ h ∷ rest ≡ t.trace) where
      open at_happening t whole hs h rest is use {after, part, lawful, lawful_after as lawful_z}

      in_after : Part (so_far t after) lawful_z hs
      in_after = record { rest = h ∷ []; is = refl }

      asked_on : (a b : BranchId) → was_asked (said_in (f_at t hs)) a b ≡ true → was_asked (said_in (f_at t after)) a b ≡ true
      asked_on a b sent = sent_end (so_far t after) lawful_z hs in_after is_prepare a b sent

      exit_stays : (z : Exit) → exit (e_at t hs) p ≡ Some z → exit (e_at t after) p ≡ Some z
      exit_stays z left = exit_end (so_far t after) lawful_z hs in_after p z left

      some_stays : exit (e_at t hs) p ≢ None → exit (e_at t after) p ≢ None
      some_stays some none = by (exit (e_at t hs) p) refl
        where
          by : (o : Option Exit) → exit (e_at t hs) p ≡ o → ⊥
          by None gone = some gone
          by (Some z) left = (let later = exit_stays z left in cc (later, none))

      -- one that has left opens nothing any more
      unopened : exit (e_at t after) p ≢ None → count_opens (said_in (f_at t hs)) p x.edge ≡ 0 → count_opens (said_in (f_at t after)) p x.edge ≡ 0
      unopened left none =
          let all = count_on t whole hs h rest is p x.edge in
          elim (adds_any t whole hs h rest is p x.edge) [
            | inl nothing ↦ omega (arith, all, none, nothing)
            | inr new ↦ absurd (left new.3)
          ]

      left_turn : (w : Turn) → h ≡ happenings.Turn w → (k : NodeState) → MayTurn t.places (f_at t hs) w k → exit (e_at t hs) p ≡ None → (z : Exit) → z ≢ Dropped → exit (e_at t after) p ≡ Some z → Known after
      left_turn w turn k may none z other now =
          let is_now : exit (events_after t.places t.commands (f_at t hs) (happenings.Turn w) (e_at t hs)) p ≡ Some z
          = subst (λ (g : Happening). exit (events_after t.places t.commands (f_at t hs) g (e_at t hs)) p ≡ Some z) turn (subst (λ e. exit e p ≡ Some z) (more_on t hs h) now) in
          let so : LeftSo k w.input (said_in (f_at t hs)) p z = was_there t hs lawful w k may p none z other is_now in
          let its : so.live.parent ≡ Some q = parent_is hs part w.node k may.up so.live so.found so.is_me in
          let asked_p : was_asked (said_in (f_at t hs)) q p ≡ true = subst (λ b. was_asked (said_in (f_at t hs)) q b ≡ true) so.is_me (so.leaves.asked q its) in
          elim (zero_or (count_opens (said_in (f_at t hs)) p x.edge)) [
            | inl nothing ↦ (let left : exit (e_at t after) p ≢ None = (λ gone. absurd (cc (now, gone))) in inr (inr (inr (left, unopened left nothing))))
            | inr some ↦ (let far : x.edge ≤ length so.live.edges = wide hs part w.node k may.up so.live so.found so.is_me asked_p some in
                let child : numbered (children_of so.live) x.edge ≡ Some x.me = is_child t whole c u x began of p above hs part k w.node may.up so.live so.found so.is_me far in
                let sent : was_asked (said_in (f_at t hs)) p x.me ≡ true = subst (λ b. was_asked (said_in (f_at t hs)) b x.me ≡ true) so.is_me (so.leaves.kids x.edge x.me child) in
                inr (inr (inl (asked_on p x.me sent))))
          ]

      left_any : exit (e_at t hs) p ≡ None → (z : Exit) → z ≢ Dropped → exit (e_at t after) p ≡ Some z → Known after
      left_any none z other now = by h refl
        where
          apart : ((w : Turn) → h ≢ happenings.Turn w) → Known after
          apart not = absurd (other (drops_alone t hs h not p z none (subst (λ e. exit e p ≡ Some z) (more_on t hs h) now)))

          by : (g : Happening) → h ≡ g → Known after
          by (happenings.Turn w) turn = (let may : MayHappen t.places t.commands (f_at t hs) (happenings.Turn w) = subst (MayHappen t.places t.commands (f_at t hs)) turn (may_of t whole hs h rest is) in left_turn w turn may.0 may.1 none z other now)
          by (happenings.Stopped m) it = apart (λ w turn. (let no : happenings.Turn w ≡ happenings.Stopped m = sym turn ∙ it in absurd cc))
          by (happenings.Started m boot) it = apart (λ w turn. (let no : happenings.Turn w ≡ happenings.Started m boot = sym turn ∙ it in absurd cc))
          by (happenings.Begun m) it = apart (λ w turn. (let no : happenings.Turn w ≡ happenings.Begun m = sym turn ∙ it in absurd cc))
          by (happenings.Cut a b) it = apart (λ w turn. (let no : happenings.Turn w ≡ happenings.Cut a b = sym turn ∙ it in absurd cc))
          by (happenings.Join a b) it = apart (λ w turn. (let no : happenings.Turn w ≡ happenings.Join a b = sym turn ∙ it in absurd cc))
          by (happenings.Lost m) it = apart (λ w turn. (let no : happenings.Turn w ≡ happenings.Lost m = sym turn ∙ it in absurd cc))

      left_exit : exit (e_at t hs) p ≡ None → (z : Exit) → exit (e_at t after) p ≡ Some z → Known after
      left_exit none Dropped now = inr (inl now)
      left_exit none (Sealed n) now = left_any none (Sealed n) (λ no. absurd cc) now
      left_exit none (Decided n) now = left_any none (Decided n) (λ no. absurd cc) now
      left_exit none Quiet now = left_any none Quiet (λ no. absurd cc) now

      known_on : Known hs → Known after
      known_on (inl none) = by (exit (e_at t after) p) refl
        where
          by : (o : Option Exit) → exit (e_at t after) p ≡ o → Known after
          by None gone = inl gone
          by (Some z) left = left_exit none z left
      known_on (inr (inl dropped)) = inr (inl (exit_stays Dropped dropped))
      known_on (inr (inr (inl sent))) = inr (inr (inl (asked_on p x.me sent)))
      known_on (inr (inr (inr gone))) = inr (inr (inr (some_stays gone.0, unopened (some_stays gone.0) gone.1)))

    first_known : Known []
    unfolding events_from
    first_known = inl refl

    left_asks : (z : Exit) → exit (events_of t) p ≡ Some z → was_asked (said_in (facts_at t)) p x.me ≡ true
    left_asks z left = elim (keep_on t whole Known known_on [] t.trace end first_known) [
      | inl none ↦ absurd (cc (none, left))
      | inr (inl dropped) ↦ absurd (below y began_y of_y (λ none. (let clash : None ≡ Some q = sym none ∙ above_y in absurd cc)) (subst (λ b. exit (events_of t) b ≡ Some Dropped) (sym me_y) dropped))
      | inr (inr (inl sent)) ↦ sent
      | inr (inr (inr gone)) ↦ (let some = opened t whole c u x began p above in let none = gone.1 in absurd (omega (arith, some, none)))
    ]

    pub kid_asked : was_asked (said_in (facts_at t)) p x.me ≡ true
    kid_asked = elim (born_are_live_or_left t whole p (λ none. (let at_p : born_at bs p ≡ Some y = subst (λ b. born_at bs b ≡ Some y) me_y began_y in absurd (cc (none, at_p))))) [
      | inl left ↦ gone (exit (events_of t) p) refl left
      | inr among ↦ by (node_at (facts_at t) p.node) refl among
    ]
      where
        gone : (o : Option Exit) → exit (events_of t) p ≡ o → exit (events_of t) p ≢ None → was_asked (said_in (facts_at t)) p x.me ≡ true
        gone None none some = absurd (some none)
        gone (Some z) left some = left_asks z left

        by : (o : Option NodeState) → node_at (facts_at t) p.node ≡ o → is_among p (lives_at o) ≡ true → was_asked (said_in (facts_at t)) p x.me ≡ true
        by None up found = absurd cc
        by (Some k) up found =
            let l = among_found k.lives p found in
            let me : l.0.me ≡ p = item_is live_id k.lives p l.0 l.1 in
            live_asks p.node k up l.0 (subst (λ b. live_at k b ≡ Some l.0) (sym me) l.1) me refl
