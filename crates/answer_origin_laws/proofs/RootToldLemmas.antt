-- What is told of the transaction of a session whose call a turn ends: its answer came from the run that the turn brought.
use Rattle.std.proofs.Common.{◌≡◌, ℕ, ◌==◌, ◌&&◌, ◌||◌, Bool, true, false, if◌then◌else◌, find, is_none, List, [], ◌∷◌, map, Option, Some, None, refl, sym, ap, ◌∙◌}
use Rattle.std.specs.List.{list_any}
use Rattle.std.proofs.lemmas.Bool.{and_parts, and_from, or_right}
use Rattle.node_rules.specs.Data.{Answer, Msg, Place}
use Rattle.node_rules.specs.declared.session.Finished.{Finished}
use Rattle.node_rules.specs.NodeState.{TurnOutput}
use Rattle.node_rules.specs.Words.{same}
use Rattle.run_rules.specs.Branches.{Exit, Seen, Trail, is_live, is_live_at, is_root_of, root_at}
use Rattle.run_rules.specs.Data.{Turn}
use Rattle.run_rules.specs.Data.happenings
use Rattle.run_rules.specs.Facts.{Facts, outcome_at}
use Rattle.run_rules.specs.Trail.{is_reply, answers, ended_by, exit_after, with_turn, trail_after}
use Rattle.tree_trail_laws.proofs.SeenLemmas.{begun, planned, brings, turned}

mapped_find : {A : Type 0} (p : A → Bool) (g : A → A) (xs : List A) (y : A) → find p (map g xs) ≡ Some y → (x : A) × (g x ≡ y) × (p (g x) ≡ true)
mapped_find p g [] y is = absurd cc
mapped_find p g (x ∷ xs) y is = by (p (g x)) refl is (mapped_find p g xs y)
  where
    by : (q : Bool) → p (g x) ≡ q → (if q then Some (g x) else find p (map g xs)) ≡ Some y → (find p (map g xs) ≡ Some y → (z : _) × (g z ≡ y) × (p (g z) ≡ true)) → (z : _) × (g z ≡ y) × (p (g z) ≡ true)
    by true passes at later = let it : Some (g x) ≡ Some y = at in let here : g x ≡ y = cc in (x, here, passes)
    by false fails at later = later at

module _ (places : List Place) (f : Facts) (tr : Trail) (u : Turn) (o : TurnOutput) (outcome : outcome_at places f u ≡ Some o) (session : ℕ) (a : Answer) (more : List Finished)
    (ended : o.ended ≡ (record { session = session; answer = a }) ∷ more) where
  abbrev made : Seen → Seen
  made s = turned places f tr u s

  -- one that is live after the turn was so before it
  was_live : (s : Seen) (e : Option Exit) → s.exit ≡ e → is_live (made s) ≡ true → is_none e ≡ true
  was_live s None at live = refl
  was_live s (Some e) at live = absurd (let gone : (made s).exit ≡ Some e = ap (exit_after (planned places f tr u) u (brings places f tr u).answer s (with_turn f.book u (outcome_at places f u) (brings places f tr u) s)) at in let none : is_live (made s) ≡ false = ap is_none gone in cc (live, none))

  was_root : (s : Seen) → is_root_of u.node session (made s) ≡ true → is_root_of u.node session s ≡ true
  was_root s is =
      let one = and_parts (is_live_at u.node (made s)) (is_none s.parent && (s.me.session == session)) is in
      let two = and_parts (s.me.node == u.node) (is_live (made s)) one.0 in
      and_from (is_live_at u.node s) (is_none s.parent && (s.me.session == session)) (and_from (s.me.node == u.node) (is_live s) two.0 (was_live s s.exit refl two.1)) one.1

  answering : (s : Seen) → is_root_of u.node session s ≡ true → answers u (outcome_at places f u) s ≡ true
  answering s is =
      let first : list_any (λ (x : Finished). is_root_of u.node x.session s) (ended_by (outcome_at places f u)) ≡ true
      = ap (λ y. list_any (λ (x : Finished). is_root_of u.node x.session s) (ended_by y)) outcome ∙ (ap (list_any (λ (x : Finished). is_root_of u.node x.session s)) ended ∙ ap (λ q. q || list_any (λ (x : Finished). is_root_of u.node x.session s) more) is) in
      or_right (list_any (λ (m : Msg). same m.from s.me && is_reply m.kind) u.sent) (list_any (λ (x : Finished). is_root_of u.node x.session s) (ended_by (outcome_at places f u))) first

  pub root_brought : (s : Seen) → root_at (trail_after places f tr (happenings.Turn u)) u.node session ≡ Some s → s.answer ≡ (brings places f tr u).origin
  unfolding trail_after
  root_brought s at =
      let found = mapped_find (is_root_of u.node session) made (begun places f tr u).seen s at in
      let x : Seen = found.0 in
      ap (λ (y : Seen). y.answer) (sym found.1) ∙ ap (λ q. if q then (brings places f tr u).origin else x.answer) (answering x (was_root x found.2))
