-- In every lawful run no branch of a transaction has asked another to prepare, when its COMMIT comes to its live root.
use Rattle.std.proofs.Common.{◌≡◌, ℕ, zero, suc, ◌+◌, ◌≤◌, Bool, true, false, List, Option, Some, None, refl, sym, ap, subst, ◌∙◌, arith}
use Rattle.tran_ids.proofs.ListedLemmas.{item_is}
use Rattle.node_rules.specs.Data.{BranchId}
use Rattle.node_rules.specs.Data.phases
use Rattle.node_rules.specs.Data.stmts
use Rattle.node_rules.specs.NodeState.{Branch, live_id, live_at, branch_at, work_at, with_work}
use Rattle.node_rules.specs.Sessions.{session_at}
use Rattle.run_rules.specs.Births.{Born, births_of, born_id, born_at}
use Rattle.run_base_laws.specs.BirthLaws.{Began, StandsBelow}
use Rattle.run_base_laws.specs.CallLaws.{ComesAtRest}
use Rattle.run_rules.specs.Data.{Happening}
use Rattle.run_rules.specs.Data.happenings
use Rattle.run_rules.specs.Facts.{first_facts}
use Rattle.run_base_laws.specs.FreezeLaws.{was_asked}
use Rattle.run_base_laws.specs.InTurnLaws.{said_in}
use Rattle.run_rules.specs.Lawful.{History, IsLawfulRun}
use Rattle.run_base_laws.specs.NodeLaws.{EachFactFrom}
use Rattle.run_base_laws.proofs.BirthRunLemmas.{births_are_trees}
use Rattle.run_branch_laws.proofs.FreezeRunLemmas.{asked_stand_still}
use Rattle.run_base_laws.proofs.OwnLemmas.{all_found}
use Rattle.run_base_laws.proofs.RestRunLemmas.{calls_come_at_rest}
use Rattle.tree_laws.proofs.AskRunLemmas.{askers_were_asked}
use Rattle.tree_laws.proofs.PrefixLemmas.{f_at}
use Rattle.tree_laws.proofs.TimeLemmas.{Part, part_of, part_lawful, fact_at, born_end}
use Rattle.run_claims.specs.Undisturbed.{Commit}
use Rattle.commit_spread_laws.specs.GotLaws.{CommitsComeFirst}
use Rattle.tree_laws.proofs.AtPart.{at_part}

module _ (t : History) (whole : IsLawfulRun t) (c : Commit t.places t.commands t.trace) where
  abbrev hs : List Happening
  hs = c.before

  abbrev h : Happening
  h = happenings.Turn c.call

  open at_part t c.before use {s, f, said, bs}

  part : Part t whole hs
  part = part_of t whole hs h c.during c.is

  lawful : IsLawfulRun s
  lawful = part_lawful t whole hs part

  -- the root asked nobody
  me : c.live.me ≡ c.root
  me = item_is live_id c.kept.lives c.root c.live c.there

  abbrev x : Branch
  x = record { live = c.live; work = work_at c.kept c.live.me }

  found : branch_at c.kept c.live.me ≡ Some x
  found = ap (with_work c.kept) (subst (λ i. live_at c.kept i ≡ Some c.live) (sym me) c.there)

  rests : ComesAtRest t.places f h
  rests = fact_at t.places t.commands (ComesAtRest t.places) (first_facts t.places) hs h c.during (subst (EachFactFrom (ComesAtRest t.places) t.places t.commands (first_facts t.places)) (sym c.is) (calls_come_at_rest t whole))

  working : c.live.phase ≡ phases.Working
  working = (rests c.kept c.up c.session (Some (stmts.Commit c.comment)) c.asks x (subst (λ i. (session_at c.kept.sessions c.session).root ≡ Some i) (sym me) c.of) found).0

  root_asks : (q : BranchId) → was_asked said c.root q ≡ false
  root_asks q = subst (λ i. was_asked said i q ≡ false) me ((asked_stand_still s lawful c.call.node c.kept c.up x found).0 working q)

  -- nor did any branch below it
  one_born : (y z : Born) → Began bs y → Began bs z → y.me ≡ z.me → y ≡ z
  one_born y z one two is =
      let at : born_at bs z.me ≡ Some y = subst (λ i. born_at bs i ≡ Some y) is one in
      let both : Some y ≡ Some z = sym at ∙ two in
      cc

  stands : (y : Born) → Began bs y → StandsBelow (Began bs) y y.parent
  stands y began = all_found (λ z. StandsBelow (Began bs) z z.parent) born_id bs y.me y (births_are_trees s lawful) began

  asks_not : (fuel : ℕ) (y : Born) → Began bs y → y.root ≡ c.root → y.depth ≤ fuel → (q : BranchId) → was_asked said y.me q ≡ true → (o : Option BranchId) → y.parent ≡ o → StandsBelow (Began bs) y o → ⊥
  asks_not fuel y began of low q asked None none top =
      let is : c.root ≡ y.me = sym of ∙ top.0 in
      let no : was_asked said y.me q ≡ false = subst (λ i. was_asked said i q ≡ false) is (root_asks q) in
      absurd (cc (asked, no))
  asks_not zero y began of low q asked (Some p) above below = (let deep : below.0.depth + 1 ≡ y.depth = below.4 in absurd (omega (arith, low, deep)))
  asks_not (suc n) y began of low q asked (Some p) above below =
      let heard = askers_were_asked s lawful y.me q asked in
      let it : heard.0 ≡ y = one_born heard.0 y heard.1 began heard.2 in
      let parent : heard.0.parent ≡ Some p = ap (λ (z : Born). z.parent) it ∙ above in
      let parent_asked : was_asked said p y.me ≡ true = heard.3 p parent in
      let deep : below.0.depth + 1 ≡ y.depth = below.4 in
      asks_not n below.0 below.1 (below.3 ∙ of) (omega (arith, low, deep)) y.me (subst (λ i. was_asked said i y.me ≡ true) (sym below.2) parent_asked) below.0.parent refl (stands below.0 below.1)

  asks_none : (y : Born) → Began (births_of t) y → y.root ≡ c.root → (q : BranchId) → (a : Bool) → was_asked said y.me q ≡ a → was_asked said y.me q ≡ false
  asks_none y began of q false is = is
  asks_none y began of q true is =
      let heard = askers_were_asked s lawful y.me q is in
      let later : born_at (births_of t) y.me ≡ Some heard.0 = subst (λ i. born_at (births_of t) i ≡ Some heard.0) heard.2 (born_end t whole hs part heard.0 heard.1) in
      let both : Some heard.0 ≡ Some y = sym later ∙ began in
      let it : heard.0 ≡ y = cc in
      absurd (asks_not heard.0.depth heard.0 heard.1 (ap (λ (z : Born). z.root) it ∙ of) (omega arith) q (subst (λ i. was_asked said i q ≡ true) (sym heard.2) is) heard.0.parent refl (stands heard.0 heard.1))

pub commits_come_first : CommitsComeFirst
commits_come_first t whole c y began of q = asks_none t whole c y began of q (was_asked (said_in (f_at t c.before)) y.me q) refl
