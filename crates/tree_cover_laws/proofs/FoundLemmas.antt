-- Where a root has asked a child, its COMMIT came before, to a root at rest, and was accepted.
use Rattle.std.proofs.Common.{◌≡◌, ◌≢◌, true, false, [], ◌∷◌, ◌++◌, Option, Some, None, inl, inr, refl, sym, ap, subst, ◌∙◌}
use Rattle.std.proofs.lemmas.List.{append_assoc}
use Rattle.tran_ids.proofs.ListedLemmas.{item_is}
use Rattle.node_rules.specs.Data.{BranchId, Live}
use Rattle.node_rules.specs.Data.phases
use Rattle.node_rules.specs.NodeState.{NodeState, Branch, live_id, live_at, branch_at, work_at, with_work}
use Rattle.run_rules.specs.Births.{Born, births_of, born_at}
use Rattle.run_base_laws.specs.BirthLaws.{Began}
use Rattle.run_rules.specs.Branches.{is_among}
use Rattle.run_rules.specs.Data.happenings
use Rattle.run_rules.specs.Facts.{node_at, facts_of}
use Rattle.run_base_laws.specs.FreezeLaws.{was_asked}
use Rattle.run_base_laws.specs.InTurnLaws.{said_in}
use Rattle.run_rules.specs.Lawful.{History, IsLawfulRun, facts_at}
use Rattle.run_base_laws.specs.RunEvents.{lives_at}
use Rattle.run_rules.specs.Trail.{is_prepare}
use Rattle.run_branch_laws.specs.WalkLaws.{was_sent}
use Rattle.run_base_laws.proofs.BirthRunLemmas.{born_are_live_or_left}
use Rattle.run_branch_laws.proofs.FreezeRunLemmas.{asked_stand_still}
use Rattle.tree_laws.proofs.ForestLemmas as trees
use Rattle.tree_laws.proofs.PrefixLemmas.{so_far, f_at}
use Rattle.tree_laws.proofs.SettleRunLemmas.{known}
use Rattle.tree_laws.proofs.DecideLemmas.{IsTop}
use Rattle.tree_laws.proofs.FateLemmas.{among_found}
use Rattle.tree_laws.proofs.FindLemmas.{WasFound, commit_came}
use Rattle.tree_laws.proofs.TimeLemmas.{Part, part_lawful, born_end}
use Rattle.tree_cover_laws.proofs.RootPathLemmas.{same_commit}
use Rattle.tree_cover_laws.proofs.SentLemmas.{SentThen, sent_then}

module _ (t : History) (whole : IsLawfulRun t) (r : BranchId) (top : IsTop t whole r) (c : BranchId) (asked : was_asked (said_in (facts_at t)) r c ≡ true) where
  abbrev first_part : Part t whole []
  first_part = record { rest = t.trace; is = refl }

  nothing_sent : was_sent is_prepare (said_in (f_at t [])) r c ≡ false
  unfolding facts_of
  nothing_sent = refl

  it : SentThen t whole [] first_part is_prepare r c
  it = sent_then t whole [] first_part is_prepare (λ z so. so) r c nothing_sent asked

  abbrev z : History
  z = so_far t it.moment

  lawful : IsLawfulRun z
  lawful = part_lawful t whole it.moment it.part

  born_then : (x : Born) × Began (births_of z) x × (x.me ≡ r)
  born_then = (let heard = (known z lawful).asks r c it.sent in (heard.0, heard.1, heard.2))

  one : born_then.0 ≡ top.0
  one = trees.same_born (births_of t) (said_in (facts_at t)) (known t whole) born_then.0 top.0 (born_end t whole it.moment it.part born_then.0 born_then.1) top.1 (born_then.2 ∙ sym top.2)

  by_live : (k : NodeState) (l : Live) → node_at (f_at t it.moment) r.node ≡ Some k → live_at k r ≡ Some l → WasFound z lawful r it.moment
  by_live k l up live =
      commit_came z lawful r (born_then.0, born_then.1, born_then.2, ap (λ (x : Born). x.parent) one ∙ top.3) (λ w gone dropped. (let still = it.live in absurd (cc (gone, still)))) k l up live busy
    where
      busy : l.phase ≢ phases.Working
      busy working =
          let me : l.me ≡ r = item_is live_id k.lives r l live in
          let y : Branch = record { live = l; work = work_at k l.me } in
          let found : branch_at k l.me ≡ Some y = ap (with_work k) (subst (λ b. live_at k b ≡ Some l) (sym me) live) in
          let no : was_asked (said_in (f_at t it.moment)) l.me c ≡ false = (asked_stand_still z lawful r.node k up y found).0 working c in
          let yes : was_asked (said_in (f_at t it.moment)) l.me c ≡ true = subst (λ b. was_asked (said_in (f_at t it.moment)) b c ≡ true) (sym me) it.sent in
          absurd (cc (yes, no))

  found_then : WasFound z lawful r it.moment
  found_then = elim (born_are_live_or_left z lawful r (λ none. (let at_r : born_at (births_of z) r ≡ Some born_then.0 = subst (λ b. born_at (births_of z) b ≡ Some born_then.0) born_then.2 born_then.1 in absurd (cc (none, at_r))))) [
    | inl left ↦ absurd (left it.live)
    | inr among ↦ by (node_at (f_at t it.moment) r.node) refl among
  ]
    where
      by : (o : Option NodeState) → node_at (f_at t it.moment) r.node ≡ o → is_among r (lives_at o) ≡ true → WasFound z lawful r it.moment
      by None is among = absurd cc
      by (Some j) is among = (let l = among_found j.lives r among in by_live j l.0 is l.1)

  pub commit_before : WasFound t whole r t.trace
  commit_before = record {
    before = found_then.before;
    turn = found_then.turn;
    later = found_then.later ++ it.part.rest;
    is = sym (append_assoc found_then.before (happenings.Turn found_then.turn ∷ found_then.later) it.part.rest) ∙ (ap (λ xs. xs ++ it.part.rest) found_then.is ∙ it.part.is);
    commit = same_commit z t lawful whole r found_then.before found_then.turn (λ n. refl) found_then.commit;
  }
