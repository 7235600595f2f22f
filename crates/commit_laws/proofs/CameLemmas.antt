-- In every lawful run each message that was delivered came to its receiver in a turn.
use Rattle.std.proofs.Common.{◌≡◌, List, [], ◌∷◌, ◌++◌, refl, sym, ap, subst, ◌∙◌, append-nil}
use Rattle.std.proofs.lemmas.List.{append_assoc}
use Rattle.node_rules.specs.Data.{Msg}
use Rattle.run_rules.specs.Data.{Happening}
use Rattle.run_rules.specs.Data.happenings
use Rattle.run_rules.specs.Facts.{Facts, facts_of}
use Rattle.run_rules.specs.Lawful.{MayHappen, History, IsLawfulRun}
use Rattle.run_rules.proofs.ListLemmas.{all_weaker}
use Rattle.tree_laws.proofs.PrefixLemmas.{f_at, one_on}
use Rattle.tree_laws.proofs.TimeLemmas.{may_of, keep_on}
use Rattle.commit_laws.specs.DeliveryLaws.{CameInTurn, DeliveriesCame}
use Rattle.commit_laws.proofs.NetLemmas.{IfCame, AllCame, Takes, came_after, took_it}

module _ (t : History) (whole : IsLawfulRun t) where
  abbrev Came : List Happening → Type 0
  Came hs = AllCame (CameInTurn hs) (f_at t hs).net.packets

  came_more : (hs : List Happening) (h : Happening) (m : Msg) → CameInTurn hs m → CameInTurn (hs ++ h ∷ []) m
  came_more hs h m it = record {
    before = it.before;
    turn = it.turn;
    later = it.later ++ h ∷ [];
    is = sym (append_assoc it.before (happenings.Turn it.turn ∷ it.later) (h ∷ [])) ∙ ap (λ xs. xs ++ h ∷ []) it.is;
    input = it.input;
    here = it.here;
  }

  takes_so : (hs : List Happening) (h : Happening) (rest : List Happening) → hs ++ h ∷ rest ≡ t.trace → MayHappen t.places t.commands (f_at t hs) h → Takes (CameInTurn (hs ++ h ∷ [])) (f_at t hs) h
  takes_so hs (happenings.Turn u) rest is may = λ k x took at. (
      let so = took_it (f_at t hs) may.0 u.node u.input u.took may.1.comes k x took at in
      record { before = hs; turn = u; later = []; is = refl; input = so.0; here = so.1 })
  takes_so hs (happenings.Begun c) rest is may = tt
  takes_so hs (happenings.Cut a b) rest is may = tt
  takes_so hs (happenings.Join a b) rest is may = tt
  takes_so hs (happenings.Lost k) rest is may = tt
  takes_so hs (happenings.Stopped n) rest is may = tt
  takes_so hs (happenings.Started n boot) rest is may = tt

  came_on : (hs : List Happening) (h : Happening) (rest : List Happening) → hs ++ h ∷ rest ≡ t.trace → Came hs → Came (hs ++ h ∷ [])
  came_on hs h rest is now =
      let wider : AllCame (CameInTurn (hs ++ h ∷ [])) (f_at t hs).net.packets
      = all_weaker (IfCame (CameInTurn hs)) (IfCame (CameInTurn (hs ++ h ∷ []))) (λ x so fate. came_more hs h x.msg (so fate)) (f_at t hs).net.packets now in
      subst (λ (f : Facts). AllCame (CameInTurn (hs ++ h ∷ [])) f.net.packets) (sym (one_on t hs h))
      (came_after (CameInTurn (hs ++ h ∷ [])) t.places t.commands (f_at t hs) h (takes_so hs h rest is (may_of t whole hs h rest is)) wider)

  first_came : Came []
  unfolding facts_of
  first_came = tt

pub deliveries_came : DeliveriesCame
deliveries_came t whole = keep_on t whole (Came t whole) (came_on t whole) [] t.trace (record { rest = []; is = append-nil t.trace }) (first_came t whole)
