-- A run cut in two: its first part is a lawful run, and what its branches left and were told there stays so.
use Rattle.std.proofs.Common.{◌≡◌, Bool, true, List, [], ◌∷◌, ◌++◌, Some, refl, sym, ap, subst, ◌∙◌, append-nil}
use Rattle.std.proofs.lemmas.List.{append_assoc}
use Rattle.agreement.specs.Events.{Event, Exit, exit}
use Rattle.node_rules.specs.Data.{BranchId, Kind}
use Rattle.run_rules.specs.Data.{Happening, Command}
use Rattle.run_rules.specs.Data.happenings
use Rattle.node_rules.specs.Data.{Place}
use Rattle.run_rules.specs.Facts.{Facts, first_facts, facts_after, facts_of}
use Rattle.run_rules.specs.Lawful.{MayHappen, IsLawful, History, IsLawfulRun, facts_at}
use Rattle.run_rules.specs.Births.{Born, births_from, births_of}
use Rattle.run_base_laws.specs.BirthLaws.{Began}
use Rattle.run_base_laws.specs.InTurnLaws.{said_in}
use Rattle.run_base_laws.specs.RunEvents.{events_after, events_from, events_of}
use Rattle.run_branch_laws.specs.WalkLaws.{was_sent}
use Rattle.run_base_laws.specs.EventLaws.{EachEventFrom}
use Rattle.run_base_laws.specs.NodeLaws.{EachFactFrom}
use Rattle.run_base_laws.proofs.LaterLemmas.{exit_later, wrote_added, turn_added, stop_added}
use Rattle.tree_laws.proofs.AskLemmas.{sent_more}
use Rattle.tree_laws.proofs.FitLemmas.{began_all, said_all}
use Rattle.tree_laws.proofs.PrefixLemmas.{so_far, f_at, e_at, facts_join, births_join}

module _ (places : List Place) (asked : List Command) where
  pub events_join : (f : Facts) (hs rest : List Happening) (e : List Event) → events_from places asked f (hs ++ rest) e ≡ events_from places asked (facts_of places asked f hs) rest (events_from places asked f hs e)
  unfolding facts_of events_from
  events_join f [] rest e = refl
  events_join f (h ∷ hs) rest e = events_join (facts_after places asked f h) hs rest (events_after places asked f h e)

  pub lawful_split : (f : Facts) (hs rest : List Happening) → IsLawful places asked f (hs ++ rest) → IsLawful places asked f hs × IsLawful places asked (facts_of places asked f hs) rest
  unfolding facts_of IsLawful
  lawful_split f [] rest lawful = (tt, lawful)
  lawful_split f (h ∷ hs) rest lawful = let later = lawful_split (facts_after places asked f h) hs rest lawful.1 in ((lawful.0, later.0), later.1)

  -- an exit stays
  pub exit_on : (f : Facts) (h : Happening) (e : List Event) (b : BranchId) (x : Exit) → exit e b ≡ Some x → exit (events_after places asked f h e) b ≡ Some x
  exit_on f (happenings.Turn u) e b x is = exit_later b x (turn_added f (facts_after places asked f (happenings.Turn u)) u e) (exit_later b x (wrote_added u e) is)
  exit_on f (happenings.Stopped n) e b x is = exit_later b x (stop_added f (facts_after places asked f (happenings.Stopped n)) n e) is
  exit_on f (happenings.Started n boot) e b x is = is
  exit_on f (happenings.Begun c) e b x is = is
  exit_on f (happenings.Cut m n) e b x is = is
  exit_on f (happenings.Join m n) e b x is = is
  exit_on f (happenings.Lost k) e b x is = is

  pub exits_on : (f : Facts) (hs : List Happening) (e : List Event) (b : BranchId) (x : Exit) → exit e b ≡ Some x → exit (events_from places asked f hs e) b ≡ Some x
  unfolding events_from
  exits_on f [] e b x is = is
  exits_on f (h ∷ hs) e b x is = exits_on (facts_after places asked f h) hs (events_after places asked f h e) b x (exit_on f h e b x is)

  -- a law of each happening, at one of them
  pub each_at : (So : Facts → List Event → Happening → Type 0) (f : Facts) (hs : List Happening) (h : Happening) (rest : List Happening) (e : List Event)
      → EachEventFrom So places asked f e (hs ++ h ∷ rest) → So (facts_of places asked f hs) (events_from places asked f hs e) h
  unfolding facts_of events_from
  each_at So f [] h rest e each = each.0
  each_at So f (x ∷ hs) h rest e each = each_at So (facts_after places asked f x) hs h rest (events_after places asked f x e) each.1

  pub fact_at : (So : Facts → Happening → Type 0) (f : Facts) (hs : List Happening) (h : Happening) (rest : List Happening) → EachFactFrom So places asked f (hs ++ h ∷ rest) → So (facts_of places asked f hs) h
  unfolding facts_of
  fact_at So f [] h rest each = each.0
  fact_at So f (x ∷ hs) h rest each = fact_at So (facts_after places asked f x) hs h rest each.1

module _ (t : History) (whole : IsLawfulRun t) where
  -- the first part of the run
  pub record Part (hs : List Happening) : Type 0 where
    pub rest : List Happening
    pub is : hs ++ rest ≡ t.trace

  module _ (hs : List Happening) (part : Part hs) where
    split : IsLawful t.places t.commands (first_facts t.places) hs × IsLawful t.places t.commands (f_at t hs) part.rest
    split = lawful_split t.places t.commands (first_facts t.places) hs part.rest (subst (IsLawful t.places t.commands (first_facts t.places)) (sym part.is) whole)

    pub part_lawful : IsLawfulRun (so_far t hs)
    part_lawful = split.0

    pub rest_lawful : IsLawful t.places t.commands (f_at t hs) part.rest
    rest_lawful = split.1

    facts_end : facts_at t ≡ facts_of t.places t.commands (f_at t hs) part.rest
    facts_end = ap (facts_of t.places t.commands (first_facts t.places)) (sym part.is) ∙ facts_join t.places t.commands (first_facts t.places) hs part.rest

    events_end : events_of t ≡ events_from t.places t.commands (f_at t hs) part.rest (e_at t hs)
    events_end = ap (λ xs. events_from t.places t.commands (first_facts t.places) xs []) (sym part.is) ∙ events_join t.places t.commands (first_facts t.places) hs part.rest []

    births_end : births_of t ≡ births_from t.places t.commands (f_at t hs) part.rest (births_of (so_far t hs))
    births_end = ap (λ xs. births_from t.places t.commands (first_facts t.places) xs []) (sym part.is) ∙ births_join t.places t.commands (first_facts t.places) hs part.rest []

    pub exit_end : (b : BranchId) (x : Exit) → exit (e_at t hs) b ≡ Some x → exit (events_of t) b ≡ Some x
    exit_end b x is = subst (λ e. exit e b ≡ Some x) (sym events_end) (exits_on t.places t.commands (f_at t hs) part.rest (e_at t hs) b x is)

    pub sent_end : (kind : Kind → Bool) (p c : BranchId) → was_sent kind (said_in (f_at t hs)) p c ≡ true → was_sent kind (said_in (facts_at t)) p c ≡ true
    sent_end kind p c is =
        let more = said_all t.places t.commands (f_at t hs) part.rest in
        let says : said_in (facts_at t) ≡ said_in (f_at t hs) ++ more.0 = ap said_in facts_end ∙ more.1 in
        subst (λ xs. was_sent kind xs p c ≡ true) (sym says) (sent_more kind (said_in (f_at t hs)) more.0 p c is)

    pub born_end : (x : Born) → Began (births_of (so_far t hs)) x → Began (births_of t) x
    born_end x is = subst (λ bs. Began bs x) (sym births_end) (began_all t.places t.commands (f_at t hs) part.rest (births_of (so_far t hs)) x is)

  -- one happening more
  pub part_on : (hs : List Happening) (h : Happening) (rest : List Happening) → hs ++ h ∷ rest ≡ t.trace → Part (hs ++ h ∷ [])
  part_on hs h rest is = record { rest = rest; is = append_assoc hs (h ∷ []) rest ∙ is }

  pub part_of : (hs : List Happening) (h : Happening) (rest : List Happening) → hs ++ h ∷ rest ≡ t.trace → Part hs
  part_of hs h rest is = record { rest = h ∷ rest; is = is }

  pub may_of : (hs : List Happening) (h : Happening) (rest : List Happening) → hs ++ h ∷ rest ≡ t.trace → MayHappen t.places t.commands (f_at t hs) h
  unfolding IsLawful
  may_of hs h rest is = (rest_lawful hs (record { rest = h ∷ rest; is = is })).0

  -- what each happening keeps, from some part of the run on
  module _ (K : List Happening → Type 0) (goes_on : (hs : List Happening) (h : Happening) (rest : List Happening) → hs ++ h ∷ rest ≡ t.trace → K hs → K (hs ++ h ∷ [])) where
    pub keep_on : (hs mid : List Happening) → Part (hs ++ mid) → K hs → K (hs ++ mid)
    keep_on hs [] part now = subst K (sym (append-nil hs)) now
    keep_on hs (h ∷ mid) part now =
        let so : (hs ++ h ∷ []) ++ mid ≡ hs ++ h ∷ mid = append_assoc hs (h ∷ []) mid in
        let all : hs ++ h ∷ (mid ++ part.rest) ≡ t.trace = sym (append_assoc hs (h ∷ mid) part.rest) ∙ part.is in
        subst K so (keep_on (hs ++ h ∷ []) mid (record { rest = part.rest; is = ap (λ xs. xs ++ part.rest) so ∙ part.is }) (goes_on hs h (mid ++ part.rest) all now))
