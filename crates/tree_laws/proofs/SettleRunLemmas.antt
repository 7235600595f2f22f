-- In every lawful run a seal and a decision have heard of each neighbour beyond, by the forest that the Prepares of the whole run make.
use Rattle.std.proofs.Common.{◌≡◌, ◌≢◌, ℕ, Bool, true, false, List, [], ◌∷◌, ◌++◌, map, Option, Some, None, inl, inr, refl, sym, ap, subst, ◌∙◌, arith}
use Rattle.std.specs.Prelude.{IfSome}
use Rattle.prepare_phase.specs.Records.{named_children}
use Rattle.redo_record.specs.declared.record.Peer.{Peer}
use Rattle.node_rules.specs.Data.{Sealed, Decided}
use Rattle.node_rules.specs.Data.{BranchId, Kind, Live, Act, Post, RedoRecord}
use Rattle.node_rules.specs.Data.records
use Rattle.node_rules.specs.NodeState.{NodeState, TurnDraft}
use Rattle.node_rules.specs.Turn.{heard, draft_of}
use Rattle.agreement.specs.Events as exits
use Rattle.agreement.specs.Events.{Forest, Event, exit}
use Rattle.run_rules.specs.Data.{Turn, Happening}
use Rattle.run_rules.specs.Data.happenings
use Rattle.run_rules.specs.Facts.{Facts, first_facts, place_at, facts_after, facts_of}
use Rattle.run_rules.specs.Lawful.{MayTurn, MayHappen, History, IsLawfulRun, facts_at}
use Rattle.run_base_laws.specs.RunEvents.{wrote_event, with_event, with_record, with_happening, events_after}
use Rattle.run_base_laws.specs.EventLaws.{EachEventFrom}
use Rattle.run_rules.specs.Births.{Born, births_from, births_of}
use Rattle.run_base_laws.specs.BirthLaws.{Began}
use Rattle.run_base_laws.specs.FreezeLaws.{was_asked}
use Rattle.run_base_laws.specs.InTurnLaws.{post_of, said_in}
use Rattle.run_branch_laws.specs.WalkLaws.{is_below, was_sent}
use Rattle.run_base_laws.proofs.LawfulLemmas.{serves}
use Rattle.run_base_laws.proofs.BirthLemmas.{turn_left}
use Rattle.run_base_laws.proofs.KindSayLemmas.{AllSay}
use Rattle.run_base_laws.proofs.SaidPostLemmas.{posts_back, said_after}
use Rattle.run_branch_laws.proofs.FreezeLemmas.{IsPlain, plain_asks, asked_split}
use Rattle.tree_laws.specs.AskLaws.{HasToldAll}
use Rattle.tree_laws.specs.BeyondLaws.{BeyondHeard, RecordHeard, WritesHeard, RecordsHeard}
use Rattle.tree_laws.specs.Forests.{forest_of}
use Rattle.tree_laws.proofs.AskLemmas.{sent_more}
use Rattle.tree_laws.proofs.ForestLemmas as trees
use Rattle.tree_laws.proofs.ForestRunLemmas.{run_known}
use Rattle.tree_laws.proofs.FitLemmas.{decided_first, decided_left, began_all, said_all}
use Rattle.tree_laws.proofs.LeftLemmas.{left_have_told_all}
use Rattle.tree_laws.proofs.PrefixLemmas.{so_far, f_at, e_at, facts_join, births_join, each_prefix}
use Rattle.tree_laws.proofs.WhyLemmas.{ActsIn, WroteWhy, WhyOf, seal_act, why_on}
use Rattle.tree_laws.proofs.BeyondLemmas.{beyond_is}
use Rattle.tree_laws.proofs.SettleLemmas.{Settling, Seals, Passes_on, Decides, kid_heard, above_heard}

-- a branch that becomes sealed has left, whatever else its turn does
sealed_left : (f g : Facts) (u : Turn) (t : List Event) (r : Sealed) → u.wrote ≡ Some (records.Sealed r) → exit (with_happening f g (happenings.Turn u) t) r.me ≢ None
sealed_left f g u t r is =
    turn_left r.me f g (record u { wrote = None }) (with_record u t)
    (subst (λ o. exit (with_event (wrote_event u.node o) t) r.me ≢ None) (sym is) (decided_first r.me (exits.Sealed r.scn) (exit t r.me)))

seal_settles : (path : Option ℕ) → Settling (seal_act path)
seal_settles None = Seals
seal_settles (Some i) = Passes_on i

module _ (t : History) (whole : IsLawfulRun t) where
  abbrev pub all : List Post
  all = said_in (facts_at t)

  abbrev pub ends : List Born
  ends = births_of t

  abbrev pub p : Forest
  p = forest_of t

  pub known : trees.Known ends all
  known = run_known t whole

  -- what a branch that has left asks by the end of the run it asked before
  told_rest : (rest : List Happening) (f : Facts) (e : List Event) → EachEventFrom (HasToldAll all) t.places t.commands f e rest → said_in (facts_of t.places t.commands f rest) ≡ all → (b c : BranchId) → exit e b ≢ None → was_asked all b c ≡ true
      → was_asked (said_in f) b c ≡ true
  unfolding facts_of
  told_rest [] f e later is b c left asked = subst (λ xs. was_asked xs b c ≡ true) (sym is) asked
  told_rest (h ∷ rest) f e later is b c left asked = (later.0 b c left).0 asked

  module _ (before : List Happening) (u : Turn) (rest : List Happening) (is : before ++ happenings.Turn u ∷ rest ≡ t.trace) where
    abbrev pub f : Facts
    f = f_at t before

    abbrev pub e : List Event
    e = e_at t before

    abbrev pub said : List Post
    said = said_in f

    abbrev pub g : Facts
    g = facts_after t.places t.commands f (happenings.Turn u)

    abbrev pub after : List Event
    after = events_after t.places t.commands f (happenings.Turn u) e

    joined : facts_at t ≡ facts_of t.places t.commands f (happenings.Turn u ∷ rest)
    joined = ap (λ hs. facts_of t.places t.commands (first_facts t.places) hs) (sym is) ∙ facts_join t.places t.commands (first_facts t.places) before (happenings.Turn u ∷ rest)

    more : (says : List Post) × (all ≡ said ++ says)
    more = let to_end = said_all t.places t.commands f (happenings.Turn u ∷ rest) in (to_end.0, ap said_in joined ∙ to_end.1)

    pub more_sent : (kind : Kind → Bool) (q c : BranchId) → was_sent kind said q c ≡ true → was_sent kind all q c ≡ true
    more_sent kind q c told = subst (λ xs. was_sent kind xs q c ≡ true) (sym more.1) (sent_more kind said more.0 q c told)

    births_on : ends ≡ births_from t.places t.commands f (happenings.Turn u ∷ rest) (births_of (so_far t before))
    births_on = ap (λ hs. births_from t.places t.commands (first_facts t.places) hs []) (sym is) ∙ births_join t.places t.commands (first_facts t.places) before (happenings.Turn u ∷ rest) []

    pub wider : (x : Born) → Began (births_of (so_far t before)) x → Began ends x
    wider x began = subst (λ xs. Began xs x) (sym births_on) (began_all t.places t.commands f (happenings.Turn u ∷ rest) (births_of (so_far t before)) x began)

    module _ (lawful : IsLawfulRun (so_far t before)) (k : NodeState) (may : MayTurn t.places f u k) (later : EachEventFrom (HasToldAll all) t.places t.commands f e (happenings.Turn u ∷ rest)) where
      abbrev pub d : TurnDraft
      d = draft_of (place_at t.places u.node) k u.input

      abbrev pub k0 : NodeState
      k0 = heard k u.input

      -- ---- whom a branch that leaves now has asked

      all_after : said_in (facts_of t.places t.commands g rest) ≡ all
      unfolding facts_of
      all_after = ap said_in (sym joined)

      plain_sent : AllSay IsPlain d.says → (b c : BranchId) → was_asked (map post_of u.sent) b c ≡ false
      plain_sent plain b c = elim (serves t.places f u k may).sent [
        | inl none ↦ ap (λ xs. was_asked (map post_of xs) b c) none
        | inr uncut ↦ ap (λ xs. was_asked (map post_of xs) b c) uncut.1 ∙ (ap (λ xs. was_asked xs b c) (posts_back d.after.clock d.says) ∙ plain_asks b c d.says plain)
      ]

      pub asked_then : AllSay IsPlain d.says → (b c : BranchId) → exit after b ≢ None → was_asked all b c ≡ true → was_asked said b c ≡ true
      asked_then plain b c left asked =
          let now : was_asked (said_in g) b c ≡ true = told_rest rest g after later.1 all_after b c left asked in
          elim (asked_split said (map post_of u.sent) b c (subst (λ xs. was_asked xs b c ≡ true) (said_after t.places t.commands f (happenings.Turn u)) now)) [
            | inl old ↦ old
            | inr new ↦ (let none : was_asked (map post_of u.sent) b c ≡ false = plain_sent plain b c in absurd (cc (new, none)))
          ]

      pub off_before : (b c : BranchId) → was_sent is_below all b c ≡ false → was_sent is_below said b c ≡ false
      off_before b c off = by (was_sent is_below said b c) refl
        where
          by : (q : Bool) → was_sent is_below said b c ≡ q → q ≡ false
          by false at = refl
          by true at = (let on : was_sent is_below all b c ≡ true = more_sent is_below b c at in absurd (cc (on, off)))

      -- ---- what it has heard

      pub beyond_heard : (path : Option ℕ) → AllSay IsPlain d.says → {l : Live} {b : Bool} {a : Act} → ActsIn k0 u.input l b a → Settling a → exit after l.me ≢ None
          → BeyondHeard p e l.me l.parent (map (λ (c : Peer). c.branch) (named_children path 1 l.edges)) k0.clock
      beyond_heard path plain {l = l} acts settles left x edge = elim (beyond_is ends all known x l.me edge) [
        | inl kid ↦ elim (kid_heard t before lawful u k may path x acts.here acts.near acts.acting settles (asked_then plain l.me x left kid.0) (off_before l.me x kid.1)) [
          | inl voted ↦ inl (inr voted.0, voted.1)
          | inr quiet ↦ inr quiet
        ]
        | inr told ↦ (let up = above_heard t before lawful u k may ends all known wider more_sent acts.here acts.near acts.acting settles x told in inl (inl up.0, up.1))
      ]

      record_heard : (w : Option RedoRecord) → u.wrote ≡ w → IfSome w (WroteWhy k0 u.input d.says) → IfSome w (RecordHeard p e)
      record_heard None wrote why = tt
      record_heard (Some (records.Sealed r)) wrote why =
          let me : r.me ≡ why.1.me = ap (λ (x : Sealed). x.me) why.6 in
          let left : exit after why.1.me ≢ None = subst (λ b. exit after b ≢ None) me (sealed_left f g u e r wrote) in
          subst (λ x. RecordHeard p e (records.Sealed x)) (sym why.6) (beyond_heard why.3 why.0 why.4 (seal_settles why.3) left)
      record_heard (Some (records.Decided r)) wrote why =
          let me : r.me ≡ why.1.me = ap (λ (x : Decided). x.me) why.5 in
          let left : exit after why.1.me ≢ None = subst (λ b. exit after b ≢ None) me (decided_left f g u e r wrote) in
          subst (λ x. RecordHeard p e (records.Decided x)) (sym why.5) (k0.clock, omega arith, beyond_heard None why.0 why.3 Decides left)
      record_heard (Some _) wrote why = tt

      pub why : WhyOf k0 u.input d
      why = why_on k0 u.input (place_at t.places u.node) (serves t.places f u k may).step (λ no. record { lives = refl; clock = refl })

      turn_heard : IfSome u.wrote (RecordHeard p e)
      turn_heard = elim (serves t.places f u k may).wrote [
        | inl none ↦ subst (λ o. IfSome o (RecordHeard p e)) (sym none) tt
        | inr it ↦ record_heard u.wrote refl (subst (λ o. IfSome o (WroteWhy k0 u.input d.says)) (sym it) why.0)
      ]

  writes_heard : (before : List Happening) (h : Happening) (rest : List Happening) → before ++ h ∷ rest ≡ t.trace → IsLawfulRun (so_far t before) → MayHappen t.places t.commands (f_at t before) h
      → EachEventFrom (HasToldAll all) t.places t.commands (f_at t before) (e_at t before) (h ∷ rest) → WritesHeard p (f_at t before) (e_at t before) h
  writes_heard before (happenings.Turn u) rest is lawful may later = turn_heard before u rest is lawful may.0 may.1 later
  writes_heard before _ rest is lawful may later = tt

  pub heard_each : EachEventFrom (WritesHeard p) t.places t.commands (first_facts t.places) [] t.trace
  heard_each = each_prefix t (HasToldAll all) (WritesHeard p) writes_heard whole (left_have_told_all t whole)

pub records_heard : RecordsHeard
records_heard t lawful = heard_each t lawful
