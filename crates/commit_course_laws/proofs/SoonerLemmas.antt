-- What a quiet COMMIT has come to at an earlier moment of its command: it is undisturbed so far where nothing is in flight, and
-- fewer than 4,096 messages have been delivered.
use Rattle.std.proofs.Common.{◌≡◌, ℕ, ◌+◌, ◌<◌, if◌then◌else◌, List, [], ◌∷◌, ◌++◌, Option, Some, None, false, true, refl, sym, ap, subst, ◌∙◌, arith}
use Rattle.std.specs.Prelude.{is_some}
use Rattle.std.proofs.lemmas.Bool.Decides.{nat_tests}
use Rattle.std.specs.List.{AllByRecursion}
use Rattle.std.proofs.lemmas.List.{append_assoc}
use Rattle.node_rules.specs.Data.{BranchId, Place}
use Rattle.node_rules.specs.Sessions.{session_at}
use Rattle.net_bag.specs.Net.{first_flying}
use Rattle.run_rules.specs.Births.{Born, births_from}
use Rattle.run_rules.specs.Branches.{is_among}
use Rattle.run_rules.specs.Data.{Command, Happening, Took}
use Rattle.run_rules.specs.Data.happenings
use Rattle.run_rules.specs.Facts.{Facts, first_facts, node_at, outcome_at, facts_after, facts_of}
use Rattle.run_rules.specs.Lawful.{History, IsLawfulRun}
use Rattle.run_rules.specs.Lines.{spent}
use Rattle.run_rules.specs.Past.{delivered_more, next, past}
use Rattle.run_rules.specs.RunReport.{Past, RunReport}
use Rattle.run_rules.proofs.ListLemmas.{all_weaker}
use Rattle.tree_laws.proofs.PrefixLemmas.{so_far, births_join, facts_join}
use Rattle.tree_laws.proofs.TimeLemmas.{part_lawful}
use Rattle.run_claims.specs.Undisturbed.{Commit, Undisturbed, CommitIsComplete, UndisturbedCommitsAreComplete, IsInCourse, LostNone, HasNotStopped, NoneComesIn, facts_by, branches_in, branches_by, answers_in, answers_from, commit_answers_in, commit_answers_from}
use Rattle.commit_length_laws.specs.FewLaws.{DeliveriesStayBelow, deliveries_in}
use Rattle.commit_course_laws.proofs.FlowLemmas.{IsWholeTurn, IsNoCreate}
use Rattle.answer_origin_laws.proofs.WayLemmas.{turn_way}
use Rattle.commit_course_laws.proofs.EarlierLemmas.{all_front, all_back, lost_back, births_more, among_more, all_fewer, lost_fewer, calm_fewer, stopped_back}

-- What a quiet COMMIT has beside its course.
pub record StaysCalm (t : History) (front : List Happening) (c : Commit t.places t.commands front) : Type 0 where
  pub goes_on : (session_at c.kept.sessions c.session).code ≡ None
  pub still : first_flying (facts_by t.places t.commands c.before).net ≡ None
  pub lost : LostNone (branches_by t.places t.commands front c.root) (facts_by t.places t.commands front).net.packets
  pub stopped : AllByRecursion (HasNotStopped (facts_by t.places t.commands front)) (branches_by t.places t.commands front c.root)
  pub calm : AllByRecursion (NoneComesIn (branches_by t.places t.commands front c.root)) front

-- ---- deliveries are counted

counted_one : (t : RunReport) (o : Option Took) → (delivered_more t o).deliveries ≡ t.deliveries + (if is_some o then 1 else 0)
counted_one t None = omega arith
counted_one t (Some k) = refl

pub counted : (places : List Place) (asked : List Command) (p : Past) (hs : List Happening) → AllByRecursion IsWholeTurn hs → (past places asked p hs).run_report.deliveries ≡ p.run_report.deliveries + deliveries_in hs
unfolding past next
counted places asked p [] whole = omega arith
counted places asked p (happenings.Turn u ∷ hs) whole =
    let one : (next places asked p (happenings.Turn u)).run_report.deliveries ≡ p.run_report.deliveries + (if is_some u.took then 1 else 0)
    = (turn_way p.facts.command (node_at p.facts u.node) p.run_report u (outcome_at places p.facts u)).deliveries ∙ counted_one p.run_report u.took in
    let rest : (past places asked (next places asked p (happenings.Turn u)) hs).run_report.deliveries ≡ (next places asked p (happenings.Turn u)).run_report.deliveries + deliveries_in hs = counted places asked (next places asked p (happenings.Turn u)) hs whole.1 in
    omega (arith, one, rest)
counted places asked p (h ∷ hs) whole = absurd whole.0

-- so few are not spent
pub not_spent : (n m : ℕ) → n ≡ m → m < 4096 → spent n ≡ false
not_spent n m is low = grind (arith, nat_tests, is, low)

-- ---- answers

-- those of two parts of a run, one after the other
pub answers_join : (places : List Place) (asked : List Command) (f : Facts) (node session : ℕ) (xs ys : List Happening)
    → commit_answers_from places asked f node session (xs ++ ys) ≡ commit_answers_from places asked f node session xs ++ commit_answers_from places asked (facts_of places asked f xs) node session ys
unfolding facts_of
answers_join places asked f node session [] ys = refl
answers_join places asked f node session (x ∷ xs) ys =
    ap (λ zs. commit_answers_in places f node session x ++ zs) (answers_join places asked (facts_after places asked f x) node session xs ys)
    ∙ sym (append_assoc (commit_answers_in places f node session x) (commit_answers_from places asked (facts_after places asked f x) node session xs) (commit_answers_from places asked (facts_of places asked (facts_after places asked f x) xs) node session ys))

-- where no CREATE comes all answers are those of the COMMIT
pub same_answers : (places : List Place) (asked : List Command) (f : Facts) (node session : ℕ) (hs : List Happening) → AllByRecursion IsNoCreate hs → commit_answers_from places asked f node session hs ≡ answers_from places asked f node session hs
same_answers places asked f node session [] none = refl
same_answers places asked f node session (happenings.Turn u ∷ hs) none =
    ap (λ q. (if q then [] else answers_in places f node session (happenings.Turn u)) ++ commit_answers_from places asked (facts_after places asked f (happenings.Turn u)) node session hs) none.0
    ∙ ap (λ xs. answers_in places f node session (happenings.Turn u) ++ xs) (same_answers places asked (facts_after places asked f (happenings.Turn u)) node session hs none.1)
same_answers places asked f node session (happenings.Begun c ∷ hs) none = same_answers places asked (facts_after places asked f (happenings.Begun c)) node session hs none.1
same_answers places asked f node session (happenings.Cut a b ∷ hs) none = same_answers places asked (facts_after places asked f (happenings.Cut a b)) node session hs none.1
same_answers places asked f node session (happenings.Join a b ∷ hs) none = same_answers places asked (facts_after places asked f (happenings.Join a b)) node session hs none.1
same_answers places asked f node session (happenings.Lost k ∷ hs) none = same_answers places asked (facts_after places asked f (happenings.Lost k)) node session hs none.1
same_answers places asked f node session (happenings.Stopped n ∷ hs) none = same_answers places asked (facts_after places asked f (happenings.Stopped n)) node session hs none.1
same_answers places asked f node session (happenings.Started n boot ∷ hs) none = same_answers places asked (facts_after places asked f (happenings.Started n boot)) node session hs none.1

-- ---- a quiet COMMIT

module _ (complete : UndisturbedCommitsAreComplete) (t : History) (lawful : IsLawfulRun t) (front later : List Happening) (joined : front ++ later ≡ t.trace) (c : Commit t.places t.commands front) (whole_call : c.call.cut ≡ false) (whole : AllByRecursion IsWholeTurn c.during) (quiet : StaysCalm t front c) where
  -- ---- an earlier moment

  module _ (done rest : List Happening) (is : done ++ rest ≡ c.during) where
    abbrev sooner : List Happening
    sooner = c.before ++ happenings.Turn c.call ∷ done

    abbrev c' : Commit t.places t.commands sooner
    c' = record { before = c.before; call = c.call; during = done; is = refl; session = c.session; comment = c.comment; asks = c.asks; kept = c.kept; up = c.up; root = c.root; of = c.of; live = c.live; there = c.there; writer = c.writer }

    all_is : sooner ++ rest ≡ front
    all_is = append_assoc c.before (happenings.Turn c.call ∷ done) rest ∙ (ap (λ hs. c.before ++ happenings.Turn c.call ∷ hs) is ∙ c.is)

    trace_is : sooner ++ (rest ++ later) ≡ t.trace
    trace_is = sym (append_assoc sooner rest later) ∙ (ap (λ hs. hs ++ later) all_is ∙ joined)

    whole_both : AllByRecursion IsWholeTurn (done ++ rest)
    whole_both = subst (AllByRecursion IsWholeTurn) (sym is) whole

    whole_done : AllByRecursion IsWholeTurn done
    whole_done = all_front IsWholeTurn done rest whole_both

    whole_rest : AllByRecursion IsWholeTurn rest
    whole_rest = all_back IsWholeTurn done rest whole_both

    facts_is : facts_by t.places t.commands front ≡ facts_of t.places t.commands (facts_by t.places t.commands sooner) rest
    facts_is = ap (facts_by t.places t.commands) (sym all_is) ∙ facts_join t.places t.commands (first_facts t.places) sooner rest

    abbrev born : List Born
    born = births_from t.places t.commands (first_facts t.places) sooner []

    more : (xs : List Born) × (births_from t.places t.commands (facts_by t.places t.commands sooner) rest born ≡ born ++ xs)
    more = births_more t.places t.commands (facts_by t.places t.commands sooner) rest born whole_rest

    births_is : births_from t.places t.commands (first_facts t.places) front [] ≡ born ++ more.0
    births_is = ap (λ hs. births_from t.places t.commands (first_facts t.places) hs []) (sym all_is) ∙ (births_join t.places t.commands (first_facts t.places) sooner rest [] ∙ more.1)

    abbrev fewer : List BranchId
    fewer = branches_by t.places t.commands sooner c.root

    abbrev most : List BranchId
    most = branches_in (born ++ more.0) c.root

    most_is : branches_by t.places t.commands front c.root ≡ most
    most_is = ap (λ bs. branches_in bs c.root) births_is

    within : (x : BranchId) → is_among x fewer ≡ true → is_among x most ≡ true
    within x among = among_more c.root more.0 born x among

    lost_sooner : LostNone fewer (facts_by t.places t.commands sooner).net.packets
    lost_sooner =
        let end : LostNone most (facts_by t.places t.commands front).net.packets = subst (λ bs. LostNone bs (facts_by t.places t.commands front).net.packets) most_is quiet.lost in
        let few : LostNone fewer (facts_by t.places t.commands front).net.packets = lost_fewer fewer most within (facts_by t.places t.commands front).net.packets end in
        lost_back fewer t.places t.commands (facts_by t.places t.commands sooner) rest whole_rest (subst (λ (f : Facts). LostNone fewer f.net.packets) facts_is few)

    stopped_sooner : AllByRecursion (HasNotStopped (facts_by t.places t.commands sooner)) fewer
    stopped_sooner =
        let end : AllByRecursion (HasNotStopped (facts_by t.places t.commands front)) most = subst (AllByRecursion (HasNotStopped (facts_by t.places t.commands front))) most_is quiet.stopped in
        all_weaker (HasNotStopped (facts_by t.places t.commands front)) (HasNotStopped (facts_by t.places t.commands sooner))
        (λ b stays. stopped_back t lawful b sooner rest later trace_is whole_rest (subst (λ hs. HasNotStopped (facts_by t.places t.commands hs) b) (sym all_is) stays)) fewer
        (all_fewer c.root more.0 (HasNotStopped (facts_by t.places t.commands front)) born end)

    calm_sooner : AllByRecursion (NoneComesIn fewer) sooner
    calm_sooner =
        let end : AllByRecursion (NoneComesIn most) front = subst (λ bs. AllByRecursion (NoneComesIn bs) front) most_is quiet.calm in
        all_front (NoneComesIn fewer) sooner rest (subst (AllByRecursion (NoneComesIn fewer)) (sym all_is) (calm_fewer fewer most within front end))

    -- undisturbed so far
    pub so_far_quiet : AllByRecursion IsInCourse done → first_flying (facts_by t.places t.commands sooner).net ≡ None → Undisturbed t.places t.commands sooner c'
    so_far_quiet course still = record {
      goes_on = quiet.goes_on;
      still = quiet.still;
      whole = whole_call;
      course = course;
      over = still;
      lost = lost_sooner;
      stopped = stopped_sooner;
      calm = calm_sooner;
    }

    -- so it is complete where nothing is in flight
    pub complete_sooner : AllByRecursion IsInCourse done → first_flying (facts_by t.places t.commands sooner).net ≡ None → CommitIsComplete t.places t.commands sooner c'
    complete_sooner course still = complete (so_far t sooner) (part_lawful t lawful sooner (record { rest = rest ++ later; is = trace_is })) c' (so_far_quiet course still)

    -- and few have been delivered, where few are of every such COMMIT
    pub few_sooner : DeliveriesStayBelow → AllByRecursion IsInCourse done → deliveries_in done < 4096
    few_sooner law course = law (so_far t sooner) (part_lawful t lawful sooner (record { rest = rest ++ later; is = trace_is })) c' (record { still = quiet.still; whole = whole_call; course = course; calm = calm_sooner })
