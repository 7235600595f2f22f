-- What is told so far answers each earlier command once: `waiting` while its call is pending, and one answer where it is not.
-- What a call that ends, a call that waits and a stop add keeps it so.
use Rattle.std.proofs.Common.{◌≡◌, ℕ, ◌<◌, ◌≤◌, ◌==◌, ◌&&◌, ◌⊎◌, not, Bool, true, false, if◌then◌else◌, List, [], ◌∷◌, ◌++◌, map, find, Option, Some, None, inl, inr, refl, sym, ap, subst, ◌∙◌, arith, append-nil}
use Rattle.std.specs.List.{AllByRecursion}
use Rattle.std.proofs.lemmas.Bool.{eqb-true, eq-eqb}
use Rattle.std.proofs.lemmas.Bool.Decides.{nat_tests}
use Rattle.std.proofs.lemmas.List.{append_assoc}
use Rattle.node_rules.specs.Data.{Place}
use Rattle.node_rules.specs.Points.{Point}
use Rattle.node_rules.specs.Refusals.{ora}
use Rattle.node_rules.specs.Words.{one}
use Rattle.node_rules.specs.Ids.{decimal}
use Rattle.run_rules.specs.Calls.{is_call_at, call_at, without_call, waits}
use Rattle.run_rules.specs.Data.{AnswerLine, Command, Said}
use Rattle.run_rules.specs.Data.commands
use Rattle.run_rules.specs.Facts.{command_at}
use Rattle.run_rules.specs.Lines.{is_reached, refuses_with, line, put_line, with_own, with_other, call_line_of, reached_line, call_line}
use Rattle.run_rules.specs.RunReport.{Call, CommandOutput, RunReport}
use Rattle.run_rules.proofs.ListLemmas.{all_filter}
use Rattle.run_ready_laws.proofs.PendingLemmas.{at_parts, found_so, line_same}
use Rattle.answer_origin_laws.proofs.CallAtLemmas.{HasShape, AreShaped, found_at, find_kept}
use Rattle.answer_once_laws.specs.OnceLaws.{EndsPendingCall, Ends_pending_call, Point_is_reached, AreNotices, AnswersOnce, At_once, Ends_later, waiting, said_of}
use Rattle.answer_once_laws.proofs.SaidLemmas.{said_append, said_lines, said_others, AreBelow, AreSorted, put_below, put_sorted, said_put}
use Rattle.answer_once_laws.proofs.CallListLemmas.{pends, AreApart, found_pends, apart_filter, gone_pends}

-- ---- lines put for an earlier command

-- These lines of a command are put behind those of its number.
pub record Puts (command : ℕ) (says : List Said) (xs ys : List AnswerLine) : Type 0 where
  pub said : (d : ℕ) → said_of d ys ≡ said_of d xs ++ said_of d (map (line command) says)
  pub below : (r : ℕ) → AreBelow r xs → command < r → AreBelow r ys
  pub sorted : AreSorted ys

one_put : (command : ℕ) (s : Said) (xs : List AnswerLine) → AreSorted xs → Puts command (s ∷ []) xs (put_line xs (line command s))
one_put command s xs sorted = record { said = λ d. said_put (line command s) d xs sorted; below = λ r all low. put_below (line command s) r xs all low; sorted = put_sorted (line command s) xs sorted }

two_put : (command : ℕ) (s v : Said) (xs : List AnswerLine) → AreSorted xs → Puts command (s ∷ v ∷ []) xs (put_line (put_line xs (line command s)) (line command v))
two_put command s v xs sorted =
    let ys : List AnswerLine = put_line xs (line command s) in
    let first : Puts command (s ∷ []) xs ys = one_put command s xs sorted in
    let second : Puts command (v ∷ []) ys (put_line ys (line command v)) = one_put command v ys first.sorted in
    record {
      said = λ d. second.said d ∙ (ap (λ zs. zs ++ said_of d (line command v ∷ [])) (first.said d)
          ∙ (append_assoc (said_of d xs) (said_of d (line command s ∷ [])) (said_of d (line command v ∷ []))
          ∙ ap (λ zs. said_of d xs ++ zs) (sym (said_append d (line command s ∷ []) (line command v ∷ [])))));
      below = λ r all low. second.below r (first.below r all low) low;
      sorted = second.sorted;
    }

-- ---- what the answer of a call tells

-- What is told with it, if its comment's point was reached.
abbrev pub beside_of : Option Point → List Said
beside_of None = []
beside_of (Some x) = refuses_with (ora 2059 (one (decimal x.number))) ∷ []

pub beside_notices : (places : List Place) (o : Option Point) → AreNotices places (beside_of o)
beside_notices places None = tt
beside_notices places (Some x) = (Point_is_reached x.number, tt)

-- The line of a call: among those of the command that runs, or of the earlier ones.
pub record Tells (running command : ℕ) (says : List Said) (t u : RunReport) : Type 0 where
  pub lines : u.lines ≡ t.lines
  pub stops : u.page.stops ≡ t.page.stops
  pub own : (running == command) ≡ true → (u.page.own ≡ t.page.own ++ says) × (u.page.others ≡ t.page.others)
  pub other : (running == command) ≡ false → (u.page.own ≡ t.page.own) × (AreSorted t.page.others → Puts command says t.page.others u.page.others)

abbrev put_by : Bool → ℕ → RunReport → Said → RunReport
put_by q command t s = if q then with_own t (t.page.own ++ one s) else with_other t (line command s)

tells : (running command : ℕ) (s : Said) (t : RunReport) (o : Option Point) → Tells running command (s ∷ beside_of o) t (reached_line running (call_line_of running t command s) command o)
tells running command s t o = by (running == command) refl o
  where
    by : (q : Bool) → (running == command) ≡ q → (p : Option Point) → Tells running command (s ∷ beside_of p) t (reached_line running (call_line_of running t command s) command p)
    by true is None =
        subst (λ q. Tells running command (s ∷ []) t (put_by q command t s)) (sym is) (record { lines = refl; stops = refl; own = λ own. (refl, refl); other = λ not. absurd (cc (is, not)) })
    by false is None =
        subst (λ q. Tells running command (s ∷ []) t (put_by q command t s)) (sym is) (record { lines = refl; stops = refl; own = λ own. absurd (cc (is, own)); other = λ not. (refl, λ sorted. one_put command s t.page.others sorted) })
    by true is (Some x) =
        let v : Said = refuses_with (ora 2059 (one (decimal x.number))) in
        subst (λ q. Tells running command (s ∷ v ∷ []) t (put_by q command (put_by q command t s) v)) (sym is)
        (record { lines = refl; stops = refl; own = λ own. (append_assoc t.page.own (s ∷ []) (v ∷ []), refl); other = λ not. absurd (cc (is, not)) })
    by false is (Some x) =
        let v : Said = refuses_with (ora 2059 (one (decimal x.number))) in
        subst (λ q. Tells running command (s ∷ v ∷ []) t (put_by q command (put_by q command t s) v)) (sym is)
        (record { lines = refl; stops = refl; own = λ own. absurd (cc (is, own)); other = λ not. (refl, λ sorted. two_put command s v t.page.others sorted) })

-- ---- the pages so far

-- the command is START
abbrev pub IsStart : Command → Type 0
IsStart (commands.Start n) = Unit {0}
IsStart _ = ⊥

module _ (places : List Place) (asked : List Command) (r : ℕ) where
  -- the command that runs has said nothing yet, or it is answered
  abbrev pub OwnIs : Bool → List Said → Type 0
  OwnIs true own = (own ≡ []) ⊎ (own ≡ waiting ∷ [])
  OwnIs false own = ((own ≡ []) × IsStart (command_at asked r)) ⊎ AnswersOnce places (command_at asked r) false own

  -- What an earlier command has, by the commands before the one that runs, and by that.
  pub data EarlierIs (command : Command) : Bool → List Said → List Said → Type 0 where
    Still_waits : (beside : List Said) → AreNotices places beside → EarlierIs command true (waiting ∷ beside) []
    Ended_here : (beside : List Said) (a : Said) (after : List Said) → AreNotices places beside → EndsPendingCall places a → AreNotices places after → EarlierIs command false (waiting ∷ beside) (a ∷ after)
    Was_answered : (xs : List Said) → AnswersOnce places command false xs → EarlierIs command false xs []

  -- The pages so far.
  pub record PagesOf (cs : List Call) (page : CommandOutput) (lines : List AnswerLine) : Type 0 where
    pub shapes : AreShaped asked cs
    pub apart : AreApart cs
    pub past : AllByRecursion (λ (c : Call). c.command ≤ r) cs
    pub lines_below : AreBelow r lines
    pub others_below : AreBelow r page.others
    pub sorted : AreSorted page.others
    pub stops : AreNotices places page.stops
    pub each : (c : ℕ) → 1 ≤ c → c < r → EarlierIs (command_at asked c) (pends c cs) (said_of c lines) (said_of c page.others)
    pub own : 1 ≤ r → OwnIs (pends r cs) page.own

  abbrev pub PagesSo : RunReport → Type 0
  PagesSo t = PagesOf t.calls t.page t.lines

  pub pages_same : (t u : RunReport) → u.calls ≡ t.calls → u.page ≡ t.page → u.lines ≡ t.lines → PagesSo t → PagesSo u
  pages_same t u calls page lines is =
      subst (λ cs. PagesOf cs u.page u.lines) (sym calls) (subst (λ g. PagesOf t.calls g u.lines) (sym page) (subst (λ ls. PagesOf t.calls t.page ls) (sym lines) is))

  -- ---- a call that ends

  ends_own : (own : List Said) (b : Bool) (a : Said) (after : List Said) → b ≡ true → OwnIs b own → EndsPendingCall places a → AreNotices places after → AnswersOnce places (command_at asked r) false (own ++ a ∷ after)
  ends_own own false a after is so ends beside = absurd cc
  ends_own own true a after is (inl none) ends beside = subst (λ xs. AnswersOnce places (command_at asked r) false (xs ++ a ∷ after)) (sym none) (At_once a after (Ends_pending_call a ends) beside)
  ends_own own true a after is (inr waits) ends beside = subst (λ xs. AnswersOnce places (command_at asked r) false (xs ++ a ∷ after)) (sym waits) (Ends_later [] a after tt ends beside)

  ends_earlier : (command : Command) (b : Bool) (xs ys : List Said) (a : Said) (after : List Said) → b ≡ true → EarlierIs command b xs ys → EndsPendingCall places a → AreNotices places after → EarlierIs command false xs (ys ++ a ∷ after)
  ends_earlier command true xs ys a after is (Still_waits beside notices) ends told = Ended_here beside a after notices ends told
  ends_earlier command false xs ys a after is so ends told = absurd cc

  module _ (t : RunReport) (is : PagesSo t) (c : Call) (at : call_at t c.node c.session ≡ Some c) (s : Said) (ends : EndsPendingCall places s) where
    abbrev pub w : RunReport
    w = without_call t c.node c.session

    abbrev point : Option Point
    point = find (is_reached c.command) w.points

    abbrev pub u : RunReport
    u = call_line r w c.command s

    abbrev says : List Said
    says = s ∷ beside_of point

    its_shape : HasShape asked c
    its_shape = (found_at asked t c.node c.session c is.shapes at).0

    pub calls_are : u.calls ≡ w.calls
    calls_are = (line_same r w c.command s).calls

    told : Tells r c.command says w u
    told = tells r c.command s w point

    pub pends_now : (d : ℕ) → pends d u.calls ≡ (pends d t.calls && not (c.command == d))
    pends_now d = ap (pends d) calls_are ∙ gone_pends asked c d t.calls is.shapes is.apart its_shape at

    pends_other : (d : ℕ) → (c.command == d) ≡ false → pends d u.calls ≡ pends d t.calls
    pends_other d other = pends_now d ∙ (ap (λ q. pends d t.calls && not q) other ∙ and_true (pends d t.calls))
      where
        and_true : (b : Bool) → (b && true) ≡ b
        and_true true = refl
        and_true false = refl

    pub pends_own : (d : ℕ) → (c.command == d) ≡ true → pends d u.calls ≡ false
    pends_own d own = pends_now d ∙ (ap (λ q. pends d t.calls && not q) own ∙ and_false (pends d t.calls))
      where
        and_false : (b : Bool) → (b && false) ≡ false
        and_false true = refl
        and_false false = refl

    was_pending : pends c.command t.calls ≡ true
    was_pending = found_pends (is_call_at c.node c.session) c t.calls at

    low : c.command ≤ r
    low = (found_so (λ (x : Call). x.command ≤ r) (is_call_at c.node c.session) t.calls c is.past at).0

    abbrev Kept : Type 0
    Kept = AreShaped asked u.calls × AreApart u.calls × AllByRecursion (λ (x : Call). x.command ≤ r) u.calls

    kept : Kept
    kept = subst (λ cs. AreShaped asked cs × AreApart cs × AllByRecursion (λ (x : Call). x.command ≤ r) cs) (sym calls_are) (
      all_filter (HasShape asked) (HasShape asked) (λ d. not (is_call_at c.node c.session d)) (λ d passes so. so) t.calls is.shapes,
      apart_filter (λ d. not (is_call_at c.node c.session d)) t.calls is.apart,
      all_filter (λ (x : Call). x.command ≤ r) (λ (x : Call). x.command ≤ r) (λ d. not (is_call_at c.node c.session d)) (λ d passes so. so) t.calls is.past,
    )

    -- of the command that runs
    ends_running : (r == c.command) ≡ true → PagesSo u
    ends_running own =
        let page = told.own own in
        let same : r ≡ c.command = eqb-true r c.command own in
        record {
          shapes = kept.0;
          apart = kept.1;
          past = kept.2;
          lines_below = subst (AreBelow r) (sym told.lines) is.lines_below;
          others_below = subst (AreBelow r) (sym page.1) is.others_below;
          sorted = subst AreSorted (sym page.1) is.sorted;
          stops = subst (AreNotices places) (sym told.stops) is.stops;
          each = λ d one less.
              let other : (c.command == d) ≡ false = subst (λ n. (n == d) ≡ false) same (grind (arith, nat_tests, less)) in
              subst (λ q. EarlierIs (command_at asked d) q (said_of d u.lines) (said_of d u.page.others)) (sym (pends_other d other))
              (subst (λ ls. EarlierIs (command_at asked d) (pends d t.calls) (said_of d ls) (said_of d u.page.others)) (sym told.lines)
              (subst (λ ls. EarlierIs (command_at asked d) (pends d t.calls) (said_of d t.lines) (said_of d ls)) (sym page.1) (is.each d one less)));
          own = λ one.
              subst (λ q. OwnIs q u.page.own) (sym (pends_own r (eq-eqb c.command r (sym same))))
              (inr (subst (AnswersOnce places (command_at asked r) false) (sym page.0) (ends_own t.page.own (pends r t.calls) s (beside_of point) (subst (λ n. pends n t.calls ≡ true) (sym same) was_pending) (is.own one) ends (beside_notices places point))));
        }

    -- of an earlier one
    ends_other : (r == c.command) ≡ false → PagesSo u
    ends_other not_own =
        let page = told.other not_own in
        let puts : Puts c.command says t.page.others u.page.others = page.1 is.sorted in
        let less : c.command < r = below r c.command low not_own in
        record {
          shapes = kept.0;
          apart = kept.1;
          past = kept.2;
          lines_below = subst (AreBelow r) (sym told.lines) is.lines_below;
          others_below = puts.below r is.others_below less;
          sorted = puts.sorted;
          stops = subst (AreNotices places) (sym told.stops) is.stops;
          each = λ d one under. subst (λ ls. EarlierIs (command_at asked d) (pends d u.calls) (said_of d ls) (said_of d u.page.others)) (sym told.lines) (each puts d one under (c.command == d) refl);
          own = λ one. subst (λ q. OwnIs q u.page.own) (sym (pends_other r (apart r c.command not_own))) (subst (OwnIs (pends r t.calls)) (sym page.0) (is.own one));
        }
      where
        below : (n m : ℕ) → m ≤ n → (n == m) ≡ false → m < n
        below n m some other = grind (arith, nat_tests, some, other)

        apart : (n m : ℕ) → (n == m) ≡ false → (m == n) ≡ false
        apart n m other = grind (arith, nat_tests, other)

        each : Puts c.command says t.page.others u.page.others → (d : ℕ) → 1 ≤ d → d < r → (q : Bool) → (c.command == d) ≡ q → EarlierIs (command_at asked d) (pends d u.calls) (said_of d t.lines) (said_of d u.page.others)
        each puts d one under true own =
            let same : c.command ≡ d = eqb-true c.command d own in
            let page : said_of d u.page.others ≡ said_of d t.page.others ++ says = puts.said d ∙ ap (λ zs. said_of d t.page.others ++ zs) (subst (λ n. said_of d (map (line n) says) ≡ says) (sym same) (said_lines d says)) in
            subst (λ q. EarlierIs (command_at asked d) q (said_of d t.lines) (said_of d u.page.others)) (sym (pends_own d own))
            (subst (EarlierIs (command_at asked d) false (said_of d t.lines)) (sym page)
            (ends_earlier (command_at asked d) (pends d t.calls) (said_of d t.lines) (said_of d t.page.others) s (beside_of point) (subst (λ n. pends n t.calls ≡ true) same was_pending) (is.each d one under) ends (beside_notices places point)))
        each puts d one under false other =
            let page : said_of d u.page.others ≡ said_of d t.page.others = puts.said d ∙ (ap (λ zs. said_of d t.page.others ++ zs) (said_others d c.command other says) ∙ append-nil (said_of d t.page.others)) in
            subst (λ q. EarlierIs (command_at asked d) q (said_of d t.lines) (said_of d u.page.others)) (sym (pends_other d other)) (subst (EarlierIs (command_at asked d) (pends d t.calls) (said_of d t.lines)) (sym page) (is.each d one under))

    pub ends_so : PagesSo u
    ends_so = by (r == c.command) refl
      where
        by : (q : Bool) → (r == c.command) ≡ q → PagesSo u
        by true own = ends_running own
        by false other = ends_other other

    pub ends_left : (d : Call) → call_at t d.node d.session ≡ Some d → is_call_at c.node c.session d ≡ false → call_at u d.node d.session ≡ Some d
    ends_left d there other =
        ap (find (is_call_at d.node d.session)) calls_are ∙ (find_kept (is_call_at d.node d.session) (λ x. not (is_call_at c.node c.session x)) (λ x its. ap not (same x its ∙ other)) t.calls ∙ there)
      where
        same : (x : Call) → is_call_at d.node d.session x ≡ true → is_call_at c.node c.session x ≡ is_call_at c.node c.session d
        same x its = let parts = at_parts d.node d.session x its in ap (λ i. (i == c.node) && (x.session == c.session)) parts.0 ∙ ap (λ i. (d.node == c.node) && (i == c.session)) parts.1
