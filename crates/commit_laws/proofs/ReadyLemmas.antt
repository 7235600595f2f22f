-- In every lawful run a live branch that is Ready has said so to its parent.
use Rattle.std.proofs.Common.{List, ◌++◌, sym, subst}
use Rattle.std.specs.Prelude.{IfSome}
use Rattle.std.specs.List.{AllByRecursion}
use Rattle.node_rules.specs.Data.{Live, Post, RedoRecord}
use Rattle.node_rules.specs.NodeState.{NodeState, live_id}
use Rattle.node_rules.specs.Turn.{start_of, draft_of}
use Rattle.run_rules.specs.Data.{Turn, Happening}
use Rattle.run_rules.specs.Facts.{place_at}
use Rattle.run_base_laws.specs.InTurnLaws.{said_in}
use Rattle.run_rules.specs.Lawful.{MayTurn, History, IsLawfulRun, facts_at}
use Rattle.run_base_laws.proofs.LawfulLemmas.{serves}
use Rattle.run_rules.proofs.ListLemmas.{all_weaker}
use Rattle.run_base_laws.proofs.OwnLemmas.{all_found}
use Rattle.tree_laws.proofs.AnswerRunLemmas.{lives_heard}
use Rattle.tree_laws.proofs.AskLemmas.{sent_more, sent_new}
use Rattle.tree_laws.proofs.EachNodeLemmas.{EachNode, node_end}
use Rattle.tree_laws.proofs.PrefixLemmas.{so_far, f_at}
use Rattle.commit_laws.specs.DeliveryLaws.{is_answer}
use Rattle.commit_laws.specs.WaitLaws.{ReadyHaveAnswered}
use Rattle.commit_laws.proofs.ReadyStepLemmas.{Answered, AllAnswered, answered_on}

-- ---- more messages

lives_more : (said says : List Post) (ls : List Live) → AllByRecursion (Answered said) ls → AllByRecursion (Answered (said ++ says)) ls
lives_more said says ls all = all_weaker (Answered said) (Answered (said ++ says)) (λ l so is q above. sent_more is_answer said says l.me q (so is q above)) ls all

started_so : (said : List Post) (rs : List RedoRecord) → AllAnswered said (start_of rs)
unfolding start_of
started_so said rs = tt

-- a turn leaves it so at its node
turn_answered : (t : History) (before : List Happening) → IsLawfulRun (so_far t before) → EachNode AllAnswered (f_at t before) → (u : Turn) (k : NodeState) → MayTurn t.places (f_at t before) u k
    → AllAnswered (said_in (f_at t before) ++ (draft_of (place_at t.places u.node) k u.input).says) (draft_of (place_at t.places u.node) k u.input).after
turn_answered t before lawful now u k may =
    let said : List Post = said_in (f_at t before) in
    let says : List Post = (draft_of (place_at t.places u.node) k u.input).says in
    let old : AllAnswered said k = subst (λ o. IfSome o (AllAnswered said)) may.up (now u.node) in
    answered_on (said ++ says) (place_at t.places u.node) u.input (serves t.places (f_at t before) u k may).step (λ b q is. sent_new is_answer said says b q is)
    (subst (λ (ls : List Live). AllByRecursion (Answered (said ++ says)) ls) (sym (lives_heard k u.input)) (lives_more said says k.lives old))

pub ready_have_answered : ReadyHaveAnswered
ready_have_answered t lawful n k up l live is q above =
    all_found (Answered (said_in (facts_at t))) live_id k.lives l.me l (node_end AllAnswered started_so t (λ said says k. lives_more said says k.lives) (turn_answered t) lawful n k up) live is q above
