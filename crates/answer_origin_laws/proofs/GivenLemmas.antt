-- Which turn gave a branch the statement that it works on, or took it back: an Exec, or the last call of its session.
use Rattle.std.proofs.Common.{◌≡◌, ℕ, ◌+◌, ◌<◌, ◌≤◌, ◌⊎◌, List, [], ◌∷◌, ◌++◌, length, Option, Some, None, sym, ap, ◌∙◌, arith}
use Rattle.std.specs.List.{AllByRecursion}
use Rattle.std.proofs.lemmas.List.{append_assoc, length-append}
use Rattle.node_rules.specs.Data.{Advice, BranchId, Stmt}
use Rattle.node_rules.specs.Data.kinds
use Rattle.node_rules.specs.Data.stmts
use Rattle.node_rules.specs.Data.tasks
use Rattle.node_rules.specs.Inputs.{Came, IsCall}
use Rattle.node_rules.specs.Names.{Behind, named_by, ref_of, passed_on, target_of}
use Rattle.node_rules.proofs.Steps.{IsOfRows}
use Rattle.run_rules.specs.Data.{Turn, Happening}
use Rattle.run_rules.specs.Data.happenings
use Rattle.run_rules.specs.Facts.{place_at}
use Rattle.run_base_laws.specs.InTurnLaws.{said_in, newest_exec}
use Rattle.run_rules.specs.Lawful.{History, IsLawfulRun}
use Rattle.run_rules.proofs.ListLemmas.{all_append}
use Rattle.tree_laws.proofs.PrefixLemmas.{f_at}
use Rattle.tree_laws.proofs.TimeLemmas.{Part}
use Rattle.answer_origin_laws.proofs.CatalogLemmas.{catalog}
use Rattle.answer_origin_laws.proofs.LineGrowLemmas.{StillKnown}
use Rattle.answer_origin_laws.proofs.NoCallLemmas.{IsNoCall}

module _ (t : History) (whole : IsLawfulRun t) where
  -- a turn gives a branch a statement, or takes it back where there is none
  abbrev pub GivesSo : Turn → BranchId → ℕ → Option Stmt → Type 0
  GivesSo u b call (Some s) = ((from : BranchId) × (given : ℕ) × (advice : Option Advice) × Came u.input from b (kinds.Exec call (tasks.Run given advice s))) ⊎ (IsCall u.input b.session s × IsOfRows s × (u.node ≡ b.node))
  GivesSo u b call None = ((from : BranchId) × (keep : ℕ) × Came u.input from b (kinds.Exec call (tasks.GoBack keep))) ⊎ ((name : List ℕ) × IsCall u.input b.session (stmts.RollbackTo name) × (u.node ≡ b.node))

  -- A statement came to a branch, or what takes it back: by an Exec of this number, or by a call of its session.
  pub record GivenAt (b : BranchId) (call : ℕ) (o : Option Stmt) : Type 0 where
    pub before : List Happening
    pub turn : Turn
    pub rest : List Happening
    pub is : before ++ happenings.Turn turn ∷ rest ≡ t.trace
    pub how : GivesSo turn b call o

  -- The same in one of the first happenings.
  pub record GivenBy (hs : List Happening) (b : BranchId) (call : ℕ) (o : Option Stmt) : Type 0 where
    pub given : GivenAt b call o
    pub soon : length given.before + 1 ≤ length hs

  -- A branch was to call another by this number: the name in its statement was behind a link then, which led there, and no such call was made before.
  pub record CalledAt (me c : BranchId) (number last : ℕ) (s goes : Stmt) : Type 0 where
    pub given : GivenAt me last (Some s)
    pub before : List Happening
    pub part : Part t whole before
    pub since : length given.before ≤ length before
    pub link : List ℕ
    pub table : List ℕ
    pub named : named_by (catalog t whole before me.node) (ref_of s) ≡ Behind link table
    pub leads : target_of (place_at t.places me.node) (catalog t whole before me.node) link ≡ Some c.node
    pub unmade : newest_exec (said_in (f_at t before)) me c < number
    pub passes : goes ≡ passed_on s table

  -- ---- the last call of a session

  -- It came in one of the first happenings, and no call of the branch's session came after it.
  pub record LastIn (hs : List Happening) (b : BranchId) (call : ℕ) (o : Option Stmt) (given : GivenAt b call o) : Type 0 where
    pub later : List Happening
    pub since : given.before ++ happenings.Turn given.turn ∷ later ≡ hs
    pub quiet : AllByRecursion (IsNoCall b.node b.session) later

  -- a statement that came last of its session
  abbrev pub GivenLast : List Happening → BranchId → ℕ → Option Stmt → Type 0
  GivenLast hs b call o = (given : GivenAt b call o) × LastIn hs b call o given

  -- a call for such a statement
  abbrev pub CalledLast : List Happening → BranchId → BranchId → ℕ → ℕ → Stmt → Stmt → Type 0
  CalledLast hs me c number last s goes = (called : CalledAt me c number last s goes) × LastIn hs me last (Some s) called.given

  -- what came last still does where no call comes
  pub last_more : (hs : List Happening) (h : Happening) (b : BranchId) (call : ℕ) (o : Option Stmt) (given : GivenAt b call o) → IsNoCall b.node b.session h → LastIn hs b call o given → LastIn (hs ++ h ∷ []) b call o given
  last_more hs h b call o given other is = record {
    later = is.later ++ h ∷ [];
    since = sym (append_assoc given.before (happenings.Turn given.turn ∷ is.later) (h ∷ [])) ∙ ap (λ xs. xs ++ h ∷ []) is.since;
    quiet = all_append (IsNoCall b.node b.session) is.later (h ∷ []) is.quiet (other, tt);
  }

  -- it is one of them
  pub last_soon : (hs : List Happening) (b : BranchId) (call : ℕ) (o : Option Stmt) (given : GivenAt b call o) → LastIn hs b call o given → length given.before + 1 ≤ length hs
  last_soon hs b call o given is =
      let all : length (given.before ++ happenings.Turn given.turn ∷ is.later) ≡ length hs = ap length is.since in omega (arith, all, length-append given.before (happenings.Turn given.turn ∷ is.later))

  -- a branch knows its statement still where no call of its session comes
  pub still_known : (hs : List Happening) (h : Happening) (me : BranchId) → IsNoCall me.node me.session h → StillKnown (GivenLast hs) (GivenLast (hs ++ h ∷ [])) (CalledLast hs) (CalledLast (hs ++ h ∷ [])) me
  still_known hs h me other = record {
    given = λ call o is. (is.0, last_more hs h me call o is.0 other is.1);
    called = λ c number call s goes is. (is.0, last_more hs h me call (Some s) is.0.given other is.1);
  }
