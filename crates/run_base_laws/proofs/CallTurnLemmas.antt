-- What a turn's messages and changes of a branch leave of its calls: they stay in turn.
use Rattle.std.proofs.Common.{◌≡◌, ◌≢◌, ℕ, ◌+◌, ◌≤◌, ◌&&◌, ◌⊎◌, Bool, true, false, if◌then◌else◌, List, [], ◌∷◌, ◌++◌, length, max, unwrap_or, Option, Some, None, inl, inr, refl, sym, ap, subst, ◌∙◌, arith}
use Rattle.tran_ids.proofs.BranchLemmas.{equal_from_same, same_from_equal}
use Rattle.tran_ids.proofs.NumberedLemmas.{set_length, set_found, set_leaves}
use Rattle.node_rules.specs.Data.{BranchId, Kind, Post, Marks}
use Rattle.node_rules.specs.declared.work.Waits.TheVariants as waiting
use Rattle.node_rules.specs.declared.work.Going.{Going}
use Rattle.node_rules.specs.declared.work.Work.{Work}
use Rattle.node_rules.specs.Words.{same, numbered, set_numbered}
use Rattle.node_rules.specs.NodeState.{post}
use Rattle.run_base_laws.specs.InTurnLaws.{exec_number, reply_number, newest, newest_exec, newest_reply, WaitsFor, call_at, TakesInTurn, MakesInTurn}
use Rattle.run_rules.proofs.AtNodeLemmas.{there_too}
use Rattle.run_base_laws.proofs.TurnEventLemmas.{cases_nat}

-- ---- messages

module _ (test : Post → Bool) (number : Kind → ℕ) where
  pub newest_append : (ms ns : List Post) → newest test number (ms ++ ns) ≡ max (newest test number ms) (newest test number ns)
  newest_append [] ns = omega arith
  newest_append (m ∷ ms) ns = by (test m) (newest_append ms ns)
    where
      by : (q : Bool) → newest test number (ms ++ ns) ≡ max (newest test number ms) (newest test number ns)
          → (if q then max (number m.kind) (newest test number (ms ++ ns)) else newest test number (ms ++ ns))
          ≡ max (if q then max (number m.kind) (newest test number ms) else newest test number ms) (newest test number ns)
      by true is = omega (arith, is)
      by false is = is

-- messages without a call or a Reply of a branch
pub record Silent (me : BranchId) (says : List Post) : Type 0 where
  pub calls : (c : BranchId) → newest_exec says me c ≡ 0
  pub replies : newest_reply says me ≡ 0

pub silent_none : (me : BranchId) → Silent me []
silent_none me = record { calls = λ c. refl; replies = refl }

module _ (said says : List Post) where
  pub exec_more : (a b : BranchId) → newest_exec (said ++ says) a b ≡ max (newest_exec said a b) (newest_exec says a b)
  exec_more a b = newest_append (λ m. same m.from a && same m.to b) exec_number said says

  pub reply_more : (b : BranchId) → newest_reply (said ++ says) b ≡ max (newest_reply said b) (newest_reply says b)
  reply_more b = newest_append (λ m. same m.from b) reply_number said says

-- one message
pub one_exec : (me peer a b : BranchId) (kind : Kind) → newest_exec (post me peer kind) a b ≡ (if same me a && same peer b then exec_number kind else 0)
one_exec me peer a b kind = by (same me a && same peer b)
  where
    by : (q : Bool) → (if q then max (exec_number kind) 0 else 0) ≡ (if q then exec_number kind else 0)
    by true = omega arith
    by false = refl

pub one_reply : (me peer b : BranchId) (kind : Kind) → newest_reply (post me peer kind) b ≡ (if same me b then reply_number kind else 0)
one_reply me peer b kind = by (same me b)
  where
    by : (q : Bool) → (if q then max (reply_number kind) 0 else 0) ≡ (if q then reply_number kind else 0)
    by true = omega arith
    by false = refl

-- an if over 0
pub if_zero : (q : Bool) (n : ℕ) → n ≡ 0 → (if q then n else 0) ≡ 0
if_zero true n is = is
if_zero false n is = refl

-- a message of another branch
pub silent_other : (me peer b : BranchId) (kind : Kind) → same me b ≡ false → Silent b (post me peer kind)
silent_other me peer b kind other = record {
  calls = λ c. one_exec me peer b c kind ∙ ap (λ q. if q && same peer c then exec_number kind else 0) other;
  replies = one_reply me peer b kind ∙ ap (λ q. if q then reply_number kind else 0) other;
}

-- a message that is neither a call nor a Reply
pub silent_kind : (me peer b : BranchId) (kind : Kind) → exec_number kind ≡ 0 → reply_number kind ≡ 0 → Silent b (post me peer kind)
silent_kind me peer b kind no_exec no_reply = record {
  calls = λ c. one_exec me peer b c kind ∙ if_zero (same me b && same peer c) (exec_number kind) no_exec;
  replies = one_reply me peer b kind ∙ if_zero (same me b) (reply_number kind) no_reply;
}

-- each call was made after a Reply to the last
abbrev pub Answered : List Post → Type 0
Answered said = (a b : BranchId) → newest_exec said a b ≤ newest_reply said b + 1

-- messages without a call
pub answered_more : (said says : List Post) → ((a b : BranchId) → newest_exec says a b ≡ 0) → Answered said → Answered (said ++ says)
answered_more said says none all a b = omega (arith, all a b, exec_more said says a b, reply_more said says b, none a b)

-- ---- branches

-- What is known of the calls of a live branch.
pub record InTurn (G : Type 0) (said : List Post) (me : BranchId) (parent : Option BranchId) (peers : List BranchId) (w : Work) : Type 0 where
  pub takes : TakesInTurn said me parent w
  pub makes : MakesInTurn said G me peers w
  pub answered : w.going ≢ None → w.came.reply ≡ None
  pub alone : parent ≡ None → w.came.reply ≡ None

-- A branch whose statement goes on: it has taken a call and not answered it, and waits for no child.
pub record Free (E : BranchId → Option ℕ) (G : Type 0) (said : List Post) (me : BranchId) (parent : Option BranchId) (peers : List BranchId) (w : Work) : Type 0 where
  pub kids : (i : ℕ) (c : BranchId) → numbered peers i ≡ Some c → E c ≡ Some i
  pub taken : (p : BranchId) → parent ≡ Some p → w.came.last_call ≤ newest_exec said p me
  pub told : newest_reply said me ≤ w.came.last_call
  pub owes : parent ≢ None → newest_reply said me + 1 ≤ w.came.last_call
  pub unanswered : w.came.reply ≡ None
  pub numbers : length w.calls ≡ length peers
  pub made : (i : ℕ) (c : BranchId) → numbered peers i ≡ Some c → newest_exec said me c ≡ call_at w i
  pub no_other : (c : BranchId) → ((i : ℕ) → numbered peers i ≢ Some c) → newest_exec said me c ≡ 0
  pub heard : G → (i : ℕ) (c : BranchId) → numbered peers i ≡ Some c → call_at w i ≤ newest_reply said c

-- notes and savepoints are no part of it
pub marked_free : (E : BranchId → Option ℕ) (G : Type 0) (said : List Post) (me : BranchId) (parent : Option BranchId) (peers : List BranchId) (w : Work) (m : Marks) → Free E G said me parent peers w
    → Free E G said me parent peers (record w { marks = m })
marked_free E G said me parent peers w m is = record {
  kids = is.kids;
  taken = is.taken;
  told = is.told;
  owes = is.owes;
  unanswered = is.unanswered;
  numbers = is.numbers;
  made = is.made;
  no_other = is.no_other;
  heard = is.heard;
}

pub marked_in_turn : (G : Type 0) (said : List Post) (me : BranchId) (parent : Option BranchId) (peers : List BranchId) (w : Work) (m : Marks) → InTurn G said me parent peers w
    → InTurn G said me parent peers (record w { marks = m })
marked_in_turn G said me parent peers w m is = record {
  takes = record { taken = is.takes.taken; told = is.takes.told; rests = is.takes.rests };
  makes = record { numbers = is.makes.numbers; made = is.makes.made; no_other = is.makes.no_other; heard = is.makes.heard };
  answered = is.answered;
  alone = is.alone;
}

module _ (G : Type 0) (said says : List Post) (me : BranchId) (parent : Option BranchId) (peers : List BranchId) where
  -- the messages of others leave a branch so
  pub stays_in_turn : (w : Work) → Silent me says → InTurn G said me parent peers w → InTurn G (said ++ says) me parent peers w
  stays_in_turn w silent is = record {
    takes = record {
      taken = λ p above. omega (arith, is.takes.taken p above, exec_more said says p me);
      told = omega (arith, is.takes.told, reply_more said says me, silent.replies);
      rests = λ below last. is.takes.rests below (let it : newest_reply said me ≡ w.came.last_call = omega (arith, last, reply_more said says me, silent.replies) in it);
    };
    makes = record {
      numbers = is.makes.numbers;
      made = λ i c at. omega (arith, is.makes.made i c at, exec_more said says me c, silent.calls c);
      no_other = λ c none. omega (arith, is.makes.no_other c none, exec_more said says me c, silent.calls c);
      heard = λ goes i c at. elim (is.makes.heard goes i c at) [ inl waits ↦ inl waits | inr heard ↦ inr (let it : call_at w i ≤ newest_reply (said ++ says) c = omega (arith, heard, reply_more said says c) in it) ];
    };
    answered = is.answered;
    alone = is.alone;
  }

  -- so does its last Reply, once more
  pub again_in_turn : (w : Work) → w.going ≡ None → ((c : BranchId) → newest_exec says me c ≡ 0) → newest_reply says me ≤ w.came.last_call → InTurn G said me parent peers w → InTurn G (said ++ says) me parent peers w
  again_in_turn w rests no_call reply is = record {
    takes = record {
      taken = λ p above. omega (arith, is.takes.taken p above, exec_more said says p me);
      told = omega (arith, is.takes.told, reply_more said says me, reply);
      rests = λ below last. rests;
    };
    makes = record {
      numbers = is.makes.numbers;
      made = λ i c at. omega (arith, is.makes.made i c at, exec_more said says me c, no_call c);
      no_other = λ c none. omega (arith, is.makes.no_other c none, exec_more said says me c, no_call c);
      heard = λ goes i c at. elim (is.makes.heard goes i c at) [ inl waits ↦ inl waits | inr heard ↦ inr (let it : call_at w i ≤ newest_reply (said ++ says) c = omega (arith, heard, reply_more said says c) in it) ];
    };
    answered = is.answered;
    alone = is.alone;
  }

  -- so does a change of the branch that leaves its calls
  module _ (E : BranchId → Option ℕ) (w : Work) (is : Free E G said me parent peers w) where
    -- a statement that is answered
    pub answers_in_turn : (v : Work) → v.calls ≡ w.calls → v.came.last_call ≡ w.came.last_call → v.going ≡ None → ((c : BranchId) → newest_exec says me c ≡ 0) → newest_reply says me ≤ w.came.last_call → (parent ≡ None → v.came.reply ≡ None)
        → InTurn G (said ++ says) me parent peers v
    answers_in_turn v same_calls same_last rests no_call reply alone = record {
      takes = record {
        taken = λ p above. omega (arith, is.taken p above, exec_more said says p me, same_last);
        told = omega (arith, is.told, reply_more said says me, reply, same_last);
        rests = λ below last. rests;
      };
      makes = record {
        numbers = ap length same_calls ∙ is.numbers;
        made = λ i c at. omega (arith, is.made i c at, exec_more said says me c, no_call c, ap (λ cs. unwrap_or (numbered cs i) 0) same_calls);
        no_other = λ c none. omega (arith, is.no_other c none, exec_more said says me c, no_call c);
        heard = λ goes i c at. inr (let it : call_at v i ≤ newest_reply (said ++ says) c = omega (arith, is.heard goes i c at, reply_more said says c, ap (λ cs. unwrap_or (numbered cs i) 0) same_calls) in it);
      };
      answered = λ waits. absurd (waits rests);
      alone = alone;
    }

    -- one that waits for a new child
    pub opens_in_turn : (g : Option Going) → Silent me says → InTurn G (said ++ says) me parent peers (record w { going = g })
    opens_in_turn g silent = record {
      takes = record {
        taken = λ p above. omega (arith, is.taken p above, exec_more said says p me);
        told = omega (arith, is.told, reply_more said says me, silent.replies);
        rests = λ below last. absurd (omega (arith, is.owes below, last, reply_more said says me, silent.replies));
      };
      makes = record {
        numbers = is.numbers;
        made = λ i c at. omega (arith, is.made i c at, exec_more said says me c, silent.calls c);
        no_other = λ c none. omega (arith, is.no_other c none, exec_more said says me c, silent.calls c);
        heard = λ goes i c at. inr (let it : call_at w i ≤ newest_reply (said ++ says) c = omega (arith, is.heard goes i c at, reply_more said says c) in it);
      };
      answered = λ waits. is.unanswered;
      alone = λ none. is.unanswered;
    }

-- a root that is given up, and needs a rollback
pub gives_up_in_turn : (G : Type 0) (said : List Post) (me : BranchId) (parent : Option BranchId) (peers : List BranchId) (w : Work) → (G → ⊥) → InTurn G said me parent peers w → InTurn G (said ++ []) me parent peers (record w { going = None })
gives_up_in_turn G said me parent peers w stops is = record {
  takes = record {
    taken = λ p above. omega (arith, is.takes.taken p above, exec_more said [] p me);
    told = omega (arith, is.takes.told, reply_more said [] me);
    rests = λ below last. refl;
  };
  makes = record {
    numbers = is.makes.numbers;
    made = λ i c at. omega (arith, is.makes.made i c at, exec_more said [] me c);
    no_other = λ c none. omega (arith, is.makes.no_other c none, exec_more said [] me c);
    heard = λ goes. absurd (stops goes);
  };
  answered = λ waits. absurd (waits refl);
  alone = is.alone;
}

-- the same of a branch that goes on only where this one does
pub in_turn_goes : (G H : Type 0) (said : List Post) (me : BranchId) (parent : Option BranchId) (peers : List BranchId) (w : Work) → (H → G) → InTurn G said me parent peers w → InTurn H said me parent peers w
in_turn_goes G H said me parent peers w goes is = record {
  takes = is.takes;
  makes = record { numbers = is.makes.numbers; made = is.makes.made; no_other = is.makes.no_other; heard = λ h. is.makes.heard (goes h) };
  answered = is.answered;
  alone = is.alone;
}

-- ---- a call to a child

-- the work of a branch that calls over an edge
abbrev pub calls_on : Work → ℕ → Going → Marks → Work
calls_on w i g m = record w { calls = set_numbered w.calls i (call_at w i + 1); going = Some g; marks = m }

module _ (E : BranchId → Option ℕ) (G : Type 0) (said : List Post) (me : BranchId) (parent : Option BranchId) (peers : List BranchId) (w : Work) (is : Free E G said me parent peers w)
    (i : ℕ) (g : Going) (waits : g.waits ≡ waiting.ForReply i) (m : Marks) where
  abbrev v : Work
  v = calls_on w i g m

  -- the number of the edge is one more, the others are as before
  one_more : (c : BranchId) → numbered peers i ≡ Some c → call_at v i ≡ call_at w i + 1
  one_more c at = let there = there_too peers w.calls i c (sym is.numbers) at in ap (λ o. unwrap_or o 0) (set_found w.calls i there.0 (call_at w i + 1) there.1)

  as_before : (j : ℕ) → i ≢ j → call_at v j ≡ call_at w j
  as_before j other = ap (λ o. unwrap_or o 0) (set_leaves w.calls i j (call_at w i + 1) other)

  -- two children of different edges are different
  apart : (j : ℕ) (c d : BranchId) → numbered peers i ≡ Some c → numbered peers j ≡ Some d → i ≢ j → same c d ≡ false
  apart j c d at there other = by (same c d) refl
    where
      by : (q : Bool) → same c d ≡ q → q ≡ false
      by false it = refl
      by true it =
          let one : E d ≡ Some i = subst (λ b. E b ≡ Some i) (equal_from_same c d it) (is.kids i c at) in
          let two : Some i ≡ Some j = sym one ∙ is.kids j d there in
          absurd (other (let here : i ≡ j = cc in here))

  -- a call without a child
  pub calls_nobody : numbered peers i ≡ None → InTurn G (said ++ []) me parent peers v
  calls_nobody nobody = record {
    takes = record {
      taken = λ p above. omega (arith, is.taken p above, exec_more said [] p me);
      told = omega (arith, is.told, reply_more said [] me);
      rests = λ below last. absurd (omega (arith, is.owes below, last, reply_more said [] me));
    };
    makes = record {
      numbers = set_length w.calls i (call_at w i + 1) ∙ is.numbers;
      made = λ j c at. omega (arith, is.made j c at, exec_more said [] me c, as_before j (unlike j c at));
      no_other = λ c none. omega (arith, is.no_other c none, exec_more said [] me c);
      heard = λ goes j c at. inr (let it : call_at v j ≤ newest_reply (said ++ []) c = omega (arith, is.heard goes j c at, reply_more said [] c, as_before j (unlike j c at)) in it);
    };
    answered = λ waiting. is.unanswered;
    alone = λ none. is.unanswered;
  }
    where
      unlike : (j : ℕ) (c : BranchId) → numbered peers j ≡ Some c → i ≢ j
      unlike j c at here = let it : numbered peers i ≡ Some c = subst (λ n. numbered peers n ≡ Some c) (sym here) at in absurd (cc (it, nobody))

  module _ (c : BranchId) (at : numbered peers i ≡ Some c) (kind : Kind) (exec : exec_number kind ≡ call_at w i + 1) (no_reply : reply_number kind ≡ 0) where
    abbrev says : List Post
    says = post me c kind

    to_it : newest_exec says me c ≡ call_at w i + 1
    to_it = one_exec me c me c kind ∙ subst (λ q. (if q then exec_number kind else 0) ≡ call_at w i + 1) (sym both) exec
      where
        both : (same me me && same c c) ≡ true
        both = let one : same me me ≡ true = same_from_equal me me refl in let two : same c c ≡ true = same_from_equal c c refl in ap (λ q. q && same c c) one ∙ two

    to_other : (d : BranchId) → same c d ≡ false → newest_exec says me d ≡ 0
    to_other d other = one_exec me c me d kind ∙ no_more (same me me) (same c d) other
      where
        no_more : (p q : Bool) → q ≡ false → (if p && q then exec_number kind else 0) ≡ 0
        no_more true q is = ap (λ x. if x then exec_number kind else 0) is
        no_more false q is = refl

    no_replies : (b : BranchId) → newest_reply says b ≡ 0
    no_replies b = one_reply me c b kind ∙ if_zero (same me b) (reply_number kind) no_reply

    -- the branch calls its child
    pub calls_child : InTurn G (said ++ says) me parent peers v
    calls_child = record {
      takes = record {
        taken = λ p above. omega (arith, is.taken p above, exec_more said says p me);
        told = omega (arith, is.told, reply_more said says me, no_replies me);
        rests = λ below last. absurd (omega (arith, is.owes below, last, reply_more said says me, no_replies me));
      };
      makes = record {
        numbers = set_length w.calls i (call_at w i + 1) ∙ is.numbers;
        made = made;
        no_other = λ d none. omega (arith, is.no_other d none, exec_more said says me d, to_other d (unlike d none (same c d) refl));
        heard = heard;
      };
      answered = λ waiting. is.unanswered;
      alone = λ none. is.unanswered;
    }
      where
        made : (j : ℕ) (d : BranchId) → numbered peers j ≡ Some d → newest_exec (said ++ says) me d ≡ call_at v j
        made j d there = elim (cases_nat i j) [
          | inl here ↦ (let it : Some c ≡ Some d = sym at ∙ subst (λ n. numbered peers n ≡ Some d) (sym here) there in let child : c ≡ d = cc in
              subst (λ n. newest_exec (said ++ says) me d ≡ call_at v n) here
              (subst (λ b. newest_exec (said ++ says) me b ≡ call_at v i) child
              (let new : newest_exec (said ++ says) me c ≡ call_at v i = omega (arith, is.made i c at, exec_more said says me c, to_it, one_more c at) in new)))
          | inr other ↦ (let old : newest_exec (said ++ says) me d ≡ call_at v j = omega (arith, is.made j d there, exec_more said says me d, to_other d (apart j c d at there other), as_before j other) in old)
        ]

        unlike : (d : BranchId) → ((j : ℕ) → numbered peers j ≢ Some d) → (q : Bool) → same c d ≡ q → q ≡ false
        unlike d none false it = refl
        unlike d none true it = absurd (none i (subst (λ b. numbered peers i ≡ Some b) (equal_from_same c d it) at))

        heard : G → (j : ℕ) (d : BranchId) → numbered peers j ≡ Some d → WaitsFor j (Some g) ⊎ (call_at v j ≤ newest_reply (said ++ says) d)
        heard goes j d there = elim (cases_nat i j) [
          | inl here ↦ inl (waits ∙ ap waiting.ForReply here)
          | inr other ↦ inr (let it : call_at v j ≤ newest_reply (said ++ says) d = omega (arith, is.heard goes j d there, reply_more said says d, as_before j other) in it)
        ]

    -- where the child answered the last call, each call stays answered
    pub call_answered : call_at w i ≤ newest_reply said c → Answered said → Answered (said ++ says)
    call_answered last all a b = by (same me a) (same c b) refl refl
      where
        none : (a b : BranchId) → same c b ≡ false → newest_exec says a b ≡ 0
        none a b other = one_exec me c a b kind ∙ no_more (same me a) (same c b) other
          where
            no_more : (p q : Bool) → q ≡ false → (if p && q then exec_number kind else 0) ≡ 0
            no_more true q is = ap (λ x. if x then exec_number kind else 0) is
            no_more false q is = refl

        no_from : (a b : BranchId) → same me a ≡ false → newest_exec says a b ≡ 0
        no_from a b other = one_exec me c a b kind ∙ ap (λ q. if q && same c b then exec_number kind else 0) other

        by : (p q : Bool) → same me a ≡ p → same c b ≡ q → newest_exec (said ++ says) a b ≤ newest_reply (said ++ says) b + 1
        by true true to from =
            let child : c ≡ b = equal_from_same c b from in
            let me_too : me ≡ a = equal_from_same me a to in
            let old : newest_exec said a b ≡ call_at w i = subst (λ x. newest_exec said x b ≡ call_at w i) me_too (subst (λ x. newest_exec said me x ≡ call_at w i) child (is.made i c at)) in
            let new : newest_exec says a b ≡ call_at w i + 1 = subst (λ x. newest_exec says x b ≡ call_at w i + 1) me_too (subst (λ x. newest_exec says me x ≡ call_at w i + 1) child to_it) in
            let heard : call_at w i ≤ newest_reply said b = subst (λ x. call_at w i ≤ newest_reply said x) child last in
            omega (arith, old, new, heard, exec_more said says a b, reply_more said says b)
        by true false to from = omega (arith, all a b, exec_more said says a b, reply_more said says b, none a b from)
        by false q to from = omega (arith, all a b, exec_more said says a b, reply_more said says b, no_from a b to)
