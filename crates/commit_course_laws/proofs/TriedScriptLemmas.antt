-- The tried scripts are such as a reader of scripts gives: two nodes in their places, and commands over them.
use Rattle.std.proofs.Common.{◌≡◌, ℕ, zero, suc, ◌<◌, ◌≤◌, ◌^◌, List, [], ◌∷◌, ◌++◌, Option, Some, None, codes, refl, subst, arith}
use Rattle.node_rules.specs.Data.{Place, Stmt}
use Rattle.node_rules.specs.Data.stmts
use Rattle.node_rules.specs.Words.{numbered}
use Rattle.run_rules.specs.Lawful.{AreOfAScript, IsCommandOver, IsNode, IsPlace}
use Rattle.run_branch_laws.specs.TriedRun as tried
use Rattle.commit_course_laws.specs.TriedCourse.{asks, changes, script}
use Rattle.commit_course_laws.specs.TriedQuiet.{made, creating}

place_is : (n : ℕ) → IsPlace tried.places n (tried.place_of n)
place_is n = record {
  number = refl;
  names = refl;
  strength = (let low : 1 ≤ 255 = omega arith in low);
  links = ((let low : 1 ≤ 4 = omega arith in low), (let low : 4 ≤ 64 = omega arith in low));
  undo = ((let low : 1 ≤ 64 = omega arith in low), (let low : 64 ≤ 1024 = omega arith in low));
}

places_are : (n : ℕ) (p : Place) → numbered tried.places n ≡ Some p → IsPlace tried.places n p
places_are zero p is = absurd cc
places_are (suc zero) p is = (let it : Some (tried.place_of 1) ≡ Some p = is in let same : tried.place_of 1 ≡ p = cc in subst (IsPlace tried.places 1) same (place_is 1))
places_are (suc (suc zero)) p is = (let it : Some (tried.place_of 2) ≡ Some p = is in let same : tried.place_of 2 ≡ p = cc in subst (IsPlace tried.places 2) same (place_is 2))
places_are (suc (suc (suc n))) p is = (let it : None ≡ Some p = is in absurd cc)

-- a node of the two
node_a : IsNode 2 1
node_a = ((let low : 1 ≤ 1 = omega arith in low), (let low : 1 ≤ 2 = omega arith in low))

node_b : IsNode 2 2
node_b = ((let low : 1 ≤ 2 = omega arith in low), (let low : 2 ≤ 2 = omega arith in low))

module _ (n : ℕ) (node : IsNode 2 n) where
  session_1 : (1 ≤ 1) × (1 ≤ 64)
  session_1 = ((let low : 1 ≤ 1 = omega arith in low), (let low : 1 ≤ 64 = omega arith in low))

  table_made : IsCommandOver 2 (asks n (stmts.CreateTable (tried.table_of_keys (codes "T"))))
  table_made = (
    node,
    session_1,
    record {
      some = (let low : 0 < 1 = omega arith in low);
      few = (let low : 1 ≤ 32 = omega arith in low);
      one_key = refl;
      distinct = refl;
      widths = elim [ zero ↦ λ d low. tt | suc k ↦ λ d low. absurd (omega (arith, low)) ];
      named = refl;
      columns_named = elim [ zero ↦ λ d low. refl | suc k ↦ λ d low. absurd (omega (arith, low)) ];
    },
  )

  row_made : (link : Option (List ℕ)) → IsCommandOver 2 (asks n (tried.insert (record { name = codes "T"; link = link })))
  row_made link = (node, session_1, elim [ zero ↦ λ d low. ((let fits : 1 < 2 ^ 63 = omega arith in record { sfits = fits }), λ k e none. absurd (omega (arith, none))) | suc k ↦ λ d low. absurd (omega (arith, low)) ])

-- the changes, and a last command
asked_with : (s : Stmt) → IsCommandOver 2 (asks 1 s) → AreOfAScript tried.places (changes ++ asks 1 s ∷ [])
asked_with s last = record {
  few = (let low : 2 ≤ 16 = omega arith in low);
  named = refl;
  each = places_are;
  proper = (table_made 1 node_a, (table_made 2 node_b, ((node_a, session_1 1 node_a, (refl, refl)), (row_made 1 node_a (Some (codes "B")), (row_made 1 node_a None, (last, tt))))));
}

pub commit_is_asked : AreOfAScript tried.places script
commit_is_asked = asked_with (stmts.Commit None) (node_a, session_1 1 node_a, tt)

pub create_is_asked : AreOfAScript tried.places creating
create_is_asked = asked_with made (node_a, session_1 1 node_a, (refl, refl))
