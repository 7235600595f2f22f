-- A command that is not bad leaves no more nodes than there may be.
use Rattle.std.proofs.Common.{◌≡◌, ℕ, ◌+◌, ◌≤◌, true, false, eqb, List, [], ◌∷◌, ◌++◌, length, Option, Some, None, Result, Ok, Err, arith, inl, inr}
use Rattle.std.specs.List.{list_any}
use Rattle.std.specs.Str.{bytes_eq}
use Rattle.std.proofs.lemmas.List.{length-append}
use Rattle.std.proofs.lemmas.Bool.Decides.{nat_tests}
use Rattle.dtx_values.specs.Limits.{node_limit}
use Rattle.token_grammar.proofs.Options.{chosen}
use Rattle.script_read.specs.declared.before.Before.{Before}
use Rattle.script_read.specs.declared.command.Command.{Command}
use Rattle.script_read.specs.declared.command.Command.TheVariants as commands
use Rattle.script_read.specs.declared.why.Why.TheVariants as whys
use Rattle.script_read.specs.Asked.{names_made, naming_trouble, trouble_of, judged}
use Rattle.script_read.proofs.SpellLaws.{judged_takes}

no_more : (names : List (List ℕ)) → length names ≤ node_limit → length (names ++ []) ≤ node_limit
no_more names le = omega (arith, length-append names [])

not_full : (n : ℕ) → n ≤ 16 → eqb n 16 ≡ false → n + 1 ≤ 16
not_full n le h = grind (arith, nat_tests)

one_more : (names : List (List ℕ)) (made : List ℕ) → length names ≤ node_limit → naming_trouble names made ≡ None → length (names ++ made ∷ []) ≤ node_limit
one_more names made le e =
    elim (chosen (list_any (λ other. bytes_eq other made) names) (Some whys.Twice) _ None e) [
      | inl h ↦ absurd cc
      | inr h ↦ elim (chosen (eqb (length names) node_limit) (Some whys.Many) None None h.1) [
        | inl k ↦ absurd cc
        | inr k ↦ (let small = not_full (length names) le k.0 in omega (arith, length-append names (made ∷ [])))
      ]
    ]

pub room : (names : List (List ℕ)) (c : Command) → length names ≤ node_limit → trouble_of names c ≡ None → length (names ++ names_made c) ≤ node_limit
room names (commands.Node made strength links undo) le e = one_more names made le e
room names (commands.At node session statement) le e = no_more names le
room names (commands.Cut a b) le e = no_more names le
room names (commands.Join a b) le e = no_more names le
room names (commands.Lose k) le e = no_more names le
room names (commands.LoseNext kind from to) le e = no_more names le
room names (commands.Stop node) le e = no_more names le
room names (commands.Start node) le e = no_more names le
room names (commands.Crash node write how) le e = no_more names le
room names (commands.Fault node call) le e = no_more names le
room names (commands.Hold on) le e = no_more names le
room names (commands.Deliver k) le e = no_more names le
room names (commands.Again k) le e = no_more names le
room names (commands.Pump most) le e = no_more names le
room names (commands.GiveUp node session) le e = no_more names le
room names (commands.Reco node) le e = no_more names le
room names (commands.ShowPending node) le e = no_more names le
room names (commands.ShowNeighbors node) le e = no_more names le
room names commands.ShowBook le e = no_more names le
room names commands.ShowNet le e = no_more names le
room names (commands.ShowDisk node) le e = no_more names le
room names (commands.ShowUndo node) le e = no_more names le

pub good_leaves_room : (before : Before) (piece : List ℕ) (c : Command) → length before.names ≤ node_limit → judged before piece ≡ Ok c → length (before.names ++ names_made c) ≤ node_limit
good_leaves_room before piece c le e = room before.names c le (judged_takes before piece c e).sound
