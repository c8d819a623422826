-- A `prove` behind another.
use Rattle.std.specs.Prelude.{◌≡◌, ◌≢◌, ℕ, List}
use Rattle.circ_files.specs.Files.{Held}
use Rattle.circ_top.specs.Command.{Prove, Asks}
use Rattle.circ_turn.specs.declared.search.Limits.{Limits}

-- The words ask for a proof, and the second words for the same proof once more: from a theory and a script of the same bytes, under names other than that
-- of the proof.
pub record AsksAgain (words second : List (List ℕ)) (held : Held) : Type 0 where
  pub limits : Limits
  pub theory : List ℕ
  pub script : List ℕ
  pub proof : List ℕ
  pub second_theory : List ℕ
  pub second_script : List ℕ
  pub asks : Asks words (Prove limits theory script proof)
  pub asks_again : Asks second (Prove limits second_theory second_script proof)
  pub theory_apart : second_theory ≢ proof
  pub script_apart : second_script ≢ proof
  pub same_theory : held second_theory ≡ held theory
  pub same_script : held second_script ≡ held script
