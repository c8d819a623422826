-- A number by which most different terms differ at once: equal terms have equal ones.
use Rattle.std.specs.Prelude.{ℕ, ◌+◌, ◌*◌, ◌/◌, ◌%◌, ◌^◌}
use Rattle.circ_term.specs.Tree.{Tree, Trees, Var, App, none, more}

-- the upper bits of a number go into the lower ones too
abbrev pub spread : ℕ → ℕ
spread x = (x + x / 2 ^ 15) * 2246822519 % 2 ^ 32

-- one more number goes in, so that the order of numbers counts
abbrev pub mixed : ℕ → ℕ → ℕ
mixed h k = spread ((h * 2654435761 + k + 1) % 2 ^ 32)

-- of a variable its number and its sort, of an application its operator, its sort and its arguments from the left
abbrev mutual
  pub fingerprint_of : Tree → ℕ
  fingerprint_of (Var n s) = mixed (mixed 1 n) s
  fingerprint_of (App f s ts) = fingerprint_after (mixed (mixed 2 f) s) ts

  pub fingerprint_after : ℕ → Trees → ℕ
  fingerprint_after h none = h
  fingerprint_after h (more t ts) = fingerprint_after (mixed h (fingerprint_of t)) ts
