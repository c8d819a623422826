-- The test by which the code finds instances of derivatives.
use Rattle.std.specs.Prelude.{ℕ, zero, suc, Bool, true, false, ◌==◌, ◌&&◌}
use Rattle.circ_term.specs.Tree.{Tree, Trees, Var, App, none, more, sort_of}

-- whether the term is the variable (n, s)
abbrev pub is_variable : (n s : ℕ) → Tree → Bool
is_variable n s (Var m k) = (m == n) && (k == s)
is_variable n s (App f k ts) = false

-- the test is asked at the hole alone
abbrev pub at_hole : (number : ℕ) → Bool → Bool
at_hole zero b = b
at_hole (suc m) b = true

-- whether the term is the body of a derivative with the variable (n, s) at the hole and any terms of their sorts at the parameters
abbrev mutual
  pub fits : (n s : ℕ) → (body term : Tree) → Bool
  fits n s (Var m k) u = (sort_of u == k) && at_hole m (is_variable n s u)
  fits n s (App f k bs) (Var m j) = false
  fits n s (App f k bs) (App g j us) = (f == g) && ((k == j) && all_fit n s bs us)

  pub all_fit : (n s : ℕ) → (bodies terms : Trees) → Bool
  all_fit n s none none = true
  all_fit n s none (more u us) = false
  all_fit n s (more b bs) none = false
  all_fit n s (more b bs) (more u us) = fits n s b u && all_fit n s bs us
