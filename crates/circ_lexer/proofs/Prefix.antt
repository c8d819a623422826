-- The first bytes that pass a test, and what comes after them.
use Rattle.std.proofs.Common.{◌≡◌, ◌<◌, ◌+◌, ℕ, List, [], ◌∷◌, Bool, true, false, cond, take, drop, refl, arith, suc}
use Rattle.std.specs.List.{prefix_len, list_all}
use Rattle.circ_lexer.specs.Scanning.{begins}

module _ (p : ℕ → Bool) where
  ahead_step : (b : ℕ) (bs : List ℕ) (v : Bool) → p b ≡ v → begins p (drop (prefix_len p bs) bs) ≡ false → begins p (drop (cond v (1 + prefix_len p bs) 0) (b ∷ bs)) ≡ false
  ahead_step b bs true h k = let one : 1 + prefix_len p bs ≡ suc (prefix_len p bs) = omega arith in rw one k
  ahead_step b bs false h k = h

  pub ahead : (bs : List ℕ) → begins p (drop (prefix_len p bs) bs) ≡ false
  ahead [] = refl
  ahead (b ∷ bs) = ahead_step b bs (p b) refl (ahead bs)

  all_step : (b : ℕ) (bs : List ℕ) (v : Bool) → p b ≡ v → list_all p (take (prefix_len p bs) bs) ≡ true → list_all p (take (cond v (1 + prefix_len p bs) 0) (b ∷ bs)) ≡ true
  all_step b bs true h k = let one : 1 + prefix_len p bs ≡ suc (prefix_len p bs) = omega arith in rw (one, h) k
  all_step b bs false h k = refl

  pub all_pass : (bs : List ℕ) → list_all p (take (prefix_len p bs) bs) ≡ true
  all_pass [] = refl
  all_pass (b ∷ bs) = all_step b bs (p b) refl (all_pass bs)

  pub some_pass : (b : ℕ) (bs : List ℕ) → p b ≡ true → 0 < prefix_len p (b ∷ bs)
  some_pass b bs h = rw h (omega arith)
