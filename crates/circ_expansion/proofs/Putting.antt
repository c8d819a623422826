-- Replacing at one path again.
use Rattle.std.proofs.Common.{◌≡◌, ℕ, List, Some, unwrap_or, ap, sym, ◌∙◌}
use Rattle.circ_term.specs.Tree.{Tree, at, replaced}
use Rattle.circ_term.proofs.Paths.{replaced_there, replaced_self, replaced_twice}
use Rattle.circ_expansion.specs.Followed.{put_or_same}

-- what is replaced is what is put
pub put_is : (p : List ℕ) (t u v : Tree) → replaced t p u ≡ Some v → put_or_same t p u ≡ v
put_is p t u v e = ap (λ o. unwrap_or o t) e

-- what stands at a path can be replaced
pub put_there : (p : List ℕ) (t a u : Tree) → at t p ≡ Some a → replaced t p u ≡ Some (put_or_same t p u)
put_there p t a u e = let r = replaced_there p t a u e in r.1 ∙ ap Some (sym (put_is p t u r.0 r.1))

-- a replacement can be taken back
pub replaced_back : (p : List ℕ) (t a u v : Tree) → at t p ≡ Some a → replaced t p u ≡ Some v → replaced v p a ≡ Some t
replaced_back p t a u v e r = replaced_twice p t u v a r ∙ replaced_self p t a e
