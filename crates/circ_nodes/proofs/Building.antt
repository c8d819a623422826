-- Terms that are built of numbers.
use Rattle.std.proofs.Common.{◌≡◌, ℕ, zero, suc, ◌+◌, ◌≤◌, ◌<◌, max, Bool, true, false, cond, List, [], ◌∷◌, length, get_or, Some, Result, Ok, Err, IfOk, refl, ap, sym, subst, ◌∙◌, arith}
use Rattle.std.specs.Prelude.{nat_eq}
use Rattle.std.specs.List.{AllByRecursion}
use Rattle.std.specs.Map.{lookup}
use Rattle.std.proofs.lemmas.Bool.{eqb-true}
use Rattle.std.proofs.lemmas.Option.{same_Some}
use Rattle.circ_term.specs.Tree.{Tree}
use Rattle.circ_term.specs.Growing.{Grows}
use Rattle.circ_nodes.specs.Named.{IsNamed}
use Rattle.circ_nodes.specs.Built.{AreBuilt}
use Rattle.circ_nodes.proofs.Numbers.{named_later}

-- what was built stays right when terms are added
pub built_later : (old new : List Tree) (built : List (ℕ × Tree)) → Grows old new → AreBuilt old built → AreBuilt new built
built_later old new built g k = λ n t e. named_later old new n t g (k n t e)

pub built_put : (nodes : List Tree) (old new : List (ℕ × Tree)) (n : ℕ) (t : Tree) → AreBuilt nodes old → IsNamed nodes n t
    → ((q : ℕ) → lookup (nat_eq q) new ≡ cond (nat_eq n q) (Some t) (lookup (nat_eq q) old)) → AreBuilt nodes new
built_put nodes old new n t k named changes = λ m u e. go m u e (nat_eq n m) refl
  where
    go : (m : ℕ) (u : Tree) → lookup (nat_eq m) new ≡ Some u → (b : Bool) → nat_eq n m ≡ b → IsNamed nodes m u
    go m u e true f =
        let same : n ≡ m = eqb-true n m f in
        let one : t ≡ u = same_Some t u (sym (changes m ∙ rw f refl) ∙ e) in
        subst (λ x. IsNamed nodes x u) same (named ∙ ap Some one)
    go m u e false f = k m u (sym (changes m ∙ rw f refl) ∙ e)

-- more than each of the numbers
abbrev pub above : List ℕ → ℕ
above [] = 0
above (n ∷ ns) = max (n + 1) (above ns)

pub above_read : (ns : List ℕ) (i : ℕ) → i < length ns → get_or ns i 0 < above ns
above_read [] i h = absurd (omega (arith, h))
above_read (n ∷ ns) zero h = omega arith
above_read (n ∷ ns) (suc i) h = let k = above_read ns i (omega (arith, h)) in omega (arith, k)

pub above_below : (ns : List ℕ) (n : ℕ) → AllByRecursion (λ m. m < n) ns → above ns ≤ n
above_below [] n h = omega arith
above_below (m ∷ ns) n h = let k = above_below ns n h.1 in let b = h.0 in omega (arith, k, b)

pub there_read : (nodes : List Tree) (ns : List ℕ) (i : ℕ) → AllByRecursion (λ n. n < length nodes) ns → i < length ns → get_or ns i 0 < length nodes
there_read nodes [] i a h = absurd (omega (arith, h))
there_read nodes (n ∷ ns) zero a h = a.0
there_read nodes (n ∷ ns) (suc i) a h = there_read nodes ns i a.1 (omega (arith, h))

-- what is built is the term
pub named_ok : {E : Type 0} (r : Result Tree E) (nodes : List Tree) (n : ℕ) (t : Tree) → IsNamed nodes n t → IfOk r (λ x. x ≡ t) → IfOk r (IsNamed nodes n)
named_ok (Ok x) nodes n t h e = h ∙ ap Some (sym e)
named_ok (Err x) nodes n t h e = tt
