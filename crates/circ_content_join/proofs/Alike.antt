-- A rest with what was set aside behind it has the content of the whole.
use Rattle.std.proofs.Common.{◌≡◌, ℕ, ◌+◌, Bool, true, false, cond, if◌then◌else◌, List, [], ◌∷◌, ◌++◌, Option, Some, None, refl, ap, sym, subst, ◌∙◌, arith}
use Rattle.std.specs.List.{AllByRecursion, dedup}
use Rattle.std.specs.Option.{option_map, option_map_or}
use Rattle.std.proofs.lemmas.Option.{same_Some}
use Rattle.circ_term.specs.Order.{is_same}
use Rattle.circ_term.specs.Tree.{Tree}
use Rattle.circ_term.proofs.Order.{same_here}
use Rattle.circ_theory.specs.Operators.{has_mark}
use Rattle.circ_theory.specs.Signature.{Operator}
use Rattle.circ_theory.specs.Theory.{Theory}
use Rattle.circ_aci.specs.Canonical.{join}
use Rattle.circ_aci.specs.Content.{sorted_terms, settled, leaves, content}
use Rattle.circ_aci.specs.Operands.{operands}
use Rattle.circ_aci.proofs.Again.{IsAlone, content_many}
use Rattle.circ_aci.proofs.Deriving.{has_leaves}
use Rattle.circ_aci.proofs.Finding.{content_leaf, leaves_leaf, stands_on, leaves_twice}
use Rattle.circ_aci.proofs.Regroup.{IsJoiner, IsOf, IsLeaf, all_leaf, leaves_some}
use Rattle.circ_aci.proofs.Settled.{IsSome, one, ones, sorted_rises, ones-sorted, same_list, all_settled, settled_again}
use Rattle.circ_content_join.specs.Apart.{Apart, without, with_common, with_left, set_aside}
use Rattle.circ_content_join.specs.Joining.{with_rest}

-- ---- how often a term stands in what is set aside and in the rests

ones_append : (x : Tree) (xs ys : List Tree) → ones x (xs ++ ys) ≡ ones x xs + ones x ys
ones_append x [] ys = omega arith
ones_append x (y ∷ xs) ys = let r = ones_append x xs ys in omega (arith, r)

one_same : (x y z : Tree) → is_same y z ≡ true → one x y ≡ one x z
one_same x y z e = ap (one x) (same_here y z e)

without_ones : (x y : Tree) (ys zs : List Tree) → without y ys ≡ Some zs → ones x ys ≡ one x y + ones x zs
without_ones x y [] zs e = absurd (cc)
without_ones x y (z ∷ ys) zs e = go (is_same y z) refl (without y ys) (λ us r. without_ones x y ys us r) refl e
  where
    go : (b : Bool) → is_same y z ≡ b → (o : Option (List Tree)) → ((us : List Tree) → without y ys ≡ Some us → ones x ys ≡ one x y + ones x us) → without y ys ≡ o
        → (if b then Some ys else option_map (λ us. z ∷ us) o) ≡ Some zs → ones x (z ∷ ys) ≡ one x y + ones x zs
    go true s o ih r w = let a = one_same x y z s in let b = ap (ones x) (same_Some ys zs w) in omega (arith, a, b)
    go false s None ih r w = absurd (cc)
    go false s (Some us) ih r w = let a = ih us r in let b = ap (ones x) (same_Some (z ∷ us) zs w) in omega (arith, a, b)

pub record CountsApart (x : Tree) (xs ys : List Tree) : Type 0 where
  pub left : ones x (set_aside xs ys).both + ones x (set_aside xs ys).left ≡ ones x xs
  pub right : ones x (set_aside xs ys).both + ones x (set_aside xs ys).right ≡ ones x ys

pub counts_apart : (x : Tree) (xs ys : List Tree) → CountsApart x xs ys
counts_apart x [] ys = record { left = refl; right = omega arith }
counts_apart x (y ∷ xs) ys = go (without y ys) refl (λ zs. counts_apart x xs zs)
  where
    d : Option (List Tree) → Apart
    d o = option_map_or (λ zs. with_common y (set_aside xs zs)) o (with_left y (set_aside xs ys))

    go : (o : Option (List Tree)) → without y ys ≡ o → ((zs : List Tree) → CountsApart x xs zs) → CountsApart x (y ∷ xs) ys
    go None e ih =
        let P : Apart → Type 0 = λ a. ones x a.both + ones x a.left ≡ ones x (y ∷ xs) in
        let Q : Apart → Type 0 = λ a. ones x a.both + ones x a.right ≡ ones x ys in
        let s = ih ys in
        let l = s.left in
        record { left = subst P (sym (ap d e)) (omega (arith, l)); right = subst Q (sym (ap d e)) s.right }
    go (Some zs) e ih =
        let P : Apart → Type 0 = λ a. ones x a.both + ones x a.left ≡ ones x (y ∷ xs) in
        let Q : Apart → Type 0 = λ a. ones x a.both + ones x a.right ≡ ones x ys in
        let s = ih zs in
        let l = s.left in
        let r = s.right in
        let w = without_ones x y ys zs e in
        record { left = subst P (sym (ap d e)) (omega (arith, l)); right = subst Q (sym (ap d e)) (omega (arith, r, w)) }

-- ---- settling

-- a commutative operator settles by how often each term stands there
settled_counts : (o : Operator) → o.comm ≡ true → (xs ys : List Tree) → ((x : Tree) → ones x xs ≡ ones x ys) → settled o xs ≡ settled o ys
settled_counts o c xs ys e = go o.comm o.idem c
  where
    same : sorted_terms xs ≡ sorted_terms ys
    same = same_list (sorted_terms xs) (sorted_terms ys) (sorted_rises xs) (sorted_rises ys) (λ x. ones-sorted x xs ∙ e x ∙ sym (ones-sorted x ys))

    go : (b i : Bool) → b ≡ true
        → cond i (dedup is_same (cond b (sorted_terms xs) xs)) (cond b (sorted_terms xs) xs) ≡ cond i (dedup is_same (cond b (sorted_terms ys) ys)) (cond b (sorted_terms ys) ys)
    go true true z = ap (dedup is_same) same
    go true false z = same
    go false i z = absurd (cc)

settled_one : (o : Operator) (t : Tree) → settled o (t ∷ []) ≡ t ∷ []
settled_one o t = go o.comm o.idem
  where
    go : (b i : Bool) → cond i (dedup is_same (cond b (sorted_terms (t ∷ [])) (t ∷ []))) (cond b (sorted_terms (t ∷ [])) (t ∷ [])) ≡ t ∷ []
    go true true = refl
    go true false = refl
    go false true = refl
    go false false = refl

-- ---- one operator

leaves_join : (g k : ℕ) (x : Tree) (xs : List Tree) → AllByRecursion (IsAlone g) (x ∷ xs) → leaves g (join g k (x ∷ xs)) ≡ x ∷ xs
leaves_join g k x [] a = leaves_leaf g x a.0
leaves_join g k x (y ∷ ys) a =
    leaves_twice g k x (join g k (y ∷ ys))
    ∙ ap (λ zs. zs ++ leaves g (join g k (y ∷ ys))) (leaves_leaf g x a.0)
    ∙ ap (λ zs. x ∷ zs) (leaves_join g k y ys a.1)

module _ (th : Theory) (g : ℕ) (o : Operator) (j : IsJoiner th g o) (marked : has_mark o ≡ true) (assoc : o.assoc ≡ true) (comm : o.comm ≡ true) where
  content_settled : (t : Tree) → content o g t ≡ settled o (leaves g t)
  content_settled t = go (operands g t) refl
    where
      go : (p : Option (Tree × Tree)) → operands g t ≡ p → content o g t ≡ settled o (leaves g t)
      go None e = content_leaf o g t e ∙ sym (settled_one o t) ∙ ap (settled o) (sym (leaves_leaf g t e))
      go (Some p) e =
          let s = stands_on g t p.0 p.1 (sym e) in
          ap (content o g) s.is ∙ content_many o g s.sort p.0 p.1 marked assoc
          ∙ ap (settled o) (sym (leaves_twice g s.sort p.0 p.1) ∙ ap (leaves g) (sym s.is))

  all_alone : (xs : List Tree) → AllByRecursion (IsLeaf th.signature g o.result) xs → AllByRecursion (IsAlone g) xs
  all_alone [] a = tt
  all_alone (x ∷ xs) a = (a.0.1, all_alone xs a.1)

  -- what a content is
  record IsWhole (xs : List Tree) : Type 0 where
    alone : AllByRecursion (IsAlone g) xs
    again : settled o xs ≡ xs

  content_whole : (t : Tree) → IsOf th.signature o.result t → IsWhole (content o g t)
  content_whole t p =
      let h = has_leaves th g o j t p in
      let P : List Tree → Type 0 = IsWhole in
      subst P (sym (content_settled t)) (go (leaves g t) (leaves_some th.signature g o.result h) (all_alone (leaves g t) (all_leaf th.signature g o.result h)))
    where
      go : (xs : List Tree) → IsSome xs → AllByRecursion (IsAlone g) xs → IsWhole (settled o xs)
      go [] s a = absurd s
      go (x ∷ xs) s a = record { alone = all_settled (IsAlone g) o x xs a; again = settled_again o x xs }

  pub content_alone : (t : Tree) → IsOf th.signature o.result t → AllByRecursion (IsAlone g) (content o g t)
  content_alone t p = (content_whole t p).alone

  pub rest_content : (t : Tree) → IsOf th.signature o.result t → (rest both : List Tree) → IsSome rest → IsSome both
      → AllByRecursion (IsAlone g) rest → AllByRecursion (IsAlone g) both → ((x : Tree) → ones x both + ones x rest ≡ ones x (content o g t))
      → content o g (with_rest o g rest both) ≡ content o g t
  rest_content t p [] both s n a b e = absurd s
  rest_content t p (x ∷ xs) [] s n a b e = absurd n
  rest_content t p (x ∷ xs) (z ∷ zs) s n a b e =
      content_many o g o.result (join g o.result (x ∷ xs)) (join g o.result (z ∷ zs)) marked assoc
      ∙ ap (λ ws. settled o (ws ++ leaves g (join g o.result (z ∷ zs)))) (leaves_join g o.result x xs a)
      ∙ ap (λ ws. settled o ((x ∷ xs) ++ ws)) (leaves_join g o.result z zs b)
      ∙ settled_counts o comm ((x ∷ xs) ++ (z ∷ zs)) (content o g t)
      (λ y. let h = ones_append y (x ∷ xs) (z ∷ zs) in let k = e y in omega (arith, h, k))
      ∙ (content_whole t p).again
