-- Leaves in the order of their numbers: the parts of one number, summed up.
use Rattle.std.proofs.Common.{◌≡◌, ◌↔◌, ℕ, ◌+◌, ◌*◌, ◌≤◌, ◌⊎◌, Bool, true, false, ◌==◌, List, ◌∷◌, Some, refl, sym, ap, ◌∙◌, arith, inl, inr, suc, Result, Ok, Err, IfOk, IsTrue}
use Rattle.std.specs.Bool.{OnTrue, OnFalse}
use Rattle.std.specs.List.{Contains}
use Rattle.std.specs.List.Sorted.{IsPermutation, IsNonDecreasingBy}
use Rattle.std.proofs.lemmas.Bool.{cases_eq, cond-true, cond-false, eq-eqb, ne_eqb}
use Rattle.std.proofs.lemmas.List.Sums.{sum_by-cons}
use Rattle.std.proofs.lemmas.List.Sorted.{IsPermutation-sym, Contains-permutation, sum_by-IsPermutation, IsNonDecreasingBy-drop}
use Rattle.circ_term.specs.Tree.{Tree}
use Rattle.circ_nodes.specs.Named.{tree_at, IsOnce}
use Rattle.circ_nodes.proofs.Located.{tree_named}
use Rattle.circ_weigh.specs.declared.weighing.Part.{Part}
use Rattle.circ_weigh.specs.Weighing.{one, ones, holds, left_sum, right_sum, Balances, IsLeafPart, AreLeafParts, BalancesOut, Tilts, only}
use Rattle.circ_weigh.proofs.Counting.{one_itself}
use Rattle.circ_weigh.proofs.Summing.{other_alone, spread, there_behind, first_there, sum_same, sum_none, none_of, all_of}

only_itself : (n m : ℕ) → n ≡ m → only n m ≡ 1
only_itself n m e = cond-true (n == m) 1 0 (eq-eqb n m e)

only_other : (n m : ℕ) → (n ≡ m → ⊥) → only n m ≡ 0
only_other n m e = cond-false (n == m) 1 0 (ne_eqb n m e)

-- ---- the run of one number, and what follows it

-- the list comes to what the run and the rest come to, but for what was as much on both sides; a run that differs has a number of the list, and the rest has none that is less
pub record SumsUp (all rest : List Part) (run : Part) : Type 0 where
  pub kept : (g : ℕ → ℕ) → left_sum g all + (right_sum g rest + run.right * g run.number) ≡ right_sum g all + (left_sum g rest + run.left * g run.number)
  pub sorted : IsNonDecreasingBy (λ (p : Part). p.number) rest
  pub from : (p : Part) → Contains rest p → Contains all p
  pub held : (run.left ≡ run.right → ⊥) → (p : Part) × Contains all p × (p.number ≡ run.number)
  pub least : (run.left ≡ run.right → ⊥) → (p : Part) → Contains rest p → run.number ≤ p.number

sorted_tail : (x : Part) (xs : List Part) → IsNonDecreasingBy (λ (p : Part). p.number) (x ∷ xs) → IsNonDecreasingBy (λ (p : Part). p.number) xs
sorted_tail x xs h = IsNonDecreasingBy-drop (λ (p : Part). p.number) 1 (x ∷ xs) h

first_least : (x : Part) (xs : List Part) → IsNonDecreasingBy (λ (p : Part). p.number) (x ∷ xs) → (p : Part) → Contains xs p → x.number ≤ p.number
first_least x xs h p (k, there, e) = let a = h 0 (suc k) p (omega arith) (omega (arith, there)) in let b = ap (λ (q : Part). q.number) e in omega (arith, a, b)

pub run_grows : (all rest : List Part) (run x next : Part) → SumsUp all (x ∷ rest) run → x.number ≡ run.number
    → next.number ≡ run.number → next.left ≡ run.left + x.left → next.right ≡ run.right + x.right → SumsUp all rest next
run_grows all rest run x next is same number left right = record {
  kept = λ g.
      let k = is.kept g in
      let a = sum_by-cons (λ (p : Part). p.left * g p.number) x rest in
      let b = sum_by-cons (λ (p : Part). p.right * g p.number) x rest in
      let c = ap (λ n. x.left * g n) same in
      let d = ap (λ n. x.right * g n) same in
      let l = ap (λ n. next.left * g n) number ∙ ap (λ n. n * g run.number) left ∙ spread run.left x.left (g run.number) in
      let r = ap (λ n. next.right * g n) number ∙ ap (λ n. n * g run.number) right ∙ spread run.right x.right (g run.number) in
      omega (arith, k, a, b, c, d, l, r);
  sorted = sorted_tail x rest is.sorted;
  from = λ p h. is.from p (there_behind x p rest h);
  held = λ differs. (x, is.from x (first_there x rest), same ∙ sym number);
  least = λ differs p h. let a = first_least x rest is.sorted p h in omega (arith, a, same, number);
}

pub run_turns : (all rest : List Part) (run x : Part) → SumsUp all (x ∷ rest) run → run.left ≡ run.right → SumsUp all rest x
run_turns all rest run x is even = record {
  kept = λ g.
      let k = is.kept g in
      let a = sum_by-cons (λ (p : Part). p.left * g p.number) x rest in
      let b = sum_by-cons (λ (p : Part). p.right * g p.number) x rest in
      let c = ap (λ n. n * g run.number) even in
      omega (arith, k, a, b, c);
  sorted = sorted_tail x rest is.sorted;
  from = λ p h. is.from p (there_behind x p rest h);
  held = λ differs. (x, is.from x (first_there x rest), refl);
  least = λ differs p h. first_least x rest is.sorted p h;
}

pub run_stops : (all rest : List Part) (run x : Part) → SumsUp all (x ∷ rest) run → (x.number ≡ run.number → ⊥) → (run.left ≡ run.right → ⊥) → Tilts all
run_stops all rest run x is other differs =
    let held = is.held differs in
    let n : ℕ = held.0.number in
    let g : ℕ → ℕ = only n in
    let k = is.kept g in
    let one = only_itself n run.number held.2 in
    let a = all_of run.left (g run.number) one in
    let b = all_of run.right (g run.number) one in
    let here = is.least differs x (first_there x rest) in
    let past : (p : Part) → Contains (x ∷ rest) p → p.number ≡ run.number → ⊥ = λ p h e. other (omega (arith, here, within p h, e)) in
    let absent : (p : Part) → Contains (x ∷ rest) p → g p.number ≡ 0 = λ p h. only_other n p.number (λ e. past p h (sym e ∙ held.2)) in
    let l = sum_none (λ (p : Part). p.left * g p.number) (x ∷ rest) (λ p h. none_of p.left (g p.number) (absent p h)) in
    let r = sum_none (λ (p : Part). p.right * g p.number) (x ∷ rest) (λ p h. none_of p.right (g p.number) (absent p h)) in
    record { part = held.0; there = held.1; differs = λ e. differs (omega (arith, k, a, b, l, r, e)) }
  where
    within : (p : Part) → Contains (x ∷ rest) p → x.number ≤ p.number
    within p (k, there, e) = let a = is.sorted 0 k p (omega arith) there in let b = ap (λ (q : Part). q.number) e in omega (arith, a, b)

-- ---- in another order

pub out_moved : (xs ys : List Part) → IsPermutation xs ys → BalancesOut ys → BalancesOut xs
out_moved xs ys perm even g =
    sym (sum_by-IsPermutation (λ (p : Part). p.left * g p.number) xs ys perm) ∙ even g ∙ sum_by-IsPermutation (λ (p : Part). p.right * g p.number) xs ys perm

pub tilts_moved : (xs ys : List Part) → IsPermutation xs ys → Tilts ys → Tilts xs
tilts_moved xs ys perm is = record {
  part = is.part;
  there = Contains-permutation ys xs is.part (IsPermutation-sym xs ys perm) is.there;
  differs = λ e. is.differs
      (sum_by-IsPermutation (λ (p : Part). p.left * only is.part.number p.number) xs ys perm ∙ e ∙ sym (sum_by-IsPermutation (λ (p : Part). p.right * only is.part.number p.number) xs ys perm));
}

pub if_out_moved : {E : Type 0} (r : Result Bool E) (xs ys : List Part) → IsPermutation xs ys → IfOk r (λ b. OnTrue b (BalancesOut ys)) → IfOk r (λ b. OnTrue b (BalancesOut xs))
if_out_moved (Ok true) xs ys perm h = out_moved xs ys perm h
if_out_moved (Ok false) xs ys perm h = h
if_out_moved (Err e) xs ys perm h = h

pub if_tilts_moved : {E : Type 0} (r : Result Bool E) (xs ys : List Part) → IsPermutation xs ys → IfOk r (λ b. OnFalse b (Tilts ys)) → IfOk r (λ b. OnFalse b (Tilts xs))
if_tilts_moved (Ok true) xs ys perm h = h
if_tilts_moved (Ok false) xs ys perm h = tilts_moved xs ys perm h
if_tilts_moved (Err e) xs ys perm h = h

-- ---- leaves that balance

-- of the trees of leaves each stands at its own number alone
leaf_counts : (nodes : List Tree) (f : ℕ) (p q : Part) → IsOnce nodes → IsLeafPart nodes f p → IsLeafPart nodes f q → holds nodes f (tree_at nodes p.number) q.number ≡ only p.number q.number
leaf_counts nodes f p q once is other = ap (ones (tree_at nodes p.number)) other.alone ∙ go (cases_eq p.number q.number)
  where
    go : (p.number ≡ q.number) ⊎ (p.number ≡ q.number → ⊥) → one (tree_at nodes p.number) (tree_at nodes q.number) + 0 ≡ only p.number q.number
    go (inl e) =
        let a = ap (λ n. one (tree_at nodes p.number) (tree_at nodes n)) (sym e) ∙ one_itself (tree_at nodes p.number) in
        let b = only_itself p.number q.number e in
        omega (arith, a, b)
    go (inr e) =
        let a = other_alone (tree_at nodes p.number) (tree_at nodes q.number)
        (λ same. e (once p.number q.number (tree_at nodes p.number) (tree_named nodes p.number is.there) (tree_named nodes q.number other.there ∙ ap Some (sym same)))) in
        a ∙ sym (only_other p.number q.number e)

pub leaves_tilt : (nodes : List Tree) (f : ℕ) (ps : List Part) → IsOnce nodes → AreLeafParts nodes f ps → Tilts ps → Balances nodes f ps → ⊥
leaves_tilt nodes f ps once all tilts balance =
    let x = tilts.part in
    let t : Tree = tree_at nodes x.number in
    let same : (p : Part) → Contains ps p → holds nodes f t p.number ≡ only x.number p.number = λ p h. leaf_counts nodes f x p once (all x tilts.there) (all p h) in
    let l = sum_same (λ (p : Part). p.left * holds nodes f t p.number) (λ (p : Part). p.left * only x.number p.number) ps (λ p h. ap (λ n. p.left * n) (same p h)) in
    let r = sum_same (λ (p : Part). p.right * holds nodes f t p.number) (λ (p : Part). p.right * only x.number p.number) ps (λ p h. ap (λ n. p.right * n) (same p h)) in
    tilts.differs (sym l ∙ balance t ∙ r)

pub out_weighs : {E : Type 0} (r : Result Bool E) (nodes : List Tree) (f : ℕ) (ps : List Part) → IsOnce nodes → AreLeafParts nodes f ps
    → IfOk r (λ b. OnTrue b (BalancesOut ps)) → IfOk r (λ b. OnFalse b (Tilts ps)) → IfOk r (λ b. IsTrue b ↔ Balances nodes f ps)
out_weighs (Ok true) nodes f ps once all even tilts = ((λ yes t. even (holds nodes f t)), (λ h. refl))
out_weighs (Ok false) nodes f ps once all even tilts = ((λ never. absurd (cc)), (λ h. absurd (leaves_tilt nodes f ps once all tilts h)))
out_weighs (Err e) nodes f ps once all even tilts = even
