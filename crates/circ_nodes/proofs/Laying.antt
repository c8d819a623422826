-- The rows of terms in memory: one more, or the first alone.
use Rattle.std.specs.Prelude.{◌≡◌, ℕ, zero, suc, ◌+◌, ◌-◌, ◌≤◌, List, [], ◌∷◌, ◌++◌, length, map, take, drop, Some, refl}
use Rattle.std.specs.List.{slice_get}
use Rattle.std.proofs.Common.{ap, sym, subst, ◌∙◌, arith}
use Rattle.std.proofs.lemmas.List.{take_all, take-append-le, drop-append-le, length-drop, drop_at, length-take}
use Rattle.std.proofs.lemmas.Option.{same_Some}
use Rattle.circ_nodes.specs.declared.rows.Row.{Row}
use Rattle.circ_nodes.specs.Rows.{root_of, row_args, row_weight, roots_from, begin_of, AreLaid}

pub length_roots : (args : List ℕ) (start : ℕ) (rows : List Row) → length (roots_from args start rows) ≡ length rows
length_roots args start [] = refl
length_roots args start (r ∷ rs) = ap suc (length_roots args r.end rs)

pub length_weights : (rows : List Row) → length (map row_weight rows) ≡ length rows
length_weights [] = refl
length_weights (r ∷ rs) = ap suc (length_weights rs)

-- where rows begin and end

pub laid_ahead : (start : ℕ) (rows : List Row) (last : ℕ) → AreLaid start rows last → start ≤ last
laid_ahead start [] last h = omega (arith, h)
laid_ahead start (r ∷ rs) last h = let k = laid_ahead r.end rs last h.1 in let b = h.0 in omega (arith, k, b)

pub laid_at : (start : ℕ) (rows : List Row) (last n : ℕ) (r : Row) → AreLaid start rows last → slice_get rows n ≡ Some r → (begin_of start rows n ≤ r.end) × (r.end ≤ last)
laid_at start [] last n r h e = absurd (cc)
laid_at start (q ∷ rows) last zero r h e =
    let P : Row → Type 0 = λ x. (start ≤ x.end) × (x.end ≤ last) in subst P (same_Some q r e) (h.0, laid_ahead q.end rows last h.1)
laid_at start (q ∷ rows) last (suc n) r h e = laid_at q.end rows last n r h.1 e

pub begin_after : (start : ℕ) (rows : List Row) (n : ℕ) (r : Row) → slice_get rows n ≡ Some r → begin_of start rows (suc n) ≡ r.end
begin_after start [] n r e = absurd (cc)
begin_after start (q ∷ []) zero r e = ap (λ x. x.end) (same_Some q r e)
begin_after start (q ∷ p ∷ rows) zero r e = ap (λ x. x.end) (same_Some q r e)
begin_after start (q ∷ rows) (suc n) r e = begin_after q.end rows n r e

pub begin_zero : (start : ℕ) (rows : List Row) → begin_of start rows 0 ≡ start
begin_zero start [] = refl
begin_zero start (r ∷ rows) = refl

-- a root among the others
pub roots_at : (args : List ℕ) (start : ℕ) (rows : List Row) (n : ℕ) (r : Row) → slice_get rows n ≡ Some r
    → slice_get (roots_from args start rows) n ≡ Some (root_of r (row_args args (begin_of start rows n) r))
roots_at args start [] n r e = absurd (cc)
roots_at args start (q ∷ rows) zero r e = ap (λ x. Some (root_of x (row_args args start x))) (same_Some q r e)
roots_at args start (q ∷ rows) (suc n) r e = roots_at args q.end rows n r e

-- a row more

args_longer : (args extra : List ℕ) (s e : ℕ) → s ≤ e → e ≤ length args → take (e - s) (drop s (args ++ extra)) ≡ take (e - s) (drop s args)
args_longer args extra s e a b =
    ap (take (e - s)) (drop-append-le s args extra (omega arith)) ∙ take-append-le (e - s) (drop s args) extra (let d = length-drop s args in omega (arith, d, a, b))

args_last : (args ns : List ℕ) (e : ℕ) → e ≡ length args + length ns → take (e - length args) (drop (length args) (args ++ ns)) ≡ ns
args_last args ns e h = ap (take (e - length args)) (drop_at args ns (length args) refl) ∙ take_all (e - length args) ns (omega (arith, h))

pub roots_push : (args ns : List ℕ) (start : ℕ) (rows : List Row) (r : Row) → AreLaid start rows (length args) → r.end ≡ length args + length ns
    → roots_from (args ++ ns) start (rows ++ r ∷ []) ≡ roots_from args start rows ++ root_of r ns ∷ []
roots_push args ns start [] r h e =
    ap (λ s. root_of r (row_args (args ++ ns) s r) ∷ []) h ∙ ap (λ xs. root_of r xs ∷ []) (args_last args ns r.end e)
roots_push args ns start (q ∷ rows) r h e =
    ap (λ xs. root_of q xs ∷ roots_from (args ++ ns) q.end (rows ++ r ∷ [])) (args_longer args ns start q.end h.0 (laid_ahead q.end rows (length args) h.1))
    ∙ ap (λ ps. root_of q (row_args args start q) ∷ ps) (roots_push args ns q.end rows r h.1 e)

pub laid_push : (start : ℕ) (rows : List Row) (r : Row) (last more : ℕ) → AreLaid start rows last → r.end ≡ more → last ≤ more → AreLaid start (rows ++ r ∷ []) more
laid_push start [] r last more h e b = (omega (arith, h, e, b), e)
laid_push start (q ∷ rows) r last more h e b = (h.0, laid_push q.end rows r last more h.1 e b)

-- the first rows alone

begin_ahead : (start : ℕ) (rows : List Row) (last c : ℕ) → AreLaid start rows last → (start ≤ begin_of start rows c) × (begin_of start rows c ≤ last)
begin_ahead start [] last c h = (omega arith, omega (arith, h))
begin_ahead start (r ∷ rs) last zero h = (omega arith, laid_ahead start (r ∷ rs) last h)
begin_ahead start (r ∷ rs) last (suc c) h =
    let k = begin_ahead r.end rs last c h.1 in
    let low = k.0 in
    let b = h.0 in (omega (arith, low, b), k.1)

args_shorter : (args : List ℕ) (s e c : ℕ) → s ≤ e → e ≤ c → c ≤ length args → take (e - s) (drop s (take c args)) ≡ take (e - s) (drop s args)
args_shorter args s e c a b d =
    let long : length (take c args) ≡ c = length-take c args ∙ omega (arith, d) in
    sym (args_longer (take c args) (drop c args) s e a (omega (arith, b, long))) ∙ ap (λ xs. take (e - s) (drop s xs)) (take-drop c args)
  where
    take-drop : (n : ℕ) (xs : List ℕ) → take n xs ++ drop n xs ≡ xs
    take-drop zero [] = refl
    take-drop (suc n) [] = refl
    take-drop zero (x ∷ xs) = refl
    take-drop (suc n) (x ∷ xs) = ap (λ ys. x ∷ ys) (take-drop n xs)

-- arguments behind those of the rows are no matter
roots_less : (args : List ℕ) (start : ℕ) (rows : List Row) (last : ℕ) → AreLaid start rows last → last ≤ length args → roots_from (take last args) start rows ≡ roots_from args start rows
roots_less args start [] last h b = refl
roots_less args start (r ∷ rs) last h b =
    ap (λ xs. root_of r xs ∷ roots_from (take last args) r.end rs) (args_shorter args start r.end last h.0 (laid_ahead r.end rs last h.1) b)
    ∙ ap (λ ps. root_of r (row_args args start r) ∷ ps) (roots_less args r.end rs last h.1 b)

pub laid_cut : (start : ℕ) (rows : List Row) (last c : ℕ) → AreLaid start rows last → AreLaid start (take c rows) (begin_of start rows c)
laid_cut start [] last zero h = refl
laid_cut start [] last (suc c) h = refl
laid_cut start (r ∷ rs) last zero h = refl
laid_cut start (r ∷ rs) last (suc c) h = (h.0, laid_cut r.end rs last c h.1)

roots_take : (args : List ℕ) (start : ℕ) (rows : List Row) (c : ℕ) → roots_from args start (take c rows) ≡ take c (roots_from args start rows)
roots_take args start [] zero = refl
roots_take args start [] (suc c) = refl
roots_take args start (r ∷ rs) zero = refl
roots_take args start (r ∷ rs) (suc c) = ap (λ ps. root_of r (row_args args start r) ∷ ps) (roots_take args r.end rs c)

pub roots_cut : (args : List ℕ) (rows : List Row) (c : ℕ) → AreLaid 0 rows (length args)
    → roots_from (take (begin_of 0 rows c) args) 0 (take c rows) ≡ take c (roots_from args 0 rows)
roots_cut args rows c h =
    let b = (begin_ahead 0 rows (length args) c h).1 in
    roots_less args 0 (take c rows) (begin_of 0 rows c) (laid_cut 0 rows (length args) c h) b ∙ roots_take args 0 rows c

-- where the arguments end that are left
pub laid_left : (args : List ℕ) (rows : List Row) (c : ℕ) → AreLaid 0 rows (length args) → AreLaid 0 (take c rows) (length (take (begin_of 0 rows c) args))
laid_left args rows c h =
    let b = (begin_ahead 0 rows (length args) c h).1 in
    let e : begin_of 0 rows c ≡ length (take (begin_of 0 rows c) args) = sym (length-take (begin_of 0 rows c) args ∙ omega (arith, b)) in
    let P : ℕ → Type 0 = λ n. AreLaid 0 (take c rows) n in
    subst P e (laid_cut 0 rows (length args) c h)
