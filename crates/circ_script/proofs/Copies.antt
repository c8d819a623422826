-- Variables that are listed and declared again, and what is left of a theory beside its variables.
use Rattle.std.proofs.Common.{◌≡◌, ℕ, zero, suc, List, [], ◌∷◌, ◌++◌, length, Bool, true, false, cond, nat_eq, nat_lt, if◌then◌else◌, Some, None}
use Rattle.std.proofs.Common.{is_some, refl, sym, ap, ◌∙◌, subst, append_assoc, drop, ◌≤◌, ◌+◌, add-one, arith}
use Rattle.std.specs.List.{position, position_or_len, slice_get}
use Rattle.std.proofs.lemmas.List.{append-nil}
use Rattle.std.proofs.lemmas.Grind.{common_steps}
use Rattle.std.specs.Cmp.Lexicographic.{pointwise, bytes_decides}
use Rattle.circ_theory.specs.Theory.{Theory, Declared, declared}
use Rattle.circ_theory.specs.Names.{AreDifferent, names_of}
use Rattle.circ_theory.specs.Adding.{var_number, with_var}
use Rattle.circ_mixfix.specs.Answers.{declared_by}
use Rattle.circ_read.specs.Includes.{with_variables}
use Rattle.circ_script.specs.Steps.{IsButVariables}

pub but_itself : (th : Theory) → IsButVariables th th
but_itself th = refl

pub but_then : (th u v : Theory) → IsButVariables th u → IsButVariables u v → IsButVariables th v
but_then th u v h k = k ∙ ap (λ x. with_variables x v.variables) h

pub but_a_variable : (th : Theory) (name : List ℕ) (sort : ℕ) → IsButVariables th (with_var th name sort)
but_a_variable th name sort = go (is_some (var_number th name))
  where
    go : (b : Bool) → IsButVariables th (if b then th else record th { variables = th.variables ++ declared name sort ∷ [] })
    go true = refl
    go false = refl

-- the name that stands behind some others
name_behind : (ds rest : List Declared) (d : Declared) → slice_get (names_of (ds ++ d ∷ rest)) (length ds) ≡ Some d.name
name_behind [] rest d = refl
name_behind (e ∷ ds) rest d = name_behind ds rest d

tail_different : (w : List ℕ) (ws : List (List ℕ)) → AreDifferent (w ∷ ws) → AreDifferent ws
tail_different w ws h = λ m n v a b. let e = h (suc m) (suc n) v a b in omega arith

not_before : (ds rest : List Declared) (d : Declared) → AreDifferent (names_of (ds ++ d ∷ rest))
    → position_or_len (λ e. pointwise nat_eq d.name e.name) ds ≡ length ds
not_before [] rest d h = refl
not_before (e ∷ ds) rest d h = go (pointwise nat_eq d.name e.name) refl (not_before ds rest d (tail_different e.name (names_of (ds ++ d ∷ rest)) h))
  where
    go : (b : Bool) → pointwise nat_eq d.name e.name ≡ b → position_or_len (λ e. pointwise nat_eq d.name e.name) ds ≡ length ds
        → position_or_len (λ e. pointwise nat_eq d.name e.name) (e ∷ ds) ≡ suc (length ds)
    go true t i =
        let q : d.name ≡ e.name = (bytes_decides d.name e.name).0 t in
        let n = h zero (suc (length ds)) e.name refl (name_behind ds rest d ∙ ap (λ x. Some x) q) in
        absurd (omega arith)
    go false t i = rw (t, i) (omega arith)

new_name : (ds rest : List Declared) (d : Declared) → AreDifferent (names_of (ds ++ d ∷ rest)) → position (λ e. pointwise nat_eq d.name e.name) ds ≡ None
new_name ds rest d h = let e = not_before ds rest d h in ap (λ n. cond (nat_lt n (length ds)) (Some n) None) e ∙ grind (arith, common_steps)

-- a variable that is listed behind the declared ones goes behind them
pub declared_next : (th : Theory) (rest : List Declared) (d : Declared) → AreDifferent (names_of (th.variables ++ d ∷ rest))
    → with_var th d.name d.sort ≡ with_variables th (th.variables ++ d ∷ [])
declared_next th rest d h = ap (λ o. if is_some o then th else record th { variables = th.variables ++ declared d.name d.sort ∷ [] })
    (new_name th.variables rest d h)

-- some variables are listed, and the others are left
drop_all : {X : Type 0} (xs : List X) (n : ℕ) → length xs ≤ n → drop n xs ≡ []
drop_all [] zero l = refl
drop_all [] (suc n) l = refl
drop_all (x ∷ xs) zero l = absurd (omega arith)
drop_all (x ∷ xs) (suc n) l = drop_all xs n (omega arith)

drop_next : {X : Type 0} (xs : List X) (n : ℕ) (x : X) → slice_get xs n ≡ Some x → drop n xs ≡ x ∷ drop (suc n) xs
drop_next [] n x e = absurd (cc)
drop_next (y ∷ xs) zero x e = cc
drop_next (y ∷ xs) (suc n) x e = drop_next xs n x e

module _ (listed all : List Declared) (n : ℕ) where
  pub listed_all : length all ≤ n → listed ++ drop n all ≡ all → listed ≡ all
  listed_all l e = sym (append-nil listed) ∙ ap (λ xs. listed ++ xs) (sym (drop_all all n l)) ∙ e

  pub listed_more : (d : Declared) → slice_get all n ≡ Some d → listed ++ drop n all ≡ all → (listed ++ d ∷ []) ++ drop (n + 1) all ≡ all
  listed_more d s e = append_assoc listed (d ∷ []) (drop (n + 1) all) ∙ ap (λ xs. listed ++ xs) (rw add-one (sym (drop_next all n d s))) ∙ e

-- some of a list of variables are declared, and the others are left
module _ (th u : Theory) (listed : List (List ℕ × ℕ)) (n : ℕ) where
  pub none_left : length listed ≤ n → IsButVariables th u → u.variables ++ declared_by (drop n listed) ≡ declared_by listed
      → u ≡ with_variables th (declared_by listed)
  none_left l k e = k ∙ ap (with_variables th) (sym (append-nil u.variables) ∙ ap (λ xs. u.variables ++ declared_by xs) (sym (drop_all listed n l)) ∙ e)

  module _ (v : List ℕ × ℕ) (is : slice_get listed n ≡ Some v) (different : AreDifferent (names_of (declared_by listed)))
      (e : u.variables ++ declared_by (drop n listed) ≡ declared_by listed) where
    here : u.variables ++ declared v.0 v.1 ∷ declared_by (drop (suc n) listed) ≡ declared_by listed
    here = ap (λ xs. u.variables ++ declared_by xs) (sym (drop_next listed n v is)) ∙ e

    next_is : with_var u v.0 v.1 ≡ with_variables u (u.variables ++ declared v.0 v.1 ∷ [])
    next_is = declared_next u (declared_by (drop (suc n) listed)) (declared v.0 v.1) (subst (λ ds. AreDifferent (names_of ds)) (sym here) different)

    pub one_declared : (w : Theory) → w ≡ with_var u v.0 v.1 → w.variables ++ declared_by (drop (n + 1) listed) ≡ declared_by listed
    one_declared w k =
        ap (λ x. x.variables ++ declared_by (drop (n + 1) listed)) (k ∙ next_is)
        ∙ append_assoc u.variables (declared v.0 v.1 ∷ []) (declared_by (drop (n + 1) listed))
        ∙ rw add-one here
