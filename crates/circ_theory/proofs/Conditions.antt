-- Equations with conditions: when one may be added, and the sorts of conditions that are kept.
use Rattle.std.proofs.Common.{◌≡◌, ◌≤◌, ◌<◌, ◌↔◌, ℕ, zero, suc, nat_lt, Bool, true, false, ◌==◌, ◌||◌, nat_eq, List, [], ◌∷◌, ◌++◌, find, length, Some, None}
use Rattle.std.proofs.Common.{refl, ap, sym, ◌∙◌, arith}
use Rattle.std.specs.List.{list_any, Contains}
use Rattle.std.specs.Option.{option_map}
use Rattle.std.proofs.lemmas.Bool.Decides.{nat_tests}
use Rattle.std.proofs.lemmas.List.Folds.{list_any-append}
use Rattle.indexmap.specs.IndexSet.{insert_key}
use Rattle.circ_term.specs.Tree.{sort_of}
use Rattle.circ_theory.specs.declared.fault.TheoryFault.TheVariants.{NotVisible}
use Rattle.circ_pairs.specs.declared.goals.Equation.{Equation}
use Rattle.circ_theory.specs.Limits.{equation_limit, condition_limit}
use Rattle.circ_pairs.specs.Pair.{Pair}
use Rattle.circ_theory.specs.Theory.{Theory, AreConditions, AreWellSortedPairs, HasNoConditions}
use Rattle.circ_theory.specs.Adding.{count_fault, is_hidden, hidden_condition, equation_fault}
use Rattle.circ_pairs.specs.Pair.{has_condition_of}
use Rattle.circ_pairs.specs.Rule.{is_conditional}
use Rattle.circ_theory.proofs.Faults.{option_or_none, option_map_none, find_none, room_left}
use Rattle.circ_theory.proofs.Casing.{hidden_tells, contains_first}
use Rattle.circ_theory.proofs.Weakening.{in_rest}
use Rattle.circ_pairs.proofs.Filling.{any_inserted}
use Rattle.circ_theory.proofs.Observers.{short_by}

-- an equation with these conditions may be added
pub record IsNewEquation (th : Theory) (E : List Pair) : Type 0 where
  pub visible : hidden_condition th E ≡ None
  pub room : length th.equations < equation_limit
  pub few : length E ≤ condition_limit

pub new_equation : (th : Theory) (E : List Pair) → equation_fault th E ≡ None → IsNewEquation th E
new_equation th E e =
    let a = option_or_none (option_map NotVisible (hidden_condition th E)) _ e in
    let b = option_or_none (count_fault equation_limit (length th.equations)) _ a.1 in
    record {
      visible = option_map_none NotVisible (hidden_condition th E) a.0;
      room = room_left equation_limit (length th.equations) b.0;
      few = short_by condition_limit (length E) b.1;
    }

pub visible_conditions : (th : Theory) (E : List Pair) → AreWellSortedPairs th.signature E → hidden_condition th E ≡ None → AreConditions th E
visible_conditions th E sorted none p c =
    let hides = λ (q : Pair). is_hidden th (sort_of q.left) in
    let shown : is_hidden th (sort_of p.left) ≡ false = find_none hides E p (option_map_none (λ q. sort_of q.left) (find hides E) none) c in
    record {
      sorted = sorted p c;
      visible = λ i. let z = rw shown at ((hidden_tells th (sort_of p.left)).1 i) in absurd (cc);
    }

-- the kept sorts after one more
pub kept_insert : (ks : List ℕ) (n m : ℕ) → list_any (nat_eq m) ks ≡ true → list_any (nat_eq m) (insert_key nat_eq ks n) ≡ true
kept_insert ks n m e = any_inserted ks n m ∙ or_right (m == n) e
  where
    or_right : (b : Bool) {c : Bool} → c ≡ true → (b || c) ≡ true
    or_right true e = refl
    or_right false e = e

pub new_insert : (ks : List ℕ) (n m : ℕ) → (m == n) ≡ true → list_any (nat_eq m) (insert_key nat_eq ks n) ≡ true
new_insert ks n m e = any_inserted ks n m ∙ ap (λ b. b || list_any (nat_eq m) ks) e

either_true : (a b : Bool) {C : Type 0} → (a || b) ≡ true → (a ≡ true → C) → (b ≡ true → C) → C
either_true true b e f g = f refl
either_true false b e f g = g e

-- the sorts of the conditions of one equation more
pub conditions_more : (es : List Equation) (e : Equation) (old new : List ℕ) (s : ℕ)
    → (list_any (λ d. has_condition_of s d.conds) es ≡ true → list_any (nat_eq s) old ≡ true)
    → (list_any (nat_eq s) old ≡ true → list_any (nat_eq s) new ≡ true)
    → (has_condition_of s e.conds ≡ true → list_any (nat_eq s) new ≡ true)
    → list_any (λ d. has_condition_of s d.conds) (es ++ e ∷ []) ≡ true → list_any (nat_eq s) new ≡ true
conditions_more es e old new s before more noted h =
    either_true (list_any (λ d. has_condition_of s d.conds) es) (has_condition_of s e.conds || false)
    (sym (list_any-append (λ d. has_condition_of s d.conds) es (e ∷ [])) ∙ h)
    (λ a. more (before a))
    (λ b. noted (sym (or_none (has_condition_of s e.conds)) ∙ b))
  where
    or_none : (b : Bool) → (b || false) ≡ b
    or_none true = refl
    or_none false = refl

-- the first condition of a hidden sort
pub first_hidden : (th : Theory) (p : Pair) (ps : List Pair) (s : ℕ) → s ≡ sort_of p.left → is_hidden th s ≡ true → Some s ≡ hidden_condition th (p ∷ ps)
first_hidden th p ps s e h = let hides : is_hidden th (sort_of p.left) ≡ true = ap (is_hidden th) (sym e) ∙ h in rw hides (ap Some e)

-- a sort that is not kept is no condition's
pub not_kept : (known kept : Bool) → (known ≡ true → kept ≡ true) → kept ≡ false → false ≡ known
not_kept true kept f e = absurd (let z = f refl in cc)
not_kept false kept f e = refl

-- a theory without conditions is one in which no equation has one
no_conds : (E : List Pair) → nat_lt 0 (length E) ≡ false → E ≡ []
no_conds [] e = refl
no_conds (p ∷ ps) e = absurd (grind (arith, nat_tests, e))

any_none : {X : Type 0} (p : X → Bool) (xs : List X) → list_any p xs ≡ false → (x : X) → Contains xs x → p x ≡ false
any_none p [] e x c = absurd (omega (arith, c.1))
any_none p (y ∷ ys) e x c = go (p y) refl (λ f d. any_none p ys f x d) c
  where
    go : (b : Bool) → p y ≡ b → (list_any p ys ≡ false → Contains ys x → p x ≡ false) → Contains (y ∷ ys) x → p x ≡ false
    go true f ih c = absurd (let z = rw f at e in cc)
    go false f ih (zero, h, g) = ap p (sym g) ∙ f
    go false f ih (suc k, h, g) = ih (rw f at e) (k, omega arith, g)

conds_of_none : (es : List Equation) → list_any is_conditional es ≡ false → (e : Equation) → Contains es e → e.conds ≡ []
conds_of_none es none e c = no_conds e.conds (any_none is_conditional es none e c)

none_by : (es : List Equation) → ((e : Equation) → Contains es e → e.conds ≡ []) → list_any is_conditional es ≡ false
none_by [] h = refl
none_by (e ∷ es) h =
    let first : is_conditional e ≡ false = ap (λ E. nat_lt 0 (length E)) (h e (contains_first e es)) in
    ap (λ b. b || list_any is_conditional es) first ∙ none_by es (λ d c. h d (in_rest e d es c))

pub without_conditions : (th : Theory) → (list_any is_conditional th.equations ≡ false) ↔ HasNoConditions th
without_conditions th = (conds_of_none th.equations, none_by th.equations)
