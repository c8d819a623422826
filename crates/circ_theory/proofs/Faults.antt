-- Why an operator is not added, part by part.
use Rattle.std.proofs.Common.{◌≡◌, ◌<◌, ◌+◌, ℕ, suc, zero, Bool, true, false, not, ◌&&◌, ◌||◌, nat_lt, if◌then◌else◌, List, [], ◌∷◌, ◌++◌, length}
use Rattle.std.proofs.Common.{find, Option, Some, None, refl, ap, sym, ◌∙◌, arith}
use Rattle.std.specs.List.{Contains}
use Rattle.std.specs.Option.{option_map, option_or}
use Rattle.std.specs.Cmp.Lexicographic.{bytes_decides}
use Rattle.std.proofs.lemmas.List.Folds.{find-append}
use Rattle.std.proofs.lemmas.List.Elements.{Contains-push, Contains-append_left}
use Rattle.std.proofs.lemmas.Grind.{common_steps}
use Rattle.circ_theory.specs.declared.fault.TheoryFault.{TheoryFault}
use Rattle.circ_theory.specs.declared.fault.TheoryFault.TheVariants.{Twice, UnknownSort, IllSorted, Limit}
use Rattle.circ_theory.specs.Limits.{argument_limit, operator_limit, variable_limit}
use Rattle.circ_form.specs.Form.{IsForm}
use Rattle.circ_theory.specs.Signature.{Signature, Operator, IsSort}
use Rattle.circ_theory.specs.Theory.{Theory}
use Rattle.circ_theory.specs.Operators.{form_fits, has_mark, is_binary, is_ill_sorted, IsOperator}
use Rattle.circ_theory.specs.Adding.{count_fault, is_no_sort, new_var_fault, unknown_sort, op_number, op_fault}

-- the first fault, from what each test answers
pub op_fault_by : (th : Theory) (o : Operator) (a b : Option ℕ) (v w : Bool) (f : Option TheoryFault)
    → a ≡ op_number th.signature o → b ≡ unknown_sort th.signature o → v ≡ is_ill_sorted o → w ≡ nat_lt argument_limit (length o.args) → f ≡ count_fault operator_limit (length th.signature.ops)
    → option_or (option_map Twice a) (option_or (option_map UnknownSort b) (option_or (if v then Some (IllSorted (length th.signature.ops)) else None) (option_or (if w then Some (Limit (length o.args)) else None) f)))
    ≡ op_fault th o
op_fault_by th o a b v w f p q r s t = λ i. option_or (option_map Twice (p i)) (option_or (option_map UnknownSort (q i)) (option_or (if r i then Some (IllSorted (length th.signature.ops)) else None) (option_or (if s i then Some (Limit (length o.args)) else None) (t i))))

pub unknown_by : (sig : Signature) (o : Operator) (count : ℕ) (x : Option ℕ) → count ≡ length sig.sorts → x ≡ find (λ s. not (nat_lt s count)) o.args
    → option_or x (if nat_lt o.result count then None else Some o.result) ≡ unknown_sort sig o
unknown_by sig o count x e f =
    (λ i. option_or (f i) (if nat_lt o.result count then None else Some o.result))
    ∙ (λ i. option_or (find (λ s. not (nat_lt s (e i))) o.args) (if nat_lt o.result (e i) then None else Some o.result))
    ∙ ap (option_or (find (is_no_sort sig) o.args)) (last (nat_lt o.result (length sig.sorts)))
    ∙ sym (find-append (is_no_sort sig) o.args (o.result ∷ []))
  where
    last : (b : Bool) → (if b then None else Some o.result) ≡ (if not b then Some o.result else None)
    last true = refl
    last false = refl

pub option_or_none : {X : Type 0} (a b : Option X) → option_or a b ≡ None → (a ≡ None) × (b ≡ None)
option_or_none (Some x) b e = absurd (cc)
option_or_none None b e = (refl, e)

pub option_map_none : {X Y : Type 0} (f : X → Y) (o : Option X) → option_map f o ≡ None → o ≡ None
option_map_none f None e = refl
option_map_none f (Some x) e = absurd (cc)

pub only_if : {X : Type 0} (b : Bool) (x : X) → (if b then Some x else None) ≡ None → b ≡ false
only_if true x e = absurd (cc)
only_if false x e = refl

-- there is room for one more
pub room_left : (most count : ℕ) → count_fault most count ≡ None → count < most
room_left most count e = let full : nat_lt most (count + 1) ≡ false = only_if (nat_lt most (count + 1)) (Limit (count + 1)) e in grind (arith, common_steps)

pub find_none : {X : Type 0} (p : X → Bool) (xs : List X) (x : X) → find p xs ≡ None → Contains xs x → p x ≡ false
find_none p [] x e c = absurd (omega (arith, c.1))
find_none p (y ∷ ys) x e c = go (p y) refl (λ f d. find_none p ys x f d) c
  where
    go : (b : Bool) → p y ≡ b → (find p ys ≡ None → Contains ys x → p x ≡ false) → Contains (y ∷ ys) x → p x ≡ false
    go true f ih c = absurd (let z = rw f at e in cc)
    go false f ih (zero, h, g) = ap p (sym g) ∙ f
    go false f ih (suc k, h, g) = ih (rw f at e) (k, omega arith, g)

pub not_false : (b : Bool) → not b ≡ false → b ≡ true
not_false true e = refl
not_false false e = absurd (cc)

pub known_sort : (sig : Signature) (s : ℕ) → is_no_sort sig s ≡ false → IsSort sig s
known_sort sig s e = let below : nat_lt s (length sig.sorts) ≡ true = not_false (nat_lt s (length sig.sorts)) e in grind (arith, common_steps)

fits_by : (o : Operator) → is_ill_sorted o ≡ false → (form_fits o ≡ true) × (has_mark o ≡ true → is_binary o ≡ true)
fits_by o = go (form_fits o) (has_mark o) (is_binary o)
  where
    go : (x y z : Bool) → (not x || (y && not z)) ≡ false → (x ≡ true) × (y ≡ true → z ≡ true)
    go true true true e = (refl, λ _. refl)
    go true true false e = absurd (cc)
    go true false z e = (refl, λ h. absurd (cc))
    go false y z e = absurd (cc)

-- what is true of an operator that may be added
pub record IsNew (th : Theory) (o : Operator) : Type 0 where
  pub number : op_number th.signature o ≡ None
  pub operator : IsOperator th.signature o
  pub room : length th.signature.ops < operator_limit

pub new_operator : (th : Theory) (o : Operator) → IsForm o.form → op_fault th o ≡ None → IsNew th o
new_operator th o is_form e =
    let a = option_or_none (option_map Twice (op_number th.signature o)) _ e in
    let b = option_or_none (option_map UnknownSort (unknown_sort th.signature o)) _ a.1 in
    let c = option_or_none (if is_ill_sorted o then Some (IllSorted (length th.signature.ops)) else None) _ b.1 in
    let d = option_or_none (if nat_lt argument_limit (length o.args) then Some (Limit (length o.args)) else None) _ c.1 in
    let sorts : unknown_sort th.signature o ≡ None = option_map_none UnknownSort (unknown_sort th.signature o) b.0 in
    let few : nat_lt argument_limit (length o.args) ≡ false = only_if (nat_lt argument_limit (length o.args)) (Limit (length o.args)) d.0 in
    let fit = fits_by o (only_if (is_ill_sorted o) (IllSorted (length th.signature.ops)) c.0) in
    record {
      number = option_map_none Twice (op_number th.signature o) a.0;
      operator = record {
        is_form = is_form;
        args = λ s h. known_sort th.signature s (find_none (is_no_sort th.signature) (o.args ++ o.result ∷ []) s sorts (Contains-append_left o.args (o.result ∷ []) s h));
        result = known_sort th.signature o.result (find_none (is_no_sort th.signature) (o.args ++ o.result ∷ []) o.result sorts (Contains-push o.args o.result));
        few = grind (arith, common_steps);
        fits = fit.0;
        marked = λ m. (bytes_decides o.args (o.result ∷ o.result ∷ [])).0 (fit.1 m);
      };
      room = room_left operator_limit (length th.signature.ops) d.1;
    }

-- a new variable without a fault has a sort, and there is room for it
pub new_variable : (th : Theory) (s : ℕ) → new_var_fault th s ≡ None → IsSort th.signature s × (length th.variables < variable_limit)
new_variable th s e =
    let parts = option_or_none (if is_no_sort th.signature s then Some (UnknownSort s) else None) (count_fault variable_limit (length th.variables)) e in
    (known_sort th.signature s (only_if (is_no_sort th.signature s) (UnknownSort s) parts.0), room_left variable_limit (length th.variables) parts.1)
