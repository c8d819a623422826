-- Lists that are read from the left, one item more.
use Rattle.std.proofs.Common.{◌≡◌, ◌<◌, ◌+◌, ◌++◌, ℕ, zero, suc, List, [], ◌∷◌, length, map, get_or, drop, Bool, true, false, nat_eq, append_assoc, refl, ap, sym, ◌∙◌, subst, arith}
use Rattle.std.proofs.lemmas.List.{drop_more}
use Rattle.std.specs.Prelude.{if◌then◌else◌}
use Rattle.std.specs.Cmp.Lexicographic.{pointwise}
use Rattle.circ_term.proofs.Within.{drop_read}
use Rattle.circ_spelling.specs.declared.grammar.Rule.{Rule}
use Rattle.circ_spelling.specs.declared.grammar.Symbol as chart_symbol
use Rattle.circ_spelling.specs.declared.grammar.Variable as chart_variable
use Rattle.circ_theory.specs.Signature.{Signature}
use Rattle.circ_mixfix.specs.Symbols.{Symbol}
use Rattle.circ_mixfix.specs.Answers.{declared_by}
use Rattle.circ_mixfix.specs.Variables.{variables_named}
use Rattle.circ_mixfix.specs.Coding.{IsSymbol, AreSymbols, HaveNumbers, AreBelow, AddsRule, AddsRules}

pub next_symbol : {X : Type 0} (g : X → Symbol) (ws : List (List ℕ)) (xs : List X) (i : ℕ) (d : X) (c : chart_symbol.Symbol) (out new : List chart_symbol.Symbol)
    → i < length xs → IsSymbol ws (g (get_or xs i d)) c → new ≡ out ++ c ∷ []
    → ((cs : List chart_symbol.Symbol) → AreSymbols ws (map g (drop i xs)) cs → AreSymbols ws (map g xs) (out ++ cs))
    → (cs : List chart_symbol.Symbol) → AreSymbols ws (map g (drop (i + 1) xs)) cs → AreSymbols ws (map g xs) (new ++ cs)
next_symbol {X} g ws xs i d c out new within is made all cs rest =
    let P : List X → Type 0 = λ ys. AreSymbols ws (map g ys) (c ∷ cs) in
    rw (made, append_assoc) (all (c ∷ cs) (subst P (sym (drop_more xs i d within)) (is, rest)))

pub numbers_rest : {X : Type 0} (g : X → Symbol) (ws : List (List ℕ)) (xs : List X) (i : ℕ) → i < length xs → HaveNumbers ws (map g (drop i xs))
    → HaveNumbers ws (map g (drop (i + 1) xs))
numbers_rest g ws [] i within h = absurd (omega arith)
numbers_rest g ws (x ∷ xs) zero within h = h.1
numbers_rest g ws (x ∷ xs) (suc i) within h = let e : suc i + 1 ≡ suc (i + 1) = omega arith in rw e (numbers_rest g ws xs i (omega arith) h)

pub below_rest : {X : Type 0} (g : X → Symbol) (xs : List X) (i : ℕ) → i < length xs → AreBelow (map g (drop i xs)) → AreBelow (map g (drop (i + 1) xs))
below_rest g [] i within h = absurd (omega arith)
below_rest g (x ∷ xs) zero within h = h.1
below_rest g (x ∷ xs) (suc i) within h = let e : suc i + 1 ≡ suc (i + 1) = omega arith in rw e (below_rest g xs i (omega arith) h)

pub next_rules : (sig : Signature) (ws : List (List ℕ)) (most : ℕ) (least fs : List ℕ) (i d : ℕ) (first old mid : List Rule) → i < length fs → AddsRule sig ws most least (get_or fs i d) old mid
    → ((new : List Rule) → AddsRules sig ws most least (drop i fs) old new → AddsRules sig ws most least fs first new)
    → (new : List Rule) → AddsRules sig ws most least (drop (i + 1) fs) mid new → AddsRules sig ws most least fs first new
next_rules sig ws most least fs i d first old mid within one all new rest =
    let P : List ℕ → Type 0 = λ gs. AddsRules sig ws most least gs old new in all new (subst P (sym (drop_more fs i d within)) (mid, one, rest))

named_split : (v : List ℕ × ℕ) (vs : List (List ℕ × ℕ)) (k : ℕ) (w : List ℕ)
    → variables_named (declared_by (v ∷ vs)) k w ≡ variables_named (declared_by (v ∷ [])) k w ++ variables_named (declared_by vs) k w
named_split v vs k w = go (pointwise nat_eq v.0 w)
  where
    x : chart_variable.Variable
    x = record { word = k; number = k; sort = v.1 }

    go : (b : Bool) → (if b then x ∷ variables_named (declared_by vs) k w else variables_named (declared_by vs) k w)
        ≡ (if b then x ∷ [] else []) ++ variables_named (declared_by vs) k w
    go true = refl
    go false = refl

pub next_named : (vs : List (List ℕ × ℕ)) (i : ℕ) (v : List ℕ × ℕ) (k : ℕ) (w : List ℕ) (first out new : List chart_variable.Variable) → i < length vs → v ≡ get_or vs i v
    → new ≡ out ++ variables_named (declared_by (v ∷ [])) k w → out ++ variables_named (declared_by (drop i vs)) k w ≡ first
    → new ++ variables_named (declared_by (drop (i + 1) vs)) k w ≡ first
next_named vs i v k w first out new within read made all =
    let rest = variables_named (declared_by (drop (i + 1) vs)) k w in
    ap (λ xs. xs ++ rest) made ∙ append_assoc out (variables_named (declared_by (v ∷ [])) k w) rest
    ∙ ap (λ xs. out ++ xs) (sym (named_split v (drop (i + 1) vs) k w))
    ∙ ap (λ us. out ++ variables_named (declared_by us) k w) (sym (drop_read vs i v within read)) ∙ all
