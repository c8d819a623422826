use Rattle.std.proofs.Common.{◌≡◌, ◌⊎◌, inl, inr, ◌<◌, ℕ, zero, suc, List, [], ◌∷◌, refl, ap, sym, subst, ◌∙◌, arith, codes}
use Rattle.std.specs.List.{Contains}
use Rattle.circ_form.specs.declared.forms.Piece.TheVariants.{Word}
use Rattle.circ_theory.specs.Signature.{Operator}
use Rattle.circ_theory.specs.Names.{AreDifferent}
use Rattle.circ_theory.specs.Operators.{IsOperator, AreDifferentOperators}
use Rattle.circ_mixfix.specs.PrintedExamples.{plus, call, sums}
use Rattle.circ_mixfix.specs.OwnWords.{HolesApart}
use Rattle.circ_mixfix.proofs.PrintedSums.{sums_printable}
use Rattle.circ_mixfix.proofs.print_laws.sums_are_read_back.Goals as goal

either : (o : Operator) → Contains sums.ops o → (plus ≡ o) ⊎ (call ≡ o)
either o (zero, h, e) = inl e
either o (suc zero, h, e) = inr e
either o (suc (suc k), h, e) = absurd (omega arith)

plus_word : (w : List ℕ) → Contains plus.form (Word w) → codes "+" ≡ w
plus_word w (zero, h, e) = absurd (cc)
plus_word w (suc zero, h, e) = cc
plus_word w (suc (suc zero), h, e) = absurd (cc)
plus_word w (suc (suc (suc k)), h, e) = absurd (omega arith)

call_word : (w : List ℕ) → Contains call.form (Word w) → codes "f" ≡ w
call_word w (zero, h, e) = cc
call_word w (suc k, h, e) = absurd (omega arith)

differ : (w : List ℕ) → codes "+" ≡ w → codes "f" ≡ w → ⊥
differ w a b = absurd (let z : codes "+" ≡ codes "f" = a ∙ sym b in cc)

own : (o p : Operator) (w : List ℕ) → Contains sums.ops o → Contains sums.ops p → Contains o.form (Word w) → Contains p.form (Word w) → o.form ≡ p.form
own o p w a b c d = go (either o a) (either p b)
  where
    in_form : (x : Operator) → x ≡ o → Contains x.form (Word w)
    in_form x e = subst (λ (y : Operator). Contains y.form (Word w)) (sym e) c

    in_other : (x : Operator) → x ≡ p → Contains x.form (Word w)
    in_other x e = subst (λ (y : Operator). Contains y.form (Word w)) (sym e) d

    go : ((plus ≡ o) ⊎ (call ≡ o)) → ((plus ≡ p) ⊎ (call ≡ p)) → o.form ≡ p.form
    go (inl e) (inl f) = ap (λ (x : Operator). x.form) (sym e ∙ f)
    go (inl e) (inr f) = absurd (differ w (plus_word w (in_form plus e)) (call_word w (in_other call f)))
    go (inr e) (inl f) = absurd (differ w (plus_word w (in_other plus f)) (call_word w (in_form call e)))
    go (inr e) (inr f) = ap (λ (x : Operator). x.form) (sym e ∙ f)

apart : (o : Operator) → Contains sums.ops o → HolesApart o.form
apart o c = go (either o c)
  where
    go : ((plus ≡ o) ⊎ (call ≡ o)) → HolesApart o.form
    go (inl e) = subst (λ (x : Operator). HolesApart x.form) e tt
    go (inr e) = subst (λ (x : Operator). HolesApart x.form) e tt

zeros : (s : ℕ) → Contains (0 ∷ 0 ∷ []) s → s < 1
zeros s (zero, h, e) = omega (arith, e)
zeros s (suc zero, h, e) = omega (arith, e)
zeros s (suc (suc k), h, e) = absurd (omega arith)

operators : (o : Operator) → Contains sums.ops o → IsOperator sums o
operators o c = go (either o c)
  where
    go : ((plus ≡ o) ⊎ (call ≡ o)) → IsOperator sums o
    go (inl e) = subst (IsOperator sums) e (record { is_form = record { cut = refl; sound = refl }; args = zeros; result = omega arith; few = omega arith; fits = refl; marked = λ m. absurd (cc) })
    go (inr e) = subst (IsOperator sums) e (record { is_form = record { cut = refl; sound = refl }; args = zeros; result = omega arith; few = omega arith; fits = refl; marked = λ m. absurd (cc) })

different : AreDifferentOperators sums.ops
different zero zero o p a b f g = refl
different zero (suc zero) o p a b f g =
    let x : plus ≡ o = cc a in
    let y : call ≡ p = cc b in
    absurd (let z : plus.form ≡ call.form = ap (λ (v : Operator). v.form) x ∙ f ∙ ap (λ (v : Operator). v.form) (sym y) in cc z)
different (suc zero) zero o p a b f g =
    let x : call ≡ o = cc a in
    let y : plus ≡ p = cc b in
    absurd (let z : call.form ≡ plus.form = ap (λ (v : Operator). v.form) x ∙ f ∙ ap (λ (v : Operator). v.form) (sym y) in cc z)
different (suc zero) (suc zero) o p a b f g = refl
different zero (suc (suc n)) o p a b f g = absurd (cc b)
different (suc zero) (suc (suc n)) o p a b f g = absurd (cc b)
different (suc (suc m)) n o p a b f g = absurd (cc a)

sorts : AreDifferent sums.sorts
sorts zero zero w a b = refl
sorts zero (suc n) w a b = absurd (cc b)
sorts (suc m) n w a b = absurd (cc a)

pub returns : goal.returns
returns c = record { printable = sums_printable; words = record { own = own; apart = apart }; operators = operators; different = different; sorts = sorts }
