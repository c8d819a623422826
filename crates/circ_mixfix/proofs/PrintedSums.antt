-- What is printed over the signature of the examples can be read.
use Rattle.std.proofs.Common.{◌≡◌, ℕ, zero, suc, List, [], ◌∷◌, false, refl, subst, arith, codes}
use Rattle.std.specs.List.{Contains}
use Rattle.circ_lexer.specs.Bytes.{begins_comment}
use Rattle.circ_form.specs.declared.forms.Piece.TheVariants.{Word}
use Rattle.circ_theory.specs.Signature.{Operator}
use Rattle.circ_mixfix.specs.Printed.{IsName, IsPrintable, IsPrintableOperator}
use Rattle.circ_mixfix.specs.PrintedExamples.{plus, call, sums}

name : IsName (codes "X")
name = record { some = λ e. cc; plain = refl; no_comment = refl; no_colon = refl; not_reserved = refl }

names : (w : List ℕ) → Contains (codes "X" ∷ []) w → IsName w
names w (zero, h, e) = subst IsName e name
names w (suc k, h, e) = absurd (omega arith)

plus_words : (w : List ℕ) → Contains plus.form (Word w) → begins_comment w ≡ false
plus_words w (zero, h, e) = absurd (cc)
plus_words w (suc zero, h, e) = let same : codes "+" ≡ w = cc in subst (λ (v : List ℕ). begins_comment v ≡ false) same refl
plus_words w (suc (suc zero), h, e) = absurd (cc)
plus_words w (suc (suc (suc k)), h, e) = absurd (omega arith)

call_words : (w : List ℕ) → Contains call.form (Word w) → begins_comment w ≡ false
call_words w (zero, h, e) = let same : codes "f" ≡ w = cc in subst (λ (v : List ℕ). begins_comment v ≡ false) same refl
call_words w (suc k, h, e) = absurd (omega arith)

operators : (o : Operator) → Contains sums.ops o → IsPrintableOperator o
operators o (zero, h, e) = subst IsPrintableOperator e (record { words = plus_words; below = λ z. omega arith; sided = λ z n. omega arith })
operators o (suc zero, h, e) = subst IsPrintableOperator e (record { words = call_words; below = λ z. omega arith; sided = λ z n. absurd (cc) })
operators o (suc (suc k), h, e) = absurd (omega arith)

pub sums_printable : IsPrintable sums
sums_printable = record { sorts = names; ops = operators }
