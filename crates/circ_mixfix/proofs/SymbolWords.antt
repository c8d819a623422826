-- What spells an operator has a word.
use Rattle.std.proofs.Common.{◌≡◌, ◌≤◌, ◌<◌, ◌+◌, ◌++◌, ℕ, List, [], ◌∷◌, length, Bool, true, false, ◌==◌, ◌||◌, None, Some, sym, ◌∙◌, ap, refl, arith}
use Rattle.std.specs.Prelude.{if◌then◌else◌}
use Rattle.std.specs.List.{list_any}
use Rattle.std.proofs.lemmas.Bool.{eqb-true}
use Rattle.std.proofs.lemmas.List.Sums.{sum_by-cons}
use Rattle.circ_spelling.specs.declared.grammar.Symbol as chart_symbol
use Rattle.circ_spelling.specs.declared.grammar.Symbol.TheVariants as chart
use Rattle.circ_spelling.specs.Words.{words}
use Rattle.circ_form.specs.declared.forms.Piece.{Piece}
use Rattle.circ_form.specs.declared.forms.Piece.TheVariants as piece
use Rattle.circ_form.specs.declared.forms.FormFault.TheVariants.{NoWord, BadWord}
use Rattle.circ_theory.specs.declared.parts.Side.{Side}
use Rattle.circ_theory.specs.Signature.{Signature, Operator}
use Rattle.circ_form.specs.Form.{IsForm, is_word, is_bad_piece, pieces_of, text_of}
use Rattle.circ_form.specs.Form.{is_hole_piece, hole_count}
use Rattle.circ_theory.specs.Operators.{IsOperator, form_fits}
use Rattle.circ_mixfix.specs.Symbols.{Symbol, Word, Hole, inner_symbols, form_symbols, arguments, symbols_of}
use Rattle.circ_mixfix.specs.Coding.{AreSymbols}

abbrev AnyWord : List Symbol → Type 0
AnyWord [] = ⊥
AnyWord (Word w ∷ ps) = Unit {0}
AnyWord (Hole s b ∷ ps) = AnyWord ps

any_append : (ps qs : List Symbol) → AnyWord ps → AnyWord (ps ++ qs)
any_append [] qs h = absurd h
any_append (Word w ∷ ps) qs h = tt
any_append (Hole s b ∷ ps) qs h = any_append ps qs h

chart_words : (ws : List (List ℕ)) (ps : List Symbol) (cs : List chart_symbol.Symbol) → AreSymbols ws ps cs → AnyWord ps → 0 < words cs
chart_words ws [] cs a h = absurd h
chart_words ws (p ∷ ps) [] a h = absurd a
chart_words ws (Word w ∷ ps) (chart.Word n ∷ cs) a h = omega arith
chart_words ws (Word w ∷ ps) (chart.Hole s b ∷ cs) a h = absurd a.0
chart_words ws (Hole s b ∷ ps) (chart.Word n ∷ cs) a h = absurd a.0
chart_words ws (Hole s b ∷ ps) (chart.Hole t c ∷ cs) a h = chart_words ws ps cs a.1 h

pub one_more : (ps : List Piece) → hole_count (piece.Hole ∷ ps) ≡ 1 + hole_count ps
one_more ps = sum_by-cons (λ x. if is_hole_piece x then 1 else 0) piece.Hole ps

-- as many holes as sorts, or fewer
inner_words : (p : ℕ) (side : Side) (ps : List Piece) (ss : List ℕ) → list_any is_word ps ≡ true → hole_count ps ≤ length ss → AnyWord (inner_symbols p side ps ss)
inner_words p side [] ss h l = absurd (cc)
inner_words p side (piece.Word w ∷ ps) ss h l = tt
inner_words p side (piece.Hole ∷ ps) [] h l = let e = one_more ps in absurd (omega arith)
inner_words p side (piece.Hole ∷ ps) (s ∷ ss) h l = let e = one_more ps in inner_words p side ps ss h (omega arith)

form_words : (p : ℕ) (side : Side) (ps : List Piece) (ss : List ℕ) → list_any is_word ps ≡ true → hole_count ps ≤ length ss → AnyWord (form_symbols p side ps ss)
form_words p side [] ss h l = absurd (cc)
form_words p side (piece.Word w ∷ ps) ss h l = tt
form_words p side (piece.Hole ∷ ps) [] h l = let e = one_more ps in absurd (omega arith)
form_words p side (piece.Hole ∷ ps) (s ∷ ss) h l = let e = one_more ps in inner_words p side ps ss h (omega arith)

pub no_holes : (ps : List Piece) → list_any is_hole_piece ps ≡ false → hole_count ps ≡ 0
no_holes [] h = refl
no_holes (piece.Hole ∷ ps) h = absurd (cc)
no_holes (piece.Word w ∷ ps) h = no_holes ps h

pub some_hole : (ps : List Piece) → list_any is_hole_piece ps ≡ true → 0 < hole_count ps
some_hole [] h = absurd (cc)
some_hole (piece.Hole ∷ ps) h = let e = one_more ps in omega arith
some_hole (piece.Word w ∷ ps) h = some_hole ps h

pub form_word : (ps : List Piece) → IsForm ps → list_any is_word ps ≡ true
form_word ps f = go (list_any is_word (pieces_of (text_of ps))) refl f.sound
  where
    go : (b : Bool) → list_any is_word (pieces_of (text_of ps)) ≡ b
        → (if list_any is_word (pieces_of (text_of ps)) then (if list_any is_bad_piece (pieces_of (text_of ps)) then Some BadWord else None) else Some NoWord) ≡ None → list_any is_word ps ≡ true
    go true e n = ap (list_any is_word) (sym f.cut) ∙ e
    go false e n = absurd (let z = rw e at n in cc z)

pub fits : (o : Operator) → form_fits o ≡ true → 0 < hole_count o.form → hole_count o.form ≡ length o.args
fits o e l = go (hole_count o.form == 0) refl e
  where
    go : (b : Bool) → (hole_count o.form == 0) ≡ b → ((hole_count o.form == 0) || (hole_count o.form == length o.args)) ≡ true → hole_count o.form ≡ length o.args
    go true q h = absurd (let z = eqb-true (hole_count o.form) 0 q in omega arith)
    go false q h = eqb-true (hole_count o.form) (length o.args) (rw q at h)

operator_words : (sig : Signature) (o : Operator) → IsOperator sig o → AnyWord (symbols_of o)
operator_words sig o h = go (list_any is_hole_piece o.form) refl
  where
    word : list_any is_word o.form ≡ true
    word = form_word o.form h.is_form

    go : (b : Bool) → list_any is_hole_piece o.form ≡ b → AnyWord (symbols_of o)
    go true e = rw e (let n = fits o h.fits (some_hole o.form e) in form_words o.prec o.side o.form o.args word (omega arith))
    go false e = rw e (let n = no_holes o.form e in any_append (inner_symbols 0 o.side o.form []) (arguments o.args) (inner_words 0 o.side o.form [] word (omega arith)))

-- so has its rule
pub rule_words : (sig : Signature) (ws : List (List ℕ)) (o : Operator) (cs : List chart_symbol.Symbol) → IsOperator sig o → AreSymbols ws (symbols_of o) cs → 0 < words cs
rule_words sig ws o cs h a = chart_words ws (symbols_of o) cs a (operator_words sig o h)
