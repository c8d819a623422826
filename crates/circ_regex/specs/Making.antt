-- How LANG is made: its operators by a table, its terms by texts in which each operator stands before its arguments.
use Rattle.std.specs.Prelude.{ℕ, List, [], ◌∷◌, ◌==◌, if◌then◌else◌, codes, length, map, find, Option, Some, None}
use Rattle.std.specs.Option.{option_and_then}
use Rattle.circ_term.specs.Tree.{Tree}
use Rattle.circ_form.specs.Form.{pieces_of}
use Rattle.circ_theory.specs.Goal.{Equation}
use Rattle.circ_theory.specs.Signature.{Operator}
use Rattle.circ_theory.specs.Theory.{Theory}
use Rattle.circ_theory.specs.Adding.{with_sort, with_var, with_op, with_equation}
use Rattle.circ_theory.specs.Observing.{with_derivative, with_cases}
use Rattle.circ_regex.specs.declared.terms.OpRow.{OpRow}
use Rattle.circ_regex.specs.Lang.{on_none, on_term, on_terms, bit_sort, lang_sort, bit_var, lang_var, rule_with, acc_term, da_term, db_term, lang_ops, lang_operator}
use Rattle.circ_regex.specs.Lang.{bit_equations, unit_equations, acc_equations, da_equations, db_equations}

-- the operator that a row of the table declares
abbrev pub row_operator : OpRow → Operator
row_operator r = record {
  form = pieces_of r.form.now;
  args = r.args.now;
  result = r.result;
  prec = r.prec;
  side = r.side;
  assoc = r.marked;
  comm = r.marked;
  idem = r.marked;
}

-- the operator on the topmost terms of a stack, whose top is the front
abbrev pub put_none : (op sort : ℕ) → List Tree → Option (List Tree)
put_none f s ts = Some (on_none f s ∷ ts)

abbrev pub put_one : (op sort : ℕ) → List Tree → Option (List Tree)
put_one f s [] = None
put_one f s (t ∷ ts) = Some (on_term f s t ∷ ts)

abbrev pub put_two : (op sort : ℕ) → List Tree → Option (List Tree)
put_two f s [] = None
put_two f s (t ∷ []) = None
put_two f s (t ∷ u ∷ ts) = Some (on_terms f s t u ∷ ts)

abbrev pub put_op : (arity op sort : ℕ) → List Tree → Option (List Tree)
put_op n f s ts = if n == 0 then put_none f s ts else if n == 1 then put_one f s ts else put_two f s ts

abbrev pub put_row : OpRow → List Tree → Option (List Tree)
put_row r ts = put_op (length r.args.now) r.op r.result ts

-- x is variable 0 of sort Bit, r and s are variables 0 and 1 of sort Lang
abbrev pub coded_var : ℕ → Option Tree
coded_var k =
    if k == 120 then Some (bit_var 0) else if k == 114 then Some (lang_var 0) else if k == 115 then Some (lang_var 1) else None

-- what a byte puts on the stack: a variable, or the operator whose row has the byte
abbrev pub put_coded_op : List OpRow → ℕ → List Tree → Option (List Tree)
put_coded_op rows k ts = option_and_then (λ r. put_row r ts) (find (λ r. k == r.code) rows)

abbrev pub put_coded : Option Tree → List OpRow → ℕ → List Tree → Option (List Tree)
put_coded None rows k ts = put_coded_op rows k ts
put_coded (Some t) rows k ts = Some (t ∷ ts)

abbrev pub put_byte : List OpRow → ℕ → List Tree → Option (List Tree)
put_byte rows k ts = put_coded (coded_var k) rows k ts

-- the terms of a text
abbrev pub coded_terms : List OpRow → List ℕ → Option (List Tree)
coded_terms rows [] = Some []
coded_terms rows (k ∷ ks) = option_and_then (put_byte rows k) (coded_terms rows ks)

-- the theory with more operators
abbrev pub with_ops : Theory → List Operator → Theory
with_ops th [] = th
with_ops th (o ∷ os) = with_ops (with_op th o) os

-- the theory with more equations, whose sides stand one after another
abbrev pub with_rules : Theory → List Tree → Theory
with_rules th [] = th
with_rules th (t ∷ []) = th
with_rules th (t ∷ u ∷ ts) = with_rules (with_equation th (rule_with t u)) ts

abbrev pub equation_sides : List Equation → List Tree
equation_sides [] = []
equation_sides (e ∷ es) = e.left ∷ e.right ∷ equation_sides es

-- The parts of LANG, kind by kind. What a theory holds already stays before them.
unfoldable pub with_lang_sorts : Theory → Theory
with_lang_sorts th =
    with_var (with_var (with_var (with_sort (with_sort th (codes "Bit")) (codes "Lang")) (codes "X") bit_sort) (codes "R") lang_sort) (codes "S") lang_sort

unfoldable pub with_lang_ops : Theory → Theory
with_lang_ops th = with_ops th (map lang_operator lang_ops)

unfoldable pub with_lang_observers : Theory → Theory
with_lang_observers th =
    with_cases (with_derivative (with_derivative (with_derivative th (acc_term (lang_var 0))) (da_term (lang_var 0))) (db_term (lang_var 0))) bit_sort (0 ∷ 1 ∷ [])

abbrev pub with_group : Theory → List Equation → Theory
with_group th es = with_rules th (equation_sides es)

unfoldable pub with_lang_equations : Theory → Theory
with_lang_equations th =
    with_group (with_group (with_group (with_group (with_group th bit_equations) unit_equations) acc_equations) da_equations) db_equations

abbrev pub with_lang_parts : Theory → Theory
with_lang_parts th = with_lang_equations (with_lang_observers (with_lang_ops (with_lang_sorts th)))
