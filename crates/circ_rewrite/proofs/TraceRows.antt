-- What contracts see of a trace whose conditions' passes lie in a vector.
use Rattle.std.proofs.Common.{◌≡◌, ap, ◌∙◌, sym, refl, Vec, Global, map}
use mathlib.Core.Former.{Count}
use Rattle.circ_term.specs.Tree.{Tree}
use Rattle.circ_rewrite.specs.Replacement.{By_rule, more_traces, more_passes, trace_row}
use Rattle.circ_rewrite.specs.Plain.{plain_trace, plain_trace_row, plain_pass_row, plain_passes}
use Rattle.circ_rewrite.specs.declared.parts.RuleName.{RuleName}
use Rattle.circ_rewrite.specs.declared.parts.Trace.{Trace, Rewrite, Rewrite', Assumed, Content, Row_of-Trace, end_of-Trace, more_of-Trace}
use Rattle.circ_rewrite.specs.declared.parts.Trace.{Row_of-Pass, end_of-Pass, more_of-Pass}
use Rattle.circ_rewrite.specs.declared.parts.Trace.{items-the_row-Trace, items-the_row-Pass, items_shown-the_row-Trace-0, items_hidden-the_row-Pass-1}
use Rattle.circ_rewrite.specs.declared.parts.Pass.{Pass}

traces_plain : (m : _) (row : Row_of-Trace m) → plain_trace_row row ≡ trace_row (map plain_trace (items-the_row-Trace m row))
traces_plain m end_of-Trace = refl
traces_plain m (more_of-Trace trace rest) = ap (more_traces (plain_trace trace).path (plain_trace trace).reason) (traces_plain _ rest)

passes_plain : (m : _) (row : Row_of-Pass m) → plain_pass_row row ≡ plain_passes (items-the_row-Pass m row)
passes_plain m end_of-Pass = refl
passes_plain m (more_of-Pass shape left shape_right right rest) = λ i.
    more_passes
    ((traces_plain _ left ∙ sym (ap (λ ts. trace_row (map plain_trace ts)) (items_shown-the_row-Trace-0 shape left))) i)
    ((traces_plain _ right ∙ sym (ap (λ ts. trace_row (map plain_trace ts)) (items_shown-the_row-Trace-0 shape_right right))) i)
    (passes_plain _ rest i)

abbrev row_in : Trace → (n : Count) × Row_of-Pass n
row_in (Rewrite' name path terms shape row) = (_, row)
row_in (Assumed number path) = (_, end_of-Pass)
row_in (Content op path term) = (_, end_of-Pass)

pub rewrite_plain : (name : RuleName) (path : _) (terms : Vec Tree Global) (conds : Vec Pass Global)
    → plain_trace (Rewrite name path terms conds) ≡ record { path = path.items; reason = By_rule name terms.items (plain_passes conds.items) }
rewrite_plain name path terms conds =
    let row = row_in (Rewrite name path terms conds) in
    ap (λ ps. record { path = path.items; reason = By_rule name terms.items ps })
    (passes_plain row.0 row.1 ∙ ap plain_passes (items_hidden-the_row-Pass-1 conds))
