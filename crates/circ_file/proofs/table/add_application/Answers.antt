use Rattle.std.proofs.Common.{◌≡◌, ◌≤◌, true, length, sym, ◌∙◌, ap, arith}
use Rattle.circ_term.specs.Tree.{App, trees_of}
use Rattle.circ_term.specs.Limits.{Big, Deep}
use Rattle.circ_theory.specs.Limits.{argument_limit}
use Rattle.circ_theory.specs.Operators.{operator_of}
use Rattle.circ_theory.specs.Signature.{Operator}
use Rattle.circ_theory.proofs.Rewriting.{contains_at}
use Rattle.circ_proof.specs.Table.{term_limit}
use Rattle.circ_line.specs.Line.{Application_line}
use Rattle.circ_proof_text.specs.TableText.{firsts_at}
use Rattle.circ_file.specs.Adding.{have_sorts}
use Rattle.circ_file.proofs.Firsts.{same_count}
use Rattle.circ_file.proofs.Entering.{is_taken, is_over, is_large}
use Rattle.circ_file.proofs.table.add_application.Goals as goal

pub returns-then-len-ge-MOST_TERMS : goal.returns-then-len-ge-MOST_TERMS
returns-then-len-ge-MOST_TERMS c =
    let sig = c.args.theory.now.signature in
    let table = c.args.rows.now in
    let ns = c.args.args.now in
    let o : Operator = operator_of c.in-Some.decl.now in
    let same : have_sorts (firsts_at table ns) o.args ≡ true
    = ap (have_sorts (firsts_at table ns)) (sym c.as_slice.ensures.value) ∙ sym c.are_args.ensures ∙ c.if-not-are_args.false in
    let term = is_taken sig table c.args.op ns o (sym c.in-Some.ensures) same in
    let full : term_limit ≤ length table = omega (arith, c.if-len-ge-MOST_TERMS.true, c.len.ensures) in
    is_over sig table table (Application_line c.args.op ns) (App c.args.op o.result (trees_of term.0)) term.2 full

pub add_application-requires-clause-few : goal.add_application-requires-clause-few
add_application-requires-clause-few c =
    let table = c.args.rows.now in
    let ns = c.args.args.now in
    let o : Operator = operator_of c.in-Some.decl.now in
    let same : have_sorts (firsts_at table ns) o.args ≡ true
    = ap (have_sorts (firsts_at table ns)) (sym c.as_slice.ensures.value) ∙ sym c.are_args.ensures ∙ c.if-not-are_args.false in
    let few : length o.args ≤ argument_limit
    = (c.known.ensures.operators o (contains_at c.args.theory.now.signature.ops c.args.op o (sym c.in-Some.ensures))).few in
    omega (arith, few, same_count table ns o.args same)

pub returns-in-Err-TooBig : goal.returns-in-Err-TooBig
returns-in-Err-TooBig c =
    let sig = c.args.theory.now.signature in
    let table = c.args.rows.now in
    let ns = c.args.args.now in
    let o : Operator = operator_of c.in-Some.decl.now in
    let same : have_sorts (firsts_at table ns) o.args ≡ true
    = ap (have_sorts (firsts_at table ns)) (sym c.as_slice.ensures.value) ∙ sym c.are_args.ensures ∙ c.if-not-are_args.false in
    let term = is_taken sig table c.args.op ns o (sym c.in-Some.ensures) same in
    let told = rw c.in-Err-TooBig.field-0-is at c.in-Err-TooBig.ensures in
    let over = told term.0 term.1 in
    is_large sig table table (Application_line c.args.op ns) (App c.args.op o.result (trees_of term.0)) term.2 (Big c.in-Err-TooBig.field-0-0) over.1

pub returns-in-Err-TooDeep : goal.returns-in-Err-TooDeep
returns-in-Err-TooDeep c =
    let sig = c.args.theory.now.signature in
    let table = c.args.rows.now in
    let ns = c.args.args.now in
    let o : Operator = operator_of c.in-Some.decl.now in
    let same : have_sorts (firsts_at table ns) o.args ≡ true
    = ap (have_sorts (firsts_at table ns)) (sym c.as_slice.ensures.value) ∙ sym c.are_args.ensures ∙ c.if-not-are_args.false in
    let term = is_taken sig table c.args.op ns o (sym c.in-Some.ensures) same in
    let told = rw c.in-Err-TooDeep.field-0-is at c.in-Err-TooDeep.ensures in
    let over = told term.0 term.1 in
    is_large sig table table (Application_line c.args.op ns) (App c.args.op o.result (trees_of term.0)) term.2 (Deep c.in-Err-TooDeep.field-0-0) over.1
