use Rattle.std.proofs.Common.{map, ap, sym, ◌∙◌}
use Rattle.circ_mixfix.specs.NamesSeen.{named_of}
use Rattle.circ_mixfix.specs.Named.{place_from}
use Rattle.circ_mixfix.specs.declared.variable_names.VariableName.{VariableName}
use Rattle.circ_mixfix.proofs.Naming.{place_seen}
use Rattle.circ_mixfix.proofs.NamesKept.{inserted, place_is}
use Rattle.circ_mixfix.proofs.variable_names.number_of.Goals as goal

pub returns-clause-seen : goal.returns-clause-seen
returns-clause-seen c =
    let k : VariableName = record { name = c.args.name; sort = c.args.sort } in
    ap (map named_of) c.in_ok-place.ensures.keys ∙ inserted c.args.seen.now.keys k

pub returns-clause-number : goal.returns-clause-number
returns-clause-number c =
    let k : VariableName = record { name = c.args.name; sort = c.args.sort } in
    let ks = c.args.seen.now.keys in
    let n = c.args.name.now in
    let s = c.args.sort in
    c.in_ok-place.ensures.index ∙ place_is ks k ∙ sym (place_seen (map named_of ks) n s)
    ∙ ap (λ vs. place_from 0 vs n s) (sym (ap (map named_of) c.in_ok-place.ensures.keys ∙ inserted ks k))
