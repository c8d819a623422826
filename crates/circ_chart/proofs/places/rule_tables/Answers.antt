use Rattle.std.proofs.Common.{◌∷◌, [], length, ap, arith}
use Rattle.std.proofs.lemmas.List.{length-append}
use Rattle.circ_chart.proofs.Tables.{tables_step}
use Rattle.circ_chart.proofs.places.rule_tables.Goals as goal

pub loop-place-preserved : goal.loop-place-preserved
loop-place-preserved c =
    let at = c.loop-place in
    let t = c.in_ok-table_behind.field-0 in
    let items = c.in_ok-push.ensures.items in
    record {
      count = omega (arith, ap length items, length-append at.all.items (t ∷ []), at.invariant.count);
      tables = tables_step c.args.tokens.now c.args.symbols.now at.all.items c.push.new.self.items t at.place items at.invariant.count c.in_ok-table_behind.ensures at.invariant.tables;
    }
