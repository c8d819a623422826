use Rattle.std.proofs.Common.{length}
use Rattle.std.proofs.lemmas.Option.{slice_get-get_or}
use Rattle.circ_spelling.proofs.Marked.{no_token}
use Rattle.circ_chart.proofs.Tops.{read_empty, read_step}
use Rattle.circ_chart.proofs.readings.ask_sorts.Goals as goal

pub returns-then-reader-eq0 : goal.returns-then-reader-eq0
returns-then-reader-eq0 c =
    let a = c.args in
    read_empty a.reader.now.grammar.now a.reader.now.tokens.now a.sorts.now c.new-out.result.items (length a.sorts.now) c.new-out.ensures.items
    (λ b s t h. no_token a.reader.now.grammar.now b s a.reader.now.tokens.now t c.requires.ready.words c.if-reader-eq0.true h)

pub loop-sort-preserved : goal.loop-sort-preserved
loop-sort-preserved c =
    let a = c.args in
    record {
      read = read_step a.reader.now.grammar.now a.reader.now.tokens.now a.sorts.now c.loop-sort.sort-index _ c.in_ok-few.few c.loop-sort.out.items c.push_few.new.out.items
          (slice_get-get_or a.sorts.now c.loop-sort.sort-index 0 c.loop-sort-test.true) c.in_ok-few.ensures.terms.enough c.in_ok-push_few.ensures c.loop-sort.invariant.read;
      ready = c.in_ok-few.ensures.ready;
    }
