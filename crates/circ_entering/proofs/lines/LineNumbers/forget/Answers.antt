use Rattle.std.proofs.Common.{◌<◌, ◌∙◌, List, ℕ, length, slice_index_or, refl, ap, subst, arith}
use Rattle.std.proofs.lemmas.List.{drop_all}
use Rattle.circ_entering.specs.Lines.{HaveNumbers}
use Rattle.circ_entering.proofs.Renumbering.{place_all, put_length, all_next}
use Rattle.circ_entering.proofs.lines.LineNumbers.forget.Goals as goal

pub loop-line-init : goal.loop-line-init
loop-line-init c = record { numbers = λ nodes table h. h; none = λ e. refl; count = refl; late = refl }

pub index-requires : goal.index-requires
index-requires c =
    let at = c.loop-line in
    let within = place_all (λ n. n < length c.args.self.now.numbers.items) c.args.lines.now at.line-index c.requires c.loop-line-test.true in
    omega (arith, within, at.invariant.count)

pub loop-line-preserved : goal.loop-line-preserved
loop-line-preserved c =
    let at = c.loop-line in
    let lines = c.args.lines.now in
    let i = at.line-index in
    let ns = at.self.numbers.items in
    let x = c.index.result.now in
    let within = place_all (λ n. n < length c.args.self.now.numbers.items) lines i c.requires c.loop-line-test.true in
    let some : 0 < length ns = omega (arith, within, at.invariant.count) in
    record {
      numbers = λ nodes table h. all_next nodes table ns lines i x c.loop-line-test.true some c.index.ensures (at.invariant.numbers nodes table h);
      none = λ e. absurd (let d = ap length e in omega (arith, d, c.loop-line-test.true));
      count = put_length ns (slice_index_or lines i 0) x ∙ at.invariant.count;
      late = at.invariant.late;
    }

pub returns-clause-numbers : goal.returns-clause-numbers
returns-clause-numbers c nodes table h =
    let at = c.loop-line in
    let P : List ℕ → Type 0 = HaveNumbers nodes table at.self.numbers.items in
    subst P (drop_all at.line-index c.args.lines.now c.loop-line-test.false) (at.invariant.numbers nodes table h)

pub returns-clause-none : goal.returns-clause-none
returns-clause-none c e = c.loop-line.invariant.none e
