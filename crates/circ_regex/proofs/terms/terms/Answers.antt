use Rattle.std.proofs.Common.{◌≡◌, ◌<◌, ◌+◌, ◌-◌, ℕ, length, drop, get_or, ◌∷◌, arith, ap, ◌∙◌}
use Rattle.std.proofs.lemmas.List.{drop_more}
use Rattle.std.specs.Option.{option_and_then}
use Rattle.circ_regex.specs.Making.{coded_terms, put_byte}
use Rattle.circ_regex.proofs.terms.terms.Goals as goal

pub loop-at-preserved : goal.loop-at-preserved
loop-at-preserved c =
    let rows = c.args.rows.now in
    let text = c.args.text.now in
    let i : ℕ = c.loop-at.at - 1 in
    let within : i < length text = omega (arith, c.loop-at.invariant.inside, c.loop-at-test.true) in
    let next : i + 1 ≡ c.loop-at.at = omega (arith, c.loop-at-test.true) in
    record {
      inside = omega (arith, c.loop-at.invariant.inside);
      gives = ap (coded_terms rows) (drop_more text i 0 within ∙ ap (λ k. get_or text i 0 ∷ drop k text) next)
          ∙ ap (λ o. option_and_then (put_byte rows (get_or text i 0)) o) c.loop-at.invariant.gives
          ∙ c.in_ok-put_byte.ensures;
    }
