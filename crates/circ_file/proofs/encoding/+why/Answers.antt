use Rattle.std.proofs.Common.{◌≡◌, ◌-◌, ◌++◌, ◌∙◌, ◌∷◌, ℕ, refl, ap, sym, subst, arith}
use Rattle.std.proofs.lemmas.Result.{on_ok_weaker}
use Rattle.circ_proof.specs.Plain.{WhyOf, plain_why, plain_whys}
use Rattle.circ_proof.proofs.Rows.{split_plain}
use Rattle.circ_replay.proofs.Reasons.{why_depth, whys_depth, depth_at}
use Rattle.circ_proof.specs.Proof.{IsWhyFor}
use Rattle.circ_line.specs.Line.{split_line}
use Rattle.circ_proof.specs.Counting.{why_count}
use Rattle.circ_grammar.specs.Grammar.{why_lines, whys_lines}
use Rattle.circ_grammar.specs.FirstBad.{file_text}
use Rattle.circ_file.proofs.Given.{count-whys}
use Rattle.circ_file.proofs.Written.{why_for, all_written}
use Rattle.circ_file.proofs.encoding.+why.Goals as goal

pub put_why-overflow_cast-count : goal.put_why-overflow_cast-count
put_why-overflow_cast-count t c =
    let e = ap plain_why c.in-Split.is ∙ split_plain c.in-Split.chain c.in-Split.term c.in-Split.whys in
    let P : WhyOf ℕ → Type 0 = IsWhyFor c.requires.0 c.requires.1 in
    let fits = subst P e c.requires.2 in
    omega (arith, fits.3, count-whys c.in-Split.whys.items)

pub put_why-put_whys-requires : goal.put_why-put_whys-requires
put_why-put_whys-requires t c =
    let e = ap plain_why c.in-Split.is ∙ split_plain c.in-Split.chain c.in-Split.term c.in-Split.whys in
    let P : WhyOf ℕ → Type 0 = IsWhyFor c.requires.0 c.requires.1 in
    let fits = subst P e c.requires.2 in
    let d = ap why_depth e in
    let same = ap (λ ws. whys_depth (plain_whys ws)) c.as_slice.ensures.value in
    (omega arith, rw c.as_slice.ensures.value (c.requires.0, c.requires.1 - 1, fits.4))

pub put_why-returns-in_ok-put_made_line-in-Split : goal.put_why-returns-in_ok-put_made_line-in-Split
put_why-returns-in_ok-put_made_line-in-Split t c =
    let e = ap plain_why c.in-Split.is ∙ split_plain c.in-Split.chain c.in-Split.term c.in-Split.whys in
    let whys = plain_whys c.in-Split.whys.items in
    let counted : c.len.result ≡ why_count whys = omega (arith, count-whys c.in-Split.whys.items) in
    on_ok_weaker c.put_whys.result
    (λ w later.
    w later
    ∙ ap (λ ws. c.put_made_line.new.out.items ++ file_text (whys_lines (plain_whys ws) later)) c.as_slice.ensures.value
    ∙ c.in_ok-put_made_line-in-Split.ensures (whys_lines whys later)
    ∙ ap (λ n. c.put_chain-in-Split.new.out.items ++ file_text (split_line c.in-Split.term n ∷ whys_lines whys later)) counted
    ∙ c.in_ok-put_chain-in-Split.ensures (split_line c.in-Split.term (why_count whys) ∷ whys_lines whys later)
    ∙ ap (λ v. c.args.out.now.items ++ file_text (why_lines v later)) (sym e))
    c.put_whys.ensures

pub put_whys-put_why-requires : goal.put_whys-put_why-requires
put_whys-put_why-requires t c =
    let at = c.loop-why in
    let d = depth_at c.args.whys.now at.why-index c.why-item.result c.loop-why-test.true c.why-item.is in (
      omega (arith, d),
      (c.requires.0, c.requires.1, why_for c.requires.0 c.requires.1 c.args.whys.now at.why-index c.why-item.result c.requires.2 c.loop-why-test.true c.why-item.is),
    )

pub put_whys-returns : goal.put_whys-returns
put_whys-returns t c =
    let at = c.loop-why in
    all_written (λ xs. whys_lines (plain_whys xs)) (λ w. why_lines (plain_why w)) c.args.out.now.items c.args.whys.now at.why-index (λ later. refl) at.out.items
    c.loop-why-test.false at.invariant
