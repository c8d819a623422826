use Rattle.std.proofs.Common.{ap, sym, ◌∙◌, map, arith}
use Rattle.circ_proof.specs.Plain.{chains_of, plain_chain}
use Rattle.circ_rewrite.proofs.TraceLinks.{chain_by, chains_are, all_done}
use Rattle.circ_join.proofs.uses.chains_of.Goals as goal

pub returns : goal.returns
returns c =
    ap chains_of (all_done (λ _. 0) chain_by (map plain_chain c.loop-pass.chains.items) c.loop-pass.pass-iterator c.args.passes.items c.in-None.ensures.steps.0 (record { parts = c.loop-pass.invariant; least = omega arith }))
    ∙ sym (chains_are c.args.passes.items)
